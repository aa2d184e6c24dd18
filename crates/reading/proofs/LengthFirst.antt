-- "Length comes first": laws of a reading that is made only where the text is not too long, whatever its limits.
use mathlib.Core.Path.{◌≡◌, sym}
use mathlib.Core.List.{List}
use mathlib.Core.Bool.{Bool, true, false, cond}
use Prim.Native.Nat.{ℕ, ◌≤◌, ◌<◌}
use native.Mathlib.Omega.{arith}
use borrow.Author.Tests.{le-leb}
use lib.Dec.{leb}
use lib.ListN.{length}
use Rattle.rule.specs.Trees.{Trees, count, deepest}
use Rattle.prefix.specs.Reading.{Limits, Reading, accepted, refused, reading, unlimited, unlimited_reading, deep, trees_full}
use Rattle.prefix.proofs.LimitLaws.{fits_accepted, full_means_more, deep_means_deeper}
use Rattle.reading.specs.Read.{long_text, most_bytes}

module _ (text : List ℕ) (limits : Limits) where
  abbrev pub length_first : Reading
  length_first = cond (leb (length text) most_bytes) (reading text limits) (refused long_text most_bytes)

  -- what is answered is the reading, if it is not the answer for a long text
  not_long : (r : Reading) → (r ≡ refused long_text most_bytes → ⊥) → length_first ≡ r → reading text limits ≡ r
  not_long r n = go (leb (length text) most_bytes)
    where
      go : (b : Bool) → cond b (reading text limits) (refused long_text most_bytes) ≡ r → reading text limits ≡ r
      go true e = e
      go false e = absurd (n (sym e))

  pub first_accepted : (trees : Trees) → length_first ≡ accepted trees → reading text limits ≡ accepted trees
  first_accepted trees = not_long (accepted trees) (λ e. let z : ◌≡◌ {A = ℕ} 0 1 = cc in omega arith)

  module _ (trees : Trees) (a : unlimited_reading text ≡ accepted trees) where
    pub first_fits : length text ≤ most_bytes → count trees ≤ limits.room → deepest trees ≤ limits.groups → length_first ≡ accepted trees
    first_fits short room groups =
        rw (le-leb (length text) most_bytes short) (fits_accepted text limits (unlimited text) trees a room groups)

    pub first_full : (place : ℕ) → length_first ≡ refused trees_full place → limits.room < count trees
    first_full place e =
        full_means_more text limits (unlimited text) trees a place
        (not_long (refused trees_full place) (λ e. let z : ◌≡◌ {A = ℕ} trees_full long_text = cc in omega arith) e)

    pub first_deep : (place : ℕ) → length_first ≡ refused deep place → limits.groups < deepest trees
    first_deep place e =
        deep_means_deeper text limits (unlimited text) trees a place
        (not_long (refused deep place) (λ e. let z : ◌≡◌ {A = ℕ} deep long_text = cc in omega arith) e)
