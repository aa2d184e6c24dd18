-- Laws of the limits of a reading: they change nothing that fits them, and of texts that are read without limits they refuse only those that pass them.
use mathlib.Core.Path.{◌≡◌, refl, sym, ◌∙◌}
use mathlib.Core.Logic.{◌⊎◌, inl, inr}
use mathlib.Core.List.{List}
use Prim.Native.Nat.{ℕ, ◌≤◌, ◌<◌}
use native.Mathlib.Omega.{arith}
use Rattle.rule.specs.Trees.{Trees, count, deepest}
use Rattle.prefix.specs.Reading.{Limits, deep, trees_full, Reading, accepted, refused, reading, unlimited_reading}
use Rattle.prefix.proofs.Sizes.{accepted_fits}
use Rattle.prefix.specs.Limits.{NoLimit, Within}
use Rattle.prefix.proofs.Unlimited.{Under, same, full, deeper, reading_under}

-- a refusal is no acceptance
not_accepted : {A : Type 0} {number place : ℕ} {trees : Trees} → refused number place ≡ accepted trees → A
not_accepted e = absurd (let z : ◌≡◌ {A = ℕ} 0 1 = cc in omega arith)

module _ (bytes : List ℕ) (limits : Limits) where
  -- What is accepted is accepted without limits.
  pub accepted_unlimited : (trees : Trees) → reading bytes limits ≡ accepted trees → unlimited_reading bytes ≡ accepted trees
  accepted_unlimited trees = go (reading_under bytes limits)
    where
      go : {r free : Reading} → Under limits r free → r ≡ accepted trees → free ≡ accepted trees
      go same a = a
      go (full h) a = not_accepted a
      go (deeper h) a = not_accepted a

  -- What is accepted without limits is accepted if it fits.
  unlimited_accepted : (trees : Trees) → unlimited_reading bytes ≡ accepted trees → count trees ≤ limits.room → deepest trees ≤ limits.groups
      → reading bytes limits ≡ accepted trees
  unlimited_accepted trees a room groups = go (reading_under bytes limits) a
    where
      go : {r free : Reading} → Under limits r free → free ≡ accepted trees → r ≡ accepted trees
      go same a = a
      go (full h) a = absurd (let more : limits.room < count trees = rw a at h in omega arith)
      go (deeper h) a = absurd (let more : limits.groups < deepest trees = rw a at h in omega arith)

  -- A refusal for no limit is the one without limits.
  pub refusal_unlimited : (number place : ℕ) → reading bytes limits ≡ refused number place → NoLimit number → unlimited_reading bytes ≡ refused number place
  refusal_unlimited number place e u = go (reading_under bytes limits) e
    where
      go : {r free : Reading} → Under limits r free → r ≡ refused number place → free ≡ refused number place
      go same e = e
      go (full h) e = absurd (u.not_full (cc))
      go (deeper h) e = absurd (u.not_deep (cc))

  -- What is refused without limits is refused so, or for a limit.
  pub unlimited_refusal : (number place : ℕ) → unlimited_reading bytes ≡ refused number place
      → (reading bytes limits ≡ refused number place) ⊎ ((at : ℕ) × (reading bytes limits ≡ refused deep at)) ⊎ ((at : ℕ) × (reading bytes limits ≡ refused trees_full at))
  unlimited_refusal number place e = go (reading_under bytes limits) e
    where
      go : {r free : Reading} → Under limits r free → free ≡ refused number place
          → (r ≡ refused number place) ⊎ ((at : ℕ) × (r ≡ refused deep at)) ⊎ ((at : ℕ) × (r ≡ refused trees_full at))
      go same e = inl e
      go (full {place = at} h) e = inr (inr (at, refl))
      go (deeper {place = at} h) e = inr (inl (at, refl))

module _ (bytes : List ℕ) (limits other : Limits) (trees : Trees) (a : reading bytes other ≡ accepted trees) where
  -- What is accepted under other limits is accepted if it fits,
  pub fits_accepted : count trees ≤ limits.room → deepest trees ≤ limits.groups → reading bytes limits ≡ accepted trees
  fits_accepted = unlimited_accepted bytes limits trees (accepted_unlimited bytes other trees a)

  -- and is refused for a limit only if it passes it.
  pub full_means_more : (place : ℕ) → reading bytes limits ≡ refused trees_full place → limits.room < count trees
  full_means_more place e = go (reading_under bytes limits) e (accepted_unlimited bytes other trees a)
    where
      go : {r free : Reading} → Under limits r free → r ≡ refused trees_full place → free ≡ accepted trees → limits.room < count trees
      go same e a = not_accepted (sym e ∙ a)
      go (full h) e a = rw a at h
      go (deeper h) e a = absurd (let z : ◌≡◌ {A = ℕ} deep trees_full = cc in omega arith)

  pub deep_means_deeper : (place : ℕ) → reading bytes limits ≡ refused deep place → limits.groups < deepest trees
  deep_means_deeper place e = go (reading_under bytes limits) e (accepted_unlimited bytes other trees a)
    where
      go : {r free : Reading} → Under limits r free → r ≡ refused deep place → free ≡ accepted trees → limits.groups < deepest trees
      go same e a = not_accepted (sym e ∙ a)
      go (full h) e a = absurd (let z : ◌≡◌ {A = ℕ} deep trees_full = cc in omega arith)
      go (deeper h) e a = rw a at h

-- More room, or more groups, changes no accepted reading.
pub reading_within : (bytes : List ℕ) (small large : Limits) → Within small large → (trees : Trees) → reading bytes small ≡ accepted trees → reading bytes large ≡ accepted trees
reading_within bytes small large w trees a =
    let f = accepted_fits bytes small trees a in
    fits_accepted bytes large small trees a (omega arith) (omega arith)
