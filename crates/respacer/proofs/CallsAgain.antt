-- What the calls make of a respaced text.
use mathlib.Core.Path.{◌≡◌, refl, sym, ap, subst, ◌∙◌}
use mathlib.Core.List.{List, [], ◌∷◌, ◌++◌}
use mathlib.Core.Bool.{Bool, true, false, cond}
use Prim.Native.Nat.{ℕ, ◌≤◌}
use native.Mathlib.Omega.{arith}
use borrow.Author.Tests.{le-leb}
use lib.Dec.{leb}
use lib.ListN.{length}
use Rattle.rule.specs.Trees.{Trees}
use Rattle.prefix.specs.Reading.{Limits, Reading, accepted, refused, reading}
use Rattle.reading.specs.Read.{long_text, most_bytes, read_limits, reading_for}
use Rattle.spacing.specs.Respaced.{line_feed, respaced}
use Rattle.respacer.specs.Respace.{respace_limits, whole_reading, output_full, written, denied, fitted, respacing_for}
use Rattle.respacer.specs.Alike.{Kept}
use Rattle.respacer.proofs.AlikeLevels.{alike_written}
use Rattle.respacer.proofs.ReadAgain.{read_again}

-- a reading, where the text is not too long
abbrev read_with : Limits → List ℕ → Reading
read_with limits text = cond (leb (length text) most_bytes) (reading text limits) (refused long_text most_bytes)

accepted_reading : (long : Bool) {r : Reading} {trees : Trees} → cond long r (refused long_text most_bytes) ≡ accepted trees → r ≡ accepted trees
accepted_reading true e = e
accepted_reading false e = absurd (let z : ◌≡◌ {A = ℕ} 0 1 = cc in omega arith)

module _ (text : List ℕ) (trees : Trees) (short : length (respaced text trees) ≤ most_bytes) where
  kept_with : (limits : Limits) → read_with limits text ≡ accepted trees → Kept text trees (read_with limits (respaced text trees))
  kept_with limits e =
      rw (le-leb (length (respaced text trees)) most_bytes short)
      (read_again text limits trees (accepted_reading (leb (length text) most_bytes) e))

  pub kept_by_read : (cells : ℕ) → reading_for text cells ≡ accepted trees → Kept text trees (reading_for (respaced text trees) cells)
  unfolding reading_for
  kept_by_read cells e = kept_with (read_limits cells) e

  pub kept_by_respace : whole_reading text ≡ accepted trees → Kept text trees (whole_reading (respaced text trees))
  unfolding whole_reading
  kept_by_respace e = kept_with respace_limits e

-- what is written again
pub written_again : (text : List ℕ) (trees : Trees) {answer : Reading} (k : Kept text trees answer) → respaced (respaced text trees) k.kept ≡ respaced text trees
written_again text trees k = ap (λ written. written ++ (line_feed ∷ [])) (sym (alike_written [] k.alike))

fitted_again : (text : List ℕ) (trees : Trees) → whole_reading text ≡ accepted trees → length (respaced text trees) ≤ most_bytes
    → (room : ℕ) → length (respaced text trees) ≤ room → respacing_for (respaced text trees) room ≡ written (respaced text trees)
fitted_again text trees e short room fits =
    let k = kept_by_respace text trees short e in
    let same = written_again text trees k in
    ap (fitted (respaced text trees) room) k.reads ∙ rw (same, le-leb (length (respaced text trees)) room fits)

-- what `respace` wrote is the respaced text of the trees that it read
pub record Wrote (text bytes : List ℕ) : Type 0 where
  pub trees : Trees
  pub reads : whole_reading text ≡ accepted trees
  pub same : respaced text trees ≡ bytes

pub wrote : (text : List ℕ) (room : ℕ) (bytes : List ℕ) → respacing_for text room ≡ written bytes → Wrote text bytes
wrote text room bytes e = read (whole_reading text) refl e
  where
    write : (trees : Trees) → whole_reading text ≡ accepted trees → (enough : Bool)
        → cond enough (written (respaced text trees)) (denied output_full (length text)) ≡ written bytes → Wrote text bytes
    write trees r true w = record { trees = trees; reads = r; same = cc }
    write trees r false w = absurd (let z : ◌≡◌ {A = ℕ} 0 1 = cc in omega arith)

    read : (r : Reading) → whole_reading text ≡ r → fitted text room r ≡ written bytes → Wrote text bytes
    read (accepted trees) r w = write trees r (leb (length (respaced text trees)) room) w
    read (refused number place) r w = absurd (let z : ◌≡◌ {A = ℕ} 0 1 = cc in omega arith)

pub respacing_again : (text : List ℕ) (room : ℕ) (bytes : List ℕ) → respacing_for text room ≡ written bytes → length bytes ≤ most_bytes
    → (other : ℕ) → length bytes ≤ other → respacing_for bytes other ≡ written bytes
respacing_again text room bytes e short other fits =
    let w = wrote text room bytes e in
    subst (λ output. length output ≤ most_bytes → length output ≤ other → respacing_for output other ≡ written output) w.same
    (λ small enough. fitted_again text w.trees w.reads small other enough) short fits
