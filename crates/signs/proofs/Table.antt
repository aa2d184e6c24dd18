-- The rows of the table, and one row of the scan.
use mathlib.Core.Path.{◌≡◌, refl, ap, ◌∙◌}
use mathlib.Core.List.{List, [], ◌∷◌, map}
use mathlib.Core.Bool.{true, false}
use Prim.Native.Nat.{ℕ, zero, suc, ◌+◌, ◌-◌, ◌<◌, ◌≤◌}
use native.Mathlib.Omega.{arith}
use borrow.Author.Tests.{leb-true}
use lib.Dec.{leb}
use lib.ListN.{length, take, drop, get_or, drop_of_length-le}
use lib.Seq.{drop-cons, get_or-drop}
use Rattle.std.specs.Prelude.{None}
use Rattle.std.proofs.lemmas.List.{take_rest, length-take, length-drop}
use Rattle.text.proofs.Range.{agree}
use Rattle.vocabulary.specs.Vocabulary.{row_at}
use Rattle.signs.specs.Signs.{starts_with, found}
use Rattle.signs.specs.Machinery.Rows.{sign, order, row, table, first_of}
use Rattle.signs.specs.declared.Entry.{Entry}

pub table_length : (signs : List Entry) → signs ≡ table → length signs ≡ 48
unfolding table
table_length signs whole = rw whole

-- four bytes have room for a sign
first_four : (s : List ℕ) → length s ≤ 4 → take (length s) (get_or s 0 0 ∷ get_or s 1 0 ∷ get_or s 2 0 ∷ get_or s 3 0 ∷ []) ≡ s
first_four [] h = refl
first_four (a ∷ []) h = refl
first_four (a ∷ b ∷ []) h = refl
first_four (a ∷ b ∷ c ∷ []) h = refl
first_four (a ∷ b ∷ c ∷ d ∷ []) h = refl
first_four (a ∷ b ∷ c ∷ d ∷ e ∷ s) h = absurd (omega arith)

mapped : (numbers : List ℕ) (k : ℕ) (d : Entry) → k < length numbers → get_or (map row numbers) k d ≡ row (get_or numbers k 0)
mapped [] k d h = absurd (omega arith)
mapped (n ∷ numbers) zero d h = refl
mapped (n ∷ numbers) (suc k) d h = mapped numbers k d (omega arith)

module _ (k : ℕ) (h : k < 48) where
  pub short : length (sign (get_or order k 0)) ≤ 4
  unfolding row_at
  short = leb-true (length (sign (get_or order k 0))) 4 (agree (λ j. leb (length (sign (get_or order j 0))) 4) (λ j. true) 0 47 k tt (omega arith) (omega arith))

  pub step : (s : List ℕ) → first_of s (drop k order) ≡ first_of s (get_or order k 0 ∷ drop (suc k) order)
  step s = ap (first_of s) (drop-cons order k 0 h)

-- the row that a turn of the scan is at
module _ (signs : List Entry) (whole : signs ≡ table) (from i : ℕ) (h : i < length (take (length signs - from) (drop from signs))) where
  abbrev item : Entry
  item = get_or (take (length signs - from) (drop from signs)) i (record { bytes = []; len = 0; number = 0 })

  here : from + i < 48
  here = omega (arith, table_length signs whole, length-take (length signs - from) (drop from signs), length-drop from signs)

  own : item ≡ row (get_or order (from + i) 0)
  unfolding table
  own =
      rw (take_rest signs from)
      (get_or-drop from signs i (record { bytes = []; len = 0; number = 0 }) ∙ rw whole (mapped order (from + i) (record { bytes = []; len = 0; number = 0 }) here))

  pub row_within : item.len ≤ 4
  row_within = rw own (short (from + i) here)

  module _ (len number : ℕ) (long : len ≡ item.len) (numbered : number ≡ item.number) (s : List ℕ) where
    lent : take len item.bytes ≡ sign (get_or order (from + i) 0)
    lent = rw (long, own) (first_four (sign (get_or order (from + i) 0)) (short (from + i) here))

    pub scan_found : starts_with (take len item.bytes) s ≡ true → first_of s (drop (from + i) order) ≡ found number len
    unfolding first_of
    scan_found e = step (from + i) here s ∙ rw (rw lent at e, long, numbered, own)

    pub scan_other : starts_with (take len item.bytes) s ≡ false → first_of s (drop (from + i) order) ≡ first_of s (drop (from + (i + 1)) order)
    unfolding first_of
    scan_other e =
        let next : from + (i + 1) ≡ suc (from + i) = omega arith in
        step (from + i) here s ∙ rw (rw lent at e, next)

pub scan_end : (s : List ℕ) (k : ℕ) → 48 ≤ k → first_of s (drop k order) ≡ None
unfolding first_of
scan_end s k h = rw (drop_of_length-le order h)
