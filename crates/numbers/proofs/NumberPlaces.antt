-- The parts of numbers at a place of the text, as the code finds their ends.
use Rattle.std.specs.Prelude.{Ok, Err}
use mathlib.Core.Path.{◌≡◌, refl, ap, sym, ◌∙◌}
use mathlib.Core.List.{List}
use mathlib.Core.Bool.{Bool, true, false, cond, ◌||◌, and-false}
use Prim.Native.Nat.{ℕ, ◌+◌, ◌≤◌}
use native.Mathlib.Nat.{add-zero}
use native.Mathlib.Omega.{arith}
use borrow.Author.Tests.{eq-eqb, ne_eqb}
use lib.Dec.{eqb}
use lib.ListN.{length, get_or, drop, drop_of_length-le, get_or-eq_default}
use lib.Seq.{get_or-drop, drop-drop}
use Rattle.std.specs.Char.{is_ascii_hexdigit}
use Rattle.text.specs.Quoted.{byte}
use Rattle.text.specs.Bytes.{between, digit, letter, name_byte}
use Rattle.text.specs.Runs.{run}
use Rattle.answers.specs.declared.faults.Fault.{Fault}
use Rattle.numbers.specs.Numbers.{hex_digit, exponent_indicator, plus_or_minus, hex_indicator, run_behind, hex_length, integer_length, fraction_length, exponent_length, decimal_length, number_length, number_from}

-- a hexadecimal digit, as the library tells one
pub hex_known : (b : ℕ) → is_ascii_hexdigit b ≡ hex_digit b
unfolding hex_digit digit
hex_known b = swap (between (byte "0") (byte "9") b) (between (byte "A") (byte "F") b) (between (byte "a") (byte "f") b)
  where
    swap : (d u l : Bool) → ((d || u) || l) ≡ (d || l || u)
    swap true u l = refl
    swap false true true = refl
    swap false true false = refl
    swap false false true = refl
    swap false false false = refl

shifted : (t : Bool) (i n r : ℕ) → cond t i (i + n + r) ≡ i + cond t 0 (n + r)
shifted true i n r = omega arith
shifted false i n r = omega arith

module _ (s : List ℕ) (i : ℕ) where
  byte_at : get_or (drop i s) 0 0 ≡ get_or s i 0
  byte_at = rw (get_or-drop i s 0 0, add-zero)

  -- a run behind n bytes, by its end
  module _ (class : ℕ → Bool) (n from end : ℕ) (e : from ≡ i + n) (f : end ≡ from + run class (drop from s)) where
    behind_none : end ≡ from → i + run_behind n class (drop n (drop i s)) ≡ i
    behind_none g =
        let z : run class (drop from s) ≡ 0 = omega arith in
        rw (drop-drop n i s, ← e, z) (omega arith)

    behind_some : (end ≡ from → ⊥) → i + run_behind n class (drop n (drop i s)) ≡ end
    behind_some g =
        let z : run class (drop from s) ≡ 0 → ⊥ = λ y. g (omega arith) in
        rw (drop-drop n i s, ← e, ne_eqb _ _ z) (omega arith)

  -- a hexadecimal number
  pub hex_other : (get_or s i 0 ≡ byte "0" → ⊥) → i + hex_length (drop i s) ≡ i
  unfolding hex_length
  hex_other n = rw (byte_at, ne_eqb _ _ n) (omega arith)

  pub hex_no : hex_indicator (get_or s (i + 1) 0) ≡ false → i + hex_length (drop i s) ≡ i
  unfolding hex_length
  hex_no n = rw (get_or-drop i s 1 0, n, and-false (eqb (get_or (drop i s) 0 0) (byte "0"))) (omega arith)

  pub hex_short : length s ≤ i + 1 → i + hex_length (drop i s) ≡ i
  hex_short h = hex_no (rw (get_or-eq_default s 0 h))

  module _ (zero : get_or s i 0 ≡ byte "0") (x : hex_indicator (get_or s (i + 1) 0) ≡ true) (end : ℕ) (f : end ≡ i + 2 + run hex_digit (drop (i + 2) s)) where
    pub hex_none : end ≡ i + 2 → i + hex_length (drop i s) ≡ i
    unfolding hex_length
    hex_none g = rw (byte_at, eq-eqb _ _ zero, get_or-drop i s 1 0, x) (behind_none hex_digit 2 (i + 2) end refl f g)

    pub hex_some : (end ≡ i + 2 → ⊥) → i + hex_length (drop i s) ≡ end
    unfolding hex_length
    hex_some g = rw (byte_at, eq-eqb _ _ zero, get_or-drop i s 1 0, x) (behind_some hex_digit 2 (i + 2) end refl f g)

  -- the whole part
  pub integer_zero : get_or s i 0 ≡ byte "0" → i + integer_length (drop i s) ≡ i + 1
  unfolding integer_length
  integer_zero e = rw (byte_at, eq-eqb _ _ e)

  pub integer_digits : (get_or s i 0 ≡ byte "0" → ⊥) → i + integer_length (drop i s) ≡ i + run digit (drop i s)
  unfolding integer_length
  integer_digits n = rw (byte_at, ne_eqb _ _ n)

  -- the fraction
  pub fraction_no : (get_or s i 0 ≡ byte "." → ⊥) → i + fraction_length (drop i s) ≡ i
  unfolding fraction_length
  fraction_no n = rw (byte_at, ne_eqb _ _ n) (omega arith)

  pub fraction_past : length s ≤ i → i + fraction_length (drop i s) ≡ i
  fraction_past h = fraction_no (λ e. let z : 0 ≡ byte "." = sym (get_or-eq_default s 0 h) ∙ e in omega arith)

  pub fraction_dot : get_or s i 0 ≡ byte "." → i + fraction_length (drop i s) ≡ i + 1 + run digit (drop (i + 1) s)
  unfolding fraction_length
  fraction_dot e = rw (byte_at, eq-eqb _ _ e, drop-drop 1 i s) (omega arith)

  -- the exponent
  pub exponent_no : exponent_indicator (get_or s i 0) ≡ false → i + exponent_length (drop i s) ≡ i
  unfolding exponent_length
  exponent_no n = rw (byte_at, n) (omega arith)

  pub exponent_past : length s ≤ i → i + exponent_length (drop i s) ≡ i
  exponent_past h = exponent_no (rw (get_or-eq_default s 0 h))

  module _ (e : exponent_indicator (get_or s i 0) ≡ true) where
    pub exponent_signed : plus_or_minus (get_or s (i + 1) 0) ≡ true → (end : ℕ)
        → end ≡ cond (eqb (run digit (drop (i + 2) s)) 0) i (i + 2 + run digit (drop (i + 2) s)) → end ≡ i + exponent_length (drop i s)
    unfolding exponent_length
    exponent_signed p end f = rw (byte_at, e, get_or-drop i s 1 0, p, drop-drop 2 i s) (f ∙ shifted (eqb (run digit (drop (i + 2) s)) 0) i 2 (run digit (drop (i + 2) s)))

    pub exponent_plain : plus_or_minus (get_or s (i + 1) 0) ≡ false → (end : ℕ)
        → end ≡ cond (eqb (run digit (drop (i + 1) s)) 0) i (i + 1 + run digit (drop (i + 1) s)) → end ≡ i + exponent_length (drop i s)
    unfolding exponent_length
    exponent_plain p end f = rw (byte_at, e, get_or-drop i s 1 0, p, drop-drop 1 i s) (f ∙ shifted (eqb (run digit (drop (i + 1) s)) 0) i 1 (run digit (drop (i + 1) s)))

  pub exponent_short : length s ≤ i + 1 → i + exponent_length (drop i s) ≡ i
  unfolding exponent_length run
  exponent_short h =
      rw (get_or-drop i s 1 0, get_or-eq_default s 0 {n = i + 1} h, drop-drop 1 i s, drop_of_length-le s {i = i + 1} h)
      (none (exponent_indicator (get_or (drop i s) 0 0)))
    where
      none : (t : Bool) → i + cond t 0 0 ≡ i
      none true = omega arith
      none false = omega arith

  pub decimal_end : (whole fraction end : ℕ) → whole ≡ i + integer_length (drop i s) → fraction ≡ whole + fraction_length (drop whole s)
      → end ≡ fraction + exponent_length (drop fraction s) → end ≡ i + decimal_length (drop i s)
  unfolding decimal_length
  decimal_end whole fraction end e f g =
      let n = integer_length (drop i s) in
      let m = fraction_length (drop (i + n) s) in
      let w : fraction ≡ i + n + m = f ∙ rw e in
      let k : i + (n + m) ≡ i + n + m = omega arith in
      rw (drop-drop n i s, drop-drop (n + m) i s, k) (g ∙ rw w (omega arith))

  -- the number, by the end of a hexadecimal one
  module _ (end : ℕ) (e : end ≡ i + hex_length (drop i s)) where
    pub number_hex : (end ≡ i → ⊥) → end ≡ i + number_length (drop i s)
    unfolding number_length
    number_hex n = rw (ne_eqb (hex_length (drop i s)) 0 (λ z. n (omega arith))) e

    pub number_decimal : end ≡ i → i + number_length (drop i s) ≡ i + decimal_length (drop i s)
    unfolding number_length
    number_decimal n = let z : hex_length (drop i s) ≡ 0 = omega arith in rw z

  -- past the text's end there is nothing to cut
  pub number_past : length s ≤ i → number_from i (drop i s) ≡ Ok i
  unfolding number_from number_length hex_length decimal_length integer_length fraction_length exponent_length run name_byte letter digit
  number_past h = rw (drop_of_length-le s h) (ap Ok (omega arith))

  module _ (end : ℕ) (e : end ≡ i + number_length (drop i s)) where
    -- the byte that follows the number
    follows : get_or (drop i s) (number_length (drop i s)) 0 ≡ get_or s end 0
    follows = get_or-drop i s (number_length (drop i s)) 0 ∙ ap (λ (k : ℕ). get_or s k 0) (omega arith)

    pub number_ends : name_byte (get_or s end 0) ≡ false → number_from i (drop i s) ≡ Ok end
    unfolding number_from
    number_ends f = rw (follows, f) (rw e)

    pub number_last : length s ≤ end → number_from i (drop i s) ≡ Ok end
    unfolding name_byte letter digit
    number_last h = number_ends (rw (get_or-eq_default s 0 h))

    pub number_named : name_byte (get_or s end 0) ≡ true → number_from i (drop i s) ≡ Err (Fault.BadNumber i)
    unfolding number_from
    number_named f = rw (follows, f)
