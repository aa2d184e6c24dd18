-- Laws of the element at a place: one for each kind of first byte.
use Rattle.std.specs.Prelude.{Ok, Err, None, Option, Some}
use mathlib.Core.Path.{◌≡◌, ap, ◌∙◌}
use mathlib.Core.List.{List}
use mathlib.Core.Bool.{Bool, true, false, ◌&&◌, ◌||◌}
use Prim.Native.Nat.{ℕ, ◌+◌, ◌-◌, ◌<◌, ◌≤◌}
use native.Mathlib.Nat.{add-zero}
use native.Mathlib.Omega.{arith}
use lib.Dec.{eqb}
use lib.ListN.{length, get_or, take, drop, drop_of_length-le}
use lib.Seq.{get_or-drop}
use Rattle.text.specs.Quoted.{byte}
use Rattle.text.specs.Bytes.{letter, digit, name_byte}
use Rattle.text.specs.Runs.{run}
use Rattle.text.proofs.Lists.{drop_at}
use Rattle.words.specs.Words.{word_number, taken}
use Rattle.signs.specs.Signs.{longest_sign}
use Rattle.signs.specs.declared.Sign.{Sign}
use Rattle.answers.specs.declared.faults.Fault.{Fault}
use Rattle.numbers.specs.Numbers.{number_from}
use Rattle.literals.specs.Strings.{quote, string_rest}
use Rattle.literals.specs.Patterns.{pattern_rest}
use Rattle.elements.specs.Elements.{
  element,
  literal_element,
  named,
  word_or_name,
  delimiter,
  sign_or_stray,
  element_from,
  name_kind,
  word_kind,
  number_kind,
  string_kind,
  pattern_kind,
  sign_kind,
  delimiter_kind,
}
use Rattle.elements.specs.declared.Stated.{Stated}

-- a name or word whose end and number are known
module _ (asName newline : Bool) (first end word : ℕ) (s : List ℕ) (e : end ≡ first + run name_byte s) (w : word ≡ word_number (take (end - first) s)) where
  known : named asName newline first s ≡ word_or_name asName word newline first end
  unfolding named
  known =
      let n : end - first ≡ run name_byte s = omega arith in
      rw (w, n, e)

  pub named_name : (eqb word 0 || asName) ≡ true → named asName newline first s ≡ element name_kind word newline first end
  named_name z = known ∙ rw z

  pub named_word : (eqb word 0 || asName) ≡ false → taken word ≡ true → named asName newline first s ≡ element word_kind word newline first end
  named_word z t = known ∙ rw (z, t)

  pub named_barred : (eqb word 0 || asName) ≡ false → taken word ≡ false → named asName newline first s ≡ Err (Fault.BarredWord first)
  named_barred z t = known ∙ rw (z, t)

-- a sign that is known
module _ (newline : Bool) (first : ℕ) (l : Option Sign) where
  pub sign_stray : l ≡ None → sign_or_stray newline first l ≡ Err (Fault.Stray first)
  sign_stray e = ap (sign_or_stray newline first) e

  module _ (sign : Sign) (e : l ≡ Some sign) where
    pub sign_delimiter : delimiter sign.number ≡ true → sign_or_stray newline first l ≡ element delimiter_kind sign.number newline first (first + sign.len)
    sign_delimiter d = ap (sign_or_stray newline first) e ∙ rw d

    pub sign_other : delimiter sign.number ≡ false → sign_or_stray newline first l ≡ element sign_kind sign.number newline first (first + sign.len)
    sign_other d = ap (sign_or_stray newline first) e ∙ rw d

-- the element whose first byte stands at i
module _ (stated : Stated) (newline : Bool) (s : List ℕ) (i : ℕ) where
  pub from_past : length s ≤ i → element_from stated newline i (drop i s) ≡ Ok None
  unfolding element_from
  from_past h = rw (drop_of_length-le s h)

  module _ (h : i < length s) where
    -- the byte behind the first
    second : get_or (drop (i + 1) s) 0 0 ≡ get_or s (i + 1) 0
    second = get_or-drop (i + 1) s 0 0 ∙ rw (add-zero (i + 1))

    -- a number starts here
    abbrev number_at : Bool
    number_at = digit (get_or s i 0) || (eqb (get_or s i 0) (byte ".") && digit (get_or s (i + 1) 0))

    pub from_letter : letter (get_or s i 0) ≡ true → element_from stated newline i (drop i s) ≡ named stated.name newline i (drop i s)
    unfolding element_from
    from_letter l = rw (drop_at s i h) (rw (l, element_from))

    module _ (l : letter (get_or s i 0) ≡ false) where
      pub from_number : number_at ≡ true → element_from stated newline i (drop i s) ≡ literal_element number_kind newline i (number_from i (drop i s))
      unfolding element_from
      from_number d = rw (drop_at s i h) (rw (l, second, d, element_from))

      module _ (d : number_at ≡ false) where
        pub from_quote : quote (get_or s i 0) ≡ true
            → element_from stated newline i (drop i s) ≡ literal_element string_kind newline i (string_rest (get_or s i 0) i false (i + 1) (drop (i + 1) s))
        unfolding element_from
        from_quote q = rw (drop_at s i h) (rw (l, second, d, q, element_from))

        module _ (q : quote (get_or s i 0) ≡ false) where
          -- a slash that opens a regular expression
          pub from_pattern : (stated.pattern && eqb (get_or s i 0) (byte "/")) ≡ true
              → element_from stated newline i (drop i s) ≡ literal_element pattern_kind newline i (pattern_rest i false false (i + 1) (drop (i + 1) s))
          unfolding element_from
          from_pattern p = rw (drop_at s i h) (rw (l, second, d, q, p, element_from))

          pub from_sign : (stated.pattern && eqb (get_or s i 0) (byte "/")) ≡ false
              → element_from stated newline i (drop i s) ≡ sign_or_stray newline i (longest_sign (drop i s))
          unfolding element_from
          from_sign p = rw (drop_at s i h) (rw (l, second, d, q, p, element_from))
