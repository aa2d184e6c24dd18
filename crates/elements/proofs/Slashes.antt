-- What the slash answer decides: nothing where no slash is met, and where one is met, between the sign `/` and a regular
-- expression.
use Rattle.std.specs.Prelude.{Result, Ok, Err, Some, None, Option}
use mathlib.Core.Path.{◌≡◌, refl, sym, ap, ◌∙◌}
use mathlib.Core.Logic.{◌⊎◌, inl, inr}
use mathlib.Core.List.{List, [], ◌∷◌}
use mathlib.Core.Bool.{Bool, true, false, false≢true, cond, ◌&&◌, ◌||◌}
use Prim.Native.Nat.{ℕ, ◌+◌}
use native.Mathlib.Nat.{add-zero}
use native.Mathlib.Omega.{arith}
use borrow.Author.Tests.{eqb-true, eqb-false, ne_eqb}
use lib.Dec.{eqb}
use lib.ListN.{get_or, take, drop}
use lib.Seq.{get_or-drop, drop-drop}
use Rattle.text.specs.Quoted.{byte}
use Rattle.text.specs.Bytes.{letter, digit, name_byte}
use Rattle.text.specs.Runs.{run, same}
use Rattle.words.specs.Words.{word_number, taken}
use Rattle.signs.specs.Signs.{found, longest_of, longest_sign}
use Rattle.signs.specs.declared.Sign.{Sign}
use Rattle.answers.specs.declared.faults.Fault.{Fault}
use Rattle.gaps.specs.Gaps.{gap}
use Rattle.numbers.specs.Numbers.{starts_number, number_from}
use Rattle.literals.specs.Strings.{quote, string_rest}
use Rattle.literals.specs.Patterns.{pattern_rest}
use Rattle.elements.specs.Elements.{
  stating,
  element,
  literal_element,
  named,
  delimiter,
  sign_or_stray,
  element_from,
  after_gap,
  element_at,
  slash_after,
  slash_met,
  number_kind,
  string_kind,
  pattern_kind,
  sign_kind,
}
use Rattle.gaps.specs.declared.Gap.{Gap}
use Rattle.elements.specs.declared.Element.{Element}
use Rattle.elements.specs.Elements.{Next}
use Rattle.elements.specs.declared.Stated.{Stated}
use Rattle.elements.proofs.Choices.{cond_both, cond_known}
use Rattle.elements.proofs.Clashes.{no_result}

-- the longest sign that starts with a slash
longest_slash : (s : List ℕ) → longest_sign (byte "/" ∷ s) ≡ cond (eqb (get_or s 0 0) (byte "=")) (found 48 2) (found 47 1)
unfolding longest_sign longest_of same
longest_slash [] = refl
longest_slash (b ∷ s) = go (eqb b (byte "=")) refl
  where
    go : (t : Bool) → eqb b (byte "=") ≡ t → longest_sign (byte "/" ∷ b ∷ s) ≡ cond t (found 48 2) (found 47 1)
    go true e = rw (eqb-true b (byte "=") e)
    go false e = rw (ne_eqb (byte "=") b (λ f. eqb-false b (byte "=") e (sym f)))

slash_no_delimiter : (delimiter 47 ≡ false) × (delimiter 48 ≡ false)
unfolding delimiter longest_sign longest_of same
slash_no_delimiter = (refl, refl)

-- the element of a text that starts with a slash, or not, at `first`
module _ (name newline : Bool) (first : ℕ) where
  from_either : (s : List ℕ) → eqb (get_or s 0 0) (byte "/") ≡ false
      → element_from (stating true name) newline first s ≡ element_from (stating false name) newline first s
  unfolding element_from
  from_either [] e = refl
  from_either (b ∷ s) e = rw (e, element_from)

  from_opened : (s : List ℕ) → element_from (stating true name) newline first (byte "/" ∷ s)
      ≡ literal_element pattern_kind newline first (pattern_rest first false false (first + 1) s)
  unfolding element_from letter digit quote
  from_opened s = refl

  from_divided : (s : List ℕ) → element_from (stating false name) newline first (byte "/" ∷ s)
      ≡ cond (eqb (get_or s 0 0) (byte "=")) (element sign_kind 48 newline first (first + 2)) (element sign_kind 47 newline first (first + 1))
  unfolding element_from letter digit quote
  from_divided s = rw (longest_slash s) (go (eqb (get_or s 0 0) (byte "=")))
    where
      go : (t : Bool) → sign_or_stray newline first (cond t (found 48 2) (found 47 1))
          ≡ cond t (element sign_kind 48 newline first (first + 2)) (element sign_kind 47 newline first (first + 1))
      go true = rw slash_no_delimiter.1
      go false = rw slash_no_delimiter.0

-- only a slash under the answer `true` gives a regular expression
abbrev OpenedOnly : Bool → Next → Type 0
OpenedOnly opens (Ok None) = Unit
OpenedOnly opens (Ok (Some e)) = e.kind ≡ pattern_kind → opens ≡ true
OpenedOnly opens (Err fault) = Unit

module _ (opens newline : Bool) (first : ℕ) where
  literal_only : (kind : ℕ) → (kind ≡ pattern_kind → opens ≡ true) → (l : Result ℕ Fault) → OpenedOnly opens (literal_element kind newline first l)
  literal_only kind k (Ok end) = k
  literal_only kind k (Err fault) = tt

  named_only : (asName : Bool) (s : List ℕ) → OpenedOnly opens (named asName newline first s)
  unfolding named
  named_only asName s =
      let word = word_number (take (run name_byte s) s) in
      cond_both (OpenedOnly opens) (eqb word 0 || asName) (λ k. absurd (omega arith))
      (cond_both (OpenedOnly opens) (taken word) (λ k. absurd (omega arith)) tt)

  sign_only : (l : Option Sign) → OpenedOnly opens (sign_or_stray newline first l)
  sign_only None = tt
  sign_only (Some sign) =
      cond_both (λ (kind : ℕ). kind ≡ pattern_kind → opens ≡ true) (delimiter sign.number) (λ k. absurd (omega arith)) (λ k. absurd (omega arith))

from_only : (stated : Stated) (newline : Bool) (first : ℕ) (s : List ℕ)
    → OpenedOnly (stated.pattern && eqb (get_or s 0 0) (byte "/")) (element_from stated newline first s)
unfolding element_from
from_only stated newline first [] = tt
from_only stated newline first (b ∷ s) =
    let opens = stated.pattern && eqb b (byte "/") in
    let P = OpenedOnly opens in
    cond_both P (letter b) (named_only opens newline first stated.name (b ∷ s))
    (cond_both P (starts_number (b ∷ s)) (literal_only opens newline first number_kind (λ k. absurd (omega arith)) (number_from first (b ∷ s)))
    (cond_both P (quote b) (literal_only opens newline first string_kind (λ k. absurd (omega arith)) (string_rest b first false (first + 1) s))
    (cond_known P opens (λ o. literal_only opens newline first pattern_kind (λ k. o) (pattern_rest first false false (first + 1) s))
    (λ o. sign_only opens newline first (longest_sign (b ∷ s))))))

-- a text whose first byte is known; past the text's end stands a 0
starts : (s : List ℕ) (b : ℕ) → (b ≡ 0 → ⊥) → get_or s 0 0 ≡ b → s ≡ b ∷ drop 1 s
starts [] b n e = absurd (n (sym e))
starts (a ∷ s) b n e = ap (λ k. k ∷ s) e

-- a slash at `first`
module _ (s : List ℕ) (first : ℕ) where
  pub byte_at : get_or (drop first s) 0 0 ≡ get_or s first 0
  byte_at = get_or-drop first s 0 0 ∙ ap (λ k. get_or s k 0) (add-zero first)

  here : eqb (get_or s first 0) (byte "/") ≡ true → drop first s ≡ byte "/" ∷ drop (first + 1) s
  here e = starts (drop first s) (byte "/") (omega arith) (byte_at ∙ eqb-true _ _ e) ∙ ap (◌∷◌ (byte "/")) (drop-drop 1 first s)

-- the sign `/` or `/=`
pub record Divide (e : Element) : Type 0 where
  pub kind : e.kind ≡ sign_kind
  pub which : (e.which ≡ 47) ⊎ (e.which ≡ 48)

-- a slash that divides is a sign
abbrev pub Divided : Next → Type 0
Divided (Ok None) = ⊥
Divided (Ok (Some e)) = Divide e
Divided (Err fault) = ⊥

-- a slash that opens: a regular expression, or its fault
abbrev pub Opened : Next → Type 0
Opened (Ok None) = ⊥
Opened (Ok (Some e)) = e.kind ≡ pattern_kind
Opened (Err fault) = Unit

literal_opened : (newline : Bool) (first : ℕ) (l : Result ℕ Fault) → Opened (literal_element pattern_kind newline first l)
literal_opened newline first (Ok end) = refl
literal_opened newline first (Err fault) = tt

module _ (s : List ℕ) (place : ℕ) where
  -- where no slash is met, the answer does not matter
  pub either_slash : (name : Bool) → slash_met s place ≡ false → element_at s place (stating true name) ≡ element_at s place (stating false name)
  unfolding element_at slash_met
  either_slash name = go (gap place false (drop place s))
    where
      go : (g : Result Gap Fault) → slash_after s g ≡ false → after_gap s (stating true name) g ≡ after_gap s (stating false name) g
      go (Ok g) e = from_either name g.newline g.end (drop g.end s) (rw (byte_at s g.end) e)
      go (Err fault) e = refl

  -- where one is met, it is a sign or a regular expression
  pub slash_divides : (name : Bool) → slash_met s place ≡ true → Divided (element_at s place (stating false name))
  unfolding element_at slash_met
  slash_divides name = go (gap place false (drop place s))
    where
      go : (g : Result Gap Fault) → slash_after s g ≡ true → Divided (after_gap s (stating false name) g)
      go (Ok g) e =
          rw (here s g.end e, from_divided name g.newline g.end (drop (g.end + 1) s), byte_at s (g.end + 1))
          (cond_both Divided (eqb (get_or s (g.end + 1) 0) (byte "="))
          (record { kind = refl; which = inr refl })
          (record { kind = refl; which = inl refl }))
      go (Err fault) e = absurd (false≢true e)

  pub slash-opens : (name : Bool) → slash_met s place ≡ true → Opened (element_at s place (stating true name))
  unfolding element_at slash_met
  slash-opens name = go (gap place false (drop place s))
    where
      go : (g : Result Gap Fault) → slash_after s g ≡ true → Opened (after_gap s (stating true name) g)
      go (Ok g) e =
          rw (here s g.end e, from_opened name g.newline g.end (drop (g.end + 1) s))
          (literal_opened g.newline g.end (pattern_rest g.end false false (g.end + 1) (drop (g.end + 1) s)))
      go (Err fault) e = absurd (false≢true e)

  -- a regular expression is found only there
  pub pattern_slash : (stated : Stated) (e : Element) → element_at s place stated ≡ Ok (Some e) → e.kind ≡ pattern_kind
      → (stated.pattern ≡ true) × (slash_met s place ≡ true)
  unfolding element_at slash_met
  pattern_slash stated e = go (gap place false (drop place s))
    where
      both : (a b : Bool) → (a && b) ≡ true → (a ≡ true) × (b ≡ true)
      both true b h = (refl, h)
      both false b h = absurd (false≢true h)

      go : (g : Result Gap Fault) → after_gap s stated g ≡ Ok (Some e) → e.kind ≡ pattern_kind → (stated.pattern ≡ true) × (slash_after s g ≡ true)
      go (Ok g) f k =
          both stated.pattern (eqb (get_or s g.end 0) (byte "/")) (rw (f, byte_at s g.end) at (from_only stated g.newline g.end (drop g.end s)) k)
      go (Err fault) f k = no_result f

  -- the same, by what was found
  module _ (name : Bool) (met : slash_met s place ≡ true) where
    pub divide_found : (e : Element) → element_at s place (stating false name) ≡ Ok (Some e) → Divide e
    divide_found e f = rw f at (slash_divides name met)

    pub pattern_found : (e : Element) → element_at s place (stating true name) ≡ Ok (Some e) → e.kind ≡ pattern_kind
    pattern_found e f = rw f at (slash-opens name met)
