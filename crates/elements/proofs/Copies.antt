-- An element is the same at another place, behind another gap, and where the text is cut behind it and goes on with a
-- blank or a line end.
use Rattle.std.specs.Prelude.{Result, Ok, Err, Some, Option, None}
use mathlib.Core.Path.{◌≡◌, refl, ap, ◌∙◌}
use mathlib.Core.List.{List, [], ◌∷◌, ◌++◌}
use mathlib.Core.Bool.{Bool, true, false, cond, and-false, ◌&&◌, ◌||◌}
use Prim.Native.Nat.{ℕ, zero, suc, ◌+◌, ◌≤◌}
use native.Mathlib.Omega.{arith}
use lib.Dec.{eqb}
use lib.ListN.{length, get_or, take}
use lib.Seq.{take_at, length-take-le}
use Rattle.text.specs.Quoted.{byte}
use Rattle.text.specs.Bytes.{blank, line_end, letter, digit, name_byte}
use Rattle.text.specs.Runs.{run}
use Rattle.text.proofs.Laws.{run_own, run_le}
use Rattle.words.specs.Words.{word_number, taken}
use Rattle.signs.specs.Signs.{found, longest_sign}
use Rattle.signs.specs.declared.Sign.{Sign}
use Rattle.signs.proofs.Laws.{longest_own}
use Rattle.answers.specs.declared.faults.Fault.{Fault}
use Rattle.numbers.specs.Numbers.{starts_number, number_from}
use Rattle.literals.specs.Strings.{quote, string_rest}
use Rattle.literals.specs.Patterns.{pattern_rest}
use Rattle.elements.specs.Elements.{
  element,
  literal_element,
  named,
  word_or_name,
  delimiter,
  sign_or_stray,
  element_from,
  name_kind,
  word_kind,
  number_kind,
  string_kind,
  pattern_kind,
  sign_kind,
  delimiter_kind,
}
use Rattle.elements.specs.declared.Element.{Element}
use Rattle.elements.specs.Elements.{Next}
use Rattle.elements.specs.declared.Stated.{Stated}
use Rattle.elements.proofs.Choices.{cond_both, cond_known, cond_follow}
use Rattle.elements.proofs.Clashes.{no_result}
use Rattle.elements.proofs.Bounds.{Cut, from_in}
use Rattle.elements.proofs.Shifts.{no_digit, no_name, string_own, pattern_own, number_size, number_own}
use Rattle.numbers.proofs.NumberLaws.{dotted_two}

-- an element moved to another place, and behind another gap
abbrev pub moved : ℕ → Bool → ℕ → Element → Next
moved first newline size e = element e.kind e.which newline first (first + size)

module _ (x : ℕ) (v : List ℕ) (separates : (blank x || line_end x) ≡ true) where
  -- an element of size k from `first` on, moved to `there`
  module _ (e : Element) (first there k : ℕ) (newline lined : Bool) (size : e.end ≡ first + k) where
    same_size : (kind which end : ℕ) → element kind which newline first end ≡ Ok (Some e) → end ≡ first + k
    same_size kind which end f =
        let p : record { kind = kind; which = which; first = first; end = end; newline = newline } ≡ e = cc in
        ap (λ z. z.end) p ∙ size

    found_own : (kind which end : ℕ) → element kind which newline first end ≡ Ok (Some e)
        → element kind which lined there (there + k) ≡ moved there lined k e
    found_own kind which end f =
        let p : record { kind = kind; which = which; first = first; end = end; newline = newline } ≡ e = cc in
        rw (← p)

    literal_ends : (kind : ℕ) (l : Result ℕ Fault) → literal_element kind newline first l ≡ Ok (Some e) → l ≡ Ok (first + k)
    literal_ends kind (Ok end) f = ap Ok (same_size kind 0 end f)
    literal_ends kind (Err fault) f = no_result f

    literal_own : (kind : ℕ) (l m : Result ℕ Fault) → (l ≡ Ok (first + k) → m ≡ Ok (there + k))
        → literal_element kind newline first l ≡ Ok (Some e) → literal_element kind lined there m ≡ moved there lined k e
    literal_own kind (Ok end) m g f = rw (g (ap Ok (same_size kind 0 end f))) (found_own kind 0 end f)
    literal_own kind (Err fault) m g f = no_result f

    word_own : (asName : Bool) (word n : ℕ) → word_or_name asName word newline first n ≡ Ok (Some e)
        → (n ≡ first + k) × (word_or_name asName word lined there (there + k) ≡ moved there lined k e)
    word_own asName word n f = (
      cond_both (λ z. z ≡ Ok (Some e) → n ≡ first + k) (eqb word 0 || asName) (same_size name_kind word n)
          (cond_both (λ z. z ≡ Ok (Some e) → n ≡ first + k) (taken word) (same_size word_kind word n) no_result) f,
      cond_follow (eqb word 0 || asName) (found_own name_kind word n)
          (cond_follow (taken word) (found_own word_kind word n) no_result) f,
    )

    module _ (s : List ℕ) where
      named_own : (asName : Bool) → named asName newline first s ≡ Ok (Some e) → named asName lined there (take k s ++ x ∷ v) ≡ moved there lined k e
      unfolding named
      named_own asName f =
          let n = run name_byte s in
          let w = word_own asName (word_number (take n s)) (first + n) f in
          let q : n ≡ k = omega arith in
          let r : run name_byte (take k s ++ x ∷ v) ≡ k = run_own name_byte x v (no_name x separates) s k (omega arith) ∙ q in
          let h : k ≤ length s = omega (arith, run_le name_byte s) in
          rw (r, take_at (take k s) (x ∷ v) k (length-take-le k s h)) (rw q at w.1)

      sign_own : (l : Option Sign) → longest_sign s ≡ l → sign_or_stray newline first l ≡ Ok (Some e)
          → sign_or_stray lined there (longest_sign (take k s ++ x ∷ v)) ≡ moved there lined k e
      sign_own None g f = no_result f
      sign_own (Some sign) g f =
          let kind = cond (delimiter sign.number) delimiter_kind sign_kind in
          let q : sign.len ≡ k = omega (arith, same_size kind sign.number (first + sign.len) f) in
          let own : longest_sign (take k s ++ x ∷ v) ≡ found sign.number k = rw q at (longest_own s sign g x separates v) in
          rw (own) (found_own kind sign.number (first + sign.len) f)

  -- no digit comes to stand behind a dot
  second_own : (d t : Bool) (s : List ℕ) (k : ℕ) → k ≤ length s → (d || (t && digit (get_or s 0 0))) ≡ false
      → (d || (t && digit (get_or (take k s ++ x ∷ v) 0 0))) ≡ false
  second_own true t s k h e = e
  second_own false t s zero h e = rw (no_digit x separates) (and-false t)
  second_own false t [] (suc k) h e = absurd (omega arith)
  second_own false t (b ∷ s) (suc k) h e = e

  -- and the one behind it stays
  second_kept : (d t : Bool) (s : List ℕ) (k : ℕ) → ((t && digit (get_or s 0 0)) ≡ true → 1 ≤ k) → k ≤ length s → (d || (t && digit (get_or s 0 0))) ≡ true
      → (d || (t && digit (get_or (take k s ++ x ∷ v) 0 0))) ≡ true
  second_kept true t s k o h e = refl
  second_kept false t s zero o h e = absurd (omega (arith, o e))
  second_kept false t [] (suc k) o h e = absurd (omega arith)
  second_kept false t (b ∷ s) (suc k) o h e = e

  module _ (e : Element) (first there : ℕ) (stated : Stated) (newline lined : Bool) where
    pub from_own : (s : List ℕ) (k : ℕ) → k ≤ length s → e.end ≡ first + k → element_from stated newline first s ≡ Ok (Some e)
        → element_from stated lined there (take k s ++ x ∷ v) ≡ moved there lined k e
    unfolding element_from
    from_own [] k h p f = absurd (let z : ◌≡◌ {A = ℕ} 0 1 = cc in omega arith)
    from_own (b ∷ s) zero h p f =
        let hi = first + length (b ∷ s) in
        let c : Cut newline first hi e = rw f at (from_in stated newline first hi (b ∷ s) refl) in
        absurd (omega arith)
    from_own (b ∷ s) (suc k) h p f =
        let h₁ : k ≤ length s = omega arith in
        let rest = take k s ++ x ∷ v in
        let numberOrOther =
        cond (starts_number (b ∷ rest)) (literal_element number_kind lined there (number_from there (b ∷ rest)))
        (cond (quote b) (literal_element string_kind lined there (string_rest b there false (there + 1) rest))
        (cond (stated.pattern && eqb b (byte "/")) (literal_element pattern_kind lined there (pattern_rest there false false (there + 1) rest))
        (sign_or_stray lined there (longest_sign (b ∷ rest))))) in
        let end = first + suc k in
        let ends = there + suc k in
        cond_follow (letter b) (named_own e first there (suc k) newline lined p (b ∷ s) stated.name)
        (cond_known (λ z. z ≡ Ok (Some e) → numberOrOther ≡ moved there lined (suc k) e)
        (starts_number (b ∷ s))
        (λ q g.
        let l = literal_ends e first there (suc k) newline lined p number_kind (number_from first (b ∷ s)) g in
        let n = number_size x v separates end ends b s k first refl l in
        rw (second_kept (digit b) (eqb b (byte ".")) s k (λ t. omega (arith, dotted_two b s t)) h₁ q)
        (literal_own e first there (suc k) newline lined p number_kind (number_from first (b ∷ s)) (number_from there (b ∷ rest))
        (number_own x v separates end ends b s k first there h₁ refl refl) g))
        (λ q g.
        rw (second_own (digit b) (eqb b (byte ".")) s k h₁ q)
        (cond_follow (quote b)
        (literal_own e first there (suc k) newline lined p string_kind
        (string_rest b first false (first + 1) s) (string_rest b there false (there + 1) rest)
        (string_own x v separates end ends s k b first there (first + 1) (there + 1) false (omega arith) (omega arith) (omega arith)))
        (cond_follow (stated.pattern && eqb b (byte "/"))
        (literal_own e first there (suc k) newline lined p pattern_kind
        (pattern_rest first false false (first + 1) s) (pattern_rest there false false (there + 1) rest)
        (pattern_own x v separates end ends s k first there (first + 1) (there + 1) false false (omega arith) (omega arith) (omega arith)))
        (sign_own e first there (suc k) newline lined p (b ∷ s) (longest_sign (b ∷ s)) refl)) g))) f
