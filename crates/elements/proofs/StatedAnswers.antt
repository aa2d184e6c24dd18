-- What the stated answers decide: nothing where neither a slash nor a reserved word is met; where a reserved word is met, between a
-- name, for all 36 words, and the word or its refusal (of slashes: Slashes.antt); and never whether anything is left.
use Rattle.std.specs.Prelude.{Result, Ok, Err, Some, None, Option}
use mathlib.Core.Path.{◌≡◌, refl, sym, ◌∙◌}
use mathlib.Core.List.{List, [], ◌∷◌}
use mathlib.Core.Bool.{Bool, true, false, false≢true, true≢false, not, cond, ◌&&◌, ◌||◌}
use Prim.Native.Nat.{ℕ, ◌+◌}
use native.Mathlib.Omega.{arith}
use borrow.Author.Tests.{eqb-true, eqb-false}
use lib.Dec.{eqb}
use lib.ListN.{get_or, drop}
use Rattle.text.specs.Quoted.{byte}
use Rattle.text.specs.Bytes.{letter, name_byte}
use Rattle.text.specs.Runs.{run}
use Rattle.words.specs.Words.{taken}
use Rattle.signs.specs.Signs.{longest_sign}
use Rattle.signs.specs.declared.Sign.{Sign}
use Rattle.answers.specs.Faults.{barred_word, fault_number, fault_place}
use Rattle.answers.specs.declared.faults.Fault.{Fault}
use Rattle.gaps.specs.Gaps.{gap}
use Rattle.gaps.specs.declared.Gap.{Gap}
use Rattle.numbers.specs.Numbers.{starts_number, number_from}
use Rattle.literals.specs.Strings.{quote, string_rest}
use Rattle.literals.specs.Patterns.{pattern_rest}
use Rattle.elements.specs.Elements.{
  stating,
  element,
  literal_element,
  first_word,
  named,
  delimiter,
  sign_or_stray,
  element_from,
  after_gap,
  element_at,
  slash_after,
  slash_met,
  starts_with_word,
  word_after,
  word_met,
  delimiter_kind,
  name_kind,
  word_kind,
  number_kind,
  string_kind,
  pattern_kind,
  sign_kind,
}
use Rattle.elements.specs.declared.Element.{Element}
use Rattle.elements.specs.Elements.{Next}
use Rattle.elements.specs.declared.Stated.{Stated}
use Rattle.elements.proofs.Choices.{cond_both, cond_known}
use Rattle.elements.proofs.Slashes.{byte_at, either_slash}

-- document 02, U1 and U2: where reserved words are names, the one that starts at `first` is a name, "for all 36 words, and 7 does not apply there"
abbrev pub Named : List ℕ → ℕ → Next → Type 0
Named s first (Ok None) = ⊥
Named s first (Ok (Some e)) = (e.first ≡ first) × (e.kind ≡ name_kind) × (e.which ≡ first_word (drop first s))
Named s first (Err fault) = ⊥

-- where they are not, it is the word if that is taken here, else 7 at its first byte
abbrev pub Worded : List ℕ → ℕ → Next → Type 0
Worded s first (Ok None) = ⊥
Worded s first (Ok (Some e)) = (e.first ≡ first) × (e.kind ≡ word_kind) × (e.which ≡ first_word (drop first s)) × (taken e.which ≡ true)
Worded s first (Err fault) = (fault_place fault ≡ first) × (fault_number fault ≡ barred_word) × (taken (first_word (drop first s)) ≡ false)

-- the place behind the gap from a place on
abbrev pub behind_gap : Result Gap Fault → ℕ
behind_gap (Ok g) = g.end
behind_gap (Err fault) = fault_place fault

-- what is known of an element by whether a reserved word is met there, and whether these are names there
pub record Reserved (met asName : Bool) (e : Element) : Type 0 where
  pub reserved : met ≡ true → (e.kind ≡ cond asName name_kind word_kind) × (e.which ≡ 0 → ⊥)
  pub other : met ≡ false → (e.kind ≡ word_kind → ⊥) × (e.kind ≡ name_kind → e.which ≡ 0)

abbrev NextReserved : Bool → Bool → Next → Type 0
NextReserved met asName (Ok None) = Unit {0}
NextReserved met asName (Ok (Some e)) = Reserved met asName e
NextReserved met asName (Err fault) = Unit {0}

module _ (asName newline : Bool) (first : ℕ) where
  named_reserved : (s : List ℕ) → NextReserved (not (eqb (first_word s) 0)) asName (named asName newline first s)
  unfolding named
  named_reserved s = go (eqb (first_word s) 0) asName refl
    where
      go : (none a : Bool) → eqb (first_word s) 0 ≡ none
          → NextReserved (not none) a
          (cond (none || a) (element name_kind (first_word s) newline first (first + run name_byte s))
          (cond (taken (first_word s)) (element word_kind (first_word s) newline first (first + run name_byte s)) (Err (Fault.BarredWord first))))
      go true a q = record { reserved = λ h. absurd (false≢true h); other = λ h. (λ k. omega arith, λ k. eqb-true (first_word s) 0 q) }
      go false true q = record { reserved = λ h. (refl, eqb-false (first_word s) 0 q); other = λ h. absurd (true≢false h) }
      go false false q =
          cond_both (NextReserved true false) (taken (first_word s))
          (record { reserved = λ h. (refl, eqb-false (first_word s) 0 q); other = λ h. absurd (true≢false h) })
          tt

  -- neither a name nor a word
  plain : (e : Element) → (e.kind ≡ word_kind → ⊥) → (e.kind ≡ name_kind → ⊥) → Reserved false asName e
  plain e w n = record { reserved = λ h. absurd (false≢true h); other = λ h. (w, λ k. absurd (n k)) }

  literal_reserved : (kind : ℕ) → (kind ≡ word_kind → ⊥) → (kind ≡ name_kind → ⊥) → (l : Result ℕ Fault) → NextReserved false asName (literal_element kind newline first l)
  literal_reserved kind w n (Ok end) = plain _ w n
  literal_reserved kind w n (Err fault) = tt

  sign_reserved : (l : Option Sign) → NextReserved false asName (sign_or_stray newline first l)
  sign_reserved None = tt
  sign_reserved (Some sign) =
      plain _ (no_kind word_kind (omega arith) (omega arith) (delimiter sign.number)) (no_kind name_kind (omega arith) (omega arith) (delimiter sign.number))
    where
      no_kind : (kind : ℕ) → (delimiter_kind ≡ kind → ⊥) → (sign_kind ≡ kind → ⊥) → (d : Bool) → cond d delimiter_kind sign_kind ≡ kind → ⊥
      no_kind kind a b true k = a k
      no_kind kind a b false k = b k

from_reserved : (stated : Stated) (newline : Bool) (first : ℕ) (s : List ℕ) → NextReserved (starts_with_word s) stated.name (element_from stated newline first s)
unfolding element_from
from_reserved stated newline first [] = tt
from_reserved stated newline first (b ∷ s) =
    let P = NextReserved (starts_with_word (b ∷ s)) stated.name in
    cond_known P (letter b) (λ l. rw l (named_reserved stated.name newline first (b ∷ s))) λ l.
    rw l
    (cond_both (NextReserved false stated.name) (starts_number (b ∷ s))
    (literal_reserved stated.name newline first number_kind (λ k. omega arith) (λ k. omega arith) (number_from first (b ∷ s)))
    (cond_both (NextReserved false stated.name) (quote b)
    (literal_reserved stated.name newline first string_kind (λ k. omega arith) (λ k. omega arith) (string_rest b first false (first + 1) s))
    (cond_both (NextReserved false stated.name) (stated.pattern && eqb b (byte "/"))
    (literal_reserved stated.name newline first pattern_kind (λ k. omega arith) (λ k. omega arith) (pattern_rest first false false (first + 1) s))
    (sign_reserved stated.name newline first (longest_sign (b ∷ s))))))

-- a text that starts with a reserved word
letter_first : (a b : Bool) → (a && not b) ≡ true → (a ≡ true) × (b ≡ false)
letter_first true true h = absurd (false≢true h)
letter_first true false h = (refl, refl)
letter_first false b h = absurd (false≢true h)

module _ (pattern newline : Bool) (text : List ℕ) (first : ℕ) where
  from_named : (s : List ℕ) → drop first text ≡ s → starts_with_word s ≡ true → Named text first (element_from (stating pattern true) newline first s)
  unfolding element_from named letter
  from_named [] d e = absurd (false≢true e)
  from_named (b ∷ s) d e =
      let w = letter_first (letter b) (eqb (first_word (b ∷ s)) 0) e in
      rw (w.0, w.1) (refl, refl, rw d)

  from_worded : (s : List ℕ) → drop first text ≡ s → starts_with_word s ≡ true → Worded text first (element_from (stating pattern false) newline first s)
  unfolding element_from named letter
  from_worded [] d e = absurd (false≢true e)
  from_worded (b ∷ s) d e =
      let w = letter_first (letter b) (eqb (first_word (b ∷ s)) 0) e in
      rw (w.0, w.1) (cond_known (Worded text first) (taken (first_word (b ∷ s))) (λ t. (refl, refl, rw d, t)) (λ t. (refl, refl, rw d t)))

-- where a text starts with no reserved word, the answer does not matter
from_either : (pattern newline : Bool) (first : ℕ) (s : List ℕ) → starts_with_word s ≡ false
    → element_from (stating pattern true) newline first s ≡ element_from (stating pattern false) newline first s
unfolding element_from named
from_either pattern newline first [] e = refl
from_either pattern newline first (b ∷ s) e = go (letter b) refl e
  where
    none : (w : Bool) → not w ≡ false → w ≡ true
    none true h = refl
    none false h = absurd (true≢false h)

    go : (l : Bool) → letter b ≡ l → (l && not (eqb (first_word (b ∷ s)) 0)) ≡ false
        → element_from (stating pattern true) newline first (b ∷ s) ≡ element_from (stating pattern false) newline first (b ∷ s)
    go true l h = rw (l, none (eqb (first_word (b ∷ s)) 0) h, element_from)
    go false l h = rw (l, element_from)

-- a text that goes on has an element there, or a fault
abbrev GoesOn : Next → Type 0
GoesOn (Ok None) = ⊥
GoesOn (Ok (Some e)) = Unit {0}
GoesOn (Err fault) = Unit {0}

literal_goes_on : (kind : ℕ) (newline : Bool) (first : ℕ) (l : Result ℕ Fault) → GoesOn (literal_element kind newline first l)
literal_goes_on kind newline first (Ok end) = tt
literal_goes_on kind newline first (Err fault) = tt

sign_goes_on : (newline : Bool) (first : ℕ) (l : Option Sign) → GoesOn (sign_or_stray newline first l)
sign_goes_on newline first None = tt
sign_goes_on newline first (Some sign) = tt

from_goes_on : (stated : Stated) (newline : Bool) (first b : ℕ) (s : List ℕ) → GoesOn (element_from stated newline first (b ∷ s))
unfolding element_from named
from_goes_on stated newline first b s =
    cond_both GoesOn (letter b) (cond_both GoesOn (eqb (first_word (b ∷ s)) 0 || stated.name) tt (cond_both GoesOn (taken (first_word (b ∷ s))) tt tt))
    (cond_both GoesOn (starts_number (b ∷ s)) (literal_goes_on number_kind newline first (number_from first (b ∷ s)))
    (cond_both GoesOn (quote b) (literal_goes_on string_kind newline first (string_rest b first false (first + 1) s))
    (cond_both GoesOn (stated.pattern && eqb b (byte "/")) (literal_goes_on pattern_kind newline first (pattern_rest first false false (first + 1) s))
    (sign_goes_on newline first (longest_sign (b ∷ s))))))

from_end : (given other : Stated) (newline : Bool) (first : ℕ) (s : List ℕ) → element_from given newline first s ≡ Ok None → element_from other newline first s ≡ Ok None
unfolding element_from
from_end given other newline first [] e = refl
from_end given other newline first (b ∷ s) e = absurd (rw e at (from_goes_on given newline first b s))

module _ (s : List ℕ) (place : ℕ) where
  -- where a reserved word is met
  pub word_named : (pattern : Bool) → word_met s place ≡ true → Named s (behind_gap (gap place false (drop place s))) (element_at s place (stating pattern true))
  unfolding element_at word_met
  word_named pattern = go (gap place false (drop place s))
    where
      go : (g : Result Gap Fault) → word_after s g ≡ true → Named s (behind_gap g) (after_gap s (stating pattern true) g)
      go (Ok g) e = from_named pattern g.newline s g.end (drop g.end s) refl e
      go (Err fault) e = absurd (false≢true e)

  pub word_worded : (pattern : Bool) → word_met s place ≡ true → Worded s (behind_gap (gap place false (drop place s))) (element_at s place (stating pattern false))
  unfolding element_at word_met
  word_worded pattern = go (gap place false (drop place s))
    where
      go : (g : Result Gap Fault) → word_after s g ≡ true → Worded s (behind_gap g) (after_gap s (stating pattern false) g)
      go (Ok g) e = from_worded pattern g.newline s g.end (drop g.end s) refl e
      go (Err fault) e = absurd (false≢true e)

  -- where none is met, the answer does not matter
  pub either_word : (pattern : Bool) → word_met s place ≡ false → element_at s place (stating pattern true) ≡ element_at s place (stating pattern false)
  unfolding element_at word_met
  either_word pattern = go (gap place false (drop place s))
    where
      go : (g : Result Gap Fault) → word_after s g ≡ false → after_gap s (stating pattern true) g ≡ after_gap s (stating pattern false) g
      go (Ok g) e = from_either pattern g.newline g.end (drop g.end s) e
      go (Err fault) e = refl

  -- a slash is no reserved word
  pub slash_no_word : slash_met s place ≡ true → word_met s place ≡ false
  unfolding slash_met word_met letter
  slash_no_word = go (gap place false (drop place s))
    where
      go : (g : Result Gap Fault) → slash_after s g ≡ true → word_after s g ≡ false
      go (Ok g) e = rw (byte_at s g.end, eqb-true (get_or s g.end 0) (byte "/") e)
      go (Err fault) e = refl

  pub word_no_slash : word_met s place ≡ true → slash_met s place ≡ false
  word_no_slash m = go (slash_met s place) refl
    where
      go : (b : Bool) → slash_met s place ≡ b → b ≡ false
      go true met = absurd (false≢true (sym (slash_no_word met) ∙ m))
      go false met = refl

  -- where nothing is left, nothing is left under other answers
  pub end_always : (given other : Stated) → element_at s place given ≡ Ok None → element_at s place other ≡ Ok None
  unfolding element_at
  end_always given other = go (gap place false (drop place s))
    where
      go : (g : Result Gap Fault) → after_gap s given g ≡ Ok None → after_gap s other g ≡ Ok None
      go (Ok g) e = from_end given other g.newline g.end (drop g.end s) e
      go (Err fault) e = absurd (let z : ◌≡◌ {A = ℕ} 0 1 = cc in omega arith)

  -- what is stated matters only where it is asked
  pub as_asked : (given : Stated) → element_at s place given ≡ element_at s place (stating (slash_met s place && given.pattern) (word_met s place && given.name))
  as_asked given = go (slash_met s place) (word_met s place) given.pattern given.name refl refl
    where
      go : (slash word pattern name : Bool) → slash_met s place ≡ slash → word_met s place ≡ word
          → element_at s place (stating pattern name) ≡ element_at s place (stating (slash && pattern) (word && name))
      go true true pattern name p q = refl
      go true false pattern true p q = either_word pattern q
      go true false pattern false p q = refl
      go false true true name p q = either_slash s place name p
      go false true false name p q = refl
      go false false true true p q = either_slash s place true p ∙ either_word false q
      go false false true false p q = either_slash s place false p
      go false false false true p q = either_word false q
      go false false false false p q = refl

  module _ (given : Stated) (e : Element) (found : element_at s place given ≡ Ok (Some e)) where
    -- what was found tells whether one was met
    pub found_reserved : Reserved (word_met s place) given.name e
    unfolding element_at word_met
    found_reserved = rw found at (go (gap place false (drop place s)))
      where
        go : (g : Result Gap Fault) → NextReserved (word_after s g) given.name (after_gap s given g)
        go (Ok g) = from_reserved given g.newline g.end (drop g.end s)
        go (Err fault) = tt
