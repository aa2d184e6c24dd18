-- The class of an element that is found, as its record shows it, is told by its kind, its length and its first and last bytes.
use Rattle.std.specs.Prelude.{Ok, Some}
use mathlib.Core.Path.{◌≡◌, refl, sym, ap, subst, ◌∙◌}
use mathlib.Core.List.{List}
use mathlib.Core.Bool.{Bool, true, false, cond, ◌&&◌, ◌||◌}
use Prim.Native.Nat.{ℕ, ◌+◌, ◌-◌, ◌≤◌}
use native.Mathlib.Omega.{arith}
use borrow.Author.Tests.{eqb-true, leb-true, leb-false}
use lib.Dec.{T, eqb, ltb, leb, eqb→eq}
use lib.ListN.{get_or}
use Rattle.text.specs.Runs.{same}
use Rattle.text.proofs.Range.{and_left, and_right}
use Rattle.vocabulary.specs.Vocabulary.{row_at}
use Rattle.signs.specs.Signs.{longest_sign, longest_of}
use Rattle.elements.specs.Elements.{element_at, delimiter, name_kind, word_kind, number_kind, string_kind, pattern_kind, sign_kind}
use Rattle.elements.specs.declared.Element.{Element}
use Rattle.elements.specs.declared.Stated.{Stated}
use Rattle.elements.proofs.Choices.{cond_both}
use Rattle.elements.proofs.FoundKinds.{found_kind}
use Rattle.elements.proofs.Spellings.{word_passes, sign_passes}
use Rattle.rule.specs.Trees.{paren_kind, object_kind, block_kind, bracket_kind, before_kind, after_kind, answer_kind}
use Rattle.rule.specs.Rule.{opens_pattern, unanswered, backwards, increment_sign, decrement_sign, colon_sign, settled_sign, settled_kind}
use Rattle.rule.specs.Levels.{Levels, is_expression, kind_of, trees_of, settled_in}
use Rattle.derivations.specs.Cuts.{is_closer}
use Rattle.derivations.specs.Tokens.{name, word_name, word_class, sign_class, class_of}
use Rattle.derivations.proofs.ReadNames.{record_class}
use Rattle.derivations.specs.TreeElements.{opener_of, closer_of, unsettled}
use Rattle.derivations.proofs.SoFar.{unsettled_again}
use Rattle.machine.specs.Machinery.Classes.{is_opener}
use Rattle.segments.specs.Machinery.Segments.{word_by, sign_by, kind_by, is_spelled, class_by}
use Rattle.segments.proofs.SegmentLaws.{is_element}

-- a length and two bytes tell the class of the word, or of the sign, of that number
abbrev word_told : ℕ → ℕ → ℕ → ℕ → Bool
word_told len b last which = eqb (word_by len b last) (record_class (word_class which)) && is_element (word_by len b last)

abbrev sign_told : ℕ → ℕ → ℕ → ℕ → Bool
sign_told len b last which = eqb (sign_by len b last) (record_class (sign_class which)) && is_element (sign_by len b last)

-- an element of a text with its settled kind, by that kind, its length and its first and last bytes
pub record Told (text : List ℕ) (e : Element) : Type 0 where
  pub told : class_by e.kind (e.end - e.first) (get_or text e.first 0) (get_or text (e.end - 1) 0) ≡ record_class (class_of (unsettled e))
  pub element : T (is_element (record_class (class_of (unsettled e))))
  pub no_closer : is_closer (unsettled e) ≡ false

-- a number that is at least `low` is it, or more
or_more : (P : ℕ → Type 0) (low : ℕ) {k : ℕ} → P low → (low + 1 ≤ k → P k) → low ≤ k → P k
or_more P low {k} here more h = go (leb k low) refl
  where
    go : (b : Bool) → leb k low ≡ b → P k
    go true e = let same : low ≡ k = omega (arith, leb-true k low e) in rw same at here
    go false e = more (omega (arith, leb-false k low e))

-- words and signs: the class by length and byte is the class by the number
module _ (by class : ℕ) (t : T (eqb by class && is_element by)) where
  by_spelling : by ≡ class
  by_spelling = eqb→eq by class (and_left (eqb by class) (is_element by) t)

  by_element : T (is_element class)
  by_element = rw by_spelling at (and_right (eqb by class) (is_element by) t)

-- the same of an element that is found, before its kind is settled: `kind` is what it is settled to
pub record ToldAs (text : List ℕ) (e : Element) (kind : ℕ) : Type 0 where
  pub told : class_by kind (e.end - e.first) (get_or text e.first 0) (get_or text (e.end - 1) 0) ≡ record_class (class_of e)
  pub element : T (is_element (record_class (class_of e)))
  pub no_closer : is_closer e ≡ false

module _ (text : List ℕ) (place : ℕ) (given : Stated) (e : Element) (found : element_at text place given ≡ Ok (Some e)) where
  word_tells : e.kind ≡ word_kind → T (word_told (e.end - e.first) (get_or text e.first 0) (get_or text (e.end - 1) 0) e.which)
  unfolding word_by row_at
  word_tells q = word_passes text place given e found word_told tt q

  sign_tells : e.kind ≡ sign_kind → T (sign_told (e.end - e.first) (get_or text e.first 0) (get_or text (e.end - 1) 0) e.which)
  unfolding sign_by row_at delimiter longest_sign longest_of same
  sign_tells q = sign_passes text place given e found sign_told tt q

  word-told : e.kind ≡ word_kind → ToldAs text e word_kind
  unfolding class_of class_by
  word-told q =
      let by = word_by (e.end - e.first) (get_or text e.first 0) (get_or text (e.end - 1) 0) in
      let class = record_class (word_class e.which) in
      record { told = rw q (by_spelling by class (word_tells q)); element = rw q (by_element by class (word_tells q)); no_closer = rw q }

  -- a sign, whatever it is settled to
  sign-told : (kind : ℕ) → e.kind ≡ sign_kind → is_spelled kind ≡ true → ToldAs text e kind
  unfolding class_of class_by
  sign-told kind q spelled =
      let by = sign_by (e.end - e.first) (get_or text e.first 0) (get_or text (e.end - 1) 0) in
      let class = record_class (sign_class e.which) in
      record { told = rw (q, spelled) (by_spelling by class (sign_tells q)); element = rw q (by_element by class (sign_tells q)); no_closer = rw q }

  colon_told : e.kind ≡ sign_kind → e.which ≡ colon_sign → ToldAs text e answer_kind
  unfolding class_of class_by kind_by row_at delimiter longest_sign longest_of same
  colon_told q w = record { told = rw (q, w); element = rw (q, w) tt; no_closer = rw q }

  sign_settled : (levels : Levels) → e.kind ≡ sign_kind → ToldAs text e (settled_in levels e).kind
  unfolding settled_kind
  sign_settled levels q =
      let same : (settled_in levels e).kind ≡ settled_sign (opens_pattern (is_expression (kind_of levels)) (backwards (trees_of levels))) (unanswered (backwards (trees_of levels))) e.newline e.which =
      rw q in
      rw same
      (cond_both P (eqb e.which increment_sign || eqb e.which decrement_sign)
      (cond_both P (opens_pattern (is_expression (kind_of levels)) (backwards (trees_of levels)) || e.newline) (sign-told before_kind q refl) (sign-told after_kind q refl))
      (answer (eqb e.which colon_sign) (ltb 0 (unanswered (backwards (trees_of levels)))) refl))
    where
      P : ℕ → Type 0
      P kind = ToldAs text e kind

      answer : (colon asked : Bool) → eqb e.which colon_sign ≡ colon → P (cond (colon && asked) answer_kind sign_kind)
      answer true true w = colon_told q (eqb-true e.which colon_sign w)
      answer true false w = sign-told sign_kind q refl
      answer false asked w = sign-told sign_kind q refl

  -- a record shows no difference between names
  name_recorded : (none : Bool) → record_class (cond none name word_name) ≡ name
  name_recorded true = refl
  name_recorded false = refl

  -- any other element is of its own kind
  other_settled : (levels : Levels) (kind : ℕ) → e.kind ≡ kind → eqb kind sign_kind ≡ false → ToldAs text e kind → ToldAs text e (settled_in levels e).kind
  unfolding settled_kind
  other_settled levels kind q other t =
      let same : (settled_in levels e).kind ≡ kind = rw (q, other) in
      rw same t

  pub found_told : (levels : Levels) → (e.kind ≡ 0 → ⊥) → ToldAs text e (settled_in levels e).kind
  unfolding class_of class_by kind_by
  found_told levels some =
      let P : ℕ → Type 0 = λ k. e.kind ≡ k → ToldAs text e (settled_in levels e).kind in
      or_more P name_kind (λ q. other_settled levels name_kind q refl (record { told = rw (q, name_recorded (eqb e.which 0)); element = rw (q, name_recorded (eqb e.which 0)) tt; no_closer = rw q }))
      (or_more P word_kind (λ q. other_settled levels word_kind q refl (word-told q))
      (or_more P number_kind (λ q. other_settled levels number_kind q refl (record { told = rw q; element = rw q tt; no_closer = rw q }))
      (or_more P string_kind (λ q. other_settled levels string_kind q refl (record { told = rw q; element = rw q tt; no_closer = rw q }))
      (or_more P pattern_kind (λ q. other_settled levels pattern_kind q refl (record { told = rw q; element = rw q tt; no_closer = rw q }))
      (or_more P sign_kind (λ q. sign_settled levels q)
      (λ h. absurd (omega (arith, found_kind text place given e found))))))))
      (omega arith) refl

  -- so an element on levels is told by its settled kind
  pub settled_told : (levels : Levels) → (e.kind ≡ 0 → ⊥) → Told text (settled_in levels e)
  settled_told levels some =
      let t = found_told levels some in
      let same : unsettled (settled_in levels e) ≡ e = unsettled_again levels e (found_kind text place given e found) in
      record { told = t.told ∙ ap (λ (x : Element). record_class (class_of x)) (sym same); element = subst (λ (x : Element). T (is_element (record_class (class_of x)))) (sym same) t.element; no_closer = ap is_closer same ∙ t.no_closer }

-- a group's opener and closer, by the kind alone
pub record GroupTold (kind : ℕ) : Type 0 where
  pub opener : (len b last first : ℕ) (newline : Bool) → class_by kind len b last ≡ record_class (class_of (opener_of kind first newline))
  pub closer : (len b last end : ℕ) → class_by kind len b last + 1 ≡ record_class (class_of (closer_of kind end))
  pub opens : (len b last : ℕ) → T (is_opener (class_by kind len b last))
  pub opener_opens : (first : ℕ) (newline : Bool) → is_closer (opener_of kind first newline) ≡ false
  pub closer_closes : (end : ℕ) → is_closer (closer_of kind end) ≡ true

pub group_told : (kind : ℕ) → 7 ≤ kind → kind ≤ 10 → GroupTold kind
unfolding class_of class_by kind_by longest_sign longest_of same
group_told kind low high =
    or_more GroupTold paren_kind
    (record { opener = λ len b last first newline. refl; closer = λ len b last end. refl; opens = λ len b last. tt; opener_opens = λ first newline. refl; closer_closes = λ end. refl })
    (or_more GroupTold object_kind
    (record { opener = λ len b last first newline. refl; closer = λ len b last end. refl; opens = λ len b last. tt; opener_opens = λ first newline. refl; closer_closes = λ end. refl })
    (or_more GroupTold block_kind
    (record { opener = λ len b last first newline. refl; closer = λ len b last end. refl; opens = λ len b last. tt; opener_opens = λ first newline. refl; closer_closes = λ end. refl })
    (or_more GroupTold bracket_kind
    (record { opener = λ len b last first newline. refl; closer = λ len b last end. refl; opens = λ len b last. tt; opener_opens = λ first newline. refl; closer_closes = λ end. refl })
    (λ h. absurd (omega arith)))))
    low
