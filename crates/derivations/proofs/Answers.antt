-- A choice, read off the elements that it gives: a slash is answered by whether the element that it starts is a regular expression, a reserved word
-- by whether it is a name.
use Rattle.std.specs.Prelude.{Ok, Some}
use mathlib.Core.Path.{◌≡◌, refl, sym, ap, ◌∙◌}
use mathlib.Core.List.{List}
use mathlib.Core.Bool.{Bool, true, false, cond, not, and-false, ◌&&◌}
use Prim.Native.Nat.{ℕ}
use borrow.Author.Tests.{eq-eqb, ne_eqb, eqb-true}
use native.Mathlib.Omega.{arith}
use lib.Dec.{eqb}
use lib.ListN.{get_or}
use Rattle.text.specs.Quoted.{byte}
use Rattle.elements.specs.Elements.{stating, element_at, slash_after, slash_met, word_met, name_kind, word_kind, pattern_kind}
use Rattle.elements.specs.declared.Element.{Element}
use Rattle.elements.specs.declared.Stated.{Stated}
use Rattle.elements.proofs.OwnBytes.{found_gap}
use Rattle.elements.proofs.Slashes.{divide_found, pattern_found}
use Rattle.elements.proofs.StatedAnswers.{word_no_slash, Reserved, found_reserved}
use Rattle.derivations.specs.Cuts.{Cuts, cut_end, cut_element, cut_slash, cut_word}
use Rattle.derivations.specs.Demand3.{is_reserved, answers_of}

module _ (text : List ℕ) where
  -- a slash is met where an element starts with one
  met_first : (place : ℕ) (given : Stated) (e : Element) → element_at text place given ≡ Ok (Some e) → slash_met text place ≡ eqb (get_or text e.first 0) (byte "/")
  unfolding slash_met
  met_first place given e f = ap (slash_after text) (found_gap text place given e f).0

  -- a reserved word is met where an element is one
  met_reserved : (met asName : Bool) (e : Element) → Reserved met asName e → is_reserved e ≡ met
  met_reserved true true e r = let k = r.reserved refl in rw (ne_eqb e.which 0 k.1, k.0)
  met_reserved true false e r = let k = r.reserved refl in rw (ne_eqb e.which 0 k.1, k.0)
  met_reserved false asName e r = let k = r.other refl in rw (ne_eqb e.kind word_kind k.0) (go (eqb e.kind name_kind) refl k.1)
    where
      go : (is : Bool) → eqb e.kind name_kind ≡ is → (e.kind ≡ name_kind → e.which ≡ 0) → (not (eqb e.which 0) && is) ≡ false
      go true q k = rw (k (eqb-true e.kind name_kind q))
      go false q k = and-false (not (eqb e.which 0))

  pub answer-kind : (place : ℕ) (answer : Bool) (e : Element) → slash_met text place ≡ true → element_at text place (stating answer false) ≡ Ok (Some e)
      → answer ≡ eqb e.kind pattern_kind
  answer-kind place true e m f = sym (eq-eqb e.kind pattern_kind (pattern_found text place false m e f))
  answer-kind place false e m f =
      let d = divide_found text place false m e f in
      sym (ne_eqb e.kind pattern_kind (λ p. absurd (omega (arith, d.kind))))

  word-kind : (place : ℕ) (answer : Bool) (e : Element) → word_met text place ≡ true → element_at text place (stating false answer) ≡ Ok (Some e)
      → answer ≡ eqb e.kind name_kind
  word-kind place answer e m f = go answer ((found_reserved text place (stating false answer) e f).reserved m).0
    where
      go : (a : Bool) → e.kind ≡ cond a name_kind word_kind → a ≡ eqb e.kind name_kind
      go true k = rw k
      go false k = rw k

  pub choice_answers : {place : ℕ} {choice : List Bool} {es : List Element} → Cuts text place choice es → choice ≡ answers_of text es
  choice_answers (cut_end x) = refl
  choice_answers (cut_element {place} {e} s w f rest) =
      rw (sym (met_first place (stating false false) e f) ∙ s, met_reserved (word_met text place) false e (found_reserved text place (stating false false) e f) ∙ w) (choice_answers rest)
  choice_answers (cut_slash {place} {e} {answer} {choice} m f rest) =
      rw (sym (met_first place (stating answer false) e f) ∙ m, sym (answer-kind place answer e m f), choice_answers rest)
  choice_answers (cut_word {place} {e} {answer} {choice} m f rest) =
      rw (
        sym (met_first place (stating false answer) e f) ∙ word_no_slash text place m,
        met_reserved (word_met text place) answer e (found_reserved text place (stating false answer) e f) ∙ m,
        sym (word-kind place answer e m f),
        choice_answers rest,
      )
