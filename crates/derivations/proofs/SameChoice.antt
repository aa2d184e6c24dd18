-- The elements that a text is cut into tell the choice.
use Rattle.std.specs.Prelude.{Ok, Some}
use mathlib.Core.Path.{◌≡◌, refl, sym, ap, subst, ◌∙◌}
use mathlib.Core.List.{List, [], ◌∷◌}
use mathlib.Core.Bool.{Bool, true, false, false≢true, cond}
use Prim.Native.Nat.{ℕ}
use native.Mathlib.Omega.{arith}
use Rattle.elements.specs.Elements.{Next, stating, element_at, slash_met, word_met, name_kind, word_kind}
use Rattle.elements.specs.declared.Element.{Element}
use Rattle.elements.proofs.Slashes.{divide_found, pattern_found}
use Rattle.elements.proofs.StatedAnswers.{slash_no_word, found_reserved}
use Rattle.derivations.specs.Cuts.{Cuts, cut_end, cut_element, cut_slash, cut_word}

abbrev kind_of_first : List Element → ℕ
kind_of_first [] = 0
kind_of_first (e ∷ es) = e.kind

module _ (bytes : List ℕ) where
  -- a slash that is found of a kind was answered so, and so was a reserved word
  same_answer : (place : ℕ) (a b : Bool) (e f : Element) → slash_met bytes place ≡ true
      → element_at bytes place (stating a false) ≡ Ok (Some e) → element_at bytes place (stating b false) ≡ Ok (Some f) → e.kind ≡ f.kind → a ≡ b
  same_answer place true true e f m x y k = refl
  same_answer place false false e f m x y k = refl
  same_answer place true false e f m x y k = absurd (let p = pattern_found bytes place false m e x in let d = divide_found bytes place false m f y in omega (arith, d.kind))
  same_answer place false true e f m x y k = absurd (let p = pattern_found bytes place false m f y in let d = divide_found bytes place false m e x in omega (arith, d.kind))

  same_word : (place : ℕ) (a b : Bool) (e f : Element) → word_met bytes place ≡ true
      → element_at bytes place (stating false a) ≡ Ok (Some e) → element_at bytes place (stating false b) ≡ Ok (Some f) → e.kind ≡ f.kind → a ≡ b
  same_word place a b e f m x y k =
      go a b (sym ((found_reserved bytes place (stating false a) e x).reserved m).0 ∙ k ∙ ((found_reserved bytes place (stating false b) f y).reserved m).0)
    where
      go : (a b : Bool) → cond a name_kind word_kind ≡ cond b name_kind word_kind → a ≡ b
      go true true q = refl
      go false false q = refl
      go true false q = absurd (omega arith)
      go false true q = absurd (omega arith)

  -- the rest of both, from the same place on
  behind : {choice : List Bool} {es : List Element} (e f : Element) → ◌≡◌ {A = Next} (Ok (Some e)) (Ok (Some f)) → Cuts bytes f.end choice es → Cuts bytes e.end choice es
  behind {choice} {es} e f same c = subst (λ (n : ℕ). Cuts bytes n choice es) (cc) c

  -- at a place stands the text's end, a slash, a reserved word or neither of these
  never : {A : Type 0} {e : Element} {es : List Element} → [] ≡ e ∷ es → A
  never q = absurd (let z : ◌≡◌ {A = ℕ} 0 1 = cc in omega arith)

  apart : {A : Type 0} {b : Bool} → b ≡ true → b ≡ false → A
  apart p q = absurd (false≢true (sym q ∙ p))

  pub same_choice : {place : ℕ} {c d : List Bool} {es fs : List Element} → Cuts bytes place c es → Cuts bytes place d fs → es ≡ fs → c ≡ d
  same_choice (cut_end x) (cut_end y) q = refl
  same_choice (cut_end x) (cut_element s w y z) q = never q
  same_choice (cut_end x) (cut_slash m y z) q = never q
  same_choice (cut_end x) (cut_word m y z) q = never q
  same_choice (cut_element s w x z) (cut_end y) q = never (sym q)
  same_choice (cut_element {e = e} s w x z) (cut_element {e = f} t v y u) q = same_choice z (behind e f (sym x ∙ y) u) (cc)
  same_choice (cut_element s w x z) (cut_slash n y u) q = apart n s
  same_choice (cut_element s w x z) (cut_word n y u) q = apart n w
  same_choice (cut_slash m x z) (cut_end y) q = never (sym q)
  same_choice (cut_slash m x z) (cut_element s w y u) q = apart m s
  same_choice (cut_slash {place} {e} {answer = a} {choice = c} m x z) (cut_slash {e = f} {answer = b} {choice = d} n y u) q =
      let k : e.kind ≡ f.kind = ap kind_of_first q in
      let same : a ≡ b = same_answer place a b e f m x y k in
      let rest : c ≡ d = same_choice z (behind e f (sym x ∙ rw same y) u) (cc) in
      cc
  same_choice (cut_slash {place} m x z) (cut_word n y u) q = apart n (slash_no_word bytes place m)
  same_choice (cut_word m x z) (cut_end y) q = never (sym q)
  same_choice (cut_word m x z) (cut_element s w y u) q = apart m w
  same_choice (cut_word {place} m x z) (cut_slash n y u) q = apart m (slash_no_word bytes place n)
  same_choice (cut_word {place} {e} {answer = a} {choice = c} m x z) (cut_word {e = f} {answer = b} {choice = d} n y u) q =
      let k : e.kind ≡ f.kind = ap kind_of_first q in
      let same : a ≡ b = same_word place a b e f m x y k in
      let rest : c ≡ d = same_choice z (behind e f (sym x ∙ rw same y) u) (cc) in
      cc
