-- The regular expressions that a choice takes and the words that it keeps, read off the elements that it gives.
use mathlib.Core.Path.{◌≡◌, refl, sym, ap, ◌∙◌}
use mathlib.Core.List.{List, [], ◌∷◌, ◌++◌}
use mathlib.Core.Bool.{Bool, true, false, false≢true, cond}
use Prim.Native.Nat.{ℕ}
use borrow.Author.Tests.{ne_eqb}
use Rattle.elements.specs.Elements.{stating, name_kind, word_kind, pattern_kind}
use Rattle.elements.specs.declared.Element.{Element}
use Rattle.elements.proofs.Slashes.{pattern_slash}
use Rattle.elements.proofs.StatedAnswers.{slash_no_word, found_reserved}
use Rattle.derivations.specs.Cuts.{Cuts, cut_end, cut_element, cut_slash, cut_word}
use Rattle.derivations.proofs.Answers.{answer-kind}
use Rattle.shown.specs.Shown.{pattern_of, patterns_of, word_of, words_of}

-- what elements show, each by its kind and first byte
abbrev pub among : (ℕ → ℕ → List ℕ) → List Element → List ℕ
among show [] = []
among show (e ∷ es) = show e.kind e.first ++ among show es

pub cut_patterns : {text : List ℕ} {place : ℕ} {choice : List Bool} {es : List Element} (cut : Cuts text place choice es) → among pattern_of es ≡ patterns_of cut
unfolding patterns_of
cut_patterns (cut_end x) = refl
cut_patterns {text} (cut_element {place} {e} s w f rest) =
    rw (ne_eqb e.kind pattern_kind (λ k. absurd (false≢true (pattern_slash text place (stating false false) e f k).0))) (cut_patterns rest)
cut_patterns {text} (cut_slash {place} {e} {answer} m f rest) = rw (sym (answer-kind text place answer e m f), cut_patterns rest)
cut_patterns {text} (cut_word {place} {e} {answer} m f rest) =
    rw (ne_eqb e.kind pattern_kind (λ k. absurd (false≢true (pattern_slash text place (stating false answer) e f k).0))) (cut_patterns rest)

pub cut_words : {text : List ℕ} {place : ℕ} {choice : List Bool} {es : List Element} (cut : Cuts text place choice es) → among word_of es ≡ words_of cut
unfolding words_of
cut_words (cut_end x) = refl
cut_words {text} (cut_element {place} {e} s w f rest) =
    rw (ne_eqb e.kind word_kind ((found_reserved text place (stating false false) e f).other w).0) (cut_words rest)
cut_words {text} (cut_slash {place} {e} {answer} m f rest) =
    rw (ne_eqb e.kind word_kind ((found_reserved text place (stating answer false) e f).other (slash_no_word text place m)).0) (cut_words rest)
cut_words {text} (cut_word {place} {e} {answer} {es = es} m f rest) =
    ap (λ (found : List ℕ). found ++ among word_of es) (go answer ((found_reserved text place (stating false answer) e f).reserved m).0)
    ∙ ap (λ (more : List ℕ). cond answer [] (e.first ∷ []) ++ more) (cut_words rest)
  where
    go : (a : Bool) → e.kind ≡ cond a name_kind word_kind → word_of e.kind e.first ≡ cond a [] (e.first ∷ [])
    go true k = rw k
    go false k = rw k
