-- A reading that is accepted cuts the text by a choice: the prefix rule's answers.
use Rattle.std.specs.Prelude.{Ok, Err, Some, None}
use mathlib.Core.Path.{◌≡◌, refl, sym, subst, ◌∙◌}
use mathlib.Core.List.{List, [], ◌∷◌, ◌++◌, append_assoc, append-nil}
use mathlib.Core.Bool.{Bool, true, false, false≢true, ◌&&◌}
use Prim.Native.Nat.{ℕ, zero, suc, ◌+◌, ◌≤◌, ◌<◌}
use native.Mathlib.Omega.{arith}
use lib.ListN.{length}
use Rattle.elements.specs.Elements.{stating, element_at, slash_met, word_met}
use Rattle.elements.specs.declared.Element.{Element}
use Rattle.elements.specs.Elements.{Next}
use Rattle.elements.specs.declared.Stated.{Stated}
use Rattle.elements.proofs.Bounds.{Placed, found_placed}
use Rattle.elements.proofs.FoundKinds.{found_kind}
use Rattle.elements.proofs.Delimiters.{delimiter_byte, delimiter_which}
use Rattle.elements.proofs.StatedAnswers.{as_asked, slash_no_word, end_always}
use Rattle.rule.specs.Trees.{Trees, none}
use Rattle.rule.specs.Levels.{Levels, whole_text, inside, stated_by}
use Rattle.prefix.specs.Reading.{Limits, Step, stop, more, step, accepted, ending, read_on, reading}
use Rattle.prefix.proofs.ReadingLaws.{read_end, read_fault, read_stop, read_more}
use Rattle.derivations.specs.Cuts.{CutsInto, recorded, cut_end, cut_element, cut_slash, cut_word}
use Rattle.derivations.specs.TreeElements.{elements_of}
use Rattle.derivations.proofs.SoFar.{elements_so_far, step_elements}

-- one element more in front, whatever was stated
pub cut_more : (bytes : List ℕ) (place : ℕ) (e : Element) (es : List Element) (given : Stated) → element_at bytes place given ≡ Ok (Some e)
    → CutsInto bytes e.end es → CutsInto bytes place (recorded e ∷ es)
cut_more bytes place e es given found rest = go (slash_met bytes place) (word_met bytes place) refl refl (sym (as_asked bytes place given) ∙ found)
  where
    go : (slash word : Bool) → slash_met bytes place ≡ slash → word_met bytes place ≡ word
        → element_at bytes place (stating (slash && given.pattern) (word && given.name)) ≡ Ok (Some e) → CutsInto bytes place (recorded e ∷ es)
    go true true s w f = absurd (false≢true (sym (slash_no_word bytes place s) ∙ w))
    go true false s w f = record { choice = given.pattern ∷ rest.choice; cut = cut_slash s f rest.cut }
    go false true s w f = record { choice = given.name ∷ rest.choice; cut = cut_word w f rest.cut }
    go false false s w f = record { choice = rest.choice; cut = cut_element s w f rest.cut }

-- the elements that follow the levels so far, up to the text's end
record Follows (bytes : List ℕ) (levels : Levels) (place : ℕ) (trees : Trees) : Type 0 where
  es : List Element
  cuts : CutsInto bytes place es
  same : elements_of trees ≡ elements_so_far levels ++ es

module _ (bytes : List ℕ) (limits : Limits) (trees : Trees) where
  ends : (levels : Levels) (place : ℕ) → element_at bytes place (stated_by levels) ≡ Ok None → ending levels ≡ accepted trees → Follows bytes levels place trees
  ends (whole_text trees) place e a =
      record {
        es = [];
        cuts = record { choice = []; cut = cut_end (end_always bytes place (stated_by (whole_text trees)) (stating false false) e) };
        same = cc (append-nil (elements_of trees));
      }
  ends (inside around kind first newline trees) place e a = absurd (let z : ◌≡◌ {A = ℕ} 0 1 = cc in omega arith)

  cuts_on : (fuel : ℕ) (levels : Levels) (place : ℕ) → length bytes < place + fuel → place ≤ length bytes
      → read_on bytes limits fuel levels place ≡ accepted trees → Follows bytes levels place trees
  cuts_on zero levels place enough h a = absurd (omega arith)
  cuts_on (suc fuel) levels place enough h a = found (element_at bytes place (stated_by levels)) refl (λ after next enough h a. cuts_on fuel after next enough h a)
    where
      Rest : Type 0
      Rest = (after : Levels) (next : ℕ) → length bytes < next + fuel → next ≤ length bytes → read_on bytes limits fuel after next ≡ accepted trees → Follows bytes after next trees

      stepped : (e : Element) (y : Step) → element_at bytes place (stated_by levels) ≡ Ok (Some e) → step limits levels e ≡ y → Rest → Follows bytes levels place trees
      stepped e (stop n q) f s rest = absurd (let z : ◌≡◌ {A = ℕ} 0 1 = cc (read_stop bytes limits fuel levels place e f n q s) in omega arith)
      stepped e (more after) f s rest =
          let p : Placed bytes place e = found_placed bytes place (stated_by levels) e f in
          let r = rest after e.end (omega arith) p.within (sym (read_more bytes limits fuel levels place e f after s) ∙ a) in
          record {
            es = recorded e ∷ r.es;
            cuts = cut_more bytes place e r.es (stated_by levels) f r.cuts;
            same = r.same
                ∙ rw (step_elements limits levels e (found_kind bytes place (stated_by levels) e f) (delimiter_byte bytes place (stated_by levels) e f) (delimiter_which bytes place (stated_by levels) e f) after s)
                (append_assoc (elements_so_far levels) (recorded e ∷ []) r.es);
          }

      found : (next : Next) → element_at bytes place (stated_by levels) ≡ next → Rest → Follows bytes levels place trees
      found (Ok None) f rest = ends levels place f (sym (read_end bytes limits fuel levels place f) ∙ a)
      found (Err fault) f rest = absurd (let z : ◌≡◌ {A = ℕ} 0 1 = cc (read_fault bytes limits fuel levels place fault f) in omega arith)
      found (Ok (Some e)) f rest = stepped e (step limits levels e) f refl rest

  pub reading_cuts : reading bytes limits ≡ accepted trees → CutsInto bytes 0 (elements_of trees)
  unfolding reading elements_of
  reading_cuts a =
      let r = cuts_on (suc (length bytes)) (whole_text none) 0 (omega arith) (omega arith) a in
      subst (λ (es : List Element). CutsInto bytes 0 es) (sym r.same) r.cuts
