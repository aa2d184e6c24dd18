-- The elements of a text begin a program exactly as long as the machine follows them.
use Rattle.std.specs.Prelude.{Ok, Some}
use mathlib.Core.Path.{◌≡◌, refl, sym, ap, subst, ◌∙◌}
use mathlib.Core.List.{List, [], ◌∷◌, ◌++◌}
use mathlib.Core.Bool.{Bool, false, cond}
use Prim.Native.Nat.{ℕ, ◌+◌}
use native.Mathlib.Omega.{arith}
use Rattle.elements.specs.Elements.{stating, element_at}
use Rattle.elements.specs.declared.Element.{Element}
use Rattle.elements.specs.declared.Stated.{Stated}
use Rattle.derivations.specs.Cuts.{is_closer, recorded, Cuts, cut_end, cut_element, cut_slash, cut_word, CutsInto}
use Rattle.derivations.specs.Tokens.{Token, class_of, token_of, tokens_from, tokens}
use Rattle.grammar.specs.Grammar.{Program}
use Rattle.derivations.specs.Derivations.{SameElements, no_elements, same_element, BeginsProgram}
use Rattle.machine.specs.Machinery.Machine.{State, dead, live, Control, Frame, Open, finished, consume, run, start}
use Rattle.grammar.proofs.Alike.{Alike, alike, alike_live, alike_dead, take_alike}
use Rattle.derivations.proofs.Spelling.{spelled, placed_from, spelled_cuts, behind_all, placed_append}
use Rattle.derivations.proofs.Respelled.{Pieces, piece_more}
use Rattle.derivations.proofs.CompletedTexts.{completed}
use Rattle.grammar.proofs.Viable.{viable, refused}
use Rattle.grammar.proofs.Unfinished.{unfinished}
use Rattle.derivations.proofs.TokenLaws.{tokens_before_end}

class_same : (e f : Element) → e.kind ≡ f.kind → e.which ≡ f.which → class_of e ≡ class_of f
unfolding class_of
class_same e f k w = rw (k, w)

closer_same : (e f : Element) → e.kind ≡ f.kind → e.which ≡ f.which → is_closer e ≡ is_closer f
closer_same e f k w = rw (k, w)

-- the machine takes elements alike that differ in their places alone
element_alike : (mark : ℕ) (e f : Element) → class_of e ≡ class_of f → e.newline ≡ f.newline → {state other : State} → Alike state other
    → Alike (consume state (token_of mark e)) (consume other (token_of mark f))
element_alike mark e f c l a = rw (c, l) (take_alike f.newline mark e.first f.first (class_of f) a)

pub run_alike : {s t : List ℕ} {es fs : List Element} → SameElements s t es fs → (mark : ℕ) {state other : State} → Alike state other
    → Alike (run state (tokens_from mark es)) (run other (tokens_from mark fs))
unfolding tokens_from
run_alike no_elements mark a = a
run_alike (same_element {e} {f} {es} {fs} same rest) mark {state} {other} a =
    subst (λ (b : Bool). Alike (run (consume state (token_of mark e)) (tokens_from (cond b mark (mark + 1)) es)) (run (consume other (token_of mark f)) (tokens_from (cond (is_closer f) mark (mark + 1)) fs)))
    (sym (closer_same e f same.kind same.which))
    (run_alike rest (cond (is_closer f) mark (mark + 1))
    (element_alike mark e f (class_same e f same.kind same.which) same.newline a))

-- tokens of elements one after the other
abbrev marks_after : ℕ → List Element → ℕ
marks_after mark [] = mark
marks_after mark (e ∷ es) = marks_after (cond (is_closer e) mark (mark + 1)) es

pub tokens_append : (mark : ℕ) (es fs : List Element) → tokens_from mark (es ++ fs) ≡ tokens_from mark es ++ tokens_from (marks_after mark es) fs
unfolding tokens_from
tokens_append mark [] fs = refl
tokens_append mark (e ∷ es) fs = ap (◌∷◌ (token_of mark e)) (tokens_append (cond (is_closer e) mark (mark + 1)) es fs)

-- the first elements of a text, as pieces
module _ (s : List ℕ) where
  one_more : (place : ℕ) (e g : Element) (es : List Element) (given : Stated) → element_at s place given ≡ Ok (Some e) → Pieces s es → recorded e ≡ g → Pieces s (g ∷ es)
  one_more place e g es given f rest q = subst (λ (x : Element). Pieces s (x ∷ es)) q (piece_more s place e es given f rest)

  first_pieces : {place : ℕ} {choice : List Bool} {all : List Element} → Cuts s place choice all → (es rest : List Element) → all ≡ es ++ rest → Pieces s es
  first_pieces cut [] rest q = record { pieces = []; same = λ u more. no_elements }
  first_pieces (cut_end x) (e ∷ es) rest q = absurd (let z : ◌≡◌ {A = ℕ} 0 1 = cc in omega arith)
  first_pieces (cut_element {place} {e} slash word f cut) (g ∷ es) rest q = one_more place e g es (stating false false) f (first_pieces {place = e.end} cut es rest (cc)) (cc)
  first_pieces (cut_slash {place} {e} {answer} m f cut) (g ∷ es) rest q = one_more place e g es (stating answer false) f (first_pieces {place = e.end} cut es rest (cc)) (cc)
  first_pieces (cut_word {place} {e} {answer} m f cut) (g ∷ es) rest q = one_more place e g es (stating false answer) f (first_pieces {place = e.end} cut es rest (cc)) (cc)

module _ (s : List ℕ) (all es rest : List Element) (cuts : CutsInto s 0 all) (split : all ≡ es ++ rest) where
  -- as long as it follows them, some text begins so and is a program
  pub begins : (control : Control) (f : Frame) (around : List Open) → run start (tokens es) ≡ live control f around → (control ≡ finished → ⊥) → BeginsProgram s es
  begins control f around r going =
      let p = first_pieces s cuts.cut es rest split in
      let firsts = placed_from 0 p.pieces in
      let v = viable (tokens firsts) control f around (alike_live (run_alike (p.same [] []) 0 alike) r) going in
      let c = completed v.spelled in
      let more = placed_from (behind_all 0 p.pieces) c.pieces in
      let cut = spelled_cuts [] (p.pieces ++ c.pieces) in
      let program = v.completes (tokens_from (marks_after 0 firsts) more) (c.are (marks_after 0 firsts) (behind_all 0 p.pieces)) in
      let elements = placed_append 0 p.pieces c.pieces in
      record {
        other = spelled (p.pieces ++ c.pieces);
        derivation = record {
          choice = cut.choice;
          elements = placed_from 0 (p.pieces ++ c.pieces);
          cut = cut.cut;
          parts = program.0;
          steps = subst (λ (ts : List Token). Program ts program.0) (sym (ap tokens elements ∙ tokens_append 0 firsts more)) program.1;
        };
        firsts = firsts;
        more = more;
        starts = elements;
        same = p.same [] c.pieces;
      }

-- where it follows them no longer, none does
pub begins_not : (s : List ℕ) (es : List Element) {place : ℕ} → run start (tokens es) ≡ dead place → BeginsProgram s es → ⊥
begins_not s es r b =
    refused (tokens b.firsts) (alike_dead (run_alike b.same 0 alike) r).1 (tokens_from (marks_after 0 b.firsts) b.more) b.derivation.parts
    (subst (λ (ts : List Token). Program ts b.derivation.parts) (ap tokens b.starts ∙ tokens_append 0 b.firsts b.more) b.derivation.steps)

-- no element is the end of the text
pub still_going : (es : List Element) (control : Control) (f : Frame) (around : List Open) → run start (tokens es) ≡ live control f around → control ≡ finished → ⊥
still_going es control f around r = unfinished (tokens_before_end 0 es) control f around r

-- the first of two lists of elements, by the same in another text
pub record Front (text other : List ℕ) (es whole : List Element) : Type 0 where
  pub front : List Element
  pub back : List Element
  pub all : whole ≡ front ++ back
  pub same : SameElements text other es front

pub same_split : {text other : List ℕ} (es fs : List Element) {whole : List Element} → SameElements text other (es ++ fs) whole → Front text other es whole
same_split [] fs {whole} s = record { front = []; back = whole; all = refl; same = no_elements }
same_split (e ∷ es) fs (same_element {f = f} one rest) =
    let r = same_split es fs rest in
    record { front = f ∷ r.front; back = r.back; all = ap (◌∷◌ f) r.all; same = same_element one r.same }
