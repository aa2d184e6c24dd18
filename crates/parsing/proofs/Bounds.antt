-- The count of an accepted parsing, and the place of a refused one, are small.
use Rattle.std.specs.Prelude.{Ok, Some}
use mathlib.Core.Path.{◌≡◌, ap}
use mathlib.Core.List.{List, [], ◌∷◌, ◌++◌}
use mathlib.Core.Bool.{Bool, false}
use Prim.Native.Nat.{ℕ, ◌≤◌}
use native.Mathlib.Omega.{arith}
use lib.ListN.{length}
use Rattle.answers.specs.Answers.{value_of}
use Rattle.elements.specs.Elements.{stating, element_at}
use Rattle.elements.specs.declared.Element.{Element}
use Rattle.elements.specs.declared.Stated.{Stated}
use Rattle.elements.proofs.Bounds.{found_placed}
use Rattle.reading.specs.Read.{most_bytes, read_limits}
use Rattle.reading.proofs.Theorems.{refused_place}
use Rattle.derivations.specs.Cuts.{recorded, Cuts, cut_end, cut_element, cut_slash, cut_word}
use Rattle.machine.specs.Syntax.{size}
use Rattle.derivations.proofs.ReadCuts.{reading_cuts}
use Rattle.parsing.specs.Parse.{Parsing, parsing_for, answer_of}
use Rattle.parsing.proofs.AcceptedReadings.{accepted_reading}
use Rattle.parsing.specs.Verdict.{Refuses, at_element, at_end, Verdict, as_read, no-program, syntax-full, accepts}
use Rattle.parsing.proofs.Theorems.{verdict}

-- the elements that a text is cut into stand in it
one_within : (text : List ℕ) (place : ℕ) (given : Stated) (f e : Element) → element_at text place given ≡ Ok (Some f) → recorded f ≡ e → e.first ≤ length text
one_within text place given f e found same = omega (arith, ap Element.first same, found_placed text place given f found)

first_within : (text : List ℕ) {place : ℕ} {choice : List Bool} {es : List Element} → Cuts text place choice es
    → (before : List Element) (e : Element) (rest : List Element) → es ≡ before ++ (e ∷ rest) → e.first ≤ length text
first_within text (cut_end x) [] e rest q = absurd (let z : ◌≡◌ {A = ℕ} 0 1 = cc in omega arith)
first_within text (cut_end x) (b ∷ before) e rest q = absurd (let z : ◌≡◌ {A = ℕ} 0 1 = cc in omega arith)
first_within text (cut_element {place} {e = f} s w found more) [] e rest q = one_within text place (stating false false) f e found (cc)
first_within text (cut_element s w found more) (b ∷ before) e rest q = first_within text more before e rest (cc)
first_within text (cut_slash {place} {e = f} {answer} m found more) [] e rest q = one_within text place (stating answer false) f e found (cc)
first_within text (cut_slash m found more) (b ∷ before) e rest q = first_within text more before e rest (cc)
first_within text (cut_word {place} {e = f} {answer} m found more) [] e rest q = one_within text place (stating false answer) f e found (cc)
first_within text (cut_word m found more) (b ∷ before) e rest q = first_within text more before e rest (cc)

pub value_small : (text : List ℕ) (tree_cells syntaxCells : ℕ) → value_of (answer_of (parsing_for text tree_cells syntaxCells)) ≤ most_bytes
value_small text tree_cells syntaxCells = by (verdict text tree_cells syntaxCells)
  where
    place_small : {es : List Element} {place : ℕ} {choice : List Bool} → length text ≤ most_bytes → Cuts text 0 choice es → Refuses text es place → place ≤ most_bytes
    place_small short cut (at_element before e rest split begins none) = omega (arith, first_within text cut before e rest split)
    place_small short cut (at_end begins) = short

    by : {q : Parsing} → Verdict text tree_cells syntaxCells q → value_of (answer_of q) ≤ most_bytes
    by (as_read {number = number} {place = place} r) = refused_place text tree_cells number place r
    by (no-program n) =
        let a = accepted_reading text tree_cells n.trees n.reads in
        place_small a.short (reading_cuts text (read_limits tree_cells) n.trees a.reads).cut n.first
    by (syntax-full f) = (accepted_reading text tree_cells f.trees f.reads).short
    by (accepts a) = omega (arith, a.limits.few_parts, ap size a.same_syntax)
