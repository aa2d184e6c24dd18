-- The elements of a text, spelled anew: the same kinds, newline flags and bytes.
use Rattle.std.specs.Prelude.{Ok, Some}
use mathlib.Core.Path.{◌≡◌, refl, sym, ap, subst, ◌∙◌}
use mathlib.Core.List.{List, [], ◌∷◌, ◌++◌, append_assoc}
use Prim.Native.Nat.{ℕ, ◌+◌, ◌-◌}
use native.Mathlib.Omega.{arith}
use lib.ListN.{length, take, drop, length-append}
use lib.Seq.{take_at, drop_at}
use Rattle.elements.specs.Elements.{element_at}
use Rattle.elements.specs.declared.Element.{Element}
use Rattle.elements.specs.declared.Stated.{Stated}
use Rattle.derivations.specs.Cuts.{recorded}
use Rattle.derivations.specs.Derivations.{SameElements, same_element}
use Rattle.derivations.proofs.Spelling.{Piece, spelling, before, spelled, moved, placed_from, bytes_length, written, written_length, written_text}

-- the bytes of a piece stand where it was written
piece_bytes : (u : List ℕ) (p : Piece) (ps : List Piece)
    → spelling p ≡ take ((moved (length u) p).end - (moved (length u) p).first) (drop (moved (length u) p).first (u ++ spelled (p ∷ ps)))
unfolding spelled
piece_bytes u p ps =
    let size = p.element.end - p.element.first in
    let seam : drop (length u + 1) (u ++ before p ∷ (spelling p ++ spelled ps)) ≡ spelling p ++ spelled ps =
    ap (drop (length u + 1)) (sym (append_assoc u (before p ∷ []) (spelling p ++ spelled ps)))
    ∙ drop_at (u ++ (before p ∷ [])) (spelling p ++ spelled ps) (length u + 1) (length-append u (before p ∷ [])) in
    rw seam (sym (take_at (spelling p) (spelled ps) (length u + 1 + size - (length u + 1)) (bytes_length p ∙ omega arith)))

-- the elements of a text from a place on, as pieces
pub record Pieces (s : List ℕ) (es : List Element) : Type 0 where
  pub pieces : List Piece
  pub same : (u : List ℕ) (more : List Piece) → SameElements s (u ++ spelled (pieces ++ more)) es (placed_from (length u) pieces)

module _ (s : List ℕ) where
  pub piece_more : (place : ℕ) (e : Element) (es : List Element) (given : Stated) → element_at s place given ≡ Ok (Some e) → Pieces s es → Pieces s (recorded e ∷ es)
  piece_more place e es given f rest =
      let p : Piece = record { source = s; place = place; given = given; element = e; found = f; newline = e.newline } in
      record {
        pieces = p ∷ rest.pieces;
        same = λ u more.
            same_element (record { kind = refl; which = refl; newline = refl; bytes = piece_bytes u p (rest.pieces ++ more) })
            (subst (λ (n : ℕ). SameElements s (u ++ spelled (p ∷ (rest.pieces ++ more))) es (placed_from n rest.pieces)) (written_length u p (rest.pieces ++ more))
            (subst (λ (t : List ℕ). SameElements s t es (placed_from (length (written u p (rest.pieces ++ more))) rest.pieces)) (written_text u p (rest.pieces ++ more))
            (rest.same (written u p (rest.pieces ++ more)) more)));
      }
