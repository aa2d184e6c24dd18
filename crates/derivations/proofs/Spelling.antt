-- A text can be made of elements that were found elsewhere: each is written as its bytes, behind a blank or a line end.
use Rattle.std.specs.Prelude.{Ok, Some, None}
use mathlib.Core.Path.{◌≡◌, refl, ap, ◌∙◌}
use mathlib.Core.List.{List, [], ◌∷◌, ◌++◌, append_assoc}
use mathlib.Core.Bool.{Bool, true, false, cond, ◌||◌}
use Prim.Native.Nat.{ℕ, ◌+◌, ◌-◌}
use native.Mathlib.Omega.{arith}
use lib.ListN.{length, drop, length-append, length-drop}
use lib.Seq.{length-take-le}
use Rattle.text.specs.Bytes.{blank, line_end}
use Rattle.elements.specs.Elements.{stating, element_at}
use Rattle.elements.specs.Lexemes.{lexeme_of}
use Rattle.elements.specs.declared.Element.{Element}
use Rattle.elements.specs.declared.Stated.{Stated}
use Rattle.elements.proofs.Bounds.{Placed, found_placed, past_end}
use Rattle.elements.proofs.Separators.{lined, blank_first, line_end_first}
use Rattle.elements.proofs.OwnBytes.{own_bytes}
use Rattle.derivations.specs.Cuts.{recorded, cut_end, CutsInto}
use Rattle.derivations.proofs.ReadCuts.{cut_more}

-- an element of a text, and whether a line end is to lie before it
pub record Piece : Type 0 where
  pub source : List ℕ
  pub place : ℕ
  pub given : Stated
  pub element : Element
  pub found : element_at source place given ≡ Ok (Some element)
  pub newline : Bool

-- its bytes, and what is written before them
abbrev pub spelling : Piece → List ℕ
spelling p = lexeme_of p.source p.element

abbrev pub before : Piece → ℕ
before p = cond p.newline 0x0A 0x20

-- all of them, and a line end
unfoldable pub spelled : List Piece → List ℕ
spelled [] = 0x0A ∷ []
spelled (p ∷ ps) = before p ∷ (spelling p ++ spelled ps)

-- the element that a piece is behind so many bytes
abbrev pub moved : ℕ → Piece → Element
moved n p =
    record {
      kind = p.element.kind;
      which = p.element.which;
      first = n + 1;
      end = n + 1 + (p.element.end - p.element.first);
      newline = p.newline;
    }

abbrev pub placed_from : ℕ → List Piece → List Element
placed_from n [] = []
placed_from n (p ∷ ps) = recorded (moved n p) ∷ placed_from (n + 1 + (p.element.end - p.element.first)) ps

-- what is spelled starts with a blank or a line end
separated : (newline : Bool) → (blank (cond newline 0x0A 0x20) || line_end (cond newline 0x0A 0x20)) ≡ true
unfolding blank line_end
separated true = refl
separated false = refl

pub record Starts (s : List ℕ) : Type 0 where
  pub head : ℕ
  pub tail : List ℕ
  pub is : s ≡ head ∷ tail
  pub separates : (blank head || line_end head) ≡ true

starts : (ps : List Piece) → Starts (spelled ps)
unfolding spelled blank line_end
starts [] = record { head = 0x0A; tail = []; is = refl; separates = refl }
starts (p ∷ ps) = record { head = before p; tail = spelling p ++ spelled ps; is = refl; separates = separated p.newline }

-- a piece is found behind what was written
module _ (u : List ℕ) (p : Piece) (rest : List ℕ) (r : Starts rest) where
  own : (b : ℕ) → element_at (u ++ (b ∷ (spelling p ++ rest))) (length u + 1) p.given
      ≡ Ok (Some (record { kind = p.element.kind; which = p.element.which; first = length u + 1; end = length u + 1 + (p.element.end - p.element.first); newline = false }))
  own b =
      let size : length (u ++ (b ∷ [])) ≡ length u + 1 = length-append u (b ∷ []) in
      let o = own_bytes p.source p.place p.given p.element p.found r.head r.separates (u ++ (b ∷ [])) r.tail in
      rw r.is (rw (size, append_assoc u (b ∷ []) (spelling p ++ r.head ∷ r.tail)) at o)

  found_again : element_at (u ++ (before p ∷ (spelling p ++ rest))) (length u) p.given ≡ Ok (Some (moved (length u) p))
  unfolding blank line_end
  found_again = go p.newline
    where
      go : (newline : Bool) → element_at (u ++ (cond newline 0x0A 0x20 ∷ (spelling p ++ rest))) (length u) p.given
          ≡ Ok (Some (record { kind = p.element.kind; which = p.element.which; first = length u + 1; end = length u + 1 + (p.element.end - p.element.first); newline = newline }))
      go true = line_end_first u (spelling p ++ rest) 0x0A p.given refl ∙ ap lined (own 0x0A)
      go false = blank_first u (spelling p ++ rest) 0x20 p.given refl ∙ own 0x20

pub bytes_length : (p : Piece) → length (spelling p) ≡ p.element.end - p.element.first
bytes_length p =
    let q : Placed p.source p.place p.element = found_placed p.source p.place p.given p.element p.found in
    length-take-le (p.element.end - p.element.first) (drop p.element.first p.source) (omega (arith, length-drop p.element.first p.source))

-- the same text, with the bytes of a piece among what was written
module _ (u : List ℕ) (p : Piece) (ps : List Piece) where
  abbrev pub written : List ℕ
  written = u ++ (before p ∷ spelling p)

  pub written_length : length written ≡ length u + 1 + (p.element.end - p.element.first)
  written_length = length-append u (before p ∷ spelling p) ∙ omega (arith, bytes_length p)

  pub written_text : written ++ spelled ps ≡ u ++ spelled (p ∷ ps)
  unfolding spelled
  written_text = append_assoc u (before p ∷ spelling p) (spelled ps)

-- what is spelled is cut into the elements again
pub spelled_cuts : (u : List ℕ) (ps : List Piece) → CutsInto (u ++ spelled ps) (length u) (placed_from (length u) ps)
unfolding spelled blank line_end
spelled_cuts u [] =
    let past : element_at (u ++ (0x0A ∷ [])) (length u + 1) (stating false false) ≡ Ok None = past_end (u ++ (0x0A ∷ [])) (length u + 1) (stating false false) (omega (arith, length-append u (0x0A ∷ []))) in
    record { choice = []; cut = cut_end (line_end_first u [] 0x0A (stating false false) refl ∙ ap lined past) }
spelled_cuts u (p ∷ ps) =
    cut_more (u ++ spelled (p ∷ ps)) (length u) (moved (length u) p) (placed_from (length u + 1 + (p.element.end - p.element.first)) ps) p.given
    (found_again u p (spelled ps) (starts ps))
    (rw (written_length u p ps, written_text u p ps) at (spelled_cuts (written u p ps) ps))

-- pieces one after the other
abbrev pub behind_all : ℕ → List Piece → ℕ
behind_all n [] = n
behind_all n (p ∷ ps) = behind_all (n + 1 + (p.element.end - p.element.first)) ps

pub placed_append : (n : ℕ) (ps qs : List Piece) → placed_from n (ps ++ qs) ≡ placed_from n ps ++ placed_from (behind_all n ps) qs
placed_append n [] qs = refl
placed_append n (p ∷ ps) qs = ap (◌∷◌ (recorded (moved n p))) (placed_append (n + 1 + (p.element.end - p.element.first)) ps qs)
