-- The part of a text that an element is: of an element that was found it is whole.
use Rattle.std.specs.Prelude.{Ok, Some}
use mathlib.Core.Path.{◌≡◌}
use mathlib.Core.List.{List}
use Prim.Native.Nat.{ℕ, ◌-◌}
use native.Mathlib.Omega.{arith}
use lib.ListN.{length, drop, length-take, length-drop}
use Rattle.elements.specs.Elements.{element_at}
use Rattle.elements.specs.Lexemes.{lexeme_of}
use Rattle.elements.specs.declared.Element.{Element}
use Rattle.elements.specs.declared.Stated.{Stated}
use Rattle.elements.proofs.Bounds.{found_placed}

-- an element that was found in a text has all its bytes in it
pub found_lexeme : (s : List ℕ) (place : ℕ) (stated : Stated) (e : Element)
    → element_at s place stated ≡ Ok (Some e) → length (lexeme_of s e) ≡ e.end - e.first
found_lexeme s place stated e f =
    omega (arith, length-take (e.end - e.first) (drop e.first s), length-drop e.first s, found_placed s place stated e f)
