-- The spelling of a completion: each of its classes has an element of its own.
use Rattle.std.specs.Prelude.{Ok, Some}
use mathlib.Core.Path.{◌≡◌, refl, subst}
use mathlib.Core.List.{List, [], ◌∷◌}
use mathlib.Core.Bool.{Bool, true, false, cond}
use Prim.Native.Nat.{ℕ, ◌+◌, ◌-◌}
use Rattle.text.specs.Quoted.{bytes}
use Rattle.text.specs.Bytes.{blank, line_end, illegal, letter, digit, name_byte}
use Rattle.text.specs.Runs
use Rattle.words.specs.Words.{place_in, word_number, taken}
use Rattle.signs.specs.Signs.{longest_sign, longest_of}
use Rattle.gaps.specs.Gaps.{gap}
use Rattle.literals.specs.Strings.{quote}
use Rattle.elements.specs.Elements.{stating, element_at, element_from, named, delimiter}
use Rattle.elements.specs.declared.Element.{Element}
use Rattle.derivations.specs.Cuts.{is_closer, recorded}
use Rattle.derivations.specs.Tokens.{class_of, tokens_from}
use Rattle.grammar.proofs.Completion.{
  Spelled,
  spelled_name,
  spelled_colon,
  spelled_semicolon,
  spelled_open_paren,
  spelled_close_paren,
  spelled_close_bracket,
  spelled_open_brace,
  spelled_close_brace,
  spelled_while,
  spelled_catch,
  AllSpelled,
  none_spelled,
  more_spelled,
  OfClasses,
  no_tokens,
  more_tokens,
}
use Rattle.derivations.proofs.Spelling.{Piece, moved, placed_from}

-- an element of a class, as a piece
record Spelling (class : ℕ) : Type 0 where
  piece : Piece
  is : (n : ℕ) → class_of (recorded (moved n piece)) ≡ class
  inline : (n : ℕ) → (recorded (moved n piece)).newline ≡ false

neither : (b : Bool) → cond b false false ≡ false
neither true = refl
neither false = refl

-- a spelling by a text of its own
made : (class : ℕ) (s : List ℕ) (e : Element) → element_at s 0 (stating false false) ≡ Ok (Some e) → class_of e ≡ class → Spelling class
unfolding class_of
made class s e found c =
    record {
      piece = record { source = s; place = 0; given = stating false false; element = e; found = found; newline = false };
      is = λ n. c;
      inline = λ n. neither (is_closer e);
    }

spelling : {class : ℕ} → Spelled class → Spelling class
unfolding element_at gap element_from named letter digit name_byte blank line_end illegal quote place_in word_number taken delimiter longest_sign longest_of Runs.same Runs.run class_of
spelling spelled_name = made _ (bytes "a ") _ refl refl
spelling spelled_colon = made _ (bytes ": ") _ refl refl
spelling spelled_semicolon = made _ (bytes "; ") _ refl refl
spelling spelled_open_paren = made _ (bytes "( ") _ refl refl
spelling spelled_close_paren = made _ (bytes ") ") _ refl refl
spelling spelled_close_bracket = made _ (bytes "] ") _ refl refl
spelling spelled_open_brace = made _ (bytes "{ ") _ refl refl
spelling spelled_close_brace = made _ (bytes "} ") _ refl refl
spelling spelled_while = made _ (bytes "while ") _ refl refl
spelling spelled_catch = made _ (bytes "catch ") _ refl refl

-- pieces that are cut into tokens of the classes, wherever they stand
pub record Completed (classes : List ℕ) : Type 0 where
  pub pieces : List Piece
  pub are : (mark place : ℕ) → OfClasses classes (tokens_from mark (placed_from place pieces))

pub completed : {classes : List ℕ} → AllSpelled classes → Completed classes
unfolding tokens_from
completed none_spelled = record { pieces = []; are = λ mark place. no_tokens }
completed (more_spelled {classes = classes} one all) =
    let s = spelling one in
    let rest = completed all in
    let size = s.piece.element.end - s.piece.element.first in
    record {
      pieces = s.piece ∷ rest.pieces;
      are = λ mark place.
          let e = recorded (moved place s.piece) in
          subst (λ (class : ℕ). OfClasses (class ∷ classes) (tokens_from mark (placed_from place (s.piece ∷ rest.pieces)))) (s.is place)
          (more_tokens (s.inline place) (rest.are (cond (is_closer e) mark (mark + 1)) (place + 1 + size)));
    }
