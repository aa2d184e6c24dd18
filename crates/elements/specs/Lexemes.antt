-- Document 01, Elements: "each element can be shown as the part of the text it is." And elements that are the same but for
-- positions.
use Rattle.std.specs.Prelude.{ℕ, ◌-◌, ◌≡◌, List, take, drop}
use Rattle.elements.specs.declared.Element.{Element}

-- the bytes of a text from a place to before another
abbrev pub bytes_of : List ℕ → ℕ → ℕ → List ℕ
bytes_of text first end = take (end - first) (drop first text)

-- "the part of the text it is": the bytes from an element's first to before its end
abbrev pub lexeme_of : List ℕ → Element → List ℕ
lexeme_of text e = bytes_of text e.first e.end

-- an element of a text and an element of another that are the same but for positions: the same kind, the same number among the
-- words or the signs, the same newline flag and the same bytes
pub record SameElement (text again : List ℕ) (e other : Element) : Type 0 where
  pub kind : e.kind ≡ other.kind
  pub which : e.which ≡ other.which
  pub newline : e.newline ≡ other.newline
  pub bytes : lexeme_of text e ≡ lexeme_of again other
