-- Quoted text as bytes, so that definitions can spell what they speak of.
use Rattle.std.specs.Prelude.{ℕ, List, [], ◌∷◌}
use Prim.Native.Char.{Char, code}
use Prim.Native.String.{String}

-- the byte of a character below 80 (hexadecimal)
abbrev pub byte : Char → ℕ
byte c = code c

-- the bytes of a text of such characters
abbrev pub bytes : String → List ℕ
bytes String.[] = []
bytes (String.◌∷◌ c t) = byte c ∷ bytes t
