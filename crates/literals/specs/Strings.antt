-- Document 01, Elements: "Strings: `'` or `"` to the same quote. A backslash takes the next byte, line ends excepted."
use Rattle.std.specs.Prelude.{ℕ, ◌+◌, List, [], ◌∷◌, Bool, false, cond, ◌||◌, eqb, Result, Ok, Err}
use Rattle.text.specs.Quoted.{byte}
use Rattle.text.specs.Bytes.{line_end, illegal}
use Rattle.answers.specs.declared.faults.Fault.{Fault}

-- the byte of a backslash
abbrev pub backslash : ℕ
backslash = 0x5C

-- "`'` or `"`"
unfoldable pub quote : ℕ → Bool
quote b = eqb b (byte "'") || eqb b 0x22

-- the rest of a string that the quote q opened at `first`: i is the offset of the list's head, and `taken` says whether
-- a backslash takes it
unfoldable pub string_rest : ℕ → ℕ → Bool → ℕ → List ℕ → Result ℕ Fault
string_rest q first taken i [] = Err (Fault.OpenString first)
string_rest q first taken i (b ∷ s) =
    cond (line_end b) (Err (Fault.OpenString first))
    (cond (illegal b) (Err (Fault.Stray i))
    (cond taken (string_rest q first false (i + 1) s)
    (cond (eqb b q) (Ok (i + 1))
    (string_rest q first (eqb b backslash) (i + 1) s))))
