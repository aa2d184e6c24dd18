-- Document 01, Elements: "Regular expressions: ES5.1 section 7.8.5, with classes (`/` inside `[ ]` does not close),
-- backslash pairs, and name bytes after it as flags." That section's rule for the first byte, which is no `*` and no `/`,
-- holds wherever an element starts with a slash: a comment starts there otherwise.
use Rattle.std.specs.Prelude.{ℕ, ◌+◌, List, [], ◌∷◌, Bool, true, false, cond, not, eqb, Result, Ok, Err}
use Rattle.text.specs.Quoted.{byte}
use Rattle.text.specs.Bytes.{line_end, illegal, name_byte}
use Rattle.text.specs.Runs.{run}
use Rattle.answers.specs.declared.faults.Fault.{Fault}
use Rattle.literals.specs.Strings.{backslash}

-- the rest of a regular expression whose slash stands at `first`: i is the offset of the list's head, `class` says
-- whether it stands in a class, and `taken` whether a backslash takes it
unfoldable pub pattern_rest : ℕ → Bool → Bool → ℕ → List ℕ → Result ℕ Fault
pattern_rest first class taken i [] = Err (Fault.OpenPattern first)
pattern_rest first class taken i (b ∷ s) =
    cond (line_end b) (Err (Fault.OpenPattern first))
    (cond (illegal b) (Err (Fault.Stray i))
    (cond taken (pattern_rest first class false (i + 1) s)
    (cond (eqb b backslash) (pattern_rest first class true (i + 1) s)
    (cond class (pattern_rest first (not (eqb b (byte "]"))) false (i + 1) s)
    (cond (eqb b (byte "/")) (Ok (i + 1 + run name_byte s))
    (pattern_rest first (eqb b (byte "[")) false (i + 1) s))))))
