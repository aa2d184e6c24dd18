-- How the output holds what is written so far, as much of it as fits. Machinery.
use Rattle.std.specs.Prelude.{ℕ, ◌≡◌, List, ◌++◌, length, take, drop}

-- what was written lies over the old output; what does not fit is lost
unfoldable pub over : List ℕ → List ℕ → List ℕ
over written old = take (length old) written ++ drop (length written) old

-- what a writer promises of whatever is written so far: the count with what it adds, and the output with that
abbrev pub Puts : (List ℕ → List ℕ) → List ℕ → List ℕ → ℕ → ℕ → Type 0
Puts add output next at to =
    (written old : List ℕ) → at ≡ length written → output ≡ over written old → (to ≡ length (add written)) × (next ≡ over (add written) old)
