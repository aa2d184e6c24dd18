-- Document 01, Elements: what stands between elements. "`//` runs to a line end, `/*` to `*/`. Both count as blank under
-- either slash choice; a `/* */` that contains a line end also counts as one."
use Rattle.std.specs.Prelude.{ℕ, ◌+◌, List, [], ◌∷◌, Bool, true, false, cond, ◌&&◌, eqb, Result, Err, Ok}
use Rattle.text.specs.Quoted.{byte}
use Rattle.text.specs.Bytes.{blank, line_end, illegal}
use Rattle.answers.specs.declared.faults.Fault.{Fault}
use Rattle.gaps.specs.declared.Gap.{Gap}

-- a gap that ends at a place, and whether a line end lies in it
abbrev pub ends : ℕ → Bool → Result Gap Fault
ends end newline = Ok (record { end = end; newline = newline })

-- In each, i is the offset of the list's head, but for `after_slash`, whose slash stands at i before it; `newline` says whether a
-- line end was met so far.
unfoldable mutual
  -- outside a comment: where the gap ends and whether a line end lies in it, or the first fault of a comment
  pub gap : ℕ → Bool → List ℕ → Result Gap Fault
  gap i newline [] = ends i newline
  gap i newline (b ∷ s) =
      cond (blank b) (gap (i + 1) newline s)
      (cond (line_end b) (gap (i + 1) true s)
      (cond (eqb b (byte "/")) (after_slash i newline s)
      (ends i newline)))

  -- behind a slash at i, which begins a comment or an element
  pub after_slash : ℕ → Bool → List ℕ → Result Gap Fault
  after_slash i newline [] = ends i newline
  after_slash i newline (b ∷ s) =
      cond (eqb b (byte "/")) (in_line (i + 2) newline s)
      (cond (eqb b (byte "*")) (in_block i (i + 2) newline false s)
      (ends i newline))

  -- in a `//`, which may end with the text
  pub in_line : ℕ → Bool → List ℕ → Result Gap Fault
  in_line i newline [] = ends i newline
  in_line i newline (b ∷ s) =
      cond (line_end b) (gap (i + 1) true s)
      (cond (illegal b) (Err (Fault.Stray i))
      (in_line (i + 1) newline s))

  -- in a `/*` whose slash stands at `slash`; `star` says whether the byte before is a `*` of its own
  pub in_block : ℕ → ℕ → Bool → Bool → List ℕ → Result Gap Fault
  in_block slash i newline star [] = Err (Fault.OpenComment slash)
  in_block slash i newline star (b ∷ s) =
      cond (line_end b) (in_block slash (i + 1) true false s)
      (cond (illegal b) (Err (Fault.Stray i))
      (cond (star && eqb b (byte "/")) (gap (i + 1) newline s)
      (in_block slash (i + 1) newline (eqb b (byte "*")) s)))
