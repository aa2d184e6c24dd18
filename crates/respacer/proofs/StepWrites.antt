-- What a step adds to what is written: one element, whichever it is, with a blank or a line end before it.
use mathlib.Core.Path.{◌≡◌, refl}
use mathlib.Core.List.{List, [], ◌∷◌}
use mathlib.Core.Bool.{Bool, true, false, cond, not, ◌&&◌, ◌||◌}
use Prim.Native.Nat.{ℕ, ◌+◌, ◌-◌, ◌<◌}
use native.Mathlib.Omega.{arith}
use borrow.Author.Tests.{eqb-true}
use lib.Dec.{eqb, leb}
use lib.ListN.{length}
use Rattle.elements.specs.Elements.{delimiter_kind, paren_opener, brace_opener, bracket_opener}
use Rattle.elements.specs.declared.Element.{Element}
use Rattle.rule.specs.Trees.{none, leaf, group, paren_kind, object_kind, block_kind, bracket_kind}
use Rattle.rule.specs.Levels.{Levels, whole_text, inside, brace_opens, settled_in, depth, count_so_far, on_top}
use Rattle.prefix.specs.Reading.{Limits, Step, stop, more, add_leaf, open_group, closes, close_group, step, deep, trees_full, wrong_closer}
use Rattle.prefix.proofs.StepCases.{not_more}
use Rattle.spacing.specs.Respaced.{add_element, add_closer, add_trees}
use Rattle.spacing.specs.Machinery.Written.{written_of}
use Rattle.spacing.proofs.WriteLaws.{written_leaf, written_group}

-- a step by the tests on its element: a delimiter, `(`, `{`, `[`
abbrev pub step_by : Bool → Bool → Bool → Bool → Limits → Levels → Element → Step
step_by delimits parens brace bracket limits levels e =
    cond delimits
    (cond parens (open_group limits levels paren_kind e)
    (cond brace (open_group limits levels (cond (brace_opens levels e.newline) object_kind block_kind) e)
    (cond bracket (open_group limits levels bracket_kind e)
    (close_group levels e))))
    (add_leaf limits levels e)

-- the newline flag that is written: "before every closer, one blank"
abbrev pub line_but : Bool → Bool → Bool → Bool → Bool → Bool
line_but delimits parens brace bracket newline = cond (delimits && not (parens || (brace || bracket))) false newline

abbrev pub line_written : Element → Bool
line_written e = line_but (eqb e.kind delimiter_kind) (eqb e.which paren_opener) (eqb e.which brace_opener) (eqb e.which bracket_opener) e.newline

-- behind what is not empty, an element without a line end before it is written like a closer
closer_element : (s written : List ℕ) (first end : ℕ) → 0 < length written → add_closer s written first end ≡ add_element s written first end false
unfolding add_closer add_element
closer_element s [] first end some = absurd (omega arith)
closer_element s (b ∷ written) first end some = refl

module _ (s : List ℕ) (limits : Limits) (e : Element) (after : Levels) where
  leaf_written : (levels : Levels) → add_leaf limits levels e ≡ more after → written_of s after ≡ add_element s (written_of s levels) e.first e.end e.newline
  leaf_written levels = go (leb limits.room (count_so_far levels))
    where
      go : (full : Bool) → cond full (stop trees_full e.first) (more (on_top (λ before. leaf before (settled_in levels e)) levels)) ≡ more after
          → written_of s after ≡ add_element s (written_of s levels) e.first e.end e.newline
      go true m = not_more m
      go false m =
          let is : on_top (λ before. leaf before (settled_in levels e)) levels ≡ after = cc in
          rw (← is) (written_leaf s (settled_in levels e) levels)

  module _ (single : e.end ≡ e.first + 1) where
    open_written : (levels : Levels) (kind : ℕ) → open_group limits levels kind e ≡ more after
        → written_of s after ≡ add_element s (written_of s levels) e.first e.end e.newline
    unfolding add_trees
    open_written levels kind = go (leb limits.groups (depth levels)) (leb limits.room (count_so_far levels))
      where
        go : (tooDeep full : Bool) → cond tooDeep (stop deep e.first) (cond full (stop trees_full e.first) (more (inside levels kind e.first e.newline none))) ≡ more after
            → written_of s after ≡ add_element s (written_of s levels) e.first e.end e.newline
        go true full m = not_more m
        go false true m = not_more m
        go false false m =
            let is : inside levels kind e.first e.newline none ≡ after = cc in
            rw (← is, single)

    close_written : (levels : Levels) → (0 < depth levels → 0 < length (written_of s levels)) → close_group levels e ≡ more after
        → written_of s after ≡ add_element s (written_of s levels) e.first e.end false
    close_written (whole_text trees) begun m = not_more m
    close_written (inside around kind first newline trees) begun m = go (closes e.which kind) m
      where
        go : (fits : Bool) → cond fits (more (on_top (λ before. group before kind first e.end newline trees) around)) (stop wrong_closer e.first) ≡ more after
            → written_of s after ≡ add_element s (written_of s (inside around kind first newline trees)) e.first e.end false
        go true m =
            let is : on_top (λ before. group before kind first e.end newline trees) around ≡ after = cc in
            let start : e.end - 1 ≡ e.first = omega arith in
            rw (← is, written_group s kind first e.end newline trees around, start)
            (closer_element s (written_of s (inside around kind first newline trees)) e.first e.end (begun (omega arith)))
        go false m = not_more m

  pub step_written : (levels : Levels) → (e.kind ≡ delimiter_kind → e.end ≡ e.first + 1) → (0 < depth levels → 0 < length (written_of s levels))
      → step limits levels e ≡ more after → written_of s after ≡ add_element s (written_of s levels) e.first e.end (line_written e)
  unfolding step
  step_written levels single begun =
      go (eqb e.kind delimiter_kind) (λ d. single (eqb-true e.kind delimiter_kind d)) (eqb e.which paren_opener) (eqb e.which brace_opener) (eqb e.which bracket_opener)
    where
      go : (delimits : Bool) → (delimits ≡ true → e.end ≡ e.first + 1) → (parens brace bracket : Bool)
          → step_by delimits parens brace bracket limits levels e ≡ more after
          → written_of s after ≡ add_element s (written_of s levels) e.first e.end (line_but delimits parens brace bracket e.newline)
      go true one true brace bracket = open_written (one refl) levels paren_kind
      go true one false true bracket = open_written (one refl) levels (cond (brace_opens levels e.newline) object_kind block_kind)
      go true one false false true = open_written (one refl) levels bracket_kind
      go true one false false false = close_written (one refl) levels begun
      go false one parens brace bracket = leaf_written levels
