-- A step goes the same way from levels that are the same but for positions, with an element that is the same but for its
-- position; a closer's newline flag does not matter.
use mathlib.Core.Path.{◌≡◌, refl, sym, ap, subst, ◌∙◌}
use mathlib.Core.List.{List}
use mathlib.Core.Bool.{Bool, true, false, cond}
use Prim.Native.Nat.{ℕ, ◌+◌, ◌-◌}
use native.Mathlib.Omega.{arith}
use borrow.Author.Tests.{eqb-true}
use lib.Dec.{eqb, leb}
use Rattle.elements.specs.Elements.{delimiter_kind, paren_opener, brace_opener, bracket_opener}
use Rattle.elements.specs.declared.Element.{Element}
use Rattle.rule.specs.Trees.{none, leaf, group, paren_kind, object_kind, block_kind, bracket_kind}
use Rattle.rule.specs.Levels.{Levels, inside, brace_opens, settled_in, depth, count_so_far, on_top}
use Rattle.prefix.specs.Reading.{Limits, Step, stop, more, add_leaf, open_group, closes, close_group, step, deep, trees_full, wrong_closer}
use Rattle.prefix.proofs.StepCases.{not_more}
use Rattle.elements.specs.Lexemes.{bytes_of}
use Rattle.respacer.specs.Alike.{alike_none}
use Rattle.respacer.proofs.AlikeLevels.{AlikeLevels, alike_text, alike_inside, alike_brace, alike_settled, alike_depth, alike_so_far, alike_leaf_more, alike_group_more}
use Rattle.respacer.proofs.StepWrites.{step_by, line_but, line_written}
use Rattle.spacing.proofs.FoundAgain.{moved}

-- the bytes of a delimiter, from its first byte or from its end
opener_bytes : (s t : List ℕ) (first end start last : ℕ) → end ≡ first + 1 → last ≡ start + 1 → bytes_of s first end ≡ bytes_of t start last
    → bytes_of s first (first + 1) ≡ bytes_of t start (start + 1)
opener_bytes s t first end start last p q same = sym (ap (bytes_of s first) p) ∙ same ∙ ap (bytes_of t start) q

closer_bytes : (s t : List ℕ) (first end start last : ℕ) → end ≡ first + 1 → last ≡ start + 1 → bytes_of s first end ≡ bytes_of t start last
    → bytes_of s (end - 1) end ≡ bytes_of t (last - 1) last
closer_bytes s t first end start last p q same =
    let f : end - 1 ≡ first = omega arith in
    let g : last - 1 ≡ start = omega arith in
    ap (λ at. bytes_of s at end) f ∙ same ∙ sym (ap (λ at. bytes_of t at last) g)

-- a step that goes on to levels that are the same but for positions
pub record Reaches (s t : List ℕ) (after : Levels) (y : Step) : Type 0 where
  pub then : Levels
  pub goes : y ≡ more then
  pub alike : AlikeLevels s t after then

module _ (s t : List ℕ) (limits : Limits) (e : Element) (start : ℕ) (after : Levels)
    (same : bytes_of s e.first e.end ≡ bytes_of t start (start + (e.end - e.first))) where
  leaf_again : {levels others : Levels} → AlikeLevels s t levels others → add_leaf limits levels e ≡ more after → Reaches s t after (add_leaf limits others (moved e start e.newline))
  leaf_again {levels} {others} alike m = rw (← alike_so_far alike) (go (leb limits.room (count_so_far levels)) m)
    where
      go : (full : Bool) → cond full (stop trees_full e.first) (more (on_top (λ before. leaf before (settled_in levels e)) levels)) ≡ more after
          → Reaches s t after (cond full (stop trees_full start) (more (on_top (λ before. leaf before (settled_in others (moved e start e.newline))) others)))
      go true m = not_more m
      go false m =
          let is : on_top (λ before. leaf before (settled_in levels e)) levels ≡ after = cc in
          record {
            then = on_top (λ before. leaf before (settled_in others (moved e start e.newline))) others;
            goes = refl;
            alike = rw (← is) (alike_leaf_more alike (record { kind = alike_settled alike e start (start + (e.end - e.first)); which = refl; newline = refl; bytes = same }));
          }

  module _ (single : e.end ≡ e.first + 1) where
    single_again : start + (e.end - e.first) ≡ start + 1
    single_again = omega arith

    open_again : {levels others : Levels} → AlikeLevels s t levels others → (kind : ℕ) → open_group limits levels kind e ≡ more after
        → Reaches s t after (open_group limits others kind (moved e start e.newline))
    open_again {levels} {others} alike kind m =
        rw (← alike_depth alike, ← alike_so_far alike) (go (leb limits.groups (depth levels)) (leb limits.room (count_so_far levels)) m)
      where
        go : (tooDeep full : Bool) → cond tooDeep (stop deep e.first) (cond full (stop trees_full e.first) (more (inside levels kind e.first e.newline none))) ≡ more after
            → Reaches s t after (cond tooDeep (stop deep start) (cond full (stop trees_full start) (more (inside others kind start e.newline none))))
        go true full m = not_more m
        go false true m = not_more m
        go false false m =
            let is : inside levels kind e.first e.newline none ≡ after = cc in
            record {
              then = inside others kind start e.newline none;
              goes = refl;
              alike = rw (← is) (alike_inside alike (opener_bytes s t e.first e.end start (start + (e.end - e.first)) single single_again same) alike_none);
            }

    close_again : {levels others : Levels} → AlikeLevels s t levels others → (newline : Bool) → close_group levels e ≡ more after
        → Reaches s t after (close_group others (moved e start newline))
    close_again (alike_text trees) newline m = not_more m
    close_again (alike_inside {around = around} {outer = outer} {kind = kind} {first = first} {start = begin} {newline = tag} {trees = trees} {others = inner} alike opener within) newline m =
        go (closes e.which kind) m
      where
        go : (fits : Bool) → cond fits (more (on_top (λ before. group before kind first e.end tag trees) around)) (stop wrong_closer e.first) ≡ more after
            → Reaches s t after (cond fits (more (on_top (λ before. group before kind begin (start + (e.end - e.first)) tag inner) outer)) (stop wrong_closer start))
        go true m =
            let is : on_top (λ before. group before kind first e.end tag trees) around ≡ after = cc in
            record {
              then = on_top (λ before. group before kind begin (start + (e.end - e.first)) tag inner) outer;
              goes = refl;
              alike =
                  rw (← is)
                  (alike_group_more kind first begin e.end (start + (e.end - e.first)) tag alike opener within
                  (closer_bytes s t e.first e.end start (start + (e.end - e.first)) single single_again same));
            }
        go false m = not_more m

  pub step_again : {levels others : Levels} → AlikeLevels s t levels others → (e.kind ≡ delimiter_kind → e.end ≡ e.first + 1)
      → step limits levels e ≡ more after → Reaches s t after (step limits others (moved e start (line_written e)))
  unfolding step
  step_again {levels} {others} alike single =
      go (eqb e.kind delimiter_kind) (λ d. single (eqb-true e.kind delimiter_kind d)) (eqb e.which paren_opener) (eqb e.which brace_opener) (eqb e.which bracket_opener)
    where
      brace_again : open_group limits levels (cond (brace_opens levels e.newline) object_kind block_kind) e ≡ more after → e.end ≡ e.first + 1
          → Reaches s t after (open_group limits others (cond (brace_opens others e.newline) object_kind block_kind) (moved e start e.newline))
      brace_again m one =
          open_again one alike (cond (brace_opens others e.newline) object_kind block_kind)
          (subst (λ opens. open_group limits levels (cond opens object_kind block_kind) e ≡ more after) (alike_brace alike e.newline) m)

      go : (delimits : Bool) → (delimits ≡ true → e.end ≡ e.first + 1) → (parens brace bracket : Bool) → step_by delimits parens brace bracket limits levels e ≡ more after
          → Reaches s t after (step_by delimits parens brace bracket limits others (moved e start (line_but delimits parens brace bracket e.newline)))
      go true one true brace bracket m = open_again (one refl) alike paren_kind m
      go true one false true bracket m = brace_again m (one refl)
      go true one false false true m = open_again (one refl) alike bracket_kind m
      go true one false false false m = close_again (one refl) alike false m
      go false one parens brace bracket m = leaf_again alike m
