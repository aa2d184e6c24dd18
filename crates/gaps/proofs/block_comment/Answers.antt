-- `block_comment` resumes the gap behind the `*/`: the rest of the comment, from the place where the loop stands, is what
-- is left to pass.
use native.Mathlib.Omega.{arith}
use mathlib.Core.Path.{◌≡◌, refl, sym, ap, ◌∙◌}
use mathlib.Core.Bool.{Bool, true, false, ◌||◌, or-false}
use Prim.Native.Nat.{◌+◌}
use lib.Dec.{eqb}
use lib.ListN.{get_or, drop, get_or-eq_default}
use Rattle.text.specs.Machinery.Codes.{code_of}
use Rattle.gaps.specs.Gaps.{in_block}
use Rattle.gaps.proofs.GapLaws.{block_past, block_passed, block_stray, block_close, star_legal, block_on}
use Rattle.gaps.proofs.block_comment.Goals as goal
use Rattle.gaps.proofs.block_comment.Goals.{then-lined, else-lined, else-b-eq42-via-then-b-eq42+then-i-text+else-text-i-eq47, else-b-eq42-via-then-b-eq42+else-i-text, else-b-eq42-via-else-b-eq42}

pub loop-i-init : goal.loop-i-init
loop-i-init c = (omega arith, λ newline. rw (or-false newline))

-- a line end met in the comment is told with those before
or_told : (before lined here told : Bool) → told ≡ (lined || here) → ((before || lined) || here) ≡ (before || told)
or_told true lined here told e = refl
or_told false lined here told e = sym e

pub loop-i-preserved : goal.loop-i-preserved
loop-i-preserved c = let s = c.args.text.now in
    let i = c.run_end-i.result in
    let left : get_or s i 0 ≡ 42 → get_or s (i + 1) 0 ≡ 47 → ⊥ = elim c.else-b-eq42.branch [
      | else-b-eq42-via-then-b-eq42+then-i-text+else-text-i-eq47 w ↦ λ _. w.if-text-i-eq47.false
      | else-b-eq42-via-then-b-eq42+else-i-text w ↦ λ _ n. omega (arith, get_or-eq_default s 0 {n = i + 1} w.if-i-text.false, n)
      | else-b-eq42-via-else-b-eq42 w ↦ λ e _. w.if-b-eq42.false e
    ] in
    let told : c.if-lined.lined ≡ (c.loop-i.lined || eqb (code_of (get_or s i 0)) 1) = elim c.if-lined.branch [
      | then-lined w ↦ rw (w.lined-is, w.if-lined.true)
      | else-lined w ↦ rw (w.lined-is, w.if-lined.false, c.of-code.ensures)
    ] in (
      omega arith,
      λ newline.
          c.loop-i.invariant.1 newline
          ∙ block_passed _ _ _ _ _ c.run_end-i.ensures
          ∙ block_on _ _ _ _ (omega arith) (omega arith) left
          ∙ ap (λ l. in_block c.args.slash (i + 1) l false (drop (i + 1) s)) (or_told newline c.loop-i.lined _ _ told),
    )

pub returns-then-code-eq-ILLEGAL-clause-resumes : goal.returns-then-code-eq-ILLEGAL-clause-resumes
returns-then-code-eq-ILLEGAL-clause-resumes c = λ newline. c.loop-i.invariant.1 newline ∙ block_passed _ _ _ _ _ c.run_end-i.ensures ∙ block_stray _ _ _ _ (omega arith) (omega arith)

pub returns-then-text-i-eq47-clause-resumes : goal.returns-then-text-i-eq47-clause-resumes
returns-then-text-i-eq47-clause-resumes c = λ newline. c.loop-i.invariant.1 newline ∙ block_passed _ _ _ _ _ c.run_end-i.ensures ∙ block_close _ _ _ _ (omega arith) (star_legal _ c.if-b-eq42.true) (omega arith) (omega arith) (omega arith)

pub returns-after-loop-i-clause-resumes : goal.returns-after-loop-i-clause-resumes
returns-after-loop-i-clause-resumes c = λ newline. c.loop-i.invariant.1 newline ∙ block_past _ _ _ _ c.loop-i-test.false

pub returns-then-text-i-clause-resumes : goal.returns-then-text-i-clause-resumes
returns-then-text-i-clause-resumes c = λ newline. c.loop-i.invariant.1 newline ∙ block_passed _ _ _ _ _ c.run_end-i.ensures ∙ block_past _ _ _ _ c.if-text-i.true
