-- The loop: the levels of which something is kept read the rest of the text as the whole is read.
use borrow.Author.Rules.{rules}
use native.Mathlib.Omega.{arith}
use mathlib.Core.Path.{◌≡◌, refl, sym, ap, ◌∙◌}
use Rattle.std.specs.Prelude.{Ok}
use Rattle.std.proofs.lemmas.Result.{err_from_is_err_and}
use Rattle.elements.proofs.Bounds.{found_placed}
use Rattle.keeping.specs.Machinery.Keeping.{lent, tag_of}
use Rattle.keeping.proofs.KeepLaws.{keeps_represented}
use Rattle.turns.proofs.RunLaws.{start_at, at_end, at_fault, may_take, at_stop, at_more}
use Rattle.turns.proofs.read_on.Goals as goal

pub loop-e-init : goal.loop-e-init
loop-e-init c = (refl, refl, refl, refl, start_at _ (lent c.args.trees.now c.args.output.now c.args.stack.now) _ _ _ c.requires (c.start.ensures (tag_of c.args.spaced) _))

pub returns-in_err-e : goal.returns-in_err-e
returns-in_err-e c = let here = c.loop-e.invariant.4 in
    let rule = c.stated.ensures.1 _ _ here.levels (keeps_represented _ _ _ _ _ _ _ here.levels _ here.keeps) in
    let p = err_from_is_err_and c.from_residual.result c.from_residual.ensures.1 in
    rw (p.1, p.2) (at_fault _ _ _ _ _ _ _ here _ rule _ _ (sym c.element_by.ensures.0 ∙ c.in_err-e.was))

pub take_element-requires : goal.take_element-requires
take_element-requires c = let here = c.loop-e.invariant.4 in
    let rule = c.stated.ensures.1 _ _ here.levels (keeps_represented _ _ _ _ _ _ _ here.levels _ here.keeps) in
    rw (c.loop-e.invariant.2, c.loop-e.invariant.3) (may_take _ _ _ _ _ _ _ here _ rule _ (sym c.element_by.ensures.0 ∙ c.in_ok-e.was ∙ ap Ok c.in-Some.is) c.requires)

pub returns-in_err-at : goal.returns-in_err-at
returns-in_err-at c = let here = c.loop-e.invariant.4 in
    let rule = c.stated.ensures.1 _ _ here.levels (keeps_represented _ _ _ _ _ _ _ here.levels _ here.keeps) in
    let found = sym c.element_by.ensures.0 ∙ c.in_ok-e.was ∙ ap Ok c.in-Some.is in
    let placed = found_placed _ _ _ _ found in
    let p = err_from_is_err_and c.from_residual-in_err-at.result c.from_residual-in_err-at.ensures.1 in
    let same = c.loop-e.invariant in
    let t = c.take_element.ensures.same_trees ∙ same.0 in
    let o = c.take_element.ensures.same_output ∙ same.1 in
    let trees : c.in_err-at.trees-in-Break-branch-3-1-own.given.0 ≡ c.take_element.new.keeper.trees.now = search rules in
    let output : c.in_err-at.output-in-Break-branch-3-1-own.given.0 ≡ c.take_element.new.keeper.output.now = search rules in
    rw (p.1, p.2, trees, output) (at_stop _ _ _ _ _ _ _ here _ rule _ found _ _ ((rw (c.loop-e.invariant.2, c.loop-e.invariant.3, c.in_err-at.was) at c.take_element.ensures.takes) _ _ here.levels placed.from here.keeps))

pub loop-e-smaller : goal.loop-e-smaller
loop-e-smaller c = let placed = found_placed _ _ _ _ (sym c.element_by.ensures.0 ∙ c.in_ok-e.was ∙ ap Ok c.in-Some.is) in
    omega (arith, placed.from, placed.some, placed.within)

pub loop-e-preserved : goal.loop-e-preserved
loop-e-preserved c = let here = c.loop-e.invariant.4 in
    let rule = c.stated.ensures.1 _ _ here.levels (keeps_represented _ _ _ _ _ _ _ here.levels _ here.keeps) in
    let found = sym c.element_by.ensures.0 ∙ c.in_ok-e.was ∙ ap Ok c.in-Some.is in
    let placed = found_placed _ _ _ _ found in
    let same = c.loop-e.invariant in
    let p = c.take_element.ensures in (
      p.same_trees ∙ same.0,
      p.same_output ∙ same.1,
      p.same_text ∙ same.2,
      p.same_form ∙ same.3,
      at_more _ _ _ _ _ _ _ here _ rule _ found _ _ ((rw (same.2, same.3, c.in_ok-at.was) at p.takes) _ _ here.levels placed.from here.keeps),
    )

pub returns : goal.returns
returns c = let here = c.loop-e.invariant.4 in
    let rule = c.stated.ensures.1 _ _ here.levels (keeps_represented _ _ _ _ _ _ _ here.levels _ here.keeps) in
    let same = c.loop-e.invariant in
    let t = same.0 in
    let o = same.1 in
    let trees : c.trees-in_default-1.given.0 ≡ c.loop-e.keeper.trees.now = search rules in
    let output : c.output-in_default-1.given.0 ≡ c.loop-e.keeper.output.now = search rules in
    rw (trees, output) (at_end _ _ _ _ _ _ _ here _ rule (sym c.element_by.ensures.0 ∙ c.in_ok-e.was ∙ ap Ok c.in_default.is))
