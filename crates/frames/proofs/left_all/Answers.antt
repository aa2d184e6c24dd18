-- While a nest is done that the token does not go on with, it is left: what stands then takes the token as what stood first. Fewer may be left each time.
use mathlib.Core.Path.{sym, ◌∙◌}
use Rattle.frames.proofs.ReadyLaws.{done_here, done_somewhere, settled_here, moves_on, leaves_somewhere}
use Rattle.frames.proofs.left_all.Goals as goal

pub left-s-requires : goal.left-s-requires
left-s-requires c = done_somewhere (done_here c.loop-s.s.control c.args.class (sym c.is_done.ensures ∙ c.loop-s-test.true)) c.loop-s.invariant.0

pub loop-s-preserved : goal.loop-s-preserved
loop-s-preserved c = let at = c.loop-s in
    let done = done_here at.s.control c.args.class (sym c.is_done.ensures ∙ c.loop-s-test.true) in
    let leaves = c.left-s.ensures in
    (leaves_somewhere done at.invariant.0 leaves, leaves.no_name, moves_on done at.invariant.2 leaves)

pub returns : goal.returns
returns c = record { moves = c.loop-s.invariant.2; settled = settled_here c.loop-s.s.control.place c.loop-s.s.control.setting c.args.class (sym c.is_done.ensures ∙ c.loop-s-test.false) c.loop-s.invariant.1 }
