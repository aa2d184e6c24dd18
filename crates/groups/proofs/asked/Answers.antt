-- What is binary or tighter is closed, and the condition waits.
use native.Mathlib.Omega.{arith}
use Rattle.groups.proofs.AskLaws.{ask_small, ask_asks, asks_there}
use Rattle.groups.proofs.asked.Goals as goal

pub returns : goal.returns
returns c =
    asks_there c.args.at (omega (arith, c.requires.marked)) c.requires.room c.closed-condition.ensures c.asking-number.ensures
    c.wait.ensures c.stand.ensures

pub wait-requires : goal.wait-requires
wait-requires c = ask_asks c.args.at 4 c.requires c.closed-condition.ensures (rw c.asking-number.ensures.is (ask_small c.asking-number.ensures.past c.args.at.setting))
