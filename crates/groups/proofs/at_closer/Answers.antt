-- The level is readied for its closer; it ends there, or the machine dies.
use Rattle.groups.proofs.CloserLaws.{may_end, ends, dies}
use Rattle.groups.proofs.at_closer.Goals as goal

pub ended-requires : goal.ended-requires
ended-requires c = may_end c.ready-s.ensures c.requires.0

pub returns-then-ends : goal.returns-then-ends
returns-then-ends c = ends c.ready-s.ensures c.ends.ensures c.requires.1 c.if-ends.true c.ended.ensures c.is_object.ensures

pub returns : goal.returns
returns c = dies c.ready-s.ensures c.ends.ensures c.requires.1 c.if-ends.false
