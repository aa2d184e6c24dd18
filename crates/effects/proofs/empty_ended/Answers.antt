-- The statement's record is put, and it is complete.
use Rattle.effects.proofs.AffectLaws.{empty_held, empty_affects}
use Rattle.effects.proofs.empty_ended.Goals as goal

pub completed-requires : goal.completed-requires
completed-requires c = empty_held c.requires c.made-one.ensures

pub returns : goal.returns
returns c = empty_affects c.args.mark c.made-one.ensures c.completed.ensures
