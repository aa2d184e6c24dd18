-- The record of the name that is held is put.
use Rattle.frames.proofs.ReadyLaws.{name_readies}
use Rattle.frames.proofs.named.Goals as goal

pub returns : goal.returns
returns c = name_readies c.requires.place_is c.stand.ensures c.made.ensures
