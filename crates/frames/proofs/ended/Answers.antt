-- A level ends once its operators are closed.
use Rattle.frames.proofs.LevelEndLaws.{ends}
use Rattle.frames.proofs.ended.Goals as goal

pub returns : goal.returns
returns c = λ class at action g nests table stack₀ first floor passed s e. ends c.closed.ensures.0 c.closed.ensures.1 c.closed.ensures.2 s e
