-- A name that a statement starts with is made ready, whatever waits.
use Rattle.frames.proofs.ready.Goals as goal

pub returns-in-NameFirst : goal.returns-in-NameFirst
returns-in-NameFirst c = c.name_ready.ensures c.args.waiting.now
