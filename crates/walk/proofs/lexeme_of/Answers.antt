-- `lexeme_of` meets its contract: both ends of the part are clipped to the text (`lexeme_clipped`).
use Rattle.walk.proofs.Clipped.{lexeme_clipped}
use Rattle.walk.proofs.lexeme_of.Goals as goal

pub returns : goal.returns
returns c =
    rw (c.min-first.ensures, c.min-end.ensures) (lexeme_clipped c.args.e.first c.args.e.end c.args.text.now)
