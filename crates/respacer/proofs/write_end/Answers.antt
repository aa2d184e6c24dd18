-- The last line end, or the innermost opener.
use Rattle.respacer.proofs.EndLaws.{end_accepted, end_unclosed}
use Rattle.respacer.proofs.write_end.Goals as goal

pub returns-then-depth-eq0 : goal.returns-then-depth-eq0
returns-then-depth-eq0 c = let p = c.put_byte.ensures in
    λ bytes old place levels h. end_accepted bytes old _ _ _ _ place levels h c.if-depth-eq0.true _ _ p.0 p.1

pub returns : goal.returns
returns c = λ bytes old place levels h. end_unclosed bytes old _ _ _ _ place levels h c.if-depth-eq0.false _
