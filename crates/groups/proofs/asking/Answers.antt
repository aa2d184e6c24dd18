-- The number tells apart what `ending_by` does.
use Rattle.frames.proofs.NumberLaws.{not_lone}
use Rattle.groups.proofs.asking.Goals as goal

pub returns : goal.returns
returns c =
    let p = c.past_start-past.ensures in
    record { past = c.past_start-past.result; plain = not_lone c.past_start-past.result p.0; same = p.1 c.args.setting; is = rw (c.number.ensures, c.number-2.ensures) }
