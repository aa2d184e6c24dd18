-- Five stores are one record.
use Rattle.storing.proofs.CellLaws.{five_stores}
use Rattle.storing.proofs.put.Goals as goal

pub returns : goal.returns
returns c = rw c.into-cells.ensures (five_stores _ _ _ _ _ _ _ c.requires)
