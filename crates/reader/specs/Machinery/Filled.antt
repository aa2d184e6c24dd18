-- The lent table before it is cleared for a refusal.
use Rattle.std.specs.Prelude.{◌≡◌, List, ℕ}
use Rattle.prefix.specs.Reading.{Reading, accepted, refused}
use Rattle.reading.specs.Read.{table_after}

-- the table where nothing is cleared: known on acceptance alone
abbrev pub Filled : Reading → List ℕ → List ℕ → Type 0
Filled (accepted trees) before now = now ≡ table_after (accepted trees) before
Filled (refused number place) before now = Unit {0}
