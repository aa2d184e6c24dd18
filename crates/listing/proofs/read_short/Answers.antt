-- Length first.
use native.Mathlib.Omega.{arith}
use Rattle.listing.proofs.ListingLaws.{short_read, long_read}
use Rattle.listing.proofs.read_short.Goals as goal

pub returns-then-text-gt-MOST_LISTED : goal.returns-then-text-gt-MOST_LISTED
returns-then-text-gt-MOST_LISTED c = let a = c.args in
    rw c.from.ensures (long_read a.text.now a.trees.now _ c.if-text-gt-MOST_LISTED.true c.clear.ensures)

pub returns : goal.returns
returns c = let a = c.args in
    short_read a.text.now a.trees.now _ _ (omega arith) (omega arith) c.read.ensures.0 c.read.ensures.1
