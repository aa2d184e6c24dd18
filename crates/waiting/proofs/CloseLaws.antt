-- What waits is closed, one after the other.
use mathlib.Core.Path.{◌≡◌, refl}
use mathlib.Core.List.{List, [], ◌∷◌}
use Prim.Native.Nat.{ℕ, ◌+◌, ◌-◌, ◌≤◌, ◌<◌}
use native.Mathlib.Omega.{arith}
use borrow.Author.Tests.{le-leb, lt-leb}
use lib.ListN.{length, get_or}
use Rattle.tables.specs.Records.{most_trees, most_syntax}
use Rattle.machine.specs.Syntax.{Syntax, node}
use Rattle.machine.specs.Machinery.Machine.{Pending, pending}
use Rattle.controls.specs.Machinery.Written.{put_record}
use Rattle.waiting.specs.Machinery.Waiting.{nothing_waits, popped, binding, close, Holds, Backed, HoldsShut, made_one}
use Rattle.waiting.specs.declared.Level.{Level}
use Rattle.waiting.specs.declared.Waiting.{Waiting}
use Rattle.waiting.proofs.HoldLaws.{uppermost, bottom_top, backed, unstacked_held}
use Rattle.waiting.proofs.PutLaws.{made_both}

-- the level and its records once the uppermost part is closed, by what stands on the stack
abbrev pub closed_one : Level → List Waiting → Level
closed_one l stack = made_one (popped l stack)

abbrev pub cells_one : Level → List Waiting → List ℕ → List ℕ
cells_one l stack cells =
    let w = get_or stack (l.top - 1) nothing_waits in
    put_record cells l.count w.kind w.mark (l.count - w.start + 1)

close_one : {table : List ℕ} {first : ℕ} {done : Syntax} {kind mark : ℕ} {left : Syntax} {ps : List Pending} {operand : Syntax} {l : Level} {stack : List Waiting} {cells : List ℕ}
    → Holds table first done (pending kind mark left ∷ ps) operand l stack cells
    → Holds table first done ps (node kind mark left operand) (closed_one l stack) stack (cells_one l stack cells)
close_one {kind = kind} {mark = mark} h =
    let u = uppermost h in
    rw (u.kind_is, u.mark_is) (made_both kind mark (unstacked_held h) (omega (arith, u.some, h.few)))

-- above the floor something waits
record Closable (table : List ℕ) (first : ℕ) (done : Syntax) (ps : List Pending) (operand : Syntax) (l : Level) (stack : List Waiting) (cells : List ℕ) : Type 0 where
  kind : ℕ
  mark : ℕ
  left : Syntax
  rest : List Pending
  is : ps ≡ pending kind mark left ∷ rest
  holds : Holds table first done (pending kind mark left ∷ rest) operand l stack cells

module _ {table : List ℕ} {first : ℕ} {done : Syntax} {operand : Syntax} {l : Level} {stack : List Waiting} {cells : List ℕ} where
  closable : (ps : List Pending) → Holds table first done ps operand l stack cells → l.floor < l.top → Closable table first done ps operand l stack cells
  closable [] h more = let z = bottom_top h in absurd (omega arith)
  closable (pending kind mark left ∷ ps) h more = record { kind = kind; mark = mark; left = left; rest = ps; is = refl; holds = h }

-- what the loop may rely on above the floor
pub record Usable (l : Level) (stack : List Waiting) : Type 0 where
  pub fits : l.top ≤ length stack
  pub room : l.count < most_syntax
  pub marked : (get_or stack (l.top - 1) nothing_waits).mark ≤ most_trees
  pub behind : (get_or stack (l.top - 1) nothing_waits).start ≤ l.count

module _ {l : Level} {stack : List Waiting} {cells : List ℕ} where
  pub usable : Backed l stack cells → l.floor < l.top → Usable l stack
  usable h more =
      let k = (closable h.ps h.holds more).holds in
      let u = uppermost k in
      record {
        fits = u.fits;
        room = omega (arith, k.few);
        marked = omega (arith, u.mark_is, u.marked);
        behind = omega (arith, u.start_is, k.counts, k.starts);
      }

  pub held_one : Backed l stack cells → l.floor < l.top → Backed (closed_one l stack) stack (cells_one l stack cells)
  held_one h more = backed (close_one (closable h.ps h.holds more).holds)

-- closing is under way: what is left to close gives what the whole gives
pub record Closing (least : ℕ) (table : List ℕ) (first : ℕ) (done : Syntax) (ps : List Pending) (operand : Syntax) (l : Level) (stack : List Waiting) (cells : List ℕ) : Type 0 where
  pub left : List Pending
  pub last : Syntax
  pub holds : Holds table first done left last l stack cells
  pub same : close least ps operand ≡ close least left last

module _ {least : ℕ} {table : List ℕ} {first : ℕ} {done : Syntax} {ps : List Pending} {operand : Syntax} {l : Level} {stack : List Waiting} {cells : List ℕ} where
  pub closing_none : Holds table first done ps operand l stack cells → Closing least table first done ps operand l stack cells
  closing_none h = record { left = ps; last = operand; holds = h; same = refl }

  -- a part that binds so tight is closed
  pub closing_on : Closing least table first done ps operand l stack cells → l.floor < l.top → least ≤ binding (get_or stack (l.top - 1) nothing_waits).kind
      → Closing least table first done ps operand (closed_one l stack) stack (cells_one l stack cells)
  closing_on h more tight =
      let k = closable h.left h.holds more in
      let u = uppermost k.holds in
      let b : least ≤ binding k.kind = rw u.kind_is at tight in
      record {
        left = k.rest;
        last = node k.kind k.mark k.left h.last;
        holds = close_one k.holds;
        same = rw (k.is, le-leb least (binding k.kind) b) at h.same;
      }

  -- one that does not stops it
  pub closing_stops : Closing least table first done ps operand l stack cells → l.floor < l.top → binding (get_or stack (l.top - 1) nothing_waits).kind < least
      → HoldsShut table first done (close least ps operand) l stack cells
  closing_stops h more loose =
      let k = closable h.left h.holds more in
      let u = uppermost k.holds in
      let b : binding k.kind < least = rw u.kind_is at loose in
      rw (h.same, k.is, lt-leb least (binding k.kind) b) k.holds

  -- and so does the floor
  pub closing_ends : Closing least table first done ps operand l stack cells → l.top ≤ l.floor
      → HoldsShut table first done (close least ps operand) l stack cells
  closing_ends h none = go h.left h.holds h.same
    where
      go : {last : Syntax} (left : List Pending) → Holds table first done left last l stack cells → close least ps operand ≡ close least left last
          → HoldsShut table first done (close least ps operand) l stack cells
      go [] k e = rw e k
      go (pending kind mark part ∷ rest) k e = let u = uppermost k in absurd (omega (arith, u.higher))
