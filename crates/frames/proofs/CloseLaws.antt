-- Closing what waits is what the machine does: operators are reduced and beginnings of statements wrapped, and what waits below stays.
use mathlib.Core.Path.{◌≡◌, refl, ◌∙◌, ap}
use mathlib.Core.Bool.{Bool, true, false, cond}
use mathlib.Core.List.{List, [], ◌∷◌, ◌++◌}
use Prim.Native.Nat.{ℕ, ◌+◌, ◌≤◌, ◌<◌}
use native.Mathlib.Omega.{arith}
use borrow.Author.Tests.{le-leb, lt-leb, leb-true, leb-false}
use lib.Dec.{leb}
use lib.ListN.{length}
use Rattle.machine.specs.Syntax.{Syntax, node, size}
use Rattle.machine.specs.Machinery.Machine as machine
use Rattle.machine.specs.Machinery.Machine.{Pending, pending, frame, tightness, reduce, wrap}
use Rattle.waiting.specs.Machinery.Waiting.{binding, Shut, shut, close, lefts}
use Rattle.waiting.proofs.OperatorLaws.{binding_nest, binding_operator}
use Rattle.frames.specs.Machinery.Stands.{Operators, no_operators, more_operators, Beginnings, no_beginnings, more_beginnings, nest_in, Below, below_none, below_nest, below_asked}

-- nothing, or something that binds less, waits next: closing stops there
pub data Stops (least : ℕ) : List Pending → Type 0 where
  stops_none : Stops least []
  stops_at : {kind mark : ℕ} {left : Syntax} {ps : List Pending} → binding kind < least → Stops least (pending kind mark left ∷ ps)

close_stops : {least : ℕ} {ps : List Pending} (operand : Syntax) → Stops least ps → close least ps operand ≡ shut ps operand
close_stops operand stops_none = refl
close_stops {least = least} operand (stops_at {kind = kind} less) = rw (lt-leb least (binding kind) less)

stops_more : {least more : ℕ} {ps : List Pending} → least ≤ more → Stops least ps → Stops more ps
stops_more up stops_none = stops_none
stops_more up (stops_at {kind = kind} less) = stops_at {kind = kind} (omega arith)

pub below_stops : {done base : Syntax} {nests : List machine.Open} {tail : List Pending} → Below done nests base tail → Stops 1 tail
below_stops below_none = stops_none
below_stops (below_nest nest setting _ within below) =
    stops_at {kind = nest_in nest setting} (omega (arith, binding_nest (nest_in nest setting) (omega arith)))
below_stops (below_asked {kind = kind} many _ _ within below) = stops_at {kind = kind} (omega (arith, binding_nest kind (omega (arith, many.0))))

pub starts_stop : {starts tail : List Pending} → Beginnings starts → Stops 1 tail → Stops 2 (starts ++ tail)
starts_stop no_beginnings stops = stops_more (omega arith) stops
starts_stop (more_beginnings {kind = kind} e more) stops = stops_at {kind = kind} (omega (arith, e))

-- operators that bind at least so tight are closed, and the rest are operators
pub record Reduced (least : ℕ) (done : Syntax) (starts waiting below : List Pending) (operand : Syntax) : Type 0 where
  pub left : List Pending
  pub last : Syntax
  pub is : reduce least done starts waiting operand ≡ frame done starts left last
  pub operators : Operators left
  pub closes : close (least + 1) (waiting ++ below) operand ≡ shut (left ++ below) last

-- one step of each
module _ (least : ℕ) (done : Syntax) (starts ps : List Pending) (kind mark : ℕ) (left operand : Syntax) where
  reduce_one : (b : Bool) → leb least (tightness kind) ≡ b
      → reduce least done starts (pending kind mark left ∷ ps) operand
      ≡ cond b (reduce least done starts ps (node kind mark left operand)) (frame done starts (pending kind mark left ∷ ps) operand)
  reduce_one b e = ap (λ (x : Bool). cond x (reduce least done starts ps (node kind mark left operand)) (frame done starts (pending kind mark left ∷ ps) operand)) e

reduced : (least : ℕ) (done : Syntax) (starts : List Pending) {waiting below : List Pending} (operand : Syntax) → 1 ≤ least → Operators waiting → Stops 2 below
    → Reduced least done starts waiting below operand
reduced least done starts {below = below} operand some no_operators stops =
    record { left = []; last = operand; is = refl; operators = no_operators; closes = close_stops operand (stops_more (omega arith) stops) }
reduced least done starts {below = below} operand some (more_operators {kind = kind} {mark = mark} {left = left} {ps = ps} e bare more) stops =
    go (leb least (tightness kind)) refl (reduced least done starts (node kind mark left operand) some more stops)
  where
    go : (b : Bool) → leb least (tightness kind) ≡ b → Reduced least done starts ps below (node kind mark left operand)
        → Reduced least done starts (pending kind mark left ∷ ps) below operand
    go true x r =
        let tight = leb-true least (tightness kind) x in
        record {
          left = r.left;
          last = r.last;
          is = reduce_one least done starts ps kind mark left operand true x ∙ r.is;
          operators = r.operators;
          closes = rw (le-leb (least + 1) (binding kind) (omega (arith, binding_operator kind e))) r.closes;
        }
    go false x r =
        let loose = leb-false least (tightness kind) x in
        record {
          left = pending kind mark left ∷ ps;
          last = operand;
          is = reduce_one least done starts ps kind mark left operand false x;
          operators = more_operators e bare more;
          closes = rw (lt-leb (least + 1) (binding kind) (omega (arith, binding_operator kind e)));
        }

pub close_reduces : (least : ℕ) (done : Syntax) {starts waiting tail : List Pending} (operand : Syntax) → 1 ≤ least → Operators waiting → Beginnings starts
    → Stops 1 tail → Reduced least done starts waiting (starts ++ tail) operand
close_reduces least done {starts = starts} operand some operators beginnings stops = reduced least done starts operand some operators (starts_stop beginnings stops)

-- all operators are closed
pub reduce_wraps : (done : Syntax) (starts waiting : List Pending) (operand : Syntax) → reduce 0 done starts waiting operand ≡ frame done starts [] (wrap waiting operand)
reduce_wraps done starts [] operand = refl
reduce_wraps done starts (pending kind mark left ∷ waiting) operand =
    reduce_one 0 done starts waiting kind mark left operand true (le-leb 0 (tightness kind) (omega arith)) ∙ reduce_wraps done starts waiting (node kind mark left operand)

close_operators : (least : ℕ) {waiting : List Pending} (below : List Pending) (operand : Syntax) → least ≤ 2 → Operators waiting
    → close least (waiting ++ below) operand ≡ close least below (wrap waiting operand)
close_operators least below operand few no_operators = refl
close_operators least below operand few (more_operators {kind = kind} {mark = mark} {left = left} e bare more) =
    rw (le-leb least (binding kind) (omega (arith, e, binding_operator kind e))) (close_operators least below (node kind mark left operand) few more)

close_beginnings : {starts : List Pending} (below : List Pending) (last : Syntax) → Beginnings starts → close 1 (starts ++ below) last ≡ close 1 below (wrap starts last)
close_beginnings below last no_beginnings = refl
close_beginnings below last (more_beginnings {kind = kind} {mark = mark} {left = left} e more) =
    rw (le-leb 1 (binding kind) (omega (arith, e))) (close_beginnings below (node kind mark left last) more)

pub close_expression : {starts waiting tail : List Pending} (operand : Syntax) → Operators waiting → Beginnings starts → Stops 1 tail
    → close 2 (waiting ++ (starts ++ tail)) operand ≡ shut (starts ++ tail) (wrap waiting operand)
close_expression {starts = starts} {waiting = waiting} {tail = tail} operand operators beginnings stops =
    close_operators 2 (starts ++ tail) operand (omega arith) operators ∙ close_stops (wrap waiting operand) (starts_stop beginnings stops)

-- and so are beginnings of statements
pub close_statement : {starts waiting tail : List Pending} (operand : Syntax) → Operators waiting → Beginnings starts → Stops 1 tail
    → close 1 (waiting ++ (starts ++ tail)) operand ≡ shut tail (wrap starts (wrap waiting operand))
close_statement {starts = starts} {waiting = waiting} {tail = tail} operand operators beginnings stops =
    close_operators 1 (starts ++ tail) operand (omega arith) operators ∙ close_beginnings tail (wrap waiting operand) beginnings
    ∙ close_stops (wrap starts (wrap waiting operand)) stops

-- a record for each part that no longer waits, and no part more
abbrev pub LighterBy : Syntax → List Pending → Syntax → Shut → Type 0
LighterBy base ps operand (shut left last) =
    (size (lefts base left) + size last + length left ≡ size (lefts base ps) + size operand + length ps) × (length left ≤ length ps)

pub close_lightens : (least : ℕ) (base : Syntax) (ps : List Pending) (operand : Syntax) → LighterBy base ps operand (close least ps operand)
close_lightens least base [] operand = (refl, omega arith)
close_lightens least base (pending kind mark left ∷ ps) operand =
    go (leb least (binding kind)) (close least ps (node kind mark left operand)) (close_lightens least base ps (node kind mark left operand))
  where
    go : (b : Bool) (s : Shut) → LighterBy base ps (node kind mark left operand) s
        → LighterBy base (pending kind mark left ∷ ps) operand (cond b s (shut (pending kind mark left ∷ ps) operand))
    go true (shut left last) (e, less) = (omega arith, omega arith)
    go false (shut left last) (e, less) = (refl, omega arith)
