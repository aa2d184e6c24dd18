-- The call: what reading to the end comes to is what the output holds, and is cleared where it is refused.
use mathlib.Core.Path.{◌≡◌, refl, ap, ◌∙◌}
use mathlib.Core.Bool.{true}
use mathlib.Core.List.{List}
use Prim.Native.Nat.{ℕ, ◌<◌, ◌≤◌}
use native.Mathlib.Omega.{arith}
use borrow.Author.Tests.{le-leb, lt-leb}
use lib.ListN.{length, replicate}
use Rattle.std.specs.Prelude.{Result, Ok, Err}
use Rattle.answers.specs.Faults.{fault_number, fault_place, answered}
use Rattle.answers.specs.declared.Answer.{Answer}
use Rattle.answers.specs.declared.faults.Fault.{Fault}
use Rattle.rule.specs.Levels.{Levels}
use Rattle.prefix.specs.Reading.{Reading, accepted, refused, ending, reading}
use Rattle.prefix.specs.declared.State.{State}
use Rattle.prefix.specs.declared.OpenGroup.{OpenGroup}
use Rattle.tables.specs.Records.{most_trees}
use Rattle.reading.specs.Read.{most_bytes}
use Rattle.keeping.specs.Machinery.Keeping.{Lent, Keeps}
use Rattle.turns.specs.Machinery.Turns.{Runs, ran, halted}
use Rattle.turns.specs.declared.Reached.{Reached}
use Rattle.spacing.specs.Respaced.{respaced}
use Rattle.spacing.specs.Machinery.Written.{Writes}
use Rattle.spacing.proofs.OverLaws.{over_fits}
use Rattle.respacer.specs.Respace.{respace_limits, whole_reading, Respacing, written, denied, fitted, answer_of, output_after}
use Rattle.respacer.specs.Machinery.Told.{Told, Holds, Fits}

-- where no element is left, the output holds some levels
pub record Left (bytes old output : List ℕ) (stack : List OpenGroup) (state : State) (at : ℕ) : Type 0 where
  pub place : ℕ
  pub levels : Levels
  pub inside : place ≤ length bytes
  pub writes : Writes bytes old output stack state at place levels
  pub ended : reading bytes respace_limits ≡ ending levels

pub left : (bytes : List ℕ) (was is : Lent) {reached : Reached} → Runs true bytes was is most_trees (Ok reached) → Left bytes was.output is.output is.stack reached.state reached.written
unfolding Keeps
left bytes was is (ran {place = place} levels h inside e) = record { place = place; levels = levels; inside = inside; writes = h; ended = e }

module _ (bytes old : List ℕ) (short : length bytes ≤ most_bytes) (output : List ℕ) where
  told : (outcome : Result ℕ Fault) (r : Reading) → reading bytes respace_limits ≡ r → Told bytes old output r outcome → Told bytes old output (whole_reading bytes) outcome
  unfolding whole_reading
  told outcome r e t = rw (le-leb (length bytes) most_bytes short, e) t

  pub end_told : {before : List ℕ} {stack : List OpenGroup} {s : State} {at : ℕ} (l : Left bytes old before stack s at) (outcome : Result ℕ Fault)
      → Told bytes old output (ending l.levels) outcome → Told bytes old output (whole_reading bytes) outcome
  end_told l outcome t = told outcome (ending l.levels) l.ended t

  pub halt_told : {was is : Lent} {fault : Fault} → Runs true bytes was is most_trees (Err fault) → Told bytes old output (whole_reading bytes) (Err fault)
  halt_told {fault = fault} (halted e) = told (Err fault) (refused (fault_number fault) (fault_place fault)) e refl

-- length comes first
pub long_told : (bytes old output : List ℕ) → most_bytes < length bytes → Told bytes old output (whole_reading bytes) (Err (Fault.Long most_bytes))
unfolding whole_reading
long_told bytes old output h = rw (lt-leb (length bytes) most_bytes h) refl

-- what is written, where all bytes must fit
module _ (bytes old output : List ℕ) where
  -- what is promised of a respacing
  abbrev Promised : Result ℕ Fault → Respacing → Type 0
  Promised outcome r = (answered outcome ≡ answer_of r) × Holds r old output

  fits : (n : ℕ) (r : Reading) → Told bytes old output r (Ok n) → n ≤ length old → Promised (Ok n) (fitted bytes (length old) r)
  fits n (accepted trees) t h =
      let w : List ℕ = respaced bytes trees in
      let q : n ≡ length w = cc in
      rw (le-leb (length w) (length old) (omega arith)) (ap Answer.Accepted q, t.1 ∙ over_fits w old 0 (omega arith))
  fits n (refused k p) t h = absurd (let z : ◌≡◌ {A = ℕ} 0 1 = cc in omega arith)

  full : (n : ℕ) (r : Reading) → Told bytes old output r (Ok n) → length old < n → Promised (Err (Fault.OutputFull (length bytes))) (fitted bytes (length old) r)
  full n (accepted trees) t h =
      let w : List ℕ = respaced bytes trees in
      let q : n ≡ length w = cc in
      rw (lt-leb (length w) (length old) (omega arith)) (refl, tt)
  full n (refused k p) t h = absurd (let z : ◌≡◌ {A = ℕ} 0 1 = cc in omega arith)

  denies : (fault : Fault) (r : Reading) → Told bytes old output r (Err fault) → Promised (Err fault) (fitted bytes (length old) r)
  denies fault (accepted trees) t = absurd (let z : ◌≡◌ {A = ℕ} 0 1 = cc in omega arith)
  denies fault (refused k p) t = (t, tt)

  pub written_fits : (n : ℕ) → Told bytes old output (whole_reading bytes) (Ok n) → n ≤ length old → Fits bytes old output (Ok n)
  written_fits n t h = fits n (whole_reading bytes) t h

  pub written_full : (n : ℕ) → Told bytes old output (whole_reading bytes) (Ok n) → length old < n → Fits bytes old output (Err (Fault.OutputFull (length bytes)))
  written_full n t h = full n (whole_reading bytes) t h

  pub text_denied : (fault : Fault) → Told bytes old output (whole_reading bytes) (Err fault) → Fits bytes old output (Err fault)
  text_denied fault t = denies fault (whole_reading bytes) t

-- the call: what was written is cleared where it is refused
pub respace_accepted : (r : Respacing) (old output : List ℕ) (n : ℕ) → Answer.Accepted n ≡ answer_of r → Holds r old output
    → (Answer.Accepted n ≡ answer_of r) × (output ≡ output_after r old)
respace_accepted (written bytes) old output n e h = (e, h)
respace_accepted (denied number place) old output n e h = absurd (let z : ◌≡◌ {A = ℕ} 0 1 = cc in omega arith)

pub respace_denied : (r : Respacing) (old output : List ℕ) (n p : ℕ) → Answer.Refused n p ≡ answer_of r → output ≡ replicate (length old) 0
    → (Answer.Refused n p ≡ answer_of r) × (output ≡ output_after r old)
respace_denied (written bytes) old output n p e c = absurd (let z : ◌≡◌ {A = ℕ} 0 1 = cc in omega arith)
respace_denied (denied number place) old output n p e c = (e, c)
