-- The loop of a reading: the levels that are held read the rest of the text as the whole is read.
use mathlib.Core.Path.{◌≡◌, refl, ap}
use mathlib.Core.List.{List}
use mathlib.Core.Bool.{Bool, false}
use Prim.Native.Nat.{ℕ, ◌+◌, ◌-◌, ◌*◌, ◌<◌, ◌≤◌}
use native.Mathlib.Omega.{arith}
use borrow.Author.Tests.{le-leb, lt-leb}
use lib.ListN.{length, get_or, replicate}
use Rattle.std.specs.Prelude.{Result, Ok, Err}
use Rattle.answers.specs.Faults.{fault_number, fault_place, answered}
use Rattle.answers.specs.declared.Answer.{Answer}
use Rattle.answers.specs.declared.faults.Fault.{Fault}
use Rattle.rule.specs.Trees.{Trees}
use Rattle.rule.specs.Levels.{Levels, whole_text, inside, depth, count_so_far}
use Rattle.prefix.specs.Reading.{Reading, accepted, refused, ending, reading, unclosed}
use Rattle.prefix.specs.declared.State.{State}
use Rattle.prefix.specs.declared.OpenGroup.{OpenGroup}
use Rattle.tables.specs.Records.{room_for}
use Rattle.storing.specs.Records.{records}
use Rattle.reading.specs.Read.{most_bytes, long_text, reading_for, answer_of, table_after}
use Rattle.storing.specs.Machinery.Table.{cells, Holds, Some}
use Rattle.keeping.specs.Machinery.Keeping.{Lent, Keeps}
use Rattle.turns.specs.Machinery.Turns.{limits_for, Runs, ran, halted}
use Rattle.reader.specs.Machinery.Filled.{Filled}
use Rattle.turns.specs.declared.Reached.{Reached}
use Rattle.prefix.specs.Machinery.Represents.{no_group}
use Rattle.storing.proofs.CellLaws.{cells_length, first_cell}

-- the record of the innermost group, and the answer at the text's end
module _ (before now : List ℕ) (stack : List OpenGroup) (room : ℕ) (state : State) where
  index : (around : Levels) (kind first : ℕ) (newline : Bool) (trees : Trees) → Holds before now stack room state (inside around kind first newline trees)
      → (get_or stack (state.depth - 1) no_group).tag ≡ count_so_far around
  index around kind first newline trees h =
      let e : state.depth - 1 ≡ depth around = omega (arith, h.represented.depth_is) in
      rw e h.represented.stacked.2

  pub index_small : (levels : Levels) → Holds before now stack room state levels → (state.depth ≡ 0 → ⊥)
      → (get_or stack (state.depth - 1) no_group).tag < state.records
  index_small (whole_text trees) h z = absurd (z h.represented.depth_is)
  index_small (inside around kind first newline trees) h z = rw (index around kind first newline trees h) (omega (arith, h.represented.records_is))

  pub ends_accepted : (levels : Levels) → Holds before now stack room state levels → state.depth ≡ 0 → Answer.Accepted state.records ≡ answer_of (ending levels)
  ends_accepted (whole_text trees) h z = ap Answer.Accepted h.represented.records_is
  ends_accepted (inside around kind first newline trees) h z = absurd (omega (arith, h.represented.depth_is))

  pub ends_unclosed : (levels : Levels) → Holds before now stack room state levels → (state.depth ≡ 0 → ⊥)
      → Answer.Refused unclosed (get_or now (5 * (get_or stack (state.depth - 1) no_group).tag + 1) 0) ≡ answer_of (ending levels)
  ends_unclosed (whole_text trees) h z = absurd (z h.represented.depth_is)
  ends_unclosed (inside around kind first newline trees) h z =
      ap (Answer.Refused unclosed)
      (rw (index around kind first newline trees h, h.cells_are)
      (first_cell (cells around) (records trees) _ (count_so_far around) kind first newline (cells_length around)))

  pub ends_filled : (levels : Levels) → Holds before now stack room state levels → Filled (ending levels) before now
  ends_filled (whole_text trees) h = h.cells_are
  ends_filled (inside around kind first newline trees) h = tt

-- what reading to the end comes to is the answer, and the table where nothing is cleared
module _ (bytes : List ℕ) (was is : Lent) (room : ℕ) where
  abbrev pub Answered : Result ℕ Fault → Type 0
  Answered outcome = (answered outcome ≡ answer_of (reading_for bytes (length was.trees))) × Filled (reading_for bytes (length was.trees)) was.trees is.trees

  pub ran_some : {reached : Reached} → Runs false bytes was is room (Ok reached) → Some is.trees is.stack room reached.state
  unfolding Keeps
  ran_some (ran levels h within e) = record { before = was.trees; levels = levels; holds = h }

  module _ (short : length bytes ≤ most_bytes) (room-is : room ≡ room_for (length was.trees)) where
    read_is : (outcome : Result ℕ Fault) (r : Reading) → reading bytes (limits_for room) ≡ r → answered outcome ≡ answer_of r → Filled r was.trees is.trees → Answered outcome
    unfolding reading_for
    read_is outcome r e a f = rw (le-leb (length bytes) most_bytes short, ← room-is, e) (a, f)

    pub ran_answered : {reached : Reached} → Runs false bytes was is room (Ok reached) → (outcome : Result ℕ Fault)
        → ((before : List ℕ) (room : ℕ) (levels : Levels) → Holds before is.trees is.stack room reached.state levels → answered outcome ≡ answer_of (ending levels)) → Answered outcome
    unfolding Keeps
    ran_answered {reached} (ran levels h within e) outcome a =
        read_is outcome (ending levels) e (a was.trees room levels h) (ends_filled was.trees is.trees is.stack room reached.state levels h)

    pub halted_answered : {fault : Fault} → Runs false bytes was is room (Err fault) → Answered (Err fault)
    halted_answered {fault} (halted e) = read_is (Err fault) (refused (fault_number fault) (fault_place fault)) e refl tt

-- length comes first
pub long_answered : (bytes before now : List ℕ) → most_bytes < length bytes
    → (answered (Err (Fault.Long most_bytes)) ≡ answer_of (reading_for bytes (length before))) × Filled (reading_for bytes (length before)) before now
unfolding reading_for
long_answered bytes before now long = rw (lt-leb (length bytes) most_bytes long) (refl, tt)

-- the call: what was written is cleared where the reading is refused
pub read_accepted : (r : Reading) (before now : List ℕ) (n : ℕ) → Answer.Accepted n ≡ answer_of r → Filled r before now → (Answer.Accepted n ≡ answer_of r) × (now ≡ table_after r before)
read_accepted (accepted trees) before now n e f = (e, f)
read_accepted (refused number place) before now n e f = absurd (let z : ◌≡◌ {A = ℕ} 0 1 = cc in omega arith)

pub read_refused : (r : Reading) (before now : List ℕ) (n p : ℕ) → Answer.Refused n p ≡ answer_of r → now ≡ replicate (length before) 0
    → (Answer.Refused n p ≡ answer_of r) × (now ≡ table_after r before)
read_refused (accepted trees) before now n p e c = absurd (let z : ◌≡◌ {A = ℕ} 0 1 = cc in omega arith)
read_refused (refused number place) before now n p e c = (e, c)

pub read_long : (bytes before now : List ℕ) → most_bytes < length bytes → now ≡ replicate (length before) 0
    → (Answer.Refused long_text most_bytes ≡ answer_of (reading_for bytes (length before))) × (now ≡ table_after (reading_for bytes (length before)) before)
read_long bytes before now long c = read_refused (reading_for bytes (length before)) before now _ _ (long_answered bytes before now long).0 c
