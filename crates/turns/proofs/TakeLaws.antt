-- What taking an element comes to, by what is kept of it.
use mathlib.Core.Path.{◌≡◌, refl}
use mathlib.Core.Bool.{Bool, true, false}
use mathlib.Core.List.{List}
use Prim.Native.Nat.{ℕ, ◌<◌, ◌≤◌, ◌^◌}
use native.Mathlib.Omega.{arith}
use borrow.Author.Tests.{le-leb, lt-leb}
use lib.ListN.{length}
use Rattle.std.specs.Prelude.{Result, Ok, Err}
use Rattle.answers.specs.declared.faults.Fault.{Fault}
use Rattle.elements.specs.declared.Element.{Element}
use Rattle.rule.specs.Levels.{Levels, settled_in, count_so_far}
use Rattle.prefix.specs.Reading.{Step, delimit, step}
use Rattle.prefix.specs.Machinery.Represents.{Represents, Settles, AddsLeaf}
use Rattle.prefix.specs.declared.State.{State}
use Rattle.prefix.specs.declared.OpenGroup.{OpenGroup}
use Rattle.prefix.proofs.StateLaws.{represented_level}
use Rattle.prefix.proofs.StepLaws.{step_leaf, step_delimiter}
use Rattle.delimiters.specs.Machinery.Delimits.{Follows, group_opened, group_closed, stopped, Delimits}
use Rattle.delimiters.specs.declared.Advanced.{Advanced}
use Rattle.keeping.specs.Machinery.Keeping.{Lent, lent, tag_of, Keeps, MayTake, MayKeep, MayKeepEnd, with_leaf, with_opener, KeepsTree, KeepsEnd}
use Rattle.keeping.proofs.KeepLaws.{keeps_represented, keeps_stack, tag_is}
use Rattle.turns.specs.Machinery.Turns.{limits_for, Turned, goes_on, ends}

-- what the step at a delimiter says of the levels
opened_room : {room : ℕ} {tag : Levels → ℕ → ℕ} {stack : List OpenGroup} {e : Element} {levels : Levels} {kind : ℕ} {s : State} {y : Step}
    → Follows room tag stack e levels (Ok (Advanced.Opened kind s)) y → count_so_far levels < room
opened_room (group_opened some represented) = some

module _ (spaced : Bool) (bytes : List ℕ) (is : Lent) (room : ℕ) (state : State) (at : ℕ) (e : Element) (may : MayTake spaced bytes is room state at e) (after : List OpenGroup) where
  pub delimited : (tag : ℕ) (advanced : Result Advanced Fault) → Delimits is.stack after state room tag e advanced → (spaced ≡ true → tag ≡ e.first) → (spaced ≡ false → tag ≡ state.records)
      → Follows room (tag_of spaced) after e may.levels advanced (delimit (record { groups = length is.stack; room = room }) may.levels e)
  delimited tag advanced d opener index =
      d (tag_of spaced) may.levels (keeps_represented bytes may.was is room state at may.place may.levels spaced may.keeps)
      (tag_is bytes may.was is room state at may.place may.levels spaced e.first tag opener index may.keeps)

  pub may_open : {kind : ℕ} {next : State} {y : Step} → Follows room (tag_of spaced) after e may.levels (Ok (Advanced.Opened kind next)) y
      → MayKeep spaced bytes is.trees is.output state at e
  may_open f =
      let r = keeps_represented bytes may.was is room state at may.place may.levels spaced may.keeps in
      record { stack = is.stack; room = room; may = may; more_room = omega (arith, r.records_is, opened_room f) }

  pub may_close : {opener : ℕ} {next : State} {y : Step} → Follows room (tag_of spaced) after e may.levels (Ok (Advanced.Closed opener next)) y
      → MayKeepEnd spaced bytes is.trees is.output state at opener e
  may_close (group_closed {after = outer} c represented) = record { stack = is.stack; room = room; may = may; outer = outer; closes = c }

-- an element of its settled kind may be kept
module _ (spaced : Bool) (bytes : List ℕ) (is : Lent) (room : ℕ) (state : State) (at : ℕ) (e : Element) (may : MayTake spaced bytes is room state at e) (free : state.records < room) where
  held_before : Represents (tag_of spaced) is.stack state may.levels
  held_before = keeps_represented bytes may.was is room state at may.place may.levels spaced may.keeps

  pub may_add : (state.level.code < 2 ^ 31) × (state.records < 2 ^ 32)
  may_add = omega (arith, may.room_small, represented_level (tag_of spaced) is.stack state may.levels held_before)

  pub may_leaf : (leaf : Element) → Settles state e leaf → MayKeep spaced bytes is.trees is.output state at leaf
  may_leaf leaf settles =
      rw (settles (tag_of spaced) is.stack may.levels held_before)
      (record {
        stack = is.stack;
        room = room;
        may =
            record {
              was = may.was;
              place = may.place;
              levels = may.levels;
              keeps = may.keeps;
              near = may.near;
              some = may.some;
              within = may.within;
              short = may.short;
              room_small = may.room_small;
            };
        more_room = free;
      })

-- what taking an element comes to
module _ (spaced : Bool) (bytes : List ℕ) (was is : Lent) (room : ℕ) (state : State) (at place : ℕ) (levels : Levels) (e : Element) (near : place ≤ e.first)
    (keeps : Keeps spaced bytes was is room state at place levels) where
  held : Represents (tag_of spaced) is.stack state levels
  held = keeps_represented bytes was is room state at place levels spaced keeps

  pub leaf_full : (e.kind ≡ 0 → ⊥) → room ≤ state.records → Turned spaced bytes was is room e.end (Err (Fault.TreesFull e.first)) (step (limits_for room) levels e)
  leaf_full k full = rw (step_leaf (limits_for room) levels e k, le-leb room (count_so_far levels) (omega (arith, held.records_is))) (ends {fault = Fault.TreesFull e.first})

  pub leaf_taken : (e.kind ≡ 0 → ⊥) → state.records < room → (trees output : List ℕ) (next : State) (to : ℕ) (leaf : Element)
      → Settles state e leaf → AddsLeaf state leaf next → KeepsTree spaced bytes is.trees is.output trees output state at leaf (with_leaf leaf) to
      → Turned spaced bytes was (lent trees output is.stack) room e.end (Ok (record { state = next; written = to })) (step (limits_for room) levels e)
  leaf_taken k free trees output next to leaf settles added adds =
      let some : count_so_far levels < room = omega (arith, held.records_is) in
      let s : leaf ≡ settled_in levels e = settles (tag_of spaced) is.stack levels held in
      rw (step_leaf (limits_for room) levels e k, lt-leb room (count_so_far levels) some)
      (goes_on ((rw s at adds) was is.stack is.stack room place levels next near refl keeps some ((rw s at added) (tag_of spaced) is.stack levels held)))

  -- the step at a delimiter, with the limits of the reading
  pub follows : e.kind ≡ 0 → (after : List OpenGroup) (tag : ℕ) (advanced : Result Advanced Fault) → Delimits is.stack after state room tag e advanced → tag ≡ tag_of spaced levels e.first
      → Follows room (tag_of spaced) after e levels advanced (step (limits_for room) levels e)
  follows k after tag advanced d t =
      rw (step_delimiter (limits_for room) levels e k) (rw (keeps_stack bytes was is room state at place levels spaced keeps) at (d (tag_of spaced) levels held t))

  module _ (after : List OpenGroup) (same : length after ≡ length is.stack) (trees output : List ℕ) (to : ℕ) where
    pub opened_taken : {kind : ℕ} {next : State} {y : Step} → Follows room (tag_of spaced) after e levels (Ok (Advanced.Opened kind next)) y
        → KeepsTree spaced bytes is.trees is.output trees output state at e (with_opener kind e) to
        → Turned spaced bytes was (lent trees output after) room e.end (Ok (record { state = next; written = to })) y
    opened_taken (group_opened {state = next} some represented) adds = goes_on (adds was is.stack after room place levels next near same keeps some represented)

    pub closed_taken : {opener : ℕ} {next : State} {y : Step} → Follows room (tag_of spaced) after e levels (Ok (Advanced.Closed opener next)) y
        → KeepsEnd spaced bytes is.trees is.output trees output state at opener e to
        → Turned spaced bytes was (lent trees output after) room e.end (Ok (record { state = next; written = to })) y
    closed_taken (group_closed {state = next} {after = outer} c represented) closing =
        goes_on (closing was is.stack after room place levels outer next near same keeps c represented)

  pub stopped_taken : (after : Lent) {stack : List OpenGroup} {fault : Fault} {y : Step} → Follows room (tag_of spaced) stack e levels (Err fault) y
      → Turned spaced bytes was after room e.end (Err fault) y
  stopped_taken after (stopped {fault = fault}) = ends {fault = fault}
