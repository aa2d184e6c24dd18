-- What a delimiter makes of the levels that a state holds.
use mathlib.Core.Path.{◌≡◌, refl, sym, ap, ◌∙◌}
use mathlib.Core.List.{List}
use mathlib.Core.Bool.{Bool, true, false}
use Prim.Native.Nat.{ℕ, ◌+◌, ◌-◌, ◌<◌, ◌≤◌}
use native.Mathlib.Omega.{arith}
use borrow.Author.Tests.{le-leb, lt-leb}
use lib.ListN.{length, get_or, set, length-set}
use lib.Seq.{get_or-set_same, get_or-set_other}
use Rattle.std.specs.Prelude.{Ok, Err}
use Rattle.answers.specs.declared.faults.Fault.{Fault}
use Rattle.elements.specs.declared.Element.{Element}
use Rattle.rule.specs.Trees.{Trees, group, count}
use Rattle.rule.specs.Rule.{group_class, backwards, unanswered}
use Rattle.rule.specs.Levels.{Levels, whole_text, inside, depth, count_so_far, on_top, brace_opens}
use Rattle.rule.specs.Machinery.Summary.{summary, level_code}
use Rattle.rule.specs.Machinery.LevelCodes.{kind_in, level_in, brace_by_level, level_after}
use Rattle.rule.proofs.LevelCodeLaws.{level_in_lem, brace_opens_right, group_added_level, kind_of_level}
use Rattle.prefix.specs.Reading.{Limits, open_group, closes, close_group}
use Rattle.prefix.specs.Machinery.Represents.{no_group, Stack, Represents, closed}
use Rattle.prefix.specs.declared.State.{State}
use Rattle.prefix.specs.declared.OpenGroup.{OpenGroup}
use Rattle.prefix.proofs.StateLaws.{depth_on_top, count_on_top, stack_on_top, kind_small}
use Rattle.delimiters.specs.Machinery.Delimits.{Follows, group_opened, group_closed, stopped}
use Rattle.delimiters.specs.declared.Advanced.{Advanced}

-- a group stored above those that are open leaves them
stack_set : (tag : Levels → ℕ → ℕ) (stack : List OpenGroup) (i : ℕ) (v : OpenGroup) (levels : Levels) → depth levels ≤ i → Stack tag stack levels → Stack tag (set stack i v) levels
stack_set tag stack i v (whole_text trees) h s = tt
stack_set tag stack i v (inside around kind first newline trees) h s =
    let e = get_or-set_other stack i (depth around) v no_group (omega arith) in
    (s.0, ap (λ (g : OpenGroup). g.around.code) e ∙ s.1, ap (λ (g : OpenGroup). g.tag) e ∙ s.2, stack_set tag stack i v around (omega arith) s.3)

module _ (tag : Levels → ℕ → ℕ) (stack : List OpenGroup) (state : State) (levels : Levels) (h : Represents tag stack state levels) (limits : Limits) (e : Element) (kind : ℕ) where
  pub open_deep : (after : List OpenGroup) → limits.groups ≤ state.depth → Follows limits.room tag after e levels (Err (Fault.Deep e.first)) (open_group limits levels kind e)
  open_deep after full = rw (le-leb limits.groups (depth levels) (omega (arith, h.depth_is))) (stopped {fault = Fault.Deep e.first})

  pub open_full : (after : List OpenGroup) → state.depth < limits.groups → limits.room ≤ state.records
      → Follows limits.room tag after e levels (Err (Fault.TreesFull e.first)) (open_group limits levels kind e)
  open_full after shallow full =
      rw (lt-leb limits.groups (depth levels) (omega (arith, h.depth_is)), le-leb limits.room (count_so_far levels) (omega (arith, h.records_is))) (stopped {fault = Fault.TreesFull e.first})

  pub open_done : (m level : ℕ) → kind ≤ 10 → m ≡ tag levels e.first → level ≡ level_in kind → state.depth < limits.groups → state.records < limits.room → limits.groups ≡ length stack
      → Follows limits.room tag (set stack state.depth (record { around = state.level; tag = m })) e levels
      (Ok (Advanced.Opened kind (record { level = record { code = level }; depth = state.depth + 1; records = state.records + 1 })))
      (open_group limits levels kind e)
  unfolding level_code summary unanswered backwards count
  open_done m level small marked in-kind shallow some groups =
      let group : OpenGroup = record { around = state.level; tag = m } in
      let same : depth levels ≡ state.depth = sym h.depth_is in
      let own : get_or (set stack state.depth group) (depth levels) no_group ≡ group = rw same (get_or-set_same stack state.depth group no_group (omega arith)) in
      rw (lt-leb limits.groups (depth levels) (omega (arith, h.depth_is)), lt-leb limits.room (count_so_far levels) (omega (arith, h.records_is)))
      (group_opened {kind = kind} {state = record { level = record { code = level }; depth = state.depth + 1; records = state.records + 1 }} (omega (arith, h.records_is))
      (record {
        level_is = in-kind ∙ level_in_lem kind;
        depth_is = omega (arith, h.depth_is);
        records_is = omega (arith, h.records_is);
        stacked = (
          omega arith,
          ap (λ (g : OpenGroup). g.around.code) own ∙ h.level_is,
          ap (λ (g : OpenGroup). g.tag) own ∙ marked,
          stack_set tag stack state.depth group levels (omega (arith, h.depth_is)) h.stacked,
        );
        fits = rw (length-set stack state.depth group) (omega arith);
      }))

pub close_none : (tag : Levels → ℕ → ℕ) (stack : List OpenGroup) (state : State) (levels : Levels) → Represents tag stack state levels → (room : ℕ) (e : Element) → state.depth ≡ 0
    → Follows room tag stack e levels (Err (Fault.WrongCloser e.first)) (close_group levels e)
close_none tag stack state (whole_text trees) h room e z = stopped {fault = Fault.WrongCloser e.first}
close_none tag stack state (inside around kind first newline trees) h room e z = absurd (omega (arith, h.depth_is))

pub close_other : (tag : Levels → ℕ → ℕ) (stack : List OpenGroup) (state : State) (levels : Levels) → Represents tag stack state levels → (room : ℕ) (e : Element)
    → (state.depth ≡ 0 → ⊥) → (innermost : ℕ) → innermost ≡ kind_in state.level.code → closes e.which innermost ≡ false
    → Follows room tag stack e levels (Err (Fault.WrongCloser e.first)) (close_group levels e)
close_other tag stack state (whole_text trees) h room e z innermost same c = stopped {fault = Fault.WrongCloser e.first}
close_other tag stack state (inside around kind first newline trees) h room e z innermost same c =
    let k : innermost ≡ kind = same ∙ ap kind_in h.level_is ∙ kind_of_level (inside around kind first newline trees) h.stacked.0 in
    rw (rw k at c) (stopped {fault = Fault.WrongCloser e.first})

pub close_done : (tag : Levels → ℕ → ℕ) (stack : List OpenGroup) (state : State) (levels : Levels) → Represents tag stack state levels → (room : ℕ) (e : Element)
    → (state.depth ≡ 0 → ⊥) → (innermost : ℕ) → innermost ≡ kind_in state.level.code → closes e.which innermost ≡ true
    → (level : ℕ) → ((newline : Bool) → level ≡ level_after (get_or stack (state.depth - 1) no_group).around.code (group_class innermost) newline)
    → Follows room tag stack e levels
    (Ok (Advanced.Closed (get_or stack (state.depth - 1) no_group).tag (record { level = record { code = level }; depth = state.depth - 1; records = state.records })))
    (close_group levels e)
unfolding count
close_done tag stack state (whole_text trees) h room e z innermost same c level w = absurd (z h.depth_is)
close_done tag stack state (inside around kind first newline trees) h room e z innermost same c level w =
    let add : Trees → Trees = λ before. group before kind first e.end newline trees in
    let k : innermost ≡ kind = same ∙ ap kind_in h.level_is ∙ kind_of_level (inside around kind first newline trees) h.stacked.0 in
    let below : state.depth - 1 ≡ depth around = omega (arith, h.depth_is) in
    rw (rw k at c)
    (group_closed
    {m = (get_or stack (state.depth - 1) no_group).tag}
    {state = record { level = record { code = level }; depth = state.depth - 1; records = state.records }}
    {after = on_top add around}
    (closed {around = around} {kind = kind} {first = first} {newline = newline} {trees = trees} (rw below h.stacked.2))
    (record {
      level_is = rw (below, k, h.stacked.1) at (w newline) ∙ group_added_level around (kind_small tag stack around h.stacked.3) kind first e.end newline trees;
      depth_is = below ∙ sym (depth_on_top add around);
      records_is = omega (arith, count_on_top add (count trees + 1) (λ t. refl) around, h.records_is);
      stacked = stack_on_top add tag stack around h.stacked.3;
      fits = omega (arith, h.fits);
    }))

-- a state that is held has no more groups open than the stack has room for
pub not_deeper : (tag : Levels → ℕ → ℕ) (stack : List OpenGroup) (state : State) (levels : Levels) → Represents tag stack state levels → length stack < state.depth → ⊥
not_deeper tag stack state levels h deeper = omega (arith, h.fits)

pub represented_brace : (tag : Levels → ℕ → ℕ) (stack : List OpenGroup) (state : State) (levels : Levels) → Represents tag stack state levels → (newline r : Bool)
    → brace_by_level state.level.code newline ≡ r → brace_opens levels newline ≡ r
represented_brace tag stack state levels h newline r e = sym (ap (λ (w : ℕ). brace_by_level w newline) h.level_is ∙ brace_opens_right levels (kind_small tag stack levels h.stacked) newline) ∙ e
