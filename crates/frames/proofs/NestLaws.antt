-- A nest is opened, and left when it is done.
use mathlib.Core.Path.{◌≡◌, refl, sym, ◌∙◌, ap}
use mathlib.Core.Bool.{Bool, true, false, cond}
use mathlib.Core.List.{List, [], ◌∷◌, ◌++◌}
use Prim.Native.Nat.{ℕ, ◌+◌, ◌-◌, ◌≤◌, ◌<◌}
use native.Mathlib.Omega.{arith}
use borrow.Author.Tests.{ne_eqb, lt-ltb, le-ltb, ltb-true, ltb-false}
use lib.Dec.{eqb, ltb}
use lib.ListN.{length}
use Rattle.tables.specs.Records.{most_trees}
use Rattle.machine.specs.Tokens.{Token, token, Spot, name, colon, else_word, do_word, try_word, finally_word}
use Rattle.machine.specs.Syntax.{Syntax, nil, node, snoc}
use Rattle.machine.specs.Machinery.Machine as machine
use Rattle.machine.specs.Machinery.Machine.{Pending, pending, Frame, frame, wrap, complete_head, held_word, empty, if_nest, else_nest, do_nest, Setting, in_clause, in_nest, some_target, behind_statement, Closing, hold_word, keep, end_head, by_statement, by_case, Control, statement_due, name_first, body_done, clause_due, try_first, if_first, operand_done, Action, look, row, leave, Value, value_of, nested, act, live, run}
use Rattle.controls.specs.Machinery.Numbers.{setting_by, control_by, control_of, entered_by, worded_by, outside_by, behind_by, left_by}
use Rattle.controls.specs.Machinery.Steps.{Enters, enters_if, enters_do, enters_try, enters_case, enters_last_case, enters_default}
use Rattle.controls.specs.declared.Control as code
use Rattle.controls.specs.Machinery.Written.{put_record}
use Rattle.controls.specs.declared.Setting as codes
use Rattle.controls.specs.declared.Nest as opened
use Rattle.controls.specs.declared.Nest.TheVariants as kinds
use Rattle.waiting.specs.Machinery.Waiting.{Completes, stack_with, stack_as, waiting_one, made_one, with_held, restarted}
use Rattle.waiting.specs.declared.Level.{Level}
use Rattle.waiting.specs.declared.Waiting.{Waiting}
use Rattle.frames.specs.Machinery.Stands.{InNest, in-nest, InNumbered, of_clause, nest_in, owed, Stands}
use Rattle.frames.specs.Machinery.Effects.{of_parameter, Heads, Moved, Leaving, leaving_statement, leaving_catch, leaving_try, leaving_case, leaving_default, leaving_clauses}
use Rattle.frames.proofs.CloseLaws.{reduce_wraps}
use Rattle.frames.proofs.CarryLaws.{Carries, carried, stands, closes_lightens, carries_word, carries_made, carries_nest, carries_headed, carries_expression, carries_statement, completes_lightens, left-one, left_all, Around, carries_around}
use Rattle.frames.proofs.AtLaws.{AtStatement, AtEnded, Behind, behind-statement, behind_clause, at_statement, at_ended, nest_done}
use Rattle.frames.proofs.EffectLaws.{behind}
use Rattle.frames.proofs.ParameterLaws.{behind_kind}

-- where a nest is done, the table leaves it
pub leaving_row : {class : ℕ} {c : Control} {value : Value} → Leaving class c value → (newline : Bool) → look class (row c newline) ≡ leave value
leaving_row {class = class} (leaving_statement {nest = if_nest} other) newline = rw (ne_eqb class else_word (other refl))
leaving_row (leaving_statement {nest = else_nest} other) newline = refl
leaving_row (leaving_statement {nest = do_nest} other) newline = refl
leaving_row {class = class} (leaving_catch other) newline = rw (ne_eqb class finally_word other)
leaving_row leaving_try newline = refl
leaving_row (leaving_case e) newline = rw e
leaving_row (leaving_default e) newline = rw e
leaving_row (leaving_clauses e) newline = rw e

pub leaving_kind : {class : ℕ} {c : Control} {value : Value} → Leaving class c value → of_parameter c ≡ false
leaving_kind (leaving_statement other) = refl
leaving_kind (leaving_catch other) = refl
leaving_kind leaving_try = refl
leaving_kind (leaving_case e) = refl
leaving_kind (leaving_default e) = refl
leaving_kind (leaving_clauses e) = refl

-- the control behind the nest takes the token
nest_takes : (g f : Frame) (nests rest : List machine.Open) {after : Frame} {behind c from : Control} {closing : Closing} {mark class : ℕ} {value : Value} → Leaving class from value
    → nests ≡ nested behind closing mark f ∷ rest → c ≡ behind → machine.close closing mark (value_of value g) f ≡ after
    → (around : List machine.Open) (spot : Spot) (u : List Token)
    → run (live from g (nests ++ around)) (token class spot ∷ u) ≡ run (live c after (rest ++ around)) (token class spot ∷ u)
nest_takes g f nests rest {class = class} leaving nests-are behinds closes around spot u =
    ap (λ (a : Action). run (act a class spot g (nests ++ around)) u) (leaving_row leaving spot.newline) ∙ rw (nests-are, behinds, closes)

pub name_takes : (setting : Setting) (g : Frame) (around : List machine.Open) (class : ℕ) (spot : Spot) (u : List Token) → (class ≡ colon → ⊥)
    → run (live (name_first setting) g around) (token class spot ∷ u) ≡ run (live (operand_done (by_statement setting) some_target) g around) (token class spot ∷ u)
name_takes setting g around class spot u other = rw (ne_eqb class colon other)

-- what stands where a nest starts
entered : {nests : List machine.Open} {table : List ℕ} {stack₀ : List Waiting} {first floor passed : ℕ} {l : Level} {stack : List Waiting} {cells : List ℕ} (nest : opened.Nest) (mark : ℕ) → InNest nests → l.held ≡ mark
    → Carries nests table stack₀ first floor nil [] [] nil l stack cells → l.count + l.top ≤ first + floor + passed → first + floor + passed ≤ most_trees
    → Stands (entered_by nest) (machine.affect (worded_by nest) mark empty) nests table stack₀ first floor passed l stack cells
entered kinds.If mark inside word h passes few = stands (held_word mark) h (refl, refl, refl, inside) (rw word) (omega arith) few
entered kinds.Do mark inside word h passes few = stands nil h (refl, refl, (refl, inside)) tt (omega arith) few
entered kinds.Try mark inside word h passes few = stands nil h (refl, refl, inside) tt (omega arith) few
entered kinds.Clause mark inside word h passes few = stands nil h (refl, refl, refl, inside) tt (omega arith) few
entered kinds.LastClause mark inside word h passes few = stands nil h (refl, refl, refl, inside) tt (omega arith) few

-- the frame around a nest that is opened
pub record Outside (nest : opened.Nest) (setting : codes.Setting) (f : Frame) (nests : List machine.Open) (table : List ℕ) (stack₀ : List Waiting) (first floor passed : ℕ) (l r : Level) (stack : List Waiting) (cells : List ℕ) : Type 0 where
  pub done : Syntax
  pub starts : List Pending
  pub is : f ≡ frame done starts [] nil
  pub within : InNumbered nest setting done nests
  pub carries : Carries nests table stack₀ first floor done starts [] nil r stack cells
  pub passes : r.count + r.top ≤ first + floor + passed
  pub lower : r.top ≤ l.top

module _ {g : Frame} {nests : List machine.Open} {table : List ℕ} {stack₀ : List Waiting} {first floor passed : ℕ} {l r : Level} {stack : List Waiting} {cells after : List ℕ} where
  statement_outside : {nest : opened.Nest} (setting : codes.Setting) (mark : ℕ) → of_clause nest ≡ false → outside_by nest ≡ keep → Heads nest l stack cells r after → AtStatement (setting_by setting) g nests table stack₀ first floor passed l stack cells
      → Outside nest setting (machine.affect (outside_by nest) mark g) nests table stack₀ first floor passed l r stack after
  statement_outside setting mark less keeps heads h =
      let e = heads.other less in
      rw (e.0, e.1, keeps)
      (record {
        done = h.done;
        starts = h.starts;
        is = h.is;
        within = record { in-statement = λ few. h.within; in_clauses = λ many. absurd (let q : ◌≡◌ {A = Bool} false true = sym less ∙ many in let z : ◌≡◌ {A = ℕ} 0 1 = cc in omega arith) };
        carries = h.carries;
        passes = h.passes;
        lower = omega arith;
      })

  -- behind the head of a clause
  head_outside : {nest : opened.Nest} {seen : Bool} (setting : codes.Setting) (mark : ℕ) → of_clause nest ≡ true → outside_by nest ≡ end_head → Heads nest l stack cells r after → AtEnded (by_case seen) g nests table stack₀ first floor passed l stack cells
      → Outside nest setting (machine.affect (outside_by nest) mark g) nests table stack₀ first floor passed l r stack after
  head_outside setting mark many ends heads e =
      let k = heads.clause many in
      let b = e.within.0 in
      let light = closes_lightens _ e.carries.holds k.same_floor k.closes in
      rw (k.is, ends)
      (record {
        done = e.done;
        starts = pending b.kind b.mark (wrap e.waiting e.operand) ∷ b.before;
        is = ap (machine.affect end_head mark) e.is ∙ ap complete_head (reduce_wraps e.done e.starts e.waiting e.operand) ∙ rw b.is;
        within = record { in-statement = λ few. absurd (let q : ◌≡◌ {A = Bool} true false = sym many ∙ few in let z : ◌≡◌ {A = ℕ} 0 1 = cc in omega arith); in_clauses = λ more. e.within.1 };
        carries = carries_headed (rw b.is at (carries_expression e.carries k.same_floor k.same_held k.closes));
        passes = omega (arith, light, e.passes);
        lower = omega (arith, light);
      })

  pub outside : {nest : opened.Nest} {from : Control} (setting : codes.Setting) (mark : ℕ) → Heads nest l stack cells r after → Enters nest (setting_by setting) from
      → Stands from g nests table stack₀ first floor passed l stack cells
      → Outside nest setting (machine.affect (outside_by nest) mark g) nests table stack₀ first floor passed l r stack after
  outside {nest = nest} {from = from} setting mark heads opens s = go setting from heads opens s
    where
      go : {nest : opened.Nest} (setting : codes.Setting) (from : Control) → Heads nest l stack cells r after → Enters nest (setting_by setting) from
          → Stands from g nests table stack₀ first floor passed l stack cells
          → Outside nest setting (machine.affect (outside_by nest) mark g) nests table stack₀ first floor passed l r stack after
      go setting _ heads enters_if s = statement_outside setting mark refl refl heads (at_statement s)
      go setting _ heads enters_do s = statement_outside setting mark refl refl heads (at_statement s)
      go setting _ heads enters_try s = statement_outside setting mark refl refl heads (at_statement s)
      go setting _ heads (enters_case ended) s = head_outside setting mark refl refl heads (at_ended ended s)
      go setting _ heads (enters_last_case ended) s = head_outside setting mark refl refl heads (at_ended ended s)
      go setting _ heads enters_default s =
          head_outside {seen = true} setting mark refl refl heads
          (record {
            done = s.done;
            starts = s.starts;
            waiting = s.waiting;
            operand = s.operand;
            is = s.is;
            within = (s.shaped.0, s.shaped.3);
            carries = carried s;
            passes = omega (arith, s.passes);
          })

  pub enters : {from : Control} (nest : opened.Nest) (setting : codes.Setting) (mark : ℕ) → first + floor + passed < most_trees → mark ≤ most_trees → l.top < length stack
      → Heads nest l stack cells r after → Enters nest (setting_by setting) from → Stands from g nests table stack₀ first floor passed l stack cells
      → Stands (entered_by nest) (machine.affect (worded_by nest) mark empty) (nested (behind_by nest (setting_by setting)) (left_by nest) mark (machine.affect (outside_by nest) mark g) ∷ nests) table stack₀ first floor (passed + 1)
      (with_held mark (waiting_one r)) (stack_with stack r.top (nest_in nest setting) mark r.start) after
  enters nest setting mark more small fits heads opens s =
      let h = outside setting mark heads opens s in
      let p = h.passes in
      rw h.is
      (entered nest mark in-nest refl (carries_word (carries_nest nest setting mark h.carries h.within (omega arith) small (omega (arith, h.lower))) mark small) (omega arith) (omega arith))

-- where the machine stands behind a nest
nest-kind : (nest : opened.Nest) (setting : Setting) → of_parameter (behind_by nest setting) ≡ false
nest-kind kinds.If setting = behind_kind setting
nest-kind kinds.Do setting = refl
nest-kind kinds.Try setting = behind_kind setting
nest-kind kinds.Clause setting = refl
nest-kind kinds.LastClause setting = refl

behind_owes : (s : Setting) → owed (behind_statement s) ≡ 0
behind_owes (machine.among scope) = refl
behind_owes in_clause = refl
behind_owes (in_nest n) = refl

pub nest_owes : (nest : opened.Nest) (setting : Setting) → owed (behind_by nest setting) ≡ 0
nest_owes kinds.If setting = behind_owes setting
nest_owes kinds.Do setting = refl
nest_owes kinds.Try setting = behind_owes setting
nest_owes kinds.Clause setting = refl
nest_owes kinds.LastClause setting = refl

nest_behind : (nest : opened.Nest) (setting : codes.Setting) {done : Syntax} {nests : List machine.Open} → (nest ≡ kinds.Do → ⊥) → InNumbered nest setting done nests
    → Behind done nests (behind_by nest (setting_by setting))
nest_behind kinds.If setting other within = behind-statement (setting_by setting) (within.in-statement refl)
nest_behind kinds.Do setting other within = absurd (other refl)
nest_behind kinds.Try setting other within = behind-statement (setting_by setting) (within.in-statement refl)
nest_behind kinds.Clause setting other within = behind_clause (within.in_clauses refl)
nest_behind kinds.LastClause setting other within = behind_clause (within.in_clauses refl)

-- what a nest does when it is left
pub plain_closes : (nest : opened.Nest) (mark : ℕ) (value done : Syntax) (starts : List Pending) → (nest ≡ kinds.Do → ⊥) → (nest ≡ kinds.Try → ⊥)
    → machine.close (left_by nest) mark value (frame done starts [] nil) ≡ frame (snoc done (wrap starts value)) [] [] nil
plain_closes kinds.If mark value done starts no-do no_try = refl
plain_closes kinds.Do mark value done starts no-do no_try = absurd (no-do refl)
plain_closes kinds.Try mark value done starts no-do no_try = absurd (no_try refl)
plain_closes kinds.Clause mark value done starts no-do no_try = refl
plain_closes kinds.LastClause mark value done starts no-do no_try = refl

module _ (nest : opened.Nest) (mark : ℕ) (value done : Syntax) (starts : List Pending) where
  pub do_closes : nest ≡ kinds.Do → machine.close (left_by nest) mark value (frame done starts [] nil) ≡ frame done (pending do_word mark value ∷ starts) [] nil
  do_closes e = rw e

  pub try_closes : nest ≡ kinds.Try → machine.close (left_by nest) mark value (frame done starts [] nil) ≡ frame (snoc done (wrap starts (node try_word mark value nil))) [] [] nil
  try_closes e = rw e

module _ {g : Frame} {nests : List machine.Open} {table : List ℕ} {stack₀ : List Waiting} {first floor passed : ℕ} {l : Level} {stack : List Waiting} {cells : List ℕ} where
  -- what is around a nest that is left
  pub nest_around : {class : ℕ} {from : Control} {value : Value} → Leaving class from value → Stands from g nests table stack₀ first floor passed l stack cells
      → Around nests table stack₀ first floor (value_of value g) l stack cells
  nest_around (leaving_statement other) s = rw (s.is, s.shaped.3.is) (carries_around s.shaped.4 (left-one refl) (nest_done s))
  nest_around (leaving_catch other) s = rw s.is (carries_around s.shaped.3 left_all (rw (s.shaped.0, s.shaped.1, s.shaped.2) at (carried s)))
  nest_around leaving_try s = rw s.is (carries_around s.shaped.3 left_all (rw (s.shaped.0, s.shaped.1, s.shaped.2) at (carried s)))
  nest_around (leaving_case e) s = rw s.is (carries_around s.shaped.3 left_all (rw (s.shaped.0, s.shaped.1, s.shaped.2) at (carried s)))
  nest_around (leaving_default e) s = rw s.is (carries_around s.shaped.3 left_all (rw (s.shaped.0, s.shaped.1, s.shaped.2) at (carried s)))
  nest_around (leaving_clauses e) s = rw s.is (carries_around s.shaped.3 left_all (rw (s.shaped.0, s.shaped.1, s.shaped.2) at (carried s)))

  -- the records so far and what waits
  pub leaving_passes : {class : ℕ} {from : Control} {value : Value} → Leaving class from value → Stands from g nests table stack₀ first floor passed l stack cells
      → (l.count + l.top ≤ first + floor + passed) × (first + floor + passed ≤ most_trees)
  leaving_passes leaving s = (omega (arith, s.passes), s.few)

  module _ {class : ℕ} {from : Control} {kind : Value} (leaving : Leaving class from kind) (s : Stands from g nests table stack₀ first floor passed l stack cells)
      (a : Around nests table stack₀ first floor (value_of kind g) l stack cells) {c : code.Control} (behinds : control_of c ≡ behind_by a.nest (setting_by a.setting)) where
    -- a statement, a clause or a `try` is complete in what stands around
    pub left_complete : {r all : Level} {last : Syntax} {cells₁ cells' : List ℕ} → (a.nest ≡ kinds.Do → ⊥)
        → machine.close (left_by a.nest) a.mark (value_of kind g) (frame a.done a.starts [] nil) ≡ frame (snoc a.done (wrap a.starts last)) [] [] nil
        → Carries a.rest table stack₀ first floor a.done a.starts [] last r stack cells₁ → r.count + r.top ≤ l.count + l.top → Completes r stack cells₁ all cells'
        → Moved from class g nests table stack₀ first floor passed (record { control = c; level = all }) stack cells'
    left_complete {last = last} other closes carries less completes =
        let lighter = completes_lightens carries completes in
        let p = leaving_passes leaving s in
        record {
          frame_then = frame (snoc a.done (wrap a.starts last)) [] [] nil;
          nests_then = a.rest;
          stands = rw behinds (behind (nest_behind a.nest a.setting other a.within) (carries_statement carries completes) (omega (arith, lighter, p.0)) p.1);
          kind = rw behinds (nest-kind a.nest (setting_by a.setting) ∙ sym (leaving_kind leaving));
          takes = nest_takes g (frame a.done a.starts [] nil) nests a.rest leaving a.is behinds closes;
        }

    pub left_do : a.nest ≡ kinds.Do → Moved from class g nests table stack₀ first floor passed (record { control = c; level = restarted l }) (stack_as stack l.top do_word) cells
    left_do one =
        let p = leaving_passes leaving s in
        let body : control_of c ≡ body_done (setting_by a.setting) = behinds ∙ rw one in
        let less = a.within.in-statement (rw one) in
        record {
          frame_then = frame a.done (pending do_word a.mark (value_of kind g) ∷ a.starts) [] nil;
          nests_then = a.rest;
          stands = rw body (stands nil a.joins (refl, refl, less) tt (omega (arith, p.0)) p.1);
          kind = rw body (sym (leaving_kind leaving));
          takes = nest_takes g (frame a.done a.starts [] nil) nests a.rest leaving a.is behinds (do_closes a.nest a.mark (value_of kind g) a.done a.starts one);
        }

  -- a held name is an operand before what is no `:`
  pub names : {setting : Setting} → Stands (name_first setting) g nests table stack₀ first floor passed l stack cells
      → Stands (operand_done (by_statement setting) some_target) g nests table stack₀ first floor passed (made_one l) stack (put_record cells l.count name l.held (l.count - l.start + 1))
  names s =
      rw (s.is, s.held)
      (stands (node name l.held nil nil) (carries_made (carried s) name l.held (omega (arith, s.passes, s.few))) s.shaped.1 tt (omega (arith, s.passes)) s.few)
