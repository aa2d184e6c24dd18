-- A `?` is open, and is answered, as the code numbers what ends its expression.
use mathlib.Core.Path.{◌≡◌, refl, sym, ◌∙◌}
use mathlib.Core.Bool.{Bool, true}
use mathlib.Core.List.{List}
use Prim.Native.Nat.{ℕ, ◌+◌, ◌-◌, ◌≤◌, ◌<◌}
use native.Mathlib.Omega.{arith}
use lib.ListN.{length, get_or}
use Rattle.tables.specs.Records.{most_trees}
use Rattle.machine.specs.Tokens.{question}
use Rattle.machine.specs.Operators.{least_binary}
use Rattle.machine.specs.Machinery.Machine.{some_target, Ending, by_colon, Control, statement_due, statement_done, name_first, return_first, throw_first, jump_first, head_first, for_first, switch_first, switch_past, body_done, test_first, semicolon_due, variable_due, variable_named, start_due, test_due, step_due, default_first, clause_due, try_first, try_done, catch_first, catch_due, catch_named, catch_past, catch_done, finally_first, try_ended, if_first, operand_due, member_due, operand_done, postfix_done, dot_last, function_first, function_named, parameter_past, item_due, property_named, parameter_due, parameter_named, finished}
use Rattle.controls.specs.Machinery.Numbers.{ending_by, control_by, control_of}
use Rattle.controls.specs.Machinery.Steps.{Ended, ended_operand, ended_postfix}
use Rattle.controls.specs.declared.Control as code
use Rattle.controls.specs.declared.Place as places
use Rattle.controls.specs.declared.Place.TheVariants as stand
use Rattle.controls.specs.declared.Setting as codes
use Rattle.controls.specs.declared.Ending as endings
use Rattle.waiting.specs.Machinery.Waiting.{nothing_waits, Closes, stack_with, stack_as, waiting_one, restarted}
use Rattle.waiting.specs.declared.Level.{Level}
use Rattle.waiting.specs.declared.Waiting.{Waiting}
use Rattle.frames.specs.Machinery.Stands.{ask_in, asked_ending, asked_setting, asked_in, AskNumber}
use Rattle.frames.specs.Machinery.Effects.{MayAsk, Asks, MayTurn, Turns}
use Rattle.frames.proofs.NumberLaws.{setting_few, ending_few, asks_in, ask_number}
use Rattle.frames.proofs.CarryLaws.{closes_lightens}
use Rattle.frames.proofs.AtLaws.{at_ended}
use Rattle.frames.proofs.AskLaws.{asks, answering, turns}
use Rattle.groups.specs.Machinery.Closers.{AsksIn}

-- the ending of an expression where a Unary has ended, or another
abbrev ending_of : Ending → Control → Ending
ending_of other (statement_due must setting) = other
ending_of other (statement_done nest) = other
ending_of other (name_first setting) = other
ending_of other (return_first setting) = other
ending_of other (throw_first setting) = other
ending_of other (jump_first setting) = other
ending_of other (head_first setting) = other
ending_of other (for_first setting) = other
ending_of other (switch_first setting) = other
ending_of other (switch_past setting) = other
ending_of other (body_done setting) = other
ending_of other (test_first setting) = other
ending_of other (semicolon_due setting) = other
ending_of other (variable_due place) = other
ending_of other (variable_named place) = other
ending_of other start_due = other
ending_of other test_due = other
ending_of other step_due = other
ending_of other default_first = other
ending_of other (clause_due seen) = other
ending_of other try_first = other
ending_of other try_done = other
ending_of other catch_first = other
ending_of other catch_due = other
ending_of other catch_named = other
ending_of other catch_past = other
ending_of other catch_done = other
ending_of other finally_first = other
ending_of other try_ended = other
ending_of other if_first = other
ending_of other (operand_due ending _) = other
ending_of other (member_due ending _) = other
ending_of other (operand_done ending _) = ending
ending_of other (postfix_done ending) = ending
ending_of other (dot_last ending _) = other
ending_of other (function_first role) = other
ending_of other (function_named role) = other
ending_of other (parameter_past role) = other
ending_of other (item_due items) = other
ending_of other property_named = other
ending_of other (parameter_due must) = other
ending_of other parameter_named = other
ending_of other finished = other

ended_there : {c : Control} {ending : Ending} (other : Ending) → Ended c ending → ending_of other c ≡ ending
ended_there other ended_operand = refl
ended_there other ended_postfix = refl

numbered : (place : places.Place) (ending : endings.Ending) (setting : codes.Setting) (flag : Bool) → ending_of (ending_by ending setting) (control_by place ending setting flag) ≡ ending_by ending setting
numbered stand.OperandDone ending setting flag = refl
numbered _ ending setting flag = refl

ended_number : (at : code.Control) {ending : Ending} → Ended (control_of at) ending → ending ≡ ending_by at.ending at.setting
ended_number at ended = sym (ended_there (ending_by at.ending at.setting) ended) ∙ numbered at.place at.ending at.setting at.flag

-- the number that stands for an open `?` fits
pub ask_small : (ending : endings.Ending) (setting : codes.Setting) → ask_in ending setting < 65536
ask_small ending setting = omega (arith, ending_few ending, setting_few setting)

-- a `?`
module _ (at : code.Control) {mark : ℕ} {l r : Level} {stack : List Waiting} {cells after : List ℕ} where
  pub ask_asks : (least : ℕ) {number : ℕ} → MayAsk at mark l stack cells → (r.floor ≡ l.floor) × (r.held ≡ l.held) × Closes least l stack cells r after → number < 65536
      → (r.top < length stack) × (number < 65536) × (mark ≤ most_trees) × (r.start ≤ most_trees)
  ask_asks least may closes small =
      let s = may.somewhere.stands in
      let light = closes_lightens _ s.holds closes.0 closes.2 in
      (omega (arith, light, may.room), small, omega (arith, may.marked), omega (arith, light, s.holds.few))

  pub asks_there : {number : ℕ} {level : Level} {stack' : List Waiting} {c : code.Control} → mark ≤ most_trees → l.top < length stack
      → (r.floor ≡ l.floor) × (r.held ≡ l.held) × Closes (least_binary + 1) l stack cells r after
      → AsksIn at.ending at.setting number
      → (level ≡ waiting_one r) × (stack' ≡ stack_with stack r.top number mark r.start) → control_of c ≡ operand_due by_colon some_target
      → Asks at mark l stack cells (record { control = c; level = level }) stack' after
  asks_there small room closes n e c-is ending g nests table stack₀ first floor passed s ended more =
      let number : ℕ = ask_in n.past at.setting in
      let same : ending ≡ asked_in number = ended_number at ended ∙ sym n.same ∙ sym (asks_in n.past at.setting) in
      record {
        control_is = c-is;
        stands = rw (e.0, e.1, same, n.is) (asks closes.0 closes.1 number mark more (ask_number n.past at.setting n.plain) small room closes.2 (rw same at ended) s);
      }

-- and its `:`
pub record Turning (r : Level) (stack : List Waiting) : Type 0 where
  pub waits : 1 ≤ r.top
  pub fits : r.top ≤ length stack
  pub many : AskNumber (get_or stack (r.top - 1) nothing_waits).kind

answer_due : {c : Control} (kind : ℕ) → AskNumber kind → c ≡ control_by stand.OperandDue (asked_ending kind) (asked_setting kind) true → c ≡ operand_due (asked_in kind) some_target
unfolding asked_in
answer_due kind number e = e ∙ rw number.1

module _ {l r : Level} {stack : List Waiting} {cells after : List ℕ} where
  pub turn_asks : MayTurn l stack cells → (r.floor ≡ l.floor) × (r.held ≡ l.held) × Closes 2 l stack cells r after → Turning r stack
  turn_asks may closes =
      let a = answering closes.0 closes.1 (at_ended may.ends may.somewhere.stands) closes.2 in
      record { waits = a.waits; fits = a.fits; many = rw a.stacked a.many }

  pub turns_there : {level : Level} {stack' : List Waiting} {c : code.Control} (kind : ℕ) → (r.floor ≡ l.floor) × (r.held ≡ l.held) × Closes 2 l stack cells r after
      → (get_or stack (r.top - 1) nothing_waits).kind ≡ kind → (level ≡ restarted r) × (stack' ≡ stack_as stack r.top question)
      → control_of c ≡ control_by stand.OperandDue (asked_ending kind) (asked_setting kind) true → Turns l stack cells (record { control = c; level = level }) stack' after
  turns_there kind closes at e c-is from g nests table stack₀ first floor passed s ended more =
      let e' = at_ended ended s in
      let a = answering closes.0 closes.1 e' closes.2 in
      let number : AskNumber kind = rw (sym at ∙ a.stacked) a.many in
      rw (e.0, e.1) (turns closes.0 closes.1 kind more e' closes.2 at (answer_due kind number c-is))
