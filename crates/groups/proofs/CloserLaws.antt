-- The machine at a level's closer, where the level is readied for it.
use mathlib.Core.Path.{◌≡◌, refl, sym, subst, ap, ◌∙◌}
use mathlib.Core.Bool.{Bool, true, false}
use mathlib.Core.List.{List, [], ◌++◌}
use mathlib.Core.Logic.{inl, inr}
use Prim.Native.Nat.{ℕ}
use native.Mathlib.Omega.{arith}
use borrow.Author.Tests.{ne_eqb}
use lib.Dec.{T}
use Rattle.machine.specs.Tokens.{Token}
use Rattle.machine.specs.Syntax.{Syntax}
use Rattle.machine.specs.Scopes.{Items, call_arguments, array_elements, object_properties, body, block}
use Rattle.machine.specs.Machinery.Machine.{end_of_text, Frame, Control, clause_due, item_due, Action, fail, pop, pop_in, finish, Value, done_value, Ending, by_statement, by_return, by_variable, by_start, by_test, by_step, by_object, by_case, by_paren, by_bracket, by_colon, by_item, look, row, Open, act, run}
use Rattle.machine.specs.Machinery.Classes.{is_end}
use Rattle.machine.proofs.Ran.{stays_dead}
use Rattle.controls.specs.declared.Setting.TheVariants as sits
use Rattle.controls.specs.declared.Ending.TheVariants as by
use Rattle.controls.specs.Machinery.Numbers.{control_of}
use Rattle.controls.specs.Machinery.Steps.{Ended, ended_operand, ended_postfix, Settled, in_group, Ends, ends_statements, ends_text, ends_expression, ends_item, ends_items, ends_no_parameter, ends_parameter, ends_head, ends_object, ends_no_step, ends_clauses, ends_caught, goes_on}
use Rattle.controls.specs.declared.Control as code
use Rattle.controls.proofs.LevelEnds.{parens_end, bracket_ends, item_ends}
use Rattle.waiting.specs.Machinery.Waiting.{Backed}
use Rattle.waiting.specs.declared.Level.{Level}
use Rattle.waiting.specs.declared.Waiting.{Waiting}
use Rattle.frames.specs.Machinery.Effects.{StandsSomewhere, Readies, EndsLevel, IsValue, is_popped, is-head, is-program}
use Rattle.frames.specs.declared.Standing.{Standing}
use Rattle.frames.proofs.ParameterLaws.{parameter_value}
use Rattle.groups.specs.Machinery.Closers.{is_by_object, is_object, closed_state, pops_there, dies_there, ComesTo}
use Rattle.std.proofs.Common.{Ok, Err}
use Rattle.answers.specs.declared.faults.Fault.{Fault}

no_finish : {A : Type 0} {value : Value} → finish ≡ pop value → A
no_finish e = absurd (let z : ◌≡◌ {A = ℕ} 0 1 = cc in omega arith)

no_fail : {A : Type 0} {value : Value} → fail ≡ pop value → A
no_fail e = absurd (let z : ◌≡◌ {A = ℕ} 0 1 = cc in omega arith)

goes_on_entry : {c : Control} {class : ℕ} {action : Action} → Ends class c false action → action ≡ fail
goes_on_entry goes_on = refl

-- no expression of a group takes the text's end, and no list
paren_text : {from : Control} → Ended from by_paren → look end_of_text (row from false) ≡ fail
paren_text ended = goes_on_entry (parens_end end_of_text tt by.Paren sits.Body (inr (inr refl)) ended)

step_text : {from : Control} → Ended from by_step → look end_of_text (row from false) ≡ fail
step_text ended = goes_on_entry (parens_end end_of_text tt by.Step sits.Body (inl refl) ended)

object_text : {from : Control} → Ended from by_object → look end_of_text (row from false) ≡ fail
object_text ended = goes_on_entry (parens_end end_of_text tt by.Object sits.Body (inr (inl refl)) ended)

item_text : {from : Control} (items : Items) → Ended from (by_item items) → look end_of_text (row from false) ≡ fail
item_text call_arguments ended = goes_on_entry (item_ends end_of_text tt call_arguments ended)
item_text array_elements ended = goes_on_entry (item_ends end_of_text tt array_elements ended)
item_text object_properties ended = goes_on_entry (item_ends end_of_text tt object_properties ended)

group_text : {from : Control} (ending : Ending) → T (in_group ending) → Ended from ending → look end_of_text (row from false) ≡ fail
group_text (by_statement setting) t ended = absurd t
group_text (by_return setting) t ended = absurd t
group_text (by_variable place) t ended = absurd t
group_text by_start t ended = absurd t
group_text by_test t ended = absurd t
group_text by_step t ended = absurd t
group_text by_object t ended = absurd t
group_text (by_case seen) t ended = absurd t
group_text by_paren t ended = paren_text ended
group_text by_bracket t ended = goes_on_entry (bracket_ends end_of_text tt ended)
group_text by_colon t ended = absurd t
group_text (by_item items) t ended = absurd t

items_text : (items : Items) → look end_of_text (row (item_due items) false) ≡ fail
items_text call_arguments = refl
items_text array_elements = refl
items_text object_properties = refl

clauses_text : (seen : Bool) → look end_of_text (row (clause_due seen) false) ≡ fail
clauses_text true = refl
clauses_text false = refl

-- a level that pops does not stand at the text's end
never_text : {c : Control} {class : ℕ} {value : Value} → Ends class c true (pop value) → look class (row c false) ≡ pop value → class ≡ end_of_text → ⊥
never_text (ends_statements {scope = body}) e q = no_finish (rw q at e)
never_text (ends_statements {scope = block}) e q = no_fail (rw q at e)
never_text (ends_expression {ending = ending} t there) e q = no_fail (sym (group_text ending t there) ∙ rw q at e)
never_text (ends_item {items = items} there) e q = no_fail (sym (item_text items there) ∙ rw q at e)
never_text (ends_items {items = items}) e q = no_fail (sym (items_text items) ∙ rw q at e)
never_text ends_no_parameter e q = no_fail (rw q at e)
never_text ends_parameter e q = no_fail (rw q at e)
never_text (ends_head there) e q = no_fail (sym (step_text there) ∙ rw q at e)
never_text ends_no_step e q = no_fail (rw q at e)
never_text (ends_clauses {seen = seen}) e q = no_fail (sym (clauses_text seen) ∙ subst (λ x. look x (row (clause_due seen) false) ≡ pop done_value) q e)
never_text ends_caught e q = no_fail (rw q at e)

-- and it has the head of a `for` with `in` where it pops that
ended_object : {from : Control} {ending : Ending} → Ended from ending → is_object from ≡ is_by_object ending
ended_object ended_operand = refl
ended_object ended_postfix = refl

group_object : (ending : Ending) → T (in_group ending) → is_by_object ending ≡ false
group_object (by_statement setting) t = absurd t
group_object (by_return setting) t = absurd t
group_object (by_variable place) t = absurd t
group_object by_start t = absurd t
group_object by_test t = absurd t
group_object by_step t = absurd t
group_object by_object t = absurd t
group_object (by_case seen) t = absurd t
group_object by_paren t = refl
group_object by_bracket t = refl
group_object by_colon t = absurd t
group_object (by_item items) t = absurd t

pops_none : {c : Control} {class : ℕ} {value : Value} → Ends class c true (pop value) → is_object c ≡ false
pops_none ends_statements = refl
pops_none (ends_expression {ending = ending} t there) = ended_object there ∙ group_object ending t
pops_none (ends_item there) = ended_object there
pops_none ends_items = refl
pops_none ends_no_parameter = refl
pops_none ends_parameter = refl
pops_none (ends_head there) = ended_object there
pops_none ends_no_step = refl
pops_none ends_clauses = refl
pops_none ends_caught = refl

never_head : {c : Control} {class : ℕ} → Ends class c true pop_in → look class (row c false) ≡ pop_in → class ≡ end_of_text → ⊥
never_head (ends_object there) e q = let z : fail ≡ pop_in = sym (object_text there) ∙ rw q at e in let w : ◌≡◌ {A = ℕ} 0 1 = cc in omega arith

pops_head : {c : Control} {class : ℕ} → Ends class c true pop_in → is_object c ≡ true
pops_head (ends_object there) = ended_object there

-- with its value the state behind it is reached
closes : {c : Control} (class place : ℕ) (around : List Open) (mark : ℕ) (u : List Token) {action : Action} {g : Frame} {nests : List Open} {value : Syntax} {within : Bool}
    → nests ≡ [] → IsValue action g value → Ends class c true action → look class (row c false) ≡ action → within ≡ is_object c
    → run (act action class (record { newline = false; mark = mark; first = place }) g (nests ++ around)) u ≡ run (closed_state class place within value around) u
closes class place around mark u none is_popped ends entry same = rw (none, same, pops_none ends, ne_eqb class end_of_text (never_text ends entry))
closes class place around mark u none is-head ends entry same = rw (none, same, pops_head ends, ne_eqb class end_of_text (never_head ends entry))
closes class place around mark u none is-program (ends_text e) entry same = rw (none, e)

-- the level is readied for its closer, and the table asked whether it ends there
module _ {at : code.Control} {class : ℕ} {l : Level} {stack : List Waiting} {cells : List ℕ} {s : Standing} {stack₁ : List Waiting} {cells₁ : List ℕ} (readies : Readies at class l stack cells s stack₁ cells₁) where
  pub may_end : StandsSomewhere (control_of at) l stack cells → Backed s.level stack₁ cells₁
  may_end w =
      let r = readies.moves w.g w.nests w.table w.stack₀ w.first w.floor w.passed w.stands in
      record { table = w.table; first = w.first; done = _; ps = _; operand = _; holds = r.stands.holds }

  module _ {b : Bool} (asked : Settled s.control class → T (is_end class) → Ends class (control_of s.control) b (look class (row (control_of s.control) false)))
      (end : T (is_end class)) where
    answered : {x : Bool} → b ≡ x → Ends class (control_of s.control) x (look class (row (control_of s.control) false))
    answered e = subst (λ (x : Bool). Ends class (control_of s.control) x (look class (row (control_of s.control) false))) e (asked readies.settled end)

    pub ends : {place n : ℕ} {within : Bool} {cells₂ : List ℕ} → b ≡ true → EndsLevel s.level stack₁ cells₁ n cells₂ → within ≡ is_object (control_of s.control)
        → ComesTo at class place l stack cells (Ok (record { count = n; within = within })) stack₁ cells₂
    ends {place = place} t finishes same g nests table stack₀ first floor passed stands =
        let r = readies.moves g nests table stack₀ first floor passed stands in
        let a = answered t in
        let e = finishes class (control_of s.control) (look class (row (control_of s.control) false)) r.frame_then r.nests_then table stack₀ first floor passed r.stands a in
        pops_there (record {
          value = e.value;
          runs = λ around mark u.
              r.takes around (record { newline = false; mark = mark; first = place }) u ∙ closes class place around mark u e.none e.value_is a refl same;
          count_is = e.count_is;
          cells_are = e.cells_are;
          kept = r.stands.kept;
          passes = e.passes;
          plain = λ q. parameter_value a (r.kind ∙ q) e.value_is;
        })

    pub dies : {place : ℕ} {stack' : List Waiting} {cells' : List ℕ} → b ≡ false → ComesTo at class place l stack cells (Err (Fault.NoProgram place)) stack' cells'
    dies {place = place} t g nests table stack₀ first floor passed stands =
        let r = readies.moves g nests table stack₀ first floor passed stands in
        dies_there (λ around mark u.
        r.takes around (record { newline = false; mark = mark; first = place }) u
        ∙ ap (λ (a : Action). run (act a class (record { newline = false; mark = mark; first = place }) r.frame_then (r.nests_then ++ around)) u) (goes_on_entry (answered t))
        ∙ stays_dead place u)
