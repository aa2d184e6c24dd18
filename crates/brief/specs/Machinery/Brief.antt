-- Groups that need no level: where the inside of an empty group may end, where one operand alone may stand, and what the machine makes of both. Machinery.
use Rattle.std.specs.Prelude.{ℕ, ◌≤◌, ◌≡◌, true, false, Option, Some, List, ◌∷◌, ◌++◌}
use Rattle.machine.specs.Tokens.{Token, name, close_paren, close_brace, close_bracket}
use Rattle.machine.specs.Syntax.{Syntax, nil, size}
use Rattle.machine.specs.Scopes.{Scope, call_arguments, array_elements, object_properties}
use Rattle.machine.specs.Machinery.Machine.{empty, among, some_target, by_paren, by_bracket, Control, statement_due, clause_due, operand_due, item_due, parameter_due, Open, live, run}
use Rattle.controls.specs.Machinery.Numbers.{inside_by}
use Rattle.controls.specs.declared.Closing as closings
use Rattle.controls.specs.Machinery.Written.{put_record, put_syntax}
use Rattle.frames.specs.Machinery.Effects.{of_parameter}
use Rattle.segments.specs.Machinery.Segments.{Segment, count_of, tokens_at}
use Rattle.groups.specs.Machinery.Closers.{closer_token, closed_state}
use Rattle.brief.specs.declared.Found.{Found}
use Rattle.brief.specs.declared.Found.TheVariants.{Nothing, Operand, NeedsLevel}

-- where the inside of a group starts, and the closer that may follow at once
pub data MayBeEmpty : Control → ℕ → Type 0 where
  no_arguments : MayBeEmpty (item_due call_arguments) close_paren
  no_elements : MayBeEmpty (item_due array_elements) close_bracket
  no_properties : MayBeEmpty (item_due object_properties) close_brace
  no_parameters : MayBeEmpty (parameter_due false) close_paren
  no_statements : (scope : Scope) → MayBeEmpty (statement_due false (among scope)) close_brace
  no_clauses : MayBeEmpty (clause_due false) close_brace

-- the same where an operand alone stands before the closer
pub data HoldsOperand : Control → ℕ → Type 0 where
  in_parens : HoldsOperand (operand_due by_paren some_target) close_paren
  in_brackets : HoldsOperand (operand_due by_bracket some_target) close_bracket
  in_arguments : HoldsOperand (item_due call_arguments) close_paren
  in_elements : HoldsOperand (item_due array_elements) close_bracket

-- the only record of a group, by its class where it is an operand's
pub data Lone (leaf : Option ℕ) (closer : ℕ) (closing : closings.Closing) : Found → Type 0 where
  lone_parameter : leaf ≡ Some name → closer ≡ close_paren → inside_by closing ≡ parameter_due false → Lone leaf closer closing Nothing
  lone_operand : {class : ℕ} → leaf ≡ Some class → HoldsOperand (inside_by closing) closer → Lone leaf closer closing (Operand class)
  lone_more : Lone leaf closer closing NeedsLevel

-- a level whose run pops a value, whatever stands around it; that of parameters is nothing
pub record PopsValue (class : ℕ) (p : Segment) (c : Control) (value : Syntax) : Type 0 where
  pub runs : (around : List Open) (mark : ℕ) (u : List Token)
      → run (live c empty around) (tokens_at p 0 ++ (closer_token class p.close mark ∷ u)) ≡ run (closed_state class p.close false value around) u
  pub plain : of_parameter c ≡ true → value ≡ nil

-- what is found inside a group: the value is nothing, or its records are that of one operand; of what may need a level nothing is said
pub data FindsInside (class : ℕ) (p : Segment) (c : Control) : Found → Type 0 where
  finds_nothing : PopsValue class p c nil → FindsInside class p c Nothing
  finds_operand : {k : ℕ} (value : Syntax) → PopsValue class p c value → 1 ≤ count_of p.cells → size value ≡ 1
      → ((table : List ℕ) (count : ℕ) → put_syntax table count value ≡ put_record table count k p.base 1) → FindsInside class p c (Operand k)
  finds_more : FindsInside class p c NeedsLevel
