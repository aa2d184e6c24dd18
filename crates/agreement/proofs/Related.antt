-- Where the token machine stands, and what the prefix rule has seen of the level there.
use mathlib.Core.Path.{◌≡◌}
use mathlib.Core.Bool.{Bool, true, false, false≢true, cond, ◌&&◌, ◌||◌}
use mathlib.Core.List.{List, [], ◌∷◌}
use Prim.Native.Nat.{ℕ}
use Rattle.rule.specs.Trees.{paren_kind, object_kind, block_kind, bracket_kind}
use Rattle.rule.specs.Machinery.Summary.{
  Summary,
  nothing,
  operand,
  after_operator,
  after_separator,
  after_dot,
  after_comma,
  after_other,
  after_return,
  after_head_word,
  after_head,
  after_block,
  after_function,
  after_function_name,
  after_function_parens,
  name_by,
}
use Rattle.machine.specs.Scopes.{Items, call_arguments, array_elements, object_properties}
use Rattle.machine.specs.Machinery.Machine.{
  Ending,
  by_statement,
  by_return,
  by_variable,
  by_start,
  by_test,
  by_step,
  by_object,
  by_case,
  by_paren,
  by_bracket,
  by_colon,
  by_item,
  Role,
  declared,
  operand_in,
  Control,
  if_nest,
  Setting,
  among,
  in_clause,
  in_nest,
  Variables,
  in_statement,
  in_head,
  statement_due,
  statement_done,
  name_first,
  return_first,
  throw_first,
  jump_first,
  head_first,
  variable_due,
  variable_named,
  body_done,
  test_first,
  semicolon_due,
  for_first,
  start_due,
  test_due,
  step_due,
  switch_first,
  switch_past,
  clause_due,
  default_first,
  try_first,
  try_done,
  catch_first,
  catch_due,
  catch_named,
  catch_past,
  catch_done,
  finally_first,
  try_ended,
  if_first,
  operand_due,
  member_due,
  operand_done,
  postfix_done,
  dot_last,
  function_first,
  function_named,
  parameter_past,
  item_due,
  property_named,
  parameter_due,
  parameter_named,
  finished,
}
use Rattle.text.proofs.Members.{all_in, at, is_in, found}
use Rattle.text.proofs.Range.{and_left, and_right}
use Rattle.agreement.proofs.TreeClasses.{holds}
use Rattle.rule.proofs.Finite.{all_summaries, at_summary}
use borrow.Author.Tests.{eqb-true}
use lib.Dec.{T, eqb}

-- statement levels: the whole text, of kind 0, and blocks
abbrev pub statement_kinds : List ℕ
statement_kinds = 0 ∷ block_kind ∷ []

-- the kinds of levels on which a control may stand
abbrev item_kinds : Items → List ℕ
item_kinds call_arguments = paren_kind ∷ []
item_kinds array_elements = bracket_kind ∷ []
item_kinds object_properties = object_kind ∷ []

abbrev variable_kinds : Variables → List ℕ
variable_kinds (in_statement setting) = statement_kinds
variable_kinds (in_head first) = paren_kind ∷ []

-- a conditional may stand on any level
abbrev ending_kinds : Ending → List ℕ
ending_kinds (by_statement setting) = statement_kinds
ending_kinds (by_return setting) = statement_kinds
ending_kinds (by_variable place) = variable_kinds place
ending_kinds by_start = paren_kind ∷ []
ending_kinds by_test = paren_kind ∷ []
ending_kinds by_step = paren_kind ∷ []
ending_kinds by_object = paren_kind ∷ []
ending_kinds (by_case seen) = statement_kinds
ending_kinds by_paren = paren_kind ∷ []
ending_kinds by_bracket = bracket_kind ∷ []
ending_kinds by_colon = 0 ∷ block_kind ∷ paren_kind ∷ bracket_kind ∷ object_kind ∷ []
ending_kinds (by_item items) = item_kinds items

abbrev role_kinds : Role → List ℕ
role_kinds declared = statement_kinds
role_kinds (operand_in ending _) = ending_kinds ending

abbrev pub kinds : Control → List ℕ
kinds (statement_due must setting) = statement_kinds
kinds (statement_done nest) = statement_kinds
kinds (name_first setting) = statement_kinds
kinds (return_first setting) = statement_kinds
kinds (throw_first setting) = statement_kinds
kinds (jump_first setting) = statement_kinds
kinds (head_first setting) = statement_kinds
kinds (variable_due place) = variable_kinds place
kinds (variable_named place) = variable_kinds place
kinds (for_first setting) = statement_kinds
kinds start_due = paren_kind ∷ []
kinds test_due = paren_kind ∷ []
kinds step_due = paren_kind ∷ []
kinds (switch_first setting) = statement_kinds
kinds (switch_past setting) = statement_kinds
kinds (clause_due seen) = statement_kinds
kinds default_first = statement_kinds
kinds try_first = statement_kinds
kinds try_done = statement_kinds
kinds catch_first = statement_kinds
kinds catch_due = paren_kind ∷ []
kinds catch_named = paren_kind ∷ []
kinds catch_past = statement_kinds
kinds catch_done = statement_kinds
kinds finally_first = statement_kinds
kinds try_ended = statement_kinds
kinds (body_done setting) = statement_kinds
kinds (test_first setting) = statement_kinds
kinds (semicolon_due setting) = statement_kinds
kinds if_first = statement_kinds
kinds (operand_due ending _) = ending_kinds ending
kinds (member_due ending _) = ending_kinds ending
kinds (operand_done ending _) = ending_kinds ending
kinds (postfix_done ending) = ending_kinds ending
kinds (dot_last ending _) = ending_kinds ending
kinds (function_first role) = role_kinds role
kinds (function_named role) = role_kinds role
kinds (parameter_past role) = role_kinds role
kinds (item_due items) = item_kinds items
kinds property_named = object_kind ∷ []
kinds (parameter_due must) = paren_kind ∷ []
kinds parameter_named = paren_kind ∷ []
kinds finished = []

-- what may stand last there
abbrev due_behind : Ending → List Summary
due_behind (by_statement setting) = after_operator ∷ after_comma ∷ []
due_behind (by_return setting) = after_operator ∷ after_comma ∷ []
due_behind (by_variable place) = after_operator ∷ []
due_behind by_start = after_operator ∷ after_comma ∷ []
due_behind by_test = after_operator ∷ after_comma ∷ []
due_behind by_step = after_operator ∷ after_comma ∷ []
due_behind by_object = after_operator ∷ after_comma ∷ []
due_behind (by_case seen) = after_operator ∷ after_comma ∷ []
due_behind by_paren = nothing ∷ after_operator ∷ after_comma ∷ []
due_behind by_bracket = nothing ∷ after_operator ∷ after_comma ∷ []
due_behind by_colon = after_operator ∷ []
due_behind (by_item call_arguments) = after_comma ∷ after_operator ∷ []
due_behind (by_item array_elements) = after_operator ∷ []
due_behind (by_item object_properties) = after_separator ∷ after_operator ∷ []

abbrev item_behind : Items → List Summary
item_behind call_arguments = nothing ∷ []
item_behind array_elements = nothing ∷ after_comma ∷ []
item_behind object_properties = nothing ∷ after_comma ∷ []

-- whether a function is an operand
abbrev is_operand : Role → Bool
is_operand declared = false
is_operand (operand_in ending _) = true

-- a statement has come before in a clause, or its `:`
abbrev may_start : Setting → List Summary
may_start (among scope) = nothing ∷ after_separator ∷ after_block ∷ []
may_start in_clause = after_separator ∷ after_block ∷ []
may_start (in_nest nest) = nothing ∷ after_separator ∷ after_block ∷ []

abbrev pub summaries : Control → List Summary
summaries (statement_due true setting) = after_separator ∷ after_head ∷ after_other ∷ []
summaries (statement_due false setting) = may_start setting
summaries (statement_done nest) = after_separator ∷ after_block ∷ []
summaries (name_first setting) = operand ∷ []
summaries (return_first setting) = after_return ∷ []
summaries (throw_first setting) = after_return ∷ []
summaries (jump_first setting) = after_other ∷ []
summaries (head_first setting) = after_head_word ∷ []
summaries (variable_due place) = after_other ∷ after_comma ∷ []
summaries (variable_named place) = operand ∷ []
summaries (for_first setting) = after_head_word ∷ []
summaries start_due = nothing ∷ []
summaries test_due = after_separator ∷ []
summaries step_due = after_separator ∷ []
summaries (switch_first setting) = after_other ∷ []
summaries (switch_past setting) = operand ∷ []
summaries (clause_due seen) = nothing ∷ after_separator ∷ after_block ∷ []
summaries default_first = after_other ∷ []
summaries try_first = after_other ∷ []
summaries try_done = after_block ∷ []
summaries catch_first = after_other ∷ []
summaries catch_due = nothing ∷ []
summaries catch_named = operand ∷ []
summaries catch_past = operand ∷ []
summaries catch_done = after_block ∷ []
summaries finally_first = after_other ∷ []
summaries try_ended = after_block ∷ []
summaries (body_done setting) = after_separator ∷ after_block ∷ []
summaries (test_first setting) = after_head_word ∷ []
summaries (semicolon_due setting) = operand ∷ after_other ∷ after_head ∷ []
summaries if_first = after_head_word ∷ []
summaries (operand_due ending _) = due_behind ending
summaries (member_due ending _) = after_operator ∷ []
summaries (operand_done ending _) = operand ∷ []
summaries (postfix_done ending) = operand ∷ []
summaries (dot_last ending _) = after_dot ∷ []
summaries (function_first role) = after_function (is_operand role) ∷ []
summaries (function_named role) = after_function_name (is_operand role) ∷ []
summaries (parameter_past role) = after_function_parens (is_operand role) ∷ []
summaries (item_due items) = item_behind items
summaries property_named = operand ∷ []
summaries (parameter_due must) = cond must after_comma nothing ∷ []
summaries parameter_named = operand ∷ []
summaries finished = []

-- summaries are looked for by numbers of their own
abbrev ordinal : Summary → ℕ
ordinal nothing = 0
ordinal operand = 1
ordinal after_operator = 2
ordinal after_separator = 3
ordinal after_dot = 4
ordinal after_comma = 5
ordinal after_other = 6
ordinal after_return = 7
ordinal after_head_word = 8
ordinal after_head = 9
ordinal after_block = 10
ordinal (after_function inObject) = cond inObject 12 11
ordinal (after_function_name inObject) = cond inObject 14 13
ordinal (after_function_parens inObject) = cond inObject 16 15

abbrev ordinals : List Summary → List ℕ
ordinals [] = []
ordinals (s ∷ rest) = ordinal s ∷ ordinals rest

abbrev pub is_last : Control → Summary → Bool
is_last control s = is_in (ordinals (summaries control)) (ordinal s)

abbrev pub implies : Bool → Bool → Bool
implies true b = b
implies false b = true

pub implied : (a b : Bool) → T (implies a b) → T a → T b
implied true b t s = t
implied false b t s = absurd s

-- whether a control may stand on a level of a kind, behind trees with a summary
unfoldable pub related : Control → ℕ → Summary → Bool
related control kind s = is_in (kinds control) kind && is_last control s

pub on_kind : (control : Control) (kind : ℕ) (s : Summary) → T (related control kind s) → T (is_in (kinds control) kind)
unfolding related
on_kind control kind s r = and_left (is_in (kinds control) kind) (is_last control s) r

-- whether a reserved word may be a name there: a dot stands last, or a property is due
abbrev due_first : Control → Bool
due_first control = (is_last control nothing || is_last control after_comma) && is_in (kinds control) object_kind

abbrev pub may_name : Control → Bool
may_name control = is_last control after_dot || due_first control

left_of : (a b : Bool) → T a → T (a || b)
left_of true b t = tt
left_of false b t = absurd t

right_of : (a b : Bool) → T b → T (a || b)
right_of true b t = tt
right_of false b t = t

module _ (control : Control) (kind : ℕ) where
  -- on the level of an object
  in_object : (s : Summary) → T (related control kind s) → eqb kind object_kind ≡ true → T (is_in (kinds control) object_kind) × T (is_last control s)
  unfolding related
  in_object s r q =
      let same : kind ≡ object_kind = eqb-true kind object_kind q in
      (rw same at (and_left (is_in (kinds control) kind) (is_last control s) r), and_right (is_in (kinds control) kind) (is_last control s) r)

  property_due : (s : Summary) → T (related control kind s) → eqb kind object_kind ≡ true → (T (is_last control s) → T (is_last control nothing || is_last control after_comma))
      → T (may_name control)
  property_due s r q last =
      let t = in_object s r q in
      right_of (is_last control after_dot) (due_first control) (rw (holds (is_last control nothing || is_last control after_comma) (last t.1)) t.0)

  pub word_named : (s : Summary) → T (related control kind s) → name_by (eqb kind object_kind) s ≡ true → T (may_name control)
  unfolding related
  word_named nothing r n = property_due nothing r n (left_of (is_last control nothing) (is_last control after_comma))
  word_named after_comma r n = property_due after_comma r n (right_of (is_last control nothing) (is_last control after_comma))
  word_named after_dot r n = left_of (is_last control after_dot) (due_first control) (and_right (is_in (kinds control) kind) (is_last control after_dot) r)
  word_named operand r n = absurd (false≢true n)
  word_named after_operator r n = absurd (false≢true n)
  word_named after_separator r n = absurd (false≢true n)
  word_named after_other r n = absurd (false≢true n)
  word_named after_return r n = absurd (false≢true n)
  word_named after_head_word r n = absurd (false≢true n)
  word_named after_head r n = absurd (false≢true n)
  word_named after_block r n = absurd (false≢true n)
  word_named (after_function inObject) r n = absurd (false≢true n)
  word_named (after_function_name inObject) r n = absurd (false≢true n)
  word_named (after_function_parens inObject) r n = absurd (false≢true n)

-- whether a statement may be complete there
abbrev pub settled : ℕ → Summary → Bool
settled kind s = related (statement_done if_nest) kind s

-- what is asked of the control behind a nest: wherever a statement is complete, the machine may stand at it
unfoldable pub takes_over : Control → Bool
takes_over behind = all_in (λ kind. all_summaries λ s. implies (settled kind s) (related behind kind s)) statement_kinds

pub takes-over : (behind : Control) (kind : ℕ) (s : Summary) → T (takes_over behind) → T (settled kind s) → T (related behind kind s)
unfolding takes_over
takes-over behind kind s t r =
    implied (settled kind s) (related behind kind s)
    (at_summary (λ s. implies (settled kind s) (related behind kind s))
    (at (λ kind. all_summaries λ s. implies (settled kind s) (related behind kind s))
    (found statement_kinds kind (on_kind (statement_done if_nest) kind s r)) t)
    s)
    r
