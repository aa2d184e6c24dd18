-- What may follow an operand, and where it is looked up.
use mathlib.Core.Path.{◌≡◌, refl, ◌∙◌}
use mathlib.Core.Bool.{Bool, true, false, not}
use mathlib.Core.List.{List, [], ◌∷◌, ◌++◌}
use Prim.Native.Nat.{ℕ}
use lib.Dec.{T, eqb}
use Rattle.machine.specs.Tokens.{in_word, question, comma, colon, semicolon, dot, open_paren, close_paren, open_bracket, close_bracket, close_brace}
use Rattle.grammar.specs.Grammar.{assignment_operators, binary_operators_by, postfix_operators, postfix_kind, is_among}
use Rattle.machine.specs.Machinery.Machine.{
  take_operator,
  take_postfix,
  Ending,
  by_statement,
  by_return,
  by_variable,
  by_start,
  by_test,
  by_step,
  by_object,
  by_case,
  by_paren,
  by_bracket,
  by_colon,
  by_item,
  Target,
  no_target,
  some_target,
  lone_target,
  is_target,
  takes_in,
  allows_in,
  Control,
  operand_due,
  operand_done,
  postfix_done,
  Action,
  goto,
  ask,
  Entry,
  on,
  look,
  comma_action,
  in_entry,
  ending_row,
  after_unary,
  assignment_row,
  postfix_row,
  after_operand,
  row,
}
use Rattle.grammar.proofs.TableLaws.{each_class, at_class, has_entry, look_past, look_beyond, look_each, look_behind}

-- where the machine stands behind a whole Unary
pub data UnaryDone : Ending → Control → Type 0 where
  past_operand : {ending : Ending} {target : Target} → UnaryDone ending (operand_done ending target)
  past_postfix : {ending : Ending} → UnaryDone ending (postfix_done ending)

-- the classes that may end an expression or a part of one, those that may follow a Unary, with `in` or without, and those that may follow a Target
abbrev pub expression_ends : List ℕ
expression_ends = comma ∷ colon ∷ semicolon ∷ close_paren ∷ close_bracket ∷ close_brace ∷ []

abbrev behind_by : Bool → List ℕ
behind_by within = question ∷ (expression_ends ++ binary_operators_by within)

abbrev behind_target : List ℕ
behind_target = assignment_operators ++ (postfix_operators ++ behind_by true)

-- `in` follows a Unary, but where it may be that of a `for`, which follows a Target
abbrev pub behind_unary : Ending → List ℕ
behind_unary ending = behind_by (not (takes_in ending lone_target))

at_behind : (test : ℕ → Bool) (within : Bool) (class : ℕ) → T (is_among (behind_by within) class) → T (each_class test (behind_by true)) → T (test class)
at_behind test true class h each = at_class test (behind_by true) class h each
at_behind test false class h each =
    at_class test (behind_by true) class (at_class (is_among (behind_by true)) (behind_by false) class h tt) each

-- each is looked up behind the entries for those that may come before it
past_chain : (member call index : Action) (rest : List Entry) (class : ℕ) → T (is_among behind_target class)
    → look class (on dot member ∷ on open_paren call ∷ on open_bracket index ∷ rest) ≡ look class rest
past_chain member call index rest class h =
    let chain = on dot member ∷ on open_paren call ∷ on open_bracket index ∷ [] in
    look_beyond chain rest class (at_class (λ x. not (has_entry chain x)) behind_target class h tt)

past_in : (for : Bool) (rest : List Entry) (class : ℕ) → (T for → T (not (eqb class in_word))) → look class (in_entry for rest) ≡ look class rest
past_in true rest class other = look_past class in_word _ rest (other tt)
past_in false rest class other = refl

past_assignments : (ending : Ending) (target : Target) (rest : List Entry) (class : ℕ) → T (not (is_among assignment_operators class))
    → look class (assignment_row ending target rest) ≡ look class rest
past_assignments ending no_target rest class h = refl
past_assignments ending some_target rest class h =
    look_behind (λ class. goto (operand_due ending some_target) (take_operator class)) assignment_operators rest class h
past_assignments ending lone_target rest class h =
    look_behind (λ class. goto (operand_due ending some_target) (take_operator class)) assignment_operators rest class h

past_postfixes : (ending : Ending) (newline : Bool) (rest : List Entry) (class : ℕ) → T (not (is_among postfix_operators class))
    → look class (postfix_row ending newline rest) ≡ look class rest
past_postfixes ending true rest class h = refl
past_postfixes ending false rest class h =
    look_behind (λ class. goto (postfix_done ending) (take_postfix (postfix_kind class))) postfix_operators rest class h

-- `.`, `(` and `[` come no more, nor the `in` of a `for`
chain_done : (ending : Ending) (target : Target) (newline : Bool) (class : ℕ) → T (is_among behind_target class)
    → (T (takes_in ending target) → T (not (eqb class in_word)))
    → look class (after_operand ending target newline) ≡ look class (assignment_row ending target (postfix_row ending newline (after_unary ending)))
chain_done ending target newline class h other =
    let rest = assignment_row ending target (postfix_row ending newline (after_unary ending)) in
    past_chain _ _ _ (in_entry (takes_in ending target) rest) class h ∙ past_in (takes_in ending target) rest class other

pub look_assignment : (ending : Ending) (target : Target) (newline : Bool) (class : ℕ) → T (is_target target) → T (is_among assignment_operators class)
    → look class (after_operand ending target newline) ≡ goto (operand_due ending some_target) (take_operator class)
look_assignment ending target newline class may op =
    chain_done ending target newline class (at_class (is_among behind_target) assignment_operators class op tt)
    (λ t. at_class (λ x. not (eqb x in_word)) assignment_operators class op tt)
    ∙ here target may
  where
    here : (target : Target) → T (is_target target)
        → look class (assignment_row ending target (postfix_row ending newline (after_unary ending))) ≡ goto (operand_due ending some_target) (take_operator class)
    here no_target may = absurd may
    here some_target may =
        look_each (λ class. goto (operand_due ending some_target) (take_operator class)) assignment_operators (postfix_row ending newline (after_unary ending)) class op
    here lone_target may =
        look_each (λ class. goto (operand_due ending some_target) (take_operator class)) assignment_operators (postfix_row ending newline (after_unary ending)) class op

pub look_postfix : (ending : Ending) (target : Target) (newline : Bool) (class : ℕ) → T (is_among postfix_operators class) → T (not newline)
    → look class (after_operand ending target newline) ≡ goto (postfix_done ending) (take_postfix (postfix_kind class))
look_postfix ending target newline class op same =
    chain_done ending target newline class (at_class (is_among behind_target) postfix_operators class op tt)
    (λ t. at_class (λ x. not (eqb x in_word)) postfix_operators class op tt)
    ∙ past_assignments ending target (postfix_row ending newline (after_unary ending)) class
    (at_class (λ x. not (is_among assignment_operators x)) postfix_operators class op tt)
    ∙ here newline same
  where
    here : (newline : Bool) → T (not newline)
        → look class (postfix_row ending newline (after_unary ending)) ≡ goto (postfix_done ending) (take_postfix (postfix_kind class))
    here true same = absurd same
    here false same = look_each (λ class. goto (postfix_done ending) (take_postfix (postfix_kind class))) postfix_operators (after_unary ending) class op

pub look_behind_unary : {ending : Ending} {control : Control} → UnaryDone ending control → (newline : Bool) (class : ℕ)
    → T (is_among (behind_unary ending) class) → look class (row control newline) ≡ look class (after_unary ending)
look_behind_unary (past_operand {ending = ending} {target = target}) newline class h =
    let within = not (takes_in ending lone_target) in
    chain_done ending target newline class (at_behind (is_among behind_target) within class h tt) (other target)
    ∙ past_assignments ending target (postfix_row ending newline (after_unary ending)) class
    (at_behind (λ x. not (is_among assignment_operators x)) within class h tt)
    ∙ past_postfixes ending newline (after_unary ending) class (at_behind (λ x. not (is_among postfix_operators x)) within class h tt)
  where
    lone : (for : Bool) → T for → T (is_among (behind_by (not for)) class) → T (not (eqb class in_word))
    lone true t h = at_class (λ x. not (eqb x in_word)) (behind_by false) class h tt
    lone false t h = absurd t

    other : (target : Target) → T (takes_in ending target) → T (not (eqb class in_word))
    other no_target t = absurd t
    other some_target t = absurd t
    other lone_target t = lone (takes_in ending lone_target) t h
look_behind_unary past_postfix newline class h = refl

-- where `in` is an operator, it is not that of a `for`
operator_in : (ending : Ending) → T (allows_in ending) → takes_in ending lone_target ≡ false
operator_in (by_statement setting) h = refl
operator_in (by_return setting) h = refl
operator_in (by_variable place) h = refl
operator_in by_start h = absurd h
operator_in by_test h = refl
operator_in by_step h = refl
operator_in by_object h = refl
operator_in (by_case seen) h = refl
operator_in by_paren h = refl
operator_in by_bracket h = refl
operator_in by_colon h = refl
operator_in (by_item items) h = refl

pub look_binary : {ending : Ending} {control : Control} → UnaryDone ending control → (newline : Bool) (class : ℕ)
    → T (is_among (binary_operators_by (allows_in ending)) class) → look class (row control newline) ≡ goto (operand_due ending no_target) (take_operator class)
look_binary {ending} done newline class op =
    look_behind_unary done newline class (follows (allows_in ending) (takes_in ending lone_target) (operator_in ending) op)
    ∙ look_each (λ class. goto (operand_due ending no_target) (take_operator class)) (binary_operators_by (allows_in ending))
    (on question (ask ending) ∷ ending_row ending) class op
  where
    follows : (within for : Bool) → (T within → for ≡ false) → T (is_among (binary_operators_by within) class) → T (is_among (behind_by (not for)) class)
    follows true for none op = rw (none tt) (at_class (is_among (behind_by true)) (binary_operators_by true) class op tt)
    follows false true none op = at_class (is_among (behind_by false)) (binary_operators_by false) class op tt
    follows false false none op = at_class (is_among (behind_by true)) (binary_operators_by false) class op tt

-- `?` and what ends an expression are looked up behind the operators
past_binaries : (ending : Ending) (class : ℕ) → T (is_among (question ∷ expression_ends) class)
    → look class (after_unary ending) ≡ look class (on question (ask ending) ∷ ending_row ending)
past_binaries ending class h =
    look_behind (λ class. goto (operand_due ending no_target) (take_operator class)) (binary_operators_by (allows_in ending))
    (on question (ask ending) ∷ ending_row ending) class (none (allows_in ending))
  where
    none : (within : Bool) → T (not (is_among (binary_operators_by within) class))
    none true = at_class (λ x. not (is_among (binary_operators_by true) x)) (question ∷ expression_ends) class h tt
    none false = at_class (λ x. not (is_among (binary_operators_by false) x)) (question ∷ expression_ends) class h tt

pub look_question : {ending : Ending} {control : Control} → UnaryDone ending control → (newline : Bool) → look question (row control newline) ≡ ask ending
look_question {ending} done newline = look_behind_unary done newline question tt ∙ past_binaries ending question tt

pub look_end : {ending : Ending} {control : Control} → UnaryDone ending control → (newline : Bool) (class : ℕ) → T (is_among expression_ends class)
    → look class (row control newline) ≡ look class (ending_row ending)
look_end {ending} done newline class h =
    look_behind_unary done newline class (follows (not (takes_in ending lone_target)))
    ∙ past_binaries ending class (at_class (is_among (question ∷ expression_ends)) expression_ends class h tt)
    ∙ look_past class question (ask ending) (ending_row ending) (at_class (λ x. not (eqb x question)) expression_ends class h tt)
  where
    follows : (within : Bool) → T (is_among (behind_by within) class)
    follows true = at_class (is_among (behind_by true)) expression_ends class h tt
    follows false = at_class (is_among (behind_by false)) expression_ends class h tt

-- the endings of an Expression: a `,` is no end of it
abbrev pub takes_comma : Ending → Bool
takes_comma (by_statement setting) = true
takes_comma (by_return setting) = true
takes_comma (by_variable place) = false
takes_comma by_start = true
takes_comma by_test = true
takes_comma by_step = true
takes_comma by_object = true
takes_comma (by_case seen) = true
takes_comma by_paren = true
takes_comma by_bracket = true
takes_comma by_colon = false
takes_comma (by_item items) = false

pub look_comma : {ending : Ending} {control : Control} → UnaryDone ending control → (newline : Bool) → T (takes_comma ending)
    → look comma (row control newline) ≡ comma_action ending
look_comma {ending} done newline takes = look_end done newline comma tt ∙ here ending takes
  where
    here : (ending : Ending) → T (takes_comma ending) → look comma (ending_row ending) ≡ comma_action ending
    here (by_statement setting) takes = refl
    here (by_return setting) takes = refl
    here (by_variable place) takes = absurd takes
    here by_start takes = refl
    here by_test takes = refl
    here by_step takes = refl
    here by_object takes = refl
    here (by_case seen) takes = refl
    here by_paren takes = refl
    here by_bracket takes = refl
    here by_colon takes = absurd takes
    here (by_item items) takes = absurd takes
