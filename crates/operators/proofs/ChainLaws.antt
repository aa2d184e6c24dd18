-- Behind an operand: a chain, or a Unary that is none.
use mathlib.Core.Path.{◌≡◌, refl, sym, ◌∙◌, ap, subst}
use mathlib.Core.Bool.{Bool, true, false, not, cond, ◌&&◌, false≢true}
use mathlib.Core.List.{List}
use Prim.Native.Nat.{ℕ, ◌≤◌, ◌<◌}
use native.Mathlib.Omega.{arith}
use borrow.Author.Tests.{ne_eqb, eqb-true, eqb-false, not-true}
use lib.Dec.{T, eqb}
use Rattle.machine.specs.Tokens.{in_word, comma, dot, open_paren, open_bracket}
use Rattle.machine.specs.Operators.{assignment_operators, postfix_operators, is_among}
use Rattle.machine.specs.Machinery.Machine.{Target, some_target, takes_in, Ending, by_object, Control, operand_due, operand_done, postfix_done, Entry, look, in_entry, after_unary, assignment_row, postfix_row, after_operand, row}
use Rattle.std.specs.Prelude.{Option}
use Rattle.controls.specs.declared.Step.{Step}
use Rattle.controls.specs.declared.Setting as settings
use Rattle.controls.specs.declared.Ending as endings
use Rattle.controls.specs.declared.Ending.TheVariants.{LoneStart}
use Rattle.controls.specs.declared.Effect.TheVariants.{TakeOperator, TakePostfix, EndValue}
use Rattle.controls.specs.Machinery.Numbers.{is_lone, ending_by, target_by}
use Rattle.controls.specs.Machinery.Steps.{Ended, ended_operand, ended_postfix, before_target, to_assign, to-object, to_postfix, Goes, Means}
use Rattle.controls.proofs.ClassLaws.{among_all}
use Rattle.operators.proofs.EndingLaws.{some-target, is-target, no_in_entry, postfix_next, no_postfix, assignment_next, no_assignment, neither_next}

lone : (ending : endings.Ending) → is_lone ending ≡ true → ending ≡ LoneStart
lone LoneStart is = refl
lone _ is = absurd (false≢true is)

-- what the machine does there, by whether it is a chain
abbrev Behind : Ending → Target → Bool → ℕ → Option Step → Bool → Type 0
Behind ending target chain class step newline =
    Means (cond chain (operand_done ending target) (postfix_done ending)) class step (look class (row (cond chain (operand_done ending target) (postfix_done ending)) newline))

-- a token that a chain does not take first is taken behind a Unary
pub behind-unary : {class : ℕ} {step : Option Step} (ending : Ending) (target : Target) (newline chain : Bool)
    → (chain ≡ true → look class (after_operand ending target newline) ≡ look class (after_unary ending))
    → ((from : Control) → Ended from ending → Means from class step (look class (after_unary ending)))
    → Behind ending target chain class step newline
behind-unary ending target newline true same m = rw (same refl) (m (operand_done ending target) ended_operand)
behind-unary ending _ newline false same m = m (postfix_done ending) ended_postfix

-- signs that make a chain no longer
pub sign_next : (class : ℕ) (ending : Ending) (target : Target) (newline : Bool) → comma ≤ class
    → (class ≡ dot → ⊥) → (class ≡ open_paren → ⊥) → (class ≡ open_bracket → ⊥)
    → look class (after_operand ending target newline) ≡ look class (after_unary ending)
sign_next class ending target newline past a b c =
    rw (ne_eqb class dot a, ne_eqb class open_paren b, ne_eqb class open_bracket c) (neither_next class ending past target newline (after_unary ending))

-- operators: none has the class of a sign
module _ (class : ℕ) (ending : endings.Ending) (setting : settings.Setting) (few : class < comma) where
  abbrev here : Ending
  here = ending_by ending setting

  no_link : (target : Target) (newline : Bool)
      → look class (after_operand here target newline)
      ≡ look class (in_entry (takes_in here target) (assignment_row here target (postfix_row here newline (after_unary here))))
  no_link _ newline =
      rw (ne_eqb class dot (λ e. omega arith), ne_eqb class open_paren (λ e. omega arith), ne_eqb class open_bracket (λ e. omega arith))

  pub assigns : {step : Option Step} (newline chain target : Bool) → Goes step (operand_due here some_target) TakeOperator
      → (chain && (target && is_among assignment_operators class)) ≡ true → Behind here (target_by ending target) chain class step newline
  assigns newline false target goes is = absurd (false≢true is)
  assigns newline true false goes is = absurd (false≢true is)
  assigns newline true true goes is =
      let target = target_by ending true in
      let rest = postfix_row here newline (after_unary here) in
      let o = assignment_next class here rest is target (is-target ending) in
      rw (no_link target newline, no_in_entry class (λ e. false≢true (rw e at is)) (takes_in here target) (assignment_row here target rest), o.0)
      (goes _ _ o.1 (to_assign (is-target ending) (subst T (sym is) tt)))

  pub heads : {step : Option Step} (newline chain target : Bool) → Goes step (operand_due by_object some_target) EndValue
      → (chain && (target && (eqb class in_word && is_lone ending))) ≡ true → Behind here (target_by ending target) chain class step newline
  heads newline false target goes is = absurd (false≢true is)
  heads newline true false goes is = absurd (false≢true is)
  heads {step} newline true true goes is = go (eqb class in_word) (is_lone ending) refl refl is
    where
      go : (a b : Bool) → eqb class in_word ≡ a → is_lone ending ≡ b → (a && b) ≡ true → Behind here (target_by ending true) true class step newline
      go false b e f is = absurd (false≢true is)
      go true false e f is = absurd (false≢true is)
      go true true e f is =
          subst (λ c. Behind here (target_by ending true) true c step newline) (sym (eqb-true class in_word e))
          (subst (λ n. Behind (ending_by n setting) (target_by n true) true in_word step newline) (sym (lone ending f)) (goes _ _ tt (to-object (before_target tt))))

  pub increments : {step : Option Step} (newline chain target : Bool) → Goes step (postfix_done here) TakePostfix
      → (chain && (not newline && is_among postfix_operators class)) ≡ true → Behind here (target_by ending target) chain class step newline
  increments newline false target goes is = absurd (false≢true is)
  increments true true target goes is = absurd (false≢true is)
  increments false true flag goes is =
      let target = target_by ending flag in
      let rest = postfix_row here false (after_unary here) in
      let o = postfix_next class here (after_unary here) is in
      let none = not-true (is_among assignment_operators class) (T_true (among_all class (λ k. not (is_among assignment_operators k)) postfix_operators tt is)) in
      rw (no_link target false, no_in_entry class (λ e. false≢true (rw e at is)) (takes_in here target) (assignment_row here target rest), no_assignment class here rest none target, o.0)
      (goes _ _ o.1 (to_postfix class (subst T (sym is) tt)))
    where
      T_true : {b : Bool} → T b → b ≡ true
      T_true {b = true} t = refl
      T_true {b = false} t = absurd t

  -- and one that a chain does not take first
  no_in : (target : Bool) (rest : List Entry) → (target && (eqb class in_word && is_lone ending)) ≡ false
      → look class (in_entry (takes_in here (target_by ending target)) rest) ≡ look class rest
  no_in false rest none = refl
  no_in true rest none = go (eqb class in_word) (is_lone ending) refl refl none
    where
      go : (a b : Bool) → eqb class in_word ≡ a → is_lone ending ≡ b → (a && b) ≡ false → look class (in_entry (takes_in here (target_by ending true)) rest) ≡ look class rest
      go false b e f none = no_in_entry class (eqb-false class in_word e) (takes_in here (target_by ending true)) rest
      go true false e f none = rw (some-target ending (λ e. false≢true (sym f ∙ ap is_lone e)))
      go true true e f none = absurd (false≢true (sym none))

  assigns_none : (target : Bool) (rest : List Entry) → (target && is_among assignment_operators class) ≡ false
      → look class (assignment_row here (target_by ending target) rest) ≡ look class rest
  assigns_none false rest none = refl
  assigns_none true rest none = no_assignment class here rest none (target_by ending true)

  increments_none : (newline : Bool) → (not newline && is_among postfix_operators class) ≡ false
      → look class (postfix_row here newline (after_unary here)) ≡ look class (after_unary here)
  increments_none true none = refl
  increments_none false none = no_postfix class here (after_unary here) none false

  pub operator_next : (newline chain target : Bool)
      → (chain && (target && is_among assignment_operators class)) ≡ false
      → (chain && (target && (eqb class in_word && is_lone ending))) ≡ false
      → (chain && (not newline && is_among postfix_operators class)) ≡ false
      → chain ≡ true → look class (after_operand here (target_by ending target) newline) ≡ look class (after_unary here)
  operator_next newline false target a b c e = absurd (false≢true e)
  operator_next newline true target a b c e =
      no_link (target_by ending target) newline
      ∙ no_in target (assignment_row here (target_by ending target) (postfix_row here newline (after_unary here))) b
      ∙ assigns_none target (postfix_row here newline (after_unary here)) a
      ∙ increments_none newline c
