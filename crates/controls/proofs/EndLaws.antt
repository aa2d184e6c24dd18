-- The classes that end a level are four; at any other class the entries for closers are passed over.
use mathlib.Core.Path.{◌≡◌, refl, sym, subst}
use mathlib.Core.Bool.{Bool, true, false, ◌||◌}
use Rattle.std.specs.Prelude.{Option, None}
use Prim.Native.Nat.{ℕ}
use borrow.Author.Tests.{eqb-true}
use lib.Dec.{T, eqb}
use Rattle.machine.specs.Tokens.{close_paren, close_brace, close_bracket}
use Rattle.machine.specs.Machinery.Machine.{end_of_text, Control, Action, fail}
use Rattle.controls.specs.declared.Step.{Step}
use Rattle.machine.specs.Machinery.Classes.{is_end}
use Rattle.controls.specs.Machinery.Steps.{Means, means_end, means_fail}

-- what holds of the four closers holds of each class that ends a level
pub at_closers : (P : ℕ → Type 0) → P close_paren → P close_brace → P close_bracket → P end_of_text → (class : ℕ) → T (is_end class) → P class
at_closers P paren brace bracket text class end =
    go (eqb class close_paren) (eqb class close_brace) (eqb class close_bracket) (eqb class end_of_text) refl refl refl refl end
  where
    go : (a b c d : Bool) → eqb class close_paren ≡ a → eqb class close_brace ≡ b → eqb class close_bracket ≡ c → eqb class end_of_text ≡ d
        → T (a || (b || (c || d))) → P class
    go true b c d e f g h end = rw (eqb-true class close_paren e) paren
    go false true c d e f g h end = rw (eqb-true class close_brace f) brace
    go false false true d e f g h end = rw (eqb-true class close_bracket g) bracket
    go false false false true e f g h end = rw (eqb-true class end_of_text h) text
    go false false false false e f g h end = absurd end

-- a class that ends no level is none of them
pub record NoCloser (class : ℕ) : Type 0 where
  pub no_paren : eqb class close_paren ≡ false
  pub no_brace : eqb class close_brace ≡ false
  pub no_bracket : eqb class close_bracket ≡ false
  pub no_text : eqb class end_of_text ≡ false

no_closer : (class : ℕ) → is_end class ≡ false → NoCloser class
no_closer class none =
    go (eqb class close_paren) (eqb class close_brace) (eqb class close_bracket) (eqb class end_of_text) refl refl refl refl (λ end. subst T none end)
  where
    go : (a b c d : Bool) → eqb class close_paren ≡ a → eqb class close_brace ≡ b → eqb class close_bracket ≡ c → eqb class end_of_text ≡ d
        → (T (a || (b || (c || d))) → ⊥) → NoCloser class
    go true b c d e f g h none = absurd (none tt)
    go false true c d e f g h none = absurd (none tt)
    go false false true d e f g h none = absurd (none tt)
    go false false false true e f g h none = absurd (none tt)
    go false false false false e f g h none = record { no_paren = e; no_brace = f; no_bracket = g; no_text = h }

-- a step that does nothing says nothing of a closer
says_nothing : {from : Control} {class : ℕ} {step : Option Step} {other : Action} → T (is_end class) → Means from class step fail
    → Means from class step other
says_nothing end (means_end _) = means_end end
says_nothing end means_fail = means_end end

-- a step means each action that differs from its own at closers only, where its own is none
pub besides_closers : {from : Control} {class : ℕ} {step : Option Step} {action other : Action} → Means from class step action
    → (T (is_end class) → action ≡ fail) → (NoCloser class → other ≡ action) → Means from class step other
besides_closers {from} {class} {step} {action} {other} m at_end beside = go (is_end class) refl
  where
    go : (b : Bool) → is_end class ≡ b → Means from class step other
    go true e = let end = subst T (sym e) tt in says_nothing end (rw (at_end end) at m)
    go false e = rw (beside (no_closer class e)) m

-- so a row whose entries for a class are those of closers alone does nothing
pub only_closers : {from : Control} {class : ℕ} {action : Action} → (NoCloser class → action ≡ fail) → Means from class None action
only_closers beside = besides_closers means_fail (λ end. refl) beside
