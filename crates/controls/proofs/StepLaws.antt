-- Steps of the code whose controls are known by what they stand for.
use mathlib.Core.Path.{◌≡◌, subst}
use mathlib.Core.Logic.{◌⊎◌, inl, inr}
use Prim.Native.Nat.{ℕ}
use lib.Dec.{T}
use Rattle.std.specs.Prelude.{Some}
use Rattle.machine.specs.Machinery.Machine.{Control, goto, push}
use Rattle.controls.specs.Machinery.Numbers.{ending_by, control_of, effect_by, closing_by, inside_by}
use Rattle.controls.specs.declared.Control as code
use Rattle.controls.specs.declared.Place.TheVariants.{OperandDone, PostfixDone}
use Rattle.controls.specs.declared.Effect as effects
use Rattle.controls.specs.declared.Closing as closings
use Rattle.controls.specs.declared.Step.TheVariants.{Goto, Push}
use Rattle.machine.specs.Machinery.Classes.{is_single, is_opener}
use Rattle.controls.specs.Machinery.Steps.{Ended, ended_operand, ended_postfix, Leads, Spans, Means, means_goto, means_push}

-- what a step means that leads to a control known so, or to it past a group
module _ {from : Control} {class : ℕ} {to : code.Control} {behind : Control} (e : control_of to ≡ behind) where
  pub goes : {effect : effects.Effect} → T (is_single class) → Leads (effect_by effect class) from behind
      → Means from class (Some (Goto to effect)) (goto behind (effect_by effect class))
  goes {effect} single leads =
      subst (λ (x : Control). Leads (effect_by effect class) from x → Means from class (Some (Goto to effect)) (goto x (effect_by effect class))) e (means_goto single) leads

  pub opens-group : {closing : closings.Closing} → T (is_opener class) → Spans (closing_by closing) from behind
      → Means from class (Some (Push to closing)) (push (inside_by closing) behind (closing_by closing))
  opens-group {closing} opener spans =
      subst (λ (x : Control). Spans (closing_by closing) from x → Means from class (Some (Push to closing)) (push (inside_by closing) x (closing_by closing))) e (means_push opener) spans

-- a Unary has ended at two places
pub after-unary : {P : Control → Type 0} (at : code.Control) → (at.place ≡ OperandDone) ⊎ (at.place ≡ PostfixDone)
    → ((from : Control) → Ended from (ending_by at.ending at.setting) → P from) → P (control_of at)
after-unary at (inl e) each = rw e (each _ ended_operand)
after-unary at (inr e) each = rw e (each _ ended_postfix)
