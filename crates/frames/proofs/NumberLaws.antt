-- The numbers that stand for settings, nests and open `?`s on the lent stack.
use Prim.Native.Nat.{ℕ, ◌-◌, ◌/◌, ◌≤◌}
use mathlib.Core.Path.{◌≡◌, refl, ◌∙◌, ap}
use mathlib.Core.Bool.{false}
use native.Mathlib.Omega.{arith}
use Rattle.controls.specs.Machinery.Numbers.{is_lone, ending_by, nest_number, setting_number, ending_number}
use Rattle.controls.proofs.NumberLaws.{setting_told, ending_told, numbered_plain}
use Rattle.controls.specs.declared.Setting as codes
use Rattle.controls.specs.declared.Setting.TheVariants as sits
use Rattle.controls.specs.declared.Ending as endings
use Rattle.controls.specs.declared.Ending.TheVariants as by
use Rattle.controls.specs.declared.Nest as opened
use Rattle.controls.specs.declared.Nest.TheVariants as kinds
use Rattle.waiting.specs.Machinery.Waiting.{ask_kind, settings}
use Rattle.frames.specs.Machinery.Stands.{ask_in, asked_ending, asked_setting, asked_in, AskNumber}

pub setting_few : (setting : codes.Setting) → setting_number setting ≤ 5
setting_few sits.Body = omega arith
setting_few sits.Block = omega arith
setting_few sits.Clause = omega arith
setting_few sits.IfNest = omega arith
setting_few sits.ElseNest = omega arith
setting_few sits.DoNest = omega arith

pub nest_few : (nest : opened.Nest) → nest_number nest ≤ 4
nest_few kinds.If = omega arith
nest_few kinds.Do = omega arith
nest_few kinds.Try = omega arith
nest_few kinds.Clause = omega arith
nest_few kinds.LastClause = omega arith

pub ending_few : (ending : endings.Ending) → ending_number ending ≤ 17
ending_few by.Statement = omega arith
ending_few by.Return = omega arith
ending_few by.Variable = omega arith
ending_few by.FirstVariable = omega arith
ending_few by.LaterVariable = omega arith
ending_few by.LoneStart = omega arith
ending_few by.Start = omega arith
ending_few by.Test = omega arith
ending_few by.Case = omega arith
ending_few by.LastCase = omega arith
ending_few by.Step = omega arith
ending_few by.Object = omega arith
ending_few by.Paren = omega arith
ending_few by.Bracket = omega arith
ending_few by.Colon = omega arith
ending_few by.Argument = omega arith
ending_few by.Element = omega arith
ending_few by.Property = omega arith

pub not_lone : (ending : endings.Ending) → (ending ≡ by.LoneStart → ⊥) → is_lone ending ≡ false
not_lone by.LoneStart other = absurd (other refl)
not_lone _ other = refl

-- any number from the least up stands for an open `?`, but for the start of a `for`'s head alone
pub any_number : (kind : ℕ) → ask_kind ≤ kind → ((kind - ask_kind) / settings ≡ 5 → ⊥) → AskNumber kind
any_number kind many other = (many, numbered_plain ((kind - ask_kind) / settings) other)

-- that of an ending and a setting tells both
module _ (ending : endings.Ending) (setting : codes.Setting) where
  asks_ending : asked_ending (ask_in ending setting) ≡ ending
  asks_ending = ending_told refl ending (omega (arith, setting_few setting))

  asks_setting : asked_setting (ask_in ending setting) ≡ setting
  asks_setting = setting_told refl setting (omega (arith, setting_few setting))

  pub asks_in : asked_in (ask_in ending setting) ≡ ending_by ending setting
  unfolding asked_in
  asks_in = rw (asks_ending, asks_setting)

  pub ask_number : is_lone ending ≡ false → AskNumber (ask_in ending setting)
  ask_number plain = (omega arith, ap is_lone asks_ending ∙ plain)
