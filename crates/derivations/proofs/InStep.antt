-- The token machine and the reader in step: where the machine stands, and on which levels the reader.
use mathlib.Core.Path.{◌≡◌, refl, sym}
use mathlib.Core.Bool.{Bool, true}
use mathlib.Core.List.{List, [], ◌∷◌, ◌++◌}
use Prim.Native.Nat.{ℕ, ◌+◌}
use lib.Dec.{T, ltb}
use Rattle.rule.specs.Trees.{Trees, none}
use Rattle.rule.specs.Rule.{backwards, group_class, unanswered}
use Rattle.rule.specs.Levels.{Levels, whole_text, inside, kind_of, on_top}
use Rattle.rule.specs.Machinery.Summary.{Summary, after_operator, summary}
use Rattle.derivations.specs.Tokens.{Token, token}
use Rattle.machine.specs.Machinery.Machine.{end_of_text, Frame, Ending, Control, some_target, operand_due, Closing, Open, grouped, nested, asking, State, dead, live, start, asks}
use Rattle.machine.proofs.Ran.{ran, ran_is_run, stays_dead, anywhere, is_live}
use Rattle.derivations.proofs.Classes.{questions_of}
use Rattle.agreement.proofs.Related.{related, takes_over}
use Rattle.derivations.proofs.LevelSummary.{summary_of, summary_with, kind_on_top}

-- the `?`s that the machine has open on the innermost level
abbrev pub asked : List Open → ℕ
asked [] = 0
asked (grouped behind closing mark f ∷ rest) = 0
asked (nested behind closing mark f ∷ rest) = 0
asked (asking ending mark f ∷ rest) = asked rest + 1

-- a control stands inside a conditional exactly if a `?` is open
abbrev pub Fits : Control → List Open → Type 0
Fits control around = asks control ≡ ltb 0 (asked around)

-- The groups that both have open: behind each of them the machine may stand on the level around it. A nest is on the level that it
-- is in: behind it the machine may stand wherever a statement is complete. So is what an open `?` waits for: behind its answer an operand is due.
pub data Stacks : List Open → Levels → Type 0 where
  whole-text : {trees : Trees} → Stacks [] (whole_text trees)
  in-group : {behind : Control} {closing : Closing} {mark : ℕ} {f : Frame} {rest : List Open} {around : Levels} {kind first : ℕ} {newline : Bool} {trees : Trees}
      → (kind ≡ 0 → ⊥) → T (related behind (kind_of around) (summary_with around (group_class kind) newline)) → questions_of around ≡ asked rest → Fits behind rest
      → Stacks rest around → Stacks (grouped behind closing mark f ∷ rest) (inside around kind first newline trees)
  in-nest : {behind : Control} {closing : Closing} {mark : ℕ} {f : Frame} {rest : List Open} {levels : Levels} → T (takes_over behind)
      → asked rest ≡ 0 → Fits behind rest → Stacks rest levels → Stacks (nested behind closing mark f ∷ rest) levels
  in_question : {ending : Ending} {mark : ℕ} {f : Frame} {rest : List Open} {levels : Levels} → T (related (operand_due ending some_target) (kind_of levels) after_operator)
      → Fits (operand_due ending some_target) rest → Stacks rest levels → Stacks (asking ending mark f ∷ rest) levels

-- a machine that has stopped is in step with all levels
pub data InStep : State → Levels → Type 0 where
  stopped : {place : ℕ} {levels : Levels} → InStep (dead place) levels
  in_step : {control : Control} {f : Frame} {around : List Open} {levels : Levels} → T (related control (kind_of levels) (summary_of levels))
      → questions_of levels ≡ asked around → Fits control around → Stacks around levels → InStep (live control f around) levels

pub start_in_step : InStep start (whole_text none)
unfolding related summary_of summary backwards questions_of unanswered
start_in_step = in_step tt refl refl whole-text

-- a tree more on the innermost level
stacks_on_top : (extend : Trees → Trees) {around : List Open} {levels : Levels} → Stacks around levels → Stacks around (on_top extend levels)
stacks_on_top extend whole-text = whole-text
stacks_on_top extend (in-group n r q t s) = in-group n r q t s
stacks_on_top extend (in-nest t few u s) = in-nest t few u (stacks_on_top extend s)
stacks_on_top extend {levels = levels} (in_question {ending = ending} r t s) =
    in_question {ending = ending} {levels = on_top extend levels} (rw (kind_on_top extend levels) r) t (stacks_on_top extend s)

pub in_step_on_top : (extend : Trees → Trees) (levels : Levels) (s : Summary) → summary_of (on_top extend levels) ≡ s → {control : Control} {f : Frame} {around : List Open}
    → T (related control (kind_of levels) s) → questions_of (on_top extend levels) ≡ asked around → Fits control around → Stacks around levels
    → InStep (live control f around) (on_top extend levels)
in_step_on_top extend levels s q {control} r n u t =
    in_step {control = control} {levels = on_top extend levels} (rw (kind_on_top extend levels, q) r) n u (stacks_on_top extend t)

-- a machine that goes on had not stopped before
pub ran_live : (state : State) (ts : List Token) → T (is_live (ran anywhere state ts)) → T (is_live state)
ran_live (dead place) ts alive = rw (sym (ran_is_run anywhere (dead place) ts), stays_dead place (ts ++ (token end_of_text anywhere ∷ []))) at alive
ran_live (live control f around) ts alive = tt
