-- What the machine takes a brace, `++`, `--` or `:` for, along tokens.
use mathlib.Core.Bool.{Bool, cond, ◌&&◌}
use mathlib.Core.List.{List, [], ◌∷◌, ◌++◌}
use Prim.Native.Nat.{ℕ}
use lib.Dec.{eqb}
use Rattle.text.proofs.Members.{is_in}
use Rattle.rule.specs.Trees.{object_kind}
use Rattle.rule.specs.Machinery.Summary.{operand}
use Rattle.derivations.specs.Tokens.{Token, token, open_brace, colon}
use Rattle.derivations.specs.Senses.{Sense, object_at, block_at, before_at, after_at, answer_at}
use Rattle.machine.specs.Machinery.Machine.{State, dead, live, consume, asks_in}
use Rattle.agreement.proofs.TreeClasses.{is_update}
use Rattle.agreement.proofs.Related.{kinds, is_last}

-- a brace, by the control behind it: an object, if that may stand inside one; and `++` or `--`: after its operand, if that stands behind one
abbrev pub brace_behind : State → ℕ → Sense
brace_behind (dead place) first = block_at first
brace_behind (live control f around) first = cond (is_in (kinds control) object_kind) (object_at first) (block_at first)

abbrev pub update_behind : State → ℕ → Sense
update_behind (dead place) first = before_at first
update_behind (live control f around) first = cond (is_last control operand) (after_at first) (before_at first)

-- the sense of a token of a class, if it has one, by whether a `?` is open before it, and the state behind it
abbrev pub sense_at : Bool → State → ℕ → ℕ → List Sense
sense_at asked after class first =
    cond (eqb class open_brace) (brace_behind after first ∷ [])
    (cond (is_update class) (update_behind after first ∷ [])
    (cond (eqb class colon && asked) (answer_at first ∷ [])
    []))

-- the senses among tokens
abbrev pub senses_from : State → List Token → List Sense
senses_from state [] = []
senses_from state (token class spot ∷ ts) =
    sense_at (asks_in state) (consume state (token class spot)) class spot.first ++ senses_from (consume state (token class spot)) ts
