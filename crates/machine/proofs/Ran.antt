-- Runs of the machine up to the text's end.
use mathlib.Core.Bool.{Bool, true, false}
use mathlib.Core.Path.{◌≡◌, refl}
use mathlib.Core.List.{List, [], ◌∷◌, ◌++◌}
use Prim.Native.Nat.{ℕ}
use Rattle.machine.specs.Tokens.{Token, token, Spot}
use Rattle.machine.specs.Machinery.Machine.{end_of_text, State, dead, live, consume, run}

-- a nest that is complete is left only at the next token: so what is compared are runs with the text's end behind the tokens
abbrev pub ran : Spot → State → List Token → State
ran stop state [] = consume state (token end_of_text stop)
ran stop state (t ∷ ts) = ran stop (consume state t) ts

pub ran_is_run : (stop : Spot) (state : State) (ts : List Token) → run state (ts ++ (token end_of_text stop ∷ [])) ≡ ran stop state ts
ran_is_run stop state [] = refl
ran_is_run stop state (t ∷ ts) = ran_is_run stop (consume state t) ts

pub ran_append : (stop : Spot) (first second : List Token) (state : State) → ran stop state (first ++ second) ≡ ran stop (run state first) second
ran_append stop [] second state = refl
ran_append stop (t ∷ first) second state = ran_append stop first second (consume state t)

-- the dead stay dead, by the same token
pub stays_dead : (place : ℕ) (ts : List Token) → run (dead place) ts ≡ dead place
stays_dead place [] = refl
stays_dead place (t ∷ ts) = stays_dead place ts

-- where the end stands does not matter
pub anywhere : Spot
anywhere = record { newline = false; mark = 0; first = 0 }

-- a machine that has not stopped
abbrev pub is_live : State → Bool
is_live (dead place) = false
is_live (live control f around) = true
