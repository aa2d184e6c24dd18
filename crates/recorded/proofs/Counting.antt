-- Tokens whose marks count their tree records.
use mathlib.Core.Path.{◌≡◌}
use mathlib.Core.Bool.{Bool, true, false, not}
use mathlib.Core.List.{List, [], ◌∷◌, Memᴰ}
use Prim.Native.Nat.{ℕ, ◌+◌, ◌≤◌, ◌<◌}
use native.Mathlib.Omega.{arith}
use lib.Dec.{T, T_not, leb, leb→le, nleb→lt}
use Rattle.machine.specs.Tokens.{Token, token, Spot}
use Rattle.recorded.proofs.Counts.{is_closing}

-- The marks of the tokens that are no closers count up by one, from the next mark up to a total. The mark of a closer does
-- not matter. The others are among all tokens of a program.
pub data Counting (all : List Token) (total : ℕ) : ℕ → List Token → Type 0 where
  counting_none : Counting all total total []
  counting_closer : {next class : ℕ} {spot : Spot} {rest : List Token} → T (is_closing class) → Counting all total next rest
      → Counting all total next (token class spot ∷ rest)
  counting_mark : {next class : ℕ} {spot : Spot} {rest : List Token} → T (not (is_closing class))
      → Memᴰ (token class spot) all → spot.mark ≡ next → Counting all total (next + 1) rest → Counting all total next (token class spot ∷ rest)

-- the next token is a closer; or it has the next mark
pub record Marked (all : List Token) (total next class : ℕ) (spot : Spot) (rest : List Token) : Type 0 where
  pub among : Memᴰ (token class spot) all
  pub opens : T (not (is_closing class))
  pub own : spot.mark ≡ next
  pub then : Counting all total (next + 1) rest

module _ {all : List Token} {total : ℕ} where
  pub past_closer : (class : ℕ) {next : ℕ} {spot : Spot} {rest : List Token} → T (is_closing class) → Counting all total next (token class spot ∷ rest)
      → Counting all total next rest
  past_closer class h (counting_closer k counting) = counting
  past_closer class h (counting_mark k among own counting) = absurd (T_not (is_closing class) k h)

  pub at_mark : (class : ℕ) {next : ℕ} {spot : Spot} {rest : List Token} → T (not (is_closing class)) → Counting all total next (token class spot ∷ rest)
      → Marked all total next class spot rest
  at_mark class h (counting_closer k counting) = absurd (T_not (is_closing class) h k)
  at_mark class h (counting_mark k among own counting) = record { among = among; opens = k; own = own; then = counting }

-- a token that is no closer has this mark
pub data MarkOf (m : ℕ) : List Token → Type 0 where
  mark_here : {class : ℕ} {spot : Spot} {rest : List Token} → T (not (is_closing class)) → m ≡ spot.mark → MarkOf m (token class spot ∷ rest)
  mark_later : {t : Token} {rest : List Token} → MarkOf m rest → MarkOf m (t ∷ rest)

-- each number from the next mark up to the total is the mark of a token
pub mark_of : {all : List Token} {total next : ℕ} {here : List Token} (m : ℕ) → Counting all total next here → next ≤ m → m < total → MarkOf m here
mark_of m counting_none above below = absurd (omega arith)
mark_of m (counting_closer h counting) above below = mark_later (mark_of m counting above below)
mark_of m (counting_mark {next = next} {class = class} {spot = spot} {rest = rest} h among own counting) above below =
    go (leb (next + 1) m) (λ t. t) (λ t. t) (λ over. mark_of m counting over below)
  where
    go : (b : Bool) → (T b → T (leb (next + 1) m)) → (T (not b) → T (not (leb (next + 1) m))) → (next + 1 ≤ m → MarkOf m rest)
        → MarkOf m (token class spot ∷ rest)
    go true passed failed later = mark_later (later (leb→le (next + 1) m (passed tt)))
    go false passed failed later =
        let under = nleb→lt (next + 1) m (failed tt) in
        let same : m ≡ spot.mark = omega arith in
        mark_here h same
