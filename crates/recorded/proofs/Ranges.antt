-- Marks of a syntax tree that lie in a range, each once; and the tokens that stand in a variable and in the head of a `for` and mark nothing.
use mathlib.Core.Path.{◌≡◌, refl, subst}
use mathlib.Core.Bool.{Bool, not, ◌||◌}
use mathlib.Core.Logic.{◌⊎◌, inl, inr}
use mathlib.Core.List.Memᴰ
use mathlib.Core.List.{
  List,
  [],
  ◌∷◌,
  ◌++◌,
  Memᴰ,
}
use Prim.Native.Nat.{ℕ, ◌+◌, ◌≤◌, ◌<◌}
use native.Mathlib.Omega.{arith}
use lib.Dec.{T, eqb}
use Rattle.machine.specs.Tokens.{Token, token, Spot, assign, in_word}
use Rattle.machine.specs.Syntax.{Syntax, nil, node, snoc, variable_syntax, for_in_syntax, size, marks_of, Distinct, distinct_none, distinct_more}
use Rattle.machine.specs.Operators.{is_among}
use Rattle.recorded.specs.Parts.{marking, InOrder, order_none, order_part, order_both}
use Rattle.recorded.specs.Recorded.{operand_kinds, Operands, Initialises, Iterates, behind_bare}
use Rattle.recorded.proofs.Counts.{is_closing}

-- the kinds of the parts that are neither
abbrev pub is_plain : ℕ → Bool
is_plain kind = not (eqb kind variable_syntax || eqb kind for_in_syntax)

-- A plain part holds its operands, if its kind has some. A variable's part has a `=` among all tokens, between its name and its value, or another token behind
-- its name; and that of a `for` with an `in` has that `in`.
pub data Shape (all : List Token) : ℕ → ℕ → Syntax → Syntax → Type 0 where
  plain : {kind mark : ℕ} {left right : Syntax} → T (is_plain kind) → (T (is_among operand_kinds kind) → Operands kind mark (snoc left right))
      → Shape all kind mark left right
  bare : {called class : ℕ} {next : Spot} → Memᴰ (token class next) all → T (is_among behind_bare class) → called + 1 ≡ next.mark
      → Shape all variable_syntax called nil nil
  initialised : {called : ℕ} {sign : Spot} {value : Syntax} → Memᴰ (token assign sign) all → Initialises called sign.mark value
      → Shape all variable_syntax called nil value
  iterated : {word : ℕ} {sign : Spot} {start object inner : Syntax} → Memᴰ (token in_word sign) all → Iterates word sign.mark start object inner
      → Shape all for_in_syntax word (snoc (snoc nil start) object) inner

-- and each part is marked by a token that may mark it and is no closer
pub record Fits (all : List Token) (kind mark : ℕ) (left right : Syntax) : Type 0 where
  pub class : ℕ
  pub spot : Spot
  pub among : Memᴰ (token class spot) all
  pub opens : T (not (is_closing class))
  pub own : spot.mark ≡ mark
  pub marks : T (is_among (marking kind) class)
  pub shape : Shape all kind mark left right

-- The marks of parts side by side lie in ranges side by side, and a part's own mark before, between or behind those of its parts, or between the
-- two pieces of its left part.
pub data Marks (all : List Token) : ℕ → ℕ → Syntax → Type 0 where
  marks_none : {low high : ℕ} → low ≤ high → Marks all low high nil
  marks_before : {low next middle high kind mark : ℕ} {left right : Syntax} → Fits all kind mark left right → low ≤ mark → mark < next
      → Marks all next middle left → Marks all middle high right → Marks all low high (node kind mark left right)
  marks_between : {low middle next high kind mark : ℕ} {left right : Syntax} → Fits all kind mark left right → Marks all low middle left
      → middle ≤ mark → mark < next → Marks all next high right → Marks all low high (node kind mark left right)
  marks_behind : {low middle next high kind mark : ℕ} {left right : Syntax} → Fits all kind mark left right → Marks all low middle left
      → Marks all middle next right → next ≤ mark → mark < high → Marks all low high (node kind mark left right)
  marks_inside : {low middle next end high kind mark : ℕ} {before last right : Syntax} → Fits all kind mark (snoc before last) right
      → Marks all low middle before → middle ≤ mark → mark < next → Marks all next end last → Marks all end high right → Marks all low high (node kind mark (snoc before last) right)
  marks_both : {low middle high : ℕ} {before last : Syntax} → Marks all low middle before → Marks all middle high last → Marks all low high (snoc before last)

pub from_lower : {all : List Token} {lower low high : ℕ} {value : Syntax} → lower ≤ low → Marks all low high value → Marks all lower high value
from_lower {lower = lower} {low = low} {high = high} down (marks_none h) = let wide : lower ≤ high = omega arith in marks_none wide
from_lower {lower = lower} down (marks_before {mark = mark} fits h k left right) = let over : lower ≤ mark = omega arith in marks_before fits over k left right
from_lower down (marks_between fits left h k right) = marks_between fits (from_lower down left) h k right
from_lower down (marks_behind fits left right h k) = marks_behind fits (from_lower down left) right h k
from_lower down (marks_inside fits before h k last right) = marks_inside fits (from_lower down before) h k last right
from_lower down (marks_both before last) = marks_both (from_lower down before) last

pub to_higher : {all : List Token} {low high higher : ℕ} {value : Syntax} → high ≤ higher → Marks all low high value → Marks all low higher value
to_higher {low = low} {high = high} {higher = higher} up (marks_none h) = let wide : low ≤ higher = omega arith in marks_none wide
to_higher up (marks_before fits h k left right) = marks_before fits h k left (to_higher up right)
to_higher up (marks_between fits left h k right) = marks_between fits left h k (to_higher up right)
to_higher {higher = higher} up (marks_behind {mark = mark} fits left right h k) = let under : mark < higher = omega arith in marks_behind fits left right h under
to_higher up (marks_inside fits before h k last right) = marks_inside fits before h k last (to_higher up right)
to_higher up (marks_both before last) = marks_both before (to_higher up last)

pub no_marks : {all : List Token} (low : ℕ) → Marks all low low nil
no_marks low = let same : low ≤ low = omega arith in marks_none same

-- a part whose own mark is the next one: before its parts, between them, behind the only one, and between the pieces of the left one
pub before_parts : {low next middle high kind mark : ℕ} {left right : Syntax} {all : List Token} → Fits all kind mark left right → mark ≡ low
    → low < next → Marks all next middle left → Marks all middle high right → Marks all low high (node kind mark left right)
before_parts {low} {next} {mark = mark} fits own over left right =
    let here : low ≤ mark = omega arith in
    let passed : mark < next = omega arith in
    marks_before fits here passed left right

pub between_parts : {low middle high kind mark : ℕ} {left right : Syntax} {all : List Token} → Fits all kind mark left right → Marks all low middle left → mark ≡ middle
    → Marks all (middle + 1) high right → Marks all low high (node kind mark left right)
between_parts {middle = middle} {mark = mark} fits left own right =
    let here : middle ≤ mark = omega arith in
    let passed : mark < middle + 1 = omega arith in
    marks_between fits left here passed right

pub behind_part : {low middle high kind mark : ℕ} {left : Syntax} {all : List Token} → Fits all kind mark left nil → Marks all low middle left → middle ≤ mark
    → mark < high → Marks all low high (node kind mark left nil)
behind_part {middle = middle} fits left here passed = marks_behind fits left (no_marks middle) here passed

pub inside_parts : {low middle next end high kind mark : ℕ} {before last right : Syntax} {all : List Token} → Fits all kind mark (snoc before last) right → Marks all low middle before
    → mark ≡ middle → Marks all (middle + 1) end last → end ≤ next → Marks all next high right → Marks all low high (node kind mark (snoc before last) right)
inside_parts {middle = middle} {mark = mark} fits before own last up right =
    let here : middle ≤ mark = omega arith in
    let passed : mark < middle + 1 = omega arith in
    marks_inside fits before here passed last (from_lower up right)

-- as many records as the range has room for
pub range_size : {all : List Token} {low high : ℕ} {value : Syntax} → Marks all low high value → low + size value ≤ high
range_size (marks_none h) = omega arith
range_size (marks_before fits h k left right) = omega (arith, range_size left, range_size right)
range_size (marks_between fits left h k right) = omega (arith, range_size left, range_size right)
range_size (marks_behind fits left right h k) = omega (arith, range_size left, range_size right)
range_size (marks_inside fits before h k last right) = omega (arith, range_size before, range_size last, range_size right)
range_size (marks_both before last) = omega (arith, range_size before, range_size last)

pub record Within (low high mark : ℕ) : Type 0 where
  pub above : low ≤ mark
  pub below : mark < high

pub in_either : {A P : Type 0} {x : A} (first second : List A) → (Memᴰ x first → P) → (Memᴰ x second → P) → Memᴰ x (first ++ second) → P
in_either {A} {P} {x} first second f g member = go (Memᴰ.append_cases first member)
  where
    go : Memᴰ x first ⊎ Memᴰ x second → P
    go (inl h) = f h
    go (inr h) = g h

module _ {m : ℕ} where
  pub in_node : {P : Type 0} (left right : Syntax) (mark : ℕ) → (Memᴰ m (marks_of left) → P) → (Memᴰ m (marks_of right) → P) → (m ≡ mark → P)
      → Memᴰ m (marks_of left ++ (marks_of right ++ (mark ∷ []))) → P
  in_node left right mark f g own =
      in_either (marks_of left) (marks_of right ++ (mark ∷ [])) f (in_either (marks_of right) (mark ∷ []) g λ h. own (Memᴰ.eq_of_singleton h))

pub within : {all : List Token} {low high : ℕ} {value : Syntax} → Marks all low high value → (m : ℕ) → Memᴰ m (marks_of value) → Within low high m
within (marks_none h) m member = absurd (Memᴰ.not-nil member)
within (marks_before {mark = mark} {left = first} {right = second} fits h k left right) m member =
    in_node first second mark (λ e. omega (arith, within left m e, range_size left, range_size right))
    (λ e. omega (arith, within right m e, range_size left, range_size right)) (λ e. omega (arith, range_size left, range_size right)) member
within (marks_between {mark = mark} {left = first} {right = second} fits left h k right) m member =
    in_node first second mark (λ e. omega (arith, within left m e, range_size left, range_size right))
    (λ e. omega (arith, within right m e, range_size left, range_size right)) (λ e. omega (arith, range_size left, range_size right)) member
within (marks_behind {mark = mark} {left = first} {right = second} fits left right h k) m member =
    in_node first second mark (λ e. omega (arith, within left m e, range_size left, range_size right))
    (λ e. omega (arith, within right m e, range_size left, range_size right)) (λ e. omega (arith, range_size left, range_size right)) member
within (marks_inside {mark = mark} {before = first} {last = second} {right = third} fits before h k last right) m member =
    in_node (snoc first second) third mark
    (λ e.
    in_either (marks_of first) (marks_of second) (λ g. omega (arith, within before m g, range_size before, range_size last, range_size right))
    (λ g. omega (arith, within last m g, range_size before, range_size last, range_size right)) e)
    (λ e. omega (arith, within right m e, range_size before, range_size last, range_size right))
    (λ e. omega (arith, range_size before, range_size last, range_size right)) member
within (marks_both {before = first} {last = second} before last) m member =
    in_either (marks_of first) (marks_of second) (λ e. omega (arith, within before m e, range_size before, range_size last))
    (λ e. omega (arith, within last m e, range_size before, range_size last)) member

distinct_append : {first second : List ℕ} → Distinct first → Distinct second → ((m : ℕ) → Memᴰ m first → Memᴰ m second → ⊥)
    → Distinct (first ++ second)
distinct_append distinct_none d apart = d
distinct_append {second = second} (distinct_more {x = x} {xs = xs} new c) d apart =
    distinct_more (λ member. in_either xs second new (λ e. apart x (Memᴰ.head refl) e) member)
    (distinct_append c d λ m e f. apart m (Memᴰ.tail e) f)

-- a node's: left, right and its own mark
pub distinct_node : (left right : Syntax) (mark : ℕ) → Distinct (marks_of left) → Distinct (marks_of right)
    → ((m : ℕ) → Memᴰ m (marks_of left) → Memᴰ m (marks_of right) → ⊥) → (Memᴰ mark (marks_of left) → ⊥)
    → (Memᴰ mark (marks_of right) → ⊥) → Distinct (marks_of left ++ (marks_of right ++ (mark ∷ [])))
distinct_node left right mark c d apart off-left off-right =
    distinct_append c
    (distinct_append d (distinct_more Memᴰ.not-nil distinct_none)
    λ m e f. off-right (subst (λ (n : ℕ). Memᴰ n (marks_of right)) (Memᴰ.eq_of_singleton f) e))
    λ m e f.
    in_either (marks_of right) (mark ∷ []) (λ g. apart m e g)
    (λ g. off-left (subst (λ (n : ℕ). Memᴰ n (marks_of left)) (Memᴰ.eq_of_singleton g) e)) f

pub distinct : {all : List Token} {low high : ℕ} {value : Syntax} → Marks all low high value → Distinct (marks_of value)
distinct (marks_none h) = distinct_none
distinct (marks_before {mark = mark} {left = first} {right = second} fits h k left right) =
    distinct_node first second mark (distinct left) (distinct right) (λ m e f. omega (arith, within left m e, within right m f))
    (λ e. omega (arith, within left mark e)) (λ e. omega (arith, within right mark e, range_size left))
distinct (marks_between {mark = mark} {left = first} {right = second} fits left h k right) =
    distinct_node first second mark (distinct left) (distinct right) (λ m e f. omega (arith, within left m e, within right m f))
    (λ e. omega (arith, within left mark e)) (λ e. omega (arith, within right mark e))
distinct (marks_behind {mark = mark} {left = first} {right = second} fits left right h k) =
    distinct_node first second mark (distinct left) (distinct right) (λ m e f. omega (arith, within left m e, within right m f))
    (λ e. omega (arith, within left mark e, range_size right)) (λ e. omega (arith, within right mark e))
distinct (marks_inside {mark = mark} {before = first} {last = second} {right = third} fits before h k last right) =
    distinct_node (snoc first second) third mark
    (distinct_append (distinct before) (distinct last) λ m e f. omega (arith, within before m e, within last m f)) (distinct right)
    (λ m e f.
    in_either (marks_of first) (marks_of second) (λ g. omega (arith, within before m g, within right m f, range_size last))
    (λ g. omega (arith, within last m g, within right m f)) e)
    (λ e. in_either (marks_of first) (marks_of second) (λ g. omega (arith, within before mark g)) (λ g. omega (arith, within last mark g)) e)
    (λ e. omega (arith, within right mark e, range_size last))
distinct (marks_both before last) =
    distinct_append (distinct before) (distinct last) λ m e f. omega (arith, within before m e, within last m f)

-- so each piece is behind the one before it
pub ordered : {all : List Token} {low high : ℕ} {value : Syntax} → Marks all low high value → InOrder value
ordered (marks_none h) = order_none
ordered (marks_before fits h k left right) = order_part (ordered left) (ordered right) λ m n e f. omega (arith, within left m e, within right n f)
ordered (marks_between fits left h k right) = order_part (ordered left) (ordered right) λ m n e f. omega (arith, within left m e, within right n f)
ordered (marks_behind fits left right h k) = order_part (ordered left) (ordered right) λ m n e f. omega (arith, within left m e, within right n f)
ordered (marks_inside {before = first} {last = second} fits before h k last right) =
    order_part (order_both (ordered before) (ordered last) λ m n e f. omega (arith, within before m e, within last n f)) (ordered right)
    λ m n e f.
    in_either (marks_of first) (marks_of second) (λ g. omega (arith, within before m g, within right n f, range_size last))
    (λ g. omega (arith, within last m g, within right n f)) e
ordered (marks_both before last) = order_both (ordered before) (ordered last) λ m n e f. omega (arith, within before m e, within last n f)
