-- Tables: what every entry has, the entry that is looked up has.
use mathlib.Core.Path.{◌≡◌, refl, sym, ap}
use mathlib.Core.Bool.{Bool, true, false, not, cond}
use mathlib.Core.List.{List, [], ◌∷◌, ◌++◌}
use Prim.Native.Nat.{ℕ, ◌≤◌, ◌<◌}
use lib.Dec.{T, eqb, leb, ltb, eqb→eq, eqb_refl, leb→le, ltb→lt}
use Rattle.text.proofs.Range.{and_left, and_right}
use Rattle.machine.specs.Tokens.{name}
use Rattle.machine.specs.Operators.{precedence, assignment_precedence, least_binary, assignment_operators, binary_operators, binary_operators_by, prefix_operators, prefix_kind, is_among}
pub use Rattle.machine.specs.Operators.{each_class}
use Rattle.machine.specs.Machinery.Machine.{prefix_precedence, tightness, Action, fail, Entry, on, otherwise, look, for_each, values, unless_line, threshold}
use Rattle.grammar.specs.Grammar.{Leaf, leaf_name, leaf_number, leaf_string, leaf_pattern, leaf_this, leaf_null, leaf_true, leaf_false}

-- a property of each entry of a row
abbrev pub EachEntry : (ℕ → Action → Type 0) → List Entry → Type 0
EachEntry Holds [] = Unit {0}
EachEntry Holds (on class action ∷ rest) = Holds class action × EachEntry Holds rest
EachEntry Holds (otherwise action ∷ rest) = (class : ℕ) → Holds class action

-- what each entry has, and failure has, is had by what is looked up
pub looked_up : (Holds : ℕ → Action → Type 0) (row : List Entry) → EachEntry Holds row → ((class : ℕ) → Holds class fail) → (class : ℕ)
    → Holds class (look class row)
looked_up Holds [] each none class = none class
looked_up Holds (on x action ∷ rest) each none class = go (eqb class x) (λ same. same) (looked_up Holds rest each.1 none class)
  where
    go : (b : Bool) → (T b → T (eqb class x)) → Holds class (look class rest) → Holds class (cond b action (look class rest))
    go true same later = rw (eqb→eq class x (same tt)) each.0
    go false same later = later
looked_up Holds (otherwise action ∷ rest) each none class = each class

pub map_entries : (Holds Then : ℕ → Action → Type 0) (row : List Entry) → ((class : ℕ) (action : Action) → Holds class action → Then class action)
    → EachEntry Holds row → EachEntry Then row
map_entries Holds Then [] f each = tt
map_entries Holds Then (on class action ∷ rest) f each = (f class action each.0, map_entries Holds Then rest f each.1)
map_entries Holds Then (otherwise action ∷ rest) f each = λ class. f class action (each class)

-- an entry for another class is passed over
pub look_past : (class x : ℕ) (action : Action) (rest : List Entry) → T (not (eqb class x)) → look class (on x action ∷ rest) ≡ look class rest
look_past class x action rest other = go (eqb class x) other
  where
    go : (b : Bool) → T (not b) → cond b action (look class rest) ≡ look class rest
    go true other = absurd other
    go false other = refl

-- a row that wants no line end, where there is none
pub no_newline : (newline : Bool) (row : List Entry) → T (not newline) → unless_line newline row ≡ row
no_newline true row h = absurd h
no_newline false row h = refl

pub unless_entries : (Holds : ℕ → Action → Type 0) (newline : Bool) (row : List Entry) → (T (not newline) → EachEntry Holds row)
    → EachEntry Holds (unless_line newline row)
unless_entries Holds true row each = tt
unless_entries Holds false row each = each tt

-- what each class of a list passes, one of them does
pub at_class : (test : ℕ → Bool) (classes : List ℕ) (class : ℕ) → T (is_among classes class) → T (each_class test classes) → T (test class)
at_class test [] class h each = absurd h
at_class test (x ∷ rest) class h each =
    go (eqb class x) (λ same. same) (λ later. at_class test rest class later (and_right (test x) (each_class test rest) each)) h
  where
    go : (b : Bool) → (T b → T (eqb class x)) → (T (is_among rest class) → T (test class)) → T (cond b true (is_among rest class)) → T (test class)
    go true same later h = rw (eqb→eq class x (same tt)) (and_left (test x) (each_class test rest) each)
    go false same later h = later h

-- what a number is for each class of a list, it is for one of them
pub number_at : (f g : ℕ → ℕ) (classes : List ℕ) → T (each_class (λ x. eqb (f x) (g x)) classes) → (class : ℕ) → T (is_among classes class) → f class ≡ g class
number_at f g classes each class h = eqb→eq (f class) (g class) (at_class (λ x. eqb (f x) (g x)) classes class h each)

-- those that are left where `in` is none are binary operators too
pub binary_by : (within : Bool) (class : ℕ) → T (is_among (binary_operators_by within) class) → T (is_among binary_operators class)
binary_by true class h = h
binary_by false class h = at_class (is_among binary_operators) (binary_operators_by false) class h tt

-- binary operators have precedences from 3 up, bind by them, and close those that bind at least as tight
pub binary_precedence : (class : ℕ) → T (is_among binary_operators class) → least_binary ≤ precedence class
binary_precedence class h = leb→le least_binary (precedence class) (at_class (λ x. leb least_binary (precedence x)) binary_operators class h tt)

pub binary_tightness : (class : ℕ) → T (is_among binary_operators class) → tightness class ≡ precedence class
binary_tightness = number_at tightness precedence binary_operators tt

pub binary_threshold : (class : ℕ) → T (is_among binary_operators class) → threshold class ≡ precedence class
binary_threshold = number_at threshold precedence binary_operators tt

pub binary_under_prefix : (class : ℕ) → T (is_among binary_operators class) → precedence class < prefix_precedence
binary_under_prefix class h = ltb→lt (precedence class) prefix_precedence (at_class (λ x. ltb (precedence x) prefix_precedence) binary_operators class h tt)

-- assignments bind less tight than any of those, and close them
pub assignment_tightness : (class : ℕ) → T (is_among assignment_operators class) → tightness class ≡ assignment_precedence
assignment_tightness = number_at tightness (λ class. assignment_precedence) assignment_operators tt

pub assignment_threshold : (class : ℕ) → T (is_among assignment_operators class) → threshold class ≡ least_binary
assignment_threshold = number_at threshold (λ class. least_binary) assignment_operators tt

-- operators before their operand bind tighter
pub prefix_tightness : (class : ℕ) → T (is_among prefix_operators class) → tightness (prefix_kind class) ≡ prefix_precedence
prefix_tightness = number_at (λ class. tightness (prefix_kind class)) (λ class. prefix_precedence) prefix_operators tt

-- a class of a list is looked up there, and any other behind it
pub look_each : (action : ℕ → Action) (classes : List ℕ) (rest : List Entry) (class : ℕ) → T (is_among classes class)
    → look class (for_each action classes rest) ≡ action class
look_each action [] rest class h = absurd h
look_each action (x ∷ classes) rest class h = go (eqb class x) (λ same. same) (λ later. look_each action classes rest class later) h
  where
    go : (b : Bool) → (T b → T (eqb class x)) → (T (is_among classes class) → look class (for_each action classes rest) ≡ action class)
        → T (cond b true (is_among classes class)) → cond b (action x) (look class (for_each action classes rest)) ≡ action class
    go true same later h = ap action (sym (eqb→eq class x (same tt)))
    go false same later h = later h

pub look_behind : (action : ℕ → Action) (classes : List ℕ) (rest : List Entry) (class : ℕ) → T (not (is_among classes class))
    → look class (for_each action classes rest) ≡ look class rest
look_behind action [] rest class h = refl
look_behind action (x ∷ classes) rest class h = go (eqb class x) (λ other. look_behind action classes rest class other) h
  where
    go : (b : Bool) → (T (not (is_among classes class)) → look class (for_each action classes rest) ≡ look class rest)
        → T (not (cond b true (is_among classes class))) → cond b (action x) (look class (for_each action classes rest)) ≡ look class rest
    go true later h = absurd h
    go false later h = later h

-- each entry of a list's row, by its classes and by the rest
pub each_entry : (Holds : ℕ → Action → Type 0) (action : ℕ → Action) (classes : List ℕ) (rest : List Entry)
    → ((class : ℕ) → T (is_among classes class) → Holds class (action class)) → EachEntry Holds rest → EachEntry Holds (for_each action classes rest)
each_entry Holds action [] rest each others = others
each_entry Holds action (x ∷ classes) rest each others =
    (each x (itself (eqb x x) (eqb_refl x)), each_entry Holds action classes rest (λ class h. each class (later class (eqb class x) h)) others)
  where
    itself : (b : Bool) → T b → T (cond b true (is_among classes x))
    itself true h = tt
    itself false h = absurd h

    later : (class : ℕ) (b : Bool) → T (is_among classes class) → T (cond b true (is_among classes class))
    later class true h = tt
    later class false h = h

-- a test that each leaf passes
abbrev pub leaves : List ℕ
leaves = name ∷ values

pub at_leaf : {class : ℕ} (test : ℕ → Bool) → T (each_class test leaves) → Leaf class → T (test class)
at_leaf {class} test each leaf = at_class test leaves class (among leaf) each
  where
    among : {class : ℕ} → Leaf class → T (is_among leaves class)
    among leaf_name = tt
    among leaf_number = tt
    among leaf_string = tt
    among leaf_pattern = tt
    among leaf_this = tt
    among leaf_null = tt
    among leaf_true = tt
    among leaf_false = tt

-- a class that a row has an entry for is looked up there, and any other behind it
abbrev pub has_entry : List Entry → ℕ → Bool
has_entry [] class = false
has_entry (on x action ∷ rest) class = cond (eqb class x) true (has_entry rest class)
has_entry (otherwise action ∷ rest) class = true

pub look_within : (row rest : List Entry) (class : ℕ) → T (has_entry row class) → look class (row ++ rest) ≡ look class row
look_within [] rest class h = absurd h
look_within (on x action ∷ row) rest class h = go (eqb class x) (λ later. look_within row rest class later) h
  where
    go : (b : Bool) → (T (has_entry row class) → look class (row ++ rest) ≡ look class row) → T (cond b true (has_entry row class))
        → cond b action (look class (row ++ rest)) ≡ cond b action (look class row)
    go true later h = refl
    go false later h = later h
look_within (otherwise action ∷ row) rest class h = refl

pub look_beyond : (row rest : List Entry) (class : ℕ) → T (not (has_entry row class)) → look class (row ++ rest) ≡ look class rest
look_beyond [] rest class h = refl
look_beyond (on x action ∷ row) rest class h = go (eqb class x) (λ later. look_beyond row rest class later) h
  where
    go : (b : Bool) → (T (not (has_entry row class)) → look class (row ++ rest) ≡ look class rest) → T (not (cond b true (has_entry row class)))
        → cond b action (look class (row ++ rest)) ≡ look class rest
    go true later h = absurd h
    go false later h = later h
look_beyond (otherwise action ∷ row) rest class h = absurd h

-- a class of a list that is not its first
pub among_rest : (x : ℕ) (classes : List ℕ) (class : ℕ) → T (not (eqb class x)) → T (is_among (x ∷ classes) class) → T (is_among classes class)
among_rest x classes class other h = go (eqb class x) other h
  where
    go : (b : Bool) → T (not b) → T (cond b true (is_among classes class)) → T (is_among classes class)
    go true other h = absurd other
    go false other h = h

-- behind the same entries, what is looked up alike in the rest is looked up alike
pub look_under : (row first second : List Entry) (class : ℕ) → look class first ≡ look class second → look class (row ++ first) ≡ look class (row ++ second)
look_under [] first second class same = same
look_under (on x action ∷ row) first second class same = ap (λ (z : Action). cond (eqb class x) action z) (look_under row first second class same)
look_under (otherwise action ∷ row) first second class same = refl

-- a property that each class of a list has, one of them has
abbrev pub EachClass : (ℕ → Type 0) → List ℕ → Type 0
EachClass Holds [] = Unit {0}
EachClass Holds (x ∷ rest) = Holds x × EachClass Holds rest

pub holds_at : (Holds : ℕ → Type 0) (classes : List ℕ) → EachClass Holds classes → (class : ℕ) → T (is_among classes class) → Holds class
holds_at Holds [] each class h = absurd h
holds_at Holds (x ∷ rest) each class h = go (eqb class x) (λ same. same) (λ later. holds_at Holds rest each.1 class later) h
  where
    go : (b : Bool) → (T b → T (eqb class x)) → (T (is_among rest class) → Holds class) → T (cond b true (is_among rest class)) → Holds class
    go true same later h = rw (eqb→eq class x (same tt)) each.0
    go false same later h = later h
