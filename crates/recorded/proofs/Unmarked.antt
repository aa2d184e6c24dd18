-- Between the marks of a part of a tree whose marks lie in ranges (Ranges.antt) there are no marks but its own.
use mathlib.Core.Path.{◌≡◌, refl, sym, subst}
use mathlib.Core.List.{List, [], ◌∷◌, ◌++◌, Memᴰ, append_assoc}
use Prim.Native.Nat.{ℕ, ◌+◌, ◌≤◌, ◌<◌}
use native.Mathlib.Omega.{arith}
use lib.Dec.{T}
use Rattle.machine.specs.Tokens.{Token}
use Rattle.machine.specs.Syntax.{Syntax, nil, node, snoc, variable_syntax, for_in_syntax, marks_of}
use Rattle.recorded.specs.Parts.{Part, part, parts_of}
use Rattle.recorded.specs.Recorded.{Initialises, Iterates, Unmarked, Variable, bare_variable, initialised_variable, ForIn, for_in}
use Rattle.grammar.specs.Grammar.{Program}
use Rattle.recorded.proofs.Counting.{Counting}
use Rattle.recorded.proofs.OwnMarks.{marked}
use Rattle.recorded.proofs.Ranges.{is_plain, Shape, Fits, plain, bare, initialised, iterated, Marks, marks_none, marks_before, marks_between, marks_behind, marks_inside, marks_both, range_size, Within, within, in_either, in_node}

-- a part's marks, with its own
abbrev part_marks : Part → List ℕ
part_marks (part kind mark inside) = marks_of inside ++ (mark ∷ [])

abbrev mark_of : Part → ℕ
mark_of (part kind mark inside) = mark

part_marked : (value : Syntax) {p : Part} → Memᴰ p (parts_of value) → Memᴰ (mark_of p) (marks_of value)
part_marked nil member = absurd (mathlib.Core.List.Memᴰ.not-nil member)
part_marked (node kind mark left right) member =
    in_either (parts_of left) (parts_of right ++ (part kind mark (snoc left right) ∷ []))
    (λ e. mathlib.Core.List.Memᴰ.append_left (marks_of right ++ (mark ∷ [])) (part_marked left e))
    (in_either (parts_of right) (part kind mark (snoc left right) ∷ [])
    (λ e. mathlib.Core.List.Memᴰ.append_right (marks_of left) (mathlib.Core.List.Memᴰ.append_left (mark ∷ []) (part_marked right e)))
    (λ e. mathlib.Core.List.Memᴰ.append_right (marks_of left) (mathlib.Core.List.Memᴰ.append_right (marks_of right) (mathlib.Core.List.Memᴰ.head (rw (mathlib.Core.List.Memᴰ.eq_of_singleton e)))))) member
part_marked (snoc before last) member =
    in_either (parts_of before) (parts_of last) (λ e. mathlib.Core.List.Memᴰ.append_left (marks_of last) (part_marked before e))
    (λ e. mathlib.Core.List.Memᴰ.append_right (marks_of before) (part_marked last e)) member

-- these marks lie in a range of their own
record Range (low high : ℕ) (marks own : List ℕ) : Type 0 where
  from : ℕ
  to : ℕ
  above : low ≤ from
  under : to ≤ high
  holds : (m : ℕ) → Memᴰ m own → Within from to m
  only : (m : ℕ) → Memᴰ m marks → Within from to m → Memᴰ m own

wider : {low high bottom top : ℕ} {marks some own : List ℕ} → low ≤ bottom → top ≤ high → ((m : ℕ) → Memᴰ m marks → Within bottom top m → Memᴰ m some)
    → Range bottom top some own → Range low high marks own
wider down up back r =
    record {
      from = r.from;
      to = r.to;
      above = omega (arith, r.above);
      under = omega (arith, r.under);
      holds = r.holds;
      only = λ m member w. r.only m (back m member (record { above = omega (arith, r.above, w.above); below = omega (arith, r.under, w.below) })) w;
    }

whole : {low high kind mark : ℕ} {left right : Syntax} {all : List Token} → Marks all low high (node kind mark left right)
    → Range low high (marks_of (node kind mark left right)) (part_marks (part kind mark (snoc left right)))
whole {low} {high} {mark = mark} {left = left} {right = right} marks =
    record {
      from = low;
      to = high;
      above = omega arith;
      under = omega arith;
      holds = λ m member. within marks m (rw append_assoc at member);
      only = λ m member w. rw append_assoc member;
    }

own_range : {low high kind mark : ℕ} {left right : Syntax} {p : Part} {all : List Token} → Marks all low high (node kind mark left right)
    → Memᴰ p (part kind mark (snoc left right) ∷ []) → Range low high (marks_of (node kind mark left right)) (part_marks p)
own_range {low} {high} {kind} {mark} {left} {right} marks member =
    subst (λ (q : Part). Range low high (marks_of (node kind mark left right)) (part_marks q)) (sym (mathlib.Core.List.Memᴰ.eq_of_singleton member)) (whole marks)

-- of a node from those of its pieces, which lie side by side and not around its own mark
node_range : {low high kind mark bottom middle under top : ℕ} {left right : Syntax} {p : Part} {all : List Token} → Marks all low high (node kind mark left right)
    → low ≤ bottom → middle ≤ under → top ≤ high → Marks all bottom middle left → Marks all under top right → (Within bottom middle mark → ⊥)
    → (Within under top mark → ⊥) → (Memᴰ p (parts_of left) → Range bottom middle (marks_of left) (part_marks p))
    → (Memᴰ p (parts_of right) → Range under top (marks_of right) (part_marks p)) → Memᴰ p (parts_of (node kind mark left right))
    → Range low high (marks_of (node kind mark left right)) (part_marks p)
node_range {kind = kind} {mark = mark} {bottom = bottom} {middle = middle} {under = under} {top = top} {left = left} {right = right} marks down apart up first second off-left off-right f g member =
    let own = part kind mark (snoc left right) ∷ [] in
    let low_up = range_size first in
    let up-high = range_size second in
    in_either (parts_of left) (parts_of right ++ own)
    (λ e.
    wider down (omega arith)
    (λ m member w.
    in_node left right mark (λ h. h) (λ h. absurd (omega (arith, within second m h, w.below)))
    (λ h. absurd (off-left (subst (Within bottom middle) h w))) member)
    (f e))
    (in_either (parts_of right) own
    (λ e.
    wider (omega arith) up
    (λ m member w.
    in_node left right mark (λ h. absurd (omega (arith, within first m h, w.above))) (λ h. h)
    (λ h. absurd (off-right (subst (Within under top) h w))) member)
    (g e))
    (own_range marks)) member

part_range : {all : List Token} {low high : ℕ} {value : Syntax} {p : Part} → Marks all low high value → Memᴰ p (parts_of value)
    → Range low high (marks_of value) (part_marks p)
part_range (marks_none h) member = absurd (mathlib.Core.List.Memᴰ.not-nil member)
part_range (marks_before fits h k left right) member =
    node_range (marks_before fits h k left right) (omega arith) (omega arith) (omega arith) left right (λ w. omega (arith, w.above))
    (λ w. omega (arith, w.above, range_size left)) (part_range left) (part_range right) member
part_range (marks_between fits left h k right) member =
    node_range (marks_between fits left h k right) (omega arith) (omega arith) (omega arith) left right (λ w. omega (arith, w.below))
    (λ w. omega (arith, w.above)) (part_range left) (part_range right) member
part_range (marks_behind fits left right h k) member =
    node_range (marks_behind fits left right h k) (omega arith) (omega arith) (omega arith) left right (λ w. omega (arith, w.below, range_size right))
    (λ w. omega (arith, w.below)) (part_range left) (part_range right) member
part_range (marks_inside {kind = kind} {mark = mark} {before = first} {last = second} {right = third} fits before h k last right) member =
    let own = part kind mark (snoc (snoc first second) third) ∷ [] in
    let b = range_size before in
    let l = range_size last in
    let r = range_size right in
    in_either (parts_of first ++ parts_of second) (parts_of third ++ own)
    (in_either (parts_of first) (parts_of second)
    (λ e.
    wider (omega arith) (omega arith)
    (λ m member w.
    in_node (snoc first second) third mark
    (in_either (marks_of first) (marks_of second) (λ i. i) (λ i. absurd (omega (arith, within last m i, w.below))))
    (λ i. absurd (omega (arith, within right m i, w.below))) (λ i. absurd (omega (arith, w.below))) member)
    (part_range before e))
    (λ e.
    wider (omega arith) (omega arith)
    (λ m member w.
    in_node (snoc first second) third mark
    (in_either (marks_of first) (marks_of second) (λ i. absurd (omega (arith, within before m i, w.above))) (λ i. i))
    (λ i. absurd (omega (arith, within right m i, w.below))) (λ i. absurd (omega (arith, w.above))) member)
    (part_range last e)))
    (in_either (parts_of third) own
    (λ e.
    wider (omega arith) (omega arith)
    (λ m member w.
    in_node (snoc first second) third mark
    (in_either (marks_of first) (marks_of second) (λ i. absurd (omega (arith, within before m i, w.above)))
    (λ i. absurd (omega (arith, within last m i, w.above))))
    (λ i. i) (λ i. absurd (omega (arith, w.above))) member)
    (part_range right e))
    (own_range (marks_inside fits before h k last right))) member
part_range (marks_both {before = first} {last = second} before last) member =
    let b = range_size before in
    let l = range_size last in
    in_either (parts_of first) (parts_of second)
    (λ e.
    wider (omega arith) (omega arith)
    (λ m member w. in_either (marks_of first) (marks_of second) (λ h. h) (λ h. absurd (omega (arith, within last m h, w.below))) member)
    (part_range before e))
    (λ e.
    wider (omega arith) (omega arith)
    (λ m member w. in_either (marks_of first) (marks_of second) (λ h. absurd (omega (arith, within before m h, w.above))) (λ h. h) member)
    (part_range last e)) member

-- so a mark between a part's own and one in it that is not in it is no part's
pub record Gaps (parts : List Part) : Type 0 where
  pub unmarked : (kind own m later : ℕ) (inside : Syntax) → Memᴰ (part kind own inside) parts → own < m → (Memᴰ m (marks_of inside) → ⊥)
      → Memᴰ later (marks_of inside) → m < later → Unmarked m parts

pub gaps : {low high : ℕ} {value : Syntax} {all : List Token} → Marks all low high value → Gaps (parts_of value)
gaps {value = value} marks =
    record {
      unmarked = λ kind own m later inside is over none last under other within member.
          let r = part_range marks is in
          let b = r.holds own (mathlib.Core.List.Memᴰ.append_right (marks_of inside) (mathlib.Core.List.Memᴰ.head refl)) in
          let e = r.holds later (mathlib.Core.List.Memᴰ.append_left (own ∷ []) last) in
          let above : r.from ≤ m = omega (arith, b.above) in
          let below : m < r.to = omega (arith, e.below) in
          in_either (marks_of inside) (own ∷ []) none (λ h. omega (arith, mathlib.Core.List.Memᴰ.eq_of_singleton h))
          (r.only m (part_marked value member) (record { above = above; below = below }));
    }

module _ {parts : List Part} (free : Gaps parts) where
  pub assign_unmarked : {called mark : ℕ} {value : Syntax} → Memᴰ (part variable_syntax called (snoc nil value)) parts → Initialises called mark value
      → Unmarked mark parts
  assign_unmarked {called} {mark} {value} is own =
      let over : called < mark = omega (arith, own.beside) in
      free.unmarked variable_syntax called mark (mark + 1) (snoc nil value) is over (λ e. omega (arith, own.value_behind.behind mark e)) own.value_behind.next (omega arith)

  pub in_unmarked : {word mark : ℕ} {start object inner : Syntax} → Memᴰ (part for_in_syntax word (snoc (snoc (snoc nil start) object) inner)) parts
      → Iterates word mark start object inner → Unmarked mark parts
  in_unmarked {word} {mark} {start} {object} {inner} is own =
      let over : word < mark = omega (arith, own.before (word + 2) own.begins) in
      let head = marks_of start ++ marks_of object in
      let none : Memᴰ mark (head ++ marks_of inner) → ⊥ =
      in_either head (marks_of inner)
      (in_either (marks_of start) (marks_of object) (λ e. omega (arith, own.before mark e))
      (λ e. omega (arith, own.behind mark (mathlib.Core.List.Memᴰ.append_left (marks_of inner) e))))
      (λ e. omega (arith, own.behind mark (mathlib.Core.List.Memᴰ.append_right (marks_of object) e))) in
      free.unmarked for_in_syntax word mark (mark + 1) (snoc (snoc (snoc nil start) object) inner) is over none
      (mathlib.Core.List.Memᴰ.append_left (marks_of inner) (mathlib.Core.List.Memᴰ.append_right (marks_of start) own.next)) (omega arith)

-- a part's pieces fit its kind (Ranges.antt)
pub data Fitting (all : List Token) : Part → Type 0 where
  fitting : {kind mark : ℕ} {left right : Syntax} → Fits all kind mark left right → Fitting all (part kind mark (snoc left right))

module _ {all : List Token} {p : Part} where
  node_fits : {kind mark : ℕ} (left right : Syntax) → Fits all kind mark left right → (Memᴰ p (parts_of left) → Fitting all p)
      → (Memᴰ p (parts_of right) → Fitting all p) → Memᴰ p (parts_of (node kind mark left right)) → Fitting all p
  node_fits {kind} {mark} left right fits f g =
      let own = part kind mark (snoc left right) ∷ [] in
      in_either (parts_of left) (parts_of right ++ own) f
      (in_either (parts_of right) own g λ e. subst (Fitting all) (sym (mathlib.Core.List.Memᴰ.eq_of_singleton e)) (fitting fits))

  pub part_fits : {low high : ℕ} {value : Syntax} → Marks all low high value → Memᴰ p (parts_of value) → Fitting all p
  part_fits (marks_none h) member = absurd (mathlib.Core.List.Memᴰ.not-nil member)
  part_fits (marks_before {left = first} {right = second} fits h k left right) member = node_fits first second fits (part_fits left) (part_fits right) member
  part_fits (marks_between {left = first} {right = second} fits left h k right) member = node_fits first second fits (part_fits left) (part_fits right) member
  part_fits (marks_behind {left = first} {right = second} fits left right h k) member = node_fits first second fits (part_fits left) (part_fits right) member
  part_fits (marks_inside {before = first} {last = second} {right = third} fits before h k last right) member =
      node_fits (snoc first second) third fits (in_either (parts_of first) (parts_of second) (part_fits before) (part_fits last)) (part_fits right) member
  part_fits (marks_both {before = first} {last = second} before last) member =
      in_either (parts_of first) (parts_of second) (part_fits before) (part_fits last) member

-- so each variable's part and each part of a `for` with an `in` of a program has its `=` or its `in`, which marks nothing
module _ {total low : ℕ} {all : List Token} {value : Syntax} (counting : Counting all total low all) (program : Program all value) where
  free : Gaps (parts_of value)
  free = gaps (marked program tt counting).marks

  pub variable_signed : (called : ℕ) (inside : Syntax) → Memᴰ (part variable_syntax called inside) (parts_of value)
      → Variable all (parts_of value) called inside
  variable_signed called inside is = go (part_fits (marked program tt counting).marks is) is
    where
      by : {kind : ℕ} {left right : Syntax} → Shape all kind called left right → kind ≡ variable_syntax
          → Memᴰ (part kind called (snoc left right)) (parts_of value) → Variable all (parts_of value) called (snoc left right)
      by (plain h holds) same is = absurd (subst (λ (k : ℕ). T (is_plain k)) same h)
      by (bare among class next) same is = bare_variable among class next
      by (initialised among own) same is = initialised_variable among own (assign_unmarked free is own)
      by (iterated among own) same is = absurd (omega arith)

      go : {inside : Syntax} → Fitting all (part variable_syntax called inside) → Memᴰ (part variable_syntax called inside) (parts_of value)
          → Variable all (parts_of value) called inside
      go (fitting fits) is = by fits.shape refl is

  pub for_in_signed : (word : ℕ) (inside : Syntax) → Memᴰ (part for_in_syntax word inside) (parts_of value) → ForIn all (parts_of value) word inside
  for_in_signed word inside is = go (part_fits (marked program tt counting).marks is) is
    where
      by : {kind : ℕ} {left right : Syntax} → Shape all kind word left right → kind ≡ for_in_syntax
          → Memᴰ (part kind word (snoc left right)) (parts_of value) → ForIn all (parts_of value) word (snoc left right)
      by (plain h holds) same is = absurd (subst (λ (k : ℕ). T (is_plain k)) same h)
      by (bare among class next) same is = absurd (omega arith)
      by (initialised among own) same is = absurd (omega arith)
      by (iterated among own) same is = for_in among own (in_unmarked free is own)

      go : {inside : Syntax} → Fitting all (part for_in_syntax word inside) → Memᴰ (part for_in_syntax word inside) (parts_of value)
          → ForIn all (parts_of value) word inside
      go (fitting fits) is = by fits.shape refl is
