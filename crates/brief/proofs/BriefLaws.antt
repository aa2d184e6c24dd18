-- What the machine makes of a group that is empty, or holds one operand or parameter alone.
use Prim.Native.Nat.{ℕ, ◌+◌, ◌≤◌}
use mathlib.Core.Path.{◌≡◌, refl, sym, ◌∙◌, ap}
use mathlib.Core.Bool.{Bool, true, false}
use mathlib.Core.List.{List, ◌∷◌, ◌++◌}
use Rattle.std.specs.Option.{IfSome, option_eq}
use Rattle.std.proofs.Common.{Option, None, Some}
use native.Mathlib.Omega.{arith}
use borrow.Author.Tests.{eqb-true, eqb-false}
use lib.Dec.{T, eqb}
use Rattle.machine.specs.Tokens.{Token, token, Spot, name, close_paren}
use Rattle.machine.specs.Syntax.{Syntax, nil, node, snoc, size}
use Rattle.machine.specs.Machinery.Machine.{empty, Control, parameter_due, Open, live, run}
use Rattle.machine.specs.Scopes.{body, block}
use Rattle.controls.specs.Machinery.Numbers.{inside_by}
use Rattle.controls.specs.declared.Closing as closings
use Rattle.controls.specs.Machinery.Written.{put_record, put_syntax}
use Rattle.frames.specs.Machinery.Effects.{of_parameter}
use Rattle.segments.specs.Machinery.Segments.{Segment, count_of, class_at, leaf_at, leaf_of, tokens_at, spot_at, Fine}
use Rattle.segments.proofs.SegmentLaws.{is_element, element_then, end_then}
use Rattle.segments.proofs.LeafLaws.{leaf_told}
use Rattle.groups.specs.Machinery.Closers.{closer_token, closed_state}
use Rattle.brief.specs.declared.Found.{Found}
use Rattle.brief.specs.declared.Found.TheVariants.{Nothing, Operand}
use Rattle.brief.specs.Machinery.Brief.{MayBeEmpty, no_arguments, no_elements, no_properties, no_parameters, no_statements, no_clauses, HoldsOperand, in_parens, in_brackets, in_arguments, in_elements, Lone, lone_parameter, lone_operand, lone_more, FindsInside, finds_nothing, finds_operand, finds_more}

-- a closer that is found to be one has what it is said to have
pub closer_told : {c : Control} {closer : ℕ} (found : Option ℕ) → IfSome found (MayBeEmpty c) → option_eq eqb found (Some closer) ≡ true → MayBeEmpty c closer
closer_told {c} {closer} (Some class) holds same = rw (sym (eqb-true class closer same)) holds
closer_told None holds same = absurd (let w : ◌≡◌ {A = Bool} false true = same in let z : ◌≡◌ {A = ℕ} 0 1 = cc in omega arith)

-- nothing is popped at once
pops : {c : Control} {closer : ℕ} → MayBeEmpty c closer → (place : ℕ) (around : List Open) (mark : ℕ) (u : List Token)
    → run (live c empty around) (closer_token closer place mark ∷ u) ≡ run (closed_state closer place false nil around) u
pops no_arguments place around mark u = refl
pops no_elements place around mark u = refl
pops no_properties place around mark u = refl
pops no_parameters place around mark u = refl
pops (no_statements body) place around mark u = refl
pops (no_statements block) place around mark u = refl
pops no_clauses place around mark u = refl

pub empty_found : {p : Segment} {c : Control} {closer : ℕ} → MayBeEmpty c closer → count_of p.cells ≡ 0 → FindsInside closer p c Nothing
empty_found {p} {c} {closer} may none = finds_nothing (record {
  runs = λ around mark u.
      ap (λ (ts : List Token). run (live c empty around) ts) (end_then p 0 (omega arith) (closer_token closer p.close mark ∷ u))
      ∙ pops may p.close around mark u;
  plain = λ e. refl;
})

-- the classes of operands that a kind tells
at_leaves : (P : ℕ → Type 0) → P 1 → P 2 → P 3 → P 4 → (class : ℕ) → (class ≡ 0 → ⊥) → class ≤ 4 → P class
at_leaves P one two three four class some few = go (eqb class 1) (eqb class 2) (eqb class 3) refl refl refl
  where
    go : (a b c : Bool) → eqb class 1 ≡ a → eqb class 2 ≡ b → eqb class 3 ≡ c → P class
    go true b c e f g = rw (eqb-true class 1 e) one
    go false true c e f g = rw (eqb-true class 2 f) two
    go false false true e f g = rw (eqb-true class 3 g) three
    go false false false e f g =
        let z : class ≡ 4 = omega (arith, some, few, eqb-false class 1 e, eqb-false class 2 f, eqb-false class 3 g) in
        rw z four

leaf_element : (class : ℕ) → (class ≡ 0 → ⊥) → class ≤ 4 → T (is_element class)
leaf_element = at_leaves (λ (class : ℕ). T (is_element class)) tt tt tt tt

-- what an operand alone comes to
abbrev value_in : {c : Control} {closer : ℕ} → HoldsOperand c closer → Syntax → Syntax
value_in in_parens operand = operand
value_in in_brackets operand = operand
value_in in_arguments operand = snoc nil operand
value_in in_elements operand = snoc nil operand

-- it is popped
Popped : {c : Control} {closer : ℕ} → HoldsOperand c closer → ℕ → Type 0
Popped {c} {closer} h class = (spot : Spot) (place : ℕ) (around : List Open) (mark : ℕ) (u : List Token)
    → run (live c empty around) (token class spot ∷ closer_token closer place mark ∷ u)
    ≡ run (closed_state closer place false (value_in h (node class spot.mark nil nil)) around) u

popped : {c : Control} {closer : ℕ} (h : HoldsOperand c closer) (class : ℕ) → (class ≡ 0 → ⊥) → class ≤ 4 → Popped h class
unfolding Popped
popped in_parens =
    at_leaves (Popped in_parens) (λ spot place around mark u. refl) (λ spot place around mark u. refl) (λ spot place around mark u. refl) (λ spot place around mark u. refl)
popped in_brackets =
    at_leaves (Popped in_brackets) (λ spot place around mark u. refl) (λ spot place around mark u. refl) (λ spot place around mark u. refl) (λ spot place around mark u. refl)
popped in_arguments =
    at_leaves (Popped in_arguments) (λ spot place around mark u. refl) (λ spot place around mark u. refl) (λ spot place around mark u. refl) (λ spot place around mark u. refl)
popped in_elements =
    at_leaves (Popped in_elements) (λ spot place around mark u. refl) (λ spot place around mark u. refl) (λ spot place around mark u. refl) (λ spot place around mark u. refl)

never : {A : Type 0} → ◌≡◌ {A = Bool} false true → A
never e = absurd (let z : ◌≡◌ {A = ℕ} 0 1 = cc in omega arith)

no-parameter : {c : Control} {closer : ℕ} → HoldsOperand c closer → {A : Type 0} → of_parameter c ≡ true → A
no-parameter in_parens e = never e
no-parameter in_brackets e = never e
no-parameter in_arguments e = never e
no-parameter in_elements e = never e

-- one record is written
value_size : {c : Control} {closer : ℕ} (h : HoldsOperand c closer) (class mark : ℕ) → size (value_in h (node class mark nil nil)) ≡ 1
value_size in_parens class mark = refl
value_size in_brackets class mark = refl
value_size in_arguments class mark = refl
value_size in_elements class mark = refl

value_written : {c : Control} {closer : ℕ} (h : HoldsOperand c closer) (class mark : ℕ) (table : List ℕ) (count : ℕ)
    → put_syntax table count (value_in h (node class mark nil nil)) ≡ put_record table count class mark 1
unfolding put_syntax
value_written in_parens class mark table count = ap (λ (at : ℕ). put_record table at class mark 1) (let z : count + 0 + 0 ≡ count = omega arith in z)
value_written in_brackets class mark table count = ap (λ (at : ℕ). put_record table at class mark 1) (let z : count + 0 + 0 ≡ count = omega arith in z)
value_written in_arguments class mark table count = ap (λ (at : ℕ). put_record table at class mark 1) (let z : count + 0 + 0 + 0 ≡ count = omega arith in z)
value_written in_elements class mark table count = ap (λ (at : ℕ). put_record table at class mark 1) (let z : count + 0 + 0 + 0 ≡ count = omega arith in z)

-- what a leaf is told
pub told : (cells : List ℕ) {class : ℕ} → leaf_of (leaf_at cells 0) ≡ Some class
    → (class ≡ 0 → ⊥) × (class ≤ 4) × ((text : List ℕ) → class_at text cells 0 ≡ class)
told cells {class} is = go (eqb (leaf_at cells 0) 0) refl
  where
    go : (b : Bool) → eqb (leaf_at cells 0) 0 ≡ b → (class ≡ 0 → ⊥) × (class ≤ 4) × ((text : List ℕ) → class_at text cells 0 ≡ class)
    go true e = absurd (let z : ◌≡◌ {A = Option ℕ} None (Some class) = rw e at is in let w : ◌≡◌ {A = ℕ} 0 1 = cc in omega arith)
    go false e =
        let some : leaf_at cells 0 ≡ 0 → ⊥ = λ none. eqb-false (leaf_at cells 0) 0 e none in
        let same : leaf_at cells 0 ≡ class = let z : ◌≡◌ {A = Option ℕ} (Some (leaf_at cells 0)) (Some class) = rw e at is in cc in
        let t = leaf_told cells 0 some in
        (λ none. some (same ∙ none), omega (arith, t.0, same), λ text. t.1 text ∙ same)

-- at a level of one record
module _ {p : Segment} (fine : Fine p) (one : count_of p.cells ≡ 1) (class : ℕ) (is : class_at p.text p.cells 0 ≡ class) (some : class ≡ 0 → ⊥) (few : class ≤ 4) where
  alone_then : (u : List Token) → tokens_at p 0 ++ u ≡ token class (spot_at p 0) ∷ u
  alone_then u = element_then fine 0 class is u (leaf_element class some few) ∙ ap (λ (ts : List Token). token class (spot_at p 0) ∷ ts) (end_then p 1 (omega arith) u)

  operand_found : {c : Control} {closer : ℕ} → HoldsOperand c closer → FindsInside closer p c (Operand class)
  unfolding Popped
  operand_found {c} {closer} h = finds_operand (value_in h (node class (p.base + 0) nil nil)) (record {
    runs = λ around mark u.
        ap (λ (ts : List Token). run (live c empty around) ts) (alone_then (closer_token closer p.close mark ∷ u))
        ∙ popped h class some few (spot_at p 0) p.close around mark u;
    plain = λ e. no-parameter h e;
  }) (omega arith) (value_size h class (p.base + 0)) (λ table count.
      value_written h class (p.base + 0) table count ∙ ap (λ (mark : ℕ). put_record table count class mark 1) (let z : p.base + 0 ≡ p.base = omega arith in z))

  parameter_found : class ≡ name → FindsInside close_paren p (parameter_due false) Nothing
  parameter_found named = finds_nothing (record {
    runs = λ around mark u.
        ap (λ (ts : List Token). run (live (parameter_due false) empty around) ts) (alone_then (closer_token close_paren p.close mark ∷ u))
        ∙ ap (λ (k : ℕ). run (live (parameter_due false) empty around) (token k (spot_at p 0) ∷ closer_token close_paren p.close mark ∷ u)) named;
    plain = λ e. refl;
  })

-- as what a lone record is found to be, if its class is told
pub lone_found : {p : Segment} → Fine p → count_of p.cells ≡ 1 → {leaf : Option ℕ} {closer : ℕ} {closing : closings.Closing} {r : Found}
    → ((class : ℕ) → leaf ≡ Some class → (class ≡ 0 → ⊥) × (class ≤ 4) × ((text : List ℕ) → class_at text p.cells 0 ≡ class)) → Lone leaf closer closing r → FindsInside closer p (inside_by closing) r
lone_found {p} fine one known (lone_parameter named ends inside) =
    let t = known name named in
    rw (ends, inside) (parameter_found fine one name (t.2 p.text) t.0 t.1 refl)
lone_found {p} fine one known (lone_operand {class = class} some h) =
    let t = known class some in
    operand_found fine one class (t.2 p.text) t.0 t.1 h
lone_found fine one known lone_more = finds_more
