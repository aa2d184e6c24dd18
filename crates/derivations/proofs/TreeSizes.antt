-- The records and the depth of trees, counted over their elements.
use mathlib.Core.Path.{◌≡◌, refl, sym, ap, ◌∙◌}
use mathlib.Core.Logic.{inl, inr}
use mathlib.Core.List.{List, [], ◌∷◌, ◌++◌, append_assoc, append-nil}
use mathlib.Core.Bool.{Bool, true, false, cond, ◌&&◌, ◌||◌}
use Prim.Native.Nat.{ℕ, ◌+◌, ◌-◌, ◌≤◌, max}
use native.Mathlib.Omega.{arith}
use borrow.Author.Tests.{ne_eqb}
use lib.Dec.{eqb, leb}
use Rattle.text.specs.Runs
use Rattle.signs.specs.Signs.{longest_sign, longest_of}
use Rattle.elements.specs.Elements.{sign_kind, paren_closer, brace_closer, bracket_closer}
use Rattle.elements.specs.declared.Element.{Element}
use Rattle.rule.specs.Trees.{Trees, none, leaf, group, count, deepest, paren_kind, bracket_kind, before_kind, answer_kind}
use Rattle.reading.specs.Nested.{ElementKind}
use Rattle.reading.proofs.Formed.{Formed}
use Rattle.derivations.specs.Cuts.{is_closer}
use Rattle.derivations.specs.Derivations.{count_trees, open_after, deepest_from}
use Rattle.derivations.specs.TreeElements.{opener_of, closer_of, unsettled_kind, unsettled, elements_of}
use Rattle.derivations.proofs.ClassSteps.{leaf_no_closer}

count_append : (es fs : List Element) → count_trees (es ++ fs) ≡ count_trees es + count_trees fs
count_append [] fs = omega arith
count_append (e ∷ es) fs = rw (count_append es fs) (omega arith)

-- an opener is no closer, and a closer is one
pub opener_counts : (kind first : ℕ) (newline : Bool) → is_closer (opener_of kind first newline) ≡ false
unfolding longest_sign longest_of Runs.same
opener_counts kind first newline = go (eqb kind paren_kind) (eqb kind bracket_kind)
  where
    go : (a b : Bool) → (eqb (cond a 3 (cond b 5 1)) paren_closer || eqb (cond a 3 (cond b 5 1)) brace_closer || eqb (cond a 3 (cond b 5 1)) bracket_closer) ≡ false
    go true b = refl
    go false true = refl
    go false false = refl

pub closer_closes : (kind end : ℕ) → is_closer (closer_of kind end) ≡ true
unfolding longest_sign longest_of Runs.same
closer_closes kind end = go (eqb kind paren_kind) (eqb kind bracket_kind)
  where
    go : (a b : Bool) → (eqb (cond a 4 (cond b 6 2)) paren_closer || eqb (cond a 4 (cond b 6 2)) brace_closer || eqb (cond a 4 (cond b 6 2)) bracket_closer) ≡ true
    go true b = refl
    go false true = refl
    go false false = refl

-- an element is no delimiter, whatever is settled of it
pub unsettled_leaf : (e : Element) → ElementKind e.kind → unsettled_kind e.kind ≡ 0 → ⊥
unsettled_leaf e = go (leb before_kind e.kind && leb e.kind answer_kind)
  where
    go : (b : Bool) → ElementKind e.kind → cond b sign_kind e.kind ≡ 0 → ⊥
    go true k q = omega arith
    go false (inl k) q = omega (arith, k)
    go false (inr k) q = omega (arith, k)

pub count_elements : (trees : Trees) → Formed trees → count_trees (elements_of trees) ≡ count trees
unfolding elements_of count
count_elements none f = refl
count_elements (leaf before e) f =
    count_append (elements_of before) (unsettled e ∷ [])
    ∙ rw (leaf_no_closer (unsettled e) (unsettled_leaf e f.1)) (omega (arith, count_elements before f.0))
count_elements (group before kind first end newline within) f =
    count_append (elements_of before) (opener_of kind first newline ∷ (elements_of within ++ (closer_of kind end ∷ [])))
    ∙ rw (opener_counts kind first newline, count_append (elements_of within) (closer_of kind end ∷ []), closer_closes kind end)
    (omega (arith, count_elements before f.0, count_elements within f.3))

-- groups that are open behind an opener, a closer, and an element that is neither
opener_opens : (depth kind first : ℕ) (newline : Bool) → open_after depth (opener_of kind first newline) ≡ depth + 1
unfolding longest_sign longest_of Runs.same
opener_opens depth kind first newline = go (eqb kind paren_kind) (eqb kind bracket_kind)
  where
    go : (a b : Bool) → open_after depth (record { kind = 0; which = cond a 3 (cond b 5 1); first = first; end = first + 1; newline = newline }) ≡ depth + 1
    go true b = refl
    go false true = refl
    go false false = refl

closer_shuts : (depth kind end : ℕ) → open_after depth (closer_of kind end) ≡ depth - 1
unfolding longest_sign longest_of Runs.same
closer_shuts depth kind end = go (eqb kind paren_kind) (eqb kind bracket_kind)
  where
    go : (a b : Bool) → open_after depth (record { kind = 0; which = cond a 4 (cond b 6 2); first = end - 1; end = end; newline = false }) ≡ depth - 1
    go true b = refl
    go false true = refl
    go false false = refl

leaf_stays : (depth : ℕ) (e : Element) → (e.kind ≡ 0 → ⊥) → open_after depth e ≡ depth
leaf_stays depth e n = rw (ne_eqb e.kind 0 n)

at_least : (depth : ℕ) (es : List Element) → depth ≤ deepest_from depth es
at_least depth [] = omega arith
at_least depth (e ∷ es) = omega arith

inner_largest : (depth within rest : ℕ) → depth ≤ rest → max depth (max (depth + 1 + within) (max (depth + 1) rest)) ≡ max (depth + 1 + within) rest
inner_largest depth within rest h = omega arith

largest : (depth before within rest : ℕ) → depth ≤ rest
    → max (depth + before) (max depth (max (depth + 1 + within) (max (depth + 1) rest))) ≡ max (depth + max before (within + 1)) rest
largest depth before within rest h = ap (max (depth + before)) (inner_largest depth within rest h) ∙ omega arith

-- the elements of trees lead back to where they began
deepest_append : (trees : Trees) → Formed trees → (depth : ℕ) (rest : List Element)
    → deepest_from depth (elements_of trees ++ rest) ≡ max (depth + deepest trees) (deepest_from depth rest)
unfolding elements_of deepest
deepest_append none f depth rest = omega (arith, at_least depth rest)
deepest_append (leaf before e) f depth rest =
    ap (deepest_from depth) (append_assoc (elements_of before) (unsettled e ∷ []) rest)
    ∙ deepest_append before f.0 depth (unsettled e ∷ rest)
    ∙ rw (leaf_stays depth (unsettled e) (unsettled_leaf e f.1)) (omega (arith, at_least depth rest))
deepest_append (group before kind first end newline within) f depth rest =
    let inner = elements_of within ++ (closer_of kind end ∷ []) in
    ap (deepest_from depth) (append_assoc (elements_of before) (opener_of kind first newline ∷ inner) rest)
    ∙ deepest_append before f.0 depth (opener_of kind first newline ∷ (inner ++ rest))
    ∙ rw (
      opener_opens depth kind first newline,
      append_assoc (elements_of within) (closer_of kind end ∷ []) rest,
      deepest_append within f.3 (depth + 1) (closer_of kind end ∷ rest),
      closer_shuts (depth + 1) kind end,
    )
    (let back : depth + 1 - 1 ≡ depth = omega arith in
    rw back (largest depth (deepest before) (deepest within) (deepest_from depth rest) (at_least depth rest)))

pub deepest_elements : (trees : Trees) → Formed trees → deepest_from 0 (elements_of trees) ≡ deepest trees
deepest_elements trees f =
    ap (deepest_from 0) (sym (append-nil (elements_of trees))) ∙ deepest_append trees f 0 [] ∙ omega arith
