-- A text and its tables have one verdict: the cases of `Verdict` exclude each other, and 13 has one place.
use mathlib.Core.Path.{◌≡◌, refl, sym, ap, subst, ◌∙◌}
use mathlib.Core.List.{List, [], ◌∷◌, ◌++◌, append_assoc}
use Prim.Native.Nat.{ℕ}
use native.Mathlib.Omega.{arith}
use Rattle.elements.specs.declared.Element.{Element}
use Rattle.rule.specs.Trees.{Trees}
use Rattle.prefix.specs.Reading.{Reading, accepted, refused}
use Rattle.machine.specs.Syntax.{size}
use Rattle.derivations.specs.Derivations.{Derivation, syntax_tree, BeginsProgram}
use Rattle.derivations.specs.TreeElements.{elements_of}
use Rattle.derivations.proofs.Theorems.{any_two_derivations, begins_shorter}
use Rattle.parsing.specs.Parse.{Parsing}
use Rattle.parsing.specs.Verdict.{Refuses, at_element, at_end, Verdict, as_read, no-program, syntax-full, accepts}

-- two ways to split a list at an element: at the same one, or the front of one goes on past the other's
data Compared (firsts others : List Element) (e f : Element) : Type 0 where
  same : e ≡ f → Compared firsts others e f
  shorter : (more : List Element) → others ≡ firsts ++ (e ∷ more) → Compared firsts others e f
  longer : (more : List Element) → firsts ≡ others ++ (f ∷ more) → Compared firsts others e f

compare : (firsts others : List Element) (e f : Element) (rest back : List Element) → firsts ++ (e ∷ rest) ≡ others ++ (f ∷ back) → Compared firsts others e f
compare [] [] e f rest back q = same (cc)
compare [] (x ∷ others) e f rest back q = shorter others (let z : x ≡ e = cc in ap (λ (y : Element). y ∷ others) z)
compare (x ∷ firsts) [] e f rest back q = longer firsts (let z : x ≡ f = cc in ap (λ (y : Element). y ∷ firsts) z)
compare (x ∷ firsts) (y ∷ others) e f rest back q = go (compare firsts others e f rest back (cc))
  where
    z : x ≡ y
    z = cc

    go : Compared firsts others e f → Compared (x ∷ firsts) (y ∷ others) e f
    go (same s) = same s
    go (shorter more s) = shorter more (cc)
    go (longer more s) = longer more (cc)

-- what is refused in reading is not accepted
read_clash : {r : Reading} {number place : ℕ} {trees : Trees} → r ≡ refused number place → r ≡ accepted trees → ⊥
read_clash a b = let z : ◌≡◌ {A = ℕ} 0 1 = cc in omega arith

module _ (text : List ℕ) where
  -- elements that begin a program begin one up to each of them
  begins_up_to : (all firsts : List Element) (e : Element) (rest : List Element) → all ≡ firsts ++ (e ∷ rest) → BeginsProgram text all
      → BeginsProgram text (firsts ++ (e ∷ []))
  begins_up_to all firsts e rest split b =
      begins_shorter text (firsts ++ (e ∷ [])) rest (subst (BeginsProgram text) (split ∙ sym (append_assoc firsts (e ∷ []) rest)) b)

  -- 13 has one place
  pub one_place : {es : List Element} {p q : ℕ} → Refuses text es p → Refuses text es q → p ≡ q
  one_place (at_element firsts e rest split b not) (at_element others f back other c also) =
      go (compare firsts others e f rest back (sym split ∙ other))
    where
      go : Compared firsts others e f → e.first ≡ f.first
      go (same s) = ap (λ (x : Element). x.first) s
      go (shorter more s) = absurd (not (begins_up_to others firsts e more s c))
      go (longer more s) = absurd (also (begins_up_to firsts others f more s b))
  one_place {es} (at_element firsts e rest split b not) (at_end c) = absurd (not (begins_up_to es firsts e rest split c))
  one_place {es} (at_end b) (at_element firsts e rest split c not) = absurd (not (begins_up_to es firsts e rest split b))
  one_place (at_end b) (at_end c) = refl

  -- two derivations have syntax trees of one size
  same_size : (d f : Derivation text) → size (syntax_tree d) ≡ size (syntax_tree f)
  same_size d f = ap size (any_two_derivations text d f).same_syntax

  module _ {tree_cells syntaxCells : ℕ} where
    pub one_verdict : {p q : Parsing} → Verdict text tree_cells syntaxCells p → Verdict text tree_cells syntaxCells q → p ≡ q
    one_verdict (as_read r) (as_read s) = cc
    one_verdict (as_read r) (no-program n) = absurd (read_clash r n.reads)
    one_verdict (as_read r) (syntax-full n) = absurd (read_clash r n.reads)
    one_verdict (as_read r) (accepts n) = absurd (read_clash r n.reads)
    one_verdict (no-program n) (as_read s) = absurd (read_clash s n.reads)
    one_verdict (no-program {place = place} n) (no-program {place = other} m) =
        let a = n.reads in
        let b = m.reads in
        let t : m.trees ≡ n.trees = cc in
        let p : place ≡ other = one_place n.first (subst (λ (trees : Trees). Refuses text (elements_of trees) other) t m.first) in
        cc
    one_verdict (no-program n) (syntax-full m) = absurd (n.none m.derivation)
    one_verdict (no-program n) (accepts m) = absurd (n.none m.derivation)
    one_verdict (syntax-full n) (as_read s) = absurd (read_clash s n.reads)
    one_verdict (syntax-full n) (no-program m) = absurd (m.none n.derivation)
    one_verdict (syntax-full n) (syntax-full m) = refl
    one_verdict (syntax-full n) (accepts m) = absurd (omega (arith, n.more, m.tables.parts_fit, same_size n.derivation m.derivation))
    one_verdict (accepts n) (as_read s) = absurd (read_clash s n.reads)
    one_verdict (accepts n) (no-program m) = absurd (m.none n.derivation)
    one_verdict (accepts n) (syntax-full m) = absurd (omega (arith, m.more, n.tables.parts_fit, same_size n.derivation m.derivation))
    one_verdict (accepts {trees = t} {syntax = v} n) (accepts {trees = u} {syntax = w} m) =
        let a = n.reads in
        let b = m.reads in
        let x : t ≡ u = cc in
        let y : v ≡ w = n.same_syntax ∙ (any_two_derivations text n.derivation m.derivation).same_syntax ∙ sym m.same_syntax in
        cc
