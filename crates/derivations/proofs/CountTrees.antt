-- The tree records of a derivation, counted over its elements and over its tokens; and the program's own mark.
use mathlib.Core.Path.{◌≡◌, refl, ap, ◌∙◌}
use mathlib.Core.List.Memᴰ
use mathlib.Core.List.{List, [], ◌∷◌, ◌++◌}
use mathlib.Core.Bool.{Bool, true, false, cond}
use Prim.Native.Nat.{ℕ, ◌+◌}
use native.Mathlib.Omega.{arith}
use Rattle.elements.specs.declared.Element.{Element}
use Rattle.derivations.specs.Cuts.{is_closer}
use Rattle.derivations.specs.Tokens.{Token, token_of, tokens_from}
use Rattle.machine.specs.Syntax.{Syntax, nil, program_tree, marks_of, Distinct, distinct_none}
use Rattle.derivations.specs.Derivations.{count_trees}
use Rattle.recorded.proofs.Counts.{count_tree_tokens}
use Rattle.recorded.proofs.Ranges.{distinct_node}
use Rattle.recorded.proofs.OwnMarks.{OwnMarks}
use Rattle.derivations.proofs.TokenLaws.{closing_class}

pub count_tokens : (mark : ℕ) (es : List Element) → count_tree_tokens (tokens_from mark es) ≡ count_trees es
unfolding tokens_from
count_tokens mark [] = refl
count_tokens mark (e ∷ es) = rw (closing_class e) (ap (◌+◌ (cond (is_closer e) 0 1)) (count_tokens (cond (is_closer e) mark (mark + 1)) es))

-- the token of an element is marked by the number of tree records before it
pub token_at : (n : ℕ) (before : List Element) (e : Element) (after : List Element)
    → (rest : List Token) × (tokens_from n (before ++ (e ∷ after)) ≡ tokens_from n before ++ (token_of (n + count_trees before) e ∷ rest))
unfolding tokens_from
token_at n [] e after = let z : n + 0 ≡ n = omega arith in (tokens_from (cond (is_closer e) n (n + 1)) after, rw z)
token_at n (b ∷ before) e after =
    let m = cond (is_closer b) n (n + 1) in
    let r = token_at m before e after in (
      r.0,
      ap (◌∷◌ (token_of n b))
          (r.1 ∙ ap (λ (k : ℕ). tokens_from m before ++ (token_of k e ∷ r.0)) (counted (is_closer b) n (count_trees before))),
    )
  where
    counted : (closer : Bool) (n k : ℕ) → cond closer n (n + 1) + k ≡ n + (cond closer 0 1 + k)
    counted true n k = omega arith
    counted false n k = omega arith

-- the program's mark is behind all others
pub program_distinct : {total : ℕ} {all : List Token} {parts : Syntax} → OwnMarks total 0 all parts → Distinct (marks_of (program_tree total parts))
program_distinct {total} {parts = parts} own =
    distinct_node parts nil total own.apart distinct_none (λ m e f. Memᴰ.not-nil f) (λ e. omega (arith, own.within_all total e)) (λ e. Memᴰ.not-nil e)
