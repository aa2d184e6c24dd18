-- The elements of levels so far, closers included: a step adds its element to them.
use mathlib.Core.Path.{◌≡◌, refl, sym, ap, ◌∙◌}
use mathlib.Core.List.{List, [], ◌∷◌, ◌++◌, append_assoc}
use mathlib.Core.Bool.{Bool, true, false, cond, ◌&&◌, ◌||◌}
use Prim.Native.Nat.{ℕ, ◌+◌, ◌-◌, ◌≤◌}
use native.Mathlib.Omega.{arith}
use borrow.Author.Tests.{eqb-true, ne_eqb, lt-leb}
use lib.Dec.{eqb, ltb, leb}
use Rattle.text.specs.Runs
use Rattle.signs.specs.Signs.{longest_sign, longest_of}
use Rattle.elements.specs.Elements.{delimiter, delimiter_kind, sign_kind, paren_opener, paren_closer, brace_opener, brace_closer, bracket_opener, bracket_closer}
use Rattle.elements.specs.declared.Element.{Element}
use Rattle.elements.proofs.Choices.{cond_both, cond_known}
use Rattle.rule.specs.Trees.{Trees, leaf, group, paren_kind, object_kind, block_kind, bracket_kind, before_kind, after_kind, answer_kind}
use Rattle.rule.specs.Rule.{opens_pattern, unanswered, backwards, increment_sign, decrement_sign, colon_sign, settled_kind}
use Rattle.rule.specs.Levels.{Levels, whole_text, inside, is_expression, kind_of, trees_of, brace_opens, settled_in, depth, count_so_far, on_top}
use Rattle.prefix.specs.Reading.{Limits, Step, stop, more, add_leaf, open_group, closes, close_group, delimit, step}
use Rattle.derivations.specs.Cuts.{recorded}
use Rattle.derivations.specs.TreeElements.{opener_of, closer_of, unsettled_kind, unsettled, elements_of}

abbrev pub elements_so_far : Levels → List Element
elements_so_far (whole_text trees) = elements_of trees
elements_so_far (inside around kind first newline trees) = elements_so_far around ++ (opener_of kind first newline ∷ elements_of trees)

-- trees more on the innermost level
pub so_far_on_top : (add : Trees → Trees) (es : List Element) → ((trees : Trees) → elements_of (add trees) ≡ elements_of trees ++ es)
    → (levels : Levels) → elements_so_far (on_top add levels) ≡ elements_so_far levels ++ es
so_far_on_top add es h (whole_text trees) = h trees
so_far_on_top add es h (inside around kind first newline trees) =
    rw (h trees) (sym (append_assoc (elements_so_far around) (opener_of kind first newline ∷ elements_of trees) es))

-- a step that goes on has added the element, with its newline flag
abbrev Adds : Element → Levels → Step → Type 0
Adds e levels (stop n p) = Unit {0}
Adds e levels (more after) = elements_so_far after ≡ elements_so_far levels ++ (recorded e ∷ [])

module _ (levels : Levels) (e : Element) where
  -- what the rule settles of an element is no part of it: a found one's kind is at most that of signs
  unsettled-kind : e.kind ≤ sign_kind → unsettled_kind (settled_kind (is_expression (kind_of levels)) (backwards (trees_of levels)) e) ≡ e.kind
  unfolding settled_kind
  unsettled-kind small =
      go (eqb e.kind sign_kind) refl (eqb e.which increment_sign || eqb e.which decrement_sign)
      (eqb e.which colon_sign && ltb 0 (unanswered (backwards (trees_of levels)))) (opens_pattern (is_expression (kind_of levels)) (backwards (trees_of levels)) || e.newline)
    where
      go : (k : Bool) → eqb e.kind sign_kind ≡ k → (u c b : Bool)
          → unsettled_kind (cond k (cond u (cond b before_kind after_kind) (cond c answer_kind sign_kind)) e.kind) ≡ e.kind
      go true k true c true = sym (eqb-true e.kind sign_kind k)
      go true k true c false = sym (eqb-true e.kind sign_kind k)
      go true k false true b = sym (eqb-true e.kind sign_kind k)
      go true k false false b = sym (eqb-true e.kind sign_kind k)
      go false k u c b = rw (lt-leb before_kind e.kind (omega arith))

  pub unsettled_again : e.kind ≤ sign_kind → unsettled (settled_in levels e) ≡ e
  unsettled_again small = rw (unsettled-kind small)

module _ (limits : Limits) (levels : Levels) (e : Element) where
  leaf_adds : e.kind ≤ sign_kind → eqb e.kind delimiter_kind ≡ false → Adds e levels (add_leaf limits levels e)
  unfolding elements_of
  leaf_adds small k =
      cond_both (Adds e levels) (leb limits.room (count_so_far levels)) tt
      (so_far_on_top (λ before. leaf before (settled_in levels e)) (e ∷ [])
      (λ trees. ap (λ (x : Element). elements_of trees ++ (x ∷ [])) (unsettled_again levels e small)) levels ∙ rw k)

  open_adds : (kind : ℕ) → opener_of kind e.first e.newline ≡ recorded e → Adds e levels (open_group limits levels kind e)
  unfolding elements_of
  open_adds kind same =
      cond_both (Adds e levels) (leb limits.groups (depth levels)) tt
      (cond_both (Adds e levels) (leb limits.room (count_so_far levels)) tt (ap (λ (x : Element). elements_so_far levels ++ (x ∷ [])) same))

-- the opener or the closer that a delimiter is
module _ (e : Element) (k : e.kind ≡ delimiter_kind) (single : e.end ≡ e.first + 1) where
  opens : (kind which : ℕ) → e.which ≡ which → (opener_of kind e.first e.newline).which ≡ which → (eqb which paren_closer || eqb which brace_closer || eqb which bracket_closer) ≡ false
      → opener_of kind e.first e.newline ≡ recorded e
  opens kind which w o c = rw (k, w, single, o, c)

  shuts : (kind which : ℕ) → e.which ≡ which → (closer_of kind e.end).which ≡ which → (eqb which paren_closer || eqb which brace_closer || eqb which bracket_closer) ≡ true
      → closer_of kind e.end ≡ recorded e
  shuts kind which w o c =
      let first : e.end - 1 ≡ e.first = omega arith in
      rw (k, w, first, o, c)

-- a brace's kind is none but an object's and a block's
brace_kind : (kind x : ℕ) → (x ≡ object_kind → ⊥) → (x ≡ block_kind → ⊥) → (eqb kind object_kind || eqb kind block_kind) ≡ true → eqb kind x ≡ false
brace_kind kind x no_object no_block c = go (eqb kind object_kind) refl c
  where
    go : (b : Bool) → eqb kind object_kind ≡ b → (b || eqb kind block_kind) ≡ true → eqb kind x ≡ false
    go true e c =
        let h = eqb-true kind object_kind e in
        ne_eqb kind x (λ p. no_object (sym p ∙ h))
    go false e c =
        let h = eqb-true kind block_kind c in
        ne_eqb kind x (λ p. no_block (sym p ∙ h))

-- one of six that is none of five is the sixth
sixth : (a b c d g h : Bool) → (a || b || c || d || g || h) ≡ true → a ≡ false → c ≡ false → d ≡ false → g ≡ false → h ≡ false → b ≡ true
sixth a true c d g h some u v w x y = refl
sixth a false c d g h some u v w x y = rw (u, v, w, x, y) at some

module _ (limits : Limits) (e : Element) (k : e.kind ≡ delimiter_kind) (single : e.end ≡ e.first + 1) (known : delimiter e.which ≡ true) where
  close_adds : (levels : Levels) → eqb e.which paren_opener ≡ false → eqb e.which brace_opener ≡ false → eqb e.which bracket_opener ≡ false → Adds e levels (close_group levels e)
  unfolding elements_of delimiter longest_sign longest_of Runs.same
  close_adds (whole_text trees) p b g = tt
  close_adds (inside around kind first newline trees) p b g =
      let levels = inside around kind first newline trees in
      cond_known (Adds e levels) (closes e.which kind) (λ c. added (shut (eqb e.which paren_closer) (eqb e.which bracket_closer) refl refl c)) (λ c. tt)
    where
      added : closer_of kind e.end ≡ recorded e
          → elements_so_far (on_top (λ before. group before kind first e.end newline trees) around)
          ≡ (elements_so_far around ++ (opener_of kind first newline ∷ elements_of trees)) ++ (recorded e ∷ [])
      added same =
          so_far_on_top (λ before. group before kind first e.end newline trees)
          (opener_of kind first newline ∷ (elements_of trees ++ (closer_of kind e.end ∷ []))) (λ t. refl) around
          ∙ rw (same, append_assoc (elements_so_far around) (opener_of kind first newline ∷ elements_of trees) (recorded e ∷ []))

      shut : (q h : Bool) → eqb e.which paren_closer ≡ q → eqb e.which bracket_closer ≡ h
          → cond q (eqb kind paren_kind) (cond h (eqb kind bracket_kind) (eqb kind object_kind || eqb kind block_kind)) ≡ true → closer_of kind e.end ≡ recorded e
      shut true h q s c = shuts e k single kind 4 (eqb-true e.which 4 q) (rw c) refl
      shut false true q s c = shuts e k single kind 6 (eqb-true e.which 6 s) (rw (eqb-true kind bracket_kind c)) refl
      shut false false q s c =
          let brace = sixth (eqb e.which brace_opener) (eqb e.which brace_closer) (eqb e.which paren_opener) (eqb e.which paren_closer)
          (eqb e.which bracket_opener) (eqb e.which bracket_closer) known b p q g s in
          shuts e k single kind 2 (eqb-true e.which 2 brace)
          (rw (brace_kind kind paren_kind (λ z. omega arith) (λ z. omega arith) c, brace_kind kind bracket_kind (λ z. omega arith) (λ z. omega arith) c)) refl

  parens_adds : (levels : Levels) → eqb e.which paren_opener ≡ true → Adds e levels (open_group limits levels paren_kind e)
  unfolding longest_sign longest_of Runs.same
  parens_adds levels w = open_adds limits levels e paren_kind (opens e k single paren_kind 3 (eqb-true e.which 3 w) refl refl)

  brackets_add : (levels : Levels) → eqb e.which bracket_opener ≡ true → Adds e levels (open_group limits levels bracket_kind e)
  unfolding longest_sign longest_of Runs.same
  brackets_add levels w = open_adds limits levels e bracket_kind (opens e k single bracket_kind 5 (eqb-true e.which 5 w) refl refl)

  brace_adds : (levels : Levels) (b : Bool) → eqb e.which brace_opener ≡ true → Adds e levels (open_group limits levels (cond b object_kind block_kind) e)
  unfolding longest_sign longest_of Runs.same
  brace_adds levels true w = open_adds limits levels e object_kind (opens e k single object_kind 1 (eqb-true e.which 1 w) refl refl)
  brace_adds levels false w = open_adds limits levels e block_kind (opens e k single block_kind 1 (eqb-true e.which 1 w) refl refl)

module _ (limits : Limits) (levels : Levels) (e : Element) (small : e.kind ≤ sign_kind) (single : e.kind ≡ delimiter_kind → e.end ≡ e.first + 1)
    (known : e.kind ≡ delimiter_kind → delimiter e.which ≡ true) where
  step_adds : Adds e levels (step limits levels e)
  unfolding step
  step_adds = go (eqb e.kind delimiter_kind) refl
    where
      bracket : (k : e.kind ≡ delimiter_kind) → eqb e.which paren_opener ≡ false → eqb e.which brace_opener ≡ false
          → Adds e levels (cond (eqb e.which bracket_opener) (open_group limits levels bracket_kind e) (close_group levels e))
      bracket k p b =
          cond_known (Adds e levels) (eqb e.which bracket_opener) (brackets_add limits e k (single k) (known k) levels)
          (close_adds limits e k (single k) (known k) levels p b)

      brace : (k : e.kind ≡ delimiter_kind) → eqb e.which paren_opener ≡ false
          → Adds e levels (cond (eqb e.which brace_opener) (open_group limits levels (cond (brace_opens levels e.newline) object_kind block_kind) e)
          (cond (eqb e.which bracket_opener) (open_group limits levels bracket_kind e) (close_group levels e)))
      brace k p =
          cond_known (Adds e levels) (eqb e.which brace_opener) (brace_adds limits e k (single k) (known k) levels (brace_opens levels e.newline))
          (bracket k p)

      go : (d : Bool) → eqb e.kind delimiter_kind ≡ d → Adds e levels (cond d (delimit limits levels e) (add_leaf limits levels e))
      go true d =
          let k = eqb-true e.kind delimiter_kind d in
          cond_known (Adds e levels) (eqb e.which paren_opener) (parens_adds limits e k (single k) (known k) levels) (brace k)
      go false d = leaf_adds limits levels e small d

  pub step_elements : (after : Levels) → step limits levels e ≡ more after → elements_so_far after ≡ elements_so_far levels ++ (recorded e ∷ [])
  step_elements after s = rw s at step_adds
