-- The step of a reading by the kind of its element.
use mathlib.Core.Path.{◌≡◌}
use mathlib.Core.Bool.{true, false}
use borrow.Author.Tests.{eq-eqb, ne_eqb}
use Rattle.text.specs.Runs.{same}
use Rattle.signs.specs.Signs.{longest_sign, longest_of}
use Rattle.elements.specs.declared.Element.{Element}
use Rattle.rule.specs.Trees.{paren_kind, object_kind, block_kind, bracket_kind}
use Rattle.rule.specs.Levels.{Levels, brace_opens}
use Rattle.prefix.specs.Reading.{Limits, add_leaf, open_group, close_group, delimit, step}

module _ (limits : Limits) (levels : Levels) (e : Element) where
  pub step_leaf : (e.kind ≡ 0 → ⊥) → step limits levels e ≡ add_leaf limits levels e
  unfolding step
  step_leaf k = rw (ne_eqb e.kind 0 k)

  pub step_delimiter : e.kind ≡ 0 → step limits levels e ≡ delimit limits levels e
  unfolding step
  step_delimiter k = rw (eq-eqb e.kind 0 k)

  pub delimit_parens : e.which ≡ 3 → delimit limits levels e ≡ open_group limits levels paren_kind e
  unfolding longest_sign longest_of same
  delimit_parens w = rw (eq-eqb e.which 3 w)

  module _ (n : e.which ≡ 3 → ⊥) where
    pub delimit_object : e.which ≡ 1 → brace_opens levels e.newline ≡ true → delimit limits levels e ≡ open_group limits levels object_kind e
    unfolding longest_sign longest_of same
    delimit_object w b = rw (ne_eqb e.which 3 n, eq-eqb e.which 1 w, b)

    pub delimit_block : e.which ≡ 1 → brace_opens levels e.newline ≡ false → delimit limits levels e ≡ open_group limits levels block_kind e
    unfolding longest_sign longest_of same
    delimit_block w b = rw (ne_eqb e.which 3 n, eq-eqb e.which 1 w, b)

    module _ (m : e.which ≡ 1 → ⊥) where
      pub delimit_brackets : e.which ≡ 5 → delimit limits levels e ≡ open_group limits levels bracket_kind e
      unfolding longest_sign longest_of same
      delimit_brackets w = rw (ne_eqb e.which 3 n, ne_eqb e.which 1 m, eq-eqb e.which 5 w)

      pub delimit_close : (e.which ≡ 5 → ⊥) → delimit limits levels e ≡ close_group levels e
      unfolding longest_sign longest_of same
      delimit_close o = rw (ne_eqb e.which 3 n, ne_eqb e.which 1 m, ne_eqb e.which 5 o)
