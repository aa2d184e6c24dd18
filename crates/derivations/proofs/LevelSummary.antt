-- The summary of the innermost level: what it answers, and what a tree more makes of it.
use mathlib.Core.Path.{◌≡◌, refl}
use mathlib.Core.Bool.{Bool, true, false, cond}
use Prim.Native.Nat.{ℕ}
use Rattle.elements.specs.declared.Element.{Element}
use lib.Dec.{eqb}
use Rattle.rule.specs.Trees.{Trees, leaf, group, paren_kind, object_kind, bracket_kind}
use Rattle.rule.specs.Rule.{Class, element_class, group_class, backwards, leaving, unanswered}
use Rattle.derivations.proofs.Classes.{questions_of}
use Rattle.rule.specs.Levels.{Levels, whole_text, inside, is_expression, kind_of, trees_of, slash_opens, word_is_name, brace_opens, on_top}
use Rattle.rule.specs.Machinery.Summary.{Summary, brace_by, slash_by, name_by, add, summary}
use Rattle.rule.proofs.SummaryLaws.{brace_right, slash_right, name_right}

unfoldable pub summary_of : Levels → Summary
summary_of levels = summary (is_expression (kind_of levels)) (backwards (trees_of levels))

-- the summary after a tree of a class
abbrev pub summary_with : Levels → Class → Bool → Summary
summary_with levels class newline = add (is_expression (kind_of levels)) (summary_of levels) class newline

pub slash_summary : (levels : Levels) → slash_by (summary_of levels) ≡ slash_opens levels
unfolding summary_of
slash_summary levels = slash_right (is_expression (kind_of levels)) (backwards (trees_of levels))

pub name_summary : (levels : Levels) → name_by (eqb (kind_of levels) object_kind) (summary_of levels) ≡ word_is_name levels
unfolding summary_of
name_summary levels = name_right (is_expression (kind_of levels)) (eqb (kind_of levels) object_kind) (backwards (trees_of levels))

pub brace_summary : (levels : Levels) (newline : Bool) → brace_by (is_expression (kind_of levels)) (summary_of levels) newline ≡ brace_opens levels newline
unfolding summary_of
brace_summary levels newline = brace_right (is_expression (kind_of levels)) (backwards (trees_of levels)) newline

pub kind_on_top : (more : Trees → Trees) (levels : Levels) → kind_of (on_top more levels) ≡ kind_of levels
kind_on_top more (whole_text trees) = refl
kind_on_top more (inside around kind first newline trees) = refl

pub summary_leaf : (levels : Levels) (e : Element) → summary_of (on_top (λ before. leaf before e) levels) ≡ summary_with levels (element_class e) e.newline
unfolding summary_of summary backwards
summary_leaf (whole_text trees) e = refl
summary_leaf (inside around kind first newline trees) e = refl

pub summary_group : (levels : Levels) (kind first end : ℕ) (newline : Bool) (within : Trees)
    → summary_of (on_top (λ before. group before kind first end newline within) levels) ≡ summary_with levels (group_class kind) newline
unfolding summary_of summary backwards
summary_group (whole_text trees) kind first end newline within = refl
summary_group (inside around k f l trees) kind first end newline within = refl

-- the unanswered `?`s after a tree more
pub questions_leaf : (levels : Levels) (e : Element) → questions_of (on_top (λ before. leaf before e) levels) ≡ leaving (element_class e) (questions_of levels)
unfolding questions_of unanswered backwards
questions_leaf (whole_text trees) e = refl
questions_leaf (inside around kind first newline trees) e = refl

pub questions_group : (levels : Levels) (kind first end : ℕ) (newline : Bool) (within : Trees)
    → questions_of (on_top (λ before. group before kind first end newline within) levels) ≡ questions_of levels
unfolding questions_of unanswered backwards group_class
questions_group levels kind first end newline within = at_level levels
  where
    same : (a b c : Bool) (n : ℕ) → leaving (cond a Class.parens (cond b Class.object (cond c Class.brackets Class.block))) n ≡ n
    same true b c n = refl
    same false true c n = refl
    same false false true n = refl
    same false false false n = refl

    at_level : (levels : Levels) → questions_of (on_top (λ before. group before kind first end newline within) levels) ≡ questions_of levels
    at_level (whole_text trees) = same (eqb kind paren_kind) (eqb kind object_kind) (eqb kind bracket_kind) (questions_of (whole_text trees))
    at_level (inside around k f l trees) = same (eqb kind paren_kind) (eqb kind object_kind) (eqb kind bracket_kind) (questions_of (inside around k f l trees))
