-- The step of a reading, by the class of its element.
use mathlib.Core.Path.{◌≡◌}
use mathlib.Core.Bool.{Bool, true, false, ◌||◌}
use Prim.Native.Nat.{ℕ}
use borrow.Author.Tests.{eqb-true, ne_eqb}
use lib.Dec.{T, eqb}
use Rattle.text.specs.Runs.{same}
use Rattle.signs.specs.Signs.{longest_sign, longest_of}
use Rattle.elements.specs.declared.Element.{Element}
use Rattle.rule.specs.Trees.{Trees, group, paren_kind, object_kind, block_kind, bracket_kind}
use Rattle.rule.specs.Levels.{Levels, inside, brace_opens, on_top}
use Rattle.prefix.specs.Reading.{Limits, more, open_group, step}
use Rattle.derivations.specs.Cuts.{is_closer, recorded}
use Rattle.machine.specs.Machinery.Machine.{end_of_text}
use Rattle.agreement.proofs.TreeClasses.{no_leaf, holds, opens_group, opened_kind, closes_group, closes_kind}
use Rattle.derivations.proofs.Classes.{Told, told_leaf, told_open_paren, told_close_paren, told_open_brace, told_close_brace, told_open_bracket, told_close_bracket, told_nothing}

module _ (limits : Limits) (e : Element) where
  pub opener_step : (levels : Levels) {class : ℕ} → Told e class → T (opens_group class)
      → step limits levels e ≡ open_group limits levels (opened_kind (brace_opens levels e.newline) class) e
  unfolding step longest_sign longest_of same
  opener_step levels (told_leaf {class = class} n l c) t = absurd (no_leaf opens_group tt class l t)
  opener_step levels (told_open_paren k w) t = rw (step, k, w)
  opener_step levels (told_close_paren k w) t = absurd t
  opener_step levels (told_open_brace k w) t = rw (step, k, eqb-true e.which 1 w)
  opener_step levels (told_close_brace k w) t = absurd t
  opener_step levels (told_open_bracket k w) t = rw (step, k, eqb-true e.which 5 w)
  opener_step levels (told_close_bracket k w) t = absurd t
  opener_step levels told_nothing t = absurd t

  pub closer_step : (around : Levels) (kind first : ℕ) (newline : Bool) (trees : Trees) {class : ℕ} → Told e class → T (closes_group class) → T (closes_kind class kind)
      → step limits (inside around kind first newline trees) e ≡ more (on_top (λ before. group before kind first e.end newline trees) around)
  unfolding step longest_sign longest_of same
  closer_step around kind first newline trees (told_leaf {class = class} n l c) t u = absurd (no_leaf closes_group tt class l t)
  closer_step around kind first newline trees (told_open_paren k w) t u = absurd t
  closer_step around kind first newline trees (told_close_paren k w) t u = rw (step, k, eqb-true e.which 4 w, holds (eqb kind paren_kind) u)
  closer_step around kind first newline trees (told_open_brace k w) t u = absurd t
  closer_step around kind first newline trees (told_close_brace k w) t u = rw (step, k, eqb-true e.which 2 w, holds (eqb kind object_kind || eqb kind block_kind) u)
  closer_step around kind first newline trees (told_open_bracket k w) t u = absurd t
  closer_step around kind first newline trees (told_close_bracket k w) t u = rw (step, k, eqb-true e.which 6 w, holds (eqb kind bracket_kind) u)
  closer_step around kind first newline trees told_nothing t u = absurd t

-- closers, and only they, have no newline flag of their own
pub leaf_no_closer : (e : Element) → (e.kind ≡ 0 → ⊥) → is_closer e ≡ false
leaf_no_closer e n = rw (ne_eqb e.kind 0 n)

pub opener_no_closer : (e : Element) {class : ℕ} → Told e class → T (opens_group class) → is_closer e ≡ false
unfolding longest_sign longest_of same
opener_no_closer e (told_leaf {class = class} n l c) t = absurd (no_leaf opens_group tt class l t)
opener_no_closer e (told_open_paren k w) t = rw (k, eqb-true e.which 3 w)
opener_no_closer e (told_close_paren k w) t = absurd t
opener_no_closer e (told_open_brace k w) t = rw (k, eqb-true e.which 1 w)
opener_no_closer e (told_close_brace k w) t = absurd t
opener_no_closer e (told_open_bracket k w) t = rw (k, eqb-true e.which 5 w)
opener_no_closer e (told_close_bracket k w) t = absurd t
opener_no_closer e told_nothing t = absurd t

pub closer_closer : (e : Element) {class : ℕ} → Told e class → T (closes_group class) → is_closer e ≡ true
unfolding longest_sign longest_of same
closer_closer e (told_leaf {class = class} n l c) t = absurd (no_leaf closes_group tt class l t)
closer_closer e (told_open_paren k w) t = absurd t
closer_closer e (told_close_paren k w) t = rw (k, eqb-true e.which 4 w)
closer_closer e (told_open_brace k w) t = absurd t
closer_closer e (told_close_brace k w) t = rw (k, eqb-true e.which 2 w)
closer_closer e (told_open_bracket k w) t = absurd t
closer_closer e (told_close_bracket k w) t = rw (k, eqb-true e.which 6 w)
closer_closer e told_nothing t = absurd t

pub newline_kept : (e : Element) → is_closer e ≡ false → (recorded e).newline ≡ e.newline
newline_kept e q = rw q

-- no element stands for the text's end
pub no_end : {e : Element} {class : ℕ} → Told e class → T (eqb class end_of_text) → ⊥
no_end (told_leaf {class = class} n l c) t = no_leaf (λ class. eqb class end_of_text) tt class l t
no_end (told_open_paren k w) t = t
no_end (told_close_paren k w) t = t
no_end (told_open_brace k w) t = t
no_end (told_close_brace k w) t = t
no_end (told_open_bracket k w) t = t
no_end (told_close_bracket k w) t = t
no_end told_nothing t = t
