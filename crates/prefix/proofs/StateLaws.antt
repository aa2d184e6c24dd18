-- What is so of the levels that a state holds, at the start and with a leaf more.
use mathlib.Core.Path.{◌≡◌, refl, sym, ap, ◌∙◌}
use mathlib.Core.List.{List}
use mathlib.Core.Bool.{false}
use Prim.Native.Nat.{ℕ, ◌+◌, ◌*◌, ◌<◌}
use native.Mathlib.Omega.{arith}
use Rattle.elements.specs.Elements.{sign_kind}
use Rattle.elements.specs.declared.Element.{Element}
use Rattle.elements.specs.declared.Stated.{Stated}
use Rattle.rule.specs.Trees.{Trees, none, leaf, count}
use Rattle.rule.specs.Rule.{element_class, backwards, unanswered}
use Rattle.rule.specs.Levels.{Levels, whole_text, inside, kind_of, depth, count_so_far, on_top, stated_by, settled_in}
use Rattle.rule.specs.Machinery.Summary.{nothing, summary, code, kinds, one_question, level_code}
use Rattle.rule.specs.Machinery.LevelCodes.{stated_by_level, settled_by_level, level_after}
use Rattle.prefix.specs.Machinery.Represents.{Stack, Represents}
use Rattle.prefix.specs.declared.State.{State}
use Rattle.prefix.specs.declared.OpenGroup.{OpenGroup}
use Rattle.rule.proofs.LevelCodeLaws.{level_few, stated_right, settled_right, leaf_added_level}

-- a tree more on the innermost level
module _ (add : Trees → Trees) where
  pub depth_on_top : (levels : Levels) → depth (on_top add levels) ≡ depth levels
  depth_on_top (whole_text trees) = refl
  depth_on_top (inside around kind first newline trees) = refl

  pub count_on_top : (n : ℕ) → ((trees : Trees) → count (add trees) ≡ count trees + n) → (levels : Levels) → count_so_far (on_top add levels) ≡ count_so_far levels + n
  count_on_top n more (whole_text trees) = more trees
  count_on_top n more (inside around kind first newline trees) = omega (arith, more trees)

  pub stack_on_top : (tag : Levels → ℕ → ℕ) (stack : List OpenGroup) (levels : Levels) → Stack tag stack levels → Stack tag stack (on_top add levels)
  stack_on_top tag stack (whole_text trees) h = tt
  stack_on_top tag stack (inside around kind first newline trees) h = h

-- the kind of each open group fits the code of its level
pub kind_small : (tag : Levels → ℕ → ℕ) (stack : List OpenGroup) (levels : Levels) → Stack tag stack levels → kind_of levels < kinds
kind_small tag stack (whole_text trees) s = omega arith
kind_small tag stack (inside around kind first newline trees) s = s.0

pub represented_start : (tag : Levels → ℕ → ℕ) (stack : List OpenGroup) → Represents tag stack (record { level = record { code = code false nothing }; depth = 0; records = 0 }) (whole_text none)
unfolding level_code summary unanswered backwards count
represented_start tag stack = record { level_is = refl; depth_is = refl; records_is = refl; stacked = tt; fits = omega arith }

module _ (tag : Levels → ℕ → ℕ) (stack : List OpenGroup) (state : State) (levels : Levels) (h : Represents tag stack state levels) where
  pub represented_stated : (r : Stated) → r ≡ stated_by_level state.level.code → r ≡ stated_by levels
  represented_stated r e = e ∙ ap stated_by_level h.level_is ∙ stated_right levels

  -- there are at most as many unanswered `?`s as records
  pub represented_level : state.level.code < one_question * (state.records + 1)
  represented_level = omega (arith, h.level_is, h.records_is, level_few levels (kind_small tag stack levels h.stacked))

  pub represented_sign : (e : Element) → e.kind ≡ sign_kind → (kind : ℕ) → kind ≡ settled_by_level state.level.code e.newline e.which
      → record { kind = kind; which = e.which; first = e.first; end = e.end; newline = e.newline } ≡ settled_in levels e
  represented_sign e sign kind k =
      ap (λ (n : ℕ). record { kind = n; which = e.which; first = e.first; end = e.end; newline = e.newline })
      (k ∙ ap (λ (w : ℕ). settled_by_level w e.newline e.which) h.level_is ∙ settled_right levels (kind_small tag stack levels h.stacked) e sign)

  pub leaf_done : (e : Element) (level : ℕ) → level ≡ level_after state.level.code (element_class e) e.newline
      → Represents tag stack (record { level = record { code = level }; depth = state.depth; records = state.records + 1 }) (on_top (λ before. leaf before e) levels)
  unfolding count
  leaf_done e level w =
      let add : Trees → Trees = λ before. leaf before e in
      record {
        level_is = w ∙ ap (λ (x : ℕ). level_after x (element_class e) e.newline) h.level_is ∙ leaf_added_level levels (kind_small tag stack levels h.stacked) e;
        depth_is = h.depth_is ∙ sym (depth_on_top add levels);
        records_is = omega (arith, count_on_top add 1 (λ trees. refl) levels, h.records_is);
        stacked = stack_on_top add tag stack levels h.stacked;
        fits = h.fits;
      }
