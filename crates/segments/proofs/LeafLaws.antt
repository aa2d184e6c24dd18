-- The kind of an operand's record tells its class.
use Prim.Native.Nat.{ℕ, ◌-◌, ◌≤◌}
use mathlib.Core.Path.{◌≡◌, refl, ◌∙◌, sym}
use mathlib.Core.Bool.{Bool, true, false}
use mathlib.Core.List.{List}
use borrow.Author.Tests.{eqb-true, leb-true}
use lib.Dec.{eqb, leb}
use lib.ListN.{get_or}
use Rattle.elements.specs.Elements.{word_kind, sign_kind}
use Rattle.rule.specs.Trees.{before_kind, after_kind}
use Rattle.machine.specs.Tokens.{pattern}
use Rattle.segments.specs.Machinery.Segments.{kind_at, place_at, end_at, kind_by, class_by, class_at, leaf_at}

-- the kinds of words and signs tell no class
by_kind : (kind len b last : ℕ) → (kind_by kind ≡ 0 → ⊥) → class_by kind len b last ≡ kind_by kind
unfolding class_by kind_by
by_kind kind len b last some = go (eqb kind sign_kind) (eqb kind before_kind) (eqb kind after_kind) (eqb kind word_kind) refl refl refl refl
  where
    go : (s u v w : Bool) → eqb kind sign_kind ≡ s → eqb kind before_kind ≡ u → eqb kind after_kind ≡ v → eqb kind word_kind ≡ w → class_by kind len b last ≡ kind_by kind
    go true u v w e f g h = absurd (some (rw (eqb-true kind sign_kind e) refl))
    go false true v w e f g h = absurd (some (rw (eqb-true kind before_kind f) refl))
    go false false true w e f g h = absurd (some (rw (eqb-true kind after_kind g) refl))
    go false false false true e f g h = absurd (some (rw (eqb-true kind word_kind h) refl))
    go false false false false e f g h = rw (e, f, g, h) refl

told : (text cells : List ℕ) (i : ℕ) → (kind_by (kind_at cells i) ≡ 0 → ⊥) → class_at text cells i ≡ kind_by (kind_at cells i)
unfolding class_at
told text cells i some =
    by_kind (kind_at cells i) (end_at cells i - place_at cells 0 i) (get_or text (place_at cells 0 i) 0) (get_or text (end_at cells i - 1) 0) some

pub leaf_told : (cells : List ℕ) (i : ℕ) → (leaf_at cells i ≡ 0 → ⊥) → (leaf_at cells i ≤ 4) × ((text : List ℕ) → class_at text cells i ≡ leaf_at cells i)
unfolding leaf_at
leaf_told cells i some = go (leb (kind_by (kind_at cells i)) pattern) refl
  where
    go : (b : Bool) → leb (kind_by (kind_at cells i)) pattern ≡ b → (leaf_at cells i ≤ 4) × ((text : List ℕ) → class_at text cells i ≡ leaf_at cells i)
    go true e =
        let same : leaf_at cells i ≡ kind_by (kind_at cells i) = rw e refl in
        (rw same (leb-true (kind_by (kind_at cells i)) pattern e), λ text. told text cells i (λ none. some (same ∙ none)) ∙ sym same)
    go false e = absurd (some (rw e refl))
