-- What a brace, `++`, `--` or `:` is, and what the kind of its record says of it.
use Rattle.std.specs.Prelude.{ℕ, cond, List, [], ◌∷◌, eqb}
use Rattle.rule.specs.Trees.{object_kind, block_kind, before_kind, after_kind, answer_kind}

-- by its first byte: an object or a block; before or after its operand; the answer to a `?`
pub data Sense : Type 0 where
  object_at block_at before_at after_at answer_at : ℕ → Sense

-- "8 object, 9 block"; document 02, U4: "kind 12 (after) .. else kind 11 (before)", "kind 13"
abbrev pub sense_of : ℕ → ℕ → List Sense
sense_of kind first =
    cond (eqb kind object_kind) (object_at first ∷ [])
    (cond (eqb kind block_kind) (block_at first ∷ [])
    (cond (eqb kind before_kind) (before_at first ∷ [])
    (cond (eqb kind after_kind) (after_at first ∷ [])
    (cond (eqb kind answer_kind) (answer_at first ∷ [])
    []))))
