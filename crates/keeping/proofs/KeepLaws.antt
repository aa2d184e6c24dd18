-- What keeping a leaf, an opener or a closer makes of what is kept: in the output where the text is spaced, else in the table.
use mathlib.Core.Path.{◌≡◌, refl, sym, ◌∙◌}
use mathlib.Core.Bool.{Bool, true, false, true≢false}
use mathlib.Core.List.{List, ◌++◌}
use Prim.Native.Nat.{ℕ, ◌+◌, ◌-◌, ◌*◌, ◌<◌, ◌≤◌}
use native.Mathlib.Omega.{arith}
use lib.ListN.{length, take, drop, set}
use Rattle.elements.specs.declared.Element.{Element}
use Rattle.rule.specs.Levels.{Levels}
use Rattle.prefix.specs.declared.OpenGroup.{OpenGroup}
use Rattle.prefix.specs.Machinery.Represents.{Represents}
use Rattle.prefix.specs.declared.State.{State}
use Rattle.tables.specs.Records.{tree_width, tree_record}
use Rattle.storing.proofs.StoreLaws.{store_leaf, store_opener, store_closer, closes_index}
use Rattle.spacing.specs.Respaced.{add_element, add_closer}
use Rattle.spacing.specs.Machinery.Over.{Puts}
use Rattle.spacing.proofs.WriteLaws.{write_leaf, write_opener, write_closer}
use Rattle.keeping.specs.Machinery.Keeping.{Lent, lent, tag_of, Keeps, MayTake, MayKeep, MayKeepEnd, with_leaf, with_opener, KeepsTree, KeepsEnd}

-- what is kept, either way
module _ (bytes : List ℕ) (was is : Lent) (room : ℕ) (state : State) (at place : ℕ) (levels : Levels) where
  pub keeps_represented : (spaced : Bool) → Keeps spaced bytes was is room state at place levels → Represents (tag_of spaced) is.stack state levels
  unfolding Keeps
  keeps_represented true h = h.represented
  keeps_represented false h = h.represented

  pub keeps_stack : (spaced : Bool) → Keeps spaced bytes was is room state at place levels → length is.stack ≡ 100
  unfolding Keeps
  keeps_stack true h = h.stack_is
  keeps_stack false h = h.stack_is

  pub tag_is : (spaced : Bool) (first tag : ℕ) → (spaced ≡ true → tag ≡ first) → (spaced ≡ false → tag ≡ state.records)
      → Keeps spaced bytes was is room state at place levels → tag ≡ tag_of spaced levels first
  unfolding Keeps
  tag_is true first tag opener index h = opener refl
  tag_is false first tag opener index h = index refl ∙ h.represented.records_is

-- where a text is spaced
module _ (bytes trees output trees' output' : List ℕ) (state : State) (at : ℕ) (e : Element) (to : ℕ) (some : e.first < e.end) (kept : length output' ≡ length output) where
  pub leaf_spaced : (spaced : Bool) → spaced ≡ true → to + e.first ≤ at + e.end + 1 → Puts (λ w. add_element bytes w e.first e.end e.newline) output output' at to
      → KeepsTree spaced bytes trees output trees' output' state at e (with_leaf e) to
  unfolding Keeps
  leaf_spaced true z few put =
      λ was stack after room place levels next near same keeps free represented.
      write_leaf bytes was.output output stack after state at place e output' to near some same kept keeps next represented few put
  leaf_spaced false z few put = absurd (true≢false (sym z))

  pub opener_spaced : (spaced : Bool) → spaced ≡ true → (kind : ℕ) → to + e.first ≤ at + (e.first + 1) + 1
      → Puts (λ w. add_element bytes w e.first (e.first + 1) e.newline) output output' at to
      → KeepsTree spaced bytes trees output trees' output' state at e (with_opener kind e) to
  unfolding Keeps
  opener_spaced true z kind few put =
      λ was stack after room place levels next near same keeps free represented.
      write_opener bytes was.output output stack after state at place e output' to near some same kept keeps kind next represented few put
  opener_spaced false z kind few put = absurd (true≢false (sym z))

  pub closer_spaced : (spaced : Bool) → spaced ≡ true → (opener : ℕ) → to + (e.end - 1) ≤ at + e.end + 1 → Puts (λ w. add_closer bytes w (e.end - 1) e.end) output output' at to
      → KeepsEnd spaced bytes trees output trees' output' state at opener e to
  unfolding Keeps
  closer_spaced true z opener few put =
      λ was stack after room place levels outer next near same keeps closes represented.
      write_closer bytes was.output output stack after state at place e output' to near some same kept closes keeps next represented few put
  closer_spaced false z opener few put = absurd (true≢false (sym z))

-- where it is read
module _ (bytes trees output trees' output' : List ℕ) (state : State) (at : ℕ) (e : Element) (to : ℕ) where
  pub leaf_stored : (spaced : Bool) → spaced ≡ false
      → trees' ≡ take (tree_width * state.records) trees ++ (tree_record e.kind e.first e.end 1 e.newline ++ drop (tree_width * state.records + tree_width) trees)
      → KeepsTree spaced bytes trees output trees' output' state at e (with_leaf e) to
  unfolding Keeps
  leaf_stored true z p = absurd (true≢false z)
  leaf_stored false z p =
      λ was stack after room place levels next near same keeps free represented.
      rw p (store_leaf was.trees trees stack room state levels keeps after same e next represented free)

  pub opener_stored : (spaced : Bool) → spaced ≡ false → (kind : ℕ)
      → trees' ≡ take (tree_width * state.records) trees ++ (tree_record kind e.first 0 0 e.newline ++ drop (tree_width * state.records + tree_width) trees)
      → KeepsTree spaced bytes trees output trees' output' state at e (with_opener kind e) to
  unfolding Keeps
  opener_stored true z kind p = absurd (true≢false z)
  opener_stored false z kind p =
      λ was stack after room place levels next near same keeps free represented.
      rw p (store_opener was.trees trees stack room state levels keeps after same e kind next represented free)

  pub closer_stored : (spaced : Bool) → spaced ≡ false → (opener : ℕ)
      → trees' ≡ set (set trees (tree_width * opener + 2) e.end) (tree_width * opener + 3) (state.records - opener)
      → KeepsEnd spaced bytes trees output trees' output' state at opener e to
  unfolding Keeps
  closer_stored true z opener p = absurd (true≢false z)
  closer_stored false z opener p =
      λ was stack after room place levels outer next near same keeps closes represented.
      rw p (store_closer was.trees trees stack after room state next e closes keeps same represented)

-- what keeping asks of the places and of the table
module _ (bytes trees output : List ℕ) (state : State) (at : ℕ) (e : Element) where
  pub spaced_few : (spaced : Bool) → spaced ≡ true → (stack : List OpenGroup) (room : ℕ) → MayTake spaced bytes (lent trees output stack) room state at e → at ≤ 2 * e.first
  unfolding Keeps
  spaced_few true z stack room may = let k = may.keeps in omega (arith, k.few, may.near)
  spaced_few false z stack room may = absurd (true≢false (sym z))

  pub stored_fits : (spaced : Bool) → spaced ≡ false → MayKeep spaced bytes trees output state at e → tree_width * state.records + tree_width ≤ length trees
  unfolding Keeps
  stored_fits true z add = absurd (true≢false z)
  stored_fits false z add = let h = add.may.keeps in omega (arith, h.room_fits, h.length_is, add.more_room)

  pub opener_before : (spaced : Bool) → spaced ≡ false → (opener : ℕ) → MayKeepEnd spaced bytes trees output state at opener e
      → (opener < state.records) × (tree_width * opener + tree_width ≤ length trees)
  unfolding Keeps
  opener_before true z opener c = absurd (true≢false z)
  opener_before false z opener c =
      let h = c.may.keeps in
      let i = closes_index c.closes in
      (omega (arith, h.represented.records_is), omega (arith, h.room_fits, h.length_is, h.some))

pub few_records : (spaced : Bool) (bytes : List ℕ) (is : Lent) (room : ℕ) (state : State) (at : ℕ) (e : Element) → MayTake spaced bytes is room state at e → spaced ≡ false
    → state.records ≤ room
unfolding Keeps
few_records true bytes is room state at e may z = absurd (true≢false z)
few_records false bytes is room state at e may z = let h = may.keeps in omega (arith, h.represented.records_is, h.some)
