-- What a leaf, an opener and a closer make of the table.
use mathlib.Core.Path.{◌≡◌, refl, ◌∙◌}
use mathlib.Core.List.{List, ◌++◌}
use mathlib.Core.Bool.{Bool}
use Prim.Native.Nat.{ℕ, ◌+◌, ◌-◌, ◌*◌, ◌<◌}
use native.Mathlib.Omega.{arith}
use lib.ListN.{length, take, drop, set, length-set}
use Rattle.elements.specs.declared.Element.{Element}
use Rattle.rule.specs.Trees.{Trees, none, leaf, group, count}
use Rattle.rule.specs.Levels.{Levels, inside, count_so_far, on_top}
use Rattle.prefix.specs.Machinery.Represents.{Represents, Closes, closed}
use Rattle.prefix.specs.declared.State.{State}
use Rattle.prefix.specs.declared.OpenGroup.{OpenGroup}
use Rattle.prefix.proofs.StateLaws.{count_on_top}
use Rattle.tables.specs.Records.{tree_width, tree_record}
use Rattle.storing.specs.Records.{records}
use Rattle.storing.specs.Machinery.Table.{cells, record_index, Holds}
use Rattle.storing.proofs.CellLaws.{cells_length, cells_on_top, put_cells, put_length, finish_cells}

-- the group that a closer ends has its record among those so far
pub closes_index : {m : ℕ} {e : Element} {levels outer : Levels} → Closes record_index e m levels outer → m < count_so_far levels
closes_index (closed q) = omega (arith, q)

-- the end of a group is written into its record
module _ (before now : List ℕ) (stack after : List OpenGroup) (room : ℕ) (state s : State) (e : Element) where
  pub store_closer : {m : ℕ} {levels outer : Levels} → Closes record_index e m levels outer → Holds before now stack room state levels → length after ≡ length stack
      → Represents record_index after s outer
      → Holds before (set (set now (tree_width * m + 2) e.end) (tree_width * m + 3) (state.records - m)) after room s outer
  unfolding records count
  store_closer {m} (closed {around = around} {kind = kind} {first = first} {newline = newline} {trees = trees} q) h same represented =
      let add : Trees → Trees = λ t. group t kind first e.end newline trees in
      let n : count_so_far (on_top add around) ≡ count_so_far around + (count trees + 1) = count_on_top add (count trees + 1) (λ t. refl) around in
      let w : state.records - count_so_far around ≡ count trees + 1 = omega (arith, h.represented.records_is) in
      record {
        represented = represented;
        cells_are =
            rw (q, h.cells_are, w, n, cells_on_top add (tree_record kind first e.end (count trees + 1) newline ++ records trees) (λ t. refl) around)
            (finish_cells (cells around) (records trees) (drop (5 * (count_so_far around + (count trees + 1))) before) (count_so_far around) kind first e.end (count trees + 1) newline (cells_length around));
        some = omega (arith, n, h.some);
        room_fits = h.room_fits;
        room_small = h.room_small;
        length_is = simp length-set h.length_is;
        stack_is = same ∙ h.stack_is;
      }

-- the record of a leaf, or of a group that opens, is written behind the records so far
module _ (before now : List ℕ) (stack : List OpenGroup) (room : ℕ) (state : State) (levels : Levels) (h : Holds before now stack room state levels) where
  written : (kind first end m : ℕ) (newline : Bool) (next : Levels)
      → cells next ≡ cells levels ++ tree_record kind first end m newline → count_so_far next ≡ count_so_far levels + 1
      → take (tree_width * state.records) now ++ (tree_record kind first end m newline ++ drop (tree_width * state.records + tree_width) now)
      ≡ cells next ++ drop (tree_width * count_so_far next) before
  written kind first end m newline next c n =
      rw (h.represented.records_is, h.cells_are, c, n) (put_cells (cells levels) before (count_so_far levels) kind first end m newline (cells_length levels))

  module _ (after : List OpenGroup) (same : length after ≡ length stack) (e : Element) where
    store_put : (kind end m : ℕ) (s : State) (next : Levels) → Represents record_index after s next → count_so_far levels < room
        → cells next ≡ cells levels ++ tree_record kind e.first end m e.newline → count_so_far next ≡ count_so_far levels + 1
        → Holds before (take (tree_width * state.records) now ++ (tree_record kind e.first end m e.newline ++ drop (tree_width * state.records + tree_width) now)) after room s next
    store_put kind end m s next represented some c n =
        record {
          represented = represented;
          cells_are = written kind e.first end m e.newline next c n;
          some = omega arith;
          room_fits = h.room_fits;
          room_small = h.room_small;
          length_is = put_length now (5 * state.records) kind e.first end m e.newline (omega (arith, h.represented.records_is, h.room_fits, h.length_is)) ∙ h.length_is;
          stack_is = same ∙ h.stack_is;
        }

    pub store_leaf : (s : State) → Represents record_index after s (on_top (λ t. leaf t e) levels) → count_so_far levels < room
        → Holds before (take (tree_width * state.records) now ++ (tree_record e.kind e.first e.end 1 e.newline ++ drop (tree_width * state.records + tree_width) now)) after room
        s (on_top (λ t. leaf t e) levels)
    unfolding records count
    store_leaf s represented some =
        let add : Trees → Trees = λ t. leaf t e in
        store_put e.kind e.end 1 s (on_top add levels) represented some
        (cells_on_top add (tree_record e.kind e.first e.end 1 e.newline) (λ t. refl) levels)
        (count_on_top add 1 (λ t. refl) levels)

    pub store_opener : (kind : ℕ) (s : State) → Represents record_index after s (inside levels kind e.first e.newline none) → count_so_far levels < room
        → Holds before (take (tree_width * state.records) now ++ (tree_record kind e.first 0 0 e.newline ++ drop (tree_width * state.records + tree_width) now)) after room
        s (inside levels kind e.first e.newline none)
    unfolding records count
    store_opener kind s represented some = store_put kind 0 0 s (inside levels kind e.first e.newline none) represented some refl (omega arith)
