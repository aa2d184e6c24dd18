-- Where the records of trees stand among cells, and what their numbers are.
use mathlib.Core.Path.{◌≡◌, refl, sym, ap, ◌∙◌}
use mathlib.Core.List.{List, [], ◌++◌, append_assoc, append-nil}
use mathlib.Core.Bool.{Bool, true, false, cond}
use Prim.Native.Nat.{ℕ, ◌+◌, ◌-◌, ◌*◌, ◌<◌}
use native.Mathlib.Omega.{arith}
use borrow.Author.Tests.{lt-ltb}
use lib.Dec.{eqb}
use lib.ListN.{length, get_or, take, drop, length-append}
use lib.Seq.{get_or-append-add, take_at, drop_at}
use Rattle.elements.specs.declared.Element.{Element}
use Rattle.rule.specs.Trees.{Trees, leaf, group, count}
use Rattle.tables.specs.Records.{tree_width, tree_record}
use Rattle.storing.specs.Records.{records}
use Rattle.storing.proofs.CellLaws.{records_length}
use Rattle.segments.specs.Machinery.Segments.{count_of, cell_or, kind_at, place_at, end_at, size_at, line_at, closer_at, class_by, class_at, content_of}

-- the numbers of the record of an index
pub record RecordAt (cells : List ℕ) (index kind first end number : ℕ) (newline : Bool) : Type 0 where
  pub here : index < count_of cells
  pub kind_is : kind_at cells index ≡ kind
  pub place_is : (close : ℕ) → place_at cells close index ≡ first
  pub end_is : end_at cells index ≡ end
  pub closer_is : closer_at cells index ≡ end - 1
  pub size_is : size_at cells index ≡ number
  pub newline_is : line_at cells index ≡ newline

module _ (front back : List ℕ) (index kind first end number : ℕ) (newline : Bool) (sized : length front ≡ index * tree_width) where
  abbrev whole : List ℕ
  whole = front ++ (tree_record kind first end number newline ++ back)

  within : index < count_of whole
  within = omega (arith, length-append front (tree_record kind first end number newline ++ back))

  cell_at : (default k : ℕ) → cell_or default whole index k ≡ get_or (tree_record kind first end number newline ++ back) k 0
  cell_at default k =
      rw (lt-ltb index (count_of whole) within, ← sized) (get_or-append-add front (tree_record kind first end number newline ++ back) k 0)

  marked : (b : Bool) → eqb (cond b 1 0) 1 ≡ b
  marked true = refl
  marked false = refl

  record_at : RecordAt whole index kind first end number newline
  unfolding kind_at place_at end_at closer_at size_at line_at
  record_at = record {
    here = within;
    kind_is = cell_at 0 0;
    place_is = λ close. cell_at close 1;
    end_is = cell_at 0 2;
    closer_is = ap (λ (n : ℕ). n - 1) (cell_at 0 2);
    size_is = cell_at 0 3;
    newline_is = rw (cell_at 0 4) (marked newline);
  }

-- the records of trees stand in the cells from an index on
pub record StandsIn (cells : List ℕ) (start : ℕ) (trees : Trees) : Type 0 where
  pub front : List ℕ
  pub back : List ℕ
  pub sized : length front ≡ start * tree_width
  pub split : cells ≡ front ++ (records trees ++ back)

before_sized : (start : ℕ) (front : List ℕ) (before : Trees) → length front ≡ start * tree_width → length (front ++ records before) ≡ (start + count before) * tree_width
before_sized start front before sized = omega (arith, length-append front (records before), records_length before)

-- the last tree, behind those before it
module _ {cells : List ℕ} {start : ℕ} {before : Trees} {e : Element} (s : StandsIn cells start (leaf before e)) where
  abbrev leaf_record : List ℕ
  leaf_record = tree_record e.kind e.first e.end 1 e.newline

  leaf_split : cells ≡ s.front ++ (records before ++ (leaf_record ++ s.back))
  unfolding records
  leaf_split = s.split ∙ ap (λ (z : List ℕ). s.front ++ z) (append_assoc (records before) leaf_record s.back)

  pub leaf_before : StandsIn cells start before
  leaf_before = record { front = s.front; back = leaf_record ++ s.back; sized = s.sized; split = leaf_split }

  pub leaf-at : RecordAt cells (start + count before) e.kind e.first e.end 1 e.newline
  leaf-at =
      rw (leaf_split ∙ sym (append_assoc s.front (records before) (leaf_record ++ s.back)))
      (record_at (s.front ++ records before) s.back (start + count before) e.kind e.first e.end 1 e.newline (before_sized start s.front before s.sized))

module _ {cells : List ℕ} {start : ℕ} {before within : Trees} {kind first end : ℕ} {newline : Bool} (s : StandsIn cells start (group before kind first end newline within)) where
  abbrev group_record : List ℕ
  group_record = tree_record kind first end (count within + 1) newline

  group_split : cells ≡ s.front ++ (records before ++ (group_record ++ (records within ++ s.back)))
  unfolding records
  group_split = s.split ∙ ap (λ (z : List ℕ). s.front ++ z) (append_assoc (records before) (group_record ++ records within) s.back)

  pub group_before : StandsIn cells start before
  group_before = record { front = s.front; back = group_record ++ (records within ++ s.back); sized = s.sized; split = group_split }

  group_last : cells ≡ (s.front ++ records before) ++ (group_record ++ (records within ++ s.back))
  group_last = group_split ∙ sym (append_assoc s.front (records before) (group_record ++ (records within ++ s.back)))

  pub group_at : RecordAt cells (start + count before) kind first end (count within + 1) newline
  group_at =
      rw group_last
      (record_at (s.front ++ records before) (records within ++ s.back) (start + count before) kind first end (count within + 1) newline
      (before_sized start s.front before s.sized))

  opener_sized : length ((s.front ++ records before) ++ group_record) ≡ (start + count before + 1) * tree_width
  opener_sized = omega (arith, length-append (s.front ++ records before) group_record, before_sized start s.front before s.sized)

  within_split : cells ≡ ((s.front ++ records before) ++ group_record) ++ (records within ++ s.back)
  within_split = group_last ∙ sym (append_assoc (s.front ++ records before) group_record (records within ++ s.back))

  pub group_within : StandsIn cells (start + count before + 1) within
  group_within = record { front = (s.front ++ records before) ++ group_record; back = s.back; sized = opener_sized; split = within_split }

  pub group_content : content_of cells (start + count before) ≡ records within
  unfolding content_of
  group_content =
      let index = start + count before in
      let cellsTo = (index + size_at cells index) * tree_width - (index + 1) * tree_width in
      let behind : drop ((index + 1) * tree_width) cells ≡ records within ++ s.back =
      ap (drop ((index + 1) * tree_width)) within_split
      ∙ drop_at ((s.front ++ records before) ++ group_record) (records within ++ s.back) ((index + 1) * tree_width) opener_sized in
      let long : length (records within) ≡ cellsTo = omega (arith, records_length within, group_at.size_is) in
      ap (take cellsTo) behind ∙ take_at (records within) s.back cellsTo long

pub all_records : (trees : Trees) → StandsIn (records trees) 0 trees
all_records trees = record { front = []; back = []; sized = refl; split = sym (append-nil (records trees)) }

-- the class of a record
module _ (bytes : List ℕ) {cells : List ℕ} {index kind first end number : ℕ} {newline : Bool} (r : RecordAt cells index kind first end number newline) where
  pub record-class : class_at bytes cells index ≡ class_by kind (end - first) (get_or bytes first 0) (get_or bytes (end - 1) 0)
  unfolding class_at
  record-class = rw (r.kind_is, r.end_is, r.place_is 0)
