-- The records of trees are a part that can be parsed.
use mathlib.Core.Path.{◌≡◌, refl}
use mathlib.Core.List.{List}
use mathlib.Core.Bool.{Bool, true, false}
use Prim.Native.Nat.{ℕ, ◌+◌, ◌-◌, ◌≤◌, ◌<◌}
use native.Mathlib.Omega.{arith}
use borrow.Author.Tests.{ltb-true, ltb-false}
use lib.Dec.{ltb}
use lib.ListN.{get_or}
use Rattle.elements.specs.declared.Element.{Element}
use Rattle.rule.specs.Trees.{Trees, none, leaf, group, count}
use Rattle.tables.specs.Records.{most_trees}
use Rattle.storing.specs.Records.{records}
use Rattle.storing.proofs.CellLaws.{records_length}
use Rattle.derivations.specs.Tokens.{class_of}
use Rattle.derivations.specs.TreeElements.{unsettled}
use Rattle.derivations.proofs.ReadNames.{record_class}
use Rattle.segments.specs.Machinery.Segments.{count_of, size_at, class_by, class_at, segment, Fine}
use Rattle.segments.proofs.SegmentLaws.{element_known, opener_known}
use Rattle.segments.proofs.ClassLaws.{Told, GroupTold}
use Rattle.segments.proofs.ToldTrees.{AllTold}
use Rattle.segments.proofs.RecordPlaces.{RecordAt, record-class, StandsIn, all_records, leaf_before, leaf-at, group_before, group_at, group_within}

-- a record of trees that end before an index
record FineBelow (bytes cells : List ℕ) (high i : ℕ) : Type 0 where
  known : 1 ≤ class_at bytes cells i
  some : 1 ≤ size_at cells i
  below : i + size_at cells i ≤ high
  nested : (j : ℕ) → i < j → j < i + size_at cells i → j + size_at cells j ≤ i + size_at cells i

higher : {bytes cells : List ℕ} {low high i : ℕ} → low ≤ high → FineBelow bytes cells low i → FineBelow bytes cells high i
higher h f = record { known = f.known; some = f.some; below = omega arith; nested = f.nested }

module _ (bytes cells : List ℕ) where
  leaf_below : (high : ℕ) {index : ℕ} {e : Element} → Told bytes e → RecordAt cells index e.kind e.first e.end 1 e.newline → high ≡ index + 1
      → FineBelow bytes cells high index
  leaf_below high {e = e} t r h =
      let size = r.size_is in
      record {
        known = rw (record-class bytes r, t.told) (element_known (record_class (class_of (unsettled e))) t.element).0;
        some = omega arith;
        below = omega arith;
        nested = λ j l k. absurd (omega arith);
      }

  group_below : (high number : ℕ) {index kind first end : ℕ} {newline : Bool} → GroupTold kind → RecordAt cells index kind first end (number + 1) newline → high ≡ index + (number + 1)
      → ((j : ℕ) → index + 1 ≤ j → j < index + 1 + number → FineBelow bytes cells (index + 1 + number) j) → FineBelow bytes cells high index
  group_below high number {kind = kind} {first = first} {end = end} t r h inner =
      let size = r.size_is in
      record {
        known = rw (record-class bytes r) (opener_known (class_by kind (end - first) (get_or bytes first 0) (get_or bytes (end - 1) 0)) (t.opens (end - first) (get_or bytes first 0) (get_or bytes (end - 1) 0))).0;
        some = omega arith;
        below = omega arith;
        nested = λ j l k. let f = inner j (omega arith) (omega arith) in omega (arith, f.below);
      }

  trees_below : (trees : Trees) → AllTold bytes trees → (start : ℕ) → StandsIn cells start trees → (i : ℕ) → start ≤ i → i < start + count trees
      → FineBelow bytes cells (start + count trees) i
  unfolding count
  trees_below none t start s i l h = absurd (omega arith)
  trees_below (leaf before e) t start s i l h = go (ltb i (start + count before)) refl (trees_below before t.0 start (leaf_before s) i l)
    where
      go : (b : Bool) → ltb i (start + count before) ≡ b → (i < start + count before → FineBelow bytes cells (start + count before) i)
          → FineBelow bytes cells (start + (count before + 1)) i
      go true q rest = higher (omega arith) (rest (ltb-true i (start + count before) q))
      go false q rest =
          let same : start + count before ≡ i = omega (arith, ltb-false i (start + count before) q) in
          rw same at (leaf_below (start + (count before + 1)) t.1 (leaf-at s) (omega arith))
  trees_below (group before kind first end newline inner) t start s i l h =
      go (ltb i (start + count before)) (ltb (start + count before) i) refl refl (trees_below before t.0 start (group_before s) i l)
      (trees_below inner t.2 (start + count before + 1) (group_within s))
    where
      go : (b c : Bool) → ltb i (start + count before) ≡ b → ltb (start + count before) i ≡ c → (i < start + count before → FineBelow bytes cells (start + count before) i)
          → ((j : ℕ) → start + count before + 1 ≤ j → j < start + count before + 1 + count inner → FineBelow bytes cells (start + count before + 1 + count inner) j)
          → FineBelow bytes cells (start + (count before + (count inner + 1))) i
      go true c q r rest later = higher (omega arith) (rest (ltb-true i (start + count before) q))
      go false true q r rest later =
          let u = ltb-true (start + count before) i r in
          higher (omega arith) (later i (omega arith) (omega arith))
      go false false q r rest later =
          let same : start + count before ≡ i = omega (arith, ltb-false i (start + count before) q, ltb-false (start + count before) i r) in
          rw same at (group_below (start + (count before + (count inner + 1))) (count inner) t.1 (group_at s) (omega arith) later)

-- the records of trees, as a part
module _ (bytes : List ℕ) (trees : Trees) (told : AllTold bytes trees) (close : ℕ) where
  pub records_count : count_of (records trees) ≡ count trees
  records_count = omega (arith, records_length trees)

  pub records_fine : count trees ≤ most_trees → Fine (segment bytes (records trees) 0 close)
  records_fine few =
      let n = records_count in
      record {
        few = omega arith;
        at = λ i h. let f = trees_below bytes (records trees) trees told 0 (all_records trees) i (omega arith) (omega arith) in
            record { known = f.known; some = f.some; fits = omega (arith, f.below); nested = f.nested };
      }
