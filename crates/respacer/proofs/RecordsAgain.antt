-- The tree records of a text and of its respaced text are the same but for positions.
use mathlib.Core.Path.{◌≡◌, refl, sym, ap, subst, ◌∙◌}
use mathlib.Core.List.{List, [], ◌++◌, append_assoc, append-nil}
use Prim.Native.Nat.{ℕ, ◌+◌, ◌*◌, ◌≤◌}
use lib.ListN.{length, take, drop}
use native.Mathlib.Omega.{arith}
use lib.Seq.{take_at}
use Rattle.rule.specs.Trees.{Trees, count}
use Rattle.prefix.specs.Reading.{Reading, accepted, refused}
use Rattle.prefix.proofs.LimitLaws.{accepted_unlimited}
use Rattle.tables.specs.Records.{tree_width, tree_record}
use Rattle.storing.specs.Records.{records}
use Rattle.reading.specs.Read.{most_bytes, read_limits, reading_for, answer_of, table_after, Reads}
use Rattle.storing.proofs.CellLaws.{records_length}
use Rattle.reading.proofs.LengthFirst.{first_accepted}
use Rattle.spacing.specs.Respaced.{respaced}
use Rattle.answers.specs.declared.Answer.{Answer}
use Rattle.respacer.specs.Respace.{respace_limits, whole_reading, Respacing, written, denied, respacing_for, output_after, Respaces}
use Rattle.respacer.specs.Respace
use Rattle.respacer.specs.Alike.{Alike, alike_none, alike_leaf, alike_group, without_places, record_cells, RoundTrip, SameLeft}
use Rattle.respacer.proofs.AlikeLevels.{alike_count}
use Rattle.respacer.proofs.CallsAgain.{kept_by_read, wrote}

-- trees that are the same but for positions have the same records but for positions
alike_records : {s t : List ℕ} {trees others : Trees} → Alike s t trees others → (rest more : List ℕ) → without_places rest ≡ without_places more
    → without_places (records trees ++ rest) ≡ without_places (records others ++ more)
unfolding records
alike_records alike_none rest more same = same
alike_records (alike_leaf {before = before} {earlier = earlier} {e = e} {other = other} alike same) rest more h =
    let own = tree_record e.kind e.first e.end 1 e.newline in
    let its = tree_record other.kind other.first other.end 1 other.newline in
    ap without_places (append_assoc (records before) own rest) ∙ alike_records alike (own ++ rest) (its ++ more) (rw (same.kind, same.newline, h))
    ∙ sym (ap without_places (append_assoc (records earlier) its more))
alike_records (alike_group {before = before} {earlier = earlier} {within = within} {inner = inner} {kind = kind} {first = first} {start = start} {end = end}
    {stop = stop} {newline = newline} alike opener inside closer) rest more h =
    let own = tree_record kind first end (count within + 1) newline in
    let its = tree_record kind start stop (count inner + 1) newline in
    ap without_places (append_assoc (records before) (own ++ records within) rest)
    ∙ alike_records alike ((own ++ records within) ++ rest) ((its ++ records inner) ++ more) (rw (alike_count inside, alike_records inside rest more h))
    ∙ sym (ap without_places (append_assoc (records earlier) (its ++ records inner) more))

-- the cells of an accepted reading's records are its records
accepted_cells : (trees : Trees) (table : List ℕ) → record_cells (accepted trees) table ≡ records trees
accepted_cells trees table = take_at (records trees) (drop (tree_width * count trees) table) (tree_width * count trees) (records_length trees)

-- two accepted readings of a text, by `read` and by `respace`, have the same trees
same_trees : (text : List ℕ) (cells : ℕ) (trees others : Trees) → reading_for text cells ≡ accepted trees → whole_reading text ≡ accepted others → others ≡ trees
unfolding reading_for whole_reading
same_trees text cells trees others r w =
    cc (
      accepted_unlimited text (read_limits cells) trees (first_accepted text (read_limits cells) trees r),
      accepted_unlimited text respace_limits others (first_accepted text respace_limits others w),
    )

pub read_written : (text : List ℕ) (room : ℕ) (bytes : List ℕ) → respacing_for text room ≡ written bytes → length bytes ≤ most_bytes
    → (table : List ℕ) (trees : Trees) → reading_for text (length table) ≡ accepted trees → RoundTrip text bytes table trees
read_written text room bytes e short table trees reads =
    let w = wrote text room bytes e in
    let is : respaced text trees ≡ bytes = ap (respaced text) (sym (same_trees text (length table) trees w.trees reads w.reads)) ∙ w.same in
    subst (λ output. length output ≤ most_bytes → RoundTrip text output table trees) is again short
  where
    again : length (respaced text trees) ≤ most_bytes → RoundTrip text (respaced text trees) table trees
    again small =
        let k = kept_by_read text trees small (length table) reads in
        let same = alike_records k.alike [] [] refl in
        record {
          kept = k.kept;
          reads = k.reads;
          alike = k.alike;
          same_answer = rw (k.reads, reads, alike_count k.alike);
          same_cells = rw (k.reads, reads, accepted_cells k.kept table, accepted_cells trees table)
              (sym (rw (append-nil (records trees), append-nil (records k.kept)) at same));
        }

-- the same of what the calls leave
module _ (text before after table left other : List ℕ) (n number : ℕ) (answer : Answer) (short : n ≤ most_bytes)
    (again : Reads (take n after) table other answer) where
  read_as : (bytes : List ℕ) → respacing_for text (length before) ≡ written bytes → take n after ≡ bytes → length bytes ≤ most_bytes
      → (r : Reading) → reading_for text (length table) ≡ r → Answer.Accepted number ≡ answer_of r → left ≡ table_after r table
      → SameLeft number left answer other
  read_as bytes e is small (accepted trees) r a l =
      let t = read_written text (length before) bytes e small table trees r in
      let counted : number ≡ count trees = cc in
      let same : count trees ≡ count t.kept = alike_count t.alike in
      let kept : other ≡ table_after (accepted t.kept) table =
      again.1 ∙ ap (λ output. table_after (reading_for output (length table)) table) is ∙ ap (λ q. table_after q table) t.reads in
      record {
        same_answer = again.0 ∙ rw (is, t.reads, counted, same);
        same_cells =
            rw (counted, kept, l)
            (ap (λ k. without_places (take (tree_width * k) (table_after (accepted t.kept) table))) same
            ∙ sym (ap (λ q. without_places (record_cells q table)) t.reads) ∙ t.same_cells ∙ ap (λ q. without_places (record_cells q table)) r);
      }
  read_as bytes e is small (refused number place) r a l = absurd (let z : ◌≡◌ {A = ℕ} 0 1 = cc in omega arith)

  pub left_again : Respaces text before after (Answer.Accepted n) → Reads text table left (Answer.Accepted number) → SameLeft number left answer other
  left_again spaced read = wrote_as (respacing_for text (length before)) refl spaced.0 spaced.1
    where
      wrote_as : (q : Respacing) → respacing_for text (length before) ≡ q → Answer.Accepted n ≡ Respace.answer_of q → after ≡ output_after q before → SameLeft number left answer other
      wrote_as (written bytes) e a t =
          let long : n ≡ length bytes = cc in
          read_as bytes e (rw (long, t) (take_at bytes (drop (length bytes) before) (length bytes) refl)) (rw long at short)
          (reading_for text (length table)) refl read.0 read.1
      wrote_as (denied k place) e a t = absurd (let z : ◌≡◌ {A = ℕ} 0 1 = cc in omega arith)
