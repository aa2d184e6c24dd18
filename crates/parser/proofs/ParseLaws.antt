-- The whole text: what `parse` answers by the reading, and by what the table is judged as.
use mathlib.Core.Path.{◌≡◌, refl, sym, ap, subst, ◌∙◌}
use mathlib.Core.List.{List, [], ◌∷◌, ◌++◌}
use mathlib.Core.Bool.{Bool, cond}
use Prim.Native.Nat.{ℕ, ◌*◌, ◌≤◌}
use native.Mathlib.Omega.{arith}
use borrow.Author.Tests.{le-leb, lt-leb}
use lib.ListN.{length, take, drop, replicate, length-append}
use lib.Seq.{take_at}
use Rattle.std.proofs.Common.{Result, Ok, Err}
use Rattle.answers.specs.Faults.{fault_number, fault_place}
use Rattle.answers.specs.declared.Answer.{Answer}
use Rattle.answers.specs.declared.faults.Fault.{Fault}
use Rattle.rule.specs.Trees.{Trees, count}
use Rattle.prefix.specs.Reading.{Reading, accepted, refused}
use Rattle.tables.specs.Records.{tree_width, most_trees, syntax_width, syntax_room}
use Rattle.storing.specs.Records.{records}
use Rattle.reading.specs.Read
use Rattle.reading.specs.Read.{read_limits, reading_for, table_after}
use Rattle.storing.proofs.CellLaws.{records_length}
use Rattle.derivations.specs.Tokens.{Token, tokens}
use Rattle.machine.specs.Syntax.{Syntax, size, syntax_records, program_tree}
use Rattle.derivations.specs.TreeElements.{elements_of}
use Rattle.machine.specs.Machinery.Machine.{State, run, start}
use Rattle.segments.specs.Machinery.Segments.{Segment, segment, count_of, Fine}
use Rattle.derivations.proofs.ReadNames.{recorded_run}
use Rattle.segments.proofs.ReadSegments.{reading_fine, reading_tokens}
use Rattle.parsing.specs.Parse.{syntax_full, Parsing, program, denied, end_token, state_after, judged, fitting, parsed, parsing_for, answer_of, trees_after, syntax_after}
use Rattle.parser.specs.Machinery.Judged.{state_behind, Built, Judged, judged_bad, judged_full, judged_program}
use Rattle.parser.proofs.WrittenCells.{syntax_written}
use Rattle.parsing.proofs.AcceptedReadings.{AcceptedReading, accepted_reading}

-- what `read` leaves where it accepts
pub record ReadDone (text table now : List ℕ) (number : ℕ) : Type 0 where
  pub trees : Trees
  pub reads : reading_for text (length table) ≡ accepted trees
  pub counts : count trees ≡ number
  pub cells : now ≡ records trees ++ drop (tree_width * number) table
  pub few : number ≤ most_trees
  pub within : tree_width * number ≤ length now

pub read_done : (text table now : List ℕ) (r : Answer) (n : ℕ) → r ≡ Read.answer_of (reading_for text (length table))
    → now ≡ table_after (reading_for text (length table)) table → r ≡ Answer.Accepted n → ReadDone text table now n
read_done text table now r n a c e = go (reading_for text (length table)) refl (sym a ∙ e) c
  where
    go : (q : Reading) → reading_for text (length table) ≡ q → Read.answer_of q ≡ Answer.Accepted n → now ≡ table_after q table → ReadDone text table now n
    go (accepted trees) reads a c =
        let counts : count trees ≡ n = cc in
        let cells : now ≡ records trees ++ drop (tree_width * n) table = c ∙ ap (λ (k : ℕ). records trees ++ drop (tree_width * k) table) counts in
        let known = accepted_reading text (length table) trees reads in
        record {
          trees = trees;
          reads = reads;
          counts = counts;
          cells = cells;
          few = omega (arith, known.room);
          within = omega (arith, ap length cells, length-append (records trees) (drop (tree_width * n) table), records_length trees);
        }
    go (refused number place) reads a c = absurd (let z : ◌≡◌ {A = ℕ} 0 1 = cc in omega arith)

module _ {text table now : List ℕ} {n : ℕ} (d : ReadDone text table now n) where
  -- the records in front of the table are the part that is parsed
  pub front : take (tree_width * n) now ≡ records d.trees
  front =
      ap (take (tree_width * n)) d.cells
      ∙ take_at (records d.trees) (drop (tree_width * n) table) (tree_width * n) (records_length d.trees ∙ omega (arith, d.counts))

  known : AcceptedReading text (length table) d.trees
  known = accepted_reading text (length table) d.trees d.reads

  few_trees : count d.trees ≤ most_trees
  few_trees = omega (arith, d.few, d.counts)

  pub front_fine : (close : ℕ) → Fine (segment text (take (tree_width * n) now) 0 close)
  front_fine close =
      subst (λ (cells : List ℕ). Fine (segment text cells 0 close)) (sym front) (reading_fine text (read_limits (length table)) d.trees known.reads few_trees close)

  abbrev whole : Segment
  whole = segment text (records d.trees) 0 (length text)

  -- the run over the tokens of the records is that over the tokens of the elements
  same_run : state_behind whole ≡ run start (tokens (elements_of d.trees) ++ (end_token (length text) ∷ []))
  same_run =
      ap (λ (ts : List Token). run start (ts ++ (end_token (length text) ∷ []))) (reading_tokens text (read_limits (length table)) d.trees known.reads few_trees (length text))
      ∙ recorded_run text (read_limits (length table)) d.trees known.reads (end_token (length text) ∷ [])

  all_count : count_of (records d.trees) ≡ count d.trees
  all_count = omega (arith, records_length d.trees)

  -- what the whole table is judged as is what the text is parsed as
  abbrev Parses : ℕ → List ℕ → Result ℕ Fault → List ℕ → Type 0
  Parses room syntax answer after =
      elim answer as (λ a. Type 0) [
        | Ok m ↦ (v : Syntax) × (parsing_for text (length table) room ≡ program d.trees v) × (m ≡ size v) × (after ≡ syntax_records v ++ drop (syntax_width * size v) syntax)
        | Err fault ↦ parsing_for text (length table) room ≡ denied (fault_number fault) (fault_place fault)
      ]

  by_state : (room : ℕ) {state : State} → state_behind whole ≡ state
      → parsing_for text (length table) room ≡ fitting (length text) (syntax_room room) (judged d.trees state)
  unfolding parsing_for state_after
  by_state room e =
      ap (parsed (length text) (syntax_room room)) d.reads
      ∙ ap (λ (z : State). fitting (length text) (syntax_room room) (judged d.trees z)) (sym same_run ∙ e)

  by_program : (room : ℕ) (v : Syntax) → Built whole v
      → parsing_for text (length table) room ≡ fitting (length text) (syntax_room room) (program d.trees (program_tree (count_of (records d.trees)) v))
  by_program room v built =
      by_state room built.ends
      ∙ ap (λ (n : ℕ). fitting (length text) (syntax_room room) (program d.trees (program_tree n v))) (sym all_count)

  pub judged_parses : {syntax after : List ℕ} {answer : Result ℕ Fault} → Judged whole syntax answer after → Parses (length syntax) syntax answer after
  judged_parses {syntax} (judged_bad dies) = by_state (length syntax) dies
  judged_parses {syntax} (judged_full v built more) =
      by_program (length syntax) v built
      ∙ ap (λ (b : Bool). cond b (program d.trees (program_tree (count_of (records d.trees)) v)) (denied syntax_full (length text)))
      (lt-leb (size (program_tree (count_of (records d.trees)) v)) (syntax_room (length syntax)) (omega arith))
  judged_parses {syntax} (judged_program {n = n} v built counts fits wrote) =
      let tree = program_tree (count_of (records d.trees)) v in
      let cells : size tree * syntax_width ≡ syntax_width * size tree = omega arith in (
        tree,
        by_program (length syntax) v built
            ∙ ap (λ (b : Bool). cond b (program d.trees tree) (denied syntax_full (length text)))
            (le-leb (size tree) (syntax_room (length syntax)) (omega (arith, built.few, all_count, few_trees))),
        counts,
        wrote ∙ syntax_written tree syntax (omega arith) ∙ ap (λ (k : ℕ). syntax_records tree ++ drop k syntax) cells,
      )

-- what `parse` must answer and leave
abbrev pub Answers : List ℕ → List ℕ → List ℕ → Answer → List ℕ → List ℕ → Type 0
Answers text table syntax answer treesNow syntaxNow =
    (answer ≡ answer_of (parsing_for text (length table) (length syntax)))
    × (treesNow ≡ trees_after (parsing_for text (length table) (length syntax)) table)
    × (syntaxNow ≡ syntax_after (parsing_for text (length table) (length syntax)) syntax)

module _ (text table syntax : List ℕ) where
  pub answers_refused : {number place : ℕ} {treesNow syntaxNow : List ℕ} → parsing_for text (length table) (length syntax) ≡ denied number place
      → treesNow ≡ replicate (length table) 0 → syntaxNow ≡ replicate (length syntax) 0 → Answers text table syntax (Answer.Refused number place) treesNow syntaxNow
  answers_refused e t s =
      (sym (ap answer_of e), t ∙ sym (ap (λ (q : Parsing). trees_after q table) e), s ∙ sym (ap (λ (q : Parsing). syntax_after q syntax) e))

  -- the reading is refused
  pub not_read : {r : Answer} {now : List ℕ} {number place : ℕ} → r ≡ Read.answer_of (reading_for text (length table))
      → now ≡ table_after (reading_for text (length table)) table → r ≡ Answer.Refused number place
      → (parsing_for text (length table) (length syntax) ≡ denied number place) × (now ≡ replicate (length table) 0)
  unfolding parsing_for
  not_read {now = now} {number = number} {place = place} a c e = go (reading_for text (length table)) refl (sym a ∙ e) c
    where
      go : (q : Reading) → reading_for text (length table) ≡ q → Read.answer_of q ≡ Answer.Refused number place → now ≡ table_after q table
          → (parsing_for text (length table) (length syntax) ≡ denied number place) × (now ≡ replicate (length table) 0)
      go (accepted trees) reads a c = absurd (let z : ◌≡◌ {A = ℕ} 0 1 = cc in omega arith)
      go (refused n p) reads a c =
          let same : denied n p ≡ denied number place = cc in
          (ap (parsed (length text) (syntax_room (length syntax))) reads ∙ same, c)

  -- it is accepted, and the whole table is judged
  module _ {now after : List ℕ} {n : ℕ} (d : ReadDone text table now n) {judgement : Result ℕ Fault}
      (j : Judged (segment text (take (tree_width * n) now) 0 (length text)) syntax judgement after) where
    parses : Parses d (length syntax) syntax judgement after
    parses = judged_parses d (subst (λ (cells : List ℕ). Judged (segment text cells 0 (length text)) syntax judgement after) (front d) j)

  pub judged_refused : {now after : List ℕ} {n : ℕ} (d : ReadDone text table now n) {judgement : Result ℕ Fault}
      → Judged (segment text (take (tree_width * n) now) 0 (length text)) syntax judgement after → {fault : Fault} → judgement ≡ Err fault
      → parsing_for text (length table) (length syntax) ≡ denied (fault_number fault) (fault_place fault)
  judged_refused {after = after} d {judgement} j {fault} e = subst (λ (a : Result ℕ Fault). Parses d (length syntax) syntax a after) e (parses d j)

  pub judged_accepted : {now after : List ℕ} {n : ℕ} (d : ReadDone text table now n) {judgement : Result ℕ Fault}
      → Judged (segment text (take (tree_width * n) now) 0 (length text)) syntax judgement after → {m : ℕ} → judgement ≡ Ok m
      → Answers text table syntax (Answer.Accepted m) now after
  judged_accepted {now} {after} d j {m} e =
      let p : Parses d (length syntax) syntax (Ok m) after = subst (λ (a : Result ℕ Fault). Parses d (length syntax) syntax a after) e (parses d j) in (
        ap Answer.Accepted p.2 ∙ sym (ap answer_of p.1),
        d.cells ∙ ap (λ (k : ℕ). records d.trees ++ drop (tree_width * k) table) (sym d.counts) ∙ sym (ap (λ (q : Parsing). trees_after q table) p.1),
        p.3 ∙ sym (ap (λ (q : Parsing). syntax_after q syntax) p.1),
      )
