-- The theorems of what records show.
use mathlib.Core.Path.{◌≡◌, sym, ap, subst, ◌∙◌}
use mathlib.Core.List.{List, []}
use Prim.Native.Nat.{ℕ, ◌*◌}
use lib.ListN.{length, take, drop}
use lib.Seq.{take_at}
use Rattle.elements.specs.declared.Element.{Element}
use Rattle.rule.specs.Trees.{Trees, count}
use Rattle.prefix.specs.Reading.{Limits, Reading, accepted, reading}
use Rattle.prefix.proofs.LimitLaws.{accepted_unlimited}
use Rattle.tables.specs.Records.{tree_width}
use Rattle.storing.specs.Records.{records}
use Rattle.reading.specs.Read.{read_limits, reading_for, table_after}
use Rattle.reading.proofs.Formed.{Formed, reading_formed}
use Rattle.reading.proofs.LengthFirst.{first_accepted}
use Rattle.reading.proofs.Theorems.{count_of_records}
use Rattle.machine.specs.Machinery.Machine.{frame, start}
use Rattle.machine.proofs.Ran.{anywhere}
use Rattle.grammar.proofs.Complete.{complete}
use Rattle.derivations.specs.Derivations.{Derivation}
use Rattle.derivations.specs.TreeElements.{elements_of}
use Rattle.derivations.specs.Senses.{sense_of}
use Rattle.derivations.proofs.Programs.{program_read}
use Rattle.derivations.proofs.ReadSenses.{tree_senses}
use Rattle.shown.specs.Shown.{Shown, Indexed, shown_in, pattern_of, word_of, senses_of, places_of, sensed_in}
use Rattle.shown.proofs.TakenSenses.{senses_taken}
use Rattle.shown.proofs.AllSenses.{places_from}
use Rattle.shown.proofs.ShownCuts.{among, cut_patterns, cut_words}
use Rattle.shown.proofs.ShownRecords.{records_senses, records_patterns, records_words}
use Rattle.shown.proofs.IndexedRecords.{RecordsOf, records_of, records_indexed}
use Rattle.shown.proofs.UpdateRecords.{after_marked, before_marked}

-- Demand 3, of tree records: those of every accepted reading of a text with a derivation, whatever the limits, show its regular expressions,
-- its words, its objects and, at all its other braces, blocks, which `++` and `--` stand before and after their operands, and which `:` are its
-- conditionals'; each element but a closer has its record at its index, and a part of `++` or `--` its mark at one of the kind that KINDS.md has for it.
pub records_shown : (text : List ℕ) (limits : Limits) (trees : Trees) → reading text limits ≡ accepted trees → (d : Derivation text) → Shown d (records trees)
records_shown text limits trees a d =
    let r = program_read text d.cut (frame d.parts [] [] _, complete anywhere d.steps) in
    let same : trees ≡ r.0 = cc (accepted_unlimited text limits trees a) in
    let formed : Formed trees = rw a at (reading_formed text limits) in
    let elements : elements_of trees ≡ d.elements = ap elements_of same ∙ r.2 in
    let senses : shown_in sense_of (records trees) ≡ senses_of d.steps =
    records_senses trees formed ∙ ap tree_senses same ∙ r.3 ∙ senses_taken d.steps in
    let each : RecordsOf d.elements (records trees) = subst (λ (es : List Element). RecordsOf es (records trees)) elements (records_of trees formed) in
    record {
      patterns = records_patterns trees formed ∙ ap (among pattern_of) elements ∙ cut_patterns d.cut;
      words = records_words trees formed ∙ ap (among word_of) elements ∙ cut_words d.cut;
      senses = senses;
      indices = subst (λ (es : List Element). Indexed es (records trees)) elements (records_indexed trees formed);
      afters = after_marked d.elements d.steps d.cut each senses;
      befores = before_marked d.elements d.steps d.cut each senses;
    }

-- Of any accepted reading: each element but a closer has its record at its index, of its own kind unless it opens a group or the rule settles a sign's.
pub reading_indexed : (text : List ℕ) (limits : Limits) (trees : Trees) → reading text limits ≡ accepted trees → Indexed (elements_of trees) (records trees)
reading_indexed text limits trees a = records_indexed trees (rw a at (reading_formed text limits))

-- Demand 3 of the cells that `read` leaves in its table, as many as the records that it counts have.
pub read_shown : (text table : List ℕ) (trees : Trees) → reading_for text (length table) ≡ accepted trees → (d : Derivation text)
    → Shown d (take (tree_width * count trees) (table_after (reading_for text (length table)) table))
unfolding reading_for
read_shown text table trees a d =
    subst (Shown d)
    (sym (ap (λ (r : Reading). take (tree_width * count trees) (table_after r table)) a
    ∙ take_at (records trees) (drop (tree_width * count trees) table) (tree_width * count trees) (count_of_records trees)))
    (records_shown text (read_limits (length table)) trees (first_accepted text (read_limits (length table)) trees a) d)

-- A derivation says of every `{`, `++` and `--` among its elements, in their order, whether it is an object or a block, before or after its operand.
pub every_sense : (text : List ℕ) (d : Derivation text) → places_of (senses_of d.steps) ≡ sensed_in d.elements
every_sense text d = ap places_of (sym (senses_taken d.steps)) ∙ places_from start 0 d.elements
