-- Demand 3: what `parse` answers, over derivations. Its contract is an equation with `parsing_for`.
use mathlib.Core.Path.{◌≡◌, refl, sym, ap, subst, ◌∙◌}
use mathlib.Core.List.{List}
use mathlib.Core.Bool.{Bool, true, false, cond}
use Prim.Native.Nat.{ℕ, ◌≤◌, ◌<◌}
use native.Mathlib.Omega.{arith}
use borrow.Author.Tests.{leb-true, leb-false, le-leb}
use lib.Dec.{leb}
use lib.ListN.{length}
use Rattle.answers.specs.declared.Answer.{Answer}
use Rattle.rule.specs.Trees.{Trees, count, deepest}
use Rattle.prefix.specs.Reading.{Reading, accepted, refused, unlimited}
use Rattle.reading.specs.Read.{read_limits, reading_for, table_after}
use Rattle.reading.proofs.Theorems.{no_barred_sign, read_fits}
use Rattle.reading.proofs.Formed.{Formed, reading_formed}
use Rattle.machine.specs.Syntax.{Syntax, size, program_tree}
use Rattle.derivations.specs.Derivations.{Derivation, count_trees, syntax_tree, deepest_from}
use Rattle.derivations.specs.TreeElements.{elements_of}
use Rattle.machine.specs.Machinery.Machine.{State, dead, live, Control, Frame, Open, done_of}
use Rattle.derivations.proofs.TreeSizes.{count_elements, deepest_elements}
use Rattle.derivations.proofs.Theorems.{no_program_differs, few_parts_each_marked}
use Rattle.shown.proofs.Theorems.{read_shown}
use Rattle.tables.specs.Records.{syntax_room}
use Rattle.parsing.specs.Limits.{WithinLimits, LongEnough}
use Rattle.parsing.specs.Parse.{no_program, syntax_full, Parses, Parsing, program, denied, state_after, judged, fitting, parsed, parsing_for, answer_of, trees_after, syntax_after}
use Rattle.parsing.proofs.AcceptedReadings.{AcceptedReading, accepted_reading}
use Rattle.parsing.specs.Verdict.{Verdict, as_read, no-program, syntax-full, accepts, Left, CallVerdict, call_accepts, call_refuses}
use Rattle.parsing.proofs.OneVerdict.{one_verdict}
use Rattle.parsing.proofs.Verdicts.{accepted_derives, refused_derives, derives_accepted, no_derivation}

module _ (text : List ℕ) (tree_cells syntaxCells : ℕ) where
  -- the machine at the end of the elements of an accepted reading
  module _ (trees : Trees) (r : reading_for text tree_cells ≡ accepted trees) (control : Control) (f : Frame) (around : List Open)
      (e : state_after (length text) trees ≡ live control f around) where
    a : AcceptedReading text tree_cells trees
    a = accepted_reading text tree_cells trees r

    judged_program : (b : Bool) → leb (size (program_tree (count trees) (done_of f))) (syntax_room syntaxCells) ≡ b
        → Verdict text tree_cells syntaxCells (cond b (program trees (program_tree (count trees) (done_of f))) (denied syntax_full (length text)))
    judged_program b q =
        let d = accepted_derives text (read_limits tree_cells) trees a.reads control f around e in
        let elements : count_trees d.0.elements ≡ count trees = ap count_trees d.1 ∙ a.counted in
        let deep : deepest_from 0 d.0.elements ≡ deepest trees = ap (deepest_from 0) d.1 ∙ a.deep_as in
        let same : program_tree (count trees) (done_of f) ≡ syntax_tree d.0 = cc in
        go d.0 d.1 elements deep same b (subst (λ (v : Syntax). leb (size v) (syntax_room syntaxCells) ≡ b) same q)
      where
        go : (d : Derivation text) → d.elements ≡ elements_of trees → count_trees d.elements ≡ count trees → deepest_from 0 d.elements ≡ deepest trees
            → program_tree (count trees) (done_of f) ≡ syntax_tree d → (b : Bool) → leb (size (syntax_tree d)) (syntax_room syntaxCells) ≡ b
            → Verdict text tree_cells syntaxCells (cond b (program trees (program_tree (count trees) (done_of f))) (denied syntax_full (length text)))
        go d elements counted depth same true fit =
            let few : size (syntax_tree d) ≤ syntax_room syntaxCells = leb-true (size (syntax_tree d)) (syntax_room syntaxCells) fit in
            accepts
            (record {
              derivation = d;
              limits = record { few_bytes = a.short; few_trees = omega (arith, a.room); few_parts = omega arith; shallow = omega (arith, a.groups) };
              tables = record { trees_fit = omega (arith, a.room); parts_fit = omega arith };
              reads = r;
              same_elements = sym elements;
              same_syntax = same;
            })
        go d elements counted depth same false full =
            let many : syntax_room syntaxCells < size (syntax_tree d) = leb-false (size (syntax_tree d)) (syntax_room syntaxCells) full in
            syntax-full
            (record {
              trees = trees;
              reads = r;
              derivation = d;
              same_elements = sym elements;
              more = omega (arith, (few_parts_each_marked text d).few, a.room);
            })

  by_state : (trees : Trees) → reading_for text tree_cells ≡ accepted trees → (state : State) → state_after (length text) trees ≡ state
      → Verdict text tree_cells syntaxCells (fitting (length text) (syntax_room syntaxCells) (judged trees state))
  by_state trees r (live control f around) e =
      judged_program trees r control f around e (leb (size (program_tree (count trees) (done_of f))) (syntax_room syntaxCells)) refl
  by_state trees r (dead place) e =
      let a = accepted_reading text tree_cells trees r in
      no-program
      (record {
        trees = trees;
        reads = r;
        first = refused_derives text (read_limits tree_cells) trees a.reads place e;
        none = no_derivation text (read_limits tree_cells) trees a.reads place e;
      })

  by_reading : (r : Reading) → reading_for text tree_cells ≡ r → Verdict text tree_cells syntaxCells (parsed (length text) (syntax_room syntaxCells) r)
  by_reading (accepted trees) r = by_state trees r (state_after (length text) trees) refl
  by_reading (refused number place) r = as_read r

  -- Of every text and all tables: what parsing answers, by derivations and the reading.
  pub verdict : Verdict text tree_cells syntaxCells (parsing_for text tree_cells syntaxCells)
  unfolding parsing_for
  verdict = by_reading (reading_for text tree_cells) refl

-- One verdict: its cases exclude each other, and 13 has one place. So what `Verdict` says of an answer is said of no other one.
pub only_verdict : (text : List ℕ) (tree_cells syntaxCells : ℕ) {p : Parsing} → Verdict text tree_cells syntaxCells p → p ≡ parsing_for text tree_cells syntaxCells
only_verdict text tree_cells syntaxCells v = one_verdict text v (verdict text tree_cells syntaxCells)

-- Document 02, U4: "8 no longer occurs".
pub parse_no_barred_sign : (text : List ℕ) (tree_cells syntaxCells place : ℕ) → parsing_for text tree_cells syntaxCells ≡ denied 8 place → ⊥
parse_no_barred_sign text tree_cells syntaxCells place = by (verdict text tree_cells syntaxCells)
  where
    by : {q : Parsing} → Verdict text tree_cells syntaxCells q → q ≡ denied 8 place → ⊥
    by (as_read r) e = no_barred_sign text tree_cells place (cc)
    by (no-program n) e = let z : no_program ≡ 8 = cc in omega arith
    by (syntax-full f) e = let z : syntax_full ≡ 8 = cc in omega arith
    by (accepts a) e = let z : ◌≡◌ {A = ℕ} 0 1 = cc in omega arith

-- What has a derivation within the limits and tables is accepted.
pub accepts_all : (text : List ℕ) (tree_cells syntaxCells : ℕ) (d : Derivation text) → WithinLimits d → LongEnough d tree_cells syntaxCells
    → (trees : Trees) × (parsing_for text tree_cells syntaxCells ≡ program trees (syntax_tree d)) × (elements_of trees ≡ d.elements)
unfolding parsing_for
accepts_all text tree_cells syntaxCells d limits tables =
    let r = no_program_differs text d in
    let trees = r.trees in
    let formed : Formed trees = rw r.reads at (reading_formed text (unlimited text)) in
    let counted : count_trees d.elements ≡ count trees = ap count_trees (sym r.same) ∙ count_elements trees formed in
    let depth : deepest_from 0 d.elements ≡ deepest trees = ap (deepest_from 0) (sym r.same) ∙ deepest_elements trees formed in
    let reads : reading_for text tree_cells ≡ accepted trees =
    read_fits text tree_cells trees r.reads limits.few_bytes (omega (arith, tables.trees_fit, limits.few_trees)) (omega (arith, limits.shallow)) in
    let a = accepted_reading text tree_cells trees reads in
    let s = derives_accepted text (read_limits tree_cells) trees a.reads d in
    let same : program_tree (count trees) d.parts ≡ syntax_tree d = cc in
    let fit : leb (size (syntax_tree d)) (syntax_room syntaxCells) ≡ true =
    le-leb (size (syntax_tree d)) (syntax_room syntaxCells) (omega (arith, tables.parts_fit, limits.few_parts)) in (
      trees,
      ap (parsed (length text) (syntax_room syntaxCells)) reads
          ∙ ap (λ (z : State). fitting (length text) (syntax_room syntaxCells) (judged trees z)) s.1
          ∙ ap (λ (v : Syntax). fitting (length text) (syntax_room syntaxCells) (program trees v)) same
          ∙ ap (λ (b : Bool). cond b (program trees (syntax_tree d)) (denied syntax_full (length text))) fit,
      r.same,
    )

program_reads : {text : List ℕ} {tree_cells syntaxCells : ℕ} {q : Parsing} → Verdict text tree_cells syntaxCells q
    → (trees : Trees) (syntax : Syntax) → q ≡ program trees syntax → reading_for text tree_cells ≡ accepted trees
program_reads (as_read r) trees syntax e = absurd (let z : ◌≡◌ {A = ℕ} 0 1 = cc in omega arith)
program_reads (no-program n) trees syntax e = absurd (let z : ◌≡◌ {A = ℕ} 0 1 = cc in omega arith)
program_reads (syntax-full f) trees syntax e = absurd (let z : ◌≡◌ {A = ℕ} 0 1 = cc in omega arith)
program_reads (accepts {trees = other} a) trees syntax e =
    let same : other ≡ trees = cc in
    a.reads ∙ ap accepted same

-- What the call answers and leaves, of an accepted text.
pub accepted_left : (text trees syntax : List ℕ) (d : Derivation text) → WithinLimits d → LongEnough d (length trees) (length syntax)
    → Left text trees syntax d (parsing_for text (length trees) (length syntax))
accepted_left text trees syntax d limits tables =
    let p = accepts_all text (length trees) (length syntax) d limits tables in
    let reads = program_reads (verdict text (length trees) (length syntax)) p.0 (syntax_tree d) p.1 in
    let cells : trees_after (parsing_for text (length trees) (length syntax)) trees ≡ table_after (reading_for text (length trees)) trees =
    ap (λ (q : Parsing). trees_after q trees) p.1 ∙ ap (λ (r : Reading). table_after r trees) (sym reads) in
    let counted : count_trees d.elements ≡ count p.0 = ap count_trees (sym p.2) ∙ (accepted_reading text (length trees) p.0 reads).counted in
    record {
      counts = ap answer_of p.1;
      tree-cells = cells;
      shown = rw (cells, counted) (read_shown text trees p.0 reads d);
      syntax_cells = ap (λ (q : Parsing). syntax_after q syntax) p.1;
    }

-- Demand 3 of the call: whatever it answers and leaves, by its contract.
pub call_verdict : (text trees syntax treesLeft syntaxLeft : List ℕ) (answer : Answer) → Parses text trees syntax treesLeft syntaxLeft answer
    → CallVerdict text trees syntax treesLeft syntaxLeft answer
call_verdict text trees syntax treesLeft syntaxLeft answer p = go (verdict text (length trees) (length syntax)) p.0 p.1 p.2
  where
    none : {number place : ℕ} → Verdict text (length trees) (length syntax) (denied number place)
        → (d : Derivation text) → WithinLimits d → LongEnough d (length trees) (length syntax) → ⊥
    none v d limits tables =
        let a = accepts_all text (length trees) (length syntax) d limits tables in
        let clash = only_verdict text (length trees) (length syntax) v ∙ a.1 in
        let z : ◌≡◌ {A = ℕ} 0 1 = cc in
        omega arith

    go : {q : Parsing} → Verdict text (length trees) (length syntax) q → answer ≡ answer_of q → treesLeft ≡ trees_after q trees
        → syntaxLeft ≡ syntax_after q syntax → CallVerdict text trees syntax treesLeft syntaxLeft answer
    go (as_read r) e t s = rw e (call_refuses (as_read r) (none (as_read r)) t s)
    go (no-program n) e t s = rw e (call_refuses (no-program n) (none (no-program n)) t s)
    go (syntax-full f) e t s = rw e (call_refuses (syntax-full f) (none (syntax-full f)) t s)
    go (accepts a) e t s =
        let d = a.derivation in
        let left = accepted_left text trees syntax d a.limits a.tables in
        rw (e, a.same_syntax)
        (call_accepts d a.limits a.tables (t ∙ ap (λ (r : Reading). table_after r trees) (sym a.reads)) (rw (sym p.1) at left.shown) (rw a.same_syntax at s))
