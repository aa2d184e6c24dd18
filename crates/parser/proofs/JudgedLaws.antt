-- The whole table: what `program` answers by its statements.
use mathlib.Core.Path.{◌≡◌, ap, subst, ◌∙◌}
use mathlib.Core.List.{List, []}
use Prim.Native.Nat.{ℕ, ◌+◌, ◌-◌, ◌≤◌, ◌<◌}
use native.Mathlib.Omega.{arith}
use lib.ListN.{length}
use Rattle.std.proofs.Common.{Result, Ok, Err}
use Rattle.answers.specs.declared.faults.Fault.{Fault}
use Rattle.tables.specs.Records.{most_syntax, syntax_room}
use Rattle.machine.specs.Syntax.{Syntax, size, program_syntax, program_tree}
use Rattle.machine.specs.Machinery.Machine.{end_of_text}
use Rattle.controls.specs.declared.Setting.TheVariants as sits
use Rattle.controls.specs.Machinery.Written.{put_record, put_syntax}
use Rattle.segments.specs.Machinery.Segments.{Segment, count_of}
use Rattle.levels.specs.Machinery.Runs.{ran_through, ran_dead, RanStatements}
use Rattle.groups.specs.declared.Parsed.{Parsed}
use Rattle.waiting.specs.declared.Waiting.{Waiting}
use Rattle.parser.specs.Machinery.Judged.{Built, Judged, judged_bad, judged_full, judged_program}
use Rattle.controls.proofs.KeptLength.{syntax_kept_length}

-- the statements of the whole table, up to the text's end
module _ {p : Segment} {table middle : List ℕ} {stack stack' : List Waiting} where
  bad : {fault : Fault} {after : List ℕ} → RanStatements sits.Body end_of_text p 0 0 table stack (Err fault) middle stack' → Judged p table (Err fault) after
  bad (ran_dead dies) = judged_bad (dies [] 0 [])

  done : {made : Parsed} → RanStatements sits.Body end_of_text p 0 0 table stack (Ok made) middle stack' → (parts : Syntax) × Built p parts × (made.count ≡ size parts) × (middle ≡ put_syntax table 0 parts)
  done (ran_through t) =
      (t.value, record { ends = t.runs [] 0 []; few = omega (arith, t.count_is, t.passes) }, omega (arith, t.count_is), t.cells_are)

module _ {p : Segment} {table middle : List ℕ} {stack stack' : List Waiting} {r : Result Parsed Fault} (ran : RanStatements sits.Body end_of_text p 0 0 table stack r middle stack') where
  ran_as : {s : Result Parsed Fault} → r ≡ s → RanStatements sits.Body end_of_text p 0 0 table stack s middle stack'
  ran_as e = subst (λ (x : Result Parsed Fault). RanStatements sits.Body end_of_text p 0 0 table stack x middle stack') e ran

  pub judge_bad : {fault : Fault} {after : List ℕ} → r ≡ Err fault → Judged p table (Err fault) after
  judge_bad e = bad (ran_as e)

  module _ {made : Parsed} (e : r ≡ Ok made) where
    abbrev n : ℕ
    n = made.count

    parts : Syntax
    parts = (done (ran_as e)).0

    built : Built p parts
    unfolding parts
    built = (done (ran_as e)).1

    size_is : n ≡ size parts
    unfolding parts
    size_is = (done (ran_as e)).2

    pub few_records : n ≤ count_of p.cells
    few_records = omega (arith, size_is, built.few)

    module _ {all : ℕ} {after : List ℕ} (counts : all ≡ n + 1) (wrote : after ≡ put_record middle n program_syntax (count_of p.cells) (n - 0 + 1)) where
      tree : Syntax
      tree = program_tree (count_of p.cells) parts

      written : after ≡ put_syntax table 0 tree
      unfolding parts tree put_syntax
      written =
          let d = done (ran_as e) in
          let own : n - 0 + 1 ≡ size d.0 + 0 + 1 = omega (arith, d.2) in
          let at : n ≡ 0 + size d.0 + 0 = omega (arith, d.2) in
          wrote ∙ ap (λ (k : ℕ). put_record middle n program_syntax (count_of p.cells) k) own
          ∙ ap (λ (k : ℕ). put_record middle k program_syntax (count_of p.cells) (size d.0 + 0 + 1)) at
          ∙ ap (λ (cells : List ℕ). put_record cells (0 + size d.0 + 0) program_syntax (count_of p.cells) (size d.0 + 0 + 1)) d.3

      number : all ≡ size tree
      unfolding tree
      number = omega (arith, counts, size_is)

      kept : length after ≡ length table
      kept = ap length written ∙ syntax_kept_length tree table 0

      pub judge_full : all ≤ most_syntax → syntax_room (length after) < all → Judged p table (Err (Fault.SyntaxFull p.close)) after
      unfolding tree
      judge_full few h = judged_full parts built (omega (arith, number, kept))

      pub judge_program : all ≤ syntax_room (length after) → Judged p table (Ok all) after
      unfolding tree
      judge_program h = judged_program parts built number (omega (arith, kept)) written
