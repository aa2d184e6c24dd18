-- What the whole table is judged as, before its parsing is answered. Machinery.
use Rattle.std.specs.Prelude.{ℕ, Result, Ok, Err, ◌/◌, ◌≤◌, ◌<◌, ◌≡◌, List, [], ◌∷◌, ◌++◌, length}
use Rattle.answers.specs.declared.faults.Fault.{Fault}
use Rattle.tables.specs.Records.{syntax_width}
use Rattle.machine.specs.Syntax.{Syntax, nil, size, program_tree}
use Rattle.machine.specs.Machinery.Machine.{State, dead, live, finished, frame, run, start}
use Rattle.controls.specs.Machinery.Written.{put_syntax}
use Rattle.segments.specs.Machinery.Segments.{Segment, count_of, tokens_at}
use Rattle.parsing.specs.Parse.{end_token}

-- where the machine is behind the tokens of a part and the text's end
abbrev pub state_behind : Segment → State
state_behind p = run start (tokens_at p 0 ++ (end_token p.close ∷ []))

-- the parts that the machine has built at the end, of which there are no more than tree records
pub record Built (p : Segment) (parts : Syntax) : Type 0 where
  pub ends : state_behind p ≡ live finished (frame parts [] [] nil) []
  pub few : size parts ≤ count_of p.cells

-- no program, at a place; more records than the syntax table has room for; or the syntax tree, written, with the program's own record
-- behind all others
pub data Judged (p : Segment) (table : List ℕ) : Result ℕ Fault → List ℕ → Type 0 where
  judged_bad : {place : ℕ} {after : List ℕ} → state_behind p ≡ dead place → Judged p table (Err (Fault.NoProgram place)) after
  judged_full : {after : List ℕ} (parts : Syntax) → Built p parts → length table / syntax_width < size (program_tree (count_of p.cells) parts)
      → Judged p table (Err (Fault.SyntaxFull p.close)) after
  judged_program : {n : ℕ} {after : List ℕ} (parts : Syntax) → Built p parts → n ≡ size (program_tree (count_of p.cells) parts)
      → n ≤ length table / syntax_width → after ≡ put_syntax table 0 (program_tree (count_of p.cells) parts) → Judged p table (Ok n) after
