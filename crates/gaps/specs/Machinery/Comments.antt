-- What the code's answer about a comment says of the gap around it. Machinery: no public contract cites it.
use Rattle.std.specs.Prelude.{ℕ, List, Bool, ◌||◌, drop, Option, None, Some, Result, Ok, Err}
use Rattle.answers.specs.declared.faults.Fault.{Fault}
use Rattle.gaps.specs.Gaps.{ends, gap}
use Rattle.gaps.specs.declared.Gap.{Gap}

-- the rest of a gap behind a comment, or the comment's fault
abbrev pub behind : List ℕ → Bool → Result Gap Fault → Result Gap Fault
behind text newline (Ok comment) = gap comment.end (newline || comment.newline) (drop comment.end text)
behind text newline (Err fault) = Err fault

-- the same at a slash, where no comment may start
abbrev pub resumed : List ℕ → ℕ → Bool → Result (Option Gap) Fault → Result Gap Fault
resumed text slash newline (Ok None) = ends slash newline
resumed text slash newline (Ok (Some comment)) = behind text newline (Ok comment)
resumed text slash newline (Err fault) = Err fault
