-- The text's end: the last line end, or the innermost opener.
use mathlib.Core.Path.{◌≡◌, ap}
use mathlib.Core.List.{List, [], ◌∷◌, ◌++◌}
use Prim.Native.Nat.{ℕ, ◌+◌, ◌-◌}
use native.Mathlib.Omega.{arith}
use lib.ListN.{length, get_or}
use Rattle.std.specs.Prelude.{Ok, Err}
use Rattle.answers.specs.declared.Answer.{Answer}
use Rattle.answers.specs.declared.faults.Fault.{Fault}
use Rattle.rule.specs.Levels.{Levels, whole_text, inside, depth}
use Rattle.prefix.specs.Reading.{ending, unclosed}
use Rattle.prefix.specs.declared.State.{State}
use Rattle.prefix.specs.declared.OpenGroup.{OpenGroup}
use Rattle.prefix.specs.Machinery.Represents.{no_group}
use Rattle.spacing.specs.Respaced.{line_feed}
use Rattle.spacing.specs.Machinery.Over.{over}
use Rattle.spacing.specs.Machinery.Written.{written_of, Writes}
use Rattle.spacing.proofs.OverLaws.{byte_length}
use Rattle.respacer.specs.Machinery.Told.{Told}

pub end_accepted : (bytes old output : List ℕ) (stack : List OpenGroup) (state : State) (at place : ℕ) (levels : Levels) → Writes bytes old output stack state at place levels → state.depth ≡ 0
    → (next : List ℕ) (to : ℕ) → to ≡ at + 1 → ((w o : List ℕ) → at ≡ length w → output ≡ over w o → next ≡ over (w ++ (line_feed ∷ [])) o)
    → Told bytes old next (ending levels) (Ok to)
end_accepted bytes old output stack state at place (whole_text trees) h z next to t put =
    (ap Ok (byte_length (written_of bytes (whole_text trees)) line_feed at to h.at_is t), put (written_of bytes (whole_text trees)) old h.at_is h.output_is)
end_accepted bytes old output stack state at place (inside around kind first newline trees) h z next to t put = absurd (omega (arith, h.represented.depth_is))

pub end_unclosed : (bytes old output : List ℕ) (stack : List OpenGroup) (state : State) (at place : ℕ) (levels : Levels) → Writes bytes old output stack state at place levels → (state.depth ≡ 0 → ⊥)
    → (next : List ℕ) → Told bytes old next (ending levels) (Err (Fault.Unclosed (get_or stack (state.depth - 1) no_group).tag))
end_unclosed bytes old output stack state at place (whole_text trees) h z next = absurd (z h.represented.depth_is)
end_unclosed bytes old output stack state at place (inside around kind first newline trees) h z next =
    let e : state.depth - 1 ≡ depth around = omega (arith, h.represented.depth_is) in
    ap (Answer.Refused unclosed) (rw e h.represented.stacked.2)
