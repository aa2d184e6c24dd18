-- While a nest is done that the token does not go on with, it is left: what stands then takes the token as what stood first. Fewer may be left each time.
use mathlib.Core.Path.{◌≡◌}
use Rattle.controls.specs.Machinery.Numbers.{control_of}
use Rattle.controls.specs.declared.Place.TheVariants as stand
use Rattle.frames.specs.Machinery.Effects.{StandsSomewhere, Moves, to_leave}
use Rattle.frames.proofs.left_all.Given as goal

abbrev pub invariant-loop-s : goal.invariant-loop-s
invariant-loop-s l = StandsSomewhere (control_of l.s.control) l.s.level l.waiting l.syntax × (l.s.control.place ≡ stand.NameFirst → ⊥) × Moves (control_of l.initial.s.control) l.class l.initial.s.level l.initial.waiting l.initial.syntax l.s l.waiting l.syntax

abbrev pub decreases-loop-s : goal.decreases-loop-s
decreases-loop-s l = to_leave l.s
