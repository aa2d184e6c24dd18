-- Where the machine dies, the elements so far begin no program, and those before do.
use mathlib.Core.Path.{◌≡◌}
use mathlib.Core.List.{List, [], ◌∷◌, ◌++◌}
use Prim.Native.Nat.{ℕ}
use Rattle.elements.specs.declared.Element.{Element}
use Rattle.rule.specs.Trees.{Trees}
use Rattle.prefix.specs.Reading.{Limits, accepted, reading}
use Rattle.derivations.specs.Tokens.{tokens}
use Rattle.derivations.specs.Derivations.{BeginsProgram}
use Rattle.derivations.specs.TreeElements.{elements_of}
use Rattle.machine.specs.Machinery.Machine.{dead, live, Control, Frame, Open, run, start}
use Rattle.derivations.proofs.ReadCuts.{reading_cuts}
use Rattle.derivations.proofs.Begins.{begins, begins_not, still_going}

-- Refused texts, 13: "first element with which the elements so far begin no program". It is where the machine stops: some text
-- with a derivation begins with the elements before it, and none begins with these and the element.
pub first_refused : (text : List ℕ) (limits : Limits) (trees : Trees) → reading text limits ≡ accepted trees
    → (before after : List Element) (e : Element) → elements_of trees ≡ before ++ (e ∷ after)
    → (control : Control) (f : Frame) (around : List Open) {place : ℕ} → run start (tokens before) ≡ live control f around
    → run start (tokens (before ++ (e ∷ []))) ≡ dead place
    → BeginsProgram text before × (BeginsProgram text (before ++ (e ∷ [])) → ⊥)
first_refused text limits trees a before after e split control f around alive stops = (
  begins text (elements_of trees) before (e ∷ after) (reading_cuts text limits trees a) split control f around alive (still_going before control f around alive),
  begins_not text (before ++ (e ∷ [])) stops,
)
