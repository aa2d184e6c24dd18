-- Before the end of the text the machine has not finished.
use mathlib.Core.Path.{◌≡◌, refl, subst}
use mathlib.Core.List.{List, [], ◌∷◌}
use Prim.Native.Nat.{ℕ}
use Rattle.machine.specs.Tokens.{Token, token, Spot}
use Rattle.machine.specs.Machinery.Machine.{end_of_text, Frame, Control, finished, Open, live, run, start}
use Rattle.grammar.proofs.Partial.{Partial, behind_end}
use Rattle.grammar.proofs.Suffix.{EndsWith, itself, behind, derived_end}
use Rattle.grammar.proofs.Sound.{run_partial}

-- no token is the end of the text
pub data BeforeEnd : List Token → Type 0 where
  none_before : BeforeEnd []
  more_before : {class : ℕ} {spot : Spot} {rest : List Token} → (class ≡ end_of_text → ⊥) → BeforeEnd rest → BeforeEnd (token class spot ∷ rest)

no_end : {all rest : List Token} {spot : Spot} → BeforeEnd all → EndsWith all (token end_of_text spot ∷ rest) → ⊥
no_end none_before ends = elim ends [ ]
no_end (more_before other b) itself = other refl
no_end (more_before other b) (behind e) = no_end b e

not_finished : {all : List Token} {f : Frame} {around : List Open} → BeforeEnd all → Partial all finished f around [] → ⊥
not_finished b (behind_end statements) = no_end b (derived_end statements)

pub unfinished : {all : List Token} → BeforeEnd all → (control : Control) (f : Frame) (around : List Open) → run start all ≡ live control f around
    → control ≡ finished → ⊥
unfinished {all} b control f around e at_end =
    not_finished b (subst (λ (c : Control). Partial all c f around []) at_end (run_partial all control f around e))
