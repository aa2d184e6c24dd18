-- What the token machine says of the elements of an accepted reading: a derivation of the text, or the first element with which
-- those so far begin no program.
use mathlib.Core.Path.{◌≡◌, refl, sym, ap, subst, ◌∙◌}
use mathlib.Core.List.{List, [], ◌∷◌, ◌++◌, append-nil}
use mathlib.Core.Bool.{cond}
use Prim.Native.Nat.{ℕ, ◌+◌}
use native.Mathlib.Omega.{arith}
use lib.ListN.{length}
use Rattle.elements.specs.declared.Element.{Element}
use Rattle.rule.specs.Trees.{Trees}
use Rattle.prefix.specs.Reading.{Limits, accepted, reading}
use Rattle.prefix.proofs.LimitLaws.{accepted_unlimited}
use Rattle.derivations.specs.Cuts.{is_closer}
use Rattle.derivations.specs.Tokens.{Token, token, Spot, token_of, tokens_from, tokens}
use Rattle.machine.specs.Syntax.{nil}
use Rattle.grammar.specs.Grammar.{Program}
use Rattle.derivations.specs.Derivations.{Derivation}
use Rattle.derivations.specs.TreeElements.{elements_of}
use Rattle.machine.specs.Machinery.Machine.{dead, live, Control, finished, Frame, frame, Open, done_of, run, start}
use Rattle.grammar.proofs.Complete.{complete_to_end}
use Rattle.grammar.proofs.Sound.{sound_to_end}
use Rattle.derivations.proofs.ReadCuts.{reading_cuts}
use Rattle.grammar.proofs.Deaths.{Death, death}
use Rattle.derivations.proofs.Begins.{begins, still_going}
use Rattle.derivations.proofs.FirstRefused.{first_refused}
use Rattle.derivations.proofs.Theorems.{no_program_differs}
use Rattle.parsing.specs.Parse.{end_spot, end_token, state_after}
use Rattle.parsing.specs.Verdict.{Refuses, at_element, at_end}

-- a token among those of elements and one behind them: that of an element, with the elements before it, or the last
data Where (mark : ℕ) (es : List Element) (end : Token) (before : List Token) (class : ℕ) (spot : Spot) : Type 0 where
  on_element : (firsts : List Element) (e : Element) (rest : List Element) → es ≡ firsts ++ (e ∷ rest) → before ≡ tokens_from mark firsts
      → before ++ (token class spot ∷ []) ≡ tokens_from mark (firsts ++ (e ∷ [])) → spot.first ≡ e.first → Where mark es end before class spot
  on_end : before ≡ tokens_from mark es → token class spot ≡ end → Where mark es end before class spot

abbrev first_of : Token → ℕ
first_of (token class spot) = spot.first

find : (mark : ℕ) (es : List Element) (end : Token) (before : List Token) (class : ℕ) (spot : Spot) (after : List Token)
    → tokens_from mark es ++ (end ∷ []) ≡ before ++ (token class spot ∷ after) → Where mark es end before class spot
unfolding tokens_from
find mark [] end [] class spot after q = on_end refl (cc)
find mark [] end (x ∷ []) class spot after q = absurd (let z : ◌≡◌ {A = ℕ} 0 1 = cc in omega arith)
find mark [] end (x ∷ (y ∷ before)) class spot after q = absurd (let z : ◌≡◌ {A = ℕ} 0 1 = cc in omega arith)
find mark (e ∷ es) end [] class spot after q =
    let t : token_of mark e ≡ token class spot = cc in
    on_element [] e es refl refl (ap (λ (x : Token). x ∷ []) (sym t)) (sym (ap first_of t))
find mark (e ∷ es) end (x ∷ before) class spot after q =
    go (find (cond (is_closer e) mark (mark + 1)) es end before class spot after (cc))
  where
    go : Where (cond (is_closer e) mark (mark + 1)) es end before class spot → Where mark (e ∷ es) end (x ∷ before) class spot
    go (on_element firsts f rest all are one place) =
        let t : x ≡ token_of mark e = cc in
        on_element (e ∷ firsts) f rest (ap (◌∷◌ e) all) (cc) (cc) place
    go (on_end are last) =
        let t : x ≡ token_of mark e = cc in
        on_end (cc) last

module _ (text : List ℕ) (limits : Limits) (trees : Trees) (a : reading text limits ≡ accepted trees) where
  abbrev es : List Element
  es = elements_of trees

  abbrev all : List Token
  all = tokens es ++ (end_token (length text) ∷ [])

  -- where the machine lives at the end, the text has a derivation, and the machine has built its parts
  pub accepted_derives : (control : Control) (f : Frame) (around : List Open) → state_after (length text) trees ≡ live control f around
      → (d : Derivation text) × (d.elements ≡ es) × (d.parts ≡ done_of f)
  unfolding state_after
  accepted_derives control f around e =
      let ended = sound_to_end (tokens es) (end_spot (length text)) control f around e in
      let cuts = reading_cuts text limits trees a in (
        record { choice = cuts.choice; elements = es; cut = cuts.cut; parts = done_of f; steps = ended.program },
        refl,
        refl,
      )

  -- where it is dead, the elements so far begin no program
  pub refused_derives : (place : ℕ) → state_after (length text) trees ≡ dead place → Refuses text es place
  unfolding state_after
  refused_derives place e = go (death all place e)
    where
      go : Death start all place → Refuses text es place
      go d = by (find 0 es (end_token (length text)) d.before d.class d.spot d.after d.split)
        where
          by : Where 0 es (end_token (length text)) d.before d.class d.spot → Refuses text es place
          by (on_element firsts f rest split are one here) =
              let alive : run start (tokens firsts) ≡ live d.control d.f d.around = rw are at d.alive in
              let r = first_refused text limits trees a firsts rest f split d.control d.f d.around alive (rw one at d.dies) in
              subst (λ (n : ℕ). Refuses text es n) (sym here ∙ d.here) (at_element firsts f rest split r.0 r.1)
          by (on_end are last) =
              let alive : run start (tokens es) ≡ live d.control d.f d.around = rw are at d.alive in
              let b = begins text es es [] (reading_cuts text limits trees a) (sym (append-nil es)) d.control d.f d.around alive (still_going es d.control d.f d.around alive) in
              subst (λ (n : ℕ). Refuses text es n) (sym (ap first_of last) ∙ d.here) (at_end b)

  -- a derivation's elements are those of the reading, and the machine takes them to the end and builds its parts
  pub derives_accepted : (d : Derivation text)
      → (elements_of trees ≡ d.elements) × (state_after (length text) trees ≡ live finished (frame d.parts [] [] nil) [])
  unfolding state_after
  derives_accepted d =
      let r = no_program_differs text d in
      let same_trees : trees ≡ r.trees = cc (accepted_unlimited text limits trees a) in
      let same : es ≡ d.elements = ap elements_of same_trees ∙ r.same in
      let steps : Program (tokens es) d.parts = subst (λ (fs : List Element). Program (tokens fs) d.parts) (sym same) d.steps in
      (same, complete_to_end (end_spot (length text)) steps)

  pub no_derivation : (place : ℕ) → state_after (length text) trees ≡ dead place → Derivation text → ⊥
  no_derivation place e d =
      let s = (derives_accepted d).1 in
      let z : ◌≡◌ {A = ℕ} 0 1 = cc in
      omega arith
