-- The elements and groups of a reading's trees have the classes that their kinds, lengths and first and last bytes tell.
use mathlib.Core.Path.{◌≡◌}
use mathlib.Core.List.{List}
use Prim.Native.Nat.{ℕ}
use Rattle.elements.specs.declared.Element.{Element}
use Rattle.rule.specs.Trees.{Trees, none, leaf, group}
use Rattle.rule.specs.Levels.{Levels, whole_text, inside, stated_by, settled_in, on_top}
use Rattle.prefix.specs.Reading.{Limits, reading}
use Rattle.prefix.proofs.Induction.{reading_tells, Accepts, ending_accepts}
use Rattle.prefix.proofs.StepCases.{Taken, leaf_taken, open_taken, close_taken, step_taken}
use Rattle.segments.proofs.ClassLaws.{Told, settled_told, GroupTold, group_told}

-- the elements and groups of a text's trees, by their kinds, lengths and bytes
abbrev pub AllTold : List ℕ → Trees → Type 0
AllTold bytes none = Unit {0}
AllTold bytes (leaf before e) = AllTold bytes before × Told bytes e
AllTold bytes (group before kind first end newline within) = AllTold bytes before × GroupTold kind × AllTold bytes within

abbrev ToldLevels : List ℕ → Levels → Type 0
ToldLevels bytes (whole_text trees) = AllTold bytes trees
ToldLevels bytes (inside around kind first newline trees) = ToldLevels bytes around × GroupTold kind × AllTold bytes trees

told_on_top : (bytes : List ℕ) (add : Trees → Trees) → ((trees : Trees) → AllTold bytes trees → AllTold bytes (add trees)) → (levels : Levels)
    → ToldLevels bytes levels → ToldLevels bytes (on_top add levels)
told_on_top bytes add keeps (whole_text trees) p = keeps trees p
told_on_top bytes add keeps (inside around kind first newline trees) p = (p.0, p.1, keeps trees p.2)

told_taken : (bytes : List ℕ) (e : Element) → ((levels : Levels) → (e.kind ≡ 0 → ⊥) → Told bytes (settled_in levels e)) → {limits : Limits} {levels after : Levels}
    → Taken limits e levels after → ToldLevels bytes levels → ToldLevels bytes after
told_taken bytes e told (leaf_taken {levels = levels} n r) p = told_on_top bytes (λ before. leaf before (settled_in levels e)) (λ trees q. (q, told levels n)) levels p
told_taken bytes e told (open_taken {kind = kind} l h d r) p = (p, group_told kind l h, tt)
told_taken bytes e told (close_taken {around = around} {kind = kind} {first = first} {newline = newline} {trees = trees}) p =
    told_on_top bytes (λ before. group before kind first e.end newline trees) (λ before q. (q, p.1, p.2)) around p.0

pub reading_told : (bytes : List ℕ) (limits : Limits) → Accepts (AllTold bytes) (reading bytes limits)
reading_told bytes limits =
    reading_tells bytes limits (λ levels place. ToldLevels bytes levels) (Accepts (AllTold bytes))
    (λ levels place p. ending_accepts (ToldLevels bytes) levels p)
    (λ levels place fault p f. tt)
    (λ levels place e number at p f s. tt)
    (λ levels place e after p f s. told_taken bytes e (settled_told bytes place (stated_by levels) e f) (step_taken limits e levels after s) p)
    tt
