-- The kinds of the trees of a reading, and where its groups open.
use Rattle.std.specs.Prelude.{Ok, Some}
use mathlib.Core.Path.{◌≡◌, refl}
use mathlib.Core.Logic.{inl, inr}
use mathlib.Core.Bool.{◌&&◌, ◌||◌}
use mathlib.Core.List.{List, ◌++◌}
use Prim.Native.Nat.{ℕ, ◌+◌, ◌≤◌}
use native.Mathlib.Omega.{arith}
use lib.Dec.{eqb, ltb}
use lib.ListN.{length, length-append}
use lib.Seq.{take-append-le, drop-append-le, take-length, drop-length}
use Rattle.elements.specs.Elements.{element_at, sign_kind}
use Rattle.elements.specs.declared.Element.{Element}
use Rattle.elements.proofs.Bounds.{found_placed, fault_placed}
use Rattle.elements.proofs.Choices.{cond_both}
use Rattle.elements.proofs.FoundKinds.{found_kind}
use Rattle.rule.specs.Trees.{Trees, none, leaf, group, count}
use Rattle.rule.specs.Rule.{backwards, unanswered, increment_sign, decrement_sign, colon_sign, settled_kind}
use Rattle.rule.specs.Levels.{Levels, whole_text, inside, trees_of, slash_opens, stated_by, settled_in, on_top}
use Rattle.prefix.specs.Reading.{Limits, Reading, accepted, refused, ending, reading}
use Rattle.prefix.proofs.Induction.{reading_tells}
use Rattle.prefix.proofs.StepCases.{Taken, leaf_taken, open_taken, close_taken, step_taken, step_stopped}
use Rattle.storing.specs.Records.{records}
use Rattle.reading.specs.Nested.{content_cells, ElementKind, Nested}
use Rattle.storing.proofs.CellLaws.{records_length}

-- elements have kinds of their own, and groups 7 to 10
abbrev pub Formed : Trees → Type 0
Formed none = Unit {0}
Formed (leaf before e) = Formed before × ElementKind e.kind
Formed (group before kind first end newline within) = Formed before × (7 ≤ kind) × (kind ≤ 10) × Formed within

abbrev FormedLevels : Levels → Type 0
FormedLevels (whole_text trees) = Formed trees
FormedLevels (inside around kind first newline trees) = FormedLevels around × (7 ≤ kind) × (kind ≤ 10) × Formed trees

formed_on_top : (add : Trees → Trees) → ((trees : Trees) → Formed trees → Formed (add trees)) → (levels : Levels) → FormedLevels levels → FormedLevels (on_top add levels)
formed_on_top add keeps (whole_text trees) p = keeps trees p
formed_on_top add keeps (inside around kind first newline trees) p = (p.0, p.1, p.2, keeps trees p.3)

-- so has an element of its settled kind
settled-kind : (levels : Levels) (e : Element) → (e.kind ≡ 0 → ⊥) → e.kind ≤ 6 → ElementKind (settled_in levels e).kind
unfolding settled_kind
settled-kind levels e n k =
    cond_both ElementKind (eqb e.kind sign_kind)
    (cond_both ElementKind (eqb e.which increment_sign || eqb e.which decrement_sign)
    (cond_both ElementKind (slash_opens levels || e.newline) (inr (omega arith)) (inr (omega arith)))
    (cond_both ElementKind (eqb e.which colon_sign && ltb 0 (unanswered (backwards (trees_of levels)))) (inr (omega arith)) (inl (omega arith))))
    (inl (omega arith))

formed_taken : (e : Element) → e.kind ≤ 6 → {limits : Limits} {levels after : Levels} → Taken limits e levels after → FormedLevels levels → FormedLevels after
formed_taken e k (leaf_taken {levels = levels} n r) p = formed_on_top (λ before. leaf before (settled_in levels e)) (λ trees q. (q, settled-kind levels e n k)) levels p
formed_taken e k (open_taken l h d r) p = (p, l, h, tt)
formed_taken e k (close_taken {around = around} {kind = kind} {first = first} {newline = newline} {trees = trees}) p =
    formed_on_top (λ before. group before kind first e.end newline trees) (λ before q. (q, p.1, p.2, p.3)) around p.0

abbrev FormedReading : Reading → Type 0
FormedReading (accepted trees) = Formed trees
FormedReading (refused number place) = Unit {0}

formed_ending : (levels : Levels) → FormedLevels levels → FormedReading (ending levels)
formed_ending (whole_text trees) p = p
formed_ending (inside around kind first newline trees) p = tt

pub reading_formed : (bytes : List ℕ) (limits : Limits) → FormedReading (reading bytes limits)
reading_formed bytes limits =
    reading_tells bytes limits (λ levels place. FormedLevels levels) FormedReading
    (λ levels place p. formed_ending levels p)
    (λ levels place fault p f. tt)
    (λ levels place e number at p f s. tt)
    (λ levels place e after p f s. formed_taken e (found_kind bytes place (stated_by levels) e f) (step_taken limits e levels after s) p)
    tt

-- the records of such trees are well nested
nested_append : {a b : List ℕ} → Nested a → Nested b → Nested (a ++ b)
nested_append Nested.empty q = q
nested_append (Nested.element k n p) q = Nested.element k n (nested_append p q)
nested_append {b = b} (Nested.group {number = number} {rest = rest} l h n f c p) q =
    let m = content_cells number in
    Nested.group {rest = rest ++ b} l h n (omega (arith, length-append rest b)) (rw (take-append-le m rest b f) c) (rw (drop-append-le m rest b f) (nested_append p q))

pub records_nested : (trees : Trees) → Formed trees → Nested (records trees)
unfolding records
records_nested none p = Nested.empty
records_nested (leaf before e) p = nested_append (records_nested before p.0) (Nested.element p.1 refl Nested.empty)
records_nested (group before kind first end newline within) p =
    let m : content_cells (count within + 1) ≡ length (records within) = omega (arith, records_length within) in
    nested_append (records_nested before p.0)
    (Nested.group {number = count within + 1} {rest = records within} p.1 p.2 (omega arith) (omega arith)
    (rw (m, take-length (records within)) (records_nested within p.3))
    (rw (m, drop-length (records within)) Nested.empty))

-- each open group starts within the text
abbrev Opened : ℕ → Levels → Type 0
Opened bound (whole_text trees) = Unit {0}
Opened bound (inside around kind first newline trees) = (first ≤ bound) × Opened bound around

opened_on_top : (bound : ℕ) (add : Trees → Trees) (levels : Levels) → Opened bound levels → Opened bound (on_top add levels)
opened_on_top bound add (whole_text trees) p = tt
opened_on_top bound add (inside around kind first newline trees) p = p

opened_taken : (bound : ℕ) (e : Element) → e.first ≤ bound → {limits : Limits} {levels after : Levels} → Taken limits e levels after → Opened bound levels → Opened bound after
opened_taken bound e b (leaf_taken {levels = levels} n r) p = opened_on_top bound (λ before. leaf before (settled_in levels e)) levels p
opened_taken bound e b (open_taken l h d r) p = (b, p)
opened_taken bound e b (close_taken {around = around} {kind = kind} {first = first} {newline = newline} {trees = trees}) p =
    opened_on_top bound (λ before. group before kind first e.end newline trees) around p.1

-- and so does each fault
abbrev RefusedWithin : ℕ → Reading → Type 0
RefusedWithin bound (accepted trees) = Unit {0}
RefusedWithin bound (refused number place) = place ≤ bound

ending_within : (bound : ℕ) (levels : Levels) → Opened bound levels → RefusedWithin bound (ending levels)
ending_within bound (whole_text trees) p = tt
ending_within bound (inside around kind first newline trees) p = p.0

pub reading_within_text : (bytes : List ℕ) (limits : Limits) → RefusedWithin (length bytes) (reading bytes limits)
reading_within_text bytes limits =
    reading_tells bytes limits (λ levels place. Opened (length bytes) levels) (RefusedWithin (length bytes))
    (λ levels place p. ending_within (length bytes) levels p)
    (λ levels place fault p f. omega (arith, fault_placed bytes place (stated_by levels) fault f))
    (λ levels place e number at p f s. rw (step_stopped limits e levels number at s) (starts levels place e f))
    (λ levels place e after p f s. opened_taken (length bytes) e (starts levels place e f) (step_taken limits e levels after s) p)
    tt
  where
    starts : (levels : Levels) (place : ℕ) (e : Element) → element_at bytes place (stated_by levels) ≡ Ok (Some e) → e.first ≤ length bytes
    starts levels place e f =
        let placed = found_placed bytes place (stated_by levels) e f in
        omega (arith, placed.some, placed.within)
