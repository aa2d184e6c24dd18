-- Demand 3: what its statements over derivations say (`derivations/proofs/Theorems.antt`). Document 02, U2: "The agreement of reading and derivation then
-- reaches programs with lists.", U4: "Derivations range over this grammar too", and U6:
-- "The agreement covers these too.": derivations have all of them (Grammar.antt).
use Rattle.std.specs.Prelude.{ℕ, ◌+◌, ◌≤◌, ◌<◌, ◌≡◌, Bool, true, false, not, cond, ◌&&◌, ◌||◌, eqb, get_or, Ok, Some, None}
use mathlib.Core.List.{List, [], ◌∷◌, Memᴰ}
use Rattle.text.specs.Quoted.{byte}
use Rattle.elements.specs.Elements.{stating, element_at, slash_met, word_met, name_kind, word_kind, pattern_kind}
use Rattle.elements.specs.declared.Element.{Element}
use Rattle.rule.specs.Trees.{Trees}
use Rattle.rule.specs.Levels.{Levels, slash_opens, word_is_name}
use Rattle.prefix.specs.Reading.{more, step, accepted, unlimited, unlimited_reading}
use Rattle.derivations.specs.Cuts.{recorded}
use Rattle.machine.specs.Syntax.{size, marks_of, Distinct}
use Rattle.derivations.specs.Derivations.{Derivation, syntax_tree, count_trees}
use Rattle.derivations.specs.TreeElements.{elements_of}

-- the prefix rule reads a text as these elements, limits aside
pub record ReadAs (text : List ℕ) (es : List Element) : Type 0 where
  pub trees : Trees
  pub reads : unlimited_reading text ≡ accepted trees
  pub same : elements_of trees ≡ es

-- "the prefix rule takes each slash of a program as its derivation does": along the elements that a choice cuts from a place on, with these
-- levels before it, the rule's answer at each slash and each reserved word that is met is the choice's, and each element is the reading's
-- next step
pub data RuleTakes (text : List ℕ) : Levels → ℕ → List Bool → List Element → Type 0 where
  takes_end : {levels : Levels} {place : ℕ} → element_at text place (stating false false) ≡ Ok None → RuleTakes text levels place [] []
  takes_element : {levels next : Levels} {place : ℕ} {e : Element} {choice : List Bool} {es : List Element} → slash_met text place ≡ false
      → word_met text place ≡ false → element_at text place (stating false false) ≡ Ok (Some e) → step (unlimited text) levels e ≡ more next → RuleTakes text next e.end choice es
      → RuleTakes text levels place choice (recorded e ∷ es)
  takes_slash : {levels next : Levels} {place : ℕ} {e : Element} {answer : Bool} {choice : List Bool} {es : List Element} → slash_met text place ≡ true
      → slash_opens levels ≡ answer → element_at text place (stating answer false) ≡ Ok (Some e) → step (unlimited text) levels e ≡ more next
      → RuleTakes text next e.end choice es → RuleTakes text levels place (answer ∷ choice) (recorded e ∷ es)
  takes_word : {levels next : Levels} {place : ℕ} {e : Element} {answer : Bool} {choice : List Bool} {es : List Element} → word_met text place ≡ true
      → word_is_name levels ≡ answer → element_at text place (stating false answer) ≡ Ok (Some e) → step (unlimited text) levels e ≡ more next
      → RuleTakes text next e.end choice es → RuleTakes text levels place (answer ∷ choice) (recorded e ∷ es)

-- "any two grammar derivations take every slash alike and have one syntax tree"; every reserved word too
pub record OneDerivation {text : List ℕ} (d f : Derivation text) : Type 0 where
  pub same_elements : d.elements ≡ f.elements
  pub same_answers : d.choice ≡ f.choice
  pub same_syntax : syntax_tree d ≡ syntax_tree f

-- an element that is a reserved word, taken as a word or as a name
abbrev pub is_reserved : Element → Bool
is_reserved e = not (eqb e.which 0) && (eqb e.kind word_kind || eqb e.kind name_kind)

-- the answers to the slashes and the reserved words among elements of a text
abbrev pub answers_of : List ℕ → List Element → List Bool
answers_of text [] = []
answers_of text (e ∷ es) =
    cond (eqb (get_or text e.first 0) (byte "/")) (eqb e.kind pattern_kind ∷ answers_of text es)
    (cond (is_reserved e) (eqb e.kind name_kind ∷ answers_of text es) (answers_of text es))

-- a syntax tree has at most one record more than the tree records, each with a mark of its own (document 02, U4: "no two records share a mark"): that of
-- a tree record, or, the program's, the number of them
pub record FewParts {text : List ℕ} (d : Derivation text) : Type 0 where
  pub few : size (syntax_tree d) ≤ count_trees d.elements + 1
  pub own : Distinct (marks_of (syntax_tree d))
  pub marked_by : (m : ℕ) → Memᴰ m (marks_of d.parts) → m < count_trees d.elements
