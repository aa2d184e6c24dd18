-- Document 01, Grammar: "A slash is met where an element would start with it and no comment starts there. It is taken as a
-- regular expression or as the longest sign at that place. A choice is one such answer for each slash met, left to right;
-- which slashes are met later depends on the earlier answers." With document 02, U1 and U2, a reserved word that is met is taken as a
-- word or as a name, and a choice has one such answer for it too.
use Rattle.std.specs.Prelude.{ℕ, ◌≡◌, Bool, true, false, cond, ◌&&◌, ◌||◌, List, [], ◌∷◌, eqb, Ok, Some, None}
use Rattle.elements.specs.Elements.{stating, element_at, slash_met, word_met, delimiter_kind, paren_closer, brace_closer, bracket_closer}
use Rattle.elements.specs.declared.Element.{Element}

-- a closer: `)`, `}` or `]`
abbrev pub is_closer : Element → Bool
is_closer e = eqb e.kind delimiter_kind && (eqb e.which paren_closer || eqb e.which brace_closer || eqb e.which bracket_closer)

-- an element with its newline flag; a closer has no tree record, and so no newline flag
abbrev pub recorded : Element → Element
recorded e = record { kind = e.kind; which = e.which; first = e.first; end = e.end; newline = cond (is_closer e) false e.newline }

-- "With that choice the rules under Elements cut the whole text into elements and blanks, with no illegal byte and no element or
-- comment that has a fault of its own": the elements of a text from a place on, by a choice. True takes a slash as a regular
-- expression, and a reserved word as a name. Where neither is met there is no answer to give, and elements are the same under all.
pub data Cuts (text : List ℕ) : ℕ → List Bool → List Element → Type 0 where
  cut_end : {place : ℕ} → element_at text place (stating false false) ≡ Ok None → Cuts text place [] []
  cut_element : {place : ℕ} {e : Element} {choice : List Bool} {es : List Element} → slash_met text place ≡ false → word_met text place ≡ false
      → element_at text place (stating false false) ≡ Ok (Some e) → Cuts text e.end choice es → Cuts text place choice (recorded e ∷ es)
  cut_slash : {place : ℕ} {e : Element} {answer : Bool} {choice : List Bool} {es : List Element} → slash_met text place ≡ true
      → element_at text place (stating answer false) ≡ Ok (Some e) → Cuts text e.end choice es → Cuts text place (answer ∷ choice) (recorded e ∷ es)
  cut_word : {place : ℕ} {e : Element} {answer : Bool} {choice : List Bool} {es : List Element} → word_met text place ≡ true
      → element_at text place (stating false answer) ≡ Ok (Some e) → Cuts text e.end choice es → Cuts text place (answer ∷ choice) (recorded e ∷ es)

-- the elements of a text from a place on, by some choice
pub record CutsInto (text : List ℕ) (place : ℕ) (es : List Element) : Type 0 where
  pub choice : List Bool
  pub cut : Cuts text place choice es
