-- Document 01, Refused texts: "Elements are then taken left to right, .. and the first fault met answers; an element's own
-- faults and 9 precede 12." A text to trees, element by element.
use Rattle.std.specs.Prelude.{ℕ, zero, suc, ◌≡◌, Bool, cond, ◌||◌, List, eqb, leb, length, Ok, Err, Some, None}
use Rattle.answers.specs.Faults.{fault_number, fault_place}
use Rattle.elements.specs.Elements.{element_at, delimiter_kind, paren_opener, paren_closer, brace_opener, bracket_opener, bracket_closer}
use Rattle.elements.specs.declared.Element.{Element}
use Rattle.elements.specs.Elements.{Next}
use Rattle.rule.specs.Trees.{Trees, none, leaf, group, paren_kind, object_kind, block_kind, bracket_kind}
use Rattle.rule.specs.Levels.{Levels, whole_text, inside, stated_by, settled_in, brace_opens, depth, count_so_far, on_top}

-- Document 01, Refused texts, row 9, deep: "opener inside 100 open groups"; place: the opener
abbrev pub deep : ℕ
deep = 9

-- row 10, closer: "nothing open, or the other shape"; place: the closer
abbrev pub wrong_closer : ℕ
wrong_closer = 10

-- row 11, unclosed: "text ends in a group"; place: the innermost opener
abbrev pub unclosed : ℕ
unclosed = 11

-- row 12, trees full: "an element needs a record and the table or 16,384 is used up"; place: the element
abbrev pub trees_full : ℕ
trees_full = 12

-- How many groups may be open, and how many records there is room for. A call sets them: reading, 100 and the room of the
-- table that it is lent.
pub record Limits : Type 0 where
  pub groups : ℕ
  pub room : ℕ

-- what an element makes of the levels: others, or a fault with its number and place
pub data Step : Type 0 where
  stop : ℕ → ℕ → Step
  more : Levels → Step

-- an element that is no delimiter, with the kind that the rule settles; 12 where "an element needs a record and the table or 16,384 is used up"
abbrev pub add_leaf : Limits → Levels → Element → Step
add_leaf limits levels e =
    cond (leb limits.room (count_so_far levels)) (stop trees_full e.first)
    (more (on_top (λ before. leaf before (settled_in levels e)) levels))

-- an opener of a group of that kind; 9 precedes 12
abbrev pub open_group : Limits → Levels → ℕ → Element → Step
open_group limits levels kind e =
    cond (leb limits.groups (depth levels)) (stop deep e.first)
    (cond (leb limits.room (count_so_far levels)) (stop trees_full e.first)
    (more (inside levels kind e.first e.newline none)))

-- `)` closes `( )`; `]` closes `[ ]`; `}`, the other closer, an object or a block
abbrev pub closes : ℕ → ℕ → Bool
closes which kind =
    cond (eqb which paren_closer) (eqb kind paren_kind)
    (cond (eqb which bracket_closer) (eqb kind bracket_kind)
    (eqb kind object_kind || eqb kind block_kind))

-- a closer; 10 for "nothing open, or the other shape"
abbrev pub close_group : Levels → Element → Step
close_group (whole_text trees) e = stop wrong_closer e.first
close_group (inside around kind first newline trees) e =
    cond (closes e.which kind) (more (on_top (λ before. group before kind first e.end newline trees) around))
    (stop wrong_closer e.first)

-- a delimiter
abbrev pub delimit : Limits → Levels → Element → Step
delimit limits levels e =
    cond (eqb e.which paren_opener) (open_group limits levels paren_kind e)
    (cond (eqb e.which brace_opener) (open_group limits levels (cond (brace_opens levels e.newline) object_kind block_kind) e)
    (cond (eqb e.which bracket_opener) (open_group limits levels bracket_kind e)
    (close_group levels e)))

-- an element
unfoldable pub step : Limits → Levels → Element → Step
step limits levels e = cond (eqb e.kind delimiter_kind) (delimit limits levels e) (add_leaf limits levels e)

-- the trees of a text, or the number and place of its first fault
pub data Reading : Type 0 where
  accepted : Trees → Reading
  refused : ℕ → ℕ → Reading

-- the text's end; 11 where "text ends in a group", at the "innermost opener"
abbrev pub ending : Levels → Reading
ending (whole_text trees) = accepted trees
ending (inside around kind first newline trees) = refused unclosed first

-- what follows a step that was taken at an element with that end: the reading is over, or goes on there
pub data Progress : Type 0 where
  over : Reading → Progress
  on : Levels → ℕ → Progress

abbrev pub stepped : ℕ → Step → Progress
stepped end (stop number place) = over (refused number place)
stepped end (more levels) = on levels end

-- what stands at the place where an element is looked for
abbrev pub met : Limits → Levels → Next → Progress
met limits levels (Ok None) = over (ending levels)
met limits levels (Err fault) = over (refused (fault_number fault) (fault_place fault))
met limits levels (Ok (Some e)) = stepped e.end (step limits levels e)

-- the next element at a place, where the prefix rule states what a slash does there, and whether a reserved word is a name
unfoldable pub proceed : List ℕ → Limits → Levels → ℕ → Progress
proceed bytes limits levels place = met limits levels (element_at bytes place (stated_by levels))

-- the rest of a reading; there are fewer elements than `fuel`, so that it is not used up (`reading_comes` of `prefix/proofs/Fuel.antt`)
unfoldable pub read_on : List ℕ → Limits → ℕ → Levels → ℕ → Reading
read_on bytes limits zero levels place = ending levels
read_on bytes limits (suc fuel) levels place =
    elim (proceed bytes limits levels place) [ over reading ↦ reading | on after next ↦ read_on bytes limits fuel after next ]

-- the reading of a text under limits
unfoldable pub reading : List ℕ → Limits → Reading
reading bytes limits = read_on bytes limits (suc (length bytes)) (whole_text none) 0

-- the same without fuel: the reading that steps lead to from levels at a place
pub data Comes (bytes : List ℕ) (limits : Limits) (read : Reading) : Levels → ℕ → Type 0 where
  comes_over : {levels : Levels} {place : ℕ} → proceed bytes limits levels place ≡ over read → Comes bytes limits read levels place
  comes_on : {levels after : Levels} {place next : ℕ} → proceed bytes limits levels place ≡ on after next → Comes bytes limits read after next
      → Comes bytes limits read levels place

-- Reading without limits, which demand 3 is about. Each element has a byte of its own, so that no reading passes limits as large as its text is
-- long: `unlimited_number` of `prefix/proofs/Unlimited.antt`.
abbrev pub unlimited : List ℕ → Limits
unlimited bytes = record { groups = length bytes; room = length bytes }

abbrev pub unlimited_reading : List ℕ → Reading
unlimited_reading bytes = reading bytes (unlimited bytes)
