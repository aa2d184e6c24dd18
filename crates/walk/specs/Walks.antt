-- Document 01, Elements: "A walk over one text keeps that text and gives the next element at each call".
use Rattle.std.specs.Prelude.{ℕ, List, Ok, Err, Some, None}
use Rattle.std.specs.Borrow.{Bor}
use Rattle.elements.specs.Elements.{element_at}
use Rattle.elements.specs.Elements.{Next}
use Rattle.elements.specs.declared.Stated.{Stated}
use Rattle.walk.specs.declared.Turn.{Turn}
use Rattle.walk.specs.declared.Walk.{Walk}

-- a walk over a text, at its start
abbrev pub begun : Bor (List ℕ) → Walk
begun text = record { text = text; at = 0 }

-- "gives the next element": what a walk meets under stated answers
abbrev pub met : Walk → Stated → Next
met walk stated = element_at walk.text.now walk.at stated

-- the place of a walk that stood at `at`, once it has met what is next: behind an element, else where it was
abbrev pub place_after : ℕ → Next → ℕ
place_after at (Ok None) = at
place_after at (Ok (Some e)) = e.end
place_after at (Err fault) = at

-- "keeps that text": the walk once it has met what is next
abbrev pub moved : Walk → Next → Walk
moved walk next = record { text = walk.text; at = place_after walk.at next }

-- what a walk over a text that stands at `at` meets, and its place then
abbrev pub turn_at : List ℕ → ℕ → Stated → Turn
turn_at text at stated = record { next = element_at text at stated; at = place_after at (element_at text at stated) }
