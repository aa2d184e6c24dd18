-- At the text's end: nothing is open, or the innermost group's record has its first byte.
use native.Mathlib.Omega.{arith}
use Rattle.reader.proofs.ReadLaws.{index_small, ends_accepted, ends_unclosed}
use Rattle.reader.proofs.ending.Goals as goal

pub returns-then-state-eq0 : goal.returns-then-state-eq0
returns-then-state-eq0 c = λ before room levels h. ends_accepted before _ _ room _ levels h c.if-state-eq0.true

pub overflow_cast-index : goal.overflow_cast-index
overflow_cast-index c = let h = c.requires.1.holds in
    omega (arith, index_small _ _ _ _ _ _ h (omega arith), h.some, h.room_fits, h.room_small, h.length_is, h.represented.records_is)

pub overflow_mul-first : goal.overflow_mul-first
overflow_mul-first c = let h = c.requires.1.holds in
    omega (arith, index_small _ _ _ _ _ _ h (omega arith), h.some, h.room_fits, h.room_small, h.length_is, h.represented.records_is)

pub overflow_add-first : goal.overflow_add-first
overflow_add-first c = let h = c.requires.1.holds in
    omega (arith, index_small _ _ _ _ _ _ h (omega arith), h.some, h.room_fits, h.room_small, h.length_is, h.represented.records_is)

pub offset_bounds-trees-index : goal.offset_bounds-trees-index
offset_bounds-trees-index c = let h = c.requires.1.holds in
    omega (arith, index_small _ _ _ _ _ _ h (omega arith), h.some, h.room_fits, h.room_small, h.length_is, h.represented.records_is)

pub bounds-trees-index : goal.bounds-trees-index
bounds-trees-index c = let h = c.requires.1.holds in
    omega (arith, index_small _ _ _ _ _ _ h (omega arith), h.some, h.room_fits, h.room_small, h.length_is, h.represented.records_is)

pub returns : goal.returns
returns c = λ before room levels h. ends_unclosed before _ _ room _ levels h c.if-state-eq0.false
