-- What a level holds once a record is put, or a part waits.
use mathlib.Core.Path.{◌≡◌, ◌∙◌, ap}
use mathlib.Core.List.{List, ◌∷◌}
use Prim.Native.Nat.{ℕ, ◌+◌, ◌-◌, ◌≤◌, ◌<◌}
use native.Mathlib.Omega.{arith}
use lib.ListN.{length, get_or, length-set}
use lib.Seq.{get_or-set_same, get_or-set_other}
use Rattle.tables.specs.Records.{most_trees}
use Rattle.machine.specs.Syntax.{Syntax, nil, snoc, node, size}
use Rattle.machine.specs.Machinery.Machine.{Pending, pending}
use Rattle.controls.specs.Machinery.Written.{put_record, put_syntax}
use Rattle.waiting.specs.Machinery.Waiting.{nothing_waits, lefts, Stacked, bare, above, Holds, stack_with, stack_as, waiting_one, made_one, restarted}
use Rattle.waiting.specs.declared.Level.{Level}
use Rattle.waiting.specs.declared.Waiting.{Waiting}

-- one part more leaves the stack as long, and as it was below
pub stack_long : (stack : List Waiting) (top kind mark start : ℕ) → length (stack_with stack top kind mark start) ≡ length stack
stack_long stack top kind mark start = length-set stack top (record { kind = kind; mark = mark; start = start })

pub stack_kept : (stack : List Waiting) (top kind mark start k : ℕ) → k < top → get_or (stack_with stack top kind mark start) k nothing_waits ≡ get_or stack k nothing_waits
stack_kept stack top kind mark start k less =
    get_or-set_other stack top k (record { kind = kind; mark = mark; start = start }) nothing_waits (λ e. absurd (omega arith))

-- the stack may change above what waits
kept_stacked : {stack after : List Waiting} {floor first : ℕ} {done : Syntax} {ps : List Pending} {top : ℕ} → length after ≡ length stack
    → ((k : ℕ) → k < top → get_or after k nothing_waits ≡ get_or stack k nothing_waits) → Stacked stack floor first done ps top → Stacked after floor first done ps top
kept_stacked long same bare = bare
kept_stacked long same (above {top = top} below fits is marked) =
    above (kept_stacked long (λ i h. same i (omega arith)) below) (omega arith) (same top (omega arith) ∙ is) marked

-- what waits uppermost may have another kind and another left side
other_stacked : {stack : List Waiting} {floor first : ℕ} {done : Syntax} {kind mark top : ℕ} {left after : Syntax} {ps : List Pending} (next : ℕ)
    → Stacked stack floor first done (pending kind mark left ∷ ps) top → Stacked (stack_as stack top next) floor first done (pending next mark after ∷ ps) top
other_stacked {stack = stack} next (above {top = top} below fits is marked) =
    let same : top + 1 - 1 ≡ top = omega arith in
    let w = record (get_or stack top nothing_waits) { kind = next } in
    rw same
    (above (kept_stacked (length-set stack top w) (λ i h. get_or-set_other stack top i w nothing_waits (λ e. absurd (omega arith))) below) (simp length-set fits)
    (get_or-set_same stack top w nothing_waits fits ∙ ap (λ (v : Waiting). record v { kind = next }) is) marked)

module _ {table : List ℕ} {first : ℕ} {done : Syntax} {ps : List Pending} {l : Level} {stack : List Waiting} {cells : List ℕ} where
  -- a part is the operand now that holds what the operand held
  made-of : {operand part : Syntax} (kind mark : ℕ) → Holds table first done ps operand l stack cells → l.count + l.top < most_trees → size part ≡ size operand + 1
      → put_record (put_syntax table first (snoc (lefts done ps) operand)) (first + size (lefts done ps) + size operand) kind mark (size operand + 1) ≡ put_syntax table first (snoc (lefts done ps) part)
      → Holds table first done ps part (made_one l) stack (put_record cells l.count kind mark (l.count - l.start + 1))
  made-of {operand = operand} kind mark h room sized same =
      let a : l.count ≡ first + size (lefts done ps) + size operand = omega (arith, h.counts, h.starts) in
      let b : l.count - l.start + 1 ≡ size operand + 1 = omega (arith, h.counts) in
      record {
        stacked = h.stacked;
        starts = h.starts;
        counts = omega (arith, h.counts);
        written = rw (b, a, h.written) same;
        few = omega arith;
      }

  -- one with one part of its own, the operand; with nothing before it a leaf
  pub made_held : {operand : Syntax} (kind mark : ℕ) → Holds table first done ps operand l stack cells → l.count + l.top < most_trees
      → Holds table first done ps (node kind mark operand nil) (made_one l) stack (put_record cells l.count kind mark (l.count - l.start + 1))
  unfolding put_syntax
  made_held {operand = operand} kind mark h room =
      let a : first + size (lefts done ps) + size operand + 0 ≡ first + size (lefts done ps) + size operand = omega arith in
      let b : size operand + 0 + 1 ≡ size operand + 1 = omega arith in
      made-of kind mark h room (omega arith) (rw (a, b))

  -- and with two parts
  pub made_both : {left right : Syntax} (kind mark : ℕ) → Holds table first done ps (snoc left right) l stack cells → l.count + l.top < most_trees
      → Holds table first done ps (node kind mark left right) (made_one l) stack (put_record cells l.count kind mark (l.count - l.start + 1))
  unfolding put_syntax
  made_both {left = left} {right = right} kind mark h room =
      let a : first + size (lefts done ps) + (size left + size right) ≡ first + size (lefts done ps) + size left + size right = omega arith in
      made-of kind mark h room (omega arith) (rw a)

  -- a value is put behind the operand, by levels that may change the stack above
  pub valued_held : {operand : Syntax} {after : List Waiting} {cells' : List ℕ} {count : ℕ} (value : Syntax) → Holds table first done ps operand l stack cells → length after ≡ length stack
      → ((k : ℕ) → k < l.top → get_or after k nothing_waits ≡ get_or stack k nothing_waits) → count ≡ l.count + size value → cells' ≡ put_syntax cells l.count value
      → count + l.top ≤ most_trees
      → Holds table first done ps (snoc operand value) (record l { count = count }) after cells'
  unfolding put_syntax
  valued_held {operand = operand} value h long same n e room =
      let a : l.count ≡ first + size (lefts done ps) + size operand = omega (arith, h.counts, h.starts) in
      record {
        stacked = kept_stacked long same h.stacked;
        starts = h.starts;
        counts = omega (arith, h.counts);
        written = rw (e, h.written, a);
        few = room;
      }

  -- a part waits, with the operand as its left side
  pub waits_held : {operand : Syntax} (kind mark : ℕ) → Holds table first done ps operand l stack cells → l.count + l.top < most_trees → mark ≤ most_trees
      → l.top < length stack
      → Holds table first done (pending kind mark operand ∷ ps) nil (waiting_one l) (stack_with stack l.top kind mark l.start) cells
  unfolding put_syntax
  waits_held kind mark h room marked fits =
      let w : Waiting = record { kind = kind; mark = mark; start = l.start } in
      record {
        stacked = above
            (kept_stacked (stack_long stack l.top kind mark l.start) (stack_kept stack l.top kind mark l.start) h.stacked)
            (simp length-set fits)
            (get_or-set_same stack l.top w nothing_waits fits ∙ ap (λ (i : ℕ). record w { start = i }) h.starts)
            marked;
        starts = omega (arith, h.counts, h.starts);
        counts = omega arith;
        written = h.written;
        few = omega arith;
      }

  -- an open `?` is answered: what was the operand is the rest of its left side
  pub answered_held : {kind mark : ℕ} {left value : Syntax} (next : ℕ) → Holds table first done (pending kind mark (snoc left nil) ∷ ps) value l stack cells
      → Holds table first done (pending next mark (snoc left value) ∷ ps) nil (restarted l) (stack_as stack l.top next) cells
  unfolding put_syntax
  answered_held {left = left} {value = value} next h =
      let a : first + (size (lefts done ps) + (size left + 0)) ≡ first + size (lefts done ps) + size left = omega arith in
      record {
        stacked = other_stacked next h.stacked;
        starts = omega (arith, h.counts, h.starts);
        counts = omega arith;
        written = h.written ∙ ap (λ i. put_syntax (put_syntax (put_syntax table first (lefts done ps)) (first + size (lefts done ps)) left) i value) a;
        few = h.few;
      }

  -- what waits uppermost has another kind, and nothing stands behind it
  pub kind_held : {kind mark : ℕ} {left : Syntax} (next : ℕ) → Holds table first done (pending kind mark left ∷ ps) nil l stack cells
      → Holds table first done (pending next mark left ∷ ps) nil (restarted l) (stack_as stack l.top next) cells
  kind_held next h =
      record {
        stacked = other_stacked next h.stacked;
        starts = omega (arith, h.counts, h.starts);
        counts = omega arith;
        written = h.written;
        few = h.few;
      }
