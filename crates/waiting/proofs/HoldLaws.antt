-- What a level holds: how far it reaches, and what changes with no record written.
use mathlib.Core.Path.{◌≡◌, refl, sym, ◌∙◌, ap}
use mathlib.Core.List.{List, [], ◌∷◌}
use Prim.Native.Nat.{ℕ, ◌+◌, ◌-◌, ◌≤◌, ◌<◌}
use native.Mathlib.Omega.{arith}
use lib.ListN.{length, get_or}
use Rattle.tables.specs.Records.{most_trees}
use Rattle.machine.specs.Syntax.{Syntax, nil, snoc, size}
use Rattle.machine.specs.Machinery.Machine.{Pending, pending}
use Rattle.controls.specs.Machinery.Written.{put_syntax}
use Rattle.waiting.specs.Machinery.Waiting.{nothing_waits, popped, lefts, Stacked, bare, above, Holds, Backed, with_held, restarted}
use Rattle.waiting.specs.declared.Level.{Level}
use Rattle.waiting.specs.declared.Waiting.{Waiting}

-- what waits uppermost, as it stands on the stack
pub record Uppermost (stack : List Waiting) (floor first : ℕ) (done : Syntax) (kind mark : ℕ) (ps : List Pending) (top : ℕ) : Type 0 where
  pub below : Stacked stack floor first done ps (top - 1)
  pub some : 1 ≤ top
  pub higher : floor < top
  pub fits : top ≤ length stack
  pub kind_is : (get_or stack (top - 1) nothing_waits).kind ≡ kind
  pub mark_is : (get_or stack (top - 1) nothing_waits).mark ≡ mark
  pub start_is : (get_or stack (top - 1) nothing_waits).start ≡ first + size (lefts done ps)
  pub marked : mark ≤ most_trees

module _ {stack : List Waiting} {floor first : ℕ} {done : Syntax} where
  stacked_up : {ps : List Pending} {top : ℕ} → Stacked stack floor first done ps top → floor ≤ top
  stacked_up bare = omega arith
  stacked_up (above below fits is marked) = let h = stacked_up below in omega arith

  uppermost_stacked : {kind mark top : ℕ} {left : Syntax} {ps : List Pending} → Stacked stack floor first done (pending kind mark left ∷ ps) top
      → Uppermost stack floor first done kind mark ps top
  uppermost_stacked (above {top = top} below fits is marked) =
      let same : top + 1 - 1 ≡ top = omega arith in
      let up = stacked_up below in
      record {
        below = rw same below;
        some = omega arith;
        higher = omega arith;
        fits = omega arith;
        kind_is = rw (same, is);
        mark_is = rw (same, is);
        start_is = rw (same, is);
        marked = marked;
      }

  none_above : {top : ℕ} → Stacked stack floor first done [] top → top ≡ floor
  none_above bare = refl

  -- neither the statements done at the bottom nor the left side of what waits stands on the stack
  bare_any : {after : Syntax} {top : ℕ} → Stacked stack floor first done [] top → Stacked stack floor first after [] top
  bare_any bare = bare

  left_any : {kind mark top : ℕ} {left after : Syntax} {ps : List Pending} → Stacked stack floor first done (pending kind mark left ∷ ps) top
      → Stacked stack floor first done (pending kind mark after ∷ ps) top
  left_any (above below fits is marked) = above below fits is marked

-- where parts are put does not depend on how they are held together
module _ (table : List ℕ) (first : ℕ) where
  put_nested : (a b d : Syntax) → put_syntax table first (snoc (snoc a b) d) ≡ put_syntax table first (snoc a (snoc b d))
  unfolding put_syntax
  put_nested a b d =
      let e : first + (size a + size b) ≡ first + size a + size b = omega arith in
      ap (λ i. put_syntax (put_syntax (put_syntax table first a) (first + size a) b) i d) e

  put_alone : (a b : Syntax) → put_syntax table first (snoc a (snoc nil b)) ≡ put_syntax table first (snoc a b)
  unfolding put_syntax
  put_alone a b =
      let e : first + size a + 0 ≡ first + size a = omega arith in
      ap (λ i. put_syntax (put_syntax table first a) i b) e

module _ {table : List ℕ} {first : ℕ} {done : Syntax} {ps : List Pending} {operand : Syntax} {l : Level} {stack : List Waiting} {cells : List ℕ} where
  pub backed : Holds table first done ps operand l stack cells → Backed l stack cells
  backed h = record { table = table; first = first; done = done; ps = ps; operand = operand; holds = h }

  -- what putting a record and letting a part wait ask for
  pub start_le : Holds table first done ps operand l stack cells → l.start ≤ l.count
  start_le h = omega (arith, h.counts)

  pub floor_le : Holds table first done ps operand l stack cells → l.floor ≤ l.top
  floor_le h = stacked_up h.stacked

  -- the word that is held is none of this
  pub word_held : (word : ℕ) → Holds table first done ps operand l stack cells → Holds table first done ps operand (with_held word l) stack cells
  word_held word h = record { stacked = h.stacked; starts = h.starts; counts = h.counts; written = h.written; few = h.few }

  -- one part alone is that part
  pub alone_held : Holds table first done ps (snoc nil operand) l stack cells → Holds table first done ps operand l stack cells
  alone_held h =
      record {
        stacked = h.stacked;
        starts = h.starts;
        counts = omega (arith, h.counts);
        written = h.written ∙ put_alone table first (lefts done ps) operand;
        few = h.few;
      }

module _ {table : List ℕ} {first : ℕ} {done : Syntax} {l : Level} {stack : List Waiting} {cells : List ℕ} where
  pub bottom_top : {operand : Syntax} → Holds table first done [] operand l stack cells → l.top ≡ l.floor
  bottom_top h = none_above h.stacked

  pub uppermost : {kind mark : ℕ} {left operand : Syntax} {ps : List Pending} → Holds table first done (pending kind mark left ∷ ps) operand l stack cells
      → Uppermost stack l.floor first done kind mark ps l.top
  uppermost h = uppermost_stacked h.stacked

  -- a statement goes to those done: at the bottom, or in a nest
  pub done_held : {value : Syntax} → Holds table first done [] value l stack cells → Holds table first (snoc done value) [] nil (restarted l) stack cells
  unfolding put_syntax
  done_held h =
      record {
        stacked = bare_any h.stacked;
        starts = omega (arith, h.counts, h.starts);
        counts = omega arith;
        written = h.written;
        few = h.few;
      }

  pub nest_done_held : {kind mark : ℕ} {inner value : Syntax} {ps : List Pending} → Holds table first done (pending kind mark inner ∷ ps) value l stack cells
      → Holds table first done (pending kind mark (snoc inner value) ∷ ps) nil (restarted l) stack cells
  unfolding put_syntax
  nest_done_held {inner = inner} {value = value} {ps = ps} h =
      record {
        stacked = left_any h.stacked;
        starts = omega (arith, h.counts, h.starts);
        counts = omega arith;
        written = h.written ∙ put_nested table first (lefts done ps) inner value;
        few = h.few;
      }

  -- what waits uppermost waits no more: its left side stands before the operand
  pub unstacked_held : {kind mark : ℕ} {left operand : Syntax} {ps : List Pending} → Holds table first done (pending kind mark left ∷ ps) operand l stack cells
      → Holds table first done ps (snoc left operand) (popped l stack) stack cells
  unstacked_held {left = left} {operand = operand} {ps = ps} h =
      let u = uppermost h in
      record {
        stacked = u.below;
        starts = u.start_is;
        counts = omega (arith, u.start_is, h.counts, h.starts);
        written = h.written ∙ put_nested table first (lefts done ps) left operand;
        few = omega (arith, h.few);
      }

  -- what waits with a left side alone is no more, and its left side the operand
  pub left_held : {kind mark : ℕ} {value : Syntax} {ps : List Pending} → Holds table first done (pending kind mark (snoc nil value) ∷ ps) nil l stack cells
      → Holds table first done ps value (popped l stack) stack cells
  unfolding put_syntax
  left_held {value = value} {ps = ps} h =
      let u = uppermost h in
      record {
        stacked = u.below;
        starts = u.start_is;
        counts = omega (arith, u.start_is, h.counts, h.starts);
        written = h.written ∙ put_alone table first (lefts done ps) value;
        few = omega (arith, h.few);
      }

  -- what waits with no side is taken back
  pub taken_back_held : {kind mark : ℕ} {ps : List Pending} → Holds table first done (pending kind mark nil ∷ ps) nil l stack cells
      → Holds table first done ps nil (record l { top = l.top - 1; start = l.count }) stack cells
  unfolding put_syntax
  taken_back_held h =
      let u = uppermost h in
      record {
        stacked = u.below;
        starts = omega (arith, h.counts, h.starts);
        counts = omega arith;
        written = h.written;
        few = omega (arith, h.few);
      }

  -- behind the condition of an open `?` nothing stands yet
  pub asked_held : {kind mark : ℕ} {left : Syntax} {ps : List Pending} → Holds table first done (pending kind mark left ∷ ps) nil l stack cells
      → Holds table first done (pending kind mark (snoc left nil) ∷ ps) nil l stack cells
  unfolding put_syntax
  asked_held h =
      record { stacked = left_any h.stacked; starts = omega (arith, h.starts); counts = h.counts; written = h.written; few = h.few }

  -- parts of a left side may be held together another way
  pub nested_held : {kind mark : ℕ} {a b d : Syntax} {ps : List Pending} → Holds table first done (pending kind mark (snoc (snoc a b) d) ∷ ps) nil l stack cells
      → Holds table first done (pending kind mark (snoc a (snoc b d)) ∷ ps) nil l stack cells
  unfolding put_syntax
  nested_held {a = a} {b = b} {d = d} {ps = ps} h =
      record {
        stacked = left_any h.stacked;
        starts = omega (arith, h.starts);
        counts = h.counts;
        written = h.written ∙ put_nested (put_syntax table first (lefts done ps)) (first + size (lefts done ps)) a b d;
        few = h.few;
      }

  -- a left side that is one part alone is that part, and the other way round; or the part is the operand again, and nothing the left side
  pub left_alone_held : {kind mark : ℕ} {value : Syntax} {ps : List Pending} → Holds table first done (pending kind mark (snoc nil value) ∷ ps) nil l stack cells
      → Holds table first done (pending kind mark value ∷ ps) nil l stack cells
  unfolding put_syntax
  left_alone_held {value = value} {ps = ps} h =
      record {
        stacked = left_any h.stacked;
        starts = omega (arith, h.starts);
        counts = h.counts;
        written = h.written ∙ put_alone table first (lefts done ps) value;
        few = h.few;
      }

  pub left_lone_held : {kind mark : ℕ} {value : Syntax} {ps : List Pending} → Holds table first done (pending kind mark value ∷ ps) nil l stack cells
      → Holds table first done (pending kind mark (snoc nil value) ∷ ps) nil l stack cells
  unfolding put_syntax
  left_lone_held {value = value} {ps = ps} h =
      record {
        stacked = left_any h.stacked;
        starts = omega (arith, h.starts);
        counts = h.counts;
        written = h.written ∙ sym (put_alone table first (lefts done ps) value);
        few = h.few;
      }

  pub undone_held : {kind mark : ℕ} {value : Syntax} {ps : List Pending} → Holds table first done (pending kind mark (snoc nil value) ∷ ps) nil l stack cells
      → Holds table first done (pending kind mark nil ∷ ps) value (record l { start = (get_or stack (l.top - 1) nothing_waits).start }) stack cells
  unfolding put_syntax
  undone_held {value = value} {ps = ps} h =
      let u = uppermost h in
      record {
        stacked = left_any h.stacked;
        starts = omega (arith, u.start_is);
        counts = omega (arith, u.start_is, h.counts, h.starts);
        written = h.written ∙ sym (put_nested table first (lefts done ps) nil value);
        few = h.few;
      }
