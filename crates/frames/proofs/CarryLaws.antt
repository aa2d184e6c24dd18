-- A level with the parts of its frame told apart from where it stands: what each operation on the level makes of them.
use mathlib.Core.Path.{◌≡◌, refl, ◌∙◌, ap}
use mathlib.Core.List.{List, [], ◌∷◌, ◌++◌}
use Prim.Native.Nat.{ℕ, ◌+◌, ◌-◌, ◌≤◌, ◌<◌}
use native.Mathlib.Omega.{arith}
use lib.ListN.{length, get_or, length-set}
use lib.Seq.{get_or-set_other}
use Rattle.tables.specs.Records.{most_trees}
use Rattle.machine.specs.Syntax.{Syntax, nil, node, snoc, size}
use Rattle.machine.specs.Tokens.{new_word, question, do_word}
use Rattle.machine.specs.Machinery.Machine as machine
use Rattle.machine.specs.Machinery.Machine.{Pending, pending, Frame, frame, tightness, wrap, Control, nested, asking}
use Rattle.controls.specs.Machinery.Numbers.{setting_by, behind_by, left_by}
use Rattle.controls.specs.Machinery.Written.{put_record, put_syntax}
use Rattle.controls.specs.declared.Setting as codes
use Rattle.controls.specs.declared.Nest as opened
use Rattle.waiting.specs.Machinery.Waiting.{nothing_waits, popped, binding, Shut, shut, close, lefts, Stacked, bare, above, Holds, HoldsShut, Closes, Completes, stack_with, stack_as, waiting_one, made_one, with_held, restarted}
use Rattle.waiting.specs.declared.Level.{Level}
use Rattle.waiting.specs.declared.Waiting.{Waiting}
use Rattle.waiting.proofs.HoldLaws.{start_le, bottom_top, floor_le, word_held, alone_held, uppermost, done_held, nest_done_held, nested_held, unstacked_held, asked_held, left_held, taken_back_held, left_alone_held, left_lone_held, undone_held}
use Rattle.waiting.proofs.PutLaws.{made_held, made_both, valued_held, waits_held, answered_held, kind_held, stack_long, stack_kept}
use Rattle.frames.specs.Machinery.Stands.{Operators, no_operators, more_operators, Beginnings, no_beginnings, more_beginnings, InNest, in-nest, Asked, asked, InNumbered, Within, asked_in, AskNumber, nest_in, Below, below_none, below_nest, below_asked, Shaped, written, HeldAt, owed, Kept, Stands}
use Rattle.frames.specs.Machinery.Effects.{Valued}
use Rattle.frames.proofs.CloseLaws.{LighterBy, close_lightens, below_stops, Reduced, close_expression, close_statement}

-- the level with so many records
abbrev pub with_count : ℕ → Level → Level
with_count n l = record l { count = n }

-- the level with the uppermost part taken back
abbrev pub back_one : Level → Level
back_one l = record l { top = l.top - 1; start = l.count }

-- the level where what is done in a nest is the operand again
abbrev pub undone_one : Level → List Waiting → Level
undone_one l stack = record l { start = (get_or stack (l.top - 1) nothing_waits).start }

-- the level carries statements done, beginnings of statements, operators, and what is written of an operand
pub record Carries (nests : List machine.Open) (table : List ℕ) (stack₀ : List Waiting) (first floor : ℕ) (done : Syntax) (starts waiting : List Pending) (last : Syntax) (l : Level) (stack : List Waiting) (cells : List ℕ) : Type 0 where
  pub operators : Operators waiting
  pub beginnings : Beginnings starts
  pub base : Syntax
  pub tail : List Pending
  pub below : Below done nests base tail
  pub holds : Holds table first base (waiting ++ (starts ++ tail)) last l stack cells
  pub worded : l.held ≤ most_trees
  pub floored : l.floor ≡ floor
  pub kept : Kept stack₀ stack floor

module _ {c : Control} {nests : List machine.Open} {table : List ℕ} {stack₀ : List Waiting} {first floor passed : ℕ} {l : Level} {stack : List Waiting} {cells : List ℕ} where
  pub carried : {g : Frame} (s : Stands c g nests table stack₀ first floor passed l stack cells)
      → Carries nests table stack₀ first floor s.done s.starts s.waiting (written c s.operand) l stack cells
  carried s =
      record {
        operators = s.operators;
        beginnings = s.beginnings;
        base = s.base;
        tail = s.tail;
        below = s.below;
        holds = s.holds;
        worded = s.worded;
        floored = s.floored;
        kept = s.kept;
      }

  pub stands : {done : Syntax} {starts waiting : List Pending} (operand : Syntax)
      → Carries nests table stack₀ first floor done starts waiting (written c operand) l stack cells
      → Shaped c done starts waiting operand nests → HeldAt c operand l.held → l.count + l.top + owed c ≤ first + floor + passed → first + floor + passed ≤ most_trees
      → Stands c (frame done starts waiting operand) nests table stack₀ first floor passed l stack cells
  stands operand h shaped word passes few =
      record {
        done = _;
        starts = _;
        waiting = _;
        operand = operand;
        is = refl;
        shaped = shaped;
        operators = h.operators;
        beginnings = h.beginnings;
        base = h.base;
        tail = h.tail;
        below = h.below;
        holds = h.holds;
        held = word;
        worded = h.worded;
        floored = h.floored;
        kept = h.kept;
        passes = passes;
        few = few;
      }

-- records so far and parts that wait, together
stacked_top : {stack : List Waiting} {floor first : ℕ} {done : Syntax} {ps : List Pending} {top : ℕ} → Stacked stack floor first done ps top → top ≡ floor + length ps
stacked_top bare = omega arith
stacked_top (above below fits is marked) = let h = stacked_top below in omega arith

pub holds_weigh : {table : List ℕ} {first : ℕ} {done : Syntax} {ps : List Pending} {operand : Syntax} {l : Level} {stack : List Waiting} {cells : List ℕ}
    → Holds table first done ps operand l stack cells
    → (l.count + l.top ≡ first + l.floor + (size (lefts done ps) + size operand + length ps)) × (l.top ≡ l.floor + length ps)
holds_weigh h = let t = stacked_top h.stacked in (omega (arith, h.counts, h.starts), t)

-- closing writes as many records as parts no longer wait; the operand starts among them
pub record Lighter (l r : Level) : Type 0 where
  pub same : r.count + r.top ≡ l.count + l.top
  pub lower : r.top ≤ l.top
  pub started : r.start ≤ r.count

pub closes_lightens : (least : ℕ) {table : List ℕ} {first : ℕ} {done : Syntax} {ps : List Pending} {operand : Syntax} {l r : Level} {stack : List Waiting} {cells after : List ℕ}
    → Holds table first done ps operand l stack cells → r.floor ≡ l.floor → Closes least l stack cells r after → Lighter l r
closes_lightens least {table = table} {first = first} {done = done} {ps = ps} {operand = operand} {l = l} {r = r} {stack = stack} {after = after} h f closes =
    go (close least ps operand) (close_lightens least done ps operand) (closes table first done ps operand h)
  where
    go : (s : Shut) → LighterBy done ps operand s → HoldsShut table first done s r stack after → Lighter l r
    go (shut left last) (e, less) k =
        let a = holds_weigh h in
        let b = holds_weigh k in
        record { same = omega (arith, a.0, b.0, e, f); lower = omega (arith, a.1, b.1, less, f); started = start_le k }

operators_rest : {p : Pending} {ps : List Pending} → Operators (p ∷ ps) → Operators ps
operators_rest (more_operators e alone more) = more

beginnings_rest : {p : Pending} {ps : List Pending} → Beginnings (p ∷ ps) → Beginnings ps
beginnings_rest (more_beginnings e more) = more

beginnings_any : {kind mark : ℕ} {left after : Syntax} {ps : List Pending} → Beginnings (pending kind mark left ∷ ps) → Beginnings (pending kind mark after ∷ ps)
beginnings_any (more_beginnings {kind = kind} e more) = more_beginnings {kind = kind} e more

-- the stack is the same, or with a part more above what waits
same_stack : {stack : List Waiting} {top : ℕ} → Kept stack stack top
same_stack = record { same_length = refl; same = λ k less. refl }

more_stack : (stack : List Waiting) (top kind mark start : ℕ) → Kept stack (stack_with stack top kind mark start) top
more_stack stack top kind mark start = record { same_length = stack_long stack top kind mark start; same = stack_kept stack top kind mark start }

other_stack : (stack : List Waiting) (top kind : ℕ) → Kept stack (stack_as stack top kind) (top - 1)
other_stack stack top kind =
    let w = record (get_or stack (top - 1) nothing_waits) { kind = kind } in
    record { same_length = length-set stack (top - 1) w; same = λ k less. get_or-set_other stack (top - 1) k w nothing_waits (λ e. absurd (omega arith)) }

kept_under : {before middle after : List Waiting} {floor top : ℕ} → Kept before middle floor → Kept middle after top → floor ≤ top → Kept before after floor
kept_under h k up = record { same_length = k.same_length ∙ h.same_length; same = λ i less. k.same i (omega arith) ∙ h.same i less }

module _ {nests : List machine.Open} {table : List ℕ} {stack₀ : List Waiting} {first floor : ℕ} {done : Syntax} {starts waiting : List Pending} {last : Syntax} {l : Level} {stack : List Waiting} {cells : List ℕ}
    (h : Carries nests table stack₀ first floor done starts waiting last l stack cells) where
  -- other parts are carried, at the same floor
  carries_other : {others : List machine.Open} {statements base next : Syntax} {begun operators tail : List Pending} {r : Level} {after : List Waiting} {cells' : List ℕ}
      → Operators operators → Beginnings begun → Below statements others base tail → Holds table first base (operators ++ (begun ++ tail)) next r after cells'
      → r.held ≤ most_trees → r.floor ≡ l.floor → Kept stack after l.top → Carries others table stack₀ first floor statements begun operators next r after cells'
  carries_other operators beginnings below k word f same =
      record {
        operators = operators;
        beginnings = beginnings;
        base = _;
        tail = _;
        below = below;
        holds = k;
        worded = word;
        floored = f ∙ h.floored;
        kept = kept_under h.kept same (omega (arith, floor_le h.holds, h.floored));
      }

  -- the same where what waits uppermost has another kind
  carries_renamed : {others : List machine.Open} {statements base : Syntax} {begun operators tail : List Pending} (kind : ℕ)
      → Operators operators → Beginnings begun → Below statements others base tail
      → Holds table first base (operators ++ (begun ++ tail)) nil (restarted l) (stack_as stack l.top kind) cells → l.floor < l.top
      → Carries others table stack₀ first floor statements begun operators nil (restarted l) (stack_as stack l.top kind) cells
  carries_renamed kind operators beginnings below k higher =
      record {
        operators = operators;
        beginnings = beginnings;
        base = _;
        tail = _;
        below = below;
        holds = k;
        worded = h.worded;
        floored = h.floored;
        kept = kept_under h.kept (other_stack stack l.top kind) (omega (arith, h.floored));
      }

  -- what is written behind the operators changes, and the stack may above them
  carries_last : {next : Syntax} {r : Level} {after : List Waiting} {cells' : List ℕ} → Holds table first h.base (waiting ++ (starts ++ h.tail)) next r after cells'
      → r.held ≤ most_trees → r.floor ≡ l.floor → Kept stack after l.top → Carries nests table stack₀ first floor done starts waiting next r after cells'
  carries_last k word f same = carries_other h.operators h.beginnings h.below k word f same

  pub carries_word : (word : ℕ) → word ≤ most_trees → Carries nests table stack₀ first floor done starts waiting last (with_held word l) stack cells
  carries_word word few = carries_last (word_held word h.holds) few refl same_stack

  pub carries_made : (kind mark : ℕ) → l.count + l.top < most_trees
      → Carries nests table stack₀ first floor done starts waiting (node kind mark last nil) (made_one l) stack (put_record cells l.count kind mark (l.count - l.start + 1))
  carries_made kind mark room = carries_last (made_held kind mark h.holds room) h.worded refl same_stack

  pub carries_valued : (n : ℕ) (value : Syntax) {after : List Waiting} {cells' : List ℕ} → Valued l n value stack after cells cells' → n + l.top ≤ most_trees
      → Carries nests table stack₀ first floor done starts waiting (snoc last value) (with_count n l) after cells'
  carries_valued n value v room =
      carries_last (valued_held value h.holds v.kept.same_length v.kept.same v.count_is v.cells_are room) h.worded refl v.kept

  -- the operand waits as the left side of an operator
  pub carries_operator : (kind mark : ℕ) → l.count + l.top < most_trees → mark ≤ most_trees → l.top < length stack
      → 1 ≤ tightness kind → (kind ≡ new_word → last ≡ nil)
      → Carries nests table stack₀ first floor done starts (pending kind mark last ∷ waiting) nil (waiting_one l) (stack_with stack l.top kind mark l.start) cells
  carries_operator kind mark room marked fits binds alone =
      carries_other (more_operators binds alone h.operators) h.beginnings h.below (waits_held kind mark h.holds room marked fits) h.worded refl
      (more_stack stack l.top kind mark l.start)

module _ {nests : List machine.Open} {table : List ℕ} {stack₀ : List Waiting} {first floor : ℕ} {done : Syntax} {starts : List Pending} {l : Level} {stack : List Waiting} {cells : List ℕ} where
  pub carries_alone : {waiting : List Pending} {value : Syntax} → Carries nests table stack₀ first floor done starts waiting (snoc nil value) l stack cells
      → Carries nests table stack₀ first floor done starts waiting value l stack cells
  carries_alone h = carries_last h (alone_held h.holds) h.worded refl same_stack

  pub carries_both : {waiting : List Pending} {left right : Syntax} (kind mark : ℕ) → Carries nests table stack₀ first floor done starts waiting (snoc left right) l stack cells
      → l.count + l.top < most_trees
      → Carries nests table stack₀ first floor done starts waiting (node kind mark left right) (made_one l) stack (put_record cells l.count kind mark (l.count - l.start + 1))
  carries_both kind mark h room = carries_last h (made_both kind mark h.holds room) h.worded refl same_stack

  -- where no operator waits, the operand waits as the left side of a beginning of a statement
  pub carries_beginning : {last : Syntax} (kind mark : ℕ) → Carries nests table stack₀ first floor done starts [] last l stack cells
      → l.count + l.top < most_trees → mark ≤ most_trees → l.top < length stack → binding kind ≡ 1
      → Carries nests table stack₀ first floor done (pending kind mark last ∷ starts) [] nil (waiting_one l) (stack_with stack l.top kind mark l.start) cells
  carries_beginning kind mark h room marked fits binds =
      carries_other h no_operators (more_beginnings binds h.beginnings) h.below (waits_held kind mark h.holds room marked fits) h.worded refl
      (more_stack stack l.top kind mark l.start)

  -- and nothing as that of a nest
  pub carries_nest : (nest : opened.Nest) (setting : codes.Setting) (mark : ℕ) → Carries nests table stack₀ first floor done starts [] nil l stack cells → InNumbered nest setting done nests
      → l.count + l.top < most_trees → mark ≤ most_trees → l.top < length stack
      → Carries (nested (behind_by nest (setting_by setting)) (left_by nest) mark (frame done starts [] nil) ∷ nests) table stack₀ first floor nil [] [] nil
      (waiting_one l) (stack_with stack l.top (nest_in nest setting) mark l.start) cells
  carries_nest nest setting mark h within room marked fits =
      carries_other h no_operators no_beginnings (below_nest nest setting h.beginnings within h.below) (waits_held (nest_in nest setting) mark h.holds room marked fits)
      h.worded refl (more_stack stack l.top (nest_in nest setting) mark l.start)

  -- the operand waits as the condition of an open `?`, behind which nothing stands yet
  pub carries_asked : {waiting : List Pending} {condition : Syntax} (kind mark : ℕ) → Carries nests table stack₀ first floor done starts waiting condition l stack cells
      → Within (asked_in kind) done starts nests → AskNumber kind → l.count + l.top < most_trees → mark ≤ most_trees → l.top < length stack
      → Carries (asking (asked_in kind) mark (frame done starts waiting condition) ∷ nests) table stack₀ first floor nil [] [] nil
      (waiting_one l) (stack_with stack l.top kind mark l.start) cells
  carries_asked kind mark h within many room marked fits =
      carries_other h no_operators no_beginnings (below_asked many h.operators h.beginnings within h.below) (asked_held (waits_held kind mark h.holds room marked fits))
      h.worded refl (more_stack stack l.top kind mark l.start)

  -- an operator with no left side waits no more
  pub carries_dropped : {kind mark : ℕ} {waiting : List Pending} {last : Syntax}
      → Carries nests table stack₀ first floor done starts (pending kind mark nil ∷ waiting) last l stack cells
      → Carries nests table stack₀ first floor done starts waiting last (popped l stack) stack cells
  carries_dropped h = carries_other h (operators_rest h.operators) h.beginnings h.below (alone_held (unstacked_held h.holds)) h.worded refl same_stack

  -- a beginning with no left side is taken back, where nothing stands behind it
  pub carries_back : {kind mark : ℕ} → Carries nests table stack₀ first floor done (pending kind mark nil ∷ starts) [] nil l stack cells
      → Carries nests table stack₀ first floor done starts [] nil (back_one l) stack cells
  carries_back h = carries_other h no_operators (beginnings_rest h.beginnings) h.below (taken_back_held h.holds) h.worded refl same_stack

  -- the operand is the left side of a beginning that had none
  pub carries_headed : {kind mark : ℕ} {value : Syntax} → Carries nests table stack₀ first floor done (pending kind mark nil ∷ starts) [] value l stack cells
      → Carries nests table stack₀ first floor done (pending kind mark value ∷ starts) [] nil (restarted l) stack cells
  carries_headed h =
      carries_other h no_operators (beginnings_any h.beginnings) h.below (left_alone_held (nest_done_held h.holds)) h.worded refl same_stack

  -- and the beginning has another kind then
  pub carries_headed_as : {kind mark : ℕ} {value : Syntax} (other : ℕ) → binding other ≡ 1 → Carries nests table stack₀ first floor done (pending kind mark nil ∷ starts) [] value l stack cells
      → Carries nests table stack₀ first floor done (pending other mark value ∷ starts) [] nil (restarted l) (stack_as stack l.top other) cells
  carries_headed_as other binds h =
      let u = uppermost h.holds in
      let k = carries_headed h in
      carries_renamed k other no_operators (more_beginnings binds (beginnings_rest h.beginnings)) k.below (kind_held other k.holds) u.higher

  -- a beginning with what stands behind it joins the left side of the one around it
  pub carries_joined : {kind mark word spot : ℕ} {left others value : Syntax}
      → Carries nests table stack₀ first floor done (pending kind mark left ∷ pending word spot others ∷ starts) [] value l stack cells
      → Carries nests table stack₀ first floor done (pending word spot (snoc others (node kind mark left value)) ∷ starts) [] nil (restarted (made_one (popped l stack))) stack
      (put_record cells l.count kind mark (l.count - (get_or stack (l.top - 1) nothing_waits).start + 1))
  carries_joined {kind = kind} {mark = mark} h =
      let u = uppermost h.holds in
      carries_other h no_operators (beginnings_any (beginnings_rest h.beginnings)) h.below
      (nest_done_held (made_both kind mark (unstacked_held h.holds) (omega (arith, u.some, h.holds.few)))) h.worded refl same_stack

-- a statement goes to those done, wherever those are
record Followed (nests : List machine.Open) (table : List ℕ) (first : ℕ) (done : Syntax) (l : Level) (stack : List Waiting) (cells : List ℕ) : Type 0 where
  base : Syntax
  tail : List Pending
  below : Below done nests base tail
  holds : Holds table first base tail nil l stack cells

followed : {nests : List machine.Open} {table : List ℕ} {first : ℕ} {done base value : Syntax} {tail : List Pending} {l : Level} {stack : List Waiting} {cells : List ℕ}
    → Below done nests base tail → Holds table first base tail value l stack cells → Followed nests table first (snoc done value) (restarted l) stack cells
followed below_none h = record { base = _; tail = []; below = below_none; holds = done_held h }
followed (below_nest nest setting beginnings within below) h = record { base = _; tail = _; below = below_nest nest setting beginnings within below; holds = nest_done_held h }
followed (below_asked many operators beginnings within below) h =
    record { base = _; tail = _; below = below_asked many operators beginnings within below; holds = nested_held (nest_done_held h) }

module _ {nests : List machine.Open} {table : List ℕ} {stack₀ : List Waiting} {first floor : ℕ} {done : Syntax} {starts waiting : List Pending} {last : Syntax} {l r : Level} {stack : List Waiting} {cells after : List ℕ}
    (h : Carries nests table stack₀ first floor done starts waiting last l stack cells) where
  -- operators are closed: those that bind at least so tight, or all of them
  pub carries_closed : (least : ℕ) → r.floor ≡ l.floor → r.held ≡ l.held → Closes (least + 1) l stack cells r after
      → (k : Reduced least done starts waiting (starts ++ h.tail) last) → Carries nests table stack₀ first floor done starts k.left k.last r stack after
  carries_closed least f w closes k =
      let m : HoldsShut table first h.base (shut (k.left ++ (starts ++ h.tail)) k.last) r stack after =
      rw k.closes at (closes table first h.base (waiting ++ (starts ++ h.tail)) last h.holds) in
      carries_other h k.operators h.beginnings h.below m (omega (arith, w, h.worded)) f same_stack

  pub carries_expression : r.floor ≡ l.floor → r.held ≡ l.held → Closes 2 l stack cells r after
      → Carries nests table stack₀ first floor done starts [] (wrap waiting last) r stack after
  carries_expression f w closes =
      let m : HoldsShut table first h.base (shut (starts ++ h.tail) (wrap waiting last)) r stack after =
      rw (close_expression last h.operators h.beginnings (below_stops h.below))
      at (closes table first h.base (waiting ++ (starts ++ h.tail)) last h.holds) in
      carries_other h no_operators h.beginnings h.below m (omega (arith, w, h.worded)) f same_stack

  -- a statement is complete: beginnings of statements are closed too
  pub carries_statement : Completes l stack cells r after
      → Carries nests table stack₀ first floor (snoc done (wrap starts (wrap waiting last))) [] [] nil r stack after
  carries_statement k =
      let m : HoldsShut table first h.base (shut h.tail (wrap starts (wrap waiting last))) k.all stack after =
      rw (close_statement last h.operators h.beginnings (below_stops h.below))
      at (k.closes table first h.base (waiting ++ (starts ++ h.tail)) last h.holds) in
      let n = followed h.below m in
      rw k.is (carries_other h no_operators no_beginnings n.below n.holds (omega (arith, k.same_held, h.worded)) k.same_floor same_stack)

  pub completes_lightens : Completes l stack cells r after → Lighter l r
  completes_lightens k =
      let m = closes_lightens _ h.holds k.same_floor k.closes in
      rw k.is (record { same = m.same; lower = m.lower; started = omega arith })

-- a nest is left with all that it has, or with the one statement that it has
pub data LeftWith (done : Syntax) : Syntax → Type 0 where
  left-one : {last : Syntax} → done ≡ snoc nil last → LeftWith done last
  left_all : LeftWith done done

-- What is carried around a nest that is left with a value: the value is the operand there; or it is the left side of a `do`, which waits in place of the
-- nest
pub record Around (nests : List machine.Open) (table : List ℕ) (stack₀ : List Waiting) (first floor : ℕ) (value : Syntax) (l : Level) (stack : List Waiting) (cells : List ℕ) : Type 0 where
  pub nest : opened.Nest
  pub setting : codes.Setting
  pub mark : ℕ
  pub done : Syntax
  pub starts : List Pending
  pub rest : List machine.Open
  pub is : nests ≡ nested (behind_by nest (setting_by setting)) (left_by nest) mark (frame done starts [] nil) ∷ rest
  pub within : InNumbered nest setting done rest
  pub stacked : (get_or stack (l.top - 1) nothing_waits).kind ≡ nest_in nest setting
  pub mark_is : (get_or stack (l.top - 1) nothing_waits).mark ≡ mark
  pub marked : mark ≤ most_trees
  pub started : (get_or stack (l.top - 1) nothing_waits).start ≤ most_trees
  pub waits : 1 ≤ l.top
  pub fits : l.top ≤ length stack
  pub carries : Carries rest table stack₀ first floor done starts [] value (popped l stack) stack cells
  pub joins : Carries rest table stack₀ first floor done (pending do_word mark value ∷ starts) [] nil (restarted l) (stack_as stack l.top do_word) cells

module _ {table : List ℕ} {stack₀ : List Waiting} {first floor : ℕ} {l : Level} {stack : List Waiting} {cells : List ℕ} where
  pub carries_around : {nests : List machine.Open} {done value : Syntax} → InNest nests → LeftWith done value → Carries nests table stack₀ first floor done [] [] nil l stack cells
      → Around nests table stack₀ first floor value l stack cells
  unfolding binding
  carries_around {value = value} inside left h = go inside left h.below h.holds
    where
      around : {base : Syntax} (nest : opened.Nest) (setting : codes.Setting) {mark : ℕ} {outer : Syntax} {starts tail : List Pending} {rest : List machine.Open} → Beginnings starts
          → InNumbered nest setting outer rest → Below outer rest base tail
          → Holds table first base (pending (nest_in nest setting) mark (snoc nil value) ∷ (starts ++ tail)) nil l stack cells
          → Around (nested (behind_by nest (setting_by setting)) (left_by nest) mark (frame outer starts [] nil) ∷ rest) table stack₀ first floor value l stack cells
      around nest setting {mark = mark} {outer = outer} {starts = starts} {rest = rest} beginnings within below k =
          let u = uppermost k in
          record {
            nest = nest;
            setting = setting;
            mark = mark;
            done = outer;
            starts = starts;
            rest = rest;
            is = refl;
            within = within;
            stacked = u.kind_is;
            mark_is = u.mark_is;
            marked = u.marked;
            started = omega (arith, u.start_is, k.starts, k.counts, k.few);
            waits = u.some;
            fits = u.fits;
            carries = carries_other h no_operators beginnings below (left_held k) h.worded refl same_stack;
            joins = carries_renamed h do_word no_operators (more_beginnings {kind = do_word} refl beginnings) below (kind_held do_word (left_alone_held k)) u.higher;
          }

      go : {hs : List machine.Open} {base inner : Syntax} {tail : List Pending} → InNest hs → LeftWith inner value → Below inner hs base tail → Holds table first base tail nil l stack cells
          → Around hs table stack₀ first floor value l stack cells
      go in-nest (left-one e) (below_nest nest setting beginnings within below) k = around nest setting beginnings within below (rw e at k)
      go in-nest left_all (below_nest nest setting beginnings within below) k = around nest setting beginnings within below (left_lone_held k)

  -- what is done in a nest is the operand again
  pub carries_undone : {nests : List machine.Open} {last : Syntax} → InNest nests → Carries nests table stack₀ first floor (snoc nil last) [] [] nil l stack cells
      → Carries nests table stack₀ first floor nil [] [] last (undone_one l stack) stack cells
  carries_undone {last = last} inside h = go inside h.below h.holds
    where
      go : {hs : List machine.Open} {base : Syntax} {tail : List Pending} → InNest hs → Below (snoc nil last) hs base tail → Holds table first base tail nil l stack cells
          → Carries hs table stack₀ first floor nil [] [] last (undone_one l stack) stack cells
      go in-nest (below_nest nest setting beginnings within below) k =
          carries_other h no_operators no_beginnings (below_nest nest setting beginnings within below) (undone_held k) h.worded refl same_stack

-- what is carried around an open `?` that is answered with a value
pub record Answering (nests : List machine.Open) (table : List ℕ) (stack₀ : List Waiting) (first floor : ℕ) (value : Syntax) (l : Level) (stack : List Waiting) (cells : List ℕ) : Type 0 where
  pub kind : ℕ
  pub mark : ℕ
  pub done : Syntax
  pub starts : List Pending
  pub waiting : List Pending
  pub condition : Syntax
  pub rest : List machine.Open
  pub is : nests ≡ asking (asked_in kind) mark (frame done starts waiting condition) ∷ rest
  pub within : Within (asked_in kind) done starts rest
  pub stacked : (get_or stack (l.top - 1) nothing_waits).kind ≡ kind
  pub many : AskNumber kind
  pub waits : 1 ≤ l.top
  pub fits : l.top ≤ length stack
  pub carries : Carries rest table stack₀ first floor done starts (pending question mark (snoc condition value) ∷ waiting) nil (restarted l) (stack_as stack l.top question) cells

pub carries_answered : {nests : List machine.Open} {table : List ℕ} {stack₀ : List Waiting} {first floor : ℕ} {value : Syntax} {l : Level} {stack : List Waiting} {cells : List ℕ}
    → Asked nests → Carries nests table stack₀ first floor nil [] [] value l stack cells → Answering nests table stack₀ first floor value l stack cells
carries_answered {table = table} {stack₀ = stack₀} {first = first} {floor = floor} {value = value} {l = l} {stack = stack} {cells = cells} inside h = go inside h.below h.holds
  where
    go : {hs : List machine.Open} {base : Syntax} {tail : List Pending} → Asked hs → Below nil hs base tail → Holds table first base tail value l stack cells
        → Answering hs table stack₀ first floor value l stack cells
    go asked (below_asked {around = done} {condition = condition} {kind = kind} {mark = mark} {waiting = waiting} {starts = starts} {nests = rest} many operators beginnings within below) k =
        let u = uppermost k in
        record {
          kind = kind;
          mark = mark;
          done = done;
          starts = starts;
          waiting = waiting;
          condition = condition;
          rest = rest;
          is = refl;
          within = within;
          stacked = u.kind_is;
          many = many;
          waits = u.some;
          fits = u.fits;
          carries = carries_renamed h question
              (more_operators {kind = question} (omega arith) (λ e. let z : ◌≡◌ {A = ℕ} question new_word = e in absurd (omega arith)) operators) beginnings below
              (answered_held question k) u.higher;
        }

-- a level with no nests, all of whose operators are closed, has written all it carries
pub record Written (table : List ℕ) (first floor : ℕ) (value : Syntax) (l : Level) (cells : List ℕ) : Type 0 where
  pub count_is : l.count ≡ first + size value
  pub cells_are : cells ≡ put_syntax table first value
  pub top_is : l.top ≡ floor

module _ {table : List ℕ} {stack₀ : List Waiting} {first floor : ℕ} {l : Level} {stack : List Waiting} {cells : List ℕ} where
  pub all_written : {done last : Syntax} → Carries [] table stack₀ first floor done [] [] last l stack cells → Written table first floor (snoc done last) l cells
  all_written {done = done} {last = last} h = go h.below h.holds
    where
      go : {base : Syntax} {tail : List Pending} → Below done [] base tail → Holds table first base tail last l stack cells → Written table first floor (snoc done last) l cells
      go below_none k =
          record { count_is = omega (arith, k.counts, k.starts); cells_are = k.written; top_is = omega (arith, bottom_top k, h.floored) }

  pub statements_written : {done : Syntax} → Carries [] table stack₀ first floor done [] [] nil l stack cells → Written table first floor done l cells
  unfolding put_syntax
  statements_written h =
      let w = all_written h in
      record { count_is = omega (arith, w.count_is); cells_are = w.cells_are; top_is = w.top_is }

  pub expression_written : {last : Syntax} → Carries [] table stack₀ first floor nil [] [] last l stack cells → Written table first floor last l cells
  unfolding put_syntax
  expression_written {last = last} h =
      let w = all_written h in
      let same : first + 0 ≡ first = omega arith in
      record { count_is = omega (arith, w.count_is); cells_are = w.cells_are ∙ ap (λ i. put_syntax table i last) same; top_is = w.top_is }
