-- The run of a level, step by step, by the actions of the machine's table and not by the forms of the grammar.
use mathlib.Core.Path.{◌≡◌, refl, sym, ◌∙◌, ap}
use mathlib.Core.Bool.{Bool, true, false, cond, not, ◌&&◌}
use mathlib.Core.List.{List, [], ◌∷◌, ◌++◌}
use Prim.Native.Nat.{ℕ, ◌+◌, ◌≤◌, ◌<◌}
use native.Mathlib.Omega.{arith}
use borrow.Author.Tests.{lt-ltb, ne_eqb}
use lib.Dec.{T, ltb}
use lib.ListN.{length}
use Rattle.machine.specs.Tokens.{Token, token, Spot}
use Rattle.machine.specs.Syntax.{Syntax, nil}
use Rattle.machine.specs.Operators.{least_binary}
use Rattle.machine.specs.Machinery.Machine.{end_of_text, Frame, empty, Effect, affect, reduced, answered, Closing, close, in_for, some_target, expression_value, value_of, Ending, by_colon, Control, operand_due, Action, fail, goto, push, enter, ask, turn, look, row, Open, grouped, nested, asking, State, dead, live, pop_to, head_in, turn_to, act, run}
use Rattle.machine.proofs.Ran.{stays_dead}
use Rattle.controls.specs.Machinery.Numbers.{control_of, inside_by}
use Rattle.machine.specs.Machinery.Classes.{is_opener, is_end, is_single}
use Rattle.controls.specs.declared.Control as code
use Rattle.controls.specs.Machinery.Written.{put_syntax}
use Rattle.controls.specs.declared.Closing as closings
use Rattle.controls.specs.declared.Closing.TheVariants as group
use Rattle.waiting.specs.Machinery.Waiting.{bare}
use Rattle.waiting.specs.declared.Waiting.{Waiting}
use Rattle.waiting.specs.declared.Level.{Level}
use Rattle.frames.specs.Machinery.Stands.{Shaped, written, HeldAt, owed, Stands, no_operators, no_beginnings, below_none}
use Rattle.frames.specs.Machinery.Effects.{StandsSomewhere, Moved, Readies, TurnedTo, of_parameter}
use Rattle.frames.specs.declared.Standing.{Standing}
use Rattle.segments.specs.Machinery.Segments.{Segment, inside, count_of, class_at, size_at, place_at, line_at, tokens_at, spot_at, closer_spot, Fine}
use Rattle.segments.proofs.SegmentLaws.{at_openers, element_then, group_then, end_then}
use Rattle.groups.specs.Machinery.Closers.{closer_token, pops_there, dies_there, AtCloser, ComesTo}
use Rattle.std.proofs.Common.{Result}
use Rattle.answers.specs.declared.faults.Fault.{Fault}
use Rattle.groups.specs.declared.Parsed.{Parsed}
use Rattle.levels.specs.Machinery.Runs.{Through, Ran, ran_through, ran_dead, MayRun}

-- where the run of a level is, before a record: what stands around it is behind the nests that are open on it
pub record Underway (p : Segment) (from : Control) (count top : ℕ) (table : List ℕ) (before : List Waiting) (c : Control) (l : Level) (at : ℕ) (cells : List ℕ) (stack : List Waiting) : Type 0 where
  pub g : Frame
  pub nests : List Open
  pub runs : (around : List Open) (u : List Token)
      → run (live from empty around) (tokens_at p 0 ++ u) ≡ run (live c g (nests ++ around)) (tokens_at p at ++ u)
  pub stands : Stands c g nests table before count top at l stack cells
  pub kind : of_parameter c ≡ of_parameter from
  pub low : count + top ≤ p.base
  pub deep : p.base + count_of p.cells ≤ length stack
  pub within : at ≤ count_of p.cells

abbrev pub somewhere : {p : Segment} {from : Control} {count top : ℕ} {table : List ℕ} {before : List Waiting} {c : Control} {l : Level} {at : ℕ} {cells : List ℕ} {stack : List Waiting}
    → Underway p from count top table before c l at cells stack → StandsSomewhere c l stack cells
somewhere {count = count} {top = top} {table = table} {before = before} {at = at} h =
    record { g = h.g; nests = h.nests; table = table; stack₀ = before; first = count; floor = top; passed = at; stands = h.stands }

-- at a level's start nothing stands on it
record Fresh (c : Control) : Type 0 where
  shaped : Shaped c nil [] [] nil []
  written_none : written c nil ≡ nil
  held_none : (word : ℕ) → HeldAt c nil word
  owes_none : owed c ≡ 0

fresh : {c : Control} → Shaped c nil [] [] nil [] → written c nil ≡ nil → ((word : ℕ) → HeldAt c nil word) → owed c ≡ 0 → Fresh c
fresh shape none held owes = record { shaped = shape; written_none = none; held_none = held; owes_none = owes }

fresh_inside : (closing : closings.Closing) → Fresh (inside_by closing)
fresh_inside group.Call = fresh (refl, refl, refl, refl) refl (λ word. tt) refl
fresh_inside group.Object = fresh (refl, refl, refl, refl) refl (λ word. tt) refl
fresh_inside group.Parameter = fresh (refl, refl, refl, refl, refl) refl (λ word. tt) refl
fresh_inside group.Block = fresh (refl, refl, refl, refl) refl (λ word. tt) refl
fresh_inside group.Declaration = fresh (refl, refl, refl, refl) refl (λ word. tt) refl
fresh_inside group.Function = fresh (refl, refl, refl, refl) refl (λ word. tt) refl
fresh_inside group.Array = fresh (refl, refl, refl, refl) refl (λ word. tt) refl
fresh_inside group.Index = fresh (refl, (refl, refl, refl)) refl (λ word. tt) refl
fresh_inside group.For = fresh (refl, refl, refl, refl) refl (λ word. tt) refl
fresh_inside group.Clauses = fresh (refl, refl, refl, refl) refl (λ word. tt) refl
fresh_inside group.Catch = fresh (refl, refl, refl, refl, refl) refl (λ word. tt) refl
fresh_inside _ = fresh (refl, (refl, refl, refl)) refl (λ word. tt) refl

pub starts_underway : {p : Segment} {closer count top : ℕ} {table : List ℕ} {stack : List Waiting} {l : Level} (closing : closings.Closing) → MayRun p closer count top stack
    → l.count ≡ count → l.top ≡ top → l.floor ≡ top → l.start ≡ count → l.held ≡ 0
    → Underway p (inside_by closing) count top table stack (inside_by closing) l 0 table stack
unfolding put_syntax
starts_underway {l = l} closing may counted topped floored started worded =
    let f = fresh_inside closing in
    record {
      g = empty;
      nests = [];
      runs = λ around u. refl;
      stands = record {
        done = nil;
        starts = [];
        waiting = [];
        operand = nil;
        is = refl;
        shaped = f.shaped;
        operators = no_operators;
        beginnings = no_beginnings;
        base = nil;
        tail = [];
        below = below_none;
        holds = record {
          stacked = rw (topped, floored) bare;
          starts = omega arith;
          counts = rw f.written_none (omega arith);
          written = rw f.written_none;
          few = omega (arith, may.low, may.fine.few);
        };
        held = f.held_none l.held;
        worded = omega arith;
        floored = floored;
        kept = record { same_length = refl; same = λ k h. refl };
        passes = omega (arith, f.owes_none);
        few = omega (arith, may.low, may.fine.few);
      };
      kind = refl;
      low = may.low;
      deep = may.deep;
      within = omega arith;
    }

-- one token, by its entry in the table
step_run : (c : Control) (g : Frame) (around : List Open) (class : ℕ) (spot : Spot) (ts : List Token) {action : Action}
    → look class (row c spot.newline) ≡ action → run (live c g around) (token class spot ∷ ts) ≡ run (act action class spot g around) ts
step_run c g around class spot ts e = ap (λ (a : Action). run (act a class spot g around) ts) e

single_known : (class : ℕ) → T (is_single class) → T (ltb 0 class && not (is_opener class))
single_known class t = go (ltb 0 class) (is_opener class) (is_end class) t
  where
    go : (a b e : Bool) → T (a && (not b && not e)) → T (a && not b)
    go true false e t = tt
    go true true e t = absurd t
    go false b e t = absurd t

opener_known : (class : ℕ) → T (is_opener class) → class + 1 ≡ end_of_text → ⊥
opener_known class t =
    at_openers (λ (k : ℕ). k + 1 ≡ end_of_text → ⊥) (λ e. omega arith) (λ e. omega arith) (λ e. omega arith) class t

-- a group closes, as the head of a `for` with `in` or not
popped : (within : Bool) (place : ℕ) (value : Syntax) (behind : Control) (closing : Closing) (mark : ℕ) (f : Frame) (around : List Open)
    → pop_to place value (cond within (head_in (grouped behind closing mark f ∷ around)) (grouped behind closing mark f ∷ around))
    ≡ live behind (close (cond within (in_for closing) closing) mark value f) around
popped true place value behind closing mark f around = refl
popped false place value behind closing mark f around = refl

-- at a record of a class
module _ {p : Segment} (fine : Fine p) {from : Control} {count top : ℕ} {table : List ℕ} {before : List Waiting} {c : Control} {l : Level} {at : ℕ} {cells : List ℕ} {stack : List Waiting}
    (h : Underway p from count top table before c l at cells stack) (class : ℕ) (is : class_at p.text p.cells at ≡ class) (here : at < count_of p.cells) where
  -- the tokens from there on start with the record's
  first_token : (u : List Token) → (rest : List Token) × (tokens_at p at ++ u ≡ token class (spot_at p at) ∷ rest)
  first_token u = go (is_opener class) refl
    where
      known : 1 ≤ class
      known = rw is at (fine.at at here).known

      go : (b : Bool) → is_opener class ≡ b → (rest : List Token) × (tokens_at p at ++ u ≡ token class (spot_at p at) ∷ rest)
      go true e = (_, group_then fine at class is u (rw e tt))
      go false e = (_, element_then fine at class is u (rw (lt-ltb 0 class known, e) tt))

  -- the machine stands elsewhere before the token, and takes it the same way
  module _ {control : code.Control} {s : Standing} {stack' : List Waiting} {cells' : List ℕ} (at-control : control_of control ≡ c) (readies : Readies control class l stack cells s stack' cells') where
    readied : Moved (control_of control) class h.g h.nests table before count top at s stack' cells'
    readied = readies.moves h.g h.nests table before count top at (rw at-control h.stands)

    pub ready_underway : Underway p from count top table before (control_of s.control) s.level at cells' stack'
    ready_underway =
        let r = readied in
        record {
          g = r.frame_then;
          nests = r.nests_then;
          runs = λ around u.
              let t = first_token u in
              h.runs around u
              ∙ ap (λ (ts : List Token). run (live c h.g (h.nests ++ around)) ts) t.1
              ∙ ap (λ (k : Control). run (live k h.g (h.nests ++ around)) (token class (spot_at p at) ∷ t.0)) (sym at-control)
              ∙ r.takes around (spot_at p at) t.0
              ∙ ap (λ (ts : List Token). run (live (control_of s.control) r.frame_then (r.nests_then ++ around)) ts) (sym t.1);
          stands = r.stands;
          kind = r.kind ∙ ap of_parameter at-control ∙ h.kind;
          low = h.low;
          deep = omega (arith, h.deep, h.stands.kept.same_length, r.stands.kept.same_length);
          within = h.within;
        }

  -- a token that goes on
  singly : T (is_single class) → (u : List Token) → tokens_at p at ++ u ≡ token class (spot_at p at) ∷ (tokens_at p (at + 1) ++ u)
  singly single u = element_then fine at class is u (single_known class single)

  module _ (single : T (is_single class)) {l' : Level} {cells' : List ℕ} {stack' : List Waiting} where
    pub goes_on : {to : Control} {effect : Effect} → look class (row c (line_at p.cells at)) ≡ goto to effect
        → Stands to (affect effect (p.base + at) h.g) h.nests table before count top (at + 1) l' stack' cells'
        → of_parameter to ≡ of_parameter c → length stack' ≡ length stack
        → Underway p from count top table before to l' (at + 1) cells' stack'
    goes_on {effect = effect} entry s kind long = record {
      g = affect effect (p.base + at) h.g;
      nests = h.nests;
      runs = λ around u.
          h.runs around u
          ∙ ap (λ (ts : List Token). run (live c h.g (h.nests ++ around)) ts) (singly single u)
          ∙ step_run c h.g (h.nests ++ around) class (spot_at p at) (tokens_at p (at + 1) ++ u) entry;
      stands = s;
      kind = kind ∙ h.kind;
      low = h.low;
      deep = omega (arith, h.deep);
      within = omega arith;
    }

    pub goes_in : {inside behind : Control} {effect outer : Effect} {closing : Closing} → look class (row c (line_at p.cells at)) ≡ enter inside effect outer behind closing
        → Stands inside (affect effect (p.base + at) empty) (nested behind closing (p.base + at) (affect outer (p.base + at) h.g) ∷ h.nests) table before count top (at + 1) l' stack' cells'
        → of_parameter inside ≡ of_parameter c → length stack' ≡ length stack
        → Underway p from count top table before inside l' (at + 1) cells' stack'
    goes_in {behind = behind} {effect = effect} {outer = outer} {closing = closing} entry s kind long = record {
      g = affect effect (p.base + at) empty;
      nests = nested behind closing (p.base + at) (affect outer (p.base + at) h.g) ∷ h.nests;
      runs = λ around u.
          h.runs around u
          ∙ ap (λ (ts : List Token). run (live c h.g (h.nests ++ around)) ts) (singly single u)
          ∙ step_run c h.g (h.nests ++ around) class (spot_at p at) (tokens_at p (at + 1) ++ u) entry;
      stands = s;
      kind = kind ∙ h.kind;
      low = h.low;
      deep = omega (arith, h.deep);
      within = omega arith;
    }

    pub goes_asking : {ending : Ending} → look class (row c (line_at p.cells at)) ≡ ask ending
        → Stands (operand_due by_colon some_target) empty (asking ending (p.base + at) (reduced least_binary h.g) ∷ h.nests) table before count top (at + 1) l' stack' cells'
        → false ≡ of_parameter c → length stack' ≡ length stack
        → Underway p from count top table before (operand_due by_colon some_target) l' (at + 1) cells' stack'
    goes_asking {ending = ending} entry s kind long = record {
      g = empty;
      nests = asking ending (p.base + at) (reduced least_binary h.g) ∷ h.nests;
      runs = λ around u.
          h.runs around u
          ∙ ap (λ (ts : List Token). run (live c h.g (h.nests ++ around)) ts) (singly single u)
          ∙ step_run c h.g (h.nests ++ around) class (spot_at p at) (tokens_at p (at + 1) ++ u) entry;
      stands = s;
      kind = kind ∙ h.kind;
      low = h.low;
      deep = omega (arith, h.deep);
      within = omega arith;
    }

  module _ (single : T (is_single class)) {cells' : List ℕ} {stack' : List Waiting} where
    pub goes_turning : {r : Standing} → look class (row c (line_at p.cells at)) ≡ turn → (s : TurnedTo h.g h.nests table before count top (at + 1) r stack' cells')
        → false ≡ of_parameter c → length stack' ≡ length stack
        → Underway p from count top table before (operand_due s.ending some_target) r.level (at + 1) cells' stack'
    goes_turning entry s kind long = record {
      g = answered s.mark (value_of expression_value h.g) s.f;
      nests = s.rest;
      runs = λ around u.
          h.runs around u
          ∙ ap (λ (ts : List Token). run (live c h.g (h.nests ++ around)) ts) (singly single u)
          ∙ step_run c h.g (h.nests ++ around) class (spot_at p at) (tokens_at p (at + 1) ++ u) entry
          ∙ ap (λ (ns : List Open). run (turn_to (spot_at p at).first (value_of expression_value h.g) (ns ++ around)) (tokens_at p (at + 1) ++ u)) s.is;
      stands = s.stands;
      kind = kind ∙ h.kind;
      low = h.low;
      deep = omega (arith, h.deep);
      within = omega arith;
    }

  -- a group: its inside is run, and its value taken to the level around it
  module _ (opens : T (is_opener class)) {within to : Control} {closing : Closing} (entry : look class (row c (line_at p.cells at)) ≡ push within to closing) where
    group_tokens : (u : List Token) → tokens_at p at ++ u
        ≡ token class (spot_at p at) ∷ (tokens_at (inside p at) 0 ++ (token (class + 1) (closer_spot p at) ∷ (tokens_at p (at + size_at p.cells at) ++ u)))
    group_tokens u = group_then fine at class is u opens

    abbrev rest : List Token → List Token
    rest u = tokens_at p (at + size_at p.cells at) ++ u

    opened : (around : List Open) (u : List Token)
        → run (live from empty around) (tokens_at p 0 ++ u)
        ≡ run (live within empty (grouped to closing (p.base + at) h.g ∷ (h.nests ++ around))) (tokens_at (inside p at) 0 ++ (token (class + 1) (closer_spot p at) ∷ rest u))
    opened around u =
        h.runs around u
        ∙ ap (λ (ts : List Token). run (live c h.g (h.nests ++ around)) ts) (group_tokens u)
        ∙ step_run c h.g (h.nests ++ around) class (spot_at p at) (tokens_at (inside p at) 0 ++ (token (class + 1) (closer_spot p at) ∷ rest u)) entry

    pub goes_behind : {l' : Level} {n : ℕ} {head : Bool} {cells₁ : List ℕ} {stack₁ : List Waiting} {cells' : List ℕ} {stack' : List Waiting}
        → (inner : Through (class + 1) (inside p at) within l.count l.top cells stack n head cells₁ stack₁)
        → Stands to (close (cond head (in_for closing) closing) (p.base + at) inner.value h.g) h.nests table before count top (at + size_at p.cells at) l' stack' cells'
        → of_parameter to ≡ of_parameter c → length stack' ≡ length stack
        → Underway p from count top table before to l' (at + size_at p.cells at) cells' stack'
    goes_behind {head = head} inner s kind long = record {
      g = close (cond head (in_for closing) closing) (p.base + at) inner.value h.g;
      nests = h.nests;
      runs = λ around u.
          opened around u
          ∙ inner.runs (grouped to closing (p.base + at) h.g ∷ (h.nests ++ around)) (p.base + at + size_at p.cells at) (rest u)
          ∙ rw (ne_eqb (class + 1) end_of_text (opener_known class opens))
          (ap (λ (state : State). run state (rest u)) (popped head (inside p at).close inner.value to closing (p.base + at) h.g (h.nests ++ around)));
      stands = s;
      kind = kind ∙ h.kind;
      low = h.low;
      deep = omega (arith, h.deep);
      within = (fine.at at here).fits;
    }

    -- it dies inside the group
    pub dies_inside : {place : ℕ}
        → ((around : List Open) (mark : ℕ) (u : List Token) → run (live within empty around) (tokens_at (inside p at) 0 ++ (closer_token (class + 1) (inside p at).close mark ∷ u)) ≡ dead place)
        → (around : List Open) (u : List Token) → run (live from empty around) (tokens_at p 0 ++ u) ≡ dead place
    dies_inside dies around u =
        opened around u ∙ dies (grouped to closing (p.base + at) h.g ∷ (h.nests ++ around)) (p.base + at + size_at p.cells at) (rest u)

  -- or at the record
  pub dies_here : look class (row c (line_at p.cells at)) ≡ fail
      → (around : List Open) (u : List Token) → run (live from empty around) (tokens_at p 0 ++ u) ≡ dead (place_at p.cells p.close at)
  dies_here entry around u =
      let t = first_token u in
      h.runs around u
      ∙ ap (λ (ts : List Token). run (live c h.g (h.nests ++ around)) ts) t.1
      ∙ step_run c h.g (h.nests ++ around) class (spot_at p at) t.0 entry
      ∙ stays_dead (place_at p.cells p.close at) t.0

-- behind the last record: what the level comes to at its closer is what was run
module _ {p : Segment} {from : Control} {count top : ℕ} {table : List ℕ} {before : List Waiting} (control : code.Control) {l : Level} {at : ℕ} {cells : List ℕ} {stack : List Waiting}
    (h : Underway p from count top table before (control_of control) l at cells stack) (past : count_of p.cells ≤ at) (closer : ℕ) where
  to_closer : (around : List Open) (mark : ℕ) (u : List Token)
      → run (live from empty around) (tokens_at p 0 ++ (closer_token closer p.close mark ∷ u))
      ≡ run (live (control_of control) h.g (h.nests ++ around)) (closer_token closer p.close mark ∷ u)
  to_closer around mark u =
      h.runs around (closer_token closer p.close mark ∷ u)
      ∙ ap (λ (ts : List Token). run (live (control_of control) h.g (h.nests ++ around)) ts) (end_then p at past (closer_token closer p.close mark ∷ u))

  pub ran_to_closer : {r : Result Parsed Fault} {stack' : List Waiting} {cells' : List ℕ} → ComesTo control closer p.close l stack cells r stack' cells' → Ran closer p from count top table before r cells' stack'
  ran_to_closer {r} {stack'} {cells'} comes = go (comes h.g h.nests table before count top at h.stands)
    where
      go : {r : Result Parsed Fault} → AtCloser closer p.close (control_of control) h.g h.nests table before count top at r stack' cells'
          → Ran closer p from count top table before r cells' stack'
      go (pops_there e) = ran_through (record {
        value = e.value;
        runs = λ around mark u. to_closer around mark u ∙ e.runs around mark u;
        count_is = e.count_is;
        cells_are = e.cells_are;
        kept = e.kept;
        passes = omega (arith, e.passes, h.within);
        plain = λ t. e.plain (h.kind ∙ t);
      })
      go (dies_there dies) = ran_dead (λ around mark u. to_closer around mark u ∙ dies around mark u)
