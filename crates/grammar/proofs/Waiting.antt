-- Operators that wait for their right parts, as derivations of the tokens before the operand that comes next.
use mathlib.Core.Path.{◌≡◌, refl, sym, ◌∙◌}
use mathlib.Core.Bool.{Bool, true, false, not, cond}
use mathlib.Core.List.{List, [], ◌∷◌}
use Prim.Native.Nat.{ℕ, ◌+◌, ◌≤◌, ◌<◌}
use native.Mathlib.Omega.{arith}
use lib.Dec.{T, eqb, leb, eqb→eq, leb→le, nleb→lt}
use Rattle.machine.specs.Tokens.{Token, token, Spot, new_word, question, comma, colon}
use Rattle.machine.specs.Syntax.{Syntax, nil, node, snoc}
use Rattle.machine.specs.Operators.{assignment_precedence}
use Rattle.grammar.specs.Grammar.{
  precedence,
  least_binary,
  assignment_operators,
  binary_operators_by,
  prefix_operators,
  prefix_kind,
  is_among,
  Form,
  expression_form,
  assign_form,
  binary_form,
  unary_form,
  target_form,
  Derives,
  Chain,
  Unary,
  Assign,
  expression_assign,
  expression_comma,
  assign_binary,
  assign_to,
  assign_conditional,
  binary_unary,
  binary_operator,
  unary_target,
  unary_prefix,
  target_chain,
  target_new,
}
use Rattle.machine.specs.Machinery.Machine.{
  Pending,
  pending,
  frame,
  reduce,
  tightness,
  prefix_precedence,
  new_precedence,
  Target,
  no_target,
  some_target,
  lone_target,
  is_target,
  Ending,
  allows_in,
}
use Rattle.grammar.proofs.TableLaws.{binary_by, binary_precedence, binary_tightness, binary_under_prefix, assignment_tightness, prefix_tightness}
use Rattle.grammar.proofs.ReduceLaws.{Looser, clash, reduce_stops, reduce_closes}
use Rattle.grammar.proofs.Following.{takes_comma}

-- an expression is an Expression where it may have `,` operators, else an Assign
abbrev pub whole_form : Ending → Form
whole_form ending = cond (takes_comma ending) (expression_form (allows_in ending)) (assign_form (allows_in ending))

-- Levels say how tight a part binds at least: an Expression has 1, an Assign 2, a Binary its least precedence, from 3 to 12, and a Unary 13; what
-- stands behind `new` binds tighter than all of them
abbrev pub whole_level : Ending → ℕ
whole_level ending = cond (takes_comma ending) 1 assignment_precedence

abbrev pub member_level : ℕ
member_level = 15

pub whole-level : (ending : Ending) → whole_level ending ≤ assignment_precedence
whole-level ending = go (takes_comma ending)
  where
    go : (b : Bool) → cond b 1 assignment_precedence ≤ assignment_precedence
    go true = omega arith
    go false = omega arith

-- a part of a level, or of a tighter one, with `in` among its operators or without
pub data Operand (within : Bool) : ℕ → List Token → List Token → Syntax → Type 0 where
  unary_operand : {level : ℕ} {before after : List Token} {value : Syntax} → Unary before after value
      → Operand within level before after value
  binary_operand : {level least : ℕ} {before after : List Token} {value : Syntax} → level ≤ least → least_binary ≤ least → least < prefix_precedence
      → Derives (binary_form within least) before after value → Operand within level before after value
  assign_operand : {level : ℕ} {before after : List Token} {value : Syntax} → level ≤ assignment_precedence
      → Derives (assign_form within) before after value → Operand within level before after value
  expression_operand : {level : ℕ} {before after : List Token} {value : Syntax} → level ≤ 1
      → Derives (expression_form within) before after value → Operand within level before after value

at_most : (a b c : ℕ) → a ≤ b → b ≤ c → a ≤ c
at_most a b c h k = omega arith

looser_operand : {within : Bool} {level least : ℕ} {before after : List Token} {value : Syntax} → least ≤ level → Operand within level before after value
    → Operand within least before after value
looser_operand down (unary_operand whole) = unary_operand whole
looser_operand {level = level} {least = least} down (binary_operand {least = precedence} tight from to whole) =
    binary_operand (at_most least level precedence down tight) from to whole
looser_operand {level = level} {least = least} down (assign_operand low whole) = assign_operand (at_most least level assignment_precedence down low) whole
looser_operand {level = level} {least = least} down (expression_operand low whole) = expression_operand (at_most least level 1 down low) whole

binary_down : {within : Bool} {most least : ℕ} {before after : List Token} {value : Syntax} → least ≤ most
    → Derives (binary_form within most) before after value → Derives (binary_form within least) before after value
binary_down down (binary_unary whole) = binary_unary whole
binary_down {most = most} {least = least} down (binary_operator {class = class} op tight left right) =
    binary_operator op (at_most least most (precedence class) down tight) left right

module _ {within : Bool} {level : ℕ} {before after : List Token} {value : Syntax} where
  as_unary : prefix_precedence ≤ level → Operand within level before after value → Unary before after value
  as_unary high (unary_operand whole) = whole
  as_unary high (binary_operand {least = least} tight from to whole) = absurd (omega arith)
  as_unary high (assign_operand low whole) = absurd (omega arith)
  as_unary high (expression_operand low whole) = absurd (omega arith)

  pub as_binary : least_binary ≤ level → Operand within level before after value → Derives (binary_form within level) before after value
  as_binary high (unary_operand whole) = binary_unary whole
  as_binary high (binary_operand tight from to whole) = binary_down tight whole
  as_binary high (assign_operand low whole) = absurd (omega arith)
  as_binary high (expression_operand low whole) = absurd (omega arith)

  as_assign : assignment_precedence ≤ level → Operand within level before after value → Derives (assign_form within) before after value
  as_assign high (unary_operand whole) = assign_binary (binary_unary whole)
  as_assign high (binary_operand tight from to whole) = assign_binary (binary_down from whole)
  as_assign high (assign_operand low whole) = whole
  as_assign high (expression_operand low whole) = absurd (omega arith)

  pub as_expression : Operand within level before after value → Derives (expression_form within) before after value
  as_expression (unary_operand whole) = expression_assign (assign_binary (binary_unary whole))
  as_expression (binary_operand tight from to whole) = expression_assign (assign_binary (binary_down from whole))
  as_expression (assign_operand low whole) = expression_assign whole
  as_expression (expression_operand low whole) = whole

as_whole : (ending : Ending) {before after : List Token} {value : Syntax} → Operand (allows_in ending) (whole_level ending) before after value
    → Derives (whole_form ending) before after value
as_whole ending {before} {after} {value} = go (takes_comma ending)
  where
    go : (b : Bool) → Operand (allows_in ending) (cond b 1 assignment_precedence) before after value
        → Derives (cond b (expression_form (allows_in ending)) (assign_form (allows_in ending))) before after value
    go true operand = as_expression operand
    go false operand = as_assign (omega arith) operand

-- An operator with what is before it: its kind, its mark and its left part; how tight it binds; the level of its right part, and what the
-- next chain may be; the tokens before it and those behind it.
pub data Begun (within : Bool) : ℕ → ℕ → Syntax → ℕ → ℕ → Target → List Token → List Token → Type 0 where
  comma_begun : {sign : Spot} {before here : List Token} {left : Syntax} → Derives (expression_form within) before (token comma sign ∷ here) left
      → Begun within comma sign.mark left 1 assignment_precedence some_target before here
  assignment_begun : {class : ℕ} {sign : Spot} {before here : List Token} {left : Syntax} → T (is_among assignment_operators class)
      → Derives (target_form true) before (token class sign ∷ here) left
      → Begun within class sign.mark left assignment_precedence assignment_precedence some_target before here
  conditional_begun : {sign answer : Spot} {before inside here : List Token} {condition first : Syntax}
      → Derives (binary_form within least_binary) before (token question sign ∷ inside) condition → Assign inside (token colon answer ∷ here) first
      → Begun within question sign.mark (snoc condition first) assignment_precedence assignment_precedence some_target before here
  binary_begun : {class : ℕ} {sign : Spot} {before here : List Token} {left : Syntax} → T (is_among (binary_operators_by within) class)
      → Derives (binary_form within (precedence class)) before (token class sign ∷ here) left
      → Begun within class sign.mark left (precedence class) (precedence class + 1) no_target before here
  prefix_begun : {class : ℕ} {sign : Spot} {here : List Token} → T (is_among prefix_operators class)
      → Begun within (prefix_kind class) sign.mark nil prefix_precedence prefix_precedence no_target (token class sign ∷ here) here

-- its right part makes it whole
begun_closes : {within : Bool} {kind mark tight level : ℕ} {next : Target} {before middle after : List Token} {left right : Syntax}
    → Begun within kind mark left tight level next before middle → Operand within level middle after right
    → Operand within tight before after (node kind mark left right)
begun_closes (comma_begun left) right = expression_operand {level = 1} (omega arith) (expression_comma left (as_assign (omega arith) right))
begun_closes (assignment_begun op left) right = assign_operand {level = assignment_precedence} (omega arith) (assign_to op left (as_assign (omega arith) right))
begun_closes (conditional_begun condition first) right = assign_operand {level = assignment_precedence} (omega arith) (assign_conditional condition first (as_assign (omega arith) right))
begun_closes {within} (binary_begun {class = class} op left) right =
    let among = binary_by within class op in
    let from = binary_precedence class among in
    binary_operand (itself (precedence class)) from (binary_under_prefix class among)
    (binary_operator op (itself (precedence class)) left (as_binary (next (precedence class) from) right))
  where
    itself : (a : ℕ) → a ≤ a
    itself a = omega arith

    next : (a : ℕ) → least_binary ≤ a → least_binary ≤ a + 1
    next a h = omega arith
begun_closes (prefix_begun op) right = unary_operand (unary_prefix op (as_unary (omega arith) right))

-- the numbers of an operator
record Numbers (kind tight level : ℕ) (next : Target) : Type 0 where
  binds : tightness kind ≡ tight
  as_tight : tight ≤ level
  next_level : level ≤ tight + 1
  under : level ≤ prefix_precedence
  assignable : T (is_target next) → level ≤ assignment_precedence
  loose : level ≤ least_binary → level ≤ assignment_precedence

loose_numbers : (kind tight : ℕ) → tightness kind ≡ tight → 1 ≤ tight → tight ≤ assignment_precedence → Numbers kind tight assignment_precedence some_target
loose_numbers kind tight e from to = record {
  binds = e;
  as_tight = to;
  next_level = omega arith;
  under = omega arith;
  assignable = λ h. omega arith;
  loose = λ h. omega arith;
}

tight_numbers : (kind tight level : ℕ) → tightness kind ≡ tight → least_binary < level → tight ≤ level → level ≤ tight + 1 → level ≤ prefix_precedence
    → Numbers kind tight level no_target
tight_numbers kind tight level e from up near to = record {
  binds = e;
  as_tight = up;
  next_level = near;
  under = to;
  assignable = λ h. absurd h;
  loose = λ h. omega arith;
}

begun_numbers : {within : Bool} {kind mark tight level : ℕ} {next : Target} {before here : List Token} {left : Syntax}
    → Begun within kind mark left tight level next before here → Numbers kind tight level next
begun_numbers (comma_begun left) = loose_numbers comma 1 refl (omega arith) (omega arith)
begun_numbers (assignment_begun {class = class} op left) =
    loose_numbers class assignment_precedence (assignment_tightness class op) (omega arith) (omega arith)
begun_numbers (conditional_begun condition first) = loose_numbers question assignment_precedence refl (omega arith) (omega arith)
begun_numbers {within} (binary_begun {class = class} op left) =
    let among = binary_by within class op in
    go (precedence class) (binary_tightness class among) (binary_precedence class among) (binary_under_prefix class among)
  where
    go : (tight : ℕ) → tightness class ≡ tight → least_binary ≤ tight → tight < prefix_precedence → Numbers class tight (tight + 1) no_target
    go tight e from to = tight_numbers class tight (tight + 1) e (omega arith) (omega arith) (omega arith) (omega arith)
begun_numbers (prefix_begun {class = class} op) =
    tight_numbers (prefix_kind class) prefix_precedence prefix_precedence (prefix_tightness class op) (omega arith) (omega arith) (omega arith) (omega arith)

-- From the tokens that an expression with an ending starts with to those of the operand that comes next, with what the next chain may be, and the level
-- of the part that comes next. Where nothing waits, or `new`s alone, the chain may be all that stands before the `in` of a `for`.
pub data Waiting (ending : Ending) : Target → ℕ → List Pending → List Token → List Token → Type 0 where
  none_waits : {target : Target} {here : List Token} → T (is_target target) → Waiting ending target (whole_level ending) [] here here
  operator_waits : {target next : Target} {outer kind mark tight level : ℕ} {waiting : List Pending} {first before here : List Token} {left : Syntax}
      → Waiting ending target outer waiting first before → outer ≤ tight → Begun (allows_in ending) kind mark left tight level next before here
      → Waiting ending next level (pending kind mark left ∷ waiting) first here
  new_waits : {target : Target} {outer : ℕ} {word : Spot} {waiting : List Pending} {first here : List Token}
      → Waiting ending target outer waiting first (token new_word word ∷ here)
      → Waiting ending target member_level (pending new_word word.mark nil ∷ waiting) first here

-- the next chain may have calls in it, unless `new` waits for it: arguments are then its own
abbrev pub may_call : List Pending → Bool
may_call [] = true
may_call (pending kind mark left ∷ waiting) = not (eqb kind new_word)

pub begun_calls : {within : Bool} {kind mark tight level : ℕ} {next : Target} {before here : List Token} {left : Syntax}
    → Begun within kind mark left tight level next before here → eqb kind new_word ≡ false
begun_calls {kind = kind} {tight = tight} {level = level} begun =
    let n = begun_numbers begun in
    go (eqb kind new_word) (λ h. h) n.binds (at_most tight level prefix_precedence n.as_tight n.under)
  where
    go : (b : Bool) → (T b → T (eqb kind new_word)) → tightness kind ≡ tight → tight ≤ prefix_precedence → b ≡ false
    go true h e low =
        let same : kind ≡ new_word = eqb→eq kind new_word (h tt) in
        clash tight prefix_precedence low (rw (sym e, same) (omega arith))
    go false h e low = refl

-- no operator has a chain behind it that may be all there is
never_lone : {A : Type 0} {within : Bool} {kind mark tight level : ℕ} {before here : List Token} {left : Syntax}
    → Begun within kind mark left tight level lone_target before here → A
never_lone begun = elim begun [ ]

-- what waits for a part of a level binds less tight than any above
looser_than : {ending : Ending} {target : Target} {level : ℕ} {waiting : List Pending} {first here : List Token} (least : ℕ)
    → Waiting ending target level waiting first here → level < least → Looser least waiting
looser_than least (none_waits may) h = tt
looser_than {level = level} least (operator_waits {tight = tight} w fits begun) h =
    let n = begun_numbers begun in
    rw n.binds (under tight level n.as_tight h)
  where
    under : (a b : ℕ) → a ≤ b → b < least → a < least
    under a b h k = omega arith
looser_than least (new_waits w) h = omega arith

-- where the next chain may be assigned to, and no `new` waits for it, only assignments and looser ones wait
pub target_level : {ending : Ending} {target : Target} {level : ℕ} {waiting : List Pending} {first here : List Token} → T (is_target target)
    → Waiting ending target level waiting first here → level ≤ prefix_precedence → level ≤ assignment_precedence
target_level {ending} may (none_waits first) h = whole-level ending
target_level may (operator_waits w fits begun) h = (begun_numbers begun).assignable may
target_level may (new_waits w) h = omega arith

-- and so they do where a Binary by all operators may be the next part
pub binary_level : {ending : Ending} {target : Target} {level : ℕ} {waiting : List Pending} {first here : List Token}
    → Waiting ending target level waiting first here → level ≤ least_binary → level ≤ assignment_precedence
binary_level {ending} (none_waits may) h = whole-level ending
binary_level (operator_waits w fits begun) h = (begun_numbers begun).loose h
binary_level (new_waits w) h = omega arith

module _ (ending : Ending) (done : Syntax) (starts : List Pending) where
  -- all of them close
  pub record AllClosed (form : Form) (waiting : List Pending) (first after : List Token) (last : Syntax) : Type 0 where
    pub value : Syntax
    pub same : reduce 0 done starts waiting last ≡ frame done starts [] value
    pub whole : Derives form first after value

  -- those that bind at least as tight close
  pub record TightClosed (least : ℕ) (waiting : List Pending) (first after : List Token) (last : Syntax) : Type 0 where
    pub target : Target
    pub level : ℕ
    pub left : List Pending
    pub before : List Token
    pub value : Syntax
    pub same : reduce least done starts waiting last ≡ frame done starts left value
    pub waits : Waiting ending target level left first before
    pub fits : level ≤ least
    pub whole : Operand (allows_in ending) least before after value

  -- each `new` next to the operand closes, wherever operators close
  pub record NewsClosed (target : Target) (form : Form) (waiting : List Pending) (first after : List Token) (last : Syntax) : Type 0 where
    pub level : ℕ
    pub left : List Pending
    pub before : List Token
    pub value : Syntax
    pub same : (least : ℕ) → least ≤ new_precedence → reduce least done starts waiting last ≡ reduce least done starts left value
    pub waits : Waiting ending target level left first before
    pub fits : level ≤ prefix_precedence
    pub whole : Derives form before after value

  operators_close : {target : Target} {level : ℕ} {waiting : List Pending} {first before after : List Token} {last : Syntax} (most : ℕ)
      → Waiting ending target level waiting first before → level ≤ most → most ≤ prefix_precedence → Operand (allows_in ending) most before after last
      → AllClosed (whole_form ending) waiting first after last
  operators_close {last = last} most (none_waits may) fits under whole =
      record { value = last; same = refl; whole = as_whole ending (looser_operand fits whole) }
  operators_close {level = level} {last = last} most (operator_waits {kind = kind} {mark = mark} {tight = tight} {waiting = waiting}
      {left = left} w loose begun) fits under whole =
      let n = begun_numbers begun in
      let r = operators_close tight w loose (at_most tight level prefix_precedence n.as_tight n.under)
      (begun_closes begun (looser_operand fits whole)) in
      record {
        value = r.value;
        same = reduce_closes 0 done starts kind mark left waiting last (omega arith) ∙ r.same;
        whole = r.whole;
      }
  operators_close most (new_waits w) fits under whole = absurd (omega arith)

  tight_close : {target : Target} {level : ℕ} {waiting : List Pending} {first before after : List Token} {last : Syntax} (least most : ℕ)
      → whole_level ending ≤ least → least ≤ most → Waiting ending target level waiting first before → level ≤ most → most ≤ prefix_precedence
      → Operand (allows_in ending) most before after last → TightClosed least waiting first after last
  tight_close {target = target} {before = before} {last = last} least most from down (none_waits may) fits under whole = record {
    target = target;
    level = whole_level ending;
    left = [];
    before = before;
    value = last;
    same = refl;
    waits = none_waits may;
    fits = from;
    whole = looser_operand down whole;
  }
  tight_close {level = level} {first = first} {before = before} {after = after} {last = last} least most from down
      (operator_waits {next = next} {kind = kind} {mark = mark} {tight = tight} {waiting = waiting} {left = left} w loose begun) fits under whole =
      let n = begun_numbers begun in
      go n (leb least tight) (λ t. t) (λ t. t)
      (λ closes. tight_close least tight from closes w loose (at_most tight level prefix_precedence n.as_tight n.under)
      (begun_closes begun (looser_operand fits whole)))
    where
      go : Numbers kind tight level next → (b : Bool) → (T b → T (leb least tight)) → (T (not b) → T (not (leb least tight)))
          → (least ≤ tight → TightClosed least waiting first after (node kind mark left last))
          → TightClosed least (pending kind mark left ∷ waiting) first after last
      go n true passed failed rest =
          let closes = leb→le least tight (passed tt) in
          let r = rest closes in
          record {
            target = r.target;
            level = r.level;
            left = r.left;
            before = r.before;
            value = r.value;
            same = reduce_closes least done starts kind mark left waiting last (rw n.binds closes) ∙ r.same;
            waits = r.waits;
            fits = r.fits;
            whole = r.whole;
          }
      go n false passed failed rest =
          let stops = nleb→lt least tight (failed tt) in
          record {
            target = next;
            level = level;
            left = pending kind mark left ∷ waiting;
            before = before;
            value = last;
            same = reduce_stops least done starts (pending kind mark left ∷ waiting) last (rw n.binds stops);
            waits = operator_waits w loose begun;
            fits = next_fits level tight n.next_level stops;
            whole = looser_operand down whole;
          }
        where
          next_fits : (level tight : ℕ) → level ≤ tight + 1 → tight < least → level ≤ least
          next_fits level tight h k = omega arith
  tight_close least most from down (new_waits w) fits under whole = absurd (omega arith)

  -- none waits
  pub no_news : {target : Target} {level : ℕ} {form : Form} {waiting : List Pending} {first before after : List Token} {last : Syntax}
      → Waiting ending target level waiting first before → level ≤ prefix_precedence → Derives form before after last
      → NewsClosed target form waiting first after last
  no_news {level = level} {waiting = waiting} {before = before} {last = last} w fits whole = record {
    level = level;
    left = waiting;
    before = before;
    value = last;
    same = λ least h. refl;
    waits = w;
    fits = fits;
    whole = whole;
  }

  target_closes : {target : Target} {level : ℕ} {waiting : List Pending} {first before after : List Token} {last : Syntax}
      → Waiting ending target level waiting first before → Derives (target_form (may_call waiting)) before after last
      → NewsClosed target (target_form true) waiting first after last
  target_closes (none_waits may) whole =
      no_news (none_waits may) (at_most (whole_level ending) assignment_precedence prefix_precedence (whole-level ending) (omega arith)) whole
  target_closes (operator_waits w fits begun) whole =
      no_news (operator_waits w fits begun) (begun_numbers begun).under (rw (begun_calls begun) at whole)
  target_closes {last = last} (new_waits {word = word} {waiting = waiting} w) whole =
      let r = target_closes w (target_new whole) in
      record {
        level = r.level;
        left = r.left;
        before = r.before;
        value = r.value;
        same = λ least h. reduce_closes least done starts new_word word.mark nil waiting last h ∙ r.same least h;
        waits = r.waits;
        fits = r.fits;
        whole = r.whole;
      }

  pub chain_closes : {target : Target} {level : ℕ} {waiting : List Pending} {first before after : List Token} {last : Syntax}
      → Waiting ending target level waiting first before → Chain (may_call waiting) before after last
      → NewsClosed target (target_form true) waiting first after last
  chain_closes w chain = target_closes w (target_chain chain)

  pub chain_unary : {target : Target} {waiting : List Pending} {first after : List Token} {last : Syntax}
      → NewsClosed target (target_form true) waiting first after last → NewsClosed target unary_form waiting first after last
  chain_unary r = record {
    level = r.level;
    left = r.left;
    before = r.before;
    value = r.value;
    same = r.same;
    waits = r.waits;
    fits = r.fits;
    whole = unary_target r.whole;
  }

  -- where the chain may be all there is, nothing but them waits
  pub lone_closes : {waiting : List Pending} {first after : List Token} {last : Syntax} → NewsClosed lone_target (target_form true) waiting first after last
      → AllClosed (target_form true) waiting first after last
  lone_closes {waiting} {first} {after} {last} r = go r.waits r.fits (r.same 0 (omega arith)) r.whole
    where
      go : {level : ℕ} {left : List Pending} {before : List Token} {value : Syntax} → Waiting ending lone_target level left first before
          → level ≤ prefix_precedence → reduce 0 done starts waiting last ≡ reduce 0 done starts left value → Derives (target_form true) before after value
          → AllClosed (target_form true) waiting first after last
      go {value = value} (none_waits may) fits same whole = record { value = value; same = same; whole = whole }
      go (operator_waits w loose begun) fits same whole = never_lone begun
      go (new_waits w) fits same whole = absurd (omega arith)

  -- nothing closes but them, where nothing else binds as tight
  pub news_close : {target : Target} {form : Form} {waiting : List Pending} {first after : List Token} {last : Syntax} (least : ℕ)
      → (r : NewsClosed target form waiting first after last) → least ≤ new_precedence → r.level < least
      → reduce least done starts waiting last ≡ frame done starts r.left r.value
  news_close least r h above = r.same least h ∙ reduce_stops least done starts r.left r.value (looser_than least r.waits above)

  pub unary_closes : {target : Target} {waiting : List Pending} {first after : List Token} {last : Syntax}
      → NewsClosed target unary_form waiting first after last → AllClosed (whole_form ending) waiting first after last
  unary_closes u =
      let r = operators_close prefix_precedence u.waits u.fits (omega arith) (unary_operand u.whole) in
      record { value = r.value; same = u.same 0 (omega arith) ∙ r.same; whole = r.whole }

  pub unary_closes_tight : {target : Target} {waiting : List Pending} {first after : List Token} {last : Syntax} (least : ℕ) → whole_level ending ≤ least
      → least ≤ prefix_precedence → NewsClosed target unary_form waiting first after last → TightClosed least waiting first after last
  unary_closes_tight least from to u =
      let r = tight_close least prefix_precedence from to u.waits u.fits (omega arith) (unary_operand u.whole) in
      record {
        target = r.target;
        level = r.level;
        left = r.left;
        before = r.before;
        value = r.value;
        same = u.same least (at_most least prefix_precedence new_precedence to (omega arith)) ∙ r.same;
        waits = r.waits;
        fits = r.fits;
        whole = r.whole;
      }
