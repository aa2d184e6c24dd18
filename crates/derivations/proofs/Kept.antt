-- As long as the token machine goes on, each slash and each reserved word is taken as the prefix rule says, and so is what the rule settles: each brace,
-- `++`, `--` and `:`; and the reader's step makes of the levels what the machine makes of its state.
use mathlib.Core.Path.{◌≡◌, refl, sym, ap, ◌∙◌}
use mathlib.Core.Bool.{Bool, true, false, not, cond, ◌||◌}
use mathlib.Core.List.{List, ◌∷◌, ◌++◌}
use Prim.Native.Nat.{ℕ, ◌+◌, ◌-◌, ◌<◌, ◌≤◌}
use native.Mathlib.Omega.{arith}
use borrow.Author.Tests.{eqb-true, leb-true, ltb-false, lt-ltb, ne_eqb}
use lib.Dec.{T, eqb, ltb, leb, eqb→eq}
use Rattle.text.proofs.Members.{Has, at, is_in, found}
use Rattle.elements.specs.declared.Element.{Element}
use Rattle.elements.proofs.Choices.{cond_known}
use Rattle.rule.specs.Trees.{Trees, count, leaf, group, paren_kind, object_kind, block_kind, bracket_kind}
use Rattle.rule.specs.Rule.{backwards, group_class, leaving, unanswered}
use Rattle.rule.specs.Levels.{Levels, whole_text, kind_of, slash_opens, word_is_name, brace_opens, settled_in, depth, count_so_far}
use Rattle.prefix.specs.Reading.{Limits, Step, stop, more, deep, trees_full, step}
use Rattle.rule.specs.Machinery.Summary.{nothing, slash_by, name_by, summary}
use Rattle.prefix.proofs.StateLaws.{count_on_top}
use Rattle.prefix.proofs.StepLaws.{step_leaf}
use Rattle.derivations.specs.Cuts.{is_closer, recorded}
use Rattle.derivations.specs.Tokens.{Spot, token, token_of, class_of, pattern, divide, divide_assign, question, colon, open_paren, open_bracket, word_name}
use Rattle.machine.specs.Syntax.{Syntax}
use Rattle.machine.specs.Machinery.Machine.{
  Frame,
  Ending,
  by_colon,
  Control,
  some_target,
  operand_due,
  Closing,
  Action,
  fail,
  goto,
  push,
  enter,
  pop,
  pop_in,
  leave,
  ask,
  turn,
  finish,
  look,
  row,
  end_of_text,
  Open,
  grouped,
  asking,
  State,
  live,
  value_of,
  expression_value,
  list_value,
  head_in,
  pop_to,
  turn_to,
  finish_in,
  close,
  act_by,
  leave_to,
  consume,
  asks,
  asks_in,
}
use Rattle.agreement.proofs.TreeClasses.{is_leaf, tree_class, opens_group, opened_kind, closes_group, closes_kind, holds, fails, settled_class}
use Rattle.derivations.proofs.Classes.{told, leaf_told, settled_there, questions_of}
use Rattle.derivations.proofs.ClassSteps.{opener_step, closer_step, leaf_no_closer, opener_no_closer, closer_closer, newline_kept, no_end}
use Rattle.agreement.proofs.Related.{related, on_kind, settled, takes-over}
use Rattle.agreement.proofs.Agreement.{word_classes, taken_right, add_token, updates_right, allows, OpensRight, opens-right, GoesRight, goto_allowed, push_allowed, enter_allowed, leave_allowed, pop_allowed, pop_in_allowed, AsksRight, ask_allowed, turn_allowed, finish_allowed, rule, questions_kept, both}
use Rattle.derivations.proofs.LevelSummary.{summary_of, summary_with, slash_summary, name_summary, brace_summary, summary_leaf, summary_group, questions_leaf, questions_group}
use Rattle.derivations.proofs.MachineSenses.{sense_at}
use Rattle.derivations.proofs.ReadSenses.{senses_so_far, leaf_senses, opener_senses, closer_senses}
use Rattle.derivations.proofs.InStep.{asked, Fits, Stacks, whole-text, in-group, in-nest, in_question, InStep, stopped, in_step, in_step_on_top}
use Rattle.machine.proofs.Ran.{is_live}

-- What a step of the reader comes to: other levels, in step, with a tree record more unless the element is a closer, and with the
-- sense that it has, if it has one, as the machine takes it; or a limit is reached. The Boolean says whether a `?` is open before it.
pub data Outcome (limits : Limits) (levels : Levels) (e : Element) (is_open : Bool) (after : State) : Step → Type 0 where
  went_on : {next : Levels} → InStep after next → count_so_far next ≡ cond (is_closer e) (count_so_far levels) (count_so_far levels + 1)
      → senses_so_far next ≡ senses_so_far levels ++ sense_at is_open after (class_of e) e.first → Outcome limits levels e is_open after (more next)
  too_deep : T (opens_group (class_of e)) → limits.groups ≤ depth levels → Outcome limits levels e is_open after (stop deep e.first)
  too_many : is_closer e ≡ false → limits.room ≤ count_so_far levels → Outcome limits levels e is_open after (stop trees_full e.first)

-- what is kept by an element after which the machine is in a state
pub record Kept (limits : Limits) (levels : Levels) (e : Element) (is_open : Bool) (after : State) : Type 0 where
  pub pattern_opens : class_of e ≡ pattern → slash_opens levels ≡ true
  pub divide_divides : T (eqb (class_of e) divide || eqb (class_of e) divide_assign) → slash_opens levels ≡ false
  pub name_named : class_of e ≡ word_name → word_is_name levels ≡ true
  pub word_kept : T (is_in word_classes (class_of e)) → word_is_name levels ≡ false
  pub outcome : Outcome limits levels e is_open after (step limits levels e)

-- an opener opens a group
opened_no_text : (object : Bool) (class : ℕ) → opened_kind object class ≡ 0 → ⊥
opened_no_text object class = go (eqb class open_paren) (eqb class open_bracket) object
  where
    go : (a b c : Bool) → cond a paren_kind (cond b bracket_kind (cond c object_kind block_kind)) ≡ 0 → ⊥
    go true b c q = omega arith
    go false true c q = omega arith
    go false false true q = omega arith
    go false false false q = omega arith

-- whether a `?` of the innermost level is open
abbrev some_open : Levels → Bool
some_open levels = ltb 0 (questions_of levels)

module _ (limits : Limits) (levels : Levels) (e : Element) where
  -- a leaf more: where the machine may stand then, and the `?`s that are open then
  leaf_outcome : {next : Control} {f : Frame} {around : List Open} → T (is_leaf (class_of e))
      → T (related next (kind_of levels) (add_token (kind_of levels) (summary_of levels) e.newline (some_open levels) (class_of e)))
      → T (updates_right (summary_of levels) e.newline (class_of e) next)
      → leaving (settled_class (slash_opens levels || e.newline) (some_open levels) (class_of e)) (questions_of levels) ≡ asked around → Fits next around → Stacks around levels
      → Outcome limits levels e (some_open levels) (live next f around) (step limits levels e)
  unfolding count
  leaf_outcome {next} {f} {around} l r u n fits s =
      let t = leaf_told e (told e) l in
      let c = leaf_no_closer e t.0 in
      let tree = settled_there levels e t.1 in
      let same = slash_summary levels in
      let x = settled_in levels e in
      rw (step_leaf limits levels e t.0)
      (cond_known (Outcome limits levels e (some_open levels) (live next f around)) (leb limits.room (count_so_far levels)) (λ full. too_many c (leb-true limits.room (count_so_far levels) full)) λ some.
      went_on (in_step_on_top (λ before. leaf before x) levels (add_token (kind_of levels) (summary_of levels) e.newline (some_open levels) (class_of e))
      (summary_leaf levels x ∙ rw (tree, same)) r (questions_leaf levels x ∙ rw tree n) fits s)
      (rw c (count_on_top (λ before. leaf before x) 1 (λ trees. refl) levels))
      (leaf_senses levels e next f around l (rw same at u)))

  -- one that leaves as many `?`s open as there were
  plain_outcome : {next : Control} {f : Frame} {around : List Open} → GoesRight (kind_of levels) (summary_of levels) e.newline (some_open levels) (class_of e) next
      → questions_of levels ≡ asked around → Stacks around levels → Outcome limits levels e (some_open levels) (live next f around) (step limits levels e)
  plain_outcome g n s =
      leaf_outcome g.leaf g.stands g.updates (questions_kept (slash_opens levels || e.newline) (class_of e) (questions_of levels) g.leaf g.keeps ∙ n)
      (g.same_asked ∙ ap (ltb 0) n) s

  opener_outcome : {within behind : Control} {closing : Closing} {mark : ℕ} {f inner : Frame} {around : List Open} → T (opens_group (class_of e))
      → OpensRight (kind_of levels) (summary_of levels) e.newline (some_open levels) (opened_kind (brace_opens levels e.newline) (class_of e)) within behind
      → questions_of levels ≡ asked around → Stacks around levels
      → Outcome limits levels e (some_open levels) (live within inner (grouped behind closing mark f ∷ around)) (step limits levels e)
  unfolding summary_of summary backwards count questions_of unanswered
  opener_outcome {within} {behind} {closing} {mark} {f} {inner} {around} o r n s =
      let c = opener_no_closer e (told e) o in
      let P : Step → Type 0 = Outcome limits levels e (some_open levels) (live within inner (grouped behind closing mark f ∷ around)) in
      rw (opener_step limits e levels (told e) o)
      (cond_known P (leb limits.groups (depth levels)) (λ q. too_deep o (leb-true limits.groups (depth levels) q)) λ shallow.
      cond_known P (leb limits.room (count_so_far levels)) (λ full. too_many c (leb-true limits.room (count_so_far levels) full)) λ some.
      went_on (in_step r.stands refl r.unasked (in-group (opened_no_text (brace_opens levels e.newline) (class_of e)) r.behind_stands n (r.behind_asked ∙ ap (ltb 0) n) s)) (rw c)
      (opener_senses (brace_opens levels e.newline) (class_of e) e.first e.newline levels (some_open levels) within inner (grouped behind closing mark f ∷ around) o r.one-sided
      (on_kind within (opened_kind (brace_opens levels e.newline) (class_of e)) nothing r.stands)))

  -- a `?` is opened
  question_outcome : {ending : Ending} {mark : ℕ} {f inner : Frame} {around : List Open} → AsksRight (kind_of levels) (summary_of levels) e.newline (some_open levels) (class_of e) ending
      → questions_of levels ≡ asked around → Stacks around levels
      → Outcome limits levels e (some_open levels) (live (operand_due by_colon some_target) inner (asking ending mark f ∷ around)) (step limits levels e)
  unfolding settled_class tree_class
  question_outcome {ending} {mark} {f} {inner} {around} a n s =
      let class : class_of e ≡ question = eqb→eq (class_of e) question a.is_question in
      leaf_outcome a.leaf a.stands (rw class tt) (rw class (ap (λ (k : ℕ). k + 1) n)) (positive (asked around)) (in_question a.behind_stands (a.behind_asked ∙ ap (ltb 0) n) s)
    where
      positive : (n : ℕ) → true ≡ ltb 0 (n + 1)
      positive n = sym (lt-ltb 0 (n + 1) (omega arith))

-- and answered
answer_outcome : (limits : Limits) (levels : Levels) (e : Element) (place : ℕ) (value : Syntax) {around : List Open} → T (is_leaf (class_of e)) → T (eqb (class_of e) colon)
    → ltb 0 (questions_of levels) ≡ true → questions_of levels ≡ asked around → Stacks around levels → T (is_live (turn_to place value around))
    → Outcome limits levels e (ltb 0 (questions_of levels)) (turn_to place value around) (step limits levels e)
unfolding settled_class tree_class
answer_outcome limits levels e place value l c some n whole-text alive = absurd alive
answer_outcome limits levels e place value l c some n (in-group m r q t s) alive = absurd alive
answer_outcome limits levels e place value l c some n (in-nest over few t s) alive = absurd alive
answer_outcome limits levels e place value l c some n (in_question {ending = ending} {rest = rest} r t s) alive =
    let class : class_of e ≡ colon = eqb→eq (class_of e) colon c in
    leaf_outcome limits levels e l (rw (class, some) r) (rw class tt) (rw (class, some) (less (questions_of levels) (asked rest) n)) t s
  where
    less : (n m : ℕ) → n ≡ m + 1 → n - 1 ≡ m
    less n m e = omega arith

-- a group is not the whole text
no_text : (kind : ℕ) (b : Bool) → (kind ≡ 0 → ⊥) → T (eqb kind 0 || b) → T b
no_text kind b n t = rw (ne_eqb kind 0 n) at t

closer_outcome : (limits : Limits) (levels : Levels) (e : Element) (is_open : Bool) (place : ℕ) (value : Syntax) {around : List Open} → Stacks around levels
    → T (closes_group (class_of e)) → T (eqb (kind_of levels) 0 || closes_kind (class_of e) (kind_of levels)) → T (is_live (pop_to place value around))
    → Outcome limits levels e is_open (pop_to place value around) (step limits levels e)
unfolding count
closer_outcome limits levels e is_open place value whole-text t c alive = absurd alive
closer_outcome limits levels e is_open place value (in-nest over few u s) t c alive = absurd alive
closer_outcome limits levels e is_open place value (in_question r u s) t c alive = absurd alive
closer_outcome limits levels e is_open place value (in-group {behind = behind} {closing = closing} {mark = mark} {f = f} {rest = rest} {around = around} {kind = kind} {first = first} {newline = newline} {trees = trees} n r q u s) t c alive =
    rw (closer_step limits e around kind first newline trees (told e) t (no_text kind (closes_kind (class_of e) kind) n c))
    (went_on
    (in_step_on_top (λ before. group before kind first e.end newline trees) around (summary_with around (group_class kind) newline)
    (summary_group around kind first e.end newline trees) r (questions_group around kind first e.end newline trees ∙ q) u s)
    (rw (closer_closer e (told e) t) (count_on_top (λ before. group before kind first e.end newline trees) (count trees + 1) (λ before. refl) around))
    (closer_senses around kind first e.end newline trees is_open (live behind (close closing mark value f) rest) (class_of e) e.first t))

-- the head of a `for` is a group like any other
head_stacks : {around : List Open} {levels : Levels} → Stacks around levels → Stacks (head_in around) levels
head_stacks whole-text = whole-text
head_stacks (in-group n r q u s) = in-group n r q u s
head_stacks (in-nest over few u s) = in-nest over few u s
head_stacks (in_question r u s) = in_question r u s

-- a slash, and a reserved word, is taken as the prefix rule says
opens : (levels : Levels) (class : ℕ) → T (taken_right (kind_of levels) (summary_of levels) class) → class ≡ pattern → slash_opens levels ≡ true
unfolding taken_right
opens levels class t q = sym (slash_summary levels) ∙ holds (slash_by (summary_of levels)) (rw q at t)

divides : (levels : Levels) (class : ℕ) → T (taken_right (kind_of levels) (summary_of levels) class) → T (eqb class divide || eqb class divide_assign) → slash_opens levels ≡ false
unfolding taken_right
divides levels class t q =
    sym (slash_summary levels)
    ∙ fails (slash_by (summary_of levels)) (rw (fails (eqb class pattern) (no_pattern (eqb class divide) refl q), holds (eqb class divide || eqb class divide_assign) q) at t)
  where
    no_pattern : (b : Bool) → eqb class divide ≡ b → T (b || eqb class divide_assign) → T (not (eqb class pattern))
    no_pattern true p q = rw (eqb-true class divide p) tt
    no_pattern false p q = rw (eqb→eq class divide_assign q) tt

names : (levels : Levels) (class : ℕ) → T (taken_right (kind_of levels) (summary_of levels) class) → class ≡ word_name → word_is_name levels ≡ true
unfolding taken_right
names levels class t q = sym (name_summary levels) ∙ holds (name_by (eqb (kind_of levels) object_kind) (summary_of levels)) (rw q at t)

keeps_word : (levels : Levels) (class : ℕ) → T (taken_right (kind_of levels) (summary_of levels) class) → T (is_in word_classes class) → word_is_name levels ≡ false
unfolding taken_right
keeps_word levels class t w =
    sym (name_summary levels)
    ∙ fails named
    (go (eqb class pattern) (eqb class divide || eqb class divide_assign) (eqb class word_name) (is_in word_classes class)
    (at (λ class. not (eqb class pattern)) word tt) (at (λ class. not (eqb class divide || eqb class divide_assign)) word tt) (at (λ class. not (eqb class word_name)) word tt) w t)
  where
    word : Has class word_classes
    word = found word_classes class w

    opens : Bool
    opens = slash_by (summary_of levels)

    named : Bool
    named = name_by (eqb (kind_of levels) object_kind) (summary_of levels)

    go : (a b c d : Bool) → T (not a) → T (not b) → T (not c) → T d → T (cond a opens (cond b (not opens) (cond c named (cond d (not named) true)))) → T (not named)
    go false false false true p q r w t = t
    go true b c d p q r w t = absurd p
    go false true c d p q r w t = absurd q
    go false false true d p q r w t = absurd r
    go false false false false p q r w t = absurd w

module _ (limits : Limits) (levels : Levels) (e : Element) where
  keep : {after : State} → T (taken_right (kind_of levels) (summary_of levels) (class_of e)) → Outcome limits levels e (some_open levels) after (step limits levels e)
      → Kept limits levels e (some_open levels) after
  keep t o = record {
    pattern_opens = opens levels (class_of e) t;
    divide_divides = divides levels (class_of e) t;
    name_named = names levels (class_of e) t;
    word_kept = keeps_word levels (class_of e) t;
    outcome = o;
  }

  -- what leaving a nest comes to, and then what an action comes to
  abbrev LeftKept : (Syntax → State) → Type 0
  LeftKept out = (value : Syntax) → T (settled (kind_of levels) (summary_of levels)) → T (is_live (out value)) → Kept limits levels e (some_open levels) (out value)

  abbrev newline : Bool
  newline = (recorded e).newline

  leaf_newline : T (is_leaf (class_of e)) → newline ≡ e.newline
  leaf_newline l = newline_kept e (leaf_no_closer e (leaf_told e (told e) l).0)

  acted : (out : Syntax → State) → LeftKept out → (spot : Spot) (f : Frame) (around : List Open) → questions_of levels ≡ asked around → Stacks around levels → (action : Action)
      → T (allows (kind_of levels) (summary_of levels) newline (some_open levels) (class_of e) action) → T (is_live (act_by out action spot f around))
      → Kept limits levels e (some_open levels) (act_by out action spot f around)
  acted out left spot f around n s fail t alive = absurd alive
  acted out left spot f around n s (goto next effect) t alive =
      let a = goto_allowed (kind_of levels) (summary_of levels) newline (some_open levels) (class_of e) next effect t in
      keep a.taken (plain_outcome limits levels e (rw (leaf_newline a.leaf) at a) n s)
  acted out left spot f around n s (push within behind closing) t alive =
      let a = push_allowed (kind_of levels) (summary_of levels) newline (some_open levels) (class_of e) within behind closing t in
      keep a.0 (opener_outcome limits levels e a.1
      (opens-right (kind_of levels) (summary_of levels) e.newline (some_open levels) (opened_kind (brace_opens levels e.newline) (class_of e)) within behind
      (rw (newline_kept e (opener_no_closer e (told e) a.1), brace_summary levels e.newline) at a.2)) n s)
  acted out left spot f around n s (enter within effect outer behind closing) t alive =
      let a = enter_allowed (kind_of levels) (summary_of levels) newline (some_open levels) (class_of e) within effect outer behind closing t in
      let g = a.goes in
      let few : asked around ≡ 0 = let z : questions_of levels ≤ 0 = ltb-false 0 (questions_of levels) a.unasked in omega arith in
      keep g.taken (plain_outcome limits levels e (rw (leaf_newline g.leaf) at g) (n ∙ few) (in-nest a.takes few (a.behind_unasked ∙ rw few) s))
  acted out left spot f around n s (pop value) t alive =
      let a = pop_allowed (kind_of levels) (summary_of levels) newline (some_open levels) (class_of e) value t in
      keep a.0 (closer_outcome limits levels e (some_open levels) spot.first (value_of value f) s a.1 a.2 alive)
  acted out left spot f around n s pop_in t alive =
      let a = pop_in_allowed (kind_of levels) (summary_of levels) newline (some_open levels) (class_of e) t in
      keep a.0 (closer_outcome limits levels e (some_open levels) spot.first (value_of list_value f) (head_stacks s) a.1 a.2 alive)
  acted out left spot f around n s (leave value) t alive =
      left (value_of value f) (leave_allowed (kind_of levels) (summary_of levels) newline (some_open levels) (class_of e) value t) alive
  acted out left spot f around n s (ask ending) t alive =
      let a = ask_allowed (kind_of levels) (summary_of levels) newline (some_open levels) (class_of e) ending t in
      keep a.taken (question_outcome limits levels e (rw (leaf_newline a.leaf) at a) n s)
  acted out left spot f around n s turn t alive =
      let a = turn_allowed (kind_of levels) (summary_of levels) newline (some_open levels) (class_of e) t in
      let c = both (eqb (class_of e) colon) (some_open levels) a.2 in
      keep a.0 (answer_outcome limits levels e spot.first (value_of expression_value f) a.1 c.0 (holds (some_open levels) c.1) n s alive)
  acted out left spot f around n s finish t alive =
      absurd (no_end (told e) (finish_allowed (kind_of levels) (summary_of levels) newline (some_open levels) (class_of e) t))

-- where an element's token stands, if so many tree records stand before it
abbrev spot_of : ℕ → Element → Spot
spot_of before e = record { newline = e.newline; mark = before; first = e.first }

-- the row of a control that fits, where so many `?`s are open
row_allowed : (levels : Levels) (control : Control) (around : List Open) (newline : Bool) (class : ℕ) → T (related control (kind_of levels) (summary_of levels))
    → questions_of levels ≡ asked around → Fits control around → T (allows (kind_of levels) (summary_of levels) newline (ltb 0 (questions_of levels)) class (look class (row control newline)))
row_allowed levels control around newline class r n fits =
    let same : asks control ≡ ltb 0 (questions_of levels) = fits ∙ ap (ltb 0) (sym n) in
    rw same at (rule control (kind_of levels) (summary_of levels) r newline class)

-- a nest is left: what stands around it takes the element
left_kept : (limits : Limits) (levels : Levels) (e : Element) (before : ℕ) {around : List Open} → questions_of levels ≡ asked around → Stacks around levels
    → LeftKept limits levels e (leave_to (class_of e) (spot_of before (recorded e)) around)
left_kept limits levels e before n whole-text value r alive = absurd alive
left_kept limits levels e before n (in-group m q i u s) value r alive = absurd alive
left_kept limits levels e before n (in_question q u s) value r alive = absurd alive
left_kept limits levels e before n (in-nest {behind = behind} {closing = closing} {mark = opened} {f = f} {rest = rest} over few u s) value r alive =
    let m : questions_of levels ≡ asked rest = n ∙ sym few in
    acted limits levels e (leave_to (class_of e) (spot_of before (recorded e)) rest) (left_kept limits levels e before m s) (spot_of before (recorded e)) (close closing opened value f) rest m s
    (look (class_of e) (row behind (recorded e).newline))
    (row_allowed levels behind rest (recorded e).newline (class_of e) (takes-over behind (kind_of levels) (summary_of levels) over r) m u) alive

-- an element that the machine follows
pub kept : (limits : Limits) (levels : Levels) (e : Element) (before : ℕ) {state : State} → InStep state levels → T (is_live (consume state (token_of before (recorded e))))
    → Kept limits levels e (asks_in state) (consume state (token_of before (recorded e)))
unfolding class_of
kept limits levels e before stopped alive = absurd alive
kept limits levels e before (in_step {control = control} {f = f} {around = around} r n u s) alive =
    let same : asks control ≡ ltb 0 (questions_of levels) = u ∙ ap (ltb 0) (sym n) in
    rw same
    (acted limits levels e (leave_to (class_of e) (spot_of before (recorded e)) around) (left_kept limits levels e before n s) (spot_of before (recorded e)) f around n s
    (look (class_of e) (row control (recorded e).newline))
    (row_allowed levels control around (recorded e).newline (class_of e) r n u) alive)

-- the step of the reader, in step with a state, where the limits leave room
pub record Stepped (limits : Limits) (levels : Levels) (e : Element) (is_open : Bool) (after : State) : Type 0 where
  pub next : Levels
  pub steps : step limits levels e ≡ more next
  pub follows : InStep after next
  pub counts : count_so_far next ≡ cond (is_closer e) (count_so_far levels) (count_so_far levels + 1)
  pub senses : senses_so_far next ≡ senses_so_far levels ++ sense_at is_open after (class_of e) e.first

pub stepped : {limits : Limits} {levels : Levels} {e : Element} {is_open : Bool} {after : State} → Kept limits levels e is_open after → depth levels < limits.groups
    → count_so_far levels < limits.room → Stepped limits levels e is_open after
stepped {limits} {levels} {e} {is_open} {after} k shallow some = go (step limits levels e) refl k.outcome
  where
    go : (s : Step) → step limits levels e ≡ s → Outcome limits levels e is_open after s → Stepped limits levels e is_open after
    go s q (went_on {next = next} i c b) = record { next = next; steps = q; follows = i; counts = c; senses = b }
    go s q (too_deep o d) = absurd (omega arith)
    go s q (too_many c f) = absurd (omega arith)

-- where the machine takes the text's end, the reader is in no group
pub data Outermost : Levels → Type 0 where
  outermost : {trees : Trees} → Outermost (whole_text trees)

at_finish : (place : ℕ) (f : Frame) {levels : Levels} {around : List Open} → Stacks around levels → T (is_live (finish_in place f around)) → Outermost levels
at_finish place f whole-text alive = outermost
at_finish place f (in-group n r q u s) alive = absurd alive
at_finish place f (in-nest over few u s) alive = absurd alive
at_finish place f (in_question r u s) alive = absurd alive

module _ (levels : Levels) (spot : Spot) where
  abbrev LeftEnded : (Syntax → State) → Type 0
  LeftEnded out = (value : Syntax) → T (settled (kind_of levels) (summary_of levels)) → T (is_live (out value)) → Outermost levels

  ended : (out : Syntax → State) → LeftEnded out → (f : Frame) {around : List Open} → Stacks around levels → (action : Action) (is_open : Bool)
      → T (allows (kind_of levels) (summary_of levels) spot.newline is_open end_of_text action) → T (is_live (act_by out action spot f around)) → Outermost levels
  unfolding is_leaf
  ended out left f s fail is_open t alive = absurd alive
  ended out left f s (goto next effect) is_open t alive = absurd (goto_allowed (kind_of levels) (summary_of levels) spot.newline is_open end_of_text next effect t).leaf
  ended out left f s (push within behind closing) is_open t alive =
      absurd (push_allowed (kind_of levels) (summary_of levels) spot.newline is_open end_of_text within behind closing t).1
  ended out left f s (enter within effect outer behind closing) is_open t alive =
      absurd (enter_allowed (kind_of levels) (summary_of levels) spot.newline is_open end_of_text within effect outer behind closing t).goes.leaf
  ended out left f s (pop value) is_open t alive = absurd (pop_allowed (kind_of levels) (summary_of levels) spot.newline is_open end_of_text value t).1
  ended out left f s pop_in is_open t alive = absurd (pop_in_allowed (kind_of levels) (summary_of levels) spot.newline is_open end_of_text t).1
  ended out left f s (leave value) is_open t alive =
      left (value_of value f) (leave_allowed (kind_of levels) (summary_of levels) spot.newline is_open end_of_text value t) alive
  ended out left f s (ask ending) is_open t alive = absurd (ask_allowed (kind_of levels) (summary_of levels) spot.newline is_open end_of_text ending t).leaf
  ended out left f s turn is_open t alive = absurd (turn_allowed (kind_of levels) (summary_of levels) spot.newline is_open end_of_text t).1
  ended out left f s finish is_open t alive = at_finish spot.first f s alive

left_ended : (levels : Levels) (spot : Spot) {around : List Open} → Stacks around levels → LeftEnded levels spot (leave_to end_of_text spot around)
left_ended levels spot whole-text value r alive = absurd alive
left_ended levels spot (in-group n q i u s) value r alive = absurd alive
left_ended levels spot (in_question q u s) value r alive = absurd alive
left_ended levels spot (in-nest {behind = behind} {closing = closing} {mark = opened} {f = f} {rest = rest} over few u s) value r alive =
    ended levels spot (leave_to end_of_text spot rest) (left_ended levels spot s) (close closing opened value f) s
    (look end_of_text (row behind spot.newline)) (asks behind)
    (rule behind (kind_of levels) (summary_of levels) (takes-over behind (kind_of levels) (summary_of levels) over r) spot.newline end_of_text) alive

pub outermost_at_end : (levels : Levels) (spot : Spot) {state : State} → InStep state levels → T (is_live (consume state (token end_of_text spot)))
    → Outermost levels
outermost_at_end levels spot stopped alive = absurd alive
outermost_at_end levels spot (in_step {control = control} {f = f} {around = around} r n u s) alive =
    ended levels spot (leave_to end_of_text spot around) (left_ended levels spot s) f s (look end_of_text (row control spot.newline)) (asks control)
    (rule control (kind_of levels) (summary_of levels) r spot.newline end_of_text) alive
