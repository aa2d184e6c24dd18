-- Before a token nests that are done are left, and a held name is an operand.
use mathlib.Core.Path.{◌≡◌, refl, sym, ◌∙◌}
use mathlib.Core.Bool.{Bool, true, false, cond, not, ◌||◌}
use mathlib.Core.List.{List, ◌++◌}
use Prim.Native.Nat.{ℕ, ◌+◌, ◌-◌, ◌/◌, ◌%◌, ◌≤◌, ◌<◌}
use native.Mathlib.Omega.{arith}
use borrow.Author.Tests.{eq-eqb, ne_eqb, eqb-true, eqb-false, leb-true, le-leb}
use lib.Dec.{eqb, leb}
use lib.ListN.{length, get_or}
use Rattle.tables.specs.Records.{most_trees, most_syntax}
use Rattle.machine.specs.Tokens.{name, colon, else_word, do_word, try_word, case_word, default_word, finally_word, close_brace}
use Rattle.machine.specs.Syntax.{Syntax}
use Rattle.machine.specs.Machinery.Machine as machine
use Rattle.machine.specs.Machinery.Machine.{Frame, if_nest, else_nest, do_nest, Setting, in_clause, Target, Ending, Control, statement_due, statement_done, name_first, body_done, catch_done, try_ended, operand_done, Value, value_of, done_value, statement_value}
use Rattle.controls.specs.Machinery.Numbers.{setting_by, nest_by, ending_by, target_by, control_by, control_of, behind_by, nest_number, setting_number}
use Rattle.controls.specs.Machinery.Steps.{SettledAt, Settled}
use Rattle.controls.specs.declared.Control as code
use Rattle.controls.specs.declared.Place as places
use Rattle.controls.specs.declared.Place.TheVariants as stand
use Rattle.controls.specs.declared.Setting as codes
use Rattle.controls.specs.declared.Setting.TheVariants as sits
use Rattle.controls.specs.declared.Nest as opened
use Rattle.controls.specs.declared.Nest.TheVariants as kinds
use Rattle.controls.specs.declared.Ending.TheVariants as by
use Rattle.controls.specs.Machinery.Written.{put_record}
use Rattle.waiting.specs.Machinery.Waiting.{nothing_waits, popped, nest_kind, settings, Backed, Completes, stack_with, stack_as, waiting_one, made_one, with_held, restarted}
use Rattle.waiting.specs.declared.Level.{Level}
use Rattle.waiting.specs.declared.Waiting.{Waiting}
use Rattle.waiting.proofs.HoldLaws.{backed, start_le}
use Rattle.frames.specs.Machinery.Stands.{nest_in, owed}
use Rattle.frames.specs.Machinery.Effects.{StandsSomewhere, MayEnter, EntersNest, Heads, Moved, Moves, may_be_done, ends_clause, is_if, is_done_at, is_done, Leaving, leaving_statement, leaving_catch, leaving_try, leaving_case, leaving_default, leaving_clauses, MayLeaveOne, Leaves, Names, Readies}
use Rattle.frames.specs.declared.Standing.{Standing}
use Rattle.frames.proofs.NumberLaws.{setting_few}
use Rattle.frames.proofs.CarryLaws.{carries_made, completes_lightens, Around}
use Rattle.frames.proofs.NestLaws.{outside, left_complete, left_do, try_closes, enters, plain_closes, names, nest_around, nest_owes, name_takes, leaving_passes}

-- what is done before a token, over the code's controls
module _ (at : code.Control) where
  control_named : at.place ≡ stand.NameFirst → control_of at ≡ name_first (setting_by at.setting)
  control_named e = rw e

  control_done : at.place ≡ stand.StatementDone → control_of at ≡ statement_done (nest_by at.setting)
  control_done e = rw e

  control_catch : at.place ≡ stand.CatchDone → control_of at ≡ catch_done
  control_catch e = rw e

  control_try : at.place ≡ stand.TryEnded → control_of at ≡ try_ended
  control_try e = rw e

  control_clause : at.place ≡ stand.ClauseStatement → control_of at ≡ statement_due false in_clause
  control_clause e = rw e

  operand_settles : {ending : Ending} {target : Target} (class : ℕ) → control_of at ≡ operand_done ending target → Settled at class
  operand_settles class e =
      record {
        no_nest = λ p. let q = control_done p in let z : ◌≡◌ {A = ℕ} 0 1 = cc in absurd (omega arith);
        no_name = λ p. let q = control_named p in let z : ◌≡◌ {A = ℕ} 0 1 = cc in absurd (omega arith);
        no_catch = λ p. let q = control_catch p in let z : ◌≡◌ {A = ℕ} 0 1 = cc in absurd (omega arith);
        no_try = λ p. let q = control_try p in let z : ◌≡◌ {A = ℕ} 0 1 = cc in absurd (omega arith);
        no_clause = λ p. let q = control_clause p in let z : ◌≡◌ {A = ℕ} 0 1 = cc in absurd (omega arith);
      }

  nest_unnamed : (nest : opened.Nest) (setting : Setting) → control_of at ≡ behind_by nest setting → at.place ≡ stand.NameFirst → ⊥
  nest_unnamed nest setting e p =
      let one : owed (control_of at) ≡ 1 = rw (control_named p) in
      let none : owed (control_of at) ≡ 0 = rw e (nest_owes nest setting) in
      omega arith

  body_goes_on : {setting : Setting} → control_of at ≡ body_done setting → may_be_done at.place ≡ false
  body_goes_on {setting = setting} e = go at.place e
    where
      go : (place : places.Place) → control_by place at.ending at.setting at.flag ≡ body_done setting → may_be_done place ≡ false
      go stand.StatementDone e = absurd (let z : ◌≡◌ {A = ℕ} 0 1 = cc in omega arith)
      go stand.CatchDone e = absurd (let z : ◌≡◌ {A = ℕ} 0 1 = cc in omega arith)
      go stand.TryEnded e = absurd (let z : ◌≡◌ {A = ℕ} 0 1 = cc in omega arith)
      go stand.ClauseStatement e = absurd (let z : ◌≡◌ {A = ℕ} 0 1 = cc in omega arith)
      go _ e = refl

-- a nest is done that a token does not go on with
pub record Done (at : code.Control) (class : ℕ) : Type 0 where
  pub value : Value
  pub leaving : Leaving class (control_of at) value
  pub may : may_be_done at.place ≡ true

-- one move after the other
moved_on : {from : Control} {class : ℕ} {c : code.Control} {between : List Waiting} {cells : List ℕ} {stack' : List Waiting} {cells' : List ℕ} {s : Level} {r : Standing} {g : Frame} {nests : List machine.Open} {table : List ℕ} {stack₀ : List Waiting} {first floor passed : ℕ}
    → (m : Moved from class g nests table stack₀ first floor passed (record { control = c; level = s }) between cells)
    → Moved (control_of c) class m.frame_then m.nests_then table stack₀ first floor passed r stack' cells'
    → Moved from class g nests table stack₀ first floor passed r stack' cells'
moved_on m n =
    record {
      frame_then = n.frame_then;
      nests_then = n.nests_then;
      stands = n.stands;
      kind = n.kind ∙ m.kind;
      takes = λ around spot u. m.takes around spot u ∙ n.takes around spot u;
    }

one_more : (b : Bool) → cond b 1 0 ≤ 1
one_more true = omega arith
one_more false = omega arith

-- the numbers of a nest tell it
module _ {nests : List machine.Open} {table : List ℕ} {stack₀ : List Waiting} {first floor : ℕ} {value : Syntax} {l : Level} {stack : List Waiting} {cells : List ℕ} {number : ℕ}
    (a : Around nests table stack₀ first floor value l stack cells) (at : (get_or stack (l.top - 1) nothing_waits).kind - nest_kind ≡ number) where
  nest_is : {nest : opened.Nest} → ((n : opened.Nest) → number / settings ≡ nest_number n → nest ≡ n) → nest ≡ a.nest
  nest_is told = told a.nest (omega (arith, a.stacked, setting_few a.setting))

  setting_is : {setting : codes.Setting} → ((t : codes.Setting) → number % settings ≡ setting_number t → setting ≡ t) → setting ≡ a.setting
  setting_is told = told a.setting (omega (arith, a.stacked, setting_few a.setting))

module _ {l : Level} {stack : List Waiting} {cells : List ℕ} where
  pub nest_enters : (nest : opened.Nest) (setting : codes.Setting) (mark : ℕ) {outside inside r : Level} {after : List Waiting} {cells' : List ℕ} → mark ≤ most_trees → l.top < length stack
      → Heads nest l stack cells outside cells' → (inside ≡ waiting_one outside) × (after ≡ stack_with stack outside.top (nest_in nest setting) mark outside.start) → r ≡ with_held mark inside
      → EntersNest nest setting mark l stack cells r after cells'
  nest_enters nest setting mark small fits heads e f from g nests table stack₀ first floor passed s opens more =
      rw (f, e.0, e.1) (enters nest setting mark more small fits heads opens s)

  -- what a nest's wait asks for
  pub enter_asks : {nest : opened.Nest} {setting : codes.Setting} {mark : ℕ} {r : Level} {cells' : List ℕ} → MayEnter nest setting mark l stack cells → Heads nest l stack cells r cells'
      → (r.top < length stack) × (r.start ≤ most_trees)
  enter_asks {setting = setting} {mark = mark} may heads =
      let h = outside setting mark heads may.opens may.somewhere.stands in
      (omega (arith, h.lower, may.room), omega (arith, h.carries.holds.counts, h.carries.holds.few))

  pub around_may : (may : MayLeaveOne l stack cells) → Around may.somewhere.nests may.somewhere.table may.somewhere.stack₀ may.somewhere.first may.somewhere.floor (value_of may.value may.somewhere.g) l stack cells
  around_may may = nest_around may.leaving may.somewhere.stands

  -- what the record of a `try` asks for, and what then stands there
  pub try_asks : MayLeaveOne l stack cells
      → ((get_or stack (l.top - 1) nothing_waits).start ≤ l.count) × (l.count < most_syntax) × ((get_or stack (l.top - 1) nothing_waits).mark ≤ most_trees)
  try_asks may =
      let a = around_may may in
      (start_le a.carries.holds, omega (arith, a.carries.holds.few), omega (arith, a.mark_is, a.marked))

  pub try_held : (m : ℕ) {one : Level} {cells₁ : List ℕ} → MayLeaveOne l stack cells
      → (one ≡ made_one (popped l stack)) × (cells₁ ≡ put_record cells l.count try_word m (l.count - (get_or stack (l.top - 1) nothing_waits).start + 1)) → Backed one stack cells₁
  try_held m may made =
      let a = around_may may in
      let room = leaving_passes may.leaving may.somewhere.stands in
      rw (made.0, made.1) (backed (carries_made a.carries try_word m (omega (arith, room.0, room.1, a.waits))).holds)

  module _ (may : MayLeaveOne l stack cells) {number : ℕ} {c : code.Control} {nest : opened.Nest} {setting : codes.Setting} (at : (get_or stack (l.top - 1) nothing_waits).kind - nest_kind ≡ number)
      (nests-told : (n : opened.Nest) → number / settings ≡ nest_number n → nest ≡ n) (settings-told : (t : codes.Setting) → number % settings ≡ setting_number t → setting ≡ t) where
    -- the number that stands for the nest tells which is left
    pub plain_leaves : {all : Level} {cells' : List ℕ} → (nest ≡ kinds.Do → ⊥) → (nest ≡ kinds.Try → ⊥)
        → ((nest ≡ kinds.Do → ⊥) → control_of c ≡ behind_by nest (setting_by setting))
        → Completes (popped l stack) stack cells all cells' → Leaves l stack cells (record { control = c; level = all }) stack cells'
    plain_leaves no-do no_try behinds completes =
        let b = around_may may in
        record {
          fewer = omega (arith, completes_lightens b.carries completes, b.waits, one_more (may_be_done c.place));
          no_name = nest_unnamed c nest (setting_by setting) (behinds no-do);
          moves = λ class from value leaving g nests table stack₀ first floor passed s.
              let a = nest_around leaving s in
              let n = nest_is a at nests-told in
              left_complete leaving s a (rw (n, setting_is a at settings-told) at (behinds no-do)) (λ e. no-do (n ∙ e))
              (plain_closes a.nest a.mark (value_of value g) a.done a.starts (λ e. no-do (n ∙ e)) (λ e. no_try (n ∙ e)))
              a.carries (omega (arith, a.waits)) completes;
        }

    pub try_leaves : (m : ℕ) {one all : Level} {cells₁ cells' : List ℕ} → nest ≡ kinds.Try
        → control_of c ≡ behind_by kinds.Try (setting_by setting)
        → (get_or stack (l.top - 1) nothing_waits).mark ≡ m
        → (one ≡ made_one (popped l stack)) × (cells₁ ≡ put_record cells l.count try_word m (l.count - (get_or stack (l.top - 1) nothing_waits).start + 1))
        → Completes one stack cells₁ all cells' → Leaves l stack cells (record { control = c; level = all }) stack cells'
    try_leaves m {all = all} {cells' = cells'} is behinds marked made completes =
        let b = around_may may in
        let room = leaving_passes may.leaving may.somewhere.stands in
        let done : Completes (made_one (popped l stack)) stack (put_record cells l.count try_word m (l.count - (get_or stack (l.top - 1) nothing_waits).start + 1)) all cells' = rw (made.0, made.1) at completes in
        record {
          fewer = omega (arith, completes_lightens (carries_made b.carries try_word m (omega (arith, room.0, room.1, b.waits))) done, b.waits, one_more (may_be_done c.place));
          no_name = nest_unnamed c kinds.Try (setting_by setting) behinds;
          moves = λ class from value leaving g nests table stack₀ first floor passed s.
              let a = nest_around leaving s in
              let n : a.nest ≡ kinds.Try = sym (nest_is a at nests-told) ∙ is in
              let p = leaving_passes leaving s in
              let same : a.mark ≡ m = sym a.mark_is ∙ marked in
              left_complete leaving s a (rw (n, ← setting_is a at settings-told) behinds) (λ e. let q : kinds.Try ≡ kinds.Do = sym n ∙ e in let z : ◌≡◌ {A = ℕ} 0 1 = cc in omega arith)
              (rw same (try_closes a.nest m (value_of value g) a.done a.starts n))
              (carries_made a.carries try_word m (omega (arith, p.0, p.1, a.waits))) (omega (arith, a.waits)) done;
        }

    pub do_leaves : {r : Level} {stack' : List Waiting} → nest ≡ kinds.Do → control_of c ≡ control_by stand.BodyDone by.Statement setting true
        → (r ≡ restarted l) × (stack' ≡ stack_as stack l.top do_word) → Leaves l stack cells (record { control = c; level = r }) stack' cells
    do_leaves is behinds e =
        let b : control_of c ≡ behind_by kinds.Do (setting_by setting) = behinds in
        rw (e.0, e.1)
        (record {
          fewer = rw (body_goes_on c b) (omega arith);
          no_name = nest_unnamed c kinds.Do (setting_by setting) b;
          moves = λ class from value leaving g nests table stack₀ first floor passed s.
              let a = nest_around leaving s in
              let n : a.nest ≡ kinds.Do = sym (nest_is a at nests-told) ∙ is in
              left_do leaving s a (rw (n, ← setting_is a at settings-told) b) n;
        })

  pub moves_none : (at : code.Control) (class : ℕ) → Moves (control_of at) class l stack cells (record { control = at; level = l }) stack cells
  moves_none at class g nests table stack₀ first floor passed s = record { frame_then = g; nests_then = nests; stands = s; kind = refl; takes = λ around spot u. refl }

  pub moves_on : {from : Control} {class : ℕ} {c : code.Control} {middle : Level} {between : List Waiting} {cells₁ : List ℕ} {stack' : List Waiting} {cells' : List ℕ} {r : Standing} → Done c class
      → Moves from class l stack cells (record { control = c; level = middle }) between cells₁ → Leaves middle between cells₁ r stack' cells'
      → Moves from class l stack cells r stack' cells'
  moves_on {class = class} {c = c} done moves leaves g nests table stack₀ first floor passed s =
      let m = moves g nests table stack₀ first floor passed s in
      moved_on m (leaves.moves class (control_of c) done.value done.leaving m.frame_then m.nests_then table stack₀ first floor passed m.stands)

  pub done_somewhere : {c : code.Control} {class : ℕ} → Done c class → StandsSomewhere (control_of c) l stack cells → MayLeaveOne l stack cells
  done_somewhere {c = c} {class = class} done h = record { class = class; from = control_of c; value = done.value; leaving = done.leaving; somewhere = h }

  pub leaves_somewhere : {c : code.Control} {class : ℕ} {r : Standing} {stack' : List Waiting} {cells' : List ℕ} → Done c class → StandsSomewhere (control_of c) l stack cells
      → Leaves l stack cells r stack' cells' → StandsSomewhere (control_of r.control) r.level stack' cells'
  leaves_somewhere {c = c} {class = class} done h leaves =
      let m = leaves.moves class (control_of c) done.value done.leaving h.g h.nests h.table h.stack₀ h.first h.floor h.passed h.stands in
      record { g = m.frame_then; nests = m.nests_then; table = h.table; stack₀ = h.stack₀; first = h.first; floor = h.floor; passed = h.passed; stands = m.stands }

  -- below the places where something is done, what stands there stays
  pub stays : (at : code.Control) (class : ℕ) → Settled at class → Readies at class l stack cells (record { control = at; level = l }) stack cells
  stays at class settled = record { moves = moves_none at class; settled = settled }

pub settled_other : (at : code.Control) (class : ℕ) → (at.place ≡ stand.StatementDone → ⊥) → (at.place ≡ stand.NameFirst → ⊥) → (at.place ≡ stand.CatchDone → ⊥) → (at.place ≡ stand.TryEnded → ⊥)
    → (at.place ≡ stand.ClauseStatement → ⊥) → Settled at class
settled_other at class a b d f g =
    record { no_nest = λ e. absurd (a e); no_name = λ e. absurd (b e); no_catch = λ e. absurd (d e); no_try = f; no_clause = λ e. absurd (g e) }

pub settled_name : (place : places.Place) (setting : codes.Setting) (class : ℕ) → place ≡ stand.NameFirst → class ≡ colon → SettledAt place setting class
settled_name place setting class is label =
    record {
      no_nest = λ e. absurd (let q : stand.NameFirst ≡ stand.StatementDone = sym is ∙ e in let z : ◌≡◌ {A = ℕ} 0 1 = cc in omega arith);
      no_name = λ e. label;
      no_catch = λ e. absurd (let q : stand.NameFirst ≡ stand.CatchDone = sym is ∙ e in let z : ◌≡◌ {A = ℕ} 0 1 = cc in omega arith);
      no_try = λ e. let q : stand.NameFirst ≡ stand.TryEnded = sym is ∙ e in let z : ◌≡◌ {A = ℕ} 0 1 = cc in omega arith;
      no_clause = λ e. absurd (let q : stand.NameFirst ≡ stand.ClauseStatement = sym is ∙ e in let z : ◌≡◌ {A = ℕ} 0 1 = cc in omega arith);
    }

-- the tests of `is_done_at`, taken apart
nest_test : (setting : codes.Setting) (class : ℕ) → (not (eqb class else_word) || not (is_if setting)) ≡ true → nest_by setting ≡ if_nest → class ≡ else_word → ⊥
nest_test sits.IfNest class e i f = let w : ◌≡◌ {A = Bool} false true = rw (eq-eqb class else_word f) at e in let z : ◌≡◌ {A = ℕ} 0 1 = cc in omega arith
nest_test sits.ElseNest class e i f = let z : ◌≡◌ {A = ℕ} 0 1 = cc in omega arith
nest_test _ class e i f = let z : ◌≡◌ {A = ℕ} 0 1 = cc in omega arith

clause_test : (class : ℕ) → ends_clause class ≡ true → Leaving class (statement_due false in_clause) done_value
unfolding ends_clause
clause_test class e = go (eqb class case_word) (eqb class default_word) (eqb class close_brace) refl refl refl e
  where
    go : (a b d : Bool) → eqb class case_word ≡ a → eqb class default_word ≡ b → eqb class close_brace ≡ d → (a || (b || d)) ≡ true → Leaving class (statement_due false in_clause) done_value
    go true b d x y z e = leaving_case (eqb-true class case_word x)
    go false true d x y z e = leaving_default (eqb-true class default_word y)
    go false false true x y z e = leaving_clauses (eqb-true class close_brace z)
    go false false false x y z e = absurd (let w : ◌≡◌ {A = ℕ} 0 1 = cc in omega arith)

not_true : (b : Bool) → not b ≡ true → b ≡ false
not_true true e = absurd (let w : ◌≡◌ {A = ℕ} 0 1 = cc in omega arith)
not_true false e = refl

pub done_here : (at : code.Control) (class : ℕ) → is_done at class ≡ true → Done at class
done_here at class e = go at.place refl e
  where
    go : (place : places.Place) → at.place ≡ place → is_done_at place at.setting class ≡ true → Done at class
    go stand.StatementDone x e = record { value = statement_value; leaving = rw (control_done at x) (leaving_statement (nest_test at.setting class e)); may = rw x }
    go stand.CatchDone x e =
        record { value = done_value; leaving = rw (control_catch at x) (leaving_catch (eqb-false class finally_word (not_true (eqb class finally_word) e))); may = rw x }
    go stand.TryEnded x e = record { value = done_value; leaving = rw (control_try at x) leaving_try; may = rw x }
    go stand.ClauseStatement x e = record { value = done_value; leaving = rw (control_clause at x) (clause_test class e); may = rw x }
    go _ x e = absurd (let w : ◌≡◌ {A = Bool} false true = e in let z : ◌≡◌ {A = ℕ} 0 1 = cc in omega arith)

-- where the tests fail
any_or : (b : Bool) → (b || true) ≡ false → ⊥
any_or true e = let z : ◌≡◌ {A = ℕ} 0 1 = cc in omega arith
any_or false e = let z : ◌≡◌ {A = ℕ} 0 1 = cc in omega arith

else_test : (class : ℕ) → (not (eqb class else_word) || false) ≡ false → class ≡ else_word
else_test class e = go (eqb class else_word) refl e
  where
    go : (b : Bool) → eqb class else_word ≡ b → (not b || false) ≡ false → class ≡ else_word
    go true x e = eqb-true class else_word x
    go false x e = let w : ◌≡◌ {A = ℕ} 0 1 = cc in absurd (omega arith)

nest_settled : (setting : codes.Setting) (class : ℕ) → (not (eqb class else_word) || not (is_if setting)) ≡ false → (setting ≡ sits.IfNest) × (class ≡ else_word)
nest_settled sits.IfNest class e = (refl, else_test class e)
nest_settled _ class e = absurd (any_or (not (eqb class else_word)) e)

catch_settled : (class : ℕ) → not (eqb class finally_word) ≡ false → class ≡ finally_word
catch_settled class e = go (eqb class finally_word) refl e
  where
    go : (b : Bool) → eqb class finally_word ≡ b → not b ≡ false → class ≡ finally_word
    go true x e = eqb-true class finally_word x
    go false x e = let w : ◌≡◌ {A = ℕ} 0 1 = cc in absurd (omega arith)

clause_settled : (class : ℕ) → ends_clause class ≡ false → (class ≡ case_word → ⊥) × (class ≡ default_word → ⊥) × (class ≡ close_brace → ⊥)
unfolding ends_clause
clause_settled class e = go (eqb class case_word) (eqb class default_word) (eqb class close_brace) refl refl refl e
  where
    go : (a b d : Bool) → eqb class case_word ≡ a → eqb class default_word ≡ b → eqb class close_brace ≡ d → (a || (b || d)) ≡ false
        → (class ≡ case_word → ⊥) × (class ≡ default_word → ⊥) × (class ≡ close_brace → ⊥)
    go true b d x y z e = let w : ◌≡◌ {A = ℕ} 0 1 = cc in absurd (omega arith)
    go false true d x y z e = let w : ◌≡◌ {A = ℕ} 0 1 = cc in absurd (omega arith)
    go false false true x y z e = let w : ◌≡◌ {A = ℕ} 0 1 = cc in absurd (omega arith)
    go false false false x y z e = (eqb-false class case_word x, eqb-false class default_word y, eqb-false class close_brace z)

pub settled_here : (place : places.Place) (setting : codes.Setting) (class : ℕ) → is_done_at place setting class ≡ false → (place ≡ stand.NameFirst → ⊥) → SettledAt place setting class
settled_here place setting class e unnamed =
    record {
      no_nest = λ p. nest_settled setting class (rw p at e);
      no_name = λ p. absurd (unnamed p);
      no_catch = λ p. catch_settled class (rw p at e);
      no_try = λ p. let w : true ≡ false = rw p at e in let v : ◌≡◌ {A = ℕ} 0 1 = cc in omega arith;
      no_clause = λ p. clause_settled class (rw p at e);
    }

pub name_readies : {at c : code.Control} {l r : Level} {cells cells' : List ℕ} → at.place ≡ stand.NameFirst → control_of c ≡ control_by stand.OperandDone by.Statement at.setting true
    → (r ≡ made_one l) × (cells' ≡ put_record cells l.count name l.held (l.count - l.start + 1)) → Names at l cells (record { control = c; level = r }) cells'
name_readies {at = at} {c = c} e f made class stack other =
    record {
      moves = λ g nests table stack₀ first floor passed s.
          record {
            frame_then = g;
            nests_then = nests;
            stands = rw (f, made.0, made.1) (names (rw (control_named at e) at s));
            kind = rw (control_named at e, f);
            takes = λ around spot u. rw (control_named at e, f) (name_takes (setting_by at.setting) g (nests ++ around) class spot u other);
          };
      settled = operand_settles c class f;
    }
