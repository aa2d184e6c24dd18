-- The senses of braces, `++`, `--` and `:` that are read so far, and what a step of the reader adds to them.
use mathlib.Core.Path.{◌≡◌, refl, sym, ap, ◌∙◌}
use mathlib.Core.Bool.{Bool, true, false, not, cond, ◌&&◌, ◌||◌}
use mathlib.Core.List.{List, [], ◌∷◌, ◌++◌, append_assoc, append-nil}
use Prim.Native.Nat.{ℕ, ◌≤◌, ◌<◌}
use native.Mathlib.Omega.{arith}
use borrow.Author.Tests.{eqb-true, ne_eqb, leb-true, leb-false}
use lib.Dec.{T, T_not, not_T, eqb, ltb, leb, eqb→eq}
use Rattle.text.proofs.Range.{alike}
use Rattle.text.proofs.Members.{is_in}
use Rattle.elements.specs.Elements.{sign_kind}
use Rattle.elements.specs.declared.Element.{Element}
use Rattle.rule.specs.Trees.{Trees, none, leaf, group, paren_kind, object_kind, block_kind, bracket_kind, before_kind, after_kind, answer_kind}
use Rattle.rule.specs.Levels.{Levels, whole_text, inside, slash_opens, settled_in, on_top}
use Rattle.rule.specs.Machinery.Summary.{operand}
use Rattle.derivations.specs.Tokens.{class_of, increment, decrement, colon, open_paren, open_bracket, open_brace}
use Rattle.derivations.specs.Senses.{Sense, before_at, after_at, answer_at, sense_of}
use Rattle.machine.specs.Machinery.Machine.{Control, Frame, Open, State, live}
use Rattle.agreement.proofs.TreeClasses.{is_leaf, no_leaf, opens_group, opened_kind, closes_group, holds, fails, is_update}
use Rattle.derivations.proofs.Classes.{settled-kind, questions_of}
use Rattle.agreement.proofs.Related.{kinds, is_last, implies}
use Rattle.agreement.proofs.Agreement.{one_sided}
use Rattle.derivations.proofs.MachineSenses.{sense_at}

-- the senses of trees, in text order, and of levels
unfoldable pub tree_senses : Trees → List Sense
tree_senses none = []
tree_senses (leaf before e) = tree_senses before ++ sense_of e.kind e.first
tree_senses (group before kind first end newline within) = tree_senses before ++ (sense_of kind first ++ tree_senses within)

unfoldable pub senses_so_far : Levels → List Sense
senses_so_far (whole_text trees) = tree_senses trees
senses_so_far (inside around kind first newline trees) = senses_so_far around ++ (sense_of kind first ++ tree_senses trees)

sensed_on_top : (extend : Trees → Trees) (more : List Sense) → ((trees : Trees) → tree_senses (extend trees) ≡ tree_senses trees ++ more) → (levels : Levels)
    → senses_so_far (on_top extend levels) ≡ senses_so_far levels ++ more
unfolding senses_so_far
sensed_on_top extend more h (whole_text trees) = h trees
sensed_on_top extend more h (inside around kind first newline trees) = rw (h trees) (simp append_assoc)

-- a leaf that the rule settles nothing of has no sense
small_kind : (e : Element) → T (is_leaf (class_of e)) → e.kind ≤ sign_kind
unfolding class_of is_leaf
small_kind e l = go (leb e.kind sign_kind) refl
  where
    go : (b : Bool) → leb e.kind sign_kind ≡ b → e.kind ≤ sign_kind
    go true q = leb-true e.kind sign_kind q
    go false q =
        let h : sign_kind < e.kind = leb-false e.kind sign_kind q in
        let none : (kind : ℕ) → kind ≤ sign_kind → eqb e.kind kind ≡ false = λ kind small. ne_eqb e.kind kind (λ same. omega arith) in
        absurd (rw (none 1 (omega arith), none 2 (omega arith), none 3 (omega arith), none 4 (omega arith), none 5 (omega arith), none 6 (omega arith), none 0 (omega arith)) at l)

no_sense : (kind first : ℕ) → kind ≤ sign_kind → sense_of kind first ≡ []
no_sense kind first small =
    let none : (other : ℕ) → sign_kind < other → eqb kind other ≡ false = λ other large. ne_eqb kind other (λ same. omega arith) in
    rw (none 8 (omega arith), none 9 (omega arith), none 11 (omega arith), none 12 (omega arith), none 13 (omega arith))

module _ (levels : Levels) (e : Element) (next : Control) (g : Frame) (around : List Open) where
  -- a leaf adds the sense that the machine gives it
  pub leaf_senses : T (is_leaf (class_of e))
      → T (implies (is_update (class_of e)) (alike (is_last next operand) (not (slash_opens levels || e.newline))))
      → senses_so_far (on_top (λ before. leaf before (settled_in levels e)) levels)
      ≡ senses_so_far levels ++ sense_at (ltb 0 (questions_of levels)) (live next g around) (class_of e) e.first
  unfolding tree_senses
  leaf_senses l right =
      sensed_on_top (λ before. leaf before (settled_in levels e)) (sense_of (settled_in levels e).kind e.first) (λ trees. refl) levels
      ∙ ap (λ (senses : List Sense). senses_so_far levels ++ senses)
      (rw (settled-kind levels e, fails (eqb (class_of e) open_brace) (not_T (eqb (class_of e) open_brace) (no_leaf (λ class. eqb class open_brace) tt (class_of e) l)))
      (go (is_update (class_of e)) (eqb (class_of e) colon && ltb 0 (questions_of levels)) (slash_opens levels || e.newline) (is_last next operand) right))
    where
      go : (u c b x : Bool) → T (implies u (alike x (not b)))
          → sense_of (cond u (cond b before_kind after_kind) (cond c answer_kind e.kind)) e.first
          ≡ cond u (cond x (after_at e.first) (before_at e.first) ∷ []) (cond c (answer_at e.first ∷ []) [])
      go true c true true t = absurd t
      go true c true false t = refl
      go true c false true t = refl
      go true c false false t = absurd t
      go false true b x t = refl
      go false false b x t = no_sense e.kind e.first (small_kind e l)

-- a closer adds none
pub closer_senses : (around : Levels) (kind first end : ℕ) (newline : Bool) (trees : Trees) (asked : Bool) (after : State) (class place : ℕ) → T (closes_group class)
    → senses_so_far (on_top (λ before. group before kind first end newline trees) around)
    ≡ senses_so_far (inside around kind first newline trees) ++ sense_at asked after class place
unfolding senses_so_far tree_senses
closer_senses around kind first end newline trees asked after class place t =
    same around ∙ sym (ap (λ (senses : List Sense). senses_so_far (inside around kind first newline trees) ++ senses)
    (rw (none open_brace tt, none increment tt, none decrement tt, none colon tt)) ∙ append-nil (senses_so_far (inside around kind first newline trees)))
  where
    none : (x : ℕ) → T (not (closes_group x)) → eqb class x ≡ false
    none x other = fails (eqb class x) (not_T (eqb class x) (λ is. T_not (closes_group x) other (rw (eqb→eq class x is) at t)))

    same : (around : Levels) → senses_so_far (on_top (λ before. group before kind first end newline trees) around) ≡ senses_so_far (inside around kind first newline trees)
    same (whole_text before) = refl
    same (inside outer k f l before) = simp append_assoc

-- an opener adds the sense of its brace, as the machine takes it
one_side : (within : Control) → T (one_sided within) → T (is_in (kinds within) block_kind) → is_in (kinds within) object_kind ≡ false
one_side within = go (is_in (kinds within) block_kind) (is_in (kinds within) object_kind)
  where
    go : (a b : Bool) → T (not (a && b)) → T a → b ≡ false
    go true true s t = absurd s
    go true false s t = refl
    go false b s t = absurd t

opened_sense : (object : Bool) (class first : ℕ) (asked : Bool) (within : Control) (f : Frame) (around : List Open) → T (opens_group class) → T (one_sided within)
    → T (is_in (kinds within) (opened_kind object class)) → sense_of (opened_kind object class) first ≡ sense_at asked (live within f around) class first
opened_sense object class first asked within f around t one = go (eqb class open_paren) (eqb class open_bracket) refl refl object t
  where
    go : (paren bracket : Bool) → eqb class open_paren ≡ paren → eqb class open_bracket ≡ bracket → (object : Bool) → T (paren || bracket || eqb class open_brace)
        → T (is_in (kinds within) (cond paren paren_kind (cond bracket bracket_kind (cond object object_kind block_kind))))
        → sense_of (cond paren paren_kind (cond bracket bracket_kind (cond object object_kind block_kind))) first ≡ sense_at asked (live within f around) class first
    go true bracket p q object t r = rw (eqb-true class open_paren p)
    go false true p q object t r = rw (eqb-true class open_bracket q)
    go false false p q true t r = rw (holds (eqb class open_brace) t, holds (is_in (kinds within) object_kind) r)
    go false false p q false t r = rw (holds (eqb class open_brace) t, one_side within one r)

pub opener_senses : (object : Bool) (class first : ℕ) (newline : Bool) (levels : Levels) (asked : Bool) (within : Control) (f : Frame) (around : List Open)
    → T (opens_group class) → T (one_sided within) → T (is_in (kinds within) (opened_kind object class))
    → senses_so_far (inside levels (opened_kind object class) first newline none) ≡ senses_so_far levels ++ sense_at asked (live within f around) class first
unfolding senses_so_far tree_senses
opener_senses object class first newline levels asked within f around t one r =
    ap (λ (senses : List Sense). senses_so_far levels ++ senses)
    (append-nil (sense_of (opened_kind object class) first) ∙ opened_sense object class first asked within f around t one r)
