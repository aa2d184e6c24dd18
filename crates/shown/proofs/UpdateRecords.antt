-- The part that a `++` or `--` marks, and the record that marks it: the step that makes the one gives the other its sense.
use mathlib.Core.Path.{◌≡◌, refl, sym, ap, subst, ◌∙◌}
use mathlib.Core.Logic.{◌⊎◌, inl, inr}
use mathlib.Core.Bool.{Bool, true, false, false≢true, not, cond}
use mathlib.Core.List.Memᴰ
use mathlib.Core.List.{List, [], ◌∷◌, ◌++◌, Memᴰ}
use Prim.Native.Nat.{ℕ, ◌+◌, ◌*◌, ◌≤◌}
use native.Mathlib.Nat.{zero-add}
use native.Mathlib.Omega.{arith}
use borrow.Author.Tests.{eqb-true}
use lib.Dec.{T, T_not, eqb}
use lib.ListN.{get_or}
use lib.Seq.{get_or-append-add}
use Rattle.elements.specs.declared.Element.{Element}
use Rattle.elements.specs.Elements.{stating}
use Rattle.elements.proofs.Bounds.{found_placed}
use Rattle.elements.proofs.Choices.{cond_known}
use Rattle.rule.specs.Trees.{object_kind, block_kind, before_kind, after_kind, answer_kind}
use Rattle.tables.specs.Records.{tree_width, tree_record}
use Rattle.derivations.specs.Cuts.{is_closer, Cuts, cut_end, cut_element, cut_slash, cut_word}
use Rattle.derivations.specs.Tokens.{Token, token, Spot, increment, decrement, class_of, token_of, tokens_from, tokens}
use Rattle.machine.specs.Syntax.{Syntax, nil, node, snoc, incremented_syntax, decremented_syntax}
use Rattle.grammar.specs.Grammar.{
  is_among,
  binary_operators,
  assignment_operators,
  prefix_operators,
  prefix_kind,
  postfix_operators,
  postfix_kind,
  HeadWord,
  while-word,
  with-word,
  JumpWord,
  continue-word,
  break-word,
  Form,
  Derives,
  Program,
  chain_leaf,
  chain_array,
  chain_object,
  chain_parens,
  chain_function,
  chain_unnamed,
  chain_index,
  chain_member,
  chain_call,
  chain_new,
  no_items,
  add_item,
  add_hole,
  list_empty,
  list_items,
  list_last,
  expression_assign,
  expression_comma,
  assign_binary,
  assign_to,
  assign_conditional,
  binary_unary,
  binary_operator,
  unary_target,
  unary_prefix,
  unary_postfix,
  target_chain,
  target_new,
  function_all,
  block_all,
  statement_block,
  statement_expression,
  statement_var,
  no_variables,
  add_variable,
  variable_bare,
  variable_initialised,
  statement_empty,
  statement_if,
  statement_else,
  statement_do,
  statement_head,
  statement_for,
  statement_for_var,
  left_out,
  not_left_out,
  statement_for_in,
  statement_for_var_in,
  statement_bare_jump,
  statement_jump,
  statement_bare_return,
  statement_full_return,
  statement_switch,
  no_clauses,
  add_case,
  add_default,
  statement_throw,
  statement_try,
  statement_try_finally,
  statement_try_all,
  catch_all,
  finally_all,
  statement_debugger,
  statement_label,
  no_statements,
  add_statement,
  add_declaration,
}
use Rattle.recorded.specs.Parts.{part, parts_of}
use Rattle.agreement.proofs.TreeClasses.{holds, fails}
use Rattle.grammar.proofs.TableLaws.{at_class, at_leaf, binary_by}
use Rattle.recorded.proofs.Counts.{is_closing, operator_open}
use Rattle.grammar.proofs.Suffix.{EndsWith, itself, behind, past, then, item_end, parameters_end, derived_end}
use Rattle.derivations.specs.Derivations.{count_trees}
use Rattle.derivations.specs.Senses.{Sense, object_at, block_at, before_at, after_at, answer_at, sense_of}
use Rattle.shown.specs.Shown.{senses_of, shown_in, MarkedBy}
use Rattle.derivations.proofs.TokenLaws.{closing_class}
use Rattle.shown.proofs.IndexedRecords.{RecordsOf, no_records, closer_none, a_record}

-- the kinds of such parts: those after an operand, and all
abbrev pub after_kinds : List ℕ
after_kinds = incremented_syntax ∷ decremented_syntax ∷ []

abbrev pub is_of_update : ℕ → Bool
is_of_update kind = is_among (incremented_syntax ∷ decremented_syntax ∷ increment ∷ decrement ∷ []) kind

-- the sense of the sign that marks one
abbrev pub update_sense : ℕ → ℕ → Sense
update_sense kind first = cond (is_among after_kinds kind) (after_at first) (before_at first)

-- a `++` or `--` among all tokens has this mark, and the sense of a part of this kind
record Stands (all : List Token) (senses : List Sense) (kind mark : ℕ) : Type 0 where
  class : ℕ
  spot : Spot
  rest : List Token
  update : T (is_among postfix_operators class)
  marks : spot.mark ≡ mark
  at : EndsWith all (token class spot ∷ rest)
  sense : Memᴰ (update_sense kind spot.first) senses

-- each such part of a tree is marked by one
record Told (all : List Token) (senses : List Sense) (value : Syntax) : Type 0 where
  each : (kind mark : ℕ) (inside : Syntax) → Memᴰ (part kind mark inside) (parts_of value) → T (is_of_update kind) → Stands all senses kind mark

-- some senses are among all
record Among (senses some : List Sense) : Type 0 where
  each : (s : Sense) → Memᴰ s some → Memᴰ s senses

-- the tokens behind a part end all, if those from its start on do
after : {all : List Token} {form : Form} {before behind : List Token} {value : Syntax} → Derives form before behind value → EndsWith all before
    → EndsWith all behind
after d e = then e (derived_end d)

-- no word of a statement is the kind of such a part
head_other : {class : ℕ} → HeadWord class → T (not (is_of_update class))
head_other while-word = tt
head_other with-word = tt

jump_other : {class bare : ℕ} → JumpWord class bare → T (not (is_of_update class)) × T (not (is_of_update bare))
jump_other continue-word = (tt, tt)
jump_other break-word = (tt, tt)

module _ {senses : List Sense} where
  in_first : (a b : List Sense) → Among senses (a ++ b) → Among senses a
  in_first a b w = record { each = λ s member. w.each s (Memᴰ.append_left b member) }

  in_second : (a b : List Sense) → Among senses (a ++ b) → Among senses b
  in_second a b w = record { each = λ s member. w.each s (Memᴰ.append_right a member) }

  in_rest : {s : Sense} {a : List Sense} → Among senses (s ∷ a) → Among senses a
  in_rest w = record { each = λ s member. w.each s (Memᴰ.tail member) }

  -- those of parts that stand one behind the other
  two : {f g : Form} {a b c d : List Token} {v w : Syntax} (x : Derives f a b v) (y : Derives g c d w) → Among senses (senses_of x ++ senses_of y)
      → Among senses (senses_of x) × Among senses (senses_of y)
  two x y all = (in_first (senses_of x) (senses_of y) all, in_second (senses_of x) (senses_of y) all)

  three : {f g h : Form} {a b c d i j : List Token} {v w u : Syntax} (x : Derives f a b v) (y : Derives g c d w) (z : Derives h i j u)
      → Among senses (senses_of x ++ (senses_of y ++ senses_of z)) → Among senses (senses_of x) × (Among senses (senses_of y) × Among senses (senses_of z))
  three x y z all =
      (in_first (senses_of x) (senses_of y ++ senses_of z) all, two y z (in_second (senses_of x) (senses_of y ++ senses_of z) all))

module _ {all : List Token} {senses : List Sense} where
  told_none : Told all senses nil
  told_none = record { each = λ kind mark inside member h. absurd (Memᴰ.not-nil member) }

  told_both : {before last : Syntax} → Told all senses before → Told all senses last → Told all senses (snoc before last)
  told_both {before} {last} a b = record { each = λ kind mark inside member h. go kind mark inside h (Memᴰ.append_cases (parts_of before) member) }
    where
      go : (kind mark : ℕ) (inside : Syntax) → T (is_of_update kind)
          → Memᴰ (part kind mark inside) (parts_of before) ⊎ Memᴰ (part kind mark inside) (parts_of last) → Stands all senses kind mark
      go kind mark inside h (inl m) = a.each kind mark inside m h
      go kind mark inside h (inr m) = b.each kind mark inside m h

  told_own : {kind mark : ℕ} {left right : Syntax} → (T (is_of_update kind) → Stands all senses kind mark) → Told all senses left → Told all senses right
      → Told all senses (node kind mark left right)
  told_own {kind} {mark} {left} {right} own a b =
      record { each = λ k m inside member h. go k m inside h (Memᴰ.append_cases (parts_of left) member) }
    where
      same : (k m : ℕ) (inside : Syntax) → part k m inside ≡ part kind mark (snoc left right) → T (is_of_update k) → Stands all senses k m
      same k m inside e h =
          let kinds : kind ≡ k = cc in
          let marks : mark ≡ m = cc in
          subst (λ (x : ℕ). Stands all senses k x) marks (subst (λ (x : ℕ). T (is_of_update x) → Stands all senses x mark) kinds own h)

      last : (k m : ℕ) (inside : Syntax) → T (is_of_update k)
          → Memᴰ (part k m inside) (parts_of right) ⊎ Memᴰ (part k m inside) (part kind mark (snoc left right) ∷ []) → Stands all senses k m
      last k m inside h (inl x) = b.each k m inside x h
      last k m inside h (inr x) = same k m inside (Memᴰ.eq_of_singleton x) h

      go : (k m : ℕ) (inside : Syntax) → T (is_of_update k)
          → Memᴰ (part k m inside) (parts_of left) ⊎ Memᴰ (part k m inside) (parts_of right ++ (part kind mark (snoc left right) ∷ [])) → Stands all senses k m
      go k m inside h (inl x) = a.each k m inside x h
      go k m inside h (inr x) = last k m inside h (Memᴰ.append_cases (parts_of right) x)

  -- a part of another kind
  told_other : (kind : ℕ) {mark : ℕ} {left right : Syntax} → T (not (is_of_update kind)) → Told all senses left → Told all senses right
      → Told all senses (node kind mark left right)
  told_other kind other a b = told_own (λ h. absurd (T_not (is_of_update kind) other h)) a b

  -- the sign before an operand, and that after one
  prefix_stands : (class : ℕ) (sign : Spot) {rest : List Token} → T (is_among prefix_operators class) → EndsWith all (token class sign ∷ rest)
      → Among senses (cond (is_among postfix_operators class) (before_at sign.first ∷ []) []) → T (is_of_update (prefix_kind class))
      → Stands all senses (prefix_kind class) sign.mark
  prefix_stands class sign {rest} op e w h =
      let update =
      under (is_of_update (prefix_kind class)) (is_among postfix_operators class)
      (at_class (λ x. cond (is_of_update (prefix_kind x)) (is_among postfix_operators x) true) prefix_operators class op tt) h in
      let is-before = fails (is_among after_kinds (prefix_kind class)) (at_class (λ x. not (is_among after_kinds (prefix_kind x))) prefix_operators class op tt) in
      let own : Among senses (before_at sign.first ∷ []) = rw (holds (is_among postfix_operators class) update) at w in
      record {
        class = class;
        spot = sign;
        rest = rest;
        update = update;
        marks = refl;
        at = e;
        sense = rw is-before (own.each (before_at sign.first) (Memᴰ.head refl));
      }
    where
      under : (b c : Bool) → T (cond b c true) → T b → T c
      under true c t h = t
      under false c t h = absurd h

  postfix_stands : (class : ℕ) (sign : Spot) {rest : List Token} → T (is_among postfix_operators class) → EndsWith all (token class sign ∷ rest)
      → Among senses (after_at sign.first ∷ []) → Stands all senses (postfix_kind class) sign.mark
  postfix_stands class sign {rest} op e w =
      let is-after = holds (is_among after_kinds (postfix_kind class)) (at_class (λ x. is_among after_kinds (postfix_kind x)) postfix_operators class op tt) in
      record {
        class = class;
        spot = sign;
        rest = rest;
        update = op;
        marks = refl;
        at = e;
        sense = rw is-after (w.each (after_at sign.first) (Memᴰ.head refl));
      }

  -- so it is with the tree of any derivation from tokens that end all
  told : {form : Form} {before behind : List Token} {value : Syntax} (d : Derives form before behind value) → EndsWith all before → Among senses (senses_of d)
      → Told all senses value
  unfolding senses_of
  told (chain_leaf {class = class} leaf) e w = told_other class (at_leaf (λ x. not (is_of_update x)) tt leaf) told_none told_none
  told (chain_array values) e w = told_other _ tt (told values (past e) w) told_none
  told (chain_object values) e w = told_other _ tt (told values (past e) (in_rest w)) told_none
  told (chain_parens value) e w = told_other _ tt (told value (past e) w) told_none
  told (chain_function function) e w = told_other _ tt (told function (past (past e)) w) told_none
  told (chain_unnamed function) e w = told_other _ tt (told function (past e) w) told_none
  told (chain_index object value) e w =
      let m = two object value w in
      told_other _ tt (told object e m.0) (told value (past (after object e)) m.1)
  told (chain_member called object) e w = told_other _ tt (told object e w) told_none
  told (chain_call callee values) e w =
      let m = two callee values w in
      told_other _ tt (told callee e m.0) (told values (past (after callee e)) m.1)
  told (chain_new callee values) e w =
      let m = two callee values w in
      told_other _ tt (told callee (past e) m.0) (told values (past (after callee (past e))) m.1)
  told (target_chain chain) e w = told chain e w
  told (target_new callee) e w = told_other _ tt told_none (told callee (past e) w)
  told (unary_target target) e w = told target e w
  told (unary_prefix {class = class} {sign = sign} op operand) e w =
      let own = cond (is_among postfix_operators class) (before_at sign.first ∷ []) [] in
      told_own (λ h. prefix_stands class sign op e (in_first own (senses_of operand) w) h) told_none (told operand (past e) (in_second own (senses_of operand) w))
  told (unary_postfix {class = class} {sign = sign} op same operand) e w =
      let own = after_at sign.first ∷ [] in
      told_own (λ h. postfix_stands class sign op (after operand e) (in_second (senses_of operand) own w)) (told operand e (in_first (senses_of operand) own w)) told_none
  told (binary_unary unary) e w = told unary e w
  told (binary_operator {within = within} {class = class} op tight left right) e w =
      let m = two left right w in
      told_other class (at_class (λ x. not (is_of_update x)) binary_operators class (binary_by within class op) tt)
      (told left e m.0) (told right (past (after left e)) m.1)
  told (assign_binary binary) e w = told binary e w
  told (assign_to {class = class} op target value) e w =
      let m = two target value w in
      told_other class (at_class (λ x. not (is_of_update x)) assignment_operators class op tt)
      (told target e m.0) (told value (past (after target e)) m.1)
  told (assign_conditional {answer = answer} condition first second) e w =
      let f = past (after condition e) in
      let answered = answer_at answer.first ∷ senses_of second in
      let m = in_second (senses_of condition) (senses_of first ++ answered) w in
      told_other _ tt (told_both (told condition e (in_first (senses_of condition) (senses_of first ++ answered) w)) (told first f (in_first (senses_of first) answered m)))
      (told second (past (after first f)) (in_rest (in_second (senses_of first) answered m)))
  told (expression_assign value) e w = told value e w
  told (expression_comma left right) e w =
      let m = two left right w in
      told_other _ tt (told left e m.0) (told right (past (after left e)) m.1)
  told (function_all parameters statements) e w = told statements (past (past (then (past e) (parameters_end parameters)))) (in_rest w)
  told (block_all statements) e w = told_other _ tt (told statements (past e) (in_rest w)) told_none
  told (statement_block inner) e w = told inner e w
  told (statement_expression allowed value) e w = told_other _ tt (told value e w) told_none
  told (statement_var variables last) e w =
      let m = two variables last w in
      told_other _ tt (told variables (past e) m.0) (told last (after variables (past e)) m.1)
  told no_variables e w = told_none
  told (add_variable variables last) e w =
      let m = two variables last w in
      told_both (told variables e m.0) (told last (after variables e) m.1)
  told variable_bare e w = told_other _ tt told_none told_none
  told (variable_initialised value) e w = told_other _ tt told_none (told value (past (past e)) w)
  told statement_empty e w = told_other _ tt told_none told_none
  told (statement_if none condition inner) e w =
      let m = two condition inner w in
      let c = past (past e) in
      told_other _ tt (told condition c m.0) (told inner (past (after condition c)) m.1)
  told (statement_else condition first second) e w =
      let m = three condition first second w in
      let c = past (past e) in
      let f = past (after condition c) in
      told_other _ tt (told_other _ tt (told condition c m.0) (told first f m.1.0))
      (told second (past (after first f)) m.1.1)
  told (statement_do inner condition) e w =
      let m = two inner condition w in
      told_other _ tt (told inner (past e) m.0) (told condition (past (past (after inner (past e)))) m.1)
  told (statement_head {class = class} heads head inner) e w =
      let m = two head inner w in
      let h = past (past e) in
      told_other class (head_other heads) (told head h m.0) (told inner (past (after head h)) m.1)
  told (statement_for start condition step inner) e w =
      let s = past (past e) in
      let c = past (after start s) in
      let t = past (after condition c) in
      let others = senses_of condition ++ (senses_of step ++ senses_of inner) in
      let m = three condition step inner (in_second (senses_of start) others w) in
      told_other _ tt
      (told_both (told_both (told_both told_none (told start s (in_first (senses_of start) others w))) (told condition c m.0)) (told step t m.1.0))
      (told inner (past (after step t)) m.1.1)
  told (statement_for_var variables last condition step inner) e w =
      let s = past (past (past e)) in
      let l = after variables s in
      let c = past (after last l) in
      let t = past (after condition c) in
      let others = senses_of condition ++ (senses_of step ++ senses_of inner) in
      let v = in_second (senses_of variables) (senses_of last ++ others) w in
      let m = three condition step inner (in_second (senses_of last) others v) in
      told_other _ tt
      (told_both
      (told_both (told_both told_none (told_other _ tt (told variables s (in_first (senses_of variables) (senses_of last ++ others) w)) (told last l (in_first (senses_of last) others v))))
      (told condition c m.0))
      (told step t m.1.0))
      (told inner (past (after step t)) m.1.1)
  told left_out e w = told_none
  told (not_left_out value) e w = told value e w
  told (statement_for_in target object inner) e w =
      let m = three target object inner w in
      let t = past (past e) in
      let o = past (after target t) in
      told_other _ tt (told_both (told_both told_none (told target t m.0)) (told object o m.1.0))
      (told inner (past (after object o)) m.1.1)
  told (statement_for_var_in variable object inner) e w =
      let m = three variable object inner w in
      let v = past (past (past e)) in
      let o = past (after variable v) in
      told_other _ tt
      (told_both (told_both told_none (told_other _ tt told_none (told variable v m.0))) (told object o m.1.0))
      (told inner (past (after object o)) m.1.1)
  told (statement_bare_jump {bare = bare} jumps) e w = told_other bare (jump_other jumps).1 told_none told_none
  told (statement_jump {class = class} jumps same) e w = told_other class (jump_other jumps).0 told_none told_none
  told statement_bare_return e w = told_other _ tt told_none told_none
  told (statement_full_return same value) e w = told_other _ tt told_none (told value (past e) w)
  told (statement_switch {opener = opener} subject clauses) e w =
      let s = past (past e) in
      let inside = block_at opener.first ∷ senses_of clauses in
      told_other _ tt (told subject s (in_first (senses_of subject) inside w))
      (told clauses (past (past (after subject s))) (in_rest (in_second (senses_of subject) inside w)))
  told no_clauses e w = told_none
  told (add_case cases test statements) e w =
      let m = three cases test statements w in
      let t = past (after cases e) in
      told_both (told cases e m.0)
      (told_other _ tt (told test t m.1.0) (told statements (past (after test t)) m.1.1))
  told (add_default cases statements) e w =
      let m = two cases statements w in
      told_both (told cases e m.0) (told_other _ tt told_none (told statements (past (past (after cases e))) m.1))
  told (statement_throw same value) e w = told_other _ tt told_none (told value (past e) w)
  told (statement_try none inner handler) e w =
      let m = two inner handler w in
      told_other _ tt (told_both (told_both told_none (told inner (past e) m.0)) (told handler (after inner (past e)) m.1)) told_none
  told (statement_try_finally inner last) e w =
      let m = two inner last w in
      told_other _ tt (told_both (told_both told_none (told inner (past e) m.0)) (told last (after inner (past e)) m.1)) told_none
  told (statement_try_all inner handler last) e w =
      let m = three inner handler last w in
      let h = after inner (past e) in
      told_other _ tt
      (told_both (told_both (told_both told_none (told inner (past e) m.0)) (told handler h m.1.0))
      (told last (after handler h) m.1.1))
      told_none
  told (catch_all inner) e w = told_other _ tt told_none (told inner (past (past (past (past e)))) w)
  told (finally_all inner) e w = told_other _ tt told_none (told inner (past e) w)
  told statement_debugger e w = told_other _ tt told_none told_none
  told (statement_label inner) e w = told_other _ tt told_none (told inner (past (past e)) w)
  told no_statements e w = told_none
  told (add_statement statements last) e w =
      let m = two statements last w in
      told_both (told statements e m.0) (told last (after statements e) m.1)
  told (add_declaration statements function) e w =
      let m = two statements function w in
      told_both (told statements e m.0) (told_other _ tt (told function (past (past (after statements e))) m.1) told_none)
  told no_items e w = told_none
  told (add_item values starts last) e w =
      let m = two values last w in
      told_both (told values e m.0) (told last (then (after values e) (item_end starts)) m.1)
  told (add_hole values) e w = told values e w
  told list_empty e w = told_none
  told (list_items allowed values) e w = told values e w
  told (list_last values starts last) e w =
      let m = two values last w in
      told_both (told values e m.0) (told last (then (after values e) (item_end starts)) m.1)

-- an element of which a token is made, with the number of tree records before it
record From (before : ℕ) (es : List Element) (class : ℕ) (spot : Spot) : Type 0 where
  firsts : List Element
  e : Element
  rest : List Element
  split : es ≡ firsts ++ (e ∷ rest)
  counted : before + count_trees firsts ≡ spot.mark
  same_class : class_of e ≡ class
  same_first : e.first ≡ spot.first

from_element : (before : ℕ) (es : List Element) {class : ℕ} {spot : Spot} {rest : List Token} → EndsWith (tokens_from before es) (token class spot ∷ rest)
    → From before es class spot
unfolding tokens_from
from_element before [] {class} {spot} {rest} ends = none ends refl refl
  where
    none : {here there : List Token} → EndsWith here there → here ≡ [] → there ≡ token class spot ∷ rest → From before [] class spot
    none itself p q = absurd (let z : ◌≡◌ {A = ℕ} 0 1 = cc in omega arith)
    none (behind ends) p q = absurd (let z : ◌≡◌ {A = ℕ} 0 1 = cc in omega arith)
from_element before (e ∷ es) {class} {spot} {rest} ends = go (λ further. from_element (cond (is_closer e) before (before + 1)) es further) ends refl refl
  where
    next : ℕ
    next = cond (is_closer e) before (before + 1)

    later : From next es class spot → From before (e ∷ es) class spot
    later f =
        record {
          firsts = e ∷ f.firsts;
          e = f.e;
          rest = f.rest;
          split = ap (◌∷◌ e) f.split;
          counted = passed (is_closer e) (count_trees f.firsts) ∙ f.counted;
          same_class = f.same_class;
          same_first = f.same_first;
        }
      where
        passed : (closer : Bool) (k : ℕ) → before + (cond closer 0 1 + k) ≡ cond closer before (before + 1) + k
        passed true k = omega arith
        passed false k = omega arith

    go : {here there : List Token} → (EndsWith (tokens_from next es) (token class spot ∷ rest) → From next es class spot) → EndsWith here there
        → here ≡ token_of before e ∷ tokens_from next es → there ≡ token class spot ∷ rest → From before (e ∷ es) class spot
    go further itself p q =
        let spots : record { newline = e.newline; mark = before; first = e.first } ≡ spot = cc in
        record {
          firsts = [];
          e = e;
          rest = es;
          split = refl;
          counted = let m : before ≡ spot.mark = ap (λ (s : Spot). s.mark) spots in omega arith;
          same_class = cc;
          same_first = ap (λ (s : Spot). s.first) spots;
        }
    go further (behind {before = others} {after = there} ends) p q =
        let same : others ≡ tokens_from next es = cc in
        later (further (subst (λ (ts : List Token). EndsWith ts (token class spot ∷ rest)) same (subst (EndsWith others) q ends)))

-- elements start one behind the other
abbrev Rising : ℕ → List Element → Type 0
Rising low [] = Unit {0}
Rising low (e ∷ es) = (low ≤ e.first) × Rising (e.first + 1) es

lower : (low high : ℕ) (es : List Element) → low ≤ high → Rising high es → Rising low es
lower low high [] h r = tt
lower low high (e ∷ es) h r = (omega (arith, r.0), r.1)

cuts_rise : {text : List ℕ} {place : ℕ} {choice : List Bool} {es : List Element} → Cuts text place choice es → Rising place es
cuts_rise (cut_end left) = tt
cuts_rise {text} (cut_element {place} {e} {es = es} slash word found rest) =
    let p = found_placed text place (stating false false) e found in
    (p.from, lower (e.first + 1) e.end es (omega (arith, p.some)) (cuts_rise rest))
cuts_rise {text} (cut_slash {place} {e} {answer} {es = es} met found rest) =
    let p = found_placed text place (stating answer false) e found in
    (p.from, lower (e.first + 1) e.end es (omega (arith, p.some)) (cuts_rise rest))
cuts_rise {text} (cut_word {place} {e} {answer} {es = es} met found rest) =
    let p = found_placed text place (stating false answer) e found in
    (p.from, lower (e.first + 1) e.end es (omega (arith, p.some)) (cuts_rise rest))

rises_to : (low : ℕ) (before : List Element) (e : Element) (after : List Element) → Rising low (before ++ (e ∷ after)) → low ≤ e.first
rises_to low [] e after r = r.0
rises_to low (b ∷ before) e after r = omega (arith, r.0, rises_to (b.first + 1) before e after r.1)

-- the kind and the first byte of a record that shows a sense
abbrev kind_of : Sense → ℕ
kind_of (object_at first) = object_kind
kind_of (block_at first) = block_kind
kind_of (before_at first) = before_kind
kind_of (after_at first) = after_kind
kind_of (answer_at first) = answer_kind

abbrev first_of : Sense → ℕ
first_of (object_at first) = first
first_of (block_at first) = first
first_of (before_at first) = first
first_of (after_at first) = first
first_of (answer_at first) = first

record Shows (kind first : ℕ) (s : Sense) : Type 0 where
  same_kind : kind ≡ kind_of s
  same_first : first_of s ≡ first

sense_shown : (kind first : ℕ) (s : Sense) → Memᴰ s (sense_of kind first) → Shows kind first s
sense_shown kind first s =
    step object_kind (object_at first) refl refl
    (step block_kind (block_at first) refl refl
    (step before_kind (before_at first) refl refl
    (step after_kind (after_at first) refl refl
    (step answer_kind (answer_at first) refl refl
    (λ member. absurd (Memᴰ.not-nil member))))))
  where
    step : (k : ℕ) (sense : Sense) {others : List Sense} → kind_of sense ≡ k → first_of sense ≡ first → (Memᴰ s others → Shows kind first s)
        → Memᴰ s (cond (eqb kind k) (sense ∷ []) others) → Shows kind first s
    step k sense {others} kinds firsts other =
        cond_known (λ (list : List Sense). Memᴰ s list → Shows kind first s) (eqb kind k)
        (λ is member.
        let same : s ≡ sense = Memᴰ.eq_of_singleton member in
        record { same_kind = eqb-true kind k is ∙ sym kinds ∙ ap kind_of (sym same); same_first = ap first_of same ∙ firsts })
        (λ no. other)

-- what the records of rising elements show stands from the first element on
shown_from : {es : List Element} {cells : List ℕ} (low : ℕ) (s : Sense) → RecordsOf es cells → Rising low es → Memᴰ s (shown_in sense_of cells) → low ≤ first_of s
unfolding shown_in
shown_from low s no_records r member = absurd (Memᴰ.not-nil member)
shown_from low s (closer_none {e = f} {es = es} k records) r member = omega (arith, r.0, shown_from (f.first + 1) s records r.1 member)
shown_from low s (a_record {e = f} {es = es} {cells = cells} kind end number k own opened records) r member =
    go (λ m. shown_from (f.first + 1) s records r.1 m) (Memᴰ.append_cases (sense_of kind f.first) member)
  where
    go : (Memᴰ s (shown_in sense_of cells) → f.first + 1 ≤ first_of s) → Memᴰ s (sense_of kind f.first) ⊎ Memᴰ s (shown_in sense_of cells)
        → low ≤ first_of s
    go further (inl m) = omega (arith, r.0, (sense_shown kind f.first s m).same_first)
    go further (inr m) = omega (arith, r.0, further m)

-- so a sense with the first byte of an element is shown by that element's record
shown_at : {es : List Element} {cells : List ℕ} (low : ℕ) (s : Sense) → RecordsOf es cells → Rising low es → Memᴰ s (shown_in sense_of cells)
    → (before : List Element) (e : Element) (after : List Element) → es ≡ before ++ (e ∷ after) → is_closer e ≡ false → first_of s ≡ e.first
    → get_or cells (tree_width * count_trees before) 0 ≡ kind_of s
unfolding shown_in
shown_at low s no_records r member before e after q c at = absurd (Memᴰ.not-nil member)
shown_at low s (closer_none {e = f} k _) r member [] e after q c at = let same : f ≡ e = cc in absurd (false≢true (sym c ∙ ap is_closer (sym same) ∙ k))
shown_at low s (closer_none {e = f} k records) r member (b ∷ before) e after q c at =
    let closer : is_closer b ≡ true = let same : f ≡ b = cc in ap is_closer (sym same) ∙ k in
    rw (closer, zero-add (count_trees before)) (shown_at (f.first + 1) s records r.1 member before e after (cc) c at)
shown_at low s (a_record {e = f} {es = es} {cells = cells} kind end number k own opened records) r member [] e after q c at =
    go (Memᴰ.append_cases (sense_of kind f.first) member)
  where
    go : Memᴰ s (sense_of kind f.first) ⊎ Memᴰ s (shown_in sense_of cells) → kind ≡ kind_of s
    go (inl m) = (sense_shown kind f.first s m).same_kind
    go (inr m) =
        let own : f ≡ e = cc in
        let same : f.first ≡ e.first = ap (λ (x : Element). x.first) own in
        absurd (omega (arith, shown_from (f.first + 1) s records r.1 m))
shown_at low s (a_record {e = f} {es = es} {cells = cells} kind end number k own opened records) r member (b ∷ before) e after q c at =
    let counts : is_closer b ≡ false = let same : f ≡ b = cc in ap is_closer (sym same) ∙ k in
    rw counts (go (λ m. shown_at (f.first + 1) s records r.1 m before e after (cc) c at) (Memᴰ.append_cases (sense_of kind f.first) member))
  where
    split : es ≡ before ++ (e ∷ after)
    split = cc

    go : (Memᴰ s (shown_in sense_of cells) → get_or cells (tree_width * count_trees before) 0 ≡ kind_of s)
        → Memᴰ s (sense_of kind f.first) ⊎ Memᴰ s (shown_in sense_of cells)
        → get_or (tree_record kind f.first end number f.newline ++ cells) (tree_width * (1 + count_trees before)) 0 ≡ kind_of s
    go further (inl m) =
        absurd (omega (arith, (sense_shown kind f.first s m).same_first, rises_to (f.first + 1) before e after (subst (Rising (f.first + 1)) split r.1)))
    go further (inr m) =
        let place : tree_width * (1 + count_trees before) ≡ 5 + tree_width * count_trees before = omega arith in
        rw place
        (get_or-append-add (tree_record kind f.first end number f.newline) cells (tree_width * count_trees before) 0
        ∙ further m)

-- a `++` or `--` among elements, with so many tree records before it, has this sense
pub record SignAt (es : List Element) (senses : List Sense) (sense : ℕ → Sense) (mark : ℕ) : Type 0 where
  pub before : List Element
  pub e : Element
  pub after : List Element
  pub split : es ≡ before ++ (e ∷ after)
  pub counted : count_trees before ≡ mark
  pub update : T (is_among postfix_operators (class_of e))
  pub sensed : Memᴰ (sense e.first) senses

module _ (es : List Element) {parts : Syntax} (steps : Program (tokens es) parts) where
  -- each part of `++` or `--` is marked by one that has the sense of its kind in the same steps
  pub update_sensed : (kind mark : ℕ) (inside : Syntax) → Memᴰ (part kind mark inside) (parts_of parts) → T (is_of_update kind)
      → SignAt es (senses_of steps) (update_sense kind) mark
  update_sensed kind mark inside member h =
      let t = (told {senses = senses_of steps} steps itself (record { each = λ s m. m })).each kind mark inside member h in
      let f = from_element 0 es t.at in
      record {
        before = f.firsts;
        e = f.e;
        after = f.rest;
        split = f.split;
        counted = sym (zero-add (count_trees f.firsts)) ∙ f.counted ∙ t.marks;
        update = subst (λ (x : ℕ). T (is_among postfix_operators x)) (sym f.same_class) t.update;
        sensed = subst (λ (x : ℕ). Memᴰ (update_sense kind x) (senses_of steps)) (sym f.same_first) t.sense;
      }

  -- and in records that show the senses of the steps, that of its mark has the kind of that sense
  module _ {text : List ℕ} {choice : List Bool} (cut : Cuts text 0 choice es) {cells : List ℕ} (records : RecordsOf es cells)
      (shown : shown_in sense_of cells ≡ senses_of steps) where
    update_marked : (kind mark : ℕ) (inside : Syntax) → Memᴰ (part kind mark inside) (parts_of parts) → T (is_of_update kind)
        → get_or cells (tree_width * mark) 0 ≡ cond (is_among after_kinds kind) after_kind before_kind
    update_marked kind mark inside member h =
        let u = update_sensed kind mark inside member h in
        let s = update_sense kind u.e.first in
        let class = class_of u.e in
        let no_closer : is_closer u.e ≡ false = sym (closing_class u.e) ∙ fails (is_closing class) (operator_open postfix_operators tt class u.update) in
        ap (λ (m : ℕ). get_or cells (tree_width * m) 0) (sym u.counted)
        ∙ shown_at 0 s records (cuts_rise cut) (subst (λ (senses : List Sense). Memᴰ s senses) (sym shown) u.sensed) u.before u.e u.after
        u.split no_closer (at_first (is_among after_kinds kind) u.e.first)
        ∙ of_kind (is_among after_kinds kind) u.e.first
      where
        at_first : (b : Bool) (first : ℕ) → first_of (cond b (after_at first) (before_at first)) ≡ first
        at_first true first = refl
        at_first false first = refl

        of_kind : (b : Bool) (first : ℕ) → kind_of (cond b (after_at first) (before_at first)) ≡ cond b after_kind before_kind
        of_kind true first = refl
        of_kind false first = refl

    pub after_marked : MarkedBy (incremented_syntax ∷ decremented_syntax ∷ []) after_kind parts cells
    after_marked kind mark inside member h =
        update_marked kind mark inside member (at_class is_of_update after_kinds kind h tt)
        ∙ ap (λ (b : Bool). cond b after_kind before_kind) (holds (is_among after_kinds kind) h)

    pub before_marked : MarkedBy (increment ∷ decrement ∷ []) before_kind parts cells
    before_marked kind mark inside member h =
        update_marked kind mark inside member (at_class is_of_update (increment ∷ decrement ∷ []) kind h tt)
        ∙ ap (λ (b : Bool). cond b after_kind before_kind)
        (fails (is_among after_kinds kind) (at_class (λ x. not (is_among after_kinds x)) (increment ∷ decrement ∷ []) kind h tt))
