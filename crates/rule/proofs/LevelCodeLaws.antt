-- The code's numbers are those of the summaries, and so say what the rule says.
use mathlib.Core.Path.{◌≡◌, refl, ◌∙◌}
use mathlib.Core.Bool.{Bool, true, false, cond, ◌||◌}
use Prim.Native.Nat.{ℕ, zero, suc, ◌+◌, ◌-◌, ◌*◌, ◌/◌, ◌%◌, ◌≤◌, ◌<◌}
use native.Mathlib.Omega.{arith}
use borrow.Author.Tests.{ne_eqb, lt-ltb, le-ltb}
use lib.Dec.{T, eqb, eqb→eq, ltb, ltb→lt, leb}
use Rattle.text.proofs.Range.{alike, alike→eq}
use Rattle.elements.specs.Elements.{sign_kind}
use Rattle.elements.specs.declared.Element.{Element}
use Rattle.elements.proofs.Choices.{cond_both}
use Rattle.rule.specs.Trees.{Trees, none, leaf, group, count, paren_kind, object_kind, bracket_kind}
use Rattle.rule.specs.Rule.{Class, name, value, operator, question, answer, colon, dot, comma, semicolon, other, return_word, function_word, head_word, parens, brackets, object, block, is, element_class, group_class, backwards, leaving, unanswered, settled_kind}
use Rattle.rule.specs.Levels.{Levels, whole_text, inside, is_expression, kind_of, trees_of, slash_opens, word_is_name, stated_by, brace_opens, settled_in, count_so_far, on_top}
use Rattle.rule.specs.Machinery.Summary.{Summary, nothing, after_dot, after_function_parens, brace_by, slash_by, name_by, add_name, add_parens, add_block, add, summary, operand, after_operator, after_separator, after_comma, after_other, after_return, after_head_word, after_function, code, summaries, kinds, one_question, level_for, level_code}
use Rattle.rule.specs.Machinery.LevelCodes.{kind_in, questions_in, with, level_in, slash_by_level, name_by_level, stated_by_level, brace_by_code, brace_by_level, settled_by_level, name_code, level_after_name, parens_code, level_after_parens, block_code, level_after_block, level_after}
use Rattle.rule.proofs.Finite.{both_bools, at_bool, all_summaries, at_summary}
use Rattle.rule.proofs.SummaryLaws.{brace_right, slash_right, name_right}

code_small : (o : Bool) (s : Summary) → code o s < summaries
code_small o s =
    ltb→lt (code o s) summaries
    (at_bool (λ o. ltb (code o s) summaries) (at_summary (λ s. both_bools λ o. ltb (code o s) summaries) tt s) o)

-- an object brace is an expression level
brace-by-code : (o e l : Bool) (s : Summary) → brace_by_code (o || e) (code o s) l ≡ brace_by (o || e) s l
brace-by-code o e l s =
    alike→eq (brace_by_code (o || e) (code o s) l) (brace_by (o || e) s l)
    (at_bool (λ l. alike (brace_by_code (o || e) (code o s) l) (brace_by (o || e) s l))
    (at_bool (λ e. both_bools λ l. alike (brace_by_code (o || e) (code o s) l) (brace_by (o || e) s l))
    (at_bool (λ o. both_bools λ e. both_bools λ l. alike (brace_by_code (o || e) (code o s) l) (brace_by (o || e) s l))
    (at_summary (λ s. both_bools λ o. both_bools λ e. both_bools λ l. alike (brace_by_code (o || e) (code o s) l) (brace_by (o || e) s l)) tt s)
    o)
    e)
    l)

object_expression : (k : ℕ) → is_expression k ≡ (eqb k object_kind || is_expression k)
object_expression k = go (eqb k paren_kind) (eqb k object_kind) (eqb k bracket_kind)
  where
    go : (a b c : Bool) → (a || b || c) ≡ (b || (a || b || c))
    go a false c = refl
    go true true c = refl
    go false true c = refl

-- each tree leaves at most one unanswered `?` more
leaving_few : (class : Class) (n : ℕ) → leaving class n ≤ n + 1
leaving_few class n =
    cond_both (λ m. m ≤ n + 1) (is semicolon class) (omega arith)
    (cond_both (λ m. m ≤ n + 1) (is question class) (omega arith)
    (cond_both (λ m. m ≤ n + 1) (is answer class) (omega arith) (omega arith)))

unanswered_few : (trees : Trees) → unanswered (backwards trees) ≤ count trees
unfolding unanswered backwards count
unanswered_few none = omega arith
unanswered_few (leaf before e) = omega (arith, leaving_few (element_class e) (unanswered (backwards before)), unanswered_few before)
unanswered_few (group before kind first end newline within) = omega (arith, leaving_few (group_class kind) (unanswered (backwards before)), unanswered_few before)

pub questions_so_far : (levels : Levels) → unanswered (backwards (trees_of levels)) ≤ count_so_far levels
questions_so_far (whole_text trees) = unanswered_few trees
questions_so_far (inside around kind first newline trees) = omega (arith, unanswered_few trees)

module _ (k : ℕ) (s : Summary) (n : ℕ) where
  -- the parts of a level's number
  code_part : level_for k s n % summaries ≡ code (eqb k object_kind) s
  code_part = omega (arith, code_small (eqb k object_kind) s)

  upper_part : level_for k s n / summaries ≡ kinds * n + k
  upper_part = omega (arith, code_small (eqb k object_kind) s)

  -- a number that the code computes from a summary's number is the number of another summary
  stepped : (f : ℕ → ℕ) (g : Summary → Summary) → T (all_summaries λ s. both_bools λ o. eqb (f (code o s)) (code o (g s)))
      → with (level_for k s n) (f (level_for k s n % summaries)) ≡ level_for k (g s) n
  stepped f g t =
      let o = eqb k object_kind in
      let e : f (code o s) ≡ code o (g s) =
      eqb→eq (f (code o s)) (code o (g s))
      (at_bool (λ o. eqb (f (code o s)) (code o (g s))) (at_summary (λ s. both_bools λ o. eqb (f (code o s)) (code o (g s))) t s) o)
      in
      rw (upper_part, code_part, e) (omega arith)

  -- so is an answer by that number the summary's
  answered : (f : ℕ → Bool) (g : Bool → Summary → Bool) → T (all_summaries λ s. both_bools λ o. alike (f (code o s)) (g o s))
      → f (level_for k s n % summaries) ≡ g (eqb k object_kind) s
  answered f g t =
      let o = eqb k object_kind in
      rw code_part
      (alike→eq (f (code o s)) (g o s)
      (at_bool (λ o. alike (f (code o s)) (g o s)) (at_summary (λ s. both_bools λ o. alike (f (code o s)) (g o s)) t s) o))

  slash_level : slash_by_level (level_for k s n) ≡ slash_by s
  unfolding slash_by_level
  slash_level = answered (ltb (code false (after_function_parens true))) (λ o s. slash_by s) tt

  word_level : name_by_level (level_for k s n) ≡ name_by (eqb k object_kind) s
  unfolding name_by_level
  word_level = answered (leb (code false after_dot)) name_by tt

  name_level : level_after_name (level_for k s n) ≡ level_for k (add_name s) n
  unfolding level_after_name
  name_level = stepped name_code add_name tt

  parens_level : level_after_parens (level_for k s n) ≡ level_for k (add_parens s) n
  unfolding level_after_parens
  parens_level = stepped parens_code add_parens tt

  block_level : level_after_block (level_for k s n) ≡ level_for k (add_block s) n
  unfolding level_after_block
  block_level = stepped block_code add_block tt

  -- a summary that the trees before do not matter for
  plain_level : (c : ℕ) → with (level_for k s n) c ≡ one_question * n + summaries * k + c
  plain_level c = rw upper_part (omega arith)

  module _ (small : k < kinds) where
    kind_part : kind_in (level_for k s n) ≡ k
    kind_part = omega (arith, code_small (eqb k object_kind) s)

    questions_part : questions_in (level_for k s n) ≡ n
    questions_part = omega (arith, code_small (eqb k object_kind) s)

    brace_level : (newline : Bool) → brace_by_level (level_for k s n) newline ≡ brace_by (is_expression k) s newline
    unfolding brace_by_level
    brace_level newline = rw (kind_part, code_part, object_expression k) (brace-by-code (eqb k object_kind) (is_expression k) newline s)

    question_level : with (level_for k s n) (code false after_operator) + one_question ≡ level_for k after_operator (n + 1)
    question_level = rw upper_part (omega arith)

    semicolon_level : with (level_for k s n % one_question) (code false after_separator) ≡ level_for k after_separator 0
    semicolon_level = omega (arith, code_small (eqb k object_kind) s)

    -- an answer takes one, if there is one
    answer_level : with (cond (ltb (level_for k s n) one_question) (level_for k s n) (level_for k s n - one_question)) (code false after_operator) ≡ level_for k after_operator (n - 1)
    answer_level = go n (code_small (eqb k object_kind) s)
      where
        go : (n : ℕ) → code (eqb k object_kind) s < summaries
            → with (cond (ltb (level_for k s n) one_question) (level_for k s n) (level_for k s n - one_question)) (code false after_operator) ≡ level_for k after_operator (n - 1)
        go zero small-code = rw (lt-ltb (level_for k s 0) one_question (omega arith)) (omega arith)
        go (suc m) small-code = rw (le-ltb (level_for k s (suc m)) one_question (omega arith)) (omega arith)

    -- a tree more
    level-after : (class : Class) (newline : Bool)
        → level_after (level_for k s n) class newline ≡ level_for k (add (is_expression k) s class newline) (leaving class n)
    unfolding level_after
    level-after name newline = name_level
    level-after value newline = plain_level (code false operand)
    level-after operator newline = plain_level (code false after_operator)
    level-after question newline = question_level
    level-after answer newline = answer_level
    level-after colon newline = plain_level (code false after_separator)
    level-after dot newline = plain_level (code false after_dot)
    level-after comma newline = rw kind_part (plain_level (code (eqb k object_kind) after_comma))
    level-after semicolon newline = semicolon_level
    level-after other newline = plain_level (code false after_other)
    level-after return_word newline = plain_level (code false after_return)
    level-after function_word newline = rw (brace_level newline) (plain_level (code false (after_function (brace_by (is_expression k) s newline))))
    level-after head_word newline = plain_level (code false after_head_word)
    level-after parens newline = parens_level
    level-after brackets newline = plain_level (code false operand)
    level-after object newline = plain_level (code false operand)
    level-after block newline = block_level

-- where nothing stands yet
pub level_in_lem : (kind : ℕ) → level_in kind ≡ level_for kind nothing 0
level_in_lem kind = go (eqb kind object_kind) (eqb→eq kind object_kind)
  where
    go : (o : Bool) → (T o → kind ≡ object_kind)
        → cond o (summaries * object_kind + code true nothing) (summaries * kind + code false nothing) ≡ one_question * 0 + summaries * kind + code o nothing
    go true same = rw (same tt)
    go false same = omega arith

-- the same of the levels of a reading
module _ (levels : Levels) where
  slash_opens_right : slash_by_level (level_code levels) ≡ slash_opens levels
  unfolding level_code
  slash_opens_right =
      slash_level (kind_of levels) (summary (is_expression (kind_of levels)) (backwards (trees_of levels))) (unanswered (backwards (trees_of levels)))
      ∙ slash_right (is_expression (kind_of levels)) (backwards (trees_of levels))

  names_word_right : name_by_level (level_code levels) ≡ word_is_name levels
  unfolding level_code
  names_word_right =
      word_level (kind_of levels) (summary (is_expression (kind_of levels)) (backwards (trees_of levels))) (unanswered (backwards (trees_of levels)))
      ∙ name_right (is_expression (kind_of levels)) (eqb (kind_of levels) object_kind) (backwards (trees_of levels))

  pub stated_right : stated_by_level (level_code levels) ≡ stated_by levels
  stated_right = rw (slash_opens_right, names_word_right)

  module _ (small : kind_of levels < kinds) where
    pub brace_opens_right : (newline : Bool) → brace_by_level (level_code levels) newline ≡ brace_opens levels newline
    unfolding level_code
    brace_opens_right newline =
        brace_level (kind_of levels) (summary (is_expression (kind_of levels)) (backwards (trees_of levels))) (unanswered (backwards (trees_of levels))) small newline
        ∙ brace_right (is_expression (kind_of levels)) (backwards (trees_of levels)) newline

    -- the kind of the innermost level, and its unanswered `?`s
    pub kind_of_level : kind_in (level_code levels) ≡ kind_of levels
    unfolding level_code
    kind_of_level = kind_part (kind_of levels) (summary (is_expression (kind_of levels)) (backwards (trees_of levels))) (unanswered (backwards (trees_of levels))) small

    questions_of_level : questions_in (level_code levels) ≡ unanswered (backwards (trees_of levels))
    unfolding level_code
    questions_of_level = questions_part (kind_of levels) (summary (is_expression (kind_of levels)) (backwards (trees_of levels))) (unanswered (backwards (trees_of levels))) small

    -- the kind of a sign there
    pub settled_right : (e : Element) → e.kind ≡ sign_kind → settled_by_level (level_code levels) e.newline e.which ≡ (settled_in levels e).kind
    unfolding settled_by_level settled_kind
    settled_right e sign = rw (slash_opens_right, questions_of_level, sign)

    -- its code is not larger than its records allow
    pub level_few : level_code levels < one_question * (count_so_far levels + 1)
    unfolding level_code
    level_few =
        omega
        (arith, code_small (eqb (kind_of levels) object_kind) (summary (is_expression (kind_of levels)) (backwards (trees_of levels))), questions_so_far levels)

-- a kind that is no sign's is settled
pub settled_other : (levels : Levels) (e : Element) → (e.kind ≡ sign_kind → ⊥) → settled_in levels e ≡ e
unfolding settled_kind
settled_other levels e no_sign = rw (ne_eqb e.kind sign_kind no_sign)

-- a tree more on the innermost level
pub leaf_added_level : (levels : Levels) → kind_of levels < kinds → (e : Element)
    → level_after (level_code levels) (element_class e) e.newline ≡ level_code (on_top (λ before. leaf before e) levels)
unfolding level_code summary unanswered backwards
leaf_added_level (whole_text trees) small e =
    level-after 0 (summary (is_expression 0) (backwards trees)) (unanswered (backwards trees)) small (element_class e) e.newline
leaf_added_level (inside around k first newline trees) small e =
    level-after k (summary (is_expression k) (backwards trees)) (unanswered (backwards trees)) small (element_class e) e.newline

pub group_added_level : (levels : Levels) → kind_of levels < kinds → (kind first end : ℕ) (newline : Bool) (within : Trees)
    → level_after (level_code levels) (group_class kind) newline ≡ level_code (on_top (λ before. group before kind first end newline within) levels)
unfolding level_code summary unanswered backwards
group_added_level (whole_text trees) small kind first end newline within =
    level-after 0 (summary (is_expression 0) (backwards trees)) (unanswered (backwards trees)) small (group_class kind) newline
group_added_level (inside around k f l trees) small kind first end newline within =
    level-after k (summary (is_expression k) (backwards trees)) (unanswered (backwards trees)) small (group_class kind) newline
