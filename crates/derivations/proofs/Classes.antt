-- What the class of an element tells of it.
use mathlib.Core.Path.{◌≡◌, refl, sym, ap, subst, ◌∙◌}
use mathlib.Core.Bool.{Bool, true, false, false≢true, not, cond, ◌&&◌, ◌||◌}
use mathlib.Core.List.{[], ◌∷◌}
use Prim.Native.Nat.{ℕ}
use native.Mathlib.Omega.{arith}
use borrow.Author.Tests.{eqb-true}
use lib.Dec.{T, eqb, ltb}
use Rattle.text.specs.Runs.{same}
use Rattle.text.proofs.Range.{and_left, and_right}
use Rattle.text.proofs.Members.{is_in}
use Rattle.vocabulary.specs.Vocabulary.{Row, words, signs, rule_class, token_class, row_at}
use Rattle.vocabulary.proofs.RowLaws.{at_row, at_other}
use Rattle.vocabulary.proofs.ClassLaws.{is_class, is-class}
use Rattle.signs.specs.Signs.{longest_sign, longest_of}
use Rattle.elements.specs.Elements.{name_kind, word_kind, number_kind, string_kind, pattern_kind, sign_kind, delimiter_kind, delimiter, paren_opener, paren_closer, brace_opener, brace_closer, bracket_opener, bracket_closer}
use Rattle.elements.specs.declared.Element.{Element}
use Rattle.elements.proofs.Choices.{cond_both, cond_known}
use Rattle.rule.specs.Trees.{before_kind, after_kind, answer_kind}
use Rattle.rule.specs.Rule.{Class, element_class, unanswered, backwards, settled_kind}
use Rattle.rule.specs.Levels.{Levels, is_expression, kind_of, trees_of, slash_opens, settled_in}
use Rattle.agreement.proofs.TreeClasses.{is_leaf, tree_class, is_update, settled_class}
use Rattle.derivations.specs.Tokens.{name, number, string, pattern, colon, open_paren, close_paren, open_brace, close_brace, open_bracket, close_bracket, word_name, name_class, word_class, sign_class, delimiter_class, class_of}

-- an element that is no delimiter, with the class of its tree; a delimiter, by its sign; or what is no element that is found
pub data Told (e : Element) : ℕ → Type 0 where
  told_leaf : {class : ℕ} → (e.kind ≡ 0 → ⊥) → T (is_leaf class) → element_class e ≡ tree_class class → Told e class
  told_open_paren : e.kind ≡ 0 → eqb e.which paren_opener ≡ true → Told e open_paren
  told_close_paren : e.kind ≡ 0 → eqb e.which paren_closer ≡ true → Told e close_paren
  told_open_brace : e.kind ≡ 0 → eqb e.which brace_opener ≡ true → Told e open_brace
  told_close_brace : e.kind ≡ 0 → eqb e.which brace_closer ≡ true → Told e close_brace
  told_open_bracket : e.kind ≡ 0 → eqb e.which bracket_opener ≡ true → Told e open_bracket
  told_close_bracket : e.kind ≡ 0 → eqb e.which bracket_closer ≡ true → Told e close_bracket
  told_nothing : Told e 0

-- a word or sign that has a class of its own is a tree by itself, of the class that its row has for the prefix rule
abbrev as_leaf : Row → Bool
as_leaf row = eqb (token_class row) 0 || (is_leaf (token_class row) && is_class (tree_class (token_class row)) (rule_class row))

words_are_leaves : (which : ℕ) → T (as_leaf (row_at words which))
unfolding is_leaf tree_class
words_are_leaves which = at_row (λ number row. as_leaf row) words tt which tt

signs_are_leaves : (which : ℕ) → delimiter which ≡ false → T (as_leaf (row_at signs which))
unfolding is_leaf tree_class delimiter longest_sign longest_of same
signs_are_leaves which other = at_other as_leaf delimiter signs tt tt which other

module _ (e : Element) where
  told_row : (row : Row) → T (as_leaf row) → (e.kind ≡ 0 → ⊥) → element_class e ≡ rule_class row → Told e (token_class row)
  told_row row t n c = go (eqb (token_class row) 0) refl t
    where
      go : (b : Bool) → eqb (token_class row) 0 ≡ b → T (b || (is_leaf (token_class row) && is_class (tree_class (token_class row)) (rule_class row)))
          → Told e (token_class row)
      go true none t = rw (eqb-true (token_class row) 0 none) told_nothing
      go false some t =
          told_leaf n (and_left (is_leaf (token_class row)) (is_class (tree_class (token_class row)) (rule_class row)) t)
          (c ∙ is-class (tree_class (token_class row)) (rule_class row) (and_right (is_leaf (token_class row)) (is_class (tree_class (token_class row)) (rule_class row)) t))

  name_told : e.kind ≡ name_kind → Told e (name_class e.which)
  unfolding element_class is_leaf tree_class
  name_told k =
      cond_both (Told e) (eqb e.which 0) (told_leaf {class = name} (λ z. omega arith) tt (rw (element_class, k)))
      (told_leaf {class = word_name} (λ z. omega arith) tt (rw (element_class, k)))

  word : e.kind ≡ word_kind → Told e (word_class e.which)
  unfolding element_class
  word k = told_row (row_at words e.which) (words_are_leaves e.which) (λ z. omega arith) (rw (element_class, k))

  sign : e.kind ≡ sign_kind → Told e (sign_class e.which)
  unfolding element_class
  sign k =
      cond_known (Told e) (delimiter e.which) (λ d. told_nothing) λ other.
      told_row (row_at signs e.which) (signs_are_leaves e.which other) (λ z. omega arith) (rw (element_class, k))

  delimiter_told : e.kind ≡ delimiter_kind → Told e (delimiter_class e.which)
  unfolding delimiter row_at longest_sign longest_of same
  delimiter_told k =
      go (eqb e.which brace_opener) (eqb e.which brace_closer) (eqb e.which paren_opener) (eqb e.which paren_closer)
      (eqb e.which bracket_opener) (eqb e.which bracket_closer) refl refl refl refl refl refl
    where
      at_sign : (number : ℕ) → eqb e.which number ≡ true → Told e (token_class (row_at signs number)) → Told e (token_class (row_at signs e.which))
      at_sign number q t = subst (λ (n : ℕ). Told e (token_class (row_at signs n))) (sym (eqb-true e.which number q)) t

      go : (a b c d g h : Bool) → eqb e.which brace_opener ≡ a → eqb e.which brace_closer ≡ b → eqb e.which paren_opener ≡ c → eqb e.which paren_closer ≡ d
          → eqb e.which bracket_opener ≡ g → eqb e.which bracket_closer ≡ h → Told e (cond (a || b || c || d || g || h) (token_class (row_at signs e.which)) 0)
      go true b c d g h p q r s t u = at_sign 1 p (told_open_brace k p)
      go false true c d g h p q r s t u = at_sign 2 q (told_close_brace k q)
      go false false true d g h p q r s t u = at_sign 3 r (told_open_paren k r)
      go false false false true g h p q r s t u = at_sign 4 s (told_close_paren k s)
      go false false false false true h p q r s t u = at_sign 5 t (told_open_bracket k t)
      go false false false false false true p q r s t u = at_sign 6 u (told_close_bracket k u)
      go false false false false false false p q r s t u = told_nothing

  pub told : Told e (class_of e)
  unfolding class_of element_class is_leaf tree_class
  told =
      by name_kind name_told λ z.
      by word_kind word λ z.
      by number_kind (λ k. told_leaf {class = number} (λ z. omega arith) tt (rw (element_class, k))) λ z.
      by string_kind (λ k. told_leaf {class = string} (λ z. omega arith) tt (rw (element_class, k))) λ z.
      by pattern_kind (λ k. told_leaf {class = pattern} (λ z. omega arith) tt (rw (element_class, k))) λ z.
      by sign_kind sign λ z.
      by delimiter_kind delimiter_told λ z.
      told_nothing
    where
      by : (kind : ℕ) {x y : ℕ} → (e.kind ≡ kind → Told e x) → (eqb e.kind kind ≡ false → Told e y) → Told e (cond (eqb e.kind kind) x y)
      by kind same other = cond_known (Told e) (eqb e.kind kind) (λ q. same (eqb-true e.kind kind q)) other

-- what the class of a leaf tells
pub leaf_told : (e : Element) {class : ℕ} → Told e class → T (is_leaf class) → (e.kind ≡ 0 → ⊥) × (element_class e ≡ tree_class class)
unfolding is_leaf
leaf_told e (told_leaf n l c) t = (n, c)
leaf_told e (told_open_paren k w) t = absurd t
leaf_told e (told_close_paren k w) t = absurd t
leaf_told e (told_open_brace k w) t = absurd t
leaf_told e (told_close_brace k w) t = absurd t
leaf_told e (told_open_bracket k w) t = absurd t
leaf_told e (told_close_bracket k w) t = absurd t
leaf_told e told_nothing t = absurd t

-- the kind of the tree that a token of a class and kind makes, by whether `++` or `--` there stands before its operand, and whether a `?` is open there
abbrev pub kind_by : Bool → Bool → ℕ → ℕ → ℕ
kind_by before asked class kind = cond (is_update class) (cond before before_kind after_kind) (cond (eqb class colon && asked) answer_kind kind)

-- the unanswered `?`s of the innermost level
unfoldable pub questions_of : Levels → ℕ
questions_of levels = unanswered (backwards (trees_of levels))

-- a class of which the rule settles nothing
abbrev is_plain : ℕ → Bool
is_plain class = not (is_update class || eqb class colon)

plain_kind : (before asked : Bool) (class kind : ℕ) → T (is_plain class) → kind_by before asked class kind ≡ kind
plain_kind before asked class kind = go (is_update class) (eqb class colon)
  where
    go : (a b : Bool) → T (not (a || b)) → cond a (cond before before_kind after_kind) (cond (b && asked) answer_kind kind) ≡ kind
    go true b t = absurd t
    go false true t = absurd t
    go false false t = refl

abbrev plain_row : Row → Bool
plain_row row = is_plain (token_class row)

-- no element but a sign, and no sign but these three, is of such a class
no_sign_plain : (e : Element) → eqb e.kind sign_kind ≡ false → T (is_plain (class_of e))
unfolding class_of delimiter longest_sign longest_of same
no_sign_plain e other =
    cond_both P (eqb e.kind name_kind) (cond_both P (eqb e.which 0) tt tt)
    (cond_both P (eqb e.kind word_kind) (at_row (λ number row. plain_row row) words tt e.which tt)
    (cond_both P (eqb e.kind number_kind) tt
    (cond_both P (eqb e.kind string_kind) tt
    (cond_both P (eqb e.kind pattern_kind) tt
    (cond_known P (eqb e.kind sign_kind) (λ is. absurd (false≢true (sym other ∙ is))) λ no.
    cond_both P (eqb e.kind delimiter_kind) (delimiter_plain e.which) tt)))))
  where
    P : ℕ → Type 0
    P class = T (is_plain class)

    only : (a : Bool) → T (a || false) → T a
    only true t = tt
    only false t = absurd t

    delimiter_plain : (which : ℕ) → T (is_plain (delimiter_class which))
    delimiter_plain which =
        cond_known P (delimiter which) (λ is. only (plain_row (row_at signs which)) (rw is at (at_row (λ number row. plain_row row || not (delimiter number)) signs tt which tt))) (λ no. tt)

other_sign_plain : (e : Element) → e.kind ≡ sign_kind → is_in (22 ∷ 23 ∷ 35 ∷ []) e.which ≡ false → T (is_plain (class_of e))
unfolding class_of delimiter longest_sign longest_of same
other_sign_plain e k other =
    rw k (cond_both (λ class. T (is_plain class)) (delimiter e.which) tt (at_other plain_row (is_in (22 ∷ 23 ∷ 35 ∷ [])) signs tt tt e.which other))

-- what the rule settles of an element on levels, by its class
module _ (levels : Levels) (e : Element) where
  abbrev before : Bool
  before = slash_opens levels || e.newline

  abbrev is_open : Bool
  is_open = ltb 0 (questions_of levels)

  sign-kind : e.kind ≡ sign_kind → settled_kind (is_expression (kind_of levels)) (backwards (trees_of levels)) e ≡ kind_by before is_open (class_of e) e.kind
  unfolding settled_kind class_of questions_of delimiter longest_sign longest_of same
  sign-kind k = go (eqb e.which 22) (eqb e.which 23) (eqb e.which 35) refl refl refl
    where
      go : (a b d : Bool) → eqb e.which 22 ≡ a → eqb e.which 23 ≡ b → eqb e.which 35 ≡ d
          → settled_kind (is_expression (kind_of levels)) (backwards (trees_of levels)) e ≡ kind_by before is_open (class_of e) e.kind
      go true b d p q r = rw (k, eqb-true e.which 22 p)
      go false true d p q r = rw (k, eqb-true e.which 23 q)
      go false false true p q r = rw (k, eqb-true e.which 35 r)
      go false false false p q r =
          let same : settled_kind (is_expression (kind_of levels)) (backwards (trees_of levels)) e ≡ e.kind = rw (k, p, q, r) in
          same ∙ sym (plain_kind before is_open (class_of e) e.kind (other_sign_plain e k (rw (p, q, r))))

  pub settled-kind : settled_kind (is_expression (kind_of levels)) (backwards (trees_of levels)) e ≡ kind_by before is_open (class_of e) e.kind
  unfolding settled_kind
  settled-kind = go (eqb e.kind sign_kind) refl
    where
      go : (b : Bool) → eqb e.kind sign_kind ≡ b → settled_kind (is_expression (kind_of levels)) (backwards (trees_of levels)) e ≡ kind_by before is_open (class_of e) e.kind
      go true sign = sign-kind (eqb-true e.kind sign_kind sign)
      go false other =
          let same : settled_kind (is_expression (kind_of levels)) (backwards (trees_of levels)) e ≡ e.kind = rw other in
          same ∙ sym (plain_kind before is_open (class_of e) e.kind (no_sign_plain e other))

  pub settled_there : element_class e ≡ tree_class (class_of e) → element_class (settled_in levels e) ≡ settled_class before is_open (class_of e)
  unfolding settled_class element_class
  settled_there c =
      ap (λ (kind : ℕ). element_class (record { kind = kind; which = e.which; first = e.first; end = e.end; newline = e.newline })) settled-kind
      ∙ go (is_update (class_of e)) (eqb (class_of e) colon && is_open) before
    where
      go : (a b d : Bool) → element_class (record { kind = cond a (cond d before_kind after_kind) (cond b answer_kind e.kind); which = e.which; first = e.first; end = e.end; newline = e.newline })
          ≡ cond a (cond d Class.operator Class.value) (cond b Class.answer (tree_class (class_of e)))
      go true b true = refl
      go true b false = refl
      go false true d = refl
      go false false d = c
