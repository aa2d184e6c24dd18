-- The tokens of elements: which of them are closers, and that they count their tree records.
use mathlib.Core.Path.{◌≡◌, refl, sym, subst, ◌∙◌}
use mathlib.Core.Bool.{Bool, true, false, false≢true, not, cond, ◌&&◌, ◌||◌}
use mathlib.Core.List.{List, [], ◌∷◌, Memᴰ}
use Prim.Native.Nat.{ℕ, ◌+◌}
use native.Mathlib.Omega.{arith}
use borrow.Author.Tests.{eqb-true, eqb-false}
use lib.Dec.{T, eqb, eqb→eq}
use Rattle.text.specs.Runs.{same}
use Rattle.text.proofs.Members.{Has, here, there, all_in, at}
use Rattle.vocabulary.specs.Vocabulary.{Row, words, signs, token_class, row_at}
use Rattle.vocabulary.proofs.RowLaws.{each_row, at_row, each_other, at_other}
use Rattle.signs.specs.Signs.{longest_sign, longest_of}
use Rattle.elements.specs.Elements.{delimiter_kind, name_kind, word_kind, number_kind, string_kind, pattern_kind, sign_kind, delimiter, paren_closer, brace_closer, bracket_closer}
use Rattle.elements.specs.declared.Element.{Element}
use Rattle.derivations.specs.Cuts.{is_closer}
use Rattle.derivations.specs.Tokens.{
  Token,
  token,
  Spot,
  name,
  number,
  string,
  pattern,
  word_name,
  name_class,
  word_class,
  sign_class,
  delimiter_class,
  class_of,
  tokens_from,
  tokens,
}
use Rattle.machine.specs.Syntax.{Syntax}
use Rattle.grammar.specs.Grammar.{Program}
use Rattle.machine.specs.Machinery.Machine.{end_of_text}
use Rattle.agreement.proofs.TreeClasses.{fails}
use Rattle.recorded.proofs.Counts.{is_closing, count_tree_tokens}
use Rattle.recorded.proofs.Counting.{Counting, counting_none, counting_closer, counting_mark}
use Rattle.recorded.proofs.OwnMarks.{OwnMarks, own_marks}
use Rattle.grammar.proofs.Unfinished.{BeforeEnd, none_before, more_before}

-- a test that fails at both choices fails
neither : (test : ℕ → Bool) (b : Bool) (x y : ℕ) → test x ≡ false → test y ≡ false → test (cond b x y) ≡ false
neither test true x y p q = p
neither test false x y p q = q

-- a test that fails at the class of each word, of each sign, and of each sign that is no delimiter, fails at any number's
module _ (test : ℕ → Bool) (none : T (not (test 0))) where
  abbrev fails_at : Row → Bool
  fails_at row = not (test (token_class row))

  no_word : T (each_row (λ number row. fails_at row) 1 words) → (which : ℕ) → test (word_class which) ≡ false
  no_word t which = fails (test (word_class which)) (at_row (λ number row. fails_at row) words t which none)

  no_delimiter : T (each_row (λ number row. fails_at row) 1 signs) → (which : ℕ) → test (delimiter_class which) ≡ false
  no_delimiter t which =
      neither test (delimiter which) (token_class (row_at signs which)) 0
      (fails (test (token_class (row_at signs which))) (at_row (λ number row. fails_at row) signs t which none)) (fails (test 0) none)

  no_sign : T (each_other fails_at delimiter signs) → (which : ℕ) → test (sign_class which) ≡ false
  no_sign t which = go (delimiter which) refl
    where
      go : (b : Bool) → delimiter which ≡ b → test (cond b 0 (token_class (row_at signs which))) ≡ false
      go true is = fails (test 0) none
      go false other = fails (test (token_class (row_at signs which))) (at_other fails_at delimiter signs t none which other)

-- a test that the classes of some delimiters pass, and no others do
module _ (test some : ℕ → Bool) (pass : (which : ℕ) → some which ≡ true → test (delimiter_class which) ≡ true)
    (no_literal : T (all_in (λ class. not (test class)) (0 ∷ name ∷ number ∷ string ∷ pattern ∷ word_name ∷ []))) (no_words : T (each_row (λ number row. not (test (token_class row))) 1 words))
    (no-signs : T (each_other (λ row. not (test (token_class row))) delimiter signs)) (no-others : T (each_other (λ row. not (test (token_class row))) some signs)) where
  at_literal : {class : ℕ} → Has class (0 ∷ name ∷ number ∷ string ∷ pattern ∷ word_name ∷ []) → T (not (test class))
  at_literal h = at (λ class. not (test class)) h no_literal

  delimiter_passes : (which : ℕ) → test (delimiter_class which) ≡ some which
  delimiter_passes which = go (some which) refl
    where
      go : (b : Bool) → some which ≡ b → test (delimiter_class which) ≡ b
      go true q = pass which q
      go false q =
          neither test (delimiter which) (token_class (row_at signs which)) 0
          (fails (test (token_class (row_at signs which))) (at_other (λ row. not (test (token_class row))) some signs no-others (at_literal here) which q))
          (fails (test 0) (at_literal here))

  class_passes : (e : Element) → test (class_of e) ≡ (eqb e.kind delimiter_kind && some e.which)
  unfolding class_of
  class_passes e = go (eqb e.kind delimiter_kind) refl
    where
      go : (b : Bool) → eqb e.kind delimiter_kind ≡ b → test (class_of e) ≡ (b && some e.which)
      go true is = rw (eqb→eq e.kind delimiter_kind (subst (λ (b : Bool). T b) (sym is) tt)) (delimiter_passes e.which)
      go false is =
          rw is
          (neither test (eqb e.kind name_kind) _ _
          (neither test (eqb e.which 0) name word_name (fails (test name) (at_literal (there here)))
          (fails (test word_name) (at_literal (there (there (there (there (there here))))))))
          (neither test (eqb e.kind word_kind) _ _ (no_word test (at_literal here) no_words e.which)
          (neither test (eqb e.kind number_kind) _ _ (fails (test number) (at_literal (there (there here))))
          (neither test (eqb e.kind string_kind) _ _ (fails (test string) (at_literal (there (there (there here)))))
          (neither test (eqb e.kind pattern_kind) _ _ (fails (test pattern) (at_literal (there (there (there (there here))))))
          (neither test (eqb e.kind sign_kind) _ _ (no_sign test (at_literal here) no-signs e.which) (fails (test 0) (at_literal here))))))))

-- a token is a closer exactly if its element is
pub closing_class : (e : Element) → is_closing (class_of e) ≡ is_closer e
unfolding row_at delimiter longest_sign longest_of same
closing_class =
    class_passes is_closing (λ which. eqb which paren_closer || eqb which brace_closer || eqb which bracket_closer)
    (λ which. go which (eqb which paren_closer) (eqb which brace_closer) refl refl) tt tt tt tt
  where
    go : (which : ℕ) (a b : Bool) → eqb which paren_closer ≡ a → eqb which brace_closer ≡ b → (a || b || eqb which bracket_closer) ≡ true
        → is_closing (delimiter_class which) ≡ true
    go which true b p q r = rw (eqb-true which _ p)
    go which false true p q r = rw (eqb-true which _ q)
    go which false false p q r = rw (eqb-true which _ r)

passed : (b : Bool) (n k total : ℕ) → n + (cond b 0 1 + k) ≡ total → cond b n (n + 1) + k ≡ total
passed true n k total e = omega arith
passed false n k total e = omega arith

counted_token : {all : List Token} (b : Bool) (total class : ℕ) (spot : Spot) (rest : List Token) → is_closing class ≡ b → Memᴰ (token class spot) all
    → Counting all total (cond b spot.mark (spot.mark + 1)) rest → Counting all total spot.mark (token class spot ∷ rest)
counted_token true total class spot rest is among counting = counting_closer (subst (λ (b : Bool). T b) (sym is) tt) counting
counted_token false total class spot rest is among counting = counting_mark (subst (λ (b : Bool). T (not b)) (sym is) tt) among refl counting

-- "Its tree records, for the marks, are its elements other than closers": tokens count them
tokens_counting : {all : List Token} (total before : ℕ) (es : List Element) → before + count_tree_tokens (tokens_from before es) ≡ total
    → ((t : Token) → Memᴰ t (tokens_from before es) → Memᴰ t all) → Counting all total before (tokens_from before es)
unfolding tokens_from
tokens_counting total before [] e among = let end : before ≡ total = omega arith in rw end counting_none
tokens_counting total before (x ∷ es) e among =
    counted_token (is_closer x) total (class_of x) (record { newline = x.newline; mark = before; first = x.first })
    (tokens_from (cond (is_closer x) before (before + 1)) es) (closing_class x) (among _ (Memᴰ.head refl))
    (tokens_counting total (cond (is_closer x) before (before + 1)) es
    (passed (is_closer x) before (count_tree_tokens (tokens_from (cond (is_closer x) before (before + 1)) es)) total
    (rw (closing_class x) at e)) λ t member. among t (Memᴰ.tail member))

pub elements_counting : (es : List Element) → Counting (tokens es) (count_tree_tokens (tokens es)) 0 (tokens es)
elements_counting es = tokens_counting (count_tree_tokens (tokens es)) 0 es (omega arith) λ t member. member

-- so each part of a program of elements has a mark of its own
pub element_marks : (es : List Element) {parts : Syntax} → Program (tokens es) parts
    → OwnMarks (count_tree_tokens (tokens es)) 0 (tokens es) parts
element_marks es program = own_marks (elements_counting es) program

-- no element has the class of the end of the text
no_end_class : (e : Element) → eqb (class_of e) end_of_text ≡ false
unfolding class_of longest_sign longest_of same
no_end_class e =
    let test : ℕ → Bool = λ class. eqb class end_of_text in
    neither test (eqb e.kind name_kind) _ _ (neither test (eqb e.which 0) name word_name refl refl)
    (neither test (eqb e.kind word_kind) _ _ (no_word test tt tt e.which)
    (neither test (eqb e.kind number_kind) _ _ refl
    (neither test (eqb e.kind string_kind) _ _ refl
    (neither test (eqb e.kind pattern_kind) _ _ refl
    (neither test (eqb e.kind sign_kind) _ _ (no_sign test tt tt e.which)
    (neither test (eqb e.kind delimiter_kind) _ _ (no_delimiter test tt tt e.which) refl))))))

-- only a reserved word that is taken as a name has the class of one
pub word_name_class : (e : Element) → class_of e ≡ word_name → (e.kind ≡ name_kind) × (e.which ≡ 0 → ⊥)
unfolding class_of longest_sign longest_of same
word_name_class e = go (eqb e.kind name_kind) refl
  where
    test : ℕ → Bool
    test class = eqb class word_name

    rest : ℕ
    rest =
        cond (eqb e.kind word_kind) (word_class e.which)
        (cond (eqb e.kind number_kind) number
        (cond (eqb e.kind string_kind) string
        (cond (eqb e.kind pattern_kind) pattern
        (cond (eqb e.kind sign_kind) (sign_class e.which)
        (cond (eqb e.kind delimiter_kind) (delimiter_class e.which)
        0)))))

    others : test rest ≡ false
    others =
        neither test (eqb e.kind word_kind) _ _ (no_word test tt tt e.which)
        (neither test (eqb e.kind number_kind) _ _ refl
        (neither test (eqb e.kind string_kind) _ _ refl
        (neither test (eqb e.kind pattern_kind) _ _ refl
        (neither test (eqb e.kind sign_kind) _ _ (no_sign test tt tt e.which)
        (neither test (eqb e.kind delimiter_kind) _ _ (no_delimiter test tt tt e.which) refl)))))

    named : (b : Bool) → eqb e.which 0 ≡ b → cond b name word_name ≡ word_name → e.which ≡ 0 → ⊥
    named true q c = absurd (omega arith)
    named false q c = eqb-false e.which 0 q

    go : (b : Bool) → eqb e.kind name_kind ≡ b → cond b (name_class e.which) rest ≡ word_name → (e.kind ≡ name_kind) × (e.which ≡ 0 → ⊥)
    go true q c = (eqb-true e.kind name_kind q, named (eqb e.which 0) refl c)
    go false q c = absurd (let same : eqb rest word_name ≡ true = rw c in false≢true (sym others ∙ same))

pub tokens_before_end : (before : ℕ) (es : List Element) → BeforeEnd (tokens_from before es)
unfolding tokens_from
tokens_before_end before [] = none_before
tokens_before_end before (e ∷ es) =
    more_before (λ is. differ (class_of e) (no_end_class e) is) (tokens_before_end (cond (is_closer e) before (before + 1)) es)
  where
    differ : (class : ℕ) → eqb class end_of_text ≡ false → class ≡ end_of_text → ⊥
    differ class no_test is =
        let test : eqb class end_of_text ≡ true = rw is in
        let z : ◌≡◌ {A = ℕ} 0 1 = cc in
        omega arith
