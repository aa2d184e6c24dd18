-- A derivation has each brace, `++` and `--` of its elements once, in their order.
use mathlib.Core.Path.{◌≡◌, refl, ap, ◌∙◌}
use mathlib.Core.Bool.{Bool, true, false, not, cond, ◌&&◌, ◌||◌}
use mathlib.Core.List.{List, [], ◌∷◌, ◌++◌}
use Prim.Native.Nat.{ℕ, ◌+◌}
use borrow.Author.Tests.{eqb-true}
use lib.Dec.{eqb}
use Rattle.text.specs.Runs.{same}
use Rattle.text.proofs.Members.{is_in}
use Rattle.vocabulary.specs.Vocabulary.{Row, words, signs, token_class, row_at}
use Rattle.vocabulary.proofs.RowLaws.{at_row, at_other}
use Rattle.signs.specs.Signs.{longest_sign, longest_of}
use Rattle.elements.specs.Elements.{name_kind, word_kind, number_kind, string_kind, pattern_kind, sign_kind, delimiter_kind, delimiter, brace_opener}
use Rattle.elements.specs.declared.Element.{Element}
use Rattle.elements.proofs.Choices.{cond_both, cond_known}
use Rattle.rule.specs.Trees.{object_kind}
use Rattle.rule.specs.Rule.{increment_sign, decrement_sign}
use Rattle.rule.specs.Machinery.Summary.{operand}
use Rattle.derivations.specs.Cuts.{is_closer}
use Rattle.derivations.specs.Tokens.{token_of, tokens_from, open_brace, colon, sign_class, delimiter_class, class_of}
use Rattle.derivations.specs.Senses.{Sense, object_at, block_at, before_at, after_at, answer_at}
use Rattle.shown.specs.Shown.{places_of, is_sensed, sensed_in}
use Rattle.machine.specs.Machinery.Machine.{State, dead, live, consume, asks_in}
use Rattle.agreement.proofs.TreeClasses.{is_update, fails}
use Rattle.agreement.proofs.Related.{kinds, is_last}
use Rattle.derivations.proofs.MachineSenses.{brace_behind, update_behind, sense_at, senses_from}

-- the classes of `{`, `++` and `--`
abbrev has_place : ℕ → Bool
has_place class = eqb class open_brace || is_update class

abbrev no_place : Row → Bool
no_place row = not (has_place (token_class row))

-- no other delimiter, and no other sign, has such a class
delimiter_place : (which : ℕ) → has_place (delimiter_class which) ≡ (eqb which brace_opener || false)
unfolding row_at delimiter longest_sign longest_of same
delimiter_place which = go (eqb which 1) refl
  where
    go : (a : Bool) → eqb which 1 ≡ a → has_place (delimiter_class which) ≡ (a || false)
    go true p = rw (eqb-true which 1 p)
    go false p =
        cond_known (λ class. has_place class ≡ false) (delimiter which)
        (λ is. fails (has_place (token_class (row_at signs which)))
        (at_other no_place (λ number. eqb number 1 || not (delimiter number)) signs tt tt which (rw (is, p))))
        (λ no. refl)

sign_place : (which : ℕ) → has_place (sign_class which) ≡ (eqb which increment_sign || eqb which decrement_sign)
unfolding row_at delimiter longest_sign longest_of same
sign_place which = go (eqb which 22) (eqb which 23) refl refl
  where
    go : (a b : Bool) → eqb which 22 ≡ a → eqb which 23 ≡ b → has_place (sign_class which) ≡ (a || b)
    go true b p q = rw (eqb-true which 22 p)
    go false true p q = rw (eqb-true which 23 q)
    go false false p q =
        cond_known (λ class. has_place class ≡ false) (delimiter which) (λ is. refl) λ no.
        fails (has_place (token_class (row_at signs which)))
        (at_other no_place (λ number. eqb number 22 || (eqb number 23 || delimiter number)) signs tt tt which (rw (p, q, no)))

-- so a token has such a class exactly if its element is one of them
class_place : (e : Element) → has_place (class_of e) ≡ is_sensed e
unfolding class_of
class_place e = go (eqb e.kind delimiter_kind) (eqb e.kind sign_kind) refl refl
  where
    P : ℕ → Type 0
    P class = has_place class ≡ false

    word_place : (which : ℕ) → P (token_class (row_at words which))
    word_place which = fails (has_place (token_class (row_at words which))) (at_row (λ number row. no_place row) words tt which tt)

    go : (a b : Bool) → eqb e.kind delimiter_kind ≡ a → eqb e.kind sign_kind ≡ b → has_place (class_of e) ≡ is_sensed e
    go true b p q = rw (eqb-true e.kind delimiter_kind p) (delimiter_place e.which)
    go false true p q = rw (eqb-true e.kind sign_kind q) (sign_place e.which)
    go false false p q =
        rw (p, q)
        (cond_both P (eqb e.kind name_kind) (cond_both P (eqb e.which 0) refl refl)
        (cond_both P (eqb e.kind word_kind) (word_place e.which)
        (cond_both P (eqb e.kind number_kind) refl
        (cond_both P (eqb e.kind string_kind) refl
        (cond_both P (eqb e.kind pattern_kind) refl refl)))))

-- each stands at its token, whatever the machine takes it for
brace_place : (state : State) (first : ℕ) → places_of (brace_behind state first ∷ []) ≡ first ∷ []
unfolding places_of
brace_place (dead place) first = refl
brace_place (live control f around) first = cond_both (λ sense. places_of (sense ∷ []) ≡ first ∷ []) (is_in (kinds control) object_kind) refl refl

update_place : (state : State) (first : ℕ) → places_of (update_behind state first ∷ []) ≡ first ∷ []
unfolding places_of
update_place (dead place) first = refl
update_place (live control f around) first = cond_both (λ sense. places_of (sense ∷ []) ≡ first ∷ []) (is_last control operand) refl refl

-- and an answer adds none
sense_place : (asked : Bool) (after : State) (class first : ℕ) → places_of (sense_at asked after class first) ≡ cond (has_place class) (first ∷ []) []
unfolding places_of
sense_place asked after class first = go (eqb class open_brace) (is_update class) (eqb class colon && asked)
  where
    go : (a b c : Bool) → places_of (cond a (brace_behind after first ∷ []) (cond b (update_behind after first ∷ []) (cond c (answer_at first ∷ []) [])))
        ≡ cond (a || b) (first ∷ []) []
    go true b c = brace_place after first
    go false true c = update_place after first
    go false false true = refl
    go false false false = refl

places_append : (first second : List Sense) → places_of (first ++ second) ≡ places_of first ++ places_of second
unfolding places_of
places_append [] second = refl
places_append (object_at n ∷ first) second = ap (λ (ns : List ℕ). n ∷ ns) (places_append first second)
places_append (block_at n ∷ first) second = ap (λ (ns : List ℕ). n ∷ ns) (places_append first second)
places_append (before_at n ∷ first) second = ap (λ (ns : List ℕ). n ∷ ns) (places_append first second)
places_append (after_at n ∷ first) second = ap (λ (ns : List ℕ). n ∷ ns) (places_append first second)
places_append (answer_at n ∷ first) second = places_append first second

pub places_from : (state : State) (before : ℕ) (es : List Element) → places_of (senses_from state (tokens_from before es)) ≡ sensed_in es
unfolding tokens_from sensed_in places_of
places_from state before [] = refl
places_from state before (e ∷ es) =
    let next = consume state (token_of before e) in
    let count = cond (is_closer e) before (before + 1) in
    places_append (sense_at (asks_in state) next (class_of e) e.first) (senses_from next (tokens_from count es))
    ∙ rw (sense_place (asks_in state) next (class_of e) e.first, class_place e, places_from next count es)
