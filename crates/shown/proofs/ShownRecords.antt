-- What the records of trees show: the senses of the trees, and the regular expressions and words among their elements.
use mathlib.Core.Path.{◌≡◌, refl, sym, ap, ◌∙◌}
use mathlib.Core.Bool.{Bool, true, false, cond, ◌&&◌}
use mathlib.Core.List.{List, [], ◌∷◌, ◌++◌, append_assoc, append-nil}
use Prim.Native.Nat.{ℕ, ◌+◌, ◌-◌, ◌≤◌}
use native.Mathlib.Omega.{arith}
use borrow.Author.Tests.{ne_eqb, leb-true}
use lib.Dec.{leb}
use Rattle.elements.specs.Elements.{delimiter_kind, word_kind, pattern_kind, sign_kind}
use Rattle.elements.specs.declared.Element.{Element}
use Rattle.rule.specs.Trees.{Trees, none, leaf, group, count, before_kind, answer_kind}
use Rattle.tables.specs.Records.{tree_record}
use Rattle.storing.specs.Records.{records}
use Rattle.reading.proofs.Formed.{Formed}
use Rattle.derivations.specs.TreeElements.{opener_of, closer_of, unsettled_kind, unsettled, elements_of}
use Rattle.shown.specs.Shown.{shown_in, pattern_of, word_of}
use Rattle.derivations.specs.Senses.{Sense, sense_of}
use Rattle.derivations.proofs.ReadSenses.{tree_senses}
use Rattle.shown.proofs.ShownCuts.{among}

-- what trees show, each by its kind and first byte
unfoldable shown_of : {A : Type 0} → (ℕ → ℕ → List A) → Trees → List A
shown_of show none = []
shown_of show (leaf before e) = shown_of show before ++ show e.kind e.first
shown_of show (group before kind first end newline within) = shown_of show before ++ (show kind first ++ shown_of show within)

records_show : {A : Type 0} (show : ℕ → ℕ → List A) (trees : Trees) (cells : List ℕ)
    → shown_in show (records trees ++ cells) ≡ shown_of show trees ++ shown_in show cells
unfolding records shown_in shown_of
records_show show none cells = refl
records_show show (leaf before e) cells =
    ap (shown_in show) (append_assoc (records before) (tree_record e.kind e.first e.end 1 e.newline) cells)
    ∙ records_show show before (tree_record e.kind e.first e.end 1 e.newline ++ cells)
    ∙ sym (append_assoc (shown_of show before) (show e.kind e.first) (shown_in show cells))
records_show show (group before kind first end newline within) cells =
    let own = tree_record kind first end (count within + 1) newline in
    ap (shown_in show) (append_assoc (records before) (own ++ records within) cells)
    ∙ records_show show before (own ++ (records within ++ cells))
    ∙ rw (records_show show within cells) (simp append_assoc)

tree-senses : (trees : Trees) → shown_of sense_of trees ≡ tree_senses trees
unfolding shown_of tree_senses
tree-senses none = refl
tree-senses (leaf before e) = ap (λ (senses : List Sense). senses ++ sense_of e.kind e.first) (tree-senses before)
tree-senses (group before kind first end newline within) = rw (tree-senses before, tree-senses within)

-- what shows nothing of kinds from that of signs on, but of elements: groups have none of their kinds, and what the rule settles is a sign
module _ (show : ℕ → ℕ → List ℕ) (no_delimiter : (first : ℕ) → show delimiter_kind first ≡ []) (no-group : (kind first : ℕ) → sign_kind ≤ kind → show kind first ≡ []) where
  unsettled_shown : (kind first : ℕ) → show (unsettled_kind kind) first ≡ show kind first
  unsettled_shown kind first = go (leb before_kind kind) (leb kind answer_kind) refl
    where
      go : (b c : Bool) → leb before_kind kind ≡ b → show (cond (b && c) sign_kind kind) first ≡ show kind first
      go true true q = no-group sign_kind first (omega arith) ∙ sym (no-group kind first (let h : before_kind ≤ kind = leb-true before_kind kind q in omega arith))
      go true false q = refl
      go false c q = refl

  among_append : (es fs : List Element) → among show (es ++ fs) ≡ among show es ++ among show fs
  among_append [] fs = refl
  among_append (e ∷ es) fs = rw (among_append es fs) (simp append_assoc)

  tree_among : (trees : Trees) → Formed trees → shown_of show trees ≡ among show (elements_of trees)
  unfolding shown_of elements_of
  tree_among none f = refl
  tree_among (leaf before e) f =
      rw (among_append (elements_of before) (unsettled e ∷ []), tree_among before f.0, unsettled_shown e.kind e.first, append-nil (show e.kind e.first))
  tree_among (group before kind first end newline within) f =
      rw (
        no-group kind first (omega (arith, f.1)),
        among_append (elements_of before) (opener_of kind first newline ∷ (elements_of within ++ (closer_of kind end ∷ []))),
        no_delimiter first,
        among_append (elements_of within) (closer_of kind end ∷ []),
        no_delimiter (end - 1),
        append-nil (among show (elements_of within)),
        tree_among before f.0,
        tree_among within f.3,
      )

-- the records of formed trees
module _ (trees : Trees) (f : Formed trees) where
  all_shown : {A : Type 0} (show : ℕ → ℕ → List A) → shown_in show (records trees) ≡ shown_of show trees
  unfolding shown_in
  all_shown show =
      ap (shown_in show) (sym (append-nil (records trees))) ∙ records_show show trees [] ∙ append-nil (shown_of show trees)

  pub records_senses : shown_in sense_of (records trees) ≡ tree_senses trees
  records_senses = all_shown sense_of ∙ tree-senses trees

  pub records_patterns : shown_in pattern_of (records trees) ≡ among pattern_of (elements_of trees)
  records_patterns =
      all_shown pattern_of ∙ tree_among pattern_of (λ first. refl) (λ kind first h. rw (ne_eqb kind pattern_kind (λ q. omega arith))) trees f

  pub records_words : shown_in word_of (records trees) ≡ among word_of (elements_of trees)
  records_words = all_shown word_of ∙ tree_among word_of (λ first. refl) (λ kind first h. rw (ne_eqb kind word_kind (λ q. omega arith))) trees f
