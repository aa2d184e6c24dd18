-- The records of trees are those of their elements, closers left out, in order: so an element's index is the number of those before it.
use mathlib.Core.Path.{◌≡◌, refl, sym, ap, subst, ◌∙◌}
use mathlib.Core.List.{List, [], ◌∷◌, ◌++◌, append_assoc, append-nil}
use mathlib.Core.Bool.{Bool, true, false, false≢true, cond}
use Prim.Native.Nat.{ℕ, ◌+◌, ◌*◌}
use native.Mathlib.Nat.{zero-add}
use native.Mathlib.Omega.{arith}
use borrow.Author.Tests.{eqb-true}
use lib.Dec.{eqb}
use lib.ListN.{get_or, length-append}
use lib.Seq.{get_or-append-add}
use Rattle.text.specs.Runs.{same}
use Rattle.signs.specs.Signs.{longest_sign, longest_of}
use Rattle.elements.specs.Elements.{delimiter_kind, paren_opener, brace_opener, bracket_opener}
use Rattle.elements.specs.declared.Element.{Element}
use Rattle.rule.specs.Trees.{Trees, none, leaf, group, count, paren_kind, bracket_kind}
use Rattle.tables.specs.Records.{tree_width, tree_record}
use Rattle.storing.specs.Records.{records}
use Rattle.reading.proofs.Formed.{Formed}
use Rattle.derivations.specs.Cuts.{is_closer}
use Rattle.derivations.specs.Derivations.{count_trees}
use Rattle.derivations.specs.TreeElements.{opener_of, closer_of, unsettled_kind, unsettled, elements_of}
use Rattle.shown.specs.Shown.{RecordOf, Indexed}
use Rattle.derivations.proofs.ClassSteps.{leaf_no_closer}
use Rattle.derivations.proofs.TreeSizes.{opener_counts, closer_closes, unsettled_leaf}

-- the kind of a group, by its opener
abbrev KindOf : ℕ → Element → Type 0
KindOf kind e = (e.kind ≡ delimiter_kind → e.which ≡ paren_opener → kind ≡ paren_kind) × (e.kind ≡ delimiter_kind → e.which ≡ bracket_opener → kind ≡ bracket_kind)

pub data RecordsOf : List Element → List ℕ → Type 0 where
  no_records : RecordsOf [] []
  closer_none : {e : Element} {es : List Element} {cells : List ℕ} → is_closer e ≡ true → RecordsOf es cells → RecordsOf (e ∷ es) cells
  a_record : {e : Element} {es : List Element} {cells : List ℕ} (kind end number : ℕ) → is_closer e ≡ false
      → ((e.kind ≡ delimiter_kind → ⊥) → (unsettled_kind kind ≡ e.kind) × (end ≡ e.end)) → KindOf kind e → RecordsOf es cells
      → RecordsOf (e ∷ es) (tree_record kind e.first end number e.newline ++ cells)

-- the opener of a group has its kind
opener_kind : (kind first : ℕ) (newline : Bool) → KindOf kind (opener_of kind first newline)
unfolding longest_sign longest_of same
opener_kind kind first newline = ((λ k w. paren (eqb kind paren_kind) (eqb kind bracket_kind) refl w), (λ k w. bracket (eqb kind paren_kind) (eqb kind bracket_kind) refl w))
  where
    paren : (a b : Bool) → eqb kind paren_kind ≡ a → cond a paren_opener (cond b bracket_opener brace_opener) ≡ paren_opener → kind ≡ paren_kind
    paren true b q w = eqb-true kind paren_kind q
    paren false true q w = absurd (omega arith)
    paren false false q w = absurd (omega arith)

    bracket : (a b : Bool) → eqb kind bracket_kind ≡ b → cond a paren_opener (cond b bracket_opener brace_opener) ≡ bracket_opener → kind ≡ bracket_kind
    bracket true b q w = absurd (omega arith)
    bracket false true q w = eqb-true kind bracket_kind q
    bracket false false q w = absurd (omega arith)

-- trees in front of elements and their records
tree_records : (trees : Trees) → Formed trees → {es : List Element} {cells : List ℕ} → RecordsOf es cells → RecordsOf (elements_of trees ++ es) (records trees ++ cells)
unfolding elements_of records
tree_records none f r = r
tree_records (leaf before e) f {es} {cells} r =
    rw (append_assoc (elements_of before) (unsettled e ∷ []) es, append_assoc (records before) (tree_record e.kind e.first e.end 1 e.newline) cells)
    (tree_records before f.0 (a_record {e = unsettled e} e.kind e.end 1 (leaf_no_closer (unsettled e) (unsettled_leaf e f.1)) (λ n. (refl, refl))
    ((λ k. absurd (unsettled_leaf e f.1 k)), (λ k. absurd (unsettled_leaf e f.1 k))) r))
tree_records (group before kind first end newline within) f {es} {cells} r =
    let opener = opener_of kind first newline in
    let closer = closer_of kind end in
    let own = tree_record kind first end (count within + 1) newline in
    let inner : RecordsOf (elements_of within ++ (closer ∷ es)) (records within ++ cells) = tree_records within f.3 (closer_none (closer_closes kind end) r) in
    let all = tree_records before f.0 (a_record {e = opener} kind end (count within + 1) (opener_counts kind first newline) (λ n. absurd (n refl)) (opener_kind kind first newline) inner) in
    rw (append_assoc (elements_of before) (opener ∷ (elements_of within ++ (closer ∷ []))) es, append_assoc (elements_of within) (closer ∷ []) es, append_assoc (records before) (own ++ records within) cells) all

-- a record more in front
past_record : (kind first end number : ℕ) (newline : Bool) (cells : List ℕ) (m : ℕ) (e : Element) → RecordOf cells m e
    → RecordOf (tree_record kind first end number newline ++ cells) (1 + m) e
past_record kind first end number newline cells m e r =
    record {
      within = omega (arith, r.within, length-append (tree_record kind first end number newline) cells);
      kind = λ n. ap unsettled_kind (later (tree_width * (1 + m)) (tree_width * m) (omega arith)) ∙ r.kind n;
      parens = λ k w. later (tree_width * (1 + m)) (tree_width * m) (omega arith) ∙ r.parens k w;
      brackets = λ k w. later (tree_width * (1 + m)) (tree_width * m) (omega arith) ∙ r.brackets k w;
      first = later (tree_width * (1 + m) + 1) (tree_width * m + 1) (omega arith) ∙ r.first;
      end = λ n. later (tree_width * (1 + m) + 2) (tree_width * m + 2) (omega arith) ∙ r.end n;
      newline = later (tree_width * (1 + m) + 4) (tree_width * m + 4) (omega arith) ∙ r.newline;
    }
  where
    later : (at from : ℕ) → at ≡ 5 + from → get_or (tree_record kind first end number newline ++ cells) at 0 ≡ get_or cells from 0
    later at from q = rw q (get_or-append-add (tree_record kind first end number newline) cells from 0)

first_record : (kind end number : ℕ) (cells : List ℕ) (e : Element) → ((e.kind ≡ delimiter_kind → ⊥) → (unsettled_kind kind ≡ e.kind) × (end ≡ e.end))
    → KindOf kind e → RecordOf (tree_record kind e.first end number e.newline ++ cells) 0 e
first_record kind end number cells e own opened =
    record {
      within = omega (arith, length-append (tree_record kind e.first end number e.newline) cells);
      kind = λ n. (own n).0;
      parens = opened.0;
      brackets = opened.1;
      first = refl;
      end = λ n. (own n).1;
      newline = refl;
    }

record_at : {es : List Element} {cells : List ℕ} → RecordsOf es cells → Indexed es cells
record_at no_records [] e after q c = absurd (let z : ◌≡◌ {A = ℕ} 0 1 = cc in omega arith)
record_at no_records (b ∷ before) e after q c = absurd (let z : ◌≡◌ {A = ℕ} 0 1 = cc in omega arith)
record_at (closer_none {e = f} k r) [] e after q c = let s : f ≡ e = cc in absurd (false≢true (sym c ∙ ap is_closer (sym s) ∙ k))
record_at (closer_none {e = f} {cells = cells} k r) (b ∷ before) e after q c =
    let s : is_closer b ≡ true = let t : f ≡ b = cc in ap is_closer (sym t) ∙ k in
    rw (s, zero-add (count_trees before)) (record_at r before e after (cc) c)
record_at (a_record {e = f} {cells = cells} kind end number k own opened r) [] e after q c =
    let s : f ≡ e = cc in
    subst (λ (x : Element). RecordOf (tree_record kind f.first end number f.newline ++ cells) 0 x) s (first_record kind end number cells f own opened)
record_at (a_record {e = f} {cells = cells} kind end number k own opened r) (b ∷ before) e after q c =
    let s : is_closer b ≡ false = let t : f ≡ b = cc in ap is_closer (sym t) ∙ k in
    rw s (past_record kind f.first end number f.newline cells (count_trees before) e (record_at r before e after (cc) c))

pub records_of : (trees : Trees) → Formed trees → RecordsOf (elements_of trees) (records trees)
records_of trees f =
    subst (λ (es : List Element). RecordsOf es (records trees)) (append-nil (elements_of trees))
    (subst (λ (cells : List ℕ). RecordsOf (elements_of trees ++ []) cells) (append-nil (records trees)) (tree_records trees f no_records))

pub records_indexed : (trees : Trees) → Formed trees → Indexed (elements_of trees) (records trees)
records_indexed trees f = record_at (records_of trees f)
