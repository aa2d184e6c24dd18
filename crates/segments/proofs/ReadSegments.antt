-- The records of a reading are a part whose tokens are those of the reading's elements, as records show them.
use mathlib.Core.Path.{◌≡◌, sym, ap, ◌∙◌}
use mathlib.Core.List.{List, [], ◌∷◌, ◌++◌, map, append_assoc, append-nil}
use mathlib.Core.Bool.{Bool}
use Prim.Native.Nat.{ℕ, ◌+◌, ◌-◌, ◌≤◌}
use native.Mathlib.Nat.{add-zero}
use native.Mathlib.Omega.{arith}
use lib.ListN.{get_or}
use Rattle.elements.specs.declared.Element.{Element}
use Rattle.rule.specs.Trees.{Trees, none, leaf, group, count}
use Rattle.prefix.specs.Reading.{Limits, accepted, reading}
use Rattle.tables.specs.Records.{most_trees}
use Rattle.storing.specs.Records.{records}
use Rattle.derivations.specs.Tokens.{Token, token, class_of, tokens_from, tokens}
use Rattle.derivations.proofs.ReadNames.{record_class, record_token}
use Rattle.derivations.specs.TreeElements.{opener_of, closer_of, unsettled, elements_of}
use Rattle.segments.specs.Machinery.Segments.{size_at, class_by, Segment, segment, inside, closer_spot, tokens_at, Fine}
use Rattle.segments.proofs.SegmentLaws.{inside_fine, inside_count, end_then, element_then, group_then}
use Rattle.segments.proofs.ClassLaws.{Told, GroupTold}
use Rattle.segments.proofs.ToldTrees.{AllTold, reading_told}
use Rattle.segments.proofs.RecordPlaces.{RecordAt, record-class, StandsIn, all_records, leaf_before, leaf-at, group_before, group_at, group_content}
use Rattle.segments.proofs.FineRecords.{records_count, records_fine}

-- tokens from a record on, with tokens behind the part: those of the record's elements and of the rest
module _ {p : Segment} (fine : Fine p) where
  leaf_tokens : {index : ℕ} {e : Element} → Told p.text e → RecordAt p.cells index e.kind e.first e.end 1 e.newline
      → (rest : List Element) (u : List Token) → tokens_at p (index + 1) ++ u ≡ map record_token (tokens_from (p.base + (index + 1)) rest)
      → tokens_at p index ++ u ≡ map record_token (tokens_from (p.base + index) (unsettled e ∷ rest))
  unfolding tokens_from
  leaf_tokens {index} {e} t r rest u later =
      let next : p.base + (index + 1) ≡ p.base + index + 1 = omega arith in
      element_then fine index (record_class (class_of (unsettled e))) (record-class p.text r ∙ t.told) u t.element
      ∙ rw (r.newline_is, r.place_is p.close, later, t.no_closer, next)

  module _ {index kind first end size : ℕ} {newline : Bool} (t : GroupTold kind) (r : RecordAt p.cells index kind first end size newline) (rest : List Element) (u : List Token) where
    abbrev closer_then : List Token
    closer_then = token (class_by kind (end - first) (get_or p.text first 0) (get_or p.text (end - 1) 0) + 1) (closer_spot p index) ∷ (tokens_at p (index + size_at p.cells index) ++ u)

    closer_tokens : tokens_at p (index + size) ++ u ≡ map record_token (tokens_from (p.base + (index + size)) rest) → closer_then ≡ map record_token (tokens_from (p.base + index + size) (closer_of kind end ∷ rest))
    unfolding tokens_from
    closer_tokens later =
        let next : p.base + (index + size) ≡ p.base + index + size = omega arith in
        rw (t.closer (end - first) (get_or p.text first 0) (get_or p.text (end - 1) 0) end, r.closer_is, r.size_is, later, t.closer_closes end, next)

    opener_tokens : tokens_at (inside p index) 0 ++ closer_then ≡ map record_token (tokens_from (p.base + index + 1) rest)
        → tokens_at p index ++ u ≡ map record_token (tokens_from (p.base + index) (opener_of kind first newline ∷ rest))
    unfolding tokens_from
    opener_tokens later =
        let b = get_or p.text first 0 in
        let last = get_or p.text (end - 1) 0 in
        group_then fine index (class_by kind (end - first) b last) (record-class p.text r) u (t.opens (end - first) b last)
        ∙ rw (later, r.newline_is, r.place_is p.close, t.opener (end - first) b last first newline, t.opener_opens first newline)

group_elements : (before inner rest : List Element) (opener closer : Element)
    → before ++ (opener ∷ (inner ++ (closer ∷ rest))) ≡ (before ++ (opener ∷ (inner ++ (closer ∷ [])))) ++ rest
group_elements before inner rest opener closer =
    ap (λ (z : List Element). before ++ (opener ∷ z)) (sym (append_assoc inner (closer ∷ []) rest)) ∙ sym (append_assoc before (opener ∷ (inner ++ (closer ∷ []))) rest)

trees_tokens : (trees : Trees) {p : Segment} → Fine p → AllTold p.text trees → (start : ℕ) → StandsIn p.cells start trees → (rest : List Element) (u : List Token)
    → tokens_at p (start + count trees) ++ u ≡ map record_token (tokens_from (p.base + (start + count trees)) rest)
    → tokens_at p start ++ u ≡ map record_token (tokens_from (p.base + start) (elements_of trees ++ rest))
unfolding count elements_of
trees_tokens none fine t start s rest u later = rw (add-zero start) at later
trees_tokens (leaf before e) {p} fine t start s rest u later =
    let index = start + count before in
    let next : start + (count before + 1) ≡ index + 1 = omega arith in
    trees_tokens before fine t.0 start (leaf_before s) (unsettled e ∷ rest) u (leaf_tokens fine t.1 (leaf-at s) rest u (rw next at later))
    ∙ ap (λ (es : List Element). map record_token (tokens_from (p.base + start) es)) (sym (append_assoc (elements_of before) (unsettled e ∷ []) rest))
trees_tokens (group before kind first end newline inner) {p} fine t start s rest u later =
    let index = start + count before in
    let r = group_at s in
    let q = inside p index in
    let c = closer_then fine t.1 r rest u in
    let next : start + (count before + (count inner + 1)) ≡ index + (count inner + 1) = omega arith in
    let past : p.base + index + (count inner + 1) ≡ p.base + index + 1 + (0 + count inner) = omega arith in
    let ends : tokens_at q (0 + count inner) ++ c ≡ map record_token (tokens_from (p.base + index + 1 + (0 + count inner)) (closer_of kind end ∷ rest)) =
    end_then q (0 + count inner) (omega (arith, inside_count fine index r.here, r.size_is)) c
    ∙ closer_tokens fine t.1 r rest u (rw next at later)
    ∙ ap (λ (n : ℕ). map record_token (tokens_from n (closer_of kind end ∷ rest))) past in
    trees_tokens before fine t.0 start (group_before s) (opener_of kind first newline ∷ (elements_of inner ++ (closer_of kind end ∷ rest))) u
    (opener_tokens fine t.1 r (elements_of inner ++ (closer_of kind end ∷ rest)) u
    (trees_tokens inner (inside_fine fine index r.here) t.2 0 (rw (group_content s) (all_records inner)) (closer_of kind end ∷ rest) c ends
    ∙ ap (λ (n : ℕ). map record_token (tokens_from n (elements_of inner ++ (closer_of kind end ∷ rest)))) (add-zero (p.base + index + 1))))
    ∙ ap (λ (es : List Element). map record_token (tokens_from (p.base + start) es)) (group_elements (elements_of before) (elements_of inner) rest (opener_of kind first newline) (closer_of kind end))

-- The records of an accepted reading are a part that can be parsed, and its tokens are those of the reading's elements, as
-- records show them.
module _ (bytes : List ℕ) (limits : Limits) (trees : Trees) (reads : reading bytes limits ≡ accepted trees) (few : count trees ≤ most_trees) (close : ℕ) where
  told : AllTold bytes trees
  told = rw reads at (reading_told bytes limits)

  pub reading_fine : Fine (segment bytes (records trees) 0 close)
  reading_fine = records_fine bytes trees told close few

  pub reading_tokens : tokens_at (segment bytes (records trees) 0 close) 0 ≡ map record_token (tokens (elements_of trees))
  unfolding tokens_from
  reading_tokens =
      let p = segment bytes (records trees) 0 close in
      let past = end_then p (0 + count trees) (omega (arith, records_count bytes trees told close)) [] in
      sym (append-nil (tokens_at p 0))
      ∙ trees_tokens trees reading_fine told 0 (all_records trees) [] [] past
      ∙ ap (λ (es : List Element). map record_token (tokens es)) (append-nil (elements_of trees))
