-- Parts of the tree table: what is inside a group is fine where the part is, and the tokens from a record on.
use mathlib.Core.Path.{◌≡◌, refl, ap, ◌∙◌}
use mathlib.Core.Bool.{Bool, true, false, cond, not, ◌&&◌, ◌||◌}
use mathlib.Core.List.{List, [], ◌∷◌, ◌++◌, append_assoc}
use Prim.Native.Nat.{ℕ, zero, suc, ◌+◌, ◌-◌, ◌*◌, ◌≤◌, ◌<◌}
use native.Mathlib.Omega.{arith}
use borrow.Author.Tests.{lt-ltb, le-ltb, ltb-true, ltb-false, eqb-true}
use lib.Dec.{T, ltb, eqb, ltb→lt}
use lib.ListN.{length, get_or, drop, length-drop}
use lib.Seq.{get_or-take, get_or-drop, length-take-le}
use Rattle.text.proofs.Range.{and_left, and_right}
use Rattle.text.specs.Quoted.{byte}
use Rattle.elements.specs.Elements.{name_kind, word_kind, number_kind, string_kind, pattern_kind}
use Rattle.rule.specs.Trees.{paren_kind, object_kind, block_kind, bracket_kind, answer_kind}
use Rattle.tables.specs.Records.{tree_width}
use Rattle.machine.specs.Tokens.{Token, token, name, number, string, pattern, unsigned_shift, unsigned_shift_assign, colon, open_paren, open_brace, open_bracket, this_word, true_word, instanceof_word, default_word, finally_word}
use Rattle.machine.specs.Machinery.Classes.{is_opener, is_end}
use Rattle.segments.specs.Machinery.Segments.{count_of, cell_or, kind_at, place_at, end_at, size_at, Entry, entry, look_up, low_singles, high_singles, assigned, doubled, compared, two_letters, three_letters, four_letters, five_letters, six_letters, eight_letters, sign_by, word_by, kind_by, is_spelled, class_by, class_at, content_of, Segment, inside, spot_at, closer_spot, tokens_by, tokens_at, FineAt, Fine}

-- a number of a record inside a group is that of a record of the part
module _ (text cells : List ℕ) (i : ℕ) (h : i < count_of cells) (f : FineAt text cells i) where
  content_length : length (content_of cells i) ≡ (size_at cells i - 1) * tree_width
  unfolding content_of
  content_length =
      let k : (i + size_at cells i) * tree_width - (i + 1) * tree_width ≤ length (drop ((i + 1) * tree_width) cells) = rw length-drop (omega (arith, f.fits, f.some)) in
      length-take-le ((i + size_at cells i) * tree_width - (i + 1) * tree_width) (drop ((i + 1) * tree_width) cells) k ∙ omega arith

  pub content_count : count_of (content_of cells i) ≡ size_at cells i - 1
  content_count = rw content_length (omega arith)

  content_get : (j k : ℕ) → k < tree_width → j < size_at cells i - 1
      → get_or (content_of cells i) (j * tree_width + k) 0 ≡ get_or cells ((i + 1 + j) * tree_width + k) 0
  unfolding content_of
  content_get j k small inner =
      let a : j * tree_width + k < (i + size_at cells i) * tree_width - (i + 1) * tree_width = omega arith in
      let b : (i + 1) * tree_width + (j * tree_width + k) ≡ (i + 1 + j) * tree_width + k = omega arith in
      rw (get_or-take, get_or-drop, b)

  content_cell : (default j k : ℕ) → k < tree_width → j < size_at cells i - 1
      → cell_or default (content_of cells i) j k ≡ cell_or default cells (i + 1 + j) k
  content_cell default j k small inner =
      let a : j < count_of (content_of cells i) = omega (arith, content_count) in
      let b : i + 1 + j < count_of cells = omega (arith, f.fits) in
      rw (lt-ltb j (count_of (content_of cells i)) a, lt-ltb (i + 1 + j) (count_of cells) b) (content_get j k small inner)

  content_size : (j : ℕ) → j < size_at cells i - 1 → size_at (content_of cells i) j ≡ size_at cells (i + 1 + j)
  unfolding size_at
  content_size j inner = content_cell 0 j 3 (omega arith) inner

  content_class : (j : ℕ) → j < size_at cells i - 1 → class_at text (content_of cells i) j ≡ class_at text cells (i + 1 + j)
  unfolding class_at kind_at place_at end_at
  content_class j inner = rw (content_cell 0 j 0 (omega arith) inner, content_cell 0 j 1 (omega arith) inner, content_cell 0 j 2 (omega arith) inner)

-- what is inside a group is fine
content_fine : (text cells : List ℕ) → ((i : ℕ) → i < count_of cells → FineAt text cells i) → (i : ℕ) → i < count_of cells
    → (j : ℕ) → j < count_of (content_of cells i) → FineAt text (content_of cells i) j
content_fine text cells at i h j k =
    let f = at i h in
    let n = content_count text cells i h f in
    let inner : j < size_at cells i - 1 = omega arith in
    let size = content_size text cells i h f in
    let s = size j inner in
    let g = at (i + 1 + j) (omega (arith, f.fits)) in
    let r = f.nested (i + 1 + j) (omega arith) (omega arith) in
    record {
      known = rw (content_class text cells i h f j inner) g.known;
      some = rw s g.some;
      fits = omega arith;
      nested = λ m o q. let t = size m (omega arith) in
          let u = g.nested (i + 1 + m) (omega arith) (omega arith) in
          omega arith;
    }

pub inside_fine : {p : Segment} → Fine p → (i : ℕ) → i < count_of p.cells → Fine (inside p i)
inside_fine {p} fine i h =
    let f = fine.at i h in
    record {
      few = omega (arith, content_count p.text p.cells i h f, fine.few);
      at = content_fine p.text p.cells fine.at i h;
    }

pub inside_count : {p : Segment} → Fine p → (i : ℕ) → i < count_of p.cells → count_of (inside p i).cells ≡ size_at p.cells i - 1
inside_count {p} fine i h = content_count p.text p.cells i h (fine.at i h)

-- enough fuel is any fuel
fuel_alike : (n m : ℕ) {p : Segment} → Fine p → (i : ℕ) → count_of p.cells - i < n → count_of p.cells - i < m → tokens_by n p i ≡ tokens_by m p i
fuel_alike zero m fine i h k = absurd (omega arith)
fuel_alike (suc n) zero fine i h k = absurd (omega arith)
fuel_alike (suc n) (suc m) {p} fine i h k = go (ltb i (count_of p.cells)) refl (λ q fine j. fuel_alike n m {p = q} fine j)
  where
    go : (b : Bool) → ltb i (count_of p.cells) ≡ b
        → ((q : Segment) → Fine q → (j : ℕ) → count_of q.cells - j < n → count_of q.cells - j < m → tokens_by n q j ≡ tokens_by m q j)
        → tokens_by (suc n) p i ≡ tokens_by (suc m) p i
    go false e same = rw e
    go true e same =
        let u = ltb-true i (count_of p.cells) e in
        let f = fine.at i u in
        let c = inside_count fine i u in
        rw (e, same p fine (i + size_at p.cells i) (omega arith) (omega arith), same p fine (i + 1) (omega arith) (omega arith), same (inside p i) (inside_fine fine i u) 0 (omega arith) (omega arith))

-- the tokens from a record on
module _ (p : Segment) (i : ℕ) where
  pub end_tokens : count_of p.cells ≤ i → tokens_at p i ≡ []
  unfolding tokens_at
  end_tokens h = rw (le-ltb i (count_of p.cells) h)

  module _ (fine : Fine p) (h : i < count_of p.cells) where
    pub element_tokens : is_opener (class_at p.text p.cells i) ≡ false
        → tokens_at p i ≡ token (class_at p.text p.cells i) (spot_at p i) ∷ tokens_at p (i + 1)
    unfolding tokens_at
    element_tokens o =
        rw (lt-ltb i (count_of p.cells) h, o, fuel_alike (count_of p.cells) (suc (count_of p.cells)) fine (i + 1) (omega arith) (omega arith))

    pub group_tokens : is_opener (class_at p.text p.cells i) ≡ true
        → tokens_at p i
        ≡ token (class_at p.text p.cells i) (spot_at p i)
        ∷ (tokens_at (inside p i) 0 ++ (token (class_at p.text p.cells i + 1) (closer_spot p i) ∷ tokens_at p (i + size_at p.cells i)))
    unfolding tokens_at
    group_tokens o =
        let f = fine.at i h in
        let c = inside_count fine i h in
        rw (lt-ltb i (count_of p.cells) h, o, fuel_alike (count_of p.cells) (suc (count_of (inside p i).cells)) (inside_fine fine i h) 0 (omega arith) (omega arith), fuel_alike (count_of p.cells) (suc (count_of p.cells)) fine (i + size_at p.cells i) (omega arith) (omega arith))

-- what holds of the three openers holds of each class that opens a group
pub at_openers : (P : ℕ → Type 0) → P open_paren → P open_brace → P open_bracket → (class : ℕ) → T (is_opener class) → P class
at_openers P paren brace bracket class opens = go (eqb class open_paren) (eqb class open_brace) (eqb class open_bracket) refl refl refl opens
  where
    go : (a b c : Bool) → eqb class open_paren ≡ a → eqb class open_brace ≡ b → eqb class open_bracket ≡ c → T (a || (b || c)) → P class
    go true b c d e f opens = rw (eqb-true class open_paren d) paren
    go false true c d e f opens = rw (eqb-true class open_brace e) brace
    go false false true d e f opens = rw (eqb-true class open_bracket f) bracket
    go false false false d e f opens = absurd opens

-- a class that is one, and opens no group
abbrev pub is_element : ℕ → Bool
is_element class = ltb 0 class && not (is_opener class)

pub element_known : (class : ℕ) → T (is_element class) → (1 ≤ class) × (is_opener class ≡ false)
element_known class t =
    (ltb→lt 0 class (and_left (ltb 0 class) (not (is_opener class)) t), opened (is_opener class) (and_right (ltb 0 class) (not (is_opener class)) t))
  where
    opened : (b : Bool) → T (not b) → b ≡ false
    opened true t = absurd t
    opened false t = refl

pub opener_known : (class : ℕ) → T (is_opener class) → (1 ≤ class) × (is_opener class ≡ true)
opener_known class t = (at_openers (λ (k : ℕ). 1 ≤ k) (omega arith) (omega arith) (omega arith) class t, opened (is_opener class) t)
  where
    opened : (b : Bool) → T b → b ≡ true
    opened true t = refl
    opened false t = absurd t

-- past the last record there is no class
pub no_class : (text cells : List ℕ) (i : ℕ) → count_of cells ≤ i → class_at text cells i ≡ 0
unfolding class_at kind_at class_by kind_by
no_class text cells i h = rw (le-ltb i (count_of cells) h)

pub class_within : (text cells : List ℕ) (i : ℕ) → 1 ≤ class_at text cells i → i < count_of cells
class_within text cells i known = go (ltb i (count_of cells)) refl
  where
    go : (b : Bool) → ltb i (count_of cells) ≡ b → i < count_of cells
    go true e = ltb-true i (count_of cells) e
    go false e = absurd (omega (arith, no_class text cells i (ltb-false i (count_of cells) e)))

-- a record's class ends no level
unended : (b : Bool) (x y : ℕ) → T (not (is_end x)) → T (not (is_end y)) → T (not (is_end (cond b x y)))
unended true x y t s = t
unended false x y t s = s

abbrev ends_none : List Entry → Bool
ends_none [] = true
ends_none (entry x class ∷ rest) = not (is_end class) && ends_none rest

look_unended : (table : List Entry) (b : ℕ) → T (ends_none table) → T (not (is_end (look_up table b)))
look_unended [] b t = tt
look_unended (entry x class ∷ rest) b t =
    unended (eqb b x) class (look_up rest b) (and_left (not (is_end class)) (ends_none rest) t) (look_unended rest b (and_right (not (is_end class)) (ends_none rest) t))

sign_unended : (len b last : ℕ) → T (not (is_end (sign_by len b last)))
unfolding sign_by
sign_unended len b last =
    unended (eqb len 1) _ _ (unended (ltb (byte "?") b) _ _ (look_unended high_singles b tt) (look_unended low_singles b tt))
    (unended (eqb len 2) _ _ (unended (eqb last (byte "=")) _ _ (look_unended assigned b tt) (look_unended doubled b tt))
    (unended (eqb len 3) _ unsigned_shift_assign (unended (eqb last (byte "=")) _ unsigned_shift (look_unended compared b tt) tt)
    tt))

word_unended : (len b last : ℕ) → T (not (is_end (word_by len b last)))
unfolding word_by
word_unended len b last =
    unended (eqb len 8) _ _ (look_unended eight_letters b tt)
    (unended (eqb len 6) _ _ (look_unended six_letters b tt)
    (unended (eqb len 4) _ _ (unended (eqb b (byte "t")) _ _ (unended (eqb last (byte "s")) this_word true_word tt tt) (look_unended four_letters b tt))
    (unended (eqb len 2) _ _ (look_unended two_letters last tt)
    (unended (eqb len 3) _ _ (look_unended three_letters b tt)
    (unended (eqb len 5) _ _ (look_unended five_letters b tt)
    (unended (eqb len 10) instanceof_word _ tt
    (unended (eqb len 7) _ 0 (unended (eqb b (byte "d")) default_word finally_word tt tt)
    tt)))))))

kind_unended : (kind : ℕ) → T (not (is_end (kind_by kind)))
unfolding kind_by
kind_unended kind =
    unended (eqb kind name_kind) name _ tt
    (unended (eqb kind number_kind) number _ tt
    (unended (eqb kind string_kind) string _ tt
    (unended (eqb kind pattern_kind) pattern _ tt
    (unended (eqb kind paren_kind) open_paren _ tt
    (unended (eqb kind object_kind) open_brace _ tt
    (unended (eqb kind block_kind) open_brace _ tt
    (unended (eqb kind bracket_kind) open_bracket _ tt
    (unended (eqb kind answer_kind) colon 0 tt
    tt))))))))

class_unended : (kind len b last : ℕ) → T (not (is_end (class_by kind len b last)))
unfolding class_by
class_unended kind len b last =
    unended (is_spelled kind) _ _ (sign_unended len b last) (unended (eqb kind word_kind) _ _ (word_unended len b last) (kind_unended kind))

pub never_ends : (text cells : List ℕ) (i : ℕ) → T (not (is_end (class_at text cells i)))
unfolding class_at
never_ends text cells i = class_unended (kind_at cells i) (end_at cells i - place_at cells 0 i) (get_or text (place_at cells 0 i) 0) (get_or text (end_at cells i - 1) 0)

-- the same where the class of a record is known, with tokens behind the part
module _ {p : Segment} (fine : Fine p) (i class : ℕ) (is : class_at p.text p.cells i ≡ class) (u : List Token) where
  pub element_then : T (is_element class) → tokens_at p i ++ u ≡ token class (spot_at p i) ∷ (tokens_at p (i + 1) ++ u)
  element_then t =
      let k = element_known class t in
      let h = class_within p.text p.cells i (omega (arith, k.0)) in
      rw (element_tokens p i fine h (ap is_opener is ∙ k.1), is)

  pub group_then : T (is_opener class)
      → tokens_at p i ++ u
      ≡ token class (spot_at p i)
      ∷ (tokens_at (inside p i) 0 ++ (token (class + 1) (closer_spot p i) ∷ (tokens_at p (i + size_at p.cells i) ++ u)))
  group_then t =
      let k = opener_known class t in
      let h = class_within p.text p.cells i (omega (arith, k.0)) in
      rw (group_tokens p i fine h (ap is_opener is ∙ k.1), is)
      (ap (λ (z : List Token). token class (spot_at p i) ∷ z)
      (append_assoc (tokens_at (inside p i) 0) (token (class + 1) (closer_spot p i) ∷ tokens_at p (i + size_at p.cells i)) u))

pub end_then : (p : Segment) (i : ℕ) → count_of p.cells ≤ i → (u : List Token) → tokens_at p i ++ u ≡ u
end_then p i h u = rw (end_tokens p i h)
