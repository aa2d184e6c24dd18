-- Each part is marked by a token that may mark it, and holds what its kind asks; so a `,` marks a part with both operands, or none, and `:` and `.` mark none.
use mathlib.Core.Path.{◌≡◌, refl, sym, ap, subst}
use mathlib.Core.Logic.{◌⊎◌, inl, inr}
use mathlib.Core.Bool.{Bool, true, false, not, cond, ◌&&◌}
use mathlib.Core.List.Memᴰ
use mathlib.Core.List.{List, [], ◌∷◌, ◌++◌, Memᴰ}
use Prim.Native.Nat.{ℕ, ◌+◌, ◌≤◌}
use native.Mathlib.Omega.{arith}
use lib.Dec.{T, T_not, eqb, leb, ltb, eqb→eq, eqb_refl, leb→le, ltb→lt}
use Rattle.text.proofs.Range.{and_left, and_right}
use Rattle.machine.specs.Tokens.{Token, token, Spot, comma}
use Rattle.machine.specs.Operators.{is_among}
use Rattle.machine.specs.Syntax.{Syntax, snoc}
use Rattle.grammar.specs.Grammar.{Program}
use Rattle.grammar.proofs.TableLaws.{at_class}
use Rattle.recorded.specs.Parts.{Part, part, parts_of, Marker, marker, markers, last_kind, classes_in, marking, MarkedByToken, InOrder}
use Rattle.recorded.specs.Recorded.{operand_kinds, Operands, unrecorded_classes, Unmarked, Joins, joins, separates}
use Rattle.recorded.proofs.Counts.{is_closing}
use Rattle.recorded.proofs.Counting.{Counting, counting_none, counting_closer, counting_mark}
use Rattle.recorded.proofs.Ranges.{Shape, plain, bare, initialised, iterated, ordered}
use Rattle.recorded.proofs.OwnMarks.{marked}
use Rattle.recorded.proofs.Unmarked.{Fitting, fitting, part_fits}

-- what a part's shape says of its operands: a variable's and that of a `for` with an `in` have none of their kinds
shape_holds : {all : List Token} {kind mark : ℕ} {left right : Syntax} → Shape all kind mark left right → T (is_among operand_kinds kind)
    → Operands kind mark (snoc left right)
shape_holds (plain other holds) h = holds h
shape_holds (bare among class next) h = absurd h
shape_holds (initialised among own) h = absurd h
shape_holds (iterated among own) h = absurd h

-- no two tokens that are no closers have the same mark
module _ {all : List Token} {total : ℕ} where
  mark_above : {low class : ℕ} {spot : Spot} {here : List Token} → Counting all total low here → Memᴰ (token class spot) here → T (not (is_closing class))
      → low ≤ spot.mark
  mark_above counting_none member h = absurd (Memᴰ.not-nil member)
  mark_above {low} {class} {spot} (counting_closer {class = c} {spot = s} {rest = rest} closing counting) member h =
      go (λ later. mark_above counting later h) (Memᴰ.cases_cons member)
    where
      go : (Memᴰ (token class spot) rest → low ≤ spot.mark) → (token class spot ≡ token c s) ⊎ Memᴰ (token class spot) rest → low ≤ spot.mark
      go more (inl same) = let own : class ≡ c = cc in absurd (T_not (is_closing class) h (rw own closing))
      go more (inr later) = more later
  mark_above {low} {class} {spot} (counting_mark {class = c} {spot = s} {rest = rest} opens among own counting) member h =
      go (λ later. mark_above counting later h) (Memᴰ.cases_cons member)
    where
      go : (Memᴰ (token class spot) rest → low + 1 ≤ spot.mark) → (token class spot ≡ token c s) ⊎ Memᴰ (token class spot) rest → low ≤ spot.mark
      go more (inl same) = let here : spot.mark ≡ s.mark = cc in omega (arith, here, own)
      go more (inr later) = omega (arith, more later)

  same_class : {low class c : ℕ} {spot s : Spot} {here : List Token} → Counting all total low here → Memᴰ (token class spot) here
      → T (not (is_closing class)) → Memᴰ (token c s) here → T (not (is_closing c)) → spot.mark ≡ s.mark → class ≡ c
  same_class counting_none first h second k same = absurd (Memᴰ.not-nil first)
  same_class {class = class} {c} {spot} {s} (counting_closer {class = d} {spot = t} {rest = rest} closing counting) first h second k same =
      go (λ e f. same_class counting e h f k same) (Memᴰ.cases_cons first) (Memᴰ.cases_cons second)
    where
      go : (Memᴰ (token class spot) rest → Memᴰ (token c s) rest → class ≡ c)
          → (token class spot ≡ token d t) ⊎ Memᴰ (token class spot) rest → (token c s ≡ token d t) ⊎ Memᴰ (token c s) rest → class ≡ c
      go more (inl e) f = let own : class ≡ d = cc in absurd (T_not (is_closing class) h (rw own closing))
      go more (inr e) (inl f) = let own : c ≡ d = cc in absurd (T_not (is_closing c) k (rw own closing))
      go more (inr e) (inr f) = more e f
  same_class {class = class} {c} {spot} {s} (counting_mark {class = d} {spot = t} {rest = rest} opens among own counting) first h second k same =
      go (λ e f. same_class counting e h f k same) (Memᴰ.cases_cons first) (Memᴰ.cases_cons second)
    where
      go : (Memᴰ (token class spot) rest → Memᴰ (token c s) rest → class ≡ c)
          → (token class spot ≡ token d t) ⊎ Memᴰ (token class spot) rest → (token c s ≡ token d t) ⊎ Memᴰ (token c s) rest → class ≡ c
      go more (inl e) (inl f) = cc
      go more (inl e) (inr f) = let here : spot.mark ≡ t.mark = cc in absurd (omega (arith, mark_above counting f k, here, own, same))
      go more (inr e) (inl f) = let here : s.mark ≡ t.mark = cc in absurd (omega (arith, mark_above counting e h, here, own, same))
      go more (inr e) (inr f) = more e f

-- a class that no row of the table has marks parts of its own number alone, up to the last
abbrev none_has : ℕ → List Marker → Bool
none_has class [] = true
none_has class (marker kind classes ∷ rest) = not (is_among classes class) && none_has class rest

own_kind : (class : ℕ) (rows : List Marker) (kind : ℕ) → T (none_has class rows) → T (is_among (classes_in rows kind) class) → (class ≡ kind) × (kind ≤ last_kind)
own_kind class [] kind none h = go (leb kind last_kind) (λ small. leb→le kind last_kind small) h
  where
    go : (b : Bool) → (T b → kind ≤ last_kind) → T (is_among (cond b (kind ∷ []) []) class) → (class ≡ kind) × (kind ≤ last_kind)
    go true small h = (is (eqb class kind) (λ e. eqb→eq class kind e) h, small tt)
      where
        is : (b : Bool) → (T b → class ≡ kind) → T (cond b true false) → class ≡ kind
        is true same h = same tt
        is false same h = absurd h
    go false small h = absurd h
own_kind class (marker k classes ∷ rest) kind none h =
    go (eqb kind k) (λ here. absurd (T_not (is_among classes class) (and_left (not (is_among classes class)) (none_has class rest) none) here))
    (λ later. own_kind class rest kind (and_right (not (is_among classes class)) (none_has class rest) none) later) h
  where
    go : (b : Bool) → (T (is_among classes class) → (class ≡ kind) × (kind ≤ last_kind)) → (T (is_among (classes_in rest kind) class) → (class ≡ kind) × (kind ≤ last_kind))
        → T (is_among (cond b classes (classes_in rest kind)) class) → (class ≡ kind) × (kind ≤ last_kind)
    go true here later h = here h
    go false here later h = later h

-- a part has a mark, or none does
data Sought (mark : ℕ) (parts : List Part) : Type 0 where
  found : {kind : ℕ} {inside : Syntax} → Memᴰ (part kind mark inside) parts → Sought mark parts
  missing : Unmarked mark parts → Sought mark parts

sought : (mark : ℕ) (parts : List Part) → Sought mark parts
sought mark [] = missing (λ kind inside member. Memᴰ.not-nil member)
sought mark (part k m i ∷ rest) = go (eqb m mark) (λ e. e) (λ e. e) (sought mark rest)
  where
    go : (b : Bool) → (T b → T (eqb m mark)) → (T (not b) → T (not (eqb m mark))) → Sought mark rest → Sought mark (part k m i ∷ rest)
    go true same differs later = found {kind = k} {inside = i} (Memᴰ.head {x = part k m i} (ap (λ x. part k x i) (sym (eqb→eq m mark (same tt)))))
    go false same differs (found member) = found (Memᴰ.tail member)
    go false same differs (missing none) = missing λ kind inside member. at (Memᴰ.cases_cons member) (none kind inside)
      where
        at : {kind : ℕ} {inside : Syntax} → (part kind mark inside ≡ part k m i) ⊎ Memᴰ (part kind mark inside) rest
            → (Memᴰ (part kind mark inside) rest → ⊥) → ⊥
        at (inl e) none = let own : m ≡ mark = cc in T_not (eqb m mark) (differs tt) (rw own (eqb_refl mark))
        at (inr member) none = none member

module _ {total low : ℕ} {all : List Token} {value : Syntax} (counting : Counting all total low all) (program : Program all value) where
  fits_at : {p : Part} → Memᴰ p (parts_of value) → Fitting all p
  fits_at is = part_fits (marked program tt counting).marks is

  pub part_holds : {kind mark : ℕ} {inside : Syntax} → Memᴰ (part kind mark inside) (parts_of value) → T (is_among operand_kinds kind) → Operands kind mark inside
  part_holds {kind} {mark} is some = go (fits_at is)
    where
      go : {inside : Syntax} → Fitting all (part kind mark inside) → Operands kind mark inside
      go (fitting fits) = shape_holds fits.shape some

  pub part_marked_by : {kind mark : ℕ} {inside : Syntax} → Memᴰ (part kind mark inside) (parts_of value) → MarkedByToken all kind mark
  part_marked_by {kind} {mark} is = go (fits_at is)
    where
      go : {inside : Syntax} → Fitting all (part kind mark inside) → MarkedByToken all kind mark
      go (fitting fits) = record { class = fits.class; spot = fits.spot; among = fits.among; own = fits.own; marks = fits.marks }

  pub program_order : InOrder value
  program_order = ordered (marked program tt counting).marks

  -- of a token of a class that no row of the table has: a part that it marks is of its class, and there is one or none
  module _ (before : List Token) (class : ℕ) (spot : Spot) (after : List Token) (split : all ≡ before ++ (token class spot ∷ after)) (opens : T (not (is_closing class)))
      (none : T (none_has class markers)) where
    here : Memᴰ (token class spot) all
    here = subst (λ (ts : List Token). Memᴰ (token class spot) ts) (sym split) (Memᴰ.append_right before (Memᴰ.head refl))

    part_kind : {kind : ℕ} {inside : Syntax} → Fitting all (part kind spot.mark inside) → (class ≡ kind) × (kind ≤ last_kind)
    part_kind {kind} (fitting fits) =
        own_kind class markers kind none
        (subst (λ (c : ℕ). T (is_among (marking kind) c)) (same_class counting fits.among fits.opens here opens fits.own) fits.marks)

  pub comma_joins : (before : List Token) (spot : Spot) (after : List Token) → all ≡ before ++ (token comma spot ∷ after) → Joins spot.mark (parts_of value)
  comma_joins before spot after split = go (sought spot.mark (parts_of value))
    where
      go : Sought spot.mark (parts_of value) → Joins spot.mark (parts_of value)
      go (missing none) = separates none
      go (found {kind = kind} {inside = inside} is) =
          let same : kind ≡ comma = sym (part_kind before comma spot after split tt tt (fits_at is)).0 in
          joins
          (record {
            kind = kind;
            inside = inside;
            among = is;
            marks = rw same tt;
            holds = part_holds is (rw same tt);
          })

  -- above the last kind it marks none
  pub never_marks : (class : ℕ) (before : List Token) (spot : Spot) (after : List Token) → all ≡ before ++ (token class spot ∷ after)
      → T (is_among unrecorded_classes class) → Unmarked spot.mark (parts_of value)
  never_marks class before spot after split h kind inside is =
      let own =
      part_kind before class spot after split (at_class (λ x. not (is_closing x)) unrecorded_classes class h tt) (at_class (λ x. none_has x markers) unrecorded_classes class h tt)
      (fits_at is) in
      let above = ltb→lt last_kind class (at_class (λ x. ltb last_kind x) unrecorded_classes class h tt) in
      omega (arith, own.0, own.1, above)
