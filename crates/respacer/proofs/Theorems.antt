-- The theorems of respacing.
use mathlib.Core.Path.{◌≡◌, refl, sym, ap, ◌∙◌}
use mathlib.Core.List.{List, [], ◌∷◌}
use mathlib.Core.Bool.{Bool, true, false, cond}
use Prim.Native.Nat.{ℕ, ◌+◌, ◌*◌, ◌≤◌, ◌<◌}
use native.Mathlib.Omega.{arith}
use borrow.Author.Tests.{leb-true}
use lib.Dec.{leb}
use lib.ListN.{length, drop, length-append}
use Rattle.answers.specs.Answers.{value_of}
use Rattle.answers.specs.declared.Answer.{Answer}
use Rattle.rule.specs.Trees.{Trees, count, deepest}
use Rattle.prefix.specs.Reading.{Reading, accepted, refused, reading, unlimited_reading, deep, trees_full}
use Rattle.tables.specs.Records.{most_trees}
use Rattle.reading.specs.Read.{long_text, most_bytes, most_groups}
use Rattle.reading.proofs.Formed.{reading_within_text}
use Rattle.reading.proofs.Numbered.{first_numbered}
use Rattle.reading.proofs.LengthFirst.{first_fits, first_full, first_deep}
use Rattle.spacing.specs.Respaced.{line_feed, add_trees, respaced}
use Rattle.respacer.specs.Respace.{Short, respace_limits, whole_reading, output_full, Respacing, written, denied, fitted, respacing_for, answer_of, output_after, Respaces}
use Rattle.respacer.proofs.Lengths.{reading_short}

abbrev Bounded : List ℕ → Reading → Type 0
Bounded text (accepted trees) = Short text trees
Bounded text (refused number place) = place ≤ most_bytes

bounded : (text : List ℕ) → Bounded text (whole_reading text)
unfolding whole_reading
bounded text = go (leb (length text) most_bytes) refl
  where
    inner : (r : Reading) → reading text respace_limits ≡ r → length text ≤ most_bytes → Bounded text r
    inner (accepted trees) e short =
        let s : length (add_trees text [] trees) ≤ 2 * length text = rw e at (reading_short text respace_limits) in
        record { text_short = short; respaced_short = omega (arith, length-append (add_trees text [] trees) (line_feed ∷ [])) }
    inner (refused number place) e short =
        let w : place ≤ length text = rw e at (reading_within_text text respace_limits) in
        omega arith

    go : (b : Bool) → leb (length text) most_bytes ≡ b → Bounded text (cond b (reading text respace_limits) (refused long_text most_bytes))
    go true short = inner (reading text respace_limits) refl (leb-true (length text) most_bytes short)
    go false short = omega arith

-- A respaced text is short.
pub respaced_length : (text : List ℕ) (trees : Trees) → whole_reading text ≡ accepted trees → Short text trees
respaced_length text trees e = rw e at (bounded text)

-- What `respace` says that it wrote is within the output, so that `&output[..count]` may be taken of it.
pub written_within : (text before after : List ℕ) (answer : Answer) → Respaces text before after answer → (n : ℕ) → answer ≡ Answer.Accepted n → n ≤ length after
written_within text before after answer r n e = go (respacing_for text (length before)) (sym e ∙ r.0) r.1
  where
    go : (q : Respacing) → Answer.Accepted n ≡ answer_of q → after ≡ output_after q before → n ≤ length after
    go (written bytes) a t =
        let m : n ≡ length bytes = cc in
        omega (arith, ap length t, length-append bytes (drop (length bytes) before))
    go (denied number place) a t = absurd (let z : ◌≡◌ {A = ℕ} 0 1 = cc in omega arith)

-- The trees of a text of at most 262,144 bytes are read if they fit,
pub respace_fits : (text : List ℕ) (trees : Trees) → unlimited_reading text ≡ accepted trees
    → length text ≤ most_bytes → count trees ≤ most_trees → deepest trees ≤ most_groups → whole_reading text ≡ accepted trees
unfolding whole_reading
respace_fits text = first_fits text respace_limits

-- and "12 there means over 16,384",
pub respace_full : (text : List ℕ) (trees : Trees) → unlimited_reading text ≡ accepted trees
    → (place : ℕ) → whole_reading text ≡ refused trees_full place → most_trees < count trees
unfolding whole_reading
respace_full text = first_full text respace_limits

-- as 9 means more than 100 groups open at once.
pub respace_deep : (text : List ℕ) (trees : Trees) → unlimited_reading text ≡ accepted trees
    → (place : ℕ) → whole_reading text ≡ refused deep place → most_groups < deepest trees
unfolding whole_reading
respace_deep text = first_deep text respace_limits

-- What refuses the reading has a number from 1 to 12, so that 15 is given for the output alone.
pub respace_number : (text : List ℕ) (number place : ℕ) → whole_reading text ≡ refused number place → (1 ≤ number) × (number ≤ 12)
unfolding whole_reading
respace_number text number place e =
    let n = first_numbered text respace_limits number place e in
    (n.0, n.1)

-- Document 02, U4: "8 no longer occurs".
pub respace_no_barred_sign : (text : List ℕ) (room place : ℕ) → respacing_for text room ≡ denied 8 place → ⊥
unfolding whole_reading
respace_no_barred_sign text room place = go (whole_reading text) refl
  where
    fit : (output : List ℕ) (b : Bool) → cond b (written output) (denied output_full (length text)) ≡ denied 8 place → ⊥
    fit output true e = let z : ◌≡◌ {A = ℕ} 0 1 = cc in omega arith
    fit output false e = let z : output_full ≡ 8 = cc in omega arith

    go : (r : Reading) → whole_reading text ≡ r → fitted text room r ≡ denied 8 place → ⊥
    go (accepted trees) q e = fit (respaced text trees) (leb (length (respaced text trees)) room) e
    go (refused number at) q e = (first_numbered text respace_limits number at q).2 (cc)

-- The count of bytes, or the place of a refusal, is small.
pub value_bounded : (text : List ℕ) (room : ℕ) → value_of (answer_of (respacing_for text room)) ≤ 2 * most_bytes + 1
value_bounded text room = go (whole_reading text) (bounded text)
  where
    fit : (trees : Trees) → Short text trees → (b : Bool) → value_of (answer_of (cond b (written (respaced text trees)) (denied output_full (length text)))) ≤ 2 * most_bytes + 1
    fit trees s true = omega (arith, s.text_short, s.respaced_short)
    fit trees s false = omega (arith, s.text_short)

    go : (r : Reading) → Bounded text r → value_of (answer_of (fitted text room r)) ≤ 2 * most_bytes + 1
    go (accepted trees) s = fit trees s (leb (length (respaced text trees)) room)
    go (refused number place) s = omega arith
