-- Laws of the table of codes, and what a code tells of its byte.
use mathlib.Core.Path.{◌≡◌, refl, sym, ◌∙◌, fun_ext}
use mathlib.Core.Bool.{Bool, true, false, cond, and-false}
use mathlib.Core.List.{List}
use Prim.Native.Nat.{ℕ, zero, suc, ◌+◌, ◌<◌, ◌≤◌}
use native.Mathlib.Omega.{arith}
use borrow.Author.Tests.{eq-eqb, ne_eqb, lt-ltb, le-ltb, lt-leb, ltb-true, ltb-false}
use lib.Dec.{T, eqb, ltb, leb}
use lib.ListN.{length, get_or, drop}
use Rattle.text.specs.Quoted.{byte}
use Rattle.text.specs.Bytes.{between, blank, line_end, illegal, letter, digit, name_byte}
use Rattle.text.specs.Machinery.Codes.{turning, code_of, code_over, codes_from, byte_codes}
use Rattle.text.specs.Runs.{run}
use Rattle.text.proofs.Range.{every, alike, alike→eq, agree}
use Rattle.text.proofs.Laws.{run_stop, run_more, run_passed, run_ends}

from_at : (b n k : ℕ) → k < n → get_or (codes_from b n) k 0 ≡ code_of (b + k)
from_at b zero k h = absurd (omega arith)
from_at b (suc n) zero h =
    let e : b + 0 ≡ b = omega arith in
    rw e
from_at b (suc n) (suc k) h =
    let e : b + suc k ≡ suc b + k = omega arith in
    rw e (from_at (suc b) n k (omega arith))

-- the table has the code of each byte
pub codes_at : (table : List ℕ) → table ≡ byte_codes → (b : ℕ) → b < 256 → get_or table b 0 ≡ code_of b
unfolding byte_codes
codes_at table e b h =
    let z : 0 + b ≡ b = omega arith in
    rw e (rw z at (from_at 0 256 b h))

-- a code by whether its byte ends a line, whether it is illegal, and the code of a byte that does neither
abbrev coded : Bool → Bool → ℕ → ℕ
coded ends stray rest = cond ends 1 (cond stray 0 rest)

rest_least : (turns w l d : Bool) → 2 ≤ cond turns 2 (cond w 4 (cond l 5 (cond d 6 3)))
rest_least true w l d = omega arith
rest_least false true l d = omega arith
rest_least false false true d = omega arith
rest_least false false false true = omega arith
rest_least false false false false = omega arith

-- what a code tells of any number
module _ (b : ℕ) where
  pub code_line_end : code_of b ≡ 1 → line_end b ≡ true
  unfolding code_of
  code_line_end e = go (line_end b) (illegal b) _ (rest_least (turning b) (blank b) (letter b) (digit b)) e
    where
      go : (x y : Bool) (rest : ℕ) → 2 ≤ rest → coded x y rest ≡ 1 → x ≡ true
      go true y rest h z = refl
      go false true rest h z = absurd (let o : ◌≡◌ {A = ℕ} 0 1 = z in omega arith)
      go false false rest h z = absurd (let o : rest ≡ 1 = z in omega arith)

  pub code_illegal : code_of b ≡ 0 → (line_end b ≡ false) × (illegal b ≡ true)
  unfolding code_of
  code_illegal e = go (line_end b) (illegal b) _ (rest_least (turning b) (blank b) (letter b) (digit b)) e
    where
      go : (x y : Bool) (rest : ℕ) → 2 ≤ rest → coded x y rest ≡ 0 → (x ≡ false) × (y ≡ true)
      go true y rest h z = absurd (let o : ◌≡◌ {A = ℕ} 1 0 = z in omega arith)
      go false true rest h z = (refl, refl)
      go false false rest h z = absurd (let o : rest ≡ 0 = z in omega arith)

  pub code_passed : 1 < code_of b → (line_end b ≡ false) × (illegal b ≡ false)
  unfolding code_of
  code_passed h = go (line_end b) (illegal b) _ h
    where
      go : (x y : Bool) (rest : ℕ) → 1 < coded x y rest → (x ≡ false) × (y ≡ false)
      go true y rest z = absurd (omega arith)
      go false true rest z = absurd (omega arith)
      go false false rest z = (refl, refl)

  pub code_no_line_end : (code_of b ≡ 1 → ⊥) → line_end b ≡ false
  unfolding code_of
  code_no_line_end n = go (line_end b) (illegal b) _ n
    where
      go : (x y : Bool) (rest : ℕ) → (coded x y rest ≡ 1 → ⊥) → x ≡ false
      go true y rest z = absurd (z refl)
      go false y rest z = refl

-- a number past the bytes is in no class
module _ (b : ℕ) (h : 256 ≤ b) where
  past_between : (lo hi : ℕ) → hi < 256 → between lo hi b ≡ false
  past_between lo hi k = rw (lt-leb b hi (omega arith)) (and-false (leb lo b))

  past_blank : blank b ≡ false
  unfolding blank
  past_blank = rw (ne_eqb b 0x09 (omega arith), ne_eqb b 0x0B (omega arith), ne_eqb b 0x0C (omega arith), ne_eqb b 0x20 (omega arith))

  past_line_end : line_end b ≡ false
  unfolding line_end
  past_line_end = rw (ne_eqb b 0x0A (omega arith), ne_eqb b 0x0D (omega arith))

  past_letter : letter b ≡ false
  unfolding letter
  past_letter =
      rw
      (past_between (byte "a") (byte "z") (omega arith), past_between (byte "A") (byte "Z") (omega arith), ne_eqb b (byte "$") (omega arith), ne_eqb b (byte "_") (omega arith))

  past_digit : digit b ≡ false
  unfolding digit
  past_digit = past_between (byte "0") (byte "9") (omega arith)

  past_code : code_of b ≡ 0
  unfolding code_of illegal
  past_code = rw (past_line_end, past_blank, past_between 0x21 0x7E (omega arith))

-- a class of bytes is told by a test of the code, if it is so of each byte
by_code : (class : ℕ → Bool) (test : ℕ → Bool) → T (every (λ k. alike (class k) (test (code_of k))) 0 256) → T (alike false (test 0))
    → ((b : ℕ) → 256 ≤ b → class b ≡ false) → (b : ℕ) → class b ≡ test (code_of b)
by_code class test each none past b = go (ltb b 256) refl
  where
    go : (near : Bool) → ltb b 256 ≡ near → class b ≡ test (code_of b)
    go true e = agree class (λ k. test (code_of k)) 0 255 b each (omega arith) (let l = ltb-true b 256 e in omega arith)
    go false e =
        let l = ltb-false b 256 e in
        rw (past b l, past_code b l) (alike→eq false (test 0) none)

by_name : (b : ℕ) → name_byte b ≡ ltb 4 (code_of b)
unfolding name_byte code_of turning illegal line_end blank letter digit
by_name = by_code name_byte (ltb 4) tt tt (λ b h. rw (past_letter b h, past_digit b h))

pub by_letter : (b : ℕ) → letter b ≡ eqb (code_of b) 5
unfolding code_of turning illegal line_end blank letter digit
by_letter = by_code letter (λ k. eqb k 5) tt tt past_letter

pub by_digit : (b : ℕ) → digit b ≡ eqb (code_of b) 6
unfolding code_of turning illegal line_end blank letter digit
by_digit = by_code digit (λ k. eqb k 6) tt tt past_digit

pub by_blank : (b : ℕ) → blank b ≡ eqb (code_of b) 4
unfolding code_of turning illegal line_end blank letter digit
by_blank = by_code blank (λ k. eqb k 4) tt tt past_blank

-- what the code tells of name bytes
module _ (b : ℕ) where
  pub code_name : 4 < code_of b → name_byte b ≡ true
  code_name h = by_name b ∙ lt-ltb _ _ h

  pub code_no_name : code_of b ≤ 4 → name_byte b ≡ false
  code_no_name h = by_name b ∙ le-ltb _ _ h

-- what the code tells of a class that has a code of its own
module _ {class : ℕ → Bool} {k : ℕ} (by : (b : ℕ) → class b ≡ eqb (code_of b) k) (b : ℕ) where
  pub coded_in : code_of b ≡ k → class b ≡ true
  coded_in e = by b ∙ eq-eqb (code_of b) k e

  pub coded_out : (code_of b ≡ k → ⊥) → class b ≡ false
  coded_out n = by b ∙ ne_eqb (code_of b) k n

-- a byte whose code is over 2 is no turning byte
pub code_apart : (b x : ℕ) → 2 < code_of b → turning x ≡ true → b ≡ x → ⊥
unfolding code_of
code_apart b x h t e = go (line_end x) (illegal x) (rw e at h)
  where
    go : (m n : Bool) → 2 < coded m n (cond (turning x) 2 (cond (blank x) 4 (cond (letter x) 5 (cond (digit x) 6 3)))) → ⊥
    go true n z = omega arith
    go false true z = omega arith
    go false false z = let k : 2 < 2 = rw t at z in omega arith

-- name bytes are those whose codes are over that of a blank, and digits those whose codes are over that of a letter
pub over_blank : code_over 4 ≡ name_byte
unfolding code_over
over_blank = fun_ext (λ b. sym (by_name b))

pub over_letter : code_over 5 ≡ digit
unfolding code_over code_of turning illegal line_end blank letter digit
over_letter = fun_ext (λ b. sym (by_code digit (ltb 5) tt tt past_digit b))

-- runs of bytes whose codes are over a limit, as the laws of runs say it
module _ (limit : ℕ) (s : List ℕ) where
  module _ (i : ℕ) (h : i < length s) where
    pub over_stop : code_of (get_or s i 0) ≤ limit → i + run (code_over limit) (drop i s) ≡ i
    unfolding code_over
    over_stop k = run_stop (code_over limit) s i h (le-ltb limit (code_of (get_or s i 0)) k)

    pub over_more : (j : ℕ) → j ≡ i + 1 → limit < code_of (get_or s i 0) → i + run (code_over limit) (drop i s) ≡ j + run (code_over limit) (drop j s)
    unfolding code_over
    over_more j e k = rw e (run_more (code_over limit) s i h (lt-ltb limit (code_of (get_or s i 0)) k))

  pub over_passed : {A : Type 0} (f : ℕ → A) → ((i : ℕ) → i < length s → limit < code_of (get_or s i 0) → f i ≡ f (i + 1))
      → (i end : ℕ) → end ≡ i + run (code_over limit) (drop i s) → f i ≡ f end
  unfolding code_over
  over_passed f more = run_passed (code_over limit) s f (λ i h t. more i h (ltb-true limit (code_of (get_or s i 0)) t))

  pub over_ends : (i end : ℕ) → end ≡ i + run (code_over limit) (drop i s) → end < length s → code_of (get_or s end 0) ≤ limit
  unfolding code_over
  over_ends i end e h = ltb-false limit (code_of (get_or s end 0)) (run_ends (code_over limit) s i end e h)
