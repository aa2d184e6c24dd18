-- The definitions of what is printed, as the code goes through them, and how long it is.
use mathlib.Core.Path.{◌≡◌, refl, ap}
use mathlib.Core.List.{List, [], ◌∷◌, ◌++◌}
use Prim.Native.Nat.{ℕ, zero, suc, ◌+◌, ◌-◌, ◌*◌, ◌^◌, ◌<◌, ◌≤◌}
use native.Mathlib.Omega.{arith}
use native.Mathlib.Nat.{mul-suc}
use lib.ListN.{length, take, drop, length-append, length-take, length-drop}
use lib.Seq.{drop-drop, take-append-le, drop-append-le}
use Rattle.text.specs.Quoted.{byte, bytes}
use Rattle.answers.specs.declared.Answer.{Answer}
use Rattle.writing.specs.Numbers.{decimal, line}
use Rattle.writing.specs.Machinery.Writing.{Adds, Written}
use Rattle.writing.proofs.WritingLaws.{from_nothing}
use Rattle.writing.proofs.NumberLaws.{line_one, line_two, decimal-length, Small, small_take, small_drop, line_length}
use Rattle.printing.specs.Printed.{lines, listed, refusal, answered, FitsTable, listing_room}

-- the lines of a table's records, from any of them on
pub lines_none : (width : ℕ) (cells : List ℕ) → lines width 0 cells ≡ []
unfolding lines
lines_none width cells = refl

lines_suc : (width n : ℕ) (cells : List ℕ) → lines width (suc n) cells ≡ line (take width cells) ++ lines width n (drop width cells)
unfolding lines
lines_suc width n cells = refl

-- and a line with those behind it, wherever it starts
pub lines_step : (cells : List ℕ) (width first n : ℕ) → 0 < n
    → lines width n (drop first cells) ≡ line (take width (drop first cells)) ++ lines width (n - 1) (drop (first + width) cells)
lines_step cells width first zero h = absurd (omega arith)
lines_step cells width first (suc n) h =
    let e : suc n - 1 ≡ n = omega arith in
    rw (lines_suc width n (drop first cells), drop-drop width first cells, e) refl

pub lines_next : (cells : List ℕ) (width i n : ℕ) → i < n
    → lines width (n - i) (drop (width * i) cells) ≡ line (take width (drop (width * i) cells)) ++ lines width (n - (i + 1)) (drop (width * (i + 1)) cells)
lines_next cells width i n h =
    let fewer : n - i - 1 ≡ n - (i + 1) = omega arith in
    let next : width * i + width ≡ width * (i + 1) = omega arith in
    rw (lines_step cells width (width * i) (n - i) (omega arith), fewer, next) refl

-- a listing and a refusal, as they are written
pub listed_is : (heading : List ℕ) (width n : ℕ) (cells : List ℕ) → listed heading width n cells ≡ heading ++ ((decimal n ++ (byte "\n" ∷ [])) ++ lines width n cells)
unfolding listed
listed_is heading width n cells = rw (line_one n) refl

pub refusal_is : (number place : ℕ) → refusal number place ≡ bytes "refused," ++ ((decimal number ++ (byte "," ∷ [])) ++ (decimal place ++ (byte "\n" ∷ [])))
unfolding refusal
refusal_is number place = rw (line_two number place) refl

-- what stands behind the records is not listed
pub lines_front : (width n : ℕ) (cells rest : List ℕ) → width * n ≤ length cells → lines width n (cells ++ rest) ≡ lines width n cells
lines_front width zero cells rest h = rw (lines_none width (cells ++ rest), lines_none width cells) refl
lines_front width (suc n) cells rest h =
    let m : width * suc n ≡ width * n + width = mul-suc width n in
    rw (lines_suc width n (cells ++ rest), lines_suc width n cells, take-append-le width cells rest (omega arith), drop-append-le width cells rest (omega arith))
    (ap (λ (l : List ℕ). line (take width cells) ++ l) (lines_front width n (drop width cells) rest (omega (arith, length-drop width cells))))

pub listed_front : (heading : List ℕ) (width n : ℕ) (cells rest : List ℕ) → width * n ≤ length cells → listed heading width n (cells ++ rest) ≡ listed heading width n cells
unfolding listed
listed_front heading width n cells rest h = rw (lines_front width n cells rest h) refl

lines_length : (width n : ℕ) (cells : List ℕ) → Small cells → width * n ≤ length cells → length (lines width n cells) ≤ 11 * (width * n)
lines_length width zero cells h g = rw (lines_none width cells) (omega arith)
lines_length width (suc n) cells h g =
    let m : width * suc n ≡ width * n + width = mul-suc width n in
    rw (lines_suc width n cells)
    (omega (
      arith,
      length-append (line (take width cells)) (lines width n (drop width cells)),
      line_length (take width cells) (small_take width cells h),
      length-take width cells,
      lines_length width n (drop width cells) (small_drop width cells h) (omega (arith, length-drop width cells)),
    ))

-- and a listing room for its table
pub listed_length : (heading : List ℕ) (width n : ℕ) (cells : List ℕ) → Small cells → width * n ≤ length cells → n < 2 ^ 64
    → length (listed heading width n cells) ≤ length heading + 21 + 11 * (width * n)
listed_length heading width n cells h g small =
    omega (
      arith,
      ap length (listed_is heading width n cells),
      length-append heading ((decimal n ++ (byte "\n" ∷ [])) ++ lines width n cells),
      length-append (decimal n ++ (byte "\n" ∷ [])) (lines width n cells),
      length-append (decimal n) (byte "\n" ∷ []),
      decimal-length 19 n (omega arith),
      lines_length width n cells h g,
    )

pub refusal_length : (number place : ℕ) → number < 2 ^ 32 → place < 2 ^ 64 → length (refusal number place) ≤ 40
refusal_length number place h g =
    omega (
      arith,
      ap length (refusal_is number place),
      length-append (decimal number ++ (byte "," ∷ [])) (decimal place ++ (byte "\n" ∷ [])),
      length-append (decimal number) (byte "," ∷ []),
      length-append (decimal place) (byte "\n" ∷ []),
      decimal-length 9 number (omega arith),
      decimal-length 19 place (omega arith),
    )

-- what an answer's case has written is what the answer says
abbrev pub Said : List ℕ → ℕ → List ℕ → Answer → List ℕ → List ℕ → ℕ → Type 0
Said heading width cells answer output now at =
    Written output (answered heading width cells answer) now at × (length heading ≤ 19 → length (answered heading width cells answer) ≤ listing_room (length cells))

module _ (heading : List ℕ) (width : ℕ) (cells : List ℕ) (answer : Answer) (output now : List ℕ) (at : ℕ) where
  pub accepted_said : (n : ℕ) → answer ≡ Answer.Accepted n → FitsTable width cells answer
      → Adds output 0 (listed heading width n cells) now at × (length (listed heading width n cells) ≤ length heading + 21 + 11 * (width * n)) → Said heading width cells answer output now at
  accepted_said n e h p =
      let fits : width * n ≤ length cells = rw e at h in
      rw e (from_nothing (listed heading width n cells) output now at p.0, λ l. omega (arith, p.1))

  pub refused_said : (number place : ℕ) → answer ≡ Answer.Refused number place
      → Adds output 0 (refusal number place) now at × (length (refusal number place) ≤ 40) → Said heading width cells answer output now at
  refused_said number place e p = rw e (from_nothing (refusal number place) output now at p.0, λ l. omega (arith, p.1))
