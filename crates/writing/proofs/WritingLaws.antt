-- Writing to an output that may be too short, step by step.
use mathlib.Core.Path.{◌≡◌, refl, ap, ◌∙◌}
use mathlib.Core.List.{List, [], ◌∷◌, ◌++◌, append_assoc, append-nil}
use Prim.Native.Nat.{ℕ, suc, ◌+◌, ◌<◌, ◌≤◌}
use native.Mathlib.Omega.{arith}
use native.Mathlib.Numerals.{add-one}
use lib.ListN.{length, get_or, take, drop, set, length-append, length-take, length-drop}
use lib.Seq.{take_all, take-append-le, drop-cons, set_at}
use Rattle.writing.specs.Machinery.Writing.{Written, Adds}

-- the output keeps its length
written_length : (before said now : List ℕ) (at : ℕ) → Written before said now at → length now ≡ length before
written_length before said now at w =
    rw (w.now_is, length-append (take at said) (drop at before), length-take at said, length-drop at before) (omega (arith, w.at_is))

-- a byte more where there is room
pub byte_fits : (now : List ℕ) (at b : ℕ) → at < length now → Adds now at (b ∷ []) (set now at b) (at + 1)
byte_fits now at b h before said w =
    let l : length now ≡ length before = written_length before said now at w in
    let e : length said ≡ at = omega (arith, w.at_is) in
    let n : length (said ++ (b ∷ [])) ≡ at + 1 = omega (arith, length-append said (b ∷ [])) in
    record {
      at_is = rw n (omega arith);
      now_is =
          rw (w.now_is, take_all at said (omega arith), drop-cons before at 0 (omega arith), set_at said (get_or before at 0) (drop (suc at) before) b at e)
          (rw (take_all (at + 1) (said ++ (b ∷ [])) (omega arith), append_assoc said (b ∷ []) (drop (at + 1) before), add-one at) refl);
    }

-- and where there is none
pub byte_full : (now : List ℕ) (at b : ℕ) → length now ≤ at → Adds now at (b ∷ []) now at
byte_full now at b h before said w =
    let l : length now ≡ length before = written_length before said now at w in
    record {
      at_is = rw (length-append said (b ∷ [])) (omega (arith, w.at_is));
      now_is = rw (take-append-le at said (b ∷ []) (omega (arith, w.at_is))) w.now_is;
    }

-- nothing, and one thing after the other
pub adds_none : (now : List ℕ) (at : ℕ) → Adds now at [] now at
adds_none now at before said w = rw (append-nil said) w

pub adds_both : (x y : List ℕ) {a b c : List ℕ} {i j k : ℕ} → Adds a i x b j → Adds b j y c k → Adds a i (x ++ y) c k
adds_both x y p q before said w = rw (← append_assoc said x y) (q before (said ++ x) (p before said w))

-- what a loop holds: whoever adds the rest has added the whole
abbrev pub Left : List ℕ → List ℕ → List ℕ → ℕ → List ℕ → ℕ → Type 0
Left whole rest from start now at = (after : List ℕ) (next : ℕ) → Adds now at rest after next → Adds from start whole after next

pub left_less : (whole x rest from : List ℕ) (start : ℕ) {now after : List ℕ} {at next : ℕ} → Left whole (x ++ rest) from start now at → Adds now at x after next
    → Left whole rest from start after next
left_less whole x rest from start l p end last q = l end last (adds_both x rest p q)

pub left_none : (whole from : List ℕ) (start : ℕ) (now : List ℕ) (at : ℕ) → Left whole [] from start now at → Adds from start whole now at
left_none whole from start now at l = l now at (adds_none now at)

-- a writer that was made of an output and used leaves there what it has
pub of_writer : (said output : List ℕ) {was now after : List ℕ} {place start at next : ℕ} → was ≡ output → start ≡ place → after ≡ now → next ≡ at
    → Adds was start said now at → Adds output place said after next
of_writer said output w z n a p = rw (← w, ← z, n, a) p

-- where nothing was said before
pub from_nothing : (said output now : List ℕ) (at : ℕ) → Adds output 0 said now at → Written output said now at
from_nothing said output now at p = p output [] (record { at_is = omega arith; now_is = refl })

-- where all of it fits
pub all_written : (said output now : List ℕ) (at : ℕ) → Written output said now at → length said ≤ length output
    → (at ≡ length said) × (now ≡ said ++ drop at output)
all_written said output now at w h =
    let e : at ≡ length said = omega (arith, w.at_is) in
    (e, w.now_is ∙ ap (λ (l : List ℕ). l ++ drop at output) (take_all at said (omega arith)))
