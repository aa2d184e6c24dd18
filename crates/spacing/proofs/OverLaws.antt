-- What is written lies over the old output: a byte more, and the bytes of an element one by one.
use mathlib.Core.Path.{◌≡◌, refl, sym, ap, ◌∙◌}
use mathlib.Core.List.{List, [], ◌∷◌, ◌++◌, append_assoc}
use mathlib.Core.Bool.{true, false}
use Prim.Native.Nat.{ℕ, ◌+◌, ◌-◌, ◌<◌, ◌≤◌}
use native.Mathlib.Omega.{arith}
use native.Mathlib.Numerals.{add-one}
use lib.ListN.{length, get_or, take, drop, set, length-append, length-take, length-drop, drop_of_length-le}
use lib.Seq.{take-nil, take_all, take-append-le, drop-cons, set-append_seam, take-suc, length-take-le}
use Rattle.elements.specs.Lexemes.{bytes_of}
use Rattle.spacing.specs.Respaced.{add_element, add_closer, line_feed, space}
use Rattle.spacing.specs.Machinery.Over.{over}

pub over_nothing : (old : List ℕ) → old ≡ over [] old
unfolding over
over_nothing old = rw (take-nil {A = ℕ} (length old))

module _ (written old : List ℕ) (b : ℕ) where
  longer : length (written ++ (b ∷ [])) ≡ length written + 1
  longer = length-append written (b ∷ [])

  -- what fits
  pub over_fits : length written ≤ length old → over written old ≡ written ++ drop (length written) old
  unfolding over
  over_fits h = rw (take_all (length old) written h)

  pub over_byte : length written < length old → set (over written old) (length written) b ≡ over (written ++ (b ∷ [])) old
  unfolding over
  over_byte h =
      let n = length written in
      let next : drop n old ≡ get_or old n 0 ∷ drop (n + 1) old = rw (add-one n) (drop-cons old n 0 h) in
      let all : take (length old) (written ++ (b ∷ [])) ≡ written ++ (b ∷ []) = take_all (length old) (written ++ (b ∷ [])) (omega (arith, longer)) in
      rw (over_fits (omega arith), next, set-append_seam written (get_or old n 0) (drop (n + 1) old) b) (rw (all, longer, over) (sym (append_assoc written (b ∷ []) (drop (n + 1) old))))

  pub over_lost : length old ≤ length written → over written old ≡ over (written ++ (b ∷ [])) old
  unfolding over
  over_lost h =
      let past : drop (length (written ++ (b ∷ []))) old ≡ [] = drop_of_length-le old {i = length (written ++ (b ∷ []))} (omega (arith, longer)) in
      rw (past, take-append-le (length old) written (b ∷ []) h, drop_of_length-le old {i = length written} h)

pub over_length : (written old : List ℕ) → length (over written old) ≡ length old
unfolding over
over_length written old =
    rw (length-append (take (length old) written) (drop (length written) old), length-take (length old) written, length-drop (length written) old) (omega arith)

-- the same of an output that holds what is written
module _ (output written old : List ℕ) (at b : ℕ) (a : at ≡ length written) (o : output ≡ over written old) where
  same : length output ≡ length old
  same = ap length o ∙ over_length written old

  pub put_in : at < length output → set output at b ≡ over (written ++ (b ∷ [])) old
  put_in h = rw (o, a) (over_byte written old b (omega (arith, same)))

  pub put_out : length output ≤ at → output ≡ over (written ++ (b ∷ [])) old
  put_out h = o ∙ over_lost written old b (omega (arith, same))

-- the bytes of an element
pub bytes_length : (text : List ℕ) (first end : ℕ) → first ≤ end → end ≤ length text → length (bytes_of text first end) ≡ end - first
bytes_length text first end h k = length-take-le (end - first) (drop first text) (omega (arith, length-drop first text))

-- one byte more of those that are written
pub bytes_step : (bytes written old output : List ℕ) (i : ℕ) → i < length bytes → output ≡ over ((written ++ take i bytes) ++ (get_or bytes i 0 ∷ [])) old
    → output ≡ over (written ++ take (i + 1) bytes) old
bytes_step bytes written old output i h o = rw (add-one i, take-suc bytes i 0 h) (rw (append_assoc written (take i bytes) (get_or bytes i 0 ∷ [])) at o)

pub bytes_place : (bytes written : List ℕ) (i at to : ℕ) → i < length bytes → at ≡ length written → to ≡ at + i → to ≡ length (written ++ take i bytes)
bytes_place bytes written i at to h a t = rw (length-append written (take i bytes), length-take-le i bytes (omega arith)) (omega arith)

-- an element with what comes before it
module _ (text : List ℕ) (first end : ℕ) where
  pub element_newline : (written : List ℕ) → add_element text written first end true ≡ (written ++ (line_feed ∷ [])) ++ bytes_of text first end
  unfolding add_element
  element_newline [] = refl
  element_newline (b ∷ written) = sym (append_assoc (b ∷ written) (line_feed ∷ []) (bytes_of text first end))

  pub element_first : (written : List ℕ) → length written ≡ 0 → add_element text written first end false ≡ written ++ bytes_of text first end
  unfolding add_element
  element_first [] z = refl
  element_first (b ∷ written) z = absurd (omega arith)

  pub element_blank : (written : List ℕ) → (length written ≡ 0 → ⊥) → add_element text written first end false ≡ (written ++ (space ∷ [])) ++ bytes_of text first end
  unfolding add_element
  element_blank [] z = absurd (z refl)
  element_blank (b ∷ written) z = sym (append_assoc (b ∷ written) (space ∷ []) (bytes_of text first end))

  pub closer_blank : (written : List ℕ) → add_closer text written first end ≡ (written ++ (space ∷ [])) ++ bytes_of text first end
  unfolding add_closer
  closer_blank written = sym (append_assoc written (space ∷ []) (bytes_of text first end))

-- the place behind what is written, and the output
pub put_behind : (more before old output : List ℕ) (at result : ℕ) → at ≡ length before → result ≡ at + length more → output ≡ over (before ++ more) old
    → (goal : List ℕ) → goal ≡ before ++ more → (result ≡ length goal) × (output ≡ over goal old)
put_behind more before old output at result a r o goal g = rw g (rw (length-append before more) (omega arith), o)

pub byte_length : (written : List ℕ) (b at next : ℕ) → at ≡ length written → next ≡ at + 1 → next ≡ length (written ++ (b ∷ []))
byte_length written b at next a n = rw (length-append written (b ∷ [])) (omega arith)
