-- A number's length is that of a NumericLiteral, and no longer front of the text is one.
use mathlib.Core.Path.{◌≡◌, refl, ◌∙◌}
use mathlib.Core.List.{List, [], ◌∷◌, ◌++◌, append-nil, append_assoc}
use mathlib.Core.Bool.{Bool, true, false, cond, not, ◌&&◌, ◌||◌, and-false}
use Prim.Native.Nat.{ℕ, zero, suc, ◌+◌, ◌-◌, ◌≤◌}
use native.Mathlib.Omega.{arith}
use borrow.Author.Tests.{eqb-true, leb-true, ne_eqb}
use lib.Dec.{T, eqb, leb}
use lib.ListN.{length, get_or, take, drop, length-append, take-append-drop}
use lib.Seq.{append_snoc, drop-append_seam, length-take-le, take-add}
use Rattle.text.specs.Quoted.{byte}
use Rattle.text.specs.Bytes.{between, digit}
use Rattle.text.specs.Runs.{run}
use Rattle.text.proofs.Range.{every, alike, agree}
use Rattle.numbers.specs.Numbers.{hex_digit, exponent_indicator, plus_or_minus, hex_indicator, run_behind, hex_length, integer_length, fraction_length, exponent_length, followed_by, decimal_length, number_length, starts_number}
use Rattle.numbers.specs.NumericLiterals.{non_zero_digit, Optional, none, some, DecimalDigits, one_digit, more_digits, DecimalIntegerLiteral, only_zero, non_zero, SignedInteger, unsigned, plus, minus, ExponentPart, exponent, DecimalLiteral, dotted, fraction, whole, HexIntegerLiteral, hex_lower, hex_upper, more_hex, NumericLiteral, decimal, hexadecimal}

-- two tests agree on the bytes between two
ranged : (f g : ℕ → Bool) (lo hi b : ℕ) → T (every (λ k. alike (f k) (g k)) lo (suc hi - lo)) → between lo hi b ≡ true → f b ≡ g b
ranged f g lo hi b t h = go (leb lo b) refl (leb b hi) refl h
  where
    go : (l : Bool) → leb lo b ≡ l → (m : Bool) → leb b hi ≡ m → (l && m) ≡ true → f b ≡ g b
    go true l true m h = agree f g lo hi b t (leb-true lo b l) (leb-true b hi m)
    go true l false m h = absurd (let z : ◌≡◌ {A = ℕ} 0 1 = cc in omega arith)
    go false l m n h = absurd (let z : ◌≡◌ {A = ℕ} 0 1 = cc in omega arith)

digit_unsigned : (b : ℕ) → digit b ≡ true → plus_or_minus b ≡ false
unfolding digit
digit_unsigned b h = ranged plus_or_minus (λ k. false) (byte "0") (byte "9") b tt h

digit_non_zero : (b : ℕ) → digit b ≡ true → non_zero_digit b ≡ not (eqb b (byte "0"))
unfolding digit
digit_non_zero b h = ranged non_zero_digit (λ k. not (eqb k (byte "0"))) (byte "0") (byte "9") b tt h

non-zero-digit : (b : ℕ) → non_zero_digit b ≡ true → digit b ≡ true
unfolding digit
non-zero-digit b h = ranged digit (λ k. true) (byte "1") (byte "9") b tt h

non_zero_not : (b : ℕ) → non_zero_digit b ≡ true → eqb b (byte "0") ≡ false
non_zero_not b h = ranged (λ k. eqb k (byte "0")) (λ k. false) (byte "1") (byte "9") b tt h

-- what holds at two bytes holds at one that is one of them
either : (P : ℕ → Type 0) (b x y : ℕ) → P x → P y → (eqb b x || eqb b y) ≡ true → P b
either P b x y p q h = go (eqb b x) refl h
  where
    go : (t : Bool) → eqb b x ≡ t → (t || eqb b y) ≡ true → P b
    go true e h = rw (eqb-true b x e) p
    go false e h = rw (eqb-true b y h) q

run_over : (class : ℕ → Bool) (b : ℕ) (s : List ℕ) → class b ≡ true → run class (b ∷ s) ≡ suc (run class s)
unfolding run
run_over class b s e = rw e

behind_over : (n : ℕ) (class : ℕ → Bool) (s : List ℕ) → 1 ≤ run class s → run_behind n class s ≡ n + run class s
behind_over n class s h = rw (ne_eqb (run class s) 0 (λ z. omega arith))

-- No front that is a literal is longer: each part w, with r behind it.

digits_run : {w : List ℕ} → DecimalDigits w → (r : List ℕ) → run digit (w ++ r) ≡ length w + run digit r
digits_run (one_digit b e) r = run_over digit b r e ∙ omega arith
digits_run (more_digits {w = w} p b e) r =
    rw (append_snoc w b r, digits_run p (b ∷ r), run_over digit b r e, length-append w (b ∷ [])) (omega arith)

digits_some : {w : List ℕ} → DecimalDigits w → 1 ≤ length w
digits_some (one_digit b e) = omega arith
digits_some (more_digits {w = w} p b e) = omega (arith, length-append w (b ∷ []))

digits_first : {w : List ℕ} → DecimalDigits w → (r : List ℕ) → plus_or_minus (get_or (w ++ r) 0 0) ≡ false
digits_first (one_digit b e) r = digit_unsigned b e
digits_first (more_digits {w = w} p b e) r = rw (append_snoc w b r) (digits_first p (b ∷ r))

optional_run : {w : List ℕ} → Optional DecimalDigits w → (r : List ℕ) → run digit (w ++ r) ≡ length w + run digit r
optional_run none r = omega arith
optional_run (some p) r = digits_run p r

integer_run : {w : List ℕ} → DecimalIntegerLiteral w → (r : List ℕ) → (length w ≤ integer_length (w ++ r)) × (integer_length (w ++ r) ≤ length w + run digit r)
unfolding integer_length
integer_run only_zero r = (omega arith, omega arith)
integer_run (non_zero {w = w} b n o) r =
    rw (non_zero_not b n, run_over digit b (w ++ r) (non-zero-digit b n), optional_run o r) (omega arith, omega arith)

signed_run : {w : List ℕ} → SignedInteger w → (b : ℕ) (r : List ℕ) → exponent_indicator b ≡ true → suc (length w) ≤ exponent_length (b ∷ w ++ r)
unfolding exponent_length
signed_run (unsigned {w = w} d) b r e =
    rw (e, digits_first d r, behind_over 1 digit (w ++ r) (omega (arith, digits_run d r, digits_some d)), digits_run d r) (omega arith)
signed_run (plus {w = w} d) b r e = rw (e, behind_over 2 digit (w ++ r) (omega (arith, digits_run d r, digits_some d)), digits_run d r) (omega arith)
signed_run (minus {w = w} d) b r e = rw (e, behind_over 2 digit (w ++ r) (omega (arith, digits_run d r, digits_some d)), digits_run d r) (omega arith)

exponent_run : {w : List ℕ} → ExponentPart w → (r : List ℕ) → length w ≤ exponent_length (w ++ r)
exponent_run (exponent b e p) r = signed_run p b r e

-- neither digits nor a fraction go on with s
abbrev Stops : List ℕ → Type 0
Stops s = (run digit s ≡ 0) × (fraction_length s ≡ 0)

exponent_stops : {w : List ℕ} → ExponentPart w → (r : List ℕ) → Stops (w ++ r)
unfolding run digit fraction_length
exponent_stops (exponent {w = w} b e p) r = either (λ k. Stops (k ∷ w ++ r)) b (byte "e") (byte "E") (refl, refl) (refl, refl) e

-- what stands before an exponent
mantissa_length : List ℕ → ℕ
mantissa_length = followed_by integer_length fraction_length

-- what stands before an exponent is found whole, and exactly where neither digits nor a fraction go on behind it
abbrev Mantissa : List ℕ → Type 0
Mantissa m = (r : List ℕ) → (length m ≤ mantissa_length (m ++ r)) × (Stops r → mantissa_length (m ++ r) ≡ length m)

dotted_mantissa : {i d : List ℕ} → DecimalIntegerLiteral i → Optional DecimalDigits d → Mantissa (i ++ byte "." ∷ d)
unfolding mantissa_length run digit fraction_length
dotted_mantissa {i} {d} p o r =
    let t = byte "." ∷ (d ++ r) in
    let e : integer_length (i ++ t) ≡ length i = omega (arith, (integer_run p t).0, (integer_run p t).1) in
    rw (append_assoc i (byte "." ∷ d) r, e, drop-append_seam i t, length-append i (byte "." ∷ d))
    (omega (arith, optional_run o r), λ h. let z = h.0 in omega (arith, optional_run o r))

fraction_mantissa : {d : List ℕ} → DecimalDigits d → Mantissa (byte "." ∷ d)
unfolding mantissa_length integer_length run digit fraction_length
fraction_mantissa p r = (omega (arith, digits_run p r), λ h. let z = h.0 in omega (arith, digits_run p r))

whole_mantissa : {i : List ℕ} → DecimalIntegerLiteral i → Mantissa i
unfolding mantissa_length
whole_mantissa {i} p r = (
  omega (arith, (integer_run p r).0),
  λ h.
      let z = h.0 in
      let e : integer_length (i ++ r) ≡ length i = omega (arith, (integer_run p r).0, (integer_run p r).1) in
      rw (e, drop-append_seam i r, h.1) (omega arith),
)

exponent_behind : (m : List ℕ) {e : List ℕ} → Mantissa m → Optional ExponentPart e → (r : List ℕ) → length (m ++ e) ≤ decimal_length (m ++ e ++ r)
unfolding decimal_length mantissa_length
exponent_behind m p none r = rw (append-nil m) (omega (arith, (p r).0))
exponent_behind m {e} p (some x) r =
    rw (append_assoc m e r, (p (e ++ r)).1 (exponent_stops x r), drop-append_seam m (e ++ r), length-append m e) (omega (arith, exponent_run x r))

decimal_run : {w : List ℕ} → DecimalLiteral w → (r : List ℕ) → length w ≤ decimal_length (w ++ r)
decimal_run (dotted {i = i} {d = d} p o x) r = exponent_behind (i ++ byte "." ∷ d) (dotted_mantissa p o) x r
decimal_run (fraction {d = d} p x) r = exponent_behind (byte "." ∷ d) (fraction_mantissa p) x r
decimal_run (whole {i = i} p x) r = exponent_behind i (whole_mantissa p) x r

hex_run : {w : List ℕ} → HexIntegerLiteral w → (r : List ℕ) → hex_length (w ++ r) ≡ length w + run hex_digit r
unfolding hex_length
hex_run (hex_lower b e) r = behind_over 2 hex_digit (b ∷ r) (omega (arith, run_over hex_digit b r e)) ∙ omega (arith, run_over hex_digit b r e)
hex_run (hex_upper b e) r = behind_over 2 hex_digit (b ∷ r) (omega (arith, run_over hex_digit b r e)) ∙ omega (arith, run_over hex_digit b r e)
hex_run (more_hex {w = w} p b e) r = rw (append_snoc w b r, hex_run p (b ∷ r), run_over hex_digit b r e, length-append w (b ∷ [])) (omega arith)

-- what a hexadecimal number starts with
module _ (P : List ℕ → Type 0) (lower : (s : List ℕ) → 1 ≤ run hex_digit s → P (byte "0" ∷ byte "x" ∷ s)) (upper : (s : List ℕ) → 1 ≤ run hex_digit s → P (byte "0" ∷ byte "X" ∷ s)) where
  hex_start : (s : List ℕ) → 1 ≤ hex_length s → P s
  unfolding hex_length
  hex_start [] h = absurd (omega arith)
  hex_start (a ∷ []) h = absurd (let l : 1 ≤ 0 = rw (and-false (eqb a (byte "0"))) at h in omega arith)
  hex_start (a ∷ b ∷ s) h = go (eqb a (byte "0")) refl (hex_indicator b) refl (run hex_digit s) refl h
    where
      go : (t : Bool) → eqb a (byte "0") ≡ t → (u : Bool) → hex_indicator b ≡ u → (n : ℕ) → run hex_digit s ≡ n → 1 ≤ cond (t && u) (cond (eqb n 0) 0 (2 + n)) 0 → P (a ∷ b ∷ s)
      go true e true f zero g h = absurd (omega arith)
      go true e true f (suc n) g h =
          rw (eqb-true a (byte "0") e)
          (either (λ k. P (byte "0" ∷ k ∷ s)) b (byte "x") (byte "X") (lower s (omega arith)) (upper s (omega arith)) f)
      go true e false f n g h = absurd (omega arith)
      go false e u f n g h = absurd (omega arith)

-- where there is a hexadecimal number, the decimal one is its 0
hex_longer : (s : List ℕ) → 1 ≤ hex_length s → decimal_length s ≤ 1
unfolding decimal_length integer_length fraction_length exponent_length
hex_longer = hex_start (λ s. decimal_length s ≤ 1) (λ s h. omega arith) (λ s h. omega arith)

longer : (s : List ℕ) (n m : ℕ) → hex_length s ≡ n → decimal_length s ≡ m → (m ≤ cond (eqb n 0) m n) × (n ≤ cond (eqb n 0) m n)
longer s zero m e f = (omega arith, omega arith)
longer s (suc n) m e f = rw (ne_eqb (suc n) 0 (λ z. omega arith)) (omega (arith, hex_longer s (omega arith)), omega arith)

pub literal_within : {w : List ℕ} → NumericLiteral w → (r : List ℕ) → length w ≤ number_length (w ++ r)
unfolding number_length
literal_within {w} (decimal p) r = omega (arith, decimal_run p r, (longer (w ++ r) (hex_length (w ++ r)) (decimal_length (w ++ r)) refl refl).0)
literal_within {w} (hexadecimal p) r = omega (arith, hex_run p r, (longer (w ++ r) (hex_length (w ++ r)) (decimal_length (w ++ r)) refl refl).1)

pub number_longest : (s : List ℕ) (n : ℕ) → n ≤ length s → NumericLiteral (take n s) → n ≤ number_length s
number_longest s n h p =
    let l : length (take n s) ≤ number_length s = rw (take-append-drop n s) at (literal_within p (drop n s)) in
    omega (arith, length-take-le n s h)

-- The length is that of a literal: each part, cut from the text.

run_first : (class : ℕ → Bool) (P : List ℕ → Type 0) → ((b : ℕ) (s : List ℕ) → class b ≡ true → P (b ∷ s)) → (s : List ℕ) → 1 ≤ run class s → P s
unfolding run
run_first class P p [] h = absurd (omega arith)
run_first class P p (b ∷ s) h = go (class b) refl h
  where
    go : (t : Bool) → class b ≡ t → 1 ≤ cond t (suc (run class s)) zero → P (b ∷ s)
    go true e h = p b s e
    go false e h = absurd (omega arith)

-- what goes on with a byte of the class goes on with a run of it
grown : (P : List ℕ → Type 0) (class : ℕ → Bool) → ((w : List ℕ) (b : ℕ) → P w → class b ≡ true → P (w ++ b ∷ [])) → (s w : List ℕ) → P w
    → P (w ++ take (run class s) s)
unfolding run
grown P class more [] w p = rw (append-nil w) p
grown P class more (b ∷ s) w p = go (class b) refl (grown P class more s (w ++ b ∷ []))
  where
    go : (t : Bool) → class b ≡ t → (P (w ++ b ∷ []) → P (w ++ b ∷ [] ++ take (run class s) s)) → P (w ++ take (cond t (suc (run class s)) zero) (b ∷ s))
    go true e next = rw (append_snoc w b (take (run class s) s)) at (next (more w b p e))
    go false e next = rw (append-nil w) p

digits_taken : (s : List ℕ) → 1 ≤ run digit s → DecimalDigits (take (run digit s) s)
digits_taken =
    run_first digit (λ s. DecimalDigits (take (run digit s) s))
    (λ b s e. rw (run_over digit b s e) (grown DecimalDigits digit (λ w c p f. more_digits p c f) s (b ∷ []) (one_digit b e)))

-- a run behind n bytes is a part, or there is none
optional_taken : (P : List ℕ → Type 0) (n r : ℕ) (s : List ℕ) → (1 ≤ r → P (take (n + r) s)) → Optional P (take (cond (eqb r 0) 0 (n + r)) s)
optional_taken P n zero s p = none
optional_taken P n (suc r) s p = rw (ne_eqb (suc r) 0 (λ z. omega arith)) (some (p (omega arith)))

digits_optional : (s : List ℕ) → Optional DecimalDigits (take (run digit s) s)
digits_optional s = grown (Optional DecimalDigits) digit more s [] none
  where
    more : (w : List ℕ) (b : ℕ) → Optional DecimalDigits w → digit b ≡ true → Optional DecimalDigits (w ++ b ∷ [])
    more w b none e = some (one_digit b e)
    more w b (some p) e = some (more_digits p b e)

integer_taken : (b : ℕ) (s : List ℕ) → digit b ≡ true → DecimalIntegerLiteral (take (integer_length (b ∷ s)) (b ∷ s))
unfolding integer_length
integer_taken b s d = go (eqb b (byte "0")) refl
  where
    go : (t : Bool) → eqb b (byte "0") ≡ t → DecimalIntegerLiteral (take (cond t 1 (run digit (b ∷ s))) (b ∷ s))
    go true e = rw (eqb-true b (byte "0") e) only_zero
    go false e = rw (run_over digit b s d) (non_zero b (digit_non_zero b d ∙ rw e) (digits_optional s))

exponent_taken : (s : List ℕ) → Optional ExponentPart (take (exponent_length s) s)
unfolding exponent_length
exponent_taken [] = none
exponent_taken (a ∷ s) = go (exponent_indicator a) refl (plus_or_minus (get_or s 0 0)) refl
  where
    signed : (s : List ℕ) → exponent_indicator a ≡ true → plus_or_minus (get_or s 0 0) ≡ true → 1 ≤ run digit (drop 1 s) → ExponentPart (take (2 + run digit (drop 1 s)) (a ∷ s))
    signed [] e f h = absurd (let z : ◌≡◌ {A = ℕ} 0 1 = cc in omega arith)
    signed (b ∷ s) e f h =
        let k : 2 + run digit s ≡ suc (suc (run digit s)) = omega arith in
        rw k
        (exponent a e (either (λ c. SignedInteger (c ∷ take (run digit s) s)) b (byte "+") (byte "-") (plus (digits_taken s h)) (minus (digits_taken s h)) f))

    go : (t : Bool) → exponent_indicator a ≡ t → (u : Bool) → plus_or_minus (get_or s 0 0) ≡ u
        → Optional ExponentPart (take (cond t (cond u (run_behind 2 digit (drop 1 s)) (run_behind 1 digit s)) 0) (a ∷ s))
    go true e true f = optional_taken ExponentPart 2 (run digit (drop 1 s)) (a ∷ s) (signed s e f)
    go true e false f =
        let k : 1 + run digit s ≡ suc (run digit s) = omega arith in
        optional_taken ExponentPart 1 (run digit s) (a ∷ s) (λ h. rw k (exponent a e (unsigned (digits_taken s h))))
    go false e u f = none

fraction_taken : {i e : List ℕ} → DecimalIntegerLiteral i → Optional ExponentPart e → (s : List ℕ) → DecimalLiteral (i ++ take (fraction_length s) s ++ e)
unfolding fraction_length
fraction_taken {i} p x [] = rw (append-nil i) (whole p x)
fraction_taken {i} {e} p x (b ∷ s) = go (eqb b (byte ".")) refl
  where
    go : (t : Bool) → eqb b (byte ".") ≡ t → DecimalLiteral (i ++ take (cond t (1 + run digit s) 0) (b ∷ s) ++ e)
    go true f = let k : 1 + run digit s ≡ suc (run digit s) = omega arith in rw (k, eqb-true b (byte ".") f) (dotted p (digits_optional s) x)
    go false f = rw (append-nil i) (whole p x)

dot_taken : (s : List ℕ) → digit (get_or s 0 0) ≡ true → {e : List ℕ} → Optional ExponentPart e → DecimalLiteral (take (mantissa_length (byte "." ∷ s)) (byte "." ∷ s) ++ e)
unfolding mantissa_length integer_length fraction_length run digit
dot_taken [] d x = absurd (let z : ◌≡◌ {A = ℕ} 0 1 = cc in omega arith)
dot_taken (b ∷ s) d x =
    let k : 0 + (1 + run digit (b ∷ s)) ≡ suc (run digit (b ∷ s)) = omega arith in
    rw k (fraction (digits_taken (b ∷ s) (omega (arith, run_over digit b s d))) x)

mantissa_taken : (s : List ℕ) → starts_number s ≡ true → {e : List ℕ} → Optional ExponentPart e → DecimalLiteral (take (mantissa_length s) s ++ e)
unfolding mantissa_length digit
mantissa_taken [] h x = absurd (let z : ◌≡◌ {A = ℕ} 0 1 = cc in omega arith)
mantissa_taken (b ∷ s) h {e} x = go (digit b) refl (eqb b (byte ".")) refl h
  where
    go : (t : Bool) → digit b ≡ t → (u : Bool) → eqb b (byte ".") ≡ u → (t || u && digit (get_or s 0 0)) ≡ true → DecimalLiteral (take (mantissa_length (b ∷ s)) (b ∷ s) ++ e)
    go true d u f h =
        let n = integer_length (b ∷ s) in
        rw (take-add n (fraction_length (drop n (b ∷ s))) (b ∷ s)) (fraction_taken (integer_taken b s d) x (drop n (b ∷ s)))
    go false d true f h = rw (eqb-true b (byte ".") f) (dot_taken s h x)
    go false d false f h = absurd (let z : ◌≡◌ {A = ℕ} 0 1 = cc in omega arith)

hex_digits_taken : (x : ℕ) → ((b : ℕ) → hex_digit b ≡ true → HexIntegerLiteral (byte "0" ∷ x ∷ b ∷ [])) → hex_indicator x ≡ true → (s : List ℕ)
    → 1 ≤ run hex_digit s → HexIntegerLiteral (take (hex_length (byte "0" ∷ x ∷ s)) (byte "0" ∷ x ∷ s))
unfolding hex_length
hex_digits_taken x one f s h =
    let k : 2 + run hex_digit s ≡ suc (suc (run hex_digit s)) = omega arith in
    rw (f, behind_over 2 hex_digit s h, k)
    (run_first hex_digit (λ s. HexIntegerLiteral (byte "0" ∷ x ∷ take (run hex_digit s) s))
    (λ b s e. rw (run_over hex_digit b s e) (grown HexIntegerLiteral hex_digit (λ w c p g. more_hex p c g) s (byte "0" ∷ x ∷ b ∷ []) (one b e))) s h)

hex_taken : (s : List ℕ) → 1 ≤ hex_length s → HexIntegerLiteral (take (hex_length s) s)
hex_taken =
    hex_start (λ s. HexIntegerLiteral (take (hex_length s) s)) (hex_digits_taken (byte "x") hex_lower refl) (hex_digits_taken (byte "X") hex_upper refl)

pub number_literal : (s : List ℕ) → starts_number s ≡ true → NumericLiteral (take (number_length s) s)
unfolding number_length decimal_length mantissa_length
number_literal s h = go (hex_length s) refl
  where
    go : (n : ℕ) → hex_length s ≡ n → NumericLiteral (take (cond (eqb n 0) (decimal_length s) n) s)
    go zero e =
        let n = mantissa_length s in
        rw (take-add n (exponent_length (drop n s)) s) (decimal (mantissa_taken s h (exponent_taken (drop n s))))
    go (suc n) e = rw (ne_eqb (suc n) 0 (λ z. omega arith)) (hexadecimal (rw e at (hex_taken s (omega arith))))
