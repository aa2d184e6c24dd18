-- A gap or literal is the same at another offset, and where the text is cut behind it and goes on with a blank or a line
-- end. In each law i is the offset of the list's head and j its offset in the other text, of which k bytes are the same;
-- an equation such as `first + j ≡ there + i` says that `there` is `first` moved as far.
use Rattle.std.specs.Prelude.{Ok}
use mathlib.Core.Path.{◌≡◌, refl, ap, ◌∙◌}
use mathlib.Core.List.{List, [], ◌∷◌, ◌++◌}
use mathlib.Core.Bool.{Bool, true, false, not, ◌&&◌, ◌||◌}
use Prim.Native.Nat.{ℕ, zero, suc, ◌+◌, ◌<◌, ◌≤◌}
use native.Mathlib.Omega.{arith}
use borrow.Author.Tests.{eqb-true}
use lib.Dec.{eqb}
use lib.ListN.{length, get_or, take}
use lib.Seq.{get_or_at, length-take-le}
use Rattle.text.specs.Quoted.{byte}
use Rattle.text.specs.Bytes.{blank, line_end, illegal, digit, name_byte, letter}
use Rattle.text.specs.Runs.{run}
use Rattle.text.proofs.Laws.{run_own}
use Rattle.gaps.specs.declared.Gap.{Gap}
use Rattle.gaps.specs.Gaps.{ends, gap, after_slash, in_line, in_block}
use Rattle.numbers.specs.Numbers.{hex_digit, number_length, number_from, exponent_indicator, plus_or_minus, hex_indicator}
use Rattle.numbers.proofs.NumberLaws.{Breaks, number_steady}
use Rattle.literals.specs.Strings.{string_rest, backslash}
use Rattle.literals.specs.Patterns.{pattern_rest}
use Rattle.elements.proofs.Choices.{cond_both, cond_follow}
use Rattle.elements.proofs.Clashes.{no_result}
use Rattle.elements.proofs.Extents.{gap_reach, newline_reach, block_reach, string_reach, pattern_reach}
use Rattle.gaps.proofs.GapLaws.{line_end_cases}

or_cases : (P : Type 0) (a b : Bool) → (a ≡ true → P) → (b ≡ true → P) → (a || b) ≡ true → P
or_cases P true b f g e = f refl
or_cases P false b f g e = g e

-- what holds of the four blanks and the two line ends
separator_cases : (P : ℕ → Type 0) → P 0x09 → P 0x0B → P 0x0C → P 0x20 → P 0x0A → P 0x0D → (x : ℕ) → (blank x || line_end x) ≡ true → P x
unfolding blank
separator_cases P a b c d m n x =
    or_cases (P x) (blank x) (line_end x)
    (or_cases (P x) (eqb x 0x09 || eqb x 0x0B || eqb x 0x0C) (eqb x 0x20)
    (or_cases (P x) (eqb x 0x09 || eqb x 0x0B) (eqb x 0x0C)
    (or_cases (P x) (eqb x 0x09) (eqb x 0x0B) (λ e. rw (eqb-true x 0x09 e) a) (λ e. rw (eqb-true x 0x0B e) b))
    (λ e. rw (eqb-true x 0x0C e) c)) (λ e. rw (eqb-true x 0x20 e) d))
    (line_end_cases P x m n)

-- what a blank or a line end is not
module _ (x : ℕ) (separates : (blank x || line_end x) ≡ true) where
  pub no_digit : digit x ≡ false
  unfolding digit
  no_digit = separator_cases (λ k. digit k ≡ false) refl refl refl refl refl refl x separates

  pub no_name : name_byte x ≡ false
  unfolding name_byte letter digit
  no_name = separator_cases (λ k. name_byte k ≡ false) refl refl refl refl refl refl x separates

  breaks : Breaks x
  unfolding hex_digit digit
  breaks = record {
    decimal = no_digit;
    hex = separator_cases (λ k. hex_digit k ≡ false) refl refl refl refl refl refl x separates;
    zero = separator_cases (λ k. eqb k (byte "0") ≡ false) refl refl refl refl refl refl x separates;
    dot = separator_cases (λ k. eqb k (byte ".") ≡ false) refl refl refl refl refl refl x separates;
    exponent = separator_cases (λ k. exponent_indicator k ≡ false) refl refl refl refl refl refl x separates;
    sign = separator_cases (λ k. plus_or_minus k ≡ false) refl refl refl refl refl refl x separates;
    indicator = separator_cases (λ k. hex_indicator k ≡ false) refl refl refl refl refl refl x separates;
  }

  slash_alone : (v : List ℕ) (i : ℕ) (newline : Bool) → after_slash i newline (x ∷ v) ≡ ends i newline
  unfolding after_slash
  slash_alone v i newline = separator_cases (λ k. after_slash i newline (k ∷ v) ≡ ends i newline) refl refl refl refl refl refl x separates

-- gaps that end alike
same_gap : (i first : ℕ) (newline m : Bool) → ends i newline ≡ ends first m → (i ≡ first) × (newline ≡ m)
same_gap i first newline m e =
    let p : record { end = i; newline = newline } ≡ record { end = first; newline = m } = cc in
    (ap (λ (g : Gap). g.end) p, ap (λ (g : Gap). g.newline) p)

-- a text that goes on with a blank or a line end
module _ (x : ℕ) (v : List ℕ) (separates : (blank x || line_end x) ≡ true) where
  -- a gap, outside and inside its comments, where it ends before the cut
  module _ (first there : ℕ) (m : Bool) where
    stop : (i j : ℕ) (newline : Bool) → first + j ≡ there + i → ends i newline ≡ ends first m → ends j newline ≡ ends there m
    stop i j newline h e =
        let p = same_gap i first newline m e in
        let q : j ≡ there = omega arith in
        rw (q, p.1)

    mutual
      unfolding gap

      pub gap_own : (s : List ℕ) (k i j : ℕ) (newline : Bool) → first + j ≡ there + i → first < i + k → k ≤ length s
          → gap i newline s ≡ ends first m → gap j newline (take k s ++ x ∷ v) ≡ ends there m
      gap_own [] k i j newline h p q e = absurd (omega (arith, same_gap i first newline m e))
      gap_own (b ∷ s) zero i j newline h p q e = absurd (omega (arith, gap_reach (b ∷ s) i first newline m e))
      gap_own (b ∷ s) (suc k) i j newline h p q e =
          cond_follow (blank b) (λ f. gap_own s k (i + 1) (j + 1) newline (omega arith) (omega arith) (omega arith) f)
          (cond_follow (line_end b) (λ f. gap_own s k (i + 1) (j + 1) true (omega arith) (omega arith) (omega arith) f)
          (cond_follow (eqb b (byte "/")) (λ f. slash_own s k i j newline h (omega arith) (omega arith) f)
          (stop i j newline h))) e

      slash_own : (s : List ℕ) (k i j : ℕ) (newline : Bool) → first + j ≡ there + i → first < i + 1 + k → k ≤ length s
          → after_slash i newline s ≡ ends first m → after_slash j newline (take k s ++ x ∷ v) ≡ ends there m
      slash_own [] zero i j newline h p q e = slash_alone x separates v j newline ∙ stop i j newline h e
      slash_own [] (suc k) i j newline h p q e = absurd (omega arith)
      slash_own (b ∷ s) zero i j newline h p q e =
          slash_alone x separates v j newline ∙ stop i j newline h
          (cond_both (λ z. z ≡ ends first m → ends i newline ≡ ends first m) (eqb b (byte "/"))
          (λ f. absurd (omega (arith, newline_reach s (i + 2) first newline m f)))
          (cond_both (λ z. z ≡ ends first m → ends i newline ≡ ends first m) (eqb b (byte "*"))
          (λ f. absurd (omega (arith, block_reach s (i + 2) first newline m i false (omega arith) f)))
          (λ f. f)) e)
      slash_own (b ∷ s) (suc k) i j newline h p q e =
          cond_follow (eqb b (byte "/")) (λ f. newline_own s k (i + 2) (j + 2) newline (omega arith) (omega arith) (omega arith) f)
          (cond_follow (eqb b (byte "*"))
          (λ f. block_own s k i j (i + 2) (j + 2) newline false (omega arith) (omega arith) (omega arith) (omega arith) f)
          (stop i j newline h)) e

      newline_own : (s : List ℕ) (k i j : ℕ) (newline : Bool) → first + j ≡ there + i → first < i + k → k ≤ length s
          → in_line i newline s ≡ ends first m → in_line j newline (take k s ++ x ∷ v) ≡ ends there m
      newline_own [] k i j newline h p q e = absurd (omega (arith, same_gap i first newline m e))
      newline_own (b ∷ s) zero i j newline h p q e = absurd (omega (arith, newline_reach (b ∷ s) i first newline m e))
      newline_own (b ∷ s) (suc k) i j newline h p q e =
          cond_follow (line_end b) (λ f. gap_own s k (i + 1) (j + 1) true (omega arith) (omega arith) (omega arith) f)
          (cond_follow (illegal b) no_result (λ f. newline_own s k (i + 1) (j + 1) newline (omega arith) (omega arith) (omega arith) f)) e

      block_own : (s : List ℕ) (k slash other i j : ℕ) (newline star : Bool) → slash < i → first + j ≡ there + i → first < i + k → k ≤ length s
          → in_block slash i newline star s ≡ ends first m → in_block other j newline star (take k s ++ x ∷ v) ≡ ends there m
      block_own [] k slash other i j newline star o h p q e = no_result e
      block_own (b ∷ s) zero slash other i j newline star o h p q e = absurd (omega (arith, block_reach (b ∷ s) i first newline m slash star o e))
      block_own (b ∷ s) (suc k) slash other i j newline star o h p q e =
          let o₁ : slash < i + 1 = omega arith in
          let h₁ : first + (j + 1) ≡ there + (i + 1) = omega arith in
          let p₁ : first < i + 1 + k = omega arith in
          let q₁ : k ≤ length s = omega arith in
          cond_follow (line_end b) (λ f. block_own s k slash other (i + 1) (j + 1) true false o₁ h₁ p₁ q₁ f)
          (cond_follow (illegal b) no_result
          (cond_follow (star && eqb b (byte "/")) (λ f. gap_own s k (i + 1) (j + 1) newline h₁ p₁ q₁ f)
          (λ f. block_own s k slash other (i + 1) (j + 1) newline (eqb b (byte "*")) o₁ h₁ p₁ q₁ f))) e

  -- a literal, where it ends before the cut or there
  module _ (end there : ℕ) where
    pub string_own : (s : List ℕ) (k q first other i j : ℕ) (taken : Bool) → first < i → end + j ≡ there + i → end ≤ i + k
        → string_rest q first taken i s ≡ Ok end → string_rest q other taken j (take k s ++ x ∷ v) ≡ Ok there
    unfolding string_rest
    string_own [] k q first other i j taken o h p e = no_result e
    string_own (b ∷ s) zero q first other i j taken o h p e = absurd (omega (arith, string_reach (b ∷ s) first i end o q taken e))
    string_own (b ∷ s) (suc k) q first other i j taken o h p e =
        cond_follow (line_end b) no_result
        (cond_follow (illegal b) no_result
        (cond_follow taken (string_own s k q first other (i + 1) (j + 1) false (omega arith) (omega arith) (omega arith))
        (cond_follow (eqb b q) (λ f. let n : i + 1 ≡ end = cc in ap Ok (omega arith))
        (string_own s k q first other (i + 1) (j + 1) (eqb b backslash) (omega arith) (omega arith) (omega arith))))) e

    pub pattern_own : (s : List ℕ) (k first other i j : ℕ) (class taken : Bool) → first < i → end + j ≡ there + i → end ≤ i + k
        → pattern_rest first class taken i s ≡ Ok end → pattern_rest other class taken j (take k s ++ x ∷ v) ≡ Ok there
    unfolding pattern_rest
    pattern_own [] k first other i j class taken o h p e = no_result e
    pattern_own (b ∷ s) zero first other i j class taken o h p e = absurd (omega (arith, pattern_reach (b ∷ s) first i end o class taken e))
    pattern_own (b ∷ s) (suc k) first other i j class taken o h p e =
        let o₁ : first < i + 1 = omega arith in
        let h₁ : end + (j + 1) ≡ there + (i + 1) = omega arith in
        let p₁ : end ≤ i + 1 + k = omega arith in
        cond_follow (line_end b) no_result
        (cond_follow (illegal b) no_result
        (cond_follow taken (pattern_own s k first other (i + 1) (j + 1) class false o₁ h₁ p₁)
        (cond_follow (eqb b backslash) (pattern_own s k first other (i + 1) (j + 1) class true o₁ h₁ p₁)
        (cond_follow class (pattern_own s k first other (i + 1) (j + 1) (not (eqb b (byte "]"))) false o₁ h₁ p₁)
        (cond_follow (eqb b (byte "/"))
        (λ f.
        let n : i + 1 + run name_byte s ≡ end = cc in
        ap Ok (omega (arith, run_own name_byte x v (no_name x separates) s k (omega arith))))
        (pattern_own s k first other (i + 1) (j + 1) (eqb b (byte "[")) false o₁ h₁ p₁)))))) e

    module _ (b : ℕ) (s : List ℕ) (k : ℕ) where
      pub number_size : (first : ℕ) → end ≡ first + suc k → number_from first (b ∷ s) ≡ Ok end → number_length (b ∷ s) ≡ suc k
      unfolding number_from
      number_size first p =
          cond_both (λ z. z ≡ Ok end → number_length (b ∷ s) ≡ suc k) (name_byte (get_or (b ∷ s) (number_length (b ∷ s)) 0))
          no_result (λ f. let z : first + number_length (b ∷ s) ≡ end = cc in omega arith)

      pub number_own : (first other : ℕ) → k ≤ length s → end ≡ first + suc k → there ≡ other + suc k
          → number_from first (b ∷ s) ≡ Ok end → number_from other (b ∷ take k s ++ x ∷ v) ≡ Ok there
      unfolding number_from
      number_own first other h p q e =
          let n = number_size first p e in
          rw (number_steady x v (breaks x separates) (b ∷ s) (suc k) (omega arith) (omega arith), n, get_or_at (take k s) x v 0 k (length-take-le k s h), no_name x separates, q)
