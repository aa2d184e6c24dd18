-- Where gaps and literals end and where their faults lie: not before the place that they start from, and within the text.
use Rattle.std.specs.Prelude.{Result, Ok, Err}
use mathlib.Core.Path.{◌≡◌, refl}
use mathlib.Core.List.{List, [], ◌∷◌}
use mathlib.Core.Bool.{Bool, true, false, not, ◌&&◌, ◌||◌}
use Prim.Native.Nat.{ℕ, ◌+◌, ◌<◌, ◌≤◌}
use native.Mathlib.Omega.{arith}
use lib.Dec.{eqb}
use lib.ListN.{length, get_or}
use Rattle.text.specs.Quoted.{byte}
use Rattle.text.specs.Bytes.{blank, line_end, illegal, digit, name_byte}
use Rattle.text.proofs.Laws.{run_le}
use Rattle.answers.specs.Faults.{open_string, open_pattern, open_comment, bad_number, fault_number, fault_place}
use Rattle.answers.specs.declared.faults.Fault.{Fault}
use Rattle.gaps.specs.Gaps.{ends, gap, after_slash, in_line, in_block}
use Rattle.numbers.specs.Numbers.{number_length, number_from}
use Rattle.numbers.proofs.NumberLaws.{number_some, number_within}
use Rattle.literals.specs.Strings.{string_rest, backslash}
use Rattle.literals.specs.Patterns.{pattern_rest}
use Rattle.gaps.specs.declared.Gap.{Gap}
use Rattle.elements.proofs.Choices.{cond_both}

-- a fault from lo to before hi, whose number is one of elements or comments, up to `last`
pub record Faulted (last lo hi number at : ℕ) : Type 0 where
  pub from : lo ≤ at
  pub within : at < hi
  pub least : 2 ≤ number
  pub most : number ≤ last

-- a gap that ends from i to hi, or has its fault from lo to before hi
abbrev pub GapIn : ℕ → ℕ → ℕ → Result Gap Fault → Type 0
GapIn lo i hi (Ok g) = (i ≤ g.end) × (g.end ≤ hi)
GapIn lo i hi (Err fault) = Faulted open_comment lo hi (fault_number fault) (fault_place fault)

module _ (lo low hi : ℕ) (l : lo ≤ low) where
  mutual
    unfolding gap

    pub gap_in : (s : List ℕ) (i : ℕ) (newline : Bool) → low ≤ i → i + length s ≡ hi → GapIn lo low hi (gap i newline s)
    gap_in [] i newline h e = omega arith
    gap_in (b ∷ s) i newline h e =
        let P = GapIn lo low hi in
        cond_both P (blank b) (gap_in s (i + 1) newline (omega arith) (omega arith))
        (cond_both P (line_end b) (gap_in s (i + 1) true (omega arith) (omega arith))
        (cond_both P (eqb b (byte "/")) (slash_in s i newline h (omega arith))
        (omega arith)))

    slash_in : (s : List ℕ) (i : ℕ) (newline : Bool) → low ≤ i → i + 1 + length s ≡ hi → GapIn lo low hi (after_slash i newline s)
    slash_in [] i newline h e = omega arith
    slash_in (b ∷ s) i newline h e =
        let P = GapIn lo low hi in
        cond_both P (eqb b (byte "/")) (newline_in s (i + 2) newline (omega arith) (omega arith))
        (cond_both P (eqb b (byte "*")) (block_in s i (i + 2) newline false (omega arith) (omega arith) (omega arith) (omega arith))
        (omega arith))

    newline_in : (s : List ℕ) (i : ℕ) (newline : Bool) → low ≤ i → i + length s ≡ hi → GapIn lo low hi (in_line i newline s)
    newline_in [] i newline h e = omega arith
    newline_in (b ∷ s) i newline h e =
        let P = GapIn lo low hi in
        cond_both P (line_end b) (gap_in s (i + 1) true (omega arith) (omega arith))
        (cond_both P (illegal b) (omega arith)
        (newline_in s (i + 1) newline (omega arith) (omega arith)))

    block_in : (s : List ℕ) (slash i : ℕ) (newline star : Bool) → lo ≤ slash → slash < i → low ≤ i → i + length s ≡ hi
        → GapIn lo low hi (in_block slash i newline star s)
    block_in [] slash i newline star p q h e = omega arith
    block_in (b ∷ s) slash i newline star p q h e =
        let P = GapIn lo low hi in
        cond_both P (line_end b) (block_in s slash (i + 1) true false p (omega arith) (omega arith) (omega arith))
        (cond_both P (illegal b) (omega arith)
        (cond_both P (star && eqb b (byte "/")) (gap_in s (i + 1) newline (omega arith) (omega arith))
        (block_in s slash (i + 1) newline (eqb b (byte "*")) p (omega arith) (omega arith) (omega arith))))

-- no gap or comment ends before it starts
module _ (s : List ℕ) (i first : ℕ) (newline m : Bool) where
  pub gap_reach : gap i newline s ≡ ends first m → i ≤ first
  gap_reach e =
      let p : GapIn i i (i + length s) (ends first m) =
      rw e at (gap_in i i (i + length s) (omega arith) s i newline (omega arith) refl) in
      p.0

  pub newline_reach : in_line i newline s ≡ ends first m → i ≤ first
  newline_reach e =
      let p : GapIn i i (i + length s) (ends first m) =
      rw e at (newline_in i i (i + length s) (omega arith) s i newline (omega arith) refl) in
      p.0

  pub block_reach : (slash : ℕ) (star : Bool) → slash < i → in_block slash i newline star s ≡ ends first m → i ≤ first
  block_reach slash star h e =
      let p : GapIn 0 i (i + length s) (ends first m) =
      rw e at (block_in 0 i (i + length s) (omega arith) s slash i newline star (omega arith) h (omega arith) refl) in
      p.0

-- a literal that ends past i and within hi, or has its fault, whose number is up to `last`, from lo to before hi
abbrev pub LiteralIn : ℕ → ℕ → ℕ → ℕ → Result ℕ Fault → Type 0
LiteralIn last lo i hi (Ok end) = (i < end) × (end ≤ hi)
LiteralIn last lo i hi (Err fault) = Faulted last lo hi (fault_number fault) (fault_place fault)

module _ (first low hi : ℕ) (l : first < low) where
  pub string_in : (s : List ℕ) (q i : ℕ) (taken : Bool) → low ≤ i → i + length s ≡ hi → LiteralIn open_string first low hi (string_rest q first taken i s)
  unfolding string_rest
  string_in [] q i taken h e = omega arith
  string_in (b ∷ s) q i taken h e =
      let P = LiteralIn open_string first low hi in
      cond_both P (line_end b) (omega arith)
      (cond_both P (illegal b) (omega arith)
      (cond_both P taken (string_in s q (i + 1) false (omega arith) (omega arith))
      (cond_both P (eqb b q) (omega arith)
      (string_in s q (i + 1) (eqb b backslash) (omega arith) (omega arith)))))

  pub pattern_in : (s : List ℕ) (i : ℕ) (class taken : Bool) → low ≤ i → i + length s ≡ hi
      → LiteralIn open_pattern first low hi (pattern_rest first class taken i s)
  unfolding pattern_rest
  pattern_in [] i class taken h e = omega arith
  pattern_in (b ∷ s) i class taken h e =
      let P = LiteralIn open_pattern first low hi in
      cond_both P (line_end b) (omega arith)
      (cond_both P (illegal b) (omega arith)
      (cond_both P taken (pattern_in s (i + 1) class false (omega arith) (omega arith))
      (cond_both P (eqb b backslash) (pattern_in s (i + 1) class true (omega arith) (omega arith))
      (cond_both P class (pattern_in s (i + 1) (not (eqb b (byte "]"))) false (omega arith) (omega arith))
      (cond_both P (eqb b (byte "/")) (omega (arith, run_le name_byte s))
      (pattern_in s (i + 1) (eqb b (byte "[")) false (omega arith) (omega arith)))))))

-- a string or a regular expression has a byte behind its first
module _ (s : List ℕ) (first i end : ℕ) (h : first < i) where
  pub string_reach : (q : ℕ) (taken : Bool) → string_rest q first taken i s ≡ Ok end → i < end
  string_reach q taken e =
      let p : LiteralIn open_string first i (i + length s) (Ok end) =
      rw e at (string_in first i (i + length s) h s q i taken (omega arith) refl) in
      p.0

  pub pattern_reach : (class taken : Bool) → pattern_rest first class taken i s ≡ Ok end → i < end
  pattern_reach class taken e =
      let p : LiteralIn open_pattern first i (i + length s) (Ok end) =
      rw e at (pattern_in first i (i + length s) h s i class taken (omega arith) refl) in
      p.0

-- a number starts with a digit or a dot, and has its first byte
pub starts_some : (a b c : Bool) → (a || (b && c)) ≡ true → (a || b) ≡ true
starts_some true b c e = refl
starts_some false true c e = refl
starts_some false false c e = e

module _ (b : ℕ) (s : List ℕ) (d : (digit b || eqb b (byte ".")) ≡ true) where
  pub number_in : (first hi : ℕ) → first + 1 + length s ≡ hi → LiteralIn bad_number first first hi (number_from first (b ∷ s))
  unfolding number_from
  number_in first hi e =
      cond_both (LiteralIn bad_number first first hi) (name_byte (get_or (b ∷ s) (number_length (b ∷ s)) 0))
      (omega arith) (omega (arith, number_some b s d, number_within (b ∷ s)))
