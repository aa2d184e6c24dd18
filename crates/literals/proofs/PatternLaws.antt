-- Laws of `pattern_rest` at a place of the text: one for each way that a byte is taken.
use Rattle.std.specs.Prelude.{Ok, Err}
use mathlib.Core.Path.{◌≡◌, refl, ◌∙◌}
use mathlib.Core.List.{List}
use mathlib.Core.Bool.{Bool, true, false, not}
use Prim.Native.Nat.{ℕ, ◌+◌, ◌<◌, ◌≤◌}
use native.Mathlib.Omega.{arith}
use borrow.Author.Tests.{eq-eqb, ne_eqb}
use lib.Dec.{eqb}
use lib.ListN.{length, get_or, drop, drop_of_length-le}
use Rattle.text.specs.Quoted.{byte}
use Rattle.text.specs.Bytes.{name_byte}
use Rattle.text.specs.Machinery.Codes.{turning, code_of, code_over}
use Rattle.text.specs.Runs.{run}
use Rattle.text.proofs.Lists.{drop_at}
use Rattle.text.proofs.CodeLaws.{code_passed, code_line_end, code_illegal, code_apart, over_passed}
use Rattle.answers.specs.declared.faults.Fault.{Fault}
use Rattle.literals.specs.Strings.{backslash}
use Rattle.literals.specs.Patterns.{pattern_rest}

module _ (first : ℕ) (s : List ℕ) (i : ℕ) where
  pub pattern_past : (class taken : Bool) → length s ≤ i → pattern_rest first class taken i (drop i s) ≡ Err (Fault.OpenPattern first)
  unfolding pattern_rest
  pattern_past class taken h = rw (drop_of_length-le s h)

  module _ (h : i < length s) where
    pub pattern_newline : (class taken : Bool) → code_of (get_or s i 0) ≡ 1
        → pattern_rest first class taken i (drop i s) ≡ Err (Fault.OpenPattern first)
    unfolding pattern_rest
    pattern_newline class taken k = rw (drop_at s i h) (rw (code_line_end (get_or s i 0) k, pattern_rest))

    pub pattern_stray : (class taken : Bool) → code_of (get_or s i 0) ≡ 0 → pattern_rest first class taken i (drop i s) ≡ Err (Fault.Stray i)
    unfolding pattern_rest
    pattern_stray class taken k =
        let f = code_illegal (get_or s i 0) k in
        rw (drop_at s i h) (rw (f.0, f.1, pattern_rest))

    module _ (k : 1 < code_of (get_or s i 0)) where
      pub pattern_taken : (class : Bool) → pattern_rest first class true i (drop i s) ≡ pattern_rest first class false (i + 1) (drop (i + 1) s)
      unfolding pattern_rest
      pattern_taken class =
          let f = code_passed (get_or s i 0) k in
          rw (drop_at s i h) (rw (f.0, f.1, pattern_rest))

      pub pattern_backslash : (class : Bool) → get_or s i 0 ≡ backslash
          → pattern_rest first class false i (drop i s) ≡ pattern_rest first class true (i + 1) (drop (i + 1) s)
      unfolding pattern_rest
      pattern_backslash class e =
          let f = code_passed (get_or s i 0) k in
          rw (drop_at s i h) (rw (f.0, f.1, eq-eqb _ _ e, pattern_rest))

      module _ (n : get_or s i 0 ≡ backslash → ⊥) where
        pub pattern_class : pattern_rest first true false i (drop i s) ≡ pattern_rest first (not (eqb (get_or s i 0) (byte "]"))) false (i + 1) (drop (i + 1) s)
        unfolding pattern_rest
        pattern_class =
            let f = code_passed (get_or s i 0) k in
            rw (drop_at s i h) (rw (f.0, f.1, ne_eqb _ _ n, pattern_rest))

        pub pattern_close : get_or s i 0 ≡ byte "/" → pattern_rest first false false i (drop i s) ≡ Ok (i + 1 + run name_byte (drop (i + 1) s))
        unfolding pattern_rest
        pattern_close e =
            let f = code_passed (get_or s i 0) k in
            rw (drop_at s i h) (rw (f.0, f.1, ne_eqb _ _ n, eq-eqb _ _ e, pattern_rest))

        pub pattern_more : (get_or s i 0 ≡ byte "/" → ⊥)
            → pattern_rest first false false i (drop i s) ≡ pattern_rest first (eqb (get_or s i 0) (byte "[")) false (i + 1) (drop (i + 1) s)
        unfolding pattern_rest
        pattern_more e =
            let f = code_passed (get_or s i 0) k in
            rw (drop_at s i h) (rw (f.0, f.1, ne_eqb _ _ n, ne_eqb _ _ e, pattern_rest))

      -- a byte that no backslash takes, and that neither is one nor closes: by whether a class is left open
      pub pattern_goes : (get_or s i 0 ≡ backslash → ⊥) → (class next : Bool) → (class ≡ true → not (eqb (get_or s i 0) (byte "]")) ≡ next)
          → (class ≡ false → (get_or s i 0 ≡ byte "/" → ⊥) × (eqb (get_or s i 0) (byte "[") ≡ next))
          → pattern_rest first class false i (drop i s) ≡ pattern_rest first next false (i + 1) (drop (i + 1) s)
      pattern_goes n true next f g = rw (f refl) at (pattern_class n)
      pattern_goes n false next f g = rw (g refl).1 at (pattern_more n (g refl).0)

    -- a byte that does not turn, in a class or not, and whether a backslash takes it or not
    pattern_quiet : 2 < code_of (get_or s i 0) → (class taken : Bool)
        → pattern_rest first class taken i (drop i s) ≡ pattern_rest first class false (i + 1) (drop (i + 1) s)
    unfolding turning
    pattern_quiet k class true = pattern_taken (omega arith) class
    pattern_quiet k true false =
        rw (ne_eqb _ _ (code_apart (get_or s i 0) (byte "]") k refl)) at (pattern_class (omega arith) (code_apart (get_or s i 0) backslash k refl))
    pattern_quiet k false false =
        rw (ne_eqb _ _ (code_apart (get_or s i 0) (byte "[") k refl)) at
        (pattern_more (omega arith) (code_apart (get_or s i 0) backslash k refl) (code_apart (get_or s i 0) (byte "/") k refl))

-- such a byte, and the run of them behind it
pub pattern_passed : (first : ℕ) (s : List ℕ) (i : ℕ) → i < length s → 2 < code_of (get_or s i 0) → (class taken : Bool)
    → (end : ℕ) → end ≡ i + 1 + run (code_over 2) (drop (i + 1) s)
    → pattern_rest first class taken i (drop i s) ≡ pattern_rest first class false end (drop end s)
pattern_passed first s i h k class taken end r =
    pattern_quiet first s i h k class taken
    ∙ over_passed 2 s (λ j. pattern_rest first class false j (drop j s)) (λ j l m. pattern_quiet first s j l m class false) (i + 1) end r
