-- Laws of `string_rest` at a place of the text: one for each way that a byte is taken.
use Rattle.std.specs.Prelude.{Ok, Err}
use mathlib.Core.Path.{◌≡◌, refl, ◌∙◌}
use mathlib.Core.List.{List}
use mathlib.Core.Bool.{Bool, true, false, ◌||◌}
use Prim.Native.Nat.{ℕ, ◌+◌, ◌<◌, ◌≤◌}
use native.Mathlib.Omega.{arith}
use borrow.Author.Tests.{eq-eqb, ne_eqb, eqb-true}
use lib.Dec.{eqb}
use lib.ListN.{length, get_or, drop, drop_of_length-le}
use Rattle.text.specs.Quoted.{byte}
use Rattle.text.specs.Machinery.Codes.{turning, code_of, code_over}
use Rattle.text.specs.Runs.{run}
use Rattle.text.proofs.Lists.{drop_at}
use Rattle.text.proofs.CodeLaws.{code_passed, code_line_end, code_illegal, code_apart, over_passed}
use Rattle.answers.specs.declared.faults.Fault.{Fault}
use Rattle.literals.specs.Strings.{quote, string_rest, backslash}

-- a quote is a turning byte
quote_turns : (q : ℕ) → quote q ≡ true → turning q ≡ true
unfolding quote turning
quote_turns q e = go (eqb q (byte "'")) refl (eqb q 0x22) refl e
  where
    go : (m : Bool) → eqb q (byte "'") ≡ m → (n : Bool) → eqb q 0x22 ≡ n → (m || n) ≡ true → turning q ≡ true
    go true f n g z = rw (eqb-true q (byte "'") f)
    go false f true g z = rw (eqb-true q 0x22 g)
    go false f false g z = absurd (let o : ◌≡◌ {A = ℕ} 0 1 = cc in omega arith)

module _ (q first : ℕ) (s : List ℕ) (i : ℕ) where
  pub string_past : (taken : Bool) → length s ≤ i → string_rest q first taken i (drop i s) ≡ Err (Fault.OpenString first)
  unfolding string_rest
  string_past taken h = rw (drop_of_length-le s h)

  module _ (h : i < length s) where
    pub string_newline : (taken : Bool) → code_of (get_or s i 0) ≡ 1 → string_rest q first taken i (drop i s) ≡ Err (Fault.OpenString first)
    unfolding string_rest
    string_newline taken k = rw (drop_at s i h) (rw (code_line_end (get_or s i 0) k, string_rest))

    pub string_stray : (taken : Bool) → code_of (get_or s i 0) ≡ 0 → string_rest q first taken i (drop i s) ≡ Err (Fault.Stray i)
    unfolding string_rest
    string_stray taken k =
        let f = code_illegal (get_or s i 0) k in
        rw (drop_at s i h) (rw (f.0, f.1, string_rest))

    module _ (k : 1 < code_of (get_or s i 0)) where
      pub string_taken : string_rest q first true i (drop i s) ≡ string_rest q first false (i + 1) (drop (i + 1) s)
      unfolding string_rest
      string_taken =
          let f = code_passed (get_or s i 0) k in
          rw (drop_at s i h) (rw (f.0, f.1, string_rest))

      pub string_close : get_or s i 0 ≡ q → string_rest q first false i (drop i s) ≡ Ok (i + 1)
      unfolding string_rest
      string_close e =
          let f = code_passed (get_or s i 0) k in
          rw (drop_at s i h) (rw (f.0, f.1, eq-eqb _ _ e, string_rest))

      pub string_more : (get_or s i 0 ≡ q → ⊥)
          → string_rest q first false i (drop i s) ≡ string_rest q first (eqb (get_or s i 0) backslash) (i + 1) (drop (i + 1) s)
      unfolding string_rest
      string_more e =
          let f = code_passed (get_or s i 0) k in
          rw (drop_at s i h) (rw (f.0, f.1, ne_eqb _ _ e, string_rest))

    -- a byte that does not turn, whether a backslash takes it or not
    string_quiet : quote q ≡ true → 2 < code_of (get_or s i 0) → (taken : Bool)
        → string_rest q first taken i (drop i s) ≡ string_rest q first false (i + 1) (drop (i + 1) s)
    unfolding turning
    string_quiet e k true = string_taken (omega arith)
    string_quiet e k false =
        rw (ne_eqb _ _ (code_apart (get_or s i 0) backslash k refl)) at (string_more (omega arith) (code_apart (get_or s i 0) q k (quote_turns q e)))

-- such a byte, and the run of them behind it
pub string_passed : (q first : ℕ) (s : List ℕ) (i : ℕ) → i < length s → quote q ≡ true → 2 < code_of (get_or s i 0) → (taken : Bool)
    → (end : ℕ) → end ≡ i + 1 + run (code_over 2) (drop (i + 1) s) → string_rest q first taken i (drop i s) ≡ string_rest q first false end (drop end s)
string_passed q first s i h e k taken end r =
    string_quiet q first s i h e k taken
    ∙ over_passed 2 s (λ j. string_rest q first false j (drop j s)) (λ j l m. string_quiet q first s j l e m false) (i + 1) end r
