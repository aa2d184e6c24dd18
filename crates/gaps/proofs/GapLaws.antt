-- Laws of gaps and comments at a place of the text: one for each way that a byte is taken.
use Rattle.std.specs.Prelude.{Err, IsErrAnd, Result, Ok}
use mathlib.Core.Path.{◌≡◌, refl, ap, ◌∙◌}
use mathlib.Core.List.{List, ◌∷◌}
use mathlib.Core.Bool.{Bool, true, false, ◌||◌, or-true, or-false}
use Prim.Native.Nat.{ℕ, ◌+◌, ◌<◌, ◌≤◌}
use native.Mathlib.Omega.{arith}
use borrow.Author.Tests.{eq-eqb, ne_eqb, eqb-true, eqb-false, ltb-true, ltb-false}
use lib.Dec.{eqb, ltb}
use lib.ListN.{length, get_or, drop, drop_of_length-le}
use Rattle.text.specs.Quoted.{byte}
use Rattle.text.specs.Bytes.{blank, line_end, illegal}
use Rattle.text.specs.Machinery.Codes.{turning, code_of, code_over}
use Rattle.text.specs.Runs.{run}
use Rattle.text.proofs.Lists.{drop_at}
use Rattle.text.proofs.CodeLaws.{code_passed, code_line_end, code_illegal, code_apart, over_passed}
use Rattle.answers.specs.declared.faults.Fault.{Fault}
use Rattle.gaps.specs.Gaps.{ends, gap, after_slash, in_line, in_block}

-- a line end is no blank, and no `*`
pub line_end_cases : (P : ℕ → Type 0) (b : ℕ) → P 0x0A → P 0x0D → line_end b ≡ true → P b
unfolding line_end
line_end_cases P b x y e = go (eqb b 0x0A) refl (eqb b 0x0D) refl e
  where
    go : (m : Bool) → eqb b 0x0A ≡ m → (n : Bool) → eqb b 0x0D ≡ n → (m || n) ≡ true → P b
    go true f n g z = rw (eqb-true b 0x0A f) x
    go false f true g z = rw (eqb-true b 0x0D g) y
    go false f false g z = absurd (let o : ◌≡◌ {A = ℕ} 0 1 = cc in omega arith)

not_blank : (b : ℕ) → line_end b ≡ true → blank b ≡ false
unfolding blank
not_blank b e = line_end_cases (λ k. blank k ≡ false) b refl refl e

not_star : (b : ℕ) → line_end b ≡ true → eqb b (byte "*") ≡ false
not_star b e = line_end_cases (λ k. eqb k (byte "*") ≡ false) b refl refl e

module _ (s : List ℕ) (i : ℕ) (newline : Bool) where
  pub gap_past : length s ≤ i → gap i newline (drop i s) ≡ ends i newline
  unfolding gap
  gap_past h = rw (drop_of_length-le s h)

  pub newline_past : length s ≤ i → in_line i newline (drop i s) ≡ ends i newline
  unfolding in_line
  newline_past h = rw (drop_of_length-le s h)

  module _ (h : i < length s) where
    pub gap_blank : blank (get_or s i 0) ≡ true → gap i newline (drop i s) ≡ gap (i + 1) newline (drop (i + 1) s)
    unfolding gap
    gap_blank e = rw (drop_at s i h) (rw (e, gap))

    pub gap_line_end : line_end (get_or s i 0) ≡ true → gap i newline (drop i s) ≡ gap (i + 1) true (drop (i + 1) s)
    unfolding gap
    gap_line_end e = rw (drop_at s i h) (rw (not_blank (get_or s i 0) e, e, gap))

    module _ (f : blank (get_or s i 0) ≡ false) (g : line_end (get_or s i 0) ≡ false) where
      pub gap_other : (get_or s i 0 ≡ byte "/" → ⊥) → gap i newline (drop i s) ≡ ends i newline
      unfolding gap
      gap_other e = rw (drop_at s i h) (rw (f, g, ne_eqb _ _ e, gap))

    pub gap_space : get_or s i 0 ≡ byte " " → gap i newline (drop i s) ≡ gap (i + 1) newline (drop (i + 1) s)
    unfolding blank
    gap_space e = gap_blank (rw e refl)

    pub gap_over_slash : byte "/" < get_or s i 0 → gap i newline (drop i s) ≡ ends i newline
    unfolding blank line_end
    gap_over_slash k =
        gap_other
        (rw (ne_eqb (get_or s i 0) 0x09 (omega arith), ne_eqb (get_or s i 0) 0x0B (omega arith), ne_eqb (get_or s i 0) 0x0C (omega arith), ne_eqb (get_or s i 0) 0x20 (omega arith)))
        (rw (ne_eqb (get_or s i 0) 0x0A (omega arith), ne_eqb (get_or s i 0) 0x0D (omega arith)))
        (omega arith)

    -- at a slash
    module _ (e : get_or s i 0 ≡ byte "/") where
      gap_slash : gap i newline (drop i s) ≡ after_slash i newline (drop (i + 1) s)
      unfolding gap blank line_end
      gap_slash = rw (drop_at s i h) (rw e)

      pub slash_last : i + 1 ≡ length s → gap i newline (drop i s) ≡ ends i newline
      unfolding gap
      slash_last n = gap_slash ∙ rw (drop_of_length-le s {i = i + 1} (omega arith))

      module _ (n : i + 1 < length s) where
        next : drop (i + 1) s ≡ get_or s (i + 1) 0 ∷ drop (i + 2) s
        next =
            let e : i + 1 + 1 ≡ i + 2 = omega arith in
            rw e at (drop_at s (i + 1) n)

        pub slash_newline : get_or s (i + 1) 0 ≡ byte "/" → gap i newline (drop i s) ≡ in_line (i + 2) newline (drop (i + 2) s)
        unfolding gap
        slash_newline d = gap_slash ∙ rw (next, eq-eqb _ _ d)

        pub slash_block : get_or s (i + 1) 0 ≡ byte "*" → gap i newline (drop i s) ≡ in_block i (i + 2) newline false (drop (i + 2) s)
        unfolding gap
        slash_block d = gap_slash ∙ rw next (rw d)

        pub slash_alone : (get_or s (i + 1) 0 ≡ byte "/" → ⊥) → (get_or s (i + 1) 0 ≡ byte "*" → ⊥) → gap i newline (drop i s) ≡ ends i newline
        unfolding gap
        slash_alone d n = gap_slash ∙ rw (next, ne_eqb _ _ d, ne_eqb _ _ n)

    -- in a `//`
    pub line_ends : code_of (get_or s i 0) ≡ 1 → in_line i newline (drop i s) ≡ gap i newline (drop i s)
    unfolding in_line
    line_ends k = rw (drop_at s i h) (rw (not_blank (get_or s i 0) (code_line_end (get_or s i 0) k), code_line_end (get_or s i 0) k, gap))

    pub newline_stray : code_of (get_or s i 0) ≡ 0 → in_line i newline (drop i s) ≡ Err (Fault.Stray i)
    unfolding in_line
    newline_stray k =
        let f = code_illegal (get_or s i 0) k in
        rw (drop_at s i h) (rw (f.0, f.1, in_line))

    newline_more : 1 < code_of (get_or s i 0) → in_line i newline (drop i s) ≡ in_line (i + 1) newline (drop (i + 1) s)
    unfolding in_line
    newline_more k =
        let f = code_passed (get_or s i 0) k in
        rw (drop_at s i h) (rw (f.0, f.1, in_line))

-- In a `/*`. A `*` before the place matters only where a slash stands there, so that the loop needs no memory of it: it looks
-- ahead at each `*`.
module _ (slash : ℕ) (s : List ℕ) (i : ℕ) (newline : Bool) where
  pub block_past : length s ≤ i → in_block slash i newline false (drop i s) ≡ Err (Fault.OpenComment slash)
  unfolding in_block
  block_past h = rw (drop_of_length-le s h)

  -- a star before the place is forgotten where no slash stands there
  star_forgotten : (get_or s i 0 ≡ byte "/" → ⊥) → in_block slash i newline true (drop i s) ≡ in_block slash i newline false (drop i s)
  unfolding in_block
  star_forgotten n = go (ltb i (length s)) refl
    where
      go : (b : Bool) → ltb i (length s) ≡ b → in_block slash i newline true (drop i s) ≡ in_block slash i newline false (drop i s)
      go true e = rw (drop_at s i (ltb-true i (length s) e), ne_eqb (get_or s i 0) (byte "/") n)
      go false e = rw (drop_of_length-le s (ltb-false i (length s) e))

  module _ (h : i < length s) where
    pub block_stray : code_of (get_or s i 0) ≡ 0 → in_block slash i newline false (drop i s) ≡ Err (Fault.Stray i)
    unfolding in_block
    block_stray k =
        let f = code_illegal (get_or s i 0) k in
        rw (drop_at s i h) (rw (f.0, f.1, in_block))

    pub block_line_end : code_of (get_or s i 0) ≡ 1 → in_block slash i newline false (drop i s) ≡ in_block slash (i + 1) true false (drop (i + 1) s)
    unfolding in_block
    block_line_end k = rw (drop_at s i h) (rw (code_line_end (get_or s i 0) k, in_block))

    module _ (k : 1 < code_of (get_or s i 0)) where
      passed : in_block slash i newline false (drop i s) ≡ in_block slash (i + 1) newline (eqb (get_or s i 0) (byte "*")) (drop (i + 1) s)
      unfolding in_block
      passed =
          let f = code_passed (get_or s i 0) k in
          rw (drop_at s i h) (rw (f.0, f.1, in_block))

      pub block_more : (get_or s i 0 ≡ byte "*" → ⊥) → in_block slash i newline false (drop i s) ≡ in_block slash (i + 1) newline false (drop (i + 1) s)
      block_more n = rw (ne_eqb _ _ n) at passed

      module _ (e : get_or s i 0 ≡ byte "*") where
        starred : in_block slash i newline false (drop i s) ≡ in_block slash (i + 1) newline true (drop (i + 1) s)
        starred = rw (eq-eqb _ _ e) at passed

    -- a byte that does not turn
    block_quiet : 2 < code_of (get_or s i 0) → in_block slash i newline false (drop i s) ≡ in_block slash (i + 1) newline false (drop (i + 1) s)
    unfolding turning
    block_quiet q = block_more (omega arith) (code_apart (get_or s i 0) (byte "*") q refl)

-- a run of bytes whose codes are over those at which a comment may do otherwise than go on
pub line_passed : (s : List ℕ) (newline : Bool) (i end : ℕ) → end ≡ i + run (code_over 1) (drop i s)
    → in_line i newline (drop i s) ≡ in_line end newline (drop end s)
line_passed s newline = over_passed 1 s (λ j. in_line j newline (drop j s)) (λ j. newline_more s j newline)

pub block_passed : (slash : ℕ) (s : List ℕ) (newline : Bool) (i end : ℕ) → end ≡ i + run (code_over 2) (drop i s)
    → in_block slash i newline false (drop i s) ≡ in_block slash end newline false (drop end s)
block_passed slash s newline = over_passed 2 s (λ j. in_block slash j newline false (drop j s)) (λ j. block_quiet slash s j newline)

-- a `*` at a place, and what follows it
module _ (slash : ℕ) (s : List ℕ) (i : ℕ) (newline : Bool) (h : i < length s) (k : 1 < code_of (get_or s i 0)) (e : get_or s i 0 ≡ byte "*") where
  pub block_star : (get_or s (i + 1) 0 ≡ byte "/" → ⊥) → in_block slash i newline false (drop i s) ≡ in_block slash (i + 1) newline false (drop (i + 1) s)
  block_star n = starred slash s i newline h k e ∙ star_forgotten slash s (i + 1) newline n

  pub block_close : i + 1 < length s → get_or s (i + 1) 0 ≡ byte "/" → in_block slash i newline false (drop i s) ≡ gap (i + 2) newline (drop (i + 2) s)
  unfolding in_block line_end illegal blank
  block_close n d =
      let next : i + 1 + 1 ≡ i + 2 = omega arith in
      rw next at (starred slash s i newline h k e ∙ closed (i + 1) n d)
    where
      closed : (j : ℕ) → j < length s → get_or s j 0 ≡ byte "/" → in_block slash j newline true (drop j s) ≡ gap (j + 1) newline (drop (j + 1) s)
      closed j m q = rw (drop_at s j m) (rw q)

-- a `*` is legal, and ends no line
pub star_legal : (b : ℕ) → b ≡ byte "*" → 1 < code_of b
unfolding code_of line_end illegal blank turning
star_legal b e = rw e (omega arith)

-- a legal byte that does not close the comment
pub block_on : (slash : ℕ) (s : List ℕ) (i : ℕ) (newline : Bool) → i < length s → (code_of (get_or s i 0) ≡ 0 → ⊥)
    → (get_or s i 0 ≡ byte "*" → get_or s (i + 1) 0 ≡ byte "/" → ⊥)
    → in_block slash i newline false (drop i s) ≡ in_block slash (i + 1) (newline || eqb (code_of (get_or s i 0)) 1) false (drop (i + 1) s)
block_on slash s i newline h legal left =
    go (eqb (code_of (get_or s i 0)) 1) refl (eqb (get_or s i 0) (byte "*")) refl
  where
    go : (t : Bool) → eqb (code_of (get_or s i 0)) 1 ≡ t → (u : Bool) → eqb (get_or s i 0) (byte "*") ≡ u
        → in_block slash i newline false (drop i s) ≡ in_block slash (i + 1) (newline || t) false (drop (i + 1) s)
    go true e u f = rw (or-true newline) (block_line_end slash s i newline h (eqb-true _ 1 e))
    go false e true f =
        let n = eqb-false (code_of (get_or s i 0)) 1 e in
        let star = eqb-true (get_or s i 0) (byte "*") f in
        rw (or-false newline) (block_star slash s i newline h (omega (arith, legal, n)) star (left star))
    go false e false f =
        let n = eqb-false (code_of (get_or s i 0)) 1 e in
        rw (or-false newline) (block_more slash s i newline h (omega (arith, legal, n)) (eqb-false (get_or s i 0) (byte "*") f))

-- a fault that is handed on is the same
pub handed : {T : Type 0} (r : Result T Fault) (fault : Fault) → IsErrAnd r (λ e. e ≡ fault) → r ≡ Err fault
handed (Ok x) fault h = absurd h
handed (Err e) fault h = ap Err h
