-- The bytes of an element determine it by themselves where a blank or a line end follows, and nothing past that byte
-- matters to an element or to the gap before it.
use Rattle.std.specs.Prelude.{Result, Ok, Err, Some}
use mathlib.Core.Path.{◌≡◌, refl, sym, ap, ◌∙◌}
use mathlib.Core.List.{List, [], ◌∷◌, ◌++◌, append_assoc}
use mathlib.Core.Bool.{Bool, true, false, ◌&&◌, ◌||◌}
use Prim.Native.Nat.{ℕ, ◌+◌, ◌-◌, ◌≤◌}
use native.Mathlib.Omega.{arith}
use lib.Dec.{eqb}
use lib.ListN.{length, take, drop, length-drop}
use lib.Seq.{drop_at, drop-drop, drop-append_seam, take-add, length-take-le}
use Rattle.text.specs.Quoted.{byte}
use Rattle.text.specs.Bytes.{blank, line_end, illegal}
use Rattle.answers.specs.declared.faults.Fault.{Fault}
use Rattle.gaps.specs.Gaps.{ends, gap, after_slash, in_line, in_block}
use Rattle.elements.specs.Elements.{element, element_from, after_gap, element_at}
use Rattle.gaps.specs.declared.Gap.{Gap}
use Rattle.elements.specs.declared.Element.{Element}
use Rattle.elements.specs.declared.Stated.{Stated}
use Rattle.elements.proofs.Choices.{cond_both, cond_known}
use Rattle.elements.proofs.Clashes.{no_result}
use Rattle.elements.proofs.Bounds.{Cut, from_in, Placed, found_placed}
use Rattle.elements.proofs.Shifts.{gap_own}
use Rattle.elements.proofs.Copies.{from_own}

-- where a gap ends, no further gap starts
module _ (text : List ℕ) where
  abbrev Settled : Result Gap Fault → Type 0
  Settled (Ok g) = (newline : Bool) → gap g.end newline (drop g.end text) ≡ ends g.end newline
  Settled (Err fault) = Unit

  next : (b : ℕ) (s : List ℕ) (i n : ℕ) → n ≡ i + 1 → drop i text ≡ b ∷ s → drop n text ≡ s
  next b s i n p e = rw p (sym (drop-drop 1 i text) ∙ ap (drop 1) e)

  mutual
    unfolding gap

    gap_settled : (s : List ℕ) (i : ℕ) (newline : Bool) → drop i text ≡ s → Settled (gap i newline s)
    gap_settled [] i newline e = λ l. rw e
    gap_settled (b ∷ s) i newline e =
        let n : drop (i + 1) text ≡ s = next b s i (i + 1) refl e in
        cond_known Settled (blank b) (λ p. gap_settled s (i + 1) newline n) (λ p.
        cond_known Settled (line_end b) (λ q. gap_settled s (i + 1) true n) (λ q.
        cond_known Settled (eqb b (byte "/")) (λ r. slash_settled s i newline n (λ l. rw e (rw (p, q, r, gap)))) (λ r l.
        rw e (rw (p, q, r, gap)))))

    slash_settled : (s : List ℕ) (i : ℕ) (newline : Bool) → drop (i + 1) text ≡ s
        → ((l : Bool) → gap i l (drop i text) ≡ after_slash i l s) → Settled (after_slash i newline s)
    slash_settled [] i newline e g = g
    slash_settled (b ∷ s) i newline e g =
        let n : drop (i + 2) text ≡ s = next b s (i + 1) (i + 2) (omega arith) e in
        cond_known Settled (eqb b (byte "/")) (λ p. newline_settled s (i + 2) newline n) (λ p.
        cond_known Settled (eqb b (byte "*")) (λ q. block_settled s i (i + 2) newline false n) (λ q l.
        g l ∙ rw (p, q, after_slash)))

    newline_settled : (s : List ℕ) (i : ℕ) (newline : Bool) → drop i text ≡ s → Settled (in_line i newline s)
    newline_settled [] i newline e = λ l. rw e
    newline_settled (b ∷ s) i newline e =
        let n : drop (i + 1) text ≡ s = next b s i (i + 1) refl e in
        cond_both Settled (line_end b) (gap_settled s (i + 1) true n) (cond_both Settled (illegal b) tt (newline_settled s (i + 1) newline n))

    block_settled : (s : List ℕ) (slash i : ℕ) (newline star : Bool) → drop i text ≡ s → Settled (in_block slash i newline star s)
    block_settled [] slash i newline star e = tt
    block_settled (b ∷ s) slash i newline star e =
        let n : drop (i + 1) text ≡ s = next b s i (i + 1) refl e in
        cond_both Settled (line_end b) (block_settled s slash (i + 1) true false n)
        (cond_both Settled (illegal b) tt
        (cond_both Settled (star && eqb b (byte "/")) (gap_settled s (i + 1) newline n)
        (block_settled s slash (i + 1) newline (eqb b (byte "*")) n)))

-- a text from a place on, where it is cut and goes on otherwise
cut_drop : (s w : List ℕ) (place k end : ℕ) → end ≡ place + k → place ≤ length s → drop place (take end s ++ w) ≡ take k (drop place s) ++ w
cut_drop s w place k end p h =
    rw (p, take-add place k s, append_assoc) (drop_at (take place s) (take k (drop place s) ++ w) place (length-take-le place s h))

module _ (s : List ℕ) (place : ℕ) (stated : Stated) (e : Element) (found : element_at s place stated ≡ Ok (Some e)) where
  -- the gap before an element, and the element behind it
  pub found_gap : (gap place false (drop place s) ≡ ends e.first e.newline)
      × (element_from stated e.newline e.first (drop e.first s) ≡ Ok (Some e))
  unfolding element_at
  found_gap = go (gap place false (drop place s)) refl found
    where
      go : (g : Result Gap Fault) → gap place false (drop place s) ≡ g → after_gap s stated g ≡ Ok (Some e)
          → (gap place false (drop place s) ≡ ends e.first e.newline)
          × (element_from stated e.newline e.first (drop e.first s) ≡ Ok (Some e))
      go (Ok g) f a =
          let hi = g.end + length (drop g.end s) in
          let c : Cut g.newline g.end hi e = rw a at (from_in stated g.newline g.end hi (drop g.end s) refl) in
          (rw (c.start, c.flag) f, rw (← c.start, ← c.flag) at a)
      go (Err fault) f a = no_result a

  module _ (x : ℕ) (separates : (blank x || line_end x) ≡ true) where
    -- the element's bytes, moved behind u
    pub own_bytes : (u v : List ℕ)
        → element_at (u ++ (take (e.end - e.first) (drop e.first s) ++ (x ∷ v))) (length u) stated
        ≡ Ok (Some (record { kind = e.kind; which = e.which; first = length u; end = length u + (e.end - e.first); newline = false }))
    unfolding element_at
    own_bytes u v =
        let p : Placed s place e = found_placed s place stated e found in
        let size = e.end - e.first in
        let rest = drop e.first s in
        let fits : size ≤ length rest = omega (arith, length-drop e.first s) in
        let settled : Settled s (ends e.first e.newline) = rw found_gap.0 at (gap_settled s (drop place s) place false refl) in
        let empty : gap (length u) false (take size rest ++ x ∷ v) ≡ ends (length u) false =
        gap_own x v separates e.first (length u) false rest size e.first (length u) false
        (omega arith) (omega arith) fits (settled false) in
        rw (drop-append_seam u (take size rest ++ x ∷ v), empty)
        (rw (drop-append_seam u (take size rest ++ x ∷ v))
        (from_own x v separates e e.first (length u) stated e.newline false rest size fits (omega arith) found_gap.1))

    -- the text up to the element's end, comments before the element included
    pub prefix_only : (v : List ℕ) → element_at (take e.end s ++ (x ∷ v)) place stated ≡ Ok (Some e)
    unfolding element_at
    prefix_only v =
        let p : Placed s place e = found_placed s place stated e found in
        let size = e.end - e.first in
        let span = e.end - place in
        let rest = drop e.first s in
        let fits : size ≤ length rest = omega (arith, length-drop e.first s) in
        let before : gap place false (take span (drop place s) ++ x ∷ v) ≡ ends e.first e.newline =
        gap_own x v separates e.first e.first e.newline (drop place s) span place place false
        refl (omega arith) (omega (arith, length-drop place s)) found_gap.0 in
        let last : e.first + size ≡ e.end = omega arith in
        rw (cut_drop s (x ∷ v) place span e.end (omega arith) (omega arith), before)
        (rw (cut_drop s (x ∷ v) e.first size e.end (omega arith) (omega arith))
        (from_own x v separates e e.first e.first stated e.newline e.newline rest size fits (omega arith) found_gap.1
        ∙ ap (element e.kind e.which e.newline e.first) last))
