-- What a blank or a line end in front of an element does: the first nothing, the second sets the element's newline flag.
use Rattle.std.specs.Prelude.{Result, Ok, Err, Some, None, Option}
use mathlib.Core.Path.{◌≡◌, refl}
use mathlib.Core.List.{List, [], ◌∷◌, ◌++◌}
use mathlib.Core.Bool.{Bool, true, false, ◌&&◌, ◌||◌}
use Prim.Native.Nat.{ℕ, ◌+◌, ◌<◌}
use native.Mathlib.Omega.{arith}
use lib.Dec.{eqb}
use lib.ListN.{length, get_or, take, drop, length-append}
use lib.Seq.{get_or-append_seam}
use Rattle.text.specs.Quoted.{byte}
use Rattle.text.specs.Bytes.{blank, line_end, illegal, letter, name_byte}
use Rattle.text.specs.Runs.{run}
use Rattle.words.specs.Words.{word_number, taken}
use Rattle.signs.specs.Signs.{longest_sign}
use Rattle.signs.specs.declared.Sign.{Sign}
use Rattle.answers.specs.declared.faults.Fault.{Fault}
use Rattle.gaps.specs.Gaps.{ends, gap, after_slash, in_line, in_block}
use Rattle.numbers.specs.Numbers.{starts_number, number_from}
use Rattle.literals.specs.Strings.{quote, string_rest}
use Rattle.literals.specs.Patterns.{pattern_rest}
use Rattle.elements.specs.Elements.{
  literal_element,
  named,
  sign_or_stray,
  element_from,
  after_gap,
  element_at,
  number_kind,
  string_kind,
  pattern_kind,
}
use Rattle.gaps.specs.declared.Gap.{Gap}
use Rattle.elements.specs.Elements.{Next}
use Rattle.elements.specs.declared.Stated.{Stated}
use Rattle.elements.proofs.Choices.{cond_map}
use Rattle.gaps.proofs.GapLaws.{gap_blank, gap_line_end}

-- an answer whose element, if it has one, stands behind a line end
abbrev pub lined : Next → Next
lined (Ok None) = Ok None
lined (Ok (Some e)) = Ok (Some (record { kind = e.kind; which = e.which; first = e.first; end = e.end; newline = true }))
lined (Err fault) = Err fault

abbrev lined_gap : Result Gap Fault → Result Gap Fault
lined_gap (Ok g) = ends g.end true
lined_gap (Err fault) = Err fault

-- a line end before a gap is one in it, and decides nothing else
mutual
  unfolding gap

  gap_lined : (s : List ℕ) (i : ℕ) (newline : Bool) → gap i true s ≡ lined_gap (gap i newline s)
  gap_lined [] i newline = refl
  gap_lined (b ∷ s) i newline =
      cond_map lined_gap (blank b) (gap_lined s (i + 1) newline)
      (cond_map lined_gap (line_end b) (gap_lined s (i + 1) true)
      (cond_map lined_gap (eqb b (byte "/")) (slash_lined s i newline) refl))

  slash_lined : (s : List ℕ) (i : ℕ) (newline : Bool) → after_slash i true s ≡ lined_gap (after_slash i newline s)
  slash_lined [] i newline = refl
  slash_lined (b ∷ s) i newline =
      cond_map lined_gap (eqb b (byte "/")) (in_newline_lined s (i + 2) newline)
      (cond_map lined_gap (eqb b (byte "*")) (in_block_lined s i (i + 2) newline false) refl)

  in_newline_lined : (s : List ℕ) (i : ℕ) (newline : Bool) → in_line i true s ≡ lined_gap (in_line i newline s)
  in_newline_lined [] i newline = refl
  in_newline_lined (b ∷ s) i newline =
      cond_map lined_gap (line_end b) (gap_lined s (i + 1) true) (cond_map lined_gap (illegal b) refl (in_newline_lined s (i + 1) newline))

  in_block_lined : (s : List ℕ) (slash i : ℕ) (newline star : Bool) → in_block slash i true star s ≡ lined_gap (in_block slash i newline star s)
  in_block_lined [] slash i newline star = refl
  in_block_lined (b ∷ s) slash i newline star =
      cond_map lined_gap (line_end b) (in_block_lined s slash (i + 1) true false)
      (cond_map lined_gap (illegal b) refl
      (cond_map lined_gap (star && eqb b (byte "/")) (gap_lined s (i + 1) newline)
      (in_block_lined s slash (i + 1) newline (eqb b (byte "*")))))

-- the element does not depend on it otherwise
module _ (newline : Bool) (first : ℕ) where
  literal_lined : (kind : ℕ) (l : Result ℕ Fault) → literal_element kind true first l ≡ lined (literal_element kind newline first l)
  literal_lined kind (Ok end) = refl
  literal_lined kind (Err fault) = refl

  named_lined : (asName : Bool) (s : List ℕ) → named asName true first s ≡ lined (named asName newline first s)
  unfolding named
  named_lined asName s =
      let word = word_number (take (run name_byte s) s) in
      cond_map lined (eqb word 0 || asName) refl (cond_map lined (taken word) refl refl)

  sign_lined : (l : Option Sign) → sign_or_stray true first l ≡ lined (sign_or_stray newline first l)
  sign_lined None = refl
  sign_lined (Some sign) = refl

  from_lined : (stated : Stated) (s : List ℕ) → element_from stated true first s ≡ lined (element_from stated newline first s)
  unfolding element_from
  from_lined stated [] = refl
  from_lined stated (b ∷ s) =
      cond_map lined (letter b) (named_lined stated.name (b ∷ s))
      (cond_map lined (starts_number (b ∷ s)) (literal_lined number_kind (number_from first (b ∷ s)))
      (cond_map lined (quote b) (literal_lined string_kind (string_rest b first false (first + 1) s))
      (cond_map lined (stated.pattern && eqb b (byte "/")) (literal_lined pattern_kind (pattern_rest first false false (first + 1) s))
      (sign_lined (longest_sign (b ∷ s))))))

after_lined : (s : List ℕ) (stated : Stated) (g : Result Gap Fault) → after_gap s stated (lined_gap g) ≡ lined (after_gap s stated g)
after_lined s stated (Ok g) = from_lined g.newline g.end stated (drop g.end s)
after_lined s stated (Err fault) = refl

module _ (s : List ℕ) (place : ℕ) (stated : Stated) (h : place < length s) where
  pub blank_skipped : blank (get_or s place 0) ≡ true → element_at s place stated ≡ element_at s (place + 1) stated
  unfolding element_at
  blank_skipped e = rw (gap_blank s place false h e)

  pub line_end_skipped : line_end (get_or s place 0) ≡ true → element_at s place stated ≡ lined (element_at s (place + 1) stated)
  unfolding element_at
  line_end_skipped e =
      rw (gap_line_end s place false h e, gap_lined (drop (place + 1) s) (place + 1) false)
      (after_lined s stated (gap (place + 1) false (drop (place + 1) s)))

-- the same, where the text is given by its parts
module _ (u v : List ℕ) (x : ℕ) (stated : Stated) where
  inside : length u < length (u ++ x ∷ v)
  inside = omega (arith, length-append u (x ∷ v))

  pub blank_first : blank x ≡ true → element_at (u ++ x ∷ v) (length u) stated ≡ element_at (u ++ x ∷ v) (length u + 1) stated
  blank_first e = blank_skipped (u ++ x ∷ v) (length u) stated inside (rw (get_or-append_seam u x v 0) e)

  pub line_end_first : line_end x ≡ true → element_at (u ++ x ∷ v) (length u) stated ≡ lined (element_at (u ++ x ∷ v) (length u + 1) stated)
  line_end_first e = line_end_skipped (u ++ x ∷ v) (length u) stated inside (rw (get_or-append_seam u x v 0) e)
