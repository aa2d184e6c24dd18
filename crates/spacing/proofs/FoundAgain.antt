-- An element that was written, with a blank or a line end behind it, is found again: the same but for its position.
use Rattle.std.specs.Prelude.{Ok, Some, None}
use mathlib.Core.Path.{◌≡◌, refl, sym, ap, ◌∙◌}
use mathlib.Core.List.{List, [], ◌∷◌, ◌++◌, append_assoc}
use mathlib.Core.Bool.{Bool, true, false, ◌||◌}
use Prim.Native.Nat.{ℕ, ◌+◌, ◌-◌}
use native.Mathlib.Omega.{arith}
use lib.ListN.{length, length-append}
use lib.Seq.{take_at, drop-append_seam}
use Rattle.text.specs.Bytes.{blank, line_end}
use Rattle.elements.specs.Elements.{element_at}
use Rattle.elements.specs.declared.Element.{Element}
use Rattle.elements.specs.declared.Stated.{Stated}
use Rattle.elements.proofs.Bounds.{Placed, found_placed, past_end}
use Rattle.elements.proofs.Separators.{lined, blank_first, line_end_first}
use Rattle.elements.proofs.OwnBytes.{own_bytes}
use Rattle.elements.specs.Lexemes.{bytes_of}
use Rattle.spacing.specs.Respaced.{line_feed, space, separator, add_element}
use Rattle.spacing.proofs.OverLaws.{bytes_length}

-- an element from `first` on, behind a line end or not
abbrev pub moved : Element → ℕ → Bool → Element
moved e first newline = record { kind = e.kind; which = e.which; first = first; end = first + (e.end - e.first); newline = newline }

module _ (s : List ℕ) (place : ℕ) (stated : Stated) (e : Element) (found : element_at s place stated ≡ Ok (Some e))
    (x : ℕ) (separates : (blank x || line_end x) ≡ true) (v : List ℕ) where
  -- the element's bytes, and what follows them
  abbrev tail : List ℕ
  tail = bytes_of s e.first e.end ++ x ∷ v

  -- behind one byte more
  behind : (written : List ℕ) (b : ℕ) → element_at (written ++ b ∷ tail) (length written + 1) stated ≡ Ok (Some (moved e (length written + 1) false))
  behind written b =
      let size : length (written ++ (b ∷ [])) ≡ length written + 1 = length-append written (b ∷ []) in
      let own = own_bytes s place stated e found x separates (written ++ (b ∷ [])) v in
      rw (size, append_assoc written (b ∷ []) tail) at own

  after-separator : (written : List ℕ) (newline : Bool)
      → element_at ((written ++ separator written newline) ++ tail) (length written) stated ≡ Ok (Some (moved e (length (written ++ separator written newline)) newline))
  unfolding blank line_end
  after-separator [] true = line_end_first [] tail line_feed stated refl ∙ ap lined (behind [] line_feed)
  after-separator [] false = own_bytes s place stated e found x separates [] v
  after-separator (b ∷ written) true =
      rw (append_assoc (b ∷ written) (line_feed ∷ []) tail, length-append (b ∷ written) (line_feed ∷ []))
      (line_end_first (b ∷ written) tail line_feed stated refl ∙ ap lined (behind (b ∷ written) line_feed))
  after-separator (b ∷ written) false =
      rw (append_assoc (b ∷ written) (space ∷ []) tail, length-append (b ∷ written) (space ∷ []))
      (blank_first (b ∷ written) tail space stated refl ∙ behind (b ∷ written) space)

  -- the text that goes on so, and where the element stands in it
  module _ (written : List ℕ) (newline : Bool) where
    abbrev again : List ℕ
    again = add_element s written e.first e.end newline ++ x ∷ v

    abbrev start : ℕ
    start = length (written ++ separator written newline)

    parts : again ≡ (written ++ separator written newline) ++ tail
    unfolding add_element
    parts = simp append_assoc

    size : length (bytes_of s e.first e.end) ≡ e.end - e.first
    size =
        let p : Placed s place e = found_placed s place stated e found in
        bytes_length s e.first e.end (omega (arith, p.some)) p.within

    pub found_again : element_at again (length written) stated ≡ Ok (Some (moved e start newline))
    found_again = rw parts (after-separator written newline)

    -- its end is that of what is written
    pub found_end : length (add_element s written e.first e.end newline) ≡ start + (e.end - e.first)
    unfolding add_element
    found_end = rw (← append_assoc written (separator written newline) (bytes_of s e.first e.end), length-append (written ++ separator written newline) (bytes_of s e.first e.end), size)

    pub found_bytes : bytes_of s e.first e.end ≡ bytes_of again start (start + (e.end - e.first))
    found_bytes =
        let span : start + (e.end - e.first) - start ≡ e.end - e.first = omega arith in
        sym (rw (parts, span, drop-append_seam (written ++ separator written newline) tail) (take_at (bytes_of s e.first e.end) (x ∷ v) (e.end - e.first) size))

-- behind the last element a text has one 0A, and no element more
pub nothing_more : (written : List ℕ) (stated : Stated) → element_at (written ++ (line_feed ∷ [])) (length written) stated ≡ Ok None
unfolding line_end
nothing_more written stated =
    line_end_first written [] line_feed stated refl
    ∙ ap lined (past_end (written ++ (line_feed ∷ [])) (length written + 1) stated (omega (arith, length-append written (line_feed ∷ []))))
