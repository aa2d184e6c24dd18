-- An element that is found has one of the kinds 0 to 6.
use Rattle.std.specs.Prelude.{Result, Ok, Err, Some, None, Option}
use mathlib.Core.Path.{◌≡◌}
use mathlib.Core.List.{List, [], ◌∷◌}
use mathlib.Core.Bool.{Bool, false, ◌&&◌, ◌||◌}
use Prim.Native.Nat.{ℕ, ◌+◌, ◌≤◌}
use native.Mathlib.Omega.{arith}
use lib.Dec.{eqb}
use lib.ListN.{take, drop}
use Rattle.text.specs.Quoted.{byte}
use Rattle.text.specs.Bytes.{letter, name_byte}
use Rattle.text.specs.Runs.{run}
use Rattle.words.specs.Words.{word_number, taken}
use Rattle.signs.specs.Signs.{longest_sign}
use Rattle.signs.specs.declared.Sign.{Sign}
use Rattle.answers.specs.declared.faults.Fault.{Fault}
use Rattle.gaps.specs.Gaps.{gap}
use Rattle.numbers.specs.Numbers.{starts_number, number_from}
use Rattle.literals.specs.Strings.{quote, string_rest}
use Rattle.literals.specs.Patterns.{pattern_rest}
use Rattle.elements.specs.Elements.{literal_element, named, delimiter, sign_or_stray, element_from, after_gap, element_at, number_kind, string_kind, pattern_kind}
use Rattle.gaps.specs.declared.Gap.{Gap}
use Rattle.elements.specs.declared.Element.{Element}
use Rattle.elements.specs.Elements.{Next}
use Rattle.elements.specs.declared.Stated.{Stated}
use Rattle.elements.proofs.Choices.{cond_both}

abbrev KindIn : Next → Type 0
KindIn (Ok None) = Unit {0}
KindIn (Ok (Some e)) = e.kind ≤ 6
KindIn (Err fault) = Unit {0}

literal_kind : (kind : ℕ) → kind ≤ 6 → (newline : Bool) (first : ℕ) (l : Result ℕ Fault) → KindIn (literal_element kind newline first l)
literal_kind kind h newline first (Ok end) = h
literal_kind kind h newline first (Err fault) = tt

sign-kind : (newline : Bool) (first : ℕ) (l : Option Sign) → KindIn (sign_or_stray newline first l)
sign-kind newline first None = tt
sign-kind newline first (Some sign) = cond_both (λ k. k ≤ 6) (delimiter sign.number) (omega arith) (omega arith)

named_kind : (asName newline : Bool) (first : ℕ) (s : List ℕ) → KindIn (named asName newline first s)
unfolding named
named_kind asName newline first s =
    let word = word_number (take (run name_byte s) s) in
    cond_both KindIn (eqb word 0 || asName) (omega arith) (cond_both KindIn (taken word) (omega arith) tt)

from_kind : (stated : Stated) (newline : Bool) (first : ℕ) (s : List ℕ) → KindIn (element_from stated newline first s)
unfolding element_from
from_kind stated newline first [] = tt
from_kind stated newline first (b ∷ s) =
    cond_both KindIn (letter b) (named_kind stated.name newline first (b ∷ s))
    (cond_both KindIn (starts_number (b ∷ s)) (literal_kind number_kind (omega arith) newline first (number_from first (b ∷ s)))
    (cond_both KindIn (quote b) (literal_kind string_kind (omega arith) newline first (string_rest b first false (first + 1) s))
    (cond_both KindIn (stated.pattern && eqb b (byte "/")) (literal_kind pattern_kind (omega arith) newline first (pattern_rest first false false (first + 1) s))
    (sign-kind newline first (longest_sign (b ∷ s))))))

after-kind : (s : List ℕ) (stated : Stated) (g : Result Gap Fault) → KindIn (after_gap s stated g)
after-kind s stated (Ok g) = from_kind stated g.newline g.end (drop g.end s)
after-kind s stated (Err fault) = tt

pub found_kind : (s : List ℕ) (place : ℕ) (stated : Stated) (e : Element) → element_at s place stated ≡ Ok (Some e) → e.kind ≤ 6
unfolding element_at
found_kind s place stated e f = rw f at (after-kind s stated (gap place false (drop place s)))
