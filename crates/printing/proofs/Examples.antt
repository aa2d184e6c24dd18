-- The definitions at records whose listing is read off.
use mathlib.Core.Path.{◌≡◌, refl}
use mathlib.Core.List.{[], ◌∷◌}
use Rattle.text.specs.Quoted.{bytes}
use Rattle.writing.specs.Numbers.{digits, decimal, line}
use Rattle.printing.specs.Printed.{lines, listed, refusal}

trees_are : listed (bytes "trees,") 5 2 (1 ∷ 0 ∷ 1 ∷ 1 ∷ 0 ∷ 8 ∷ 4 ∷ 12 ∷ 4 ∷ 0 ∷ []) ≡ bytes "trees,2\n1,0,1,1,0\n8,4,12,4,0\n"
unfolding listed lines line decimal digits
trees_are = refl

syntax_is : listed (bytes "syntax,") 3 1 (20 ∷ 0 ∷ 1 ∷ []) ≡ bytes "syntax,1\n20,0,1\n"
unfolding listed lines line decimal digits
syntax_is = refl

long_is : refusal 1 262144 ≡ bytes "refused,1,262144\n"
unfolding refusal line decimal digits
long_is = refl
