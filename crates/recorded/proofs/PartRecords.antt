-- The parts of a syntax tree (Parts.antt) are its records.
use mathlib.Core.Path.{◌≡◌, refl}
use mathlib.Core.List.{List, [], ◌∷◌, ◌++◌}
use Prim.Native.Nat.{ℕ, ◌+◌}
use Rattle.machine.specs.Syntax.{Syntax, nil, node, snoc, size, syntax_records}
use Rattle.recorded.specs.Parts.{Part, part, parts_of}

-- "kind; index of its marking tree record; syntax records in it with itself"
abbrev pub written : List Part → List ℕ
written [] = []
written (part kind mark inside ∷ rest) = kind ∷ mark ∷ (size inside + 1) ∷ written rest

written_append : (ps qs : List Part) → written (ps ++ qs) ≡ written ps ++ written qs
written_append [] qs = refl
written_append (part kind mark inside ∷ ps) qs = rw (written_append ps qs)

pub parts_written : (value : Syntax) → written (parts_of value) ≡ syntax_records value
unfolding syntax_records
parts_written nil = refl
parts_written (node kind mark left right) =
    let own = part kind mark (snoc left right) ∷ [] in
    rw (written_append (parts_of left) (parts_of right ++ own), written_append (parts_of right) own, parts_written left, parts_written right)
parts_written (snoc before last) = rw (written_append (parts_of before) (parts_of last), parts_written before, parts_written last)
