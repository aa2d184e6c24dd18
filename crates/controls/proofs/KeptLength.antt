-- Writing a syntax tree leaves the table as long as it was.
use mathlib.Core.Path.{◌≡◌, refl, ◌∙◌}
use mathlib.Core.List.{List}
use mathlib.Core.Bool.{Bool, true, false, cond}
use Prim.Native.Nat.{ℕ, ◌+◌, ◌*◌, ◌/◌}
use lib.Dec.{ltb}
use lib.ListN.{length, set, length-set}
use Rattle.tables.specs.Records.{syntax_width}
use Rattle.machine.specs.Syntax.{Syntax, nil, node, snoc, size}
use Rattle.controls.specs.Machinery.Written.{put_record, put_syntax}

put_length : (table : List ℕ) (index kind mark number : ℕ) → length (put_record table index kind mark number) ≡ length table
unfolding put_record
put_length table index kind mark number = go (ltb index (length table / syntax_width))
  where
    go : (b : Bool) → length (cond b (set (set (set table (index * 3) kind) (index * 3 + 1) mark) (index * 3 + 2) number) table) ≡ length table
    go true = simp length-set
    go false = refl

pub syntax_kept_length : (v : Syntax) (table : List ℕ) (index : ℕ) → length (put_syntax table index v) ≡ length table
unfolding put_syntax
syntax_kept_length nil table index = refl
syntax_kept_length (node kind mark left right) table index =
    put_length (put_syntax (put_syntax table index left) (index + size left) right) (index + size left + size right) kind mark (size left + size right + 1)
    ∙ syntax_kept_length right (put_syntax table index left) (index + size left)
    ∙ syntax_kept_length left table index
syntax_kept_length (snoc before last) table index =
    syntax_kept_length last (put_syntax table index before) (index + size before) ∙ syntax_kept_length before table index
