-- The table's cells while groups are open: their number, a record more, and a group's end.
use mathlib.Core.Path.{◌≡◌, refl, sym, ap, ◌∙◌}
use mathlib.Core.Bool.{Bool}
use mathlib.Core.List.{List, [], ◌∷◌, ◌++◌, append_assoc}
use Prim.Native.Nat.{ℕ, ◌+◌, ◌*◌, ◌≤◌}
use native.Mathlib.Omega.{arith}
use native.Mathlib.Nat.{suc-add}
use native.Mathlib.Numerals.{add-one, add-two, add-three, add-four}
use lib.ListN.{length, get_or, take, drop, set, length-append, length-take, length-drop}
use lib.Seq.{take_at, drop-append-add, drop-drop, get_or-append-add, sets-eq}
use Rattle.rule.specs.Trees.{Trees, none, leaf, group, count}
use Rattle.rule.specs.Levels.{Levels, whole_text, inside, count_so_far, on_top}
use Rattle.tables.specs.Records.{tree_width, tree_record}
use Rattle.storing.specs.Records.{records}
use Rattle.storing.specs.Machinery.Table.{cells}

pub records_length : (trees : Trees) → length (records trees) ≡ tree_width * count trees
unfolding records count
records_length none = refl
records_length (leaf before e) =
    omega (arith, length-append (records before) (tree_record e.kind e.first e.end 1 e.newline), records_length before)
records_length (group before kind first end newline within) =
    omega (
      arith,
      length-append (records before) (tree_record kind first end (count within + 1) newline ++ records within),
      records_length before,
      records_length within,
    )

pub cells_length : (levels : Levels) → length (cells levels) ≡ tree_width * count_so_far levels
cells_length (whole_text trees) = records_length trees
cells_length (inside around kind first newline trees) =
    omega (arith, length-append (cells around) (tree_record kind first 0 0 newline ++ records trees), cells_length around, records_length trees)

-- a tree more on the innermost level
pub cells_on_top : (add : Trees → Trees) (more : List ℕ) → ((trees : Trees) → records (add trees) ≡ records trees ++ more)
    → (levels : Levels) → cells (on_top add levels) ≡ cells levels ++ more
cells_on_top add more e (whole_text trees) = e trees
cells_on_top add more e (inside around kind first newline trees) = rw (e trees) (sym (append_assoc (cells around) (tree_record kind first 0 0 newline ++ records trees) more))

-- a record is written behind the cells so far
pub put_cells : (c table : List ℕ) (n kind first end m : ℕ) (newline : Bool) → length c ≡ tree_width * n
    → take (tree_width * n) (c ++ drop (tree_width * n) table) ++ (tree_record kind first end m newline ++ drop (tree_width * n + tree_width) (c ++ drop (tree_width * n) table))
    ≡ (c ++ tree_record kind first end m newline) ++ drop (tree_width * (n + 1)) table
put_cells c table n kind first end m newline e =
    let next : 5 * (n + 1) ≡ 5 * n + 5 = omega arith in
    let r : List ℕ = tree_record kind first end m newline in
    rw (take_at c (drop (5 * n) table) (5 * n) e)
    (ap (λ (x : List ℕ). c ++ (r ++ x))
    (rw (← e) (rw (drop-append-add c (drop (length c) table) 5, drop-drop 5 (length c) table) (rw e (ap (λ (k : ℕ). drop k table) (sym next)))))
    ∙ sym (append_assoc c r (drop (5 * (n + 1)) table)))

pub put_length : (table : List ℕ) (i kind first end m : ℕ) (newline : Bool) → i + tree_width ≤ length table
    → length (take i table ++ (tree_record kind first end m newline ++ drop (i + tree_width) table)) ≡ length table
put_length table i kind first end m newline h =
    rw (length-append (take i table) (tree_record kind first end m newline ++ drop (i + 5) table), length-take i table) (omega (arith, length-drop (i + 5) table))

-- the end and the number of a group are written into its record
set_cells : (c x : List ℕ) (kind first p q end m : ℕ)
    → set (set (c ++ (kind ∷ first ∷ p ∷ q ∷ x)) (length c + 2) end) (length c + 3) m ≡ c ++ (kind ∷ first ∷ end ∷ m ∷ x)
set_cells [] x kind first p q end m = refl
set_cells (y ∷ c) x kind first p q end m =
    rw (suc-add (length c) 2, suc-add (length c) 3) (ap (λ (r : List ℕ). y ∷ r) (set_cells c x kind first p q end m))

pub finish_cells : (c x rest : List ℕ) (n kind first end m : ℕ) (newline : Bool) → length c ≡ tree_width * n
    → set (set ((c ++ (tree_record kind first 0 0 newline ++ x)) ++ rest) (tree_width * n + 2) end) (tree_width * n + 3) m
    ≡ (c ++ (tree_record kind first end m newline ++ x)) ++ rest
finish_cells c x rest n kind first end m newline e =
    rw (← e, append_assoc c (tree_record kind first 0 0 newline ++ x) rest, append_assoc c (tree_record kind first end m newline ++ x) rest)
    (set_cells c (get_or (tree_record kind first 0 0 newline) 4 0 ∷ x ++ rest) kind first 0 0 end m)

-- the first byte of the group whose record stands there
pub first_cell : (c x rest : List ℕ) (n kind first : ℕ) (newline : Bool) → length c ≡ tree_width * n
    → get_or ((c ++ (tree_record kind first 0 0 newline ++ x)) ++ rest) (tree_width * n + 1) 0 ≡ first
first_cell c x rest n kind first newline e =
    rw (append_assoc c (tree_record kind first 0 0 newline ++ x) rest, ← e) (get_or-append-add c (tree_record kind first 0 0 newline ++ x ++ rest) 1 0)

-- five stores are one record
pub five_stores : (table : List ℕ) (i a b c d e : ℕ) → i + 5 ≤ length table
    → set (set (set (set (set table i a) (i + 1) b) (i + 2) c) (i + 3) d) (i + 4) e ≡ take i table ++ ((a ∷ b ∷ c ∷ d ∷ e ∷ []) ++ drop (i + 5) table)
five_stores table i a b c d e h = rw (add-one i, add-two i, add-three i, add-four i) (sets-eq (a ∷ b ∷ c ∷ d ∷ e ∷ []) table i h ∙ append_assoc (take i table) (a ∷ b ∷ c ∷ d ∷ e ∷ []) (drop (i + 5) table))
