-- What the table holds once a syntax tree is written, if it has room for it.
use mathlib.Core.Path.{◌≡◌, refl, sym, ap, ◌∙◌}
use mathlib.Core.List.{List, [], ◌∷◌, ◌++◌}
use Prim.Native.Nat.{ℕ, suc, ◌+◌, ◌*◌, ◌/◌, ◌≤◌, ◌<◌}
use native.Mathlib.Nat.{add-zero}
use native.Mathlib.Numerals.{add-one, add-two}
use native.Mathlib.Omega.{arith}
use borrow.Author.Tests.{lt-ltb}
use lib.ListN.{length, drop, set, length-append}
use lib.Seq.{sets, sets-eq}
use Rattle.tables.specs.Records.{syntax_width}
use Rattle.machine.specs.Syntax.{Syntax, nil, node, snoc, size, syntax_records}
use Rattle.controls.specs.Machinery.Written.{put_record, put_syntax}
use Rattle.controls.proofs.KeptLength.{syntax_kept_length}

sets_append : (a b table : List ℕ) (i : ℕ) → sets table i (a ++ b) ≡ sets (sets table i a) (i + length a) b
sets_append [] b table i = rw (add-zero i)
sets_append (x ∷ a) b table i =
    let next : suc i + length a ≡ i + suc (length a) = omega arith in
    sets_append a b (set table i x) (suc i) ∙ ap (λ (k : ℕ). sets (sets (set table i x) (suc i) a) k b) next

-- stores behind stores
sets_then : (a b table : List ℕ) (i next : ℕ) {middle : List ℕ} → middle ≡ sets table i a → next ≡ i + length a → sets middle next b ≡ sets table i (a ++ b)
sets_then a b table i next e n = rw (e, n) (sym (sets_append a b table i))

pub syntax_length : (v : Syntax) → length (syntax_records v) ≡ size v * syntax_width
unfolding syntax_records
syntax_length nil = refl
syntax_length (node kind mark left right) =
    let own = kind ∷ mark ∷ (size left + size right + 1) ∷ [] in
    omega (arith, length-append (syntax_records left) (syntax_records right ++ own), length-append (syntax_records right) own, syntax_length left, syntax_length right)
syntax_length (snoc before last) = omega (arith, length-append (syntax_records before) (syntax_records last), syntax_length before, syntax_length last)

-- a record is three stores
put_sets : (table : List ℕ) (index kind mark number : ℕ) → (index + 1) * syntax_width ≤ length table
    → put_record table index kind mark number ≡ sets table (index * syntax_width) (kind ∷ mark ∷ number ∷ [])
unfolding put_record
put_sets table index kind mark number room =
    let fits : index < length table / syntax_width = omega arith in
    rw (lt-ltb index (length table / syntax_width) fits, add-one (index * 3), add-two (index * 3))

syntax_sets : (v : Syntax) (table : List ℕ) (index : ℕ) → (index + size v) * syntax_width ≤ length table
    → put_syntax table index v ≡ sets table (index * syntax_width) (syntax_records v)
unfolding put_syntax syntax_records
syntax_sets nil table index room = refl
syntax_sets (node kind mark left right) table index room =
    let first = put_syntax table index left in
    let second = put_syntax first (index + size left) right in
    let own = kind ∷ mark ∷ (size left + size right + 1) ∷ [] in
    let first-length = syntax_kept_length left table index in
    let second-length = syntax_kept_length right first (index + size left) in
    put_sets second (index + size left + size right) kind mark (size left + size right + 1) (omega arith)
    ∙ sets_then (syntax_records right) own first ((index + size left) * syntax_width) ((index + size left + size right) * syntax_width)
    (syntax_sets right first (index + size left) (omega arith)) (omega (arith, syntax_length right))
    ∙ sets_then (syntax_records left) (syntax_records right ++ own) table (index * syntax_width) ((index + size left) * syntax_width)
    (syntax_sets left table index (omega arith)) (omega (arith, syntax_length left))
syntax_sets (snoc before last) table index room =
    let first = put_syntax table index before in
    let first-length = syntax_kept_length before table index in
    syntax_sets last first (index + size before) (omega arith)
    ∙ sets_then (syntax_records before) (syntax_records last) table (index * syntax_width) ((index + size before) * syntax_width)
    (syntax_sets before table index (omega arith)) (omega (arith, syntax_length before))

-- "parts before the whole and in text order": the tree's records, and behind them the table as it was
pub syntax_written : (v : Syntax) (table : List ℕ) → size v * syntax_width ≤ length table
    → put_syntax table 0 v ≡ syntax_records v ++ drop (size v * syntax_width) table
syntax_written v table room =
    let long = syntax_length v in
    let same : 0 + length (syntax_records v) ≡ size v * syntax_width = omega arith in
    syntax_sets v table 0 (omega arith)
    ∙ sets-eq (syntax_records v) table 0 (omega arith)
    ∙ ap (λ (n : ℕ). syntax_records v ++ drop n table) same
