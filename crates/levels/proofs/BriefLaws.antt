-- A group that needs no level has run: what is found inside it is its value.
use Prim.Native.Nat.{ℕ, ◌+◌, ◌-◌}
use mathlib.Core.Path.{◌≡◌, refl, sym, ◌∙◌, ap}
use mathlib.Core.Bool.{false}
use mathlib.Core.List.{List}
use native.Mathlib.Omega.{arith}
use lib.Dec.{T}
use Rattle.machine.specs.Syntax.{nil}
use Rattle.machine.specs.Machinery.Machine.{Control}
use Rattle.machine.specs.Machinery.Classes.{is_end}
use Rattle.controls.specs.Machinery.Written.{put_record, put_syntax}
use Rattle.waiting.specs.declared.Waiting.{Waiting}
use Rattle.segments.specs.Machinery.Segments.{Segment, inside, Fine}
use Rattle.segments.proofs.SegmentLaws.{inside_fine}
use Rattle.std.proofs.Common.{Ok}
use Rattle.brief.specs.declared.Found.{Found}
use Rattle.brief.specs.declared.Found.TheVariants.{Nothing, Operand}
use Rattle.brief.specs.Machinery.Brief.{FindsInside, finds_nothing, finds_operand}
use Rattle.levels.specs.Machinery.Runs.{Ran, ran_through, MayOpen}

-- the inside of a group that needs no level
module _ {p : Segment} {at closer count top : ℕ} {stack : List Waiting} (may : MayOpen p at closer count top stack) where
  pub found_there : {c : Control} {q : Segment} {r : Found} → q ≡ inside p at → (Fine q → T (is_end closer) → FindsInside closer q c r) → FindsInside closer (inside p at) c r
  found_there is finds = rw is at (finds (rw is (inside_fine may.fine at may.here)) may.closes)

  pub nothing_ran : {c : Control} {table : List ℕ} {r : Found} → FindsInside closer (inside p at) c r → r ≡ Nothing → Ran closer (inside p at) c count top table stack (Ok (record { count = count; within = false })) table stack
  unfolding put_syntax
  nothing_ran {c} {table} finds is = go (rw is at finds)
    where
      go : FindsInside closer (inside p at) c Nothing → Ran closer (inside p at) c count top table stack (Ok (record { count = count; within = false })) table stack
      go (finds_nothing s) = ran_through {n = count} (record {
        value = nil;
        runs = s.runs;
        count_is = omega arith;
        cells_are = refl;
        kept = record { same_length = refl; same = λ k h. refl };
        passes = omega arith;
        plain = s.plain;
      })

  pub operand_ran : {c : Control} {table cells : List ℕ} {n k : ℕ} {r : Found} → FindsInside closer (inside p at) c r → r ≡ Operand k
      → (n ≡ count + 1) × (cells ≡ put_record table count k (p.base + at + 1) (count - count + 1)) → Ran closer (inside p at) c count top table stack (Ok (record { count = n; within = false })) cells stack
  operand_ran {c} {table} {cells} {n} {k} finds is put = go (rw is at finds)
    where
      one : count - count + 1 ≡ 1
      one = omega arith

      go : FindsInside closer (inside p at) c (Operand k) → Ran closer (inside p at) c count top table stack (Ok (record { count = n; within = false })) cells stack
      go (finds_operand value s some sized written) = ran_through {n = n} (record {
        value = value;
        runs = s.runs;
        count_is = omega (arith, put.0, sized);
        cells_are = put.1 ∙ ap (λ (number : ℕ). put_record table count k (p.base + at + 1) number) one ∙ sym (written table count);
        kept = record { same_length = refl; same = λ i h. refl };
        passes = omega (arith, put.0, some);
        plain = s.plain;
      })
