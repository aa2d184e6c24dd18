-- A blank, and the closer.
use Rattle.std.proofs.Common.{arith, ℕ, List, [], ◌∷◌, ◌++◌}
use Rattle.elements.specs.Lexemes.{bytes_of}
use Rattle.spacing.specs.Respaced.{space}
use Rattle.spacing.proofs.OverLaws.{bytes_length, byte_length, closer_blank, put_behind}
use Rattle.spacing.proofs.put_closer.Goals as goal

pub returns : goal.returns
returns c = let a = c.args in
    let t = a.text.now in
    let b = c.put_byte-next.ensures in
    let p = c.put_bytes.ensures in (
      omega (arith, b.0, p.0, bytes_length t a.first a.end (omega arith) (omega arith)),
      λ written old e o.
          let w : List ℕ = written ++ (space ∷ []) in
          let n = byte_length written space a.at _ e b.0 in
          put_behind (bytes_of t a.first a.end) w old _ _ _ n p.0 (p.1 w old n (b.1 written old e o)) _ (closer_blank t a.first a.end written),
    )
