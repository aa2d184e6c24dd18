-- What comes before the element, and its bytes.
use Rattle.std.proofs.Common.{arith, ℕ, List, [], ◌∷◌, ◌++◌, ◌∙◌, sym}
use Rattle.elements.specs.Lexemes.{bytes_of}
use Rattle.spacing.specs.Respaced.{line_feed, space}
use Rattle.spacing.proofs.OverLaws.{bytes_length, byte_length, element_newline, element_first, element_blank, put_behind}
use Rattle.spacing.proofs.put_element.Goals as goal
use Rattle.spacing.proofs.put_element.Goals.{then-newline, else-newline+then-at-eq0, else-newline+else-at-eq0}

pub returns : goal.returns
returns c = let a = c.args in
    let t = a.text.now in
    let p = c.put_bytes.ensures in
    let l = bytes_length t a.first a.end (omega arith) (omega arith) in
    elim c.if-newline.branch [
      | then-newline w ↦
          let b = w.put_byte-next.ensures in (
            omega (arith, w.next-is, b.0, p.0, l),
            λ written old e o.
                let u : List ℕ = written ++ (line_feed ∷ []) in
                let n = w.next-is ∙ byte_length written line_feed a.at _ e b.0 in
                put_behind (bytes_of t a.first a.end) u old _ _ _ n p.0 (p.1 u old n (w.output-is ∙ b.1 written old e o)) _ (rw w.if-newline.true (element_newline t a.first a.end written)),
          )
      | else-newline+then-at-eq0 w ↦ (
        omega (arith, w.next-is, p.0, l),
        λ written old e o.
            let n = w.next-is ∙ e in
            put_behind (bytes_of t a.first a.end) written old _ _ _ n p.0 (p.1 written old n (w.output-is ∙ o)) _
            (rw w.if-newline.false (element_first t a.first a.end written (sym e ∙ w.if-at-eq0.true))),
      )
      | else-newline+else-at-eq0 w ↦
          let b = w.put_byte.ensures in (
            omega (arith, w.next-is, b.0, p.0, l),
            λ written old e o.
                let u : List ℕ = written ++ (space ∷ []) in
                let n = w.next-is ∙ byte_length written space a.at _ e b.0 in
                put_behind (bytes_of t a.first a.end) u old _ _ _ n p.0 (p.1 u old n (w.output-is ∙ b.1 written old e o)) _
                (rw w.if-newline.false (element_blank t a.first a.end written (λ z. w.if-at-eq0.false (e ∙ z)))),
          )
    ]
