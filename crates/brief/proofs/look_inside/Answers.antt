-- One record, or none, by the length of the part.
use mathlib.Core.Path.{sym, ◌∙◌}
use borrow.Author.Tests.{eqb-true}
use native.Mathlib.Omega.{arith}
use Rattle.brief.specs.Machinery.Brief.{finds_more}
use Rattle.brief.proofs.BriefLaws.{closer_told, empty_found, told, lone_found}
use Rattle.brief.proofs.look_inside.Goals as goal

pub returns-then-part-eq-WIDTH : goal.returns-then-part-eq-WIDTH
returns-then-part-eq-WIDTH c = λ text base close fine end. lone_found fine (omega (arith, c.if-part-eq-WIDTH.true)) (λ class known. told c.args.part.trees.now (sym c.leaf_at.ensures ∙ known)) c.alone.ensures

pub returns-then-eq : goal.returns-then-eq
returns-then-eq c = λ text base close fine end. empty_found
    (closer_told c.empty_closer.result c.empty_closer.ensures (sym c.eq.ensures ∙ c.if-eq.true))
    (let none = eqb-true _ 0 (sym c.is_empty.ensures ∙ c.if-is_empty.true) in omega (arith, none))

pub returns : goal.returns
returns c = λ text base close fine end. finds_more
