-- By the delimiter.
use native.Mathlib.Omega.{arith}
use mathlib.Core.Path.{sym, ◌∙◌}
use lib.ListN.{length}
use Rattle.prefix.specs.Reading.{Limits}
use Rattle.delimiters.proofs.GroupLaws.{represented_brace}
use Rattle.prefix.proofs.StepLaws.{delimit_parens, delimit_object, delimit_block, delimit_brackets, delimit_close}
use Rattle.delimiters.proofs.delimit.Goals as goal

pub returns-in-3 : goal.returns-in-3
returns-in-3 c = let a = c.args in
    let limits : Limits = record { groups = length a.stack.now; room = a.room } in
    λ tags levels h m. rw (delimit_parens limits levels a.e c.in-3.is) (c.open_group.ensures tags levels h m)

pub returns-in-1 : goal.returns-in-1
returns-in-1 c = let a = c.args in
    let limits : Limits = record { groups = length a.stack.now; room = a.room } in
    λ tags levels h m.
    let brace = represented_brace tags _ a.state levels h _ _ (sym c.brace_opens.ensures ∙ c.if-brace_opens.true) in
    rw (delimit_object limits levels a.e (λ e. omega arith) c.in-1.is brace) (c.open_group-in-1.ensures tags levels h m)

pub returns-in-1-2 : goal.returns-in-1-2
returns-in-1-2 c = let a = c.args in
    let limits : Limits = record { groups = length a.stack.now; room = a.room } in
    λ tags levels h m.
    let brace = represented_brace tags _ a.state levels h _ _ (sym c.brace_opens.ensures ∙ c.if-brace_opens.false) in
    rw (delimit_block limits levels a.e (λ e. omega arith) c.in-1.is brace) (c.open_group-in-1-2.ensures tags levels h m)

pub returns-in-5 : goal.returns-in-5
returns-in-5 c = let a = c.args in
    let limits : Limits = record { groups = length a.stack.now; room = a.room } in
    λ tags levels h m. rw (delimit_brackets limits levels a.e (λ e. omega arith) (λ e. omega arith) c.in-5.is) (c.open_group-in-5.ensures tags levels h m)

pub returns-in_default : goal.returns-in_default
returns-in_default c = let a = c.args in
    let limits : Limits = record { groups = length a.stack.now; room = a.room } in
    λ tags levels h m. rw (delimit_close limits levels a.e (λ e. omega arith) (λ e. omega arith) (λ e. omega arith)) (c.close_group.ensures limits.room tags levels h)
