-- A group more, if there is room on the stack and for its record.
use mathlib.Core.Path.{refl}
use Rattle.delimiters.proofs.GroupLaws.{open_deep, open_full, open_done}
use Rattle.delimiters.proofs.open_group.Goals as goal

pub returns-then-stack-state : goal.returns-then-stack-state
returns-then-stack-state c = λ tags levels h m. open_deep tags _ _ levels h _ _ _ _ c.if-stack-state.true

pub returns-then-room-state : goal.returns-then-room-state
returns-then-room-state c = λ tags levels h m. open_full tags _ _ levels h _ _ _ _ c.if-stack-state.false c.if-room-state.true

pub returns : goal.returns
returns c = λ tags levels h m. open_done tags _ c.args.state levels h _ _ _ _ _ c.requires m c.inside.ensures c.if-stack-state.false c.if-room-state.false refl
