-- A leaf more, of its settled kind, if there is room.
use Rattle.turns.proofs.TakeLaws.{leaf_full, may_add, may_leaf, leaf_taken}
use Rattle.turns.proofs.take_leaf.Goals as goal

pub returns-then-room-state-clause-takes : goal.returns-then-room-state-clause-takes
returns-then-room-state-clause-takes c = λ stack k was place levels near keeps. leaf_full _ _ was _ _ _ _ place levels _ near keeps k c.if-room-state.true

pub with_leaf-next-requires : goal.with_leaf-next-requires
with_leaf-next-requires c = may_add _ _ _ _ _ _ _ c.requires.1 c.if-room-state.false

pub keep_leaf-written-requires : goal.keep_leaf-written-requires
keep_leaf-written-requires c = may_leaf _ _ _ _ _ _ _ c.requires.1 c.if-room-state.false _ c.settled-leaf.ensures

pub returns-clause-takes : goal.returns-clause-takes
returns-clause-takes c = λ stack k was place levels near keeps.
    leaf_taken _ _ was _ _ _ _ place levels _ near keeps k c.if-room-state.false _ _ _ _ _ c.settled-leaf.ensures c.with_leaf-next.ensures c.keep_leaf-written.ensures.keeps
