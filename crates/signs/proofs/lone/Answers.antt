-- `lone` is right of each byte that it answers for: antt computes the sign that the byte is by itself, and no other sign starts with it.
use Rattle.text.specs.Runs.{same}
use Rattle.signs.specs.Signs.{longest_of, longest_sign}
use Rattle.signs.proofs.lone.Goals as goal

pub returns-in-40 : goal.returns-in-40
unfolding longest_sign longest_of same
returns-in-40 c = λ t. rw c.in-40.is

pub returns-in-41 : goal.returns-in-41
unfolding longest_sign longest_of same
returns-in-41 c = λ t. rw c.in-41.is

pub returns-in-123 : goal.returns-in-123
unfolding longest_sign longest_of same
returns-in-123 c = λ t. rw c.in-123.is

pub returns-in-125 : goal.returns-in-125
unfolding longest_sign longest_of same
returns-in-125 c = λ t. rw c.in-125.is

pub returns-in-59 : goal.returns-in-59
unfolding longest_sign longest_of same
returns-in-59 c = λ t. rw c.in-59.is

pub returns-in-46 : goal.returns-in-46
unfolding longest_sign longest_of same
returns-in-46 c = λ t. rw c.in-46.is

pub returns-in-44 : goal.returns-in-44
unfolding longest_sign longest_of same
returns-in-44 c = λ t. rw c.in-44.is

pub returns-in-58 : goal.returns-in-58
unfolding longest_sign longest_of same
returns-in-58 c = λ t. rw c.in-58.is

pub returns-in-91 : goal.returns-in-91
unfolding longest_sign longest_of same
returns-in-91 c = λ t. rw c.in-91.is

pub returns-in-93 : goal.returns-in-93
unfolding longest_sign longest_of same
returns-in-93 c = λ t. rw c.in-93.is

pub returns-in-63 : goal.returns-in-63
unfolding longest_sign longest_of same
returns-in-63 c = λ t. rw c.in-63.is

pub returns-in-126 : goal.returns-in-126
unfolding longest_sign longest_of same
returns-in-126 c = λ t. rw c.in-126.is
