-- An empty group ends at once, by what it is.
use Rattle.machine.specs.Scopes.{body, block}
use Rattle.groups.proofs.GroupLaws.{by_either}
use Rattle.brief.specs.Machinery.Brief.{no_arguments, no_elements, no_properties, no_parameters, no_statements, no_clauses}
use Rattle.brief.proofs.empty_closer.Goals as goal

pub returns-in-Call : goal.returns-in-Call
returns-in-Call c = by_either (λ e. rw e no_arguments) (λ e. rw e no_parameters) c.in-Call.is

pub returns-in-Array : goal.returns-in-Array
returns-in-Array c = rw c.in-Array.is no_elements

pub returns-in-Object : goal.returns-in-Object
returns-in-Object c = by_either (λ e. rw e no_properties) (λ e. rw e no_clauses) c.in-Object.is

pub returns-in-Block : goal.returns-in-Block
returns-in-Block c = by_either (λ e. rw e (no_statements block)) (by_either (λ e. rw e (no_statements body)) (λ e. rw e (no_statements body))) c.in-Block.is
