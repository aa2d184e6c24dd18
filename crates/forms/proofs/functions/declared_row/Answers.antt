-- `declared_row` is the machine's rows of functions that are declared, place by place.
use Rattle.controls.specs.Machinery.Steps.{to_function_name, past_parameter, past_declaration}
use Rattle.forms.proofs.functions.declared_row.Goals as goal

pub returns-in-DeclaredFirst : goal.returns-in-DeclaredFirst
returns-in-DeclaredFirst c = λ inside newline. rw c.in-DeclaredFirst.is (c.only.ensures _ tt to_function_name)

pub returns-in-DeclaredNamed : goal.returns-in-DeclaredNamed
returns-in-DeclaredNamed c = λ inside newline. rw c.in-DeclaredNamed.is (c.opens.ensures _ tt past_parameter)

pub returns-in-DeclaredPast : goal.returns-in-DeclaredPast
returns-in-DeclaredPast c = λ inside newline. rw c.in-DeclaredPast.is (c.opens-in-DeclaredPast.ensures _ tt past_declaration)
