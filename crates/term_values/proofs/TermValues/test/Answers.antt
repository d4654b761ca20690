-- Each arm knows the literal.
use mathlib.Core.Bool.{not}
use mathlib.Core.Path.{ap}
use Rattle.term_values.specs.Literals.{literal_test}
use Rattle.term_values.proofs.TermValues.test.Goals as goal

pub returns-in-In : goal.returns-in-In
unfolding literal_test
returns-in-In c = λ table h. rw c.in-In.is c.is_member.ensures

pub returns-in-Ni : goal.returns-in-Ni
unfolding literal_test
returns-in-Ni c = λ table h. rw c.in-Ni.is (ap not c.is_member-in-Ni.ensures)

pub returns-in-Eq : goal.returns-in-Eq
unfolding literal_test
returns-in-Eq c = λ table h. rw c.in-Eq.is (c.is_equal.ensures table h)

pub returns-in-Ne : goal.returns-in-Ne
unfolding literal_test
returns-in-Ne c = λ table h. rw c.in-Ne.is (ap not (c.is_equal-in-Ne.ensures table h))

pub returns-in-Le : goal.returns-in-Le
unfolding literal_test
returns-in-Le c = λ table h. rw c.in-Le.is c.is_under.ensures

pub returns-in-Nl : goal.returns-in-Nl
unfolding literal_test
returns-in-Nl c = λ table h. rw c.in-Nl.is (ap not c.is_under-in-Nl.ensures)
