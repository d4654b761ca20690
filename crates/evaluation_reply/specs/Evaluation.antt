-- An evaluation of the code, as the specification has it.
use Rattle.evaluation.specs.Evaluation as specification
use Rattle.evaluation_reply.specs.declared.Evaluation.{Evaluation}

abbrev pub evaluation_record : Evaluation → specification.Evaluation
evaluation_record e = record { number = e.number; file = e.file; line = e.line }
