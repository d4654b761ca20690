-- A verdict and a reply of the code, as the specification has them.
use Rattle.std.specs.Prelude.{Result, Ok, Err}
use Rattle.tableau.specs.declared.Refusal.{Refusal}
use Rattle.tableau.specs.Reply as specification
use Rattle.reply.specs.declared.Counts.{Counts}
use Rattle.reply.specs.declared.Reply.{Reply}

abbrev pub counts_of : Counts → specification.Counts
counts_of c = record {
  terms = c.terms;
  assumptions = c.assumptions;
  steps = c.steps;
  closings = c.closings;
}

abbrev pub verdict_of : Result Counts Refusal → specification.Verdict
verdict_of (Ok c) = specification.accept (counts_of c)
verdict_of (Err r) = specification.refuse r.reason r.line

abbrev pub reply_record : Reply → specification.Reply
reply_record r = record {
  is_yes = r.is_yes;
  number = r.number;
  line = r.line;
  terms = r.terms;
  assumptions = r.assumptions;
  steps = r.steps;
  closings = r.closings;
  place = r.place;
}
