-- Heaps tried against assumptions, by computation.
use mathlib.Core.Path.{refl}
use Rattle.tableau.specs.Meaning.{◌and◌, ◌or◌, any, operation, value_of}
use Rattle.tableau.proofs.Evaluate.{evaluate}
use Rattle.evaluation.specs.Orders.{each, implies, is_transitive, is_antisymmetric}
use Rattle.evaluation.specs.Facts.{heap_letters, fact_words, fact_index, fact_fields, subject_of, speaks_of, find, said, allowed, run_fact_read}
use Rattle.evaluation.specs.Heaps.{is_under, is_order, is_allocated, heap_of, values_of}
use Rattle.tableau.specs.Terms.{lines_to}
use Rattle.evaluation.specs.Evaluation.{same_region, same_store, agrees, is_eq, first_false_clause, before_steps, false_line, evaluation, evaluation_line}
use Rattle.evaluation.specs.Cases.{heap_cases, AllEvaluate}

pub heaps_tried : AllEvaluate heap_cases
unfolding AllEvaluate heap_cases evaluate ◌and◌ ◌or◌ any operation value_of each implies is_transitive is_antisymmetric heap_letters fact_words fact_index fact_fields subject_of speaks_of find said allowed run_fact_read is_under is_order is_allocated heap_of values_of same_region same_store agrees is_eq lines_to first_false_clause before_steps false_line evaluation evaluation_line
heaps_tried = refl
