-- The reply of a file, computed: to unfold `evaluate` is to unfold all that a reply is made of.
use mathlib.Core.List.{List}
use Prim.Native.Nat.{ℕ}
use Rattle.tableau.specs.Basics.{bytes, same_bytes, lookup}
use Rattle.tableau.specs.File.{split, letters, rank, all_small, digits, number, six_fields}
use Rattle.tableau.specs.Words.{words, relations, rule_names, command_of}
use Rattle.tableau.specs.Fields.{arguments, sides, rule_fields}
use Rattle.tableau.specs.Terms.{result, sort_index, operator_index, relation_index, number_from, layer, to_depth, fold, mentions, one_sort, place_from, clause_of, last_clause}
use Rattle.tableau.specs.Rules.{rule}
use Rattle.tableau.specs.Steps.{fits, fits_literal, met, made, made_literals, made_alternatives, freshness, takes_terms, conclude_sub, conclude_rep, conclude_rows, conclude}
use Rattle.tableau.specs.Saturation.{has, some_below, bound, one_step, next, with_right, all_below, saturate, closure, any_denies, contradicted}
use Rattle.tableau.specs.Tree.{room_on_branch, room_to_wait, close, grow, answer, alternatives, grown}
use Rattle.tableau.specs.Reply.{refusal_of, term_line, literal_line, assumed, disjoined, step_line, run_open, run_read, run_lines, verdict_within, Reply, reply_of, reply, decimal_from, comma_numbers, yes_or_no, reply_line}
use Rattle.tableau.specs.Cases.{file_of}

unfoldable pub evaluate : List ℕ → Reply
unfolding file_of bytes same_bytes lookup split letters all_small digits number six_fields words result arguments sort_index operator_index relation_index number_from layer to_depth fold mentions relations sides one_sort place_from clause_of last_clause rule rule_fields rule_names fits fits_literal met made made_literals made_alternatives freshness takes_terms conclude_sub conclude_rep conclude_rows conclude has some_below bound one_step next with_right all_below saturate closure any_denies contradicted room_on_branch room_to_wait close grow answer alternatives grown refusal_of command_of rank term_line literal_line assumed disjoined step_line run_open run_read run_lines verdict_within reply_of reply decimal_from comma_numbers yes_or_no reply_line
evaluate = reply
