-- Each arm knows the word.
use mathlib.Core.Path.{refl}
use native.Mathlib.Omega.{arith}
use Rattle.tableau.specs.Terms.{result}
use Rattle.packing.specs.Packing.{word_code, word_sort, word_bits}
use Rattle.packing.proofs.PackingLaws.{sort_small, operator_small}
use Rattle.packing.proofs.Tags.{sort_tag, operator_tag}
use Rattle.packing.proofs.term_codes.low_bits.Goals as goal

pub returns-in-Variable : goal.returns-in-Variable
unfolding word_code word_sort word_bits
returns-in-Variable c = let s = c.in-Variable.sort in rw (c.in-Variable.is, sort_tag)
    (refl, omega (arith, sort_small s))

pub returns-in-Operation : goal.returns-in-Operation
unfolding word_code word_sort word_bits
returns-in-Operation c =
    let o = c.in-Operation.operator in
    rw (c.in-Operation.is, sort_tag, operator_tag, c.result_sort.ensures)
    (refl, omega (arith, operator_small o, sort_small (result o)))
