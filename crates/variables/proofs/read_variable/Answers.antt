-- A heap variable has a row; another leaves the rows as they are.
use mathlib.Core.Path.{◌≡◌, sym, ◌∙◌, ap}
use mathlib.Core.Bool.{true≢false}
use native.Mathlib.Omega.{arith}
use borrow.Author.Rules.{rules}
use denote.Enum.Bare.{sameb, same_true}
use lib.ListN.{length}
use Rattle.tableau.specs.declared.Sort.{Sort}
use Rattle.tableau.specs.contracts.Sort.{the_type}
use Rattle.evaluation.specs.declared.FactWord.{FactWord}
use Rattle.heap_tables.proofs.TableLaws.{scannable}
use Rattle.term_values.specs.Values.{rows_length}
use Rattle.variables.proofs.VariableLaws.{part_low, row_put, row_kept}
use Rattle.variables.proofs.read_variable.Goals as goal
use Rattle.variables.proofs.read_variable.Goals.{then-eq, else-eq}

pub scatter-requires : goal.scatter-requires
scatter-requires c =
    let size : length c.args.values.now.rows ≡ rows_length = search rules in
    scannable FactWord.Arv c.args.name.0 _ 4 _ c.requires.0 c.word_key-key.ensures (omega arith) (part_low c.args.values.now.rows c.args.t.0 c.requires.1 size)

pub returns : goal.returns
returns c =
    let a = c.args in
    let size : length a.values.now.rows ≡ rows_length = search rules in
    elim c.if-eq.branch [
      | then-eq w ↦
          let heap : a.sort ≡ Sort.Heap = same_true the_type (search rules) _ _ (sym c.eq.ensures ∙ w.if-eq.true) in
          rw w.values-is
          (record {
            wide = search rules;
            long = size;
            value = c.number_of.result;
            read = c.number_of.ensures;
            number = search rules;
            row = rw heap (row_put a.facts.now a.name.0 _ a.values.now.rows _ a.t.0 c.requires.1 size w.word_key-key.ensures w.scatter.ensures);
          })
      | else-eq w ↦
          let other : a.sort ≡ Sort.Heap → ⊥ = λ e. true≢false (sym (ap (λ s. sameb the_type s Sort.Heap) e) ∙ sym c.eq.ensures ∙ w.if-eq.false) in
          rw w.values-is
          (record { wide = search rules; long = size; value = c.number_of.result; read = c.number_of.ensures; number = search rules; row = row_kept a.facts.now a.name.0 a.values.now.rows a.t.0 a.sort other })
    ]
