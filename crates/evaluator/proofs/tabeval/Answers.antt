-- The number, the buffer, and the meaning.
use mathlib.Core.Path.{refl, sym, ◌∙◌, ap}
use native.Mathlib.Omega.{arith}
use Rattle.tableau.specs.Reply.{refusal_of, Call}
use Rattle.evaluation.specs.Evaluation.{Evaluation, evaluation_bytes}
use Rattle.evaluator.proofs.CallLaws.{number_small, buffer_right, buffer_wrong, never_buffer, means}
use Rattle.evaluator.proofs.tabeval.Goals as goal

-- a buffer of another length
pub overflow_cast-result : goal.overflow_cast-result
unfolding refusal_of
overflow_cast-result c = omega arith

pub returns-then-reply-ne-BUFFER_BYTES : goal.returns-then-reply-ne-BUFFER_BYTES
unfolding refusal_of
returns-then-reply-ne-BUFFER_BYTES c =
    let a = c.args in
    let w = buffer_wrong a.file.now a.heap.now a.reply.now (λ e. omega (arith, e)) in
    record {
      value = c.reason_number.ensures ∙ sym (ap (λ (k : Call). k.returns) w);
      reply_after = sym (ap (λ (k : Call). k.buffer) w);
      means = λ e. absurd (omega (arith, e));
      never_all_true = λ y q. never_buffer a.file.now a.heap.now a.reply.now y (ap (λ (k : Call). k.buffer) w ∙ q);
    }

pub overflow_cast-result-2 : goal.overflow_cast-result-2
overflow_cast-result-2 c =
    let a = c.args in
    omega (arith, number_small a.file.now a.heap.now, ap (λ (x : Evaluation). x.number) c.evaluate-answer.ensures.result_value)

pub returns : goal.returns
returns c =
    let a = c.args in
    let r = c.evaluate-answer.ensures.result_value in
    let w = buffer_right a.file.now a.heap.now a.reply.now (omega arith) in
    let n = ap (λ (x : Evaluation). x.number) r in
    let b = c.write_numbers.ensures ∙ ap evaluation_bytes r ∙ sym (ap (λ (k : Call). k.buffer) w) in
    record {
      value = n ∙ sym (ap (λ (k : Call). k.returns) w);
      reply_after = b;
      means = λ e. means a.file.now a.heap.now _ refl (sym n ∙ e);
      never_all_true = λ y q. never_buffer a.file.now a.heap.now a.reply.now y (sym b ∙ q);
    }
