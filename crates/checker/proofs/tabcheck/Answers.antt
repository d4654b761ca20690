-- `tabcheck` meets its contract: the number, the buffer, and demand 3.
use mathlib.Core.Path.{◌≡◌, sym, ◌∙◌, ap}
use native.Mathlib.Omega.{arith}
use Rattle.tableau.specs.Reply.{Reply, reply, refusal_of, Call, reply_bytes}
use Rattle.reply.specs.Verdict.{reply_record}
use Rattle.checker.proofs.Whole.{replied, number_small, no_heap, buffer_right, buffer_wrong}
use Rattle.checker.proofs.tabcheck.Goals as goal
use Rattle.checker.proofs.tabcheck.Goals.{After-reply_of-answer}

-- what is written is the reply to the file
answered : (c : goal.After-reply_of-answer)
    → (reply_record c.reply_of-answer.result ≡ reply c.args.file.now)
answered c =
    replied _ _ c.check.ensures c.reply_of-answer.ensures

-- a buffer of another length
pub overflow_cast-result : goal.overflow_cast-result
unfolding refusal_of
overflow_cast-result c = omega arith

pub returns-then-reply-ne-BUFFER_BYTES : goal.returns-then-reply-ne-BUFFER_BYTES
unfolding refusal_of
returns-then-reply-ne-BUFFER_BYTES c =
    let a = c.args in
    let w = buffer_wrong a.file.now a.reply.now
    (λ e. omega (arith, e)) in record {
      value = c.reason_number.ensures
          ∙ sym (ap (λ (k : Call). k.returns) w);
      reply_after = sym (ap (λ (k : Call). k.buffer) w);
      no_heap = λ e. absurd (omega (arith, e));
    }

-- the number, the buffer, demand 3
pub overflow_cast-result-2 : goal.overflow_cast-result-2
overflow_cast-result-2 c =
    let a = c.args in
    omega (
      arith,
      number_small a.file.now,
      ap (λ (x : Reply). x.number)
          (answered (goal.at.overflow_cast-result-2 c).After-reply_of-answer),
    )

pub returns : goal.returns
returns c =
    let a = c.args in
    let r = answered (goal.at.returns c).After-reply_of-answer in
    let w = buffer_right a.file.now a.reply.now (omega arith) in
    let n = ap (λ (x : Reply). x.number) r in
    let b = c.write_numbers.ensures ∙ ap reply_bytes r ∙ sym (ap (λ (k : Call). k.buffer) w) in
    record {
      value = n ∙ sym (ap (λ (k : Call). k.returns) w);
      reply_after = b;
      no_heap = λ e. no_heap a.file.now (sym n ∙ e);
    }
