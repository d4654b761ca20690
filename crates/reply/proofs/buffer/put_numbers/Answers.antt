use Prim.Native.Nat.{◌+◌, ◌*◌}
use mathlib.Core.Path.{◌≡◌, refl, sym, ap, ◌∙◌}
use mathlib.Core.List.{append-nil}
use native.Mathlib.Omega.{arith}
use lib.ListN.{take, get_or}
use lib.Seq.{take_all}
use Rattle.std.proofs.lemmas.Slice.{take-put_mid}
use Rattle.tableau.specs.Reply.{four_bytes, number_bytes}
use Rattle.reply.proofs.NumberFields.{number_written, none_left}
use Rattle.reply.proofs.buffer.put_numbers.Goals as goal

pub loop-i-preserved : goal.loop-i-preserved
unfolding number_bytes
loop-i-preserved c =
    let l = c.loop-i in
    let ns = c.args.numbers.now in
    let put : c.copy_from_slice.new.self ≡ four_bytes (get_or ns l.i 0) =
    c.copy_from_slice.ensures.after ∙ ap (take 4) c.to_le_bytes.ensures in
    number_written four_bytes number_bytes (λ n ns. refl) ns l.i
    (take (4 * l.i) l.buffer) c.loop-i-test.true
    (take-put_mid (4 * l.i) _ l.buffer c.copy_from_slice.new.self (4 * (l.i + 1))
    (rw put (omega arith)) (omega arith) ∙ rw put)
    ∙ l.invariant

pub returns : goal.returns
unfolding number_bytes
returns c =
    let l = c.loop-i in
    let ns = c.args.numbers.now in
    sym (append-nil l.buffer)
    ∙ rw (
      none_left ns l.i (omega arith),
      take_all (4 * l.i) l.buffer
          (omega arith),
    ) at l.invariant
