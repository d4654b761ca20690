use mathlib.Core.List.{◌++◌}
use mathlib.Core.Path.{◌≡◌, refl, sym, ap, ◌∙◌}
use Prim.Native.Nat.{◌%◌, ◌+◌, ◌-◌, ◌≤◌}
use native.Mathlib.Omega.{arith}
use lib.ListN.{length, take, drop, set, length-set, length-append, length-drop, length-take}
use lib.Seq.{take_all}
use Rattle.tableau.specs.Reply.{decimal}
use Rattle.tableau.proofs.Decimals.{next_digit_lem, last_digit}
use Rattle.reply.specs.Line.{number_digits}
use Rattle.reply.proofs.Stores.{stored_before}
use Rattle.reply.proofs.Decimals.{room}
use Rattle.reply.proofs.line.Text.put_decimal.Goals as goal

pub loop-rest-preserved : goal.loop-rest-preserved
loop-rest-preserved c =
    let l = c.loop-rest in
    let r = room l.pos l.rest c.loop-rest-test.true l.invariant.2 in
    let e : l.pos - 1 + 1 ≡ l.pos = omega (arith, r) in (
      omega arith,
      simp length-set l.invariant.1,
      r.1,
      rw (e, stored_before l.digits l.pos (48 + l.rest % 10) (omega arith))
          (sym (next_digit_lem l.rest (drop (l.pos + 1) l.digits) c.loop-rest-test.true)
          ∙ l.invariant.3),
    )

pub returns : goal.returns
returns c =
    let a = c.args in
    let l = c.loop-rest in
    let digits = set l.digits l.pos (48 + l.rest) in
    let fits : length (drop l.pos digits) ≤ number_digits - l.pos =
    simp (length-drop, length-set) (omega arith) in
    let text : take (number_digits - l.pos) (drop l.pos digits) ≡ decimal a.value =
    take_all (number_digits - l.pos) (drop l.pos digits) fits
    ∙ stored_before l.digits l.pos (48 + l.rest) (omega arith)
    ∙ sym (last_digit l.rest (drop (l.pos + 1) l.digits) (omega arith))
    ∙ l.invariant.3 in
    record {
      upper_bound =
          rw c.put.ensures
          (simp (length-append, length-take, length-drop, length-set) (omega arith));
      put = c.put.ensures ∙ ap (λ ds. a.self.now ++ ds) text;
    }

pub loop-rest-init : goal.loop-rest-init
loop-rest-init c = (omega arith, refl, omega arith, refl)

pub overflow_sub-pos-in-loop-rest : goal.overflow_sub-pos-in-loop-rest
overflow_sub-pos-in-loop-rest c =
    let l = c.loop-rest in omega (arith, room l.pos l.rest c.loop-rest-test.true l.invariant.2)

pub slice_bounds-put-end : goal.slice_bounds-put-end
slice_bounds-put-end c = simp length-set (omega arith)

pub put-requires : goal.put-requires
put-requires c = simp (length-take, length-drop, length-set) (omega arith)
