use Rattle.std.proofs.Common.{◌≡◌, ◌+◌, ◌-◌, sym, arith}
use Rattle.clauses.proofs.Arrays.{codes_slice}
use Rattle.clauses.proofs.Span.codes.Goals as goal

pub returns : goal.returns
returns c =
    let s = c.args.self in
    let n : s.from + s.count - s.from ≡ s.count = omega arith in
    rw n (sym (codes_slice c.args.clauses.now s.from s.count (omega arith)))
