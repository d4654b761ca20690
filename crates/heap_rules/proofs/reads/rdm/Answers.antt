use mathlib.Core.Path.{refl}
use Rattle.rules.proofs.Laws.{computing, found, missing}
use Rattle.rules.proofs.Rows.{other_t, passes_on}
use Rattle.heap_rules.proofs.Written.{other_heap, read_written}
use Rattle.heap_rules.proofs.reads.rdm.Goals as goal

-- rea(h,y,g) is no term
pub returns-in_err-v : goal.returns-in_err-v
unfolding computing
returns-in_err-v c =
    passes_on c.from_residual.ensures.1 record {
      room = tt;
      answers = λ table h fresh.
          let K =
          read_written c.in-Rea.is c.view.ensures c.view-2.ensures c.in-Wri.is table h.entries in
          let m = missing c.on_three.ensures h c.in_err-v.was in
          rw (K.0.1, K.1, m.0, m.1);
    }

-- u eq y, f eq g, or t eq rea(h,y,g)
pub returns : goal.returns
unfolding computing
returns c =
    let b =
    rw (
      c.literal.ensures,
      c.literal-2.ensures,
      c.literal-3.ensures,
    ) at c.splits_two_one.ensures in
    record {
      room = b.room;
      answers = λ table h fresh.
          let K =
          read_written c.in-Rea.is c.view.ensures c.view-2.ensures c.in-Wri.is table h.entries in
          rw (K.0.1, K.1, found c.on_three.ensures h c.in_ok-v.was, b.adds);
    }

-- t is not rea(z,y,g)
pub returns-in_default : goal.returns-in_default
unfolding computing
returns-in_default c = other_t refl (λ table h. c.view.ensures table h.entries) c.in_default.not-Rea

-- z is not wri(h,u,f,v)
pub returns-in_default-view : goal.returns-in_default-view
unfolding computing
returns-in_default-view c =
    other_heap c.in-Rea.is (λ table h. c.view.ensures table h.entries)
    (λ table h. c.view-2.ensures table h.entries) refl
    c.in_default-view.not-Wri
