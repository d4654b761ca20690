-- w is no `rfv`; or it is one, and its bit decides.
use mathlib.Core.Path.{◌≡◌, sym, ◌∙◌, ap}
use mathlib.Core.Bool.{true, ◌||◌}
use mathlib.Core.List.{map}
use Prim.Native.Nat.{◌≤◌}
use native.Mathlib.Omega.{arith}
use lib.ListN.{length}
use lib.Seq.{take-length}
use Rattle.tableau.specs.declared.Place.{Place}
use Rattle.tableau.specs.Terms.{Table, Clauses, at, disjuncts, mentioned}
use Rattle.tableau.specs.Steps.{is_rfv, not_fresh}
use Rattle.packing.specs.Packing.{unpack_literal}
use Rattle.table.specs.Held.{Entries}
use Rattle.freshness.specs.Prefixes.{PrefixRows}
use Rattle.freshness.proofs.Laws.{rfv_first, no_rfv, fresh_rfv, used_rfv, told_place}
use Rattle.freshness.proofs.test.Goals as goal
use Rattle.freshness.proofs.test.Goals.{After-has_bit, Else-not-is_rfv}

-- behind the first test w is an `rfv`, and so a term
made : (c : goal.Else-not-is_rfv) → c.args.w.0 ≤ c.args.n
made c = c.is_rfv.ensures.w_le_n c.if-not-is_rfv.false

rfv : (c : goal.Else-not-is_rfv) (table : Table) → Entries table c.args.terms.now → length table ≡ c.args.n → is_rfv (at table c.args.w.0) ≡ true
rfv c table E e = sym (c.is_rfv.ensures.value table E e) ∙ c.if-not-is_rfv.false

-- the bit that was read says whether a clause or the branch mentions w
told : (c : goal.After-has_bit) → c.is_rfv.result ≡ true → (table : Table) (C : Clauses) → Entries table c.args.terms.now → length table ≡ c.args.n
    → PrefixRows table C c.args.branch.now c.args.prefix.now (length c.args.branch.now)
    → c.has_bit.result ≡ (mentioned (at table) c.args.w.0 (disjuncts C)
    || mentioned (at table) c.args.w.0 (map unpack_literal c.args.branch.now))
told c y table C E e P =
    let m = c.is_rfv.ensures.w_le_n y in
    rw take-length at (c.has_bit.ensures
    ∙ P.told (length c.args.branch.now) c.args.w.0 (omega arith)
    (rfv_first table c.args.w.0 (sym (c.is_rfv.ensures.value table E e) ∙ y)) (omega (arith, m))
    (omega (arith, m, c.requires.n_le_max_terms)))

pub returns-then-not-is_rfv : goal.returns-then-not-is_rfv
returns-then-not-is_rfv c table C E R e P = sym (no_rfv table C _ c.args.w.0 (sym (c.is_rfv.ensures.value table E e) ∙ c.if-not-is_rfv.true))

pub returns-then-not-has_bit : goal.returns-then-not-has_bit
returns-then-not-has_bit c table C E R e P =
    let b = (goal.at.returns-then-not-has_bit c).After-has_bit in
    let r = rfv (goal.at.returns-then-not-has_bit c).Else-not-is_rfv table E e in
    sym (fresh_rfv table C _ c.args.w.0 r (sym (told b c.if-not-is_rfv.false table C E e P) ∙ c.if-not-has_bit.true))

pub returns : goal.returns
returns c table C E R e P =
    let b = (goal.at.returns c).After-has_bit in
    let r = rfv (goal.at.returns c).Else-not-is_rfv table E e in
    ap not_fresh (ap (λ (p : Place). p.0) c.unwrap_or.ensures
    ∙ told_place _ _ (c.first_place.ensures table R e (rfv_first table c.args.w.0 r)))
    ∙ sym (used_rfv table C _ c.args.w.0 r (sym (told b c.if-not-is_rfv.false table C E e P) ∙ c.if-not-has_bit.false))
