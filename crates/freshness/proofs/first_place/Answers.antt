-- The search's closure says of each literal whether it mentions w.
use Rattle.std.proofs.Common.{◌≡◌, ◌+◌, true, false, option_map, sym, ◌∙◌, rules, tests}
use Rattle.std.proofs.lemmas.Iterator.{IsFirst-from_position, YieldsList-from_slice}
use Rattle.tableau.specs.Terms.{at, mentioned_in}
use Rattle.packing.specs.Packing.{unpack_literal}
use Rattle.freshness.proofs.Laws.{first_found}
use Rattle.freshness.proofs.first_place.Goals as goal

pub returns : goal.returns
returns c table R e first =
    let found = IsFirst-from_position _ _ c.position.result
    (λ l. mentioned_in (at table) c.args.w.0 (unpack_literal l) ≡ true)
    (λ l. mentioned_in (at table) c.args.w.0 (unpack_literal l) ≡ false)
    c.position.ensures.ran (YieldsList-from_slice c.args.branch.now cc)
    (λ x q k. search (rules, tests))
    (λ x q k. search (rules, tests)) in
    let mapped : option_map (λ p. p.0) c.map.result ≡ option_map (λ i. 1 + i) c.position.result =
    search (rules, tests) in
    mapped ∙ sym (first_found unpack_literal (at table) c.args.w.0 c.args.branch.now 1
    c.position.result found)
