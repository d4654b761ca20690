use mathlib.Core.Path.{◌≡◌, sym, ◌∙◌, subst}
use mathlib.Core.Bool.{Bool}
use Prim.Native.Nat.{◌+◌}
use native.Mathlib.Omega.{arith}
use lib.Dec.{eqb}
use lib.ListN.{set}
use borrow.Author.Tests.{eq-eqb, ne_eqb}
use Rattle.std.specs.Prelude.{Some}
use Rattle.lines.specs.Lines.{line_at}
use Rattle.lines.proofs.FileSteps.{ahead_here, no_line_behind}
use Rattle.running.proofs.Lines.{line_here}
use Rattle.facts.specs.Reading.{sizes_after}
use Rattle.facts.proofs.LineChecks.{fact_fields_lem}
use Rattle.facts.proofs.Reached.{reached_start, Reached, bad, finished, refused_line, more}
use Rattle.facts.proofs.reading.read_facts.Goals as goal
use Rattle.facts.proofs.reading.read_facts.Goals.{In-Some, In-Ok}

pub loop-at-init : goal.loop-at-init
loop-at-init c = reached_start c.told-facts c.requires

pub returns-in_default : goal.returns-in_default
returns-in_default c = bad c.loop-at.invariant (ahead_here _ _ (c.lines_end-end.ensures.ahead _ c.loop-at-test.true)) (sym c.read_line.ensures ∙ c.in_default.is)

is_line : (c : goal.In-Some) → line_at (c.args.file.now) c.loop-at.at ≡ Some c.in-Some.f
is_line c = sym c.read_line.ensures ∙ c.in-Some.is

pub check_fact-requires : goal.check_fact-requires
check_fact-requires c = ((line_here fact_fields_lem _ _ _ (is_line (goal.at.check_fact-requires c).In-Some)).small, c.loop-at.invariant.fit)

pub returns-in-Err : goal.returns-in-Err
returns-in-Err c = let R = c.loop-at.invariant in refused_line R _ (is_line (goal.at.returns-in-Err c).In-Some) _ (c.in-Err.ensures R.facts R.kept R.sized)

pub loop-at-smaller-then-count-eq0 : goal.loop-at-smaller-then-count-eq0
loop-at-smaller-then-count-eq0 c =
    let l = line_here fact_fields_lem _ _ _ (is_line (goal.at.loop-at-smaller-then-count-eq0 c).In-Some) in
    omega (arith, l.longer, l.inside)

more_here : (c : goal.In-Ok) → {b : Bool} → eqb c.loop-at.count 0 ≡ b
    → Reached c.args.file.now (set c.loop-at.facts c.loop-at.count c.in-Ok.fact) (sizes_after b c.in-Some.f c.loop-at.sizes) (c.loop-at.count + 1) c.in-Some.f.next.at
more_here c e =
    let R = c.loop-at.invariant in
    subst
    (λ (b : Bool). Reached c.args.file.now (set c.loop-at.facts c.loop-at.count c.in-Ok.fact) (sizes_after b c.in-Some.f c.loop-at.sizes) (c.loop-at.count + 1) c.in-Some.f.next.at) e
    (more R _ (sym c.read_line.ensures ∙ c.in-Some.is) _ (c.in-Ok.ensures R.facts R.kept R.sized))

pub loop-at-preserved-then-count-eq0 : goal.loop-at-preserved-then-count-eq0
loop-at-preserved-then-count-eq0 c = more_here (goal.at.loop-at-preserved-then-count-eq0 c).In-Ok (eq-eqb _ 0 c.if-count-eq0.true)

pub loop-at-smaller : goal.loop-at-smaller
loop-at-smaller c =
    let l = line_here fact_fields_lem _ _ _ (is_line (goal.at.loop-at-smaller c).In-Some) in
    omega (arith, l.longer, l.inside)

pub loop-at-preserved : goal.loop-at-preserved
loop-at-preserved c = more_here (goal.at.loop-at-preserved c).In-Ok (ne_eqb _ 0 c.if-count-eq0.false)

pub returns-then-at-file : goal.returns-then-at-file
returns-then-at-file c = bad c.loop-at.invariant c.if-at-file.true (no_line_behind _ _ _ c.lines_end-end.ensures c.loop-at-test.false)

pub returns : goal.returns
returns c = finished c.loop-at.invariant c.if-at-file.false
