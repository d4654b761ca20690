-- The run over a file: its start, a bad line, a line refused, a line more, the end.
use mathlib.Core.Path.{◌≡◌, refl, sym, ◌∙◌, ap}
use mathlib.Core.List.{List, []}
use Rattle.std.specs.Prelude.{None, Some, Ok, Err}
use Prim.Native.Nat.{ℕ, suc, ◌+◌, ◌<◌, ◌≤◌}
use native.Mathlib.Omega.{arith}
use native.Mathlib.Numerals.{add-one}
use lib.ListN.{length, take, length-take, length-append}
use lib.Seq.{take-take, take-append-le}
use Rattle.tableau.specs.declared.Reason.{Reason}
use Rattle.tableau.specs.declared.Refusal.{Refusal}
use Rattle.tableau.specs.File.{max_bytes}
use Rattle.tableau.specs.Tree as specification
use Rattle.tableau.specs.Tree.{passed, root}
use Rattle.tableau.specs.Reply.{run_line, stopped}
use Rattle.lines.specs.declared.LineFields.{LineFields}
use Rattle.lines.specs.Lines.{line_at}
use Rattle.packing.specs.Packing.{unpack_literal}
use Rattle.terms.specs.Arrays.{Arrays, Held}
use Rattle.freshness.specs.Prefixes.{PrefixRows}
use Rattle.freshness.proofs.PrefixLaws.{prefix_same}
use Rattle.tree.specs.declared.Tree.{Tree}
use Rattle.tree.specs.declared.Change.{Change}
use Rattle.tree.specs.State.{codes_of, tree_in, codes_in, waiting_in, tree_of, Within}
use Rattle.tree.specs.Change.{codes_after, Stored}
use Rattle.clauses.specs.Held.{ClausesHeld}
use Rattle.growth.specs.declared.Progress.{Progress}
use Rattle.growth.specs.declared.LineEffect.{LineEffect}
use Rattle.growth.specs.Progress.{state_at, at_start}
use Rattle.line_checks.specs.Checks.{Ready, LineDone}
use Rattle.running.specs.Running.{check_from}
use Rattle.running.proofs.Lines.{check_fields, line_here, bad_line, refused_here, at_end_lem}
use Rattle.file_run.specs.Reached.{Reached, Finished, RunsTo, refused_at}

-- what is appended behind a cut leaves what stands before it
front_kept : (B : List ℕ) (c : Change) → c.cut ≤ length B → (m : ℕ) → m ≤ c.cut
    → take m (codes_after B c) ≡ take m B
front_kept B c l m h =
    take-append-le m (take c.cut B) (codes_of c.adds) (omega (arith, length-take c.cut B))
    ∙ take-take m c.cut B h

pub reached_start : {file : List ℕ} {A : Arrays} {words prefix : List ℕ} {t : Tree} → Held [] A 0
    → PrefixRows [] [] [] prefix 0 → ClausesHeld [] words 0 → Within t
    → tree_of unpack_literal t ≡ root → length file ≤ max_bytes
    → Reached file A words prefix t at_start 0
reached_start {file} {t = t} H P K w q s = record {
  table = [];
  clauses = [];
  held = H;
  clauses_held = K;
  rows = prefix_same refl P;
  within = w;
  counted = record {
    terms = omega arith;
    assumptions = omega arith;
    steps = omega arith;
    closings = omega arith;
    clauses = omega arith;
    closed = λ z. absurd (let y : ◌≡◌ {A = ℕ} 0 1 = cc in omega arith);
    no_clause_yet = λ z. refl;
  };
  noted = omega arith;
  lines = omega arith;
  inside = omega arith;
  short = s;
  runs = ap (λ (τ : specification.Tree). check_from file 0 0 (passed (state_at [] [] τ at_start)))
      (sym q);
}

module _ {file : List ℕ} {A : Arrays} {words prefix : List ℕ} {t : Tree} {g : Progress} {at : ℕ}
    (R : Reached file A words prefix t g at) where
  pub ready : at < length file → Ready g (codes_in t) (waiting_in t)
  ready h = record {
    branch = R.within.branch;
    waiting = R.within.waiting.room;
    counted = R.counted;
    short = omega (arith, R.lines, R.short, h);
    noted = R.noted;
  }

  -- a line that is read as none, and bytes behind the last LF
  pub reached_bad : at < length file → line_at file at ≡ None
      → RunsTo file A words (Err (refused_at Reason.BadShape (g.lines + 1)))
  reached_bad h e = rw (add-one g.lines) (R.runs ∙ bad_line check_fields file at h e g.lines _)

  pub reached_end : length file ≤ at → Finished file A words t g
  reached_end h = record {
    table = R.table;
    clauses = R.clauses;
    held = R.held;
    clauses_held = R.clauses_held;
    within = R.within;
    counted = R.counted;
    lines = omega (arith, R.lines, R.inside, R.short);
    runs = R.runs ∙ at_end_lem run_line file at h g.lines _;
  }

  -- a line with fields f, checked on the tree
  module _ (f : LineFields)
      (e : line_at file at ≡ Some f) {A' : Arrays} {words' prefix' : List ℕ} where
    pub reached_refused : {r : Refusal} → r.line ≡ g.lines + 1
        → LineDone R.table R.clauses g (codes_in t) (waiting_in t) f A' words' prefix'
        (Err r.reason) → RunsTo file A' words' (Err r)
    reached_refused {r} n D =
        R.runs ∙ (line_here check_fields file at f e).runs g.lines _
        ∙ ap (check_from file f.next.at (suc g.lines)) D.done.runs
        ∙ refused_here run_line file f.next.at (suc g.lines) r.reason
        ∙ ap (stopped r.reason) (sym (n ∙ add-one g.lines))

    module _ {x : LineEffect}
        (D : LineDone R.table R.clauses g (codes_in t) (waiting_in t) f A' words' prefix'
        (Ok x)) where
      pub reached_more : {t' : Tree} → Stored words' t x.change t'
          → Reached file A' words' prefix' t' x.progress f.next.at
      reached_more {t'} S =
          let n = D.done.follows in
          let l = line_here check_fields file at f e in
          let i : suc g.lines ≡ x.progress.lines = omega (arith, n.lines) in
          record {
            table = D.after;
            clauses = D.clauses;
            held = D.held.held;
            clauses_held = D.held.clauses;
            rows = prefix_same
                (ap (take x.progress.noted) S.branch
                ∙ front_kept (codes_in t) x.change (n.fits R.within.waiting).cut x.progress.noted n.noted) D.held.rows;
            within = S.within;
            counted = n.counted;
            noted = omega (
              arith,
              n.noted,
              (n.fits R.within.waiting).cut,
              ap (length {A = ℕ}) S.branch,
              length-append (take x.change.cut (codes_in t)) (codes_of x.change.adds),
              length-take x.change.cut (codes_in t),
            );
            lines = omega (arith, n.lines, R.lines, l.longer);
            inside = l.inside;
            short = R.short;
            runs = R.runs ∙ l.runs g.lines _
                ∙ ap (check_from file f.next.at (suc g.lines)) D.done.runs
                ∙ (λ j. check_from file f.next.at (i j)
                (passed (state_at D.after D.clauses (tree_in unpack_literal (sym S.branch j) (sym S.waiting j)) x.progress)));
          }
