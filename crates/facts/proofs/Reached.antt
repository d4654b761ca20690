-- The run over a heap file: its start, a bad line, a line refused, a line more, the end.
use mathlib.Core.Path.{◌≡◌, refl, sym, ◌∙◌, ap, subst}
use mathlib.Core.Bool.{true}
use mathlib.Core.List.{List, [], ◌∷◌, ◌++◌}
use Rattle.std.specs.Prelude.{None, Some, Ok, Err}
use Rattle.std.proofs.lemmas.List.{map-append}
use Prim.Native.Nat.{ℕ, suc, ◌+◌, ◌*◌, ◌<◌, ◌≤◌}
use native.Mathlib.Numerals.{add-one}
use native.Mathlib.Omega.{arith}
use lib.Dec.{eqb, leb, eqb-suc-zero}
use lib.ListN.{length, take, set, length-set, length-append}
use lib.Seq.{take-suc-set}
use borrow.Author.Tests.{eqb-true, leb-true}
use Rattle.tableau.specs.declared.Reason.{Reason}
use Rattle.tableau.specs.Basics.{four, every}
use Rattle.tableau.specs.File.{max_bytes}
use Rattle.tableau.specs.Tree.{passed}
use Rattle.tableau.specs.Reply.{stopped}
use Rattle.tableau.proofs.Bools.{both_true, every_true}
use Rattle.evaluation.specs.declared.FactWord.{FactWord}
use Rattle.evaluation.specs.Facts.{fact_fields, Fact, Facts, sizes, is_nil, subject_of, zero_unless_used, in_range, run_fact}
use Rattle.lines.specs.declared.LineFields.{LineFields}
use Rattle.lines.specs.Lines.{line_at, numbers_of}
use Rattle.running.specs.Running.{run_from, least_line}
use Rattle.running.proofs.Lines.{line_here, bad_line, refused_here, at_end_lem}
use Rattle.facts.specs.declared.Sizes.{Sizes}
use Rattle.facts.specs.declared.StoredFact.{StoredFact}
use Rattle.facts.specs.Keys.{sizes_of, stored, facts_length, Fits, AllFit, FactsHeld}
use Rattle.facts.specs.Reading.{SizesFit, sizes_after, Added, FactDone, Finished}
use Rattle.facts.proofs.Ranges.{subject_fits}
use Rattle.facts.proofs.LineChecks.{fact_fields_lem}

-- Every line before the position passed, and the facts stored and the sizes are what these lines say.
pub record Reached (file : List ℕ) (held : List StoredFact) (s : Sizes) (n at : ℕ) : Type 0 where
  pub facts : Facts
  pub count : n ≡ length facts
  pub size : length held ≡ facts_length
  pub kept : FactsHeld facts (take n held)
  pub sized : sizes facts ≡ sizes_of s
  pub fit : SizesFit (sizes_of s)
  pub lines : least_line * n ≤ at
  pub inside : at ≤ length file
  pub short : length file ≤ max_bytes
  pub runs : run_from run_fact file 0 0 (passed []) ≡ run_from run_fact file at n (passed facts)

abbrev no_sizes : Sizes
no_sizes = record { references = 0; fields = 0; classes = 0 }

pub reached_start : {file : List ℕ} {held : List StoredFact} → length held ≡ facts_length → length file ≤ max_bytes → Reached file held no_sizes 0 0
unfolding AllFit
reached_start k h = record {
  facts = [];
  count = refl;
  size = k;
  kept = record { is = refl; fit = tt };
  sized = refl;
  fit = record { a = omega arith; b = omega arith; c = omega arith };
  lines = omega arith;
  inside = omega arith;
  short = h;
  runs = refl;
}

-- A LINE MORE
fit_more : (facts : Facts) (x : Fact) → AllFit facts → Fits (subject_of x.word x.fields) → AllFit (facts ++ (x ∷ []))
unfolding AllFit
fit_more [] x f h = (h, tt)
fit_more (y ∷ ys) x f h = (f.0, fit_more ys x f.1 h)

-- one fact more is stored
held_more : (facts : Facts) (x : Fact) (held : List StoredFact) (n : ℕ) (y : StoredFact) → n < length held → FactsHeld facts (take n held) → y ≡ stored x → Fits (subject_of x.word x.fields)
    → FactsHeld (facts ++ (x ∷ [])) (take (n + 1) (set held n y))
held_more facts x held n y h H q f = record {
  is = rw add-one (take-suc-set held n y h ∙ (λ i. H.is i ++ (q i ∷ [])) ∙ sym (map-append stored facts (x ∷ [])));
  fit = fit_more facts x H.fit f;
}

-- the first line gives the sizes, and they are within their limits; no other changes them
module _ (facts : Facts) (f : LineFields) (s : Sizes) (g : sizes facts ≡ sizes_of s) (x : StoredFact) (d : Added facts f x) where
  abbrev new : Fact
  new = record { word = d.word; fields = numbers_of f }

  first_sizes : is_nil facts ≡ true → (f.d ≡ 0) × SizesFit (four f.a f.b f.c 0)
  unfolding fact_fields
  first_sizes n =
      let z = every_true zero_unless_used (fact_fields FactWord.Siz) (numbers_of f) (subst (λ w. every zero_unless_used (fact_fields w) (numbers_of f) ≡ true) (d.first n) d.added.unused_zero) in
      let r = every_true (in_range (sizes facts)) (fact_fields FactWord.Siz) (numbers_of f) (subst (λ w. every (in_range (sizes facts)) (fact_fields w) (numbers_of f) ≡ true) (d.first n) d.added.ranges) in (
        eqb-true f.d 0 z.3,
        record {
          a = leb-true f.a 64 (both_true (leb 1 f.a) _ r.0).1;
          b = leb-true f.b 16 (both_true (leb 1 f.b) _ r.1).1;
          c = leb-true f.c 16 (both_true (leb 1 f.c) _ r.2).1;
        },
      )

more_sizes : (facts : Facts) (f : LineFields) (s : Sizes) → sizes facts ≡ sizes_of s → SizesFit (sizes_of s) → (x : StoredFact) (d : Added facts f x) (n : ℕ) → n ≡ length facts
    → let s' = sizes_after (eqb n 0) f s in (sizes (facts ++ (record { word = d.word; fields = numbers_of f } ∷ [])) ≡ sizes_of s') × SizesFit (sizes_of s')
more_sizes [] f s g h x d n e = let k = first_sizes [] f s g x d refl in rw e (ap (λ (y : ℕ). four f.a f.b f.c y) k.0, k.1)
more_sizes (y ∷ ys) f s g h x d n e = rw (e, eqb-suc-zero (length ys)) (g, h)

-- A RUN that has come to a position
module _ {file : List ℕ} {held : List StoredFact} {s : Sizes} {n at : ℕ} (R : Reached file held s n at) where
  -- another line has room
  pub room : at + least_line ≤ length file → n + 1 < facts_length
  room h = omega (arith, R.lines, R.short)

  pub bad : at < length file → line_at file at ≡ None → run_from run_fact file 0 0 (passed []) ≡ stopped Reason.BadShape (n + 1)
  bad h e = rw (add-one n) (R.runs ∙ bad_line fact_fields_lem file at h e n R.facts)

  pub finished : length file ≤ at → Finished file held (record { count = n; sizes = s })
  finished h = record { facts = R.facts; count = R.count; room = omega (arith, R.lines, R.inside, R.short); kept = R.kept; sized = R.sized; runs = R.runs ∙ at_end_lem run_fact file at h n R.facts }

  module _ (f : LineFields) (e : line_at file at ≡ Some f) where
    pub refused_line : (r : Reason) → FactDone R.facts f (Err r) → run_from run_fact file 0 0 (passed []) ≡ stopped r (n + 1)
    refused_line r d =
        rw (add-one n)
        (R.runs ∙ (line_here fact_fields_lem file at f e).runs n R.facts ∙ ap (run_from run_fact file f.next.at (suc n)) d ∙ refused_here run_fact file f.next.at (suc n) r)

    pub more : (x : StoredFact) → FactDone R.facts f (Ok x) → Reached file (set held n x) (sizes_after (eqb n 0) f s) (n + 1) f.next.at
    more x d =
        let l = line_here fact_fields_lem file at f e in
        let g = more_sizes R.facts f s R.sized R.fit x d n R.count in
        let y : Fact = record { word = d.word; fields = numbers_of f } in
        let m : n + 1 < facts_length = room (omega (arith, l.longer, l.inside)) in
        record {
          facts = R.facts ++ (y ∷ []);
          count = rw (length-append R.facts (y ∷ [])) (ap (λ (k : ℕ). k + 1) R.count);
          size = length-set held n x ∙ R.size;
          kept = held_more R.facts y held n x (omega (arith, R.size)) R.kept d.added.is (subject_fits (sizes R.facts) (rw R.sized R.fit) d.word (numbers_of f) d.added.ranges);
          sized = g.0;
          fit = g.1;
          lines = omega (arith, R.lines, l.longer);
          inside = l.inside;
          short = R.short;
          runs = R.runs ∙ l.runs n R.facts ∙ ap (run_from run_fact file f.next.at (suc n)) (d.runs ∙ d.added.runs) ∙ rw (add-one n);
        }
