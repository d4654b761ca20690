-- A reply line, a bad one and the end of the night, in the specification's run.
use mathlib.Core.Bool.{Bool, true, false, not}
use mathlib.Core.List.{List, [], ◌∷◌, ◌++◌}
use Rattle.std.specs.Prelude.{Option, None, Some}
use mathlib.Core.Path.{◌≡◌, refl, sym, ap, subst, ◌∙◌}
use Prim.Native.Nat.{ℕ, suc, ◌+◌, ◌*◌, ◌^◌, ◌≤◌, ◌<◌}
use native.Mathlib.Numerals.{add-one}
use native.Mathlib.Omega.{arith}
use lib.ListN.{length, length-append}
use borrow.Author.Tests.{le-leb}
use Rattle.tableau.specs.declared.Reason.{Reason}
use Rattle.tableau.specs.Basics.{then}
use Rattle.tableau.specs.File.{max_bytes}
use Rattle.tableau.specs.Tree.{Checked, passed, ◌>>◌, require}
use Rattle.tableau.specs.Reply.{Reply, stopped, run_lines}
use Rattle.tableau.proofs.Bools.{none≢some, some_inj, then_inv}
use Rattle.lines.specs.Lines.{first_line, LinesEnd}
use Rattle.lines.proofs.FileSteps.{one_piece_behind}
use Rattle.running.specs.Running.{run_from}
use Rattle.running.proofs.Lines.{line_there, no_line_there, run_piece, refused_here, at_end_lem}
use Rattle.statistics.specs.ReplyLines.{reply_digits, reply_shape, contradictory}
use Rattle.statistics.specs.Figures.{run_reply, replies_of}
use Rattle.reply_lines.specs.Reading.{least_reply, ReplyAt, shaped_at, reply_at}
use Rattle.reply_lines.proofs.Sizes.{sizes}
use Rattle.figures.specs.declared.totals.Totals.{Totals}
use Rattle.figures.specs.Totals.{most_replies}
use Rattle.figures.specs.Night.{TotalsIn, AllRead}

-- what a reply comes to, behind others
abbrev pub run_shaped : List Reply → Reply → Checked (List Reply)
run_shaped rs r = require (not (contradictory r)) Reason.BadShape >> passed (rs ++ (r ∷ []))

shaped_runs : (rs : List Reply) (l : List ℕ) (r : Reply) → reply_shape l ≡ Some r
    → run_reply rs l ≡ run_shaped rs r
unfolding run_reply
shaped_runs rs l r e = rw e

-- A LINE THAT IS READ at a position: it ends inside the night, its S lines are few, and the run
-- goes on behind it.
pub record ReplyHere (night : List ℕ) (at : ℕ) (r : Reply) (next : ℕ) : Type 0 where
  pub longer : at + least_reply ≤ next
  pub inside : next ≤ length night
  pub steps : r.steps < 10 ^ reply_digits
  pub runs : (i : ℕ) (rs : List Reply)
      → run_from run_reply night at i (passed rs)
      ≡ run_from run_reply night next (suc i) (run_shaped rs r)

pub reply_here : (night : List ℕ) (at : ℕ) (x : ReplyAt) → reply_at night at ≡ Some x
    → ReplyHere night at x.reply x.next
unfolding reply_at
reply_here night at x e =
    let f = line_there None shaped_at night at (Some x) none≢some e in
    let k = then_inv (reply_shape f.piece) _ f.is in
    let z = sizes f.piece k.0 k.1 in
    subst (λ y. ReplyHere night at y.reply y.next) (some_inj k.2)
    (record {
      longer = omega (arith, z.long);
      inside = f.inside;
      steps = z.steps;
      runs =
          λ i rs. ap (λ ks. run_lines run_reply ks i (passed rs)) f.cut
          ∙ run_piece run_reply rs i f.piece f.follower f.others
          ∙ ap (run_lines run_reply (f.follower ∷ f.others) (suc i))
          (shaped_runs rs f.piece k.0 k.1)
          ∙ ap (λ ks. run_lines run_reply ks (suc i) (run_shaped rs k.0)) (sym f.rest);
    })

-- A BAD LINE: bytes behind the last LF, or a line that is not shaped as a reply
no_reply_here : (night : List ℕ) (at : ℕ) → at < length night → None ≡ reply_at night at
    → (i : ℕ) (rs : List Reply)
    → run_from run_reply night at i (passed rs) ≡ stopped Reason.BadShape (suc i)
unfolding reply_at run_reply run_lines
no_reply_here night at before e i rs =
    no_line_there None shaped_at night at before (sym e)
    (λ b l q. rw q)
    (λ l m ls q h. rw q
    (run_piece run_reply rs i l m ls ∙ rw (no_shape (at + length l + 1) (reply_shape l) h)))
  where
    no_shape : (n : ℕ) (o : Option Reply)
        → ◌≡◌ {A = Option ReplyAt} (then o λ r. Some (record { reply = r; next = n })) None
        → o ≡ None
    no_shape n None h = refl
    no_shape n (Some r) h = none≢some (sym h)

pub no_reply_behind : (night : List ℕ) (end at : ℕ) → LinesEnd night end → end ≤ at
    → None ≡ reply_at night at
unfolding reply_at
no_reply_behind night end at E h =
    sym (ap (first_line None shaped_at at) (one_piece_behind night end at E h))

-- A reply that contradicts itself is refused, any other is taken.
module _ (night : List ℕ) (next i : ℕ) (rs : List Reply) (r : Reply) where
  contradicted : contradictory r ≡ true
      → run_from run_reply night next (suc i) (run_shaped rs r) ≡ stopped Reason.BadShape (suc i)
  contradicted e = rw e (refused_here run_reply night next (suc i) Reason.BadShape)

  taken : contradictory r ≡ false
      → run_from run_reply night next (suc i) (run_shaped rs r)
      ≡ run_from run_reply night next (suc i) (passed (rs ++ (r ∷ [])))
  taken e = rw e

-- THE REPLIES SO FAR: those of the lines before a position, by their totals. The run goes on behind
-- them.
pub record SoFar (night : List ℕ) (t : Totals) (at : ℕ) : Type 0 where
  pub replies : List Reply
  pub totals : TotalsIn replies t
  pub room : t.files * least_reply ≤ at
  pub inside : at ≤ length night
  pub reads : replies_of night ≡ run_from run_reply night at t.files (passed replies)

pub none_so_far : (night : List ℕ) (t : Totals) → length night ≤ max_bytes → TotalsIn [] t
    → SoFar night t 0
unfolding replies_of
none_so_far night t h k = record {
  replies = [];
  totals = k;
  room = omega (arith, k.files);
  inside = omega arith;
  reads = rw (le-leb (length night) max_bytes h, k.files);
}

module _ (night : List ℕ) (t : Totals) (at : ℕ) (S : SoFar night t at) where
  pub bad_so_far : at < length night → None ≡ reply_at night at
      → replies_of night ≡ stopped Reason.BadShape (t.files + 1)
  bad_so_far h e = S.reads ∙ rw add-one (no_reply_here night at h e t.files S.replies)

  pub all_so_far : length night ≤ at → AllRead night t
  all_so_far h = record {
    replies = S.replies;
    totals = S.totals;
    count = t.files;
    read = S.reads ∙ at_end_lem run_reply night at h t.files S.replies;
  }

  module _ (r : Reply) (next : ℕ) (here : ReplyHere night at r next) (b : Bool)
      (is : b ≡ contradictory r) where
    pub refused_so_far : b ≡ true → replies_of night ≡ stopped Reason.BadShape (t.files + 1)
    refused_so_far e =
        S.reads ∙ here.runs t.files S.replies
        ∙ rw add-one (contradicted night next t.files S.replies r (sym is ∙ e))

    pub room_for_one : length night ≤ max_bytes → t.files < most_replies
    room_for_one h = omega (arith, S.room, here.longer, here.inside, h)

    pub one_more : b ≡ false → (t' : Totals) → TotalsIn (S.replies ++ (r ∷ [])) t'
        → SoFar night t' next
    one_more e t' k =
        let f : t'.files ≡ t.files + 1 =
        omega (arith, k.files, length-append S.replies (r ∷ []), S.totals.files) in
        record {
          replies = S.replies ++ (r ∷ []);
          totals = k;
          room = omega (arith, f, S.room, here.longer);
          inside = here.inside;
          reads =
              S.reads ∙ here.runs t.files S.replies ∙ taken night next t.files S.replies r (sym is ∙ e)
              ∙ rw (f, add-one);
        }
