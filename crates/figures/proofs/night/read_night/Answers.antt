use mathlib.Core.Path.{sym}
use native.Mathlib.Omega.{arith}
use Rattle.lines.proofs.FileSteps.{ahead_here}
use Rattle.reply.specs.Verdict.{reply_record}
use Rattle.statistics.proofs.Nights.{too_long}
use Rattle.figures.proofs.Lines.{ReplyHere, reply_here, no_reply_behind, none_so_far, bad_so_far}
use Rattle.figures.proofs.Lines.{all_so_far, refused_so_far, room_for_one, one_more}
use Rattle.figures.proofs.night.read_night.Goals as goal
use Rattle.figures.proofs.night.read_night.Goals.{In-Some}

pub returns-then-replies-gt-NIGHT_BYTES : goal.returns-then-replies-gt-NIGHT_BYTES
returns-then-replies-gt-NIGHT_BYTES c = too_long _ c.if-replies-gt-NIGHT_BYTES.true

pub loop-at-init : goal.loop-at-init
loop-at-init c = none_so_far _ _ c.if-replies-gt-NIGHT_BYTES.false c.none-totals.ensures

pub returns-in_default : goal.returns-in_default
returns-in_default c =
    let ahead = c.lines_end-end.ensures.ahead _ c.loop-at-test.true in
    rw c.bad_line.ensures
    (bad_so_far _ _ _ c.loop-at.invariant (ahead_here _ _ ahead) c.in_default.ensures)

-- the line that is read
here : (c : goal.In-Some)
    → ReplyHere c.args.replies.now c.loop-at.at (reply_record c.in-Some.reply) c.in-Some.next
here c = reply_here _ _ _ (sym c.in-Some.ensures)

pub returns-then-contradicts_itself : goal.returns-then-contradicts_itself
returns-then-contradicts_itself c =
    let h = here (goal.at.returns-then-contradicts_itself c).In-Some in
    rw c.bad_line-then-contradicts_itself.ensures
    (refused_so_far _ _ _ c.loop-at.invariant _ _ h _
    c.contradicts_itself.ensures c.if-contradicts_itself.true)

pub add-requires : goal.add-requires
add-requires c =
    let h = here (goal.at.add-requires c).In-Some in
    let replies_fit = c.if-replies-gt-NIGHT_BYTES.false in
    (room_for_one _ _ _ c.loop-at.invariant _ _ h _ c.contradicts_itself.ensures replies_fit, h.steps)

pub loop-at-smaller : goal.loop-at-smaller
loop-at-smaller c =
    let h = here (goal.at.loop-at-smaller c).In-Some in omega (arith, h.longer, h.inside)

pub loop-at-preserved : goal.loop-at-preserved
loop-at-preserved c =
    let l = c.loop-at in
    let h = here (goal.at.loop-at-preserved c).In-Some in
    one_more _ _ _ l.invariant _ _ h _ c.contradicts_itself.ensures c.if-contradicts_itself.false _
    (c.add.ensures l.invariant.replies l.invariant.totals)

-- behind the last LF
pub returns-then-at-replies : goal.returns-then-at-replies
returns-then-at-replies c =
    rw c.bad_line-then-at-replies.ensures
    (bad_so_far _ _ _ c.loop-at.invariant c.if-at-replies.true
    (no_reply_behind _ _ c.loop-at.at c.lines_end-end.ensures c.loop-at-test.false))

pub returns : goal.returns
returns c = all_so_far _ _ _ c.loop-at.invariant c.if-at-replies.false
