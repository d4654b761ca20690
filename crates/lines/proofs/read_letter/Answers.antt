use mathlib.Core.Path.{sym, ◌∙◌}
use Rattle.lines.proofs.Bytes.{no_capital, comma_read, comma_bad}
use Rattle.lines.proofs.read_letter.Goals as goal
use Rattle.lines.proofs.read_letter.Goals.{else-is_ascii_uppercase-via-then-is_ascii_uppercase+else-file-at-eq44 as other_byte, else-is_ascii_uppercase-via-else-is_ascii_uppercase as no_letter}

pub returns-then-file-at-eq44 : goal.returns-then-file-at-eq44
returns-then-file-at-eq44 c =
    let own = sym c.is_ascii_uppercase.ensures.value ∙ c.if-is_ascii_uppercase.true in
    comma_read _ _ c.requires own c.if-file-at-eq44.true

pub returns-else-is_ascii_uppercase : goal.returns-else-is_ascii_uppercase
returns-else-is_ascii_uppercase c =
    let test = sym c.is_ascii_uppercase.ensures.value in
    elim c.else-is_ascii_uppercase.branch [
      | other_byte w ↦ comma_bad _ _ c.requires (test ∙ w.if-is_ascii_uppercase.true) w.if-file-at-eq44.false
      | no_letter w ↦ no_capital _ _ c.requires (test ∙ w.if-is_ascii_uppercase.false)
    ]
