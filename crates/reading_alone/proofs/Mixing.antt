-- A line that was read, a badly shaped one and the end of the file, among the lines that are mixed.
use mathlib.Core.Path.{◌≡◌, sym, ◌∙◌, ap}
use mathlib.Core.List.{List, ◌∷◌}
use Rattle.std.specs.Prelude.{Option, None, Some}
use Prim.Native.Nat.{ℕ, ◌<◌, ◌≤◌}
use lib.ListN.{length, drop, drop_of_length-le}
use Rattle.tableau.specs.File.{LF, split}
use Rattle.lines.specs.declared.LineFields.{LineFields}
use Rattle.lines.specs.Lines.{line_at, numbers_of}
use Rattle.running.proofs.Lines.{line_pieces, bad_pieces}
use Rattle.reading_alone.specs.Reading.{mixed, mixed_lines}

-- the lines from a position on, mixed into a value
abbrev pub mixed_from : List ℕ → ℕ → ℕ → Option ℕ
mixed_from file at value = mixed_lines (split LF (drop at file)) value

module _ (file : List ℕ) (at value : ℕ) where
  pub line_mixed : (f : LineFields) → line_at file at ≡ Some f
      → mixed_from file at value ≡ mixed_from file f.next.at (mixed value f.word (numbers_of f))
  unfolding mixed_lines
  line_mixed f e =
      let p = line_pieces file at f e in
      ap (λ ks. mixed_lines ks value) p.cut
      ∙ rw p.shaped
      (ap (λ (g : LineFields). mixed_lines (p.follower ∷ p.others)
      (mixed value g.word (numbers_of g))) (sym p.fields))
      ∙ ap (λ ks. mixed_lines ks (mixed value f.word (numbers_of f))) (sym p.rest)

  pub bad_mixed : at < length file → line_at file at ≡ None → mixed_from file at value ≡ None
  unfolding mixed_lines
  bad_mixed before e = bad_pieces file at before e (λ b l q. rw q) (λ l m ls q s. rw (q, s))

  pub end_mixed : length file ≤ at → mixed_from file at value ≡ Some value
  unfolding split mixed_lines
  end_mixed h = rw (drop_of_length-le file h)
