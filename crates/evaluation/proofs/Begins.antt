-- Which texts begin `S,`: a line exactly where its letter is S, a text exactly where its first line does.
use mathlib.Core.Path.{◌≡◌, refl, sym, ◌∙◌, ap}
use mathlib.Core.List.{List, [], ◌∷◌, ◌++◌}
use Rattle.std.specs.Prelude.{Some}
use Prim.Native.Nat.{ℕ}
use Rattle.tableau.specs.declared.Letter.{Letter}
use Rattle.tableau.specs.Basics.{bytes, same_bytes, lookup}
use Rattle.tableau.specs.File.{Line, letters, rank, in_order, max_digits, shape, split, comma, LF}
use Rattle.tableau.proofs.SixFields.{six_fields_lem}
use Rattle.tableau.proofs.Checks.{lookup_agree}
use Rattle.tableau.proofs.Pieces.{each_behind, pieces}
use Rattle.evaluation.specs.Evaluation.{begins_step}

-- the first piece of a line is its letter, and S is the last of the letters
pub begins_step_lem : {L : Line Letter} (l : List ℕ) → shape letters l ≡ Some L → begins_step l ≡ in_order Letter.S L.letter
unfolding letters rank bytes same_bytes each_behind
begins_step_lem {L} l e =
    let f = six_fields_lem max_digits (lookup letters) (split comma l) e in
    let x = pieces comma l in
    let k : x.first ≡ f.letter_text = cc in
    let t = f.texts.a ∷ f.texts.b ∷ f.texts.c ∷ f.texts.d ∷ [] in
    let r : x.others ≡ L.word ∷ t = cc in
    ap begins_step (x.whole ∙ λ i. k i ++ each_behind comma (r i))
    ∙ sym (lookup_agree (in_order Letter.S) (λ k. begins_step (k ++ each_behind comma (L.word ∷ t))) letters f.letter_text refl f.letter)

-- the bytes `S` and `,` are no LF
pub begins_first : (text : List ℕ) → begins_step (pieces LF text).first ≡ begins_step text
unfolding bytes same_bytes each_behind
begins_first text = let x = pieces LF text in sym (ap begins_step x.whole ∙ go x.first x.others)
  where
    go : (p : List ℕ) (ps : List (List ℕ)) → begins_step (p ++ each_behind LF ps) ≡ begins_step p
    go [] [] = refl
    go [] (q ∷ ps) = refl
    go (a ∷ []) [] = refl
    go (a ∷ []) (q ∷ ps) = refl
    go (a ∷ b ∷ p) ps = refl
