-- A line that was read, a badly shaped one and the end of the file, in the specification's run.
use mathlib.Core.Path.{◌≡◌, refl, sym, ◌∙◌, ap, subst}
use mathlib.Core.Bool.{Bool, true, false, true≢false}
use mathlib.Core.List.{List, [], ◌∷◌}
use Rattle.std.specs.Prelude.{Option, None, Some}
use Rattle.std.proofs.lemmas.Option.{none-some, same_Some}
use Prim.Native.Nat.{ℕ, suc, ◌+◌, ◌<◌, ◌≤◌}
use native.Mathlib.Omega.{arith}
use lib.Dec.{eqb}
use lib.ListN.{length, drop, length-drop, drop_of_length-le}
use lib.Seq.{drop-drop}
use Rattle.tableau.specs.declared.Letter.{Letter}
use Rattle.tableau.specs.declared.Reason.{Reason}
use Rattle.tableau.specs.Basics.{then, bytes, lookup}
use Rattle.tableau.specs.File.{LF, comma, in_order, split, on_first, Line, six_fields, letters}
use Rattle.tableau.specs.File.{is_word, max_digits}
use Rattle.tableau.specs.Tree.{Checked, refused, passed, ◌>>=◌, require_some}
use Rattle.tableau.specs.Words.{Command, some_of, make, assume, disjoin, infer, command_of}
use Rattle.tableau.specs.Reply.{State, require_open, run_open, run_command, run_read, run_line}
use Rattle.tableau.specs.Reply.{stopped, ended, run_lines}
use Rattle.tableau.proofs.SixFields.{six_fields_lem, some_digit, word_long}
use Rattle.tableau.proofs.Decimals.{decimal_of_number}
use Rattle.tableau.proofs.Pieces.{Pieces, pieces, bytes_of, split_bytes}
use Rattle.lines.specs.declared.LineFields.{LineFields}
use Rattle.lines.specs.Lines.{capital, any_shape, pack_word, line_read, first_line, line_fields}
use Rattle.lines.specs.Lines.{line_at, numbers_of}
use Rattle.lines.specs.ByteSteps.{all_capitals}
use Rattle.words.proofs.PackedWords.{words_packed, relations_packed, rules_packed}
use Rattle.lines.proofs.Letters.{relettered, lettered_line, shape_lettered}
use Rattle.running.specs.Running.{run_from, packed_command, run_fields, SmallNumbers, least_line}
use Rattle.running.specs.Running.{ByFields, LineHere}

-- THE CUT AT LF: behind the first piece and its LF stand the others.
behind : (c : ℕ) (text l m : List ℕ) (ls : List (List ℕ)) → split c text ≡ l ∷ m ∷ ls
    → (split c (drop (suc (length l)) text) ≡ m ∷ ls) × (suc (length l) ≤ length text)
unfolding split
behind c [] l m ls e = let z : true ≡ false = cc in absurd (true≢false z)
behind c (x ∷ text) l m ls e = cut (eqb x c) e (pieces c text) (behind c text)
  where
    at : (k : List ℕ) → l ≡ k
        → (split c (drop (suc (length k)) (x ∷ text)) ≡ m ∷ ls)
        × (suc (length k) ≤ suc (length text))
        → (split c (drop (suc (length l)) (x ∷ text)) ≡ m ∷ ls)
        × (suc (length l) ≤ suc (length text))
    at k q h = rw q h

    cut : (b : Bool)
        → elim b [ true ↦ [] ∷ split c text | false ↦ on_first x (split c text) ] ≡ l ∷ m ∷ ls
        → Pieces c text
        → ((l m : List ℕ) (ls : List (List ℕ)) → split c text ≡ l ∷ m ∷ ls
        → (split c (drop (suc (length l)) text) ≡ m ∷ ls) × (suc (length l) ≤ length text))
        → (split c (drop (suc (length l)) (x ∷ text)) ≡ m ∷ ls)
        × (suc (length l) ≤ suc (length text))
    cut true e h later =
        let q : l ≡ [] = cc in
        let r : split c text ≡ m ∷ ls = cc in
        at [] q (r, omega arith)
    cut false e h later =
        let k : on_first x (h.first ∷ h.others) ≡ l ∷ m ∷ ls = ap (on_first x) (sym h.cut) ∙ e in
        let q : l ≡ x ∷ h.first = cc in
        let r : h.others ≡ m ∷ ls = cc in
        let g = later h.first m ls (h.cut ∙ ap (λ ps. h.first ∷ ps) r) in
        at (x ∷ h.first) q (g.0, omega (arith, g.1))

-- there is a piece; and the one piece of a text that is not empty is not empty
some_piece : (c : ℕ) (text : List ℕ) → split c text ≡ [] → ⊥
some_piece c text e =
    let h = pieces c text in
    let z : h.first ∷ h.others ≡ [] = sym h.cut ∙ e in let y : true ≡ false = cc in true≢false y

one_piece : (c : ℕ) (text : List ℕ) → 0 < length text → split c text ≡ [] ∷ [] → ⊥
unfolding split
one_piece c [] h e = omega (arith, h)
one_piece c (x ∷ text) h e = cut (eqb x c) (pieces c text) e
  where
    cut : (b : Bool) → Pieces c text
        → ◌≡◌ {A = List (List ℕ)}
        (elim b [ true ↦ [] ∷ split c text | false ↦ on_first x (split c text) ]) ([] ∷ []) → ⊥
    cut true g e = some_piece c text (let q : split c text ≡ [] = cc in q)
    cut false g e =
        let z : on_first x (g.first ∷ g.others) ≡ [] ∷ [] = ap (on_first x) (sym g.cut) ∙ e in
        let y : true ≡ false = cc in true≢false y

some_letter : (p : List ℕ) {b : ℕ} → capital p ≡ Some b → 1 ≤ length p
unfolding capital
some_letter [] e = absurd (none-some _ e)
some_letter (b ∷ p) e = omega arith

-- A LINE of six fields: its word is a word, its numbers are small, and it is so long at least
pub record Shaped (ps : List (List ℕ)) (k : Line ℕ) : Type 0 where
  pub word : is_word k.word ≡ true
  pub small : SmallNumbers k.fields
  pub long : least_line ≤ bytes_of ps

pub shaped : (ps : List (List ℕ)) (k : Line ℕ) → six_fields max_digits capital ps ≡ Some k
    → Shaped ps k
shaped ps k e =
    let f = six_fields_lem max_digits capital ps e in
    record {
      word = f.word;
      small = record {
        a = (decimal_of_number max_digits _ _ f.a).1;
        b = (decimal_of_number max_digits _ _ f.b).1;
        c = (decimal_of_number max_digits _ _ f.c).1;
        d = (decimal_of_number max_digits _ _ f.d).1;
      };
      long = rw f.pieces
          (omega (
            arith,
            some_letter f.letter_text f.letter,
            word_long k.word f.word,
            some_digit max_digits f.texts.a f.a,
            some_digit max_digits f.texts.b f.b,
            some_digit max_digits f.texts.c f.c,
            some_digit max_digits f.texts.d f.d,
          ));
    }

-- the command of a packed word is that of the word
pub command_packed : (l : Letter) (w : List ℕ) → is_word w ≡ true
    → packed_command l (pack_word w) ≡ command_of l w
unfolding packed_command command_of
command_packed Letter.T w h = ap (some_of make) (words_packed w h)
command_packed Letter.A w h = ap (some_of assume) (relations_packed w h)
command_packed Letter.C w h = ap (some_of disjoin) (relations_packed w h)
command_packed Letter.S w h = ap (some_of infer) (rules_packed w h)

-- THE CHECKER FILE: its run of a line by the line's fields
pub check_fields : ByFields run_line run_fields
unfolding run_read run_fields letters all_capitals bytes capital
check_fields = record {
  shaped =
      λ σ l k n e. ap (run_read σ)
      (shape_lettered letters refl l ∙ ap (λ m. then m (lettered_line letters)) e)
      ∙ known σ k n (lookup letters (k.letter ∷ [])) (shaped (split comma l) k e).word;
  unshaped =
      λ σ l e. ap (run_read σ)
      (shape_lettered letters refl l ∙ ap (λ m. then m (lettered_line letters)) e);
}
  where
    known : (σ : State) (k : Line ℕ) (n : ℕ) (m : Option Letter) → is_word k.word ≡ true
        → run_read σ (then m λ l. Some (relettered k l))
        ≡ (require_some m Reason.BadShape >>= λ l. run_command σ l
        (packed_command l (pack_word k.word)) k.fields)
    known σ k n None h = refl
    known σ k n (Some l) h = rw (command_packed l k.word h)

-- the pieces behind the line that begins at a position, and that it ends inside the file
line_behind : (file : List ℕ) (at : ℕ) (l m : List ℕ) (ls : List (List ℕ))
    → split LF (drop at file) ≡ l ∷ m ∷ ls
    → (split LF (drop (at + length l + 1) file) ≡ m ∷ ls) × (at + length l + 1 ≤ length file)
line_behind file at l m ls q =
    let b = behind LF (drop at file) l m ls q in
    let n : at + suc (length l) ≡ at + length l + 1 = omega arith in (
      ap (λ (k : ℕ). split LF (drop k file)) (sym n)
          ∙ ap (split LF) (sym (drop-drop (suc (length l)) at file)) ∙ b.0,
      omega (arith, b.1, length-drop at file),
    )

-- THE LINE THAT BEGINS AT A POSITION, whatever it is read as: its bytes, and the pieces behind it.
pub record FirstLine {A : Type 0} (read : ℕ → List ℕ → A) (file : List ℕ) (at : ℕ)
    (y : A) : Type 0 where
  pub piece : List ℕ
  pub follower : List ℕ
  pub others : List (List ℕ)
  pub cut : split LF (drop at file) ≡ piece ∷ follower ∷ others
  pub rest : split LF (drop (at + length piece + 1) file) ≡ follower ∷ others
  pub inside : at + length piece + 1 ≤ length file
  pub is : read (at + length piece + 1) piece ≡ y

module _ {A : Type 0} (no_line : A) (read : ℕ → List ℕ → A) (file : List ℕ) (at : ℕ) where
  pub line_there : (y : A) → (no_line ≡ y → ⊥)
      → first_line no_line read at (split LF (drop at file)) ≡ y → FirstLine read file at y
  line_there y apart e = go (split LF (drop at file)) refl e
    where
      go : (ls : List (List ℕ)) → split LF (drop at file) ≡ ls → first_line no_line read at ls ≡ y
          → FirstLine read file at y
      go [] q h = absurd (apart h)
      go (l ∷ []) q h = absurd (apart h)
      go (l ∷ m ∷ ls) q h =
          let b = line_behind file at l m ls q in
          record { piece = l; follower = m; others = ls; cut = q; rest = b.0; inside = b.1; is = h }

  -- bytes behind the last LF, or a line that is read as none
  pub no_line_there : {R : Type 0} → at < length file
      → first_line no_line read at (split LF (drop at file)) ≡ no_line
      → ((b : ℕ) (l : List ℕ) → split LF (drop at file) ≡ (b ∷ l) ∷ [] → R)
      → ((l m : List ℕ) (ls : List (List ℕ)) → split LF (drop at file) ≡ l ∷ m ∷ ls
      → read (at + length l + 1) l ≡ no_line → R) → R
  no_line_there {R} before e tail unread = go (split LF (drop at file)) refl e
    where
      go : (ls : List (List ℕ)) → split LF (drop at file) ≡ ls
          → first_line no_line read at ls ≡ no_line → R
      go [] q h = absurd (some_piece LF (drop at file) q)
      go ([] ∷ []) q h =
          absurd (one_piece LF (drop at file) (omega (arith, before, length-drop at file)) q)
      go ((b ∷ l) ∷ []) q h = tail b l q
      go (l ∷ m ∷ ls) q h = unread l m ls q h

-- what follows the first piece, in the run
pub run_piece : {S : Type 0} (run : S → List ℕ → Checked S) (σ : S) (i : ℕ) (l m : List ℕ)
    (ls : List (List ℕ))
    → run_lines run (l ∷ m ∷ ls) i (passed σ) ≡ run_lines run (m ∷ ls) (suc i) (run σ l)
unfolding run_lines
run_piece run σ i [] m ls = refl
run_piece run σ i (b ∷ l) m ls = refl

pub refused_here : {S : Type 0} (run : S → List ℕ → Checked S) (file : List ℕ) (at i : ℕ)
    (r : Reason) → run_from run file at i (refused r) ≡ stopped r i
unfolding run_lines
refused_here run file at i r = go (split LF (drop at file))
  where
    go : (ls : List (List ℕ)) → run_lines run ls i (refused r) ≡ stopped r i
    go [] = refl
    go (l ∷ ls) = refl

-- A LINE THAT IS READ: its bytes, what it is, and the pieces behind it.
pub record LinePieces (file : List ℕ) (at : ℕ) (f : LineFields) : Type 0 where
  pub piece : List ℕ
  pub follower : List ℕ
  pub others : List (List ℕ)
  pub line : Line ℕ
  pub cut : split LF (drop at file) ≡ piece ∷ follower ∷ others
  pub rest : split LF (drop f.next.at file) ≡ follower ∷ others
  pub shaped : any_shape piece ≡ Some line
  pub fields : f ≡ line_fields (at + length piece + 1) line
  pub inside : at + length piece + 1 ≤ length file

pub line_pieces : (file : List ℕ) (at : ℕ) (f : LineFields) → line_at file at ≡ Some f
    → LinePieces file at f
unfolding line_at
line_pieces file at f e =
    go (line_there None (λ n l. line_read n (any_shape l)) file at (Some f) (none-some f) e)
  where
    go : FirstLine (λ n l. line_read n (any_shape l)) file at (Some f) → LinePieces file at f
    go x = shaped_as (any_shape x.piece) refl x.is
      where
        shaped_as : (s : Option (Line ℕ)) → any_shape x.piece ≡ s
            → line_read (at + length x.piece + 1) s ≡ Some f → LinePieces file at f
        shaped_as None s h = absurd (none-some f h)
        shaped_as (Some L) s h =
            subst (LinePieces file at) (same_Some _ f h)
            (record {
              piece = x.piece;
              follower = x.follower;
              others = x.others;
              line = L;
              cut = x.cut;
              rest = x.rest;
              shaped = s;
              fields = refl;
              inside = x.inside;
            })

pub line_here : {S : Type 0} {run : S → List ℕ → Checked S} {fields : S → LineFields → Checked S}
    → ByFields run fields
    → (file : List ℕ) (at : ℕ) (f : LineFields) → line_at file at ≡ Some f
    → LineHere run fields file at f
line_here {S} {run} {fields} B file at f e =
    let p = line_pieces file at f e in
    let n : at + length p.piece + 1 ≡ f.next.at =
    ap (λ (g : LineFields). g.next.at) (sym p.fields) in
    record {
      longer =
          omega (
            arith,
            (shaped (split comma p.piece) p.line p.shaped).long,
            split_bytes comma p.piece,
          );
      inside = omega (arith, p.inside);
      small = rw p.fields (shaped (split comma p.piece) p.line p.shaped).small;
      runs =
          λ i σ. ap (λ ks. run_lines run ks i (passed σ)) p.cut
          ∙ run_piece run σ i p.piece p.follower p.others
          ∙ ap (run_lines run (p.follower ∷ p.others) (suc i))
          (B.shaped σ p.piece p.line (at + length p.piece + 1) p.shaped
          ∙ ap (fields σ) (sym p.fields))
          ∙ ap (λ ks. run_lines run ks (suc i) (fields σ f)) (sym p.rest);
    }

-- A BAD LINE: bytes behind the last LF, or a line that has no shape.
no_shape : (n : ℕ) (s : Option (Line ℕ)) → line_read n s ≡ None → s ≡ None
no_shape n None h = refl
no_shape n (Some L) h = absurd (none-some _ (sym h))

pub bad_pieces : {R : Type 0} (file : List ℕ) (at : ℕ) → at < length file → line_at file at ≡ None
    → ((b : ℕ) (l : List ℕ) → split LF (drop at file) ≡ (b ∷ l) ∷ [] → R)
    → ((l m : List ℕ) (ls : List (List ℕ)) → split LF (drop at file) ≡ l ∷ m ∷ ls
    → any_shape l ≡ None → R) → R
unfolding line_at
bad_pieces file at before e tail unshaped =
    no_line_there None (λ n l. line_read n (any_shape l)) file at before e tail
    (λ l m ls q h. unshaped l m ls q (no_shape (at + length l + 1) (any_shape l) h))

pub bad_line : {S : Type 0} {run : S → List ℕ → Checked S} {fields : S → LineFields → Checked S}
    → ByFields run fields
    → (file : List ℕ) (at : ℕ) → at < length file → line_at file at ≡ None → (i : ℕ) (σ : S)
    → run_from run file at i (passed σ) ≡ stopped Reason.BadShape (suc i)
unfolding run_lines
bad_line {S} {run} B file at before e i σ =
    bad_pieces file at before e
    (λ b l q. rw q)
    (λ l m ls q s. ap (λ ks. run_lines run ks i (passed σ)) q ∙ run_piece run σ i l m ls
    ∙ rw (B.unshaped σ l s))

pub at_end_lem : {S : Type 0} (run : S → List ℕ → Checked S) (file : List ℕ) (at : ℕ)
    → length file ≤ at → (i : ℕ) (σ : S) → run_from run file at i (passed σ) ≡ ended σ i
unfolding split run_lines
at_end_lem run file at h i σ = rw (drop_of_length-le file h)

-- CHECK 2 of the letter of a line that is read
pub run_unlettered : (σ : State) (f : LineFields) → lookup letters (f.letter ∷ []) ≡ None
    → run_fields σ f ≡ refused Reason.BadShape
unfolding run_fields
run_unlettered σ f e = rw e

-- CHECKS 3 AND 4: out of order, with an unknown word, or a command
module _ (σ : State) (f : LineFields) {l : Letter}
    (k : lookup letters (f.letter ∷ []) ≡ Some l) where
  pub run_disordered : in_order σ.letter l ≡ false → run_fields σ f ≡ refused Reason.LetterOrder
  unfolding run_fields
  run_disordered o = rw (k, o)

  pub run_unknown : in_order σ.letter l ≡ true → packed_command l f.word ≡ None
      → run_fields σ f ≡ refused Reason.UnknownWord
  unfolding run_fields
  run_unknown o e = rw (k, o, e)

  pub run_known : (c : Command) → in_order σ.letter l ≡ true → packed_command l f.word ≡ Some c
      → run_fields σ f ≡ (require_open σ.status >>= λ τ. run_open σ τ c (numbers_of f))
  unfolding run_fields
  run_known c o e = rw (k, o, e)
