-- Literals by the numbers and rows of their sides.
use mathlib.Core.Path.{◌≡◌, sym, ◌∙◌, ap, subst}
use mathlib.Core.Bool.{Bool}
use mathlib.Core.List.{List}
use Prim.Native.Nat.{ℕ}
use lib.Dec.{eqb}
use lib.ListN.{get_or}
use Rattle.tableau.specs.declared.Sort.{Sort}
use Rattle.tableau.specs.Terms.{sort_index}
use Rattle.tableau.specs.Meaning.{◌and◌, FiniteHeap, Value, is_ref, is_in, is_le, reference, region, heap, field, class, kind, as_ref, as_region, as_class}
use Rattle.tableau.proofs.Bools.{eqb_same}
use Rattle.tableau.proofs.Values.{as_ref_lem, kind_class}
use Rattle.evaluation.specs.Evaluation.{agrees, is_eq}
use Rattle.mentions.specs.Mentions.{bit_at}
use Rattle.regions.specs.declared.HeapTables.{HeapTables}
use Rattle.regions.specs.Shown.{HoldHeap, ShowsAs, Shows, same_shown}
use Rattle.regions.proofs.MaskMeaning.{mask_eq}
use Rattle.regions.proofs.RowMeaning.{row_eq}

-- a value that is shown is shown as one of its sort
pub shown_as : (H : FiniteHeap) (s : Sort) (v : Value H) (m : ℕ) (row : List ℕ) → kind v ≡ s → Shows H v m row → ShowsAs H s v m row
shown_as H s v m row e S = subst (λ (t : Sort). ShowsAs H t v m row) e S

module _ (H : FiniteHeap) (A : HeapTables) (G : HoldHeap H A) (m n : ℕ) (row row' : List ℕ) where
  pub in_shown : (u r : Value H) → kind u ≡ Sort.Reference → kind r ≡ Sort.Region → Shows H u m row → Shows H r n row' → is_in u r ≡ bit_at n m
  unfolding ◌and◌
  in_shown u r p q U R =
      ap (λ (v : Value H). is_ref v and (as_region r).has (as_ref u)) (as_ref_lem u p)
      ∙ sym (ap (bit_at n) (shown_as H Sort.Reference u m row p U) ∙ (shown_as H Sort.Region r n row' q R).bits (as_ref u))

  pub le_shown : (b c : Value H) → kind b ≡ Sort.Class → kind c ≡ Sort.Class → Shows H b m row → Shows H c n row' → is_le b c ≡ bit_at (get_or A.under m 0) n
  unfolding ◌and◌
  le_shown b c p q B C =
      (λ i. kind_class b p i and kind_class c q i and H.le (as_class b) (as_class c))
      ∙ sym ((λ i. bit_at (get_or A.under (shown_as H Sort.Class b m row p B i) 0) (shown_as H Sort.Class c n row' q C i)) ∙ G.under (as_class b) (as_class c))

  agree_shown : (a b : Value H) → Shows H a m row → ShowsAs H (kind a) b n row' → agrees a b ≡ same_shown (kind a) m n row row'
  unfolding agrees sort_index
  agree_shown (reference x) b S T = λ i. eqb (sym S i) (sym T i)
  agree_shown (region r) b S T = mask_eq H r _ m n S T
  agree_shown (heap h) b S T = row_eq H G.references G.fields h _ row row' S T
  agree_shown (field f) b S T = λ i. eqb (sym S i) (sym T i)
  agree_shown (class c) b S T = λ i. eqb (sym S i) (sym T i)

  pub eq_shown : (a b : Value H) → kind a ≡ kind b → Shows H a m row → Shows H b n row' → is_eq a b ≡ same_shown (kind a) m n row row'
  unfolding is_eq ◌and◌
  eq_shown a b e S T =
      ap (λ (t : Bool). t and agrees a b) (ap (λ (s : Sort). eqb (sort_index (kind a)) (sort_index s)) (sym e) ∙ eqb_same (sort_index (kind a)))
      ∙ agree_shown a b S (shown_as H (kind a) b n row' (sym e) T)
