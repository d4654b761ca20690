-- Terms joined by their signatures, one after another.
use Rattle.std.proofs.Common.{◌≡◌, refl, sym, ◌∙◌, ap, subst, Bool, true, false, ◌||◌, List, ◌⊎◌}
use Rattle.std.proofs.Common.{inl, inr, ℕ, suc, ◌+◌, ◌*◌, ◌%◌, ◌<◌, ◌≤◌, arith, length, get_or, set}
use Rattle.std.proofs.Common.{length-set, get_or-set_same, get_or-set_other, below_more}
use Rattle.tableau.specs.Basics.{map_four}
use Rattle.tableau.specs.Terms.{Table, Literal, max_terms}
use Rattle.packing.specs.Packing.{Packs, takes_arguments, fields_in}
use Rattle.packing.proofs.CongruenceLaws.{same_low, low_takes}
use Rattle.table.specs.Held.{Entries, Chains, Absent, hashes, hash_of}
use Rattle.table.proofs.ChainLaws.{chains_more}
use Rattle.table.proofs.EntryLaws.{packs}
use Rattle.partition.specs.declared.Partition.{Partition}
use Rattle.partition.specs.Blocks.{block_of, Sound, Fewer, Joined}
use Rattle.partition.proofs.JoinLaws.{unchanged, coarsened_where, fewer_then}
use Rattle.congruence.specs.Signatures.{signature_of, sign_of, Earlier, MetIf, SignedFollow}
use Rattle.congruence.specs.Signatures.{JoinedSigned, CongruentIf, JoinedAlike, JoinedSome}
use Rattle.congruence.proofs.SignatureLaws.{sign_low, sign_takes, sign_fields, AllFollow}
use Rattle.congruence.proofs.SignatureLaws.{blocks_follow, both_follow, alike_follow, applied_in}

-- ONE TERM
module _ (blocks : Partition) (signatures : List ℕ) (m x s t : ℕ) where
  pub signed_new : Absent signatures s 1 (suc m)
      → JoinedSigned blocks blocks signatures m x s t false
  signed_new h = record { change = unchanged _ blocks; met_if = λ k. inr h }

pub signed_met : (old new : Partition) (signatures : List ℕ) (m x s t w : ℕ) (r : Bool)
    → takes_arguments x ≡ true → (0 < w) × (w ≤ m) × (get_or signatures w 0 ≡ s)
    → Joined old new t w r
    → JoinedSigned old new signatures m x s t r
signed_met old new signatures m x s t w r h k J = record {
  change = coarsened_where _ _ _ _ _ J.change (λ table B f C. f w k.0 k.1 h k.2);
  met_if = met r J;
}
  where
    met : (r : Bool) → Joined old new t w r → MetIf r new signatures m x s t
    met true J = tt
    met false J = λ _. inl (w, k.0, k.1, k.2, sym J.together)

-- THE FIRST m TERMS. Every argument in a signature follows to be equal to that of its term, though
-- the blocks may have changed since.
abbrev pub SignedSoundly : Table → List Literal → List ℕ → List ℕ → ℕ → Type 0
SignedSoundly table B terms signatures m = (j : ℕ) → 0 < j → j ≤ m
    → takes_arguments (get_or terms j 0) ≡ true
    → AllFollow table B (fields_in (get_or terms j 0)) (fields_in (get_or signatures j 0))

-- where nothing was joined, signatures are those of the blocks, and terms with one signature are in
-- one block
abbrev pub Takes : List ℕ → ℕ → ℕ → Type 0
Takes terms m j = (0 < j) × (j ≤ m) × (takes_arguments (get_or terms j 0) ≡ true)

pub record Compared (blocks : Partition) (terms signatures : List ℕ) (m : ℕ) : Type 0 where
  pub signed : (j : ℕ) → Takes terms m j
      → get_or signatures j 0 ≡ signature_of blocks (get_or terms j 0)
  pub equal : (i j : ℕ) → Takes terms m i → Takes terms m j
      → get_or signatures i 0 ≡ get_or signatures j 0 → block_of blocks i ≡ block_of blocks j

abbrev pub ComparedIf : Bool → Partition → List ℕ → List ℕ → ℕ → Type 0
ComparedIf false blocks terms signatures m = Compared blocks terms signatures m
ComparedIf true blocks terms signatures m = Unit {0}

pub record Part (old blocks : Partition) (terms signatures chains : List ℕ) (n m : ℕ)
    (r : Bool) : Type 0 where
  pub most : m ≤ n
  pub size : length signatures ≡ 1024
  pub chained : Chains signatures chains m
  pub low : (j : ℕ) → 0 < j → j ≤ m → get_or signatures j 0 % 256 ≡ get_or terms j 0 % 256
  pub compared : ComparedIf r blocks terms signatures m
  pub change : JoinedSome terms old blocks r
  pub signed : (table : Table) (B : List Literal) → Entries table terms → Sound table B old
      → SignedSoundly table B terms signatures m

pub part_none : (blocks : Partition) (terms signatures chains : List ℕ) (n : ℕ)
    → length signatures ≡ 1024 → Chains signatures chains 0
    → Part blocks blocks terms signatures chains n 0 false
part_none blocks terms signatures chains n size C = record {
  most = omega arith;
  size = size;
  chained = C;
  low = λ j l m. absurd (omega arith);
  compared =
      record {
        signed = λ j k. absurd (omega (arith, k.0, k.1));
        equal = λ i j k. absurd (omega (arith, k.0, k.1));
      };
  change = unchanged _ blocks;
  signed = λ table B E C j l m. absurd (omega arith);
}

module _ (old blocks new : Partition) (terms signatures chains : List ℕ) (n m : ℕ) (r b : Bool)
    (few : n ≤ max_terms) (lm : m < n)
    (P : Part old blocks terms signatures chains n m r)
    (J : JoinedSigned blocks new signatures m (get_or terms (suc m) 0)
    (sign_of blocks (get_or terms (suc m) 0)) (suc m) b) where
  abbrev x : ℕ
  x = get_or terms (suc m) 0

  abbrev s : ℕ
  s = sign_of blocks x

  abbrev more : List ℕ
  more = set signatures (suc m) s

  at_new : get_or more (suc m) 0 ≡ s
  at_new = get_or-set_same signatures (suc m) s 0 (omega (arith, P.size))

  at_old : (j : ℕ) → j ≤ m → get_or more j 0 ≡ get_or signatures j 0
  at_old j l = get_or-set_other signatures (suc m) j s 0 (omega arith)

  -- the new term, or one before it
  either_of : (Q : ℕ → Type 0) (j : ℕ) → j ≤ suc m → Q (suc m) → (j ≤ m → Q j) → Q j
  either_of Q j l q f = below_more (λ i. (j : ℕ) → j ≡ i → (j ≤ m → Q j) → Q j) (suc m)
      (λ i z j e f. f (omega arith)) (λ j e f. subst Q (sym e) q) j (omega arith) j refl f

  low_more : (j : ℕ) → 0 < j → j ≤ suc m → get_or more j 0 % 256 ≡ get_or terms j 0 % 256
  low_more j l k = either_of (λ j. get_or more j 0 % 256 ≡ get_or terms j 0 % 256) j k
      (ap (λ v. v % 256) at_new ∙ sign_low blocks x)
      (λ h. ap (λ v. v % 256) (at_old j h) ∙ P.low j l h)

  -- a term before with the new one's signature follows to be equal to it
  met_follows : (table : Table) (B : List Literal) → Entries table terms → Sound table B blocks
      → SignedSoundly table B terms signatures m → SignedFollow signatures m x s (suc m) table B
  met_follows table B E C K w l h t e =
      let low : x % 256 ≡ get_or terms w 0 % 256 =
      sym (sign_low blocks x) ∙ ap (λ v. v % 256) (sym e) ∙ P.low w l h in
      let f : fields_in (get_or signatures w 0) ≡ map_four (block_of blocks) (fields_in x) =
      ap fields_in e ∙ sign_fields blocks x t in
      alike_follow table terms E B (suc m) w t low
      (both_follow table B (fields_in x) (fields_in (get_or terms w 0))
      (map_four (block_of blocks) (fields_in x)) (blocks_follow table B blocks C x)
      (subst (λ v. AllFollow table B (fields_in (get_or terms w 0)) v) f
      (K w l h (sym (low_takes x (get_or terms w 0) low) ∙ t))))

  signed_more : (table : Table) (B : List Literal) → Entries table terms → Sound table B old
      → SignedSoundly table B terms more (suc m)
  signed_more table B E C j l k =
      either_of (λ j. takes_arguments (get_or terms j 0) ≡ true
      → AllFollow table B (fields_in (get_or terms j 0)) (fields_in (get_or more j 0))) j k
      (λ t. subst (λ v. AllFollow table B (fields_in x) v)
      (sym (ap fields_in at_new ∙ sign_fields blocks x t))
      (blocks_follow table B blocks (P.change.sound table B E C) x))
      (λ h t. subst (λ v. AllFollow table B (fields_in (get_or terms j 0)) (fields_in v))
      (sym (at_old j h)) (P.signed table B E C j l h t))

  -- where nothing is joined with the new term either
  module _ (same : new ≡ blocks) (K : Compared blocks terms signatures m)
      (M : takes_arguments x ≡ true → Earlier new signatures m s (suc m)
      ⊎ Absent signatures s 1 (suc m)) where
    beside : (j : ℕ) → Takes terms m j → takes_arguments x ≡ true → get_or signatures j 0 ≡ s
        → block_of new j ≡ block_of new (suc m)
    beside j k t q = go (M t)
      where
        go : Earlier new signatures m s (suc m) ⊎ Absent signatures s 1 (suc m)
            → block_of new j ≡ block_of new (suc m)
        go (inr f) = absurd (f j k.0 (let l : j ≤ m = k.1 in omega arith) q)
        go (inl w) =
            let low : get_or terms j 0 % 256 ≡ get_or terms w.0 0 % 256 =
            sym (P.low j k.0 k.1) ∙ ap (λ v. v % 256) (q ∙ sym w.3) ∙ P.low w.0 w.1 w.2 in
            let tw = sym (low_takes (get_or terms j 0) (get_or terms w.0 0) low) ∙ k.2 in
            subst (λ (v : Partition). block_of v j ≡ block_of v w.0) (sym same)
            (K.equal j w.0 k (w.1, w.2, tw) (q ∙ sym w.3)) ∙ w.4

    abbrev EqualTo : ℕ → ℕ → Type 0
    EqualTo i j = Takes terms (suc m) i → Takes terms (suc m) j → get_or more i 0 ≡ get_or more j 0
        → block_of new i ≡ block_of new j

    compared : Compared new terms more (suc m)
    compared = record {
      signed = λ j k. either_of (λ j. Takes terms (suc m) j
          → get_or more j 0 ≡ signature_of new (get_or terms j 0)) j k.1
          (λ k. at_new ∙ sign_takes blocks x k.2 ∙ ap (λ (v : Partition). signature_of v x)
          (sym same))
          (λ h k. at_old j h ∙ K.signed j (k.0, h, k.2)
          ∙ ap (λ (v : Partition). signature_of v (get_or terms j 0)) (sym same)) k;
      equal = λ i j ki kj. either_of (λ i. EqualTo i j) i ki.1
          (either_of (λ j. EqualTo (suc m) j) j kj.1
          (λ _ _ _. refl)
          (λ h ki kj q. sym (beside j (kj.0, h, kj.2) ki.2 (sym (at_old j h) ∙ sym q ∙ at_new))))
          (λ hi. either_of (λ j. EqualTo i j) j kj.1
          (λ ki kj q. beside i (ki.0, hi, ki.2) kj.2 (sym (at_old i hi) ∙ q ∙ at_new))
          (λ hj ki kj q. subst (λ (v : Partition). block_of v i ≡ block_of v j) (sym same)
          (K.equal i j (ki.0, hi, ki.2) (kj.0, hj, kj.2)
          (sym (at_old i hi) ∙ q ∙ at_old j hj)))) ki kj;
    }

  compared_more : (r b : Bool) → Fewer b blocks new → ComparedIf r blocks terms signatures m
      → MetIf b new signatures m x s (suc m) → ComparedIf (r || b) new terms more (suc m)
  compared_more true b e K M = tt
  compared_more false true e K M = tt
  compared_more false false e K M = compared e K M

  pub part_more : Part old new terms more
      (set (set chains (hashes + suc m) (get_or chains (hash_of s) 0)) (hash_of s) (suc m)) n
      (suc m) (r || b)
  part_more = record {
    most = omega arith;
    size = length-set signatures (suc m) s ∙ P.size;
    chained = chains_more signatures chains m s P.chained (omega (arith, P.size)) (omega arith);
    low = low_more;
    compared = compared_more r b J.change.fewer P.compared J.met_if;
    change = record {
      coarser = λ x y lx ly e. J.change.coarser x y lx ly (P.change.coarser x y lx ly e);
      fewer = fewer_then r b old blocks new P.change.fewer J.change.fewer;
      sound = λ table B E C. let D = P.change.sound table B E C in
          J.change.sound table B (met_follows table B E D (P.signed table B E C)) D;
    };
    signed = signed_more;
  }

-- the loop's step, with the code's names for its parts
pub part_step : (old blocks new : Partition) (terms signatures chains more chains' : List ℕ)
    (n m t s : ℕ) (r b c : Bool) → n ≤ max_terms → m < n
    → Part old blocks terms signatures chains n m r
    → t ≡ suc m → s ≡ sign_of blocks (get_or terms t 0)
    → JoinedSigned blocks new signatures m (get_or terms t 0) s t b
    → more ≡ set signatures t s
    → chains' ≡ set (set chains (hashes + t) (get_or chains (hash_of s) 0)) (hash_of s) t
    → c ≡ (r || b)
    → Part old new terms more chains' n t c
part_step old blocks new terms signatures chains more chains' n m t s r b c few lm P et es J em ec
    er =
    go t et s es J more em chains' ec c er
  where
    step : (t : ℕ) → suc m ≡ t → (s : ℕ) → sign_of blocks (get_or terms t 0) ≡ s
        → JoinedSigned blocks new signatures m (get_or terms t 0) s t b
        → Part old new terms (set signatures t s)
        (set (set chains (hashes + t) (get_or chains (hash_of s) 0)) (hash_of s) t) n t (r || b)
    step t et s es =
        subst (λ (v : ℕ). (s : ℕ) → sign_of blocks (get_or terms v 0) ≡ s
        → JoinedSigned blocks new signatures m (get_or terms v 0) s v b
        → Part old new terms (set signatures v s)
        (set (set chains (hashes + v) (get_or chains (hash_of s) 0)) (hash_of s) v) n v (r || b)) et
        (λ s es. subst
        (λ (u : ℕ). JoinedSigned blocks new signatures m (get_or terms (suc m) 0) u (suc m) b
        → Part old new terms (set signatures (suc m) u)
        (set (set chains (hashes + suc m) (get_or chains (hash_of u) 0)) (hash_of u) (suc m)) n
        (suc m) (r || b)) es
        (λ J. part_more old blocks new terms signatures chains n m r b few lm P J)) s es

    go : (t : ℕ) → t ≡ suc m → (s : ℕ) → s ≡ sign_of blocks (get_or terms t 0)
        → JoinedSigned blocks new signatures m (get_or terms t 0) s t b
        → (more : List ℕ) → more ≡ set signatures t s → (chains' : List ℕ)
        → chains' ≡ set (set chains (hashes + t) (get_or chains (hash_of s) 0)) (hash_of s) t
        → (c : Bool) → c ≡ (r || b) → Part old new terms more chains' n t c
    go t et s es J more em chains' ec c er = rw (em, ec, er) (step t (sym et) s (sym es) J)

-- where nothing was joined, terms of one word with arguments of the same blocks are in one block
congruent_all : (r : Bool) (blocks : Partition) (terms signatures : List ℕ) (n m : ℕ) → n ≤ m
    → ComparedIf r blocks terms signatures m → CongruentIf r blocks terms n
congruent_all true blocks terms signatures n m h K = tt
congruent_all false blocks terms signatures n m h K = λ table E len t w o k l p q takes e.
    let T = applied_in table terms E t o k p takes in
    let W = applied_in table terms E w o l q takes in
    let kt : Takes terms m t = (T.0, omega (arith, T.1), T.2) in
    let kw : Takes terms m w = (W.0, omega (arith, W.1), W.2) in
    let low =
    same_low o k l (get_or terms t 0) (get_or terms w 0)
    (subst (λ x. Packs x (get_or terms t 0)) p (packs table terms E t))
    (subst (λ x. Packs x (get_or terms w 0)) q (packs table terms E w)) in
    let fields : map_four (block_of blocks) (fields_in (get_or terms t 0))
    ≡ map_four (block_of blocks) (fields_in (get_or terms w 0))
    = ap (map_four (block_of blocks)) T.3 ∙ e ∙ ap (map_four (block_of blocks)) (sym W.3) in
    let same : signature_of blocks (get_or terms t 0) ≡ signature_of blocks (get_or terms w 0) =
    (λ i. ((((fields i).a * 1024 + (fields i).b) * 1024 + (fields i).c) * 1024 + (fields i).d) *
    256 + low i) in
    K.equal t w kt kw (K.signed t kt ∙ same ∙ sym (K.signed w kw))

pub part_all : (old blocks : Partition) (terms signatures chains : List ℕ) (n m : ℕ) (r : Bool)
    → n ≤ m → Part old blocks terms signatures chains n m r → JoinedAlike old blocks terms n r
part_all old blocks terms signatures chains n m r h P =
    record {
      change = P.change;
      congruent_if = congruent_all r blocks terms signatures n m h P.compared;
    }
