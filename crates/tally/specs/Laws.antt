-- The laws of the tally: how its answers come about, and that no stamp is above the generation after it.
use Rattle.std.specs.Prelude.{eqb, Bool, List, [], ◌≡◌, refl, ℕ, zero, suc, ◌+◌, ◌*◌, ◌/◌, ◌%◌, ◌^◌, ◌≤◌, ◌<◌, min, length, get_or, set, replicate}
use Rattle.std.proofs.Math.Bool.{true, false}
use Rattle.std.proofs.Common.{⊎_elim, ◌∙◌, ap, arith, lt-ltb, le-ltb, ltb-true, eq-eqb, ne_eqb, length-set, get_or-set_same, get_or-set_other}
use Rattle.std.proofs.Math.Path.{sym}
use Rattle.std.proofs.Math.Dec.{ltb}
use Rattle.std.proofs.lemmas.List.{get_or-replicate}
use Rattle.base.specs.Pick.{pick, either, true_false, lt_or_le, eq_or_ne}
use Rattle.colors.specs.declared.ColorIndex.{ColorIndex}
use Rattle.colors.specs.Table.{Table, tab, slot_of, after_of, generation_of, stamps_of, none_above, Holds}
use Rattle.colors.specs.Laws.{fresh, cleared, stamps_length, none_above_lem, above-none}
use Rattle.census.specs.declared.Census.{Census}
use Rattle.census.specs.Census.{met_by, met, counts, too_many, census, census_of, table_to}
use Rattle.census.specs.Laws.{met_ext, table_ext}
use Rattle.luma.specs.Luma.{coarse}
use Rattle.luma.specs.Laws.{pre_check_lem}
use Rattle.refusal.specs.declared.Refusal.{Refusal}
use Rattle.refusal.specs.declared.Refusal.TheVariants.{Config, Geometry, Plane, Sample, Predictor, Rate, Block, Runs, Room, BinsEnd, BinClass, Value, TooManyColors, TooManyEscapes, Smoothing, InputFile}
use Rattle.refusal.specs.Refusal.{number_of}
use Rattle.tally.specs.Tally.{Tally, Counted, pre_check, index_at, moved_to, moved, index_of, colors_to, counted_of, tally_of}

-- ---- refusal 13

pub over : (d n : ℕ) → 128 < d → too_many d n ≡ true
unfolding too_many
over d n h = rw (lt-ltb 128 d h)

module _ (xs : List ℕ) (n : ℕ) where
  lots : 128 < length (met xs n) → census_of xs n ≡ census 129 [] []
  unfolding census_of
  lots h = rw (lt-ltb _ _ h)

  all : length (met xs n) ≤ 128 → census_of xs n ≡ census (length (met xs n)) (met xs n) (counts xs n)
  unfolding census_of
  all h = rw (le-ltb 128 _ h)

  -- the number that the count answers is as good as that of all colours
  many-same : too_many (census_of xs n).distinct n ≡ too_many (length (met xs n)) n
  many-same =
      ⊎_elim (λ (l : 128 < length (met xs n)). ap (λ (z : Census). too_many z.distinct n) (lots l) ∙ over 129 n (omega arith) ∙ sym (over (length (met xs n)) n l))
      (λ (l : length (met xs n) ≤ 128). ap (λ (z : Census). too_many z.distinct n) (all l)) (lt_or_le 128 (length (met xs n)))

  pub census-small : (census_of xs n).distinct ≤ 129
  census-small =
      ⊎_elim (λ (l : 128 < length (met xs n)). omega (arith, ap (λ (z : Census). z.distinct) (lots l))) (λ (l : length (met xs n) ≤ 128). omega (arith, ap (λ (z : Census). z.distinct) (all l))) (lt_or_le 128 (length (met xs n)))

  few : too_many (length (met xs n)) n ≡ false → length (met xs n) ≤ 128
  few h = ⊎_elim (λ (l : 128 < length (met xs n)). absurd (true_false (sym (over (length (met xs n)) n l) ∙ h))) (λ (l : length (met xs n) ≤ 128). l) (lt_or_le 128 (length (met xs n)))

-- ---- how the answers come about

module _ (xs : List ℕ) (n shift g g' : ℕ) (e : g' ≡ generation_of g) (found : Census) (v : found ≡ census_of xs n) where
  -- too many: the luma pre-check says whether the counter moves
  pub many : (none : Census) → none ≡ census 0 [] [] → too_many found.distinct n ≡ true → (limit : ℕ) → limit ≡ min (n / 2) 128 → (kept : Bool) → kept ≡ ltb limit (length (met_by (coarse shift) xs n))
      → ◌≡◌ {A = Counted} (record { answer = 13; kept = kept; generation = g'; colors = none }) (counted_of xs n shift g)
  unfolding counted_of pre_check
  many none z h limit l kept k =
      let b : too_many (length (met xs n)) n ≡ true = sym (many-same xs n) ∙ rw v at h in
      let q : kept ≡ ltb (min (n / 2) 128) (length (met_by (coarse shift) xs n)) = k ∙ rw l in
      rw b (λ i. record { answer = 13; kept = q i; generation = e i; colors = z i })

  -- not too many: then the pre-check refuses nothing
  pub counted : too_many found.distinct n ≡ false → ◌≡◌ {A = Counted} (record { answer = 0; kept = false; generation = g'; colors = found }) (counted_of xs n shift g)
  unfolding counted_of pre_check
  counted h =
      let b : too_many (length (met xs n)) n ≡ false = sym (many-same xs n) ∙ rw v at h in
      let w : found ≡ census (length (met xs n)) (met xs n) (counts xs n) = v ∙ all xs n (few xs n b) in
      let q : false ≡ ltb (min (n / 2) 128) (length (met_by (coarse shift) xs n)) =
      either (ltb (min (n / 2) 128) (length (met_by (coarse shift) xs n)))
      (λ t. absurd (true_false (sym (pre_check_lem (coarse shift) xs n (ltb-true _ _ t)) ∙ b)))
      (λ t. sym t)
      in
      rw b (λ i. record { answer = 0; kept = q i; generation = e i; colors = w i })

-- refusal 13's two tests, of a count that is at most 128
pub many_by : (d n : ℕ) → n < d * 2 → too_many d n ≡ true
unfolding too_many
many_by d n h = either (ltb 128 d) (λ e. rw e) (λ e. rw (e, lt-ltb n (d * 2) h))

pub few_by : (d n : ℕ) → d ≤ 128 → d * 2 ≤ n → too_many d n ≡ false
unfolding too_many
few_by d n l h = rw (le-ltb 128 d l, le-ltb n (d * 2) h)

-- the slots stay as many
after_wide : (t : Table) (g key next : ℕ) → (length (after_of t g key next).keys ≡ length t.keys) × (length (after_of t g key next).entry ≡ length t.entry) × (length (after_of t g key next).stamp ≡ length t.stamp)
unfolding after_of
after_wide t g key next =
    let s = slot_of t.keys t.stamp g key in
    ⊎_elim (λ (e : get_or t.stamp s 0 ≡ g). rw (eq-eqb _ _ e) (refl, refl, refl)) (λ (n : get_or t.stamp s 0 ≡ g → ⊥). rw (ne_eqb _ _ n) (length-set t.keys s key, length-set t.entry s next, length-set t.stamp s g)) (eq_or_ne (get_or t.stamp s 0) g)

table_wide : (t : Table) (g : ℕ) (xs : List ℕ) (n : ℕ) → (length (table_to t g xs n).keys ≡ length t.keys) × (length (table_to t g xs n).entry ≡ length t.entry) × (length (table_to t g xs n).stamp ≡ length t.stamp)
unfolding table_to
table_wide t g xs zero = (refl, refl, refl)
table_wide t g xs (suc i) =
    let w = table_wide t g xs i in
    ⊎_elim (λ (l : 128 < length (met xs i)). rw (lt-ltb _ _ l) w)
    (λ (l : length (met xs i) ≤ 128).
    let a = after_wide (table_to t g xs i) g (get_or xs i 0) (length (met xs i)) in
    rw (le-ltb _ _ l) (a.0 ∙ w.0, a.1 ∙ w.1, a.2 ∙ w.2))
    (lt_or_le 128 (length (met xs i)))

pub moved_wide : (ks es ss ks' es' ss' : List ℕ) (g : ℕ) (xs : List ℕ) (n : ℕ) → length ks ≡ 256 → length es ≡ 256 → length ss ≡ 256 → tab ks' es' ss' ≡ moved_to ks es ss g xs n → (length ks' ≡ 256) × (length es' ≡ 256) × (length ss' ≡ 256)
moved_wide ks es ss ks' es' ss' g xs n a b c e =
    let w = table_wide (tab ks es (stamps_of g ss)) (generation_of g) xs n in
    (ap (λ (t : Table). length t.keys) e ∙ w.0 ∙ a, ap (λ (t : Table). length t.entry) e ∙ w.1 ∙ b, ap (λ (t : Table). length t.stamp) e ∙ w.2 ∙ stamps_length g ss c)

-- where the pre-check refuses, the count refuses
pub kept-many : (xs : List ℕ) (n shift : ℕ) → pre_check xs n shift ≡ true → too_many (length (met xs n)) n ≡ true
unfolding pre_check
kept-many xs n shift h = pre_check_lem (coarse shift) xs n (ltb-true _ _ h)

-- the counter kept, or moved on
module _ (c : ColorIndex) (xs : List ℕ) (n shift : ℕ) (d : Counted) (v : d ≡ counted_of xs n shift c.generation) where
  pub tally-kept : d.kept ≡ true → ◌≡◌ {A = Tally} (record { answer = d.answer; colors = d.colors; index = c }) (tally_of c xs n shift)
  unfolding counted_of tally_of index_of
  tally-kept h =
      let k : pre_check xs n shift ≡ true = sym (ap (λ (z : Counted). z.kept) v) ∙ h in
      rw k (λ i. record { answer = (v i).answer; colors = (v i).colors; index = c })

  pub tally-moved : d.kept ≡ false → (ks es ss : List ℕ) → tab ks es ss ≡ moved_to c.keys c.entry c.stamp c.generation xs n
      → ◌≡◌ {A = Tally} (record { answer = d.answer; colors = d.colors; index = record { keys = ks; entry = es; stamp = ss; generation = d.generation } }) (tally_of c xs n shift)
  unfolding counted_of tally_of index_of moved
  tally-moved h ks es ss e =
      let k : pre_check xs n shift ≡ false = sym (ap (λ (z : Counted). z.kept) v) ∙ h in
      rw k (λ i. record { answer = (v i).answer; colors = (v i).colors; index = index_at (e i) (v i).generation })

-- from what the count and the pre-check found: the answer and the counter after it
module _ (k after : ColorIndex) (xs : List ℕ) (n shift : ℕ) (found : Census) (v : found ≡ census_of xs n) (g : after.generation ≡ generation_of k.generation) (t : tab after.keys after.entry after.stamp ≡ moved_to k.keys k.entry k.stamp k.generation xs n) where
  pub tally-few : too_many found.distinct n ≡ false → ◌≡◌ {A = Tally} (record { answer = 0; colors = found; index = after }) (tally_of k xs n shift)
  tally-few h = tally-moved k xs n shift (record { answer = 0; kept = false; generation = after.generation; colors = found }) (counted xs n shift k.generation after.generation g found v h) refl after.keys after.entry after.stamp t

  module _ (h : too_many found.distinct n ≡ true) (limit : ℕ) (l : limit ≡ min (n / 2) 128) (kept : Bool) (q : kept ≡ ltb limit (length (met_by (coarse shift) xs n))) where
    abbrev refused : Counted
    refused = record { answer = 13; kept = kept; generation = after.generation; colors = census 0 [] [] }

    is : refused ≡ counted_of xs n shift k.generation
    is = many xs n shift k.generation after.generation g found v (census 0 [] []) refl h limit l kept q

    pub tally-many-kept : kept ≡ true → ◌≡◌ {A = Tally} (record { answer = 13; colors = census 0 [] []; index = k }) (tally_of k xs n shift)
    tally-many-kept z = tally-kept k xs n shift refused is z

    pub tally-many-moved : kept ≡ false → ◌≡◌ {A = Tally} (record { answer = 13; colors = census 0 [] []; index = after }) (tally_of k xs n shift)
    tally-many-moved z = tally-moved k xs n shift refused is z after.keys after.entry after.stamp t

-- at most 128 colours are answered
pub counted-small : (xs : List ℕ) (n : ℕ) → (colors_to xs n).distinct ≤ 128
counted-small xs n = either (too_many (length (met xs n)) n) (λ e. rw e (omega arith)) (λ e. rw e (few xs n e))

-- ---- the counter

-- after `clear` the table holds nothing
pub ready : (ks es ss ss' : List ℕ) (g g' : ℕ) → length ks ≡ 256 → length es ≡ 256 → length ss ≡ 256 → g < 2 ^ 32 → none_above g ss ≡ true → g' ≡ generation_of g → ss' ≡ stamps_of g ss → Holds (tab ks es ss') g' []
ready ks es ss ss' g g' a b d l h p q = rw (p, q) (fresh (tab ks es (stamps_of g ss)) (generation_of g) a b (stamps_length g ss d) (cleared g ss l d (λ s k. none_above_lem g ss h s)))

-- no stamp is above the generation after a look-up
after_holds : (t : Table) (g key next : ℕ) → none_above g t.stamp ≡ true → none_above g (after_of t g key next).stamp ≡ true
unfolding after_of
after_holds t g key next h =
    ⊎_elim (λ (e : get_or t.stamp (slot_of t.keys t.stamp g key) 0 ≡ g). rw (eq-eqb _ _ e) h)
    (λ (n : get_or t.stamp (slot_of t.keys t.stamp g key) 0 ≡ g → ⊥). rw (ne_eqb _ _ n) (stored (slot_of t.keys t.stamp g key)))
    (eq_or_ne (get_or t.stamp (slot_of t.keys t.stamp g key) 0) g)
  where
    stored : (j : ℕ) → none_above g (set t.stamp j g) ≡ true
    stored j = above-none g (set t.stamp j g) (λ s l.
        ⊎_elim (λ (e : s ≡ j). rw (e, get_or-set_same t.stamp j g 0 (rw (e, length-set) at l)) (omega arith))
        (λ (n : s ≡ j → ⊥). rw (get_or-set_other t.stamp j s g 0 n) (none_above_lem g t.stamp h s))
        (eq_or_ne s j))

table-holds : (t : Table) (g : ℕ) (xs : List ℕ) (n : ℕ) → none_above g t.stamp ≡ true → none_above g (table_to t g xs n).stamp ≡ true
unfolding table_to
table-holds t g xs zero h = h
table-holds t g xs (suc i) h =
    ⊎_elim (λ (l : 128 < length (met xs i)). rw (lt-ltb _ _ l) (table-holds t g xs i h))
    (λ (l : length (met xs i) ≤ 128). rw (le-ltb _ _ l) (after_holds (table_to t g xs i) g (get_or xs i 0) (length (met xs i)) (table-holds t g xs i h))) (lt_or_le 128 (length (met xs i)))

cleared-holds : (ss : List ℕ) (g : ℕ) → g < 2 ^ 32 → none_above g ss ≡ true → none_above (generation_of g) (stamps_of g ss) ≡ true
unfolding stamps_of generation_of
cleared-holds ss g l h =
    ⊎_elim
    (λ (e : (g + 1) % 2 ^ 32 ≡ 0). rw (eq-eqb _ _ e) (above-none 1 (replicate 256 0) (λ s k. rw (get_or-replicate {A = ℕ} 256 s 0 0 k) (omega arith))))
    (λ (n : (g + 1) % 2 ^ 32 ≡ 0 → ⊥). rw (ne_eqb _ _ n) (above-none ((g + 1) % 2 ^ 32) ss (λ s k. omega (arith, n, none_above_lem g ss h s))))
    (eq_or_ne ((g + 1) % 2 ^ 32) 0)

-- no stamp is above the generation after a block: the next call is not refused for it
pub index-holds : (c : ColorIndex) (xs : List ℕ) (n shift : ℕ) → c.generation < 2 ^ 32 → none_above c.generation c.stamp ≡ true
    → none_above (index_of c xs n shift).generation (index_of c xs n shift).stamp ≡ true
unfolding index_of moved
index-holds c xs n shift l h =
    either (pre_check xs n shift) (λ e. rw e h)
    (λ e. rw e (table-holds (tab c.keys c.entry (stamps_of c.generation c.stamp)) (generation_of c.generation) xs n (cleared-holds c.stamp c.generation l h)))

-- only the first n samples count
pub index_ext : (c : ColorIndex) (xs ys : List ℕ) (n shift : ℕ) → ((i : ℕ) → i < n → get_or xs i 0 ≡ get_or ys i 0) → index_of c xs n shift ≡ index_of c ys n shift
unfolding index_of moved pre_check
index_ext c xs ys n shift h =
    let m = met_ext (coarse shift) xs ys n h in
    let t = table_ext (tab c.keys c.entry (stamps_of c.generation c.stamp)) (generation_of c.generation) xs ys n h in
    (λ j. pick (ltb (min (n / 2) 128) (length (m j))) c (index_at (t j) (generation_of c.generation)))
