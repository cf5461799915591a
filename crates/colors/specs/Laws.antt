-- The laws of the colour counter: a look-up answers the key's place among the numbers met.
use Rattle.std.specs.Prelude.{◌≡◌, ℕ, zero, suc, ◌+◌, ◌-◌, ◌%◌, ◌^◌, ◌<◌, ◌≤◌, Bool, true, false, ◌&&◌, ◌⊎◌, List, [], ◌∷◌, ◌++◌, length, drop, ◌≢◌, nat_le, slice_index, slice_index_or, slice_set}
use Rattle.std.proofs.Math.Logic.{inl, inr, ⊎_elim}
use Rattle.std.proofs.Math.Path.{refl, ap}
use Rattle.std.proofs.Common.{sym, ◌∙◌, subst, add-one, drop_of_length-le, length-set, length-append, get_or-set_same, get_or-set_other, drop-cons}
use native.Mathlib.Omega.{arith}
use borrow.Author.Tests.{eq-eqb, ne_eqb, lt-ltb, le-ltb, le-leb, lt-leb}
use Rattle.std.proofs.lemmas.List.{get_or-replicate}
use Rattle.base.specs.Pick.{pick, lt_or_le, eq_or_ne, true_false}
use Rattle.base.specs.Tests.{pick_test}
use Rattle.colors.specs.Place.{place_of, place_le, place_kept, place_new, place_other, seen}
use Rattle.colors.specs.Table.{Table, tab, hash_of, slot_at, probe, slot_of, answer_of, after_of, generation_of, stamps_of, stamped, none_above, Path, Holds}

pub hash_lt : (key : ℕ) → hash_of key < 256
unfolding hash_of
hash_lt key = omega arith

pub slot_lt : (key d : ℕ) → slot_at key d < 256
slot_lt key d = omega arith

-- every slot is some probe's
reached : (key s : ℕ) → s < 256 → slot_at key ((s + 256 - hash_of key) % 256) ≡ s
reached key s h = omega (arith, hash_lt key)

module _ (ks ss : List ℕ) (g key : ℕ) where
  at-free : (f d : ℕ) → (slice_index ss (slot_at key d) ≢ g) → probe (suc f) ks ss g key d ≡ d
  unfolding probe
  at-free f d n = rw (ne_eqb _ _ n)

  at_key : (f d : ℕ) → slice_index ss (slot_at key d) ≡ g → slice_index ks (slot_at key d) ≡ key → probe (suc f) ks ss g key d ≡ d
  unfolding probe
  at_key f d m e = rw (eq-eqb _ _ m, eq-eqb _ _ e)

  at_other : (f d : ℕ) → slice_index ss (slot_at key d) ≡ g → (slice_index ks (slot_at key d) ≢ key) → probe (suc f) ks ss g key d ≡ probe f ks ss g key (d + 1)
  unfolding probe
  at_other f d m n = rw (eq-eqb _ _ m, ne_eqb _ _ n)

  more : (d : ℕ) → d < 256 → 256 - d ≡ suc (256 - (d + 1))
  more d h = omega arith

  probe-free : (d : ℕ) → d < 256 → (slice_index ss (slot_at key d) ≢ g) → probe (256 - d) ks ss g key d ≡ d
  probe-free d h n = rw (more d h) (at-free (256 - (d + 1)) d n)

  probe_key : (d : ℕ) → d < 256 → slice_index ss (slot_at key d) ≡ g → slice_index ks (slot_at key d) ≡ key → probe (256 - d) ks ss g key d ≡ d
  probe_key d h m e = rw (more d h) (at_key (256 - (d + 1)) d m e)

  probe-other : (d : ℕ) → d < 256 → slice_index ss (slot_at key d) ≡ g → (slice_index ks (slot_at key d) ≢ key) → probe (256 - d) ks ss g key d ≡ probe (256 - (d + 1)) ks ss g key (d + 1)
  probe-other d h m n = rw (more d h) (at_other (256 - (d + 1)) d m n)

  pub probe-end : (d : ℕ) → 256 ≤ d → d ≤ 256 → slot_at key (probe (256 - d) ks ss g key d) ≡ hash_of key
  unfolding probe
  probe-end d h l = let e : d ≡ 256 = omega arith in rw e (omega (arith, hash_lt key))

  -- one turn of the search, h the first slot
  module _ (h d : ℕ) (e : h ≡ hash_of key) (l : d < 256) (inv : slot_at key (probe (256 - d) ks ss g key d) ≡ slot_of ks ss g key) where
    pub find_free : (slice_index ss ((h + d) % 256) ≢ g) → (h + d) % 256 ≡ slot_of ks ss g key
    find_free n = rw e (ap (slot_at key) (sym (probe-free d l (rw e at n))) ∙ inv)

    pub find_key : slice_index_or ss ((h + d) % 256) 0 ≡ g → slice_index ks ((h + d) % 256) ≡ key → (h + d) % 256 ≡ slot_of ks ss g key
    find_key m k = rw e (ap (slot_at key) (sym (probe_key d l (rw e at m) (rw e at k))) ∙ inv)

    pub find_on : slice_index_or ss ((h + d) % 256) 0 ≡ g → (slice_index ks ((h + d) % 256) ≢ key) → slot_at key (probe (256 - (d + 1)) ks ss g key (d + 1)) ≡ slot_of ks ss g key
    find_on m n = ap (slot_at key) (sym (probe-other d l (rw e at m) (rw e at n))) ∙ inv

  -- how a search ends
  pub record Ended (p : ℕ) : Type 0 where
    pub short : p ≤ 256
    pub marked : (e : ℕ) → e < p → slice_index ss (slot_at key e) ≡ g
    pub others : (e : ℕ) → e < p → slice_index ks (slot_at key e) ≢ key
    pub last : p < 256 → (slice_index ss (slot_at key p) ≢ g) ⊎ ((slice_index ss (slot_at key p) ≡ g) × (slice_index ks (slot_at key p) ≡ key))

  ended : (f d : ℕ) → f + d ≡ 256 → ((e : ℕ) → e < d → slice_index ss (slot_at key e) ≡ g) → ((e : ℕ) → e < d → slice_index ks (slot_at key e) ≢ key) → Ended (probe f ks ss g key d)
  unfolding probe
  ended zero d h m o = record { short = omega arith; marked = m; others = o; last = λ l. absurd (omega arith) }
  ended (suc f) d h m o =
      ⊎_elim
      (λ (e : slice_index_or ss (slot_at key d) 0 ≡ g).
      ⊎_elim
      (λ (k : slice_index_or ks (slot_at key d) 0 ≡ key). rw (at_key f d e k) (record { short = omega arith; marked = m; others = o; last = λ l. inr (e, k) }))
      (λ (n : slice_index_or ks (slot_at key d) 0 ≡ key → ⊥).
      rw (at_other f d e n)
      (ended f (d + 1) (omega arith) (λ i l. ⊎_elim (λ (q : i < d). m i q) (λ (q : d ≤ i). let z : i ≡ d = omega arith in rw z e) (lt_or_le i d))
      (λ i l. ⊎_elim (λ (q : i < d). o i q) (λ (q : d ≤ i). let z : i ≡ d = omega arith in rw z n) (lt_or_le i d))))
      (eq_or_ne (slice_index ks (slot_at key d)) key))
      (λ (n : slice_index_or ss (slot_at key d) 0 ≡ g → ⊥). rw (at-free f d n) (record { short = omega arith; marked = m; others = o; last = λ l. inl n }))
      (eq_or_ne (slice_index ss (slot_at key d)) g)

-- what a look-up leaves that ended at s
module _ (t : Table) (g key next s : ℕ) (e : s ≡ slot_of t.keys t.stamp g key) where
  pub is-there : slice_index_or t.stamp s 0 ≡ g → (slice_index t.entry s ≡ answer_of t g key next) × (t ≡ after_of t g key next)
  unfolding answer_of after_of
  is-there m = rw (← e, eq-eqb _ _ m) (refl, refl)

  pub put_there : (slice_index t.stamp s ≢ g) → (next ≡ answer_of t g key next) × (tab (slice_set t.keys s key) (slice_set t.entry s next) (slice_set t.stamp s g) ≡ after_of t g key next)
  unfolding answer_of after_of
  put_there n = rw (← e, ne_eqb _ _ n) (refl, refl)

-- the count of stamped slots
stamped-yes : (g s : ℕ) (ss : List ℕ) → s ≡ g → stamped g (s ∷ ss) ≡ suc (stamped g ss)
unfolding stamped
stamped-yes g s ss e = rw (eq-eqb s g e)

stamped_no : (g s : ℕ) (ss : List ℕ) → (s ≢ g) → stamped g (s ∷ ss) ≡ stamped g ss
unfolding stamped
stamped_no g s ss n = rw (ne_eqb s g n)

stamped-all : (g : ℕ) (ss : List ℕ) → ((i : ℕ) → i < length ss → slice_index ss i ≡ g) → stamped g ss ≡ length ss
unfolding stamped
stamped-all g [] h = refl
stamped-all g (s ∷ ss) h = stamped-yes g s ss (h 0 (omega arith)) ∙ ap suc (stamped-all g ss (λ i l. h (suc i) (omega arith)))

stamped-none : (g : ℕ) (ss : List ℕ) → ((i : ℕ) → i < length ss → slice_index ss i ≢ g) → stamped g ss ≡ 0
unfolding stamped
stamped-none g [] h = refl
stamped-none g (s ∷ ss) h = stamped_no g s ss (h 0 (omega arith)) ∙ stamped-none g ss (λ i l. h (suc i) (omega arith))

stamped-set : (g : ℕ) (ss : List ℕ) (i : ℕ) → i < length ss → (slice_index ss i ≢ g) → stamped g (slice_set ss i g) ≡ suc (stamped g ss)
unfolding stamped
stamped-set g [] i h n = absurd (omega arith)
stamped-set g (s ∷ ss) zero h n = stamped-yes g g ss refl ∙ ap suc (sym (stamped_no g s ss n))
stamped-set g (s ∷ ss) (suc i) h n =
    ⊎_elim
    (λ (e : s ≡ g). stamped-yes g s (slice_set ss i g) e ∙ ap suc (stamped-set g ss i (omega arith) n ∙ sym (stamped-yes g s ss e)))
    (λ (m : s ≡ g → ⊥). stamped_no g s (slice_set ss i g) m ∙ stamped-set g ss i (omega arith) n ∙ ap suc (sym (stamped_no g s ss m)))
    (eq_or_ne s g)

module _ (t : Table) (g : ℕ) (ms : List ℕ) (key : ℕ) (w : Holds t g ms) (few : length ms < 256) where
  abbrev at : ℕ
  at = slot_of t.keys t.stamp g key

  pub record Hit : Type 0 where
    pub marked : slice_index_or t.stamp at 0 ≡ g
    pub told : place_of key ms ≡ slice_index t.entry at
    pub inside : place_of key ms < length ms

  pub record Miss : Type 0 where
    pub free : slice_index_or t.stamp at 0 ≡ g → ⊥
    pub none : place_of key ms ≡ length ms
    pub p : ℕ
    pub short : p < 256
    pub is : at ≡ slot_at key p
    pub marked : (e : ℕ) → e < p → slice_index t.stamp (slot_at key e) ≡ g

  -- with a free slot somewhere a search ends: not every slot is stamped
  room : ((e : ℕ) → e < 256 → slice_index t.stamp (slot_at key e) ≡ g) → ⊥
  room h = omega (arith, stamped-all g t.stamp (λ i l. let r : i < 256 = omega (arith, w.wide_stamp) in rw (← reached key i r) (h ((i + 256 - hash_of key) % 256) (omega arith))), w.count, w.wide_stamp)

  pub hit_or_miss : Hit ⊎ Miss
  unfolding slot_of
  hit_or_miss = go (probe 256 t.keys t.stamp g key 0) refl (ended t.keys t.stamp g key 256 0 refl (λ e l. absurd (omega arith)) (λ e l. absurd (omega arith)))
    where
      miss : (p : ℕ) → probe 256 t.keys t.stamp g key 0 ≡ p → Ended t.keys t.stamp g key p → p < 256 → (slice_index t.stamp (slot_at key p) ≢ g) → Miss
      miss p e x l n = record {
        free = rw e n;
        none = ⊎_elim
            (λ (q : place_of key ms < length ms).
            let r = w.path key q in
            ⊎_elim (λ (a : r.d < p). absurd (x.others r.d a r.holds))
            (λ (a : p ≤ r.d). ⊎_elim (λ (b : p < r.d). absurd (n (r.before p b))) (λ (b : r.d ≤ p). let z : r.d ≡ p = omega arith in absurd (n (rw z at r.marked))) (lt_or_le p r.d))
            (lt_or_le r.d p))
            (λ (q : length ms ≤ place_of key ms). omega (arith, place_le key ms))
            (lt_or_le (place_of key ms) (length ms));
        p = p;
        short = l;
        is = ap (slot_at key) e;
        marked = x.marked;
      }

      hit : (p : ℕ) → probe 256 t.keys t.stamp g key 0 ≡ p → p < 256 → (slice_index t.stamp (slot_at key p) ≡ g) → (slice_index t.keys (slot_at key p) ≡ key) → Hit
      hit p e l m k =
          let y : place_of key ms ≡ slice_index_or t.entry (slot_at key p) 0 = rw k at (w.told (slot_at key p) (slot_lt key p) m) in
          record { marked = rw e m; told = rw e y; inside = omega (arith, w.inside (slot_at key p) (slot_lt key p) m) }

      go : (p : ℕ) → probe 256 t.keys t.stamp g key 0 ≡ p → Ended t.keys t.stamp g key p → Hit ⊎ Miss
      go p e x =
          ⊎_elim (λ (l : p < 256). ⊎_elim (λ n. inr (miss p e x l n)) (λ k. inl (hit p e l k.0 k.1)) (x.last l))
          (λ (l : 256 ≤ p). absurd (room (λ i h. x.marked i (omega arith))))
          (lt_or_le p 256)

  -- the answer of a look-up is the key's place, or the next number where it is new
  pub answers : answer_of t g key (length ms) ≡ place_of key ms
  unfolding answer_of
  answers = ⊎_elim (λ (h : Hit). rw (eq-eqb _ _ h.marked) (sym h.told)) (λ (m : Miss). rw (ne_eqb _ _ m.free) (sym m.none)) hit_or_miss

  -- a key that is there leaves the table as it is
  pub hit-keeps : place_of key ms < length ms → after_of t g key (length ms) ≡ t
  unfolding after_of
  hit-keeps l = ⊎_elim (λ (h : Hit). rw (eq-eqb _ _ h.marked)) (λ (m : Miss). absurd (omega (arith, m.none))) hit_or_miss

  mark_kept : (i j : ℕ) → j < 256 → slice_index t.stamp i ≡ g → slice_index (slice_set t.stamp j g) i ≡ g
  mark_kept i j l h =
      ⊎_elim (λ (e : i ≡ j). rw e (get_or-set_same t.stamp j g 0 (omega (arith, w.wide_stamp)))) (λ (n : i ≡ j → ⊥). get_or-set_other t.stamp j i g 0 n ∙ h) (eq_or_ne i j)

  -- the table with the key put into a free slot, p probes on
  put_in : (p : ℕ) → p < 256 → (slice_index t.stamp (slot_at key p) ≢ g) → place_of key ms ≡ length ms → ((e : ℕ) → e < p → slice_index t.stamp (slot_at key e) ≡ g)
      → Holds (tab (slice_set t.keys (slot_at key p) key) (slice_set t.entry (slot_at key p) (length ms)) (slice_set t.stamp (slot_at key p) g)) g (ms ++ (key ∷ []))
  put_in p short free none marked =
      let long : length (ms ++ (key ∷ [])) ≡ length ms + 1 = length-append ms (key ∷ []) in
      let s = slot_at key p in
      let sl : s < 256 = slot_lt key p in
      let new : place_of key (ms ++ (key ∷ [])) ≡ length ms = place_new key ms none in
      record {
        wide_keys = length-set t.keys s key ∙ w.wide_keys;
        wide_entry = length-set t.entry s (length ms) ∙ w.wide_entry;
        wide_stamp = length-set t.stamp s g ∙ w.wide_stamp;
        count = omega (arith, stamped-set g t.stamp s (omega (arith, w.wide_stamp)) free, w.count, long);
        told = λ i l m.
            ⊎_elim (λ (e : i ≡ s). rw (e, get_or-set_same t.keys s key 0 (omega (arith, w.wide_keys)), get_or-set_same t.entry s (length ms) 0 (omega (arith, w.wide_entry))) new)
            (λ (n : i ≡ s → ⊥).
            let m' : slice_index_or t.stamp i 0 ≡ g = sym (get_or-set_other t.stamp s i g 0 n) ∙ m in
            let o = w.told i l m' in
            rw (get_or-set_other t.keys s i key 0 n, get_or-set_other t.entry s i (length ms) 0 n) (place_kept (slice_index t.keys i) ms (key ∷ []) (omega (arith, o, w.inside i l m')) ∙ o))
            (eq_or_ne i s);
        inside = λ i l m.
            ⊎_elim (λ (e : i ≡ s). rw (e, get_or-set_same t.entry s (length ms) 0 (omega (arith, w.wide_entry))) (omega (arith, long)))
            (λ (n : i ≡ s → ⊥).
            rw (get_or-set_other t.entry s i (length ms) 0 n) (omega (arith, long, w.inside i l (sym (get_or-set_other t.stamp s i g 0 n) ∙ m))))
            (eq_or_ne i s);
        path = λ k h.
            ⊎_elim
            (λ (e : key ≡ k). subst (λ (x : ℕ). Path (tab (slice_set t.keys s key) (slice_set t.entry s (length ms)) (slice_set t.stamp s g)) g x) e (record {
              d = p;
              short = short;
              marked = get_or-set_same t.stamp s g 0 (omega (arith, w.wide_stamp));
              holds = get_or-set_same t.keys s key 0 (omega (arith, w.wide_keys));
              before = λ i l. mark_kept (slot_at key i) s sl (marked i l);
            }))
            (λ (n : key ≡ k → ⊥).
            let r = w.path k (place_other k key ms n (omega (arith, h, long))) in
            let q : slot_at k r.d ≡ s → ⊥ = λ (z : slot_at k r.d ≡ s). free (rw z at r.marked) in record {
              d = r.d;
              short = r.short;
              marked = mark_kept (slot_at k r.d) s sl r.marked;
              holds = get_or-set_other t.keys s (slot_at k r.d) key 0 q ∙ r.holds;
              before = λ i l. mark_kept (slot_at k i) s sl (r.before i l);
            })
            (eq_or_ne key k);
      }

  -- and the table after it holds what has been met
  pub keeps : Holds (after_of t g key (length ms)) g (seen ms key)
  unfolding after_of seen
  keeps =
      ⊎_elim (λ (h : Hit). rw (eq-eqb _ _ h.marked, lt-ltb _ _ h.inside) w)
      (λ (m : Miss). rw (ne_eqb _ _ m.free, le-ltb (place_of key ms) (length ms) (omega (arith, m.none)), m.is) (put_in m.p m.short (rw m.is at m.free) m.none m.marked))
      hit_or_miss

-- a table after `clear` holds nothing
pub fresh : (t : Table) (g : ℕ) → length t.keys ≡ 256 → length t.entry ≡ 256 → length t.stamp ≡ 256
    → ((s : ℕ) → s < 256 → slice_index t.stamp s ≢ g) → Holds t g []
unfolding place_of
fresh t g a b c h = record {
  wide_keys = a;
  wide_entry = b;
  wide_stamp = c;
  count = stamped-none g t.stamp (λ i l. h i (omega (arith, c)));
  told = λ s l m. absurd (h s l m);
  inside = λ s l m. absurd (h s l m);
  path = λ k l. absurd (omega arith);
}

-- where no stamp is above the generation, none is of the next
pub cleared : (g : ℕ) (ss : List ℕ) → g < 2 ^ 32 → length ss ≡ 256 → ((s : ℕ) → s < 256 → slice_index ss s ≤ g) → (s : ℕ) → s < 256 → slice_index (stamps_of g ss) s ≢ generation_of g
unfolding stamps_of generation_of
cleared g ss l w h s k =
    ⊎_elim (λ (e : (g + 1) % 2 ^ 32 ≡ 0). rw (eq-eqb _ _ e, get_or-replicate {A = ℕ} 256 s 0 0 k) (λ z. omega arith)) (λ (n : (g + 1) % 2 ^ 32 ≡ 0 → ⊥). rw (ne_eqb _ _ n) (λ z. omega (arith, n, h s k)))
    (eq_or_ne ((g + 1) % 2 ^ 32) 0)

pub stamps_length : (g : ℕ) (ss : List ℕ) → length ss ≡ 256 → length (stamps_of g ss) ≡ 256
unfolding stamps_of
stamps_length g ss h = ⊎_elim (λ (e : (g + 1) % 2 ^ 32 ≡ 0). rw (eq-eqb _ _ e) refl) (λ (n : (g + 1) % 2 ^ 32 ≡ 0 → ⊥). rw (ne_eqb _ _ n) h) (eq_or_ne ((g + 1) % 2 ^ 32) 0)

-- ---- the test of the stamps

above-here : (g s : ℕ) (ss : List ℕ) → g < s → none_above g (s ∷ ss) ≡ false
unfolding none_above
above-here g s ss h = rw (lt-ltb g s h)

above_on : (g s : ℕ) (ss : List ℕ) → s ≤ g → none_above g (s ∷ ss) ≡ none_above g ss
unfolding none_above
above_on g s ss h = rw (le-ltb g s h)

-- the stamps passed hold, and the rest
above-split : (g : ℕ) (ss : List ℕ) (i : ℕ) → i < length ss → none_above g (drop i ss) ≡ pick (nat_le (slice_index ss i) g) (none_above g (drop (i + 1) ss)) false
above-split g ss i l =
    rw (drop-cons ss i 0 l, add-one i)
    (⊎_elim (λ (q : g < slice_index ss i). above-here g (slice_index ss i) (drop (suc i) ss) q ∙ rw (lt-leb (slice_index ss i) g q)) (λ (q : slice_index_or ss i 0 ≤ g). above_on g (slice_index ss i) (drop (suc i) ss) q ∙ rw (le-leb (slice_index ss i) g q))
    (lt_or_le g (slice_index ss i)))

-- one turn of a loop over the stamps, and its end
pub above-next : (g : ℕ) (ss : List ℕ) (i : ℕ) (ok : Bool) → i < length ss → pick (ok && nat_le (slice_index ss i) g) (none_above g (drop (i + 1) ss)) false ≡ pick ok (none_above g (drop i ss)) false
above-next g ss i true l = sym (above-split g ss i l)
above-next g ss i false l = refl

pub above-end : (g : ℕ) (ss : List ℕ) (i : ℕ) (ok : Bool) → length ss ≤ i → ok ≡ pick ok (none_above g (drop i ss)) false
unfolding none_above
above-end g ss i ok h = rw (drop_of_length-le ss {i = i} h) (sym (pick_test ok))

-- the test says it of each stamp
pub none_above_lem : (g : ℕ) (ss : List ℕ) → none_above g ss ≡ true → (s : ℕ) → slice_index ss s ≤ g
unfolding none_above
none_above_lem g [] h s = omega arith
none_above_lem g (x ∷ ss) h s =
    ⊎_elim (λ (q : g < x). absurd (true_false (sym h ∙ above-here g x ss q))) (λ (q : x ≤ g). at s q (none_above_lem g ss (sym (above_on g x ss q) ∙ h))) (lt_or_le g x)
  where
    at : (s : ℕ) → x ≤ g → ((i : ℕ) → slice_index ss i ≤ g) → slice_index (x ∷ ss) s ≤ g
    at zero q r = q
    at (suc s) q r = r s

pub above-none : (g : ℕ) (ss : List ℕ) → ((s : ℕ) → s < length ss → slice_index ss s ≤ g) → none_above g ss ≡ true
unfolding none_above
above-none g [] h = refl
above-none g (x ∷ ss) h = above_on g x ss (h 0 (omega arith)) ∙ above-none g ss (λ s l. h (suc s) (omega arith))
