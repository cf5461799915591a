-- The laws of the pre-check: its flags count the values met, and it never changes the answer.
use Rattle.std.specs.Prelude.{Bool, true, false, List, [], ◌∷◌, ◌++◌, ◌≡◌, refl, ℕ, ◌+◌, ◌-◌, ◌*◌, ◌/◌, ◌≤◌, ◌<◌, min, ltb, length, get_or, replicate}
use Rattle.std.proofs.Common.{⊎_elim, sym, ◌∙◌, arith, lt-ltb, le-ltb, length-set, length-append, get_or-set_same, get_or-set_other}
use Rattle.std.proofs.lemmas.List.{get_or-replicate}
use Rattle.base.specs.Pick.{lt_or_le, eq_or_ne}
use Rattle.colors.specs.Place.{place_of, place_other, seen, seen_old, seen_new, seen_has, seen-keeps}
use Rattle.census.specs.Census.{met_by, met, too_many}
use Rattle.census.specs.Laws.{met_next, met_mono, through_le}
use Rattle.luma.specs.Luma.{Marked, Flags}

pub flags-none : Flags (replicate 256 false) 0 []
unfolding place_of
flags-none = record { wide = refl; count = refl; flag = λ v h. get_or-replicate {A = Bool} 256 v false false h }

-- one value more
module _ (bs₀ : List Bool) (d : ℕ) (ms : List ℕ) (w : Flags bs₀ d ms) (bs : List Bool) (v r : ℕ) (l : v < 256) (m : Marked bs₀ bs v d r) where
  pub flags-more : Flags bs r (seen ms v)
  flags-more =
      ⊎_elim
      (λ (h : place_of v ms < length ms). let o = m.old (w.flag v l ∙ lt-ltb _ _ h) in rw (o.0, o.1, seen_old ms v h) w)
      (λ (h : length ms ≤ place_of v ms).
      let o = m.new (w.flag v l ∙ le-ltb _ _ h) in
      rw (o.0, o.1) (record {
        wide = length-set bs₀ v true ∙ w.wide;
        count = rw (seen_new ms v h, length-append) (omega (arith, w.count));
        flag = λ u k.
            ⊎_elim (λ (e : u ≡ v). rw e (get_or-set_same bs₀ v true false (omega (arith, w.wide)) ∙ sym (lt-ltb _ _ (seen_has ms v))))
            (λ (n : u ≡ v → ⊥).
            get_or-set_other bs₀ v u true false n ∙ w.flag u k
            ∙ ⊎_elim (λ (q : place_of u ms < length ms). lt-ltb _ _ q ∙ sym (lt-ltb _ _ (seen-keeps ms v u q)))
            (λ (q : length ms ≤ place_of u ms). le-ltb _ _ q ∙ sym (le-ltb _ _ (still u n h q)))
            (lt_or_le (place_of u ms) (length ms)))
            (eq_or_ne u v);
      }))
      (lt_or_le (place_of v ms) (length ms))
    where
      still : (u : ℕ) → (u ≡ v → ⊥) → length ms ≤ place_of v ms → length ms ≤ place_of u ms → length (seen ms v) ≤ place_of u (seen ms v)
      still u n h q =
          rw (seen_new ms v h)
          (⊎_elim (λ (z : place_of u (ms ++ (v ∷ [])) < length ms + 1). absurd (omega (arith, place_other u v ms (λ (e : v ≡ u). n (sym e)) z))) (λ (z : length ms + 1 ≤ place_of u (ms ++ (v ∷ []))). rw length-append z)
          (lt_or_le (place_of u (ms ++ (v ∷ []))) (length ms + 1)))

-- more than the limit by now, so more in the end
pub exceeds : (f : ℕ → ℕ) (xs : List ℕ) (i n limit d : ℕ) → i < n → d ≡ length (met_by f xs (i + 1)) → limit < d → ltb limit (length (met_by f xs n)) ≡ true
exceeds f xs i n limit d l e h =
    let q : i + 1 + (n - (i + 1)) ≡ n = omega arith in
    let b : length (met_by f xs (i + 1)) ≤ length (met_by f xs n) = rw q at (met_mono f xs (i + 1) (n - (i + 1))) in
    lt-ltb limit (length (met_by f xs n)) (omega arith)

-- one more sample
pub flags-turn : (f : ℕ → ℕ) (xs : List ℕ) (i : ℕ) {d : ℕ} {bs₀ bs : List Bool} {v r : ℕ} → Flags bs₀ d (met_by f xs i) → v ≡ f (get_or xs i 0) → v < 256 → Marked bs₀ bs v d r → Flags bs r (met_by f xs (i + 1))
flags-turn f xs i {d} {bs₀} {bs} {v} {r} w e l m = rw (met_next f xs i, ← e) (flags-more bs₀ d (met_by f xs i) w bs v r l m)

-- the pre-check never changes the answer: where it refuses, the count refuses
pub pre_check_lem : (f : ℕ → ℕ) (xs : List ℕ) (n : ℕ) → min (n / 2) 128 < length (met_by f xs n) → too_many (length (met xs n)) n ≡ true
unfolding too_many
pre_check_lem f xs n h =
    let l = through_le f xs n in
    ⊎_elim (λ (a : 128 < length (met xs n)). rw (lt-ltb _ _ a)) (λ (a : length (met xs n) ≤ 128). rw (le-ltb 128 _ a, lt-ltb n (length (met xs n) * 2) (omega (arith, l)))) (lt_or_le 128 (length (met xs n)))
