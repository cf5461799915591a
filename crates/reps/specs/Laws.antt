-- The laws of representatives: at most the limit, apart from one another, and near to each colour that is dropped.
use Rattle.std.specs.Prelude.{Bool, true, false, ◌≡◌, refl, leb, get_or}
use mathlib.Core.List.{List, [], ◌∷◌, ◌++◌}
use Rattle.std.proofs.Math.Logic.{⊎_elim}
use Rattle.std.proofs.Math.Path.{sym}
use Rattle.std.proofs.Common.{◌∙◌, ap, length-append}
use Prim.Native.Nat.{ℕ, zero, suc, ◌+◌, ◌≤◌, ◌<◌, max}
use native.Mathlib.Omega.{arith}
use Rattle.std.proofs.Math.Numerals.{add-one}
use borrow.Author.Tests.{lt-ltb, le-ltb, le-leb, lt-leb, leb-true, leb-false}
use Rattle.std.proofs.Math.ListN.{length, get_or-append}
use Rattle.std.proofs.Math.Seq.{get_or-append_seam}
use Rattle.base.specs.Alls.{all_append}
use Rattle.base.specs.Codes.{All}
use Rattle.base.specs.Pick.{either, true_false, lt_or_le}
use Rattle.quant.specs.Quant.{gap, y_of, u_of, v_of, dist}
use Rattle.std.specs.Prelude.{cond}
use Rattle.std.specs.List.{position, position_or_len}
use Rattle.std.proofs.lemmas.List.Recursion.{is_position_or_len}
use Rattle.reps.specs.Reps.{place_in, within, hit_of, joined, reps, Near}

-- ---- component by component

module _ (tol a b : ℕ) where
  pub within_all : leb (gap (y_of a) (y_of b)) tol ≡ true → leb (gap (u_of a) (u_of b)) tol ≡ true → leb (gap (v_of a) (v_of b)) tol ≡ within tol a b
  unfolding within dist
  within_all y u =
      let p : gap (y_of a) (y_of b) ≤ tol = leb-true _ _ y in
      let q : gap (u_of a) (u_of b) ≤ tol = leb-true _ _ u in
      either (leb (gap (v_of a) (v_of b)) tol)
      (λ e. e ∙ sym (le-leb _ _ (all (gap (y_of a) (y_of b)) (gap (u_of a) (u_of b)) (gap (v_of a) (v_of b)) p q (leb-true _ _ e))))
      (λ e. e ∙ sym (lt-leb _ _ (third (gap (y_of a) (y_of b)) (gap (u_of a) (u_of b)) (gap (v_of a) (v_of b)) (leb-false _ _ e))))
    where
      all : (x y z : ℕ) → x ≤ tol → y ≤ tol → z ≤ tol → max x (max y z) ≤ tol
      all x y z p q r = omega arith

      third : (x y z : ℕ) → tol < z → tol < max x (max y z)
      third x y z r = omega arith

  pub within_not_y : leb (gap (y_of a) (y_of b)) tol ≡ false → false ≡ within tol a b
  unfolding within dist
  within_not_y y = sym (lt-leb _ _ (first (gap (y_of a) (y_of b)) (gap (u_of a) (u_of b)) (gap (v_of a) (v_of b)) (leb-false _ _ y)))
    where
      first : (x y z : ℕ) → tol < x → tol < max x (max y z)
      first x y z r = omega arith

  pub within_not_u : leb (gap (u_of a) (u_of b)) tol ≡ false → false ≡ within tol a b
  unfolding within dist
  within_not_u u = sym (lt-leb _ _ (second (gap (y_of a) (y_of b)) (gap (u_of a) (u_of b)) (gap (v_of a) (v_of b)) (leb-false _ _ u)))
    where
      second : (x y z : ℕ) → tol < y → tol < max x (max y z)
      second x y z r = omega arith

-- ---- the first within tolerance

module _ (tol e : ℕ) where
  pub hit-here : (x : ℕ) (xs : List ℕ) → within tol e x ≡ true → hit_of tol e (x ∷ xs) ≡ 0
  unfolding hit_of
  hit-here x xs h = rw h

  pub hit-on : (x : ℕ) (xs : List ℕ) → within tol e x ≡ false → hit_of tol e (x ∷ xs) ≡ suc (hit_of tol e xs)
  unfolding hit_of
  hit-on x xs h = rw h

  pub hit_le : (xs : List ℕ) → hit_of tol e xs ≤ length xs
  unfolding hit_of
  hit_le [] = omega arith
  hit_le (x ∷ xs) = let r = hit_le xs in either (within tol e x) (λ h. omega (arith, hit-here x xs h)) (λ h. omega (arith, hit-on x xs h))

  -- it is within tolerance
  pub hit-found : (xs : List ℕ) → hit_of tol e xs < length xs → within tol e (get_or xs (hit_of tol e xs) 0) ≡ true
  unfolding hit_of
  hit-found [] l = absurd (omega arith)
  hit-found (x ∷ xs) l = either (within tol e x) (λ h. rw (hit-here x xs h) h) (λ h. rw (hit-on x xs h) (hit-found xs (omega (arith, hit-on x xs h))))

  -- and none before it is
  pub hit-first : (xs : List ℕ) (j : ℕ) → j < hit_of tol e xs → within tol e (get_or xs j 0) ≡ false
  unfolding hit_of
  hit-first [] j l = absurd (omega arith)
  hit-first (x ∷ xs) zero l = either (within tol e x) (λ h. absurd (omega (arith, hit-here x xs h))) (λ h. h)
  hit-first (x ∷ xs) (suc j) l = either (within tol e x) (λ h. absurd (omega (arith, hit-here x xs h))) (λ h. hit-first xs j (omega (arith, hit-on x xs h)))

hit-none : (tol e : ℕ) → hit_of tol e [] ≡ 0
unfolding hit_of
hit-none tol e = refl

hit-cons : (tol e x : ℕ) (xs : List ℕ) → hit_of tol e (x ∷ xs) ≡ cond (within tol e x) 0 (1 + hit_of tol e xs)
hit-cons tol e x xs = either (within tol e x) (λ h. rw (hit-here tol e x xs h, h)) (λ h. rw (hit-on tol e x xs h, h) (omega arith))

-- it is where a search for one within tolerance ends
pub hit_place : (tol e : ℕ) (xs : List ℕ) → place_in xs (position (λ x. within tol e x) xs) ≡ hit_of tol e xs
hit_place tol e xs =
    let p : ℕ → Bool = λ x. within tol e x in
    let q : hit_of tol e xs ≡ position_or_len p xs = is_position_or_len (hit_of tol e) p (hit-none tol e) (hit-cons tol e) xs in
    rw (← q)
    (⊎_elim (λ (l : hit_of tol e xs < length xs). rw (lt-ltb _ _ l)) (λ (l : length xs ≤ hit_of tol e xs). rw (le-ltb _ _ l) (omega (arith, hit_le tol e xs))) (lt_or_le (hit_of tol e xs) (length xs)))

-- ---- one more colour

module _ (tol limit : ℕ) (rs : List ℕ) (c : ℕ) where
  pub joined_full : limit ≤ length rs → joined tol limit rs c ≡ rs
  unfolding joined
  joined_full h = rw (le-ltb _ _ h)

  pub joined-near : hit_of tol c rs < length rs → joined tol limit rs c ≡ rs
  unfolding joined
  joined-near h = ⊎_elim (λ (l : length rs < limit). rw (lt-ltb _ _ l, lt-ltb _ _ h)) (λ (l : limit ≤ length rs). rw (le-ltb _ _ l)) (lt_or_le (length rs) limit)

  pub joined_new : length rs < limit → length rs ≤ hit_of tol c rs → joined tol limit rs c ≡ rs ++ (c ∷ [])
  unfolding joined
  joined_new l h = rw (lt-ltb _ _ l, le-ltb _ _ h)

  grown : rs ≡ rs ++ (c ∷ []) → ⊥
  grown e = omega (arith, ap length e, length-append rs (c ∷ []))

  -- a colour near to a representative is dropped
  pub near_dropped : Near tol rs c → joined tol limit rs c ≡ rs
  near_dropped (r, l, h) =
      ⊎_elim (λ (q : hit_of tol c rs < length rs). joined-near q) (λ (q : length rs ≤ hit_of tol c rs). absurd (true_false (sym h ∙ hit-first tol c rs r (omega arith)))) (lt_or_le (hit_of tol c rs) (length rs))

  -- and one that is dropped, though there is room, is near to one
  pub dropped_near : joined tol limit rs c ≡ rs → length rs < limit → Near tol rs c
  dropped_near e l =
      ⊎_elim (λ (q : hit_of tol c rs < length rs). (hit_of tol c rs, q, hit-found tol c rs q)) (λ (q : length rs ≤ hit_of tol c rs). absurd (grown (sym e ∙ joined_new l q))) (lt_or_le (hit_of tol c rs) (length rs))

  -- one that is kept is near to none
  pub kept-apart : joined tol limit rs c ≡ rs ++ (c ∷ []) → (r : ℕ) → r < length rs → within tol c (get_or rs r 0) ≡ false
  kept-apart e r l =
      ⊎_elim (λ (q : hit_of tol c rs < length rs). absurd (grown (sym (joined-near q) ∙ e))) (λ (q : length rs ≤ hit_of tol c rs). hit-first tol c rs r (omega arith)) (lt_or_le (hit_of tol c rs) (length rs))

  pub joined_le : length rs ≤ limit → length (joined tol limit rs c) ≤ limit
  joined_le h =
      ⊎_elim
      (λ (l : length rs < limit).
      ⊎_elim (λ (k : hit_of tol c rs < length rs). rw (joined-near k) h) (λ (k : length rs ≤ hit_of tol c rs). rw (joined_new l k, length-append) (omega arith)) (lt_or_le (hit_of tol c rs) (length rs)))
      (λ (l : limit ≤ length rs). rw (joined_full l) h)
      (lt_or_le (length rs) limit)

  joined-some : 1 ≤ limit → 1 ≤ length (joined tol limit rs c)
  joined-some h =
      ⊎_elim
      (λ (l : length rs < limit).
      ⊎_elim (λ (k : hit_of tol c rs < length rs). rw (joined-near k) (omega arith)) (λ (k : length rs ≤ hit_of tol c rs). rw (joined_new l k, length-append) (omega arith)) (lt_or_le (hit_of tol c rs) (length rs)))
      (λ (l : limit ≤ length rs). rw (joined_full l) (omega arith))
      (lt_or_le (length rs) limit)

  joined-all : (Good : ℕ → Type 0) → All Good rs → Good c → All Good (joined tol limit rs c)
  joined-all Good a g =
      ⊎_elim
      (λ (l : length rs < limit).
      ⊎_elim (λ (k : hit_of tol c rs < length rs). rw (joined-near k) a) (λ (k : length rs ≤ hit_of tol c rs). rw (joined_new l k) (all_append Good rs (c ∷ []) a (g, tt))) (lt_or_le (hit_of tol c rs) (length rs)))
      (λ (l : limit ≤ length rs). rw (joined_full l) a)
      (lt_or_le (length rs) limit)

  -- any two are apart
  joined-apart : ((a b : ℕ) → a < b → b < length rs → within tol (get_or rs b 0) (get_or rs a 0) ≡ false) → (a b : ℕ) → a < b → b < length (joined tol limit rs c) → within tol (get_or (joined tol limit rs c) b 0) (get_or (joined tol limit rs c) a 0) ≡ false
  joined-apart w =
      ⊎_elim
      (λ (l : length rs < limit).
      ⊎_elim (λ (k : hit_of tol c rs < length rs). rw (joined-near k) w) (λ (k : length rs ≤ hit_of tol c rs). rw (joined_new l k) (behind k)) (lt_or_le (hit_of tol c rs) (length rs)))
      (λ (l : limit ≤ length rs). rw (joined_full l) w)
      (lt_or_le (length rs) limit)
    where
      behind : length rs ≤ hit_of tol c rs → (a b : ℕ) → a < b → b < length (rs ++ (c ∷ [])) → within tol (get_or (rs ++ (c ∷ [])) b 0) (get_or (rs ++ (c ∷ [])) a 0) ≡ false
      behind k a b h l =
          let n = length-append rs (c ∷ []) in
          ⊎_elim (λ (q : b < length rs). rw (get_or-append rs (c ∷ []) 0 b q, get_or-append rs (c ∷ []) 0 a (omega arith)) (w a b h q))
          (λ (q : length rs ≤ b).
          let e : b ≡ length rs = omega arith in
          let m : a < length rs = omega arith in
          rw (e, get_or-append_seam rs c [] 0, get_or-append rs (c ∷ []) 0 a m) (hit-first tol c rs a (omega arith)))
          (lt_or_le b (length rs))

-- ---- all of them

module _ (tol limit : ℕ) (cs : List ℕ) where
  pub reps-next : (i : ℕ) → reps tol limit cs (i + 1) ≡ joined tol limit (reps tol limit cs i) (get_or cs i 0)
  unfolding reps
  reps-next i = rw add-one

  -- at most the limit stay
  pub reps_le : (n : ℕ) → length (reps tol limit cs n) ≤ limit
  unfolding reps
  reps_le zero = omega arith
  reps_le (suc i) = joined_le tol limit (reps tol limit cs i) (get_or cs i 0) (reps_le i)

  -- no representative is within tolerance of an earlier one
  pub reps-apart : (n a b : ℕ) → a < b → b < length (reps tol limit cs n) → within tol (get_or (reps tol limit cs n) b 0) (get_or (reps tol limit cs n) a 0) ≡ false
  unfolding reps
  reps-apart zero a b h l = absurd (omega arith)
  reps-apart (suc i) a b h l = joined-apart tol limit (reps tol limit cs i) (get_or cs i 0) (reps-apart i) a b h l

  -- the first colour stays
  pub reps-some : (n : ℕ) → 1 ≤ n → 1 ≤ limit → 1 ≤ length (reps tol limit cs n)
  unfolding reps
  reps-some zero h l = absurd (omega arith)
  reps-some (suc i) h l = joined-some tol limit (reps tol limit cs i) (get_or cs i 0) l

  -- what holds of every colour holds of every representative
  pub reps-all : (Good : ℕ → Type 0) (n : ℕ) → ((i : ℕ) → i < n → Good (get_or cs i 0)) → All Good (reps tol limit cs n)
  unfolding reps
  reps-all Good zero h = tt
  reps-all Good (suc i) h = joined-all tol limit (reps tol limit cs i) (get_or cs i 0) Good (reps-all Good i (λ j l. h j (omega arith))) (h i (omega arith))

-- only the first n colours matter
pub reps_ext : (tol limit : ℕ) (cs ds : List ℕ) (n : ℕ) → ((k : ℕ) → k < n → get_or cs k 0 ≡ get_or ds k 0) → reps tol limit cs n ≡ reps tol limit ds n
unfolding reps
reps_ext tol limit cs ds zero h = refl
reps_ext tol limit cs ds (suc i) h = (λ j. joined tol limit (reps_ext tol limit cs ds i (λ k l. h k (omega arith)) j) (h i (omega arith) j))
