-- Tolerances and levels are small, the level found is the one document 01 describes, and colours are as near as their components.
use Rattle.std.specs.Prelude.{Bool, true, false, ◌≡◌, refl, ◌⊎◌, ℕ, ◌+◌, ◌*◌, ◌-◌, ◌^◌, ◌≤◌, ◌<◌, max}
use Rattle.std.proofs.Common.{inl, inr, div-lt_iff_lt-mul, arith, lt-ltb, le-ltb}
use Rattle.std.proofs.Math.Logic.{⊎_elim}
use Rattle.base.specs.Pick.{lt_or_le}
use Rattle.quant.specs.Quant.{tolerance_of, gap, error_of, start_of, nearer, quantised, level_of, packed, y_of, u_of, v_of, dist}

pub tolerance_le : (lossless : Bool) (step : ℕ) → tolerance_of lossless step ≤ 16
unfolding tolerance_of
tolerance_le true step = omega arith
tolerance_le false step = omega arith

-- ---- the level of a value

-- the levels tried for a start s: s - 1, s and s + 1, none below 0
abbrev pub Tried : ℕ → ℕ → Type 0
Tried s level = (level + 1 ≡ s) ⊎ (level ≡ s) ⊎ (level ≡ s + 1)

-- a level tried, of least error, and the lowest such
pub record Least (step most v level : ℕ) : Type 0 where
  pub tried : Tried (start_of step v) level
  pub least : (k : ℕ) → Tried (start_of step v) k → error_of step most v level ≤ error_of step most v k
  pub lowest : (k : ℕ) → Tried (start_of step v) k → k < level → error_of step most v level < error_of step most v k

three : (C : ℕ → Type 0) (s k : ℕ) → Tried s k → C (s - 1) → C s → C (s + 1) → C k
three C s k t a b c =
    ⊎_elim
    (λ (h : k + 1 ≡ s). let e : k ≡ s - 1 = omega arith in rw e a)
    (⊎_elim (λ (h : k ≡ s). rw h b) (λ (h : k ≡ s + 1). rw h c))
    t

-- e is the error of a level, s the start
module _ (step most v : ℕ) where
  abbrev e : ℕ → ℕ
  e level = error_of step most v level

  abbrev s : ℕ
  s = start_of step v

  low : e (s - 1) ≤ e s → e (s - 1) ≤ e (s + 1) → Least step most v (s - 1)
  low h k = record {
    tried = ⊎_elim (λ (o : 0 < s). inl (omega arith)) (λ (o : s ≤ 0). inr (inl (omega arith))) (lt_or_le 0 s);
    least = λ j t. three (λ (x : ℕ). e (s - 1) ≤ e x) s j t (omega arith) h k;
    lowest = λ j t. three (λ (x : ℕ). x < s - 1 → e (s - 1) < e x) s j t (λ o. absurd (omega arith)) (λ o. absurd (omega arith)) (λ o. absurd (omega arith));
  }

  mid : e s < e (s - 1) → e s ≤ e (s + 1) → Least step most v s
  mid h k = record {
    tried = inr (inl refl);
    least = λ j t. three (λ (x : ℕ). e s ≤ e x) s j t (omega arith) (omega arith) k;
    lowest = λ j t. three (λ (x : ℕ). x < s → e s < e x) s j t (λ o. h) (λ o. absurd (omega arith)) (λ o. absurd (omega arith));
  }

  high : e (s + 1) < e (s - 1) → e (s + 1) < e s → Least step most v (s + 1)
  high h k = record {
    tried = inr (inr refl);
    least = λ j t. three (λ (x : ℕ). e (s + 1) ≤ e x) s j t (omega arith) (omega arith) (omega arith);
    lowest = λ j t. three (λ (x : ℕ). x < s + 1 → e (s + 1) < e x) s j t (λ o. h) (λ o. k) (λ o. absurd (omega arith));
  }

  nearer-second : (a b : ℕ) → e b < e a → nearer step most v a b ≡ b
  unfolding nearer
  nearer-second a b h = rw (lt-ltb (e b) (e a) h)

  nearer-first : (a b : ℕ) → e a ≤ e b → nearer step most v a b ≡ a
  unfolding nearer
  nearer-first a b h = rw (le-ltb (e b) (e a) h)

  -- document 01: tries s - 1, s, s + 1 (none below 0) and takes the least error, the lowest level on ties
  pub least_error : Least step most v (quantised step most v)
  unfolding quantised
  least_error =
      ⊎_elim
      (λ (h : e s < e (s - 1)).
      rw (nearer-second (s - 1) s h)
      (⊎_elim
      (λ (k : e (s + 1) < e s). rw (nearer-second s (s + 1) k) (high (omega arith) k))
      (λ (k : e s ≤ e (s + 1)). rw (nearer-first s (s + 1) k) (mid h k))
      (lt_or_le (e (s + 1)) (e s))))
      (λ (h : e (s - 1) ≤ e s).
      rw (nearer-first (s - 1) s h)
      (⊎_elim
      (λ (k : e (s + 1) < e (s - 1)). rw (nearer-second (s - 1) (s + 1) k) (high k (omega arith)))
      (λ (k : e (s - 1) ≤ e (s + 1)). rw (nearer-first (s - 1) (s + 1) k) (low h k))
      (lt_or_le (e (s + 1)) (e (s - 1)))))
      (lt_or_le (e s) (e (s - 1)))

  -- and only one level is that
  pub least_only : (a b : ℕ) → Least step most v a → Least step most v b → a ≡ b
  least_only a b p q =
      ⊎_elim
      (λ (h : a < b). absurd (omega (arith, q.lowest a p.tried h, p.least b q.tried)))
      (λ (h : b ≤ a).
      ⊎_elim
      (λ (k : b < a). absurd (omega (arith, p.lowest b q.tried k, q.least a p.tried)))
      (λ (k : a ≤ b). omega arith)
      (lt_or_le b a))
      (lt_or_le a b)

  -- a level tried is at most s + 1
  pub quantised_le : quantised step most v ≤ start_of step v + 1
  quantised_le = three (λ (x : ℕ). x ≤ s + 1) s (quantised step most v) least_error.tried (omega arith) (omega arith) (omega arith)

-- levels of 12-bit values are small
pub level-small : (lossless : Bool) (step most v : ℕ) → 40 ≤ step → v ≤ 4095 → level_of lossless step most v ≤ 32767
unfolding level_of
level-small true step most v h k = omega arith
level-small false step most v h k =
    let p : 0 < 2 * step = omega arith in
    let q : 128 * v + step < 32766 * (2 * step) = omega arith in
    let r : start_of step v < 32766 = (div-lt_iff_lt-mul p).1 q in
    omega (arith, quantised_le step most v)

-- lossless levels in range are the values
pub level_lossless : (step most v : ℕ) → v ≤ most → level_of true step most v ≡ v
unfolding level_of
level_lossless step most v h = omega arith

-- ---- colours

-- the components of a packed colour
pub packed-parts : (y u v : ℕ) → y < 2 ^ 16 → u < 2 ^ 16 → v < 2 ^ 16 → (y_of (packed y u v) ≡ y) × (u_of (packed y u v) ≡ u) × (v_of (packed y u v) ≡ v)
packed-parts y u v h k l = (omega arith, omega arith, omega arith)

pub dist_self : (a : ℕ) → dist a a ≡ 0
unfolding dist
dist_self a = omega arith

gap-none : (a b : ℕ) → gap a b ≡ 0 → a ≡ b
gap-none a b h = omega arith

max_none : (a b c : ℕ) → max a (max b c) ≡ 0 → (a ≡ 0) × (b ≡ 0) × (c ≡ 0)
max_none a b c h = (omega arith, omega arith, omega arith)

-- colours at distance 0 have the same components
pub dist-none : (a b : ℕ) → dist a b ≡ 0 → (y_of a ≡ y_of b) × (u_of a ≡ u_of b) × (v_of a ≡ v_of b)
unfolding dist
dist-none a b h =
    let z = max_none (gap (y_of a) (y_of b)) (gap (u_of a) (u_of b)) (gap (v_of a) (v_of b)) h in
    (gap-none (y_of a) (y_of b) z.0, gap-none (u_of a) (u_of b) z.1, gap-none (v_of a) (v_of b) z.2)
