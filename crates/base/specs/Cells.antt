-- A list with k places from a on set to f of the place: what a loop over cells leaves.
use Rattle.std.specs.Prelude.{◌≡◌, List, map, length, set}
use Rattle.std.proofs.Math.Path.{refl, ap}
use Rattle.std.proofs.Common.{sym, ◌∙◌, add-zero, mul-le-mul, suc-mul, ext_get_or}
use Rattle.std.proofs.Math.Logic.{⊎_elim}
use Prim.Native.Nat.{ℕ, zero, suc, ◌+◌, ◌*◌, ◌-◌, ◌≤◌, ◌<◌}
use Rattle.std.proofs.Math.Numerals.{add-one}
use native.Mathlib.Omega.{arith}
use Rattle.std.proofs.Math.ListN.{get_or, length-set, get_or-map}
use Rattle.std.proofs.lemmas.List.{length-map, set_comm}
use Rattle.std.proofs.Math.Seq.{get_or-set_same, get_or-set_other}
use Rattle.base.specs.Pick.{lt_or_le}

unfoldable pub laid : {A : Type 0} → (ℕ → A) → List A → ℕ → ℕ → List A
laid f l a zero = l
laid f l a (suc k) = set (laid f l a k) (a + k) (f (a + k))

module _ {A : Type 0} (f : ℕ → A) (l : List A) (a : ℕ) where
  pub laid_none : laid f l a 0 ≡ l
  unfolding laid
  laid_none = refl

  pub laid_next : (k : ℕ) → laid f l a (k + 1) ≡ set (laid f l a k) (a + k) (f (a + k))
  unfolding laid
  laid_next k = rw add-one

  pub laid-length : (k : ℕ) → length (laid f l a k) ≡ length l
  unfolding laid
  laid-length zero = refl
  laid-length (suc k) = simp length-set (laid-length k)

  -- outside
  pub laid-before : (k p : ℕ) (d : A) → p < a → get_or (laid f l a k) p d ≡ get_or l p d
  unfolding laid
  laid-before zero p d h = refl
  laid-before (suc k) p d h = get_or-set_other (laid f l a k) (a + k) p (f (a + k)) d (λ e. omega arith) ∙ laid-before k p d h

  pub laid-after : (k p : ℕ) (d : A) → a + k ≤ p → get_or (laid f l a k) p d ≡ get_or l p d
  unfolding laid
  laid-after zero p d h = refl
  laid-after (suc k) p d h = get_or-set_other (laid f l a k) (a + k) p (f (a + k)) d (λ e. omega arith) ∙ laid-after k p d (omega arith)

  -- inside
  pub laid_in : (k p : ℕ) (d : A) → a ≤ p → p < a + k → a + k ≤ length l → get_or (laid f l a k) p d ≡ f p
  unfolding laid
  laid_in zero p d h g m = absurd (omega arith)
  laid_in (suc k) p d h g m =
      ⊎_elim
      (λ (lt : p < a + k).
      get_or-set_other (laid f l a k) (a + k) p (f (a + k)) d (λ e. omega arith) ∙ laid_in k p d h lt (omega arith))
      (λ (le : a + k ≤ p).
      let e : a + k ≡ p = omega arith in
      ap (λ (z : ℕ). get_or (set (laid f l a k) (a + k) (f (a + k))) z d) (sym e)
      ∙ get_or-set_same (laid f l a k) (a + k) (f (a + k)) d (omega (arith, laid-length k))
      ∙ ap f e)
      (lt_or_le p (a + k))

-- two stretches make one
pub laid-join : {A : Type 0} (f : ℕ → A) (l : List A) (a k : ℕ) → laid f (laid f l 0 a) a k ≡ laid f l 0 (a + k)
unfolding laid
laid-join f l a zero = let e : a ≡ a + 0 = omega arith in ap (laid f l 0) e
laid-join f l a (suc k) =
    let e : a + suc k ≡ suc (a + k) = omega arith in
    let z : 0 + (a + k) ≡ a + k = omega arith in
    rw (e, z, laid-join f l a k)

-- only the values in the stretch count
pub laid_same : {A : Type 0} (f g : ℕ → A) (l : List A) (a k : ℕ) → ((j : ℕ) → j < k → f (a + j) ≡ g (a + j)) → laid f l a k ≡ laid g l a k
unfolding laid
laid_same f g l a zero h = refl
laid_same f g l a (suc k) h =
    rw (laid_same f g l a k (λ j m. h j (omega arith)), h k (omega arith))

-- row b of h rows of w ends within them
pub row_fits : (b w h : ℕ) → b < h → b * w + w ≤ h * w
row_fits b w h m =
    let k : suc b ≤ h = m in
    let q : w ≤ w = omega arith in
    let p : suc b * w ≤ h * w = mul-le-mul k q in
    let e : suc b * w ≡ b * w + w = suc-mul b w in
    omega arith

-- one turn, and the end, of a loop that lays
pub laid-step : {A : Type 0} (f : ℕ → A) (l out : List A) (a k : ℕ) (v : A) → out ≡ laid f l a k → v ≡ f (a + k) → set out (a + k) v ≡ laid f l a (k + 1)
laid-step f l out a k v e h = rw (e, h) (sym (laid_next f l a k))

pub laid_done : {A : Type 0} (f : ℕ → A) (l out : List A) (a k n : ℕ) → out ≡ laid f l a k → k ≡ n → out ≡ laid f l a n
laid_done f l out a k n e h = e ∙ ap (laid f l a) h

-- one row more of a loop over rows
pub laid-row : {A : Type 0} (f : ℕ → A) (l out out' : List A) (a k : ℕ) → out ≡ laid f l 0 a → out' ≡ laid f out a k → out' ≡ laid f l 0 (a + k)
laid-row f l out out' a k e h = h ∙ rw e (laid-join f l a k)

-- rows of a block of at most 32 × 32 end within 1024 cells
pub row_small : (y size : ℕ) → y < size → size ≤ 32 → y * size + size ≤ 1024
row_small y size h k =
    let q : size * size ≤ 32 * 32 = mul-le-mul k k in
    omega (arith, row_fits y size size h)

-- the same from place 0 on
pub laid_on_lem : {A : Type 0} (f : ℕ → A) (l out : List A) (k : ℕ) (v : A) → out ≡ laid f l 0 k → v ≡ f k → set out k v ≡ laid f l 0 (k + 1)
laid_on_lem f l out k v e h = let z : 0 + k ≡ k = omega arith in rw z at (laid-step f l out 0 k v e (h ∙ ap f (sym z)))

-- a function of every element of a list
pub laid-map : {A B : Type 0} (f : A → B) (d : A) (l : List A) (z : List B) → length z ≡ length l → laid (λ (j : ℕ). f (get_or l j d)) z 0 (length l) ≡ map f l
laid-map f d l z h =
    ext_get_or (f d) (laid (λ (j : ℕ). f (get_or l j d)) z 0 (length l)) (map f l) (laid-length (λ (j : ℕ). f (get_or l j d)) z 0 (length l) ∙ h ∙ sym (length-map l f))
    (λ i m.
    laid_in (λ (j : ℕ). f (get_or l j d)) z 0 (length l) i (f d) (omega arith) (omega (arith, laid-length (λ (j : ℕ). f (get_or l j d)) z 0 (length l))) (omega arith)
    ∙ sym (get_or-map f l i d))

-- ---- the same from the end

pub laid-front : {A : Type 0} (f : ℕ → A) (l : List A) (a k : ℕ) → laid f l a (k + 1) ≡ set (laid f l (a + 1) k) a (f a)
unfolding laid
laid-front f l a zero = rw (add-zero a)
laid-front f l a (suc k) =
    let e : suc k + 1 ≡ suc (k + 1) = omega arith in
    let z : a + (k + 1) ≡ a + 1 + k = omega arith in
    rw (e, laid-front f l a k, z) (set_comm (laid f l (a + 1) k) a (a + 1 + k) (f a) (f (a + 1 + k)) (λ i. omega arith))

-- one turn of a loop that lays the places below n from the last on
pub laid-back : {A : Type 0} (f : ℕ → A) (l out : List A) (n p : ℕ) (v : A) → p < n → out ≡ laid f l (p + 1) (n - (p + 1)) → v ≡ f p → set out p v ≡ laid f l p (n - p)
laid-back f l out n p v h e w = let z : n - p ≡ n - (p + 1) + 1 = omega arith in rw (e, w, z) (sym (laid-front f l p (n - (p + 1))))

pub laid-empty : {A : Type 0} (f : ℕ → A) (l : List A) (a n : ℕ) → l ≡ laid f l a (n - n)
unfolding laid
laid-empty f l a n = let z : n - n ≡ 0 = omega arith in rw z
