-- The levels of cells in a block's list: three numbers to a cell, from place 1360 on.
use Rattle.std.specs.Prelude.{◌≡◌, refl, List, [], ◌∷◌, ℕ, zero, suc, ◌+◌, ◌*◌, ◌≤◌, ◌<◌, length, get_or, set, drop}
use Rattle.std.proofs.Common.{ap, ◌∙◌, add-zero, arith, length-set, set-set}
use Rattle.std.proofs.lemmas.List.{length-replicate, set_comm, set-get_or}
use Rattle.std.proofs.lemmas.List.Edits.{sets}
use Rattle.base.specs.Cells.{laid-length}
use Rattle.flat.specs.Flat.{levels_at, levels_of, block_of}
use Rattle.flat.specs.FlatLaws.{each_at_lem, levels-length}
use Rattle.layflat.specs.Rest.{levels-next, levels-end}
use Rattle.model.specs.declared.Levels.{Levels}
use Rattle.model.specs.Whole.{no_levels}

-- ---- runs of stores

-- a store before a run of them
sets_past : (xs m : List ℕ) (a i v : ℕ) → i < a → set (sets m a xs) i v ≡ sets (set m i v) a xs
sets_past [] m a i v h = refl
sets_past (x ∷ xs) m a i v h =
    sets_past xs (set m a x) (suc a) i v (omega arith) ∙ ap (λ (l : List ℕ). sets l (suc a) xs) (set_comm m a i x v (λ e. omega arith))

-- a store within a run of them
sets_within : (xs l : List ℕ) (a k v : ℕ) → k < length xs → set (sets l a xs) (a + k) v ≡ sets l a (set xs k v)
sets_within [] l a k v h = absurd (omega arith)
sets_within (x ∷ xs) l a zero v h =
    rw (add-zero a) (sets_past xs (set l a x) (suc a) a v (omega arith) ∙ ap (λ (m : List ℕ). sets m (suc a) xs) (set-set l a x v))
sets_within (x ∷ xs) l a (suc k) v h =
    let e : a + suc k ≡ suc a + k = omega arith in
    rw e (sets_within xs (set l a x) (suc a) k v (omega arith))

-- of two runs the second ends before the first
pub sets_swap : (ys xs l : List ℕ) (i p : ℕ) → i + length ys ≤ p → sets (sets l p xs) i ys ≡ sets (sets l i ys) p xs
sets_swap [] xs l i p h = refl
sets_swap (y ∷ ys) xs l i p h =
    ap (λ (m : List ℕ). sets m (suc i) ys) (sets_past xs l p i y (omega arith)) ∙ sets_swap ys xs (set l i y) (suc i) p (omega arith)

-- ---- levels

abbrev pub three_at : List ℕ → ℕ → Levels → List ℕ
three_at l i v = set (set (set l (1360 + 3 * i) v.y) (1360 + 3 * i + 1) v.cb) (1360 + 3 * i + 2) v.cr

abbrev pub with_levels : List ℕ → List Levels → List ℕ
with_levels l ls = sets l 1360 (levels_of ls)

thrice : (k : ℕ) → 3 * suc k ≡ suc (suc (suc (3 * k)))
thrice k = omega arith

thrice-on : (k j : ℕ) → 3 * suc k + j ≡ suc (suc (suc (3 * k + j)))
thrice-on k j = omega arith

three-set : (ls : List Levels) (k : ℕ) (v : Levels) → set (set (set (levels_of ls) (3 * k) v.y) (3 * k + 1) v.cb) (3 * k + 2) v.cr ≡ levels_of (set ls k v)
unfolding levels_of
three-set [] k v = refl
three-set (c ∷ cs) zero v = refl
three-set (c ∷ cs) (suc k) v = rw (thrice-on k 1, thrice-on k 2, thrice k) (ap (λ (l : List ℕ). c.y ∷ c.cb ∷ c.cr ∷ l) (three-set cs k v))

pub levels-set : (l : List ℕ) (ls : List Levels) (k : ℕ) (v : Levels) → k < length ls → three_at (with_levels l ls) k v ≡ with_levels l (set ls k v)
levels-set l ls k v h =
    let n = levels-length ls in
    let x = set (levels_of ls) (3 * k) v.y in
    let y = set x (3 * k + 1) v.cb in
    let m : length x ≡ length (levels_of ls) = length-set (levels_of ls) (3 * k) v.y in
    let o : length y ≡ length x = length-set x (3 * k + 1) v.cb in
    let a : 1360 + 3 * k + 1 ≡ 1360 + (3 * k + 1) = omega arith in
    let b : 1360 + 3 * k + 2 ≡ 1360 + (3 * k + 2) = omega arith in
    rw (
      a,
      b,
      sets_within (levels_of ls) l 1360 (3 * k) v.y (omega (arith, n)),
      sets_within x l 1360 (3 * k + 1) v.cb (omega (arith, n, m)),
      sets_within y l 1360 (3 * k + 2) v.cr (omega (arith, n, m, o)),
      three-set ls k v,
    )

-- ---- a list's own levels

pub escapes-long : (l : List ℕ) → length (block_of l).escapes ≡ 1024
unfolding block_of
escapes-long l = laid-length _ _ 0 1024 ∙ length-replicate 1024 no_levels

escape_at : (l : List ℕ) (i : ℕ) → i < 1024 → get_or (block_of l).escapes i no_levels ≡ levels_at l (1360 + 3 * i)
unfolding block_of
escape_at l i h = each_at_lem no_levels no_levels 1024 (λ (j : ℕ). levels_at l (1360 + 3 * j)) i h

three-own : (l r : List ℕ) (p q : ℕ) → q ≡ p + 3 → sets l p (get_or l p 0 ∷ get_or l (p + 1) 0 ∷ get_or l (p + 2) 0 ∷ r) ≡ sets l q r
three-own l r p q e =
    let a : p + 1 ≡ suc p = omega arith in
    let b : p + 2 ≡ suc (suc p) = omega arith in
    let c : q ≡ suc (suc (suc p)) = omega arith in
    rw (a, b, c, set-get_or l p 0, set-get_or l (suc p) 0, set-get_or l (suc (suc p)) 0)

own-from : (l : List ℕ) (f i : ℕ) → i + f ≡ 1024 → sets l (1360 + 3 * i) (levels_of (drop i (block_of l).escapes)) ≡ l
unfolding levels_at
own-from l zero i h = rw (levels-end (block_of l).escapes i (omega (arith, escapes-long l)))
own-from l (suc f) i h =
    let k : i < 1024 = omega arith in
    let q : 1360 + 3 * (i + 1) ≡ 1360 + 3 * i + 3 = omega arith in
    rw (levels-next (block_of l).escapes i (omega (arith, escapes-long l)), escape_at l i k)
    (three-own l (levels_of (drop (i + 1) (block_of l).escapes)) (1360 + 3 * i) (1360 + 3 * (i + 1)) q ∙ own-from l f (i + 1) (omega arith))

pub own-levels : (l : List ℕ) → with_levels l (block_of l).escapes ≡ l
own-levels l = own-from l 1024 0 refl
