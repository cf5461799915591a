-- The cells of a block's list of numbers that escape, and the bins of their levels.
use Rattle.std.specs.Prelude.{◌≡◌, refl, Bool, true, false, not, List, [], ◌++◌, ℕ, zero, suc, ◌+◌, ◌*◌, ◌-◌, ◌≤◌, ◌<◌, eqb, length, get_or, take, drop}
use Rattle.std.proofs.Math.Path.{ap, sym}
use Rattle.std.proofs.Common.{◌∙◌, ⊎_elim, add-zero, arith}
use Rattle.std.proofs.Math.Nat.{min-eq_left, min-eq_right}
use Rattle.std.proofs.Math.ListN.{length-replicate}
use Rattle.std.proofs.lemmas.List.{get_or-take, get_or-drop}
use borrow.Author.Tests.{eq-eqb, ne_eqb, eqb-false, not-true}
use Rattle.base.specs.Cells.{laid-length}
use Rattle.base.specs.Pick.{pick, lt_or_le}
use Rattle.base.specs.Tests.{up_to, up_to-at, up_to-same}
use Rattle.flat.specs.Flat.{number, byte, levels_at, block_of}
use Rattle.flat.specs.FlatLaws.{each_at_lem}
use Rattle.due.specs.Due.{due_at}
use Rattle.model.specs.Whole.{no_levels}
use Rattle.syntax.specs.Block.{level_bins}
use Rattle.putescapes.specs.Escapes.{level_of, cell_bins, levels_from, levels-turn, levels-end}

-- what the writer of levels asks of a block's list
pub record Sized (b : List ℕ) : Type 0 where
  pub block : 4432 ≤ length b
  pub least : 1 ≤ number b 0
  pub entries : number b 5 ≤ 64
  pub luma : byte (number b 2) ≤ 12
  pub chroma : byte (number b 3) ≤ 12

-- none of the cells from i up to j escapes
abbrev pub Quiet : List ℕ → ℕ → ℕ → Type 0
Quiet b i j = (c : ℕ) → i ≤ c → c < j → number b (336 + c) ≡ number b 5 → ⊥

-- r is the first cell from i on that escapes, or n
pub record Next (b : List ℕ) (i n r : ℕ) : Type 0 where
  pub from : i ≤ r
  pub most : r ≤ n
  pub none : Quiet b i r
  pub here : r < n → number b (336 + r) ≡ number b 5

pub quiet_tested : (b : List ℕ) (i : ℕ) → up_to 16 (λ j. not (eqb (number b (336 + i + j)) (number b 5))) ≡ true → Quiet b i (i + 16)
quiet_tested b i e c h m q =
    let j : c - i < 16 = omega arith in
    let z : 336 + i + (c - i) ≡ 336 + c = omega arith in
    eqb-false (number b (336 + c)) (number b 5) (rw z at (not-true (eqb (number b (336 + i + (c - i))) (number b 5)) (up_to-at (λ j. not (eqb (number b (336 + i + j)) (number b 5))) 16 e (c - i) j))) q

-- the same of a slice of 16 cells
pub quiet_sliced : (b : List ℕ) (i n k : ℕ) → n ≡ 16 → k ≡ 16 → up_to k (λ j. not (eqb (number (take n (drop (336 + i) b)) j) (number b 5))) ≡ true → Quiet b i (i + 16)
quiet_sliced b i n k e f h =
    let f₁ : ℕ → Bool = λ j. not (eqb (number (take n (drop (336 + i) b)) j) (number b 5)) in
    let f₂ : ℕ → Bool = λ j. not (eqb (number b (336 + i + j)) (number b 5)) in
    quiet_tested b i (sym (up_to-same 16 f₁ f₂ (λ j l. ap (λ (x : ℕ). not (eqb x (number b 5))) (get_or-take n (drop (336 + i) b) j 0 (omega arith) ∙ get_or-drop (336 + i) b j 0))) ∙ (rw f at h))

pub quiet_join : (b : List ℕ) (i j k : ℕ) → Quiet b i j → Quiet b j k → Quiet b i k
quiet_join b i j k p q c h m e = ⊎_elim (λ (l : c < j). p c h l e) (λ (l : j ≤ c). q c l m e) (lt_or_le c j)

pub quiet_on : (b : List ℕ) (i j : ℕ) → Quiet b i j → (number b (336 + j) ≡ number b 5 → ⊥) → Quiet b i (j + 1)
quiet_on b i j p f c h m e =
    ⊎_elim (λ (l : c < j). p c h l e) (λ (l : j ≤ c). let z : c ≡ j = omega arith in f (rw z at e)) (lt_or_le c j)

-- ---- the numbers of a cell

pub byte-own : (x : ℕ) → byte x ≤ 64 → x ≡ byte x
byte-own x h = ⊎_elim (λ (l : x < 255). sym (min-eq_left (omega arith))) (λ (l : 255 ≤ x). let e : byte x ≡ 255 = min-eq_right l in absurd (omega arith)) (lt_or_le x 255)

component : (b : List ℕ) (p k : ℕ) → k ≤ 2 → level_of k (levels_at b p) ≡ number b (p + k)
unfolding level_of levels_at
component b p zero h = rw (add-zero p)
component b p (suc zero) h = refl
component b p (suc (suc zero)) h = refl
component b p (suc (suc (suc k))) h = absurd (omega arith)

module _ (b : List ℕ) where
  indices-long : length (block_of b).indices ≡ 1024
  unfolding block_of
  indices-long = laid-length _ _ 0 1024 ∙ length-replicate {A = ℕ} 1024 0

  escapes-long : length (block_of b).escapes ≡ 1024
  unfolding block_of
  escapes-long = laid-length _ _ 0 1024 ∙ length-replicate 1024 no_levels

  index-at : (i : ℕ) → i < 1024 → get_or (block_of b).indices i 0 ≡ byte (number b (336 + i))
  unfolding block_of
  index-at i h = each_at_lem 0 0 1024 (λ (i : ℕ). byte (number b (336 + i))) i h

  pub level-at : (k i : ℕ) → k ≤ 2 → i < 1024 → level_of k (get_or (block_of b).escapes i no_levels) ≡ number b (1360 + 3 * i + k)
  unfolding block_of
  level-at k i o h = ap (level_of k) (each_at_lem no_levels no_levels 1024 (λ (i : ℕ). levels_at b (1360 + 3 * i)) i h) ∙ component b (1360 + 3 * i) k o

-- ---- the bins of component k from a cell on

module _ (b : List ℕ) (k depth n : ℕ) (h : n ≤ 1024) (o : number b 5 ≤ 64) where
  abbrev from : ℕ → List ℕ
  from i = levels_from (block_of b) k depth n i

  turn : (i : ℕ) → i < n → from i ≡ level_bins (block_of b).lossless depth (pick (eqb (get_or (block_of b).indices i 0) (block_of b).palette_size) (due_at (block_of b).chroma_idc (block_of b).size (block_of b).transpose k i) false) (level_of k (get_or (block_of b).escapes i no_levels)) ++ from (i + 1)
  turn i m = levels-turn (block_of b).lossless depth (due_at (block_of b).chroma_idc (block_of b).size (block_of b).transpose k) (block_of b).palette_size (level_of k) (block_of b).indices (block_of b).escapes n (omega (arith, indices-long b)) (omega (arith, escapes-long b)) i m

  is : (i : ℕ) → i < n → number b (336 + i) ≡ number b 5 → eqb (get_or (block_of b).indices i 0) (block_of b).palette_size ≡ true
  unfolding block_of
  is i m e = eq-eqb _ _ (index-at b i (omega arith) ∙ min-eq_left (omega arith) ∙ e)

  not_is : (i : ℕ) → i < n → (number b (336 + i) ≡ number b 5 → ⊥) → eqb (get_or (block_of b).indices i 0) (block_of b).palette_size ≡ false
  unfolding block_of
  not_is i m f = ne_eqb _ _ (λ q. let e : byte (number b (336 + i)) ≡ number b 5 = sym (index-at b i (omega arith)) ∙ q in f (byte-own (number b (336 + i)) (omega arith) ∙ e))

  pub levels-here : (i : ℕ) → i < n → number b (336 + i) ≡ number b 5 → from i ≡ cell_bins (block_of b) k depth i ++ from (i + 1)
  levels-here i m e = rw (is i m e) at (turn i m)

  past : (i : ℕ) → i < n → (number b (336 + i) ≡ number b 5 → ⊥) → from i ≡ from (i + 1)
  unfolding level_bins
  past i m f = rw (not_is i m f) at (turn i m)

  skip : (d i : ℕ) → i + d ≤ n → Quiet b i (i + d) → from i ≡ from (i + d)
  skip zero i m q = rw (add-zero i)
  skip (suc d) i m q =
      let z : i + 1 + d ≡ i + suc d = omega arith in
      past i (omega arith) (q i (omega arith) (omega arith)) ∙ skip d (i + 1) (omega arith) (λ c l t. q c (omega arith) (omega arith)) ∙ ap from z

  -- cells none of which escapes have none
  pub levels-past : (i j : ℕ) → i ≤ j → j ≤ n → Quiet b i j → from i ≡ from j
  levels-past i j m t q =
      let z : i + (j - i) ≡ j = omega arith in
      skip (j - i) i (omega arith) (rw z q) ∙ ap from z

  pub levels-none : (i : ℕ) → n ≤ i → from i ≡ []
  levels-none i m = levels-end (block_of b).lossless depth (due_at (block_of b).chroma_idc (block_of b).size (block_of b).transpose k) (block_of b).palette_size (level_of k) (block_of b).indices (block_of b).escapes n (omega (arith, indices-long b)) (omega (arith, escapes-long b)) i m
