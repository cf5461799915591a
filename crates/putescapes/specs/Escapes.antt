-- The escape levels in the code's numbers, and that they are the block's.
use Rattle.std.specs.Prelude.{◌≡◌, refl, Bool, true, false, List, [], ◌∷◌, ◌++◌, map, ℕ, suc, ◌+◌, ◌≤◌, ◌<◌, eqb, length, take, drop, get_or}
use Rattle.std.proofs.Math.Numerals.{add-one}
use Rattle.base.specs.Codes.{each_bins}
use Rattle.base.specs.Counted as C
use Rattle.base.specs.Laid.{Laid, laid_then}
use Rattle.base.specs.Pick.{pick, either}
use Rattle.due.specs.Due.{due_at}
use Rattle.model.specs.declared.Levels as D
use Rattle.model.specs.declared.PaletteCu.{PaletteCu}
use Rattle.model.specs.Whole.{no_levels}
use Rattle.syntax.specs.Block.{Call, Palette, colours, chroma_due, chroma_depth, dues, level_bins, levels_bins}

-- the level of component k
unfoldable pub level_of : ℕ → D.Levels → ℕ
level_of k v = pick (eqb k 0) v.y (pick (eqb k 1) v.cb v.cr)

-- the levels, component by component
unfoldable pub levels_of : ℕ → ℕ → Bool → Bool → ℕ → ℕ → ℕ → List ℕ → List D.Levels → List ℕ
levels_of format size turned lossless luma chroma e cells vs =
    each_bins (level_bins lossless luma) (dues (due_at format size turned 0) e 0 cells) (map (level_of 0) vs)
    ++ (each_bins (level_bins lossless (pick (eqb format 0) 0 chroma)) (dues (due_at format size turned 1) e 0 cells) (map (level_of 1) vs)
    ++ each_bins (level_bins lossless (pick (eqb format 0) 0 chroma)) (dues (due_at format size turned 2) e 0 cells) (map (level_of 2) vs))

-- a block's, of its first n cells, where it has escapes
abbrev pub tail_of : PaletteCu → ℕ → List ℕ
tail_of cu n = pick cu.escape_present (levels_of cu.chroma_idc cu.size cu.transpose cu.lossless cu.bd_luma cu.bd_chroma cu.palette_size (take n cu.indices) (take n cu.escapes)) []

-- those of component k from cell i on
abbrev pub levels_from : PaletteCu → ℕ → ℕ → ℕ → ℕ → List ℕ
levels_from cu k depth n i = each_bins (level_bins cu.lossless depth) (dues (due_at cu.chroma_idc cu.size cu.transpose k) cu.palette_size i (drop i (take n cu.indices))) (map (level_of k) (drop i (take n cu.escapes)))

-- that of component k at cell i, which escapes
abbrev pub cell_bins : PaletteCu → ℕ → ℕ → ℕ → List ℕ
cell_bins cu k depth i = level_bins cu.lossless depth (due_at cu.chroma_idc cu.size cu.transpose k i) (level_of k (get_or cu.escapes i no_levels))

module _ (lossless : Bool) (depth : ℕ) (at : ℕ → Bool) (e : ℕ) (f : D.Levels → ℕ) (xs : List ℕ) (vs : List D.Levels) (n : ℕ) (o : n ≤ length xs) (w : n ≤ length vs) where
  pub levels-turn : (i : ℕ) → i < n →
      each_bins (level_bins lossless depth) (dues at e i (drop i (take n xs))) (map f (drop i (take n vs)))
      ≡ level_bins lossless depth (pick (eqb (get_or xs i 0) e) (at i) false) (f (get_or vs i no_levels)) ++ each_bins (level_bins lossless depth) (dues at e (i + 1) (drop (i + 1) (take n xs))) (map f (drop (i + 1) (take n vs)))
  unfolding each_bins dues
  levels-turn i h = rw (C.read xs n i 0 h o, C.read vs n i no_levels h w, add-one i)

  pub levels-end : (i : ℕ) → n ≤ i → each_bins (level_bins lossless depth) (dues at e i (drop i (take n xs))) (map f (drop i (take n vs))) ≡ []
  unfolding each_bins dues
  levels-end i h = rw (C.end xs n i h o)

pub levels-laid : {l₀ l₁ l₂ l₃ : List ℕ} {at p q r : ℕ} (format size : ℕ) (turned lossless : Bool) (luma chroma d e : ℕ) (cells : List ℕ) (vs : List D.Levels) →
    d ≡ pick (eqb format 0) 0 chroma →
    Laid l₀ at (each_bins (level_bins lossless luma) (dues (due_at format size turned 0) e 0 cells) (map (level_of 0) vs)) p l₁ →
    Laid l₁ p (each_bins (level_bins lossless d) (dues (due_at format size turned 1) e 0 cells) (map (level_of 1) vs)) q l₂ →
    Laid l₂ q (each_bins (level_bins lossless d) (dues (due_at format size turned 2) e 0 cells) (map (level_of 2) vs)) r l₃ →
    Laid l₀ at (levels_of format size turned lossless luma chroma e cells vs) r l₃
unfolding levels_of
levels-laid format size turned lossless luma chroma d e cells vs h a b c = rw (← h) (laid_then a (laid_then b c))

-- ---- the block's

-- nothing is due, nothing is sent
none_due : (lossless : Bool) (depth e i : ℕ) (xs vs : List ℕ) → each_bins (level_bins lossless depth) (dues (λ i. false) e i xs) vs ≡ []
unfolding each_bins dues level_bins
none_due lossless depth e i [] vs = refl
none_due lossless depth e i (x ∷ xs) [] = refl
none_due lossless depth e i (x ∷ xs) (v ∷ vs) = either (eqb x e) (λ t. rw t (none_due lossless depth e (suc i) xs vs)) (λ t. rw t (none_due lossless depth e (suc i) xs vs))

pub levels_sent_lem : (c : Call) (escape turned : Bool) (e : ℕ) (cells : List ℕ) (vs : List D.Levels) →
    each_bins (level_bins c.lossless c.luma) (dues (λ i. escape) e 0 cells) (map (λ v. v.y) vs)
    ++ (each_bins (level_bins c.lossless (chroma_depth c)) (dues (λ i. pick escape (chroma_due c turned i) false) e 0 cells) (map (λ v. v.cb) vs)
    ++ each_bins (level_bins c.lossless (chroma_depth c)) (dues (λ i. pick escape (chroma_due c turned i) false) e 0 cells) (map (λ v. v.cr) vs))
    ≡ pick escape (levels_of c.format c.size turned c.lossless c.luma c.chroma e cells vs) []
unfolding levels_of due_at level_of chroma_due
levels_sent_lem c true turned e cells vs = refl
levels_sent_lem c false turned e cells vs =
    rw (none_due c.lossless c.luma e 0 cells (map (λ v. v.y) vs), none_due c.lossless (chroma_depth c) e 0 cells (map (λ v. v.cb) vs), none_due c.lossless (chroma_depth c) e 0 cells (map (λ v. v.cr) vs))

-- the definition's levels are these
pub levels_are : (c : Call) (x : Palette) (turned : Bool) (e : ℕ) (cells : List ℕ) (vs : List D.Levels) → colours x ≡ e →
    levels_bins c x turned cells (record { y = map (λ v. v.y) vs; cb = map (λ v. v.cb) vs; cr = map (λ v. v.cr) vs })
    ≡ pick x.escape (levels_of c.format c.size turned c.lossless c.luma c.chroma e cells vs) []
unfolding levels_bins
levels_are c x turned e cells vs h = rw h (levels_sent_lem c x.escape turned e cells vs)
