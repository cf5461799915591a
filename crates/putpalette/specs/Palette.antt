-- The palette's bins in the code's numbers, the components of an entry, and what a block's list is asked.
use Rattle.std.specs.Prelude.{◌≡◌, refl, Bool, List, [], ◌++◌, eqb, ltb, length, take, drop, get_or, replicate}
use Rattle.std.proofs.Math.Path.{ap}
use Rattle.std.proofs.Common.{◌∙◌, add-zero, length-drop, length-take-le}
use Prim.Native.Nat.{ℕ, zero, suc, ◌+◌, ◌*◌, ◌-◌, ◌≤◌, ◌<◌}
use native.Mathlib.Omega.{arith}
use Rattle.std.proofs.Math.ListN.{length-replicate}
use Rattle.base.specs.Cells.{laid-length}
use Rattle.base.specs.Codes.{each_bins, when_bins}
use Rattle.base.specs.Counted as C
use Rattle.base.specs.Laid.{Laid, laid_then}
use Rattle.base.specs.Pick.{pick}
use Rattle.flat.specs.Flat.{number, byte, color_at, block_of}
use Rattle.flat.specs.FlatLaws.{each_at_lem}
use Rattle.model.specs.declared.PaletteCu.{PaletteCu}
use Rattle.model.specs.Domain.{no_color}
use Rattle.h265.specs.Reuse.{trues, reuse_bins}
use Rattle.h265.specs.Strings.{bin_of, bits}
use Rattle.syntax.specs.Block.{Entry, Call, chroma_depth, column, signalled_bins, entries_bins, palette_bins}
use Rattle.syntax.specs.Records.{call_of}

-- component k of an entry
unfoldable pub part : ℕ → Entry → ℕ
part k e = pick (eqb k 0) e.y (pick (eqb k 1) e.cb e.cr)

-- the palette's bins
abbrev pub head_of : PaletteCu → List ℕ
head_of cu = palette_bins (call_of 64 [] cu) (record { flags = take cu.pred_size cu.reused; fresh = drop (cu.palette_size - cu.num_signaled) (take cu.palette_size cu.palette); escape = cu.escape_present })

-- what the writer of a palette asks of a block's list
pub record Headed (b : List ℕ) : Type 0 where
  pub block : 4432 ≤ length b
  pub luma : byte (number b 2) ≤ 12
  pub chroma : byte (number b 3) ≤ 12
  pub entries : number b 5 ≤ 64
  pub flags : number b 6 ≤ 128
  pub signaled : number b 7 ≤ number b 5
  pub reused : number b 5 - number b 7 ≡ trues (take (number b 6) (block_of b).reused)

-- ---- the numbers of an entry

component : (b : List ℕ) (p k : ℕ) → k ≤ 2 → part k (color_at b p) ≡ number b (p + k)
unfolding part color_at
component b p zero h = rw (add-zero p)
component b p (suc zero) h = refl
component b p (suc (suc zero)) h = refl
component b p (suc (suc (suc k))) h = absurd (omega arith)

module _ (b : List ℕ) where
  pub palette_long : length (block_of b).palette ≡ 64
  unfolding block_of
  palette_long = laid-length _ _ 0 64 ∙ length-replicate 64 no_color

  part_at : (k i : ℕ) → k ≤ 2 → i < 64 → part k (get_or (block_of b).palette i no_color) ≡ number b (16 + 3 * i + k)
  unfolding block_of
  part_at k i o h = ap (part k) (each_at_lem no_color no_color 64 (λ (i : ℕ). color_at b (16 + 3 * i)) i h) ∙ component b (16 + 3 * i) k o

-- component k of the entries from i up to `to`
module _ (b : List ℕ) (to k depth : ℕ) (o : to ≤ 64) (h : k ≤ 2) where
  pub column-turn : (i : ℕ) → i < to →
      each_bins bits (replicate (to - i) depth) (column (part k) (drop i (take to (block_of b).palette)))
      ≡ bits depth (number b (16 + 3 * i + k)) ++ each_bins bits (replicate (to - (i + 1)) depth) (column (part k) (drop (i + 1) (take to (block_of b).palette)))
  unfolding each_bins column
  column-turn i m =
      let e : to - i ≡ suc (to - (i + 1)) = omega arith in
      rw (e, C.read (block_of b).palette to i no_color m (omega (arith, palette_long b)), part_at b k i h (omega arith))

  pub column-end : (i : ℕ) → to ≤ i → each_bins bits (replicate (to - i) depth) (column (part k) (drop i (take to (block_of b).palette))) ≡ []
  unfolding each_bins
  column-end i m = let e : to - i ≡ 0 = omega arith in rw e

-- ---- the parts in their order

pub entries-laid : {l₀ l₁ l₂ l₃ : List ℕ} {at p q r : ℕ} (c : Call) (d new : ℕ) (es : List Entry) →
    d ≡ chroma_depth c →
    Laid l₀ at (each_bins bits (replicate new c.luma) (column (part 0) es)) p l₁ →
    Laid l₁ p (each_bins bits (replicate new d) (column (part 1) es)) q l₂ →
    Laid l₂ q (each_bins bits (replicate new d) (column (part 2) es)) r l₃ →
    Laid l₀ at (entries_bins c new es) r l₃
unfolding entries_bins part
entries-laid c d new es e a b f = rw (← e) (laid_then a (laid_then b f))

pub palette_laid : {l₀ l₁ l₂ l₃ l₄ : List ℕ} {at p q r t : ℕ} (c : Call) (fs : List Bool) (xs : List Entry) (reused size : ℕ) (escape : Bool) →
    reused ≡ trues fs →
    reused ≤ size →
    size ≤ length xs →
    Laid l₀ at (reuse_bins c.limit fs) p l₁ →
    Laid l₁ p (signalled_bins c.limit reused (size - reused)) q l₂ →
    Laid l₂ q (entries_bins c (size - reused) (drop reused (take size xs))) r l₃ →
    Laid l₃ r (when_bins (ltb 0 size) (bin_of 0) escape) t l₄ →
    Laid l₀ at (palette_bins c (record { flags = fs; fresh = drop reused (take size xs); escape = escape })) t l₄
unfolding palette_bins
palette_laid c fs xs reused size escape e h o a b d f =
    let n : length (drop reused (take size xs)) ≡ size - reused = omega (arith, length-drop reused (take size xs), length-take-le size xs o) in
    let s : reused + (size - reused) ≡ size = omega arith in
    rw (← e, n, s) (laid_then a (laid_then b (laid_then d f)))
