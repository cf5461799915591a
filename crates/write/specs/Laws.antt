-- The writer's answers, and the block's bins from its three parts.
use Rattle.std.specs.Prelude.{◌≡◌, Bool, List, [], ◌∷◌, ℕ, ◌+◌, ◌*◌, ◌-◌, ◌≤◌, ◌<◌, leb, take}
use Rattle.std.proofs.Common.{sym, ◌∙◌, mul-le-mul, length-drop, length-take-le}
use Rattle.std.proofs.Math.Bool.{true, false}
use native.Mathlib.Omega.{arith}
use Rattle.std.proofs.Math.ListN.{length}
use borrow.Author.Tests.{lt-ltb, le-leb, lt-leb, leb-true, ne_eqb}
use Rattle.base.specs.Laid.{Laid, laid_then}
use Rattle.base.specs.Refusals.{Numbered, refused-early, refused-late}
use Rattle.base.specs.Tests.{refusal, both}
use Rattle.model.specs.ConfigLaws.{depth-bounds}
use Rattle.model.specs.declared.PaletteCu.{PaletteCu}
use Rattle.model.specs.Whole.{max_index, block_size_in, holds}
use Rattle.model.specs.WholeLaws.{whole}
use Rattle.h265.specs.Reuse.{trues}
use Rattle.h265.specs.Strings.{bit}
use Rattle.syntax.specs.Block.{colours, palette_of, map_bins, block_bins}
use Rattle.syntax.specs.MapLaws.{CodedOk}
use Rattle.syntax.proofs.Ready.{ready}
use Rattle.syntax.specs.Records.{call_of, block_of}
use Rattle.syntax.specs.Runs.{Run}
use Rattle.syntax.specs.Test.{replays}
use Rattle.putescapes.specs.Escapes.{tail_of, levels_are}
use Rattle.putpalette.specs.Palette.{head_of}
use Rattle.write.specs.Written.{Written}
use Rattle.write.specs.Write.{bins_of, runs_hold, write_refusal, write_of, list_after}

module _ (cu : PaletteCu) (runs : List Run) (count : ℕ) where
  -- ---- the test for 8

  pub runs_ignored : max_index cu ≡ 0 → true ≡ runs_hold cu runs count
  unfolding runs_hold
  runs_ignored e = rw e

  pub runs-many : 0 < max_index cu → 1024 < count → false ≡ runs_hold cu runs count
  unfolding runs_hold
  runs-many o h = rw (lt-ltb 0 (max_index cu) o, lt-leb count 1024 h)

  pub runs_tested : (t : Bool) → 0 < max_index cu → count ≤ 1024 → t ≡ replays cu.size (cu.size * cu.size) (max_index cu) (take (cu.size * cu.size) cu.indices) 0 false (take count runs) → t ≡ runs_hold cu runs count
  unfolding runs_hold
  runs_tested t o h e = rw (lt-ltb 0 (max_index cu) o, le-leb count 1024 h, ← e) (sym (Rattle.base.specs.Tests.pick_test t))

  pub runs-ready : (m : ℕ) (turned : Bool) → m ≡ max_index cu → 1 ≤ cu.size → runs_hold cu runs count ≡ true → 1 ≤ m → (count ≤ 1024) × CodedOk cu.size (cu.size * cu.size) m (record { turned = turned; runs = take count runs })
  unfolding runs_hold
  runs-ready m turned e s t o =
      let a = both (leb count 1024) _ (rw (lt-ltb 0 (max_index cu) (omega arith)) at t) in
      let b = both (replays cu.size (cu.size * cu.size) (max_index cu) (take (cu.size * cu.size) cu.indices) 0 false (take count runs)) true a.1 in
      (leb-true _ _ a.0, rw e (ready cu.size (cu.size * cu.size) (max_index cu) (take (cu.size * cu.size) cu.indices) turned (take count runs) s (mul-le-mul s s) b.0))

-- ---- what a block that holds together gives its writer

pub record Fit (cu : PaletteCu) : Type 0 where
  pub least : 1 ≤ cu.size
  pub small : cu.size ≤ 32
  pub cells : 1 ≤ cu.size * cu.size
  pub entries : cu.palette_size ≤ 64
  pub flags : cu.pred_size ≤ 128
  pub signaled : cu.num_signaled ≤ cu.palette_size
  pub reused : cu.palette_size - cu.num_signaled ≡ trues (take cu.pred_size cu.reused)
  pub luma : cu.bd_luma ≤ 12
  pub chroma : cu.bd_chroma ≤ 12

pub fit : (cu : PaletteCu) → holds 64 cu ≡ true → Fit cu
fit cu e =
    let w = whole 64 cu e in
    record {
      least = w.least;
      small = w.small;
      cells = mul-le-mul w.least w.least;
      entries = w.entries;
      flags = w.flags;
      signaled = omega (arith, w.counts);
      reused = omega (arith, w.counts);
      luma = (depth-bounds cu.bd_luma w.luma).1;
      chroma = (depth-bounds cu.bd_chroma w.chroma).1;
    }

-- ---- the three parts

the_colours : (cu : PaletteCu) → Fit cu → length cu.palette ≡ 64 → colours (palette_of (block_of cu)) ≡ cu.palette_size
the_colours cu f k =
    omega (arith, f.reused, f.signaled, length-drop (trues (take cu.pred_size cu.reused)) (take cu.palette_size cu.palette), length-take-le cu.palette_size cu.palette (omega (arith, f.entries)))

pub block_laid : {l₀ l₁ l₂ l₃ : List ℕ} {p q r : ℕ} (cu : PaletteCu) (rs : List Run) (m : ℕ) → Fit cu → length cu.palette ≡ 64 →
    m ≡ cu.palette_size + bit cu.escape_present - 1 →
    Laid l₀ 0 (head_of cu) p l₁ →
    Laid l₁ p (map_bins cu.size (cu.size * cu.size) m cu.escape_present (record { turned = cu.transpose; runs = rs })) q l₂ →
    Laid l₂ q (tail_of cu (cu.size * cu.size)) r l₃ →
    Laid l₀ 0 (bins_of cu rs) r l₃
unfolding bins_of block_bins
block_laid {l₀} {l₁} {l₂} {l₃} {p} {q} {r} cu rs m f k e a b d =
    let n = the_colours cu f k in
    let v = levels_are (call_of 64 [] cu) (palette_of (block_of cu)) cu.transpose cu.palette_size (take (cu.size * cu.size) cu.indices) (take (cu.size * cu.size) cu.escapes) n in
    rw (v, n, ← e, ← f.reused) (laid_then a (laid_then b d))

-- ---- the answers

module _ (cu : PaletteCu) (runs : List Run) (count : ℕ) (l : List ℕ) where
  abbrev pub Wrote : Written → List ℕ → Type 0
  Wrote r m = (r ≡ write_of cu runs count (length l)) × (m ≡ list_after cu runs count l)

  -- the tests that need no bins
  abbrev early : List (Bool × ℕ)
  early = (block_size_in cu, 2) ∷ (holds 64 cu, 7) ∷ (runs_hold cu runs count, 8) ∷ []

  abbrev late : List (Bool × ℕ)
  late = (leb (length (bins_of cu (take count runs))) (length l), 9) ∷ []

  numbered : Numbered early
  numbered = (omega arith, (omega arith, (omega arith, tt)))

  write_refused : (k : ℕ) (r : Written) → r ≡ record { refusal = k; bins = 0 } → write_refusal cu runs count (length l) ≡ k → 1 ≤ k → Wrote r l
  unfolding write_of list_after
  write_refused k r z e o = (z ∙ rw (e, ne_eqb k 0 (λ y. omega arith)), rw (e, ne_eqb k 0 (λ y. omega arith)))

  pub write_early : (k : ℕ) (r : Written) → r ≡ record { refusal = k; bins = 0 } → k ≡ refusal early → (k ≡ 0 → ⊥) → Wrote r l
  unfolding write_refusal
  write_early k r z e o = let p : 1 ≤ k = omega arith in write_refused k r z (refused-early early late k numbered (sym e) p) p

  pub write_two : (r : Written) → r ≡ record { refusal = 2; bins = 0 } → block_size_in cu ≡ false → Wrote r l
  write_two r z e = write_early 2 r z (rw e) (λ w. omega arith)

  pub write_seven : (r : Written) → r ≡ record { refusal = 7; bins = 0 } → block_size_in cu ≡ true → holds 64 cu ≡ false → Wrote r l
  write_seven r z s e = write_early 7 r z (rw (s, e)) (λ w. omega arith)

  pub write_nine : (r : Written) → r ≡ record { refusal = 9; bins = 0 } → refusal early ≡ 0 → length l < length (bins_of cu (take count runs)) → Wrote r l
  unfolding write_refusal
  write_nine r z e d = write_refused 9 r z (refused-late early late numbered e ∙ rw (lt-leb (length (bins_of cu (take count runs))) (length l) d)) (omega arith)

  pub write_done : (n : ℕ) (m : List ℕ) → refusal early ≡ 0 → length (bins_of cu (take count runs)) ≤ length l → Laid l 0 (bins_of cu (take count runs)) n m → Wrote (record { refusal = 0; bins = n }) m
  unfolding write_of list_after write_refusal
  write_done n m a d e =
      let k : n ≡ length (bins_of cu (take count runs)) = omega (arith, e.next) in
      let z : refusal ((block_size_in cu, 2) ∷ (holds 64 cu, 7) ∷ (runs_hold cu runs count, 8) ∷ (leb (length (bins_of cu (take count runs))) (length l), 9) ∷ []) ≡ 0 = refused-late early late numbered a ∙ rw (le-leb (length (bins_of cu (take count runs))) (length l) d) in
      (rw (z, k), rw z e.after)

-- ---- runs past the count are not looked at

module _ (cu : PaletteCu) (given runs : List Run) (count : ℕ) (e : take count given ≡ take count runs) where
  pub write_same : (room : ℕ) → write_of cu given count room ≡ write_of cu runs count room
  unfolding write_of write_refusal runs_hold
  write_same room = rw e

  pub after_same : (l : List ℕ) → list_after cu given count l ≡ list_after cu runs count l
  unfolding list_after write_refusal runs_hold
  after_same l = rw e
