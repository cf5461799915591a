-- Smoothing (document 01): `smooth_indices` in its f32 operations, one by one. Samples and indices stand along the scan; colours are packed numbers.
use Rattle.std.specs.Prelude.{Bool, true, false, not, List, [], ◌∷◌, ℕ, zero, suc, ◌+◌, ◌*◌, ◌-◌, eqb, leb, Float, pos, get_or, set}
use Rattle.std.specs.Float.{binary32}
use Rattle.std.specs.Float.Ieee.{add, sub, mul, lt, of_int, of_bits}
use Rattle.base.specs.Cells.{laid}
use Rattle.base.specs.Pick.{pick}
use Rattle.base.specs.Tests.{every, any, up_to}
use Rattle.h265.specs.Scan.{row_of, col_of, above_at}
use Rattle.quant.specs.Quant.{y_of, u_of, v_of, dist}
use Rattle.figure.specs.Figure.{chroma_in}

-- ---- one cell

-- the square of a difference, of numbers made f32 first
unfoldable pub squared : ℕ → ℕ → Float
squared a b = mul binary32 (sub binary32 (of_int binary32 (pos a)) (of_int binary32 (pos b))) (sub binary32 (of_int binary32 (pos a)) (of_int binary32 (pos b)))

-- the squared error of coding a sample as an entry: luma, then cb, then cr, these only where a chroma sample is written
unfoldable pub entry_error : Bool → ℕ → ℕ → Float
entry_error chroma entry sample =
    pick chroma
    (add binary32 (add binary32 (squared (y_of entry) (y_of sample)) (squared (u_of entry) (u_of sample))) (squared (v_of entry) (v_of sample)))
    (squared (y_of entry) (y_of sample))

-- what recolouring place i from one entry to another adds
unfoldable pub delta : ℕ → ℕ → List ℕ → ℕ → ℕ → ℕ → Float
delta format size cells from to i =
    let chroma : Bool = chroma_in format false (col_of size i) (row_of size i) in
    sub binary32 (entry_error chroma to (get_or cells i 0)) (entry_error chroma from (get_or cells i 0))

-- an entry is within tolerance of the sample at place i
unfoldable pub fits : List ℕ → ℕ → ℕ → ℕ → Bool
fits cells tolerance entry i = leb (dist entry (get_or cells i 0)) tolerance

-- ---- a run of equal indices: len places from start on

-- so many places from `at` on have the index v, of at most f
unfoldable pub stretch : List ℕ → ℕ → ℕ → ℕ → ℕ
stretch is v zero at = 0
stretch is v (suc f) at = let more : ℕ = suc (stretch is v f (suc at)) in pick (eqb (get_or is at 0) v) more 0

-- the length of the run that starts at start; n is the number of cells
unfoldable pub run_length : ℕ → List ℕ → ℕ → ℕ
run_length n is start = stretch is (get_or is start 0) (n - start) start

-- the sum over its places, added in their order; an f32 sum starts at -0.0
unfoldable pub sum_from : (ℕ → Float) → ℕ → ℕ → Float
sum_from f start zero = of_bits binary32 0x8000_0000
sum_from f start (suc len) = add binary32 (sum_from f start len) (f (start + len))

-- its places take the index above, one after another
unfoldable pub copied_from : ℕ → List ℕ → ℕ → ℕ → List ℕ
copied_from size is start zero = is
copied_from size is start (suc len) =
    let done : List ℕ = copied_from size is start len in
    set done (start + len) (above_at size done (start + len))

-- ---- a block

-- what smoothing does not change: `escape` is the escape index, `budget` is lambda times the bits of a run
pub record Scene : Type 0 where
  pub size : ℕ
  pub format : ℕ
  pub escape : ℕ
  pub tolerance : ℕ
  pub palette : List ℕ
  pub cells : List ℕ
  pub budget : Float

-- the index map, and whether a run was moved
pub record Map : Type 0 where
  pub indices : List ℕ
  pub changed : Bool

abbrev pub scene : ℕ → ℕ → ℕ → ℕ → List ℕ → List ℕ → Float → Scene
scene size format escape tolerance palette cells budget =
    record { size = size; format = format; escape = escape; tolerance = tolerance; palette = palette; cells = cells; budget = budget }

abbrev pub map : List ℕ → Bool → Map
map indices changed = record { indices = indices; changed = changed }

-- the index above place i is no escape, and is the run's value or fits
unfoldable pub above_fits : ℕ → ℕ → ℕ → List ℕ → List ℕ → List ℕ → ℕ → ℕ → Bool
above_fits size escape tolerance palette cells is value i =
    let above : ℕ = above_at size is i in
    every (not (eqb above escape) ∷ any (eqb above value ∷ fits cells tolerance (get_or palette above 0) i ∷ []) ∷ [])

module _ (s : Scene) where
  -- the colour of an index
  abbrev pub colour : ℕ → ℕ
  colour v = get_or s.palette v 0

  -- a run may join the one on its left: every sample fits that entry, and it costs less than the budget
  unfoldable pub joins : List ℕ → ℕ → ℕ → Bool
  joins is start len =
      let value : ℕ = get_or is start 0 in
      let left : ℕ = get_or is (start - 1) 0 in
      every
      (leb 1 start ∷ not (eqb left s.escape) ∷ up_to len (λ j. fits s.cells s.tolerance (colour left) (start + j))
      ∷ lt (sum_from (delta s.format s.size s.cells (colour value) (colour left)) start len) s.budget ∷ [])

  -- it may be copied from above: every index above fits, and it costs less than the budget, by the indices before the move
  unfoldable pub copies : List ℕ → ℕ → ℕ → Bool
  copies is start len =
      let value : ℕ = get_or is start 0 in
      every
      (leb s.size start ∷ up_to len (λ j. above_fits s.size s.escape s.tolerance s.palette s.cells is value (start + j))
      ∷ lt (sum_from (λ i. delta s.format s.size s.cells (colour value) (colour (above_at s.size is i)) i) start len) s.budget ∷ [])

  -- one run: joined to the left, else copied from above, else left; escapes are never touched
  unfoldable pub run_smoothed : List ℕ → ℕ → ℕ → Map
  run_smoothed is start len =
      let kept : Map = map is false in
      let joined : Map = map (laid (λ i. get_or is (start - 1) 0) is start len) true in
      let copied : Map = map (copied_from s.size is start len) true in
      pick (eqb (get_or is start 0) s.escape) kept (pick (joins is start len) joined (pick (copies is start len) copied kept))

  -- the runs from start on, one after another; f is at least the cells left
  unfoldable pub smoothed_from : ℕ → ℕ → Map → Map
  smoothed_from zero start now = now
  smoothed_from (suc f) start now =
      let len : ℕ = run_length (s.size * s.size) now.indices start in
      let one : Map = run_smoothed now.indices start len in
      let rest : Map = smoothed_from f (start + len) (map one.indices (pick one.changed true now.changed)) in
      pick (leb (s.size * s.size) start) now rest

  unfoldable pub smoothed : List ℕ → Map
  smoothed is = smoothed_from (s.size * s.size) 0 (map is false)
