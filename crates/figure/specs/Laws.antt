-- One row of the scan and of the figure, and that errors are small.
use Rattle.std.specs.Prelude.{Bool, true, false, not, ◌&&◌, List, [], ◌∷◌, ◌≡◌, refl, ℕ, ◌+◌, ◌*◌, ◌-◌, ◌%◌, ◌≤◌, ◌<◌, eqb, get_or, length, take, drop}
use Rattle.std.proofs.Common.{ap, sym, ◌∙◌, mul-le-mul, arith}
use Rattle.std.proofs.Math.ListN.{length-take, length-drop}
use Rattle.std.proofs.lemmas.List.{get_or-take, get_or-drop}
use Rattle.base.specs.Pick.{pick}
use Rattle.base.specs.Sums.{sum_to, sum_to-add, sum_to-same}
use Rattle.base.specs.Tests.{every}
use Rattle.h265.specs.Scan.{along, col_of, row_of}
use Rattle.h265.specs.ScanLaws.{along_lt, place_row, place_col, in_block}
use Rattle.quant.specs.Quant.{gap, y_of, u_of, v_of}
use Rattle.model.specs.Domain.{sub_w, sub_h}
use Rattle.model.specs.declared.PaletteCu.{PaletteCu}
use Rattle.levels.specs.declared.Scale.{Scale}
use Rattle.figure.specs.Figure.{scan_sample, square, error_of, chroma_in, error_at, figure_of, block_figure}

-- samples by column and row, from a list row by row
abbrev pub in_rows : ℕ → List ℕ → ℕ → ℕ → ℕ
in_rows size cells x y = get_or cells (y * size + x) 0

-- ---- scan order

-- place x of a row
pub scan_place : (transpose : Bool) (size : ℕ) (cells : List ℕ) (row x : ℕ) → x < size
    → get_or cells (pick transpose (along size row x * size + row) (row * size + along size row x)) 0 ≡ scan_sample transpose size (in_rows size cells) (row * size + x)
unfolding scan_sample
scan_place true size cells row x h = rw (place_row size row x h, place_col size row x h)
scan_place false size cells row x h = rw (place_row size row x h, place_col size row x h)

-- scan samples of two pictures that agree in the block
pub scan_same : (transpose : Bool) (size : ℕ) (f g : ℕ → ℕ → ℕ) → ((x y : ℕ) → x < size → y < size → f x y ≡ g x y) → (j : ℕ) → j < size * size → scan_sample transpose size f j ≡ scan_sample transpose size g j
unfolding scan_sample
scan_same true size f g e j h = let b = in_block size j h in e (row_of size j) (col_of size j) b.1 b.0
scan_same false size f g e j h = let b = in_block size j h in e (col_of size j) (row_of size j) b.0 b.1

-- ---- errors

pub square-small : (a b : ℕ) → a < 65536 → b < 65536 → square a b ≤ 4294836225
square-small a b h k =
    let g : gap a b ≤ 65535 = omega arith in
    let p : gap a b * gap a b ≤ 65535 * 65535 = mul-le-mul g g in
    omega arith

-- a cell that decodes to its colour has no error
pub error_self : (chroma : Bool) (a : ℕ) → error_of chroma a a ≡ 0
unfolding error_of
error_self chroma a =
    let z : (x : ℕ) → square x x ≡ 0 = λ x. let g : gap x x ≡ 0 = omega arith in rw g in
    rw (z (y_of a), z (u_of a), z (v_of a)) (none chroma)
  where
    none : (b : Bool) → 0 + pick b (0 + 0) 0 ≡ 0
    none true = refl
    none false = refl

-- what a row loop adds at place x of its row, which starts at place a
abbrev pub row_error : List ℕ → List ℕ → ℕ → ℕ → ℕ → Bool → ℕ → ℕ → ℕ
row_error values cells size row a chroma cx x = error_of (chroma && eqb (along size row x % cx) 0) (get_or values (a + x) 0) (get_or cells (a + along size row x) 0)

-- the row as a part of the lists
part_at : (l : List ℕ) (a size x : ℕ) → x < size → get_or (take (a + size - a) (drop a l)) (0 + x) 0 ≡ get_or l (a + x) 0
part_at l a size x h =
    let z : 0 + x ≡ x = omega arith in
    let k : x < a + size - a = omega arith in
    rw z (get_or-take (a + size - a) (drop a l) x 0 k ∙ get_or-drop a l x 0)

pub error_part : (values cells : List ℕ) (size row a cx : ℕ) (chroma : Bool) → a + size ≤ length values
    → sum_to (length (take (a + size - a) (drop a values))) (row_error (take (a + size - a) (drop a values)) (take (a + size - a) (drop a cells)) (length (take (a + size - a) (drop a values))) row 0 chroma cx)
    ≡ sum_to size (row_error values cells size row a chroma cx)
error_part values cells size row a cx chroma h =
    let n : length (take (a + size - a) (drop a values)) ≡ size = omega (arith, length-take (a + size - a) (drop a values), length-drop a values) in
    rw n (sum_to-same size _ _ (λ x m. rw (part_at values a size x m, part_at cells a size (along size row x) (along_lt size row x m))))

-- chroma by columns and rows of the scan grid
chroma_grid : (format : ℕ) (transpose : Bool) (x y : ℕ)
    → (not (eqb format 0) && eqb (y % pick transpose (sub_w format) (sub_h format)) 0) && eqb (x % pick transpose (sub_h format) (sub_w format)) 0 ≡ chroma_in format transpose x y
unfolding chroma_in
chroma_grid format true x y = go (eqb format 0) (eqb (y % sub_w format) 0) (eqb (x % sub_h format) 0)
  where
    go : (a b c : Bool) → (not a && b) && c ≡ every (not a ∷ b ∷ c ∷ [])
    go true b c = refl
    go false true true = refl
    go false true false = refl
    go false false c = refl
chroma_grid format false x y = go (eqb format 0) (eqb (y % sub_h format) 0) (eqb (x % sub_w format) 0)
  where
    go : (a b c : Bool) → (not a && b) && c ≡ every (not a ∷ c ∷ b ∷ [])
    go true b c = refl
    go false true true = refl
    go false true false = refl
    go false false true = refl
    go false false false = refl

-- one row more of the figure
pub figure_row : (format : ℕ) (transpose : Bool) (size : ℕ) (values cells : List ℕ) (row a sum r cx ry : ℕ) (chroma : Bool) → a ≡ row * size → cx ≡ pick transpose (sub_h format) (sub_w format) → ry ≡ pick transpose (sub_w format) (sub_h format)
    → chroma ≡ not (eqb format 0) && eqb (row % ry) 0 → r ≡ sum_to size (row_error values cells size row a chroma cx)
    → sum ≡ sum_to a (error_at format transpose size (λ (j : ℕ). get_or values j 0) (in_rows size cells)) → sum + r ≡ sum_to (a + size) (error_at format transpose size (λ (j : ℕ). get_or values j 0) (in_rows size cells))
unfolding error_at
figure_row format transpose size values cells row a sum r cx ry chroma e p q b h i =
    rw (i, h)
    (sym
    (sum_to-add (error_at format transpose size (λ (j : ℕ). get_or values j 0) (in_rows size cells)) a size
    ∙ ap (λ (z : ℕ). sum_to a (error_at format transpose size (λ (j : ℕ). get_or values j 0) (in_rows size cells)) + z) (sum_to-same size _ _ one)))
  where
    one : (x : ℕ) → x < size → error_at format transpose size (λ (j : ℕ). get_or values j 0) (in_rows size cells) (a + x) ≡ row_error values cells size row a chroma cx x
    one x l = rw (e, place_row size row x l, place_col size row x l, b, p, q, chroma_grid format transpose (along size row x) row)

-- only what cells decode to and the samples in the block count
pub figure_same : (format : ℕ) (transpose : Bool) (size : ℕ) (v w : ℕ → ℕ) (f g : ℕ → ℕ → ℕ) → ((j : ℕ) → j < size * size → v j ≡ w j) → ((x y : ℕ) → x < size → y < size → f x y ≡ g x y)
    → figure_of format transpose size v f ≡ figure_of format transpose size w g
unfolding figure_of error_at
figure_same format transpose size v w f g e d =
    sum_to-same (size * size) _ _
    (λ j h. let b = in_block size j h in rw (e j h, d (col_of size j) (row_of size j) b.0 b.1))

pub block_same : (s : Scale) (cu : PaletteCu) (f g : ℕ → ℕ → ℕ) → ((x y : ℕ) → x < cu.size → y < cu.size → f x y ≡ g x y) → block_figure s cu f ≡ block_figure s cu g
unfolding block_figure
block_same s cu f g d = figure_same cu.chroma_idc cu.transpose cu.size _ _ f g (λ j h. refl) d
