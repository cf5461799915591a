-- Row after row is the plane afterwards; what the block covers, and what it leaves.
use Rattle.std.specs.Prelude.{Bool, true, false, List, ◌≡◌, refl, ℕ, zero, suc, ◌+◌, ◌*◌, ◌-◌, ◌/◌, ◌%◌, ◌≤◌, ◌<◌, min, ltb, leb, get_or, length}
use Rattle.std.proofs.Common.{⊎_elim, ap, sym, ◌∙◌, add-one, arith, mul_comm, div-add-mod', ext_get_or, ltb-true, leb-true, lt-ltb, le-leb}
use Rattle.std.proofs.Math.Arith.{digits_div, digits_mod}
use Rattle.base.specs.Pick.{pick, either, true_false, lt_or_le}
use Rattle.base.specs.Cells.{laid, laid_same, laid-length, laid-before, laid_in, laid-after, row_fits}
use Rattle.base.specs.Tests.{both}
use Rattle.h265.specs.Scan.{scan_at}
use Rattle.h265.specs.ScanLaws.{along_lt}
use Rattle.onto.specs.declared.Onto.{Onto}
use Rattle.onto.specs.Onto.{part_of, cell_of, covers, after_at, after}

-- the columns and rows of the block that lie in the plane
abbrev pub columns : Onto → ℕ
columns o = min o.wide (o.stride - o.ox)

abbrev pub rows : Onto → ℕ
rows o = min o.high (o.height - o.oy)

-- the samples of cells that stand in scan order
abbrev pub from_cells : Onto → List ℕ → ℕ → ℕ → ℕ
from_cells o values x y = part_of o.comp (get_or values (cell_of o.transpose o.size x y) 0)

-- a block and a plane of n samples that go together
pub record Apt (o : Onto) (n : ℕ) : Type 0 where
  pub holds : o.stride * o.height ≤ n
  pub small : o.size ≤ 32
  pub across_one : 1 ≤ o.across
  pub across_fits : o.wide * o.across ≤ o.size
  pub down_one : 1 ≤ o.down
  pub down_fits : o.high * o.down ≤ o.size

-- ---- what the block covers

-- the place of column x, row y of the block's part
abbrev pub place_of : Onto → ℕ → ℕ → ℕ
place_of o x y = (o.oy + y) * o.stride + (o.ox + x)

pub record Covered (o : Onto) (p : ℕ) : Type 0 where
  pub left : o.ox ≤ p % o.stride
  pub right : p % o.stride - o.ox < columns o
  pub top : o.oy ≤ p / o.stride
  pub bottom : p / o.stride - o.oy < rows o

pub covered : (o : Onto) (p : ℕ) → covers o p ≡ true → Covered o p
unfolding covers
covered o p e =
    let a = both (ltb (p % o.stride) o.stride) _ e in
    let b = both (ltb (p / o.stride) o.height) _ a.1 in
    let c = both (leb o.ox (p % o.stride)) _ b.1 in
    let d = both (ltb (p % o.stride) (o.ox + o.wide)) _ c.1 in
    let f = both (leb o.oy (p / o.stride)) _ d.1 in
    let g = both (ltb (p / o.stride) (o.oy + o.high)) true f.1 in
    let h : p % o.stride < o.stride = ltb-true _ _ a.0 in
    let i : p / o.stride < o.height = ltb-true _ _ b.0 in
    let j : o.ox ≤ p % o.stride = leb-true _ _ c.0 in
    let k : p % o.stride < o.ox + o.wide = ltb-true _ _ d.0 in
    let l : o.oy ≤ p / o.stride = leb-true _ _ f.0 in
    let m : p / o.stride < o.oy + o.high = ltb-true _ _ g.0 in
    record { left = j; right = omega arith; top = l; bottom = omega arith }

pub covers_place : (o : Onto) (x y : ℕ) → x < columns o → y < rows o → covers o (place_of o x y) ≡ true
unfolding covers
covers_place o x y h k =
    let a : o.ox + x < o.stride = omega arith in
    let b : o.oy + y < o.height = omega arith in
    let c : o.ox ≤ o.ox + x = omega arith in
    let d : o.ox + x < o.ox + o.wide = omega arith in
    let e : o.oy ≤ o.oy + y = omega arith in
    let f : o.oy + y < o.oy + o.high = omega arith in
    rw (digits_div (o.oy + y) a, digits_mod (o.oy + y) a, lt-ltb _ _ a, lt-ltb _ _ b, le-leb _ _ c, lt-ltb _ _ d, le-leb _ _ e, lt-ltb _ _ f)

-- a place that is covered, by column and row
pub place_covered : (o : Onto) (p : ℕ) → Covered o p → p ≡ place_of o (p % o.stride - o.ox) (p / o.stride - o.oy)
place_covered o p c =
    let a : o.ox + (p % o.stride - o.ox) ≡ p % o.stride = omega (arith, c.left) in
    let b : o.oy + (p / o.stride - o.oy) ≡ p / o.stride = omega (arith, c.top) in
    rw (a, b) (sym (div-add-mod' p o.stride))

-- ---- the plane afterwards

-- it is as long as it was
pub after-length : (o : Onto) (sample : ℕ → ℕ → ℕ) (plane : List ℕ) → length (after o sample plane) ≡ length plane
unfolding after
after-length o sample plane = laid-length (after_at o sample plane) plane 0 (length plane)

pub after-at : (o : Onto) (sample : ℕ → ℕ → ℕ) (plane : List ℕ) (p : ℕ) → p < length plane → get_or (after o sample plane) p 0 ≡ after_at o sample plane p
unfolding after
after-at o sample plane p h = laid_in (after_at o sample plane) plane 0 (length plane) p 0 (omega arith) (omega arith) (omega arith)

-- a sample outside the block is as it was
pub after_outside : (o : Onto) (sample : ℕ → ℕ → ℕ) (plane : List ℕ) (p : ℕ) → p < length plane → covers o p ≡ false → get_or (after o sample plane) p 0 ≡ get_or plane p 0
unfolding after_at
after_outside o sample plane p h e = after-at o sample plane p h ∙ rw e

-- the sample at column x, row y of the block's part is the block's at that luma place
pub after-inside : (o : Onto) (sample : ℕ → ℕ → ℕ) (plane : List ℕ) (x y : ℕ) → x < columns o → y < rows o → place_of o x y < length plane
    → get_or (after o sample plane) (place_of o x y) 0 ≡ sample (x * o.across) (y * o.down)
unfolding after_at
after-inside o sample plane x y h k m =
    let a : o.ox + x < o.stride = omega arith in
    let b : o.ox + x - o.ox ≡ x = omega arith in
    let c : o.oy + y - o.oy ≡ y = omega arith in
    after-at o sample plane (place_of o x y) m ∙ rw (covers_place o x y h k, digits_div (o.oy + y) a, digits_mod (o.oy + y) a, b, c)

-- only the samples that lie in the plane count
pub after_same : (o : Onto) (f g : ℕ → ℕ → ℕ) (plane : List ℕ) → ((x y : ℕ) → x < columns o → y < rows o → f (x * o.across) (y * o.down) ≡ g (x * o.across) (y * o.down)) → after o f plane ≡ after o g plane
unfolding after after_at
after_same o f g plane e = laid_same _ _ plane 0 (length plane) (λ j m. one (0 + j))
  where
    one : (p : ℕ) → after_at o f plane p ≡ after_at o g plane p
    one p = either (covers o p) (λ t. let c = covered o p t in rw (t, e (p % o.stride - o.ox) (p / o.stride - o.oy) c.right c.bottom)) (λ t. rw t)

-- ---- row after row

abbrev pub row_start : Onto → ℕ → ℕ
row_start o y = (o.oy + y) * o.stride + o.ox

abbrev pub row_value : Onto → (ℕ → ℕ → ℕ) → ℕ → ℕ → ℕ
row_value o f y j = f ((j - row_start o y) * o.across) (y * o.down)

unfoldable pub rows_put : Onto → (ℕ → ℕ → ℕ) → List ℕ → ℕ → List ℕ
rows_put o f plane zero = plane
rows_put o f plane (suc y) = laid (row_value o f y) (rows_put o f plane y) (row_start o y) (columns o)

pub put_none : (o : Onto) (f : ℕ → ℕ → ℕ) (plane : List ℕ) → rows_put o f plane 0 ≡ plane
unfolding rows_put
put_none o f plane = refl

pub put_next : (o : Onto) (f : ℕ → ℕ → ℕ) (plane : List ℕ) (y : ℕ) → rows_put o f plane (y + 1) ≡ laid (row_value o f y) (rows_put o f plane y) (row_start o y) (columns o)
unfolding rows_put
put_next o f plane y = rw add-one

pub put_length : (o : Onto) (f : ℕ → ℕ → ℕ) (plane : List ℕ) (y : ℕ) → length (rows_put o f plane y) ≡ length plane
unfolding rows_put
put_length o f plane zero = refl
put_length o f plane (suc y) = laid-length (row_value o f y) (rows_put o f plane y) (row_start o y) (columns o) ∙ put_length o f plane y

-- a place of row y lies before row r
place_before : (o : Onto) (x y r : ℕ) → x < columns o → y < r → place_of o x y < row_start o r
place_before o x y r h l =
    let k : o.oy + y < o.oy + r = omega arith in
    omega (arith, row_fits (o.oy + y) o.stride (o.oy + r) k)

pub row_end : (o : Onto) (y n : ℕ) → y < rows o → 1 ≤ columns o → o.stride * o.height ≤ n → row_start o y + columns o ≤ n
row_end o y n h c m =
    let k : o.oy + y < o.height = omega arith in
    omega (arith, row_fits (o.oy + y) o.stride o.height k, mul_comm o.stride o.height)

-- the first n rows have the block's samples, everything else is as it was
record Placed (o : Onto) (f : ℕ → ℕ → ℕ) (plane out : List ℕ) (n : ℕ) : Type 0 where
  pub same_length : length out ≡ length plane
  pub inside : (x y : ℕ) → x < columns o → y < n → get_or out (place_of o x y) 0 ≡ f (x * o.across) (y * o.down)
  pub outside : (p : ℕ) → ((x y : ℕ) → x < columns o → y < n → p ≡ place_of o x y → ⊥) → get_or out p 0 ≡ get_or plane p 0

put_placed : (o : Onto) (f : ℕ → ℕ → ℕ) (plane : List ℕ) (n : ℕ) → n ≤ rows o → 1 ≤ columns o → o.stride * o.height ≤ length plane → Placed o f plane (rows_put o f plane n) n
unfolding rows_put
put_placed o f plane zero h c m = record { same_length = refl; inside = λ x y k l. absurd (omega arith); outside = λ p k. refl }
put_placed o f plane (suc n) h c m =
    let b = put_placed o f plane n (omega arith) c m in
    let l = rows_put o f plane n in
    let v = row_value o f n in
    let e : row_start o n + columns o ≤ length l = rw b.same_length (row_end o n (length plane) (omega arith) c m) in
    record {
      same_length = laid-length v l (row_start o n) (columns o) ∙ b.same_length;
      inside =
          λ x y k q.
          ⊎_elim (λ (z : y < n). laid-before v l (row_start o n) (columns o) (place_of o x y) 0 (place_before o x y n k z) ∙ b.inside x y k z)
          (λ (z : n ≤ y).
          let w : y ≡ n = omega arith in
          let d : place_of o x n - row_start o n ≡ x = omega arith in
          rw w (laid_in v l (row_start o n) (columns o) (place_of o x n) 0 (omega arith) (omega arith) e ∙ rw d))
          (lt_or_le y n);
      outside =
          λ p k.
          let old : get_or l p 0 ≡ get_or plane p 0 = b.outside p (λ x y u v w. k x y u (omega arith) w) in
          ⊎_elim (λ (z : p < row_start o n). laid-before v l (row_start o n) (columns o) p 0 z ∙ old)
          (λ (z : row_start o n ≤ p).
          ⊎_elim
          (λ (t : p < row_start o n + columns o).
          absurd (k (p - row_start o n) n (omega arith) (omega arith) (omega arith)))
          (λ (t : row_start o n + columns o ≤ p). laid-after v l (row_start o n) (columns o) p 0 t ∙ old)
          (lt_or_le p (row_start o n + columns o)))
          (lt_or_le p (row_start o n));
    }

placed-after : (o : Onto) (f : ℕ → ℕ → ℕ) (plane out : List ℕ) → Placed o f plane out (rows o) → out ≡ after o f plane
unfolding after_at
placed-after o f plane out q =
    ext_get_or 0 out (after o f plane) (q.same_length ∙ sym (after-length o f plane)) (λ p m. one p ∙ sym (after-at o f plane p (omega (arith, q.same_length))))
  where
    one : (p : ℕ) → get_or out p 0 ≡ after_at o f plane p
    one p =
        either (covers o p)
        (λ t.
        let c = covered o p t in
        rw t (ap (λ (z : ℕ). get_or out z 0) (place_covered o p c) ∙ q.inside (p % o.stride - o.ox) (p / o.stride - o.oy) c.right c.bottom))
        (λ t. rw t (q.outside p (λ x y h k e. true_false (sym (rw e (covers_place o x y h k)) ∙ t))))

-- all rows put
pub put_all : (o : Onto) (f : ℕ → ℕ → ℕ) (plane out : List ℕ) (n : ℕ) → out ≡ rows_put o f plane n → n ≡ rows o → 1 ≤ columns o → o.stride * o.height ≤ length plane → out ≡ after o f plane
put_all o f plane out n e h c m = e ∙ rw h (placed-after o f plane (rows_put o f plane (rows o)) (put_placed o f plane (rows o) (omega arith) c m))

-- a block beside the plane leaves it
pub put_beside : (o : Onto) (f : ℕ → ℕ → ℕ) (plane : List ℕ) → columns o ≡ 0 → plane ≡ after o f plane
put_beside o f plane h =
    placed-after o f plane plane (record { same_length = refl; inside = λ x y k q. absurd (omega arith); outside = λ p k. refl })

-- ---- cells

-- a cell whose row of the scan is among the first n stands among the first n × size
pub cell_lt : (transpose : Bool) (size x y n : ℕ) → x < size → y < size → pick transpose x y < n → cell_of transpose size x y < n * size
unfolding cell_of scan_at
cell_lt true size x y n h k m = omega (arith, row_fits x size n m, along_lt size x y k)
cell_lt false size x y n h k m = omega (arith, row_fits y size n m, along_lt size y x h)

-- the first rows of the scan, those with all cells whose samples lie in the plane
abbrev pub scan_rows : Onto → ℕ
scan_rows o = pick o.transpose (columns o * o.across) (rows o * o.down)

pub cells-enough : (o : Onto) (m n x y : ℕ) → Apt o m → scan_rows o ≤ n → x < columns o → y < rows o → cell_of o.transpose o.size (x * o.across) (y * o.down) < n * o.size
cells-enough o m n x y a e h k =
    let i : x < o.wide = omega arith in
    let j : y < o.high = omega arith in
    cell_lt o.transpose o.size (x * o.across) (y * o.down) n
    (omega (arith, row_fits x o.across o.wide i, a.across_one, a.across_fits)) (omega (arith, row_fits y o.down o.high j, a.down_one, a.down_fits)) (go o.transpose e)
  where
    go : (b : Bool) → pick b (columns o * o.across) (rows o * o.down) ≤ n → pick b (x * o.across) (y * o.down) < n
    go true l = omega (arith, row_fits x o.across (columns o) h, a.across_one)
    go false l = omega (arith, row_fits y o.down (rows o) k, a.down_one)

-- colours that are laid for the first n rows of the scan make the plane afterwards
pub after-cells : (o : Onto) (colour : ℕ → ℕ) (l values plane : List ℕ) (m n : ℕ) → Apt o m → scan_rows o ≤ n → n * o.size ≤ length l → values ≡ laid colour l 0 (n * o.size)
    → after o (from_cells o values) plane ≡ after o (λ x y. part_of o.comp (colour (cell_of o.transpose o.size x y))) plane
after-cells o colour l values plane m n a e h q =
    after_same o (from_cells o values) (λ x y. part_of o.comp (colour (cell_of o.transpose o.size x y))) plane
    (λ x y i j.
    let c = cell_of o.transpose o.size (x * o.across) (y * o.down) in
    ap (part_of o.comp) (rw q (laid_in colour l 0 (n * o.size) c 0 (omega arith) (omega (arith, cells-enough o m n x y a e i j)) (omega arith))))
