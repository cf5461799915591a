-- Rows as parts of lists: what a row of a plane holds, and what cells laid in a row of the block are in it.
use Rattle.std.specs.Prelude.{◌≡◌, List, ◌++◌, ℕ, zero, suc, ◌+◌, ◌-◌, ◌/◌, ◌≤◌, ◌<◌, length, take, drop, min}
use Rattle.std.proofs.Common.{ap, sym, ◌∙◌, arith}
use Rattle.std.proofs.Math.ListN.{length-take, length-drop}
use Rattle.std.proofs.lemmas.List.{get_or-take, get_or-drop, set-append_left, set-append_right}
use borrow.Rule.Slice.PartMut.{put_mid, put_same}
use Rattle.base.specs.Cells.{laid, laid-length}
use Rattle.samples.specs.Laws.{in_row, grey_cell, color_cell}

-- laid in a part of the list from its start on, so laid in the list from the part's place on
pub laid_part : {A : Type 0} (f g : ℕ → A) (l : List A) (a k n : ℕ) → n ≤ length (take k (drop a l)) → ((j : ℕ) → j < n → f j ≡ g (a + j)) → put_mid a k l (laid f (take k (drop a l)) 0 n) ≡ laid g l a n
unfolding laid
laid_part f g l a k zero h s = put_same a k l
laid_part {A = A} f g l a k (suc n) h s =
    let m = take k (drop a l) in
    let ys = laid f m 0 n in
    let rest = drop k (drop a l) in
    let z : a + n - a ≡ 0 + n = omega arith in
    let lt : 0 + n < length ys = omega (arith, laid-length f m 0 n) in
    let lp : length (take a l) ≡ a = omega (arith, length-take a l, length-take k (drop a l), length-drop a l) in
    let r = set-append_right (take a l) (ys ++ rest) a (a + n) (f (0 + n)) lp (omega arith) in
    let o : 0 + n ≡ n = omega arith in
    ap (λ (t : List A). take a l ++ t) (sym (set-append_left ys rest (0 + n) (f (0 + n)) lt))
    ∙ sym (rw z at r)
    ∙ rw (laid_part f g l a k n (omega arith) (λ j b. s j (omega arith)), o, s n (omega arith))

-- column x of a row, and of the plane
pub row_part : (plane : List ℕ) (base w x : ℕ) → 1 ≤ w → base + w ≤ length plane → in_row (take (base + w - base) (drop base plane)) 0 w x ≡ in_row plane base w x
row_part plane base w x p h =
    let k : 0 + min x (w - 1) < base + w - base = omega arith in
    let z : 0 + min x (w - 1) ≡ min x (w - 1) = omega arith in
    get_or-take (base + w - base) (drop base plane) (0 + min x (w - 1)) 0 k ∙ rw z (get_or-drop base plane (min x (w - 1)) 0)

row_fits_lem : (plane row : List ℕ) (base w : ℕ) → 1 ≤ w → row ≡ take (base + w - base) (drop base plane) → length row ≡ w → base + w ≤ length plane
row_fits_lem plane row base w p e s = omega (arith, ap length e, length-take (base + w - base) (drop base plane), length-drop base plane)

-- what the cells of a row hold, from the row and from the plane
grey_row : (luma row : List ℕ) (base w x0 a : ℕ) → 1 ≤ w → row ≡ take (base + w - base) (drop base luma) → length row ≡ w → (j : ℕ) → grey_cell row 0 (length row) x0 0 j ≡ grey_cell luma base w x0 a (a + j)
grey_row luma row base w x0 a p e s j =
    let z : a + j - a ≡ j = omega arith in
    let o : j - 0 ≡ j = omega arith in
    rw (z, o, s, e) (row_part luma base w (x0 + j) p (row_fits_lem luma row base w p e s))

color_row : (luma cb cr y u v : List ℕ) (base w cbase cw x0 by a : ℕ) → 1 ≤ w → 1 ≤ cw → y ≡ take (base + w - base) (drop base luma) → length y ≡ w → u ≡ take (cbase + cw - cbase) (drop cbase cb) → length u ≡ cw → v ≡ take (cbase + cw - cbase) (drop cbase cr) → length v ≡ cw → (j : ℕ)
    → color_cell y u v 0 (length y) 0 (length u) x0 by 0 j ≡ color_cell luma cb cr base w cbase cw x0 by a (a + j)
color_row luma cb cr y u v base w cbase cw x0 by a p q ey sy eu su ev sv j =
    let z : a + j - a ≡ j = omega arith in
    let o : j - 0 ≡ j = omega arith in
    rw (z, o, sy, su, ey, eu, ev, row_part luma base w (x0 + j) p (row_fits_lem luma y base w p ey sy), row_part cb cbase cw ((x0 + j) / by) q (row_fits_lem cb u cbase cw q eu su), row_part cr cbase cw ((x0 + j) / by) q (row_fits_lem cr v cbase cw q ev sv))

-- a row of the block laid
part_length : (a size : ℕ) (out : List ℕ) → a + size ≤ length out → length (take (a + size - a) (drop a out)) ≡ size
part_length a size out h = omega (arith, length-take (a + size - a) (drop a out), length-drop a out)

pub row_laid : (f g : ℕ → ℕ) (out cells : List ℕ) (a size : ℕ) → a + size ≤ length out → ((j : ℕ) → f j ≡ g (a + j)) → cells ≡ laid f (take (a + size - a) (drop a out)) 0 (length (take (a + size - a) (drop a out))) → put_mid a (a + size - a) out cells ≡ laid g out a size
row_laid f g out cells a size h s t =
    let m = take (a + size - a) (drop a out) in
    ap (put_mid a (a + size - a) out) t ∙ laid_part f g out a (a + size - a) (length m) (omega arith) (λ j b. s j) ∙ ap (laid g out a) (part_length a size out h)

pub grey_laid : (luma row out cells : List ℕ) (base w x0 a size : ℕ) → 1 ≤ w → row ≡ take (base + w - base) (drop base luma) → length row ≡ w → a + size ≤ length out → cells ≡ laid (grey_cell row 0 (length row) x0 0) (take (a + size - a) (drop a out)) 0 (length (take (a + size - a) (drop a out)))
    → put_mid a (a + size - a) out cells ≡ laid (grey_cell luma base w x0 a) out a size
grey_laid luma row out cells base w x0 a size p e s h t =
    row_laid (grey_cell row 0 (length row) x0 0) (grey_cell luma base w x0 a) out cells a size h (grey_row luma row base w x0 a p e s) t

pub color_laid : (luma cb cr y u v out cells : List ℕ) (base w cbase cw x0 by a size : ℕ) → 1 ≤ w → 1 ≤ cw → y ≡ take (base + w - base) (drop base luma) → length y ≡ w → u ≡ take (cbase + cw - cbase) (drop cbase cb) → length u ≡ cw → v ≡ take (cbase + cw - cbase) (drop cbase cr) → length v ≡ cw → a + size ≤ length out
    → cells ≡ laid (color_cell y u v 0 (length y) 0 (length u) x0 by 0) (take (a + size - a) (drop a out)) 0 (length (take (a + size - a) (drop a out)))
    → put_mid a (a + size - a) out cells ≡ laid (color_cell luma cb cr base w cbase cw x0 by a) out a size
color_laid luma cb cr y u v out cells base w cbase cw x0 by a size p q ey sy eu su ev sv h t =
    row_laid (color_cell y u v 0 (length y) 0 (length u) x0 by 0) (color_cell luma cb cr base w cbase cw x0 by a) out cells a size h (color_row luma cb cr y u v base w cbase cw x0 by a p q ey sy eu su ev sv) t
