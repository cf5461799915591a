-- Scan place and cell determine each other, at every size from 1 on; and where the cell above stands.
use Rattle.std.specs.Prelude.{◌≡◌, refl, Bool, true, false, ℕ, zero, suc, ◌+◌, ◌*◌, ◌-◌, ◌/◌, ◌%◌, ◌≤◌, ◌<◌, eqb}
use Rattle.std.proofs.Common.{◌∙◌, not-suc-le-zero, le_refl, zero-mul, one-mul, add-mul, mul-le-mul, mod-lt, div-add-mod', div-mul-le_self, div-lt_iff_lt-mul, le-div_iff_mul-le, arith, eq-eqb, ne_eqb, eqb-true}
use Rattle.std.proofs.Math.Arith.{digits_lt, digits_div, digits_mod}
use Rattle.std.proofs.lemmas.Bool.{eqb-false}
use Rattle.base.specs.Pick.{pick, either}
use Rattle.h265.specs.Scan.{along, row_of, col_of, scan_at, place_above}

turn_lt : (b : Bool) (size x : ℕ) → x < size → pick b x (size - 1 - x) < size
turn_lt true size x h = h
turn_lt false size x h = omega arith

turn-turn : (b : Bool) (size x : ℕ) → x < size → pick b (pick b x (size - 1 - x)) (size - 1 - pick b x (size - 1 - x)) ≡ x
turn-turn true size x h = refl
turn-turn false size x h = omega arith

pub along_lt : (size row x : ℕ) → x < size → along size row x < size
along_lt size row x h = turn_lt (eqb (row % 2) 0) size x h

pub along-along : (size row x : ℕ) → x < size → along size row (along size row x) ≡ x
along-along size row x h = turn-turn (eqb (row % 2) 0) size x h

-- two rows that follow one another run against each other
pub along-next : (size row x : ℕ) → x < size → along size row (along size (row + 1) x) ≡ size - 1 - x
along-next size row x h =
    either (eqb (row % 2) 0)
    (λ t.
    let e : row % 2 ≡ 0 = eqb-true (row % 2) 0 t in
    let o : (row + 1) % 2 ≡ 0 → ⊥ = λ z. omega arith in
    rw (t, ne_eqb ((row + 1) % 2) 0 o))
    (λ t.
    let n : row % 2 ≡ 0 → ⊥ = eqb-false (row % 2) 0 t in
    let e : (row + 1) % 2 ≡ 0 = omega arith in
    rw (t, eq-eqb ((row + 1) % 2) 0 e))

some : (size i : ℕ) → i < size * size → 1 ≤ size
some zero i h = absurd (not-suc-le-zero (rw zero-mul at h))
some (suc n) i h = omega arith

pub col_lt : (size i : ℕ) → 1 ≤ size → col_of size i < size
unfolding col_of
col_lt size i h = along_lt size (i / size) (i % size) (mod-lt i h)

-- place x of a row
pub place_row : (size row x : ℕ) → x < size → row_of size (row * size + x) ≡ row
unfolding row_of
place_row size row x h = digits_div row h

pub place_col : (size row x : ℕ) → x < size → col_of size (row * size + x) ≡ along size row x
unfolding col_of
place_col size row x h = rw (digits_div row h, digits_mod row h)

-- a scan place lies in the block
pub in_block : (size i : ℕ) → i < size * size → (col_of size i < size) × (row_of size i < size)
unfolding row_of
in_block size i h = (col_lt size i (some size i h), (div-lt_iff_lt-mul (some size i h)).1 h)

-- a cell of the block has a scan place
pub scan_lt : (size col row : ℕ) → col < size → row < size → scan_at size col row < size * size
unfolding scan_at
scan_lt size col row h k = digits_lt k (along_lt size row col h)

-- there and back
pub there_and_back : (size i : ℕ) → 1 ≤ size → scan_at size (col_of size i) (row_of size i) ≡ i
unfolding scan_at col_of row_of
there_and_back size i h = rw (along-along size (i / size) (i % size) (mod-lt i h)) (div-add-mod' i size)

-- back and there
pub back_and_there : (size col row : ℕ) → col < size → (col_of size (scan_at size col row) ≡ col) × (row_of size (scan_at size col row) ≡ row)
unfolding scan_at col_of row_of
back_and_there size col row h =
    let k : along size row col < size = along_lt size row col h in
    (rw (digits_div row k, digits_mod row k, along-along size row col h), digits_div row k)

-- ---- the cell above

-- from row 1 on there is a row above
pub row_one : (size i : ℕ) → 1 ≤ size → size ≤ i → 1 ≤ row_of size i
unfolding row_of
row_one size i h k = (le-div_iff_mul-le h).1 (omega arith)

-- it is the cell in the same column of the row before
pub above_col : (size i : ℕ) → 1 ≤ size → col_of size (place_above size i) ≡ col_of size i
unfolding place_above
above_col size i h = (back_and_there size (col_of size i) (row_of size i - 1) (col_lt size i h)).0

pub above-row : (size i : ℕ) → 1 ≤ size → size ≤ i → row_of size (place_above size i) + 1 ≡ row_of size i
unfolding place_above
above-row size i h k =
    omega (arith, (back_and_there size (col_of size i) (row_of size i - 1) (col_lt size i h)).1, row_one size i h k)

-- as far before the start of its row as this cell stands after it
closed : (size p r x i : ℕ) → x < size → r ≡ p + 1 → r * size + x ≡ i → p * size + along size p (along size r x) ≡ 2 * (r * size) - (i + 1)
closed size p r x i h e d =
    let m : (p + 1) * size ≡ p * size + size = add-mul p 1 size ∙ rw one-mul in
    rw (← d, e, along-next size p x h) (omega arith)

pub above-closed : (size i : ℕ) → 1 ≤ size → size ≤ i → place_above size i ≡ 2 * (i / size * size) - (i + 1)
unfolding place_above scan_at col_of row_of
above-closed size i h k =
    let r : 1 ≤ i / size = row_one size i h k in
    closed size (i / size - 1) (i / size) (i % size) i (mod-lt i h) (omega arith) (div-add-mod' i size)

-- what the closed form takes away is there
pub above-room : (size i : ℕ) → 1 ≤ size → size ≤ i → i + 1 ≤ 2 * (i / size * size)
unfolding row_of
above-room size i h k =
    let q : 1 * size ≤ i / size * size = mul-le-mul (row_one size i h k) (le_refl size) in
    omega (arith, div-add-mod' i size, mod-lt i h)

pub above_before : (size i : ℕ) → size ≤ i → 1 ≤ size → place_above size i < i
above_before size i k h = omega (arith, above-closed size i h k, div-mul-le_self i size)
