-- Bounds on places and cells.
use Rattle.std.specs.Prelude.{ℕ, zero, suc, ◌*◌, ◌≤◌, ◌<◌}
use Rattle.std.proofs.Common.{mul-le-mul, arith}

-- a product of two numbers of 16 bits
pub product_fits : (a b : ℕ) → a ≤ 65535 → b ≤ 65535 → a * b ≤ 4294836225
product_fits a b h k = let q : a * b ≤ 65535 * 65535 = mul-le-mul h k in omega arith

-- a block with a cell has a side
pub some-cell : (i size : ℕ) → i < size * size → 1 ≤ size
some-cell i zero h = absurd (omega arith)
some-cell i (suc size) h = omega arith
