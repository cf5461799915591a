-- What the exported numbers are: the leaf's definition within its domain, else `none`.
use Rattle.std.specs.Prelude.{Bool, ℕ, ◌+◌, ◌*◌, ltb, leb, ℤ, pos}
use Rattle.std.specs.Int.Signed.{lt_z}
use Rattle.base.specs.Pick.{pick}
use Rattle.h265.specs.Scan.{row_of, col_of, scan_at}
use Rattle.h265.specs.Scan as S
use Rattle.h265.specs.Escape.{step_at, escape_value}
use Rattle.quant.specs.Quant.{level_of}

abbrev pub none : ℕ
none = 18446744073709551615

unfoldable pub scan_pos : ℕ → ℕ → ℕ
scan_pos i size =
    pick (ltb size 1) none
    (pick (ltb 32 size) none
    (pick (leb 1024 i) none (row_of size i * 65536 + col_of size i)))

unfoldable pub scan_pos_inv : ℕ → ℕ → ℕ → ℕ
scan_pos_inv col row size =
    pick (ltb 32 size) none
    (pick (leb size col) none
    (pick (leb size row) none (scan_at size col row)))

unfoldable pub place_above : ℕ → ℕ → ℕ
place_above i size =
    pick (ltb size 1) none
    (pick (ltb i size) none
    (pick (leb 1024 i) none (S.place_above size i)))

unfoldable pub step_out : ℤ → ℕ
step_out qp = pick (lt_z (pos 75) qp) none (step_at qp)

unfoldable pub dequant_out : Bool → ℕ → ℕ → ℤ → ℕ
dequant_out lossless step most level = pick (ltb 294912 step) none (escape_value lossless step most level)

unfoldable pub quantize_out : Bool → ℕ → ℕ → ℕ → ℕ
quantize_out lossless step most v =
    pick (ltb step 1) none
    (pick (ltb 294912 step) none
    (pick (ltb 65535 v) none (level_of lossless step most v)))
