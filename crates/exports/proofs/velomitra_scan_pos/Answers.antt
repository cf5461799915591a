-- `exports::velomitra_scan_pos`: row and column are below 1,024.
use Rattle.std.proofs.Common.{arith}
use native.Mathlib.Nat.{div-le_self}
use Rattle.h265.specs.Scan.{row_of}
use Rattle.h265.specs.ScanLaws.{col_lt}
use Rattle.exports.proofs.velomitra_scan_pos.Goals as goal

pub overflow_mul-result : goal.overflow_mul-result
unfolding row_of
overflow_mul-result c = omega (arith, c.scan_pos-p.ensures.1, div-le_self c.args.i c.args.size)

pub overflow_add-result : goal.overflow_add-result
unfolding row_of
overflow_add-result c = omega (arith, c.scan_pos-p.ensures.0, c.scan_pos-p.ensures.1, div-le_self c.args.i c.args.size, col_lt c.args.size c.args.i c.if-size-lt1.false)
