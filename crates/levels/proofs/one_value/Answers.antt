-- `levels::one_value`: a value is at most the greatest sample.
use Rattle.std.proofs.Common.{arith, w32, to_z, of_z}
use Rattle.h265.specs.EscapeLaws.{value_le}
use Rattle.levels.proofs.one_value.Goals as goal

pub overflow_cast-result : goal.overflow_cast-result
overflow_cast-result c = let a = c.args in
    omega (arith, c.dequant_escape.ensures, value_le a.lossless a.step a.most (to_z w32 (of_z w32 c.from.result)))
