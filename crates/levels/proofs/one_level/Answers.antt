-- `levels::one_level`: the level of a value of 12 bits fits.
use Rattle.std.proofs.Common.{arith}
use Rattle.quant.specs.QuantLaws.{level-small}
use Rattle.levels.proofs.one_level.Goals as goal

pub overflow_cast-result : goal.overflow_cast-result
overflow_cast-result c = omega (arith, level-small c.args.lossless c.args.step c.args.most c.args.v c.requires.0 c.requires.2, c.quantize_escape.ensures)
