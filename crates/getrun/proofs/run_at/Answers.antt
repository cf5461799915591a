-- `getrun::run_at` reads a run's length as the definition does.
use Rattle.std.proofs.Common.{arith}
use Rattle.bins.specs.Logarithm.{flog-most}
use Rattle.getrun.proofs.run_at.Goals as goal

pub overflow_add-most : goal.overflow_add-most
overflow_add-most c = omega (arith, c.flog-most.ensures, flog-most c.args.longest 11 (omega arith) (omega arith))
