-- `rules::rows_above`: the rows up to here are those above.
use Rattle.std.proofs.Common.{refl}
use Rattle.rules.specs.Turns.{above-first}
use Rattle.rules.proofs.rows_above.Goals as goal

pub loop-r-init : goal.loop-r-init
loop-r-init c = (refl, above-first c.args.size c.args.cells.now 1028)
