use mathlib.Core.Path.{◌∙◌}
use native.Mathlib.Omega.{arith}
use Rattle.sums.specs.SumLaws.{run_from_lem}
use Rattle.lengths.proofs.run_bits.Goals as goal

pub run_from-requires : goal.run_from-requires
run_from-requires c = (omega (arith, c.row_of.ensures.1), omega arith, omega arith)

pub returns : goal.returns
returns c = c.run_from.ensures ∙ rw c.row_of.ensures.0 (run_from_lem _ _ _ _ _ _ _ c.run_sums.ensures (omega arith) (omega arith))
