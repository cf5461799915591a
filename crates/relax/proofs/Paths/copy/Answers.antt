use mathlib.Core.Path.{◌∙◌}
use Rattle.relax.proofs.Paths.copy.Goals as goal

pub returns : goal.returns
returns c = c.relax.ensures ∙ rw c.copy_bits.ensures
