-- `blocks::made`: field by field.
use Rattle.blocks.specs.Laws.{block_with}
use Rattle.blocks.proofs.made.Goals as goal

pub returns : goal.returns
unfolding block_with
returns c = rw c.unpack_palette-palette.ensures
