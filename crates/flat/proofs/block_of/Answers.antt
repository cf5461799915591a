-- `flat::block_of`: all its numbers, or zeros after them.
use mathlib.Core.Path.{ap, ◌∙◌}
use Rattle.flat.specs.Flat.{block_of}
use Rattle.flat.specs.FlatLaws.{filled_block}
use Rattle.flat.proofs.block_of.Goals as goal

pub returns : goal.returns
returns c = c.whole_block-2.ensures ∙ ap block_of c.padded.ensures ∙ filled_block c.args.list.now
