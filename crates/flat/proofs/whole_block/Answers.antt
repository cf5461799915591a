-- `flat::whole_block`: its parts put together.
use Rattle.flat.specs.FlatLaws.{block_made}
use Rattle.flat.proofs.whole_block.Goals as goal

pub returns : goal.returns
returns c = rw (c.from.ensures, c.from-2.ensures, c.from-3.ensures, c.from-4.ensures, c.from-5.ensures) (block_made _ _ c.head_of-h.ensures _ _ _ _ _ _ _ _ c.palette_of.ensures c.flags_of.ensures c.indices_of.ensures c.read_escapes.ensures c.byte.ensures c.byte-2.ensures c.byte-3.ensures c.long.ensures)
