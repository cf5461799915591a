-- `put::store`: the word's first bytes.
use Rattle.std.proofs.Common.{arith}
use Rattle.put.specs.Words.{bytes_copied}
use Rattle.put.proofs.store.Goals as goal

pub returns : goal.returns
returns g c = bytes_copied g.row.N c.args.w c.args.list.now c.args.at _ _ c.requires.0 c.requires.1 (omega arith) (rw c.to_le_bytes.ensures at c.copy_from_slice.ensures.after)
