-- `assign::Memory::index_next`: each of the three ways gives the same index.
use Rattle.assign.specs.Memory.{cached_more}
use Rattle.assign.proofs.Memory.index_next.Goals as goal

pub returns : goal.returns
returns c = let s = c.args in
    let n = s.entries.now in
    let e = c.index_of-k.ensures.0 in
    (e, cached_more n.tol n.palette.now n.n s.self.now.colors s.self.now.indices c.slot-s.result s.c c.index_of-k.result c.requires.cached c.slot-s.ensures e)
