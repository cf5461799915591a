-- `whole::cells_hold`: the indices, then the escapes where an index can mark one.
use Rattle.std.proofs.Common.{leb, length, take, ◌∙◌, arith}
use Rattle.domain.specs.Taken.{all_taken}
use Rattle.whole.specs.Parts.{cells-two, cells-one}
use Rattle.whole.proofs.cells_hold.Goals as goal

pub returns-then-cu-from : goal.returns-then-cu-from
returns-then-cu-from c = let cu = c.args.cu.now in
    let n = c.area-n.result in
    let m = c.greatest_index-m.result in
    let a = c.indices_hold-ok.ensures ∙ all_taken (λ x. leb x m) 0 cu.indices n (length (take n cu.indices)) (omega arith) (omega arith) (omega arith) in
    rw (← c.area-n.ensures.0) (cells-two cu n m c.greatest_index-m.ensures.0 _ _ a c.escapes_hold.ensures)

pub returns : goal.returns
returns c = let cu = c.args.cu.now in
    let n = c.area-n.result in
    let m = c.greatest_index-m.result in
    let a = c.indices_hold-ok.ensures ∙ all_taken (λ x. leb x m) 0 cu.indices n (length (take n cu.indices)) (omega arith) (omega arith) (omega arith) in
    rw (← c.area-n.ensures.0) (cells-one cu n m c.greatest_index-m.ensures.0 _ a (omega arith))
