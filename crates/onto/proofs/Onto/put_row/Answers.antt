-- `Onto::put_row`: the row's samples in the place of those that were there.
use Rattle.std.proofs.Common.{◌≡◌, ◌+◌, ◌-◌, arith}
use Rattle.onto.specs.Laws.{columns, from_cells, row_start, row_value}
use Rattle.onto.proofs.Row.{laid_part}
use Rattle.onto.proofs.Onto.put_row.Goals as goal

pub returns : goal.returns
returns c =
    let o = c.args.self.now in
    let a : c.start_at-at.result ≡ row_start o c.args.y = omega arith in
    let k : c.start_at-at.result + c.columns-count.result - c.start_at-at.result ≡ columns o = omega arith in
    rw (k, a) (laid_part (row_value o (from_cells o c.args.values.now) c.args.y) c.args.plane.now c.loop-k.sample-items (row_start o c.args.y) (columns o) (omega arith) (omega arith) (λ j h. c.loop-k.invariant j (omega arith)))
