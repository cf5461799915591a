-- `readblock::cells_of`
use Rattle.std.proofs.Common.{◌≤◌, ℕ, List, ap, ◌∙◌, arith, take}
use Rattle.base.specs.Lists.{padded}
use Rattle.readblock.specs.Made.{cells-none, cells-some, coded_short}
use Rattle.readblock.proofs.cells_of.Goals as goal

pub returns-then-m-eq0 : goal.returns-then-m-eq0
returns-then-m-eq0 c =
    let g = c.args in
    let r = g.map.now in
    cells-none g.size g.n g.m r.turned (take r.count r.runs) c.if-m-eq0.true (omega arith)

pub replay_runs-requires : goal.replay_runs-requires
replay_runs-requires c =
    let g = c.args in
    let r = g.map.now in
    let o : 1 ≤ g.m = omega arith in
    let k = c.requires.4.coded o in
    (omega arith, omega arith, k.keeps, coded_short g.size g.n g.m r.turned (take r.count r.runs) (omega arith) k)

pub returns : goal.returns
returns c =
    let g = c.args in
    let r = g.map.now in
    c.replay_runs.ensures ∙ ap (λ (x : List ℕ). padded 1024 0 x) (cells-some g.size g.n g.m r.turned (take r.count r.runs) (omega arith))
