-- `rules::drawn_run`: the cells passed were tested.
use Rattle.std.proofs.Common.{◌∙◌, ◌+◌, ◌-◌, arith}
use Rattle.rules.specs.Words.{cell_at, always, same_none, same-on, same-early, word_same, first-same, drawn-same}
use Rattle.rules.proofs.drawn_run.Goals as goal

pub loop-i-init : goal.loop-i-init
loop-i-init c = (omega arith, omega arith, same_none (cell_at c.args.cells.now) (always c.args.v) (c.args.at - c.args.at) c.args.at (omega arith))

pub returns-then-bad-ne0 : goal.returns-then-bad-ne0
returns-then-bad-ne0 c =
    let g = c.args in
    let l = c.loop-i in
    let e = word_same (cell_at g.cells.now) (always g.v) l.i _ _ c.word-a.ensures c.four_times-four.ensures (l.i + 4 - l.i) (omega arith) in
    let s = same-on (cell_at g.cells.now) (always g.v) l.bad _ g.at l.i (l.i + 4) l.invariant.0 (omega arith) l.invariant.2 e in
    let t = same-early (cell_at g.cells.now) (always g.v) _ g.at (l.i + 4) g.to (omega arith) (omega arith) c.if-bad-ne0.true s in
    t ∙ drawn-same g.v g.cells.now (g.to - g.at) g.at

pub loop-i-preserved : goal.loop-i-preserved
loop-i-preserved c =
    let g = c.args in
    let l = c.loop-i in
    let e = word_same (cell_at g.cells.now) (always g.v) l.i _ _ c.word-a.ensures c.four_times-four.ensures (l.i + 4 - l.i) (omega arith) in
    (omega arith, omega arith, same-on (cell_at g.cells.now) (always g.v) l.bad _ g.at l.i (l.i + 4) l.invariant.0 (omega arith) l.invariant.2 e)

pub returns : goal.returns
returns c =
    let g = c.args in
    let l = c.loop-i in
    let e = c.first_differ.ensures ∙ first-same (cell_at g.cells.now) (always g.v) l.i _ _ c.word-a-2.ensures c.four_times-four.ensures (g.to - l.i) (omega arith) (omega arith) in
    same-on (cell_at g.cells.now) (always g.v) l.bad _ g.at l.i g.to l.invariant.0 (omega arith) l.invariant.2 e ∙ drawn-same g.v g.cells.now (g.to - g.at) g.at
