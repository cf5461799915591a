-- `smoothruns::smooth_run`: the ways of a run, in their order.
use mathlib.Core.Path.{sym, ◌∙◌}
use native.Mathlib.Omega.{arith}
use Rattle.smooth.specs.Seen.{seen}
use Rattle.smoothmoves.specs.Laws.{joins-some, copies-some}
use Rattle.smoothruns.specs.Laws.{run_escape, run_joined, run_copied, run_kept}
use Rattle.smoothruns.proofs.smooth_run.Goals as goal

pub bounds-indices-start : goal.bounds-indices-start
bounds-indices-start c = omega (arith, c.requires.1, c.requires.2)

pub returns-then-indices-start : goal.returns-then-indices-start
returns-then-indices-start c = let s = c.args in
    run_escape (seen s.s.now) s.indices.now s.start s.len c.if-indices-start.true

pub joins-requires : goal.joins-requires
joins-requires c = c.requires

pub overflow_sub-left : goal.overflow_sub-left
overflow_sub-left c = let s = c.args in
    joins-some (seen s.s.now) s.indices.now s.start s.len (sym c.joins.ensures ∙ c.if-joins.true)

pub bounds-indices-start-then-joins : goal.bounds-indices-start-then-joins
bounds-indices-start-then-joins c = omega (arith, c.requires.1, c.requires.2)

pub fill-requires : goal.fill-requires
fill-requires c = c.requires.2

pub returns-then-joins : goal.returns-then-joins
returns-then-joins c = let s = c.args in
    run_joined (seen s.s.now) s.indices.now s.start s.len _ c.if-indices-start.false (sym c.joins.ensures ∙ c.if-joins.true) c.fill.ensures

pub copies-requires : goal.copies-requires
copies-requires c = c.requires

pub copy_above-requires : goal.copy_above-requires
copy_above-requires c = let s = c.args in
    (c.requires.0, copies-some (seen s.s.now) s.indices.now s.start s.len (sym c.copies.ensures ∙ c.if-copies.true), c.requires.2)

pub returns-then-copies : goal.returns-then-copies
returns-then-copies c = let s = c.args in
    run_copied (seen s.s.now) s.indices.now s.start s.len _ c.if-indices-start.false (sym c.joins.ensures ∙ c.if-joins.false) (sym c.copies.ensures ∙ c.if-copies.true) c.copy_above.ensures

pub returns : goal.returns
returns c = let s = c.args in
    run_kept (seen s.s.now) s.indices.now s.start s.len c.if-indices-start.false (sym c.joins.ensures ∙ c.if-joins.false) (sym c.copies.ensures ∙ c.if-copies.false)
