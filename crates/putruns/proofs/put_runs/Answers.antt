-- `putruns::put_runs`. The invariant: the bins of the runs that are left, laid from here on, make the whole.
use mathlib.Core.Path.{sym, ap, ◌∙◌}
use mathlib.Core.List.{◌∷◌}
use Prim.Native.Nat.{◌+◌}
use native.Mathlib.Omega.{arith}
use lib.ListN.{drop}
use Rattle.base.specs.Laid.{left-start, left-turn, left_end}
use Rattle.flatplan.specs.Flat.{first_of}
use Rattle.flatplan.specs.First.{first_next, first-end}
use Rattle.syntax.specs.Runs.{Run, runs_bins}
use Rattle.putruns.specs.Going.{going_turn}
use Rattle.putruns.proofs.put_runs.Goals as goal

pub loop-i-init : goal.loop-i-init
loop-i-init c = (omega arith, c.requires.4, left-start _ _ _)

pub put_kind-to-requires : goal.put_kind-to-requires
put_kind-to-requires c = let b = c.loop-i in
    let g = c.args in
    let rs = drop (b.i + 1) (first_of g.runs.now g.count) in
    let e = first_next g.runs.now g.count b.i (omega arith) (omega arith) ∙ ap (λ (z : Run). z ∷ rs) (sym c.run_in-run.ensures) in
    let t = going_turn g.size g.n g.fin b.place.scan b.place.prev b.place.left (drop b.i (first_of g.runs.now g.count)) c.run_in-run.result rs e b.invariant.1 in
    (omega (arith, t.inside), omega arith)

pub left_after-requires : goal.left_after-requires
left_after-requires c = let b = c.loop-i in
    let g = c.args in
    let rs = drop (b.i + 1) (first_of g.runs.now g.count) in
    let e = first_next g.runs.now g.count b.i (omega arith) (omega arith) ∙ ap (λ (z : Run). z ∷ rs) (sym c.run_in-run.ensures) in
    let t = going_turn g.size g.n g.fin b.place.scan b.place.prev b.place.left (drop b.i (first_of g.runs.now g.count)) c.run_in-run.result rs e b.invariant.1 in
    t.used

pub put_more-to-requires : goal.put_more-to-requires
put_more-to-requires c = let b = c.loop-i in
    let g = c.args in
    let rs = drop (b.i + 1) (first_of g.runs.now g.count) in
    let e = first_next g.runs.now g.count b.i (omega arith) (omega arith) ∙ ap (λ (z : Run). z ∷ rs) (sym c.run_in-run.ensures) in
    let t = going_turn g.size g.n g.fin b.place.scan b.place.prev b.place.left (drop b.i (first_of g.runs.now g.count)) c.run_in-run.result rs e b.invariant.1 in
    (omega (arith, t.inside), omega arith, omega (arith, t.small, c.left_after.ensures), omega (arith, c.put_kind-to.ensures.near), t.ok c.left_after.result c.left_after.ensures)

pub overflow_add-place : goal.overflow_add-place
overflow_add-place c = let b = c.loop-i in
    let g = c.args in
    let rs = drop (b.i + 1) (first_of g.runs.now g.count) in
    let e = first_next g.runs.now g.count b.i (omega arith) (omega arith) ∙ ap (λ (z : Run). z ∷ rs) (sym c.run_in-run.ensures) in
    let t = going_turn g.size g.n g.fin b.place.scan b.place.prev b.place.left (drop b.i (first_of g.runs.now g.count)) c.run_in-run.result rs e b.invariant.1 in
    omega (arith, t.inside)

pub overflow_add-place-in-loop-i : goal.overflow_add-place-in-loop-i
overflow_add-place-in-loop-i c = let b = c.loop-i in
    let g = c.args in
    let rs = drop (b.i + 1) (first_of g.runs.now g.count) in
    let e = first_next g.runs.now g.count b.i (omega arith) (omega arith) ∙ ap (λ (z : Run). z ∷ rs) (sym c.run_in-run.ensures) in
    let t = going_turn g.size g.n g.fin b.place.scan b.place.prev b.place.left (drop b.i (first_of g.runs.now g.count)) c.run_in-run.result rs e b.invariant.1 in
    omega (arith, t.inside)

pub loop-i-preserved : goal.loop-i-preserved
loop-i-preserved c = let b = c.loop-i in
    let g = c.args in
    let rs = drop (b.i + 1) (first_of g.runs.now g.count) in
    let e = first_next g.runs.now g.count b.i (omega arith) (omega arith) ∙ ap (λ (z : Run). z ∷ rs) (sym c.run_in-run.ensures) in
    let t = going_turn g.size g.n g.fin b.place.scan b.place.prev b.place.left (drop b.i (first_of g.runs.now g.count)) c.run_in-run.result rs e b.invariant.1 in
    let f = c.left_after.ensures in
    let w = rw (e, t.bins c.left_after.result f) at b.invariant.2 in (
      omega (arith, c.put_kind-to.ensures.near, c.put_more-to.ensures.near),
      t.next c.left_after.result f,
      left-turn _ c.put_more-to.ensures.laid (left-turn _ c.put_kind-to.ensures.laid w),
    )

pub returns : goal.returns
unfolding runs_bins
returns c = let b = c.loop-i in
    let g = c.args in
    record { laid = left_end (rw (first-end g.runs.now g.count b.i (omega arith) (omega arith)) at b.invariant.2); near = omega arith }
