-- `measure::fill_lengths`. The loop's invariant: the cells from p on are measured.
use Rattle.std.proofs.Common.{◌≡◌, ap, ◌∙◌, Bool, [], ◌∷◌, ◌+◌, ◌-◌, ◌≤◌, ◌<◌, eqb, leb, get_or, arith}
use native.Mathlib.Nat.{sub-zero}
use Rattle.base.specs.Cells.{laid_on_lem, laid-empty}
use Rattle.base.specs.Pick.{pick}
use Rattle.base.specs.Tests.{ands-every}
use Rattle.h265.specs.Scan.{above_at}
use Rattle.paths.specs.CellLaws.{index_le, above_le}
use Rattle.measure.specs.Steps.{laid-down, laid-after, stretch_step, above-end, measured_none, copies-is, turn_run, turn-stretch, turn-copied, measured_turn}
use Rattle.measure.proofs.fill_lengths.Goals as goal

pub loop-p-init : goal.loop-p-init
loop-p-init c = (omega arith, measured_none _ _ _, laid-empty _ _ _ _, laid-empty _ _ _ _, laid-empty _ _ _ _)

pub index_step-run-requires : goal.index_step-run-requires
index_step-run-requires c = omega (arith, c.loop-p.invariant.1.run_is, index_le c.args.n c.args.xs.now c.loop-p.p (omega arith))

pub above_step-copied-requires : goal.above_step-copied-requires
above_step-copied-requires c = omega (arith, c.loop-p.invariant.1.copied_is, above_le c.args.size c.args.n c.args.xs.now c.loop-p.p (omega arith))

pub loop-p-preserved : goal.loop-p-preserved
loop-p-preserved c = let g = c.args in
    let b = c.loop-p in
    let i = b.invariant.1 in
    let h : 0 < b.p = omega arith in
    let w : b.p ≤ g.n = omega arith in
    let z : b.p - 1 + 1 ≡ b.p = omega arith in
    let u : get_or g.above.now (b.p - 1) 0 ≡ above_at g.size g.xs.now (b.p - 1) = c.requires.1 (b.p - 1) (omega arith) in
    let eh = ands-every (leb g.size (b.p - 1)) (eqb (get_or g.xs.now (b.p - 1) 0) (get_or g.above.now (b.p - 1) 0) ∷ []) ∙ copies-is g.size g.n g.xs.now (b.p - 1) (get_or g.above.now (b.p - 1) 0) u in
    let er = c.index_step-run.ensures ∙ turn_run g.size g.n g.xs.now b.p b.after b.run b.copied b.stretch (get_or g.above.now (b.p - 1) 0) h w u i in
    let es = (rw z at c.stretch_step-stretch.ensures) ∙ (ap (λ (x : Bool). stretch_step x b.copied b.p b.stretch) eh ∙ turn-stretch g.size g.n g.xs.now b.p b.after b.run b.copied b.stretch (get_or g.above.now (b.p - 1) 0) h w u i) in
    let ec = c.above_step-copied.ensures ∙ (ap (λ (x : Bool). pick x (b.copied + 1) 0) eh ∙ turn-copied g.size g.n g.xs.now b.p b.after b.run b.copied b.stretch (get_or g.above.now (b.p - 1) 0) h w u i) in (
      omega arith,
      rw (er, ec, es) (measured_turn g.size g.n g.xs.now b.p b.after b.run b.copied b.stretch (get_or g.above.now (b.p - 1) 0) h w u i),
      laid-down _ _ _ g.n b.p _ h w b.invariant.2 er,
      laid-down _ _ _ g.n b.p _ h w b.invariant.3 ec,
      rw z (rw z at (laid-after _ _ _ g.n b.p _ h w b.invariant.4 es)),
    )

pub returns : goal.returns
returns c = let g = c.args in
    let b = c.loop-p in
    let e : b.p ≡ 0 = omega arith in
    let y : g.n + 1 - 1 ≡ g.n = omega arith in
    let i = b.invariant in (
      rw (e, sub-zero g.n) at i.2,
      laid_on_lem _ _ _ g.n _ (rw (e, sub-zero g.n) at i.3) (above-end g.size g.n g.xs.now g.n),
      rw (e, y) at i.4,
    )
