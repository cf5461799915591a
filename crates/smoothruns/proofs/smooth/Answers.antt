-- `smoothruns::smooth`. The loop's invariant: what is left makes the whole.
use mathlib.Core.Path.{sym, ◌∙◌}
use Prim.Native.Nat.{◌*◌, ◌-◌, ◌≤◌}
use native.Mathlib.Nat.{mul-le-mul}
use native.Mathlib.Omega.{arith}
use Rattle.std.proofs.Math.Bool.{or_comm}
use Rattle.smooth.specs.Seen.{seen}
use Rattle.smooth.specs.Smooth.{map}
use Rattle.smooth.specs.Laws.{smooth_first, smooth_end}
use Rattle.smoothruns.specs.Laws.{smooth_step}
use Rattle.smoothruns.proofs.smooth.Goals as goal

pub overflow_mul-n : goal.overflow_mul-n
overflow_mul-n c = let q : c.args.s.now.size * c.args.s.now.size ≤ 32 * 32 = mul-le-mul c.requires.1 c.requires.1 in omega arith

pub loop-start-init : goal.loop-start-init
loop-start-init c = let s = c.args in (omega arith, smooth_first (seen s.s.now) s.indices.now)

pub run_length-len-requires : goal.run_length-len-requires
run_length-len-requires c = let q : c.args.s.now.size * c.args.s.now.size ≤ 32 * 32 = mul-le-mul c.requires.1 c.requires.1 in (omega arith, omega arith)

pub smooth_run-changed-requires : goal.smooth_run-changed-requires
smooth_run-changed-requires c = let q : c.args.s.now.size * c.args.s.now.size ≤ 32 * 32 = mul-le-mul c.requires.1 c.requires.1 in
    (c.requires.0, c.run_length-len.ensures.1, omega (arith, c.run_length-len.ensures.2), c.requires.2)

pub overflow_add-start : goal.overflow_add-start
overflow_add-start c = let q : c.args.s.now.size * c.args.s.now.size ≤ 32 * 32 = mul-le-mul c.requires.1 c.requires.1 in omega (arith, c.run_length-len.ensures.2)

pub loop-start-smaller : goal.loop-start-smaller
loop-start-smaller c = omega (arith, c.run_length-len.ensures.1, c.run_length-len.ensures.2)

pub loop-start-preserved : goal.loop-start-preserved
loop-start-preserved c = let s = c.args in
    let l = c.loop-start in (
      omega (arith, c.run_length-len.ensures.2),
      rw (or_comm l.changed c.smooth_run-changed.result) (smooth_step (seen s.s.now) l.start c.run_length-len.result l.indices _ c.smooth_run-changed.result l.changed _ (omega arith) c.run_length-len.ensures.0 c.smooth_run-changed.ensures l.invariant.1),
    )

pub returns : goal.returns
returns c = let s = c.args in
    let l = c.loop-start in
    sym (smooth_end (seen s.s.now) (s.s.now.size * s.s.now.size - l.start) l.start (map l.indices l.changed) (omega arith)) ∙ l.invariant.1
