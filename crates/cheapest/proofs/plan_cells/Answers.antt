use mathlib.Core.Path.{ap, ◌∙◌}
use Prim.Native.Nat.{ℕ, ◌*◌, ◌≤◌}
use native.Mathlib.Omega.{arith}
use lib.ListN.{length-replicate}
use native.Mathlib.Nat.{mul-le-mul}
use Rattle.finish.specs.Found.{found_of}
use Rattle.cheapest.proofs.plan_cells.Goals as goal

pub chart-ends-requires : goal.chart-ends-requires
chart-ends-requires c = (c.requires.0, c.requires.1, c.requires.2, length-replicate {A = ℕ} 1024 0)

pub overflow_mul-size : goal.overflow_mul-size
overflow_mul-size c = let h : c.args.size * c.args.size ≤ 32 * 32 = mul-le-mul c.requires.0 c.requires.0 in omega arith

pub finish-requires : goal.finish-requires
finish-requires c = let h : c.args.size * c.args.size ≤ 32 * 32 = mul-le-mul c.requires.0 c.requires.0 in
    (omega arith, c.chart-ends.ensures.falls)

pub returns : goal.returns
returns c = c.finish.ensures ∙ ap found_of c.chart-ends.ensures.path
