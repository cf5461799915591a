-- `putindices::final_kind`
use mathlib.Core.Path.{◌≡◌, sym, ap, ◌∙◌}
use mathlib.Core.Bool.{false}
use Prim.Native.Nat.{◌-◌}
use native.Mathlib.Nat.{min-eq_left}
use native.Mathlib.Omega.{arith}
use borrow.Author.Tests.{le-ltb}
use Rattle.flatplan.specs.Flat.{runs_of}
use Rattle.flatplan.specs.First.{runs-long, run_is}
use Rattle.syntax.specs.Runs.{Run}
use Rattle.putindices.specs.Counts.{final_take, final_none}
use Rattle.putindices.proofs.final_kind.Goals as goal

pub returns-then-count-gt0 : goal.returns-then-count-gt0
returns-then-count-gt0 c = let g = c.args in
    let l = g.runs.now in
    ap (λ (z : Run). z.above) (c.run_in.ensures ∙ sym (run_is l g.count (g.count - 1) (omega (arith, min-eq_left c.requires.0))))
    ∙ final_take false (runs_of l g.count) g.count (omega arith) (omega (arith, runs-long l g.count))

pub returns-else-count-gt0 : goal.returns-else-count-gt0
returns-else-count-gt0 c = let z : c.args.count ≡ 0 = omega arith in le-ltb 0 c.args.count c.if-count-gt0.false ∙ final_none false (runs_of c.args.runs.now c.args.count) c.args.count z
