-- `putindices::count_index`. The invariant: the index runs counted and those left make the whole.
use mathlib.Core.Path.{sym, ap, ◌∙◌}
use mathlib.Core.List.{◌∷◌}
use Prim.Native.Nat.{◌+◌}
use native.Mathlib.Omega.{arith}
use lib.ListN.{drop}
use Rattle.flatplan.specs.Flat.{first_of}
use Rattle.flatplan.specs.First.{first_next, first-end}
use Rattle.syntax.specs.Runs.{Run}
use Rattle.putindices.specs.Counts.{sent_next, sent_none, one-most}
use Rattle.putindices.proofs.count_index.Goals as goal

pub loop-i-init : goal.loop-i-init
loop-i-init c = (omega arith, omega arith)

pub loop-i-preserved : goal.loop-i-preserved
loop-i-preserved c = let b = c.loop-i in
    let g = c.args in
    let r = c.run_in.result in
    let rs = drop (b.i + 1) (first_of g.runs.now g.count) in
    let e = first_next g.runs.now g.count b.i (omega arith) (omega arith) ∙ ap (λ (z : Run). z ∷ rs) (sym c.run_in.ensures) in
    (omega (arith, c.used_after-k.ensures, one-most r.above), omega (arith, c.used_after-k.ensures, sent_next _ r _ e))

pub returns : goal.returns
returns c = let b = c.loop-i in
    let g = c.args in
    let z = first-end g.runs.now g.count b.i (omega arith) (omega arith) in
    omega (arith, sent_none _ z)
