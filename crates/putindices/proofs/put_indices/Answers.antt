-- `putindices::put_indices`. The invariant: the bins of the indices that are left, laid from here on, make the whole.
use mathlib.Core.Path.{sym, ap, ◌∙◌}
use mathlib.Core.List.{◌∷◌}
use Prim.Native.Nat.{◌+◌, ◌-◌}
use native.Mathlib.Omega.{arith}
use lib.ListN.{drop}
use Rattle.base.specs.Laid.{left-start, left-turn, left_end}
use Rattle.flatplan.specs.Flat.{first_of}
use Rattle.flatplan.specs.First.{first_next, first-end}
use Rattle.syntax.specs.Block.{alphabets}
use Rattle.syntax.specs.Runs.{Run}
use Rattle.putindices.specs.Counts.{one-most}
use Rattle.putindices.specs.Index.{none-laid, index-turn}
use Rattle.putindices.proofs.put_indices.Goals as goal

pub loop-i-init : goal.loop-i-init
loop-i-init c = (omega arith, omega arith, c.requires.6, left-start _ _ _)

pub put_index-to-requires : goal.put_index-to-requires
put_index-to-requires c = let b = c.loop-i in
    let g = c.args in
    let r = c.run_in-run.result in
    let rs = drop (b.i + 1) (first_of g.runs.now g.count) in
    let e = first_next g.runs.now g.count b.i (omega arith) (omega arith) ∙ ap (λ (z : Run). z ∷ rs) (sym c.run_in-run.ensures) in
    let t = index-turn g.m g.total b.k (drop b.i (first_of g.runs.now g.count)) r rs (omega arith) e b.invariant.2 in
    rw c.alphabet_of-alphabet.ensures (omega arith, t.small)

pub loop-i-preserved : goal.loop-i-preserved
loop-i-preserved c = let b = c.loop-i in
    let g = c.args in
    let r = c.run_in-run.result in
    let rs = drop (b.i + 1) (first_of g.runs.now g.count) in
    let e = first_next g.runs.now g.count b.i (omega arith) (omega arith) ∙ ap (λ (z : Run). z ∷ rs) (sym c.run_in-run.ensures) in
    let t = index-turn g.m g.total b.k (drop b.i (first_of g.runs.now g.count)) r rs (omega arith) e b.invariant.2 in (
      omega (arith, c.used_after-k.ensures, one-most r.above),
      omega (arith, c.put_index-to.ensures.near),
      rw c.used_after-k.ensures t.next,
      rw c.used_after-k.ensures (left-turn _ (rw c.alphabet_of-alphabet.ensures at c.put_index-to.ensures.laid) (rw t.bins at b.invariant.3)),
    )

pub returns : goal.returns
returns c = let b = c.loop-i in
    let g = c.args in
    let z = first-end g.runs.now g.count b.i (omega arith) (omega arith) in
    record { laid = left_end (rw (none-laid (drop b.k (alphabets g.m (g.total - 1))) _ z) at b.invariant.3); near = omega arith }
