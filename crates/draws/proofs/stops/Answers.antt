-- `draws::stops`. The loop's invariant: the stops from q on are what is left of the stops from the first on.
use mathlib.Core.Path.{refl, sym, ◌∙◌}
use Prim.Native.Nat.{◌+◌}
use native.Mathlib.Omega.{arith}
use lib.Ieee.{binary32, add}
use Rattle.relax.specs.Table.{table_of}
use Rattle.relax.specs.Jumps.{length_from}
use Rattle.relax.specs.JumpLaws.{past, jump}
use Rattle.draws.proofs.stops.Goals as goal

pub loop-q-init : goal.loop-q-init
loop-q-init c = (omega arith, refl)

pub loop-q-smaller : goal.loop-q-smaller
loop-q-smaller c = omega (arith, c.from-q.ensures, c.requires.4.on (c.loop-q.q + 1) (omega arith) (omega arith))

pub loop-q-preserved : goal.loop-q-preserved
loop-q-preserved c = let g = c.args in
    let b = c.loop-q in (
      omega (arith, c.from-q.ensures, c.requires.4.on (b.q + 1) (omega arith) (omega arith)),
      rw (c.from-q.ensures, c.relax.ensures, c.length_bits.ensures)
          (sym (jump g.next.now g.end (λ i. add binary32 g.s.head (length_from g.sums.now.short g.sums.now.full g.s.row g.s.n g.s.p i)) g.s.p g.s.k c.requires.4 g.end b.q (table_of b.paths) (omega arith) (omega arith)) ∙ b.invariant.1),
    )

pub returns : goal.returns
returns c = sym (past _ _ _ _ _ _ _ _ c.loop-q-test.false) ∙ c.loop-q.invariant.1
