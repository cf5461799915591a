use mathlib.Core.Path.{◌∙◌}
use native.Mathlib.Omega.{arith}
use Rattle.relax.specs.Jumps.{drawn}
use Rattle.relax.specs.JumpLaws.{first-low, skips_less}
use Rattle.draws.proofs.draw.Goals as goal

pub overflow_add-end : goal.overflow_add-end
overflow_add-end c = omega (arith, c.from.ensures, c.requires.2.high)

pub first_stop-first-requires : goal.first_stop-first-requires
first_stop-first-requires c = omega (arith, c.requires.2.low, c.requires.2.high)

pub stops-requires : goal.stops-requires
stops-requires c = let i = c.requires.2 in
    (omega arith, rw c.first_stop-first.ensures (first-low _ _ _ _ i.skips (omega (arith, i.low, i.high))), omega (arith, c.from.ensures, i.high), omega arith, skips_less _ _ _ i.skips (omega (arith, c.from.ensures, i.high)))

pub length_bits-requires : goal.length_bits-requires
length_bits-requires c = let i = c.requires.2 in (omega arith, omega (arith, c.from.ensures, i.low), omega (arith, c.from.ensures, i.high), omega arith)

pub overflow_mul-end : goal.overflow_mul-end
overflow_mul-end c = omega (arith, c.from.ensures, c.requires.2.high)

pub relax-requires : goal.relax-requires
relax-requires c = let i = c.requires.2 in (omega (arith, c.from.ensures, i.high), omega (arith, i.low, i.high))

pub returns : goal.returns
unfolding drawn
returns c = c.relax.ensures ∙ rw (c.stops.ensures, c.length_bits.ensures, c.first_stop-first.ensures, c.from.ensures)
