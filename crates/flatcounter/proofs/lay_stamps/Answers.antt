-- `flatcounter::lay_stamps`. The loop's invariant: what is left makes the whole.
use Rattle.std.proofs.Common.{◌≡◌, ◌+◌, refl, ◌∙◌, min, length, arith, length-set}
use Rattle.flatcounter.specs.CounterLaws.{laying_next, stamps_laid}
use Rattle.flatcounter.proofs.lay_stamps.Goals as goal

pub loop-i-init : goal.loop-i-init
loop-i-init c = (refl, refl)

pub loop-i-preserved : goal.loop-i-preserved
loop-i-preserved c = let l = c.loop-i in
    let z : 1 + (l.i + 1) ≡ 1 + l.i + 1 = omega arith in (
      length-set l.list (1 + l.i) _ ∙ l.invariant.0,
      rw z (laying_next l.list _ c.args.xs.now (1 + l.i) l.i (omega (arith, c.saturating_sub-i-end.ensures, c.min.ensures, c.requires)) l.invariant.1),
    )

pub returns : goal.returns
returns c = let l = c.loop-i in stamps_laid l.list _ c.args.xs.now l.i (min 257 (length l.list)) c.requires refl (omega (arith, c.saturating_sub-i-end.ensures, c.min.ensures, l.invariant.0)) l.invariant.1
