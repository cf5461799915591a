-- `flatcounter::read_keys`. The loop's invariant: the places passed are laid.
use Rattle.std.proofs.Common.{List, ℕ, refl, sym, ap, ◌∙◌, length, arith, length-set}
use Rattle.std.proofs.lemmas.List.{length-replicate}
use Rattle.base.specs.Cells.{laid_none, laid_on_lem}
use Rattle.flat.specs.Flat.{number}
use Rattle.flatcounter.specs.CounterLaws.{keys_read}
use Rattle.flatcounter.proofs.read_keys.Goals as goal

pub loop-i-init : goal.loop-i-init
loop-i-init c = (ap (λ (z : List ℕ). length z) c.requires ∙ length-replicate {A = ℕ} 256 0, sym (laid_none _ _ _))

pub loop-i-preserved : goal.loop-i-preserved
loop-i-preserved c = let l = c.loop-i in (
  length-set l.out l.i _ ∙ l.invariant.0,
  laid_on_lem (λ (j : ℕ). number c.args.list.now j) c.args.out.now l.out l.i _ l.invariant.1 refl,
)

pub returns : goal.returns
returns c = let l = c.loop-i in keys_read c.args.list.now l.out l.i l.i (omega (arith, c.min-i-end.ensures)) (omega arith) (omega arith) (rw c.requires at l.invariant.1)
