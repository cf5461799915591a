-- `flatrecon::entries_in`: one entry more.
use Rattle.std.proofs.Common.{ℕ, replicate, sym, ◌∙◌}
use Rattle.std.proofs.lemmas.List.{length-replicate}
use Rattle.std.proofs.Math.ListN.{length-set}
use Rattle.base.specs.Cells.{laid_none, laid_on_lem}
use Rattle.flatrecon.specs.Cells.{entry_of}
use Rattle.flatrecon.proofs.entries_in.Goals as goal

pub loop-k-init : goal.loop-k-init
loop-k-init c = (length-replicate {A = ℕ} 64 0, sym (laid_none _ _ _))

pub loop-k-preserved : goal.loop-k-preserved
loop-k-preserved c =
    let l = c.loop-k in
    (length-set l.out l.k _ ∙ l.invariant.0, laid_on_lem (entry_of c.args.list.now) (replicate 64 0) l.out l.k _ l.invariant.1 c.entry_at.ensures)
