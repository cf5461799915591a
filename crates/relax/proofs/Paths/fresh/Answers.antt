use Rattle.relax.proofs.Paths.fresh.Goals as goal

pub returns : goal.returns
returns c = c.clear.ensures
