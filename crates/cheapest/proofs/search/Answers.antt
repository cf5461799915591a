use Rattle.paths.specs.Plan.{end_cost}
use Rattle.cheapest.specs.SearchLaws.{charted}
use Rattle.cheapest.proofs.search.Goals as goal

pub returns : goal.returns
unfolding end_cost
returns c = let e = rw c.clear.ensures at c.sweep.ensures in
    charted _ c.args.task.now.few _ _ _ e _ c.args.task.now.measured.above_is
