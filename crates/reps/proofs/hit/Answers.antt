-- `reps::hit`: tried one by one, unless none is near. Assumes nothing.
use Rattle.std.proofs.Common.{◌∙◌, ap}
use Rattle.reps.specs.Reps.{place_in}
use Rattle.reps.specs.Laws.{hit_place}
use Rattle.reps.specs.Near.{no_hit_in}
use Rattle.reps.proofs.hit.Goals as goal

pub returns-then-not-near-clause-place : goal.returns-then-not-near-clause-place
returns-then-not-near-clause-place c = no_hit_in c.args.tol c.args.e c.args.list.now (c.near.ensures c.if-not-near.true)

pub returns-clause-place : goal.returns-clause-place
returns-clause-place c = ap (place_in c.args.list.now) c.scan.ensures ∙ hit_place c.args.tol c.args.e c.args.list.now
