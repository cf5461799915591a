-- `reps::join`: no room, or one is near, or it is new. Assumes nothing.
use Rattle.std.proofs.Common.{sym, ◌∙◌, arith}
use Rattle.reps.specs.Turns.{len, found-below, found-none, join_full, join-near, join_new}
use Rattle.reps.proofs.join.Goals as goal
use Rattle.reps.proofs.join.Goals.{then-n-limit-via-then-n-limit, then-n-limit-via-else-n-limit+then-is_some}

pub returns-then-n-limit : goal.returns-then-n-limit
returns-then-n-limit c =
    elim c.then-n-limit.branch [
      | then-n-limit-via-then-n-limit w ↦ join_full _ _ _ _ _ c.requires.0 c.requires.1 c.told-list w.if-n-limit.true
      | then-n-limit-via-else-n-limit+then-is_some w ↦
          let h = found-below _ _ _ w.hit.ensures.place w.hit.ensures.below (sym w.if-is_some.true ∙ w.is_some.ensures) in
          join-near _ _ _ _ _ c.requires.0 c.requires.1 c.told-list (omega (arith, h, len c.args.tol c.args.limit c.args.c c.args.n c.args.list.now c.requires.0 c.requires.1 c.told-list))
    ]

pub returns : goal.returns
returns c =
    let h = found-none _ _ _ c.hit.ensures.place (sym c.if-is_some.false ∙ c.is_some.ensures) in
    join_new _ _ _ _ _ c.requires.0 c.requires.1 c.told-list c.if-n-limit.false (omega (arith, h, len c.args.tol c.args.limit c.args.c c.args.n c.args.list.now c.requires.0 c.requires.1 c.told-list))
