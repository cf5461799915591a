-- `replay::replay_runs`: replaying the runs that are left onto the cells so far makes the whole.
use Rattle.std.proofs.Common.{◌≡◌, ◌+◌, ◌-◌, false, [], ◌∷◌, length, take, drop, get_or, replicate, ap, sym, ◌∙◌, arith, add-one, length-take-le, drop-cons}
use Rattle.std.proofs.lemmas.List.{drop_all}
use Rattle.base.specs.Lists.{padded-is, drop_more}
use Rattle.syntax.specs.Records.{no_run}
use Rattle.syntax.specs.Replay.{replay}
use Rattle.replay.specs.Into.{replay-turn, lay_length, lay_past}
use Rattle.replay.proofs.replay_runs.Goals as goal

pub lay_run-requires : goal.lay_run-requires
lay_run-requires c =
    let b = c.loop-r in
    let g = c.args in
    let e = drop-cons g.runs.now b.r-index no_run c.loop-r-test.true in
    let t = replay-turn g.size g.n b.scan b.prev b.cells _ _ _ (omega arith) (omega arith) e b.invariant.2 b.invariant.3 in
    (omega arith, omega (arith, c.end_of-to.ensures), omega (arith, c.end_of-to.ensures, t.inside), t.short)

pub loop-r-preserved : goal.loop-r-preserved
loop-r-preserved c =
    let b = c.loop-r in
    let g = c.args in
    let r = get_or g.runs.now b.r-index no_run in
    let e : drop b.r-index g.runs.now ≡ r ∷ drop (b.r-index + 1) g.runs.now = rw (add-one b.r-index) (drop-cons g.runs.now b.r-index no_run c.loop-r-test.true) in
    let t = replay-turn g.size g.n b.scan b.prev b.cells (drop b.r-index g.runs.now) r (drop (b.r-index + 1) g.runs.now) (omega arith) (omega arith) e b.invariant.2 b.invariant.3 in
    let a : c.end_of-to.result - b.scan ≡ r.more + 1 = omega (arith, c.end_of-to.ensures) in (
      omega (arith, c.end_of-to.ensures, t.inside),
      ap length c.lay_run.ensures ∙ lay_length _ _ _ _ _ _ _ ∙ b.invariant.1,
      rw c.end_of-to.ensures t.keeps,
      t.shorts,
      rw (c.lay_run.ensures, a, c.end_of-to.ensures) (t.same ∙ rw e at b.invariant.4),
      ap (drop c.end_of-to.result) c.lay_run.ensures ∙ lay_past _ _ b.scan (c.end_of-to.result - b.scan) _ _ c.end_of-to.result b.cells (omega (arith, c.end_of-to.ensures)) ∙ drop_more b.cells (replicate 1024 0) b.scan c.end_of-to.result (omega (arith, c.end_of-to.ensures)) b.invariant.5,
    )

pub returns : goal.returns
unfolding replay
returns c =
    let b = c.loop-r in
    let g = c.args in
    let z = drop_all b.r-index g.runs.now (omega arith) in
    let m : b.scan ≡ g.n = rw z at b.invariant.2 in
    let w : length (take b.scan b.cells) ≡ b.scan = length-take-le b.scan b.cells (omega (arith, b.invariant.1)) in
    padded-is 0 b.cells (replay g.size false [] g.runs.now) b.scan 1024 (rw z at b.invariant.4) b.invariant.5 (sym w ∙ ap length (rw z at b.invariant.4))
