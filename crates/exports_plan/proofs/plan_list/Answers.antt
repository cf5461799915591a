-- `exports_plan::plan_list`: the runs onto the list, or a refusal where there is no room.
use Rattle.std.proofs.Common.{refl, ◌∙◌, ℕ, ◌*◌, ◌/◌, ◌≤◌, ◌<◌, length, arith, le-leb}
use Rattle.std.proofs.lemmas.Bool.{lt-leb}
use Rattle.flat.specs.Flat.{block_of}
use Rattle.model.specs.WholeLaws.{whole}
use Rattle.paths.specs.Plan.{job, price_of, planned}
use Rattle.exports_plan.specs.Quick.{out-short, out-runs}
use Rattle.exports_plan.proofs.plan_list.Goals as goal

pub plan_onto-f-requires : goal.plan_onto-f-requires
unfolding block_of
plan_onto-f-requires c = (rw c.from.ensures (whole 64 (block_of c.args.block.now) c.requires.0.together).small, c.requires.3, c.requires.4)

pub returns-then-runs-f : goal.returns-then-runs-f
unfolding block_of
returns-then-runs-f c = let g = c.args in
    let cu = block_of g.block.now in
    let o = rw (c.from.ensures, c.cells_of-xs.ensures) at c.plan_onto-f.ensures in
    let w = c.plan_onto-f.auto.list ∙ refl in
    let n : ℕ = length (planned (job cu.size (cu.size * cu.size) g.most cu.indices (price_of g.m g.most))).runs in
    let t : length g.runs.now / 4 < n = omega (arith, c.if-runs-f.true, w, o.number) in
    rw (o.list, lt-leb n (length g.runs.now / 4) t)
    (out-short cu g.m (record { runs = g.runs.now; count = g.count.now; total = g.total.now }) c.requires.0.together c.requires.1 g.most c.requires.2 (λ z. omega (arith, c.requires.3)) t)

pub returns : goal.returns
unfolding block_of
returns c = let g = c.args in
    let cu = block_of g.block.now in
    let o = rw (c.from.ensures, c.cells_of-xs.ensures) at c.plan_onto-f.ensures in
    let w = c.plan_onto-f.auto.list ∙ refl in
    let n : ℕ = length (planned (job cu.size (cu.size * cu.size) g.most cu.indices (price_of g.m g.most))).runs in
    let t : n ≤ length g.runs.now / 4 = omega (arith, c.if-runs-f.false, w, o.number) in
    rw (c.store.ensures, c.store-2.ensures, o.number, o.sum, o.list, le-leb n (length g.runs.now / 4) t)
    (out-runs cu g.m (record { runs = g.runs.now; count = g.count.now; total = g.total.now }) c.requires.0.together c.requires.1 g.most c.requires.2 (λ z. omega (arith, c.requires.3)) t (omega (arith, o.few, o.number)))
