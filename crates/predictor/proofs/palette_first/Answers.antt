-- `predictor::palette_first`: the entries, and the empty ones that stand after them.
use Rattle.std.proofs.Common.{◌≡◌, ◌-◌, take, drop, replicate, length, arith, length-take-le}
use Rattle.std.proofs.lemmas.List.{drop-replicate}
use Rattle.model.specs.Domain.{no_color}
use Rattle.predictor.specs.Update.{padded}
use Rattle.predictor.specs.UpdateLaws.{empty-start}
use Rattle.predictor.proofs.palette_first.Goals as goal

pub returns : goal.returns
unfolding padded
returns c =
    let e = (empty-start c.reset.result c.reset.ensures).1 in
    let n : length (take c.args.n c.args.palette.now) ≡ c.args.n = length-take-le c.args.n c.args.palette.now (omega arith) in
    let d : drop c.args.n (replicate 128 no_color) ≡ replicate (128 - c.args.n) no_color = drop-replicate c.args.n 128 no_color in
    rw (c.copy_from_slice.ensures.after, e, n) (rw d)
