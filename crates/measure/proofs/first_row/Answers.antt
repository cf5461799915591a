use Rattle.std.proofs.Common.{◌∙◌, ◌≡◌, ◌≤◌, ◌++◌, ap, List, ℕ, drop, length, replicate, length-take-le, arith}
use Rattle.measure.specs.Steps.{laid_fill}
use Rattle.measure.proofs.first_row.Goals as goal

pub returns : goal.returns
returns c =
    let n : c.args.size ≤ length c.args.above.now = omega arith in
    let h : c.fill.new.self ≡ replicate c.args.size 0 = c.fill.ensures.after (λ y e. e) ∙ ap (λ (k : ℕ). replicate k 0) (length-take-le c.args.size c.args.above.now n) in
    ap (λ (l : List ℕ). l ++ drop c.args.size c.args.above.now) h ∙ laid_fill 0 c.args.above.now c.args.size n
