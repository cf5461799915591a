use Rattle.std.specs.Prelude.{◌≡◌, false, ℕ, length, replicate}
use Rattle.std.specs.Float.{binary32}
use Rattle.std.specs.Float.Ieee.{of_bits}
use Rattle.std.proofs.Common.{ap, ◌∙◌, arith}
use Rattle.base.specs.Upto.{literal_0}
use Rattle.relax.specs.Table.{infinity_is}
use Rattle.relax.proofs.Paths.clear.Goals as goal

pub returns : goal.returns
returns c =
    let a : length c.args.self.now.cost ≡ 2050 = omega arith in
    let b : length c.args.self.now.pos ≡ 2050 = omega arith in
    let d : length c.args.self.now.st ≡ 2050 = omega arith in
    let x : c.fill.new.self ≡ replicate 2050 (of_bits binary32 2139095040) = c.fill.ensures.after (λ y e. e) ∙ ap (λ (k : ℕ). replicate k (of_bits binary32 2139095040)) a in
    let y : c.fill-2.new.self ≡ replicate 2050 0 = c.fill-2.ensures.after (λ y e. e) ∙ ap (λ (k : ℕ). replicate k 0) b in
    let z : c.fill-3.new.self ≡ replicate 2050 false = c.fill-3.ensures.after (λ y e. e) ∙ ap (λ (k : ℕ). replicate k false) d in
    rw (x, y, z, infinity_is, literal_0)
