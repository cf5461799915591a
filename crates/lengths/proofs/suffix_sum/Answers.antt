use mathlib.Core.Path.{ap, ◌∙◌}
use Prim.Native.Nat.{ℕ, ◌^◌}
use native.Mathlib.Omega.{arith}
use borrow.Author.Tests.{ne_eqb}
use Rattle.bins.specs.Logarithm.{flog-most}
use Rattle.h265.specs.Strings.{flog}
use Rattle.h265.specs.StringLaws.{flog-low}
use Rattle.sums.specs.Sums.{suffix_sum}
use Rattle.lengths.proofs.suffix_sum.Goals as goal

pub returns-then-more-eq0 : goal.returns-then-more-eq0
unfolding suffix_sum
returns-then-more-eq0 c = rw c.if-more-eq0.true

pub pow2-p-requires : goal.pow2-p-requires
pow2-p-requires c = omega (arith, c.flog.ensures, flog-most c.args.more 11 (omega arith) (omega arith))

pub suffixes-requires : goal.suffixes-requires
suffixes-requires c = let pe = c.pow2-p.ensures ∙ ap (λ (x : ℕ). 2 ^ x) c.flog.ensures in
    (omega (arith, pe, flog-low c.args.more (omega arith)), omega arith)

pub overflow_sub-more : goal.overflow_sub-more
overflow_sub-more c = let pe = c.pow2-p.ensures ∙ ap (λ (x : ℕ). 2 ^ x) c.flog.ensures in
    omega (arith, pe, flog-low c.args.more (omega arith))

pub tb_sum-requires : goal.tb_sum-requires
tb_sum-requires c = omega (arith, c.suffixes.ensures.1)

pub returns : goal.returns
unfolding suffix_sum
returns c = let pe = c.pow2-p.ensures ∙ ap (λ (x : ℕ). 2 ^ x) c.flog.ensures in
    let se = c.suffixes.ensures.0 (flog c.args.more) pe in
    c.tb_sum.ensures ∙ rw (ne_eqb _ _ c.if-more-eq0.false, ← se, ← pe)
