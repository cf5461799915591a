-- `putrun::prefix_of`: one more than the logarithm.
use Prim.Native.Nat.{◌*◌, ◌^◌, ◌<◌}
use native.Mathlib.Omega.{arith}
use Rattle.base.specs.Powers.{pow_next}
use Rattle.h265.specs.Strings.{prefix_of, flog}
use Rattle.h265.specs.StringLaws.{flog-low, flog-high}
use Rattle.h265.proofs.RunLaws.{prefix_is}
use Rattle.bins.specs.Logarithm.{flog-most}
use Rattle.putrun.proofs.prefix_of.Goals as goal

pub returns-then-more-eq0 : goal.returns-then-more-eq0
unfolding prefix_of
returns-then-more-eq0 c = rw c.if-more-eq0.true

pub overflow_add-result : goal.overflow_add-result
overflow_add-result c = omega (arith, c.flog.ensures, flog-most c.args.more 11 (omega arith) (omega arith))

pub returns-else-more-eq0 : goal.returns-else-more-eq0
returns-else-more-eq0 c = let m = c.args.more in
    let hi : m < 2 * 2 ^ flog m = omega (arith, flog-high m (omega arith), pow_next (flog m)) in
    omega (arith, c.flog.ensures, prefix_is (flog m) m (flog-low m (omega arith)) hi)
