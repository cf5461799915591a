-- `digits::put_decimal`, which recurs on the number without its last digit: the inner call has laid the digits before it.
use Rattle.std.proofs.Common.{arith}
use Rattle.base.specs.Laid.{laid_then}
use Rattle.digits.specs.DecimalLaws.{decimal-one, decimal-more, decimal_19}
use Rattle.digits.proofs.+put_decimal.Goals as goal

pub returns-then-n-lt10 : goal.returns-then-n-lt10
returns-then-n-lt10 t c = record { laid = rw (decimal-one c.args.n c.if-n-lt10.true) c.put.ensures; near = omega (arith, c.put.ensures.next) }

pub returns : goal.returns
returns t c =
    let d = c.put_decimal-to.ensures.laid in
    record { laid = rw (decimal-more c.args.n c.if-n-lt10.false) (laid_then d c.put-2.ensures); near = omega (arith, d.next, c.put-2.ensures.next, decimal_19 c.args.n c.ranges.n.fits) }
