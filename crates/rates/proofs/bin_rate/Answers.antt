use Rattle.std.proofs.Common.{ne_eqb}
use Rattle.rates.specs.Rates.{rate_of}
use Rattle.rates.proofs.bin_rate.Goals as goal

pub returns-then-byte-eq0 : goal.returns-then-byte-eq0
unfolding rate_of
returns-then-byte-eq0 c = rw (c.if-byte-eq0.true, c.class_rates-p.ensures)

pub returns-else-byte-eq0 : goal.returns-else-byte-eq0
unfolding rate_of
returns-else-byte-eq0 c = rw (ne_eqb _ _ c.if-byte-eq0.false, c.class_rates-p.ensures)
