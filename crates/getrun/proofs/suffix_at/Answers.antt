-- `getrun::suffix_at` reads a run's suffix as the definition does.
use Rattle.std.proofs.Common.{rules, arith, sym, ◌-◌, pow_mono, pow_pos}
use Rattle.h265.specs.Strings.{flog}
use Rattle.h265.specs.StringLaws.{flog-low}
use Rattle.h265.proofs.TbLaws.{tb_code}
use Rattle.h265.specs.Turns.{suffix_none, suffix_some}
use Rattle.bins.specs.Logarithm.{flog-most}
use Rattle.getrun.proofs.suffix_at.Goals as goal

pub returns-then-k-eq0-clause-value : goal.returns-then-k-eq0-clause-value
returns-then-k-eq0-clause-value c = suffix_none _ _ _ _ c.if-k-eq0.true

pub pow2-p-requires : goal.pow2-p-requires
pow2-p-requires c = omega (arith, flog-most c.args.longest 11 (omega arith) (omega arith))

pub suffixes-n-requires : goal.suffixes-n-requires
suffixes-n-requires c = (omega (arith, c.pow2-p.ensures, flog-low c.args.longest (omega arith), pow_mono {i = c.args.k - 1} {j = flog c.args.longest} (omega arith)), omega arith)

pub returns-in_err-tb_at-clause-value : goal.returns-in_err-tb_at-clause-value
returns-in_err-tb_at-clause-value c =
    let a = c.args in
    rw (suffix_some a.longest a.k (a.k - 1) a.reader.now.list.now a.reader.now.at (omega arith), ← c.suffixes-n.ensures.0 (a.k - 1) c.pow2-p.ensures, ← c.in_err-tb_at.ensures.value) (search rules)

pub overflow_add-result : goal.overflow_add-result
overflow_add-result c =
    let f = sym c.in_ok-tb_at.ensures.value in
    omega (arith, c.suffixes-n.ensures.1, ((tb_code c.suffixes-n.result (c.suffixes-n.ensures.2 (omega (arith, c.pow2-p.ensures, pow_pos (c.args.k - 1))))).back _ _ _ _ f).1, c.pow2-p.ensures, flog-low c.args.longest (omega arith), pow_mono {i = c.args.k - 1} {j = flog c.args.longest} (omega arith))

pub returns-clause-value : goal.returns-clause-value
returns-clause-value c =
    let a = c.args in
    rw (suffix_some a.longest a.k (a.k - 1) a.reader.now.list.now a.reader.now.at (omega arith), ← c.suffixes-n.ensures.0 (a.k - 1) c.pow2-p.ensures, ← c.in_ok-tb_at.ensures.value) (search rules)
