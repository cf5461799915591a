-- `getbits::bits_at` reads a fixed-length value as the definition does: what is left to read from here is what was to be read.
use Rattle.std.proofs.Common.{rules, ◌-◌, ◌+◌, arith, sym, ◌∙◌}
use Rattle.base.specs.Powers.{pow_next}
use Rattle.h265.specs.BitLaws.{bit_below}
use Rattle.h265.specs.Turns.{bits-turn, bits-refused, bits-end}
use Rattle.getbits.proofs.bits_at.Goals as goal

pub returns-in_err-bin-clause-value : goal.returns-in_err-bin-clause-value
returns-in_err-bin-clause-value c =
    let b = c.loop in
    let z = bits-refused (c.args.n - b.counter) (c.args.n - (b.counter + 1)) b.value b.reader.list.now b.reader.at (omega arith) _ _ (sym c.in_err-bin.ensures.value) in
    search rules

pub loop-preserved : goal.loop-preserved
loop-preserved c =
    let b = c.loop in
    let z = bits-turn (c.args.n - b.counter) (c.args.n - (b.counter + 1)) b.value b.reader.list.now b.reader.at (omega arith) _ _ (sym c.in_ok-bin.ensures.value) in
    record {
      small = omega (arith, b.invariant.small, c.from.ensures, pow_next b.counter, bit_below c.in_ok-bin.field-0);
      left = search rules;
      list = search rules;
    }

pub returns-clause-value : goal.returns-clause-value
returns-clause-value c = bits-end (c.args.n - c.loop.counter) c.loop.value c.loop.reader.list.now c.loop.reader.at (omega arith) ∙ c.loop.invariant.left
