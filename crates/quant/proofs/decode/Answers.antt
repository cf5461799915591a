-- `quant::decode`: the formula.
use Rattle.std.proofs.Common.{sym, ◌∙◌}
use Rattle.h265.specs.EscapeLaws.{value-up}
use Rattle.quant.proofs.decode.Goals as goal

pub returns : goal.returns
returns c = c.min.ensures ∙ sym (value-up c.args.step c.args.most c.args.level)
