-- `source::all_fit`: where the colours fit joined each does; else one by one.
use Rattle.std.proofs.Common.{length, sym, ◌∙◌}
use Rattle.source.specs.Joined.{above-fits}
use Rattle.source.proofs.all_fit.Goals as goal

pub returns-then-fit : goal.returns-then-fit
returns-then-fit c = c.if-fit.true ∙ above-fits c.args.cells.now (length c.args.cells.now) c.joined.result c.args.ym c.args.cm c.joined.ensures (sym c.fit.ensures ∙ c.if-fit.true)
