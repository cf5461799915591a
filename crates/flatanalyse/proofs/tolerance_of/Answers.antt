-- `flatanalyse::tolerance_of`: asked of a configuration in the domain alone.
use mathlib.Core.Path.{sym, ◌∙◌}
use Rattle.flatanalyse.proofs.tolerance_of.Goals as goal

pub tolerance_at-requires : goal.tolerance_at-requires
tolerance_at-requires c = sym c.config_in.ensures ∙ c.if-config_in.true

pub returns-then-config_in : goal.returns-then-config_in
returns-then-config_in c = rw (sym c.config_in.ensures ∙ c.if-config_in.true) c.tolerance_at.ensures

pub returns-else-config_in : goal.returns-else-config_in
returns-else-config_in c = rw (sym c.config_in.ensures ∙ c.if-config_in.false)
