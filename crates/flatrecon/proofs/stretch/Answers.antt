-- `flatrecon::stretch`: entries where none escapes, else cell by cell.
use Rattle.std.proofs.Common.{sym, ◌∙◌, arith}
use Rattle.flatrecon.specs.Cells.{quiet_indexed, quiet_painted}
use Rattle.flatrecon.proofs.stretch.Goals as goal

pub paint-requires : goal.paint-requires
paint-requires c = let s = c.args in (c.requires.1, c.requires.2, omega arith, c.requires.5, quiet_indexed s.list.now s.i s.n s.p (sym c.quiet.ensures ∙ c.if-quiet.true) c.requires.4 c.requires.6 c.requires.7)

pub returns-then-quiet : goal.returns-then-quiet
returns-then-quiet c = let s = c.args in c.paint.ensures ∙ quiet_painted s.list.now s.i s.n s.p (sym c.quiet.ensures ∙ c.if-quiet.true) c.requires.4 s.s s.palette.now s.out.now
