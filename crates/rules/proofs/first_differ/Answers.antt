-- `rules::first_differ`
use native.Mathlib.Omega.{arith}
use Rattle.rules.specs.Words.{shifted_none}
use Rattle.rules.proofs.first_differ.Goals as goal

pub returns : goal.returns
returns c = shifted_none c.args.a c.args.b c.args.k _ c.requires.0 c.requires.1 (omega arith)
