-- `layflat::lay_block`: the levels after the rest.
use Rattle.std.proofs.Common.{ap, ◌∙◌}
use Rattle.std.proofs.lemmas.List.Edits.{sets}
use Rattle.base.specs.Laid.{laid_then}
use Rattle.layflat.specs.Front.{flat-front}
use Rattle.layflat.specs.Numbers.{all_levels_numbers}
use Rattle.layflat.proofs.lay_block.Goals as goal

pub returns : goal.returns
returns c = (laid_then c.lay_front-levels.ensures.0 (rw (all_levels_numbers c.args.cu.escapes) at c.lay_all.ensures)).after ∙ ap (sets c.args.list.now 0) (flat-front c.args.cu)
