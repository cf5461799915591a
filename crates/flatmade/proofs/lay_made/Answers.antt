-- `flatmade::lay_made`: the front, then zeros.
use mathlib.Core.Path.{◌≡◌}
use lib.ListN.{length}
use Rattle.flatmade.specs.FrontLaws.{block_laid}
use borrow.Author.Rules.{rules}
use Rattle.flatmade.proofs.lay_made.Goals as goal

pub front-first-requires : goal.front-first-requires
front-first-requires c = c.requires

pub returns : goal.returns
returns c = let s = c.args in
    let a : length s.w.palette ≡ 64 = search rules in
    let b : length s.w.flags ≡ 128 = search rules in
    block_laid s.c s.size s.predictors s.tol s.w a b s.list.now _ _ (rw c.front-first.ensures at c.lay_front.ensures) c.lay_cells.ensures
