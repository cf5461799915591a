-- `flatmade::front`: head, palette, flags.
use mathlib.Core.Path.{◌≡◌}
use lib.ListN.{length}
use Rattle.flatmade.specs.FrontLaws.{front-made}
use borrow.Author.Rules.{rules}
use Rattle.flatmade.proofs.front.Goals as goal

pub returns : goal.returns
returns c = let s = c.args in
    let a : length s.w.palette ≡ 64 = search rules in
    let b : length s.w.flags ≡ 128 = search rules in
    front-made s.c s.size s.predictors s.tol s.w a b _ _ _ c.head-out.ensures c.lay_palette.ensures c.lay_flags.ensures
