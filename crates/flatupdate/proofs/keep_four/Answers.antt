-- `flatupdate::keep_four`: one after the other.
use native.Mathlib.Omega.{arith}
use Rattle.flatupdate.specs.Renewing.{walked_one, walked_next}
use Rattle.flatupdate.proofs.keep_four.Goals as goal

pub keep_one-a-requires : goal.keep_one-a-requires
keep_one-a-requires c = (c.requires.0, c.requires.1, c.requires.2, omega arith, omega arith)

pub keep_one-b-requires : goal.keep_one-b-requires
keep_one-b-requires c = (omega (arith, c.keep_one-a.ensures.long), c.requires.1, c.requires.2, omega (arith, c.keep_one-a.ensures.most), omega arith)

pub keep_one-c-requires : goal.keep_one-c-requires
keep_one-c-requires c = (omega (arith, c.keep_one-a.ensures.long, c.keep_one-b.ensures.long), c.requires.1, c.requires.2, omega (arith, c.keep_one-a.ensures.most, c.keep_one-b.ensures.most), omega arith)

pub keep_one-requires : goal.keep_one-requires
keep_one-requires c = (omega (arith, c.keep_one-a.ensures.long, c.keep_one-b.ensures.long, c.keep_one-c.ensures.long), c.requires.1, c.requires.2, omega (arith, c.keep_one-a.ensures.most, c.keep_one-b.ensures.most, c.keep_one-c.ensures.most), omega arith)

pub returns : goal.returns
returns c = let l = c.args.list.now in
    let o = c.args.old.now in
    let b = c.args.block.now in
    let k = c.args.k in
    let j = c.args.j in
    let w₁ = walked_one l o b k j _ _ c.keep_one-a.ensures in
    let w₂ = walked_next l o b k j 1 _ _ _ _ w₁ c.keep_one-b.ensures in
    let w₃ = walked_next l o b k j 2 _ _ _ _ w₂ c.keep_one-c.ensures in
    walked_next l o b k j 3 _ _ _ _ w₃ c.keep_one.ensures
