-- `put::lay_word`: the first bytes, then the last ones over some of them.
use mathlib.Core.Path.{◌≡◌, refl}
use native.Mathlib.Omega.{arith}
use Rattle.base.specs.Laid.{laid_none}
use Rattle.put.specs.Words.{bytes, laid_twice}
use Rattle.put.proofs.lay_word.Goals as goal

pub returns-then-n-ge4 : goal.returns-then-n-ge4
returns-then-n-ge4 c = laid_twice 4 c.args.n c.args.w c.args.list.now c.args.at c.if-n-ge4.true (omega arith) c.store.ensures c.store-then-n-ge4.ensures

pub returns-then-n-ge2 : goal.returns-then-n-ge2
returns-then-n-ge2 c = laid_twice 2 c.args.n c.args.w c.args.list.now c.args.at c.if-n-ge2.true (omega arith) c.store-then-n-ge2.ensures c.store-then-n-ge2-2.ensures

pub returns-then-n-eq1 : goal.returns-then-n-eq1
unfolding bytes
returns-then-n-eq1 c = rw c.if-n-eq1.true (record { next = refl; after = refl })

pub returns : goal.returns
unfolding bytes
returns c = let z : c.args.n ≡ 0 = omega arith in rw z (laid_none _ _)
