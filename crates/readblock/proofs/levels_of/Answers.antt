-- `readblock::levels_of`: the cells so far, and blank past them.
use Rattle.std.proofs.Common.{◌≡◌, refl, arith, rules, length, length-set}
use Rattle.getpalette.specs.Read.{blank_push}
use Rattle.model.specs.Whole.{no_levels}
use Rattle.readblock.specs.Made.{zip-none, zip-next, zip_end}
use Rattle.readblock.proofs.levels_of.Goals as goal

pub loop-i-init : goal.loop-i-init
loop-i-init c =
    let g = c.args in
    record { long = refl; laid = zip-none g.y.now g.cb.now g.cr.now; blank = refl }

pub loop-i-preserved : goal.loop-i-preserved
loop-i-preserved c =
    let b = c.loop-i in
    let g = c.args in
    let x : length g.y.now ≡ 1024 = search rules in
    let y : length g.cb.now ≡ 1024 = search rules in
    let z : length g.cr.now ≡ 1024 = search rules in record {
      long = simp length-set b.invariant.long;
      laid = zip-next g.y.now g.cb.now g.cr.now b.out b.i (omega arith) (omega arith) (omega arith) (omega (arith, b.invariant.long)) b.invariant.laid;
      blank = blank_push b.out 1024 b.i no_levels _ b.invariant.blank;
    }

pub returns : goal.returns
returns c =
    let b = c.loop-i in
    let g = c.args in
    let e : b.i ≡ g.n = omega arith in
    zip_end b.out _ g.n (omega arith) b.invariant.long (rw e at b.invariant.laid) (rw e at b.invariant.blank)
