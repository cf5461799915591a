-- `getpalette::with_fresh`: what was there, and the entries so far behind it.
use Rattle.std.proofs.Common.{◌≡◌, ◌+◌, sym, arith, rules, length, take, length-set, add-zero}
use Rattle.getpalette.specs.Read.{entries_none, entries_next, entries-end, blank_next}
use Rattle.getpalette.proofs.with_fresh.Goals as goal

pub loop-i-init : goal.loop-i-init
loop-i-init c =
    let g = c.args in
    record { long = search rules; laid = rw add-zero (sym (entries_none g.y.now g.cb.now g.cr.now _)); blank = rw add-zero c.requires.1 }

pub loop-i-preserved : goal.loop-i-preserved
loop-i-preserved c =
    let b = c.loop-i in
    let g = c.args in
    let x : length g.y.now ≡ 64 = search rules in
    let y : length g.cb.now ≡ 64 = search rules in
    let z : length g.cr.now ≡ 64 = search rules in record {
      long = simp length-set b.invariant.long;
      laid = entries_next g.y.now g.cb.now g.cr.now (take g.from g.first) b.out g.from b.i (omega arith) (omega arith) (omega arith) (omega (arith, b.invariant.long)) b.invariant.laid;
      blank = blank_next b.out g.from b.i _ b.invariant.blank;
    }

pub returns : goal.returns
returns c =
    let b = c.loop-i in
    let g = c.args in
    let e : b.i ≡ g.n = omega arith in
    entries-end b.out _ (g.from + g.n) (omega arith) b.invariant.long (rw e at b.invariant.laid) (rw e at b.invariant.blank)
