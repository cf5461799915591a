-- `getpalette::marked`: the entries so far, before those still to be marked, are all of them.
use Rattle.std.proofs.Common.{◌≡◌, refl, ap, ◌∙◌, arith, rules, length, take, get_or, length-set, length-take-le}
use Rattle.std.proofs.lemmas.List.{take_all}
use Rattle.h265.proofs.ReuseLaws.{trues-at}
use Rattle.h265.specs.Strings.{bit}
use Rattle.model.specs.Domain.{no_color}
use Rattle.syntax.proofs.BlockLaws.{length-chosen}
use Rattle.getpalette.specs.Read.{marked-on, marked-off, marked-end, blank_push}
use Rattle.getpalette.proofs.marked.Goals as goal
use Rattle.getpalette.proofs.marked.Goals.{then-flags-i, else-flags-i}

pub loop-i-init : goal.loop-i-init
loop-i-init c = record { long = refl; counted = omega arith; same = refl; blank = refl }

pub bounds-out-k : goal.bounds-out-k
bounds-out-k c =
    let b = c.loop-i in
    let g = c.args in
    let x : length g.flags.now ≡ 128 = search rules in
    omega (arith, trues-at g.flags.now (length g.old.now) b.i (omega arith) (omega arith), ap bit c.if-flags-i.true, b.invariant.counted)

pub loop-i-preserved : goal.loop-i-preserved
loop-i-preserved c =
    let b = c.loop-i in
    let g = c.args in
    let x : length g.flags.now ≡ 128 = search rules in
    let t = trues-at g.flags.now (length g.old.now) b.i (omega arith) (omega arith) in
    elim c.if-flags-i.branch [
      | then-flags-i w ↦
          let o = ap bit w.if-flags-i.true in record {
            long = rw w.out-is (simp length-set b.invariant.long);
            counted = omega (arith, t, o, b.invariant.counted);
            same = rw (w.out-is, w.k-is) (marked-on g.flags.now g.old.now (length g.old.now) (omega arith) (omega arith) b.i b.k b.out (omega arith) (omega (arith, t, o, b.invariant.long, b.invariant.counted)) w.if-flags-i.true ∙ b.invariant.same);
            blank = rw (w.out-is, w.k-is) (blank_push b.out 64 b.k no_color (get_or g.old.now b.i no_color) b.invariant.blank);
          }
      | else-flags-i w ↦
          let o = ap bit w.if-flags-i.false in record {
            long = rw w.out-is b.invariant.long;
            counted = omega (arith, t, o, b.invariant.counted);
            same = rw (w.out-is, w.k-is, marked-off g.flags.now g.old.now (length g.old.now) (omega arith) (omega arith) b.i (omega arith) w.if-flags-i.false) b.invariant.same;
            blank = rw (w.out-is, w.k-is) b.invariant.blank;
          }
    ]

pub returns : goal.returns
returns c =
    let b = c.loop-i in
    let g = c.args in
    let x : length g.flags.now ≡ 128 = search rules in
    let y : take (length g.old.now) g.old.now ≡ g.old.now = take_all _ _ (omega arith) in (
      rw y at (marked-end g.flags.now g.old.now (length g.old.now) (omega arith) (omega arith) b.i b.k b.out (omega arith) (omega (arith, b.invariant.counted)) b.invariant.long b.invariant.same b.invariant.blank),
      length-chosen (take (length g.old.now) g.flags.now) g.old.now (length-take-le (length g.old.now) g.flags.now (omega arith)),
    )
