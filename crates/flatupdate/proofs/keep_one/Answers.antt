-- `flatupdate::keep_one`: passed where the flag is on, else laid.
use mathlib.Core.Path.{refl}
use Prim.Native.Nat.{◌+◌, ◌*◌}
use native.Mathlib.Omega.{arith}
use lib.ListN.{length-set}
use Rattle.flat.specs.Flat.{number}
use Rattle.flatupdate.specs.Renewing.{two-long, three-long}
use Rattle.flatupdate.proofs.keep_one.Goals as goal

pub returns-then-block-j-eq1 : goal.returns-then-block-j-eq1
returns-then-block-j-eq1 c = record { passed = λ e. (refl, refl); kept = λ n. absurd (n c.if-block-j-eq1.true); long = refl; most = omega arith }

pub bounds-list-k-2 : goal.bounds-list-k-2
bounds-list-k-2 c = omega (arith, length-set c.args.list.now (1 + 3 * c.args.k) (number c.args.old.now (3 * c.args.j)))

pub bounds-list-k-3 : goal.bounds-list-k-3
bounds-list-k-3 c = omega (arith, two-long c.args.list.now (1 + 3 * c.args.k) (1 + 3 * c.args.k + 1) (number c.args.old.now (3 * c.args.j)) (number c.args.old.now (3 * c.args.j + 1)))

pub returns : goal.returns
returns c = let o = c.args.old.now in
    let k = c.args.k in
    let j = c.args.j in
    record {
      passed = λ e. absurd (c.if-block-j-eq1.false e);
      kept = λ n. (refl, refl);
      long = three-long c.args.list.now (1 + 3 * k) (1 + 3 * k + 1) (1 + 3 * k + 2) (number o (3 * j)) (number o (3 * j + 1)) (number o (3 * j + 2));
      most = omega arith;
    }
