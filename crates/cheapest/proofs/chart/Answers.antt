use mathlib.Core.Path.{refl}
use Prim.Native.Nat.{ℕ, ◌*◌, ◌≤◌}
use native.Mathlib.Omega.{arith}
use lib.ListN.{length-replicate}
use native.Mathlib.Nat.{mul-le-mul}
use Rattle.paths.specs.Same.{planned-same}
use Rattle.sweep.specs.Prices.{prices_same}
use Rattle.cheapest.specs.SearchLaws.{each_laid, tables_of, charted-same}
use Rattle.cheapest.proofs.chart.Goals as goal

pub overflow_mul-n : goal.overflow_mul-n
overflow_mul-n c = let h : c.args.size * c.args.size ≤ 32 * 32 = mul-le-mul c.requires.0 c.requires.0 in omega arith

pub fill_lengths-requires : goal.fill_lengths-requires
fill_lengths-requires c = let h : c.args.size * c.args.size ≤ 32 * 32 = mul-le-mul c.requires.0 c.requires.0 in
    (omega arith, λ i l. each_laid _ _ _ 0 _ c.fill_above.ensures (omega (arith, c.requires.3)) i (omega arith) (omega arith))

pub invariant_of-task : goal.invariant_of-task
invariant_of-task c =
    let h : c.args.size * c.args.size ≤ 32 * 32 = mul-le-mul c.requires.0 c.requires.0 in
    let f = c.fill_lengths.ensures in
    rw c.terms_of.ensures record {
      few = omega arith;
      some = c.requires.1;
      most = c.requires.2;
      measured = tables_of _ _ _ _ _ _ _ _ _ _ _ (omega arith) c.requires.3 (length-replicate {A = ℕ} 1026 0) (length-replicate {A = ℕ} 1026 0) (length-replicate {A = ℕ} 1026 0) c.fill_above.ensures f.0 f.1 f.2;
    }

pub returns : goal.returns
returns c = let h : c.args.size * c.args.size ≤ 32 * 32 = mul-le-mul c.requires.0 c.requires.0 in
    let e = rw c.terms_of.ensures at c.search.ensures in
    charted-same _ _ _ _ _ _ _ _ _ _ _ (planned-same _ _ _ _ _ _ (prices_same _ _ _ _ _ _ (omega arith) c.run_sums.ensures refl)) e
