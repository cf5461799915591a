-- `putmap::put_map`: part after part; with m = 0 the QP marker.
use Rattle.flatplan.specs.Flat.{first_of}
use Rattle.putmap.specs.Coded.{coded_laid, map_coded, map_plain}
use Rattle.syntax.proofs.MapLaws.{first_sent}
use mathlib.Core.Path.{sym}
use native.Mathlib.Omega.{arith}
use Rattle.putmap.proofs.put_map.Goals as goal

pub returns-then-m-eq0 : goal.returns-then-m-eq0
returns-then-m-eq0 c = record {
  laid = rw (map_plain c.args.size c.args.n c.args.m c.args.escape _ c.if-m-eq0.true) c.put_marker.ensures.laid;
  near = omega (arith, c.put_marker.ensures.near);
  short = omega (arith, c.put_marker.ensures.near);
}

pub overflow_sub-total : goal.overflow_sub-total
overflow_sub-total c = omega (arith, c.count_index-total.ensures, (first_sent c.args.size c.args.n (first_of c.args.runs.now c.args.count) (omega arith) (omega arith) (c.requires.5 (omega arith)).2.keeps).0)

pub put_count-p-requires : goal.put_count-p-requires
put_count-p-requires c = (omega arith, omega (arith, c.count_index-total.ensures, (first_sent c.args.size c.args.n (first_of c.args.runs.now c.args.count) (omega arith) (omega arith) (c.requires.5 (omega arith)).2.keeps).1), omega arith)

pub put_indices-q-requires : goal.put_indices-q-requires
put_indices-q-requires c = (
  omega arith,
  omega arith,
  omega (arith, c.put_count-p.ensures.near),
  (c.requires.5 (omega arith)).0,
  (c.requires.5 (omega arith)).1,
  omega (arith, c.count_index-total.ensures, (first_sent c.args.size c.args.n (first_of c.args.runs.now c.args.count) (omega arith) (omega arith) (c.requires.5 (omega arith)).2.keeps).0),
  rw c.count_index-total.ensures (c.requires.5 (omega arith)).2.each,
)

pub put_flags-r-requires : goal.put_flags-r-requires
put_flags-r-requires c = omega (arith, c.put_count-p.ensures.near, c.put_indices-q.ensures.near, (c.requires.5 (omega arith)).0)

pub put_runs-requires : goal.put_runs-requires
put_runs-requires c = (
  omega (arith, c.put_count-p.ensures.near, c.put_indices-q.ensures.near, c.put_flags-r.ensures.near, (c.requires.5 (omega arith)).0),
  omega arith,
  (c.requires.5 (omega arith)).0,
  (c.requires.5 (omega arith)).1,
  record { keeps = (c.requires.5 (omega arith)).2.keeps; final = sym c.final_kind-fin.ensures; sum = c.count_index-total.ensures },
)

pub returns : goal.returns
returns c =
    let g = c.args in
    let k = (c.requires.5 (omega arith)).0 in
    record {
      laid = rw (map_coded g.size g.n g.m g.escape _ (omega arith)) (coded_laid g.size g.n g.m g.escape g.turned (first_of g.runs.now g.count) c.count_index-total.result c.final_kind-fin.result c.count_index-total.ensures c.final_kind-fin.ensures c.put_count-p.ensures.laid c.put_indices-q.ensures.laid c.put_flags-r.ensures.laid c.put_runs.ensures.laid);
      near = omega (arith, c.put_count-p.ensures.near, c.put_indices-q.ensures.near, c.put_flags-r.ensures.near, c.put_runs.ensures.near, k);
      short = omega (arith, c.put_count-p.ensures.near, c.put_indices-q.ensures.near, c.put_flags-r.ensures.near, c.put_runs.ensures.near, k);
    }
