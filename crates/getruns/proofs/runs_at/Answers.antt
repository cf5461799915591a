-- `getruns::runs_at`: the runs laid so far before what is left to read are what was to be read.
use Rattle.std.proofs.Common.{◌≡◌, ◌+◌, ◌-◌, ap, sym, ◌∙◌, rules, arith, length, take, drop, get_or, refl, length-set}
use Rattle.std.proofs.Math.Nat.{sub-zero}
use Rattle.std.proofs.lemmas.Option.{unwrap_or-slice_get}
use Rattle.base.specs.Prepend.{prepend, prepend-none, prepend-push, prepend-end}
use Rattle.syntax.specs.Records.{no_run}
use Rattle.getruns.specs.One.{leave, leave_le, rest-taken, rest_kept, list-refused, list-turn, runs-end, one_fits, one-left, blank_push, blank_end}
use Rattle.getruns.proofs.runs_at.Goals as goal
use Rattle.getruns.proofs.runs_at.Goals.{then-not-run, else-not-run}

pub loop-scan-init : goal.loop-scan-init
loop-scan-init c = record {
  counted = omega arith;
  inside = omega arith;
  few = c.requires.1;
  long = search rules;
  same = rw sub-zero (prepend-none _);
  blank = ap (drop 0) c.no_runs-runs.ensures;
  list = refl;
}

pub returns-in_err-run-clause-value : goal.returns-in_err-run-clause-value
unfolding prepend
returns-in_err-run-clause-value c =
    let b = c.loop-scan in
    let g = c.args in
    let w : c.from.result ≡ get_or b.left.now 0 0 = cc (unwrap_or-slice_get b.left.now 0 0) in
    let z = list-refused (g.n - b.count) (g.n - (b.count + 1)) g.size g.n g.fin b.scan b.prev b.reader.list.now b.reader.at (omega arith) (omega arith) b.left.now c.from.result (λ h. w) _ _ (sym c.in_err-run.ensures.value) in
    let y = rw z at b.invariant.same in
    search rules

pub slice_bounds-left-count : goal.slice_bounds-left-count
slice_bounds-left-count c =
    let b = c.loop-scan in
    let g = c.args in
    let t = one_fits g.size g.n g.fin b.scan b.prev (length b.left.now) c.from.result b.reader.list.now b.reader.at (omega arith) _ _ (sym c.in_ok-run.ensures.value) in
    one-left c.in_ok-run.run'.above (length b.left.now) c.if-not-run.true t.used

pub slice_bounds-left-start : goal.slice_bounds-left-start
slice_bounds-left-start c =
    let b = c.loop-scan in
    let g = c.args in
    let t = one_fits g.size g.n g.fin b.scan b.prev (length b.left.now) c.from.result b.reader.list.now b.reader.at (omega arith) _ _ (sym c.in_ok-run.ensures.value) in
    let u = one-left c.in_ok-run.run'.above (length b.left.now) c.if-not-run.true t.used in
    search rules

pub overflow_add-scan : goal.overflow_add-scan
overflow_add-scan c =
    let b = c.loop-scan in
    let g = c.args in
    let t = one_fits g.size g.n g.fin b.scan b.prev (length b.left.now) c.from.result b.reader.list.now b.reader.at (omega arith) _ _ (sym c.in_ok-run.ensures.value) in
    omega (arith, t.inside)

pub overflow_add-scan-in-loop-scan : goal.overflow_add-scan-in-loop-scan
overflow_add-scan-in-loop-scan c =
    let b = c.loop-scan in
    let g = c.args in
    let t = one_fits g.size g.n g.fin b.scan b.prev (length b.left.now) c.from.result b.reader.list.now b.reader.at (omega arith) _ _ (sym c.in_ok-run.ensures.value) in
    omega (arith, t.inside)

pub loop-scan-preserved : goal.loop-scan-preserved
loop-scan-preserved c =
    let b = c.loop-scan in
    let g = c.args in
    let r = c.in_ok-run.run' in
    let w : c.from.result ≡ get_or b.left.now 0 0 = cc (unwrap_or-slice_get b.left.now 0 0) in
    let t = one_fits g.size g.n g.fin b.scan b.prev (length b.left.now) c.from.result b.reader.list.now b.reader.at (omega arith) _ _ (sym c.in_ok-run.ensures.value) in
    let z = list-turn (g.n - b.count) (g.n - (b.count + 1)) g.size g.n g.fin b.scan b.prev b.reader.list.now b.reader.at (omega arith) (omega arith) b.left.now c.from.result (λ h. w) _ _ (sym c.in_ok-run.ensures.value) in
    let s : b.scan + (r.more + 1) ≡ b.scan + r.more + 1 = omega arith in
    let n : c.if-not-run.left.now ≡ leave r.above b.left.now =
    elim c.if-not-run.branch [
      | then-not-run w ↦ ap (λ x. x.now) w.left-is ∙ rest-taken r.above b.left.now w.if-not-run.true
      | else-not-run w ↦ ap (λ x. x.now) w.left-is ∙ rest_kept r.above b.left.now w.if-not-run.false
    ] in record {
      counted = omega arith;
      inside = omega (arith, t.inside);
      few = rw n (omega (arith, leave_le r.above b.left.now));
      long = simp length-set b.invariant.long;
      same = rw (n, s, c.one_at.ensures.list, prepend-push b.runs b.count r _ (omega arith), ← z) b.invariant.same;
      blank = blank_push b.runs 1024 b.count no_run r b.invariant.blank;
      list = c.one_at.ensures.list ∙ b.invariant.list;
    }

pub returns-clause-value : goal.returns-clause-value
returns-clause-value c =
    let b = c.loop-scan in
    let g = c.args in
    sym (prepend-end (take b.count b.runs) b.reader.at) ∙ rw (runs-end (g.n - b.count) g.size g.n g.fin b.scan b.prev b.left.now b.reader.list.now b.reader.at (omega arith)) at b.invariant.same

pub returns-clause-rest : goal.returns-clause-rest
returns-clause-rest c =
    let b = c.loop-scan in
    (omega arith, blank_end b.runs b.count b.invariant.long (omega arith) b.invariant.blank)
