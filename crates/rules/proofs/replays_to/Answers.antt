-- `rules::replays_to`: the cells so far and the test of what is left are the test of the whole.
use Rattle.std.proofs.Common.{◌≡◌, sym, ap, ◌∙◌, ◌∷◌, suc, ◌+◌, ◌-◌, arith, take, drop, length}
use Rattle.std.proofs.lemmas.List.{take_all, length-drop}
use Rattle.flatplan.specs.Flat.{first_of}
use Rattle.flatplan.specs.First.{first_next, first-end}
use Rattle.syntax.specs.Runs.{Run}
use Rattle.rules.specs.Turns.{rules-holds, rules_not, replays-first, replays-on, replays_not, replays-over, replays-end}
use Rattle.rules.proofs.replays_to.Goals as goal
use Rattle.rules.proofs.replays_to.Goals.{then-n-scan-via-then-n-scan, then-n-scan-via-else-n-scan+then-not-may_start}

pub loop-i-init : goal.loop-i-init
loop-i-init c = (omega arith, replays-first _)

pub returns-then-n-scan : goal.returns-then-n-scan
returns-then-n-scan c =
    let b = c.loop-i in
    let g = c.args in
    let r = c.run_in-r.result in
    let rs = drop (b.i + 1) (first_of g.runs.now g.count) in
    let e = first_next g.runs.now g.count b.i (omega arith) (omega arith) ∙ ap (λ (z : Run). z ∷ rs) (sym c.run_in-r.ensures) in
    elim c.then-n-scan.branch [
      | then-n-scan-via-then-n-scan w ↦ sym (replays-over g.size g.n g.m (take g.n (drop g.from g.cells.now)) b.scan b.prev r rs b.bad (omega arith)) ∙ rw e at b.invariant.1
      | then-n-scan-via-else-n-scan+then-not-may_start w ↦
          let y : take (length g.cells.now - g.from) (drop g.from g.cells.now) ≡ drop g.from g.cells.now = take_all _ _ (omega (arith, length-drop g.from g.cells.now)) in
          let q = rules_not g.size g.m g.n (drop g.from g.cells.now) b.scan b.prev r (omega arith) (omega arith) w.may_start.result (rw y at w.may_start.ensures) w.if-not-may_start.true in
          sym (replays_not g.size g.n g.m (take g.n (drop g.from g.cells.now)) b.scan b.prev r rs b.bad q) ∙ rw e at b.invariant.1
    ]

pub loop-i-preserved : goal.loop-i-preserved
loop-i-preserved c =
    let b = c.loop-i in
    let g = c.args in
    let r = c.run_in-r.result in
    let rs = drop (b.i + 1) (first_of g.runs.now g.count) in
    let e = first_next g.runs.now g.count b.i (omega arith) (omega arith) ∙ ap (λ (z : Run). z ∷ rs) (sym c.run_in-r.ensures) in
    let y : take (length g.cells.now - g.from) (drop g.from g.cells.now) ≡ drop g.from g.cells.now = take_all _ _ (omega (arith, length-drop g.from g.cells.now)) in
    let a : c.end_of-to.result - b.scan ≡ suc r.more = omega (arith, c.end_of-to.ensures) in
    let h = rw (a, y) at (c.run_differs-bad.ensures g.size (λ i h. c.cells_above-up.ensures i (omega (arith, c.end_of-to.ensures, c.requires.2)))) in
    let q = rules-holds g.size g.m g.n (drop g.from g.cells.now) b.scan b.prev r (omega arith) (omega arith) c.may_start.result c.run_differs-bad.result (rw y at c.may_start.ensures) c.if-not-may_start.false h in
    (omega (arith, c.end_of-to.ensures), rw c.end_of-to.ensures (replays-on g.size g.n g.m (take g.n (drop g.from g.cells.now)) b.scan b.prev r rs b.bad c.run_differs-bad.result q ∙ rw e at b.invariant.1))

pub returns : goal.returns
returns c =
    let b = c.loop-i in
    let g = c.args in
    let e = first-end g.runs.now g.count b.i (omega arith) (omega arith) in
    replays-end g.size g.n g.m (take g.n (drop g.from g.cells.now)) b.scan b.prev b.bad ∙ rw e at b.invariant.1
