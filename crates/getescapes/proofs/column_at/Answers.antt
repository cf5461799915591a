-- `getescapes::column_at`: what was read, before what is left to read, is what was to be read.
use Rattle.std.proofs.Common.{rules, false, ℕ, arith, sym, ◌∙◌, ◌≡◌, refl, take, drop, length}
use Rattle.std.proofs.Math.Nat.{le_refl}
use Rattle.std.proofs.Math.ListN.{length-set}
use Rattle.std.proofs.Math.Seq.{take-length}
use Rattle.std.proofs.lemmas.List.{take-replicate}
use Rattle.base.specs.Prepend.{prepend, prepend-none, prepend-push, prepend-end}
use Rattle.syntax.specs.Block.{dues, level_at}
use Rattle.syntax.specs.EachTurns.{each_turn, each-refused, each-end}
use Rattle.getescapes.specs.Read.{due_of, due_turn, due_end, level-small, none_at}
use Rattle.getescapes.proofs.column_at.Goals as goal

pub returns-then-not-cells-clause-value : goal.returns-then-not-cells-clause-value
returns-then-not-cells-clause-value c =
    let g = c.args in
    let s = g.cells.now in
    let f : s.escape ≡ false = search rules in
    rw (f, take-replicate {X = ℕ} (length s.indices.now) 1024 0 (omega arith)) (sym (none_at s.lossless g.depth s.format s.size s.turned g.k s.e 0 s.indices.now g.reader.now.list.now g.reader.now.at))

pub loop-i-init : goal.loop-i-init
loop-i-init c = record { room = refl; left = prepend-none _; list = refl }

pub returns-in_err-values-clause-value : goal.returns-in_err-values-clause-value
unfolding prepend
returns-in_err-values-clause-value c =
    let b = c.loop-i in
    let g = c.args in
    let s = g.cells.now in
    let d = simp take-length at (due_turn s.escape s.format s.size s.turned g.k s.e s.indices.now (length s.indices.now) (le_refl _) b.i (omega arith)) in
    let z = each-refused (level_at s.lossless g.depth) (dues (due_of s.escape s.format s.size s.turned g.k) s.e b.i (drop b.i s.indices.now)) _ _ b.reader.list.now b.reader.at d _ _ (sym c.in_err-values.ensures.value) in
    let y = rw z at b.invariant.left in
    search rules

pub overflow_cast-values : goal.overflow_cast-values
overflow_cast-values c =
    omega (arith, level-small c.args.cells.now.lossless c.args.depth _ c.loop-i.reader.list.now _ _ _ (omega arith) (sym c.in_ok-values.ensures.value))

pub loop-i-preserved : goal.loop-i-preserved
loop-i-preserved c =
    let b = c.loop-i in
    let g = c.args in
    let s = g.cells.now in
    let d = simp take-length at (due_turn s.escape s.format s.size s.turned g.k s.e s.indices.now (length s.indices.now) (le_refl _) b.i (omega arith)) in
    let z = each_turn (level_at s.lossless g.depth) (dues (due_of s.escape s.format s.size s.turned g.k) s.e b.i (drop b.i s.indices.now)) _ _ b.reader.list.now b.reader.at d _ _ (sym c.in_ok-values.ensures.value) in
    record {
      room = simp length-set b.invariant.room;
      left = rw (prepend-push b.values b.i c.in_ok-values.field-0 _ (omega arith), c.in_ok-values.ensures.list, ← z) b.invariant.left;
      list = search rules;
    }

pub returns-clause-value : goal.returns-clause-value
returns-clause-value c =
    let b = c.loop-i in
    let g = c.args in
    let s = g.cells.now in
    let d = simp take-length at (due_end s.escape s.format s.size s.turned g.k s.e s.indices.now (length s.indices.now) (le_refl _) b.i (omega arith)) in
    let e = each-end (level_at s.lossless g.depth) (dues (due_of s.escape s.format s.size s.turned g.k) s.e b.i (drop b.i s.indices.now)) b.reader.list.now b.reader.at d in
    let m : b.i ≡ length s.indices.now = omega arith in
    rw (← m) (sym (prepend-end (take b.i b.values) b.reader.at) ∙ rw e at b.invariant.left)
