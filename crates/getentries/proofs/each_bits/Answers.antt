-- `getentries::each_bits`: what was read, before what is left to read, is what was to be read.
use Rattle.std.proofs.Common.{rules, arith, sym, ◌∙◌, ◌≡◌, ◌-◌, ◌≤◌, refl, replicate, take, length}
use Rattle.std.proofs.Math.Nat.{sub-zero}
use Rattle.std.proofs.Math.ListN.{length-set}
use Rattle.std.proofs.lemmas.List.{take-append-le}
use Rattle.base.specs.Prepend.{prepend, prepend-none, prepend-push, prepend-end}
use Rattle.h265.specs.Parse.{bits_at}
use Rattle.syntax.specs.EachTurns.{each_turn, each-refused, each-end}
use Rattle.getentries.specs.Read.{same_next, same_end}
use Rattle.getentries.proofs.each_bits.Goals as goal

pub loop-value-init : goal.loop-value-init
loop-value-init c = record { room = search rules; left = rw sub-zero (prepend-none _); list = refl }

pub returns-in_err-value-clause-value : goal.returns-in_err-value-clause-value
unfolding prepend
returns-in_err-value-clause-value c =
    let b = c.loop-value in
    let g = c.args in
    let z = each-refused bits_at (replicate (g.n - b.value-index) g.depth) _ _ b.reader.list.now b.reader.at (same_next g.n b.value-index g.depth (omega arith)) _ _ (sym c.in_err-value.ensures.value) in
    let y = rw z at b.invariant.left in
    search rules

pub loop-value-preserved : goal.loop-value-preserved
loop-value-preserved c =
    let b = c.loop-value in
    let g = c.args in
    let z = each_turn bits_at (replicate (g.n - b.value-index) g.depth) _ _ b.reader.list.now b.reader.at (same_next g.n b.value-index g.depth (omega arith)) _ _ (sym c.in_ok-value.ensures.value) in
    record {
      room = simp length-set b.invariant.room;
      left = rw (prepend-push b.value-items b.value-index c.in_ok-value.field-0 _ (omega arith), c.in_ok-value.ensures.list, ← z) b.invariant.left;
      list = search rules;
    }

pub returns-clause-value : goal.returns-clause-value
returns-clause-value c =
    let b = c.loop-value in
    let g = c.args in
    let e = each-end bits_at (replicate (g.n - b.value-index) g.depth) b.reader.list.now b.reader.at (same_end g.n b.value-index g.depth (omega arith)) in
    let m : b.value-index ≡ g.n = omega arith in
    let y = rw m at (sym (prepend-end (take b.value-index b.value-items) b.reader.at) ∙ rw e at b.invariant.left) in
    let h : g.n ≤ length b.value-items = omega arith in
    rw take-append-le y
