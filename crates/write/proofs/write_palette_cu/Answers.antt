-- `write::write_palette_cu`: block and runs as numbers, which are the block again and the same first `count` runs.
use mathlib.Core.Path.{◌≡◌, refl, sym, ◌∙◌}
use Prim.Native.Nat.{ℕ}
use native.Mathlib.Omega.{arith}
use lib.ListN.{length, replicate, length-replicate}
use Rattle.flatplan.specs.First.{flat-first}
use Rattle.write.specs.Laws.{write_two, write_seven, write_same, after_same}
use borrow.Author.Rules.{rules}
use Rattle.write.proofs.write_palette_cu.Goals as goal

pub returns-then-not-block_size_in : goal.returns-then-not-block_size_in
returns-then-not-block_size_in c = let g = c.args in write_two g.cu g.runs g.count g.list.now _ refl (sym c.block_size_in.ensures ∙ c.if-not-block_size_in.true)

pub returns-then-not-holds_together : goal.returns-then-not-holds_together
returns-then-not-holds_together c = let g = c.args in write_seven g.cu g.runs g.count g.list.now _ refl (sym c.block_size_in.ensures ∙ c.if-not-block_size_in.false) (sym c.holds_together.ensures ∙ c.if-not-holds_together.true)

pub flat_block-block-requires : goal.flat_block-block-requires
flat_block-block-requires c = sym c.holds_together.ensures ∙ c.if-not-holds_together.false

pub write_lists-requires : goal.write_lists-requires
write_lists-requires c = record { block = search rules; together = rw c.flat_block-block.ensures (sym c.holds_together.ensures ∙ c.if-not-holds_together.false); runs = λ h. search rules }

pub returns : goal.returns
returns c = let g = c.args in
    let n : length g.runs ≡ 1024 = search rules in
    let w = rw (c.flat_block-block.ensures, c.lay_runs.ensures) at c.write_lists.ensures in
    let f = flat-first (replicate {A = ℕ} 4096 0) g.runs g.count (omega (arith, length-replicate {A = ℕ} 4096 0)) n in
    (w.0 ∙ write_same g.cu _ g.runs g.count f _, w.1 ∙ after_same g.cu _ g.runs g.count f _)
