-- `write::write_lists`
use mathlib.Core.Path.{refl, sym, ◌∙◌}
use native.Mathlib.Omega.{arith}
use Rattle.std.proofs.Common.{length-take-le}
use Rattle.flat.specs.Flat.{block_of}
use Rattle.flatplan.specs.Flat.{runs_of}
use Rattle.write.specs.Laws.{write_nine, write_done}
use Rattle.write.specs.Lists.{none-early, write_eight, write_front, front_copied}
use Rattle.write.proofs.write_lists.Goals as goal

pub runs_hold-requires : goal.runs_hold-requires
runs_hold-requires c = c.requires

pub returns-then-not-runs_hold : goal.returns-then-not-runs_hold
returns-then-not-runs_hold c = let g = c.args in
    write_eight (block_of g.block.now) (runs_of g.runs.now g.count) g.count g.list.now c.requires.together _ refl (sym c.runs_hold.ensures ∙ c.if-not-runs_hold.true)

pub roomy-requires : goal.roomy-requires
roomy-requires c = c.requires.block

pub put_block-requires : goal.put_block-requires
put_block-requires c = (c.requires, sym c.runs_hold.ensures ∙ c.if-not-runs_hold.false)

pub returns-then-roomy : goal.returns-then-roomy
returns-then-roomy c = let g = c.args in
    let b = block_of g.block.now in
    let rs = runs_of g.runs.now g.count in
    let y = c.roomy.ensures c.if-roomy.true in
    write_done b rs g.count g.list.now _ _ (none-early b rs g.count g.list.now c.requires.together (sym c.runs_hold.ensures ∙ c.if-not-runs_hold.false)) (omega (arith, c.put_block.ensures.laid.next, c.put_block.ensures.short y.0, y.1)) c.put_block.ensures.laid

pub put_block-n-requires : goal.put_block-n-requires
put_block-n-requires c = (c.requires, sym c.runs_hold.ensures ∙ c.if-not-runs_hold.false)

pub returns-then-list-n : goal.returns-then-list-n
returns-then-list-n c = let g = c.args in
    let b = block_of g.block.now in
    let rs = runs_of g.runs.now g.count in
    write_nine b rs g.count g.list.now _ refl (none-early b rs g.count g.list.now c.requires.together (sym c.runs_hold.ensures ∙ c.if-not-runs_hold.false)) (omega (arith, c.put_block-n.ensures.laid.next))

pub returns-then-n-le4096 : goal.returns-then-n-le4096
returns-then-n-le4096 c = let g = c.args in
    let b = block_of g.block.now in
    let rs = runs_of g.runs.now g.count in
    write_front b rs g.count g.list.now c.requires.together c.put_block-n.result _ _ _ (sym c.runs_hold.ensures ∙ c.if-not-runs_hold.false) c.put_block-n.ensures.laid (omega arith) (omega arith) (front_copied g.list.now _ _ c.put_block-n.result (omega arith) (omega (arith, c.copy_from_slice.ensures.len, length-take-le c.put_block-n.result g.list.now)) c.copy_from_slice.ensures.after)

pub put_block-requires-2 : goal.put_block-requires-2
put_block-requires-2 c = (c.requires, sym c.runs_hold.ensures ∙ c.if-not-runs_hold.false)

pub returns : goal.returns
returns c = let g = c.args in
    let b = block_of g.block.now in
    let rs = runs_of g.runs.now g.count in
    write_done b rs g.count g.list.now _ _ (none-early b rs g.count g.list.now c.requires.together (sym c.runs_hold.ensures ∙ c.if-not-runs_hold.false)) (omega (arith, c.put_block-n.ensures.laid.next)) c.put_block-2.ensures.laid
