-- `write::put_block`
use native.Mathlib.Omega.{arith}
use Rattle.flat.specs.Flat.{block_of}
use Rattle.flatplan.specs.Flat.{runs_of, first_of}
use Rattle.model.specs.Whole.{max_index}
use Rattle.putpalette.specs.Palette.{palette_long}
use Rattle.write.specs.Laws.{fit, runs-ready, block_laid}
use Rattle.write.specs.Lists.{small, headed, celled}
use Rattle.write.proofs.put_block.Goals as goal

pub area-n-requires : goal.area-n-requires
area-n-requires c = let s = small c.args.block.now c.requires.0.together in omega (arith, s.size, s.entries, c.requires.0.block)

pub greatest_index-m-requires : goal.greatest_index-m-requires
greatest_index-m-requires c = let s = small c.args.block.now c.requires.0.together in omega (arith, s.size, s.entries, c.requires.0.block)

pub put_palette-p-requires : goal.put_palette-p-requires
put_palette-p-requires c = (headed c.args.block.now c.requires.0.block c.requires.0.together, omega arith)

pub overflow_cast-size-2 : goal.overflow_cast-size-2
overflow_cast-size-2 c = let s = small c.args.block.now c.requires.0.together in omega (arith, s.size, s.entries, c.requires.0.block)

pub put_map-q-requires : goal.put_map-q-requires
unfolding max_index block_of
put_map-q-requires c = let b = block_of c.args.block.now in
    let f = fit b c.requires.0.together in (
      omega (arith, c.put_palette-p.ensures.near),
      f.least,
      omega (arith, c.area-n.ensures.0, f.cells),
      c.area-n.ensures.1,
      c.greatest_index-m.ensures.1,
      λ o.
          let k = runs-ready b (runs_of c.args.runs.now c.args.count) c.args.count c.greatest_index-m.result b.transpose c.greatest_index-m.ensures.0 f.least c.requires.1 o in
          (k.0, c.requires.0.runs k.0, rw c.area-n.ensures.0 k.1),
    )

pub put_escapes-requires : goal.put_escapes-requires
put_escapes-requires c = (celled c.args.block.now c.requires.0.block c.requires.0.together, c.area-n.ensures.1, omega (arith, c.put_palette-p.ensures.near, c.put_map-q.ensures.near))

pub returns : goal.returns
unfolding block_of
returns c = let b = block_of c.args.block.now in
    record { laid = block_laid b (first_of c.args.runs.now c.args.count) c.greatest_index-m.result (fit b c.requires.0.together) (palette_long c.args.block.now) c.greatest_index-m.ensures.0 c.put_palette-p.ensures.laid (rw c.area-n.ensures.0 at c.put_map-q.ensures.laid) (rw c.area-n.ensures.0 at c.put_escapes.ensures.laid); short = λ no. omega (arith, c.put_escapes.ensures.none no, c.put_map-q.ensures.short, c.put_palette-p.ensures.near) }
