-- `readblock::read_block`
use Rattle.std.proofs.Common.{◌∙◌, refl, arith, rules, length}
use Rattle.getpalette.specs.Read.{blank_read, placed_at}
use Rattle.readblock.specs.Read.{as_read}
use Rattle.readblock.specs.Made.{made_placed}
use Rattle.readblock.specs.Whole.{palette_refused, palette_got, palette_on}
use Rattle.readblock.proofs.read_block.Goals as goal

pub returns-in_err-palette : goal.returns-in_err-palette
unfolding as_read blank_read
returns-in_err-palette c =
    let g = c.args in
    let f = g.block in
    let z = palette_refused f.size f.format f.luma f.chroma f.lossless g.old.now (length g.old.now) g.list.now refl _ _ _ c.in_err-palette.ensures.value refl in
    search rules

pub after_palette-requires : goal.after_palette-requires
after_palette-requires c =
    let g = c.args in
    let f = g.block in
    let t = palette_got f.size f.format f.luma f.chroma f.lossless g.old.now (length g.old.now) g.list.now refl (placed_at c.in_ok-palette.palette c.palette_at.new.reader.at) _ (record { size = c.requires.0; most = c.requires.1; limit = omega arith; predictor = c.requires.4 }) c.in_ok-palette.ensures.value refl in
    (c.requires.0, c.requires.1, c.requires.2, c.requires.3, t.size_most, t.colours_are)

pub returns : goal.returns
returns c =
    let g = c.args in
    let f = g.block in
    let t = palette_got f.size f.format f.luma f.chroma f.lossless g.old.now (length g.old.now) g.list.now refl (placed_at c.in_ok-palette.palette c.palette_at.new.reader.at) _ (record { size = c.requires.0; most = c.requires.1; limit = omega arith; predictor = c.requires.4 }) c.in_ok-palette.ensures.value refl in
    rw c.palette_at.ensures.list at c.after_palette.ensures ∙ made_placed _ _ _ _ _ _ ∙ palette_on f.size f.format f.luma f.chroma f.lossless g.old.now (length g.old.now) g.list.now refl (placed_at c.in_ok-palette.palette c.palette_at.new.reader.at) _ t
