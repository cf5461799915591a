-- Document 01: the levels of an escape cell, and what a cell decodes to.
use Rattle.std.specs.Prelude.{not, List, ℕ, eqb, pos, get_or}
use Rattle.base.specs.Pick.{pick}
use Rattle.h265.specs.Escape.{escape_value, step_at}
use Rattle.quant.specs.Quant.{packed, y_of, u_of, v_of, level_of}
use Rattle.model.specs.Domain.{most}
use Rattle.model.specs.Whole.{no_levels}
use Rattle.model.specs.declared.Levels.{Levels}
use Rattle.model.specs.declared.PaletteConfig.{PaletteConfig}
use Rattle.levels.specs.declared.Scale.{Scale}

-- the steps of the QPs and the greatest samples of the depths; chroma is in use but in format 0
unfoldable pub scale_of : PaletteConfig → Scale
scale_of c = record {
  lossless = c.lossless;
  chroma = not (eqb c.chroma_idc 0);
  sy = step_at c.qp_y;
  su = step_at c.qp_cb;
  sv = step_at c.qp_cr;
  ym = most c.bd_luma;
  cm = most c.bd_chroma;
}

-- the levels of colour e; those of components not in use are 0
unfoldable pub levels_of : Scale → ℕ → Levels
levels_of s e = record {
  y = level_of s.lossless s.sy s.ym (y_of e);
  cb = pick s.chroma (level_of s.lossless s.su s.cm (u_of e)) 0;
  cr = pick s.chroma (level_of s.lossless s.sv s.cm (v_of e)) 0;
}

-- the levels of a cell of index k and colour e, in a palette of n entries: index n is an escape
unfoldable pub levels_at : Scale → ℕ → ℕ → ℕ → Levels
levels_at s n k e = pick (eqb k n) (levels_of s e) no_levels

-- the colour that levels decode to
unfoldable pub values_of : Scale → Levels → ℕ
values_of s l =
    packed (escape_value s.lossless s.sy s.ym (pos l.y)) (escape_value s.lossless s.su s.cm (pos l.cb)) (escape_value s.lossless s.sv s.cm (pos l.cr))

-- the colour of a cell of index k and levels l, with the palette's entries and their number n
unfoldable pub value_at : Scale → List ℕ → ℕ → ℕ → Levels → ℕ
value_at s palette n k l = pick (eqb k n) (values_of s l) (get_or palette k 0)
