-- What the laws of the palette ask of entries, call and palette.
use Rattle.std.specs.Prelude.{◌≡◌, refl, Bool, false, List, [], ◌∷◌, ◌++◌, ℕ, zero, suc, ◌+◌, ◌*◌, ◌-◌, ◌^◌, ◌≤◌, ◌<◌, ltb, leb, eqb, replicate}
use Rattle.std.proofs.Common.{ap, sym, ◌∙◌, arith}
use Rattle.std.proofs.Math.Bool.{true}
use Rattle.std.proofs.Math.ListN.{length}
use Rattle.std.proofs.lemmas.List.{length-replicate}
use borrow.Author.Tests.{lt-ltb, le-ltb, ltb-true, ltb-false, eqb-true, eqb-false, eq-eqb, ne_eqb}
use Rattle.base.specs.Codes.{All}
use Rattle.syntax.specs.Block.{Entry, Call, Palette, colours, chroma_depth, entries}

-- ---- new entries

pub record Fits (c : Call) (e : Entry) : Type 0 where
  pub y : e.y < 2 ^ c.luma
  pub cb : e.cb < 2 ^ chroma_depth c
  pub cr : e.cr < 2 ^ chroma_depth c

pub record EntriesOk (c : Call) (new : ℕ) (es : List Entry) : Type 0 where
  pub count : length es ≡ new
  pub fits : All (Fits c) es

-- ---- the palette

pub record CallOk (c : Call) : Type 0 where
  pub size : 1 ≤ c.size
  pub most : c.size ≤ 32
  pub limit : c.limit ≤ 64
  pub predictor : length c.predictor ≤ 128

pub record PaletteOk (c : Call) (x : Palette) : Type 0 where
  pub flags : length x.flags ≡ length c.predictor
  pub limit : colours x ≤ c.limit
  pub fits : All (Fits c) x.fresh
  pub escape : colours x ≡ 0 → x.escape ≡ true
