-- The domain's tests as 16 bits hold them, and what each leaves.
use Rattle.std.specs.Prelude.{◌≡◌, true, [], ◌∷◌, ℕ, ◌≤◌, ◌<◌, min, leb}
use Rattle.std.proofs.Common.{ap, sym, ◌∙◌, ⊎_elim, arith, leb-true, le-leb}
use Rattle.std.proofs.Math.Nat.{min-eq_left, min-eq_right}
use Rattle.base.specs.Pick.{lt_or_le}
use Rattle.base.specs.Tests.{every, both, ands, ands-every}
use Rattle.model.specs.declared.Color.{Color}
use Rattle.model.specs.declared.SourceBlock.{SourceBlock}
use Rattle.model.specs.Domain.{size_in, even_in, side_in, source_in, most, most_chroma, color_in}

-- a number of 16 bits is held to a bound as it is to the bound's 16-bit form
pub leb_capped : (x m : ℕ) → x ≤ 65535 → leb x (min 65535 m) ≡ leb x m
leb_capped x m h =
    ⊎_elim
    (λ (l : m < 65535). let k : m ≤ 65535 = omega arith in ap (leb x) (min-eq_right k))
    (λ (l : 65535 ≤ m). ap (leb x) (min-eq_left l) ∙ le-leb x 65535 h ∙ sym (le-leb x m (omega arith)))
    (lt_or_le m 65535)

-- the components of a colour held to 16-bit bounds
pub color_capped : (format luma chroma ym cm : ℕ) (c : Color) → c.y ≤ 65535 → c.cb ≤ 65535 → c.cr ≤ 65535 → ym ≡ min 65535 (most luma) → cm ≡ min 65535 (most_chroma format chroma) → ands (leb c.y ym) (leb c.cb cm ∷ leb c.cr cm ∷ []) ≡ color_in format luma chroma c
unfolding color_in
color_capped format luma chroma ym cm c hy hb hr ey ec =
    ands-every (leb c.y ym) (leb c.cb cm ∷ leb c.cr cm ∷ [])
    ∙ rw (ey, ec, leb_capped c.y (most luma) hy, leb_capped c.cb (most_chroma format chroma) hb, leb_capped c.cr (most_chroma format chroma) hr)

-- what refusal 2 leaves
pub record SourceBounds (g : SourceBlock) : Type 0 where
  pub least : 1 ≤ g.size
  pub small : g.size ≤ 32
  pub wide : 1 ≤ g.yw
  pub width : g.yw ≤ 65535
  pub high : 1 ≤ g.yh
  pub height : g.yh ≤ 65535
  pub chroma_width : g.cw ≤ 65535
  pub chroma_height : g.chh ≤ 65535
  pub across : g.x0 ≤ 65535
  pub along : g.y0 ≤ 65535

between : (a b x : ℕ) → every (leb a x ∷ leb x b ∷ []) ≡ true → (a ≤ x) × (x ≤ b)
between a b x e =
    let l = both (leb a x) _ e in
    (leb-true a x l.0, leb-true x b (both (leb x b) true l.1).0)

pub size_bounds : (size : ℕ) → size_in size ≡ true → (1 ≤ size) × (size ≤ 32)
unfolding size_in
size_bounds size e = between 1 32 size e

pub source-bounds : (format : ℕ) (g : SourceBlock) → source_in format g ≡ true → SourceBounds g
unfolding source_in size_in side_in
source-bounds format g e =
    let s = both (size_in g.size) _ e in
    let w = both (side_in g.yw) _ s.1 in
    let h = both (side_in g.yh) _ w.1 in
    let cw = both (leb g.cw 65535) _ h.1 in
    let ch = both (leb g.chh 65535) _ cw.1 in
    let x = both (leb g.x0 65535) _ ch.1 in
    let y = both (leb g.y0 65535) _ x.1 in
    let size = size_bounds g.size s.0 in
    let width = between 1 65535 g.yw w.0 in
    let height = between 1 65535 g.yh h.0 in
    record {
      least = size.0;
      small = size.1;
      wide = width.0;
      width = width.1;
      high = height.0;
      height = height.1;
      chroma_width = leb-true _ _ cw.0;
      chroma_height = leb-true _ _ ch.0;
      across = leb-true _ _ x.0;
      along = leb-true _ _ y.0;
    }

-- the block's size, and its evenness
pub source_size : (format : ℕ) (g : SourceBlock) → source_in format g ≡ true → every (size_in g.size ∷ even_in format g.size ∷ []) ≡ true
unfolding source_in
source_size format g e =
    let s = both (size_in g.size) _ e in
    let w = both (side_in g.yw) _ s.1 in
    let h = both (side_in g.yh) _ w.1 in
    let cw = both (leb g.cw 65535) _ h.1 in
    let ch = both (leb g.chh 65535) _ cw.1 in
    let x = both (leb g.x0 65535) _ ch.1 in
    let y = both (leb g.y0 65535) _ x.1 in
    rw (s.0, (both (even_in format g.size) _ y.1).0)
