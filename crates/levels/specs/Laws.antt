-- Levels and values are small.
use Rattle.std.specs.Prelude.{◌≡◌, true, ℕ, ◌≤◌}
use Rattle.std.proofs.Common.{arith}
use Rattle.h265.specs.EscapeLaws.{step_at-low, step_at-high}
use Rattle.quant.specs.Quant.{y_of, u_of, v_of}
use Rattle.model.specs.Domain.{config_in}
use Rattle.model.specs.ConfigLaws.{depth-most, config_bounds}
use Rattle.model.specs.declared.PaletteConfig.{PaletteConfig}
use Rattle.levels.specs.declared.Scale.{Scale}
use Rattle.levels.specs.Levels.{scale_of}

-- scales with which levels and values are packed without loss
pub record Fit (s : Scale) : Type 0 where
  pub sy_low : 40 ≤ s.sy
  pub su_low : 40 ≤ s.su
  pub sv_low : 40 ≤ s.sv
  pub sy_high : s.sy ≤ 294912
  pub su_high : s.su ≤ 294912
  pub sv_high : s.sv ≤ 294912
  pub ym_high : s.ym ≤ 65535
  pub cm_high : s.cm ≤ 65535

-- a colour of at most 12 bits a component
pub record Small (c : ℕ) : Type 0 where
  pub y : y_of c ≤ 4095
  pub u : u_of c ≤ 4095
  pub v : v_of c ≤ 4095

-- the scale of a configuration is one
pub scale_fit : (c : PaletteConfig) → config_in c ≡ true → Fit (scale_of c)
unfolding scale_of
scale_fit c h =
    let b = config_bounds c h in
    record {
      sy_low = step_at-low c.qp_y;
      su_low = step_at-low c.qp_cb;
      sv_low = step_at-low c.qp_cr;
      sy_high = step_at-high c.qp_y b.y;
      su_high = step_at-high c.qp_cb b.cb;
      sv_high = step_at-high c.qp_cr b.cr;
      ym_high = omega (arith, depth-most c.bd_luma b.luma);
      cm_high = omega (arith, depth-most c.bd_chroma b.chroma);
    }
