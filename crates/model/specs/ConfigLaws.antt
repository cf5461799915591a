-- What refusal 1 leaves.
use Rattle.std.specs.Prelude.{◌≡◌, Bool, true, false, [], ◌∷◌, ℕ, ◌≤◌, T, eqb, leb, ℤ, pos, negsuc, ◌≤ℤ◌}
use Rattle.std.proofs.Common.{sym, arith, eqb-true}
use Rattle.std.specs.Int.Signed.{le_z}
use Rattle.base.specs.Pick.{pick, either, true_false}
use Rattle.base.specs.Tests.{every, any, both, pick_test}
use Rattle.model.specs.declared.PaletteConfig.{PaletteConfig}
use Rattle.model.specs.Domain.{format_in, depth_in, qp_in, config_in, most}

-- formats are 0 to 3
pub format_most : (components format : ℕ) → format_in components format ≡ true → leb format 3 ≡ true
unfolding format_in
format_most components format h =
    let a = every (leb 1 format ∷ leb format 3 ∷ eqb components 3 ∷ []) in
    either (eqb format 0)
    (λ t. rw (eqb-true format 0 t))
    (λ t.
    let b : a ≡ true = rw (t, pick_test a) at h in
    (both (leb format 3) _ (both (leb 1 format) _ b).1).0)

-- depths are 8 to 12
pub depth-bounds : (d : ℕ) → depth_in d ≡ true → (8 ≤ d) × (d ≤ 12)
unfolding depth_in
depth-bounds d h =
    either (eqb d 8)
    (λ t. rw (eqb-true d 8 t) (omega arith, omega arith))
    (λ t.
    either (eqb d 10)
    (λ u. rw (eqb-true d 10 u) (omega arith, omega arith))
    (λ u.
    either (eqb d 12)
    (λ v. rw (eqb-true d 12 v) (omega arith, omega arith))
    (λ v. absurd (true_false (sym (rw (t, u, v) at h))))))

-- samples are of at most 12 bits
pub depth-most : (d : ℕ) → depth_in d ≡ true → most d ≤ 4095
unfolding depth_in
depth-most d h =
    either (eqb d 8)
    (λ t. rw (eqb-true d 8 t) (omega arith))
    (λ t.
    either (eqb d 10)
    (λ u. rw (eqb-true d 10 u) (omega arith))
    (λ u.
    either (eqb d 12)
    (λ v. rw (eqb-true d 12 v) (omega arith))
    (λ v. absurd (true_false (sym (rw (t, u, v) at h))))))

pub qp_most : (q : ℤ) → qp_in q ≡ true → q ≤ℤ pos 75
unfolding qp_in
qp_most q h = record { le = yes (le_z q (pos 75)) (both (le_z q (pos 75)) true (both (le_z (negsuc 127) q) _ h).1).0 }
  where
    yes : (b : Bool) → b ≡ true → T b
    yes true e = tt
    yes false e = absurd (true_false (sym e))

pub record ConfigBounds (c : PaletteConfig) : Type 0 where
  pub luma : depth_in c.bd_luma ≡ true
  pub chroma : depth_in c.bd_chroma ≡ true
  pub y : c.qp_y ≤ℤ pos 75
  pub cb : c.qp_cb ≤ℤ pos 75
  pub cr : c.qp_cr ≤ℤ pos 75

pub config_bounds : (c : PaletteConfig) → config_in c ≡ true → ConfigBounds c
unfolding config_in
config_bounds c h =
    let f = both (format_in c.num_comps c.chroma_idc) _ h in
    let l = both (depth_in c.bd_luma) _ f.1 in
    let d = both (depth_in c.bd_chroma) _ l.1 in
    let y = both (qp_in c.qp_y) _ d.1 in
    let b = both (qp_in c.qp_cb) _ y.1 in
    let r = both (qp_in c.qp_cr) true b.1 in
    record { luma = l.0; chroma = d.0; y = qp_most c.qp_y y.0; cb = qp_most c.qp_cb b.0; cr = qp_most c.qp_cr r.0 }
