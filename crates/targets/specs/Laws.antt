-- What refusals 1 to 3 leave of a target.
use Rattle.std.specs.Prelude.{◌≡◌, true, [], ◌∷◌, ℕ, ◌*◌, ◌/◌, ◌≤◌, eqb, leb}
use Rattle.std.proofs.Common.{sym, ◌∙◌, le-div_iff_mul-le, arith, ne_eqb, leb-true, le-leb}
use Rattle.base.specs.Pick.{either, true_false}
use Rattle.base.specs.Tests.{every, any, both, pick_test, refusal}
use Rattle.base.specs.Refusals.{Numbered, refused_not}
use Rattle.model.specs.Domain.{config_in, source_in}
use Rattle.model.specs.declared.PaletteConfig.{PaletteConfig}
use Rattle.model.specs.declared.SourceBlock.{SourceBlock}
use Rattle.targets.specs.Targets.{plane_in, target_in, target_tests}

-- the product without computing it
pub room_div : (stride height n : ℕ) → 1 ≤ height → leb stride (n / height) ≡ leb (stride * height) n
room_div stride height n h =
    either (leb (stride * height) n)
    (λ t. le-leb stride (n / height) ((le-div_iff_mul-le h).1 (leb-true (stride * height) n t)) ∙ sym t)
    (λ t.
    either (leb stride (n / height))
    (λ u. absurd (true_false (sym (le-leb (stride * height) n ((le-div_iff_mul-le h).0 (leb-true stride (n / height) u))) ∙ t)))
    (λ u. u ∙ sym t))

pub room-none : (stride n : ℕ) → leb (stride * 0) n ≡ true
room-none stride n = le-leb (stride * 0) n (omega arith)

pub target_numbers : (c : PaletteConfig) (g : SourceBlock) (ys cs y b r : ℕ) → Numbered (target_tests c g ys cs y b r)
target_numbers c g ys cs y b r = (omega arith, (omega arith, (omega arith, tt)))

-- none of the three
pub record Ready (c : PaletteConfig) (g : SourceBlock) (ys cs y b r : ℕ) : Type 0 where
  pub config : config_in c ≡ true
  pub source : source_in c.chroma_idc g ≡ true
  pub luma : ys * g.yh ≤ y
  pub cb : 1 ≤ c.chroma_idc → cs * g.chh ≤ b
  pub cr : 1 ≤ c.chroma_idc → cs * g.chh ≤ r

plane_room : (stride width height n : ℕ) → plane_in stride width height n ≡ true → stride * height ≤ n
unfolding plane_in
plane_room stride width height n e = leb-true _ _ (both (leb (stride * height) n) true (both (leb width stride) _ e).1).0

pub ready : (c : PaletteConfig) (g : SourceBlock) (ys cs y b r : ℕ) → refusal (target_tests c g ys cs y b r) ≡ 0 → Ready c g ys cs y b r
unfolding target_in
ready c g ys cs y b r e =
    let f = c.chroma_idc in
    let t = target_in f g ys cs y b r in
    let i = refused_not (config_in c) 1 ((source_in f g, 2) ∷ (t, 3) ∷ []) (omega arith) e in
    let j = refused_not (source_in f g) 2 ((t, 3) ∷ []) (omega arith) i.1 in
    let k = refused_not t 3 [] (omega arith) j.1 in
    let p = plane_in cs g.cw g.chh b in
    let q = plane_in cs g.cw g.chh r in
    let both-planes = every (p ∷ q ∷ []) in
    let l = both (plane_in ys g.yw g.yh y) _ k.0 in
    let a = both (any (eqb f 0 ∷ both-planes ∷ [])) true l.1 in
    let m : 1 ≤ f → both-planes ≡ true = λ o. rw (ne_eqb f 0 (λ z. omega arith), pick_test both-planes) at a.0 in
    let n : 1 ≤ f → (p ≡ true) × (every (q ∷ []) ≡ true) = λ o. both p (every (q ∷ [])) (m o) in
    record {
      config = i.0;
      source = j.0;
      luma = plane_room ys g.yw g.yh y l.0;
      cb = λ o. plane_room cs g.cw g.chh b (n o).0;
      cr = λ o. plane_room cs g.cw g.chh r (both q true (n o).1).0;
    }
