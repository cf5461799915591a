-- The turns of the choice's loops, over the arrays that the code holds.
use Rattle.std.specs.Prelude.{Bool, true, List, ◌∷◌, ◌++◌, ◌≡◌, refl, ℕ, suc, ◌+◌, ◌-◌, ◌≤◌, ◌<◌, get_or, set, drop, replicate}
use Rattle.std.proofs.Math.Bool.{false}
use Rattle.std.proofs.Common.{append_assoc, append-nil, ⊎_elim, ◌∙◌, ap, arith, add-one, length-set, length-drop, drop-set-lt, take-take}
use Rattle.std.proofs.Math.Path.{sym}
use Rattle.std.proofs.Math.ListN.{length, take}
use Rattle.std.proofs.lemmas.List.{drop-take}
use Rattle.std.proofs.lemmas.List.Edits.{take-paste}
use Rattle.std.proofs.Math.Seq.{paste, slice, slice_empty, slice-cons, length-take-le}
use Rattle.base.specs.Pick.{lt_or_le}
use Rattle.base.specs.Counted.{push}
use Rattle.base.specs.Lists.{padded, padded-is}
use Rattle.h265.specs.Reuse.{trues}
use Rattle.reps.specs.Reps.{hit_of}
use Rattle.choose.specs.declared.Painting.{Painting}
use Rattle.choose.specs.Choose.{without, Chosen, taken, passed, chosen, painting_of}
use Rattle.choose.specs.Laws.{chosen-hit, chosen-miss, palette_size, flags_length}

trues-on : (bs : List Bool) → trues (true ∷ bs) ≡ suc (trues bs)
unfolding trues
trues-on bs = refl

trues-off : (bs : List Bool) → trues (false ∷ bs) ≡ trues bs
unfolding trues
trues-off bs = refl

-- what stands at r taken out of the first m: what is behind it moves one place on
removed_of : (l : List ℕ) (r n : ℕ) → r + 1 + n ≤ length l → take (r + n) (paste l r (drop (r + 1) l) n) ≡ without r (take (r + 1 + n) l)
removed_of l r n h =
    take-paste l r (drop (r + 1) l) n (omega arith) (omega (arith, length-drop (r + 1) l))
    ∙ sym (rw (take-take r (r + 1 + n) l (omega arith), ← add-one r, drop-take (r + 1) n l) refl)

pub removed : (l : List ℕ) (m r : ℕ) → r < m → m ≤ length l → take (m - 1) (paste l r (drop (r + 1) l) (m - (r + 1))) ≡ without r (take m l)
removed l m r h w =
    let q : r + (m - (r + 1)) ≡ m - 1 = omega arith in
    let k : r + 1 + (m - (r + 1)) ≡ m = omega arith in
    ap (λ (z : ℕ). take z (paste l r (drop (r + 1) l) (m - (r + 1)))) (sym q) ∙ removed_of l r (m - (r + 1)) (omega arith) ∙ ap (λ (z : ℕ). without r (take z l)) k

-- one entry offered: k-th of the predictor, p in the palette by now, of total
pub record Offered (tol e total p p' k : ℕ) (left₀ left pal₀ pal : List ℕ) (fl₀ fl : List Bool) : Type 0 where
  pub wide : length left ≡ 64
  pub hit : hit_of tol e (take (total - p) left₀) < total - p → (p' ≡ p + 1) × (take (total - (p + 1)) left ≡ without (hit_of tol e (take (total - p) left₀)) (take (total - p) left₀)) × (pal ≡ set pal₀ p e) × (fl ≡ set fl₀ k true)
  pub miss : total - p ≤ hit_of tol e (take (total - p) left₀) → (p' ≡ p) × (left ≡ left₀) × (pal ≡ pal₀) × (fl ≡ set fl₀ k false)

-- k entries offered: p of them in the palette, and what is left to choose makes the whole
pub record Choosing (tol np total : ℕ) (es left₀ : List ℕ) (k p : ℕ) (left pal : List ℕ) (fl : List Bool) : Type 0 where
  pub some : p ≤ total
  pub wide_left : length left ≡ 64
  pub wide_pal : length pal ≡ 64
  pub wide_fl : length fl ≡ 128
  pub palette : take p pal ++ (chosen tol (slice k np es) (take (total - p) left)).palette ≡ (chosen tol (take np es) (take total left₀)).palette
  pub flags : take k fl ++ (chosen tol (slice k np es) (take (total - p) left)).flags ≡ (chosen tol (take np es) (take total left₀)).flags
  pub count : p + trues (chosen tol (slice k np es) (take (total - p) left)).flags ≡ trues (chosen tol (take np es) (take total left₀)).flags
  pub behind : drop total pal ≡ drop total (replicate 64 0)
  pub off : drop np fl ≡ drop np (replicate 128 false)

pub choosing_start : (tol np total : ℕ) (es left : List ℕ) → length left ≡ 64 → Choosing tol np total es left 0 0 left (replicate 64 0) (replicate 128 false)
choosing_start tol np total es left a =
    let e : total - 0 ≡ total = omega arith in
    record { some = omega arith; wide_left = a; wide_pal = refl; wide_fl = refl; palette = rw e refl; flags = rw e refl; count = rw e (omega arith); behind = refl; off = refl }

module _ {tol np total : ℕ} {es left₀ : List ℕ} {k p : ℕ} {left pal : List ℕ} {fl : List Bool} (v : Choosing tol np total es left₀ k p left pal fl) where
  len : total ≤ 64 → length (take (total - p) left) ≡ total - p
  len few = length-take-le (total - p) left (omega (arith, v.wide_left))

  -- one entry on
  pub choosing_turn : {p' : ℕ} {left' pal' : List ℕ} {fl' : List Bool} → total ≤ 64 → k < np → np ≤ 128 → np ≤ length es → Offered tol (get_or es k 0) total p p' k left left' pal pal' fl fl' → Choosing tol np total es left₀ (k + 1) p' left' pal' fl'
  choosing_turn {p'} {left'} {pal'} {fl'} few more long wide o =
      ⊎_elim
      (λ (h : hit_of tol entry (take (total - p) left) < total - p).
      let n = o.hit h in
      let c : chosen tol (slice k np es) (take (total - p) left) ≡ taken entry (chosen tol (slice (k + 1) np es) (take (total - (p + 1)) left')) =
      rw (cons, n.1) (chosen-hit tol entry (slice (k + 1) np es) (take (total - p) left) (omega (arith, len few))) in
      rw (n.0, n.2, n.3) (record {
        some = omega arith;
        wide_left = o.wide;
        wide_pal = length-set pal p entry ∙ v.wide_pal;
        wide_fl = length-set fl k true ∙ v.wide_fl;
        palette = rw (push pal p entry (omega (arith, v.wide_pal)), append_assoc) (rw c at v.palette);
        flags = rw (push fl k true (omega (arith, v.wide_fl)), append_assoc) (rw c at v.flags);
        count = omega (arith, ap (λ (z : Chosen). trues z.flags) c, trues-on (chosen tol (slice (k + 1) np es) (take (total - (p + 1)) left')).flags, v.count);
        behind = drop-set-lt total pal p entry (omega arith) ∙ v.behind;
        off = drop-set-lt np fl k true more ∙ v.off;
      }))
      (λ (h : total - p ≤ hit_of tol entry (take (total - p) left)).
      let n = o.miss h in
      let c : chosen tol (slice k np es) (take (total - p) left) ≡ passed (chosen tol (slice (k + 1) np es) (take (total - p) left)) = rw cons (chosen-miss tol entry (slice (k + 1) np es) (take (total - p) left) (omega (arith, len few))) in
      rw (n.0, n.1, n.2, n.3) (record {
        some = v.some;
        wide_left = v.wide_left;
        wide_pal = v.wide_pal;
        wide_fl = length-set fl k false ∙ v.wide_fl;
        palette = rw c at v.palette;
        flags = rw (push fl k false (omega (arith, v.wide_fl)), append_assoc) (rw c at v.flags);
        count = omega (arith, ap (λ (z : Chosen). trues z.flags) c, trues-off (chosen tol (slice (k + 1) np es) (take (total - p) left)).flags, v.count);
        behind = v.behind;
        off = drop-set-lt np fl k false more ∙ v.off;
      }))
      (lt_or_le (hit_of tol entry (take (total - p) left)) (total - p))
    where
      entry : ℕ
      entry = get_or es k 0

      cons : slice k np es ≡ entry ∷ slice (k + 1) np es
      cons = rw (add-one k) (slice-cons k np es 0 more (omega arith))

  -- all entries offered, and the rest behind them
  pub choosing_end : {pal' : List ℕ} → k ≡ np → total ≤ 64 → np ≤ 128 → np ≤ length es → length left₀ ≡ 64
      → (take total pal' ≡ take p pal ++ take (total - p) left) × (drop total pal' ≡ drop total pal)
      → ◌≡◌ {A = Painting} (record { size = total; reused = p; palette = pal'; flags = fl }) (painting_of (chosen tol (take np es) (take total left₀)))
  unfolding painting_of chosen trues
  choosing_end {pal'} z few long wide-es wide r =
      let w = chosen tol (take np es) (take total left₀) in
      let e = slice_empty np es in
      let a : take total pal' ≡ w.palette = r.0 ∙ rw (z, e) at v.palette in
      let b : take np fl ≡ w.flags = sym (append-nil (take np fl)) ∙ rw (z, e) at v.flags in
      let c : p ≡ trues w.flags = omega (arith, rw (z, e) at v.count) in
      let m : total ≡ length w.palette = sym (palette_size tol (take np es) (take total left₀) ∙ length-take-le total left₀ (omega arith)) in
      let n : np ≡ length w.flags = sym (flags_length tol (take np es) (take total left₀) ∙ length-take-le np es (omega arith)) in
      let x : pal' ≡ padded 64 0 w.palette = padded-is 0 pal' w.palette total 64 a (r.1 ∙ v.behind) m in
      let y : fl ≡ padded 128 false w.flags = padded-is false fl w.flags np 128 b v.off n in
      (λ i. record { size = m i; reused = c i; palette = x i; flags = y i })
