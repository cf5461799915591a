-- `entries::pack_palette`. The loop's invariant: the entries passed are laid.
use Rattle.std.proofs.Common.{◌≡◌, ℕ, length, get_or, replicate, ◌∙◌, sym, ap, arith, rules}
use Rattle.std.proofs.lemmas.List.{length-replicate, length-map}
use Rattle.base.specs.Cells.{laid_none, laid_on_lem, laid_done, laid-map}
use Rattle.model.specs.Domain.{no_color}
use Rattle.entries.specs.Entries.{packed_of}
use Rattle.entries.proofs.pack_palette.Goals as goal

pub loop-i-init : goal.loop-i-init
loop-i-init c = sym (laid_none _ _ _)

pub loop-i-preserved : goal.loop-i-preserved
unfolding packed_of
loop-i-preserved c = laid_on_lem (λ (j : ℕ). packed_of (get_or c.args.palette j no_color)) (replicate 64 0) _ _ _ c.loop-i.invariant c.pack.ensures

pub returns : goal.returns
returns c = let l = c.loop-i in
    let p = c.args.palette in
    let h : length p ≡ 64 = search rules in
    let e : l.i ≡ length p = omega arith in
    let r = laid_done (λ (j : ℕ). packed_of (get_or p j no_color)) (replicate 64 0) l.out 0 l.i (length p) l.invariant e ∙ laid-map packed_of no_color p (replicate 64 0) (length-replicate {A = ℕ} 64 0 ∙ sym h) in
    (r, ap length r ∙ length-map p packed_of ∙ h)
