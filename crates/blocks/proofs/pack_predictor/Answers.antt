-- `blocks::pack_predictor`. The loop's invariant: the entries passed are laid.
use Rattle.std.proofs.Common.{◌≡◌, ℕ, length, get_or, replicate, ◌∙◌, sym, arith, rules, length-set}
use Rattle.std.proofs.lemmas.List.{length-replicate}
use Rattle.base.specs.Cells.{laid_none, laid_on_lem, laid_done, laid-map}
use Rattle.model.specs.Domain.{no_color}
use Rattle.entries.specs.Entries.{packed_of}
use Rattle.blocks.proofs.pack_predictor.Goals as goal

pub loop-i-init : goal.loop-i-init
loop-i-init c = (length-replicate {A = ℕ} 128 0, sym (laid_none _ _ _))

pub loop-i-preserved : goal.loop-i-preserved
unfolding packed_of
loop-i-preserved c = let l = c.loop-i in
    let s = c.args in (
      length-set l.out l.i _ ∙ l.invariant.0,
      laid_on_lem (λ (j : ℕ). packed_of (get_or s.colors j no_color)) (replicate 128 0) l.out l.i _ l.invariant.1 c.pack.ensures,
    )

pub returns : goal.returns
returns c = let l = c.loop-i in
    let p = c.args.colors in
    let h : length p ≡ 128 = search rules in
    let e : l.i ≡ length p = omega (arith, h) in
    laid_done (λ (j : ℕ). packed_of (get_or p j no_color)) (replicate 128 0) l.out 0 l.i (length p) l.invariant.1 e ∙ laid-map packed_of no_color p (replicate 128 0) (length-replicate {A = ℕ} 128 0 ∙ sym h)
