-- `blocks::unpack_palette`. The loop's invariant: the entries passed are laid.
use Rattle.std.proofs.Common.{◌≡◌, ℕ, length, get_or, replicate, ◌∙◌, sym, arith, rules, length-set}
use Rattle.std.proofs.lemmas.List.{length-replicate}
use Rattle.base.specs.Cells.{laid_none, laid_on_lem, laid_done, laid-map}
use Rattle.model.specs.Domain.{no_color}
use Rattle.model.specs.declared.Color.{Color}
use Rattle.blocks.specs.Blocks.{color_of}
use Rattle.blocks.proofs.unpack_palette.Goals as goal

pub loop-i-init : goal.loop-i-init
loop-i-init c = (length-replicate {A = Color} 64 no_color, sym (laid_none _ _ _))

pub loop-i-preserved : goal.loop-i-preserved
loop-i-preserved c = let l = c.loop-i in
    let s = c.args in (
      length-set l.out l.i _ ∙ l.invariant.0,
      laid_on_lem (λ (j : ℕ). color_of (get_or s.palette j 0)) (replicate 64 no_color) l.out l.i _ l.invariant.1 c.unpack.ensures,
    )

pub returns : goal.returns
returns c = let l = c.loop-i in
    let p = c.args.palette in
    let h : length p ≡ 64 = search rules in
    let e : l.i ≡ length p = omega (arith, h) in
    laid_done (λ (j : ℕ). color_of (get_or p j 0)) (replicate 64 no_color) l.out 0 l.i (length p) l.invariant.1 e ∙ laid-map color_of 0 p (replicate 64 no_color) (length-replicate {A = Color} 64 no_color ∙ sym h)
