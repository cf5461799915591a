-- `layflat::lay_front`: part after part.
use Rattle.std.proofs.Common.{arith, ◌≡◌, ap, length}
use Rattle.base.specs.Laid.{laid_then}
use Rattle.flat.specs.Flat.{head_of}
use Rattle.layflat.specs.Front.{front_of}
use Rattle.layflat.specs.Numbers.{numbers_alone, bits_alone, colors_numbers, numbers_count, bits_count, colors_count}
use Rattle.layflat.proofs.lay_front.Goals as goal

pub lay_all-flags-requires : goal.lay_all-flags-requires
unfolding head_of
lay_all-flags-requires c =
    let cu = c.args.cu in
    let e : length c.head.result ≡ 16 = ap length c.head.ensures in
    omega (arith, c.lay_all-palette.ensures.next, numbers_count c.head.result)

pub lay_all-indices-requires : goal.lay_all-indices-requires
unfolding head_of
lay_all-indices-requires c =
    let cu = c.args.cu in
    let e : length c.head.result ≡ 16 = ap length c.head.ensures in
    omega (arith, c.lay_all-palette.ensures.next, numbers_count c.head.result, c.lay_all-flags.ensures.next, colors_count cu.palette)

pub lay_all-requires : goal.lay_all-requires
unfolding head_of
lay_all-requires c =
    let cu = c.args.cu in
    let e : length c.head.result ≡ 16 = ap length c.head.ensures in
    omega (arith, c.lay_all-palette.ensures.next, numbers_count c.head.result, c.lay_all-flags.ensures.next, colors_count cu.palette, c.lay_all-indices.ensures.next, bits_count cu.reused)

pub returns : goal.returns
unfolding front_of head_of
returns c =
    let cu = c.args.cu in
    let e : length c.head.result ≡ 16 = ap length c.head.ensures in (
      laid_then (rw (numbers_alone c.head.result, c.head.ensures) at c.lay_all-palette.ensures) (laid_then (rw (colors_numbers c.args.cu.palette) at c.lay_all-flags.ensures) (laid_then (rw (bits_alone c.args.cu.reused) at c.lay_all-indices.ensures) (rw (numbers_alone c.args.cu.indices) at c.lay_all.ensures))),
      omega (arith, c.lay_all-palette.ensures.next, numbers_count c.head.result, c.lay_all-flags.ensures.next, colors_count cu.palette, c.lay_all-indices.ensures.next, bits_count cu.reused, c.lay_all.ensures.next, numbers_count cu.indices),
    )
