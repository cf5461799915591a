-- `putpalette::put_palette`
use mathlib.Core.List.{[]}
use Prim.Native.Nat.{◌-◌}
use native.Mathlib.Omega.{arith}
use lib.ListN.{take}
use Rattle.std.proofs.Common.{length-take-le}
use Rattle.flat.specs.Flat.{number, block_of}
use Rattle.syntax.specs.Records.{call_of}
use Rattle.putpalette.specs.Palette.{palette_laid, palette_long}
use Rattle.putpalette.proofs.put_palette.Goals as goal

pub flags_of-flags-requires : goal.flags_of-flags-requires
flags_of-flags-requires c = c.requires.0.block

pub put_reuse-p-requires : goal.put_reuse-p-requires
put_reuse-p-requires c = (omega arith, omega (arith, c.requires.0.flags, length-take-le (number c.args.block.now 6) c.flags_of-flags.result (omega (arith, c.requires.0.flags))), omega arith)

pub put_signalled-q-requires : goal.put_signalled-q-requires
put_signalled-q-requires c = (omega (arith, c.requires.0.entries), omega (arith, c.put_reuse-p.ensures.near))

pub put_entries-r-requires : goal.put_entries-r-requires
put_entries-r-requires c = (c.requires.0, omega arith, omega (arith, c.requires.0.entries), omega (arith, c.put_reuse-p.ensures.near, c.put_signalled-q.ensures.near))

pub put_escape-requires : goal.put_escape-requires
put_escape-requires c = omega (arith, c.put_reuse-p.ensures.near, c.put_signalled-q.ensures.near, c.put_entries-r.ensures.near)

pub returns : goal.returns
unfolding block_of
returns c = let l = c.args.block.now in
    let b = block_of l in record { laid = palette_laid (call_of 64 [] b) (take (number l 6) b.reused) b.palette (number l 5 - number l 7) (number l 5) b.escape_present c.requires.0.reused (omega arith) (omega (arith, palette_long l, c.requires.0.entries)) (rw c.flags_of-flags.ensures at c.put_reuse-p.ensures.laid) c.put_signalled-q.ensures.laid c.put_entries-r.ensures.laid c.put_escape.ensures.laid; near = omega (arith, c.put_reuse-p.ensures.near, c.put_signalled-q.ensures.near, c.put_entries-r.ensures.near, c.put_escape.ensures.near) }
