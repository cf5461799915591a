-- `readblock::after_palette`
use Rattle.std.proofs.Common.{◌*◌, ◌≤◌, [], sym, ◌∙◌, arith, rules, mul-le-mul}
use Rattle.syntax.proofs.MapLaws.{map_code}
use Rattle.getpalette.specs.Read.{placed_at}
use Rattle.readblock.specs.Read.{call_of, as_read}
use Rattle.readblock.specs.Made.{map-refused, map_on}
use Rattle.readblock.proofs.after_palette.Goals as goal

pub returns-in_err-map : goal.returns-in_err-map
unfolding as_read
returns-in_err-map c =
    let g = c.args in
    let f = rw (c.area-n.ensures.0, c.from.ensures, c.greatest_index-m.ensures.0) at (sym c.in_err-map.ensures.value) in
    let z = map-refused (call_of g.block []) g.count (placed_at g.palette.now 0) g.reader.now.list.now g.reader.now.at c.requires.5 _ _ f in
    search rules

pub after_map-requires : goal.after_map-requires
after_map-requires c =
    let g = c.args in
    let o : 1 ≤ g.block.size * g.block.size = mul-le-mul c.requires.0 c.requires.0 in
    let f = rw c.from.ensures at (sym c.in_ok-map.ensures.value) in (
      c.requires.0,
      c.area-n.ensures.0,
      c.area-n.ensures.1,
      c.greatest_index-m.ensures.0,
      c.greatest_index-m.ensures.1,
      c.requires.2,
      c.requires.3,
      c.requires.4,
      c.in_ok-map.ensures.rest.0,
      c.in_ok-map.ensures.rest.1,
      ((map_code g.block.size c.area-n.result c.greatest_index-m.result g.palette.now.escape c.requires.0 (omega (arith, c.area-n.ensures.0)) c.area-n.ensures.1).back _ _ _ _ f).1,
      c.requires.5,
    )

pub returns : goal.returns
returns c =
    let g = c.args in
    let f = rw (c.area-n.ensures.0, c.from.ensures, c.greatest_index-m.ensures.0) at (sym c.in_ok-map.ensures.value) in
    rw c.map_at.ensures.list at c.after_map.ensures ∙ map_on (call_of g.block []) g.count (placed_at g.palette.now 0) g.reader.now.list.now g.reader.now.at c.requires.5 _ _ f
