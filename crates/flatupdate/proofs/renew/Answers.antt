-- `flatupdate::renew`: the palette, the old entries with flags, the rest of them, and none after them.
use Rattle.flatupdate.specs.Renewing.{palette_asked, keep_asked, rest-asked, finish_asked, renewed}
use Rattle.flatupdate.proofs.renew.Goals as goal

pub copy-requires-2 : goal.copy-requires-2
copy-requires-2 c = palette_asked _ _ _ c.requires _ c.min-first.ensures

pub keep-k-requires : goal.keep-k-requires
keep-k-requires c = keep_asked _ _ _ c.requires _ c.min-first.ensures _ c.min-flags.ensures _ _ c.copy.ensures c.copy-2.ensures

pub copy-requires-3 : goal.copy-requires-3
copy-requires-3 c = rest-asked _ _ _ c.requires _ c.min-first.ensures _ c.min-flags.ensures _ _ c.copy.ensures c.copy-2.ensures _ _ _ c.keep-k.ensures c.min-more.ensures

pub finish-requires : goal.finish-requires
finish-requires c = finish_asked _ _ _ c.requires _ c.min-first.ensures _ c.min-flags.ensures _ _ c.copy.ensures c.copy-2.ensures _ _ _ c.keep-k.ensures c.min-more.ensures _ c.copy-3.ensures

pub returns : goal.returns
returns c = renewed c.args.list.now c.args.block.now c.args.limit c.requires c.min-first.result c.min-flags.result c.keep-k.result c.min-more.result c.min-first.ensures c.min-flags.ensures _ _ _ _ _ c.copy.ensures c.copy-2.ensures c.keep-k.ensures c.min-more.ensures c.copy-3.ensures c.finish.ensures
