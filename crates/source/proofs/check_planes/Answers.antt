-- `source::check_planes`: sides in the domain.
use Rattle.std.proofs.Common.{sym, ◌∙◌}
use Rattle.model.specs.DomainLaws.{source-bounds}
use Rattle.source.proofs.check_planes.Goals as goal

pub planes_in-requires : goal.planes_in-requires
planes_in-requires c = let b = source-bounds c.args.c.chroma_idc c.args.g (sym c.source_in.ensures ∙ c.if-not-source_in.false) in
    (b.width, b.height, b.chroma_width, b.chroma_height)
