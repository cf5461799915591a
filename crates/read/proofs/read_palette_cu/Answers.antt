-- `read::read_palette_cu`: each refusal in its turn, else the block.
use Rattle.std.proofs.Common.{sym, ◌∙◌, arith, rules, length, length-take}
use Rattle.std.proofs.Math.Nat.{min-le_left}
use Rattle.refusal.specs.Refusal.{number_of}
use Rattle.readblock.specs.Read.{as_read}
use Rattle.read.specs.Reading.{fit, read-refused, read_done}
use Rattle.refusal.specs.Laws.{number_some}
use Rattle.read.proofs.read_palette_cu.Goals as goal

pub returns-in_err-refusal_of : goal.returns-in_err-refusal_of
unfolding as_read
returns-in_err-refusal_of c =
    let a = c.args in
    let e = c.in_err-refusal_of.field-0.0 in
    let z = read-refused a.size a.format a.luma a.chroma a.p a.room a.lossless a.bins.now (number_of e.refusal) c.in_err-refusal_of.ensures.number (λ h. omega (arith, number_some e.refusal)) in
    let y = rw (sym c.in_err-refusal_of.ensures.place) at z in
    search rules

pub shared_ref_as_front-read_block : goal.shared_ref_as_front-read_block
shared_ref_as_front-read_block c = let a = c.args in (fit a.size a.format a.luma a.chroma a.p a.room (sym c.in_ok-refusal_of.ensures.number)).entries

pub read_block-requires : goal.read_block-requires
read_block-requires c =
    let a = c.args in
    let f = fit a.size a.format a.luma a.chroma a.p a.room (sym c.in_ok-refusal_of.ensures.number) in
    (f.least, f.most, f.luma_most, f.chroma_most, rw length-take (omega (arith, f.entries, min-le_left a.p.size (length a.p.entries))))

pub returns : goal.returns
returns c =
    let a = c.args in
    c.read_block.ensures ∙ read_done a.size a.format a.luma a.chroma a.p a.room a.lossless a.bins.now (sym c.in_ok-refusal_of.ensures.number)
