-- `flatassign::map_list`: indices of the samples in scan order; then levels, figure and what stands before the levels.
use native.Mathlib.Omega.{arith}
use Rattle.assigning.specs.Laws.{scan_small}
use Rattle.figure.specs.Laws.{in_rows}
use Rattle.levels.specs.Laws.{scale_fit}
use Rattle.flatassign.specs.Answers.{scan_at_lem, list_refused, list_made}
use Rattle.flatassign.proofs.map_list.Goals as goal

pub area-n-requires : goal.area-n-requires
area-n-requires c = c.requires.c_value.1

pub unroll-requires : goal.unroll-requires
unroll-requires c = c.requires.c_value.1

pub assign-e-requires : goal.assign-e-requires
assign-e-requires c = (c.area-n.ensures.1, c.requires.c_value.2, c.requires.c_value.3)

pub overflow_mul-e : goal.overflow_mul-e
overflow_mul-e c = omega (arith, c.area-n.ensures.1, c.assign-e.ensures.2)

pub returns-then-n-e : goal.returns-then-n-e
returns-then-n-e c = let s = c.args in
    let n = c.area-n.ensures in
    let scan = c.unroll.new.out in
    let h = scan_at_lem s.transpose s.cu.size s.cells.now scan c.area-n.result c.unroll.ensures n.0 n.1 in
    let x = rw n.0 at c.assign-e.ensures.0 in
    list_refused s.c s.transpose s.cu s.list.now c.requires.c_value.5 (in_rows s.cu.size s.cells.now) scan c.pack_palette-palette.result c.pack_palette-palette.ensures.0 h c.assign-e.result x (omega (arith, n.0, c.if-n-e.true))

pub fill-sse-requires : goal.fill-sse-requires
fill-sse-requires c = let s = c.args in
    let n = c.area-n.ensures in
    let scan = c.unroll.new.out in
    let h = scan_at_lem s.transpose s.cu.size s.cells.now scan c.area-n.result c.unroll.ensures n.0 n.1 in
    (rw c.scale_of.ensures (scale_fit s.c c.requires.c_value.0), c.requires.c_value.1, c.pack_palette-palette.ensures.1, c.requires.c_value.4, λ j l. rw (h j l) (scan_small s.transpose s.cu.size s.cells.now c.requires.by_index j l))

pub returns : goal.returns
returns c = let s = c.args in
    let n = c.area-n.ensures in
    let scan = c.unroll.new.out in
    let h = scan_at_lem s.transpose s.cu.size s.cells.now scan c.area-n.result c.unroll.ensures n.0 n.1 in
    let x = rw n.0 at c.assign-e.ensures.0 in
    let y = rw n.0 at c.assign-e.ensures.1 in
    list_made s.c s.transpose s.cu s.list.now c.requires.c_value.5 (in_rows s.cu.size s.cells.now) scan c.pack_palette-palette.result c.pack_palette-palette.ensures.0 h c.assign-e.result x (omega (arith, n.0, c.if-n-e.false)) (omega (arith, n.0, n.1)) _ y
    c.fill-sse.result _ _ (rw c.scale_of.ensures at c.fill-sse.ensures.1) (rw c.scale_of.ensures at c.fill-sse.ensures.0) c.lay_front.result c.lay_front.ensures.0
