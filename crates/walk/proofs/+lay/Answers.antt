-- `walk::lay`, which recurs on a falling place: the inner call has laid the points before, and this one comes after them.
use mathlib.Core.Path.{◌≡◌, ap, ◌∙◌}
use native.Mathlib.Omega.{arith}
use lib.ListN.{get_or}
use Rattle.paths.specs.Plan.{slot}
use Rattle.walk.specs.PointLaws.{laid_none, laid_more}
use Prim.Native.Nat.{ℕ, ◌<◌}
use Rattle.walk.proofs.+lay.Goals as goal

pub returns-then-q-eq0 : goal.returns-then-q-eq0
returns-then-q-eq0 t c = record { within = omega arith; laid = λ f h. laid_none _ _ _ _ _ _ f c.if-q-eq0.true }

pub slot_of-s-requires : goal.slot_of-s-requires
slot_of-s-requires t c = c.requires.0

pub offset_bounds-pos-s : goal.offset_bounds-pos-s
offset_bounds-pos-s t c = omega (arith, c.slot_of-s.ensures.1)

pub bounds-pos-s : goal.bounds-pos-s
bounds-pos-s t c = omega (arith, c.slot_of-s.ensures.1)

pub bounds-st-s : goal.bounds-st-s
bounds-st-s t c = omega (arith, c.slot_of-s.ensures.1)

pub lay-i-requires : goal.lay-i-requires
lay-i-requires t c = let g = c.args in
    let l : get_or g.pos.now (slot g.q g.k) 0 < g.q = c.requires.1.lower g.q g.k (omega (arith, c.if-q-eq0.false)) in
    let e : c.from-p.result ≡ get_or g.pos.now (slot g.q g.k) 0 = c.from-p.ensures ∙ ap (λ (s : ℕ). get_or g.pos.now s 0) c.slot_of-s.ensures.0 in
    (omega (arith, l, e), (omega (arith, l, e, c.requires.0), c.requires.1))

pub overflow_cast-ends : goal.overflow_cast-ends
overflow_cast-ends t c = omega (arith, c.requires.0)

pub offset_bounds-ends-i : goal.offset_bounds-ends-i
offset_bounds-ends-i t c = let g = c.args in
    let l : get_or g.pos.now (slot g.q g.k) 0 < g.q = c.requires.1.lower g.q g.k (omega (arith, c.if-q-eq0.false)) in
    let e : c.from-p.result ≡ get_or g.pos.now (slot g.q g.k) 0 = c.from-p.ensures ∙ ap (λ (s : ℕ). get_or g.pos.now s 0) c.slot_of-s.ensures.0 in
    omega (arith, l, e, c.lay-i.ensures.within, c.requires.0)

pub bounds-ends-i : goal.bounds-ends-i
bounds-ends-i t c = let g = c.args in
    let l : get_or g.pos.now (slot g.q g.k) 0 < g.q = c.requires.1.lower g.q g.k (omega (arith, c.if-q-eq0.false)) in
    let e : c.from-p.result ≡ get_or g.pos.now (slot g.q g.k) 0 = c.from-p.ensures ∙ ap (λ (s : ℕ). get_or g.pos.now s 0) c.slot_of-s.ensures.0 in
    omega (arith, l, e, c.lay-i.ensures.within, c.requires.0)

pub bounds-kinds-i : goal.bounds-kinds-i
bounds-kinds-i t c = let g = c.args in
    let l : get_or g.pos.now (slot g.q g.k) 0 < g.q = c.requires.1.lower g.q g.k (omega (arith, c.if-q-eq0.false)) in
    let e : c.from-p.result ≡ get_or g.pos.now (slot g.q g.k) 0 = c.from-p.ensures ∙ ap (λ (s : ℕ). get_or g.pos.now s 0) c.slot_of-s.ensures.0 in
    omega (arith, l, e, c.lay-i.ensures.within, c.requires.0)

pub overflow_add-result : goal.overflow_add-result
overflow_add-result t c = let g = c.args in
    let l : get_or g.pos.now (slot g.q g.k) 0 < g.q = c.requires.1.lower g.q g.k (omega (arith, c.if-q-eq0.false)) in
    let e : c.from-p.result ≡ get_or g.pos.now (slot g.q g.k) 0 = c.from-p.ensures ∙ ap (λ (s : ℕ). get_or g.pos.now s 0) c.slot_of-s.ensures.0 in
    omega (arith, l, e, c.lay-i.ensures.within, c.requires.0)

pub returns : goal.returns
returns t c = let g = c.args in
    let l : get_or g.pos.now (slot g.q g.k) 0 < g.q = c.requires.1.lower g.q g.k (omega (arith, c.if-q-eq0.false)) in
    let e : c.from-p.result ≡ get_or g.pos.now (slot g.q g.k) 0 = c.from-p.ensures ∙ ap (λ (s : ℕ). get_or g.pos.now s 0) c.slot_of-s.ensures.0 in record { within = omega (arith, l, e, c.lay-i.ensures.within); laid = laid_more g.pos.now g.st.now g.q g.k c.from-p.result c.lay-i.result _ _ _ _ (rw c.slot_of-s.ensures.0 at c.lay-i.ensures.laid) e (omega (arith, l, e)) }
