-- `flatassign::Filling::cell`: by cases on the index.
use Rattle.std.proofs.Common.{get_or, ap, sym, ◌∙◌, eq-eqb, ne_eqb}
use Rattle.levels.specs.Levels.{levels_at, values_of, value_at}
use Rattle.flatassign.specs.Places.{three_at}
use Rattle.flatassign.proofs.Filling.cell.Goals as goal

pub returns-then-at-self : goal.returns-then-at-self
unfolding value_at levels_at
returns-then-at-self c = let s = c.args.self.now in
    let e = eq-eqb (get_or s.indices.now c.args.i 0) s.n (sym c.from-at.ensures ∙ c.if-at-self.true) in
    (rw e (c.values_of.ensures ∙ ap (values_of s.s) c.levels_of-l.ensures), rw e (c.put_levels.ensures ∙ ap (three_at c.args.list.now c.args.i) c.levels_of-l.ensures))

pub returns : goal.returns
unfolding value_at
returns c = let s = c.args.self.now in
    let e = ne_eqb (get_or s.indices.now c.args.i 0) s.n (λ z. c.if-at-self.false (c.from-at.ensures ∙ z)) in
    (rw e (c.entry.ensures ∙ rw c.from-at.ensures), rw e)
