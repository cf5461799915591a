-- `census::count`: after i samples the arrays hold their colours and counts, and the table what has been met. Assumes nothing.
use Rattle.std.proofs.Common.{◌≡◌, ◌+◌, ◌-◌, ◌∙◌, refl, arith, length, get_or}
use Rattle.colors.specs.Table.{tab}
use Rattle.census.specs.Going.{going_start, going_note, going_le, going_turn, going_here, going_small, going_full, going_on, going_done, run_of}
use Rattle.census.proofs.count.Goals as goal

pub loop-i-init : goal.loop-i-init
loop-i-init c = record { le = omega arith; going = going_start (tab _ _ _) _ _ _ _ c.requires.holds refl refl; kept = refl }

pub returns-then-p-eq128 : goal.returns-then-p-eq128
returns-then-p-eq128 c =
    let i = c.loop-i.invariant in
    let full = going_full i.going refl (c.from-p.ensures ∙ (rw i.kept at c.lookup_or_insert.ensures.answer)) (rw i.kept at c.lookup_or_insert.ensures.after) (length c.args.samples.now) c.if-p-eq128.true (omega arith) in
    record { found = full.0; few = tt; table = full.1; kept = c.lookup_or_insert.ensures.kept ∙ i.kept }

pub note-requires : goal.note-requires
note-requires c =
    let i = c.loop-i.invariant in
    going_note i.going refl (c.from-p.ensures ∙ (rw i.kept at c.lookup_or_insert.ensures.answer)) (rw i.kept at c.lookup_or_insert.ensures.after) (omega arith) c.if-p-eq128.false

pub overflow_cast-found-in-loop-i : goal.overflow_cast-found-in-loop-i
overflow_cast-found-in-loop-i c = record { fits = omega (arith, c.run-more.ensures.1, c.requires.samples_len) }

pub bounds-found-p : goal.bounds-found-p
bounds-found-p c =
    let i = c.loop-i.invariant in
    let le = going_le i.going refl (c.from-p.ensures ∙ (rw i.kept at c.lookup_or_insert.ensures.answer)) (rw i.kept at c.lookup_or_insert.ensures.after) in
    omega (arith, le, i.going.few, c.if-p-eq128.false)

pub bounds-found-p-in-loop-i : goal.bounds-found-p-in-loop-i
bounds-found-p-in-loop-i c =
    let i = c.loop-i.invariant in
    let le = going_le i.going refl (c.from-p.ensures ∙ (rw i.kept at c.lookup_or_insert.ensures.answer)) (rw i.kept at c.lookup_or_insert.ensures.after) in
    omega (arith, le, i.going.few, c.if-p-eq128.false)

pub overflow_add-found : goal.overflow_add-found
overflow_add-found c =
    let i = c.loop-i.invariant in
    let a = c.from-p.ensures ∙ (rw i.kept at c.lookup_or_insert.ensures.answer) in
    let b = rw i.kept at c.lookup_or_insert.ensures.after in
    let h = going_here i.going refl a b c.if-p-eq128.false c.note.ensures in
    let s = going_small (going_turn i.going refl a b c.if-p-eq128.false c.note.ensures) (omega arith) c.from-p.result h.0 in
    record { fits = omega (arith, s, c.run-more.ensures.1, c.requires.samples_len) }

pub loop-i-preserved : goal.loop-i-preserved
loop-i-preserved c =
    let i = c.loop-i.invariant in
    let a = c.from-p.ensures ∙ (rw i.kept at c.lookup_or_insert.ensures.answer) in
    let b = rw i.kept at c.lookup_or_insert.ensures.after in
    let more = c.run-more.result in
    let r = run_of c.args.samples.now (c.loop-i.i + 1) (get_or c.args.samples.now c.loop-i.i 0) more (omega arith) c.run-more.ensures.0 in
    let z : c.loop-i.i + 1 + more ≡ c.loop-i.i + (more + 1) = omega arith in
    let m : c.loop-i.i + (more + 1) - (c.loop-i.i + 1) ≡ more = omega arith in
    record {
      le = omega (arith, r.high);
      going = going_on i.going refl a b c.if-p-eq128.false c.note.ensures (rw z at r) (rw m refl);
      kept = c.lookup_or_insert.ensures.kept ∙ i.kept;
    }

pub returns : goal.returns
returns c =
    let i = c.loop-i.invariant in
    let done = going_done i.going (length c.args.samples.now) (omega arith) in
    record { found = done.0; few = i.going.few; table = done.1; kept = i.kept }
