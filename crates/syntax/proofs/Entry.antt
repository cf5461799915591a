-- What the two entry points answer, with every refusal in document 01's order, as functions that compute; and both round trips with no condition but those answers.
use Rattle.std.specs.Prelude.{◌≡◌, refl, ◌≢◌, Bool, true, false, not, List, [], ◌∷◌, ◌++◌, ℕ, zero, suc, ◌+◌, ◌*◌, ◌-◌, ◌^◌, ◌≤◌, ◌<◌, ltb, leb, eqb, length, take}
use Rattle.std.proofs.Common.{ap, sym, ◌∙◌, le_refl, arith, lt-ltb, le-ltb, ltb-true, ltb-false, eqb-true, eq-eqb, ne_eqb, leb-true, leb-false, le-leb}
use Rattle.std.proofs.lemmas.Bool.{eqb-false, lt-leb, not-true}
use Rattle.base.specs.Pick.{pick, either}
use Rattle.base.specs.Answer.{Answer, Value, Refused, refused_not, same-value, same_place}
use Rattle.base.specs.Pick.{true_false}
use Rattle.base.specs.Codes.{Each, All}
use Rattle.syntax.specs.Runs.{Run}
use Rattle.syntax.specs.Test.{both, both_true, true_both, replays-rules, rules-replays}
use Rattle.syntax.specs.Block.{Entry, Call, Block, Told, cells_in, block_bins}
use Rattle.syntax.specs.PaletteLaws.{Fits, CallOk}
use Rattle.syntax.specs.LevelLaws.{InLevel}
use Rattle.syntax.specs.Whole.{top_index, Whole, Suits, Runs, read_back}
use Rattle.syntax.proofs.WholeLaws.{written_read, read_written}
use Rattle.syntax.specs.Entry.{Wrote, every, fitting, level, pairwise, read_answer, test1, test2, test5, test7, test8, write_answer}

every-all : {X : Type 0} (f : X → Bool) (P : X → Type 0) → ((x : X) → f x ≡ true → P x) → (xs : List X) → every f xs ≡ true → All P xs
unfolding every
every-all f P h [] e = tt
every-all f P h (x ∷ xs) e = let b = both_true (f x) (every f xs) e in (h x b.0, every-all f P h xs b.1)

all-every : {X : Type 0} (f : X → Bool) (P : X → Type 0) → ((x : X) → P x → f x ≡ true) → (xs : List X) → All P xs → every f xs ≡ true
unfolding every
all-every f P h [] a = refl
all-every f P h (x ∷ xs) a = true_both (f x) (every f xs) (h x a.0) (all-every f P h xs a.1)

pairwise-each : {X A : Type 0} (f : X → A → Bool) (P : X → A → Type 0) → ((x : X) (v : A) → f x v ≡ true → P x v) → (xs : List X) (vs : List A) → pairwise f xs vs ≡ true → Each P xs vs
unfolding pairwise
pairwise-each f P h [] [] e = tt
pairwise-each f P h [] (v ∷ vs) e = absurd (true_false (sym e))
pairwise-each f P h (x ∷ xs) [] e = absurd (true_false (sym e))
pairwise-each f P h (x ∷ xs) (v ∷ vs) e = let b = both_true (f x v) (pairwise f xs vs) e in (h x v b.0, pairwise-each f P h xs vs b.1)

each-pairwise : {X A : Type 0} (f : X → A → Bool) (P : X → A → Type 0) → ((x : X) (v : A) → P x v → f x v ≡ true) → (xs : List X) (vs : List A) → Each P xs vs → pairwise f xs vs ≡ true
unfolding pairwise
each-pairwise f P h [] [] a = refl
each-pairwise f P h [] (v ∷ vs) a = absurd a
each-pairwise f P h (x ∷ xs) [] a = absurd a
each-pairwise f P h (x ∷ xs) (v ∷ vs) a = true_both (f x v) (pairwise f xs vs) (h x v a.0) (each-pairwise f P h xs vs a.1)

-- ---- the tests say what the predicates say

fitting-fits : (c : Call) (e : Entry) → fitting c e ≡ true → Fits c e
unfolding fitting
fitting-fits c e h =
    let a = both_true _ _ h in
    let b = both_true _ _ a.1 in
    record { y = ltb-true _ _ a.0; cb = ltb-true _ _ b.0; cr = ltb-true _ _ b.1 }

fits-fitting : (c : Call) (e : Entry) → Fits c e → fitting c e ≡ true
unfolding fitting
fits-fitting c e f = true_both _ _ (lt-ltb _ _ f.y) (true_both _ _ (lt-ltb _ _ f.cb) (lt-ltb _ _ f.cr))

level_in_lem : (lossless : Bool) (d v : ℕ) → level lossless d v ≡ true → InLevel lossless d v
unfolding level
level_in_lem true d v e = ltb-true v (2 ^ d) e
level_in_lem false d v e = leb-true v 32767 e

in_level : (lossless : Bool) (d v : ℕ) → InLevel lossless d v → level lossless d v ≡ true
unfolding level
in_level true d v h = lt-ltb v (2 ^ d) h
in_level false d v h = le-leb v 32767 h

pub call_ok : (c : Call) → test1 c ≡ true → test2 c ≡ true → length c.predictor ≤ 128 → CallOk c
unfolding test1 test2
call_ok c a b n =
    let x = both_true _ _ a in
    let y = both_true _ _ x.1 in
    let z = both_true _ _ y.1 in
    let u = both_true _ _ b in
    let v = both_true _ _ u.1 in
    record { size = leb-true _ _ u.0; most = leb-true _ _ v.0; limit = leb-true _ _ z.1; predictor = n }

pub predictor_ok : (c : Call) → test5 c ≡ true → (length c.predictor ≤ 128) × All (Fits c) c.predictor
unfolding test5
predictor_ok c e = let a = both_true _ _ e in (leb-true _ _ a.0, every-all (fitting c) (Fits c) (fitting-fits c) c.predictor a.1)

unused : (e x : ℕ) (P : Type 0) (t : Bool) → (t ≡ true → P) → pick (eqb x e) t true ≡ true → x ≡ e → P
unused e x P t f h z = f (rw (eq-eqb x e z) at h)

used : (e x : ℕ) (t : Bool) → (x ≡ e → t ≡ true) → pick (eqb x e) t true ≡ true
used e x t f = either (eqb x e) (λ u. rw u (f (eqb-true x e u))) (λ u. rw u)

pub whole_test : (c : Call) (b : Block) → Whole c b → test7 c b ≡ true
unfolding test7
whole_test c b w =
    true_both _ _ (le-leb _ _ w.limit)
    (true_both _ _ (le-leb _ _ w.flags)
    (true_both _ _ (eq-eqb _ _ w.sum)
    (true_both _ _ (all-every (fitting c) (Fits c) (fits-fitting c) b.colours w.fits)
    (true_both _ _ (eq-eqb _ _ w.count)
    (true_both _ _ (all-every (λ x. leb x (top_index b)) (λ x. x ≤ top_index b) (λ x h. le-leb x (top_index b) h) b.cells w.cells)
    (true_both _ _ (each-pairwise _ _ (λ x v h. used (length b.colours) x (level c.lossless c.luma v) (λ e. in_level c.lossless c.luma v (h e))) b.cells b.levels.y w.y)
    (true_both _ _ (each-pairwise _ _ chroma b.cells b.levels.cb w.cb)
    (true_both _ _ (each-pairwise _ _ chroma b.cells b.levels.cr w.cr)
    (used 0 (length b.colours) (both b.escape (not b.transpose)) (λ e. let z = w.empty e in true_both _ _ z.0 (rw z.1)))))))))))
  where
    chroma : (x v : ℕ) → (x ≡ length b.colours → c.format ≢ 0 → InLevel c.lossless c.chroma v) → pick (eqb x (length b.colours)) (pick (eqb c.format 0) true (level c.lossless c.chroma v)) true ≡ true
    chroma x v h =
        used (length b.colours) x (pick (eqb c.format 0) true (level c.lossless c.chroma v)) (λ e.
        either (eqb c.format 0) (λ t. rw t) (λ t. rw t (in_level c.lossless c.chroma v (h e (eqb-false c.format 0 t)))))

pub test_whole : (c : Call) (b : Block) → test7 c b ≡ true → Whole c b
unfolding test7
test_whole c b e =
    let a₁ = both_true _ _ e in
    let a₂ = both_true _ _ a₁.1 in
    let a₃ = both_true _ _ a₂.1 in
    let a₄ = both_true _ _ a₃.1 in
    let a₅ = both_true _ _ a₄.1 in
    let a₆ = both_true _ _ a₅.1 in
    let a₇ = both_true _ _ a₆.1 in
    let a₈ = both_true _ _ a₇.1 in
    let a₉ = both_true _ _ a₈.1 in
    record {
      limit = leb-true _ _ a₁.0;
      flags = leb-true _ _ a₂.0;
      sum = eqb-true _ _ a₃.0;
      fits = every-all (fitting c) (Fits c) (fitting-fits c) b.colours a₄.0;
      count = eqb-true _ _ a₅.0;
      cells = every-all (λ x. leb x (top_index b)) (λ x. x ≤ top_index b) (λ x h. leb-true x (top_index b) h) b.cells a₆.0;
      y = pairwise-each _ _ (λ x v h z. unused (length b.colours) x (InLevel c.lossless c.luma v) (level c.lossless c.luma v) (level_in_lem c.lossless c.luma v) h z) b.cells b.levels.y a₇.0;
      cb = pairwise-each _ _ chroma b.cells b.levels.cb a₈.0;
      cr = pairwise-each _ _ chroma b.cells b.levels.cr a₉.0;
      empty = λ z.
          let h = both_true b.escape (not b.transpose) (rw (eq-eqb (length b.colours) 0 z) at a₉.1) in
          (h.0, not-true b.transpose h.1);
    }
  where
    chroma : (x v : ℕ) → pick (eqb x (length b.colours)) (pick (eqb c.format 0) true (level c.lossless c.chroma v)) true ≡ true → x ≡ length b.colours → c.format ≢ 0 → InLevel c.lossless c.chroma v
    chroma x v h z f = level_in_lem c.lossless c.chroma v (rw (eq-eqb x (length b.colours) z, ne_eqb c.format 0 f) at h)

runs_test : (c : Call) (b : Block) (rs : List Run) → Runs c b rs → test8 c b rs ≡ true
unfolding test8
runs_test c b rs k = either (ltb 0 (top_index b)) (λ t. rw t (rules-replays c.size (cells_in c) (top_index b) b.cells 0 false rs (k (ltb-true 0 (top_index b) t)))) (λ t. rw t)

test_runs : (c : Call) (b : Block) (rs : List Run) → test8 c b rs ≡ true → Runs c b rs
unfolding test8
test_runs c b rs e o = replays-rules c.size (cells_in c) (top_index b) b.cells 0 false rs (rw (lt-ltb 0 (top_index b) o) at e)

-- ---- the round trips, from answer to answer

passed : {A : Type 0} (t : Bool) (x : Answer A) (k p : ℕ) {v : A} {q : ℕ} → pick t x (Refused k p) ≡ Value v q → (t ≡ true) × (x ≡ Value v q)
passed true x k p e = (refl, e)
passed false x k p e = absurd (refused_not e)

wrote : (c : Call) (b : Block) (rs : List Run) (room : ℕ) (s : List ℕ) (q : ℕ) → write_answer c b rs room ≡ Value s q → Wrote c b rs room s q
unfolding write_answer
wrote c b rs room s q e =
    let a₁ = passed (test1 c) _ 1 0 e in
    let a₂ = passed (test2 c) _ 2 0 a₁.1 in
    let a₃ = passed (test7 c b) _ 7 0 a₂.1 in
    let a₄ = passed (test8 c b rs) _ 8 0 a₃.1 in
    let a₅ = passed (leb (length (block_bins c b rs)) room) _ 9 0 a₄.1 in
    record { one = a₁.0; two = a₂.0; seven = a₃.0; eight = a₄.0; nine = leb-true _ _ a₅.0; bins = same-value a₅.1; count = same_place a₅.1 }

-- what the writer accepted and wrote is read back, whatever stands after it, and exactly its bins are used
pub write_read : (c : Call) (b : Block) (rs : List Run) (room runs : ℕ) (s rest : List ℕ) (q : ℕ) → write_answer c b rs room ≡ Value s q → Suits c b → test5 c ≡ true → cells_in c ≤ runs → read_answer c runs (s ++ rest) ≡ Value (read_back c b rs) q
unfolding read_answer
write_read c b rs room runs s rest q e u p r =
    let w = wrote c b rs room s q e in
    let ok = call_ok c w.one w.two (predictor_ok c p).0 in
    rw (w.one, w.two, p, le-leb (cells_in c) runs r, ← w.bins, ← w.count) (written_read c b rs ok (test_whole c b w.seven) u (test_runs c b rs w.eight) rest)

-- what the reader accepted is accepted by the writer, and written as it was
pub read_write : (c : Call) (runs room : ℕ) (l : List ℕ) (t : Told) (q : ℕ) → read_answer c runs l ≡ Value t q → q ≤ room → write_answer c t.block t.runs room ≡ Value (take q l) q
unfolding read_answer write_answer
read_write c runs room l t q e h =
    let a₁ = passed (test1 c) _ 1 0 e in
    let a₂ = passed (test2 c) _ 2 0 a₁.1 in
    let a₃ = passed (test5 c) _ 5 0 a₂.1 in
    let a₄ = passed (leb (cells_in c) runs) _ 9 0 a₃.1 in
    let p = predictor_ok c a₃.0 in
    let g = read_written c (call_ok c a₁.0 a₂.0 p.0) p.1 l q t a₄.1 in
    let n : length (block_bins c t.block t.runs) ≤ room = omega (arith, g.used) in
    rw (a₁.0, a₂.0, whole_test c t.block g.whole, runs_test c t.block t.runs g.runs, le-leb (length (block_bins c t.block t.runs)) room n, ← g.used, g.bins)
