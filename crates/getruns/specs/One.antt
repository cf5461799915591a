-- One run, as the code reads it, and that the definition's turn is this.
use Rattle.std.specs.Prelude.{◌≡◌, Bool, ltb, eqb, take, drop, get_or, set, replicate}
use Rattle.std.proofs.Math.Path.{refl}
use Rattle.std.proofs.Common.{sym, ◌∙◌, add-one, add-zero, length-drop}
use Rattle.std.proofs.Math.Bool.{true, false, not}
use Rattle.std.proofs.lemmas.Bool.{false≢true}
use Rattle.std.proofs.lemmas.List.{take_all}
use mathlib.Core.List.{List, [], ◌∷◌}
use Prim.Native.Nat.{ℕ, zero, suc, ◌+◌, ◌-◌, ◌≤◌, ◌<◌}
use native.Mathlib.Omega.{arith}
use Rattle.std.proofs.Math.ListN.{length}
use Rattle.base.specs.Lists.{drop_more, padded-is}
use lib.Seq.{drop-cons, get_or-take, length-take-le}
use borrow.Author.Tests.{le-leb, lt-leb, ltb-false, ne_eqb, eqb-false}
use Rattle.base.specs.Pick.{pick, either}
use Rattle.base.specs.Answer.{Answer, Value, Refused, onward, went, refused_not, same-value}
use Rattle.base.specs.Prepend.{prepend}
use Rattle.h265.proofs.RunLaws.{run_code}
use Rattle.syntax.specs.Records.{no_run}
use Rattle.getruns.specs.As.{RestBlank}
use Rattle.syntax.specs.Runs.{Run, kind_at, next_sent, more_at, runs_at, is_last, reserved}

unfoldable pub sized_at : ℕ → ℕ → ℕ → Bool → Bool → ℕ → List ℕ → ℕ → Answer Run
sized_at n scan left fin above sent l p =
    onward (more_at n scan left fin above sent l p) (λ more t. Value (record { above = above; sent = sent; more = more; start = scan }) t)

unfoldable pub one_at : ℕ → ℕ → Bool → ℕ → Bool → ℕ → ℕ → List ℕ → ℕ → Answer Run
one_at size n fin scan prev left next l p =
    onward (kind_at size n scan prev left l p) (λ above q.
    pick above (sized_at n scan left fin true 0 l q)
    (pick (eqb left 0) (Refused 12 q) (sized_at n scan (left - 1) fin false next l q)))

-- the indices left after a run
abbrev pub leave : Bool → List ℕ → List ℕ
leave above is = pick above is (drop 1 is)

-- the indices left, as a slice: all but the first after an index run, all after a copy-above run
pub rest-taken : (above : Bool) (is : List ℕ) → not above ≡ true → take (length is - 1) (drop 1 is) ≡ leave above is
rest-taken true is e = absurd (false≢true e)
rest-taken false is e = take_all (length is - 1) (drop 1 is) (omega (arith, length-drop 1 is))

pub rest_kept : (above : Bool) (is : List ℕ) → not above ≡ false → is ≡ leave above is
rest_kept true is e = refl
rest_kept false is e = absurd (false≢true (sym e))

pub leave_le : (above : Bool) (is : List ℕ) → length (leave above is) ≤ length is
leave_le true is = omega arith
leave_le false is = omega (arith, length-drop 1 is)

-- the definition's turn over a list of indices
module _ (f g size n : ℕ) (fin : Bool) (scan : ℕ) (prev : Bool) (l : List ℕ) (p : ℕ) (e : f ≡ suc g) (h : scan < n) where
  abbrev rest : List ℕ → Run → ℕ → Answer (List Run)
  rest is r t = prepend (r ∷ []) (runs_at g size n fin (scan + r.more + 1) r.above (leave r.above is) l t)

  step : (is : List ℕ) (above : Bool) (next : ℕ) (x : Answer ℕ) →
      onward x (λ more t. onward (runs_at g size n fin (scan + more + 1) above (leave above is) l t) (λ rs u. Value (record { above = above; sent = next; more = more; start = scan } ∷ rs) u))
      ≡ onward (onward x (λ more t. Value (record { above = above; sent = next; more = more; start = scan }) t)) (rest is)
  unfolding prepend
  step is above next (Value more t) = last (runs_at g size n fin (scan + more + 1) above (leave above is) l t)
    where
      last : (y : Answer (List Run)) → onward y (λ rs u. Value (record { above = above; sent = next; more = more; start = scan } ∷ rs) u) ≡ prepend (record { above = above; sent = next; more = more; start = scan } ∷ []) y
      last (Value rs u) = refl
      last (Refused k u) = refl
  step is above next (Refused k t) = refl

  pub runs-one : (is : List ℕ) (next : ℕ) → (0 < length is → next ≡ get_or is 0 0) →
      runs_at f size n fin scan prev is l p ≡ onward (one_at size n fin scan prev (length is) next l p) (rest is)
  unfolding runs_at one_at sized_at next_sent
  runs-one [] next w = rw (e, lt-leb n scan h) (turn (kind_at size n scan prev 0 l p))
    where
      turn : (x : Answer Bool) → onward x (λ above q. onward (next_sent above [] q) (λ i r. onward (more_at n scan (length i.1) fin above i.0 l r) (λ more t. onward (runs_at g size n fin (scan + more + 1) above i.1 l t) (λ rs u. Value (record { above = above; sent = i.0; more = more; start = scan } ∷ rs) u))))
          ≡ onward (onward x (λ above q. pick above (sized_at n scan 0 fin true 0 l q) (pick (eqb 0 0) (Refused 12 q) (sized_at n scan (0 - 1) fin false next l q)))) (rest [])
      turn (Value true q) = step [] true 0 (more_at n scan 0 fin true 0 l q)
      turn (Value false q) = refl
      turn (Refused k q) = refl
  runs-one (i ∷ is) next w = rw (e, lt-leb n scan h, w (omega arith)) (turn (kind_at size n scan prev (suc (length is)) l p))
    where
      turn : (x : Answer Bool) → onward x (λ above q. onward (next_sent above (i ∷ is) q) (λ j r. onward (more_at n scan (length j.1) fin above j.0 l r) (λ more t. onward (runs_at g size n fin (scan + more + 1) above j.1 l t) (λ rs u. Value (record { above = above; sent = j.0; more = more; start = scan } ∷ rs) u))))
          ≡ onward (onward x (λ above q. pick above (sized_at n scan (suc (length is)) fin true 0 l q) (pick (eqb (suc (length is)) 0) (Refused 12 q) (sized_at n scan (suc (length is) - 1) fin false i l q)))) (rest (i ∷ is))
      turn (Value true q) = step (i ∷ is) true 0 (more_at n scan (suc (length is)) fin true 0 l q)
      turn (Value false q) =
          let z : suc (length is) - 1 ≡ length is = omega arith in
          rw (ne_eqb (suc (length is)) 0 (λ y. omega arith), z) (step (i ∷ is) false i (more_at n scan (length is) fin false i l q))
      turn (Refused k q) = refl

  -- the same where the run is refused, and where it is read
  module _ (is : List ℕ) (next : ℕ) (w : 0 < length is → next ≡ get_or is 0 0) where
    pub list-refused : (k q : ℕ) → one_at size n fin scan prev (length is) next l p ≡ Refused k q → runs_at f size n fin scan prev is l p ≡ Refused k q
    list-refused k q d = runs-one is next w ∙ rw d

    pub list-turn : (r : Run) (t : ℕ) → one_at size n fin scan prev (length is) next l p ≡ Value r t →
        runs_at f size n fin scan prev is l p ≡ prepend (r ∷ []) (runs_at g size n fin (scan + r.more + 1) r.above (leave r.above is) l t)
    list-turn r t d = runs-one is next w ∙ rw d

  -- the same over the array of indices: `used` of the first `total` are used
  module _ (sent : List ℕ) (total used : ℕ) (u : used ≤ total) (o : total ≤ length sent) where
    left-length : length (drop used (take total sent)) ≡ total - used
    left-length = rw (length-drop used (take total sent), length-take-le total sent o)

    left-first : 0 < length (drop used (take total sent)) → get_or sent used 0 ≡ get_or (drop used (take total sent)) 0 0
    left-first z =
        let k : used < length (take total sent) = omega (arith, left-length, length-take-le total sent o) in
        rw (drop-cons (take total sent) used 0 k) (sym (get_or-take total sent used 0 (omega (arith, length-take-le total sent o))))

    left_after : (above : Bool) → leave above (drop used (take total sent)) ≡ drop (used + pick above 0 1) (take total sent)
    left_after true = rw (add-zero used)
    left_after false = lib.Seq.drop-drop 1 used (take total sent)

    pub runs-refused : (k q : ℕ) → one_at size n fin scan prev (total - used) (get_or sent used 0) l p ≡ Refused k q →
        runs_at f size n fin scan prev (drop used (take total sent)) l p ≡ Refused k q
    runs-refused k q d = runs-one (drop used (take total sent)) (get_or sent used 0) left-first ∙ rw (left-length, d)

    pub runs-turn : (r : Run) (t : ℕ) → one_at size n fin scan prev (total - used) (get_or sent used 0) l p ≡ Value r t →
        runs_at f size n fin scan prev (drop used (take total sent)) l p
        ≡ prepend (r ∷ []) (runs_at g size n fin (scan + r.more + 1) r.above (drop (used + pick r.above 0 1) (take total sent)) l t)
    runs-turn r t d = runs-one (drop used (take total sent)) (get_or sent used 0) left-first ∙ rw (left-length, d, left_after r.above)

pub runs-end : (f size n : ℕ) (fin : Bool) (scan : ℕ) (prev : Bool) (is l : List ℕ) (p : ℕ) → n ≤ scan → runs_at f size n fin scan prev is l p ≡ Value [] p
unfolding runs_at
runs-end zero size n fin scan prev is l p h = refl
runs-end (suc f) size n fin scan prev is l p h = rw (le-leb n scan h)

-- ---- bounds

module _ (n scan left : ℕ) (fin above : Bool) (sent : ℕ) (l : List ℕ) (p : ℕ) (h : scan < n) where
  pub more-fits : (v q : ℕ) → more_at n scan left fin above sent l p ≡ Value v q → scan + v + 1 ≤ n
  unfolding more_at
  more-fits v q e = either (is_last left fin above) (λ t. omega (arith, same-value (rw t at e))) (λ t.
      either (ltb n (reserved scan left fin)) (λ z. absurd (refused_not (rw (t, z) at e))) (λ z.
      let b = ((run_code (n - reserved scan left fin) above sent).back l p q v (rw (t, z) at e)).1 in
      omega (arith, ltb-false n (reserved scan left fin) z)))

  pub sized-fits : (r : Run) (q : ℕ) → sized_at n scan left fin above sent l p ≡ Value r q → (scan + r.more + 1 ≤ n) × (r.above ≡ above)
  unfolding sized_at
  sized-fits r q e = went (more_at n scan left fin above sent l p) _ e (λ v t a b.
      let z = more-fits v t a in
      rw (← same-value b) (z, refl))

pub record Fits (n scan left : ℕ) (r : Run) : Type 0 where
  pub inside : scan + r.more + 1 ≤ n
  pub used : pick r.above 0 1 ≤ left

module _ (size n : ℕ) (fin : Bool) (scan : ℕ) (prev : Bool) (left next : ℕ) (l : List ℕ) (p : ℕ) (h : scan < n) where
  pub one_fits : (r : Run) (q : ℕ) → one_at size n fin scan prev left next l p ≡ Value r q → Fits n scan left r
  unfolding one_at
  one_fits r q e = went (kind_at size n scan prev left l p) _ e (λ a t x y. of a t y)
    where
      of : (a : Bool) (t : ℕ) → pick a (sized_at n scan left fin true 0 l t) (pick (eqb left 0) (Refused 12 t) (sized_at n scan (left - 1) fin false next l t)) ≡ Value r q → Fits n scan left r
      of true t y = let b = sized-fits n scan left fin true 0 l t h r q y in record { inside = b.0; used = rw b.1 (omega arith) }
      of false t y = either (eqb left 0) (λ z. absurd (refused_not (rw z at y))) (λ z.
          let b = sized-fits n scan (left - 1) fin false next l t h r q (rw z at y) in
          let c = eqb-false left 0 z in
          record { inside = b.0; used = rw b.1 (omega arith) })

-- an index run leaves one index fewer
pub one-left : (above : Bool) (left : ℕ) → not above ≡ true → pick above 0 1 ≤ left → 1 ≤ left
one-left true left e h = absurd (false≢true e)
one-left false left e h = h

pub one-most : (b : Bool) → pick b 0 1 ≤ 1
one-most true = omega arith
one-most false = omega arith

-- one more run, and the array is blank past it
pub blank_push : {A : Type 0} (xs : List A) (m count : ℕ) (x r : A) → drop count xs ≡ drop count (replicate m x) → drop (count + 1) (set xs count r) ≡ drop (count + 1) (replicate m x)
blank_push xs m count x r h = rw (add-one count, drop_set_below xs count r) (rw (← add-one count) (drop_more xs (replicate m x) count (count + 1) (omega arith) h))
  where
    drop_set_below : {A : Type 0} (xs : List A) (i : ℕ) (v : A) → drop (suc i) (set xs i v) ≡ drop (suc i) xs
    drop_set_below [] i v = refl
    drop_set_below (x ∷ xs) zero v = refl
    drop_set_below (x ∷ xs) (suc i) v = drop_set_below xs i v

pub blank_end : (xs : List Run) (count : ℕ) → length xs ≡ 1024 → count ≤ 1024 → drop count xs ≡ drop count (replicate 1024 no_run) → RestBlank count xs
blank_end xs count n h d =
    let k : length (take count xs) ≡ count = length-take-le count xs (omega arith) in
    (padded-is no_run xs (take count xs) count 1024 refl d (sym k), k)
