-- Both laws of the run stage, by one induction: on the runs for the writer's string, on the fuel for the reader.
use Rattle.std.specs.Prelude.{◌≡◌, Bool, ℕ, zero, suc, ◌+◌, ◌*◌, ◌-◌, ◌≤◌, ◌<◌, leb, eqb, length}
use Rattle.std.proofs.Math.Path.{refl, sym}
use Rattle.std.proofs.Common.{ap, ◌∙◌, arith}
use Rattle.std.proofs.Math.Bool.{true, false}
use mathlib.Core.List.{List, [], ◌∷◌, ◌++◌}
use Rattle.std.proofs.Math.Dec.{ltb}
use borrow.Author.Tests.{lt-ltb, le-ltb, ltb-true, ltb-false, eqb-true, eqb-false, eq-eqb, ne_eqb, leb-true, leb-false, le-leb, lt-leb}
use Rattle.base.specs.Pick.{pick}
use Rattle.base.specs.Answer.{Value, Refused, went, refused_not, same-value, same_place}
use Rattle.base.specs.Stands.{Stands, stands-none, none-stands, join, split}
use Rattle.h265.specs.Strings.{bit, bin_of, run_bins}
use Rattle.h265.specs.Parse.{bin_at, run_at}
use Rattle.h265.specs.BitLaws.{bin_there, bin_back}
use Rattle.h265.proofs.RunLaws.{run_code}
use Rattle.syntax.specs.Runs.{Run, sent_of, final_of, may_copy, Keeps, asked, inferred, kind_bins, kind_at, same, is_last, reserved, more_bins, more_at, runs_bins, next_sent, runs_at}
use Rattle.syntax.specs.KeepLaws.{true_false, sent_above, sent_index, keeps_le, keeps-room, keeps-last, keeps_kind}
use Rattle.syntax.specs.RunsLaws.{MoreOk, ReadRuns, State}

-- ---- the run's kind

module _ (size n scan : ℕ) (prev : Bool) (left : ℕ) where
  kind_there : (l : List ℕ) (p q : ℕ) (b : Bool) → (asked size n scan prev left ≡ false → b ≡ inferred size scan prev left) → Stands l p (kind_bins size n scan prev left b) q → kind_at size n scan prev left l p ≡ Value b q
  unfolding kind_bins kind_at
  kind_there l p q b ok s = go (asked size n scan prev left) ok s
    where
      go : (t : Bool) → (t ≡ false → b ≡ inferred size scan prev left) → Stands l p (pick t (bin_of 1 b) []) q → pick t (bin_at 1 l p) (Value (inferred size scan prev left) p) ≡ Value b q
      go true ok s = bin_there 1 l p q b s
      go false ok s = rw (ok refl, none-stands s)

  kind_back : (l : List ℕ) (p q : ℕ) (b : Bool) → kind_at size n scan prev left l p ≡ Value b q → Stands l p (kind_bins size n scan prev left b) q × (asked size n scan prev left ≡ false → b ≡ inferred size scan prev left)
  unfolding kind_bins kind_at
  kind_back l p q b e = go (asked size n scan prev left) e
    where
      go : (t : Bool) → pick t (bin_at 1 l p) (Value (inferred size scan prev left) p) ≡ Value b q → Stands l p (pick t (bin_of 1 b) []) q × (t ≡ false → b ≡ inferred size scan prev left)
      go true e = (bin_back 1 l p q b e, λ z. absurd (true_false z))
      go false e = (rw (← same_place e) (stands-none l p), λ z. sym (same-value e))

  -- a copy-above run stands where one may stand
  kind_may : (b : Bool) → (asked size n scan prev left ≡ false → b ≡ inferred size scan prev left) → b ≡ true → may_copy size scan prev ≡ true
  unfolding asked inferred
  kind_may b ok e = go (may_copy size scan prev) ok
    where
      go : (m : Bool) → (pick m (pick (ltb 0 left) (ltb (scan + 1) n) false) false ≡ false → b ≡ pick m (eqb left 0) false) → m ≡ true
      go true ok = refl
      go false ok = absurd (true_false (sym e ∙ ok refl))

module _ (n scan left : ℕ) (fin above : Bool) (sent : ℕ) (inside : scan < n) where
  more_there : (l : List ℕ) (p q v : ℕ) → MoreOk n scan left fin above v → Stands l p (more_bins n scan left fin above sent v) q → more_at n scan left fin above sent l p ≡ Value v q
  unfolding more_bins more_at
  more_there l p q v ok s = go (is_last left fin above) ok.last ok.other s
    where
      go : (t : Bool) → (t ≡ true → scan + 1 + v ≡ n) → (t ≡ false → reserved scan left fin + v ≤ n) → Stands l p (pick t [] (run_bins (n - reserved scan left fin) above sent v)) q → pick t (Value (n - (scan + 1)) p) (pick (ltb n (reserved scan left fin)) (Refused 12 p) (run_at (n - reserved scan left fin) above sent l p)) ≡ Value v q
      go true a b s = let z : n - (scan + 1) ≡ v = omega (arith, a refl) in rw (z, none-stands s)
      go false a b s =
          let c : reserved scan left fin + v ≤ n = b refl in
          rw (le-ltb n (reserved scan left fin) (omega arith)) ((run_code (n - reserved scan left fin) above sent).there l p q v (omega arith) s)

  more_back : (l : List ℕ) (p q v : ℕ) → more_at n scan left fin above sent l p ≡ Value v q → Stands l p (more_bins n scan left fin above sent v) q × MoreOk n scan left fin above v
  unfolding more_bins more_at
  more_back l p q v e = go (is_last left fin above) (ltb n (reserved scan left fin)) refl refl e
    where
      go : (t u : Bool) → is_last left fin above ≡ t → ltb n (reserved scan left fin) ≡ u → pick t (Value (n - (scan + 1)) p) (pick u (Refused 12 p) (run_at (n - reserved scan left fin) above sent l p)) ≡ Value v q → Stands l p (pick t [] (run_bins (n - reserved scan left fin) above sent v)) q × MoreOk n scan left fin above v
      go true u t w e = (rw (← same_place e) (stands-none l p), record { last = (λ z. omega (arith, same-value e)); other = (λ z. absurd (true_false (sym t ∙ z))) })
      go false true t w e = absurd (refused_not e)
      go false false t w e =
          let b = (run_code (n - reserved scan left fin) above sent).back l p q v e in
          (b.0, record { last = (λ z. absurd (true_false (sym z ∙ t))); other = (λ z. omega (arith, b.1, ltb-false n (reserved scan left fin) w)) })

-- ---- written, then read

next-there : (r : Run) (rs : List Run) (p : ℕ) → (r.above ≡ true → r.sent ≡ 0) → next_sent r.above (sent_of (r ∷ rs)) p ≡ Value (r.sent, sent_of rs) p
unfolding next_sent
next-there r rs p h = go r.above refl
  where
    go : (t : Bool) → r.above ≡ t → next_sent t (sent_of (r ∷ rs)) p ≡ Value (r.sent, sent_of rs) p
    go true e = rw (sent_above r rs e, h e)
    go false e = rw (sent_index r rs e)

same-is : (a b : Bool) → same a b ≡ true → a ≡ b
same-is true true e = refl
same-is true false e = sym e
same-is false true e = e
same-is false false e = refl

is_same : (a b : Bool) → a ≡ b → same a b ≡ true
is_same true true e = refl
is_same true false e = sym e
is_same false true e = e
is_same false false e = refl

last-is : (left : ℕ) (fin above : Bool) → is_last left fin above ≡ true → (left ≡ 0) × (above ≡ fin)
last-is left fin above e = go (eqb left 0) refl e
  where
    go : (t : Bool) → eqb left 0 ≡ t → pick t (same above fin) false ≡ true → (left ≡ 0) × (above ≡ fin)
    go true t e = (eqb-true left 0 t, same-is above fin e)
    go false t e = absurd (true_false (sym e))

not_last : (left : ℕ) (fin above : Bool) → is_last left fin above ≡ false → left ≡ 0 → above ≡ fin → ⊥
not_last left fin above e z f = true_false (sym (rw (eq-eqb left 0 z) (is_same above fin f)) ∙ e)

pub keeps-more : (size n scan : ℕ) (prev fin : Bool) (r : Run) (rs : List Run) → Keeps size n scan prev (r ∷ rs) → final_of r.above rs ≡ fin → MoreOk n scan (length (sent_of rs)) fin r.above r.more
unfolding sent_of final_of
keeps-more size n scan prev fin r rs k f = record {
  last = λ e.
      let y = last-is (length (sent_of rs)) fin r.above e in
      keeps-last size n scan prev r rs k y.0 (y.1 ∙ sym f);
  other = λ e. go rs k f e;
}
  where
    go : (rs : List Run) → Keeps size n scan prev (r ∷ rs) → final_of r.above rs ≡ fin → is_last (length (sent_of rs)) fin r.above ≡ false → reserved scan (length (sent_of rs)) fin + r.more ≤ n
    go [] k f e = absurd (not_last 0 fin r.above e refl f)
    go (s ∷ rs) k f e = rw (← f) (omega (arith, keeps-room size n (scan + r.more + 1) r.above s rs k.1))

pub runs-there : (f size n : ℕ) (fin : Bool) (scan : ℕ) (prev : Bool) (rs : List Run) (l : List ℕ) (p q : ℕ) → n ≤ scan + f → Keeps size n scan prev rs → final_of prev rs ≡ fin → Stands l p (runs_bins size n fin scan prev rs) q → runs_at f size n fin scan prev (sent_of rs) l p ≡ Value rs q
unfolding runs_bins runs_at final_of
runs-there zero size n fin scan prev [] l p q h k f s = rw (none-stands s)
runs-there (suc g) size n fin scan prev [] l p q h k f s = rw (le-leb n scan (omega arith), none-stands s)
runs-there zero size n fin scan prev (r ∷ rs) l p q h k f s = absurd (omega (arith, keeps_le size n (scan + r.more + 1) r.above rs k.1))
runs-there (suc g) size n fin scan prev (r ∷ rs) l p q h k f s =
    let i : scan < n = omega (arith, keeps_le size n (scan + r.more + 1) r.above rs k.1) in
    let a = split (kind_bins size n scan prev (length (sent_of (r ∷ rs))) r.above) (more_bins n scan (length (sent_of rs)) fin r.above r.sent r.more ++ runs_bins size n fin (scan + r.more + 1) r.above rs) s in
    let b = split (more_bins n scan (length (sent_of rs)) fin r.above r.sent r.more) (runs_bins size n fin (scan + r.more + 1) r.above rs) a.second in
    rw (
      lt-leb n scan i,
      kind_there size n scan prev (length (sent_of (r ∷ rs))) l p a.mid r.above (keeps_kind size n scan prev r rs k) a.first,
      next-there r rs a.mid k.0.none,
      more_there n scan (length (sent_of rs)) fin r.above r.sent i l a.mid b.mid r.more (keeps-more size n scan prev fin r rs k f) b.first,
      runs-there g size n fin (scan + r.more + 1) r.above rs l b.mid q (omega arith) k.1 f b.second,
      ← k.0.start,
    )

-- ---- read, then written

record Next (above : Bool) (is : List ℕ) (q i : ℕ) (js : List ℕ) (r : ℕ) : Type 0 where
  place : r ≡ q
  list : is ≡ pick above js (i ∷ js)
  none : above ≡ true → i ≡ 0

next-back : (above : Bool) (is : List ℕ) (q : ℕ) (i : ℕ × List ℕ) (r : ℕ) → next_sent above is q ≡ Value i r → Next above is q i.0 i.1 r
unfolding next_sent
next-back true is q i r e =
    record { place = sym (same_place e); list = ap (λ (x : ℕ × List ℕ). x.1) (same-value e); none = λ z. sym (ap (λ (x : ℕ × List ℕ). x.0) (same-value e)) }
next-back false [] q i r e = absurd (refused_not e)
next-back false (j ∷ js) q i r e =
    record {
      place = sym (same_place e);
      list = (let a : j ≡ i.0 = ap (λ (x : ℕ × List ℕ). x.0) (same-value e) in let b : js ≡ i.1 = ap (λ (x : ℕ × List ℕ). x.1) (same-value e) in rw (a, b));
      none = λ z. absurd (true_false (sym z));
    }

nil_length : (is : List ℕ) → length is ≡ 0 → is ≡ []
nil_length [] h = refl
nil_length (i ∷ is) h = absurd (omega arith)

-- the state after a run
after_run : (n scan : ℕ) (fin above prev : Bool) (is js : List ℕ) (i q r more : ℕ) → scan < n → State n fin scan prev (length is) → Next above is q i js r → MoreOk n scan (length js) fin above more → State n fin (scan + more + 1) above (length js)
after_run n scan fin above prev is js i q r more h s x m = go (is_last (length js) fin above) refl
  where
    -- a copy-above run that is not the last: indices are left
    left_over : (b : Bool) → above ≡ b → is_last (length js) fin above ≡ false → length js ≡ 0 → fin ≡ true
    left_over true a t z =
        let y : is ≡ js = x.list ∙ rw a in
        s.going h (rw y z)
    left_over false a t z = other fin refl
      where
        other : (f : Bool) → fin ≡ f → fin ≡ true
        other true e = e
        other false e = absurd (not_last (length js) fin above t z (a ∙ sym e))

    go : (t : Bool) → is_last (length js) fin above ≡ t → State n fin (scan + more + 1) above (length js)
    go true t =
        let y = last-is (length js) fin above t in
        let e : scan + 1 + more ≡ n = m.last t in
        record { inside = omega arith; going = λ z w. absurd (omega arith); done = λ z. y }
    go false t =
        let e : reserved scan (length js) fin + more ≤ n = m.other t in
        record {
          inside = omega arith;
          going = λ z w. left_over above refl t w;
          done = λ z.
              let w : length js ≡ 0 = omega arith in
              let o : bit fin ≡ 0 = omega arith in
              let u : fin ≡ true = left_over above refl t w in
              absurd (omega (arith, ap bit u));
        }

runs-end : (size n : ℕ) (fin : Bool) (scan : ℕ) (prev : Bool) (is l : List ℕ) (p q : ℕ) (rs : List Run) → n ≤ scan → State n fin scan prev (length is) → Value [] p ≡ Value rs q → ReadRuns size n fin scan prev is l p q rs
unfolding runs_bins sent_of final_of
runs-end size n fin scan prev is l p q rs h s e =
    let z : scan ≡ n = omega (arith, s.inside) in
    let y : [] ≡ rs = same-value e in
    let d = s.done z in
    let g : ReadRuns size n fin scan prev is l p p [] = record { stands = stands-none l p; sent = sym (nil_length is d.0); final = d.1; keeps = z } in
    rw (← y, ← same_place e) g

-- a run and what follows it
runs-join : (size n : ℕ) (fin : Bool) (scan : ℕ) (prev : Bool) (is l : List ℕ) (p q : ℕ) (above : Bool) (i : ℕ) (js : List ℕ) (m r t more : ℕ) (rs : List Run) →
    Stands l p (kind_bins size n scan prev (length is) above) m × (asked size n scan prev (length is) ≡ false → above ≡ inferred size scan prev (length is)) →
    Next above is m i js r →
    Stands l r (more_bins n scan (length js) fin above i more) t × MoreOk n scan (length js) fin above more →
    ReadRuns size n fin (scan + more + 1) above js l t q rs →
    ReadRuns size n fin scan prev is l p q (record { above = above; sent = i; more = more; start = scan } ∷ rs)
unfolding runs_bins final_of sent_of
runs-join size n fin scan prev is l p q above i js m r t more rs k x w g =
    let y : sent_of (record { above = above; sent = i; more = more; start = scan } ∷ rs) ≡ is = rw g.sent (sym x.list) in
    record {
      stands = rw (y, g.sent) (join k.0 (join (rw x.place at w.0) g.stands));
      sent = y;
      final = g.final;
      keeps = (record { start = refl; copy = kind_may size n scan prev (length is) above k.1; none = x.none }, g.keeps);
    }

-- over plain variables: `rw` would rewrite inside the terms that the reader's steps are
runs_same : {size n : ℕ} {fin : Bool} {scan : ℕ} {prev : Bool} {is l : List ℕ} {p q u : ℕ} {rs xs : List Run} → ReadRuns size n fin scan prev is l p u xs → Value xs u ≡ Value rs q → ReadRuns size n fin scan prev is l p q rs
runs_same g e = rw (← same-value e, ← same_place e) g

pub runs-back : (f size n : ℕ) (fin : Bool) (scan : ℕ) (prev : Bool) (is l : List ℕ) (p q : ℕ) (rs : List Run) → n ≤ scan + f → State n fin scan prev (length is) → runs_at f size n fin scan prev is l p ≡ Value rs q → ReadRuns size n fin scan prev is l p q rs
unfolding runs_at
runs-back zero size n fin scan prev is l p q rs h s e = runs-end size n fin scan prev is l p q rs (omega arith) s e
runs-back (suc f) size n fin scan prev is l p q rs h s e = go (leb n scan) refl (λ above js scan' t u rs'. runs-back f size n fin scan' above js l t u rs')
  where
    go : (t : Bool) → leb n scan ≡ t → ((above : Bool) (js : List ℕ) (scan' t u : ℕ) (rs' : List Run) → n ≤ scan' + f → State n fin scan' above (length js) → runs_at f size n fin scan' above js l t ≡ Value rs' u → ReadRuns size n fin scan' above js l t u rs') → ReadRuns size n fin scan prev is l p q rs
    go true c ih = runs-end size n fin scan prev is l p q rs (leb-true n scan c) s (rw c at e)
    go false c ih =
        let i : scan < n = leb-false n scan c in
        went (kind_at size n scan prev (length is) l p) _ (rw c at e) (λ above m ea e₁.
        went (next_sent above is m) _ e₁ (λ j r ej e₂.
        went (more_at n scan (length j.1) fin above j.0 l r) _ e₂ (λ more t em e₃.
        went (runs_at f size n fin (scan + more + 1) above j.1 l t) _ e₃ (λ rs' u er e₄.
        let k = kind_back size n scan prev (length is) l p m above ea in
        let x = next-back above is m j r ej in
        let w = more_back n scan (length j.1) fin above j.0 i l r t more em in
        let o = after_run n scan fin above prev is j.1 j.0 m r more i s x w.1 in
        let g = ih above j.1 (scan + more + 1) t u rs' (omega arith) o er in
        runs_same (runs-join size n fin scan prev is l p u above j.0 j.1 m r t more rs' k x w g) e₄))))
