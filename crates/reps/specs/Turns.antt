-- The turns of the loops over representatives, over the arrays that the code holds.
use Rattle.std.specs.Prelude.{Option, None, Some, IfSome, true, false, List, ◌≡◌, refl, ℕ, suc, ◌+◌, ◌≤◌, ◌<◌, length, get_or, set, take, drop, replicate}
use Rattle.std.proofs.Common.{sym, ◌∙◌, ap, arith, add-one, length-set, drop-set-lt, length-take-le}
use Rattle.std.proofs.Math.Seq.{slice, slice_empty, slice-cons}
use Rattle.base.specs.Counted.{push}
use Rattle.base.specs.Lists.{padded, padded-is, drop_more}
use Rattle.reps.specs.declared.Reps.{Reps}
use Rattle.std.specs.Option.{is_some}
use Rattle.base.specs.Pick.{true_false}
use Rattle.reps.specs.Reps.{place_in, within, hit_of, joined, reps, listed, Joined}
use Rattle.reps.specs.Laws.{hit-here, hit-on, joined_full, joined-near, joined_new, reps-next}

-- ---- the search

module _ (tol e : ℕ) (l : List ℕ) (m r : ℕ) (lt : r < m) (le : m ≤ length l) where
  pub hit-stop : within tol e (get_or l r 0) ≡ true → hit_of tol e (slice r m l) ≡ 0
  hit-stop h = rw (slice-cons r m l 0 lt le) (hit-here tol e (get_or l r 0) (slice (suc r) m l) h)

  pub hit-next : within tol e (get_or l r 0) ≡ false → hit_of tol e (slice r m l) ≡ suc (hit_of tol e (slice (r + 1) m l))
  hit-next h = rw (slice-cons r m l 0 lt le, add-one r) (hit-on tol e (get_or l r 0) (slice (suc r) m l) h)

pub hit-end : (tol e : ℕ) (l : List ℕ) (m : ℕ) → hit_of tol e (slice m m l) ≡ 0
unfolding hit_of
hit-end tol e l m = rw (slice_empty m l)

-- where one is found, the place is in the list; where none is, it is the list's end
pub found-below : (xs : List ℕ) (r : Option ℕ) (h : ℕ) → place_in xs r ≡ h → IfSome r (λ i. i < length xs) → true ≡ is_some r → h < length xs
found-below xs None h e b s = absurd (true_false s)
found-below xs (Some i) h e b s = omega (arith, e, b)

pub found-none : (xs : List ℕ) (r : Option ℕ) (h : ℕ) → place_in xs r ≡ h → false ≡ is_some r → length xs ≤ h
found-none xs None h e s = omega (arith, e)
found-none xs (Some i) h e s = absurd (true_false (sym s))

-- ---- one more colour

module _ (tol limit c n : ℕ) (l : List ℕ) (k : n ≤ limit) (s : limit ≤ 64) (w : length l ≡ 64) where
  pub len : length (take n l) ≡ n
  len = length-take-le n l (omega arith)

  pub join_full : n ≡ limit → Joined tol limit c n n l l
  join_full e = record { wide = w; few = k; more = omega arith; is = sym (joined_full tol limit (take n l) c (omega (arith, len))); behind = refl }

  pub join-near : hit_of tol c (take n l) < n → Joined tol limit c n n l l
  join-near h = record { wide = w; few = k; more = omega arith; is = sym (joined-near tol limit (take n l) c (omega (arith, len))); behind = refl }

  pub join_new : (n ≡ limit → ⊥) → n ≤ hit_of tol c (take n l) → Joined tol limit c n (n + 1) l (set l n c)
  join_new e h = record {
    wide = length-set l n c ∙ w;
    few = omega (arith, e);
    more = omega arith;
    is = push l n c (omega arith) ∙ sym (joined_new tol limit (take n l) c (omega (arith, len, e)) (omega (arith, len)));
    behind = drop-set-lt (n + 1) l n c (omega arith);
  }

-- ---- all of them

-- i colours looked at: n representatives in the array l
pub record Joining (tol limit : ℕ) (cs : List ℕ) (i n : ℕ) (l : List ℕ) : Type 0 where
  pub wide : length l ≡ 64
  pub few : n ≤ limit
  pub is : take n l ≡ reps tol limit cs i
  pub behind : drop n l ≡ drop n (replicate 64 0)

pub joining_start : (tol limit : ℕ) (cs : List ℕ) → Joining tol limit cs 0 0 (replicate 64 0)
unfolding reps
joining_start tol limit cs = record { wide = refl; few = omega arith; is = refl; behind = refl }

pub joining_turn : {tol limit : ℕ} {cs : List ℕ} {i n r : ℕ} {l l' : List ℕ} → Joining tol limit cs i n l → Joined tol limit (get_or cs i 0) n r l l' → Joining tol limit cs (i + 1) r l'
joining_turn {tol} {limit} {cs} {i} {n} {r} {l} {l'} v j = record {
  wide = j.wide;
  few = j.few;
  is = j.is ∙ ap (λ (z : List ℕ). joined tol limit z (get_or cs i 0)) v.is ∙ sym (reps-next tol limit cs i);
  behind = j.behind ∙ drop_more l (replicate 64 0) n r j.more v.behind;
}

pub joining_end : {tol limit : ℕ} {cs : List ℕ} {i n : ℕ} {l : List ℕ} (d : ℕ) → limit ≤ 64 → i ≡ d → Joining tol limit cs i n l → ◌≡◌ {A = Reps} (record { count = n; list = l }) (listed (reps tol limit cs d))
joining_end {tol} {limit} {cs} {i} {n} {l} d s e v =
    let q : n ≡ length (reps tol limit cs i) = sym (length-take-le n l (omega (arith, v.wide, v.few))) ∙ ap length v.is in
    let p : l ≡ padded 64 0 (reps tol limit cs i) = padded-is 0 l (reps tol limit cs i) n 64 v.is v.behind q in
    rw (← e) (λ j. record { count = q j; list = p j })
