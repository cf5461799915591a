-- The run rules and the reader's replay are one: a list keeps the rules for xs exactly when its syntax is right and it replays to xs.
use Rattle.std.specs.Prelude.{◌≡◌, refl, ◌≢◌, Bool, true, false, List, [], ◌∷◌, ◌++◌, ℕ, zero, suc, ◌+◌, ◌*◌, ◌-◌, ◌/◌, ◌≤◌, ◌<◌, ltb, leb, eqb, length, get_or, take, drop, replicate}
use Rattle.std.proofs.Common.{ap, sym, ◌∙◌, append_assoc, div-add-mod', add-zero, add-one, arith, length-append, length-take, length-drop, length-take-le, take_all, take-suc, take-add, take_at, get_or-take, get_or-drop, get_or-append-add, ext_get_or, take-take, lt-ltb, le-ltb, ltb-true, ltb-false, eqb-true, eq-eqb, ne_eqb, leb-true}
use Rattle.std.proofs.lemmas.List.{length-replicate, get_or-replicate, get_or_at}
use Rattle.std.proofs.Math.ListN.{get_or-append}
use Rattle.std.proofs.lemmas.Bool.{eqb-false}
use Rattle.base.specs.Pick.{pick, either}
use Rattle.base.specs.Pick.{true_false}
use Rattle.base.specs.Codes.{All}
use Rattle.syntax.specs.Runs.{Run, sent_of, may_copy, Rule, Keeps}
use Rattle.syntax.specs.KeepLaws.{sent_above, sent_index, keeps_le}
use Rattle.h265.specs.Scan.{place_above, above_at}
use Rattle.h265.specs.ScanLaws.{above_before}
use Rattle.syntax.specs.Replay.{reference, less_one, Draws, Replays, copy_cells, index_of, replay}
use Rattle.syntax.specs.ReplayLaws.{Alphabets, First}

-- ---- the cell above, seen in a front part of the cells

pub above-take : (size k i : ℕ) (xs : List ℕ) → i ≤ k → 0 < size → above_at size (take k xs) i ≡ above_at size xs i
unfolding above_at
above-take size k i xs h z =
    either (ltb i size)
    (λ t. rw t)
    (λ t.
    let o : size ≤ i = ltb-false i size t in
    let b : place_above size i < i = above_before size i o z in
    rw (t, get_or-take k xs (place_above size i) 0 (omega arith)))

pub reference-take : (size : ℕ) (prev : Bool) (k : ℕ) (xs : List ℕ) → 0 < k → 0 < size → reference size prev (take k xs) k ≡ reference size prev xs k
unfolding reference
reference-take size true k xs h z = above-take size k k xs (omega arith) z
reference-take size false k xs h z = get_or-take k xs (k - 1) 0 (omega arith)

-- ---- the rules give the replay

copy_cells_lem : (size k s : ℕ) (xs : List ℕ) → 0 < size → s + k ≤ length xs → ((j : ℕ) → j < k → get_or xs (s + j) 0 ≡ above_at size xs (s + j)) → copy_cells size k (take s xs) ≡ take (s + k) xs
unfolding copy_cells
copy_cells_lem size zero s xs z h c = rw (add-zero s)
copy_cells_lem size (suc k) s xs z h c =
    let n : length (take s xs) ≡ s = length-take-le s xs (omega arith) in
    let a : s + 0 ≡ s = omega arith in
    let e : above_at size (take s xs) (length (take s xs)) ≡ get_or xs s 0 = rw (n, above-take size s s xs (omega arith) z) (sym (rw a at (c 0 (omega arith)))) in
    let f : take s xs ++ (get_or xs s 0 ∷ []) ≡ take (suc s) xs = sym (take-suc xs s 0 (omega arith)) in
    let g : s + suc k ≡ suc s + k = omega arith in
    rw (e, f, g) (copy_cells_lem size k (suc s) xs z (omega arith) (λ j h. let b : s + suc j ≡ suc s + j = omega arith in rw b at (c (suc j) (omega arith))))

drawn-cells : (k s v : ℕ) (xs : List ℕ) → s + k ≤ length xs → ((j : ℕ) → j < k → get_or xs (s + j) 0 ≡ v) → take s xs ++ replicate k v ≡ take (s + k) xs
drawn-cells k s v xs h c =
    let n : length (take k (drop s xs)) ≡ k = length-take-le k (drop s xs) (rw length-drop (omega arith)) in
    let e : replicate k v ≡ take k (drop s xs) = ext_get_or 0 (replicate k v) (take k (drop s xs)) (rw (length-replicate, n)) (λ i b.
    let o : i < k = rw length-replicate at b in
    rw (get_or-replicate k i v 0 o, get_or-take k (drop s xs) i 0 o, get_or-drop s xs i 0) (sym (c i o))) in
    rw (take-add s k xs, e)

index_back : (v ref : ℕ) → v ≢ ref → pick (ltb (less_one v ref) ref) (less_one v ref) (less_one v ref + 1) ≡ v
unfolding less_one
index_back v ref d =
    either (ltb ref v)
    (λ t. let o : ref < v = ltb-true ref v t in let y : ref ≤ v - 1 = omega arith in rw (t, le-ltb (v - 1) ref y) (omega arith))
    (λ t. let o : v ≤ ref = ltb-false ref v t in let y : v < ref = omega arith in rw (t, lt-ltb v ref y))

index-of : (size m : ℕ) (xs : List ℕ) (scan : ℕ) (prev : Bool) (r : Run) → 0 < size → scan ≤ length xs → Draws size m xs scan prev r → index_of size prev (take scan xs) r.sent ≡ get_or xs scan 0
unfolding index_of
index-of size m xs scan prev r z h d =
    let n : length (take scan xs) ≡ scan = length-take-le scan xs h in
    either (eqb scan 0)
    (λ t. rw (n, t) (d.first (eqb-true scan 0 t)).0)
    (λ t.
    let o : 0 < scan = positive scan (eqb-false scan 0 t) in
    rw (n, t, reference-take size prev scan xs o z, d.sent o) (index_back (get_or xs scan 0) (reference size prev xs scan) (d.other o)))
  where
    positive : (n : ℕ) → (n ≡ 0 → ⊥) → 0 < n
    positive zero h = absurd (h refl)
    positive (suc n) h = omega arith

pub replays_le : (size n m : ℕ) (xs : List ℕ) (scan : ℕ) (prev : Bool) (rs : List Run) → Replays size n m xs scan prev rs → scan ≤ n
replays_le size n m xs scan prev [] k = omega arith
replays_le size n m xs scan prev (r ∷ rs) k = omega (arith, replays_le size n m xs (scan + r.more + 1) r.above rs k.1)

pub rules-replay : (size n m : ℕ) (xs : List ℕ) (scan : ℕ) (prev : Bool) (rs : List Run) → 0 < size → length xs ≡ n → Replays size n m xs scan prev rs → replay size prev (take scan xs) rs ≡ xs
unfolding replay
rules-replay size n m xs scan prev [] z e k = take_all scan xs (omega arith)
rules-replay size n m xs scan prev (r ∷ rs) z e k =
    let o : scan + r.more + 1 ≤ n = replays_le size n m xs (scan + r.more + 1) r.above rs k.1 in
    let g : scan + (r.more + 1) ≡ scan + r.more + 1 = omega arith in
    let ih : replay size r.above (take (scan + r.more + 1) xs) rs ≡ xs = rules-replay size n m xs (scan + r.more + 1) r.above rs z e k.1 in
    either r.above
    (λ t.
    let c = k.0.copies t in
    let y : copy_cells size (r.more + 1) (take scan xs) ≡ take (scan + (r.more + 1)) xs = copy_cells_lem size (r.more + 1) scan xs z (omega arith) (λ j h. c.cells j (omega arith)) in
    rw (t, y, g) (rw t at ih))
    (λ t.
    let d = k.0.draws t in
    let v : index_of size prev (take scan xs) r.sent ≡ get_or xs scan 0 = index-of size m xs scan prev r z (omega arith) d in
    let y : take scan xs ++ replicate (r.more + 1) (get_or xs scan 0) ≡ take (scan + (r.more + 1)) xs = drawn-cells (r.more + 1) scan (get_or xs scan 0) xs (omega arith) (λ j h. d.cells j (omega arith)) in
    rw (t, v, y, g) (rw t at ih))

pub rules_keep : (size n m : ℕ) (xs : List ℕ) (scan : ℕ) (prev : Bool) (rs : List Run) → Replays size n m xs scan prev rs → Keeps size n scan prev rs
rules_keep size n m xs scan prev [] k = k
rules_keep size n m xs scan prev (r ∷ rs) k =
    (record { start = k.0.start; copy = (λ t. (k.0.copies t).may); none = (λ t. (k.0.copies t).none) }, rules_keep size n m xs (scan + r.more + 1) r.above rs k.1)

-- ---- the replay gives the rules

length-copied : (size k : ℕ) (done : List ℕ) → length (copy_cells size k done) ≡ length done + k
unfolding copy_cells
length-copied size zero done = sym (add-zero (length done))
length-copied size (suc k) done =
    length-copied size k (done ++ (above_at size done (length done) ∷ [])) ∙ rw length-append (omega arith)

copied-front : (size k : ℕ) (done : List ℕ) → take (length done) (copy_cells size k done) ≡ done
unfolding copy_cells
copied-front size zero done = take_all (length done) done (omega arith)
copied-front size (suc k) done =
    let a : ℕ = above_at size done (length done) in
    let n : length (done ++ (a ∷ [])) ≡ length done + 1 = length-append done (a ∷ []) in
    front-front (length done) (length (done ++ (a ∷ []))) (copy_cells size k (done ++ (a ∷ []))) (omega arith) ∙
    rw (copied-front size k (done ++ (a ∷ []))) (take_at done (a ∷ []) (length done) refl)
  where
    front-front : (i j : ℕ) (xs : List ℕ) → i ≤ j → take i xs ≡ take i (take j xs)
    front-front i j xs h = sym (take-take i j xs h)

-- the cells after one run
abbrev after : ℕ → Bool → List ℕ → Run → List ℕ
after size prev done r = pick r.above (copy_cells size (r.more + 1) done) (done ++ replicate (r.more + 1) (index_of size prev done r.sent))

length-after : (size : ℕ) (prev : Bool) (done : List ℕ) (r : Run) → length (after size prev done r) ≡ length done + (r.more + 1)
length-after size prev done r =
    either r.above
    (λ t. rw t (length-copied size (r.more + 1) done))
    (λ t. rw (t, length-append, length-replicate))

after_front : (size : ℕ) (prev : Bool) (done : List ℕ) (r : Run) → take (length done) (after size prev done r) ≡ done
after_front size prev done r =
    either r.above
    (λ t. rw t (copied-front size (r.more + 1) done))
    (λ t. rw t (take_at done (replicate (r.more + 1) (index_of size prev done r.sent)) (length done) refl))

replay-front : (size : ℕ) (prev : Bool) (done : List ℕ) (rs : List Run) → take (length done) (replay size prev done rs) ≡ done
unfolding replay
replay-front size prev done [] = take_all (length done) done (omega arith)
replay-front size prev done (r ∷ rs) =
    let d : List ℕ = after size prev done r in
    sym (take-take (length done) (length d) (replay size r.above d rs) (omega (arith, length-after size prev done r))) ∙
    rw (replay-front size r.above d rs) (after_front size prev done r)

-- the first cell that is copied
copied-step : (size k s : ℕ) (xs : List ℕ) → s + suc k ≤ length xs → copy_cells size (suc k) (take s xs) ≡ take (s + suc k) xs → take s xs ++ (above_at size (take s xs) (length (take s xs)) ∷ []) ≡ take (suc s) xs
unfolding copy_cells
copied-step size k s xs h e =
    let a : ℕ = above_at size (take s xs) (length (take s xs)) in
    let m : length (take s xs ++ (a ∷ [])) ≡ suc s = length-append (take s xs) (a ∷ []) ∙ rw (length-take-le s xs (omega arith)) (omega arith) in
    let u : take (suc s) (copy_cells size k (take s xs ++ (a ∷ []))) ≡ take s xs ++ (a ∷ []) = rw m at (copied-front size k (take s xs ++ (a ∷ []))) in
    sym u ∙ rw e (take-take (suc s) (s + suc k) xs (omega arith))

copied-first : (size s a : ℕ) (xs : List ℕ) → s < length xs → take s xs ++ (a ∷ []) ≡ take (suc s) xs → get_or xs s 0 ≡ a
copied-first size s a xs h f =
    let n : length (take s xs) ≡ s = length-take-le s xs (omega arith) in
    sym (get_or-take (suc s) xs s 0 (omega arith)) ∙ rw (← f) (get_or_at (take s xs) a [] 0 s n)

copied-cells : (size k s : ℕ) (xs : List ℕ) → 0 < size → s + k ≤ length xs → copy_cells size k (take s xs) ≡ take (s + k) xs → (j : ℕ) → j < k → get_or xs (s + j) 0 ≡ above_at size xs (s + j)
unfolding copy_cells
copied-cells size zero s xs z h e j o = absurd (omega arith)
copied-cells size (suc k) s xs z h e zero o =
    let n : length (take s xs) ≡ s = length-take-le s xs (omega arith) in
    rw (add-zero, copied-first size s (above_at size (take s xs) (length (take s xs))) xs (omega arith) (copied-step size k s xs h e), n) (above-take size s s xs (omega arith) z)
copied-cells size (suc k) s xs z h e (suc j) o =
    let b : s + suc j ≡ suc s + j = omega arith in
    let c : s + suc k ≡ suc s + k = omega arith in
    let f = copied-step size k s xs h e in
    rw b (copied-cells size k (suc s) xs z (omega arith) (next f (rw c at e)) j (omega arith))
  where
    next : take s xs ++ (above_at size (take s xs) (length (take s xs)) ∷ []) ≡ take (suc s) xs → copy_cells size (suc k) (take s xs) ≡ take (suc s + k) xs → copy_cells size k (take (suc s) xs) ≡ take (suc s + k) xs
    next f e = rw (← f) e

drawn-back : (k s w : ℕ) (xs : List ℕ) → s + k ≤ length xs → take s xs ++ replicate k w ≡ take (s + k) xs → (j : ℕ) → j < k → get_or xs (s + j) 0 ≡ w
drawn-back k s w xs h e j o =
    let n : length (take s xs) ≡ s = length-take-le s xs (omega arith) in
    let u : get_or (take s xs ++ replicate k w) (length (take s xs) + j) 0 ≡ w = get_or-append-add (take s xs) (replicate k w) j 0 ∙ get_or-replicate k j w 0 o in
    sym (get_or-take (s + k) xs (s + j) 0 (omega arith)) ∙ rw (← e) (rw n at u)

-- an index read is never its reference, and is sent as it was
raised : (i ref v : ℕ) → v ≡ pick (ltb i ref) i (i + 1) → (v ≢ ref) × (i ≡ less_one v ref)
unfolding less_one
raised i ref v e =
    either (ltb i ref)
    (λ t.
    let o : i < ref = ltb-true i ref t in
    let y : v ≡ i = e ∙ rw t in
    let n : v ≤ ref = omega arith in
    ((λ w. omega arith), rw (le-ltb ref v n) (sym y)))
    (λ t.
    let o : ref ≤ i = ltb-false i ref t in
    let y : v ≡ i + 1 = e ∙ rw t in
    let n : ref < v = omega arith in
    ((λ w. omega arith), rw (lt-ltb ref v n) (omega arith)))

-- what an index run draws, from what it sent
draws-of : (size m : ℕ) (xs : List ℕ) (scan : ℕ) (prev : Bool) (r : Run) → 0 < size → scan ≤ length xs → (scan ≡ 0 → r.sent < m + 1) → (0 < scan → r.sent < m) → ((j : ℕ) → j ≤ r.more → get_or xs (scan + j) 0 ≡ index_of size prev (take scan xs) r.sent) → Draws size m xs scan prev r
unfolding index_of
draws-of size m xs scan prev r z h a b c =
    let n : length (take scan xs) ≡ scan = length-take-le scan xs h in
    let y : scan + 0 ≡ scan = omega arith in
    let v : get_or xs scan 0 ≡ index_of size prev (take scan xs) r.sent = rw y at (c 0 (omega arith)) in
    let w : 0 < scan → get_or xs scan 0 ≡ pick (ltb r.sent (reference size prev xs scan)) r.sent (r.sent + 1) =
    λ o. v ∙ rw (n, ne_eqb scan 0 (λ e. omega arith), reference-take size prev scan xs o z) in
    record {
      first = λ e. (sym (v ∙ rw (n, e)), a e);
      other = λ o. (raised r.sent (reference size prev xs scan) (get_or xs scan 0) (w o)).0;
      sent = λ o. (raised r.sent (reference size prev xs scan) (get_or xs scan 0) (w o)).1;
      below = b;
      cells = λ j i. c j i ∙ sym v;
    }

-- after a run the place is not the start
alphabets-next : (size n m scan : ℕ) (prev : Bool) (r : Run) (rs : List Run) → 0 < size → Rule size scan prev r → Alphabets m scan (sent_of (r ∷ rs)) → (scan' : ℕ) → 0 < scan' → Alphabets m scan' (sent_of rs)
alphabets-next size n m scan prev r rs z k a scan' h = record {
  first = λ e. absurd (omega arith);
  later = λ o.
      either r.above
      (λ t. rw (sent_above r rs t) at (a.later (start scan prev (k.copy t))))
      (λ t. either (eqb scan 0)
      (λ y.
      let u : First m (r.sent ∷ sent_of rs) = rw (sent_index r rs t) at (a.first (eqb-true scan 0 y)) in
      u.1)
      (λ y.
      let u : All (λ v. v < m) (r.sent ∷ sent_of rs) = rw (sent_index r rs t) at (a.later (positive scan (eqb-false scan 0 y))) in
      u.1));
}
  where
    positive : (n : ℕ) → (n ≡ 0 → ⊥) → 0 < n
    positive zero h = absurd (h refl)
    positive (suc n) h = omega arith

    start : (scan : ℕ) (prev : Bool) → may_copy size scan prev ≡ true → 0 < scan
    start scan true e = absurd (true_false (sym e))
    start scan false e = omega (arith, leb-true size scan e)

pub replay-rules : (size n m : ℕ) (xs : List ℕ) (scan : ℕ) (prev : Bool) (rs : List Run) → 0 < size → length xs ≡ n → Keeps size n scan prev rs → Alphabets m scan (sent_of rs) → replay size prev (take scan xs) rs ≡ xs → Replays size n m xs scan prev rs
unfolding replay
replay-rules size n m xs scan prev [] z e k a f = k
replay-rules size n m xs scan prev (r ∷ rs) z e k a f =
    let o : scan + r.more + 1 ≤ n = keeps_le size n (scan + r.more + 1) r.above rs k.1 in
    let n₀ : length (take scan xs) ≡ scan = length-take-le scan xs (omega arith) in
    let d : List ℕ = after size prev (take scan xs) r in
    let g : scan + (r.more + 1) ≡ scan + r.more + 1 = omega arith in
    let n₁ : length (after size prev (take scan xs) r) ≡ scan + (r.more + 1) = length-after size prev (take scan xs) r ∙ rw n₀ in
    let p : take (length (after size prev (take scan xs) r)) (replay size r.above (after size prev (take scan xs) r) rs) ≡ after size prev (take scan xs) r = replay-front size r.above (after size prev (take scan xs) r) rs in
    let y : after size prev (take scan xs) r ≡ take (scan + (r.more + 1)) xs = sym p ∙ rw (f, n₁) in
    let y' : after size prev (take scan xs) r ≡ take (scan + r.more + 1) xs = y ∙ rw g in
    let ih : Replays size n m xs (scan + r.more + 1) r.above rs = replay-rules size n m xs (scan + r.more + 1) r.above rs z e k.1 (alphabets-next size n m scan prev r rs z k.0 a (scan + r.more + 1) (omega arith)) (rw y' at f) in (
      record {
        start = k.0.start;
        copies = λ t. record { may = k.0.copy t; none = k.0.none t; cells = λ j h. copied-cells size (r.more + 1) scan xs z (omega arith) (rw t at y) j (omega arith) };
        draws = λ t.
            draws-of size m xs scan prev r z (omega arith)
            (λ w. let u : First m (r.sent ∷ sent_of rs) = rw (sent_index r rs t) at (a.first w) in u.0)
            (λ w. let u : All (λ v. v < m) (r.sent ∷ sent_of rs) = rw (sent_index r rs t) at (a.later w) in u.0)
            (λ j h. drawn-back (r.more + 1) scan (index_of size prev (take scan xs) r.sent) xs (omega arith) (rw t at y) j (omega arith));
      },
      ih,
    )

-- the alphabets, from the rules
pub rules-alphabets : (size n m : ℕ) (xs : List ℕ) (scan : ℕ) (prev : Bool) (rs : List Run) → 0 < size → Replays size n m xs scan prev rs → Alphabets m scan (sent_of rs)
unfolding sent_of
rules-alphabets size n m xs scan prev [] z k = record { first = λ e. tt; later = λ o. tt }
rules-alphabets size n m xs scan prev (r ∷ rs) z k =
    let ih : Alphabets m (scan + r.more + 1) (sent_of rs) = rules-alphabets size n m xs (scan + r.more + 1) r.above rs z k.1 in
    either r.above
    (λ t. record {
      first = λ e. absurd (omega (arith, start scan prev (k.0.copies t).may));
      later = λ o. rw t (ih.later (omega arith));
    })
    (λ t. record {
      first = λ e. rw t (((k.0.draws t).first e).1, ih.later (omega arith));
      later = λ o. rw t ((k.0.draws t).below o, ih.later (omega arith));
    })
  where
    start : (scan : ℕ) (prev : Bool) → may_copy size scan prev ≡ true → 0 < scan
    start scan true e = absurd (true_false (sym e))
    start scan false e = omega (arith, leb-true size scan e)

-- ---- how many cells, and how high

pub length-replay : (size n scan : ℕ) (prev : Bool) (done : List ℕ) (rs : List Run) → length done ≡ scan → Keeps size n scan prev rs → length (replay size prev done rs) ≡ n
unfolding replay
length-replay size n scan prev done [] e k = e ∙ k
length-replay size n scan prev done (r ∷ rs) e k =
    length-replay size n (scan + r.more + 1) r.above (after size prev done r) rs (length-after size prev done r ∙ rw e (omega arith)) k.1

get_most : (m : ℕ) (xs : List ℕ) (i : ℕ) → All (λ v. v ≤ m) xs → get_or xs i 0 ≤ m
get_most m [] i h = omega arith
get_most m (x ∷ xs) zero h = h.0
get_most m (x ∷ xs) (suc i) h = get_most m xs i h.1

above_most : (size m : ℕ) (xs : List ℕ) (i : ℕ) → All (λ v. v ≤ m) xs → above_at size xs i ≤ m
unfolding above_at
above_most size m xs i h = either (ltb i size) (λ t. rw t (omega arith)) (λ t. rw t (get_most m xs (place_above size i) h))

all_snoc : (m : ℕ) (xs ys : List ℕ) → All (λ v. v ≤ m) xs → All (λ v. v ≤ m) ys → All (λ v. v ≤ m) (xs ++ ys)
all_snoc m [] ys a b = b
all_snoc m (x ∷ xs) ys a b = (a.0, all_snoc m xs ys a.1 b)

all_rep : (m v : ℕ) (k : ℕ) → v ≤ m → All (λ v. v ≤ m) (replicate k v)
all_rep m v zero h = tt
all_rep m v (suc k) h = (h, all_rep m v k h)

copied-most : (size m k : ℕ) (done : List ℕ) → All (λ v. v ≤ m) done → All (λ v. v ≤ m) (copy_cells size k done)
unfolding copy_cells
copied-most size m zero done h = h
copied-most size m (suc k) done h = copied-most size m k (done ++ (above_at size done (length done) ∷ [])) (all_snoc m done (above_at size done (length done) ∷ []) h (above_most size m done (length done) h, tt))

index-most : (size m scan : ℕ) (prev : Bool) (done : List ℕ) (i : ℕ) → length done ≡ scan → (scan ≡ 0 → i < m + 1) → (0 < scan → i < m) → index_of size prev done i ≤ m
unfolding index_of
index-most size m scan prev done i e a b =
    either (eqb (length done) 0)
    (λ t. rw t (omega (arith, a (sym e ∙ eqb-true (length done) 0 t))))
    (λ t.
    let o : i < m = b (positive scan (λ z. eqb-false (length done) 0 t (e ∙ z))) in
    rw t (either (ltb i (reference size prev done (length done))) (λ u. rw u (omega arith)) (λ u. rw u (omega arith))))
  where
    positive : (n : ℕ) → (n ≡ 0 → ⊥) → 0 < n
    positive zero h = absurd (h refl)
    positive (suc n) h = omega arith

pub replay-most : (size n m scan : ℕ) (prev : Bool) (done : List ℕ) (rs : List Run) → 0 < size → length done ≡ scan → Keeps size n scan prev rs → Alphabets m scan (sent_of rs) → All (λ v. v ≤ m) done → All (λ v. v ≤ m) (replay size prev done rs)
unfolding replay
replay-most size n m scan prev done [] z e k a h = h
replay-most size n m scan prev done (r ∷ rs) z e k a h =
    let o : All (λ v. v ≤ m) (after size prev done r) =
    either r.above
    (λ t. rw t (copied-most size m (r.more + 1) done h))
    (λ t. rw t (all_snoc m done (replicate (r.more + 1) (index_of size prev done r.sent)) h (all_rep m (index_of size prev done r.sent) (r.more + 1) (index-most size m scan prev done r.sent e
    (λ w. let u : First m (r.sent ∷ sent_of rs) = rw (sent_index r rs t) at (a.first w) in u.0)
    (λ w. let u : All (λ v. v < m) (r.sent ∷ sent_of rs) = rw (sent_index r rs t) at (a.later w) in u.0))))) in
    replay-most size n m (scan + r.more + 1) r.above (after size prev done r) rs z (length-after size prev done r ∙ rw e (omega arith)) k.1 (alphabets-next size n m scan prev r rs z k.0 a (scan + r.more + 1) (omega arith)) o
