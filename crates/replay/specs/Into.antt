-- The replay onto an array, as the loops go, and that the array's front is the definition's list.
use Rattle.std.specs.Prelude.{◌≡◌, refl, Bool, true, false, List, [], ◌∷◌, ◌++◌, ℕ, zero, suc, ◌+◌, ◌≤◌, ◌<◌, ltb, eqb, length, take, drop, set, replicate}
use Rattle.std.proofs.Common.{ap, sym, ◌∙◌, append_assoc, append-nil, add-zero, add-one, arith, length-set, length-take-le, take-suc-set}
use Rattle.std.proofs.lemmas.Bool.{eqb-false}
use Rattle.std.proofs.Common.{take-append-drop, drop-drop}
use borrow.Rule.Slice.PartMut.{put_mid}
use Rattle.base.specs.Pick.{pick, either}
use Rattle.base.specs.Codes.{All}
use Rattle.syntax.specs.Runs.{Run, Keeps}
use Rattle.syntax.specs.KeepLaws.{keeps_le}
use Rattle.h265.specs.Scan.{above_at}
use Rattle.syntax.specs.Replay.{reference, copy_cells, index_of, replay}
use Rattle.syntax.proofs.ReplayLaws.{above-take, reference-take}

unfoldable pub copy_into : ℕ → ℕ → ℕ → List ℕ → List ℕ
copy_into size zero i xs = xs
copy_into size (suc k) i xs = copy_into size k (i + 1) (set xs i (above_at size xs i))

unfoldable pub fill_into : ℕ → ℕ → ℕ → List ℕ → List ℕ
fill_into v zero i xs = xs
fill_into v (suc k) i xs = fill_into v k (i + 1) (set xs i v)

unfoldable pub index_in : ℕ → Bool → List ℕ → ℕ → ℕ → ℕ
index_in size prev xs scan i = pick (eqb scan 0) i (pick (ltb i (reference size prev xs scan)) i (i + 1))

unfoldable pub lay_into : ℕ → Bool → ℕ → ℕ → Bool → ℕ → List ℕ → List ℕ
lay_into size prev scan k above sent xs = pick above (copy_into size k scan xs) (fill_into (index_in size prev xs scan sent) k scan xs)

abbrev pub Short : Run → Type 0
Short r = r.sent < 255

-- ---- one turn of each loop

pub copy_turn : (size k j i : ℕ) (xs : List ℕ) → k ≡ suc j → copy_into size k i xs ≡ copy_into size j (i + 1) (set xs i (above_at size xs i))
unfolding copy_into
copy_turn size k j i xs e = rw e

pub copy_end : (size k i : ℕ) (xs : List ℕ) → k ≡ 0 → copy_into size k i xs ≡ xs
unfolding copy_into
copy_end size k i xs e = rw e

pub fill_turn : (v k j i : ℕ) (xs : List ℕ) → k ≡ suc j → fill_into v k i xs ≡ fill_into v j (i + 1) (set xs i v)
unfolding fill_into
fill_turn v k j i xs e = rw e

pub fill_end : (v k i : ℕ) (xs : List ℕ) → k ≡ 0 → fill_into v k i xs ≡ xs
unfolding fill_into
fill_end v k i xs e = rw e

-- ---- the array's front is the list

copy_length : (size k i : ℕ) (xs : List ℕ) → length (copy_into size k i xs) ≡ length xs
unfolding copy_into
copy_length size zero i xs = refl
copy_length size (suc k) i xs = copy_length size k (i + 1) (set xs i (above_at size xs i)) ∙ length-set xs i (above_at size xs i)

fill_length : (v k i : ℕ) (xs : List ℕ) → length (fill_into v k i xs) ≡ length xs
unfolding fill_into
fill_length v zero i xs = refl
fill_length v (suc k) i xs = fill_length v k (i + 1) (set xs i v) ∙ length-set xs i v

pub lay_length : (size : ℕ) (prev : Bool) (scan k : ℕ) (above : Bool) (sent : ℕ) (xs : List ℕ) → length (lay_into size prev scan k above sent xs) ≡ length xs
unfolding lay_into
lay_length size prev scan k true sent xs = copy_length size k scan xs
lay_length size prev scan k false sent xs = fill_length (index_in size prev xs scan sent) k scan xs

copy_front : (size k i : ℕ) (xs : List ℕ) → 0 < size → i + k ≤ length xs → take (i + k) (copy_into size k i xs) ≡ copy_cells size k (take i xs)
unfolding copy_into copy_cells
copy_front size zero i xs z h = rw (add-zero i)
copy_front size (suc k) i xs z h =
    let n : length (take i xs) ≡ i = length-take-le i xs (omega arith) in
    let a : i + suc k ≡ i + 1 + k = omega arith in
    let p : take (i + 1) (set xs i (above_at size xs i)) ≡ take i xs ++ (above_at size xs i ∷ []) = rw (add-one i) (take-suc-set xs i (above_at size xs i) (omega arith)) in
    rw (n, above-take size i i xs (omega arith) z, a, ← p) (copy_front size k (i + 1) (set xs i (above_at size xs i)) z (rw length-set (omega arith)))

fill_front : (v k i : ℕ) (xs : List ℕ) → i + k ≤ length xs → take (i + k) (fill_into v k i xs) ≡ take i xs ++ replicate k v
unfolding fill_into
fill_front v zero i xs h = rw (add-zero i) (sym (append-nil (take i xs)))
fill_front v (suc k) i xs h =
    let a : i + suc k ≡ i + 1 + k = omega arith in
    let p : take (i + 1) (set xs i v) ≡ take i xs ++ (v ∷ []) = rw (add-one i) (take-suc-set xs i v (omega arith)) in
    rw a (fill_front v k (i + 1) (set xs i v) (rw length-set (omega arith)) ∙ rw p (append_assoc (take i xs) (v ∷ []) (replicate k v)))

index-front : (size : ℕ) (prev : Bool) (scan i : ℕ) (xs : List ℕ) → 0 < size → scan ≤ length xs → index_in size prev xs scan i ≡ index_of size prev (take scan xs) i
unfolding index_in index_of
index-front size prev scan i xs z h =
    let n : length (take scan xs) ≡ scan = length-take-le scan xs h in
    either (eqb scan 0) (λ t. rw (n, t)) (λ t. rw (n, t, reference-take size prev scan xs (positive scan (eqb-false scan 0 t)) z))
  where
    positive : (n : ℕ) → (n ≡ 0 → ⊥) → 0 < n
    positive zero h = absurd (h refl)
    positive (suc n) h = omega arith

-- ---- one turn of the replay's loop

pub record Turn (size n scan : ℕ) (prev : Bool) (xs : List ℕ) (r : Run) (rs : List Run) : Type 0 where
  pub inside : scan + r.more + 1 ≤ n
  pub short : Short r
  pub keeps : Keeps size n (scan + r.more + 1) r.above rs
  pub shorts : All Short rs
  pub same : replay size r.above (take (scan + r.more + 1) (lay_into size prev scan (r.more + 1) r.above r.sent xs)) rs ≡ replay size prev (take scan xs) (r ∷ rs)

pub replay-turn : (size n scan : ℕ) (prev : Bool) (xs : List ℕ) (all : List Run) (r : Run) (rs : List Run) → 0 < size → n ≤ length xs → all ≡ r ∷ rs → Keeps size n scan prev all → All Short all → Turn size n scan prev xs r rs
unfolding replay lay_into
replay-turn size n scan prev xs all r rs z o e k s =
    let k₁ : Keeps size n scan prev (r ∷ rs) = rw e at k in
    let s₁ : All Short (r ∷ rs) = rw e at s in
    let i : scan + r.more + 1 ≤ n = keeps_le size n (scan + r.more + 1) r.above rs k₁.1 in
    record { inside = i; short = s₁.0; keeps = k₁.1; shorts = s₁.1; same = ap (λ (y : List ℕ). replay size r.above y rs) (go r.above i) }
  where
    go : (b : Bool) → scan + r.more + 1 ≤ n → take (scan + r.more + 1) (pick b (copy_into size (r.more + 1) scan xs) (fill_into (index_in size prev xs scan r.sent) (r.more + 1) scan xs)) ≡ pick b (copy_cells size (r.more + 1) (take scan xs)) (take scan xs ++ replicate (r.more + 1) (index_of size prev (take scan xs) r.sent))
    go true i = let g : scan + r.more + 1 ≡ scan + (r.more + 1) = omega arith in rw g (copy_front size (r.more + 1) scan xs z (omega arith))
    go false i =
        let g : scan + r.more + 1 ≡ scan + (r.more + 1) = omega arith in
        rw (g, ← index-front size prev scan r.sent xs z (omega arith)) (fill_front (index_in size prev xs scan r.sent) (r.more + 1) scan xs (omega arith))

-- ---- what lies past a run is as it was

drop-set : (d i v : ℕ) (xs : List ℕ) → i < d → drop d (set xs i v) ≡ drop d xs
drop-set d i v [] h = refl
drop-set zero i v (x ∷ xs) h = absurd (omega arith)
drop-set (suc d) zero v (x ∷ xs) h = refl
drop-set (suc d) (suc i) v (x ∷ xs) h = drop-set d i v xs (omega arith)

copy_past : (size k i d : ℕ) (xs : List ℕ) → i + k ≤ d → drop d (copy_into size k i xs) ≡ drop d xs
unfolding copy_into
copy_past size zero i d xs h = refl
copy_past size (suc k) i d xs h = copy_past size k (i + 1) d (set xs i (above_at size xs i)) (omega arith) ∙ drop-set d i (above_at size xs i) xs (omega arith)

fill_past : (v k i d : ℕ) (xs : List ℕ) → i + k ≤ d → drop d (fill_into v k i xs) ≡ drop d xs
unfolding fill_into
fill_past v zero i d xs h = refl
fill_past v (suc k) i d xs h = fill_past v k (i + 1) d (set xs i v) (omega arith) ∙ drop-set d i v xs (omega arith)

-- a fill of the places from i on is the definition's
pub fill_is : (v k i : ℕ) (xs : List ℕ) → i + k ≤ length xs → put_mid i k xs (replicate k v) ≡ fill_into v k i xs
fill_is v k i xs h =
    sym (append_assoc (take i xs) (replicate k v) _)
    ∙ ap (λ (r : List ℕ). (take i xs ++ replicate k v) ++ r) (drop-drop k i xs)
    ∙ rw (← fill_front v k i xs h, ← fill_past v k i (i + k) xs (omega arith)) (take-append-drop (i + k) (fill_into v k i xs))

pub lay_past : (size : ℕ) (prev : Bool) (scan k : ℕ) (above : Bool) (sent d : ℕ) (xs : List ℕ) → scan + k ≤ d → drop d (lay_into size prev scan k above sent xs) ≡ drop d xs
unfolding lay_into
lay_past size prev scan k true sent d xs h = copy_past size k scan d xs h
lay_past size prev scan k false sent d xs h = fill_past (index_in size prev xs scan sent) k scan d xs h
