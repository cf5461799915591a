-- A counter laid back where it was read leaves the lists as they were.
use Rattle.std.specs.Prelude.{◌≡◌, refl, List, [], ◌∷◌, ℕ, zero, suc, ◌+◌, ◌<◌, length, get_or, set, replicate}
use Rattle.std.proofs.Common.{ap, ◌∙◌, arith}
use Rattle.std.proofs.lemmas.List.{length-replicate}
use Rattle.std.proofs.lemmas.List.Edits.{sets}
use Rattle.base.specs.Cells.{laid-length}
use Rattle.flat.specs.Flat.{number, each}
use Rattle.flat.specs.FlatLaws.{each_at_lem}
use Rattle.flatcounter.specs.Counter.{counter_of, marks_of}

there : (l : List ℕ) (i a : ℕ) → a ≡ get_or l i 0 → set l i a ≡ l
there [] i a h = refl
there (x ∷ xs) zero a h = ap (λ (z : ℕ). z ∷ xs) h
there (x ∷ xs) (suc i) a h = ap (λ (z : List ℕ). x ∷ z) (there xs i a h)

all_there : (vs l : List ℕ) (i : ℕ) → ((j : ℕ) → j < length vs → get_or vs j 0 ≡ get_or l (i + j) 0) → sets l i vs ≡ l
all_there [] l i h = refl
all_there (a ∷ vs) l i h =
    let z : i + 0 ≡ i = omega arith in
    let e : set l i a ≡ l = there l i a (h 0 (omega arith) ∙ ap (λ (k : ℕ). get_or l k 0) z) in
    rw e (all_there vs l (suc i) (λ j m. let s : i + suc j ≡ suc i + j = omega arith in h (suc j) (omega arith) ∙ ap (λ (k : ℕ). get_or l k 0) s))

pub keys_back : (l : List ℕ) → sets l 0 (each 0 256 (number l)) ≡ l
keys_back l =
    let n : length (each 0 256 (number l)) ≡ 256 = laid-length (number l) (replicate 256 0) 0 256 ∙ length-replicate {A = ℕ} 256 0 in
    all_there (each 0 256 (number l)) l 0 (λ j m. let s : 0 + j ≡ j = omega arith in rw s (each_at_lem 0 0 256 (number l) j (omega arith)))

pub marks_back : (l : List ℕ) → sets l 0 (number l 0 ∷ each 0 256 (λ i. number l (1 + i))) ≡ l
marks_back l =
    let n : length (each 0 256 (λ i. number l (1 + i))) ≡ 256 = laid-length (λ i. number l (1 + i)) (replicate 256 0) 0 256 ∙ length-replicate {A = ℕ} 256 0 in
    ap (λ (x : List ℕ). sets x 1 (each 0 256 (λ i. number l (1 + i)))) (there l 0 (number l 0) refl)
    ∙ all_there (each 0 256 (λ i. number l (1 + i))) l 1 (λ j m. each_at_lem 0 0 256 (λ i. number l (1 + i)) j (omega arith))

pub counter_back : (keys entry stamp : List ℕ) → (sets keys 0 (counter_of keys entry stamp).keys ≡ keys) × (sets entry 0 (counter_of keys entry stamp).entry ≡ entry) × (sets stamp 0 (marks_of (counter_of keys entry stamp)) ≡ stamp)
unfolding counter_of
counter_back keys entry stamp = (keys_back keys, keys_back entry, marks_back stamp)
