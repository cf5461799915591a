-- A memory of indices: every slot answers for its colour.
use Rattle.std.specs.Prelude.{List, ◌≡◌, ℕ, ◌≤◌, ◌<◌, get_or, set, length, replicate}
use Rattle.std.proofs.Common.{⊎_elim, ap, sym, ◌∙◌, arith, length-set, get_or-set_same, get_or-set_other}
use Rattle.std.proofs.lemmas.List.{get_or-replicate, length-replicate}
use Rattle.base.specs.Pick.{lt_or_le}
use Rattle.assign.specs.Assign.{index_of}
use Rattle.assign.specs.Laws.{index-first}

pub record Cached (tol : ℕ) (ps : List ℕ) (n : ℕ) (keys vals : List ℕ) : Type 0 where
  pub many : length keys ≡ 256
  pub as_many : length vals ≡ 256
  pub answers : (s : ℕ) → s < 256 → get_or vals s 0 ≡ index_of tol ps n (get_or keys s 0)

-- at the start each remembers the first entry
pub cached_start : (tol : ℕ) (ps : List ℕ) (n : ℕ) → Cached tol ps n (replicate 256 (get_or ps 0 0)) (replicate 256 0)
cached_start tol ps n =
    record {
      many = length-replicate 256 (get_or ps 0 0);
      as_many = length-replicate {A = ℕ} 256 0;
      answers = λ s h. get_or-replicate 256 s 0 0 h ∙ sym (index-first tol ps n) ∙ ap (index_of tol ps n) (sym (get_or-replicate 256 s (get_or ps 0 0) 0 h));
    }

-- after a search
pub cached_more : (tol : ℕ) (ps : List ℕ) (n : ℕ) (keys vals : List ℕ) (s c v : ℕ) → Cached tol ps n keys vals → s < 256 → v ≡ index_of tol ps n c → Cached tol ps n (set keys s c) (set vals s v)
cached_more tol ps n keys vals s c v a l e =
    record {
      many = length-set keys s c ∙ a.many;
      as_many = length-set vals s v ∙ a.as_many;
      answers =
          λ t h.
          ⊎_elim
          (λ (x : t < s). other t h (λ q. omega arith))
          (λ (x : s ≤ t).
          ⊎_elim
          (λ (y : s < t). other t h (λ q. omega arith))
          (λ (y : t ≤ s).
          let q : t ≡ s = omega arith in
          rw (q, get_or-set_same vals s v 0 (omega (arith, a.as_many)), get_or-set_same keys s c 0 (omega (arith, a.many))) e)
          (lt_or_le s t))
          (lt_or_le t s);
    }
  where
    other : (t : ℕ) → t < 256 → (t ≡ s → ⊥) → get_or (set vals s v) t 0 ≡ index_of tol ps n (get_or (set keys s c) t 0)
    other t h d = get_or-set_other vals s t v 0 d ∙ a.answers t h ∙ ap (index_of tol ps n) (sym (get_or-set_other keys s t c 0 d))
