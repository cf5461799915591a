-- One turn of the reader's run loop, as its code wants it: what stands in the lent list so far, before what is still to be read.
use Rattle.std.specs.Prelude.{◌≡◌, Bool, true, false, List, [], ◌∷◌, ◌++◌, ℕ, zero, suc, ◌+◌, ◌-◌, ◌≤◌, ◌<◌, length}
use Rattle.std.proofs.Math.Path.{refl}
use Rattle.std.proofs.Common.{ap, sym, ◌∙◌, append_assoc}
use borrow.Author.Tests.{le-leb, lt-leb}
use Rattle.base.specs.Pick.{pick}
use Rattle.base.specs.Answer.{Answer, Value, Refused, onward}
use Rattle.syntax.specs.Runs.{Run, kind_at, next_sent, more_at, runs_at}

-- runs that were read, before an answer
unfoldable pub prepend : List Run → Answer (List Run) → Answer (List Run)
prepend ds (Value rs q) = Value (ds ++ rs) q
prepend ds (Refused k q) = Refused k q

pub prepend-more : (ds es : List Run) (a : Answer (List Run)) → prepend ds (prepend es a) ≡ prepend (ds ++ es) a
unfolding prepend
prepend-more ds es (Value rs q) = ap (λ (x : List Run). Value x q) (sym (append_assoc ds es rs))
prepend-more ds es (Refused k q) = refl

module _ (f g size n : ℕ) (fin : Bool) (scan : ℕ) (prev : Bool) (is l : List ℕ) (p : ℕ) (e : f ≡ suc g) where
  pub runs_done : n ≤ scan → runs_at f size n fin scan prev is l p ≡ Value [] p
  unfolding runs_at
  runs_done h = rw (e, le-leb n scan h)

  pub kind_refused : (k q : ℕ) → scan < n → kind_at size n scan prev (length is) l p ≡ Refused k q → runs_at f size n fin scan prev is l p ≡ Refused k q
  unfolding runs_at
  kind_refused k q h a = rw (e, lt-leb n scan h, a)

  module _ (above : Bool) (q : ℕ) (h : scan < n) (a : kind_at size n scan prev (length is) l p ≡ Value above q) where
    pub next-refused : (k r : ℕ) → next_sent above is q ≡ Refused k r → runs_at f size n fin scan prev is l p ≡ Refused k r
    unfolding runs_at
    next-refused k r b = rw (e, lt-leb n scan h, a, b)

    pub more-refused : (i : ℕ) (js : List ℕ) (r k t : ℕ) → next_sent above is q ≡ Value (i, js) r → more_at n scan (length js) fin above i l r ≡ Refused k t → runs_at f size n fin scan prev is l p ≡ Refused k t
    unfolding runs_at
    more-refused i js r k t b d = rw (e, lt-leb n scan h, a, b, d)

    pub run_turn : (i : ℕ) (js : List ℕ) (r more t : ℕ) → next_sent above is q ≡ Value (i, js) r → more_at n scan (length js) fin above i l r ≡ Value more t →
        runs_at f size n fin scan prev is l p ≡ prepend (record { above = above; sent = i; more = more; start = scan } ∷ []) (runs_at g size n fin (scan + more + 1) above js l t)
    unfolding runs_at prepend
    run_turn i js r more t b d = rw (e, lt-leb n scan h, a, b, d) (rest (runs_at g size n fin (scan + more + 1) above js l t))
      where
        rest : (x : Answer (List Run)) → onward x (λ rs u. Value (record { above = above; sent = i; more = more; start = scan } ∷ rs) u) ≡ prepend (record { above = above; sent = i; more = more; start = scan } ∷ []) x
        rest (Value rs u) = refl
        rest (Refused k u) = refl
