-- A test at every item of a list's front, one item after the other.
use Rattle.std.specs.Prelude.{◌≡◌, Bool, ◌&&◌, List, ℕ, ◌+◌, ◌≤◌, length, take, get_or}
use Rattle.std.proofs.Common.{sym, ◌∙◌, arith}
use Rattle.std.proofs.Math.ListN.{length-take}
use Rattle.std.proofs.lemmas.List.{get_or-take}
use Rattle.base.specs.Tests.{up_to, up_to-next, up_to-same, and_pick}

-- one item more
pub and_next : (f : ℕ → Bool) (i : ℕ) (a b : Bool) → a ≡ up_to i f → b ≡ f i → a && b ≡ up_to (i + 1) f
and_next f i a b p q = and_pick a b ∙ rw (p, q) (sym (up_to-next f i))

-- all of them
pub all_taken : {A : Type 0} (t : A → Bool) (d : A) (l : List A) (n i : ℕ) → n ≤ length l → i ≤ length (take n l) → length (take n l) ≤ i → up_to i (λ j. t (get_or (take n l) j d)) ≡ up_to n (λ j. t (get_or l j d))
all_taken t d l n i h lo hi =
    let e : i ≡ n = omega (arith, length-take n l) in
    rw e (up_to-same n _ _ (λ j m. rw (get_or-take n l j d m)))
