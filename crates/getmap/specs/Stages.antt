-- The stages of the map as the code has them.
use Rattle.std.specs.Prelude.{◌≡◌, refl, Bool, false, List, [], ℕ, ◌≤◌}
use Rattle.std.proofs.Common.{lt-ltb}
use Rattle.base.specs.Answer.{Answer, Value, Refused, onward}
use Rattle.base.specs.Codes.{when_at}
use Rattle.h265.specs.Parse.{bin_at, marker_at}
use Rattle.syntax.specs.Block.{Map, indices_at, coded_at, map_at}
use Rattle.syntax.specs.Runs.{Run, runs_at}

unfoldable pub heads_at : Bool → List ℕ → ℕ → Answer (Bool × Bool)
heads_at escape l p =
    onward (bin_at 1 l p) (λ fin q.
    onward (bin_at 2 l q) (λ turned r.
    onward (when_at escape tt marker_at l r) (λ u t. Value (fin, turned) t)))

abbrev pair_of : Bool → Bool → Bool × Bool
pair_of a b = (a, b)

abbrev pub map_of : Bool → List Run → Map
map_of turned rs = record { turned = turned; runs = rs }

unfoldable pub runs_to : ℕ → ℕ → Bool → Bool → List ℕ → List ℕ → ℕ → Answer Map
runs_to size n fin turned is l p = onward (runs_at n size n fin 0 false is l p) (λ rs w. Value (record { turned = turned; runs = rs }) w)

pub coded_stages : (size n m : ℕ) (escape : Bool) (l : List ℕ) (p : ℕ) →
    coded_at size n m escape l p ≡ onward (indices_at n m l p) (λ is q. onward (heads_at escape l q) (λ h r. runs_to size n h.0 h.1 is l r))
unfolding coded_at heads_at runs_to
coded_stages size n m escape l p = go (indices_at n m l p)
  where
    go₃ : (is : List ℕ) (fin turned : Bool) (z : Answer (Unit {0})) → onward z (λ u v. onward (runs_at n size n fin 0 false is l v) (λ rs w. Value (map_of turned rs) w)) ≡ onward (onward z (λ u t. Value (pair_of fin turned) t)) (λ h r. onward (runs_at n size n h.0 0 false is l r) (λ rs w. Value (map_of h.1 rs) w))
    go₃ is fin turned (Value u v) = refl
    go₃ is fin turned (Refused k v) = refl

    go₂ : (is : List ℕ) (fin : Bool) (y : Answer Bool) → onward y (λ turned t. onward (when_at escape tt marker_at l t) (λ u v. onward (runs_at n size n fin 0 false is l v) (λ rs w. Value (map_of turned rs) w))) ≡ onward (onward y (λ turned r. onward (when_at escape tt marker_at l r) (λ u t. Value (pair_of fin turned) t))) (λ h r. onward (runs_at n size n h.0 0 false is l r) (λ rs w. Value (map_of h.1 rs) w))
    go₂ is fin (Value turned t) = go₃ is fin turned (when_at escape tt marker_at l t)
    go₂ is fin (Refused k t) = refl

    go₁ : (is : List ℕ) (x : Answer Bool) → onward x (λ fin r. onward (bin_at 2 l r) (λ turned t. onward (when_at escape tt marker_at l t) (λ u v. onward (runs_at n size n fin 0 false is l v) (λ rs w. Value (map_of turned rs) w)))) ≡ onward (onward x (λ fin q. onward (bin_at 2 l q) (λ turned r. onward (when_at escape tt marker_at l r) (λ u t. Value (pair_of fin turned) t)))) (λ h r. onward (runs_at n size n h.0 0 false is l r) (λ rs w. Value (map_of h.1 rs) w))
    go₁ is (Value fin r) = go₂ is fin (bin_at 2 l r)
    go₁ is (Refused k r) = refl

    go : (a : Answer (List ℕ)) → onward a (λ is q. onward (bin_at 1 l q) (λ fin r. onward (bin_at 2 l r) (λ turned t. onward (when_at escape tt marker_at l t) (λ u v. onward (runs_at n size n fin 0 false is l v) (λ rs w. Value (map_of turned rs) w))))) ≡ onward a (λ is q. onward (heads_at escape l q) (λ h r. runs_to size n h.0 h.1 is l r))
    go (Value is q) = go₁ is (bin_at 1 l q)
    go (Refused k q) = refl

-- no runs
unfoldable pub plain_to : Answer (Unit {0}) → Answer Map
plain_to a = onward a (λ u q. Value (record { turned = false; runs = [] }) q)

pub map_plain : (size n m : ℕ) (escape : Bool) (l : List ℕ) (p : ℕ) → m ≡ 0 → map_at size n m escape l p ≡ plain_to (when_at escape tt marker_at l p)
unfolding map_at plain_to
map_plain size n m escape l p e = rw e

pub map_coded : (size n m : ℕ) (escape : Bool) (l : List ℕ) (p : ℕ) → 1 ≤ m → map_at size n m escape l p ≡ coded_at size n m escape l p
unfolding map_at
map_coded size n m escape l p h = rw (lt-ltb 0 m h)
