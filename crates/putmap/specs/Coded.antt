-- The map's bins in the writer's order: index count and indices, the flags, the runs.
use Rattle.std.specs.Prelude.{◌≡◌, Bool, false, List, [], ◌++◌, ℕ, ◌-◌, ◌≤◌, length}
use Rattle.std.proofs.Common.{ap, sym, subst, ◌∙◌, append_assoc, lt-ltb}
use Rattle.base.specs.Codes.{each_bins}
use Rattle.base.specs.Laid.{Laid, laid_then}
use Rattle.base.specs.Pick.{pick}
use Rattle.h265.specs.Strings.{bin_of, tb, count_bins, marker}
use Rattle.syntax.specs.Block.{Map, alphabets, indices_bins, coded_bins, map_bins}
use Rattle.syntax.specs.Runs.{Run, sent_of, final_of, runs_bins}

four : (a b d e f : List ℕ) → a ++ (b ++ (d ++ (e ++ f))) ≡ a ++ ((b ++ (d ++ e)) ++ f)
four a b d e f = ap (λ (x : List ℕ). a ++ x) (ap (λ (x : List ℕ). b ++ x) (sym (append_assoc d e f)) ∙ sym (append_assoc b (d ++ e) f))

pub coded_laid : {l₀ l₁ l₂ l₃ l₄ : List ℕ} {at p q r t : ℕ} (size n m : ℕ) (escape turned : Bool) (rs : List Run) (total : ℕ) (fin : Bool) →
    total ≡ length (sent_of rs) →
    fin ≡ final_of false rs →
    Laid l₀ at (count_bins m (total - 1)) p l₁ →
    Laid l₁ p (each_bins tb (alphabets m (total - 1)) (sent_of rs)) q l₂ →
    Laid l₂ q (bin_of 1 fin ++ (bin_of 2 turned ++ pick escape marker [])) r l₃ →
    Laid l₃ r (runs_bins size n fin 0 false rs) t l₄ →
    Laid l₀ at (coded_bins size n m escape (record { turned = turned; runs = rs })) t l₄
unfolding coded_bins indices_bins
coded_laid {l₀} {l₁} {l₂} {l₃} {l₄} {at} {p} {q} {r} {t} size n m escape turned rs total fin e f a b c d =
    let i = count_bins m (total - 1) ++ each_bins tb (alphabets m (total - 1)) (sent_of rs) in
    let w : Laid l₀ at (i ++ ((bin_of 1 fin ++ (bin_of 2 turned ++ pick escape marker [])) ++ runs_bins size n fin 0 false rs)) t l₄ = laid_then (laid_then a b) (laid_then c d) in
    rw (← e, ← f) (subst (λ (x : List ℕ). Laid l₀ at x t l₄) (sym (four i (bin_of 1 fin) (bin_of 2 turned) (pick escape marker []) (runs_bins size n fin 0 false rs))) w)

pub map_coded : (size n m : ℕ) (escape : Bool) (x : Map) → 1 ≤ m → map_bins size n m escape x ≡ coded_bins size n m escape x
unfolding map_bins
map_coded size n m escape x h = rw (lt-ltb 0 m h)

pub map_plain : (size n m : ℕ) (escape : Bool) (x : Map) → m ≡ 0 → map_bins size n m escape x ≡ pick escape marker []
unfolding map_bins
map_plain size n m escape x e = rw e
