-- Both laws of the index map: indices, flags, QP marker and runs.
use Rattle.std.specs.Prelude.{◌≡◌, Bool, true, ltb, leb, eqb, replicate}
use Rattle.std.proofs.Math.Path.{refl, ap, sym, subst}
use Rattle.std.proofs.Common.{◌∙◌, pow_pos, pow-add}
use Rattle.std.proofs.Math.Bool.{false}
use mathlib.Core.List.{List, [], ◌∷◌, ◌++◌}
use Prim.Native.Nat.{ℕ, zero, suc, ◌+◌, ◌*◌, ◌-◌, ◌^◌, ◌≤◌, ◌<◌}
use native.Mathlib.Omega.{arith}
use Rattle.std.proofs.Math.ListN.{length}
use Rattle.std.proofs.lemmas.List.{length-replicate}
use borrow.Author.Tests.{lt-ltb, le-ltb, ltb-true, ltb-false, leb-true}
use Rattle.base.specs.Pick.{pick, either}
use Rattle.base.specs.Answer.{Value, went, same-value, same_place}
use Rattle.base.specs.Stands.{Stands, join, split, Code}
use Rattle.base.specs.Codes.{when_at, When, when_code, each_at, each_bins, Each, All, each-length, each_code}
use Rattle.h265.specs.Strings.{bin_of, tb, count_bins, rice_of, marker}
use Rattle.h265.specs.Parse.{bin_at, held, tb_at, count_at, marker_at}
use Rattle.h265.specs.BitLaws.{bin_code, marker_code}
use Rattle.h265.specs.EgkLaws.{held_code}
use Rattle.h265.proofs.TbLaws.{tb_code}
use Rattle.h265.specs.RiceLaws.{InRice}
use Rattle.h265.proofs.RiceLaws.{count_code}
use Rattle.syntax.specs.Runs.{Run, sent_of, final_of, Keeps, runs_bins, runs_at}
use Rattle.syntax.specs.KeepLaws.{sent_index, keeps-room}
use Rattle.syntax.specs.RunsLaws.{State, ReadRuns}
use Rattle.syntax.proofs.RunsLaws.{runs-there, runs-back}
use Rattle.syntax.specs.Block.{Map, alphabets, indices_bins, indices_at, coded_bins, coded_at, map_bins, map_at}
use Rattle.syntax.specs.MapLaws.{CodedOk, IndicesOk, MapOk, Under}

in_rice : (r v : ℕ) → v ≤ 65535 → InRice r v
in_rice r v h = rw (pow-add 2 (r + 1) 17) (omega (arith, pow_pos (r + 1)))

good-later : (m more : ℕ) → 1 ≤ m → All (λ a. 1 ≤ a) (replicate more m)
good-later m zero h = tt
good-later m (suc more) h = (h, good-later m more h)

good : (m more : ℕ) → 1 ≤ m → All (λ a. 1 ≤ a) (alphabets m more)
good m more h = (omega arith, good-later m more h)

tb-each : (m more : ℕ) → 1 ≤ m → Code (each_at tb_at (alphabets m more)) (each_bins tb (alphabets m more)) (Each Under (alphabets m more))
tb-each m more h = each_code tb_at tb (λ a. 1 ≤ a) Under tb_code (alphabets m more) (good m more h)

module _ (n m : ℕ) (cells : 1 ≤ n) (few : n ≤ 1024) (some : 1 ≤ m) where
  number : Code (λ l p. held p (n - 1) (count_at m l p)) (count_bins m) (λ v. InRice (rice_of m) v × (v ≤ n - 1))
  number = held_code (count_at m) (count_bins m) (n - 1) (count_code m)

  indices-there : (l : List ℕ) (p q : ℕ) (is : List ℕ) → IndicesOk n m is → Stands l p (indices_bins m is) q → indices_at n m l p ≡ Value is q
  unfolding indices_bins indices_at
  indices-there l p q is ok s =
      let a = split (count_bins m (length is - 1)) (each_bins tb (alphabets m (length is - 1)) is) s in
      let k : length is - 1 ≤ n - 1 = omega (arith, ok.most) in
      let i : InRice (rice_of m) (length is - 1) = in_rice (rice_of m) (length is - 1) (omega arith) in
      rw (number.there l p a.mid (length is - 1) (i, k) a.first) ((tb-each m (length is - 1) some).there l a.mid q is ok.each a.second)

  indices-join : (l : List ℕ) (p r q more : ℕ) (is : List ℕ) → Stands l p (count_bins m more) r → more ≤ n - 1 → Stands l r (each_bins tb (alphabets m more) is) q → Each Under (alphabets m more) is → Stands l p (indices_bins m is) q × IndicesOk n m is
  unfolding indices_bins
  indices-join l p r q more is a h b e =
      let z : length is ≡ suc more = each-length Under (alphabets m more) is e ∙ ap suc (length-replicate more m) in
      let y : length is - 1 ≡ more = omega arith in
      (rw y (join a b), record { some = omega arith; most = omega arith; each = subst (λ (x : ℕ). Each Under (alphabets m x) is) (sym y) e })

  indices-back : (l : List ℕ) (p q : ℕ) (is : List ℕ) → indices_at n m l p ≡ Value is q → Stands l p (indices_bins m is) q × IndicesOk n m is
  unfolding indices_at
  indices-back l p q is e =
      went (held p (n - 1) (count_at m l p)) _ e (λ more r em e₁.
      let a = number.back l p r more em in
      let b = (tb-each m more some).back l r q is e₁ in
      indices-join l p r q more is a.0 a.1.1 b.0 b.1)

-- the first run is an index run
pub first_sent : (size n : ℕ) (rs : List Run) → 1 ≤ size → 1 ≤ n → Keeps size n 0 false rs → (1 ≤ length (sent_of rs)) × (length (sent_of rs) ≤ n)
first_sent size n [] a b k = absurd (omega arith)
first_sent size n (r ∷ rs) a b k =
    either r.above
    (λ t. absurd (omega (arith, leb-true size 0 (k.0.copy t))))
    (λ t. (omega (arith, ap length (sent_index r rs t)), omega (arith, keeps-room size n 0 false r rs k)))

module _ (size n m : ℕ) (escape : Bool) (side : 1 ≤ size) (cells : 1 ≤ n) (few : n ≤ 1024) (some : 1 ≤ m) where
  marked : Code (when_at escape tt marker_at) (λ u. pick escape marker []) (When escape tt (λ (u : Unit {0}). Unit {0}))
  marked = when_code escape tt marker_code

  coded_there : (l : List ℕ) (p q : ℕ) (x : Map) → CodedOk size n m x → Stands l p (coded_bins size n m escape x) q → coded_at size n m escape l p ≡ Value x q
  unfolding coded_bins coded_at
  coded_there l p q x ok s =
      let fin = final_of false x.runs in
      let rest = runs_bins size n fin 0 false x.runs in
      let f = first_sent size n x.runs side cells ok.keeps in
      let a = split (indices_bins m (sent_of x.runs)) (bin_of 1 fin ++ (bin_of 2 x.turned ++ (pick escape marker [] ++ rest))) s in
      let b = split (bin_of 1 fin) (bin_of 2 x.turned ++ (pick escape marker [] ++ rest)) a.second in
      let d = split (bin_of 2 x.turned) (pick escape marker [] ++ rest) b.second in
      let g = split (pick escape marker []) rest d.second in
      rw (
        indices-there n m cells few some l p a.mid (sent_of x.runs) (record { some = f.0; most = f.1; each = ok.each }) a.first,
        (bin_code 1).there l a.mid b.mid fin tt b.first,
        (bin_code 2).there l b.mid d.mid x.turned tt d.first,
        marked.there l d.mid g.mid tt (record { sent = λ z. tt; unsent = λ z. refl }) g.first,
        runs-there n size n fin 0 false x.runs l g.mid q (omega arith) ok.keeps refl g.second,
      )

  coded_join : (l : List ℕ) (p r t u v w : ℕ) (is : List ℕ) (fin turned : Bool) (rs : List Run) →
      Stands l p (indices_bins m is) r × IndicesOk n m is →
      Stands l r (bin_of 1 fin) t →
      Stands l t (bin_of 2 turned) u →
      Stands l u (pick escape marker []) v →
      ReadRuns size n fin 0 false is l v w rs →
      Stands l p (coded_bins size n m escape (record { turned = turned; runs = rs })) w × CodedOk size n m (record { turned = turned; runs = rs })
  unfolding coded_bins
  coded_join l p r t u v w is fin turned rs a b d e g =
      (rw (g.sent, g.final) (join a.0 (join b (join d (join e g.stands)))), record { keeps = g.keeps; each = rw g.sent a.1.each })

  coded_back : (l : List ℕ) (p q : ℕ) (x : Map) → coded_at size n m escape l p ≡ Value x q → Stands l p (coded_bins size n m escape x) q × CodedOk size n m x
  unfolding coded_at
  coded_back l p q x e =
      went (indices_at n m l p) _ e (λ is r ei e₁.
      went (bin_at 1 l r) _ e₁ (λ fin t ef e₂.
      went (bin_at 2 l t) _ e₂ (λ turned u et e₃.
      went (when_at escape tt marker_at l u) _ e₃ (λ z v ez e₄.
      went (runs_at n size n fin 0 false is l v) _ e₄ (λ rs w er e₅.
      let a = indices-back n m cells few some l p r is ei in
      let o : State n fin 0 false (length is) = record { inside = omega arith; going = λ y h. absurd (omega (arith, a.1.some)); done = λ y. absurd (omega arith) } in
      let g = coded_join l p r t u v w is fin turned rs a ((bin_code 1).back l r t fin ef).0 ((bin_code 2).back l t u turned et).0 (marked.back l u v z ez).0
      (runs-back n size n fin 0 false is l v w rs (omega arith) o er) in
      rw (← same-value e₅, ← same_place e₅) g)))))

module _ (size n m : ℕ) (escape : Bool) (side : 1 ≤ size) (cells : 1 ≤ n) (few : n ≤ 1024) where
  map_there : (l : List ℕ) (p q : ℕ) (x : Map) → MapOk size n m x → Stands l p (map_bins size n m escape x) q → map_at size n m escape l p ≡ Value x q
  unfolding map_bins map_at
  map_there l p q x ok s =
      either (ltb 0 m)
      (λ t.
      let o : 0 < m = ltb-true 0 m t in
      rw t (coded_there size n m escape side cells few o l p q x (ok.coded o) (rw t at s)))
      (λ t.
      let o : m ≡ 0 = omega (arith, ltb-false 0 m t) in
      rw (t, (when_code escape tt marker_code).there l p q tt (record { sent = λ z. tt; unsent = λ z. refl }) (rw t at s), ok.plain o))

  map_back : (l : List ℕ) (p q : ℕ) (x : Map) → map_at size n m escape l p ≡ Value x q → Stands l p (map_bins size n m escape x) q × MapOk size n m x
  unfolding map_bins map_at
  map_back l p q x e =
      either (ltb 0 m)
      (λ t.
      let o : 0 < m = ltb-true 0 m t in
      let b = coded_back size n m escape side cells few o l p q x (rw t at e) in
      (rw t b.0, record { coded = λ z. b.1; plain = λ z. absurd (omega arith) }))
      (λ t.
      let o : m ≡ 0 = omega (arith, ltb-false 0 m t) in
      went (when_at escape tt marker_at l p) _ (rw t at e) (λ u r eu e₁.
      let b = (when_code escape tt marker_code).back l p r u eu in
      (rw (t, ← same_place e₁) b.0, record { coded = λ z. absurd (omega arith); plain = λ z. sym (same-value e₁) })))

  pub map_code : Code (map_at size n m escape) (map_bins size n m escape) (MapOk size n m)
  map_code = record { there = map_there; back = map_back }
