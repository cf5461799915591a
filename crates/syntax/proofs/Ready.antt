-- What the test of a run list gives its writer: the rules of places and kinds, and each index within its alphabet.
use Rattle.std.specs.Prelude.{◌≡◌, refl, Bool, true, false, List, ℕ, ◌≤◌}
use Rattle.syntax.specs.Runs.{Run, sent_of}
use Rattle.syntax.specs.MapLaws.{CodedOk}
use Rattle.syntax.proofs.MapLaws.{first_sent}
use Rattle.syntax.proofs.ReplayLaws.{rules_keep, rules-alphabets}
use Rattle.syntax.specs.Test.{replays, replays-rules}
use Rattle.syntax.proofs.WholeLaws.{first-each}

pub ready : (size n m : ℕ) (xs : List ℕ) (turned : Bool) (rs : List Run) → 1 ≤ size → 1 ≤ n → replays size n m xs 0 false rs ≡ true → CodedOk size n m (record { turned = turned; runs = rs })
ready size n m xs turned rs a b e =
    let k = replays-rules size n m xs 0 false rs e in
    let o = rules_keep size n m xs 0 false rs k in
    record {
      keeps = o;
      each = first-each m (sent_of rs) (first_sent size n rs a b o).0 ((rules-alphabets size n m xs 0 false rs a k).first refl);
    }
