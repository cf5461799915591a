-- The answer to a call in order, from the predictor renewed on its numbers.
use Rattle.std.specs.Prelude.{◌≡◌, List, ℕ}
use Rattle.std.proofs.lemmas.List.Edits.{sets}
use Rattle.predictor.specs.Update.{update_of}
use Rattle.flat.specs.Flat.{flat_predictor}
use Rattle.flatready.specs.Ready.{Ready}
use Rattle.flatupdate.specs.Renewing.{after_of}
use Rattle.exports_update.specs.Calls.{update_out}

pub update_quick : (p b : List ℕ) (limit : ℕ) → Ready p b limit → (after : List ℕ) → after ≡ sets p 0 (flat_predictor (after_of p b limit)) → (0, after) ≡ update_out p b limit
unfolding update_out update_of
update_quick p b limit r after e = rw (r.none, e)
