-- what is written one behind the other
use Rattle.std.proofs.lemmas.List.{append_assoc}
use Rattle.std.proofs.Common.{ℕ, List, ◌++◌, ap, ◌∙◌}
use Rattle.alp_fields.specs.Forms.{Form, IsWritten, pair}

pub pair_written : {A B : Type 0} (a : Form A) (b : Form B) (v : A × B) (old mid new : List ℕ) → IsWritten a v.0 old mid → IsWritten b v.1 mid new → IsWritten (pair a b) v old new
pair_written a b v old mid new first second = record {
  appended = second.appended ∙ ap (λ (xs : List ℕ). xs ++ b.spell v.1) first.appended ∙ append_assoc old (a.spell v.0) (b.spell v.1);
  fits = (first.fits, second.fits);
}
