-- what two live parts change is apart: each has what it changes locked to write
use Rattle.alp_base.specs.declared.key.Key.{Key}
use Rattle.alp_files.specs.Holdings.{Holding, DoAgree, IsIntended}
use Rattle.alp_files.specs.Locks.{Writes}
use Rattle.alp_files.proofs.HeldLemmas.{apart, writes-is-reads}
use Rattle.alp_files.proofs.HoldingLemmas.{agreement-of-leaves}

pub writes_apart : (a b : Holding) → DoAgree a b → IsIntended a → IsIntended b → (k : Key) → Writes a k → Writes b k → ⊥
writes_apart a b agree first second k mine other = apart a b (agreement-of-leaves a b agree first second) k mine (writes-is-reads b k other)
