use Rattle.std.specs.Prelude.{Bool, Option, Some, IfOk}
use Rattle.std.specs.FinMap as map
use Rattle.std.proofs.Common.{◌≡◌, List, ℕ, subst, rules}
use Rattle.alp_pool.specs.Pools.{log_of}
use Rattle.alp_wal.specs.Wal.{notes_of}
use Rattle.alp_store.specs.Notes.{is_good as is_good_said}
use Rattle.alp_store.proofs.notes.is_good.Goals as goal

pub returns-in-Some : goal.returns-in-Some
returns-in-Some g c =
    let there : Some c.in-Some.value.now ≡ map.get (notes_of (log_of c.args.pages.now)) c.args.name.now = search rules in
    subst (λ (o : Option (List ℕ)). IfOk c.is_server_note.result (λ (good : Bool). good ≡ is_good_said c.args.server c.args.servers c.args.name.now o)) there c.is_server_note.ensures
