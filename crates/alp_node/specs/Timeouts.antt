-- What goes as a transaction of another server times out.
use Rattle.std.specs.Prelude.{Bool, true, false, List, [], ◌∷◌, map as list_map}
use Rattle.std.specs.List.{list_any}
use Rattle.alp_base.specs.declared.ids.TransId.{TransId}
use Rattle.alp_files.specs.declared.refusal.Cause.{Cause}
use Rattle.alp_worker.specs.Joins.{with_quit}
use Rattle.alp_worker.specs.declared.joins.Joins.{Joins}
use Rattle.alp_worker.specs.declared.live.LiveJoin.{LiveJoin}
use Rattle.alp_worker.specs.declared.live.Stage.{Stage}
use Rattle.alp_worker.specs.declared.live.Stage.TheVariants as stage
use Rattle.alp_node.specs.declared.dead.DeadPart.{DeadPart}

-- it was let in, and did not vote
abbrev pub is_active : Stage → Bool
is_active (stage.Joining who) = false
is_active (stage.Active who) = true
is_active (stage.Ready ts) = false

abbrev pub has_active : List LiveJoin → Bool
has_active ls = list_any (λ (l : LiveJoin). is_active l.stage) ls

-- the parts of these joins of the transaction ended for that cause
abbrev pub deads_of : TransId → Cause → List LiveJoin → List DeadPart
deads_of t c ls = list_map (λ (l : LiveJoin). record { client = l.client; trans = t; cause = c }) ls

-- these joins are over, one after the other
abbrev pub quitted_all : Joins → List LiveJoin → Joins
quitted_all k [] = k
quitted_all k (l ∷ ls) = quitted_all (with_quit k l.join) ls
