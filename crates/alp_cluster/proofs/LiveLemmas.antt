-- By no deed but a begin does a transaction come to run.
use Rattle.std.specs.Prelude.{true, false, Bool, cond, Option, None, Some}
use Rattle.std.proofs.Common.{◌≡◌, ℕ, List, refl, sym, ◌∙◌, ap}
use Rattle.alp_base.specs.declared.ids.JoinNo.{JoinNo}
use Rattle.alp_base.specs.declared.ids.Stamp.{Stamp}
use Rattle.alp_base.specs.declared.ids.TransId.{TransId}
use Rattle.alp_files.specs.declared.refusal.Cause.{Cause}
use Rattle.alp_files.specs.declared.refusal.Cause.TheVariants as cause
use Rattle.alp_journal.specs.Coordinator.{Fate, Undrawn, Running, Finishing, Committed, Forgotten, Ended, registered, finishing, heard, decided, ended, acknowledged, forgotten, restarted, has_all, fate_after, is_running}
use Rattle.alp_journal.specs.Deeds.{Deed, Begins, Registers, Finishes, Hears, Decides, Ends, Acknowledges, Forgets, Restarts, Quits}
use Rattle.alp_journal.specs.Ids.{same_trans}

abbrev pub IsNoBegin : Deed → Type 0
IsNoBegin (Begins t client who seen) = ⊥
IsNoBegin d = Unit {0}

still_if : (b : Bool) (x f : Fate) → is_running x ≡ false → is_running f ≡ false → is_running (cond b x f) ≡ false
still_if true x f h k = h
still_if false x f h k = k

registered_still : (j : JoinNo) (f : Fate) → is_running f ≡ false → is_running (registered j f) ≡ false
registered_still j (Running client js) h = let wrong : true ≡ false = h in cc
registered_still j f h = h

finishing_still : (f : Fate) → is_running f ≡ false → is_running (finishing f) ≡ false
finishing_still (Running client js) h = let wrong : true ≡ false = h in cc
finishing_still f h = h

heard_still : (j : JoinNo) (ts : ℕ) (f : Fate) → is_running f ≡ false → is_running (heard j ts f) ≡ false
heard_still j ts (Finishing client js vs) h = let wrong : true ≡ false = h in cc
heard_still j ts f h = h

decided_still : (stamp : Stamp) (ks : List JoinNo) (f : Fate) → is_running f ≡ false → is_running (decided stamp ks f) ≡ false
decided_still stamp ks (Finishing client js vs) h = refl
decided_still stamp ks f h = h

-- what ended does not run
ended_still : (f : Fate) → is_running (ended cause.TimedOut f) ≡ false
ended_still (Running client js) = refl
ended_still (Finishing client js vs) = refl
ended_still Undrawn = refl
ended_still (Committed stamp js ds) = refl
ended_still (Forgotten stamp js) = refl
ended_still (Ended c) = refl

any_ended_still : (c : Cause) (f : Fate) → is_running f ≡ false → is_running (ended c f) ≡ false
any_ended_still c (Running client js) h = refl
any_ended_still c (Finishing client js vs) h = refl
any_ended_still c f h = h

acknowledged_still : (j : JoinNo) (f : Fate) → is_running f ≡ false → is_running (acknowledged j f) ≡ false
acknowledged_still j (Committed stamp js ds) h = refl
acknowledged_still j f h = h

forgotten_still : (f : Fate) → is_running f ≡ false → is_running (forgotten f) ≡ false
forgotten_still (Committed stamp js ds) h = still_if (has_all ds js) (Forgotten stamp js) (Committed stamp js ds) refl refl
forgotten_still f h = h

restarted_still : (epoch : ℕ) (f : Fate) → is_running f ≡ false → is_running (restarted epoch f) ≡ false
restarted_still epoch (Running client js) h = refl
restarted_still epoch (Finishing client js vs) h = refl
restarted_still epoch (Committed stamp js ds) h = refl
restarted_still epoch f h = h

pub fate_still : (d : Deed) (t : TransId) (f : Fate) → IsNoBegin d → is_running f ≡ false → is_running (fate_after d t f) ≡ false
fate_still (Begins u client who seen) t f none h = absurd none
fate_still (Registers u j) t f none h = still_if (same_trans u t) (registered j f) f (registered_still j f h) h
fate_still (Finishes u) t f none h = still_if (same_trans u t) (finishing f) f (finishing_still f h) h
fate_still (Hears u j ts) t f none h = still_if (same_trans u t) (heard j ts f) f (heard_still j ts f h) h
fate_still (Decides stamp js) t f none h = still_if (same_trans stamp.trans t) (decided stamp js f) f (decided_still stamp js f h) h
fate_still (Ends u client c) t f none h = still_if (same_trans u t) (ended c f) f (any_ended_still c f h) h
fate_still (Acknowledges u j) t f none h = still_if (same_trans u t) (acknowledged j f) f (acknowledged_still j f h) h
fate_still (Forgets u) t f none h = still_if (same_trans u t) (forgotten f) f (forgotten_still f h) h
fate_still (Restarts epoch clock) t f none h = restarted_still epoch f h
fate_still d t f none h = h
