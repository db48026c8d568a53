-- What becomes of a join at the server that drew it.
use Rattle.std.specs.Prelude.{ℕ, Bool, true, false, List, [], ◌∷◌, Option, None, Some, if◌then◌else◌}
use Rattle.alp_base.specs.declared.ids.JoinNo.{JoinNo}
use Rattle.alp_base.specs.declared.ids.TransId.{TransId}
use Rattle.alp_base.specs.declared.ids.Stamp.{Stamp}
use Rattle.alp_journal.specs.Ids.{same_trans, same_join}
use Rattle.alp_journal.specs.Opening.{ReadyNote}
use Rattle.alp_journal.specs.Deeds.{Deed, Joins, Enters, Quits, Aborts, Readies, Applies, Restarts}

-- Not seen in this run; asking to be let in; let in; ready, with the time of its vote; applied; over without being
-- applied. A live join is of a transaction and a client, with its principal.
pub data Phase : Type 0 where
  Unseen : Phase
  Joining : TransId → (client : ℕ) → List ℕ → Phase
  Active : TransId → (client : ℕ) → List ℕ → Phase
  Ready : TransId → (client : ℕ) → (ts : ℕ) → Phase
  Applied : TransId → Stamp → Phase
  Over : Phase

abbrev pub drawn : TransId → ℕ → List ℕ → Phase → Phase
drawn t client who Unseen = Joining t client who
drawn t client who p = p

abbrev pub entered : Phase → Phase
entered (Joining t client who) = Active t client who
entered p = p

abbrev pub readied : ℕ → Phase → Phase
readied ts (Active t client who) = Ready t client ts
readied ts p = p

-- a ready join is applied at a stamp of its own transaction
abbrev pub applied : Stamp → Phase → Phase
applied stamp (Ready t client ts) = if same_trans stamp.trans t then Applied t stamp else Ready t client ts
applied stamp p = p

-- what has not voted may end by itself
abbrev pub quit : Phase → Phase
quit (Joining t client who) = Over
quit (Active t client who) = Over
quit p = p

-- a ready join ends by a word on its own transaction alone
abbrev pub aborted : TransId → Phase → Phase
aborted u (Joining t client who) = if same_trans u t then Over else Joining t client who
aborted u (Active t client who) = if same_trans u t then Over else Active t client who
aborted u (Ready t client ts) = if same_trans u t then Over else Ready t client ts
aborted u p = p

-- only a ready join outlives a restart
abbrev pub restarted : Phase → Phase
restarted (Joining t client who) = Over
restarted (Active t client who) = Over
restarted p = p

abbrev pub phase_after : Deed → JoinNo → Phase → Phase
phase_after (Joins k t client who) j p = if same_join k j then drawn t client who p else p
phase_after (Enters k t client who) j p = if same_join k j then entered p else p
phase_after (Readies k t ts) j p = if same_join k j then readied ts p else p
phase_after (Applies k stamp) j p = if same_join k j then applied stamp p else p
phase_after (Quits k t client c) j p = if same_join k j then quit p else p
phase_after (Aborts k t client c) j p = if same_join k j then aborted t p else p
phase_after (Restarts epoch clock) j p = restarted p
phase_after _ j p = p

-- ---- what is asked of it

-- the transaction and the client of a live join
abbrev pub live_in : Phase → Option (TransId × ℕ)
live_in (Joining t client who) = Some (t, client)
live_in (Active t client who) = Some (t, client)
live_in (Ready t client ts) = Some (t, client)
live_in _ = None

-- of one that has not voted
abbrev pub open_in : Phase → Option (TransId × ℕ)
open_in (Joining t client who) = Some (t, client)
open_in (Active t client who) = Some (t, client)
open_in _ = None

abbrev pub is_ready : Phase → Bool
is_ready (Ready t client ts) = true
is_ready _ = false

-- the phase that the ready notes of an opening say
abbrev pub phase_noted : List ReadyNote → JoinNo → Phase
phase_noted [] j = Unseen
phase_noted (n ∷ ns) j = if same_join n.join j then Ready n.trans n.client n.ts else phase_noted ns j
