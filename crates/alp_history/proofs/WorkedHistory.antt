-- the decided transactions of a small log, and what each server has of them
use Rattle.std.specs.Prelude.{Bool, true, false, cond, ◌==◌, unwrap_or, Option, None, Some, map as list_map}
use Rattle.std.specs.FinMap as map
use Rattle.std.proofs.Common.{◌≡◌, ℕ, ◌≤◌, arith, sym, ◌∙◌, List, [], ◌∷◌, ◌++◌, refl}
use Rattle.alp_files.specs.declared.refusal.Cause.TheVariants as cause
use Rattle.alp_journal.specs.declared.act.Act.TheVariants as act
use Rattle.alp_journal.specs.declared.entry.Entry.{Entry}
use Rattle.alp_journal.specs.declared.message.Message.TheVariants as msg
use Rattle.alp_base.specs.Keys.{key_cmp}
use Rattle.alp_files.specs.Holdings.{DoAgree, held_by}
use Rattle.alp_files.specs.Sound.{AreSound}
use Rattle.alp_files.specs.Apart.{AreSized}
use Rattle.alp_files.proofs.SoundLemmas.{empty_sound}
use Rattle.alp_journal.specs.Ids.{same_trans}
use Rattle.alp_journal.specs.Opening.{Start, ReadyNote, DecisionNote}
use Rattle.alp_journal.specs.Participant.{Over}
use Rattle.alp_journal.specs.State.{State}
use Rattle.alp_journal.specs.Moves.{next}
use Rattle.alp_history.specs.Log.{Log, ServerLog, nobody, opening_of, Share, decided, shares_of, held, is_noted, IsIn, AreDistinct, IsSoundNote, IsSoundDecision, IsSoundOpening}
use Rattle.alp_history.specs.Examples.{trans, join, stamp, new, arrives, first_up, vote, worker_up, ask, restarts}
use Rattle.alp_history.proofs.Worked.{before_ask}

-- the coordinator decided, and the worker has not heard of it yet
abbrev two : List Entry → Log
two more = record {
  servers =
      record { opening = new 1; journal = first_up ++ vote ∷ []; ranks = 1 ∷ 3 ∷ 5 ∷ 7 ∷ 9 ∷ 11 ∷ 13 ∷ [] }
      ∷ record { opening = new 2; journal = worker_up ++ ask ∷ more; ranks = 2 ∷ 4 ∷ 8 ∷ 10 ∷ 10 ∷ 12 ∷ 14 ∷ [] } ∷ [];
  handed = λ c. [];
}

one_decided : decided (two []) ≡ (stamp, join ∷ []) ∷ []
one_decided = refl

same_decided : decided (two (arrives 1 (msg.Commit trans join stamp) (act.Applied join stamp ∷ act.Released trans ∷ []) ∷ [])) ≡ (stamp, join ∷ []) ∷ []
same_decided = refl

-- a share of each server, also of the one where the part is still ready
abbrev places : List Share → List ℕ
places xs = list_map (λ (x : Share). x.0) xs

both_share : places (shares_of (two []) (stamp, join ∷ [])) ≡ 1 ∷ 2 ∷ []
both_share = refl

-- ready or applied, it is the same
share_stays : shares_of (two []) (stamp, join ∷ []) ≡ shares_of (two (arrives 1 (msg.Commit trans join stamp) (act.Applied join stamp ∷ act.Released trans ∷ []) ∷ [])) (stamp, join ∷ [])
share_stays = refl

-- ---- an abort whose write stops, and is found done

abbrev abort_stops : Entry
abort_stops = arrives 1 (msg.Abort trans join cause.Asked) (act.Stopped ∷ [])

abbrev gone : State
gone = next (next (next before_ask ask) abort_stops) (restarts 2 0 [] [])

gone_over : gone.phases join ≡ Over
gone_over = refl

-- its locks are gone with it
gone_life : gone.holder.lives trans ≡ None
gone_life = refl

-- ---- new disks are sound openings

-- what holds of both openings and of a server that is none of the run
each-opening : (Q : Start → Type 0) → Q (new 1) → Q (new 2) → ((m : ℕ) → Q (nobody m).opening) → (n : ℕ) → Q (opening_of (two []) n)
each-opening Q a b c n = go (1 == n) (2 == n)
  where
    go : (x y : Bool)
        → Q (unwrap_or (cond {A = Option ServerLog} x (Some (record { opening = new 1; journal = first_up ++ vote ∷ []; ranks = 1 ∷ 3 ∷ 5 ∷ 7 ∷ 9 ∷ 11 ∷ 13 ∷ [] })) (cond {A = Option ServerLog} y (Some (record { opening = new 2; journal = worker_up ++ ask ∷ []; ranks = 2 ∷ 4 ∷ 8 ∷ 10 ∷ 10 ∷ 12 ∷ 14 ∷ [] })) None)) (nobody n)).opening
    go true y = a
    go false true = b
    go false false = c n

none_sized : AreSized (map.get (new 1).cells)
none_sized k c e = let wrong : None ≡ Some c = sym (map.get-empty key_cmp k) ∙ e in cc

new_sound : (n : ℕ) → IsSoundOpening (two []) n
new_sound n = record {
  few = each-opening (λ o. o.servers ≤ 8) (omega arith) (omega arith) (λ m. omega arith) n;
  files = each-opening (λ o. AreSound o.cells) empty_sound empty_sound (λ m. empty_sound) n;
  files_begun = each-opening (λ o. AreSound (held (is_noted (two [])) o.ready o.cells)) empty_sound empty_sound (λ m. empty_sound) n;
  sizes = each-opening (λ o. AreSized (map.get o.cells)) none_sized none_sized (λ m. none_sized) n;
  ready = each-opening (λ o. (r : ReadyNote) → IsIn r o.ready → IsSoundNote (two []) n r) (λ r i. absurd i) (λ r i. absurd i) (λ m r i. absurd i) n;
  distinct = each-opening (λ o. AreDistinct o.ready) tt tt (λ m. tt) n;
  agree = each-opening (λ o. (r q : ReadyNote) → IsIn r o.ready → IsIn q o.ready → same_trans r.trans q.trans ≡ false → DoAgree (held_by r.locks) (held_by q.locks)) (λ r q i. absurd i) (λ r q i. absurd i) (λ m r q i. absurd i) n;
  decisions = each-opening (λ o. (d : DecisionNote) → IsIn d o.decisions → IsSoundDecision (two []) n d) (λ d i. absurd i) (λ d i. absurd i) (λ m d i. absurd i) n;
  one_each = each-opening (λ o. (d e : DecisionNote) → IsIn d o.decisions → IsIn e o.decisions → d.stamp.trans ≡ e.stamp.trans → d ≡ e) (λ d e i. absurd i) (λ d e i. absurd i) (λ m d e i. absurd i) n;
  once = λ d e j i. absurd i;
}
