-- a transaction of another server times out: its joins here that did not vote are over, and the part of one that was let in goes
use Rattle.std.specs.Prelude.{cond, Bool, true, false, not, filter, flat_map, Option, None, Some, Ok, map as list_map}
use Rattle.std.specs.List.Sorted.{IsPermutation}
use Rattle.std.proofs.Common.{◌≡◌, ℕ, ◌+◌, List, [], ◌∷◌, ◌++◌, append-nil, refl, sym, ◌∙◌, ap, subst}
use Rattle.alp_base.specs.declared.ids.JoinNo.{JoinNo}
use Rattle.alp_base.specs.declared.ids.TransId.{TransId}
use Rattle.alp_files.specs.declared.refusal.Cause.TheVariants as cause
use Rattle.alp_journal.specs.declared.act.Act.TheVariants as act
use Rattle.alp_journal.specs.declared.event.Event.TheVariants as event
use Rattle.alp_journal.specs.Account.{Account, state_of, IsQuiet, Leads, with_granted, granted_calls, grant_acts}
use Rattle.alp_journal.specs.Coordinator.{client_of}
use Rattle.alp_journal.specs.Counts.{lock_set}
use Rattle.alp_journal.specs.Holder.{with_life}
use Rattle.alp_journal.specs.Moves.{times_out_join}
use Rattle.alp_journal.specs.Participant.{Active, quit}
use Rattle.alp_journal.specs.State.{State}
use Rattle.alp_journal.proofs.IdLemmas.{same_trans-itself}
use Rattle.alp_journal.proofs.LateJoins.{IsNoActive, phases_out, deads_out, with_late_all, late_asking_leads, late_active_leads}
use Rattle.alp_journal.proofs.TimeoutLemmas.{timeout_entry}
use Rattle.alp_coord.specs.Coordinators.{fate_in}
use Rattle.alp_locks.specs.Releases.{released}
use Rattle.alp_vault.specs.Contents.{Contents}
use Rattle.alp_vault.specs.declared.vault.Vault.{Ghosts}
use Rattle.alp_worker.specs.declared.joins.Joins.{Joins}
use Rattle.alp_worker.specs.declared.live.LiveJoin.{LiveJoin}
use Rattle.alp_worker.specs.declared.live.Stage.TheVariants as stage
use Rattle.alp_worker.specs.Joins.{AreJoinsOf}
use Rattle.alp_worker.specs.Lives.{is_open, join_at, live_at, without}
use Rattle.alp_worker.specs.Walks.{is_open_of, open_of, timed_out}
use Rattle.alp_node.specs.Arrivals.{join_of}
use Rattle.alp_node.specs.Durable.{AreNotesOf}
use Rattle.alp_node.specs.Releases.{granted_behind, let_go}
use Rattle.alp_node.specs.ServerState.{IsAs, IsReady, IsReadyForMore}
use Rattle.alp_node.specs.Steps.{IsStepAs, Stepped, told_answer}
use Rattle.alp_node.specs.Timeouts.{has_active, deads_of, quitted_all}
use Rattle.alp_node.specs.declared.answer.Answer.{Answer}
use Rattle.alp_node.specs.declared.server_state.ServerState.{ServerState}
use Rattle.alp_node.proofs.GoneLemmas.{gone, state_then, server_then, let_go_is, left_as}
use Rattle.alp_node.proofs.HoldingLemmas.{held_walk, held_by}
use Rattle.alp_node.proofs.LateTold.{not_running_told, joins_late, deads_late}
use Rattle.alp_node.proofs.NoteCalls.{grants_write}
use Rattle.alp_node.proofs.NoteLaw.{notes_stay}
use Rattle.alp_node.proofs.OpenJoins.{joins_left_as, IsLateActive, late_active}
use Rattle.alp_node.proofs.ReadyLemmas.{stepped_ready}
use Rattle.alp_node.proofs.ReleaseLemmas.{let_go_of, grants_go_with, grants_caused_with}
use Rattle.alp_node.proofs.SayLemmas.{said_step, silent_stepped}
use Rattle.alp_node.proofs.LateReady.{noted_here, no_active, asking_ready, active_ready, active_noted, active_is}

-- ---- by what the journal says

module _ {V : Type 0} (k : ServerState V) (t : TransId) (xs : List LiveJoin) where
  module _ (a : Account) (held : Contents) (h : IsAs a held k) (up : k.is_down ≡ false) (moved : IsPermutation (flat_map (times_out_join (state_of a) t) a.joined) (list_map timed_out xs)) where
    asking_as : IsQuiet (with_late_all a t) → (AreNotesOf (state_of a) a.ids.epoch held.notes → AreNotesOf (state_of (with_late_all a t)) a.ids.epoch held.notes)
        → IsAs (with_late_all a t) held (record k { dead = k.dead ++ deads_of t cause.TimedOut xs; joins = record k.joins { lives = filter (λ (l : LiveJoin). not (is_open_of t l)) k.joins.lives } })
    asking_as quiet noted = record {
      server = h.server;
      servers = h.servers;
      sizes = h.sizes;
      epoch = h.epoch;
      clock = h.clock;
      cells = h.cells;
      sized = h.sized;
      notes = λ on. noted (h.notes on);
      places = h.places;
      sessions = h.sessions;
      dead = deads_late a t xs k.dead moved h.dead;
      waits = h.waits;
      queue = h.queue;
      asked = h.asked;
      lives = h.lives;
      room = h.room;
      unborn = h.unborn;
      coordinator = h.coordinator;
      decided = h.decided;
      joins = joins_late a t k.joins h.quiet.settled.stands h.joins;
      files = h.files;
      made = h.made;
      born = h.born;
      earlier = h.earlier;
      quiet = quiet;
      down = sym up;
    }

    module _ (m : ℕ) (on : Bool) (ready : IsReady m on k) where
      abbrev late_given : Account
      late_given = with_granted (record a {
        holder = with_life a.holder t None;
        phases = phases_out a t a.joined a.phases;
        dead = deads_out a t a.joined a.dead;
        locked = lock_set a.locked t [];
        is_down = false;
        pending = [];
      }) (granted_calls a.waits (granted_behind k t))

      active_as : IsQuiet late_given → (AreNotesOf (state_of a) a.ids.epoch held.notes → AreNotesOf (state_of late_given) a.ids.epoch held.notes)
          → IsAs late_given held (record (let_go k t) { dead = k.dead ++ deads_of t cause.TimedOut xs; joins = record k.joins { lives = filter (λ (l : LiveJoin). not (is_open_of t l)) k.joins.lives } })
      active_as quiet noted =
          subst (λ (x : ServerState V). IsAs late_given held x)
          (sym (ap (λ (x : ServerState V). record x { dead = k.dead ++ deads_of t cause.TimedOut xs; joins = record k.joins { lives = filter (λ (l : LiveJoin). not (is_open_of t l)) k.joins.lives } }) (let_go_is a held k t m on h ready (gone a held k t m on h ready))))
          (subst (λ (x : Account). IsAs x held (record k {
            lives = (server_then a held k t m on h ready (gone a held k t m on h ready)).lives;
            waits = (server_then a held k t m on h ready (gone a held k t m on h ready)).waits;
            locks = record (released k.locks t) { woken = [] };
            dead = k.dead ++ deads_of t cause.TimedOut xs;
            joins = record k.joins { lives = filter (λ (l : LiveJoin). not (is_open_of t l)) k.joins.lives };
          })) same_state
          (left_as a held k t m on h ready (gone a held k t m on h ready) a.fates (phases_out a t a.joined a.phases) a.sessions (deads_out a t a.joined a.dead) (state_then a held k t m on h ready (gone a held k t m on h ready)).waits k.sessions
          (k.dead ++ deads_of t cause.TimedOut xs) (server_then a held k t m on h ready (gone a held k t m on h ready)).waits k.coordinator (record k.joins { lives = filter (λ (l : LiveJoin). not (is_open_of t l)) k.joins.lives }) up h.coordinator
          (joins_late a t k.joins h.quiet.settled.stands h.joins) (λ u. refl) (λ q. subst (λ (x : Account). AreNotesOf (state_of x) a.ids.epoch held.notes) (sym same_state) (noted q)) h.places h.sessions (deads_late a t xs k.dead moved h.dead)
          (gone a held k t m on h ready).all.waits (gone a held k t m on h ready).all.asked (gone a held k t m on h ready).queue (subst IsQuiet (sym same_state) quiet)))
        where
          same_state : record (state_then a held k t m on h ready (gone a held k t m on h ready)) { phases = phases_out a t a.joined a.phases; dead = deads_out a t a.joined a.dead; is_down = false; pending = [] } ≡ late_given
          same_state = ap (with_granted (record a {
            holder = with_life a.holder t None;
            phases = phases_out a t a.joined a.phases;
            dead = deads_out a t a.joined a.dead;
            locked = lock_set a.locked t [];
            is_down = false;
            pending = [];
          })) (sym (ap (granted_calls a.waits) (gone a held k t m on h ready).woken ∙ (gone a held k t m on h ready).calls))

-- ---- the steps

module _ {V : Type 0} (G : Ghosts V) (k : ServerState V) (t : TransId) (xs : List LiveJoin) (are : xs ≡ open_of t k.joins.lives) (moved : (s : State) → AreJoinsOf s k.joins → IsPermutation (flat_map (times_out_join s t) s.joined) (list_map timed_out xs))
    (up : k.is_down ≡ false) (ready : IsReadyForMore (G.serves k.vault) k) where
  over_as : quitted_all k.joins xs ≡ record k.joins { lives = filter (λ (l : LiveJoin). not (is_open_of t l)) k.joins.lives }
  over_as = joins_left_as t k.joins ready.2.joins.once xs are

  no_restart : (event.Timeout t ≡ event.Restart) → ⊥
  no_restart e = (let wrong : event.Timeout t ≡ event.Restart = e in cc)

  -- none was let in
  pub late_asking_step : client_of (fate_in k.coordinator t) ≡ None → has_active xs ≡ false → (x : Answer) → x ≡ told_answer None [] → IsStepAs G None k (record k { dead = k.dead ++ deads_of t cause.TimedOut xs; joins = quitted_all k.joins xs }) (event.Timeout t) (Ok x)
  late_asking_step foreign none x so =
      subst (λ (js : Joins). IsStepAs G None k (record k { dead = k.dead ++ deads_of t cause.TimedOut xs; joins = js }) (event.Timeout t) (Ok x)) (sym over_as)
      (said_step G k (record k { dead = k.dead ++ deads_of t cause.TimedOut xs; joins = record k.joins { lives = filter (λ (l : LiveJoin). not (is_open_of t l)) k.joins.lives } }) (event.Timeout t) x []
      (record { vault = refl; server = refl; servers = refl; sizes = refl; epoch = refl; clock = refl; sessions = refl; down = refl }) up so refl (λ before now allowance. tt)
      (λ n h. stepped_ready n (G.serves k.vault) (record k { dead = k.dead ++ deads_of t cause.TimedOut xs; joins = record k.joins { lives = filter (λ (l : LiveJoin). not (is_open_of t l)) k.joins.lives } }) (asking_ready k t xs are n (G.serves k.vault) h none))
      (λ q. noted_here k t xs are ready.0 (G.serves k.vault) ready.2 k.lives k.server k.servers k.epoch k.coordinator (G.held k.vault).notes q)
      by)
    where
      asks : (a : Account) (h : IsAs a (G.held k.vault) k) (i : JoinNo) → IsNoActive t (a.phases i)
      asks a h i client who is =
          let at : join_at k.joins.lives i ≡ Some (record { join = i; trans = t; client = client; stage = stage.Active who }) = h.joins.live i ∙ ap (live_at i) is in
          let wrong : true ≡ false = no_active k t xs are ready.0 (G.serves k.vault) ready.2 none i (record { join = i; trans = t; client = client; stage = stage.Active who }) at (same_trans-itself t) in
          cc

      by : (a : Account) → IsAs a (G.held k.vault) k
          → Stepped a (G.faults k.vault) (G.faults k.vault) (G.held k.vault) (record k { dead = k.dead ++ deads_of t cause.TimedOut xs; joins = record k.joins { lives = filter (λ (l : LiveJoin). not (is_open_of t l)) k.joins.lives } }) (event.Timeout t) x
      by a h =
          let lead : Leads false a (timeout_entry a t []) (with_late_all a t) = late_asking_leads a t h.quiet (h.down ∙ up) (not_running_told a.ids.epoch t (fate_in k.coordinator t) (a.fates t) (h.coordinator.fates t) foreign) (asks a h) in
          silent_stepped a (with_late_all a t) (G.faults k.vault) (G.held k.vault) k (record k { dead = k.dead ++ deads_of t cause.TimedOut xs; joins = record k.joins { lives = filter (λ (l : LiveJoin). not (is_open_of t l)) k.joins.lives } }) (event.Timeout t) x [] h refl so lead
          (asking_as k t xs a (G.held k.vault) h up (moved (state_of a) h.joins) lead.quiet
          (notes_stay a (with_late_all a t) (timeout_entry a t []) h.quiet lead.lawful lead.leaves no_restart refl tt a.ids.epoch (G.held k.vault).notes))

  -- one was let in
  pub late_active_step : has_active xs ≡ true → (x : Answer) → x ≡ told_answer None (act.Released t ∷ grant_acts (granted_behind k t))
      → IsStepAs G None k (record (let_go k t) { dead = k.dead ++ deads_of t cause.TimedOut xs; joins = quitted_all k.joins xs }) (event.Timeout t) (Ok x)
  late_active_step some x said =
      subst (λ (js : Joins). IsStepAs G None k (record (let_go k t) { dead = k.dead ++ deads_of t cause.TimedOut xs; joins = js }) (event.Timeout t) (Ok x)) (sym over_as)
      (said_step G k (record (let_go k t) { dead = k.dead ++ deads_of t cause.TimedOut xs; joins = record k.joins { lives = filter (λ (l : LiveJoin). not (is_open_of t l)) k.joins.lives } }) (event.Timeout t) x ((act.Released t ∷ grant_acts (granted_behind k t)) ++ [])
      (record {
        vault = ap (λ (s : ServerState V). s.vault) (let_go_of k t);
        server = ap (λ (s : ServerState V). s.server) (let_go_of k t);
        servers = ap (λ (s : ServerState V). s.servers) (let_go_of k t);
        sizes = ap (λ (s : ServerState V). s.sizes) (let_go_of k t);
        epoch = ap (λ (s : ServerState V). s.epoch) (let_go_of k t);
        clock = ap (λ (s : ServerState V). s.clock) (let_go_of k t);
        sessions = ap (λ (s : ServerState V). s.sessions) (let_go_of k t);
        down = ap (λ (s : ServerState V). s.is_down) (let_go_of k t);
      }) up so (grants_go_with (granted_behind k t) [] refl) (λ before now allowance. grants_caused_with before now allowance (granted_behind k t) [] tt)
      (λ n h. stepped_ready n (G.serves k.vault) (record (let_go k t) { dead = k.dead ++ deads_of t cause.TimedOut xs; joins = record k.joins { lives = filter (λ (l : LiveJoin). not (is_open_of t l)) k.joins.lives } }) (active_ready k t xs are n (G.serves k.vault) h y))
      (active_noted k t xs are ready.0 (G.serves k.vault) ready.2 y (G.held k.vault).notes) by)
    where
      so : x ≡ told_answer None ((act.Released t ∷ grant_acts (granted_behind k t)) ++ [])
      so = said ∙ ap (told_answer None) (sym (append-nil (act.Released t ∷ grant_acts (granted_behind k t))))

      y : IsLateActive t k.joins.lives
      y = late_active t k.joins.lives ready.2.joins.once (ap has_active (sym are) ∙ some)

      one_is : y.one ≡ record { join = y.one.join; trans = t; client = y.one.client; stage = stage.Active (active_is y.one.stage y.in_).0 }
      one_is = λ i. record { join = y.one.join; trans = y.trans i; client = y.one.client; stage = (active_is y.one.stage y.in_).1 i }

      found : join_of t (join_at k.joins.lives y.one.join) ≡ Some (record { join = y.one.join; trans = t; client = y.one.client; stage = stage.Active (active_is y.one.stage y.in_).0 })
      found =
          ap (join_of t) (y.there ∙ ap Some one_is)
          ∙ ap (λ (b : Bool). cond {A = Option LiveJoin} b (Some (record { join = y.one.join; trans = t; client = y.one.client; stage = stage.Active (active_is y.one.stage y.in_).0 })) None) (same_trans-itself t)

      by : (a : Account) → IsAs a (G.held k.vault) k
          → Stepped a (G.faults k.vault) (G.faults k.vault) (G.held k.vault) (record (let_go k t) { dead = k.dead ++ deads_of t cause.TimedOut xs; joins = record k.joins { lives = filter (λ (l : LiveJoin). not (is_open_of t l)) k.joins.lives } }) (event.Timeout t) x
      by a h =
          let b = held_by G k y.one.join t y.one.client (active_is y.one.stage y.in_).0 found up ready cause.TimedOut (λ (l : LiveJoin). is_open l.stage) refl
          (record k.joins { lives = without y.one.join (λ (l : LiveJoin). is_open l.stage) k.joins.lives }) refl a h in
          let lead : Leads false a (timeout_entry a t ((act.Released t ∷ grant_acts (granted_behind k t)) ++ [])) (late_given k t xs a (G.held k.vault) h up (moved (state_of a) h.joins) ready.0 (G.serves k.vault) ready.2) =
          late_active_leads a t y.one.join y.one.client (active_is y.one.stage y.in_).0 b.life h.quiet b.phase b.lives b.own (h.down ∙ up) (granted_behind k t)
          (held_walk a (G.held k.vault) k ready.0 (G.serves k.vault) h ready.2 y.one.join t y.one.client cause.TimedOut quit k.joins) in
          silent_stepped a (late_given k t xs a (G.held k.vault) h up (moved (state_of a) h.joins) ready.0 (G.serves k.vault) ready.2) (G.faults k.vault) (G.held k.vault) k
          (record (let_go k t) { dead = k.dead ++ deads_of t cause.TimedOut xs; joins = record k.joins { lives = filter (λ (l : LiveJoin). not (is_open_of t l)) k.joins.lives } }) (event.Timeout t) x ((act.Released t ∷ grant_acts (granted_behind k t)) ++ []) h
          (ap (λ (s : ServerState V). s.clock) (let_go_of k t)) so lead
          (active_as k t xs a (G.held k.vault) h up (moved (state_of a) h.joins) ready.0 (G.serves k.vault) ready.2 lead.quiet
          (notes_stay a (late_given k t xs a (G.held k.vault) h up (moved (state_of a) h.joins) ready.0 (G.serves k.vault) ready.2) (timeout_entry a t ((act.Released t ∷ grant_acts (granted_behind k t)) ++ [])) h.quiet lead.lawful lead.leaves no_restart
          (grants_write (granted_behind k t) [] refl) tt a.ids.epoch (G.held k.vault).notes))
