-- with the last vote from elsewhere this server votes against the commit: its transaction ends
use Rattle.std.specs.Prelude.{false, None, Some, Result, Ok, Err, IfOk, OnOk, OnErr}
use Rattle.std.proofs.Common.{◌≡◌, ℕ, ◌+◌, List, [], ◌∷◌, ◌++◌, sym, ◌∙◌, ap, subst}
use Rattle.alp_base.specs.declared.ids.JoinNo.{JoinNo}
use Rattle.alp_base.specs.declared.ids.TransId.{TransId}
use Rattle.alp_base.specs.declared.memory.OutOfMemory.{OutOfMemory}
use Rattle.alp_files.specs.declared.refusal.Cause.TheVariants as cause
use Rattle.alp_files.specs.declared.refusal.Why.{Why}
use Rattle.alp_journal.specs.declared.act.Act.{Act}
use Rattle.alp_journal.specs.declared.act.Act.TheVariants as act
use Rattle.alp_journal.specs.declared.event.Event.TheVariants as event
use Rattle.alp_journal.specs.declared.message.Message.TheVariants as msg
use Rattle.alp_journal.specs.Account.{Account, state_of, Leads, grant_acts}
use Rattle.alp_journal.specs.Coordinator.{client_of, joins_of}
use Rattle.alp_journal.specs.Deeds.{Ends}
use Rattle.alp_journal.specs.Holder.{Life}
use Rattle.alp_journal.specs.Messages.{why_not_own}
use Rattle.alp_journal.proofs.DecideSteps.{own_no_leads}
use Rattle.alp_coord.specs.declared.answers.Ballot.TheVariants as ballot
use Rattle.alp_coord.specs.declared.coordinator.Coordinator.{Coordinator}
use Rattle.alp_coord.specs.Coordinators.{IsAlong, Comes, ballot_of, fate_in}
use Rattle.alp_vault.specs.Contents.{Contents}
use Rattle.alp_vault.specs.declared.vault.Vault.{Ghosts}
use Rattle.alp_node.specs.Releases.{granted_behind, let_go}
use Rattle.alp_node.specs.Says.{said_each}
use Rattle.alp_node.specs.ServerState.{IsAs, IsReadyForMore}
use Rattle.alp_node.specs.Steps.{IsStepAs, told_answer}
use Rattle.alp_node.specs.declared.answer.Answer.{Answer}
use Rattle.alp_node.specs.declared.server_state.ServerState.{ServerState}
use Rattle.alp_node.proofs.EndingLemmas.{said_is}
use Rattle.alp_node.proofs.JoinMoves.{same_some}
use Rattle.alp_node.proofs.LapseLemmas.{lapse_step, lapsed_given, lapsed_walk}
use Rattle.alp_node.proofs.LastVotes.{IsLast, is_last, last_told}
use Rattle.alp_node.proofs.SayLemmas.{still_wanting}

module _ {V : Type 0} (G : Ghosts V) (k : ServerState V) (from : ℕ) (t : TransId) (j : JoinNo) (ts latest : ℕ) (last : ballot_of j ts (k.clock + 1) (fate_in k.coordinator t) ≡ ballot.Last latest) (up : k.is_down ≡ false)
    (ready : IsReadyForMore (G.serves k.vault) k) (w : Why) (told : (a : Account) (held : Contents) → IsAs a held k → why_not_own false (state_of a) t ≡ Some w) where
  abbrev o : IsLast j ts (k.clock + 1) latest (fate_in k.coordinator t)
  o = is_last j ts (k.clock + 1) latest (fate_in k.coordinator t) last

  abbrev js : List JoinNo
  js = (is_last j ts (k.clock + 1) latest (fate_in k.coordinator t) last).first ∷ (is_last j ts (k.clock + 1) latest (fate_in k.coordinator t) last).rest

  abbrev client : ℕ
  client = (is_last j ts (k.clock + 1) latest (fate_in k.coordinator t) last).client

  against_step : (x : Answer) (z : Coordinator) → IsAlong k.coordinator z → ((n : ℕ) → Comes (Ends t n (cause.Voted k.server w)) k.coordinator z)
      → x ≡ told_answer None ((act.Released t ∷ grant_acts (granted_behind k t)) ++ said_each (λ i. msg.Abort t i (cause.Voted k.server w)) js)
      → IsStepAs G None k (record (let_go k t) { dead = k.dead ++ (record { client = client; trans = t; cause = cause.Voted k.server w }) ∷ []; coordinator = z }) (event.Arrive from (msg.Ready t j ts)) (Ok x)
  against_step x z along ends so =
      lapse_step G k t client (ap client_of o.is) up ready (cause.Voted k.server w) z along ends js (event.Arrive from (msg.Ready t j ts)) x so leads (λ e. (let wrong : event.Arrive from (msg.Ready t j ts) ≡ event.Restart = e in cc)) (λ a h. tt)
    where
      leads : (a : Account) (h : IsAs a (G.held k.vault) k) (life : Life) → a.holder.lives t ≡ Some life → life.join ≡ None → life.client ≡ client
          → Leads false a (record { event = event.Arrive from (msg.Ready t j ts); reply = None; acts = (act.Released t ∷ grant_acts (granted_behind k t)) ++ said_each (λ i. msg.Abort t i (cause.Voted k.server w)) js })
          (lapsed_given a (G.held k.vault) k ready.0 (G.serves k.vault) h ready.2 t client (cause.Voted k.server w) z)
      leads a h life live part own =
          let s = last_told a.ids.epoch t j ts (k.clock + 1) latest (fate_in k.coordinator t) (a.fates t) o (h.coordinator.fates t) last in
          subst (λ (n : ℕ). Leads false a (record { event = event.Arrive from (msg.Ready t j ts); reply = None; acts = (act.Released t ∷ grant_acts (granted_behind k t)) ++ said_each (λ i. msg.Abort t i (cause.Voted n w)) js })
          (lapsed_given a (G.held k.vault) k ready.0 (G.serves k.vault) h ready.2 t client (cause.Voted n w) z)) h.server
          (subst (λ (acts : List Act). Leads false a (record { event = event.Arrive from (msg.Ready t j ts); reply = None; acts = (act.Released t ∷ grant_acts (granted_behind k t)) ++ acts })
          (lapsed_given a (G.held k.vault) k ready.0 (G.serves k.vault) h ready.2 t client (cause.Voted a.holder.server w) z)) (sym (said_is (λ i. msg.Abort t i (cause.Voted a.holder.server w)) js))
          (own_no_leads a from t j ts client js s.0 life false w h.quiet (h.down ∙ up) s.1 s.2 live part (told a (G.held k.vault) h) (granted_behind k t)
          (lapsed_walk a (G.held k.vault) k ready.0 (G.serves k.vault) h ready.2 t client (cause.Voted a.holder.server w) z)))

  -- or memory was wanting
  pub against_lapsed : (new : ServerState V) (r : Result Answer OutOfMemory) (owner : ℕ) (joins : List JoinNo) → client_of (fate_in k.coordinator t) ≡ Some owner → joins ≡ joins_of (fate_in k.coordinator t)
      → OnOk r (new ≡ record (let_go k t) { dead = k.dead ++ (record { client = owner; trans = t; cause = cause.Voted k.server w }) ∷ []; coordinator = new.coordinator })
      → OnOk r (IsAlong k.coordinator new.coordinator) → OnOk r ((n : ℕ) → Comes (Ends t n (cause.Voted k.server w)) k.coordinator new.coordinator)
      → IfOk r (λ x. x ≡ told_answer None ((act.Released t ∷ grant_acts (granted_behind k t)) ++ said_each (λ i. msg.Abort t i (cause.Voted k.server w)) joins)) → OnErr r (new ≡ k)
      → IsStepAs G None k new (event.Arrive from (msg.Ready t j ts)) r
  against_lapsed new (Ok x) owner joins runs its kept along ends said wanting =
      let same : owner ≡ client = same_some owner client (sym runs ∙ ap client_of o.is) in
      subst (λ (s : ServerState V). IsStepAs G None k s (event.Arrive from (msg.Ready t j ts)) (Ok x)) (sym (kept ∙ ap (λ (n : ℕ). record (let_go k t) { dead = k.dead ++ (record { client = n; trans = t; cause = cause.Voted k.server w }) ∷ []; coordinator = new.coordinator }) same))
      (against_step x new.coordinator along ends (said ∙ ap (λ (is : List JoinNo). told_answer None ((act.Released t ∷ grant_acts (granted_behind k t)) ++ said_each (λ i. msg.Abort t i (cause.Voted k.server w)) is)) (its ∙ ap joins_of o.is)))
  against_lapsed new (Err f) owner joins runs its kept along ends said wanting =
      subst (λ (s : ServerState V). IsStepAs G None k s (event.Arrive from (msg.Ready t j ts)) (Err f)) (sym wanting) (still_wanting G k (event.Arrive from (msg.Ready t j ts)) f)
