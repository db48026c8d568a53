-- what parts elsewhere say: that they voted, and that they applied a commit; where it is dropped, and where it is kept
use Rattle.std.specs.Prelude.{cond, Bool, true, false, not, ◌==◌, ◌&&◌, ◌||◌, Option, None, Some, Result, Ok}
use Rattle.std.specs.List.{list_all}
use Rattle.std.proofs.Common.{◌≡◌, ◌≤◌, ◌^◌, ℕ, ◌+◌, List, [], ◌∷◌, refl, sym, ◌∙◌, ap, subst}
use Rattle.std.proofs.lemmas.Bool.{and_parts}
use Rattle.alp_base.specs.declared.ids.JoinNo.{JoinNo}
use Rattle.alp_base.specs.declared.ids.Stamp.{Stamp}
use Rattle.alp_base.specs.declared.ids.TransId.{TransId}
use Rattle.alp_journal.specs.declared.event.Event.{Event}
use Rattle.alp_journal.specs.declared.event.Event.TheVariants as event
use Rattle.alp_journal.specs.declared.message.Message.TheVariants as msg
use Rattle.alp_journal.specs.declared.act.Act.{Act}
use Rattle.alp_journal.specs.Account.{Account, state_of, IsQuiet, Leads}
use Rattle.alp_journal.specs.Coordinator.{Fate, Undrawn, Running, Finishing, Committed, Forgotten, Ended, Vote, voted, with_vote, has_all, joins_of, fate_after}
use Rattle.alp_journal.specs.Deeds.{Deed, Hears, Acknowledges}
use Rattle.alp_journal.specs.Along.{Where}
use Rattle.alp_journal.specs.Answered.{is_all_done}
use Rattle.alp_journal.specs.Ids.{has_join, same_join}
use Rattle.alp_journal.specs.Laws.{latest_vote}
use Rattle.alp_journal.specs.Messages.{Mail, has_all_votes, on_ready, own_vote, why_not_own}
use Rattle.alp_journal.specs.Moves.{abort_in, first_sent, ends_for, hears, acknowledges}
use Rattle.alp_journal.proofs.DecideSteps.{ready_passed_leads, ready_kept_leads}
use Rattle.alp_files.specs.declared.refusal.Why.{Why}
use Rattle.alp_coord.specs.declared.answers.Ballot.{Ballot}
use Rattle.alp_coord.specs.declared.answers.Ballot.TheVariants as ballot
use Rattle.alp_journal.proofs.DecisionSteps.{done_passed_leads, done_leads, with_done, undone}
use Rattle.alp_coord.specs.declared.answers.Receipt.{Receipt}
use Rattle.alp_coord.specs.declared.answers.Receipt.TheVariants as receipt
use Rattle.alp_coord.specs.declared.coordinator.Coordinator.{Coordinator}
use Rattle.alp_coord.specs.Coordinators.{IsAlong, ComesLike, fate_in, ballot_of, receipt_of}
use Rattle.alp_coord.specs.Likeness.{IsLike, IsLikeOld, IsFateOf, AreLikeDones, is_over, standing, nothing}
use Rattle.alp_coord.proofs.LikeLemmas.{like-receipt, all_done_alike}
use Rattle.alp_coord.proofs.TieLemmas.{known-ballot, known-after}
use Rattle.alp_vault.specs.Contents.{Contents}
use Rattle.alp_vault.specs.declared.vault.Vault.{Ghosts}
use Rattle.alp_node.specs.EarlyFates.{AreEarly}
use Rattle.alp_node.specs.ServerState.{IsAs, IsReady}
use Rattle.alp_node.specs.Steps.{IsStepAs, told_answer}
use Rattle.alp_node.specs.declared.answer.Answer.{Answer}
use Rattle.alp_node.specs.declared.server_state.ServerState.{ServerState}
use Rattle.alp_node.proofs.ArrivalLemmas.{kept_fated}
use Rattle.alp_node.proofs.EarlyLemmas.{early_acknowledges, early_hears}
use Rattle.alp_node.proofs.FatedLemmas.{IsSmallDeed, fated_like, fated_ready, fated_noted, small_as}
use Rattle.alp_node.proofs.NoteLaw.{AbortsNoVote, notes_stay}
use Rattle.alp_node.proofs.ReadyLemmas.{stepped_ready}
use Rattle.alp_node.proofs.SayLemmas.{said_step, quiet_step, silent_stepped}
use Rattle.alp_node.proofs.TransactionLemmas.{run_along}

-- ---- what is known of a receipt

over_receipt : (j : JoinNo) (f : Fate) → is_over f ≡ true → receipt_of j f ≡ receipt.Dropped
over_receipt j Undrawn over = refl
over_receipt j (Running c js) over = (let wrong : false ≡ true = over in cc)
over_receipt j (Finishing c js vs) over = (let wrong : false ≡ true = over in cc)
over_receipt j (Committed stamp [] ds) over = refl
over_receipt j (Committed stamp (k ∷ js) ds) over = (let wrong : false ≡ true = over in cc)
over_receipt j (Forgotten stamp js) over = refl
over_receipt j (Ended e) over = refl

old_receipt : (j : JoinNo) (f g : Fate) → IsLikeOld f g → receipt_of j f ≡ receipt_of j g
old_receipt j _ _ (standing stamp k js ds es h) =
    λ i. cond {A = Receipt} (has_join j (k ∷ js)) (cond {A = Receipt} (not (all_done_alike (k ∷ js) ds es h i) && all_done_alike (k ∷ js) (j ∷ ds) (j ∷ es) one_more i) receipt.Last receipt.Kept) receipt.Dropped
  where
    one_more : AreLikeDones (j ∷ ds) (j ∷ es)
    one_more = record { who = λ i. ap (λ (b : Bool). same_join j i || b) (h.who i) }
old_receipt j _ _ (nothing f over) = sym (over_receipt j f over)

pub known_receipt : (epoch : ℕ) (t : TransId) (j : JoinNo) (known fate : Fate) → IsFateOf epoch t known fate → receipt_of j known ≡ receipt_of j fate
known_receipt epoch t j known fate h = go (t.epoch == epoch) h
  where
    go : (b : Bool) → Where b (IsLike known fate) (IsLikeOld known fate) → receipt_of j known ≡ receipt_of j fate
    go true k = like-receipt j known fate k
    go false k = old_receipt j known fate k

-- ---- a fate goes on, and nothing else

module _ {V : Type 0} (G : Ghosts V) (k : ServerState V) (d : Deed) (small : IsSmallDeed d) (z : Coordinator) (along : IsAlong k.coordinator z) (comes : ComesLike d k.coordinator z) (up : k.is_down ≡ false) where
  -- by what the journal says
  pub fate_step : ((n : ℕ) → IsReady n (G.serves k.vault) k → AreEarly k.servers k.server z) → (e : Event) (x : Answer) → x ≡ told_answer None [] → (e ≡ event.Restart → ⊥) → ((a : Account) → AbortsNoVote (state_of a) e)
      → ((a : Account) → IsAs a (G.held k.vault) k → Leads false a (record { event = e; reply = None; acts = [] }) (record a { fates = λ u. fate_after d u (a.fates u) }))
      → ((a : Account) → IsAs a (G.held k.vault) k → (u : TransId) → IsFateOf a.ids.epoch u (fate_in z u) (fate_after d u (a.fates u)))
      → IsStepAs G None k (record k { coordinator = z }) e (Ok x)
  fate_step early e x so on aborts leads known =
      said_step G k (record k { coordinator = z }) e x []
      (record { vault = refl; server = refl; servers = refl; sizes = refl; epoch = refl; clock = refl; sessions = refl; down = refl }) up so refl (λ before now allowance. tt)
      (λ n h. stepped_ready n (G.serves k.vault) (record k { coordinator = z }) (fated_ready n (G.serves k.vault) k z (fated_like d k.coordinator z small along comes) (early n h) h))
      (λ notes. fated_noted k.server k.servers k.epoch k.lives k.joins k.coordinator z (G.held k.vault).notes (fated_like d k.coordinator z small along comes) notes)
      (λ a h.
      (let m : Account = record a { fates = λ u. fate_after d u (a.fates u) } in
      silent_stepped a m (G.faults k.vault) (G.held k.vault) k (record k { coordinator = z }) e x [] h refl so (leads a h)
      (kept_fated a (G.held k.vault) k m.fates z h (record { run = run_along a.holder.server a.ids.epoch a.ids.transactions k.coordinator z h.coordinator.run along; fates = known a h })
      (λ still. notes_stay a m (record { event = e; reply = None; acts = [] }) h.quiet (leads a h).lawful (leads a h).leaves on refl (aborts a) a.ids.epoch (G.held k.vault).notes (h.notes still))
      (λ u. (small_as d u (a.fates u) small).decision) (leads a h).quiet)))

-- ---- a part has applied the commit

module _ {V : Type 0} (G : Ghosts V) (k : ServerState V) (from : ℕ) (t : TransId) (j : JoinNo) (up : k.is_down ≡ false) where
  -- it is none of a decision that stands
  unacknowledged : (f : Fate) → receipt_of j f ≡ receipt.Dropped → acknowledges t j f ≡ []
  unacknowledged Undrawn e = refl
  unacknowledged (Running c js) e = refl
  unacknowledged (Finishing c js vs) e = refl
  unacknowledged (Committed stamp js ds) e = go (has_join j js) (not (has_all ds js) && has_all (j ∷ ds) js) e
    where
      go : (b c : Bool) → cond {A = Receipt} b (cond {A = Receipt} c receipt.Last receipt.Kept) receipt.Dropped ≡ receipt.Dropped → cond {A = List Deed} b (Acknowledges t j ∷ []) [] ≡ []
      go false c e = refl
      go true true e = (let wrong : receipt.Last ≡ receipt.Dropped = e in cc)
      go true false e = (let wrong : receipt.Kept ≡ receipt.Dropped = e in cc)
  unacknowledged (Forgotten stamp js) e = refl
  unacknowledged (Ended c) e = refl

  pub done_dropped : (x : Answer) → receipt_of j (fate_in k.coordinator t) ≡ receipt.Dropped → x ≡ told_answer None [] → IsStepAs G None k k (event.Arrive from (msg.Done t j)) (Ok x)
  done_dropped x dropped so = quiet_step G k (event.Arrive from (msg.Done t j)) x up so
      (λ a h. done_passed_leads a from t j h.quiet (h.down ∙ up) (unacknowledged (a.fates t) (sym (known_receipt a.ids.epoch t j (fate_in k.coordinator t) (a.fates t) (h.coordinator.fates t)) ∙ dropped)))

  -- others are to come
  pub record IsKept (f : Fate) : Type 0 where
    pub stamp : Stamp
    pub joins : List JoinNo
    pub before : List JoinNo
    pub is : f ≡ Committed stamp joins before
    pub its : has_join j joins ≡ true
    pub more : (not (has_all before joins) && has_all (j ∷ before) joins) ≡ false

  pub kept_receipt : (f : Fate) → receipt_of j f ≡ receipt.Kept → IsKept f
  kept_receipt Undrawn e = (let wrong : receipt.Dropped ≡ receipt.Kept = e in cc)
  kept_receipt (Running c js) e = (let wrong : receipt.Dropped ≡ receipt.Kept = e in cc)
  kept_receipt (Finishing c js vs) e = (let wrong : receipt.Dropped ≡ receipt.Kept = e in cc)
  kept_receipt (Committed stamp js ds) e = go (has_join j js) refl (not (has_all ds js) && has_all (j ∷ ds) js) refl e
    where
      go : (b : Bool) → has_join j js ≡ b → (c : Bool) → (not (has_all ds js) && has_all (j ∷ ds) js) ≡ c → cond {A = Receipt} b (cond {A = Receipt} c receipt.Last receipt.Kept) receipt.Dropped ≡ receipt.Kept → IsKept (Committed stamp js ds)
      go false f c g e = (let wrong : receipt.Dropped ≡ receipt.Kept = e in cc)
      go true f true g e = (let wrong : receipt.Last ≡ receipt.Kept = e in cc)
      go true f false g e = record { stamp = stamp; joins = js; before = ds; is = refl; its = f; more = g }
  kept_receipt (Forgotten stamp js) e = (let wrong : receipt.Dropped ≡ receipt.Kept = e in cc)
  kept_receipt (Ended c) e = (let wrong : receipt.Dropped ≡ receipt.Kept = e in cc)

  pub done_kept : (x : Answer) (z : Coordinator) → receipt_of j (fate_in k.coordinator t) ≡ receipt.Kept → IsAlong k.coordinator z → ComesLike (Acknowledges t j) k.coordinator z → x ≡ told_answer None []
      → IsStepAs G None k (record k { coordinator = z }) (event.Arrive from (msg.Done t j)) (Ok x)
  done_kept x z kept along comes so =
      fate_step G k (Acknowledges t j) tt z along comes up (λ n r. early_acknowledges k.servers k.server t j k.coordinator z comes r.fated) (event.Arrive from (msg.Done t j)) x so (λ e. (let wrong : event.Arrive from (msg.Done t j) ≡ event.Restart = e in cc)) (λ a. tt)
      (λ a h.
      (let o : IsKept (a.fates t) = kept_receipt (a.fates t) (sym (known_receipt a.ids.epoch t j (fate_in k.coordinator t) (a.fates t) (h.coordinator.fates t)) ∙ kept) in
      done_leads a from t j o.stamp o.joins o.before h.quiet (h.down ∙ up) o.is o.its (unfinished a h o)))
      (λ a h u. known-after a.ids.epoch (Acknowledges t j) u (fate_in k.coordinator u) (fate_in z u) (a.fates u) refl (h.coordinator.fates u) (comes u))
    where
      -- a decision that all have applied is forgotten
      unfinished : (a : Account) → IsAs a (G.held k.vault) k → (o : IsKept (a.fates t)) → has_all (j ∷ o.before) o.joins ≡ false
      unfinished a h o = go (has_all o.before o.joins) (has_all (j ∷ o.before) o.joins) missing o.more
        where
          missing : has_all o.before o.joins ≡ false
          missing = sym (undone a from t j o.stamp o.joins o.before o.joins o.before o.its) ∙ ap is_all_done (sym o.is) ∙ h.quiet.settled.stands.forgets t

          go : (b c : Bool) → b ≡ false → (not b && c) ≡ false → c ≡ false
          go false c e f = f
          go true c e f = (let wrong : true ≡ false = e in cc)

-- ---- a vote

module _ {V : Type 0} (G : Ghosts V) (k : ServerState V) (from : ℕ) (t : TransId) (j : JoinNo) (ts least : ℕ) (up : k.is_down ≡ false) where
  ballot_told : (a : Account) (held : Contents) (b : Ballot) → IsAs a held k → ballot_of j ts least (fate_in k.coordinator t) ≡ b → ballot_of j ts least (a.fates t) ≡ b
  ballot_told a held b h is = sym (known-ballot a.ids.epoch t j ts least (fate_in k.coordinator t) (a.fates t) (h.coordinator.fates t)) ∙ is

  -- it is none of a transaction that is finishing
  unheard : (s : _) (acts : List Act) (f : Fate) → ballot_of j ts least f ≡ ballot.Dropped → hears s acts t j ts f ≡ []
  unheard s acts Undrawn e = refl
  unheard s acts (Running c js) e = refl
  unheard s acts (Finishing c js vs) e = go (Hears t j ts ∷ ends_for t c (first_sent (abort_in t) acts)) (has_join j js) (list_all (λ i. voted i (with_vote j ts vs)) js) e
    where
      go : (xs : List Deed) (b d : Bool) → cond {A = Ballot} b (cond {A = Ballot} d (ballot.Last (latest_vote least (with_vote j ts vs))) ballot.Kept) ballot.Dropped ≡ ballot.Dropped → cond {A = List Deed} b xs [] ≡ []
      go xs false d e = refl
      go xs true true e = (let wrong : ballot.Last (latest_vote least (with_vote j ts vs)) ≡ ballot.Dropped = e in cc)
      go xs true false e = (let wrong : ballot.Kept ≡ ballot.Dropped = e in cc)
  unheard s acts (Committed stamp js ds) e = refl
  unheard s acts (Forgotten stamp js) e = refl
  unheard s acts (Ended c) e = refl

  unsaid : (a : Account) (w : Option Why) (f : Fate) → ballot_of j ts least f ≡ ballot.Dropped → on_ready (state_of a) (state_of a) t j ts w f ≡ []
  unsaid a w Undrawn e = refl
  unsaid a w (Running c js) e = refl
  unsaid a w (Finishing c js vs) e = go (has_join j js) (list_all (λ i. voted i (with_vote j ts vs)) js) e
    where
      go : (b d : Bool) → cond {A = Ballot} b (cond {A = Ballot} d (ballot.Last (latest_vote least (with_vote j ts vs))) ballot.Kept) ballot.Dropped ≡ ballot.Dropped → cond {A = List Mail} (b && d) (own_vote (state_of a) (state_of a) t js w) [] ≡ []
      go false d e = refl
      go true true e = (let wrong : ballot.Last (latest_vote least (with_vote j ts vs)) ≡ ballot.Dropped = e in cc)
      go true false e = (let wrong : ballot.Kept ≡ ballot.Dropped = e in cc)
  unsaid a w (Committed stamp js ds) e = refl
  unsaid a w (Forgotten stamp js) e = refl
  unsaid a w (Ended c) e = refl

  pub vote_dropped : (x : Answer) → ballot_of j ts least (fate_in k.coordinator t) ≡ ballot.Dropped → x ≡ told_answer None [] → IsStepAs G None k k (event.Arrive from (msg.Ready t j ts)) (Ok x)
  vote_dropped x dropped so = quiet_step G k (event.Arrive from (msg.Ready t j ts)) x up so
      (λ a h.
      (let told : ballot_of j ts least (a.fates t) ≡ ballot.Dropped = ballot_told a (G.held k.vault) ballot.Dropped h dropped in
      ready_passed_leads a from t j ts h.quiet (h.down ∙ up) (λ acts. unheard (state_of a) acts (a.fates t) told) (unsaid a (why_not_own false (state_of a) t) (a.fates t) told)))

  -- others are to come
  pub record IsKeptVote (f : Fate) : Type 0 where
    pub client : ℕ
    pub joins : List JoinNo
    pub votes : List Vote
    pub is : f ≡ Finishing client joins votes
    pub its : has_join j joins ≡ true
    pub more : has_all_votes j ts joins votes ≡ false

  pub kept_vote : (f : Fate) → ballot_of j ts least f ≡ ballot.Kept → IsKeptVote f
  kept_vote Undrawn e = (let wrong : ballot.Dropped ≡ ballot.Kept = e in cc)
  kept_vote (Running c js) e = (let wrong : ballot.Dropped ≡ ballot.Kept = e in cc)
  kept_vote (Finishing c js vs) e = go (has_join j js) refl (list_all (λ i. voted i (with_vote j ts vs)) js) refl e
    where
      go : (b : Bool) → has_join j js ≡ b → (d : Bool) → list_all (λ i. voted i (with_vote j ts vs)) js ≡ d → cond {A = Ballot} b (cond {A = Ballot} d (ballot.Last (latest_vote least (with_vote j ts vs))) ballot.Kept) ballot.Dropped ≡ ballot.Kept → IsKeptVote (Finishing c js vs)
      go false f d g e = (let wrong : ballot.Dropped ≡ ballot.Kept = e in cc)
      go true f true g e = (let wrong : ballot.Last (latest_vote least (with_vote j ts vs)) ≡ ballot.Kept = e in cc)
      go true f false g e = record { client = c; joins = js; votes = vs; is = refl; its = f; more = λ i. f i && g i }
  kept_vote (Committed stamp js ds) e = (let wrong : ballot.Dropped ≡ ballot.Kept = e in cc)
  kept_vote (Forgotten stamp js) e = (let wrong : ballot.Dropped ≡ ballot.Kept = e in cc)
  kept_vote (Ended c) e = (let wrong : ballot.Dropped ≡ ballot.Kept = e in cc)

  pub vote_kept : ts ≤ 2 ^ 62 → (x : Answer) (z : Coordinator) → ballot_of j ts least (fate_in k.coordinator t) ≡ ballot.Kept → IsAlong k.coordinator z → ComesLike (Hears t j ts) k.coordinator z → x ≡ told_answer None []
      → IsStepAs G None k (record k { coordinator = z }) (event.Arrive from (msg.Ready t j ts)) (Ok x)
  vote_kept low x z kept along comes so =
      fate_step G k (Hears t j ts) tt z along comes up (λ n r. early_hears k.servers k.server t j ts k.coordinator z low comes r.fated) (event.Arrive from (msg.Ready t j ts)) x so (λ e. (let wrong : event.Arrive from (msg.Ready t j ts) ≡ event.Restart = e in cc)) (λ a. tt)
      (λ a h.
      (let o : IsKeptVote (a.fates t) = kept_vote (a.fates t) (ballot_told a (G.held k.vault) ballot.Kept h kept) in
      ready_kept_leads a from t j ts o.client o.joins o.votes h.quiet (h.down ∙ up) o.is o.its o.more))
      (λ a h u. known-after a.ids.epoch (Hears t j ts) u (fate_in k.coordinator u) (fate_in z u) (a.fates u) refl (h.coordinator.fates u) (comes u))
