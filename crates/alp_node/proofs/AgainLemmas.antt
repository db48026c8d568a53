-- a join that is asked for its vote, or told how it ended, and of which nothing is to come: what is said again
use Rattle.std.specs.Prelude.{cond, Bool, true, false, ◌&&◌, Option, None, Some, is_none, Result, Ok}
use Rattle.std.proofs.Common.{◌≡◌, ℕ, ◌+◌, ◌^◌, ◌≤◌, List, [], ◌∷◌, refl, sym, ◌∙◌, ap, subst, arith}
use Rattle.alp_base.specs.declared.ids.JoinNo.{JoinNo}
use Rattle.alp_base.specs.declared.ids.Stamp.{Stamp}
use Rattle.alp_base.specs.declared.ids.TransId.{TransId}
use Rattle.alp_files.specs.declared.refusal.Cause.{Cause}
use Rattle.alp_files.specs.declared.refusal.Why.TheVariants as why
use Rattle.alp_journal.specs.declared.act.Act.{Act}
use Rattle.alp_journal.specs.declared.act.Act.TheVariants as act
use Rattle.alp_journal.specs.declared.event.Event.{Event}
use Rattle.alp_journal.specs.declared.event.Event.TheVariants as event
use Rattle.alp_journal.specs.declared.message.Message.{Message}
use Rattle.alp_journal.specs.declared.message.Message.TheVariants as msg
use Rattle.alp_journal.specs.Account.{Account, state_of, Leads, IsPhaseOf}
use Rattle.alp_journal.specs.Ids.{same_trans, is_drawn}
use Rattle.alp_journal.specs.Messages.{Mail, to_others, unknown_join, on_commit}
use Rattle.alp_journal.specs.Participant.{Phase, Unseen, Joining, Active, Ready, Applied, Over, live_in}
use Rattle.alp_journal.specs.State.{is_join_drawn, is_other_server}
use Rattle.alp_journal.proofs.IdLemmas.{same_trans-true, same_trans-itself}
use Rattle.alp_journal.proofs.WorkerSteps.{IsNotIts, ask_unknown_leads, ask_silent_leads, ask_again_leads, abort_passed_leads}
use Rattle.alp_journal.proofs.VoteSteps.{commit_done_leads, commit_passed_leads}
use Rattle.alp_vault.specs.Contents.{Contents}
use Rattle.alp_vault.specs.declared.vault.Vault.{Ghosts}
use Rattle.alp_worker.specs.declared.live.LiveJoin.{LiveJoin}
use Rattle.alp_worker.specs.declared.live.Stage.{Stage}
use Rattle.alp_worker.specs.declared.live.Stage.TheVariants as stage
use Rattle.alp_worker.specs.Joins.{is_drawn_in}
use Rattle.alp_worker.specs.Lives.{join_at, live_at, phase_of, phase_in}
use Rattle.alp_node.specs.Arrivals.{join_of, unknown_acts}
use Rattle.alp_node.specs.Halts.{MaySay}
use Rattle.alp_node.specs.Says.{said_if, is_away, said_to}
use Rattle.alp_node.specs.ServerState.{IsAs, IsReady, IsReadyForMore}
use Rattle.alp_node.specs.Steps.{IsStepAs, told_answer}
use Rattle.alp_node.specs.declared.answer.Answer.{Answer}
use Rattle.alp_node.specs.declared.server_state.ServerState.{ServerState}
use Rattle.alp_node.proofs.JoinMoves.{same_some, phase_back}
use Rattle.alp_node.proofs.JoinedLemmas.{IsFound, join_found, phase_told}
use Rattle.alp_node.proofs.SayLemmas.{away_told, quiet_step, word_step}

module _ {V : Type 0} (G : Ghosts V) (k : ServerState V) (from : ℕ) (t : TransId) (j : JoinNo) (up : k.is_down ≡ false) where
  module _ (a : Account) (held : Contents) (h : IsAs a held k) where
    -- the journal tells which joins were drawn
    drawn_told : is_drawn_in k.joins j ≡ is_join_drawn (state_of a) j
    drawn_told = λ i. is_drawn (h.joins.server i) (h.joins.current i) (h.joins.count i) j.server j.epoch j.counter

    -- one that is not found is not live, or another transaction's
    not_its : join_of t (join_at k.joins.lives j) ≡ None → IsNotIts a from t j
    not_its none x live = go (a.phases j) (ap (join_of t) (sym (h.joins.live j)) ∙ none) live
      where
        at : (y : LiveJoin) → join_of t (Some y) ≡ None → (y.trans, y.client) ≡ x → same_trans x.0 t ≡ false
        at y off is = ap (λ (z : TransId × ℕ). same_trans z.0 t) (sym is) ∙ apart (same_trans y.trans t) off
          where
            apart : (b : Bool) → cond {A = Option LiveJoin} b (Some y) None ≡ None → b ≡ false
            apart false e = refl
            apart true e = let wrong : Some y ≡ None = e in cc

        go : (p : Phase) → join_of t (live_at j p) ≡ None → live_in p ≡ Some x → same_trans x.0 t ≡ false
        go Unseen off is = let wrong : None ≡ Some x = is in cc
        go (Joining u c who) off is = at (record { join = j; trans = u; client = c; stage = stage.Joining who }) off (same_some (u, c) x is)
        go (Active u c who) off is = at (record { join = j; trans = u; client = c; stage = stage.Active who }) off (same_some (u, c) x is)
        go (Ready u c ts) off is = at (record { join = j; trans = u; client = c; stage = stage.Ready ts }) off (same_some (u, c) x is)
        go (Applied u stamp) off is = let wrong : None ≡ Some x = is in cc
        go Over off is = let wrong : None ≡ Some x = is in cc

    -- one that is not in the list is not live
    over : join_at k.joins.lives j ≡ None → live_in (a.phases j) ≡ None
    over none = go (a.phases j) (sym (h.joins.live j) ∙ none)
      where
        go : (p : Phase) → live_at j p ≡ None → live_in p ≡ None
        go Unseen e = refl
        go (Joining u c who) e = let wrong : Some (record { join = j; trans = u; client = c; stage = stage.Joining who }) ≡ None = e in cc
        go (Active u c who) e = let wrong : Some (record { join = j; trans = u; client = c; stage = stage.Active who }) ≡ None = e in cc
        go (Ready u c ts) e = let wrong : Some (record { join = j; trans = u; client = c; stage = stage.Ready ts }) ≡ None = e in cc
        go (Applied u stamp) e = refl
        go Over e = refl

  -- ---- asked for its vote

  abbrev asking : Event
  asking = event.Arrive from (msg.Ask t j)

  -- it is not here: it is against the commit, where it was drawn here
  pub unknown_step : (x : Answer) → join_of t (join_at k.joins.lives j) ≡ None → x ≡ told_answer None (unknown_acts k t j) → IsStepAs G None k k asking (Ok x)
  unknown_step x none so = go (is_drawn_in k.joins j) refl so
    where
      -- nothing is said
      still : (x : Answer) → x ≡ told_answer None [] → ((a : Account) → IsAs a (G.held k.vault) k → to_others (state_of a) (unknown_join (state_of a) t j) ≡ []) → IsStepAs G None k k asking (Ok x)
      still x so silent = quiet_step G k asking x up so (λ a h. ask_silent_leads a from t j h.quiet (h.down ∙ up) (not_its a (G.held k.vault) h none) (silent a h))

      mail : (a : Account) → IsAs a (G.held k.vault) k → (b : Bool) → is_drawn_in k.joins j ≡ b → to_others (state_of a) (unknown_join (state_of a) t j) ≡ to_others (state_of a) (cond {A = List Mail} b ((t.server, msg.No t j why.UnknownJoin) ∷ []) [])
      mail a h b drawn = ap (λ (c : Bool). to_others (state_of a) (cond {A = List Mail} c ((t.server, msg.No t j why.UnknownJoin) ∷ []) [])) (sym (drawn_told a (G.held k.vault) h) ∙ drawn)

      go : (b : Bool) → is_drawn_in k.joins j ≡ b → x ≡ told_answer None (cond {A = List Act} b (said_to k t.server (msg.No t j why.UnknownJoin)) []) → IsStepAs G None k k asking (Ok x)
      go false drawn so = still x so (λ a h. mail a h false drawn)
      go true drawn so = far (is_away k t.server) refl so
        where
          far : (b : Bool) → is_away k t.server ≡ b → x ≡ told_answer None (said_if b t.server (msg.No t j why.UnknownJoin)) → IsStepAs G None k k asking (Ok x)
          far false near so = still x so (λ a h. mail a h true drawn ∙ ap (λ (c : Bool). cond {A = List Mail} c ((t.server, msg.No t j why.UnknownJoin) ∷ []) []) (sym (away_told a (G.held k.vault) k t.server h) ∙ near))
          far true away so = word_step G k asking x t.server (msg.No t j why.UnknownJoin) up (so ∙ ap (λ (b : Bool). told_answer None (said_if b t.server (msg.No t j why.UnknownJoin))) (sym away)) tt
              (λ a h. subst (λ (b : Bool). Leads false a (record { event = asking; reply = None; acts = said_if b t.server (msg.No t j why.UnknownJoin) }) a) (sym away)
              (ask_unknown_leads a from t j h.quiet (h.down ∙ up) (not_its a (G.held k.vault) h none) (sym (drawn_told a (G.held k.vault) h) ∙ drawn) (sym (away_told a (G.held k.vault) k t.server h) ∙ away)))

  -- it has voted, and says so again
  pub again_step : (x : Answer) (y : LiveJoin) (ts : ℕ) → IsReadyForMore (G.serves k.vault) k → join_of t (join_at k.joins.lives j) ≡ Some y → y.stage ≡ stage.Ready ts → x ≡ told_answer None (said_to k t.server (msg.Ready t j ts)) → IsStepAs G None k k asking (Ok x)
  again_step x y ts ready there voted so =
      word_step G k asking x t.server (msg.Ready t j ts) up so (ready.2.joins.times j y ts found.there voted) leads
    where
      found : IsFound t (join_at k.joins.lives j) y
      found = join_found t (join_at k.joins.lives j) y there

      -- its coordinator is another server
      far : (a : Account) → IsAs a (G.held k.vault) k → a.phases j ≡ Ready t y.client ts → is_other_server (state_of a) t.server ≡ true
      far a h phase = (subst (IsPhaseOf a.servers a.holder.server a.ids.epoch a.ids.joins a.joined j) phase (h.quiet.settled.stands.phases j)).1

      leads : (a : Account) → IsAs a (G.held k.vault) k → Leads false a (record { event = asking; reply = None; acts = said_to k t.server (msg.Ready t j ts) }) a
      leads a h =
          let phase : a.phases j ≡ Ready t y.client ts = phase_told a (G.held k.vault) k j y h found.there ∙ (λ i. phase_in (found.trans i) y.client (voted i)) in
          subst (λ (b : Bool). Leads false a (record { event = asking; reply = None; acts = said_if b t.server (msg.Ready t j ts) }) a) (sym (away_told a (G.held k.vault) k t.server h ∙ far a h phase))
          (ask_again_leads a from t j y.client ts h.quiet (h.down ∙ up) phase)

  -- ---- told to commit

  abbrev committing : Stamp → Event
  committing stamp = event.Arrive from (msg.Commit t j stamp)

  -- one that was drawn here and is not live is done
  pub done_step : (x : Answer) (stamp : Stamp) → join_at k.joins.lives j ≡ None → is_drawn_in k.joins j ≡ true → x ≡ told_answer None (said_to k t.server (msg.Done t j)) → IsStepAs G None k k (committing stamp) (Ok x)
  done_step x stamp none drawn so = go (is_away k t.server) refl so
    where
      go : (b : Bool) → is_away k t.server ≡ b → x ≡ told_answer None (said_if b t.server (msg.Done t j)) → IsStepAs G None k k (committing stamp) (Ok x)
      go true away so = word_step G k (committing stamp) x t.server (msg.Done t j) up (so ∙ ap (λ (b : Bool). told_answer None (said_if b t.server (msg.Done t j))) (sym away)) tt
          (λ a h. subst (λ (b : Bool). Leads false a (record { event = committing stamp; reply = None; acts = said_if b t.server (msg.Done t j) }) a) (sym away)
          (commit_done_leads a from t j stamp h.quiet (h.down ∙ up) (sym (drawn_told a (G.held k.vault) h) ∙ drawn) (over a (G.held k.vault) h none) (sym (away_told a (G.held k.vault) k t.server h) ∙ away)))
      go false near so = quiet_step G k (committing stamp) x up so
          (λ a h. commit_passed_leads a from t j stamp h.quiet (h.down ∙ up)
          (said a h ∙ ap (λ (c : Bool). cond {A = List Mail} c ((t.server, msg.Done t j) ∷ []) []) (sym (away_told a (G.held k.vault) k t.server h) ∙ near))
          (λ client ts of ready. (let wrong : None ≡ Some (t, client) = sym (over a (G.held k.vault) h none) ∙ ap live_in ready in cc)))
        where
          said : (a : Account) (h : IsAs a (G.held k.vault) k) → to_others (state_of a) (on_commit (state_of a) (state_of a) t j) ≡ to_others (state_of a) ((t.server, msg.Done t j) ∷ [])
          said a h = ap (to_others (state_of a)) (λ i. cond {A = List Mail} ((sym (drawn_told a (G.held k.vault) h) ∙ drawn) i && is_none (over a (G.held k.vault) h none i)) ((t.server, msg.Done t j) ∷ []) [])

  -- nothing comes of it where the join was not drawn here
  pub strange_step : (x : Answer) (stamp : Stamp) → join_at k.joins.lives j ≡ None → is_drawn_in k.joins j ≡ false → x ≡ told_answer None [] → IsStepAs G None k k (committing stamp) (Ok x)
  strange_step x stamp none strange so = quiet_step G k (committing stamp) x up so
      (λ a h. commit_passed_leads a from t j stamp h.quiet (h.down ∙ up)
      (ap (to_others (state_of a)) (ap (λ (b : Bool). cond {A = List Mail} (b && is_none (live_in (a.phases j))) ((t.server, msg.Done t j) ∷ []) []) (sym (drawn_told a (G.held k.vault) h) ∙ strange)))
      (λ client ts of ready. (let wrong : None ≡ Some (t, client) = sym (over a (G.held k.vault) h none) ∙ ap live_in ready in cc)))

  -- nor where it is live, and not ready for that stamp
  pub unready_step : (x : Answer) (stamp : Stamp) (y : LiveJoin) → join_at k.joins.lives j ≡ Some y → ((ts : ℕ) → y.stage ≡ stage.Ready ts → y.trans ≡ t → stamp.trans ≡ t → ⊥) → x ≡ told_answer None [] → IsStepAs G None k k (committing stamp) (Ok x)
  unready_step x stamp y there out so = quiet_step G k (committing stamp) x up so
      (λ a h. commit_passed_leads a from t j stamp h.quiet (h.down ∙ up) (silent a (live_told a h)) (λ client ts of ready. out ts (stage_told a h client ts ready) (trans_told a h client ts ready) of))
    where
      live_told : (a : Account) (h : IsAs a (G.held k.vault) k) → is_none (live_in (a.phases j)) ≡ false
      live_told a h = ap (λ (p : Phase). is_none (live_in p)) (phase_told a (G.held k.vault) k j y h there) ∙ go y.stage
        where
          go : (s : Stage) → is_none (live_in (phase_in y.trans y.client s)) ≡ false
          go (stage.Joining who) = refl
          go (stage.Active who) = refl
          go (stage.Ready ts) = refl

      silent : (a : Account) → is_none (live_in (a.phases j)) ≡ false → to_others (state_of a) (on_commit (state_of a) (state_of a) t j) ≡ []
      silent a live = ap (λ (b : Bool). to_others (state_of a) (cond {A = List Mail} (is_join_drawn (state_of a) j && b) ((t.server, msg.Done t j) ∷ []) [])) live ∙ none (is_join_drawn (state_of a) j)
        where
          none : (b : Bool) → to_others (state_of a) (cond {A = List Mail} (b && false) ((t.server, msg.Done t j) ∷ []) []) ≡ []
          none true = refl
          none false = refl

      same_of : (a : Account) (h : IsAs a (G.held k.vault) k) (client ts : ℕ) → a.phases j ≡ Ready t client ts → y ≡ record { join = j; trans = t; client = client; stage = stage.Ready ts }
      same_of a h client ts ready = same_some y (record { join = j; trans = t; client = client; stage = stage.Ready ts }) (sym there ∙ h.joins.live j ∙ ap (live_at j) ready)

      stage_told : (a : Account) (h : IsAs a (G.held k.vault) k) (client ts : ℕ) → a.phases j ≡ Ready t client ts → y.stage ≡ stage.Ready ts
      stage_told a h client ts ready = ap (λ (z : LiveJoin). z.stage) (same_of a h client ts ready)

      trans_told : (a : Account) (h : IsAs a (G.held k.vault) k) (client ts : ℕ) → a.phases j ≡ Ready t client ts → y.trans ≡ t
      trans_told a h client ts ready = ap (λ (z : LiveJoin). z.trans) (same_of a h client ts ready)

  -- ---- told that it ended

  -- it is not here
  pub gone_step : (x : Answer) (c : Cause) → join_of t (join_at k.joins.lives j) ≡ None → x ≡ told_answer None [] → IsStepAs G None k k (event.Arrive from (msg.Abort t j c)) (Ok x)
  gone_step x c none so = quiet_step G k (event.Arrive from (msg.Abort t j c)) x up so (λ a h. abort_passed_leads a from t j c h.quiet (h.down ∙ up) (not_its a (G.held k.vault) h none))
