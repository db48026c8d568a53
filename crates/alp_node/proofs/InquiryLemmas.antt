-- a part that voted asks how its transaction ended: what is said, and that it may be
use Rattle.std.specs.Prelude.{cond, Bool, true, false, ◌==◌, Option, None, Some, Result, Ok}
use Rattle.std.proofs.Common.{◌≡◌, ℕ, ◌+◌, ◌^◌, ◌≤◌, List, [], ◌∷◌, refl, sym, ◌∙◌, ap, subst, arith}
use Rattle.alp_base.specs.declared.ids.JoinNo.{JoinNo}
use Rattle.alp_base.specs.declared.ids.Stamp.{Stamp}
use Rattle.alp_base.specs.declared.ids.TransId.{TransId}
use Rattle.alp_files.specs.declared.refusal.Cause.{Cause}
use Rattle.alp_files.specs.declared.refusal.Cause.TheVariants as cause
use Rattle.alp_journal.specs.declared.act.Act.{Act}
use Rattle.alp_journal.specs.declared.act.Act.TheVariants as act
use Rattle.alp_journal.specs.declared.event.Event.TheVariants as event
use Rattle.alp_journal.specs.declared.message.Message.{Message}
use Rattle.alp_journal.specs.declared.message.Message.TheVariants as msg
use Rattle.alp_journal.specs.Account.{Account, state_of, Leads}
use Rattle.alp_journal.specs.Coordinator.{Fate, Undrawn, Running, Finishing, Committed, Forgotten, Ended, decision_in}
use Rattle.alp_journal.specs.Ids.{has_join, is_drawn}
use Rattle.alp_journal.specs.Messages.{Mail, on_inquire, to_others}
use Rattle.alp_journal.specs.State.{is_trans_drawn, is_other_server}
use Rattle.alp_journal.proofs.DecisionSteps.{inquire_silent_leads, inquire_leads}
use Rattle.alp_coord.specs.Coordinators.{fate_in, is_known, epoch_of, inquiry_of, commit_for, abort_for}
use Rattle.alp_coord.proofs.TieLemmas.{mail_to, inquiry-mail, known-inquiry}
use Rattle.alp_vault.specs.Contents.{Contents}
use Rattle.alp_vault.specs.declared.vault.Vault.{Ghosts}
use Rattle.alp_node.specs.Halts.{MaySay}
use Rattle.alp_node.specs.Says.{said_if, is_away, said_to}
use Rattle.alp_node.specs.ServerState.{IsAs, IsReady, IsReadyForMore}
use Rattle.alp_node.specs.Steps.{IsStepAs, told_answer}
use Rattle.alp_node.specs.declared.answer.Answer.{Answer}
use Rattle.alp_node.specs.declared.server_state.ServerState.{ServerState}
use Rattle.alp_node.proofs.JoinMoves.{same_some}
use Rattle.alp_node.proofs.SayLemmas.{away_told, quiet_step, word_step}

-- ---- a time that is told is no later than the last

module _ (epoch : ℕ) (t : TransId) (j : JoinNo) (m : Message) where
  may_abort : (c : Cause) → abort_for t j c ≡ Some m → MaySay m
  may_abort c e = subst MaySay (same_some (msg.Abort t j c) m e) tt

  may_commit : (stamp : Stamp) (b : Bool) → stamp.ts ≤ 2 ^ 62 → cond {A = Option Message} b (Some (msg.Commit t j stamp)) None ≡ Some m → MaySay m
  may_commit stamp true low e = subst MaySay (same_some (msg.Commit t j stamp) m e) low
  may_commit stamp false low e = absurd (let wrong : ◌≡◌ {A = Option Message} None (Some m) = e in cc)

  abbrev AreTimely : Fate → Type 0
  AreTimely f = (stamp : Stamp) (js : List JoinNo) → decision_in f ≡ Some (stamp, js) → stamp.ts ≤ 2 ^ 62

  pub inquiry_timely : (f : Fate) → AreTimely f → inquiry_of epoch t j f ≡ Some m → MaySay m
  inquiry_timely Undrawn times e = may_abort (cause.Lost epoch) e
  inquiry_timely (Running client js) times e = absurd (let wrong : ◌≡◌ {A = Option Message} None (Some m) = e in cc)
  inquiry_timely (Finishing client js vs) times e = absurd (let wrong : ◌≡◌ {A = Option Message} None (Some m) = e in cc)
  inquiry_timely (Committed stamp [] ds) times e = go (t.epoch == epoch) e
    where
      go : (b : Bool) → cond {A = Option Message} b None (abort_for t j (cause.Lost epoch)) ≡ Some m → MaySay m
      go true e = absurd (let wrong : ◌≡◌ {A = Option Message} None (Some m) = e in cc)
      go false e = may_abort (cause.Lost epoch) e
  inquiry_timely (Committed stamp (k ∷ js) ds) times e = may_commit stamp (has_join j (k ∷ js)) (times stamp (k ∷ js) refl) e
  inquiry_timely (Forgotten stamp js) times e = go (t.epoch == epoch) e
    where
      go : (b : Bool) → cond {A = Option Message} b (commit_for t j stamp js) (abort_for t j (cause.Lost epoch)) ≡ Some m → MaySay m
      go true e = may_commit stamp (has_join j js) (times stamp js refl) e
      go false e = may_abort (cause.Lost epoch) e
  inquiry_timely (Ended c) times e = may_abort (cond (t.epoch == epoch) c (cause.Lost epoch)) e

-- ---- the step

module _ {V : Type 0} (G : Ghosts V) (k : ServerState V) (from : ℕ) (t : TransId) (j : JoinNo) (up : k.is_down ≡ false) where
  abbrev answer_to : Option Message
  answer_to = cond {A = Option Message} (is_known k.coordinator t) (inquiry_of (epoch_of k.coordinator) t j (fate_in k.coordinator t)) None

  module _ (a : Account) (held : Contents) (h : IsAs a held k) where
    drawn_told : is_known k.coordinator t ≡ is_trans_drawn (state_of a) t
    drawn_told = λ i. is_drawn (h.coordinator.run.server_same i) (h.coordinator.run.epoch_same i) (h.coordinator.run.count_same i) t.server t.epoch t.counter

    word_told : inquiry_of (epoch_of k.coordinator) t j (fate_in k.coordinator t) ≡ inquiry_of a.ids.epoch t j (a.fates t)
    word_told = ap (λ (e : ℕ). inquiry_of e t j (fate_in k.coordinator t)) h.coordinator.run.epoch_same ∙ known-inquiry a.ids.epoch t j (fate_in k.coordinator t) (a.fates t) (h.coordinator.fates t)

    mail_told : (o : Option Message) → inquiry_of (epoch_of k.coordinator) t j (fate_in k.coordinator t) ≡ o → on_inquire (state_of a) t j (a.fates t) ≡ mail_to j o
    mail_told o e = inquiry-mail (state_of a) t j (a.fates t) ∙ ap (mail_to j) (sym word_told ∙ e)

  -- nothing is known of it
  pub unanswered_step : (x : Answer) → answer_to ≡ None → x ≡ told_answer None [] → IsStepAs G None k k (event.Arrive from (msg.Inquire t j)) (Ok x)
  unanswered_step x none so = quiet_step G k (event.Arrive from (msg.Inquire t j)) x up so (λ a h. inquire_silent_leads a from t j h.quiet (h.down ∙ up) (nothing a (G.held k.vault) h (is_known k.coordinator t) refl none))
    where
      nothing : (a : Account) (held : Contents) → IsAs a held k → (b : Bool) → is_known k.coordinator t ≡ b → cond {A = Option Message} b (inquiry_of (epoch_of k.coordinator) t j (fate_in k.coordinator t)) None ≡ None
          → to_others (state_of a) (cond {A = List Mail} (is_trans_drawn (state_of a) t) (on_inquire (state_of a) t j (a.fates t)) []) ≡ []
      nothing a held h true known e = ap (λ (b : Bool). to_others (state_of a) (cond {A = List Mail} b (on_inquire (state_of a) t j (a.fates t)) [])) (sym (drawn_told a held h) ∙ known) ∙ ap (to_others (state_of a)) (mail_told a held h None e)
      nothing a held h false known e = ap (λ (b : Bool). to_others (state_of a) (cond {A = List Mail} b (on_inquire (state_of a) t j (a.fates t)) [])) (sym (drawn_told a held h) ∙ known)

  -- it is told
  pub answered_step : (x : Answer) (m : Message) → IsReadyForMore (G.serves k.vault) k → answer_to ≡ Some m → x ≡ told_answer None (said_to k j.server m) → IsStepAs G None k k (event.Arrive from (msg.Inquire t j)) (Ok x)
  answered_step x m ready is so = go (is_known k.coordinator t) refl is
    where
      go : (b : Bool) → is_known k.coordinator t ≡ b → cond {A = Option Message} b (inquiry_of (epoch_of k.coordinator) t j (fate_in k.coordinator t)) None ≡ Some m → IsStepAs G None k k (event.Arrive from (msg.Inquire t j)) (Ok x)
      go false known e = absurd (let wrong : ◌≡◌ {A = Option Message} None (Some m) = e in cc)
      go true known e = word_step G k (event.Arrive from (msg.Inquire t j)) x j.server m up so may (λ a h. leads a h (is_other_server (state_of a) j.server) refl)
        where
          may : MaySay m
          may = inquiry_timely (epoch_of k.coordinator) t j m (fate_in k.coordinator t) (λ stamp js decided. (let low : stamp.ts ≤ k.clock = ready.2.times t stamp js decided in let end : k.clock ≤ 2 ^ 62 = ready.2.clock in omega arith)) e

          leads : (a : Account) (h : IsAs a (G.held k.vault) k) (b : Bool) → is_other_server (state_of a) j.server ≡ b → Leads false a (record { event = event.Arrive from (msg.Inquire t j); reply = None; acts = said_to k j.server m }) a
          leads a h true far =
              subst (λ (c : Bool). Leads false a (record { event = event.Arrive from (msg.Inquire t j); reply = None; acts = said_if c j.server m }) a) (sym (away_told a (G.held k.vault) k j.server h ∙ far))
              (inquire_leads a from t j m h.quiet (h.down ∙ up) (sym (drawn_told a (G.held k.vault) h) ∙ known) far (mail_told a (G.held k.vault) h (Some m) e))
          leads a h false near =
              subst (λ (c : Bool). Leads false a (record { event = event.Arrive from (msg.Inquire t j); reply = None; acts = said_if c j.server m }) a) (sym (away_told a (G.held k.vault) k j.server h ∙ near))
              (inquire_silent_leads a from t j h.quiet (h.down ∙ up)
              (ap (λ (c : Bool). to_others (state_of a) (cond {A = List Mail} c (on_inquire (state_of a) t j (a.fates t)) [])) (sym (drawn_told a (G.held k.vault) h) ∙ known)
              ∙ ap (to_others (state_of a)) (mail_told a (G.held k.vault) h (Some m) e) ∙ ap (λ (c : Bool). cond {A = List Mail} c ((j.server, m) ∷ []) []) near))
