-- the step of an event without a caller in which the vault is asked for one write: what was written, how the server goes down in it, and that
-- memory was wanting
use Rattle.std.specs.Prelude.{Bool, true, false, ◌||◌, max, IsTrue, Option, None, Some, Result, Ok, Err}
use Rattle.std.specs.List.{list_any}
use Rattle.std.specs.Result.{IsErr}
use Rattle.std.proofs.Common.{◌⊎◌, ◌≡◌, ℕ, ◌+◌, ◌≤◌, List, [], ◌∷◌, ◌++◌, refl, sym, ◌∙◌, ap, subst, inl, inr}
use Rattle.alp_base.specs.Allowances.{Spends}
use Rattle.alp_base.specs.declared.allowance.Allowance.{Allowance}
use Rattle.alp_base.specs.declared.bytes.NoteChange.{NoteChange}
use Rattle.alp_base.specs.declared.memory.OutOfMemory.{OutOfMemory}
use Rattle.alp_base.specs.Notes.{notes_after}
use Rattle.alp_files.specs.declared.refusal.Refusal.TheVariants as refusal
use Rattle.alp_journal.specs.declared.act.Act.{Act}
use Rattle.alp_journal.specs.declared.act.Act.TheVariants as act
use Rattle.alp_journal.specs.declared.event.Event.{Event}
use Rattle.alp_journal.specs.declared.event.Event.TheVariants as event
use Rattle.alp_journal.specs.declared.message.Message.{Message}
use Rattle.alp_journal.specs.Account.{Account, state_of, Leads}
use Rattle.alp_journal.specs.Moves.{is_stop, tried}
use Rattle.alp_journal.proofs.HaltSteps.{stop_of, stop_entry, with_stop}
use Rattle.alp_trans.specs.declared.part.Part.{Part}
use Rattle.alp_vault.specs.Contents.{Contents}
use Rattle.alp_vault.specs.Vault.{IsSameVault}
use Rattle.alp_vault.specs.declared.vault.Vault.{Ghosts}
use Rattle.alp_node.specs.Durable.{IsSaidBy, IsWritten, Leaves, Besides}
use Rattle.alp_node.specs.Halts.{HaveCauses, Ends}
use Rattle.alp_node.specs.Noted.{AreNotesFor}
use Rattle.alp_node.specs.ServerState.{IsAs, IsReady}
use Rattle.alp_node.specs.Steps.{Stepped, IsDown, IsStepAs, IsNoted, IsTimely, seen_with, entry_of, told_answer, refused_answer}
use Rattle.alp_node.specs.Turns.{HasTurned}
use Rattle.alp_node.specs.Writes.{Writes}
use Rattle.alp_node.specs.declared.answer.Answer.{Answer}
use Rattle.alp_node.specs.declared.server_state.ServerState.{ServerState}
use Rattle.alp_node.specs.declared.stored.StoreFault.{StoreFault}
use Rattle.alp_node.specs.declared.stored.StoreFault.TheVariants as fault
use Rattle.alp_node.proofs.GivenLemmas.{calm_given}
use Rattle.alp_node.proofs.HaltLemmas.{halted_as}
use Rattle.alp_node.proofs.KeptLemmas.{as_with, stands_timely}
use Rattle.alp_node.proofs.ReadyLemmas.{down_ready, ready_with}
use Rattle.alp_node.proofs.SeatLemmas.{leaves_as}

-- by a step of the journal, whatever the vault has then
pub written_stepped : {V : Type 0} (a m : Account) (before now : ℕ) (then : Contents) (new : ServerState V) (e : Event) (x : Answer) (acts : List Act) → x ≡ told_answer None acts
    → Leads false a (record { event = e; reply = None; acts = acts }) m → IsAs m then new → IsTimely a.fates a.holder.clock e new.clock → Stepped a before now then new e x
written_stepped a m before now then new e x acts so leads kept timely = record {
  failed = false;
  next = m;
  leads = subst (λ (y : Answer). Leads false a (entry_of e y) m) (sym so) leads;
  rose = λ w. cc;
  kept = kept;
  clock = timely;
}

err_of : {T E : Type 0} (r : Result T E) → IsErr r → (f : E) × (r ≡ Err f)
err_of (Err f) e = (f, refl)
err_of (Ok x) e = let wrong : false ≡ true = e in cc

module _ {V : Type 0} (G : Ghosts V) (k : ServerState V) (v : V) (p : Part) (changes : List NoteChange) (up : k.is_down ≡ false) where
  -- ---- memory was wanting

  pub wanting_step : (e : Event) (f : OutOfMemory) → Writes G k.vault v p changes (Err fault.OutOfMemory) → IsStepAs G None k (record k { vault = v }) e (Err f)
  wanting_step e f w = record {
    stepped = λ told a h. tt;
    given = tt;
    ready = λ n h. tt;
    noted = λ h on. subst (λ (c : Contents). AreNotesFor k c.notes) (sym w.ended.1.held) (h on);
    still = record {
      kept = λ a h. as_with a (G.held k.vault) (G.held v) k v w.ended.1.held h;
      ready = λ n h. ready_with n (G.serves k.vault) (G.serves v) k v w.ended.0 up h;
      up = refl;
      sessions = refl;
      clock = refl;
      vault = w.ended.1;
    };
    seat = record { server = refl; servers = refl; sizes = refl; epoch = refl; same = w.same; spends = w.spends };
    turned = λ on. tt;
    leaves = λ told a h. w.memory told refl;
  }

  pub wanting_result : (e : Event) (r : Result Answer OutOfMemory) → Writes G k.vault v p changes (Err fault.OutOfMemory) → IsErr r → IsStepAs G None k (record k { vault = v }) e r
  wanting_result e r w err = (let q = err_of r err in subst (λ (x : Result Answer OutOfMemory). IsStepAs G None k (record k { vault = v }) e x) (sym q.1) (wanting_step e q.0 w))

  -- ---- the server went down in it

  module _ (from : ℕ) (m : Message) (front : List Act) where
    abbrev acts_of : Bool → List Act
    acts_of b = front ++ stop_of b ∷ []

    -- what is known of an entry that tells so
    pub record IsStop : Type 0 where
      pub stops : (b : Bool) → list_any is_stop (front ++ stop_of b ∷ []) ≡ true
      pub causes : (before now : ℕ) (allowance : Allowance) (z : Act) → HaveCauses before now allowance (z ∷ []) → HaveCauses before now allowance (front ++ z ∷ [])
      pub leads : (b : Bool) (a : Account) → IsAs a (G.held k.vault) k → Leads false a (stop_entry a from m (front ++ stop_of b ∷ [])) (with_stop a from m (front ++ stop_of b ∷ []))
      pub said : (b : Bool) (a : Account) → IsAs a (G.held k.vault) k → (c : Contents) → IsWritten p.intents changes (G.held k.vault) c → IsSaidBy (state_of a) (stop_entry a from m (front ++ stop_of b ∷ [])) c

    -- the vault is off, and that has its cause
    record IsOff (b : Bool) : Type 0 where
      off : G.serves v ≡ false
      later : G.faults k.vault ≤ G.faults v
      causes : HaveCauses (G.faults k.vault) (G.faults v) (G.allowance v) (stop_of b ∷ [])
      same : IsSameVault G.tells G.volume G.server G.servers k.vault v
      spends : Spends (G.allowance k.vault) (G.allowance v)
      leaves : IsTrue (G.tells k.vault) → Leaves G k.vault v (Besides G k.vault (IsWritten p.intents changes (G.held k.vault)))

    stopped_step : (b : Bool) (x : Answer) → IsStop → IsOff b → x ≡ refused_answer refusal.Down (front ++ stop_of b ∷ []) → IsStepAs G None k (record k { is_down = true; vault = v }) (event.Arrive from m) (Ok x)
    stopped_step b x s o so = subst (λ (y : Answer). IsStepAs G None k (record k { is_down = true; vault = v }) (event.Arrive from m) (Ok y)) (sym so) (record {
      stepped = λ told a h. record {
        failed = false;
        next = with_stop a from m (acts_of b);
        leads = s.leads b a h;
        rose = λ w. cc;
        kept = halted_as a (with_stop a from m (acts_of b)) (G.held k.vault) (G.held v) k v (tried (state_of a) (stop_entry a from m (acts_of b))) refl (s.leads b a h).quiet h;
        clock = stands_timely a.holder.clock (seen_with a.fates (event.Arrive from m)) k.clock h.clock;
      };
      given = record {
        handed = refl;
        replies = refl;
        later = o.later;
        told = λ e. (let wrong : false ≡ true = e in cc);
        still = λ e. (let wrong : true ≡ false = e in cc);
        down = sym (s.stops b);
        said_down = λ _. (refl, refl);
        halts = λ _. refl;
        causes = s.causes (G.faults k.vault) (G.faults v) (G.allowance v) (stop_of b) o.causes;
      };
      ready = λ n h. down_ready n (G.serves k.vault) (G.serves v) k v o.off h;
      noted = λ h e. (let wrong : true ≡ false = e in cc);
      still = tt;
      seat = record { server = refl; servers = refl; sizes = refl; epoch = refl; same = o.same; spends = o.spends };
      turned = λ e. (let wrong : true ≡ false = e in cc);
      leaves = λ told a h. leaves_as G k.vault v (IsWritten p.intents changes (G.held k.vault)) (IsSaidBy (state_of a) (stop_entry a from m (acts_of b))) (s.said b a h) (o.leaves told);
    })

    is_failed : Writes G k.vault v p changes (Err fault.Failed) → IsOff false
    is_failed w = record { off = w.ended.0; later = w.ended.2; causes = (w.ended.1, tt); same = w.same; spends = w.spends; leaves = w.leaves }

    is_stopped : Writes G k.vault v p changes (Err fault.Stopped) → IsOff true
    is_stopped w = record { off = w.ended.0; later = w.ended.2; causes = (w.ended.1, tt); same = w.same; spends = w.spends; leaves = w.leaves }

    -- it shows how it went down
    pub halted_step : (f : StoreFault) (shown : Act) (x : Answer) → ((f ≡ fault.Failed) × (shown ≡ act.Failed)) ⊎ ((f ≡ fault.Stopped) × (shown ≡ act.Stopped)) → IsStop → Writes G k.vault v p changes (Err f) → x ≡ refused_answer refusal.Down (front ++ shown ∷ [])
        → IsStepAs G None k (record k { is_down = true; vault = v }) (event.Arrive from m) (Ok x)
    halted_step f shown x of s w so = elim of [
      | inl y ↦ stopped_step false x s (is_failed (subst (λ (z : StoreFault). Writes G k.vault v p changes (Err z)) y.0 w)) (so ∙ ap (λ (z : Act). refused_answer refusal.Down (front ++ z ∷ [])) y.1)
      | inr y ↦ stopped_step true x s (is_stopped (subst (λ (z : StoreFault). Writes G k.vault v p changes (Err z)) y.0 w)) (so ∙ ap (λ (z : Act). refused_answer refusal.Down (front ++ z ∷ [])) y.1)
    ]

    -- how the vault failed, and what came of it
    pub record HasFallen (f : StoreFault) (new : ServerState V) (r : Result Answer OutOfMemory) : Type 0 where
      pub failed : f ≡ fault.Failed → IsDown (record k { vault = v }) new (front ++ act.Failed ∷ []) r
      pub stopped : f ≡ fault.Stopped → IsDown (record k { vault = v }) new (front ++ act.Stopped ∷ []) r
      pub memory : f ≡ fault.OutOfMemory → (new ≡ record k { vault = v }) × IsErr r

    -- by what a server said that had asked its vault
    pub has_fallen : (mid new : ServerState V) (items : List Act) (f : StoreFault) (r : Result Answer OutOfMemory) → mid ≡ record k { vault = v } → items ≡ front → (f ≡ fault.Failed → IsDown mid new (items ++ act.Failed ∷ []) r) → (f ≡ fault.Stopped → IsDown mid new (items ++ act.Stopped ∷ []) r)
        → (f ≡ fault.OutOfMemory → (new ≡ mid) × IsErr r) → HasFallen f new r
    has_fallen mid new items f r at said failed stopped memory = record {
      failed = λ e. subst (λ (s : ServerState V). IsDown s new (front ++ act.Failed ∷ []) r) at (subst (λ (xs : List Act). IsDown mid new (xs ++ act.Failed ∷ []) r) said (failed e));
      stopped = λ e. subst (λ (s : ServerState V). IsDown s new (front ++ act.Stopped ∷ []) r) at (subst (λ (xs : List Act). IsDown mid new (xs ++ act.Stopped ∷ []) r) said (stopped e));
      memory = λ e. (let q = memory e in (q.0 ∙ at, q.1));
    }

    pub fallen_step : (f : StoreFault) (new : ServerState V) (r : Result Answer OutOfMemory) → IsStop → Writes G k.vault v p changes (Err f) → HasFallen f new r → IsStepAs G None k new (event.Arrive from m) r
    fallen_step fault.Failed new r s w h =
        let d : IsDown (record k { vault = v }) new (front ++ act.Failed ∷ []) r = h.failed refl in
        subst (λ (y : ServerState V). IsStepAs G None k y (event.Arrive from m) r) (sym d.kept)
        (subst (λ (z : Result Answer OutOfMemory). IsStepAs G None k (record k { is_down = true; vault = v }) (event.Arrive from m) z) (sym d.answer) (stopped_step false (refused_answer refusal.Down (acts_of false)) s (is_failed w) refl))
    fallen_step fault.Stopped new r s w h =
        let d : IsDown (record k { vault = v }) new (front ++ act.Stopped ∷ []) r = h.stopped refl in
        subst (λ (y : ServerState V). IsStepAs G None k y (event.Arrive from m) r) (sym d.kept)
        (subst (λ (z : Result Answer OutOfMemory). IsStepAs G None k (record k { is_down = true; vault = v }) (event.Arrive from m) z) (sym d.answer) (stopped_step true (refused_answer refusal.Down (acts_of true)) s (is_stopped w) refl))
    fallen_step fault.OutOfMemory new r s w h = (let q = h.memory refl in subst (λ (y : ServerState V). IsStepAs G None k y (event.Arrive from m) r) (sym q.0) (wanting_result (event.Arrive from m) r w q.1))

  -- ---- it was written

  -- the vault is that one then, and the clock does not fall back
  pub record IsAfter (new : ServerState V) : Type 0 where
    pub vault : new.vault ≡ v
    pub server : new.server ≡ k.server
    pub servers : new.servers ≡ k.servers
    pub sizes : new.sizes ≡ k.sizes
    pub epoch : new.epoch ≡ k.epoch
    pub later : k.clock ≤ new.clock
    pub sessions : new.sessions ≡ k.sessions
    pub down : new.is_down ≡ k.is_down

  -- what comes of it then
  pub record HasCome (new : ServerState V) (e : Event) (x : Answer) (acts : List Act) : Type 0 where
    pub after : IsAfter new
    pub said : x ≡ told_answer None acts
    pub none : list_any is_stop acts ≡ false
    pub causes : (before now : ℕ) (allowance : Allowance) → HaveCauses before now allowance acts
    pub ready : (n : ℕ) → IsReady n (G.serves k.vault) k → IsReady (n + 1) (G.serves v) new
    pub noted : AreNotesFor k (G.held k.vault).notes → AreNotesFor new (notes_after changes (G.held k.vault).notes)
    pub steps : IsTrue (G.tells k.vault) → (a : Account) → IsAs a (G.held k.vault) k → Stepped a (G.faults k.vault) (G.faults v) (G.held v) new e x
    pub leaves : (a : Account) → IsAs a (G.held k.vault) k → (c : Contents) → IsWritten p.intents changes (G.held k.vault) c → IsSaidBy (state_of a) (record { event = e; reply = None; acts = acts }) c

  pub written_step : (new : ServerState V) (e : Event) (x : Answer) (acts : List Act) → Writes G k.vault v p changes (Ok tt) → HasCome new e x acts → IsStepAs G None k new e (Ok x)
  written_step new e x acts w h = record {
    stepped = λ told a is. subst (λ (u : V). Stepped a (G.faults k.vault) (G.faults u) (G.held u) new e x) (sym h.after.vault) (h.steps told a is);
    given =
        calm_given (G.faults k.vault) (G.faults new.vault) (G.allowance new.vault) new.is_down None None acts x h.said refl refl refl (ap G.faults h.after.vault ∙ w.ended.1) (h.after.down ∙ up) (h.after.down ∙ up ∙ sym h.none)
        (h.causes (G.faults k.vault) (G.faults new.vault) (G.allowance new.vault));
    ready = λ n is. subst (λ (u : V). IsReady (n + 1) (G.serves u) new) (sym h.after.vault) (h.ready n is);
    noted = λ is on. subst (λ (u : V). AreNotesFor new (G.held u).notes) (sym h.after.vault) (subst (AreNotesFor new) (sym w.notes) (h.noted (is up)));
    still = tt;
    seat = record {
      server = h.after.server;
      servers = h.after.servers;
      sizes = h.after.sizes;
      epoch = h.after.epoch;
      same = subst (IsSameVault G.tells G.volume G.server G.servers k.vault) (sym h.after.vault) w.same;
      spends = subst (λ (u : V). Spends (G.allowance k.vault) (G.allowance u)) (sym h.after.vault) w.spends;
    };
    turned = λ on. subst (λ (y : Answer). HasTurned None k new e y.kept) (sym h.said) (record { later = h.after.later; times = tt; sessions = h.after.sessions; pages = tt });
    leaves = λ told a is.
        subst (λ (u : V). Leaves G k.vault u (Besides G k.vault (IsSaidBy (state_of a) (entry_of e x)))) (sym h.after.vault)
        (subst (λ (y : Answer). Leaves G k.vault v (Besides G k.vault (IsSaidBy (state_of a) (entry_of e y)))) (sym h.said)
        (leaves_as G k.vault v (IsWritten p.intents changes (G.held k.vault)) (IsSaidBy (state_of a) (record { event = e; reply = None; acts = acts })) (h.leaves a is) (w.leaves told)));
  }
