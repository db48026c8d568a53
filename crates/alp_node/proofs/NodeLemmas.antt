-- a server and its journal, one step more
use Rattle.std.specs.Prelude.{cond, Bool, IsTrue, true, false, flat_map, Option, Result, Ok, Err, IfOk, MatchResult}
use Rattle.std.proofs.lemmas.Option.{slice_get_within}
use Rattle.std.proofs.lemmas.Grind.{flat_map-append}
use Rattle.std.proofs.Common.{◌⊎◌, ◌≡◌, ◌<◌, ℕ, ◌+◌, List, [], ◌∷◌, ◌++◌, append-nil, length, length-append, refl, sym, ◌∙◌, ap, subst, inl, inr, ⊎_elim, arith}
use Rattle.std.specs.List.{AllByRecursion}
use Rattle.alp_base.specs.Crashes.{Only}
use Rattle.alp_base.specs.declared.allowance.Allowance.{Allowance}
use Rattle.alp_base.specs.declared.memory.OutOfMemory.{OutOfMemory}
use Rattle.std.specs.FinMap as map
use Rattle.alp_calls.proofs.PartLaws.{same_change}
use Rattle.alp_files.specs.Edits.{Edit, edits_map}
use Rattle.alp_files.specs.Sound.{AreSound}
use Rattle.alp_files.specs.declared.reply.Reply.{Reply}
use Rattle.alp_vault.specs.Contents.{Contents}
use Rattle.alp_vault.specs.declared.vault.Vault.{Ghosts}
use Rattle.alp_journal.specs.declared.act.Act.{Act}
use Rattle.alp_journal.specs.declared.act.Act.TheVariants as act
use Rattle.alp_journal.specs.declared.entry.Entry.{Entry}
use Rattle.alp_journal.specs.declared.event.Event.{Event}
use Rattle.alp_journal.specs.declared.message.Envelope.{Envelope}
use Rattle.alp_journal.specs.Deeds.{Deed}
use Rattle.alp_journal.specs.Desk.{Desk}
use Rattle.alp_journal.proofs.IdLemmas.{all-append}
use Rattle.alp_journal.specs.Along.{state_after, Along}
use Rattle.alp_journal.specs.Opening.{Start}
use Rattle.alp_journal.specs.State.{State, state_deed, opened}
use Rattle.alp_journal.specs.Moves.{next, tried, did, told, halted, stops}
use Rattle.alp_journal.specs.Laws.{IsLawful, IsLawfulEntry}
use Rattle.alp_journal.specs.Answered.{IsAnswered, IsAnsweredSo, IsAnsweredEntry, FitsJournal, entries_limit}
use Rattle.alp_journal.specs.Account.{Account, state_of as account_state}
use Rattle.alp_node.specs.declared.answer.Answer.{Answer}
use Rattle.alp_node.specs.NodeStates.{NodeState}
use Rattle.alp_node.specs.ServerState.{IsAs, IsReady}
use Rattle.alp_node.specs.Durable.{IsDurable, IsSettled, Leaves, Besides, NoOther, HeldOr, IsSaid, IsSaidBy, IsSaidThen, IsStoredBy}
use Rattle.alp_node.specs.Nodes.{IsConsistent, IsRight, Answered, HasCause, HasRoom, state_of, start_by, start_in, sent_by, sent_in}
use Rattle.alp_node.specs.Halts.{HaveCauses, MaySay}
use Rattle.alp_node.specs.Served.{AreLivesSound}
use Rattle.alp_node.specs.SoundLives.{edits_in, HasSoundLives}
use Rattle.alp_node.specs.Steps.{Stepped, IsStepAs, IsEntered, entry_of}
use Rattle.alp_node.specs.Turns.{HasTurned}
use Rattle.alp_node.specs.declared.server_state.ServerState.{ServerState}
use Rattle.alp_node.specs.declared.sessions.CallOrder.{CallOrder}
use Rattle.alp_node.proofs.KeptLemmas.{IsLive, live_there}
use Rattle.alp_node.proofs.SoundLives.{journal_sound}

pub state_after-push : {S E : Type 0} (step : S → E → S) (s : S) (es : List E) (e : E) → state_after step s (es ++ e ∷ []) ≡ step (state_after step s es) e
state_after-push step s [] e = refl
state_after-push step s (x ∷ es) e = state_after-push step (step s x) es e

pub Along-push : {S E : Type 0} (step : S → E → S) (law : S → E → Type 0) (s : S) (es : List E) (e : E) → Along step law s es → law (state_after step s es) e → Along step law s (es ++ e ∷ [])
Along-push step law s [] e h k = (k, tt)
Along-push step law s (x ∷ es) e h k = (h.0, Along-push step law (step s x) es e h.1 k)

-- an entry has its cause in the state of the journal before it
pub caused_so : {V : Type 0} (o : Start) (held then : Contents) (old new : NodeState V) (before now : ℕ) (e : Event) (x : Answer) (h : IsRight o held old) → Stepped h.state before now then new.kept e x
    → HasCause before now (state_of o old.journal) (entry_of e x)
caused_so o held then old new before now e x h s = (s.failed, subst (λ (z : State). IsAnsweredEntry s.failed z (entry_of e x)) (sym h.says) s.leads.answered, s.rose)

-- a journal that had room holds no entry too many
fits-push : (es : List Entry) (e : Entry) → length es < entries_limit → FitsJournal (es ++ e ∷ [])
fits-push es e room i x at = inr (let within : i < length (es ++ e ∷ []) = slice_get_within (es ++ e ∷ []) i x at in let long = length-append es (e ∷ []) in omega (arith, within, long, room))

-- one step more of a server that is right
pub step_right : {V : Type 0} (o : Start) (held then : Contents) (old new : NodeState V) (before now : ℕ) (e : Event) (x : Answer) (h : IsRight o held old) → HasRoom old → Stepped h.state before now then new.kept e x
    → new.journal ≡ old.journal ++ (entry_of e x) ∷ [] → IsRight o then new
step_right o held then old new before now e x h room s is = record {
  opening = h.opening;
  lawful = subst (IsLawful o) (sym is) (Along-push next IsLawfulEntry (opened o) old.journal (entry_of e x) h.lawful (subst (λ (z : State). IsLawfulEntry z (entry_of e x)) (sym h.says) s.leads.lawful));
  caused = subst (IsAnswered o) (sym is)
      (Along-push next IsAnsweredSo (opened o) old.journal (entry_of e x) h.caused.0 (s.failed, subst (λ (z : State). IsAnsweredEntry s.failed z (entry_of e x)) (sym h.says) s.leads.answered), fits-push old.journal (entry_of e x) room);
  state = s.next;
  says = ap (state_of o) is ∙ state_after-push next (opened o) old.journal (entry_of e x) ∙ ap (λ (z : State). next z (entry_of e x)) h.says ∙ s.leads.leaves;
  kept = s.kept;
}

-- where nothing was answered
pub still_right : {V : Type 0} (o : Start) (held then : Contents) (old new : NodeState V) (h : IsRight o held old) → IsAs h.state then new.kept → new.journal ≡ old.journal → IsRight o then new
still_right o held then old new h as_is is = record {
  opening = h.opening;
  lawful = subst (IsLawful o) (sym is) h.lawful;
  caused = subst (IsAnswered o) (sym is) h.caused;
  state = h.state;
  says = ap (state_of o) is ∙ h.says;
  kept = as_is;
}

pub counted_pushed : (es fs : List Entry) (e : Entry) → fs ≡ es ++ e ∷ [] → length fs ≡ length es + 1
counted_pushed es fs e is = ap length is ∙ length-append es (e ∷ [])

-- ---- what is sent

-- acts with causes send what may be said
pub caused_said : (before now : ℕ) (allowance : Allowance) (acts : List Act) → HaveCauses before now allowance acts → AllByRecursion (λ (x : Envelope). MaySay x.message) (flat_map sent_by acts)
caused_said before now allowance [] h = tt
caused_said before now allowance (act.Sent to message ∷ more) h = (h.0, caused_said before now allowance more h.1)
caused_said before now allowance (act.Granted t ∷ more) h = caused_said before now allowance more h
caused_said before now allowance (act.Drawn t ∷ more) h = caused_said before now allowance more h
caused_said before now allowance (act.Registered t join ∷ more) h = caused_said before now allowance more h
caused_said before now allowance (act.Readied t join ts ∷ more) h = caused_said before now allowance more h
caused_said before now allowance (act.Decided stamp parts ∷ more) h = caused_said before now allowance more h
caused_said before now allowance (act.Applied join stamp ∷ more) h = caused_said before now allowance more h
caused_said before now allowance (act.Released t ∷ more) h = caused_said before now allowance more h
caused_said before now allowance (act.Forgot t ∷ more) h = caused_said before now allowance more h
caused_said before now allowance (act.Regained epoch clock ready stamps ∷ more) h = caused_said before now allowance more h
caused_said before now allowance (act.Stopped ∷ more) h = caused_said before now allowance more h.1
caused_said before now allowance (act.Failed ∷ more) h = caused_said before now allowance more h.1

-- one entry more whose messages may be said
pub sent_pushed : (es fs : List Entry) (e : Entry) → fs ≡ es ++ e ∷ [] → AllByRecursion (λ (x : Envelope). MaySay x.message) (sent_in es) → AllByRecursion (λ (x : Envelope). MaySay x.message) (flat_map sent_by e.acts)
    → AllByRecursion (λ (x : Envelope). MaySay x.message) (sent_in fs)
sent_pushed es fs e is before own =
    subst (AllByRecursion (λ (x : Envelope). MaySay x.message)) (sym (ap sent_in is ∙ flat_map-append (λ (x : Entry). flat_map sent_by x.acts) es (e ∷ []) ∙ ap (λ (xs : List Envelope). sent_in es ++ xs) (append-nil (flat_map sent_by e.acts))))
    (all-append (λ (x : Envelope). MaySay x.message) (sent_in es) (flat_map sent_by e.acts) before own)

-- ---- what its live parts intend

-- With what a live part intends the files are sound, while the server is up.
pub right_sound : {V : Type 0} (G : Ghosts V) (n : NodeState V) (held : Contents) → IsRight (start_in G n) held n → n.kept.is_down ≡ false → AreLivesSound held n.kept
right_sound G n held r up t l there =
    let a : Account = r.state in
    let k = n.kept in
    let now : HasSoundLives (account_state a).holder = subst (λ (s : State). HasSoundLives s.holder) r.says (journal_sound (opened (start_in G n)) n.journal r.lawful r.opening.parts) in
    let y : IsLive a.holder.cells k.locks.held (a.locked t) t l (a.holder.lives t) = live_there a.holder.cells k.locks.held (a.locked t) t (map.get k.lives t) (a.holder.lives t) l there (r.kept.lives t) in
    let es : List Edit = y.life.edits in
    let one : AreSound (edits_map (edits_in (a.holder.lives t) ++ []) a.holder.cells) = now.sound (t ∷ []) refl in
    let own : AreSound (edits_map es a.holder.cells) = subst (λ (fs : List Edit). AreSound (edits_map fs a.holder.cells)) (append-nil (edits_in (a.holder.lives t)) ∙ ap edits_in y.is) one in
    subst AreSound (sym (same_change held.cells l.part es y.alike.intents ∙ ap (edits_map es) (r.kept.cells up))) own

-- ---- what its vault holds

-- deeds look at none of these
deeds_beside : (s : State) (is_down : Bool) (pending ds : List Deed) → state_after state_deed (record s { is_down = is_down; pending = pending }) ds ≡ record (state_after state_deed s ds) { is_down = is_down; pending = pending }
deeds_beside s is_down pending [] = refl
deeds_beside s is_down pending (d ∷ ds) = deeds_beside (state_deed s d) is_down pending ds

-- nor does what is stored
stored_beside : (epoch : ℕ) (s : State) (desk : Desk) (is_down : Bool) (pending : List Deed) (c : Contents) → IsStoredBy epoch s c → IsStoredBy epoch (record s { desk = desk; is_down = is_down; pending = pending }) c
stored_beside epoch s desk is_down pending c h = record { cells = h.cells; notes = record { clock = h.notes.clock; ready = h.notes.ready; decided = h.notes.decided; format = h.notes.format; fit = h.notes.fit; fit_decided = h.notes.fit_decided; timely = h.notes.timely } }

-- what an entry tries is what it leaves, or what is pending then
tried_said : (s : State) (e : Entry) (c : Contents) → (next s e).ids.epoch ≡ s.ids.epoch → IsSaidBy s e c → IsSaidThen (next s e) c
tried_said s e c epoch said = go (stops e) epoch
  where
    go : (b : Bool) → (cond {A = State} b (halted s e) (told s e)).ids.epoch ≡ s.ids.epoch → IsSaidThen (cond {A = State} b (halted s e) (told s e)) c
    go true same =
        subst (λ (z : State). IsStoredBy s.ids.epoch z c) (sym (deeds_beside s true (tried s e) (tried s e))) (stored_beside s.ids.epoch (did s e) (did s e).desk true (tried s e) c said)
    go false same = subst (λ (n : ℕ). IsStoredBy n (told s e) c) (sym same) (stored_beside s.ids.epoch (did s e) (told s e).desk false [] c said)

-- where it stops, the journal says what it said
halt_said : (s : State) (e : Entry) (c : Contents) → stops e ≡ true → IsSaid s c → IsSaid (next s e) c
halt_said s e c stop said = subst (λ (z : State). IsSaid z c) (sym (ap (λ (b : Bool). cond {A = State} b (halted s e) (told s e)) stop)) (stored_beside s.ids.epoch s s.desk true (tried s e) c said)

-- while it is up the vault holds what the journal says
pub right_said : {V : Type 0} (o : Start) (held : Contents) (n : NodeState V) → IsRight o held n → n.kept.is_down ≡ false → IsSaid (state_of o n.journal) held
right_said o held n r up = subst (λ (s : State). IsSaid s held) (sym r.says) (record { cells = r.kept.cells up; notes = r.kept.notes up })

-- and a crash leaves just that
pub up_durable : {V : Type 0} (o : Start) (held : Contents) (n : NodeState V) (leaves : Contents → Type 0) → IsRight o held n → n.kept.is_down ≡ false → Only held leaves → IsDurable (state_of o n.journal) leaves
up_durable o held n leaves r up only = record {
  up = λ _ c here. subst (IsSaid (state_of o n.journal)) (sym (only c here)) (right_said o held n r up);
  down = λ c here. inl (subst (IsSaid (state_of o n.journal)) (sym (only c here)) (right_said o held n r up));
}

module _ {V : Type 0} (G : Ghosts V) (o : Start) (old new : NodeState V) (e : Event) (x : Answer) (r : IsRight o (G.held old.kept.vault) old)
    (s : Stepped r.state (G.faults old.kept.vault) (G.faults new.kept.vault) (G.held new.kept.vault) new.kept e x) (is : new.journal ≡ old.journal ++ entry_of e x ∷ []) (epoch : new.kept.epoch ≡ old.kept.epoch)
    (up : old.kept.is_down ≡ false) (only : Only (G.held old.kept.vault) (G.may_leave old.kept.vault))
    (leaves : Leaves G old.kept.vault new.kept.vault (Besides G old.kept.vault (IsSaidBy (account_state r.state) (entry_of e x)))) where
  after_step : state_of o new.journal ≡ next (account_state r.state) (entry_of e x)
  after_step = ap (state_of o) is ∙ state_after-push next (opened o) old.journal (entry_of e x) ∙ ap (λ (z : State). next z (entry_of e x)) r.says

  said_so : (c : Contents) → IsSaidBy (account_state r.state) (entry_of e x) c → IsSaidThen (state_of o new.journal) c
  said_so c said =
      subst (λ (z : State). IsSaidThen z c) (sym after_step)
      (tried_said (account_state r.state) (entry_of e x) c (ap (λ (m : State). m.ids.epoch) s.leads.leaves ∙ s.kept.epoch ∙ epoch ∙ sym r.kept.epoch) said)

  either_of : (c : Contents) → Besides G old.kept.vault (IsSaidBy (account_state r.state) (entry_of e x)) c → HeldOr (G.held old.kept.vault) (IsSaidThen (state_of o new.journal)) c
  either_of c (inl before) = inl (only c before)
  either_of c (inr (inl same)) = inl same
  either_of c (inr (inr said)) = inr (said_so c said)

  -- through the step a crash leaves what was held, or what its write makes of that
  pub step_leaves : Leaves G old.kept.vault new.kept.vault (HeldOr (G.held old.kept.vault) (IsSaidThen (state_of o new.journal)))
  step_leaves = record {
    crash = λ c here. either_of c (leaves.crash c here);
    time = record { each = λ start c was. ⊎_elim (λ before. inl before) (λ now. inr (either_of c now)) (leaves.time.each start c was) };
  }

  -- a server that went down in it
  pub down_durable : new.kept.is_down ≡ true → stops (entry_of e x) ≡ true → IsDurable (state_of o new.journal) (G.may_leave new.kept.vault)
  down_durable down stop = record {
    up = λ on c here. (
        let wrong : true ≡ false = sym down ∙ sym s.kept.down ∙ sym (ap (λ (m : State). m.is_down) (after_step ∙ s.leads.leaves)) ∙ on in
        cc);
    down = λ c here. go c (step_leaves.crash c here);
  }
    where
      held_still : IsSaid (state_of o new.journal) (G.held old.kept.vault)
      held_still =
          subst (λ (z : State). IsSaid z (G.held old.kept.vault)) (sym after_step)
          (halt_said (account_state r.state) (entry_of e x) (G.held old.kept.vault) stop (subst (λ (z : State). IsSaid z (G.held old.kept.vault)) r.says (right_said o (G.held old.kept.vault) old r up)))

      go : (c : Contents) → HeldOr (G.held old.kept.vault) (IsSaidThen (state_of o new.journal)) c → IsSaid (state_of o new.journal) c ⊎ IsSaidThen (state_of o new.journal) c
      go c (inl held) = inl (subst (IsSaid (state_of o new.journal)) (sym held) held_still)
      go c (inr then) = inr then

-- ---- whatever a step came to

module _ {V : Type 0} (G : Ghosts V) (old : NodeState V) (kept : ServerState V) (journal : List Entry) (e : Event) (o : Option CallOrder) where
  abbrev pub node_then : NodeState V
  node_then = record old { kept = kept; journal = journal }

  module _ (h : IsConsistent G old) (up : old.kept.is_down ≡ false) (before : IsSettled G old.kept.vault) (after : IsSettled G kept.vault) where
    told_before : G.tells kept.vault ≡ G.tells old.kept.vault → IsTrue (G.tells kept.vault) → IsTrue (G.tells old.kept.vault)
    told_before same told = subst IsTrue same told

    only_before : IsTrue (G.tells old.kept.vault) → Only (G.held old.kept.vault) (G.may_leave old.kept.vault)
    only_before told = before told (h.ready.serving up)

    start_then : kept.server ≡ old.kept.server → start_in G old ≡ start_in G node_then
    start_then server = (λ i. start_by G (sym server i) old.opening.vault.value)

    module _ (x : Answer) (room : HasRoom old) (s : IsStepAs G o old.kept kept e (Ok x)) (is : journal ≡ old.journal ++ entry_of e x ∷ []) where
      ready_then : IsReady (length journal) (G.serves kept.vault) kept
      ready_then = subst (λ (n : ℕ). IsReady n (G.serves kept.vault) kept) (sym (counted_pushed old.journal journal (entry_of e x) is)) (s.ready (length old.journal) h.ready)

      module _ (told : IsTrue (G.tells old.kept.vault)) where
        right_then : IsRight (start_in G old) (G.held kept.vault) node_then
        right_then =
            let r : IsRight (start_in G old) (G.held old.kept.vault) old = h.right told in
            step_right (start_in G old) (G.held old.kept.vault) (G.held kept.vault) old node_then (G.faults old.kept.vault) (G.faults kept.vault) e x r room (s.stepped told r.state r.kept) is

        leaves_then : Leaves G old.kept.vault kept.vault (HeldOr (G.held old.kept.vault) (IsSaidThen (state_of (start_in G old) journal)))
        leaves_then =
            let r : IsRight (start_in G old) (G.held old.kept.vault) old = h.right told in
            step_leaves G (start_in G old) old node_then e x r (s.stepped told r.state r.kept) is s.seat.epoch up (only_before told) (s.leaves told r.state r.kept)

        durable_then : IsDurable (state_of (start_in G old) journal) (G.may_leave kept.vault)
        durable_then = go kept.is_down refl
          where
            go : (b : Bool) → kept.is_down ≡ b → IsDurable (state_of (start_in G old) journal) (G.may_leave kept.vault)
            go false on = up_durable (start_in G old) (G.held kept.vault) node_then (G.may_leave kept.vault) right_then on (after (subst IsTrue (sym s.seat.same.telling) told) (ready_then.serving on))
            go true down =
                let r : IsRight (start_in G old) (G.held old.kept.vault) old = h.right told in
                down_durable G (start_in G old) old node_then e x r (s.stepped told r.state r.kept) is s.seat.epoch up (only_before told) (s.leaves told r.state r.kept) down (sym s.given.down ∙ down)

      step_kept : IsConsistent G node_then
      step_kept = record {
        number = s.seat.same.number ∙ h.number ∙ sym s.seat.server;
        all = s.seat.same.of_all ∙ h.all ∙ sym s.seat.servers;
        sizes = s.seat.sizes ∙ h.sizes ∙ sym s.seat.same.sizes;
        ready = ready_then;
        noted = s.noted h.noted;
        said = sent_pushed old.journal journal (entry_of e x) is h.said (caused_said (G.faults old.kept.vault) (G.faults kept.vault) (G.allowance kept.vault) x.acts s.given.causes);
        right = λ told. subst (λ (o : Start). IsRight o (G.held kept.vault) node_then) (start_then s.seat.server) (right_then (told_before s.seat.same.telling told));
        durable = λ told. subst (λ (o : Start). IsDurable (state_of o journal) (G.may_leave kept.vault)) (start_then s.seat.server) (durable_then (told_before s.seat.same.telling told));
      }

    module _ (f : OutOfMemory) (s : IsStepAs G o old.kept kept e (Err f)) (is : journal ≡ old.journal) where
      still_ready : IsReady (length journal) (G.serves kept.vault) kept
      still_ready = subst (λ (n : ℕ). IsReady n (G.serves kept.vault) kept) (sym (ap length is)) (s.still.ready (length old.journal) h.ready)

      right_still : IsTrue (G.tells old.kept.vault) → IsRight (start_in G old) (G.held kept.vault) node_then
      right_still told =
          let r : IsRight (start_in G old) (G.held old.kept.vault) old = h.right told in
          still_right (start_in G old) (G.held old.kept.vault) (G.held kept.vault) old node_then r (s.still.kept r.state r.kept) is

      durable_still : IsTrue (G.tells old.kept.vault) → IsDurable (state_of (start_in G old) journal) (G.may_leave kept.vault)
      durable_still told =
          up_durable (start_in G old) (G.held kept.vault) node_then (G.may_leave kept.vault) (right_still told) (s.still.up ∙ up) (after (subst IsTrue (sym s.seat.same.telling) told) (still_ready.serving (s.still.up ∙ up)))

      still_kept : IsConsistent G node_then
      still_kept = record {
        number = s.seat.same.number ∙ h.number ∙ sym s.seat.server;
        all = s.seat.same.of_all ∙ h.all ∙ sym s.seat.servers;
        sizes = s.seat.sizes ∙ h.sizes ∙ sym s.seat.same.sizes;
        ready = still_ready;
        noted = s.noted h.noted;
        said = subst (AllByRecursion (λ (y : Envelope). MaySay y.message)) (sym (ap sent_in is)) h.said;
        right = λ told. subst (λ (o : Start). IsRight o (G.held kept.vault) node_then) (start_then s.seat.server) (right_still (told_before s.seat.same.telling told));
        durable = λ told. subst (λ (o : Start). IsDurable (state_of o journal) (G.may_leave kept.vault)) (start_then s.seat.server) (durable_still (told_before s.seat.same.telling told));
      }

    pub entered_kept : (r : Result (Option Reply) OutOfMemory) → HasRoom old → IsEntered G o old.kept kept old.journal journal e r → IsConsistent G node_then
    entered_kept (Ok y) room (x, s, handed, is) = step_kept x room s is
    entered_kept (Err f) room (s, is) = still_kept f s is

    leaves_still : (f : OutOfMemory) → IsStepAs G o old.kept kept e (Err f) → IsTrue (G.tells old.kept.vault)
        → Leaves G old.kept.vault kept.vault (λ c. c ≡ G.held old.kept.vault)
    leaves_still f s told = record {
      crash = λ c here. kept_or c (then.crash c here);
      time = record { each = λ start c was. ⊎_elim (λ first. inl first) (λ now. inr (kept_or c now)) (then.time.each start c was) };
    }
      where
        r : IsRight (start_in G old) (G.held old.kept.vault) old
        r = h.right told

        then : Leaves G old.kept.vault kept.vault (Besides G old.kept.vault NoOther)
        then = s.leaves told r.state r.kept

        kept_or : (c : Contents) → Besides G old.kept.vault NoOther c → c ≡ G.held old.kept.vault
        kept_or c (inl first) = only_before told c first
        kept_or c (inr (inl same)) = same
        kept_or c (inr (inr other)) = absurd other

    pub entered_durable : (r : Result (Option Reply) OutOfMemory) → HasRoom old → IsEntered G o old.kept kept old.journal journal e r → IsTrue (G.tells old.kept.vault)
        → MatchResult r (λ _. Leaves G old.kept.vault kept.vault (HeldOr (G.held old.kept.vault) (IsSaidThen (state_of (start_in G node_then) journal))))
        (λ _. Leaves G old.kept.vault kept.vault (λ c. c ≡ G.held old.kept.vault))
    entered_durable (Ok y) room (x, s, handed, is) told =
        subst (λ (o : Start). Leaves G old.kept.vault kept.vault (HeldOr (G.held old.kept.vault) (IsSaidThen (state_of o journal)))) (start_then s.seat.server) (leaves_then x room s is told)
    entered_durable (Err f) room (s, is) told = leaves_still f s told

  -- where it goes on, its sessions and its clock went on with the event
  pub entered_turned : (r : Result (Option Reply) OutOfMemory) → IsEntered G o old.kept kept old.journal journal e r → kept.is_down ≡ false → IfOk r (λ y. HasTurned o old.kept kept e y)
  entered_turned (Ok y) (x, s, handed, is) up = subst (λ (z : Option Reply). HasTurned o old.kept kept e z) (sym s.given.handed ∙ handed) (s.turned up)
  entered_turned (Err f) h up = tt

  pub entered_answered : (r : Result (Option Reply) OutOfMemory) → IsConsistent G old → IsEntered G o old.kept kept old.journal journal e r
      → IfOk r (λ y. Answered o (G.tells old.kept.vault) (state_of (start_in G old) old.journal) old.journal journal e y (G.faults old.kept.vault) (G.faults kept.vault) (G.allowance kept.vault) kept.is_down)
  entered_answered (Ok y) h (x, s, handed, is) =
      let reply : x.kept ≡ y = sym s.given.handed ∙ handed in
      subst (λ (z : Option Reply). Answered o (G.tells old.kept.vault) (state_of (start_in G old) old.journal) old.journal journal e z (G.faults old.kept.vault) (G.faults kept.vault) (G.allowance kept.vault) kept.is_down) reply (record {
        acts = x.acts;
        entry = is;
        cause = λ told. (
            let right = h.right told in
            caused_so (start_in G old) (G.held old.kept.vault) (G.held kept.vault) old node_then (G.faults old.kept.vault) (G.faults kept.vault) e x right (s.stepped told right.state right.kept)
            );
        replies = s.given.replies;
        later = s.given.later;
        told = s.given.told;
        still = s.given.still;
        down = s.given.down;
        said_down = s.given.said_down;
        halts = s.given.halts;
        causes = s.given.causes;
      })
  entered_answered (Err f) h s = tt

-- ---- nothing was asked of the vault

-- a crash leaves what it held
pub still_leaves : {V : Type 0} (G : Ghosts V) (v : V) → Only (G.held v) (G.may_leave v) → Leaves G v v (λ c. c ≡ G.held v)
still_leaves G v only = record { crash = only; time = record { each = λ start c was. inl was } }
