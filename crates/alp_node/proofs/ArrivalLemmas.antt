-- what arrives about who takes part in a transaction
use Rattle.std.specs.Prelude.{cond, Bool, true, false, not, ◌==◌, ◌&&◌, ◌||◌, Option, None, Some, is_some}
use Rattle.std.specs.FinMap as map
use Rattle.std.proofs.Common.{◌≡◌, ℕ, ◌+◌, List, [], ◌∷◌, ◌++◌, refl, sym, ◌∙◌, ap, subst}
use Rattle.std.proofs.lemmas.Bool.{and_parts, eqb-true}
use Rattle.alp_base.specs.declared.ids.JoinNo.{JoinNo}
use Rattle.alp_base.specs.declared.ids.TransId.{TransId}
use Rattle.alp_journal.specs.declared.act.Act.{Act}
use Rattle.alp_journal.specs.declared.act.Act.TheVariants as act
use Rattle.alp_journal.specs.declared.event.Event.TheVariants as event
use Rattle.alp_journal.specs.declared.message.Message.TheVariants as msg
use Rattle.alp_journal.specs.Account.{Account, state_of, sent_acts, IsQuiet, Leads}
use Rattle.alp_journal.specs.Coordinator.{Fate, Undrawn, Running, Finishing, Committed, Forgotten, Ended, joins_of, decision_in}
use Rattle.alp_journal.specs.Coordinator as fate
use Rattle.alp_journal.specs.Deeds.{Registers}
use Rattle.alp_journal.specs.Ids.{has_join, has_server, is_drawn}
use Rattle.alp_journal.specs.Messages.{may_join, to_others}
use Rattle.alp_journal.specs.State.{is_trans_drawn, is_other_server}
use Rattle.alp_journal.proofs.RegisterSteps.{register_unknown_leads, register_refused_leads, register_stray_leads, register_again_leads, register_leads, with_registered}
use Rattle.alp_vault.specs.Contents.{Contents}
use Rattle.alp_coord.specs.declared.answers.Registration.{Registration}
use Rattle.alp_coord.specs.declared.answers.Registration.TheVariants as registration
use Rattle.alp_coord.specs.declared.coordinator.Coordinator.{Coordinator}
use Rattle.alp_coord.specs.Coordinators.{IsAlong, Comes, fate_in, is_known, admitted, registration_of, registration_in, AfterRegistration, is_other as is_other_in}
use Rattle.alp_coord.proofs.TieLemmas.{known-registration}
use Rattle.alp_node.specs.Durable.{AreNotesOf}
use Rattle.alp_node.specs.Says.{said_if, is_away, register_acts}
use Rattle.alp_node.specs.ServerState.{IsAs, IsReady}
use Rattle.alp_node.specs.Steps.{Stepped, told_answer}
use Rattle.alp_node.specs.Transactions.{IsCoordinatorBy}
use Rattle.alp_node.specs.declared.answer.Answer.{Answer}
use Rattle.alp_node.specs.declared.server_state.ServerState.{ServerState}
use Rattle.alp_node.proofs.NoteLaw.{notes_stay}
use Rattle.alp_node.proofs.FatedLemmas.{IsFatedAs, fated_itself, fated_by, small_as}
use Rattle.alp_node.proofs.KeptLemmas.{applied_fated}
use Rattle.alp_node.proofs.SayLemmas.{said_mail, away_told, said_goes_on, said_caused, silent_stepped}
use Rattle.alp_node.specs.Halts.{HaveCauses}
use Rattle.alp_base.specs.declared.allowance.Allowance.{Allowance}
use Rattle.alp_journal.specs.Moves.{is_stop}
use Rattle.std.specs.List.{list_any}
use Rattle.alp_node.proofs.TransactionLemmas.{known_moved, run_along}

-- ---- where fates alone move

pub kept_fated : {V : Type 0} (a : Account) (held : Contents) (k : ServerState V) (g : TransId → Fate) (z : Coordinator) → IsAs a held k → IsCoordinatorBy a.holder.server a.ids.epoch a.ids.transactions g z
    → (k.is_down ≡ false → AreNotesOf (state_of (record a { fates = g })) a.ids.epoch held.notes) → ((t : TransId) → decision_in (g t) ≡ decision_in (a.fates t)) → IsQuiet (record a { fates = g }) → IsAs (record a { fates = g }) held (record k { coordinator = z })
kept_fated a held k g z h coordinated notes same quiet = record {
  server = h.server;
  servers = h.servers;
  sizes = h.sizes;
  epoch = h.epoch;
  clock = h.clock;
  cells = h.cells;
  sized = h.sized;
  notes = notes;
  places = h.places;
  sessions = h.sessions;
  dead = h.dead;
  waits = h.waits;
  queue = h.queue;
  asked = h.asked;
  lives = h.lives;
  room = h.room;
  unborn = h.unborn;
  coordinator = coordinated;
  decided = applied_fated a (record a { fates = g }) refl refl same h.decided;
  joins = h.joins;
  files = h.files;
  made = h.made;
  born = h.born;
  earlier = h.earlier;
  quiet = quiet;
  down = h.down;
}

-- ---- a register

pub record IsFirst (j : JoinNo) (client : ℕ) (other : Bool) (f : Fate) : Type 0 where
  pub joins : List JoinNo
  pub runs : f ≡ Running client joins
  pub far : other ≡ true
  pub first : has_server j.server joins ≡ false

pub record IsAgain (j : JoinNo) (client : ℕ) (other : Bool) (f : Fate) : Type 0 where
  pub joins : List JoinNo
  pub runs : f ≡ Running client joins
  pub far : other ≡ true
  pub its : has_join j joins ≡ true

module _ (j : JoinNo) (client : ℕ) (other : Bool) where
  both : (c : ℕ) → (c == client && other) ≡ true → (c ≡ client) × (other ≡ true)
  both c e = (let parts = and_parts (c == client) other e in (eqb-true c client parts.0, parts.1))

  pub is_first : (f : Fate) → registration_of other j client f ≡ registration.Registered → IsFirst j client other f
  is_first (Running c js) e = go (c == client && other) refl (has_join j js) (has_server j.server js) refl e
    where
      go : (b : Bool) → (c == client && other) ≡ b → (x y : Bool) → has_server j.server js ≡ y → cond {A = Registration} b (admitted x y) registration.Refused ≡ registration.Registered → IsFirst j client other (Running c js)
      go true is false false none e = record { joins = js; runs = ap (λ (n : ℕ). Running n js) (both c is).0; far = (both c is).1; first = none }
      go true is true y none e = let wrong : registration.Known ≡ registration.Registered = e in cc
      go true is false true none e = let wrong : registration.Refused ≡ registration.Registered = e in cc
      go false is x y none e = let wrong : registration.Refused ≡ registration.Registered = e in cc
  is_first Undrawn e = let wrong : registration.Refused ≡ registration.Registered = e in cc
  is_first (Finishing c js vs) e = let wrong : registration.Refused ≡ registration.Registered = e in cc
  is_first (Committed s js ds) e = let wrong : registration.Refused ≡ registration.Registered = e in cc
  is_first (Forgotten s js) e = let wrong : registration.Refused ≡ registration.Registered = e in cc
  is_first (Ended c) e = let wrong : registration.Refused ≡ registration.Registered = e in cc

  pub is_again : (f : Fate) → registration_of other j client f ≡ registration.Known → IsAgain j client other f
  is_again (Running c js) e = go (c == client && other) refl (has_join j js) refl (has_server j.server js) e
    where
      go : (b : Bool) → (c == client && other) ≡ b → (x : Bool) → has_join j js ≡ x → (y : Bool) → cond {A = Registration} b (admitted x y) registration.Refused ≡ registration.Known → IsAgain j client other (Running c js)
      go true is true its y e = record { joins = js; runs = ap (λ (n : ℕ). Running n js) (both c is).0; far = (both c is).1; its = its }
      go true is false its true e = let wrong : registration.Refused ≡ registration.Known = e in cc
      go true is false its false e = let wrong : registration.Registered ≡ registration.Known = e in cc
      go false is x its y e = let wrong : registration.Refused ≡ registration.Known = e in cc
  is_again Undrawn e = let wrong : registration.Refused ≡ registration.Known = e in cc
  is_again (Finishing c js vs) e = let wrong : registration.Refused ≡ registration.Known = e in cc
  is_again (Committed s js ds) e = let wrong : registration.Refused ≡ registration.Known = e in cc
  is_again (Forgotten s js) e = let wrong : registration.Refused ≡ registration.Known = e in cc
  is_again (Ended c) e = let wrong : registration.Refused ≡ registration.Known = e in cc

  -- none waits for an answer that it may not get
  pub never_silent : (f : Fate) → registration_of other j client f ≡ registration.Silence → ⊥
  never_silent (Running c js) e = go (c == client && other) (has_join j js) (has_server j.server js) e
    where
      go : (b x y : Bool) → cond {A = Registration} b (admitted x y) registration.Refused ≡ registration.Silence → ⊥
      go true true y e = let wrong : registration.Known ≡ registration.Silence = e in cc
      go true false true e = let wrong : registration.Refused ≡ registration.Silence = e in cc
      go true false false e = let wrong : registration.Registered ≡ registration.Silence = e in cc
      go false x y e = let wrong : registration.Refused ≡ registration.Silence = e in cc
  never_silent Undrawn e = let wrong : registration.Refused ≡ registration.Silence = e in cc
  never_silent (Finishing c js vs) e = let wrong : registration.Refused ≡ registration.Silence = e in cc
  never_silent (Committed s js ds) e = let wrong : registration.Refused ≡ registration.Silence = e in cc
  never_silent (Forgotten s js) e = let wrong : registration.Refused ≡ registration.Silence = e in cc
  never_silent (Ended c) e = let wrong : registration.Refused ≡ registration.Silence = e in cc

-- who is refused may not join
pub is_closed : (a : Account) (j : JoinNo) (client : ℕ) (f : Fate) → registration_of (is_other_server (state_of a) j.server) j client f ≡ registration.Refused → may_join (state_of a) j client f ≡ false
is_closed a j client (Running c js) e = go (c == client && is_other_server (state_of a) j.server) (has_join j js) (has_server j.server js) e
  where
    go : (b x y : Bool) → cond {A = Registration} b (admitted x y) registration.Refused ≡ registration.Refused → (b && (x || not y)) ≡ false
    go false x y e = refl
    go true true y e = let wrong : registration.Known ≡ registration.Refused = e in cc
    go true false true e = refl
    go true false false e = let wrong : registration.Registered ≡ registration.Refused = e in cc
is_closed a j client Undrawn e = refl
is_closed a j client (Finishing c js vs) e = refl
is_closed a j client (Committed s js ds) e = refl
is_closed a j client (Forgotten s js) e = refl
is_closed a j client (Ended c) e = refl

module _ {V : Type 0} (a : Account) (faults : ℕ) (held : Contents) (k : ServerState V) (from : ℕ) (t : TransId) (j : JoinNo) (client : ℕ) (x : Answer) (h : IsAs a held k) (up : k.is_down ≡ false) where
  abbrev other : Bool
  other = is_other_server (state_of a) j.server

  far_told : is_away k j.server ≡ other
  far_told = away_told a held k j.server h

  drawn_told : is_known k.coordinator t ≡ is_trans_drawn (state_of a) t
  drawn_told = λ i. is_drawn (h.coordinator.run.server_same i) (h.coordinator.run.epoch_same i) (h.coordinator.run.count_same i) t.server t.epoch t.counter

  registration_told : (r : Registration) → registration_of (is_other_in k.coordinator.server k.servers j.server) j client (fate_in k.coordinator t) ≡ r → registration_of other j client (a.fates t) ≡ r
  registration_told r e =
      sym (known-registration a.ids.epoch t other j client (fate_in k.coordinator t) (a.fates t) (h.coordinator.fates t))
      ∙ ap (λ (b : Bool). registration_of b j client (fate_in k.coordinator t)) (λ i. is_other_in (sym h.coordinator.run.server_same i) (h.servers i) j.server)
      ∙ e

  -- nothing of it stays
  passed : (acts : List Act) → x ≡ told_answer None acts → Leads false a (record { event = event.Arrive from (msg.Register t j client); reply = None; acts = acts }) a → Stepped a faults faults held k (event.Arrive from (msg.Register t j client)) x
  passed acts so leads = silent_stepped a a faults held k k (event.Arrive from (msg.Register t j client)) x acts h refl so leads h

  pub register_stepped : (r : Registration) (z : Coordinator) → r ≡ registration_in k.coordinator t j client k.servers → AfterRegistration (Registers t j) r k.coordinator z → x ≡ told_answer None (register_acts (is_away k j.server) t j r)
      → Stepped a faults faults held (record k { coordinator = z }) (event.Arrive from (msg.Register t j client)) x
  register_stepped r z is after so = go (is_known k.coordinator t) refl r is after so
    where
      quiet : IsQuiet a
      quiet = h.quiet

      on : a.is_down ≡ false
      on = h.down ∙ up

      mail : (m : _) → said_if (is_away k j.server) j.server m ≡ sent_acts (to_others (state_of a) ((j.server, m) ∷ []))
      mail m = ap (λ (b : Bool). said_if b j.server m) far_told ∙ said_mail (state_of a) j.server m

      stays : (w : Coordinator) → w ≡ k.coordinator → Stepped a faults faults held k (event.Arrive from (msg.Register t j client)) x → Stepped a faults faults held (record k { coordinator = w }) (event.Arrive from (msg.Register t j client)) x
      stays w same step = subst (λ (y : Coordinator). Stepped a faults faults held (record k { coordinator = y }) (event.Arrive from (msg.Register t j client)) x) (sym same) step

      refused : (b : Bool) → other ≡ b → is_trans_drawn (state_of a) t ≡ true → may_join (state_of a) j client (a.fates t) ≡ false → x ≡ told_answer None (said_if b j.server (msg.JoinRefused t j)) → Stepped a faults faults held k (event.Arrive from (msg.Register t j client)) x
      refused true far drawn closed so = passed (act.Sent j.server (msg.JoinRefused t j) ∷ []) so (register_refused_leads a from t j client quiet on drawn closed far)
      refused false near drawn closed so = passed [] so (register_stray_leads a from t j client quiet on near)

      go : (b : Bool) → is_known k.coordinator t ≡ b → (r : Registration) → r ≡ cond {A = Registration} b (registration_of (is_other_in k.coordinator.server k.servers j.server) j client (fate_in k.coordinator t)) registration.Silence
          → AfterRegistration (Registers t j) r k.coordinator z → x ≡ told_answer None (register_acts (is_away k j.server) t j r) → Stepped a faults faults held (record k { coordinator = z }) (event.Arrive from (msg.Register t j client)) x
      go false known registration.Silence is after so = stays z after (passed [] so (register_unknown_leads a from t j client quiet on (sym drawn_told ∙ known)))
      go false known registration.Refused is after so = let wrong : registration.Refused ≡ registration.Silence = is in cc
      go false known registration.Known is after so = let wrong : registration.Known ≡ registration.Silence = is in cc
      go false known registration.Registered is after so = let wrong : registration.Registered ≡ registration.Silence = is in cc
      go true known registration.Silence is after so = absurd (never_silent j client other (a.fates t) (registration_told registration.Silence (sym is)))
      go true known registration.Refused is after so =
          stays z after (refused other refl (sym drawn_told ∙ known) (is_closed a j client (a.fates t) (registration_told registration.Refused (sym is)))
          (so ∙ ap (λ (b : Bool). told_answer None (said_if b j.server (msg.JoinRefused t j))) far_told))
      go true known registration.Known is after so =
          let y = is_again j client other (a.fates t) (registration_told registration.Known (sym is)) in
          stays z after (passed (act.Sent j.server (msg.Joined t j) ∷ []) (so ∙ ap (λ (b : Bool). told_answer None (said_if b j.server (msg.Joined t j))) (far_told ∙ y.far))
          (register_again_leads a from t j client y.joins quiet on y.runs y.far y.its))
      go true known registration.Registered is after so =
          let y = is_first j client other (a.fates t) (registration_told registration.Registered (sym is)) in
          let leads = register_leads a from t j client y.joins quiet on y.runs y.far y.first in
          let m : Account = with_registered a from t j client y.joins in
          silent_stepped a m faults held k (record k { coordinator = z }) (event.Arrive from (msg.Register t j client)) x (act.Registered t j ∷ act.Sent j.server (msg.Joined t j) ∷ []) h refl
          (so ∙ ap (λ (b : Bool). told_answer None (act.Registered t j ∷ said_if b j.server (msg.Joined t j))) (far_told ∙ y.far)) leads
          (kept_fated a held k m.fates z h
          (record { run = run_along a.holder.server a.ids.epoch a.ids.transactions k.coordinator z h.coordinator.run after.0; fates = known_moved a.ids.epoch (Registers t j) k.coordinator z a.fates refl after.1 h.coordinator.fates })
          (λ still. notes_stay a m (record { event = event.Arrive from (msg.Register t j client); reply = None; acts = act.Registered t j ∷ act.Sent j.server (msg.Joined t j) ∷ [] }) quiet leads.lawful leads.leaves (λ e. let wrong : event.Arrive from (msg.Register t j client) ≡ event.Restart = e in cc) refl tt a.ids.epoch held.notes (h.notes still))
          (λ u. (small_as (Registers t j) u (a.fates u) tt).decision) leads.quiet)

-- ---- a register, whatever the vault tells

pub registered_fated : (before after : Coordinator) (t : TransId) (j : JoinNo) (r : Registration) → AfterRegistration (Registers t j) r before after → IsFatedAs before after
registered_fated before after t j registration.Silence same = subst (IsFatedAs before) (sym same) (fated_itself before)
registered_fated before after t j registration.Known same = subst (IsFatedAs before) (sym same) (fated_itself before)
registered_fated before after t j registration.Refused same = subst (IsFatedAs before) (sym same) (fated_itself before)
registered_fated before after t j registration.Registered new = fated_by (Registers t j) before after tt new.0 new.1

pub register_goes_on : (b : Bool) (t : TransId) (j : JoinNo) (r : Registration) → list_any is_stop (register_acts b t j r) ≡ false
register_goes_on b t j registration.Silence = refl
register_goes_on b t j registration.Known = said_goes_on b j.server (msg.Joined t j)
register_goes_on b t j registration.Refused = said_goes_on b j.server (msg.JoinRefused t j)
register_goes_on b t j registration.Registered = said_goes_on b j.server (msg.Joined t j)

pub register_caused : (b : Bool) (t : TransId) (j : JoinNo) (r : Registration) (before now : ℕ) (allowance : Allowance) → HaveCauses before now allowance (register_acts b t j r)
register_caused b t j registration.Silence before now allowance = tt
register_caused b t j registration.Known before now allowance = said_caused b j.server (msg.Joined t j) tt before now allowance
register_caused b t j registration.Refused before now allowance = said_caused b j.server (msg.JoinRefused t j) tt before now allowance
register_caused b t j registration.Registered before now allowance = said_caused b j.server (msg.Joined t j) tt before now allowance
