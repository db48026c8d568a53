-- a step by which nothing is asked of the vault and nobody is answered: what it says, and what stays
use Rattle.std.specs.Prelude.{cond, Bool, true, false, ◌||◌, filter, Option, None, Some, is_some, Result, Ok, Err, IfOk, map as list_map, IsTrue}
use Rattle.std.specs.List.{list_any, AllByRecursion}
use Rattle.std.proofs.Common.{◌≡◌, ℕ, ◌+◌, ◌≤◌, max, List, [], ◌∷◌, refl, sym, ◌∙◌, ap, subst, arith}
use Rattle.alp_base.specs.declared.allowance.Allowance.{Allowance}
use Rattle.alp_base.specs.declared.memory.OutOfMemory.{OutOfMemory}
use Rattle.alp_journal.specs.declared.act.Act.{Act}
use Rattle.alp_journal.specs.declared.act.Act.TheVariants as act
use Rattle.alp_journal.specs.declared.event.Event.{Event}
use Rattle.alp_journal.specs.declared.message.Message.{Message}
use Rattle.alp_journal.specs.Account.{Account, state_of, sent_acts, IsQuiet, Leads}
use Rattle.alp_journal.specs.Messages.{Mail, to_others}
use Rattle.alp_journal.specs.Moves.{is_stop}
use Rattle.alp_journal.specs.State.{State, is_other_server}
use Rattle.alp_vault.specs.Contents.{Contents}
use Rattle.alp_vault.specs.declared.vault.Vault.{Ghosts}
use Rattle.alp_node.specs.Halts.{HaveCauses, MaySay, says_shut}
use Rattle.alp_node.specs.Noted.{AreNotesFor}
use Rattle.alp_node.specs.Says.{said_if, is_away, said_to}
use Rattle.alp_node.specs.ServerState.{IsAs, IsReady}
use Rattle.alp_node.specs.Steps.{Stepped, IsStepAs, IsNoted, IsTimely, seen_with, told_answer, entry_of}
use Rattle.alp_node.specs.Turns.{HasTurned}
use Rattle.alp_node.specs.declared.answer.Answer.{Answer}
use Rattle.alp_node.specs.declared.server_state.ServerState.{ServerState}
use Rattle.alp_worker.specs.Again.{is_other}
use Rattle.alp_journal.specs.Answered.{is_read_fault}
use Rattle.alp_calls.proofs.LookLemmas.{left_same}
use Rattle.alp_node.proofs.GivenLemmas.{wanting_as}
use Rattle.alp_node.proofs.ReadyLemmas.{stepped_ready}
use Rattle.alp_node.proofs.SeatLemmas.{left_seated, spends_same, left_alone, left_leaves}

-- ---- what is said

-- it is the journal's mail to another server of the run
pub said_mail : (s : State) (to : ℕ) (m : Message) → said_if (is_other_server s to) to m ≡ sent_acts (to_others s ((to, m) ∷ []))
said_mail s to m = go (is_other_server s to)
  where
    go : (b : Bool) → said_if b to m ≡ sent_acts (cond {A = List Mail} b ((to, m) ∷ []) [])
    go true = refl
    go false = refl

-- the server of a journal knows the others
pub away_told : {V : Type 0} (a : Account) (held : Contents) (k : ServerState V) (n : ℕ) → IsAs a held k → is_away k n ≡ is_other_server (state_of a) n
away_told a held k n h = λ i. is_other (sym h.servers i) (sym h.server i) n

-- it stops nothing, and may be said
pub said_goes_on : (b : Bool) (to : ℕ) (m : Message) → list_any is_stop (said_if b to m) ≡ false
said_goes_on true to m = refl
said_goes_on false to m = refl

pub said_caused : (b : Bool) (to : ℕ) (m : Message) → MaySay m → (before now : ℕ) (allowance : Allowance) → HaveCauses before now allowance (said_if b to m)
said_caused true to m may before now allowance = (may, tt)
said_caused false to m may before now allowance = tt

-- ---- a step

-- the vault, the sessions and the clock stay, and so does which server it is
pub record IsBeside {V : Type 0} (k new : ServerState V) : Type 0 where
  pub vault : new.vault ≡ k.vault
  pub server : new.server ≡ k.server
  pub servers : new.servers ≡ k.servers
  pub sizes : new.sizes ≡ k.sizes
  pub epoch : new.epoch ≡ k.epoch
  pub clock : new.clock ≡ k.clock
  pub sessions : new.sessions ≡ k.sessions
  pub down : new.is_down ≡ k.is_down

module _ {V : Type 0} (G : Ghosts V) (k new : ServerState V) (e : Event) (x : Answer) (acts : List Act) (beside : IsBeside k new) (up : k.is_down ≡ false) (so : x ≡ told_answer None acts) where
  pub said_step : list_any is_stop acts ≡ false → ((before now : ℕ) (allowance : Allowance) → HaveCauses before now allowance acts)
      → ((n : ℕ) → IsReady n (G.serves k.vault) k → IsReady (n + 1) (G.serves k.vault) new)
      → (AreNotesFor k (G.held k.vault).notes → AreNotesFor new (G.held k.vault).notes)
      → ((a : Account) → IsAs a (G.held k.vault) k → Stepped a (G.faults k.vault) (G.faults k.vault) (G.held k.vault) new e x)
      → IsStepAs G None k new e (Ok x)
  said_step none causes ready noted steps =
      let left = left_alone G k.vault new.vault beside.vault in
      record {
        stepped = λ told a h. subst (λ (v : V). Stepped a (G.faults k.vault) (G.faults v) (G.held v) new e x) (sym beside.vault) (steps a h);
        given = record {
          handed = ap (λ (y : Answer). y.handed) so ∙ sym (ap (λ (y : Answer). y.kept) so);
          replies = ap (λ (y : Answer). is_some y.kept) so ∙ sym (beside.down ∙ up);
          later = (let same : G.faults new.vault ≡ G.faults k.vault = ap G.faults beside.vault in omega (arith, same));
          told = λ is. absurd (silent_reads (sym (ap (λ (y : Answer). is_read_fault y.kept) so) ∙ is));
          still = λ is. ap G.faults beside.vault;
          down = beside.down ∙ up ∙ sym none ∙ ap (λ (y : Answer). list_any is_stop y.acts) (sym so);
          said_down = λ is. absurd (silent_shut (sym (ap (λ (y : Answer). says_shut y.kept) so) ∙ is));
          halts = λ is. absurd (not_down (sym (beside.down ∙ up) ∙ is));
          causes = subst (λ (y : Answer). HaveCauses (G.faults k.vault) (G.faults new.vault) (G.allowance new.vault) y.acts) (sym so) (causes (G.faults k.vault) (G.faults new.vault) (G.allowance new.vault));
        };
        ready = λ n h. subst (λ (v : V). IsReady (n + 1) (G.serves v) new) (sym beside.vault) (ready n h);
        noted = λ h still. subst (λ (v : V). AreNotesFor new (G.held v).notes) (sym beside.vault) (noted (h up));
        still = tt;
        seat = record { server = beside.server; servers = beside.servers; sizes = beside.sizes; epoch = beside.epoch; same = left.same; spends = spends_same (G.allowance k.vault) (G.allowance new.vault) left.allowed };
        turned = λ on. subst (λ (y : Answer). HasTurned None k new e y.kept) (sym so) (record { later = (let same : new.clock ≡ k.clock = beside.clock in omega (arith, same)); times = tt; sessions = beside.sessions; pages = tt });
        leaves = λ told a h. left_leaves G k.vault new.vault _ left;
      }
    where
      silent_reads : false ≡ true → ⊥
      silent_reads w = cc

      silent_shut : false ≡ true → ⊥
      silent_shut w = cc

      not_down : false ≡ true → ⊥
      not_down w = cc

-- the clock stands
pub stands_timely : (before seen now : ℕ) → before ≡ now → now ≤ max before seen + 1
stands_timely before seen now same = omega (arith, same)

-- by a step of the journal
pub silent_stepped : {V : Type 0} (a m : Account) (faults : ℕ) (held : Contents) (k new : ServerState V) (e : Event) (x : Answer) (acts : List Act) → IsAs a held k → new.clock ≡ k.clock → x ≡ told_answer None acts
    → Leads false a (record { event = e; reply = None; acts = acts }) m → IsAs m held new → Stepped a faults faults held new e x
silent_stepped a m faults held k new e x acts h clock so leads kept = record {
  failed = false;
  next = m;
  leads = subst (λ (y : Answer). Leads false a (entry_of e y) m) (sym so) leads;
  rose = λ w. cc;
  kept = kept;
  clock = stands_timely a.holder.clock (seen_with a.fates e) new.clock (h.clock ∙ sym clock);
}

-- a step by which all stays, and this is said
pub told_step : {V : Type 0} (G : Ghosts V) (k : ServerState V) (e : Event) (x : Answer) (acts : List Act) → k.is_down ≡ false → x ≡ told_answer None acts
    → list_any is_stop acts ≡ false → ((before now : ℕ) (allowance : Allowance) → HaveCauses before now allowance acts)
    → ((a : Account) → IsAs a (G.held k.vault) k → Leads false a (record { event = e; reply = None; acts = acts }) a) → IsStepAs G None k k e (Ok x)
told_step G k e x acts up so none causes leads =
    said_step G k k e x acts (record { vault = refl; server = refl; servers = refl; sizes = refl; epoch = refl; clock = refl; sessions = refl; down = refl }) up so none causes
    (λ n h. stepped_ready n (G.serves k.vault) k h) (λ notes. notes)
    (λ a h. silent_stepped a a (G.faults k.vault) (G.held k.vault) k k e x acts h refl so (leads a h) h)

-- nothing comes of it
pub quiet_step : {V : Type 0} (G : Ghosts V) (k : ServerState V) (e : Event) (x : Answer) → k.is_down ≡ false → x ≡ told_answer None []
    → ((a : Account) → IsAs a (G.held k.vault) k → Leads false a (record { event = e; reply = None; acts = [] }) a) → IsStepAs G None k k e (Ok x)
quiet_step G k e x up so leads = told_step G k e x [] up so refl (λ before now allowance. tt) leads

-- a message goes to another server of the run
pub word_step : {V : Type 0} (G : Ghosts V) (k : ServerState V) (e : Event) (x : Answer) (to : ℕ) (m : Message) → k.is_down ≡ false → x ≡ told_answer None (said_to k to m) → MaySay m
    → ((a : Account) → IsAs a (G.held k.vault) k → Leads false a (record { event = e; reply = None; acts = said_to k to m }) a) → IsStepAs G None k k e (Ok x)
word_step G k e x to m up so may leads =
    told_step G k e x (said_to k to m) up so (said_goes_on (is_away k to) to m) (said_caused (is_away k to) to m may) leads

-- where memory was wanting all is as before
pub still_wanting : {V : Type 0} (G : Ghosts V) (k : ServerState V) (e : Event) (f : OutOfMemory) → IsStepAs G None k k e (Err f)
still_wanting G k e f =
    wanting_as G k k None e (Err f) refl (record { kept = λ a h. h; ready = λ n h. h; up = refl; sessions = refl; clock = refl; vault = record { held = refl; faults = refl; allowance = refl } }) (λ h. h)
    (left_seated G k k refl refl refl refl (left_same G k.vault)) (left_same G k.vault)

pub said_or_wanting : {V : Type 0} (G : Ghosts V) (k : ServerState V) (e : Event) (P : Answer → Type 0) (r : Result Answer OutOfMemory) → IfOk r P → ((x : Answer) → P x → IsStepAs G None k k e (Ok x)) → IsStepAs G None k k e r
said_or_wanting G k e P (Ok x) h step = step x h
said_or_wanting G k e P (Err f) h step = still_wanting G k e f
