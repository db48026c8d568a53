-- a step that was taken, on a device that did not fail in it, or did
use Rattle.std.specs.Prelude.{◌||◌, true, false, Bool, IsTrue, Option, Some, Ok, Err, slice_get}
use Rattle.std.specs.List.{list_any}
use Rattle.std.proofs.Common.{inl, inr, ◌⊎◌, ◌≡◌, ℕ, List, [], ◌∷◌, ◌++◌, length, refl, sym, ◌∙◌, ap, subst, arith}
use Rattle.alp_base.specs.Causes.{Rose}
use Rattle.alp_base.specs.declared.allowance.Allowance.{Allowance}
use Rattle.alp_base.specs.declared.allowance.Allowance.TheVariants.{Free}
use Rattle.alp_files.specs.declared.reply.Reply.{Reply}
use Rattle.alp_journal.specs.Account.{Account}
use Rattle.alp_journal.specs.Answered.{is_read_fault}
use Rattle.alp_journal.specs.Desk.{Session}
use Rattle.alp_journal.specs.declared.entry.Entry.{Entry}
use Rattle.alp_journal.specs.declared.event.Event.{Event}
use Rattle.alp_vault.specs.declared.vault.Vault.{Ghosts}
use Rattle.alp_node.specs.Halts.{HaveCauses}
use Rattle.alp_node.specs.Nodes.{IsConsistent, HasRoom, HasNoEntry, Answered, start_in, start_by}
use Rattle.alp_node.specs.NodeStates.{NodeState}
use Rattle.alp_node.specs.Orders.{order_in, is_fault_now}
use Rattle.alp_node.specs.ServerState.{IsAs}
use Rattle.alp_node.specs.Served.{IsServed}
use Rattle.alp_node.specs.Sessions.{session_at}
use Rattle.alp_node.specs.Steps.{IsSeated}
use Rattle.alp_node.specs.Turns.{HasTurned}
use Rattle.alp_node.specs.declared.opened.Opened.{Opened}
use Rattle.alp_cluster.specs.Servers.{IsOn, IsDone, IsKeptReply, AreKept, HasGone, HasStepped, IsUntouched, HasFailedIn, state_of, is_failure, is_failed_at, fails}
use Rattle.alp_cluster.specs.declared.fault.RunFault.TheVariants as fault
use Rattle.alp_cluster.proofs.CalmLemmas.{calm, calm_reply, quiet_now, fault_now, failed_rose, free_goes}
use Rattle.alp_cluster.proofs.DeskLemmas.{change, kept_all}
use Rattle.alp_cluster.proofs.GoneLemmas.{stays_free}
use Rattle.alp_cluster.proofs.StepLemmas.{along_more}

or_false : (a b : Bool) → b ≡ false → (a || b) ≡ a
or_false true b is = refl
or_false false b is = is

-- the last entry of a journal stands at the place behind all others
last_at : (es : List Entry) (e : Entry) → is_failed_at (slice_get (es ++ e ∷ []) (length es)) ≡ fails e
last_at [] e = refl
last_at (x ∷ es) e = last_at es e

pub failed_last : (es fs : List Entry) (e : Entry) (place : ℕ) → fs ≡ es ++ e ∷ [] → place ≡ length es → is_failed_at (slice_get fs place) ≡ fails e
failed_last es fs e place is at = (λ i. is_failed_at (slice_get (is i) (at i))) ∙ last_at es e

module _ {V : Type 0} (G : Ghosts V) (n m : NodeState V) (e : Event) (r : Option Reply) (on : IsOn G n) (served : IsServed e) (up : n.kept.is_down ≡ false) (room : HasRoom n)
    (a : Answered (order_in n.kept e) (G.tells n.kept.vault) (state_of G n) n.journal m.journal e r (G.faults n.kept.vault) (G.faults m.kept.vault) (G.allowance m.kept.vault) m.kept.is_down)
    (opening : m.opening ≡ n.opening) (seat : IsSeated G n.kept m.kept) (turned : m.kept.is_down ≡ false → HasTurned (order_in n.kept e) n.kept m.kept e r) (kept : IsConsistent G m) where
  abbrev entry_made : Entry
  entry_made = record { event = e; reply = r; acts = a.acts }

  start_same : start_in G m ≡ start_in G n
  start_same = λ i. start_by G (seat.server i) (ap (λ (o : Opened V). o.vault.value) opening i)

  causes_free : G.allowance n.kept.vault ≡ Free → HaveCauses (G.faults n.kept.vault) (G.faults m.kept.vault) Free a.acts
  causes_free free = subst (λ (b : Allowance). HaveCauses (G.faults n.kept.vault) (G.faults m.kept.vault) b a.acts) (stays_free (G.allowance n.kept.vault) (G.allowance m.kept.vault) seat.spends free) a.causes

  -- ---- the device did not fail

  module _ (quiet : is_read_fault r ≡ false) (whole : list_any is_failure a.acts ≡ false) where
    not_stopped : m.kept.is_down ≡ true → G.allowance n.kept.vault ≡ Free → ⊥
    not_stopped down free = free_goes (G.faults n.kept.vault) (G.faults m.kept.vault) a.acts (sym a.down ∙ down) whole (causes_free free)

    done_now : IsTrue (G.tells n.kept.vault) → IsDone (state_of G n) entry_made
    done_now told =
        let (failed, answered, rose) = a.cause told in
        (whole, calm failed (state_of G n) entry_made (λ shows. (rose shows).1) quiet answered)

    kept_now : m.kept.is_down ≡ false → (client : ℕ) (w : Session) → session_at m.kept.sessions client ≡ Some w → IsKeptReply n.kept.epoch w
    kept_now goes =
        kept_all n.kept m.kept on.kept.ready.places n.kept.epoch (on.replies up) r refl (calm_reply r quiet)
        (change n.kept m.kept e r served kept.ready.clock (turned goes))

    replies_now : m.kept.is_down ≡ false → AreKept m.kept
    replies_now goes client w is = subst (λ (k : ℕ). IsKeptReply k w) (sym seat.epoch) (kept_now goes client w is)

    -- where it is not stopped its count of faults stays
    goes_counted : m.kept.is_down ≡ false → G.faults m.kept.vault ≡ G.faults n.kept.vault
    goes_counted goes =
        a.still (or_false (is_fault_now (order_in n.kept e) r) m.kept.is_down goes ∙ quiet_now (order_in n.kept e) r quiet)

    pub taken : HasStepped G n m e r
    taken = record {
      on = record {
        kept = kept;
        all = ap (λ (o : Opened V). G.servers o.vault.value) opening ∙ on.all ∙ sym seat.servers;
        replies = replies_now;
        answered = λ now. (
            let told : IsTrue (G.tells n.kept.vault) = subst IsTrue seat.same.telling now in
            along_more G n m entry_made start_same a.entry IsDone (on.answered told) (done_now told)
            );
      };
      up = up;
      room = room;
      server = seat.server;
      servers = seat.servers;
      opening = opening;
      start = start_same;
      epoch = seat.epoch;
      telling = seat.same.telling;
      free = λ free. stays_free (G.allowance n.kept.vault) (G.allowance m.kept.vault) seat.spends free;
      acts = a.acts;
      journal = a.entry;
      down = a.down;
      halts = not_stopped;
      counted = goes_counted;
      closes = a.halts;
      done = done_now;
      turned = turned;
      replies = a.replies;
    }

    -- nobody stops it, and so its count of faults stays
    still_counted : G.allowance n.kept.vault ≡ Free → (b : Bool) → m.kept.is_down ≡ b → G.faults m.kept.vault ≡ G.faults n.kept.vault
    still_counted free true down = absurd (not_stopped down free)
    still_counted free false goes = goes_counted goes

    pub taken_gone : {T : Type 0} (P : Type 0) (x : T) → HasGone {T = T} G P n.kept.vault m.kept.vault (Ok x)
    taken_gone P x = record {
      same = seat.same;
      later = a.later;
      failed = tt;
      told = λ e. tt;
      free = λ p free. stays_free (G.allowance n.kept.vault) (G.allowance m.kept.vault) seat.spends free;
      counted = λ p free. still_counted free m.kept.is_down refl;
    }

  -- ---- the device failed

  told_rose : (b : Bool) → m.kept.is_down ≡ b → is_read_fault r ≡ true → Rose (G.faults n.kept.vault) (G.faults m.kept.vault)
  told_rose true down shows = (let wrong : true ≡ false = sym shows ∙ ap is_read_fault (a.halts down) in cc)
  told_rose false goes shows = a.told (fault_now n.kept m.kept (on.replies up) (order_in n.kept e) e r (turned goes) shows)

  rose_by : (is_read_fault r ≡ true) ⊎ (list_any is_failure a.acts ≡ true) → Rose (G.faults n.kept.vault) (G.faults m.kept.vault)
  rose_by (inl shows) = told_rose m.kept.is_down refl shows
  rose_by (inr failed) = failed_rose (G.faults n.kept.vault) (G.faults m.kept.vault) (G.allowance m.kept.vault) a.acts failed a.causes

  pub failed_gone : {T : Type 0} (P : Type 0) (server : ℕ) → server ≡ n.kept.server → (is_read_fault r ≡ true) ⊎ (list_any is_failure a.acts ≡ true) → HasGone {T = T} G P n.kept.vault m.kept.vault (Err (fault.DiskFault server))
  failed_gone {T = T} P server is shows = record {
    same = seat.same;
    later = a.later;
    failed = (is ∙ sym on.kept.number, λ here. rose_by shows);
    told = λ e. tt;
    free = λ p free. stays_free (G.allowance n.kept.vault) (G.allowance m.kept.vault) seat.spends free;
    counted = λ p free. ((λ here. rose_by shows), (λ away. absurd (away (is ∙ sym on.kept.number))));
  }

  -- the entry shows it
  pub failed_left : (is_read_fault r ≡ true) ⊎ (list_any is_failure a.acts ≡ true) → HasFailedIn G n m e
  failed_left shows = record {
    up = up;
    room = room;
    server = seat.server;
    opening = opening;
    start = start_same;
    telling = seat.same.telling;
    entry = entry_made;
    event = refl;
    journal = a.entry;
    shows = shows;
    rose = rose_by shows;
  }

-- memory was wanting
pub wanting_left : {V : Type 0} (G : Ghosts V) (n m : NodeState V) → m.opening ≡ n.opening → IsSeated G n.kept m.kept → HasNoEntry G n m → ((a : Account) → IsAs a (G.held n.kept.vault) n.kept → IsAs a (G.held m.kept.vault) m.kept) → IsUntouched G n m
wanting_left G n m opening seat none kept = record {
  journal = none.journal;
  opening = opening;
  server = seat.server;
  epoch = seat.epoch;
  down = none.up;
  start = λ i. start_by G (seat.server i) (ap (λ (o : Opened _). o.vault.value) opening i);
  telling = seat.same.telling;
  held = none.vault.held;
  faults = none.vault.faults;
  allowance = none.vault.allowance;
  sessions = none.sessions;
  clock = none.clock;
  kept = kept;
}

-- nothing was done
pub untouched : {V : Type 0} (G : Ghosts V) (n : NodeState V) → IsUntouched G n n
untouched G n = record { journal = refl; opening = refl; server = refl; epoch = refl; down = refl; start = refl; telling = refl; held = refl; faults = refl; allowance = refl; sessions = refl; clock = refl; kept = λ a is. is }

pub wanting_gone : {V T : Type 0} (G : Ghosts V) (P : Type 0) (n m : NodeState V) → IsSeated G n.kept m.kept → HasNoEntry G n m → HasGone {T = T} G P n.kept.vault m.kept.vault (Err fault.OutOfMemory)
wanting_gone G P n m seat none = record {
  same = seat.same;
  later = (let same : G.faults m.kept.vault ≡ G.faults n.kept.vault = none.vault.faults in omega (arith, same));
  failed = tt;
  told = λ e. tt;
  free = λ p free. stays_free (G.allowance n.kept.vault) (G.allowance m.kept.vault) seat.spends free;
  counted = λ p free. none.vault.faults;
}
