-- a server that starts again, one whose disk a line stops, and one that nobody stops any more
use Rattle.std.specs.Prelude.{true, false, Bool, cond, IsTrue, None, Some, Ok, Err}
use Rattle.std.proofs.Common.{inl, inr, ◌≡◌, ℕ, ◌+◌, ◌≤◌, List, [], ◌∷◌, ◌++◌, length, length-append, append-nil, refl, sym, ◌∙◌, ap, subst, arith}
use Rattle.alp_base.specs.Causes.{Rose}
use Rattle.alp_base.specs.Faults.{IsOfVolume}
use Rattle.alp_base.specs.declared.allowance.Allowance.TheVariants.{Free, Spent}
use Rattle.alp_base.specs.declared.faults.VaultFault.{VaultFault}
use Rattle.alp_base.specs.declared.faults.VaultFault.TheVariants as vault_fault
use Rattle.alp_journal.specs.Along.{Along}
use Rattle.alp_journal.specs.Answered.{IsAnsweredSo}
use Rattle.alp_journal.specs.Moves.{next}
use Rattle.alp_journal.specs.State.{opened}
use Rattle.alp_journal.specs.declared.entry.Entry.{Entry}
use Rattle.alp_vault.specs.Vault.{IsSameVault}
use Rattle.alp_vault.specs.declared.vault.Vault.{Ghosts}
use Rattle.alp_node.specs.DownStates.{DownState}
use Rattle.alp_node.specs.Downs.{HasFallen, HasRestarted, HasRaiseCause, entry_again}
use Rattle.alp_node.specs.Nodes as node
use Rattle.alp_node.specs.Nodes.{IsConsistent, start_in, start_by}
use Rattle.alp_node.specs.NodeStates.{NodeState}
use Rattle.alp_node.specs.Sessions.{session_at}
use Rattle.alp_node.specs.declared.opened.Opened.{Opened}
use Rattle.alp_node.specs.declared.sessions.Sessions.{Sessions}
use Rattle.alp_node.specs.declared.start.StartFault.{StartFault}
use Rattle.alp_node.specs.declared.start.StartFault.TheVariants as start_fault
use Rattle.alp_node.proofs.StartLemmas.{no_session}
use Rattle.alp_cluster.specs.Come.{Come, IsReached}
use Rattle.alp_cluster.specs.Goes.{IsLater, GoesBy}
use Rattle.alp_course.specs.Happens.{Happening, restarted, stop_set, lifts, Happens}
use Rattle.alp_cluster.specs.Servers.{IsOn, IsFree, IsDone, AreCalm, AreKept, stand_of, state_of, HasGone, AreCounted, HasStopSet, IsLifted, StartsAgain, StaysDown, IsFailureAt, IsOfVolumeAt, AreCountedFor}
use Rattle.alp_cluster.specs.declared.fault.RunFault.TheVariants as fault
use Rattle.alp_cluster.proofs.CalmLemmas.{calm_restart}
use Rattle.alp_cluster.proofs.GoLemmas.{later_same, calm_parts}
use Rattle.alp_cluster.proofs.StepLemmas.{state_more, law_more, along_more}

-- ---- it starts again

module _ {V : Type 0} (G : Ghosts V) (pick : ℕ) (n m : NodeState V) (d : DownState V) (on : IsOn G n) (falls : HasFallen G pick n d) (starts : HasRestarted G d m) (kept : IsConsistent G m) where
  again_server : m.kept.server ≡ n.kept.server
  again_server = starts.server ∙ falls.server

  again_count : m.kept.servers ≡ n.kept.servers
  again_count = starts.servers ∙ falls.servers

  again_opening : m.opening ≡ n.opening
  again_opening = starts.opening ∙ falls.opening

  again_start : start_in G m ≡ start_in G n
  again_start = λ i. start_by G (again_server i) (ap (λ (o : Opened V). o.vault.value) again_opening i)

  again_telling : G.tells m.kept.vault ≡ G.tells n.kept.vault
  again_telling = starts.same.telling ∙ falls.same.telling

  again_epoch : m.kept.epoch ≡ n.kept.epoch + 1
  again_epoch = starts.epoch ∙ ap (λ (k : ℕ). k + 1) falls.epoch

  abbrev again_entry : Entry
  again_entry = entry_again (record { epoch = m.kept.epoch; clock = m.kept.clock }) starts.joins starts.stamps

  again_journal : m.journal ≡ n.journal ++ again_entry ∷ []
  again_journal = starts.journal ∙ ap (λ (es : List Entry). es ++ again_entry ∷ []) falls.journal

  again_done : IsTrue (G.tells m.kept.vault) → IsDone (state_of G n) again_entry
  again_done told =
      let right : node.IsRight (start_in G m) (G.held m.kept.vault) m = kept.right told in
      let law : IsAnsweredSo (state_of G n) again_entry = law_more G n m again_entry again_start again_journal IsAnsweredSo right.caused.0 in
      (refl, calm_restart law.0 (state_of G n) m.kept.epoch m.kept.clock starts.joins starts.stamps law.1)

  -- nobody has a session
  again_kept : AreKept m.kept
  again_kept client w is = (let wrong : None ≡ Some w = sym (no_session client) ∙ ap (λ (s : Sessions). session_at s client) (sym starts.nobody.sessions) ∙ is in cc)

  again_on : IsOn G m
  again_on = record {
    kept = kept;
    all = ap (λ (o : Opened V). G.servers o.vault.value) again_opening ∙ on.all ∙ sym again_count;
    replies = λ up. again_kept;
    answered = λ told. along_more G n m again_entry again_start again_journal IsDone (on.answered (subst IsTrue again_telling told)) (again_done told);
  }

  pub starts_again : StartsAgain G pick n m
  starts_again = record { on = again_on; fallen = d; falls = falls; starts = starts; opening = again_opening; start = again_start }

module _ {V : Type 0} (G : Ghosts V) (pick : ℕ) (n m : NodeState V) (again : StartsAgain G pick n m) where
  next_epoch : m.kept.epoch ≡ n.kept.epoch + 1
  next_epoch = again.starts.epoch ∙ ap (λ (k : ℕ). k + 1) again.falls.epoch

  -- what it had come to is of an older epoch now
  still_reached : (k : ℕ) (a : Come) → IsReached n.kept k a → IsReached m.kept k a
  still_reached k a (inl before) = inl (omega (arith, before, next_epoch))
  still_reached k a (inr now) = (let same : a.epoch ≡ n.kept.epoch = now.0 in inl (omega (arith, same, next_epoch)))

  abbrev entry_then : Entry
  entry_then = entry_again (record { epoch = m.kept.epoch; clock = m.kept.clock }) again.starts.joins again.starts.stamps

  journal_then : m.journal ≡ n.journal ++ entry_then ∷ []
  journal_then = again.starts.journal ∙ ap (λ (es : List Entry). es ++ entry_then ∷ []) again.falls.journal

  pub again_later : IsLater G n m
  again_later = record {
    on = again.on;
    number = again.starts.server ∙ again.falls.server;
    count = again.starts.servers ∙ again.falls.servers;
    opening = again.opening;
    start = again.start;
    telling = again.starts.same.telling ∙ again.falls.same.telling;
    reached = still_reached;
    calm = λ calm. ((calm_parts n.journal (entry_then ∷ []) (subst AreCalm journal_then calm)).0, again.starts.faults ∙ again.falls.faults);
  }

  pub again_goes : (f tells : Bool) → GoesBy G f false (λ w es v. Happens tells w (restarted pick) es v) n m
  again_goes f tells = record {
    later = again_later;
    free = λ e. again.starts.allowance;
    entries = entry_then ∷ [];
    journal = journal_then;
    made = record {
      entry = entry_then;
      clock = m.kept.clock;
      parts = again.starts.joins;
      stamps = again.starts.stamps;
      one = refl;
      is = ap (λ (k : ℕ). entry_again (record { epoch = k; clock = m.kept.clock }) again.starts.joins again.starts.stamps) next_epoch;
      behind = λ i. record {
        server = again_later.number i;
        epoch = next_epoch i;
        is_down = again.starts.nobody.up i;
        is_fused = false;
        place = (ap (λ (js : List Entry). length js) journal_then ∙ length-append n.journal (entry_then ∷ [])) i;
        state = state_more G n m entry_then again.start journal_then i;
      };
    };
  }

  pub again_up : m.kept.is_down ≡ false
  again_up = again.starts.nobody.up

  pub again_gone : {T : Type 0} (P : Type 0) (x : T) → HasGone {T = T} G P n.kept.vault m.kept.vault (Ok x)
  again_gone P x =
      let counted : G.faults m.kept.vault ≡ G.faults n.kept.vault = again.starts.faults ∙ again.falls.faults in
      record {
        same = record {
          telling = again.starts.same.telling ∙ again.falls.same.telling;
          sizes = again.starts.same.sizes ∙ again.falls.same.sizes;
          number = again.starts.same.number ∙ again.falls.same.number;
          of_all = again.starts.same.of_all ∙ again.falls.same.of_all;
        };
        later = omega (arith, counted);
        failed = tt;
        told = λ e. tt;
        free = λ p e. again.starts.allowance;
        counted = λ p e. counted;
      }

-- ---- it does not start again

module _ {V : Type 0} (G : Ghosts V) (pick : ℕ) (n : NodeState V) (on : IsOn G n) (e : DownState V) where
  counted_for : (f : VaultFault) (d : DownState V) → G.faults d.vault ≡ G.faults n.kept.vault → HasRaiseCause G d.epoch d.vault e.vault (start_fault.Vault f) → AreCountedFor f (G.faults n.kept.vault) (G.faults e.vault)
  counted_for vault_fault.Failed d same cause = subst (λ (k : ℕ). Rose k (G.faults e.vault)) same (cause.0.failed refl)
  counted_for vault_fault.OutOfMemory d same cause = cause.3 refl ∙ same
  counted_for vault_fault.Stopped d same cause = tt
  counted_for (vault_fault.NotAVolume found) d same cause = tt
  counted_for (vault_fault.Damaged place) d same cause = tt

  failed_for : (f : VaultFault) → (h : StaysDown G pick n e (start_fault.Vault f)) → IsFailureAt (start_fault.Vault f) (G.faults n.kept.vault) (G.faults e.vault)
  failed_for vault_fault.Failed h = subst (λ (k : ℕ). Rose k (G.faults e.vault)) h.falls.faults (h.stays.cause.0.failed refl)
  failed_for vault_fault.Stopped h = (let wrong : Free ≡ Spent = sym h.free ∙ h.stays.cause.0.stopped refl in cc)
  failed_for vault_fault.OutOfMemory h = tt
  failed_for (vault_fault.NotAVolume found) h = tt
  failed_for (vault_fault.Damaged place) h = tt

  -- it tells what it holds
  of_volume : (f : VaultFault) → IsOfVolume f → IsOfVolumeAt (start_fault.Vault f)
  of_volume vault_fault.Failed h = tt
  of_volume vault_fault.Stopped h = tt
  of_volume vault_fault.OutOfMemory h = tt
  of_volume (vault_fault.NotAVolume found) h = absurd h
  of_volume (vault_fault.Damaged place) h = absurd h

  fallen_told : (f : StartFault) → (h : StaysDown G pick n e f) → IsTrue (G.tells n.kept.vault) → IsTrue (G.tells h.fallen.vault)
  fallen_told f h told = subst IsTrue (sym h.falls.same.telling) told

  all_same : (f : StartFault) → StaysDown G pick n e f → IsSameVault G.tells G.volume G.server G.servers n.kept.vault e.vault
  all_same f h = record { telling = h.stays.same.telling ∙ h.falls.same.telling; sizes = h.stays.same.sizes ∙ h.falls.same.sizes; number = h.stays.same.number ∙ h.falls.same.number; of_all = h.stays.same.of_all ∙ h.falls.same.of_all }

  -- the server fell, and this is the fault
  pub stays_gone : {T : Type 0} (P : Type 0) (f : StartFault) → StaysDown G pick n e f → HasGone {T = T} G P n.kept.vault e.vault (Err (fault.Start n.kept.server f))
  stays_gone P (start_fault.Vault f) h =
      let up : G.faults h.fallen.vault ≤ G.faults e.vault = h.stays.cause.2 in
      let still : G.faults h.fallen.vault ≡ G.faults n.kept.vault = h.falls.faults in
      record {
        same = all_same (start_fault.Vault f) h;
        later = omega (arith, still, up);
        failed = (sym on.kept.number, λ here. failed_for f h);
        told = λ tells here. of_volume f (h.stays.cause.1 (fallen_told (start_fault.Vault f) h tells));
        free = λ p k. h.free;
        counted = λ p k. ((λ here. counted_for f h.fallen h.falls.faults h.stays.cause), (λ away. absurd (away (sym on.kept.number))));
      }
  stays_gone P start_fault.BadNote h =
      let counted : G.faults e.vault ≡ G.faults n.kept.vault = h.stays.cause.0 ∙ h.falls.faults in
      record {
        same = all_same start_fault.BadNote h;
        later = omega (arith, counted);
        failed = (sym on.kept.number, λ here. tt);
        told = λ tells here. h.stays.sound (fallen_told start_fault.BadNote h tells) refl;
        free = λ p k. h.free;
        counted = λ p k. ((λ here. counted), (λ away. counted));
      }
  stays_gone P start_fault.EpochEnd h =
      let counted : G.faults e.vault ≡ G.faults n.kept.vault = ap G.faults h.stays.cause.1 ∙ h.falls.faults in
      record {
        same = all_same start_fault.EpochEnd h;
        later = omega (arith, counted);
        failed = (sym on.kept.number, λ here. tt);
        told = λ tells here. tt;
        free = λ p k. h.free;
        counted = λ p k. ((λ here. counted), (λ away. counted));
      }

-- ---- another vault, and all else as it was

module _ {V : Type 0} (G : Ghosts V) (n m : NodeState V) (on : IsOn G n) (kept : IsConsistent G m) (same : IsSameVault G.tells G.volume G.server G.servers n.kept.vault m.kept.vault) (rest : m ≡ record n { kept = record n.kept { vault = m.kept.vault } }) (faults : G.faults m.kept.vault ≡ G.faults n.kept.vault) where
  same_start : start_in G m ≡ start_in G n
  same_start = ap (start_in G) rest

  same_journal : m.journal ≡ n.journal
  same_journal = ap (λ (z : NodeState V). z.journal) rest

  same_state : state_of G m ≡ state_of G n
  same_state = λ i. node.state_of (same_start i) (same_journal i)

  pub put_on : IsOn G m
  put_on = record {
    kept = kept;
    all = ap (λ (z : NodeState V). G.servers z.opening.vault.value) rest ∙ on.all ∙ sym (ap (λ (z : NodeState V). z.kept.servers) rest);
    replies = λ up. subst (λ (z : NodeState V). AreKept z.kept) (sym rest) (on.replies (sym (ap (λ (z : NodeState V). z.kept.is_down) rest) ∙ up));
    answered = λ told. subst (λ (z : NodeState V). Along next IsDone (opened (start_in G z)) z.journal) (sym rest) (on.answered (subst IsTrue same.telling told));
  }

  put_later : IsLater G n m
  put_later = record {
    on = put_on;
    number = ap (λ (z : NodeState V). z.kept.server) rest;
    count = ap (λ (z : NodeState V). z.kept.servers) rest;
    opening = ap (λ (z : NodeState V). z.opening) rest;
    start = same_start;
    telling = same.telling;
    reached = λ k a h. subst (λ (z : NodeState V). IsReached z.kept k a) (sym rest) h;
    calm = λ calm. (subst AreCalm same_journal calm, faults);
  }

  put_journal : m.journal ≡ n.journal ++ []
  put_journal = same_journal ∙ sym (append-nil n.journal)

  -- where the run stands then
  pub put_stand : (f g : Bool) → stand_of G g m ≡ record (stand_of G f n) { is_fused = g }
  put_stand f g = λ i. record {
    server = ap (λ (z : NodeState V). z.kept.server) rest i;
    epoch = ap (λ (z : NodeState V). z.kept.epoch) rest i;
    is_down = ap (λ (z : NodeState V). z.kept.is_down) rest i;
    is_fused = g;
    place = ap (λ (z : NodeState V). length z.journal) rest i;
    state = same_state i;
  }

  pub put_goes : (f g tells : Bool) (h : Happening) → IsFree G g m → Happens tells (stand_of G f n) h [] (stand_of G g m) → GoesBy G f g (λ w es v. Happens tells w h es v) n m
  put_goes f g tells h free is = record { later = put_later; free = free; entries = []; journal = put_journal; made = is }

-- ---- nobody stops it any more

module _ {V : Type 0} (G : Ghosts V) (n m : NodeState V) (on : IsOn G n) (lifted : IsLifted G n m) where
  pub lifted_on : IsOn G m
  lifted_on = put_on G n m on lifted.kept lifted.same lifted.rest lifted.faults

  pub lifted_goes : (f tells : Bool) → GoesBy G f false (λ w es v. Happens tells w (lifts n.kept.is_down) es v) n m
  lifted_goes f tells = put_goes G n m on lifted.kept lifted.same lifted.rest lifted.faults f false tells (lifts n.kept.is_down) (λ e. lifted.free) (refl, refl, put_stand G n m on lifted.kept lifted.same lifted.rest lifted.faults f false)

  pub lifted_down : m.kept.is_down ≡ n.kept.is_down
  lifted_down = ap (λ (z : NodeState V). z.kept.is_down) lifted.rest

  pub lifted_gone : {T : Type 0} (P : Type 0) (x : T) → HasGone {T = T} G P n.kept.vault m.kept.vault (Ok x)
  lifted_gone P x = record { same = lifted.same; later = (let counted : G.faults m.kept.vault ≡ G.faults n.kept.vault = lifted.faults in omega (arith, counted)); failed = tt; told = λ e. tt; free = λ p e. lifted.free; counted = λ p e. lifted.faults }

-- ---- a line stops it

module _ {V : Type 0} (G : Ghosts V) (calls : ℕ) (n m : NodeState V) (on : IsOn G n) (set : HasStopSet G calls n m) where
  -- it may be stopped from then on, where it is up
  free_then : (f b : Bool) → n.kept.is_down ≡ b → IsFree G f n → IsFree G (cond b f true) m
  free_then f true down free = λ is. subst (λ (z : NodeState V). G.allowance z.kept.vault ≡ Free) (sym (set.down down)) (free is)
  free_then f false up free = λ is. cc

  pub stop_goes : (f tells : Bool) → IsFree G f n → GoesBy G f (cond n.kept.is_down f true) (λ w es v. Happens tells w (stop_set calls) es v) n m
  stop_goes f tells free = put_goes G n m on set.kept set.same set.rest set.faults f (cond n.kept.is_down f true) tells (stop_set calls) (free_then f n.kept.is_down refl free) (refl, put_stand G n m on set.kept set.same set.rest set.faults f (cond n.kept.is_down f true))

  -- of the count of faults nothing is said then, where it may be stopped
  pub stop_gone : {T : Type 0} (P : Type 0) (x : T) → (P → ⊥) → HasGone {T = T} G P n.kept.vault m.kept.vault (Ok x)
  stop_gone P x none = record { same = set.same; later = (let counted : G.faults m.kept.vault ≡ G.faults n.kept.vault = set.faults in omega (arith, counted)); failed = tt; told = λ e. tt; free = λ p e. absurd (none p); counted = λ p e. absurd (none p) }
