-- restarts that find made what the server went down in
use Rattle.std.specs.Prelude.{cond, max, Bool, true, false, not, ◌&&◌, ◌||◌, ◌==◌, filter, Option, None, Some}
use Rattle.std.specs.List.{list_any}
use Rattle.std.specs.FinMap.Entries.{put}
use Rattle.std.proofs.lemmas.Bool.{le-leb}
use Rattle.std.proofs.lemmas.List.{append-nil}
use Rattle.std.proofs.Common.{◌≡◌, ℕ, ◌+◌, ◌<◌, ◌≤◌, List, [], ◌∷◌, ◌++◌, refl, sym, ◌∙◌, ap, subst, arith, le_refl}
use Rattle.alp_base.specs.declared.key.Resource.{Resource}
use Rattle.alp_base.specs.declared.ids.JoinNo.{JoinNo}
use Rattle.alp_base.specs.declared.ids.TransId.{TransId}
use Rattle.alp_base.specs.declared.ids.Stamp.{Stamp}
use Rattle.alp_files.specs.Edits.{Edit, edits_map}
use Rattle.alp_files.specs.History.{Decided}
use Rattle.alp_journal.specs.Along.{state_after}
use Rattle.alp_journal.specs.Ids.{same_trans, same_join, has_join, stamp_cmp}
use Rattle.alp_journal.specs.Deeds.{Deed, Finishes, Hears, Decides, Readies, Applies, Aborts, Acknowledges, Forgets, Restarts}
use Rattle.alp_journal.specs.Coordinator.{Fate, Vote, Committed, Forgotten, client_of, is_running}
use Rattle.alp_journal.specs.Coordinator as fate
use Rattle.alp_journal.specs.Participant.{Phase, Ready, Applied, Over, is_ready}
use Rattle.alp_journal.specs.Participant as phase
use Rattle.alp_journal.specs.Holder.{Holder, Life, is_part, holder_after, commits, emptied, if_ready, with_life, readies, lapsed, in_history}
use Rattle.alp_journal.specs.Counts.{kept_locks}
use Rattle.alp_journal.specs.State.{State, state_deed}
use Rattle.alp_journal.specs.Moves.{is_effective, resolved}
use Rattle.alp_journal.specs.Laws.{IsFound, IsHolding, is_standing, latest_vote}
use Rattle.alp_journal.specs.Answered.{is_all_done}
use Rattle.alp_journal.specs.Account.{Account, state_of, IsFateOf, IsPhaseOf, Stands, IsQuiet, IsTriedCommit, IsTriedDecision, IsTriedVote, IsTriedApplication, IsTriedEnd, IsTriedAbort, Leads}
use Rattle.alp_journal.specs.Restarts.{restart_entry, with_decided, restarted_with, with_vote_of, restarted_ready, with_applied, restarted_applied, with_forgotten, restarted_forgotten, with_aborted, restarted_aborted}
use Rattle.alp_journal.proofs.IdLemmas.{same_trans-true, same_trans-itself}
use Rattle.alp_journal.proofs.StandLemmas.{same_join-itself, moved_phase, known_running, running_of, own_pair, own_here}
use Rattle.alp_journal.proofs.MoveLemmas.{IsSpent, spent_over, spent_applied, stands_fated, stands_over, stands_gone, stands_voted}
use Rattle.alp_journal.proofs.RestartLemmas.{IsNoted, restarted_quiet, restart_so}

-- ---- what is left of a part that goes

gone_ready : (b : Bool) (l : Life) (x : Option Life) → if_ready (cond {A = Option Life} b (Some (emptied l)) x) ≡ if_ready (cond {A = Option Life} b None x)
gone_ready true l x = refl
gone_ready false l x = refl

gone_locks : (b : Bool) (l : Life) (x : Option Life) (rs : List Resource) → kept_locks (cond {A = Option Life} b (Some (emptied l)) x) rs ≡ kept_locks (cond {A = Option Life} b None x) rs
gone_locks true l x rs = refl
gone_locks false l x rs = refl

none_done : (stamp : Stamp) (joins : List JoinNo) → is_all_done (Committed stamp joins []) ≡ false
none_done stamp [] = refl
none_done stamp (j ∷ js) = refl

-- ---- a decision

module _ (a : Account) (ready : List JoinNo) (stamps : List Stamp) (q : IsQuiet a) (stamp : Stamp) (l : Life) (joins : List JoinNo) (live : a.holder.lives stamp.trans ≡ Some l) (part : l.join ≡ None) (notes : IsNoted (with_decided a stamp l joins) ready stamps)
    (late : a.holder.clock < stamp.ts) (d : Deed) (move : Fate → Fate)
    (is : state_deed (state_of a) d ≡ record (state_of a) { fates = λ u. cond {A = Fate} (same_trans stamp.trans u) (move (a.fates u)) (a.fates u); begun = a.begun ++ []; joined = a.joined ++ [] })
    (decides : fate.decided stamp joins (move (a.fates stamp.trans)) ≡ Committed stamp joins []) (made : resolved (state_of a) ready stamp.ts stamps ≡ d ∷ Decides stamp joins ∷ []) where
  abbrev its : TransId
  its = stamp.trans

  decided_stands : Stands (with_decided a stamp l joins)
  decided_stands =
      let s : Stands (record a { holder = (with_decided a stamp l joins).holder; fates = (with_decided a stamp l joins).fates }) =
      stands_over a q.settled.stands its (edits_map l.edits a.holder.cells) a.holder.clock a.holder.kept (put stamp_cmp stamp (record { stamp = stamp; who = l.who; calls = l.calls }) a.holder.applied) (put stamp_cmp stamp l.edits a.holder.left) q.settled.stands.order
      (own_here a q.settled.stands its l live part) (λ f. Committed stamp joins []) refl refl (none_done stamp joins)
      (known_running a.servers a.holder.server a.ids.epoch a.ids.transactions a.begun its (a.fates its) (running_of (a.fates its) l.client (own_pair a q.settled.stands its l live part).0) (q.settled.stands.fates its), refl) in
      s

  -- each fate is that of the decision, or as it was
  fate_then : (u : TransId) → cond {A = Fate} (same_trans its u) (fate.decided stamp joins (cond {A = Fate} (same_trans its u) (move (a.fates u)) (a.fates u))) (cond {A = Fate} (same_trans its u) (move (a.fates u)) (a.fates u)) ≡ (with_decided a stamp l joins).fates u
  fate_then u = go (same_trans its u) refl
    where
      go : (b : Bool) → same_trans its u ≡ b → cond {A = Fate} b (fate.decided stamp joins (cond {A = Fate} b (move (a.fates u)) (a.fates u))) (cond {A = Fate} b (move (a.fates u)) (a.fates u)) ≡ cond {A = Fate} b (Committed stamp joins []) (a.fates u)
      go true e = ap (λ (t : TransId). fate.decided stamp joins (move (a.fates t))) (sym (same_trans-true its u e)) ∙ decides
      go false e = refl

  late_is : max a.holder.clock stamp.ts ≡ stamp.ts
  late_is = omega (arith, late)

  -- the holder as the decision leaves it
  abbrev decided_holder : Option Life → Holder
  decided_holder x = commits a.holder stamp x

  early : l.is_early ≡ false
  early = (own_pair a q.settled.stands its l live part).2

  restarted_holder : holder_after (commits a.holder stamp (a.holder.lives its)) (Restarts (a.ids.epoch + 1) stamp.ts) ≡ (restarted_with a stamp l joins).holder
  restarted_holder =
      ap (λ (x : Option Life). holder_after (commits a.holder stamp x) (Restarts (a.ids.epoch + 1) stamp.ts)) live
      ∙ ap (λ (b : Bool). record (restarted_with a stamp l joins).holder {
        applied = cond {A = List (Stamp × Decided)} b a.holder.applied (put stamp_cmp stamp (record { stamp = stamp; who = l.who; calls = l.calls }) a.holder.applied);
        left = cond {A = List (Stamp × List Edit)} b a.holder.left (put stamp_cmp stamp l.edits a.holder.left);
        lives = λ t. if_ready (cond {A = Option Life} (same_trans t its) (Some (emptied l)) (a.holder.lives t));
      }) early
      ∙ (λ i. record (restarted_with a stamp l joins).holder { lives = λ t. gone_ready (same_trans t its) l (a.holder.lives t) i })

  pub decided_leads : Leads false a (restart_entry a stamp.ts ready stamps) (restarted_with a stamp l joins)
  decided_leads = restart_so a ready stamps stamp.ts (d ∷ Decides stamp joins ∷ []) (restarted_with a stamp l joins) made
      (subst (λ (s : State). IsFound (state_deed s (Decides stamp joins)) stamp.ts ready stamps) (sym is) (record {
        clock = sym late_is ∙ ap (λ (x : Option Life). (commits a.holder stamp x).kept) (sym live);
        once = notes.once;
        ready = notes.ready;
        decided = λ x. notes.decided x ∙ ap (is_standing x) (sym (fate_then x.trans));
      }))
      (ap (λ (s : State). record (state_after state_deed s (Decides stamp joins ∷ Restarts (a.ids.epoch + 1) stamp.ts ∷ [])) { is_down = false; pending = [] }) is
      ∙ (λ i. state_of (record (restarted_with a stamp l joins) {
        holder = restarted_holder i;
        fates = λ t. fate.restarted (a.ids.epoch + 1) (fate_then t i);
        locked = λ t. kept_locks ((commits a.holder stamp (live i)).lives t) (a.locked t);
        begun = (append-nil ((a.begun ++ []) ++ []) ∙ append-nil (a.begun ++ []) ∙ append-nil a.begun) i;
        joined = (append-nil ((a.joined ++ []) ++ []) ∙ append-nil (a.joined ++ []) ∙ append-nil a.joined) i;
      }))
      ∙ (λ i. state_of (record (restarted_with a stamp l joins) { locked = λ t. gone_locks (same_trans t its) l (a.holder.lives t) (a.locked t) i })))
      (restarted_quiet (with_decided a stamp l joins) stamp.ts decided_stands)

module _ (a : Account) (ready : List JoinNo) (stamps : List Stamp) (q : IsQuiet a) where
  -- two deeds of which both count
  both_count : (clock : ℕ) (d e : Deed) → a.pending ≡ d ∷ e ∷ [] → is_effective ready clock stamps d ≡ true → is_effective ready clock stamps e ≡ true → resolved (state_of a) ready clock stamps ≡ d ∷ e ∷ []
  both_count clock d e is first second = ap (filter (is_effective ready clock stamps)) is
      ∙ (λ i. cond {A = List Deed} (first i) (d ∷ cond {A = List Deed} (second i) (e ∷ []) []) (cond {A = List Deed} (second i) (e ∷ []) []))

  one_counts : (clock : ℕ) (d : Deed) → a.pending ≡ d ∷ [] → is_effective ready clock stamps d ≡ true → resolved (state_of a) ready clock stamps ≡ d ∷ []
  one_counts clock d is it = ap (filter (is_effective ready clock stamps)) is ∙ ap (λ (b : Bool). cond {A = List Deed} b (d ∷ []) []) it

  later_vote : (n : ℕ) (vs : List Vote) → n ≤ latest_vote n vs
  later_vote n [] = le_refl n
  later_vote n (v ∷ vs) = (let more : max n v.1 ≤ latest_vote (max n v.1) vs = later_vote (max n v.1) vs in omega (arith, more))

  -- the commit of a part without joins is found made
  pub commit_made_leads : (c : IsTriedCommit a) → IsNoted (with_decided a c.stamp c.life []) ready stamps → Leads false a (restart_entry a c.stamp.ts ready stamps) (restarted_with a c.stamp c.life [])
  commit_made_leads c notes = decided_leads a ready stamps q c.stamp c.life [] c.live c.own_part notes (let time : c.stamp.ts ≡ a.holder.clock + 1 = c.time in omega (arith, time)) (Finishes c.stamp.trans) fate.finishing refl
      (ap (λ (f : Fate). fate.decided c.stamp [] (fate.finishing f)) c.runs) (both_count c.stamp.ts (Finishes c.stamp.trans) (Decides c.stamp []) c.tried refl (le-leb c.stamp.ts c.stamp.ts (le_refl c.stamp.ts)))

  -- the decision of one that has all its votes is
  pub decision_made_leads : (c : IsTriedDecision a) → IsNoted (with_decided a c.stamp c.life c.joins) ready stamps → Leads false a (restart_entry a c.stamp.ts ready stamps) (restarted_with a c.stamp c.life c.joins)
  decision_made_leads c notes = decided_leads a ready stamps q c.stamp c.life c.joins c.live c.own_part notes
      (let time : c.stamp.ts ≡ latest_vote (a.holder.clock + 1) (fate.with_vote c.join c.ts c.votes) = c.time in let more : a.holder.clock + 1 ≤ latest_vote (a.holder.clock + 1) (fate.with_vote c.join c.ts c.votes) = later_vote (a.holder.clock + 1) (fate.with_vote c.join c.ts c.votes) in omega (arith, time, more))
      (Hears c.stamp.trans c.join c.ts) (fate.heard c.join c.ts) refl
      (ap (λ (f : Fate). fate.decided c.stamp c.joins (fate.heard c.join c.ts f)) c.finishing) (both_count c.stamp.ts (Hears c.stamp.trans c.join c.ts) (Decides c.stamp c.joins) c.tried refl (le-leb c.stamp.ts c.stamp.ts (le_refl c.stamp.ts)))

  -- ---- a vote

  pub vote_made_leads : (c : IsTriedVote a) (l : Life) → a.holder.lives c.trans ≡ Some l → IsNoted (with_vote_of a c.join c.trans (a.holder.clock + 1) l) ready stamps
      → Leads false a (restart_entry a a.holder.kept ready stamps) (restarted_ready a c.join c.trans (a.holder.clock + 1) l)
  vote_made_leads c l live notes =
      let ts : ℕ = a.holder.clock + 1 in
      let m : Account = with_vote_of a c.join c.trans ts l in
      let stood : Stands m = stands_voted a q.settled.stands c.join c.trans c.client c.who ts l c.active live in
      let found : has_join c.join ready ≡ true = notes.ready c.join ∙ ap is_ready (moved_phase a.phases c.join (phase.readied ts) ∙ ap (phase.readied ts) c.active) in
      restart_so a ready stamps a.holder.kept (Readies c.join c.trans ts ∷ []) (restarted_ready a c.join c.trans ts l) (one_counts a.holder.kept (Readies c.join c.trans ts) c.tried found)
      (record { clock = ap (λ (x : Option Life). (readies a.holder c.trans ts x).kept) (sym live); once = notes.once; ready = notes.ready; decided = notes.decided })
      (λ i. state_of (record (restarted_ready a c.join c.trans ts l) {
        holder = holder_after (readies a.holder c.trans ts (live i)) (Restarts (a.ids.epoch + 1) a.holder.kept);
        locked = λ t. kept_locks ((readies a.holder c.trans ts (live i)).lives t) (a.locked t);
        begun = (append-nil (a.begun ++ []) ∙ append-nil a.begun) i;
        joined = (append-nil (a.joined ++ []) ∙ append-nil a.joined) i;
      }))
      (restarted_quiet m a.holder.kept stood)

  -- ---- a part that is applied

  pub application_made_leads : (c : IsTriedApplication a) (l : Life) → a.holder.lives c.stamp.trans ≡ Some l → IsNoted (with_applied a c.join c.stamp l) ready stamps
      → Leads false a (restart_entry a (max a.holder.clock c.stamp.ts) ready stamps) (restarted_applied a c.join c.stamp l)
  application_made_leads c l live notes =
      let t : TransId = c.stamp.trans in
      let clock : ℕ = max a.holder.clock c.stamp.ts in
      let m : Account = with_applied a c.join c.stamp l in
      let now : phase.applied c.stamp (a.phases c.join) ≡ Applied t c.stamp = ap (phase.applied c.stamp) c.ready ∙ ap (λ (b : Bool). cond {A = Phase} b (Applied t c.stamp) (Ready t c.client c.ts)) (same_trans-itself t) in
      let known : IsPhaseOf a.servers a.holder.server a.ids.epoch a.ids.joins a.joined c.join (Ready t c.client c.ts) = subst (IsPhaseOf a.servers a.holder.server a.ids.epoch a.ids.joins a.joined c.join) c.ready (q.settled.stands.phases c.join) in
      let stood : Stands m = stands_gone a q.settled.stands t (edits_map l.edits a.holder.cells) a.holder.clock a.holder.kept (in_history c.stamp l a.holder.applied)
      (cond {A = List (Stamp × List Edit)} l.is_early a.holder.left (put stamp_cmp c.stamp l.edits a.holder.left)) q.settled.stands.order c.join (subst (IsHolding t) (sym c.ready) refl) (phase.applied c.stamp)
      (subst IsSpent (sym now) (spent_applied t c.stamp)) (subst (IsPhaseOf a.servers a.holder.server a.ids.epoch a.ids.joins a.joined c.join) (sym now) known.0) in
      let gone : has_join c.join ready ≡ false = notes.ready c.join ∙ ap is_ready (moved_phase a.phases c.join (phase.applied c.stamp) ∙ now) in
      restart_so a ready stamps clock (Applies c.join c.stamp ∷ []) (restarted_applied a c.join c.stamp l) (one_counts clock (Applies c.join c.stamp) c.tried (ap not gone))
      (record { clock = ap (λ (x : Option Life). (commits a.holder c.stamp x).kept) (sym live); once = notes.once; ready = notes.ready; decided = notes.decided })
      ((λ i. state_of (record (restarted_applied a c.join c.stamp l) {
        holder = holder_after (commits a.holder c.stamp (live i)) (Restarts (a.ids.epoch + 1) clock);
        locked = λ u. kept_locks ((commits a.holder c.stamp (live i)).lives u) (a.locked u);
        begun = (append-nil (a.begun ++ []) ∙ append-nil a.begun) i;
        joined = (append-nil (a.joined ++ []) ∙ append-nil a.joined) i;
      }))
      ∙ (λ i. state_of (record (restarted_applied a c.join c.stamp l) {
        holder = record (restarted_applied a c.join c.stamp l).holder { lives = λ u. gone_ready (same_trans u t) l (a.holder.lives u) i };
        locked = λ u. gone_locks (same_trans u t) l (a.holder.lives u) (a.locked u) i;
      })))
      (restarted_quiet m clock stood)

  -- ---- a decision that is forgotten

  pub end_made_leads : (c : IsTriedEnd a) → IsNoted (with_forgotten a c.trans c.stamp c.joins) ready stamps → list_any (λ (x : Stamp). same_trans x.trans c.trans) stamps ≡ false
      → Leads false a (restart_entry a a.holder.kept ready stamps) (restarted_forgotten a c.trans c.stamp c.joins)
  end_made_leads c notes gone =
      let m : Account = with_forgotten a c.trans c.stamp c.joins in
      let known : IsFateOf a.servers a.holder.server a.ids.epoch a.ids.transactions a.begun c.trans (Committed c.stamp c.joins c.done) = subst (IsFateOf a.servers a.holder.server a.ids.epoch a.ids.transactions a.begun c.trans) c.committed (q.settled.stands.fates c.trans) in
      let stood : Stands m = stands_fated a q.settled.stands c.trans (λ f. Forgotten c.stamp c.joins) (sym (ap client_of c.committed)) (sym (ap is_running c.committed)) refl refl known in
      restart_so a ready stamps a.holder.kept (Acknowledges c.trans c.join ∷ Forgets c.trans ∷ []) (restarted_forgotten a c.trans c.stamp c.joins)
      (both_count a.holder.kept (Acknowledges c.trans c.join) (Forgets c.trans) c.tried refl (ap not gone))
      (record { clock = refl; once = notes.once; ready = notes.ready; decided = λ x. notes.decided x ∙ ap (is_standing x) (sym (forgotten_then c x.trans)) })
      (λ i. state_of (record (restarted_forgotten a c.trans c.stamp c.joins) {
        fates = λ t. fate.restarted (a.ids.epoch + 1) (forgotten_then c t i);
        begun = (append-nil ((a.begun ++ []) ++ []) ∙ append-nil (a.begun ++ []) ∙ append-nil a.begun) i;
        joined = (append-nil ((a.joined ++ []) ++ []) ∙ append-nil (a.joined ++ []) ∙ append-nil a.joined) i;
      }))
      (restarted_quiet m a.holder.kept stood)
    where
      forgotten_then : (c : IsTriedEnd a) (u : TransId) → cond {A = Fate} (same_trans c.trans u) (fate.forgotten (cond {A = Fate} (same_trans c.trans u) (fate.acknowledged c.join (a.fates u)) (a.fates u))) (cond {A = Fate} (same_trans c.trans u) (fate.acknowledged c.join (a.fates u)) (a.fates u))
          ≡ cond {A = Fate} (same_trans c.trans u) (Forgotten c.stamp c.joins) (a.fates u)
      forgotten_then c u = go (same_trans c.trans u) refl
        where
          go : (b : Bool) → same_trans c.trans u ≡ b → cond {A = Fate} b (fate.forgotten (cond {A = Fate} b (fate.acknowledged c.join (a.fates u)) (a.fates u))) (cond {A = Fate} b (fate.acknowledged c.join (a.fates u)) (a.fates u)) ≡ cond {A = Fate} b (Forgotten c.stamp c.joins) (a.fates u)
          go true e = ap (λ (t : TransId). fate.forgotten (fate.acknowledged c.join (a.fates t))) (sym (same_trans-true c.trans u e)) ∙ ap (λ (f : Fate). fate.forgotten (fate.acknowledged c.join f)) c.committed
              ∙ ap (λ (b : Bool). cond {A = Fate} b (Forgotten c.stamp c.joins) (Committed c.stamp c.joins (c.join ∷ c.done))) c.all
          go false e = refl

  -- ---- a join that is over by its coordinator's word

  pub abort_made_leads : (c : IsTriedAbort a) (l : Life) → a.holder.lives c.trans ≡ Some l → l.join ≡ Some c.join → IsNoted (with_aborted a c.join c.trans) ready stamps
      → Leads false a (restart_entry a a.holder.kept ready stamps) (restarted_aborted a c.join c.trans)
  abort_made_leads c l live mine notes =
      let t : TransId = c.trans in
      let m : Account = with_aborted a c.join t in
      let now : phase.aborted t (a.phases c.join) ≡ Over = ap (phase.aborted t) c.ready ∙ ap (λ (b : Bool). cond {A = Phase} b Over (Ready t c.client c.ts)) (same_trans-itself t) in
      let known : IsPhaseOf a.servers a.holder.server a.ids.epoch a.ids.joins a.joined c.join (Ready t c.client c.ts) = subst (IsPhaseOf a.servers a.holder.server a.ids.epoch a.ids.joins a.joined c.join) c.ready (q.settled.stands.phases c.join) in
      let stood : Stands m = stands_gone a q.settled.stands t a.holder.cells a.holder.clock a.holder.kept a.holder.applied a.holder.left q.settled.stands.order c.join (subst (IsHolding t) (sym c.ready) refl) (phase.aborted t)
      (subst IsSpent (sym now) spent_over) (subst (IsPhaseOf a.servers a.holder.server a.ids.epoch a.ids.joins a.joined c.join) (sym now) known.0) in
      let gone : has_join c.join ready ≡ false = notes.ready c.join ∙ ap is_ready (moved_phase a.phases c.join (phase.aborted t) ∙ now) in
      restart_so a ready stamps a.holder.kept (Aborts c.join t c.client c.cause ∷ []) (restarted_aborted a c.join t) (one_counts a.holder.kept (Aborts c.join t c.client c.cause) c.tried (ap not gone))
      (record { clock = refl; once = notes.once; ready = notes.ready; decided = notes.decided })
      (λ i. state_of (record (restarted_aborted a c.join t) {
        holder = record (restarted_aborted a c.join t).holder { lives = λ u. lapsed_ready u (same_trans u t) refl i };
        locked = λ u. lapsed_locks u (same_trans u t) refl i;
        begun = (append-nil (a.begun ++ []) ∙ append-nil a.begun) i;
        joined = (append-nil (a.joined ++ []) ∙ append-nil a.joined) i;
      }))
      (restarted_quiet m a.holder.kept stood)
    where
      lapsed_is : lapsed c.join (a.holder.lives c.trans) ≡ Some (emptied l)
      lapsed_is = ap (lapsed c.join) live ∙ ap (λ (x : Option JoinNo). Some (cond {A = Life} (is_part c.join x) (emptied l) l)) mine ∙ ap (λ (b : Bool). Some (cond {A = Life} b (emptied l) l)) (same_join-itself c.join)

      lapsed_ready : (u : TransId) (b : Bool) → same_trans u c.trans ≡ b → if_ready (cond {A = Option Life} b (lapsed c.join (a.holder.lives u)) (a.holder.lives u)) ≡ if_ready (cond {A = Option Life} b None (a.holder.lives u))
      lapsed_ready u false e = refl
      lapsed_ready u true e = ap (λ (t : TransId). if_ready (lapsed c.join (a.holder.lives t))) (same_trans-true u c.trans e) ∙ ap if_ready lapsed_is

      lapsed_locks : (u : TransId) (b : Bool) → same_trans u c.trans ≡ b → kept_locks (cond {A = Option Life} b (lapsed c.join (a.holder.lives u)) (a.holder.lives u)) (a.locked u) ≡ kept_locks (cond {A = Option Life} b None (a.holder.lives u)) (a.locked u)
      lapsed_locks u false e = refl
      lapsed_locks u true e = ap (λ (t : TransId). kept_locks (lapsed c.join (a.holder.lives t)) (a.locked u)) (same_trans-true u c.trans e) ∙ ap (λ (x : Option Life). kept_locks x (a.locked u)) lapsed_is

-- ---- what the vault holds with all that was tried

pub none_then : (a : Account) → a.pending ≡ [] → state_after holder_after a.holder a.pending ≡ a.holder
none_then a none = ap (state_after holder_after a.holder) none

pub made_then : (a : Account) (c : IsTriedCommit a) → state_after holder_after a.holder a.pending ≡ commits a.holder c.stamp (Some c.life)
made_then a c = ap (state_after holder_after a.holder) c.tried ∙ ap (commits a.holder c.stamp) c.live

-- the cells and the clock are those that a restart leaves which finds it made
pub cells_then : (a : Account) (c : IsTriedCommit a) → (state_after holder_after a.holder a.pending).cells ≡ (restarted_with a c.stamp c.life []).holder.cells
cells_then a c = ap (λ (h : Holder). h.cells) (made_then a c)

pub kept_then : (a : Account) (c : IsTriedCommit a) → (state_after holder_after a.holder a.pending).kept ≡ (restarted_with a c.stamp c.life []).holder.kept
kept_then a c = ap (λ (h : Holder). h.kept) (made_then a c) ∙ (let time : c.stamp.ts ≡ a.holder.clock + 1 = c.time in let late : max a.holder.clock c.stamp.ts ≡ c.stamp.ts = omega (arith, time) in late)

-- and of the other writes
pub decision_then : (a : Account) (c : IsTriedDecision a) → state_after holder_after a.holder a.pending ≡ commits a.holder c.stamp (Some c.life)
decision_then a c = ap (state_after holder_after a.holder) c.tried ∙ ap (commits a.holder c.stamp) c.live

pub vote_then : (a : Account) (c : IsTriedVote a) (l : Life) → a.holder.lives c.trans ≡ Some l → state_after holder_after a.holder a.pending ≡ with_life a.holder c.trans (Some (record l { vote = Some (a.holder.clock + 1) }))
vote_then a c l live = ap (state_after holder_after a.holder) c.tried ∙ ap (readies a.holder c.trans (a.holder.clock + 1)) live

pub application_then : (a : Account) (c : IsTriedApplication a) (l : Life) → a.holder.lives c.stamp.trans ≡ Some l → state_after holder_after a.holder a.pending ≡ commits a.holder c.stamp (Some l)
application_then a c l live = ap (state_after holder_after a.holder) c.tried ∙ ap (commits a.holder c.stamp) live

pub end_then : (a : Account) (c : IsTriedEnd a) → state_after holder_after a.holder a.pending ≡ a.holder
end_then a c = ap (state_after holder_after a.holder) c.tried
