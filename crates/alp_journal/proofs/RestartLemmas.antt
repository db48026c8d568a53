-- restarts: what is found tells whether what the server went down in is made, and what voted outlives it
use Rattle.std.specs.Prelude.{cond, max, Bool, true, false, not, ◌&&◌, ◌||◌, ◌==◌, filter, is_some, nat_le, Option, None, Some}
use Rattle.std.specs.List.{list_any}
use Rattle.std.proofs.lemmas.Bool.{lt-leb, and_parts, and_from, or_left, or_right}
use Rattle.std.proofs.lemmas.List.{append-nil}
use Rattle.std.proofs.lemmas.List.Sorted.{IsPermutation-refl}
use Rattle.std.proofs.Common.{inl, inr, ◌≡◌, ℕ, ◌+◌, ◌<◌, ◌≤◌, List, [], ◌∷◌, ◌++◌, refl, sym, ◌∙◌, ap, subst, eq-eqb, arith, le_refl}
use Rattle.alp_base.specs.declared.ids.JoinNo.{JoinNo}
use Rattle.alp_base.specs.declared.ids.TransId.{TransId}
use Rattle.alp_base.specs.declared.ids.Stamp.{Stamp}
use Rattle.alp_journal.specs.declared.entry.Entry.{Entry}
use Rattle.alp_journal.specs.Along.{state_after}
use Rattle.alp_journal.specs.Ids.{same_trans, has_join, has_stamp, same_stamp}
use Rattle.alp_journal.specs.Deeds.{Deed, Finishes, Hears, Decides, Readies, Applies, Aborts, Acknowledges, Forgets, Restarts}
use Rattle.alp_journal.specs.Coordinator.{Fate, Vote, Undrawn, Running, Finishing, Committed, Forgotten, Ended, is_running, has_votes}
use Rattle.alp_journal.specs.Coordinator as fate
use Rattle.alp_journal.specs.Participant.{Phase, Unseen, Joining, Active, Ready, Applied, Over, live_in, is_ready}
use Rattle.alp_journal.specs.Participant as phase
use Rattle.alp_journal.specs.Holder.{Life, if_ready}
use Rattle.alp_journal.specs.State.{State, state_deed}
use Rattle.alp_journal.specs.Moves.{is_effective, resolved, tried, next}
use Rattle.alp_journal.specs.Laws.{DoLivesAgree, IsFound, is_standing, latest_vote, are_joins_apart, are_stamps_apart}
use Rattle.alp_journal.specs.Answered.{is_all_done, CountsVotes, ForgetsDone}
use Rattle.alp_journal.specs.Account.{Account, state_of, IsPartAs, IsPaired, HasLife, IsKnown, IsFateOf, IsKnownJoin, IsPhaseOf, HasWaits, HasNoCall, Stands, IsQuiet, HasTried, IsTriedEnd, Leads}
use Rattle.alp_journal.specs.Restarts.{restart_entry, restarted_at, restarted}
use Rattle.alp_journal.proofs.IdLemmas.{same_trans-itself, or-true}
use Rattle.alp_journal.proofs.StandLemmas.{none_known, drawn_older, join_part_is, pair_of}
use Rattle.alp_journal.proofs.CallLemmas.{quiet_votes, quiet_forgets}

-- ---- what a restart leaves of a part, a fate and a join

ready_was : (x : Option Life) (k : Life) → if_ready x ≡ Some k → x ≡ Some k
ready_was None k is = let wrong : None ≡ Some k = is in cc
ready_was (Some l) k is = go (is_some l.vote) is
  where
    go : (b : Bool) → cond {A = Option Life} b (Some l) None ≡ Some k → Some l ≡ Some k
    go true e = e
    go false e = let wrong : None ≡ Some k = e in cc

ready_kept : (x : Option Life) (k : Life) (ts : ℕ) → x ≡ Some k → k.vote ≡ Some ts → if_ready x ≡ Some k
ready_kept x k ts is voted = ap if_ready is ∙ ap (λ (v : Option ℕ). cond {A = Option Life} (is_some v) (Some k) None) voted

over_then : (epoch : ℕ) (f : Fate) → is_running (fate.restarted epoch f) ≡ false
over_then epoch Undrawn = refl
over_then epoch (Running c js) = refl
over_then epoch (Finishing c js vs) = refl
over_then epoch (Committed stamp js ds) = refl
over_then epoch (Forgotten stamp js) = refl
over_then epoch (Ended c) = refl

votes_then : (epoch : ℕ) (f : Fate) → has_votes (fate.restarted epoch f) ≡ false
votes_then epoch Undrawn = refl
votes_then epoch (Running c js) = refl
votes_then epoch (Finishing c js vs) = refl
votes_then epoch (Committed stamp js ds) = refl
votes_then epoch (Forgotten stamp js) = refl
votes_then epoch (Ended c) = refl

done_then : (epoch : ℕ) (f : Fate) → is_all_done (fate.restarted epoch f) ≡ false
done_then epoch Undrawn = refl
done_then epoch (Running c js) = refl
done_then epoch (Finishing c js vs) = refl
done_then epoch (Committed stamp [] ds) = refl
done_then epoch (Committed stamp (j ∷ js) ds) = refl
done_then epoch (Forgotten stamp js) = refl
done_then epoch (Ended c) = refl

known_then : (server epoch count : ℕ) (begun : List TransId) (t : TransId) → IsKnown server epoch count begun t → IsKnown server (epoch + 1) 0 begun t
known_then server epoch count begun t h = (drawn_older server epoch count t.server t.epoch t.counter h.0, h.1)

fate_then : (servers server epoch count now : ℕ) (begun : List TransId) (t : TransId) (f : Fate) → IsFateOf servers server epoch count begun t f → IsFateOf servers server (epoch + 1) 0 begun t (fate.restarted now f)
fate_then servers server epoch count now begun t Undrawn h = h
fate_then servers server epoch count now begun t (Running c js) h = known_then server epoch count begun t h.0
fate_then servers server epoch count now begun t (Finishing c js vs) h = known_then server epoch count begun t h.0
fate_then servers server epoch count now begun t (Committed stamp js ds) h = (known_then server epoch count begun t h.0, h.1)
fate_then servers server epoch count now begun t (Forgotten stamp js) h = (known_then server epoch count begun t h.0, h.1)
fate_then servers server epoch count now begun t (Ended c) h = known_then server epoch count begun t h

join_then : (server epoch count : ℕ) (joined : List JoinNo) (j : JoinNo) → IsKnownJoin server epoch count joined j → IsKnownJoin server (epoch + 1) 0 joined j
join_then server epoch count joined j h = (drawn_older server epoch count j.server j.epoch j.counter h.0, h.1)

phase_then : (servers server epoch count : ℕ) (joined : List JoinNo) (j : JoinNo) (p : Phase) → IsPhaseOf servers server epoch count joined j p → IsPhaseOf servers server (epoch + 1) 0 joined j (phase.restarted p)
phase_then servers server epoch count joined j Unseen h = h
phase_then servers server epoch count joined j (Joining t c who) h = join_then server epoch count joined j h.0
phase_then servers server epoch count joined j (Active t c who) h = join_then server epoch count joined j h.0
phase_then servers server epoch count joined j (Ready t c ts) h = (join_then server epoch count joined j h.0, h.1)
phase_then servers server epoch count joined j (Applied t stamp) h = join_then server epoch count joined j h
phase_then servers server epoch count joined j Over h = join_then server epoch count joined j h

live_then : (p : Phase) (x : TransId × ℕ) → live_in (phase.restarted p) ≡ Some x → live_in p ≡ Some x
live_then Unseen x is = is
live_then (Joining t c who) x is = let wrong : None ≡ Some x = is in cc
live_then (Active t c who) x is = let wrong : None ≡ Some x = is in cc
live_then (Ready t c ts) x is = is
live_then (Applied t stamp) x is = is
live_then Over x is = is

none_wait : (p : Phase) → HasWaits [] (phase.restarted p)
none_wait Unseen = tt
none_wait (Joining t c who) = tt
none_wait (Active t c who) = tt
none_wait (Ready t c ts) = tt
none_wait (Applied t stamp) = tt
none_wait Over = tt

none_call : (t : TransId) (f : Fate) → HasNoCall [] t f
none_call t Undrawn = tt
none_call t (Running c js) = tt
none_call t (Finishing c js vs) = tt
none_call t (Committed stamp js ds) = tt
none_call t (Forgotten stamp js) = tt
none_call t (Ended c) = tt

-- ---- what stands then

module _ (b : Account) (clock : ℕ) (q : Stands b) where
  paired_then : (t : TransId) (x : Option Life) → b.holder.lives t ≡ x → IsPaired t b.phases x (b.fates t) → IsPaired t (λ j. phase.restarted (b.phases j)) (if_ready x) (fate.restarted (b.ids.epoch + 1) (b.fates t))
  paired_then t None live h = over_then (b.ids.epoch + 1) (b.fates t)
  paired_then t (Some l) live h = by l.vote refl
    where
      part : (ts : ℕ) → l.vote ≡ Some ts → (x : Option JoinNo) → IsPartAs t b.phases l (b.fates t) x → IsPartAs t (λ j. phase.restarted (b.phases j)) l (fate.restarted (b.ids.epoch + 1) (b.fates t)) x
      part ts voted None h = let wrong : None ≡ Some ts = sym h.1 ∙ voted in cc
      part ts voted (Some j) h = (
        elim h.0 [
          | inl x ↦ absurd (let wrong : None ≡ Some ts = sym x.1 ∙ voted in cc)
          | inr x ↦ inr (x.0, ap phase.restarted x.1, x.2)
        ],
        over_then (b.ids.epoch + 1) (b.fates t),
      )

      by : (v : Option ℕ) → l.vote ≡ v → IsPaired t (λ j. phase.restarted (b.phases j)) (cond {A = Option Life} (is_some l.vote) (Some l) None) (fate.restarted (b.ids.epoch + 1) (b.fates t))
      by None e = subst (λ (v : Option ℕ). IsPaired t (λ j. phase.restarted (b.phases j)) (cond {A = Option Life} (is_some v) (Some l) None) (fate.restarted (b.ids.epoch + 1) (b.fates t))) (sym e) (over_then (b.ids.epoch + 1) (b.fates t))
      by (Some ts) e = subst (λ (v : Option ℕ). IsPaired t (λ j. phase.restarted (b.phases j)) (cond {A = Option Life} (is_some v) (Some l) None) (fate.restarted (b.ids.epoch + 1) (b.fates t))) (sym e) (part ts e l.join h)

  held_then : (j : JoinNo) (p : Phase) → b.phases j ≡ p → HasLife b.holder.lives j p → HasLife (λ t. if_ready (b.holder.lives t)) j (phase.restarted p)
  held_then j Unseen is h = tt
  held_then j (Joining t c who) is h = tt
  held_then j (Active t c who) is h = tt
  held_then j (Ready t c ts) is h =
      let pair = join_part_is t b.phases h.0 (b.fates t) j h.2 (pair_of b q t h.0 h.1) in
      elim pair.0 [
        | inl x ↦ absurd (let wrong : Ready t c ts ≡ Active t h.0.client h.0.who = sym is ∙ x.0 in cc)
        | inr x ↦ (h.0, ready_kept (b.holder.lives t) h.0 x.0 h.1 x.2, h.2)
      ]
  held_then j (Applied t stamp) is h = tt
  held_then j Over is h = tt

  pub restarted_stands : Stands (restarted_at b clock)
  restarted_stands = record {
    agree = λ t u k l at to away. q.agree t u k l (ready_was (b.holder.lives t) k at) (ready_was (b.holder.lives u) l to) away;
    paired = λ t. paired_then t (b.holder.lives t) refl (q.paired t);
    held = λ j. held_then j (b.phases j) refl (q.held j);
    votes = λ t. votes_then (b.ids.epoch + 1) (b.fates t);
    forgets = λ t. done_then (b.ids.epoch + 1) (b.fates t);
    fates = λ t. fate_then b.servers b.holder.server b.ids.epoch b.ids.transactions (b.ids.epoch + 1) b.begun t (b.fates t) (q.fates t);
    begun = q.begun;
    known = none_known b.holder.server (b.ids.epoch + 1) b.begun;
    phases = λ j. phase_then b.servers b.holder.server b.ids.epoch b.ids.joins b.joined j (b.phases j) (q.phases j);
    joined = q.joined;
    single = λ j k x first second. q.single j k x (live_then (b.phases j) x first) (live_then (b.phases k) x second);
    order = le_refl clock;
  }

  -- nobody waits, and nobody is to be told
  pub restarted_quiet : IsQuiet (restarted_at b clock)
  restarted_quiet = record {
    settled = record {
      stands = restarted_stands;
      tells = record {
        ended = λ client t c is. (let wrong : None ≡ Some c = is in cc);
        parts = tt;
        others = tt;
        came = tt;
        apart = tt;
        joining = λ j. none_wait (b.phases j);
        finishing = λ t. none_call t (fate.restarted (b.ids.epoch + 1) (b.fates t));
      };
    };
    turns = tt;
    tried = HasTried.nothing refl;
  }

-- ---- the entry

-- what the notes keep, where this stands: the joins that have voted, and the decisions with joins that are not forgotten
pub record IsNoted (b : Account) (noted : List JoinNo) (standing : List Stamp) : Type 0 where
  pub once : (are_joins_apart noted && are_stamps_apart standing) ≡ true
  pub ready : (j : JoinNo) → has_join j noted ≡ is_ready (b.phases j)
  pub decided : (x : Stamp) → has_stamp x standing ≡ is_standing x (b.fates x.trans)

module _ (a : Account) (ready : List JoinNo) (stamps : List Stamp) where
  -- of what was tried it finds these deeds made
  pub restart_so : (clock : ℕ) (ds : List Deed) (m : Account) → resolved (state_of a) ready clock stamps ≡ ds → IsFound (state_after state_deed (state_of a) ds) clock ready stamps
      → record (state_after state_deed (state_of a) ((ds ++ Restarts (a.ids.epoch + 1) clock ∷ []) ++ [])) { is_down = false; pending = [] } ≡ state_of m → IsQuiet m → Leads false a (restart_entry a clock ready stamps) m
  restart_so clock ds m made found left quiet =
      let s : State = state_of a in
      let e : Entry = restart_entry a clock ready stamps in
      let done : tried s e ≡ (ds ++ Restarts (a.ids.epoch + 1) clock ∷ []) ++ [] =
      append-nil ((resolved s ready clock stamps ++ Restarts (a.ids.epoch + 1) clock ∷ []) ++ []) ∙ ap (λ (xs : List Deed). (xs ++ Restarts (a.ids.epoch + 1) clock ∷ []) ++ []) made in
      let leaves : next s e ≡ state_of m = ap (λ (xs : List Deed). record (state_after state_deed s xs) { is_down = false; pending = [] }) done ∙ left in
      record {
        leaves = leaves;
        lawful = record {
          drawn = refl;
          sessions = refl;
          deeds = tt;
          agree = subst (λ (x : State). DoLivesAgree x.holder.lives) (sym leaves) quiet.settled.stands.agree;
          released = tt;
          sent = refl;
          said = (tt, tt);
          told = tt;
          restart = ((refl, subst (λ (xs : List Deed). IsFound (state_after state_deed s xs) clock ready stamps) (sym made) found), refl);
          stopped = tt;
        };
        answered = record {
          answered = tt;
          sent = IsPermutation-refl [];
          ticks = tt;
          applied = tt;
          votes = subst CountsVotes (sym leaves) (quiet_votes m quiet);
          forgets = subst ForgetsDone (sym leaves) (quiet_forgets m quiet);
          turns = tt;
          grants = tt;
          halted = tt;
        };
        quiet = quiet;
      }

  -- ---- nothing is found made

  -- none of what was tried counts
  lost_so : IsQuiet a → IsNoted a ready stamps → resolved (state_of a) ready a.holder.kept stamps ≡ [] → Leads false a (restart_entry a a.holder.kept ready stamps) (restarted a)
  lost_so q notes none = restart_so a.holder.kept [] (restarted a) none (record { clock = refl; once = notes.once; ready = notes.ready; decided = notes.decided })
      (λ i. state_of (record (restarted a) { begun = append-nil a.begun i; joined = append-nil a.joined i })) (restarted_quiet a a.holder.kept q.settled.stands)

  -- or just a deed that moves a fate which is lost, or whose joins are to be asked again, as it is
  lost_after : IsQuiet a → IsNoted a ready stamps → (t : TransId) (d : Deed) (move : Fate → Fate) → state_deed (state_of a) d ≡ record (state_of a) { fates = λ u. cond {A = Fate} (same_trans t u) (move (a.fates u)) (a.fates u); begun = a.begun ++ []; joined = a.joined ++ [] }
      → ((f : Fate) → fate.restarted (a.ids.epoch + 1) (move f) ≡ fate.restarted (a.ids.epoch + 1) f) → ((x : Stamp) (f : Fate) → is_standing x (move f) ≡ is_standing x f) → resolved (state_of a) ready a.holder.kept stamps ≡ d ∷ []
      → Leads false a (restart_entry a a.holder.kept ready stamps) (restarted a)
  lost_after q notes t d move is same stands made = restart_so a.holder.kept (d ∷ []) (restarted a) made
      (subst (λ (s : State). IsFound s a.holder.kept ready stamps) (sym is) (record {
        clock = refl;
        once = notes.once;
        ready = notes.ready;
        decided = λ x. notes.decided x ∙ sym (moved x (same_trans t x.trans) (a.fates x.trans));
      }))
      (ap (λ (s : State). record (state_after state_deed s (Restarts (a.ids.epoch + 1) a.holder.kept ∷ [])) { is_down = false; pending = [] }) is
      ∙ (λ i. state_of (record (restarted a) { fates = λ u. lost (same_trans t u) (a.fates u) i; begun = (append-nil (a.begun ++ []) ∙ append-nil a.begun) i; joined = (append-nil (a.joined ++ []) ∙ append-nil a.joined) i })))
      (restarted_quiet a a.holder.kept q.settled.stands)
    where
      moved : (x : Stamp) (b : Bool) (f : Fate) → is_standing x (cond {A = Fate} b (move f) f) ≡ is_standing x f
      moved x true f = stands x f
      moved x false f = refl

      lost : (b : Bool) (f : Fate) → fate.restarted (a.ids.epoch + 1) (cond {A = Fate} b (move f) f) ≡ fate.restarted (a.ids.epoch + 1) f
      lost true f = same f
      lost false f = refl

  finishing_lost : (f : Fate) → fate.restarted (a.ids.epoch + 1) (fate.finishing f) ≡ fate.restarted (a.ids.epoch + 1) f
  finishing_lost Undrawn = refl
  finishing_lost (Running c js) = refl
  finishing_lost (Finishing c js vs) = refl
  finishing_lost (Committed stamp js ds) = refl
  finishing_lost (Forgotten stamp js) = refl
  finishing_lost (Ended c) = refl

  finishing_stands : (x : Stamp) (f : Fate) → is_standing x (fate.finishing f) ≡ is_standing x f
  finishing_stands x Undrawn = refl
  finishing_stands x (Running c js) = refl
  finishing_stands x (Finishing c js vs) = refl
  finishing_stands x (Committed stamp js ds) = refl
  finishing_stands x (Forgotten stamp js) = refl
  finishing_stands x (Ended c) = refl

  module _ (j : JoinNo) (ts : ℕ) where
    heard_lost : (f : Fate) → fate.restarted (a.ids.epoch + 1) (fate.heard j ts f) ≡ fate.restarted (a.ids.epoch + 1) f
    heard_lost Undrawn = refl
    heard_lost (Running c js) = refl
    heard_lost (Finishing c js vs) = refl
    heard_lost (Committed stamp js ds) = refl
    heard_lost (Forgotten stamp js) = refl
    heard_lost (Ended c) = refl

    heard_stands : (x : Stamp) (f : Fate) → is_standing x (fate.heard j ts f) ≡ is_standing x f
    heard_stands x Undrawn = refl
    heard_stands x (Running c js) = refl
    heard_stands x (Finishing c js vs) = refl
    heard_stands x (Committed stamp js ds) = refl
    heard_stands x (Forgotten stamp js) = refl
    heard_stands x (Ended c) = refl

    done_lost : (f : Fate) → fate.restarted (a.ids.epoch + 1) (fate.acknowledged j f) ≡ fate.restarted (a.ids.epoch + 1) f
    done_lost Undrawn = refl
    done_lost (Running c js) = refl
    done_lost (Finishing c js vs) = refl
    done_lost (Committed stamp js ds) = refl
    done_lost (Forgotten stamp js) = refl
    done_lost (Ended c) = refl

    done_stands : (x : Stamp) (f : Fate) → is_standing x (fate.acknowledged j f) ≡ is_standing x f
    done_stands x Undrawn = refl
    done_stands x (Running c js) = refl
    done_stands x (Finishing c js vs) = refl
    done_stands x (Committed stamp [] ds) = refl
    done_stands x (Committed stamp (k ∷ js) ds) = refl
    done_stands x (Forgotten stamp js) = refl
    done_stands x (Ended c) = refl

  -- a time after the clock is not found where the clock of before is
  not_before : IsQuiet a → (n : ℕ) → a.holder.clock < n → nat_le n a.holder.kept ≡ false
  not_before q n later = lt-leb n a.holder.kept (let low : a.holder.kept ≤ a.holder.clock = q.settled.stands.order in omega (arith, low, later))

  -- a decision that stands is found among those
  found_trans : (xs : List Stamp) (x : Stamp) (t : TransId) → x.trans ≡ t → has_stamp x xs ≡ true → list_any (λ (y : Stamp). same_trans y.trans t) xs ≡ true
  found_trans [] x t of h = let wrong : false ≡ true = h in cc
  found_trans (y ∷ ys) x t of h = elim (or-true (same_stamp y x) (has_stamp x ys) h) [
    | inl same ↦ or_left (same_trans y.trans t) (list_any (λ (z : Stamp). same_trans z.trans t) ys) (ap (same_trans y.trans) (sym of) ∙ (and_parts (y.ts == x.ts) (same_trans y.trans x.trans) same).1)
    | inr more ↦ or_right (same_trans y.trans t) (list_any (λ (z : Stamp). same_trans z.trans t) ys) (found_trans ys x t of more)
  ]

  -- where the clock of before is found, and all that was noted before, nothing was made of what was tried
  pub restart_leads : IsQuiet a → IsNoted a ready stamps → Leads false a (restart_entry a a.holder.kept ready stamps) (restarted a)
  restart_leads q notes = go q.tried
    where
      -- what is tried, as far as it counts
      counts : (d : Deed) (e : Deed) → a.pending ≡ d ∷ e ∷ [] → is_effective ready a.holder.kept stamps d ≡ true → is_effective ready a.holder.kept stamps e ≡ false → resolved (state_of a) ready a.holder.kept stamps ≡ d ∷ []
      counts d e is first second =
          ap (filter (is_effective ready a.holder.kept stamps)) is
          ∙ (λ i. cond {A = List Deed} (first i) (d ∷ cond {A = List Deed} (second i) (e ∷ []) []) (cond {A = List Deed} (second i) (e ∷ []) []))

      counts_none : (d : Deed) → a.pending ≡ d ∷ [] → is_effective ready a.holder.kept stamps d ≡ false → resolved (state_of a) ready a.holder.kept stamps ≡ []
      counts_none d is none = ap (filter (is_effective ready a.holder.kept stamps)) is ∙ ap (λ (b : Bool). cond {A = List Deed} b (d ∷ []) []) none

      later_vote : (n : ℕ) (vs : List Vote) → n ≤ latest_vote n vs
      later_vote n [] = le_refl n
      later_vote n (v ∷ vs) = (let more : max n v.1 ≤ latest_vote (max n v.1) vs = later_vote (max n v.1) vs in omega (arith, more))

      standing : (stamp : Stamp) (joins done : List JoinNo) (j : JoinNo) → has_join j joins ≡ true → is_standing stamp (Committed stamp joins done) ≡ true
      standing stamp [] done j h = let wrong : false ≡ true = h in cc
      standing stamp (k ∷ joins) done j h = and_from (stamp.ts == stamp.ts) (same_trans stamp.trans stamp.trans) (eq-eqb stamp.ts stamp.ts refl) (same_trans-itself stamp.trans)

      own_stamp : (c : IsTriedEnd a) → c.stamp.trans ≡ c.trans
      own_stamp c = (subst (IsFateOf a.servers a.holder.server a.ids.epoch a.ids.transactions a.begun c.trans) c.committed (q.settled.stands.fates c.trans)).1

      go : HasTried a → Leads false a (restart_entry a a.holder.kept ready stamps) (restarted a)
      go (HasTried.nothing none) = lost_so q notes (ap (filter (is_effective ready a.holder.kept stamps)) none)
      go (HasTried.commit c) = lost_after q notes c.stamp.trans (Finishes c.stamp.trans) fate.finishing refl finishing_lost finishing_stands
          (counts (Finishes c.stamp.trans) (Decides c.stamp []) c.tried refl (not_before q c.stamp.ts (let time : c.stamp.ts ≡ a.holder.clock + 1 = c.time in omega (arith, time))))
      go (HasTried.decision c) = lost_after q notes c.stamp.trans (Hears c.stamp.trans c.join c.ts) (fate.heard c.join c.ts) refl (heard_lost c.join c.ts) (heard_stands c.join c.ts)
          (counts (Hears c.stamp.trans c.join c.ts) (Decides c.stamp c.joins) c.tried refl
          (not_before q c.stamp.ts (let time : c.stamp.ts ≡ latest_vote (a.holder.clock + 1) (fate.with_vote c.join c.ts c.votes) = c.time in let more : a.holder.clock + 1 ≤ latest_vote (a.holder.clock + 1) (fate.with_vote c.join c.ts c.votes) = later_vote (a.holder.clock + 1) (fate.with_vote c.join c.ts c.votes) in omega (arith, time, more))))
      go (HasTried.vote c) = lost_so q notes (counts_none (Readies c.join c.trans (a.holder.clock + 1)) c.tried (notes.ready c.join ∙ ap is_ready c.active))
      go (HasTried.application c) = lost_so q notes (counts_none (Applies c.join c.stamp) c.tried (ap not (notes.ready c.join ∙ ap is_ready c.ready)))
      go (HasTried.end c) = lost_after q notes c.trans (Acknowledges c.trans c.join) (fate.acknowledged c.join) refl (done_lost c.join 0) (done_stands c.join 0)
          (counts (Acknowledges c.trans c.join) (Forgets c.trans) c.tried refl
          (ap not (found_trans stamps c.stamp c.trans (own_stamp c)
          (notes.decided c.stamp ∙ ap (λ (t : TransId). is_standing c.stamp (a.fates t)) (own_stamp c) ∙ ap (is_standing c.stamp) c.committed ∙ standing c.stamp c.joins c.done c.join c.its))))
      go (HasTried.abort c) = lost_so q notes (counts_none (Aborts c.join c.trans c.client c.cause) c.tried (ap not (notes.ready c.join ∙ ap is_ready c.ready)))
