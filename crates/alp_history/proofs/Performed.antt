-- where a decided transaction performs a call, the cells that the call looks at are those that the latest one left
use Rattle.std.specs.Prelude.{Bool, true, false, cond, ◌||◌, Option, None, Some}
use Rattle.std.specs.List.{AllByRecursion}
use Rattle.std.specs.FinMap as map
use Rattle.std.proofs.Common.{◌≡◌, ℕ, suc, ◌≤◌, List, [], ◌∷◌, ◌++◌, flat_map, slice_get, refl, sym, ap, subst, ◌∙◌, inl, inr, arith}
use Rattle.alp_base.specs.declared.ids.TransId.{TransId}
use Rattle.alp_base.specs.declared.ids.Stamp.{Stamp}
use Rattle.alp_base.specs.declared.key.Key.{Key}
use Rattle.alp_files.specs.Holdings.{Holding}
use Rattle.alp_files.specs.Cells.{Cells}
use Rattle.alp_files.specs.Edits.{edits_map}
use Rattle.alp_files.specs.declared.call.Call.{Call}
use Rattle.alp_files.specs.declared.call.Call.TheVariants as call
use Rattle.alp_files.specs.declared.reply.Reply.{Reply}
use Rattle.alp_files.specs.Passing.{is_passing}
use Rattle.alp_files.specs.Act.{Own, no_opens, program, id_in}
use Rattle.alp_files.specs.History.{PerformedCall}
use Rattle.alp_files.specs.Locks.{Reads, Writes, IsMore, HoldsEach, needs_of, needs_made, needs_done, with_made}
use Rattle.alp_files.specs.Apart.{AreSized, OpensRead, after_part}
use Rattle.alp_files.proofs.LookLemmas.{Fits, program-fits}
use Rattle.alp_files.proofs.HeldLemmas.{lets-each}
use Rattle.alp_files.proofs.CoverLemmas.{covered-more, granted-more, joined-more, done-holds}
use Rattle.alp_files.proofs.FrameLemmas.{files-changed}
use Rattle.alp_journal.specs.declared.act.Act.{Act}
use Rattle.alp_journal.specs.declared.event.Event.{Event}
use Rattle.alp_journal.specs.declared.event.Event.TheVariants as event
use Rattle.alp_journal.specs.declared.entry.Entry.{Entry}
use Rattle.alp_journal.specs.Along.{Along, state_after}
use Rattle.alp_journal.specs.Deeds.{Deed, Grants, Performs, Releases, Readies, Applies, Registers, Decides, Forgets}
use Rattle.alp_journal.specs.Holder.{Holder, Life, looked_at, view_in, answer_in, after_done, performs, holder_after}
use Rattle.alp_journal.specs.Desk.{file_trans}
use Rattle.alp_journal.specs.State.{State, state_deed}
use Rattle.alp_journal.specs.Moves.{is_new, call_deeds, event_deeds, act_deeds, answered, is_of_no_file, done_by, done_of, done_deeds, stops, tried, told, halted}
use Rattle.alp_journal.specs.Laws.{DecidesAt, IsPerformed, IsOpenPart}
use Rattle.alp_history.specs.Log.{Log, journal_of, state_at, IsIn, latest}
use Rattle.alp_history.specs.Theorems.{IsProper, IsDecided, Findings}
use Rattle.alp_journal.proofs.IdLemmas.{same_trans-itself}
use Rattle.alp_history.proofs.Places.{in-list, some-same, state-append, all-in}
use Rattle.alp_history.proofs.Logs.{lawful-at, state-suc, server-stays}
use Rattle.alp_history.proofs.BegunOrder.{in-left, in-right}
use Rattle.alp_history.proofs.Rights.{IsRightDeed, IsRightEntry}
use Rattle.alp_journal.proofs.Origins.{IsEventFrom, event-from}
use Rattle.alp_history.proofs.FoundActs.{along-mid}
use Rattle.alp_history.proofs.LifeMoves.{IsCommit, life-cases}
use Rattle.alp_journal.proofs.LifeLemmas.{IsGoodLife, now_at, part_of}
use Rattle.alp_journal.proofs.OneServer.{IsHeld, own-life}
use Rattle.alp_history.proofs.EachServer.{plain-at}
use Rattle.alp_history.proofs.Turned.{is_left, Began}
use Rattle.alp_history.proofs.Agreed.{size}
use Rattle.alp_history.proofs.LatestThere.{open-new}
use Rattle.alp_history.proofs.LatestFound.{found, findings}
use Rattle.alp_history.proofs.StillReads.{cells-cases}
use Rattle.alp_history.proofs.LooksAt.{asked-read, part-opens}
use Rattle.alp_history.proofs.CommitEntries.{all-from, along-in, append-in, NotPerforming, event-performs-not, acts-perform-not, BeginsNone, IsOfAct, of-acts, plain-deeds, plain-calm}

-- ---- the event of an entry that performs a call

-- a call of a file or an owner, or a Collect
abbrev IsAsking : Call → Type 0
IsAsking (call.Hello a) = ⊥
IsAsking (call.Begin a) = ⊥
IsAsking (call.Join a) = ⊥
IsAsking (call.Finish a b) = ⊥
IsAsking (call.Outcome a) = ⊥
IsAsking c = Unit {0}

abbrev IsAskedFor : Event → Type 0
IsAskedFor (event.Call client epoch number c) = IsAsking c
IsAskedFor e = ⊥

module _ (s : State) (f : Deed) where
  one-by : (c : Call) (r : Reply) (o : Option TransId) → IsIn f (done_by s c r o) → done_by s c r o ≡ f ∷ []
  one-by c r None i = absurd i
  one-by c r (Some t) i = go (is_passing r || is_of_no_file s c r) i
    where
      go : (b : Bool) → IsIn f (cond b [] (Performs t (record { call = c; reply = r }) ∷ [])) → cond b [] (Performs t (record { call = c; reply = r }) ∷ []) ≡ f ∷ []
      go true k = absurd k
      go false k = elim k [ inl same ↦ ap (λ x. x ∷ []) (sym same) | inr more ↦ absurd more ]

  one-of : (r : Reply) (o : Option Call) → IsIn f (done_of s r o) → done_of s r o ≡ f ∷ []
  one-of r None i = absurd i
  one-of r (Some c) i = one-by c r (file_trans c) i

  -- at most one call is performed
  done-one : (e : Event) (r : Option Reply) → IsIn f (done_deeds s e r) → done_deeds s e r ≡ f ∷ []
  done-one (event.Call client epoch number c) (Some r) i = go (is_new s client epoch number) i
    where
      go : (b : Bool) → IsIn f (cond b (done_of s r (answered s client c)) []) → cond b (done_of s r (answered s client c)) [] ≡ f ∷ []
      go true k = one-of r (answered s client c) k
      go false k = absurd k
  done-one (event.Call client epoch number c) None i = absurd i
  done-one (event.Arrive from m) r i = absurd i
  done-one (event.Timeout t) r i = absurd i
  done-one event.Tick r i = absurd i
  done-one event.Force r i = absurd i
  done-one event.Restart r i = absurd i

  asking-call : (client : ℕ) (r : Reply) (c : Call) → IsIn f (done_of s r (answered s client c)) → IsAsking c
  asking-call client r (call.Hello a) i = absurd i
  asking-call client r (call.Begin a) i = absurd i
  asking-call client r (call.Join a) i = absurd i
  asking-call client r (call.Finish a b) i = absurd i
  asking-call client r (call.Outcome a) i = absurd i
  asking-call client r c i = tt

  done-asked : (e : Event) (r : Option Reply) → IsIn f (done_deeds s e r) → IsAskedFor e
  done-asked (event.Call client epoch number c) (Some r) i = go (is_new s client epoch number) i
    where
      go : (b : Bool) → IsIn f (cond b (done_of s r (answered s client c)) []) → IsAsking c
      go true k = asking-call client r c k
      go false k = absurd k
  done-asked (event.Call client epoch number c) None i = absurd i
  done-asked (event.Arrive from m) r i = absurd i
  done-asked (event.Timeout t) r i = absurd i
  done-asked event.Tick r i = absurd i
  done-asked event.Force r i = absurd i
  done-asked event.Restart r i = absurd i

asked-plain : (e : Event) → IsAskedFor e → e ≡ event.Restart → ⊥
asked-plain e h is = subst IsAskedFor is h

asked-begins-none : (e : Event) → IsAskedFor e → BeginsNone e
asked-begins-none (event.Call client epoch number (call.Begin a)) h s t = absurd h
asked-begins-none (event.Call client epoch number c) h s t = refl
asked-begins-none e h s t = absurd h

-- by itself it brings nothing about
asked-alone : (s : State) (e : Event) (r : Option Reply) (acts : List Act) → IsAskedFor e → event_deeds s e r acts ≡ []
asked-alone s (event.Call client epoch number c) None acts h = refl
asked-alone s (event.Call client epoch number c) (Some r) acts h = ap (λ ds. cond (is_new s client epoch number) ds []) (alone c h) ∙ same (is_new s client epoch number)
  where
    alone : (c : Call) → IsAsking c → call_deeds s client c r ≡ []
    alone (call.Join t) h = absurd h
    alone (call.Finish t b) h = absurd h
    alone c h = refl

    same : (b : Bool) → cond {A = List Deed} b [] [] ≡ []
    same true = refl
    same false = refl
asked-alone s e r acts h = absurd h

-- what acts bring about there grants, lets go and forgets
abbrev IsMild : Deed → Type 0
IsMild (Grants t c) = Unit {0}
IsMild (Registers t j) = Unit {0}
IsMild (Releases t) = Unit {0}
IsMild (Forgets t) = Unit {0}
IsMild d = ⊥

asked-not-decides : (t : TransId) (e : Event) → IsAskedFor e → DecidesAt t e → ⊥
asked-not-decides t (event.Call client epoch number (call.Finish u b)) h k = h
asked-not-decides t (event.Call client epoch number c) h k = k
asked-not-decides t e h k = h

mild : (e : Event) (m : State) (d : Deed) → IsAskedFor e → IsRightDeed e m d → IsOfAct d → IsMild d
mild e m (Grants t c) h law k = tt
mild e m (Registers t j) h law k = tt
mild e m (Releases t) h law k = tt
mild e m (Forgets t) h law k = tt
mild e m (Readies j t ts) h law k = subst IsAskedFor law.vote.asked h
mild e m (Decides x js) h law k = asked-not-decides x.trans e h law.decision.asked
mild e m (Applies j x) h law k = subst IsAskedFor law.application.told h
mild e m d h law k = absurd k

-- ---- what such deeds leave of a holder

module _ (h : Holder) (t : TransId) where
  -- the part is as it was, with no fewer locks
  record WasSo (w : Life) : Type 0 where
    life : Life
    lives : h.lives t ≡ Some life
    edits : w.edits ≡ life.edits
    own : w.own ≡ life.own
    who : w.who ≡ life.who
    calls : w.calls ≡ life.calls
    vote : w.vote ≡ life.vote
    more : IsMore life.held w.held

  record IsAsBefore (m : Holder) : Type 0 where
    cells : m.cells ≡ h.cells
    server : m.server ≡ h.server
    part : (w : Life) → m.lives t ≡ Some w → WasSo w

  begins-so : IsAsBefore h
  begins-so = record { cells = refl; server = refl; part = λ w is. record { life = w; lives = is; edits = refl; own = refl; who = refl; calls = refl; vote = refl; more = λ r m k. k } }

  no-commit : (d : Deed) {x : Stamp} → IsMild d → IsCommit x d → ⊥
  no-commit d k c = elim c [ inl a ↦ subst IsMild a.1 k | inr a ↦ subst IsMild a.1 k ]

  so-next : (m : Holder) (d : Deed) → IsMild d → IsAsBefore m → IsAsBefore (holder_after m d)
  so-next m d k q = record {
    cells = cells-cases (λ c. c ≡ h.cells) m d q.cells (λ x l c is. absurd (no-commit d k c));
    server = server-stays d m ∙ q.server;
    part = life-cases (λ o. (w : Life) → o ≡ Some w → WasSo w) m d t
        (λ a. q.part)
        (λ c n w e. absurd (subst IsMild e k))
        (λ j c w e. absurd (subst IsMild e k))
        (λ c l e is w there.
        (let old = q.part l is in
        let same = some-same (record l { held = _ }) w there in
        record {
          life = old.life;
          lives = old.lives;
          edits = ap (λ (z : Life). z.edits) (sym same) ∙ old.edits;
          own = ap (λ (z : Life). z.own) (sym same) ∙ old.own;
          who = ap (λ (z : Life). z.who) (sym same) ∙ old.who;
          calls = ap (λ (z : Life). z.calls) (sym same) ∙ old.calls;
          vote = ap (λ (z : Life). z.vote) (sym same) ∙ old.vote;
          more = subst (λ (z : Life). IsMore (old.life).held z.held) same (λ r o g. granted-more l.held (needs_of (view_in m l) l.own c) r o (old.more r o g));
        }))
        (λ x l e is. absurd (subst IsMild e k))
        (λ e w is. (let wrong : None ≡ Some w = is in cc))
        (λ j ts l e is. absurd (subst IsMild e k))
        (λ x l e c is. absurd (no-commit d k c))
        (λ a b e. absurd (subst IsMild e k))
        (λ j c a l e is p. absurd (subst IsMild e k));
  }

  so-fold : (ds : List Deed) (s : State) → AllByRecursion IsMild ds → IsAsBefore s.holder → IsAsBefore (state_after state_deed s ds).holder
  so-fold [] s k q = q
  so-fold (d ∷ ds) s k q = so-fold ds (state_deed s d) k.1 (so-next s.holder d k.0 q)

-- ---- at the entry

module _ (log : Log) (proper : IsProper log) (n i : ℕ) (e : Entry) (at : slice_get (journal_of log n) i ≡ Some e) (goes : stops e ≡ false)
    (x : Stamp) (d : PerformedCall) (among : IsIn (Performs x.trans d) (tried (state_at log n i) e)) (decided : IsDecided log x) where
  abbrev s : State
  s = state_at log n i

  abbrev mids : List Deed
  mids = flat_map (act_deeds s e.event) e.acts

  law : IsRightEntry s e
  law = lawful-at log proper.lawful proper.linked n i e at

  done : IsIn (Performs x.trans d) (done_deeds s e.event e.reply)
  done = elim (append-in (event_deeds s e.event e.reply e.acts ++ mids) (done_deeds s e.event e.reply) (Performs x.trans d) among) [
    | inl a ↦ elim (append-in (event_deeds s e.event e.reply e.acts) mids (Performs x.trans d) a) [
      | inl b ↦ absurd (event-performs-not s e.event (Performs x.trans d) (all-in (IsEventFrom s e.event) (event_deeds s e.event e.reply e.acts) (Performs x.trans d) (event-from s e.event e.reply e.acts) b))
      | inr b ↦ absurd (all-in NotPerforming mids (Performs x.trans d) (acts-perform-not s e.event e.acts) b)
    ]
    | inr b ↦ b
  ]

  asked : IsAskedFor e.event
  asked = done-asked s (Performs x.trans d) e.event e.reply done

  plain : e.event ≡ event.Restart → ⊥
  plain = asked-plain e.event asked

  all-deeds : tried s e ≡ mids ++ Performs x.trans d ∷ []
  all-deeds = (λ j. (asked-alone s e.event e.reply e.acts asked j ++ mids) ++ done-one s (Performs x.trans d) e.event e.reply done j)

  laws : Along state_deed (IsRightDeed e.event) s (mids ++ Performs x.trans d ∷ [])
  laws = subst (Along state_deed (IsRightDeed e.event) s) all-deeds (plain-deeds s e law plain)

  -- where the call is performed
  abbrev there : State
  there = state_after state_deed s mids

  right : IsRightDeed e.event there (Performs x.trans d)
  right = along-mid (IsRightDeed e.event) mids (Performs x.trans d) [] s laws

  milds : AllByRecursion IsMild mids
  milds = all-from IsMild mids (λ f a. (
      let r = along-in (IsRightDeed e.event) (mids ++ Performs x.trans d ∷ []) s f laws (in-left f mids (Performs x.trans d ∷ []) a) in
      mild e.event r.0 f asked r.1 (all-in IsOfAct mids f (of-acts s e.event (asked-begins-none e.event asked) e.acts (plain-calm s e law plain)) a)))

  abbrev now : Life
  now = right.view.0

  performed : IsPerformed there.holder e.event now d
  performed = right.view.2

  stood : IsAsBefore s.holder x.trans there.holder
  stood = so-fold s.holder x.trans mids s milds (begins-so s.holder x.trans)

  was : WasSo s.holder x.trans now
  was = stood.part now right.view.1

  abbrev before : Life
  before = was.life

  inside : suc i ≤ size log proper n
  inside = in-list (journal_of log n) i e at

  -- ---- what the call looks at it may read

  abbrev holds : Holding
  holds = with_made now.held (id_in d.reply)

  more : IsMore before.held holds
  more r m k = joined-more now.held (needs_made (id_in d.reply)) r m (was.more r m k)

  held : IsHeld (Began log proper n (is_left log proper s.phases)) s.holder
  held = (plain-at log proper n i (omega (arith, inside))).0.held

  good : IsGoodLife s.holder.server s.holder.cells held.ids s.holder.made held.parts before
  good = (own-life s.holder.server s.holder.cells held.ids s.holder.made held.parts before (sym was.vote ∙ performed.active) (held.live x.trans before was.lives)).1

  opened : OpensRead (Reads holds) (after_part s.holder.server (now_at s.holder.cells held.ids) (part_of before)).own.opens × AreSized (map.get (after_part s.holder.server (now_at s.holder.cells held.ids) (part_of before)).files)
  opened =
      part-opens holds s.holder.server before.who before.calls s.holder.cells held.ids no_opens good.right.formed held.sized tt
      (covered-more before.held holds more s.holder.server (now_at s.holder.cells held.ids) before.who before.calls good.right.covered)

  os : OpensRead (Reads holds) before.own.opens
  os = subst (λ (o : Own). OpensRead (Reads holds) o.opens) good.own opened.0

  sized : AreSized (view_in s.holder before)
  sized = subst (λ (m : Cells). AreSized (map.get m)) (files-changed s.holder.server before.who before.calls (now_at s.holder.cells held.ids) ∙ ap (λ es. edits_map es s.holder.cells) good.edits) opened.1

  view : view_in there.holder now ≡ view_in s.holder before
  view = λ j. map.get (edits_map (was.edits j) (stood.cells j))

  locked : HoldsEach now.held (needs_of (view_in s.holder before) before.own d.call)
  locked = subst (HoldsEach now.held) (λ j. needs_of (view j) (was.own j) d.call) performed.locked

  fits : Fits (Reads holds) (Writes holds) (view_in s.holder before) (program s.holder.server [] before.who before.own d.call (id_in d.reply))
  fits =
      program-fits (Reads holds) (Writes holds) (view_in s.holder before) before.own os sized s.holder.server [] before.who d.call (id_in d.reply) performed.formed
      (lets-each holds (needs_done (view_in s.holder before) before.own d) (done-holds now.held (view_in s.holder before) before.own d locked))

  reads : (k : Key) → IsIn k (looked_at s.holder before d) → Reads holds k
  reads k looked = asked-read (Reads holds) (Writes holds) (view_in s.holder before) (program s.holder.server [] before.who before.own d.call (id_in d.reply)) k fits looked

  -- ---- behind the entry

  after : state_at log n (suc i) ≡ record (state_deed there (Performs x.trans d)) { desk = (told s e).desk; is_down = false; pending = [] }
  after =
      state-suc log proper.lawful proper.linked n i e at ∙ ap (λ b. cond b (halted s e) (told s e)) goes
      ∙ ap (λ (z : State). record z { desk = (told s e).desk; is_down = false; pending = [] }) (ap (state_after state_deed s) all-deeds ∙ state-append state_deed s mids (Performs x.trans d ∷ []))

  cells-after : (state_at log n (suc i)).holder.cells ≡ s.holder.cells
  cells-after = ap (λ (z : State). z.holder.cells) after ∙ same (there.holder.lives x.trans) ∙ stood.cells
    where
      same : (o : Option Life) → (performs there.holder x.trans d o).cells ≡ there.holder.cells
      same None = refl
      same (Some l) = refl

  lives-after : (state_at log n (suc i)).holder.lives x.trans ≡ Some (after_done now d (answer_in there.holder now d))
  lives-after =
      ap {B = Option Life} (λ (z : State). z.holder.lives x.trans) after
      ∙ ap (λ (o : Option Life). (performs there.holder x.trans d o).lives x.trans) right.view.1
      ∙ ap (λ (b : Bool). cond {A = Option Life} b (Some (after_done now d (answer_in there.holder now d))) (there.holder.lives x.trans)) (same_trans-itself x.trans)

  open-after : IsOpenPart (state_at log n (suc i)) x.trans
  open-after = subst (λ (z : State). IsOpenPart z x.trans) (sym after) right.running

  -- the part has the call behind the entry, and goes on
  pub has-call : (l : Life) × ((state_at log n (suc i)).holder.lives x.trans ≡ Some l) × IsIn d l.calls × (l.vote ≡ None) × IsOpenPart (state_at log n (suc i)) x.trans
  has-call = (after_done now d (answer_in there.holder now d), lives-after, in-right d now.calls (d ∷ []) (inl refl), performed.active, open-after)

  -- what the part was before, and is behind it
  pub record IsDoneMore : Type 0 where
    pub earlier : Life
    pub stood_so : s.holder.lives x.trans ≡ Some earlier
    pub later : Life
    pub stands_so : (state_at log n (suc i)).holder.lives x.trans ≡ Some later
    pub calls_so : later.calls ≡ earlier.calls ++ d ∷ []
    pub who_so : later.who ≡ earlier.who
    pub voteless : later.vote ≡ None
    pub running_so : IsOpenPart (state_at log n (suc i)) x.trans

  pub done-more : IsDoneMore
  done-more = record {
    earlier = before;
    stood_so = was.lives;
    later = after_done now d (answer_in there.holder now d);
    stands_so = lives-after;
    calls_so = ap (λ cs. cs ++ d ∷ []) was.calls;
    who_so = was.who;
    voteless = performed.active;
    running_so = open-after;
  }

  on-latest : (k : Key) → IsIn k (looked_at s.holder before d) → map.get s.holder.cells k ≡ latest log n k x
  on-latest k looked =
      ap (λ (c : Cells). map.get c k) (sym cells-after)
      ∙ found log proper x decided n (suc i) inside (after_done now d (answer_in there.holder now d)) lives-after (open-new log proper x decided n (suc i) inside open-after) k (reads k looked)

  pub performed-so : (l : Life) × (s.holder.lives x.trans ≡ Some l) × ((k : Key) → IsIn k (looked_at s.holder l d) → map.get s.holder.cells k ≡ latest log n k x)
  performed-so = (before, was.lives, on-latest)

pub findings_both : Findings
findings_both log proper = (findings log proper, λ n i e x d at goes among decided. performed-so log proper n i e at goes x d among decided)
