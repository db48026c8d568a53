-- what a server that runs alone holds is one thread's history, and what its live parts intend leaves well-formed files
use Rattle.std.specs.Prelude.{cond, Bool, true, false, max, flat_map, Option, None, Some, map as list_map}
use Rattle.std.specs.List.{list_any, AllByRecursion}
use Rattle.std.specs.FinMap as map
use Rattle.std.proofs.lemmas.List.{append-nil, append_assoc}
use Rattle.std.proofs.Common.{inl, inr, ◌≡◌, ℕ, ◌+◌, ◌<◌, ◌≤◌, List, [], ◌∷◌, ◌++◌, refl, sym, ap, subst, ◌∙◌, arith, le_refl}
use Rattle.alp_base.specs.declared.ids.FileId.{FileId}
use Rattle.alp_base.specs.declared.ids.JoinNo.{JoinNo}
use Rattle.alp_base.specs.declared.ids.TransId.{TransId}
use Rattle.alp_base.specs.declared.ids.Stamp.{Stamp}
use Rattle.alp_files.specs.Act.{id_in}
use Rattle.alp_files.specs.Apart.{AreSized, AreFormed, after_part}
use Rattle.alp_files.specs.Cells.{Cells}
use Rattle.alp_files.specs.Edits.{Edit, edits_map}
use Rattle.alp_files.specs.History.{PerformedCall, Standing, Decided, starting}
use Rattle.alp_files.specs.Sound.{HasItsPages, HaveTheirPages, AreSound}
use Rattle.alp_files.proofs.FilesLemmas.{same-some}
use Rattle.alp_files.proofs.FrameLemmas.{files-changed}
use Rattle.alp_files.proofs.SoundLemmas.{end_sound, steps_sound}
use Rattle.alp_files.specs.declared.reply.Reply.{Reply}
use Rattle.alp_journal.specs.declared.act.Act.{Act}
use Rattle.alp_journal.specs.declared.act.Act.TheVariants as act
use Rattle.alp_journal.specs.declared.entry.Entry.{Entry}
use Rattle.alp_journal.specs.declared.event.Event.{Event}
use Rattle.alp_journal.specs.declared.event.Event.TheVariants as event
use Rattle.alp_journal.specs.Along.{Along, Where, state_after}
use Rattle.alp_journal.specs.Coordinator.{Vote}
use Rattle.alp_journal.specs.Opening.{Start, ReadyNote}
use Rattle.alp_journal.specs.Deeds.{Deed, Begins, Joins, Enters, Quits, Aborts, Grants, Performs, Releases, Readies, Applies, Registers, Finishes, Hears, Decides, Ends, Acknowledges, Forgets, Restarts}
use Rattle.alp_journal.specs.Holder.{Holder, Life, holder_after, lives_noted}
use Rattle.alp_journal.specs.Holding.{HasNotVoted, MayDo}
use Rattle.alp_journal.specs.State.{State, state_deed, ids_after, opened}
use Rattle.alp_journal.specs.Moves.{next_file, is_effective, resolved, event_deeds, act_deeds, done_deeds, is_stop, stops, tried, did, told, halted, next}
use Rattle.alp_journal.specs.Laws.{latest_vote, CountsOn, DeedsAreLawful, StartsRight, MayApply, IsLawfulDeed, IsLawfulEntry, LivesUnvoted, Regains, IsStopped, TellsStop, regained_by}
use Rattle.alp_journal.specs.Account.{IsOwnEvent, AreOwnEvents}
use Rattle.alp_journal.proofs.HistoryOrder.{Item, AreGood, history_of}
use Rattle.alp_journal.proofs.LifeLemmas.{part_of, now_at, IsGoodLife}
use Rattle.alp_journal.proofs.MadeIds.{all-map, WasMade, made-fresh, made-after}
use Rattle.alp_journal.proofs.OneServer.{IsHeld, Turns, deed_held, own-life, in_order, one_thread}
use Rattle.alp_journal.proofs.Origins.{IsFrom, tried-from}
use Rattle.alp_journal.proofs.FoundLemmas.{found_after, found-append, IsAside, aside_found, aside_after, event_aside, none_performed, IsWrite, IsAtMostOne, stopped_write, holders-after, IsCounted, found_counted}

-- the greatest vote is no less than where it began
pub latest-after : (n : ℕ) (vs : List Vote) → n ≤ latest_vote n vs
latest-after n [] = omega arith
latest-after n (v ∷ vs) = let h : max n v.1 ≤ latest_vote (max n v.1) vs = latest-after (max n v.1) vs in omega (arith, h)

-- it holds one thread's history, and the ids of files are counted
pub record StandsNow (o : Cells → Type 0) (s : State) : Type 0 where
  pub held : IsHeld o s.holder
  pub made : AllByRecursion (WasMade s.ids) s.holder.made

-- and it does so with all that a restart may find made of what was tried
pub record Stands (o : Cells → Type 0) (s : State) : Type 0 where
  pub held : IsHeld o s.holder
  pub made : AllByRecursion (WasMade s.ids) s.holder.made
  pub found : (ready : List JoinNo) (clock : ℕ) (stamps : List Stamp) → IsHeld o (found_after s.holder ready clock stamps s.pending)

-- ---- a deed

unvoted : (s : State) (t : TransId) → LivesUnvoted s t → HasNotVoted s.holder t
unvoted s t live l is = subst (λ (x : Life). x.vote ≡ None) (same-some live.0 l (sym live.1 ∙ is)) live.2

later-than : (clock ts : ℕ) (vs : List Vote) → ts ≡ latest_vote (clock + 1) vs → clock < ts
later-than clock ts vs time = omega (arith, time, latest-after (clock + 1) vs)

not_told : (e : Event) (s : State) (j : JoinNo) (x : Stamp) → IsOwnEvent e → MayApply e s j x → ⊥
not_told e s j x own may = subst IsOwnEvent (may.told) own

-- a lawful deed that comes by no message may be done
may_do : (e : Event) (from s : State) (d : Deed) → IsOwnEvent e → IsFrom from e d → IsLawfulDeed e s d → AllByRecursion (WasMade s.ids) s.holder.made → MayDo s.holder d
may_do e from s (Grants t c) own is law made = law.locks
may_do e from s (Performs t d) own is law made =
    let v = law.view in
    let fresh = λ (f : FileId) (i : id_in d.reply ≡ Some f). (let next : f ≡ next_file s = law.counts f i in made-fresh s.ids f s.holder.made (ap (λ (g : FileId). g.epoch) next) (ap (λ (g : FileId). g.counter) next) made) in
    ((v.0, v.1, record { active = v.2.active; formed = v.2.formed; right = v.2.right; fresh = fresh; locked = v.2.locked }), law.locks)
may_do e from s (Readies j t ts) own is law made = ((let time : ts ≡ s.holder.clock + 1 = law.vote.time in omega (arith, time)), unvoted s t law.vote.live)
may_do e from s (Decides x js) own is law made = (later-than s.holder.clock x.ts law.decision.votes law.decision.time, unvoted s x.trans law.decision.live)
may_do e from s (Applies j x) own is law made = absurd (not_told e s j x own law.application)
may_do e from s (Restarts epoch clock) own is law made = absurd is
may_do e from s (Begins t client who seen) own is law made = tt
may_do e from s (Joins j t client who) own is law made = tt
may_do e from s (Enters j t client who) own is law made = tt
may_do e from s (Quits j t client c) own is law made = tt
may_do e from s (Aborts j t client c) own is law made = tt
may_do e from s (Releases t) own is law made = tt
may_do e from s (Registers t j) own is law made = tt
may_do e from s (Finishes t) own is law made = tt
may_do e from s (Hears t j ts) own is law made = tt
may_do e from s (Ends t client c) own is law made = tt
may_do e from s (Acknowledges t j) own is law made = tt
may_do e from s (Forgets t) own is law made = tt

-- what is known of the files that it began on stays
keeps_base : (o : Cells → Type 0) (e : Event) (s : State) (d : Deed) → IsOwnEvent e → IsLawfulDeed e s d → Turns o o s.holder d
keeps_base o e s (Applies j x) own law = absurd (not_told e s j x own law.application)
keeps_base o e s d own law = λ b k. k

deed_stands : (o : Cells → Type 0) (e : Event) (from s : State) (d : Deed) → IsOwnEvent e → IsFrom from e d → IsLawfulDeed e s d → StandsNow o s → StandsNow o (state_deed s d)
deed_stands o e from s d own is law h = record {
  held = deed_held o o s.holder d (may_do e from s d own is law h.made) (keeps_base o e s d own law) h.held;
  made = made-after s.ids s.holder d (λ epoch clock k. absurd (subst (IsFrom from e) k is))
      (λ t x k f i. (let next : f ≡ next_file s = subst (CountsOn s) k law.counts f i in (ap (λ (g : FileId). g.epoch) next, ap (λ (g : FileId). g.counter) next))) h.made;
}

deeds_stand : (o : Cells → Type 0) (e : Event) (from : State) (ds : List Deed) (s : State) → IsOwnEvent e → AllByRecursion (IsFrom from e) ds → Along state_deed (IsLawfulDeed e) s ds → StandsNow o s → StandsNow o (state_after state_deed s ds)
deeds_stand o e from [] s own all law h = h
deeds_stand o e from (d ∷ ds) s own all law h = deeds_stand o e from ds (state_deed s d) own all.1 law.1 (deed_stands o e from s d own all.0 law.0 h)

-- ---- what a stopped entry tried

along_behind : (x : Event) (ds rest : List Deed) (s : State) → Along state_deed (IsLawfulDeed x) s (ds ++ rest) → Along state_deed (IsLawfulDeed x) (state_after state_deed s ds) rest
along_behind x [] rest s law = law
along_behind x (d ∷ ds) rest s law = along_behind x ds rest (state_deed s d) law.1

-- a lawful write of such a server
write_held : (o : Cells → Type 0) (x : Event) (m : State) (d : Deed) → IsWrite d → IsOwnEvent x → IsLawfulDeed x m d → IsHeld o m.holder → IsHeld o (holder_after m.holder d)
write_held o x m (Readies j t ts) is own law h = absurd (subst IsOwnEvent law.vote.asked own)
write_held o x m (Applies j y) is own law h = absurd (not_told x m j y own law.application)
write_held o x m (Decides y js) is own law h =
    deed_held o o m.holder (Decides y js) (later-than m.holder.clock y.ts law.decision.votes law.decision.time, unvoted m y.trans law.decision.live) (λ b k. k) h
write_held o x m (Forgets t) is own law h = h
write_held o x m d is own law h = absurd is

middle_held : (o : Cells → Type 0) (x : Event) (m : State) (ds rest : List Deed) (ready : List JoinNo) (clock : ℕ) (stamps : List Stamp) → IsAtMostOne ds → IsOwnEvent x → Along state_deed (IsLawfulDeed x) m (ds ++ rest) → IsHeld o m.holder
    → IsHeld o (found_after m.holder ready clock stamps ds)
middle_held o x m [] rest ready clock stamps one own law h = h
middle_held o x m (d ∷ []) rest ready clock stamps one own law h = go (is_effective ready clock stamps d)
  where
    go : (b : Bool) → IsHeld o (state_after holder_after m.holder (cond {A = List Deed} b (d ∷ []) []))
    go true = write_held o x m d one own law.0 h
    go false = h
middle_held o x m (d ∷ f ∷ ds) rest ready clock stamps one own law h = absurd one

stopped_held : (o : Cells → Type 0) (s : State) (x : Event) (r : Option Reply) (acts : List Act) (ready : List JoinNo) (clock : ℕ) (stamps : List Stamp) → IsOwnEvent x → IsStopped acts
    → Along state_deed (IsLawfulDeed x) s (event_deeds s x r acts ++ flat_map (act_deeds s x) acts ++ done_deeds s x r) → IsHeld o s.holder
    → IsHeld o (found_after s.holder ready clock stamps (event_deeds s x r acts ++ flat_map (act_deeds s x) acts ++ done_deeds s x r))
stopped_held o s x r acts ready clock stamps own stopped law h =
    let first : List Deed = event_deeds s x r acts in
    let middle : List Deed = flat_map (act_deeds s x) acts in
    let last : List Deed = done_deeds s x r in
    let aside : AllByRecursion IsAside first = event_aside s x r acts own in
    let m : State = state_after state_deed s first in
    let same : m.holder ≡ s.holder = aside_after first s aside in
    let found : IsHeld o (found_after m.holder ready clock stamps middle) =
    middle_held o x m middle last ready clock stamps (stopped_write s x acts stopped) own (along_behind x first (middle ++ last) s (subst (Along state_deed (IsLawfulDeed x) s) (append_assoc first middle last) law)) (subst (IsHeld o) (sym same) h) in
    subst (IsHeld o) (sym (
    found-append ready clock stamps (first ++ middle) last s.holder
    ∙ ap (λ (ds : List Deed). state_after holder_after (found_after s.holder ready clock stamps (first ++ middle)) ds) (none_performed ready clock stamps s x r)
    ∙ found-append ready clock stamps first middle s.holder
    ∙ ap (λ (g : Holder). found_after g ready clock stamps middle) (aside_found ready clock stamps first s.holder aside)))
    (subst (λ (g : Holder). IsHeld o (found_after g ready clock stamps middle)) same found)

-- ---- a restart

started_stands : (o : Cells → Type 0) (s : State) (acts : List Act) → Regains s acts → Stands o s → StandsNow o (state_after state_deed s (flat_map (act_deeds s event.Restart) acts ++ []))
started_stands o s (act.Regained epoch clock ready stamps ∷ []) regains h =
    let m : State = state_after state_deed s (resolved s ready clock stamps) in
    let counted : IsCounted s m = found_counted ready clock stamps s.pending s h.made in
    let holds : IsHeld o m.holder = subst (IsHeld o) (sym (holders-after (resolved s ready clock stamps) s)) (h.found ready clock stamps) in
    let later : m.holder.kept ≤ clock = (let same : clock ≡ m.holder.kept = regains.1.clock in omega (arith, same)) in
    let up : m.ids.epoch < epoch = (let one : epoch ≡ s.ids.epoch + 1 = regains.0 in let same : m.ids.epoch ≡ s.ids.epoch = counted.epoch in omega (arith, one, same)) in
    let now : StandsNow o (state_deed m (Restarts epoch clock)) = record {
      held = deed_held o o m.holder (Restarts epoch clock) later (λ b k. k) holds;
      made = all-map (WasMade m.ids) (WasMade (ids_after m.ids (Restarts epoch clock))) (λ f w. elim w [ inl l ↦ inl (omega (arith, l, up)) | inr l ↦ (let same : f.epoch ≡ m.ids.epoch = l.0 in inl (omega (arith, same, up))) ]) m.holder.made counted.made;
    } in
    subst (StandsNow o) (sym (
    ap (state_after state_deed s) (append-nil ((resolved s ready clock stamps ++ Restarts epoch clock ∷ []) ++ []) ∙ append-nil (resolved s ready clock stamps ++ Restarts epoch clock ∷ []))
    ∙ deeds-append (resolved s ready clock stamps) (Restarts epoch clock ∷ []) s)) now
  where
    deeds-append : (xs ys : List Deed) (s : State) → state_after state_deed s (xs ++ ys) ≡ state_after state_deed (state_after state_deed s xs) ys
    deeds-append [] ys s = refl
    deeds-append (d ∷ xs) ys s = deeds-append xs ys (state_deed s d)
started_stands o s acts regains h = absurd regains

-- ---- an entry, and a journal

now_of : (o : Cells → Type 0) (s : State) → Stands o s → StandsNow o s
now_of o s h = record { held = h.held; made = h.made }

-- one by a call, a timeout or a tick
own_did : (o : Cells → Type 0) (s : State) (e : Entry) → IsOwnEvent e.event → list_any regained_by e.acts ≡ false → Along state_deed (IsLawfulDeed e.event) s (tried s e) → Stands o s → StandsNow o (did s e)
own_did o s e own none law h = deeds_stand o e.event s (tried s e) s own (tried-from s e.event e.reply e.acts none) law (now_of o s h)

entry_did : (o : Cells → Type 0) (s : State) (e : Entry) (x : Event) → e.event ≡ x → IsOwnEvent x → DeedsAreLawful s e x → StartsRight s e x → Stands o s → StandsNow o (did s e)
entry_did o s e event.Restart is own law start h =
    subst (λ (y : Event). StandsNow o (state_after state_deed s (event_deeds s y e.reply e.acts ++ flat_map (act_deeds s y) e.acts ++ done_deeds s y e.reply))) (sym is) (started_stands o s e.acts start.0 h)
entry_did o s e (event.Call client epoch number c) is own law start h = own_did o s e (subst IsOwnEvent (sym is) tt) start.0 (subst (λ (y : Event). Along state_deed (IsLawfulDeed y) s (tried s e)) (sym is) law) h
entry_did o s e (event.Timeout t) is own law start h = own_did o s e (subst IsOwnEvent (sym is) tt) start.0 (subst (λ (y : Event). Along state_deed (IsLawfulDeed y) s (tried s e)) (sym is) law) h
entry_did o s e event.Tick is own law start h = own_did o s e (subst IsOwnEvent (sym is) tt) start.0 (subst (λ (y : Event). Along state_deed (IsLawfulDeed y) s (tried s e)) (sym is) law) h
entry_did o s e event.Force is own law start h = own_did o s e (subst IsOwnEvent (sym is) tt) start.0 (subst (λ (y : Event). Along state_deed (IsLawfulDeed y) s (tried s e)) (sym is) law) h
entry_did o s e (event.Arrive from m) is own law start h = absurd own

-- a restart is no stop
start_goes_on : (s : State) (acts : List Act) → Regains s acts → list_any is_stop acts ≡ true → ⊥
start_goes_on s (act.Regained epoch clock ready stamps ∷ []) regains is = let wrong : false ≡ true = is in cc
start_goes_on s acts regains is = regains

halted_found : (o : Cells → Type 0) (s : State) (e : Entry) (x : Event) → e.event ≡ x → IsOwnEvent x → DeedsAreLawful s e x → StartsRight s e x → stops e ≡ true → IsStopped e.acts → IsHeld o s.holder
    → (ready : List JoinNo) (clock : ℕ) (stamps : List Stamp) → IsHeld o (found_after s.holder ready clock stamps (tried s e))
halted_found o s e x is own law start halts stopped h ready clock stamps =
    subst (λ (y : Event). IsHeld o (found_after s.holder ready clock stamps (event_deeds s y e.reply e.acts ++ flat_map (act_deeds s y) e.acts ++ done_deeds s y e.reply))) (sym is)
    (stopped_held o s x e.reply e.acts ready clock stamps own stopped
    (subst (λ (y : Event). Along state_deed (IsLawfulDeed x) s (event_deeds s y e.reply e.acts ++ flat_map (act_deeds s y) e.acts ++ done_deeds s y e.reply)) is (lawful x law start)) h)
  where
    lawful : (x : Event) → DeedsAreLawful s e x → StartsRight s e x → Along state_deed (IsLawfulDeed x) s (tried s e)
    lawful event.Restart law start = absurd (start_goes_on s e.acts start.0 halts)
    lawful (event.Call client epoch number c) law start = law
    lawful (event.Arrive from m) law start = law
    lawful (event.Timeout t) law start = law
    lawful event.Tick law start = law
    lawful event.Force law start = law

entry_stands : (o : Cells → Type 0) (s : State) (e : Entry) → IsOwnEvent e.event → IsLawfulEntry s e → Stands o s → Stands o (next s e)
entry_stands o s e own law h = go (stops e) refl
  where
    done : StandsNow o (did s e)
    done = entry_did o s e e.event refl own law.deeds law.restart h

    halts : stops e ≡ true → IsStopped e.acts
    halts is = (subst (λ (b : Bool). Where b (IsStopped e.acts × TellsStop e.event e.reply) (Unit {0})) is law.stopped).0

    go : (b : Bool) → stops e ≡ b → Stands o (cond {A = State} b (halted s e) (told s e))
    go true is = record { held = h.held; made = h.made; found = halted_found o s e e.event refl own law.deeds law.restart is (halts is) h.held }
    go false is = record { held = done.held; made = done.made; found = λ ready clock stamps. done.held }

pub journal_stands : (o : Cells → Type 0) (s : State) (es : List Entry) → AreOwnEvents es → Along next IsLawfulEntry s es → Stands o s → Stands o (state_after next s es)
journal_stands o s [] own law h = h
journal_stands o s (e ∷ es) own law h = journal_stands o (next s e) es own.1 law.1 (entry_stands o s e own.0 law.0 h)

-- ---- at the start

-- of a server that keeps no part that is ready
pub opened_stands : (o : Start) → o.ready ≡ [] → AreSound o.cells → AreSized (map.get o.cells) → Stands AreSound (opened o)
opened_stands o none sound sized = record {
  held = subst HeldWith (sym none) opened_held;
  made = tt;
  found = λ ready clock stamps. subst HeldWith (sym none) opened_held;
}
  where
    HeldWith : List ReadyNote → Type 0
    HeldWith rs = IsHeld AreSound (record { server = o.server; clock = o.clock; kept = o.clock; cells = o.cells; lives = lives_noted rs; made = []; applied = []; left = [] })

    opened_held : HeldWith []
    opened_held = record {
      base = o.cells;
      from = sound;
      base_sized = sized;
      parts = [];
      ids = [];
      list = refl;
      left_so = refl;
      good = tt;
      files = refl;
      alike = λ f. refl;
      sized = sized;
      rising = tt;
      below = tt;
      order = le_refl _;
      given = λ f none. refl;
      live = λ t l is. (let wrong : None ≡ Some l = is in cc);
      agree = λ t u k l a b away. (let wrong : None ≡ Some k = a in cc);
    }

-- ---- what follows

pages_of : (ds : List PerformedCall) → AreFormed ds → AllByRecursion (λ (d : PerformedCall). HasItsPages d.call) ds
pages_of [] h = tt
pages_of (d ∷ ds) h = (h.0.0, pages_of ds h.1)

good_pages : (server : ℕ) (xs : List Item) (s : Standing) → AreGood server s xs → HaveTheirPages (history_of xs)
good_pages server [] s g = tt
good_pages server (x ∷ xs) s g = (pages_of x.1.calls g.0.formed, good_pages server xs (after_part server s x.1) g.1)

module _ (s : State) (h : Stands AreSound s) where
  listed : history_of h.held.parts ≡ in_order s.holder
  listed = ap (λ (ds : List (Stamp × Decided)). list_map (λ (x : Stamp × Decided). x.1) ds) h.held.list

  -- the committed cells are well-formed files
  pub cells_sound : AreSound s.holder.cells
  cells_sound =
      subst AreSound (one_thread AreSound s.holder h.held).1
      (end_sound s.holder.server (starting h.held.base) (in_order s.holder) (subst HaveTheirPages listed (good_pages s.holder.server h.held.parts (starting h.held.base) h.held.good)) h.held.from)

  -- and so are they with what a live part changes, which has not voted
  pub live_sound : (t : TransId) (l : Life) → s.holder.lives t ≡ Some l → l.vote ≡ None → AreSound (edits_map l.edits s.holder.cells)
  live_sound t l is active =
      let g : IsGoodLife s.holder.server s.holder.cells h.held.ids s.holder.made h.held.parts l = (own-life s.holder.server s.holder.cells h.held.ids s.holder.made h.held.parts l active (h.held.live t l is)).1 in
      let base : Standing = now_at s.holder.cells h.held.ids in
      let files : (after_part s.holder.server base (part_of l)).files ≡ edits_map l.edits s.holder.cells = files-changed s.holder.server l.who l.calls base ∙ ap (λ (es : List Edit). edits_map es s.holder.cells) g.edits in
      subst AreSound files (steps_sound s.holder.server base l.who l.calls (pages_of l.calls g.right.formed) cells_sound)
