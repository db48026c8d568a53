-- a passing refusal leaves what a server holds, but for what waiting calls are granted
use Rattle.std.specs.Prelude.{Bool, true, false, cond, ◌&&◌, ◌||◌, ◌==◌, not, Option, None, Some, is_some, is_none, flat_map}
use Rattle.std.specs.List.{list_any, AllByRecursion}
use Rattle.std.proofs.Common.{◌≡◌, ℕ, List, [], ◌∷◌, ◌++◌, refl, sym, ap, subst, ◌∙◌}
use Rattle.alp_base.specs.declared.choices.Access.{Access}
use Rattle.alp_base.specs.declared.choices.Choice.{Choice}
use Rattle.alp_base.specs.declared.ids.FileId.{FileId}
use Rattle.alp_base.specs.declared.ids.JoinNo.{JoinNo}
use Rattle.alp_base.specs.declared.ids.TransId.{TransId}
use Rattle.alp_base.specs.declared.ids.Stamp.{Stamp}
use Rattle.alp_modes.specs.declared.Mode.{Mode}
use Rattle.alp_files.specs.declared.call.Call.{Call}
use Rattle.alp_files.specs.declared.call.Call.TheVariants as call
use Rattle.alp_files.specs.declared.reply.Reply.{Reply}
use Rattle.alp_files.specs.declared.reply.Reply.TheVariants as reply
use Rattle.alp_files.specs.declared.refusal.Refusal.{Refusal}
use Rattle.alp_files.specs.declared.refusal.Refusal.TheVariants as refusal
use Rattle.alp_files.specs.declared.refusal.Cause.{Cause}
use Rattle.alp_files.specs.declared.refusal.Cause.TheVariants as cause
use Rattle.alp_files.specs.declared.refusal.Why.{Why}
use Rattle.alp_files.specs.Locks.{needs_of}
use Rattle.alp_files.specs.Passing.{is_passing, is_passing_refusal}
use Rattle.alp_files.proofs.CoverLemmas.{granted-more}
use Rattle.alp_journal.specs.declared.act.Act.{Act}
use Rattle.alp_journal.specs.declared.act.Act.TheVariants as act
use Rattle.alp_journal.specs.declared.entry.Entry.{Entry}
use Rattle.alp_journal.specs.declared.event.Event.{Event}
use Rattle.alp_journal.specs.declared.event.Event.TheVariants as event
use Rattle.alp_journal.specs.Along.{Along, Where, state_after}
use Rattle.alp_journal.specs.Deeds.{Deed, Begins, Joins, Enters, Quits, Aborts, Grants, Performs, Releases, Readies, Applies, Registers, Finishes, Hears, Decides, Ends, Acknowledges, Forgets, Restarts}
use Rattle.alp_journal.specs.Ids.{same_trans, has_server}
use Rattle.alp_journal.specs.Coordinator.{Fate, Undrawn, Running, Finishing, Committed, Forgotten, begun, registered, decided, ended, acknowledged, forgotten, has_all, fate_after, is_running, has_votes}
use Rattle.alp_journal.specs.Holder.{Holder, Life, holder_after, grants, held_for, view_in}
use Rattle.alp_journal.specs.Desk.{Desk, file_trans, is_not_yet, waiting_of}
use Rattle.alp_journal.specs.State.{State, state_deed, has_part, is_file_drawn, join_for}
use Rattle.alp_journal.specs.Moves.{is_new, joins_here, ends_by, finishes, call_deeds, event_deeds, asks_for, grants_to, begins_at, act_deeds, answered, is_of_no_file, done_by, done_of, done_deeds, next_join, principal, stops, tried, told, halted, next}
use Rattle.alp_journal.specs.Laws.{IsLawfulDeed, IsLawfulEntry, ReleasesEnded, WaitsInTurn, drawn_by, released_by, regained_by, ended_by, DecidesAt}
use Rattle.alp_journal.specs.Messages.{why_not_own}
use Rattle.alp_journal.specs.Answers.{Part, NoPart, AtWork, own_part, join_part, at_part, First, IsAnswer, finish_reply, voted_reply}
use Rattle.alp_journal.specs.Answered.{CountsVotes, IsAnsweredEntry}
use Rattle.alp_journal.specs.Account.{IsOwnEvent}
use Rattle.alp_journal.specs.Refused.{LivesOn, IsAsBefore, IsReached, is_finish, is_turned_away}
use Rattle.alp_journal.proofs.IdLemmas.{same_trans-true, all-append}
use Rattle.alp_journal.proofs.Origins.{all-cond}
use Rattle.alp_journal.proofs.ReachedLemmas.{AreOwn, reached_order}

-- ---- as before, step by step

pub part_same : (o : Option Life) → LivesOn o o
part_same None = refl
part_same (Some l) = record { same = refl; more = λ r m h. h }

lives_trans : (a b c : Option Life) → LivesOn a b → LivesOn b c → LivesOn a c
lives_trans None b c h k = subst (λ (x : Option Life). LivesOn x c) h k
lives_trans (Some l) None c h k = absurd h
lives_trans (Some l) (Some m) None h k = k
lives_trans (Some l) (Some m) (Some n) h k = record { same = k.same ∙ (λ i. record (h.same i) { held = n.held }); more = λ r x g. k.more r x (h.more r x g) }

pub as_same : (h : Holder) → IsAsBefore h h
as_same h = record { holder = refl; lives = λ t. part_same (h.lives t) }

pub as_trans : (a b c : Holder) → IsAsBefore a b → IsAsBefore b c → IsAsBefore a c
as_trans a b c h k = record {
  holder = k.holder ∙ (λ i. record (h.holder i) { lives = c.lives });
  lives = λ t. lives_trans (a.lives t) (b.lives t) (c.lives t) (h.lives t) (k.lives t);
}

-- a deed that moves nothing of what is held, but for what is granted
abbrev IsStill : Deed → Type 0
IsStill (Begins t client who seen) = ⊥
IsStill (Enters j t client who) = ⊥
IsStill (Performs t d) = ⊥
IsStill (Releases t) = ⊥
IsStill (Readies j t ts) = ⊥
IsStill (Aborts j t client c) = ⊥
IsStill (Decides x js) = ⊥
IsStill (Applies j x) = ⊥
IsStill (Restarts epoch clock) = ⊥
IsStill d = Unit {0}

pub grant_still : (h : Holder) (t : TransId) (c : Call) (o : Option Life) → h.lives t ≡ o → IsAsBefore h (grants h t c o)
grant_still h t c None is = as_same h
grant_still h t c (Some l) is = record { holder = refl; lives = λ u. go u (same_trans u t) refl }
  where
    go : (u : TransId) (b : Bool) → same_trans u t ≡ b → LivesOn (h.lives u) (cond {A = Option Life} b (Some (record l { held = held_for h l c })) (h.lives u))
    go u true e = subst (λ (x : Option Life). LivesOn x (Some (record l { held = held_for h l c }))) (sym (ap h.lives (same_trans-true u t e) ∙ is))
        (record { same = refl; more = granted-more l.held (needs_of (view_in h l) l.own c) })
    go u false e = part_same (h.lives u)

deed_still : (h : Holder) (d : Deed) → IsStill d → IsAsBefore h (holder_after h d)
deed_still h (Grants t c) still = grant_still h t c (h.lives t) refl
deed_still h (Begins t client who seen) still = absurd still
deed_still h (Enters j t client who) still = absurd still
deed_still h (Performs t d) still = absurd still
deed_still h (Releases t) still = absurd still
deed_still h (Readies j t ts) still = absurd still
deed_still h (Aborts j t client c) still = absurd still
deed_still h (Decides x js) still = absurd still
deed_still h (Applies j x) still = absurd still
deed_still h (Restarts epoch clock) still = absurd still
deed_still h d still = as_same h

deeds_still : (s : State) (ds : List Deed) → AllByRecursion IsStill ds → IsAsBefore s.holder (state_after state_deed s ds).holder
deeds_still s [] still = as_same s.holder
deeds_still s (d ∷ ds) still = as_trans s.holder (holder_after s.holder d) (state_after state_deed s (d ∷ ds)).holder (deed_still s.holder d still.0) (deeds_still (state_deed s d) ds still.1)

entry_still : (s : State) (e : Entry) → (stops e ≡ false → AllByRecursion IsStill (tried s e)) → IsAsBefore s.holder (next s e).holder
entry_still s e still = go (stops e) refl
  where
    go : (b : Bool) → stops e ≡ b → IsAsBefore s.holder (cond {A = State} b (halted s e) (told s e)).holder
    go true is = as_same s.holder
    go false is = deeds_still s (tried s e) (still is)

-- ---- the deeds of acts

all-left : {A : Type 0} (P : A → Type 0) (xs ys : List A) → AllByRecursion P (xs ++ ys) → AllByRecursion P xs
all-left P [] ys h = tt
all-left P (x ∷ xs) ys h = (h.0, all-left P xs ys h.1)

pub all-right : {A : Type 0} (P : A → Type 0) (xs ys : List A) → AllByRecursion P (xs ++ ys) → AllByRecursion P ys
all-right P [] ys h = h
all-right P (x ∷ xs) ys h = all-right P xs ys h.1

-- no vote, and none of what votes lead to
abbrev pub IsNoVote : Deed → Type 0
IsNoVote (Readies j t ts) = ⊥
IsNoVote (Applies j x) = ⊥
IsNoVote (Decides x js) = ⊥
IsNoVote d = Unit {0}

-- it ends no part
abbrev pub IsNoEnd : Deed → Type 0
IsNoEnd (Ends t client c) = ⊥
IsNoEnd (Quits j t client c) = ⊥
IsNoEnd (Aborts j t client c) = ⊥
IsNoEnd (Decides x js) = ⊥
IsNoEnd (Applies j x) = ⊥
IsNoEnd d = Unit {0}

pub none_ended : (s : State) (ds : List Deed) → AllByRecursion IsNoEnd ds → flat_map (ended_by s) ds ≡ []
none_ended s [] h = refl
none_ended s (Ends t client c ∷ ds) h = absurd h.0
none_ended s (Quits j t client c ∷ ds) h = absurd h.0
none_ended s (Aborts j t client c ∷ ds) h = absurd h.0
none_ended s (Decides x js ∷ ds) h = absurd h.0
none_ended s (Applies j x ∷ ds) h = absurd h.0
none_ended s (d ∷ ds) h = none_ended s ds h.1

module _ (s : State) (e : Event) where
  pub grants_all : (P : Deed → Type 0) → ((t : TransId) (c : Call) → P (Grants t c)) → (t : TransId) (o : Option Call) → AllByRecursion P (grants_to t o)
  grants_all P p t None = tt
  grants_all P p t (Some c) = (p t c, tt)

  begins_no_end : (e : Event) (t : TransId) → AllByRecursion IsNoEnd (begins_at s e t)
  begins_no_end (event.Call client epoch number (call.Begin seen)) t = (tt, tt)
  begins_no_end (event.Call client epoch number c) t = tt
  begins_no_end e t = tt

  -- acts that are no votes end no part
  pub acts_no_end : (acts : List Act) → list_any regained_by acts ≡ false → AllByRecursion IsNoVote (flat_map (act_deeds s e) acts) → AllByRecursion IsNoEnd (flat_map (act_deeds s e) acts)
  acts_no_end [] r v = tt
  acts_no_end (act.Granted t ∷ acts) r v =
      let ds : List Deed = grants_to t (asks_for s e t (s.holder.lives t)) in
      all-append IsNoEnd ds (flat_map (act_deeds s e) acts) (grants_all IsNoEnd (λ t c. tt) t (asks_for s e t (s.holder.lives t))) (acts_no_end acts r (all-right IsNoVote ds (flat_map (act_deeds s e) acts) v))
  acts_no_end (act.Drawn t ∷ acts) r v =
      all-append IsNoEnd (begins_at s e t) (flat_map (act_deeds s e) acts) (begins_no_end e t) (acts_no_end acts r (all-right IsNoVote (begins_at s e t) (flat_map (act_deeds s e) acts) v))
  acts_no_end (act.Registered t j ∷ acts) r v = (tt, acts_no_end acts r v.1)
  acts_no_end (act.Readied t j ts ∷ acts) r v = absurd v.0
  acts_no_end (act.Decided x js ∷ acts) r v = absurd v.0
  acts_no_end (act.Applied j x ∷ acts) r v = absurd v.0
  acts_no_end (act.Released t ∷ acts) r v = (tt, acts_no_end acts r v.1)
  acts_no_end (act.Forgot t ∷ acts) r v = (tt, acts_no_end acts r v.1)
  acts_no_end (act.Regained epoch clock ready xs ∷ acts) r v = let wrong : true ≡ false = r in cc
  acts_no_end (act.Sent to m ∷ acts) r v = acts_no_end acts r v
  acts_no_end (act.Stopped ∷ acts) r v = acts_no_end acts r v
  acts_no_end (act.Failed ∷ acts) r v = acts_no_end acts r v

  -- and move nothing, where none draws an id or lets go
  acts_still : (acts : List Act) → list_any regained_by acts ≡ false → flat_map drawn_by acts ≡ [] → flat_map released_by acts ≡ [] → AllByRecursion IsNoVote (flat_map (act_deeds s e) acts)
      → AllByRecursion IsStill (flat_map (act_deeds s e) acts)
  acts_still [] r d l v = tt
  acts_still (act.Granted t ∷ acts) r d l v =
      let ds : List Deed = grants_to t (asks_for s e t (s.holder.lives t)) in
      all-append IsStill ds (flat_map (act_deeds s e) acts) (grants_all IsStill (λ t c. tt) t (asks_for s e t (s.holder.lives t))) (acts_still acts r d l (all-right IsNoVote ds (flat_map (act_deeds s e) acts) v))
  acts_still (act.Drawn t ∷ acts) r d l v = let wrong : (t ∷ flat_map drawn_by acts) ≡ [] = d in cc
  acts_still (act.Registered t j ∷ acts) r d l v = (tt, acts_still acts r d l v.1)
  acts_still (act.Readied t j ts ∷ acts) r d l v = absurd v.0
  acts_still (act.Decided x js ∷ acts) r d l v = absurd v.0
  acts_still (act.Applied j x ∷ acts) r d l v = absurd v.0
  acts_still (act.Released t ∷ acts) r d l v = let wrong : (t ∷ flat_map released_by acts) ≡ [] = l in cc
  acts_still (act.Forgot t ∷ acts) r d l v = (tt, acts_still acts r d l v.1)
  acts_still (act.Regained epoch clock ready xs ∷ acts) r d l v = let wrong : true ≡ false = r in cc
  acts_still (act.Sent to m ∷ acts) r d l v = acts_still acts r d l v
  acts_still (act.Stopped ∷ acts) r d l v = acts_still acts r d l v
  acts_still (act.Failed ∷ acts) r d l v = acts_still acts r d l v

-- ---- an entry

-- the joins that a call makes
abbrev IsJoin : Deed → Type 0
IsJoin (Joins j t client who) = Unit {0}
IsJoin d = ⊥

join_still : (d : Deed) → IsJoin d → IsStill d × IsNoEnd d
join_still (Joins j t client who) h = (tt, tt)
join_still d h = absurd h

joins_still : (ds : List Deed) → AllByRecursion IsJoin ds → AllByRecursion IsStill ds × AllByRecursion IsNoEnd ds
joins_still [] h = (tt, tt)
joins_still (d ∷ ds) h = let one = join_still d h.0 in let more = joins_still ds h.1 in ((one.0, more.0), (one.1, more.1))

-- what is asked of an entry, so that it moves nothing
record Stands (s : State) (e : Entry) : Type 0 where
  joins : AllByRecursion IsJoin (event_deeds s e.event e.reply e.acts)
  none_done : done_deeds s e.event e.reply ≡ []
  votes : AllByRecursion IsNoVote (tried s e)
  drawn : flat_map drawn_by e.acts ≡ []
  regained : list_any regained_by e.acts ≡ false
  released : flat_map released_by e.acts ≡ flat_map (ended_by s) (tried s e)

tried_still : (s : State) (e : Entry) → Stands s e → AllByRecursion IsStill (tried s e)
tried_still s e o =
    let first : List Deed = event_deeds s e.event e.reply e.acts in
    let acts : List Deed = flat_map (act_deeds s e.event) e.acts in
    let done : List Deed = done_deeds s e.event e.reply in
    let at_first = joins_still first o.joins in
    let votes : AllByRecursion IsNoVote acts = all-right IsNoVote first acts (all-left IsNoVote (first ++ acts) done o.votes) in
    let ends : AllByRecursion IsNoEnd (tried s e) =
    all-append IsNoEnd (first ++ acts) done (all-append IsNoEnd first acts at_first.1 (acts_no_end s e.event e.acts o.regained votes)) (subst (AllByRecursion IsNoEnd) (sym o.none_done) tt) in
    let none : flat_map released_by e.acts ≡ [] = o.released ∙ none_ended s (tried s e) ends in
    all-append IsStill (first ++ acts) done (all-append IsStill first acts at_first.0 (acts_still s e.event e.acts o.regained o.drawn none votes)) (subst (AllByRecursion IsStill) (sym o.none_done) tt)

cond_none : {A : Type 0} (b : Bool) (xs : List A) → xs ≡ [] → cond b xs [] ≡ []
cond_none true xs h = h
cond_none false xs h = refl

-- ---- nothing is performed

not_done : (s : State) (c : Call) (r : Reply) (o : Option TransId) → (is_passing r || is_of_no_file s c r) ≡ true → done_by s c r o ≡ []
not_done s c r None h = refl
not_done s c r (Some t) h = ap (λ (b : Bool). cond {A = List Deed} b [] (Performs t (record { call = c; reply = r }) ∷ [])) h

passing_done : (s : State) (r : Reply) (o : Option Call) → is_passing r ≡ true → done_of s r o ≡ []
passing_done s r None h = refl
passing_done s r (Some c) h = not_done s c r (file_trans c) (ap (λ (b : Bool). b || is_of_no_file s c r) h)

-- ---- a call that is no Finish

not_decided : (t : TransId) (client epoch number : ℕ) (c : Call) → is_finish c ≡ false → DecidesAt t (event.Call client epoch number c) → ⊥
not_decided t client epoch number (call.Finish u commit) plain h = let wrong : true ≡ false = plain in cc
not_decided t client epoch number c plain h = h

not_voted : (client epoch number : ℕ) (c : Call) → is_finish c ≡ false → (s : State) (d : Deed) → IsLawfulDeed (event.Call client epoch number c) s d → IsNoVote d
not_voted client epoch number c plain s (Readies j t ts) law = absurd (subst IsOwnEvent law.vote.asked tt)
not_voted client epoch number c plain s (Applies j x) law = absurd (subst IsOwnEvent law.application.told tt)
not_voted client epoch number c plain s (Decides x js) law = absurd (not_decided x.trans client epoch number c plain law.decision.asked)
not_voted client epoch number c plain s d law = tt

none_voted : (x : Event) → ((s : State) (d : Deed) → IsLawfulDeed x s d → IsNoVote d) → (ds : List Deed) (s : State) → Along state_deed (IsLawfulDeed x) s ds → AllByRecursion IsNoVote ds
none_voted x none [] s law = tt
none_voted x none (d ∷ ds) s law = (none s d law.0, none_voted x none ds (state_deed s d) law.1)

call_joins : (s : State) (client : ℕ) (c : Call) (r : Reply) → is_finish c ≡ false → AllByRecursion IsJoin (call_deeds s client c r)
call_joins s client (call.Join t) r plain =
    all-cond IsJoin (is_not_yet r) (joins_here s client t) [] (all-cond IsJoin (has_part s client t) [] (Joins (next_join s) t client (principal s client) ∷ []) tt (tt, tt)) tt
call_joins s client (call.Finish t commit) r plain = let wrong : true ≡ false = plain in cc
call_joins s client c r plain = tt

module _ (s : State) (client epoch number : ℕ) (f : Refusal) (acts : List Act) where
  abbrev event_of : Call → Event
  event_of c = event.Call client epoch number c

  abbrev pub entry_of : Call → Entry
  entry_of c = record { event = event_of c; reply = Some (reply.Refused f); acts = acts }

  pub let_go : (c : Call) → IsLawfulEntry s (entry_of c) → stops (entry_of c) ≡ false → flat_map released_by acts ≡ flat_map (ended_by s) (tried s (entry_of c))
  let_go c law up = (subst (λ (b : Bool). Where b (Unit {0}) (ReleasesEnded s (entry_of c) × WaitsInTurn (next s (entry_of c)))) up law.released).0.0

  pub none_drawn : (c : Call) → IsLawfulEntry s (entry_of c) → flat_map drawn_by acts ≡ []
  none_drawn c law = law.drawn ∙ cond_none (is_new s client epoch number) [] refl

  call_still : (c : Call) → is_finish c ≡ false → done_of s (reply.Refused f) (answered s client c) ≡ [] → IsLawfulEntry s (entry_of c) → IsAsBefore s.holder (next s (entry_of c)).holder
  call_still c plain none law = entry_still s (entry_of c) (λ up. tried_still s (entry_of c) (record {
    joins = all-cond IsJoin (is_new s client epoch number) (call_deeds s client c (reply.Refused f)) [] (call_joins s client c (reply.Refused f) plain) tt;
    none_done = cond_none (is_new s client epoch number) (done_of s (reply.Refused f) (answered s client c)) none;
    votes = none_voted (event_of c) (not_voted client epoch number c plain) (tried s (entry_of c)) s law.deeds;
    drawn = none_drawn c law;
    regained = law.restart.0;
    released = let_go c law up;
  }))

pub same_entry : (e : Entry) (x : Event) (r : Option Reply) → e.event ≡ x → e.reply ≡ r → e ≡ record { event = x; reply = r; acts = e.acts }
same_entry e x r is told = λ i. record { event = is i; reply = told i; acts = e.acts }

pub refused_leaves : (s : State) (e : Entry) (client epoch number : ℕ) (c : Call) (f : Refusal) → IsLawfulEntry s e → e.event ≡ event.Call client epoch number c → is_finish c ≡ false → e.reply ≡ Some (reply.Refused f) → is_passing_refusal f ≡ true
    → IsAsBefore s.holder (next s e).holder
refused_leaves s e client epoch number c f law is plain told passing =
    let same : e ≡ entry_of s client epoch number f e.acts c = same_entry e (event.Call client epoch number c) (Some (reply.Refused f)) is told in
    subst (λ (x : Entry). IsAsBefore s.holder (next s x).holder) (sym same)
    (call_still s client epoch number f e.acts c plain (passing_done s (reply.Refused f) (answered s client c) passing) (subst (IsLawfulEntry s) same law))

pub unknown_leaves : (s : State) (e : Entry) (client epoch number : ℕ) (t : TransId) (file : FileId) (access : Access) (mode : Mode) (choice : Choice) → IsLawfulEntry s e
    → e.event ≡ event.Call client epoch number (call.OpenFile t file access mode choice) → e.reply ≡ Some (reply.Refused refusal.UnknownFile) → is_file_drawn s file ≡ false → IsAsBefore s.holder (next s e).holder
unknown_leaves s e client epoch number t file access mode choice law is told unknown =
    let c : Call = call.OpenFile t file access mode choice in
    let same : e ≡ entry_of s client epoch number refusal.UnknownFile e.acts c = same_entry e (event.Call client epoch number c) (Some (reply.Refused refusal.UnknownFile)) is told in
    subst (λ (x : Entry). IsAsBefore s.holder (next s x).holder) (sym same)
    (call_still s client epoch number refusal.UnknownFile e.acts c refl (not_done s c (reply.Refused refusal.UnknownFile) (Some t) (ap not unknown)) (subst (IsLawfulEntry s) same law))

-- ---- a Finish

-- no transaction is finished or hears a vote by it
abbrev IsUnheard : Deed → Type 0
IsUnheard (Finishes t) = ⊥
IsUnheard (Hears t j ts) = ⊥
IsUnheard (Restarts epoch clock) = ⊥
IsUnheard d = Unit {0}

module _ (s : State) (e : Event) where
  begins_unheard : (e : Event) (t : TransId) → AllByRecursion IsUnheard (begins_at s e t)
  begins_unheard (event.Call client epoch number (call.Begin seen)) t = (tt, tt)
  begins_unheard (event.Call client epoch number c) t = tt
  begins_unheard e t = tt

  pub acts_unheard : (acts : List Act) → list_any regained_by acts ≡ false → AllByRecursion IsUnheard (flat_map (act_deeds s e) acts)
  acts_unheard [] r = tt
  acts_unheard (act.Granted t ∷ acts) r =
      all-append IsUnheard (grants_to t (asks_for s e t (s.holder.lives t))) (flat_map (act_deeds s e) acts) (grants_all s e IsUnheard (λ t c. tt) t (asks_for s e t (s.holder.lives t))) (acts_unheard acts r)
  acts_unheard (act.Drawn t ∷ acts) r = all-append IsUnheard (begins_at s e t) (flat_map (act_deeds s e) acts) (begins_unheard e t) (acts_unheard acts r)
  acts_unheard (act.Registered t j ∷ acts) r = (tt, acts_unheard acts r)
  acts_unheard (act.Readied t j ts ∷ acts) r = (tt, acts_unheard acts r)
  acts_unheard (act.Decided x js ∷ acts) r = (tt, acts_unheard acts r)
  acts_unheard (act.Applied j x ∷ acts) r = (tt, acts_unheard acts r)
  acts_unheard (act.Released t ∷ acts) r = (tt, acts_unheard acts r)
  acts_unheard (act.Forgot t ∷ acts) r = (tt, acts_unheard acts r)
  acts_unheard (act.Regained epoch clock ready xs ∷ acts) r = let wrong : true ≡ false = r in cc
  acts_unheard (act.Sent to m ∷ acts) r = acts_unheard acts r
  acts_unheard (act.Stopped ∷ acts) r = acts_unheard acts r
  acts_unheard (act.Failed ∷ acts) r = acts_unheard acts r

one_of : (b : Bool) (x y : Fate) → has_votes x ≡ false → has_votes y ≡ false → has_votes (cond {A = Fate} b x y) ≡ false
one_of true x y h k = h
one_of false x y h k = k

begun_votes : (client : ℕ) (f : Fate) → has_votes f ≡ false → has_votes (begun client f) ≡ false
begun_votes client Undrawn h = refl
begun_votes client f h = h

registered_votes : (j : JoinNo) (f : Fate) → has_votes f ≡ false → has_votes (registered j f) ≡ false
registered_votes j (Running c js) h = one_of (has_server j.server js) (Running c js) (Running c (js ++ j ∷ [])) refl refl
registered_votes j f h = h

decided_votes : (x : Stamp) (ks : List JoinNo) (f : Fate) → has_votes f ≡ false → has_votes (decided x ks f) ≡ false
decided_votes x ks (Finishing c js vs) h = refl
decided_votes x ks f h = h

ended_votes : (c : Cause) (f : Fate) → has_votes f ≡ false → has_votes (ended c f) ≡ false
ended_votes x (Running c js) h = refl
ended_votes x (Finishing c js vs) h = refl
ended_votes x f h = h

acknowledged_votes : (j : JoinNo) (f : Fate) → has_votes f ≡ false → has_votes (acknowledged j f) ≡ false
acknowledged_votes j (Committed x js ds) h = refl
acknowledged_votes j f h = h

forgotten_votes : (f : Fate) → has_votes f ≡ false → has_votes (forgotten f) ≡ false
forgotten_votes (Committed x js ds) h = one_of (has_all ds js) (Forgotten x js) (Committed x js ds) refl refl
forgotten_votes f h = h

pub fate_votes : (d : Deed) (t : TransId) (f : Fate) → IsUnheard d → has_votes f ≡ false → has_votes (fate_after d t f) ≡ false
fate_votes (Begins u client who seen) t f un h = one_of (same_trans u t) (begun client f) f (begun_votes client f h) h
fate_votes (Registers u j) t f un h = one_of (same_trans u t) (registered j f) f (registered_votes j f h) h
fate_votes (Finishes u) t f un h = absurd un
fate_votes (Hears u j ts) t f un h = absurd un
fate_votes (Decides x js) t f un h = one_of (same_trans x.trans t) (decided x js f) f (decided_votes x js f h) h
fate_votes (Ends u client c) t f un h = one_of (same_trans u t) (ended c f) f (ended_votes c f h) h
fate_votes (Acknowledges u j) t f un h = one_of (same_trans u t) (acknowledged j f) f (acknowledged_votes j f h) h
fate_votes (Forgets u) t f un h = one_of (same_trans u t) (forgotten f) f (forgotten_votes f h) h
fate_votes (Restarts epoch clock) t f un h = absurd un
fate_votes d t f un h = h

-- nothing is decided where nothing has all its votes
unvoted : (x : Event) → IsOwnEvent x → (s : State) (d : Deed) → CountsVotes s → IsLawfulDeed x s d → IsNoVote d
unvoted x own s (Readies j t ts) none law = absurd (subst IsOwnEvent law.vote.asked own)
unvoted x own s (Applies j y) none law = absurd (subst IsOwnEvent law.application.told own)
unvoted x own s (Decides y js) none law = let wrong : false ≡ true = sym (none y.trans) ∙ law.decision.voted in cc
unvoted x own s d none law = tt

pub unvoted_along : (x : Event) → IsOwnEvent x → (ds : List Deed) (s : State) → AllByRecursion IsUnheard ds → CountsVotes s → Along state_deed (IsLawfulDeed x) s ds → AllByRecursion IsNoVote ds
unvoted_along x own [] s un none law = tt
unvoted_along x own (d ∷ ds) s un none law = (unvoted x own s d none law.0, unvoted_along x own ds (state_deed s d) un.1 (λ t. fate_votes d t (s.fates t) un.0 (none t)) law.1)

-- its own transaction is not moved where it is turned away
abbrev turned : Reply → Bool
turned (reply.Refused f) = is_turned_away f
turned r = false

wrong_reply : (f : Refusal) (r : Reply) → is_turned_away f ≡ true → turned r ≡ false → reply.Refused f ≡ r → ⊥
wrong_reply f r away other same = let wrong : true ≡ false = sym away ∙ ap turned same ∙ other in cc

voted_turned : (s : State) (t : TransId) (w : Option Why) → turned (voted_reply s t w) ≡ false
voted_turned s t None = refl
voted_turned s t (Some w) = refl

finish_turned : (failed : Bool) (s : State) (t : TransId) (f : Fate) → turned (finish_reply failed s t f) ≡ false
finish_turned failed s t (Running client []) = voted_turned s t (why_not_own failed s t)
finish_turned failed s t (Running client (j ∷ js)) = refl
finish_turned failed s t f = refl

-- what does not run is not moved
other_none : (desk : Desk) (client : ℕ) (t : TransId) (r : Reply) (commit : Bool) (fate : Fate) → is_running fate ≡ false → finishes desk client t commit r fate ≡ []
other_none desk client t r commit (Running c js) h = let wrong : true ≡ false = h in cc
other_none desk client t r true fate h = refl
other_none desk client t r false fate h = refl

-- the answer of a Finish at its own server
module _ (failed : Bool) (s : State) (client : ℕ) (t : TransId) (f : Refusal) where
  abbrev pub OwnAnswer : Bool → Fate → Part → Type 0
  OwnAnswer commit fate p = First (at_part (commit && is_some (waiting_of s.desk client t)) p) (reply.Refused f) (reply.Refused f ≡ cond {A = Reply} commit (finish_reply failed s t fate) (reply.Refused (refusal.Aborted cause.Asked)))

module _ (failed : Bool) (s : State) (client : ℕ) (t : TransId) (f : Refusal) (away : is_turned_away f ≡ true) where
  at_work_none : (commit waits : Bool) (fate : Fate) → First (at_part (commit && waits) AtWork) (reply.Refused f) (reply.Refused f ≡ cond {A = Reply} commit (finish_reply failed s t fate) (reply.Refused (refusal.Aborted cause.Asked))) → ⊥
  at_work_none false waits fate a = wrong_reply f (reply.Refused (refusal.Aborted cause.Asked)) away refl a
  at_work_none true true fate a = wrong_reply f (reply.Refused refusal.NotYet) away refl a
  at_work_none true false fate a = wrong_reply f (finish_reply failed s t fate) away (finish_turned failed s t fate) a

  own_none : (commit : Bool) (fate : Fate) → OwnAnswer failed s client t f commit fate (own_part client (s.desk.dead client t) fate) → finishes s.desk client t commit (reply.Refused f) fate ≡ []
  own_none false (Running c js) a = go (c == client) a
    where
      go : (b : Bool) → OwnAnswer failed s client t f false (Running c js) (cond {A = Part} b AtWork NoPart) → cond {A = List Deed} b (Ends t client cause.Asked ∷ []) [] ≡ []
      go true h = absurd (at_work_none false (is_some (waiting_of s.desk client t)) (Running c js) h)
      go false h = refl
  own_none true (Running c js) a = go (c == client) a
    where
      go : (b : Bool) → OwnAnswer failed s client t f true (Running c js) (cond {A = Part} b AtWork NoPart)
          → cond {A = List Deed} (b && is_none (waiting_of s.desk client t)) (Finishes t ∷ ends_by t client (reply.Refused f)) [] ≡ []
      go true h = absurd (at_work_none true (is_some (waiting_of s.desk client t)) (Running c js) h)
      go false h = refl
  own_none true fate a = refl
  own_none false fate a = refl

  -- what is not of this server does not run here
  not_running : AreOwn s → (t.server == s.holder.server) ≡ false → (b : Bool) → is_running (s.fates t) ≡ b → b ≡ false
  not_running own away true is = let wrong : false ≡ true = sym away ∙ own t is in cc
  not_running own away false is = refl

  finish_none : AreOwn s → (commit : Bool) → IsAnswer failed s client (call.Finish t commit) (reply.Refused f) → finishes s.desk client t commit (reply.Refused f) (s.fates t) ≡ []
  finish_none own commit a = go (t.server == s.holder.server) refl a
    where
      go : (b : Bool) → (t.server == s.holder.server) ≡ b
          → Where b (OwnAnswer failed s client t f commit (s.fates t) (cond {A = Part} b (own_part client (s.desk.dead client t) (s.fates t)) (join_part s (s.desk.dead client t) (join_for s client t)))) (reply.Refused f ≡ reply.Refused refusal.UnknownTrans)
          → finishes s.desk client t commit (reply.Refused f) (s.fates t) ≡ []
      go true is h = own_none commit (s.fates t) h
      go false is h = other_none s.desk client t (reply.Refused f) commit (s.fates t) (not_running own is (is_running (s.fates t)) refl)

turned_passing : (f : Refusal) → is_turned_away f ≡ true → is_passing_refusal f ≡ true
turned_passing (refusal.StaleSession epoch) h = refl
turned_passing refusal.UnknownTrans h = refl
turned_passing refusal.Finishing h = refl
turned_passing f h = let wrong : false ≡ true = h in cc

module _ (s : State) (client epoch number : ℕ) (f : Refusal) (acts : List Act) (t : TransId) (commit : Bool) where
  abbrev pub its : Entry
  its = entry_of s client epoch number f acts (call.Finish t commit)

  pub its_done : is_passing_refusal f ≡ true → done_deeds s its.event its.reply ≡ []
  its_done passing =
      cond_none (is_new s client epoch number) (done_of s (reply.Refused f) (answered s client (call.Finish t commit))) (passing_done s (reply.Refused f) (answered s client (call.Finish t commit)) passing)

  -- a Finish that brings nothing about by itself
  unmoved_still : is_passing_refusal f ≡ true → CountsVotes s → IsLawfulEntry s its → (stops its ≡ false → event_deeds s its.event its.reply acts ≡ []) → IsAsBefore s.holder (next s its).holder
  unmoved_still passing counts law unmoved = entry_still s its (λ up.
      let first : event_deeds s its.event its.reply acts ≡ [] = unmoved up in
      let done : done_deeds s its.event its.reply ≡ [] = its_done passing in
      let middle : List Deed = flat_map (act_deeds s its.event) acts in
      let unheard : AllByRecursion IsUnheard (tried s its) =
      all-append IsUnheard (event_deeds s its.event its.reply acts ++ middle) (done_deeds s its.event its.reply)
      (all-append IsUnheard (event_deeds s its.event its.reply acts) middle (subst (AllByRecursion IsUnheard) (sym first) tt) (acts_unheard s its.event acts law.restart.0)) (subst (AllByRecursion IsUnheard) (sym done) tt) in
      tried_still s its (record {
        joins = subst (AllByRecursion IsJoin) (sym first) tt;
        none_done = done;
        votes = unvoted_along its.event tt (tried s its) s unheard counts law.deeds;
        drawn = none_drawn s client epoch number f acts (call.Finish t commit) law;
        regained = law.restart.0;
        released = let_go s client epoch number f acts (call.Finish t commit) law up;
      }))

  none_moved : (failed : Bool) → is_turned_away f ≡ true → AreOwn s → (b : Bool) → Where b (IsAnswer failed s client (call.Finish t commit) (reply.Refused f)) (Unit {0})
      → cond {A = List Deed} b (finishes s.desk client t commit (reply.Refused f) (s.fates t)) [] ≡ []
  none_moved failed away own true a = finish_none failed s client t f away own commit a
  none_moved failed away own false a = refl

  -- the answer of a new one
  pub its_answer : (failed : Bool) → IsAnsweredEntry failed s its → stops its ≡ false → Where (is_new s client epoch number) (IsAnswer failed s client (call.Finish t commit) (reply.Refused f)) (Unit {0})
  its_answer failed answers up = subst (λ (b : Bool). Where b (Unit {0}) (Where (is_new s client epoch number) (IsAnswer failed s client (call.Finish t commit) (reply.Refused f)) (Unit {0}))) up answers.answered

pub finish_leaves : (failed : Bool) (s : State) (e : Entry) (client epoch number : ℕ) (t : TransId) (commit : Bool) (f : Refusal) → IsReached s → IsLawfulEntry s e → IsAnsweredEntry failed s e
    → e.event ≡ event.Call client epoch number (call.Finish t commit) → e.reply ≡ Some (reply.Refused f) → is_turned_away f ≡ true → IsAsBefore s.holder (next s e).holder
finish_leaves failed s e client epoch number t commit f reached law answers is told away =
    let same : e ≡ entry_of s client epoch number f e.acts (call.Finish t commit) = same_entry e (event.Call client epoch number (call.Finish t commit)) (Some (reply.Refused f)) is told in
    let order = reached_order s reached in
    subst (λ (x : Entry). IsAsBefore s.holder (next s x).holder) (sym same)
    (unmoved_still s client epoch number f e.acts t commit (turned_passing f away) order.votes (subst (IsLawfulEntry s) same law)
    (λ up. none_moved s client epoch number f e.acts t commit failed away order.own (is_new s client epoch number) (its_answer s client epoch number f e.acts t commit failed (subst (IsAnsweredEntry failed s) same answers) up)))

-- one that is told of an end that came before
pub ended_leaves : (s : State) (e : Entry) (client epoch number : ℕ) (t : TransId) (commit : Bool) (why : Cause) → IsReached s → IsLawfulEntry s e → e.event ≡ event.Call client epoch number (call.Finish t commit)
    → e.reply ≡ Some (reply.Refused (refusal.Aborted why)) → (is_new s client epoch number && is_running (s.fates t)) ≡ false → IsAsBefore s.holder (next s e).holder
ended_leaves s e client epoch number t commit why reached law is told over =
    let f : Refusal = refusal.Aborted why in
    let same : e ≡ entry_of s client epoch number f e.acts (call.Finish t commit) = same_entry e (event.Call client epoch number (call.Finish t commit)) (Some (reply.Refused f)) is told in
    let order = reached_order s reached in
    subst (λ (x : Entry). IsAsBefore s.holder (next s x).holder) (sym same)
    (unmoved_still s client epoch number f e.acts t commit refl order.votes (subst (IsLawfulEntry s) same law) (λ up. go (is_new s client epoch number) over))
  where
    go : (b : Bool) → (b && is_running (s.fates t)) ≡ false → cond {A = List Deed} b (finishes s.desk client t commit (reply.Refused (refusal.Aborted why)) (s.fates t)) [] ≡ []
    go true o = other_none s.desk client t (reply.Refused (refusal.Aborted why)) commit (s.fates t) o
    go false o = refl
