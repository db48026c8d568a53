-- a file that another server gave, or a later epoch, is in no journal of a server
use Rattle.std.specs.Prelude.{cond, ◌==◌, ◌&&◌, nat_le, Bool, true, false, filter, Option, None, Some, is_some}
use Rattle.std.specs.List.{AllByRecursion, list_all}
use Rattle.std.specs.FinMap as map
use Rattle.std.specs.Ordering.{eq_by_cmp}
use Rattle.std.proofs.Common.{inl, inr, ◌⊎◌, ◌≡◌, ◌≢◌, ℕ, ◌+◌, ◌<◌, ◌≤◌, List, [], ◌∷◌, ◌++◌, append-nil, refl, sym, ◌∙◌, ap, subst, arith}
use Rattle.std.proofs.Math.Dec.{leb}
use Rattle.std.proofs.lemmas.Bool.Decides.{eqb_tells, leb_tells}
use Rattle.std.proofs.lemmas.Map.Views.{tells_apart}
use Rattle.alp_base.specs.Keys.{key_cmp}
use Rattle.alp_base.specs.KeyLaws.{exact_keys}
use Rattle.alp_base.specs.declared.cell.Cell.{Cell}
use Rattle.alp_base.specs.declared.ids.FileId.{FileId}
use Rattle.alp_base.specs.declared.ids.JoinNo.{JoinNo}
use Rattle.alp_base.specs.declared.ids.Stamp.{Stamp}
use Rattle.alp_base.specs.declared.ids.TransId.{TransId}
use Rattle.alp_base.specs.declared.key.Key.TheVariants.{Leader}
use Rattle.alp_files.specs.Act.{Answer, id_in}
use Rattle.alp_files.specs.Cells.{View}
use Rattle.alp_files.specs.Edits.{Edit, Drop, Cut, Put, is_in_file, is_past, edit_at, edits_at, edits_map}
use Rattle.alp_files.specs.History.{PerformedCall}
use Rattle.alp_files.specs.declared.reply.Reply.{Reply}
use Rattle.alp_files.proofs.EditLemmas.{edits_at-append}
use Rattle.alp_files.proofs.HistoryLemmas.{get-edits_map}
use Rattle.alp_journal.specs.Along.{Along, state_after}
use Rattle.alp_journal.specs.Deeds.{Deed, Begins, Joins, Enters, Quits, Aborts, Grants, Performs, Releases, Readies, Applies, Registers, Finishes, Hears, Decides, Ends, Acknowledges, Forgets, Restarts}
use Rattle.alp_journal.specs.Holder.{Holder, Life, new_life, view_in, answer_in, held_for, after_done, emptied, is_part, lapsed, if_ready, grants, performs, readies, commits, holder_after, lives_noted, early_life}
use Rattle.alp_journal.specs.Ids.{same_trans}
use Rattle.alp_journal.specs.Laws.{CountsOn, IsLawful, IsLawfulDeed, IsLawfulEntry, DeedsAreLawful, StartsRight, Regains}
use Rattle.alp_journal.specs.Moves.{next, next_file, did, told, halted, stops, tried, resolved, is_effective}
use Rattle.alp_journal.specs.Opening.{Start, ReadyNote}
use Rattle.alp_journal.specs.State.{State, opened, state_deed, ids_after}
use Rattle.alp_journal.specs.declared.act.Act.{Act}
use Rattle.alp_journal.specs.declared.act.Act.TheVariants as act
use Rattle.alp_journal.specs.declared.entry.Entry.{Entry}
use Rattle.alp_journal.specs.declared.event.Event.{Event}
use Rattle.alp_journal.specs.declared.event.Event.TheVariants as event
use Rattle.alp_regain.specs.Named.{is_own_key, is_own_edit}
use Rattle.alp_regain.specs.Together.{IsPartNote}
use Rattle.alp_top.proofs.AwayEdits.{away_kept}

-- ---- epochs rise

deed_up : (s : State) (d : Deed) → CountsOn s d → s.ids.epoch ≤ (ids_after s.ids d).epoch
deed_up s (Restarts epoch clock) h = (let up : epoch ≡ s.ids.epoch + 1 = h in omega (arith, up))
deed_up s d h = omega arith

deeds_up : (e : Event) (s : State) (ds : List Deed) → Along state_deed (IsLawfulDeed e) s ds → s.ids.epoch ≤ (state_after state_deed s ds).ids.epoch
deeds_up e s [] h = omega arith
deeds_up e s (d ∷ ds) h = (let one : s.ids.epoch ≤ (ids_after s.ids d).epoch = deed_up s d h.0.counts in let more : (state_deed s d).ids.epoch ≤ (state_after state_deed (state_deed s d) ds).ids.epoch = deeds_up e (state_deed s d) ds h.1 in omega (arith, one, more))

-- a restart is the last that its entry brings about
restart_last : (s : State) (ds : List Deed) (epoch clock : ℕ) → (state_after state_deed s (ds ++ Restarts epoch clock ∷ [])).ids.epoch ≡ epoch
restart_last s [] epoch clock = refl
restart_last s (d ∷ ds) epoch clock = restart_last (state_deed s d) ds epoch clock

tried_again : (s : State) (r : Option Reply) (epoch clock : ℕ) (ready : List JoinNo) (stamps : List Stamp)
    → tried s (record { event = event.Restart; reply = r; acts = act.Regained epoch clock ready stamps ∷ [] }) ≡ resolved s ready clock stamps ++ Restarts epoch clock ∷ []
tried_again s r epoch clock ready stamps =
    append-nil ((resolved s ready clock stamps ++ Restarts epoch clock ∷ []) ++ []) ∙ append-nil (resolved s ready clock stamps ++ Restarts epoch clock ∷ [])

restart_up : (s : State) (r : Option Reply) (acts : List Act) → Regains s acts → s.ids.epoch ≤ (did s (record { event = event.Restart; reply = r; acts = acts })).ids.epoch
restart_up s r (act.Regained epoch clock ready stamps ∷ []) h =
    let up : epoch ≡ s.ids.epoch + 1 = h.0 in
    let now : (did s (record { event = event.Restart; reply = r; acts = act.Regained epoch clock ready stamps ∷ [] })).ids.epoch ≡ epoch =
    ap (λ (ds : List Deed). (state_after state_deed s ds).ids.epoch) (tried_again s r epoch clock ready stamps) ∙ restart_last s (resolved s ready clock stamps) epoch clock in
    omega (arith, up, now)
restart_up s r acts h = absurd h

did_up : (s : State) (x : Event) (r : Option Reply) (acts : List Act) → DeedsAreLawful s (record { event = x; reply = r; acts = acts }) x → StartsRight s (record { event = x; reply = r; acts = acts }) x
    → s.ids.epoch ≤ (did s (record { event = x; reply = r; acts = acts })).ids.epoch
did_up s event.Restart r acts deeds starts = restart_up s r acts starts.0
did_up s (event.Call client epoch number c) r acts deeds starts = deeds_up (event.Call client epoch number c) s (tried s (record { event = event.Call client epoch number c; reply = r; acts = acts })) deeds
did_up s (event.Arrive from m) r acts deeds starts = deeds_up (event.Arrive from m) s (tried s (record { event = event.Arrive from m; reply = r; acts = acts })) deeds
did_up s (event.Timeout t) r acts deeds starts = deeds_up (event.Timeout t) s (tried s (record { event = event.Timeout t; reply = r; acts = acts })) deeds
did_up s event.Tick r acts deeds starts = deeds_up event.Tick s (tried s (record { event = event.Tick; reply = r; acts = acts })) deeds
did_up s event.Force r acts deeds starts = deeds_up event.Force s (tried s (record { event = event.Force; reply = r; acts = acts })) deeds

entry_up : (s : State) (e : Entry) → IsLawfulEntry s e → s.ids.epoch ≤ (next s e).ids.epoch
entry_up s e h = elim (stops e) as (λ b. s.ids.epoch ≤ (cond b (halted s e) (told s e)).ids.epoch) [ true ↦ omega arith | false ↦ did_up s e.event e.reply e.acts h.deeds h.restart ]

epoch_up : (s : State) (es : List Entry) → Along next IsLawfulEntry s es → s.ids.epoch ≤ (state_after next s es).ids.epoch
epoch_up s [] h = omega arith
epoch_up s (e ∷ es) h = (let one : s.ids.epoch ≤ (next s e).ids.epoch = entry_up s e h.0 in let more : (next s e).ids.epoch ≤ (state_after next (next s e) es).ids.epoch = epoch_up (next s e) es h.1 in omega (arith, one, more))

all_both : {X : Type 0} (P : X → Type 0) (xs ys : List X) → AllByRecursion P xs → AllByRecursion P ys → AllByRecursion P (xs ++ ys)
all_both P [] ys h k = k
all_both P (x ∷ xs) ys h k = (h.0, all_both P xs ys h.1 k)

-- ---- a file that was given elsewhere, or later

module _ (away : FileId) (server last : ℕ) (other : away.server ≡ server → away.epoch ≤ last → ⊥) where
  abbrev IsAwayPart : Option Life → Type 0
  IsAwayPart None = Unit {0}
  IsAwayPart (Some l) = edits_at l.edits (Leader away) None ≡ None

  -- the server does not hold it, and no part puts it
  record IsNowhere (h : Holder) : Type 0 where
    number : h.server ≡ server
    cells : map.get h.cells (Leader away) ≡ None
    parts : (t : TransId) → IsAwayPart (h.lives t)

  parts_set : (t : TransId) (new : Option Life) (lives : TransId → Option Life) → ((u : TransId) → IsAwayPart (lives u)) → IsAwayPart new → (u : TransId) → IsAwayPart (cond (same_trans u t) new (lives u))
  parts_set t new lives h n u = elim (same_trans u t) as (λ b. IsAwayPart (cond b new (lives u))) [ true ↦ n | false ↦ h u ]

  -- what a part sees has none
  seen_away : (h : Holder) (l : Life) → IsNowhere h → edits_at l.edits (Leader away) None ≡ None → view_in h l (Leader away) ≡ None
  seen_away h l n p = ap (λ (v : View). v (Leader away)) (get-edits_map l.edits h.cells) ∙ ap (edits_at l.edits (Leader away)) n.cells ∙ p

  -- ---- by one deed

  -- no call makes it
  abbrev IsFresh : Deed → Type 0
  IsFresh (Performs t d) = (f : FileId) → id_in d.reply ≡ Some f → Leader away ≡ Leader f → ⊥
  IsFresh d = Unit {0}

  granted_away : (h : Holder) (t : TransId) (c : _) (o : Option Life) → IsNowhere h → IsAwayPart o → IsNowhere (grants h t c o)
  granted_away h t c None n p = n
  granted_away h t c (Some l) n p = record { number = n.number; cells = n.cells; parts = parts_set t (Some (record l { held = held_for h l c })) h.lives n.parts p }

  performed_away : (h : Holder) (t : TransId) (d : PerformedCall) (o : Option Life) → IsFresh (Performs t d) → IsNowhere h → IsAwayPart o → IsNowhere (performs h t d o)
  performed_away h t d None fresh n p = n
  performed_away h t d (Some l) fresh n p =
      let a : Answer = answer_in h l d in
      let seen : view_in h l (Leader away) ≡ None = seen_away h l n p in
      let more : edits_at (l.edits ++ a.edits) (Leader away) None ≡ None =
      edits_at-append l.edits a.edits (Leader away) None ∙ ap (edits_at a.edits (Leader away)) (p ∙ sym seen) ∙ away_kept away (view_in h l) seen h.server [] l.who l.own d.call d.reply fresh in
      record { number = n.number; cells = n.cells; parts = parts_set t (Some (after_done l d a)) h.lives n.parts more }

  readied_away : (h : Holder) (t : TransId) (ts : ℕ) (o : Option Life) → IsNowhere h → IsAwayPart o → IsNowhere (readies h t ts o)
  readied_away h t ts None n p = n
  readied_away h t ts (Some l) n p = record { number = n.number; cells = n.cells; parts = parts_set t (Some (record l { vote = Some ts })) h.lives n.parts p }

  committed_away : (h : Holder) (x : Stamp) (o : Option Life) → IsNowhere h → IsAwayPart o → IsNowhere (commits h x o)
  committed_away h x None n p = n
  committed_away h x (Some l) n p = record { number = n.number; cells = seen_away h l n p; parts = parts_set x.trans (Some (emptied l)) h.lives n.parts refl }

  lapsed_away : (j : JoinNo) (o : Option Life) → IsAwayPart o → IsAwayPart (lapsed j o)
  lapsed_away j None p = tt
  lapsed_away j (Some l) p = elim (is_part j l.join) as (λ b. IsAwayPart (Some (cond b (emptied l) l))) [ true ↦ refl | false ↦ p ]

  ready_away : (o : Option Life) → IsAwayPart o → IsAwayPart (if_ready o)
  ready_away None p = tt
  ready_away (Some l) p = elim (is_some l.vote) as (λ b. IsAwayPart (cond {A = Option Life} b (Some l) None)) [ true ↦ p | false ↦ tt ]

  deed_away : (h : Holder) (d : Deed) → IsFresh d → IsNowhere h → IsNowhere (holder_after h d)
  deed_away h (Begins t client who seen) fresh n = record { number = n.number; cells = n.cells; parts = parts_set t (Some (new_life None client who)) h.lives n.parts refl }
  deed_away h (Enters j t client who) fresh n = record { number = n.number; cells = n.cells; parts = parts_set t (Some (new_life (Some j) client who)) h.lives n.parts refl }
  deed_away h (Grants t c) fresh n = granted_away h t c (h.lives t) n (n.parts t)
  deed_away h (Performs t d) fresh n = performed_away h t d (h.lives t) fresh n (n.parts t)
  deed_away h (Releases t) fresh n = record { number = n.number; cells = n.cells; parts = parts_set t None h.lives n.parts tt }
  deed_away h (Readies j t ts) fresh n = readied_away h t ts (h.lives t) n (n.parts t)
  deed_away h (Aborts j t client c) fresh n = record {
    number = n.number;
    cells = n.cells;
    parts = λ u. elim (same_trans u t) as (λ b. IsAwayPart (cond b (lapsed j (h.lives u)) (h.lives u))) [ true ↦ lapsed_away j (h.lives u) (n.parts u) | false ↦ n.parts u ];
  }
  deed_away h (Decides x js) fresh n = committed_away h x (h.lives x.trans) n (n.parts x.trans)
  deed_away h (Applies j x) fresh n = committed_away h x (h.lives x.trans) n (n.parts x.trans)
  deed_away h (Restarts epoch clock) fresh n = record { number = n.number; cells = n.cells; parts = λ t. ready_away (h.lives t) (n.parts t) }
  deed_away h (Joins j t client who) fresh n = n
  deed_away h (Quits j t client c) fresh n = n
  deed_away h (Registers t j) fresh n = n
  deed_away h (Finishes t) fresh n = n
  deed_away h (Hears t j ts) fresh n = n
  deed_away h (Ends t client c) fresh n = n
  deed_away h (Acknowledges t j) fresh n = n
  deed_away h (Forgets t) fresh n = n

  -- ---- by those of an entry

  all_away : (s : State) (ds : List Deed) → AllByRecursion IsFresh ds → IsNowhere s.holder → IsNowhere (state_after state_deed s ds).holder
  all_away s [] fresh n = n
  all_away s (d ∷ ds) fresh n = all_away (state_deed s d) ds fresh.1 (deed_away s.holder d fresh.0 n)

  -- an id that the server gives is its own
  counted_fresh : (s : State) (d : Deed) → CountsOn s d → s.ids.epoch ≤ last → s.holder.server ≡ server → IsFresh d
  counted_fresh s (Performs t d) counts low number = λ f gives same.
      let is : away ≡ next_file s = file_of same ∙ counts f gives in
      other (ap (λ (g : FileId). g.server) is ∙ number) (let now : away.epoch ≡ s.ids.epoch = ap (λ (g : FileId). g.epoch) is in omega (arith, now, low))
    where
      file_of : {a b : FileId} → Leader a ≡ Leader b → a ≡ b
      file_of e = cc
  counted_fresh s d counts low number = tt

  lawful_away : (e : Event) (s : State) (ds : List Deed) → Along state_deed (IsLawfulDeed e) s ds → (state_after state_deed s ds).ids.epoch ≤ last → IsNowhere s.holder → IsNowhere (state_after state_deed s ds).holder
  lawful_away e s [] law low n = n
  lawful_away e s (d ∷ ds) law low n =
      let up : s.ids.epoch ≤ (state_after state_deed s (d ∷ ds)).ids.epoch = deeds_up e s (d ∷ ds) law in
      lawful_away e (state_deed s d) ds law.1 low (deed_away s.holder d (counted_fresh s d law.0.counts (omega (arith, up, low)) n.number) n)

  -- what a restart resolves makes none
  effective_fresh : (ready : List JoinNo) (clock : ℕ) (stamps : List Stamp) (ds : List Deed) → AllByRecursion IsFresh (filter (is_effective ready clock stamps) ds)
  effective_fresh ready clock stamps [] = tt
  effective_fresh ready clock stamps (d ∷ ds) = one d ds (effective_fresh ready clock stamps ds)
    where
      either : (b : Bool) (d : Deed) (ds : List Deed) → IsFresh d → AllByRecursion IsFresh ds → AllByRecursion IsFresh (cond b (d ∷ ds) ds)
      either true d ds f rest = (f, rest)
      either false d ds f rest = rest

      one : (d : Deed) (ds : List Deed) → AllByRecursion IsFresh (filter (is_effective ready clock stamps) ds) → AllByRecursion IsFresh (filter (is_effective ready clock stamps) (d ∷ ds))
      one (Performs t x) ds rest = rest
      one d ds rest = either (is_effective ready clock stamps d) d (filter (is_effective ready clock stamps) ds) tt rest

  restart_away : (s : State) (r : Option Reply) (acts : List Act) → Regains s acts → IsNowhere s.holder → IsNowhere (did s (record { event = event.Restart; reply = r; acts = acts })).holder
  restart_away s r (act.Regained epoch clock ready stamps ∷ []) law n =
      subst (λ (ds : List Deed). IsNowhere (state_after state_deed s ds).holder) (sym (tried_again s r epoch clock ready stamps))
      (all_away s (resolved s ready clock stamps ++ Restarts epoch clock ∷ []) (all_both IsFresh (resolved s ready clock stamps) (Restarts epoch clock ∷ []) (effective_fresh ready clock stamps s.pending) (tt, tt)) n)
  restart_away s r acts law n = absurd law

  did_away : (s : State) (x : Event) (r : Option Reply) (acts : List Act) → DeedsAreLawful s (record { event = x; reply = r; acts = acts }) x → StartsRight s (record { event = x; reply = r; acts = acts }) x
      → (did s (record { event = x; reply = r; acts = acts })).ids.epoch ≤ last → IsNowhere s.holder → IsNowhere (did s (record { event = x; reply = r; acts = acts })).holder
  did_away s event.Restart r acts deeds starts low n = restart_away s r acts starts.0 n
  did_away s (event.Call client epoch number c) r acts deeds starts low n = lawful_away (event.Call client epoch number c) s (tried s (record { event = event.Call client epoch number c; reply = r; acts = acts })) deeds low n
  did_away s (event.Arrive from m) r acts deeds starts low n = lawful_away (event.Arrive from m) s (tried s (record { event = event.Arrive from m; reply = r; acts = acts })) deeds low n
  did_away s (event.Timeout t) r acts deeds starts low n = lawful_away (event.Timeout t) s (tried s (record { event = event.Timeout t; reply = r; acts = acts })) deeds low n
  did_away s event.Tick r acts deeds starts low n = lawful_away event.Tick s (tried s (record { event = event.Tick; reply = r; acts = acts })) deeds low n
  did_away s event.Force r acts deeds starts low n = lawful_away event.Force s (tried s (record { event = event.Force; reply = r; acts = acts })) deeds low n

  -- ---- by a journal

  entry_away : (s : State) (e : Entry) → IsLawfulEntry s e → (next s e).ids.epoch ≤ last → IsNowhere s.holder → IsNowhere (next s e).holder
  entry_away s e law low n = go (stops e) low
    where
      go : (b : Bool) → (cond b (halted s e) (told s e)).ids.epoch ≤ last → IsNowhere (cond b (halted s e) (told s e)).holder
      go true low = n
      go false low = did_away s e.event e.reply e.acts law.deeds law.restart low n

  journal_away : (s : State) (es : List Entry) → Along next IsLawfulEntry s es → (state_after next s es).ids.epoch ≤ last → IsNowhere s.holder → IsNowhere (state_after next s es).holder
  journal_away s [] law low n = n
  journal_away s (e ∷ es) law low n =
      let up : (next s e).ids.epoch ≤ (state_after next (next s e) es).ids.epoch = epoch_up (next s e) es law.1 in
      journal_away (next s e) es law.1 low (entry_away s e law.0 (omega (arith, up, low)) n)

  -- ---- at the opening

  module _ (before : ℕ) (early : before ≤ last) where
    none_at : (e : Edit) → is_own_edit server before e ≡ true → edit_at e (Leader away) None ≡ None
    none_at (Drop f) own = elim (is_in_file f (Leader away)) as (λ b. cond {A = Option Cell} b None None ≡ None) [ true ↦ refl | false ↦ refl ]
    none_at (Cut f k) own = elim (is_past f k (Leader away)) as (λ b. cond {A = Option Cell} b None None ≡ None) [ true ↦ refl | false ↦ refl ]
    none_at (Put k c) own = go (eq_by_cmp key_cmp (Leader away) k) refl
      where
        not_own : (b d : Bool) → (away.server == server) ≡ b → nat_le away.epoch before ≡ d → (b && d) ≡ true → ⊥
        not_own true true one two h = elim (eqb_tells away.server server) [
          | inl same ↦ elim (leb_tells away.epoch before) [
            | inl low ↦ (let less : away.epoch ≤ before = low.1 in other same.1 (omega (arith, less, early)))
            | inr high ↦ (let wrong : true ≡ false = sym two ∙ high.0 in cc)
          ]
          | inr apart ↦ (let wrong : true ≡ false = sym one ∙ apart.0 in cc)
        ]
        not_own true false one two h = (let wrong : false ≡ true = h in cc)
        not_own false d one two h = (let wrong : false ≡ true = h in cc)

        go : (b : Bool) → eq_by_cmp key_cmp (Leader away) k ≡ b → cond {A = Option Cell} b (Some c) None ≡ None
        go false e = refl
        go true e = absurd (not_own (away.server == server) (nat_le away.epoch before) refl refl (ap (is_own_key server before) (tells_apart exact_keys (Leader away) k e) ∙ own))

    none_put : (es : List Edit) → list_all (is_own_edit server before) es ≡ true → edits_at es (Leader away) None ≡ None
    none_put [] own = refl
    none_put (e ∷ es) own = go (is_own_edit server before e) refl own (none_put es)
      where
        go : (b : Bool) → is_own_edit server before e ≡ b → (b && list_all (is_own_edit server before) es) ≡ true → (list_all (is_own_edit server before) es ≡ true → edits_at es (Leader away) None ≡ None) → edits_at (e ∷ es) (Leader away) None ≡ None
        go true is h rest = ap (edits_at es (Leader away)) (none_at e is) ∙ rest h
        go false is h rest = (let wrong : false ≡ true = h in cc)

    noted_away : (ns : List ReadyNote) → AllByRecursion (IsPartNote server before) ns → (t : TransId) → IsAwayPart (lives_noted ns t)
    noted_away [] h t = tt
    noted_away (x ∷ xs) h t = elim (same_trans x.trans t) as (λ b. IsAwayPart (cond {A = Option Life} b (Some (early_life x)) (lives_noted xs t))) [ true ↦ none_put x.edits h.0.edited | false ↦ noted_away xs h.1 t ]

-- ---- what a server holds

none_of : (o : Option Cell) → ((c : Cell) → o ≡ Some c → ⊥) → o ≡ None
none_of None h = refl
none_of (Some c) h = absurd (h c refl)

-- Where a server opened on files that it gave, and so do the parts that were ready, the files that its journal comes to are such too.
module _ (o : Start) (es : List Entry) (lawful : IsLawful o es) (before : ℕ) (early : before < o.epoch) (parts : AllByRecursion (IsPartNote o.server before) o.ready)
    (cells : (f : FileId) (c : Cell) → map.get o.cells (Leader f) ≡ Some c → (f.server ≡ o.server) × (f.epoch ≤ o.epoch)) where
  abbrev at_end : State
  at_end = state_after next (opened o) es

  up_to : o.epoch ≤ at_end.ids.epoch
  up_to = epoch_up (opened o) es lawful

  pub gave_files : (f : FileId) (c : Cell) → map.get at_end.holder.cells (Leader f) ≡ Some c → (f.server ≡ o.server) × (f.epoch ≤ at_end.ids.epoch)
  gave_files f c is = go (eqb_tells f.server o.server) (leb_tells f.epoch at_end.ids.epoch)
    where
      nowhere : (f.server ≡ o.server → f.epoch ≤ at_end.ids.epoch → ⊥) → (f.server ≡ o.server) × (f.epoch ≤ at_end.ids.epoch)
      nowhere other =
          let none : map.get o.cells (Leader f) ≡ None = none_of (map.get o.cells (Leader f)) (λ x there. (let (server, age) = cells f x there in other server (let low : f.epoch ≤ o.epoch = age in omega (arith, low, up_to)))) in
          let over = journal_away f o.server at_end.ids.epoch other (opened o) es lawful (omega arith) (record { number = refl; cells = none; parts = noted_away f o.server at_end.ids.epoch other before (omega (arith, early, up_to)) o.ready parts }) in
          let wrong : Some c ≡ None = sym is ∙ over.cells in cc

      go : (((f.server == o.server) ≡ true) × (f.server ≡ o.server)) ⊎ (((f.server == o.server) ≡ false) × (f.server ≢ o.server))
          → ((leb f.epoch at_end.ids.epoch ≡ true) × (f.epoch ≤ at_end.ids.epoch)) ⊎ ((leb f.epoch at_end.ids.epoch ≡ false) × (at_end.ids.epoch < f.epoch)) → (f.server ≡ o.server) × (f.epoch ≤ at_end.ids.epoch)
      go (inl same) (inl low) = (same.1, low.1)
      go (inl same) (inr high) = nowhere (λ e low. (let up : at_end.ids.epoch < f.epoch = high.1 in absurd (omega (arith, up, low))))
      go (inr apart) age = nowhere (λ e low. apart.1 e)
