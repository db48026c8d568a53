-- Each lawful entry keeps it that what the live parts intend leaves sound files, whichever of them are applied: a call is answered as
-- it is, whatever others intend, since their locks agree; a commit makes of one of them cells; and who is gone intends nothing.
use Rattle.std.specs.Prelude.{cond, Bool, true, false, not, ◌&&◌, ◌||◌, flat_map, filter, is_some, Option, None, Some, ◌⊎◌}
use Rattle.std.specs.List.{AllByRecursion}
use Rattle.std.specs.FinMap as map
use Rattle.std.proofs.lemmas.List.{append-nil}
use Rattle.std.proofs.Common.{inl, inr, ◌≡◌, ℕ, List, [], ◌∷◌, ◌++◌, refl, sym, ap, subst, ◌∙◌}
use Rattle.alp_base.specs.declared.ids.JoinNo.{JoinNo}
use Rattle.alp_base.specs.declared.ids.Stamp.{Stamp}
use Rattle.alp_base.specs.declared.ids.TransId.{TransId}
use Rattle.alp_base.specs.declared.key.Key.{Key}
use Rattle.alp_base.specs.declared.key.Key.TheVariants.{Leader}
use Rattle.alp_base.proofs.NameLemmas.{and_left, and_right}
use Rattle.alp_files.specs.Act.{Own, Answer, answer, id_in}
use Rattle.alp_files.specs.Apart.{AreSized, OpensRead, DoShowSame, IsWithin as AreWithin}
use Rattle.alp_files.specs.Cells.{Cells, View}
use Rattle.alp_files.specs.Edits.{Edit, Drop, Cut, Put, edits_at, edits_map}
use Rattle.alp_files.specs.History.{PerformedCall}
use Rattle.alp_modes.specs.declared.Mode.{Mode}
use Rattle.alp_files.specs.Holdings.{Holding, agree_held, DoAgree, DoAgreeOnLeaves, IsIntended}
use Rattle.alp_files.specs.Locks.{Need, Reads, Writes, needs_of, needs_made, needs_done, with_made, HoldsEach, IsMore, IsFormed}
use Rattle.alp_files.specs.Sound.{AreSound}
use Rattle.alp_files.specs.declared.call.Call.{Call}
use Rattle.alp_files.specs.declared.open.Open.{Open}
use Rattle.alp_files.proofs.CoverLemmas.{joined-more, more-on-leaf, done-holds, granted-more, granted-intended, with_made-intended}
use Rattle.alp_files.proofs.FilesLemmas.{same-some}
use Rattle.alp_files.proofs.FrameLemmas.{apart-same, edits-commute, answer-frame, answer-fits, sized-after}
use Rattle.alp_files.proofs.HeldLemmas.{LetsEach, lets-each, apart, writes-is-reads}
use Rattle.alp_files.proofs.HistoryLemmas.{edits_map-append, get-edits_map}
use Rattle.alp_files.proofs.HoldingLemmas.{agreement-of-leaves}
use Rattle.alp_files.proofs.LookLemmas.{PutsSized, within-append, sized-append}
use Rattle.alp_files.proofs.SoundLemmas.{answers_sound}
use Rattle.alp_journal.specs.Account.{has_trans, are_trans_apart}
use Rattle.alp_journal.specs.Along.{Along, Where, state_after}
use Rattle.alp_journal.specs.Deeds.{Deed, Begins, Joins, Enters, Quits, Aborts, Grants, Performs, Releases, Readies, Applies, Registers, Finishes, Hears, Decides, Ends, Acknowledges, Forgets, Restarts}
use Rattle.alp_journal.specs.Holder.{Holder, Life, no_locks, new_life, after_done, emptied, lapsed, is_part, if_ready, with_life, grants, performs, readies, commits, answer_in, view_in, held_for, holder_after}
use Rattle.alp_journal.specs.Ids.{same_trans}
use Rattle.alp_journal.specs.Laws.{DoLivesAgree, IsLawfulDeed, IsLawfulEntry, DeedsAreLawful, StartsRight, Regains}
use Rattle.alp_journal.specs.Moves.{is_effective, resolved, event_deeds, act_deeds, done_deeds, stops, tried, did, told, halted, next}
use Rattle.alp_journal.specs.State.{State, state_deed}
use Rattle.alp_journal.specs.declared.act.Act.{Act}
use Rattle.alp_journal.specs.declared.act.Act.TheVariants as act
use Rattle.alp_journal.specs.declared.entry.Entry.{Entry}
use Rattle.alp_journal.specs.declared.event.Event.{Event}
use Rattle.alp_journal.specs.declared.event.Event.TheVariants as event
use Rattle.alp_journal.proofs.IdLemmas.{same_trans-true, same_trans-itself}
use Rattle.alp_node.specs.Covers.{AreSizedEdits}
use Rattle.alp_node.specs.SoundLives.{edits_in, all_edits, AreSoundInAny, IsSoundPart, AreSoundLives, HasSoundLives}

-- ---- what edits put

puts_are : (es : List Edit) → AreSizedEdits es → PutsSized es
puts_are [] h = tt
puts_are (Drop f ∷ es) h = puts_are es h
puts_are (Cut f n ∷ es) h = puts_are es h
puts_are (Put k c ∷ es) h = (h.0, puts_are es h.1)

puts_were : (es : List Edit) → PutsSized es → AreSizedEdits es
puts_were [] h = tt
puts_were (Drop f ∷ es) h = puts_were es h
puts_were (Cut f n ∷ es) h = puts_were es h
puts_were (Put k c ∷ es) h = (h.0, puts_were es h.1)

within_more : (V W : Key → Type 0) → ((k : Key) → V k → W k) → (es : List Edit) → AreWithin V es → AreWithin W es
within_more V W more [] h = tt
within_more V W more (Drop f ∷ es) h = (λ k is. more k (h.0 k is), within_more V W more es h.1)
within_more V W more (Cut f n ∷ es) h = (λ k is. more k (h.0 k is), within_more V W more es h.1)
within_more V W more (Put k c ∷ es) h = (more k h.0, within_more V W more es h.1)

opens_more : (V W : Key → Type 0) → ((k : Key) → V k → W k) → (os : List Open) → OpensRead V os → OpensRead W os
opens_more V W more [] h = tt
opens_more V W more (o ∷ os) h = (more (Leader o.file) h.0, opens_more V W more os h.1)

sized_map : (es : List Edit) (m : Cells) → AreSized (map.get m) → PutsSized es → AreSized (map.get (edits_map es m))
sized_map es m s h = subst AreSized (sym (get-edits_map es m)) (sized-after es (map.get m) s h)

pub same_map_where : (R : Key → Type 0) (es : List Edit) (m n : Cells) → DoShowSame R (map.get m) (map.get n) → DoShowSame R (map.get (edits_map es m)) (map.get (edits_map es n))
same_map_where R es m n same k r = ap (λ (v : View). v k) (get-edits_map es m) ∙ ap (edits_at es k) (same k r) ∙ sym (ap (λ (v : View). v k) (get-edits_map es n))

-- ---- lists of transactions

not_true : (b : Bool) → not b ≡ true → b ≡ false
not_true true e = sym e
not_true false e = refl

pub or_left : (a b : Bool) → (a || b) ≡ false → a ≡ false
or_left true b e = e
or_left false b e = refl

pub or_right : (a b : Bool) → (a || b) ≡ false → b ≡ false
or_right true b e = absurd (let wrong : true ≡ false = e in cc)
or_right false b e = e

pub head_apart : (t : TransId) (ts : List TransId) → are_trans_apart (t ∷ ts) ≡ true → has_trans t ts ≡ false
head_apart t ts h = not_true (has_trans t ts) (and_left (not (has_trans t ts)) (are_trans_apart ts) h)

pub rest_apart : (t : TransId) (ts : List TransId) → are_trans_apart (t ∷ ts) ≡ true → are_trans_apart ts ≡ true
rest_apart t ts h = and_right (not (has_trans t ts)) (are_trans_apart ts) h

-- ---- lives that change

-- of others nothing changed
abbrev pub set_life : (TransId → Option Life) → TransId → Option Life → TransId → Option Life
set_life lives t x u = cond {A = Option Life} (same_trans u t) x (lives u)

-- whom the list does not name it does not show
unset_edits : (lives : TransId → Option Life) (t : TransId) (x : Option Life) (ts : List TransId) → has_trans t ts ≡ false → all_edits (set_life lives t x) ts ≡ all_edits lives ts
unset_edits lives t x [] none = refl
unset_edits lives t x (u ∷ us) none =
    ap (λ (b : Bool). edits_in (cond {A = Option Life} b x (lives u)) ++ all_edits (set_life lives t x) us) (or_left (same_trans u t) (has_trans t us) none)
    ∙ ap (λ (es : List Edit). edits_in (lives u) ++ es) (unset_edits lives t x us (or_right (same_trans u t) (has_trans t us) none))

-- without it, the list names it no more
abbrev without : TransId → List TransId → List TransId
without t [] = []
without t (u ∷ us) = cond {A = List TransId} (same_trans u t) (without t us) (u ∷ without t us)

none_without : (t : TransId) (ts : List TransId) → has_trans t (without t ts) ≡ false
none_without t [] = refl
none_without t (u ∷ us) = go (same_trans u t) refl (none_without t us)
  where
    go : (b : Bool) → same_trans u t ≡ b → has_trans t (without t us) ≡ false → has_trans t (cond {A = List TransId} b (without t us) (u ∷ without t us)) ≡ false
    go true is rest = rest
    go false is rest = ap (λ (c : Bool). c || has_trans t (without t us)) is ∙ rest

few_without : (t x : TransId) (ts : List TransId) → has_trans x ts ≡ false → has_trans x (without t ts) ≡ false
few_without t x [] none = refl
few_without t x (u ∷ us) none = go (same_trans u t) (few_without t x us (or_right (same_trans u x) (has_trans x us) none))
  where
    go : (b : Bool) → has_trans x (without t us) ≡ false → has_trans x (cond {A = List TransId} b (without t us) (u ∷ without t us)) ≡ false
    go true rest = rest
    go false rest = ap (λ (c : Bool). c || has_trans x (without t us)) (or_left (same_trans u x) (has_trans x us) none) ∙ rest

apart_without : (t : TransId) (ts : List TransId) → are_trans_apart ts ≡ true → are_trans_apart (without t ts) ≡ true
apart_without t [] h = refl
apart_without t (u ∷ us) h = go (same_trans u t) (apart_without t us (rest_apart u us h))
  where
    go : (b : Bool) → are_trans_apart (without t us) ≡ true → are_trans_apart (cond {A = List TransId} b (without t us) (u ∷ without t us)) ≡ true
    go true rest = rest
    go false rest = ap (λ (c : Bool). not c && are_trans_apart (without t us)) (few_without t u us (head_apart u us h)) ∙ rest

-- one that intends nothing may be left out
idle_edits : (lives : TransId → Option Life) (t : TransId) (x : Option Life) → edits_in x ≡ [] → (ts : List TransId) → all_edits (set_life lives t x) ts ≡ all_edits lives (without t ts)
idle_edits lives t x idle [] = refl
idle_edits lives t x idle (u ∷ us) = go (same_trans u t) (idle_edits lives t x idle us)
  where
    go : (b : Bool) → all_edits (set_life lives t x) us ≡ all_edits lives (without t us) → edits_in (cond {A = Option Life} b x (lives u)) ++ all_edits (set_life lives t x) us ≡ all_edits lives (cond {A = List TransId} b (without t us) (u ∷ without t us))
    go true rest = ap (λ (es : List Edit). es ++ all_edits (set_life lives t x) us) idle ∙ rest
    go false rest = ap (λ (es : List Edit). edits_in (lives u) ++ es) rest

-- ---- one that intends nothing any more, or not yet

pub idle_any : (lives : TransId → Option Life) (m : Cells) (t : TransId) (x : Option Life) → edits_in x ≡ [] → AreSoundInAny lives m → AreSoundInAny (set_life lives t x) m
idle_any lives m t x idle h ts one = subst (λ (es : List Edit). AreSound (edits_map es m)) (sym (idle_edits lives t x idle ts)) (h (without t ts) (apart_without t ts one))

-- one whose intents stay
pub kept_edits : (lives : TransId → Option Life) (t : TransId) (x : Option Life) → edits_in x ≡ edits_in (lives t) → (ts : List TransId) → all_edits (set_life lives t x) ts ≡ all_edits lives ts
kept_edits lives t x same [] = refl
kept_edits lives t x same (u ∷ us) = go (same_trans u t) refl (kept_edits lives t x same us)
  where
    go : (b : Bool) → same_trans u t ≡ b → all_edits (set_life lives t x) us ≡ all_edits lives us → edits_in (cond {A = Option Life} b x (lives u)) ++ all_edits (set_life lives t x) us ≡ edits_in (lives u) ++ all_edits lives us
    go true is rest = ap (λ (es : List Edit). es ++ all_edits (set_life lives t x) us) (same ∙ ap (λ (v : TransId). edits_in (lives v)) (sym (same_trans-true u t is))) ∙ ap (λ (es : List Edit). edits_in (lives u) ++ es) rest
    go false is rest = ap (λ (es : List Edit). edits_in (lives u) ++ es) rest

pub kept_any : (lives : TransId → Option Life) (m : Cells) (t : TransId) (x : Option Life) → edits_in x ≡ edits_in (lives t) → AreSoundInAny lives m → AreSoundInAny (set_life lives t x) m
kept_any lives m t x same h ts one = subst (λ (es : List Edit). AreSound (edits_map es m)) (sym (kept_edits lives t x same ts)) (h ts one)

-- one that is applied: its intents are cells, and it has none any more
pub applied_any : (lives : TransId → Option Life) (m : Cells) (t : TransId) (l : Life) → lives t ≡ Some l → (x : Option Life) → edits_in x ≡ [] → AreSoundInAny lives m → AreSoundInAny (set_life lives t x) (edits_map l.edits m)
applied_any lives m t l is x idle h ts one =
    subst AreSound
    (edits_map-append (edits_in (lives t)) (all_edits lives (without t ts)) m
    ∙ ap (λ (o : Option Life). edits_map (all_edits lives (without t ts)) (edits_map (edits_in o) m)) is
    ∙ ap (λ (es : List Edit). edits_map es (edits_map l.edits m)) (sym (idle_edits lives t x idle ts)))
    (h (t ∷ without t ts) (ap (λ (c : Bool). not c && are_trans_apart (without t ts)) (none_without t ts) ∙ apart_without t ts one))

-- ---- one that does more

-- what a part may write, and nothing of one that is not live
abbrev pub writes_in : Option Life → Key → Type 0
writes_in None k = ⊥
writes_in (Some l) k = Writes l.held k

-- it changes nothing where R holds
pub record IsAway (R : Key → Type 0) (x : Option Life) : Type 0 where
  pub within : AreWithin (writes_in x) (edits_in x)
  pub away : (k : Key) → writes_in x k → R k → ⊥

away_same : (R : Key → Type 0) (x : Option Life) → IsAway R x → (m : Cells) → DoShowSame R (map.get m) (map.get (edits_map (edits_in x) m))
away_same R x h m = apart-same R (writes_in x) h.away (edits_in x) h.within m

module _ (R : Key → Type 0) (lives : TransId → Option Life) (t : TransId) (others : (u : TransId) → same_trans u t ≡ false → IsAway R (lives u)) where
  -- what the others intend shows the same there
  pub others_same : (ts : List TransId) → has_trans t ts ≡ false → (m : Cells) → DoShowSame R (map.get m) (map.get (edits_map (all_edits lives ts) m))
  others_same [] none m = λ k r. refl
  others_same (u ∷ us) none m =
      let first = away_same R (lives u) (others u (or_left (same_trans u t) (has_trans t us) none)) m in
      let next = others_same us (or_right (same_trans u t) (has_trans t us) none) (edits_map (edits_in (lives u)) m) in
      λ k r. first k r ∙ next k r ∙ sym (ap (λ (x : Cells). map.get x k) (edits_map-append (edits_in (lives u)) (all_edits lives us) m))

  -- and goes with changes that stay within what R holds, in either order
  pub others_commute : (W : Key → Type 0) → ((k : Key) → W k → R k) → (fs : List Edit) → AreWithin W fs → (ts : List TransId) → has_trans t ts ≡ false → (m : Cells)
      → edits_map (all_edits lives ts) (edits_map fs m) ≡ edits_map fs (edits_map (all_edits lives ts) m)
  others_commute W reads fs within [] none m = refl
  others_commute W reads fs within (u ∷ us) none m =
      let a = others u (or_left (same_trans u t) (has_trans t us) none) in
      edits_map-append (edits_in (lives u)) (all_edits lives us) (edits_map fs m)
      ∙ ap (edits_map (all_edits lives us)) (edits-commute W (writes_in (lives u)) (λ k w v. a.away k v (reads k w)) fs (edits_in (lives u)) within a.within m)
      ∙ others_commute W reads fs within us (or_right (same_trans u t) (has_trans t us) none) (edits_map (edits_in (lives u)) m)
      ∙ ap (edits_map fs) (sym (edits_map-append (edits_in (lives u)) (all_edits lives us) m))

  -- What all of them intend shows there what the one intends alone.
  own_same : (l : Life) → lives t ≡ Some l → (ts : List TransId) → has_trans t ts ≡ true → are_trans_apart ts ≡ true → (m : Cells) → DoShowSame R (map.get (edits_map l.edits m)) (map.get (edits_map (all_edits lives ts) m))
  own_same l is [] there one m = absurd (let wrong : false ≡ true = there in cc)
  own_same l is (u ∷ us) there one m =
      go (same_trans u t) refl (λ e. own_same l is us (ap (λ (b : Bool). b || has_trans t us) (sym e) ∙ there) (rest_apart u us one) (edits_map (edits_in (lives u)) m))
    where
      split : edits_map (all_edits lives (u ∷ us)) m ≡ edits_map (all_edits lives us) (edits_map (edits_in (lives u)) m)
      split = edits_map-append (edits_in (lives u)) (all_edits lives us) m

      here : same_trans u t ≡ true → edits_in (lives u) ≡ l.edits
      here e = ap (λ (v : TransId). edits_in (lives v)) (same_trans-true u t e) ∙ ap edits_in is

      go : (b : Bool) → same_trans u t ≡ b → (same_trans u t ≡ false → DoShowSame R (map.get (edits_map l.edits (edits_map (edits_in (lives u)) m))) (map.get (edits_map (all_edits lives us) (edits_map (edits_in (lives u)) m))))
          → DoShowSame R (map.get (edits_map l.edits m)) (map.get (edits_map (all_edits lives (u ∷ us)) m))
      go true e next =
          let none : has_trans t us ≡ false = subst (λ (v : TransId). has_trans v us ≡ false) (same_trans-true u t e) (head_apart u us one) in
          let tail = others_same us none (edits_map l.edits m) in
          λ k r. tail k r ∙ sym (ap (λ (x : Cells). map.get x k) (split ∙ ap (λ (es : List Edit). edits_map (all_edits lives us) (edits_map es m)) (here e)))
      go false e next =
          let first = same_map_where R l.edits m (edits_map (edits_in (lives u)) m) (away_same R (lives u) (others u e) m) in
          λ k r. first k r ∙ next e k r ∙ sym (ap (λ (x : Cells). map.get x k) split)

  -- And with more that it intends, that comes last.
  more_last : (W : Key → Type 0) → ((k : Key) → W k → R k) → (l k : Life) (fs : List Edit) → lives t ≡ Some l → k.edits ≡ l.edits ++ fs → AreWithin W fs → (ts : List TransId) → has_trans t ts ≡ true → are_trans_apart ts ≡ true → (m : Cells)
      → edits_map (all_edits (set_life lives t (Some k)) ts) m ≡ edits_map fs (edits_map (all_edits lives ts) m)
  more_last W reads l k fs is grown within [] there one m = absurd (let wrong : false ≡ true = there in cc)
  more_last W reads l k fs is grown within (u ∷ us) there one m =
      go (same_trans u t) refl (λ e. more_last W reads l k fs is grown within us (ap (λ (b : Bool). b || has_trans t us) (sym e) ∙ there) (rest_apart u us one) (edits_map (edits_in (lives u)) m))
    where
      split : (x : Option Life) (rest : List Edit) → edits_map (edits_in x ++ rest) m ≡ edits_map rest (edits_map (edits_in x) m)
      split x rest = edits_map-append (edits_in x) rest m

      go : (b : Bool) → same_trans u t ≡ b → (same_trans u t ≡ false → edits_map (all_edits (set_life lives t (Some k)) us) (edits_map (edits_in (lives u)) m) ≡ edits_map fs (edits_map (all_edits lives us) (edits_map (edits_in (lives u)) m)))
          → edits_map (edits_in (cond {A = Option Life} b (Some k) (lives u)) ++ all_edits (set_life lives t (Some k)) us) m ≡ edits_map fs (edits_map (all_edits lives (u ∷ us)) m)
      go true e next =
          let none : has_trans t us ≡ false = subst (λ (v : TransId). has_trans v us ≡ false) (same_trans-true u t e) (head_apart u us one) in
          split (Some k) (all_edits (set_life lives t (Some k)) us)
          ∙ ap (λ (es : List Edit). edits_map es (edits_map k.edits m)) (unset_edits lives t (Some k) us none)
          ∙ ap (edits_map (all_edits lives us)) (ap (λ (es : List Edit). edits_map es m) grown ∙ edits_map-append l.edits fs m)
          ∙ others_commute W reads fs within us none (edits_map l.edits m)
          ∙ ap (edits_map fs) (sym (edits_map-append (edits_in (lives u)) (all_edits lives us) m
          ∙ ap (λ (es : List Edit). edits_map (all_edits lives us) (edits_map es m)) (ap (λ (v : TransId). edits_in (lives v)) (same_trans-true u t e) ∙ ap edits_in is)))
      go false e next =
          split (lives u) (all_edits (set_life lives t (Some k)) us)
          ∙ next e
          ∙ ap (edits_map fs) (sym (edits_map-append (edits_in (lives u)) (all_edits lives us) m))

-- ---- each live part

each_set : (P : TransId → Life → Type 0) (lives : TransId → Option Life) (t : TransId) (x : Option Life) → ((l : Life) → x ≡ Some l → P t l) → ((u : TransId) (l : Life) → lives u ≡ Some l → P u l)
    → (u : TransId) (l : Life) → set_life lives t x u ≡ Some l → P u l
each_set P lives t x own others u l = go (same_trans u t) refl
  where
    go : (b : Bool) → same_trans u t ≡ b → cond {A = Option Life} b x (lives u) ≡ Some l → P u l
    go true is e = subst (λ (v : TransId). P v l) (sym (same_trans-true u t is)) (own l e)
    go false is e = others u l e

some_part : (k : Life) → IsSoundPart k → (l : Life) → Some k ≡ Some l → IsSoundPart l
some_part k p l e = subst IsSoundPart (same-some k l e) p

none_intended : IsIntended no_locks
none_intended k f m in_file is = absurd (let wrong : None ≡ Some m = is in cc)

-- without changes and opens any locks do
idle_part : (l : Life) → l.edits ≡ [] → l.own.opens ≡ [] → IsIntended l.held → IsSoundPart l
idle_part l none shut intended = record {
  within = subst (AreWithin (Writes l.held)) (sym none) tt;
  opens = subst (OpensRead (Reads l.held)) (sym shut) tt;
  puts = subst AreSizedEdits (sym none) tt;
  intended = intended;
}

reads_more : (a b : Holding) → IsMore a b → (k : Key) → Reads a k → Reads b k
reads_more a b more k = more-on-leaf a b more k _

writes_more : (a b : Holding) → IsMore a b → (k : Key) → Writes a k → Writes b k
writes_more a b more k = more-on-leaf a b more k _

-- more locks
more_part : (l : Life) (held : Holding) → IsMore l.held held → IsIntended held → IsSoundPart l → IsSoundPart (record l { held = held })
more_part l held more intended h = record {
  within = within_more (Writes l.held) (Writes held) (writes_more l.held held more) l.edits h.within;
  opens = opens_more (Reads l.held) (Reads held) (reads_more l.held held more) l.own.opens h.opens;
  puts = h.puts;
  intended = intended;
}

-- ---- locks that agree

none_right : (a : Option Mode) → agree_held a None ≡ true
none_right None = refl
none_right (Some a) = refl

-- there was a life with the same locks, or it has none
abbrev WasHeld : (TransId → Option Life) → TransId → Life → Type 0
WasHeld lives u l = ((k : Life) × (lives u ≡ Some k) × (k.held ≡ l.held)) ⊎ (l.held ≡ no_locks)

agree_still : (before now : TransId → Option Life) → ((u : TransId) (l : Life) → now u ≡ Some l → WasHeld before u l) → DoLivesAgree before → DoLivesAgree now
agree_still before now was agree t u k l a b away = elim (was t k a) [
  | inr none ↦ subst (λ (held : Holding). DoAgree held l.held) (sym none) (λ r. refl)
  | inl x ↦ elim (was u l b) [
    | inr none ↦ subst (λ (held : Holding). DoAgree k.held held) (sym none) (λ r. none_right (k.held r))
    | inl y ↦ subst (λ (held : Holding). DoAgree held l.held) x.2 (subst (λ (held : Holding). DoAgree x.0.held held) y.2 (agree t u x.0 y.0 x.1 y.1 away))
  ]
]

agree_set : (lives : TransId → Option Life) (t : TransId) (x : Option Life) → DoLivesAgree lives → ((l : Life) → x ≡ Some l → WasHeld lives t l) → DoLivesAgree (set_life lives t x)
agree_set lives t x agree own = agree_still lives (set_life lives t x) (each_set (WasHeld lives) lives t x own (λ u l is. inl (l, is, refl))) agree

was_some : (lives : TransId → Option Life) (t : TransId) (k : Life) → WasHeld lives t k → (l : Life) → Some k ≡ Some l → WasHeld lives t l
was_some lives t k w l e = subst (WasHeld lives t) (same-some k l e) w

-- ---- a deed

-- what comes about without a call's being answered or granted
abbrev pub IsFree : Deed → Type 0
IsFree (Grants t c) = ⊥
IsFree (Performs t d) = ⊥
IsFree d = Unit {0}

-- a part that goes, or one that intends nothing in its place
set_idle : (m : Cells) (lives : TransId → Option Life) (t : TransId) (x : Option Life) → edits_in x ≡ [] → ((l : Life) → x ≡ Some l → IsSoundPart l) → ((l : Life) → x ≡ Some l → WasHeld lives t l)
    → AreSoundLives m lives → AreSoundLives m (set_life lives t x)
set_idle m lives t x idle own was s = record {
  sound = idle_any lives m t x idle s.sound;
  sized = s.sized;
  agree = agree_set lives t x s.agree was;
  parts = each_set (λ u l. IsSoundPart l) lives t x own s.parts;
}

gone : (m : Cells) (lives : TransId → Option Life) (t : TransId) → AreSoundLives m lives → AreSoundLives m (set_life lives t None)
gone m lives t s = set_idle m lives t None refl (λ l e. absurd (let wrong : None ≡ Some l = e in cc)) (λ l e. absurd (let wrong : None ≡ Some l = e in cc)) s

new : (m : Cells) (lives : TransId → Option Life) (t : TransId) (j : Option JoinNo) (client : ℕ) (who : List ℕ) → AreSoundLives m lives → AreSoundLives m (set_life lives t (Some (new_life j client who)))
new m lives t j client who s =
    set_idle m lives t (Some (new_life j client who)) refl (some_part (new_life j client who) (idle_part (new_life j client who) refl refl none_intended))
    (was_some lives t (new_life j client who) (inr refl)) s

-- one that is over keeps its locks
over : (m : Cells) (lives : TransId → Option Life) (t : TransId) (l : Life) → lives t ≡ Some l → AreSoundLives m lives → AreSoundLives m (set_life lives t (Some (emptied l)))
over m lives t l is s =
    set_idle m lives t (Some (emptied l)) refl (some_part (emptied l) (idle_part (emptied l) refl refl (s.parts t l is).intended)) (was_some lives t (emptied l) (inl (l, is, refl))) s

-- one whose intents, opens and locks stay
set_kept : (m : Cells) (lives : TransId → Option Life) (t : TransId) (l k : Life) → lives t ≡ Some l → k.edits ≡ l.edits → IsSoundPart k → k.held ≡ l.held → AreSoundLives m lives → AreSoundLives m (set_life lives t (Some k))
set_kept m lives t l k is same part held s = record {
  sound = kept_any lives m t (Some k) (same ∙ sym (ap edits_in is)) s.sound;
  sized = s.sized;
  agree = agree_set lives t (Some k) s.agree (was_some lives t k (inl (l, is, sym held)));
  parts = each_set (λ u x. IsSoundPart x) lives t (Some k) (some_part k part) s.parts;
}

readied : (h : Holder) (t : TransId) (ts : ℕ) (x : Option Life) → h.lives t ≡ x → HasSoundLives h → HasSoundLives (readies h t ts x)
readied h t ts None is s = s
readied h t ts (Some l) is s =
    let p = s.parts t l is in
    set_kept h.cells h.lives t l (record l { vote = Some ts }) is refl (record { within = p.within; opens = p.opens; puts = p.puts; intended = p.intended }) refl s

-- where a life is set in place of what is there
lapsed_set : (lives : TransId → Option Life) (j : JoinNo) (t : TransId) → (λ (u : TransId). cond {A = Option Life} (same_trans u t) (lapsed j (lives u)) (lives u)) ≡ set_life lives t (lapsed j (lives t))
lapsed_set lives j t = λ i u. each u i
  where
    each : (u : TransId) → cond {A = Option Life} (same_trans u t) (lapsed j (lives u)) (lives u) ≡ set_life lives t (lapsed j (lives t)) u
    each u = go (same_trans u t) refl
      where
        go : (b : Bool) → same_trans u t ≡ b → cond {A = Option Life} b (lapsed j (lives u)) (lives u) ≡ cond {A = Option Life} b (lapsed j (lives t)) (lives u)
        go true is = ap (λ (v : TransId). lapsed j (lives v)) (same_trans-true u t is)
        go false is = refl

aborted : (m : Cells) (lives : TransId → Option Life) (j : JoinNo) (t : TransId) (x : Option Life) → lives t ≡ x → AreSoundLives m lives → AreSoundLives m (set_life lives t (lapsed j x))
aborted m lives j t None is s = gone m lives t s
aborted m lives j t (Some l) is s = go (is_part j l.join)
  where
    go : (b : Bool) → AreSoundLives m (set_life lives t (Some (cond {A = Life} b (emptied l) l)))
    go true = over m lives t l is s
    go false = set_kept m lives t l l is refl (s.parts t l is) refl s

committed : (h : Holder) (stamp : Stamp) (x : Option Life) → h.lives stamp.trans ≡ x → HasSoundLives h → HasSoundLives (commits h stamp x)
committed h stamp None is s = s
committed h stamp (Some l) is s = record {
  sound = applied_any h.lives h.cells stamp.trans l is (Some (emptied l)) refl s.sound;
  sized = sized_map l.edits h.cells s.sized (puts_are l.edits (s.parts stamp.trans l is).puts);
  agree = agree_set h.lives stamp.trans (Some (emptied l)) s.agree (was_some h.lives stamp.trans (emptied l) (inl (l, is, refl)));
  parts =
      each_set (λ u k. IsSoundPart k) h.lives stamp.trans (Some (emptied l))
      (some_part (emptied l) (idle_part (emptied l) refl refl (s.parts stamp.trans l is).intended)) s.parts;
}

-- a restart leaves those that are ready
abbrev ready_among : (TransId → Option Life) → List TransId → List TransId
ready_among lives [] = []
ready_among lives (t ∷ ts) = cond {A = List TransId} (is_some (if_ready (lives t))) (t ∷ ready_among lives ts) (ready_among lives ts)

few_ready : (lives : TransId → Option Life) (x : TransId) (ts : List TransId) → has_trans x ts ≡ false → has_trans x (ready_among lives ts) ≡ false
few_ready lives x [] none = refl
few_ready lives x (u ∷ us) none = go (is_some (if_ready (lives u))) (few_ready lives x us (or_right (same_trans u x) (has_trans x us) none))
  where
    go : (b : Bool) → has_trans x (ready_among lives us) ≡ false → has_trans x (cond {A = List TransId} b (u ∷ ready_among lives us) (ready_among lives us)) ≡ false
    go true rest = ap (λ (c : Bool). c || has_trans x (ready_among lives us)) (or_left (same_trans u x) (has_trans x us) none) ∙ rest
    go false rest = rest

apart_ready : (lives : TransId → Option Life) (ts : List TransId) → are_trans_apart ts ≡ true → are_trans_apart (ready_among lives ts) ≡ true
apart_ready lives [] h = refl
apart_ready lives (u ∷ us) h = go (is_some (if_ready (lives u))) (apart_ready lives us (rest_apart u us h))
  where
    go : (b : Bool) → are_trans_apart (ready_among lives us) ≡ true → are_trans_apart (cond {A = List TransId} b (u ∷ ready_among lives us) (ready_among lives us)) ≡ true
    go true rest = ap (λ (c : Bool). not c && are_trans_apart (ready_among lives us)) (few_ready lives u us (head_apart u us h)) ∙ rest
    go false rest = rest

ready_edits : (lives : TransId → Option Life) (ts : List TransId) → all_edits (λ t. if_ready (lives t)) ts ≡ all_edits lives (ready_among lives ts)
ready_edits lives [] = refl
ready_edits lives (u ∷ us) = one (lives u) refl (ready_edits lives us)
  where
    voted : (l : Life) (b : Bool) → lives u ≡ Some l → all_edits (λ t. if_ready (lives t)) us ≡ all_edits lives (ready_among lives us) → edits_in (cond {A = Option Life} b (Some l) None) ++ all_edits (λ t. if_ready (lives t)) us
        ≡ all_edits lives (cond {A = List TransId} (is_some (cond {A = Option Life} b (Some l) None)) (u ∷ ready_among lives us) (ready_among lives us))
    voted l true is rest = ap (λ (es : List Edit). l.edits ++ es) rest ∙ ap (λ (o : Option Life). edits_in o ++ all_edits lives (ready_among lives us)) (sym is)
    voted l false is rest = rest

    one : (x : Option Life) → lives u ≡ x → all_edits (λ t. if_ready (lives t)) us ≡ all_edits lives (ready_among lives us) → edits_in (if_ready x) ++ all_edits (λ t. if_ready (lives t)) us
        ≡ all_edits lives (cond {A = List TransId} (is_some (if_ready (lives u))) (u ∷ ready_among lives us) (ready_among lives us))
    one None is rest = rest ∙ ap (λ (o : Option Life). all_edits lives (cond {A = List TransId} (is_some (if_ready o)) (u ∷ ready_among lives us) (ready_among lives us))) (sym is)
    one (Some l) is rest = voted l (is_some l.vote) is rest ∙ ap (λ (o : Option Life). all_edits lives (cond {A = List TransId} (is_some (if_ready o)) (u ∷ ready_among lives us) (ready_among lives us))) (sym is)

was_ready : (x : Option Life) (l : Life) → if_ready x ≡ Some l → x ≡ Some l
was_ready None l e = absurd (let wrong : None ≡ Some l = e in cc)
was_ready (Some k) l e = go (is_some k.vote) e
  where
    go : (b : Bool) → cond {A = Option Life} b (Some k) None ≡ Some l → Some k ≡ Some l
    go true e = e
    go false e = absurd (let wrong : None ≡ Some l = e in cc)

restarted : (m : Cells) (lives : TransId → Option Life) → AreSoundLives m lives → AreSoundLives m (λ t. if_ready (lives t))
restarted m lives s = record {
  sound = λ ts one. subst (λ (es : List Edit). AreSound (edits_map es m)) (sym (ready_edits lives ts)) (s.sound (ready_among lives ts) (apart_ready lives ts one));
  sized = s.sized;
  agree = agree_still lives (λ t. if_ready (lives t)) (λ u l is. inl (l, was_ready (lives u) l is, refl)) s.agree;
  parts = λ t l is. s.parts t l (was_ready (lives t) l is);
}

pub free_sound : (h : Holder) (d : Deed) → IsFree d → HasSoundLives h → HasSoundLives (holder_after h d)
free_sound h (Begins t client who seen) free s = new h.cells h.lives t None client who s
free_sound h (Enters j t client who) free s = new h.cells h.lives t (Some j) client who s
free_sound h (Releases t) free s = gone h.cells h.lives t s
free_sound h (Readies j t ts) free s = readied h t ts (h.lives t) refl s
free_sound h (Aborts j t client c) free s = subst (AreSoundLives h.cells) (sym (lapsed_set h.lives j t)) (aborted h.cells h.lives j t (h.lives t) refl s)
free_sound h (Decides stamp js) free s = committed h stamp (h.lives stamp.trans) refl s
free_sound h (Applies j stamp) free s = committed h stamp (h.lives stamp.trans) refl s
free_sound h (Restarts epoch clock) free s = restarted h.cells h.lives s
free_sound h (Grants t c) free s = absurd free
free_sound h (Performs t d) free s = absurd free
free_sound h (Joins j t client who) free s = s
free_sound h (Quits j t client c) free s = s
free_sound h (Registers t j) free s = s
free_sound h (Finishes t) free s = s
free_sound h (Hears t j ts) free s = s
free_sound h (Ends t client c) free s = s
free_sound h (Acknowledges t j) free s = s
free_sound h (Forgets t) free s = s

-- locks that are granted
granted_sound : (h : Holder) (t : TransId) (c : Call) (x : Option Life) → h.lives t ≡ x → DoLivesAgree (grants h t c x).lives → HasSoundLives h → HasSoundLives (grants h t c x)
granted_sound h t c None is agree s = s
granted_sound h t c (Some l) is agree s =
    let ns : List Need = needs_of (view_in h l) l.own c in
    let p = s.parts t l is in
    record {
      sound = kept_any h.lives h.cells t (Some (record l { held = held_for h l c })) (sym (ap edits_in is)) s.sound;
      sized = s.sized;
      agree = agree;
      parts =
          each_set (λ u k. IsSoundPart k) h.lives t (Some (record l { held = held_for h l c }))
          (some_part (record l { held = held_for h l c }) (more_part l (held_for h l c) (granted-more l.held ns) (granted-intended l.held ns p.intended) p)) s.parts;
    }

-- a call that is answered
module _ (h : Holder) (t : TransId) (l : Life) (d : PerformedCall) (is : h.lives t ≡ Some l) (formed : IsFormed d.call) (locked : HoldsEach l.held (needs_of (view_in h l) l.own d.call))
    (agree : DoLivesAgree (performs h t d (Some l)).lives) (s : HasSoundLives h) where
  abbrev held : Holding
  held = with_made l.held (id_in d.reply)

  abbrev said : Answer
  said = answer_in h l d

  abbrev later : Life
  later = after_done l d said

  part : IsSoundPart l
  part = s.parts t l is

  more : IsMore l.held held
  more = joined-more l.held (needs_made (id_in d.reply))

  sized_here : AreSized (view_in h l)
  sized_here = sized_map l.edits h.cells s.sized (puts_are l.edits part.puts)

  opens_here : OpensRead (Reads held) l.own.opens
  opens_here = opens_more (Reads l.held) (Reads held) (reads_more l.held held more) l.own.opens part.opens

  lets : LetsEach (Reads held) (Writes held) (needs_done (view_in h l) l.own d)
  lets = lets-each held (needs_done (view_in h l) l.own d) (done-holds l.held (view_in h l) l.own d locked)

  fits : AreWithin (Writes held) said.edits × OpensRead (Reads held) said.own.opens × PutsSized said.edits
  fits = answer-fits (Reads held) (Writes held) (view_in h l) sized_here h.server [] l.who l.own opens_here d formed lets

  intended_here : IsIntended held
  intended_here = with_made-intended l.held (id_in d.reply) part.intended

  new_part : IsSoundPart later
  new_part = record {
    within = within-append (Writes held) l.edits said.edits (within_more (Writes l.held) (Writes held) (writes_more l.held held more) l.edits part.within) fits.0;
    opens = fits.1;
    puts = puts_were (l.edits ++ said.edits) (sized-append l.edits said.edits (puts_are l.edits part.puts) fits.2);
    intended = intended_here;
  }

  itself : set_life h.lives t (Some later) t ≡ Some later
  itself = ap (λ (b : Bool). cond {A = Option Life} b (Some later) (h.lives t)) (same_trans-itself t)

  others : (u : TransId) → same_trans u t ≡ false → IsAway (Reads held) (h.lives u)
  others u other = go (h.lives u) refl
    where
      go : (x : Option Life) → h.lives u ≡ x → IsAway (Reads held) x
      go None e = record { within = tt; away = λ k w r. w }
      go (Some k) e =
          let there : set_life h.lives t (Some later) u ≡ Some k = ap (λ (b : Bool). cond {A = Option Life} b (Some later) (h.lives u)) other ∙ e in
          let leaves : DoAgreeOnLeaves k.held held = agreement-of-leaves k.held held (agree u t k later there itself other) (s.parts u k e).intended intended_here in
          record { within = (s.parts u k e).within; away = apart k.held held leaves }

  -- with whichever others it is answered as it is
  called_sound : (ts : List TransId) → has_trans t ts ≡ true → are_trans_apart ts ≡ true → AreSound (edits_map said.edits (edits_map (all_edits h.lives ts) h.cells))
  called_sound ts there one =
      let n : Cells = edits_map (all_edits h.lives ts) h.cells in
      let same : said ≡ answer h.server [] (map.get n) l.who l.own d.call d.reply =
      answer-frame (Reads held) (Writes held) (view_in h l) (map.get n) (own_same (Reads held) h.lives t others l is ts there one h.cells) sized_here h.server [] [] l.who l.own opens_here d formed lets (λ f e. refl) in
      subst (λ (a : Answer). AreSound (edits_map a.edits n)) (sym same) (answers_sound n (s.sound ts one) h.server [] l.who l.own d.call d.reply formed.0)

  performed_any : AreSoundInAny (set_life h.lives t (Some later)) h.cells
  performed_any ts one = go (has_trans t ts) refl
    where
      go : (b : Bool) → has_trans t ts ≡ b → AreSound (edits_map (all_edits (set_life h.lives t (Some later)) ts) h.cells)
      go true there =
          subst AreSound (sym (more_last (Reads held) h.lives t others (Writes held) (writes-is-reads held) l later said.edits is refl fits.0 ts there one h.cells)) (called_sound ts there one)
      go false none = subst (λ (es : List Edit). AreSound (edits_map es h.cells)) (sym (unset_edits h.lives t (Some later) ts none)) (s.sound ts one)

  performed_sound : HasSoundLives (performs h t d (Some l))
  performed_sound = record {
    sound = performed_any;
    sized = s.sized;
    agree = agree;
    parts = each_set (λ u k. IsSoundPart k) h.lives t (Some later) (some_part later new_part) s.parts;
  }

pub deed_sound : (e : Event) (s : State) (d : Deed) → IsLawfulDeed e s d → HasSoundLives s.holder → HasSoundLives (state_deed s d).holder
deed_sound e s (Grants t c) law h = granted_sound s.holder t c (s.holder.lives t) refl law.locks.1 h
deed_sound e s (Performs t d) law h =
    let v = law.view in
    subst (λ (x : Option Life). HasSoundLives (performs s.holder t d x)) (sym v.1)
    (performed_sound s.holder t v.0 d v.1 v.2.formed v.2.locked (subst (λ (x : Option Life). DoLivesAgree (performs s.holder t d x).lives) v.1 law.locks) h)
deed_sound e s (Begins t client who seen) law h = free_sound s.holder (Begins t client who seen) tt h
deed_sound e s (Enters j t client who) law h = free_sound s.holder (Enters j t client who) tt h
deed_sound e s (Releases t) law h = free_sound s.holder (Releases t) tt h
deed_sound e s (Readies j t ts) law h = free_sound s.holder (Readies j t ts) tt h
deed_sound e s (Aborts j t client c) law h = free_sound s.holder (Aborts j t client c) tt h
deed_sound e s (Decides stamp js) law h = free_sound s.holder (Decides stamp js) tt h
deed_sound e s (Applies j stamp) law h = free_sound s.holder (Applies j stamp) tt h
deed_sound e s (Restarts epoch clock) law h = free_sound s.holder (Restarts epoch clock) tt h
deed_sound e s (Joins j t client who) law h = h
deed_sound e s (Quits j t client c) law h = h
deed_sound e s (Registers t j) law h = h
deed_sound e s (Finishes t) law h = h
deed_sound e s (Hears t j ts) law h = h
deed_sound e s (Ends t client c) law h = h
deed_sound e s (Acknowledges t j) law h = h
deed_sound e s (Forgets t) law h = h

pub deeds_sound : (e : Event) (ds : List Deed) (s : State) → Along state_deed (IsLawfulDeed e) s ds → HasSoundLives s.holder → HasSoundLives (state_after state_deed s ds).holder
deeds_sound e [] s law h = h
deeds_sound e (d ∷ ds) s law h = deeds_sound e ds (state_deed s d) law.1 (deed_sound e s d law.0 h)

-- ---- a restart

-- what a restart may find made is free
effective_free : (ready : List JoinNo) (clock : ℕ) (stamps : List Stamp) (d : Deed) → is_effective ready clock stamps d ≡ true → IsFree d
effective_free ready clock stamps (Grants t c) is = absurd (let wrong : false ≡ true = is in cc)
effective_free ready clock stamps (Performs t d) is = absurd (let wrong : false ≡ true = is in cc)
effective_free ready clock stamps (Begins t client who seen) is = tt
effective_free ready clock stamps (Enters j t client who) is = tt
effective_free ready clock stamps (Releases t) is = tt
effective_free ready clock stamps (Readies j t ts) is = tt
effective_free ready clock stamps (Aborts j t client c) is = tt
effective_free ready clock stamps (Decides stamp js) is = tt
effective_free ready clock stamps (Applies j stamp) is = tt
effective_free ready clock stamps (Restarts epoch now) is = tt
effective_free ready clock stamps (Joins j t client who) is = tt
effective_free ready clock stamps (Quits j t client c) is = tt
effective_free ready clock stamps (Registers t j) is = tt
effective_free ready clock stamps (Finishes t) is = tt
effective_free ready clock stamps (Hears t j ts) is = tt
effective_free ready clock stamps (Ends t client c) is = tt
effective_free ready clock stamps (Acknowledges t j) is = tt
effective_free ready clock stamps (Forgets t) is = tt

-- with whatever of some deeds a restart finds made it stays so
pub found_sound : (ready : List JoinNo) (clock : ℕ) (stamps : List Stamp) (ds : List Deed) (s : State) → HasSoundLives s.holder → HasSoundLives (state_after state_deed s (filter (is_effective ready clock stamps) ds)).holder
found_sound ready clock stamps [] s h = h
found_sound ready clock stamps (d ∷ ds) s h = go (is_effective ready clock stamps d) refl (λ m k. found_sound ready clock stamps ds m k)
  where
    go : (b : Bool) → is_effective ready clock stamps d ≡ b → ((m : State) → HasSoundLives m.holder → HasSoundLives (state_after state_deed m (filter (is_effective ready clock stamps) ds)).holder)
        → HasSoundLives (state_after state_deed s (cond {A = List Deed} b (d ∷ filter (is_effective ready clock stamps) ds) (filter (is_effective ready clock stamps) ds))).holder
    go true is on = on (state_deed s d) (free_sound s.holder d (effective_free ready clock stamps d is) h)
    go false is on = on s h

started_sound : (s : State) (acts : List Act) → Regains s acts → HasSoundLives s.holder → HasSoundLives (state_after state_deed s (flat_map (act_deeds s event.Restart) acts ++ [])).holder
started_sound s (act.Regained epoch clock ready stamps ∷ []) regains h =
    let m : State = state_after state_deed s (resolved s ready clock stamps) in
    let now : HasSoundLives (state_deed m (Restarts epoch clock)).holder = free_sound m.holder (Restarts epoch clock) tt (found_sound ready clock stamps s.pending s h) in
    subst (λ (x : State). HasSoundLives x.holder) (sym (
    ap (state_after state_deed s) (append-nil ((resolved s ready clock stamps ++ Restarts epoch clock ∷ []) ++ []) ∙ append-nil (resolved s ready clock stamps ++ Restarts epoch clock ∷ []))
    ∙ deeds-append (resolved s ready clock stamps) (Restarts epoch clock ∷ []) s)) now
  where
    deeds-append : (xs ys : List Deed) (s : State) → state_after state_deed s (xs ++ ys) ≡ state_after state_deed (state_after state_deed s xs) ys
    deeds-append [] ys s = refl
    deeds-append (d ∷ xs) ys s = deeds-append xs ys (state_deed s d)
started_sound s acts regains h = absurd regains

-- ---- an entry, and a journal

did_sound : (s : State) (e : Entry) (x : Event) → e.event ≡ x → DeedsAreLawful s e x → StartsRight s e x → HasSoundLives s.holder → HasSoundLives (did s e).holder
did_sound s e event.Restart is law start h =
    subst (λ (y : Event). HasSoundLives (state_after state_deed s (event_deeds s y e.reply e.acts ++ flat_map (act_deeds s y) e.acts ++ done_deeds s y e.reply)).holder) (sym is) (started_sound s e.acts start.0 h)
did_sound s e (event.Call client epoch number c) is law start h = deeds_sound (event.Call client epoch number c) (tried s e) s law h
did_sound s e (event.Arrive from m) is law start h = deeds_sound (event.Arrive from m) (tried s e) s law h
did_sound s e (event.Timeout t) is law start h = deeds_sound (event.Timeout t) (tried s e) s law h
did_sound s e event.Tick is law start h = deeds_sound event.Tick (tried s e) s law h
did_sound s e event.Force is law start h = deeds_sound event.Force (tried s e) s law h

pub entry_sound : (s : State) (e : Entry) → IsLawfulEntry s e → HasSoundLives s.holder → HasSoundLives (next s e).holder
entry_sound s e law h = go (stops e)
  where
    go : (b : Bool) → HasSoundLives (cond {A = State} b (halted s e) (told s e)).holder
    go true = h
    go false = did_sound s e e.event refl law.deeds law.restart h

pub journal_sound : (s : State) (es : List Entry) → Along next IsLawfulEntry s es → HasSoundLives s.holder → HasSoundLives (state_after next s es).holder
journal_sound s [] law h = h
journal_sound s (e ∷ es) law h = journal_sound (next s e) es law.1 (entry_sound s e law.0 h)
