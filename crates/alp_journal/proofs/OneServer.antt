-- what a server applied is one thread's history, whatever votes, late stamps and restarts there were
use Rattle.std.specs.Prelude.{cond, Bool, true, false, max, Option, None, Some, map as list_map, is_some}
use Rattle.std.specs.Option.{option_to_list}
use Rattle.std.specs.FinMap as map
use Rattle.std.specs.FinMap.Entries.{put}
use Rattle.std.proofs.Common.{◌≡◌, ℕ, ◌<◌, ◌≤◌, List, [], ◌∷◌, ◌++◌, refl, sym, ◌∙◌, ap, subst, arith, le_refl, inl, inr, ◌⊎◌}
use Rattle.alp_base.specs.declared.ids.FileId.{FileId}
use Rattle.alp_base.specs.declared.ids.JoinNo.{JoinNo}
use Rattle.alp_base.specs.declared.ids.TransId.{TransId}
use Rattle.alp_base.specs.declared.ids.Stamp.{Stamp}
use Rattle.alp_modes.specs.declared.Mode.{Mode}
use Rattle.alp_files.specs.Holdings.{Holding, DoAgree, DoAgreeOnLeaves, IsIntended, agree_held}
use Rattle.alp_files.proofs.HoldingLemmas.{agreement-of-leaves}
use Rattle.alp_files.specs.declared.call.Call.{Call}
use Rattle.alp_files.specs.Cells.{Cells, has_file}
use Rattle.alp_files.specs.Edits.{Edit, edits_map}
use Rattle.alp_files.specs.Act.{no_opens, id_in}
use Rattle.alp_files.specs.History.{PerformedCall, Standing, Decided, IsSerial, serial_end, starting, begun}
use Rattle.alp_files.specs.Locks.{needs_of, Reads, Writes}
use Rattle.alp_files.specs.Apart.{AreSized, IsWithin, DoShowSame, AreNewAlike, ids_after, standing, Locked, after_part, IsRightUnder, DoesSame, decided_as, changes}
use Rattle.alp_files.proofs.LookLemmas.{PutsSized}
use Rattle.alp_files.proofs.HeldLemmas.{apart, leaves-turned, writes-is-reads}
use Rattle.alp_files.proofs.HistoryLemmas.{get-edits_map}
use Rattle.alp_files.proofs.FilesLemmas.{same-some}
use Rattle.alp_files.proofs.FrameLemmas.{apart-same, edits-commute, sized-after, part-frame, part-within, files-changed, made-after, steps-sized}
use Rattle.alp_files.proofs.SwapLemmas.{AreAlike, part-alike}
use Rattle.alp_journal.specs.Ids.{same_trans, stamp_cmp}
use Rattle.alp_journal.specs.Deeds.{Deed, Begins, Joins, Enters, Quits, Aborts, Grants, Performs, Releases, Readies, Applies, Registers, Finishes, Hears, Decides, Ends, Acknowledges, Forgets, Restarts}
use Rattle.alp_journal.specs.Holder.{Holder, Life, no_locks, new_life, emptied, is_part, lapsed, view_in, answer_in, held_for, with_life, grants, after_done, performs, readies, in_history, commits, if_ready, holder_after}
use Rattle.alp_journal.specs.Laws.{DoLivesAgree}
use Rattle.alp_journal.specs.Holding.{IsCalled, IsNewStamp, IsTimely, HasNotVoted, MayDo}
use Rattle.alp_journal.proofs.IdLemmas.{same_trans-true}
use Rattle.alp_journal.proofs.HistoryOrder.{Item, put_item, All, AreGood, end_of, right-alike, good-alike, sized-after as sized-part, AreRising, AreOthers, IsClear, map-all, others-earlier, put-all, put-rising, IsPut, put-good, put-left, left_by_items, decided_items, history_of, put-decided, good-serial, good-end}
use Rattle.alp_journal.proofs.LeftBehind.{left_along, part-changes, left-alike}
use Rattle.alp_journal.proofs.LifeLemmas.{part_of, now_at, IsVoteClear, IsGoodLife, none-intended, idle-life, granted-life, given-before, life-given, performed-life, other-life}

-- ---- changes that an earlier run made ready

new-same : (made : List FileId) (ds : List PerformedCall) → AreNewAlike made made ds
new-same made [] = tt
new-same made (d ∷ ds) = ((λ f e. refl), new-same made ds)

module _ (server : ℕ) (held : Holding) (es : List Edit) (within : IsWithin (Writes held) es) (puts : PutsSized es) where
  sized-too : (m : Cells) → AreSized (map.get m) → AreSized (map.get (edits_map es m))
  sized-too m s = subst AreSized (sym (get-edits_map es m)) (sized-after es (map.get m) s puts)

  -- a part whose locks agree does the same behind them
  same-behind : (s : Standing) (p : Locked) → DoAgreeOnLeaves held p.held → AreSized (map.get s.files) → IsRightUnder server s p
      → DoesSame p.held server (begun s) (standing (edits_map es s.files) s.made no_opens) p.who p.calls
  same-behind s p agree sized one =
      part-frame p.held server p.who p.calls s.files (edits_map es s.files) s.made s.made no_opens one.formed sized tt one.covered
      (apart-same (Reads p.held) (Writes held) (apart held p.held agree) es within s.files) (new-same s.made p.calls)

  -- they may as well come before a whole history
  record ComesFirst (s : Standing) (xs : List Item) : Type 0 where
    good : AreGood server (standing (edits_map es s.files) s.made no_opens) xs
    files : (end_of server (standing (edits_map es s.files) s.made no_opens) xs).files ≡ edits_map es (end_of server s xs).files
    ids : AreAlike (end_of server (standing (edits_map es s.files) s.made no_opens) xs).made (end_of server s xs).made
    left : left_by_items server (standing (edits_map es s.files) s.made no_opens) xs ≡ left_by_items server s xs

  comes-first : (xs : List Item) (s : Standing) → AreSized (map.get s.files) → All (λ x. DoAgreeOnLeaves held x.1.held) xs → AreGood server s xs → ComesFirst s xs
  comes-first [] s sized away g = record { good = tt; files = refl; ids = λ f. refl; left = refl }
  comes-first (x ∷ xs) s sized away g =
      let t : Standing = standing (edits_map es s.files) s.made no_opens in
      let same : DoesSame x.1.held server (begun s) t x.1.who x.1.calls = same-behind s x.1 away.0 sized g.0 in
      let mine : List Edit = changes server (begun s) x.1.who x.1.calls in
      let inside = part-within x.1.held server x.1.who x.1.calls s.files s.made no_opens g.0.formed sized tt g.0.covered in
      let s1 : Standing = after_part server s x.1 in
      let t1 : Standing = after_part server t x.1 in
      let files : t1.files ≡ edits_map es s1.files =
      files-changed server x.1.who x.1.calls t
      ∙ ap (λ (fs : List Edit). edits_map fs (edits_map es s.files)) (sym same.edits)
      ∙ edits-commute (Writes held) (Writes x.1.held) (λ k w r. apart held x.1.held away.0 k w (writes-is-reads x.1.held k r)) es mine within inside.0 s.files
      ∙ ap (edits_map es) (sym (files-changed server x.1.who x.1.calls (begun s))) in
      let made : t1.made ≡ s1.made = made-after server x.1.who x.1.calls t ∙ sym (made-after server x.1.who x.1.calls (begun s)) in
      let rest : ComesFirst s1 xs = comes-first xs s1 (sized-part server s x.1 sized g.0) away.1 g.1 in
      let moved = good-alike server xs (standing (edits_map es s1.files) s1.made no_opens) t1 (sym files) (λ f. ap (has_file f) (sym made)) rest.good in
      record {
        good = (record { formed = g.0.formed; right = same.right g.0.right; covered = same.covered g.0.covered }, moved.0);
        files = sym moved.1 ∙ rest.files;
        ids = λ f. sym (moved.2 f) ∙ rest.ids f;
        left = λ i. (x.0, sym same.edits i) ∷ (left-alike server (decided_items xs) t1 (standing (edits_map es s1.files) s1.made no_opens) files (λ f. ap (has_file f) made) ∙ rest.left) i;
      }

-- ---- lives

-- a part of an earlier run: what it changes it may write, and all that was applied is apart from it
pub record IsGoodEarly (parts : List Item) (l : Life) : Type 0 where
  pub early : l.is_early ≡ true
  pub voted : is_some l.vote ≡ true
  pub within : IsWithin (Writes l.held) l.edits
  pub puts : PutsSized l.edits
  pub intended : IsIntended l.held
  pub away : All (λ x. DoAgreeOnLeaves l.held x.1.held) parts

abbrev pub IsSoundLife : ℕ → Cells → List FileId → List FileId → List Item → Life → Type 0
IsSoundLife server cells ids made parts l = IsGoodEarly parts l ⊎ ((l.is_early ≡ false) × IsGoodLife server cells ids made parts l)

pub life-intended : (server : ℕ) (cells : Cells) (ids made : List FileId) (parts : List Item) (l : Life) → IsSoundLife server cells ids made parts l → IsIntended l.held
life-intended server cells ids made parts l h = elim h [ inl e ↦ e.intended | inr g ↦ g.1.intended ]

-- one that has not voted is of this run
pub own-life : (server : ℕ) (cells : Cells) (ids made : List FileId) (parts : List Item) (l : Life) → l.vote ≡ None → IsSoundLife server cells ids made parts l → (l.is_early ≡ false) × IsGoodLife server cells ids made parts l
own-life server cells ids made parts l v h = elim h [ inl e ↦ absurd (let wrong : false ≡ true = sym (ap is_some v) ∙ e.voted in cc) | inr g ↦ g ]

life_set : (P : TransId → Life → Type 0) (lives : TransId → Option Life) (t : TransId) (life : Option Life) → ((l : Life) → life ≡ Some l → P t l)
    → ((u : TransId) (l : Life) → same_trans u t ≡ false → lives u ≡ Some l → P u l) → (u : TransId) (l : Life) → cond {A = Option Life} (same_trans u t) life (lives u) ≡ Some l → P u l
life_set P lives t life own others u l = go (same_trans u t) refl
  where
    go : (b : Bool) → same_trans u t ≡ b → cond {A = Option Life} b life (lives u) ≡ Some l → P u l
    go true is e = subst (λ (x : TransId). P x l) (sym (same_trans-true u t is)) (own l e)
    go false is e = others u l is e

some_life : (P : Life → Type 0) (k : Life) → P k → (l : Life) → Some k ≡ Some l → P l
some_life P k p l e = subst P (same-some k l e) p

no_life : (P : Life → Type 0) (l : Life) → None ≡ Some l → P l
no_life P l e = cc

-- there was a life with the same locks, or it has none
abbrev WasHeld : (TransId → Option Life) → TransId → Life → Type 0
WasHeld lives u l = ((k : Life) × (lives u ≡ Some k) × (k.held ≡ l.held)) ⊎ (l.held ≡ no_locks)

none-left : (a : Option Mode) → agree_held a None ≡ true
none-left None = refl
none-left (Some a) = refl

agree_still : (before now : TransId → Option Life) → ((u : TransId) (l : Life) → now u ≡ Some l → WasHeld before u l) → DoLivesAgree before → DoLivesAgree now
agree_still before now was agree t u k l a b away = elim (was t k a) [
  | inr none ↦ subst (λ (held : Holding). DoAgree held l.held) (sym none) (λ r. refl)
  | inl x ↦ elim (was u l b) [
    | inr none ↦ subst (λ (held : Holding). DoAgree k.held held) (sym none) (λ r. none-left (k.held r))
    | inl y ↦ subst (λ (held : Holding). DoAgree held l.held) x.2 (subst (λ (held : Holding). DoAgree x.0.held held) y.2 (agree t u x.0 y.0 x.1 y.1 away))
  ]
]

-- ---- what holds of a server

-- The committed cells are what the applied parts leave, one after the other in the order of their stamps, each right where
-- it stands, from the opening's cells with those changes on that earlier runs had made ready and that were applied since;
-- and each live part is right on them. What is kept of each part's changes is what it changes where it stands.
pub record Holds (server : ℕ) (opening : Cells → Type 0) (clock kept : ℕ) (cells : Cells) (lives : TransId → Option Life) (made : List FileId) (applied : List (Stamp × Decided)) (left : List (Stamp × List Edit)) : Type 0 where
  pub base : Cells
  pub from : opening base
  pub base_sized : AreSized (map.get base)
  pub parts : List Item
  pub ids : List FileId
  pub list : decided_items parts ≡ applied
  pub left_so : left_along server (starting base) applied ≡ left
  pub good : AreGood server (starting base) parts
  pub files : (end_of server (starting base) parts).files ≡ cells
  pub alike : AreAlike (end_of server (starting base) parts).made ids
  pub sized : AreSized (map.get cells)
  pub rising : AreRising parts
  pub below : All (λ x. x.0.ts ≤ kept) parts
  pub order : kept ≤ clock
  pub given : (f : FileId) → has_file f made ≡ false → has_file f ids ≡ false
  pub live : (t : TransId) (l : Life) → lives t ≡ Some l → IsSoundLife server cells ids made parts l
  pub agree : DoLivesAgree lives

abbrev pub IsHeld : (Cells → Type 0) → Holder → Type 0
IsHeld o s = Holds s.server o s.clock s.kept s.cells s.lives s.made s.applied s.left

module _ (o : Cells → Type 0) (s : Holder) (h : IsHeld o s) where
  -- a later clock, and other lives
  with_lives : (clock kept : ℕ) (lives : TransId → Option Life) → s.kept ≤ kept → kept ≤ clock
      → ((t : TransId) (l : Life) → lives t ≡ Some l → IsSoundLife s.server s.cells h.ids s.made h.parts l) → DoLivesAgree lives → Holds s.server o clock kept s.cells lives s.made s.applied s.left
  with_lives clock kept lives low le live agree = record {
    base = h.base;
    from = h.from;
    base_sized = h.base_sized;
    parts = h.parts;
    ids = h.ids;
    list = h.list;
    left_so = h.left_so;
    good = h.good;
    files = h.files;
    alike = h.alike;
    sized = h.sized;
    rising = h.rising;
    below = map-all (λ x. x.0.ts ≤ s.kept) (λ x. x.0.ts ≤ kept) (λ x k. omega (arith, k, low)) h.parts h.below;
    order = le;
    given = h.given;
    live = live;
    agree = agree;
  }

  -- a new part, without locks
  new_held : (join : Option JoinNo) (t : TransId) (client seen : ℕ) (who : List ℕ) → Holds s.server o (max s.clock seen) s.kept s.cells (with_life s t (Some (new_life join client who))).lives s.made s.applied s.left
  new_held join t client seen who =
      with_lives (max s.clock seen) s.kept (with_life s t (Some (new_life join client who))).lives (le_refl s.kept) (let le : s.kept ≤ s.clock = h.order in omega (arith, le))
      (life_set (λ u k. IsSoundLife s.server s.cells h.ids s.made h.parts k) s.lives t (Some (new_life join client who))
      (some_life (λ k. IsSoundLife s.server s.cells h.ids s.made h.parts k) (new_life join client who)
      (inr (refl, idle-life s.server s.cells h.ids s.made h.parts client who no_locks join h.given none-intended)))
      (λ u k away is. h.live u k is))
      (agree_still s.lives (with_life s t (Some (new_life join client who))).lives
      (life_set (WasHeld s.lives) s.lives t (Some (new_life join client who)) (some_life (WasHeld s.lives t) (new_life join client who) (inr refl)) (λ u k away is. inl (k, is, refl))) h.agree)

  -- a part of this join is over
  lapse-cases : (j : JoinNo) (t u : TransId) (P : Life → Type 0) (l : Life) → cond {A = Option Life} (same_trans u t) (lapsed j (s.lives u)) (s.lives u) ≡ Some l
      → ((k : Life) → s.lives u ≡ Some k → P k) → ((k : Life) → s.lives u ≡ Some k → P (emptied k)) → P l
  lapse-cases j t u P l is same over = go (same_trans u t) is
    where
      pick : (y : Life) (b : Bool) → s.lives u ≡ Some y → Some (cond {A = Life} b (emptied y) y) ≡ Some l → P l
      pick y true e k = subst P (same-some (emptied y) l k) (over y e)
      pick y false e k = subst P (same-some y l k) (same y e)

      each : (x : Option Life) → s.lives u ≡ x → lapsed j x ≡ Some l → P l
      each None e k = cc
      each (Some y) e k = pick y (is_part j y.join) e k

      go : (b : Bool) → cond {A = Option Life} b (lapsed j (s.lives u)) (s.lives u) ≡ Some l → P l
      go true is = each (s.lives u) refl is
      go false is = same l is

  lapsed_held : (j : JoinNo) (t : TransId) → Holds s.server o s.clock s.kept s.cells (λ u. cond {A = Option Life} (same_trans u t) (lapsed j (s.lives u)) (s.lives u)) s.made s.applied s.left
  lapsed_held j t =
      with_lives s.clock s.kept (λ u. cond {A = Option Life} (same_trans u t) (lapsed j (s.lives u)) (s.lives u)) (le_refl s.kept) h.order
      (λ u l is. lapse-cases j t u (λ k. IsSoundLife s.server s.cells h.ids s.made h.parts k) l is (λ k e. h.live u k e)
      (λ k e. inr (refl, idle-life s.server s.cells h.ids s.made h.parts k.client k.who k.held k.join h.given (life-intended s.server s.cells h.ids s.made h.parts k (h.live u k e)))))
      (agree_still s.lives (λ u. cond {A = Option Life} (same_trans u t) (lapsed j (s.lives u)) (s.lives u)) (λ u l is. lapse-cases j t u (WasHeld s.lives u) l is (λ k e. inl (k, e, refl)) (λ k e. inl (k, e, refl))) h.agree)

  released_held : (t : TransId) → Holds s.server o s.clock s.kept s.cells (with_life s t None).lives s.made s.applied s.left
  released_held t =
      with_lives s.clock s.kept (with_life s t None).lives (le_refl s.kept) h.order
      (life_set (λ u k. IsSoundLife s.server s.cells h.ids s.made h.parts k) s.lives t None (no_life (λ k. IsSoundLife s.server s.cells h.ids s.made h.parts k)) (λ u k away is. h.live u k is))
      (agree_still s.lives (with_life s t None).lives (life_set (WasHeld s.lives) s.lives t None (no_life (WasHeld s.lives t)) (λ u k away is. inl (k, is, refl))) h.agree)

  granted_held : (t : TransId) (c : Call) (x : Option Life) → s.lives t ≡ x → HasNotVoted s t → DoLivesAgree (grants s t c x).lives → IsHeld o (grants s t c x)
  granted_held t c None is free agree = h
  granted_held t c (Some l) is free agree =
      let mine = own-life s.server s.cells h.ids s.made h.parts l (free l is) (h.live t l is) in
      with_lives s.clock s.kept (grants s t c (Some l)).lives (le_refl s.kept) h.order
      (life_set (λ u k. IsSoundLife s.server s.cells h.ids s.made h.parts k) s.lives t (Some (record l { held = held_for s l c }))
      (some_life (λ k. IsSoundLife s.server s.cells h.ids s.made h.parts k) (record l { held = held_for s l c })
      (inr (mine.0, granted-life s.server s.cells h.ids s.made h.parts l (needs_of (view_in s l) l.own c) (free l is) mine.1)))
      (λ u k away k_is. h.live u k k_is)) agree

  -- a vote is above all that was applied
  readied_held : (t : TransId) (ts : ℕ) (x : Option Life) → s.lives t ≡ x → s.clock < ts → HasNotVoted s t → IsHeld o (readies s t ts x)
  readied_held t ts None is late free = h
  readied_held t ts (Some l) is late free =
      let mine = own-life s.server s.cells h.ids s.made h.parts l (free l is) (h.live t l is) in
      let le : s.kept ≤ s.clock = h.order in
      with_lives s.clock s.kept (readies s t ts (Some l)).lives (le_refl s.kept) h.order
      (life_set (λ u k. IsSoundLife s.server s.cells h.ids s.made h.parts k) s.lives t (Some (record l { vote = Some ts }))
      (some_life (λ k. IsSoundLife s.server s.cells h.ids s.made h.parts k) (record l { vote = Some ts })
      (inr (
        mine.0,
        record {
          right = mine.1.right;
          edits = mine.1.edits;
          own = mine.1.own;
          given = mine.1.given;
          intended = mine.1.intended;
          clear = map-all (λ y. y.0.ts ≤ s.kept) (IsClear l.held ts) (λ y low. inr (omega (arith, low, late, le))) h.parts h.below;
        },
      )))
      (λ u k away k_is. h.live u k k_is))
      (agree_still s.lives (readies s t ts (Some l)).lives
      (life_set (WasHeld s.lives) s.lives t (Some (record l { vote = Some ts })) (some_life (WasHeld s.lives t) (record l { vote = Some ts }) (inl (l, is, refl))) (λ u k away k_is. inl (k, k_is, refl))) h.agree)

  -- only what is ready outlives a restart
  was_ready : (u : TransId) (l : Life) (x : Option Life) → s.lives u ≡ x → if_ready x ≡ Some l → s.lives u ≡ Some l
  was_ready u l None is e = cc
  was_ready u l (Some k) is e = go (is_some k.vote) e
    where
      go : (b : Bool) → cond {A = Option Life} b (Some k) None ≡ Some l → s.lives u ≡ Some l
      go true e = is ∙ e
      go false e = cc

  restarted_held : (clock : ℕ) → s.kept ≤ clock → Holds s.server o clock clock s.cells (λ t. if_ready (s.lives t)) s.made s.applied s.left
  restarted_held clock le =
      with_lives clock clock (λ t. if_ready (s.lives t)) le (le_refl clock) (λ t l is. h.live t l (was_ready t l (s.lives t) refl is))
      (agree_still s.lives (λ t. if_ready (s.lives t)) (λ u l is. inl (l, was_ready u l (s.lives u) refl is, refl)) h.agree)

  performed_held : (t : TransId) (d : PerformedCall) (l : Life) → s.lives t ≡ Some l → IsCalled s l d → DoLivesAgree (performs s t d (Some l)).lives → IsHeld o (performs s t d (Some l))
  performed_held t d l is law agree =
      let made : List FileId = option_to_list (id_in d.reply) ++ s.made in
      let new : Life = after_done l d (answer_in s l d) in
      let mine = own-life s.server s.cells h.ids s.made h.parts l law.active (h.live t l is) in
      record {
        base = h.base;
        from = h.from;
        base_sized = h.base_sized;
        parts = h.parts;
        ids = h.ids;
        list = h.list;
        left_so = h.left_so;
        good = h.good;
        files = h.files;
        alike = h.alike;
        sized = h.sized;
        rising = h.rising;
        below = h.below;
        order = h.order;
        given = λ f none. h.given f (given-before (id_in d.reply) s.made f none);
        live =
            life_set (λ u k. IsSoundLife s.server s.cells h.ids made h.parts k) s.lives t (Some new)
            (some_life (λ k. IsSoundLife s.server s.cells h.ids made h.parts k) new
            (inr (mine.0, performed-life s.server s.cells h.ids s.made h.parts l d mine.1 law.active law.formed law.right law.fresh law.locked)))
            (λ u k away k_is. elim (h.live u k k_is) [ inl e ↦ inl e | inr g ↦ inr (g.0, life-given s.server s.cells h.ids s.made h.parts k (id_in d.reply) g.1) ]);
        agree = agree;
      }

-- the parts that decided ones are
new-items : (x : Stamp) (xs : List Item) → IsNewStamp x (decided_items xs) → AreOthers x xs
new-items x [] h = tt
new-items x (y ∷ ys) h = (h.0, new-items x ys h.1)

-- ---- a part is applied

module _ (o : Cells → Type 0) (s : Holder) (h : IsHeld o s) (stamp : Stamp) (l : Life) (is : s.lives stamp.trans ≡ Some l) where
  abbrev left_life : Life
  left_life = record l { calls = []; edits = []; own = no_opens; vote = None; is_early = false }

  left_agree : DoLivesAgree (with_life s stamp.trans (Some left_life)).lives
  left_agree =
      agree_still s.lives (with_life s stamp.trans (Some left_life)).lives
      (life_set (WasHeld s.lives) s.lives stamp.trans (Some left_life) (some_life (WasHeld s.lives stamp.trans) left_life (inl (l, is, refl))) (λ u m away m_is. inl (m, m_is, refl))) h.agree

  leaves_of : (u : TransId) (m : Life) → same_trans u stamp.trans ≡ false → s.lives u ≡ Some m → IsIntended l.held → DoAgreeOnLeaves m.held l.held
  leaves_of u m away m_is intended =
      agreement-of-leaves m.held l.held (h.agree u stamp.trans m l m_is is away) (life-intended s.server s.cells h.ids s.made h.parts m (h.live u m m_is)) intended

  -- one of this run goes into the history at its stamp
  own_held : (v : ℕ) → l.is_early ≡ false → IsGoodLife s.server s.cells h.ids s.made h.parts l → v ≤ stamp.ts → AreOthers stamp h.parts → All (IsClear l.held v) h.parts
      → Holds s.server o (max s.clock stamp.ts) (max s.clock stamp.ts) (edits_map l.edits s.cells) (with_life s stamp.trans (Some left_life)).lives s.made
      (put stamp_cmp stamp (record { stamp = stamp; who = l.who; calls = l.calls }) s.applied) (put stamp_cmp stamp l.edits s.left)
  own_held v mine_own mine le new clear =
      let start : Standing = starting h.base in
      let x : Item = (stamp, part_of l) in
      let base : Standing = now_at s.cells h.ids in
      let cells : Cells = edits_map l.edits s.cells in
      let last : Standing = end_of s.server start h.parts in
      let there : IsRightUnder s.server last (part_of l) = right-alike s.server base last (part_of l) (sym h.files) (λ f. sym (h.alike f)) mine.right in
      let placed : IsPut s.server start x h.parts (put_item x h.parts) = put-good s.server h.parts start x v le new h.rising clear h.base_sized h.good there in
      let likewise = part-alike s.server l.who l.calls last base h.files h.alike in
      let files : (after_part s.server base (part_of l)).files ≡ cells = files-changed s.server l.who l.calls base ∙ ap (λ (es : List Edit). edits_map es s.cells) mine.edits in
      let listed : decided_items (put_item x h.parts) ≡ put stamp_cmp stamp (decided_as stamp (part_of l)) s.applied =
      put-decided x h.parts new ∙ ap (put stamp_cmp stamp (decided_as stamp (part_of l))) h.list in
      let changed : changes s.server (begun last) l.who l.calls ≡ l.edits = part-changes s.server l.who l.calls last base h.files h.alike ∙ mine.edits in
      let others : left_by_items s.server start h.parts ≡ s.left = ap (left_along s.server start) h.list ∙ h.left_so in
      let kept_low : s.kept ≤ s.clock = h.order in
      record {
        base = h.base;
        from = h.from;
        base_sized = h.base_sized;
        parts = put_item x h.parts;
        ids = ids_after h.ids l.calls;
        list = listed;
        left_so =
            ap (left_along s.server start) (sym listed) ∙ put-left s.server h.parts start x v le new h.rising clear h.base_sized h.good there
            ∙ (λ i. put stamp_cmp stamp (changed i) (others i));
        good = placed.good;
        files = placed.files ∙ likewise.files ∙ files;
        alike = λ f. placed.ids f ∙ likewise.made f ∙ ap (has_file f) (made-after s.server l.who l.calls base);
        sized = subst (λ (m : Cells). AreSized (map.get m)) files (steps-sized s.server base l.who l.calls mine.right.formed h.sized);
        rising = put-rising x h.parts new h.rising;
        below =
            put-all (λ y. y.0.ts ≤ max s.clock stamp.ts) x h.parts new (omega arith)
            (map-all (λ y. y.0.ts ≤ s.kept) (λ y. y.0.ts ≤ max s.clock stamp.ts) (λ y low. omega (arith, low, kept_low)) h.parts h.below);
        order = le_refl (max s.clock stamp.ts);
        given = mine.given;
        live =
            life_set (λ u m. IsSoundLife s.server cells (ids_after h.ids l.calls) s.made (put_item x h.parts) m) s.lives stamp.trans (Some left_life)
            (some_life (λ m. IsSoundLife s.server cells (ids_after h.ids l.calls) s.made (put_item x h.parts) m) left_life
            (inr (refl, idle-life s.server cells (ids_after h.ids l.calls) s.made (put_item x h.parts) l.client l.who l.held l.join mine.given mine.intended)))
            (λ u m away m_is. elim (h.live u m m_is) [
              | inl e ↦ inl (record { early = e.early; voted = e.voted; within = e.within; puts = e.puts; intended = e.intended; away = put-all (λ y. DoAgreeOnLeaves m.held y.1.held) x h.parts new (leaves_of u m away m_is mine.intended) e.away })
              | inr g ↦ inr (g.0, other-life s.server s.cells h.ids s.made h.parts l m x refl new h.sized (h.agree u stamp.trans m l m_is is away) mine g.1)
            ]);
        agree = left_agree;
      }

  -- one of an earlier run comes before all of this one
  early_held : (p : Cells → Type 0) → ((b : Cells) → o b → p (edits_map l.edits b)) → IsGoodEarly h.parts l → Holds s.server p (max s.clock stamp.ts) (max s.clock stamp.ts) (edits_map l.edits s.cells) (with_life s stamp.trans (Some left_life)).lives s.made s.applied s.left
  early_held p turn e =
      let start : Standing = starting h.base in
      let base : Cells = edits_map l.edits h.base in
      let cells : Cells = edits_map l.edits s.cells in
      let first : ComesFirst s.server l.held l.edits e.within e.puts start h.parts = comes-first s.server l.held l.edits e.within e.puts h.parts start h.base_sized e.away h.good in
      let kept_low : s.kept ≤ s.clock = h.order in
      record {
        base = base;
        from = turn h.base h.from;
        base_sized = sized-too s.server l.held l.edits e.within e.puts h.base h.base_sized;
        parts = h.parts;
        ids = h.ids;
        list = h.list;
        left_so = ap (left_along s.server (starting base)) (sym h.list) ∙ first.left ∙ ap (left_along s.server start) h.list ∙ h.left_so;
        good = first.good;
        files = first.files ∙ ap (edits_map l.edits) h.files;
        alike = λ f. first.ids f ∙ h.alike f;
        sized = sized-too s.server l.held l.edits e.within e.puts s.cells h.sized;
        rising = h.rising;
        below = map-all (λ y. y.0.ts ≤ s.kept) (λ y. y.0.ts ≤ max s.clock stamp.ts) (λ y low. omega (arith, low, kept_low)) h.parts h.below;
        order = le_refl (max s.clock stamp.ts);
        given = h.given;
        live =
            life_set (λ u m. IsSoundLife s.server cells h.ids s.made h.parts m) s.lives stamp.trans (Some left_life)
            (some_life (λ m. IsSoundLife s.server cells h.ids s.made h.parts m) left_life
            (inr (refl, idle-life s.server cells h.ids s.made h.parts l.client l.who l.held l.join h.given e.intended)))
            (λ u m away m_is. elim (h.live u m m_is) [
              | inl d ↦ inl (record { early = d.early; voted = d.voted; within = d.within; puts = d.puts; intended = d.intended; away = d.away })
              | inr g ↦ inr (g.0, moved u m away m_is g.1)
            ]);
        agree = left_agree;
      }
    where
      -- what lives does the same behind the changes
      moved : (u : TransId) (m : Life) → same_trans u stamp.trans ≡ false → s.lives u ≡ Some m → IsGoodLife s.server s.cells h.ids s.made h.parts m → IsGoodLife s.server (edits_map l.edits s.cells) h.ids s.made h.parts m
      moved u m away m_is g =
          let leaves : DoAgreeOnLeaves l.held m.held = leaves-turned m.held l.held (leaves_of u m away m_is e.intended) in
          let same : DoesSame m.held s.server (now_at s.cells h.ids) (now_at (edits_map l.edits s.cells) h.ids) m.who m.calls =
          same-behind s.server l.held l.edits e.within e.puts (now_at s.cells h.ids) (part_of m) leaves h.sized g.right in
          record {
            right = record { formed = g.right.formed; right = same.right g.right.right; covered = same.covered g.right.covered };
            edits = sym same.edits ∙ g.edits;
            own = sym same.own ∙ g.own;
            given = g.given;
            intended = g.intended;
            clear = g.clear;
          }

-- ---- a deed, and a list of them

own_place : (stamp : Stamp) (l : Life) (xs : List (Stamp × Decided)) → l.is_early ≡ false → put stamp_cmp stamp (record { stamp = stamp; who = l.who; calls = l.calls }) xs ≡ in_history stamp l xs
own_place stamp l xs e = ap (λ (b : Bool). cond {A = List (Stamp × Decided)} b xs (put stamp_cmp stamp (record { stamp = stamp; who = l.who; calls = l.calls }) xs)) (sym e)

early_place : (stamp : Stamp) (l : Life) (xs : List (Stamp × Decided)) → l.is_early ≡ true → xs ≡ in_history stamp l xs
early_place stamp l xs e = ap (λ (b : Bool). cond {A = List (Stamp × Decided)} b xs (put stamp_cmp stamp (record { stamp = stamp; who = l.who; calls = l.calls }) xs)) (sym e)

own_left : (stamp : Stamp) (l : Life) (es : List (Stamp × List Edit)) → l.is_early ≡ false → put stamp_cmp stamp l.edits es ≡ cond {A = List (Stamp × List Edit)} l.is_early es (put stamp_cmp stamp l.edits es)
own_left stamp l es e = ap (λ (b : Bool). cond {A = List (Stamp × List Edit)} b es (put stamp_cmp stamp l.edits es)) (sym e)

early_left : (stamp : Stamp) (l : Life) (es : List (Stamp × List Edit)) → l.is_early ≡ true → es ≡ cond {A = List (Stamp × List Edit)} l.is_early es (put stamp_cmp stamp l.edits es)
early_left stamp l es e = ap (λ (b : Bool). cond {A = List (Stamp × List Edit)} b es (put stamp_cmp stamp l.edits es)) (sym e)

-- the same holds with the lists of applied parts and of their changes in place
placed : (o : Cells → Type 0) (s : Holder) (stamp : Stamp) (l : Life) (xs : List (Stamp × Decided)) (es : List (Stamp × List Edit)) → xs ≡ in_history stamp l s.applied
    → es ≡ cond {A = List (Stamp × List Edit)} l.is_early s.left (put stamp_cmp stamp l.edits s.left)
    → Holds s.server o (max s.clock stamp.ts) (max s.clock stamp.ts) (edits_map l.edits s.cells) (commits s stamp (Some l)).lives s.made xs es → IsHeld o (commits s stamp (Some l))
placed o s stamp l xs es e f h =
    subst (λ (fs : List (Stamp × List Edit)). Holds s.server o (max s.clock stamp.ts) (max s.clock stamp.ts) (edits_map l.edits s.cells) (commits s stamp (Some l)).lives s.made (in_history stamp l s.applied) fs) f
    (subst (λ (ys : List (Stamp × Decided)). Holds s.server o (max s.clock stamp.ts) (max s.clock stamp.ts) (edits_map l.edits s.cells) (commits s stamp (Some l)).lives s.made ys es) e h)

decides_held : (o : Cells → Type 0) (s : Holder) (h : IsHeld o s) (stamp : Stamp) (x : Option Life) → s.lives stamp.trans ≡ x → s.clock < stamp.ts → HasNotVoted s stamp.trans → IsHeld o (commits s stamp x)
decides_held o s h stamp None is late free = h
decides_held o s h stamp (Some l) is late free =
    let mine = own-life s.server s.cells h.ids s.made h.parts l (free l is) (h.live stamp.trans l is) in
    let low : s.kept ≤ s.clock = h.order in
    let new : AreOthers stamp h.parts = others-earlier stamp s.kept h.parts (omega (arith, low, late)) h.below in
    let clear : All (IsClear l.held stamp.ts) h.parts = map-all (λ y. y.0.ts ≤ s.kept) (IsClear l.held stamp.ts) (λ y k. inr (omega (arith, low, late, k))) h.parts h.below in
    placed o s stamp l (put stamp_cmp stamp (record { stamp = stamp; who = l.who; calls = l.calls }) s.applied) (put stamp_cmp stamp l.edits s.left) (own_place stamp l s.applied mine.0) (own_left stamp l s.left mine.0)
    (own_held o s h stamp l is stamp.ts mine.0 mine.1 (le_refl stamp.ts) new clear)

-- the files behind the changes of a part that an earlier run made ready
abbrev pub behind : Life → Cells → Cells
behind l b = cond l.is_early (edits_map l.edits b) b

pub behind-early : (l : Life) (b : Cells) → l.is_early ≡ true → behind l b ≡ edits_map l.edits b
behind-early l b e = ap (λ (c : Bool). cond c (edits_map l.edits b) b) e

pub behind-own : (l : Life) (b : Cells) → l.is_early ≡ false → behind l b ≡ b
behind-own l b e = ap (λ (c : Bool). cond c (edits_map l.edits b) b) e

-- the same on what is known of the files that it began on
rebased : (o p : Cells → Type 0) (server clock kept : ℕ) (cells : Cells) (lives : TransId → Option Life) (made : List FileId) (applied : List (Stamp × Decided)) (left : List (Stamp × List Edit)) (h : Holds server o clock kept cells lives made applied left) → p h.base
    → Holds server p clock kept cells lives made applied left
rebased o p server clock kept cells lives made applied left h f = record {
  base = h.base;
  from = f;
  base_sized = h.base_sized;
  parts = h.parts;
  ids = h.ids;
  list = h.list;
  left_so = h.left_so;
  good = h.good;
  files = h.files;
  alike = h.alike;
  sized = h.sized;
  rising = h.rising;
  below = h.below;
  order = h.order;
  given = h.given;
  live = h.live;
  agree = h.agree;
}

pub rebase : (o p : Cells → Type 0) (s : Holder) → ((b : Cells) → o b → p b) → IsHeld o s → IsHeld p s
rebase o p s f h = rebased o p s.server s.clock s.kept s.cells s.lives s.made s.applied s.left h (f h.base h.from)

applies_held : (o p : Cells → Type 0) (s : Holder) (h : IsHeld o s) (stamp : Stamp) (x : Option Life) → s.lives stamp.trans ≡ x → ((l : Life) → x ≡ Some l → IsTimely s stamp l)
    → (x ≡ None → (b : Cells) → o b → p b) → ((l : Life) → x ≡ Some l → (b : Cells) → o b → p (behind l b)) → IsHeld p (commits s stamp x)
applies_held o p s h stamp None is timely none turn = rebase o p s (none refl) h
applies_held o p s h stamp (Some l) is timely none turn = elim (timely l refl) [
  | inl early ↦ elim (h.live stamp.trans l is) [
    | inl e ↦ placed p s stamp l s.applied s.left (early_place stamp l s.applied early) (early_left stamp l s.left early) (early_held o s h stamp l is p (λ b q. subst p (behind-early l b early) (turn l refl b q)) e)
    | inr g ↦ absurd (let wrong : true ≡ false = sym early ∙ g.0 in cc)
  ]
  | inr v ↦ elim (h.live stamp.trans l is) [
    | inl e ↦ absurd (let wrong : true ≡ false = sym e.early ∙ v.1 in cc)
    | inr g ↦
        let clear : All (IsClear l.held v.0) h.parts = subst (λ (y : Option ℕ). IsVoteClear y l.held h.parts) v.2 (g.1).clear in
        let new : AreOthers stamp h.parts = new-items stamp h.parts (subst (IsNewStamp stamp) (sym h.list) v.4) in
        rebase o p (commits s stamp (Some l)) (λ b q. subst p (behind-own l b v.1) (turn l refl b q))
        (placed o s stamp l (put stamp_cmp stamp (record { stamp = stamp; who = l.who; calls = l.calls }) s.applied) (put stamp_cmp stamp l.edits s.left) (own_place stamp l s.applied v.1) (own_left stamp l s.left v.1)
        (own_held o s h stamp l is v.0 v.1 g.1 v.3 new clear))
  ]
]

-- what is known of the files that it began on turns into this by a deed: a part of an earlier run comes before all
abbrev pub Turns : (Cells → Type 0) → (Cells → Type 0) → Holder → Deed → Type 0
Turns o p s (Applies j x) = (s.lives x.trans ≡ None → (b : Cells) → o b → p b) × ((l : Life) → s.lives x.trans ≡ Some l → (b : Cells) → o b → p (behind l b))
Turns o p s d = (b : Cells) → o b → p b

abbrev is_applies : Deed → Bool
is_applies (Applies j x) = true
is_applies d = false

still_held : (o : Cells → Type 0) (s : Holder) (d : Deed) → is_applies d ≡ false → MayDo s d → IsHeld o s → IsHeld o (holder_after s d)
still_held o s (Begins t client who seen) k law h = new_held o s h None t client seen who
still_held o s (Enters j t client who) k law h =
    let k : Holds s.server o (max s.clock 0) s.kept s.cells (with_life s t (Some (new_life (Some j) client who))).lives s.made s.applied s.left = new_held o s h (Some j) t client 0 who in
    let same : max s.clock 0 ≡ s.clock = omega arith in
    subst (λ (n : ℕ). Holds s.server o n s.kept s.cells (with_life s t (Some (new_life (Some j) client who))).lives s.made s.applied s.left) same k
still_held o s (Grants t c) k law h = granted_held o s h t c (s.lives t) refl law.0 law.1
still_held o s (Performs t d) k law h =
    let l : Life = law.0.0 in
    subst (λ (x : Option Life). IsHeld o (performs s t d x)) (sym law.0.1) (performed_held o s h t d l law.0.1 law.0.2 (subst (λ (x : Option Life). DoLivesAgree (performs s t d x).lives) law.0.1 law.1))
still_held o s (Releases t) k law h = released_held o s h t
still_held o s (Readies j t ts) k law h = readied_held o s h t ts (s.lives t) refl law.0 law.1
still_held o s (Decides x js) k law h = decides_held o s h x (s.lives x.trans) refl law.0 law.1
still_held o s (Applies j x) k law h = cc
still_held o s (Restarts epoch clock) k law h = restarted_held o s h clock law
still_held o s (Joins j t client who) k law h = h
still_held o s (Quits j t client c) k law h = h
still_held o s (Aborts j t client c) k law h = lapsed_held o s h j t
still_held o s (Registers t j) k law h = h
still_held o s (Finishes t) k law h = h
still_held o s (Hears t j ts) k law h = h
still_held o s (Ends t client c) k law h = h
still_held o s (Acknowledges t j) k law h = h
still_held o s (Forgets t) k law h = h

-- each deed that may be done keeps it
pub deed_held : (o p : Cells → Type 0) (s : Holder) (d : Deed) → MayDo s d → Turns o p s d → IsHeld o s → IsHeld p (holder_after s d)
deed_held o p s (Applies j x) law turn h = applies_held o p s h x (s.lives x.trans) refl law turn.0 turn.1
deed_held o p s (Begins t client who seen) law turn h = still_held p s (Begins t client who seen) refl law (rebase o p s turn h)
deed_held o p s (Joins j t client who) law turn h = still_held p s (Joins j t client who) refl law (rebase o p s turn h)
deed_held o p s (Enters j t client who) law turn h = still_held p s (Enters j t client who) refl law (rebase o p s turn h)
deed_held o p s (Quits j t client c) law turn h = still_held p s (Quits j t client c) refl law (rebase o p s turn h)
deed_held o p s (Aborts j t client c) law turn h = still_held p s (Aborts j t client c) refl law (rebase o p s turn h)
deed_held o p s (Grants t c) law turn h = still_held p s (Grants t c) refl law (rebase o p s turn h)
deed_held o p s (Performs t d) law turn h = still_held p s (Performs t d) refl law (rebase o p s turn h)
deed_held o p s (Releases t) law turn h = still_held p s (Releases t) refl law (rebase o p s turn h)
deed_held o p s (Readies j t ts) law turn h = still_held p s (Readies j t ts) refl law (rebase o p s turn h)
deed_held o p s (Registers t j) law turn h = still_held p s (Registers t j) refl law (rebase o p s turn h)
deed_held o p s (Finishes t) law turn h = still_held p s (Finishes t) refl law (rebase o p s turn h)
deed_held o p s (Hears t j ts) law turn h = still_held p s (Hears t j ts) refl law (rebase o p s turn h)
deed_held o p s (Decides x js) law turn h = still_held p s (Decides x js) refl law (rebase o p s turn h)
deed_held o p s (Ends t client c) law turn h = still_held p s (Ends t client c) refl law (rebase o p s turn h)
deed_held o p s (Acknowledges t j) law turn h = still_held p s (Acknowledges t j) refl law (rebase o p s turn h)
deed_held o p s (Forgets t) law turn h = still_held p s (Forgets t) refl law (rebase o p s turn h)
deed_held o p s (Restarts epoch clock) law turn h = still_held p s (Restarts epoch clock) refl law (rebase o p s turn h)

-- ---- what follows

abbrev pub in_order : Holder → List Decided
in_order s = list_map (λ (x : Stamp × Decided). x.1) s.applied

-- what was applied is one thread's history, from the opening's cells with what earlier runs had made ready, to the cells
pub one_thread : (o : Cells → Type 0) (s : Holder) (h : IsHeld o s) → IsSerial s.server (starting h.base) (in_order s) × ((serial_end s.server (starting h.base) (in_order s)).files ≡ s.cells)
one_thread o s h =
    let listed : history_of h.parts ≡ in_order s = ap (λ (ds : List (Stamp × Decided)). list_map (λ (x : Stamp × Decided). x.1) ds) h.list in
    let at : List Decided → Type 0 = λ ds. IsSerial s.server (starting h.base) ds × ((serial_end s.server (starting h.base) ds).files ≡ s.cells) in
    subst at listed (good-serial s.server h.parts (starting h.base) h.good, ap (λ (x : Standing). x.files) (good-end s.server h.parts (starting h.base)) ∙ h.files)

-- while a part may read a leaf, nobody else's commit changes the cell there
pub reads_kept : (o : Cells → Type 0) (s : Holder) (h : IsHeld o s) (stamp : Stamp) (l : Life) (u : TransId) (m : Life) → s.lives stamp.trans ≡ Some l → s.lives u ≡ Some m → same_trans u stamp.trans ≡ false
    → DoShowSame (Reads m.held) (map.get s.cells) (map.get (commits s stamp (Some l)).cells)
reads_kept o s h stamp l u m is m_is away = elim (h.live stamp.trans l is) [
  | inl e ↦ apart-same (Reads m.held) (Writes l.held) (apart l.held m.held (leaves-turned m.held l.held (leaves_of o s h stamp l is u m away m_is e.intended))) l.edits e.within s.cells
  | inr g ↦
      let inside = part-within l.held s.server l.who l.calls s.cells h.ids no_opens (g.1).right.formed h.sized tt (g.1).right.covered in
      apart-same (Reads m.held) (Writes l.held) (apart l.held m.held (leaves-turned m.held l.held (leaves_of o s h stamp l is u m away m_is (g.1).intended))) l.edits (subst (IsWithin (Writes l.held)) (g.1).edits inside.0) s.cells
]
