-- what stays of a server that fell, and what a restart finds made of what it went down in
use Rattle.std.specs.Prelude.{cond, max, Bool, true, false, ◌==◌, ◌||◌, Option, None, Some}
use Rattle.std.specs.List.{list_any}
use Rattle.std.specs.FinMap as map
use Rattle.std.specs.FinMap.Entries.{put}
use Rattle.std.proofs.Common.{◌≡◌, ◌⊎◌, inl, inr, ⊎_elim, ℕ, ◌+◌, ◌<◌, ◌≤◌, List, [], ◌∷◌, refl, sym, ◌∙◌, ap, subst, arith, eq-eqb}
use Rattle.std.proofs.lemmas.Bool.{or_left, or_right, and_from}
use Rattle.alp_base.specs.declared.faults.Sizes.{Sizes}
use Rattle.alp_base.specs.declared.ids.JoinNo.{JoinNo}
use Rattle.alp_base.specs.declared.ids.Stamp.{Stamp}
use Rattle.alp_base.specs.declared.ids.TransId.{TransId}
use Rattle.alp_base.specs.declared.key.Key.TheVariants.{Leader}
use Rattle.alp_files.specs.Cells.{View}
use Rattle.alp_files.specs.Edits.{edits_at, edits_map}
use Rattle.alp_files.specs.History.{Decided}
use Rattle.alp_files.proofs.FilesLemmas.{same-some}
use Rattle.alp_files.proofs.HistoryLemmas.{get-edits_map}
use Rattle.alp_vault.specs.Contents.{Contents}
use Rattle.alp_journal.specs.Along.{state_after}
use Rattle.alp_journal.specs.Ids.{same_trans, same_stamp, has_stamp, stamp_cmp}
use Rattle.alp_journal.specs.Deeds.{Deed, Finishes, Hears, Decides, Readies, Applies, Aborts, Acknowledges, Forgets}
use Rattle.alp_journal.specs.Coordinator.{Fate, Vote, Committed, Forgotten, with_vote}
use Rattle.alp_journal.specs.Coordinator as fate
use Rattle.alp_journal.specs.Participant.{Phase, Active, Ready}
use Rattle.alp_journal.specs.Holder.{Life, commits, emptied, lapsed, readies}
use Rattle.alp_journal.specs.State.{State, state_deed}
use Rattle.alp_journal.specs.Laws.{is_standing, latest_vote}
use Rattle.alp_journal.specs.Account.{Account, state_of, HasLife, IsFateOf, Stands, HasTried, IsTriedVote, IsTriedApplication, IsTriedEnd, IsTriedAbort, AreEarlier, Leads}
use Rattle.alp_journal.specs.Restarts.{restart_entry, restarted_at, with_decided, with_vote_of, with_applied, with_forgotten, with_aborted}
use Rattle.alp_journal.proofs.IdLemmas.{same_trans-true, same_trans-itself}
use Rattle.alp_journal.proofs.RestartLemmas.{IsNoted, restart_leads}
use Rattle.alp_journal.proofs.RestartMade.{commit_made_leads, decision_made_leads, vote_made_leads, application_made_leads, end_made_leads, abort_made_leads}
use Rattle.alp_node.specs.Downs.{IsPartPast, IsPast, state_then}
use Rattle.alp_node.specs.ServerState.{IsAlike, IsAs, SeesNoneToCome, PutNoneBeyond, AreMade, IsReady}
use Rattle.alp_node.specs.declared.lives.Live.{Live}
use Rattle.alp_node.specs.declared.server_state.ServerState.{ServerState}
use Rattle.alp_node.proofs.KeptLemmas.{earlier_more}
use Rattle.alp_node.proofs.MadeAs.{earlier_put}
use Rattle.alp_node.specs.SoundLives.{HasSoundLives}
use Rattle.alp_node.proofs.NoMoreLemmas.{no_more_itself}
use Rattle.alp_node.proofs.TogetherLemmas.{keeps_together}
use Rattle.alp_node.proofs.TriedTogether.{made_less, made_then}
use Rattle.alp_node.proofs.TriedVotes.{TriesInRoom}

-- ---- what stays

part_past : {V : Type 0} (a : Account) (held : Contents) (k : ServerState V) → IsAs a held k → (t : TransId) (l : Life) → a.holder.lives t ≡ Some l → IsPartPast l (a.locked t)
part_past a held k h t l is = go (map.get k.lives t) (a.holder.lives t) is (h.lives t)
  where
    go : (o : Option Live) (x : Option Life) → x ≡ Some l → IsAlike a.holder.cells k.locks.held (a.locked t) t o x → IsPartPast l (a.locked t)
    go None None e alike = let wrong : None ≡ Some l = e in cc
    go None (Some y) e alike = absurd alike
    go (Some z) None e alike = absurd alike
    go (Some z) (Some y) e alike = subst (λ (x : Life). IsPartPast x (a.locked t)) (same-some y l e) (record { within = alike.within; intended = alike.intended; sized = alike.sized; known = alike.known })

pub past_of : {V : Type 0} (a : Account) (held : Contents) (k : ServerState V) (sizes : Sizes) → IsAs a held k → k.sizes ≡ sizes → (steps : ℕ) (serves : Bool) → IsReady steps serves k → HasSoundLives a.holder → TriesInRoom (state_of a) → IsPast a k.server k.servers k.epoch sizes
past_of a held k sizes h sizes_same steps serves ready sound room = record {
  number = h.server;
  among = h.servers;
  volume = h.sizes ∙ sizes_same;
  now = h.epoch;
  parts = part_past a held k h;
  unborn = λ t l live. subst (λ (m : ℕ). PutNoneBeyond a.holder.server a.ids.epoch m l.edits) (sym h.files) (h.unborn t l live);
  made = subst (λ (m : ℕ). AreMade a.holder.server a.ids.epoch m a.holder.made) (sym h.files) h.made;
  born = subst (λ (m : ℕ). SeesNoneToCome a.holder.server a.ids.epoch m (map.get a.holder.cells)) (sym h.files) h.born;
  earlier = h.earlier;
  quiet = h.quiet;
  together = λ near c late stored.
      ⊎_elim (λ x. keeps_together a held k steps serves h ready near late (state_of a) (made_less a held k steps serves h ready sound (state_of a) (no_more_itself (state_of a))) c x)
      (λ x. keeps_together a held k steps serves h ready near late (state_then (state_of a)) (made_then a held k steps serves h ready sound room) c x) stored;
}

-- ---- what a restart may find

-- The account of which the notes tell then, at this clock: of what stood, some was made of what was tried.
pub record IsThen (a b : Account) (clock : ℕ) : Type 0 where
  pub number : b.holder.server ≡ a.holder.server
  pub among : b.servers ≡ a.servers
  pub volume : b.sizes ≡ a.sizes
  pub now : b.ids ≡ a.ids
  pub made : b.holder.made ≡ a.holder.made
  pub parts : (t : TransId) (l : Life) → b.holder.lives t ≡ Some l → IsPartPast l (b.locked t) × PutNoneBeyond a.holder.server a.ids.epoch a.ids.files l.edits
  pub own : (t : TransId) (stamp : Stamp) (js ds : List JoinNo) → b.fates t ≡ Committed stamp js ds → stamp.trans ≡ t
  pub born : SeesNoneToCome a.holder.server a.ids.epoch a.ids.files (map.get b.holder.cells)
  pub earlier : AreEarlier clock b.holder.applied
  pub leads : (ready : List JoinNo) (stamps : List Stamp) → IsNoted b ready stamps → Leads false a (restart_entry a clock ready stamps) (restarted_at b clock)

-- the state says what the account says, but for parts that are gone and whose locks were not let go yet
pub record IsLast (s : State) (b : Account) (clock : ℕ) : Type 0 where
  pub number : s.holder.server ≡ b.holder.server
  pub among : s.servers ≡ b.servers
  pub phases : (j : JoinNo) → s.phases j ≡ b.phases j
  pub fates : (t : TransId) → s.fates t ≡ b.fates t
  pub lives : (t : TransId) → (s.holder.lives t ≡ b.holder.lives t) ⊎ (b.holder.lives t ≡ None)
  pub cells : s.holder.cells ≡ b.holder.cells
  pub kept : s.holder.kept ≡ clock

pub record IsFoundAs (a : Account) (s : State) : Type 0 where
  pub account : Account
  pub clock : ℕ
  pub so : IsThen a account clock
  pub last : IsLast s account clock

-- ---- bits

forgotten_then : (t : TransId) (j : JoinNo) (stamp : Stamp) (joins done : List JoinNo) (fates : TransId → Fate) → fates t ≡ Committed stamp joins done → fate.forgotten (fate.acknowledged j (Committed stamp joins done)) ≡ Forgotten stamp joins
    → (u : TransId) → cond {A = Fate} (same_trans t u) (fate.forgotten (cond {A = Fate} (same_trans t u) (fate.acknowledged j (fates u)) (fates u))) (cond {A = Fate} (same_trans t u) (fate.acknowledged j (fates u)) (fates u))
    ≡ cond {A = Fate} (same_trans t u) (Forgotten stamp joins) (fates u)
forgotten_then t j stamp joins done fates is ends u = go (same_trans t u) refl
  where
    go : (b : Bool) → same_trans t u ≡ b → cond {A = Fate} b (fate.forgotten (cond {A = Fate} b (fate.acknowledged j (fates u)) (fates u))) (cond {A = Fate} b (fate.acknowledged j (fates u)) (fates u)) ≡ cond {A = Fate} b (Forgotten stamp joins) (fates u)
    go true e = ap (λ (v : TransId). fate.forgotten (fate.acknowledged j (fates v))) (sym (same_trans-true t u e)) ∙ ap (λ (f : Fate). fate.forgotten (fate.acknowledged j f)) is ∙ ends
    go false e = refl

decided_then : (stamp : Stamp) (joins : List JoinNo) (move : Fate → Fate) (fates : TransId → Fate) → fate.decided stamp joins (move (fates stamp.trans)) ≡ Committed stamp joins []
    → (u : TransId) → cond {A = Fate} (same_trans stamp.trans u) (fate.decided stamp joins (cond {A = Fate} (same_trans stamp.trans u) (move (fates u)) (fates u))) (cond {A = Fate} (same_trans stamp.trans u) (move (fates u)) (fates u))
    ≡ cond {A = Fate} (same_trans stamp.trans u) (Committed stamp joins []) (fates u)
decided_then stamp joins move fates decides u = go (same_trans stamp.trans u) refl
  where
    go : (b : Bool) → same_trans stamp.trans u ≡ b → cond {A = Fate} b (fate.decided stamp joins (cond {A = Fate} b (move (fates u)) (fates u))) (cond {A = Fate} b (move (fates u)) (fates u)) ≡ cond {A = Fate} b (Committed stamp joins []) (fates u)
    go true e = ap (λ (t : TransId). fate.decided stamp joins (move (fates t))) (sym (same_trans-true stamp.trans u e)) ∙ decides
    go false e = refl

-- a part that is emptied is gone
emptied_gone : (b : Bool) (l : Life) (x : Option Life) → (cond {A = Option Life} b (Some (emptied l)) x ≡ cond {A = Option Life} b None x) ⊎ (cond {A = Option Life} b None x ≡ None)
emptied_gone true l x = inr refl
emptied_gone false l x = inl refl

lapsed_gone : (b : Bool) (j : JoinNo) (x : Option Life) → (cond {A = Option Life} b (lapsed j x) x ≡ cond {A = Option Life} b None x) ⊎ (cond {A = Option Life} b None x ≡ None)
lapsed_gone true j x = inr refl
lapsed_gone false j x = inl refl

-- each decision is stamped by its own transaction
own_fate : (servers server epoch count : ℕ) (begun : List TransId) (t : TransId) (f : Fate) (stamp : Stamp) (js ds : List JoinNo) → f ≡ Committed stamp js ds → IsFateOf servers server epoch count begun t f → stamp.trans ≡ t
own_fate servers server epoch count begun t f stamp js ds is h = (subst (IsFateOf servers server epoch count begun t) is h).1

same_stamp-itself : (x : Stamp) → same_stamp x x ≡ true
same_stamp-itself x = and_from (x.ts == x.ts) (same_trans x.trans x.trans) (eq-eqb x.ts x.ts refl) (same_trans-itself x.trans)

-- none of them is of a transaction, where each that is among them is not
not_named : (t : TransId) (xs : List Stamp) → ((x : Stamp) → has_stamp x xs ≡ true → same_trans x.trans t ≡ false) → list_any (λ (x : Stamp). same_trans x.trans t) xs ≡ false
not_named t [] f = refl
not_named t (x ∷ xs) f =
    ap (λ (b : Bool). b || list_any (λ (y : Stamp). same_trans y.trans t) xs) (f x (or_left (same_stamp x x) (has_stamp x xs) (same_stamp-itself x)))
    ∙ not_named t xs (λ y h. f y (or_right (same_stamp x y) (has_stamp y xs) h))

module _ (a : Account) (server servers epoch : ℕ) (sizes : Sizes) (past : IsPast a server servers epoch sizes) where
  abbrev stands : Stands a
  stands = past.quiet.settled.stands

  own_before : (t : TransId) (stamp : Stamp) (js ds : List JoinNo) → a.fates t ≡ Committed stamp js ds → stamp.trans ≡ t
  own_before t stamp js ds is = own_fate a.servers a.holder.server a.ids.epoch a.ids.transactions a.begun t (a.fates t) stamp js ds is (stands.fates t)

  parts_before : (t : TransId) (l : Life) → a.holder.lives t ≡ Some l → IsPartPast l (a.locked t) × PutNoneBeyond a.holder.server a.ids.epoch a.ids.files l.edits
  parts_before t l is = (past.parts t l is, past.unborn t l is)

  -- where one is gone
  parts_without : (gone t : TransId) (l : Life) → cond {A = Option Life} (same_trans t gone) None (a.holder.lives t) ≡ Some l → IsPartPast l (a.locked t) × PutNoneBeyond a.holder.server a.ids.epoch a.ids.files l.edits
  parts_without gone t l is = go (same_trans t gone) is
    where
      go : (b : Bool) → cond {A = Option Life} b None (a.holder.lives t) ≡ Some l → IsPartPast l (a.locked t) × PutNoneBeyond a.holder.server a.ids.epoch a.ids.files l.edits
      go true e = let wrong : None ≡ Some l = e in cc
      go false e = parts_before t l e

  -- with its changes no file stands that was not made
  born_then : (t : TransId) (l : Life) → a.holder.lives t ≡ Some l → SeesNoneToCome a.holder.server a.ids.epoch a.ids.files (map.get (edits_map l.edits a.holder.cells))
  born_then t l live f comes = ap (λ (view : View). view (Leader f)) (get-edits_map l.edits a.holder.cells) ∙ ap (edits_at l.edits (Leader f)) (past.born f comes) ∙ past.unborn t l live f comes

  earlier_then : (n : ℕ) → a.holder.clock ≤ n → AreEarlier n a.holder.applied
  earlier_then n more = earlier_more a.holder.kept n a.holder.applied (let order : a.holder.kept ≤ a.holder.clock = stands.order in omega (arith, order, more)) past.earlier

  -- ---- nothing is found made

  pub found_before : IsFoundAs a (state_of a)
  found_before = record {
    account = a;
    clock = a.holder.kept;
    so = record {
      number = refl;
      among = refl;
      volume = refl;
      now = refl;
      made = refl;
      parts = parts_before;
      own = own_before;
      born = past.born;
      earlier = past.earlier;
      leads = λ ready stamps notes. restart_leads a ready stamps past.quiet notes;
    };
    last = record { number = refl; among = refl; phases = λ j. refl; fates = λ t. refl; lives = λ t. inl refl; cells = refl; kept = refl };
  }

  -- ---- a decision

  decision_found : (stamp : Stamp) (l : Life) (joins : List JoinNo) (d : Deed) (move : Fate → Fate) → a.holder.lives stamp.trans ≡ Some l → a.holder.clock < stamp.ts
      → state_deed (state_of a) d ≡ record (state_of a) { fates = λ u. cond {A = Fate} (same_trans stamp.trans u) (move (a.fates u)) (a.fates u); begun = (state_deed (state_of a) d).begun; joined = (state_deed (state_of a) d).joined }
      → fate.decided stamp joins (move (a.fates stamp.trans)) ≡ Committed stamp joins []
      → ((ready : List JoinNo) (stamps : List Stamp) → IsNoted (with_decided a stamp l joins) ready stamps → Leads false a (restart_entry a stamp.ts ready stamps) (restarted_at (with_decided a stamp l joins) stamp.ts))
      → IsFoundAs a (state_deed (state_deed (state_of a) d) (Decides stamp joins))
  decision_found stamp l joins d move live late is decides leads = subst (λ (s : State). IsFoundAs a (state_deed s (Decides stamp joins))) (sym is) (record {
    account = with_decided a stamp l joins;
    clock = stamp.ts;
    so = record {
      number = refl;
      among = refl;
      volume = refl;
      now = refl;
      made = refl;
      parts = parts_without stamp.trans;
      own = λ t x js ds e. own_then t x js ds e;
      born = born_then stamp.trans l live;
      earlier = earlier_put stamp.ts stamp (record { stamp = stamp; who = l.who; calls = l.calls }) a.holder.applied (omega arith) (earlier_then stamp.ts (omega (arith, late)));
      leads = leads;
    };
    last = record {
      number = ap (λ (x : Option Life). (commits a.holder stamp x).server) live;
      among = refl;
      phases = λ j. refl;
      fates = decided_then stamp joins move a.fates decides;
      lives = λ t. subst (λ (x : Option Life). ((commits a.holder stamp x).lives t ≡ (with_decided a stamp l joins).holder.lives t) ⊎ ((with_decided a stamp l joins).holder.lives t ≡ None)) (sym live) (emptied_gone (same_trans t stamp.trans) l (a.holder.lives t));
      cells = ap (λ (x : Option Life). (commits a.holder stamp x).cells) live;
      kept = ap (λ (x : Option Life). (commits a.holder stamp x).kept) live ∙ later;
    };
  })
    where
      later : max a.holder.clock stamp.ts ≡ stamp.ts
      later = omega (arith, late)

      own_then : (t : TransId) (x : Stamp) (js ds : List JoinNo) → cond {A = Fate} (same_trans stamp.trans t) (Committed stamp joins []) (a.fates t) ≡ Committed x js ds → x.trans ≡ t
      own_then t x js ds e = go (same_trans stamp.trans t) refl e
        where
          its : Committed stamp joins [] ≡ Committed x js ds → stamp ≡ x
          its same = ap of same
            where
              of : Fate → Stamp
              of (Committed y ks es) = y
              of f = stamp

          go : (b : Bool) → same_trans stamp.trans t ≡ b → cond {A = Fate} b (Committed stamp joins []) (a.fates t) ≡ Committed x js ds → x.trans ≡ t
          go true one same = ap (λ (y : Stamp). y.trans) (sym (its same)) ∙ same_trans-true stamp.trans t one
          go false one same = own_before t x js ds same

  -- ---- a part that votes

  life_of_join : (j : JoinNo) (p : Phase) → a.phases j ≡ p → HasLife a.holder.lives j p
  life_of_join j p is = subst (HasLife a.holder.lives j) is (stands.held j)

  vote_found : (c : IsTriedVote a) → IsFoundAs a (state_deed (state_of a) (Readies c.join c.trans (a.holder.clock + 1)))
  vote_found c =
      let ts : ℕ = a.holder.clock + 1 in
      let (l, live, mine) = life_of_join c.join (Active c.trans c.client c.who) c.active in
      let b : Account = with_vote_of a c.join c.trans ts l in
      record {
        account = b;
        clock = a.holder.kept;
        so = record {
          number = refl;
          among = refl;
          volume = refl;
          now = refl;
          made = refl;
          parts = λ t x e. voted l live t x e;
          own = own_before;
          born = past.born;
          earlier = past.earlier;
          leads = λ ready stamps notes. vote_made_leads a ready stamps past.quiet c l live notes;
        };
        last = record {
          number = ap (λ (x : Option Life). (readies a.holder c.trans ts x).server) live;
          among = refl;
          phases = λ j. refl;
          fates = λ t. refl;
          lives = λ t. inl (ap (λ (x : Option Life). (readies a.holder c.trans ts x).lives t) live);
          cells = ap (λ (x : Option Life). (readies a.holder c.trans ts x).cells) live;
          kept = ap (λ (x : Option Life). (readies a.holder c.trans ts x).kept) live;
        };
      }
    where
      voted : (l : Life) → a.holder.lives c.trans ≡ Some l → (t : TransId) (x : Life) → cond {A = Option Life} (same_trans t c.trans) (Some (record l { vote = Some (a.holder.clock + 1) })) (a.holder.lives t) ≡ Some x
          → IsPartPast x (a.locked t) × PutNoneBeyond a.holder.server a.ids.epoch a.ids.files x.edits
      voted l live t x e = go (same_trans t c.trans) refl e
        where
          go : (b : Bool) → same_trans t c.trans ≡ b → cond {A = Option Life} b (Some (record l { vote = Some (a.holder.clock + 1) })) (a.holder.lives t) ≡ Some x → IsPartPast x (a.locked t) × PutNoneBeyond a.holder.server a.ids.epoch a.ids.files x.edits
          go false other is = parts_before t x is
          go true same is =
              let p = parts_before c.trans l live in
              let q : IsPartPast (record l { vote = Some (a.holder.clock + 1) }) (a.locked c.trans) = record { within = p.0.within; intended = p.0.intended; sized = p.0.sized; known = p.0.known } in
              subst (λ (y : Life). IsPartPast y (a.locked t) × PutNoneBeyond a.holder.server a.ids.epoch a.ids.files y.edits) (same-some (record l { vote = Some (a.holder.clock + 1) }) x is)
              (subst (λ (u : TransId). IsPartPast (record l { vote = Some (a.holder.clock + 1) }) (a.locked u)) (sym (same_trans-true t c.trans same)) q, p.1)

  -- ---- a part that is applied

  application_found : (c : IsTriedApplication a) → IsFoundAs a (state_deed (state_of a) (Applies c.join c.stamp))
  application_found c =
      let (l, live, mine) = life_of_join c.join (Ready c.stamp.trans c.client c.ts) c.ready in
      let b : Account = with_applied a c.join c.stamp l in
      record {
        account = b;
        clock = max a.holder.clock c.stamp.ts;
        so = record {
          number = refl;
          among = refl;
          volume = refl;
          now = refl;
          made = refl;
          parts = parts_without c.stamp.trans;
          own = own_before;
          born = born_then c.stamp.trans l live;
          earlier = earlier l (l.is_early);
          leads = λ ready stamps notes. application_made_leads a ready stamps past.quiet c l live notes;
        };
        last = record {
          number = ap (λ (x : Option Life). (commits a.holder c.stamp x).server) live;
          among = refl;
          phases = λ j. refl;
          fates = λ t. refl;
          lives = λ t. subst (λ (x : Option Life). ((commits a.holder c.stamp x).lives t ≡ (with_applied a c.join c.stamp l).holder.lives t) ⊎ ((with_applied a c.join c.stamp l).holder.lives t ≡ None)) (sym live)
              (emptied_gone (same_trans t c.stamp.trans) l (a.holder.lives t));
          cells = ap (λ (x : Option Life). (commits a.holder c.stamp x).cells) live;
          kept = ap (λ (x : Option Life). (commits a.holder c.stamp x).kept) live;
        };
      }
    where
      earlier : (l : Life) (early : Bool) → AreEarlier (max a.holder.clock c.stamp.ts) (cond {A = List (Stamp × Decided)} early a.holder.applied (put stamp_cmp c.stamp (record { stamp = c.stamp; who = l.who; calls = l.calls }) a.holder.applied))
      earlier l true = earlier_then (max a.holder.clock c.stamp.ts) (omega arith)
      earlier l false = earlier_put (max a.holder.clock c.stamp.ts) c.stamp (record { stamp = c.stamp; who = l.who; calls = l.calls }) a.holder.applied (omega arith) (earlier_then (max a.holder.clock c.stamp.ts) (omega arith))

  -- ---- a decision that is forgotten

  end_found : (c : IsTriedEnd a) → IsFoundAs a (state_deed (state_deed (state_of a) (Acknowledges c.trans c.join)) (Forgets c.trans))
  end_found c = record {
    account = with_forgotten a c.trans c.stamp c.joins;
    clock = a.holder.kept;
    so = record {
      number = refl;
      among = refl;
      volume = refl;
      now = refl;
      made = refl;
      parts = parts_before;
      own = λ t x js ds e. own_then t x js ds e;
      born = past.born;
      earlier = past.earlier;
      leads = λ ready stamps notes. end_made_leads a ready stamps past.quiet c notes (not_named c.trans stamps (λ x h. gone ready stamps notes x h));
    };
    last = record {
      number = refl;
      among = refl;
      phases = λ j. refl;
      fates = forgotten_then c.trans c.join c.stamp c.joins c.done a.fates c.committed (ap (λ (b : Bool). cond {A = Fate} b (Forgotten c.stamp c.joins) (Committed c.stamp c.joins (c.join ∷ c.done))) c.all);
      lives = λ t. inl refl;
      cells = refl;
      kept = refl;
    };
  }
    where
      own_then : (t : TransId) (x : Stamp) (js ds : List JoinNo) → cond {A = Fate} (same_trans c.trans t) (Forgotten c.stamp c.joins) (a.fates t) ≡ Committed x js ds → x.trans ≡ t
      own_then t x js ds e = go (same_trans c.trans t) e
        where
          go : (b : Bool) → cond {A = Fate} b (Forgotten c.stamp c.joins) (a.fates t) ≡ Committed x js ds → x.trans ≡ t
          go true same = let wrong : Forgotten c.stamp c.joins ≡ Committed x js ds = same in cc
          go false same = own_before t x js ds same

      gone : (ready : List JoinNo) (stamps : List Stamp) → IsNoted (with_forgotten a c.trans c.stamp c.joins) ready stamps → (x : Stamp) → has_stamp x stamps ≡ true → same_trans x.trans c.trans ≡ false
      gone ready stamps notes x h = go (same_trans x.trans c.trans) refl
        where
          go : (b : Bool) → same_trans x.trans c.trans ≡ b → b ≡ false
          go false e = refl
          go true e =
              let wrong : true ≡ false = sym h ∙ notes.decided x ∙ ap (λ (u : TransId). is_standing x (cond {A = Fate} (same_trans c.trans u) (Forgotten c.stamp c.joins) (a.fates u))) (same_trans-true x.trans c.trans e)
              ∙ ap (λ (b : Bool). is_standing x (cond {A = Fate} b (Forgotten c.stamp c.joins) (a.fates c.trans))) (same_trans-itself c.trans) in
              cc

  -- ---- a join that is over

  abort_found : (c : IsTriedAbort a) → IsFoundAs a (state_deed (state_of a) (Aborts c.join c.trans c.client c.cause))
  abort_found c =
      let (l, live, mine) = life_of_join c.join (Ready c.trans c.client c.ts) c.ready in
      record {
        account = with_aborted a c.join c.trans;
        clock = a.holder.kept;
        so = record {
          number = refl;
          among = refl;
          volume = refl;
          now = refl;
          made = refl;
          parts = parts_without c.trans;
          own = own_before;
          born = past.born;
          earlier = past.earlier;
          leads = λ ready stamps notes. abort_made_leads a ready stamps past.quiet c l live mine notes;
        };
        last = record { number = refl; among = refl; phases = λ j. refl; fates = λ t. refl; lives = λ t. lapsed_gone (same_trans t c.trans) c.join (a.holder.lives t); cells = refl; kept = refl };
      }

  -- ---- whatever was tried

  later_vote : (n : ℕ) (vs : List Vote) → n ≤ latest_vote n vs
  later_vote n [] = omega arith
  later_vote n (v ∷ vs) = (let more : max n v.1 ≤ latest_vote (max n v.1) vs = later_vote (max n v.1) vs in omega (arith, more))

  pub found_then : IsFoundAs a (state_then (state_of a))
  found_then = go past.quiet.tried
    where
      made : (ds : List Deed) → a.pending ≡ ds → IsFoundAs a (state_after state_deed (state_of a) ds) → IsFoundAs a (state_then (state_of a))
      made ds is h = subst (λ (xs : List Deed). IsFoundAs a (state_after state_deed (state_of a) xs)) (sym is) h

      go : HasTried a → IsFoundAs a (state_then (state_of a))
      go (HasTried.nothing none) = made [] none found_before
      go (HasTried.commit c) = made (Finishes c.stamp.trans ∷ Decides c.stamp [] ∷ []) c.tried
          (decision_found c.stamp c.life [] (Finishes c.stamp.trans) fate.finishing c.live (let time : c.stamp.ts ≡ a.holder.clock + 1 = c.time in omega (arith, time)) refl
          (ap (λ (f : Fate). fate.decided c.stamp [] (fate.finishing f)) c.runs) (λ ready stamps notes. commit_made_leads a ready stamps past.quiet c notes))
      go (HasTried.decision c) =
          let time : c.stamp.ts ≡ latest_vote (a.holder.clock + 1) (with_vote c.join c.ts c.votes) = c.time in
          let more : a.holder.clock + 1 ≤ latest_vote (a.holder.clock + 1) (with_vote c.join c.ts c.votes) = later_vote (a.holder.clock + 1) (with_vote c.join c.ts c.votes) in
          made (Hears c.stamp.trans c.join c.ts ∷ Decides c.stamp c.joins ∷ []) c.tried
          (decision_found c.stamp c.life c.joins (Hears c.stamp.trans c.join c.ts) (fate.heard c.join c.ts) c.live (omega (arith, time, more)) refl
          (ap (λ (f : Fate). fate.decided c.stamp c.joins (fate.heard c.join c.ts f)) c.finishing) (λ ready stamps notes. decision_made_leads a ready stamps past.quiet c notes))
      go (HasTried.vote c) = made (Readies c.join c.trans (a.holder.clock + 1) ∷ []) c.tried (vote_found c)
      go (HasTried.application c) = made (Applies c.join c.stamp ∷ []) c.tried (application_found c)
      go (HasTried.end c) = made (Acknowledges c.trans c.join ∷ Forgets c.trans ∷ []) c.tried (end_found c)
      go (HasTried.abort c) = made (Aborts c.join c.trans c.client c.cause ∷ []) c.tried (abort_found c)
