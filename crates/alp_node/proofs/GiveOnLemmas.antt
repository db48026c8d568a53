-- what a server keeps where locks that were let go are given on: each grant is as the journal tells it
use Rattle.std.specs.Prelude.{cond, Bool, true, false, Option, None, Some, is_some, find, map as list_map}
use Rattle.std.specs.List.{AllByRecursion}
use Rattle.std.specs.FinMap as map
use Rattle.std.proofs.Common.{◌≡◌, List, [], ◌∷◌, length, refl, sym, ◌∙◌, ap, subst}
use Rattle.alp_base.specs.declared.ids.TransId.{TransId}
use Rattle.alp_base.specs.declared.key.Resource.{Resource}
use Rattle.alp_base.specs.declared.faults.Sizes.{Sizes}
use Rattle.alp_base.proofs.NameLemmas.{and_right}
use Rattle.alp_files.specs.Act.{Own, no_opens}
use Rattle.alp_files.specs.Apart.{IsWithin as AreWithin, OpensRead}
use Rattle.alp_files.specs.Cells.{Cells}
use Rattle.alp_files.specs.Edits.{Edit}
use Rattle.alp_files.specs.Holdings.{IsIntended}
use Rattle.alp_files.specs.Locks.{Need, Reads, Writes, HoldsEach, needs_of}
use Rattle.alp_files.specs.Needs.{intents_of}
use Rattle.alp_files.specs.declared.call.Call.{Call}
use Rattle.alp_files.proofs.CoverLemmas.{joined-more, granted-holds, granted-intended}
use Rattle.alp_locks.specs.Tables.{Holders}
use Rattle.alp_trans.specs.Counting.{AreCountsOf}
use Rattle.alp_trans.specs.declared.part.Part.{Part}
use Rattle.alp_journal.specs.Account.{Account, with_granted}
use Rattle.alp_journal.specs.Counts.{lock_set, request_in, with_resources}
use Rattle.alp_journal.specs.Desk.{Waiting, grant_in}
use Rattle.alp_journal.specs.Holder.{Holder, Life, grants, held_for, view_in}
use Rattle.alp_journal.specs.Ids.{same_trans}
use Rattle.alp_journal.proofs.IdLemmas.{same_trans-true}
use Rattle.alp_turns.specs.Queues.{AreHeldAlike}
use Rattle.alp_turns.proofs.AskedLemmas.{asked_again}
use Rattle.alp_node.specs.Covers.{AreHeld, AreSizedEdits}
use Rattle.alp_node.specs.Releases.{lock_if, granted_if, granted_one, granted_all}
use Rattle.alp_node.specs.ServerState.{IsCaller, IsAlike, IsAskedAs, IsWaitingAs}
use Rattle.alp_node.specs.Totals.{HaveRoom, totals_of}
use Rattle.alp_node.specs.Waits.{waiting, waiting_calls, is_file_on, count_asked, locks_in, grant_one, grant_of, IsNamed}
use Rattle.alp_node.specs.declared.lives.Live.{Live}
use Rattle.alp_node.specs.declared.lock_counts.LockCounts.{LockCounts}
use Rattle.alp_node.specs.declared.server_state.ServerState.{ServerState}
use Rattle.alp_node.specs.declared.waits.WaitingCall.{WaitingCall}
use Rattle.alp_node.proofs.BesideLemmas.{AreNamed, file_away, file_named}
use Rattle.alp_node.proofs.CallLemmas.{IsUnder}
use Rattle.alp_node.proofs.LockCountLemmas.{held_then, none_more}
use Rattle.alp_node.proofs.MapLemmas.{get_put}
use Rattle.alp_node.proofs.TotalLemmas.{same_room}
use Rattle.alp_node.proofs.UnderLemmas.{under_more}
use Rattle.alp_node.proofs.WaitLemmas.{find_each, file_at}

-- ---- a part as the journal tells it, but for what the table says that it holds

pub record IsLifeApart (cells : Cells) (locked : List Resource) (l : Live) (life : Life) : Type 0 where
  pub client : life.client ≡ l.client
  pub join : life.join ≡ l.join
  pub intents : l.part.intents ≡ intents_of life.edits
  pub calls : life.vote ≡ None → IsCaller l life
  pub counts : AreCountsOf cells life.edits l.part.counts
  pub within : AreWithin (Writes life.held) life.edits
  pub intended : IsIntended life.held
  pub sized : AreSizedEdits life.edits
  pub count : l.locks ≡ length locked
  pub known : AreHeld life.held locked

abbrev pub IsAlikeApart : Cells → List Resource → Option Live → Option Life → Type 0
IsAlikeApart cells locked None None = Unit {0}
IsAlikeApart cells locked (Some l) (Some life) = IsLifeApart cells locked l life
IsAlikeApart cells locked None (Some life) = ⊥
IsAlikeApart cells locked (Some l) None = ⊥

pub alike_apart : (cells : Cells) (locks : Holders) (locked : List Resource) (t : TransId) (x : Option Live) (y : Option Life) → IsAlike cells locks locked t x y → IsAlikeApart cells locked x y
alike_apart cells locks locked t None None h = tt
alike_apart cells locks locked t (Some l) (Some life) h = record {
  client = h.client;
  join = h.join;
  intents = h.intents;
  calls = h.calls;
  counts = h.counts;
  within = h.within;
  intended = h.intended;
  sized = h.sized;
  count = h.count;
  known = h.known;
}
alike_apart cells locks locked t None (Some life) h = absurd h
alike_apart cells locks locked t (Some l) None h = absurd h

-- with what the table says
pub alike_with_held : (cells : Cells) (h : Holder) (locks : Holders) (locked : List Resource) (t : TransId) (x : Option Live) (y : Option Life) → AreHeldAlike h locks → h.lives t ≡ y → IsAlikeApart cells locked x y → IsAlike cells locks locked t x y
alike_with_held cells h locks locked t None None held at a = held.none t at
alike_with_held cells h locks locked t (Some l) (Some life) held at a = record {
  client = a.client;
  join = a.join;
  intents = a.intents;
  held = held.live t life at;
  calls = a.calls;
  counts = a.counts;
  within = a.within;
  intended = a.intended;
  sized = a.sized;
  count = a.count;
  known = a.known;
}
alike_with_held cells h locks locked t None (Some life) held at a = absurd a
alike_with_held cells h locks locked t (Some l) None held at a = absurd a

-- ---- what is kept between grants

-- The live parts and the waiting calls are as the journal tells them. The counts of parts go by `cells`, and there is room for them beside
-- those of `room`; and this is so of what each part did.
pub record AreKept {V : Type 0} (P : TransId → Part → List Edit → Type 0) (cells : Cells) (sizes : Sizes) (room : Cells) (a : Account) (k : ServerState V) : Type 0 where
  pub lives : (t : TransId) → IsAlikeApart cells (a.locked t) (map.get k.lives t) (a.holder.lives t)
  pub waits : a.waits ≡ waiting_calls k.waits
  pub named : AreNamed k.waits
  pub asked : AllByRecursion (IsWaitingAs a.holder a.locked) k.waits
  pub fits : HaveRoom sizes room (totals_of k.lives)
  pub parts : (t : TransId) (l : Live) (life : Life) → map.get k.lives t ≡ Some l → a.holder.lives t ≡ Some life → P t l.part life.edits

-- a grant is of the one file call on its transaction that the server keeps, and its part lives
pub record HasCall {V : Type 0} (k : ServerState V) (g : TransId × Call) : Type 0 where
  pub waiting_call : WaitingCall
  pub counts : LockCounts
  pub counted : waiting_call.counts ≡ Some counts
  pub found : find (is_file_on g.0) k.waits ≡ Some waiting_call
  pub only : AllByRecursion (λ (w : WaitingCall). is_file_on g.0 w ≡ true → w.call ≡ g.1) k.waits
  pub live : Live
  pub there : map.get k.lives g.0 ≡ Some live

record IsThere (o : Option Live) : Type 0 where
  live : Live
  is : o ≡ Some live

-- ---- one grant

each_marked : (P Q : WaitingCall → Type 0) (t : TransId) → ((w : WaitingCall) → P w → Q (grant_one t w)) → (ws : List WaitingCall) → AllByRecursion P ws → AllByRecursion Q (grant_of t ws)
each_marked P Q t more [] all = tt
each_marked P Q t more (w ∷ ws) all = (more w all.0, each_marked P Q t more ws all.1)

each_both : (P Q S : WaitingCall → Type 0) → ((w : WaitingCall) → P w → Q w → S w) → (ws : List WaitingCall) → AllByRecursion P ws → AllByRecursion Q ws → AllByRecursion S ws
each_both P Q S both [] a b = tt
each_both P Q S both (w ∷ ws) a b = (both w a.0 b.0, each_both P Q S both ws a.1 b.1)

-- the mark of a grant leaves who is found
found_marked : (t u : TransId) (ws : List WaitingCall) (w : WaitingCall) → find (is_file_on u) ws ≡ Some w → find (is_file_on u) (grant_of t ws) ≡ Some (grant_one t w)
found_marked t u [] w is = cc
found_marked t u (v ∷ vs) w is = (λ i. cond {A = Option WaitingCall} (still_on (is_file_on t v) i) (Some (grant_one t v)) (find (is_file_on u) (grant_of t vs))) ∙ go (is_file_on u v) is (found_marked t u vs w)
  where
    still_on : (b : Bool) → is_file_on u (cond {A = WaitingCall} b (record v { is_granted = true }) v) ≡ is_file_on u v
    still_on true = refl
    still_on false = refl

    same : (x y : WaitingCall) → Some x ≡ Some y → x ≡ y
    same x y e = cc

    go : (b : Bool) → cond {A = Option WaitingCall} b (Some v) (find (is_file_on u) vs) ≡ Some w
        → (find (is_file_on u) vs ≡ Some w → find (is_file_on u) (grant_of t vs) ≡ Some (grant_one t w))
        → cond {A = Option WaitingCall} b (Some (grant_one t v)) (find (is_file_on u) (grant_of t vs)) ≡ Some (grant_one t w)
    go true e rest = ap (λ (x : WaitingCall). Some (grant_one t x)) (same v w e)
    go false e rest = rest e

counts_kept : (t : TransId) (w : WaitingCall) → (grant_one t w).counts ≡ w.counts
counts_kept t w = go (is_file_on t w)
  where
    go : (b : Bool) → (cond {A = WaitingCall} b (record w { is_granted = true }) w).counts ≡ w.counts
    go true = refl
    go false = refl

-- the marks are the journal's
marked_alike : (t : TransId) (ws : List WaitingCall) → AreNamed ws → list_map (grant_in t) (waiting_calls ws) ≡ waiting_calls (grant_of t ws)
marked_alike t [] all = refl
marked_alike t (w ∷ ws) all = (λ i. one i ∷ marked_alike t ws all.1 i)
  where
    go : (b : Bool) → cond {A = Waiting} b (record (waiting w) { is_granted = true }) (waiting w) ≡ waiting (cond {A = WaitingCall} b (record w { is_granted = true }) w)
    go true = refl
    go false = refl

    one : grant_in t (waiting w) ≡ waiting (grant_one t w)
    one = ap (λ (b : Bool). cond {A = Waiting} b (record (waiting w) { is_granted = true }) (waiting w)) (file_named t w all.0) ∙ go (is_file_on t w)

module _ {V : Type 0} (P : TransId → Part → List Edit → Type 0) (cells : Cells) (sizes : Sizes) (room : Cells) (a : Account) (k : ServerState V) (t : TransId) (c : Call) where
  -- the journal behind the grant
  abbrev pub granted_state : Account
  granted_state = record a {
    holder = grants a.holder t c (a.holder.lives t);
    locked = lock_set a.locked t (with_resources (request_in a.holder c (a.holder.lives t)) (a.locked t));
    waits = list_map (grant_in t) a.waits;
  }

  module _ (h : AreKept P cells sizes room a k) (x : HasCall k (t, c)) where
    same_live : (l m : Live) → Some l ≡ Some m → l ≡ m
    same_live l m e = cc

    same_life : (l m : Life) → Some l ≡ Some m → l ≡ m
    same_life l m e = cc

    record LivesHere : Type 0 where
      life : Life
      is : a.holder.lives t ≡ Some life
      apart : IsLifeApart cells (a.locked t) x.live life

    lives_here : LivesHere
    lives_here = go (map.get k.lives t) (a.holder.lives t) refl x.there (h.lives t)
      where
        go : (o : Option Live) (y : Option Life) → a.holder.lives t ≡ y → o ≡ Some x.live → IsAlikeApart cells (a.locked t) o y → LivesHere
        go None y at there e = let wrong : None ≡ Some x.live = there in cc
        go (Some l) None at there e = absurd e
        go (Some l) (Some life) at there e = record { life = life; is = at; apart = subst (λ (z : Live). IsLifeApart cells (a.locked t) z life) (same_live l x.live there) e }

    abbrev life : Life
    life = lives_here.life

    abbrev asks : List Need
    asks = request_in a.holder c (Some life)

    abbrev life_then : Life
    life_then = record life { held = held_for a.holder life c }

    abbrev w : WaitingCall
    w = x.waiting_call

    its : IsWaitingAs a.holder a.locked w × (is_file_on t w ≡ true)
    its = find_each (IsWaitingAs a.holder a.locked) (is_file_on t) k.waits w x.found h.asked

    its_at : w.trans ≡ t
    its_at = file_at t w its.1

    asked_of : IsAskedAs a.holder a.locked w x.counts life
    asked_of = its.0 x.counts life x.counted (ap a.holder.lives its_at ∙ lives_here.is)

    call_is : w.call ≡ c
    call_is = (find_each (λ (v : WaitingCall). is_file_on t v ≡ true → v.call ≡ c) (is_file_on t) k.waits w x.found x.only).0 its.1

    -- so many are locked then
    count_then : x.counts.asked ≡ length (with_resources asks (a.locked t))
    count_then = asked_of.asked ∙ (λ i. length (with_resources (request_in a.holder (call_is i) (Some life)) (a.locked (its_at i))))

    abbrev pub live_then : Live
    live_then = record (x.live) { locks = x.counts.asked }

    pub granted_is : granted_one k t ≡ record k { waits = grant_of t k.waits; lives = map.insert k.lives t live_then }
    granted_is =
        ap (λ (o : Option WaitingCall). granted_if k t (locks_in o)) x.found ∙ ap (λ (z : Option LockCounts). granted_if k t (count_asked z)) x.counted
        ∙ ap (λ (o : Option Live). record k { waits = grant_of t k.waits; lives = lock_if k.lives t x.counts.asked o }) x.there

    under : (own : Own) → OpensRead (Reads life.held) own.opens → IsUnder (held_for a.holder life c) own life.edits
    under own opens =
        let l : IsLifeApart cells (a.locked t) x.live life = lives_here.apart in
        under_more life.held (held_for a.holder life c) (joined-more life.held asks) (granted-intended life.held (needs_of (view_in a.holder life) life.own c) l.intended) own life.edits
        (record { opens = opens; within = l.within; intended = l.intended; sized = l.sized })

    apart_then : IsLifeApart cells (with_resources asks (a.locked t)) live_then life_then
    apart_then =
        let l : IsLifeApart cells (a.locked t) x.live life = lives_here.apart in
        record {
          client = l.client;
          join = l.join;
          intents = l.intents;
          calls = λ none. (let o : IsCaller x.live life = l.calls none in record { who = o.who; own = o.own; opens = IsUnder.opens (under life.own o.opens) });
          counts = l.counts;
          within = IsUnder.within (under no_opens tt);
          intended = IsUnder.intended (under no_opens tt);
          sized = l.sized;
          count = count_then;
          known = held_then life.held asks (a.locked t) l.known;
        }

    -- the state where the part is known to live
    abbrev state_with : Option Life → Account
    state_with z = record a {
      holder = grants a.holder t c z;
      locked = lock_set a.locked t (with_resources (request_in a.holder c z) (a.locked t));
      waits = list_map (grant_in t) a.waits;
    }

    lives_then : (u : TransId) → IsAlikeApart cells ((state_with (Some life)).locked u) (map.get (map.insert k.lives t live_then) u) ((state_with (Some life)).holder.lives u)
    lives_then u = subst (λ (o : Option Live). IsAlikeApart cells ((state_with (Some life)).locked u) o ((state_with (Some life)).holder.lives u)) (sym (get_put k.lives t live_then u)) (go (same_trans u t))
      where
        go : (b : Bool) → IsAlikeApart cells (cond {A = List Resource} b (with_resources asks (a.locked t)) (a.locked u)) (cond {A = Option Live} b (Some live_then) (map.get k.lives u)) (cond {A = Option Life} b (Some life_then) (a.holder.lives u))
        go true = apart_then
        go false = h.lives u

    -- what a call asks behind the grant
    asked_then : (v : WaitingCall) → (is_file_on t v ≡ true → v.call ≡ c) → IsWaitingAs a.holder a.locked v → IsWaitingAs (state_with (Some life)).holder (state_with (Some life)).locked (grant_one t v)
    asked_then v only before = go (is_file_on t v) refl
      where
        none_again : (l : Life) → l ≡ life_then → (d : Call) → d ≡ c → with_resources (request_in (state_with (Some life)).holder d (Some l)) (with_resources asks (a.locked t)) ≡ with_resources asks (a.locked t)
        none_again l is d same =
            (λ i. with_resources (request_in (state_with (Some life)).holder (same i) (Some (is i))) (with_resources asks (a.locked t)))
            ∙ none_more (held_for a.holder life c) (request_in (state_with (Some life)).holder c (Some life_then)) (with_resources asks (a.locked t)) (held_then life.held asks (a.locked t) lives_here.apart.known)
            (asked_again life.held (needs_of (view_in a.holder life) life.own c))

        mine : (n : LockCounts) (l : Life) → l ≡ life_then → v.trans ≡ t → v.call ≡ c → IsAskedAs a.holder a.locked v n life → same_trans v.trans t ≡ true → IsAskedAs (state_with (Some life)).holder (state_with (Some life)).locked (record v { is_granted = true }) n l
        mine n l is its_trans same asked e = record {
          asked = asked.asked ∙ (λ i. length (with_resources (request_in a.holder (same i) (Some life)) (a.locked (its_trans i))))
              ∙ ap (λ (rs : List Resource). length rs) (sym (none_again l is v.call same))
              ∙ sym (ap (λ (b : Bool). length (with_resources (request_in (state_with (Some life)).holder v.call (Some l)) (cond {A = List Resource} b (with_resources asks (a.locked t)) (a.locked v.trans)))) e);
          made = asked.made;
          covered = λ g. subst (λ (d : Call). HoldsEach l.held (needs_of (view_in (state_with (Some life)).holder l) l.own d)) (sym same)
              (subst (λ (z : Life). HoldsEach z.held (needs_of (view_in (state_with (Some life)).holder z) z.own c)) (sym is) (granted-holds life.held (needs_of (view_in a.holder life) life.own c)));
        }

        go : (b : Bool) → is_file_on t v ≡ b → IsWaitingAs (state_with (Some life)).holder (state_with (Some life)).locked (cond {A = WaitingCall} b (record v { is_granted = true }) v)
        go true e n l counted is =
            let of : same_trans v.trans t ≡ true = and_right (is_some v.counts) (same_trans v.trans t) e in
            let its_trans : v.trans ≡ t = file_at t v e in
            let now : Some life_then ≡ Some l = ap (λ (b : Bool). cond {A = Option Life} b (Some life_then) (a.holder.lives v.trans)) (sym of) ∙ is in
            mine n l (sym (same_life life_then l now)) its_trans (only e) (before n life counted (ap a.holder.lives its_trans ∙ lives_here.is)) of
        go false e n l counted is =
            let off : same_trans v.trans t ≡ false = file_away v n t counted e in
            let b : IsAskedAs a.holder a.locked v n l = before n l counted (ap (λ (y : Bool). cond {A = Option Life} y (Some life_then) (a.holder.lives v.trans)) (sym off) ∙ is) in
            record {
              asked = b.asked ∙ sym (ap (λ (y : Bool). length (with_resources (request_in a.holder v.call (Some l)) (cond {A = List Resource} y (with_resources asks (a.locked t)) (a.locked v.trans)))) off);
              made = b.made;
              covered = b.covered;
            }

    asked_each : (vs : List WaitingCall) → AllByRecursion (λ (v : WaitingCall). is_file_on t v ≡ true → v.call ≡ c) vs → AllByRecursion (IsWaitingAs a.holder a.locked) vs → AllByRecursion (IsWaitingAs (state_with (Some life)).holder (state_with (Some life)).locked) (grant_of t vs)
    asked_each [] only all = tt
    asked_each (v ∷ vs) only all = (asked_then v only.0 all.0, asked_each vs only.1 all.1)

    named_kept : (v : WaitingCall) → IsNamed v → IsNamed (grant_one t v)
    named_kept v of = go (is_file_on t v)
      where
        go : (b : Bool) → IsNamed (cond {A = WaitingCall} b (record v { is_granted = true }) v)
        go true = of
        go false = of

    parts_then : (u : TransId) (l : Live) (m : Life) → map.get (map.insert k.lives t live_then) u ≡ Some l → (state_with (Some life)).holder.lives u ≡ Some m → P u l.part m.edits
    parts_then u l m there is = go (same_trans u t) refl (sym (get_put k.lives t live_then u) ∙ there) is
      where
        go : (b : Bool) → same_trans u t ≡ b → cond {A = Option Live} b (Some live_then) (map.get k.lives u) ≡ Some l → cond {A = Option Life} b (Some life_then) (a.holder.lives u) ≡ Some m → P u l.part m.edits
        go true e x_is m_is =
            subst (λ (v : TransId). P v l.part m.edits) (sym (same_trans-true u t e))
            (subst (λ (y : Live). P t y.part m.edits) (same_live live_then l x_is) (subst (λ (z : Life). P t x.live.part z.edits) (same_life life_then m m_is) (h.parts t x.live life x.there lives_here.is)))
        go false e x_is m_is = h.parts u l m x_is m_is

    kept_with : AreKept P cells sizes room (state_with (Some life)) (record k { waits = grant_of t k.waits; lives = map.insert k.lives t live_then })
    kept_with = record {
      lives = lives_then;
      waits = ap (list_map (grant_in t)) h.waits ∙ marked_alike t k.waits h.named;
      named = each_marked IsNamed IsNamed t named_kept k.waits h.named;
      asked = asked_each k.waits x.only h.asked;
      fits = same_room sizes room k.lives t x.live live_then x.there refl h.fits;
      parts = parts_then;
    }

    -- all is kept as the journal tells it
    pub grant_kept : AreKept P cells sizes room granted_state (granted_one k t)
    grant_kept = subst (AreKept P cells sizes room granted_state) (sym granted_is)
        (subst (λ (z : Option Life). AreKept P cells sizes room (state_with z) (record k { waits = grant_of t k.waits; lives = map.insert k.lives t live_then })) (sym lives_here.is) kept_with)

    -- and other grants are of calls that it keeps
    pub call_there : (g : TransId × Call) → HasCall k g → HasCall (granted_one k t) g
    call_there g y = subst (λ (z : ServerState V). HasCall z g) (sym granted_is) (record {
      waiting_call = grant_one t y.waiting_call;
      counts = y.counts;
      counted = counts_kept t y.waiting_call ∙ y.counted;
      found = found_marked t g.0 k.waits y.waiting_call y.found;
      only = each_marked (λ (v : WaitingCall). is_file_on g.0 v ≡ true → v.call ≡ g.1) (λ (v : WaitingCall). is_file_on g.0 v ≡ true → v.call ≡ g.1) t only_kept k.waits y.only;
      live = IsThere.live there_then;
      there = IsThere.is there_then;
    })
      where
        only_kept : (v : WaitingCall) → (is_file_on g.0 v ≡ true → v.call ≡ g.1) → is_file_on g.0 (grant_one t v) ≡ true → (grant_one t v).call ≡ g.1
        only_kept v only = go (is_file_on t v)
          where
            go : (b : Bool) → is_file_on g.0 (cond {A = WaitingCall} b (record v { is_granted = true }) v) ≡ true → (cond {A = WaitingCall} b (record v { is_granted = true }) v).call ≡ g.1
            go true e = only e
            go false e = only e

        there_then : IsThere (map.get (map.insert k.lives t live_then) g.0)
        there_then = subst (λ (o : Option Live). IsThere o) (sym (get_put k.lives t live_then g.0)) (go (same_trans g.0 t))
          where
            go : (b : Bool) → IsThere (cond {A = Option Live} b (Some live_then) (map.get k.lives g.0))
            go true = record { live = live_then; is = refl }
            go false = record { live = y.live; is = y.there }

-- ---- one after the other

module _ {V : Type 0} (P : TransId → Part → List Edit → Type 0) (cells : Cells) (sizes : Sizes) (room : Cells) where
  pub all_granted : (gs : List (TransId × Call)) (a : Account) (k : ServerState V) → AreKept P cells sizes room a k → AllByRecursion (HasCall k) gs
      → AreKept P cells sizes room (with_granted a gs) (granted_all k (list_map (λ (g : TransId × Call). g.0) gs))
  all_granted [] a k h all = h
  all_granted (g ∷ gs) a k h all = all_granted gs (granted_state P cells sizes room a k g.0 g.1) (granted_one k g.0) (grant_kept P cells sizes room a k g.0 g.1 h all.0) (each_there gs all.1)
    where
      each_there : (xs : List (TransId × Call)) → AllByRecursion (HasCall k) xs → AllByRecursion (HasCall (granted_one k g.0)) xs
      each_there [] rest = tt
      each_there (x ∷ xs) rest = (call_there P cells sizes room a k g.0 g.1 h all.0 x rest.0, each_there xs rest.1)
