-- what a client has of a transaction, and of what part each call that waits is
use Rattle.std.specs.Prelude.{cond, Bool, true, false, ◌&&◌, ◌||◌, ◌==◌, Option, None, Some, IsSome, is_some}
use Rattle.std.specs.List.{AllByRecursion}
use Rattle.std.proofs.lemmas.Bool.{eqb-true, and_parts, or_left, or_right}
use Rattle.std.proofs.Common.{inl, inr, ◌⊎◌, ◌≡◌, ℕ, List, [], ◌∷◌, refl, sym, ◌∙◌, ap, subst, eq-eqb}
use Rattle.alp_base.specs.declared.ids.JoinNo.{JoinNo}
use Rattle.alp_base.specs.declared.ids.TransId.{TransId}
use Rattle.alp_files.proofs.FilesLemmas.{same-some}
use Rattle.alp_files.specs.declared.call.Call.{Call}
use Rattle.alp_files.specs.declared.call.Call.TheVariants as call
use Rattle.alp_files.specs.declared.refusal.Cause.{Cause}
use Rattle.alp_journal.specs.Ids.{same_trans}
use Rattle.alp_journal.specs.Coordinator.{Fate, Undrawn, Running, Finishing, Committed, Forgotten, Ended, client_of, is_running}
use Rattle.alp_journal.specs.Participant.{Phase, Unseen, Joining, Active, Ready, Applied, Over, live_in}
use Rattle.alp_journal.specs.Holder.{Life}
use Rattle.alp_journal.specs.Desk.{Waiting, file_trans, part_trans, is_of}
use Rattle.alp_journal.specs.State.{is_whose, is_this, join_for, has_part}
use Rattle.alp_journal.specs.Laws.{IsHolding, IsOpenPart}
use Rattle.alp_journal.specs.Answers.{Part, NoPart, AtJoining, AtWork, AtFinish, AtReady, AtEnd, own_part, ended_part, phase_part, join_part, part_at, is_no_part}
use Rattle.alp_journal.specs.Account.{Account, state_of, is_other, IsJoined, IsPartAs, IsPartOf, IsOfPart, IsJoinOf, IsFinishOf, IsOther, HasNoJoin, Stands, Tells, IsSettled, is_on_trans}
use Rattle.alp_journal.proofs.IdLemmas.{same_trans-true}
use Rattle.alp_journal.proofs.WaitLemmas.{all-both, found-passes, file_part}
use Rattle.alp_journal.proofs.StandLemmas.{running_of, holding_of, join_part_is, own_part_is, pair_of, life_of, not_both_servers, far_of_held, far_of_live, live_of_open, join_live, join_none}

-- ---- what a client has of a transaction

-- the part of a transaction of this server, and of another's
pub own_part_at : (a : Account) (t : TransId) (client : ℕ) → t.server ≡ a.holder.server → part_at (state_of a) client t ≡ own_part client (a.dead client t) (a.fates t)
own_part_at a t client here =
    ap (λ (b : Bool). cond {A = Part} b (own_part client (a.dead client t) (a.fates t)) (join_part (state_of a) (a.dead client t) (join_for (state_of a) client t))) (eq-eqb t.server a.holder.server here)

pub far_part_at : (a : Account) (t : TransId) (client : ℕ) → (t.server == a.holder.server) ≡ false → part_at (state_of a) client t ≡ join_part (state_of a) (a.dead client t) (join_for (state_of a) client t)
far_part_at a t client far = ap (λ (b : Bool). cond {A = Part} b (own_part client (a.dead client t) (a.fates t)) (join_part (state_of a) (a.dead client t) (join_for (state_of a) client t))) far

-- its client's part of a running transaction is at work
pub own_at_work : (a : Account) (t : TransId) (client : ℕ) {js : List JoinNo} → t.server ≡ a.holder.server → a.fates t ≡ Running client js → part_at (state_of a) client t ≡ AtWork
own_at_work a t client here runs = own_part_at a t client here ∙ ap (own_part client (a.dead client t)) runs ∙ ap (λ (b : Bool). cond {A = Part} b AtWork NoPart) (eq-eqb client client refl)

-- that of a live join is as its phase says
pub joined_part_at : (a : Account) (t : TransId) (client : ℕ) (j : JoinNo) → Stands a → (t.server == a.holder.server) ≡ false → is_whose client t (live_in (a.phases j)) ≡ true → part_at (state_of a) client t ≡ phase_part (a.phases j)
joined_part_at a t client j q far live = far_part_at a t client far ∙ ap (join_part (state_of a) (a.dead client t)) (join_live a q client t j live)

-- a part at work is open
pub record IsAtWork (a : Account) (t : TransId) (l : Life) : Type 0 where
  pub opens : IsOpenPart (state_of a) t
  pub vote : l.vote ≡ None
  pub early : l.is_early ≡ false

none_at_work : (d : Option Cause) → ended_part d ≡ AtWork → ⊥
none_at_work None is = let wrong : NoPart ≡ AtWork = is in cc
none_at_work (Some c) is = let wrong : AtEnd c ≡ AtWork = is in cc

own_works : (client : ℕ) (d : Option Cause) (f : Fate) → own_part client d f ≡ AtWork → is_running f ≡ true
own_works client d Undrawn is = absurd (none_at_work d is)
own_works client d (Running c js) is = refl
own_works client d (Finishing c js vs) is = refl
own_works client d (Committed stamp js ds) is = absurd (none_at_work d is)
own_works client d (Forgotten stamp js) is = absurd (none_at_work d is)
own_works client d (Ended c) is = absurd (none_at_work d is)

-- it was let in
pub record WasLetIn (t : TransId) (client : ℕ) (p : Phase) : Type 0 where
  pub who : List ℕ
  pub is : p ≡ Active t client who

phase_works : (client : ℕ) (t : TransId) (p : Phase) → is_whose client t (live_in p) ≡ true → phase_part p ≡ AtWork → WasLetIn t client p
phase_works client t Unseen h is = let wrong : false ≡ true = h in cc
phase_works client t (Joining u c who) h is = let wrong : AtJoining ≡ AtWork = is in cc
phase_works client t (Active u c who) h is =
    let both = and_parts (same_trans u t) (c == client) h in
    record { who = who; is = λ i. Active (same_trans-true u t both.0 i) (eqb-true c client both.1 i) who }
phase_works client t (Ready u c ts) h is = let wrong : AtReady ≡ AtWork = is in cc
phase_works client t (Applied u stamp) h is = let wrong : false ≡ true = h in cc
phase_works client t Over h is = let wrong : false ≡ true = h in cc

module _ (a : Account) (q : Stands a) (t : TransId) (l : Life) (live : a.holder.lives t ≡ Some l) where
  -- the part of a transaction that runs did not vote, and is of no earlier run
  pub running_at_work : is_running (a.fates t) ≡ true → IsAtWork a t l
  running_at_work runs = go l.join refl
    where
      go : (x : Option JoinNo) → l.join ≡ x → IsAtWork a t l
      go None e = let pair = own_part_is t a.phases l (a.fates t) e (pair_of a q t l live) in record { opens = inl runs; vote = pair.1; early = pair.2 }
      go (Some j) e =
          let pair = join_part_is t a.phases l (a.fates t) j e (pair_of a q t l live) in
          let wrong : true ≡ false = sym runs ∙ pair.1 in
          cc

  -- nor did that of a join that was let in
  pub active_at_work : (j : JoinNo) (client : ℕ) (who : List ℕ) → a.phases j ≡ Active t client who → IsAtWork a t l
  active_at_work j client who active =
      let (k, there, of) = life_of a q t j (subst (IsHolding t) (sym active) refl) in
      let mine : l.join ≡ Some j = ap (λ (x : Life). x.join) (same-some l k (sym live ∙ there)) ∙ of in
      let pair = join_part_is t a.phases l (a.fates t) j mine (pair_of a q t l live) in
      elim pair.0 [
        | inl x ↦ record { opens = inr (j, client, who, active); vote = x.1; early = x.2 }
        | inr x ↦ absurd (let wrong : Active t client who ≡ Ready t l.client x.0 = sym active ∙ x.1 in cc)
      ]

  pub at_work_open : (client : ℕ) → part_at (state_of a) client t ≡ AtWork → IsAtWork a t l
  at_work_open client works = go (t.server == a.holder.server) refl
    where
      by : (x : Option JoinNo) → join_for (state_of a) client t ≡ x → join_part (state_of a) (a.dead client t) x ≡ AtWork → IsAtWork a t l
      by None e is = absurd (none_at_work (a.dead client t) is)
      by (Some j) e is =
          let opens = phase_works client t (a.phases j) (found-passes (λ k. is_whose client t (live_in (a.phases k))) a.joined j e) is in
          active_at_work j client opens.who opens.is

      go : (b : Bool) → (t.server == a.holder.server) ≡ b → IsAtWork a t l
      go true e = running_at_work (own_works client (a.dead client t) (a.fates t) (sym (own_part_at a t client (eqb-true t.server a.holder.server e)) ∙ works))
      go false e = by (join_for (state_of a) client t) refl (sym (far_part_at a t client e) ∙ works)

-- whoever has a part here has a live one, and is not to be told of its end
own_has : (client : ℕ) (d : Option Cause) (f : Fate) → is_no_part (own_part client d f) ≡ false → is_this client (client_of f) ≡ true
own_has client None Undrawn h = let wrong : true ≡ false = h in cc
own_has client (Some c) Undrawn h = let wrong : true ≡ false = h in cc
own_has client d (Running c js) h = go (c == client) h
  where
    go : (b : Bool) → is_no_part (cond {A = Part} b AtWork NoPart) ≡ false → b ≡ true
    go true h = refl
    go false h = let wrong : true ≡ false = h in cc
own_has client d (Finishing c js vs) h = go (c == client) h
  where
    go : (b : Bool) → is_no_part (cond {A = Part} b AtFinish NoPart) ≡ false → b ≡ true
    go true h = refl
    go false h = let wrong : true ≡ false = h in cc
own_has client None (Committed stamp js ds) h = let wrong : true ≡ false = h in cc
own_has client (Some c) (Committed stamp js ds) h = let wrong : true ≡ false = h in cc
own_has client None (Forgotten stamp js) h = let wrong : true ≡ false = h in cc
own_has client (Some c) (Forgotten stamp js) h = let wrong : true ≡ false = h in cc
own_has client None (Ended c) h = let wrong : true ≡ false = h in cc
own_has client (Some c) (Ended e) h = let wrong : true ≡ false = h in cc

none_of_end : (d : Option Cause) → is_no_part (ended_part d) ≡ false → ⊥
none_of_end None h = let wrong : true ≡ false = h in cc
none_of_end (Some c) h = let wrong : true ≡ false = h in cc

pub part_has : (a : Account) (client : ℕ) (t : TransId) → is_no_part (part_at (state_of a) client t) ≡ false → has_part (state_of a) client t ≡ true
part_has a client t h = go (t.server == a.holder.server) refl
  where
    by : (x : Option JoinNo) → join_for (state_of a) client t ≡ x → is_no_part (join_part (state_of a) (a.dead client t) x) ≡ false → is_some (join_for (state_of a) client t) ≡ true
    by None e k = absurd (none_of_end (a.dead client t) k)
    by (Some j) e k = ap (λ (x : Option JoinNo). is_some x) e

    go : (b : Bool) → (t.server == a.holder.server) ≡ b → has_part (state_of a) client t ≡ true
    go true e = or_left (is_this client (client_of (a.fates t))) (is_some (join_for (state_of a) client t)) (own_has client (a.dead client t) (a.fates t) (ap is_no_part (sym (own_part_at a t client (eqb-true t.server a.holder.server e))) ∙ h))
    go false e = or_right (is_this client (client_of (a.fates t))) (is_some (join_for (state_of a) client t)) (by (join_for (state_of a) client t) refl (ap is_no_part (sym (far_part_at a t client e)) ∙ h))

pub part_not_dead : (a : Account) (client : ℕ) (t : TransId) → IsSettled a → is_no_part (part_at (state_of a) client t) ≡ false → is_some (a.dead client t) ≡ false
part_not_dead a client t q h = go (a.dead client t) refl
  where
    over : (c : Cause) → a.dead client t ≡ Some c → (b : Bool) → (t.server == a.holder.server) ≡ b → ⊥
    over c e true s =
        let here : t.server ≡ a.holder.server = eqb-true t.server a.holder.server s in
        let ended : a.fates t ≡ Ended c = (q.tells.ended client t c e).0 here in
        none_of_end (a.dead client t) (ap is_no_part (ap (own_part client (a.dead client t)) (sym ended) ∙ sym (own_part_at a t client here)) ∙ h)
    over c e false s =
        none_of_end (a.dead client t) (ap is_no_part (ap (join_part (state_of a) (a.dead client t)) (sym (join_none a q.stands client t (q.tells.ended client t c e).1)) ∙ sym (far_part_at a t client s)) ∙ h)

    go : (x : Option Cause) → a.dead client t ≡ x → is_some x ≡ false
    go None e = refl
    go (Some c) e = absurd (over c e (t.server == a.holder.server) refl)

-- no live join is of a transaction of this server, or of one that is none of the run
pub no_near_join : (a : Account) → Stands a → (t : TransId) → is_other a.servers a.holder.server t.server ≡ false → (client : ℕ) → HasNoJoin a.phases client t
no_near_join a q t near client j = go (is_whose client t (live_in (a.phases j))) refl
  where
    go : (b : Bool) → is_whose client t (live_in (a.phases j)) ≡ b → b ≡ false
    go false e = refl
    go true e = let wrong : true ≡ false = sym (far_of_live a.servers a.holder.server a.ids.epoch a.ids.joins a.joined j client t (a.phases j) e (q.phases j)) ∙ near in cc

-- ---- calls that wait

-- a call on files, a Join and a Finish, and of what part it is
pub data WaitsAs (a : Account) (w : Waiting) : Type 0 where
  file : (t : TransId) → file_trans w.call ≡ Some t → IsPartOf w.client (a.holder.lives t) (a.dead w.client t) → WaitsAs a w
  join : (t : TransId) → part_trans w.call ≡ Some t → IsJoinOf a.phases w.client t (a.dead w.client t) → WaitsAs a w
  finish : (t : TransId) → part_trans w.call ≡ Some t → IsFinishOf w.client (a.fates t) (a.dead w.client t) → WaitsAs a w

pub waits_as : (a : Account) (w : Waiting) → IsOfPart a.holder.lives a.dead w (file_trans w.call) → IsOther a.fates a.phases a.dead w.client w.call → WaitsAs a w
waits_as a w p o = go w.call refl p o
  where
    on_files : (c : Call) → w.call ≡ c → (x : Option TransId) → file_trans c ≡ x → IsOfPart a.holder.lives a.dead w (file_trans c) → IsSome x → WaitsAs a w
    on_files c e None f p o = let wrong : false ≡ true = o in cc
    on_files c e (Some t) f p o = WaitsAs.file t (ap file_trans e ∙ f) (subst (IsOfPart a.holder.lives a.dead w) f p)

    go : (c : Call) → w.call ≡ c → IsOfPart a.holder.lives a.dead w (file_trans c) → IsOther a.fates a.phases a.dead w.client c → WaitsAs a w
    go (call.Join t) e p o = WaitsAs.join t (ap part_trans e) o
    go (call.Finish t commit) e p o = WaitsAs.finish t (ap part_trans e) o
    go c e p o = on_files c e (file_trans c) refl p o

pub each_waits : (a : Account) → Tells a → AllByRecursion (WaitsAs a) a.waits
each_waits a q = all-both (λ (w : Waiting). IsOfPart a.holder.lives a.dead w (file_trans w.call)) (λ (w : Waiting). IsOther a.fates a.phases a.dead w.client w.call) (WaitsAs a) (λ w p o. waits_as a w p o) a.waits q.parts q.others

-- where no call of a part waits none on its files does
pub off-files : (t : TransId) (w : Waiting) → is_of t (part_trans w.call) ≡ false → is_on_trans t w ≡ false
off-files t w off = go (file_trans w.call) refl
  where
    go : (x : Option TransId) → file_trans w.call ≡ x → is_of t x ≡ false
    go None e = refl
    go (Some u) e = ap (is_of t) (sym (file_part w.call u e)) ∙ off

module _ (a : Account) (q : IsSettled a) where
  -- a part that ended has no live join, and no fate but its end
  dead_trans : (client : ℕ) (t : TransId) → t.server ≡ a.holder.server → IsSome (a.dead client t) → (c : Cause) × (a.fates t ≡ Ended c)
  dead_trans client t here h = go (a.dead client t) refl h
    where
      go : (x : Option Cause) → a.dead client t ≡ x → IsSome x → (c : Cause) × (a.fates t ≡ Ended c)
      go None e h = let wrong : false ≡ true = h in cc
      go (Some c) e h = (c, (q.tells.ended client t c e).0 here)

  -- no call waits of a transaction of this server that was not drawn
  pub none_waits : (t : TransId) → t.server ≡ a.holder.server → a.fates t ≡ Undrawn → AllByRecursion (λ w. is_of t (part_trans w.call) ≡ false) a.waits
  none_waits t here new = all-both (WaitsAs a) (WaitsAs a) (λ w. is_of t (part_trans w.call) ≡ false) (λ w h k. go w h (is_of t (part_trans w.call)) refl) a.waits (each_waits a q.tells) (each_waits a q.tells)
    where
      none_dead : (client : ℕ) → IsSome (a.dead client t) → ⊥
      none_dead client h = (let (c, is) = dead_trans client t here h in let wrong : Undrawn ≡ Ended c = sym new ∙ is in cc)

      none_live : (l : Life) → a.holder.lives t ≡ Some l → ⊥
      none_live l live = by l.join (pair_of a q.stands t l live)
        where
          by : (x : Option JoinNo) → IsPartAs t a.phases l (a.fates t) x → ⊥
          by None h = let wrong : false ≡ true = ap is_running (sym new) ∙ running_of (a.fates t) l.client h.0 in cc
          by (Some j) h = not_both_servers a.servers a.holder.server t.server (far_of_joined j h.0) here
            where
              far_of_joined : (j : JoinNo) → IsJoined t l (a.phases j) → is_other a.servers a.holder.server t.server ≡ true
              far_of_joined j h = far_of_held a.servers a.holder.server a.ids.epoch a.ids.joins a.joined j t (a.phases j) (holding_of t l (a.phases j) h) (q.stands.phases j)

      of_part : (w : Waiting) → (x : Option Life) → a.holder.lives t ≡ x → IsPartOf w.client x (a.dead w.client t) → ⊥
      of_part w None e p = none_dead w.client p
      of_part w (Some l) e p = none_live l e

      at_none : (client : ℕ) → IsFinishOf client (a.fates t) (a.dead client t) → ⊥
      at_none client h = none_dead client (subst (λ (f : Fate). IsFinishOf client f (a.dead client t)) new h)

      its : (w : Waiting) (u : TransId) → part_trans w.call ≡ Some u → is_of t (part_trans w.call) ≡ true → u ≡ t
      its w u of e = same_trans-true u t (ap (is_of t) (sym of) ∙ e)

      wrong_one : (w : Waiting) → WaitsAs a w → is_of t (part_trans w.call) ≡ true → ⊥
      wrong_one w (WaitsAs.file u of p) e = of_part w (a.holder.lives t) refl (subst (λ (v : TransId). IsPartOf w.client (a.holder.lives v) (a.dead w.client v)) (its w u (file_part w.call u of) e) p)
      wrong_one w (WaitsAs.join u of p) e = elim (subst (λ (v : TransId). IsJoinOf a.phases w.client v (a.dead w.client v)) (its w u of e) p) [
        | inl x ↦ not_both_servers a.servers a.holder.server t.server (far_of_live a.servers a.holder.server a.ids.epoch a.ids.joins a.joined x.0 w.client t (a.phases x.0) (live_of_open w.client t (a.phases x.0) x.1) (q.stands.phases x.0)) here
        | inr d ↦ none_dead w.client d
      ]
      wrong_one w (WaitsAs.finish u of p) e = at_none w.client (subst (λ (v : TransId). IsFinishOf w.client (a.fates v) (a.dead w.client v)) (its w u of e) p)

      go : (w : Waiting) → WaitsAs a w → (b : Bool) → is_of t (part_trans w.call) ≡ b → is_of t (part_trans w.call) ≡ false
      go w h false e = e
      go w h true e = absurd (wrong_one w h e)
