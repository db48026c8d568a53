-- a join asks to be let in by the server of its transaction, and hears of it
use Rattle.std.specs.Prelude.{cond, Bool, true, false, not, ◌&&◌, ◌||◌, ◌==◌, filter, Option, None, Some, if◌then◌else◌}
use Rattle.std.specs.List.{list_all, AllByRecursion}
use Rattle.std.specs.List.Sorted.{IsPermutation}
use Rattle.std.proofs.lemmas.Bool.{and_parts, and_from, eqb-true, not-true, or_parts}
use Rattle.std.proofs.lemmas.List.{append-nil}
use Rattle.std.proofs.lemmas.List.Sorted.{IsPermutation-refl}
use Rattle.std.proofs.Common.{◌⊎◌, inl, inr, ◌≡◌, ℕ, List, [], ◌∷◌, ◌++◌, refl, sym, ◌∙◌, ap, subst, eq-eqb}
use Rattle.alp_base.specs.declared.ids.JoinNo.{JoinNo}
use Rattle.alp_base.specs.declared.ids.TransId.{TransId}
use Rattle.alp_journal.specs.declared.act.Act.TheVariants as act
use Rattle.alp_journal.specs.declared.message.Message.{Message}
use Rattle.alp_journal.specs.declared.message.Message.TheVariants as msg
use Rattle.alp_journal.specs.Ids.{same_trans, same_join, has_join, has_server}
use Rattle.alp_journal.specs.Deeds.{Deed, Registers, Enters, Quits}
use Rattle.alp_journal.specs.Coordinator.{Fate, Running, client_of, is_running, has_votes, joins_of}
use Rattle.alp_journal.specs.Coordinator as fate
use Rattle.alp_journal.specs.Participant.{Phase, Joining, Over, live_in, open_in}
use Rattle.alp_journal.specs.Participant as phase
use Rattle.alp_journal.specs.Holder.{Life, new_life, with_life}
use Rattle.alp_journal.specs.Desk.{Waiting, file_trans, part_trans, is_of, is_called, is_of_part, without}
use Rattle.alp_journal.specs.Counts.{lock_set}
use Rattle.alp_journal.specs.State.{State, is_trans_drawn, is_other_server, is_whose}
use Rattle.alp_journal.specs.Moves.{enters, refused_join}
use Rattle.alp_journal.specs.Laws.{ended_join}
use Rattle.alp_journal.specs.Messages.{Mail, may_join, on_register, to_others}
use Rattle.alp_journal.specs.Answered.{is_all_done}
use Rattle.alp_journal.specs.Account.{Account, state_of, is_other, are_servers_apart, IsFateOf, IsPhaseOf, Stands, Tells, IsSettled, IsQuiet, HasTried, IsOfPart, IsFinishOf, IsOther, HasCome, HasWaits, HasNoCall, is_on_trans, sent_acts, Leads}
use Rattle.alp_journal.proofs.IdLemmas.{same_trans-true, same_trans-itself, same_join-true, all-filter}
use Rattle.alp_journal.proofs.WaitLemmas.{all-of, all-both, passing, apart-filter}
use Rattle.alp_journal.proofs.TurnLemmas.{turns-set}
use Rattle.alp_journal.proofs.StandLemmas.{any-last, moved_each, moved_fate, same_join-itself}
use Rattle.alp_journal.proofs.MoveLemmas.{stands_fated, stands_quit, stands_entered, IsSpent, spent_over, open_entered}
use Rattle.alp_journal.proofs.DeskLemmas.{tells_fated, tells_moved, fewer}
use Rattle.alp_journal.proofs.QuietLemmas.{none_tried, stands_as, turns-as, turns-without, parts-gone, ended_joins, other-on, waits-without, calls-without}
use Rattle.alp_journal.proofs.CallLemmas.{IsMail, no_mail, mail_behind}
use Rattle.alp_journal.proofs.ArrivalLemmas.{arrive_entry, arrive_leads, says_leads}

-- ---- lists of joins

all-last : {A : Type 0} (p : A → Bool) (xs : List A) (x : A) → list_all p xs ≡ true → p x ≡ true → list_all p (xs ++ x ∷ []) ≡ true
all-last p [] x h e = ap (λ (b : Bool). b && true) e
all-last p (y ∷ xs) x h e =
    let both = and_parts (p y) (list_all p xs) h in
    ap (λ (b : Bool). b && list_all p (xs ++ x ∷ [])) both.0 ∙ all-last p xs x both.1 e

servers-last : (js : List JoinNo) (j : JoinNo) → are_servers_apart js ≡ true → has_server j.server js ≡ false → are_servers_apart (js ++ j ∷ []) ≡ true
servers-last [] j h none = refl
servers-last (k ∷ js) j h none =
    let both = and_parts (not (has_server k.server js)) (are_servers_apart js) h in
    let away = or_parts (k.server == j.server) (has_server j.server js) none in
    and_from (not (has_server k.server (js ++ j ∷ []))) (are_servers_apart (js ++ j ∷ []))
    (ap not (any-last (λ (i : JoinNo). i.server == k.server) js j ∙ (λ i. not-true (has_server k.server js) both.0 i || (turned_eqb j.server k.server away.0) i))) (servers-last js j both.1 away.1)
  where
    turned_eqb : (m n : ℕ) → (n == m) ≡ false → (m == n) ≡ false
    turned_eqb m n e = go (m == n) refl
      where
        go : (b : Bool) → (m == n) ≡ b → b ≡ false
        go false f = refl
        go true f = let wrong : false ≡ true = sym e ∙ eq-eqb n m (sym (eqb-true m n f)) in cc

-- ---- where nothing but fates and joins move

-- a state is quiet where it stands and tells so, with who holds what and who waits as before
pub quiet_beside : (a m : Account) → m.holder ≡ a.holder → m.waits ≡ a.waits → m.pending ≡ [] → IsSettled m → IsQuiet a → IsQuiet m
quiet_beside a m holder waits none settled q = record { settled = settled; turns = turns-as (state_of a) (state_of m) holder waits q.turns; tried = HasTried.nothing none }

module _ (a : Account) (from : ℕ) (t : TransId) (j : JoinNo) (client : ℕ) where
  abbrev register : Message
  register = msg.Register t j client

  abbrev joined_mail : List Mail
  joined_mail = (j.server, msg.Joined t j) ∷ []

  abbrev refused_mail : List Mail
  refused_mail = (j.server, msg.JoinRefused t j) ∷ []

  -- what goes to another server of the run
  one_other : (m : Message) → is_other_server (state_of a) j.server ≡ true → to_others (state_of a) ((j.server, m) ∷ []) ≡ (j.server, m) ∷ []
  one_other m far = ap (λ (b : Bool). cond {A = List Mail} b ((j.server, m) ∷ []) []) far

  -- ---- a join asks to be let in

  -- the transaction was not drawn here: nothing is said
  pub register_unknown_leads : IsQuiet a → a.is_down ≡ false → is_trans_drawn (state_of a) t ≡ false → Leads false a (arrive_entry a from register []) a
  register_unknown_leads q up strange = says_leads a from register false [] (record {
    quiet = q;
    up = up;
    brought = refl;
    said = tt;
    mail = subst (λ (ms : List Mail). IsPermutation (to_others (state_of a) ms) []) (sym (ap (λ (b : Bool). cond {A = List Mail} (not b) [] (cond {A = List Mail} (may_join (state_of a) j client (a.fates t)) joined_mail refused_mail)) strange)) (IsPermutation-refl []);
    addressed = refl;
    applied = tt;
  })

  on_drawn : is_trans_drawn (state_of a) t ≡ true → on_register (state_of a) t j client ≡ cond {A = List Mail} (may_join (state_of a) j client (a.fates t)) joined_mail refused_mail
  on_drawn drawn = ap (λ (b : Bool). cond {A = List Mail} (not b) [] (cond {A = List Mail} (may_join (state_of a) j client (a.fates t)) joined_mail refused_mail)) drawn

  -- it is not let in, and is told
  pub register_refused_leads : IsQuiet a → a.is_down ≡ false → is_trans_drawn (state_of a) t ≡ true → may_join (state_of a) j client (a.fates t) ≡ false → is_other_server (state_of a) j.server ≡ true
      → Leads false a (arrive_entry a from register (sent_acts refused_mail)) a
  register_refused_leads q up drawn closed far = says_leads a from register false refused_mail (record {
    quiet = q;
    up = up;
    brought = refl;
    said = (tt, tt);
    mail = subst (λ (ms : List Mail). IsPermutation (to_others (state_of a) ms) refused_mail) (sym (on_drawn drawn ∙ ap (λ (b : Bool). cond {A = List Mail} b joined_mail refused_mail) closed))
        (subst (λ (ms : List Mail). IsPermutation ms refused_mail) (sym (one_other (msg.JoinRefused t j) far)) (IsPermutation-refl refused_mail));
    addressed = ap (λ (b : Bool). b && true) (eq-eqb j.server j.server refl);
    applied = tt;
  })

  -- and where it is of no other server of the run nothing is said
  pub register_stray_leads : IsQuiet a → a.is_down ≡ false → is_other_server (state_of a) j.server ≡ false → Leads false a (arrive_entry a from register []) a
  register_stray_leads q up near = says_leads a from register false [] (record {
    quiet = q;
    up = up;
    brought = refl;
    said = tt;
    mail = subst (λ (ms : List Mail). IsPermutation ms []) (sym (nothing (is_trans_drawn (state_of a) t) (may_join (state_of a) j client (a.fates t)))) (IsPermutation-refl []);
    addressed = refl;
    applied = tt;
  })
    where
      nothing : (b d : Bool) → to_others (state_of a) (cond {A = List Mail} (not b) [] (cond {A = List Mail} d joined_mail refused_mail)) ≡ []
      nothing false d = refl
      nothing true true = ap (λ (b : Bool). cond {A = List Mail} b joined_mail []) near
      nothing true false = ap (λ (b : Bool). cond {A = List Mail} b refused_mail []) near

  module _ (js : List JoinNo) where
    may : a.fates t ≡ Running client js → is_other_server (state_of a) j.server ≡ true → (has_join j js || not (has_server j.server js)) ≡ true → may_join (state_of a) j client (a.fates t) ≡ true
    may runs far first = ap (may_join (state_of a) j client) runs ∙ and_from (client == client && is_other_server (state_of a) j.server) (has_join j js || not (has_server j.server js))
        (and_from (client == client) (is_other_server (state_of a) j.server) (eq-eqb client client refl) far) first

    drawn_here : IsQuiet a → a.fates t ≡ Running client js → is_trans_drawn (state_of a) t ≡ true
    drawn_here q runs = (subst (IsFateOf a.servers a.holder.server a.ids.epoch a.ids.transactions a.begun t) runs (q.settled.stands.fates t)).0.0

    mail_joined : IsQuiet a → a.fates t ≡ Running client js → is_other_server (state_of a) j.server ≡ true → (has_join j js || not (has_server j.server js)) ≡ true → to_others (state_of a) (on_register (state_of a) t j client) ≡ joined_mail
    mail_joined q runs far first = ap (to_others (state_of a)) (on_drawn (drawn_here q runs) ∙ ap (λ (b : Bool). cond {A = List Mail} b joined_mail refused_mail) (may runs far first)) ∙ one_other (msg.Joined t j) far

    -- it was let in before, and is told so again
    pub register_again_leads : IsQuiet a → a.is_down ≡ false → a.fates t ≡ Running client js → is_other_server (state_of a) j.server ≡ true → has_join j js ≡ true → Leads false a (arrive_entry a from register (sent_acts joined_mail)) a
    register_again_leads q up runs far its = says_leads a from register false joined_mail (record {
      quiet = q;
      up = up;
      brought = refl;
      said = (ap (λ (f : Fate). has_join j (joins_of f)) runs ∙ its, tt);
      mail = subst (λ (ms : List Mail). IsPermutation ms joined_mail) (sym (mail_joined q runs far (ap (λ (b : Bool). b || not (has_server j.server js)) its))) (IsPermutation-refl joined_mail);
      addressed = ap (λ (b : Bool). b && true) (eq-eqb j.server j.server refl);
      applied = tt;
    })

    -- it is the first of its server: it is let in, and is told
    abbrev pub with_registered : Account
    with_registered = record a { fates = λ u. if same_trans t u then fate.registered j (a.fates u) else a.fates u }

    is_registered : a.fates t ≡ Running client js → has_server j.server js ≡ false → fate.registered j (a.fates t) ≡ Running client (js ++ j ∷ [])
    is_registered runs first = ap (fate.registered j) runs ∙ ap (λ (b : Bool). cond {A = Fate} b (Running client js) (Running client (js ++ j ∷ []))) first

    registered_settled : IsSettled a → a.fates t ≡ Running client js → is_other_server (state_of a) j.server ≡ true → has_server j.server js ≡ false → IsSettled with_registered
    registered_settled q runs far first =
        let now : fate.registered j (a.fates t) ≡ Running client (js ++ j ∷ []) = is_registered runs first in
        let of : IsFateOf a.servers a.holder.server a.ids.epoch a.ids.transactions a.begun t (Running client js) = subst (IsFateOf a.servers a.holder.server a.ids.epoch a.ids.transactions a.begun t) runs (q.stands.fates t) in
        record {
          stands = stands_fated a q.stands t (fate.registered j) (ap client_of now ∙ sym (ap client_of runs)) (ap is_running now ∙ sym (ap is_running runs)) (ap has_votes now) (ap is_all_done now)
              (subst (IsFateOf a.servers a.holder.server a.ids.epoch a.ids.transactions a.begun t) (sym now)
              (of.0, of.1, (all-last (λ (k : JoinNo). is_other a.servers a.holder.server k.server) js j of.2.0 far, servers-last js j of.2.1 first)));
          tells = tells_fated a q.tells t (fate.registered j) (λ c. refl) (λ n h. subst (λ (f : Fate). IsFinishOf n f (a.dead n t)) (sym now) (subst (λ (f : Fate). IsFinishOf n f (a.dead n t)) runs h)) (subst (HasNoCall a.waits t) (sym now) tt);
        }

    pub register_leads : IsQuiet a → a.is_down ≡ false → a.fates t ≡ Running client js → is_other_server (state_of a) j.server ≡ true → has_server j.server js ≡ false
        → Leads false a (arrive_entry a from register (act.Registered t j ∷ sent_acts joined_mail)) with_registered
    register_leads q up runs far first =
        let s : State = state_of a in
        arrive_leads a from register false (act.Registered t j ∷ sent_acts joined_mail) (Registers t j ∷ []) with_registered (record {
          up = refl;
          running = up;
          brought = refl;
          left = λ i. state_of (record with_registered { begun = append-nil a.begun i; joined = append-nil a.joined i; is_down = sym up i; pending = sym (none_tried a q up) i });
          drawn = refl;
          deeds = (
            record {
              counts = tt;
              view = tt;
              locks = tt;
              running = tt;
              registration = record { from = from; client = client; joins = js; asked = refl; runs = runs; first = first; elsewhere = far };
              vote = tt;
              decision = tt;
              application = tt;
              forgetting = tt;
            },
            tt,
          );
          released = refl;
          granted = refl;
          said = (tt, (ap (λ (f : Fate). has_join j (joins_of f)) (moved_fate a.fates t (fate.registered j) ∙ is_registered runs first) ∙ any-last (λ k. same_join k j) js j ∙ or_right_of (has_join j js) (same_join j j) (same_join-itself j), tt));
          regained = refl;
          quiet = quiet_beside a with_registered refl refl (none_tried a q up) (registered_settled q.settled runs far first) q;
          mail = subst (λ (ms : List Mail). IsMail ms (act.Registered t j ∷ sent_acts joined_mail)) (sym (mail_joined q runs far (or_right_of (has_join j js) (not (has_server j.server js)) (ap not first))))
              (mail_behind joined_mail (act.Registered t j ∷ []) joined_mail refl (ap (λ (b : Bool). b && true) (eq-eqb j.server j.server refl)) (IsPermutation-refl joined_mail));
          applied = tt;
          turns = tt;
        })
      where
        or_right_of : (x y : Bool) → y ≡ true → (x || y) ≡ true
        or_right_of true y e = refl
        or_right_of false y e = e

-- ---- a join hears that it was let in

none_called : (t : TransId) (ws : List Waiting) → is_called t ws ≡ false → AllByRecursion (λ w. is_on_trans t w ≡ false) ws
none_called t [] h = tt
none_called t (w ∷ ws) h = (let parts = or_parts (is_on_trans t w) (is_called t ws) h in (parts.0, none_called t ws parts.1))

-- it asks for this transaction, no part of that is live, and no call on files of it waits
pub record IsLetIn (a : Account) (t : TransId) (j : JoinNo) : Type 0 where
  pub client : ℕ
  pub who : List ℕ
  pub asks : a.phases j ≡ Joining t client who
  pub none : a.holder.lives t ≡ None
  pub off : is_called t a.waits ≡ false

-- a word that a join was let in lets it in, or nothing comes of it
pub joined_either : (a : Account) (t : TransId) (j : JoinNo) → (enters j t (a.holder.lives t) a.waits (a.phases j) ≡ []) ⊎ IsLetIn a t j
joined_either a t j = go (a.holder.lives t) refl (a.phases j) refl
  where
    at : (u : TransId) (client : ℕ) (who : List ℕ) → a.holder.lives t ≡ None → a.phases j ≡ Joining u client who → (b : Bool) → same_trans u t ≡ b → (c : Bool) → is_called t a.waits ≡ c
        → (cond {A = List Deed} (b && not c) (Enters j t client who ∷ []) [] ≡ []) ⊎ IsLetIn a t j
    at u client who none asks false e c f = inl refl
    at u client who none asks true e true f = inl refl
    at u client who none asks true e false f = inr (record { client = client; who = who; asks = asks ∙ ap (λ (v : TransId). Joining v client who) (same_trans-true u t e); none = none; off = f })

    go : (l : Option Life) → a.holder.lives t ≡ l → (p : Phase) → a.phases j ≡ p → (enters j t l a.waits p ≡ []) ⊎ IsLetIn a t j
    go (Some l) none p asks = inl refl
    go None none (Joining u client who) asks = at u client who none asks (same_trans u t) refl (is_called t a.waits) refl
    go None none phase.Unseen asks = inl refl
    go None none (phase.Active u client who) asks = inl refl
    go None none (phase.Ready u client ts) asks = inl refl
    go None none (phase.Applied u stamp) asks = inl refl
    go None none Over asks = inl refl

module _ (a : Account) (from : ℕ) (t : TransId) (j : JoinNo) where
  -- it does not ask for this transaction, or a part of it is live, or a call on files of it waits: nothing comes of it
  pub joined_passed_leads : IsQuiet a → a.is_down ≡ false → enters j t (a.holder.lives t) a.waits (a.phases j) ≡ [] → Leads false a (arrive_entry a from (msg.Joined t j) []) a
  joined_passed_leads q up none = says_leads a from (msg.Joined t j) false [] (record { quiet = q; up = up; brought = none; said = tt; mail = IsPermutation-refl []; addressed = refl; applied = tt })

  pub refused_passed_leads : IsQuiet a → a.is_down ≡ false → refused_join j t (a.phases j) ≡ [] → Leads false a (arrive_entry a from (msg.JoinRefused t j) []) a
  refused_passed_leads q up none = says_leads a from (msg.JoinRefused t j) false [] (record { quiet = q; up = up; brought = none; said = tt; mail = IsPermutation-refl []; addressed = refl; applied = tt })

  module _ (client : ℕ) (who : List ℕ) where
    abbrev fresh : Life
    fresh = new_life (Some j) client who

    -- its part is live
    abbrev pub with_entered : Account
    with_entered = record a {
      holder = with_life a.holder t (Some (new_life (Some j) client who));
      phases = λ k. if same_join j k then phase.entered (a.phases k) else a.phases k;
      locked = lock_set a.locked t [];
    }

    -- no call on files of the transaction waits: that of a part that ended would be taken for this one's
    pub joined_leads : IsQuiet a → a.is_down ≡ false → a.phases j ≡ Joining t client who → a.holder.lives t ≡ None → is_called t a.waits ≡ false
        → Leads false a (arrive_entry a from (msg.Joined t j) []) with_entered
    joined_leads q up asks none uncalled =
        let off : AllByRecursion (λ v. is_on_trans t v ≡ false) a.waits = none_called t a.waits uncalled in
        let moved : Tells (record a { phases = with_entered.phases }) = tells_moved a q.settled.tells j phase.entered (ap (λ (p : Phase). live_in (phase.entered p)) asks ∙ sym (ap live_in asks)) (open_entered a q.settled.stands j t client who (a.phases j))
        (subst (λ (p : Phase). HasWaits a.waits (phase.entered p)) (sym asks) tt) in
        let enters_is : enters j t (a.holder.lives t) a.waits (a.phases j) ≡ Enters j t client who ∷ [] =
        (λ i. enters j t (none i) a.waits (asks i))
        ∙ ap (λ (b : Bool). cond {A = List Deed} b (Enters j t client who ∷ []) []) (and_from (same_trans t t) (not (is_called t a.waits)) (same_trans-itself t) (ap not uncalled)) in
        arrive_leads a from (msg.Joined t j) false [] (Enters j t client who ∷ []) with_entered (record {
          up = refl;
          running = up;
          brought = ap (λ (ds : List Deed). ds ++ [] ++ []) enters_is;
          left = λ i. state_of (record with_entered { begun = append-nil a.begun i; joined = append-nil a.joined i; is_down = sym up i; pending = sym (none_tried a q up) i });
          drawn = refl;
          deeds = (record { counts = tt; view = tt; locks = tt; running = tt; registration = tt; vote = tt; decision = tt; application = tt; forgetting = tt }, tt);
          released = refl;
          granted = refl;
          said = tt;
          regained = refl;
          quiet = record {
            settled = record {
              stands = stands_located (stands_entered a q.settled.stands j t client who asks none);
              tells = record {
                ended = moved.ended;
                parts = parts-gone a.holder.lives a.dead t (Some fresh) a.waits off moved.parts;
                others = moved.others;
                came = moved.came;
                apart = moved.apart;
                joining = moved.joining;
                finishing = moved.finishing;
              };
            };
            turns = turns-set (state_of a) (state_of with_entered) t fresh refl (λ u. refl) (λ k live. absurd (let wrong : None ≡ Some k = sym none ∙ live in cc)) a.waits off q.turns;
            tried = HasTried.nothing (none_tried a q up);
          };
          mail = no_mail [] refl refl;
          applied = tt;
          turns = tt;
        })
      where
        -- what is locked counts nothing
        stands_located : Stands (record a { holder = with_entered.holder; phases = with_entered.phases }) → Stands with_entered
        stands_located q = record { agree = q.agree; paired = q.paired; held = q.held; votes = q.votes; forgets = q.forgets; fates = q.fates; begun = q.begun; known = q.known; phases = q.phases; joined = q.joined; single = q.single; order = q.order }

    -- it was not let in: it is over, and its call goes
    abbrev pub with_refused : Account
    with_refused = record a {
      phases = λ k. if same_join j k then phase.quit (a.phases k) else a.phases k;
      waits = without (is_of_part client t) a.waits;
    }

    refused_tells : IsSettled a → a.phases j ≡ Joining t client who → Tells with_refused
    refused_tells q asks =
        let over : phase.quit (a.phases j) ≡ Over = ap phase.quit asks in
        record {
          ended = ended_joins a.holder.server a.dead a.fates a.phases with_refused.phases (λ k n u none. fewer a q.tells j phase.quit (ap live_in over) k n u none) q.tells.ended;
          parts = all-filter (λ (w : Waiting). IsOfPart a.holder.lives a.dead w (file_trans w.call)) (λ w. not (is_of_part client t w)) a.waits q.tells.parts;
          others = all-both (λ w. not (is_of_part client t w) ≡ true) (λ (w : Waiting). IsOther a.fates a.phases a.dead w.client w.call) (λ (w : Waiting). IsOther a.fates with_refused.phases a.dead w.client w.call)
              (λ w o h. other-on a.fates a.fates a.phases with_refused.phases a.dead a.dead w.client w.call
              (λ u of k. elim k [ inl x ↦ inl (x.0, still w u of (not-true (is_of_part client t w) o) x.0 x.1 (same_join j x.0) refl) | inr d ↦ inr d ]) (λ u of k. k) h) (without (is_of_part client t) a.waits)
              (passing (λ w. not (is_of_part client t w)) a.waits) (all-filter (λ (w : Waiting). IsOther a.fates a.phases a.dead w.client w.call) (λ w. not (is_of_part client t w)) a.waits q.tells.others);
          came = all-filter (λ (w : Waiting). HasCome w.number (a.sessions w.client)) (λ w. not (is_of_part client t w)) a.waits q.tells.came;
          apart = apart-filter (λ w. not (is_of_part client t w)) a.waits q.tells.apart;
          joining = moved_each (λ k p. HasWaits with_refused.waits p) a.phases j phase.quit
              (λ k away. waits-without (is_of_part client t) a.waits (a.phases k) (λ u d name is. all-of (λ w. is_of_part d u w ≡ true → is_of_part client t w ≡ false) (λ w of. other k away u d name is w of (is_of_part client t w) refl) a.waits) (q.tells.joining k))
              (subst (HasWaits with_refused.waits) (sym over) tt);
          finishing = λ u. calls-without (is_of_part client t) a.waits u (a.fates u) (q.tells.finishing u);
        }
      where
        still : (w : Waiting) (u : TransId) → part_trans w.call ≡ Some u → is_of_part client t w ≡ false → (k : JoinNo) → is_whose w.client u (open_in (a.phases k)) ≡ true → (b : Bool) → same_join j k ≡ b → is_whose w.client u (open_in (with_refused.phases k)) ≡ true
        still w u of off k h false e = ap (λ (b : Bool). is_whose w.client u (open_in (cond {A = Phase} b (phase.quit (a.phases k)) (a.phases k)))) e ∙ h
        still w u of off k h true e =
            let its : (same_trans t u && client == w.client) ≡ true = ap (λ (p : Phase). is_whose w.client u (open_in p)) (sym asks) ∙ ap (λ (i : JoinNo). is_whose w.client u (open_in (a.phases i))) (same_join-true j k e) ∙ h in
            let both = and_parts (same_trans t u) (client == w.client) its in
            let mine : is_of_part client t w ≡ true = (λ i. eq-eqb w.client client (sym (eqb-true client w.client both.1)) i && is_of t (of i)) ∙ ap (λ (v : TransId). same_trans v t) (sym (same_trans-true t u both.0)) ∙ same_trans-itself t in
            let wrong : false ≡ true = sym off ∙ mine in
            cc

        -- another join that asks is of another client or transaction
        other : (k : JoinNo) → same_join j k ≡ false → (u : TransId) (d : ℕ) (name : List ℕ) → a.phases k ≡ Joining u d name → (w : Waiting) → is_of_part d u w ≡ true → (b : Bool) → is_of_part client t w ≡ b → b ≡ false
        other k away u d name is w of false e = refl
        other k away u d name is w of true e =
            let its = and_parts (w.client == d) (is_of u (part_trans w.call)) of in
            let mine = and_parts (w.client == client) (is_of t (part_trans w.call)) e in
            absurd (one (part_trans w.call) its.1 mine.1 (sym (eqb-true w.client d its.0) ∙ eqb-true w.client client mine.0))
          where
            one : (x : Option TransId) → is_of u x ≡ true → is_of t x ≡ true → d ≡ client → ⊥
            one None m i own = let wrong : false ≡ true = m in cc
            one (Some v) m i own =
                let same : u ≡ t = sym (same_trans-true v u m) ∙ same_trans-true v t i in
                let twin : j ≡ k = q.stands.single j k (t, client) (ap live_in asks) (ap live_in is ∙ (λ i. Some (same i, own i))) in
                let wrong : true ≡ false = sym (same_join-itself k) ∙ ap (λ (x : JoinNo). same_join x k) (sym twin) ∙ away in
                cc

    pub refused_leads : IsQuiet a → a.is_down ≡ false → a.phases j ≡ Joining t client who → Leads false a (arrive_entry a from (msg.JoinRefused t j) []) with_refused
    refused_leads q up asks =
        let over : phase.quit (a.phases j) ≡ Over = ap phase.quit asks in
        let known : IsPhaseOf a.servers a.holder.server a.ids.epoch a.ids.joins a.joined j (Joining t client who) = subst (IsPhaseOf a.servers a.holder.server a.ids.epoch a.ids.joins a.joined j) asks (q.settled.stands.phases j) in
        let stood : Stands (record a { phases = with_refused.phases }) = stands_quit a q.settled.stands j t client who asks phase.quit (subst IsSpent (sym over) spent_over)
        (subst (IsPhaseOf a.servers a.holder.server a.ids.epoch a.ids.joins a.joined j) (sym over) known.0) in
        arrive_leads a from (msg.JoinRefused t j) false [] (Quits j t client None ∷ []) with_refused (record {
          up = refl;
          running = up;
          brought = ap (λ (ds : List Deed). ds ++ [] ++ []) (ap (refused_join j t) asks ∙ ap (λ (b : Bool). cond {A = List Deed} b (Quits j t client None ∷ []) []) (same_trans-itself t));
          left = λ i. state_of (record with_refused { begun = append-nil a.begun i; joined = append-nil a.joined i; is_down = sym up i; pending = sym (none_tried a q up) i });
          drawn = refl;
          deeds = (record { counts = tt; view = tt; locks = tt; running = tt; registration = tt; vote = tt; decision = tt; application = tt; forgetting = tt }, tt);
          released = sym (ap (λ (p : Phase). ended_join t p ++ []) asks);
          granted = refl;
          said = tt;
          regained = refl;
          quiet = record {
            settled = record { stands = stands_as (record a { phases = with_refused.phases }) a.sessions with_refused.waits a.dead a.is_down a.pending stood; tells = refused_tells q.settled asks };
            turns = turns-without (is_of_part client t) (state_of a) (state_of with_refused) refl refl q.turns;
            tried = HasTried.nothing (none_tried a q up);
          };
          mail = no_mail [] refl refl;
          applied = tt;
          turns = tt;
        })
