-- what a coordinator answers is what a journal says, where it knows of each transaction what the journal says
use Rattle.std.specs.Prelude.{cond, Bool, true, false, not, ◌==◌, ◌&&◌, ◌||◌, Option, None, Some, map as list_map}
use Rattle.std.specs.List.{list_any, list_all}
use Rattle.std.proofs.Common.{◌≡◌, ℕ, List, [], ◌∷◌, ◌++◌, refl, sym, ◌∙◌, ap, subst}
use Rattle.alp_base.specs.declared.ids.JoinNo.{JoinNo}
use Rattle.alp_base.specs.declared.ids.TransId.{TransId}
use Rattle.alp_base.specs.declared.ids.Stamp.{Stamp}
use Rattle.alp_files.specs.declared.refusal.Cause.{Cause}
use Rattle.alp_files.specs.declared.refusal.Cause.TheVariants as cause
use Rattle.alp_files.specs.declared.refusal.Why.{Why}
use Rattle.alp_journal.specs.declared.message.Message.{Message}
use Rattle.alp_journal.specs.declared.message.Message.TheVariants as msg
use Rattle.alp_journal.specs.Along.{Where}
use Rattle.alp_journal.specs.Ids.{same_trans, same_join, has_join, has_server}
use Rattle.alp_journal.specs.Deeds.{Deed, Begins, Joins, Enters, Quits, Aborts, Grants, Performs, Releases, Readies, Applies, Registers, Finishes, Hears, Decides, Ends, Acknowledges, Forgets, Restarts}
use Rattle.alp_journal.specs.Coordinator.{Fate, Undrawn, Running, Finishing, Committed, Forgotten, Ended, Vote, voted, with_vote, has_votes, joins_of, client_of, is_running, has_all, fate_after, registered, finishing as finishes, heard, decided, ended, acknowledged}
use Rattle.alp_journal.specs.Laws.{latest_vote, ending_of}
use Rattle.alp_journal.specs.Messages.{Mail, to_each, may_join, on_register, on_inquire, on_ready, own_vote, on_no, on_timeout, ask_again, commit_again, has_all_votes}
use Rattle.alp_journal.specs.Answers.{is_counted}
use Rattle.alp_journal.specs.State.{State, is_trans_drawn, is_other_server}
use Rattle.alp_coord.specs.declared.answers.Registration.{Registration}
use Rattle.alp_coord.specs.declared.answers.Registration.TheVariants as registration
use Rattle.alp_coord.specs.declared.answers.Ballot.{Ballot}
use Rattle.alp_coord.specs.declared.answers.Ballot.TheVariants as ballot
use Rattle.alp_coord.specs.Likeness.{AreLikeVotes, AreLikeDones, IsLike, same, finishing, committed, is_over, IsLikeOld, standing, nothing, IsFateOf}
use Rattle.alp_journal.specs.Coordinator as journal
use Rattle.alp_coord.specs.Coordinators.{is_other, admitted, registration_of, ballot_of, inquiry_of, ending_at, is_applied, forgotten_as, forgotten_fate}
use Rattle.alp_coord.proofs.LikeLemmas.{like-after, like-counted, old-counted, like-inquiry, old-inquiry, like-ending, old-ending, like-asks, old-asks, like-commits, old-commits, like-ballot, like-registration, like-joins, like-client, all_done_alike}

-- ---- in the words of a state

-- what is said to a part that asks to take part
abbrev pub mail_for : Registration → TransId → JoinNo → List Mail
mail_for registration.Silence t j = []
mail_for registration.Registered t j = (j.server, msg.Joined t j) ∷ []
mail_for registration.Known t j = (j.server, msg.Joined t j) ∷ []
mail_for registration.Refused t j = (j.server, msg.JoinRefused t j) ∷ []

admitted_mail : (a b x y : Bool) (t : TransId) (j : JoinNo) → cond {A = List Mail} (a && b && (x || not y)) ((j.server, msg.Joined t j) ∷ []) ((j.server, msg.JoinRefused t j) ∷ [])
    ≡ mail_for (cond {A = Registration} (a && b) (admitted x y) registration.Refused) t j
admitted_mail true true true y t j = refl
admitted_mail true true false true t j = refl
admitted_mail true true false false t j = refl
admitted_mail true false x y t j = refl
admitted_mail false b x y t j = refl

let_in : (s : State) (t : TransId) (j : JoinNo) (client : ℕ) (f : Fate) → cond {A = List Mail} (may_join s j client f) ((j.server, msg.Joined t j) ∷ []) ((j.server, msg.JoinRefused t j) ∷ [])
    ≡ mail_for (registration_of (is_other s.holder.server s.servers j.server) j client f) t j
let_in s t j client Undrawn = refl
let_in s t j client (Running c js) = admitted_mail (c == client) (is_other s.holder.server s.servers j.server) (has_join j js) (has_server j.server js) t j
let_in s t j client (Finishing c js vs) = refl
let_in s t j client (Committed stamp js ds) = refl
let_in s t j client (Forgotten stamp js) = refl
let_in s t j client (Ended e) = refl

pub register-mail : (s : State) (t : TransId) (j : JoinNo) (client : ℕ) → on_register s t j client
    ≡ mail_for (cond {A = Registration} (is_trans_drawn s t) (registration_of (is_other s.holder.server s.servers j.server) j client (s.fates t)) registration.Silence) t j
register-mail s t j client = go (is_trans_drawn s t)
  where
    go : (b : Bool) → cond {A = List Mail} (not b) [] (cond {A = List Mail} (may_join s j client (s.fates t)) ((j.server, msg.Joined t j) ∷ []) ((j.server, msg.JoinRefused t j) ∷ []))
        ≡ mail_for (cond {A = Registration} b (registration_of (is_other s.holder.server s.servers j.server) j client (s.fates t)) registration.Silence) t j
    go true = let_in s t j client (s.fates t)
    go false = refl

-- what is said to a part that asks how it ended
abbrev pub mail_to : JoinNo → Option Message → List Mail
mail_to j None = []
mail_to j (Some m) = (j.server, m) ∷ []

one_mail : (b : Bool) (j : JoinNo) (m : Message) → cond {A = List Mail} b ((j.server, m) ∷ []) [] ≡ mail_to j (cond {A = Option Message} b (Some m) None)
one_mail true j m = refl
one_mail false j m = refl

pub inquiry-mail : (s : State) (t : TransId) (j : JoinNo) (f : Fate) → on_inquire s t j f ≡ mail_to j (inquiry_of s.ids.epoch t j f)
inquiry-mail s t j Undrawn = refl
inquiry-mail s t j (Running client js) = refl
inquiry-mail s t j (Finishing client js vs) = refl
inquiry-mail s t j (Committed stamp [] ds) = go (t.epoch == s.ids.epoch)
  where
    go : (b : Bool) → cond {A = List Mail} b [] ((j.server, msg.Abort t j (cause.Lost s.ids.epoch)) ∷ []) ≡ mail_to j (cond {A = Option Message} b None (Some (msg.Abort t j (cause.Lost s.ids.epoch))))
    go true = refl
    go false = refl
inquiry-mail s t j (Committed stamp (k ∷ js) ds) = one_mail (has_join j (k ∷ js)) j (msg.Commit t j stamp)
inquiry-mail s t j (Forgotten stamp js) = go (t.epoch == s.ids.epoch)
  where
    go : (b : Bool) → cond {A = List Mail} b (cond {A = List Mail} (has_join j js) ((j.server, msg.Commit t j stamp) ∷ []) []) ((j.server, msg.Abort t j (cause.Lost s.ids.epoch)) ∷ [])
        ≡ mail_to j (cond {A = Option Message} b (cond {A = Option Message} (has_join j js) (Some (msg.Commit t j stamp)) None) (Some (msg.Abort t j (cause.Lost s.ids.epoch))))
    go true = one_mail (has_join j js) j (msg.Commit t j stamp)
    go false = refl
inquiry-mail s t j (Ended e) = refl

-- how a transaction stands
pub ending-state : (s : State) (t : TransId) (f : Fate) → ending_of s t f ≡ ending_at s.ids.epoch t f
ending-state s t Undrawn = refl
ending-state s t (Running client js) = refl
ending-state s t (Finishing client js vs) = refl
ending-state s t (Committed stamp [] ds) = refl
ending-state s t (Committed stamp (j ∷ js) ds) = refl
ending-state s t (Forgotten stamp js) = refl
ending-state s t (Ended e) = refl

-- what is said as a vote arrives
abbrev pub is_last : Ballot → Bool
is_last (ballot.Last latest) = true
is_last b = false

last_ballot : (a b : Bool) (n : ℕ) → is_last (cond {A = Ballot} a (cond {A = Ballot} b (ballot.Last n) ballot.Kept) ballot.Dropped) ≡ (a && b)
last_ballot true true n = refl
last_ballot true false n = refl
last_ballot false b n = refl

pub ready-mail : (s m : State) (t : TransId) (j : JoinNo) (ts least : ℕ) (w : Option Why) (f : Fate) → on_ready s m t j ts w f ≡ cond {A = List Mail} (is_last (ballot_of j ts least f)) (own_vote s m t (joins_of f) w) []
ready-mail s m t j ts least w Undrawn = refl
ready-mail s m t j ts least w (Running client js) = refl
ready-mail s m t j ts least w (Finishing client js vs) =
    ap (λ (b : Bool). cond {A = List Mail} b (own_vote s m t js w) [])
    (sym (last_ballot (has_join j js) (list_all (λ k. voted k (with_vote j ts vs)) js) (latest_vote least (with_vote j ts vs))))
ready-mail s m t j ts least w (Committed stamp js ds) = refl
ready-mail s m t j ts least w (Forgotten stamp js) = refl
ready-mail s m t j ts least w (Ended e) = refl

-- ---- what is known of a transaction stays so

like-trans : (f g h : Fate) → IsLike f g → IsLike g h → IsLike f h
like-trans f g h (same x) k = k
like-trans f g h l (same x) = l
like-trans _ _ _ (finishing client js vs ws h) (finishing _ _ _ xs k) = finishing client js vs xs (record { who = λ j. h.who j ∙ k.who j; latest = λ n. h.latest n ∙ k.latest n })
like-trans _ _ _ (committed stamp js ds es h) (committed _ _ _ fs k) = committed stamp js ds fs (record { who = λ j. h.who j ∙ k.who j })

-- deeds by which none begins or is forgotten
abbrev pub is_plain : Deed → Bool
is_plain (Begins t client who seen) = false
is_plain (Forgets t) = false
is_plain (Restarts epoch clock) = false
is_plain d = true

-- ---- the answers

pub known-counted : (epoch : ℕ) (t : TransId) (known fate : Fate) → IsFateOf epoch t known fate → is_counted known ≡ is_counted fate
known-counted epoch t known fate h = go (t.epoch == epoch) h
  where
    go : (b : Bool) → Where b (IsLike known fate) (IsLikeOld known fate) → is_counted known ≡ is_counted fate
    go true k = like-counted known fate k
    go false k = old-counted known fate k

pub known-asks : (epoch : ℕ) (t : TransId) (known fate : Fate) → IsFateOf epoch t known fate → ask_again t known ≡ ask_again t fate
known-asks epoch t known fate h = go (t.epoch == epoch) h
  where
    go : (b : Bool) → Where b (IsLike known fate) (IsLikeOld known fate) → ask_again t known ≡ ask_again t fate
    go true k = like-asks t known fate k
    go false k = old-asks t known fate k

pub known-commits : (epoch : ℕ) (t : TransId) (known fate : Fate) → IsFateOf epoch t known fate → commit_again t known ≡ commit_again t fate
known-commits epoch t known fate h = go (t.epoch == epoch) h
  where
    go : (b : Bool) → Where b (IsLike known fate) (IsLikeOld known fate) → commit_again t known ≡ commit_again t fate
    go true k = like-commits t known fate k
    go false k = old-commits t known fate k

pub known-inquiry : (epoch : ℕ) (t : TransId) (j : JoinNo) (known fate : Fate) → IsFateOf epoch t known fate → inquiry_of epoch t j known ≡ inquiry_of epoch t j fate
known-inquiry epoch t j known fate h = go (t.epoch == epoch) refl h
  where
    go : (b : Bool) → (t.epoch == epoch) ≡ b → Where b (IsLike known fate) (IsLikeOld known fate) → inquiry_of epoch t j known ≡ inquiry_of epoch t j fate
    go true e k = like-inquiry epoch t j known fate k
    go false e k = old-inquiry epoch t j known fate e k

pub known-ending : (epoch : ℕ) (t : TransId) (known fate : Fate) → IsFateOf epoch t known fate → ending_at epoch t known ≡ ending_at epoch t fate
known-ending epoch t known fate h = go (t.epoch == epoch) refl h
  where
    go : (b : Bool) → (t.epoch == epoch) ≡ b → Where b (IsLike known fate) (IsLikeOld known fate) → ending_at epoch t known ≡ ending_at epoch t fate
    go true e k = like-ending epoch t known fate k
    go false e k = old-ending epoch t known fate e k

-- one that runs or finishes is of this epoch, and is known as such
over_registration : (other : Bool) (j : JoinNo) (client : ℕ) (f : Fate) → is_over f ≡ true → registration_of other j client f ≡ registration.Refused
over_registration other j client Undrawn over = refl
over_registration other j client (Running c js) over = cc
over_registration other j client (Finishing c js vs) over = cc
over_registration other j client (Committed stamp js ds) over = refl
over_registration other j client (Forgotten stamp js) over = refl
over_registration other j client (Ended e) over = refl

old_registration : (other : Bool) (j : JoinNo) (client : ℕ) (f g : Fate) → IsLikeOld f g → registration_of other j client f ≡ registration_of other j client g
old_registration other j client _ _ (standing stamp k js ds es h) = refl
old_registration other j client _ _ (nothing f over) = sym (over_registration other j client f over)

pub known-registration : (epoch : ℕ) (t : TransId) (other : Bool) (j : JoinNo) (client : ℕ) (known fate : Fate) → IsFateOf epoch t known fate → registration_of other j client known ≡ registration_of other j client fate
known-registration epoch t other j client known fate h = go (t.epoch == epoch) h
  where
    go : (b : Bool) → Where b (IsLike known fate) (IsLikeOld known fate) → registration_of other j client known ≡ registration_of other j client fate
    go true k = like-registration other j client known fate k
    go false k = old_registration other j client known fate k

over_ballot : (j : JoinNo) (ts least : ℕ) (f : Fate) → is_over f ≡ true → ballot_of j ts least f ≡ ballot.Dropped
over_ballot j ts least Undrawn over = refl
over_ballot j ts least (Running c js) over = cc
over_ballot j ts least (Finishing c js vs) over = cc
over_ballot j ts least (Committed stamp js ds) over = refl
over_ballot j ts least (Forgotten stamp js) over = refl
over_ballot j ts least (Ended e) over = refl

old_ballot : (j : JoinNo) (ts least : ℕ) (f g : Fate) → IsLikeOld f g → ballot_of j ts least f ≡ ballot_of j ts least g
old_ballot j ts least _ _ (standing stamp k js ds es h) = refl
old_ballot j ts least _ _ (nothing f over) = sym (over_ballot j ts least f over)

pub known-ballot : (epoch : ℕ) (t : TransId) (j : JoinNo) (ts least : ℕ) (known fate : Fate) → IsFateOf epoch t known fate → ballot_of j ts least known ≡ ballot_of j ts least fate
known-ballot epoch t j ts least known fate h = go (t.epoch == epoch) h
  where
    go : (b : Bool) → Where b (IsLike known fate) (IsLikeOld known fate) → ballot_of j ts least known ≡ ballot_of j ts least fate
    go true k = like-ballot j ts least known fate k
    go false k = old_ballot j ts least known fate k

-- ---- and stays so by each deed

like_old : (f g h : Fate) → IsLike f g → IsLikeOld g h → IsLikeOld f h
like_old f g h (same x) k = k
like_old _ _ h (finishing client js vs ws _) k = elim k [ ]
like_old _ _ _ (committed stamp _ ds _ h) (standing _ j js es fs k) = standing stamp j js ds fs (record { who = λ x. h.who x ∙ k.who x })

old_if : (b : Bool) (f g x y : Fate) → IsLikeOld f g → IsLikeOld x y → IsLikeOld (cond {A = Fate} b f x) (cond {A = Fate} b g y)
old_if true f g x y h k = h
old_if false f g x y h k = k

module _ (u t : TransId) where
  -- a decision that stands does so still
  stays : (stamp : Stamp) (k : JoinNo) (js ds es : List JoinNo) → AreLikeDones ds es
      → IsLikeOld (cond {A = Fate} (same_trans u t) (Committed stamp (k ∷ js) ds) (Committed stamp (k ∷ js) ds)) (cond {A = Fate} (same_trans u t) (Committed stamp (k ∷ js) es) (Committed stamp (k ∷ js) es))
  stays stamp k js ds es h = old_if (same_trans u t) (Committed stamp (k ∷ js) ds) (Committed stamp (k ∷ js) es) (Committed stamp (k ∷ js) ds) (Committed stamp (k ∷ js) es) (standing stamp k js ds es h) (standing stamp k js ds es h)

  -- and what is over is so still
  rests : (f g : Fate) → is_over f ≡ true → is_over g ≡ true → IsLikeOld (cond {A = Fate} (same_trans u t) Undrawn Undrawn) (cond {A = Fate} (same_trans u t) f g)
  rests f g h k = old_if (same_trans u t) Undrawn f Undrawn g (nothing f h) (nothing g k)

over_registered : (j : JoinNo) (f : Fate) → is_over f ≡ true → is_over (registered j f) ≡ true
over_registered j Undrawn over = refl
over_registered j (Running c js) over = cc
over_registered j (Finishing c js vs) over = cc
over_registered j (Committed stamp js ds) over = over
over_registered j (Forgotten stamp js) over = refl
over_registered j (Ended e) over = refl

over_finishing : (f : Fate) → is_over f ≡ true → is_over (finishes f) ≡ true
over_finishing Undrawn over = refl
over_finishing (Running c js) over = cc
over_finishing (Finishing c js vs) over = cc
over_finishing (Committed stamp js ds) over = over
over_finishing (Forgotten stamp js) over = refl
over_finishing (Ended e) over = refl

over_heard : (j : JoinNo) (ts : ℕ) (f : Fate) → is_over f ≡ true → is_over (heard j ts f) ≡ true
over_heard j ts Undrawn over = refl
over_heard j ts (Running c js) over = cc
over_heard j ts (Finishing c js vs) over = cc
over_heard j ts (Committed stamp js ds) over = over
over_heard j ts (Forgotten stamp js) over = refl
over_heard j ts (Ended e) over = refl

over_decided : (x : Stamp) (ks : List JoinNo) (f : Fate) → is_over f ≡ true → is_over (decided x ks f) ≡ true
over_decided x ks Undrawn over = refl
over_decided x ks (Running c js) over = cc
over_decided x ks (Finishing c js vs) over = cc
over_decided x ks (Committed stamp js ds) over = over
over_decided x ks (Forgotten stamp js) over = refl
over_decided x ks (Ended e) over = refl

over_ended : (e : Cause) (f : Fate) → is_over f ≡ true → is_over (ended e f) ≡ true
over_ended e Undrawn over = refl
over_ended e (Running c js) over = cc
over_ended e (Finishing c js vs) over = cc
over_ended e (Committed stamp js ds) over = over
over_ended e (Forgotten stamp js) over = refl
over_ended e (Ended d) over = refl

over_acknowledged : (j : JoinNo) (f : Fate) → is_over f ≡ true → is_over (acknowledged j f) ≡ true
over_acknowledged j Undrawn over = refl
over_acknowledged j (Running c js) over = cc
over_acknowledged j (Finishing c js vs) over = cc
over_acknowledged j (Committed stamp [] ds) over = refl
over_acknowledged j (Committed stamp (k ∷ js) ds) over = cc
over_acknowledged j (Forgotten stamp js) over = refl
over_acknowledged j (Ended e) over = refl

old-after : (d : Deed) (t : TransId) (f g : Fate) → is_plain d ≡ true → IsLikeOld f g → IsLikeOld (fate_after d t f) (fate_after d t g)
old-after (Begins u c who seen) t f g plain h = cc
old-after (Forgets u) t f g plain h = cc
old-after (Restarts epoch clock) t f g plain h = cc
old-after (Registers u j) t _ _ plain (standing stamp k js ds es h) = stays u t stamp k js ds es h
old-after (Registers u j) t _ _ plain (nothing f over) = rests u t (registered j f) f (over_registered j f over) over
old-after (Finishes u) t _ _ plain (standing stamp k js ds es h) = stays u t stamp k js ds es h
old-after (Finishes u) t _ _ plain (nothing f over) = rests u t (finishes f) f (over_finishing f over) over
old-after (Hears u j ts) t _ _ plain (standing stamp k js ds es h) = stays u t stamp k js ds es h
old-after (Hears u j ts) t _ _ plain (nothing f over) = rests u t (heard j ts f) f (over_heard j ts f over) over
old-after (Decides x ks) t _ _ plain (standing stamp k js ds es h) = stays x.trans t stamp k js ds es h
old-after (Decides x ks) t _ _ plain (nothing f over) = rests x.trans t (decided x ks f) f (over_decided x ks f over) over
old-after (Ends u c e) t _ _ plain (standing stamp k js ds es h) = stays u t stamp k js ds es h
old-after (Ends u c e) t _ _ plain (nothing f over) = rests u t (ended e f) f (over_ended e f over) over
old-after (Acknowledges u j) t _ _ plain (standing stamp k js ds es h) =
    old_if (same_trans u t) (Committed stamp (k ∷ js) (j ∷ ds)) (Committed stamp (k ∷ js) (j ∷ es)) (Committed stamp (k ∷ js) ds) (Committed stamp (k ∷ js) es)
    (standing stamp k js (j ∷ ds) (j ∷ es) (record { who = λ x. ap (λ (b : Bool). same_join j x || b) (h.who x) })) (standing stamp k js ds es h)
old-after (Acknowledges u j) t _ _ plain (nothing f over) = rests u t (acknowledged j f) f (over_acknowledged j f over) over
old-after (Joins j u c who) t f g plain h = h
old-after (Enters j u c who) t f g plain h = h
old-after (Quits j u c e) t f g plain h = h
old-after (Aborts j u c e) t f g plain h = h
old-after (Grants u c) t f g plain h = h
old-after (Performs u p) t f g plain h = h
old-after (Releases u) t f g plain h = h
old-after (Readies j u ts) t f g plain h = h
old-after (Applies j x) t f g plain h = h

pub known-after : (epoch : ℕ) (d : Deed) (t : TransId) (known after fate : Fate) → is_plain d ≡ true → IsFateOf epoch t known fate → IsLike after (fate_after d t known) → IsFateOf epoch t after (fate_after d t fate)
known-after epoch d t known after fate plain h l = go (t.epoch == epoch) h
  where
    go : (b : Bool) → Where b (IsLike known fate) (IsLikeOld known fate) → Where b (IsLike after (fate_after d t fate)) (IsLikeOld after (fate_after d t fate))
    go true k = like-trans after (fate_after d t known) (fate_after d t fate) l (like-after d t known fate k)
    go false k = like_old after (fate_after d t known) (fate_after d t fate) l (old-after d t known fate plain k)

-- one that is forgotten
forgotten_now : (known fate : Fate) → is_applied known ≡ true → IsLike known fate → IsLike (forgotten_as true known) (journal.forgotten fate)
forgotten_now Undrawn fate applied h = cc
forgotten_now (Running c js) fate applied h = cc
forgotten_now (Finishing c js vs) fate applied h = cc
forgotten_now (Committed stamp [] ds) fate applied h = cc
forgotten_now (Committed stamp (j ∷ js) ds) _ applied (same _) =
    subst (λ (b : Bool). IsLike (Forgotten stamp (j ∷ js)) (cond {A = Fate} b (Forgotten stamp (j ∷ js)) (Committed stamp (j ∷ js) ds))) (sym applied) (same (Forgotten stamp (j ∷ js)))
forgotten_now (Committed stamp (j ∷ js) ds) _ applied (committed _ _ _ es h) =
    subst (λ (b : Bool). IsLike (Forgotten stamp (j ∷ js)) (cond {A = Fate} b (Forgotten stamp (j ∷ js)) (Committed stamp (j ∷ js) es))) (sym applied ∙ all_done_alike (j ∷ js) ds es h) (same (Forgotten stamp (j ∷ js)))
forgotten_now (Forgotten stamp js) fate applied h = cc
forgotten_now (Ended e) fate applied h = cc

forgotten_old : (known fate : Fate) → is_applied known ≡ true → IsLikeOld known fate → IsLikeOld (forgotten_as false known) (journal.forgotten fate)
forgotten_old _ _ applied (standing stamp j js ds es h) =
    subst (λ (b : Bool). IsLikeOld Undrawn (cond {A = Fate} b (Forgotten stamp (j ∷ js)) (Committed stamp (j ∷ js) es))) (sym applied ∙ all_done_alike (j ∷ js) ds es h) (nothing (Forgotten stamp (j ∷ js)) refl)
forgotten_old _ _ applied (nothing f over) = cc

pub known-forgotten : (epoch : ℕ) (u t : TransId) (known fate : Fate) → (same_trans u t ≡ true → is_applied known ≡ true) → IsFateOf epoch t known fate
    → IsFateOf epoch t (cond {A = Fate} (same_trans u t) (forgotten_fate (t.epoch == epoch) known) known) (fate_after (Forgets u) t fate)
known-forgotten epoch u t known fate applied h = here (same_trans u t) refl
  where
    go : (b : Bool) → is_applied known ≡ true → Where b (IsLike known fate) (IsLikeOld known fate) → Where b (IsLike (forgotten_fate b known) (journal.forgotten fate)) (IsLikeOld (forgotten_fate b known) (journal.forgotten fate))
    go true a k = subst (λ (b : Bool). IsLike (cond {A = Fate} b (forgotten_as true known) known) (journal.forgotten fate)) (sym a) (forgotten_now known fate a k)
    go false a k = subst (λ (b : Bool). IsLikeOld (cond {A = Fate} b (forgotten_as false known) known) (journal.forgotten fate)) (sym a) (forgotten_old known fate a k)

    here : (c : Bool) → same_trans u t ≡ c → IsFateOf epoch t (cond {A = Fate} c (forgotten_fate (t.epoch == epoch) known) known) (cond {A = Fate} c (journal.forgotten fate) fate)
    here true e = go (t.epoch == epoch) (applied e) h
    here false e = h
