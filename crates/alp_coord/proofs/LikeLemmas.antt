-- what is like a fate is answered alike, and stays like it whatever comes about
use Rattle.std.specs.Prelude.{cond, Bool, true, false, not, ◌==◌, ◌&&◌, ◌||◌, max, filter, Option, None, Some, map as list_map}
use Rattle.std.specs.List.{list_any, list_all}
use Rattle.std.proofs.Common.{◌≡◌, ℕ, List, [], ◌∷◌, ◌++◌, refl, sym, ◌∙◌, ap, subst}
use Rattle.alp_base.specs.declared.ids.JoinNo.{JoinNo}
use Rattle.alp_base.specs.declared.ids.TransId.{TransId}
use Rattle.alp_base.specs.declared.ids.Stamp.{Stamp}
use Rattle.alp_files.specs.declared.refusal.Cause.{Cause}
use Rattle.alp_files.specs.declared.refusal.Cause.TheVariants as cause
use Rattle.alp_files.specs.declared.reply.Ended.TheVariants as ending
use Rattle.alp_journal.specs.declared.message.Message.TheVariants as msg
use Rattle.alp_coord.specs.declared.answers.Ballot.TheVariants as ballot
use Rattle.alp_coord.specs.declared.answers.Receipt.TheVariants as receipt
use Rattle.alp_files.specs.declared.reply.Ended.{Ended as Ending}
use Rattle.alp_journal.specs.declared.message.Message.{Message}
use Rattle.alp_journal.specs.Along.{Where}
use Rattle.alp_journal.specs.Ids.{same_trans, same_join, has_join, has_server}
use Rattle.alp_journal.specs.Deeds.{Deed, Begins, Joins, Enters, Quits, Aborts, Grants, Performs, Releases, Readies, Applies, Registers, Finishes, Hears, Decides, Ends, Acknowledges, Forgets, Restarts}
use Rattle.alp_journal.specs.Coordinator.{Fate, Undrawn, Running, Finishing, Committed, Forgotten, Ended, Vote, voted, with_vote, has_votes, joins_of, client_of, is_running, has_all, fate_after}
use Rattle.alp_journal.specs.Laws.{latest_vote, ending_of}
use Rattle.alp_journal.specs.Messages.{Mail, to_each, may_join, on_register, on_inquire, on_finish, on_timeout, on_no, ask_again, commit_again, has_all_votes}
use Rattle.alp_journal.specs.Answers.{is_counted}
use Rattle.alp_journal.specs.State.{State}
use Rattle.alp_coord.specs.declared.answers.Ballot.{Ballot}
use Rattle.alp_coord.specs.declared.answers.Receipt.{Receipt}
use Rattle.alp_coord.specs.declared.answers.Registration.{Registration}
use Rattle.alp_coord.specs.Likeness.{AreLikeVotes, AreLikeDones, IsLike, same, finishing, committed, is_over, IsLikeOld, standing, nothing, IsFateOf}
use Rattle.alp_coord.specs.Coordinators.{registration_of, ballot_of, receipt_of, abort_for, commit_for, inquiry_of, ending_at}
use Rattle.alp_coord.proofs.MemberLemmas.{voted-with_vote, latest-append}

-- ---- lists that are alike

all_alike : (p q : JoinNo → Bool) → ((j : JoinNo) → p j ≡ q j) → (js : List JoinNo) → list_all p js ≡ list_all q js
all_alike p q alike [] = refl
all_alike p q alike (j ∷ js) = λ i. alike j i && all_alike p q alike js i

filter_alike : (p q : JoinNo → Bool) → ((j : JoinNo) → p j ≡ q j) → (js : List JoinNo) → filter p js ≡ filter q js
filter_alike p q alike [] = refl
filter_alike p q alike (j ∷ js) = λ i. cond {A = List JoinNo} (alike j i) (j ∷ filter_alike p q alike js i) (filter_alike p q alike js i)

latest_again : (j : JoinNo) (ts n : ℕ) (vs : List Vote) → latest_vote n (with_vote j ts vs) ≡ cond {A = ℕ} (voted j vs) (latest_vote n vs) (max (latest_vote n vs) ts)
latest_again j ts n vs = go (voted j vs)
  where
    go : (b : Bool) → latest_vote n (cond {A = List Vote} b vs (vs ++ (j, ts) ∷ [])) ≡ cond {A = ℕ} b (latest_vote n vs) (max (latest_vote n vs) ts)
    go true = refl
    go false = latest-append n ts j vs

pub votes_with : (j : JoinNo) (ts : ℕ) (vs ws : List Vote) → AreLikeVotes vs ws → AreLikeVotes (with_vote j ts vs) (with_vote j ts ws)
votes_with j ts vs ws h = record {
  who = λ k. voted-with_vote j k ts vs ∙ ap (λ (b : Bool). same_join j k || b) (h.who k) ∙ sym (voted-with_vote j k ts ws);
  latest = λ n. latest_again j ts n vs ∙ (λ i. cond {A = ℕ} (h.who j i) (h.latest n i) (max (h.latest n i) ts)) ∙ sym (latest_again j ts n ws);
}

dones_with : (j : JoinNo) (ds es : List JoinNo) → AreLikeDones ds es → AreLikeDones (j ∷ ds) (j ∷ es)
dones_with j ds es h = record { who = λ k. ap (λ (b : Bool). same_join j k || b) (h.who k) }

pub all_done_alike : (js ds es : List JoinNo) → AreLikeDones ds es → has_all ds js ≡ has_all es js
all_done_alike js ds es h = all_alike (λ j. has_join j ds) (λ j. has_join j es) (λ j. h.who j) js

-- ---- whatever comes about

like_if : (b : Bool) (f g x y : Fate) → IsLike f g → IsLike x y → IsLike (cond {A = Fate} b f x) (cond {A = Fate} b g y)
like_if true f g x y h k = h
like_if false f g x y h k = k

forgotten_alike : (a b : Bool) → a ≡ b → (stamp : Stamp) (js ds es : List JoinNo) → AreLikeDones ds es → IsLike (cond {A = Fate} a (Forgotten stamp js) (Committed stamp js ds)) (cond {A = Fate} b (Forgotten stamp js) (Committed stamp js es))
forgotten_alike true true e stamp js ds es h = same (Forgotten stamp js)
forgotten_alike false false e stamp js ds es h = committed stamp js ds es h
forgotten_alike true false e stamp js ds es h = cc
forgotten_alike false true e stamp js ds es h = cc

pub like-after : (d : Deed) (t : TransId) (f g : Fate) → IsLike f g → IsLike (fate_after d t f) (fate_after d t g)
like-after d t f g (same h) = same (fate_after d t h)
like-after (Begins u c who seen) t _ _ (finishing client js vs ws h) = like_if (same_trans u t) _ _ _ _ (finishing client js vs ws h) (finishing client js vs ws h)
like-after (Registers u j) t _ _ (finishing client js vs ws h) = like_if (same_trans u t) _ _ _ _ (finishing client js vs ws h) (finishing client js vs ws h)
like-after (Finishes u) t _ _ (finishing client js vs ws h) = like_if (same_trans u t) _ _ _ _ (finishing client js vs ws h) (finishing client js vs ws h)
like-after (Hears u j ts) t _ _ (finishing client js vs ws h) = like_if (same_trans u t) _ _ _ _ (finishing client js (with_vote j ts vs) (with_vote j ts ws) (votes_with j ts vs ws h)) (finishing client js vs ws h)
like-after (Decides stamp ks) t _ _ (finishing client js vs ws h) = like_if (same_trans stamp.trans t) _ _ _ _ (same (Committed stamp ks [])) (finishing client js vs ws h)
like-after (Ends u c e) t _ _ (finishing client js vs ws h) = like_if (same_trans u t) _ _ _ _ (same (Ended e)) (finishing client js vs ws h)
like-after (Acknowledges u j) t _ _ (finishing client js vs ws h) = like_if (same_trans u t) _ _ _ _ (finishing client js vs ws h) (finishing client js vs ws h)
like-after (Forgets u) t _ _ (finishing client js vs ws h) = like_if (same_trans u t) _ _ _ _ (finishing client js vs ws h) (finishing client js vs ws h)
like-after (Restarts epoch clock) t _ _ (finishing client js vs ws h) = same (Ended (cause.Lost epoch))
like-after (Joins j u c who) t _ _ (finishing client js vs ws h) = finishing client js vs ws h
like-after (Enters j u c who) t _ _ (finishing client js vs ws h) = finishing client js vs ws h
like-after (Quits j u c e) t _ _ (finishing client js vs ws h) = finishing client js vs ws h
like-after (Aborts j u c e) t _ _ (finishing client js vs ws h) = finishing client js vs ws h
like-after (Grants u c) t _ _ (finishing client js vs ws h) = finishing client js vs ws h
like-after (Performs u p) t _ _ (finishing client js vs ws h) = finishing client js vs ws h
like-after (Releases u) t _ _ (finishing client js vs ws h) = finishing client js vs ws h
like-after (Readies j u ts) t _ _ (finishing client js vs ws h) = finishing client js vs ws h
like-after (Applies j stamp) t _ _ (finishing client js vs ws h) = finishing client js vs ws h
like-after (Begins u c who seen) t _ _ (committed stamp js ds es h) = like_if (same_trans u t) _ _ _ _ (committed stamp js ds es h) (committed stamp js ds es h)
like-after (Registers u j) t _ _ (committed stamp js ds es h) = like_if (same_trans u t) _ _ _ _ (committed stamp js ds es h) (committed stamp js ds es h)
like-after (Finishes u) t _ _ (committed stamp js ds es h) = like_if (same_trans u t) _ _ _ _ (committed stamp js ds es h) (committed stamp js ds es h)
like-after (Hears u j ts) t _ _ (committed stamp js ds es h) = like_if (same_trans u t) _ _ _ _ (committed stamp js ds es h) (committed stamp js ds es h)
like-after (Decides x ks) t _ _ (committed stamp js ds es h) = like_if (same_trans x.trans t) _ _ _ _ (committed stamp js ds es h) (committed stamp js ds es h)
like-after (Ends u c e) t _ _ (committed stamp js ds es h) = like_if (same_trans u t) _ _ _ _ (committed stamp js ds es h) (committed stamp js ds es h)
like-after (Acknowledges u j) t _ _ (committed stamp js ds es h) = like_if (same_trans u t) _ _ _ _ (committed stamp js (j ∷ ds) (j ∷ es) (dones_with j ds es h)) (committed stamp js ds es h)
like-after (Forgets u) t _ _ (committed stamp js ds es h) = like_if (same_trans u t) _ _ _ _ (forgotten_alike (has_all ds js) (has_all es js) (all_done_alike js ds es h) stamp js ds es h) (committed stamp js ds es h)
like-after (Restarts epoch clock) t _ _ (committed stamp js ds es h) = same (Committed stamp js [])
like-after (Joins j u c who) t _ _ (committed stamp js ds es h) = committed stamp js ds es h
like-after (Enters j u c who) t _ _ (committed stamp js ds es h) = committed stamp js ds es h
like-after (Quits j u c e) t _ _ (committed stamp js ds es h) = committed stamp js ds es h
like-after (Aborts j u c e) t _ _ (committed stamp js ds es h) = committed stamp js ds es h
like-after (Grants u c) t _ _ (committed stamp js ds es h) = committed stamp js ds es h
like-after (Performs u p) t _ _ (committed stamp js ds es h) = committed stamp js ds es h
like-after (Releases u) t _ _ (committed stamp js ds es h) = committed stamp js ds es h
like-after (Readies j u ts) t _ _ (committed stamp js ds es h) = committed stamp js ds es h
like-after (Applies j x) t _ _ (committed stamp js ds es h) = committed stamp js ds es h

-- ---- it is answered alike

pub like-ballot : (j : JoinNo) (ts least : ℕ) (f g : Fate) → IsLike f g → ballot_of j ts least f ≡ ballot_of j ts least g
like-ballot j ts least f g (same h) = refl
like-ballot j ts least _ _ (finishing client js vs ws h) =
    let k = votes_with j ts vs ws h in
    λ i. cond {A = Ballot} (has_join j js) (cond {A = Ballot} (all_alike (λ x. voted x (with_vote j ts vs)) (λ x. voted x (with_vote j ts ws)) (λ x. k.who x) js i) (ballot.Last (k.latest least i)) ballot.Kept) ballot.Dropped
like-ballot j ts least _ _ (committed stamp js ds es h) = refl

pub like-receipt : (j : JoinNo) (f g : Fate) → IsLike f g → receipt_of j f ≡ receipt_of j g
like-receipt j f g (same h) = refl
like-receipt j _ _ (finishing client js vs ws h) = refl
like-receipt j _ _ (committed stamp js ds es h) =
    λ i. cond {A = Receipt} (has_join j js) (cond {A = Receipt} (not (all_done_alike js ds es h i) && all_done_alike js (j ∷ ds) (j ∷ es) (dones_with j ds es h) i) receipt.Last receipt.Kept) receipt.Dropped

pub like-registration : (other : Bool) (j : JoinNo) (client : ℕ) (f g : Fate) → IsLike f g → registration_of other j client f ≡ registration_of other j client g
like-registration other j client f g (same h) = refl
like-registration other j client _ _ (finishing c js vs ws h) = refl
like-registration other j client _ _ (committed stamp js ds es h) = refl

pub like-votes : (f g : Fate) → IsLike f g → has_votes f ≡ has_votes g
like-votes f g (same h) = refl
like-votes _ _ (finishing client js vs ws h) = all_alike (λ j. voted j vs) (λ j. voted j ws) (λ j. h.who j) js
like-votes _ _ (committed stamp js ds es h) = refl

pub like-joins : (f g : Fate) → IsLike f g → joins_of f ≡ joins_of g
like-joins f g (same h) = refl
like-joins _ _ (finishing client js vs ws h) = refl
like-joins _ _ (committed stamp js ds es h) = refl

pub like-client : (f g : Fate) → IsLike f g → client_of f ≡ client_of g
like-client f g (same h) = refl
like-client _ _ (finishing client js vs ws h) = refl
like-client _ _ (committed stamp js ds es h) = refl

pub like-counted : (f g : Fate) → IsLike f g → is_counted f ≡ is_counted g
like-counted f g (same h) = refl
like-counted _ _ (finishing client js vs ws h) = refl
like-counted _ _ (committed stamp [] ds es h) = refl
like-counted _ _ (committed stamp (j ∷ js) ds es h) = refl

pub like-inquiry : (epoch : ℕ) (t : TransId) (j : JoinNo) (f g : Fate) → IsLike f g → inquiry_of epoch t j f ≡ inquiry_of epoch t j g
like-inquiry epoch t j f g (same h) = refl
like-inquiry epoch t j _ _ (finishing client js vs ws h) = refl
like-inquiry epoch t j _ _ (committed stamp [] ds es h) = refl
like-inquiry epoch t j _ _ (committed stamp (k ∷ js) ds es h) = refl

pub like-ending : (epoch : ℕ) (t : TransId) (f g : Fate) → IsLike f g → ending_at epoch t f ≡ ending_at epoch t g
like-ending epoch t f g (same h) = refl
like-ending epoch t _ _ (finishing client js vs ws h) = refl
like-ending epoch t _ _ (committed stamp [] ds es h) = refl
like-ending epoch t _ _ (committed stamp (k ∷ js) ds es h) = refl

pub like-asks : (t : TransId) (f g : Fate) → IsLike f g → ask_again t f ≡ ask_again t g
like-asks t f g (same h) = refl
like-asks t _ _ (finishing client js vs ws h) = ap (to_each (msg.Ask t)) (filter_alike (λ j. not (voted j vs)) (λ j. not (voted j ws)) (λ j. ap not (h.who j)) js)
like-asks t _ _ (committed stamp js ds es h) = refl

pub like-commits : (t : TransId) (f g : Fate) → IsLike f g → commit_again t f ≡ commit_again t g
like-commits t f g (same h) = refl
like-commits t _ _ (finishing client js vs ws h) = refl
like-commits t _ _ (committed stamp js ds es h) = ap (to_each (λ j. msg.Commit t j stamp)) (filter_alike (λ j. not (has_join j ds)) (λ j. not (has_join j es)) (λ j. ap not (h.who j)) js)

-- ---- what is over

over_inquiry : (epoch : ℕ) (t : TransId) (j : JoinNo) (f : Fate) → (t.epoch == epoch) ≡ false → is_over f ≡ true → inquiry_of epoch t j f ≡ abort_for t j (cause.Lost epoch)
over_inquiry epoch t j Undrawn old over = refl
over_inquiry epoch t j (Running client js) old over = cc
over_inquiry epoch t j (Finishing client js vs) old over = cc
over_inquiry epoch t j (Committed stamp [] ds) old over = ap (λ (b : Bool). cond {A = Option Message} b None (abort_for t j (cause.Lost epoch))) old
over_inquiry epoch t j (Committed stamp (k ∷ js) ds) old over = cc
over_inquiry epoch t j (Forgotten stamp js) old over = ap (λ (b : Bool). cond {A = Option Message} b (commit_for t j stamp js) (abort_for t j (cause.Lost epoch))) old
over_inquiry epoch t j (Ended e) old over = ap (λ (b : Bool). abort_for t j (cond {A = Cause} b e (cause.Lost epoch))) old

over_ending : (epoch : ℕ) (t : TransId) (f : Fate) → (t.epoch == epoch) ≡ false → is_over f ≡ true → ending_at epoch t f ≡ ending.Unknown
over_ending epoch t Undrawn old over = refl
over_ending epoch t (Running client js) old over = cc
over_ending epoch t (Finishing client js vs) old over = cc
over_ending epoch t (Committed stamp [] ds) old over = ap (λ (b : Bool). cond {A = Ending} b (ending.Committed stamp) ending.Unknown) old
over_ending epoch t (Committed stamp (k ∷ js) ds) old over = cc
over_ending epoch t (Forgotten stamp js) old over = ap (λ (b : Bool). cond {A = Ending} b (ending.Committed stamp) ending.Unknown) old
over_ending epoch t (Ended e) old over = ap (λ (b : Bool). cond {A = Ending} b ending.Aborted ending.Unknown) old

over_counted : (f : Fate) → is_over f ≡ true → is_counted f ≡ false
over_counted Undrawn over = refl
over_counted (Running client js) over = cc
over_counted (Finishing client js vs) over = cc
over_counted (Committed stamp [] ds) over = refl
over_counted (Committed stamp (k ∷ js) ds) over = cc
over_counted (Forgotten stamp js) over = refl
over_counted (Ended e) over = refl

over_asks : (t : TransId) (f : Fate) → is_over f ≡ true → ask_again t f ≡ []
over_asks t Undrawn over = refl
over_asks t (Running client js) over = cc
over_asks t (Finishing client js vs) over = cc
over_asks t (Committed stamp js ds) over = refl
over_asks t (Forgotten stamp js) over = refl
over_asks t (Ended e) over = refl

over_commits : (t : TransId) (f : Fate) → is_over f ≡ true → commit_again t f ≡ []
over_commits t Undrawn over = refl
over_commits t (Running client js) over = cc
over_commits t (Finishing client js vs) over = cc
over_commits t (Committed stamp [] ds) over = refl
over_commits t (Committed stamp (k ∷ js) ds) over = cc
over_commits t (Forgotten stamp js) over = refl
over_commits t (Ended e) over = refl

-- ---- of an older epoch

pub old-inquiry : (epoch : ℕ) (t : TransId) (j : JoinNo) (f g : Fate) → (t.epoch == epoch) ≡ false → IsLikeOld f g → inquiry_of epoch t j f ≡ inquiry_of epoch t j g
old-inquiry epoch t j _ _ old (standing stamp k js ds es h) = refl
old-inquiry epoch t j _ _ old (nothing f over) = sym (over_inquiry epoch t j f old over)

pub old-ending : (epoch : ℕ) (t : TransId) (f g : Fate) → (t.epoch == epoch) ≡ false → IsLikeOld f g → ending_at epoch t f ≡ ending_at epoch t g
old-ending epoch t _ _ old (standing stamp k js ds es h) = refl
old-ending epoch t _ _ old (nothing f over) = sym (over_ending epoch t f old over)

pub old-counted : (f g : Fate) → IsLikeOld f g → is_counted f ≡ is_counted g
old-counted _ _ (standing stamp k js ds es h) = refl
old-counted _ _ (nothing f over) = sym (over_counted f over)

pub old-asks : (t : TransId) (f g : Fate) → IsLikeOld f g → ask_again t f ≡ ask_again t g
old-asks t _ _ (standing stamp k js ds es h) = refl
old-asks t _ _ (nothing f over) = sym (over_asks t f over)

pub old-commits : (t : TransId) (f g : Fate) → IsLikeOld f g → commit_again t f ≡ commit_again t g
old-commits t _ _ (standing stamp k js ds es h) = ap (to_each (λ j. msg.Commit t j stamp)) (filter_alike (λ j. not (has_join j ds)) (λ j. not (has_join j es)) (λ j. ap not (h.who j)) (k ∷ js))
old-commits t _ _ (nothing f over) = sym (over_commits t f over)
