-- a coordinator that goes on: nothing that parts, clocks or notes rest on changes
use Rattle.std.specs.Prelude.{cond, Bool, true, false, ◌==◌, filter, flat_map, Option, None, Some}
use Rattle.std.proofs.Common.{◌≡◌, ℕ, ◌+◌, ◌≤◌, List, [], ◌∷◌, ◌++◌, length, refl, sym, ◌∙◌, ap, subst, arith}
use Rattle.std.specs.List.Sorted.{IsPermutation}
use Rattle.std.specs.FinMap as map
use Rattle.std.proofs.lemmas.List.Sorted.{length_permutation}
use Rattle.alp_base.specs.declared.ids.JoinNo.{JoinNo}
use Rattle.alp_base.specs.declared.ids.Stamp.{Stamp}
use Rattle.alp_base.specs.declared.ids.TransId.{TransId}
use Rattle.alp_base.specs.Notes.{Notes}
use Rattle.alp_journal.specs.Answers.{is_counted}
use Rattle.alp_journal.specs.Coordinator.{Fate, Undrawn, Running, Finishing, Committed, Forgotten, Ended, client_of, decision_in, registered, finishing, heard, acknowledged, fate_after}
use Rattle.alp_journal.specs.Deeds.{Deed, Registers, Finishes, Hears, Acknowledges}
use Rattle.alp_journal.specs.Ids.{same_trans, has_server}
use Rattle.alp_coord.specs.declared.coordinator.Coordinator.{Coordinator}
use Rattle.alp_coord.specs.Coordinators.{IsAlong, ComesLike, Comes, fate_in, open_ids, counted_of, settled_in}
use Rattle.alp_coord.specs.Likeness.{IsLike, same}
use Rattle.alp_coord.specs.Likeness as like
use Rattle.alp_coord.specs.Ticks.{has_trans, AreOnce}
use Rattle.alp_coord.proofs.LikeLemmas.{like-client, like-counted}
use Rattle.alp_coord.proofs.TickLemmas.{rising_once, same_said, closed_fate}
use Rattle.alp_coord.proofs.WordLemmas.{settled_counts}
use Rattle.alp_node.specs.EarlyFates.{AreEarly}
use Rattle.alp_node.specs.Noted.{AreNoted, decision_kept}
use Rattle.alp_node.specs.Paired.{IsPartOf, IsPairedWith, ArePaired}
use Rattle.alp_node.specs.ServerState.{IsReady}
use Rattle.alp_node.specs.Totals.{LiveMap}
use Rattle.alp_node.specs.Transactions.{AreDecidedBy}
use Rattle.alp_node.specs.Waits.{AreWaiting}
use Rattle.alp_node.specs.declared.lives.Live.{Live}
use Rattle.alp_node.specs.declared.server_state.ServerState.{ServerState}
use Rattle.alp_worker.specs.declared.joins.Joins.{Joins}
use Rattle.alp_node.proofs.TransactionLemmas.{keys_rise}

-- ---- one fate

-- it is the same client's, or nobody's; the same decision stands; and it counts only where the other does
pub record IsFateAs (f g : Fate) : Type 0 where
  pub client : client_of g ≡ client_of f
  pub decision : decision_in g ≡ decision_in f
  pub counted : is_counted g ≡ is_counted f
  pub noted : decision_kept g ≡ decision_kept f

as_it_is : (f : Fate) → IsFateAs f f
as_it_is f = record { client = refl; decision = refl; counted = refl; noted = refl }

as_if : (b : Bool) (f g : Fate) → IsFateAs f g → IsFateAs f (cond {A = Fate} b g f)
as_if true f g h = h
as_if false f g h = as_it_is f

as_like : (f g h : Fate) → IsFateAs f g → IsLike h g → IsFateAs f h
as_like f g h k l = record {
  client = like-client h g l ∙ k.client;
  decision = like_decision h g l ∙ k.decision;
  counted = like-counted h g l ∙ k.counted;
  noted = like_kept h g l ∙ k.noted;
}
  where
    like_decision : (f g : Fate) → IsLike f g → decision_in f ≡ decision_in g
    like_decision f g (same h) = refl
    like_decision _ _ (like.finishing client js vs ws h) = refl
    like_decision _ _ (like.committed stamp js ds es h) = refl

    like_kept : (f g : Fate) → IsLike f g → decision_kept f ≡ decision_kept g
    like_kept f g (same h) = refl
    like_kept _ _ (like.finishing client js vs ws h) = refl
    like_kept _ _ (like.committed stamp [] ds es h) = refl
    like_kept _ _ (like.committed stamp (j ∷ js) ds es h) = refl

registered_as : (j : JoinNo) (f : Fate) → IsFateAs f (registered j f)
registered_as j (Running c js) = run (has_server j.server js)
  where
    run : (b : Bool) → IsFateAs (Running c js) (cond {A = Fate} b (Running c js) (Running c (js ++ j ∷ [])))
    run true = as_it_is (Running c js)
    run false = record { client = refl; decision = refl; counted = refl; noted = refl }
registered_as j Undrawn = as_it_is Undrawn
registered_as j (Finishing c js vs) = as_it_is (Finishing c js vs)
registered_as j (Committed s js ds) = as_it_is (Committed s js ds)
registered_as j (Forgotten s js) = as_it_is (Forgotten s js)
registered_as j (Ended c) = as_it_is (Ended c)

finishing_as : (f : Fate) → IsFateAs f (finishing f)
finishing_as (Running c js) = record { client = refl; decision = refl; counted = refl; noted = refl }
finishing_as Undrawn = as_it_is Undrawn
finishing_as (Finishing c js vs) = as_it_is (Finishing c js vs)
finishing_as (Committed s js ds) = as_it_is (Committed s js ds)
finishing_as (Forgotten s js) = as_it_is (Forgotten s js)
finishing_as (Ended c) = as_it_is (Ended c)

heard_as : (j : JoinNo) (ts : ℕ) (f : Fate) → IsFateAs f (heard j ts f)
heard_as j ts (Finishing c js vs) = record { client = refl; decision = refl; counted = refl; noted = refl }
heard_as j ts Undrawn = as_it_is Undrawn
heard_as j ts (Running c js) = as_it_is (Running c js)
heard_as j ts (Committed s js ds) = as_it_is (Committed s js ds)
heard_as j ts (Forgotten s js) = as_it_is (Forgotten s js)
heard_as j ts (Ended c) = as_it_is (Ended c)

acknowledged_as : (j : JoinNo) (f : Fate) → IsFateAs f (acknowledged j f)
acknowledged_as j (Committed s [] ds) = record { client = refl; decision = refl; counted = refl; noted = refl }
acknowledged_as j (Committed s (k ∷ js) ds) = record { client = refl; decision = refl; counted = refl; noted = refl }
acknowledged_as j Undrawn = as_it_is Undrawn
acknowledged_as j (Running c js) = as_it_is (Running c js)
acknowledged_as j (Finishing c js vs) = as_it_is (Finishing c js vs)
acknowledged_as j (Forgotten s js) = as_it_is (Forgotten s js)
acknowledged_as j (Ended c) = as_it_is (Ended c)

-- ---- all of them

-- the same server in the same epoch, and each transaction is as it was in all of that
pub record IsFatedAs (before after : Coordinator) : Type 0 where
  pub along : IsAlong before after
  pub fates : (t : TransId) → IsFateAs (fate_in before t) (fate_in after t)

pub fated_itself : (c : Coordinator) → IsFatedAs c c
fated_itself c = record { along = record { server_same = refl; epoch_same = refl; count_same = refl }; fates = λ t. as_it_is (fate_in c t) }

-- a join registers, its transaction is finished, a vote comes in, or a part has applied it
abbrev pub IsSmallDeed : Deed → Type 0
IsSmallDeed (Registers t j) = Unit {0}
IsSmallDeed (Finishes t) = Unit {0}
IsSmallDeed (Hears t j ts) = Unit {0}
IsSmallDeed (Acknowledges t j) = Unit {0}
IsSmallDeed d = ⊥

pub small_as : (d : Deed) (t : TransId) (f : Fate) → IsSmallDeed d → IsFateAs f (fate_after d t f)
small_as (Registers u j) t f h = as_if (same_trans u t) f (registered j f) (registered_as j f)
small_as (Finishes u) t f h = as_if (same_trans u t) f (finishing f) (finishing_as f)
small_as (Hears u j ts) t f h = as_if (same_trans u t) f (heard j ts f) (heard_as j ts f)
small_as (Acknowledges u j) t f h = as_if (same_trans u t) f (acknowledged j f) (acknowledged_as j f)
small_as d t f h = absurd h

pub fated_like : (d : Deed) (before after : Coordinator) → IsSmallDeed d → IsAlong before after → ComesLike d before after → IsFatedAs before after
fated_like d before after small along comes = record {
  along = along;
  fates = λ t. as_like (fate_in before t) (fate_after d t (fate_in before t)) (fate_in after t) (small_as d t (fate_in before t) small) (comes t);
}

pub fated_by : (d : Deed) (before after : Coordinator) → IsSmallDeed d → IsAlong before after → Comes d before after → IsFatedAs before after
fated_by d before after small along comes = record {
  along = along;
  fates = λ t. subst (IsFateAs (fate_in before t)) (sym (comes t)) (small_as d t (fate_in before t) small);
}

-- ---- how many count

-- as many count where each does that did
module _ (p : TransId → Bool) where
  abbrev one_so : TransId → List TransId
  one_so t = cond {A = List TransId} (p t) (t ∷ []) []

  all_so : (ts : List TransId) → flat_map one_so ts ≡ filter p ts
  all_so [] = refl
  all_so (t ∷ ts) = go (p t) ∙ ap (λ (us : List TransId). cond {A = List TransId} (p t) (t ∷ us) us) (all_so ts)
    where
      go : (b : Bool) → cond {A = List TransId} b (t ∷ []) [] ++ flat_map one_so ts ≡ cond {A = List TransId} b (t ∷ flat_map one_so ts) (flat_map one_so ts)
      go true = refl
      go false = refl

  pub as_many : (ts os : List TransId) → AreOnce ts → AreOnce os → ((t : TransId) → has_trans t os ≡ true → has_trans t ts ≡ false → p t ≡ false) → ((t : TransId) → has_trans t ts ≡ true → has_trans t os ≡ false → p t ≡ false) → length (filter p ts) ≡ length (filter p os)
  as_many ts os once others h k =
      let alike : IsPermutation (flat_map one_so ts) (flat_map one_so os) = same_said one_so ts os once others (λ t here away. ap (λ (b : Bool). cond {A = List TransId} b (t ∷ []) []) (h t here away)) (λ t here away. ap (λ (b : Bool). cond {A = List TransId} b (t ∷ []) []) (k t here away)) in
      let turned : length (flat_map one_so os) ≡ length (flat_map one_so ts) = length_permutation (flat_map one_so ts) (flat_map one_so os) alike in
      ap (λ (us : List TransId). length us) (sym (all_so ts)) ∙ sym turned ∙ ap (λ (us : List TransId). length us) (all_so os)

pub closed_uncounted : (c : Coordinator) (t : TransId) → has_trans t (open_ids c) ≡ false → is_counted (fate_in c t) ≡ false
closed_uncounted c t shut = ap is_counted (closed_fate c t shut) ∙ settled_counts t (settled_in c t)

filter_as : (p q : TransId → Bool) → ((t : TransId) → p t ≡ q t) → (ts : List TransId) → filter p ts ≡ filter q ts
filter_as p q h [] = refl
filter_as p q h (t ∷ ts) = λ i. cond {A = List TransId} (h t i) (t ∷ filter_as p q h ts i) (filter_as p q h ts i)

pub counted_as : (before after : Coordinator) → IsFatedAs before after → counted_of after ≡ counted_of before
counted_as before after h =
    let p : TransId → Bool = λ t. is_counted (fate_in after t) in
    let q : TransId → Bool = λ t. is_counted (fate_in before t) in
    as_many p (open_ids after) (open_ids before) (rising_once (open_ids after) (keys_rise after.courses)) (rising_once (open_ids before) (keys_rise before.courses))
    (λ t here away. closed_uncounted after t away) (λ t here away. (h.fates t).counted ∙ closed_uncounted before t away)
    ∙ ap (λ (us : List TransId). length us) (filter_as p q (λ t. (h.fates t).counted) (open_ids before))

-- ---- what rests on it

paired_part : (k : Joins) (t : TransId) (f g : Fate) (l : Live) (j : Option JoinNo) → client_of g ≡ client_of f → IsPartOf k t l f j → IsPartOf k t l g j
paired_part k t f g l None e h = (e ∙ h.0, h.1)
paired_part k t f g l (Some j) e h = (e ∙ h.0, h.1)

paired_as : (k : Joins) (t : TransId) (f g : Fate) (x : Option Live) → client_of g ≡ client_of f → IsPairedWith k t f x → IsPairedWith k t g x
paired_as k t f g None e h = e ∙ h
paired_as k t f g (Some l) e h = paired_part k t f g l l.join e h

pub fated_paired : (servers here : ℕ) (before after : Coordinator) (k : Joins) (lives : LiveMap) → IsFatedAs before after → ArePaired servers here before k lives → ArePaired servers here after k lives
fated_paired servers here before after k lives h p = record {
  parts = λ t. paired_as k t (fate_in before t) (fate_in after t) (map.get lives t) (h.fates t).client (p.parts t);
  joins = p.joins;
  others = p.others;
  own = λ t client runs. p.own t client (sym (h.fates t).client ∙ runs);
}

pub fated_times : (clock : ℕ) (before after : Coordinator) → IsFatedAs before after → AreDecidedBy clock before → AreDecidedBy clock after
fated_times clock before after h times t stamp js is = times t stamp js (sym (h.fates t).decision ∙ is)

pub fated_noted : (server servers epoch : ℕ) (lives : LiveMap) (joins : Joins) (before after : Coordinator) (notes : Notes) → IsFatedAs before after → AreNoted server servers epoch lives joins before notes → AreNoted server servers epoch lives joins after notes
fated_noted server servers epoch lives joins before after notes h n = record {
  epoch = n.epoch;
  ready = n.ready;
  decided = λ t fits. n.decided t fits ∙ sym (h.fates t).noted;
  format = n.format;
}

pub fated_ready : {V : Type 0} (n : ℕ) (serves : Bool) (k : ServerState V) (z : Coordinator) → IsFatedAs k.coordinator z → AreEarly k.servers k.server z → IsReady n serves k → IsReady n serves (record k { coordinator = z })
fated_ready n serves k z h early r = record {
  serving = r.serving;
  halted = r.halted;
  sound = r.sound;
  taken = r.taken;
  waits = subst (λ (m : ℕ). AreWaiting k.server k.epoch k.given m k.sizes k.lives k.waits k.locks.waiting) (sym h.along.count_same) r.waits;
  known = r.known;
  seat = (h.along.server_same ∙ r.seat.0, h.along.epoch_same ∙ r.seat.1);
  joins = r.joins;
  paired = fated_paired k.servers k.server k.coordinator z k.joins k.lives h r.paired;
  idle = r.idle;
  opens = r.opens;
  opened = r.opened;
  alive = r.alive;
  places = r.places;
  calls = r.calls;
  replies = r.replies;
  drawn = subst (λ (m : ℕ). m ≤ n) (sym h.along.count_same) r.drawn;
  times = fated_times k.clock k.coordinator z h r.times;
  given = r.given;
  most = subst (λ (m : ℕ). m + length k.joins.lives ≤ 64) (sym (counted_as k.coordinator z h)) r.most;
  fits = r.fits;
  within = r.within;
  sized = r.sized;
  clock = r.clock;
  raised = r.raised;
  fated = early;
  last = r.last;
  unheld = r.unheld;
}
