-- links of a log of two servers, by computation
use Rattle.std.specs.Prelude.{Bool, true, false, cond, ◌==◌, ◌&&◌, ◌||◌, ltb, unwrap_or, Option, None, Some}
use Rattle.std.specs.List.{list_all, list_any}
use Rattle.std.proofs.Common.{◌≡◌, ℕ, zero, suc, ◌<◌, List, [], ◌∷◌, slice_get, length, refl, sym, ap, subst, ◌∙◌, inl, inr, arith}
use Rattle.std.proofs.lemmas.Bool.{eqb-true, ltb-true, and_parts}
use Rattle.alp_base.specs.declared.ids.JoinNo.{JoinNo}
use Rattle.alp_base.specs.declared.ids.TransId.{TransId}
use Rattle.alp_base.specs.declared.ids.Stamp.{Stamp}
use Rattle.alp_journal.specs.declared.act.Act.{Act}
use Rattle.alp_journal.specs.declared.act.Act.TheVariants as act
use Rattle.alp_journal.specs.declared.event.Event.{Event}
use Rattle.alp_journal.specs.declared.event.Event.TheVariants as event
use Rattle.alp_journal.specs.declared.message.Message.{Message}
use Rattle.alp_journal.specs.declared.message.Message.TheVariants as msg
use Rattle.alp_journal.specs.declared.entry.Entry.{Entry}
use Rattle.alp_history.specs.Items.{Handed}
use Rattle.alp_history.specs.Log.{Log, ServerLog, nobody, of, IsIn, journal_of, WasSent, IsLinked}
use Rattle.alp_history.specs.RightLog.{both}
use Rattle.alp_journal.specs.Ids.{same_trans, same_join, same_stamp}
use Rattle.alp_journal.proofs.IdLemmas.{same_trans-true, same_join-true, or-true}
use Rattle.alp_history.proofs.Places.{in-list, some-same}

-- each rank is below all that follow
abbrev pub is_rising : List ℕ → Bool
is_rising [] = true
is_rising (r ∷ rs) = list_all (λ q. ltb r q) rs && is_rising rs

below_each : (r : ℕ) (rs : List ℕ) (k : ℕ) → list_all (λ q. ltb r q) rs ≡ true → k < length rs → r < unwrap_or (slice_get rs k) 0
below_each r [] k h l = absurd (let no : ⊥ = omega (arith, l) in no)
below_each r (q ∷ rs) zero h l = ltb-true r q (and_parts (ltb r q) (list_all (λ x. ltb r x) rs) h).0
below_each r (q ∷ rs) (suc k) h l = below_each r rs k (and_parts (ltb r q) (list_all (λ x. ltb r x) rs) h).1 (omega (arith, l))

pub rises : (rs : List ℕ) → is_rising rs ≡ true → (i k : ℕ) → i < k → k < length rs → unwrap_or (slice_get rs i) 0 < unwrap_or (slice_get rs k) 0
rises [] h i k l m = absurd (let no : ⊥ = omega (arith, m) in no)
rises (r ∷ rs) h i zero l m = absurd (let no : ⊥ = omega (arith, l) in no)
rises (r ∷ rs) h zero (suc k) l m = below_each r rs k (and_parts (list_all (λ q. ltb r q) rs) (is_rising rs) h).0 (omega (arith, m))
rises (r ∷ rs) h (suc i) (suc k) l m = rises rs (and_parts (list_all (λ q. ltb r q) rs) (is_rising rs) h).1 i k (omega (arith, l)) (omega (arith, m))

-- ---- a message that was sent, found by looking for it

abbrev is_message : Message → Message → Bool
is_message (msg.Register t j client) (msg.Register u k other) = same_trans t u && same_join j k && client == other
is_message (msg.Joined t j) (msg.Joined u k) = same_trans t u && same_join j k
is_message (msg.Ask t j) (msg.Ask u k) = same_trans t u && same_join j k
is_message (msg.Ready t j ts) (msg.Ready u k us) = same_trans t u && same_join j k && ts == us
is_message (msg.Commit t j x) (msg.Commit u k y) = same_trans t u && same_join j k && same_stamp x y
is_message (msg.Done t j) (msg.Done u k) = same_trans t u && same_join j k
is_message (msg.Inquire t j) (msg.Inquire u k) = same_trans t u && same_join j k
is_message m n = false

same-stamp : (x y : Stamp) → same_stamp x y ≡ true → x ≡ y
same-stamp x y h =
    let parts = and_parts (x.ts == y.ts) (same_trans x.trans y.trans) h in
    (λ i. record { ts = eqb-true x.ts y.ts parts.0 i; trans = same_trans-true x.trans y.trans parts.1 i })

both-same : (t u : TransId) (j k : JoinNo) → (same_trans t u && same_join j k) ≡ true → (t ≡ u) × (j ≡ k)
both-same t u j k h = let parts = and_parts (same_trans t u) (same_join j k) h in (same_trans-true t u parts.0, same_join-true j k parts.1)

same-message : (m n : Message) → is_message m n ≡ true → m ≡ n
same-message (msg.Register t j client) (msg.Register u k other) h =
    let parts = and_parts (same_trans t u && same_join j k) (client == other) h in
    let same = both-same t u j k parts.0 in (λ i. msg.Register (same.0 i) (same.1 i) (eqb-true client other parts.1 i))
same-message (msg.Joined t j) (msg.Joined u k) h = let same = both-same t u j k h in (λ i. msg.Joined (same.0 i) (same.1 i))
same-message (msg.Ask t j) (msg.Ask u k) h = let same = both-same t u j k h in (λ i. msg.Ask (same.0 i) (same.1 i))
same-message (msg.Ready t j ts) (msg.Ready u k us) h =
    let parts = and_parts (same_trans t u && same_join j k) (ts == us) h in
    let same = both-same t u j k parts.0 in (λ i. msg.Ready (same.0 i) (same.1 i) (eqb-true ts us parts.1 i))
same-message (msg.Commit t j x) (msg.Commit u k y) h =
    let parts = and_parts (same_trans t u && same_join j k) (same_stamp x y) h in
    let same = both-same t u j k parts.0 in (λ i. msg.Commit (same.0 i) (same.1 i) (same-stamp x y parts.1 i))
same-message (msg.Done t j) (msg.Done u k) h = let same = both-same t u j k h in (λ i. msg.Done (same.0 i) (same.1 i))
same-message (msg.Inquire t j) (msg.Inquire u k) h = let same = both-same t u j k h in (λ i. msg.Inquire (same.0 i) (same.1 i))
same-message m n h = cc

abbrev sends : ℕ → Message → Act → Bool
sends to m (act.Sent k n) = k == to && is_message n m
sends to m a = false

sends-it : (to : ℕ) (m : Message) (a : Act) → sends to m a ≡ true → a ≡ act.Sent to m
sends-it to m (act.Sent k n) h = let parts = and_parts (k == to) (is_message n m) h in (λ i. act.Sent (eqb-true k to parts.0 i) (same-message n m parts.1 i))
sends-it to m a h = cc

sent-among : (to : ℕ) (m : Message) (acts : List Act) → list_any (sends to m) acts ≡ true → IsIn (act.Sent to m) acts
sent-among to m [] h = cc
sent-among to m (a ∷ acts) h = elim (or-true (sends to m a) (list_any (sends to m) acts) h) [ inl this ↦ inl (sym (sends-it to m a this)) | inr more ↦ inr (sent-among to m acts more) ]

-- at an entry of a smaller rank
abbrev is_sent : ℕ → Message → ℕ → List ℕ → List Entry → Bool
is_sent to m rank rs [] = false
is_sent to m rank [] (e ∷ es) = false
is_sent to m rank (r ∷ rs) (e ∷ es) = (ltb r rank && list_any (sends to m) e.acts) || is_sent to m rank rs es

was-sent : (to : ℕ) (m : Message) (rank : ℕ) (rs : List ℕ) (es : List Entry) → is_sent to m rank rs es ≡ true
    → (place : ℕ) × (e : Entry) × (slice_get es place ≡ Some e) × IsIn (act.Sent to m) e.acts × (unwrap_or (slice_get rs place) 0 < rank)
was-sent to m rank rs [] h = cc
was-sent to m rank [] (e ∷ es) h = cc
was-sent to m rank (r ∷ rs) (e ∷ es) h = elim (or-true (ltb r rank && list_any (sends to m) e.acts) (is_sent to m rank rs es) h) [
  | inl this ↦ (let parts = and_parts (ltb r rank) (list_any (sends to m) e.acts) this in (0, e, refl, sent-among to m e.acts parts.1, ltb-true r rank parts.0))
  | inr more ↦ (let x = was-sent to m rank rs es more in (suc x.0, x.1, x.2, x.3, x.4))
]

-- each arrival of a journal was sent before
abbrev pub is_arrival_sent : Log → ℕ → ℕ → Event → Bool
is_arrival_sent log n rank (event.Arrive from m) = is_sent n m rank (of log from).ranks (journal_of log from)
is_arrival_sent log n rank e = true

abbrev pub are_sent : Log → ℕ → List ℕ → List Entry → Bool
are_sent log n rs [] = true
are_sent log n [] (e ∷ es) = false
are_sent log n (r ∷ rs) (e ∷ es) = is_arrival_sent log n r e.event && are_sent log n rs es

arrival-sent : (log : Log) (n rank : ℕ) (x : Event) (from : ℕ) (m : Message) → is_arrival_sent log n rank x ≡ true → x ≡ event.Arrive from m → WasSent log from n m rank
arrival-sent log n rank x from m h is =
    let found = was-sent n m rank (of log from).ranks (journal_of log from) (ap (is_arrival_sent log n rank) (sym is) ∙ h) in
    record { place = found.0; entry = found.1; stands = found.2; sent = found.3; earlier = found.4 }

sent-before : (log : Log) (n : ℕ) (rs : List ℕ) (es : List Entry) → are_sent log n rs es ≡ true → (i from : ℕ) (e : Entry) (m : Message) → slice_get es i ≡ Some e → e.event ≡ event.Arrive from m
    → WasSent log from n m (unwrap_or (slice_get rs i) 0)
sent-before log n rs [] h i from e m at is = cc
sent-before log n [] (x ∷ es) h i from e m at is = cc
sent-before log n (r ∷ rs) (x ∷ es) h zero from e m at is =
    arrival-sent log n r x.event from m (and_parts (is_arrival_sent log n r x.event) (are_sent log n rs es) h).0 (ap (λ (y : Entry). y.event) (some-same x e at) ∙ is)
sent-before log n (r ∷ rs) (x ∷ es) h (suc i) from e m at is = sent-before log n rs es (and_parts (is_arrival_sent log n r x.event) (are_sent log n rs es) h).1 i from e m at is

module _ (handed : Handed) (x y : ServerLog) where
  -- what holds of both servers, and of one that is none of the run
  pub each_both : (Q : ℕ → ServerLog → Type 0) → Q x.opening.server x → Q y.opening.server y → ((m : ℕ) → Q m (nobody m)) → (n : ℕ) → Q n (of (both handed x y) n)
  each_both Q a b c n = go (x.opening.server == n) refl (y.opening.server == n) refl
    where
      go : (p : Bool) → (x.opening.server == n) ≡ p → (q : Bool) → (y.opening.server == n) ≡ q
          → Q n (unwrap_or (cond {A = Option ServerLog} p (Some x) (cond {A = Option ServerLog} q (Some y) None)) (nobody n))
      go true e q f = subst (λ m. Q m x) (eqb-true x.opening.server n e) a
      go false e true f = subst (λ m. Q m y) (eqb-true y.opening.server n f) b
      go false e false f = c n

  abbrev Rises : ℕ → ServerLog → Type 0
  Rises n z = (i k : ℕ) (e f : Entry) → slice_get z.journal i ≡ Some e → slice_get z.journal k ≡ Some f → i < k → unwrap_or (slice_get z.ranks i) 0 < unwrap_or (slice_get z.ranks k) 0

  abbrev Arrives : ℕ → ServerLog → Type 0
  Arrives n z = (i from : ℕ) (e : Entry) (m : Message) → slice_get z.journal i ≡ Some e → e.event ≡ event.Arrive from m → WasSent (both handed x y) from n m (unwrap_or (slice_get z.ranks i) 0)

  rises_in : (n : ℕ) (z : ServerLog) → is_rising z.ranks ≡ true → length z.journal ≡ length z.ranks → Rises n z
  rises_in n z up all i k e f h l m = rises z.ranks up i k m (subst (λ q. k < q) all (in-list z.journal k f l))

  -- ranks rise, and each arrival was sent before
  pub links_both : is_rising x.ranks ≡ true → is_rising y.ranks ≡ true → length x.journal ≡ length x.ranks → length y.journal ≡ length y.ranks
      → are_sent (both handed x y) x.opening.server x.ranks x.journal ≡ true → are_sent (both handed x y) y.opening.server y.ranks y.journal ≡ true → IsLinked (both handed x y)
  links_both up_x up_y all_x all_y sent_x sent_y = record {
    rising = each_both Rises (rises_in x.opening.server x up_x all_x) (rises_in y.opening.server y up_y all_y) (λ m i k e f h. cc);
    sent = each_both Arrives (sent-before (both handed x y) x.opening.server x.ranks x.journal sent_x) (sent-before (both handed x y) y.opening.server y.ranks y.journal sent_y) (λ m i from e z h. cc);
  }
