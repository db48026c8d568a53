-- What a depot shows, and how it grows.
use Rattle.std.proofs.Common.{◌≡◌, ℕ, zero, suc, ◌+◌, ◌<◌, ◌≤◌, Bool, List, [], ◌∷◌, ◌++◌, length, map, Some, None, refl, sym, ap, ◌∙◌, subst, arith, length-append}
use Rattle.std.specs.Prelude.{slice_get, slice_index_or, ◌-◌}
use Rattle.std.specs.List.{AllByRecursion}
use mathlib.Core.List.{map-append, append-nil, append_assoc}
use Rattle.alp_journal.specs.declared.message.Envelope.{Envelope}
use Rattle.alp_journal.specs.declared.message.Message.{Message}
use Rattle.alp_carrier.specs.Sights.{IsShown}
use Rattle.alp_carrier_tests.specs.Records.{sent_in, sent_by, last_in, pair_of, IsDepot, depot_sight}
use Rattle.alp_carrier_tests.specs.declared.record.Deed.{Deed}
use Rattle.alp_carrier_tests.specs.declared.record.Deed.TheVariants as deed
use Rattle.alp_carrier_tests.specs.declared.record.Outgoing.{Outgoing}
use Rattle.alp_carrier_tests.specs.declared.record.Record.{Record}

last_put : (rs : List Record) (r : Record) → last_in (rs ++ r ∷ []) ≡ r.rank
last_put [] r = refl
last_put (q ∷ []) r = refl
last_put (q ∷ s ∷ rs) r = last_put (s ∷ rs) r

sent_put : (rs : List Record) (r : Record) → sent_in (rs ++ r ∷ []) ≡ sent_in rs ++ sent_by r.rank r.deed
sent_put [] r = append-nil (sent_by r.rank r.deed)
sent_put (q ∷ rs) r = ap (λ l. sent_by q.rank q.deed ++ l) (sent_put rs r) ∙ sym (append_assoc (sent_by q.rank q.deed) (sent_in rs) (sent_by r.rank r.deed))

all_up : (low high : ℕ) (os : List Outgoing) → low ≤ high → AllByRecursion (λ (o : Outgoing). o.rank ≤ low) os → AllByRecursion (λ (o : Outgoing). o.rank ≤ high) os
all_up low high [] up all = tt
all_up low high (o ∷ os) up all = ((let l = all.0 in omega (arith, l, up)), all_up low high os up all.1)

all_put : (high : ℕ) (os : List Outgoing) (o : Outgoing) → AllByRecursion (λ (p : Outgoing). p.rank ≤ high) os → o.rank ≤ high → AllByRecursion (λ (p : Outgoing). p.rank ≤ high) (os ++ o ∷ [])
all_put high [] o all low = (low, tt)
all_put high (p ∷ os) o all low = (all.0, all_put high os o all.1 low)

-- one record more, of something that was sent
depot_sent : (rs : List Record) (os : List Outgoing) (rank : ℕ) (e : Envelope) → IsDepot rs os → last_in rs < rank → IsDepot (rs ++ (record { rank = rank; deed = deed.Sent e }) ∷ []) (os ++ (record { rank = rank; envelope = e }) ∷ [])
depot_sent rs os rank e h above =
    let r : Record = record { rank = rank; deed = deed.Sent e } in
    let o : Outgoing = record { rank = rank; envelope = e } in
    record {
      told = map-append pair_of os (o ∷ []) ∙ (ap (λ l. l ++ (rank, e) ∷ []) h.told ∙ sym (sent_put rs r));
      low = subst (λ k. AllByRecursion (λ (p : Outgoing). p.rank ≤ k) (os ++ o ∷ [])) (sym (last_put rs r)) (all_put rank os o (all_up (last_in rs) rank os (omega (arith, above)) h.low) (omega arith));
      counted = (let c = h.counted in let many = length-append rs (r ∷ []) in let last = last_put rs r in omega (arith, c, many, last, above));
    }

-- or of a message that came
depot_came : (rs : List Record) (os : List Outgoing) (rank from : ℕ) (m : Message) → IsDepot rs os → last_in rs < rank → IsDepot (rs ++ (record { rank = rank; deed = deed.Came from m }) ∷ []) os
depot_came rs os rank from m h above =
    let r : Record = record { rank = rank; deed = deed.Came from m } in
    record {
      told = h.told ∙ sym (sent_put rs r ∙ append-nil (sent_in rs));
      low = subst (λ k. AllByRecursion (λ (p : Outgoing). p.rank ≤ k) os) (sym (last_put rs r)) (all_up (last_in rs) rank os (omega (arith, above)) h.low);
      counted = (let c = h.counted in let many = length-append rs (r ∷ []) in let last = last_put rs r in omega (arith, c, many, last, above));
    }

-- as the code puts it
pub put_sent : (rs : List Record) (os : List Outgoing) (rs' : List Record) (os' : List Outgoing) (rank : ℕ) (d : Deed) (e : Envelope) → IsDepot rs os → last_in rs < rank → d ≡ deed.Sent e → rs' ≡ rs ++ (record { rank = rank; deed = d }) ∷ [] → os' ≡ os ++ (record { rank = rank; envelope = e }) ∷ [] → IsDepot rs' os'
put_sent rs os rs' os' rank d e h above is records outgoing =
    subst (λ (y : List Record × List Outgoing). IsDepot y.0 y.1) (λ i. (sym (records ∙ ap (λ (u : Deed). rs ++ (record { rank = rank; deed = u }) ∷ []) is) i, sym outgoing i)) (depot_sent rs os rank e h above)

pub put_came : (rs : List Record) (os : List Outgoing) (rs' : List Record) (os' : List Outgoing) (rank : ℕ) (d : Deed) → IsDepot rs os → last_in rs < rank → ((e : Envelope) → d ≡ deed.Sent e → ⊥) → rs' ≡ rs ++ (record { rank = rank; deed = d }) ∷ [] → os' ≡ os → IsDepot rs' os'
put_came rs os rs' os' rank (deed.Sent e) h above not records outgoing = absurd (not e refl)
put_came rs os rs' os' rank (deed.Came from m) h above not records outgoing = subst (λ (y : List Record × List Outgoing). IsDepot y.0 y.1) (λ i. (sym records i, sym outgoing i)) (depot_came rs os rank from m h above)

-- what stands last in a list that is not empty
pub last_index : (rs : List Record) (r : Record) → 0 < length rs → (slice_index_or rs (length rs - 1) r).rank ≡ last_in rs
last_index [] r some = absurd (omega (arith, some))
last_index (x ∷ []) r some = refl
last_index (x ∷ y ∷ xs) r some =
    let on : (slice_index_or (y ∷ xs) (length (y ∷ xs) - 1) r).rank ≡ last_in (y ∷ xs) = last_index (y ∷ xs) r (omega arith) in
    let here : length (x ∷ y ∷ xs) - 1 ≡ suc (length xs) = omega arith in
    let there : length xs ≡ length (y ∷ xs) - 1 = omega arith in
    ap (λ (n : ℕ). (slice_index_or (x ∷ y ∷ xs) n r).rank) here ∙ (ap (λ (n : ℕ). (slice_index_or (y ∷ xs) n r).rank) there ∙ on)

get_index : (os : List Outgoing) (i : ℕ) (d : Outgoing) → i < length os → slice_get os i ≡ Some (slice_index_or os i d)
get_index [] i d low = absurd (omega (arith, low))
get_index (o ∷ os) zero d low = refl
get_index (o ∷ os) (suc i) d low = get_index os i d (omega (arith, low))

shown_pair : (os : List Outgoing) (i : ℕ) (o : Outgoing) → slice_get os i ≡ Some o → slice_get (map pair_of os) i ≡ Some (pair_of o)
shown_pair [] i o is = absurd (let f : None ≡ Some o = is in cc)
shown_pair (p ∷ os) zero o is = (let same : p ≡ o = (let f : Some p ≡ Some o = is in cc) in ap (λ (u : Outgoing). Some (pair_of u)) same)
shown_pair (p ∷ os) (suc i) o is = shown_pair os i o is

low_at : (high : ℕ) (os : List Outgoing) (i : ℕ) (o : Outgoing) → slice_get os i ≡ Some o → AllByRecursion (λ (p : Outgoing). p.rank ≤ high) os → o.rank ≤ high
low_at high [] i o is all = absurd (let f : None ≡ Some o = is in cc)
low_at high (p ∷ os) zero o is all = (let same : p ≡ o = (let f : Some p ≡ Some o = is in cc) in subst (λ (u : Outgoing). u.rank ≤ high) same all.0)
low_at high (p ∷ os) (suc i) o is all = low_at high os i o is all.1

-- what goes out at a place is shown there
pub shown_index : (is_open : Bool) (rs : List Record) (os : List Outgoing) (i : ℕ) (d : Outgoing) → IsDepot rs os → i < length os → IsShown depot_sight is_open rs i (slice_index_or os i d).envelope
shown_index is_open rs os i d h low =
    let o : Outgoing = slice_index_or os i d in
    let is : slice_get os i ≡ Some o = get_index os i d low in
    record {
      rank = o.rank;
      sent_is = subst (λ l. slice_get l i ≡ Some (pair_of o)) h.told (shown_pair os i o is);
      earlier = low_at (last_in rs) os i o is h.low;
      timely = tt;
    }
