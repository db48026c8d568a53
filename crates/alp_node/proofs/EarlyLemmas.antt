-- joins and votes of transactions that are not decided, as a coordinator goes on
use Rattle.std.specs.Prelude.{cond, Bool, true, false, not, ◌&&◌, ◌||◌, ◌==◌, ◌≢◌, max, None, Some}
use Rattle.std.specs.List.{list_all}
use Rattle.std.proofs.lemmas.Bool.{and_parts, and_from, eqb-true, not-true, or_parts}
use Rattle.std.proofs.Common.{◌≡◌, ℕ, ◌^◌, ◌≤◌, List, [], ◌∷◌, ◌++◌, refl, sym, ◌∙◌, ap, subst, arith, eq-eqb}
use Rattle.alp_base.specs.declared.ids.JoinNo.{JoinNo}
use Rattle.alp_base.specs.declared.ids.TransId.{TransId}
use Rattle.alp_journal.specs.Account.{is_other, are_servers_apart, AreJoins}
use Rattle.alp_journal.specs.Coordinator.{Fate, Undrawn, Running, Finishing, Committed, Forgotten, Ended, Vote, client_of, begun, registered, finishing, heard, acknowledged, has_all, voted}
use Rattle.alp_journal.specs.Deeds.{Begins, Registers, Finishes, Hears, Acknowledges}
use Rattle.alp_journal.specs.Ids.{same_trans, has_join, has_server}
use Rattle.alp_journal.specs.Laws.{latest_vote}
use Rattle.alp_journal.proofs.IdLemmas.{same_trans-true}
use Rattle.alp_journal.proofs.StandLemmas.{any-last}
use Rattle.alp_coord.specs.declared.answers.Registration.{Registration}
use Rattle.alp_coord.specs.declared.answers.Registration.TheVariants as registration
use Rattle.alp_coord.specs.declared.coordinator.Coordinator.{Coordinator}
use Rattle.alp_coord.specs.Coordinators.{AfterRegistration, Comes, ComesLike, Keeps, epoch_of, fate_in, forgotten_as, forgotten_fate, is_known, registration_in, registration_of, server_of}
use Rattle.alp_coord.specs.Coordinators as coord
use Rattle.alp_coord.specs.Likeness.{IsLike}
use Rattle.alp_coord.specs.Likeness as like
use Rattle.alp_node.specs.EarlyFates.{AreEarly, IsEarlyFate}

-- ---- one of a server more

all-last : {A : Type 0} (p : A → Bool) (xs : List A) (x : A) → list_all p xs ≡ true → p x ≡ true → list_all p (xs ++ x ∷ []) ≡ true
all-last p [] x h e = ap (λ (b : Bool). b && true) e
all-last p (y ∷ xs) x h e =
    let both = and_parts (p y) (list_all p xs) h in
    ap (λ (b : Bool). b && list_all p (xs ++ x ∷ [])) both.0 ∙ all-last p xs x both.1 e

servers-last : (js : List JoinNo) (j : JoinNo) → are_servers_apart js ≡ true → has_server j.server js ≡ false → are_servers_apart (js ++ j ∷ []) ≡ true
servers-last [] j h none = refl
servers-last (k ∷ js) j h none =
    let both = and_parts (not (has_server k.server js)) (are_servers_apart js) h in
    let away = or_parts (k.server == j.server) (has_server j.server js) none in
    and_from (not (has_server k.server (js ++ j ∷ []))) (are_servers_apart (js ++ j ∷ []))
    (ap not (any-last (λ (i : JoinNo). i.server == k.server) js j ∙ (λ i. not-true (has_server k.server js) both.0 i || (turned_eqb j.server k.server away.0) i))) (servers-last js j both.1 away.1)
  where
    turned_eqb : (m n : ℕ) → (n == m) ≡ false → (m == n) ≡ false
    turned_eqb m n e = go (m == n) refl
      where
        go : (b : Bool) → (m == n) ≡ b → b ≡ false
        go false f = refl
        go true f = let wrong : false ≡ true = sym e ∙ eq-eqb n m (sym (eqb-true m n f)) in cc

-- ---- one vote more

pub latest-last : (n : ℕ) (vs : List Vote) (v : Vote) → latest_vote n (vs ++ v ∷ []) ≡ max (latest_vote n vs) v.1
latest-last n [] v = refl
latest-last n (w ∷ vs) v = latest-last (max n w.1) vs v

pub latest-with : (b : Bool) (vs : List Vote) (v : Vote) → latest_vote 0 vs ≤ 2 ^ 62 → v.1 ≤ 2 ^ 62 → latest_vote 0 (cond {A = List Vote} b vs (vs ++ v ∷ [])) ≤ 2 ^ 62
latest-with true vs v low new = low
latest-with false vs v low new = (let same : latest_vote 0 (vs ++ v ∷ []) ≡ max (latest_vote 0 vs) v.1 = latest-last 0 vs v in omega (arith, same, low, new))

module _ (servers here : ℕ) where
  -- ---- one fate

  pub early_gone : (f : Fate) → client_of f ≡ None → IsEarlyFate servers here f
  early_gone Undrawn none = tt
  early_gone (Running c js) none = absurd (let wrong : Some c ≡ None = none in cc)
  early_gone (Finishing c js vs) none = absurd (let wrong : Some c ≡ None = none in cc)
  early_gone (Committed s js ds) none = tt
  early_gone (Forgotten s js) none = tt
  early_gone (Ended c) none = tt

  early_begun : (client : ℕ) (f : Fate) → IsEarlyFate servers here f → IsEarlyFate servers here (begun client f)
  early_begun client Undrawn h = (refl, refl)
  early_begun client (Running c js) h = h
  early_begun client (Finishing c js vs) h = h
  early_begun client (Committed s js ds) h = tt
  early_begun client (Forgotten s js) h = tt
  early_begun client (Ended c) h = tt

  early_registered : (j : JoinNo) → is_other servers here j.server ≡ true → (f : Fate) → IsEarlyFate servers here f → IsEarlyFate servers here (registered j f)
  early_registered j far (Running c js) h = go (has_server j.server js) refl
    where
      go : (b : Bool) → has_server j.server js ≡ b → IsEarlyFate servers here (cond {A = Fate} b (Running c js) (Running c (js ++ j ∷ [])))
      go true e = h
      go false e = (all-last (λ (i : JoinNo). is_other servers here i.server) js j h.0 far, servers-last js j h.1 e)
  early_registered j far Undrawn h = tt
  early_registered j far (Finishing c js vs) h = h
  early_registered j far (Committed s js ds) h = tt
  early_registered j far (Forgotten s js) h = tt
  early_registered j far (Ended c) h = tt

  early_heard : (j : JoinNo) (ts : ℕ) → ts ≤ 2 ^ 62 → (f : Fate) → IsEarlyFate servers here f → IsEarlyFate servers here (heard j ts f)
  early_heard j ts low (Finishing c js vs) h = record { joins = h.joins; some = h.some; low = latest-with (voted j vs) vs (j, ts) h.low low }
  early_heard j ts low Undrawn h = tt
  early_heard j ts low (Running c js) h = h
  early_heard j ts low (Committed s js ds) h = tt
  early_heard j ts low (Forgotten s js) h = tt
  early_heard j ts low (Ended c) h = tt

  early_acknowledged : (j : JoinNo) (f : Fate) → IsEarlyFate servers here f → IsEarlyFate servers here (acknowledged j f)
  early_acknowledged j Undrawn h = tt
  early_acknowledged j (Running c js) h = h
  early_acknowledged j (Finishing c js vs) h = h
  early_acknowledged j (Committed s js ds) h = tt
  early_acknowledged j (Forgotten s js) h = tt
  early_acknowledged j (Ended c) h = tt

  early_forgotten : (b : Bool) (f : Fate) → IsEarlyFate servers here f → IsEarlyFate servers here (forgotten_fate b f)
  early_forgotten b Undrawn h = tt
  early_forgotten b (Running c js) h = h
  early_forgotten b (Finishing c js vs) h = h
  early_forgotten b (Committed s [] ds) h = tt
  early_forgotten b (Committed s (j ∷ js) ds) h = go b (has_all ds (j ∷ js))
    where
      go : (b d : Bool) → IsEarlyFate servers here (cond {A = Fate} d (forgotten_as b (Committed s (j ∷ js) ds)) (Committed s (j ∷ js) ds))
      go true true = tt
      go false true = tt
      go b false = tt
  early_forgotten b (Forgotten s js) h = tt
  early_forgotten b (Ended c) h = tt

  early_like : (f g : Fate) → IsLike f g → IsEarlyFate servers here g → IsEarlyFate servers here f
  early_like f g (like.same x) h = h
  early_like _ _ (like.finishing client js vs ws l) h = record { joins = h.joins; some = h.some; low = subst (λ (n : ℕ). n ≤ 2 ^ 62) (sym (l.latest 0)) h.low }
  early_like _ _ (like.committed stamp js ds es l) h = tt

  early_if : (b : Bool) (f g : Fate) → IsEarlyFate servers here g → IsEarlyFate servers here f → IsEarlyFate servers here (cond {A = Fate} b g f)
  early_if true f g h k = h
  early_if false f g h k = k

  -- ---- all of them

  pub early_keeps : (before after : Coordinator) → Keeps before after → AreEarly servers here before → AreEarly servers here after
  early_keeps before after keeps h u = subst (IsEarlyFate servers here) (sym (keeps u)) (h u)

  pub early_begins : (t : TransId) (client seen : ℕ) (who : List ℕ) (before after : Coordinator) → Comes (Begins t client who seen) before after → AreEarly servers here before → AreEarly servers here after
  early_begins t client seen who before after comes h u =
      subst (IsEarlyFate servers here) (sym (comes u)) (early_if (same_trans t u) (fate_in before u) (begun client (fate_in before u)) (early_begun client (fate_in before u) (h u)) (h u))

  -- one runs no more, and the others are as they were
  pub early_lets : (t : TransId) (before after : Coordinator) → client_of (fate_in after t) ≡ None → ((u : TransId) → same_trans t u ≡ false → fate_in after u ≡ fate_in before u) → AreEarly servers here before → AreEarly servers here after
  early_lets t before after none others h u = go (same_trans t u) refl
    where
      go : (b : Bool) → same_trans t u ≡ b → IsEarlyFate servers here (fate_in after u)
      go true e = early_gone (fate_in after u) (ap (λ (v : TransId). client_of (fate_in after v)) (sym (same_trans-true t u e)) ∙ none)
      go false e = subst (IsEarlyFate servers here) (sym (others u e)) (h u)

  pub early_hears : (t : TransId) (j : JoinNo) (ts : ℕ) (before after : Coordinator) → ts ≤ 2 ^ 62 → ComesLike (Hears t j ts) before after → AreEarly servers here before → AreEarly servers here after
  early_hears t j ts before after low comes h u =
      early_like (fate_in after u) (cond {A = Fate} (same_trans t u) (heard j ts (fate_in before u)) (fate_in before u)) (comes u)
      (early_if (same_trans t u) (fate_in before u) (heard j ts (fate_in before u)) (early_heard j ts low (fate_in before u) (h u)) (h u))

  pub early_acknowledges : (t : TransId) (j : JoinNo) (before after : Coordinator) → ComesLike (Acknowledges t j) before after → AreEarly servers here before → AreEarly servers here after
  early_acknowledges t j before after comes h u =
      early_like (fate_in after u) (cond {A = Fate} (same_trans t u) (acknowledged j (fate_in before u)) (fate_in before u)) (comes u)
      (early_if (same_trans t u) (fate_in before u) (acknowledged j (fate_in before u)) (early_acknowledged j (fate_in before u) (h u)) (h u))

  pub early_forgets : (t : TransId) (before after : Coordinator) → ((u : TransId) → fate_in after u ≡ cond {A = Fate} (same_trans t u) (forgotten_fate (u.epoch == epoch_of before) (fate_in before u)) (fate_in before u)) → AreEarly servers here before → AreEarly servers here after
  early_forgets t before after forgot h u =
      subst (IsEarlyFate servers here) (sym (forgot u))
      (early_if (same_trans t u) (fate_in before u) (forgotten_fate (u.epoch == epoch_of before) (fate_in before u)) (early_forgotten (u.epoch == epoch_of before) (fate_in before u) (h u)) (h u))

  -- its client asks for the commit of one that has joins
  pub early_finishes : (t : TransId) (client : ℕ) (js : List JoinNo) (before after : Coordinator) → fate_in before t ≡ Running client js → js ≢ [] → Comes (Finishes t) before after → AreEarly servers here before → AreEarly servers here after
  early_finishes t client js before after runs some comes h u = subst (IsEarlyFate servers here) (sym (comes u)) (go (same_trans t u) refl)
    where
      go : (b : Bool) → same_trans t u ≡ b → IsEarlyFate servers here (cond {A = Fate} b (finishing (fate_in before u)) (fate_in before u))
      go true e =
          let is : fate_in before u ≡ Running client js = ap (fate_in before) (sym (same_trans-true t u e)) ∙ runs in
          let joins : AreJoins servers here js = subst (IsEarlyFate servers here) is (h u) in
          subst (λ (f : Fate). IsEarlyFate servers here (finishing f)) (sym is) (record { joins = joins; some = some; low = omega arith })
      go false e = h u

-- a part asks to take part
pub early_registers : (servers : ℕ) (before after : Coordinator) (t : TransId) (j : JoinNo) (client : ℕ) (r : Registration) → r ≡ registration_in before t j client servers → AfterRegistration (Registers t j) r before after → AreEarly servers (server_of before) before → AreEarly servers (server_of before) after
early_registers servers before after t j client registration.Silence is same h u = subst (AreEarly servers (server_of before)) (sym same) h u
early_registers servers before after t j client registration.Known is same h u = subst (AreEarly servers (server_of before)) (sym same) h u
early_registers servers before after t j client registration.Refused is same h u = subst (AreEarly servers (server_of before)) (sym same) h u
early_registers servers before after t j client registration.Registered is new h u =
    subst (IsEarlyFate servers (server_of before)) (sym (new.1 u))
    (early_if servers (server_of before) (same_trans t u) (fate_in before u) (registered j (fate_in before u)) (early_registered servers (server_of before) j far (fate_in before u) (h u)) (h u))
  where
    by : (b : Bool) → coord.is_other (server_of before) servers j.server ≡ b → (f : Fate) → registration.Registered ≡ registration_of b j client f → is_other servers (server_of before) j.server ≡ true
    by true e f at = e
    by false e (Running c js) at = go (c == client) at
      where
        go : (d : Bool) → registration.Registered ≡ cond {A = Registration} (d && false) (coord.admitted (has_join j js) (has_server j.server js)) registration.Refused → is_other servers (server_of before) j.server ≡ true
        go true at = let wrong : registration.Registered ≡ registration.Refused = at in cc
        go false at = let wrong : registration.Registered ≡ registration.Refused = at in cc
    by false e Undrawn at = let wrong : registration.Registered ≡ registration.Refused = at in cc
    by false e (Finishing c js vs) at = let wrong : registration.Registered ≡ registration.Refused = at in cc
    by false e (Committed s js ds) at = let wrong : registration.Registered ≡ registration.Refused = at in cc
    by false e (Forgotten s js) at = let wrong : registration.Registered ≡ registration.Refused = at in cc
    by false e (Ended c) at = let wrong : registration.Registered ≡ registration.Refused = at in cc

    known : (b : Bool) → registration.Registered ≡ cond {A = Registration} b (registration_of (coord.is_other (server_of before) servers j.server) j client (fate_in before t)) registration.Silence → is_other servers (server_of before) j.server ≡ true
    known true at = by (coord.is_other (server_of before) servers j.server) refl (fate_in before t) at
    known false at = let wrong : registration.Registered ≡ registration.Silence = at in cc

    far : is_other servers (server_of before) j.server ≡ true
    far = known (is_known before t) is
