-- what stands of a server's parts: facts of it, and how it goes on as a fate, a part or a join moves
use Rattle.std.specs.Prelude.{cond, Bool, true, false, not, ◌&&◌, ◌||◌, ◌==◌, nat_lt, nat_le, find, Option, None, Some}
use Rattle.std.specs.List.{list_any}
use Rattle.std.proofs.lemmas.Bool.{eqb-true, not-true, and_parts, and_from, or_left, or_right, or_parts, leb-true, leb-false, ltb-true, le-leb, lt-ltb}
use Rattle.std.proofs.Common.{inl, inr, ◌⊎◌, ◌≡◌, ℕ, ◌+◌, ◌<◌, ◌≤◌, List, [], ◌∷◌, ◌++◌, refl, sym, ◌∙◌, ap, subst, eq-eqb, arith, le_refl}
use Rattle.alp_base.specs.declared.ids.JoinNo.{JoinNo}
use Rattle.alp_base.specs.declared.ids.TransId.{TransId}
use Rattle.alp_files.proofs.FilesLemmas.{same-some}
use Rattle.alp_journal.specs.Ids.{same_trans, same_join, has_join, is_drawn}
use Rattle.alp_journal.specs.Coordinator.{Fate, Undrawn, Running, Finishing, Committed, Forgotten, Ended, client_of, is_running, decision_in}
use Rattle.alp_journal.specs.Participant.{Phase, Unseen, Joining, Active, Ready, Applied, Over, live_in, open_in}
use Rattle.alp_journal.specs.Holder.{Life}
use Rattle.alp_journal.specs.State.{is_whose, join_for}
use Rattle.alp_journal.specs.Laws.{IsHolding, are_joins_apart}
use Rattle.alp_journal.specs.Moves.{next_trans}
use Rattle.alp_journal.specs.Account.{Account, state_of, IsJoined, IsPartAs, IsPaired, HasLife, is_other, has_trans, are_trans_apart, IsKnown, AreKnown, IsFateOf, IsKnownJoin, IsPhaseOf, HasNoJoin, Stands}
use Rattle.alp_journal.proofs.IdLemmas.{same_trans-true, same_trans-itself, same_join-true, or-true}
use Rattle.alp_journal.proofs.WaitLemmas.{turned}

-- ---- ids

pub same_join-itself : (j : JoinNo) → same_join j j ≡ true
same_join-itself j =
    ap (λ (b : Bool). b && j.epoch == j.epoch && j.counter == j.counter) (eq-eqb j.server j.server refl)
    ∙ ap (λ (b : Bool). b && j.counter == j.counter) (eq-eqb j.epoch j.epoch refl) ∙ eq-eqb j.counter j.counter refl

-- what was drawn here is of this server
pub own_server : (server epoch count : ℕ) (t : TransId) → is_drawn server epoch count t.server t.epoch t.counter ≡ true → t.server ≡ server
own_server server epoch count t e =
    let whole = and_parts (t.server == server && nat_lt 0 t.epoch && nat_lt 0 t.counter) (nat_lt t.epoch epoch || (t.epoch == epoch && nat_le t.counter count)) e in
    let front = and_parts (t.server == server && nat_lt 0 t.epoch) (nat_lt 0 t.counter) whole.0 in
    let first = and_parts (t.server == server) (nat_lt 0 t.epoch) front.0 in
    eqb-true t.server server first.0

-- what was drawn is so as more are
pub drawn_more : (here now n m server epoch counter : ℕ) → n ≤ m → is_drawn here now n server epoch counter ≡ true → is_drawn here now m server epoch counter ≡ true
drawn_more here now n m server epoch counter more e =
    let whole = and_parts (server == here && nat_lt 0 epoch && nat_lt 0 counter) (nat_lt epoch now || (epoch == now && nat_le counter n)) e in
    and_from (server == here && nat_lt 0 epoch && nat_lt 0 counter) (nat_lt epoch now || (epoch == now && nat_le counter m)) whole.0
    (elim (or-true (nat_lt epoch now) (epoch == now && nat_le counter n) whole.1) [
      | inl older ↦ or_left (nat_lt epoch now) (epoch == now && nat_le counter m) older
      | inr last ↦ (
          let both = and_parts (epoch == now) (nat_le counter n) last in
          let low : counter ≤ n = leb-true counter n both.1 in
          or_right (nat_lt epoch now) (epoch == now && nat_le counter m) (and_from (epoch == now) (nat_le counter m) both.0 (le-leb counter m (omega (arith, low, more))))
          )
    ])

-- and in the next epoch
pub drawn_older : (here now n server epoch counter : ℕ) → is_drawn here now n server epoch counter ≡ true → is_drawn here (now + 1) 0 server epoch counter ≡ true
drawn_older here now n server epoch counter e =
    let whole = and_parts (server == here && nat_lt 0 epoch && nat_lt 0 counter) (nat_lt epoch now || (epoch == now && nat_le counter n)) e in
    and_from (server == here && nat_lt 0 epoch && nat_lt 0 counter) (nat_lt epoch (now + 1) || (epoch == now + 1 && nat_le counter 0)) whole.0
    (or_left (nat_lt epoch (now + 1)) (epoch == now + 1 && nat_le counter 0) (lt-ltb epoch (now + 1) (elim (or-true (nat_lt epoch now) (epoch == now && nat_le counter n) whole.1) [
      | inl older ↦ (let low : epoch < now = ltb-true epoch now older in omega (arith, low))
      | inr last ↦ (let same : epoch ≡ now = eqb-true epoch now (and_parts (epoch == now) (nat_le counter n) last).0 in omega (arith, same))
    ])))

-- the next one is drawn then, and was not before
pub drawn_next : (here now n : ℕ) → 0 < now → is_drawn here now (n + 1) here now (n + 1) ≡ true
drawn_next here now n raised =
    and_from (here == here && nat_lt 0 now && nat_lt 0 (n + 1)) (nat_lt now now || (now == now && nat_le (n + 1) (n + 1)))
    (and_from (here == here && nat_lt 0 now) (nat_lt 0 (n + 1)) (and_from (here == here) (nat_lt 0 now) (eq-eqb here here refl) (lt-ltb 0 now raised)) (lt-ltb 0 (n + 1) (omega arith)))
    (or_right (nat_lt now now) (now == now && nat_le (n + 1) (n + 1)) (and_from (now == now) (nat_le (n + 1) (n + 1)) (eq-eqb now now refl) (le-leb (n + 1) (n + 1) (le_refl (n + 1)))))

pub next_undrawn : (here now n : ℕ) → is_drawn here now n here now (n + 1) ≡ true → ⊥
next_undrawn here now n e =
    let whole = and_parts (here == here && nat_lt 0 now && nat_lt 0 (n + 1)) (nat_lt now now || (now == now && nat_le (n + 1) n)) e in
    elim (or-true (nat_lt now now) (now == now && nat_le (n + 1) n) whole.1) [
      | inl older ↦ (let wrong : now < now = ltb-true now now older in omega (arith, wrong))
      | inr last ↦ (let wrong : n + 1 ≤ n = leb-true (n + 1) n (and_parts (now == now) (nat_le (n + 1) n) last).1 in omega (arith, wrong))
    ]

-- ---- lists of ids

pub any-last : {A : Type 0} (p : A → Bool) (xs : List A) (x : A) → list_any p (xs ++ x ∷ []) ≡ (list_any p xs || p x)
any-last p [] x = go (p x)
  where
    go : (b : Bool) → (b || false) ≡ b
    go true = refl
    go false = refl
any-last p (y ∷ xs) x = go (p y) (any-last p xs x)
  where
    go : (b : Bool) → list_any p (xs ++ x ∷ []) ≡ (list_any p xs || p x) → (b || list_any p (xs ++ x ∷ [])) ≡ ((b || list_any p xs) || p x)
    go true e = refl
    go false e = e

-- one more that was not named
pub trans-last : (ts : List TransId) (t : TransId) → are_trans_apart ts ≡ true → has_trans t ts ≡ false → are_trans_apart (ts ++ t ∷ []) ≡ true
trans-last [] t h none = refl
trans-last (u ∷ ts) t h none =
    let both = and_parts (not (has_trans u ts)) (are_trans_apart ts) h in
    let away = or_parts (same_trans u t) (has_trans t ts) none in
    and_from (not (has_trans u (ts ++ t ∷ []))) (are_trans_apart (ts ++ t ∷ []))
    (ap not (any-last (λ v. same_trans v u) ts t ∙ (λ i. not-true (has_trans u ts) both.0 i || (turned t u ∙ away.0) i))) (trans-last ts t both.1 away.1)

pub join_turned : (j k : JoinNo) → same_join j k ≡ same_join k j
join_turned j k = go (same_join j k) (same_join k j) refl refl
  where
    go : (b d : Bool) → same_join j k ≡ b → same_join k j ≡ d → b ≡ d
    go true true e f = refl
    go false false e f = refl
    go true false e f = let wrong : true ≡ false = sym (ap (same_join k) (same_join-true j k e) ∙ same_join-itself k) ∙ f in cc
    go false true e f = let wrong : false ≡ true = sym e ∙ ap (same_join j) (same_join-true k j f) ∙ same_join-itself j in cc

pub joins-last : (js : List JoinNo) (j : JoinNo) → are_joins_apart js ≡ true → has_join j js ≡ false → are_joins_apart (js ++ j ∷ []) ≡ true
joins-last [] j h none = refl
joins-last (k ∷ js) j h none =
    let both = and_parts (not (has_join k js)) (are_joins_apart js) h in
    let away = or_parts (same_join k j) (has_join j js) none in
    and_from (not (has_join k (js ++ j ∷ []))) (are_joins_apart (js ++ j ∷ []))
    (ap not (any-last (λ i. same_join i k) js j ∙ (λ i. not-true (has_join k js) both.0 i || (join_turned j k ∙ away.0) i))) (joins-last js j both.1 away.1)

-- one more is drawn, and named
pub known_next : (here now n : ℕ) (begun : List TransId) → AreKnown here now n begun → AreKnown here now (n + 1) (begun ++ (record { server = here; epoch = now; counter = n + 1 }) ∷ [])
known_next here now n begun all t same e = any-last (λ u. same_trans u t) begun (record { server = here; epoch = now; counter = n + 1 }) ∙ go (nat_le t.counter n) refl
  where
    whole : ((t.server == here && nat_lt 0 t.epoch && nat_lt 0 t.counter) ≡ true) × ((nat_lt t.epoch now || (t.epoch == now && nat_le t.counter (n + 1))) ≡ true)
    whole = and_parts (t.server == here && nat_lt 0 t.epoch && nat_lt 0 t.counter) (nat_lt t.epoch now || (t.epoch == now && nat_le t.counter (n + 1))) e

    own : t.server ≡ here
    own = own_server here now (n + 1) t e

    reached : t.counter ≤ n + 1
    reached = elim (or-true (nat_lt t.epoch now) (t.epoch == now && nat_le t.counter (n + 1)) whole.1) [
      | inl older ↦ (let wrong : t.epoch < now = ltb-true t.epoch now older in absurd (omega (arith, wrong, same)))
      | inr last ↦ leb-true t.counter (n + 1) (and_parts (t.epoch == now) (nat_le t.counter (n + 1)) last).1
    ]

    go : (b : Bool) → nat_le t.counter n ≡ b → (has_trans t begun || same_trans (record { server = here; epoch = now; counter = n + 1 }) t) ≡ true
    go true low = or_left (has_trans t begun) (same_trans (record { server = here; epoch = now; counter = n + 1 }) t)
        (all t same (and_from (t.server == here && nat_lt 0 t.epoch && nat_lt 0 t.counter) (nat_lt t.epoch now || (t.epoch == now && nat_le t.counter n)) whole.0
        (or_right (nat_lt t.epoch now) (t.epoch == now && nat_le t.counter n) (and_from (t.epoch == now) (nat_le t.counter n) (eq-eqb t.epoch now same) low))))
    go false high =
        let above : n < t.counter = leb-false t.counter n high in
        let last : n + 1 ≡ t.counter = omega (arith, above, reached) in
        or_right (has_trans t begun) (same_trans (record { server = here; epoch = now; counter = n + 1 }) t)
        (and_from (here == t.server && now == t.epoch) (n + 1 == t.counter) (and_from (here == t.server) (now == t.epoch) (eq-eqb here t.server (sym own)) (eq-eqb now t.epoch (sym same))) (eq-eqb (n + 1) t.counter last))

-- none is drawn as an epoch begins
pub none_known : (here now : ℕ) (begun : List TransId) → AreKnown here now 0 begun
none_known here now begun t same e =
    let whole = and_parts (t.server == here && nat_lt 0 t.epoch && nat_lt 0 t.counter) (nat_lt t.epoch now || (t.epoch == now && nat_le t.counter 0)) e in
    let first : 0 < t.counter = ltb-true 0 t.counter (and_parts (t.server == here && nat_lt 0 t.epoch) (nat_lt 0 t.counter) whole.0).1 in
    elim (or-true (nat_lt t.epoch now) (t.epoch == now && nat_le t.counter 0) whole.1) [
      | inl older ↦ (let wrong : t.epoch < now = ltb-true t.epoch now older in absurd (omega (arith, wrong, same)))
      | inr last ↦ (let wrong : t.counter ≤ 0 = leb-true t.counter 0 (and_parts (t.epoch == now) (nat_le t.counter 0) last).1 in absurd (omega (arith, wrong, first)))
    ]

-- what was drawn here and has no fate is of an older epoch
pub undrawn_older : (servers here now n : ℕ) (begun : List TransId) (t : TransId) (f : Fate) → AreKnown here now n begun → is_drawn here now n t.server t.epoch t.counter ≡ true → f ≡ Undrawn → IsFateOf servers here now n begun t f → t.epoch < now
undrawn_older servers here now n begun t f all e new of =
    let whole = and_parts (t.server == here && nat_lt 0 t.epoch && nat_lt 0 t.counter) (nat_lt t.epoch now || (t.epoch == now && nat_le t.counter n)) e in
    elim (or-true (nat_lt t.epoch now) (t.epoch == now && nat_le t.counter n) whole.1) [
      | inl older ↦ ltb-true t.epoch now older
      | inr last ↦ (
          let none : has_trans t begun ≡ false = subst (IsFateOf servers here now n begun t) new of in
          let wrong : false ≡ true = sym none ∙ all t (eqb-true t.epoch now (and_parts (t.epoch == now) (nat_le t.counter n) last).0) e in
          cc
          )
    ]

-- another server is not this one
pub not_own_server : (servers server n : ℕ) → is_other servers server n ≡ true → (n == server) ≡ false
not_own_server servers server n e = not-true (n == server) ((and_parts (nat_lt 0 n && nat_lt n (servers + 1)) (not (n == server)) e).1)

pub not_both_servers : (servers server n : ℕ) → is_other servers server n ≡ true → n ≡ server → ⊥
not_both_servers servers server n other own = let wrong : false ≡ true = sym (not_own_server servers server n other) ∙ eq-eqb n server own in cc

-- ---- each of all fates, and of all phases, where one moves

pub moved_all : (P : TransId → Fate → Type 0) (fates : TransId → Fate) (t : TransId) (move : Fate → Fate) → ((u : TransId) → same_trans t u ≡ false → P u (fates u)) → P t (move (fates t))
    → (u : TransId) → P u (cond {A = Fate} (same_trans t u) (move (fates u)) (fates u))
moved_all P fates t move all this u = go (same_trans t u) refl
  where
    go : (b : Bool) → same_trans t u ≡ b → P u (cond {A = Fate} b (move (fates u)) (fates u))
    go true e = subst (λ (v : TransId). P v (move (fates v))) (same_trans-true t u e) this
    go false e = all u e

pub moved_each : (P : JoinNo → Phase → Type 0) (phases : JoinNo → Phase) (j : JoinNo) (move : Phase → Phase) → ((k : JoinNo) → same_join j k ≡ false → P k (phases k)) → P j (move (phases j))
    → (k : JoinNo) → P k (cond {A = Phase} (same_join j k) (move (phases k)) (phases k))
moved_each P phases j move all this k = go (same_join j k) refl
  where
    go : (b : Bool) → same_join j k ≡ b → P k (cond {A = Phase} b (move (phases k)) (phases k))
    go true e = subst (λ (i : JoinNo). P i (move (phases i))) (same_join-true j k e) this
    go false e = all k e

pub moved_phase : (phases : JoinNo → Phase) (j : JoinNo) (move : Phase → Phase) → cond {A = Phase} (same_join j j) (move (phases j)) (phases j) ≡ move (phases j)
moved_phase phases j move = ap (λ (b : Bool). cond {A = Phase} b (move (phases j)) (phases j)) (same_join-itself j)

pub moved_fate : (fates : TransId → Fate) (t : TransId) (move : Fate → Fate) → cond {A = Fate} (same_trans t t) (move (fates t)) (fates t) ≡ move (fates t)
moved_fate fates t move = ap (λ (b : Bool). cond {A = Fate} b (move (fates t)) (fates t)) (same_trans-itself t)

-- what was known is so as more are drawn and named
pub known_more : (server epoch count now : ℕ) (begun more : List TransId) (t : TransId) → count ≤ now → has_trans t begun ≡ has_trans t more → IsKnown server epoch count begun t → IsKnown server epoch now more t
known_more server epoch count now begun more t grows named h = (drawn_more server epoch count now t.server t.epoch t.counter grows h.0, sym named ∙ h.1)

pub fate_more : (servers server epoch count now : ℕ) (begun more : List TransId) (t : TransId) (f : Fate) → count ≤ now → has_trans t begun ≡ has_trans t more → IsFateOf servers server epoch count begun t f → IsFateOf servers server epoch now more t f
fate_more servers server epoch count now begun more t Undrawn grows named h = sym named ∙ h
fate_more servers server epoch count now begun more t (Running c js) grows named h = (known_more server epoch count now begun more t grows named h.0, h.1, h.2)
fate_more servers server epoch count now begun more t (Finishing c js vs) grows named h = (known_more server epoch count now begun more t grows named h.0, h.1, h.2, h.3)
fate_more servers server epoch count now begun more t (Committed stamp js ds) grows named h = (known_more server epoch count now begun more t grows named h.0, h.1)
fate_more servers server epoch count now begun more t (Forgotten stamp js) grows named h = (known_more server epoch count now begun more t grows named h.0, h.1)
fate_more servers server epoch count now begun more t (Ended c) grows named h = known_more server epoch count now begun more t grows named h

pub join_more : (server epoch count now : ℕ) (joined more : List JoinNo) (j : JoinNo) → count ≤ now → has_join j joined ≡ has_join j more → IsKnownJoin server epoch count joined j → IsKnownJoin server epoch now more j
join_more server epoch count now joined more j grows named h = (drawn_more server epoch count now j.server j.epoch j.counter grows h.0, sym named ∙ h.1)

pub phase_more : (servers server epoch count now : ℕ) (joined more : List JoinNo) (j : JoinNo) (p : Phase) → count ≤ now → has_join j joined ≡ has_join j more → IsPhaseOf servers server epoch count joined j p → IsPhaseOf servers server epoch now more j p
phase_more servers server epoch count now joined more j Unseen grows named h = sym named ∙ h
phase_more servers server epoch count now joined more j (Joining t c who) grows named h = (join_more server epoch count now joined more j grows named h.0, h.1)
phase_more servers server epoch count now joined more j (Active t c who) grows named h = (join_more server epoch count now joined more j grows named h.0, h.1)
phase_more servers server epoch count now joined more j (Ready t c ts) grows named h = (join_more server epoch count now joined more j grows named h.0, h.1)
phase_more servers server epoch count now joined more j (Applied t stamp) grows named h = join_more server epoch count now joined more j grows named h
phase_more servers server epoch count now joined more j Over grows named h = join_more server epoch count now joined more j grows named h

-- one that was not drawn has no fate yet
pub undrawn_fate : (servers server epoch count : ℕ) (begun : List TransId) (t : TransId) (f : Fate) → (IsKnown server epoch count begun t → ⊥) → IsFateOf servers server epoch count begun t f → f ≡ Undrawn
undrawn_fate servers server epoch count begun t Undrawn none h = refl
undrawn_fate servers server epoch count begun t (Running c js) none h = absurd (none h.0)
undrawn_fate servers server epoch count begun t (Finishing c js vs) none h = absurd (none h.0)
undrawn_fate servers server epoch count begun t (Committed stamp js ds) none h = absurd (none h.0)
undrawn_fate servers server epoch count begun t (Forgotten stamp js) none h = absurd (none h.0)
undrawn_fate servers server epoch count begun t (Ended c) none h = absurd (none h)

-- ---- a fate that runs

pub running_of : (f : Fate) (client : ℕ) → client_of f ≡ Some client → is_running f ≡ true
running_of Undrawn client is = let wrong : None ≡ Some client = is in cc
running_of (Running c js) client is = refl
running_of (Finishing c js vs) client is = refl
running_of (Committed stamp js ds) client is = let wrong : None ≡ Some client = is in cc
running_of (Forgotten stamp js) client is = let wrong : None ≡ Some client = is in cc
running_of (Ended c) client is = let wrong : None ≡ Some client = is in cc

pub known_running : (servers server epoch count : ℕ) (begun : List TransId) (t : TransId) (f : Fate) → is_running f ≡ true → IsFateOf servers server epoch count begun t f → IsKnown server epoch count begun t
known_running servers server epoch count begun t Undrawn is h = let wrong : false ≡ true = is in cc
known_running servers server epoch count begun t (Running c js) is h = h.0
known_running servers server epoch count begun t (Finishing c js vs) is h = h.0
known_running servers server epoch count begun t (Committed stamp js ds) is h = let wrong : false ≡ true = is in cc
known_running servers server epoch count begun t (Forgotten stamp js) is h = let wrong : false ≡ true = is in cc
known_running servers server epoch count begun t (Ended c) is h = let wrong : false ≡ true = is in cc

-- a transaction of another server is not decided here
pub undecided_far : (servers server epoch count : ℕ) (begun : List TransId) (t : TransId) (f : Fate) → is_other servers server t.server ≡ true → IsFateOf servers server epoch count begun t f → decision_in f ≡ None
undecided_far servers server epoch count begun t Undrawn far h = refl
undecided_far servers server epoch count begun t (Running c js) far h = refl
undecided_far servers server epoch count begun t (Finishing c js vs) far h = refl
undecided_far servers server epoch count begun t (Committed stamp js ds) far h = absurd (not_both_servers servers server t.server far (own_server server epoch count t h.0.0))
undecided_far servers server epoch count begun t (Forgotten stamp js) far h = absurd (not_both_servers servers server t.server far (own_server server epoch count t h.0.0))
undecided_far servers server epoch count begun t (Ended c) far h = refl

pub undecided_running : (f : Fate) → is_running f ≡ true → decision_in f ≡ None
undecided_running Undrawn is = refl
undecided_running (Running c js) is = refl
undecided_running (Finishing c js vs) is = refl
undecided_running (Committed stamp js ds) is = let wrong : false ≡ true = is in cc
undecided_running (Forgotten stamp js) is = let wrong : false ≡ true = is in cc
undecided_running (Ended c) is = refl

-- a join that holds a part is of a transaction of another server
pub far_of_held : (servers server epoch count : ℕ) (joined : List JoinNo) (j : JoinNo) (t : TransId) (p : Phase) → IsHolding t p → IsPhaseOf servers server epoch count joined j p → is_other servers server t.server ≡ true
far_of_held servers server epoch count joined j t Unseen h k = absurd h
far_of_held servers server epoch count joined j t (Joining v c who) h k = absurd h
far_of_held servers server epoch count joined j t (Active v c who) h k = ap (λ (u : TransId). is_other servers server u.server) (sym h) ∙ k.1
far_of_held servers server epoch count joined j t (Ready v c ts) h k = ap (λ (u : TransId). is_other servers server u.server) (sym h) ∙ k.1
far_of_held servers server epoch count joined j t (Applied v stamp) h k = absurd h
far_of_held servers server epoch count joined j t Over h k = absurd h

-- and so is one that is live
pub far_of_live : (servers server epoch count : ℕ) (joined : List JoinNo) (j : JoinNo) (client : ℕ) (t : TransId) (p : Phase) → is_whose client t (live_in p) ≡ true → IsPhaseOf servers server epoch count joined j p → is_other servers server t.server ≡ true
far_of_live servers server epoch count joined j client t p h k = go p h k
  where
    of : (u : TransId) (c : ℕ) → (same_trans u t && c == client) ≡ true → is_other servers server u.server ≡ true → is_other servers server t.server ≡ true
    of u c e far = ap (λ (v : TransId). is_other servers server v.server) (sym (same_trans-true u t (and_parts (same_trans u t) (c == client) e).0)) ∙ far

    go : (p : Phase) → is_whose client t (live_in p) ≡ true → IsPhaseOf servers server epoch count joined j p → is_other servers server t.server ≡ true
    go Unseen h k = let wrong : false ≡ true = h in cc
    go (Joining v c who) h k = of v c h k.1
    go (Active v c who) h k = of v c h k.1
    go (Ready v c ts) h k = of v c h k.1
    go (Applied v stamp) h k = let wrong : false ≡ true = h in cc
    go Over h k = let wrong : false ≡ true = h in cc

-- one that did not vote is live
pub live_of_open : (client : ℕ) (t : TransId) (p : Phase) → is_whose client t (open_in p) ≡ true → is_whose client t (live_in p) ≡ true
live_of_open client t Unseen h = h
live_of_open client t (Joining v c who) h = h
live_of_open client t (Active v c who) h = h
live_of_open client t (Ready v c ts) h = let wrong : false ≡ true = h in cc
live_of_open client t (Applied v stamp) h = h
live_of_open client t Over h = h

-- it is that transaction's and that client's
pub whose : (client : ℕ) (t : TransId) (x : Option (TransId × ℕ)) → is_whose client t x ≡ true → x ≡ Some (t, client)
whose client t None e = let wrong : false ≡ true = e in cc
whose client t (Some x) e =
    let both = and_parts (same_trans x.0 t) (x.1 == client) e in
    ap Some (λ i. (same_trans-true x.0 t both.0 i, eqb-true x.1 client both.1 i))

pub whose_own : (client : ℕ) (t : TransId) → is_whose client t (Some (t, client)) ≡ true
whose_own client t = ap (λ (b : Bool). b && client == client) (same_trans-itself t) ∙ eq-eqb client client refl

-- ---- parts that are alike

joined-like : (t : TransId) (l k : Life) (p : Phase) → k.client ≡ l.client → k.who ≡ l.who → k.vote ≡ l.vote → k.is_early ≡ l.is_early → IsJoined t l p → IsJoined t k p
joined-like t l k p client who vote early h = elim h [
  | inl x ↦ inl (x.0 ∙ (λ i. Active t (sym client i) (sym who i)), vote ∙ x.1, early ∙ x.2)
  | inr x ↦ inr (x.0, x.1 ∙ (λ i. Ready t (sym client i) x.0), vote ∙ x.2)
]

-- nothing counts but whose it is, and whether it voted
pub part-like : (t : TransId) (phases : JoinNo → Phase) (l k : Life) (f : Fate) → k.join ≡ l.join → k.client ≡ l.client → k.who ≡ l.who → k.vote ≡ l.vote → k.is_early ≡ l.is_early
    → IsPaired t phases (Some l) f → IsPaired t phases (Some k) f
part-like t phases l k f join client who vote early h = subst (IsPartAs t phases k f) (sym join) (go l.join h)
  where
    go : (x : Option JoinNo) → IsPartAs t phases l f x → IsPartAs t phases k f x
    go None h = (h.0 ∙ ap Some (sym client), vote ∙ h.1, early ∙ h.2)
    go (Some j) h = (joined-like t l k (phases j) client who vote early h.0, h.1)

-- a part without a join is paired so
pub own_part_is : (t : TransId) (phases : JoinNo → Phase) (l : Life) (f : Fate) → l.join ≡ None → IsPaired t phases (Some l) f → (client_of f ≡ Some l.client) × (l.vote ≡ None) × (l.is_early ≡ false)
own_part_is t phases l f none h = subst (IsPartAs t phases l f) none h

-- and one with a join so
pub join_part_is : (t : TransId) (phases : JoinNo → Phase) (l : Life) (f : Fate) (j : JoinNo) → l.join ≡ Some j → IsPaired t phases (Some l) f → IsJoined t l (phases j) × (is_running f ≡ false)
join_part_is t phases l f j is h = subst (IsPartAs t phases l f) is h

-- the part of a transaction that runs has no join
pub own_of_running : (t : TransId) (phases : JoinNo → Phase) (l : Life) (f : Fate) → is_running f ≡ true → IsPaired t phases (Some l) f → l.join ≡ None
own_of_running t phases l f runs h = go l.join refl h
  where
    go : (x : Option JoinNo) → l.join ≡ x → IsPartAs t phases l f x → x ≡ None
    go None e h = refl
    go (Some j) e h = let wrong : true ≡ false = sym runs ∙ h.1 in cc

-- ---- joins that hold a part

pub holding_of : (t : TransId) (l : Life) (p : Phase) → IsJoined t l p → IsHolding t p
holding_of t l p h = elim h [
  | inl x ↦ subst (IsHolding t) (sym x.0) refl
  | inr x ↦ subst (IsHolding t) (sym x.1) refl
]

pub one_held : (t u : TransId) (p : Phase) → IsHolding t p → IsHolding u p → t ≡ u
one_held t u Unseen h k = absurd h
one_held t u (Joining v c who) h k = absurd h
one_held t u (Active v c who) h k = sym h ∙ k
one_held t u (Ready v c ts) h k = sym h ∙ k
one_held t u (Applied v stamp) h k = absurd h
one_held t u Over h k = absurd h

-- the part of a join that holds one
pub its_life : (lives : TransId → Option Life) (t : TransId) (j : JoinNo) (p : Phase) → IsHolding t p → HasLife lives j p → (l : Life) × (lives t ≡ Some l) × (l.join ≡ Some j)
its_life lives t j Unseen h k = absurd h
its_life lives t j (Joining v c who) h k = absurd h
its_life lives t j (Active v c who) h k = subst (λ (u : TransId). (l : Life) × (lives u ≡ Some l) × (l.join ≡ Some j)) h k
its_life lives t j (Ready v c ts) h k = subst (λ (u : TransId). (l : Life) × (lives u ≡ Some l) × (l.join ≡ Some j)) h k
its_life lives t j (Applied v stamp) h k = absurd h
its_life lives t j Over h k = absurd h

-- ---- lives where one is another now

-- each transaction but one is paired as it was, and that one is so; the fates move by ids that compare the other way round
pub paired_set : (phases : JoinNo → Phase) (lives : TransId → Option Life) (fates : TransId → Fate) (t : TransId) (life : Option Life) (move : Fate → Fate)
    → ((u : TransId) → IsPaired u phases (lives u) (fates u)) → IsPaired t phases life (move (fates t))
    → (u : TransId) → IsPaired u phases (cond {A = Option Life} (same_trans u t) life (lives u)) (cond {A = Fate} (same_trans t u) (move (fates u)) (fates u))
paired_set phases lives fates t life move all this u = go (same_trans u t) (same_trans t u) refl refl
  where
    go : (b d : Bool) → same_trans u t ≡ b → same_trans t u ≡ d → IsPaired u phases (cond {A = Option Life} b life (lives u)) (cond {A = Fate} d (move (fates u)) (fates u))
    go true true e f = subst (λ (v : TransId). IsPaired v phases life (move (fates v))) (sym (same_trans-true u t e)) this
    go false false e f = all u
    go true false e f = let wrong : true ≡ false = sym (same_trans-itself t) ∙ ap (same_trans t) (sym (same_trans-true u t e)) ∙ f in cc
    go false true e f = let wrong : true ≡ false = sym (same_trans-itself t) ∙ ap (λ (v : TransId). same_trans v t) (same_trans-true t u f) ∙ e in cc

-- each is paired as it was, where one goes on
pub paired_kept : (phases : JoinNo → Phase) (lives : TransId → Option Life) (fates : TransId → Fate) (t : TransId) (life : Option Life) → ((u : TransId) → IsPaired u phases (lives u) (fates u)) → IsPaired t phases life (fates t)
    → (u : TransId) → IsPaired u phases (cond {A = Option Life} (same_trans u t) life (lives u)) (fates u)
paired_kept phases lives fates t life all this u = go (same_trans u t) refl
  where
    go : (b : Bool) → same_trans u t ≡ b → IsPaired u phases (cond {A = Option Life} b life (lives u)) (fates u)
    go true e = subst (λ (v : TransId). IsPaired v phases life (fates v)) (sym (same_trans-true u t e)) this
    go false e = all u

-- a part is paired as it was where its join is as it was
pub paired-as : (phases now : JoinNo → Phase) (u : TransId) (x : Option Life) (f : Fate) → ((l : Life) (k : JoinNo) → x ≡ Some l → l.join ≡ Some k → now k ≡ phases k) → IsPaired u phases x f → IsPaired u now x f
paired-as phases now u None f same h = h
paired-as phases now u (Some l) f same h = go l.join refl h
  where
    go : (x : Option JoinNo) → l.join ≡ x → IsPartAs u phases l f x → IsPartAs u now l f x
    go None e h = h
    go (Some k) e h = (subst (IsJoined u l) (sym (same l k refl e)) h.0, h.1)

-- The phase of a join moves, and the part of its transaction is another now. Each is paired as it was where that one is so, and no
-- other transaction's part was the join's.
pub paired_moved : (phases : JoinNo → Phase) (lives : TransId → Option Life) (fates : TransId → Fate) (t : TransId) (life : Option Life) (j : JoinNo) (move : Phase → Phase)
    → ((u : TransId) → IsPaired u phases (lives u) (fates u)) → ((u : TransId) → same_trans u t ≡ false → IsHolding u (phases j) → ⊥)
    → IsPaired t (λ k. cond {A = Phase} (same_join j k) (move (phases k)) (phases k)) life (fates t)
    → (u : TransId) → IsPaired u (λ k. cond {A = Phase} (same_join j k) (move (phases k)) (phases k)) (cond {A = Option Life} (same_trans u t) life (lives u)) (fates u)
paired_moved phases lives fates t life j move all alien this u = go (same_trans u t) refl
  where
    as_was : same_trans u t ≡ false → (l : Life) (k : JoinNo) → lives u ≡ Some l → l.join ≡ Some k → (b : Bool) → same_join j k ≡ b → cond {A = Phase} b (move (phases k)) (phases k) ≡ phases k
    as_was away l k live of false e = refl
    as_was away l k live of true e =
        let pair : IsPaired u phases (Some l) (fates u) = subst (λ (x : Option Life). IsPaired u phases x (fates u)) live (all u) in
        let mine : IsJoined u l (phases k) = (join_part_is u phases l (fates u) k of pair).0 in
        absurd (alien u away (subst (λ (i : JoinNo). IsHolding u (phases i)) (sym (same_join-true j k e)) (holding_of u l (phases k) mine)))

    go : (b : Bool) → same_trans u t ≡ b → IsPaired u (λ k. cond {A = Phase} (same_join j k) (move (phases k)) (phases k)) (cond {A = Option Life} b life (lives u)) (fates u)
    go true e = subst (λ (v : TransId). IsPaired v (λ k. cond {A = Phase} (same_join j k) (move (phases k)) (phases k)) life (fates v)) (sym (same_trans-true u t e)) this
    go false e = paired-as phases (λ k. cond {A = Phase} (same_join j k) (move (phases k)) (phases k)) u (lives u) (fates u) (λ l k live of. as_was e l k live of (same_join j k) refl) (all u)

-- and where no part was the join's, each is as it was
pub paired_free : (phases : JoinNo → Phase) (lives : TransId → Option Life) (fates : TransId → Fate) (j : JoinNo) (move : Phase → Phase) → ((u : TransId) → IsPaired u phases (lives u) (fates u)) → ((u : TransId) → IsHolding u (phases j) → ⊥)
    → (u : TransId) → IsPaired u (λ k. cond {A = Phase} (same_join j k) (move (phases k)) (phases k)) (lives u) (fates u)
paired_free phases lives fates j move all alien u =
    paired-as phases (λ k. cond {A = Phase} (same_join j k) (move (phases k)) (phases k)) u (lives u) (fates u) (λ l k live of. as_was l k live of (same_join j k) refl) (all u)
  where
    as_was : (l : Life) (k : JoinNo) → lives u ≡ Some l → l.join ≡ Some k → (b : Bool) → same_join j k ≡ b → cond {A = Phase} b (move (phases k)) (phases k) ≡ phases k
    as_was l k live of false e = refl
    as_was l k live of true e =
        let pair : IsPaired u phases (Some l) (fates u) = subst (λ (x : Option Life). IsPaired u phases x (fates u)) live (all u) in
        absurd (alien u (subst (λ (i : JoinNo). IsHolding u (phases i)) (sym (same_join-true j k e)) (holding_of u l (phases k) (join_part_is u phases l (fates u) k of pair).0)))

-- a part is paired as it was where its fate runs as it did, for the same client
pub pair-fate : (t : TransId) (phases : JoinNo → Phase) (x : Option Life) (f g : Fate) → client_of g ≡ client_of f → is_running g ≡ is_running f → IsPaired t phases x f → IsPaired t phases x g
pair-fate t phases None f g client runs h = runs ∙ h
pair-fate t phases (Some l) f g client runs h = go l.join h
  where
    go : (x : Option JoinNo) → IsPartAs t phases l f x → IsPartAs t phases l g x
    go None k = (client ∙ k.0, k.1, k.2)
    go (Some j) k = (k.0, runs ∙ k.1)

-- each join has its part where that one goes on with its join
pub held_kept : (lives : TransId → Option Life) (t : TransId) (l k : Life) → lives t ≡ Some l → k.join ≡ l.join → (j : JoinNo) (p : Phase) → HasLife lives j p → HasLife (λ u. cond {A = Option Life} (same_trans u t) (Some k) (lives u)) j p
held_kept lives t l k live same j p h = by p h
  where
    one : (v : TransId) → (m : Life) × (lives v ≡ Some m) × (m.join ≡ Some j) → (m : Life) × (cond {A = Option Life} (same_trans v t) (Some k) (lives v) ≡ Some m) × (m.join ≡ Some j)
    one v h = go (same_trans v t) refl
      where
        go : (b : Bool) → same_trans v t ≡ b → (m : Life) × (cond {A = Option Life} b (Some k) (lives v) ≡ Some m) × (m.join ≡ Some j)
        go true e = (k, refl, same ∙ ap (λ (x : Life). x.join) (same-some l h.0 (sym live ∙ ap lives (sym (same_trans-true v t e)) ∙ h.1)) ∙ h.2)
        go false e = h

    by : (p : Phase) → HasLife lives j p → HasLife (λ u. cond {A = Option Life} (same_trans u t) (Some k) (lives u)) j p
    by Unseen h = tt
    by (Joining v c who) h = tt
    by (Active v c who) h = one v h
    by (Ready v c ts) h = one v h
    by (Applied v stamp) h = tt
    by Over h = tt

-- and where one comes or goes that is of no join
pub held_set : (lives : TransId → Option Life) (t : TransId) (life : Option Life) (j : JoinNo) (p : Phase) → (IsHolding t p → ⊥) → HasLife lives j p → HasLife (λ u. cond {A = Option Life} (same_trans u t) life (lives u)) j p
held_set lives t life j p none h = by p none h
  where
    one : (v : TransId) → (v ≡ t → ⊥) → (m : Life) × (lives v ≡ Some m) × (m.join ≡ Some j) → (m : Life) × (cond {A = Option Life} (same_trans v t) life (lives v) ≡ Some m) × (m.join ≡ Some j)
    one v away h = go (same_trans v t) refl
      where
        go : (b : Bool) → same_trans v t ≡ b → (m : Life) × (cond {A = Option Life} b life (lives v) ≡ Some m) × (m.join ≡ Some j)
        go true e = absurd (away (same_trans-true v t e))
        go false e = h

    by : (p : Phase) → (IsHolding t p → ⊥) → HasLife lives j p → HasLife (λ u. cond {A = Option Life} (same_trans u t) life (lives u)) j p
    by Unseen none h = tt
    by (Joining v c who) none h = tt
    by (Active v c who) none h = one v none h
    by (Ready v c ts) none h = one v none h
    by (Applied v stamp) none h = tt
    by Over none h = tt

-- ---- of what stands

module _ (a : Account) (q : Stands a) where
  -- no live join is of a transaction of this server
  pub no_own_join : (t : TransId) → t.server ≡ a.holder.server → (client : ℕ) → HasNoJoin a.phases client t
  no_own_join t here client j = go (a.phases j) (q.phases j)
    where
      away : (u : TransId) (c : ℕ) → is_other a.servers a.holder.server u.server ≡ true → (b : Bool) → same_trans u t ≡ b → (b && c == client) ≡ false
      away u c far false e = refl
      away u c far true e = absurd (not_both_servers a.servers a.holder.server u.server far (ap (λ (v : TransId). v.server) (same_trans-true u t e) ∙ here))

      go : (p : Phase) → IsPhaseOf a.servers a.holder.server a.ids.epoch a.ids.joins a.joined j p → is_whose client t (live_in p) ≡ false
      go Unseen h = refl
      go (Joining u c who) h = away u c h.1 (same_trans u t) refl
      go (Active u c who) h = away u c h.1 (same_trans u t) refl
      go (Ready u c ts) h = away u c h.1 (same_trans u t) refl
      go (Applied u stamp) h = refl
      go Over h = refl

  pub own_unheld : (t : TransId) → t.server ≡ a.holder.server → (j : JoinNo) → IsHolding t (a.phases j) → ⊥
  own_unheld t here j = go (a.phases j) (q.phases j)
    where
      away : (u : TransId) → is_other a.servers a.holder.server u.server ≡ true → u ≡ t → ⊥
      away u far e = not_both_servers a.servers a.holder.server u.server far (ap (λ (v : TransId). v.server) e ∙ here)

      go : (p : Phase) → IsPhaseOf a.servers a.holder.server a.ids.epoch a.ids.joins a.joined j p → IsHolding t p → ⊥
      go Unseen h k = k
      go (Joining u c who) h k = k
      go (Active u c who) h k = away u h.1 k
      go (Ready u c ts) h k = away u h.1 k
      go (Applied u stamp) h k = k
      go Over h k = k

  -- a transaction that runs is of this server
  pub running_here : (t : TransId) → is_running (a.fates t) ≡ true → t.server ≡ a.holder.server
  running_here t runs = own_server a.holder.server a.ids.epoch a.ids.transactions t (known_running a.servers a.holder.server a.ids.epoch a.ids.transactions a.begun t (a.fates t) runs (q.fates t)).0

  pub pair_of : (t : TransId) (l : Life) → a.holder.lives t ≡ Some l → IsPaired t a.phases (Some l) (a.fates t)
  pair_of t l live = subst (λ (x : Option Life). IsPaired t a.phases x (a.fates t)) live (q.paired t)

  -- a part without a join is of a transaction of its client that runs, or is finishing
  pub own_pair : (t : TransId) (l : Life) → a.holder.lives t ≡ Some l → l.join ≡ None → (client_of (a.fates t) ≡ Some l.client) × (l.vote ≡ None) × (l.is_early ≡ false)
  own_pair t l live none = own_part_is t a.phases l (a.fates t) none (pair_of t l live)

  pub own_here : (t : TransId) (l : Life) → a.holder.lives t ≡ Some l → l.join ≡ None → t.server ≡ a.holder.server
  own_here t l live none = running_here t (running_of (a.fates t) l.client (own_pair t l live none).0)

  -- no part lives on whose transaction does not run and of which no join holds one
  pub none_lives : (t : TransId) → is_running (a.fates t) ≡ false → ((j : JoinNo) → IsHolding t (a.phases j) → ⊥) → a.holder.lives t ≡ None
  none_lives t over none = go (a.holder.lives t) (q.paired t)
    where
      by : (l : Life) (x : Option JoinNo) → IsPartAs t a.phases l (a.fates t) x → ⊥
      by l None h = let wrong : true ≡ false = sym (running_of (a.fates t) l.client h.0) ∙ over in cc
      by l (Some j) h = none j (holding_of t l (a.phases j) h.0)

      go : (x : Option Life) → IsPaired t a.phases x (a.fates t) → x ≡ None
      go None h = refl
      go (Some l) h = absurd (by l l.join h)

  -- the part of a join that has one
  pub life_of : (t : TransId) (j : JoinNo) → IsHolding t (a.phases j) → (l : Life) × (a.holder.lives t ≡ Some l) × (l.join ≡ Some j)
  life_of t j h = its_life a.holder.lives t j (a.phases j) h (q.held j)

  -- nobody else has a live join of a transaction with a join that has its part
  pub held_once : (t : TransId) (j k : JoinNo) → IsHolding t (a.phases j) → IsHolding t (a.phases k) → j ≡ k
  held_once t j k h i =
      let (l, live, of) = life_of t j h in
      let (m, there, its) = life_of t k i in
      same-some j k (sym of ∙ ap (λ (x : Life). x.join) (same-some l m (sym live ∙ there)) ∙ its)

  -- a client's live join is the one that is found
  pub join_found : (client : ℕ) (t : TransId) (j : JoinNo) → live_in (a.phases j) ≡ Some (t, client) → has_join j a.joined ≡ true → join_for (state_of a) client t ≡ Some j
  join_found client t j live there = go a.joined there
    where
      mine : is_whose client t (live_in (a.phases j)) ≡ true
      mine = ap (is_whose client t) live ∙ whose_own client t

      go : (ks : List JoinNo) → has_join j ks ≡ true → find (λ k. is_whose client t (live_in (a.phases k))) ks ≡ Some j
      go [] e = let wrong : false ≡ true = e in cc
      go (k ∷ ks) e = by (is_whose client t (live_in (a.phases k))) refl (go ks)
        where
          by : (b : Bool) → is_whose client t (live_in (a.phases k)) ≡ b → (has_join j ks ≡ true → find (λ i. is_whose client t (live_in (a.phases i))) ks ≡ Some j)
              → cond {A = Option JoinNo} b (Some k) (find (λ i. is_whose client t (live_in (a.phases i))) ks) ≡ Some j
          by true f rest = ap Some (q.single k j (t, client) (whose client t (live_in (a.phases k)) f) live)
          by false f rest = elim (or-true (same_join k j) (has_join j ks) e) [
            | inl same ↦ (let wrong : true ≡ false = sym mine ∙ ap (λ (i : JoinNo). is_whose client t (live_in (a.phases i))) (sym (same_join-true k j same)) ∙ f in cc)
            | inr more ↦ rest more
          ]

  -- a live part is of no decided transaction
  pub live_undecided : (t : TransId) (l : Life) → a.holder.lives t ≡ Some l → decision_in (a.fates t) ≡ None
  live_undecided t l live = go l.join refl
    where
      go : (x : Option JoinNo) → l.join ≡ x → decision_in (a.fates t) ≡ None
      go None e = undecided_running (a.fates t) (running_of (a.fates t) l.client (own_pair t l live e).0)
      go (Some j) e =
          let mine : IsJoined t l (a.phases j) = (join_part_is t a.phases l (a.fates t) j e (pair_of t l live)).0 in
          undecided_far a.servers a.holder.server a.ids.epoch a.ids.transactions a.begun t (a.fates t) (far_of_held a.servers a.holder.server a.ids.epoch a.ids.joins a.joined j t (a.phases j) (holding_of t l (a.phases j) mine) (q.phases j)) (q.fates t)

  -- a live join is known
  pub known_join : (j : JoinNo) (x : TransId × ℕ) → live_in (a.phases j) ≡ Some x → has_join j a.joined ≡ true
  known_join j x live = go (a.phases j) live (q.phases j)
    where
      go : (p : Phase) → live_in p ≡ Some x → IsPhaseOf a.servers a.holder.server a.ids.epoch a.ids.joins a.joined j p → has_join j a.joined ≡ true
      go Unseen h k = let wrong : None ≡ Some x = h in cc
      go (Joining v c who) h k = k.0.1
      go (Active v c who) h k = k.0.1
      go (Ready v c ts) h k = k.0.1
      go (Applied v stamp) h k = let wrong : None ≡ Some x = h in cc
      go Over h k = let wrong : None ≡ Some x = h in cc

  -- the client's live part of a join that is live
  pub join_live : (client : ℕ) (t : TransId) (j : JoinNo) → is_whose client t (live_in (a.phases j)) ≡ true → join_for (state_of a) client t ≡ Some j
  join_live client t j h = join_found client t j (whose client t (live_in (a.phases j)) h) (known_join j (t, client) (whose client t (live_in (a.phases j)) h))

  -- a client that has no live join has none that is found
  pub join_none : (client : ℕ) (t : TransId) → HasNoJoin a.phases client t → join_for (state_of a) client t ≡ None
  join_none client t none = go a.joined
    where
      go : (ks : List JoinNo) → find (λ k. is_whose client t (live_in (a.phases k))) ks ≡ None
      go [] = refl
      go (k ∷ ks) = ap (λ (b : Bool). cond {A = Option JoinNo} b (Some k) (find (λ i. is_whose client t (live_in (a.phases i))) ks)) (none k) ∙ go ks

  -- the next transaction was not drawn
  pub next_new : a.fates (next_trans (state_of a)) ≡ Undrawn
  next_new = undrawn_fate a.servers a.holder.server a.ids.epoch a.ids.transactions a.begun (next_trans (state_of a)) (a.fates (next_trans (state_of a))) (λ k. next_undrawn a.holder.server a.ids.epoch a.ids.transactions k.0) (q.fates (next_trans (state_of a)))
