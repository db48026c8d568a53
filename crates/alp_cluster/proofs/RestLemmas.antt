-- With one server no transaction is live where none is open.
use Rattle.std.specs.Prelude.{◌==◌, ◌&&◌, not, nat_lt, Bool, true, false, IsTrue, Option, None, Some, map as list_map, slice_get}
use Rattle.std.specs.List.{list_all}
use Rattle.std.proofs.Common.{inl, inr, ◌⊎◌, ◌≡◌, ℕ, ◌+◌, ◌-◌, ◌<◌, ◌≤◌, List, [], ◌∷◌, length, refl, sym, ◌∙◌, ap, subst, arith, eq-eqb}
use Rattle.std.proofs.lemmas.Bool.{ltb-true}
use Rattle.std.proofs.lemmas.List.{length-map}
use Rattle.alp_base.specs.declared.ids.JoinNo.{JoinNo}
use Rattle.alp_base.specs.declared.ids.TransId.{TransId}
use Rattle.alp_journal.specs.Account.{Account, state_of as account_state, Stands, IsPaired, IsPartAs, IsFateOf, IsPhaseOf, AreJoins, is_other}
use Rattle.alp_journal.specs.Coordinator.{Fate, Undrawn, Running, Finishing, Committed, Forgotten, Ended, Vote, client_of, has_votes, voted}
use Rattle.alp_journal.specs.Holder.{Life}
use Rattle.alp_journal.specs.Participant.{Phase, Unseen, Joining, Active, Ready, Applied, Over}
use Rattle.alp_journal.specs.State.{State}
use Rattle.alp_node.specs.NodeStates.{NodeState}
use Rattle.alp_node.specs.Nodes.{IsRight, start_in}
use Rattle.alp_vault.specs.declared.vault.Vault.{Ghosts}
use Rattle.alp_course.specs.Courses.{Course, Seat, seat_at, AreCourse}
use Rattle.alp_course.specs.Opens.{is_unasked}
use Rattle.alp_course.specs.Settles.{IsSettling}
use Rattle.alp_course.proofs.ClosedLemmas.{IsClosed, settled_closed}
use Rattle.alp_cluster.specs.Servers.{IsOn, state_of}
use Rattle.alp_cluster.specs.Station.{standing, seat_for, seat_of}
use Rattle.alp_cluster.specs.Stations.{AreOn, IsManned, IsOneOf, Did, course_of}
use Rattle.alp_cluster.specs.declared.station.Station.{Station}
use Rattle.alp_cluster.specs.declared.stations.Stations.{Stations}
use Rattle.alp_cluster.proofs.CarryLemmas.{count_later}
use Rattle.alp_cluster.proofs.DidLemmas.{passes_course}
use Rattle.alp_cluster.proofs.StationsLemmas.{its, seat_stands}
use Rattle.alp_cluster.proofs.SweepLemmas.{is_there}

-- where there is one server, no other is of the run
none_other : (servers server : ℕ) → servers ≡ 1 → server ≡ 1 → (n : ℕ) → is_other servers server n ≡ true → ⊥
none_other servers server few first n = go (nat_lt 0 n) (nat_lt n (servers + 1)) refl refl
  where
    never : false ≡ true → ⊥
    never wrong = cc

    go : (b d : Bool) → nat_lt 0 n ≡ b → nat_lt n (servers + 1) ≡ d → (b && d && not (n == server)) ≡ true → ⊥
    go false d e f h = never h
    go true false e f h = never h
    go true true e f h =
        let low : 0 < n = ltb-true 0 n e in
        let high : n < servers + 1 = ltb-true n (servers + 1) f in
        never (sym (ap not (eq-eqb n server (omega (arith, low, high, few, first)))) ∙ h)

first_true : (b d : Bool) → (b && d) ≡ true → b ≡ true
first_true true d h = refl
first_true false d h = h

module _ (a : Account) (stands : Stands a) (few : a.servers ≡ 1) (first : a.holder.server ≡ 1) (closed : (t : TransId) → is_unasked (a.fates t) ≡ false) where
  -- no join is live
  phase_over : (j : JoinNo) (p : Phase) → a.phases j ≡ p → (t : TransId) (client : ℕ) → ((who : List ℕ) → p ≡ Active t client who → ⊥) × ((ts : ℕ) → p ≡ Ready t client ts → ⊥)
  phase_over j p is t client = (
    (λ who e. none_other a.servers a.holder.server few first t.server (subst (IsPhaseOf a.servers a.holder.server a.ids.epoch a.ids.joins a.joined j) (is ∙ e) (stands.phases j)).1),
    (λ ts e. none_other a.servers a.holder.server few first t.server (subst (IsPhaseOf a.servers a.holder.server a.ids.epoch a.ids.joins a.joined j) (is ∙ e) (stands.phases j)).1),
  )

  -- and no transaction is finishing: it has no join to ask, and so has all its votes
  no_joins : (js : List JoinNo) (vs : List Vote) → AreJoins a.servers a.holder.server js → list_all (λ (j : JoinNo). voted j vs) js ≡ true
  no_joins [] vs h = refl
  no_joins (j ∷ js) vs h = absurd (none_other a.servers a.holder.server few first j.server (first_true (is_other a.servers a.holder.server j.server) (list_all (λ (k : JoinNo). is_other a.servers a.holder.server k.server) js) h.0))

  not_finishing : (t : TransId) (client : ℕ) (js : List JoinNo) (vs : List Vote) → a.fates t ≡ Finishing client js vs → ⊥
  not_finishing t client js vs is =
      let fate = subst (IsFateOf a.servers a.holder.server a.ids.epoch a.ids.transactions a.begun t) is (stands.fates t) in
      let all : has_votes (a.fates t) ≡ true = ap has_votes is ∙ no_joins js vs fate.2 in
      (let wrong : true ≡ false = sym all ∙ stands.votes t in cc)

  open_fate : (t : TransId) (client : ℕ) (f : Fate) → a.fates t ≡ f → client_of f ≡ Some client → ⊥
  open_fate t client Undrawn is h = cc
  open_fate t client (Running c js) is h = (let wrong : true ≡ false = sym (ap is_unasked is) ∙ closed t in cc)
  open_fate t client (Finishing c js vs) is h = not_finishing t c js vs is
  open_fate t client (Committed stamp js ds) is h = cc
  open_fate t client (Forgotten stamp js) is h = cc
  open_fate t client (Ended c) is h = cc

  no_part : (t : TransId) (l : Life) (o : Option JoinNo) → IsPartAs t a.phases l (a.fates t) o → ⊥
  no_part t l None h = open_fate t l.client (a.fates t) refl h.0
  no_part t l (Some j) h = go h.0
    where
      go : ((a.phases j ≡ Active t l.client l.who) × (l.vote ≡ None) × (l.is_early ≡ false)) ⊎ ((ts : ℕ) × (a.phases j ≡ Ready t l.client ts) × (l.vote ≡ Some ts)) → ⊥
      go (inl at_work) = (phase_over j (a.phases j) refl t l.client).0 l.who at_work.0
      go (inr voted_for) = (phase_over j (a.phases j) refl t l.client).1 voted_for.0 voted_for.1

  none_live : (t : TransId) → a.holder.lives t ≡ None
  none_live t = go (a.holder.lives t) refl
    where
      go : (o : Option Life) → a.holder.lives t ≡ o → a.holder.lives t ≡ None
      go None is = is
      go (Some l) is = absurd (no_part t l l.join (subst (λ (o : Option Life). IsPaired t a.phases o (a.fates t)) is (stands.paired t)))

module _ {V : Type 0} (G : Ghosts V) where
  -- of a server
  rests_alone : (n : NodeState V) → IsOn G n → IsTrue (G.tells n.kept.vault) → n.kept.servers ≡ 1 → n.kept.server ≡ 1 → IsClosed (state_of G n) → (t : TransId) → (state_of G n).holder.lives t ≡ None
  rests_alone n on told few first closed t =
      let right : IsRight (start_in G n) (G.held n.kept.vault) n = on.kept.right told in
      let a : Account = right.state in
      ap (λ (s : State). s.holder.lives t) right.says
      ∙ none_live a right.kept.quiet.settled.stands (right.kept.servers ∙ few) (right.kept.server ∙ first) (λ u. sym (ap (λ (s : State). is_unasked (s.fates u)) right.says) ∙ closed u) t

  single_seat : {X : Type 0} (xs : List X) → length xs ≡ 1 → (x : X) × (xs ≡ x ∷ [])
  single_seat [] h = absurd (omega (arith, h))
  single_seat (x ∷ []) h = (x, refl)
  single_seat (x ∷ y ∷ xs) h = absurd (omega (arith, h))

  -- behind a settling of the only server of a run
  pub rested_alone : (s z : Stations V) → AreOn G s → (d : Did G (IsSettling 1) s z) → length s.all.items ≡ 1 → IsTrue (seat_at (course_of G z) 1).tells → (t : TransId) → (seat_at (course_of G z) 1).stand.state.holder.lives t ≡ None
  rested_alone s z on d one told t =
      let many : length z.all.items ≡ 1 = count_later G s z d.goes.later ∙ one in
      let here : IsOneOf z 1 = record { first = omega arith; last = omega (arith, many) } in
      let (x, there) = is_there z.all.items 0 (omega (arith, many)) in
      let mine : IsManned G (length z.all.items) 1 x = its G z d.goes.later.on 1 here x there in
      let n : NodeState V = mine.node in
      let seat : seat_at (course_of G z) 1 ≡ seat_for G x.is_fused x.ranks.items (standing n) = seat_stands G z d.goes.later.on 1 here x there n mine.keeps.stands in
      let mapped : length (list_map (seat_of G) s.all.items) ≡ 1 = length-map s.all.items (seat_of G) ∙ one in
      let (u, single) = single_seat (course_of G s).seats mapped in
      let closed : IsClosed (seat_at (course_of G z) 1).stand.state = settled_closed (course_of G s) (course_of G z) d.hs u single d.word (passes_course G d.hs s z d.goes.passes) told in
      subst (λ (v : Seat). v.stand.state.holder.lives t ≡ None) (sym seat)
      (rests_alone n mine.keeps.on (subst (λ (v : Seat). IsTrue v.tells) seat told) (mine.count_is ∙ many) mine.number_is (subst (λ (v : Seat). IsClosed v.stand.state) seat closed) t)
