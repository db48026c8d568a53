-- What a server says is open, and whether it is at rest, in the words of the course of its run.
use Rattle.std.specs.Prelude.{◌⊎◌, ◌↔◌, Bool, true, false, map as list_map, slice_get, IsTrue, Option, None, Some}
use Rattle.std.specs.List.{AllByRecursion, Contains}
use Rattle.std.proofs.lemmas.Bool.{cases_eq}
use Rattle.std.proofs.Common.{inl, inr, ◌≡◌, ℕ, zero, suc, ◌+◌, ◌-◌, ◌<◌, ◌≤◌, List, [], ◌∷◌, length, get_or, refl, sym, ◌∙◌, ap, subst, arith}
use Rattle.alp_base.specs.declared.ids.TransId.{TransId}
use Rattle.alp_journal.specs.Coordinator.{Fate, Undrawn, Running, Finishing, Committed, Forgotten, Ended}
use Rattle.alp_journal.specs.State.{State}
use Rattle.alp_node.specs.NodeStates.{NodeState}
use Rattle.alp_node.specs.Nodes as node
use Rattle.alp_node.specs.Nodes.{start_in}
use Rattle.alp_node.specs.Opens as kept
use Rattle.alp_vault.specs.declared.vault.Vault.{Ghosts}
use Rattle.alp_course.specs.Courses.{Seat, seat_at, TellAll, AreRest}
use Rattle.alp_course.specs.Opens.{is_unasked, HasOpenPart, IsLeastOpen, IsRestOf}
use Rattle.alp_cluster.specs.Settled.{FindsOpen, TellsRest}
use Rattle.alp_cluster.specs.Station.{standing, seat_for, seat_of}
use Rattle.alp_cluster.specs.Stations.{AreOn, IsOneOf, course_of}
use Rattle.alp_cluster.specs.declared.station.Station.{Station}
use Rattle.alp_cluster.specs.declared.stations.Stations.{Stations}
use Rattle.alp_course.proofs.RankLemmas.{get_below}
use Rattle.alp_cluster.proofs.StationsLemmas.{same_some, read_some, seat_stands}

-- ---- what is open

unasked_same : (f : Fate) → kept.is_unasked f ≡ is_unasked f
unasked_same Undrawn = refl
unasked_same (Running client js) = refl
unasked_same (Finishing client js vs) = refl
unasked_same (Committed stamp js ds) = refl
unasked_same (Forgotten stamp js) = refl
unasked_same (Ended c) = refl

part_to : (s : State) (t : TransId) → kept.HasOpenPart s t → HasOpenPart s t
part_to s t (inl own) = inl (sym (unasked_same (s.fates t)) ∙ own)
part_to s t (inr (j, u)) = inr (j, record { client = u.client; part = u.part })

part_back : (s : State) (t : TransId) → HasOpenPart s t → kept.HasOpenPart s t
part_back s t (inl own) = inl (unasked_same (s.fates t) ∙ own)
part_back s t (inr (j, u)) = inr (j, record { client = u.client; part = u.part })

least_same : (s : State) (x : Option TransId) → kept.IsLeastOpen s x → IsLeastOpen s x
least_same s x h = record {
  all = h.all;
  are = record { rise = h.are.rise; parts = λ t. ((λ c. part_to s t ((h.are.parts t).0 c)), (λ p. (h.are.parts t).1 (part_back s t p))) };
  first = h.first;
}

-- what a loop reads at a place of a copy of the list
pub read_at : {X : Type 0} (xs ys : List X) → ys ≡ xs → (i : ℕ) (x : X) → i < length ys → x ≡ get_or ys i x → slice_get xs i ≡ Some x
read_at {X} xs ys same i x low is = subst (λ (zs : List X). slice_get zs i ≡ Some x) same (read_some ys i x low (sym is))

-- ---- whether it is at rest

rest_same : (b : Bool) (s : State) → kept.IsRestOf b s → IsRestOf b s
rest_same b s h = ((λ is. (let r = h.0 is in record { parts = r.parts; ready = r.ready; decisions = r.decisions })), (λ x. h.1 (record { parts = x.parts; ready = x.ready; decisions = x.decisions })))

module _ {V : Type 0} (G : Ghosts V) where
  pub finds_open : (s : Stations V) (on : AreOn G s) (server : ℕ) (here : IsOneOf s server) (x : Station V) → slice_get s.all.items (server - 1) ≡ Some x → (n : NodeState V) → x.server ≡ standing n → (least : Option TransId)
      → (IsTrue (G.tells n.kept.vault) → kept.IsLeastOpen (node.state_of (start_in G n) n.journal) least) → FindsOpen G server least s
  finds_open s on server here x there n stood least h =
      subst (λ (z : Seat). IsTrue z.tells → IsLeastOpen z.stand.state least) (sym (seat_stands G s on server here x there n stood))
      (λ tells. least_same (node.state_of (start_in G n) n.journal) least (h tells))

  -- what a server tells of itself
  abbrev pub TellsItsRest : Bool → Seat → Type 0
  TellsItsRest b z = IsTrue z.tells → IsRestOf b z.stand.state

  pub its_rest : (x : Station V) (n : NodeState V) → x.server ≡ standing n → (b : Bool) → (IsTrue (G.tells n.kept.vault) → kept.IsRestOf b (node.state_of (start_in G n) n.journal)) → TellsItsRest b (seat_of G x)
  its_rest x n stood b h =
      subst (λ (z : Seat). TellsItsRest b z) (sym (ap (seat_for G x.is_fused x.ranks.items) stood)) (λ tells. rest_same b (node.state_of (start_in G n) n.journal) (h tells))

  -- all of those up to a place are at rest
  abbrev pub RestTo : ℕ → List (Station V) → Type 0
  RestTo i xs = (k : ℕ) (x : Station V) → k < i → slice_get xs k ≡ Some x → TellsItsRest true (seat_of G x)

  pub rest_none : (xs : List (Station V)) → RestTo 0 xs
  rest_none xs = λ k x low at. absurd (omega (arith, low))

  pub rest_more : (xs : List (Station V)) (i : ℕ) (x : Station V) → RestTo i xs → slice_get xs i ≡ Some x → TellsItsRest true (seat_of G x) → RestTo (i + 1) xs
  rest_more xs i x before there mine = λ k y low at. elim (cases_eq k i) [
    | inl same ↦ subst (λ (z : Station V). TellsItsRest true (seat_of G z)) (same_some (slice_get xs i) x y there (ap (slice_get xs) (sym same) ∙ at)) mine
    | inr away ↦ before k y (omega (arith, low, away)) at
  ]

  all_rest : (xs : List (Station V)) → ((k : ℕ) (x : Station V) → slice_get xs k ≡ Some x → TellsItsRest true (seat_of G x)) → AllByRecursion (λ (z : Seat). IsTrue z.tells) (list_map (seat_of G) xs) → AreRest true (list_map (seat_of G) xs)
  all_rest [] f h = tt
  all_rest (x ∷ xs) f h = (f 0 x refl h.0, all_rest xs (λ k y at. f (suc k) y at) h.1)

  pub tells_rest : (s : Stations V) (i : ℕ) → length s.all.items ≤ i → RestTo i s.all.items → TellsRest G true s
  tells_rest s i all rest = λ tells. all_rest s.all.items (λ k x at. rest k x (let low : k < length s.all.items = get_below s.all.items k x at in omega (arith, low, all)) at) tells

  -- and one is not
  seat_in : (xs : List (Station V)) (i : ℕ) (x : Station V) → slice_get xs i ≡ Some x → slice_get (list_map (seat_of G) xs) i ≡ Some (seat_of G x)
  seat_in [] i x at = cc
  seat_in (y ∷ xs) zero x at = (let same : y ≡ x = cc in ap (λ (z : Station V). Some (seat_of G z)) same)
  seat_in (y ∷ xs) (suc i) x at = seat_in xs i x at

  telling_at : (xs : List (Station V)) (i : ℕ) (x : Station V) → slice_get xs i ≡ Some x → AllByRecursion (λ (z : Seat). IsTrue z.tells) (list_map (seat_of G) xs) → IsTrue (seat_of G x).tells
  telling_at [] i x at h = cc
  telling_at (y ∷ xs) zero x at h = (let same : y ≡ x = cc in subst (λ (z : Station V). IsTrue (seat_of G z).tells) same h.0)
  telling_at (y ∷ xs) (suc i) x at h = telling_at xs i x at h.1

  pub tells_unrest : (s : Stations V) (i : ℕ) (x : Station V) → slice_get s.all.items i ≡ Some x → TellsItsRest false (seat_of G x) → TellsRest G false s
  tells_unrest s i x there not = λ tells. (i, seat_of G x, seat_in s.all.items i x there, not (telling_at s.all.items i x there tells))
