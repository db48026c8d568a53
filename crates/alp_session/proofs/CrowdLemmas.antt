-- what is known of one client is known apart from the others
use Rattle.std.proofs.Common.{◌≡◌, ◌≢◌, ℕ, ◌<◌, ◌≤◌, List, length, slice_set, slice_index_or, replicate, ◌∙◌, ap, arith}
use Rattle.std.proofs.lemmas.List.{get_or-set_same, get_or-set_other, length-set, set-set, set-get_or, get_or-replicate}
use Rattle.alp_session.specs.Maps.{WordMap}
use Rattle.alp_session.specs.Clients.{new_client}
use Rattle.alp_session.specs.Crowd.{Crowd}
use Rattle.alp_session.specs.Crowds.{client_at, with_client, lent_crowd, left_crowd, taken_back}
use Rattle.alp_session.specs.declared.client.Client.{Client}

pub at_same : (c : Crowd) (words : WordMap) (k : ℕ) (d : Client) → k < length c.places → client_at (with_client c words k d) k ≡ d
at_same c words k d h = get_or-set_same c.places k d new_client h

pub at_other : (c : Crowd) (words : WordMap) (k j : ℕ) (d : Client) → j ≢ k → client_at (with_client c words k d) j ≡ client_at c j
at_other c words k j d h = get_or-set_other c.places k j d new_client h

pub as_many : (c : Crowd) (words : WordMap) (k : ℕ) (d : Client) → length (with_client c words k d).places ≡ length c.places
as_many c words k d = length-set c.places k d

-- ---- a client is lent

-- who is lent knows what it knew
pub lent_at : (c : Crowd) (k : ℕ) → k ≤ 16 → client_at (lent_crowd c k) k ≡ client_at c k
lent_at c k few = get_or-set_same (replicate 17 new_client) k (client_at c k) new_client (omega (arith, few))

-- and comes back to where it was
pub lent_back : (c : Crowd) (k : ℕ) → k ≤ 16 → taken_back (left_crowd c k) k (lent_crowd c k) ≡ c
lent_back c k few =
    ap (λ (ps : List Client). record c { places = ps })
    (set-set c.places k new_client (client_at (lent_crowd c k) k) ∙ ap (slice_set c.places k) (lent_at c k few) ∙ set-get_or c.places k new_client)

pub taken_other : (c d : Crowd) (k j : ℕ) → (j ≡ k → ⊥) → client_at (taken_back c k d) j ≡ client_at c j
taken_other c d k j apart = at_other c c.words k j (client_at d k) apart

-- among new clients everybody is new
pub new_at : (k : ℕ) (x : Client) → k ≤ 16 → x ≡ slice_index_or (replicate 17 new_client) k x → x ≡ new_client
new_at k x few same = same ∙ get_or-replicate 17 k new_client x (omega (arith, few))
