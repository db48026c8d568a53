use Rattle.std.specs.Prelude.{Option, None, replicate, slice_index_or}
use Rattle.std.proofs.Common.{◌≡◌, ℕ, suc, zero, ◌<◌, List, [], ◌∷◌, length, refl, arith, rules}
use Rattle.alp_journal.specs.Desk.{Session}
use Rattle.alp_node.specs.Sessions.{no_sessions}
use Rattle.alp_node.proofs.sessions.Sessions.new.Goals as goal

-- a list in which nobody has a session
all_none : (xs : List (Option Session)) (n : ℕ) → length xs ≡ n → ((i : ℕ) → i < n → slice_index_or xs i None ≡ None) → xs ≡ replicate n None
all_none [] zero long none = refl
all_none [] (suc n) long none = absurd (omega (arith, long))
all_none (x ∷ xs) zero long none = absurd (omega (arith, long))
all_none (x ∷ xs) (suc n) long none = (λ i. none 0 (omega arith) i ∷ all_none xs n (omega (arith, long)) (λ j h. none (suc j) (omega (arith, h))) i)

pub returns : goal.returns
returns c =
    let same : c.from_fn.result ≡ no_sessions.places = all_none c.from_fn.result 17 c.from_fn.ensures.items.long (λ i h. let x = c.from_fn.ensures.items.at i None h in search rules) in
    (λ i. record { places = same i })
