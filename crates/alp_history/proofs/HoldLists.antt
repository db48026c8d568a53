-- locks that are given as lists of resources and modes agree where those of each two entries do
use Rattle.std.specs.Prelude.{cond, Bool, true, false, Option, None, Some, IsTrue}
use Rattle.std.specs.List.{list_all}
use Rattle.std.specs.Ordering.{eq_by_cmp}
use Rattle.std.proofs.Common.{◌≡◌, List, [], ◌∷◌, refl, sym, subst, ◌∙◌}
use Rattle.std.proofs.lemmas.Bool.{and_parts}
use Rattle.std.proofs.lemmas.Map.Views.{tells_apart}
use Rattle.alp_base.specs.declared.key.Resource.{Resource}
use Rattle.alp_base.specs.Orders.{resource_cmp, exact_resources}
use Rattle.alp_modes.specs.declared.Mode.{Mode}
use Rattle.alp_modes.specs.Modes.{agree}
use Rattle.alp_modes.proofs.ModeLemmas.{agreement-joint, and-true}
use Rattle.alp_files.specs.Holdings.{DoAgree, join_held, agree_held, held_by}
use Rattle.alp_files.specs.Locks.{Need}
use Rattle.alp_files.proofs.HoldingLemmas.{agree-turned}

-- on one resource the modes agree
abbrev pub agree_on : Need → Need → Bool
agree_on n m = cond (eq_by_cmp resource_cmp n.0 m.0) (agree n.1 m.1) true

abbrev pub agree_each : List Need → List Need → Bool
agree_each ns ms = list_all (λ n. list_all (agree_on n) ms) ns

-- what agrees with both agrees with what they come to
agree_both : (a b c : Option Mode) → IsTrue (agree_held a b) → IsTrue (agree_held a c) → IsTrue (agree_held a (join_held b c))
agree_both None b c h k = refl
agree_both (Some a) None c h k = k
agree_both (Some a) (Some b) None h k = h
agree_both (Some a) (Some b) (Some c) h k = agreement-joint a b c ∙ and-true (agree a b) (agree a c) h k

one_agrees : (n : Need) (ms : List Need) → list_all (agree_on n) ms ≡ true → IsTrue (agree_held (Some n.1) (held_by ms n.0))
one_agrees n [] h = refl
one_agrees n (m ∷ ms) h = go (eq_by_cmp resource_cmp n.0 m.0) (and_parts (agree_on n m) (list_all (agree_on n) ms) h).0 (one_agrees n ms (and_parts (agree_on n m) (list_all (agree_on n) ms) h).1)
  where
    go : (b : Bool) → cond b (agree n.1 m.1) true ≡ true → IsTrue (agree_held (Some n.1) (held_by ms n.0)) → IsTrue (agree_held (Some n.1) (cond b (join_held (Some m.1) (held_by ms n.0)) (held_by ms n.0)))
    go true k rest = agree_both (Some n.1) (Some m.1) (held_by ms n.0) k rest
    go false k rest = rest

pub lists_agree : (ns ms : List Need) → agree_each ns ms ≡ true → DoAgree (held_by ns) (held_by ms)
lists_agree [] ms h r = refl
lists_agree (n ∷ ns) ms h r =
    let parts = and_parts (list_all (agree_on n) ms) (agree_each ns ms) h in
    go (eq_by_cmp resource_cmp r n.0) refl (one_agrees n ms parts.0) (lists_agree ns ms parts.1 r)
  where
    go : (b : Bool) → eq_by_cmp resource_cmp r n.0 ≡ b → IsTrue (agree_held (Some n.1) (held_by ms n.0)) → IsTrue (agree_held (held_by ns r) (held_by ms r))
        → IsTrue (agree_held (cond b (join_held (Some n.1) (held_by ns r)) (held_by ns r)) (held_by ms r))
    go true e one rest =
        let here : IsTrue (agree_held (Some n.1) (held_by ms r)) = subst (λ (q : Resource). IsTrue (agree_held (Some n.1) (held_by ms q))) (sym (tells_apart exact_resources r n.0 e)) one in
        agree-turned (join_held (Some n.1) (held_by ns r)) (held_by ms r)
        ∙ agree_both (held_by ms r) (Some n.1) (held_by ns r) (agree-turned (held_by ms r) (Some n.1) ∙ here) (agree-turned (held_by ms r) (held_by ns r) ∙ rest)
    go false e one rest = rest
