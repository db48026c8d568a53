-- errands that come back, one after another
use Rattle.std.proofs.Common.{◌≡◌, ℕ, ◌+◌, ◌<◌, List, [], ◌∷◌, ◌++◌, length, Some, refl, sym, ap, ◌∙◌, subst, arith, length-append}
use Rattle.std.specs.Prelude.{slice_get}
use Rattle.alp_monitor.specs.declared.monitor.Monitor.{Monitor}
use Rattle.alp_carrier.specs.Sights.{Sight}
use Rattle.alp_storm.specs.Logs.{Log}
use Rattle.alp_storm.specs.Errands.{IsDue, AreDue, IsDone, AreDone}
use Rattle.alp_storm.specs.declared.errand.Errand.{Errand}
use Rattle.alp_storm.proofs.Lists.{all_pushed, get_longer, get_last, get_shorter, get_within, same_some}

module _ {S B E : Type 0} (base_of : S → B) (log : Log B E) (sight : Sight B E) (seed : ℕ) (ms : List (Monitor S B E)) where
  -- the last one came back behind the others
  pub back_pushed : (before rest done done' : List (Errand S B E)) (d e : Errand S B E) (k : ℕ) → before ≡ rest ++ d ∷ [] → k ≡ length rest → AreDone base_of log sight seed ms rest done → IsDone base_of log sight seed ms k d e → done' ≡ done ++ e ∷ [] → AreDone base_of log sight seed ms before done'
  back_pushed before rest done done' d e k is at others one longer = record {
    long = ap length longer ∙ (length-append done (e ∷ []) ∙ (ap (λ n. n + 1) others.long ∙ sym (ap length is ∙ length-append rest (d ∷ []))));
    each = λ j x y xat yat. all_pushed done e (λ i z. (w : Errand S B E) → slice_get before i ≡ Some w → IsDone base_of log sight seed ms i w z)
        (λ i z zat w wat. others.each i w z (get_shorter rest (d ∷ []) i w (let l = get_within done i z zat in let m = others.long in omega (arith, l, m)) (ap (λ l. slice_get l i) (sym is) ∙ wat)) zat)
        (λ w wat.
        let n : length done ≡ k = others.long ∙ sym at in
        let same : d ≡ w = same_some d w (sym (ap (λ l. slice_get l (length done)) is ∙ get_last rest d (length done) others.long) ∙ wat) in
        subst (λ i. IsDone base_of log sight seed ms i w e) (sym n) (subst (λ x. IsDone base_of log sight seed ms k x e) same one))
        j y (ap (λ l. slice_get l j) (sym longer) ∙ yat) x xat;
  }

  -- the last one, and the others, are due
  pub due_last : (before rest : List (Errand S B E)) (d : Errand S B E) → before ≡ rest ++ d ∷ [] → AreDue base_of sight ms before → IsDue base_of sight ms (length rest) d
  due_last before rest d is all = all (length rest) d (ap (λ l. slice_get l (length rest)) is ∙ get_last rest d (length rest) refl)

  pub due_rest : (before rest : List (Errand S B E)) (d : Errand S B E) → before ≡ rest ++ d ∷ [] → AreDue base_of sight ms before → AreDue base_of sight ms rest
  due_rest before rest d is all k x at = all k x (ap (λ l. slice_get l k) is ∙ get_longer rest (d ∷ []) k x at)

  pub none_back : (before : List (Errand S B E)) → before ≡ [] → AreDone base_of log sight seed ms before []
  none_back before is = record { long = sym (ap length is); each = λ k d e at eat. absurd (let low = get_within [] k e eat in omega (arith, low)) }
