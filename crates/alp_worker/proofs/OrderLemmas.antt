-- messages in the order of their transactions
use Rattle.std.specs.Prelude.{Bool, true, false, not, ◌&&◌, ◌==◌, nat_lt}
use Rattle.std.specs.List.{All, AllByRecursion, list_all}
use Rattle.std.specs.List.Sorted.{IsPermutation, IsSortedBy, IsSortedByKey}
use Rattle.std.specs.Cmp.{IsStrictWeakOrder}
use Rattle.std.specs.Ordering.{is_lt, is_gt, ordering_reverse}
use Rattle.std.specs.declared.cmp.Ordering.{Ordering}
use Rattle.std.specs.declared.cmp.Ordering.TheVariants.{Less, Equal, Greater}
use Rattle.std.proofs.Common.{◌≡◌, ℕ, suc, ◌+◌, List, [], ◌∷◌, ◌++◌, get_or, refl, sym, ◌∙◌, ap, subst, arith, eq-eqb}
use Rattle.std.proofs.lemmas.Bool.{and_from, or_right}
use Rattle.std.proofs.lemmas.List.Elements.{All-from_recursion, recursion_from_All}
use Rattle.std.proofs.lemmas.List.Sorted.{ranks_by, sorted_far, All-permutation}
use Rattle.alp_base.specs.Orders.{trans_cmp, transactions_total}
use Rattle.alp_journal.specs.Messages.{kind_of, is_before, are_in_order}
use Rattle.alp_journal.specs.declared.message.Envelope.{Envelope}
use Rattle.alp_worker.specs.Again.{mail, mails, trans_at, addressed, register_at, register_of, registers_in, inquiry_at, inquiry_of, inquiries_in, is_other}
use Rattle.alp_worker.specs.declared.live.LiveJoin.{LiveJoin}
use Rattle.alp_worker.specs.declared.live.Stage.{Stage}
use Rattle.alp_worker.specs.declared.live.Stage.TheVariants as stage

abbrev is_less : Envelope → Envelope → Bool
is_less x y = is_lt (trans_cmp (trans_at x) (trans_at y))

order_less : IsStrictWeakOrder is_less
order_less = ranks_by transactions_total trans_at

-- ---- sorted lists

sorted_tail : (e : Envelope) (es : List Envelope) → IsSortedBy is_less (e ∷ es) → IsSortedBy is_less es
sorted_tail e es up k d low high =
    let same : suc k + 1 ≡ suc (k + 1) = omega arith in
    subst (λ (n : ℕ). is_less (get_or (e ∷ es) n d) (get_or es k d) ≡ false) same (up (suc k) d (omega arith) (omega (arith, high)))

above_first : (e : Envelope) (es : List Envelope) → IsSortedBy is_less (e ∷ es) → All (λ (x : Envelope). is_less x e ≡ false) es
above_first e es up k d within = sorted_far is_less order_less (e ∷ es) up 0 (suc k) d (omega arith) (omega (arith, within))

-- what is not less comes behind
turned : (a b : Ordering) → a ≡ ordering_reverse b → is_lt a ≡ false → not (is_gt b) ≡ true
turned a Less e h = refl
turned a Equal e h = refl
turned a Greater e h = let wrong : true ≡ false = sym (ap is_lt e) ∙ h in cc

all_before : (n : ℕ) (e : Envelope) (es : List Envelope) → kind_of e.message ≡ n → AllByRecursion (λ (x : Envelope). kind_of x.message ≡ n) es → AllByRecursion (λ (x : Envelope). is_less x e ≡ false) es → list_all (is_before (mail e)) (mails es) ≡ true
all_before n e [] kind kinds above = refl
all_before n e (x ∷ es) kind kinds above =
    and_from (is_before (mail e) (mail x)) (list_all (is_before (mail e)) (mails es))
    (or_right (nat_lt (kind_of e.message) (kind_of x.message)) (kind_of e.message == kind_of x.message && not (is_gt (trans_cmp (trans_at e) (trans_at x))))
    (and_from (kind_of e.message == kind_of x.message) (not (is_gt (trans_cmp (trans_at e) (trans_at x)))) (eq-eqb (kind_of e.message) (kind_of x.message) (kind ∙ sym kinds.0))
    (turned (trans_cmp (trans_at x) (trans_at e)) (trans_cmp (trans_at e) (trans_at x)) (transactions_total.antisymm (trans_at x) (trans_at e)) above.0)))
    (all_before n e es kind kinds.1 above.1)

pub in_order : (n : ℕ) (es : List Envelope) → AllByRecursion (λ (x : Envelope). kind_of x.message ≡ n) es → IsSortedBy is_less es → are_in_order (mails es) ≡ true
in_order n [] kinds up = refl
in_order n (e ∷ es) kinds up =
    and_from (list_all (is_before (mail e)) (mails es)) (are_in_order (mails es))
    (all_before n e es kinds.0 kinds.1 (recursion_from_All (λ (x : Envelope). is_less x e ≡ false) es (above_first e es up))) (in_order n es kinds.1 (sorted_tail e es up))

-- ---- what is said again is of one kind

all-both : {X : Type 0} (P : X → Type 0) (xs ys : List X) → AllByRecursion P xs → AllByRecursion P ys → AllByRecursion P (xs ++ ys)
all-both P [] ys h k = k
all-both P (x ∷ xs) ys h k = (h.0, all-both P xs ys h.1 k)

register_kind : (b : Bool) (l : LiveJoin) (s : Stage) → AllByRecursion (λ (x : Envelope). kind_of x.message ≡ 0) (addressed b l.trans.server (register_at l s))
register_kind true l (stage.Joining who) = (refl, tt)
register_kind false l (stage.Joining who) = tt
register_kind b l (stage.Active who) = tt
register_kind b l (stage.Ready ts) = tt

registers_kind : (servers here : ℕ) (ls : List LiveJoin) → AllByRecursion (λ (x : Envelope). kind_of x.message ≡ 0) (registers_in servers here ls)
registers_kind servers here [] = tt
registers_kind servers here (l ∷ ls) =
    all-both (λ (x : Envelope). kind_of x.message ≡ 0) (addressed (is_other servers here l.trans.server) l.trans.server (register_of l)) (registers_in servers here ls)
    (register_kind (is_other servers here l.trans.server) l l.stage) (registers_kind servers here ls)

inquiry_kind : (b : Bool) (l : LiveJoin) (s : Stage) → AllByRecursion (λ (x : Envelope). kind_of x.message ≡ 3) (addressed b l.trans.server (inquiry_at l s))
inquiry_kind b l (stage.Joining who) = tt
inquiry_kind b l (stage.Active who) = tt
inquiry_kind true l (stage.Ready ts) = (refl, tt)
inquiry_kind false l (stage.Ready ts) = tt

inquiries_kind : (servers here : ℕ) (ls : List LiveJoin) → AllByRecursion (λ (x : Envelope). kind_of x.message ≡ 3) (inquiries_in servers here ls)
inquiries_kind servers here [] = tt
inquiries_kind servers here (l ∷ ls) =
    all-both (λ (x : Envelope). kind_of x.message ≡ 3) (addressed (is_other servers here l.trans.server) l.trans.server (inquiry_of l)) (inquiries_in servers here ls)
    (inquiry_kind (is_other servers here l.trans.server) l l.stage) (inquiries_kind servers here ls)

kinds_moved : (n : ℕ) (xs ys : List Envelope) → IsPermutation xs ys → AllByRecursion (λ (x : Envelope). kind_of x.message ≡ n) xs → AllByRecursion (λ (x : Envelope). kind_of x.message ≡ n) ys
kinds_moved n xs ys moved h =
    recursion_from_All (λ (x : Envelope). kind_of x.message ≡ n) ys
    (All-permutation (λ (x : Envelope). kind_of x.message ≡ n) xs ys moved (All-from_recursion (λ (x : Envelope). kind_of x.message ≡ n) xs h))

pub registers_order : (servers here : ℕ) (ls : List LiveJoin) (es : List Envelope) → IsPermutation (registers_in servers here ls) es → IsSortedByKey trans_at trans_cmp es → are_in_order (mails es) ≡ true
registers_order servers here ls es moved up = in_order 0 es (kinds_moved 0 (registers_in servers here ls) es moved (registers_kind servers here ls)) up

pub inquiries_order : (servers here : ℕ) (ls : List LiveJoin) (es : List Envelope) → IsPermutation (inquiries_in servers here ls) es → IsSortedByKey trans_at trans_cmp es → are_in_order (mails es) ≡ true
inquiries_order servers here ls es moved up = in_order 3 es (kinds_moved 3 (inquiries_in servers here ls) es moved (inquiries_kind servers here ls)) up
