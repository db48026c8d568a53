-- the clients of the right log send and are handed what their machine and the servers make of it, and what they were promised is kept
use Rattle.std.specs.Prelude.{Bool, true, false, cond, not, ◌==◌, ◌&&◌, ◌||◌, ltb, unwrap_or, Option, None, Some, slice_get, map as list_map}
use Rattle.std.specs.List.{list_all, list_any, AllByRecursion}
use Rattle.std.proofs.Common.{◌≡◌, ℕ, zero, suc, ◌<◌, ◌≤◌, List, [], ◌∷◌, refl, sym, ap, subst, ◌∙◌, inl, inr, arith, eq-eqb}
use Rattle.std.proofs.lemmas.Bool.{eqb-true, and_parts}
use Rattle.std.proofs.lemmas.Bool.Decides.{nat_tests}
use Rattle.alp_files.specs.declared.call.Call.{Call}
use Rattle.alp_files.specs.declared.call.Call.TheVariants as call
use Rattle.alp_journal.specs.declared.event.Event.{Event}
use Rattle.alp_journal.specs.declared.event.Event.TheVariants as event
use Rattle.alp_journal.specs.declared.entry.Entry.{Entry}
use Rattle.alp_history.specs.Items.{Mark, Own, Repeated, Raw, Sent, Item, IsOwn, IsRaw}
use Rattle.alp_history.specs.Handed.{IsNoGreeting, IsOfEntry, IsOfPlace, IsBefore, HaveSeen, IsOfRun, AreOfClients, ArePromisesKept}
use Rattle.alp_history.specs.Log.{ServerLog, IsIn, journal_of}
use Rattle.alp_history.specs.RightLog.{hello, ranks_one, ranks_two, runs, one, two, right, sent_in, journal_at, line_at, own_line, own_places, no_frame, lines, raw_lines, items}
use Rattle.alp_journal.proofs.IdLemmas.{or-true, all-append}
use Rattle.alp_history.proofs.Places.{all-in, some-same}
use Rattle.alp_history.proofs.Promises.{promises}
use Rattle.alp_history.proofs.LinkLemmas.{each_both}
use Rattle.alp_history.proofs.Turned.{any-one}
use Rattle.alp_history.proofs.RightProper.{proper}

-- what holds of each line holds of each item
each_item : (P : ℕ → Item → Type 0) → AllByRecursion (P 1) lines → AllByRecursion (P 2) raw_lines → (client : ℕ) (x : Item) → IsIn x (items client) → P client x
each_item P all raw client x = go (client == 1) refl (client == 2) refl
  where
    go : (b : Bool) → (client == 1) ≡ b → (c : Bool) → (client == 2) ≡ c → IsIn x (cond b lines (cond c raw_lines [])) → P client x
    go true e c f i = subst (λ n. P n x) (sym (eqb-true client 1 e)) (all-in (P 1) lines x all i)
    go false e true f i = subst (λ n. P n x) (sym (eqb-true client 2 f)) (all-in (P 2) raw_lines x raw i)
    go false e false f i = absurd i

all_true : {A : Type 0} (p : A → Bool) (xs : List A) (x : A) → list_all p xs ≡ true → IsIn x xs → p x ≡ true
all_true p [] x h i = absurd i
all_true p (y ∷ ys) x h i = elim i [
  | inl same ↦ ap p same ∙ (and_parts (p y) (list_all p ys) h).0
  | inr more ↦ all_true p ys x (and_parts (p y) (list_all p ys) h).1 more
]

-- ---- replies

abbrev is_call : Event → Bool
is_call (event.Call client epoch number c) = true
is_call e = false

abbrev is_call_in : Option Entry → Bool
is_call_in None = false
is_call_in (Some e) = is_call e.event

-- a call stands there
abbrev is_call_at : ℕ → ℕ → Bool
is_call_at n i = (n == 1 || n == 2) && is_call_in (slice_get (journal_at n) i)

journal_there : (n : ℕ) → (n == 1 || n == 2) ≡ true → journal_of right n ≡ journal_at n
journal_there n h = elim (or-true (n == 1) (n == 2) h) [
  | inl e ↦ subst (λ m. journal_of right m ≡ journal_at m) (sym (eqb-true n 1 e)) refl
  | inr e ↦ subst (λ m. journal_of right m ≡ journal_at m) (sym (eqb-true n 2 e)) refl
]

line_right : (mark : Mark) (n i : ℕ) → is_call_at n i ≡ true → IsOfEntry right (line_at mark n i) i
line_right mark n i h = there (slice_get (journal_at n) i) refl (and_parts (n == 1 || n == 2) (is_call_in (slice_get (journal_at n) i)) h).1
  where
    of_call : (e : Entry) (x : Event) → slice_get (journal_at n) i ≡ Some e → e.event ≡ x → is_call x ≡ true → IsOfEntry right (line_at mark n i) i
    of_call e (event.Call client epoch number c) at is k = record {
      entry = e;
      sent = record { client = client; epoch = epoch; number = number; call = c };
      stands = ap (λ (j : List Entry). slice_get j i) (journal_there n (and_parts (n == 1 || n == 2) (is_call_in (slice_get (journal_at n) i)) h).0) ∙ at;
      said = ap (λ (o : Option Entry). sent_in (unwrap_or o (hello 0)).event) at ∙ ap sent_in is;
      called = is;
      handed = ap (λ (o : Option Entry). (unwrap_or o (hello 0)).reply) at;
    }
    of_call e (event.Arrive from m) at is k = cc
    of_call e (event.Timeout t) at is k = cc
    of_call e event.Tick at is k = cc
    of_call e event.Force at is k = cc
    of_call e event.Restart at is k = cc

    there : (o : Option Entry) → slice_get (journal_at n) i ≡ o → is_call_in o ≡ true → IsOfEntry right (line_at mark n i) i
    there None at k = cc
    there (Some e) at k = of_call e e.event at refl k

own_right : (ps : List (ℕ × ℕ)) → list_all (λ (p : ℕ × ℕ). is_call_at p.0 p.1) ps ≡ true → AllByRecursion (λ (x : Item). IsOfPlace right x x.place) (list_map own_line ps)
own_right [] h = tt
own_right (p ∷ ps) h =
    let parts = and_parts (is_call_at p.0 p.1) (list_all (λ (q : ℕ × ℕ). is_call_at q.0 q.1) ps) h in (line_right Own p.0 p.1 parts.0, own_right ps parts.1)

replies : AllByRecursion (λ (x : Item). IsOfPlace right x x.place) lines
replies = all-append (λ (x : Item). IsOfPlace right x x.place) (list_map own_line own_places) (line_at Repeated 1 19 ∷ no_frame ∷ []) (own_right own_places refl) (line_right Repeated 1 19 refl, (inl refl, tt))

-- ---- each call is a line

abbrev is_place : ℕ → Option ℕ → Bool
is_place i None = false
is_place i (Some k) = k == i

abbrev is_line : ℕ → ℕ → Item → Bool
is_line n i x = x.server == n && is_place i x.place

abbrev is_listed : ℕ → ℕ → Bool
is_listed n i = list_any (is_line n i) lines || list_any (is_line n i) raw_lines

abbrev IsListed : ℕ → ℕ → Type 0
IsListed n i = (owner : ℕ) × (x : Item) × IsIn x (items owner) × (x.server ≡ n) × (x.place ≡ Some i)

place_is : (i : ℕ) (o : Option ℕ) → is_place i o ≡ true → o ≡ Some i
place_is i None h = cc
place_is i (Some k) h = ap Some (eqb-true k i h)

listed : (n i : ℕ) → is_listed n i ≡ true → IsListed n i
listed n i h = elim (or-true (list_any (is_line n i) lines) (list_any (is_line n i) raw_lines) h) [
  | inl a ↦ (let x = any-one (is_line n i) lines a in let parts = and_parts ((x.0).server == n) (is_place i (x.0).place) x.2 in (1, x.0, x.1, eqb-true (x.0).server n parts.0, place_is i (x.0).place parts.1))
  | inr a ↦ (let x = any-one (is_line n i) raw_lines a in let parts = and_parts ((x.0).server == n) (is_place i (x.0).place) x.2 in (2, x.0, x.1, eqb-true (x.0).server n parts.0, place_is i (x.0).place parts.1))
]

-- each entry is no call, or passes the test at its place
abbrev are_listed : (ℕ → Bool) → List Entry → Bool
are_listed p [] = true
are_listed p (e ∷ es) = (not (is_call e.event) || p zero) && are_listed (λ i. p (suc i)) es

listed_at : (p : ℕ → Bool) (es : List Entry) (i : ℕ) (e : Entry) → are_listed p es ≡ true → slice_get es i ≡ Some e → is_call e.event ≡ true → p i ≡ true
listed_at p [] i e h at k = cc
listed_at p (x ∷ es) zero e h at k =
    let first = (and_parts (not (is_call x.event) || p zero) (are_listed (λ i. p (suc i)) es) h).0 in
    ap (λ b. not b || p zero) (sym (ap (λ (y : Entry). is_call y.event) (some-same x e at) ∙ k)) ∙ first
listed_at p (x ∷ es) (suc i) e h at k = listed_at (λ j. p (suc j)) es i e (and_parts (not (is_call x.event) || p zero) (are_listed (λ j. p (suc j)) es) h).1 at k

abbrev Lists : ℕ → ServerLog → Type 0
Lists n x = (i : ℕ) (e : Entry) → slice_get x.journal i ≡ Some e → is_call e.event ≡ true → IsListed n i

lists : (n : ℕ) (i : ℕ) (e : Entry) → slice_get (journal_of right n) i ≡ Some e → is_call e.event ≡ true → IsListed n i
lists = each_both items (runs 1 ranks_one one) (runs 2 ranks_two two) Lists
    (λ i e at k. listed 1 i (listed_at (is_listed 1) one i e refl at k))
    (λ i e at k. listed 2 i (listed_at (is_listed 2) two i e refl at k))
    (λ m i e at k. cc)

-- ---- no own line has a number of an earlier one

abbrev is_hello : Call → Bool
is_hello (call.Hello name) = true
is_hello c = false

abbrev is_own : Mark → Bool
is_own Own = true
is_own m = false

abbrev clash_in : Option Sent → Option Sent → Option ℕ → Option ℕ → Bool → Bool
clash_in (Some a) (Some b) (Some here) (Some there) same = same && (b.epoch == a.epoch && (b.number == a.number && (ltb there here && not (is_hello b.call))))
clash_in a b here there same = false

abbrev clash : Item → Item → Bool
clash x y = clash_in x.sent y.sent x.place y.place (y.server == x.server)

no_hello : (c : Call) → IsNoGreeting c → not (is_hello c) ≡ true
no_hello (call.Hello name) h = absurd h
no_hello c h = refl

both_true : (a b : Bool) → a ≡ true → b ≡ true → (a && b) ≡ true
both_true a b h k = ap (λ x. x && b) h ∙ k

less : (a b : ℕ) → a < b → ltb a b ≡ true
less a b h = grind (arith, nat_tests, h)

clashes : (x y : Item) → IsBefore x y → clash x y ≡ true
clashes x y b =
    (λ i. clash_in (b.later_sent i) (b.earlier_sent i) (b.later_place i) (b.earlier_place i) (y.server == x.server))
    ∙ both_true (y.server == x.server) _ (eq-eqb y.server x.server b.server)
    (both_true ((b.earlier).epoch == (b.later).epoch) _ (eq-eqb (b.earlier).epoch (b.later).epoch b.epoch)
    (both_true ((b.earlier).number == (b.later).number) _ (eq-eqb (b.earlier).number (b.later).number b.number)
    (both_true (ltb b.there b.here) _ (less b.there b.here b.order) (no_hello (b.earlier).call b.no_greeting))))

-- behind none of these
abbrev is_first : List Item → Item → Bool
is_first ys x = not (is_own x.mark) || list_all (λ y. not (clash x y)) ys

own_is : (m : Mark) → IsOwn m → not (is_own m) ≡ false
own_is Own h = refl
own_is Repeated h = absurd h
own_is Raw h = absurd h

apart : (xs ys : List Item) → list_all (is_first ys) xs ≡ true → (x y : Item) → IsIn x xs → IsIn y ys → IsOwn x.mark → IsBefore x y → ⊥
apart xs ys firsts x y i k own b =
    let all : list_all (λ z. not (clash x z)) ys ≡ true = ap (λ c. c || list_all (λ z. not (clash x z)) ys) (sym (own_is x.mark own)) ∙ all_true (is_first ys) xs x firsts i in
    let free : not (clash x y) ≡ true = all_true (λ z. not (clash x z)) ys y all k in
    let wrong : false ≡ true = ap not (sym (clashes x y b)) ∙ free in
    cc

fresh : (client owner : ℕ) (x y : Item) → IsIn x (items client) → IsIn y (items owner) → IsOwn x.mark → IsBefore x y → IsRaw y.mark
fresh client owner x y = go (client == 1) (client == 2) (owner == 1) (owner == 2)
  where
    raw_only : IsIn x raw_lines → IsOwn x.mark → ⊥
    raw_only i own = elim i [ inl same ↦ subst (λ (z : Item). IsOwn z.mark) same own | inr more ↦ more ]

    go : (b c d e : Bool) → IsIn x (cond b lines (cond c raw_lines [])) → IsIn y (cond d lines (cond e raw_lines [])) → IsOwn x.mark → IsBefore x y → IsRaw y.mark
    go true c true e i k own b = absurd (apart lines lines refl x y i k own b)
    go true c false true i k own b = absurd (apart lines raw_lines refl x y i k own b)
    go true c false false i k own b = absurd k
    go false true d e i k own b = absurd (raw_only i own)
    go false false d e i k own b = absurd i

-- ---- what it had seen

seen : (client : ℕ) → HaveSeen [] (items client)
seen client = go (client == 1) (client == 2)
  where
    one_seen : 1 ≤ 1
    one_seen = omega arith

    go : (b c : Bool) → HaveSeen [] (cond b lines (cond c raw_lines []))
    go true c = (tt, (tt, (tt, (tt, (tt, (tt, (tt, (tt, (tt, (tt, (tt, (tt, (tt, (tt, (tt, (tt, (tt, ((one_seen, tt), (tt, (tt, (tt, (tt, tt))))))))))))))))))))))
    go false true = (tt, tt)
    go false false = tt

outcomes : AllByRecursion (λ (x : Item). IsOfRun right x.mark x.sent) lines
outcomes = (tt, (tt, (tt, (tt, (tt, (tt, (tt, (tt, (tt, (tt, (tt, (tt, ((omega arith), (tt, (tt, (tt, (tt, (tt, (tt, (tt, (tt, (tt, tt))))))))))))))))))))))

pub clients : AreOfClients right
clients = record {
  replies = each_item (λ client (x : Item). IsOfPlace right x x.place) replies (line_right Raw 1 20 refl, tt);
  whole = λ client n i epoch number c e at called. lists n i e at (ap is_call called);
  fresh = fresh;
  seen = seen;
  outcomes = each_item (λ client (x : Item). IsOfRun right x.mark x.sent) outcomes (tt, tt);
}

pub kept : ArePromisesKept right
kept = promises right proper clients
