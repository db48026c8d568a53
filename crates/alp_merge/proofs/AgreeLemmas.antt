-- What occurs in the run of a storm agrees with the clients' lists, server by server.
use Rattle.std.specs.Prelude.{◌==◌, Bool, true, false, IsTrue, cond, filter, map as list_map, if◌then◌else◌}
use Rattle.std.specs.List.{AllByRecursion}
use Rattle.std.proofs.Common.{◌≡◌, ◌⊎◌, ℕ, zero, suc, ◌<◌, ◌≤◌, List, [], ◌∷◌, ◌++◌, length, inl, inr, refl, sym, ◌∙◌, ap, subst, arith, eq-eqb, ne_eqb}
use Rattle.std.proofs.lemmas.Bool.{cases_eq}
use Rattle.std.proofs.lemmas.List.{append-nil}
use Rattle.alp_carrier.specs.declared.taken.Taken.{Taken}
use Rattle.alp_history.specs.Log.{IsIn}
use Rattle.alp_history.specs.RunLogs.{Lists}
use Rattle.alp_jobs.specs.Deeds.{Deed, sends, gives_tick, gives_timeout}
use Rattle.alp_journal.specs.declared.log.Item.{Item}
use Rattle.alp_journal.specs.declared.message.Message.{Message}
use Rattle.alp_lines.specs.declared.line.Line.{Line}
use Rattle.alp_script.specs.declared.numbered.NumberedLine.{NumberedLine}
use Rattle.alp_session.specs.Crowd.{Crowd}
use Rattle.alp_session.specs.Crowds.{new_crowd}
use Rattle.alp_course.specs.Courses.{Course, IsOneOf, IsSeat, Occurrence, at, looks, brings, loses, repeats, comes, rests, Occurs, AreCourse}
use Rattle.alp_course.specs.Happens.{sent_it, timed_out, ticked, forced, stop_set, restarted, lifts, finds}
use Rattle.alp_course.specs.Languages.{Language, Just, Each}
use Rattle.alp_course.specs.Plays.{sent_of}
use Rattle.alp_course.specs.Turns.{Turn as LineTurn, turns_of, own_in, sent_in}
use Rattle.alp_course.proofs.LanguageLemmas.{IsVia, course_split}
use Rattle.alp_course.proofs.PlayLemmas.{sent_append, plays_sent, silent_settling}
use Rattle.alp_course.proofs.RankLemmas.{below_or}
use Rattle.alp_course.proofs.UpLemmas.{many_on}
use Rattle.alp_merge.specs.Served.{done_by}
use Rattle.alp_merge.specs.Stormed.{IsStormed, occurred_in}
use Rattle.alp_merge.specs.Storms.{is_worker, place_of, happening_of, deeds_at, items_of, times, IfOther, AreCounted, IsBy, IsStorm}
use Rattle.alp_merge.specs.Turns.{Who, worker, carrier, Turn, occurrence_in, server_of, turns_at}

-- ---- the items of a client at a server

abbrev pub items_at : ℕ → List Item → List Item
items_at n xs = filter (λ (x : Item). x.server == n) xs

abbrev pub own_at : (client server : ℕ) → List (ℕ × Item) → List Item
own_at k n [] = []
own_at k n (y ∷ ys) = if y.0 == k then (if y.1.server == n then y.1 ∷ own_at k n ys else own_at k n ys) else own_at k n ys

own_both : (k n : ℕ) (xs ys : List (ℕ × Item)) → own_at k n (xs ++ ys) ≡ own_at k n xs ++ own_at k n ys
own_both k n [] ys = refl
own_both k n (x ∷ xs) ys = go (x.0 == k) (x.1.server == n) (own_both k n xs ys)
  where
    go : (b c : Bool) → own_at k n (xs ++ ys) ≡ own_at k n xs ++ own_at k n ys
        → (if b then (if c then x.1 ∷ own_at k n (xs ++ ys) else own_at k n (xs ++ ys)) else own_at k n (xs ++ ys)) ≡ (if b then (if c then x.1 ∷ own_at k n xs else own_at k n xs) else own_at k n xs) ++ own_at k n ys
    go true true more = ap (λ (l : List Item). x.1 ∷ l) more
    go true false more = more
    go false c more = more

items_both : (n : ℕ) (xs ys : List Item) → items_at n (xs ++ ys) ≡ items_at n xs ++ items_at n ys
items_both n [] ys = refl
items_both n (x ∷ xs) ys = go (x.server == n) (items_both n xs ys)
  where
    go : (b : Bool) → items_at n (xs ++ ys) ≡ items_at n xs ++ items_at n ys → (if b then x ∷ items_at n (xs ++ ys) else items_at n (xs ++ ys)) ≡ (if b then x ∷ items_at n xs else items_at n xs) ++ items_at n ys
    go true more = ap (λ (l : List Item). x ∷ l) more
    go false more = more

own_of_turn : (k n c : ℕ) (xs : List Item) (ys : List (ℕ × Item)) → own_at k n (list_map (λ (x : Item). (c, x)) xs ++ ys) ≡ items_at n (cond (c == k) xs []) ++ own_at k n ys
own_of_turn k n c [] ys = none (c == k)
  where
    none : (b : Bool) → own_at k n ys ≡ items_at n (cond b [] []) ++ own_at k n ys
    none true = refl
    none false = refl
own_of_turn k n c (x ∷ xs) ys = go (c == k) (own_of_turn k n c xs ys)
  where
    rest : List Item
    rest = own_at k n (list_map (λ (z : Item). (c, z)) xs ++ ys)

    here : (d : Bool) → rest ≡ items_at n xs ++ own_at k n ys → (if d then x ∷ rest else rest) ≡ (if d then x ∷ items_at n xs else items_at n xs) ++ own_at k n ys
    here true more = ap (λ (l : List Item). x ∷ l) more
    here false more = more

    go : (b : Bool) → rest ≡ items_at n (cond b xs []) ++ own_at k n ys → (if b then (if x.server == n then x ∷ rest else rest) else rest) ≡ items_at n (cond b (x ∷ xs) []) ++ own_at k n ys
    go true more = here (x.server == n) more
    go false more = more

lines_agree : (k n : ℕ) (ts : List LineTurn) → own_at k n (sent_in ts) ≡ items_at n (own_in k ts)
lines_agree k n [] = refl
lines_agree k n (t ∷ ts) = own_of_turn k n t.client t.items (sent_in ts) ∙ (ap (λ (l : List Item). items_at n (cond (t.client == k) t.items []) ++ l) (lines_agree k n ts) ∙ sym (items_both n (cond (t.client == k) t.items []) (own_in k ts)))

-- ---- what is counted sends nothing

sent_none : (xs ys : List Occurrence) → sent_of xs ≡ [] → sent_of ys ≡ [] → sent_of (xs ++ ys) ≡ []
sent_none xs ys one two = sent_append xs ys ∙ (λ i. one i ++ two i)

times_none : (k from to : ℕ) → sent_of (times k (loses from to)) ≡ []
times_none zero from to = refl
times_none (suc k) from to = times_none k from to

each_none : (A : ℕ → Language) → ((n : ℕ) (xs : List Occurrence) → A n xs → sent_of xs ≡ []) → (n : ℕ) (xs : List Occurrence) → Each A n xs → sent_of xs ≡ []
each_none A none zero xs h = ap sent_of h
each_none A none (suc n) xs h = ap sent_of h.are ∙ sent_none h.front h.back (each_none A none n h.front h.first) (none (suc n) h.back h.second)

counted_none : (servers : ℕ) (took : (from to : ℕ) → List Taken) (xs : List Occurrence) → AreCounted servers took xs → sent_of xs ≡ []
counted_none servers took xs word = each_none (λ from. Each (λ to. IfOther (from == to) (Just (times (length (took from to)) (loses from to)))) servers) (λ from. each_none (λ to. IfOther (from == to) (Just (times (length (took from to)) (loses from to)))) (λ to. pair from to) servers) servers xs word
  where
    pair : (from to : ℕ) (ys : List Occurrence) → IfOther (from == to) (Just (times (length (took from to)) (loses from to))) ys → sent_of ys ≡ []
    pair from to ys h = go (from == to) h
      where
        go : (b : Bool) → IfOther b (Just (times (length (took from to)) (loses from to))) ys → sent_of ys ≡ []
        go true is = ap sent_of is
        go false is = ap sent_of is ∙ times_none (length (took from to)) from to

-- ---- what turns sent

-- the items of what occurred
abbrev sent_items : List Occurrence → List Item
sent_items [] = []
sent_items (at n (sent_it k x) ∷ os) = x ∷ sent_items os
sent_items (o ∷ os) = sent_items os

-- a turn at which a client sent something is its own, and at the item's server
abbrev IsOwnOf : Who → Occurrence → Type 0
IsOwnOf w (at n (sent_it k x)) = (w ≡ worker k) × (x.server ≡ n)
IsOwnOf w o = Unit {0}

turn_items : (k n : ℕ) (xs : List Turn) → AllByRecursion (λ (x : Turn). IsOwnOf x.who x.occurrence) xs → own_at k n (sent_of (list_map occurrence_in xs)) ≡ sent_items (done_by (is_worker k) (turns_at n xs))
turn_items k n [] all = refl
turn_items k n (x ∷ xs) all = go x.occurrence refl all.0 (turn_items k n xs all.1)
  where
    R : List Item
    R = own_at k n (sent_of (list_map occurrence_in xs))

    D : List Occurrence
    D = done_by (is_worker k) (turns_at n xs)

    rhs_is : (b c : Bool) → (server_of x.occurrence == n) ≡ b → is_worker k x.who ≡ c → sent_items (done_by (is_worker k) (turns_at n (x ∷ xs))) ≡ (if b then (if c then sent_items (x.occurrence ∷ D) else sent_items D) else sent_items D)
    rhs_is true true e f =
        ap (λ (b : Bool). sent_items (list_map (λ (y : Turn). y.occurrence) (filter (λ (y : Turn). is_worker k y.who) (if b then x ∷ turns_at n xs else turns_at n xs)))) e
        ∙ ap (λ (b : Bool). sent_items (list_map (λ (y : Turn). y.occurrence) (if b then x ∷ filter (λ (y : Turn). is_worker k y.who) (turns_at n xs) else filter (λ (y : Turn). is_worker k y.who) (turns_at n xs)))) f
    rhs_is true false e f =
        ap (λ (b : Bool). sent_items (list_map (λ (y : Turn). y.occurrence) (filter (λ (y : Turn). is_worker k y.who) (if b then x ∷ turns_at n xs else turns_at n xs)))) e
        ∙ ap (λ (b : Bool). sent_items (list_map (λ (y : Turn). y.occurrence) (if b then x ∷ filter (λ (y : Turn). is_worker k y.who) (turns_at n xs) else filter (λ (y : Turn). is_worker k y.who) (turns_at n xs)))) f
    rhs_is false c e f = ap (λ (b : Bool). sent_items (list_map (λ (y : Turn). y.occurrence) (filter (λ (y : Turn). is_worker k y.who) (if b then x ∷ turns_at n xs else turns_at n xs)))) e

    Goal : Type 0
    Goal = own_at k n (sent_of (list_map occurrence_in (x ∷ xs))) ≡ sent_items (done_by (is_worker k) (turns_at n (x ∷ xs)))

    -- something was sent
    its : (j : ℕ) (y : Item) (m : ℕ) → x.occurrence ≡ at m (sent_it j y) → x.who ≡ worker j → y.server ≡ m → R ≡ sent_items D → Goal
    its j y m is who there rest =
        ap (λ (o : Occurrence). own_at k n (sent_of (o ∷ list_map occurrence_in xs))) is
        ∙ (ap (λ (q : ℕ). if j == k then (if q == n then y ∷ R else R) else R) there
        ∙ (both (m == n) (j == k) ∙ sym (rhs_is (m == n) (j == k) (ap (λ (o : Occurrence). server_of o == n) is) (ap (is_worker k) who))))
      where
        both : (b c : Bool) → (if c then (if b then y ∷ R else R) else R) ≡ (if b then (if c then sent_items (x.occurrence ∷ D) else sent_items D) else sent_items D)
        both true true = ap (λ (l : List Item). y ∷ l) rest ∙ sym (ap (λ (o : Occurrence). sent_items (o ∷ D)) is)
        both true false = rest
        both false true = rest
        both false false = rest

    -- or nothing
    aside : (o : Occurrence) → x.occurrence ≡ o → sent_items (o ∷ D) ≡ sent_items D → sent_of (o ∷ list_map occurrence_in xs) ≡ sent_of (list_map occurrence_in xs) → R ≡ sent_items D → Goal
    aside o is none silent rest =
        ap (λ (y : Occurrence). own_at k n (sent_of (y ∷ list_map occurrence_in xs))) is
        ∙ (ap (own_at k n) silent ∙ (rest ∙ sym (rhs_is (server_of x.occurrence == n) (is_worker k x.who) refl refl ∙ same (server_of x.occurrence == n) (is_worker k x.who))))
      where
        same : (b c : Bool) → (if b then (if c then sent_items (x.occurrence ∷ D) else sent_items D) else sent_items D) ≡ sent_items D
        same true true = ap (λ (y : Occurrence). sent_items (y ∷ D)) is ∙ none
        same true false = refl
        same false c = refl

    go : (o : Occurrence) → x.occurrence ≡ o → IsOwnOf x.who x.occurrence → R ≡ sent_items D → Goal
    go (at m (sent_it j y)) is own rest = (let both : IsOwnOf x.who (at m (sent_it j y)) = subst (IsOwnOf x.who) is own in its j y m is both.0 both.1 rest)
    go (at m (timed_out t)) is own rest = aside (at m (timed_out t)) is refl refl rest
    go (at m ticked) is own rest = aside (at m ticked) is refl refl rest
    go (at m forced) is own rest = aside (at m forced) is refl refl rest
    go (at m (stop_set calls)) is own rest = aside (at m (stop_set calls)) is refl refl rest
    go (at m (restarted pick)) is own rest = aside (at m (restarted pick)) is refl refl rest
    go (at m (lifts is_down)) is own rest = aside (at m (lifts is_down)) is refl refl rest
    go (at m (finds least)) is own rest = aside (at m (finds least)) is refl refl rest
    go (looks from to waits) is own rest = aside (looks from to waits) is refl refl rest
    go (brings from to) is own rest = aside (brings from to) is refl refl rest
    go (loses from to) is own rest = aside (loses from to) is refl refl rest
    go (repeats from to) is own rest = aside (repeats from to) is refl refl rest
    go (comes from to m seen) is own rest = aside (comes from to m seen) is refl refl rest
    go (rests is_rest) is own rest = aside (rests is_rest) is refl refl rest

-- the deeds of a client have its items
items_deeds : (k n : ℕ) (ds : List Deed) → sent_items (deeds_at k n ds) ≡ items_at n (items_of ds)
items_deeds k n [] = refl
items_deeds k n (sends x ∷ ds) = go (x.server == n) (items_deeds k n ds)
  where
    go : (b : Bool) → sent_items (deeds_at k n ds) ≡ items_at n (items_of ds)
        → sent_items (list_map (λ (d : Deed). at n (happening_of k d)) (if b then sends x ∷ filter (λ (d : Deed). place_of d == n) ds else filter (λ (d : Deed). place_of d == n) ds)) ≡ (if b then x ∷ items_at n (items_of ds) else items_at n (items_of ds))
    go true more = ap (λ (l : List Item). x ∷ l) more
    go false more = more
items_deeds k n (gives_tick server ∷ ds) = go (server == n) (items_deeds k n ds)
  where
    go : (b : Bool) → sent_items (deeds_at k n ds) ≡ items_at n (items_of ds) → sent_items (list_map (λ (d : Deed). at n (happening_of k d)) (if b then gives_tick server ∷ filter (λ (d : Deed). place_of d == n) ds else filter (λ (d : Deed). place_of d == n) ds)) ≡ items_at n (items_of ds)
    go true more = more
    go false more = more
items_deeds k n (gives_timeout server t ∷ ds) = go (server == n) (items_deeds k n ds)
  where
    go : (b : Bool) → sent_items (deeds_at k n ds) ≡ items_at n (items_of ds) → sent_items (list_map (λ (d : Deed). at n (happening_of k d)) (if b then gives_timeout server t ∷ filter (λ (d : Deed). place_of d == n) ds else filter (λ (d : Deed). place_of d == n) ds)) ≡ items_at n (items_of ds)
    go true more = more
    go false more = more

-- ---- whose turns they are

-- what is among a client's deeds at a server is one of them
record IsDeed (k n : ℕ) (o : Occurrence) : Type 0 where
  deed : Deed
  is : o ≡ at n (happening_of k deed)
  there : place_of deed ≡ n

in_deeds : (k n : ℕ) (ds : List Deed) (o : Occurrence) → IsIn o (deeds_at k n ds) → IsDeed k n o
in_deeds k n [] o i = absurd i
in_deeds k n (d ∷ ds) o i = go (cases_eq (place_of d) n) (in_deeds k n ds o)
  where
    go : (place_of d ≡ n) ⊎ (place_of d ≡ n → ⊥) → (IsIn o (deeds_at k n ds) → IsDeed k n o) → IsDeed k n o
    go (inl same) more = elim (subst (λ (b : Bool). IsIn o (list_map (λ (e : Deed). at n (happening_of k e)) (if b then d ∷ filter (λ (e : Deed). place_of e == n) ds else filter (λ (e : Deed). place_of e == n) ds))) (eq-eqb (place_of d) n same) i) [
      | inl is ↦ record { deed = d; is = is; there = same }
      | inr rest ↦ more rest
    ]
    go (inr away) more = more (subst (λ (b : Bool). IsIn o (list_map (λ (e : Deed). at n (happening_of k e)) (if b then d ∷ filter (λ (e : Deed). place_of e == n) ds else filter (λ (e : Deed). place_of e == n) ds))) (ne_eqb (place_of d) n away) i)

-- a turn is among what its client did at its server
in_done : (is : Who → Bool) (n : ℕ) (x : Turn) (xs : List Turn) → IsIn x xs → server_of x.occurrence ≡ n → is x.who ≡ true → IsIn x.occurrence (done_by is (turns_at n xs))
in_done is n x [] i there own = absurd i
in_done is n x (y ∷ xs) (inl same) there own =
    subst (λ (b : Bool). IsIn x.occurrence (list_map (λ (z : Turn). z.occurrence) (filter (λ (z : Turn). is z.who) (if b then y ∷ turns_at n xs else turns_at n xs)))) (sym (eq-eqb (server_of y.occurrence) n (ap (λ (z : Turn). server_of z.occurrence) (sym same) ∙ there)))
    (subst (λ (b : Bool). IsIn x.occurrence (list_map (λ (z : Turn). z.occurrence) (if b then y ∷ filter (λ (z : Turn). is z.who) (turns_at n xs) else filter (λ (z : Turn). is z.who) (turns_at n xs)))) (sym (ap (λ (z : Turn). is z.who) (sym same) ∙ own)) (inl (ap (λ (z : Turn). z.occurrence) same)))
in_done is n x (y ∷ xs) (inr i) there own = go (server_of y.occurrence == n) (is y.who) (in_done is n x xs i there own)
  where
    go : (b c : Bool) → IsIn x.occurrence (done_by is (turns_at n xs)) → IsIn x.occurrence (list_map (λ (z : Turn). z.occurrence) (filter (λ (z : Turn). is z.who) (if b then y ∷ turns_at n xs else turns_at n xs)))
    go true c more = its (is y.who) more
      where
        its : (d : Bool) → IsIn x.occurrence (done_by is (turns_at n xs)) → IsIn x.occurrence (list_map (λ (z : Turn). z.occurrence) (if d then y ∷ filter (λ (z : Turn). is z.who) (turns_at n xs) else filter (λ (z : Turn). is z.who) (turns_at n xs)))
        its true more = inr more
        its false more = more
    go false c more = more

-- none of its turns is there
none_done : (is : Who → Bool) (n : ℕ) (xs : List Turn) → AllByRecursion (λ (x : Turn). is x.who ≡ false) xs → done_by is (turns_at n xs) ≡ []
none_done is n [] all = refl
none_done is n (x ∷ xs) all = go (server_of x.occurrence == n) (none_done is n xs all.1)
  where
    go : (b : Bool) → done_by is (turns_at n xs) ≡ [] → list_map (λ (z : Turn). z.occurrence) (filter (λ (z : Turn). is z.who) (if b then x ∷ turns_at n xs else turns_at n xs)) ≡ []
    go true more = ap (λ (d : Bool). list_map (λ (z : Turn). z.occurrence) (if d then x ∷ filter (λ (z : Turn). is z.who) (turns_at n xs) else filter (λ (z : Turn). is z.who) (turns_at n xs))) all.0 ∙ more
    go false more = more

none_there : (n : ℕ) (xs : List Turn) → AllByRecursion (λ (x : Turn). server_of x.occurrence ≡ n → ⊥) xs → turns_at n xs ≡ []
none_there n [] all = refl
none_there n (x ∷ xs) all = ap (λ (b : Bool). if b then x ∷ turns_at n xs else turns_at n xs) (ne_eqb (server_of x.occurrence) n all.0) ∙ none_there n xs all.1

none_items : (n : ℕ) (ds : List Deed) → AllByRecursion (λ (d : Deed). place_of d ≡ n → ⊥) ds → items_at n (items_of ds) ≡ []
none_items n [] all = refl
none_items n (sends x ∷ ds) all = ap (λ (b : Bool). if b then x ∷ items_at n (items_of ds) else items_at n (items_of ds)) (ne_eqb x.server n all.0) ∙ none_items n ds all.1
none_items n (gives_tick server ∷ ds) all = none_items n ds all.1
none_items n (gives_timeout server t ∷ ds) all = none_items n ds all.1

all_with : {A : Type 0} (P Q : A → Type 0) (xs : List A) → ((x : A) → P x → Q x) → AllByRecursion P xs → AllByRecursion Q xs
all_with P Q [] f all = tt
all_with P Q (x ∷ xs) f all = (f x all.0, all_with P Q xs f all.1)

both_ways : (b : Bool) → b ≡ false → IsTrue b → ⊥
both_ways b low up = (let wrong : false ≡ true = sym low ∙ up in cc)

-- each turn of a course is at one of its servers
seats_of : (is_job : ℕ → Bool) (r after : Course) (xs : List Turn) → AllByRecursion (λ (x : Turn). IsBy is_job x.who x.occurrence) xs → AreCourse r (list_map occurrence_in xs) after → AllByRecursion (λ (x : Turn). IsOneOf (length r.seats) (server_of x.occurrence)) xs
seats_of is_job r after [] by_them h = tt
seats_of is_job r after (x ∷ xs) by_them h = (one x.who x.occurrence by_them.0 h.1, all_with (λ (y : Turn). IsOneOf (length mid.seats) (server_of y.occurrence)) (λ (y : Turn). IsOneOf (length r.seats) (server_of y.occurrence)) xs (λ y s. back (server_of y.occurrence) s) (seats_of is_job mid after xs by_them.1 h.2))
  where
    mid : Course
    mid = h.0

    many : length mid.seats ≡ length r.seats
    many = many_on r mid (x.occurrence ∷ []) (mid, h.1, refl)

    back : (n : ℕ) → IsOneOf (length mid.seats) n → IsOneOf (length r.seats) n
    back n s = record { first = s.first; last = (let low : n ≤ length mid.seats = s.last in let same = many in omega (arith, low, same)) }

    one : (w : Who) (o : Occurrence) → IsBy is_job w o → Occurs r o mid → IsOneOf (length r.seats) (server_of o)
    one (worker k) (at n h) its a = record { first = a.here.first; last = a.here.last }
    one (carrier f t) (comes from to m seen) its a = record { first = a.0.receiver.first; last = a.0.receiver.last }
    one (worker k) o its a = absurd its
    one (carrier f t) o its a = absurd its

module _ (plan : ℕ) (is_job : ℕ → Bool) (job : ℕ → List (List Line)) (Starved : ℕ → ℕ → ℕ → Message → Type 0) (c : Crowd) (r after : Course) (deeds : ℕ → List Deed) (knows : ℕ → Crowd) (h : IsStorm plan is_job job Starved c r after deeds knows) where
  via : IsVia r (list_map occurrence_in h.turns) h.counted after
  via = course_split r after (list_map occurrence_in h.turns) h.counted h.course

  seats : AllByRecursion (λ (x : Turn). IsOneOf (length r.seats) (server_of x.occurrence)) h.turns
  seats = seats_of is_job r via.mid h.turns h.others via.first

  own_turn : (x : Turn) → IsIn x h.turns → IsBy is_job x.who x.occurrence → IsOneOf (length r.seats) (server_of x.occurrence) → IsOwnOf x.who x.occurrence
  own_turn x i its s = go x.who x.occurrence refl refl its s
    where
      its_own : (k m j : ℕ) (y : Item) → IsDeed k m (at m (sent_it j y)) → (worker k ≡ worker j) × (y.server ≡ m)
      its_own k m j y d = by_deed d.deed d.is d.there
        where
          by_deed : (e : Deed) → at m (sent_it j y) ≡ at m (happening_of k e) → place_of e ≡ m → (worker k ≡ worker j) × (y.server ≡ m)
          by_deed (sends z) is there = (ap worker (let same : k ≡ j = cc in same), (let same : y ≡ z = cc in ap (λ (u : Item). u.server) same ∙ there))
          by_deed (gives_tick server) is there = absurd (let wrong : at m (sent_it j y) ≡ at m ticked = is in cc)
          by_deed (gives_timeout server t) is there = absurd (let wrong : at m (sent_it j y) ≡ at m (timed_out t) = is in cc)

      go : (w : Who) (o : Occurrence) → x.who ≡ w → x.occurrence ≡ o → IsBy is_job w o → IsOneOf (length r.seats) (server_of o) → IsOwnOf w o
      go (worker k) (at m (sent_it j y)) who is job_is there =
          its_own k m j y (in_deeds k m (deeds k) (at m (sent_it j y))
          (subst (λ (os : List Occurrence). IsIn (at m (sent_it j y)) os) (h.own k m job_is (record { first = there.first; last = there.last }))
          (subst (λ (o : Occurrence). IsIn o (done_by (is_worker k) (turns_at m h.turns))) is (in_done (is_worker k) m x h.turns i (ap server_of is) (ap (is_worker k) who ∙ eq-eqb k k refl)))))
      go (carrier f t) (at m (sent_it j y)) who is none there = absurd none
      go w (at m (timed_out t)) who is its there = tt
      go w (at m ticked) who is its there = tt
      go w (at m forced) who is its there = tt
      go w (at m (stop_set calls)) who is its there = tt
      go w (at m (restarted pick)) who is its there = tt
      go w (at m (lifts is_down)) who is its there = tt
      go w (at m (finds least)) who is its there = tt
      go w (looks from to waits) who is its there = tt
      go w (brings from to) who is its there = tt
      go w (loses from to) who is its there = tt
      go w (repeats from to) who is its there = tt
      go w (comes from to m seen) who is its there = tt
      go w (rests is_rest) who is its there = tt

  own_turns : (xs : List Turn) → ((x : Turn) → IsIn x xs → IsIn x h.turns) → AllByRecursion (λ (x : Turn). IsBy is_job x.who x.occurrence) xs → AllByRecursion (λ (x : Turn). IsOneOf (length r.seats) (server_of x.occurrence)) xs → AllByRecursion (λ (x : Turn). IsOwnOf x.who x.occurrence) xs
  own_turns [] among its s = tt
  own_turns (x ∷ xs) among its s = (own_turn x (among x (inl refl)) its.0 s.0, own_turns xs (λ y i. among y (inr i)) its.1 s.1)

  turns_sent : (k n : ℕ) → own_at k n (sent_of (list_map occurrence_in h.turns)) ≡ sent_items (done_by (is_worker k) (turns_at n h.turns))
  turns_sent k n = turn_items k n h.turns (own_turns h.turns (λ x i. i) h.others seats)

  -- what a storm has of a client at a server is what its deeds have
  storm_agrees : (k n : ℕ) → IsTrue (is_job k) ⊎ ((deeds k ≡ []) × (is_job k ≡ false)) → own_at k n (sent_of (list_map occurrence_in h.turns)) ≡ items_at n (items_of (deeds k))
  storm_agrees k n (inl is) = turns_sent k n ∙ at_seat (below_or n 1) (below_or (length r.seats) n)
    where
      away : (IsOneOf (length r.seats) n → ⊥) → sent_items (done_by (is_worker k) (turns_at n h.turns)) ≡ items_at n (items_of (deeds k))
      away none =
          ap (λ (xs : List Turn). sent_items (done_by (is_worker k) xs)) (none_there n h.turns (all_with (λ (x : Turn). IsOneOf (length r.seats) (server_of x.occurrence)) (λ (x : Turn). server_of x.occurrence ≡ n → ⊥) h.turns (λ x s same. none (subst (IsOneOf (length r.seats)) same s)) seats))
          ∙ sym (none_items n (deeds k) (all_with (λ (d : Deed). IsSeat r (place_of d)) (λ (d : Deed). place_of d ≡ n → ⊥) (deeds k) (λ d s same. none (subst (IsOneOf (length r.seats)) same (record { first = s.first; last = s.last }))) (h.among k is)))

      at_seat : (n < 1) ⊎ (1 ≤ n) → (length r.seats < n) ⊎ (n ≤ length r.seats) → sent_items (done_by (is_worker k) (turns_at n h.turns)) ≡ items_at n (items_of (deeds k))
      at_seat (inl low) far = away (λ s. (let some : 1 ≤ n = s.first in omega (arith, low, some)))
      at_seat (inr some) (inl far) = away (λ s. (let near : n ≤ length r.seats = s.last in omega (arith, far, near)))
      at_seat (inr some) (inr near) = ap sent_items (h.own k n is (record { first = some; last = near })) ∙ items_deeds k n (deeds k)
  storm_agrees k n (inr (none, no_job)) = turns_sent k n ∙ (ap sent_items (none_done (is_worker k) n h.turns (all_with (λ (x : Turn). IsBy is_job x.who x.occurrence) (λ (x : Turn). is_worker k x.who ≡ false) h.turns (λ x its. other x.who x.occurrence its) h.others)) ∙ sym (ap (λ (ds : List Deed). items_at n (items_of ds)) none))
    where
      other : (w : Who) (o : Occurrence) → IsBy is_job w o → is_worker k w ≡ false
      other (carrier f t) o its = refl
      other (worker j) (at m x) its = ne_eqb j k (λ same. both_ways (is_job k) no_job (subst (λ (i : ℕ). IsTrue (is_job i)) same its))
      other (worker j) o its = absurd its

-- ---- the run

pub stormed_agrees : (servers : ℕ) (lines : List NumberedLine) (plan : ℕ) (is_job : ℕ → Bool) (job : ℕ → List (List Line)) (Starved : ℕ → ℕ → ℕ → Message → Type 0) (lists : Lists) (first last : Course)
    → (h : IsStormed servers lines plan is_job job Starved lists first last) → (k n : ℕ) → own_at k n (sent_of (occurred_in servers lines plan is_job job Starved lists first last h)) ≡ items_at n (lists k)
stormed_agrees servers lines plan is_job job Starved lists first last h k n =
    ap (own_at k n) sent
    ∙ (own_both k n (sent_in (turns_of lines lists)) (sent_of (list_map occurrence_in h.storm.turns))
    ∙ ((λ i. lines_agree k n (turns_of lines lists) i ++ storm_agrees plan is_job job Starved h.clients h.begun h.ended h.deeds h.knows h.storm k n (job_or (is_job k) refl) i)
    ∙ (sym (items_both n (own_in k (turns_of lines lists)) (items_of (h.deeds k))) ∙ sym (ap (items_at n) (h.all k)))))
  where
    sent : sent_of (occurred_in servers lines plan is_job job Starved lists first last h) ≡ sent_in (turns_of lines lists) ++ sent_of (list_map occurrence_in h.storm.turns)
    sent =
        sent_append h.by_lines ((list_map occurrence_in h.storm.turns ++ h.storm.counted) ++ h.behind)
        ∙ (λ i. plays_sent servers new_crowd h.clients lines (turns_of lines lists) h.by_lines h.plays i
        ++ (sent_append (list_map occurrence_in h.storm.turns ++ h.storm.counted) h.behind
        ∙ ((λ j. sent_append (list_map occurrence_in h.storm.turns) h.storm.counted j ++ silent_settling servers h.behind h.settles j)
        ∙ (append-nil (sent_of (list_map occurrence_in h.storm.turns) ++ sent_of h.storm.counted)
        ∙ (ap (λ (l : List (ℕ × Item)). sent_of (list_map occurrence_in h.storm.turns) ++ l) (counted_none (length h.begun.seats) h.storm.took h.storm.counted h.storm.are_counted) ∙ append-nil (sent_of (list_map occurrence_in h.storm.turns)))))) i)

    job_or : (b : Bool) → is_job k ≡ b → IsTrue (is_job k) ⊎ ((h.deeds k ≡ []) × (is_job k ≡ false))
    job_or true e = inl e
    job_or false e = inr (h.idle k (λ is. both_ways (is_job k) e is), e)
