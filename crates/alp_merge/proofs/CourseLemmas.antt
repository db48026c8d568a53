-- The turns of all servers in the order of their ranks are a course.
use Rattle.std.specs.Prelude.{max, get_or, slice_set, map as list_map}
use Rattle.std.specs.List.{AllByRecursion}
use Rattle.std.proofs.Common.{◌≡◌, ℕ, ◌+◌, ◌-◌, ◌<◌, ◌≤◌, List, [], ◌∷◌, ◌++◌, length, inl, inr, refl, sym, ◌∙◌, ap, subst, arith}
use Rattle.std.proofs.lemmas.List.{length-append}
use Rattle.alp_journal.specs.declared.entry.Entry.{Entry}
use Rattle.alp_journal.specs.declared.message.Message.{Message}
use Rattle.alp_course.specs.Courses.{Course, Seat, seat_at, seat_after, last_rank, ranks_with, IsOneOf, IsSeat, IsSentBy, Occurrence, at, comes, Occurs, AreCourse}
use Rattle.alp_course.specs.Happens.{Stand}
use Rattle.alp_course.specs.Midway.{IsMidway}
use Rattle.alp_course.proofs.LinkLemmas.{get_left}
use Rattle.alp_course.proofs.MidwayLemmas.{midway_on}
use Rattle.alp_course.proofs.RankLemmas.{get_below, below_or, all_many, old_rank, new_rank, last_with}
use Rattle.alp_course.proofs.SeatLemmas.{as_many, each_seat}
use Rattle.alp_merge.specs.Closed.{WasSentTo}
use Rattle.alp_merge.specs.Turns.{Turn, occurrence_in, server_of, turns_at, AreInOrder, seen_by}
use Rattle.alp_merge.proofs.OrderLemmas.{own_first, other_first, AreAbove, none_below, AreOf, merged, merged_ordered, merged_all_of, merged_own}
use Rattle.alp_merge.proofs.RunLemmas.{Makes, Steps, Runs}

-- ---- one server

-- its turns have ranks above its last one, one above the other
runs_above : (s t : Seat) (xs : List Turn) → Runs s xs t → AreAbove (last_rank s.ranks) xs
runs_above s t [] runs = tt
runs_above s t (x ∷ xs) (mid, step, rest) =
    let here : x.rank ≡ max (last_rank s.ranks) (seen_by x.occurrence) + 1 = step.ranked in
    let last : last_rank mid.ranks ≡ max (last_rank s.ranks) (seen_by x.occurrence) + 1 + 0 = ap (λ (u : Seat). last_rank u.ranks) step.behind ∙ last_with s.ranks (seen_by x.occurrence) x.entry [] in
    let same : last_rank mid.ranks ≡ x.rank = omega (arith, here, last) in
    (omega (arith, here), subst (λ (n : ℕ). AreAbove n xs) same (runs_above mid t xs rest))

above_from : (a b : ℕ) (xs : List Turn) → a ≤ b → AreAbove b xs → AreAbove a xs
above_from a b [] down h = tt
above_from a b (x ∷ xs) down h = ((let up : b < x.rank = h.0 in omega (arith, down, up)), h.1)

-- What was sent by its entry of a small rank was sent before a turn of a greater one.
sent_before : (s t : Seat) (x : Turn) (to : ℕ) (m : Message) (seen : ℕ) → length s.ranks ≡ length s.journal → Steps s x t → seen < x.rank → IsSentBy t to m seen → IsSentBy s to m seen
sent_before s t x to m seen many step less after = go (subst (λ (u : Seat). IsSentBy u to m seen) step.behind after)
  where
    go : IsSentBy (seat_after s (seen_by x.occurrence) (x.entry ∷ []) step.stand) to m seen → IsSentBy s to m seen
    go h = elim (below_or h.place (length s.journal)) [
      | inl under ↦ record {
        place = h.place;
        entry = h.entry;
        stands = sym (get_left s.journal (x.entry ∷ []) h.place under) ∙ h.stands;
        sent = h.sent;
        low = (let same : get_or (ranks_with s.ranks (seen_by x.occurrence) (x.entry ∷ [])) h.place 0 ≡ get_or s.ranks h.place 0 = old_rank s.ranks (seen_by x.occurrence) (x.entry ∷ []) h.place (omega (arith, under, many)) in let low : get_or (ranks_with s.ranks (seen_by x.occurrence) (x.entry ∷ [])) h.place 0 ≤ seen = h.low in omega (arith, same, low));
      }
      | inr new ↦ absurd
          (let all : length (s.journal ++ x.entry ∷ []) ≡ length s.journal + 1 = length-append s.journal (x.entry ∷ []) in
          let within : h.place < length (s.journal ++ x.entry ∷ []) = get_below (s.journal ++ x.entry ∷ []) h.place h.entry h.stands in
          let rank : get_or (ranks_with s.ranks (seen_by x.occurrence) (x.entry ∷ [])) h.place 0 ≡ max (last_rank s.ranks) (seen_by x.occurrence) + 1 + (h.place - length s.ranks) = new_rank s.ranks (seen_by x.occurrence) (x.entry ∷ []) h.place (omega (arith, new, many)) (omega (arith, within, all, many)) in
          let low : get_or (ranks_with s.ranks (seen_by x.occurrence) (x.entry ∷ [])) h.place 0 ≤ seen = h.low in
          let here : x.rank ≡ max (last_rank s.ranks) (seen_by x.occurrence) + 1 = step.ranked in
          omega (arith, rank, low, here, less))
    ]

still_many : (s t : Seat) (x : Turn) → length s.ranks ≡ length s.journal → Steps s x t → length t.ranks ≡ length t.journal
still_many s t x many step =
    let ranks : length t.ranks ≡ length s.ranks + 1 = ap (λ (u : Seat). length u.ranks) step.behind ∙ all_many s.ranks (seen_by x.occurrence) (x.entry ∷ []) in
    let journal : length t.journal ≡ length s.journal + 1 = ap (λ (u : Seat). length u.journal) step.behind ∙ length-append s.journal (x.entry ∷ []) in
    omega (arith, ranks, journal, many)

-- and before all turns of greater ones
sent_first : (s t : Seat) (xs : List Turn) (to : ℕ) (m : Message) (seen most : ℕ) → length s.ranks ≡ length s.journal → Runs s xs t → AllByRecursion (λ (x : Turn). most ≤ x.rank) xs → seen < most → IsSentBy t to m seen → IsSentBy s to m seen
sent_first s t [] to m seen most many runs all less after = subst (λ (u : Seat). IsSentBy u to m seen) runs after
sent_first s t (x ∷ xs) to m seen most many (mid, step, rest) all less after =
    sent_before s mid x to m seen many step (let up : most ≤ x.rank = all.0 in omega (arith, up, less)) (sent_first mid t xs to m seen most (still_many s mid x many step) rest all.1 less after)

-- ---- one turn

abbrev with_seat : Course → ℕ → Seat → Course
with_seat r n s = record r { seats = slice_set r.seats (n - 1) s }

-- another server sent the message, as the course stands
abbrev IsShown : Course → Occurrence → Type 0
IsShown r (comes from to m seen) = IsSeat r from × (from ≡ to → ⊥) × IsSentBy (seat_at r from) to m seen
IsShown r o = Unit {0}

occurs : (r : Course) (o : Occurrence) (es : List Entry) (w : Stand) → IsSeat r (server_of o) → Makes o (seat_at r (server_of o)) es w → IsShown r o → Occurs r o (with_seat r (server_of o) (seat_after (seat_at r (server_of o)) (seen_by o) es w))
occurs r (at n h) es w here made shown = record { here = here; entries = es; stand = w; made = made; seats = refl; posts = refl }
occurs r (comes from to m seen) es w here made shown = (
  record { sender = shown.0; receiver = here; apart = shown.1 },
  shown.2,
  record { here = here; entries = es; stand = w; made = made; seats = refl; posts = refl },
)
occurs r o es w here made shown = absurd made

-- ---- all of them

-- what is left of the turns, where the course stands there
record AreToCome (servers low : ℕ) (last : ℕ → Seat) (r : Course) (xs : List Turn) : Type 0 where
  midway : IsMidway r
  many : length r.seats ≡ servers
  here : AllByRecursion (λ (x : Turn). IsOneOf servers (server_of x.occurrence)) xs
  sent : AllByRecursion (λ (x : Turn). WasSentTo servers last x.occurrence) xs
  ordered : AreInOrder low xs
  runs : (n : ℕ) → IsOneOf servers n → Runs (seat_at r n) (turns_at n xs) (last n)

-- and what comes of them
record ComeTo (servers : ℕ) (last : ℕ → Seat) (r : Course) (xs : List Turn) : Type 0 where
  after : Course
  course : AreCourse r (list_map occurrence_in xs) after
  seats : (n : ℕ) → IsOneOf servers n → seat_at after n ≡ last n
  many : length after.seats ≡ servers
  posts : after.posts ≡ r.posts
  midway : IsMidway after

-- one turn, and what comes behind it
come_one : (servers low : ℕ) (last : ℕ → Seat) (r : Course) (x : Turn) (xs : List Turn) → AreToCome servers low last r (x ∷ xs) → ((now : Course) → AreToCome servers x.rank last now xs → ComeTo servers last now xs) → ComeTo servers last r (x ∷ xs)
come_one servers low last r x xs h come_rest = record {
  after = rest.after;
  course = (now, one, rest.course);
  seats = rest.seats;
  many = rest.many;
  posts = rest.posts;
  midway = rest.midway;
}
  where
    n : ℕ
    n = server_of x.occurrence

    here : IsSeat r n
    here = record { first = h.here.0.first; last = (let most : n ≤ servers = h.here.0.last in let all : length r.seats ≡ servers = h.many in omega (arith, most, all)) }

    own : Runs (seat_at r n) (x ∷ turns_at n xs) (last n)
    own = subst (λ (ys : List Turn). Runs (seat_at r n) ys (last n)) (own_first n x xs refl) (h.runs n h.here.0)

    step : Steps (seat_at r n) x own.0
    step = own.1

    now : Course
    now = with_seat r n own.0

    as_many_now : length now.seats ≡ servers
    as_many_now = as_many r now n own.0 here refl ∙ h.many

    -- the sender had sent it: none of its turns to come has a smaller rank
    shown : (o : Occurrence) → WasSentTo servers last o → seen_by o < x.rank → IsShown r o
    shown (comes from to m seen) (one, apart, sent) less =
        let there : IsSeat r from = record { first = one.first; last = (let most : from ≤ servers = one.last in let all : length r.seats ≡ servers = h.many in omega (arith, most, all)) } in
        (there, apart, sent_first (seat_at r from) (last from) (turns_at from (x ∷ xs)) to m seen x.rank (h.midway.holds.rising from one.first).many (h.runs from one) (none_below from x.rank (x ∷ xs) (omega arith, h.ordered.1)) less sent)
    shown o was less = tt

    one : Occurs r x.occurrence now
    one = subst (λ (s : Seat). Occurs r x.occurrence (with_seat r n s)) (sym step.behind)
        (occurs r x.occurrence (x.entry ∷ []) step.stand here step.made (shown x.occurrence h.sent.0 (let up : x.rank ≡ max (last_rank (seat_at r n).ranks) (seen_by x.occurrence) + 1 = step.ranked in omega (arith, up))))

    runs_on : (k : ℕ) → IsOneOf servers k → Runs (seat_at now k) (turns_at k xs) (last k)
    runs_on k s = each_seat r now n own.0 here refl (λ i t. IsOneOf servers i → Runs t (turns_at i xs) (last i)) (λ it. own.2)
        (λ i some away it. subst (λ (ys : List Turn). Runs (seat_at r i) ys (last i)) (other_first i x xs (λ same. away (sym same))) (h.runs i it)) k s.first s

    rest : ComeTo servers last now xs
    rest = come_rest now (record {
      midway = midway_on r now (x.occurrence ∷ []) h.midway (now, one, refl);
      many = as_many_now;
      here = h.here.1;
      sent = h.sent.1;
      ordered = h.ordered.1;
      runs = runs_on;
    })

come : (servers low : ℕ) (last : ℕ → Seat) (r : Course) (xs : List Turn) → AreToCome servers low last r xs → ComeTo servers last r xs
come servers low last r [] h = record { after = r; course = refl; seats = λ n s. sym (h.runs n s); many = h.many; posts = refl; midway = h.midway }
come servers low last r (x ∷ xs) h = come_one servers low last r x xs h (λ now more. come servers x.rank last now xs more)

-- The server of this number went on by these turns, from where the course has it on.
pub record GoesBy (r : Course) (last : ℕ → Seat) (n : ℕ) (xs : List Turn) : Type 0 where
  pub here : AreOf n xs
  pub runs : Runs (seat_at r n) xs (last n)
  pub sent : AllByRecursion (λ (x : Turn). WasSentTo (length r.seats) last x.occurrence) xs

-- An order of all turns: ranks do not fall in it, each server has its own turns there, and they are a course to where the servers
-- stand in the end.
pub record AreMerged (r : Course) (last : ℕ → Seat) (own : ℕ → List Turn) : Type 1 where
  pub turns : List Turn
  pub ordered : AreInOrder 0 turns
  pub owned : (n : ℕ) → IsSeat r n → turns_at n turns ≡ own n
  pub after : Course
  pub course : AreCourse r (list_map occurrence_in turns) after
  pub seats : (n : ℕ) → IsSeat r n → seat_at after n ≡ last n
  pub many : length after.seats ≡ length r.seats
  pub posts : after.posts ≡ r.posts
  pub midway : IsMidway after
  -- what holds of the turns of each server holds of all
  pub all_of : (P : Turn → Type 0) → ((n : ℕ) → IsSeat r n → AllByRecursion P (own n)) → AllByRecursion P turns

-- where each server went on by turns of its own, and each message was sent as that says
pub merge : (r : Course) (last : ℕ → Seat) (own : ℕ → List Turn) → IsMidway r → ((n : ℕ) → IsSeat r n → GoesBy r last n (own n)) → AreMerged r last own
merge r last own midway goes = record {
  turns = all;
  ordered = merged_ordered own servers;
  owned = owned;
  after = end.after;
  course = end.course;
  seats = λ n s. end.seats n (record { first = s.first; last = s.last });
  many = end.many;
  posts = end.posts;
  midway = end.midway;
  all_of = λ P each. merged_all_of P own servers (λ n some low. each n (record { first = some; last = low }));
}
  where
    servers : ℕ
    servers = length r.seats

    all : List Turn
    all = merged own servers

    by : (n : ℕ) → 1 ≤ n → n ≤ servers → GoesBy r last n (own n)
    by n some low = goes n (record { first = some; last = low })

    owned : (n : ℕ) → IsSeat r n → turns_at n all ≡ own n
    owned n s = merged_own own servers n s.first s.last (λ i some low. (by i some low).here) (λ i some low. above_from 0 (last_rank (seat_at r i).ranks) (own i) (omega arith) (runs_above (seat_at r i) (last i) (own i) (by i some low).runs))

    placed : (n : ℕ) → IsOneOf servers n → (xs : List Turn) → AreOf n xs → AllByRecursion (λ (x : Turn). IsOneOf servers (server_of x.occurrence)) xs
    placed n s [] here = tt
    placed n s (x ∷ xs) here = (subst (IsOneOf servers) (sym here.0) s, placed n s xs here.1)

    end : ComeTo servers last r all
    end = come servers 0 last r all (record {
      midway = midway;
      many = refl;
      here = merged_all_of (λ (x : Turn). IsOneOf servers (server_of x.occurrence)) own servers (λ n some low. placed n (record { first = some; last = low }) (own n) (by n some low).here);
      sent = merged_all_of (λ (x : Turn). WasSentTo servers last x.occurrence) own servers (λ n some low. (by n some low).sent);
      ordered = merged_ordered own servers;
      runs = λ n s. subst (λ (ys : List Turn). Runs (seat_at r n) ys (last n)) (sym (owned n (record { first = s.first; last = s.last }))) (goes n (record { first = s.first; last = s.last })).runs;
    })
