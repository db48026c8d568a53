-- A server whose passes made its entries goes on by turns.
use Rattle.std.specs.Prelude.{◌==◌, max, take, filter, map as list_map, slice_get, Some, if◌then◌else◌}
use Rattle.std.specs.List.{AllByRecursion}
use Rattle.std.proofs.Common.{◌≡◌, ◌≢◌, ◌⊎◌, ℕ, suc, ◌+◌, ◌<◌, ◌≤◌, Bool, true, false, List, [], ◌∷◌, ◌++◌, length, inl, inr, refl, sym, ◌∙◌, ap, subst, arith, eq-eqb, ne_eqb}
use Rattle.std.proofs.lemmas.Bool.{cases_eq}
use Rattle.std.proofs.lemmas.List.{append-nil, append_assoc, length-append, map-append}
use Rattle.alp_journal.specs.Answered.{entries_limit}
use Rattle.alp_journal.specs.Moves.{stops}
use Rattle.alp_journal.specs.declared.entry.Entry.{Entry}
use Rattle.alp_journal.specs.declared.event.Event.{Event}
use Rattle.alp_journal.specs.declared.event.Event.TheVariants as event
use Rattle.alp_journal.specs.declared.log.Item.{Item}
use Rattle.alp_journal.specs.declared.log.Sent.{Sent}
use Rattle.alp_history.specs.Log.{IsIn}
use Rattle.alp_monitor.specs.History.{entries_in, turns_from}
use Rattle.alp_session.specs.Frames.{told_by}
use Rattle.alp_course.specs.Courses.{Seat, seat_after, last_rank, Occurrence, at, comes}
use Rattle.alp_course.specs.Happens.{sent_it, timed_out, ticked, handed_for, Stand, stand_after, IsEntryOf, ComesTo, IsTaken, Takes}
use Rattle.alp_merge.specs.Served.{Ranked, ranks_of, rank_of, IsCallOf, IsOf, IsTurnOf, AreTurnsOf, IsServed, done_by, ranked_in}
use Rattle.alp_merge.specs.Turns.{Who, Turn, server_of, seen_by}
use Rattle.alp_merge.proofs.RunLemmas.{Makes, Steps, Runs}

-- ---- one entry

both_ways : (b : Bool) → b ≡ false → b ≡ true → ⊥
both_ways b no_stop stopped = (let wrong : true ≡ false = sym stopped ∙ no_stop in cc)

-- an entry that stops nothing, where a server is up and has room
abbrev made_by : (w : Stand) (e : Entry) (x : Event) → e.event ≡ x → w.place < entries_limit → stops e ≡ false → IsEntryOf w x (e ∷ []) (stand_after w e)
made_by w e x its room calm = record { entry = e; one = refl; event = its; room = room; halts = λ stopped. absurd (both_ways (stops e) calm stopped); behind = refl }

comes_by : (w : Stand) (e : Entry) (x : Event) → w.is_down ≡ false → e.event ≡ x → w.place < entries_limit → stops e ≡ false → ComesTo w w.is_down x (e ∷ []) (stand_after w e)
comes_by w e x up its room calm = subst (λ (b : Bool). ComesTo w b x (e ∷ []) (stand_after w e)) (sym up) (made_by w e x its room calm)

-- how the server stands behind so many entries
record IsBehind (s0 : Seat) (front : List Ranked) (s : Seat) : Type 0 where
  up : s.stand.is_down ≡ false
  place : s.stand.place ≡ s0.stand.place + length front
  ranks : s.ranks ≡ s0.ranks ++ ranks_of front
  opening : s.opening ≡ s0.opening
  telling : s.tells ≡ s0.tells
  server : s.stand.server ≡ s0.stand.server
  epoch : s.stand.epoch ≡ s0.stand.epoch
  fused : s.stand.is_fused ≡ s0.stand.is_fused

takes_by : (s0 s : Seat) (front : List Ranked) (k : ℕ) (x : Item) (e : Entry) → IsBehind s0 front s → s.stand.place < entries_limit → stops e ≡ false → IsCallOf s0 (length front) x e
    → (x.server ≡ s.stand.server) × Takes s.stand k x s.stand.is_down x.sent (e ∷ []) (stand_after s.stand e)
takes_by s0 s front k x e h room calm c =
    let taken : IsTaken s.stand x c.client c.epoch c.number c.call (e ∷ []) (stand_after s.stand e) = record {
      made = made_by s.stand e (event.Call c.client c.epoch c.number c.call) c.made room calm;
      place = c.placed ∙ ap (λ (n : ℕ). Some n) (sym h.place);
      reply = c.reply;
      told = ap (λ (n : ℕ). told_by (handed_for n c.client c.number e.reply)) h.epoch ∙ c.told;
    } in
    let by_up : Takes s.stand k x false x.sent (e ∷ []) (stand_after s.stand e) = subst (λ (y : Sent). Takes s.stand k x false y (e ∷ []) (stand_after s.stand e)) (sym c.sent) taken in
    (c.server ∙ sym h.server, subst (λ (b : Bool). Takes s.stand k x b x.sent (e ∷ []) (stand_after s.stand e)) (sym h.up) by_up)

makes_by : (s0 s : Seat) (front : List Ranked) (o : Occurrence) (e : Entry) → IsBehind s0 front s → s.stand.place < entries_limit → stops e ≡ false → IsOf s0 (length front) o e → Makes o s (e ∷ []) (stand_after s.stand e)
makes_by s0 s front (at n (sent_it k x)) e h room calm its = takes_by s0 s front k x e h room calm its
makes_by s0 s front (at n (timed_out t)) e h room calm its = comes_by s.stand e (event.Timeout t) h.up its room calm
makes_by s0 s front (at n ticked) e h room calm its = comes_by s.stand e event.Tick h.up its room calm
makes_by s0 s front (comes from to m seen) e h room calm its = comes_by s.stand e (event.Arrive from m) h.up its room calm
makes_by s0 s front o e h room calm its = absurd its

module _ (s0 : Seat) (n : ℕ) (who : ℕ → Who) (all : List Ranked) where
  abbrev turn_by : ℕ → Occurrence → Ranked → Turn
  turn_by j o x = record { who = who j; occurrence = o; entry = x.entry; rank = x.rank }

  abbrev seat_by : Seat → Occurrence → Ranked → Seat
  seat_by s o x = seat_after s (seen_by o) (x.entry ∷ []) (stand_after s.stand x.entry)

  module _ (s : Seat) (front : List Ranked) (o : Occurrence) (x : Ranked) (h : IsBehind s0 front s) (before : take (length front) all ≡ front) (calm : stops x.entry ≡ false) (t : IsTurnOf s0 n all o (length front, x)) where
    rank_is : x.rank ≡ max (last_rank s.ranks) (seen_by o) + 1
    rank_is = t.ranked ∙ ap (λ (rs : List ℕ). max (last_rank rs) (seen_by o) + 1) (ap (λ (ys : List Ranked). s0.ranks ++ ranks_of ys) before ∙ sym h.ranks)

    steps_by : (j : ℕ) → s.stand.place < entries_limit → Steps s (turn_by j o x) (seat_by s o x)
    steps_by j room = record { stand = stand_after s.stand x.entry; made = makes_by s0 s front o x.entry h room calm t.its; ranked = rank_is; behind = refl }

    behind_by : IsBehind s0 (front ++ x ∷ []) (seat_by s o x)
    behind_by = record {
      up = calm;
      place = (let was : s.stand.place ≡ s0.stand.place + length front = h.place in let long : length (front ++ x ∷ []) ≡ length front + 1 = length-append front (x ∷ []) in omega (arith, was, long));
      ranks = ap (λ (r : ℕ). s.ranks ++ r ∷ []) (sym rank_is) ∙ (ap (λ (rs : List ℕ). rs ++ x.rank ∷ []) h.ranks ∙ (append_assoc s0.ranks (ranks_of front) (x.rank ∷ []) ∙ ap (λ (rs : List ℕ). s0.ranks ++ rs) (sym (map-append rank_of front (x ∷ [])))));
      opening = h.opening;
      telling = h.telling;
      server = h.server;
      epoch = h.epoch;
      fused = h.fused;
    }

-- ---- all of them

-- what did the first of these turns, and what is left
first_of : (s0 : Seat) (n : ℕ) (all : List Ranked) (os : List Occurrence) (t : ℕ × Ranked) (ts : List (ℕ × Ranked)) → AreTurnsOf s0 n all os (t ∷ ts) → (o : Occurrence) × (rest : List Occurrence) × (os ≡ o ∷ rest) × IsTurnOf s0 n all o t × AreTurnsOf s0 n all rest ts
first_of s0 n all [] t ts h = absurd h
first_of s0 n all (o ∷ os) t ts h = (o, os, refl, h.0, h.1)

turns_own : (k j : ℕ) (x : Ranked) (rest : List (ℕ × Ranked)) → turns_from k j ((j, x) ∷ rest) ≡ (k, x) ∷ turns_from (suc k) j rest
turns_own k j x rest = ap (λ (b : Bool). if b then (k, x) ∷ turns_from (suc k) j rest else turns_from (suc k) j rest) (eq-eqb j j refl)

turns_other : (k i j : ℕ) (x : Ranked) (rest : List (ℕ × Ranked)) → j ≢ i → turns_from k i ((j, x) ∷ rest) ≡ turns_from (suc k) i rest
turns_other k i j x rest away = ap (λ (b : Bool). if b then (k, x) ∷ turns_from (suc k) i rest else turns_from (suc k) i rest) (ne_eqb j i away)

-- a turn is of one of the passes
pub record IsOne (passes : ℕ) (who : ℕ → Who) (done : ℕ → List Occurrence) (x : Turn) : Type 0 where
  pub pass : ℕ
  pub within : pass < passes
  pub who_is : x.who ≡ who pass
  pub among : IsIn x.occurrence (done pass)

module _ (s0 : Seat) (n passes : ℕ) (who : ℕ → Who) (all : List Ranked) where
  -- what each pass has left to do, where the server stands behind so many
  record AreLeft (s : Seat) (front : List Ranked) (rest : List (ℕ × Ranked)) (left : ℕ → List Occurrence) : Type 0 where
    stands : IsBehind s0 front s
    are : all ≡ front ++ entries_in rest
    room : s0.stand.place + length front + length rest ≤ entries_limit
    calm : AllByRecursion (λ (x : Ranked). stops x.entry ≡ false) (entries_in rest)
    few : (k : ℕ) (x : ℕ × Ranked) → slice_get rest k ≡ Some x → x.0 < passes
    each : (j : ℕ) → j < passes → AreTurnsOf s0 n all (left j) (turns_from (length front) j rest)

  -- the turns that it goes on by
  record AreTold (s : Seat) (rest : List (ℕ × Ranked)) (left : ℕ → List Occurrence) : Type 0 where
    turns : List Turn
    last : Seat
    front : List Ranked
    stands : IsBehind s0 front last
    here : AllByRecursion (λ (x : Turn). server_of x.occurrence ≡ n) turns
    runs : Runs s turns last
    are : list_map ranked_in turns ≡ entries_in rest
    each_one : AllByRecursion (λ (x : Turn). IsOne passes who left x) turns
    all_calm : AllByRecursion (λ (x : Turn). stops x.entry ≡ false) turns
    own : (is : Who → Bool) (j : ℕ) → j < passes → ((i : ℕ) → is (who i) ≡ (i == j)) → done_by is turns ≡ left j

  none_left : (os : List Occurrence) → AreTurnsOf s0 n all os [] → [] ≡ os
  none_left [] h = refl
  none_left (o ∷ os) h = absurd h

  -- one turn, and what comes behind it
  tell_one : (j : ℕ) (x : Ranked) (rest : List (ℕ × Ranked)) (s : Seat) (front : List Ranked) (left : ℕ → List Occurrence) → AreLeft s front ((j, x) ∷ rest) left → ((t : Seat) (ys : List Ranked) (now_left : ℕ → List Occurrence) → AreLeft t ys rest now_left → AreTold t rest now_left)
      → j < passes → (o : Occurrence) (os : List Occurrence) → left j ≡ o ∷ os → IsTurnOf s0 n all o (length front, x) → AreTurnsOf s0 n all os (turns_from (suc (length front)) j rest) → AreTold s ((j, x) ∷ rest) left
  tell_one j x rest s front left h tell_rest less o os are own others = record {
    turns = turn_by s0 n who all j o x ∷ on.turns;
    last = on.last;
    front = on.front;
    stands = on.stands;
    here = (own.here, on.here);
    runs = (seat_by s0 n who all s o x, steps_by s0 n who all s front o x h.stands before h.calm.0 own j room, on.runs);
    are = ap (λ (ys : List Ranked). x ∷ ys) on.are;
    each_one = (record { pass = j; within = less; who_is = refl; among = subst (IsIn o) (sym are) (inl refl) }, others_one on.turns on.each_one);
    all_calm = (h.calm.0, on.all_calm);
    own = its_own;
  }
    where
      before : take (length front) all ≡ front
      before = ap (take (length front)) h.are ∙ take_front front (entries_in ((j, x) ∷ rest))
        where
          take_front : (xs ys : List Ranked) → take (length xs) (xs ++ ys) ≡ xs
          take_front [] ys = refl
          take_front (y ∷ xs) ys = ap (λ (zs : List Ranked). y ∷ zs) (take_front xs ys)

      room : s.stand.place < entries_limit
      room = (let was : s.stand.place ≡ s0.stand.place + length front = h.stands.place in let all_room : s0.stand.place + length front + suc (length rest) ≤ entries_limit = h.room in omega (arith, was, all_room))

      now : Seat
      now = seat_by s0 n who all s o x

      left_now : ℕ → List Occurrence
      left_now i = if i == j then os else left i

      long : length (front ++ x ∷ []) ≡ suc (length front)
      long = (let one : length (front ++ x ∷ []) ≡ length front + 1 = length-append front (x ∷ []) in omega (arith, one))

      mine : (i : ℕ) → i ≡ j → left_now i ≡ os
      mine i same = ap (λ (b : Bool). if b then os else left i) (eq-eqb i j same)

      theirs : (i : ℕ) → i ≢ j → left_now i ≡ left i
      theirs i away = ap (λ (b : Bool). if b then os else left i) (ne_eqb i j away)

      each_now : (i : ℕ) → i < passes → AreTurnsOf s0 n all (left_now i) (turns_from (length (front ++ x ∷ [])) i rest)
      each_now i low = subst (λ (k : ℕ). AreTurnsOf s0 n all (left_now i) (turns_from k i rest)) (sym long) (elim (cases_eq i j) [
        | inl same ↦ subst (λ (ys : List Occurrence). AreTurnsOf s0 n all ys (turns_from (suc (length front)) i rest)) (sym (mine i same)) (subst (λ (k : ℕ). AreTurnsOf s0 n all os (turns_from (suc (length front)) k rest)) (sym same) others)
        | inr away ↦ subst (λ (ys : List Occurrence). AreTurnsOf s0 n all ys (turns_from (suc (length front)) i rest)) (sym (theirs i away))
            (subst (AreTurnsOf s0 n all (left i)) (turns_other (length front) i j x rest (λ same. away (sym same))) (h.each i low))
      ])

      on : AreTold now rest left_now
      on = tell_rest now (front ++ x ∷ []) left_now (record {
        stands = behind_by s0 n who all s front o x h.stands before h.calm.0 own;
        are = h.are ∙ sym (append_assoc front (x ∷ []) (entries_in rest));
        room = (let all_room : s0.stand.place + length front + suc (length rest) ≤ entries_limit = h.room in let is : length (front ++ x ∷ []) ≡ suc (length front) = long in omega (arith, all_room, is));
        calm = h.calm.1;
        few = λ k y there. h.few (suc k) y there;
        each = each_now;
      })

      -- what is left then was left before
      was_left : (y : Turn) → IsOne passes who left_now y → IsOne passes who left y
      was_left y one = record {
        pass = one.pass;
        within = one.within;
        who_is = one.who_is;
        among = elim (cases_eq one.pass j) [
          | inl same ↦ subst (λ (i : ℕ). IsIn y.occurrence (left i)) (sym same) (subst (IsIn y.occurrence) (sym are) (inr (subst (IsIn y.occurrence) (mine one.pass same) one.among)))
          | inr away ↦ subst (IsIn y.occurrence) (theirs one.pass away) one.among
        ];
      }

      others_one : (ys : List Turn) → AllByRecursion (λ (y : Turn). IsOne passes who left_now y) ys → AllByRecursion (λ (y : Turn). IsOne passes who left y) ys
      others_one [] ones = tt
      others_one (y ∷ ys) ones = (was_left y ones.0, others_one ys ones.1)

      its_own : (is : Who → Bool) (i : ℕ) → i < passes → ((k : ℕ) → is (who k) ≡ (k == i)) → done_by is (turn_by s0 n who all j o x ∷ on.turns) ≡ left i
      its_own is i low same = ap (λ (b : Bool). list_map (λ (y : Turn). y.occurrence) (if b then turn_by s0 n who all j o x ∷ filter (λ (y : Turn). is y.who) on.turns else filter (λ (y : Turn). is y.who) on.turns)) (same j) ∙ go (cases_eq j i)
        where
          go : (j ≡ i) ⊎ (j ≡ i → ⊥) → list_map (λ (y : Turn). y.occurrence) (if j == i then turn_by s0 n who all j o x ∷ filter (λ (y : Turn). is y.who) on.turns else filter (λ (y : Turn). is y.who) on.turns) ≡ left i
          go (inl e) =
              ap (λ (b : Bool). list_map (λ (y : Turn). y.occurrence) (if b then turn_by s0 n who all j o x ∷ filter (λ (y : Turn). is y.who) on.turns else filter (λ (y : Turn). is y.who) on.turns)) (eq-eqb j i e)
              ∙ (ap (λ (ys : List Occurrence). o ∷ ys) (on.own is i low same ∙ mine i (sym e)) ∙ (sym are ∙ ap left e))
          go (inr away) =
              ap (λ (b : Bool). list_map (λ (y : Turn). y.occurrence) (if b then turn_by s0 n who all j o x ∷ filter (λ (y : Turn). is y.who) on.turns else filter (λ (y : Turn). is y.who) on.turns)) (ne_eqb j i away)
              ∙ (on.own is i low same ∙ theirs i (λ e. away (sym e)))

  tell : (rest : List (ℕ × Ranked)) (s : Seat) (front : List Ranked) (left : ℕ → List Occurrence) → AreLeft s front rest left → AreTold s rest left
  tell [] s front left h = record { turns = []; last = s; front = front; stands = h.stands; here = tt; runs = refl; are = refl; each_one = tt; all_calm = tt; own = λ is j less same. none_left (left j) (h.each j less) }
  tell ((j, x) ∷ rest) s front left h =
      let less : j < passes = h.few 0 (j, x) refl in
      let (o, os, are, own, others) = first_of s0 n all (left j) (length front, x) (turns_from (suc (length front)) j rest) (subst (AreTurnsOf s0 n all (left j)) (turns_own (length front) j x rest) (h.each j less)) in
      tell_one j x rest s front left h (λ t ys now_left more. tell rest t ys now_left more) less o os are own others

-- The server goes on by turns, one for each entry. A thread that took one of the passes has just its own among them.
pub record IsTold (s : Seat) (n passes : ℕ) (who : ℕ → Who) (history : List (ℕ × Ranked)) (done : ℕ → List Occurrence) : Type 0 where
  pub turns : List Turn
  pub last : Seat
  pub here : AllByRecursion (λ (x : Turn). server_of x.occurrence ≡ n) turns
  pub runs : Runs s turns last
  pub are : list_map ranked_in turns ≡ entries_in history
  -- each is one of what its pass did
  pub all : AllByRecursion (λ (x : Turn). IsOne passes who done x) turns
  pub own : (is : Who → Bool) (j : ℕ) → j < passes → ((i : ℕ) → is (who i) ≡ (i == j)) → done_by is turns ≡ done j
  pub calm : AllByRecursion (λ (x : Turn). stops x.entry ≡ false) turns
  pub up : last.stand.is_down ≡ false
  pub opening : last.opening ≡ s.opening
  pub telling : last.tells ≡ s.tells
  pub server : last.stand.server ≡ s.stand.server
  pub epoch : last.stand.epoch ≡ s.stand.epoch
  pub fused : last.stand.is_fused ≡ s.stand.is_fused

pub served : (s : Seat) (n passes : ℕ) (who : ℕ → Who) (history : List (ℕ × Ranked)) (done : ℕ → List Occurrence) → IsServed s n passes history done → IsTold s n passes who history done
served s n passes who history done h = record {
  turns = told.turns;
  last = told.last;
  here = told.here;
  runs = told.runs;
  are = told.are;
  all = told.each_one;
  calm = told.all_calm;
  own = told.own;
  up = told.stands.up;
  opening = told.stands.opening;
  telling = told.stands.telling;
  server = told.stands.server;
  epoch = told.stands.epoch;
  fused = told.stands.fused;
}
  where
    told : AreTold s n passes who (entries_in history) s history done
    told = tell s n passes who (entries_in history) history s [] done (record {
      stands = record { up = h.up; place = omega arith; ranks = sym (append-nil s.ranks); opening = refl; telling = refl; server = refl; epoch = refl; fused = refl };
      are = refl;
      room = (let all : s.stand.place + length history ≤ entries_limit = h.room in omega (arith, all));
      calm = h.calm;
      few = h.few;
      each = h.each;
    })
