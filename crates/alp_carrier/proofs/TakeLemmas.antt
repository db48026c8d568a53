-- What was taken, as the sender sends more and as one more is taken.
use Rattle.std.proofs.Common.{◌≡◌, ◌≢◌, ℕ, zero, suc, ◌+◌, ◌<◌, ◌≤◌, List, [], ◌∷◌, ◌++◌, length, take, drop, Some, None, Bool, true, false, refl, sym, ap, ◌∙◌, subst, arith, eq-eqb, ne_eqb, take-append-drop}
use Rattle.std.specs.Prelude.{slice_get, ◌==◌, if◌then◌else◌}
use Rattle.std.specs.List.{AllByRecursion}
use Rattle.std.proofs.lemmas.List.{take-append-le}
use mathlib.Core.List.{IsPrefix, map-append, append-nil}
use Rattle.alp_monitor.specs.History.{entries_in, entry_of}
use Rattle.alp_monitor.specs.Passes.{front, first_base}
use Rattle.alp_monitor.specs.declared.monitor.Monitor.{Monitor}
use Rattle.alp_monitor.specs.declared.monitor.Pass.{Pass}
use Rattle.alp_journal.specs.declared.message.Envelope.{Envelope}
use Rattle.alp_journal.specs.declared.message.Message.{Message}
use Rattle.alp_carrier.specs.Sights.{Sight, IsShown}
use Rattle.alp_carrier.specs.Takes.{addressed_to, message_of, sent_before, last_before, WasSeen, AreSeen, AreTaken}
use Rattle.alp_carrier.specs.declared.route.Pair.{Pair}
use Rattle.alp_carrier.specs.declared.taken.Taken.{Taken}
use Rattle.alp_carrier.proofs.Fronts.{not_longer, same_entries, all_entries, get_within, same_some}

module _ {A : Type 0} where
  take_suc : (xs : List A) (n : ℕ) (x : A) → slice_get xs n ≡ Some x → take (suc n) xs ≡ take n xs ++ x ∷ []
  take_suc [] n x e = absurd (let f : None ≡ Some x = e in cc)
  take_suc (z ∷ xs) zero x e = ap (λ y. y ∷ []) (same_some z x e)
  take_suc (z ∷ xs) (suc n) x e = ap (λ l. z ∷ l) (take_suc xs n x e)

  take_one : (xs : List A) (n : ℕ) (x : A) → slice_get xs n ≡ Some x → take (n + 1) xs ≡ take n xs ++ x ∷ []
  take_one xs n x e = let m : n + 1 ≡ suc n = omega arith in ap (λ k. take k xs) m ∙ take_suc xs n x e

  take_length : (xs : List A) (n : ℕ) → n ≤ length xs → length (take n xs) ≡ n
  take_length xs zero low = refl
  take_length [] (suc n) low = omega (arith, low)
  take_length (x ∷ xs) (suc n) low = ap suc (take_length xs n (omega (arith, low)))

  drop_front : (xs ys : List A) (n : ℕ) → n ≤ length xs → drop n (xs ++ ys) ≡ drop n xs ++ ys
  drop_front xs ys zero low = refl
  drop_front [] ys (suc n) low = absurd (omega (arith, low))
  drop_front (x ∷ xs) ys (suc n) low = drop_front xs ys n (omega (arith, low))

  pub drop_all : (xs : List A) (n : ℕ) → drop n (take n xs) ≡ []
  drop_all xs zero = refl
  drop_all [] (suc n) = refl
  drop_all (x ∷ xs) (suc n) = drop_all xs n

  -- the next one stands after those from the first place on
  one_after : (xs : List A) (first next : ℕ) (x : A) → first ≤ next → slice_get xs next ≡ Some x → drop first (take (next + 1) xs) ≡ drop first (take next xs) ++ x ∷ []
  one_after xs first next x low e =
      let w = get_within xs next x e in
      let n : length (take next xs) ≡ next = take_length xs next (omega (arith, w)) in
      ap (drop first) (take_one xs next x e) ∙ drop_front (take next xs) (x ∷ []) first (omega (arith, n, low))

  pub all_other : (P Q : A → Type 0) (xs : List A) → ((x : A) → P x → Q x) → AllByRecursion P xs → AllByRecursion Q xs
  all_other P Q [] f all = tt
  all_other P Q (x ∷ xs) f all = (f x all.0, all_other P Q xs f all.1)

if-messages : (b : Bool) (m : Message) (xs ys : List Message) → (if b then m ∷ (xs ++ ys) else xs ++ ys) ≡ (if b then m ∷ xs else xs) ++ ys
if-messages true m xs ys = refl
if-messages false m xs ys = refl

addressed_both : (to : ℕ) (xs ys : List (ℕ × Envelope)) → addressed_to to (xs ++ ys) ≡ addressed_to to xs ++ addressed_to to ys
addressed_both to [] ys = refl
addressed_both to (x ∷ xs) ys = ap (λ (l : List Message). if x.1.to == to then x.1.message ∷ l else l) (addressed_both to xs ys) ∙ if-messages (x.1.to == to) x.1.message (addressed_to to xs) (addressed_to to ys)

to_other : (to : ℕ) (x : ℕ × Envelope) → x.1.to ≢ to → addressed_to to (x ∷ []) ≡ []
to_other to x ne = ap (λ (b : Bool). if b then x.1.message ∷ [] else []) (ne_eqb x.1.to to ne)

to_it : (to : ℕ) (x : ℕ × Envelope) → x.1.to ≡ to → addressed_to to (x ∷ []) ≡ x.1.message ∷ []
to_it to x is = ap (λ (b : Bool). if b then x.1.message ∷ [] else []) (eq-eqb x.1.to to is)

module _ {S B E : Type 0} (base_of : S → B) (sight : Sight B E) (m : Monitor S B E) where
  -- what the shorter history saw sent begins what the longer one did
  pub sent_longer : (p q : Pass S B E) → IsPrefix (front p) (front q) → IsPrefix (sent_before base_of sight m p) (sent_before base_of sight m q)
  sent_longer p q begins =
      let is : entries_in (front p) ++ entries_in begins.0 ≡ entries_in (front q) = sym (map-append entry_of (front p) begins.0) ∙ ap entries_in begins.1 in
      let s = sight.stays (first_base base_of m) (entries_in (front p)) (entries_in begins.0) in
      (s.0, s.1 ∙ ap (sight.sent (first_base base_of m)) is)

  -- so does what was sent with its first entries
  pub sent_begins : (p : Pass S B E) (k : ℕ) → IsPrefix (sight.sent (first_base base_of m) (take k (entries_in (front p)))) (sent_before base_of sight m p)
  sent_begins p k =
      let es = entries_in (front p) in
      let s = sight.stays (first_base base_of m) (take k es) (drop k es) in
      (s.0, s.1 ∙ ap (sight.sent (first_base base_of m)) (take-append-drop k es))

  abbrev seen_longer : (to : ℕ) (p q : Pass S B E) → IsPrefix (front p) (front q) → (x : Taken) → WasSeen base_of sight m to p x → WasSeen base_of sight m to q x
  seen_longer to p q begins x s =
      let same = same_entries (front p) (front q) s.after begins s.within in
      record {
        after = s.after;
        within = not_longer (front p) (front q) s.after begins s.within;
        place = s.place;
        shown = subst (λ (es : List E). IsShown sight (first_base base_of m) es s.place (record { to = to; message = x.message })) same s.shown;
        seen_is = s.seen_is ∙ ap (sight.last (first_base base_of m)) same;
      }

  are_seen_longer : (to : ℕ) (p q : Pass S B E) (next k : ℕ) → IsPrefix (front p) (front q) → (xs : List Taken) → AreSeen base_of sight m to p next k xs → AreSeen base_of sight m to q next k xs
  are_seen_longer to p q next k begins [] low = low
  are_seen_longer to p q next k begins (x ∷ xs) s = (seen_longer to p q begins x s.0, s.1, are_seen_longer to p q next (s.0.place + 1) begins xs s.2)

  -- before a later place too
  seen_before : (to : ℕ) (p : Pass S B E) (next later k : ℕ) (xs : List Taken) → next ≤ later → AreSeen base_of sight m to p next k xs → AreSeen base_of sight m to p later k xs
  seen_before to p next later k [] low s = (let l : k ≤ next = s in omega (arith, low, l))
  seen_before to p next later k (x ∷ xs) low s = (s.0, s.1, seen_before to p next later (s.0.place + 1) xs low s.2)

  -- one more, which stands after them
  seen_after : (to : ℕ) (p : Pass S B E) (next k : ℕ) (xs : List Taken) (y : Taken) (one : WasSeen base_of sight m to p y) → next ≤ one.place → AreSeen base_of sight m to p next k xs → AreSeen base_of sight m to p (one.place + 1) k (xs ++ y ∷ [])
  seen_after to p next k [] y one low s = (one, (let l : k ≤ next = s in omega (arith, low, l)), omega arith)
  seen_after to p next k (x ∷ xs) y one low s = (s.0, s.1, seen_after to p next (s.0.place + 1) xs y one low s.2)

  seen_within : (to : ℕ) (p : Pass S B E) (next k : ℕ) (xs : List Taken) → AreSeen base_of sight m to p next k xs → k ≤ next
  seen_within to p next k [] s = s
  seen_within to p next k (x ∷ xs) s = (let l : k ≤ s.0.place = s.1 in let w : s.0.place + 1 ≤ next = seen_within to p next (s.0.place + 1) xs s.2 in omega (arith, l, w))

  -- it was seen at one of these places
  abbrev pub WasSeenAmong : ℕ → ℕ → ℕ → Pass S B E → Taken → Type 0
  WasSeenAmong to first next p x = (s : WasSeen base_of sight m to p x) × (first ≤ s.place) × (s.place < next)

  pub all_among : (to first : ℕ) (p : Pass S B E) (next k : ℕ) (xs : List Taken) → first ≤ k → AreSeen base_of sight m to p next k xs → AllByRecursion (WasSeenAmong to first next p) xs
  all_among to first p next k [] low s = tt
  all_among to first p next k (x ∷ xs) low s =
      let l : k ≤ s.0.place = s.1 in
      let w : s.0.place + 1 ≤ next = seen_within to p next (s.0.place + 1) xs s.2 in
      ((s.0, omega (arith, low, l), omega (arith, w)), all_among to first p next (s.0.place + 1) xs (omega (arith, low, l)) s.2)

module _ {S B E : Type 0} (base_of : S → B) (sight : Sight B E) (m : Monitor S B E) (pair : Pair) where
  pub taken_longer : (p q : Pass S B E) (next : ℕ) (xs : List Taken) → IsPrefix (front p) (front q) → AreTaken base_of sight m pair next p xs → AreTaken base_of sight m pair next q xs
  taken_longer p q next xs begins t =
      let more = sent_longer base_of sight m p q begins in
      let same : take next (sent_before base_of sight m q) ≡ take next (sent_before base_of sight m p) = ap (take next) (sym more.1) ∙ take-append-le next (sent_before base_of sight m p) more.0 t.within in
      record {
        from_first = t.from_first;
        within = not_longer (sent_before base_of sight m p) (sent_before base_of sight m q) next more t.within;
        are = t.are ∙ ap (λ l. addressed_to pair.to (drop pair.first l)) (sym same);
        seen = are_seen_longer base_of sight m pair.to p q next pair.first begins xs t.seen;
      }

  -- a message to another server stands at the next place
  pub taken_other : (p : Pass S B E) (next : ℕ) (xs : List Taken) (e : Envelope) → e.to ≢ pair.to → IsShown sight (first_base base_of m) (entries_in (front p)) next e → AreTaken base_of sight m pair next p xs → AreTaken base_of sight m pair (next + 1) p xs
  taken_other p next xs e other shown t =
      let all = sent_before base_of sight m p in
      let x : ℕ × Envelope = (shown.rank, e) in
      let one = one_after all pair.first next x t.from_first shown.sent_is in
      let before = addressed_to pair.to (drop pair.first (take next all)) in
      record {
        from_first = (let l = t.from_first in omega (arith, l));
        within = (let w = get_within all next x shown.sent_is in omega (arith, w));
        are = t.are ∙ sym (ap (addressed_to pair.to) one ∙ (addressed_both pair.to (drop pair.first (take next all)) (x ∷ []) ∙ (ap (λ l. before ++ l) (to_other pair.to x other) ∙ append-nil before)));
        seen = seen_before base_of sight m pair.to p next (next + 1) pair.first xs (omega arith) t.seen;
      }

  -- a message to the pair's receiver does
  pub taken_one : (p : Pass S B E) (next seen : ℕ) (xs : List Taken) (e : Envelope) → e.to ≡ pair.to → seen ≡ last_before base_of sight m p → IsShown sight (first_base base_of m) (entries_in (front p)) next e → AreTaken base_of sight m pair next p xs
      → AreTaken base_of sight m pair (next + 1) p (xs ++ (record { message = e.message; seen = seen }) ∷ [])
  taken_one p next seen xs e is seen_is shown t =
      let all = sent_before base_of sight m p in
      let x : ℕ × Envelope = (shown.rank, e) in
      let y : Taken = record { message = e.message; seen = seen } in
      let one = one_after all pair.first next x t.from_first shown.sent_is in
      let before = addressed_to pair.to (drop pair.first (take next all)) in
      let whole = all_entries (front p) in
      record {
        from_first = (let l = t.from_first in omega (arith, l));
        within = (let w = get_within all next x shown.sent_is in omega (arith, w));
        are = map-append message_of xs (y ∷ []) ∙ (ap (λ l. l ++ e.message ∷ []) t.are ∙ sym (ap (addressed_to pair.to) one ∙ (addressed_both pair.to (drop pair.first (take next all)) (x ∷ []) ∙ ap (λ l. before ++ l) (to_it pair.to x is))));
        seen = seen_after base_of sight m pair.to p next pair.first xs y (record {
          after = length (front p);
          within = omega arith;
          place = next;
          shown = subst (λ (es : List E). IsShown sight (first_base base_of m) es next (record { to = pair.to; message = e.message })) (sym whole)
              (subst (λ (n : ℕ). IsShown sight (first_base base_of m) (entries_in (front p)) next (record { to = n; message = e.message })) is shown);
          seen_is = seen_is ∙ ap (sight.last (first_base base_of m)) (sym whole);
        }) (omega arith) t.seen;
      }
