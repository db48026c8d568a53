-- A run that goes on by one line, and what it is in the end.
use Rattle.std.specs.Prelude.{map as list_map, None, IfSome, Vec, replicate}
use Rattle.std.specs.Global.{Global}
use Rattle.std.specs.List.{AllByRecursion}
use Rattle.std.specs.FinMap.{get-empty}
use Rattle.std.specs.Ordering.{nat_cmp}
use Rattle.std.specs.Option.{option_map}
use Rattle.std.proofs.Common.{inl, inr, ◌≡◌, ℕ, zero, suc, ◌+◌, ◌*◌, ◌<◌, ◌≤◌, ◌^◌, List, [], ◌∷◌, ◌++◌, length, take, get_or, refl, sym, ◌∙◌, ap, subst, arith, append_assoc, append-nil, length-append}
use Rattle.std.proofs.lemmas.List.{take_more, map-append, length-map}
use Rattle.std.proofs.lemmas.Grind.{flat_map-append}
use Rattle.alp_journal.specs.declared.log.Item.{Item}
use Rattle.alp_report.specs.Reports.{line_text}
use Rattle.alp_history.specs.RunLogs.{item_of}
use Rattle.alp_script.specs.declared.numbered.NumberedLine.{NumberedLine}
use Rattle.alp_session.specs.Clients.{new_client, no_frames}
use Rattle.alp_session.specs.Crowd.{Crowd}
use Rattle.alp_session.specs.Crowds.{new_crowd, client_at}
use Rattle.alp_session.specs.declared.client.Client.{Client}
use Rattle.alp_session.specs.declared.frames.Addressed.{Addressed}
use Rattle.alp_session.specs.declared.frames.Frames.{Frames}
use Rattle.alp_vault.specs.declared.vault.Vault.{Ghosts}
use Rattle.alp_course.specs.Courses.{Occurrence, AreCourse}
use Rattle.alp_course.specs.Settles.{IsSettling, AreUp, AreTaken}
use Rattle.alp_course.specs.Turns.{Turn, lists_in, own_in, sent_in, turns_text}
use Rattle.alp_course.proofs.LanguageLemmas.{course_append}
use Rattle.alp_course.proofs.MidwayLemmas.{first_midway, midway_on}
use Rattle.alp_course.proofs.PlayLemmas.{Plays-push, sent_append, sent_in-append, plays_sent, begins_sent, settling_cut_sent, own_append}
use Rattle.alp_course.proofs.TakenLemmas.{taken_all}
use Rattle.alp_course.proofs.UpLemmas.{lifting_up, many_on}
use Rattle.alp_cluster.specs.Clients.{States, come_in, session_of, HasSaid}
use Rattle.alp_cluster.specs.Runs.{Ran, AreRested, HasPlayed, HasPlayedOut, HasEndedEarly, HasEndedSo, IsSettledDown}
use Rattle.alp_cluster.specs.Station.{seat_of}
use Rattle.alp_cluster.specs.Stations.{Go, Did, DidSome, course_of, state_at}
use Rattle.alp_cluster.specs.Steps.{Adds, AddsSome}
use Rattle.alp_cluster.specs.declared.fault.RunFault.{RunFault}
use Rattle.alp_cluster.specs.declared.stations.Stations.{Stations}
use Rattle.alp_cluster.proofs.DidLemmas.{passes_course}
use Rattle.alp_cluster.proofs.LineLemmas.{said_goes}
use Rattle.alp_cluster.proofs.RestAllLemmas.{rested_all}
use Rattle.alp_cluster.proofs.RestLemmas.{rested_alone}

-- ---- one line more

-- what a client sent and was handed, before and behind the line
said_more : {V : Type 0} (s : States V) (k : ℕ) (c : Client) (turns own : List Turn) → HasSaid s k c (list_map item_of (own_in k turns) ++ list_map item_of (own_in k own)) → HasSaid s k c (list_map item_of (own_in k (turns ++ own)))
said_more s k c turns own said = subst (HasSaid s k c) (sym (map-append item_of (own_in k turns) (own_in k own)) ∙ ap (list_map item_of) (sym (own_append k turns own))) said

-- its list is short, since the script is
short_front : (n : ℕ) (xs : List Item) → n < 2 ^ 29 → length xs ≤ 5 * n → length (list_map item_of xs) + 10 < 2 ^ 32
short_front n xs few many = (let same : length (list_map item_of xs) ≡ length xs = length-map xs item_of in omega (arith, few, many, same))

module _ {V : Type 0} (G : Ghosts V) (servers : ℕ) (ls : List NumberedLine) (c : Crowd) (s t : Stations V) (lists : List (Vec Item Global)) (text : List ℕ) (h : HasPlayed G servers ls c s lists text) where
  -- where it ran, it runs on
  ran_more : (y : Stations V) (mine : List Occurrence) → Go G mine s y → Ran G (h.happened ++ mine) y
  ran_more y mine goes = record { first = h.ran.first; is_first = h.ran.is_first; course = course_append h.ran.first (course_of G s) (course_of G y) h.happened mine h.ran.course (passes_course G mine s y goes.passes) }

  -- and has as many servers
  count_more : (y : Stations V) (mine : List Occurrence) → Go G mine s y → length y.all.items ≡ servers
  count_more y mine goes =
      let many : length (list_map (seat_of G) y.all.items) ≡ length (list_map (seat_of G) s.all.items) = many_on (course_of G s) (course_of G y) mine (passes_course G mine s y goes.passes) in
      sym (length-map y.all.items (seat_of G)) ∙ many ∙ length-map s.all.items (seat_of G) ∙ h.count

  said_front : (k : ℕ) → length ls < 2 ^ 29 → length (list_map item_of (own_in k h.turns)) + 10 < 2 ^ 32
  said_front k low = short_front (length ls) (own_in k h.turns) low (h.few k)

  pub played_more : (l : NumberedLine) (d : Crowd) (now : List (Vec Item Global)) (told : List ℕ) → Adds G servers c d s t l lists now text told → HasPlayed G servers (ls ++ l ∷ []) d t now told
  played_more l d now told a = record {
    step = a.step;
    count = count_more t a.hs a.goes;
    turns = h.turns ++ a.turns;
    happened = h.happened ++ a.hs;
    plays = Plays-push servers new_crowd c d ls l h.turns a.turns h.happened a.hs h.plays a.plays;
    places = a.places ∙ h.places;
    lists = λ k. a.lists k ∙ ap (λ (xs : List Item). xs ++ own_in k a.turns) (h.lists k) ∙ sym (own_append k h.turns a.turns);
    few = λ k. (
        let both : length (own_in k (h.turns ++ a.turns)) ≡ length (own_in k h.turns) + length (own_in k a.turns) = ap (λ (xs : List Item). length xs) (own_append k h.turns a.turns) ∙ length-append (own_in k h.turns) (own_in k a.turns) in
        let one : length (ls ++ l ∷ []) ≡ length ls + 1 = length-append ls (l ∷ []) in
        let before : length (own_in k h.turns) ≤ 5 * length ls = h.few k in
        let mine : length (own_in k a.turns) ≤ 5 = a.few k in
        omega (arith, both, one, before, mine)
        );
    said = λ low k. (
        let one : length (ls ++ l ∷ []) ≡ length ls + 1 = length-append ls (l ∷ []) in
        let less : length ls < 2 ^ 29 = omega (arith, low, one) in
        said_more (state_at t) k (client_at d k) h.turns a.turns (a.said k (list_map item_of (own_in k h.turns)) (said_front k less) (h.said less k))
        );
    text = a.text ∙ ap (λ (xs : List ℕ). xs ++ turns_text a.turns) h.text ∙ sym (flat_map-append (λ (u : Turn). line_text u.line u.items) h.turns a.turns);
    ran = ran_more t a.hs a.goes;
  }

  -- ---- a run that ends before its script does

  -- in a line
  pub line_ended : (lines : List NumberedLine) (l : NumberedLine) (later : List NumberedLine) (known : Crowd) (f : RunFault) (now : List (Vec Item Global)) (told : List ℕ) → lines ≡ ls ++ l ∷ later → length ls < 2 ^ 29 → AddsSome G f servers c known s t l lists now text told → HasEndedEarly G servers lines f t now
  line_ended lines l later known f now told are low e = record {
    last = e.at_end;
    on = e.goes.later.on;
    count = count_more e.at_end e.hs e.goes;
    clients = known;
    turns = h.turns ++ e.turns;
    said = λ k. said_more (state_at e.at_end) k (client_at known k) h.turns e.turns (e.said k (list_map item_of (own_in k h.turns)) (said_front k low) (h.said low k));
    hs = h.happened ++ e.hs;
    due = e.due;
    sent =
        sent_append h.happened e.hs ∙ (λ i. plays_sent servers new_crowd c ls h.turns h.happened h.plays i ++ begins_sent servers c known l e.turns e.hs e.due e.begins i)
        ∙ sym (sent_in-append h.turns e.turns);
    ran = ran_more e.at_end e.hs e.goes;
    next_was = inl (record {
      before = ls;
      line = l;
      later = later;
      are = are;
      whole = h.turns;
      happened_before = h.happened;
      own = e.turns;
      happened_now = e.hs;
      clients = c;
      known = known;
      turns_are = refl;
      happened_are = refl;
      plays = h.plays;
      begins = e.begins;
    });
    ends = e.ends;
    ended = e.left;
    places = e.places ∙ h.places;
    lists = λ k. e.lists k ∙ ap (λ (xs : List Item). xs ++ own_in k e.turns) (h.lists k) ∙ sym (own_append k h.turns e.turns);
  }

  pub line_ended_so : (lines : List NumberedLine) (l : NumberedLine) (later : List NumberedLine) (known : Crowd) (f : RunFault) (now : List (Vec Item Global)) (told : List ℕ) → lines ≡ ls ++ l ∷ later → length ls < 2 ^ 29 → AddsSome G f servers c known s t l lists now text told
      → HasEndedSo G servers lines f t now told
  unfolding line_ended
  line_ended_so lines l later known f now told are low e = record {
    early = line_ended lines l later known f now told are low e;
    text = record {
      told = h.turns ++ e.text.told;
      untold = e.text.untold;
      are = ap (λ (us : List Turn). h.turns ++ us) e.text.are ∙ sym (append_assoc h.turns e.text.told e.text.untold);
      few = e.text.few;
      text = e.text.text ∙ ap (λ (xs : List ℕ). xs ++ turns_text e.text.told) h.text ∙ sym (flat_map-append (λ (u : Turn). line_text u.line u.items) h.turns e.text.told);
    };
  }

  -- or behind all lines
  pub end_ended : (f : RunFault) → length ls < 2 ^ 29 → DidSome G (IsSettling servers) f s t → HasEndedEarly G servers ls f t lists
  end_ended f low e = record {
    last = e.at_end;
    on = e.goes.later.on;
    count = count_more e.at_end e.hs e.goes;
    clients = c;
    turns = h.turns;
    said = λ k. said_goes G s e.at_end c e.goes.later k (list_map item_of (own_in k h.turns)) (h.said low k);
    hs = h.happened ++ e.hs;
    due = e.due;
    sent = sent_append h.happened e.hs ∙ (λ i. plays_sent servers new_crowd c ls h.turns h.happened h.plays i ++ settling_cut_sent servers e.hs e.due e.cut i) ∙ append-nil (sent_in h.turns);
    ran = ran_more e.at_end e.hs e.goes;
    next_was = inr (record { clients = c; happened_before = h.happened; happened_now = e.hs; happened_are = refl; plays = h.plays; settles = e.cut });
    ends = e.ends;
    ended = e.left;
    places = h.places;
    lists = h.lists;
  }

  pub end_ended_so : (f : RunFault) → length ls < 2 ^ 29 → DidSome G (IsSettling servers) f s t → HasEndedSo G servers ls f t lists text
  unfolding end_ended
  end_ended_so f low e = record { early = end_ended f low e; text = record { told = h.turns; untold = []; are = sym (append-nil h.turns); few = omega arith; text = h.text } }

  -- ---- all of it

  -- all servers are up behind a settling
  up_then : (e : Did G (IsSettling servers) s t) → AreUp (course_of G t)
  up_then e =
      let many : length (list_map (seat_of G) s.all.items) ≡ servers = length-map s.all.items (seat_of G) ∙ h.count in
      lifting_up (course_of G s) (course_of G t) e.hs (subst (λ (n : ℕ). IsSettling n e.hs) (sym many) e.word) (passes_course G e.hs s t e.goes.passes)

  -- and no message is left
  taken_then : (e : Did G (IsSettling servers) s t) → AreTaken (course_of G t)
  taken_then e =
      let many : length (list_map (seat_of G) s.all.items) ≡ servers = length-map s.all.items (seat_of G) ∙ h.count in
      taken_all (course_of G s) (course_of G t) e.hs (subst (λ (n : ℕ). IsSettling n e.hs) (sym many) e.word) (passes_course G e.hs s t e.goes.passes)

  -- and all are at rest
  rested_then : (e : Did G (IsSettling servers) s t) → AreRested G t
  rested_then e =
      let many : length (list_map (seat_of G) s.all.items) ≡ servers = length-map s.all.items (seat_of G) ∙ h.count in
      rested_all G t e.goes.later.on (course_of G s) e.hs (midway_on h.ran.first (course_of G s) h.happened (first_midway h.ran.first h.ran.is_first) h.ran.course) (subst (λ (n : ℕ). IsSettling n e.hs) (sym many) e.word) (passes_course G e.hs s t e.goes.passes)

  did_alone : Did G (IsSettling servers) s t → servers ≡ 1 → Did G (IsSettling 1) s t
  did_alone e one = subst (λ (n : ℕ). Did G (IsSettling n) s t) one e

  pub played_out : length ls < 2 ^ 29 → Did G (IsSettling servers) s t → HasPlayedOut G servers ls t lists text
  played_out low e = record {
    on = e.goes.later.on;
    count = count_more t e.hs e.goes;
    up = up_then e;
    taken = taken_then e;
    rested = rested_then e;
    rests = λ one told. rested_alone G s t h.step.on (did_alone e one) (h.count ∙ one) told;
    turns = h.turns;
    hs = h.happened ++ e.hs;
    played = record { clients = c; by_lines = h.happened; behind = e.hs; are = refl; plays = h.plays; settles = e.word };
    places = h.places;
    lists = h.lists;
    said = λ k. said_goes G s t c e.goes.later k (list_map item_of (own_in k h.turns)) (h.said low k);
    text = h.text;
    ran = ran_more t e.hs e.goes;
  }

-- a settling by itself
pub settled_down : {V : Type 0} (G : Ghosts V) (s t : Stations V) → Did G (IsSettling (length s.all.items)) s t → IsSettledDown G s t
settled_down G s t e =
    let many : length (list_map (seat_of G) s.all.items) ≡ length s.all.items = length-map s.all.items (seat_of G) in
    let word : IsSettling (length (course_of G s).seats) e.hs = subst (λ (n : ℕ). IsSettling n e.hs) (sym many) e.word in
    let course : AreCourse (course_of G s) e.hs (course_of G t) = passes_course G e.hs s t e.goes.passes in
    record {
      up = lifting_up (course_of G s) (course_of G t) e.hs word course;
      taken = taken_all (course_of G s) (course_of G t) e.hs word course;
      rested = λ mid. rested_all G t e.goes.later.on (course_of G s) e.hs mid word course;
    }

-- ---- the line at a place

-- the first lines are no more than all
pub front_long : (ls : List NumberedLine) (i : ℕ) → length (take i ls) ≤ length ls
front_long [] zero = omega arith
front_long [] (suc i) = omega arith
front_long (l ∷ ls) zero = omega arith
front_long (l ∷ ls) (suc i) = omega (arith, front_long ls i)

pub front_at : (ls : List NumberedLine) (i : ℕ) (l : NumberedLine) → i < length ls → l ≡ get_or ls i l → take (i + 1) ls ≡ take i ls ++ l ∷ []
front_at ls i l h is = take_more ls i l h ∙ ap (λ (x : NumberedLine). take i ls ++ x ∷ []) (sym is)

-- what holds of all lines holds of the one at a place
pub at_place : (P : NumberedLine → Type 0) (ls : List NumberedLine) (i : ℕ) (l : NumberedLine) → AllByRecursion P ls → i < length ls → l ≡ get_or ls i l → P l
at_place P [] i l all h is = absurd (omega arith)
at_place P (x ∷ ls) zero l all h is = subst P (sym is) all.0
at_place P (x ∷ ls) (suc i) l all h is = at_place P ls i l all.1 (omega arith) is

-- ---- before the first line

pub new_list : (vs : List (Vec Item Global)) (k : ℕ) → AllByRecursion (λ (v : Vec Item Global). v.items ≡ []) vs → lists_in vs k ≡ []
new_list [] k h = refl
new_list (v ∷ vs) zero h = h.0
new_list (v ∷ vs) (suc k) h = new_list vs k h.1

none_at : (n : ℕ) → session_of n new_client ≡ None
none_at n = ap (option_map come_in) (get-empty nat_cmp n)

-- nobody knows a session, and nobody was told a thing
pub new_session : (m k : ℕ) → session_of m (client_at new_crowd k) ≡ None
new_session m k = go 17 k
  where
    go : (n k : ℕ) → session_of m (get_or (replicate n new_client) k new_client) ≡ None
    go zero k = none_at m
    go (suc n) zero = none_at m
    go (suc n) (suc k) = go n k

pub new_told : (k : ℕ) → (client_at new_crowd k).told.ts ≡ 0
new_told k = go 17 k
  where
    go : (n k : ℕ) → (get_or (replicate n new_client) k new_client).told.ts ≡ 0
    go zero k = refl
    go (suc n) zero = refl
    go (suc n) (suc k) = go n k

pub new_begun : (k : ℕ) → (client_at new_crowd k).begun ≡ None
new_begun k = go 17 k
  where
    go : (n k : ℕ) → (get_or (replicate n new_client) k new_client).begun ≡ None
    go zero k = refl
    go (suc n) zero = refl
    go (suc n) (suc k) = go n k

-- and nobody sent a thing
pub new_frames : (k : ℕ) → (client_at new_crowd k).frames ≡ no_frames
new_frames k = go 17 k
  where
    go : (n k : ℕ) → (get_or (replicate n new_client) k new_client).frames ≡ no_frames
    go zero k = refl
    go (suc n) zero = refl
    go (suc n) (suc k) = go n k

-- what holds of every frame holds of those that it keeps
pub no_last : (P : Addressed → Type 0) (c : Client) → c.frames ≡ no_frames → IfSome c.frames.last P
no_last P c is = subst (λ (f : Frames). IfSome f.last P) (sym is) tt

pub no_before : (P : Addressed → Type 0) (c : Client) → c.frames ≡ no_frames → IfSome c.frames.before P
no_before P c is = subst (λ (f : Frames). IfSome f.before P) (sym is) tt
