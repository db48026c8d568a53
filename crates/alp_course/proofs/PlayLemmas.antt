-- The lines of a script, one more or one behind the other, and what was sent by them.
use Rattle.std.specs.Prelude.{◌==◌, ◌⊎◌, true, false, Bool, cond, map as list_map, Option, None, Some}
use Rattle.std.specs.List.{AllByRecursion}
use Rattle.std.proofs.Common.{inl, inr, ◌≡◌, ℕ, zero, suc, List, [], ◌∷◌, ◌++◌, refl, sym, ◌∙◌, ap, subst, append_assoc, append-nil}
use Rattle.std.proofs.lemmas.List.{map-append}
use Rattle.std.proofs.lemmas.Grind.{flat_map-append}
use Rattle.alp_base.specs.declared.ids.TransId.{TransId}
use Rattle.alp_journal.specs.declared.log.Item.{Item}
use Rattle.alp_lines.specs.Named.{client_named}
use Rattle.alp_lines.specs.declared.line.Line.{Line}
use Rattle.alp_lines.specs.declared.line.Line.TheVariants as line
use Rattle.alp_script.specs.declared.numbered.NumberedLine.{NumberedLine}
use Rattle.alp_session.specs.Crowd.{Crowd}
use Rattle.alp_session.specs.Crowds.{new_crowd, client_at, hears, times_out}
use Rattle.alp_session.specs.declared.waiting.Next.{Next}
use Rattle.alp_session.specs.declared.waiting.Next.TheVariants as next
use Rattle.alp_course.specs.Happens.{Happening, sent_it, timed_out, ticked, forced, stop_set, restarted, lifts, finds}
use Rattle.alp_course.specs.Courses.{Occurrence, at, looks, brings, loses, repeats, comes, rests}
use Rattle.alp_course.specs.Languages.{Language, Nothing, Just, Then, Each}
use Rattle.alp_course.specs.Carries.{ArePairCarried, none_waits, one_waits, OfOthers, CarriesTo, CarriesFrom, IsSweep, IsCarried, last_sweep, one_more, CarriesIf}
use Rattle.alp_course.specs.Settles.{lifting, IsLifted, AreTimedOut, none_open, one_open, IsTicked, IsRound, Further, AreRounds, IsSettling}
use Rattle.alp_course.specs.Plays.{Due, timeouts_at, timeouts_due, sent_of, CarriesAt, Sends, OfTwo, GivesLine, PlaysOwn, PlaysLine, Plays, ArePlayed, IsCut, IsMoreDue, SendsMore, BeginsOwn, BeginsLine}
use Rattle.alp_course.specs.Turns.{Turn, own_in, sent_in}

pub Plays-push : (servers : ℕ) (c mid d : Crowd) (ls : List NumberedLine) (l : NumberedLine) (turns own : List Turn) (hs mine : List Occurrence) → Plays servers c ls turns hs mid → PlaysLine servers mid l own mine d
    → Plays servers c (ls ++ l ∷ []) (turns ++ own) (hs ++ mine) d
Plays-push servers c mid d [] l turns own hs mine h k =
    let here : PlaysLine servers c l own mine d = subst (λ (x : Crowd). PlaysLine servers x l own mine d) h.2 k in
    (own, [], mine, [], d, ap (λ (xs : List Turn). xs ++ own) h.0 ∙ sym (append-nil own), ap (λ (xs : List Occurrence). xs ++ mine) h.1 ∙ sym (append-nil mine), here, (refl, refl, refl))
Plays-push servers c mid d (x ∷ ls) l turns own hs mine h k =
    let (first, others, here, there, after_first, is, are, plays, rest) = h in (
      first,
      others ++ own,
      here,
      there ++ mine,
      after_first,
      ap (λ (xs : List Turn). xs ++ own) is ∙ append_assoc first others own,
      ap (λ (xs : List Occurrence). xs ++ mine) are ∙ append_assoc here there mine,
      plays,
      Plays-push servers after_first mid d ls l others own there mine rest k,
    )

-- ---- what was sent of all that occurred

pub sent_append : (hs js : List Occurrence) → sent_of (hs ++ js) ≡ sent_of hs ++ sent_of js
sent_append [] js = refl
sent_append (at n (sent_it k x) ∷ hs) js = ap (λ (xs : List (ℕ × Item)). (k, x) ∷ xs) (sent_append hs js)
sent_append (at n h ∷ hs) js = sent_append hs js
sent_append (looks from to waits ∷ hs) js = sent_append hs js
sent_append (brings from to ∷ hs) js = sent_append hs js
sent_append (loses from to ∷ hs) js = sent_append hs js
sent_append (repeats from to ∷ hs) js = sent_append hs js
sent_append (comes from to m seen ∷ hs) js = sent_append hs js
sent_append (rests is_rest ∷ hs) js = sent_append hs js

-- nothing is sent in such a thing
abbrev Silent : Language → Type 0
Silent A = (xs : List Occurrence) → A xs → sent_of xs ≡ []

silent_then : (A B : Language) → Silent A → Silent B → Silent (Then A B)
silent_then A B first second xs h = ap sent_of h.are ∙ sent_append h.front h.back ∙ (λ i. first h.front h.first i ++ second h.back h.second i)

silent_each : (A : ℕ → Language) → ((n : ℕ) → Silent (A n)) → (n : ℕ) → Silent (Each A n)
silent_each A silent zero xs h = ap sent_of h
silent_each A silent (suc n) xs h = silent_then (Each A n) (A (suc n)) (silent_each A silent n) (silent (suc n)) xs h

silent_pair : (from to : ℕ) → Silent (ArePairCarried from to)
silent_pair from to xs none_waits = refl
silent_pair from to xs (one_waits zs word) = silent_pair from to zs word

silent_to : (from to : ℕ) → Silent (CarriesTo from to)
silent_to from to = go (from == to)
  where
    go : (b : Bool) → Silent (OfOthers b (ArePairCarried from to))
    go true = λ xs h. ap sent_of h
    go false = silent_pair from to

silent_sweep : (servers : ℕ) → Silent (IsSweep servers)
silent_sweep servers = silent_each (CarriesFrom servers) (λ from. silent_each (CarriesTo from) (silent_to from) servers) servers

silent_carried : (servers : ℕ) → Silent (IsCarried servers)
silent_carried servers xs (last_sweep ys word quiet) = silent_sweep servers ys word
silent_carried servers xs (one_more ys zs word some rest) = sent_append ys zs ∙ (λ i. silent_sweep servers ys word i ++ silent_carried servers zs rest i)

silent_if : (servers : ℕ) (b : Bool) → Silent (CarriesIf servers b)
silent_if servers true = silent_carried servers
silent_if servers false = λ xs h. ap sent_of h

silent_at : (servers : ℕ) (c : Crowd) (n : Next) → Silent (CarriesAt servers c n)
silent_at servers c next.Collect = silent_if servers c.settings.collects
silent_at servers c next.Call = λ xs h. ap sent_of h
silent_at servers c next.TimeOut = λ xs h. ap sent_of h
silent_at servers c next.Over = λ xs h. ap sent_of h

silent_lifted : (n : ℕ) → Silent (IsLifted n)
silent_lifted n xs (is_down, is) = ap sent_of is ∙ go is_down
  where
    go : (b : Bool) → sent_of (lifting n b) ≡ []
    go true = refl
    go false = refl

silent_timed : (n : ℕ) → Silent (AreTimedOut n)
silent_timed n xs none_open = refl
silent_timed n xs (one_open t zs word) = silent_timed n zs word

silent_ticked : (n : ℕ) → Silent (IsTicked n)
silent_ticked n xs h = ap sent_of h

silent_further : (A : Language) → Silent A → (b : Bool) → Silent (Further b A)
silent_further A silent true ys is = ap sent_of is
silent_further A silent false ys t = silent_then (Just (rests false ∷ [])) A (λ zs is. ap sent_of is) silent ys t

silent_rounds : (servers most : ℕ) → Silent (AreRounds servers most)
silent_rounds servers zero xs h = ap sent_of h
silent_rounds servers (suc k) xs (is_rest, h) =
    silent_then (IsRound servers) (Further is_rest (AreRounds servers k)) (silent_then (Each IsTicked servers) (IsCarried servers) (silent_each IsTicked silent_ticked servers) (silent_carried servers))
    (silent_further (AreRounds servers k) (silent_rounds servers k) is_rest) xs h

pub silent_settling : (servers : ℕ) (xs : List Occurrence) → IsSettling servers xs → sent_of xs ≡ []
silent_settling servers =
    silent_then (Each IsLifted servers) (Then (Each AreTimedOut servers) (AreRounds servers 8)) (silent_each IsLifted silent_lifted servers)
    (silent_then (Each AreTimedOut servers) (AreRounds servers 8) (silent_each AreTimedOut silent_timed servers) (silent_rounds servers 8))

silent_timeouts : (server : ℕ) (t : Option TransId) → sent_of (timeouts_at server t) ≡ []
silent_timeouts server None = refl
silent_timeouts server (Some t) = refl

silent_due : (t : Option (ℕ × TransId)) → sent_of (timeouts_due t) ≡ []
silent_due None = refl
silent_due (Some t) = refl

-- by a line that is no client's
of_two : (from to : ℕ) (x : Occurrence) → sent_of (x ∷ []) ≡ [] → Silent (OfTwo from to x)
of_two from to x none xs h = ap sent_of h ∙ go (from == to)
  where
    go : (b : Bool) → sent_of (cond {A = List Occurrence} b [] (x ∷ [])) ≡ []
    go true = refl
    go false = none

gives_none : (servers : ℕ) (c : Crowd) (l : Line) → Silent (GivesLine servers c l)
gives_none servers c (line.Timeout server client) hs h = ap sent_of h ∙ silent_timeouts server (client_at c client).trans
gives_none servers c (line.Carry from to) hs h = of_two from to (brings from to) refl hs h
gives_none servers c (line.Lose from to) hs h = of_two from to (loses from to) refl hs h
gives_none servers c (line.Again from to) hs h = of_two from to (repeats from to) refl hs h
gives_none servers c line.Settle hs h = silent_settling servers hs h
gives_none servers c l hs h = ap sent_of h

-- what comes before more of it sends nothing either
no_front : (xs ys : List (ℕ × Item)) → xs ++ ys ≡ [] → xs ≡ []
no_front [] ys is = refl
no_front (x ∷ xs) ys is = let wrong : x ∷ (xs ++ ys) ≡ [] = is in cc

cut_none : (A : Language) → Silent A → (hs : List Occurrence) (due : Due) → IsCut A hs due → sent_of hs ≡ []
cut_none A silent hs due h = no_front (sent_of hs) (sent_of (h.coming ∷ h.rest)) (sym (sent_append hs (h.coming ∷ h.rest)) ∙ silent (hs ++ h.coming ∷ h.rest) h.all)

-- the items of a client
module _ (servers k : ℕ) (l : Line) where
  sends_sent : (c d : Crowd) (n : Next) (xs : List Item) (t : Option (ℕ × TransId)) (hs : List Occurrence) → Sends servers c k l n xs t hs d → sent_of hs ≡ list_map (λ (x : Item). (k, x)) xs
  sends_sent c d n [] t hs h = silent_then (CarriesAt servers c n) (Just (timeouts_due t)) (silent_at servers c n) (λ ys is. ap sent_of is ∙ silent_due t) hs h.0
  sends_sent c d n (x ∷ xs) t hs h =
      let (frame, rest, asked, of_frame, now, more) = h in
      ap sent_of now.are ∙ sent_append now.front now.back
      ∙ (λ i. silent_at servers c n now.front now.first i ++ (ap sent_of now.second ∙ ap (λ (ys : List (ℕ × Item)). (k, x) ∷ ys) (sends_sent (hears c k l n frame x.reply).0 d (hears c k l n frame x.reply).1 xs t rest more)) i)

  more_due_sent : (c : Crowd) (n : Next) (hs : List Occurrence) (due : Due) → IsMoreDue servers c k l n hs due → sent_of hs ≡ []
  more_due_sent c n hs due (inl cut) = cut_none (CarriesAt servers c n) (silent_at servers c n) hs due cut
  more_due_sent c n hs due (inr (inl (carried, next))) = silent_at servers c n hs carried
  more_due_sent c n hs due (inr (inr (is, inl none))) = ap sent_of none
  more_due_sent c n hs due (inr (inr (is, inr (inl carried)))) = silent_at servers c n hs carried
  more_due_sent c n hs due (inr (inr (is, inr (inr over)))) = sends_sent c c n [] (times_out c k n) hs over

  sends_more_sent : (c d : Crowd) (n : Next) (xs : List Item) (hs : List Occurrence) (due : Due) → SendsMore servers c k l n xs hs due d → sent_of hs ≡ list_map (λ (x : Item). (k, x)) xs
  sends_more_sent c d n [] hs due h = more_due_sent c n hs due h.0
  sends_more_sent c d n (x ∷ xs) hs due h =
      let (frame, rest, asked, of_frame, now, more) = h in
      ap sent_of now.are ∙ sent_append now.front now.back
      ∙ (λ i. silent_at servers c n now.front now.first i ++ (ap sent_of now.second ∙ ap (λ (ys : List (ℕ × Item)). (k, x) ∷ ys) (sends_more_sent (hears c k l n frame x.reply).0 d (hears c k l n frame x.reply).1 xs rest due more)) i)

-- ---- lines

turn_sent : (k n : ℕ) (xs : List Item) → sent_in (record { line = n; client = k; items = xs } ∷ []) ≡ list_map (λ (x : Item). (k, x)) xs
turn_sent k n xs = append-nil (list_map (λ (x : Item). (k, x)) xs)

own_sent : (servers : ℕ) (c d : Crowd) (l : NumberedLine) (o : Option ℕ) (own : List Turn) (mine : List Occurrence) → PlaysOwn servers c l o own mine d → sent_of mine ≡ sent_in own
own_sent servers c d l None own mine h = gives_none servers c l.line mine h.1 ∙ ap sent_in (sym h.0)
own_sent servers c d l (Some client) own mine h =
    let (xs, t, is, numbers, sends) = h in
    sends_sent servers client l.line _ d next.Call xs t mine sends ∙ sym (turn_sent client l.number xs) ∙ ap sent_in (sym is)

pub line_sent : (servers : ℕ) (c d : Crowd) (l : NumberedLine) (own : List Turn) (mine : List Occurrence) → PlaysLine servers c l own mine d → sent_of mine ≡ sent_in own
line_sent servers c d l own mine h =
    ap sent_of h.are ∙ sent_append h.by_line h.carried ∙ (λ i. own_sent servers c d l (client_named l.line) own h.by_line h.plays i ++ silent_if servers d.settings.collects h.carried h.carries i) ∙ append-nil (sent_in own)

pub sent_in-append : (ts us : List Turn) → sent_in (ts ++ us) ≡ sent_in ts ++ sent_in us
sent_in-append ts us = flat_map-append (λ (t : Turn). list_map (λ (x : Item). (t.client, x)) t.items) ts us

pub plays_sent : (servers : ℕ) (c d : Crowd) (ls : List NumberedLine) (turns : List Turn) (hs : List Occurrence) → Plays servers c ls turns hs d → sent_of hs ≡ sent_in turns
plays_sent servers c d [] turns hs h = ap sent_of h.1 ∙ ap sent_in (sym h.0)
plays_sent servers c d (l ∷ ls) turns hs h =
    let (own, others, mine, theirs, mid, is, are, one, rest) = h in
    ap sent_of are ∙ sent_append mine theirs ∙ (λ i. line_sent servers c mid l own mine one i ++ plays_sent servers mid d ls others theirs rest i) ∙ sym (sent_in-append own others) ∙ ap sent_in (sym is)

-- all of a script that was played
pub played_sent : (servers : ℕ) (lines : List NumberedLine) (turns : List Turn) (hs : List Occurrence) → ArePlayed servers lines turns hs → sent_of hs ≡ sent_in turns
played_sent servers lines turns hs p =
    ap sent_of p.are ∙ sent_append p.by_lines p.behind
    ∙ (λ i. plays_sent servers new_crowd p.clients lines turns p.by_lines p.plays i ++ silent_settling servers p.behind p.settles i) ∙ append-nil (sent_in turns)

-- a line that is not over
begins_own_sent : (servers : ℕ) (c d : Crowd) (l : NumberedLine) (o : Option ℕ) (own : List Turn) (mine : List Occurrence) (due : Due) → BeginsOwn servers c l o own mine due d → sent_of mine ≡ sent_in own
begins_own_sent servers c d l None own mine due h = cut_none (GivesLine servers c l.line) (gives_none servers c l.line) mine due h.1 ∙ ap sent_in (sym h.0)
begins_own_sent servers c d l (Some client) own mine due h =
    let (xs, is, numbers, sends) = h in
    sends_more_sent servers client l.line _ d next.Call xs mine due sends ∙ sym (turn_sent client l.number xs) ∙ ap sent_in (sym is)

pub begins_sent : (servers : ℕ) (c d : Crowd) (l : NumberedLine) (own : List Turn) (mine : List Occurrence) (due : Due) → BeginsLine servers c l own mine due d → sent_of mine ≡ sent_in own
begins_sent servers c d l own mine due (inl h) = begins_own_sent servers c d l (client_named l.line) own mine due h
begins_sent servers c d l own mine due (inr (by_line, carried, are, plays, cut)) =
    ap sent_of are ∙ sent_append by_line carried ∙ (λ i. own_sent servers c d l (client_named l.line) own by_line plays i ++ cut_none (CarriesIf servers d.settings.collects) (silent_if servers d.settings.collects) carried due cut i) ∙ append-nil (sent_in own)

pub settling_cut_sent : (servers : ℕ) (hs : List Occurrence) (due : Due) → IsCut (IsSettling servers) hs due → sent_of hs ≡ []
settling_cut_sent servers hs due cut = cut_none (IsSettling servers) (silent_settling servers) hs due cut

pub own_append : (k : ℕ) (ts us : List Turn) → own_in k (ts ++ us) ≡ own_in k ts ++ own_in k us
own_append k [] us = refl
own_append k (t ∷ ts) us =
    ap (λ (xs : List Item). cond (t.client == k) t.items [] ++ xs) (own_append k ts us) ∙ sym (append_assoc (cond (t.client == k) t.items []) (own_in k ts) (own_in k us))
