-- a line sends at most five frames, each of which leaves fewer to send
use Rattle.std.specs.Prelude.{Bool, true, false, cond, not, nat_le, ◌&&◌, ◌∷◌, Option, None, Some, IsSome, IfSome}
use Rattle.std.specs.Option.{option_map}
use Rattle.std.specs.FinMap as map
use Rattle.std.specs.Cmp.{nat_cmp_total}
use Rattle.std.specs.FinMap.{nat_cmp-IsAntisymmetric, get-insert}
use Rattle.std.specs.Ordering.{nat_cmp, is_eq}
use Rattle.std.specs.declared.cmp.Ordering.{Ordering}
use Rattle.std.specs.declared.cmp.Ordering.TheVariants.{Less, Equal, Greater}
use Rattle.std.proofs.Common.{◌≡◌, ℕ, ◌+◌, ◌<◌, ◌≤◌, length, refl, sym, ◌∙◌, ap, subst, arith}
use Rattle.std.proofs.lemmas.Bool.{and_parts}
use Rattle.std.proofs.lemmas.Option.{same_Some}
use Rattle.alp_base.specs.declared.ids.TransId.{TransId}
use Rattle.alp_files.specs.declared.reply.Reply.{Reply}
use Rattle.alp_files.specs.declared.reply.Reply.TheVariants as reply
use Rattle.alp_files.specs.declared.refusal.Refusal.TheVariants as refusal
use Rattle.alp_journal.specs.declared.log.Mark.TheVariants as mark
use Rattle.alp_journal.specs.Ids.{same_trans}
use Rattle.alp_journal.proofs.IdLemmas.{same_trans-itself}
use Rattle.alp_lines.specs.declared.line.Line.{Line}
use Rattle.alp_lines.specs.declared.line.Line.TheVariants as line
use Rattle.alp_rpc.specs.declared.frame.Request.{Request}
use Rattle.alp_session.specs.Maps.{WordMap, SessionMap}
use Rattle.alp_session.specs.Clients.{is_joined, first_of}
use Rattle.alp_session.specs.Calls.{home_of, waits_in, server_for, needs_part, is_collect, asking_of, asking_for}
use Rattle.alp_session.specs.Frames.{number_after, request_for, addressed, mark_of}
use Rattle.alp_session.specs.Heard.{joined_in, knows_part, greeted, purpose_of, collects_by_itself, is_waiting_at, waiting_for, awaiting, patient_behind, joined_reply, is_part, part_known, collected_reply, purpose_in, without_last, one_more, times_asked, goes_on, collected, called, answered, counted_in, counted, sending_in, heard_own, heard, keeps, words_late_told, words_called, words_answered, words_in_session, words_heard}
use Rattle.alp_session.specs.Ahead.{greeting_ahead, joined_at, asked_ahead, call_ahead, collect_ahead, ahead, IsOnItsWay, frame_next, Fewer}
use Rattle.alp_session.specs.Crowd.{Crowd}
use Rattle.alp_session.specs.Crowds.{client_at, asks, hears}
use Rattle.alp_session.specs.declared.asking.Asking.{Asking}
use Rattle.alp_session.specs.declared.asking.Asking.TheVariants as asking
use Rattle.alp_session.specs.declared.asking.Sending.{Sending}
use Rattle.alp_session.specs.declared.client.Client.{Client}
use Rattle.alp_session.specs.declared.frames.Addressed.{Addressed}
use Rattle.alp_session.specs.declared.greeted.Greeted.{Greeted}
use Rattle.alp_session.specs.declared.waiting.Next.{Next}
use Rattle.alp_session.specs.declared.waiting.Next.TheVariants as next
use Rattle.alp_session.specs.declared.waiting.Purpose.{Purpose}
use Rattle.alp_session.specs.declared.waiting.Purpose.TheVariants as purpose
use Rattle.alp_session.specs.declared.waiting.Settings.{Settings}
use Rattle.alp_session.proofs.CrowdLemmas.{at_same}
use Rattle.alp_session.proofs.MapLemmas.{put_stands}

-- ---- what a line asks

asked_some : (a : Asking) → 0 < asked_ahead a
asked_some (asking.Join t) = omega arith
asked_some asking.Call = omega arith
asked_some asking.Collect = omega arith

asked_few : (a : Asking) → asked_ahead a ≤ 4
asked_few (asking.Join t) = omega arith
asked_few asking.Call = omega arith
asked_few asking.Collect = omega arith

no_collect : (l : Line) → needs_part l ≡ true → is_collect l next.Call ≡ false
no_collect (line.Collect client) h = cc
no_collect l h = refl

collects : (l : Line) → is_collect l next.Collect ≡ true
collects (line.Collect client) = refl
collects l = refl

-- a call of a part goes where the line says, whatever the client knows
same_there : (words : WordMap) (c d : Client) (l : Line) → needs_part l ≡ true → server_for words c l ≡ server_for words d l
same_there words c d (line.Begin client server) h = refl
same_there words c d (line.Commit client) h = cc
same_there words c d (line.Abort client) h = cc
same_there words c d (line.Outcome client) h = cc
same_there words c d (line.Collect client) h = cc
same_there words c d l h = refl

-- and any call does by the client's transactions and what waits
same_server : (words : WordMap) (c d : Client) (l : Line) → c.trans ≡ d.trans → c.begun ≡ d.begun → first_of c.waiting ≡ first_of d.waiting → server_for words c l ≡ server_for words d l
same_server words c d (line.Commit client) t b w = ap home_of t
same_server words c d (line.Abort client) t b w = ap home_of t
same_server words c d (line.Outcome client) t b w = ap home_of b
same_server words c d (line.Collect client) t b w = ap waits_in w
same_server words c d l t b w = refl

-- where the transaction has joined the call itself is asked
joined_asks : (t : TransId) (l : Line) → needs_part l ≡ true → asking_for (Some t) (Some t) l next.Call ≡ asking.Call
joined_asks t l h =
    ap (λ (b : Bool). cond b asking.Collect (asking_of (Some t) (Some t) l)) (no_collect l h)
    ∙ ap (λ (b : Bool). cond (b && not (same_trans t t)) (asking.Join t) asking.Call) h
    ∙ ap (λ (b : Bool). cond (not b) (asking.Join t) asking.Call) (same_trans-itself t)

chosen : (b : Bool) (u t : TransId) → cond b (asking.Join u) asking.Call ≡ asking.Join t → (b ≡ true) × (u ≡ t)
chosen true u t h = (refl, cc)
chosen false u t h = cc

join_of : (joined o : Option TransId) (l : Line) (t : TransId) → asking_of joined o l ≡ asking.Join t → (o ≡ Some t) × (needs_part l ≡ true)
join_of joined None l t h = cc
join_of joined (Some u) l t h =
    let both = chosen (needs_part l && not (is_joined joined u)) u t h in
    (ap Some both.1, (and_parts (needs_part l) _ both.0).0)

not_collect : (b : Bool) (x : Asking) (t : TransId) → cond b asking.Collect x ≡ asking.Join t → x ≡ asking.Join t
not_collect true x t h = cc
not_collect false x t h = h

-- a `Join` is one of the client's transaction, before a call of a part
join_means : (joined o : Option TransId) (l : Line) (t : TransId) → asking_for joined o l next.Call ≡ asking.Join t → (o ≡ Some t) × (needs_part l ≡ true)
join_means joined o l t h = join_of joined o l t (not_collect (is_collect l next.Call) (asking_of joined o l) t h)

asks_collect : (joined o : Option TransId) (l : Line) → asking_for joined o l next.Collect ≡ asking.Collect
asks_collect joined o l = ap (λ (b : Bool). cond b asking.Collect (asking_of joined o l)) (collects l)

not_part : (words : WordMap) (l : Line) → is_part (purpose_of words l) ≡ false
not_part words (line.Create client server word owner size read modify choice) = refl
not_part words (line.OpenFile client file access mode choice) = refl
not_part words l = refl

one_few : (b : Bool) → 0 < cond b 3 1
one_few true = omega arith
one_few false = omega arith

-- ---- sessions

put_got : (m : SessionMap) (server : ℕ) (g : Greeted) → map.get (map.insert m server g) server ≡ Some g
put_got m server g = put_stands nat_cmp_total nat_cmp-IsAntisymmetric m (map.insert m server g) server g refl

knows_got : (c : Client) (server : ℕ) (t : TransId) (g : Greeted) → map.get c.sessions server ≡ Some g → map.get (knows_part c server t).sessions server ≡ Some (record g { joined = Some t })
knows_got c server t g there =
    ap (λ (o : Option Greeted). map.get (joined_in c.sessions server t o) server) there ∙ put_got c.sessions server (record g { joined = Some t })

-- behind a `Join` the call and its collect are ahead
joined_ahead : (words : WordMap) (d : Client) (server : ℕ) (t : TransId) (l : Line) (g : Greeted) → map.get d.sessions server ≡ Some g → g.joined ≡ Some t → d.trans ≡ Some t
    → server_for words d l ≡ server → needs_part l ≡ true → ahead words d l next.Call ≡ 2
joined_ahead words d server t l g there joined is at needs =
    ap (λ (s : ℕ). call_ahead d l (map.get d.sessions s)) at
    ∙ ap (λ (o : Option Greeted). call_ahead d l o) there
    ∙ ap (λ (j : Option TransId). 0 + asked_ahead (asking_for j d.trans l next.Call)) joined
    ∙ ap (λ (o : Option TransId). 0 + asked_ahead (asking_for (Some t) o l next.Call)) is
    ∙ ap (λ (a : Asking). 0 + asked_ahead a) (joined_asks t l needs)

-- ---- what a client hears leaves fewer frames

over_fewer : (words : WordMap) (c : Client) (l : Line) (m : ℕ) → 0 < m → (n : Next) → n ≡ next.Over → Fewer words l m (c, n)
over_fewer words c l m some n is = subst (λ (n : Next). Fewer words l m (c, n)) (sym is) (tt, some)

patient_fewer : (words : WordMap) (c : Client) (l : Line) (m : ℕ) → 0 < m → (s : Settings) (o : Option ℕ) → Fewer words l m (c, patient_behind s o)
patient_fewer words c l m some s None = (tt, some)
patient_fewer words c l m some s (Some asked) = go (nat_le s.patience asked)
  where
    go : (b : Bool) → Fewer words l m (c, cond b next.TimeOut next.Over)
    go true = (tt, some)
    go false = (tt, some)

greeted_fewer : (words : WordMap) (c : Client) (server : ℕ) (l : Line) → server ≡ server_for words c l → (r : Option Reply)
    → Fewer words l (call_ahead c l None) (greeted c server next.Call r)
greeted_fewer words c server l at None = (tt, omega arith)
greeted_fewer words c server l at (Some (reply.Welcome epoch)) =
    let g : Greeted = record { epoch = epoch; last = 1; joined = None } in
    let d : Client = record c { sessions = map.insert c.sessions server g } in
    let here : ahead words d l next.Call ≡ call_ahead d l (Some g) =
    ap (λ (s : ℕ). call_ahead d l (map.get d.sessions s)) (same_server words d c l refl refl refl ∙ sym at) ∙ ap (λ (o : Option Greeted). call_ahead d l o) (put_got c.sessions server g) in
    (tt, omega (arith, here))
greeted_fewer words c server l at (Some r) = (tt, omega arith)

waits_fewer : (words : WordMap) (c d : Client) (l : Line) (m : ℕ) → 0 < m → IsOnItsWay words d l next.Collect → ahead words d l next.Collect < m → (b itself : Bool)
    → Fewer words l m (cond b (c, next.Over) (d, collects_by_itself itself))
waits_fewer words c d l m some way few true itself = (tt, some)
waits_fewer words c d l m some way few false true = (way, few)
waits_fewer words c d l m some way few false false = (tt, some)

-- a call that comes to wait
awaiting_fewer : (words : WordMap) (c : Client) (q : Sending) (p : Purpose) (l : Line) (m : ℕ) (g : Greeted) → map.get c.sessions q.server ≡ Some g
    → (is_part p ≡ true → (q.server ≡ server_for words (record c { waiting = waiting_for q p ∷ c.waiting }) l) × IsSome c.trans × (needs_part l ≡ true))
    → cond (is_part p) 3 1 < m → Fewer words l m (awaiting c q p)
awaiting_fewer words c q p l m g there way few =
    let d : Client = record c { waiting = waiting_for q p ∷ c.waiting } in
    let here : ahead words d l next.Collect ≡ 0 + cond (is_part p) 3 1 = ap (λ (o : Option Greeted). collect_ahead o p) there in
    waits_fewer words c d l m (omega (arith, few)) way (omega (arith, few, here)) (is_waiting_at c.waiting q.server) q.settings.collects

joined_fewer : (words : WordMap) (c : Client) (q : Sending) (t : TransId) (l : Line) (g : Greeted) → map.get c.sessions q.server ≡ Some g → q.server ≡ server_for words c l → c.trans ≡ Some t
    → needs_part l ≡ true → (r : Reply) → Fewer words l 4 (joined_reply c q t r)
joined_fewer words c q t l g there at is needs reply.Joined =
    let d : Client = knows_part c q.server t in
    let here : ahead words d l next.Call ≡ 2 =
    joined_ahead words d q.server t l (record g { joined = Some t }) (knows_got c q.server t g there) refl is (same_there words d c l needs ∙ sym at) needs in
    (tt, omega (arith, here))
joined_fewer words c q t l g there at is needs (reply.Refused refusal.NotYet) =
    let d : Client = record c { waiting = waiting_for q purpose.Part ∷ c.waiting } in
    awaiting_fewer words c q purpose.Part l 4 g there (λ _. (at ∙ same_there words c d l needs, subst (λ (o : Option TransId). IsSome o) (sym is) refl, needs)) (omega arith)
joined_fewer words c q t l g there at is needs r = (tt, omega arith)

called_fewer : (words after : WordMap) (c : Client) (q : Sending) (l : Line) (g : Greeted) → map.get c.sessions q.server ≡ Some g → (r : Reply) → Fewer after l 2 (called words c q l r)
called_fewer words after c q l g there (reply.Refused refusal.NotYet) =
    let one : ◌≡◌ {A = ℕ} (cond (is_part (purpose_of words l)) 3 1) 1 = ap (λ (b : Bool). cond b 3 1) (not_part words l) in
    awaiting_fewer after c q (purpose_of words l) l 2 g there (λ h. let wrong : true ≡ false = sym h ∙ not_part words l in cc) (omega (arith, one))
called_fewer words after c q l g there r = (tt, omega arith)

goes_call : (p : Purpose) (r : Reply) → goes_on p r next.Call ≡ next.Over
goes_call purpose.Part reply.Joined = refl
goes_call purpose.Part r = refl
goes_call p r = refl

-- a line that collects
collected_call : (words : WordMap) (c : Client) (q : Sending) (l : Line) (m : ℕ) → 0 < m → q.next ≡ next.Call → (r : Reply) → Fewer words l m (collected c q l r)
collected_call words c q l m some is (reply.Refused refusal.NotYet) = patient_fewer words (record c { waiting = one_more c.waiting }) l m some q.settings (times_asked c.waiting)
collected_call words c q l m some is r =
    over_fewer words (without_last (collected_reply c q.server (purpose_in (first_of c.waiting)) l r)) l m some (goes_on (purpose_in (first_of c.waiting)) r q.next)
    (ap (goes_on (purpose_in (first_of c.waiting)) r) is ∙ goes_call (purpose_in (first_of c.waiting)) r)

trans_of : (o : Option TransId) → IsSome o → (t : TransId) × (o ≡ Some t)
trans_of None some = cc
trans_of (Some t) some = (t, refl)

-- behind the collect of a `Join` in its line
part_collected : (words : WordMap) (c : Client) (server : ℕ) (l : Line) (g : Greeted) → map.get c.sessions server ≡ Some g → server ≡ server_for words c l → IsSome c.trans → needs_part l ≡ true
    → Fewer words l 3 (without_last (part_known c server c.trans), next.Call)
part_collected words c server l g there at some needs =
    let (t, is) = trans_of c.trans some in
    let d : Client = without_last (knows_part c server t) in
    let here : ahead words d l next.Call ≡ 2 =
    joined_ahead words d server t l (record g { joined = Some t }) (knows_got c server t g there) refl is (same_there words d c l needs ∙ sym at) needs in
    subst (λ (o : Option TransId). Fewer words l 3 (without_last (part_known c server o), next.Call)) (sym is) (tt, omega (arith, here))

-- behind any collect in its line
late_fewer : (words : WordMap) (c : Client) (server : ℕ) (l : Line) (g : Greeted) → map.get c.sessions server ≡ Some g → (p : Purpose)
    → (is_part p ≡ true → (server ≡ server_for words c l) × IsSome c.trans × (needs_part l ≡ true)) → (r : Reply)
    → Fewer (words_late_told words c.trans server p r) l (0 + cond (is_part p) 3 1) (without_last (collected_reply c server p l r), goes_on p r next.Collect)
late_fewer words c server l g there purpose.Part way reply.Joined = let w = way refl in part_collected words c server l g there w.0 w.1 w.2
late_fewer words c server l g there purpose.Part way r = (tt, omega arith)
late_fewer words c server l g there (purpose.Word w) way r = (tt, omega arith)
late_fewer words c server l g there (purpose.Open f) way r = (tt, omega arith)
late_fewer words c server l g there purpose.Nothing way r = (tt, omega arith)

collected_fewer : (words : WordMap) (c : Client) (q : Sending) (l : Line) (g : Greeted) → map.get c.sessions q.server ≡ Some g → q.next ≡ next.Collect
    → (is_part (purpose_in (first_of c.waiting)) ≡ true → (q.server ≡ server_for words c l) × IsSome c.trans × (needs_part l ≡ true)) → (r : Reply)
    → Fewer (words_late_told words c.trans q.server (purpose_in (first_of c.waiting)) r) l (0 + cond (is_part (purpose_in (first_of c.waiting))) 3 1) (collected c q l r)
collected_fewer words c q l g there is way (reply.Refused refusal.NotYet) =
    patient_fewer words (record c { waiting = one_more c.waiting }) l (0 + cond (is_part (purpose_in (first_of c.waiting))) 3 1) (omega (arith, one_few (is_part (purpose_in (first_of c.waiting))))) q.settings (times_asked c.waiting)
collected_fewer words c q l g there is way r =
    subst (λ (n : Next). Fewer (words_late_told words c.trans q.server (purpose_in (first_of c.waiting)) r) l (0 + cond (is_part (purpose_in (first_of c.waiting))) 3 1) (without_last (collected_reply c q.server (purpose_in (first_of c.waiting)) l r), goes_on (purpose_in (first_of c.waiting)) r n))
    (sym is) (late_fewer words c q.server l g there (purpose_in (first_of c.waiting)) way r)

-- ---- in a session

answered_call : (words : WordMap) (s : Settings) (c : Client) (server : ℕ) (g : Greeted) (l : Line) → map.get c.sessions server ≡ Some g → server ≡ server_for words c l → (a : Asking)
    → asking_for g.joined c.trans l next.Call ≡ a → (r : Option Reply) → Fewer (words_answered words c server l a r) l (0 + asked_ahead a) (answered words c (sending_in server g next.Call s) l a r)
answered_call words s c server g l there at a is None = (tt, omega (arith, asked_some a))
answered_call words s c server g l there at asking.Collect is (Some r) =
    collected_call (words_late_told words c.trans server (purpose_in (first_of c.waiting)) r) c (sending_in server g next.Call s) l 1 (omega arith) refl r
answered_call words s c server g l there at (asking.Join t) is (Some r) =
    let means = join_means g.joined c.trans l t is in
    joined_fewer words c (sending_in server g next.Call s) t l g there at means.0 means.1 r
answered_call words s c server g l there at asking.Call is (Some r) =
    called_fewer words (words_called words c server l r) c (sending_in server g next.Call s) l g there r

-- what is ahead hangs on whether there is a session, and what it joined
abbrev seen : Option Greeted → ℕ × Option TransId
seen o = (greeting_ahead o, joined_at o)

-- and not on its number
counted_seen : (m : SessionMap) (server number s : ℕ) (o : Option Greeted) → map.get m server ≡ o → seen (map.get (counted_in m server number o) s) ≡ seen (map.get m s)
counted_seen m server number s None there = refl
counted_seen m server number s (Some g) there = ap seen (get-insert nat_cmp_total m server (record g { last = number }) s) ∙ go (nat_cmp s server) refl
  where
    go : (o : Ordering) → nat_cmp s server ≡ o → seen (cond (is_eq o) (Some (record g { last = number })) (map.get m s)) ≡ seen (map.get m s)
    go Equal e = sym (ap seen (ap (map.get m) (nat_cmp-IsAntisymmetric s server e) ∙ there))
    go Less e = refl
    go Greater e = refl

counted_fewer : (words : WordMap) (l : Line) (m : ℕ) (d : Client) (n : Next) (server number : ℕ) → Fewer words l m (d, n) → Fewer words l m (counted d server number, n)
counted_fewer words l m d next.Call server number h =
    let e : Client = counted d server number in
    let same : ahead words e l next.Call ≡ ahead words d l next.Call =
    ap (λ (s : ℕ). call_ahead d l (map.get e.sessions s)) (same_server words e d l refl refl refl)
    ∙ ap (λ (p : ℕ × Option TransId). p.0 + asked_ahead (asking_for p.1 d.trans l next.Call)) (counted_seen d.sessions server number (server_for words d l) (map.get d.sessions server) refl) in
    (tt, omega (arith, h.1, same))
counted_fewer words l m d next.Collect server number h =
    let e : Client = counted d server number in
    let same : ahead words e l next.Collect ≡ ahead words d l next.Collect =
    ap (λ (p : ℕ × Option TransId). p.0 + cond (is_part (purpose_in (first_of d.waiting))) 3 1) (counted_seen d.sessions server number (waits_in (first_of d.waiting)) (map.get d.sessions server) refl) in
    ((λ p. let w = h.0 p in (w.0 ∙ same_there words d e l w.2, w.1, w.2)), omega (arith, h.1, same))
counted_fewer words l m d next.TimeOut server number h = (tt, h.1)
counted_fewer words l m d next.Over server number h = (tt, h.1)

own_call : (words : WordMap) (s : Settings) (c : Client) (server : ℕ) (l : Line) → server ≡ server_for words c l → (o : Option Greeted) → map.get c.sessions server ≡ o → (r : Option Reply)
    → Fewer (words_in_session words c server o l next.Call r) l (call_ahead c l o) (heard_own words s c server o l next.Call r)
own_call words s c server l at None there r = greeted_fewer words c server l at r
own_call words s c server l at (Some g) there r =
    let h : Client × Next = answered words c (sending_in server g next.Call s) l (asking_for g.joined c.trans l next.Call) r in
    counted_fewer (words_answered words c server l (asking_for g.joined c.trans l next.Call) r) l (0 + asked_ahead (asking_for g.joined c.trans l next.Call)) h.0 h.1 server (number_after g.last)
    (answered_call words s c server g l there at (asking_for g.joined c.trans l next.Call) refl r)

-- at the collect
answered_collect : (words : WordMap) (s : Settings) (c : Client) (server : ℕ) (g : Greeted) (l : Line) → map.get c.sessions server ≡ Some g → server ≡ waits_in (first_of c.waiting)
    → IsOnItsWay words c l next.Collect → (a : Asking) → a ≡ asking.Collect → (r : Option Reply)
    → Fewer (words_answered words c server l a r) l (0 + cond (is_part (purpose_in (first_of c.waiting))) 3 1) (answered words c (sending_in server g next.Collect s) l a r)
answered_collect words s c server g l there at way a is None = (tt, omega (arith, one_few (is_part (purpose_in (first_of c.waiting)))))
answered_collect words s c server g l there at way asking.Collect is (Some r) =
    collected_fewer words c (sending_in server g next.Collect s) l g there refl (λ h. let w = way h in (at ∙ w.0, w.1, w.2)) r
answered_collect words s c server g l there at way (asking.Join t) is (Some r) = cc
answered_collect words s c server g l there at way asking.Call is (Some r) = cc

greeted_collect : (words : WordMap) (c : Client) (server : ℕ) (l : Line) → server ≡ waits_in (first_of c.waiting) → IsOnItsWay words c l next.Collect → (r : Option Reply)
    → Fewer words l (collect_ahead None (purpose_in (first_of c.waiting))) (greeted c server next.Collect r)
greeted_collect words c server l at way None = (tt, omega arith)
greeted_collect words c server l at way (Some (reply.Welcome epoch)) =
    let g : Greeted = record { epoch = epoch; last = 1; joined = None } in
    let d : Client = record c { sessions = map.insert c.sessions server g } in
    let here : ahead words d l next.Collect ≡ collect_ahead (Some g) (purpose_in (first_of c.waiting)) =
    ap (λ (s : ℕ). collect_ahead (map.get d.sessions s) (purpose_in (first_of c.waiting))) (sym at)
    ∙ ap (λ (o : Option Greeted). collect_ahead o (purpose_in (first_of c.waiting))) (put_got c.sessions server g) in
    ((λ h. let w = way h in (w.0 ∙ same_there words c d l w.2, w.1, w.2)), omega (arith, here))
greeted_collect words c server l at way (Some r) = (tt, omega arith)

own_collect : (words : WordMap) (s : Settings) (c : Client) (server : ℕ) (l : Line) → server ≡ waits_in (first_of c.waiting) → IsOnItsWay words c l next.Collect → (o : Option Greeted)
    → map.get c.sessions server ≡ o → (r : Option Reply)
    → Fewer (words_in_session words c server o l next.Collect r) l (collect_ahead o (purpose_in (first_of c.waiting))) (heard_own words s c server o l next.Collect r)
own_collect words s c server l at way None there r = greeted_collect words c server l at way r
own_collect words s c server l at way (Some g) there r =
    let h : Client × Next = answered words c (sending_in server g next.Collect s) l (asking_for g.joined c.trans l next.Collect) r in
    counted_fewer (words_answered words c server l (asking_for g.joined c.trans l next.Collect) r) l (0 + cond (is_part (purpose_in (first_of c.waiting))) 3 1) h.0 h.1 server (number_after g.last)
    (answered_collect words s c server g l there at way (asking_for g.joined c.trans l next.Collect) (asks_collect g.joined c.trans l) r)

-- ---- and so for each line

-- the frame that is kept has no part in it
keeps_fewer : (words : WordMap) (l : Line) (m : ℕ) (d : Client) (n : Next) (frame : Addressed) → Fewer words l m (d, n) → Fewer words l m (keeps d frame, n)
keeps_fewer words l m d next.Call frame h =
    let same : ahead words (keeps d frame) l next.Call ≡ ahead words d l next.Call = ap (λ (s : ℕ). call_ahead d l (map.get d.sessions s)) (same_server words (keeps d frame) d l refl refl refl) in
    (tt, omega (arith, h.1, same))
keeps_fewer words l m d next.Collect frame h = ((λ p. let w = h.0 p in (w.0 ∙ same_there words d (keeps d frame) l w.2, w.1, w.2)), h.1)
keeps_fewer words l m d next.TimeOut frame h = (tt, h.1)
keeps_fewer words l m d next.Over frame h = (tt, h.1)

sent_to : (server : ℕ) (o : Option Request) (frame : Addressed) → option_map (addressed server) o ≡ Some frame → frame.server ≡ server
sent_to server None frame h = cc
sent_to server (Some r) frame h = sym (ap (λ (f : Addressed). f.server) (same_Some (addressed server r) frame h))

call_some : (c : Client) (l : Line) (o : Option Greeted) → 0 < call_ahead c l o
call_some c l o = omega (arith, asked_some (asking_for (joined_at o) c.trans l next.Call))

collect_some : (o : Option Greeted) (p : Purpose) → 0 < collect_ahead o p
collect_some o p = omega (arith, one_few (is_part p))

-- a line that sends a frame has some ahead
sends_some : (words : WordMap) (k : ℕ) (c : Client) (l : Line) (n : Next) (frame : Addressed) → frame_next words k c l n ≡ Some frame → 0 < ahead words c l n
sends_some words k c l next.Call frame h = call_some c l (map.get c.sessions (server_for words c l))
sends_some words k c l next.Collect frame h = collect_some (map.get c.sessions (waits_in (first_of c.waiting))) (purpose_in (first_of c.waiting))
sends_some words k c l next.TimeOut frame h = cc
sends_some words k c l next.Over frame h = cc

-- the line has come to its collect
abbrev is_now : Next → Bool
is_now next.Collect = true
is_now n = false

heard_at : (words : WordMap) (s : Settings) (k : ℕ) (c : Client) (l : Line) (n : Next) (frame : Addressed) (r : Option Reply) → IsOnItsWay words c l n
    → (at : frame.server ≡ cond (is_now n) (waits_in (first_of c.waiting)) (server_for words c l)) → 0 < ahead words c l n
    → Fewer (words_in_session words c frame.server (map.get c.sessions frame.server) l n r) l (ahead words c l n) (heard_own words s c frame.server (map.get c.sessions frame.server) l n r)
heard_at words s k c l next.Call frame r way at some =
    subst (λ (m : ℕ). Fewer (words_in_session words c frame.server (map.get c.sessions frame.server) l next.Call r) l m (heard_own words s c frame.server (map.get c.sessions frame.server) l next.Call r))
    (ap (λ (s : ℕ). call_ahead c l (map.get c.sessions s)) at) (own_call words s c frame.server l at (map.get c.sessions frame.server) refl r)
heard_at words s k c l next.Collect frame r way at some =
    subst (λ (m : ℕ). Fewer (words_in_session words c frame.server (map.get c.sessions frame.server) l next.Collect r) l m (heard_own words s c frame.server (map.get c.sessions frame.server) l next.Collect r))
    (ap (λ (s : ℕ). collect_ahead (map.get c.sessions s) (purpose_in (first_of c.waiting))) at) (own_collect words s c frame.server l at way (map.get c.sessions frame.server) refl r)
heard_at words s k c l next.TimeOut frame r way at some = absurd (omega (arith, some))
heard_at words s k c l next.Over frame r way at some = absurd (omega (arith, some))

-- a frame of an own line goes where its call does, or its collect
goes_to : (words : WordMap) (k : ℕ) (c : Client) (l : Line) (n : Next) (frame : Addressed) → mark_of l ≡ mark.Own → frame_next words k c l n ≡ Some frame
    → frame.server ≡ cond (is_now n) (waits_in (first_of c.waiting)) (server_for words c l)
goes_to words k c (line.Repeat client) n frame own h = cc
goes_to words k c (line.Old client) n frame own h = cc
goes_to words k c (line.Raw client server bytes) n frame own h = cc
goes_to words k c l next.Call frame own h = sent_to (server_for words c l) (request_for words k c l) frame h
goes_to words k c l next.Collect frame own h = sent_to (waits_in (first_of c.waiting)) (request_for words k c (line.Collect k)) frame h
goes_to words k c l next.TimeOut frame own h = cc
goes_to words k c l next.Over frame own h = cc

-- each frame that a client sends for a line leaves fewer to send
pub heard_fewer : (words : WordMap) (s : Settings) (k : ℕ) (c : Client) (l : Line) (n : Next) (frame : Addressed) (r : Option Reply) → IsOnItsWay words c l n → frame_next words k c l n ≡ Some frame
    → Fewer (words_heard words c l n frame.server r) l (ahead words c l n) (heard words s c l n frame r)
heard_fewer words s k c (line.Repeat client) n frame r way h = (tt, sends_some words k c (line.Repeat client) n frame h)
heard_fewer words s k c (line.Old client) n frame r way h = (tt, sends_some words k c (line.Old client) n frame h)
heard_fewer words s k c (line.Raw client server bytes) n frame r way h = (tt, sends_some words k c (line.Raw client server bytes) n frame h)
heard_fewer words s k c l n frame r way h =
    keeps_fewer (words_in_session words c frame.server (map.get c.sessions frame.server) l n r) l (ahead words c l n)
    (heard_own words s c frame.server (map.get c.sessions frame.server) l n r).0 (heard_own words s c frame.server (map.get c.sessions frame.server) l n r).1 frame
    (heard_at words s k c l n frame r way (goes_to words k c l n frame refl h) (sends_some words k c l n frame h))

-- at its first frame a line has at most five ahead
pub first_few : (words : WordMap) (c : Client) (l : Line) → ahead words c l next.Call ≤ 5
first_few words c l = go (map.get c.sessions (server_for words c l))
  where
    go : (o : Option Greeted) → call_ahead c l o ≤ 5
    go None = omega (arith, asked_few (asking_for None c.trans l next.Call))
    go (Some g) = omega (arith, asked_few (asking_for g.joined c.trans l next.Call))

next_is : (c : Crowd) (k : ℕ) (l : Line) (n : Next) (frame : Addressed) → asks c k l n ≡ Some frame → frame_next c.words k (client_at c k) l n ≡ Some frame
next_is c k l next.Call frame h = h
next_is c k l next.Collect frame h = h
next_is c k l next.TimeOut frame h = h
next_is c k l next.Over frame h = h

-- the same of a client among others
pub hears_fewer : (c : Crowd) (k : ℕ) (l : Line) (n : Next) (frame : Addressed) (r : Option Reply) → k < length c.places → IsOnItsWay c.words (client_at c k) l n → asks c k l n ≡ Some frame
    → IsOnItsWay (hears c k l n frame r).0.words (client_at (hears c k l n frame r).0 k) l (hears c k l n frame r).1
    × (ahead (hears c k l n frame r).0.words (client_at (hears c k l n frame r).0 k) l (hears c k l n frame r).1 < ahead c.words (client_at c k) l n)
hears_fewer c k l n frame r within way asked =
    subst (λ (d : Client). Fewer (hears c k l n frame r).0.words l (ahead c.words (client_at c k) l n) (d, (hears c k l n frame r).1))
    (sym (at_same c (hears c k l n frame r).0.words k (heard c.words c.settings (client_at c k) l n frame r).0 within))
    (heard_fewer c.words c.settings k (client_at c k) l n frame r way (next_is c k l n frame asked))
