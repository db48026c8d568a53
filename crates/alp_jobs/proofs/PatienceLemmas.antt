-- the patience of a job
use Rattle.std.specs.Prelude.{Bool, true, false, ◌&&◌, ◌||◌, not, nat_le, ◌++◌, ◌^◌, max, min, cond, Option, None, Some, get_or, if◌then◌else◌}
use Rattle.std.specs.FinMap as map
use Rattle.std.specs.List.{list_any, AllByRecursion}
use Rattle.std.specs.Option.{option_map}
use Rattle.std.proofs.Common.{◌≡◌, ℕ, ◌+◌, ◌-◌, ◌<◌, ◌≤◌, List, [], ◌∷◌, length, refl, sym, ◌∙◌, ap, subst, arith, append_assoc, append-nil}
use Rattle.std.proofs.lemmas.Bool.{leb-true, leb-false}
use Rattle.alp_base.specs.declared.ids.TransId.{TransId}
use Rattle.alp_files.specs.declared.call.Call.{Call}
use Rattle.alp_files.specs.declared.call.Call.TheVariants as call
use Rattle.alp_files.specs.declared.reply.Reply.{Reply}
use Rattle.alp_files.specs.declared.reply.Reply.TheVariants as reply
use Rattle.alp_files.specs.declared.refusal.Refusal.{Refusal}
use Rattle.alp_files.specs.declared.refusal.Refusal.TheVariants as refusal
use Rattle.alp_journal.specs.declared.log.Item.{Item}
use Rattle.alp_journal.specs.declared.log.Mark.{Mark}
use Rattle.alp_journal.specs.declared.log.Mark.TheVariants as mark
use Rattle.alp_journal.specs.declared.log.Sent.{Sent}
use Rattle.alp_journal.specs.declared.log.Sent.TheVariants as sent
use Rattle.alp_lines.specs.declared.line.Line.{Line}
use Rattle.alp_lines.specs.declared.line.Line.TheVariants as line
use Rattle.alp_rpc.specs.declared.frame.Request.{Request}
use Rattle.alp_session.specs.Calls.{is_collect as collects, call_by, call_in, call_with, outcome_of, collect_of, server_for, needs_part, asking_of, asking_for, call_asked}
use Rattle.alp_session.specs.Clients.{new_client, first_of, is_joined}
use Rattle.alp_session.specs.Crowd.{Crowd}
use Rattle.alp_session.specs.Crowds.{client_at, with_client, request_next, asks, hears, at_line, times_out}
use Rattle.alp_session.specs.Frames.{request_in, request_for, request_of, frame_of, addressed, mark_of, IsOfFrame}
use Rattle.alp_session.specs.Heard.{awaiting, waiting_for, collects_by_itself, is_waiting_at, purpose_of, times_asked, one_more, asked_again, patient, patient_behind, waits_on as still_waits, greeted, joined_reply, goes_on, purpose_in, collected, called, answered, sending_in, heard_in, heard_own, heard, words_heard, words_at, begins, due_in, is_not_yet}
use Rattle.alp_session.specs.Maps.{WordMap}
use Rattle.alp_session.specs.declared.asking.Asking.{Asking}
use Rattle.alp_session.specs.declared.asking.Asking.TheVariants as asking
use Rattle.alp_session.specs.declared.asking.Sending.{Sending}
use Rattle.alp_session.specs.declared.client.Client.{Client}
use Rattle.alp_session.specs.declared.frames.Addressed.{Addressed}
use Rattle.alp_session.specs.declared.greeted.Greeted.{Greeted}
use Rattle.alp_session.specs.declared.waiting.Next.{Next}
use Rattle.alp_session.specs.declared.waiting.Next.TheVariants as next
use Rattle.alp_session.specs.declared.waiting.Purpose.{Purpose}
use Rattle.alp_session.specs.declared.waiting.Purpose.TheVariants as purpose
use Rattle.alp_session.specs.declared.waiting.Settings.{Settings}
use Rattle.alp_session.specs.declared.waiting.Waiting.{Waiting}
use Rattle.alp_session.proofs.CrowdLemmas.{at_same, as_many}
use Rattle.alp_jobs.specs.Deeds.{Deed, sends, gives_tick, gives_timeout, is_own, is_collecting, is_collect, is_to_wait, waits_on, is_refusing}
use Rattle.alp_jobs.specs.Does.{asked_at, tick_at, after_tick, after_reply, stage_after, IsAsked, DoesLine, DoesAll, EitherIf, DoesTransaction, DoesJob}
use Rattle.alp_jobs.specs.Patience.{most_of, is_greeting, is_hello, row_after, IsBelowIf, ArePatient, is_plain, ArePlain}
use Rattle.alp_jobs.specs.declared.stage.Stage.{Stage}
use Rattle.alp_jobs.specs.declared.stage.Stage.TheVariants as stage

no_way : true ≡ false → ⊥
no_way e = cc

-- ---- the call of a plain line is no collect

-- so is no call of these
abbrev IsPlainCall : Option Call → Type 0
IsPlainCall None = Unit {0}
IsPlainCall (Some c) = (is_collecting c ≡ false) × (is_greeting c ≡ false)

plain_in : (words : WordMap) (c : Client) (t : TransId) (l : Line) → is_plain l ≡ true → IsPlainCall (call_in words c t l)
plain_in words c t (line.OpenFile client file access mode choice) plain = (refl, refl)
plain_in words c t (line.Commit client) plain = (refl, refl)
plain_in words c t (line.Abort client) plain = (refl, refl)
plain_in words c t (line.WritePages client file run text choice) plain = (refl, refl)
plain_in words c t (line.ReadPages client file run mode choice) plain = (refl, refl)
plain_in words c t (line.LockPages client file run mode choice) plain = (refl, refl)
plain_in words c t (line.CloseFile client file) plain = (refl, refl)
plain_in words c t (line.DeleteFile client file choice) plain = (refl, refl)
plain_in words c t (line.SetSize client file size choice) plain = (refl, refl)
plain_in words c t (line.ReadProps client file) plain = (refl, refl)
plain_in words c t (line.WriteProps client file change choice) plain = (refl, refl)
plain_in words c t (line.MakeOwner client server owner quota create choice) plain = (refl, refl)
plain_in words c t (line.Create client server word owner size read modify choice) plain = (refl, refl)
plain_in words c t (line.ReadOwner client server owner choice) plain = (refl, refl)
plain_in words c t (line.SetQuota client server owner quota choice) plain = (refl, refl)
plain_in words c t l plain = tt

plain_with : (words : WordMap) (c : Client) (o : Option TransId) (l : Line) → is_plain l ≡ true → IsPlainCall (call_with words c o l)
plain_with words c None l plain = tt
plain_with words c (Some t) l plain = plain_in words c t l plain

plain_outcome : (o : Option TransId) → IsPlainCall (outcome_of o)
plain_outcome None = tt
plain_outcome (Some t) = (refl, refl)

plain_call : (words : WordMap) (c : Client) (l : Line) → is_plain l ≡ true → IsPlainCall (call_by words c l)
plain_call words c (line.Begin client server) plain = (refl, refl)
plain_call words c (line.Outcome client) plain = plain_outcome c.begun
plain_call words c (line.Collect client) plain = absurd (no_way (sym plain))
plain_call words c l plain = plain_with words c c.trans l plain

-- ---- what is sent for a line, and for a collect

both_asked : (q : Asking) (a : Call) → (is_collecting a ≡ false) × (is_greeting a ≡ false) → (is_collecting (call_asked q a) ≡ false) × (is_greeting (call_asked q a) ≡ false)
both_asked (asking.Join t) a plain = (refl, refl)
both_asked asking.Call a plain = plain
both_asked asking.Collect a plain = plain

-- in a session it is neither a collect nor a greeting, and before one it is a greeting
abbrev IsPlainSent : Option Greeted → Sent → Type 0
IsPlainSent None s = (is_collect s ≡ false) × (is_hello s ≡ true)
IsPlainSent (Some g) s = (is_collect s ≡ false) × (is_hello s ≡ false)

plain_sent : (k server : ℕ) (c : Client) (l : Line) (g : Option Greeted) (o : Option Call) (frame : Addressed) (s : Sent) → IsPlainCall o → option_map (addressed server) (option_map (request_in k c l g) o) ≡ Some frame → IsAsked (option_map (request_in k c l g) o) s → IsPlainSent g s
plain_sent k server c l g None frame s plain some is = absurd (let wrong : None ≡ Some frame = some in cc)
plain_sent k server c l None (Some a) frame s plain some is = (ap is_collect is, ap is_hello is)
plain_sent k server c l (Some g) (Some a) frame s plain some is =
    let both = both_asked (asking_for g.joined c.trans l next.Call) a plain in
    (ap is_collect is ∙ both.0, ap is_hello is ∙ both.1)

same_server : (server : ℕ) (r : Request) (frame : Addressed) → Some (addressed server r) ≡ Some frame → frame.server ≡ server
same_server server r frame e = ap (λ (f : Addressed). f.server) (sym (same (addressed server r) frame e))
  where
    same : (a b : Addressed) → Some a ≡ Some b → a ≡ b
    same a b e = cc

goes_to : (server : ℕ) (o : Option Request) (frame : Addressed) → option_map (addressed server) o ≡ Some frame → frame.server ≡ server
goes_to server None frame some = absurd (let wrong : None ≡ Some frame = some in cc)
goes_to server (Some r) frame some = same_server server r frame some

-- for a plain line, by the session at the server that its frame goes to
line_sent : (words : WordMap) (k : ℕ) (c : Client) (l : Line) (frame : Addressed) (s : Sent) → is_plain l ≡ true → frame_of words k c l ≡ Some frame → IsAsked (request_of words k c l) s → IsPlainSent (map.get c.sessions frame.server) s
line_sent words k c (line.Repeat client) frame s plain some is = absurd (no_way (sym plain))
line_sent words k c (line.Old client) frame s plain some is = absurd (no_way (sym plain))
line_sent words k c (line.Raw client server bytes) frame s plain some is = absurd (no_way (sym plain))
line_sent words k c (line.Collect client) frame s plain some is = absurd (no_way (sym plain))
line_sent words k c l frame s plain some is =
    subst (λ (n : ℕ). IsPlainSent (map.get c.sessions n) s) (sym (goes_to (server_for words c l) (request_for words k c l) frame some))
    (plain_sent k (server_for words c l) c l (map.get c.sessions (server_for words c l)) (call_by words c l) frame s (plain_call words c l plain) some is)

-- for a collect: it is one in a session, and before one it is a greeting
abbrev IsCollectSent : Option Greeted → Sent → Type 0
IsCollectSent None s = (is_collect s ≡ false) × (is_hello s ≡ true)
IsCollectSent (Some g) s = is_collect s ≡ true

abbrev IsSome : List Waiting → Type 0
IsSome [] = ⊥
IsSome (w ∷ ws) = Unit {0}

collect_by : (k server : ℕ) (c : Client) (g : Option Greeted) (ws : List Waiting) (frame : Addressed) (s : Sent) → option_map (addressed server) (option_map (request_in k c (line.Collect k) g) (collect_of (first_of ws))) ≡ Some frame
    → IsAsked (option_map (request_in k c (line.Collect k) g) (collect_of (first_of ws))) s → IsSome ws × IsCollectSent g s
collect_by k server c g [] frame s some is = absurd (let wrong : None ≡ Some frame = some in cc)
collect_by k server c None (w ∷ ws) frame s some is = (tt, (ap is_collect is, ap is_hello is))
collect_by k server c (Some g) (w ∷ ws) frame s some is = (tt, ap is_collect is)

collect_sent : (c : Crowd) (k : ℕ) (l : Line) (frame : Addressed) (s : Sent) → asks c k l next.Collect ≡ Some frame → IsAsked (request_next c k l next.Collect) s
    → IsSome (client_at c k).waiting × IsCollectSent (map.get (client_at c k).sessions frame.server) s
collect_sent c k l frame s some is =
    let d : Client = client_at c k in
    let to : frame.server ≡ server_for c.words d (line.Collect k) = goes_to (server_for c.words d (line.Collect k)) (request_for c.words k d (line.Collect k)) frame some in
    let h = collect_by k (server_for c.words d (line.Collect k)) d (map.get d.sessions (server_for c.words d (line.Collect k))) d.waiting frame s some is in
    (h.0, subst (λ (n : ℕ). IsCollectSent (map.get d.sessions n) s) (sym to) h.1)

-- ---- what is heard

-- the last call that came to wait was collected so often
abbrev HasAsked : ℕ → List Waiting → Type 0
HasAsked n [] = Unit {0}
HasAsked n (w ∷ ws) = w.asked ≡ n

-- what may come next, in a row of so many collects
abbrev IsNextRow : (p n : ℕ) → Next → List Waiting → Type 0
IsNextRow p n next.Call ws = Unit {0}
IsNextRow p n next.Collect ws = HasAsked n ws × (n < most_of p)
IsNextRow p n next.TimeOut ws = n ≡ most_of p
IsNextRow p n next.Over ws = Unit {0}

begins_low : (p : ℕ) → 0 < most_of p
begins_low p = omega arith

abbrev waits_so : Client → Sending → Purpose → (a b : Bool) → Client × Next
waits_so c q u a b = if a then (c, next.Over) else (record c { waiting = waiting_for q u ∷ c.waiting }, collects_by_itself b)

await_row : (p : ℕ) (c : Client) (q : Sending) (u : Purpose) → IsNextRow p 0 (awaiting c q u).1 (awaiting c q u).0.waiting
await_row p c q u = go (is_waiting_at c.waiting q.server) q.settings.collects
  where
    go : (a b : Bool) → IsNextRow p 0 (waits_so c q u a b).1 (waits_so c q u a b).0.waiting
    go true b = tt
    go false true = (refl, begins_low p)
    go false false = tt

called_row : (p : ℕ) (words : WordMap) (c : Client) (q : Sending) (l : Line) (r : Reply) → IsNextRow p 0 (called words c q l r).1 (called words c q l r).0.waiting
called_row p words c q l (reply.Refused refusal.NotYet) = await_row p c q (purpose_of words l)
called_row p words c q l r = tt

joined_row : (p : ℕ) (c : Client) (q : Sending) (t : TransId) (r : Reply) → IsNextRow p 0 (joined_reply c q t r).1 (joined_reply c q t r).0.waiting
joined_row p c q t reply.Joined = tt
joined_row p c q t (reply.Refused refusal.NotYet) = await_row p c q purpose.Part
joined_row p c q t r = tt

-- to a call or a join
plain_row : (p : ℕ) (words : WordMap) (c : Client) (q : Sending) (l : Line) (joined t : Option TransId) (r : Option Reply) → IsNextRow p 0 (answered words c q l (asking_of joined t l) r).1 (answered words c q l (asking_of joined t l) r).0.waiting
plain_row p words c q l joined t None = none (asking_of joined t l)
  where
    none : (a : Asking) → IsNextRow p 0 (answered words c q l a None).1 (answered words c q l a None).0.waiting
    none a = tt
plain_row p words c q l joined None (Some r) = called_row p words c q l r
plain_row p words c q l joined (Some t) (Some r) = go (needs_part l && not (is_joined joined t))
  where
    go : (b : Bool) → IsNextRow p 0 (answered words c q l (cond b (asking.Join t) asking.Call) (Some r)).1 (answered words c q l (cond b (asking.Join t) asking.Call) (Some r)).0.waiting
    go true = joined_row p c q t r
    go false = called_row p words c q l r

plain_asks : (joined t : Option TransId) (l : Line) → is_plain l ≡ true → asking_for joined t l next.Call ≡ asking_of joined t l
plain_asks joined t (line.Collect client) plain = absurd (no_way (sym plain))
plain_asks joined t l plain = refl

-- a greeting, or the reply to a call
greeted_row : (p n m : ℕ) (c : Client) (server : ℕ) (r : Option Reply) → IsNextRow p n (greeted c server next.Call r).1 (greeted c server next.Call r).0.waiting
greeted_row p n m c server None = tt
greeted_row p n m c server (Some (reply.Welcome epoch)) = tt
greeted_row p n m c server (Some r) = tt

-- the row of a plain line's frame, by the session that it is sent in
call_row : (p n : ℕ) (words : WordMap) (s : Settings) (c : Client) (server : ℕ) (g : Option Greeted) (l : Line) (r : Option Reply) (said : Sent) → is_plain l ≡ true → IsPlainSent g said
    → IsNextRow p (row_after false (is_hello said) n) (heard_own words s c server g l next.Call r).1 (heard_own words s c server g l next.Call r).0.waiting
call_row p n words s c server None l r said plain is = greeted_row p (row_after false (is_hello said) n) 0 c server r
call_row p n words s c server (Some g) l r said plain is =
    subst (λ (b : Bool). IsNextRow p (row_after false b n) (heard_own words s c server (Some g) l next.Call r).1 (heard_own words s c server (Some g) l next.Call r).0.waiting) (sym is.1)
    (subst (λ (a : Asking). IsNextRow p 0 (answered words c (sending_in server g next.Call s) l a r).1 (answered words c (sending_in server g next.Call s) l a r).0.waiting) (sym (plain_asks g.joined c.trans l plain)) (plain_row p words c (sending_in server g next.Call s) l g.joined c.trans r))

-- ---- collects

greeted_again : (p n : ℕ) (c : Client) (server : ℕ) (r : Option Reply) → IsNextRow p n next.Collect c.waiting → IsNextRow p n (greeted c server next.Collect r).1 (greeted c server next.Collect r).0.waiting
greeted_again p n c server None row = tt
greeted_again p n c server (Some (reply.Welcome epoch)) row = row
greeted_again p n c server (Some r) row = tt

-- the call waits on
abbrev IsTickRow : (p n : ℕ) → Next → List Waiting → Type 0
IsTickRow p n m ws = IsNextRow p n (after_tick (stage.Asking next.Collect) m) ws

one_below : (p n : ℕ) → n < most_of p → p < 2 ^ 32 → min (n + 1) (2 ^ 32 - 1) ≡ n + 1
one_below p n low small = omega (arith, low, small)

waits_row : (p n : ℕ) (s : Settings) (w : Waiting) (ws : List Waiting) → s.patience ≡ p → p < 2 ^ 32 → w.asked ≡ n → n < most_of p → IsTickRow p (n + 1) (patient_behind s (times_asked (w ∷ ws))) (one_more (w ∷ ws))
waits_row p n s w ws patience small asked low =
    let count : (asked_again w).asked ≡ n + 1 = ap (λ (m : ℕ). min (m + 1) (2 ^ 32 - 1)) asked ∙ one_below p n low small in
    subst (λ (q : ℕ). IsTickRow p (n + 1) (patient (record s { patience = q }) (asked_again w).asked) (one_more (w ∷ ws))) (sym patience)
    (go (nat_le p (asked_again w).asked) refl count)
  where
    go : (b : Bool) → nat_le p (asked_again w).asked ≡ b → (asked_again w).asked ≡ n + 1 → IsTickRow p (n + 1) (cond b next.TimeOut next.Over) (one_more (w ∷ ws))
    go true is count = (let up : p ≤ (asked_again w).asked = leb-true p (asked_again w).asked is in omega (arith, up, count, low))
    go false is count = (count, (let up : (asked_again w).asked < p = leb-false p (asked_again w).asked is in omega (arith, up, count)))

-- a stage in a row of so many collects, or behind a Timeout
abbrev IsRow : (p : ℕ) → Option ℕ → Stage → List Waiting → Type 0
IsRow p (Some n) stage.Coming ws = ⊥
IsRow p (Some n) (stage.Asking m) ws = IsNextRow p n m ws
IsRow p (Some n) (stage.Ticking server m) ws = IsNextRow p n m ws
IsRow p (Some n) stage.Last ws = ⊥
IsRow p None stage.Coming ws = ⊥
IsRow p None (stage.Asking m) ws = ⊥
IsRow p None (stage.Ticking server m) ws = ⊥
IsRow p None stage.Last ws = IsSome ws

-- another answer to a collect
quiet_on : (p n : ℕ) (u : Purpose) (r : Reply) (ws : List Waiting) → IsNextRow p n (goes_on u r next.Collect) ws
quiet_on p n purpose.Part reply.Joined ws = tt
quiet_on p n u r ws = tt

-- after an item that is no collect that waits
quiet_after : (p n : ℕ) (s : Stage) (x : Item) (m : Next) (ws : List Waiting) → waits_on x ≡ false → IsNextRow p (row_after false (is_hello x.sent) n) (after_reply s m) ws → IsBelowIf (waits_on x) n (most_of p) × IsRow p (Some (row_after (waits_on x) (is_hello x.sent) n)) (stage_after s x m) ws
quiet_after p n s x m ws quiet row =
    subst (λ (b : Bool). IsBelowIf b n (most_of p) × IsRow p (Some (row_after b (is_hello x.sent) n)) (cond b (stage.Ticking x.server (after_tick s m)) (stage.Asking (after_reply s m))) ws) (sym quiet) (tt, row)

-- after one
waiting_after : (p n : ℕ) (s : Stage) (x : Item) (m : Next) (ws : List Waiting) → waits_on x ≡ true → n < most_of p → IsNextRow p (n + 1) (after_tick s m) ws → IsBelowIf (waits_on x) n (most_of p) × IsRow p (Some (row_after (waits_on x) (is_hello x.sent) n)) (stage_after s x m) ws
waiting_after p n s x m ws waits low row =
    subst (λ (b : Bool). IsBelowIf b n (most_of p) × IsRow p (Some (row_after b (is_hello x.sent) n)) (cond b (stage.Ticking x.server (after_tick s m)) (stage.Asking (after_reply s m))) ws) (sym waits) (low, row)

no_collect : (a b c : Bool) → b ≡ false → ((a && b) && c) ≡ false
no_collect a b c is = ap (λ (x : Bool). (a && x) && c) is ∙ go a
  where
    go : (x : Bool) → ((x && false) && c) ≡ false
    go true = refl
    go false = refl

no_wait : (a b c : Bool) → c ≡ false → ((a && b) && c) ≡ false
no_wait a b c is = ap (λ (x : Bool). (a && b) && x) is ∙ go (a && b)
  where
    go : (x : Bool) → (x && false) ≡ false
    go true = refl
    go false = refl

-- a client's own frame to a server, as it is marked
own_mark : (l : Line) → is_plain l ≡ true → mark_of l ≡ mark.Own
own_mark (line.Repeat client) plain = absurd (no_way (sym plain))
own_mark (line.Old client) plain = absurd (no_way (sym plain))
own_mark (line.Raw client server bytes) plain = absurd (no_way (sym plain))
own_mark l plain = refl

-- what a plain line's client knows behind its reply
own_heard : (words : WordMap) (s : Settings) (c : Client) (l : Line) (n : Next) (frame : Addressed) (r : Option Reply) → is_plain l ≡ true
    → ((heard words s c l n frame r).1 ≡ (heard_own words s c frame.server (map.get c.sessions frame.server) l n r).1) × ((heard words s c l n frame r).0.waiting ≡ (heard_own words s c frame.server (map.get c.sessions frame.server) l n r).0.waiting)
own_heard words s c (line.Repeat client) n frame r plain = absurd (no_way (sym plain))
own_heard words s c (line.Old client) n frame r plain = absurd (no_way (sym plain))
own_heard words s c (line.Raw client server bytes) n frame r plain = absurd (no_way (sym plain))
own_heard words s c l n frame r plain = (refl, refl)

-- the row behind a collect, or behind the greeting before it
module _ (p n : ℕ) (words : WordMap) (s : Settings) (c : Client) (server : ℕ) (l : Line) (x : Item) (patience : s.patience ≡ p) (small : p < 2 ^ 32) (own : x.mark ≡ mark.Own) (low : n < most_of p) where
  abbrev Behind : Client × Next → Type 0
  Behind h = IsBelowIf (waits_on x) n (most_of p) × IsRow p (Some (row_after (waits_on x) (is_hello x.sent) n)) (stage_after (stage.Asking next.Collect) x h.1) h.0.waiting

  hello_row : (r : Option Reply) → is_collect x.sent ≡ false → is_hello x.sent ≡ true → HasAsked n c.waiting → Behind (greeted c server next.Collect r)
  hello_row r none hello asked =
      quiet_after p n (stage.Asking next.Collect) x (greeted c server next.Collect r).1 (greeted c server next.Collect r).0.waiting (no_collect (is_own x.mark) (is_collect x.sent) (is_to_wait x.reply) none)
      (subst (λ (b : Bool). IsNextRow p (row_after false b n) (after_reply (stage.Asking next.Collect) (greeted c server next.Collect r).1) (greeted c server next.Collect r).0.waiting) (sym hello)
      (greeted_again p n c server r (asked, low)))

  session_row : (q : Sending) (r : Option Reply) → q.next ≡ next.Collect → q.settings ≡ s → x.reply ≡ r → is_collect x.sent ≡ true → (ws : List Waiting) → c.waiting ≡ ws → IsSome ws → HasAsked n ws → Behind (answered words c q l asking.Collect r)
  session_row q None comes set said collect ws waiting some asked =
      quiet_after p n (stage.Asking next.Collect) x next.Over c.waiting (no_wait (is_own x.mark) (is_collect x.sent) (is_to_wait x.reply) (ap is_to_wait said)) tt
  session_row q (Some (reply.Refused refusal.NotYet)) comes set said collect [] waiting some asked = absurd some
  session_row q (Some (reply.Refused refusal.NotYet)) comes set said collect (w ∷ ws) waiting some asked =
      waiting_after p n (stage.Asking next.Collect) x (still_waits q.settings c).1 (still_waits q.settings c).0.waiting (λ i. (is_own (own i) && collect i) && is_to_wait (said i)) low
      (subst (λ (t : Settings). IsTickRow p (n + 1) (patient_behind t (times_asked c.waiting)) (one_more c.waiting)) (sym set)
      (subst (λ (vs : List Waiting). IsTickRow p (n + 1) (patient_behind s (times_asked vs)) (one_more vs)) (sym waiting) (waits_row p n s w ws patience small asked low)))
  session_row q (Some r) comes set said collect ws waiting some asked =
      quiet_after p n (stage.Asking next.Collect) x (collected c q l r).1 (collected c q l r).0.waiting (no_wait (is_own x.mark) (is_collect x.sent) (is_to_wait x.reply) (ap is_to_wait said))
      (subst (λ (m : Next). IsNextRow p (row_after false (is_hello x.sent) n) (goes_on (purpose_in (first_of c.waiting)) r m) (collected c q l r).0.waiting) (sym comes)
      (quiet_on p (row_after false (is_hello x.sent) n) (purpose_in (first_of c.waiting)) r (collected c q l r).0.waiting))

  collect_row : (g : Option Greeted) (r : Option Reply) → x.reply ≡ r → IsCollectSent g x.sent → IsSome c.waiting → HasAsked n c.waiting → Behind (heard_own words s c server g l next.Collect r)
  collect_row None r said is some asked = hello_row r is.0 is.1 asked
  collect_row (Some g) r said is some asked = session_row (sending_in server g next.Collect s) r refl refl said is c.waiting refl some asked

-- ---- a line

no_frame : (frame : Addressed) → ◌≡◌ {A = Option Addressed} None (Some frame) → ⊥
no_frame frame e = cc

no_due : (due : ℕ × TransId) → ◌≡◌ {A = Option (ℕ × TransId)} None (Some due) → ⊥
no_due due e = cc

no_tick : (t : ℕ × Next) → ◌≡◌ {A = Option (ℕ × Next)} None (Some t) → ⊥
no_tick t e = cc

same_tick : (a b : ℕ) (m n : Next) → ◌≡◌ {A = Option (ℕ × Next)} (Some (a, m)) (Some (b, n)) → m ≡ n
same_tick a b m n e = (let ends : ◌≡◌ {A = Option Next} (Some m) (Some n) = ap (λ (o : Option (ℕ × Next)). option_map (λ (t : ℕ × Next). t.1) o) e in cc)

due_some : (c : Crowd) (k : ℕ) (due : ℕ × TransId) → times_out c k next.TimeOut ≡ Some due → IsSome (client_at c k).waiting
due_some c k due is = go (client_at c k).waiting is
  where
    go : (ws : List Waiting) → due_in (first_of ws) (client_at c k).trans ≡ Some due → IsSome ws
    go [] e = absurd (no_due due e)
    go (w ∷ ws) e = tt

-- whoever has a call that waits has a collect to send
some_asks : (c : Crowd) (k : ℕ) (l : Line) → IsSome (client_at c k).waiting → asks c k l next.Collect ≡ None → ⊥
some_asks c k l some none = go (client_at c k).waiting some none
  where
    go : (ws : List Waiting) → IsSome ws → option_map (addressed (server_for c.words (client_at c k) (line.Collect k))) (option_map (request_in k (client_at c k) (line.Collect k) (map.get (client_at c k).sessions (server_for c.words (client_at c k) (line.Collect k)))) (collect_of (first_of ws))) ≡ None → ⊥
    go [] has e = has
    go (w ∷ ws) has e = (let wrong : Some (addressed (server_for c.words (client_at c k) (line.Collect k)) (request_in k (client_at c k) (line.Collect k) (map.get (client_at c k).sessions (server_for c.words (client_at c k) (line.Collect k))) (call.Collect w.number))) ≡ None = e in cc)

last_row : (p : ℕ) (x : Item) (m : Next) (ws : List Waiting) → IsRow p (Some 0) (stage_after stage.Last x m) ws
last_row p x m ws = go (waits_on x) m
  where
    go : (b : Bool) (n : Next) → IsRow p (Some 0) (cond b (stage.Ticking x.server (after_tick stage.Last n)) (stage.Asking (after_reply stage.Last n))) ws
    go true n = tt
    go false next.Call = tt
    go false next.Collect = tt
    go false next.TimeOut = tt
    go false next.Over = tt

module _ (p k : ℕ) (small : p < 2 ^ 32) where
  -- the clients of a job, one of whom it is
  record IsOfPatience (c : Crowd) : Type 0 where
    patience : c.settings.patience ≡ p
    within : k < length c.places

  abbrev waiting_in : Crowd → List Waiting
  waiting_in c = (client_at c k).waiting

  stays_of : (c : Crowd) (words : WordMap) (d : Client) → IsOfPatience c → IsOfPatience (with_client c words k d)
  stays_of c words d of = record { patience = of.patience; within = (let same : length (with_client c words k d).places ≡ length c.places = as_many c words k d in let low : k < length c.places = of.within in omega (arith, same, low)) }

  -- what a client that hears a reply knows then
  module _ (l : Line) (plain : is_plain l ≡ true) (c : Crowd) (of : IsOfPatience c) (frame : Addressed) (x : Item) (of_frame : IsOfFrame l frame x) where
    abbrev knows : Next → Client × Next
    knows n = heard c.words c.settings (client_at c k) l n frame x.reply

    waiting_now : (n : Next) → waiting_in (hears c k l n frame x.reply).0 ≡ (knows n).0.waiting
    waiting_now n = ap (λ (d : Client). d.waiting) (at_same c (words_heard c.words (client_at c k) l n frame.server x.reply) k (knows n).0 of.within)

    abbrev IsBehind : ℕ → Next → Type 0
    IsBehind n m = IsBelowIf (waits_on x) n (most_of p) × IsRow p (Some (row_after (waits_on x) (is_hello x.sent) n)) (stage_after (stage.Asking m) x (hears c k l m frame x.reply).1) (waiting_in (hears c k l m frame x.reply).0)

    own : x.mark ≡ mark.Own
    own = of_frame.mark ∙ own_mark l plain

    after_call : (n : ℕ) → asks c k l next.Call ≡ Some frame → IsAsked (request_next c k l next.Call) x.sent → IsBehind n next.Call
    after_call n asked is =
        let d : Client = client_at c k in
        let g : Option Greeted = map.get d.sessions frame.server in
        let said : IsPlainSent g x.sent = line_sent c.words k d l frame x.sent plain asked is in
        let both = own_heard c.words c.settings d l next.Call frame x.reply plain in
        let row : IsNextRow p (row_after false (is_hello x.sent) n) (heard_own c.words c.settings d frame.server g l next.Call x.reply).1 (heard_own c.words c.settings d frame.server g l next.Call x.reply).0.waiting = call_row p n c.words c.settings d frame.server g l x.reply x.sent plain said in
        let now : IsNextRow p (row_after false (is_hello x.sent) n) (knows next.Call).1 (waiting_in (hears c k l next.Call frame x.reply).0) =
        subst (λ (y : Next × List Waiting). IsNextRow p (row_after false (is_hello x.sent) n) y.0 y.1) (λ i. (sym both.0 i, (sym both.1 ∙ sym (waiting_now next.Call)) i)) row in
        quiet_after p n (stage.Asking next.Call) x (knows next.Call).1 (waiting_in (hears c k l next.Call frame x.reply).0) (no_collect (is_own x.mark) (is_collect x.sent) (is_to_wait x.reply) (none g said)) now
      where
        none : (g : Option Greeted) → IsPlainSent g x.sent → is_collect x.sent ≡ false
        none None said = said.0
        none (Some g) said = said.0

    after_collect : (n : ℕ) → n < most_of p → HasAsked n (waiting_in c) → asks c k l next.Collect ≡ Some frame → IsAsked (request_next c k l next.Collect) x.sent → IsBehind n next.Collect
    after_collect n low count asked is =
        let d : Client = client_at c k in
        let g : Option Greeted = map.get d.sessions frame.server in
        let said = collect_sent c k l frame x.sent asked is in
        let both = own_heard c.words c.settings d l next.Collect frame x.reply plain in
        subst (λ (y : Next × List Waiting). IsBelowIf (waits_on x) n (most_of p) × IsRow p (Some (row_after (waits_on x) (is_hello x.sent) n)) (stage_after (stage.Asking next.Collect) x y.0) y.1) (λ i. (sym both.0 i, (sym both.1 ∙ sym (waiting_now next.Collect)) i))
        (collect_row p n c.words c.settings d frame.server l x of.patience small own low g x.reply refl said.1 said.0 count)

  -- the deeds of a line, and those that come behind it in whichever row
  line_patient : (l : Line) → is_plain l ≡ true → (row : Option ℕ) (s : Stage) (c : Crowd) (ds es : List Deed) (d : Crowd) → IsOfPatience c → IsRow p row s (waiting_in c) → DoesLine k l s c ds d → ((m : ℕ) → ArePatient p (Some m) es) → ArePatient p row (ds ++ es) × IsOfPatience d
  line_patient l plain (Some n) s c [] es d of is does more = (more n, subst IsOfPatience (sym does.1) of)
  line_patient l plain None stage.Last c [] es d of is does more = absurd (some_asks c k l is does.0.asked)
  line_patient l plain None stage.Coming c [] es d of is does more = absurd is
  line_patient l plain None (stage.Asking m) c [] es d of is does more = absurd is
  line_patient l plain None (stage.Ticking server m) c [] es d of is does more = absurd is
  line_patient l plain (Some n) (stage.Asking next.Call) c (sends x ∷ ds) es d of is does more =
      let h = after_call l plain c of does.0 x does.2 n does.1 does.3 in
      let rest = line_patient l plain (Some (row_after (waits_on x) (is_hello x.sent) n)) (stage_after (stage.Asking next.Call) x (hears c k l next.Call does.0 x.reply).1) (hears c k l next.Call does.0 x.reply).0 ds es d
      (stays_of c (words_heard c.words (client_at c k) l next.Call does.0.server x.reply) (heard c.words c.settings (client_at c k) l next.Call does.0 x.reply).0 of) h.1 does.4 more in
      ((h.0, rest.0), rest.1)
  line_patient l plain (Some n) (stage.Asking next.Collect) c (sends x ∷ ds) es d of is does more =
      let h = after_collect l plain c of does.0 x does.2 n is.1 is.0 does.1 does.3 in
      let rest = line_patient l plain (Some (row_after (waits_on x) (is_hello x.sent) n)) (stage_after (stage.Asking next.Collect) x (hears c k l next.Collect does.0 x.reply).1) (hears c k l next.Collect does.0 x.reply).0 ds es d
      (stays_of c (words_heard c.words (client_at c k) l next.Collect does.0.server x.reply) (heard c.words c.settings (client_at c k) l next.Collect does.0 x.reply).0 of) h.1 does.4 more in
      ((h.0, rest.0), rest.1)
  line_patient l plain (Some n) (stage.Asking next.TimeOut) c (sends x ∷ ds) es d of is does more = absurd (no_frame does.0 does.1)
  line_patient l plain (Some n) (stage.Asking next.Over) c (sends x ∷ ds) es d of is does more = absurd (no_frame does.0 does.1)
  line_patient l plain (Some n) (stage.Ticking server m) c (sends x ∷ ds) es d of is does more = absurd (no_frame does.0 does.1)
  line_patient l plain (Some n) stage.Coming c (sends x ∷ ds) es d of is does more = absurd is
  line_patient l plain (Some n) stage.Last c (sends x ∷ ds) es d of is does more = absurd is
  line_patient l plain None stage.Last c (sends x ∷ ds) es d of is does more =
      line_patient l plain (Some 0) (stage_after stage.Last x (hears c k l next.Collect does.0 x.reply).1) (hears c k l next.Collect does.0 x.reply).0 ds es d
      (stays_of c (words_heard c.words (client_at c k) l next.Collect does.0.server x.reply) (heard c.words c.settings (client_at c k) l next.Collect does.0 x.reply).0 of)
      (last_row p x (hears c k l next.Collect does.0 x.reply).1 (waiting_in (hears c k l next.Collect does.0 x.reply).0)) does.4 more
  line_patient l plain None stage.Coming c (sends x ∷ ds) es d of is does more = absurd is
  line_patient l plain None (stage.Asking m) c (sends x ∷ ds) es d of is does more = absurd is
  line_patient l plain None (stage.Ticking server m) c (sends x ∷ ds) es d of is does more = absurd is
  line_patient l plain (Some n) (stage.Ticking there m) c (gives_tick server ∷ ds) es d of is does more =
      line_patient l plain (Some n) (stage.Asking does.0) c ds es d of (subst (λ (a : Next). IsNextRow p n a (waiting_in c)) (same_tick there server m does.0 does.1) is) does.2 more
  line_patient l plain (Some n) (stage.Asking m) c (gives_tick server ∷ ds) es d of is does more = absurd (no_tick (server, does.0) does.1)
  line_patient l plain (Some n) stage.Coming c (gives_tick server ∷ ds) es d of is does more = absurd is
  line_patient l plain (Some n) stage.Last c (gives_tick server ∷ ds) es d of is does more = absurd is
  line_patient l plain None stage.Last c (gives_tick server ∷ ds) es d of is does more = absurd (no_tick (server, does.0) does.1)
  line_patient l plain None stage.Coming c (gives_tick server ∷ ds) es d of is does more = absurd is
  line_patient l plain None (stage.Asking m) c (gives_tick server ∷ ds) es d of is does more = absurd is
  line_patient l plain None (stage.Ticking there m) c (gives_tick server ∷ ds) es d of is does more = absurd is
  line_patient l plain (Some n) (stage.Asking next.TimeOut) c (gives_timeout server t ∷ ds) es d of is does more =
      let rest = line_patient l plain None stage.Last c ds es d of (due_some c k (server, t) does.0) does.1 more in
      ((is, rest.0), rest.1)
  line_patient l plain (Some n) (stage.Asking next.Call) c (gives_timeout server t ∷ ds) es d of is does more = absurd (no_due (server, t) does.0)
  line_patient l plain (Some n) (stage.Asking next.Collect) c (gives_timeout server t ∷ ds) es d of is does more = absurd (no_due (server, t) does.0)
  line_patient l plain (Some n) (stage.Asking next.Over) c (gives_timeout server t ∷ ds) es d of is does more = absurd (no_due (server, t) does.0)
  line_patient l plain (Some n) (stage.Ticking there m) c (gives_timeout server t ∷ ds) es d of is does more = absurd (no_due (server, t) does.0)
  line_patient l plain (Some n) stage.Coming c (gives_timeout server t ∷ ds) es d of is does more = absurd is
  line_patient l plain (Some n) stage.Last c (gives_timeout server t ∷ ds) es d of is does more = absurd is
  line_patient l plain None stage.Last c (gives_timeout server t ∷ ds) es d of is does more = absurd (no_due (server, t) does.0)
  line_patient l plain None stage.Coming c (gives_timeout server t ∷ ds) es d of is does more = absurd is
  line_patient l plain None (stage.Asking m) c (gives_timeout server t ∷ ds) es d of is does more = absurd is
  line_patient l plain None (stage.Ticking there m) c (gives_timeout server t ∷ ds) es d of is does more = absurd is

  -- all of a line, of a transaction, and of a job, in whichever row
  abbrev IsPatientAll : List Deed → List Deed → Crowd → Type 0
  IsPatientAll ds es d = ((m : ℕ) → ArePatient p (Some m) (ds ++ es)) × IsOfPatience d

  whole_line : (l : Line) → is_plain l ≡ true → (c : Crowd) (ds es : List Deed) (d : Crowd) → IsOfPatience c → DoesAll k l c ds d → ((m : ℕ) → ArePatient p (Some m) es) → IsPatientAll ds es d
  whole_line l plain c ds es d of does more =
      let begun : IsOfPatience (at_line c k l) = stays_of c (words_at c.words l) (begins (client_at c k) l) of in
      ((λ m. (line_patient l plain (Some m) (stage.Asking next.Call) (at_line c k l) ds es d begun tt does more).0), (line_patient l plain (Some 0) (stage.Asking next.Call) (at_line c k l) ds es d begun tt does more).1)

  both : (own others es : List Deed) → ((m : ℕ) → ArePatient p (Some m) (own ++ (others ++ es))) → (m : ℕ) → ArePatient p (Some m) ((own ++ others) ++ es)
  both own others es all m = subst (ArePatient p (Some m)) (sym (append_assoc own others es)) (all m)

  whole_transaction : (ls : List Line) → AllByRecursion (λ (l : Line). is_plain l ≡ true) ls → (c : Crowd) (ds es : List Deed) (d : Crowd) → IsOfPatience c → DoesTransaction k ls c ds d → ((m : ℕ) → ArePatient p (Some m) es) → IsPatientAll ds es d
  whole_transaction [] plain c ds es d of does more = ((λ m. subst (λ (xs : List Deed). ArePatient p (Some m) (xs ++ es)) (sym does.0) (more m)), subst IsOfPatience (sym does.1) of)
  whole_transaction (l ∷ ls) plain c ds es d of does more =
      let mid : IsOfPatience does.2 = (whole_line l plain.0 c does.0 [] does.2 of does.4 (λ m. tt)).1 in
      let others = either (list_any is_refusing does.0) mid (λ kept. whole_transaction ls plain.1 does.2 does.1 es d mid kept more) does.5 in
      let own = whole_line l plain.0 c does.0 (does.1 ++ es) does.2 of does.4 others.0 in
      ((λ m. subst (λ (xs : List Deed). ArePatient p (Some m) (xs ++ es)) (sym does.3) (both does.0 does.1 es own.0 m)), others.1)
    where
      either : (b : Bool) → IsOfPatience does.2 → (DoesTransaction k ls does.2 does.1 d → IsPatientAll does.1 es d) → EitherIf b (DoesAll k (line.Abort k) does.2 does.1 d) (DoesTransaction k ls does.2 does.1 d) → IsPatientAll does.1 es d
      either true mid goes given = whole_line (line.Abort k) refl does.2 does.1 es d mid given more
      either false mid goes kept = goes kept

  whole_job : (ts : List (List Line)) → ArePlain ts → (c : Crowd) (ds es : List Deed) (d : Crowd) → IsOfPatience c → DoesJob k ts c ds d → ((m : ℕ) → ArePatient p (Some m) es) → IsPatientAll ds es d
  whole_job [] plain c ds es d of does more = ((λ m. subst (λ (xs : List Deed). ArePatient p (Some m) (xs ++ es)) (sym does.0) (more m)), subst IsOfPatience (sym does.1) of)
  whole_job (ls ∷ ts) plain c ds es d of does more =
      let mid : IsOfPatience does.2 = (whole_transaction ls plain.0 c does.0 [] does.2 of does.4 (λ m. tt)).1 in
      let others = whole_job ts plain.1 does.2 does.1 es d mid does.5 more in
      let own = whole_transaction ls plain.0 c does.0 (does.1 ++ es) does.2 of does.4 others.0 in
      ((λ m. subst (λ (xs : List Deed). ArePatient p (Some m) (xs ++ es)) (sym does.3) (both does.0 does.1 es own.0 m)), others.1)

pub job_patient : (k : ℕ) (ts : List (List Line)) (c d : Crowd) (ds : List Deed) → DoesJob k ts c ds d → ArePlain ts → k < length c.places → c.settings.patience < 2 ^ 32 → ArePatient c.settings.patience (Some 0) ds
job_patient k ts c d ds does plain within small =
    subst (ArePatient c.settings.patience (Some 0)) (append-nil ds) ((whole_job c.settings.patience k small ts plain c ds [] d (record { patience = refl; within = within }) does (λ m. tt)).0 0)
