-- the servers that clients speak of stay those of the run
use Rattle.std.specs.Prelude.{Bool, true, false, cond, ◌∷◌, Option, None, Some, IsSome, IfSome}
use Rattle.std.specs.Option.{option_map}
use Rattle.std.specs.List.{AllByRecursion}
use Rattle.std.specs.FinMap as map
use Rattle.std.specs.FinMap.{get-insert}
use Rattle.std.specs.Ordering.{eq_by_cmp}
use Rattle.std.proofs.Common.{◌≡◌, ℕ, suc, zero, ◌≤◌, List, [], get_or, slice_set, replicate, refl, sym, ap, subst, arith}
use Rattle.std.proofs.lemmas.Option.{same_Some}
use Rattle.alp_base.specs.declared.ids.FileId.{FileId}
use Rattle.alp_base.specs.declared.ids.TransId.{TransId}
use Rattle.alp_files.specs.declared.call.Call.{Call}
use Rattle.alp_files.specs.declared.reply.Reply.{Reply}
use Rattle.alp_files.specs.declared.reply.Reply.TheVariants as reply
use Rattle.alp_files.specs.declared.reply.Ended.{Ended}
use Rattle.alp_files.specs.declared.reply.Ended.TheVariants as ended_as
use Rattle.alp_files.specs.declared.refusal.Refusal.{Refusal}
use Rattle.alp_files.specs.declared.refusal.Refusal.TheVariants as refusal
use Rattle.alp_lines.specs.declared.line.FileWord.{FileWord}
use Rattle.alp_lines.specs.declared.line.FileWord.TheVariants as file_word
use Rattle.alp_lines.specs.declared.line.Line.{Line}
use Rattle.alp_lines.specs.declared.line.Line.TheVariants as line
use Rattle.alp_rpc.specs.declared.frame.Request.{Request}
use Rattle.alp_session.specs.Maps.{WordMap, name_cmp}
use Rattle.alp_session.specs.Clients.{no_file, new_client, meant, is_awaited, file_of, first_of}
use Rattle.alp_session.specs.Calls.{call_in, call_with, call_by, home_of, waits_in, collect_of, outcome_of, server_for, asking_for}
use Rattle.alp_session.specs.Frames.{request_in, request_for, addressed, frame_of}
use Rattle.alp_session.specs.Heard.{left, told_refusal, told_only, started, created, opened, told_end, learned_reply, greeted, is_waiting_at, waiting_for, collects_by_itself, purpose_of, awaiting, called, joined_reply, is_part, part_known, joined_late, opened_late, late_reply, collected_reply, purpose_in, others, without_last, one_more, collected, answered, sending_in, heard_own, heard_again, keeps, heard, begins, bound, words_awaiting, words_called, words_late, words_late_told, words_answered, words_in_session, words_heard, words_at}
use Rattle.alp_session.specs.Ahead.{frame_next}
use Rattle.alp_session.specs.Ours.{IsServer, BeganThere, GoesThere, WaitsThere, AreWordsOf, IsClientOf, IsCrowdOf, GivesOf, IsFileOf, SpeaksOf}
use Rattle.alp_session.specs.Crowd.{Crowd}
use Rattle.alp_session.specs.Crowds.{new_crowd, client_at, asks, hears, at_line, declares, with_client}
use Rattle.alp_session.specs.declared.asking.Asking.{Asking}
use Rattle.alp_session.specs.declared.asking.Asking.TheVariants as asking
use Rattle.alp_session.specs.declared.asking.Sending.{Sending}
use Rattle.alp_session.specs.declared.client.Client.{Client}
use Rattle.alp_session.specs.declared.frames.Addressed.{Addressed}
use Rattle.alp_session.specs.declared.greeted.Greeted.{Greeted}
use Rattle.alp_session.specs.declared.meaning.Meaning.{Meaning}
use Rattle.alp_session.specs.declared.meaning.Meaning.TheVariants as meaning
use Rattle.alp_session.specs.declared.waiting.Next.{Next}
use Rattle.alp_session.specs.declared.waiting.Next.TheVariants as next
use Rattle.alp_session.specs.declared.waiting.Purpose.{Purpose}
use Rattle.alp_session.specs.declared.waiting.Purpose.TheVariants as purpose
use Rattle.alp_session.specs.declared.waiting.Settings.{Settings}
use Rattle.alp_session.specs.declared.waiting.Waiting.{Waiting}
use Rattle.alp_session.proofs.MapLemmas.{nat_list_cmp_total}

-- ---- where frames go

there_of : (n : ℕ) (o : Option TransId) → IfSome o (BeganThere n) → IsSome o → IsServer n (home_of o)
there_of n None ours some = cc
there_of n (Some t) ours some = ours

waits_there : (n : ℕ) (ws : List Waiting) → AllByRecursion (WaitsThere n) ws → IsSome (first_of ws) → IsServer n (waits_in (first_of ws))
waits_there n [] ours some = cc
waits_there n (w ∷ ws) ours some = ours.0

file_there : (n : ℕ) (words : WordMap) (file : FileWord) → AreWordsOf n words → IsFileOf n file → IsServer n (file_of words file).server
file_there n words (file_word.Word name) ours speaks = ours name
file_there n words (file_word.Id id) ours speaks = speaks

with_some : (words : WordMap) (c : Client) (o : Option TransId) (l : Line) → IsSome (call_with words c o l) → IsSome o
with_some words c None l some = cc
with_some words c (Some t) l some = refl

outcome_some : (o : Option TransId) → IsSome (outcome_of o) → IsSome o
outcome_some None some = cc
outcome_some (Some t) some = refl

collect_some : (o : Option Waiting) → IsSome (collect_of o) → IsSome o
collect_some None some = cc
collect_some (Some w) some = refl

no_with : (words : WordMap) (c : Client) (l : Line) → ((t : TransId) → call_in words c t l ≡ None) → (o : Option TransId) → IsSome (call_with words c o l) → ⊥
no_with words c l none None some = cc
no_with words c l none (Some t) some = let wrong : false ≡ true = subst (λ (x : Option Call). IsSome x) (none t) some in cc

-- a line that has a call has it for one of the servers
call_there : (n : ℕ) (words : WordMap) (c : Client) (l : Line) → AreWordsOf n words → IsClientOf n c → SpeaksOf n l → IsSome (call_by words c l) → IsServer n (server_for words c l)
call_there n words c (line.Begin client server) ours is speaks some = speaks
call_there n words c (line.Create client server word owner size read modify choice) ours is speaks some = speaks
call_there n words c (line.ReadOwner client server owner choice) ours is speaks some = speaks
call_there n words c (line.MakeOwner client server owner quota create choice) ours is speaks some = speaks
call_there n words c (line.SetQuota client server owner quota choice) ours is speaks some = speaks
call_there n words c (line.OpenFile client file access mode choice) ours is speaks some = file_there n words file ours speaks
call_there n words c (line.CloseFile client file) ours is speaks some = file_there n words file ours speaks
call_there n words c (line.DeleteFile client file choice) ours is speaks some = file_there n words file ours speaks
call_there n words c (line.ReadPages client file run mode choice) ours is speaks some = file_there n words file ours speaks
call_there n words c (line.WritePages client file run text choice) ours is speaks some = file_there n words file ours speaks
call_there n words c (line.LockPages client file run mode choice) ours is speaks some = file_there n words file ours speaks
call_there n words c (line.SetSize client file size choice) ours is speaks some = file_there n words file ours speaks
call_there n words c (line.ReadProps client file) ours is speaks some = file_there n words file ours speaks
call_there n words c (line.WriteProps client file change choice) ours is speaks some = file_there n words file ours speaks
call_there n words c (line.Commit client) ours is speaks some = there_of n c.trans is.0 (with_some words c c.trans (line.Commit client) some)
call_there n words c (line.Abort client) ours is speaks some = there_of n c.trans is.0 (with_some words c c.trans (line.Abort client) some)
call_there n words c (line.Outcome client) ours is speaks some = there_of n c.begun is.1 (outcome_some c.begun some)
call_there n words c (line.Collect client) ours is speaks some = waits_there n c.waiting is.2 (collect_some (first_of c.waiting) some)
call_there n words c l ours is speaks some = absurd (no_with words c l (λ t. refl) c.trans some)

asked_some : (server : ℕ) (X : Call → Request) (o : Option Call) (f : Addressed) → option_map (addressed server) (option_map X o) ≡ Some f → (f.server ≡ server) × IsSome o
asked_some server X None f h = cc
asked_some server X (Some asked) f h = (sym (ap (λ (a : Addressed). a.server) (same_Some (addressed server (X asked)) f h)), refl)

own_there : (n : ℕ) (words : WordMap) (k : ℕ) (c : Client) (l : Line) (f : Addressed) → AreWordsOf n words → IsClientOf n c → SpeaksOf n l
    → option_map (addressed (server_for words c l)) (request_for words k c l) ≡ Some f → IsServer n f.server
own_there n words k c l f ours is speaks h =
    let both = asked_some (server_for words c l) (request_in k c l (map.get c.sessions (server_for words c l))) (call_by words c l) f h in
    subst (λ (s : ℕ). IsServer n s) (sym both.0) (call_there n words c l ours is speaks both.1)

-- a frame goes to a server of the run
pub sent_there : (n : ℕ) (words : WordMap) (k : ℕ) (c : Client) (l : Line) (x : Next) (f : Addressed) → AreWordsOf n words → IsClientOf n c → SpeaksOf n l → frame_next words k c l x ≡ Some f
    → IsServer n f.server
sent_there n words k c (line.Repeat client) next.Call f ours is speaks h = subst (λ (o : Option Addressed). IfSome o (GoesThere n)) h is.3
sent_there n words k c (line.Old client) next.Call f ours is speaks h = subst (λ (o : Option Addressed). IfSome o (GoesThere n)) h is.4
sent_there n words k c (line.Raw client server bytes) next.Call f ours is speaks h =
    subst (λ (s : ℕ). IsServer n s) (ap (λ (a : Addressed). a.server) (same_Some (record { server = server; bytes = bytes }) f h)) speaks
sent_there n words k c l next.Call f ours is speaks h = own_there n words k c l f ours is speaks h
sent_there n words k c l next.Collect f ours is speaks h = own_there n words k c (line.Collect k) f ours is tt h
sent_there n words k c l next.TimeOut f ours is speaks h = cc
sent_there n words k c l next.Over f ours is speaks h = cc

-- ---- what a client hears

end_ours : (n : ℕ) (c : Client) (e : Ended) → IsClientOf n c → IsClientOf n (told_end c e)
end_ours n c (ended_as.Committed s) is = is
end_ours n c e is = is

only_refused : (n : ℕ) (c : Client) (server : ℕ) (f : Refusal) → IsClientOf n c → IsClientOf n (told_only c server (reply.Refused f))
only_refused n c server (refusal.StaleSession epoch) is = is
only_refused n c server f is = is

only_ours : (n : ℕ) (c : Client) (server : ℕ) (r : Reply) → IsClientOf n c → IsClientOf n (told_only c server r)
only_ours n c server (reply.Ended e) is = end_ours n c e is
only_ours n c server (reply.Refused f) is = only_refused n c server f is
only_ours n c server r is = is

again_ours : (n : ℕ) (c : Client) (server : ℕ) (r : Option Reply) → IsClientOf n c → IsClientOf n (heard_again c server r)
again_ours n c server None is = is
again_ours n c server (Some r) is = only_ours n c server r is

left_ours : (n : ℕ) (c : Client) (l : Line) → IsClientOf n c → IsClientOf n (left c l)
left_ours n c (line.Commit client) is = (tt, is.1, tt, is.3, is.4)
left_ours n c (line.Abort client) is = (tt, is.1, tt, is.3, is.4)
left_ours n c l is = is

refusal_ours : (n : ℕ) (c : Client) (server : ℕ) (l : Line) (f : Refusal) → IsClientOf n c → IsClientOf n (told_refusal c server l f)
refusal_ours n c server l refusal.UnknownTrans is = left_ours n c l is
refusal_ours n c server l (refusal.Aborted cause) is = left_ours n c l is
refusal_ours n c server l f is = is

created_ours : (n : ℕ) (c : Client) (l : Line) (f : FileId) (m : ℕ) → IsClientOf n c → IsClientOf n (created c l f m)
created_ours n c (line.Create client server word owner size read modify choice) f m is = is
created_ours n c l f m is = is

opened_ours : (n : ℕ) (words : WordMap) (c : Client) (l : Line) (m : ℕ) → IsClientOf n c → IsClientOf n (opened words c l m)
opened_ours n words c (line.OpenFile client file access mode choice) m is = is
opened_ours n words c l m is = is

started_ours : (n : ℕ) (c : Client) (server : ℕ) (l : Line) (t : TransId) → IsClientOf n c → IsServer n t.server → IsClientOf n (started c server l t)
started_ours n c server (line.Begin client at) t is given = (given, given, is.2, is.3, is.4)
started_ours n c server l t is given = is

learned_ours : (n : ℕ) (words : WordMap) (c : Client) (server : ℕ) (l : Line) (r : Reply) → IsClientOf n c → GivesOf n r → IsClientOf n (learned_reply words c server l r)
learned_ours n words c server l (reply.Begun t) is gives = started_ours n c server l t is gives
learned_ours n words c server l (reply.Created f m) is gives = created_ours n c l f m is
learned_ours n words c server l (reply.Opened m) is gives = opened_ours n words c l m is
learned_ours n words c server l (reply.Committed s) is gives = left_ours n c l is
learned_ours n words c server l (reply.Ended e) is gives = end_ours n c e is
learned_ours n words c server l (reply.Refused f) is gives = refusal_ours n c server l f is
learned_ours n words c server l r is gives = is

greeted_ours : (n : ℕ) (c : Client) (server : ℕ) (x : Next) (r : Option Reply) → IsClientOf n c → IsClientOf n (greeted c server x r).0
greeted_ours n c server x None is = is
greeted_ours n c server x (Some (reply.Welcome epoch)) is = is
greeted_ours n c server x (Some r) is = is

either : (n : ℕ) (b : Bool) (x y : Client × Next) → IsClientOf n x.0 → IsClientOf n y.0 → IsClientOf n (cond b x y).0
either n true x y hx hy = hx
either n false x y hx hy = hy

either_client : (n : ℕ) (b : Bool) (x y : Client) → IsClientOf n x → IsClientOf n y → IsClientOf n (cond b x y)
either_client n true x y hx hy = hx
either_client n false x y hx hy = hy

awaiting_ours : (n : ℕ) (c : Client) (q : Sending) (p : Purpose) → IsClientOf n c → IsServer n q.server → IsClientOf n (awaiting c q p).0
awaiting_ours n c q p is here =
    either n (is_waiting_at c.waiting q.server) (c, next.Over) (record c { waiting = waiting_for q p ∷ c.waiting }, collects_by_itself q.settings.collects) is (is.0, is.1, (here, is.2), is.3, is.4)

called_ours : (n : ℕ) (words : WordMap) (c : Client) (q : Sending) (l : Line) (r : Reply) → IsClientOf n c → IsServer n q.server → GivesOf n r → IsClientOf n (called words c q l r).0
called_ours n words c q l (reply.Refused refusal.NotYet) is here gives = awaiting_ours n c q (purpose_of words l) is here
called_ours n words c q l r is here gives = learned_ours n words c q.server l r is gives

joined_ours : (n : ℕ) (c : Client) (q : Sending) (t : TransId) (r : Reply) → IsClientOf n c → IsServer n q.server → IsClientOf n (joined_reply c q t r).0
joined_ours n c q t reply.Joined is here = is
joined_ours n c q t (reply.Refused refusal.NotYet) is here = awaiting_ours n c q purpose.Part is here
joined_ours n c q t r is here = only_ours n c q.server r is

opened_late_ours : (n : ℕ) (c : Client) (p : Purpose) (m : ℕ) → IsClientOf n c → IsClientOf n (opened_late c p m)
opened_late_ours n c (purpose.Open f) m is = is
opened_late_ours n c p m is = is

late_ours : (n : ℕ) (c : Client) (server : ℕ) (p : Purpose) (l : Line) (r : Reply) → IsClientOf n c → IsClientOf n (late_reply c server p l r)
late_ours n c server p l (reply.Created f m) is = is
late_ours n c server p l (reply.Opened m) is = opened_late_ours n c p m is
late_ours n c server p l (reply.Committed s) is = left_ours n c l is
late_ours n c server p l (reply.Ended e) is = end_ours n c e is
late_ours n c server p l (reply.Refused f) is = refusal_ours n c server l f is
late_ours n c server p l r is = is

part_ours : (n : ℕ) (c : Client) (server : ℕ) (o : Option TransId) → IsClientOf n c → IsClientOf n (part_known c server o)
part_ours n c server None is = is
part_ours n c server (Some t) is = is

joined_late_ours : (n : ℕ) (c : Client) (server : ℕ) (r : Reply) → IsClientOf n c → IsClientOf n (joined_late c server r)
joined_late_ours n c server reply.Joined is = part_ours n c server c.trans is
joined_late_ours n c server r is = only_ours n c server r is

collected_reply_ours : (n : ℕ) (c : Client) (server : ℕ) (p : Purpose) (l : Line) (r : Reply) → IsClientOf n c → IsClientOf n (collected_reply c server p l r)
collected_reply_ours n c server p l r is = either_client n (is_part p) (joined_late c server r) (late_reply c server p l r) (joined_late_ours n c server r is) (late_ours n c server p l r is)

more_ours : (n : ℕ) (ws : List Waiting) → AllByRecursion (WaitsThere n) ws → AllByRecursion (WaitsThere n) (one_more ws)
more_ours n [] ours = tt
more_ours n (w ∷ ws) ours = ours

others_ours : (n : ℕ) (ws : List Waiting) → AllByRecursion (WaitsThere n) ws → AllByRecursion (WaitsThere n) (others ws)
others_ours n [] ours = tt
others_ours n (w ∷ ws) ours = ours.1

without_ours : (n : ℕ) (c : Client) → IsClientOf n c → IsClientOf n (without_last c)
without_ours n c is = (is.0, is.1, others_ours n c.waiting is.2, is.3, is.4)

collected_ours : (n : ℕ) (c : Client) (q : Sending) (l : Line) (r : Reply) → IsClientOf n c → IsClientOf n (collected c q l r).0
collected_ours n c q l (reply.Refused refusal.NotYet) is = (is.0, is.1, more_ours n c.waiting is.2, is.3, is.4)
collected_ours n c q l r is =
    without_ours n (collected_reply c q.server (purpose_in (first_of c.waiting)) l r) (collected_reply_ours n c q.server (purpose_in (first_of c.waiting)) l r is)

answered_ours : (n : ℕ) (words : WordMap) (c : Client) (q : Sending) (l : Line) (a : Asking) (r : Option Reply) → IsClientOf n c → IsServer n q.server → IfSome r (GivesOf n)
    → IsClientOf n (answered words c q l a r).0
answered_ours n words c q l a None is here gives = is
answered_ours n words c q l asking.Collect (Some r) is here gives = collected_ours n c q l r is
answered_ours n words c q l (asking.Join t) (Some r) is here gives = joined_ours n c q t r is here
answered_ours n words c q l asking.Call (Some r) is here gives = called_ours n words c q l r is here gives

own_ours : (n : ℕ) (words : WordMap) (s : Settings) (c : Client) (server : ℕ) (o : Option Greeted) (l : Line) (x : Next) (r : Option Reply) → IsClientOf n c → IsServer n server → IfSome r (GivesOf n)
    → IsClientOf n (heard_own words s c server o l x r).0
own_ours n words s c server None l x r is here gives = greeted_ours n c server x r is
own_ours n words s c server (Some g) l x r is here gives = answered_ours n words c (sending_in server g x s) l (asking_for g.joined c.trans l x) r is here gives

keeps_ours : (n : ℕ) (d : Client) (f : Addressed) → IsClientOf n d → IsServer n f.server → IsClientOf n (keeps d f)
keeps_ours n d f is here = (is.0, is.1, is.2, here, is.3)

pub heard_ours : (n : ℕ) (words : WordMap) (s : Settings) (c : Client) (l : Line) (x : Next) (f : Addressed) (r : Option Reply) → IsClientOf n c → IsServer n f.server → IfSome r (GivesOf n)
    → IsClientOf n (heard words s c l x f r).0
heard_ours n words s c (line.Repeat client) x f r is here gives = again_ours n c f.server r is
heard_ours n words s c (line.Old client) x f r is here gives = again_ours n c f.server r is
heard_ours n words s c (line.Raw client server bytes) x f r is here gives = is
heard_ours n words s c l x f r is here gives =
    keeps_ours n (heard_own words s c f.server (map.get c.sessions f.server) l x r).0 f (own_ours n words s c f.server (map.get c.sessions f.server) l x r is here gives) here

-- ---- and what words stand for

put_ours : (n : ℕ) (words : WordMap) (w : List ℕ) (m : Meaning) → AreWordsOf n words → IsServer n (meant (Some m)).server → AreWordsOf n (map.insert words w m)
put_ours n words w m ours is name =
    subst (λ (o : Option Meaning). IsServer n (meant o).server) (sym (get-insert nat_list_cmp_total words w m name)) (go (eq_by_cmp name_cmp name w))
  where
    go : (b : Bool) → IsServer n (meant (cond b (Some m) (map.get words name))).server
    go true = is
    go false = ours name

bound_ours : (n : ℕ) (words : WordMap) (l : Line) (m : Meaning) → AreWordsOf n words → IsServer n (meant (Some m)).server → AreWordsOf n (bound words l m)
bound_ours n words (line.Create client server word owner size read modify choice) m ours is = put_ours n words word m ours is
bound_ours n words l m ours is = ours

awaiting_words : (n : ℕ) (words : WordMap) (l : Line) (b : Bool) (t : Option TransId) (server : ℕ) → AreWordsOf n words → IsServer n server → AreWordsOf n (words_awaiting words l b t server)
awaiting_words n words l true t server ours here = ours
awaiting_words n words l false None server ours here = ours
awaiting_words n words l false (Some t) server ours here = bound_ours n words l (meaning.Awaited t server) ours here

called_words : (n : ℕ) (words : WordMap) (c : Client) (server : ℕ) (l : Line) (r : Reply) → AreWordsOf n words → IsServer n server → GivesOf n r → AreWordsOf n (words_called words c server l r)
called_words n words c server l (reply.Created f m) ours here gives = bound_ours n words l (meaning.File f) ours gives
called_words n words c server l (reply.Refused refusal.NotYet) ours here gives = awaiting_words n words l (is_waiting_at c.waiting server) c.trans server ours here
called_words n words c server l r ours here gives = ours

either_words : (n : ℕ) (b : Bool) (x y : WordMap) → AreWordsOf n x → AreWordsOf n y → AreWordsOf n (cond b x y)
either_words n true x y hx hy = hx
either_words n false x y hx hy = hy

late_words : (n : ℕ) (words : WordMap) (t : Option TransId) (server : ℕ) (p : Purpose) (f : FileId) → AreWordsOf n words → IsServer n f.server → AreWordsOf n (words_late words t server p f)
late_words n words t server (purpose.Word w) f ours given =
    either_words n (is_awaited (map.get words w) t server) (map.insert words w (meaning.File f)) words (put_ours n words w (meaning.File f) ours given) ours
late_words n words t server p f ours given = ours

late_told_words : (n : ℕ) (words : WordMap) (t : Option TransId) (server : ℕ) (p : Purpose) (r : Reply) → AreWordsOf n words → GivesOf n r → AreWordsOf n (words_late_told words t server p r)
late_told_words n words t server p (reply.Created f m) ours gives = late_words n words t server p f ours gives
late_told_words n words t server p r ours gives = ours

answered_words : (n : ℕ) (words : WordMap) (c : Client) (server : ℕ) (l : Line) (a : Asking) (r : Option Reply) → AreWordsOf n words → IsServer n server → IfSome r (GivesOf n)
    → AreWordsOf n (words_answered words c server l a r)
answered_words n words c server l a None ours here gives = ours
answered_words n words c server l asking.Collect (Some r) ours here gives = late_told_words n words c.trans server (purpose_in (first_of c.waiting)) r ours gives
answered_words n words c server l (asking.Join t) (Some r) ours here gives = ours
answered_words n words c server l asking.Call (Some r) ours here gives = called_words n words c server l r ours here gives

session_words : (n : ℕ) (words : WordMap) (c : Client) (server : ℕ) (o : Option Greeted) (l : Line) (x : Next) (r : Option Reply) → AreWordsOf n words → IsServer n server → IfSome r (GivesOf n)
    → AreWordsOf n (words_in_session words c server o l x r)
session_words n words c server None l x r ours here gives = ours
session_words n words c server (Some g) l x r ours here gives = answered_words n words c server l (asking_for g.joined c.trans l x) r ours here gives

pub heard_words : (n : ℕ) (words : WordMap) (c : Client) (l : Line) (x : Next) (server : ℕ) (r : Option Reply) → AreWordsOf n words → IsServer n server → IfSome r (GivesOf n)
    → AreWordsOf n (words_heard words c l x server r)
heard_words n words c (line.Repeat client) x server r ours here gives = ours
heard_words n words c (line.Old client) x server r ours here gives = ours
heard_words n words c (line.Raw client at bytes) x server r ours here gives = ours
heard_words n words c l x server r ours here gives = session_words n words c server (map.get c.sessions server) l x r ours here gives

line_words : (n : ℕ) (words : WordMap) (l : Line) → AreWordsOf n words → SpeaksOf n l → AreWordsOf n (words_at words l)
line_words n words (line.Create client server word owner size read modify choice) ours speaks = put_ours n words word (meaning.File (no_file server)) ours speaks
line_words n words l ours speaks = ours

begins_ours : (n : ℕ) (c : Client) (l : Line) → IsClientOf n c → IsClientOf n (begins c l)
begins_ours n c (line.Begin client server) is = (tt, is.1, tt, is.3, is.4)
begins_ours n c l is = is

-- ---- among others

set_keeps : (n : ℕ) (cs : List Client) (k j : ℕ) (d e : Client) → IsClientOf n d → IsClientOf n (get_or cs j e) → IsClientOf n (get_or (slice_set cs k d) j e)
set_keeps n [] k j d e new old = old
set_keeps n (c ∷ cs) zero zero d e new old = new
set_keeps n (c ∷ cs) zero (suc j) d e new old = old
set_keeps n (c ∷ cs) (suc k) zero d e new old = old
set_keeps n (c ∷ cs) (suc k) (suc j) d e new old = set_keeps n cs k j d e new old

with_ours : (n : ℕ) (c : Crowd) (words : WordMap) (k : ℕ) (d : Client) → IsCrowdOf n c → AreWordsOf n words → IsClientOf n d → IsCrowdOf n (with_client c words k d)
with_ours n c words k d is ours new = record { words = ours; each = λ j. set_keeps n c.places k j d new_client new (is.each j) }

-- where the next frame goes
pub asks_ours : (n : ℕ) (c : Crowd) (k : ℕ) (l : Line) (x : Next) (f : Addressed) → IsCrowdOf n c → SpeaksOf n l → asks c k l x ≡ Some f → IsServer n f.server
asks_ours n c k l next.Call f is speaks h = sent_there n c.words k (client_at c k) l next.Call f is.words (is.each k) speaks h
asks_ours n c k l next.Collect f is speaks h = sent_there n c.words k (client_at c k) l next.Collect f is.words (is.each k) speaks h
asks_ours n c k l next.TimeOut f is speaks h = cc
asks_ours n c k l next.Over f is speaks h = cc

-- behind what a client hears
pub hears_ours : (n : ℕ) (c : Crowd) (k : ℕ) (l : Line) (x : Next) (f : Addressed) (r : Option Reply) → IsCrowdOf n c → IsServer n f.server → IfSome r (GivesOf n) → IsCrowdOf n (hears c k l x f r).0
hears_ours n c k l x f r is here gives =
    with_ours n c (words_heard c.words (client_at c k) l x f.server r) k (heard c.words c.settings (client_at c k) l x f r).0 is
    (heard_words n c.words (client_at c k) l x f.server r is.words here gives) (heard_ours n c.words c.settings (client_at c k) l x f r (is.each k) here gives)

-- at a line, behind a declaration, and before all lines
pub line_ours : (n : ℕ) (c : Crowd) (k : ℕ) (l : Line) → IsCrowdOf n c → SpeaksOf n l → IsCrowdOf n (at_line c k l)
line_ours n c k l is speaks = with_ours n c (words_at c.words l) k (begins (client_at c k) l) is (line_words n c.words l is.words speaks) (begins_ours n (client_at c k) l (is.each k))

pub declares_ours : (n : ℕ) (c : Crowd) (l : Line) → IsCrowdOf n c → IsCrowdOf n (declares c l)
declares_ours n c (line.Client client name) is = with_ours n c c.words client (record (client_at c client) { name = name }) is is.words (is.each client)
declares_ours n c (line.Patience count) is = record { words = is.words; each = is.each }
declares_ours n c (line.Auto on) is = record { words = is.words; each = is.each }
declares_ours n c l is = is

all_new : (m k : ℕ) → get_or (replicate m new_client) k new_client ≡ new_client
all_new zero k = refl
all_new (suc m) zero = refl
all_new (suc m) (suc k) = all_new m k

pub new_ours : (n : ℕ) → 1 ≤ n → ((name : List ℕ) → map.get new_crowd.words name ≡ None) → IsCrowdOf n new_crowd
new_ours n some none = record {
  words = λ name. subst (λ (o : Option Meaning). IsServer n (meant o).server) (sym (none name)) (omega arith, some);
  each = λ k. subst (λ (c : Client). IsClientOf n c) (sym (all_new 17 k)) (tt, tt, tt, tt, tt);
}
