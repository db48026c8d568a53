-- what a client was told last is a stamp that clocks may show, where each reply that it hears has a frame
use Rattle.std.specs.Prelude.{Bool, true, false, cond, Option, None, Some, IfSome, get_or, slice_set}
use Rattle.std.specs.FinMap as map
use Rattle.std.specs.Ordering.{is_lt}
use Rattle.std.proofs.Common.{◌≡◌, ℕ, zero, suc, ◌+◌, ◌≤◌, ◌^◌, List, [], ◌∷◌}
use Rattle.alp_journal.specs.Ids.{stamp_cmp}
use Rattle.alp_base.specs.declared.ids.FileId.{FileId}
use Rattle.alp_base.specs.declared.ids.Stamp.{Stamp}
use Rattle.alp_base.specs.declared.ids.TransId.{TransId}
use Rattle.alp_files.specs.declared.reply.Ended.{Ended}
use Rattle.alp_files.specs.declared.reply.Ended.TheVariants as ended_as
use Rattle.alp_files.specs.declared.reply.Reply.{Reply}
use Rattle.alp_files.specs.declared.reply.Reply.TheVariants as reply
use Rattle.alp_files.specs.declared.refusal.Refusal.{Refusal}
use Rattle.alp_files.specs.declared.refusal.Refusal.TheVariants as refusal
use Rattle.alp_lines.specs.declared.line.Line.{Line}
use Rattle.alp_lines.specs.declared.line.Line.TheVariants as line
use Rattle.alp_rpc.specs.Replies.{IsSendable, IsSendableEnding}
use Rattle.alp_session.specs.Maps.{WordMap}
use Rattle.alp_session.specs.Calls.{asking_for}
use Rattle.alp_session.specs.Clients.{new_client, first_of}
use Rattle.alp_session.specs.Crowd.{Crowd}
use Rattle.alp_session.specs.Crowds.{client_at, hears, at_line}
use Rattle.alp_session.specs.Frames.{IsReady}
use Rattle.alp_session.specs.Props.{later}
use Rattle.alp_session.specs.Heard.{left, told_refusal, told_only, started, created, opened, told_end, learned_reply, greeted, is_waiting_at, waiting_for, collects_by_itself, purpose_of, awaiting, called, joined_reply, is_part, part_known, joined_late, opened_late, late_reply, collected_reply, purpose_in, collected, answered, sending_in, heard_own, heard_again, heard, begins}
use Rattle.alp_session.specs.declared.asking.Asking.{Asking}
use Rattle.alp_session.specs.declared.asking.Asking.TheVariants as asking
use Rattle.alp_session.specs.declared.asking.Sending.{Sending}
use Rattle.alp_session.specs.declared.client.Client.{Client}
use Rattle.alp_session.specs.declared.frames.Addressed.{Addressed}
use Rattle.alp_session.specs.declared.greeted.Greeted.{Greeted}
use Rattle.alp_session.specs.declared.waiting.Next.{Next}
use Rattle.alp_session.specs.declared.waiting.Next.TheVariants as next
use Rattle.alp_session.specs.declared.waiting.Purpose.{Purpose}
use Rattle.alp_session.specs.declared.waiting.Purpose.TheVariants as purpose
use Rattle.alp_session.specs.declared.waiting.Settings.{Settings}

abbrev IsLow : Client → Type 0
IsLow c = c.told.ts ≤ 2 ^ 62

later_low : (a s : Stamp) → a.ts ≤ 2 ^ 62 → s.ts ≤ 2 ^ 62 → (later a s).ts ≤ 2 ^ 62
later_low a s low small = go (is_lt (stamp_cmp a s))
  where
    go : (b : Bool) → (cond b s a).ts ≤ 2 ^ 62
    go true = small
    go false = low

end_low : (c : Client) (e : Ended) → IsLow c → IsSendableEnding e → IsLow (told_end c e)
end_low c (ended_as.Committed s) low may = later_low c.told s low may
end_low c e low may = low

only_refused : (c : Client) (server : ℕ) (f : Refusal) → IsLow c → IsLow (told_only c server (reply.Refused f))
only_refused c server (refusal.StaleSession epoch) low = low
only_refused c server f low = low

only_low : (c : Client) (server : ℕ) (r : Reply) → IsLow c → IsSendable r → IsLow (told_only c server r)
only_low c server (reply.Committed s) low may = later_low c.told s low may
only_low c server (reply.Ended e) low may = end_low c e low may
only_low c server (reply.Refused f) low may = only_refused c server f low
only_low c server r low may = low

again_low : (c : Client) (server : ℕ) (r : Option Reply) → IsLow c → IfSome r IsSendable → IsLow (heard_again c server r)
again_low c server None low may = low
again_low c server (Some r) low may = only_low c server r low may

left_low : (c : Client) (l : Line) → IsLow c → IsLow (left c l)
left_low c (line.Commit client) low = low
left_low c (line.Abort client) low = low
left_low c l low = low

refusal_low : (c : Client) (server : ℕ) (l : Line) (f : Refusal) → IsLow c → IsLow (told_refusal c server l f)
refusal_low c server l refusal.UnknownTrans low = left_low c l low
refusal_low c server l (refusal.Aborted cause) low = left_low c l low
refusal_low c server l f low = low

created_low : (c : Client) (l : Line) (f : FileId) (n : ℕ) → IsLow c → IsLow (created c l f n)
created_low c (line.Create client server word owner size read modify choice) f n low = low
created_low c l f n low = low

opened_low : (words : WordMap) (c : Client) (l : Line) (n : ℕ) → IsLow c → IsLow (opened words c l n)
opened_low words c (line.OpenFile client file access mode choice) n low = low
opened_low words c l n low = low

started_low : (c : Client) (server : ℕ) (l : Line) (t : TransId) → IsLow c → IsLow (started c server l t)
started_low c server (line.Begin client at) t low = low
started_low c server l t low = low

learned_low : (words : WordMap) (c : Client) (server : ℕ) (l : Line) (r : Reply) → IsLow c → IsSendable r → IsLow (learned_reply words c server l r)
learned_low words c server l (reply.Begun t) low may = started_low c server l t low
learned_low words c server l (reply.Created f n) low may = created_low c l f n low
learned_low words c server l (reply.Opened n) low may = opened_low words c l n low
learned_low words c server l (reply.Committed s) low may = later_low c.told s low may
learned_low words c server l (reply.Ended e) low may = end_low c e low may
learned_low words c server l (reply.Refused f) low may = refusal_low c server l f low
learned_low words c server l r low may = low

greeted_low : (c : Client) (server : ℕ) (n : Next) (r : Option Reply) → IsLow c → IsLow (greeted c server n r).0
greeted_low c server n None low = low
greeted_low c server n (Some (reply.Welcome epoch)) low = low
greeted_low c server n (Some r) low = low

awaiting_low : (c : Client) (q : Sending) (p : Purpose) → IsLow c → IsLow (awaiting c q p).0
awaiting_low c q p low = go (is_waiting_at c.waiting q.server) (c, next.Over) (record c { waiting = waiting_for q p ∷ c.waiting }, collects_by_itself q.settings.collects) low low
  where
    go : (b : Bool) (x y : Client × Next) → IsLow x.0 → IsLow y.0 → IsLow (cond b x y).0
    go true x y hx hy = hx
    go false x y hx hy = hy

called_low : (words : WordMap) (c : Client) (q : Sending) (l : Line) (r : Reply) → IsLow c → IsSendable r → IsLow (called words c q l r).0
called_low words c q l (reply.Refused refusal.NotYet) low may = awaiting_low c q (purpose_of words l) low
called_low words c q l r low may = learned_low words c q.server l r low may

joined_low : (c : Client) (q : Sending) (t : TransId) (r : Reply) → IsLow c → IsSendable r → IsLow (joined_reply c q t r).0
joined_low c q t reply.Joined low may = low
joined_low c q t (reply.Refused refusal.NotYet) low may = awaiting_low c q purpose.Part low
joined_low c q t r low may = only_low c q.server r low may

opened_late_low : (c : Client) (p : Purpose) (n : ℕ) → IsLow c → IsLow (opened_late c p n)
opened_late_low c (purpose.Open f) n low = low
opened_late_low c p n low = low

late_low : (c : Client) (server : ℕ) (p : Purpose) (l : Line) (r : Reply) → IsLow c → IsSendable r → IsLow (late_reply c server p l r)
late_low c server p l (reply.Created f n) low may = low
late_low c server p l (reply.Opened n) low may = opened_late_low c p n low
late_low c server p l (reply.Committed s) low may = later_low c.told s low may
late_low c server p l (reply.Ended e) low may = end_low c e low may
late_low c server p l (reply.Refused f) low may = refusal_low c server l f low
late_low c server p l r low may = low

part_low : (c : Client) (server : ℕ) (o : Option TransId) → IsLow c → IsLow (part_known c server o)
part_low c server None low = low
part_low c server (Some t) low = low

joined_late_low : (c : Client) (server : ℕ) (r : Reply) → IsLow c → IsSendable r → IsLow (joined_late c server r)
joined_late_low c server reply.Joined low may = part_low c server c.trans low
joined_late_low c server r low may = only_low c server r low may

collected_reply_low : (c : Client) (server : ℕ) (p : Purpose) (l : Line) (r : Reply) → IsLow c → IsSendable r → IsLow (collected_reply c server p l r)
collected_reply_low c server p l r low may = go (is_part p) (joined_late c server r) (late_reply c server p l r) (joined_late_low c server r low may) (late_low c server p l r low may)
  where
    go : (b : Bool) (x y : Client) → IsLow x → IsLow y → IsLow (cond b x y)
    go true x y hx hy = hx
    go false x y hx hy = hy

collected_low : (c : Client) (q : Sending) (l : Line) (r : Reply) → IsLow c → IsSendable r → IsLow (collected c q l r).0
collected_low c q l (reply.Refused refusal.NotYet) low may = low
collected_low c q l r low may = collected_reply_low c q.server (purpose_in (first_of c.waiting)) l r low may

answered_low : (words : WordMap) (c : Client) (q : Sending) (l : Line) (a : Asking) (r : Option Reply) → IsLow c → IfSome r IsSendable → IsLow (answered words c q l a r).0
answered_low words c q l a None low may = low
answered_low words c q l asking.Collect (Some r) low may = collected_low c q l r low may
answered_low words c q l (asking.Join t) (Some r) low may = joined_low c q t r low may
answered_low words c q l asking.Call (Some r) low may = called_low words c q l r low may

own_low : (words : WordMap) (s : Settings) (c : Client) (server : ℕ) (o : Option Greeted) (l : Line) (n : Next) (r : Option Reply) → IsLow c → IfSome r IsSendable → IsLow (heard_own words s c server o l n r).0
own_low words s c server None l n r low may = greeted_low c server n r low
own_low words s c server (Some g) l n r low may = answered_low words c (sending_in server g n s) l (asking_for g.joined c.trans l n) r low may

heard_low : (words : WordMap) (s : Settings) (c : Client) (l : Line) (n : Next) (frame : Addressed) (r : Option Reply) → IsLow c → IfSome r IsSendable → IsLow (heard words s c l n frame r).0
heard_low words s c (line.Repeat client) n frame r low may = again_low c frame.server r low may
heard_low words s c (line.Old client) n frame r low may = again_low c frame.server r low may
heard_low words s c (line.Raw client server bytes) n frame r low may = low
heard_low words s c l n frame r low may = own_low words s c frame.server (map.get c.sessions frame.server) l n r low may

begins_low : (c : Client) (l : Line) → IsLow c → IsLow (begins c l)
begins_low c (line.Begin client server) low = low
begins_low c l low = low

set_low : (cs : List Client) (k : ℕ) (d e : Client) → IsLow d → IsLow (get_or cs k e) → IsLow (get_or (slice_set cs k d) k e)
set_low [] k d e now low = low
set_low (x ∷ xs) zero d e now low = now
set_low (x ∷ xs) (suc k) d e now low = set_low xs k d e now low

pub ready_heard : (c : Crowd) (k : ℕ) (l : Line) (n : Next) (frame : Addressed) (r : Option Reply) → IfSome r IsSendable → IsReady k (client_at c k) → IsReady k (client_at (hears c k l n frame r).0 k)
ready_heard c k l n frame r may ready = record {
  from_one = ready.from_one;
  to_last = ready.to_last;
  told = set_low c.places k (heard c.words c.settings (client_at c k) l n frame r).0 new_client (heard_low c.words c.settings (client_at c k) l n frame r ready.told may) ready.told;
}

pub ready_at_line : (c : Crowd) (k : ℕ) (l : Line) → IsReady k (client_at c k) → IsReady k (client_at (at_line c k l) k)
ready_at_line c k l ready = record {
  from_one = ready.from_one;
  to_last = ready.to_last;
  told = set_low c.places k (begins (client_at c k) l) new_client (begins_low (client_at c k) l ready.told) ready.told;
}
