-- what is spelled is read so, and the frames of a client stay requests of its own
use Rattle.std.specs.Prelude.{Bool, true, false, cond, ◌∷◌, Option, None, Some, IfSome}
use Rattle.std.specs.FinMap as map
use Rattle.std.specs.Option.{option_map}
use Rattle.std.proofs.Common.{◌≡◌, ℕ, ◌+◌, ◌<◌, ◌^◌, List, [], refl, sym, ◌∙◌, ap, subst, append-nil, arith}
use Rattle.std.proofs.Math.Nat.{min-eq_left}
use Rattle.alp_base.specs.declared.ids.TransId.{TransId}
use Rattle.alp_base.specs.declared.ids.FileId.{FileId}
use Rattle.alp_fields.specs.Forms.{Form, IsForm, ended, whole}
use Rattle.alp_files.specs.declared.call.Call.{Call}
use Rattle.alp_files.specs.declared.reply.Reply.{Reply}
use Rattle.alp_files.specs.declared.reply.Reply.TheVariants as reply
use Rattle.alp_files.specs.declared.reply.Ended.{Ended}
use Rattle.alp_files.specs.declared.reply.Ended.TheVariants as ended_as
use Rattle.alp_files.specs.declared.refusal.Refusal.{Refusal}
use Rattle.alp_files.specs.declared.refusal.Refusal.TheVariants as refusal
use Rattle.alp_journal.specs.declared.log.Mark.TheVariants as mark
use Rattle.alp_journal.specs.declared.log.Sent.TheVariants as sent
use Rattle.alp_lines.specs.declared.line.Line.{Line}
use Rattle.alp_lines.specs.declared.line.Line.TheVariants as line
use Rattle.alp_rpc.specs.Frames.{request, reply_frame}
use Rattle.alp_rpc.specs.declared.frame.Request.{Request}
use Rattle.alp_rpc.specs.declared.frame.ReplyFrame.{ReplyFrame}
use Rattle.alp_rpc.proofs.FrameLaws.{request_law, reply_frame_law}
use Rattle.alp_session.specs.Maps.{WordMap}
use Rattle.alp_session.specs.Clients.{first_of}
use Rattle.alp_session.specs.Calls.{call_by, server_for, asking_for}
use Rattle.alp_session.specs.Frames.{number_after, request_in, request_of, addressed, frame_of, mark_of, told_by, read_as, sent_by, IsRequestOf, KeepsRequests}
use Rattle.alp_session.specs.Heard.{left, told_refusal, told_only, started, created, opened, told_end, learned_reply, greeted, is_waiting_at, waiting_for, collects_by_itself, purpose_of, awaiting, called, joined_reply, is_part, part_known, joined_late, opened_late, late_reply, collected_reply, purpose_in, collected, answered, sending_in, heard_own, heard_again, keeps, heard}
use Rattle.alp_session.specs.declared.asking.Asking.{Asking}
use Rattle.alp_session.specs.declared.asking.Asking.TheVariants as asking
use Rattle.alp_session.specs.declared.asking.Sending.{Sending}
use Rattle.alp_session.specs.declared.client.Client.{Client}
use Rattle.alp_session.specs.declared.frames.Addressed.{Addressed}
use Rattle.alp_session.specs.declared.frames.Frames.{Frames}
use Rattle.alp_session.specs.declared.greeted.Greeted.{Greeted}
use Rattle.alp_session.specs.declared.waiting.Next.{Next}
use Rattle.alp_session.specs.declared.waiting.Next.TheVariants as next
use Rattle.alp_session.specs.declared.waiting.Purpose.{Purpose}
use Rattle.alp_session.specs.declared.waiting.Purpose.TheVariants as purpose
use Rattle.alp_session.specs.declared.waiting.Settings.{Settings}

-- all bytes of a spelling are read as what they spell
whole_back : {T : Type 0} (form : Form T) → IsForm form → (v : T) → form.Fits v → whole form (form.spell v) ≡ Some v
whole_back form law v fits = ap (λ (bytes : List ℕ). whole form bytes) (sym (append-nil (form.spell v))) ∙ ap ended (law.back v [] fits)

pub request_read : (r : Request) → request.Fits r → whole request (request.spell r) ≡ Some r
request_read r fits = whole_back request request_law r fits

-- whoever reads the frame of a request reads its call
pub sent_call : (r : Request) → request.Fits r → sent_by (request.spell r) ≡ sent.Call r.client r.epoch r.number r.call
sent_call r fits = ap (read_as (request.spell r)) (request_read r fits)

-- and a client that is handed a reply's frame is told the reply
pub told_reply : (f : ReplyFrame) → reply_frame.Fits f → told_by (Some (reply_frame.spell f)) ≡ Some f.reply
told_reply f fits = ap (λ (o : Option ReplyFrame). option_map (λ (x : ReplyFrame). x.reply) o) (whole_back reply_frame reply_frame_law f fits)

-- the number behind one that is not the last is the next
pub number_next : (n : ℕ) → n + 1 < 2 ^ 32 → number_after n ≡ n + 1
number_next n h = min-eq_left (omega (arith, h))

-- ---- the frames that a client sends are requests of its own, but for raw bytes

asked_client : (k : ℕ) (c : Client) (l : Line) (o : Option Greeted) (asked : Call) → (request_in k c l o asked).client ≡ k
asked_client k c l None asked = refl
asked_client k c l (Some g) asked = refl

-- these bytes of a frame spell a request of the client with that number
abbrev pub IsOwnFrame : ℕ → Addressed → Type 0
IsOwnFrame k f = IsRequestOf k f.bytes

spelled_request : (k : ℕ) (c : Client) (l : Line) (server : ℕ) (g : Option Greeted) (o : Option Call) → IfSome (option_map (request_in k c l g) o) request.Fits
    → IfSome (option_map (addressed server) (option_map (request_in k c l g) o)) (IsOwnFrame k)
spelled_request k c l server g None fits = tt
spelled_request k c l server g (Some asked) fits = record { asked = request_in k c l g asked; client = asked_client k c l g asked; spelled = refl; fits = fits }

pub frames_are_requests : (words : WordMap) (k : ℕ) (c : Client) (l : Line) → KeepsRequests k c → IfSome (request_of words k c l) request.Fits → (mark_of l ≡ mark.Raw → ⊥)
    → IfSome (frame_of words k c l) (IsOwnFrame k)
frames_are_requests words k c (line.Repeat client) kept fits own = kept.last
frames_are_requests words k c (line.Old client) kept fits own = kept.before
frames_are_requests words k c (line.Raw client server bytes) kept fits own = absurd (own refl)
frames_are_requests words k c l kept fits own = spelled_request k c l (server_for words c l) (map.get c.sessions (server_for words c l)) (call_by words c l) fits

-- ---- and what it hears keeps them so

end_stays : (c : Client) (e : Ended) → (told_end c e).frames ≡ c.frames
end_stays c (ended_as.Committed s) = refl
end_stays c e = refl

only_refused : (c : Client) (server : ℕ) (f : Refusal) → (told_only c server (reply.Refused f)).frames ≡ c.frames
only_refused c server (refusal.StaleSession epoch) = refl
only_refused c server f = refl

only_stays : (c : Client) (server : ℕ) (r : Reply) → (told_only c server r).frames ≡ c.frames
only_stays c server (reply.Ended e) = end_stays c e
only_stays c server (reply.Refused f) = only_refused c server f
only_stays c server r = refl

pub again_stays : (c : Client) (server : ℕ) (r : Option Reply) → (heard_again c server r).frames ≡ c.frames
again_stays c server None = refl
again_stays c server (Some r) = only_stays c server r

left_stays : (c : Client) (l : Line) → (left c l).frames ≡ c.frames
left_stays c (line.Commit client) = refl
left_stays c (line.Abort client) = refl
left_stays c l = refl

refusal_stays : (c : Client) (server : ℕ) (l : Line) (f : Refusal) → (told_refusal c server l f).frames ≡ c.frames
refusal_stays c server l refusal.UnknownTrans = left_stays c l
refusal_stays c server l (refusal.Aborted cause) = left_stays c l
refusal_stays c server l f = refl

created_stays : (c : Client) (l : Line) (f : FileId) (n : ℕ) → (created c l f n).frames ≡ c.frames
created_stays c (line.Create client server word owner size read modify choice) f n = refl
created_stays c l f n = refl

opened_stays : (words : WordMap) (c : Client) (l : Line) (n : ℕ) → (opened words c l n).frames ≡ c.frames
opened_stays words c (line.OpenFile client file access mode choice) n = refl
opened_stays words c l n = refl

started_stays : (c : Client) (server : ℕ) (l : Line) (t : TransId) → (started c server l t).frames ≡ c.frames
started_stays c server (line.Begin client at) t = refl
started_stays c server l t = refl

learned_stays : (words : WordMap) (c : Client) (server : ℕ) (l : Line) (r : Reply) → (learned_reply words c server l r).frames ≡ c.frames
learned_stays words c server l (reply.Begun t) = started_stays c server l t
learned_stays words c server l (reply.Created f n) = created_stays c l f n
learned_stays words c server l (reply.Opened n) = opened_stays words c l n
learned_stays words c server l (reply.Committed s) = left_stays c l
learned_stays words c server l (reply.Ended e) = end_stays c e
learned_stays words c server l (reply.Refused f) = refusal_stays c server l f
learned_stays words c server l r = refl

greeted_stays : (c : Client) (server : ℕ) (n : Next) (r : Option Reply) → (greeted c server n r).0.frames ≡ c.frames
greeted_stays c server n None = refl
greeted_stays c server n (Some (reply.Welcome epoch)) = refl
greeted_stays c server n (Some r) = refl

awaiting_stays : (c : Client) (q : Sending) (p : Purpose) → (awaiting c q p).0.frames ≡ c.frames
awaiting_stays c q p = go (is_waiting_at c.waiting q.server) (c, next.Over) (record c { waiting = waiting_for q p ∷ c.waiting }, collects_by_itself q.settings.collects) refl refl
  where
    go : (b : Bool) (x y : Client × Next) → x.0.frames ≡ c.frames → y.0.frames ≡ c.frames → (cond b x y).0.frames ≡ c.frames
    go true x y hx hy = hx
    go false x y hx hy = hy

called_stays : (words : WordMap) (c : Client) (q : Sending) (l : Line) (r : Reply) → (called words c q l r).0.frames ≡ c.frames
called_stays words c q l (reply.Refused refusal.NotYet) = awaiting_stays c q (purpose_of words l)
called_stays words c q l r = learned_stays words c q.server l r

joined_stays : (c : Client) (q : Sending) (t : TransId) (r : Reply) → (joined_reply c q t r).0.frames ≡ c.frames
joined_stays c q t reply.Joined = refl
joined_stays c q t (reply.Refused refusal.NotYet) = awaiting_stays c q purpose.Part
joined_stays c q t r = only_stays c q.server r

opened_late_stays : (c : Client) (p : Purpose) (n : ℕ) → (opened_late c p n).frames ≡ c.frames
opened_late_stays c (purpose.Open f) n = refl
opened_late_stays c p n = refl

late_stays : (c : Client) (server : ℕ) (p : Purpose) (l : Line) (r : Reply) → (late_reply c server p l r).frames ≡ c.frames
late_stays c server p l (reply.Created f n) = refl
late_stays c server p l (reply.Opened n) = opened_late_stays c p n
late_stays c server p l (reply.Committed s) = left_stays c l
late_stays c server p l (reply.Ended e) = end_stays c e
late_stays c server p l (reply.Refused f) = refusal_stays c server l f
late_stays c server p l r = refl

part_stays : (c : Client) (server : ℕ) (o : Option TransId) → (part_known c server o).frames ≡ c.frames
part_stays c server None = refl
part_stays c server (Some t) = refl

joined_late_stays : (c : Client) (server : ℕ) (r : Reply) → (joined_late c server r).frames ≡ c.frames
joined_late_stays c server reply.Joined = part_stays c server c.trans
joined_late_stays c server r = only_stays c server r

collected_reply_stays : (c : Client) (server : ℕ) (p : Purpose) (l : Line) (r : Reply) → (collected_reply c server p l r).frames ≡ c.frames
collected_reply_stays c server p l r = go (is_part p) (joined_late c server r) (late_reply c server p l r) (joined_late_stays c server r) (late_stays c server p l r)
  where
    go : (b : Bool) (x y : Client) → x.frames ≡ c.frames → y.frames ≡ c.frames → (cond b x y).frames ≡ c.frames
    go true x y hx hy = hx
    go false x y hx hy = hy

collected_stays : (c : Client) (q : Sending) (l : Line) (r : Reply) → (collected c q l r).0.frames ≡ c.frames
collected_stays c q l (reply.Refused refusal.NotYet) = refl
collected_stays c q l r = collected_reply_stays c q.server (purpose_in (first_of c.waiting)) l r

answered_stays : (words : WordMap) (c : Client) (q : Sending) (l : Line) (a : Asking) (r : Option Reply) → (answered words c q l a r).0.frames ≡ c.frames
answered_stays words c q l a None = refl
answered_stays words c q l asking.Collect (Some r) = collected_stays c q l r
answered_stays words c q l (asking.Join t) (Some r) = joined_stays c q t r
answered_stays words c q l asking.Call (Some r) = called_stays words c q l r

pub own_stays : (words : WordMap) (s : Settings) (c : Client) (server : ℕ) (o : Option Greeted) (l : Line) (n : Next) (r : Option Reply) → (heard_own words s c server o l n r).0.frames ≡ c.frames
own_stays words s c server None l n r = greeted_stays c server n r
own_stays words s c server (Some g) l n r = answered_stays words c (sending_in server g n s) l (asking_for g.joined c.trans l n) r

pub kept_as : (k : ℕ) (c d : Client) → d.frames ≡ c.frames → KeepsRequests k c → KeepsRequests k d
kept_as k c d same kept = record {
  last = subst (λ (f : Frames). IfSome f.last (IsOwnFrame k)) (sym same) kept.last;
  before = subst (λ (f : Frames). IfSome f.before (IsOwnFrame k)) (sym same) kept.before;
}

pub kept_more : (k : ℕ) (c d : Client) (frame : Addressed) → d.frames ≡ c.frames → KeepsRequests k c → IsRequestOf k frame.bytes → KeepsRequests k (keeps d frame)
kept_more k c d frame same kept asked = record { last = asked; before = subst (λ (f : Frames). IfSome f.last (IsOwnFrame k)) (sym same) kept.last }

-- also behind a line that sends one of them again, or raw bytes
pub keeps_requests : (words : WordMap) (s : Settings) (k : ℕ) (c : Client) (l : Line) (n : Next) (frame : Addressed) (r : Option Reply) → KeepsRequests k c → IsRequestOf k frame.bytes
    → KeepsRequests k (heard words s c l n frame r).0
keeps_requests words s k c (line.Repeat client) n frame r kept asked = kept_as k c (heard_again c frame.server r) (again_stays c frame.server r) kept
keeps_requests words s k c (line.Old client) n frame r kept asked = kept_as k c (heard_again c frame.server r) (again_stays c frame.server r) kept
keeps_requests words s k c (line.Raw client server bytes) n frame r kept asked = kept
keeps_requests words s k c l n frame r kept asked =
    kept_more k c (heard_own words s c frame.server (map.get c.sessions frame.server) l n r).0 frame (own_stays words s c frame.server (map.get c.sessions frame.server) l n r) kept asked
