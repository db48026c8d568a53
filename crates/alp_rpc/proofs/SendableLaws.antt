-- What is spelled may be sent.
use Rattle.std.proofs.Common.{◌^◌, Option, Some, None, length}
use Rattle.std.specs.Prelude.{IfOk, IfSome, Result, Ok, Err, nat_le}
use Rattle.std.proofs.lemmas.Bool.{eqb-true, leb-true}
use Rattle.alp_files.specs.declared.call.Call.{Call}
use Rattle.alp_files.specs.declared.call.Call.TheVariants.{Begin, ReadPages, WritePages, LockPages}
use Rattle.alp_files.specs.declared.reply.Ended.{Ended as Ending}
use Rattle.alp_files.specs.declared.reply.Ended.TheVariants.{Committed as CommittedAt}
use Rattle.alp_files.specs.declared.reply.Reply.{Reply}
use Rattle.alp_files.specs.declared.reply.Reply.TheVariants.{Pages, Committed, Ended}
use Rattle.alp_fields.specs.Forms.{u8}
use Rattle.alp_fields.specs.Fields.{stamp, run, some_count, pages}
use Rattle.alp_fields.proofs.FormLaws.{and_parts}
use Rattle.alp_rpc.specs.declared.frame.Request.{Request}
use Rattle.alp_rpc.specs.declared.frame.ReplyFrame.{ReplyFrame}
use Rattle.alp_rpc.specs.Calls.{run_mode, filled_run, call}
use Rattle.alp_rpc.specs.Calls as calls
use Rattle.alp_rpc.specs.Endings.{ended}
use Rattle.alp_rpc.specs.Replies.{reply, IsSendableEnding}
use Rattle.alp_rpc.specs.Replies as replies
use Rattle.alp_rpc.specs.Frames.{clients, Head, head, request, reply_frame, IsHead, IsSendable, IsSendableReply}

call_is : (c : Call) → call.Fits c → calls.IsSendable c
unfolding call run_mode filled_run stamp run some_count
call_is (Begin seen) fits = leb-true seen.ts (2 ^ 62) fits.0.1
call_is (ReadPages trans open_no span held wish) fits = (leb-true 1 span.count fits.1.0.1.1, fits.1.1.0.1)
call_is (WritePages trans open_no span given wish) fits = (leb-true 1 span.count fits.1.0.0.0.1.1, eqb-true span.count (length given) fits.1.0.1)
call_is (LockPages trans open_no span held wish) fits = (leb-true 1 span.count fits.1.0.1.1, fits.1.1.0.1)
call_is other fits = tt

ending_is : (e : Ending) → ended.Fits e → IsSendableEnding e
unfolding ended stamp
ending_is (CommittedAt at) fits = leb-true at.ts (2 ^ 62) fits.0.1
ending_is other fits = tt

reply_is : (r : Reply) → reply.Fits r → replies.IsSendable r
unfolding reply stamp pages some_count u8
reply_is (Pages found) fits = (leb-true 1 (length found) fits.0.1, fits.0.0)
reply_is (Committed at) fits = leb-true at.ts (2 ^ 62) fits.0.1
reply_is (Ended how) fits = ending_is how fits
reply_is other fits = tt

head_is : (h : Head) → head.Fits h → IsHead h.0 h.1.1
unfolding head
head_is h fits =
    let tests = and_parts (nat_le 1 h.0) (nat_le h.0 clients) fits.0.1 in
    record { from_one = leb-true 1 h.0 tests.0; to_last = leb-true h.0 clients tests.1; counted = leb-true 1 h.1.1 fits.1.1.1 }

pub request_is : (r : Request) → request.Fits r → IsSendable r
unfolding request
request_is r fits = (head_is (r.client, (r.epoch, r.number)) fits.0, call_is r.call fits.1)

pub reply_frame_is : (r : ReplyFrame) → reply_frame.Fits r → IsSendableReply r
unfolding reply_frame
reply_frame_is r fits = (head_is (r.client, (r.epoch, r.number)) fits.0, reply_is r.reply fits.1)

-- the same of an answer that want of memory may keep away
pub found_is : {T E : Type 0} (P Q : T → Type 0) → ((v : T) → P v → Q v) → (answer : Result (Option T) E) → IfOk answer (λ found. IfSome found P) → IfOk answer (λ found. IfSome found Q)
found_is P Q implies (Ok None) given = tt
found_is P Q implies (Ok (Some v)) given = implies v given
found_is P Q implies (Err e) given = tt
