-- the calls of lines have frames
use Rattle.std.specs.Prelude.{Option, None, Some, IfSome}
use Rattle.std.proofs.Common.{◌≡◌, ℕ, ◌≤◌, ◌^◌, true, refl, sym, arith}
use Rattle.std.proofs.Math.Nat.{le-min}
use Rattle.std.proofs.lemmas.List.{length-replicate}
use Rattle.alp_base.specs.declared.ids.TransId.{TransId}
use Rattle.alp_base.specs.Pages.{page_of}
use Rattle.alp_files.specs.declared.call.Call.{Call}
use Rattle.alp_lines.specs.declared.line.Line.{Line}
use Rattle.alp_lines.specs.declared.line.Line.TheVariants as line
use Rattle.alp_lines.specs.Forms.{IsPageMode, IsForm}
use Rattle.alp_lines.specs.Forms as form
use Rattle.alp_modes.specs.declared.Mode.{Mode}
use Rattle.alp_modes.specs.declared.Mode.TheVariants as mode
use Rattle.alp_rpc.specs.Calls.{is_run_mode, IsSendable}
use Rattle.alp_rpc.specs.Frames as frames
use Rattle.alp_session.specs.Maps.{WordMap}
use Rattle.alp_session.specs.Clients.{first_of}
use Rattle.alp_session.specs.Calls.{owner_call, making_call, props_call, file_call, page_call, call_in, call_with, collect_of, outcome_of, call_by, asking_for, call_asked, IsAskable}
use Rattle.alp_session.specs.Frames.{number_after, request_in}
use Rattle.alp_session.specs.declared.asking.Asking.{Asking}
use Rattle.alp_session.specs.declared.asking.Asking.TheVariants as asking
use Rattle.alp_session.specs.declared.client.Client.{Client}
use Rattle.alp_session.specs.declared.greeted.Greeted.{Greeted}
use Rattle.alp_session.specs.declared.waiting.Next.TheVariants as next
use Rattle.alp_session.specs.declared.waiting.Waiting.{Waiting}

-- a call, if any, that has a frame
abbrev Sendable : Option Call → Type 0
Sendable asked = IfSome asked IsSendable

of_owner : (t : TransId) (l : Line) → Sendable (owner_call t l)
of_owner t (line.ReadOwner client server owner choice) = tt
of_owner t (line.SetQuota client server owner quota choice) = tt
of_owner t l = tt

making : (t : TransId) (l : Line) → Sendable (making_call t l)
making t (line.MakeOwner client server owner quota create choice) = tt
making t (line.Create client server word owner size read modify choice) = tt
making t l = of_owner t l

of_props : (words : WordMap) (c : Client) (t : TransId) (l : Line) → Sendable (props_call words c t l)
of_props words c t (line.ReadProps client file) = tt
of_props words c t (line.WriteProps client file change choice) = tt
of_props words c t l = making t l

of_file : (words : WordMap) (c : Client) (t : TransId) (l : Line) → Sendable (file_call words c t l)
of_file words c t (line.CloseFile client file) = tt
of_file words c t (line.DeleteFile client file choice) = tt
of_file words c t (line.SetSize client file size choice) = tt
of_file words c t l = of_props words c t l

of_pages : (words : WordMap) (c : Client) (t : TransId) (l : Line) → IsAskable l → Sendable (page_call words c t l)
of_pages words c t (line.WritePages client file run text choice) h = (h.0, sym (length-replicate run.count (page_of text)))
of_pages words c t (line.ReadPages client file run mode choice) h = h
of_pages words c t (line.LockPages client file run mode choice) h = h
of_pages words c t l h = of_file words c t l

in_trans : (words : WordMap) (c : Client) (t : TransId) (l : Line) → IsAskable l → Sendable (call_in words c t l)
in_trans words c t (line.OpenFile client file access mode choice) h = tt
in_trans words c t (line.Commit client) h = tt
in_trans words c t (line.Abort client) h = tt
in_trans words c t l h = of_pages words c t l h

with_trans : (words : WordMap) (c : Client) (o : Option TransId) (l : Line) → IsAskable l → Sendable (call_with words c o l)
with_trans words c None l h = tt
with_trans words c (Some t) l h = in_trans words c t l h

collect_sendable : (o : Option Waiting) → Sendable (collect_of o)
collect_sendable None = tt
collect_sendable (Some w) = tt

outcome_sendable : (o : Option TransId) → Sendable (outcome_of o)
outcome_sendable None = tt
outcome_sendable (Some t) = tt

pub call_sendable : (words : WordMap) (c : Client) (l : Line) → c.told.ts ≤ 2 ^ 62 → IsAskable l → Sendable (call_by words c l)
call_sendable words c (line.Begin client server) told h = told
call_sendable words c (line.Outcome client) told h = outcome_sendable c.begun
call_sendable words c (line.Collect client) told h = collect_sendable (first_of c.waiting)
call_sendable words c l told h = with_trans words c c.trans l h

-- and so have the requests of clients

counts : (n : ℕ) → 1 ≤ number_after n
counts n = le-min (omega arith) (omega arith)

asked_sendable : (a : Asking) (asked : Call) → IsSendable asked → IsSendable (call_asked a asked)
asked_sendable (asking.Join t) asked h = tt
asked_sendable asking.Call asked h = h
asked_sendable asking.Collect asked h = h

pub request_sendable : (k : ℕ) (c : Client) (l : Line) (o : Option Greeted) (asked : Call) → 1 ≤ k → k ≤ 16 → IsSendable asked → frames.IsSendable (request_in k c l o asked)
request_sendable k c l None asked from_one to_last h = (record { from_one = from_one; to_last = to_last; counted = omega arith }, tt)
request_sendable k c l (Some g) asked from_one to_last h =
    (record { from_one = from_one; to_last = to_last; counted = counts g.last }, asked_sendable (asking_for g.joined c.trans l next.Call) asked h)

-- pages are locked in modes that have a spelling there
of_page_mode : (lock : Mode) → IsPageMode lock → is_run_mode lock ≡ true
of_page_mode mode.IntendRead fit = absurd fit
of_page_mode mode.IntendWrite fit = absurd fit
of_page_mode mode.Read fit = refl
of_page_mode mode.Update fit = refl
of_page_mode mode.ReadIntendWrite fit = absurd fit
of_page_mode mode.Write fit = refl

-- the lines of the language have frames
pub form_askable : (l : Line) → IsForm l → IsAskable l
form_askable l (form.servers count) = tt
form_askable l (form.volume server home area limits) = tt
form_askable l (form.client number name) = tt
form_askable l (form.patience count some few) = tt
form_askable l (form.auto_said on) = tt
form_askable l (form.timeout server number most) = tt
form_askable l (form.tick server) = tt
form_askable l (form.force server) = tt
form_askable l (form.stop server calls small) = tt
form_askable l (form.restart server pick small) = tt
form_askable l form.settle = tt
form_askable l (form.carry from to) = tt
form_askable l (form.lose from to) = tt
form_askable l (form.again from to) = tt
form_askable l (form.begin number server) = tt
form_askable l (form.commit number) = tt
form_askable l (form.abort number) = tt
form_askable l (form.outcome number) = tt
form_askable l (form.collect number) = tt
form_askable l (form.repeat number) = tt
form_askable l (form.old number) = tt
form_askable l (form.raw number server bytes some) = tt
form_askable l (form.owner number server name quota create wish few) = tt
form_askable l (form.read_owner number server name wish) = tt
form_askable l (form.quota number server name quota wish) = tt
form_askable l (form.create number server word name size read modify wish small few_read few_modify) = tt
form_askable l (form.open_file number file purpose lock wish) = tt
form_askable l (form.close number file) = tt
form_askable l (form.delete number file wish) = tt
form_askable l (form.write number file run text wish run_formed text_formed) = (omega (arith, run_formed.some), omega (arith, text_formed.short))
form_askable l (form.read number file run lock wish formed fit) = (omega (arith, formed.some), of_page_mode lock fit)
form_askable l (form.lock number file run lock wish formed fit) = (omega (arith, formed.some), of_page_mode lock fit)
form_askable l (form.size number file size wish small) = tt
form_askable l (form.props number file) = tt
form_askable l (form.change number file change wish formed) = tt
