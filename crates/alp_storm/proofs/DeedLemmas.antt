-- what a worker's calls of its job do
use Rattle.std.specs.Prelude.{Bool, true, false, cond, Option, None, Some, IfSome, Result, Ok, Err, IfOk, IfErr, OnOk, if◌then◌else◌}
use Rattle.std.proofs.Common.{inl, ◌≡◌, ℕ, List, [], ◌∷◌, ◌++◌, refl, sym, ap, ◌∙◌, subst}
use mathlib.Core.List.{append-nil}
use Rattle.alp_base.specs.declared.ids.TransId.{TransId}
use Rattle.alp_files.specs.declared.call.Call.{Call}
use Rattle.alp_files.specs.declared.reply.Reply.{Reply}
use Rattle.alp_fields.specs.Forms.{whole}
use Rattle.alp_rpc.specs.Frames.{request}
use Rattle.alp_rpc.specs.Replies as replies
use Rattle.alp_rpc.specs.declared.frame.Request.{Request}
use Rattle.alp_journal.specs.declared.event.Event.{Event}
use Rattle.alp_journal.specs.declared.event.Event.TheVariants as event
use Rattle.alp_journal.specs.declared.log.Item.{Item}
use Rattle.alp_journal.specs.declared.log.Mark.{Mark}
use Rattle.alp_journal.specs.declared.log.Sent.{Sent}
use Rattle.alp_journal.specs.declared.log.Sent.TheVariants as sent
use Rattle.alp_lines.specs.declared.line.Line.{Line}
use Rattle.alp_session.specs.Crowd.{Crowd}
use Rattle.alp_session.specs.Crowds.{client_at, at_line, request_next}
use Rattle.alp_session.specs.Frames.{IsReady, IsOfFrame, told_by, read_as, sent_by, mark_of}
use Rattle.alp_session.specs.declared.frames.Addressed.{Addressed}
use Rattle.alp_jobs.specs.Deeds.{sends, gives_tick, gives_timeout}
use Rattle.alp_jobs.specs.Does.{tick_due, asked_at, IsAsked}
use Rattle.alp_jobs.specs.Lines.{has_lines, KeepsLines, IsJobOf}
use Rattle.alp_jobs.proofs.AskedLemmas.{asked_is}
use Rattle.alp_jobs.proofs.LineLemmas.{gone_lines, sent_ours, ticked_ours, timed_ours, room_ours, gone_ours}
use Rattle.alp_jobs.specs.Jobs.{Does, GoesOn, frame_due, timeout_due, with_room, after_unheard, after_frame, after_tick_given, after_timeout, gone_on, at_its_line, giving_up, at_next, is_coming, is_lost}
use Rattle.alp_jobs.specs.States.{JobState}
use Rattle.alp_monitor.specs.declared.monitor.Monitor.{Monitor}
use Rattle.alp_monitor.specs.declared.monitor.Pass.{Pass}
use Rattle.alp_storm.specs.Logs.{Log}
use Rattle.alp_storm.specs.Rings.{IsRing}
use Rattle.alp_storm.specs.Works.{HasDue, HasBadFrame, HasTurned, WantsMemory, before_turn, behind_turn, IsUnread, EndsWork, Hears, handed_by, item_for, WorksOn, StopsIn}
use Rattle.alp_storm.specs.declared.fault.StormFault.{StormFault}
use Rattle.alp_storm.specs.declared.fault.StormFault.TheVariants as fault
use Rattle.alp_storm.specs.declared.host.Answer.{Answer}
use Rattle.alp_storm.proofs.ToldLemmas.{ready_heard, ready_at_line}
use Rattle.alp_storm.proofs.WorkLemmas.{one_more, none_more, stops_here}

abbrev IsJobReady : JobState → Type 0
IsJobReady j = IsReady j.number (client_at j.crowd j.number)

-- a job that goes on knows what it knew, or comes to a line
next_ready : (j : JobState) (ls : List Line) (ts : List (List Line)) → IsJobReady j → IsJobReady (at_next j ls ts)
next_ready j (l ∷ ls) ts ready = ready
next_ready j [] (ls ∷ ts) ready = ready
next_ready j [] [] ready = ready

next_items : (j : JobState) (ls : List Line) (ts : List (List Line)) → (at_next j ls ts).items ≡ j.items
next_items j (l ∷ ls) ts = refl
next_items j [] (ls ∷ ts) = refl
next_items j [] [] = refl

if_job : (P : JobState → Type 0) (b : Bool) (x y : JobState) → P x → P y → P (cond b x y)
if_job P true x y p q = p
if_job P false x y p q = q

gone_ready : (j : JobState) → IsJobReady j → IsJobReady (gone_on j)
gone_ready j ready =
    if_job IsJobReady (is_coming j.stage) (at_its_line j) (if is_lost j.way then giving_up j else at_next j j.rest j.others) (ready_at_line j.crowd j.number j.line ready)
    (if_job IsJobReady (is_lost j.way) (giving_up j) (at_next j j.rest j.others) ready (next_ready j j.rest j.others ready))

gone_items : (j : JobState) → (gone_on j).items ≡ j.items
gone_items j =
    if_job (λ x. x.items ≡ j.items) (is_coming j.stage) (at_its_line j) (if is_lost j.way then giving_up j else at_next j j.rest j.others) refl
    (if_job (λ x. x.items ≡ j.items) (is_lost j.way) (giving_up j) (at_next j j.rest j.others) refl (next_items j j.rest j.others))

next_number : (j : JobState) (ls : List Line) (ts : List (List Line)) → (at_next j ls ts).number ≡ j.number
next_number j (l ∷ ls) ts = refl
next_number j [] (ls ∷ ts) = refl
next_number j [] [] = refl

gone_number : (j : JobState) → (gone_on j).number ≡ j.number
gone_number j =
    if_job (λ x. x.number ≡ j.number) (is_coming j.stage) (at_its_line j) (if is_lost j.way then giving_up j else at_next j j.rest j.others) refl
    (if_job (λ x. x.number ≡ j.number) (is_lost j.way) (giving_up j) (at_next j j.rest j.others) refl (next_number j j.rest j.others))

-- lines that are all left
same_lines : (job now next : JobState) → now ≡ next → ((p : Line → Bool) → has_lines p next ≡ has_lines p job) → KeepsLines job now
same_lines job now next is same p given_up all = ap (λ (j : JobState). has_lines p j) is ∙ (same p ∙ all)

ours_at : (job now next : JobState) → now ≡ next → ((n : ℕ) → IsJobOf n job → IsJobOf n next) → (n : ℕ) → IsJobOf n job → IsJobOf n now
ours_at job now next is on n ours = subst (IsJobOf n) (sym is) (on n ours)

due_deed : {X : Type 0} (P : X → Type 0) (o : Option X) (x : X) → o ≡ Some x → IfSome o P → P x
due_deed P o x is h = subst (λ q. IfSome q P) is h

module _ {S B E : Type 0} (base_of : S → B) (log : Log B E) (ms : List (Monitor S B E)) (k : ℕ) (job : JobState) (qs rs : List (Pass S B E)) where
  pub ticked : (now : JobState) (server : ℕ) (a : Answer) → HasTurned base_of log ms server event.Tick qs rs a → tick_due job.stage ≡ Some server → now ≡ after_tick_given job → IfSome (tick_due job.stage) (λ n. Does job (gives_tick n) now) → WorksOn base_of log ms k job qs now rs
  ticked now server a turned due is does =
      one_more base_of log ms k (gives_tick server) event.Tick a job now qs rs refl tt turned (due_deed (λ n. Does job (gives_tick n) now) (tick_due job.stage) server due does) (ap (λ (j : JobState). j.items) is ∙ sym (append-nil job.items))
      (ap (λ (j : JobState). j.number) is) (same_lines job now (after_tick_given job) is (λ p. refl)) (λ n ours gives. ours_at job now (after_tick_given job) is (λ m o. ticked_ours m job o) n ours) (λ ready. subst IsJobReady (sym is) ready)

  pub timed_out : (now : JobState) (server : ℕ) (t : TransId) (a : Answer) → HasTurned base_of log ms server (event.Timeout t) qs rs a → timeout_due job ≡ Some (server, t) → now ≡ after_timeout job → IfSome (timeout_due job) (λ due. Does job (gives_timeout due.0 due.1) now) → WorksOn base_of log ms k job qs now rs
  timed_out now server t a turned due is does =
      one_more base_of log ms k (gives_timeout server t) (event.Timeout t) a job now qs rs refl tt turned (due_deed (λ (x : ℕ × TransId). Does job (gives_timeout x.0 x.1) now) (timeout_due job) (server, t) due does)
      (ap (λ (j : JobState). j.items) is ∙ sym (append-nil job.items)) (ap (λ (j : JobState). j.number) is) (same_lines job now (after_timeout job) is (λ p. refl))
      (λ n ours gives. ours_at job now (after_timeout job) is (λ m o. timed_ours m job o) n ours) (λ ready. subst IsJobReady (sym is) ready)

  pub heard : (now : JobState) (frame : Addressed) (client epoch number : ℕ) (c : Call) (a : Answer) → frame_due job ≡ Some frame → HasTurned base_of log ms frame.server (event.Call client epoch number c) qs rs a → IfSome a.reply replies.IsSendable
      → Hears job frame (item_for job.line frame (sent.Call client epoch number c) a) client number a now → WorksOn base_of log ms k job qs now rs
  heard now frame client epoch number c a due turned may h =
      let x : Item = item_for job.line frame (sent.Call client epoch number c) a in
      one_more base_of log ms k (sends x) (event.Call client epoch number c) a job now qs rs (refl, h.told) (refl, refl, refl) turned h.does (ap (λ (j : JobState). j.items) h.now_is)
      (ap (λ (j : JobState). j.number) h.now_is) (same_lines job now (after_frame job frame x) h.now_is (λ p. refl))
      (λ n ours gives. subst (IsJobOf n) (sym h.now_is) (sent_ours n job ours frame x due refl gives)) (λ ready. subst IsJobReady (sym h.now_is) (ready_heard job.crowd job.number job.line (asked_at job.stage) frame a.reply may ready))

  pub gone : (now : JobState) → now ≡ gone_on job → GoesOn job now → WorksOn base_of log ms k job qs now qs
  gone now is goes =
      none_more base_of log ms k job now qs goes (ap (λ (j : JobState). j.items) is ∙ gone_items job) (ap (λ (j : JobState). j.number) is ∙ gone_number job)
      (λ p given_up all. ap (λ (j : JobState). has_lines p j) is ∙ gone_lines job p given_up all) (ours_at job now (gone_on job) is (λ m o. gone_ours m job o)) (λ ready. subst IsJobReady (sym is) (gone_ready job ready))

  -- where room was made
  pub roomed : (now : JobState) → now ≡ with_room job → GoesOn job now → WorksOn base_of log ms k job qs now qs
  roomed now is goes =
      none_more base_of log ms k job now qs goes (ap (λ (j : JobState). j.items) is) (ap (λ (j : JobState). j.number) is) (same_lines job now (with_room job) is (λ p. refl))
      (ours_at job now (with_room job) is (λ m o. room_ours m job o)) (λ ready. subst IsJobReady (sym is) ready)

  -- where all is done
  pub still : WorksOn base_of log ms k job qs job qs
  still = λ old first w. w

-- ---- where a worker stops

-- a frame that spells no request is none that its client asks anew
asks_none : (o : Option Request) (bytes : List ℕ) → IsAsked o (sent_by bytes) → whole request bytes ≡ None → o ≡ None
asks_none None bytes asked unread = refl
asks_none (Some r) bytes asked unread = (let wrong : sent.Bytes bytes ≡ sent.Call r.client r.epoch r.number r.call = sym (ap (read_as bytes) unread) ∙ asked in absurd (cc))

bad_frame : (job : JobState) (frame : Addressed) → frame_due job ≡ Some frame → IfSome (request_next job.crowd job.number job.line (asked_at job.stage)) request.Fits → whole request frame.bytes ≡ None → HasBadFrame job
bad_frame job frame due fits unread = record {
  frame = frame;
  due = due;
  unread = unread;
  unasked = asks_none (request_next job.crowd job.number job.line (asked_at job.stage)) frame.bytes (asked_is job.crowd job.number job.line (asked_at job.stage) frame (sent_by frame.bytes) due fits refl) unread;
}

module _ {S B E : Type 0} (base_of : S → B) (log : Log B E) (ms : List (Monitor S B E)) where
  -- by a turn that was not answered, or whose reply was not heard
  pub stopped : (k m : ℕ) (f : StormFault) (job now : JobState) (qs rs : List (Pass S B E)) → m ≡ k → IsRing base_of ms m rs → EndsWork base_of log ms f job qs now rs → StopsIn base_of log ms k f job qs now rs
  stopped k m f job now qs rs same ring why = stops_here base_of log ms k f job now qs rs (subst (λ n. IsRing base_of ms n rs) same ring) why

  -- where memory was refused before a turn
  pub wanting : (k : ℕ) (job now : JobState) (qs : List (Pass S B E)) → now ≡ job → IsRing base_of ms k qs → StopsIn base_of log ms k fault.OutOfMemory job qs now qs
  wanting k job now qs same ring = stopped k k fault.OutOfMemory job now qs qs refl ring (before_turn same refl)

  -- where a frame was not read
  pub unread : (k : ℕ) (f : StormFault) (job : JobState) (qs : List (Pass S B E)) (frame : Addressed) → frame_due job ≡ Some frame → IfSome (request_next job.crowd job.number job.line (asked_at job.stage)) request.Fits → IsUnread frame.bytes f → IsRing base_of ms k qs
      → StopsIn base_of log ms k f job qs job qs
  unread k fault.OutOfMemory job qs frame due fits why ring = wanting k job job qs refl ring
  unread k fault.BadFrame job qs frame due fits why ring = stopped k k fault.BadFrame job job qs qs refl ring (refl, refl, bad_frame job frame due fits why)
  unread k (fault.DiskFault server) job qs frame due fits why ring = absurd why
  unread k (fault.JournalFull server) job qs frame due fits why ring = absurd why
  unread k (fault.NoServer server) job qs frame due fits why ring = absurd why

  -- where its reply was not heard
  pub unheard : (k m : ℕ) (job now : JobState) (qs rs : List (Pass S B E)) (frame : Addressed) (client epoch number : ℕ) (c : Call) (a : Answer) → m ≡ k → IsRing base_of ms m rs → frame_due job ≡ Some frame → sent_by frame.bytes ≡ sent.Call client epoch number c
      → HasTurned base_of log ms frame.server (event.Call client epoch number c) qs rs a → now ≡ after_unheard job (item_for job.line frame (sent.Call client epoch number c) a) → StopsIn base_of log ms k fault.OutOfMemory job qs now rs
  unheard k m job now qs rs frame client epoch number c a same ring due spelled turned is =
      stopped k m fault.OutOfMemory job now qs rs same ring
      (behind_turn (record { frame = frame; due = due; client = client; epoch = epoch; number = number; asked = c; spelled = spelled; answer = a; turned = turned; now_is = is }))

  -- a worker that made room before
  pub first_ok : {F : Type 0} (k : ℕ) (job mid now : JobState) (qs rs : List (Pass S B E)) (r : Result Bool F) → WorksOn base_of log ms k job qs mid qs → IfOk r (λ over. (over ≡ false) × WorksOn base_of log ms k mid qs now rs) → IfOk r (λ over. (over ≡ false) × WorksOn base_of log ms k job qs now rs)
  first_ok k job mid now qs rs (Ok over) on h = (h.0, λ old first w. h.1 old first (on old first w))
  first_ok k job mid now qs rs (Err f) on h = tt

  pub first_err : {T : Type 0} (k : ℕ) (job mid now : JobState) (qs rs : List (Pass S B E)) (r : Result T StormFault) → WorksOn base_of log ms k job qs mid qs → IfErr r (λ f. StopsIn base_of log ms k f mid qs now rs) → IfErr r (λ f. StopsIn base_of log ms k f job qs now rs)
  first_err k job mid now qs rs (Ok x) on h = tt
  first_err k job mid now qs rs (Err f) on h = λ old first w. h old first (on old first w)

-- ---- what a client hears

-- two facts of a result that went well
pub on_ok : {T F : Type 0} (A B C : Type 0) (r : Result T F) → (A → B → C) → OnOk r A → OnOk r B → OnOk r C
on_ok A B C (Ok x) f a b = f a b
on_ok A B C (Err e) f a b = tt

-- the item, as it is put together
pub item_same : (l : Line) (frame : Addressed) (said : Sent) (a : Answer) (m : Mark) (r : Option Reply) → m ≡ mark_of l → r ≡ a.reply → ◌≡◌ {A = Item} (record { line = 0; server = frame.server; mark = m; sent = said; reply = r; place = Some a.place }) (item_for l frame said a)
item_same l frame said a m r mark_is reply_is = λ i. record { line = 0; server = frame.server; mark = mark_is i; sent = said; reply = reply_is i; place = Some a.place }

pub frame_of_item : (l : Line) (frame : Addressed) (said : Sent) (a : Answer) (x : Item) → x ≡ item_for l frame said a → said ≡ sent_by frame.bytes → IsOfFrame l frame x
frame_of_item l frame said a x is sent_is = subst (IsOfFrame l frame) (sym is) (record { server = refl; mark = refl; sent = sent_is })

pub hears_item : (job now : JobState) (frame : Addressed) (said : Sent) (client number : ℕ) (a : Answer) (x : Item) → x ≡ item_for job.line frame said a → told_by (handed_by a.epoch client number a.reply) ≡ a.reply → now ≡ after_frame job frame x → Does job (sends x) now
    → Hears job frame (item_for job.line frame said a) client number a now
hears_item job now frame said client number a x is told now_is does = record { now_is = now_is ∙ ap (after_frame job frame) is; does = subst (λ y. Does job (sends y) now) is does; told = told }

-- what holds where the bytes were spelled
pub spelled_ok : {T F : Type 0} (A : Type 0) (r : Result T F) (x : T) → r ≡ Ok x → OnOk r A → A
spelled_ok A r x is h = subst (λ q. OnOk q A) is h

pub spelled_is : {T F : Type 0} (P : T → Type 0) (r : Result T F) (x : T) → r ≡ Ok x → IfOk r P → P x
spelled_is P r x is h = subst (λ q. IfOk q P) is h
