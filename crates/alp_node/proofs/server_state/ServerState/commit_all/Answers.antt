use Rattle.std.specs.Prelude.{false, None, Some, Ok, Err, List, length, max}
use Rattle.std.specs.FinMap as map
use Rattle.std.proofs.Common.{◌≡◌, ◌+◌, ◌≤◌, ◌++◌, ◌∷◌, [], sym, ap, ◌∙◌, subst, arith, length-append}
use Rattle.alp_base.specs.declared.bytes.NoteChange.{NoteChange}
use Rattle.alp_base.specs.declared.ids.JoinNo.{JoinNo}
use Rattle.alp_base.specs.declared.ids.Stamp.{Stamp}
use Rattle.alp_files.specs.declared.refusal.Refusal.TheVariants as refusal
use Rattle.alp_vault.specs.Contents.{Contents}
use Rattle.alp_vault.specs.Volumes.{AreNoteChanges}
use Rattle.alp_journal.specs.declared.act.Act.{Act}
use Rattle.alp_journal.specs.declared.act.Act.TheVariants as act
use Rattle.alp_journal.specs.declared.event.Event.TheVariants as event
use Rattle.alp_journal.specs.declared.message.Message.TheVariants as msg
use Rattle.alp_journal.specs.Account.{Account, state_of}
use Rattle.alp_journal.specs.Coordinator.{joins_of}
use Rattle.alp_journal.specs.Deeds.{Hears}
use Rattle.alp_journal.specs.Messages.{why_not_own}
use Rattle.alp_coord.specs.declared.coordinator.Coordinator.{Coordinator}
use Rattle.alp_coord.specs.Coordinators.{ComesLike, IsAlong}
use Rattle.alp_node.specs.Eases.{eased}
use Rattle.alp_node.specs.Releases.{grant_acts, granted_behind, let_go}
use Rattle.alp_node.specs.Says.{said_each}
use Rattle.alp_node.specs.ServerState.{IsAs}
use Rattle.alp_node.specs.Steps.{IsStepAs, refused_answer, told_answer}
use Rattle.alp_node.specs.Writes.{HasHalted, HasKept, HasLogFor, HasMade, HasNone, IsPending, KeepsPlaces, WasKept, Writes}
use Rattle.alp_node.specs.declared.decide.Decided.{Decided}
use Rattle.alp_node.specs.declared.decide.Decided.TheVariants as decided
use Rattle.alp_node.specs.declared.lives.Live.{Live}
use Rattle.alp_node.specs.declared.server_state.ServerState.{ServerState}
use Rattle.alp_node.specs.declared.stored.StoreFault.TheVariants as fault
use Rattle.alp_node.proofs.FinishedFates.{kept_coordinator}
use Rattle.alp_node.proofs.LastSteps.{last_changes, last_come, last_few, last_joins, last_log, last_low, last_of, last_part, last_stop, last_written}
use Rattle.alp_node.proofs.LastVotes.{hears_from, heard_all, heard_late}
use Rattle.alp_node.proofs.LetGoWrites.{granted_few}
use Rattle.alp_node.proofs.ReleaseLemmas.{let_go_of}
use Rattle.alp_node.proofs.WriteSteps.{halted_step, wanting_result, written_step}
use Rattle.alp_node.proofs.server_state.ServerState.commit_all.Goals as goal

pub decision-requires-clause-time : goal.decision-requires-clause-time
decision-requires-clause-time g c =
    let k = c.args.self.now in
    let G = g.V.Vault in
    let t = c.args.trans in
    let j = c.args.join in
    last_low G k 0 t j c.args.ts c.args.latest c.requires.last c.requires.time c.requires.up c.requires.ready c.requires.may

pub decision-requires-clause-few : goal.decision-requires-clause-few
decision-requires-clause-few g c =
    let k = c.args.self.now in
    let G = g.V.Vault in
    let t = c.args.trans in
    let j = c.args.join in
    let js : List JoinNo = last_joins G k 0 t j c.args.ts c.args.latest c.requires.last c.requires.time c.requires.up c.requires.ready c.requires.may in
    let items : c.as_slice.result.now ≡ js = c.as_slice.ensures.value ∙ c.in_ok-joins.ensures ∙ ap joins_of (last_of G k 0 t j c.args.ts c.args.latest c.requires.last c.requires.time c.requires.up c.requires.ready c.requires.may).is in
    let one : 1 ≤ k.server = (let on : G.server k.vault ≡ k.server = c.requires.on.server in let first : 1 ≤ G.server k.vault = c.knows.ensures.server.first in omega (arith, on, first)) in
    let among : k.server ≤ k.servers = (let on : G.server k.vault ≡ k.server = c.requires.on.server in let all : G.servers k.vault ≡ k.servers = c.requires.on.servers in let le : G.server k.vault ≤ G.servers k.vault = c.knows.ensures.server.among in omega (arith, on, all, le)) in
    let most : k.servers ≤ 8 = (let all : G.servers k.vault ≡ k.servers = c.requires.on.servers in let le : G.servers k.vault ≤ 8 = c.knows.ensures.server.most in omega (arith, all, le)) in
    let few : length js ≤ 7 = last_few G k 0 t j c.args.ts c.args.latest c.requires.last c.requires.time c.requires.up c.requires.ready c.requires.may one among most in
    subst (λ (is : List JoinNo). length is ≤ 7) (sym items) few

pub keep-requires-clause-live : goal.keep-requires-clause-live
keep-requires-clause-live g c none =
    let k = c.args.self.now in
    let G = g.V.Vault in
    let t = c.args.trans in
    let j = c.args.join in
    let js : List JoinNo = last_joins G k 0 t j c.args.ts c.args.latest c.requires.last c.requires.time c.requires.up c.requires.ready c.requires.may in
    let stamp : Stamp = record { ts = c.args.latest; trans = t } in
    let items : c.as_slice.result.now ≡ js = c.as_slice.ensures.value ∙ c.in_ok-joins.ensures ∙ ap joins_of (last_of G k 0 t j c.args.ts c.args.latest c.requires.last c.requires.time c.requires.up c.requires.ready c.requires.may).is in
    let p = c.in_ok-pending.pending in
    let pends : IsPending k stamp js p = subst (λ (is : List JoinNo). IsPending k stamp is p) items c.in_ok-pending.ensures in
    let l : Live = (last_part G k 0 t j c.args.ts c.args.latest c.requires.last c.requires.time c.requires.up c.requires.ready c.requires.may).0 in
    let there : map.get k.lives p.stamp.trans ≡ Some l = ap (λ (s : Stamp). map.get k.lives s.trans) pends.stamp ∙ (last_part G k 0 t j c.args.ts c.args.latest c.requires.last c.requires.time c.requires.up c.requires.ready c.requires.may).1 in
    let wrong : None ≡ Some l = sym none ∙ there in
    cc

pub keep-requires-clause-changes : goal.keep-requires-clause-changes
keep-requires-clause-changes g c =
    let k = c.args.self.now in
    let G = g.V.Vault in
    let t = c.args.trans in
    let j = c.args.join in
    let js : List JoinNo = last_joins G k 0 t j c.args.ts c.args.latest c.requires.last c.requires.time c.requires.up c.requires.ready c.requires.may in
    let stamp : Stamp = record { ts = c.args.latest; trans = t } in
    let items : c.as_slice.result.now ≡ js = c.as_slice.ensures.value ∙ c.in_ok-joins.ensures ∙ ap joins_of (last_of G k 0 t j c.args.ts c.args.latest c.requires.last c.requires.time c.requires.up c.requires.ready c.requires.may).is in
    let p = c.in_ok-pending.pending in
    let pends : IsPending k stamp js p = subst (λ (is : List JoinNo). IsPending k stamp is p) items c.in_ok-pending.ensures in
    subst (AreNoteChanges k.server k.servers (G.held k.vault).notes) (sym pends.notes) (last_changes G k 0 t j c.args.ts c.args.latest c.requires.last c.requires.time c.requires.up c.requires.ready c.requires.may pends.fits (G.held k.vault).notes (c.requires.noted c.requires.up))

pub keep-requires-clause-log : goal.keep-requires-clause-log
keep-requires-clause-log g c x at =
    let k = c.args.self.now in
    let G = g.V.Vault in
    let t = c.args.trans in
    let j = c.args.join in
    let js : List JoinNo = last_joins G k 0 t j c.args.ts c.args.latest c.requires.last c.requires.time c.requires.up c.requires.ready c.requires.may in
    let stamp : Stamp = record { ts = c.args.latest; trans = t } in
    let items : c.as_slice.result.now ≡ js = c.as_slice.ensures.value ∙ c.in_ok-joins.ensures ∙ ap joins_of (last_of G k 0 t j c.args.ts c.args.latest c.requires.last c.requires.time c.requires.up c.requires.ready c.requires.may).is in
    let p = c.in_ok-pending.pending in
    let pends : IsPending k stamp js p = subst (λ (is : List JoinNo). IsPending k stamp is p) items c.in_ok-pending.ensures in
    subst (HasLogFor (G.held k.vault).notes k.sizes x) (sym pends.notes)
    (last_log G k 0 t j c.args.ts c.args.latest c.requires.last c.requires.time c.requires.up c.requires.ready c.requires.may pends.fits (G.held k.vault).notes (c.requires.noted c.requires.up) x (sym (ap (λ (s : Stamp). map.get k.lives s.trans) pends.stamp) ∙ at))

pub keep-requires-clause-room : goal.keep-requires-clause-room
keep-requires-clause-room g c =
    let two : length c.in_ok-pending.pending.acts.items ≡ 2 = ap (λ (xs : List Act). length xs) c.in_ok-pending.ensures.acts in
    let room = c.in_ok-pending.ensures.room in
    omega (arith, two, room)

pub keep-requires-clause-place : goal.keep-requires-clause-place
keep-requires-clause-place g c =
    let one : length c.in_ok-pending.pending.halted.items ≡ 1 = ap (λ (xs : List Act). length xs) c.in_ok-pending.ensures.halted in
    let place = c.in_ok-pending.ensures.place in
    omega (arith, one, place)

pub decide-requires-clause-voted : goal.decide-requires-clause-voted
decide-requires-clause-voted g c =
    let k = c.args.self.now in
    let G = g.V.Vault in
    let t = c.args.trans in
    let j = c.args.join in
    let p = c.in_ok-pending.pending in
    let h : HasKept G k c.keep.new.self p c.in-Made.acts.items = subst (λ (x : Decided). WasKept G k c.keep.new.self p x) c.in-Made.is c.in_ok-acts.ensures.made in
    let mid : Coordinator = c.hear.new.self in
    let was : c.keep.new.self.coordinator ≡ k.coordinator = kept_coordinator G k c.keep.new.self p c.in-Made.acts.items h in
    let hears : ComesLike (Hears t j c.args.ts) k.coordinator mid = hears_from k.coordinator c.keep.new.self.coordinator mid t j c.args.ts (k.clock + 1) c.args.latest (last_of G k 0 t j c.args.ts c.args.latest c.requires.last c.requires.time c.requires.up c.requires.ready c.requires.may) was c.hear.ensures.heard in
    heard_all k.coordinator mid t j c.args.ts (k.clock + 1) c.args.latest (last_of G k 0 t j c.args.ts c.args.latest c.requires.last c.requires.time c.requires.up c.requires.ready c.requires.may) hears

pub decide-requires-clause-late : goal.decide-requires-clause-late
decide-requires-clause-late g c =
    let k = c.args.self.now in
    let G = g.V.Vault in
    let t = c.args.trans in
    let j = c.args.join in
    let p = c.in_ok-pending.pending in
    let h : HasKept G k c.keep.new.self p c.in-Made.acts.items = subst (λ (x : Decided). WasKept G k c.keep.new.self p x) c.in-Made.is c.in_ok-acts.ensures.made in
    let mid : Coordinator = c.hear.new.self in
    let was : c.keep.new.self.coordinator ≡ k.coordinator = kept_coordinator G k c.keep.new.self p c.in-Made.acts.items h in
    let hears : ComesLike (Hears t j c.args.ts) k.coordinator mid = hears_from k.coordinator c.keep.new.self.coordinator mid t j c.args.ts (k.clock + 1) c.args.latest (last_of G k 0 t j c.args.ts c.args.latest c.requires.last c.requires.time c.requires.up c.requires.ready c.requires.may) was c.hear.ensures.heard in
    heard_late k.coordinator mid t j c.args.ts (k.clock + 1) c.args.latest (last_of G k 0 t j c.args.ts c.args.latest c.requires.last c.requires.time c.requires.up c.requires.ready c.requires.may) hears

pub tell_commits-requires : goal.tell_commits-requires
tell_commits-requires g c =
    let k = c.args.self.now in
    let G = g.V.Vault in
    let p = c.in_ok-pending.pending in
    let h : HasKept G k c.keep.new.self p c.in-Made.acts.items = subst (λ (x : Decided). WasKept G k c.keep.new.self p x) c.in-Made.is c.in_ok-acts.ensures.made in
    let acts : List Act = c.in-Made.acts.items in
    let said : length acts ≡ length (p.acts.items ++ grant_acts (granted_behind k p.stamp.trans)) = ap (λ (xs : List Act). length xs) h.said in
    let both : length (p.acts.items ++ grant_acts (granted_behind k p.stamp.trans)) ≡ length p.acts.items + length (grant_acts (granted_behind k p.stamp.trans)) = length-append p.acts.items (grant_acts (granted_behind k p.stamp.trans)) in
    let two : length p.acts.items ≡ 2 = ap (λ (xs : List Act). length xs) c.in_ok-pending.ensures.acts in
    let few : length (grant_acts (granted_behind k p.stamp.trans)) ≤ length k.locks.waiting = granted_few k p.stamp.trans c.requires.ready.2.taken in
    let keeps : KeepsPlaces p (decided.Made c.in-Made.acts) = subst (KeepsPlaces p) c.in-Made.is c.in_ok-acts.ensures.capacity in
    let places = c.in_ok-pending.ensures.room in
    let same : length c.as_slice-2.result.now ≡ length c.as_slice.result.now = ap (λ (xs : List JoinNo). length xs) (c.as_slice-2.ensures.value ∙ sym c.as_slice.ensures.value) in
    omega (arith, said, both, two, few, keeps, places, same)

pub returns-in-Halted : goal.returns-in-Halted
returns-in-Halted g c from =
    let k = c.args.self.now in
    let G = g.V.Vault in
    let t = c.args.trans in
    let j = c.args.join in
    let js : List JoinNo = last_joins G k from t j c.args.ts c.args.latest c.requires.last c.requires.time c.requires.up c.requires.ready c.requires.may in
    let stamp : Stamp = record { ts = c.args.latest; trans = t } in
    let items : c.as_slice.result.now ≡ js = c.as_slice.ensures.value ∙ c.in_ok-joins.ensures ∙ ap joins_of (last_of G k from t j c.args.ts c.args.latest c.requires.last c.requires.time c.requires.up c.requires.ready c.requires.may).is in
    let p = c.in_ok-pending.pending in
    let pends : IsPending k stamp js p = subst (λ (is : List JoinNo). IsPending k stamp is p) items c.in_ok-pending.ensures in
    let l : Live = (last_part G k from t j c.args.ts c.args.latest c.requires.last c.requires.time c.requires.up c.requires.ready c.requires.may).0 in
    let there : map.get k.lives p.stamp.trans ≡ Some l = ap (λ (s : Stamp). map.get k.lives s.trans) pends.stamp ∙ (last_part G k from t j c.args.ts c.args.latest c.requires.last c.requires.time c.requires.up c.requires.ready c.requires.may).1 in
    let journal : (a : Account) (held : Contents) → IsAs a held k → why_not_own false (state_of a) t ≡ None = λ a held is. c.requires.journal a held is ∙ c.requires.may in
    let v = c.keep.new.self.vault in
    let d : HasHalted G k c.keep.new.self p c.in-Halted.acts.items = subst (λ (x : Decided). WasKept G k c.keep.new.self p x) c.in-Halted.is c.in_ok-acts.ensures.made in
    let w : Writes G k.vault v l.part (last_written G k from t j c.args.ts c.args.latest c.requires.last c.requires.time c.requires.up c.requires.ready c.requires.may) (Err d.why) = subst (λ (ns : List NoteChange). Writes G k.vault v l.part ns (Err d.why)) pends.notes (d.writes l there) in
    let so : c.refused.result ≡ refused_answer refusal.Down (act.Decided stamp js ∷ d.shown ∷ []) = c.refused.ensures ∙ ap (refused_answer refusal.Down) (c.new.ensures ∙ d.said ∙ ap (λ (xs : List Act). xs ++ d.shown ∷ []) pends.halted) in
    subst (λ (y : ServerState _). IsStepAs G None k y (event.Arrive from (msg.Ready t j c.args.ts)) (Ok c.refused.result)) (sym d.kept)
    (halted_step G k v l.part (last_written G k from t j c.args.ts c.args.latest c.requires.last c.requires.time c.requires.up c.requires.ready c.requires.may) c.requires.up from (msg.Ready t j c.args.ts) (act.Decided stamp js ∷ []) d.why d.shown c.refused.result d.of (last_stop G k from t j c.args.ts c.args.latest c.requires.last c.requires.time c.requires.up c.requires.ready c.requires.may pends.fits journal v) w so)

pub returns-in_err-acts : goal.returns-in_err-acts
returns-in_err-acts g c from =
    let k = c.args.self.now in
    let G = g.V.Vault in
    let t = c.args.trans in
    let j = c.args.join in
    let js : List JoinNo = last_joins G k from t j c.args.ts c.args.latest c.requires.last c.requires.time c.requires.up c.requires.ready c.requires.may in
    let stamp : Stamp = record { ts = c.args.latest; trans = t } in
    let items : c.as_slice.result.now ≡ js = c.as_slice.ensures.value ∙ c.in_ok-joins.ensures ∙ ap joins_of (last_of G k from t j c.args.ts c.args.latest c.requires.last c.requires.time c.requires.up c.requires.ready c.requires.may).is in
    let p = c.in_ok-pending.pending in
    let pends : IsPending k stamp js p = subst (λ (is : List JoinNo). IsPending k stamp is p) items c.in_ok-pending.ensures in
    let l : Live = (last_part G k from t j c.args.ts c.args.latest c.requires.last c.requires.time c.requires.up c.requires.ready c.requires.may).0 in
    let there : map.get k.lives p.stamp.trans ≡ Some l = ap (λ (s : Stamp). map.get k.lives s.trans) pends.stamp ∙ (last_part G k from t j c.args.ts c.args.latest c.requires.last c.requires.time c.requires.up c.requires.ready c.requires.may).1 in
    let v = c.keep.new.self.vault in
    let none : HasNone G k c.keep.new.self p = c.in_err-acts.ensures.none in
    let w : Writes G k.vault v l.part (last_written G k from t j c.args.ts c.args.latest c.requires.last c.requires.time c.requires.up c.requires.ready c.requires.may) (Err fault.OutOfMemory) = subst (λ (ns : List NoteChange). Writes G k.vault v l.part ns (Err fault.OutOfMemory)) pends.notes (none.writes l there) in
    subst (λ (y : ServerState _). IsStepAs G None k y (event.Arrive from (msg.Ready t j c.args.ts)) c.from_residual-in_err-acts.result) (sym none.kept)
    (wanting_result G k v l.part (last_written G k from t j c.args.ts c.args.latest c.requires.last c.requires.time c.requires.up c.requires.ready c.requires.may) c.requires.up (event.Arrive from (msg.Ready t j c.args.ts)) c.from_residual-in_err-acts.result w c.from_residual-in_err-acts.ensures.0)

pub returns : goal.returns
returns g c from =
    let k = c.args.self.now in
    let G = g.V.Vault in
    let t = c.args.trans in
    let j = c.args.join in
    let js : List JoinNo = last_joins G k from t j c.args.ts c.args.latest c.requires.last c.requires.time c.requires.up c.requires.ready c.requires.may in
    let stamp : Stamp = record { ts = c.args.latest; trans = t } in
    let items : c.as_slice.result.now ≡ js = c.as_slice.ensures.value ∙ c.in_ok-joins.ensures ∙ ap joins_of (last_of G k from t j c.args.ts c.args.latest c.requires.last c.requires.time c.requires.up c.requires.ready c.requires.may).is in
    let p = c.in_ok-pending.pending in
    let pends : IsPending k stamp js p = subst (λ (is : List JoinNo). IsPending k stamp is p) items c.in_ok-pending.ensures in
    let l : Live = (last_part G k from t j c.args.ts c.args.latest c.requires.last c.requires.time c.requires.up c.requires.ready c.requires.may).0 in
    let there : map.get k.lives p.stamp.trans ≡ Some l = ap (λ (s : Stamp). map.get k.lives s.trans) pends.stamp ∙ (last_part G k from t j c.args.ts c.args.latest c.requires.last c.requires.time c.requires.up c.requires.ready c.requires.may).1 in
    let journal : (a : Account) (held : Contents) → IsAs a held k → why_not_own false (state_of a) t ≡ None = λ a held is. c.requires.journal a held is ∙ c.requires.may in
    let h : HasKept G k c.keep.new.self p c.in-Made.acts.items = subst (λ (x : Decided). WasKept G k c.keep.new.self p x) c.in-Made.is c.in_ok-acts.ensures.made in
    let mid : Coordinator = c.hear.new.self in
    let was : c.keep.new.self.coordinator ≡ k.coordinator = kept_coordinator G k c.keep.new.self p c.in-Made.acts.items h in
    let hears : ComesLike (Hears t j c.args.ts) k.coordinator mid = hears_from k.coordinator c.keep.new.self.coordinator mid t j c.args.ts (k.clock + 1) c.args.latest (last_of G k from t j c.args.ts c.args.latest c.requires.last c.requires.time c.requires.up c.requires.ready c.requires.may) was c.hear.ensures.heard in
    let z : Coordinator = c.decide.new.self in
    let v = h.made.vault in
    let part : HasMade (G.tells k.vault) (G.held k.vault).cells k h.made t = subst (λ (s : Stamp). HasMade (G.tells k.vault) (G.held k.vault).cells k h.made s.trans) pends.stamp h.part in
    let w : Writes G k.vault v l.part (last_written G k from t j c.args.ts c.args.latest c.requires.last c.requires.time c.requires.up c.requires.ready c.requires.may) (Ok tt) = subst (λ (ns : List NoteChange). Writes G k.vault v l.part ns (Ok tt)) pends.notes (h.writes l there) in
    let then : ServerState g.row.V.Denot = record (let_go k t) { lives = eased part.blocks (let_go k t).lives (map.keys k.lives); clock = max k.clock c.args.latest; coordinator = z; joins = k.joins; vault = v } in
    let new : record c.keep.new.self { coordinator = z } ≡ then =
    (λ i. record (h.kept i) { coordinator = z }) ∙ (λ i. record (part.kept i) { clock = max k.clock (pends.stamp i).ts; coordinator = z })
    ∙ (λ i. record (let_go k t) { lives = eased part.blocks (let_go k t).lives (map.keys k.lives); clock = max k.clock c.args.latest; coordinator = z; joins = (ap (λ (y : ServerState _). y.joins) (let_go_of k t)) i; vault = v }) in
    let acts : List Act = (act.Decided stamp js ∷ act.Released t ∷ grant_acts (granted_behind k t)) ++ said_each (λ (i : JoinNo). msg.Commit t i stamp) js in
    let said : c.in-Made.acts.items ≡ act.Decided stamp js ∷ act.Released t ∷ grant_acts (granted_behind k t) = h.said ∙ (λ i. pends.acts i ++ grant_acts (granted_behind k (pends.stamp i).trans)) in
    let last_items : c.as_slice-2.result.now ≡ js = c.as_slice-2.ensures.value ∙ sym c.as_slice.ensures.value ∙ items in
    let so : c.silence.result ≡ told_answer None acts = c.silence.ensures ∙ ap (told_answer None) (c.new-2.ensures ∙ c.tell_commits.ensures.said ∙ (λ i. said i ++ said_each (λ (x : JoinNo). msg.Commit t x stamp) (last_items i))) in
    subst (λ (y : ServerState _). IsStepAs G None k y (event.Arrive from (msg.Ready t j c.args.ts)) (Ok c.silence.result)) (sym new)
    (written_step G k v l.part (last_written G k from t j c.args.ts c.args.latest c.requires.last c.requires.time c.requires.up c.requires.ready c.requires.may) c.requires.up then (event.Arrive from (msg.Ready t j c.args.ts)) c.silence.result acts w
    (last_come G k from t j c.args.ts c.args.latest c.requires.last c.requires.time c.requires.up c.requires.ready c.requires.may pends.fits mid z (subst (λ (x : Coordinator). IsAlong x mid) was c.hear.ensures.along) hears c.decide.ensures.along c.decide.ensures.decided v part.blocks part.opened w journal c.silence.result so))
