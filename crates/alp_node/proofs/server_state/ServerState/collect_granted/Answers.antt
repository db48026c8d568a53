use Rattle.std.specs.Prelude.{Bool, true, false, is_some, IfSome, IsSome, Option, None, Some, Ok, Err}
use Rattle.std.specs.FinMap as map
use Rattle.std.proofs.Common.{◌≡◌, ℕ, ◌+◌, ◌<◌, ◌≤◌, List, [], ◌∷◌, length, refl, sym, ap, ◌∙◌, subst, arith}
use Rattle.alp_base.specs.declared.ids.TransId.{TransId}
use Rattle.alp_files.specs.Locks.{Need}
use Rattle.alp_files.specs.declared.call.Call.TheVariants as call
use Rattle.alp_files.specs.declared.reply.Reply.TheVariants as reply
use Rattle.alp_files.specs.declared.refusal.Refusal.TheVariants as refusal
use Rattle.alp_queue.specs.declared.waiter.Waiter.{Waiter}
use Rattle.alp_locks.specs.Sound.{IsPrepared}
use Rattle.alp_locks.specs.Tables.{Table}
use Rattle.alp_calls.specs.Looks.{Looks}
use Rattle.alp_calls.specs.Parts.{Answered}
use Rattle.alp_calls.specs.declared.fault.CallFault.{CallFault}
use Rattle.alp_calls.specs.declared.fault.CallFault.TheVariants as call_fault
use Rattle.alp_calls.proofs.PartLaws.{sees_files}
use Rattle.alp_journal.specs.declared.act.Act.{Act}
use Rattle.alp_journal.specs.declared.act.Act.TheVariants as act
use Rattle.alp_journal.specs.declared.event.Event.TheVariants as event
use Rattle.alp_coord.specs.Coordinators.{count_of}
use Rattle.alp_node.specs.Asks.{asks_made, makes_file, is_made, plan_if, plan_of, count_made, with_made}
use Rattle.alp_node.specs.Calls.{name_in, next_file, Performed}
use Rattle.alp_node.specs.Steps.{IsStep, IsDown, counted_in, told_answer}
use Rattle.alp_node.specs.Totals.{LiveMap}
use Rattle.alp_node.specs.Waits.{without_calls_of, IsFileCall, IsWaitingCall}
use Rattle.alp_node.specs.declared.answer.Answer.{Answer}
use Rattle.alp_node.specs.declared.answer.Given.{Given}
use Rattle.alp_node.specs.declared.lives.Live.{Live}
use Rattle.alp_node.specs.declared.server_state.ServerState.{ServerState}
use Rattle.alp_node.specs.declared.waits.WaitingCall.{WaitingCall}
use Rattle.alp_node.proofs.CallLemmas.{unseen}
use Rattle.alp_node.proofs.CollectLemmas.{call_is}
use Rattle.alp_node.proofs.CollectedLemmas.{made_plan, collected_left}
use Rattle.alp_node.proofs.CollectStepLemmas.{collect_done, collect_failed, collect_stopped, collect_wanting}
use Rattle.alp_node.proofs.GrantLemmas.{count_given}
use Rattle.alp_node.proofs.PairedLemmas.{few_live}
use Rattle.alp_node.proofs.StandingLemmas.{WorksHere, works_here, works_own}
use Rattle.alp_node.proofs.LookLemmas.{part_unseen}
use Rattle.alp_node.proofs.ShapeLemmas.{shape_shaped}
use Rattle.alp_node.proofs.TotalLemmas.{few_totals}
use Rattle.alp_node.proofs.server_state.ServerState.collect_granted.Goals as goal

pub perform-requires-clause-live : goal.perform-requires-clause-live
perform-requires-clause-live g c none =
    let k = c.args.self.now in
    let mine : WorksHere k c.args.turn.now.client c.args.trans = works_here c.requires.ready.0 (g.V.Vault.serves k.vault) k c.requires.ready.2 c.args.turn.now.client c.args.trans c.requires.works in
    let wrong : None ≡ Some mine.live = sym none ∙ mine.there in
    cc

pub perform-requires-clause-new : goal.perform-requires-clause-new
perform-requires-clause-new g c told l there =
    let (a, h) = c.requires.known told in
    unseen a (g.V.Vault.held c.args.self.now.vault) c.args.self.now c.args.trans l h c.requires.up there

pub perform-requires-clause-files : goal.perform-requires-clause-files
perform-requires-clause-files g c told l there = sees_files (g.V.Vault.held c.args.self.now.vault).cells l.part (c.requires.sound told c.args.trans l there)

pub perform-requires-clause-ready : goal.perform-requires-clause-ready
perform-requires-clause-ready g c l there =
    let k = c.args.self.now in
    let ready = c.requires.ready.2 in
    let w : WaitingCall = record { client = c.args.turn.now.client; number = c.args.number; trans = c.args.trans; call = c.args.call.now; counts = Some c.args.counts; is_granted = true } in
    let its : IsWaitingCall k.server k.epoch k.given (count_of k.coordinator) k.sizes k.lives w = call_is k c.args.turn.now.client c.args.number w c.requires.ready.0 (g.V.Vault.serves k.vault) ready c.requires.waiting refl in
    let file : IsFileCall k.server k.epoch k.given (count_of k.coordinator) k.sizes k.lives w c.args.counts = its.file c.args.counts refl in
    let low : l.part.last ≤ c.requires.ready.0 = ready.opens c.args.trans l there in
    record {
      part = (ready.within c.args.trans l there).part;
      last = omega (arith, low, c.requires.ready.1);
      file = subst (λ (o : Option TransId). IsSome o) (sym its.named) refl;
      whole = file.formed.0;
      shaped = shape_shaped k.server k.epoch k.given (length l.part.opens.items) c.args.call.now (file.limits l there).shape;
    }

pub perform-requires-clause-caller : goal.perform-requires-clause-caller
perform-requires-clause-caller g c l there = (works_own c.requires.ready.0 (g.V.Vault.serves c.args.self.now.vault) c.args.self.now c.args.turn.now.client c.args.trans l c.requires.ready.2 c.requires.works there).1

pub perform-requires-clause-few : goal.perform-requires-clause-few
perform-requires-clause-few g c = few_totals c.args.self.now.lives (few_live c.requires.ready.0 (g.V.Vault.serves c.args.self.now.vault) c.args.self.now c.requires.ready.2) (λ t l there. (c.requires.ready.2.within t l there).part)

-- what holds of the plan holds of it where there is one
if_plan : (P : Waiter → Type 0) (plan : Waiter) → P plan → (b : Bool) (o : Option Waiter) → o ≡ plan_if b plan → IfSome o P
if_plan P plan holds b o is = subst (λ (x : Option Waiter). IfSome x P) (sym is) (go b)
  where
    go : (d : Bool) → IfSome (plan_if d plan) P
    go true = holds
    go false = tt

pub keep_made-requires-clause-room : goal.keep_made-requires-clause-room
keep_made-requires-clause-room g c =
    let k = c.args.self.now in
    let mine : WorksHere k c.args.turn.now.client c.args.trans = works_here c.requires.ready.0 (g.V.Vault.serves k.vault) k c.requires.ready.2 c.args.turn.now.client c.args.trans c.requires.works in
    let did = c.in-Ok.ensures.performed mine.live mine.there in
    let low : k.given ≤ c.requires.ready.0 = c.requires.ready.2.given in
    subst (λ (n : ℕ). n + 1 < 4294967296) (sym (ap (λ (x : ServerState _). x.given) did.kept)) (omega (arith, low, c.requires.ready.1))

pub keep_made-requires-clause-entered : goal.keep_made-requires-clause-entered
keep_made-requires-clause-entered g c =
    let k = c.args.self.now in
    let mine : WorksHere k c.args.turn.now.client c.args.trans = works_here c.requires.ready.0 (g.V.Vault.serves k.vault) k c.requires.ready.2 c.args.turn.now.client c.args.trans c.requires.works in
    let did = c.in-Ok.ensures.performed mine.live mine.there in
    let plan : Waiter = plan_of k.locks c.args.trans (asks_made (next_file k) c.no_needs-needs.result) in
    if_plan (λ (w : Waiter). is_some (map.get c.perform.new.self.locks.held w.trans) ≡ true) plan
    (ap (λ (x : ServerState _). is_some (map.get x.locks.held c.args.trans)) did.kept ∙ c.requires.ready.2.known c.args.trans mine.live mine.there)
    (makes_file c.args.call.now) c.in_ok-made.made c.in_ok-made.ensures

pub keep_made-requires-clause-prepared : goal.keep_made-requires-clause-prepared
keep_made-requires-clause-prepared g c =
    let k = c.args.self.now in
    let mine : WorksHere k c.args.turn.now.client c.args.trans = works_here c.requires.ready.0 (g.V.Vault.serves k.vault) k c.requires.ready.2 c.args.turn.now.client c.args.trans c.requires.works in
    let did = c.in-Ok.ensures.performed mine.live mine.there in
    let plan : Waiter = plan_of k.locks c.args.trans (asks_made (next_file k) c.no_needs-needs.result) in
    if_plan (IsPrepared c.perform.new.self.locks.held) plan
    (subst (λ (x : Table). IsPrepared x.held plan) (sym (ap (λ (y : ServerState _). y.locks) did.kept)) refl)
    (makes_file c.args.call.now) c.in_ok-made.made c.in_ok-made.ensures

-- it is answered, and waits no more
pub returns-in-Ok : goal.returns-in-Ok
returns-in-Ok g c =
    let G = g.V.Vault in
    let k = c.args.self.now in
    let turn = c.args.turn.now in
    let t : TransId = c.args.trans in
    let N = c.perform.new.self in
    let M = c.keep_made.new.self in
    let z : Given = c.in-Ok.given in
    let r = z.reply in
    let w : WaitingCall = record { client = turn.client; number = c.args.number; trans = t; call = c.args.call.now; counts = Some c.args.counts; is_granted = true } in
    let mine : WorksHere k turn.client t = works_here c.requires.ready.0 (G.serves k.vault) k c.requires.ready.2 turn.client t c.requires.works in
    let l : Live = mine.live in
    let did : Performed (G.tells k.vault) (G.held k.vault).cells k N t l c.args.call.now c.args.counts [] (Ok z) =
    subst (λ (y : List Act). Performed (G.tells k.vault) (G.held k.vault).cells k N t l c.args.call.now c.args.counts y (Ok z)) c.no_acts.ensures (c.in-Ok.ensures.performed l mine.there) in
    let is : z.answer ≡ told_answer (Some r) [] = ap (λ (y : Given). y.answer) did.outcome.is in
    let given : Answered (G.tells k.vault) (G.held k.vault).cells l.part did.part (name_in l.who) (next_file k) c.args.call.now did.room r = did.outcome.given in
    let looked = c.in-Ok.ensures.looked in
    let after : ServerState _ = collected_left k turn w c.args.counts l did.part N.vault r in
    let gone : c.remove_of.new.self ≡ without_calls_of turn.client t k.waits = c.remove_of.ensures ∙ ap (λ (y : ServerState _). without_calls_of turn.client t y.waits) did.kept in
    let made_is : c.is_made.result ≡ is_made r = c.is_made.ensures in
    let plan_is : c.in_ok-made.made ≡ made_plan k turn w c.args.counts l did.part N.vault =
    c.in_ok-made.ensures ∙ ap (λ (ns : List Need). plan_if (makes_file c.args.call.now) (plan_of k.locks t (asks_made (next_file k) ns))) c.no_needs-needs.ensures in
    let M_is : M ≡ record after { sessions = k.sessions } =
    c.keep_made.ensures.kept
    ∙ (λ i. record (did.kept i) { waits = gone i; given = count_made (did.kept i).given (made_is i); locks = with_made (made_is i) (did.kept i).locks (plan_is i) })
    ∙ (λ i. record after { sessions = k.sessions; given = count_given k.given r i }) in
    let kept_is : record M { sessions = c.count.new.self } ≡ after = (λ i. record (M_is i) { sessions = (c.count.ensures ∙ ap (λ (y : ServerState _). counted_in y.sessions turn r) M_is) i }) in
    subst (λ (y : ServerState _). IsStep G k y (event.Call turn.client k.epoch turn.number (call.Collect c.args.number)) (Ok z.answer)) (sym kept_is)
    (collect_done G k turn c.args.number w c.args.counts l did.part did.room r N.vault c.requires.waiting refl refl c.requires.works c.requires.turn c.requires.up mine.there did.sound looked.0 looked.1 given did.left z.answer c.requires.ready.0 c.requires.ready.2 looked.2 is)

-- a read failed
pub returns-in-Err-Failed : goal.returns-in-Err-Failed
returns-in-Err-Failed g c =
    let G = g.V.Vault in
    let k = c.args.self.now in
    let turn = c.args.turn.now in
    let t : TransId = c.args.trans in
    let N = c.perform.new.self in
    let w : WaitingCall = record { client = turn.client; number = c.args.number; trans = t; call = c.args.call.now; counts = Some c.args.counts; is_granted = true } in
    let mine : WorksHere k turn.client t = works_here c.requires.ready.0 (G.serves k.vault) k c.requires.ready.2 turn.client t c.requires.works in
    let l : Live = mine.live in
    let did = c.in-Err-Failed.ensures.performed l mine.there in
    let lives : LiveMap = map.insert k.lives t (record l { part = did.part; locks = l.locks }) in
    let look : Looks G k.vault N.vault (Some call_fault.Failed) = subst (λ (f : CallFault). Looks G k.vault N.vault (Some f)) c.in-Err-Failed.field-0-is c.in-Err-Failed.ensures.looked in
    let unseen_is = part_unseen G k turn t l N.vault mine.there mine.own look.0 c.requires.up mine.unvoted did.part did.sound did.outcome in
    let remove = c.remove_of-in-Err-Failed in
    let gone : remove.new.self ≡ without_calls_of turn.client t k.waits = remove.ensures ∙ ap (λ (y : ServerState _). without_calls_of turn.client t y.waits) did.kept in
    let after : ServerState _ = record k { lives = lives; vault = N.vault; sessions = counted_in k.sessions turn (reply.Refused refusal.ReadFault); waits = without_calls_of turn.client t k.waits } in
    let is_after : c.refuse.new.self ≡ after =
    c.refuse.ensures.kept ∙ (λ i. record (did.kept i) { waits = gone i; sessions = counted_in (did.kept i).sessions turn (reply.Refused refusal.ReadFault) }) in
    subst (λ (y : ServerState _). IsStep G k y (event.Call turn.client k.epoch turn.number (call.Collect c.args.number)) (Ok c.refuse.result)) (sym is_after)
    (subst (λ (x : Answer). IsStep G k after (event.Call turn.client k.epoch turn.number (call.Collect c.args.number)) (Ok x)) (sym c.refuse.ensures.answer)
    (collect_failed G k lives N.vault turn c.args.number w c.requires.ready.0 c.requires.ready.2 c.requires.waiting refl refl unseen_is look.0 c.requires.turn c.requires.up look.1 look.2))

-- the vault was stopped
pub returns-in-Err-Stopped : goal.returns-in-Err-Stopped
returns-in-Err-Stopped g c =
    let G = g.V.Vault in
    let k = c.args.self.now in
    let turn = c.args.turn.now in
    let t : TransId = c.args.trans in
    let N = c.perform.new.self in
    let w : WaitingCall = record { client = turn.client; number = c.args.number; trans = t; call = c.args.call.now; counts = Some c.args.counts; is_granted = true } in
    let mine : WorksHere k turn.client t = works_here c.requires.ready.0 (G.serves k.vault) k c.requires.ready.2 turn.client t c.requires.works in
    let l : Live = mine.live in
    let did = c.in-Err-Stopped.ensures.performed l mine.there in
    let lives : LiveMap = map.insert k.lives t (record l { part = did.part; locks = l.locks }) in
    let look : Looks G k.vault N.vault (Some call_fault.Stopped) = subst (λ (f : CallFault). Looks G k.vault N.vault (Some f)) c.in-Err-Stopped.field-0-is c.in-Err-Stopped.ensures.looked in
    let unseen_is = part_unseen G k turn t l N.vault mine.there mine.own look.0 c.requires.up mine.unvoted did.part did.sound did.outcome in
    let down : IsDown N c.without_answer.new.self (act.Stopped ∷ []) c.without_answer.result = c.without_answer.ensures.stopped refl in
    let after : ServerState _ = record k { lives = lives; vault = N.vault; is_down = true } in
    let is_after : c.without_answer.new.self ≡ after = down.kept ∙ ap (λ (y : ServerState _). record y { is_down = true }) did.kept in
    subst (λ (y : ServerState _). IsStep G k y (event.Call turn.client k.epoch turn.number (call.Collect c.args.number)) c.without_answer.result) (sym is_after)
    (subst (IsStep G k after (event.Call turn.client k.epoch turn.number (call.Collect c.args.number))) (sym down.answer)
    (collect_stopped G k lives N.vault turn c.args.number w c.requires.ready.0 c.requires.ready.2 c.requires.waiting refl refl unseen_is look.0 c.requires.turn c.requires.up look.1 look.2))

-- memory was wanting
pub returns-in-Err-OutOfMemory : goal.returns-in-Err-OutOfMemory
returns-in-Err-OutOfMemory g c =
    let G = g.V.Vault in
    let k = c.args.self.now in
    let turn = c.args.turn.now in
    let t : TransId = c.args.trans in
    let N = c.perform.new.self in
    let w : WaitingCall = record { client = turn.client; number = c.args.number; trans = t; call = c.args.call.now; counts = Some c.args.counts; is_granted = true } in
    let mine : WorksHere k turn.client t = works_here c.requires.ready.0 (G.serves k.vault) k c.requires.ready.2 turn.client t c.requires.works in
    let l : Live = mine.live in
    let did = c.in-Err-OutOfMemory.ensures.performed l mine.there in
    let lives : LiveMap = map.insert k.lives t (record l { part = did.part; locks = l.locks }) in
    let look : Looks G k.vault N.vault (Some call_fault.OutOfMemory) = subst (λ (f : CallFault). Looks G k.vault N.vault (Some f)) c.in-Err-OutOfMemory.field-0-is c.in-Err-OutOfMemory.ensures.looked in
    let unseen_is = part_unseen G k turn t l N.vault mine.there mine.own look.0 c.requires.up mine.unvoted did.part did.sound did.outcome in
    subst (λ (y : ServerState _). IsStep G k y (event.Call turn.client k.epoch turn.number (call.Collect c.args.number)) (Err _)) (sym did.kept)
    (collect_wanting G k lives N.vault turn c.args.number w c.requires.ready.0 c.requires.ready.2 c.requires.waiting refl refl unseen_is look.0 c.requires.turn c.requires.up (Err _) refl look.1 look.2)
