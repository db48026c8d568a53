use Rattle.std.specs.Prelude.{is_some, None, Some, Ok, true, IsSome, Option}
use Rattle.std.specs.FinMap as map
use Rattle.std.specs.Option.{option_copied}
use Rattle.std.proofs.Common.{◌≡◌, ℕ, ◌+◌, ◌<◌, ◌≤◌, List, [], length, le_refl, arith, refl, sym, ap, ◌∙◌, subst}
use Rattle.alp_base.specs.declared.ids.TransId.{TransId}
use Rattle.alp_files.specs.Born.{count_after}
use Rattle.alp_files.specs.Locks.{Need}
use Rattle.alp_journal.specs.declared.act.Act.{Act}
use Rattle.alp_journal.specs.declared.event.Event.TheVariants as event
use Rattle.alp_queue.specs.declared.waiter.Waiter.{Waiter}
use Rattle.alp_locks.specs.Asks.{blocker}
use Rattle.alp_locks.specs.Tables.{Table, holding}
use Rattle.alp_locks.specs.Sound.{IsPrepared}
use Rattle.alp_calls.specs.Limits.{refused_for}
use Rattle.alp_calls.specs.Looks.{IsLeft}
use Rattle.alp_calls.specs.Parts.{Answered, GivesOnly}
use Rattle.alp_calls.proofs.PartLaws.{sees_files}
use Rattle.alp_coord.specs.Coordinators.{count_of}
use Rattle.alp_node.specs.Asks.{IsAsked, AreGiven, asks_made, asks_given, makes_file, is_made, plan_for, count_made, plan_of, with_plan, acts_of}
use Rattle.alp_node.specs.Calls.{name_in, next_file, given_of, Performed}
use Rattle.alp_node.specs.Rooms.{locks_given}
use Rattle.alp_node.specs.Shapes.{counts_then, too_locked}
use Rattle.alp_node.specs.declared.lock_counts.LockCounts.{LockCounts}
use Rattle.alp_node.specs.ServerState.{IsReady}
use Rattle.alp_node.specs.Steps.{Stepped, counted_in, told_answer}
use Rattle.alp_node.specs.Turns.{TellsUpTo, IsKeepable, TellsRun, HasTurned}
use Rattle.alp_node.specs.declared.answer.Answer.{Answer}
use Rattle.alp_node.specs.declared.answer.Given.{Given}
use Rattle.alp_node.specs.declared.lives.Live.{Live}
use Rattle.alp_node.specs.declared.server_state.ServerState.{ServerState}
use Rattle.alp_node.specs.declared.sessions.CallOrder.TheVariants as order
use Rattle.alp_node.specs.declared.sessions.Sessions.{Sessions}
use Rattle.alp_node.proofs.AskLemmas.{asked_few, asked_given, asked_told}
use Rattle.alp_node.proofs.CallLemmas.{unseen, count_grows}
use Rattle.alp_node.proofs.CountedLemmas.{answered_quiet, IsCountRefusal, answered_keeps}
use Rattle.alp_node.proofs.GivenLemmas.{counts_none, reply_given}
use Rattle.alp_node.proofs.GrantLemmas.{plan_given, plan_is, count_given, free_given, given_below, granted_ready}
use Rattle.alp_node.proofs.LockCallLemmas.{locks_stepped, acts_up, acts_caused}
use Rattle.alp_node.proofs.BesideLemmas.{AreNamed, HasNoCall, idle_told}
use Rattle.alp_node.proofs.KeptLemmas.{same_live}
use Rattle.alp_node.proofs.WaitLemmas.{named_all, none_waiting, asks_none, idle_in, not_like}
use Rattle.alp_node.proofs.LockKeptLemmas.{lock_stepped}
use Rattle.alp_node.proofs.LookLemmas.{count_same, answered_told, room_told, part_ready, without_step, part_unseen, looks_left}
use Rattle.alp_node.proofs.OpenLemmas.{unless_only, opens_then}
use Rattle.alp_node.proofs.ReadyLemmas.{counted_ready}
use Rattle.alp_node.proofs.NotedLemmas.{noted_on, voters_put}
use Rattle.alp_node.proofs.PairedLemmas.{few_live}
use Rattle.alp_node.proofs.SeatLemmas.{KeepsNotes, left_step}
use Rattle.alp_node.proofs.StandingLemmas.{WorksHere, works_here, works_own}
use Rattle.alp_node.proofs.ShapeLemmas.{shape_given, shape_shaped, too_locked_is, may_lock}
use Rattle.alp_node.proofs.StepLemmas.{refused_step}
use Rattle.alp_node.proofs.TotalLemmas.{few_totals}
use Rattle.alp_node.proofs.TurnLemmas.{counts_on, run_told, asks_its_own}
use Rattle.alp_node.proofs.WithinLemmas.{MayLock, within_then}
use Rattle.alp_node.proofs.server_state.ServerState.lock_call.Goals as goal
use Rattle.alp_node.proofs.HeldHere.{tidy_asks}

pub perform-requires-clause-new : goal.perform-requires-clause-new
perform-requires-clause-new g c told l there =
    let (a, h) = c.requires.known told in
    unseen a (g.V.Vault.held c.args.self.now.vault) c.args.self.now c.args.trans l h c.requires.up there

pub perform-requires-clause-files : goal.perform-requires-clause-files
perform-requires-clause-files g c told l there = sees_files (g.V.Vault.held c.args.self.now.vault).cells l.part (c.requires.sound told c.args.trans l there)

pub perform-requires-clause-ready : goal.perform-requires-clause-ready
perform-requires-clause-ready g c l there =
    let low : l.part.last ≤ c.requires.ready.0 = c.requires.ready.2.opens c.args.trans l there in
    record {
      part = (c.requires.ready.2.within c.args.trans l there).part;
      last = omega (arith, low, c.requires.ready.1);
      file = subst (λ (o : Option TransId). IsSome o) (sym c.requires.named) refl;
      whole = c.requires.formed.0;
      shaped = shape_shaped c.args.self.now.server c.args.self.now.epoch c.args.self.now.given (length l.part.opens.items) c.args.call.now (c.requires.shape l there);
    }

pub perform-requires-clause-caller : goal.perform-requires-clause-caller
perform-requires-clause-caller g c l there = (works_own c.requires.ready.0 (g.V.Vault.serves c.args.self.now.vault) c.args.self.now c.args.turn.now.client c.args.trans l c.requires.ready.2 c.requires.works there).1

pub perform-requires-clause-few : goal.perform-requires-clause-few
perform-requires-clause-few g c = few_totals c.args.self.now.lives (few_live c.requires.ready.0 (g.V.Vault.serves c.args.self.now.vault) c.args.self.now c.requires.ready.2) (λ t l there. (c.requires.ready.2.within t l there).part)

pub lock_counts-counts-requires-clause-locks : goal.lock_counts-counts-requires-clause-locks
lock_counts-counts-requires-clause-locks g c = (c.requires.ready.2.within c.args.trans c.in-Some.live.now (sym c.in-Some.ensures)).locks

pub lock_counts-counts-requires-clause-few : goal.lock_counts-counts-requires-clause-few
lock_counts-counts-requires-clause-few g c =
    let G = g.V.Vault in
    let k = c.args.self.now in
    let l : Live = c.in-Some.live.now in
    let there : map.get k.lives c.args.trans ≡ Some l = sym c.in-Some.ensures in
    asked_few k.server k.epoch k.given (length l.part.opens.items) (G.tells k.vault) (G.held k.vault).cells (holding k.locks.held c.args.trans) l.part c.args.call.now c.args.needs (c.requires.asked l there) (c.requires.shape l there)

pub too_locked-requires : goal.too_locked-requires
too_locked-requires g c = (c.requires.ready.2.within c.args.trans c.in-Some.live.now (sym c.in-Some.ensures)).part.most

pub keep_locks-requires-clause-room : goal.keep_locks-requires-clause-room
keep_locks-requires-clause-room g c =
    let l : Live = c.in-Some.live.now in
    let there : map.get c.args.self.now.lives c.args.trans ≡ Some l = sym c.in-Some.ensures in
    let did = c.in-Ok.ensures.performed l there in
    let low : c.args.self.now.given ≤ c.requires.ready.0 = c.requires.ready.2.given in
    subst (λ (n : ℕ). n + 1 < 4294967296) (sym (ap (λ (x : ServerState _). x.given) did.kept)) (omega (arith, low, c.requires.ready.1))

pub keep_locks-requires-clause-entered : goal.keep_locks-requires-clause-entered
keep_locks-requires-clause-entered g c =
    let k = c.args.self.now in
    let ns = c.args.needs in
    let l : Live = c.in-Some.live.now in
    let there : map.get k.lives c.args.trans ≡ Some l = sym c.in-Some.ensures in
    let did = c.in-Ok.ensures.performed l there in
    let plan : Waiter = plan_for c.is_made.result c.in_ok-asked.asked c.in_ok-made.made in
    let one = plan_is k.locks c.args.trans ns (asks_made (next_file k) ns) c.is_made.result (makes_file c.args.call.now) in
    let is : plan ≡ plan_of k.locks c.args.trans one.0 = (λ i. plan_for c.is_made.result (c.in_ok-asked.ensures i) (c.in_ok-made.ensures i)) ∙ one.1 in
    subst (λ (x : Table). is_some (map.get x.held plan.trans) ≡ true) (sym (ap (λ (x : ServerState _). x.locks) did.kept)) (ap (λ (w : Waiter). is_some (map.get k.locks.held w.trans)) is ∙ c.requires.ready.2.known c.args.trans l there)

pub keep_locks-requires-clause-prepared : goal.keep_locks-requires-clause-prepared
keep_locks-requires-clause-prepared g c =
    let k = c.args.self.now in
    let ns = c.args.needs in
    let l : Live = c.in-Some.live.now in
    let there : map.get k.lives c.args.trans ≡ Some l = sym c.in-Some.ensures in
    let did = c.in-Ok.ensures.performed l there in
    let plan : Waiter = plan_for c.is_made.result c.in_ok-asked.asked c.in_ok-made.made in
    let one = plan_is k.locks c.args.trans ns (asks_made (next_file k) ns) c.is_made.result (makes_file c.args.call.now) in
    let is : plan ≡ plan_of k.locks c.args.trans one.0 = (λ i. plan_for c.is_made.result (c.in_ok-asked.ensures i) (c.in_ok-made.ensures i)) ∙ one.1 in
    subst (λ (x : Table). IsPrepared x.held plan) (sym (ap (λ (x : ServerState _). x.locks) did.kept)) (subst (IsPrepared k.locks.held) (sym is) refl)

pub returns-in-Some-too_locked : goal.returns-in-Some-too_locked
returns-in-Some-too_locked g c =
    let G = g.V.Vault in
    let k = c.args.self.now in
    let turn = c.args.turn.now in
    let t = c.args.trans in
    let call = c.args.call.now in
    let l : Live = c.in-Some.live.now in
    let there : map.get k.lives t ≡ Some l = sym c.in-Some.ensures in
    let own : l.client ≡ turn.client = (works_own c.requires.ready.0 (G.serves k.vault) k turn.client t l c.requires.ready.2 c.requires.works there).0 in
    let n : LockCounts = counts_then l.locks (holding k.locks.held t) c.args.needs call in
    let named : AreNamed k.waits = named_all k.server k.epoch k.given (count_of k.coordinator) k.sizes k.lives k.waits c.requires.ready.2.waits.calls in
    let away : HasNoCall turn.client t k.waits = none_waiting k.server k.epoch k.given (count_of k.coordinator) k.sizes k.lives turn.client t l k.waits there own c.requires.idle c.requires.ready.2.waits.calls in
    let f = c.in-Some-too_locked.refusal in
    let many : too_locked k.sizes.area l.part.counts.cells n.made ≡ Some f = ap (λ (y : LockCounts). too_locked k.sizes.area l.part.counts.cells y.made) (sym c.lock_counts-counts.ensures) ∙ sym c.too_locked.ensures ∙ c.in-Some-too_locked.is in
    let counted : IsCountRefusal f = too_locked_is k.sizes.area l.part.counts.cells n.made f many in
    let refuse = c.refuse in
    refused_step G k refuse.new.self turn call refuse.result f (counted.quiet) c.requires.turn c.requires.up refuse.ensures.kept refuse.ensures.answer
    (λ told a h. locks_stepped a (G.faults k.vault) (G.faults k.vault) (G.held k.vault) k turn t l call c.args.needs f refuse.result h c.requires.ready.2.raised c.requires.turn c.requires.up there c.requires.works (idle_told a turn.client t k.waits h.waits named away.idle) (c.requires.ready.2.within t l there)
    c.requires.served (asked_told (G.tells k.vault) (G.held k.vault).cells (holding k.locks.held t) l.part call c.args.needs (c.requires.asked l there) told) (c.requires.shape l there) many c.requires.named refuse.ensures.answer)
    counted.inside

pub block-requires-clause-asked : goal.block-requires-clause-asked
block-requires-clause-asked g c m there =
    let G = g.V.Vault in
    let k = c.args.self.now in
    subst (λ (w : Waiter). IsAsked (G.tells k.vault) (G.held k.vault).cells (holding k.locks.held c.args.trans) m.part c.args.call.now w.needs) (sym c.in_ok-asked.ensures) (c.requires.asked m there)

pub block-requires-clause-counts : goal.block-requires-clause-counts
block-requires-clause-counts g c m there =
    let k = c.args.self.now in
    let l : Live = c.in-Some.live.now in
    let same : l ≡ m = same_live l m (c.in-Some.ensures ∙ there) in
    c.lock_counts-counts.ensures ∙ ap (λ (y : Live). counts_then y.locks (holding k.locks.held c.args.trans) c.args.needs c.args.call.now) same
    ∙ ap (λ (w : Waiter). counts_then m.locks (holding k.locks.held c.args.trans) w.needs c.args.call.now) (sym c.in_ok-asked.ensures)

pub block-requires-clause-few : goal.block-requires-clause-few
block-requires-clause-few g c m there =
    let k = c.args.self.now in
    let l : Live = c.in-Some.live.now in
    let same : l ≡ m = same_live l m (c.in-Some.ensures ∙ there) in
    ap (λ (y : Live). too_locked k.sizes.area y.part.counts.cells c.lock_counts-counts.result.made) (sym same) ∙ sym c.too_locked.ensures ∙ c.in_default-too_locked.is

pub block-requires-clause-plan : goal.block-requires-clause-plan
block-requires-clause-plan g c = c.in_ok-asked.ensures ∙ ap (λ (w : Waiter). plan_of c.args.self.now.locks c.args.trans w.needs) (sym c.in_ok-asked.ensures)

pub block-requires-clause-blocked : goal.block-requires-clause-blocked
block-requires-clause-blocked g c =
    ap (λ (u : TransId). blocker c.args.self.now.locks.held u c.in_ok-asked.asked.rises) (sym (ap (λ (w : Waiter). w.trans) c.in_ok-asked.ensures)) ∙ sym c.in_way_of.ensures ∙ c.in-Some-in_way_of.is

pub returns-in-Ok : goal.returns-in-Ok
returns-in-Ok g c =
    let G = g.V.Vault in
    let k = c.args.self.now in
    let turn = c.args.turn.now in
    let call = c.args.call.now in
    let t = c.args.trans in
    let ns = c.args.needs in
    let N = c.perform.new.self in
    let M = c.keep_locks.new.self in
    let z : Given = c.in-Ok.given in
    let x : Answer = z.answer in
    let r = z.reply in
    let l : Live = c.in-Some.live.now in
    let there : map.get k.lives t ≡ Some l = sym c.in-Some.ensures in
    let own : l.client ≡ turn.client = (works_own c.requires.ready.0 (G.serves k.vault) k turn.client t l c.requires.ready.2 c.requires.works there).0 in
    let away : HasNoCall turn.client t k.waits = none_waiting k.server k.epoch k.given (count_of k.coordinator) k.sizes k.lives turn.client t l k.waits there own c.requires.idle c.requires.ready.2.waits.calls in
    let mine : WorksHere k turn.client t = works_here c.requires.ready.0 (G.serves k.vault) k c.requires.ready.2 turn.client t c.requires.works in
    let asked : IsAsked (G.tells k.vault) (G.held k.vault).cells (holding k.locks.held t) l.part call ns = c.requires.asked l there in
    let n : LockCounts = counts_then l.locks (holding k.locks.held t) ns call in
    let n_is : c.lock_counts-counts.result ≡ n = c.lock_counts-counts.ensures in
    let few : too_locked k.sizes.area l.part.counts.cells n.made ≡ None = ap (λ (y : LockCounts). too_locked k.sizes.area l.part.counts.cells y.made) (sym n_is) ∙ sym c.too_locked.ensures ∙ c.in_default-too_locked.is in
    let asked_is : c.in_ok-asked.asked ≡ plan_of k.locks t ns = c.in_ok-asked.ensures in
    let rises : List Need = (plan_of k.locks t ns).rises in
    let free_asked : blocker k.locks.held t rises ≡ None = ap (λ (w : Waiter). blocker k.locks.held w.trans w.rises) (sym asked_is) ∙ sym c.in_way_of.ensures ∙ c.in_default-in_way_of.is in
    let acts_are : c.in_ok-acts.acts ≡ acts_of t rises = c.in_ok-acts.ensures ∙ ap (λ (w : Waiter). acts_of t w.rises) asked_is in
    let did : Performed (G.tells k.vault) (G.held k.vault).cells k N t l call n (acts_of t rises) (Ok z) =
    subst (λ (y : List Act). Performed (G.tells k.vault) (G.held k.vault).cells k N t l call n y (Ok z)) acts_are
    (subst (λ (y : LockCounts). Performed (G.tells k.vault) (G.held k.vault).cells k N t l call y c.in_ok-acts.acts (Ok z)) n_is (c.in-Ok.ensures.performed l there)) in
    let is : x ≡ told_answer (Some r) (acts_of t rises) = ap (λ (y : Given). y.answer) did.outcome.is in
    let given : Answered (G.tells k.vault) (G.held k.vault).cells l.part did.part (name_in l.who) (next_file k) call did.room r = did.outcome.given in
    let left = c.in-Ok.ensures.looked.0 in
    let shape = c.requires.shape l there in
    let of_file = shape_given k.server k.epoch k.given (length l.part.opens.items) call shape in
    let files : AreGiven k.server k.epoch k.given ns = asked_given k.server k.epoch k.given (G.tells k.vault) (G.held k.vault).cells (holding k.locks.held t) l.part call ns asked (c.requires.ready.2.opened t l there) of_file c.requires.some in
    let keeps : IsKeepable k.clock r = answered_keeps k.clock (G.tells k.vault) (G.held k.vault).cells l.part did.part (name_in l.who) (next_file k) call did.room r given in
    let made_is : c.is_made.result ≡ is_made r = c.is_made.ensures in
    let taken : plan_for c.is_made.result c.in_ok-asked.asked c.in_ok-made.made ≡ plan_of k.locks t (asks_given (next_file k) call ns r) =
    (λ i. plan_for (made_is i) (asked_is i) (c.in_ok-made.ensures i)) ∙ plan_given k.locks t (next_file k) call ns r in
    let count : count_made k.given c.is_made.result ≡ count_after k.given r = ap (count_made k.given) made_is ∙ count_given k.given r in
    let b : ℕ = locks_given l.locks n (Ok (given_of r [])) in
    let now : Live = record l { part = did.part; locks = b } in
    let kept_is : M ≡ record k { given = count_after k.given r; lives = map.insert k.lives t now; locks = with_plan k.locks (plan_of k.locks t (asks_given (next_file k) call ns r)); vault = N.vault } =
    c.keep_locks.ensures.kept
    ∙ ap (λ (y : ServerState _). record y { given = count_made y.given c.is_made.result; locks = with_plan y.locks (plan_for c.is_made.result c.in_ok-asked.asked c.in_ok-made.made) }) did.kept
    ∙ (λ i. record k { given = count i; lives = map.insert k.lives t (record l { part = did.part; locks = b }); locks = with_plan k.locks (taken i); vault = N.vault }) in
    let vault = ap (λ (y : ServerState _). y.vault) kept_is in
    let faults = ap (λ (y : ServerState _). G.faults y.vault) kept_is ∙ c.in-Ok.ensures.looked.2 in
    left_step G k (record M { sessions = c.count.new.self }) (ap (λ (y : ServerState _). y.server) kept_is) (ap (λ (y : ServerState _). y.servers) kept_is) (ap (λ (y : ServerState _). y.sizes) kept_is) (ap (λ (y : ServerState _). y.epoch) kept_is) (subst (IsLeft G k.vault) (sym vault) left)
    (event.Call turn.client k.epoch turn.number call) x c.requires.up
    (subst (λ (y : ServerState _). KeepsNotes k (record y { sessions = c.count.new.self })) (sym kept_is)
    (λ notes h. noted_on k.lives (map.insert k.lives t now) k.server k.servers k.epoch k.joins k.coordinator notes (voters_put k.lives t now k.joins.lives mine.unvoted) h))
    (λ told a h. (
    let given_told = answered_told (G.tells k.vault) (G.held k.vault).cells l did.part (next_file k) call did.room r told given in
    let of = room_told (G.tells k.vault) (G.held k.vault).cells k n.made did.room told did.left in
    let e = event.Call turn.client k.epoch turn.number call in
    subst (λ (y : Sessions). Stepped a (G.faults k.vault) (G.faults M.vault) (G.held M.vault) (record M { sessions = y }) e x) (sym c.count.ensures)
    (subst (λ (y : ServerState _). Stepped a (G.faults k.vault) (G.faults y.vault) (G.held y.vault) (record y { sessions = counted_in y.sessions turn r }) e x) (sym kept_is)
    (lock_stepped a (G.faults k.vault) (G.faults N.vault) (G.held k.vault) k turn t l did.part call ns did.room r N.vault c.requires.ready.0 (G.serves k.vault) x (G.held N.vault) c.requires.ready.2 h c.requires.up left.contents c.requires.turn there (own, c.requires.works)
    c.requires.served files (asked_told (G.tells k.vault) (G.held k.vault).cells (holding k.locks.held t) l.part call ns asked told) shape few c.requires.named c.requires.formed given_told of is free_asked away))
    ))
    (reply_given (G.faults k.vault) (G.faults M.vault) (G.allowance M.vault) M.is_down r (acts_of t rises) x is
    (counts_none (G.faults k.vault) (G.faults M.vault) M.is_down (Some r)
    (answered_quiet (G.tells k.vault) (G.held k.vault).cells l.part did.part (name_in l.who) (next_file k) call did.room r given) faults (ap (λ (y : ServerState _). y.is_down) kept_is ∙ c.requires.up)) (ap (λ (y : ServerState _). y.is_down) kept_is ∙ c.requires.up ∙ sym (acts_up t rises))
    (acts_caused (G.faults k.vault) (G.faults M.vault) (G.allowance M.vault) t rises))
    (λ m h. (
    let serves = G.serves N.vault in
    let low : did.part.last ≤ m + 1 = (let was : l.part.last ≤ m = h.opens t l there in omega (arith, given.last)) in
    let fewer : count_after k.given r ≤ m + 1 = (let was : k.given ≤ m = h.given in let one : count_after k.given r ≤ k.given + 1 = count_same k.given r in omega (arith, was, one)) in
    let may : MayLock k.sizes l n = may_lock k.sizes l (holding k.locks.held t) ns call few in
    let within = within_then (G.tells k.vault) (G.held k.vault).cells (next_file k) k.sizes l did.part call n did.room (acts_of t rises) (Ok (given_of r (acts_of t rises))) did.sound may did.left.area did.left.held (record { is = refl; given = given }) in
    let only : GivesOnly (next_file k) r = subst (GivesOnly (next_file k)) (sym given.said) (unless_only (next_file k) given.given (refused_for did.room l.part.counts given.after) given.ids) in
    let opens = opens_then k.server k.epoch k.given h.raised call r of_file only l.part.opens.items did.part.opens.items given.opens (h.opened t l there) in
    let granted = granted_ready (m + 1) (G.serves k.vault) (record k { sessions = counted_in k.sessions turn r }) (plan_of k.locks t (asks_given (next_file k) call ns r)) (count_after k.given r)
    (count_grows k.given r) fewer refl (free_given m (G.serves k.vault) k t call ns r h free_asked)
    (idle_in k.server k.epoch k.given k.lives k.waits t k.locks.waiting (asks_none t k.waits away.others) h.waits.queued) (λ high_id high. given_below k.server k.epoch k.given high_id call ns r files high) (tidy_asks k.server k.epoch k.given call ns r files) (counted_ready m (G.serves k.vault) k turn r c.requires.turn keeps h) in
    subst (λ (y : Sessions). IsReady (m + 1) (G.serves M.vault) (record M { sessions = y })) (sym c.count.ensures)
    (subst (λ (y : ServerState _). IsReady (m + 1) (G.serves y.vault) (record y { sessions = counted_in y.sessions turn r })) (sym kept_is)
    (part_ready (m + 1) (G.serves k.vault) serves (record k { sessions = counted_in k.sessions turn r; given = count_after k.given r; locks = with_plan k.locks (plan_of k.locks t (asks_given (next_file k) call ns r)) })
    t l did.part b N.vault (m + 1) c.in-Ok.ensures.looked.1 c.requires.up mine.unvoted there low (le_refl (m + 1)) opens within (not_like t l now k.waits away.others) granted))
    ))
    (λ on. subst (λ (y : Answer). HasTurned (Some order.Next) k (record M { sessions = c.count.new.self }) (event.Call turn.client k.epoch turn.number call) y.kept) (sym is)
    (counts_on k (record M { sessions = c.count.new.self }) turn c.requires.turn call r keeps.inside
    (let clock : M.clock ≡ k.clock = ap (λ (y : ServerState _). y.clock) kept_is in omega (arith, clock))
    (subst (λ (y : ServerState _). TellsUpTo y.clock r) (sym kept_is) keeps.times)
    (subst (λ (m : Option ℕ). TellsRun m r) (asks_its_own k.waits turn.client call t c.requires.named) (run_told k.server k.epoch k.given (length l.part.opens.items) call c.requires.some shape r given.pages))
    (c.count.ensures ∙ ap (λ (y : ServerState _). counted_in y.sessions turn r) kept_is)))

pub returns-in-Err : goal.returns-in-Err
returns-in-Err g c =
    let G = g.V.Vault in
    let k = c.args.self.now in
    let turn = c.args.turn.now in
    let t = c.args.trans in
    let N = c.perform.new.self in
    let l : Live = c.in-Some.live.now in
    let there : map.get k.lives t ≡ Some l = sym c.in-Some.ensures in
    let own : l.client ≡ turn.client = (works_own c.requires.ready.0 (G.serves k.vault) k turn.client t l c.requires.ready.2 c.requires.works there).0 in
    let named : AreNamed k.waits = named_all k.server k.epoch k.given (count_of k.coordinator) k.sizes k.lives k.waits c.requires.ready.2.waits.calls in
    let away : HasNoCall turn.client t k.waits = none_waiting k.server k.epoch k.given (count_of k.coordinator) k.sizes k.lives turn.client t l k.waits there own c.requires.idle c.requires.ready.2.waits.calls in
    let did = c.in-Err.ensures.performed l there in
    let look = c.in-Err.ensures.looked in
    let w = c.without_answer in
    without_step G k (map.insert k.lives t (record l { part = did.part; locks = l.locks })) N.vault N w.new.self turn t c.args.call.now c.in-Err.fault w.result did.kept look c.requires.turn c.requires.up c.requires.named (λ a h. idle_told a turn.client t k.waits h.waits named away.idle) c.requires.works
    (part_unseen G k turn t l N.vault there own (looks_left G k.vault N.vault c.in-Err.fault look) c.requires.up (works_here c.requires.ready.0 (G.serves k.vault) k c.requires.ready.2 turn.client t c.requires.works).unvoted did.part did.sound did.outcome) w.ensures.failed w.ensures.stopped w.ensures.memory

-- a part at work is live
pub unreachable-requires : goal.unreachable-requires
unreachable-requires g c =
    let k = c.args.self.now in
    let mine : WorksHere k c.args.turn.now.client c.args.trans = works_here c.requires.ready.0 (g.V.Vault.serves k.vault) k c.requires.ready.2 c.args.turn.now.client c.args.trans c.requires.works in
    let none : map.get k.lives c.args.trans ≡ None = sym c.get.ensures ∙ ap option_copied c.in_default.is in
    let wrong : None ≡ Some mine.live = sym none ∙ mine.there in
    cc
