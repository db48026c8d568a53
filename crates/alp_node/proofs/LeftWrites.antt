-- a part ends behind a write of notes: what the server keeps then is what the journal says, with the notes that stand then
use Rattle.std.specs.Prelude.{cond, Bool, true, false, ◌==◌, ◌&&◌, Option, None, Some}
use Rattle.std.specs.FinMap as map
use Rattle.std.proofs.Common.{◌≡◌, ℕ, List, [], ◌∷◌, ◌++◌, refl, sym, ◌∙◌, ap, subst}
use Rattle.alp_base.specs.declared.ids.JoinNo.{JoinNo}
use Rattle.alp_base.specs.declared.ids.TransId.{TransId}
use Rattle.alp_files.specs.declared.refusal.Cause.{Cause}
use Rattle.alp_journal.specs.Account.{Account, state_of, IsQuiet, with_granted, granted_calls, holder_granted}
use Rattle.alp_journal.specs.Counts.{lock_set}
use Rattle.alp_journal.specs.Holder.{Holder, Life, with_life}
use Rattle.alp_journal.specs.Ids.{same_trans, same_join}
use Rattle.alp_journal.specs.Participant.{Phase}
use Rattle.alp_locks.specs.Releases.{released}
use Rattle.alp_turns.specs.Queues.{queue_of}
use Rattle.std.specs.List.{AllByRecursion}
use Rattle.alp_vault.specs.Contents.{Contents}
use Rattle.alp_worker.specs.declared.joins.Joins.{Joins}
use Rattle.alp_worker.specs.Joins.{AreJoins}
use Rattle.alp_node.specs.Durable.{AreNotesOf}
use Rattle.alp_node.specs.Releases.{granted_behind, let_go}
use Rattle.alp_node.specs.ServerState.{IsAs, IsReady, IsWaitingAs, PutNoneBeyond}
use Rattle.alp_node.specs.declared.dead.DeadPart.{DeadPart}
use Rattle.alp_node.specs.declared.lives.Live.{Live}
use Rattle.alp_node.specs.declared.server_state.ServerState.{ServerState}
use Rattle.alp_node.proofs.DeadLemmas.{dead_then}
use Rattle.alp_node.proofs.GiveOnLemmas.{IsAlikeApart}
use Rattle.alp_node.proofs.GoneLemmas.{Gone, gone, gone_of, holder_rest, let_go_is, lives_then, server_then, state_then}
use Rattle.alp_node.proofs.HoldingLemmas.{held_end_given}
use Rattle.alp_node.proofs.KeptLemmas.{applied_fated}
use Rattle.alp_node.proofs.TotalLemmas.{gone_room}

module _ {V : Type 0} (a : Account) (held then : Contents) (k : ServerState V) (m : ℕ) (on : Bool) (h : IsAs a held k) (ready : IsReady m on k) (j : JoinNo) (t : TransId) (client : ℕ) (c : Cause) (move : Phase → Phase) (js : Joins) (v : V) where
  abbrev left : Gone a held k t
  left = gone a held k t m on h ready

  abbrev phases_then : JoinNo → Phase
  phases_then = λ i. cond {A = Phase} (same_join j i) (move (a.phases i)) (a.phases i)

  abbrev dead_now : List DeadPart
  dead_now = k.dead ++ (record { client = client; trans = t; cause = c }) ∷ []

  abbrev state_ended : Account
  state_ended = record (state_then a held k t m on h ready (gone a held k t m on h ready)) { phases = λ i. cond {A = Phase} (same_join j i) (move (a.phases i)) (a.phases i); dead = λ e u. cond {A = Option Cause} (e == client && same_trans u t) (Some c) (a.dead e u); is_down = false; pending = [] }

  abbrev server_ended : ServerState V
  server_ended = record k {
    lives = (server_then a held k t m on h ready (gone a held k t m on h ready)).lives;
    waits = (server_then a held k t m on h ready (gone a held k t m on h ready)).waits;
    locks = record (released k.locks t) { woken = [] };
    dead = k.dead ++ (record { client = client; trans = t; cause = c }) ∷ [];
    joins = js;
    vault = v;
  }

  abbrev first : Holder
  first = with_life a.holder t None

  rest : holder_granted (with_life a.holder t None) left.given ≡ record first { lives = (holder_granted (with_life a.holder t None) left.given).lives }
  rest = holder_rest left.given first

  unborn_then : (u : TransId) (l : Life) (o : Option Live) → map.get (server_then a held k t m on h ready left).lives u ≡ o → (state_then a held k t m on h ready left).holder.lives u ≡ Some l
      → IsAlikeApart a.holder.cells ((state_then a held k t m on h ready left).locked u) o ((state_then a held k t m on h ready left).holder.lives u) → PutNoneBeyond a.holder.server a.ids.epoch k.given l.edits
  unborn_then u l (Some z) at is alike = left.all.parts u z l at is
  unborn_then u l None at is alike = absurd (subst (IsAlikeApart a.holder.cells ((state_then a held k t m on h ready left).locked u) None) is alike)

  ended_as : k.is_down ≡ false → AreJoins a.holder.server a.ids.epoch a.ids.joins (λ i. cond {A = Phase} (same_join j i) (move (a.phases i)) (a.phases i)) a.joined js → then.cells ≡ a.holder.cells → AreNotesOf (state_of state_ended) a.ids.epoch then.notes → IsQuiet state_ended
      → IsAs state_ended then server_ended
  ended_as up joined same_cells noted quiet = subst (λ (x : Holder). IsAs (record state_ended { holder = x }) then server_ended) (sym rest) (record {
    server = h.server;
    servers = h.servers;
    sizes = h.sizes;
    epoch = h.epoch;
    clock = h.clock;
    cells = λ on. same_cells;
    sized = h.sized;
    notes = λ on. subst (λ (x : Holder). AreNotesOf (state_of (record state_ended { holder = x })) a.ids.epoch then.notes) rest noted;
    places = h.places;
    sessions = h.sessions;
    dead = λ d u. ap (λ (x : Option Cause). cond {A = Option Cause} (d == client && same_trans u t) (Some c) x) (h.dead d u) ∙ dead_then k.dead client t c d u;
    waits = left.all.waits;
    queue = subst (λ (x : Holder). (released k.locks t).waiting ≡ queue_of x (released k.locks t).held state_ended.waits) rest left.queue;
    asked = subst (λ (x : Holder). AllByRecursion (IsWaitingAs x state_ended.locked) server_ended.waits) rest left.all.asked;
    lives = lives_then a held k t a.holder.cells a.holder.clock a.holder.kept a.holder.applied a.holder.left (λ u p es. PutNoneBeyond a.holder.server a.ids.epoch k.given es) a.holder.cells m on h ready (λ u l w live unvoted away. refl)
        (λ u l life there live away. h.unborn u life live) (gone_room k.sizes a.holder.cells k.lives t h.room) left;
    room = left.all.fits;
    unborn = λ u l is. unborn_then u l (map.get (server_then a held k t m on h ready left).lives u) refl is (left.all.lives u);
    coordinator = h.coordinator;
    decided = applied_fated a (record state_ended { holder = record first { lives = (holder_granted (with_life a.holder t None) left.given).lives } }) refl refl (λ u. refl) h.decided;
    joins = joined;
    files = h.files;
    made = h.made;
    born = h.born;
    earlier = h.earlier;
    quiet = subst (λ (x : Holder). IsQuiet (record state_ended { holder = x })) rest quiet;
    down = sym up;
  })

  same_state : record (state_then a held k t m on h ready (gone a held k t m on h ready)) { phases = λ i. cond {A = Phase} (same_join j i) (move (a.phases i)) (a.phases i); dead = λ e u. cond {A = Option Cause} (e == client && same_trans u t) (Some c) (a.dead e u); is_down = false; pending = [] }
      ≡ held_end_given a held k m on h ready j t client c move js
  same_state = ap (with_granted (record a {
    holder = with_life a.holder t None;
    phases = λ i. cond {A = Phase} (same_join j i) (move (a.phases i)) (a.phases i);
    dead = λ e u. cond {A = Option Cause} (e == client && same_trans u t) (Some c) (a.dead e u);
    locked = lock_set a.locked t [];
    is_down = false;
    pending = [];
  })) (sym (ap (granted_calls a.waits) (gone a held k t m on h ready).woken ∙ (gone a held k t m on h ready).calls))

  pub written_ended_as : k.is_down ≡ false → AreJoins a.holder.server a.ids.epoch a.ids.joins (λ i. cond {A = Phase} (same_join j i) (move (a.phases i)) (a.phases i)) a.joined js → then.cells ≡ (held_end_given a held k m on h ready j t client c move js).holder.cells
      → AreNotesOf (state_of (held_end_given a held k m on h ready j t client c move js)) a.ids.epoch then.notes → IsQuiet (held_end_given a held k m on h ready j t client c move js)
      → IsAs (held_end_given a held k m on h ready j t client c move js) then (record (let_go k t) { dead = k.dead ++ (record { client = client; trans = t; cause = c }) ∷ []; joins = js; vault = v })
  written_ended_as up joined cells noted quiet =
      let same_cells : then.cells ≡ a.holder.cells = cells ∙ ap (λ (x : Account). x.holder.cells) (sym same_state) ∙ ap (λ (x : Holder). x.cells) rest in
      subst (λ (x : ServerState V). IsAs (held_end_given a held k m on h ready j t client c move js) then x) (sym (ap (λ (x : ServerState V). record x { dead = dead_now; joins = js; vault = v }) (let_go_is a held k t m on h ready (gone a held k t m on h ready))))
      (subst (λ (x : Account). IsAs x then server_ended) same_state
      (ended_as up joined same_cells (subst (λ (x : Account). AreNotesOf (state_of x) a.ids.epoch then.notes) (sym same_state) noted) (subst IsQuiet (sym same_state) quiet)))
