-- the vault was stopped or failed: the server is down
use Rattle.std.specs.Prelude.{true, false, Option, None, Some, is_some}
use Rattle.std.proofs.Common.{◌≡◌, ℕ, List, [], ◌∷◌, refl, sym, ◌∙◌, ap, subst}
use Rattle.alp_base.specs.declared.ids.TransId.{TransId}
use Rattle.alp_files.specs.declared.call.Call.{Call}
use Rattle.alp_files.specs.declared.reply.Reply.TheVariants as reply
use Rattle.alp_files.specs.declared.refusal.Refusal.TheVariants as refusal
use Rattle.alp_vault.specs.Contents.{Contents}
use Rattle.alp_journal.specs.declared.act.Act.TheVariants as act
use Rattle.alp_journal.specs.declared.entry.Entry.{Entry}
use Rattle.alp_journal.specs.declared.event.Event.TheVariants as event
use Rattle.alp_journal.specs.Account.{Account, state_of, IsQuiet}
use Rattle.alp_journal.specs.Answers.{at_part, part_at, part_refusal}
use Rattle.alp_journal.specs.Deeds.{Deed}
use Rattle.alp_journal.specs.Desk.{Session, Waiting, file_trans, waiting_of}
use Rattle.alp_journal.specs.Moves.{tried}
use Rattle.alp_journal.proofs.CallLemmas.{call_entry}
use Rattle.alp_journal.proofs.HaltedCalls.{with_halt, file_halt_leads}
use Rattle.alp_node.specs.ServerState.{IsAs}
use Rattle.alp_node.specs.Standings.{standing_of}
use Rattle.alp_node.specs.Steps.{Stepped, IsTurn, seen_in, refused_answer}
use Rattle.alp_node.specs.declared.answer.Answer.{Answer}
use Rattle.alp_node.specs.declared.served.Standing.TheVariants as standing
use Rattle.alp_node.specs.declared.server_state.ServerState.{ServerState}
use Rattle.alp_node.specs.declared.sessions.Turn.{Turn}
use Rattle.alp_node.proofs.FinishLemmas.{turn_session}
use Rattle.alp_node.proofs.KeptLemmas.{session_of, stands_timely, stepped_so}
use Rattle.alp_node.proofs.StandingLemmas.{part_told}

-- a server that is down keeps all but what its vault has
pub halted_as : {V : Type 0} (a m : Account) (held then : Contents) (k : ServerState V) (v : V) (ds : List Deed) → m ≡ record a { is_down = true; pending = ds } → IsQuiet m → IsAs a held k → IsAs m then (record k { is_down = true; vault = v })
halted_as a m held then k v ds is quiet h =
    let never : true ≡ false → ⊥ = λ e. cc in
    subst (λ (x : Account). IsAs x then (record k { is_down = true; vault = v })) (sym is) (record {
      server = h.server;
      servers = h.servers;
      sizes = h.sizes;
      epoch = h.epoch;
      clock = h.clock;
      cells = λ e. absurd (never e);
      sized = h.sized;
      notes = λ e. absurd (never e);
      places = h.places;
      sessions = h.sessions;
      dead = h.dead;
      waits = h.waits;
      queue = h.queue;
      asked = h.asked;
      lives = h.lives;
      room = h.room;
      unborn = h.unborn;
      coordinator = h.coordinator;
      decided = h.decided;
      joins = h.joins;
      files = h.files;
      made = h.made;
      born = h.born;
      earlier = h.earlier;
      quiet = subst IsQuiet is quiet;
      down = refl;
    })

-- a read is stopped, in a call of a part at work
module _ {V : Type 0} (a : Account) (before now : ℕ) (held then : Contents) (k : ServerState V) (turn : Turn) (t : TransId) (v : V) where
  pub file_halt_stepped : (c : Call) (x : Answer) → IsAs a held k → IsTurn k.sessions turn → k.is_down ≡ false → file_trans c ≡ Some t → standing_of k turn.client t ≡ standing.Work → waiting_of (state_of a).desk turn.client t ≡ None
      → x ≡ refused_answer refusal.Down (act.Stopped ∷ [])
      → Stepped a before now then (record k { is_down = true; vault = v }) (event.Call turn.client k.epoch turn.number c) x
  file_halt_stepped c x h is up named own idle so =
      let w : Session = session_of turn is in
      let e : Entry = call_entry a turn.client turn.number w c (reply.Refused refusal.Down) (act.Stopped ∷ []) in
      let works : part_refusal (state_of a) turn.client t ≡ None = ap (λ (x : Option Waiting). at_part (is_some x) (part_at (state_of a) turn.client t)) idle ∙ ap (at_part false) (part_told a held k turn.client t h standing.Work own) in
      let leads = file_halt_leads a turn.client turn.number w t c h.quiet (h.down ∙ up) (turn_session a held k turn h is) is.number named works in
      stepped_so a before now held then k (record k { is_down = true; vault = v }) turn.client turn.number w c false (reply.Refused refusal.Down) (act.Stopped ∷ []) (with_halt a turn.client turn.number w e) x so h
      leads (halted_as a (with_halt a turn.client turn.number w e) held then k v (tried (state_of a) e) refl leads.quiet h) (λ w. cc) (stands_timely a.holder.clock (seen_in (event.Call turn.client k.epoch turn.number c)) k.clock h.clock)
