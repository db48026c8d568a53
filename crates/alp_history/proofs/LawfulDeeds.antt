-- deeds that are lawful, each by the laws that speak of its kind
use Rattle.std.specs.Prelude.{ℕ, true, Option, None, Some}
use Rattle.std.proofs.Common.{◌≡◌, List, sym, ◌∙◌}
use Rattle.alp_base.specs.declared.ids.JoinNo.{JoinNo}
use Rattle.alp_base.specs.declared.ids.TransId.{TransId}
use Rattle.alp_base.specs.declared.ids.Stamp.{Stamp}
use Rattle.alp_files.specs.declared.call.Call.{Call}
use Rattle.alp_files.specs.declared.refusal.Cause.{Cause}
use Rattle.alp_files.specs.Act.{id_in}
use Rattle.alp_files.specs.History.{PerformedCall}
use Rattle.alp_journal.specs.declared.event.Event.{Event}
use Rattle.alp_journal.specs.Deeds.{Begins, Joins, Enters, Quits, Aborts, Grants, Performs, Releases, Readies, Applies, Registers, Finishes, Hears, Decides, Ends, Acknowledges, Forgets}
use Rattle.alp_journal.specs.State.{State, is_other_server}
use Rattle.alp_journal.specs.Moves.{next_trans, next_join}
use Rattle.alp_journal.specs.Laws.{IsLawfulDeed, CountsOn, SeesView, KeepsLocks, IsOpenPart, MayRegister, MayReady, MayDecide, MayApply, ForgetsRight}

module _ (e : Event) (s : State) where
  pub begins : (t : TransId) (client : ℕ) (who : List ℕ) (seen : ℕ) → t ≡ next_trans s → IsLawfulDeed e s (Begins t client who seen)
  begins t client who seen h = record { counts = h; view = tt; locks = tt; running = tt; registration = tt; vote = tt; decision = tt; application = tt; forgetting = tt }

  pub joins : (j : JoinNo) (t : TransId) (client : ℕ) (who : List ℕ) → (j ≡ next_join s) × (is_other_server s t.server ≡ true) → IsLawfulDeed e s (Joins j t client who)
  joins j t client who h = record { counts = h; view = tt; locks = tt; running = tt; registration = tt; vote = tt; decision = tt; application = tt; forgetting = tt }

  pub enters : (j : JoinNo) (t : TransId) (client : ℕ) (who : List ℕ) → IsLawfulDeed e s (Enters j t client who)
  enters j t client who = record { counts = tt; view = tt; locks = tt; running = tt; registration = tt; vote = tt; decision = tt; application = tt; forgetting = tt }

  pub ends : (t : TransId) (client : ℕ) (c : Cause) → IsLawfulDeed e s (Ends t client c)
  ends t client c = record { counts = tt; view = tt; locks = tt; running = tt; registration = tt; vote = tt; decision = tt; application = tt; forgetting = tt }

  pub quits : (j : JoinNo) (t : TransId) (client : ℕ) (c : Option Cause) → IsLawfulDeed e s (Quits j t client c)
  quits j t client c = record { counts = tt; view = tt; locks = tt; running = tt; registration = tt; vote = tt; decision = tt; application = tt; forgetting = tt }

  pub aborts : (j : JoinNo) (t : TransId) (client : ℕ) (c : Cause) → IsLawfulDeed e s (Aborts j t client c)
  aborts j t client c = record { counts = tt; view = tt; locks = tt; running = tt; registration = tt; vote = tt; decision = tt; application = tt; forgetting = tt }

  pub grants : (t : TransId) (c : Call) → KeepsLocks s (Grants t c) → IsOpenPart s t → IsLawfulDeed e s (Grants t c)
  grants t c locks running = record { counts = tt; view = tt; locks = locks; running = running; registration = tt; vote = tt; decision = tt; application = tt; forgetting = tt }

  pub performs_so : (t : TransId) (d : PerformedCall) → CountsOn s (Performs t d) → SeesView e s (Performs t d) → KeepsLocks s (Performs t d) → IsOpenPart s t → IsLawfulDeed e s (Performs t d)
  performs_so t d counts view locks running = record { counts = counts; view = view; locks = locks; running = running; registration = tt; vote = tt; decision = tt; application = tt; forgetting = tt }

  -- of a call that makes no file
  pub performs : (t : TransId) (d : PerformedCall) → id_in d.reply ≡ None → SeesView e s (Performs t d) → KeepsLocks s (Performs t d) → IsOpenPart s t → IsLawfulDeed e s (Performs t d)
  performs t d none view locks running = performs_so t d (λ f is. (let wrong : None ≡ Some f = sym none ∙ is in cc)) view locks running

  pub releases : (t : TransId) → KeepsLocks s (Releases t) → IsLawfulDeed e s (Releases t)
  releases t h = record { counts = tt; view = tt; locks = h; running = tt; registration = tt; vote = tt; decision = tt; application = tt; forgetting = tt }

  pub readies : (j : JoinNo) (t : TransId) (ts : ℕ) → MayReady e s j t ts → IsLawfulDeed e s (Readies j t ts)
  readies j t ts h = record { counts = tt; view = tt; locks = tt; running = tt; registration = tt; vote = h; decision = tt; application = tt; forgetting = tt }

  pub applies : (j : JoinNo) (x : Stamp) → MayApply e s j x → IsLawfulDeed e s (Applies j x)
  applies j x h = record { counts = tt; view = tt; locks = tt; running = tt; registration = tt; vote = tt; decision = tt; application = h; forgetting = tt }

  pub registers : (t : TransId) (j : JoinNo) → MayRegister e s t j → IsLawfulDeed e s (Registers t j)
  registers t j h = record { counts = tt; view = tt; locks = tt; running = tt; registration = h; vote = tt; decision = tt; application = tt; forgetting = tt }

  pub finishes : (t : TransId) → IsLawfulDeed e s (Finishes t)
  finishes t = record { counts = tt; view = tt; locks = tt; running = tt; registration = tt; vote = tt; decision = tt; application = tt; forgetting = tt }

  pub hears : (t : TransId) (j : JoinNo) (ts : ℕ) → IsLawfulDeed e s (Hears t j ts)
  hears t j ts = record { counts = tt; view = tt; locks = tt; running = tt; registration = tt; vote = tt; decision = tt; application = tt; forgetting = tt }

  pub decides : (x : Stamp) (js : List JoinNo) → MayDecide e s x js → IsLawfulDeed e s (Decides x js)
  decides x js h = record { counts = tt; view = tt; locks = tt; running = tt; registration = tt; vote = tt; decision = h; application = tt; forgetting = tt }

  pub acknowledges : (t : TransId) (j : JoinNo) → IsLawfulDeed e s (Acknowledges t j)
  acknowledges t j = record { counts = tt; view = tt; locks = tt; running = tt; registration = tt; vote = tt; decision = tt; application = tt; forgetting = tt }

  pub forgets : (t : TransId) → ForgetsRight e s (Forgets t) → IsLawfulDeed e s (Forgets t)
  forgets t h = record { counts = tt; view = tt; locks = tt; running = tt; registration = tt; vote = tt; decision = tt; application = tt; forgetting = h }
