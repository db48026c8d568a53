-- The deeds of a job: each by what its client knows, and by what it was handed before.
use Rattle.std.specs.Prelude.{◌≡◌, ℕ, Bool, true, false, List, [], ◌∷◌, ◌++◌, Option, None, Some, if◌then◌else◌}
use Rattle.std.specs.List.{list_any}
use Rattle.alp_journal.specs.declared.log.Item.{Item}
use Rattle.alp_journal.specs.declared.log.Sent.{Sent}
use Rattle.alp_journal.specs.declared.log.Sent.TheVariants as sent
use Rattle.alp_lines.specs.declared.line.Line.{Line}
use Rattle.alp_lines.specs.declared.line.Line.TheVariants as line
use Rattle.alp_rpc.specs.declared.frame.Request.{Request}
use Rattle.alp_session.specs.Crowd.{Crowd}
use Rattle.alp_session.specs.Crowds.{asks, hears, at_line, request_next, times_out}
use Rattle.alp_session.specs.Frames.{IsOfFrame}
use Rattle.alp_session.specs.declared.frames.Addressed.{Addressed}
use Rattle.alp_session.specs.declared.waiting.Next.{Next}
use Rattle.alp_session.specs.declared.waiting.Next.TheVariants as next
use Rattle.alp_jobs.specs.Deeds.{Deed, sends, gives_tick, gives_timeout, waits_on, is_refusing}
use Rattle.alp_jobs.specs.declared.stage.Stage.{Stage}
use Rattle.alp_jobs.specs.declared.stage.Stage.TheVariants as stage

-- what the client is asked for: the last collect is one like the others
abbrev pub asked_at : Stage → Next
asked_at stage.Coming = next.Over
asked_at (stage.Asking n) = n
asked_at (stage.Ticking server after) = next.Over
asked_at stage.Last = next.Collect

-- the Tick that is due, and what comes after it
abbrev pub tick_at : Stage → Option (ℕ × Next)
tick_at stage.Coming = None
tick_at (stage.Asking n) = None
tick_at (stage.Ticking server after) = Some (server, after)
tick_at stage.Last = None

-- the server of it
abbrev pub tick_due : Stage → Option ℕ
tick_due stage.Coming = None
tick_due (stage.Asking n) = None
tick_due (stage.Ticking server after) = Some server
tick_due stage.Last = None

-- After the Tick that a collect calls for, the call is collected again; at the end of its client's patience its transaction times out
-- first; and after the last collect the line is over.
abbrev pub after_tick : Stage → Next → Next
after_tick stage.Last n = next.Over
after_tick s next.TimeOut = next.TimeOut
after_tick s n = next.Collect

-- Another answer is for the client to judge; but after the last collect nothing is collected again.
abbrev pub after_reply : Stage → Next → Next
after_reply stage.Last next.Call = next.Call
after_reply stage.Last n = next.Over
after_reply s n = n

abbrev pub stage_after : Stage → Item → Next → Stage
stage_after s x n = if waits_on x then stage.Ticking x.server (after_tick s n) else stage.Asking (after_reply s n)

-- the client has nothing to send for the line, and neither a Tick nor a Timeout is due
pub record IsOver (k : ℕ) (l : Line) (s : Stage) (c : Crowd) : Type 0 where
  pub asked : asks c k l (asked_at s) ≡ None
  pub ticked : tick_due s ≡ None
  pub timed_out : times_out c k (asked_at s) ≡ None

-- what was sent is what the client asks anew, if it asks so
abbrev pub IsAsked : Option Request → Sent → Type 0
IsAsked None s = Unit {0}
IsAsked (Some r) s = s ≡ sent.Call r.client r.epoch r.number r.call

-- The deeds of a line of client k from such a stage on, and what is known after them. A collect that is answered that the call waits is
-- followed by a Tick at that server, and nothing else is. At the end of patience a Timeout follows the Tick, and one last collect follows
-- the Timeout, whatever it is answered.
abbrev pub DoesLine : ℕ → Line → Stage → Crowd → List Deed → Crowd → Type 0
DoesLine k l s c [] d = IsOver k l s c × (d ≡ c)
DoesLine k l s c (sends x ∷ ds) d =
    (frame : Addressed) × (asks c k l (asked_at s) ≡ Some frame) × IsOfFrame l frame x × IsAsked (request_next c k l (asked_at s)) x.sent
    × DoesLine k l (stage_after s x (hears c k l (asked_at s) frame x.reply).1) (hears c k l (asked_at s) frame x.reply).0 ds d
DoesLine k l s c (gives_tick server ∷ ds) d = (after : Next) × (tick_at s ≡ Some (server, after)) × DoesLine k l (stage.Asking after) c ds d
DoesLine k l s c (gives_timeout server t ∷ ds) d = (times_out c k (asked_at s) ≡ Some (server, t)) × DoesLine k l stage.Last c ds d

-- the client comes to a line, and does it
abbrev pub DoesAll : ℕ → Line → Crowd → List Deed → Crowd → Type 0
DoesAll k l c ds d = DoesLine k l (stage.Asking next.Call) (at_line c k l) ds d

abbrev pub EitherIf : Bool → Type 0 → Type 0 → Type 0
EitherIf true P Q = P
EitherIf false P Q = Q

-- A transaction goes line by line. After a line of which something was refused, but not to wait, it is given up, and its other lines are
-- left out.
abbrev pub DoesTransaction : ℕ → List Line → Crowd → List Deed → Crowd → Type 0
DoesTransaction k [] c ds d = (ds ≡ []) × (d ≡ c)
DoesTransaction k (l ∷ ls) c ds d =
    (own : List Deed) × (others : List Deed) × (mid : Crowd) × (ds ≡ own ++ others) × DoesAll k l c own mid
    × EitherIf (list_any is_refusing own) (DoesAll k (line.Abort k) mid others d) (DoesTransaction k ls mid others d)

-- a job goes transaction by transaction
abbrev pub DoesJob : ℕ → List (List Line) → Crowd → List Deed → Crowd → Type 0
DoesJob k [] c ds d = (ds ≡ []) × (d ≡ c)
DoesJob k (ls ∷ ts) c ds d =
    (own : List Deed) × (others : List Deed) × (mid : Crowd) × (ds ≡ own ++ others) × DoesTransaction k ls c own mid × DoesJob k ts mid others d
