-- the Ticks of a job
use Rattle.std.specs.Prelude.{Bool, true, false, ◌++◌, cond, Option, None, Some}
use Rattle.std.specs.List.{list_any}
use Rattle.std.specs.Option.{option_map}
use Rattle.std.proofs.Common.{◌≡◌, ℕ, List, [], ◌∷◌, refl, sym, ◌∙◌, ap, subst}
use Rattle.alp_base.specs.declared.ids.TransId.{TransId}
use Rattle.alp_journal.specs.declared.log.Item.{Item}
use Rattle.alp_lines.specs.declared.line.Line.{Line}
use Rattle.alp_lines.specs.declared.line.Line.TheVariants as line
use Rattle.alp_session.specs.Crowd.{Crowd}
use Rattle.alp_session.specs.Crowds.{asks, hears, at_line, times_out}
use Rattle.alp_session.specs.declared.frames.Addressed.{Addressed}
use Rattle.alp_session.specs.declared.waiting.Next.{Next}
use Rattle.alp_session.specs.declared.waiting.Next.TheVariants as next
use Rattle.alp_jobs.specs.Deeds.{Deed, sends, gives_tick, gives_timeout, waits_on, is_refusing}
use Rattle.alp_jobs.specs.Does.{asked_at, tick_at, tick_due, after_tick, after_reply, stage_after, IsOver, DoesLine, DoesAll, EitherIf, DoesTransaction, DoesJob}
use Rattle.alp_jobs.specs.Ticks.{AreTicked}
use Rattle.alp_jobs.specs.declared.stage.Stage.{Stage}
use Rattle.alp_jobs.specs.declared.stage.Stage.TheVariants as stage

-- the Tick that is due after an item
due_after : (s : Stage) (x : Item) (n : Next) → tick_due (stage_after s x n) ≡ cond (waits_on x) (Some x.server) None
due_after s x n = go (waits_on x)
  where
    go : (b : Bool) → tick_due (cond b (stage.Ticking x.server (after_tick s n)) (stage.Asking (after_reply s n))) ≡ cond b (Some x.server) None
    go true = refl
    go false = refl

-- while a Tick is due nothing is sent and nothing times out
sends_none : (k : ℕ) (l : Line) (s : Stage) (c : Crowd) (frame : Addressed) → asks c k l (asked_at s) ≡ Some frame → tick_due s ≡ None
sends_none k l stage.Coming c frame asked = refl
sends_none k l (stage.Asking n) c frame asked = refl
sends_none k l (stage.Ticking server after) c frame asked = let wrong : None ≡ Some frame = asked in cc
sends_none k l stage.Last c frame asked = refl

times_none : (k : ℕ) (s : Stage) (c : Crowd) (due : ℕ × TransId) → times_out c k (asked_at s) ≡ Some due → tick_due s ≡ None
times_none k stage.Coming c due is = refl
times_none k (stage.Asking n) c due is = refl
times_none k (stage.Ticking server after) c due is = let wrong : None ≡ Some due = is in cc
times_none k stage.Last c due is = refl

tick_same : (s : Stage) (server : ℕ) (after : Next) → tick_at s ≡ Some (server, after) → tick_due s ≡ Some server
tick_same stage.Coming server after is = let wrong : ◌≡◌ {A = Option (ℕ × Next)} None (Some (server, after)) = is in cc
tick_same (stage.Asking n) server after is = let wrong : ◌≡◌ {A = Option (ℕ × Next)} None (Some (server, after)) = is in cc
tick_same (stage.Ticking there behind) server after is = ap (λ (o : Option (ℕ × Next)). option_map (λ (t : ℕ × Next). t.0) o) is
tick_same stage.Last server after is = let wrong : ◌≡◌ {A = Option (ℕ × Next)} None (Some (server, after)) = is in cc

line_ticked : (k : ℕ) (l : Line) (s : Stage) (c : Crowd) (ds : List Deed) (d : Crowd) → DoesLine k l s c ds d → AreTicked (tick_due s) ds
line_ticked k l s c [] d does = subst (λ (o : Option ℕ). AreTicked o []) (sym does.0.ticked) tt
line_ticked k l s c (sends x ∷ ds) d does =
    let behind : Stage = stage_after s x (hears c k l (asked_at s) does.0 x.reply).1 in
    let more : AreTicked (tick_due behind) ds = line_ticked k l behind (hears c k l (asked_at s) does.0 x.reply).0 ds d does.4 in
    let now : AreTicked None (sends x ∷ ds) = subst (λ (o : Option ℕ). AreTicked o ds) (due_after s x (hears c k l (asked_at s) does.0 x.reply).1) more in
    subst (λ (o : Option ℕ). AreTicked o (sends x ∷ ds)) (sym (sends_none k l s c does.0 does.1)) now
line_ticked k l s c (gives_tick server ∷ ds) d does =
    subst (λ (o : Option ℕ). AreTicked o (gives_tick server ∷ ds)) (sym (tick_same s server does.0 does.1)) (refl, line_ticked k l (stage.Asking does.0) c ds d does.2)
line_ticked k l s c (gives_timeout server t ∷ ds) d does =
    subst (λ (o : Option ℕ). AreTicked o (gives_timeout server t ∷ ds)) (sym (times_none k s c (server, t) does.0)) (line_ticked k l stage.Last c ds d does.1)

both_ticked : (o : Option ℕ) (ds es : List Deed) → AreTicked o ds → AreTicked None es → AreTicked o (ds ++ es)
both_ticked None [] es own others = others
both_ticked (Some server) [] es own others = absurd own
both_ticked None (sends x ∷ ds) es own others = both_ticked (cond (waits_on x) (Some x.server) None) ds es own others
both_ticked (Some server) (sends x ∷ ds) es own others = absurd own
both_ticked None (gives_tick there ∷ ds) es own others = absurd own
both_ticked (Some server) (gives_tick there ∷ ds) es own others = (own.0, both_ticked None ds es own.1 others)
both_ticked None (gives_timeout there t ∷ ds) es own others = both_ticked None ds es own others
both_ticked (Some server) (gives_timeout there t ∷ ds) es own others = absurd own

either_ticked : (b : Bool) (P Q : Type 0) (ds : List Deed) → (P → AreTicked None ds) → (Q → AreTicked None ds) → EitherIf b P Q → AreTicked None ds
either_ticked true P Q ds first second does = first does
either_ticked false P Q ds first second does = second does

transaction_ticked : (k : ℕ) (ls : List Line) (c : Crowd) (ds : List Deed) (d : Crowd) → DoesTransaction k ls c ds d → AreTicked None ds
transaction_ticked k [] c ds d does = subst (λ (xs : List Deed). AreTicked None xs) (sym does.0) tt
transaction_ticked k (l ∷ ls) c ds d does =
    let own : AreTicked None does.0 = line_ticked k l (stage.Asking next.Call) (at_line c k l) does.0 does.2 does.4 in
    let others : AreTicked None does.1 =
    either_ticked (list_any is_refusing does.0) (DoesAll k (line.Abort k) does.2 does.1 d) (DoesTransaction k ls does.2 does.1 d) does.1
    (λ (given : DoesAll k (line.Abort k) does.2 does.1 d). line_ticked k (line.Abort k) (stage.Asking next.Call) (at_line does.2 k (line.Abort k)) does.1 d given)
    (λ (kept : DoesTransaction k ls does.2 does.1 d). transaction_ticked k ls does.2 does.1 d kept) does.5 in
    subst (λ (xs : List Deed). AreTicked None xs) (sym does.3) (both_ticked None does.0 does.1 own others)

-- the Ticks of a job follow its collects, one by one
pub job_ticked : (k : ℕ) (ts : List (List Line)) (c : Crowd) (ds : List Deed) (d : Crowd) → DoesJob k ts c ds d → AreTicked None ds
job_ticked k [] c ds d does = subst (λ (xs : List Deed). AreTicked None xs) (sym does.0) tt
job_ticked k (ls ∷ ts) c ds d does =
    subst (λ (xs : List Deed). AreTicked None xs) (sym does.3)
    (both_ticked None does.0 does.1 (transaction_ticked k ls c does.0 does.2 does.4) (job_ticked k ts does.2 does.1 d does.5))
