-- what the rest of a job does before a deed and after it
use Rattle.std.specs.Prelude.{Bool, true, false, not, ◌&&◌, ◌||◌, ◌++◌, cond, Option, None, Some, IfSome, Result, Ok, Err, OnOk, IfOk, Vec}
use Rattle.std.specs.Global.{Global}
use Rattle.std.specs.List.{list_any}
use Rattle.std.specs.Vec.{vec_len, vec_capacity}
use Rattle.std.proofs.Common.{◌≡◌, ℕ, ◌<◌, List, [], ◌∷◌, refl, sym, ◌∙◌, ap, subst, append_assoc}
use Rattle.alp_base.specs.declared.ids.TransId.{TransId}
use Rattle.alp_journal.specs.declared.log.Item.{Item}
use Rattle.alp_lines.specs.declared.line.Line.{Line}
use Rattle.alp_lines.specs.declared.line.Line.TheVariants as line
use Rattle.alp_session.specs.Crowd.{Crowd}
use Rattle.alp_rpc.specs.Frames.{request}
use Rattle.alp_session.specs.Crowds.{asks, hears, at_line, request_next, times_out}
use Rattle.alp_session.specs.Frames.{IsOfFrame}
use Rattle.alp_session.specs.declared.frames.Addressed.{Addressed}
use Rattle.alp_session.specs.declared.waiting.Next.{Next}
use Rattle.alp_session.specs.declared.waiting.Next.TheVariants as next
use Rattle.alp_jobs.specs.Deeds.{Deed, sends, gives_tick, gives_timeout, waits_on, is_refusal, is_refusing}
use Rattle.alp_jobs.specs.Does.{asked_at, tick_at, tick_due, after_tick, after_reply, stage_after, IsOver, IsAsked, DoesLine, DoesAll, EitherIf, DoesTransaction, DoesJob}
use Rattle.alp_jobs.specs.declared.to_do.ToDo.{ToDo}
use Rattle.alp_jobs.specs.declared.to_do.ToDo.TheVariants.{Done}
use Rattle.alp_jobs.specs.States.{JobState}
use Rattle.alp_jobs.proofs.AskedLemmas.{asked_is}
use Rattle.alp_jobs.specs.Jobs.{HasPlaceIf, with_room, IsToDo, new_job, frame_due, timeout_due, IsBehind, is_coming, is_lost, is_nil, is_ended, way_after, DoesFrom, DoesBehind, DoesOthers, DoesRest, Does, GoesOn, after_frame, stage_ticked, after_tick_given, after_timeout, at_its_line, giving_up, at_next, gone_on}
use Rattle.alp_jobs.specs.declared.stage.Stage.{Stage}
use Rattle.alp_jobs.specs.declared.stage.Stage.TheVariants as stage
use Rattle.alp_jobs.specs.declared.stage.Way.{Way}
use Rattle.alp_jobs.specs.declared.stage.Way.TheVariants as way

-- ---- the line that the client has come to

in_line : (k : ℕ) (l : Line) (s : Stage) (c : Crowd) (ds : List Deed) (d : Crowd) → is_coming s ≡ false → DoesLine k l s c ds d → DoesFrom k l s c ds d
in_line k l stage.Coming c ds d come does = let wrong : true ≡ false = come in absurd (cc)
in_line k l (stage.Asking n) c ds d come does = does
in_line k l (stage.Ticking server after) c ds d come does = does
in_line k l stage.Last c ds d come does = does

of_line : (k : ℕ) (l : Line) (s : Stage) (c : Crowd) (ds : List Deed) (d : Crowd) → is_coming s ≡ false → DoesFrom k l s c ds d → DoesLine k l s c ds d
of_line k l stage.Coming c ds d come does = let wrong : true ≡ false = come in absurd (cc)
of_line k l (stage.Asking n) c ds d come does = does
of_line k l (stage.Ticking server after) c ds d come does = does
of_line k l stage.Last c ds d come does = does

come_after : (s : Stage) (x : Item) (n : Next) → is_coming (stage_after s x n) ≡ false
come_after s x n = go (waits_on x)
  where
    go : (b : Bool) → is_coming (cond b (stage.Ticking x.server (after_tick s n)) (stage.Asking (after_reply s n))) ≡ false
    go true = refl
    go false = refl

-- something is sent, ticks or times out only where the client has come to the line
sends_come : (k : ℕ) (l : Line) (s : Stage) (c : Crowd) (frame : Addressed) → asks c k l (asked_at s) ≡ Some frame → is_coming s ≡ false
sends_come k l stage.Coming c frame asked = let wrong : None ≡ Some frame = asked in cc
sends_come k l (stage.Asking n) c frame asked = refl
sends_come k l (stage.Ticking server after) c frame asked = refl
sends_come k l stage.Last c frame asked = refl

times_come : (k : ℕ) (s : Stage) (c : Crowd) (due : ℕ × TransId) → times_out c k (asked_at s) ≡ Some due → is_coming s ≡ false
times_come k stage.Coming c due is = let wrong : None ≡ Some due = is in cc
times_come k (stage.Asking n) c due is = refl
times_come k (stage.Ticking server after) c due is = refl
times_come k stage.Last c due is = refl

no_tick : (s : Stage) (server : ℕ) (after : Next) → tick_due s ≡ None → tick_at s ≡ Some (server, after) → ⊥
no_tick stage.Coming server after none is = let wrong : ◌≡◌ {A = Option (ℕ × Next)} None (Some (server, after)) = is in cc
no_tick (stage.Asking n) server after none is = let wrong : ◌≡◌ {A = Option (ℕ × Next)} None (Some (server, after)) = is in cc
no_tick (stage.Ticking there then_next) server after none is = let wrong : ◌≡◌ {A = Option ℕ} (Some there) None = none in cc
no_tick stage.Last server after none is = let wrong : ◌≡◌ {A = Option (ℕ × Next)} None (Some (server, after)) = is in cc

-- a line that is over has no deeds
over_none : (k : ℕ) (l : Line) (s : Stage) (c : Crowd) (ds : List Deed) (d : Crowd) → IsOver k l s c → DoesLine k l s c ds d → (ds ≡ []) × (d ≡ c)
over_none k l s c [] d over does = (refl, does.1)
over_none k l s c (sends x ∷ ds) d over does = let wrong : None ≡ Some does.0 = sym over.asked ∙ does.1 in absurd (cc)
over_none k l s c (gives_tick server ∷ ds) d over does = absurd (no_tick s server does.0 over.ticked does.1)
over_none k l s c (gives_timeout server t ∷ ds) d over does = let wrong : ◌≡◌ {A = Option (ℕ × TransId)} None (Some (server, t)) = sym over.timed_out ∙ does.0 in absurd (cc)

-- ---- the rest of the transaction, and the others

way_both : (a b : Bool) (w : Way) → way_after b (way_after a w) ≡ way_after (a || b) w
way_both false b w = refl
way_both true false w = refl
way_both true true way.Going = refl
way_both true true way.Refused = refl
way_both true true way.GivenUp = refl

given_up_stays : (b : Bool) → way_after b way.GivenUp ≡ way.GivenUp
given_up_stays true = refl
given_up_stays false = refl

-- a transaction that is not lost goes on
not_lost : (k : ℕ) (w : Way) (ls : List Line) (c : Crowd) (ds : List Deed) (d : Crowd) → is_lost w ≡ false → DoesTransaction k ls c ds d → DoesBehind k w ls c ds d
not_lost k way.Going ls c ds d kept does = does
not_lost k way.Refused ls c ds d kept does = let wrong : true ≡ false = kept in absurd (cc)
not_lost k way.GivenUp ls c ds d kept does = does

lost : (k : ℕ) (w : Way) (ls : List Line) (c : Crowd) (ds : List Deed) (d : Crowd) → is_lost w ≡ true → DoesAll k (line.Abort k) c ds d → DoesBehind k w ls c ds d
lost k way.Going ls c ds d is does = let wrong : false ≡ true = is in absurd (cc)
lost k way.Refused ls c ds d is does = does
lost k way.GivenUp ls c ds d is does = let wrong : false ≡ true = is in absurd (cc)

after_line : (k : ℕ) (b : Bool) (ls : List Line) (c : Crowd) (ds : List Deed) (d : Crowd) → DoesBehind k (way_after b way.Going) ls c ds d
    → EitherIf b (DoesAll k (line.Abort k) c ds d) (DoesTransaction k ls c ds d)
after_line k true ls c ds d does = does
after_line k false ls c ds d does = does

-- no deeds before those of the other transactions
none_before : (k : ℕ) (ts : List (List Line)) (c mid : Crowd) (ds own others : List Deed) (d : Crowd) → ds ≡ own ++ others → own ≡ [] → mid ≡ c → DoesJob k ts mid others d → DoesJob k ts c ds d
none_before k ts c mid ds own others d are none same does =
    subst (λ (x : Crowd). DoesJob k ts x ds d) same
    (subst (λ (xs : List Deed). DoesJob k ts mid xs d) (sym (are ∙ ap (λ (o : List Deed). o ++ others) none)) does)

none_left : (k : ℕ) (ts : List (List Line)) (c : Crowd) (ds : List Deed) (d : Crowd) → DoesOthers k way.Going [] ts c ds d → DoesJob k ts c ds d
none_left k ts c ds d does = none_before k ts c does.mid ds does.own does.others d does.are does.transaction.0 does.transaction.1 does.job

none_left_behind : (k : ℕ) (ts : List (List Line)) (c : Crowd) (ds : List Deed) (d : Crowd) → DoesOthers k way.GivenUp [] ts c ds d → DoesJob k ts c ds d
none_left_behind k ts c ds d does = none_before k ts c does.mid ds does.own does.others d does.are does.transaction.0 does.transaction.1 does.job

-- the rest of a job whose line is over is that of its transaction and of the others
over_rest : (j : JobState) (ds : List Deed) (d : Crowd) → is_coming j.stage ≡ false → IsBehind j → DoesOthers j.number j.way j.rest j.others j.crowd ds d → DoesRest j ds d
over_rest j ds d come over does =
    record { own = []; others = ds; mid = j.crowd; are = refl; line = in_line j.number j.line j.stage j.crowd [] j.crowd come (over, refl); after = does }

rest_over : (j : JobState) (ds : List Deed) (d : Crowd) → is_coming j.stage ≡ false → IsBehind j → DoesRest j ds d → DoesOthers j.number j.way j.rest j.others j.crowd ds d
rest_over j ds d come over does =
    let none : (does.own ≡ []) × (does.mid ≡ j.crowd) =
    over_none j.number j.line j.stage j.crowd does.own does.mid over (of_line j.number j.line j.stage j.crowd does.own does.mid come does.line) in
    let here : DoesOthers j.number j.way j.rest j.others does.mid does.others d =
    subst (λ (xs : List Deed). DoesOthers j.number (way_after (list_any is_refusing xs) j.way) j.rest j.others does.mid does.others d) none.0 does.after in
    let there : DoesOthers j.number j.way j.rest j.others j.crowd does.others d =
    subst (λ (x : Crowd). DoesOthers j.number j.way j.rest j.others x does.others d) none.1 here in
    subst (λ (xs : List Deed). DoesOthers j.number j.way j.rest j.others j.crowd xs d) (sym (does.are ∙ ap (λ (o : List Deed). o ++ does.others) none.0)) there

-- ---- deeds

-- the rest of a job is that of the one that has sent this, and before it this
pub sent_does : (j : JobState) (frame : Addressed) (x : Item) → frame_due j ≡ Some frame → IfSome (request_next j.crowd j.number j.line (asked_at j.stage)) request.Fits → IsOfFrame j.line frame x → Does j (sends x) (after_frame j frame x)
sent_does j frame x asked fits of_frame ds d does =
    record {
      own = sends x ∷ does.own;
      others = does.others;
      mid = does.mid;
      are = ap (λ (xs : List Deed). sends x ∷ xs) does.are;
      line = in_line j.number j.line j.stage j.crowd (sends x ∷ does.own) does.mid (sends_come j.number j.line j.stage j.crowd frame asked) (
        frame,
        asked,
        of_frame,
        asked_is j.crowd j.number j.line (asked_at j.stage) frame x.sent asked fits of_frame.sent,
        of_line j.number j.line (after_frame j frame x).stage (after_frame j frame x).crowd does.own does.mid
            (come_after j.stage x (hears j.crowd j.number j.line (asked_at j.stage) frame x.reply).1) does.line,
      );
      after = subst (λ (w : Way). DoesOthers j.number w j.rest j.others does.mid does.others d) (way_both (is_refusal x.reply) (list_any is_refusing does.own) j.way) does.after;
    }

tick_line : (k : ℕ) (l : Line) (s : Stage) (c : Crowd) (server : ℕ) (ds : List Deed) (d : Crowd) → tick_due s ≡ Some server → DoesFrom k l (stage_ticked s) c ds d
    → DoesFrom k l s c (gives_tick server ∷ ds) d
tick_line k l stage.Coming c server ds d due does = let wrong : None ≡ Some server = due in absurd (cc)
tick_line k l (stage.Asking n) c server ds d due does = let wrong : None ≡ Some server = due in absurd (cc)
tick_line k l (stage.Ticking there after) c server ds d due does =
    let same : there ≡ server = cc in
    (after, ap (λ (n : ℕ). Some (n, after)) same, does)
tick_line k l stage.Last c server ds d due does = let wrong : None ≡ Some server = due in absurd (cc)

-- that of one that has given this Tick, and before it the Tick
pub tick_does : (j : JobState) (server : ℕ) → tick_due j.stage ≡ Some server → Does j (gives_tick server) (after_tick_given j)
tick_does j server due ds d does =
    record {
      own = gives_tick server ∷ does.own;
      others = does.others;
      mid = does.mid;
      are = ap (λ (xs : List Deed). gives_tick server ∷ xs) does.are;
      line = tick_line j.number j.line j.stage j.crowd server does.own does.mid due does.line;
      after = does.after;
    }

-- that of one that has given this Timeout, and before it the Timeout
pub timeout_does : (j : JobState) (server : ℕ) (t : TransId) → timeout_due j ≡ Some (server, t) → Does j (gives_timeout server t) (after_timeout j)
timeout_does j server t due ds d does =
    record {
      own = gives_timeout server t ∷ does.own;
      others = does.others;
      mid = does.mid;
      are = ap (λ (xs : List Deed). gives_timeout server t ∷ xs) does.are;
      line = in_line j.number j.line j.stage j.crowd (gives_timeout server t ∷ does.own) does.mid (times_come j.number j.stage j.crowd (server, t) due) (due, does.line);
      after = does.after;
    }

-- ---- going on

-- the client comes to its line
coming_goes : (j : JobState) → is_coming j.stage ≡ true → GoesOn j (at_its_line j)
coming_goes j come ds d does =
    record { own = does.own; others = does.others; mid = does.mid; are = does.are; line = comes j.stage come; after = does.after }
  where
    comes : (s : Stage) → is_coming s ≡ true → DoesFrom j.number j.line s j.crowd does.own does.mid
    comes stage.Coming is = does.line
    comes (stage.Asking n) is = let wrong : false ≡ true = is in absurd (cc)
    comes (stage.Ticking server after) is = let wrong : false ≡ true = is in absurd (cc)
    comes stage.Last is = let wrong : false ≡ true = is in absurd (cc)

-- it is given up
giving_goes : (j : JobState) → is_coming j.stage ≡ false → IsBehind j → is_lost j.way ≡ true → GoesOn j (giving_up j)
giving_goes j come over is ds d does =
    let behind : DoesOthers j.number way.GivenUp [] j.others does.mid does.others d =
    subst (λ (w : Way). DoesOthers j.number w [] j.others does.mid does.others d) (given_up_stays (list_any is_refusing does.own)) does.after in
    over_rest j ds d come over
    (record {
      own = does.own;
      others = does.others;
      mid = does.mid;
      are = does.are;
      transaction = lost j.number j.way j.rest j.crowd does.own does.mid is does.line;
      job = none_left_behind j.number j.others does.mid does.others d behind;
    })

-- the next line of its transaction comes
line_goes : (j : JobState) (l : Line) (ls : List Line) → is_coming j.stage ≡ false → IsBehind j → is_lost j.way ≡ false → j.rest ≡ l ∷ ls
    → GoesOn j (record j { line = l; stage = stage.Coming; way = way.Going; rest = ls })
line_goes j l ls come over kept rest ds d does =
    let whole : DoesTransaction j.number (l ∷ ls) j.crowd (does.own ++ does.after.own) does.after.mid =
    (does.own, does.after.own, does.mid, refl, does.line, after_line j.number (list_any is_refusing does.own) ls does.mid does.after.own does.after.mid does.after.transaction) in
    over_rest j ds d come over
    (record {
      own = does.own ++ does.after.own;
      others = does.after.others;
      mid = does.after.mid;
      are = does.are ∙ ap (λ (xs : List Deed). does.own ++ xs) does.after.are ∙ sym (append_assoc does.own does.after.own does.after.others);
      transaction = subst (λ (xs : List Line). DoesBehind j.number j.way xs j.crowd (does.own ++ does.after.own) does.after.mid) (sym rest)
          (not_lost j.number j.way (l ∷ ls) j.crowd (does.own ++ does.after.own) does.after.mid kept whole);
      job = does.after.job;
    })

-- the next transaction comes
next_goes : (j : JobState) (ls : List Line) (ts : List (List Line)) → is_coming j.stage ≡ false → IsBehind j → is_lost j.way ≡ false → j.rest ≡ [] → j.others ≡ ls ∷ ts
    → GoesOn j (record j { way = way.Going; rest = ls; others = ts })
next_goes j ls ts come over kept rest others ds d does =
    let ahead : DoesOthers j.number way.Going ls ts j.crowd ds d = rest_over (record j { way = way.Going; rest = ls; others = ts }) ds d come over does in
    let all : DoesJob j.number (ls ∷ ts) j.crowd ds d = (ahead.own, ahead.others, ahead.mid, ahead.are, ahead.transaction, ahead.job) in
    let none : DoesTransaction j.number [] j.crowd [] j.crowd = (refl, refl) in
    over_rest j ds d come over
    (record {
      own = [];
      others = ds;
      mid = j.crowd;
      are = refl;
      transaction = subst (λ (xs : List Line). DoesBehind j.number j.way xs j.crowd [] j.crowd) (sym rest) (not_lost j.number j.way [] j.crowd [] j.crowd kept none);
      job = subst (λ (xss : List (List Line)). DoesJob j.number xss j.crowd ds d) (sym others) all;
    })

at_next_goes : (j : JobState) (ls : List Line) (ts : List (List Line)) → is_coming j.stage ≡ false → IsBehind j → is_lost j.way ≡ false → j.rest ≡ ls → j.others ≡ ts
    → GoesOn j (at_next j ls ts)
at_next_goes j (l ∷ ls) ts come over kept rest others = line_goes j l ls come over kept rest
at_next_goes j [] (ls ∷ ts) come over kept rest others = next_goes j ls ts come over kept rest others
at_next_goes j [] [] come over kept rest others = λ (ds : List Deed) (d : Crowd) (does : DoesRest j ds d). does

-- the rest of a job whose line is over is that of the one that has gone on
pub gone_goes : (j : JobState) → IsBehind j → GoesOn j (gone_on j)
gone_goes j over = go (is_coming j.stage) refl (is_lost j.way) refl
  where
    go : (b : Bool) → is_coming j.stage ≡ b → (a : Bool) → is_lost j.way ≡ a → GoesOn j (cond b (at_its_line j) (cond a (giving_up j) (at_next j j.rest j.others)))
    go true come a is = coming_goes j come
    go false come true is = giving_goes j come over is
    go false come false is = at_next_goes j j.rest j.others come over is refl refl

-- ---- the beginning and the end

-- the rest of a job of which nothing is done is all of it
pub new_does : (k : ℕ) (ts : List (List Line)) (c : Crowd) (ds : List Deed) (d : Crowd) → DoesRest (new_job k ts c) ds d → DoesJob k ts c ds d
new_does k ts c ds d does =
    none_left k ts c ds d (rest_over (new_job k ts c) ds d refl (record { asked = refl; ticked = refl; timed_out = refl }) does)

ended_rest : (xs : List Line) → is_nil xs ≡ true → xs ≡ []
ended_rest [] is = refl
ended_rest (x ∷ xs) is = let wrong : false ≡ true = is in cc

ended_others : (xss : List (List Line)) → is_nil xss ≡ true → xss ≡ []
ended_others [] is = refl
ended_others (xs ∷ xss) is = let wrong : false ≡ true = is in cc

both_left : (a b : Bool) → (a && b) ≡ true → a ≡ true
both_left true b is = refl
both_left false b is = let wrong : false ≡ true = is in cc

both_right : (a b : Bool) → (a && b) ≡ true → b ≡ true
both_right true b is = is
both_right false b is = let wrong : false ≡ true = is in cc

not_true : (a : Bool) → not a ≡ true → a ≡ false
not_true true is = let wrong : false ≡ true = is in cc
not_true false is = refl

-- and nothing is left of it where nothing comes after its line
pub ended_does : (j : JobState) → IsBehind j → is_ended j ≡ true → DoesRest j [] j.crowd
ended_does j over ended =
    let is_last : Bool = not (is_coming j.stage) && not (is_lost j.way) in
    let first : (is_last && is_nil j.rest) ≡ true = both_left (is_last && is_nil j.rest) (is_nil j.others) ended in
    let last : is_last ≡ true = both_left is_last (is_nil j.rest) first in
    let come : is_coming j.stage ≡ false = not_true (is_coming j.stage) (both_left (not (is_coming j.stage)) (not (is_lost j.way)) last) in
    let kept : is_lost j.way ≡ false = not_true (is_lost j.way) (both_right (not (is_coming j.stage)) (not (is_lost j.way)) last) in
    let rest : j.rest ≡ [] = ended_rest j.rest (both_right is_last (is_nil j.rest) first) in
    let others : j.others ≡ [] = ended_others j.others (both_right (is_last && is_nil j.rest) (is_nil j.others) ended) in
    let none : DoesTransaction j.number [] j.crowd [] j.crowd = (refl, refl) in
    let nobody : DoesJob j.number [] j.crowd [] j.crowd = (refl, refl) in
    over_rest j [] j.crowd come over
    (record {
      own = [];
      others = [];
      mid = j.crowd;
      are = refl;
      transaction = subst (λ (xs : List Line). DoesBehind j.number j.way xs j.crowd [] j.crowd) (sym rest) (not_lost j.number j.way [] j.crowd [] j.crowd kept none);
      job = subst (λ (xss : List (List Line)). DoesJob j.number xss j.crowd [] j.crowd) (sym others) nobody;
    })

-- ---- as the calls say it

pub sent_if : {A E : Type 0} (r : Result A E) (j now : JobState) (frame : Addressed) (x : Item) → frame_due j ≡ Some frame → IfSome (request_next j.crowd j.number j.line (asked_at j.stage)) request.Fits → IsOfFrame j.line frame x
    → OnOk r (now ≡ after_frame j frame x) → OnOk r (Does j (sends x) now)
sent_if (Ok a) j now frame x asked fits of_frame same = subst (λ (s : JobState). Does j (sends x) s) (sym same) (sent_does j frame x asked fits of_frame)
sent_if (Err e) j now frame x asked fits of_frame same = tt

-- ---- room

-- that there is room changes nothing of what the rest does
pub room_goes : (j : JobState) → GoesOn j (with_room j)
room_goes j ds d does = record { own = does.own; others = does.others; mid = does.mid; are = does.are; line = does.line; after = does.after }

pub room_if : {A E : Type 0} (r : Result A E) (j now : JobState) → OnOk r (now ≡ with_room j) → OnOk r (GoesOn j now)
room_if (Ok a) j now same = subst (λ (s : JobState). GoesOn j s) (sym same) (room_goes j)
room_if (Err e) j now same = tt

pub due_if : {A E : Type 0} (r : Result A E) (j now : JobState) → OnOk r (now ≡ with_room j) → OnOk r (frame_due now ≡ frame_due j)
due_if (Ok a) j now same = ap (λ (s : JobState). frame_due s) same
due_if (Err e) j now same = tt

pub asked_if : {A E : Type 0} (r : Result A E) (j now : JobState) → OnOk r (now ≡ with_room j)
    → OnOk r (request_next now.crowd now.number now.line (asked_at now.stage) ≡ request_next j.crowd j.number j.line (asked_at j.stage))
asked_if (Ok a) j now same = ap (λ (s : JobState). request_next s.crowd s.number s.line (asked_at s.stage)) same
asked_if (Err e) j now same = tt

pub placed : (said : Bool) (xs : Vec Item Global) → said ≡ true → HasPlaceIf said xs → vec_len xs < vec_capacity xs
placed true xs is place = place
placed false xs is place = let wrong : false ≡ true = is in absurd (cc)

pub gone_if : {A E : Type 0} (r : Result A E) (j now : JobState) → IsBehind j → OnOk r (now ≡ gone_on j) → OnOk r (GoesOn j now)
gone_if (Ok a) j now over same = subst (λ (s : JobState). GoesOn j s) (sym same) (gone_goes j over)
gone_if (Err e) j now over same = tt

pub tick_if : (j now : JobState) → now ≡ after_tick_given j → IfSome (tick_due j.stage) (λ (server : ℕ). Does j (gives_tick server) now)
tick_if j now same = go (tick_due j.stage) refl
  where
    go : (o : Option ℕ) → tick_due j.stage ≡ o → IfSome o (λ (server : ℕ). Does j (gives_tick server) now)
    go None is = tt
    go (Some server) is = subst (λ (s : JobState). Does j (gives_tick server) s) (sym same) (tick_does j server is)

pub timeout_if : (j now : JobState) → now ≡ after_timeout j → IfSome (timeout_due j) (λ (due : ℕ × TransId). Does j (gives_timeout due.0 due.1) now)
timeout_if j now same = go (timeout_due j) refl
  where
    go : (o : Option (ℕ × TransId)) → timeout_due j ≡ o → IfSome o (λ (due : ℕ × TransId). Does j (gives_timeout due.0 due.1) now)
    go None is = tt
    go (Some due) is = subst (λ (s : JobState). Does j (gives_timeout due.0 due.1) s) (sym same) (timeout_does j due.0 due.1 is)

pub done_if : {E : Type 0} (r : Result ToDo E) (j : JobState) → IfOk r (IsToDo j) → IfOk r (λ (x : ToDo). x ≡ Done → DoesRest j [] j.crowd)
done_if (Ok x) j due = λ (done : x ≡ Done). let ended : IsToDo j Done = subst (λ (y : ToDo). IsToDo j y) done due in ended_does j ended.0 ended.1
done_if (Err e) j due = tt

pub new_if : (k : ℕ) (ts : List (List Line)) (c : Crowd) (j : JobState) → j ≡ new_job k ts c → (ds : List Deed) (d : Crowd) → DoesRest j ds d → DoesJob k ts c ds d
new_if k ts c j same ds d does = new_does k ts c ds d (subst (λ (s : JobState). DoesRest s ds d) same does)
