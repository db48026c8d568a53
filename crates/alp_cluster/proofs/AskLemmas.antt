-- the calls of a client's lines
use Rattle.std.specs.Prelude.{false, Option, None, Some, IfSome}
use Rattle.std.specs.List.{AllByRecursion}
use Rattle.std.proofs.Common.{◌≡◌, ℕ, ◌≤◌, List, refl, subst}
use Rattle.alp_base.specs.declared.ids.Stamp.{Stamp}
use Rattle.alp_base.specs.declared.ids.TransId.{TransId}
use Rattle.alp_files.specs.declared.call.Call.{Call}
use Rattle.alp_files.specs.declared.call.Call.TheVariants as call
use Rattle.alp_lines.specs.declared.line.Line.{Line}
use Rattle.alp_lines.specs.Forms.{IsForm}
use Rattle.alp_lines.specs.Forms as form
use Rattle.alp_session.specs.Maps.{WordMap}
use Rattle.alp_session.specs.Clients.{first_of}
use Rattle.alp_session.specs.declared.asking.Asking.{Asking}
use Rattle.alp_session.specs.declared.asking.Asking.TheVariants as asking
use Rattle.alp_session.specs.declared.client.Client.{Client}
use Rattle.alp_session.specs.declared.waiting.Waiting.{Waiting}
use Rattle.alp_session.specs.Calls.{call_in, call_with, collect_of, outcome_of, call_by, call_asked}
use Rattle.alp_history.specs.Handed.{HasSeenBy}
use Rattle.alp_history.specs.Items.{Item}
use Rattle.alp_node.specs.Turns.{is_greeting}
use Rattle.alp_cluster.specs.Clients.{IsToldOf, AsksOfTold}

-- ---- the call of a line

-- a line that needs a transaction asks where there is one
in_trans : (words : WordMap) (c : Client) (l : Line) (o : Option TransId) (asked : Call) (P : Call → Type 0) → call_with words c o l ≡ Some asked
    → ((t : TransId) (x : Call) → call_in words c t l ≡ Some x → P x) → P asked
in_trans words c l None asked P e make = cc
in_trans words c l (Some t) asked P e make = make t asked e

is_asked : (x y : Call) (P : Call → Type 0) → Some x ≡ Some y → P x → P y
is_asked x y P e h = let same : x ≡ y = cc in subst P same h

no_call : (x : Call) (P : Call → Type 0) → None ≡ Some x → P x
no_call x P e = cc

-- a collect is of some number
collect_call : (o : Option Waiting) (asked : Call) (P : Call → Type 0) → collect_of o ≡ Some asked → ((n : ℕ) → P (call.Collect n)) → P asked
collect_call None asked P e make = cc
collect_call (Some w) asked P e make = is_asked (call.Collect w.number) asked P e (make w.number)

-- and the question for an outcome is of the transaction begun last
outcome_call : (o : Option TransId) (asked : Call) (P : Call → Type 0) → outcome_of o ≡ Some asked → ((t : TransId) → o ≡ Some t → P (call.Outcome t)) → P asked
outcome_call None asked P e make = cc
outcome_call (Some t) asked P e make = is_asked (call.Outcome t) asked P e (make t refl)

-- neither a greeting, nor a begin, nor the question for an outcome
abbrev IsOther : Call → Type 0
IsOther (call.Hello name) = ⊥
IsOther (call.Begin seen) = ⊥
IsOther (call.Outcome t) = ⊥
IsOther x = Unit {0}

-- What holds of each call that a line asks: of all but a greeting, where it holds of a begin with the stamp that the client was told
-- last, and of the question for the outcome of the transaction that it begun last.
record HoldsOf (c : Client) (P : Call → Type 0) : Type 0 where
  begin : P (call.Begin c.told)
  outcome : (t : TransId) → c.begun ≡ Some t → P (call.Outcome t)
  collect : (n : ℕ) → P (call.Collect n)
  other : (x : Call) → IsOther x → P x

line_holds : (words : WordMap) (c : Client) (l : Line) (asked : Call) (P : Call → Type 0) → HoldsOf c P → IsForm l → call_by words c l ≡ Some asked → P asked
line_holds words c l asked P h (form.servers count) e = in_trans words c l c.trans asked P e (λ t x own. no_call x P own)
line_holds words c l asked P h (form.volume server home area small) e = in_trans words c l c.trans asked P e (λ t x own. no_call x P own)
line_holds words c l asked P h (form.client k name) e = in_trans words c l c.trans asked P e (λ t x own. no_call x P own)
line_holds words c l asked P h (form.patience count some few) e = in_trans words c l c.trans asked P e (λ t x own. no_call x P own)
line_holds words c l asked P h (form.auto_said on) e = in_trans words c l c.trans asked P e (λ t x own. no_call x P own)
line_holds words c l asked P h (form.timeout server k most) e = in_trans words c l c.trans asked P e (λ t x own. no_call x P own)
line_holds words c l asked P h (form.tick server) e = in_trans words c l c.trans asked P e (λ t x own. no_call x P own)
line_holds words c l asked P h (form.force server) e = in_trans words c l c.trans asked P e (λ t x own. no_call x P own)
line_holds words c l asked P h (form.stop server calls few) e = in_trans words c l c.trans asked P e (λ t x own. no_call x P own)
line_holds words c l asked P h (form.restart server pick few) e = in_trans words c l c.trans asked P e (λ t x own. no_call x P own)
line_holds words c l asked P h form.settle e = in_trans words c l c.trans asked P e (λ t x own. no_call x P own)
line_holds words c l asked P h (form.carry from to) e = in_trans words c l c.trans asked P e (λ t x own. no_call x P own)
line_holds words c l asked P h (form.lose from to) e = in_trans words c l c.trans asked P e (λ t x own. no_call x P own)
line_holds words c l asked P h (form.again from to) e = in_trans words c l c.trans asked P e (λ t x own. no_call x P own)
line_holds words c l asked P h (form.collect k) e = collect_call (first_of c.waiting) asked P e h.collect
line_holds words c l asked P h (form.begin k server) e = is_asked (call.Begin c.told) asked P e h.begin
line_holds words c l asked P h (form.commit k) e = in_trans words c l c.trans asked P e (λ t x own. is_asked _ x P own (h.other _ tt))
line_holds words c l asked P h (form.abort k) e = in_trans words c l c.trans asked P e (λ t x own. is_asked _ x P own (h.other _ tt))
line_holds words c l asked P h (form.outcome k) e = outcome_call c.begun asked P e h.outcome
line_holds words c l asked P h (form.repeat k) e = in_trans words c l c.trans asked P e (λ t x own. no_call x P own)
line_holds words c l asked P h (form.old k) e = in_trans words c l c.trans asked P e (λ t x own. no_call x P own)
line_holds words c l asked P h (form.raw k server bytes some) e = in_trans words c l c.trans asked P e (λ t x own. no_call x P own)
line_holds words c l asked P h (form.owner k server name quota list wish few) e = in_trans words c l c.trans asked P e (λ t x own. is_asked _ x P own (h.other _ tt))
line_holds words c l asked P h (form.read_owner k server name wish) e = in_trans words c l c.trans asked P e (λ t x own. is_asked _ x P own (h.other _ tt))
line_holds words c l asked P h (form.quota k server name quota wish) e = in_trans words c l c.trans asked P e (λ t x own. is_asked _ x P own (h.other _ tt))
line_holds words c l asked P h (form.create k server word name size read modify wish small few many) e = in_trans words c l c.trans asked P e (λ t x own. is_asked _ x P own (h.other _ tt))
line_holds words c l asked P h (form.open_file k file purpose lock wish) e = in_trans words c l c.trans asked P e (λ t x own. is_asked _ x P own (h.other _ tt))
line_holds words c l asked P h (form.close k file) e = in_trans words c l c.trans asked P e (λ t x own. is_asked _ x P own (h.other _ tt))
line_holds words c l asked P h (form.delete k file wish) e = in_trans words c l c.trans asked P e (λ t x own. is_asked _ x P own (h.other _ tt))
line_holds words c l asked P h (form.write k file run text wish some short) e = in_trans words c l c.trans asked P e (λ t x own. is_asked _ x P own (h.other _ tt))
line_holds words c l asked P h (form.read k file run lock wish some fit) e = in_trans words c l c.trans asked P e (λ t x own. is_asked _ x P own (h.other _ tt))
line_holds words c l asked P h (form.lock k file run lock wish some fit) e = in_trans words c l c.trans asked P e (λ t x own. is_asked _ x P own (h.other _ tt))
line_holds words c l asked P h (form.size k file size wish small) e = in_trans words c l c.trans asked P e (λ t x own. is_asked _ x P own (h.other _ tt))
line_holds words c l asked P h (form.props k file) e = in_trans words c l c.trans asked P e (λ t x own. is_asked _ x P own (h.other _ tt))
line_holds words c l asked P h (form.change k file change wish right) e = in_trans words c l c.trans asked P e (λ t x own. is_asked _ x P own (h.other _ tt))

-- what is asked is that, or to join
pub asked_in : (a : Asking) (asked : Call) (P : Call → Type 0) → ((t : TransId) → P (call.Join t)) → P asked → P (call_asked a asked)
asked_in (asking.Join t) asked P join own = join t
asked_in asking.Call asked P join own = own
asked_in asking.Collect asked P join own = own

-- ---- what is so of them

-- none is a greeting
pub line_no_greeting : (words : WordMap) (c : Client) (l : Line) (asked : Call) → IsForm l → call_by words c l ≡ Some asked → is_greeting asked ≡ false
line_no_greeting words c l asked form e = line_holds words c l asked (λ x. is_greeting x ≡ false) (record { begin = refl; outcome = λ t is. refl; collect = λ n. refl; other = other }) form e
  where
    other : (x : Call) → IsOther x → is_greeting x ≡ false
    other (call.Hello name) h = absurd h
    other x h = refl

-- a begin has seen all that its client was told
pub line_has_seen : (words : WordMap) (c : Client) (l : Line) (asked : Call) (before : List Stamp) → IsForm l → call_by words c l ≡ Some asked → AllByRecursion (λ (s : Stamp). s.ts ≤ c.told.ts) before → HasSeenBy before asked
line_has_seen words c l asked before form e low = line_holds words c l asked (λ x. HasSeenBy before x) (record { begin = low; outcome = λ t is. tt; collect = λ n. tt; other = other }) form e
  where
    other : (x : Call) → IsOther x → HasSeenBy before x
    other (call.Begin seen) h = absurd h
    other x h = tt

-- the question for an outcome is of a transaction that the client was told began
pub line_asks_of : (words : WordMap) (c : Client) (l : Line) (asked : Call) (xs : List Item) → IsForm l → call_by words c l ≡ Some asked → IfSome c.begun (λ t. IsToldOf t xs) → AsksOfTold xs asked
line_asks_of words c l asked xs form e told = line_holds words c l asked (λ x. AsksOfTold xs x) (record { begin = tt; outcome = outcome; collect = λ n. tt; other = other }) form e
  where
    outcome : (t : TransId) → c.begun ≡ Some t → IsToldOf t xs
    outcome t is = subst (λ (o : Option TransId). IfSome o (λ t. IsToldOf t xs)) is told

    other : (x : Call) → IsOther x → AsksOfTold xs x
    other (call.Outcome t) h = absurd h
    other x h = tt
