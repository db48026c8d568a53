-- a quiet state stays quiet: as a session goes on, as a part changes or ends, and as a call goes
use Rattle.std.specs.Prelude.{cond, Bool, true, false, not, ◌&&◌, ◌==◌, find, Option, None, Some, IsSome, if◌then◌else◌, map as list_map}
use Rattle.std.specs.List.{AllByRecursion}
use Rattle.std.proofs.lemmas.Bool.{eqb-true, not-true, and_parts}
use Rattle.std.proofs.Common.{◌≡◌, ℕ, ◌≤◌, List, [], ◌∷◌, ◌++◌, refl, sym, ◌∙◌, ap, subst, eq-eqb, arith}
use Rattle.alp_base.specs.declared.ids.JoinNo.{JoinNo}
use Rattle.alp_base.specs.declared.ids.TransId.{TransId}
use Rattle.alp_files.specs.Holdings.{DoAgree}
use Rattle.alp_files.proofs.HoldingLemmas.{agree-turned}
use Rattle.alp_files.proofs.FilesLemmas.{same-some}
use Rattle.alp_files.specs.declared.call.Call.{Call}
use Rattle.alp_files.specs.declared.call.Call.TheVariants as call
use Rattle.alp_files.specs.declared.refusal.Cause.{Cause}
use Rattle.alp_journal.specs.Ids.{same_trans}
use Rattle.alp_journal.specs.Deeds.{Deed}
use Rattle.alp_journal.specs.Coordinator.{Fate, Vote, Undrawn, Running, Finishing, Committed, Forgotten, Ended, is_running}
use Rattle.alp_journal.specs.Participant.{Phase, Unseen, Joining, Active, Ready, Applied, Over, live_in}
use Rattle.alp_journal.specs.Holder.{Life}
use Rattle.alp_journal.specs.Desk.{Session, Waiting, file_trans, part_trans, is_of, is_of_part, without, grant_in}
use Rattle.alp_journal.specs.State.{State, is_whose}
use Rattle.alp_journal.specs.Laws.{DoLivesAgree, HasEnded, IsHolding, IsBlocked, WaitsInTurn}
use Rattle.alp_journal.specs.Account.{Account, state_of, Stands, Tells, IsSettled, IsQuiet, HasTried, IsPartOf, IsOfPart, IsJoinOf, IsFinishOf, IsOther, HasCome, HasWaits, HasNoCall, HasNoJoin, is_on_trans}
use Rattle.alp_journal.proofs.IdLemmas.{same_trans-true, same_trans-itself, all-append, all-filter}
use Rattle.alp_journal.proofs.MadeIds.{all-map}
use Rattle.alp_journal.proofs.WaitLemmas.{passing, none-found, find-kept, all-of, found-more, all-both, on-is, on_own, of_part_on, of_own_part, apart-filter, granted_as, all-granted}
use Rattle.alp_journal.proofs.TurnLemmas.{blocked-as}

-- ---- lives where one is another now

pub agree_set : (lives : TransId → Option Life) (t : TransId) (life : Option Life) → DoLivesAgree lives
    → ((l : Life) → life ≡ Some l → (u : TransId) (k : Life) → same_trans u t ≡ false → lives u ≡ Some k → DoAgree l.held k.held)
    → DoLivesAgree (λ u. cond {A = Option Life} (same_trans u t) life (lives u))
agree_set lives t life agree own a b k l = go (same_trans a t) (same_trans b t) refl refl
  where
    go : (x y : Bool) → same_trans a t ≡ x → same_trans b t ≡ y → cond {A = Option Life} x life (lives a) ≡ Some k → cond {A = Option Life} y life (lives b) ≡ Some l → same_trans a b ≡ false
        → DoAgree k.held l.held
    go true true e f p q away =
        let one : a ≡ b = same_trans-true a t e ∙ sym (same_trans-true b t f) in
        let itself : same_trans a b ≡ true = ap (same_trans a) (sym one) ∙ same_trans-itself a in
        let wrong : true ≡ false = sym itself ∙ away in
        cc
    go true false e f p q away = own k p b l f q
    go false true e f p q away = λ r. agree-turned (k.held r) (l.held r) ∙ own l q a k e p r
    go false false e f p q away = agree a b k l p q away

pub agree_without : (lives : TransId → Option Life) (t : TransId) → DoLivesAgree lives → DoLivesAgree (λ u. cond {A = Option Life} (same_trans u t) None (lives u))
agree_without lives t agree = agree_set lives t None agree (λ l is u k away there. let wrong : None ≡ Some l = is in cc)

-- no part of a transaction lives on whose fate is over, and of which no join holds one
pub has_ended : (t : TransId) (m : State) (f : Fate) → m.fates t ≡ f → is_running f ≡ false → ((j : JoinNo) → IsHolding t (m.phases j) → ⊥) → HasEnded m t
has_ended t m f is over unheld = (ap is_running is ∙ over, unheld)

-- ---- fates, and who is to be told

abbrev pub AreEnded : ℕ → (ℕ → TransId → Option Cause) → (TransId → Fate) → (JoinNo → Phase) → Type 0
AreEnded here dead fates phases = (client : ℕ) (t : TransId) (c : Cause) → dead client t ≡ Some c → (t.server ≡ here → fates t ≡ Ended c) × HasNoJoin phases client t

-- a fate moves of which nobody is to be told
pub ended_moved : (here : ℕ) (dead : ℕ → TransId → Option Cause) (fates : TransId → Fate) (phases : JoinNo → Phase) (t : TransId) (move : Fate → Fate) → AreEnded here dead fates phases
    → ((c : Cause) → move (Ended c) ≡ Ended c) → AreEnded here dead (λ u. cond {A = Fate} (same_trans t u) (move (fates u)) (fates u)) phases
ended_moved here dead fates phases t move all keeps client u c is = (λ own. go own (same_trans t u), (all client u c is).1)
  where
    go : u.server ≡ here → (b : Bool) → cond {A = Fate} b (move (fates u)) (fates u) ≡ Ended c
    go own true = ap move ((all client u c is).0 own) ∙ keeps c
    go own false = (all client u c is).0 own

-- one more is to be told
pub ended_told : (here : ℕ) (dead : ℕ → TransId → Option Cause) (fates : TransId → Fate) (phases : JoinNo → Phase) (owner : ℕ) (t : TransId) (why : Cause) → AreEnded here dead fates phases
    → (t.server ≡ here → fates t ≡ Ended why) → HasNoJoin phases owner t → AreEnded here (λ d u. cond {A = Option Cause} (d == owner && same_trans u t) (Some why) (dead d u)) fates phases
ended_told here dead fates phases owner t why all is none client u c at = go (client == owner) (same_trans u t) refl refl at
  where
    go : (b d : Bool) → (client == owner) ≡ b → same_trans u t ≡ d → cond {A = Option Cause} (b && d) (Some why) (dead client u) ≡ Some c → (u.server ≡ here → fates u ≡ Ended c) × HasNoJoin phases client u
    go true true o e f = (
      λ own. ap fates (same_trans-true u t e) ∙ is (ap (λ (v : TransId). v.server) (sym (same_trans-true u t e)) ∙ own) ∙ ap Ended (same-some why c f),
      subst (λ (n : ℕ). HasNoJoin phases n u) (sym (eqb-true client owner o)) (subst (HasNoJoin phases owner) (sym (same_trans-true u t e)) none),
    )
    go true false o e f = all client u c f
    go false d o e f = all client u c f

-- and some are told
pub ended_fewer : (here : ℕ) (dead now : ℕ → TransId → Option Cause) (fates : TransId → Fate) (phases : JoinNo → Phase) → ((client : ℕ) (t : TransId) (c : Cause) → now client t ≡ Some c → dead client t ≡ Some c)
    → AreEnded here dead fates phases → AreEnded here now fates phases
ended_fewer here dead now fates phases fewer all client t c is = all client t c (fewer client t c is)

-- fewer joins are live, or as many
pub ended_joins : (here : ℕ) (dead : ℕ → TransId → Option Cause) (fates : TransId → Fate) (phases now : JoinNo → Phase)
    → ((j : JoinNo) (client : ℕ) (t : TransId) → is_whose client t (live_in (phases j)) ≡ false → is_whose client t (live_in (now j)) ≡ false) → AreEnded here dead fates phases → AreEnded here dead fates now
ended_joins here dead fates phases now fewer all client t c is = ((all client t c is).0, λ j. fewer j client t ((all client t c is).1 j))

pub fewer-where : (b : Bool) (x : Option Cause) (c : Cause) → cond {A = Option Cause} b None x ≡ Some c → x ≡ Some c
fewer-where true x c is = let wrong : None ≡ Some c = is in cc
fewer-where false x c is = is

-- ---- whose the waiting calls are

abbrev pub AreOfParts : (TransId → Option Life) → (ℕ → TransId → Option Cause) → List Waiting → Type 0
AreOfParts lives dead ws = AllByRecursion (λ (w : Waiting). IsOfPart lives dead w (file_trans w.call)) ws

part-kept : (lives : TransId → Option Life) (dead : ℕ → TransId → Option Cause) (t : TransId) (l k : Life) → lives t ≡ Some l → k.client ≡ l.client
    → (w : Waiting) (x : Option TransId) → IsOfPart lives dead w x → IsOfPart (λ u. cond {A = Option Life} (same_trans u t) (Some k) (lives u)) dead w x
part-kept lives dead t l k live same w None h = h
part-kept lives dead t l k live same w (Some u) h = go (same_trans u t) refl
  where
    go : (b : Bool) → same_trans u t ≡ b → IsPartOf w.client (cond {A = Option Life} b (Some k) (lives u)) (dead w.client u)
    go true e = subst (λ (x : Option Life). IsPartOf w.client x (dead w.client u)) (ap lives (same_trans-true u t e) ∙ live) h ∙ sym same
    go false e = h

-- a part goes on as its client's
pub parts-kept : (lives : TransId → Option Life) (dead : ℕ → TransId → Option Cause) (t : TransId) (l k : Life) → lives t ≡ Some l → k.client ≡ l.client
    → (ws : List Waiting) → AreOfParts lives dead ws → AreOfParts (λ u. cond {A = Option Life} (same_trans u t) (Some k) (lives u)) dead ws
parts-kept lives dead t l k live same ws h =
    all-map (λ (w : Waiting). IsOfPart lives dead w (file_trans w.call)) (λ (w : Waiting). IsOfPart (λ u. cond {A = Option Life} (same_trans u t) (Some k) (lives u)) dead w (file_trans w.call))
    (λ w p. part-kept lives dead t l k live same w (file_trans w.call) p) ws h

part-told : (lives : TransId → Option Life) (dead : ℕ → TransId → Option Cause) (t : TransId) (l : Life) (c : Cause) → lives t ≡ Some l → (w : Waiting) (x : Option TransId) → IsOfPart lives dead w x
    → IsOfPart (λ u. cond {A = Option Life} (same_trans u t) None (lives u)) (λ d u. cond {A = Option Cause} (d == l.client && same_trans u t) (Some c) (dead d u)) w x
part-told lives dead t l c live w None h = h
part-told lives dead t l c live w (Some u) h = go (same_trans u t) refl
  where
    away : (b : Bool) (y : Option Life) → IsPartOf w.client y (dead w.client u) → IsPartOf w.client y (cond {A = Option Cause} (b && false) (Some c) (dead w.client u))
    away true y p = p
    away false y p = p

    go : (b : Bool) → same_trans u t ≡ b → IsPartOf w.client (cond {A = Option Life} b None (lives u)) (cond {A = Option Cause} (w.client == l.client && b) (Some c) (dead w.client u))
    go true e =
        let own : w.client ≡ l.client = subst (λ (x : Option Life). IsPartOf w.client x (dead w.client u)) (ap lives (same_trans-true u t e) ∙ live) h in
        subst (λ (b : Bool). IsSome (cond {A = Option Cause} (b && true) (Some c) (dead w.client u))) (sym (eq-eqb w.client l.client own)) refl
    go false e = away (w.client == l.client) (lives u) h

-- a part ends of which its client is to be told
pub parts-told : (lives : TransId → Option Life) (dead : ℕ → TransId → Option Cause) (t : TransId) (l : Life) (c : Cause) → lives t ≡ Some l → (ws : List Waiting) → AreOfParts lives dead ws
    → AreOfParts (λ u. cond {A = Option Life} (same_trans u t) None (lives u)) (λ d u. cond {A = Option Cause} (d == l.client && same_trans u t) (Some c) (dead d u)) ws
parts-told lives dead t l c live ws h =
    all-map (λ (w : Waiting). IsOfPart lives dead w (file_trans w.call))
    (λ (w : Waiting). IsOfPart (λ u. cond {A = Option Life} (same_trans u t) None (lives u)) (λ d u. cond {A = Option Cause} (d == l.client && same_trans u t) (Some c) (dead d u)) w (file_trans w.call))
    (λ w p. part-told lives dead t l c live w (file_trans w.call) p) ws h

part-gone : (lives : TransId → Option Life) (dead : ℕ → TransId → Option Cause) (t : TransId) (life : Option Life) (w : Waiting) → is_on_trans t w ≡ false → (x : Option TransId) → file_trans w.call ≡ x → IsOfPart lives dead w x
    → IsOfPart (λ u. cond {A = Option Life} (same_trans u t) life (lives u)) dead w x
part-gone lives dead t life w off None e h = h
part-gone lives dead t life w off (Some u) e h = go (same_trans u t) refl
  where
    go : (b : Bool) → same_trans u t ≡ b → IsPartOf w.client (cond {A = Option Life} b life (lives u)) (dead w.client u)
    go true f = let wrong : false ≡ true = sym off ∙ ap (λ (v : TransId). is_on_trans v w) (sym (same_trans-true u t f)) ∙ on_own u w e in cc
    go false f = h

-- a part begins or ends that no waiting call is of
pub parts-gone : (lives : TransId → Option Life) (dead : ℕ → TransId → Option Cause) (t : TransId) (life : Option Life) (ws : List Waiting) → AllByRecursion (λ w. is_on_trans t w ≡ false) ws → AreOfParts lives dead ws
    → AreOfParts (λ u. cond {A = Option Life} (same_trans u t) life (lives u)) dead ws
parts-gone lives dead t life ws off h =
    all-both (λ w. is_on_trans t w ≡ false) (λ (w : Waiting). IsOfPart lives dead w (file_trans w.call)) (λ (w : Waiting). IsOfPart (λ u. cond {A = Option Life} (same_trans u t) life (lives u)) dead w (file_trans w.call))
    (λ w o p. part-gone lives dead t life w o (file_trans w.call) refl p) ws off h

part-forgotten : (lives : TransId → Option Life) (dead : ℕ → TransId → Option Cause) (client : ℕ) (t : TransId) (w : Waiting) → is_of_part client t w ≡ false → (x : Option TransId) → file_trans w.call ≡ x → IsOfPart lives dead w x
    → IsOfPart lives (λ d u. cond {A = Option Cause} (d == client && same_trans u t) None (dead d u)) w x
part-forgotten lives dead client t w off None e h = h
part-forgotten lives dead client t w off (Some u) e h =
    subst (λ (b : Bool). IsPartOf w.client (lives u) (cond {A = Option Cause} b None (dead w.client u))) (sym (sym (of_part_on client t u w e) ∙ off)) h

-- a client's part that ended is not known any more, and its call goes
pub parts-forgotten : (lives : TransId → Option Life) (dead : ℕ → TransId → Option Cause) (client : ℕ) (t : TransId) (ws : List Waiting) → AreOfParts lives dead ws
    → AreOfParts lives (λ d u. cond {A = Option Cause} (d == client && same_trans u t) None (dead d u)) (without (is_of_part client t) ws)
parts-forgotten lives dead client t ws h =
    all-both (λ w. not (is_of_part client t w) ≡ true) (λ (w : Waiting). IsOfPart lives dead w (file_trans w.call))
    (λ (w : Waiting). IsOfPart lives (λ d u. cond {A = Option Cause} (d == client && same_trans u t) None (dead d u)) w (file_trans w.call))
    (λ w o p. part-forgotten lives dead client t w (not-true (is_of_part client t w) o) (file_trans w.call) refl p) (without (is_of_part client t) ws)
    (passing (λ w. not (is_of_part client t w)) ws) (all-filter (λ (w : Waiting). IsOfPart lives dead w (file_trans w.call)) (λ w. not (is_of_part client t w)) ws h)

-- ---- the other calls that wait

abbrev pub AreOthers : (TransId → Fate) → (JoinNo → Phase) → (ℕ → TransId → Option Cause) → List Waiting → Type 0
AreOthers fates phases dead ws = AllByRecursion (λ (w : Waiting). IsOther fates phases dead w.client w.call) ws

-- the call is still of a join, or a transaction, or an end that is to be told
pub other-on : (fates now : TransId → Fate) (phases then_ : JoinNo → Phase) (dead told : ℕ → TransId → Option Cause) (client : ℕ) (c : Call)
    → ((t : TransId) → part_trans c ≡ Some t → IsJoinOf phases client t (dead client t) → IsJoinOf then_ client t (told client t))
    → ((t : TransId) → part_trans c ≡ Some t → IsFinishOf client (fates t) (dead client t) → IsFinishOf client (now t) (told client t)) → IsOther fates phases dead client c → IsOther now then_ told client c
other-on fates now phases then_ dead told client (call.Join t) joins ends h = joins t refl h
other-on fates now phases then_ dead told client (call.Finish t commit) joins ends h = ends t refl h
other-on fates now phases then_ dead told client c joins ends h = h

pub others-on : (fates now : TransId → Fate) (phases then_ : JoinNo → Phase) (dead told : ℕ → TransId → Option Cause)
    → ((client : ℕ) (t : TransId) → IsJoinOf phases client t (dead client t) → IsJoinOf then_ client t (told client t))
    → ((client : ℕ) (t : TransId) → IsFinishOf client (fates t) (dead client t) → IsFinishOf client (now t) (told client t)) → (ws : List Waiting) → AreOthers fates phases dead ws → AreOthers now then_ told ws
others-on fates now phases then_ dead told joins ends ws h =
    all-map (λ (w : Waiting). IsOther fates phases dead w.client w.call) (λ (w : Waiting). IsOther now then_ told w.client w.call)
    (λ w o. other-on fates now phases then_ dead told w.client w.call (λ t of. joins w.client t) (λ t of. ends w.client t) o) ws h

-- a finish goes on where a fate moves so
pub finish-moved : (dead : ℕ → TransId → Option Cause) (fates : TransId → Fate) (t : TransId) (move : Fate → Fate) → ((client : ℕ) → IsFinishOf client (fates t) (dead client t) → IsFinishOf client (move (fates t)) (dead client t))
    → (client : ℕ) (u : TransId) → IsFinishOf client (fates u) (dead client u) → IsFinishOf client (cond {A = Fate} (same_trans t u) (move (fates u)) (fates u)) (dead client u)
finish-moved dead fates t move keeps client u h = go (same_trans t u) refl
  where
    go : (b : Bool) → same_trans t u ≡ b → IsFinishOf client (cond {A = Fate} b (move (fates u)) (fates u)) (dead client u)
    go true e = subst (λ (v : TransId). IsFinishOf client (move (fates v)) (dead client v)) (same_trans-true t u e) (keeps client (subst (λ (v : TransId). IsFinishOf client (fates v) (dead client v)) (sym (same_trans-true t u e)) h))
    go false e = h

-- whoever is to be told has its calls answered
pub finish-told : (client : ℕ) (f : Fate) (c : Cause) → IsFinishOf client (Ended c) (Some c)
finish-told client f c = refl

-- a client's part that ended is not known any more, and its call goes
pub others-forgotten : (fates : TransId → Fate) (phases : JoinNo → Phase) (dead : ℕ → TransId → Option Cause) (client : ℕ) (t : TransId) (ws : List Waiting) → AreOthers fates phases dead ws
    → AreOthers fates phases (λ d u. cond {A = Option Cause} (d == client && same_trans u t) None (dead d u)) (without (is_of_part client t) ws)
others-forgotten fates phases dead client t ws h =
    all-both (λ w. not (is_of_part client t w) ≡ true) (λ (w : Waiting). IsOther fates phases dead w.client w.call)
    (λ (w : Waiting). IsOther fates phases (λ d u. cond {A = Option Cause} (d == client && same_trans u t) None (dead d u)) w.client w.call)
    (λ w o p. other-on fates fates phases phases dead (λ d u. cond {A = Option Cause} (d == client && same_trans u t) None (dead d u)) w.client w.call
    (λ u of. subst (IsJoinOf phases w.client u) (sym (as_was w u of (not-true (is_of_part client t w) o)))) (λ u of. subst (IsFinishOf w.client (fates u)) (sym (as_was w u of (not-true (is_of_part client t w) o)))) p) (without (is_of_part client t) ws)
    (passing (λ w. not (is_of_part client t w)) ws) (all-filter (λ (w : Waiting). IsOther fates phases dead w.client w.call) (λ w. not (is_of_part client t w)) ws h)
  where
    as_was : (w : Waiting) (u : TransId) → part_trans w.call ≡ Some u → is_of_part client t w ≡ false → cond {A = Option Cause} (w.client == client && same_trans u t) None (dead w.client u) ≡ dead w.client u
    as_was w u of off = ap (λ (b : Bool). cond {A = Option Cause} b None (dead w.client u)) (ap (λ (x : Option TransId). w.client == client && is_of t x) (sym of) ∙ off)

-- ---- who asks to be let in, and what is finishing

-- no call that is waited for by a join goes
abbrev pub KeepsJoins : (JoinNo → Phase) → (Waiting → Bool) → List Waiting → Type 0
KeepsJoins phases p ws = (j : JoinNo) (t : TransId) (client : ℕ) (who : List ℕ) → phases j ≡ Joining t client who → AllByRecursion (λ w. is_of_part client t w ≡ true → p w ≡ false) ws

pub waits-without : (p : Waiting → Bool) (ws : List Waiting) (x : Phase) → ((t : TransId) (client : ℕ) (who : List ℕ) → x ≡ Joining t client who → AllByRecursion (λ w. is_of_part client t w ≡ true → p w ≡ false) ws)
    → HasWaits ws x → HasWaits (without p ws) x
waits-without p ws Unseen keeps h = tt
waits-without p ws (Joining t client who) keeps h = subst (λ (x : Option Waiting). IsSome x) (sym (find-kept (is_of_part client t) (λ w. not (p w)) ws
    (all-map (λ w. is_of_part client t w ≡ true → p w ≡ false) (λ w. is_of_part client t w ≡ true → not (p w) ≡ true) (λ w f of. ap not (f of)) ws (keeps t client who refl)))) h
waits-without p ws (Active t client who) keeps h = tt
waits-without p ws (Ready t client ts) keeps h = all-filter (λ w. is_of_part client t w ≡ false) (λ w. not (p w)) ws h
waits-without p ws (Applied t stamp) keeps h = tt
waits-without p ws Over keeps h = tt

pub calls-without : (p : Waiting → Bool) (ws : List Waiting) (t : TransId) (f : Fate) → HasNoCall ws t f → HasNoCall (without p ws) t f
calls-without p ws t (Finishing c js vs) h = all-filter (λ w. is_on_trans t w ≡ false) (λ w. not (p w)) ws h
calls-without p ws t Undrawn h = tt
calls-without p ws t (Running c js) h = tt
calls-without p ws t (Committed stamp js ds) h = tt
calls-without p ws t (Forgotten stamp js) h = tt
calls-without p ws t (Ended c) h = tt

-- one more waits behind all others
pub waits-last : (ws : List Waiting) (w : Waiting) (x : Phase) → ((t : TransId) (client ts : ℕ) → x ≡ Ready t client ts → is_of_part client t w ≡ false) → HasWaits ws x → HasWaits (ws ++ w ∷ []) x
waits-last ws w Unseen off h = tt
waits-last ws w (Joining t client who) off h = found-more (is_of_part client t) ws (w ∷ []) h
waits-last ws w (Active t client who) off h = tt
waits-last ws w (Ready t client ts) off h = all-append (λ v. is_of_part client t v ≡ false) ws (w ∷ []) h (off t client ts refl, tt)
waits-last ws w (Applied t stamp) off h = tt
waits-last ws w Over off h = tt

pub calls-last : (ws : List Waiting) (w : Waiting) (t : TransId) (f : Fate) → ((c : ℕ) (js : List JoinNo) (vs : List Vote) → f ≡ Finishing c js vs → is_on_trans t w ≡ false) → HasNoCall ws t f → HasNoCall (ws ++ w ∷ []) t f
calls-last ws w t (Finishing c js vs) off h = all-append (λ v. is_on_trans t v ≡ false) ws (w ∷ []) h (off c js vs refl, tt)
calls-last ws w t Undrawn off h = tt
calls-last ws w t (Running c js) off h = tt
calls-last ws w t (Committed stamp js ds) off h = tt
calls-last ws w t (Forgotten stamp js) off h = tt
calls-last ws w t (Ended c) off h = tt

-- whether a call is granted does not count
found-granted : (p : Waiting → Bool) → ((w : Waiting) (b : Bool) → p (record w { is_granted = b }) ≡ p w) → (u : TransId) (ws : List Waiting) → IsSome (find p ws) → IsSome (find p (list_map (grant_in u) ws))
found-granted p keeps u [] h = h
found-granted p keeps u (w ∷ ws) h = go (p w) (p (grant_in u w)) refl (let like = granted_as u w in ap p (sym like.1) ∙ keeps w like.0) h (found-granted p keeps u ws)
  where
    go : (b d : Bool) → p w ≡ b → d ≡ p w → IsSome (cond b (Some w) (find p ws)) → (IsSome (find p ws) → IsSome (find p (list_map (grant_in u) ws))) → IsSome (cond d (Some (grant_in u w)) (find p (list_map (grant_in u) ws)))
    go b true e f h rest = refl
    go false false e f h rest = rest h
    go true false e f h rest = let wrong : false ≡ true = f ∙ e in cc

pub waits-granted : (u : TransId) (ws : List Waiting) (x : Phase) → HasWaits ws x → HasWaits (list_map (grant_in u) ws) x
waits-granted u ws Unseen h = tt
waits-granted u ws (Joining t client who) h = found-granted (is_of_part client t) (λ w b. refl) u ws h
waits-granted u ws (Active t client who) h = tt
waits-granted u ws (Ready t client ts) h = all-granted (λ w. is_of_part client t w ≡ false) (λ w b off. off) u ws h
waits-granted u ws (Applied t stamp) h = tt
waits-granted u ws Over h = tt

pub still-none : (u : TransId) (ws : List Waiting) (t : TransId) (f : Fate) → HasNoCall ws t f → HasNoCall (list_map (grant_in u) ws) t f
still-none u ws t (Finishing c js vs) h = all-granted (λ w. is_on_trans t w ≡ false) (λ w b off. off) u ws h
still-none u ws t Undrawn h = tt
still-none u ws t (Running c js) h = tt
still-none u ws t (Committed stamp js ds) h = tt
still-none u ws t (Forgotten stamp js) h = tt
still-none u ws t (Ended c) h = tt

-- ---- whose calls they are

-- where no call of a live part waits, none of its transaction does
pub none-on : (lives : TransId → Option Life) (dead : ℕ → TransId → Option Cause) (client : ℕ) (t : TransId) (l : Life) → lives t ≡ Some l → l.client ≡ client → (ws : List Waiting) → AreOfParts lives dead ws
    → find (is_of_part client t) ws ≡ None → AllByRecursion (λ w. is_on_trans t w ≡ false) ws
none-on lives dead client t l live own ws parts none =
    all-both (λ w. is_of_part client t w ≡ false) (λ (w : Waiting). IsOfPart lives dead w (file_trans w.call)) (λ w. is_on_trans t w ≡ false) (λ w o p. go w o p (is_on_trans t w) refl) ws (none-found (is_of_part client t) ws none) parts
  where
    go : (w : Waiting) → is_of_part client t w ≡ false → IsOfPart lives dead w (file_trans w.call) → (b : Bool) → is_on_trans t w ≡ b → is_on_trans t w ≡ false
    go w o p false e = e
    go w o p true e =
        let of : file_trans w.call ≡ Some t = on-is t w e in
        let its : w.client ≡ l.client = subst (λ (x : Option Life). IsPartOf w.client x (dead w.client t)) live (subst (IsOfPart lives dead w) of p) in
        let wrong : true ≡ false = sym (ap (λ (n : ℕ). is_of_part n t w) (sym (its ∙ own)) ∙ of_own_part t w of) ∙ o in
        cc

-- ---- whose turn it is

pub turns-as : (s m : State) → m.holder ≡ s.holder → m.desk.waits ≡ s.desk.waits → WaitsInTurn s → WaitsInTurn m
turns-as s m same list h =
    subst (λ (ws : List Waiting). AllByRecursion (λ (w : Waiting). IsBlocked m w (file_trans w.call)) ws) (sym list)
    (all-map (λ (w : Waiting). IsBlocked s w (file_trans w.call)) (λ (w : Waiting). IsBlocked m w (file_trans w.call)) (λ w b. blocked-as s m w (file_trans w.call) same b) s.desk.waits h)

-- ---- the whole

-- nothing that stands hangs on the desk
pub stands_as : (a : Account) (sessions : ℕ → Option Session) (waits : List Waiting) (dead : ℕ → TransId → Option Cause) (b : Bool) (ds : List Deed) → Stands a
    → Stands (record a { sessions = sessions; waits = waits; dead = dead; is_down = b; pending = ds })
stands_as a sessions waits dead b ds q = record {
  agree = q.agree;
  paired = q.paired;
  held = q.held;
  votes = q.votes;
  forgets = q.forgets;
  fates = q.fates;
  begun = q.begun;
  known = q.known;
  phases = q.phases;
  joined = q.joined;
  single = q.single;
  order = q.order;
}

settled_as : (a : Account) (b : Bool) (ds : List Deed) → IsSettled a → IsSettled (record a { is_down = b; pending = ds })
settled_as a b ds q = record {
  stands = stands_as a a.sessions a.waits a.dead b ds q.stands;
  tells = record { ended = q.tells.ended; parts = q.tells.parts; others = q.tells.others; came = q.tells.came; apart = q.tells.apart; joining = q.tells.joining; finishing = q.tells.finishing };
}

-- it is up, or down with what it tried
pub quiet_down : (a : Account) (b : Bool) (ds : List Deed) → IsQuiet a → HasTried (record a { is_down = b; pending = ds }) → IsQuiet (record a { is_down = b; pending = ds })
quiet_down a b ds q tried = record {
  settled = settled_as a b ds q.settled;
  turns = turns-as (state_of a) (state_of (record a { is_down = b; pending = ds })) refl refl q.turns;
  tried = tried;
}

pub quiet_up : (a : Account) → IsQuiet a → IsQuiet (record a { is_down = false; pending = [] })
quiet_up a q = quiet_down a false [] q (HasTried.nothing refl)

-- nothing is to be seen at a restart of a server that is up
pub none_tried : (a : Account) → IsQuiet a → a.is_down ≡ false → a.pending ≡ []
none_tried a q up = go q.tried
  where
    wrong : a.is_down ≡ true → a.pending ≡ []
    wrong down = absurd (let both : false ≡ true = sym up ∙ down in cc)

    go : HasTried a → a.pending ≡ []
    go (HasTried.nothing none) = none
    go (HasTried.commit c) = wrong c.down
    go (HasTried.decision c) = wrong c.down
    go (HasTried.vote c) = wrong c.down
    go (HasTried.application c) = wrong c.down
    go (HasTried.end c) = wrong c.down
    go (HasTried.abort c) = wrong c.down

abbrev pub with_session_of : Account → ℕ → Session → Account
with_session_of a client v = record a { sessions = λ c. if c == client then Some v else a.sessions c; is_down = false; pending = [] }

-- all that came before came before the session's last call now
pub came_on : (sessions : ℕ → Option Session) (client : ℕ) (v : Session) → ((n : ℕ) → HasCome n (sessions client) → n ≤ v.last) → (ws : List Waiting)
    → AllByRecursion (λ (w : Waiting). HasCome w.number (sessions w.client)) ws → AllByRecursion (λ (w : Waiting). HasCome w.number (cond {A = Option Session} (w.client == client) (Some v) (sessions w.client))) ws
came_on sessions client v keeps ws h = all-map (λ (w : Waiting). HasCome w.number (sessions w.client)) (λ (w : Waiting). HasCome w.number (cond {A = Option Session} (w.client == client) (Some v) (sessions w.client))) (λ w p. one w p) ws h
  where
    one : (w : Waiting) → HasCome w.number (sessions w.client) → HasCome w.number (cond {A = Option Session} (w.client == client) (Some v) (sessions w.client))
    one w p = go (w.client == client) refl
      where
        go : (b : Bool) → (w.client == client) ≡ b → HasCome w.number (cond {A = Option Session} b (Some v) (sessions w.client))
        go true e = keeps w.number (subst (λ (c : ℕ). HasCome w.number (sessions c)) (eqb-true w.client client e) p)
        go false e = p

settled_session : (a : Account) (client : ℕ) (v : Session) → ((n : ℕ) → HasCome n (a.sessions client) → n ≤ v.last) → IsSettled a → IsSettled (with_session_of a client v)
settled_session a client v keeps q = record {
  stands = stands_as a (with_session_of a client v).sessions a.waits a.dead false [] q.stands;
  tells = record {
    ended = q.tells.ended;
    parts = q.tells.parts;
    others = q.tells.others;
    came = came_on a.sessions client v keeps a.waits q.tells.came;
    apart = q.tells.apart;
    joining = q.tells.joining;
    finishing = q.tells.finishing;
  };
}

pub quiet_session : (a : Account) (client : ℕ) (v : Session) → ((n : ℕ) → HasCome n (a.sessions client) → n ≤ v.last) → IsQuiet a → IsQuiet (with_session_of a client v)
quiet_session a client v keeps q = record { settled = settled_session a client v keeps q.settled; turns = turns-as (state_of a) (state_of (with_session_of a client v)) refl refl q.turns; tried = HasTried.nothing refl }

-- the session goes on to a later call
pub later-come : (sessions : ℕ → Option Session) (client : ℕ) (w v : Session) → sessions client ≡ Some w → w.last ≤ v.last → (n : ℕ) → HasCome n (sessions client) → n ≤ v.last
later-come sessions client w v there on n h = let before : n ≤ w.last = subst (HasCome n) there h in omega (arith, before, on)

pub quiet_told : (a : Account) (client : ℕ) (w v : Session) → a.sessions client ≡ Some w → w.last ≤ v.last → IsQuiet a → IsQuiet (with_session_of a client v)
quiet_told a client w v there on q = quiet_session a client v (later-come a.sessions client w v there on) q

-- calls go that are waited for no more
pub tells_without : (p : Waiting → Bool) (a : Account) → KeepsJoins a.phases p a.waits → Tells a → Tells (record a { waits = without p a.waits })
tells_without p a keeps q = record {
  ended = q.ended;
  parts = all-filter (λ (w : Waiting). IsOfPart a.holder.lives a.dead w (file_trans w.call)) (λ w. not (p w)) a.waits q.parts;
  others = all-filter (λ (w : Waiting). IsOther a.fates a.phases a.dead w.client w.call) (λ w. not (p w)) a.waits q.others;
  came = all-filter (λ (w : Waiting). HasCome w.number (a.sessions w.client)) (λ w. not (p w)) a.waits q.came;
  apart = apart-filter (λ w. not (p w)) a.waits q.apart;
  joining = λ j. waits-without p a.waits (a.phases j) (λ t client who is. keeps j t client who is) (q.joining j);
  finishing = λ t. calls-without p a.waits t (a.fates t) (q.finishing t);
}

settled_without : (p : Waiting → Bool) (a : Account) → KeepsJoins a.phases p a.waits → IsSettled a → IsSettled (record a { waits = without p a.waits })
settled_without p a keeps q = record { stands = stands_as a a.sessions (without p a.waits) a.dead a.is_down a.pending q.stands; tells = tells_without p a keeps q.tells }

pub turns-without : (p : Waiting → Bool) (s m : State) → m.holder ≡ s.holder → m.desk.waits ≡ without p s.desk.waits → WaitsInTurn s → WaitsInTurn m
turns-without p s m same list h = turns-as (record s { desk = record s.desk { waits = without p s.desk.waits } }) m same list
    (all-map (λ (w : Waiting). IsBlocked s w (file_trans w.call)) (λ (w : Waiting). IsBlocked (record s { desk = record s.desk { waits = without p s.desk.waits } }) w (file_trans w.call))
    (λ w b. blocked-as s (record s { desk = record s.desk { waits = without p s.desk.waits } }) w (file_trans w.call) refl b) (without p s.desk.waits)
    (all-filter (λ (w : Waiting). IsBlocked s w (file_trans w.call)) (λ w. not (p w)) s.desk.waits h))

-- what was tried hangs on no call, where nothing was
pub quiet_without : (p : Waiting → Bool) (a : Account) → KeepsJoins a.phases p a.waits → a.pending ≡ [] → IsQuiet a → IsQuiet (record a { waits = without p a.waits })
quiet_without p a keeps none q = record { settled = settled_without p a keeps q.settled; turns = turns-without p (state_of a) (state_of (record a { waits = without p a.waits })) refl refl q.turns; tried = HasTried.nothing none }

-- a client's part that ended is not known any more
abbrev pub forgotten_part : ℕ → TransId → Account → Account
forgotten_part client t a = record a { dead = λ d u. if d == client && same_trans u t then None else a.dead d u; waits = without (is_of_part client t) a.waits }

-- a call of a part of which no join is live keeps none
pub keeps_part : (phases : JoinNo → Phase) (client : ℕ) (t : TransId) (ws : List Waiting) → HasNoJoin phases client t → KeepsJoins phases (is_of_part client t) ws
keeps_part phases client t ws none j u owner who is = all-of (λ w. is_of_part owner u w ≡ true → is_of_part client t w ≡ false) (λ w of. go w of (is_of_part client t w) refl) ws
  where
    go : (w : Waiting) → is_of_part owner u w ≡ true → (b : Bool) → is_of_part client t w ≡ b → b ≡ false
    go w of false e = refl
    go w of true e =
        let mine = and_parts (w.client == client) (is_of t (part_trans w.call)) e in
        let its = and_parts (w.client == owner) (is_of u (part_trans w.call)) of in
        let same : owner ≡ client = sym (eqb-true w.client owner its.0) ∙ eqb-true w.client client mine.0 in
        let wrong : false ≡ true = sym (none j) ∙ ap (λ (p : Phase). is_whose client t (live_in p)) is ∙ both (part_trans w.call) mine.1 its.1 same in
        cc
      where
        both : (x : Option TransId) → is_of t x ≡ true → is_of u x ≡ true → owner ≡ client → (same_trans u t && owner == client) ≡ true
        both None m i same = let wrong : false ≡ true = m in cc
        both (Some v) m i same =
            let one : u ≡ t = sym (same_trans-true v u i) ∙ same_trans-true v t m in
            ap (λ (b : Bool). b && owner == client) (ap (λ (x : TransId). same_trans x t) one ∙ same_trans-itself t) ∙ eq-eqb owner client same

pub quiet_forgotten : (client : ℕ) (t : TransId) (a : Account) → HasNoJoin a.phases client t → a.pending ≡ [] → IsQuiet a → IsQuiet (forgotten_part client t a)
quiet_forgotten client t a unjoined none q =
    let fewer : Tells (record a { waits = without (is_of_part client t) a.waits }) = tells_without (is_of_part client t) a (keeps_part a.phases client t a.waits unjoined) q.settled.tells in
    record {
      settled = record {
        stands = stands_as a a.sessions (without (is_of_part client t) a.waits) (forgotten_part client t a).dead a.is_down a.pending q.settled.stands;
        tells = record {
          ended = ended_fewer a.holder.server a.dead (λ d u. cond {A = Option Cause} (d == client && same_trans u t) None (a.dead d u)) a.fates a.phases (λ d u c is. fewer-where (d == client && same_trans u t) (a.dead d u) c is) q.settled.tells.ended;
          parts = parts-forgotten a.holder.lives a.dead client t a.waits q.settled.tells.parts;
          others = others-forgotten a.fates a.phases a.dead client t a.waits q.settled.tells.others;
          came = fewer.came;
          apart = fewer.apart;
          joining = fewer.joining;
          finishing = fewer.finishing;
        };
      };
      turns = turns-without (is_of_part client t) (state_of a) (state_of (forgotten_part client t a)) refl refl q.turns;
      tried = HasTried.nothing none;
    }
