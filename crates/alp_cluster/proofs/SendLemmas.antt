-- What a client still sends for its line, behind messages that are carried before.
use Rattle.std.specs.Prelude.{◌≢◌, Option, None, Some}
use Rattle.std.proofs.Common.{inl, inr, ◌≡◌, ℕ, ◌+◌, ◌<◌, ◌≤◌, List, [], ◌∷◌, ◌++◌, length, append-nil, sym, ◌∙◌, subst, arith}
use Rattle.alp_base.specs.declared.ids.TransId.{TransId}
use Rattle.alp_journal.specs.declared.log.Item.{Item}
use Rattle.alp_script.specs.declared.numbered.NumberedLine.{NumberedLine}
use Rattle.alp_session.specs.Ahead.{ahead, IsOnItsWay}
use Rattle.alp_session.specs.Frames.{IsReady}
use Rattle.alp_session.specs.Crowd.{Crowd}
use Rattle.alp_session.specs.Crowds.{client_at, asks, times_out}
use Rattle.alp_session.specs.declared.frames.Addressed.{Addressed}
use Rattle.alp_session.specs.declared.waiting.Next.{Next}
use Rattle.alp_vault.specs.declared.vault.Vault.{Ghosts}
use Rattle.alp_course.specs.Courses.{Occurrence}
use Rattle.alp_course.specs.Languages.{Just}
use Rattle.alp_course.specs.Plays.{Due, IsCut, CarriesAt, timeouts_due}
use Rattle.alp_cluster.specs.Clients.{InStep}
use Rattle.alp_cluster.specs.Stations.{Did, DidSome}
use Rattle.alp_cluster.specs.Steps.{IsOwnNext, Exchanged, ExchangesNone, SendsNot, DidLine, DidOfLine}
use Rattle.alp_cluster.specs.declared.fault.RunFault.{RunFault}
use Rattle.alp_cluster.specs.declared.fault.RunFault.TheVariants as fault
use Rattle.alp_cluster.specs.declared.stations.Stations.{Stations}
use Rattle.alp_cluster.proofs.CarryLemmas.{count_later}
use Rattle.alp_cluster.proofs.ExchangeLemmas.{in_step_later}
use Rattle.alp_cluster.proofs.LineLemmas.{fewer_behind, own_behind, more_line, more_some, asks_wanting, next_wanting, ended_line, send_some, timed_some}

-- nothing is no cut
no_cut : (hs : List Occurrence) (due : Due) → IsCut (Just []) hs due → ⊥
no_cut [] due cut = (let wrong : cut.coming ∷ cut.rest ≡ [] = cut.all in cc)
no_cut (x ∷ hs) due cut = (let wrong : x ∷ (hs ++ cut.coming ∷ cut.rest) ≡ [] = cut.all in cc)

module _ {V : Type 0} (G : Ghosts V) (c e : Crowd) (same : e ≡ c) (a b : Stations V) (k : ℕ) (l : NumberedLine) (now : Next) (step : InStep G c a) (carried : Did G (CarriesAt (length a.all.items) c now) a b) where
  -- what the clients know was not touched
  pub step_here : InStep G e b
  step_here = subst (λ (x : Crowd). InStep G x b) (sym same) (in_step_later G c a b step carried.goes.later)

  pub ready_here : 1 ≤ k → k ≤ 16 → IsReady k (client_at e k)
  ready_here some few = record { from_one = some; to_last = few; told = (step_here.each k).told }

  carried_here : Did G (CarriesAt (length a.all.items) e now) a b
  carried_here = subst (λ (x : Crowd). Did G (CarriesAt (length a.all.items) x now) a b) (sym same) carried

  -- ---- its last frame was sent

  pub line_over : (z : Stations V) (o : Option (ℕ × TransId)) → asks e k l.line now ≡ None → o ≡ times_out e k now → Did G (Just (timeouts_due o)) b z → DidLine G (length a.all.items) c c a z k l now [] (times_out e k now)
  line_over z o none is timed =
      subst (λ (x : Crowd). DidLine G (length a.all.items) x x a z k l now [] (times_out e k now)) same
      (ended_line G (length a.all.items) e a b k l now carried_here z step_here none (subst (λ (q : Option (ℕ × TransId)). Did G (Just (timeouts_due q)) b z) is timed))

  due_some : (f : RunFault) (z : Stations V) (o : Option (ℕ × TransId)) → times_out e k now ≡ o → DidSome G (Just (timeouts_due o)) f b z → DidOfLine G f (length a.all.items) e e a z k l now []
  due_some f z None is h = absurd (no_cut h.hs h.due h.cut)
  due_some f z (Some t) is h = timed_some G (length a.all.items) e a b k l now carried_here f z t is h

  pub line_timed : (f : RunFault) (z : Stations V) (o : Option (ℕ × TransId)) → o ≡ times_out e k now → DidSome G (Just (timeouts_due o)) f b z → DidOfLine G f (length a.all.items) c c a z k l now []
  line_timed f z o is h = subst (λ (x : Crowd). DidOfLine G f (length a.all.items) x x a z k l now []) same (due_some f z o (sym is) h)

  -- ---- a frame was to go out

  pub line_sends : (f : RunFault) (z : Stations V) (frame : Addressed) → asks e k l.line now ≡ Some frame → ExchangesNone G f k frame b z → DidOfLine G f (length a.all.items) c c a z k l now []
  line_sends f z frame asked h = subst (λ (x : Crowd). DidOfLine G f (length a.all.items) x x a z k l now []) same (send_some G (length a.all.items) e a b k l now carried_here f z frame asked step_here h)

  -- ---- there was no memory for it

  pub line_asks : DidOfLine G fault.OutOfMemory (length a.all.items) c c a b k l now []
  line_asks = asks_wanting G (length a.all.items) c a b k l now carried carried.goes.later.on

  -- ---- it went out, and there is more to come

  module _ (d : Crowd) (m : Stations V) (frame : Addressed) (behind : Next) (x : Item) (small : k ≤ 16) (way : IsOnItsWay c.words (client_at c k) l.line now) (asked : asks e k l.line now ≡ Some frame) (h : Exchanged G e d b m k l now frame behind x) where
    asked_then : asks c k l.line now ≡ Some frame
    asked_then = subst (λ (y : Crowd). asks y k l.line now ≡ Some frame) same asked

    then_h : Exchanged G c d b m k l now frame behind x
    then_h = subst (λ (y : Crowd). Exchanged G y d b m k l now frame behind x) same h

    pub less_behind : IsOnItsWay d.words (client_at d k) l.line behind × (ahead d.words (client_at d k) l.line behind < ahead c.words (client_at c k) l.line now)
    less_behind = fewer_behind c d k l.line now frame x.reply behind then_h.heard step.places small way asked_then

    pub own_then : IsOwnNext l.line behind
    own_then = own_behind c d k l.line now frame x.reply behind then_h.heard

    many_then : length m.all.items ≡ length a.all.items
    many_then = count_later G b m h.goes.later ∙ count_later G a b carried.goes.later

    longer : (xs : List Item) → length xs ≤ ahead d.words (client_at d k) l.line behind → length (x ∷ xs) ≤ ahead c.words (client_at c k) l.line now
    longer xs few = (let less : ahead d.words (client_at d k) l.line behind < ahead c.words (client_at c k) l.line now = less_behind.1 in omega (arith, few, less))

    pub line_more : (f : Crowd) (z : Stations V) (xs : List Item) (t : Option (ℕ × TransId)) → length xs ≤ ahead d.words (client_at d k) l.line behind → DidLine G (length m.all.items) d f m z k l behind xs t
        → (length (x ∷ xs) ≤ ahead c.words (client_at c k) l.line now) × DidLine G (length a.all.items) c f a z k l now (x ∷ xs) t
    line_more f z xs t few rest = (
      longer xs few,
      more_line G (length a.all.items) c a b k l now carried d f m z frame behind x xs asked_then then_h t (subst (λ (n : ℕ). DidLine G n d f m z k l behind xs t) many_then rest),
    )

    pub line_some : (g : RunFault) (f : Crowd) (z : Stations V) (xs : List Item) → length xs ≤ ahead d.words (client_at d k) l.line behind → DidOfLine G g (length m.all.items) d f m z k l behind xs
        → (length (x ∷ xs) ≤ ahead c.words (client_at c k) l.line now) × DidOfLine G g (length a.all.items) c f a z k l now (x ∷ xs)
    line_some g f z xs few rest = (
      longer xs few,
      more_some G (length a.all.items) c a b k l now carried d f m z frame behind x xs asked_then then_h g (subst (λ (n : ℕ). DidOfLine G g n d f m z k l behind xs) many_then rest),
    )

  -- ---- it did not go out, or went out and memory was wanting

  -- what of the line is told then
  pub record NotSent (f : RunFault) (z : Stations V) (before after : List Item) : Type 0 where
    pub xs : List Item
    pub known : Crowd
    pub few : length xs ≤ ahead c.words (client_at c k) l.line now
    pub items : after ≡ before ++ xs
    pub did : DidOfLine G f (length a.all.items) c known a z k l now xs

  pub line_not : (f : RunFault) (z : Stations V) (frame : Addressed) (before after : List Item) → k ≤ 16 → IsOnItsWay c.words (client_at c k) l.line now → asks e k l.line now ≡ Some frame → SendsNot G f e b z k l now frame before after → NotSent f z before after
  line_not f z frame before after small way asked (inl (same, none)) = record { xs = []; known = c; few = omega arith; items = same ∙ sym (append-nil before); did = line_sends f z frame asked none }
  line_not f z frame before after small way asked (inr (is, d, behind, x, items, h)) =
      let (few, did) = line_some d z frame behind x small way asked h fault.OutOfMemory d z [] (omega arith) (next_wanting G (length z.all.items) d z k l behind h.goes.later.on) in
      record { xs = x ∷ []; known = d; few = few; items = items; did = subst (λ (g : RunFault). DidOfLine G g (length a.all.items) c d a z k l now (x ∷ [])) (sym is) did }
