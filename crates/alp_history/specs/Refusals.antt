-- What a refusal leaves of what a server holds.
use Rattle.std.specs.Prelude.{◌≡◌, ◌⊎◌, List, [], ◌∷◌, ◌++◌, Option, None, Some}
use Rattle.alp_base.specs.declared.ids.TransId.{TransId}
use Rattle.alp_files.specs.declared.call.Call.{Call}
use Rattle.alp_files.specs.declared.refusal.Refusal.{Refusal}
use Rattle.alp_files.specs.declared.reply.Reply.TheVariants as reply
use Rattle.alp_files.specs.History.{PerformedCall}
use Rattle.alp_files.specs.Locks.{IsMore}
use Rattle.alp_journal.specs.Holder.{Holder, Life}

-- the calls of a part are the same, or there is one more, which got this refusal
abbrev pub AddsRefused : Refusal → List PerformedCall → List PerformedCall → Type 0
AddsRefused f before after = (after ≡ before) ⊎ ((c : Call) × (after ≡ before ++ (record { call = c; reply = reply.Refused f }) ∷ []))

-- A part has the same client, intents, opens and vote, and on each resource its lock covers the one that it held. Of its
-- calls the refused one may be new.
pub record IsStandingPart (f : Refusal) (l k : Life) : Type 0 where
  pub same : k ≡ record l { held = k.held; calls = k.calls }
  pub calls : AddsRefused f l.calls k.calls
  pub more : IsMore l.held k.held

-- a part lives on, and there is no new one
abbrev pub StandsOn : Refusal → Option Life → Option Life → Type 0
StandsOn f None k = k ≡ None
StandsOn f (Some l) None = ⊥
StandsOn f (Some l) (Some k) = IsStandingPart f l k

-- Files, intents and opens are as before, and so are the clock, the ids that files were given and what was applied. What
-- was granted stays: the part of the refused call may hold the locks of that call too, and waiting calls may have been
-- granted theirs.
pub record StandsAsBefore (f : Refusal) (h g : Holder) : Type 0 where
  pub holder : g ≡ record h { lives = g.lives }
  pub lives : (t : TransId) → StandsOn f (h.lives t) (g.lives t)
