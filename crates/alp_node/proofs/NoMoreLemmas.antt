-- states with no more to restart from than another one: less is ready, or stands
use Rattle.std.specs.Prelude.{cond, Bool, true, false, None, Some}
use Rattle.std.proofs.Common.{◌≡◌, ℕ, [], ◌∷◌, refl, sym, ◌∙◌, ap}
use Rattle.alp_base.specs.declared.ids.JoinNo.{JoinNo}
use Rattle.alp_base.specs.declared.ids.TransId.{TransId}
use Rattle.alp_fields.specs.declared.decision_note.Decision.{Decision}
use Rattle.alp_files.specs.declared.refusal.Cause.{Cause}
use Rattle.alp_journal.specs.Account.{Account, state_of, IsQuiet}
use Rattle.alp_journal.specs.Coordinator.{Fate, Undrawn, Running, Finishing, Committed, Forgotten, Ended, acknowledged, forgotten, has_all}
use Rattle.alp_journal.specs.Deeds.{Acknowledges, Forgets, Aborts}
use Rattle.alp_journal.specs.Ids.{same_join, same_trans}
use Rattle.alp_journal.specs.Participant.{Ready, is_ready}
use Rattle.alp_journal.specs.State.{State, state_deed}
use Rattle.alp_journal.proofs.IdLemmas.{same_join-true}
use Rattle.alp_node.specs.Noted.{decision_kept}
use Rattle.alp_node.proofs.NoteLaw.{stands_voted}
use Rattle.alp_node.proofs.NoteWrites.{IsOneOn, aborted_one, aborted_over}

-- the same files of the same server; each part that is ready is so in the other one, as it is there; and each decision stands there
pub record IsNoMore (s m : State) : Type 0 where
  pub server : m.holder.server ≡ s.holder.server
  pub among : m.servers ≡ s.servers
  pub cells : m.holder.cells ≡ s.holder.cells
  pub ready : (j : JoinNo) (t : TransId) (client ts : ℕ) → m.phases j ≡ Ready t client ts → (s.phases j ≡ Ready t client ts) × (m.holder.lives t ≡ s.holder.lives t)
  pub decided : (t : TransId) (d : Decision) → decision_kept (m.fates t) ≡ Some d → decision_kept (s.fates t) ≡ Some d

pub no_more_itself : (s : State) → IsNoMore s s
no_more_itself s = record { server = refl; among = refl; cells = refl; ready = λ j t client ts is. (is, refl); decided = λ t d is. is }

-- one part that is over
over_less : (s m : State) (j : JoinNo) (t : TransId) → IsOneOn s m j t → is_ready (m.phases j) ≡ false → m.servers ≡ s.servers → m.holder.cells ≡ s.holder.cells → ((u : TransId) → m.fates u ≡ s.fates u) → IsNoMore s m
over_less s m j t one over servers cells fates = record {
  server = one.server;
  among = servers;
  cells = cells;
  ready = λ i u client ts is. go i u client ts (same_join j i) refl is;
  decided = λ u d is. ap decision_kept (sym (fates u)) ∙ is;
}
  where
    go : (i : JoinNo) (u : TransId) (client ts : ℕ) (b : Bool) → same_join j i ≡ b → m.phases i ≡ Ready u client ts → (s.phases i ≡ Ready u client ts) × (m.holder.lives u ≡ s.holder.lives u)
    go i u client ts true e is = let wrong : false ≡ true = sym over ∙ ap (λ (x : JoinNo). is_ready (m.phases x)) (same_join-true j i e) ∙ ap is_ready is in cc
    go i u client ts false e is = (let was : s.phases i ≡ Ready u client ts = sym (one.phases i e) ∙ is in (was, one.lives u (one.apart i u client ts e was)))

-- a decision that goes
acknowledged_kept : (j : JoinNo) (b : Bool) (f : Fate) → decision_kept (cond {A = Fate} b (acknowledged j f) f) ≡ decision_kept f
acknowledged_kept j false f = refl
acknowledged_kept j true Undrawn = refl
acknowledged_kept j true (Running c js) = refl
acknowledged_kept j true (Finishing c js vs) = refl
acknowledged_kept j true (Committed s [] ds) = refl
acknowledged_kept j true (Committed s (k ∷ js) ds) = refl
acknowledged_kept j true (Forgotten s js) = refl
acknowledged_kept j true (Ended c) = refl

forgotten_kept : (b : Bool) (f : Fate) (d : Decision) → decision_kept (cond {A = Fate} b (forgotten f) f) ≡ Some d → decision_kept f ≡ Some d
forgotten_kept false f d is = is
forgotten_kept true Undrawn d is = is
forgotten_kept true (Running c js) d is = is
forgotten_kept true (Finishing c js vs) d is = is
forgotten_kept true (Committed s js ds) d is = go (has_all ds js) is
  where
    go : (b : Bool) → decision_kept (cond {A = Fate} b (Forgotten s js) (Committed s js ds)) ≡ Some d → decision_kept (Committed s js ds) ≡ Some d
    go true e = let wrong : None ≡ Some d = e in cc
    go false e = e
forgotten_kept true (Forgotten s js) d is = is
forgotten_kept true (Ended c) d is = is

pub end_less : (s : State) (t : TransId) (j : JoinNo) → IsNoMore s (state_deed (state_deed s (Acknowledges t j)) (Forgets t))
end_less s t j = record {
  server = refl;
  among = refl;
  cells = refl;
  ready = λ i u client ts is. (is, refl);
  decided = λ u d is. sym (acknowledged_kept j (same_trans t u) (s.fates u)) ∙ forgotten_kept (same_trans t u) (cond {A = Fate} (same_trans t u) (acknowledged j (s.fates u)) (s.fates u)) d is;
}

pub abort_less : (a : Account) → IsQuiet a → (j : JoinNo) (t : TransId) (client ts n : ℕ) (c : Cause) → a.phases j ≡ Ready t client ts → IsNoMore (state_of a) (state_deed (state_of a) (Aborts j t n c))
abort_less a q j t client ts n c ready =
    over_less (state_of a) (state_deed (state_of a) (Aborts j t n c)) j t (aborted_one (state_of a) j t client ts n c (stands_voted a q) ready) (aborted_over (state_of a) j t client ts n c (stands_voted a q) ready) refl refl (λ u. refl)
