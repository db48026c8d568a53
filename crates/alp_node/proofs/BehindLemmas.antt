-- a step behind a look into the vault is a step
use Rattle.std.specs.Prelude.{false, IsTrue, Option, Some, Result, Ok, Err}
use Rattle.std.proofs.Common.{◌≡◌, ℕ, refl, sym, ◌∙◌, ap, subst, inl, inr, ⊎_elim}
use Rattle.alp_base.specs.Allowances.{Spends}
use Rattle.alp_base.specs.declared.allowance.Allowance.{Allowance}
use Rattle.alp_base.specs.declared.memory.OutOfMemory.{OutOfMemory}
use Rattle.alp_vault.specs.Contents.{Contents}
use Rattle.alp_vault.specs.declared.vault.Vault.{Ghosts}
use Rattle.alp_calls.specs.Looks.{IsLeft}
use Rattle.alp_files.specs.declared.reply.Reply.{Reply}
use Rattle.alp_journal.specs.declared.event.Event.{Event}
use Rattle.alp_journal.specs.declared.event.Event.TheVariants as event
use Rattle.alp_journal.specs.Account.{Account, state_of}
use Rattle.alp_node.specs.Draws.{IsBackAgain}
use Rattle.alp_node.specs.Durable.{IsSaidBy, Leaves, Besides, NoOther}
use Rattle.alp_node.specs.ServerState.{IsAs, IsReady}
use Rattle.alp_node.specs.Steps.{Stepped, IsGiven, IsSeated, IsStill, IsStep, entry_of}
use Rattle.alp_node.specs.Turns.{AreTurned, HasTurned}
use Rattle.alp_node.specs.declared.answer.Answer.{Answer}
use Rattle.alp_node.specs.declared.server_state.ServerState.{ServerState}
use Rattle.alp_node.specs.declared.sessions.CallOrder.TheVariants as order
use Rattle.alp_node.proofs.KeptLemmas.{as_with, as_back}
use Rattle.alp_node.proofs.ReadyLemmas.{ready_with, back_ready}
use Rattle.alp_node.proofs.GivenLemmas.{wanting}
use Rattle.alp_node.specs.Noted.{decision_kept}
use Rattle.alp_node.proofs.NotedLemmas.{noted_decided}
use Rattle.alp_node.proofs.SeatLemmas.{left_noted, left_seated}
use Rattle.alp_calls.proofs.LookLemmas.{left_same}
use Rattle.std.specs.Result.{IsErr}

module _ {V : Type 0} (G : Ghosts V) (k new : ServerState V) (v : V) (left : IsLeft G k.vault v) (on : IsTrue (G.serves v)) (faults : G.faults v ≡ G.faults k.vault) (up : k.is_down ≡ false) where
  abbrev mid : ServerState V
  mid = record k { vault = v }

  -- where the vault tells, it tells as before
  told_then : IsTrue (G.tells k.vault) → IsTrue (G.tells v)
  told_then told = subst IsTrue (sym left.same.telling) told

  as_then : (a : Account) → IsAs a (G.held k.vault) k → IsAs a (G.held v) mid
  as_then a h = as_with a (G.held k.vault) (G.held v) k v left.contents h

  ready_then : (n : ℕ) → IsReady n (G.serves k.vault) k → IsReady n (G.serves v) mid
  ready_then n h = ready_with n (G.serves k.vault) (G.serves v) k v on up h

  still_behind : IsStill G mid new → IsStill G k new
  still_behind s = record {
    kept = λ a h. s.kept a (as_then a h);
    ready = λ n h. s.ready n (ready_then n h);
    up = s.up;
    sessions = s.sessions;
    clock = s.clock;
    vault = record { held = s.vault.held ∙ left.contents; faults = s.vault.faults ∙ faults; allowance = s.vault.allowance ∙ left.allowed };
  }

  seat_behind : IsSeated G mid new → IsSeated G k new
  seat_behind s = record {
    server = s.server;
    servers = s.servers;
    sizes = s.sizes;
    epoch = s.epoch;
    same = record { telling = s.same.telling ∙ left.same.telling; sizes = s.same.sizes ∙ left.same.sizes; number = s.same.number ∙ left.same.number; of_all = s.same.of_all ∙ left.same.of_all };
    spends = subst (λ (x : Allowance). Spends x (G.allowance new.vault)) left.allowed s.spends;
  }

  leaves_behind : (P : Contents → Type 0) → Leaves G v new.vault (Besides G v P) → Leaves G k.vault new.vault (Besides G k.vault P)
  leaves_behind P s = record {
    crash = λ c here. from c (s.crash c here);
    time = record { each = λ start c was. ⊎_elim (λ before. ⊎_elim (λ first. inl first) (λ here. inr (inl here)) (left.time.each start c before)) (λ now. inr (from c now)) (s.time.each start c was) };
  }
    where
      from : (c : Contents) → Besides G v P c → Besides G k.vault P c
      from c (inl here) = inl (left.crash c here)
      from c (inr (inl is)) = inr (inl (is ∙ left.contents))
      from c (inr (inr has)) = inr (inr has)

  turned_behind : (e : Event) (r : Option Reply) → AreTurned (Some order.Next) mid new e r → AreTurned (Some order.Next) k new e r
  turned_behind (event.Call client epoch number c) r h = h
  turned_behind e r h = absurd h

  pub step_behind : (e : Event) (r : Result Answer OutOfMemory) → IsStep G mid new e r → IsStep G k new e r
  step_behind e (Ok x) s = record {
    stepped = λ told a h. subst (λ (n : ℕ). Stepped a n (G.faults new.vault) (G.held new.vault) new e x) faults (s.stepped (told_then told) a (as_then a h));
    given = subst (λ (n : ℕ). IsGiven (Some order.Next) n (G.faults new.vault) (G.allowance new.vault) new.is_down x) faults s.given;
    ready = λ n h. s.ready n (ready_then n h);
    noted = λ h. s.noted (left_noted G k mid refl refl refl refl left up (λ ns x. x) h);
    still = tt;
    seat = seat_behind s.seat;
    turned = λ now. (let t : HasTurned (Some order.Next) mid new e x.kept = s.turned now in record { later = t.later; times = t.times; sessions = turned_behind e x.kept t.sessions; pages = t.pages });
    leaves = λ told a h. leaves_behind (IsSaidBy (state_of a) (entry_of e x)) (s.leaves (told_then told) a (as_then a h));
  }
  step_behind e (Err f) s = record {
    stepped = λ told a h. tt;
    given = tt;
    ready = λ n h. tt;
    noted = λ h. s.noted (left_noted G k mid refl refl refl refl left up (λ ns x. x) h);
    still = still_behind s.still;
    seat = seat_behind s.seat;
    turned = λ now. tt;
    leaves = λ told a h. leaves_behind NoOther (s.leaves (told_then told) a (as_then a h));
  }

-- without memory a server that is as before is a step of nothing
pub same_without : {V : Type 0} (G : Ghosts V) (k new : ServerState V) (e : Event) (r : Result Answer OutOfMemory) → new ≡ k → IsErr r → IsStep G k new e r
same_without G k new e r same err =
    subst (λ (y : ServerState _). IsStep G k y e r) (sym same)
    (wanting G k k e r err (record { kept = λ a h. h; ready = λ n h. h; up = refl; sessions = refl; clock = refl; vault = record { held = refl; faults = refl; allowance = refl } }) (λ h. h)
    (left_seated G k k refl refl refl refl (left_same G k.vault)) (left_same G k.vault))

pub same_err : {V : Type 0} (G : Ghosts V) (k new : ServerState V) (e : Event) (f : OutOfMemory) → new ≡ k → IsStep G k new e (Err f)
same_err G k new e f same = same_without G k new e (Err f) same refl

-- and so is one in which a begin was taken back
pub back_without : {V : Type 0} (G : Ghosts V) (k new : ServerState V) (e : Event) (r : Result Answer OutOfMemory) → IsBackAgain k new → IsErr r → IsStep G k new e r
back_without {V} G k new e r back err =
    let then : ServerState V = record k { coordinator = new.coordinator } in
    subst (λ (y : ServerState V). IsStep G k y e r) (sym back.kept)
    (wanting G k then e r err (record {
      kept = λ a h. as_back a (G.held k.vault) k new.coordinator back.along back.same h;
      ready = λ n h. back_ready n (G.serves k.vault) k new.coordinator back.along back.same h;
      up = refl;
      sessions = refl;
      clock = refl;
      vault = record { held = refl; faults = refl; allowance = refl };
    }) (λ h on. noted_decided k.server k.servers k.epoch k.lives k.joins k.coordinator new.coordinator (G.held k.vault).notes (λ u. ap decision_kept (back.same u)) (h on))
    (left_seated G k then refl refl refl refl (left_same G k.vault)) (left_same G k.vault))
