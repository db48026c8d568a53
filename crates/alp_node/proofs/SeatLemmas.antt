-- what stays of a server in a step
use Rattle.std.proofs.Common.{◌≡◌, ℕ, ◌+◌, refl, sym, ◌∙◌, ap, subst, le_refl, inl, inr, ⊎_elim}
use Rattle.std.specs.Prelude.{IsTrue, false, Option, Some, Ok}
use Rattle.alp_base.specs.Allowances.{Spends}
use Rattle.alp_base.specs.declared.allowance.Allowance.{Allowance}
use Rattle.alp_base.specs.declared.allowance.Allowance.TheVariants.{Free, Left, Spent}
use Rattle.alp_base.specs.Notes.{Notes}
use Rattle.alp_vault.specs.Contents.{Contents}
use Rattle.alp_vault.specs.declared.vault.Vault.{Ghosts}
use Rattle.alp_calls.specs.Looks.{IsLeft}
use Rattle.alp_calls.proofs.LookLemmas.{left_same}
use Rattle.alp_journal.specs.declared.event.Event.{Event}
use Rattle.alp_journal.specs.Account.{Account}
use Rattle.alp_node.specs.Durable.{Leaves, Besides}
use Rattle.alp_node.specs.Noted.{AreNotesFor}
use Rattle.alp_node.specs.ServerState.{IsAs, IsReady}
use Rattle.alp_node.specs.Steps.{Stepped, IsGiven, IsSeated, IsNoted, IsStepAs, IsStep}
use Rattle.alp_node.specs.Turns.{HasTurned}
use Rattle.alp_node.specs.declared.answer.Answer.{Answer}
use Rattle.alp_node.specs.declared.server_state.ServerState.{ServerState}
use Rattle.alp_node.specs.declared.sessions.CallOrder.{CallOrder}
use Rattle.alp_node.specs.declared.sessions.CallOrder.TheVariants as order

-- notes that are those of what a server keeps are those of what it keeps then
abbrev pub KeepsNotes : {V : Type 0} → ServerState V → ServerState V → Type 0
KeepsNotes old new = (notes : Notes) → AreNotesFor old notes → AreNotesFor new notes

pub spends_nothing : (a : Allowance) → Spends a a
spends_nothing Free = refl
spends_nothing (Left n) = le_refl n
spends_nothing Spent = refl

-- nothing is spent where the allowance is as it was
pub spends_same : (a b : Allowance) → b ≡ a → Spends a b
spends_same a b is = subst (Spends a) (sym is) (spends_nothing a)

module _ {V : Type 0} (G : Ghosts V) where
  -- a vault that nobody asked
  pub left_alone : (old new : V) → new ≡ old → IsLeft G old new
  left_alone old new is = subst (IsLeft G old) (sym is) (left_same G old)

  -- after a look a crash leaves what it might have left before
  pub left_leaves : (old new : V) (P : Contents → Type 0) → IsLeft G old new → Leaves G old new (Besides G old P)
  left_leaves old new P left = record {
    crash = λ c here. inl (left.crash c here);
    time = record { each = λ start c was. ⊎_elim (λ before. inl before) (λ now. inr (inl now)) (left.time.each start c was) };
  }

  pub leaves_as : (old new : V) (P Q : Contents → Type 0) → ((c : Contents) → P c → Q c) → Leaves G old new (Besides G old P) → Leaves G old new (Besides G old Q)
  leaves_as old new P Q more h = record {
    crash = λ c here. seen c (h.crash c here);
    time = record { each = λ start c was. ⊎_elim (λ before. inl before) (λ now. inr (seen c now)) (h.time.each start c was) };
  }
    where
      seen : (c : Contents) → Besides G old P c → Besides G old Q c
      seen c (inl before) = inl before
      seen c (inr (inl is)) = inr (inl is)
      seen c (inr (inr has)) = inr (inr (more c has))

  module _ (old new : ServerState V) (server : new.server ≡ old.server) (servers : new.servers ≡ old.servers) (sizes : new.sizes ≡ old.sizes) (epoch : new.epoch ≡ old.epoch) (left : IsLeft G old.vault new.vault) where
    pub left_seated : IsSeated G old new
    left_seated = record { server = server; servers = servers; sizes = sizes; epoch = epoch; same = left.same; spends = spends_same (G.allowance old.vault) (G.allowance new.vault) left.allowed }

    pub left_noted : old.is_down ≡ false → KeepsNotes old new → IsNoted G old → IsNoted G new
    left_noted up keeps h = λ now. subst (λ (c : Contents). AreNotesFor new c.notes) (sym left.contents) (keeps (G.held old.vault).notes (h up))

    -- a step that only looks into the vault, by what the event is among the calls of its client
    pub left_step_as : (o : Option CallOrder) (e : Event) (x : Answer) → old.is_down ≡ false → KeepsNotes old new
        → (IsTrue (G.tells old.vault) → (a : Account) → IsAs a (G.held old.vault) old → Stepped a (G.faults old.vault) (G.faults new.vault) (G.held new.vault) new e x)
        → IsGiven o (G.faults old.vault) (G.faults new.vault) (G.allowance new.vault) new.is_down x
        → ((n : ℕ) → IsReady n (G.serves old.vault) old → IsReady (n + 1) (G.serves new.vault) new)
        → (new.is_down ≡ false → HasTurned o old new e x.kept)
        → IsStepAs G o old new e (Ok x)
    left_step_as o e x up keeps stepped given ready turned = record {
      stepped = stepped;
      given = given;
      ready = ready;
      noted = left_noted up keeps;
      still = tt;
      seat = left_seated;
      turned = turned;
      leaves = λ told a h. left_leaves old.vault new.vault _ left;
    }

    -- that of a session's next call
    pub left_step : (e : Event) (x : Answer) → old.is_down ≡ false → KeepsNotes old new
        → (IsTrue (G.tells old.vault) → (a : Account) → IsAs a (G.held old.vault) old → Stepped a (G.faults old.vault) (G.faults new.vault) (G.held new.vault) new e x)
        → IsGiven (Some order.Next) (G.faults old.vault) (G.faults new.vault) (G.allowance new.vault) new.is_down x
        → ((n : ℕ) → IsReady n (G.serves old.vault) old → IsReady (n + 1) (G.serves new.vault) new)
        → (new.is_down ≡ false → HasTurned (Some order.Next) old new e x.kept)
        → IsStep G old new e (Ok x)
    left_step e x up keeps stepped given ready turned = left_step_as (Some order.Next) e x up keeps stepped given ready turned
