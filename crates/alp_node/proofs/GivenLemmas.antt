-- what holds of an answer whatever the vault tells
use Rattle.std.specs.Prelude.{Bool, true, false, ◌||◌, Option, Some, is_some, Result, Ok, Err, MatchResult}
use Rattle.std.specs.Result.{IsErr}
use Rattle.std.specs.List.{list_any}
use Rattle.std.proofs.lemmas.Result.{IfOk-from_err}
use Rattle.std.proofs.Common.{◌≡◌, ℕ, ◌+◌, ◌≤◌, List, refl, sym, ◌∙◌, ap, subst, arith}
use Rattle.alp_base.specs.Causes.{Rose}
use Rattle.alp_base.specs.declared.allowance.Allowance.{Allowance}
use Rattle.alp_base.specs.declared.memory.OutOfMemory.{OutOfMemory}
use Rattle.alp_files.specs.Passing.{is_passing}
use Rattle.alp_files.specs.declared.reply.Reply.{Reply}
use Rattle.alp_files.specs.declared.reply.Reply.TheVariants as reply
use Rattle.alp_files.specs.declared.refusal.Refusal.TheVariants as refusal
use Rattle.alp_files.proofs.UndoLemmas.{on_err}
use Rattle.alp_journal.specs.declared.act.Act.{Act}
use Rattle.alp_journal.specs.declared.event.Event.{Event}
use Rattle.alp_journal.specs.Moves.{is_stop}
use Rattle.alp_journal.specs.Answered.{is_read_fault}
use Rattle.alp_vault.specs.declared.vault.Vault.{Ghosts}
use Rattle.alp_journal.specs.Account.{state_of}
use Rattle.alp_calls.specs.Looks.{IsLeft}
use Rattle.alp_calls.specs.Parts.{is_full}
use Rattle.alp_node.specs.Durable.{IsSaidBy, Leaves, Besides, NoOther}
use Rattle.alp_node.proofs.SeatLemmas.{left_leaves}
use Rattle.alp_node.specs.Halts.{HaveCauses, says_shut}
use Rattle.alp_node.specs.ServerState.{IsReady}
use Rattle.alp_node.specs.Orders.{is_answered, is_fault_now}
use Rattle.alp_node.specs.Steps.{Stepped, IsGiven, IsSeated, IsNoted, IsStill, IsStepAs, IsStep, told_answer, entry_of}
use Rattle.alp_node.specs.Turns.{HasTurned}
use Rattle.alp_node.specs.declared.answer.Answer.{Answer}
use Rattle.alp_node.specs.declared.server_state.ServerState.{ServerState}
use Rattle.alp_node.specs.declared.sessions.CallOrder.{CallOrder}
use Rattle.alp_node.specs.declared.sessions.CallOrder.TheVariants as order

-- what a reply shows of the count of faults
pub record IsCounted (before now : ℕ) (is_down : Bool) (r : Option Reply) : Type 0 where
  pub later : before ≤ now
  pub told : is_read_fault r ≡ true → Rose before now
  pub still : (is_read_fault r || is_down) ≡ false → now ≡ before
  pub said_down : says_shut r ≡ true → (is_down ≡ true) × (r ≡ Some (reply.Refused refusal.Down))
  pub halted : is_down ≡ true → r ≡ Some (reply.Refused refusal.Down)

-- it shows no fault, none came, and the server is up
pub counts_none : (before now : ℕ) (is_down : Bool) (r : Option Reply) → (is_read_fault r || says_shut r) ≡ false → now ≡ before → is_down ≡ false → IsCounted before now is_down r
counts_none before now is_down r quiet same up = record {
  later = omega (arith, same);
  told = λ e. (let wrong : true ≡ false = sym (ap (λ (b : Bool). b || says_shut r) e) ∙ quiet in cc);
  still = λ _. same;
  said_down = λ e. (let wrong : true ≡ false = sym (or_true (is_read_fault r)) ∙ ap (λ (b : Bool). is_read_fault r || b) (sym e) ∙ quiet in cc);
  halted = λ e. (let wrong : true ≡ false = sym e ∙ up in cc);
}
  where
    or_true : (b : Bool) → (b || true) ≡ true
    or_true true = refl
    or_true false = refl

-- a read failed, and the answer says so
pub counts_fault : (before now : ℕ) (r : Option Reply) → is_read_fault r ≡ true → says_shut r ≡ false → before ≤ now → Rose before now → IsCounted before now false r
counts_fault before now r shows quiet later rose = record {
  later = later;
  told = λ _. rose;
  still = λ e. (let wrong : true ≡ false = sym (ap (λ (b : Bool). b || false) shows) ∙ e in cc);
  said_down = λ e. (let wrong : true ≡ false = sym e ∙ quiet in cc);
  halted = λ e. cc;
}

-- it says that the server is down, and it is
pub counts_down : (before now : ℕ) → before ≤ now → IsCounted before now true (Some (reply.Refused refusal.Down))
counts_down before now later = record { later = later; told = λ e. cc; still = λ e. cc; said_down = λ _. (refl, refl); halted = λ _. refl }

-- what a part answers shows none
pub shows_none : (r : Reply) → is_passing r ≡ false → is_full r ≡ false → (is_read_fault (Some r) || says_shut (Some r)) ≡ false
shows_none (reply.Refused refusal.ReadFault) own not_full = cc
shows_none (reply.Refused refusal.Down) own not_full = cc
shows_none (reply.Refused refusal.JournalFull) own not_full = cc
shows_none (reply.Refused (refusal.Aborted c)) own not_full = cc
shows_none (reply.Refused f) own not_full = refl
shows_none r own not_full = refl

module _ (before now : ℕ) (allowance : Allowance) (is_down : Bool) where
  -- that of a session's next call
  pub reply_given : (r : Reply) (acts : List Act) (a : Answer) → a ≡ told_answer (Some r) acts → IsCounted before now is_down (Some r) → is_down ≡ list_any is_stop acts
      → HaveCauses before now allowance acts → IsGiven (Some order.Next) before now allowance is_down a
  reply_given r acts a is counted down causes =
      subst (IsGiven (Some order.Next) before now allowance is_down) (sym is)
      (record { handed = refl; replies = refl; later = counted.later; told = counted.told; still = counted.still; down = down; said_down = counted.said_down; halts = counted.halted; causes = causes })

  -- one that shows no fault, where none came: with a reply where the event is answered
  pub calm_given : (o : Option CallOrder) (r : Option Reply) (acts : List Act) (a : Answer) → a ≡ told_answer r acts → is_some r ≡ is_answered o → is_fault_now o r ≡ false → says_shut r ≡ false → now ≡ before → is_down ≡ false
      → is_down ≡ list_any is_stop acts → HaveCauses before now allowance acts → IsGiven o before now allowance is_down a
  calm_given o r acts a is replies calm quiet same up down causes =
      subst (IsGiven o before now allowance is_down) (sym is)
      (record {
        handed = refl;
        replies = replies ∙ sym (or_false (is_answered o)) ∙ ap (λ (b : Bool). is_answered o || b) (sym up);
        later = omega (arith, same);
        told = λ e. (let wrong : true ≡ false = sym e ∙ calm in cc);
        still = λ _. same;
        down = down;
        said_down = λ e. (let wrong : true ≡ false = sym e ∙ quiet in cc);
        halts = λ e. (let wrong : true ≡ false = sym e ∙ up in cc);
        causes = causes;
      })
    where
      or_false : (b : Bool) → (b || false) ≡ b
      or_false true = refl
      or_false false = refl

-- ---- steps without an answer

match_err : {T E : Type 0} (r : Result T E) (P : T → Type 0) (Q : E → Type 0) → IsErr r → ((e : E) → Q e) → MatchResult r P Q
match_err (Ok x) P Q err q = let wrong : false ≡ true = err in cc
match_err (Err e) P Q err q = q e

module _ {V : Type 0} (G : Ghosts V) (old new : ServerState V) where
  pub wanting_as : (o : Option CallOrder) (e : Event) (r : Result Answer OutOfMemory) → IsErr r → IsStill G old new → (IsNoted G old → IsNoted G new) → IsSeated G old new → IsLeft G old.vault new.vault → IsStepAs G o old new e r
  wanting_as o e r err still noted seat left = record {
    stepped = λ told a h. IfOk-from_err r (Stepped a (G.faults old.vault) (G.faults new.vault) (G.held new.vault) new e) err;
    given = IfOk-from_err r (IsGiven o (G.faults old.vault) (G.faults new.vault) (G.allowance new.vault) new.is_down) err;
    ready = λ n h. IfOk-from_err r (λ _. IsReady (n + 1) (G.serves new.vault) new) err;
    noted = noted;
    still = on_err r (IsStill G old new) still;
    seat = seat;
    turned = λ up. IfOk-from_err r (λ x. HasTurned o old new e x.kept) err;
    leaves = λ told a h.
        match_err r (λ x. Leaves G old.vault new.vault (Besides G old.vault (IsSaidBy (state_of a) (entry_of e x)))) (λ _. Leaves G old.vault new.vault (Besides G old.vault NoOther)) err (λ _. left_leaves G old.vault new.vault NoOther left);
  }

  -- that of a session's next call
  pub wanting : (e : Event) (r : Result Answer OutOfMemory) → IsErr r → IsStill G old new → (IsNoted G old → IsNoted G new) → IsSeated G old new → IsLeft G old.vault new.vault → IsStep G old new e r
  wanting e r err still noted seat left = wanting_as (Some order.Next) e r err still noted seat left
