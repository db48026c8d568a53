-- entries that are lawful, from what each law asks of them
use Rattle.std.specs.Prelude.{true, false, is_some, Option, None, Some}
use Rattle.std.specs.List.{AllByRecursion}
use Rattle.std.proofs.Common.{◌≡◌, List, [], ◌∷◌, refl, sym, ap, ◌∙◌, ◌⊎◌, inl, inr}
use Rattle.alp_base.specs.declared.ids.JoinNo.{JoinNo}
use Rattle.alp_base.specs.declared.ids.TransId.{TransId}
use Rattle.alp_modes.specs.declared.Mode.{Mode}
use Rattle.alp_files.specs.Holdings.{Holding, DoAgree, agree_held}
use Rattle.alp_files.specs.declared.call.Call.{Call}
use Rattle.alp_files.specs.Act.{id_in}
use Rattle.alp_files.specs.History.{PerformedCall}
use Rattle.alp_journal.specs.declared.event.Event.{Event}
use Rattle.alp_journal.specs.declared.entry.Entry.{Entry}
use Rattle.alp_journal.specs.Along.{Along}
use Rattle.alp_journal.specs.Ids.{same_trans}
use Rattle.alp_journal.specs.Deeds.{Deed, Grants, Performs, Releases}
use Rattle.alp_journal.specs.Coordinator.{is_running}
use Rattle.alp_journal.specs.Holder.{Life, no_locks}
use Rattle.alp_journal.specs.State.{State, state_deed}
use Rattle.alp_journal.specs.Moves.{next}
use Rattle.alp_journal.specs.Laws.{IsLawfulDeed, IsLawfulEntry, DrawsAsTold, KeepsSessions, DeedsAreLawful, DoLivesAgree, LetsGo, sends_last, SaysRight, TellsDecided, StartsRight, StopsRight, SeesView, IsOpenPart, IsHolding}
use Rattle.alp_journal.proofs.IdLemmas.{same_trans-itself}
use Rattle.alp_history.proofs.Named.{Only, has_trans, is_named, is_alone, only_deed, alone, among_two, one_of_two}
use Rattle.alp_history.proofs.NamedEnds.{vote_in, no_vote, holds_none}
use Rattle.alp_history.proofs.LawfulDeeds.{grants, performs, releases}

pub by_laws : (s : State) (e : Entry) → sends_last e.acts ≡ true → DrawsAsTold s e → KeepsSessions s e e.event → DeedsAreLawful s e e.event → DoLivesAgree (next s e).holder.lives → LetsGo s e e.event
    → AllByRecursion (SaysRight e.event (next s e)) e.acts → TellsDecided s (next s e) e.event e.reply → StartsRight s e e.event → StopsRight e → IsLawfulEntry s e
by_laws s e sent drawn sessions deeds agree released said told restart stopped = record {
  drawn = drawn;
  sessions = sessions;
  deeds = deeds;
  agree = agree;
  released = released;
  sent = sent;
  said = said;
  told = told;
  restart = restart;
  stopped = stopped;
}

module _ (ts : List TransId) (js : List JoinNo) (s : State) (known : Only ts js s) (e : Event) where
  -- a call is granted its locks and performed, where no other part lives
  pub call_alone : (t : TransId) (c : Call) (d : PerformedCall) → has_trans t ts ≡ true → id_in d.reply ≡ None → vote_in (s.holder.lives t) ≡ None
      → is_alone ts js t (state_deed s (Grants t c)) ≡ true → is_alone ts js t (state_deed (state_deed s (Grants t c)) (Performs t d)) ≡ true
      → IsOpenPart s t → SeesView e (state_deed s (Grants t c)) (Performs t d) → Along state_deed (IsLawfulDeed e) s (Grants t c ∷ Performs t d ∷ [])
  call_alone t c d named none unvoted before after runs view = (
    grants e s t c (no_vote (s.holder.lives t) unvoted, alone ts js t (state_deed s (Grants t c)) granted before) runs,
    (
      performs e (state_deed s (Grants t c)) t d none view
          (alone ts js t (state_deed (state_deed s (Grants t c)) (Performs t d)) (only_deed ts js (state_deed s (Grants t c)) granted (Performs t d) named) after) runs,
      tt,
    ),
  )
    where
      granted : Only ts js (state_deed s (Grants t c))
      granted = only_deed ts js s known (Grants t c) named

  -- a part ends, and its locks are let go
  pub then_released : (d : Deed) (t : TransId) → is_named ts js d ≡ true → is_some ((state_deed s d).holder.lives t) ≡ true → is_running ((state_deed s d).fates t) ≡ false
      → AllByRecursion (λ j. IsHolding t ((state_deed s d).phases j) → ⊥) js → IsLawfulDeed e s d → Along state_deed (IsLawfulDeed e) s (d ∷ Releases t ∷ [])
  then_released d t named lives ended none law =
      (law, (releases e (state_deed s d) t (lives, (ended, holds_none ts js (state_deed s d) (only_deed ts js s known d named) t none)), tt))

-- what holds no locks agrees with all
abbrev pub held_in : Option Life → Holding
held_in None = no_locks
held_in (Some l) = l.held

pub agree_none : (a b : Option Mode) → b ≡ None → agree_held a b ≡ true
agree_none None b h = refl
agree_none (Some m) b h = ap (agree_held (Some m)) h

none_agree : (a b : Option Mode) → a ≡ None → agree_held a b ≡ true
none_agree a b h = ap (λ (x : Option Mode). agree_held x b) h

-- two parts live, of which the second one holds nothing
pub second_bare : (ts : List TransId) (js : List JoinNo) (t u : TransId) (s : State) → Only ts js s → among_two ts js t u s ≡ true → held_in (s.holder.lives u) ≡ no_locks → DoLivesAgree s.holder.lives
second_bare ts js t u s known two bare v w k l kv lw other = go (one_of_two ts js t u s known two v k kv) (one_of_two ts js t u s known two w l lw)
  where
    no_locks_of : (x : TransId) (q : Life) → u ≡ x → s.holder.lives x ≡ Some q → q.held ≡ no_locks
    no_locks_of x q same h = sym (ap held_in h) ∙ ap (λ y. held_in (s.holder.lives y)) (sym same) ∙ bare

    go : (t ≡ v) ⊎ (u ≡ v) → (t ≡ w) ⊎ (u ≡ w) → DoAgree k.held l.held
    go (inr a) y r = none_agree (k.held r) (l.held r) (ap (λ (x : Holding). x r) (no_locks_of v k a kv))
    go (inl a) (inr b) r = agree_none (k.held r) (l.held r) (ap (λ (x : Holding). x r) (no_locks_of w l b lw))
    go (inl a) (inl b) r =
        let wrong : true ≡ false = sym (same_trans-itself t) ∙ (λ i. same_trans (a i) (b i)) ∙ other in
        absurd (let no : ⊥ = cc in no)
