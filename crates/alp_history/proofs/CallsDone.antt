-- an entry that performs a call, where what its part is then is written out
use Rattle.std.specs.Prelude.{true, false, cond, Bool, ◌++◌, Option, None, Some}
use Rattle.std.specs.Option.{option_to_list}
use Rattle.std.proofs.Common.{◌≡◌, inl, List, [], ◌∷◌, sym, ap, subst, ◌∙◌}
use Rattle.alp_base.specs.declared.ids.JoinNo.{JoinNo}
use Rattle.alp_base.specs.declared.ids.TransId.{TransId}
use Rattle.alp_files.specs.declared.call.Call.{Call}
use Rattle.alp_files.specs.declared.reply.Reply.{Reply}
use Rattle.alp_files.specs.Act.{Answer, id_in}
use Rattle.alp_files.specs.History.{PerformedCall}
use Rattle.alp_files.specs.Locks.{IsFormed, HoldsEach, needs_of}
use Rattle.alp_files.proofs.CoverLemmas.{granted-holds}
use Rattle.alp_journal.specs.declared.entry.Entry.{Entry}
use Rattle.alp_journal.specs.Along.{Along}
use Rattle.alp_journal.specs.Coordinator.{is_running}
use Rattle.alp_journal.specs.Deeds.{Grants, Performs}
use Rattle.alp_journal.specs.Holder.{Life, with_life, grants, held_for, view_in, after_done, answer_in}
use Rattle.alp_journal.specs.Counts.{locked_after}
use Rattle.alp_journal.specs.State.{State, state_deed, ids_after}
use Rattle.alp_journal.specs.Moves.{stops, tried, next}
use Rattle.alp_journal.specs.Laws.{DoLivesAgree, IsLawfulDeed, SeesView, client_of}
use Rattle.alp_journal.proofs.IdLemmas.{same_trans-itself}
use Rattle.alp_history.proofs.Named.{Only, has_trans, only_deed}
use Rattle.alp_history.proofs.NamedEnds.{no_vote, vote_in}
use Rattle.alp_history.proofs.Steps.{closed, call_next, performs_by}
use Rattle.alp_history.proofs.LawfulDeeds as deeds

-- the part is this one
abbrev pub with_granted : State → TransId → Call → Life → State
with_granted s t c m = record (state_deed s (Grants t c)) { holder = with_life s.holder t (Some m) }

abbrev pub with_done : State → TransId → PerformedCall → Life → State
with_done s t d k = record s {
  ids = ids_after s.ids (Performs t d);
  holder = with_life (record s.holder { made = option_to_list (id_in d.reply) ++ (s.holder).made }) t (Some k);
  locked = locked_after s.holder s.locked (Performs t d);
}

-- a part is granted the locks of a call
pub granted_is : (s : State) (t : TransId) (c : Call) (l m : Life) → s.holder.lives t ≡ Some l → record l { held = held_for s.holder l c } ≡ m → state_deed s (Grants t c) ≡ with_granted s t c m
granted_is s t c l m live is =
    ap (λ (x : Option Life). record (state_deed s (Grants t c)) { holder = grants s.holder t c x }) live
    ∙ ap (λ (x : Life). with_granted s t c x) is

module _ (s : State) (e : Entry) (t : TransId) (c : Call) (r : Reply) (l m k : Life) (a : Answer) where
  abbrev d : PerformedCall
  d = record { call = c; reply = r }

  -- the part before, with the locks of the call, and when it is performed
  pub record IsCalled : Type 0 where
    pub goes : stops e ≡ false
    pub tries : tried s e ≡ Grants t c ∷ Performs t d ∷ []
    pub live : s.holder.lives t ≡ Some l
    pub granted : record l { held = held_for s.holder l c } ≡ m
    pub answer : answer_in s.holder m d ≡ a
    pub done : after_done m d a ≡ k

  abbrev pub given : State
  given = with_granted s t c m

  abbrev pub left : State
  left = closed e (with_done given t d k)

  -- all that makes it lawful
  pub record IsAllowed : Type 0 where
    pub client : client_of e.event ≡ Some m.client
    pub unvoted : l.vote ≡ None
    pub active : m.vote ≡ None
    pub formed : IsFormed c
    pub none : id_in r ≡ None
    pub right : a.reply ≡ Some r
    pub runs : is_running (s.fates t) ≡ true
    pub agree_given : DoLivesAgree given.holder.lives
    pub agree_left : DoLivesAgree (with_done given t d k).holder.lives

  module _ (h : IsCalled) where
    given_is : state_deed s (Grants t c) ≡ given
    given_is = granted_is s t c l m h.live h.granted

    its_life : given.holder.lives t ≡ Some m
    its_life = ap (λ (b : Bool). cond {A = Option Life} b (Some m) (s.holder.lives t)) (same_trans-itself t)

    -- what the entry leaves
    pub left_is : next s e ≡ left
    left_is =
        call_next s e t c d m a h.goes h.tries (ap (λ (x : State). x.holder.lives t) given_is ∙ its_life) (ap (λ (x : State). answer_in x.holder m d) given_is ∙ h.answer)
        ∙ ap (λ (x : State). closed e (with_done x t d (after_done m d a))) given_is
        ∙ ap (λ (x : Life). closed e (with_done given t d x)) h.done

    done_is : state_deed (state_deed s (Grants t c)) (Performs t d) ≡ with_done given t d k
    done_is = ap (λ (x : State). state_deed x (Performs t d)) given_is ∙ performs_by given t d m a its_life h.answer ∙ ap (with_done given t d) h.done

    -- it is lawful
    pub called_right : IsAllowed → Along state_deed (IsLawfulDeed e.event) s (Grants t c ∷ Performs t d ∷ [])
    called_right o = (
      deeds.grants e.event s t c (no_vote (s.holder.lives t) (ap vote_in h.live ∙ o.unvoted), subst (λ (x : State). DoLivesAgree x.holder.lives) (sym given_is) o.agree_given) (inl o.runs),
      (
        deeds.performs e.event (state_deed s (Grants t c)) t d o.none (subst (λ (x : State). SeesView e.event x (Performs t d)) (sym given_is) seen) (subst (λ (x : State). DoLivesAgree x.holder.lives) (sym done_is) o.agree_left) (inl o.runs),
        tt,
      ),
    )
      where
        seen : SeesView e.event given (Performs t d)
        seen = (
          m,
          its_life,
          record {
            client = o.client;
            active = o.active;
            formed = o.formed;
            right = ap (λ (x : Answer). x.reply) h.answer ∙ o.right;
            locked = subst (λ (x : Life). HoldsEach x.held (needs_of (view_in s.holder x) x.own c)) h.granted (granted-holds l.held (needs_of (view_in s.holder l) l.own c));
          },
        )

    -- what is known of others
    module _ (ts : List TransId) (js : List JoinNo) (known : Only ts js s) (named : has_trans t ts ≡ true) where
      pub known_given : Only ts js given
      known_given = subst (Only ts js) given_is (only_deed ts js s known (Grants t c) named)

      pub known_done : Only ts js (with_done given t d k)
      known_done = subst (Only ts js) done_is (only_deed ts js (state_deed s (Grants t c)) (only_deed ts js s known (Grants t c) named) (Performs t d) named)

      pub known_left : Only ts js left
      known_left = record { lives = known_done.lives; fates = known_done.fates; phases = known_done.phases }
