-- a join that another server brings is answered to the server that drew it
use Rattle.std.specs.Prelude.{cond, true, false, Bool}
use Rattle.std.specs.List.Sorted.{IsPermutation}
use Rattle.std.proofs.Common.{◌≡◌, ◌<◌, ℕ, List, [], ◌∷◌, refl, inr, arith}
use Rattle.alp_base.specs.declared.ids.JoinNo.{JoinNo}
use Rattle.alp_base.specs.declared.ids.TransId.{TransId}
use Rattle.alp_journal.specs.declared.act.Act.TheVariants as act
use Rattle.alp_journal.specs.declared.message.Message.TheVariants as msg
use Rattle.alp_journal.specs.declared.entry.Entry.{Entry}
use Rattle.alp_journal.specs.Ids.{same_trans}
use Rattle.alp_journal.specs.Coordinator.{Fate, Undrawn, begun, registered, has_votes}
use Rattle.alp_journal.specs.State.{State}
use Rattle.alp_journal.specs.Moves.{next}
use Rattle.alp_journal.specs.Laws.{IsLawful, IsLawfulEntry}
use Rattle.alp_journal.specs.Messages.{Mail}
use Rattle.alp_journal.specs.Answered.{IsAnsweredEntry, IsAnswered, is_all_done}
use Rattle.alp_history.specs.Examples.{trans, join, new, arrives}
use Rattle.alp_history.specs.RightJournals.{brought}
use Rattle.alp_history.proofs.LawfulDeeds.{registers}
use Rattle.alp_history.proofs.LawfulEntries.{by_laws}
use Rattle.alp_history.proofs.Named.{Only, only_next, alone}
use Rattle.alp_history.proofs.Places.{in-list}
use Rattle.alp_history.proofs.FirstUp as up
use Rattle.alp_history.proofs.WorkedAnswers.{hello_whole, begin_whole, then_begun}

abbrev brings : Entry
brings = arrives 3 (msg.Register trans join 1) (act.Registered trans join ∷ act.Sent 2 (msg.Joined trans join) ∷ [])

abbrev ts : List TransId
ts = trans ∷ []

abbrev here : List JoinNo
here = []

registered_so : IsLawfulEntry up.at_2 brings
registered_so = by_laws up.at_2 brings refl refl refl (registers brings.event up.at_2 trans join (record { from = 3; client = 1; joins = []; asked = refl; runs = refl; first = refl; elsewhere = refl }), tt)
    (alone ts here trans (next up.at_2 brings) (only_next ts here up.at_2 brings refl (up.known_2 [] [])) refl)
    ((refl, refl), tt) (tt, (refl, tt)) tt (refl, refl) tt

pub lawful : IsLawful (new 1) brought
lawful = (up.entry_0, (up.entry_1, (registered_so, tt)))

-- what becomes of a transaction then, be it the one that began
abbrev then_joined : Bool → Fate
then_joined t = cond t (registered join (then_begun t)) (then_begun t)

voted_joined : (t : Bool) → has_votes (then_joined t) ≡ false
voted_joined true = refl
voted_joined false = refl

done_joined : (t : Bool) → is_all_done (then_joined t) ≡ false
done_joined true = refl
done_joined false = refl

brings_whole : IsAnsweredEntry false up.at_2 brings
brings_whole = record {
  answered = tt;
  sent = record { moves = []; below = tt; is = refl };
  ticks = tt;
  applied = tt;
  votes = λ t. voted_joined (same_trans trans t);
  forgets = λ t. done_joined (same_trans trans t);
  turns = tt;
  grants = tt;
  halted = tt;
}

pub answered : IsAnswered (new 1) brought
answered = (
  ((false, hello_whole), ((false, begin_whole), ((false, brings_whole), tt))),
  λ i e at. inr (let within : i < 3 = in-list brought i e at in omega (arith, within)),
)
