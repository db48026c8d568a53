-- the entry that brings the last vote keeps each law on its deeds, its releases, what it says and what it draws
use Rattle.std.specs.List.{AllByRecursion}
use Rattle.std.proofs.Common.{refl}
use Rattle.alp_journal.specs.Moves.{next}
use Rattle.alp_journal.specs.Laws.{DrawsAsTold, KeepsSessions, DeedsAreLawful, LetsGo, SaysRight, TellsDecided, StartsRight, StopsRight}
use Rattle.alp_history.specs.Examples.{vote}
use Rattle.alp_history.proofs.Worked.{before_vote, decided_right}

deeds_lawful : DeedsAreLawful before_vote vote vote.event
deeds_lawful = (
  record { counts = tt; view = tt; locks = tt; running = tt; registration = tt; vote = tt; decision = tt; application = tt; forgetting = tt },
  (
    record { counts = tt; view = tt; locks = tt; running = tt; registration = tt; vote = tt; decision = decided_right; application = tt; forgetting = tt },
    (record { counts = tt; view = tt; locks = (refl, (refl, λ j h. h)); running = tt; registration = tt; vote = tt; decision = tt; application = tt; forgetting = tt }, tt),
  ),
)

drawn : DrawsAsTold before_vote vote
drawn = refl

sessions : KeepsSessions before_vote vote vote.event
sessions = refl

released : LetsGo before_vote vote vote.event
released = ((refl, refl), (tt, tt))

said : AllByRecursion (SaysRight vote.event (next before_vote vote)) vote.acts
said = (tt, (tt, ((refl, refl), tt)))

told : TellsDecided before_vote (next before_vote vote) vote.event vote.reply
told = tt

starts : StartsRight before_vote vote vote.event
starts = (refl, refl)

stops : StopsRight vote
stops = tt
