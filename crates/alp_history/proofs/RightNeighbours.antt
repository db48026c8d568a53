-- the right ones of the pairs of journals
use Rattle.std.specs.Prelude.{codes, true, unwrap_or, slice_get}
use Rattle.std.proofs.Common.{ℕ, List, [], ◌∷◌, ◌++◌, refl}
use Rattle.alp_base.specs.declared.ids.JoinNo.{JoinNo}
use Rattle.alp_base.specs.declared.ids.TransId.{TransId}
use Rattle.alp_files.specs.declared.call.Call.TheVariants as call
use Rattle.alp_files.specs.declared.reply.Reply.TheVariants as reply
use Rattle.alp_files.specs.declared.reply.Ended.TheVariants as ending
use Rattle.alp_files.specs.declared.refusal.Cause.TheVariants as cause
use Rattle.alp_files.specs.declared.refusal.Refusal.TheVariants as refusal
use Rattle.alp_journal.specs.declared.act.Act.TheVariants as act
use Rattle.alp_journal.specs.declared.message.Message.TheVariants as msg
use Rattle.alp_journal.specs.declared.entry.Entry.{Entry}
use Rattle.alp_journal.specs.Deeds.{Applies, Ends, Hears, Finishes, Decides}
use Rattle.alp_journal.specs.Desk.{waiting_of}
use Rattle.alp_journal.specs.State.{State, opened, state_deed}
use Rattle.alp_journal.specs.Moves.{next}
use Rattle.alp_journal.specs.Laws.{IsLawful, IsLawfulEntry}
use Rattle.alp_history.specs.Examples.{trans, join, stamp, new, calls, first_up, vote, worker_up, restarts}
use Rattle.alp_history.specs.RightLog.{opening, ticks}
use Rattle.alp_history.specs.WrongJournals.{hello, begins_as, begun, first_file, creates, at_time, votes_and_decides, third_join, of_three, two_joins, votes, decides_both, one_voted, all_voted, second_join, one_registered, registers_again, committed, acknowledged, inquires, votes_for, hears_commit, voted, reads_bob, made, one_waits, ends, second_trans, comes_again, started_again, goes_on, applies, says_done, committed_alone, hears_done, greets_again, cut_off, cut_alone, asks_how, ended_alone, greeted_again}
use Rattle.alp_history.proofs.Worked.{life_at}
use Rattle.alp_history.proofs.Steps.{lives_there}
use Rattle.alp_history.proofs.Named.{Only, only_deed, only_next, alone}
use Rattle.alp_history.proofs.NamedEnds.{no_file_call, ready_found, stamps_found}
use Rattle.alp_history.proofs.LawfulDeeds.{begins, registers, finishes, hears, decides, acknowledges}
use Rattle.alp_history.proofs.LawfulEntries.{by_laws, then_released}
use Rattle.alp_history.proofs.LawfulDeeds as deeds
use Rattle.alp_history.proofs.FirstUp as up
use Rattle.alp_history.proofs.WorkerUp as worker
use Rattle.alp_history.proofs.CreatesOne as creating
use Rattle.alp_history.proofs.WaitsOne as waits
use Rattle.alp_history.proofs.FoundOne as found
use Rattle.alp_history.proofs.CutOne as cut

abbrev ts : List TransId
ts = trans ∷ []

-- ---- the coordinator

abbrev here : List JoinNo
here = []

pub first_begins : IsLawful (new 1) (hello ∷ begins_as trans ∷ [])
first_begins = (up.entry_0, (up.entry_1, tt))

pub first_creates : IsLawful (opening 1) (begun ++ creates first_file ∷ [])
first_creates = creating.lawful

-- the last vote, and the decision with it
abbrev heard : ℕ → State
heard n = state_deed up.at_6 (Hears trans join n)

known_6 : Only ts here up.at_6
known_6 = up.known_6 [] []

five : IsLawfulEntry up.at_6 (votes_and_decides 5 5)
five = by_laws up.at_6 (votes_and_decides 5 5) refl refl refl (
  hears (votes_and_decides 5 5).event up.at_6 trans join 5,
  then_released ts here (heard 5) (only_deed ts here up.at_6 known_6 (Hears trans join 5) refl) (votes_and_decides 5 5).event (Decides (at_time 5) (join ∷ [])) trans refl refl refl tt
      (decides (votes_and_decides 5 5).event (heard 5) (at_time 5) (join ∷ [])
      (record { client = 1; votes = (join, 5) ∷ []; asked = refl; own = refl; now = refl; finishing = refl; voted = refl; time = refl; idle = no_file_call (waiting_of (heard 5).desk 1 trans) refl; live = (life_at (heard 5) trans, lives_there (heard 5) trans refl, refl) })),
)
    (alone ts here trans (next up.at_6 (votes_and_decides 5 5)) (only_next ts here up.at_6 (votes_and_decides 5 5) refl known_6) refl)
    ((refl, refl), (tt, tt)) (tt, (tt, ((refl, refl), tt))) tt (refl, refl) tt

pub decides_for_the_vote : IsLawful (new 1) (first_up ++ votes_and_decides 5 5 ∷ [])
decides_for_the_vote = up.first_up_then (votes_and_decides 5 5 ∷ []) (five, tt)

one : IsLawfulEntry up.at_6 vote
one = by_laws up.at_6 vote refl refl refl (
  hears vote.event up.at_6 trans join 1,
  then_released ts here (heard 1) (only_deed ts here up.at_6 known_6 (Hears trans join 1) refl) vote.event (Decides stamp (join ∷ [])) trans refl refl refl tt
      (decides vote.event (heard 1) stamp (join ∷ [])
      (record { client = 1; votes = (join, 1) ∷ []; asked = refl; own = refl; now = refl; finishing = refl; voted = refl; time = refl; idle = no_file_call (waiting_of (heard 1).desk 1 trans) refl; live = (life_at (heard 1) trans, lives_there (heard 1) trans refl, refl) })),
)
    (alone ts here trans (next up.at_6 vote) (only_next ts here up.at_6 vote refl known_6) refl)
    ((refl, refl), (tt, tt)) (tt, (tt, ((refl, refl), tt))) tt (refl, refl) tt

abbrev decided : State
decided = next up.at_6 vote

known_decided : Only ts here decided
known_decided = only_next ts here up.at_6 vote refl known_6

asked_how : IsLawfulEntry decided (inquires (msg.Commit trans join stamp))
asked_how = by_laws decided (inquires (msg.Commit trans join stamp)) refl refl refl tt
    (alone ts here trans (next decided (inquires (msg.Commit trans join stamp))) (only_next ts here decided (inquires (msg.Commit trans join stamp)) refl known_decided) refl)
    ((refl, refl), (tt, tt)) ((refl, refl), tt) tt (refl, refl) tt

-- the word that its join is done comes, and comes again
word_comes : IsLawfulEntry decided (hears_done [])
word_comes = by_laws decided (hears_done []) refl refl refl (acknowledges (hears_done []).event decided trans join, tt)
    (alone ts here trans (next decided (hears_done [])) (only_next ts here decided (hears_done []) refl known_decided) refl)
    ((refl, refl), (tt, tt)) tt tt (refl, refl) tt

abbrev done_once : State
done_once = next decided (hears_done [])

known_done : Only ts here done_once
known_done = only_next ts here decided (hears_done []) refl known_decided

word_again : IsLawfulEntry done_once (hears_done [])
word_again = by_laws done_once (hears_done []) refl refl refl (acknowledges (hears_done []).event done_once trans join, tt)
    (alone ts here trans (next done_once (hears_done [])) (only_next ts here done_once (hears_done []) refl known_done) refl)
    ((refl, refl), (tt, tt)) tt tt (refl, refl) tt

pub forgets_nothing_late : IsLawful (new 1) (acknowledged ++ hears_done [] ∷ [])
forgets_nothing_late = up.first_up_then (vote ∷ hears_done [] ∷ hears_done [] ∷ []) (one, (word_comes, (word_again, tt)))

pub decides_and_says : IsLawful (new 1) (first_up ++ vote ∷ [])
decides_and_says = up.first_up_then (vote ∷ []) (one, tt)

pub says_the_commit : IsLawful (new 1) (committed ++ inquires (msg.Commit trans join stamp) ∷ [])
says_the_commit = up.first_up_then (vote ∷ inquires (msg.Commit trans join stamp) ∷ []) (one, (asked_how, tt))

-- a vote of which nothing came yet
voted_only : IsLawfulEntry up.at_6 (votes 2 join [])
voted_only = by_laws up.at_6 (votes 2 join []) refl refl refl (hears (votes 2 join []).event up.at_6 trans join 1, tt)
    (alone ts here trans (next up.at_6 (votes 2 join [])) (only_next ts here up.at_6 (votes 2 join []) refl known_6) refl)
    ((refl, refl), (tt, tt)) tt tt (refl, refl) tt

abbrev all_in : State
all_in = next up.at_6 (votes 2 join [])

known_all_in : Only ts here all_in
known_all_in = only_next ts here up.at_6 (votes 2 join []) refl known_6

tick_after : IsLawfulEntry all_in (ticks [])
tick_after = by_laws all_in (ticks []) refl refl refl tt
    (alone ts here trans (next all_in (ticks [])) (only_next ts here all_in (ticks []) refl known_all_in) refl)
    ((refl, refl), (tt, tt)) tt tt (refl, refl) tt

pub ticks_idly : IsLawful (new 1) (all_voted ++ ticks [] ∷ [])
ticks_idly = up.first_up_then (votes 2 join [] ∷ ticks [] ∷ []) (voted_only, (tick_after, tt))

-- ---- joins

abbrev registers_first : Entry
registers_first = unwrap_or (slice_get one_registered 2) hello

abbrev registered : State
registered = next up.at_2 registers_first

known_registered : Only ts here registered
known_registered = only_next ts here up.at_2 registers_first refl (up.known_2 [] [])

lets_in : IsLawfulEntry up.at_2 registers_first
lets_in = by_laws up.at_2 registers_first refl refl refl (registers registers_first.event up.at_2 trans join (record { from = 2; client = 1; joins = []; asked = refl; runs = refl; first = refl; elsewhere = refl }), tt)
    (alone ts here trans registered known_registered refl)
    ((refl, refl), tt) (tt, (refl, tt)) tt (refl, refl) tt

abbrev refused : Entry
refused = registers_again (act.Sent 2 (msg.JoinRefused trans second_join) ∷ [])

refuses : IsLawfulEntry registered refused
refuses = by_laws registered refused refl refl refl tt
    (alone ts here trans (next registered refused) (only_next ts here registered refused refl known_registered) refl)
    ((refl, refl), tt) (tt, tt) tt (refl, refl) tt

pub refuses_a_second_join : IsLawful (new 1) (one_registered ++ refused ∷ [])
refuses_a_second_join = (up.entry_0, (up.entry_1, (lets_in, (refuses, tt))))

-- ---- two joins

abbrev of : ℕ → Entry
of i = unwrap_or (slice_get (one_voted ++ votes 3 third_join decides_both ∷ []) i) hello

abbrev t0 : State
t0 = opened of_three

k0 : Only ts here t0
k0 = record { lives = λ u k. refl; fates = λ u k. refl; phases = λ j k. refl }

abbrev t1 : State
t1 = next t0 (of 0)

k1 : Only ts here t1
k1 = only_next ts here t0 (of 0) refl k0

e0 : IsLawfulEntry t0 (of 0)
e0 = by_laws t0 (of 0) refl refl refl tt (alone ts here trans t1 k1 refl) ((refl, refl), tt) tt tt (refl, refl) tt

abbrev t2 : State
t2 = next t1 (of 1)

k2 : Only ts here t2
k2 = only_next ts here t1 (of 1) refl k1

e1 : IsLawfulEntry t1 (of 1)
e1 = by_laws t1 (of 1) refl refl refl (begins (of 1).event t1 trans 1 (codes "Admin") 0 refl, tt) (alone ts here trans t2 k2 refl) ((refl, refl), tt) (tt, tt) tt (refl, refl) tt

abbrev t3 : State
t3 = next t2 (of 2)

k3 : Only ts here t3
k3 = only_next ts here t2 (of 2) refl k2

e2 : IsLawfulEntry t2 (of 2)
e2 = by_laws t2 (of 2) refl refl refl (registers (of 2).event t2 trans join (record { from = 2; client = 1; joins = []; asked = refl; runs = refl; first = refl; elsewhere = refl }), tt)
    (alone ts here trans t3 k3 refl)
    ((refl, refl), tt) (tt, (refl, tt)) tt (refl, refl) tt

abbrev t4 : State
t4 = next t3 (of 3)

k4 : Only ts here t4
k4 = only_next ts here t3 (of 3) refl k3

e3 : IsLawfulEntry t3 (of 3)
e3 = by_laws t3 (of 3) refl refl refl (registers (of 3).event t3 trans third_join (record { from = 3; client = 1; joins = join ∷ []; asked = refl; runs = refl; first = refl; elsewhere = refl }), tt)
    (alone ts here trans t4 k4 refl)
    ((refl, refl), tt) (tt, (refl, tt)) tt (refl, refl) tt

abbrev t5 : State
t5 = next t4 (of 4)

k5 : Only ts here t5
k5 = only_next ts here t4 (of 4) refl k4

e4 : IsLawfulEntry t4 (of 4)
e4 = by_laws t4 (of 4) refl refl refl (finishes (of 4).event t4 trans, tt)
    (alone ts here trans t5 k5 refl)
    ((refl, refl), (tt, tt)) (tt, (tt, tt)) tt (refl, refl) tt

abbrev t6 : State
t6 = next t5 (of 5)

k6 : Only ts here t6
k6 = only_next ts here t5 (of 5) refl k5

e5 : IsLawfulEntry t5 (of 5)
e5 = by_laws t5 (of 5) refl refl refl (hears (of 5).event t5 trans join 1, tt)
    (alone ts here trans t6 k6 refl)
    ((refl, refl), (tt, tt)) tt tt (refl, refl) tt

abbrev heard_6 : State
heard_6 = state_deed t6 (Hears trans third_join 1)

e6 : IsLawfulEntry t6 (of 6)
e6 = by_laws t6 (of 6) refl refl refl (
  hears (of 6).event t6 trans third_join 1,
  then_released ts here heard_6 (only_deed ts here t6 k6 (Hears trans third_join 1) refl) (of 6).event (Decides stamp (join ∷ third_join ∷ [])) trans refl refl refl tt
      (decides (of 6).event heard_6 stamp (join ∷ third_join ∷ [])
      (record { client = 1; votes = (join, 1) ∷ (third_join, 1) ∷ []; asked = refl; own = refl; now = refl; finishing = refl; voted = refl; time = refl; idle = no_file_call (waiting_of heard_6.desk 1 trans) refl; live = (life_at heard_6 trans, lives_there heard_6 trans refl, refl) })),
)
    (alone ts here trans (next t6 (of 6)) (only_next ts here t6 (of 6) refl k6) refl)
    ((refl, refl), (tt, tt)) (tt, (tt, ((refl, refl), ((refl, refl), tt)))) tt (refl, refl) tt

pub counts_one_vote : IsLawful of_three (two_joins ++ votes 2 join [] ∷ [])
counts_one_vote = (e0, (e1, (e2, (e3, (e4, (e5, tt))))))

pub decides_with_both : IsLawful of_three (one_voted ++ votes 3 third_join decides_both ∷ [])
decides_with_both = (e0, (e1, (e2, (e3, (e4, (e5, (e6, tt)))))))

-- ---- locks and sessions

known_3 : Only ts here up.at_3
known_3 = up.known_3 [] []

idle_tick : IsLawfulEntry up.at_3 (ticks [])
idle_tick = by_laws up.at_3 (ticks []) refl refl refl tt
    (alone ts here trans (next up.at_3 (ticks [])) (only_next ts here up.at_3 (ticks []) refl known_3) refl)
    ((refl, refl), tt) tt tt (refl, refl) tt

pub keeps_what_lives : IsLawful (new 1) (made ++ ticks [] ∷ [])
keeps_what_lives = up.owner_then (ticks [] ∷ []) (idle_tick, tt)

again : IsLawfulEntry up.at_3 (comes_again reply.Plain [])
again = by_laws up.at_3 (comes_again reply.Plain []) refl refl (refl, refl) tt
    (alone ts here trans (next up.at_3 (comes_again reply.Plain [])) (only_next ts here up.at_3 (comes_again reply.Plain []) refl known_3) refl)
    ((refl, refl), tt) tt tt (refl, refl) tt

pub repeats_the_reply : IsLawful (new 1) (made ++ comes_again reply.Plain [] ∷ [])
repeats_the_reply = up.owner_then (comes_again reply.Plain [] ∷ []) (again, tt)

pub grants_the_waiter : IsLawful (new 1) (one_waits ++ ends (act.Released trans ∷ act.Granted second_trans ∷ []) ∷ [])
grants_the_waiter = waits.up_to_end

-- ---- a transaction of this server alone

abbrev commits_alone : Entry
commits_alone = calls 1 3 (call.Finish trans true) (reply.Committed stamp) (act.Decided stamp [] ∷ act.Released trans ∷ [])

abbrev finished_alone : State
finished_alone = state_deed up.at_2 (Finishes trans)

abbrev decided_alone : State
decided_alone = next up.at_2 commits_alone

known_alone : Only ts here decided_alone
known_alone = only_next ts here up.at_2 commits_alone refl (up.known_2 [] [])

decides_alone : IsLawfulEntry up.at_2 commits_alone
decides_alone = by_laws up.at_2 commits_alone refl refl refl (
  finishes commits_alone.event up.at_2 trans,
  then_released ts here finished_alone (only_deed ts here up.at_2 (up.known_2 [] []) (Finishes trans) refl) commits_alone.event (Decides stamp []) trans refl refl refl tt
      (decides commits_alone.event finished_alone stamp []
      (record { client = 1; votes = []; asked = refl; own = refl; now = refl; finishing = refl; voted = refl; time = refl; idle = no_file_call (waiting_of finished_alone.desk 1 trans) refl; live = (life_at finished_alone trans, lives_there finished_alone trans refl, refl) })),
)
    (alone ts here trans decided_alone known_alone refl)
    ((refl, refl), tt) (tt, (tt, tt)) ([], refl, (record { stamp = stamp; who = codes "Admin"; calls = [] }, refl)) (refl, refl) tt

hears_nothing : IsLawfulEntry decided_alone (hears_done [])
hears_nothing = by_laws decided_alone (hears_done []) refl refl refl tt
    (alone ts here trans (next decided_alone (hears_done [])) (only_next ts here decided_alone (hears_done []) refl known_alone) refl)
    ((refl, refl), tt) tt tt (refl, refl) tt

pub forgets_no_joinless : IsLawful (new 1) (committed_alone ++ hears_done [] ∷ [])
forgets_no_joinless = (up.entry_0, (up.entry_1, (decides_alone, (hears_nothing, tt))))

-- ---- a restart

known_2 : Only ts here up.at_2
known_2 = up.known_2 [] []

abbrev restarts_empty : Entry
restarts_empty = restarts 2 0 [] []

abbrev restarted : State
restarted = next up.at_2 restarts_empty

known_restarted : Only ts here restarted
known_restarted = only_next ts here up.at_2 restarts_empty refl known_2

starts_empty : IsLawfulEntry up.at_2 restarts_empty
starts_empty = by_laws up.at_2 restarts_empty refl refl refl tt
    (alone ts here trans restarted known_restarted refl)
    tt (tt, tt) tt ((refl, record { clock = refl; once = refl; ready = ready_found ts here up.at_2 known_2 [] refl tt; decided = stamps_found ts here up.at_2 known_2 [] refl ((λ n. refl), tt) }), refl) tt

abbrev stale : Entry
stale = goes_on (reply.Refused (refusal.StaleSession 2))

finds_no_session : IsLawfulEntry restarted stale
finds_no_session = by_laws restarted stale refl refl (refl, refl) tt
    (alone ts here trans (next restarted stale) (only_next ts here restarted stale refl known_restarted) refl)
    ((refl, refl), tt) tt tt (refl, refl) tt

pub ends_the_session : IsLawful (new 1) (started_again ++ stale ∷ [])
ends_the_session = (up.entry_0, (up.entry_1, (starts_empty, (finds_no_session, tt))))

abbrev greeted : State
greeted = next restarted (greets_again 2)

known_greeted : Only ts here greeted
known_greeted = only_next ts here restarted (greets_again 2) refl known_restarted

greets : IsLawfulEntry restarted (greets_again 2)
greets = by_laws restarted (greets_again 2) refl refl refl tt
    (alone ts here trans greeted known_greeted refl)
    ((refl, refl), tt) tt tt (refl, refl) tt

pub begins_a_session : IsLawful (new 1) (started_again ++ greets_again 2 ∷ [])
begins_a_session = (up.entry_0, (up.entry_1, (starts_empty, (greets, tt))))

-- ---- a restart behind a stop

pub names_what_stands : IsLawful (new 1) (cut_off ++ restarts 2 1 [] (stamp ∷ []) ∷ [])
names_what_stands = found.up_to_restart

pub names_none_lost : IsLawful (new 1) (cut_off ++ restarts 2 0 [] [] ∷ [])
names_none_lost = cut.up_to_restart

abbrev stops_alone : Entry
stops_alone = unwrap_or (slice_get cut_alone 2) hello

abbrev stopped : State
stopped = next up.at_2 stops_alone

known_stopped : Only ts here stopped
known_stopped = only_next ts here up.at_2 stops_alone refl known_2

is_cut_off : IsLawfulEntry up.at_2 stops_alone
is_cut_off = by_laws up.at_2 stops_alone refl refl refl (
  finishes stops_alone.event up.at_2 trans,
  (
    decides stops_alone.event finished_alone stamp []
        (record { client = 1; votes = []; asked = refl; own = refl; now = refl; finishing = refl; voted = refl; time = refl; idle = no_file_call (waiting_of finished_alone.desk 1 trans) refl; live = (life_at finished_alone trans, lives_there finished_alone trans refl, refl) }),
    tt,
  ),
)
    (alone ts here trans stopped known_stopped refl)
    tt (tt, (tt, tt)) tt (refl, refl) ((refl, refl), refl)

-- what is found made of it
abbrev found_finished : State
found_finished = state_deed stopped (Finishes trans)

known_found_finished : Only ts here found_finished
known_found_finished = only_deed ts here stopped known_stopped (Finishes trans) refl

abbrev found_decided : State
found_decided = state_deed found_finished (Decides stamp [])

known_found_decided : Only ts here found_decided
known_found_decided = only_deed ts here found_finished known_found_finished (Decides stamp []) refl

abbrev starts_made : Entry
starts_made = restarts 2 1 [] []

finds_it_made : IsLawfulEntry stopped starts_made
finds_it_made = by_laws stopped starts_made refl refl refl tt
    (alone ts here trans (next stopped starts_made) (only_next ts here stopped starts_made refl known_stopped) refl)
    tt (tt, tt) tt ((refl, record { clock = refl; once = refl; ready = ready_found ts here found_decided known_found_decided [] refl tt; decided = stamps_found ts here found_decided known_found_decided [] refl ((λ n. refl), tt) }), refl) tt

pub names_no_joinless : IsLawful (new 1) (cut_alone ++ starts_made ∷ [])
names_no_joinless = (up.entry_0, (up.entry_1, (is_cut_off, (finds_it_made, tt))))

abbrev starts_unmade : Entry
starts_unmade = restarts 2 0 [] []

finds_it_lost : IsLawfulEntry stopped starts_unmade
finds_it_lost = by_laws stopped starts_unmade refl refl refl tt
    (alone ts here trans (next stopped starts_unmade) (only_next ts here stopped starts_unmade refl known_stopped) refl)
    tt (tt, tt) tt ((refl, record { clock = refl; once = refl; ready = ready_found ts here found_finished known_found_finished [] refl tt; decided = stamps_found ts here found_finished known_found_finished [] refl ((λ n. refl), tt) }), refl) tt

pub finds_the_old_clock : IsLawful (new 1) (cut_alone ++ starts_unmade ∷ [])
finds_the_old_clock = (up.entry_0, (up.entry_1, (is_cut_off, (finds_it_lost, tt))))

-- ---- how a transaction ended

abbrev told_committed : Entry
told_committed = asks_how 1 4 (ending.Committed stamp)

tells_commit : IsLawfulEntry decided_alone told_committed
tells_commit = by_laws decided_alone told_committed refl refl refl tt
    (alone ts here trans (next decided_alone told_committed) (only_next ts here decided_alone told_committed refl known_alone) refl)
    ((refl, refl), tt) tt (refl, refl) (refl, refl) tt

pub tells_the_commit : IsLawful (new 1) (committed_alone ++ told_committed ∷ [])
tells_the_commit = (up.entry_0, (up.entry_1, (decides_alone, (tells_commit, tt))))

abbrev aborts : Entry
aborts = unwrap_or (slice_get ended_alone 2) hello

abbrev ended : State
ended = next up.at_2 aborts

known_ended : Only ts here ended
known_ended = only_next ts here up.at_2 aborts refl known_2

is_aborted : IsLawfulEntry up.at_2 aborts
is_aborted = by_laws up.at_2 aborts refl refl refl (then_released ts here up.at_2 known_2 aborts.event (Ends trans 1 cause.Asked) trans refl refl refl tt (deeds.ends aborts.event up.at_2 trans 1 cause.Asked))
    (alone ts here trans ended known_ended refl)
    ((refl, refl), tt) (tt, tt) tt (refl, refl) tt

abbrev told_aborted : Entry
told_aborted = asks_how 1 4 ending.Aborted

tells_abort : IsLawfulEntry ended told_aborted
tells_abort = by_laws ended told_aborted refl refl refl tt
    (alone ts here trans (next ended told_aborted) (only_next ts here ended told_aborted refl known_ended) refl)
    ((refl, refl), tt) tt (refl, refl) (refl, refl) tt

pub tells_the_abort : IsLawful (new 1) (ended_alone ++ told_aborted ∷ [])
tells_the_abort = (up.entry_0, (up.entry_1, (is_aborted, (tells_abort, tt))))

abbrev told_running : Entry
told_running = asks_how 1 3 ending.Running

tells_running : IsLawfulEntry up.at_2 told_running
tells_running = by_laws up.at_2 told_running refl refl refl tt
    (alone ts here trans (next up.at_2 told_running) (only_next ts here up.at_2 told_running refl known_2) refl)
    ((refl, refl), tt) tt (refl, refl) (refl, refl) tt

pub tells_that_it_runs : IsLawful (new 1) (begun ++ told_running ∷ [])
tells_that_it_runs = (up.entry_0, (up.entry_1, (tells_running, tt)))

abbrev told_unknown : Entry
told_unknown = asks_how 2 2 ending.Unknown

tells_unknown : IsLawfulEntry greeted told_unknown
tells_unknown = by_laws greeted told_unknown refl refl refl tt
    (alone ts here trans (next greeted told_unknown) (only_next ts here greeted told_unknown refl known_greeted) refl)
    ((refl, refl), tt) tt (refl, refl) (refl, refl) tt

pub tells_nothing_known : IsLawful (new 1) (greeted_again ++ told_unknown ∷ [])
tells_nothing_known = (up.entry_0, (up.entry_1, (starts_empty, (greets, (tells_unknown, tt)))))

-- ---- the worker

abbrev there : List JoinNo
there = join ∷ []

pub votes_after_the_clock : IsLawful (new 2) (worker_up ++ votes_for 1 ∷ [])
votes_after_the_clock = worker.voted_then [] tt

known_5 : Only ts there worker.at_5
known_5 = worker.known_5 [] []

passes_over : IsLawfulEntry worker.at_5 (hears_commit [])
passes_over = by_laws worker.at_5 (hears_commit []) refl refl refl tt
    (alone ts there trans (next worker.at_5 (hears_commit [])) (only_next ts there worker.at_5 (hears_commit []) refl known_5) refl)
    ((refl, refl), tt) tt tt (refl, refl) tt

pub says_nothing_alive : IsLawful (new 2) (worker_up ++ hears_commit [] ∷ [])
says_nothing_alive = worker.worker_up_then (hears_commit [] ∷ []) (passes_over, tt)

known_voted : Only ts there worker.at_6
known_voted = worker.known_6 [] []

is_refused : IsLawfulEntry worker.at_6 (reads_bob [])
is_refused = by_laws worker.at_6 (reads_bob []) refl refl refl tt
    (alone ts there trans (next worker.at_6 (reads_bob [])) (only_next ts there worker.at_6 (reads_bob []) refl known_voted) refl)
    ((refl, refl), tt) tt tt (refl, refl) tt

pub grants_nothing_more : IsLawful (new 2) (voted ++ reads_bob [] ∷ [])
grants_nothing_more = worker.voted_then (reads_bob [] ∷ []) (is_refused, tt)

abbrev restarts_ready : Entry
restarts_ready = restarts 2 0 (join ∷ []) []

finds_it : IsLawfulEntry worker.at_6 restarts_ready
finds_it = by_laws worker.at_6 restarts_ready refl refl refl tt
    (alone ts there trans (next worker.at_6 restarts_ready) (only_next ts there worker.at_6 restarts_ready refl known_voted) refl)
    tt (tt, tt) tt ((refl, record { clock = refl; once = refl; ready = ready_found ts there worker.at_6 known_voted (join ∷ []) refl (refl, tt); decided = stamps_found ts there worker.at_6 known_voted [] refl ((λ n. refl), tt) }), refl) tt

pub finds_the_ready : IsLawful (new 2) (voted ++ restarts_ready ∷ [])
finds_the_ready = worker.voted_then (restarts_ready ∷ []) (finds_it, tt)

abbrev applied : Entry
applied = applies (act.Applied join stamp ∷ act.Released trans ∷ says_done ∷ [])

is_applied : IsLawfulEntry worker.at_6 applied
is_applied = by_laws worker.at_6 applied refl refl refl (then_released ts there worker.at_6 known_voted applied.event (Applies join stamp) trans refl refl refl ((λ h. h), tt)
    (deeds.applies applied.event worker.at_6 join stamp (record { from = 1; client = 1; ts = 1; told = refl; ready = refl; elsewhere = refl; live = (life_at worker.at_6 trans, lives_there worker.at_6 trans refl, refl) })))
    (alone ts there trans (next worker.at_6 applied) (only_next ts there worker.at_6 applied refl known_voted) refl)
    ((refl, refl), tt) (tt, (tt, ((1, stamp, refl, refl, refl), tt))) tt (refl, refl) tt

pub applies_and_says : IsLawful (new 2) (voted ++ applied ∷ [])
applies_and_says = worker.voted_then (applied ∷ []) (is_applied, tt)
