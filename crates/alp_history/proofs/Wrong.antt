-- what each wrong journal breaks
use Rattle.std.specs.Prelude.{ℕ, true, false, Option, None, Some}
use Rattle.std.proofs.Common.{◌≡◌, List, [], ◌∷◌, ◌++◌, drop, refl, sym, ap, ◌∙◌, arith, inl, inr}
use Rattle.alp_base.specs.declared.ids.FileId.{FileId}
use Rattle.alp_base.specs.declared.ids.JoinNo.{JoinNo}
use Rattle.alp_base.specs.declared.ids.TransId.{TransId}
use Rattle.alp_files.specs.declared.reply.Reply.{Reply}
use Rattle.alp_files.specs.declared.reply.Reply.TheVariants as reply
use Rattle.alp_files.specs.declared.reply.Ended.TheVariants as ending
use Rattle.alp_files.specs.declared.refusal.Refusal.TheVariants as refusal
use Rattle.alp_files.specs.declared.refusal.Cause.TheVariants as cause
use Rattle.alp_journal.specs.declared.act.Act.TheVariants as act
use Rattle.alp_journal.specs.declared.message.Message.TheVariants as msg
use Rattle.alp_journal.specs.declared.entry.Entry.{Entry}
use Rattle.alp_journal.specs.Along.{Along, state_after}
use Rattle.alp_journal.specs.Ids.{has_join, has_server}
use Rattle.alp_journal.specs.Coordinator.{Fate, Committed, has_all, joins_of, votes_in}
use Rattle.alp_journal.specs.State.{State, opened}
use Rattle.alp_journal.specs.Moves.{next}
use Rattle.alp_journal.specs.Laws.{IsLawful, IsLawfulEntry, latest_vote}
use Rattle.alp_journal.specs.Answered.{IsAnswered, IsAnsweredSo}
use Rattle.alp_history.specs.RightLog.{opening, ticks}
use Rattle.alp_history.specs.Examples.{trans, join, new, first_up, worker_up, restarts, stamp}
use Rattle.alp_history.proofs.Worked.{life_at}
use Rattle.alp_history.proofs.Named.{Only, only_after, alone_other}
use Rattle.alp_history.proofs.Steps.{lives_there}
use Rattle.alp_history.specs.WrongJournals.{AreRefused, hello, begun, second_trans, later_file, begins_as, creates, votes_and_decides, of_three, two_joins, votes, decides_both, one_voted, all_voted, second_join, one_registered, registers_again, committed, acknowledged, inquires, decides_at, votes_for, hears_commit, voted, reads_bob, made, one_waits, ends, comes_again, started_again, goes_on, decides_for, applies, says_done, committed_alone, hears_done, greets_again, cut_off, cut_alone, asks_how, ended_alone, greeted_again, third_trans, two_wait, of_client, with_file, page_waits, gives_page, stops_idly}
use Rattle.alp_history.proofs.RightNeighbours as right
use Rattle.alp_history.proofs.WaitsTwo as turns
use Rattle.alp_history.proofs.WaitsPage as pages

-- the last entry of a lawful journal is lawful in the state before it
last : (s : State) (es : List Entry) (e : Entry) → Along next IsLawfulEntry s (es ++ e ∷ []) → IsLawfulEntry (state_after next s es) e
last s [] e h = h.0
last s (x ∷ es) e h = last (next s x) es e h.1

some-none : (n : ℕ) → Some n ≡ None → ⊥
some-none n h = cc

skipped : IsLawful (new 1) (hello ∷ begins_as second_trans ∷ []) → ⊥
skipped h = let wrong : 2 ≡ 1 = ap (λ (t : TransId). t.counter) ((last _ (hello ∷ []) _ h).deeds.0.counts) in omega (arith, wrong)

epoch : IsLawful (opening 1) (begun ++ creates later_file ∷ []) → ⊥
epoch h = let wrong : 2 ≡ 1 = ap (λ (f : FileId). f.epoch) ((last _ begun _ h).deeds.1.0.counts later_file refl) in omega (arith, wrong)

below : IsLawful (new 1) (first_up ++ votes_and_decides 5 4 ∷ []) → ⊥
below h =
    let m = (last _ first_up _ h).deeds.1.0.decision in
    let voted_so : (join, 5) ∷ [] ≡ m.votes = ap votes_in m.finishing in
    let wrong : 4 ≡ 5 = m.time ∙ ap (latest_vote 1) (sym voted_so) in
    omega (arith, wrong)

above : IsLawful (new 1) (first_up ++ votes_and_decides 5 6 ∷ []) → ⊥
above h =
    let m = (last _ first_up _ h).deeds.1.0.decision in
    let voted_so : (join, 5) ∷ [] ≡ m.votes = ap votes_in m.finishing in
    let wrong : 6 ≡ 5 = m.time ∙ ap (latest_vote 1) (sym voted_so) in
    omega (arith, wrong)

unvoted : IsLawful of_three (two_joins ++ votes 2 join decides_both ∷ []) → ⊥
unvoted h = let wrong : false ≡ true = (last _ two_joins _ h).deeds.1.0.decision.voted in cc

twice : IsLawful of_three (one_voted ++ votes 2 join decides_both ∷ []) → ⊥
twice h = let wrong : false ≡ true = (last _ one_voted _ h).deeds.1.0.decision.voted in cc

tick : IsLawful (new 1) (all_voted ++ ticks (decides_at 1) ∷ []) → ⊥
tick h = absurd ((last _ all_voted _ h).deeds.0.decision.asked)

second : IsLawful (new 1) (one_registered ++ registers_again (act.Registered trans second_join ∷ act.Sent 2 (msg.Joined trans second_join) ∷ []) ∷ []) → ⊥
second h =
    let m = (last _ one_registered _ h).deeds.0.registration in
    let joins : join ∷ [] ≡ m.joins = ap joins_of m.runs in
    let wrong : true ≡ false = ap (has_server 2) joins ∙ m.first in
    cc

joinless : IsLawful (new 1) (committed_alone ++ hears_done (act.Forgot trans ∷ []) ∷ []) → ⊥
joinless h =
    let m = (last _ committed_alone _ h).deeds.0.forgetting in
    let none : [] ≡ m.joins = ap joins_of m.committed in
    let wrong : false ≡ true = ap (has_join m.join) none ∙ m.its in
    cc

-- the joins that have said that they are done
abbrev done_in : Fate → List JoinNo
done_in (Committed x js ds) = ds
done_in f = []

late : IsLawful (new 1) (acknowledged ++ hears_done (act.Forgot trans ∷ []) ∷ []) → ⊥
late h =
    let m = (last _ acknowledged _ h).deeds.1.0.forgetting in
    let joins : join ∷ [] ≡ m.joins = ap joins_of m.committed in
    let before : join ∷ [] ≡ m.before = ap (λ (f : Fate). drop 1 (done_in f)) m.committed in
    let wrong : true ≡ false = ap (λ (js : List JoinNo). has_all js (join ∷ [])) before ∙ ap (has_all m.before) joins ∙ m.missing in
    cc

aborted : IsLawful (new 1) (committed ++ inquires (msg.Abort trans join cause.Asked) ∷ []) → ⊥
aborted h = absurd ((last _ committed _ h).said.0.1)

clock : IsLawful (new 2) (worker_up ++ votes_for 0 ∷ []) → ⊥
clock h = let wrong : 0 ≡ 1 = (last _ worker_up _ h).deeds.0.vote.time in omega (arith, wrong)

alive : IsLawful (new 2) (worker_up ++ hears_commit (act.Sent 1 (msg.Done trans join) ∷ []) ∷ []) → ⊥
alive h = let wrong : Some (trans, 1) ≡ None = (last _ worker_up _ h).said.0.4 in cc

astray : IsLawful (new 1) (first_up ++ decides_for 1 ∷ []) → ⊥
astray h = let wrong : false ≡ true = (last _ first_up _ h).sent in cc

early : IsLawful (new 2) (voted ++ applies (says_done ∷ act.Applied join stamp ∷ act.Released trans ∷ []) ∷ []) → ⊥
early h = let wrong : false ≡ true = (last _ voted _ h).sent in cc

late_grant : IsLawful (new 2) (voted ++ reads_bob (act.Granted trans ∷ []) ∷ []) → ⊥
late_grant h =
    let s : State = state_after next (opened (new 2)) voted in
    some-none 1 ((last _ voted _ h).deeds.0.locks.0 (life_at s trans) refl)

early_release : IsLawful (new 1) (made ++ ticks (act.Released trans ∷ []) ∷ []) → ⊥
early_release h = let wrong : true ≡ false = (last _ made _ h).deeds.0.locks.1.0 in cc

-- when the first part is gone no other holds what the one that waits asks for
abbrev first_ended : State
first_ended = state_after next (opened (new 1)) (one_waits ++ ends (act.Released trans ∷ []) ∷ [])

ended_known : Only (trans ∷ second_trans ∷ []) [] first_ended
ended_known = only_after (trans ∷ second_trans ∷ []) [] (one_waits ++ ends (act.Released trans ∷ []) ∷ []) (opened (new 1)) refl (record { lives = λ u k. refl; fates = λ u k. refl; phases = λ j k. refl })

waiter : IsLawful (new 1) (one_waits ++ ends (act.Released trans ∷ []) ∷ []) → ⊥
waiter h =
    (last _ one_waits _ h).released.1.0 refl (life_at first_ended second_trans) (lives_there first_ended second_trans refl) refl
    (λ u k e other. absurd (alone_other (trans ∷ second_trans ∷ []) [] second_trans first_ended ended_known refl u k e other))

repeat_grant : IsLawful (new 1) (made ++ comes_again reply.Plain (act.Granted trans ∷ []) ∷ []) → ⊥
repeat_grant h = let wrong : act.Granted trans ∷ [] ≡ [] = (last _ made _ h).sessions.1 in cc

repeat_reply : IsLawful (new 1) (made ++ comes_again (reply.Refused refusal.OwnerExists) [] ∷ []) → ⊥
repeat_reply h = let wrong : Some (reply.Refused refusal.OwnerExists) ≡ Some reply.Plain = (last _ made _ h).sessions.0 in cc

session : IsLawful (new 1) (started_again ++ goes_on (reply.Ended ending.Unknown) ∷ []) → ⊥
session h = let wrong : Some (reply.Ended ending.Unknown) ≡ Some (reply.Refused (refusal.StaleSession 2)) = (last _ started_again _ h).sessions.0 in cc

greeted : IsLawful (new 1) (started_again ++ greets_again 1 ∷ []) → ⊥
greeted h = let wrong : Some (reply.Welcome 1) ≡ Some (reply.Welcome 2) = (last _ started_again _ h).sessions in let no : 1 ≡ 2 = ap welcomed wrong in omega (arith, no)
  where
    welcomed : Option Reply → ℕ
    welcomed (Some (reply.Welcome n)) = n
    welcomed r = 0

unnamed : IsLawful (new 1) (cut_off ++ restarts 2 1 [] [] ∷ []) → ⊥
unnamed h = let wrong : false ≡ true = (last _ cut_off _ h).restart.0.1.decided stamp in cc

unmade : IsLawful (new 1) (cut_off ++ restarts 2 0 [] (stamp ∷ []) ∷ []) → ⊥
unmade h = let wrong : true ≡ false = (last _ cut_off _ h).restart.0.1.decided stamp in cc

named_alone : IsLawful (new 1) (cut_alone ++ restarts 2 1 [] (stamp ∷ []) ∷ []) → ⊥
named_alone h = let wrong : true ≡ false = (last _ cut_alone _ h).restart.0.1.decided stamp in cc

no_clock : IsLawful (new 1) (cut_alone ++ restarts 2 2 [] [] ∷ []) → ⊥
no_clock h = let wrong : 2 ≡ 1 = (last _ cut_alone _ h).restart.0.1.clock in omega (arith, wrong)

committed_so : IsLawful (new 1) (committed_alone ++ asks_how 1 4 ending.Aborted ∷ []) → ⊥
committed_so h = let wrong : ending.Aborted ≡ ending.Committed stamp = (last _ committed_alone _ h).told.1 in cc

aborted_so : IsLawful (new 1) (ended_alone ++ asks_how 1 4 ending.Unknown ∷ []) → ⊥
aborted_so h = let wrong : ending.Unknown ≡ ending.Aborted = (last _ ended_alone _ h).told.1 in cc

running_so : IsLawful (new 1) (begun ++ asks_how 1 3 ending.Unknown ∷ []) → ⊥
running_so h = let wrong : ending.Unknown ≡ ending.Running = (last _ begun _ h).told.1 in cc

unknown_so : IsLawful (new 1) (greeted_again ++ asks_how 2 2 ending.Aborted ∷ []) → ⊥
unknown_so h = let wrong : ending.Aborted ≡ ending.Unknown = (last _ greeted_again _ h).told.1 in cc

lost : IsLawful (new 2) (voted ++ restarts 2 0 [] [] ∷ []) → ⊥
lost h = let wrong : false ≡ true = (last _ voted _ h).restart.0.1.ready join in cc

named_twice : IsLawful (new 2) (voted ++ restarts 2 0 (join ∷ join ∷ []) [] ∷ []) → ⊥
named_twice h = let wrong : false ≡ true = (last _ voted _ h).restart.0.1.once in cc

-- the last entry of an answered journal has its cause
last_caused : (s : State) (es : List Entry) (e : Entry) → Along next IsAnsweredSo s (es ++ e ∷ []) → IsAnsweredSo (state_after next s es) e
last_caused s [] e h = h.0
last_caused s (x ∷ es) e h = last_caused (next s x) es e h.1

arrivals : IsAnswered (new 1) (two_wait ++ ends (act.Released trans ∷ act.Granted third_trans ∷ act.Granted second_trans ∷ []) ∷ []) → ⊥
arrivals h = turns.ungiven (last_caused _ two_wait _ h.0).1.turns

conversions : IsAnswered with_file (page_waits ++ gives_page (of_client 3) ∷ []) → ⊥
conversions h = pages.ungiven (last_caused _ page_waits _ h.0).1.turns

idle_stop : IsAnswered (new 1) (begun ++ stops_idly ∷ []) → ⊥
idle_stop h = elim (last_caused _ begun _ h.0).1.halted [ inl e ↦ (let wrong : false ≡ true = e.reaches in cc) | inr e ↦ (let wrong : false ≡ true = e.reaches in cc) ]

pub refused : AreRefused
refused = record {
  skipped = record { lawful = right.first_begins; unlawful = skipped };
  epoch = record { lawful = right.first_creates; unlawful = epoch };
  below = record { lawful = right.decides_for_the_vote; unlawful = below };
  above = record { lawful = right.decides_for_the_vote; unlawful = above };
  unvoted = record { lawful = right.counts_one_vote; unlawful = unvoted };
  twice = record { lawful = right.decides_with_both; unlawful = twice };
  tick = record { lawful = right.ticks_idly; unlawful = tick };
  second = record { lawful = right.refuses_a_second_join; unlawful = second };
  joinless = record { lawful = right.forgets_no_joinless; unlawful = joinless };
  late = record { lawful = right.forgets_nothing_late; unlawful = late };
  aborted = record { lawful = right.says_the_commit; unlawful = aborted };
  clock = record { lawful = right.votes_after_the_clock; unlawful = clock };
  alive = record { lawful = right.says_nothing_alive; unlawful = alive };
  astray = record { lawful = right.decides_and_says; unlawful = astray };
  early = record { lawful = right.applies_and_says; unlawful = early };
  late_grant = record { lawful = right.grants_nothing_more; unlawful = late_grant };
  early_release = record { lawful = right.keeps_what_lives; unlawful = early_release };
  waiter = record { lawful = right.grants_the_waiter; unlawful = waiter };
  arrivals = record { lawful = turns.lawful; given = turns.given; lawful_too = turns.lawful_too; ungiven = arrivals };
  conversions = record { lawful = pages.lawful; given = pages.given_so; lawful_too = pages.lawful_too; ungiven = conversions };
  repeat_grant = record { lawful = right.repeats_the_reply; unlawful = repeat_grant };
  repeat_reply = record { lawful = right.repeats_the_reply; unlawful = repeat_reply };
  session = record { lawful = right.ends_the_session; unlawful = session };
  greeted = record { lawful = right.begins_a_session; unlawful = greeted };
  unnamed = record { lawful = right.names_what_stands; unlawful = unnamed };
  unmade = record { lawful = right.names_none_lost; unlawful = unmade };
  named_alone = record { lawful = right.names_no_joinless; unlawful = named_alone };
  no_clock = record { lawful = right.finds_the_old_clock; unlawful = no_clock };
  committed_so = record { lawful = right.tells_the_commit; unlawful = committed_so };
  aborted_so = record { lawful = right.tells_the_abort; unlawful = aborted_so };
  running_so = record { lawful = right.tells_that_it_runs; unlawful = running_so };
  unknown_so = record { lawful = right.tells_nothing_known; unlawful = unknown_so };
  lost = record { lawful = right.finds_the_ready; unlawful = lost };
  named_twice = record { lawful = right.finds_the_ready; unlawful = named_twice };
  idle_stop = idle_stop;
}
