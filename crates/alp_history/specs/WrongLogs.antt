-- Logs that differ from the right one in one place, and so do not keep to what the theorems ask: three whose messages are linked,
-- but a journal is not lawful, and two whose journals are lawful, but a message is not linked.
use Rattle.std.specs.Prelude.{◌≡◌, ℕ, suc, take, codes, List, [], ◌∷◌, ◌++◌, None, Some}
use Rattle.alp_base.specs.declared.key.Key.{Key}
use Rattle.alp_base.specs.declared.key.Key.TheVariants.{OwnerOf}
use Rattle.alp_modes.specs.declared.Mode.TheVariants.{Read, Write}
use Rattle.alp_files.specs.declared.refusal.Cause.TheVariants as cause
use Rattle.alp_journal.specs.declared.act.Act.TheVariants as act
use Rattle.alp_journal.specs.declared.message.Message.TheVariants as msg
use Rattle.alp_journal.specs.declared.entry.Entry.{Entry}
use Rattle.alp_journal.specs.Laws.{IsLawful}
use Rattle.alp_history.specs.Theorems.{HasCommitted, mode_at}
use Rattle.alp_history.specs.Log.{Log, opening_of, journal_of, AreDifferent, AreSoundOpenings, AreLawful, IsLinked}
use Rattle.alp_history.specs.Examples.{trans, join, stamp, arrives}
use Rattle.alp_history.specs.RightLog.{second, second_join, second_stamp, ranks_one, ranks_two, runs, both, nothing, one_with, one_decides, one_votes, one, two_votes, two_applies, two_decides, two_ends, two_with, two}

abbrev pub the_owner : Key
the_owner = OwnerOf (codes "ann")

-- ---- two transactions in opposite orders on two servers

-- Server 2 applies the first transaction, which changes the owner there, only after it gave the second one its lock on the owner
-- and decided it. On server 1 the second one reads what the first one left.
abbrev pub two_crossed : List Entry
two_crossed = two_votes ++ (two_decides ++ (two_applies ∷ two_ends))

abbrev pub ranks_crossed : List ℕ
ranks_crossed = 4 ∷ 5 ∷ 7 ∷ 8 ∷ 9 ∷ 11 ∷ 12 ∷ 18 ∷ 19 ∷ 20 ∷ 23 ∷ 27 ∷ 29 ∷ 30 ∷ 31 ∷ 33 ∷ 35 ∷ []

abbrev pub crossed : Log
crossed = both nothing (runs 1 ranks_one one) (runs 2 ranks_crossed two_crossed)

-- both are decided; on server 1 the first one's lock on the owner ends before the second one's, and on server 2 behind it
pub record AreOpposite : Type 0 where
  pub first_decided : HasCommitted crossed 1 stamp (join ∷ [])
  pub second_decided : HasCommitted crossed 2 second_stamp (second_join ∷ [])
  pub first_at_one : (mode_at crossed 1 5 trans the_owner ≡ Some Write) × (mode_at crossed 1 6 trans the_owner ≡ None)
  pub second_at_one : (mode_at crossed 1 15 second the_owner ≡ Some Read) × (mode_at crossed 1 16 second the_owner ≡ None)
  pub second_at_two : (mode_at crossed 2 12 second the_owner ≡ Some Write) × (mode_at crossed 2 13 second the_owner ≡ None)
  pub first_at_two : (mode_at crossed 2 13 trans the_owner ≡ Some Write) × (mode_at crossed 2 14 trans the_owner ≡ None)

-- ---- a part applied without its decision

-- server 1 tells the commit, and decided nothing
abbrev pub one_tells : Entry
one_tells = arrives 2 (msg.Ready trans join 1) (act.Released trans ∷ act.Sent 2 (msg.Commit trans join stamp) ∷ [])

abbrev pub undecided : Log
undecided = both nothing (runs 1 ranks_one (one_with one_tells one_votes)) (runs 2 ranks_two two)

-- ---- a read lock let go at the vote

abbrev pub one_lets_go : Entry
one_lets_go = arrives 2 (msg.Ask second second_join) (act.Readied second second_join 2 ∷ act.Released second ∷ act.Sent 2 (msg.Ready second second_join 2) ∷ [])

abbrev pub unlocked : Log
unlocked = both nothing (runs 1 ranks_one (one_with one_decides one_lets_go)) (runs 2 ranks_two two)

-- ---- a message that nobody sent

-- where the commit of the first transaction came there comes an abort: server 2 drops a part that server 1 committed
abbrev pub two_drops : Entry
two_drops = arrives 1 (msg.Abort trans join cause.Asked) (act.Released trans ∷ [])

abbrev pub forged : Log
forged = both nothing (runs 1 ranks_one one) (runs 2 ranks_two (two_with two_drops))

-- ---- a message that arrives before it was sent

-- server 1 lets the first join in at rank 8, and server 2 hears of it at rank 7
abbrev pub ranks_late : List ℕ
ranks_late = 1 ∷ 2 ∷ 3 ∷ 8 ∷ 10 ∷ 13 ∷ 14 ∷ 15 ∷ 20 ∷ 21 ∷ 22 ∷ 24 ∷ 25 ∷ 26 ∷ 28 ∷ 30 ∷ 32 ∷ 33 ∷ 34 ∷ 35 ∷ 36 ∷ 37 ∷ []

abbrev pub hurried : Log
hurried = both nothing (runs 1 ranks_late one) (runs 2 ranks_two two)

-- ---- all of them

-- all is right but that the journal of one server is not lawful: it is so up to this entry, and not with it
pub record LacksLaws (log : Log) (n i : ℕ) : Type 0 where
  pub different : AreDifferent log
  pub sound : AreSoundOpenings log
  pub linked : IsLinked log
  pub others : (m : ℕ) → (m ≡ n → ⊥) → IsLawful (opening_of log m) (journal_of log m)
  pub up_to : IsLawful (opening_of log n) (take i (journal_of log n))
  pub there : IsLawful (opening_of log n) (take (suc i) (journal_of log n)) → ⊥

-- all is right but that a message is not linked
pub record LacksLinks (log : Log) : Type 0 where
  pub different : AreDifferent log
  pub sound : AreSoundOpenings log
  pub lawful : AreLawful log
  pub unlinked : IsLinked log → ⊥

pub record AreWrong : Type 0 where
  -- the second transaction is granted its lock on the owner; the commit is told; the vote lets go
  pub opposite_orders : AreOpposite × LacksLaws crossed 2 9
  pub no_decision : LacksLaws undecided 1 5
  pub early_release : LacksLaws unlocked 1 14
  pub nobody_sent : LacksLinks forged
  pub before_it_was_sent : LacksLinks hurried
