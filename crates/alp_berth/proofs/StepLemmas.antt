-- what a step of a berth is to workers and carriers
use Rattle.std.specs.Prelude.{max, Bool, true, false, Option, Some, IfSome, drop}
use Rattle.std.specs.List.{list_any}
use Rattle.std.proofs.Common.{inl, inr, ◌⊎◌, ◌≡◌, ℕ, ◌+◌, ◌<◌, ◌≤◌, ◌^◌, List, [], ◌∷◌, ◌++◌, length, refl, sym, ap, ◌∙◌, subst, arith}
use Rattle.alp_journal.specs.Answered.{entries_limit}
use Rattle.alp_journal.specs.Moves.{stops}
use Rattle.alp_journal.specs.declared.event.Event.{Event}
use Rattle.alp_journal.specs.declared.event.Event.TheVariants as event
use Rattle.alp_journal.specs.declared.message.Message.{Message}
use Rattle.alp_files.specs.declared.reply.Reply.{Reply}
use Rattle.alp_rpc.specs.Replies as replies
use Rattle.alp_vault.specs.declared.vault.Vault.{Ghosts}
use Rattle.alp_carrier.specs.Sights.{Arrival, Arrives, next_rank}
use Rattle.alp_storm.specs.Logs.{Log, shows_fault, has_failed, IsMadeOf, HasAnswered, HasFailed}
use Rattle.alp_storm.specs.declared.host.Answer.{Answer}
use Rattle.alp_berth.specs.BerthStates.{BerthState}
use Rattle.alp_berth.specs.Berths.{ranked, last_in, last_of, since_of, entries_of, arrival_of, log_of, sight_of, IsBerth, rank_after, HasStepped}
use Rattle.alp_berth.specs.declared.made.Made.{Made}
use Rattle.alp_berth.specs.declared.made.Ranked.{Ranked}
use Rattle.alp_berth.proofs.EntryLemmas.{last_all, one_further, entries_long}

abbrev arrival_at : ℕ → Message → ℕ → Option Arrival
arrival_at from m n = Some (record { from = from; message = m; rank = n })

max_zero : (n : ℕ) → max n 0 + 1 ≡ n + 1
max_zero n = omega arith

module _ {V : Type 0} (G : Ghosts V) (old new : BerthState V) (h : IsBerth G old.made old.node old.ranks) (e : Event) (seen : ℕ) (r : Option Reply) (s : HasStepped G old new e seen r) where
  abbrev one : Ranked
  one = record { entry = s.entry; rank = rank_after old.ranks seen }

  pub entries_more : entries_of new ≡ entries_of old ++ one ∷ []
  entries_more =
      ap (λ (m : Made V). ranked (drop (length m.node.value.journal) new.node.journal) (drop (length m.node.value.journal) new.ranks)) s.made
      ∙ one_further G old.made old.node old.ranks h s.entry (rank_after old.ranks seen) new.node.journal new.ranks s.journal s.ranks

  rank_is : rank_after old.ranks seen ≡ max (last_of old.made (entries_of old)) seen + 1
  rank_is = ap (λ n. max n seen + 1) (sym (last_all G old.made old.node old.ranks h))

  -- a message came by it
  pub arrives : (from : ℕ) (m : Message) → e ≡ event.Arrive from m → Arrives sight_of old.made from m seen (entries_of old) (entries_of new)
  arrives from m is =
      inl (
        one,
        entries_more,
        ap (λ (x : Event). arrival_of (rank_after old.ranks seen) x) (s.event_is ∙ is)
            ∙ ap (arrival_at from m) rank_is,
      )

  module _ (zero_is : seen ≡ 0) (few : length (entries_of old) < 2 ^ 62) (room : since_of old.made + length (entries_of old) < entries_limit) (quiet : list_any (λ (x : Ranked). stops x.entry) (entries_of old) ≡ false) where
    pub made_of_it : IsMadeOf log_of old.made (entries_of old) e one
    made_of_it = record { event_is = s.event_is; room = room; up = quiet; rank_is = rank_is ∙ (ap (λ n. max (last_of old.made (entries_of old)) n + 1) zero_is ∙ max_zero (last_of old.made (entries_of old))) }

    -- it answered
    pub answers : (a : Answer) → a.reply ≡ r → a.place ≡ since_of old.made + length (entries_of old) → a.epoch ≡ old.made.node.value.kept.epoch → shows_fault s.entry ≡ false → HasAnswered log_of old.made (entries_of old) (entries_of new) e a
    answers a reply place epoch calm = record {
      entry = one;
      made = made_of_it;
      now_is = entries_more;
      few = few;
      reply_is = s.reply_is ∙ sym reply;
      calm = calm;
      place_is = place;
      epoch_is = epoch;
      sendable = subst (λ (x : Option Reply). IfSome x replies.IsSendable) (sym reply) s.sendable;
    }

    -- its device failed in it
    pub fails : shows_fault s.entry ≡ true → HasFailed log_of old.made (entries_of old) (entries_of new) e
    fails shows = record { entry = one; made = made_of_it; now_is = entries_more; few = few; shows = shows }
