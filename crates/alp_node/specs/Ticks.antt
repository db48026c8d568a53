-- What a server says again at a tick.
use Rattle.std.specs.Prelude.{◌≡◌, true, List, ◌++◌, flat_map, map as list_map}
use Rattle.std.specs.List.Sorted.{IsPermutation}
use Rattle.alp_journal.specs.declared.act.Act.{Act}
use Rattle.alp_journal.specs.declared.act.Act.TheVariants as act
use Rattle.alp_journal.specs.declared.message.Envelope.{Envelope}
use Rattle.alp_journal.specs.Messages.{register_again, inquire_again, to_others, are_in_order}
use Rattle.alp_journal.specs.State.{State}
use Rattle.alp_coord.specs.Coordinators.{server_of, enveloped, to_run, asks_of, commits_of}
use Rattle.alp_worker.specs.Again.{mails, registers_in, inquiries_in}
use Rattle.alp_worker.specs.Joins.{AreJoinsOf}
use Rattle.alp_node.specs.declared.server_state.ServerState.{ServerState}

-- these messages are said
abbrev pub said_all : List Envelope → List Act
said_all es = list_map (λ (e : Envelope). act.Sent e.to e.message) es

-- of its own transactions: parts that did not vote are asked, and parts that did not apply a decision are told
abbrev pub asked_again : {V : Type 0} → ServerState V → List Envelope
asked_again k = list_map enveloped (to_run (server_of k.coordinator) k.servers (asks_of k.coordinator))

abbrev pub decided_again : {V : Type 0} → ServerState V → List Envelope
decided_again k = list_map enveloped (to_run (server_of k.coordinator) k.servers (commits_of k.coordinator))

-- the registers of its joins, then the asks, then the commits, then the inquiries of its joins, each kind by transactions
pub record AreSaidAgain {V : Type 0} (k : ServerState V) (acts : List Act) : Type 0 where
  pub registers : List Envelope
  pub inquiries : List Envelope
  pub said : acts ≡ said_all ((registers ++ asked_again k) ++ decided_again k) ++ said_all inquiries
  pub registers_all : IsPermutation (registers_in k.servers k.joins.server k.joins.lives) registers
  pub registers_order : are_in_order (mails registers) ≡ true
  pub registers_told : (s : State) → AreJoinsOf s k.joins → s.servers ≡ k.servers → IsPermutation (to_others s (flat_map (λ j. register_again j (s.phases j)) s.joined)) (mails registers)
  pub inquiries_all : IsPermutation (inquiries_in k.servers k.joins.server k.joins.lives) inquiries
  pub inquiries_order : are_in_order (mails inquiries) ≡ true
  pub inquiries_told : (s : State) → AreJoinsOf s k.joins → s.servers ≡ k.servers → IsPermutation (to_others s (flat_map (λ j. inquire_again j (s.phases j)) s.joined)) (mails inquiries)
