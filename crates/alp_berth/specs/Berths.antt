-- What a berth is.
use Rattle.std.specs.Prelude.{◌≡◌, ◌⊎◌, ℕ, ◌+◌, ◌<◌, ◌≤◌, ◌^◌, max, Bool, true, false, List, [], ◌∷◌, ◌++◌, length, drop, map, Option, None, Some, IfSome}
use Rattle.std.specs.List.{list_any}
use Rattle.std.proofs.Common.{refl, sym, ap, ◌∙◌}
use mathlib.Core.List.{IsPrefix, append_assoc}
use Rattle.alp_base.specs.declared.allowance.Allowance.TheVariants.{Free}
use Rattle.alp_files.specs.declared.reply.Reply.{Reply}
use Rattle.alp_rpc.specs.Replies as replies
use Rattle.alp_journal.specs.Answered.{entries_limit}
use Rattle.alp_journal.specs.Desk.{Session}
use Rattle.alp_journal.specs.Moves.{stops}
use Rattle.alp_journal.specs.Timely.{IsTimelyMessage}
use Rattle.alp_journal.specs.declared.entry.Entry.{Entry}
use Rattle.alp_journal.specs.declared.event.Event.{Event}
use Rattle.alp_journal.specs.declared.event.Event.TheVariants as event
use Rattle.alp_journal.specs.declared.message.Envelope.{Envelope}
use Rattle.alp_journal.specs.declared.message.Message.{Message}
use Rattle.alp_vault.specs.Vault.{IsSameVault}
use Rattle.alp_vault.specs.declared.vault.Vault.{Ghosts}
use Rattle.alp_node.specs.NodeStates.{NodeState}
use Rattle.alp_node.specs.Sessions.{session_at}
use Rattle.alp_node.specs.declared.server_state.ServerState.{ServerState}
use Rattle.alp_carrier.specs.Sights.{Arrival, Sight}
use Rattle.alp_storm.specs.Logs.{Log, shows_fault}
use Rattle.alp_berth.specs.Sends.{sent_by, counts_from, count_in, capped}
use Rattle.alp_berth.specs.BerthStates.{BerthState}
use Rattle.alp_berth.specs.declared.made.Made.{Made}
use Rattle.alp_berth.specs.declared.made.Ranked.{Ranked}

-- ---- entries with their ranks

-- each entry with its rank
abbrev pub ranked : List Entry → List ℕ → List Ranked
ranked [] rs = []
ranked (e ∷ es) [] = []
ranked (e ∷ es) (r ∷ rs) = record { entry = e; rank = r } ∷ ranked es rs

abbrev pub entry_of : Ranked → Entry
entry_of x = x.entry

abbrev pub rank_of : Ranked → ℕ
rank_of x = x.rank

-- the last rank, or 0
abbrev pub last_in : List ℕ → ℕ
last_in [] = 0
last_in (r ∷ []) = r
last_in (r ∷ s ∷ rs) = last_in (s ∷ rs)

-- each is above the one before
abbrev pub AreRising : ℕ → List ℕ → Type 0
AreRising low [] = Unit {0}
AreRising low (r ∷ rs) = (low < r) × AreRising r rs

-- with its rank
abbrev pub sent_as : ℕ → Envelope → ℕ × Envelope
sent_as rank x = (rank, x)

-- the messages that these entries sent, in order, each with the rank of its entry
abbrev pub sent_ranked : List Ranked → List (ℕ × Envelope)
sent_ranked [] = []
sent_ranked (x ∷ xs) = map (sent_as x.rank) (sent_by x.entry.acts) ++ sent_ranked xs

sent_both : (xs ys : List Ranked) → sent_ranked (xs ++ ys) ≡ sent_ranked xs ++ sent_ranked ys
sent_both [] ys = refl
sent_both (x ∷ xs) ys = ap (λ l. map (sent_as x.rank) (sent_by x.entry.acts) ++ l) (sent_both xs ys) ∙ sym (append_assoc (map (sent_as x.rank) (sent_by x.entry.acts)) (sent_ranked xs) (sent_ranked ys))

-- what the first of these sent begins what all of them sent
pub sent_stays : (all xs ys : List Ranked) → IsPrefix (sent_ranked (all ++ xs)) (sent_ranked (all ++ (xs ++ ys)))
sent_stays all xs ys = (sent_ranked ys, sym (sent_both (all ++ xs) ys) ∙ ap sent_ranked (append_assoc all xs ys))

-- the message that an entry of that rank brought
abbrev pub arrival_of : ℕ → Event → Option Arrival
arrival_of rank (event.Arrive from m) = Some (record { from = from; message = m; rank = rank })
arrival_of rank e = None

-- ---- what others see

module _ {V : Type 0} where
  -- all entries that stood when it was made, with their ranks
  abbrev pub stood : Made V → List Ranked
  stood b = ranked b.node.value.journal b.ranks.value.items

  abbrev pub since_of : Made V → ℕ
  since_of b = length b.node.value.journal

  abbrev pub last_of : Made V → List Ranked → ℕ
  last_of b es = last_in (b.ranks.value.items ++ map rank_of es)

  -- one of these stopped it, or its journal is full
  abbrev pub IsShut : Made V → List Ranked → Type 0
  IsShut b es = (list_any (λ x. stops x.entry) es ≡ true) ⊎ (entries_limit ≤ since_of b + length es)

  abbrev pub made_of : BerthState V → Made V
  made_of b = b.made

  -- the further entries, each with its rank
  abbrev pub entries_of : BerthState V → List Ranked
  entries_of b = ranked (drop (length b.made.node.value.journal) b.node.journal) (drop (length b.made.node.value.journal) b.ranks)

  -- what workers see of it
  abbrev pub log_of : Log (Made V) Ranked
  log_of = record {
    entry = entry_of;
    rank = rank_of;
    last = last_of;
    since = since_of;
    server = λ b. b.node.value.kept.server;
    epoch = λ b. b.node.value.kept.epoch;
  }

  -- what carriers see of it
  abbrev pub sight_of : Sight (Made V) Ranked
  sight_of = record {
    sent = λ b es. sent_ranked (stood b ++ es);
    arrived = λ x. arrival_of x.rank x.entry.event;
    last = last_of;
    is_shut = IsShut;
    is_starved = λ b es from m. Unit {0};
    is_timely = IsTimelyMessage;
    stays = λ b es more. sent_stays (stood b) es more;
  }

-- ---- what holds of each berth

-- the entries beyond those that stood when it was made
abbrev pub further_of : {V : Type 0} → Made V → NodeState V → List Entry
further_of made n = drop (length made.node.value.journal) n.journal

-- the replies that sessions keep have frames, while the server is up
abbrev pub AreSendable : {V : Type 0} → ServerState V → Type 0
AreSendable k = (client : ℕ) (w : Session) → session_at k.sessions client ≡ Some w → replies.IsSendable w.reply

-- It is the same server of the same run, on the same vault.
pub record IsSameServer {V : Type 0} (G : Ghosts V) (old new : ServerState V) : Type 0 where
  pub server : new.server ≡ old.server
  pub servers : new.servers ≡ old.servers
  pub sizes : new.sizes ≡ old.sizes
  pub epoch : new.epoch ≡ old.epoch
  pub same : IsSameVault G.tells G.volume G.server G.servers old.vault new.vault

-- Its journal and its ranks go on from those that stood when it was made, and it has no more entries than it may have. It is the same server, whose count of faults did not fall, and
-- whose vault nobody stops. While no further entry shows that the device failed, the count stayed, and the server is up.
pub record IsBerth {V : Type 0} (G : Ghosts V) (made : Made V) (n : NodeState V) (ranks : List ℕ) : Type 0 where
  pub journal : IsPrefix made.node.value.journal n.journal
  pub ranks_are : IsPrefix made.ranks.value.items ranks
  pub stood_long : length made.ranks.value.items ≡ length made.node.value.journal
  pub long : length ranks ≡ length n.journal
  pub room : length n.journal ≤ entries_limit
  pub rising : AreRising 0 ranks
  pub bounded : last_in ranks ≤ 2 ^ 62 + length ranks
  pub opening : n.opening ≡ made.node.value.opening
  pub seat : IsSameServer G made.node.value.kept n.kept
  pub later : G.faults made.node.value.kept.vault ≤ G.faults n.kept.vault
  pub free : G.allowance n.kept.vault ≡ Free
  pub calm : list_any shows_fault (further_of made n) ≡ false → G.faults n.kept.vault ≡ G.faults made.node.value.kept.vault
  pub down : n.kept.is_down ≡ list_any stops (further_of made n)
  pub halted : n.kept.is_down ≡ true → list_any shows_fault (further_of made n) ≡ true
  pub sendable : n.kept.is_down ≡ false → AreSendable n.kept

-- how many messages were sent before each entry is counted, and how many there are
pub record AreCounted (since : ℕ) (counts : List ℕ) (all first : ℕ) (journal : List Entry) : Type 0 where
  pub since_is : since ≡ first
  pub counts_are : counts ≡ counts_from 0 journal
  pub all_is : all ≡ capped (count_in journal)

-- all that holds of a berth, with what it counts
pub record IsSound {V : Type 0} (G : Ghosts V) (made : Made V) (n : NodeState V) (ranks : List ℕ) (since : ℕ) (counts : List ℕ) (all : ℕ) : Type 0 where
  pub berth : IsBerth G made n ranks
  pub counted : AreCounted since counts all (length made.node.value.journal) n.journal

abbrev pub IsBerthState : {V : Type 0} → Ghosts V → BerthState V → Type 0
IsBerthState G b = IsBerth G b.made b.node b.ranks

-- ---- one step

-- a server that may get a berth, with these ranks of its entries
pub record MayBerth {V : Type 0} (G : Ghosts V) (n : NodeState V) (ranks : List ℕ) : Type 0 where
  pub up : n.kept.is_down ≡ false
  pub free : G.allowance n.kept.vault ≡ Free
  pub long : length ranks ≡ length n.journal
  pub room : length n.journal ≤ entries_limit
  pub rising : AreRising 0 ranks
  pub bounded : last_in ranks ≤ 2 ^ 62 + length ranks
  pub sendable : AreSendable n.kept

-- the rank of an entry that saw that one
abbrev pub rank_after : List ℕ → ℕ → ℕ
rank_after ranks seen = max (last_in ranks) seen + 1

-- It took one step, by an entry of this event with this reply, whose rank is above the last one and the one that was seen.
pub record HasStepped {V : Type 0} (G : Ghosts V) (old new : BerthState V) (e : Event) (seen : ℕ) (r : Option Reply) : Type 0 where
  pub made : new.made ≡ old.made
  pub entry : Entry
  pub event_is : entry.event ≡ e
  pub reply_is : entry.reply ≡ r
  pub journal : new.node.journal ≡ old.node.journal ++ entry ∷ []
  pub ranks : new.ranks ≡ old.ranks ++ rank_after old.ranks seen ∷ []
  pub sendable : IfSome r replies.IsSendable

-- it took none
pub record IsUnstepped {V : Type 0} (old new : BerthState V) : Type 0 where
  pub made : new.made ≡ old.made
  pub journal : new.node.journal ≡ old.node.journal
  pub ranks : new.ranks ≡ old.ranks
