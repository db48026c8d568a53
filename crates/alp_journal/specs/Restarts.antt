-- What a restart leaves of a server.
use Rattle.std.specs.Prelude.{ℕ, ◌+◌, max, false, List, [], ◌∷◌, None, Some, if◌then◌else◌}
use Rattle.std.specs.FinMap.Entries.{put}
use Rattle.alp_base.specs.declared.ids.JoinNo.{JoinNo}
use Rattle.alp_base.specs.declared.ids.Stamp.{Stamp}
use Rattle.alp_base.specs.declared.ids.TransId.{TransId}
use Rattle.alp_files.specs.Edits.{edits_map}
use Rattle.alp_journal.specs.declared.act.Act.TheVariants as act
use Rattle.alp_journal.specs.declared.event.Event.TheVariants as event
use Rattle.alp_journal.specs.declared.entry.Entry.{Entry}
use Rattle.alp_journal.specs.Ids.{same_trans, same_join, stamp_cmp}
use Rattle.alp_journal.specs.Coordinator.{Committed, Forgotten}
use Rattle.alp_journal.specs.Coordinator as fate
use Rattle.alp_journal.specs.Participant as phase
use Rattle.alp_journal.specs.Holder.{Life, with_life, in_history, if_ready}
use Rattle.alp_journal.specs.Counts.{kept_locks}
use Rattle.alp_journal.specs.Account.{Account}

-- the entry of one that finds this clock, these joins ready and these decisions standing
abbrev pub restart_entry : Account → ℕ → List JoinNo → List Stamp → Entry
restart_entry a clock ready stamps = record { event = event.Restart; reply = None; acts = act.Regained (a.ids.epoch + 1) clock ready stamps ∷ [] }

-- The next epoch begins at this clock, and in it no id was given. Nobody has a session or a call that waits, nobody is to be told
-- of a part's end, and what ran is lost, but for the parts that voted, and their locks. Cells, decisions and the ids of files stay.
abbrev pub restarted_at : Account → ℕ → Account
restarted_at a clock = record a {
  ids = record { epoch = a.ids.epoch + 1; transactions = 0; joins = 0; files = 0 };
  holder = record a.holder { clock = clock; kept = clock; lives = λ t. if_ready (a.holder.lives t) };
  fates = λ t. fate.restarted (a.ids.epoch + 1) (a.fates t);
  phases = λ j. phase.restarted (a.phases j);
  sessions = λ c. None;
  waits = [];
  dead = λ c t. None;
  locked = λ t. kept_locks (a.holder.lives t) (a.locked t);
  is_down = false;
  pending = [];
}

-- where nothing is found made of what was tried
abbrev pub restarted : Account → Account
restarted a = restarted_at a a.holder.kept

-- the part's intents are cells, and the transaction is decided for these joins
abbrev pub with_decided : Account → Stamp → Life → List JoinNo → Account
with_decided a stamp l joins = record a {
  holder = with_life (record a.holder {
    cells = edits_map l.edits a.holder.cells;
    applied = put stamp_cmp stamp (record { stamp = stamp; who = l.who; calls = l.calls }) a.holder.applied;
    left = put stamp_cmp stamp l.edits a.holder.left;
  }) stamp.trans None;
  fates = λ t. if same_trans stamp.trans t then Committed stamp joins [] else a.fates t;
}

-- where this part's commit at this stamp is found made
abbrev pub restarted_with : Account → Stamp → Life → List JoinNo → Account
restarted_with a stamp l joins = restarted_at (with_decided a stamp l joins) stamp.ts

-- the part of this join has voted for this time
abbrev pub with_vote_of : Account → JoinNo → TransId → (ts : ℕ) → Life → Account
with_vote_of a j t ts l = record a {
  holder = with_life a.holder t (Some (record l { vote = Some ts }));
  phases = λ k. if same_join j k then phase.readied ts (a.phases k) else a.phases k;
}

-- where its vote is found made
abbrev pub restarted_ready : Account → JoinNo → TransId → (ts : ℕ) → Life → Account
restarted_ready a j t ts l = restarted_at (with_vote_of a j t ts l) a.holder.kept

-- the part of this join is applied at this stamp, and gone
abbrev pub with_applied : Account → JoinNo → Stamp → Life → Account
with_applied a j stamp l = record a {
  holder = with_life (record a.holder {
    cells = edits_map l.edits a.holder.cells;
    applied = in_history stamp l a.holder.applied;
    left = if l.is_early then a.holder.left else put stamp_cmp stamp l.edits a.holder.left;
  }) stamp.trans None;
  phases = λ k. if same_join j k then phase.applied stamp (a.phases k) else a.phases k;
}

-- where it is found applied
abbrev pub restarted_applied : Account → JoinNo → Stamp → Life → Account
restarted_applied a j stamp l = restarted_at (with_applied a j stamp l) (max a.holder.clock stamp.ts)

-- the decision is forgotten
abbrev pub with_forgotten : Account → TransId → Stamp → List JoinNo → Account
with_forgotten a t stamp joins = record a { fates = λ u. if same_trans t u then Forgotten stamp joins else a.fates u }

-- where it is found forgotten
abbrev pub restarted_forgotten : Account → TransId → Stamp → List JoinNo → Account
restarted_forgotten a t stamp joins = restarted_at (with_forgotten a t stamp joins) a.holder.kept

-- the join that had voted is over, and its part gone
abbrev pub with_aborted : Account → JoinNo → TransId → Account
with_aborted a j t = record a {
  holder = with_life a.holder t None;
  phases = λ k. if same_join j k then phase.aborted t (a.phases k) else a.phases k;
}

-- where it is found ended
abbrev pub restarted_aborted : Account → JoinNo → TransId → Account
restarted_aborted a j t = restarted_at (with_aborted a j t) a.holder.kept
