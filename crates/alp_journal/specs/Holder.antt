-- What a server holds: its committed cells, the parts that live there with their intents and locks, its clock, and the
-- transactions that it applied, in the order of their stamps.
use Rattle.std.specs.Prelude.{ℕ, max, Bool, true, false, List, [], ◌∷◌, ◌++◌, Option, None, Some, is_some, if◌then◌else◌}
use Rattle.std.specs.Option.{option_to_list}
use Rattle.std.specs.FinMap as map
use Rattle.std.specs.FinMap.Entries.{put}
use Rattle.alp_base.specs.declared.ids.FileId.{FileId}
use Rattle.alp_base.specs.declared.ids.JoinNo.{JoinNo}
use Rattle.alp_base.specs.declared.ids.TransId.{TransId}
use Rattle.alp_base.specs.declared.ids.Stamp.{Stamp}
use Rattle.alp_base.specs.declared.key.Key.{Key}
use Rattle.alp_files.specs.Holdings.{Holding, held_by}
use Rattle.alp_files.specs.declared.call.Call.{Call}
use Rattle.alp_files.specs.Cells.{Cells, View}
use Rattle.alp_files.specs.Edits.{Edit, edits_map}
use Rattle.alp_files.specs.Act.{Own, no_opens, Answer, Look, Ask, Say, program, answer, id_in}
use Rattle.alp_files.specs.History.{PerformedCall, Decided}
use Rattle.alp_files.specs.Locks.{needs_of, granted, with_made}
use Rattle.alp_journal.specs.Ids.{same_trans, same_join, stamp_cmp}
use Rattle.alp_journal.specs.Opening.{ReadyNote, Start}
use Rattle.alp_journal.specs.Deeds.{Deed, Begins, Enters, Aborts, Grants, Performs, Releases, Readies, Applies, Decides, Restarts}

-- A transaction's part that is live: whose it is, the file calls that it performed, its intents, its opens and its locks;
-- and the least time that its commit may get, once it voted for it. Of a part that an earlier run made ready nothing is
-- known but its intents and its locks. The part of another server's transaction has a join.
pub record Life : Type 0 where
  pub join : Option JoinNo
  pub client : ℕ
  pub who : List ℕ
  pub calls : List PerformedCall
  pub edits : List Edit
  pub own : Own
  pub held : Holding
  pub vote : Option ℕ
  pub is_early : Bool

-- `made` has the ids that files were given, and `kept` is the clock that a restart finds. `left` has what each transaction
-- of `applied` changed.
pub record Holder : Type 0 where
  pub server : ℕ
  pub clock : ℕ
  pub kept : ℕ
  pub cells : Cells
  pub lives : TransId → Option Life
  pub made : List FileId
  pub applied : List (Stamp × Decided)
  pub left : List (Stamp × List Edit)

-- nothing is locked
abbrev pub no_locks : Holding
no_locks r = None

-- a part at its begin
abbrev pub new_life : Option JoinNo → ℕ → List ℕ → Life
new_life join client who = record { join = join; client = client; who = who; calls = []; edits = []; own = no_opens; held = no_locks; vote = None; is_early = false }

-- what a part sees: the committed cells with its own changes
abbrev pub view_in : Holder → Life → View
view_in s l = map.get (edits_map l.edits s.cells)

-- what a thread would be answered that is where the part is
abbrev pub answer_in : Holder → Life → PerformedCall → Answer
answer_in s l d = answer s.server [] (view_in s l) l.who l.own d.call d.reply

-- the places that are looked at, one after the other
abbrev pub asked_in : View → Look → List Key
asked_in m (Ask k next) = k ∷ asked_in m (next (m k))
asked_in m (Say a) = []

-- those that a call looks at where the part is
abbrev pub looked_at : Holder → Life → PerformedCall → List Key
looked_at s l d = asked_in (view_in s l) (program s.server [] l.who l.own d.call (id_in d.reply))

-- what the part holds once the locks of the call are granted, as it sees the files
abbrev pub held_for : Holder → Life → Call → Holding
held_for s l c = granted l.held (needs_of (view_in s l) l.own c)

-- ---- what comes about

abbrev pub with_life : Holder → TransId → Option Life → Holder
with_life s t life = record s { lives = λ u. if same_trans u t then life else s.lives u }

abbrev pub grants : Holder → TransId → Call → Option Life → Holder
grants s t c None = s
grants s t c (Some l) = with_life s t (Some (record l { held = held_for s l c }))

-- a call that its part performed; a new file is locked as it is made
abbrev pub after_done : Life → PerformedCall → Answer → Life
after_done l d a = record l {
  calls = l.calls ++ d ∷ [];
  edits = l.edits ++ a.edits;
  own = a.own;
  held = with_made l.held (id_in d.reply);
}

abbrev pub performs : Holder → TransId → PerformedCall → Option Life → Holder
performs s t d None = s
performs s t d (Some l) = with_life (record s { made = option_to_list (id_in d.reply) ++ s.made }) t (Some (after_done l d (answer_in s l d)))

abbrev pub readies : Holder → TransId → ℕ → Option Life → Holder
readies s t ts None = s
readies s t ts (Some l) = with_life s t (Some (record l { vote = Some ts }))

-- a part that is over has nothing but its locks, until they are released
abbrev pub emptied : Life → Life
emptied l = record l { calls = []; edits = []; own = no_opens; vote = None; is_early = false }

abbrev pub is_part : JoinNo → Option JoinNo → Bool
is_part j None = false
is_part j (Some k) = same_join k j

-- the part of this join is over; a restart will not find it
abbrev pub lapsed : JoinNo → Option Life → Option Life
lapsed j None = None
lapsed j (Some l) = Some (if is_part j l.join then emptied l else l)

-- a part that an earlier run made ready has no calls here, and takes no place among the transactions of this one
abbrev pub in_history : Stamp → Life → List (Stamp × Decided) → List (Stamp × Decided)
in_history stamp l xs = if l.is_early then xs else put stamp_cmp stamp (record { stamp = stamp; who = l.who; calls = l.calls }) xs

-- A committed transaction takes its place by its stamp, and its part's intents become cells. The part is left with its
-- locks, until they are released.
abbrev pub commits : Holder → Stamp → Option Life → Holder
commits s stamp None = s
commits s stamp (Some l) = with_life (record s {
  cells = edits_map l.edits s.cells;
  clock = max s.clock stamp.ts;
  kept = max s.clock stamp.ts;
  applied = in_history stamp l s.applied;
  left = if l.is_early then s.left else put stamp_cmp stamp l.edits s.left;
}) stamp.trans (Some (emptied l))

-- what a restart leaves of a part: all of it where it is ready
abbrev pub if_ready : Option Life → Option Life
if_ready None = None
if_ready (Some l) = if is_some l.vote then Some l else None

abbrev pub holder_after : Holder → Deed → Holder
holder_after s (Begins t client who seen) = with_life (record s { clock = max s.clock seen }) t (Some (new_life None client who))
holder_after s (Enters j t client who) = with_life s t (Some (new_life (Some j) client who))
holder_after s (Grants t c) = grants s t c (s.lives t)
holder_after s (Performs t d) = performs s t d (s.lives t)
holder_after s (Releases t) = with_life s t None
holder_after s (Readies j t ts) = readies s t ts (s.lives t)
holder_after s (Aborts j t client c) = record s { lives = λ u. if same_trans u t then lapsed j (s.lives u) else s.lives u }
holder_after s (Decides stamp js) = commits s stamp (s.lives stamp.trans)
holder_after s (Applies j stamp) = commits s stamp (s.lives stamp.trans)
holder_after s (Restarts epoch clock) = record s { clock = clock; kept = clock; lives = λ t. if_ready (s.lives t) }
holder_after s _ = s

-- ---- at the opening

-- a part that an earlier run made ready
abbrev pub early_life : ReadyNote → Life
early_life n = record { join = Some n.join; client = n.client; who = []; calls = []; edits = n.edits; own = no_opens; held = held_by n.locks; vote = Some n.ts; is_early = true }

abbrev pub lives_noted : List ReadyNote → TransId → Option Life
lives_noted [] t = None
lives_noted (n ∷ ns) t = if same_trans n.trans t then Some (early_life n) else lives_noted ns t

abbrev pub holder_opened : Start → Holder
holder_opened o = record { server = o.server; clock = o.clock; kept = o.clock; cells = o.cells; lives = lives_noted o.ready; made = []; applied = []; left = [] }
