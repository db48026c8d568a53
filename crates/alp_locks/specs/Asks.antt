-- what an ask is answered, and what it leaves
use Rattle.std.specs.Prelude.{◌≡◌, Bool, not, ◌&&◌, List, [], ◌∷◌, Option, Some, None, is_some}
use Rattle.std.specs.Option.{option_map, option_or}
use Rattle.std.specs.List.{find, filter, list_any}
use Rattle.std.specs.Ordering.{eq_by_cmp}
use Rattle.std.specs.FinMap as map
use Rattle.alp_base.specs.declared.ids.TransId.{TransId}
use Rattle.alp_base.specs.declared.choices.Choice.{Choice}
use Rattle.alp_base.specs.declared.choices.Choice.TheVariants.{Fail, Wait}
use Rattle.alp_base.specs.declared.key.Resource.{Resource}
use Rattle.alp_modes.specs.declared.Mode.{Mode}
use Rattle.alp_modes.specs.Modes.{join_of}
use Rattle.alp_files.specs.Holdings.{agree_held}
use Rattle.alp_base.specs.Orders.{trans_cmp}
use Rattle.alp_queue.specs.declared.waiter.Waiter.{Waiter}
use Rattle.alp_queue.specs.Order.{placed}
use Rattle.alp_queue.specs.Rises.{Held, is_raised}
use Rattle.alp_locks.specs.declared.request.Request.{Request}
use Rattle.alp_locks.specs.declared.request.Grant.{Grant}
use Rattle.alp_locks.specs.declared.request.Grant.TheVariants.{Granted, Conflict, Queued}
use Rattle.alp_locks.specs.Tables.{Holders, Table, held_of}

-- the mode that is left where that one is asked
abbrev pub raised : Option Mode → Mode → Mode
raised None m = m
raised (Some a) m = join_of a m

-- what is held once all is granted
abbrev pub joined : Held → List (Resource × Mode) → Held
joined held [] = held
joined held (n ∷ ns) = joined (map.insert held n.0 (raised (map.get held n.0) n.1)) ns

-- the resources on which the mode would rise, in their order, each once, with the modes that would be left
abbrev pub risen : Held → List (Resource × Mode) → List (Resource × Mode)
risen held ns = filter (is_raised held) (map.entries (joined held ns))

-- another transaction, whose mode on the resource does not agree with that mode
abbrev pub disagrees : TransId → Resource × Mode → TransId × Held → Bool
disagrees t n part = not (eq_by_cmp trans_cmp t part.0) && not (agree_held (map.get part.1 n.0) (Some n.1))

-- the least of them
abbrev pub holder_on : Holders → TransId → Resource × Mode → Option TransId
holder_on holders t n = option_map (λ part. part.0) (find (disagrees t n) (map.entries holders))

-- the least on the first resource that has one
abbrev pub blocker : Holders → TransId → List (Resource × Mode) → Option TransId
blocker holders t [] = None
blocker holders t (n ∷ ns) = option_or (holder_on holders t n) (blocker holders t ns)

-- a lock is held on a resource that is asked for
abbrev pub is_conversion : Held → List (Resource × Mode) → Bool
is_conversion held rises = list_any (λ n. is_some (map.get held n.0)) rises

-- the request as it waits
abbrev pub waiter_of : Held → TransId → List (Resource × Mode) → Waiter
waiter_of held t ns = record { trans = t; needs = ns; rises = risen held ns; after = joined held ns; converts = is_conversion held (risen held ns) }

-- ---- the answer

abbrev pub refusal : Choice → TransId → Grant
refusal Fail u = Conflict u
refusal Wait u = Queued

abbrev pub answer : Option TransId → Choice → Grant
answer None choice = Granted
answer (Some u) choice = refusal choice u

-- who stands in the way of a request
abbrev pub in_way_of : Holders → TransId → List (Resource × Mode) → Option TransId
in_way_of holders t ns = blocker holders t (risen (held_of holders t) ns)

abbrev pub grant_of : Table → Request → Grant
grant_of t q = answer (in_way_of t.held q.trans q.needs) q.choice

-- ---- the table that it leaves

-- where nothing rises the table stays
abbrev pub with_granted : Table → TransId → List (Resource × Mode) → Held → Table
with_granted t u [] after = t
with_granted t u (n ∷ ns) after = record t { held = map.insert t.held u after }

-- the table knows the transaction, which holds what it held
abbrev pub entered : Table → TransId → Table
entered t u = record t { held = map.insert t.held u (held_of t.held u) }

abbrev pub with_waiter : Table → Waiter → Table
with_waiter t w = record (entered t w.trans) { waiting = placed t.waiting w }

abbrev pub refused : Table → Waiter → Choice → Table
refused t w Fail = t
refused t w Wait = with_waiter t w

abbrev pub answered : Table → Waiter → Option TransId → Choice → Table
answered t w None choice = with_granted t w.trans w.rises w.after
answered t w (Some u) choice = refused t w choice

abbrev pub asked : Table → Request → Table
asked t q = answered t (waiter_of (held_of t.held q.trans) q.trans q.needs) (in_way_of t.held q.trans q.needs) q.choice

-- ---- after a restart

-- a transaction holds all of a list besides what it held where nobody stands in the way, and else the table stays
abbrev pub with_regained : Table → TransId → List (Resource × Mode) → Option TransId → Table
with_regained t u ns None = record t { held = map.insert t.held u (joined (held_of t.held u) ns) }
with_regained t u ns (Some v) = t
