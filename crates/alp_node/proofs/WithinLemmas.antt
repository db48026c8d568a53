-- each live part stays within its limits
use Rattle.std.specs.Prelude.{ℕ, cond, Bool, true, false, List, Option, None, Some, Result, Ok, Err}
use Rattle.std.proofs.Common.{◌≡◌, ◌≤◌, refl, sym, ap, subst, arith}
use Rattle.alp_base.specs.declared.faults.Sizes.{Sizes}
use Rattle.alp_calls.proofs.PartLaws.{part_begins, allowed}
use Rattle.alp_base.specs.declared.ids.FileId.{FileId}
use Rattle.alp_calls.specs.Limits.{refused_for, IsAllowed}
use Rattle.alp_calls.specs.Parts.{IsPart, IsAsBefore, StandsAfter}
use Rattle.alp_calls.specs.declared.fault.CallFault.{CallFault}
use Rattle.alp_calls.specs.declared.limits.Room.{Room}
use Rattle.alp_files.specs.Cells.{Cells}
use Rattle.alp_files.specs.Needs.{no_intents}
use Rattle.alp_files.specs.declared.call.Call.{Call}
use Rattle.alp_files.specs.declared.refusal.Refusal.{Refusal}
use Rattle.alp_journal.specs.declared.act.Act.{Act}
use Rattle.alp_node.specs.Asks.{is_made}
use Rattle.alp_node.specs.declared.answer.Given.{Given}
use Rattle.alp_journal.specs.Counts.{log_need}
use Rattle.alp_node.specs.Calls.{Outcome}
use Rattle.alp_node.specs.declared.lock_counts.LockCounts.{LockCounts}
use Rattle.alp_trans.specs.Counting.{no_counts}
use Rattle.alp_trans.specs.declared.counts.Counts.{Counts}
use Rattle.alp_trans.specs.declared.part.Part.{Part}
use Rattle.alp_node.specs.Rooms.{IsWithin, locks_given}
use Rattle.alp_node.specs.declared.lives.Live.{Live}

-- a part that did nothing yet is
pub new_within : (s : Sizes) (client : ℕ) (who : Option (List ℕ)) (p : Part) → p.intents ≡ no_intents → p.counts ≡ no_counts → 64 ≤ s.area → IsWithin s (record { client = client; who = who; part = p; locks = 0; join = None })
new_within s client who p none idle sized =
    let cells : p.counts.cells ≡ 0 = ap (λ (n : Counts). n.cells) idle in
    record { part = part_begins p none idle; locks = omega arith; log = omega (arith, cells, sized) }

-- ---- behind a call

-- it has no more locked than where it made a file
pub locks_most : (locks : ℕ) (n : LockCounts) (r : Result Given CallFault) → locks ≤ n.made → n.asked ≤ n.made → locks_given locks n r ≤ n.made
locks_most locks n (Ok x) was asked = go (is_made x.reply)
  where
    go : (b : Bool) → cond {A = ℕ} b n.made n.asked ≤ n.made
    go true = omega arith
    go false = asked
locks_most locks n (Err e) was asked = was

pub log_most : (cells locks more area : ℕ) → locks ≤ more → log_need cells more ≤ area → log_need cells locks ≤ area
log_most cells locks more area le fits = omega (arith, le, fits)

-- the log has room for it as it stands then
stands_log : (room : Room) (old new : Part) (after : Counts) (o : Option Refusal) → refused_for room old.counts after ≡ o → StandsAfter old new after o → log_need old.counts.cells room.locks ≤ room.area
    → log_need new.counts.cells room.locks ≤ room.area
stands_log room old new after None e h was = subst (λ (n : Counts). log_need n.cells room.locks ≤ room.area) (sym h) (IsAllowed.log (allowed room old.counts after e))
stands_log room old new after (Some f) e h was = subst (λ (n : Counts). log_need n.cells room.locks ≤ room.area) (sym h.2) was

outcome_log : (tells : Bool) (cells : Cells) (id : FileId) (l : Live) (p : Part) (c : Call) (room : Room) (acts : List Act) (r : Result Given CallFault) → Outcome tells cells id l p c room acts r → log_need l.part.counts.cells room.locks ≤ room.area
    → log_need p.counts.cells room.locks ≤ room.area
outcome_log tells cells id l p c room acts (Ok x) h was = stands_log room l.part p h.given.after (refused_for room l.part.counts h.given.after) refl h.given.stands was
outcome_log tells cells id l p c room acts (Err e) h was = subst (λ (n : Counts). log_need n.cells room.locks ≤ room.area) (sym h.2) was

-- the locks of a call are within the limits
pub record MayLock (s : Sizes) (l : Live) (n : LockCounts) : Type 0 where
  pub few : n.made ≤ 1024
  pub log : log_need l.part.counts.cells n.made ≤ s.area
  pub more : l.locks ≤ n.made
  pub asked : n.asked ≤ n.made

pub within_then : (tells : Bool) (cells : Cells) (id : FileId) (s : Sizes) (l : Live) (p : Part) (c : Call) (n : LockCounts) (room : Room) (acts : List Act) (r : Result Given CallFault) → IsPart p → MayLock s l n → room.area ≡ s.area → room.locks ≡ n.made
    → Outcome tells cells id l p c room acts r → IsWithin s (record l { part = p; locks = locks_given l.locks n r })
within_then tells cells id s l p c n room acts r part may area locks h =
    let was : log_need l.part.counts.cells room.locks ≤ room.area = subst (λ (x : ℕ). log_need l.part.counts.cells room.locks ≤ x) (sym area) (subst (λ (x : ℕ). log_need l.part.counts.cells x ≤ s.area) (sym locks) may.log) in
    let then : log_need p.counts.cells n.made ≤ s.area = subst (λ (x : ℕ). log_need p.counts.cells x ≤ s.area) locks (subst (λ (x : ℕ). log_need p.counts.cells room.locks ≤ x) area (outcome_log tells cells id l p c room acts r h was)) in
    let most : locks_given l.locks n r ≤ n.made = locks_most l.locks n r may.more may.asked in
    record { part = part; locks = omega (arith, most, may.few); log = log_most p.counts.cells (locks_given l.locks n r) n.made s.area most then }

-- and it stands so where nothing happened
pub within_same : (s : Sizes) (l : Live) (p : Part) → IsPart p → IsAsBefore l.part p → IsWithin s l → IsWithin s (record l { part = p })
within_same s l p part same h = record { part = part; locks = h.locks; log = subst (λ (n : Counts). log_need n.cells l.locks ≤ s.area) (sym same.2) h.log }
