-- what is answered of a call whose counts may refuse it
use Rattle.std.specs.Prelude.{Bool, true, false, ◌&&◌, ◌||◌, nat_lt, Option, None, Some}
use Rattle.std.specs.Option.{option_or}
use Rattle.std.proofs.Common.{◌≡◌, ℕ, ◌+◌, ◌-◌, ◌≤◌, List, [], ◌∷◌, ◌++◌, append-nil, refl, sym, ◌∙◌, ap, subst, arith}
use Rattle.alp_base.specs.declared.ids.FileId.{FileId}
use Rattle.alp_calls.specs.Limits.{refused_for, is_past}
use Rattle.alp_calls.specs.Parts.{Answered}
use Rattle.alp_calls.specs.declared.limits.Room.{Room}
use Rattle.alp_files.specs.Cells.{Cells}
use Rattle.alp_files.specs.Edits.{Edit}
use Rattle.alp_files.specs.Passing.{is_passing_refusal}
use Rattle.alp_files.specs.declared.call.Call.{Call}
use Rattle.alp_files.specs.declared.refusal.Refusal.{Refusal}
use Rattle.alp_files.specs.declared.refusal.Refusal.TheVariants as refusal
use Rattle.alp_files.specs.declared.refusal.What.{What}
use Rattle.alp_files.specs.declared.refusal.What.TheVariants as what
use Rattle.alp_files.specs.declared.reply.Reply.{Reply}
use Rattle.alp_files.specs.declared.reply.Reply.TheVariants as reply
use Rattle.alp_trans.specs.Counting.{AreCountsOf}
use Rattle.alp_trans.specs.declared.counts.Counts.{Counts}
use Rattle.alp_trans.specs.declared.part.Part.{Part}
use Rattle.alp_base.specs.declared.ids.TransId.{TransId}
use Rattle.alp_journal.specs.Answered.{is_read_fault, grants_by}
use Rattle.alp_journal.specs.Answers.{if_over, unless_counts}
use Rattle.alp_journal.specs.Counts.{log_need}
use Rattle.alp_journal.specs.Desk.{is_not_yet}
use Rattle.alp_node.specs.Halts.{says_shut}
use Rattle.alp_node.specs.Turns.{TellsUpTo, IsInSession, IsKeepable}
use Rattle.alp_node.proofs.GivenLemmas.{shows_none}
use Rattle.alp_node.proofs.TurnLemmas.{part_reply_in, file_reply_tells}
use Rattle.alp_node.proofs.RoomLemmas.{not_over}

-- a refusal for counts: it rests on more than a thread sees, lets no call wait, and tells of no fault
pub record IsCountRefusal (f : Refusal) : Type 0 where
  pub passes : is_passing_refusal f ≡ true
  pub now : is_not_yet (reply.Refused f) ≡ false
  pub granted : (t : TransId) → grants_by true t (reply.Refused f) ≡ t ∷ []
  pub quiet : (is_read_fault (Some (reply.Refused f)) || says_shut (Some (reply.Refused f))) ≡ false
  pub inside : IsInSession (reply.Refused f)

pub over_is : (b : Bool) (r : Refusal) → IsCountRefusal r → (f : Refusal) → if_over b r ≡ Some f → IsCountRefusal f
over_is true r h f e = subst IsCountRefusal (same r f e) h
  where
    same : (x y : Refusal) → Some x ≡ Some y → x ≡ y
    same x y e = cc
over_is false r h f e = cc

pub either_is : (x y : Option Refusal) → ((f : Refusal) → x ≡ Some f → IsCountRefusal f) → ((f : Refusal) → y ≡ Some f → IsCountRefusal f) → (f : Refusal) → option_or x y ≡ Some f → IsCountRefusal f
either_is None y first second f e = second f e
either_is (Some x) y first second f e = first f e

pub too_many_is : (w : What) (n : ℕ) → IsCountRefusal (refusal.TooMany w n)
too_many_is w n = record { passes = refl; now = refl; granted = λ t. refl; quiet = refl; inside = tt }

full_is : (left asked : ℕ) → IsCountRefusal (refusal.VolumeFull left asked)
full_is left asked = record { passes = refl; now = refl; granted = λ t. refl; quiet = refl; inside = tt }

pub log_is : (room asked : ℕ) → IsCountRefusal (refusal.LogFull room asked)
log_is room asked = record { passes = refl; now = refl; granted = λ t. refl; quiet = refl; inside = tt }

pub refused_is : (room : Room) (now later : Counts) (f : Refusal) → refused_for room now later ≡ Some f → IsCountRefusal f
refused_is room now later f e =
    either_is _ _ (over_is _ _ (too_many_is what.Cells 256))
    (either_is _ _ (either_is _ _ (over_is _ _ (too_many_is what.Files 4096)) (over_is _ _ (too_many_is what.Owners 256))) (either_is _ _ (over_is _ _ (full_is _ _)) (over_is _ _ (log_is _ _)))) f e

-- a part that comes to as much as before is not refused
pub same_passes : (room : Room) (n : Counts) → n.cells ≤ 256 → log_need n.cells room.locks ≤ room.area → refused_for room n n ≡ None
same_passes room n cells log = λ i. option_or (if_over (not_over 256 n.cells cells i) (refusal.TooMany what.Cells 256))
    (option_or
    (option_or (if_over (none_past n.files room.files 4096 i) (refusal.TooMany what.Files 4096)) (if_over (none_past n.owners room.owners 256 i) (refusal.TooMany what.Owners 256)))
    (option_or (if_over (no_rise n.places room.left i) (refusal.VolumeFull room.left (n.places - n.places))) (if_over (not_over room.area (log_need n.cells room.locks) log i) (refusal.LogFull room.area (log_need n.cells room.locks)))))
  where
    none_past : (n stand limit : ℕ) → is_past n n stand limit ≡ false
    none_past n stand limit = ap (λ (b : Bool). b && nat_lt limit (stand + (n - n))) (not_over n n (omega arith))

    no_rise : (n left : ℕ) → nat_lt left (n - n) ≡ false
    no_rise n left = not_over left (n - n) (omega arith)

-- nor is one that puts nothing more
pub same_counts : (m : Cells) (es fs : List Edit) (now later : Counts) → fs ≡ [] → AreCountsOf m es now → AreCountsOf m (es ++ fs) later → later ≡ now
same_counts m es fs now later none before after =
    let same : AreCountsOf m es later = subst (λ (xs : List Edit). AreCountsOf m xs later) (ap (λ (xs : List Edit). es ++ xs) none ∙ append-nil es) after in
    (λ i. record { cells = (same.cells ∙ sym before.cells) i; places = (same.places ∙ sym before.places) i; files = (same.files ∙ sym before.files) i; owners = (same.owners ∙ sym before.owners) i })

pub unless_quiet : (room : Room) (now later : Counts) (given : Reply) (o : Option Refusal) → refused_for room now later ≡ o → (is_read_fault (Some given) || says_shut (Some given)) ≡ false
    → (is_read_fault (Some (unless_counts given o)) || says_shut (Some (unless_counts given o))) ≡ false
unless_quiet room now later given None e h = h
unless_quiet room now later given (Some f) e h = (refused_is room now later f e).quiet

-- what is answered tells of no fault, whatever the vault tells
pub answered_quiet : (tells : Bool) (cells : Cells) (old new : Part) (who : List ℕ) (id : FileId) (c : Call) (room : Room) (r : Reply) → Answered tells cells old new who id c room r
    → (is_read_fault (Some r) || says_shut (Some r)) ≡ false
answered_quiet tells cells old new who id c room r h =
    subst (λ (x : Reply). (is_read_fault (Some x) || says_shut (Some x)) ≡ false) (sym h.said)
    (unless_quiet room old.counts h.after h.given (refused_for room old.counts h.after) refl (shows_none h.given h.own h.kind.1))

-- it is in its session, and tells no time
unless_inside : (room : Room) (now later : Counts) (given : Reply) (o : Option Refusal) → refused_for room now later ≡ o → IsInSession given → IsInSession (unless_counts given o)
unless_inside room now later given None e h = h
unless_inside room now later given (Some f) e h = (refused_is room now later f e).inside

unless_tells : (clock : ℕ) (given : Reply) (o : Option Refusal) → TellsUpTo clock given → TellsUpTo clock (unless_counts given o)
unless_tells clock given None h = h
unless_tells clock given (Some f) h = tt

-- so its session may keep it
pub answered_keeps : (clock : ℕ) (tells : Bool) (cells : Cells) (old new : Part) (who : List ℕ) (id : FileId) (c : Call) (room : Room) (r : Reply) → Answered tells cells old new who id c room r → IsKeepable clock r
answered_keeps clock tells cells old new who id c room r h = subst (IsKeepable clock) (sym h.said) (record {
  inside = unless_inside room old.counts h.after h.given (refused_for room old.counts h.after) refl (part_reply_in h.given h.kind);
  times = unless_tells clock h.given (refused_for room old.counts h.after) (file_reply_tells clock h.given h.kind.0);
})
