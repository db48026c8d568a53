-- what a part's first call on the owner `ann` answers and changes
use Rattle.std.specs.Prelude.{not, is_some, codes, Option, None, Some}
use Rattle.std.specs.FinMap as map
use Rattle.std.proofs.Common.{◌≡◌, ℕ, [], ◌∷◌, ap, ◌∙◌}
use Rattle.alp_base.specs.declared.ids.TransId.{TransId}
use Rattle.alp_base.specs.declared.cell.Cell.{Cell}
use Rattle.alp_base.specs.declared.cell.Cell.TheVariants as cell
use Rattle.alp_files.specs.declared.reply.Reply.TheVariants as reply
use Rattle.alp_files.specs.declared.refusal.Refusal.TheVariants as refusal
use Rattle.alp_files.specs.declared.refusal.ListName.TheVariants as lists
use Rattle.alp_base.specs.declared.choices.Choice.TheVariants as choice
use Rattle.alp_files.specs.declared.call.Call.TheVariants as call
use Rattle.alp_files.specs.Cells.{owner_in}
use Rattle.alp_files.specs.Edits.{Put}
use Rattle.alp_files.specs.Act.{no_opens, Answer, unless, refused, replied, is_admin}
use Rattle.alp_journal.specs.Holder.{Holder, Life, answer_in}
use Rattle.alp_history.specs.RightLog.{owner_with, set_done, found_done}
use Rattle.alp_history.specs.RightJournals.{made_done, missed_done}
use Rattle.alp_history.proofs.Quotas.{ann, IsFresh, answer_fresh, set_with, read_with}

abbrev make_with : ℕ → Option Cell → Answer
make_with n oc = unless no_opens
    ((is_some (owner_in oc), refusal.OwnerExists) ∷ (not (is_admin (codes "Admin")), refusal.AccessDenied lists.Admin) ∷ [])
    (replied no_opens reply.Plain (Put ann (cell.Owner (owner_with n)) ∷ []))

pub made : (h : Holder) (l : Life) (t : TransId) (n : ℕ) → IsFresh l → map.get h.cells ann ≡ None
    → answer_in h l (made_done t n) ≡ replied no_opens reply.Plain (Put ann (cell.Owner (owner_with n)) ∷ [])
made h l t n f k = answer_fresh h l (made_done t n) f ∙ ap (make_with n) k

pub found : (h : Holder) (l : Life) (t : TransId) (n : ℕ) → IsFresh l → map.get h.cells ann ≡ Some (cell.Owner (owner_with n))
    → answer_in h l (found_done t n) ≡ replied no_opens (reply.Owner (owner_with n)) []
found h l t n f k = answer_fresh h l (found_done t n) f ∙ ap read_with k

pub missed : (h : Holder) (l : Life) (t : TransId) → IsFresh l → map.get h.cells ann ≡ None → answer_in h l (missed_done t) ≡ refused no_opens refusal.UnknownOwner
missed h l t f k = answer_fresh h l (missed_done t) f ∙ ap read_with k

-- of a call that waited
pub missed_waiting : (h : Holder) (l : Life) (t : TransId) → IsFresh l → map.get h.cells ann ≡ None
    → answer_in h l (record { call = call.ReadOwner t (codes "ann") choice.Wait; reply = reply.Refused refusal.UnknownOwner }) ≡ refused no_opens refusal.UnknownOwner
missed_waiting h l t f k = answer_fresh h l (record { call = call.ReadOwner t (codes "ann") choice.Wait; reply = reply.Refused refusal.UnknownOwner }) f ∙ ap read_with k

pub set : (h : Holder) (l : Life) (t : TransId) (n p : ℕ) → IsFresh l → map.get h.cells ann ≡ Some (cell.Owner (owner_with n))
    → answer_in h l (set_done t p) ≡ replied no_opens reply.Plain (Put ann (cell.Owner (owner_with p)) ∷ [])
set h l t n p f k = answer_fresh h l (set_done t p) f ∙ ap (set_with p) k
