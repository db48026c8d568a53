-- what calls on the one owner of the right log answer and change
use Rattle.std.specs.Prelude.{cond, Bool, true, false, codes, not, is_some, Option, None, Some}
use Rattle.std.specs.FinMap as map
use Rattle.std.specs.FinMap.{get-insert, same_map}
use Rattle.std.specs.Ordering.{eq_by_cmp}
use Rattle.std.proofs.Common.{◌≡◌, ℕ, [], ◌∷◌, refl, sym, ap, subst, ◌∙◌}
use Rattle.alp_base.specs.declared.key.Key.{Key}
use Rattle.alp_base.specs.declared.key.Key.TheVariants.{OwnerOf}
use Rattle.alp_base.specs.KeyLaws.{keys_total, exact_keys}
use Rattle.alp_base.specs.Keys.{key_cmp}
use Rattle.alp_base.specs.declared.cell.Cell.{Cell}
use Rattle.alp_base.specs.declared.cell.Cell.TheVariants as cell
use Rattle.alp_files.specs.declared.reply.Reply.TheVariants as reply
use Rattle.alp_files.specs.declared.refusal.Refusal.TheVariants as refusal
use Rattle.alp_files.specs.declared.refusal.ListName.TheVariants as lists
use Rattle.alp_files.specs.Cells.{Cells, owner_in}
use Rattle.alp_files.specs.Edits.{Put, edits_map}
use Rattle.alp_files.specs.Act.{no_opens, Answer, answer, unless, replied, owner_of, is_admin}
use Rattle.alp_files.specs.History.{PerformedCall}
use Rattle.alp_files.specs.Sound.{AreSound}
use Rattle.alp_files.specs.Apart.{AreSized, IsSized}
use Rattle.alp_files.proofs.SoundEdits.{sound-owner, uncharged}
use Rattle.alp_files.proofs.SoundLemmas.{empty_sound}
use Rattle.alp_history.proofs.Places.{some-same}
use Rattle.alp_journal.specs.Holder.{Holder, Life, answer_in}
use Rattle.alp_history.specs.RightLog.{owner_with, with_quota}

abbrev pub ann : Key
ann = OwnerOf (codes "ann")

pub quota_seen : (n : ℕ) → map.get (with_quota n) ann ≡ Some (cell.Owner (owner_with n))
quota_seen n = get-insert keys_total map.empty ann (cell.Owner (owner_with n)) ann

-- a part without opens that changed nothing so far, of this principal
pub record IsFresh (l : Life) : Type 0 where
  pub edits : l.edits ≡ []
  pub own : l.own ≡ no_opens
  pub who : l.who ≡ codes "Admin"

abbrev pub set_with : ℕ → Option Cell → Answer
set_with p oc = unless no_opens
    ((not (is_some (owner_in oc)), refusal.UnknownOwner) ∷ (not (is_admin (codes "Admin")), refusal.AccessDenied lists.Admin) ∷ [])
    (replied no_opens reply.Plain (Put ann (cell.Owner (record (owner_of oc) { quota = p })) ∷ []))

abbrev pub read_with : Option Cell → Answer
read_with oc = unless no_opens ((not (is_some (owner_in oc)), refusal.UnknownOwner) ∷ []) (replied no_opens (reply.Owner (owner_of oc)) [])

pub answer_fresh : (h : Holder) (l : Life) (d : PerformedCall) → IsFresh l → answer_in h l d ≡ answer h.server [] (map.get h.cells) (codes "Admin") no_opens d.call d.reply
answer_fresh h l d f i = answer h.server [] (map.get (edits_map (f.edits i) h.cells)) (f.who i) (f.own i) d.call d.reply

-- another quota put
pub put_quota : (m : Cells) (n p : ℕ) → m ≡ with_quota n → map.insert m ann (cell.Owner (owner_with p)) ≡ with_quota p
put_quota m n p h =
    ap (λ (x : Cells). map.insert x ann (cell.Owner (owner_with p))) h
    ∙ same_map keys_total exact_keys _ _ (λ q.
    get-insert keys_total (with_quota n) ann (cell.Owner (owner_with p)) q
    ∙ ap (cond (eq_by_cmp key_cmp q ann) (Some (cell.Owner (owner_with p)))) (get-insert keys_total map.empty ann (cell.Owner (owner_with n)) q)
    ∙ twice (eq_by_cmp key_cmp q ann) (map.get map.empty q)
    ∙ sym (get-insert keys_total map.empty ann (cell.Owner (owner_with p)) q))
  where
    twice : (b : Bool) (z : Option Cell) → cond b (Some (cell.Owner (owner_with p))) (cond b (Some (cell.Owner (owner_with n))) z) ≡ cond b (Some (cell.Owner (owner_with p))) z
    twice true z = refl
    twice false z = refl

-- files of one owner without files
pub quota_sound : (n : ℕ) → AreSound (with_quota n)
quota_sound n = sound-owner map.empty empty_sound (codes "ann") (owner_with n) refl
    (sym (uncharged map.empty empty_sound (codes "ann") (ap (λ (c : Option Cell). is_some (owner_in c)) (map.get-empty key_cmp ann))))

pub none_sized : AreSized (map.get (map.empty {R = key_cmp}))
none_sized k c e = let wrong : None ≡ Some c = sym (map.get-empty key_cmp k) ∙ e in cc

pub quota_sized : AreSized (map.get (with_quota 9))
quota_sized k c e = go (eq_by_cmp key_cmp k ann) (sym (get-insert keys_total map.empty ann (cell.Owner (owner_with 9)) k) ∙ e)
  where
    go : (b : Bool) → cond b (Some (cell.Owner (owner_with 9))) (map.get (map.empty {R = key_cmp}) k) ≡ Some c → IsSized c
    go true h = subst IsSized (some-same (cell.Owner (owner_with 9)) c h) tt
    go false h = none_sized k c h
