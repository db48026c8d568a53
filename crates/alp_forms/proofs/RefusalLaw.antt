-- The laws of refusals.
use Rattle.std.proofs.Common.{◌≡◌, ℕ, List, ◌∷◌, ◌++◌, Some, refl, arith}
use Rattle.alp_files.specs.declared.refusal.Refusal.{Refusal}
use Rattle.alp_files.specs.declared.refusal.Refusal.TheVariants.{BadFrame, StaleSession, UnknownTrans, Finishing, UnknownOpen, UnknownFile, UnknownOwner, OwnerExists, ReadOnlyOpen, AccessDenied, NoSuchPage, QuotaExceeded, VolumeFull, LogFull, TooMany, LockConflict, Aborted, NotYet, ReadFault, Down, OutOfMemory, JournalFull}
use Rattle.alp_fields.specs.Forms.{IsForm, read_choice, pair, u32}
use Rattle.alp_fields.proofs.FormLaws.{pair_law}
use Rattle.alp_fields.proofs.FieldLaws.{u32_law, trans_id_law}
use Rattle.alp_forms.specs.Variants.{Variant, bare, by_tag}
use Rattle.alp_forms.specs.Reasons.{what}
use Rattle.alp_forms.specs.Refusals.{stale_session, access_denied, no_such_page, quota_exceeded, volume_full, log_full, too_many, lock_conflict, aborted, sent_refusal, refusal_readers, refusal}
use Rattle.alp_forms.proofs.VariantLaws.{ReadsAsSent, nothing_law, reads_variant, variant_is_back, enum_law}
use Rattle.alp_forms.proofs.ReasonLaws.{list_name_law, what_law, cause_law}

two_law : IsForm (pair u32 u32)
two_law = pair_law u32 u32 u32_law u32_law

back : (v : Refusal) (rest : List ℕ) → (sent_refusal v).Fits → read_choice refusal_readers ((sent_refusal v).bytes ++ rest) ≡ Some (v, rest)
back BadFrame rest fits = variant_is_back refusal_readers (bare 1 BadFrame) nothing_law (omega arith) (λ bytes. refl) tt rest fits
back (StaleSession epoch) rest fits = variant_is_back refusal_readers stale_session u32_law (omega arith) (λ bytes. refl) epoch rest fits
back UnknownTrans rest fits = variant_is_back refusal_readers (bare 3 UnknownTrans) nothing_law (omega arith) (λ bytes. refl) tt rest fits
back Finishing rest fits = variant_is_back refusal_readers (bare 4 Finishing) nothing_law (omega arith) (λ bytes. refl) tt rest fits
back UnknownOpen rest fits = variant_is_back refusal_readers (bare 5 UnknownOpen) nothing_law (omega arith) (λ bytes. refl) tt rest fits
back UnknownFile rest fits = variant_is_back refusal_readers (bare 6 UnknownFile) nothing_law (omega arith) (λ bytes. refl) tt rest fits
back UnknownOwner rest fits = variant_is_back refusal_readers (bare 7 UnknownOwner) nothing_law (omega arith) (λ bytes. refl) tt rest fits
back OwnerExists rest fits = variant_is_back refusal_readers (bare 8 OwnerExists) nothing_law (omega arith) (λ bytes. refl) tt rest fits
back ReadOnlyOpen rest fits = variant_is_back refusal_readers (bare 9 ReadOnlyOpen) nothing_law (omega arith) (λ bytes. refl) tt rest fits
back (AccessDenied denied) rest fits = variant_is_back refusal_readers access_denied list_name_law (omega arith) (λ bytes. refl) denied rest fits
back (NoSuchPage size) rest fits = variant_is_back refusal_readers no_such_page u32_law (omega arith) (λ bytes. refl) size rest fits
back (QuotaExceeded charge asked quota) rest fits = variant_is_back refusal_readers quota_exceeded (pair_law u32 _ u32_law two_law) (omega arith) (λ bytes. refl) (charge, (asked, quota)) rest fits
back (VolumeFull left asked) rest fits = variant_is_back refusal_readers volume_full two_law (omega arith) (λ bytes. refl) (left, asked) rest fits
back (LogFull room asked) rest fits = variant_is_back refusal_readers log_full two_law (omega arith) (λ bytes. refl) (room, asked) rest fits
back (TooMany of limit) rest fits = variant_is_back refusal_readers too_many (pair_law what u32 what_law u32_law) (omega arith) (λ bytes. refl) (of, limit) rest fits
back (LockConflict holder) rest fits = variant_is_back refusal_readers lock_conflict trans_id_law (omega arith) (λ bytes. refl) holder rest fits
back (Aborted reason) rest fits = variant_is_back refusal_readers aborted cause_law (omega arith) (λ bytes. refl) reason rest fits
back NotYet rest fits = variant_is_back refusal_readers (bare 18 NotYet) nothing_law (omega arith) (λ bytes. refl) tt rest fits
back ReadFault rest fits = variant_is_back refusal_readers (bare 19 ReadFault) nothing_law (omega arith) (λ bytes. refl) tt rest fits
back Down rest fits = variant_is_back refusal_readers (bare 20 Down) nothing_law (omega arith) (λ bytes. refl) tt rest fits
back OutOfMemory rest fits = variant_is_back refusal_readers (bare 21 OutOfMemory) nothing_law (omega arith) (λ bytes. refl) tt rest fits
back JournalFull rest fits = variant_is_back refusal_readers (bare 22 JournalFull) nothing_law (omega arith) (λ bytes. refl) tt rest fits

reads : (v : Variant Refusal) → IsForm v.form → ((x : v.Fields) → (sent_refusal (v.into x)).bytes ≡ v.tag ∷ v.form.spell x) → ((x : v.Fields) → v.form.Fits x → (sent_refusal (v.into x)).Fits) → ReadsAsSent sent_refusal (by_tag v)
reads v law is fits = reads_variant sent_refusal v law is fits

pub refusal_law : IsForm refusal
unfolding refusal
refusal_law = enum_law sent_refusal refusal_readers back (
  reads (bare 1 BadFrame) nothing_law (λ x. refl) (λ x fits. fits),
  (
    reads stale_session u32_law (λ x. refl) (λ x fits. fits),
    (
      reads (bare 3 UnknownTrans) nothing_law (λ x. refl) (λ x fits. fits),
      (
        reads (bare 4 Finishing) nothing_law (λ x. refl) (λ x fits. fits),
        (
          reads (bare 5 UnknownOpen) nothing_law (λ x. refl) (λ x fits. fits),
          (
            reads (bare 6 UnknownFile) nothing_law (λ x. refl) (λ x fits. fits),
            (
              reads (bare 7 UnknownOwner) nothing_law (λ x. refl) (λ x fits. fits),
              (
                reads (bare 8 OwnerExists) nothing_law (λ x. refl) (λ x fits. fits),
                (
                  reads (bare 9 ReadOnlyOpen) nothing_law (λ x. refl) (λ x fits. fits),
                  (
                    reads access_denied list_name_law (λ x. refl) (λ x fits. fits),
                    (
                      reads no_such_page u32_law (λ x. refl) (λ x fits. fits),
                      (
                        reads quota_exceeded (pair_law u32 _ u32_law two_law) (λ x. refl) (λ x fits. fits),
                        (
                          reads volume_full two_law (λ x. refl) (λ x fits. fits),
                          (
                            reads log_full two_law (λ x. refl) (λ x fits. fits),
                            (
                              reads too_many (pair_law what u32 what_law u32_law) (λ x. refl) (λ x fits. fits),
                              (
                                reads lock_conflict trans_id_law (λ x. refl) (λ x fits. fits),
                                (
                                  reads aborted cause_law (λ x. refl) (λ x fits. fits),
                                  (
                                    reads (bare 18 NotYet) nothing_law (λ x. refl) (λ x fits. fits),
                                    (
                                      reads (bare 19 ReadFault) nothing_law (λ x. refl) (λ x fits. fits),
                                      (
                                        reads (bare 20 Down) nothing_law (λ x. refl) (λ x fits. fits),
                                        (
                                          reads (bare 21 OutOfMemory) nothing_law (λ x. refl) (λ x fits. fits),
                                          (
                                            reads (bare 22 JournalFull) nothing_law (λ x. refl) (λ x fits. fits),
                                            tt,
                                          ),
                                        ),
                                      ),
                                    ),
                                  ),
                                ),
                              ),
                            ),
                          ),
                        ),
                      ),
                    ),
                  ),
                ),
              ),
            ),
          ),
        ),
      ),
    ),
  ),
)
