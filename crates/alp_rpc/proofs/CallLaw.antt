-- The laws of calls.
use Rattle.std.proofs.Common.{◌≡◌, ℕ, List, ◌∷◌, ◌++◌, Some, refl, arith}
use Rattle.alp_files.specs.declared.call.Call.{Call}
use Rattle.alp_files.specs.declared.call.Call.TheVariants.{Hello, Begin, Join, CreateFile, OpenFile, CloseFile, DeleteFile, ReadPages, WritePages, LockPages, SetSize, ReadProps, WriteProps, ReadOwner, MakeOwner, SetQuota, Finish, Outcome, Collect}
use Rattle.alp_fields.specs.PropsField.{props}
use Rattle.alp_fields.proofs.PropsFieldLaw.{props_law}
use Rattle.alp_fields.specs.ModeField.{mode}
use Rattle.alp_fields.proofs.ModeFieldLaw.{mode_law}
use Rattle.alp_fields.specs.Forms.{Form, IsForm, read_choice, pair, u32}
use Rattle.alp_fields.specs.Fields.{file_id, trans_id, run, choice, access, flag, name, list, pages}
use Rattle.alp_fields.proofs.FormLaws.{pair_law, checked_law}
use Rattle.alp_fields.proofs.FieldLaws.{u32_law, file_id_law, trans_id_law, stamp_law, run_law, choice_law, access_law, flag_law, name_law, list_law, pages_law}
use Rattle.alp_forms.specs.Variants.{Variant, by_tag}
use Rattle.alp_rpc.specs.Changes.{prop_change}
use Rattle.alp_rpc.specs.Calls.{is_run_mode, run_mode, are_as_many, filled_run, open_form, hello, begin, join, create_file, open_file, close_file, delete_file, read_pages, write_pages, lock_pages, set_size, read_props, write_props, read_owner, make_owner, set_quota, finish, outcome, collect, sent_call, call_readers, call}
use Rattle.alp_forms.proofs.VariantLaws.{ReadsAsSent, reads_variant, variant_is_back, enum_law}
use Rattle.alp_rpc.proofs.ChangeLaw.{prop_change_law}

-- ---- the fields of calls

run_mode_law : IsForm run_mode
unfolding run_mode
run_mode_law = checked_law is_run_mode mode mode_law

filled_run_law : IsForm filled_run
unfolding filled_run
filled_run_law = checked_law are_as_many (pair run pages) (pair_law run pages run_law pages_law)

open_law : IsForm open_form
open_law = pair_law trans_id u32 trans_id_law u32_law

-- with a choice behind
chosen_law : {A : Type 0} (a : Form A) → IsForm a → IsForm (pair a choice)
chosen_law a law = pair_law a choice law choice_law

create_law : IsForm create_file.form
create_law = pair_law trans_id _ trans_id_law (chosen_law props props_law)

open_file_law : IsForm open_file.form
open_file_law = pair_law trans_id _ trans_id_law (pair_law file_id _ file_id_law (pair_law access _ access_law (chosen_law mode mode_law)))

delete_law : IsForm delete_file.form
delete_law = chosen_law open_form open_law

run_in_mode_law : IsForm read_pages.form
run_in_mode_law = pair_law open_form _ open_law (pair_law run _ run_law (chosen_law run_mode run_mode_law))

write_law : IsForm write_pages.form
write_law = pair_law open_form _ open_law (chosen_law filled_run filled_run_law)

size_law : IsForm set_size.form
size_law = pair_law open_form _ open_law (chosen_law u32 u32_law)

change_law : IsForm write_props.form
change_law = pair_law open_form _ open_law (chosen_law prop_change prop_change_law)

owner_law : IsForm read_owner.form
owner_law = pair_law trans_id _ trans_id_law (chosen_law name name_law)

make_law : IsForm make_owner.form
make_law = pair_law trans_id _ trans_id_law (pair_law name _ name_law (pair_law u32 _ u32_law (chosen_law list list_law)))

quota_law : IsForm set_quota.form
quota_law = pair_law trans_id _ trans_id_law (pair_law name _ name_law (chosen_law u32 u32_law))

finish_law : IsForm finish.form
finish_law = pair_law trans_id flag trans_id_law flag_law

-- ---- the calls

back : (v : Call) (rest : List ℕ) → (sent_call v).Fits → read_choice call_readers ((sent_call v).bytes ++ rest) ≡ Some (v, rest)
back (Hello who) rest fits = variant_is_back call_readers hello name_law (omega arith) (λ bytes. refl) who rest fits
back (Begin seen) rest fits = variant_is_back call_readers begin stamp_law (omega arith) (λ bytes. refl) seen rest fits
back (Join trans) rest fits = variant_is_back call_readers join trans_id_law (omega arith) (λ bytes. refl) trans rest fits
back (CreateFile trans start wish) rest fits = variant_is_back call_readers create_file create_law (omega arith) (λ bytes. refl) (trans, (start, wish)) rest fits
back (OpenFile trans file use_for held wish) rest fits = variant_is_back call_readers open_file open_file_law (omega arith) (λ bytes. refl) (trans, (file, (use_for, (held, wish)))) rest fits
back (CloseFile trans open_no) rest fits = variant_is_back call_readers close_file open_law (omega arith) (λ bytes. refl) (trans, open_no) rest fits
back (DeleteFile trans open_no wish) rest fits = variant_is_back call_readers delete_file delete_law (omega arith) (λ bytes. refl) ((trans, open_no), wish) rest fits
back (ReadPages trans open_no span held wish) rest fits = variant_is_back call_readers read_pages run_in_mode_law (omega arith) (λ bytes. refl) ((trans, open_no), (span, (held, wish))) rest fits
back (WritePages trans open_no span given wish) rest fits = variant_is_back call_readers write_pages write_law (omega arith) (λ bytes. refl) ((trans, open_no), ((span, given), wish)) rest fits
back (LockPages trans open_no span held wish) rest fits = variant_is_back call_readers lock_pages run_in_mode_law (omega arith) (λ bytes. refl) ((trans, open_no), (span, (held, wish))) rest fits
back (SetSize trans open_no size wish) rest fits = variant_is_back call_readers set_size size_law (omega arith) (λ bytes. refl) ((trans, open_no), (size, wish)) rest fits
back (ReadProps trans open_no) rest fits = variant_is_back call_readers read_props open_law (omega arith) (λ bytes. refl) (trans, open_no) rest fits
back (WriteProps trans open_no change wish) rest fits = variant_is_back call_readers write_props change_law (omega arith) (λ bytes. refl) ((trans, open_no), (change, wish)) rest fits
back (ReadOwner trans owner wish) rest fits = variant_is_back call_readers read_owner owner_law (omega arith) (λ bytes. refl) (trans, (owner, wish)) rest fits
back (MakeOwner trans owner quota create wish) rest fits = variant_is_back call_readers make_owner make_law (omega arith) (λ bytes. refl) (trans, (owner, (quota, (create, wish)))) rest fits
back (SetQuota trans owner quota wish) rest fits = variant_is_back call_readers set_quota quota_law (omega arith) (λ bytes. refl) (trans, (owner, (quota, wish))) rest fits
back (Finish trans commit) rest fits = variant_is_back call_readers finish finish_law (omega arith) (λ bytes. refl) (trans, commit) rest fits
back (Outcome trans) rest fits = variant_is_back call_readers outcome trans_id_law (omega arith) (λ bytes. refl) trans rest fits
back (Collect number) rest fits = variant_is_back call_readers collect u32_law (omega arith) (λ bytes. refl) number rest fits

reads : (v : Variant Call) → IsForm v.form → ((x : v.Fields) → (sent_call (v.into x)).bytes ≡ v.tag ∷ v.form.spell x) → ((x : v.Fields) → v.form.Fits x → (sent_call (v.into x)).Fits) → ReadsAsSent sent_call (by_tag v)
reads v law is fits = reads_variant sent_call v law is fits

pub call_law : IsForm call
unfolding call
call_law = enum_law sent_call call_readers back (
  reads hello name_law (λ x. refl) (λ x fits. fits),
  (
    reads begin stamp_law (λ x. refl) (λ x fits. fits),
    (
      reads join trans_id_law (λ x. refl) (λ x fits. fits),
      (
        reads create_file create_law (λ x. refl) (λ x fits. fits),
        (
          reads open_file open_file_law (λ x. refl) (λ x fits. fits),
          (
            reads close_file open_law (λ x. refl) (λ x fits. fits),
            (
              reads delete_file delete_law (λ x. refl) (λ x fits. fits),
              (
                reads read_pages run_in_mode_law (λ x. refl) (λ x fits. fits),
                (
                  reads write_pages write_law (λ x. refl) (λ x fits. fits),
                  (
                    reads lock_pages run_in_mode_law (λ x. refl) (λ x fits. fits),
                    (
                      reads set_size size_law (λ x. refl) (λ x fits. fits),
                      (
                        reads read_props open_law (λ x. refl) (λ x fits. fits),
                        (
                          reads write_props change_law (λ x. refl) (λ x fits. fits),
                          (
                            reads read_owner owner_law (λ x. refl) (λ x fits. fits),
                            (
                              reads make_owner make_law (λ x. refl) (λ x fits. fits),
                              (
                                reads set_quota quota_law (λ x. refl) (λ x fits. fits),
                                (
                                  reads finish finish_law (λ x. refl) (λ x fits. fits),
                                  (
                                    reads outcome trans_id_law (λ x. refl) (λ x fits. fits),
                                    (
                                      reads collect u32_law (λ x. refl) (λ x fits. fits),
                                      tt,
                                    ),
                                  ),
                                ),
                              ),
                            ),
                          ),
                        ),
                      ),
                    ),
                  ),
                ),
              ),
            ),
          ),
        ),
      ),
    ),
  ),
)
