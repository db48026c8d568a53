use Rattle.std.proofs.Common.{◌≡◌, ℕ, List, true, subst}
use Rattle.alp_base.specs.declared.cell.Cell.{Cell}
use Rattle.alp_fields.specs.Forms.{IsWritten}
use Rattle.alp_fields.specs.Fields.{page}
use Rattle.alp_fields.specs.ChangeField.{is_cell_of}
use Rattle.alp_fields.proofs.ChangeFieldLaw.{on_ok, leader_written, page_written, owner_written}
use Rattle.alp_fields.proofs.change_field.put_cell.Goals as goal

pub returns-in-Leader : goal.returns-in-Leader
returns-in-Leader c =
    let of = subst (λ (x : Cell). is_cell_of c.args.at.now x ≡ true) c.in-Leader.is c.requires in
    rw c.in-Leader.is (on_ok c.put_props.result _ _ (leader_written c.args.at.now c.in-Leader.props c.args.out.now.items c.put_props.new.out.items of) c.put_props.ensures.ok)

pub returns-in-Page : goal.returns-in-Page
returns-in-Page c =
    let of = subst (λ (x : Cell). is_cell_of c.args.at.now x ≡ true) c.in-Page.is c.requires in
    rw c.in-Page.is (on_ok c.put_page.result _ _ (λ done. page_written c.args.at.now c.in-Page.page c.args.out.now.items c.put_page.new.out.items of
    (subst (λ (bs : List ℕ). IsWritten page bs c.args.out.now.items c.put_page.new.out.items) c.bytes.ensures.same done)) c.put_page.ensures.ok)

pub returns-in-Owner : goal.returns-in-Owner
returns-in-Owner c =
    let of = subst (λ (x : Cell). is_cell_of c.args.at.now x ≡ true) c.in-Owner.is c.requires in
    rw c.in-Owner.is (on_ok c.put_owner.result _ _ (owner_written c.args.at.now c.in-Owner.owner c.args.out.now.items c.put_owner.new.out.items of) c.put_owner.ensures.ok)
