use Rattle.std.proofs.Common.{◌≡◌, [], ◌∷◌, ◌∙◌, sym, subst, rules}
use Rattle.alp_base.specs.declared.key.Key.TheVariants.{Leader, OwnerOf}
use Rattle.alp_base.specs.declared.cell.Cell.TheVariants as cell
use Rattle.alp_base.specs.declared.cell.Props.{Props}
use Rattle.alp_files.specs.Edits.{Edit, Put}
use Rattle.alp_files.specs.Undo.{puts_of}
use Rattle.alp_trans.specs.Parts.{own_of}
use Rattle.alp_calls.specs.Parts.{seen}
use Rattle.alp_calls.proofs.PartLemmas.{create_refused, file_created, two_edits}
use Rattle.alp_calls.proofs.file_calls.create_file.Goals as goal

pub returns-in-Err-clause-right : goal.returns-in-Err-clause-right
returns-in-Err-clause-right g c = λ told made fresh.
    create_refused (seen (g.V.Vault.held c.args.vault.now).cells c.args.part.now) (own_of c.args.part.now) c.args.id.server made c.args.who c.args.start.now c.in-Err.refusal
    (sym (c.in_ok-owner.ensures.charged told) ∙ c.in-Err.is)

pub returns-clause-right : goal.returns-clause-right
returns-clause-right g c = λ told.
    let start : c.in_ok-props.props ≡ c.args.start.now = search rules in
    let leader : Props → Edit = λ (p : Props). Put (Leader c.args.id) (cell.Leader (record p { byte_length = 0; high_water = 0 })) in
    let owner : Edit = Put (OwnerOf c.args.start.now.owner) (cell.Owner c.in-Ok.owner) in
    let items : puts_of c.in_ok-puts.puts.items ≡ leader c.in_ok-props.props ∷ owner ∷ [] = two_edits c.in_ok-puts.puts.items _ _ _ _ c.in_ok-puts.ensures.items in
    file_created (seen (g.V.Vault.held c.args.vault.now).cells c.args.part.now) (own_of c.args.part.now) c.args.who c.args.id c.args.start.now c.in-Ok.owner c.in_ok-puts.puts.items
    (sym (c.in_ok-owner.ensures.charged told) ∙ c.in-Ok.is)
    (c.requires.new told)
    (subst (λ (p : Props). puts_of c.in_ok-puts.puts.items ≡ leader p ∷ owner ∷ []) start items)
