use Rattle.std.proofs.Common.{[], ◌∷◌, sym, ◌∙◌, ap}
use Rattle.alp_base.specs.declared.key.Key.TheVariants.{Leader}
use Rattle.alp_base.specs.declared.cell.Cell.TheVariants as cell
use Rattle.alp_base.specs.declared.cell.Props.{Props}
use Rattle.alp_files.specs.declared.reply.Reply.TheVariants as reply
use Rattle.alp_files.specs.Act.{Own, replied, open_at}
use Rattle.alp_files.specs.Cells.{View}
use Rattle.alp_files.specs.Edits.{Put}
use Rattle.alp_trans.specs.Parts.{own_of}
use Rattle.alp_calls.specs.Parts.{seen}
use Rattle.alp_calls.proofs.PartLemmas.{props_put}
use Rattle.alp_calls.proofs.prop_calls.write_props.Goals as goal

pub returns : goal.returns
returns g c =
    let own : Own = own_of c.args.part.now in
    let m : View = seen (g.V.Vault.held c.args.vault.now).cells c.args.part.now in
    record {
      right = λ told.
          props_put m own (open_at c.args.part.now.opens.items c.args.open_no) c.args.who c.args.change.now c.in-Ok.found (sym (c.in_ok-found.ensures.found told) ∙ c.in-Ok.is) c.in_default.not-Owner
          ∙ ap (λ (p : Props). replied own reply.Plain (Put (Leader c.in-Ok.found.opened.file) (cell.Leader p) ∷ [])) (sym c.in_ok-props.ensures.props)
          ∙ sym (c.in_ok-said.ensures.right own);
      id = c.in_ok-said.ensures.id;
      proper = c.in_ok-said.ensures.proper c.args.part.now;
      opens = c.in_ok-said.ensures.opens;
      pages = c.in_ok-said.ensures.pages;
      looked = c.in_ok-found.ensures.looked;
    }
