use Rattle.std.proofs.Common.{◌∙◌, ap, refl}
use Rattle.alp_fields.specs.Forms.{whole}
use Rattle.alp_pages.specs.Pages.{index_page}
use Rattle.alp_pages.proofs.IndexLaws.{row_page}
use Rattle.alp_pages.proofs.index.IndexPlaces.page.Goals as goal

pub returns : goal.returns
returns c = ap (whole index_page) c.new.ensures ∙ row_page c.args.self.now c.self.inside.places _ c.set_u32s.new.out c.self.told c.self.view_is refl c.requires c.set_u32s.ensures
