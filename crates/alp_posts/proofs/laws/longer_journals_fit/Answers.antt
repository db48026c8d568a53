use Rattle.alp_posts.proofs.TableLemmas.{longer_fits}
use Rattle.alp_posts.proofs.laws.longer_journals_fit.Goals as goal

pub returns : goal.returns
returns c journals longer p grow fits = longer_fits journals longer p grow fits
