use Rattle.alp_pages.proofs.FileLaws.{file_added}
use Rattle.alp_pages.proofs.changes.a_file_comes.Goals as goal

pub returns : goal.returns
returns c home pages v m s f slot place unknown open_slot few free no_pages dbytes lbytes l has bare =
    file_added home pages v m s f slot place unknown open_slot few free no_pages dbytes lbytes l has bare.reads bare.file bare.empty
