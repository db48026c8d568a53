use Rattle.std.proofs.Common.{◌≡◌, ◌++◌, drop}
use Rattle.alp_report.specs.Replies.{pages_text}
use Rattle.alp_report.proofs.pages.put_pages.Given as goal

abbrev pub invariant-loop-page : goal.invariant-loop-page
invariant-loop-page l = l.out.items ++ pages_text (drop l.page-index l.pages) ≡ l.fn.out.items ++ pages_text l.pages
