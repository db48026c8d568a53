use Rattle.alp_script.proofs.ScriptLemmas.{resume-start}
use Rattle.alp_script.proofs.reader.Reader.new.Goals as goal

pub returns-clause-whole : goal.returns-clause-whole
returns-clause-whole c bytes = rw (c.new.ensures, c.new-2.ensures.items, c.new-3.ensures.items) (resume-start bytes)
