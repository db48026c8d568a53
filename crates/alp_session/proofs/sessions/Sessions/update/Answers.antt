use Rattle.alp_session.proofs.MapLemmas.{put_stood}
use Rattle.alp_session.proofs.sessions.Sessions.update.Goals as goal

pub returns : goal.returns
returns c = put_stood c.args.self.now c.put.new.self c.args.server c.args.greeted c.requires c.put.result c.put.ensures.ok c.put.ensures.absent
