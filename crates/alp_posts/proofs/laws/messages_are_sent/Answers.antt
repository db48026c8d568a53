use Rattle.alp_posts.proofs.MessageLemmas.{sent_by}
use Rattle.alp_posts.proofs.laws.messages_are_sent.Goals as goal

pub returns : goal.returns
returns c to n m journal stands = sent_by to n m journal stands
