use Rattle.alp_posts.proofs.MessageLemmas.{messages_append, messages_kept}
use Rattle.alp_posts.proofs.laws.messages_stay.Goals as goal

pub returns-clause-grown : goal.returns-clause-grown
returns-clause-grown c to journal more = messages_append to journal more

pub returns-clause-kept : goal.returns-clause-kept
returns-clause-kept c to n m journal longer grown stands = messages_kept to n m journal longer grown stands
