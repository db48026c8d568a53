use Rattle.std.specs.Prelude.{◌==◌, Bool, true, false, if◌then◌else◌}
use Rattle.std.proofs.Common.{List, [], ◌∷◌}
use Rattle.alp_journal.specs.declared.entry.Entry.{Entry}
use Rattle.alp_posts.specs.Messages.{HasGrown}
use Rattle.alp_posts.proofs.TableLemmas.{longer_fits, still_grown}
use Rattle.alp_session_tests.proofs.tests.posts.Pair.send_first.Goals as goal

one_grown : (b : Bool) (before after other : List Entry) → HasGrown before after → HasGrown (if b then before else other) (if b then after else other)
one_grown true before after other h = h
one_grown false before after other h = still_grown other

pub invariant_of-self-2 : goal.invariant_of-self-2
invariant_of-self-2 c =
    longer_fits (λ n. if n == 1 then c.self.inside.first else c.self.inside.second) (λ n. if n == 1 then c.push.new.self else c.self.inside.second) c.self.inside.posts
    (λ n. one_grown (n == 1) c.self.inside.first c.push.new.self c.self.inside.second (record { more = c.args.entry ∷ []; is = c.in_ok-push.ensures.ok })) c.self.invariant
