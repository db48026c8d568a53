use Rattle.std.specs.Prelude.{◌==◌, Bool, true, false, if◌then◌else◌}
use Rattle.std.proofs.Common.{List, [], ◌∷◌}
use Rattle.alp_journal.specs.declared.entry.Entry.{Entry}
use Rattle.alp_posts.specs.Messages.{HasGrown}
use Rattle.alp_posts.proofs.TableLemmas.{longer_fits, still_grown}
use Rattle.alp_session_tests.proofs.tests.posts.Pair.send_second.Goals as goal

other_grown : (b : Bool) (one before after : List Entry) → HasGrown before after → HasGrown (if b then one else before) (if b then one else after)
other_grown true one before after h = still_grown one
other_grown false one before after h = h

pub invariant_of-self-2 : goal.invariant_of-self-2
invariant_of-self-2 c =
    longer_fits (λ n. if n == 1 then c.self.inside.first else c.self.inside.second) (λ n. if n == 1 then c.self.inside.first else c.push.new.self) c.self.inside.posts
    (λ n. other_grown (n == 1) c.self.inside.first c.self.inside.second c.push.new.self (record { more = c.args.entry ∷ []; is = c.in_ok-push.ensures.ok })) c.self.invariant
