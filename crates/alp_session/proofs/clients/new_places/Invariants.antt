use Rattle.std.proofs.Common.{◌≡◌, replicate}
use Rattle.alp_session.specs.Clients.{new_client}
use Rattle.alp_session.proofs.clients.new_places.Given as goal

abbrev pub invariant-loop-place : goal.invariant-loop-place
invariant-loop-place l = l.places.items ≡ replicate l._place new_client
