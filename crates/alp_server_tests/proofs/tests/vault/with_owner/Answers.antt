use Rattle.std.proofs.Common.{refl, ◌∙◌}
use Rattle.alp_vault.proofs.Samples.{change_room}
use Rattle.alp_server_tests.proofs.tests.vault.with_owner.Goals as goal

pub returns : goal.returns
returns c = record { room = change_room _ _ refl (c.new-4.ensures ∙ c.new-3.ensures.items) (c.new-6.ensures ∙ c.new-5.ensures.items) (c.new-7.ensures ∙ c.in_ok-vec.ensures.items) }
