use Rattle.std.specs.Prelude.{Option, Some}
use Rattle.std.specs.FinMap as map
use Rattle.std.proofs.Common.{◌≡◌, ℕ, ◌∙◌, ap}
use Rattle.alp_session.specs.Frames.{number_after}
use Rattle.alp_session.specs.Heard.{heard_in, heard_own}
use Rattle.alp_session.specs.declared.greeted.Greeted.{Greeted}
use Rattle.alp_session.proofs.client.Client.hears_own.Goals as goal

pub returns-clause-client : goal.returns-clause-client
returns-clause-client c =
    let seen : Some c.in-Some.greeted ≡ map.get c.args.self.now.sessions c.args.server = cc (c.in-Some.is, c.get.ensures) in
    let number : c.saturating_add.result ≡ number_after c.in-Some.greeted.last = c.saturating_add.ensures in
    c.in_ok-after.ensures.client
    ∙ ap (λ (n : ℕ). heard_in c.args.words.now c.args.self.now (record { server = c.args.server; number = n; next = c.args.next; settings = c.args.settings }) c.in-Some.greeted.joined c.args.line.now c.args.told.now) number
    ∙ ap (λ (o : Option Greeted). heard_own c.args.words.now c.args.settings c.args.self.now c.args.server o c.args.line.now c.args.next c.args.told.now) seen
