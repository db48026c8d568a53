use Rattle.std.specs.Prelude.{Bool}
use Rattle.std.proofs.Common.{◌≡◌, length, refl, sym, ◌∙◌, ap, subst}
use Rattle.std.proofs.lemmas.Result.{on_ok_weaker}
use Rattle.alp_lines.specs.Named.{client_named, server_named, receiver_named}
use Rattle.alp_lines.specs.declared.line.Line.{Line}
use Rattle.alp_lines.specs.declared.line.Line.TheVariants as line
use Rattle.alp_cluster.proofs.DidLemmas.{gone_none}
use Rattle.alp_cluster.proofs.GoneLemmas.{end_map}
use Rattle.alp_cluster.proofs.OtherLemmas.{gives_none, did_none, did_line, some_line, carry_from, carry_to, lose_from, lose_to, again_from, again_to}
use Rattle.alp_course.specs.Plays.{GivesLine}
use Rattle.alp_cluster.proofs.parties.Parties.play_message.Goals as goal

pub carry_other-requires-clause-on : goal.carry_other-requires-clause-on
carry_other-requires-clause-on g c = c.requires.step.on

pub carry_other-requires-clause-from : goal.carry_other-requires-clause-from
carry_other-requires-clause-from g c = carry_from c.args.self.now.stations c.args.line.now c.in-Carry.from c.in-Carry.to c.requires.ours c.in-Carry.is

pub carry_other-requires-clause-to : goal.carry_other-requires-clause-to
carry_other-requires-clause-to g c = carry_to c.args.self.now.stations c.args.line.now c.in-Carry.from c.in-Carry.to c.requires.ours c.in-Carry.is

pub returns-in-Carry-clause-did : goal.returns-in-Carry-clause-did
returns-in-Carry-clause-did g c =
    let s = c.args.self.now.stations in
    on_ok_weaker c.carry_other.result (λ d. did_line g.V.Vault (length s.all.items) c.args.self.now.clients c.args.line.now (line.Carry c.in-Carry.from c.in-Carry.to) s c.carry_other.new.self c.in-Carry.is d) c.carry_other.ensures.did

pub returns-in-Carry-clause-ended : goal.returns-in-Carry-clause-ended
returns-in-Carry-clause-ended g c =
    let s = c.args.self.now.stations in
    end_map c.carry_other.result _ _ (λ f d. some_line g.V.Vault (length s.all.items) c.args.self.now.clients c.args.line.now (line.Carry c.in-Carry.from c.in-Carry.to) f s c.carry_other.new.self c.in-Carry.is d) c.carry_other.ensures.ended

pub lose_other-requires-clause-on : goal.lose_other-requires-clause-on
lose_other-requires-clause-on g c = c.requires.step.on

pub lose_other-requires-clause-from : goal.lose_other-requires-clause-from
lose_other-requires-clause-from g c = lose_from c.args.self.now.stations c.args.line.now c.in-Lose.from c.in-Lose.to c.requires.ours c.in-Lose.is

pub lose_other-requires-clause-to : goal.lose_other-requires-clause-to
lose_other-requires-clause-to g c = lose_to c.args.self.now.stations c.args.line.now c.in-Lose.from c.in-Lose.to c.requires.ours c.in-Lose.is

pub returns-in-Lose-clause-did : goal.returns-in-Lose-clause-did
returns-in-Lose-clause-did g c =
    let s = c.args.self.now.stations in
    did_line g.V.Vault (length s.all.items) c.args.self.now.clients c.args.line.now (line.Lose c.in-Lose.from c.in-Lose.to) s c.lose_other.new.self c.in-Lose.is c.lose_other.ensures.did

pub again_other-requires-clause-on : goal.again_other-requires-clause-on
again_other-requires-clause-on g c = c.requires.step.on

pub again_other-requires-clause-from : goal.again_other-requires-clause-from
again_other-requires-clause-from g c = again_from c.args.self.now.stations c.args.line.now c.in-Again.from c.in-Again.to c.requires.ours c.in-Again.is

pub again_other-requires-clause-to : goal.again_other-requires-clause-to
again_other-requires-clause-to g c = again_to c.args.self.now.stations c.args.line.now c.in-Again.from c.in-Again.to c.requires.ours c.in-Again.is

pub returns-in-Again-clause-did : goal.returns-in-Again-clause-did
returns-in-Again-clause-did g c =
    let s = c.args.self.now.stations in
    on_ok_weaker c.again_other.result (λ d. did_line g.V.Vault (length s.all.items) c.args.self.now.clients c.args.line.now (line.Again c.in-Again.from c.in-Again.to) s c.again_other.new.self c.in-Again.is d) c.again_other.ensures.did

pub returns-in-Again-clause-ended : goal.returns-in-Again-clause-ended
returns-in-Again-clause-ended g c =
    let s = c.args.self.now.stations in
    end_map c.again_other.result _ _ (λ f d. some_line g.V.Vault (length s.all.items) c.args.self.now.clients c.args.line.now (line.Again c.in-Again.from c.in-Again.to) f s c.again_other.new.self c.in-Again.is d) c.again_other.ensures.ended

pub returns-in_default-clause-gone : goal.returns-in_default-clause-gone
returns-in_default-clause-gone g c = gone_none g.V.Vault (Unit {0}) c.args.self.now.stations (tt {0})

pub returns-in_default-clause-did : goal.returns-in_default-clause-did
returns-in_default-clause-did g c =
    let s = c.args.self.now.stations in
    did_none g.V.Vault (GivesLine (length s.all.items) c.args.self.now.clients c.args.line.now) s c.requires.step.on
    (gives_none (length s.all.items) c.args.self.now.clients c.args.line.now c.requires.event c.requires.other c.in_default.not-Carry c.in_default.not-Lose c.in_default.not-Again)
