use Rattle.std.specs.Prelude.{true}
use Rattle.std.proofs.Common.{◌≡◌, ◌∙◌, ap, subst}
use Rattle.alp_store.specs.Shelves.{IsServing}
use Rattle.alp_store.specs.StoreStates.{StoreOf}
use Rattle.alp_store.specs.declared.stage.Stage.{Stage}
use Rattle.alp_store.proofs.KnowLaws.{not_serving, limits, server, fitting, fitted, as_held, settles}
use Rattle.alp_store.proofs.store.StoreVault.knows.Goals as goal

pub returns-in_default : goal.returns-in_default
returns-in_default g c =
    let st = c.self.inside.stage in
    let serves = c.self.inside.serves in
    let v = c.args.self.now in
    let nobody = λ (e : v.serves ≡ true). not_serving g.D.Disk st c.in_default.not-Open (c.self.invariant.serving (ap (λ (x : StoreOf g.row.D.Denot). x.serves) c.self.view_is ∙ e)) in
    record {
      limits = limits g.D.Disk st serves v c.self.view_is c.self.invariant.store;
      server = server g.D.Disk st serves v c.self.view_is c.self.invariant.store;
      fitting = λ x told m. fitting g.D.Disk st serves v c.self.view_is c.self.invariant.store x m;
      fitted = λ start x told m. fitted g.D.Disk st serves v c.self.view_is c.self.invariant.store start x m;
      as_held = λ told serving. absurd (nobody serving);
      settled = λ told serving. absurd (nobody serving);
    }

pub returns : goal.returns
returns g c =
    let st = c.self.inside.stage in
    let serves = c.self.inside.serves in
    let v = c.args.self.now in
    let open_ = λ (e : v.serves ≡ true). subst (λ (x : Stage g.row.D.Denot). IsServing g.D.Disk x) c.in-Open.is (c.self.invariant.serving (ap (λ (x : StoreOf g.row.D.Denot). x.serves) c.self.view_is ∙ e)) in
    record {
      limits = limits g.D.Disk st serves v c.self.view_is c.self.invariant.store;
      server = server g.D.Disk st serves v c.self.view_is c.self.invariant.store;
      fitting = λ x told m. fitting g.D.Disk st serves v c.self.view_is c.self.invariant.store x m;
      fitted = λ start x told m. fitted g.D.Disk st serves v c.self.view_is c.self.invariant.store start x m;
      as_held = λ told serving. as_held g.D.Disk st serves v c.self.view_is c.self.invariant.store c.in-Open.shelf c.in-Open.is (open_ serving) (λ there. c.knows.ensures.known there (open_ serving).alive) g.met.D.Disk.as_read told;
      settled = λ told serving. settles g.D.Disk st serves v c.self.view_is c.self.invariant.store c.in-Open.shelf c.in-Open.is (open_ serving) (λ there. c.knows.ensures.known there (open_ serving).alive) g.met.D.Disk.counts_now told;
    }
