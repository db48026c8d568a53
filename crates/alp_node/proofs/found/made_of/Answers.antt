use Rattle.std.specs.Prelude.{map as list_map}
use Rattle.std.proofs.Common.{◌≡◌, ℕ, List, refl, ap, ◌∙◌, subst}
use Rattle.alp_coord.specs.Coordinators.{Finds, noted}
use Rattle.alp_coord.specs.declared.decision.Decision.{Decision}
use Rattle.alp_regain.specs.declared.part.RegainedPart.{RegainedPart}
use Rattle.alp_worker.specs.Regained.{joins_regained}
use Rattle.alp_worker.specs.declared.regain.ReadyPart.{ReadyPart}
use Rattle.alp_node.specs.Found.{OpensWith, RestartsWith, ready_of, join_of, stamp_of}
use Rattle.alp_node.proofs.found.made_of.Goals as goal

pub returns : goal.returns
returns c =
    let server : ℕ = c.args.of.0 in
    let epoch : ℕ = c.args.of.1 in
    let ps : List RegainedPart = c.args.regained.parts.items in
    let n : c.as_slice-4.result.now ≡ list_map ready_of ps = c.as_slice-4.ensures.value ∙ c.in_ok-noted.ensures ∙ ap (list_map ready_of) c.as_slice.ensures.value in
    record {
      lives = c.in_ok-lives.ensures;
      locks = refl;
      joins = c.in_ok-joins.ensures.same ∙ ap (λ (xs : List ReadyPart). joins_regained server epoch xs) n;
      opens = subst (λ (xs : List ReadyPart). OpensWith server epoch xs c.in_ok-joins.joins) n (λ o here now same. c.in_ok-joins.ensures.opened o here now same);
      restarts = subst (λ (xs : List ReadyPart). RestartsWith server epoch xs c.in_ok-joins.joins) n c.in_ok-joins.ensures.restarted;
      run = c.in_ok-coordinator.ensures.run;
      finds = subst (λ (ds : List Decision). Finds (list_map noted ds) c.in_ok-coordinator.coordinator) c.as_slice-5.ensures.value c.in_ok-coordinator.ensures.found;
      ready = c.new.ensures ∙ c.in_ok-ready.ensures ∙ ap (list_map join_of) c.as_slice-2.ensures.value;
      decided = c.new-2.ensures ∙ c.in_ok-decided.ensures ∙ ap (list_map stamp_of) c.as_slice-3.ensures.value;
    }
