use Rattle.std.specs.Prelude.{Some, None, true, false, is_some}
use Rattle.std.specs.Option.{option_copied}
use Rattle.std.proofs.Common.{inl, inr, ◌⊎◌, ◌≡◌, ℕ, refl, sym, ap, ◌∙◌, subst}
use Rattle.alp_files.specs.declared.call.Call.TheVariants as call
use Rattle.alp_files.specs.declared.refusal.Cause.{Cause}
use Rattle.alp_files.specs.declared.refusal.Refusal.TheVariants as refusal
use Rattle.alp_node.specs.Standings.{standing_of}
use Rattle.alp_coord.specs.Coordinators.{count_of}
use Rattle.alp_node.specs.Waits.{IsCallBy, IsWaitingCall, call_at, is_at}
use Rattle.alp_node.specs.declared.served.Standing.{Standing}
use Rattle.alp_node.specs.declared.served.Standing.TheVariants as standing
use Rattle.alp_node.specs.declared.waits.WaitingCall.{WaitingCall}
use Rattle.alp_node.proofs.CollectLemmas.{its_client, its_number, known_standing, collect_none_stepped, collect_dead_stepped, collect_waits_stepped}
use Rattle.alp_node.proofs.StandingLemmas.{WorksHere, works_here}
use Rattle.alp_node.proofs.StepLemmas.{refused_step}
use Rattle.alp_node.proofs.WaitLemmas.{find_each}
use Rattle.alp_node.proofs.server_state.ServerState.collect.Goals as goal

-- no such call waits
pub returns-in_default : goal.returns-in_default
returns-in_default g c =
    let G = g.V.Vault in
    let k = c.args.self.now in
    let turn = c.args.turn.now in
    let none : call_at turn.client c.args.number k.waits ≡ None = sym c.get.ensures ∙ ap option_copied c.in_default.is in
    refused_step G k c.refuse.new.self turn (call.Collect c.args.number) c.refuse.result refusal.UnknownTrans refl c.requires.turn c.requires.up c.refuse.ensures.kept c.refuse.ensures.answer
    (λ told a h. collect_none_stepped a (G.faults k.vault) (G.faults k.vault) (G.held k.vault) k turn c.args.number c.refuse.result h c.requires.turn c.requires.up none c.refuse.ensures.answer)
    tt

-- its part ended
pub returns-in-Ended : goal.returns-in-Ended
returns-in-Ended g c =
    let G = g.V.Vault in
    let k = c.args.self.now in
    let turn = c.args.turn.now in
    let w : WaitingCall = c.in-Some.waiting.now in
    let found : call_at turn.client c.args.number k.waits ≡ Some w = sym c.in-Some.ensures in
    let some : is_some w.counts ≡ true = ap is_some c.in-Some-counts.is in
    let refuse = c.refuse-in-Ended in
    refused_step G k refuse.new.self turn (call.Collect c.args.number) refuse.result (refusal.Aborted c.in-Ended.cause) refl c.requires.turn c.requires.up refuse.ensures.kept refuse.ensures.answer
    (λ told a h. collect_dead_stepped a (G.faults k.vault) (G.faults k.vault) (G.held k.vault) k turn c.args.number w c.requires.ready.0 (G.serves k.vault) c.requires.ready.2 found some c.in-Ended.cause refuse.result h c.requires.turn c.requires.up
    (sym c.standing.ensures ∙ c.in-Ended.is) refuse.ensures.answer)
    tt

-- it stands in no other way
not_so : (s z : Standing) → s ≡ z → (z ≡ standing.Work → ⊥) → ((c : Cause) → z ≡ standing.Ended c → ⊥) → (s ≡ standing.Work) ⊎ ((c : Cause) × (s ≡ standing.Ended c)) → ⊥
not_so s z is work ended (inl e) = work (sym is ∙ e)
not_so s z is work ended (inr e) = ended e.0 (sym is ∙ e.1)

pub returns-in-Unknown : goal.returns-in-Unknown
returns-in-Unknown g c =
    let G = g.V.Vault in
    let k = c.args.self.now in
    let turn = c.args.turn.now in
    let w : WaitingCall = c.in-Some.waiting.now in
    let found : call_at turn.client c.args.number k.waits ≡ Some w = sym c.in-Some.ensures in
    let some : is_some w.counts ≡ true = ap is_some c.in-Some-counts.is in
    let refuse = c.refuse-in-Unknown in
    refused_step G k refuse.new.self turn (call.Collect c.args.number) refuse.result refusal.UnknownTrans refl c.requires.turn c.requires.up refuse.ensures.kept refuse.ensures.answer
    (λ told a h. absurd (not_so (standing_of k turn.client w.trans) standing.Unknown (sym c.standing.ensures ∙ c.in-Unknown.is) (λ e. cc) (λ y e. cc)
    (known_standing a (G.held k.vault) k turn.client c.args.number w c.requires.ready.0 (G.serves k.vault) c.requires.ready.2 found some h)))
    tt

pub returns-in-Joining : goal.returns-in-Joining
returns-in-Joining g c =
    let G = g.V.Vault in
    let k = c.args.self.now in
    let turn = c.args.turn.now in
    let w : WaitingCall = c.in-Some.waiting.now in
    let found : call_at turn.client c.args.number k.waits ≡ Some w = sym c.in-Some.ensures in
    let some : is_some w.counts ≡ true = ap is_some c.in-Some-counts.is in
    let refuse = c.refuse-in-Joining in
    refused_step G k refuse.new.self turn (call.Collect c.args.number) refuse.result refusal.UnknownTrans refl c.requires.turn c.requires.up refuse.ensures.kept refuse.ensures.answer
    (λ told a h. absurd (not_so (standing_of k turn.client w.trans) standing.Joining (sym c.standing.ensures ∙ c.in-Joining.is) (λ e. cc) (λ y e. cc)
    (known_standing a (G.held k.vault) k turn.client c.args.number w c.requires.ready.0 (G.serves k.vault) c.requires.ready.2 found some h)))
    tt

pub returns-in-Finishing : goal.returns-in-Finishing
returns-in-Finishing g c =
    let G = g.V.Vault in
    let k = c.args.self.now in
    let turn = c.args.turn.now in
    let w : WaitingCall = c.in-Some.waiting.now in
    let found : call_at turn.client c.args.number k.waits ≡ Some w = sym c.in-Some.ensures in
    let some : is_some w.counts ≡ true = ap is_some c.in-Some-counts.is in
    let refuse = c.refuse-in-Finishing in
    refused_step G k refuse.new.self turn (call.Collect c.args.number) refuse.result refusal.UnknownTrans refl c.requires.turn c.requires.up refuse.ensures.kept refuse.ensures.answer
    (λ told a h. absurd (not_so (standing_of k turn.client w.trans) standing.Finishing (sym c.standing.ensures ∙ c.in-Finishing.is) (λ e. cc) (λ y e. cc)
    (known_standing a (G.held k.vault) k turn.client c.args.number w c.requires.ready.0 (G.serves k.vault) c.requires.ready.2 found some h)))
    tt

-- it has not its locks
pub returns-then-not-waiting : goal.returns-then-not-waiting
returns-then-not-waiting g c =
    let G = g.V.Vault in
    let k = c.args.self.now in
    let turn = c.args.turn.now in
    let w : WaitingCall = c.in-Some.waiting.now in
    let found : call_at turn.client c.args.number k.waits ≡ Some w = sym c.in-Some.ensures in
    let some : is_some w.counts ≡ true = ap is_some c.in-Some-counts.is in
    let mine : WorksHere k turn.client w.trans = works_here c.requires.ready.0 (G.serves k.vault) k c.requires.ready.2 turn.client w.trans (sym c.standing.ensures ∙ c.in-Work.is) in
    let refuse = c.refuse-then-not-waiting in
    refused_step G k refuse.new.self turn (call.Collect c.args.number) refuse.result refusal.NotYet refl c.requires.turn c.requires.up refuse.ensures.kept refuse.ensures.answer
    (λ told a h. collect_waits_stepped a (G.faults k.vault) (G.faults k.vault) (G.held k.vault) k turn c.args.number w c.requires.ready.0 (G.serves k.vault) c.requires.ready.2 found some mine.live refuse.result h c.requires.turn c.requires.up mine.there
    c.if-not-waiting.true refuse.ensures.answer)
    tt

pub collect_granted-requires-clause-works : goal.collect_granted-requires-clause-works
collect_granted-requires-clause-works g c = sym c.standing.ensures ∙ c.in-Work.is

pub collect_granted-requires-clause-waiting : goal.collect_granted-requires-clause-waiting
collect_granted-requires-clause-waiting g c =
    let k = c.args.self.now in
    let client : ℕ = c.args.turn.now.client in
    let w : WaitingCall = c.in-Some.waiting.now in
    let found : call_at client c.args.number k.waits ≡ Some w = sym c.in-Some.ensures in
    let some : is_some w.counts ≡ true = ap is_some c.in-Some-counts.is in
    let steps = c.requires.ready.0 in
    let serves = g.V.Vault.serves k.vault in
    let of : w.client ≡ client = its_client k client c.args.number w steps serves c.requires.ready.2 found some in
    let at : w.number ≡ c.args.number = its_number k client c.args.number w steps serves c.requires.ready.2 found some in
    let granted : w.is_granted ≡ true = c.if-not-waiting.false in
    let copy : c.in_ok-call.call ≡ w.call = c.in_ok-call.ensures in
    found ∙ (λ i. Some (record { client = of i; number = at i; trans = w.trans; call = sym copy i; counts = c.in-Some-counts.is i; is_granted = granted i }))

-- a Join or a Finish
pub collect_other-requires-clause-waiting : goal.collect_other-requires-clause-waiting
collect_other-requires-clause-waiting g c =
    let k = c.args.self.now in
    let client : ℕ = c.args.turn.now.client in
    let w : WaitingCall = c.in-Some.waiting.now in
    let found : call_at client c.args.number k.waits ≡ Some w = sym c.in-Some.ensures in
    let waits : IsWaitingCall k.server k.epoch k.given (count_of k.coordinator) k.sizes k.lives w = (find_each (IsWaitingCall k.server k.epoch k.given (count_of k.coordinator) k.sizes k.lives) (is_at client c.args.number) k.waits w found c.requires.ready.2.waits.calls).0 in
    let named : IsCallBy w.call w.trans None = subst (IsCallBy w.call w.trans) c.in_default-counts.is waits.named in
    (w, found, c.in_default-counts.is, named.0, named.1)
