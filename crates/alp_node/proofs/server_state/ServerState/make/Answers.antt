use Rattle.std.specs.Prelude.{Ok, Err, None, Some}
use Rattle.std.specs.FinMap as map
use Rattle.std.proofs.Common.{◌≡◌, ℕ, ◌+◌, ◌≤◌, List, ◌++◌, refl, sym, ap, ◌∙◌, subst, arith}
use Rattle.alp_base.specs.declared.key.Key.{Key}
use Rattle.alp_base.specs.declared.faults.Sizes.{Sizes}
use Rattle.alp_base.specs.declared.bytes.NoteChange.{NoteChange}
use Rattle.alp_calls.specs.Parts.{IsPart}
use Rattle.alp_journal.specs.declared.act.Act.{Act}
use Rattle.alp_vault.specs.Volumes.{AreNoteChanges}
use Rattle.alp_node.specs.Eases.{eased}
use Rattle.alp_node.specs.Releases.{grant_acts, granted_behind, let_go}
use Rattle.alp_node.specs.Writes.{HasLogFor, Writes}
use Rattle.alp_node.specs.declared.lives.Live.{Live}
use Rattle.alp_node.specs.declared.server_state.ServerState.{ServerState}
use Rattle.alp_node.specs.declared.stored.StoreFault.{StoreFault}
use Rattle.alp_node.specs.declared.stored.StoreFault.TheVariants as fault
use Rattle.alp_node.proofs.AloneCommits.{writes_none}
use Rattle.alp_node.proofs.CommitLemmas.{let_go_vault}
use Rattle.alp_node.proofs.KeptLemmas.{IsLive, live_there, same_live}
use Rattle.alp_node.proofs.PairedLemmas.{few_live}
use Rattle.alp_node.proofs.ReleaseLemmas.{let_go_most, let_go_parts}
use Rattle.alp_node.proofs.SpaceLemmas.{commit_fits}
use Rattle.alp_node.proofs.server_state.ServerState.make.Goals as goal

pub blocks_of-requires-clause-part : goal.blocks_of-requires-clause-part
blocks_of-requires-clause-part g c l there = (c.requires.ready.2.within c.args.trans l there).part

pub release-requires-clause-most : goal.release-requires-clause-most
release-requires-clause-most g c = few_live c.requires.ready.0 (g.V.Vault.serves c.args.self.now.vault) c.args.self.now c.requires.ready.2

pub release-requires-clause-part : goal.release-requires-clause-part
release-requires-clause-part g c u l there = (c.requires.ready.2.within u l there).part

pub ease_all-requires-clause-most : goal.ease_all-requires-clause-most
ease_all-requires-clause-most g c =
    let k = c.args.self.now in
    let v = c.store.new.vault in
    let few : map.len (let_go (record k { vault = v }) c.args.trans).lives ≤ 64 =
    (let fewer : map.len (let_go (record k { vault = v }) c.args.trans).lives ≤ map.len k.lives = let_go_most (record k { vault = v }) c.args.trans in
    let most : map.len k.lives ≤ 64 = few_live c.requires.ready.0 (g.V.Vault.serves k.vault) k c.requires.ready.2 in
    omega (arith, fewer, most)) in
    subst (λ (y : ServerState _). map.len y.lives ≤ 64) (sym c.release.ensures.after) few

pub ease_all-requires-clause-part : goal.ease_all-requires-clause-part
ease_all-requires-clause-part g c u l there =
    let k = c.args.self.now in
    let v = c.store.new.vault in
    let_go_parts IsPart (record k { vault = v }) c.args.trans (λ w m at. (c.requires.ready.2.within w m at).part) u l (sym (ap (λ (y : ServerState _). map.get y.lives u) c.release.ensures.after) ∙ there)

pub store-requires-clause-part : goal.store-requires-clause-part
store-requires-clause-part g c = (c.requires.ready.2.within c.args.trans c.in-Some.live.now (sym c.in-Some.ensures)).part

pub store-requires-clause-noted : goal.store-requires-clause-noted
store-requires-clause-noted g c =
    let k = c.args.self.now in
    let G = g.V.Vault in
    subst (λ (n : ℕ). AreNoteChanges n (G.servers k.vault) (G.held k.vault).notes c.args.notes.now) (sym c.requires.on.server)
    (subst (λ (n : ℕ). AreNoteChanges k.server n (G.held k.vault).notes c.args.notes.now) (sym c.requires.on.servers) c.requires.changes)

pub store-requires-clause-log : goal.store-requires-clause-log
store-requires-clause-log g c =
    let k = c.args.self.now in
    let l : Live = c.in-Some.live.now in
    subst (λ (s : Sizes). HasLogFor (g.V.Vault.held k.vault).notes s l c.args.notes.now) c.requires.on.sizes (c.requires.log l (sym c.in-Some.ensures))

pub store-requires-clause-room : goal.store-requires-clause-room
store-requires-clause-room g c told =
    let k = c.args.self.now in
    let G = g.V.Vault in
    let t = c.args.trans in
    let l : Live = c.in-Some.live.now in
    let there : map.get k.lives t ≡ Some l = sym c.in-Some.ensures in
    let (a, h) = c.requires.known told in
    let y : IsLive a.holder.cells k.locks.held (a.locked t) t l (a.holder.lives t) = live_there a.holder.cells k.locks.held (a.locked t) t (map.get k.lives t) (a.holder.lives t) l there (h.lives t) in
    commit_fits a (G.held k.vault) k h t l there y.life y.is y.alike (G.volume k.vault) c.requires.up c.requires.on.sizes (c.requires.ready.2.within t l there)
    (c.knows.ensures.fitting (G.held k.vault) told (c.knows.ensures.as_held told (c.requires.ready.2.serving c.requires.up))) (c.requires.sound told t l there)

pub returns-clause-made : goal.returns-clause-made
returns-clause-made g c =
    let k = c.args.self.now in
    let t = c.args.trans in
    let v = c.store.new.vault in
    let blocks : List Key = c.in_ok-blocks.blocks.items in
    let gone : c.release.new.self ≡ record (let_go k t) { vault = v } = c.release.ensures.after ∙ let_go_vault k v t in
    let last : c.ease_all.new.self ≡ record (let_go k t) { lives = eased blocks (let_go k t).lives (map.keys k.lives); vault = v } =
    c.ease_all.ensures ∙ ap (λ (y : ServerState _). record y { lives = eased c.as_slice-2.result.now y.lives c.as_slice.result.now }) gone
    ∙ (λ i. record (let_go k t) { lives = eased (c.as_slice-2.ensures.value i) (let_go k t).lives ((c.as_slice.ensures.value ∙ c.in_ok-others.ensures.ids) i); vault = v }) in
    record {
      blocks = blocks;
      opened = λ told l there. c.in_ok-blocks.ensures told l there;
      kept = last ∙ (λ i. record (let_go k t) { lives = eased blocks (let_go k t).lives (map.keys k.lives); vault = sym (ap (λ (y : ServerState _). y.vault) last) i });
    }

pub returns-clause-writes : goal.returns-clause-writes
returns-clause-writes g c l there =
    let k = c.args.self.now in
    let G = g.V.Vault in
    let t = c.args.trans in
    let v = c.store.new.vault in
    let vault : c.ease_all.new.self.vault ≡ v = ap (λ (y : ServerState _). y.vault) (c.ease_all.ensures ∙ ap (λ (y : ServerState _). record y { lives = eased c.as_slice-2.result.now y.lives c.as_slice.result.now }) (c.release.ensures.after ∙ let_go_vault k v t)) in
    let same : c.in-Some.live.now ≡ l = same_live c.in-Some.live.now l (c.in-Some.ensures ∙ there) in
    subst (λ w. Writes G k.vault w l.part c.args.notes.now (Ok tt)) (sym vault)
    (subst (λ (x : Live). Writes G k.vault v x.part c.args.notes.now (Ok tt)) same (record {
      same = c.in_ok-store.ensures.kept;
      cells = c.in_ok-store.ensures.cells;
      notes = c.in_ok-store.ensures.notes;
      leaves = c.in_ok-store.ensures.leaves;
      memory = c.in_ok-store.ensures.memory;
      spends = c.in_ok-store.ensures.allowance;
      ended = c.in_ok-store.ensures.ended;
    }))
