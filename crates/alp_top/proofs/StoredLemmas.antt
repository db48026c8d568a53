-- what a server leaves on its disk
use Rattle.std.specs.Prelude.{IsTrue, false, Option, None, Some}
use Rattle.std.proofs.Common.{inl, inr, ◌≡◌, ℕ, ◌<◌, ◌≤◌, [], refl, sym, ◌∙◌, ap, subst, arith}
use Rattle.std.specs.FinMap as map
use Rattle.alp_base.specs.Notes.{Notes}
use Rattle.alp_base.specs.declared.cell.Cell.{Cell}
use Rattle.alp_base.specs.declared.faults.Sizes.{Sizes}
use Rattle.alp_base.specs.declared.ids.FileId.{FileId}
use Rattle.alp_base.specs.declared.key.Key.TheVariants.{Leader}
use Rattle.alp_disk.specs.declared.disk.Disk.{Ghosts}
use Rattle.alp_files.specs.Apart.{AreSized}
use Rattle.alp_files.specs.Cells.{Cells}
use Rattle.alp_files.proofs.CellMapLemmas.{get_cell}
use Rattle.alp_fields.specs.ClockNote.{AreClockNotes, clock_kept}
use Rattle.alp_fields.specs.declared.clock_note.ClockNote.{ClockNote}
use Rattle.alp_journal.specs.Account.{Account, state_of as account_state}
use Rattle.alp_journal.specs.Opening.{Start, start_at}
use Rattle.alp_journal.specs.State.{State}
use Rattle.alp_journal.proofs.NoteLemmas.{none_ready, none_decided}
use Rattle.alp_node.specs.Durable.{IsSaid}
use Rattle.alp_node.specs.Nodes as node
use Rattle.alp_node.specs.Nodes.{start_in}
use Rattle.alp_node.specs.NodeStates.{NodeState}
use Rattle.alp_node.proofs.StartLemmas.{raised_later}
use Rattle.alp_store.specs.Starts.{AreOfServer, IsNew}
use Rattle.alp_vault.specs.Contents.{Contents}
use Rattle.alp_vault.specs.Vault.{IsSameVault}
use Rattle.alp_vault.specs.Volumes.{AreServerNotes}
use Rattle.alp_vault.specs.declared.vault.Vault.{Ghosts as VaultGhosts}
use Rattle.alp_vault.proofs.VolumeLemmas.{alone_so_far}
use Rattle.alp_cluster.specs.Servers.{IsOn, state_of}
use Rattle.alp_top.specs.Disks.{IsStarted, IsGiven, notes_in}
use Rattle.alp_top.specs.Volumes.{IsOpenedNew, IsOpenedOn, IsBare, IsSoundAlone, IsStored}
use Rattle.alp_top.proofs.AwayDeeds.{gave_files}
use Rattle.alp_top.proofs.BeginLemmas.{holds_by, new_by}

module _ {V D : Type 0} (G : VaultGhosts V) (g : Ghosts D) (sizes : Sizes) (number servers : ℕ) (n m : NodeState V) (v : V) (d e : D) (begun : IsStarted G g sizes number servers d n) (told : IsTrue (g.tells d)) (on : IsOn G m) (here : m.kept.server ≡ number)
    (opening : m.opening ≡ n.opening) (telling : IsTrue (G.tells m.kept.vault)) where
  pub same_start : start_in G m ≡ start_in G n
  same_start = (λ i. node.start_by G ((here ∙ sym begun.number) i) (opening i).vault.value)

  same_notes : notes_in G m ≡ notes_in G n
  same_notes = ap (λ o. (G.held o.vault.value).notes) opening

  right : node.IsRight (start_in G m) (G.held m.kept.vault) m
  right = on.kept.right telling

  -- where it is the only one, it opened with nothing
  pub bare_as : servers ≡ 1 → IsBare (start_in G m)
  bare_as one = subst IsBare (sym same_start) (begun.alone told one)

  -- its opening
  pub opened_new : IsNew sizes (g.size d) (g.seen d) → IsOpenedNew sizes (start_in G m) (notes_in G m)
  opened_new is = subst (λ (o : Start). IsOpenedNew sizes o (notes_in G m)) (sym same_start) (subst (λ (ns : Notes). IsOpenedNew sizes (start_in G n) ns) (sym same_notes) (begun.new told is))

  pub opened_on : (IsNew sizes (g.size d) (g.seen d) → ⊥) → IsOpenedOn number servers (g.size d) (g.seen d) (start_in G m) (notes_in G m)
  opened_on old =
      subst (λ (o : Start). IsOpenedOn number servers (g.size d) (g.seen d) o (notes_in G m)) (sym same_start)
      (subst (λ (ns : Notes). IsOpenedOn number servers (g.size d) (g.seen d) (start_in G n) ns) (sym same_notes) (begun.found told old))

  pub started_as : start_in G m ≡ start_at number servers (start_in G m).sizes (start_in G m).cells (notes_in G m)
  started_as = (let v0 = m.opening.vault.value in (λ i. start_at (here i) ((ap (λ o. G.servers o.vault.value) opening ∙ begun.on.all ∙ begun.count) i) (G.volume v0) (G.held v0).cells (G.held v0).notes))

  -- it opened on files that it gave
  gave_before : (f : FileId) (c : Cell) → map.get (start_in G m).cells (Leader f) ≡ Some c → (f.server ≡ number) × (f.epoch ≤ (start_in G m).epoch)
  gave_before f c is = elim (new_by sizes (g.size d) (g.seen d)) [
    | inl new ↦ (let wrong : ◌≡◌ {A = Option Cell} None (Some c) = sym (get_cell [] (Leader f)) ∙ ap (λ (k : Cells). map.get k (Leader f)) (sym (opened_new new).cells) ∙ is in cc)
    | inr old ↦
        let w : IsOpenedOn number servers (g.size d) (g.seen d) (start_in G m) (notes_in G m) = opened_on old in
        let mine = w.own.files f c (ap (λ (k : Cells). map.get k (Leader f)) (sym w.cells) ∙ is) in
        let noted : f.epoch ≤ (clock_kept w.held.notes).epoch = mine.1 in
        let later : (clock_kept w.held.notes).epoch < (start_in G m).epoch = raised_later w.held (record { epoch = (start_in G m).epoch; clock = (start_in G m).clock }) w.next in
        (mine.0, omega (arith, noted, later))
  ]

  -- and so are those that its journal comes to
  gave_all : (f : FileId) (c : Cell) → map.get (state_of G m).holder.cells (Leader f) ≡ Some c → (f.server ≡ number) × (f.epoch ≤ (state_of G m).ids.epoch)
  gave_all f c is =
      let given = gave_files (start_in G m) m.journal right.lawful right.opening.before right.opening.earlier right.opening.ready (λ e x at. (let b = gave_before e x at in (b.0 ∙ sym here, b.1))) f c is in
      (given.0 ∙ here, given.1)

  -- what its vault holds
  pub holds_said : (up : m.kept.is_down ≡ false) → IsSaid (state_of G m) (G.held m.kept.vault)
  holds_said up = subst (λ (s : State). IsSaid s (G.held m.kept.vault)) (sym right.says) (record { cells = right.kept.cells up; notes = right.kept.notes up })

  module _ (up : m.kept.is_down ≡ false) (same : IsSameVault G.tells G.volume G.server G.servers n.kept.vault v) (held : G.held v ≡ G.held m.kept.vault) (serves : IsTrue (G.serves v)) (back : IsGiven G g v e) where
    its_server : G.server v ≡ number
    its_server = same.number ∙ begun.on.kept.number ∙ begun.number

    its_servers : G.servers v ≡ servers
    its_servers = same.of_all ∙ begun.on.kept.all ∙ begun.count

    its_volume : G.volume v ≡ (start_in G m).sizes
    its_volume = same.sizes ∙ ap G.volume (sym begun.idle.opening) ∙ ap (λ o. G.volume o.vault.value) (sym opening)

    tells : IsTrue (G.tells v)
    tells = subst IsTrue (sym (same.telling ∙ begun.telling)) told

    said : IsSaid (state_of G m) (G.held v)
    said = subst (λ c. IsSaid (state_of G m) c) (sym held) (holds_said up)

    as_server : (state_of G m).holder.server ≡ number
    as_server = ap (λ (s : State). s.holder.server) right.says ∙ right.kept.server ∙ here

    as_servers : (state_of G m).servers ≡ servers
    as_servers = ap (λ (s : State). s.servers) right.says ∙ right.kept.servers ∙ sym on.all ∙ ap (λ o. G.servers o.vault.value) opening ∙ begun.on.all ∙ begun.count

    own : AreOfServer number servers (G.held v)
    own = record {
      notes = subst (λ (k : ℕ). AreServerNotes number k (G.held v).notes) as_servers (subst (λ (k : ℕ). AreServerNotes k (state_of G m).servers (G.held v).notes) as_server said.notes.format);
      files = λ f c is.
          let gave = gave_all f c (ap (λ (k : Cells). map.get k (Leader f)) (sym said.cells) ∙ is) in
          (gave.0, subst (λ (k : ℕ). f.epoch ≤ k) (ap (λ (k : ClockNote). k.epoch) (sym said.notes.clock)) gave.1);
    }

    sound_alone : 1 ≤ number → number ≤ servers → servers ≡ 1 → IsSoundAlone (start_in G m) (G.held v)
    sound_alone first last one =
        let first_is : number ≡ 1 = omega (arith, first, last, one) in
        let format : AreServerNotes 1 1 (G.held v).notes = subst (λ (k : ℕ). AreServerNotes 1 k (G.held v).notes) one (subst (λ (k : ℕ). AreServerNotes k servers (G.held v).notes) first_is own.notes) in
        let clock : AreClockNotes (G.held v).notes = alone_so_far (G.held v).notes format in
        record {
          clock = clock;
          bare = record { ready = none_ready (G.held v).notes clock; decisions = none_decided (G.held v).notes clock };
        }

    pub stored : (P : Type 0) → 1 ≤ number → number ≤ servers → (P → G.faults v ≡ G.faults n.kept.vault) → IsStored g P number servers sizes (start_in G m) (notes_in G m) (state_of G m) d e
    stored P first last unfailed = record {
      new = opened_new;
      found = opened_on;
      held = G.held v;
      finish = holds_by _ _ _ _ _ _ _ _ (g.seen e) (G.held v) its_server its_servers refl (ap (λ (z : Sizes). z.home) its_volume) (back.holds tells serves);
      said = said;
      own = own;
      files = (back.files tells serves).sound;
      sized = subst (λ (c : Cells). AreSized (map.get c)) (sym (ap (λ c. c.cells) held ∙ right.kept.cells up)) right.kept.sized;
      durable = back.only tells serves;
      alone = sound_alone first last;
      sound = right.opening;
      unfailed = λ p. back.faults ∙ unfailed p ∙ begun.faults;
    }
