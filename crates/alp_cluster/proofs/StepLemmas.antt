-- what a server keeps is what its journal says, and how it goes on by one entry more
use Rattle.std.specs.Prelude.{IsTrue}
use Rattle.std.proofs.Common.{◌≡◌, List, [], ◌∷◌, ◌++◌, sym, ◌∙◌, ap, subst}
use Rattle.alp_journal.specs.declared.entry.Entry.{Entry}
use Rattle.alp_journal.specs.Along.{Along, state_after}
use Rattle.alp_journal.specs.Opening.{Start}
use Rattle.alp_journal.specs.State.{State, opened}
use Rattle.alp_journal.specs.Moves.{next as next_state}
use Rattle.alp_node.proofs.NodeLemmas.{state_after-push, Along-push}
use Rattle.alp_vault.specs.declared.vault.Vault.{Ghosts}
use Rattle.alp_node.specs.NodeStates.{NodeState}
use Rattle.alp_node.specs.Nodes as node
use Rattle.alp_node.specs.Nodes.{IsConsistent, start_in}
use Rattle.alp_cluster.specs.Servers.{state_of}

-- ---- what a server keeps is what its journal says

module _ {V : Type 0} (G : Ghosts V) (n : NodeState V) (kept : IsConsistent G n) (told : IsTrue (G.tells n.kept.vault)) where
  right : node.IsRight (start_in G n) (G.held n.kept.vault) n
  right = kept.right told

  pub kept_epoch : (state_of G n).ids.epoch ≡ n.kept.epoch
  kept_epoch = ap (λ (s : State). s.ids.epoch) right.says ∙ right.kept.epoch

  pub kept_clock : (state_of G n).holder.clock ≡ n.kept.clock
  kept_clock = ap (λ (s : State). s.holder.clock) right.says ∙ right.kept.clock

  pub kept_server : (state_of G n).holder.server ≡ n.kept.server
  kept_server = ap (λ (s : State). s.holder.server) right.says ∙ right.kept.server

-- ---- an entry more

-- the law at the last entry
last_law : {S E : Type 0} (step : S → E → S) (law : S → E → Type 0) (s : S) (es : List E) (e : E) → Along step law s (es ++ e ∷ []) → law (state_after step s es) e
last_law step law s [] e h = h.0
last_law step law s (x ∷ es) e h = last_law step law (step s x) es e h.1

module _ {V : Type 0} (G : Ghosts V) (n m : NodeState V) (e : Entry) (same : start_in G m ≡ start_in G n) (journal : m.journal ≡ n.journal ++ e ∷ []) where
  pub state_more : state_of G m ≡ next_state (state_of G n) e
  state_more =
      ap (λ (o : Start). state_after next_state (opened o) m.journal) same
      ∙ ap (λ (js : List Entry). state_after next_state (opened (start_in G n)) js) journal
      ∙ state_after-push next_state (opened (start_in G n)) n.journal e

  pub law_more : (law : State → Entry → Type 0) → Along next_state law (opened (start_in G m)) m.journal → law (state_of G n) e
  law_more law h =
      last_law next_state law (opened (start_in G n)) n.journal e
      (subst (λ (js : List Entry). Along next_state law (opened (start_in G n)) js) journal (subst (λ (o : Start). Along next_state law (opened o) m.journal) same h))

  -- what holds along the journal and of the last entry holds along all
  pub along_more : (law : State → Entry → Type 0) → Along next_state law (opened (start_in G n)) n.journal → law (state_of G n) e → Along next_state law (opened (start_in G m)) m.journal
  along_more law h last =
      subst (λ (o : Start). Along next_state law (opened o) m.journal) (sym same)
      (subst (λ (js : List Entry). Along next_state law (opened (start_in G n)) js) (sym journal) (Along-push next_state law (opened (start_in G n)) n.journal e h last))
