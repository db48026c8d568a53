-- a server that was started, for which there was no memory, is given back with its disk
use Rattle.std.specs.Prelude.{IsTrue}
use Rattle.std.proofs.Common.{inr, ◌≡◌, ℕ, refl, sym, ◌∙◌, ap, subst}
use Rattle.std.specs.FinMap as map
use Rattle.alp_base.specs.Crashes.{Only}
use Rattle.alp_base.specs.declared.faults.Sizes.{Sizes}
use Rattle.alp_disk.specs.declared.disk.Disk.{Ghosts}
use Rattle.alp_fields.specs.ClockNote.{clock_name, clock_form}
use Rattle.alp_fields.specs.declared.clock_note.ClockNote.{ClockNote}
use Rattle.alp_journal.specs.Opening.{Start}
use Rattle.alp_node.specs.Nodes.{start_in}
use Rattle.alp_node.specs.NodeStates.{NodeState}
use Rattle.alp_node.specs.Starts.{with_clock}
use Rattle.alp_vault.specs.Contents.{Contents}
use Rattle.alp_vault.specs.declared.vault.Vault.{Ghosts as VaultGhosts}
use Rattle.alp_top.specs.Disks.{IsStarted, IsGiven, notes_in}
use Rattle.alp_top.specs.Volumes.{IsOpenedNew, IsOpenedOn, HoldsOrRaised, HoldsNothing, IsWanting, empty_contents}
use Rattle.alp_top.proofs.BeginLemmas.{holds_by, raised_nothing}

module _ {V D : Type 0} (G : VaultGhosts V) (g : Ghosts D) (sizes : Sizes) (server servers : ℕ) (n : NodeState V) (v : V) (d e : D) (started : IsStarted G g sizes server servers d n) (told : IsTrue (g.tells d)) (is : v ≡ n.kept.vault)
    (settled : Only (G.held v) (G.may_leave v)) (back : IsGiven G g v e) where
  abbrev o : Start
  o = start_in G n

  telling : IsTrue (G.tells v)
  telling = subst (λ (w : V). IsTrue (G.tells w)) (sym is) (subst IsTrue (sym started.telling) told)

  at_once : v ≡ n.opening.vault.value
  at_once = is ∙ sym started.idle.opening

  number : G.server v ≡ server
  number = ap G.server is ∙ started.on.kept.number ∙ started.number

  all : G.servers v ≡ servers
  all = ap G.servers is ∙ started.on.kept.all ∙ started.count

  volume : G.volume v ≡ o.sizes
  volume = ap G.volume at_once

  -- its vault holds what it opened on, with the note that it raised
  held_raised : (before : Contents) (k : ClockNote) → o.cells ≡ before.cells → notes_in G n ≡ map.insert before.notes clock_name (clock_form.spell k) → G.held v ≡ with_clock before k
  held_raised before k cells notes =
      let cells_are : (G.held v).cells ≡ before.cells = ap (λ (w : V). (G.held w).cells) at_once ∙ cells in
      let notes_are : (G.held v).notes ≡ map.insert before.notes clock_name (clock_form.spell k) = ap (λ (w : V). (G.held w).notes) at_once ∙ notes in
      λ i. record { cells = cells_are i; notes = notes_are i }

  back_on : IsOpenedOn server servers (g.size d) (g.seen d) o (notes_in G n) → HoldsOrRaised g server servers d e
  back_on was =
      let k : ClockNote = record { epoch = o.epoch; clock = o.clock } in
      record {
        home = o.sizes.home;
        held = was.held;
        holds = was.holds;
        own = was.own;
        left = λ image may.
            let (c, holds, may_be) = back.whole telling image may in (
              c,
              holds_by _ _ _ _ _ _ _ _ image c number all refl (ap (λ (z : Sizes). z.home) volume) holds,
              inr (k, was.next, settled c may_be ∙ held_raised was.held k was.cells was.noted),
            );
        read = back.read telling;
      }

  back_new : IsOpenedNew sizes o (notes_in G n) → HoldsNothing g sizes server servers e
  back_new was =
      let k : ClockNote = record { epoch = 1; clock = 0 } in
      record {
        left = λ image may.
            let (c, holds, may_be) = back.whole telling image may in (
              c,
              holds_by _ _ _ _ _ _ _ _ image c number all refl (ap (λ (z : Sizes). z.home) (volume ∙ was.sizes_are)) holds,
              inr (k, raised_nothing empty_contents refl, settled c may_be ∙ held_raised empty_contents k was.cells was.noted),
            );
        read = back.read telling;
      }

  -- so its disk is as its start left it
  pub wanting_back : IsWanting g sizes server servers d e
  wanting_back = record {
    unfailed = back.faults ∙ ap G.faults is ∙ started.faults;
    old = λ old. inr (back_on (started.found told old));
    new = λ new. inr (back_new (started.new told new));
  }
