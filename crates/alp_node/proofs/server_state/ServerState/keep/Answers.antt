use Rattle.std.specs.Prelude.{max, Ok, Err}
use Rattle.std.proofs.Common.{true, ◌≡◌, List, refl, sym, ap, ◌∙◌, subst, inl, inr}
use Rattle.alp_base.specs.declared.bytes.NoteChange.{NoteChange}
use Rattle.alp_base.specs.declared.ids.TransId.{TransId}
use Rattle.alp_journal.specs.declared.act.Act.TheVariants as act
use Rattle.alp_node.specs.Writes.{HasMade, Writes}
use Rattle.alp_node.specs.declared.server_state.ServerState.{ServerState}
use Rattle.alp_node.specs.declared.stored.StoreFault.{StoreFault}
use Rattle.alp_node.specs.declared.stored.StoreFault.TheVariants as fault
use Rattle.alp_node.proofs.ReleaseLemmas.{let_go_of}
use Rattle.alp_node.proofs.server_state.ServerState.keep.Goals as goal

pub returns-in-Err-Failed-clause-made : goal.returns-in-Err-Failed-clause-made
returns-in-Err-Failed-clause-made g c =
    let k = c.args.self.now in
    let G = g.V.Vault in
    let v = c.make.new.self.vault in
    let last : c.fall_in.new.self ≡ record k { is_down = true; vault = v } = c.fall_in.ensures.kept ∙ ap (λ (y : ServerState _). record y { is_down = true }) c.in-Err-Failed.ensures.none in
    record {
      why = fault.Failed;
      shown = act.Failed;
      of = inl (refl, refl);
      kept = last ∙ (λ i. record k { is_down = true; vault = sym (ap (λ (y : ServerState _). y.vault) last) i });
      writes = λ l there.
          subst (λ w. Writes G k.vault w l.part c.args.pending.notes.items (Err fault.Failed)) (sym (ap (λ (y : ServerState _). y.vault) last))
          (subst (λ (f : StoreFault). Writes G k.vault v l.part c.args.pending.notes.items (Err f)) c.in-Err-Failed.field-0-is
          (subst (λ (ns : List NoteChange). Writes G k.vault v l.part ns (Err c.in-Err-Failed.field-0)) c.as_slice.ensures.value (c.in-Err-Failed.ensures.writes l there)));
      said = c.fall_in.ensures.acts;
    }

pub returns-in-Err-Stopped-clause-made : goal.returns-in-Err-Stopped-clause-made
returns-in-Err-Stopped-clause-made g c =
    let k = c.args.self.now in
    let G = g.V.Vault in
    let v = c.make.new.self.vault in
    let fall = c.fall_in-in-Err-Stopped in
    let last : c.fall_in-in-Err-Stopped.new.self ≡ record k { is_down = true; vault = v } = c.fall_in-in-Err-Stopped.ensures.kept ∙ ap (λ (y : ServerState _). record y { is_down = true }) c.in-Err-Stopped.ensures.none in
    record {
      why = fault.Stopped;
      shown = act.Stopped;
      of = inr (refl, refl);
      kept = last ∙ (λ i. record k { is_down = true; vault = sym (ap (λ (y : ServerState _). y.vault) last) i });
      writes = λ l there.
          subst (λ w. Writes G k.vault w l.part c.args.pending.notes.items (Err fault.Stopped)) (sym (ap (λ (y : ServerState _). y.vault) last))
          (subst (λ (f : StoreFault). Writes G k.vault v l.part c.args.pending.notes.items (Err f)) c.in-Err-Stopped.field-0-is
          (subst (λ (ns : List NoteChange). Writes G k.vault v l.part ns (Err c.in-Err-Stopped.field-0)) c.as_slice.ensures.value (c.in-Err-Stopped.ensures.writes l there)));
      said = fall.ensures.acts;
    }

pub returns-in-Err-OutOfMemory-clause-none : goal.returns-in-Err-OutOfMemory-clause-none
returns-in-Err-OutOfMemory-clause-none g c =
    let k = c.args.self.now in
    let G = g.V.Vault in
    let v = c.make.new.self.vault in
    record {
      kept = c.in-Err-OutOfMemory.ensures.none;
      writes = λ l there.
          subst (λ (f : StoreFault). Writes G k.vault v l.part c.args.pending.notes.items (Err f)) c.in-Err-OutOfMemory.field-0-is
          (subst (λ (ns : List NoteChange). Writes G k.vault v l.part ns (Err c.in-Err-OutOfMemory.field-0)) c.as_slice.ensures.value (c.in-Err-OutOfMemory.ensures.writes l there));
    }

pub returns-clause-made : goal.returns-clause-made
returns-clause-made g c =
    let k = c.args.self.now in
    let G = g.V.Vault in
    let p = c.args.pending in
    let t : TransId = p.stamp.trans in
    let made = c.make.new.self in
    let part : HasMade (G.tells k.vault) (G.held k.vault).cells k made t = c.in-Ok.ensures.made in
    let clock : c.max-self.result ≡ max k.clock p.stamp.ts = c.max-self.ensures ∙ ap (λ (y : ServerState _). max y.clock p.stamp.ts) part.kept ∙ ap (λ (y : ServerState _). max y.clock p.stamp.ts) (let_go_of k t) in
    record {
      made = made;
      part = part;
      kept = λ i. record made { clock = clock i };
      writes = λ l there. subst (λ (ns : List NoteChange). Writes G k.vault made.vault l.part ns (Ok tt)) c.as_slice.ensures.value (c.in-Ok.ensures.writes l there);
      said = c.in-Ok.ensures.acts;
    }
