use Rattle.std.proofs.Common.{ℕ, List, ◌++◌, ◌≤◌, length, append-nil, refl, sym, ◌∙◌, ap}
use Rattle.alp_journal.specs.declared.log.Item.{Item}
use Rattle.alp_report.specs.Reports.{line_text}
use Rattle.alp_session.specs.Crowds.{client_at}
use Rattle.alp_session.specs.declared.waiting.Next.TheVariants as next
use Rattle.alp_cluster.specs.declared.fault.RunFault.TheVariants as fault
use Rattle.alp_cluster.proofs.DidLemmas.{all_memory, all_handed}
use Rattle.alp_cluster.proofs.GoneLemmas.{end_on, end_any, handed_on}
use Rattle.alp_cluster.proofs.LineLemmas.{few_line, behind_front, line_wanting}
use Rattle.alp_cluster.proofs.parties.Parties.play_own.Goals as goal

pub returns-in_err-send_line-clause-gone : goal.returns-in_err-send_line-clause-gone
returns-in_err-send_line-clause-gone g c =
    all_handed g.V.Vault (Unit {0}) c.args.self.now.stations c.send_line.new.self.stations c.in_err-send_line.field-0.0 c.from_residual.result c.in_err-send_line.ensures.gone
    (handed_on c.in_err-send_line.field-0.0 c.from_residual.result c.from_residual.ensures.0 c.from_residual.ensures.1)

pub returns-in_err-send_line-clause-ended : goal.returns-in_err-send_line-clause-ended
returns-in_err-send_line-clause-ended g c =
    end_on c.in_err-send_line.field-0.0 c.from_residual.result _ _ (handed_on c.in_err-send_line.field-0.0 c.from_residual.result c.from_residual.ensures.0 c.from_residual.ensures.1)
    (λ f some.
    let (xs, known, few, items, did) = some in
    (xs, known, few_line c.args.self.now.clients.words (client_at c.args.self.now.clients c.args.client) c.args.line.now.line (length xs) few, items, refl, did))
    c.in_err-send_line.ensures.ended

pub returns-in_err-put_line-clause-gone : goal.returns-in_err-put_line-clause-gone
returns-in_err-put_line-clause-gone g c =
    rw (handed_on fault.OutOfMemory c.from_residual-in_err-put_line.result c.from_residual-in_err-put_line.ensures.0 c.from_residual-in_err-put_line.ensures.1)
    (all_memory g.V.Vault (Unit {0}) c.args.self.now.stations c.send_line.new.self.stations _ c.in_ok-send_line.ensures.gone)

pub returns-in_err-put_line-clause-ended : goal.returns-in_err-put_line-clause-ended
returns-in_err-put_line-clause-ended g c =
    let s = c.args.self.now in
    let e = c.send_line.new.self in
    let (xs, t, few, items, did) = c.in_ok-send_line.ensures.did in
    end_any fault.OutOfMemory c.from_residual-in_err-put_line.result _ (handed_on fault.OutOfMemory c.from_residual-in_err-put_line.result c.from_residual-in_err-put_line.ensures.0 c.from_residual-in_err-put_line.ensures.1) (
      xs,
      e.clients,
      few_line s.clients.words (client_at s.clients c.args.client) c.args.line.now.line (length xs) few,
      items,
      refl,
      line_wanting g.V.Vault (length s.stations.all.items) s.clients e.clients s.stations e.stations c.args.client c.args.line.now next.Call xs t did,
    )

pub returns-in_err-extend_from_slice-clause-gone : goal.returns-in_err-extend_from_slice-clause-gone
returns-in_err-extend_from_slice-clause-gone g c =
    rw (handed_on fault.OutOfMemory c.from_residual-in_err-extend_from_slice.result c.from_residual-in_err-extend_from_slice.ensures.0 c.from_residual-in_err-extend_from_slice.ensures.1)
    (all_memory g.V.Vault (Unit {0}) c.args.self.now.stations c.send_line.new.self.stations _ c.in_ok-send_line.ensures.gone)

pub returns-in_err-extend_from_slice-clause-ended : goal.returns-in_err-extend_from_slice-clause-ended
returns-in_err-extend_from_slice-clause-ended g c =
    let s = c.args.self.now in
    let e = c.send_line.new.self in
    let (xs, t, few, items, did) = c.in_ok-send_line.ensures.did in
    end_any fault.OutOfMemory c.from_residual-in_err-extend_from_slice.result _ (handed_on fault.OutOfMemory c.from_residual-in_err-extend_from_slice.result c.from_residual-in_err-extend_from_slice.ensures.0 c.from_residual-in_err-extend_from_slice.ensures.1) (
      xs,
      e.clients,
      few_line s.clients.words (client_at s.clients c.args.client) c.args.line.now.line (length xs) few,
      items,
      c.in_err-extend_from_slice.ensures.items,
      line_wanting g.V.Vault (length s.stations.all.items) s.clients e.clients s.stations e.stations c.args.client c.args.line.now next.Call xs t did,
    )

pub returns-clause-did : goal.returns-clause-did
returns-clause-did g c =
    let (xs, t, few, items, did) = c.in_ok-send_line.ensures.did in
    let number : ℕ = c.args.line.now.number in
    let sent = behind_front c.args.items.now.items xs c.deref.result.now c.len-before.result (c.deref.ensures.value ∙ items) (c.len-before.ensures ∙ c.args.items.now.ok.0) in
    let short : length xs ≤ 5 = few_line c.args.self.now.clients.words (client_at c.args.self.now.clients c.args.client) c.args.line.now.line (length xs) few in
    let own = c.as_slice.ensures.value ∙ c.in_ok-put_line.ensures ∙ ap (λ (ys : List Item). c.new-own.result.items ++ line_text number ys) sent ∙ ap (λ (zs : List ℕ). zs ++ line_text number xs) c.new-own.ensures.items ∙ sym (append-nil (line_text number xs)) in
    (xs, t, short, items, c.in_ok-extend_from_slice.ensures.items ∙ ap (λ (zs : List ℕ). c.args.text.now.items ++ zs) own, did)
