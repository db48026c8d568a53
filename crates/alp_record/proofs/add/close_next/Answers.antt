use Rattle.std.proofs.Common.{◌≡◌, ◌≢◌, inr, ℕ, List, [], ◌∷◌, slice_index, ◌∙◌, ap, arith}
use Rattle.alp_disk.specs.Disk.{Image, page}
use Rattle.alp_disk.specs.Images.{page-with_bytes, page-with_bytes_other}
use Rattle.alp_disk.proofs.GateLemmas.{overwritten_gate}
use Rattle.alp_record.proofs.add.close_next.Goals as goal

pub returns-in_ok-write-clause-others : goal.returns-in_ok-write-clause-others
returns-in_ok-write-clause-others g c told =
    let other : (q : ℕ) → q ≢ c.args.at → page (g.D.Disk.seen c.write.new.self) q ≡ page (g.D.Disk.seen c.args.disk.now) q =
    λ q ne. ap (λ (i : Image). page i q) (c.in_ok-write.ensures.written told) ∙ page-with_bytes_other _ c.args.at 0 q (0 ∷ []) ne in
    record { before = λ q low. other q (λ e. omega (arith, low, e)); behind = λ q high. other q (λ e. omega (arith, high, e, c.if-at-end.true)) }

pub returns-in_ok-write-clause-ends : goal.returns-in_ok-write-clause-ends
returns-in_ok-write-clause-ends g c told = inr (λ one.
    let is = g.met.D.Disk.is_image c.args.disk.now told in
    let zero : slice_index (page (g.D.Disk.seen c.write.new.self) c.args.at) 0 ≡ 0 = ap (λ (i : Image). slice_index (page i c.args.at) 0) (c.in_ok-write.ensures.written told)
    ∙ ap (λ (p : List ℕ). slice_index p 0) (page-with_bytes _ c.args.at 0 (0 ∷ []) (omega (arith, is.count, c.requires, c.if-at-end.true)) ∙ overwritten_gate (page (g.D.Disk.seen c.args.disk.now) c.args.at) 0) in
    omega (arith, zero, one))
