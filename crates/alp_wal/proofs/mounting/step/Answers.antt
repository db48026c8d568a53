use Rattle.std.proofs.Common.{◌≡◌, inl, Err, ◌+◌, ℕ, List, [], ◌∷◌, length, sym, ◌∙◌, ap, subst, arith}
use Rattle.alp_record.specs.Record.{next_of, body_pages, IsDamaged}
use Rattle.alp_wal.specs.Live.{AreWithin}
use Rattle.alp_wal.specs.Reading.{area_first}
use Rattle.alp_wal.specs.Wal.{Logs}
use Rattle.alp_wal.specs.Mount.{found_state, IsBad, AppliesNot, Taken}
use Rattle.alp_wal.proofs.Mounts.{record_of, bad_body, untaken, was_taken, finds_on, within_on, some_of}
use Rattle.alp_wal.proofs.mounting.step.Goals as goal

pub returns-then-not-taken-clause-bad : goal.returns-then-not-taken-clause-bad
returns-then-not-taken-clause-bad g c told before place is =
    let image = g.D.Disk.seen c.args.disk.now in
    let a = c.args.found.now.anchor in
    let here : place ≡ c.args.found.now.end = (let same : place ≡ c.take.new.self.end = cc in same) ∙ c.take.ensures.end in
    let stands = record_of image a c.args.area.now.generation c.args.area.now.end c.args.found.now.end c.in-Ok-Some.body c.requires.generation c.requires.end (some_of c.in-Ok-Some.field-0 c.in-Ok-Some.body _ _ c.in-Ok-Some.field-0-is (c.in-Ok-Some.ensures.read told)) in
    let not_so = untaken a.sizes.home (found_state c.args.found.now image) (found_state c.take.new.self image) c.as_slice.result.now c.in-Ok.taken c.if-not-taken.true (c.in-Ok.ensures.taken image) in
    subst (λ k. IsBad image a k) (sym here)
    (bad_body image a c.args.found.now.end (found_state c.args.found.now image) c.in-Ok-Some.body before.leads stands (subst (λ (l : List ℕ). AppliesNot a.sizes.home (found_state c.args.found.now image) l) c.as_slice.ensures not_so))

pub returns-clause-more : goal.returns-clause-more
returns-clause-more g c told before yes_more =
    let image = g.D.Disk.seen c.args.disk.now in
    let a = c.args.found.now.anchor in
    let stands = record_of image a c.args.area.now.generation c.args.area.now.end c.args.found.now.end c.in-Ok-Some.body c.requires.generation c.requires.end (some_of c.in-Ok-Some.field-0 c.in-Ok-Some.body _ _ c.in-Ok-Some.field-0-is (c.in-Ok-Some.ensures.read told)) in
    let taken = was_taken a.sizes.home (found_state c.args.found.now image) (found_state c.take.new.self image) c.as_slice.result.now c.in-Ok.taken c.if-not-taken.false (c.in-Ok.ensures.taken image) in
    let taken_body = subst (λ (l : List ℕ). Taken a.sizes.home (found_state c.args.found.now image) l (found_state c.take.new.self image)) c.as_slice.ensures taken in
    let pages : c.record_pages.result ≡ 1 + body_pages (length c.in-Ok-Some.body) = c.record_pages.ensures ∙ ap (λ (l : List ℕ). 1 + body_pages (length l)) c.as_slice-2.ensures in
    let end : next_of c.args.found.now.end c.in-Ok-Some.body ≡ c.take.new.self.end + c.record_pages.result = omega (arith, c.take.ensures.end, pages) in
    let logged = subst (λ (l : List ℕ). Logs c.args.found.now.index (l ∷ []) c.take.new.self.index) c.as_slice.ensures (c.in-Ok.ensures.logged c.if-not-taken.false) in
    finds_on image a c.args.found.now _ c.in-Ok-Some.body before stands taken_body logged end

pub returns-clause-within : goal.returns-clause-within
returns-clause-within g c =
    let a = c.args.found.now.anchor in
    let f = c.args.found.now in
    let taken = was_taken a.sizes.home (found_state f []) (found_state c.take.new.self []) c.as_slice.result.now c.in-Ok.taken c.if-not-taken.false (c.in-Ok.ensures.taken []) in
    let pages : c.record_pages.result ≡ 1 + body_pages (length c.as_slice.result.now) = c.record_pages.ensures ∙ ap (λ (l : List ℕ). 1 + body_pages (length l)) (c.as_slice-2.ensures ∙ sym c.as_slice.ensures) in
    let end : f.end + (1 + body_pages (length c.as_slice.result.now)) ≡ c.take.new.self.end + c.record_pages.result = omega (arith, c.take.ensures.end, pages) in
    subst (λ k. AreWithin (area_first a) k c.take.new.self.notes.notes) end (within_on a.sizes.home (area_first a) f c.take.new.self c.as_slice.result.now taken c.requires.within c.requires.begun)

pub returns-in-Err-Damaged-clause-bad : goal.returns-in-Err-Damaged-clause-bad
returns-in-Err-Damaged-clause-bad g c told before place is =
    let image = g.D.Disk.seen c.args.disk.now in
    let f = c.args.found.now in
    let damaged = c.in-Err-Damaged.ensures.damaged told c.in-Err-Damaged.place (ap Err c.in-Err-Damaged.field-0-is) in
    let here : place ≡ f.end = (let same : place ≡ c.in-Err-Damaged.place = cc in same) ∙ damaged.0 in
    subst (λ k. IsBad image f.anchor k) (sym here)
    (record { state = found_state f image; before = before.leads; why = inl (subst (λ (t : ℕ × ℕ). IsDamaged image t.0 t.1 f.end) (λ i. (c.requires.generation i, c.requires.end i)) damaged.1) })
