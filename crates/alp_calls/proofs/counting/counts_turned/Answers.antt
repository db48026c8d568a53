use Rattle.std.specs.Prelude.{Bool, not, filter, None, Some}
use Rattle.std.specs.FinMap as map
use Rattle.std.proofs.Common.{◌≡◌, ℕ, ◌+◌, ◌<◌, ◌≤◌, List, length, refl, sym, ◌∙◌, ap, subst, arith}
use Rattle.alp_base.specs.declared.ids.FileId.{FileId}
use Rattle.alp_base.specs.declared.key.Key.{Key}
use Rattle.alp_base.specs.declared.cell.Cell.{Cell}
use Rattle.alp_files.specs.Cells.{Cells}
use Rattle.alp_files.specs.Edits.{is_in_file}
use Rattle.alp_files.specs.Needs.{Intents, intend, intents_from, changed_by, marks_of}
use Rattle.alp_files.specs.Undo.{puts_of}
use Rattle.alp_trans.specs.Counting.{no_counts}
use Rattle.alp_trans.specs.Parts.{gone_edit, file_gone, takes, ahead_of}
use Rattle.alp_trans.specs.declared.counts.Counts.{Counts}
use Rattle.alp_trans.specs.declared.gone.Gone.{Gone}
use Rattle.alp_vault.specs.Volumes.{fit_keys}
use Rattle.alp_calls.specs.Sights.{IsRaised, IsTurned}
use Rattle.alp_calls.proofs.FitLemmas.{fit_entries, fit_filter}
use Rattle.alp_calls.proofs.GoneLemmas.{staying, of_file_less, staying_less, marks_most, one_more, part_of_all, raised_as, turned_so}
use Rattle.alp_calls.proofs.LookLemmas.{looked_at}
use Rattle.alp_calls.proofs.counting.counts_turned.Goals as goal

-- the puts of the file
abbrev file_puts : Intents → FileId → List (Key × Cell)
file_puts i f = filter (λ (e : Key × Cell). is_in_file f e.0) (map.entries i.puts)

are_puts : (i : Intents) (file f : FileId) (puts : Cells) (items slice : List (Key × Cell)) → file ≡ f → puts ≡ i.puts
    → items ≡ filter (λ (e : Key × Cell). is_in_file file e.0) (map.entries puts) → slice ≡ items → slice ≡ file_puts i f
are_puts i file f puts items slice that those are is =
    is ∙ are ∙ ap (λ (x : Cells). filter (λ (e : Key × Cell). is_in_file file e.0) (map.entries x)) those ∙ ap (file_puts i) that

are_staying : (i : Intents) (g : Gone) (file : FileId) (puts : Cells) (items kept slice : List (Key × Cell)) → file ≡ file_gone g → puts ≡ i.puts
    → items ≡ filter (λ (e : Key × Cell). is_in_file file e.0) (map.entries puts) → kept ≡ filter (λ (e : Key × Cell). not (takes (Some g) e.0)) items → slice ≡ kept → slice ≡ staying i g
are_staying i g file puts items kept slice that those are keeps is =
    is ∙ keeps ∙ ap (filter (λ (e : Key × Cell). not (takes (Some g) e.0))) (are_puts i file (file_gone g) puts items items that those are refl)

room_for : (i : Intents) (f : FileId) (marks most : ℕ) (ps qs : List (Key × Cell)) → marks ≡ marks_of i f → ps ≡ qs → length qs ≤ most → most ≤ 256 → marks + length ps < 65536
room_for i f marks most ps qs m same less few =
    let two : marks ≤ 2 = subst (λ (x : ℕ). x ≤ 2) (sym m) (marks_most i f) in
    let long : length ps ≡ length qs = ap (λ (xs : List (Key × Cell)). length xs) same in
    omega (arith, two, long, less, few)

most_of : (n k : Counts) (i : Intents) (g : Gone) → n.cells ≡ changed_by i → k.cells ≡ changed_by (intend (gone_edit g) i) → k.cells ≤ n.cells + 1
most_of n k i g is becomes = omega (arith, is, becomes, one_more i g)

pub count_file-requires-clause-room : goal.count_file-requires-clause-room
count_file-requires-clause-room g c =
    let i : Intents = c.args.part.now.intents in
    room_for i c.file-file.result c.marks_of.result (changed_by i) c.deref.result.now (file_puts i (file_gone c.args.gone)) c.marks_of.ensures
    (are_puts i c.file-file.result (file_gone c.args.gone) c.puts.result.now c.in_ok-puts.puts.items c.deref.result.now c.file-file.ensures c.puts.ensures c.in_ok-puts.ensures c.deref.ensures.value)
    (of_file_less i (file_gone c.args.gone)) (subst (λ (n : ℕ). n ≤ 256) c.requires.part.cells c.requires.part.most)

pub count_file-requires-clause-fit : goal.count_file-requires-clause-fit
count_file-requires-clause-fit g c =
    let i : Intents = c.args.part.now.intents in
    ap fit_keys (are_puts i c.file-file.result (file_gone c.args.gone) c.puts.result.now c.in_ok-puts.puts.items c.deref.result.now c.file-file.ensures c.puts.ensures c.in_ok-puts.ensures c.deref.ensures.value)
    ∙ fit_filter (λ (e : Key × Cell). is_in_file (file_gone c.args.gone) e.0) (map.entries i.puts) (fit_entries i.puts c.requires.part.fit)

pub count_file-requires-2-clause-room : goal.count_file-requires-2-clause-room
count_file-requires-2-clause-room g c =
    let i : Intents = c.args.part.now.intents in
    room_for (intend (gone_edit c.args.gone) i) (file_gone c.args.gone) c.marks_with.result (changed_by i) c.deref-2.result.now (staying i c.args.gone) c.marks_with.ensures
    (are_staying i c.args.gone c.file-file.result c.puts.result.now c.in_ok-puts.puts.items c.keep_staying.new.puts.items c.deref-2.result.now c.file-file.ensures c.puts.ensures c.in_ok-puts.ensures c.keep_staying.ensures c.deref-2.ensures.value)
    (staying_less i c.args.gone) (subst (λ (n : ℕ). n ≤ 256) c.requires.part.cells c.requires.part.most)

pub count_file-requires-2-clause-fit : goal.count_file-requires-2-clause-fit
count_file-requires-2-clause-fit g c =
    let i : Intents = c.args.part.now.intents in
    ap fit_keys (are_staying i c.args.gone c.file-file.result c.puts.result.now c.in_ok-puts.puts.items c.keep_staying.new.puts.items c.deref-2.result.now c.file-file.ensures c.puts.ensures c.in_ok-puts.ensures c.keep_staying.ensures c.deref-2.ensures.value)
    ∙ fit_filter (λ (e : Key × Cell). not (takes (Some c.args.gone) e.0)) (file_puts i (file_gone c.args.gone))
    (fit_filter (λ (e : Key × Cell). is_in_file (file_gone c.args.gone) e.0) (map.entries i.puts) (fit_entries i.puts c.requires.part.fit))

pub exchange-requires-clause-part : goal.exchange-requires-clause-part
exchange-requires-clause-part g c =
    let i : Intents = c.args.part.now.intents in
    let f : FileId = file_gone c.args.gone in
    let tells : Bool = g.V.Vault.tells c.args.vault.now in
    let held : Cells = (g.V.Vault.held c.args.vault.now).cells in
    let less : c.in_ok-before.before.cells ≤ changed_by i =
    part_of_all tells held i c.args.gone c.in_ok-before.before
    (raised_as tells held (ahead_of i None map.empty) c.deref.result.now (file_puts i f) c.marks_of.result (marks_of i f) c.in_ok-before.before
    (are_puts i c.file-file.result f c.puts.result.now c.in_ok-puts.puts.items c.deref.result.now c.file-file.ensures c.puts.ensures c.in_ok-puts.ensures c.deref.ensures.value)
    (c.marks_of.ensures ∙ ap (marks_of i) c.file-file.ensures) c.in_ok-before.ensures.counted) in
    subst (λ (n : ℕ). c.in_ok-before.before.cells ≤ n) (sym c.requires.part.cells) less

pub exchange-requires-clause-fits : goal.exchange-requires-clause-fits
exchange-requires-clause-fits g c =
    let i : Intents = c.args.part.now.intents in
    let room : c.marks_with.result + length c.deref-2.result.now < 65536 =
    room_for (intend (gone_edit c.args.gone) i) (file_gone c.args.gone) c.marks_with.result (changed_by i) c.deref-2.result.now (staying i c.args.gone) c.marks_with.ensures
    (are_staying i c.args.gone c.file-file.result c.puts.result.now c.in_ok-puts.puts.items c.keep_staying.new.puts.items c.deref-2.result.now c.file-file.ensures c.puts.ensures c.in_ok-puts.ensures c.keep_staying.ensures c.deref-2.ensures.value)
    (staying_less i c.args.gone) (subst (λ (n : ℕ). n ≤ 256) c.requires.part.cells c.requires.part.most) in
    omega (arith, room, c.in_ok-now.ensures.most)

pub returns-clause-counted : goal.returns-clause-counted
returns-clause-counted g c =
    let i : Intents = c.args.part.now.intents in
    let f : FileId = file_gone c.args.gone in
    turned_so (g.V.Vault.tells c.args.vault.now) (g.V.Vault.held c.args.vault.now).cells i c.args.gone c.args.part.now.counts c.in_ok-before.before c.in_ok-now.now c.exchange.result
    c.deref.result.now c.deref-2.result.now c.marks_of.result c.marks_with.result c.requires.part.cells
    (are_puts i c.file-file.result f c.puts.result.now c.in_ok-puts.puts.items c.deref.result.now c.file-file.ensures c.puts.ensures c.in_ok-puts.ensures c.deref.ensures.value)
    (c.marks_of.ensures ∙ ap (marks_of i) c.file-file.ensures)
    (are_staying i c.args.gone c.file-file.result c.puts.result.now c.in_ok-puts.puts.items c.keep_staying.new.puts.items c.deref-2.result.now c.file-file.ensures c.puts.ensures c.in_ok-puts.ensures c.keep_staying.ensures c.deref-2.ensures.value)
    c.marks_with.ensures c.exchange.ensures c.in_ok-before.ensures.counted
    (looked_at g.V.Vault c.args.vault.now c.count_file.new.vault c.in_ok-before.ensures.looked.0
    (λ (b : Bool) (m : Cells). IsRaised b m (ahead_of i (Some c.args.gone) map.empty) (intents_from (ahead_of i (Some c.args.gone) map.empty) (puts_of c.deref-2.result.now)) (record no_counts { cells = c.marks_with.result }) c.in_ok-now.now)
    c.in_ok-now.ensures.counted)

pub returns-clause-most : goal.returns-clause-most
returns-clause-most g c =
    let i : Intents = c.args.part.now.intents in
    let turned : IsTurned (g.V.Vault.tells c.args.vault.now) (g.V.Vault.held c.args.vault.now).cells i (intend (gone_edit c.args.gone) i) c.args.part.now.counts c.exchange.result =
    turned_so (g.V.Vault.tells c.args.vault.now) (g.V.Vault.held c.args.vault.now).cells i c.args.gone c.args.part.now.counts c.in_ok-before.before c.in_ok-now.now c.exchange.result
    c.deref.result.now c.deref-2.result.now c.marks_of.result c.marks_with.result c.requires.part.cells
    (are_puts i c.file-file.result (file_gone c.args.gone) c.puts.result.now c.in_ok-puts.puts.items c.deref.result.now c.file-file.ensures c.puts.ensures c.in_ok-puts.ensures c.deref.ensures.value)
    (c.marks_of.ensures ∙ ap (marks_of i) c.file-file.ensures)
    (are_staying i c.args.gone c.file-file.result c.puts.result.now c.in_ok-puts.puts.items c.keep_staying.new.puts.items c.deref-2.result.now c.file-file.ensures c.puts.ensures c.in_ok-puts.ensures c.keep_staying.ensures c.deref-2.ensures.value)
    c.marks_with.ensures c.exchange.ensures c.in_ok-before.ensures.counted
    (looked_at g.V.Vault c.args.vault.now c.count_file.new.vault c.in_ok-before.ensures.looked.0
    (λ (b : Bool) (m : Cells). IsRaised b m (ahead_of i (Some c.args.gone) map.empty) (intents_from (ahead_of i (Some c.args.gone) map.empty) (puts_of c.deref-2.result.now)) (record no_counts { cells = c.marks_with.result }) c.in_ok-now.now)
    c.in_ok-now.ensures.counted) in
    most_of c.args.part.now.counts c.exchange.result i c.args.gone c.requires.part.cells turned.cells
