-- A disk has one reading.
use Rattle.std.proofs.Common.{◌≡◌, ℕ, List, [], ◌∷◌, ◌++◌, sym, ◌∙◌, ap, subst}
use Rattle.alp_fields.proofs.FormLaws.{spelling_is_one}
use Rattle.alp_disk.specs.Disk.{Image}
use Rattle.alp_anchor.specs.declared.anchor.Anchor.{Anchor}
use Rattle.alp_anchor.proofs.Choices.{counts_once}
use Rattle.alp_batch.specs.declared.batch.Batch.{Batch}
use Rattle.alp_batch.specs.Batch.{batch}
use Rattle.alp_batch.proofs.BatchLaws.{batch_law}
use Rattle.alp_record.proofs.Readings.{records_once}
use Rattle.alp_wal.specs.State.{State, applied}
use Rattle.alp_wal.specs.Reading.{Leads, bare, area_first, area_end, ReadsBy, Reads}

-- bytes spell one batch
pub batch_once : (a b : Batch) → batch.Fits a → batch.Fits b → batch.spell a ≡ batch.spell b → a ≡ b
batch_once a b fits_a fits_b same = (spelling_is_one batch batch_law a b [] [] fits_a fits_b (ap (λ (l : List ℕ). l ++ []) same)).0

pub leads_once : (home : ℕ) (first a b : State) (bodies : List (List ℕ)) → Leads home first bodies a → Leads home first bodies b → a ≡ b
leads_once home first a b [] is_a is_b = sym is_a ∙ is_b
leads_once home first a b (body ∷ bodies) is_a is_b =
    let same : is_a.0 ≡ is_b.0 = batch_once is_a.0 is_b.0 is_a.1.fits is_b.1.fits (sym is_a.1.spelled ∙ is_b.1.spelled) in
    leads_once home (applied first is_b.0) a b bodies (subst (λ (c : Batch). Leads home (applied first c) bodies a) same is_a.2) is_b.2

reads_by_once : (n : ℕ) (image : Image) (a : Anchor) (xs ys : List (List ℕ)) (s t : State) → ReadsBy n image a xs s → ReadsBy n image a ys t → s ≡ t
reads_by_once n image a xs ys s t one two =
    let same : xs ≡ ys = records_once image a.generation (area_end a) (area_first a) xs ys one.records two.records in
    leads_once a.sizes.home (bare image a) s t ys (subst (λ (l : List (List ℕ)). Leads a.sizes.home (bare image a) l s) same one.leads) two.leads

pub reads_once : (server servers n : ℕ) (image : Image) (a b : State) → Reads server servers n image a → Reads server servers n image b → a ≡ b
reads_once server servers n image a b one two =
    let same : one.anchor ≡ two.anchor = counts_once n image one.anchor two.anchor one.by.counts two.by.counts (one.server_is ∙ sym two.server_is) (one.servers_is ∙ sym two.servers_is) in
    reads_by_once n image two.anchor one.bodies two.bodies a b (subst (λ (c : Anchor). ReadsBy n image c one.bodies a) same one.by) two.by
