-- What a mount finds, record by record.
use Rattle.std.proofs.Common.{◌≡◌, inr, ◌≤◌, ◌+◌, ℕ, Bool, true, false, List, [], ◌∷◌, ◌++◌, length, refl, sym, ap, subst, ◌∙◌, IsTrue}
use Rattle.std.specs.Prelude.{IfOk, MatchOption, Option, Some, Result, Ok, Err}
use Rattle.std.specs.List.{AllByRecursion}
use Rattle.std.specs.FinMap as map
use Rattle.alp_disk.specs.Disk.{Image}
use Rattle.alp_anchor.specs.declared.anchor.Anchor.{Anchor}
use Rattle.alp_anchor.specs.Anchor.{Counts}
use Rattle.alp_base.specs.declared.faults.VaultFault.{VaultFault}
use Rattle.alp_base.specs.declared.faults.VaultFault.TheVariants.{Failed, Stopped, OutOfMemory, NotAVolume, Damaged}
use Rattle.alp_batch.specs.declared.batch.Batch.{Batch}
use Rattle.alp_batch.specs.Batch.{batch, batch_length}
use Rattle.alp_batch.proofs.BatchLaws.{batch_is}
use Rattle.alp_record.specs.Record.{RecordAt, next_of, body_pages, IsEnd}
use Rattle.alp_record.proofs.Adds.{stand_push, behind_push}
use Rattle.alp_base.specs.Notes.{Notes, notes_after}
use Rattle.alp_wal.specs.State.{State, IsBelow, Suits}
use Rattle.alp_wal.specs.Live.{AreWithin}
use Rattle.alp_wal.specs.Reading.{Leads, area_first, area_end, home_pages, bare, ReadsBy}
use Rattle.alp_wal.specs.Home.{Index}
use Rattle.alp_wal.specs.Wal.{shown, indexed, no_index, Logs}
use Rattle.alp_wal.specs.Mount.{found_state, LeadsTo, Finds, IsBad, WhyNotMounted, AppliesNot, Taken, TakenOrNot}
use Rattle.alp_wal.specs.declared.found.Found.{Found}
use Rattle.alp_wal.proofs.Readings.{batch_once}
use Rattle.alp_wal.proofs.Checkpoints.{logs_push}
use Rattle.alp_wal.proofs.Lives.{within_next}
use Rattle.alp_wal.proofs.States.{shown_bare, shown_indexed, length-indexed, leads_push}

module _ {E : Type 0} (f g : Found) (body : List ℕ) (b : Batch) where
  pub take_result : (r : Result Bool E) → length f.index ≡ f.anchor.sizes.home → (body ≡ batch.spell b) × batch.Fits b → g.anchor ≡ f.anchor
      → IfOk r (λ yes. IsTrue yes → Suits f.anchor.sizes.home f.notes.notes b)
      → IfOk r (λ yes. IsTrue yes → g.index ≡ indexed f.index b.images)
      → IfOk r (λ yes. IsTrue yes → g.notes.notes ≡ notes_after b.notes f.notes.notes)
      → IfOk r (λ yes. yes ≡ false → Suits f.anchor.sizes.home f.notes.notes b → ⊥)
      → IfOk r (λ yes. (image : Image) → TakenOrNot f.anchor.sizes.home (found_state f image) body (found_state g image) yes)
  take_result (Err e) long spelled anchor suits images notes suits_not = tt
  take_result (Ok true) long spelled anchor suits images notes suits_not = λ image.
      let below : AllByRecursion (IsBelow (length f.index)) b.images = subst (λ (k : ℕ). AllByRecursion (IsBelow k) b.images) (sym long) (suits refl).inside in
      let pages = ap (λ (a : Anchor). shown (home_pages image a) g.index) anchor ∙ ap (λ (x : _). shown (home_pages image f.anchor) x) (images refl) ∙ shown_indexed (home_pages image f.anchor) f.index b.images below in
      record {
        batch = b;
        applies = record { spelled = spelled.0; fits = spelled.1; suits = suits refl };
        state = λ i. record { pages = pages i; notes = notes refl i };
      }
  take_result (Ok false) long spelled anchor suits images notes suits_not = λ image other applies. suits_not refl (subst (λ (x : Batch). Suits f.anchor.sizes.home f.notes.notes x) (batch_once other b applies.fits spelled.1 (sym applies.spelled ∙ spelled.0)) applies.suits)

  pub same_length : (r : Result Bool E) → IfOk r (λ yes. IsTrue yes → g.index ≡ indexed f.index b.images) → IfOk r (λ yes. IsTrue yes → length g.index ≡ length f.index)
  same_length (Err e) images = tt
  same_length (Ok true) images = λ told. ap length (images told) ∙ length-indexed f.index b.images
  same_length (Ok false) images = λ told. ap length (images told) ∙ length-indexed f.index b.images

  -- and its images are those of one record more
  pub logs_result : (r : Result Bool E) → (body ≡ batch.spell b) × batch.Fits b → IfOk r (λ yes. IsTrue yes → g.index ≡ indexed f.index b.images) → IfOk r (λ yes. IsTrue yes → Logs f.index (body ∷ []) g.index)
  logs_result (Err e) spelled images = tt
  logs_result (Ok true) spelled images = λ told. (b, spelled.0, spelled.1, sym (images told))
  logs_result (Ok false) spelled images = λ told. (b, spelled.0, spelled.1, sym (images told))

-- one record more
pub finds_on : (image : Image) (a : Anchor) (f g : Found) (body : List ℕ) → (before : Finds image a f) → RecordAt image a.generation (area_end a) f.end body → Taken a.sizes.home (found_state f image) body (found_state g image)
    → Logs f.index (body ∷ []) g.index → next_of f.end body ≡ g.end → Finds image a g
finds_on image a f g body before here taken logged end = record {
  leads = record {
    bodies = before.leads.bodies ++ body ∷ [];
    stand = stand_push image a.generation (area_end a) (area_first a) before.leads.bodies body before.leads.stand (subst (λ k. RecordAt image a.generation (area_end a) k body) (sym before.leads.here) here);
    here = behind_push (area_first a) before.leads.bodies body ∙ ap (λ k. next_of k body) before.leads.here ∙ end;
    leads = subst (λ (s : State). Leads a.sizes.home (bare image a) (before.leads.bodies ++ body ∷ []) s) (sym taken.state) (leads_push a.sizes.home (bare image a) (found_state f image) before.leads.bodies body taken.batch before.leads.leads taken.applies);
  };
  logged = logs_push (no_index a.sizes.home) f.index g.index before.leads.bodies body before.logged logged;
}

-- and its notes take no more room than it
pub within_on : (home first : ℕ) (f g : Found) (body : List ℕ) → Taken home (found_state f []) body (found_state g []) → AreWithin first f.end f.notes.notes → first ≤ f.end → AreWithin first (f.end + (1 + body_pages (length body))) g.notes.notes
within_on home first f g body taken within begun =
    let long : length body ≡ batch_length taken.batch = ap length taken.applies.spelled ∙ batch_is taken.batch taken.applies.fits in
    let notes : g.notes.notes ≡ notes_after taken.batch.notes f.notes.notes = ap (λ (s : State). s.notes) taken.state in
    subst (λ (e : Notes). AreWithin first (f.end + (1 + body_pages (length body))) e) (sym notes)
    (subst (λ k. AreWithin first (f.end + (1 + body_pages k)) (notes_after taken.batch.notes f.notes.notes)) (sym long) (within_next first f.end f.notes.notes taken.batch within begun))

-- the record of an area, said of the anchor's
pub record_of : (image : Image) (a : Anchor) (generation end place : ℕ) (body : List ℕ) → generation ≡ a.generation → end ≡ area_end a → RecordAt image generation end place body → RecordAt image a.generation (area_end a) place body
record_of image a generation end place body same_generation same_end is =
    subst (λ k. RecordAt image a.generation k place body) same_end (subst (λ k. RecordAt image k end place body) same_generation is)

pub bad_body : (image : Image) (a : Anchor) (place : ℕ) (state : State) (body : List ℕ) → LeadsTo image a place state → RecordAt image a.generation (area_end a) place body → AppliesNot a.sizes.home state body → IsBad image a place
bad_body image a place state body before here not_so = record { state = state; before = before; why = inr (body, here, not_so) }

pub untaken : (home : ℕ) (old new : State) (body : List ℕ) (r : Bool) → r ≡ false → TakenOrNot home old body new r → AppliesNot home old body
untaken home old new body true is taken = absurd cc
untaken home old new body false is taken = taken

pub was_taken : (home : ℕ) (old new : State) (body : List ℕ) (r : Bool) → r ≡ true → TakenOrNot home old body new r → Taken home old body new
was_taken home old new body true is taken = taken
was_taken home old new body false is taken = absurd cc

pub some_of : (o : Option (List ℕ)) (body : List ℕ) (P : Type 0) (Q : List ℕ → Type 0) → o ≡ Some body → MatchOption o P Q → Q body
some_of o body P Q is known = subst (λ (x : Option (List ℕ)). MatchOption x P Q) is known

-- before any record
pub finds_none : (image : Image) (a : Anchor) (f : Found) → f.anchor ≡ a → f.end ≡ area_first a → f.index ≡ no_index a.sizes.home → f.notes.notes ≡ map.empty → Finds image a f
finds_none image a f anchor end index_is notes_are =
    let shows : shown (home_pages image f.anchor) f.index ≡ home_pages image a = ap (λ (x : Index). shown (home_pages image f.anchor) x) index_is ∙ shown_bare (home_pages image f.anchor) a.sizes.home ∙ ap (λ (b : Anchor). home_pages image b) anchor in
    let pages = sym shows in
    let none = sym notes_are in
    record {
      leads = record { bodies = []; stand = tt; here = sym end; leads = λ i. record { pages = pages i; notes = none i } };
      logged = sym index_is;
    }

-- why a disk with an anchor that counts is not mounted
pub why_bad : (server servers n : ℕ) (image : Image) (a : Anchor) (e : VaultFault) → Counts n image a → (a.server ≡ server) × (a.servers ≡ servers) → ((place : ℕ) → e ≡ Damaged place → IsBad image a place) → ((bytes : List ℕ) → e ≡ NotAVolume bytes → ⊥)
    → WhyNotMounted server servers n image e
why_bad server servers n image a (Damaged place) counts named bad volume = inr (a, counts, named.0, named.1, bad place refl)
why_bad server servers n image a (NotAVolume bytes) counts named bad volume = absurd (volume bytes refl)
why_bad server servers n image a Failed counts named bad volume = tt
why_bad server servers n image a Stopped counts named bad volume = tt
why_bad server servers n image a OutOfMemory counts named bad volume = tt

-- what was read in full is the reading
pub reads_of : (n : ℕ) (image : Image) (a : Anchor) (place : ℕ) (state : State) → Counts n image a → (l : LeadsTo image a place state) → IsEnd image (area_end a) place → ReadsBy n image a l.bodies state
reads_of n image a place state counts l ends = record {
  counts = counts;
  records = record { stand = l.stand; ends = subst (IsEnd image (area_end a)) (sym l.here) ends };
  leads = l.leads;
}
