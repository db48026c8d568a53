-- A header and pages of zeros are a volume that holds nothing.
use Rattle.std.specs.Prelude.{false, is_some, None, Some, take, replicate}
use Rattle.std.specs.FinMap as map
use Rattle.std.specs.FinMap.{get-empty}
use Rattle.std.proofs.Common.{◌≡◌, ℕ, ◌<◌, ◌≤◌, ◌+◌, ◌-◌, ◌*◌, ◌/◌, ◌%◌, List, refl, sym, ◌∙◌, ap, arith}
use Rattle.std.proofs.lemmas.List.{drop-replicate, take-replicate}
use Rattle.alp_base.specs.declared.key.Key.{Key}
use Rattle.alp_base.specs.declared.key.Key.TheVariants.{Leader, PageOf, OwnerOf}
use Rattle.alp_base.specs.Keys.{key_cmp}
use Rattle.alp_base.specs.Pages.{zero_page}
use Rattle.alp_fields.specs.Forms.{whole, u8, u32}
use Rattle.alp_fields.specs.Fields.{file_id}
use Rattle.alp_base.specs.declared.cell.Cell.{Cell}
use Rattle.alp_files.proofs.SoundLemmas.{empty_sound}
use Rattle.alp_pages.specs.Naming.{IsNaming, nameless}
use Rattle.alp_pages.specs.Pages.{Pages, header_page, written, part_of, entry, entry_in, read_row, row_in}
use Rattle.alp_pages.specs.Volume.{Volume, StandFor}
use Rattle.alp_pages.proofs.NamingLaws.{eqb_other}
use Rattle.alp_pages.proofs.UnnamedLaws.{written_same, written_other}

nameless-is : {K : Type 0} (lo hi : ℕ) → IsNaming {K = K} lo hi nameless
nameless-is lo hi = record { there = λ k p e. cc; back = λ p k e. cc; least = λ k p e. cc; most = λ k p e. cc }

-- a part of a page of zeros
zero_part : (long k : ℕ) → long + long * k ≤ 512 → part_of long k zero_page ≡ replicate long 0
zero_part long k within = ap (take long) (drop-replicate (long * k) 512 0) ∙ take-replicate long (512 - long * k) 0 (omega arith)

pub no_entry : whole entry (replicate 16 0) ≡ Some None
unfolding entry file_id u8 u32
no_entry = refl

no_owner : read_row (replicate 256 0) ≡ Some None
no_owner = refl

abbrev fresh : Pages
fresh = written 0 header_page (λ place. zero_page)

zeros_at : (p : ℕ) → 0 < p → fresh p ≡ zero_page
zeros_at p some = written_other 0 header_page (λ place. zero_page) p (eqb_other p 0 (λ e. omega arith))

empty_entry : (slot : ℕ) → slot < 4096 → entry_in fresh slot ≡ Some None
empty_entry slot few =
    ap (λ (page : List ℕ). whole entry (part_of 16 (slot % 32) page)) (zeros_at (1 + slot / 32) (omega arith)) ∙ ap (whole entry) (zero_part 16 (slot % 32) (omega arith)) ∙ no_entry

empty_row : (row : ℕ) → row < 256 → row_in fresh row ≡ Some None
empty_row row few =
    ap (λ (page : List ℕ). read_row (part_of 256 (row % 2) page)) (zeros_at (129 + row / 2) (omega arith)) ∙ ap read_row (zero_part 256 (row % 2) (omega arith)) ∙ no_owner

abbrev nothing : Volume
nothing = record { slots = nameless; rows = nameless; places = nameless }

none : (k : Key) → false ≡ is_some (map.get (map.empty {X = Cell} {R = key_cmp}) k)
none k = ap is_some (sym (get-empty key_cmp k))

pub new_volume : (home : ℕ) → StandFor home (written 0 header_page (λ place. zero_page)) map.empty
new_volume home = record {
  volume = nothing;
  spells = record {
    shape = record {
      slots = nameless-is 0 4096;
      rows = nameless-is 0 256;
      places = nameless-is 257 home;
      files = λ f. none (Leader f);
      owners = λ o. none (OwnerOf o);
      leaders = λ f. none (Leader f);
      pages = λ f n. none (PageOf f n);
      block = λ f n p h. cc;
      page = λ f b p h. cc;
    };
    header = written_same 0 header_page (λ place. zero_page);
    directory = λ slot few. empty_entry slot few;
    owners = λ row few. empty_row row few;
    rows = λ k p h. cc;
    leaders = λ f p h. cc;
    pages = λ f n p h. cc;
  };
  sound = empty_sound;
}
