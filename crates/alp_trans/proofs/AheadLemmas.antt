-- intents with what goes at a call
use Rattle.std.specs.Prelude.{cond, Bool, true, false, not, ◌&&◌, ◌||◌, nat_le, min, is_some, unwrap_or, Option, None, Some}
use Rattle.std.specs.Cmp.{eq_by_cmp_equiv}
use Rattle.std.specs.Ordering.{eq_by_cmp}
use Rattle.std.specs.FinMap as map
use Rattle.std.specs.FinMap.{get-insert, get-remove}
use Rattle.std.proofs.Common.{◌≡◌, ℕ, ◌+◌, ◌-◌, ◌≤◌, ◌<◌, refl, sym, ◌∙◌, ap, arith}
use Rattle.std.proofs.lemmas.Bool.{le-leb, lt-leb, leb-false}
use Rattle.alp_base.specs.declared.ids.FileId.{FileId}
use Rattle.alp_base.specs.declared.key.Key.{Key}
use Rattle.alp_base.specs.declared.key.Key.TheVariants.{Leader, PageOf, OwnerOf}
use Rattle.alp_base.specs.KeyLaws.{file_cmp}
use Rattle.alp_base.specs.declared.cell.Cell.{Cell}
use Rattle.alp_files.specs.Cells.{Cells, same_file}
use Rattle.alp_files.specs.Counts.{APageStands}
use Rattle.alp_files.specs.Edits.{Drop, Cut, is_in_file, is_past}
use Rattle.alp_files.specs.Needs.{Intents, intend, is_cut, is_gone, first_gone, with_puts, cut_from, marks_of}
use Rattle.alp_files.proofs.IntentLemmas.{files_total, kept, gone_after, dropped_too, same_id}
use Rattle.alp_files.proofs.SameLemmas.{same_file-true, same_file-itself}
use Rattle.alp_trans.specs.declared.gone.Gone.{Gone}
use Rattle.alp_trans.specs.declared.gone.Gone.TheVariants as gone
use Rattle.alp_trans.specs.Parts.{takes, first_taken, least_of, ahead_of, gone_edit, file_gone}

kept_so : (b : Bool) (o : Option Cell) → cond (not b) o None ≡ cond b None o
kept_so true o = refl
kept_so false o = refl

module _ (i : Intents) (puts : Cells) where
  -- the puts that are left
  pub taken_puts : (g : Option Gone) (q : Key) → map.get (ahead_of i g puts).puts q ≡ cond (takes g q) None (map.get puts q)
  taken_puts None q = refl
  taken_puts (Some (gone.File f)) q = kept (λ k. not (is_in_file f k)) puts q ∙ kept_so (is_in_file f q) (map.get puts q)
  taken_puts (Some (gone.Pages f n)) q = kept (λ k. not (is_past f n k)) puts q ∙ kept_so (is_past f n q) (map.get puts q)

  pub taken_there : (g : Option Gone) (q : Key) → map.contains_key (ahead_of i g puts).puts q ≡ (not (takes g q) && map.contains_key puts q)
  taken_there g q = ap is_some (taken_puts g q) ∙ go (takes g q) (map.get puts q)
    where
      go : (b : Bool) (o : Option Cell) → is_some (cond b None o) ≡ (not b && is_some o)
      go true o = refl
      go false o = refl

  -- what goes
  same_gone : (q : Key) → is_gone (with_puts i puts) q ≡ is_gone i q
  same_gone (Leader f) = refl
  same_gone (PageOf f n) = refl
  same_gone (OwnerOf name) = refl

  pub taken_gone : (g : Option Gone) (q : Key) → is_gone (ahead_of i g puts) q ≡ (takes g q || is_gone i q)
  taken_gone None q = same_gone q
  taken_gone (Some (gone.File f)) q = gone_after (Drop f) (with_puts i puts) q ∙ ap (λ (b : Bool). is_in_file f q || b) (same_gone q)
  taken_gone (Some (gone.Pages f n)) q = gone_after (Cut f n) (with_puts i puts) q ∙ ap (λ (b : Bool). is_past f n q || b) (same_gone q)

  -- the first page number that goes
  pub first_after : (g : Option Gone) (f : FileId) → first_gone (ahead_of i g puts) f ≡ least_of (first_taken g f) (first_gone i f)
  first_after None f = refl
  first_after (Some (gone.File h)) f =
      (λ j. cond {A = Option ℕ} (dropped_too i h f j) (Some 0) ((get-remove files_total i.cuts h f ∙ ap (λ (b : Bool). cond b None (map.get i.cuts f)) (same_id h f)) j))
      ∙ go (same_file h f) (map.contains_key i.drops f) (map.get i.cuts f)
    where
      go : (a b : Bool) (o : Option ℕ) → cond {A = Option ℕ} (a || b) (Some 0) (cond a None o) ≡ least_of (cond {A = Option ℕ} a (Some 0) None) (cond {A = Option ℕ} b (Some 0) o)
      go true true o = refl
      go true false None = refl
      go true false (Some m) = ap Some (let none : 0 ≡ min 0 m = omega arith in none)
      go false b o = refl
  first_after (Some (gone.Pages h n)) f =
      ap (cond {A = Option ℕ} (map.contains_key i.drops f) (Some 0)) (get-insert files_total i.cuts h (cut_from i.cuts h n) f ∙ ap (λ (b : Bool). cond b (Some (cut_from i.cuts h n)) (map.get i.cuts f)) (same_id h f))
      ∙ go (same_file h f) (map.contains_key i.drops f) refl
    where
      some : (o : Option ℕ) → Some (min n (unwrap_or o n)) ≡ least_of (Some n) o
      some None = ap Some (let same : min n n ≡ n = omega arith in same)
      some (Some m) = refl

      go : (a b : Bool) → same_file h f ≡ a → cond {A = Option ℕ} b (Some 0) (cond a (Some (cut_from i.cuts h n)) (map.get i.cuts f)) ≡ least_of (cond {A = Option ℕ} a (Some n) None) (cond {A = Option ℕ} b (Some 0) (map.get i.cuts f))
      go true true e = ap Some (let none : 0 ≡ min n 0 = omega arith in none)
      go true false e = ap (λ (x : FileId). Some (cut_from i.cuts x n)) (same_file-true h f e) ∙ some (map.get i.cuts f)
      go false b e = refl

  -- ---- pages that are put

  pub taken_page : (g : Option Gone) (f : FileId) (n : ℕ) → takes g (PageOf f n) ≡ is_cut (first_taken g f) n
  taken_page None f n = refl
  taken_page (Some (gone.File h)) f n = go (same_file h f)
    where
      go : (b : Bool) → b ≡ is_cut (cond {A = Option ℕ} b (Some 0) None) n
      go true = sym (le-leb 0 n (omega arith))
      go false = refl
  taken_page (Some (gone.Pages h m)) f n = go (same_file h f)
    where
      go : (b : Bool) → (b && nat_le m n) ≡ is_cut (cond {A = Option ℕ} b (Some m) None) n
      go true = refl
      go false = refl

  put_there : (g : Option Gone) (f : FileId) (n : ℕ) (o : Option ℕ) → first_taken g f ≡ o → map.get (ahead_of i g puts).puts (PageOf f n) ≡ cond (is_cut o n) None (map.get puts (PageOf f n))
  put_there g f n o e = taken_puts g (PageOf f n) ∙ ap (λ (b : Bool). cond b None (map.get puts (PageOf f n))) (taken_page g f n ∙ ap (λ (x : Option ℕ). is_cut x n) e)

  -- where nothing is taken of the file
  pub all_pages : (g : Option Gone) (f : FileId) (first last : ℕ) → first_taken g f ≡ None → APageStands puts f first last → APageStands (ahead_of i g puts).puts f first last
  all_pages g f first last e a = record { number = a.number; within = a.within; page = a.page; stands = put_there g f a.number None e ∙ a.stands }

  pub no_pages : (g : Option Gone) (f : FileId) (n : ℕ) → first_taken g f ≡ None → map.get puts (PageOf f n) ≡ None → map.get (ahead_of i g puts).puts (PageOf f n) ≡ None
  no_pages g f n e none = put_there g f n None e ∙ none

  -- where its pages are taken from a number on
  pub pages_below : (g : Option Gone) (f : FileId) (first last end : ℕ) → first_taken g f ≡ Some end → first < end → APageStands puts f first (min last (end - 1)) → APageStands (ahead_of i g puts).puts f first last
  pages_below g f first last end e less a =
      record {
        number = a.number;
        within = (a.within.0, omega (arith, a.within.1));
        page = a.page;
        stands = put_there g f a.number (Some end) e ∙ ap (λ (b : Bool). cond b None (map.get puts (PageOf f a.number))) (lt-leb end a.number (omega (arith, a.within.1, less))) ∙ a.stands;
      }

  pub none_below : (g : Option Gone) (f : FileId) (end n : ℕ) → first_taken g f ≡ Some end → (n < end → map.get puts (PageOf f n) ≡ None) → map.get (ahead_of i g puts).puts (PageOf f n) ≡ None
  none_below g f end n e none = put_there g f n (Some end) e ∙ go (nat_le end n) refl
    where
      go : (b : Bool) → nat_le end n ≡ b → cond b None (map.get puts (PageOf f n)) ≡ None
      go true h = refl
      go false h = none (leb-false end n h)

-- ---- how often a file counts

same_id_itself : (f : FileId) → eq_by_cmp file_cmp f f ≡ true
same_id_itself f = (eq_by_cmp_equiv files_total).refl f

pub marks_dropped : (i : Intents) (f : FileId) → marks_of (intend (Drop f) i) f ≡ 1
marks_dropped i f = λ j.
    cond {A = ℕ} ((dropped_too i f f ∙ ap (λ (b : Bool). b || map.contains_key i.drops f) (same_file-itself f)) j) 1 0
    + cond {A = ℕ} (is_some ((get-remove files_total i.cuts f f ∙ ap (λ (b : Bool). cond b None (map.get i.cuts f)) (same_id_itself f)) j)) 1 0

pub marks_cut : (i : Intents) (f : FileId) (n : ℕ) → marks_of (intend (Cut f n) i) f ≡ cond {A = ℕ} (map.contains_key i.drops f) 1 0 + 1
marks_cut i f n = λ j.
    cond {A = ℕ} (map.contains_key i.drops f) 1 0
    + cond {A = ℕ} (is_some ((get-insert files_total i.cuts f (cut_from i.cuts f n) f ∙ ap (λ (b : Bool). cond b (Some (cut_from i.cuts f n)) (map.get i.cuts f)) (same_id_itself f)) j)) 1 0
