-- What was read of a volume is what memory is to know of it.
use Rattle.std.specs.Prelude.{Bool, true, false, not, cond, ◌&&◌, ◌||◌, ◌==◌, nat_le, nat_lt, is_some, Option, None, Some, option_map, slice_index_or, Result, Ok, Err, IfOk}
use Rattle.std.specs.Option.{option_and_then}
use Rattle.std.specs.Int.{bit_at}
use Rattle.std.specs.FinMap as map
use Rattle.std.proofs.Common.{◌≡◌, ℕ, ◌+◌, ◌<◌, ◌≤◌, ◌/◌, List, [], ◌∷◌, refl, sym, ◌∙◌, ap, subst, arith, eq-eqb}
use Rattle.std.proofs.lemmas.Bool.{eqb-true, cond-true, cond-false, le-leb, lt-ltb, leb-true, ltb-true}
use Rattle.alp_base.specs.declared.ids.FileId.{FileId}
use Rattle.alp_base.specs.declared.key.Key.TheVariants.{Leader, PageOf, OwnerOf}
use Rattle.alp_base.specs.declared.faults.VaultFault.{VaultFault}
use Rattle.alp_base.specs.declared.cell.Cell.{Cell}
use Rattle.alp_base.specs.declared.cell.OwnerRecord.{OwnerRecord}
use Rattle.alp_files.specs.Cells.{Cells, View, owner_in, same_name}
use Rattle.alp_base.specs.declared.cell.Cell.TheVariants as cell
use Rattle.alp_files.specs.Files.{AreFiles, IsOfKind}
use Rattle.alp_files.proofs.SameLemmas.{same_name-true, same_name-itself}
use Rattle.alp_volume.specs.declared.catalog.Catalog.{Catalog}
use Rattle.alp_pages.specs.declared.entry.Entry.{Entry}
use Rattle.alp_tables.specs.declared.file_slot.FileSlot.{FileSlot}
use Rattle.alp_pages.specs.Counted.{bit}
use Rattle.alp_pages.specs.Naming.{Naming, IsNaming, number_or_0}
use Rattle.alp_pages.specs.Nodes.{Node, LeaderOf, IndexOf, DataOf, same_node}
use Rattle.alp_pages.specs.Pages.{Pages, entry_in, row_in}
use Rattle.alp_pages.specs.Volume.{Volume, Spells, StandFor, entry_for, record_for}
use Rattle.alp_pages.specs.Damage.{Name, Part, parts, damage_of, first_wrong, has_node, has_place, entry_there, owner_there, is_named, names_after}
use Rattle.alp_volume.specs.Reached.{AreMarks, AreListed, AreOwners, AreNamed, Files, Owners, IsJudged, slot_of}
use Rattle.alp_volume.specs.Known.{IsRead, Knows, leader_of}
use Rattle.alp_pages.proofs.NamingLaws.{eqb_other}
use Rattle.alp_volume.proofs.LoopLaws.{Along}
use Rattle.alp_pages.proofs.FetchLaws.{there_is}
use Rattle.alp_pages.proofs.NodeLaws.{same_bits}
use Rattle.alp_pages.proofs.NamesLaws.{places_by, AreRight, none_wrong}
use Rattle.alp_pages.proofs.StandLaws.{the_volume, spells, stands, m}
use Rattle.alp_pages.proofs.UniqueLaws.{leader_place, child_place, page_place, page_below}

-- ---- volumes that one set of pages spells have the same places

module _ (home : ℕ) (at : Pages) (v w : Volume) (k l : View) (a : Spells home at v k) (b : Spells home at w l) (files : AreFiles k) (others : AreFiles l) where
  few_pages : (f : FileId) (n q : ℕ) → v.places.of (DataOf f n) ≡ Some q → (n < 4096) × is_some (v.places.of (LeaderOf f)) ≡ true
  few_pages f n q h =
      let cell = there_is (k (PageOf f n)) (sym (a.shape.pages f n) ∙ ap is_some h) in
      let file = files.paged f n cell.0 cell.1 in
      (page_below home at v w k l a b files others f n cell.0 cell.1, a.shape.leaders f ∙ ap is_some file.1)

  pub same_place : (x : Node) (p : ℕ) → v.places.of x ≡ Some p → w.places.of x ≡ Some p
  same_place (LeaderOf f) p h = leader_place home at v w k l a b f p h
  same_place (IndexOf f c) p h =
      let page = a.shape.page f c p h in
      let data_ = there_is (v.places.of (DataOf f page.0)) page.2 in
      let few = few_pages f page.0 data_.0 data_.1 in
      let leader = there_is (v.places.of (LeaderOf f)) few.1 in
      child_place home at v w k l a b (LeaderOf f) leader.0 c p leader.1 (leader_place home at v w k l a b f leader.0 leader.1) (omega (arith, few.0, page.1)) h
  same_place (DataOf f n) p h =
      let few = few_pages f n p h in
      let leader = there_is (v.places.of (LeaderOf f)) few.1 in
      page_place home at v w k l a b f n leader.0 p leader.1 few.0 h

-- ---- names and their naming

has_is : (k : Node) (names : List Name) → has_node k names ≡ is_some ((places_by names).of k)
has_is k [] = refl
has_is k (x ∷ xs) = go (same_node k x.0) (has_is k xs)
  where
    go : (t : Bool) → has_node k xs ≡ is_some ((places_by xs).of k) → (t || has_node k xs) ≡ is_some (cond t (Some x.1) ((places_by xs).of k))
    go true later = refl
    go false later = later

turned : (p q : ℕ) → (p == q) ≡ (q == p)
turned p q = go (p == q) refl (q == p) refl
  where
    go : (t : Bool) → (p == q) ≡ t → (u : Bool) → (q == p) ≡ u → t ≡ u
    go true e true d = refl
    go false e false d = refl
    go true e false d = let same = eqb-true p q e in let yes : (q == p) ≡ true = eq-eqb q p (sym same) in cc
    go false e true d = let same = eqb-true q p d in let yes : (p == q) ≡ true = eq-eqb p q (sym same) in cc

has_place_is : (p : ℕ) (names : List Name) → has_place p names ≡ is_some ((places_by names).at p)
has_place_is p [] = refl
has_place_is p (x ∷ xs) = ap (λ (t : Bool). t || has_place p xs) (turned x.1 p) ∙ go (p == x.1) (has_place_is p xs)
  where
    go : (t : Bool) → has_place p xs ≡ is_some ((places_by xs).at p) → (t || has_place p xs) ≡ is_some (cond t (Some x.0) ((places_by xs).at p))
    go true later = refl
    go false later = later

-- ---- what memory knows

module _ (home : ℕ) (at : Pages) (right : AreRight home at [] (parts at)) (cells : Cells) (standing : StandFor home at cells) where
  abbrev v : Volume
  v = standing.volume

  abbrev names : List Name
  names = names_after at [] (parts at)

  there_of : (x : Node) (p : ℕ) → v.places.of x ≡ Some p → (places_by names).of x ≡ Some p
  there_of = same_place home at v (the_volume home at right) (map.get cells) (map.get (m home at right)) standing.spells (spells home at right) standing.sound.0 (stands home at right).sound.0

  back_of : (x : Node) (p : ℕ) → (places_by names).of x ≡ Some p → v.places.of x ≡ Some p
  back_of = same_place home at (the_volume home at right) v (map.get (m home at right)) (map.get cells) (spells home at right) standing.spells (stands home at right).sound.0 standing.sound.0

  node_known : (k : Node) → has_node k names ≡ is_some (v.places.of k)
  node_known k = has_is k names ∙ same_bits (is_some ((places_by names).of k)) (is_some (v.places.of k))
      (λ e. let p = there_is ((places_by names).of k) e in ap is_some (back_of k p.0 p.1))
      (λ e. let p = there_is (v.places.of k) e in ap is_some (there_of k p.0 p.1))

  place_known : (p : ℕ) → has_place p names ≡ is_some (v.places.at p)
  place_known p = has_place_is p names ∙ same_bits (is_some ((places_by names).at p)) (is_some (v.places.at p))
      (λ e. let k = there_is ((places_by names).at p) e in
      ap is_some (standing.spells.shape.places.there k.0 p (back_of k.0 p ((spells home at right).shape.places.back p k.0 k.1))))
      (λ e. let k = there_is (v.places.at p) e in
      ap is_some ((spells home at right).shape.places.there k.0 p (there_of k.0 p (standing.spells.shape.places.back p k.0 k.1))))

  module _ (files : Files) (slots : List Bool) (listed : AreListed home at 4096 names files slots) where
    entry_is : (s : ℕ) → s < 4096 → entry_there (entry_in at s) ≡ option_map (entry_for v) (v.slots.at s)
    entry_is s low = ap entry_there (standing.spells.directory s low)

    record HasSlot (f : FileId) (x : FileSlot) : Type 0 where
      pub slot : v.slots.of f ≡ Some x.slot
      pub place : v.places.of (LeaderOf f) ≡ Some x.place

    known_slot : (f : FileId) (x : FileSlot) → map.get files f ≡ Some x → HasSlot f x
    known_slot f x is =
        let back = listed.back f x is in
        go (v.slots.at x.slot) refl (sym (entry_is x.slot back.0) ∙ back.1)
      where
        go : (o : Option FileId) → v.slots.at x.slot ≡ o → option_map (entry_for v) o ≡ Some (record { file = f; place = x.place }) → HasSlot f x
        go None here e = cc
        go (Some g) here e =
            let same : entry_for v g ≡ record { file = f; place = x.place } = entry_or (entry_for v g) (record { file = f; place = x.place }) e in
            let file : g ≡ f = ap (λ (z : Entry). z.file) same in
            let number : number_or_0 (v.places.of (LeaderOf g)) ≡ x.place = ap (λ (z : Entry). z.place) same in
            let slot : v.slots.of f ≡ Some x.slot = standing.spells.shape.slots.back x.slot f (here ∙ ap Some file) in
            let there = there_is (v.places.of (LeaderOf f)) (standing.spells.shape.leaders f ∙ sym (standing.spells.shape.files f) ∙ ap is_some slot) in
            record { slot = slot; place = there.1 ∙ ap Some (sym (ap number_or_0 there.1) ∙ ap (λ (h : FileId). number_or_0 (v.places.of (LeaderOf h))) (sym file) ∙ number) }
          where
            entry_or : (a b : Entry) → ◌≡◌ {A = Option Entry} (Some a) (Some b) → a ≡ b
            entry_or a b e = cc

    no_slot : (f : FileId) → map.get files f ≡ None → v.slots.of f ≡ None
    no_slot f is = go (v.slots.of f) refl
      where
        go : (o : Option ℕ) → v.slots.of f ≡ o → o ≡ None
        go None e = refl
        go (Some s) e =
            let low = standing.spells.shape.slots.most f s e in
            let here : entry_there (entry_in at s) ≡ Some (entry_for v f) = entry_is s low ∙ ap (option_map (entry_for v)) (standing.spells.shape.slots.there f s e) in
            let one : option_map slot_of (map.get files f) ≡ Some s = listed.there s (entry_for v f) low here in
            let two : option_map slot_of (map.get files f) ≡ None = ap (option_map slot_of) is in
            (let never : ◌≡◌ {A = Option ℕ} (Some s) None = sym one ∙ two in cc)

    slots_known : (f : FileId) → option_map slot_of (map.get files f) ≡ v.slots.of f
    slots_known f = go (map.get files f) refl
      where
        go : (o : Option FileSlot) → map.get files f ≡ o → option_map slot_of o ≡ v.slots.of f
        go None e = sym (no_slot f e)
        go (Some x) e = sym (known_slot f x e).slot

    leaders_known : (f : FileId) → option_map leader_of (map.get files f) ≡ v.places.of (LeaderOf f)
    leaders_known f = go (map.get files f) refl
      where
        go : (o : Option FileSlot) → map.get files f ≡ o → option_map leader_of o ≡ v.places.of (LeaderOf f)
        go (Some x) e = sym (known_slot f x e).place
        go None e = sym (none (v.places.of (LeaderOf f)) (standing.spells.shape.leaders f ∙ sym (standing.spells.shape.files f) ∙ ap is_some (no_slot f e)))
          where
            none : (o : Option ℕ) → is_some o ≡ false → o ≡ None
            none None h = refl
            none (Some p) h = cc

    slots_taken : (s : ℕ) → s < 4096 → slice_index_or slots s true ≡ is_some (v.slots.at s)
    slots_taken s low =
        listed.flags s low
        ∙ ap (λ (t : Bool). t && is_some (entry_there (entry_in at s))) (lt-ltb s 4096 low)
        ∙ ap is_some (entry_is s low)
        ∙ mapped (v.slots.at s)
      where
        mapped : (o : Option FileId) → is_some (option_map (entry_for v) o) ≡ is_some o
        mapped None = refl
        mapped (Some g) = refl

  module _ (owners : Owners) (rows : List Bool) (owned : AreOwners at 256 owners rows) where
    owner_is : (r : ℕ) → r < 256 → owner_there (row_in at r) ≡ option_and_then (record_for (map.get cells)) (v.rows.at r)
    owner_is r low = ap owner_there (standing.spells.owners r low)

    -- an owner's row is there just where its record is
    own_record : (name : List ℕ) (r : ℕ) → v.rows.at r ≡ Some name → (o : OwnerRecord) × (record_for (map.get cells) name ≡ Some o) × (o.name ≡ name)
    own_record name r here =
        let cell = there_is (map.get cells (OwnerOf name)) (sym (standing.spells.shape.owners name) ∙ ap is_some (standing.spells.shape.rows.back r name here)) in
        go cell.0 cell.1 (standing.sound.0.kinds (OwnerOf name) cell.0 cell.1)
      where
        go : (c : Cell) → map.get cells (OwnerOf name) ≡ Some c → IsOfKind (OwnerOf name) c → (o : OwnerRecord) × (record_for (map.get cells) name ≡ Some o) × (o.name ≡ name)
        go (cell.Leader p) is kind = absurd kind
        go (cell.Page bytes) is kind = absurd kind
        go (cell.Owner o) is kind = (o, ap owner_in is, kind)

    rows_known : (name : List ℕ) → map.get owners name ≡ v.rows.of name
    rows_known name = go (v.rows.of name) refl
      where
        go : (o : Option ℕ) → v.rows.of name ≡ o → map.get owners name ≡ o
        go (Some r) e =
            let here = standing.spells.shape.rows.there name r e in
            let low = standing.spells.shape.rows.most name r e in
            let own = own_record name r here in
            let is : owner_there (row_in at r) ≡ Some own.0 = owner_is r low ∙ ap (option_and_then (record_for (map.get cells))) here ∙ own.1 in
            ap (map.get owners) (sym own.2) ∙ owned.there r own.0 low is
        go None e = none (map.get owners name) refl
          where
            none : (o : Option ℕ) → map.get owners name ≡ o → o ≡ None
            none None d = refl
            none (Some r) d =
                let back = owned.back name r d in
                let row = named_row r back.0 (v.rows.at r) refl (sym (ap (is_named name) (owner_is r back.0)) ∙ back.1) in
                let there : v.rows.of name ≡ Some r = standing.spells.shape.rows.back r name row in
                (let never : ◌≡◌ {A = Option ℕ} (Some r) None = sym there ∙ e in cc)
              where
                named_row : (r : ℕ) → r < 256 → (o : Option (List ℕ)) → v.rows.at r ≡ o → is_named name (option_and_then (record_for (map.get cells)) (v.rows.at r)) ≡ true → v.rows.at r ≡ Some name
                named_row r low None here h = let never : is_named name (option_and_then (record_for (map.get cells)) None) ≡ true = ap (λ x. is_named name (option_and_then (record_for (map.get cells)) x)) (sym here) ∙ h in cc
                named_row r low (Some other) here h =
                    let own = own_record other r here in
                    let named : same_name own.0.name name ≡ true = sym (ap (λ x. is_named name (option_and_then (record_for (map.get cells)) x)) here ∙ ap (is_named name) own.1) ∙ h in
                    here ∙ ap Some (sym own.2 ∙ same_name-true own.0.name name named)

    rows_taken : (r : ℕ) → r < 256 → slice_index_or rows r true ≡ is_some (v.rows.at r)
    rows_taken r low =
        owned.flags r low
        ∙ ap (λ (t : Bool). t && is_some (owner_there (row_in at r))) (lt-ltb r 256 low)
        ∙ ap is_some (owner_is r low)
        ∙ go (v.rows.at r) refl
      where
        go : (o : Option (List ℕ)) → v.rows.at r ≡ o → is_some (option_and_then (record_for (map.get cells)) o) ≡ is_some o
        go None e = refl
        go (Some name) e = ap is_some (own_record name r e).1

  pub knows : (c : Catalog) → AreMarks home names c.places → AreListed home at 4096 names c.files c.slots → AreOwners at 256 c.owners c.rows → AreNamed 4096 names c.files → Knows home standing.volume c
  knows c marks listed owned named = record {
    slots = slots_known c.files c.slots listed;
    leaders = leaders_known c.files c.slots listed;
    blocks = λ f x b is few. named.blocks f x b is (listed.back f x is).0 few ∙ ap bit (node_known (IndexOf f b));
    rows = rows_known c.owners c.rows owned;
    entries_taken = slots_taken c.files c.slots listed;
    rows_taken = rows_taken c.owners c.rows owned;
    places_taken = λ p least most. marks.says p ∙ ap (λ (t : Bool). not (t && nat_lt p home && not (has_place p names))) (le-leb 257 p least) ∙ ap (λ (t : Bool). not (t && not (has_place p names))) (lt-ltb p home most) ∙ twice (has_place p names) ∙ place_known p;
    head = λ p low. marks.says p ∙ first p low;
  }
    where
      twice : (t : Bool) → not (not t) ≡ t
      twice true = refl
      twice false = refl

      first : (p : ℕ) → p < 257 → not (nat_le 257 p && nat_lt p home && not (has_place p names)) ≡ true
      first p low = go (nat_le 257 p) refl
        where
          go : (t : Bool) → nat_le 257 p ≡ t → not (t && nat_lt p home && not (has_place p names)) ≡ true
          go true e = let wrong = leb-true 257 p e in absurd (omega arith)
          go false e = refl

-- ---- the whole reading

pub damage_is : (home : ℕ) (at : Pages) → damage_of home at ≡ first_wrong home at [] (parts at)
unfolding damage_of
damage_is home at = refl

pub finish : (home : ℕ) (at : Pages) (names : List Name) (whole rest : List Part) (now : List Name) (P Q : List Name → Type 0) → ((ns : List Name) → P ns → Q ns) → Along home at names whole rest now → (r : Result (Option ℕ) VaultFault) → IfOk r (IsJudged home at now rest P) → IfOk r (IsJudged home at names whole Q)
finish home at first whole rest now P Q all along (Err e) j = tt
finish home at first whole rest now P Q all along (Ok None) j = (along.wrong ∙ j.0, subst Q (sym along.after) (all (names_after at now rest) j.1))
finish home at first whole rest now P Q all along (Ok (Some p)) j = along.wrong ∙ j

pub known_volume : (home : ℕ) (at : Pages) (c : Catalog) → IsJudged home at [] (parts at) (λ ns. IsRead home at ns c) None → (cells : Cells) (standing : StandFor home at cells) → Knows home standing.volume c
known_volume home at c judged cells standing = knows home at (none_wrong home at [] (parts at) judged.0) cells standing c judged.1.marks judged.1.listed judged.1.owned judged.1.named
