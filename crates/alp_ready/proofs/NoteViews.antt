-- notes by what they keep, and what each change makes of that
use Rattle.std.specs.Prelude.{Bool, true, false, cond, ◌==◌, ◌&&◌, ◌||◌, nat_eq, Option, None, Some, is_some}
use Rattle.std.specs.List.{list_all}
use Rattle.std.specs.Option.{option_and_then}
use Rattle.std.specs.FinMap as map
use Rattle.std.specs.FinMap.{get-insert, get-remove}
use Rattle.std.specs.Cmp.Lexicographic.{pointwise, nat_list_cmp_total}
use Rattle.std.specs.Ordering.{eq_by_cmp}
use Rattle.std.specs.Cmp.{eq_by_cmp_equiv}
use Rattle.std.proofs.lemmas.Map.Lookups.{exact_bytes}
use Rattle.std.proofs.lemmas.Map.Views.{tells_apart}
use Rattle.std.proofs.Common.{◌≡◌, ℕ, ◌≤◌, List, [], ◌∷◌, length, refl, sym, ◌∙◌, ap, subst, arith, eq-eqb}
use Rattle.std.proofs.lemmas.Bool.{and_from}
use Rattle.alp_base.specs.Notes.{Notes, text_cmp, noted}
use Rattle.alp_base.specs.declared.ids.JoinNo.{JoinNo}
use Rattle.alp_base.specs.declared.ids.TransId.{TransId}
use Rattle.alp_fields.specs.Fields.{is_time}
use Rattle.alp_fields.specs.Forms.{IsForm, checked, pair, whole, u32, u64}
use Rattle.alp_fields.specs.ClockNote.{clock_name, clock_form, clock_in, clock_kept, is_clock_note}
use Rattle.alp_fields.specs.declared.clock_note.ClockNote.{ClockNote}
use Rattle.alp_fields.specs.ReadyNote.{ready_name, ready_form, ready_in, ready_with}
use Rattle.alp_fields.specs.declared.ready_note.ReadyPart.{ReadyPart}
use Rattle.alp_fields.specs.DecisionNote.{decision_name, decision_form, decision_in, decision_with}
use Rattle.alp_fields.specs.declared.decision_note.Decision.{Decision}
use Rattle.alp_fields.proofs.ClockLemmas.{clock_back}
use Rattle.alp_fields.proofs.FieldLaws.{u32_law, u64_law}
use Rattle.alp_fields.proofs.FormLaws.{pair_law, mapped_law, checked_law, whole_back}
use Rattle.alp_fields.proofs.ReadyNoteLaw.{ready_name_law, ready_law, ready_name_length, ready_back}
use Rattle.alp_fields.proofs.DecisionNoteLaw.{decision_name_law, decision_law, decision_name_length, decision_back}
use Rattle.alp_vault.specs.Volumes.{is_another, is_ready_on, is_decision_of, is_server_note, AreServerNotes}
use Rattle.alp_ready.specs.NoteLooks.{ready_at, decision_at, Keeps}

-- ---- names

names_differ : (x y : List ℕ) → (x ≡ y → ⊥) → eq_by_cmp text_cmp x y ≡ false
names_differ x y differ = go (eq_by_cmp text_cmp x y) refl
  where
    go : (b : Bool) → eq_by_cmp text_cmp x y ≡ b → b ≡ false
    go false e = refl
    go true e = absurd (differ (tells_apart exact_bytes x y e))

-- a name is its own
name_itself : (x : List ℕ) → eq_by_cmp text_cmp x x ≡ true
name_itself x = (eq_by_cmp_equiv nat_list_cmp_total).refl x

ready_no_clock : (j : JoinNo) → ready_name.spell j ≡ clock_name → ⊥
ready_no_clock j e = (let same : length (ready_name.spell j) ≡ 1 = ap (λ (bs : List ℕ). length bs) e in let wrong : length (ready_name.spell j) ≡ 10 = ready_name_length j in absurd (omega (arith, same, wrong)))

decision_no_clock : (t : TransId) → decision_name.spell t ≡ clock_name → ⊥
decision_no_clock t e = (let same : length (decision_name.spell t) ≡ 1 = ap (λ (bs : List ℕ). length bs) e in let wrong : length (decision_name.spell t) ≡ 10 = decision_name_length t in absurd (omega (arith, same, wrong)))

abbrev first_of : List ℕ → ℕ
first_of [] = 0
first_of (n ∷ ns) = n

ready_first : (j : JoinNo) → first_of (ready_name.spell j) ≡ 82
unfolding ready_name
ready_first j = refl

decision_first : (t : TransId) → first_of (decision_name.spell t) ≡ 68
unfolding decision_name
decision_first t = refl

ready_no_decision : (j : JoinNo) (t : TransId) → ready_name.spell j ≡ decision_name.spell t → ⊥
ready_no_decision j t e = (let wrong : 82 ≡ 68 = sym (ready_first j) ∙ ap first_of e ∙ decision_first t in absurd (omega (arith, wrong)))

-- one name, one number
some_same : {X : Type 0} (x y : X) → Some x ≡ Some y → x ≡ y
some_same {X} x y e = ap from e
  where
    from : Option X → X
    from None = x
    from (Some z) = z

pub ready_names : (i j : JoinNo) → ready_name.Fits i → ready_name.Fits j → ready_name.spell i ≡ ready_name.spell j → i ≡ j
ready_names i j fi fj e = some_same i j (sym (whole_back ready_name ready_name_law i fi) ∙ ap (whole ready_name) e ∙ whole_back ready_name ready_name_law j fj)

pub decision_names : (t u : TransId) → decision_name.Fits t → decision_name.Fits u → decision_name.spell t ≡ decision_name.spell u → t ≡ u
decision_names t u ft fu e = some_same t u (sym (whole_back decision_name decision_name_law t ft) ∙ ap (whole decision_name) e ∙ whole_back decision_name decision_name_law u fu)

-- ---- what is found behind a change

-- the value, if one was put
found_value : (name : List ℕ) (value : Option (List ℕ)) (notes : Notes) → map.get (noted name value notes) name ≡ value
found_value name None notes = get-remove nat_list_cmp_total notes name name ∙ ap (λ (b : Bool). cond {A = Option (List ℕ)} b None (map.get notes name)) (name_itself name)
found_value name (Some v) notes = get-insert nat_list_cmp_total notes name v name ∙ ap (λ (b : Bool). cond {A = Option (List ℕ)} b (Some v) (map.get notes name)) (name_itself name)

-- and what stood under another name
found_other : (name : List ℕ) (value : Option (List ℕ)) (notes : Notes) (x : List ℕ) → (x ≡ name → ⊥) → map.get (noted name value notes) x ≡ map.get notes x
found_other name None notes x differ = get-remove nat_list_cmp_total notes name x ∙ ap (λ (b : Bool). cond {A = Option (List ℕ)} b None (map.get notes x)) (names_differ x name differ)
found_other name (Some v) notes x differ = get-insert nat_list_cmp_total notes name v x ∙ ap (λ (b : Bool). cond {A = Option (List ℕ)} b (Some v) (map.get notes x)) (names_differ x name differ)

-- each note is the one that changed, or stood before
found_either : (name : List ℕ) (value : Option (List ℕ)) (notes : Notes) (P : List ℕ → List ℕ → Type 0) → ((v : List ℕ) → value ≡ Some v → P name v) → ((x v : List ℕ) → map.get notes x ≡ Some v → P x v)
    → (x v : List ℕ) → map.get (noted name value notes) x ≡ Some v → P x v
found_either name value notes P new old x v is = go (eq_by_cmp text_cmp x name) refl
  where
    go : (b : Bool) → eq_by_cmp text_cmp x name ≡ b → P x v
    go true e =
        let same : x ≡ name = tells_apart exact_bytes x name e in
        subst (λ (n : List ℕ). P n v) (sym same) (new v (sym (found_value name value notes) ∙ ap (map.get (noted name value notes)) (sym same) ∙ is))
    go false e = old x v (sym (found_other name value notes x (λ same. (let wrong : true ≡ false = sym (name_itself name) ∙ ap (λ (n : List ℕ). eq_by_cmp text_cmp n name) (sym same) ∙ e in cc))) ∙ is)

-- ---- what a change makes of them

clock_law : IsForm clock_form
unfolding clock_form
clock_law = mapped_law _ _ (pair u32 (checked is_time u64)) (λ v. refl) (λ x. refl) (pair_law u32 (checked is_time u64) u32_law (checked_law is_time u64 u64_law))

module _ (server servers : ℕ) (clock : ClockNote) (part : JoinNo → Option ReadyPart → Type 0) (decided : TransId → Option Decision) (notes : Notes) (h : Keeps server servers clock part decided notes) where
  -- another clock
  pub put_clock : (c : ClockNote) → clock_form.Fits c → Keeps server servers c part decided (noted clock_name (Some (clock_form.spell c)) notes)
  put_clock c fits = record {
    clock = ap clock_in (found_value clock_name (Some (clock_form.spell c)) notes) ∙ clock_back c fits;
    ready = λ j named. subst (λ (v : Option (List ℕ)). part j (option_and_then (λ value. whole ready_form value) v)) (sym (found_other clock_name (Some (clock_form.spell c)) notes (ready_name.spell j) (ready_no_clock j))) (h.ready j named);
    decided = λ t named. ap (option_and_then (λ value. whole decision_form value)) (found_other clock_name (Some (clock_form.spell c)) notes (decision_name.spell t) (decision_no_clock t)) ∙ h.decided t named;
    format = found_either clock_name (Some (clock_form.spell c)) notes (λ x v. is_server_note server servers x v ≡ true) (λ v is. subst (λ (w : List ℕ). is_server_note server servers clock_name w ≡ true) (some_same (clock_form.spell c) v is) (clock_noted c fits)) h.format;
  }
    where
      clock_noted : (c : ClockNote) → clock_form.Fits c → is_server_note server servers clock_name (clock_form.spell c) ≡ true
      clock_noted c fits = ap (λ (x : Option ClockNote). (pointwise nat_eq clock_name clock_name && is_some x) || (is_ready_on server servers (ready_in clock_name (clock_form.spell c)) || is_decision_of server servers (decision_in clock_name (clock_form.spell c)))) (whole_back clock_form clock_law c fits)

  module _ (now : JoinNo → Option ReadyPart → Type 0) (j : JoinNo) (named : ready_name.Fits j) (others : (i : JoinNo) (x : Option ReadyPart) → (i ≡ j → ⊥) → part i x → now i x) where
    -- what is said of the joins then
    ready_then : (value : Option (List ℕ)) → now j (option_and_then (λ v. whole ready_form v) value) → (i : JoinNo) → ready_name.Fits i → now i (ready_at (noted (ready_name.spell j) value notes) i)
    ready_then value this i fits = go (eq_by_cmp text_cmp (ready_name.spell i) (ready_name.spell j)) refl
      where
        go : (b : Bool) → eq_by_cmp text_cmp (ready_name.spell i) (ready_name.spell j) ≡ b → now i (ready_at (noted (ready_name.spell j) value notes) i)
        go true e =
            let same : i ≡ j = ready_names i j fits named (tells_apart exact_bytes (ready_name.spell i) (ready_name.spell j) e) in
            subst (λ (n : JoinNo). now n (ready_at (noted (ready_name.spell j) value notes) n)) (sym same) (subst (λ (v : Option (List ℕ)). now j (option_and_then (λ w. whole ready_form w) v)) (sym (found_value (ready_name.spell j) value notes)) this)
        go false e =
            let differ : ready_name.spell i ≡ ready_name.spell j → ⊥ = λ same. (let wrong : true ≡ false = sym (name_itself (ready_name.spell j)) ∙ ap (λ (n : List ℕ). eq_by_cmp text_cmp n (ready_name.spell j)) (sym same) ∙ e in cc) in
            subst (λ (v : Option (List ℕ)). now i (option_and_then (λ w. whole ready_form w) v)) (sym (found_other (ready_name.spell j) value notes (ready_name.spell i) differ)) (others i (ready_at notes i) (λ same. differ (ap ready_name.spell same)) (h.ready i fits))

    clock_then : (value : Option (List ℕ)) → clock_kept (noted (ready_name.spell j) value notes) ≡ clock
    clock_then value = ap clock_in (found_other (ready_name.spell j) value notes clock_name (λ same. ready_no_clock j (sym same))) ∙ h.clock

    decided_then : (value : Option (List ℕ)) (t : TransId) → decision_name.Fits t → decision_at (noted (ready_name.spell j) value notes) t ≡ decided t
    decided_then value t fits = ap (option_and_then (λ v. whole decision_form v)) (found_other (ready_name.spell j) value notes (decision_name.spell t) (λ same. ready_no_decision j t (sym same))) ∙ h.decided t fits

    -- a part votes
    pub put_ready : (p : ReadyPart) → ready_form.Fits p → j.server ≡ server → is_another server servers p.trans.server ≡ true → now j (Some p) → Keeps server servers clock now decided (noted (ready_name.spell j) (Some (ready_form.spell p)) notes)
    put_ready p fits here far this = record {
      clock = clock_then (Some (ready_form.spell p));
      ready = ready_then (Some (ready_form.spell p)) (subst (now j) (sym (whole_back ready_form ready_law p fits)) this);
      decided = decided_then (Some (ready_form.spell p));
      format = found_either (ready_name.spell j) (Some (ready_form.spell p)) notes (λ x v. is_server_note server servers x v ≡ true) (λ v is. subst (λ (w : List ℕ). is_server_note server servers (ready_name.spell j) w ≡ true) (some_same (ready_form.spell p) v is) part_noted) h.format;
    }
      where
        either : (c r d : Bool) → r ≡ true → (c || (r || d)) ≡ true
        either true r d e = refl
        either false true d e = refl
        either false false d e = cc

        part_noted : is_server_note server servers (ready_name.spell j) (ready_form.spell p) ≡ true
        part_noted =
            either (is_clock_note (ready_name.spell j) (ready_form.spell p)) (is_ready_on server servers (ready_in (ready_name.spell j) (ready_form.spell p))) (is_decision_of server servers (decision_in (ready_name.spell j) (ready_form.spell p)))
            (ap (is_ready_on server servers) (ready_back j p named fits) ∙ and_from (j.server == server) (is_another server servers p.trans.server) (eq-eqb j.server server here) far)

    -- and is over
    pub end_ready : now j None → Keeps server servers clock now decided (noted (ready_name.spell j) None notes)
    end_ready this = record {
      clock = clock_then None;
      ready = ready_then None this;
      decided = decided_then None;
      format = found_either (ready_name.spell j) None notes (λ x v. is_server_note server servers x v ≡ true) (λ v is. let wrong : None ≡ Some v = is in cc) h.format;
    }

  module _ (now : TransId → Option Decision) (t : TransId) (named : decision_name.Fits t) (others : (u : TransId) → (u ≡ t → ⊥) → decided u ≡ now u) where
    found_then : (value : Option (List ℕ)) → option_and_then (λ v. whole decision_form v) value ≡ now t → (u : TransId) → decision_name.Fits u → decision_at (noted (decision_name.spell t) value notes) u ≡ now u
    found_then value this u fits = go (eq_by_cmp text_cmp (decision_name.spell u) (decision_name.spell t)) refl
      where
        go : (b : Bool) → eq_by_cmp text_cmp (decision_name.spell u) (decision_name.spell t) ≡ b → decision_at (noted (decision_name.spell t) value notes) u ≡ now u
        go true e =
            let same : u ≡ t = decision_names u t fits named (tells_apart exact_bytes (decision_name.spell u) (decision_name.spell t) e) in
            subst (λ (w : TransId). decision_at (noted (decision_name.spell t) value notes) w ≡ now w) (sym same) (ap (option_and_then (λ v. whole decision_form v)) (found_value (decision_name.spell t) value notes) ∙ this)
        go false e =
            let differ : decision_name.spell u ≡ decision_name.spell t → ⊥ = λ same. (let wrong : true ≡ false = sym (name_itself (decision_name.spell t)) ∙ ap (λ (n : List ℕ). eq_by_cmp text_cmp n (decision_name.spell t)) (sym same) ∙ e in cc) in
            ap (option_and_then (λ v. whole decision_form v)) (found_other (decision_name.spell t) value notes (decision_name.spell u) differ) ∙ h.decided u fits ∙ others u (λ same. differ (ap decision_name.spell same))

    clock_still : (value : Option (List ℕ)) → clock_kept (noted (decision_name.spell t) value notes) ≡ clock
    clock_still value = ap clock_in (found_other (decision_name.spell t) value notes clock_name (λ same. decision_no_clock t (sym same))) ∙ h.clock

    ready_still : (value : Option (List ℕ)) (j : JoinNo) → ready_name.Fits j → part j (ready_at (noted (decision_name.spell t) value notes) j)
    ready_still value j fits = subst (λ (v : Option (List ℕ)). part j (option_and_then (λ w. whole ready_form w) v)) (sym (found_other (decision_name.spell t) value notes (ready_name.spell j) (ready_no_decision j t))) (h.ready j fits)

    -- a transaction is decided
    pub put_decision : (d : Decision) → decision_form.Fits d → t.server ≡ server → list_all (λ (j : JoinNo). is_another server servers j.server) d.joins ≡ true → now t ≡ Some d → Keeps server servers clock part now (noted (decision_name.spell t) (Some (decision_form.spell d)) notes)
    put_decision d fits here far this = record {
      clock = clock_still (Some (decision_form.spell d));
      ready = ready_still (Some (decision_form.spell d));
      decided = found_then (Some (decision_form.spell d)) (whole_back decision_form decision_law d fits ∙ sym this);
      format = found_either (decision_name.spell t) (Some (decision_form.spell d)) notes (λ x v. is_server_note server servers x v ≡ true) (λ v is. subst (λ (w : List ℕ). is_server_note server servers (decision_name.spell t) w ≡ true) (some_same (decision_form.spell d) v is) decision_noted) h.format;
    }
      where
        either : (c r e : Bool) → e ≡ true → (c || (r || e)) ≡ true
        either true r e h = refl
        either false true e h = refl
        either false false e h = h

        decision_noted : is_server_note server servers (decision_name.spell t) (decision_form.spell d) ≡ true
        decision_noted =
            either (is_clock_note (decision_name.spell t) (decision_form.spell d)) (is_ready_on server servers (ready_in (decision_name.spell t) (decision_form.spell d))) (is_decision_of server servers (decision_in (decision_name.spell t) (decision_form.spell d)))
            (ap (is_decision_of server servers) (decision_back t d named fits) ∙ and_from (t.server == server) (list_all (λ (j : JoinNo). is_another server servers j.server) d.joins) (eq-eqb t.server server here) far)

    -- and forgotten
    pub end_decision : now t ≡ None → Keeps server servers clock part now (noted (decision_name.spell t) None notes)
    end_decision this = record {
      clock = clock_still None;
      ready = ready_still None;
      decided = found_then None (sym this);
      format = found_either (decision_name.spell t) None notes (λ x v. is_server_note server servers x v ≡ true) (λ v is. let wrong : None ≡ Some v = is in cc) h.format;
    }
