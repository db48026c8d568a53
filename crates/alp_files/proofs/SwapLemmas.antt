-- a history goes on alike after the same files and ids, in whichever order they came, and so two of its parts change places
use Rattle.std.specs.Option.{option_to_list}
use Rattle.std.specs.FinMap as map
use Rattle.std.proofs.Common.{◌≡◌, ℕ, List, [], ◌∷◌, ◌++◌, refl, sym, ◌∙◌, ap, subst}
use Rattle.alp_base.specs.declared.ids.FileId.{FileId}
use Rattle.alp_base.specs.declared.ids.Stamp.{Stamp}
use Rattle.alp_files.specs.Holdings.{Holding, DoAgreeOnLeaves}
use Rattle.alp_files.specs.Cells.{Cells, has_file}
use Rattle.alp_files.specs.Edits.{edits_map}
use Rattle.alp_files.specs.Act.{Own, Answer, run, answer, no_opens, id_in}
use Rattle.alp_files.specs.History.{PerformedCall, Standing, AreRight, steps, Decided, begun, IsSerial, serial_end}
use Rattle.alp_files.specs.Locks.{AreCovered}
use Rattle.alp_files.specs.Apart.{AreSized, AreFormed, standing, Locked, after_part, IsRightUnder, decided_as, IsLikewise}
use Rattle.alp_files.proofs.FrameLemmas.{program-made, more-ids, parts-commute}

-- the same ids were given
abbrev pub AreAlike : List FileId → List FileId → Type 0
AreAlike made others = (f : FileId) → has_file f made ≡ has_file f others

-- the same calls, after the same ids in another order
pub record Likewise (server : ℕ) (s t : Standing) (who : List ℕ) (ds : List PerformedCall) : Type 0 where
  pub right : AreRight server s who ds → AreRight server t who ds
  pub covered : (held : Holding) → AreCovered held server s who ds → AreCovered held server t who ds
  pub files : (steps server s who ds).files ≡ (steps server t who ds).files
  pub made : AreAlike (steps server s who ds).made (steps server t who ds).made

calls-alike : (server : ℕ) (who : List ℕ) (ds : List PerformedCall) (m : Cells) (made others : List FileId) (own : Own) → AreAlike made others → Likewise server (standing m made own) (standing m others own) who ds
calls-alike server who [] m made others own alike = record { right = λ h. tt; covered = λ held h. tt; files = refl; made = alike }
calls-alike server who (d ∷ ds) m made others own alike =
    let a : Answer = answer server made (map.get m) who own d.call d.reply in
    let b : Answer = answer server others (map.get m) who own d.call d.reply in
    let e : a ≡ b = ap (run (map.get m)) (program-made server made others who own d.call (id_in d.reply) (λ f is. alike f)) in
    let ids : List FileId = option_to_list (id_in d.reply) in
    let next : Standing = standing (edits_map a.edits m) (ids ++ made) a.own in
    let rest : Likewise server next (standing (edits_map b.edits m) (ids ++ others) b.own) who ds =
    subst (λ (x : Answer). Likewise server next (standing (edits_map x.edits m) (ids ++ others) x.own) who ds) e
    (calls-alike server who ds (edits_map a.edits m) (ids ++ made) (ids ++ others) a.own (λ f. more-ids (id_in d.reply) made others f (alike f))) in
    record {
      right = λ h. (ap (λ (x : Answer). x.reply) (sym e) ∙ h.0, rest.right h.1);
      covered = λ held h. (h.0, rest.covered held h.1);
      files = rest.files;
      made = rest.made;
    }

pub part-alike : (server : ℕ) (who : List ℕ) (ds : List PerformedCall) (s t : Standing) → s.files ≡ t.files → AreAlike s.made t.made → Likewise server (begun s) (begun t) who ds
part-alike server who ds s t same alike =
    subst (λ (m : Cells). Likewise server (begun s) (standing m t.made no_opens) who ds) same (calls-alike server who ds s.files s.made t.made no_opens alike)

pub history-alike : (server : ℕ) (ds : List Decided) (s t : Standing) → s.files ≡ t.files → AreAlike s.made t.made → IsLikewise server s t ds
history-alike server [] s t same alike = record { serial = λ h. tt; files = same; ids = alike }
history-alike server (d ∷ ds) s t same alike =
    let first = part-alike server d.who d.calls s t same alike in
    let rest : IsLikewise server (steps server (begun s) d.who d.calls) (steps server (begun t) d.who d.calls) ds =
    history-alike server ds (steps server (begun s) d.who d.calls) (steps server (begun t) d.who d.calls) first.files first.made in
    record { serial = λ h. (first.right h.0, rest.serial h.1); files = rest.files; ids = rest.ids }

-- two parts of a history change places
pub history-swap : (server : ℕ) (s : Standing) (p q : Locked) (a b : Stamp) (ds : List Decided) → AreSized (map.get s.files) → DoAgreeOnLeaves p.held q.held → AreFormed p.calls → AreFormed q.calls
    → AreCovered p.held server (begun s) p.who p.calls → AreCovered q.held server (begun (after_part server s p)) q.who q.calls
    → IsSerial server s (decided_as a p ∷ decided_as b q ∷ ds)
    → IsSerial server s (decided_as b q ∷ decided_as a p ∷ ds)
    × ((serial_end server s (decided_as a p ∷ decided_as b q ∷ ds)).files ≡ (serial_end server s (decided_as b q ∷ decided_as a p ∷ ds)).files)
history-swap server s p q a b ds sized agree p_formed q_formed p_covered q_covered h =
    let one : IsRightUnder server s p = record { formed = p_formed; right = h.0; covered = p_covered } in
    let two : IsRightUnder server (after_part server s p) q = record { formed = q_formed; right = h.1.0; covered = q_covered } in
    let turned = parts-commute server s p q sized agree one two in
    let rest : IsLikewise server (after_part server (after_part server s p) q) (after_part server (after_part server s q) p) ds =
    history-alike server ds (after_part server (after_part server s p) q) (after_part server (after_part server s q) p) (sym turned.files) (λ f. sym (turned.ids f)) in
    ((turned.earlier.right, (turned.later.right, rest.serial h.1.1)), rest.files)
