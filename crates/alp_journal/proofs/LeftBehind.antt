-- what each part of a history changes where it stands, and that it changes the same after the same files
use Rattle.std.specs.Option.{option_to_list}
use Rattle.std.specs.FinMap as map
use Rattle.std.proofs.Common.{◌≡◌, ℕ, List, [], ◌∷◌, ◌++◌, refl, ap, subst}
use Rattle.alp_base.specs.declared.ids.FileId.{FileId}
use Rattle.alp_base.specs.declared.ids.Stamp.{Stamp}
use Rattle.alp_files.specs.Cells.{Cells}
use Rattle.alp_files.specs.Edits.{Edit, edits_map}
use Rattle.alp_files.specs.Act.{Own, Answer, run, answer, no_opens, id_in}
use Rattle.alp_files.specs.History.{PerformedCall, Standing, Decided, steps, begun}
use Rattle.alp_files.specs.Apart.{standing, changes}
use Rattle.alp_files.proofs.FrameLemmas.{program-made, more-ids}
use Rattle.alp_files.proofs.SwapLemmas.{AreAlike, part-alike}

-- what the transactions change, one after the other
abbrev pub left_along : ℕ → Standing → List (Stamp × Decided) → List (Stamp × List Edit)
left_along server s [] = []
left_along server s (x ∷ xs) = (x.0, changes server (begun s) x.1.who x.1.calls) ∷ left_along server (steps server (begun s) x.1.who x.1.calls) xs

calls-changes : (server : ℕ) (who : List ℕ) (ds : List PerformedCall) (m : Cells) (made others : List FileId) (own : Own) → AreAlike made others
    → changes server (standing m made own) who ds ≡ changes server (standing m others own) who ds
calls-changes server who [] m made others own alike = refl
calls-changes server who (d ∷ ds) m made others own alike =
    let a : Answer = answer server made (map.get m) who own d.call d.reply in
    let b : Answer = answer server others (map.get m) who own d.call d.reply in
    let e : a ≡ b = ap (run (map.get m)) (program-made server made others who own d.call (id_in d.reply) (λ f is. alike f)) in
    let ids : List FileId = option_to_list (id_in d.reply) in
    let next : Standing = standing (edits_map a.edits m) (ids ++ made) a.own in
    let rest : changes server next who ds ≡ changes server (standing (edits_map b.edits m) (ids ++ others) b.own) who ds =
    subst (λ (x : Answer). changes server next who ds ≡ changes server (standing (edits_map x.edits m) (ids ++ others) x.own) who ds) e
    (calls-changes server who ds (edits_map a.edits m) (ids ++ made) (ids ++ others) a.own (λ f. more-ids (id_in d.reply) made others f (alike f))) in
    λ i. (e i).edits ++ rest i

-- the same files, and the same ids in another order
pub part-changes : (server : ℕ) (who : List ℕ) (ds : List PerformedCall) (s t : Standing) → s.files ≡ t.files → AreAlike s.made t.made → changes server (begun s) who ds ≡ changes server (begun t) who ds
part-changes server who ds s t same alike =
    subst (λ (m : Cells). changes server (begun s) who ds ≡ changes server (standing m t.made no_opens) who ds) same (calls-changes server who ds s.files s.made t.made no_opens alike)

pub left-alike : (server : ℕ) (xs : List (Stamp × Decided)) (s t : Standing) → s.files ≡ t.files → AreAlike s.made t.made → left_along server s xs ≡ left_along server t xs
left-alike server [] s t same alike = refl
left-alike server (x ∷ xs) s t same alike =
    let l = part-alike server x.1.who x.1.calls s t same alike in
    let mine = part-changes server x.1.who x.1.calls s t same alike in
    let rest = left-alike server xs (steps server (begun s) x.1.who x.1.calls) (steps server (begun t) x.1.who x.1.calls) l.files l.made in
    λ i. (x.0, mine i) ∷ rest i
