-- the order of stamps, and what is decided last
use Rattle.std.specs.Prelude.{List, [], ◌∷◌, ◌++◌}
use Rattle.std.specs.FinMap.Entries.{put, by_order}
use Rattle.std.specs.Cmp.{IsTotalOrder, tied_itself, nat_cmp_is}
use Rattle.std.specs.Ordering.{nat_cmp, ordering_then}
use Rattle.std.specs.declared.cmp.Ordering.{Ordering}
use Rattle.std.specs.declared.cmp.Ordering.TheVariants.{Equal, Greater}
use Rattle.std.proofs.Common.{◌≡◌, ℕ, ◌<◌, ◌≤◌, refl, sym, ◌∙◌, ap, arith}
use Rattle.alp_base.specs.declared.ids.Stamp.{Stamp}
use Rattle.alp_base.specs.declared.ids.TransId.{TransId}
use Rattle.alp_base.specs.contracts.ids.StampOrd.TheImpl.Laws as stamp_laws
use Rattle.alp_base.specs.contracts.ids.TransIdOrd.TheImpl as trans_ord
use Rattle.alp_files.specs.History.{Decided}
use Rattle.alp_journal.specs.Ids.{stamp_cmp}
use Rattle.alp_journal.specs.Account.{AreEarlier}

pub stamps_total : IsTotalOrder stamp_cmp
stamps_total = stamp_laws.total-law

pub itself : (x : Stamp) → stamp_cmp x x ≡ Equal
itself x = tied_itself stamps_total x

trans_cmp : TransId → TransId → Ordering
trans_cmp = (trans_ord.ghosts).cmp

-- a later time makes a greater stamp
pub stamp_cmp-later : (k x : Stamp) → x.ts < k.ts → stamp_cmp k x ≡ Greater
unfolding trans_cmp
stamp_cmp-later k x h =
    let above : Greater ≡ nat_cmp k.ts x.ts = nat_cmp_is k.ts x.ts Greater h in
    ap (λ (o : Ordering). ordering_then o (trans_cmp k.trans x.trans)) (sym above)

-- what is decided last stands last
pub put-last : (ds : List (Stamp × Decided)) (k : Stamp) (d : Decided) (clock : ℕ) → AreEarlier clock ds → clock < k.ts → put stamp_cmp k d ds ≡ ds ++ (k, d) ∷ []
put-last [] k d clock early late = refl
put-last (x ∷ ds) k d clock early late =
    ap (λ (o : Ordering). by_order o ((k, d) ∷ x ∷ ds) ((x.0, d) ∷ ds) (x ∷ put stamp_cmp k d ds)) (stamp_cmp-later k x.0 (let low : x.0.ts ≤ clock = early.0 in omega arith))
    ∙ ap (λ (es : List (Stamp × Decided)). x ∷ es) (put-last ds k d clock early.1 late)

pub AreEarlier-push : (ds : List (Stamp × Decided)) (k : Stamp) (d : Decided) (clock : ℕ) → AreEarlier clock ds → clock ≤ k.ts → AreEarlier k.ts (ds ++ (k, d) ∷ [])
AreEarlier-push [] k d clock early le = (omega arith, tt)
AreEarlier-push (x ∷ ds) k d clock early le = (let low : x.0.ts ≤ clock = early.0 in omega arith, AreEarlier-push ds k d clock early.1 le)
