-- the call that came to wait last, in the list of those that wait
use Rattle.std.specs.Prelude.{Option, None, Some, min}
use Rattle.std.proofs.Common.{◌≡◌, ℕ, ◌+◌, ◌-◌, ◌<◌, ◌^◌, List, [], ◌∷◌, length, drop, slice_get, slice_set, slice_index_or, true, refl, sym, ap, ◌∙◌, arith}
use Rattle.alp_base.specs.declared.ids.TransId.{TransId}
use Rattle.alp_files.specs.declared.reply.Reply.{Reply}
use Rattle.alp_files.specs.declared.reply.Reply.TheVariants as reply
use Rattle.alp_session.specs.Maps.{WordMap}
use Rattle.alp_session.specs.Clients.{first_of}
use Rattle.alp_session.specs.Heard.{is_part, others, one_more, times_asked, words_late_told}
use Rattle.alp_session.specs.declared.waiting.Purpose.{Purpose}
use Rattle.alp_session.specs.declared.waiting.Purpose.TheVariants as purpose
use Rattle.alp_session.specs.declared.waiting.Waiting.{Waiting}

pub first_got : (ws : List Waiting) → slice_get ws 0 ≡ first_of ws
first_got [] = refl
first_got (w ∷ ws) = refl

pub behind_first : (ws : List Waiting) → drop 1 ws ≡ others ws
behind_first [] = refl
behind_first (w ∷ ws) = refl

pub none_behind : (ws : List Waiting) → length ws ≡ 0 → ws ≡ others ws
none_behind [] none = refl
none_behind (w ∷ ws) none = absurd (omega (arith, none))

pub none_more : (ws : List Waiting) → length ws ≡ 0 → ws ≡ one_more ws
none_more [] none = refl
none_more (w ∷ ws) none = absurd (omega (arith, none))

pub none_asked : (ws : List Waiting) → length ws ≡ 0 → None ≡ times_asked ws
none_asked [] none = refl
none_asked (w ∷ ws) none = absurd (omega (arith, none))

-- the first is asked once more
pub first_asked : (ws : List Waiting) (w : Waiting) (n : ℕ) → 0 < length ws → w ≡ slice_index_or ws 0 w → n ≡ min (w.asked + 1) (2 ^ 32 - 1) → slice_set ws 0 (record w { asked = n }) ≡ one_more ws
first_asked [] w n some same more = absurd (omega (arith, some))
first_asked (v ∷ vs) w n some same more =
    ap (λ (m : ℕ). record w { asked = m } ∷ vs) more ∙ ap (λ (u : Waiting). record u { asked = min (u.asked + 1) (2 ^ 32 - 1) } ∷ vs) same

pub first_count : (ws : List Waiting) (w : Waiting) (n : ℕ) → 0 < length ws → w ≡ slice_index_or ws 0 w → n ≡ min (w.asked + 1) (2 ^ 32 - 1) → Some n ≡ times_asked ws
first_count [] w n some same more = absurd (omega (arith, some))
first_count (v ∷ vs) w n some same more = ap Some more ∙ ap (λ (u : Waiting). Some (min (u.asked + 1) (2 ^ 32 - 1))) same

-- a `Join` that waited binds no word
pub part_binds_nothing : (words : WordMap) (t : Option TransId) (server : ℕ) (p : Purpose) (r : Reply) → is_part p ≡ true → words ≡ words_late_told words t server p r
part_binds_nothing words t server purpose.Part (reply.Created f n) h = refl
part_binds_nothing words t server purpose.Part r h = refl
part_binds_nothing words t server (purpose.Word w) r h = cc
part_binds_nothing words t server (purpose.Open f) r h = cc
part_binds_nothing words t server purpose.Nothing r h = cc
