-- an entry that performs a call, where what the call is answered is known
use Rattle.std.specs.Prelude.{true, false, ◌++◌, is_some, unwrap_or, Option, None, Some, cond}
use Rattle.std.specs.Option.{option_to_list}
use Rattle.std.proofs.Common.{◌≡◌, List, [], ◌∷◌, refl, ap, ◌∙◌}
use Rattle.alp_base.specs.declared.ids.TransId.{TransId}
use Rattle.alp_files.specs.declared.call.Call.{Call}
use Rattle.alp_files.specs.Act.{Answer, id_in}
use Rattle.alp_files.specs.History.{PerformedCall}
use Rattle.alp_journal.specs.declared.entry.Entry.{Entry}
use Rattle.alp_journal.specs.Along.{state_after}
use Rattle.alp_journal.specs.Deeds.{Deed, Grants, Performs}
use Rattle.alp_journal.specs.Holder.{Life, new_life, with_life, after_done, answer_in, performs}
use Rattle.alp_journal.specs.Counts.{locked_after}
use Rattle.alp_journal.specs.State.{State, state_deed, ids_after}
use Rattle.alp_journal.specs.Moves.{stops, tried, told, halted, desk_told, next}
use Rattle.alp_history.proofs.Worked.{life_at}

-- the part is there
pub lives_there : (s : State) (t : TransId) → is_some (s.holder.lives t) ≡ true → s.holder.lives t ≡ Some (life_at s t)
lives_there s t h = go (s.holder.lives t) h
  where
    go : (o : Option Life) → is_some o ≡ true → o ≡ Some (unwrap_or o (new_life None 0 []))
    go None h = cc
    go (Some l) h = refl

-- a part performed a call and was answered so
abbrev pub performed : State → TransId → PerformedCall → Life → Answer → State
performed s t d l a = record s {
  ids = ids_after s.ids (Performs t d);
  holder = with_life (record s.holder { made = option_to_list (id_in d.reply) ++ (s.holder).made }) t (Some (after_done l d a));
  locked = locked_after s.holder s.locked (Performs t d);
}

-- what an entry leaves after all that it brings about
abbrev pub closed : Entry → State → State
closed e s = record s { desk = desk_told s e.event e.reply; is_down = false; pending = [] }

pub performs_by : (s : State) (t : TransId) (d : PerformedCall) (l : Life) (a : Answer) → s.holder.lives t ≡ Some l → answer_in s.holder l d ≡ a → state_deed s (Performs t d) ≡ performed s t d l a
performs_by s t d l a h k =
    ap (λ (o : Option Life). record s { ids = ids_after s.ids (Performs t d); holder = performs s.holder t d o; locked = locked_after s.holder s.locked (Performs t d); begun = s.begun ++ []; joined = s.joined ++ [] }) h
    ∙ ap (λ (x : Answer). record (performed s t d l x) { begun = s.begun ++ []; joined = s.joined ++ [] }) k
    ∙ (λ i. record (performed s t d l a) { begun = empty s.begun i; joined = empty s.joined i })
  where
    empty : {A : Type 0} (xs : List A) → xs ++ [] ≡ xs
    empty [] = refl
    empty (x ∷ xs) = ap (λ ys. x ∷ ys) (empty xs)

pub next_by : (s : State) (e : Entry) (ds : List Deed) → stops e ≡ false → tried s e ≡ ds → next s e ≡ closed e (state_after state_deed s ds)
next_by s e ds h k =
    ap (λ b. cond b (halted s e) (told s e)) h
    ∙ ap (λ (xs : List Deed). closed e (state_after state_deed s xs)) k

pub call_next : (s : State) (e : Entry) (t : TransId) (c : Call) (d : PerformedCall) (l : Life) (a : Answer) → stops e ≡ false → tried s e ≡ Grants t c ∷ Performs t d ∷ []
    → (state_deed s (Grants t c)).holder.lives t ≡ Some l → answer_in (state_deed s (Grants t c)).holder l d ≡ a
    → next s e ≡ closed e (performed (state_deed s (Grants t c)) t d l a)
call_next s e t c d l a h k there right =
    next_by s e (Grants t c ∷ Performs t d ∷ []) h k ∙ ap (closed e) (performs_by (state_deed s (Grants t c)) t d l a there right)
