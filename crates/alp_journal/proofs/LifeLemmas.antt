-- a live part does on the committed cells what a thread does there: as it gets locks, performs a call, and as another
-- part is applied
use Rattle.std.specs.Prelude.{Bool, true, false, ◌||◌, Option, None, Some}
use Rattle.std.specs.Option.{option_to_list}
use Rattle.std.specs.FinMap as map
use Rattle.std.proofs.Common.{◌≡◌, ℕ, List, [], ◌∷◌, ◌++◌, refl, sym, ap, subst, ◌∙◌, inl}
use Rattle.alp_base.specs.declared.ids.FileId.{FileId}
use Rattle.alp_base.specs.declared.ids.JoinNo.{JoinNo}
use Rattle.alp_files.specs.Holdings.{Holding, DoAgree, DoAgreeOnLeaves, IsIntended}
use Rattle.alp_files.proofs.HoldingLemmas.{agreement-of-leaves}
use Rattle.alp_files.specs.Cells.{Cells, same_file, has_file}
use Rattle.alp_files.specs.Edits.{Edit, edits_map}
use Rattle.alp_files.specs.Act.{Own, Answer, run, answer, no_opens, id_in}
use Rattle.alp_files.specs.History.{PerformedCall, Standing, answer_to, steps, begun}
use Rattle.alp_files.specs.Locks.{Need, granted, with_made, needs_made, needs_of, HoldsEach, IsFormed}
use Rattle.alp_files.specs.Apart.{AreSized, AreFormed, changes, ids_after, standing, Locked, after_part, IsRightUnder, DoesSame}
use Rattle.alp_files.proofs.HistoryLemmas.{AreRight-push, steps-push}
use Rattle.alp_files.proofs.HeldLemmas.{leaves-turned}
use Rattle.alp_files.proofs.FrameLemmas.{program-made, files-changed, made-after, parts-beside, none-given}
use Rattle.alp_files.proofs.CoverLemmas.{covered-more, covered-push, changes-push, joined-more, granted-more, granted-intended, with_made-intended, done-holds}
use Rattle.alp_journal.specs.Holder.{Life, no_locks, after_done}
use Rattle.alp_journal.proofs.HistoryOrder.{Item, put_item, All, AreOthers, IsClear, put-all}

-- a part with its calls and its locks
abbrev pub part_of : Life → Locked
part_of l = record { who = l.who; calls = l.calls; held = l.held }

-- a thread at the begin of a transaction, on these files
abbrev pub now_at : Cells → List FileId → Standing
now_at cells ids = standing cells ids no_opens

-- what was applied is apart from a part that voted, or stamped below its vote
abbrev pub IsVoteClear : Option ℕ → Holding → List Item → Type 0
IsVoteClear None held xs = Unit {0}
IsVoteClear (Some v) held xs = All (IsClear held v) xs

-- A live part, on the committed cells and the ids that committed parts gave, of all that were given: its calls are right
-- there under its locks, and its intents and opens are those that a thread has there.
pub record IsGoodLife (server : ℕ) (cells : Cells) (ids made : List FileId) (parts : List Item) (l : Life) : Type 0 where
  pub right : IsRightUnder server (now_at cells ids) (part_of l)
  pub edits : changes server (now_at cells ids) l.who l.calls ≡ l.edits
  pub own : (after_part server (now_at cells ids) (part_of l)).own ≡ l.own
  pub given : (f : FileId) → has_file f made ≡ false → has_file f (ids_after ids l.calls) ≡ false
  pub intended : IsIntended l.held
  pub clear : IsVoteClear l.vote l.held parts

-- ---- at its begin, and after its end

pub none-intended : IsIntended no_locks
none-intended k f m in_file is = let wrong : None ≡ Some m = is in cc

-- a part without calls
pub idle-life : (server : ℕ) (cells : Cells) (ids made : List FileId) (parts : List Item) (client : ℕ) (who : List ℕ) (held : Holding) (join : Option JoinNo)
    → ((f : FileId) → has_file f made ≡ false → has_file f ids ≡ false) → IsIntended held
    → IsGoodLife server cells ids made parts (record { join = join; client = client; who = who; calls = []; edits = []; own = no_opens; held = held; vote = None; is_early = false })
idle-life server cells ids made parts client who held join given intended =
    record { right = record { formed = tt; right = tt; covered = tt }; edits = refl; own = refl; given = given; intended = intended; clear = tt }

-- ---- locks

unvoted : (v : Option ℕ) (held : Holding) (parts : List Item) → v ≡ None → IsVoteClear v held parts
unvoted v held parts e = subst (λ (o : Option ℕ). IsVoteClear o held parts) (sym e) tt

pub granted-life : (server : ℕ) (cells : Cells) (ids made : List FileId) (parts : List Item) (l : Life) (ns : List Need) → l.vote ≡ None → IsGoodLife server cells ids made parts l
    → IsGoodLife server cells ids made parts (record l { held = granted l.held ns })
granted-life server cells ids made parts l ns free h = record {
  right = record {
    formed = h.right.formed;
    right = h.right.right;
    covered = covered-more l.held (granted l.held ns) (granted-more l.held ns) server (now_at cells ids) l.who l.calls h.right.covered;
  };
  edits = h.edits;
  own = h.own;
  given = h.given;
  intended = granted-intended l.held ns h.intended;
  clear = unvoted l.vote (granted l.held ns) parts free;
}

-- ---- a call

or-false-parts : (a b : Bool) → (a || b) ≡ false → (a ≡ false) × (b ≡ false)
or-false-parts true b e = cc
or-false-parts false b e = (refl, e)

-- an id that was not given to any file was not before
pub given-before : (x : Option FileId) (made : List FileId) (f : FileId) → has_file f (option_to_list x ++ made) ≡ false → has_file f made ≡ false
given-before None made f h = h
given-before (Some g) made f h = (or-false-parts (same_file g f) (has_file f made) h).1

given-one : (x : Option FileId) (made ids : List FileId) (f : FileId) → (has_file f made ≡ false → has_file f ids ≡ false) → has_file f (option_to_list x ++ made) ≡ false
    → has_file f (option_to_list x ++ ids) ≡ false
given-one None made ids f h k = h k
given-one (Some g) made ids f h k =
    let parts = or-false-parts (same_file g f) (has_file f made) k in
    ap (λ (b : Bool). b || has_file f ids) parts.0 ∙ h parts.1

ids-push : (ids : List FileId) (ds : List PerformedCall) (d : PerformedCall) → ids_after ids (ds ++ d ∷ []) ≡ option_to_list (id_in d.reply) ++ ids_after ids ds
ids-push ids [] d = refl
ids-push ids (x ∷ ds) d = ids-push (option_to_list (id_in x.reply) ++ ids) ds d

formed-push : (ds : List PerformedCall) (d : PerformedCall) → AreFormed ds → IsFormed d.call → AreFormed (ds ++ d ∷ [])
formed-push [] d h k = (k, tt)
formed-push (x ∷ ds) d h k = (h.0, formed-push ds d h.1 k)

-- a call that some part performed gave an id, or none
pub life-given : (server : ℕ) (cells : Cells) (ids made : List FileId) (parts : List Item) (l : Life) (x : Option FileId) → IsGoodLife server cells ids made parts l
    → IsGoodLife server cells ids (option_to_list x ++ made) parts l
life-given server cells ids made parts l x h =
    record { right = h.right; edits = h.edits; own = h.own; given = λ f k. h.given f (given-before x made f k); intended = h.intended; clear = h.clear }

module _ (server : ℕ) (cells : Cells) (ids made : List FileId) (parts : List Item) (l : Life) (d : PerformedCall) where
  -- what a thread is answered that sees the cells with the part's changes
  abbrev said : Answer
  said = answer server [] (map.get (edits_map l.edits cells)) l.who l.own d.call d.reply

  pub performed-life : IsGoodLife server cells ids made parts l → l.vote ≡ None → IsFormed d.call → said.reply ≡ Some d.reply
      → ((f : FileId) → id_in d.reply ≡ Some f → has_file f made ≡ false) → HoldsEach l.held (needs_of (map.get (edits_map l.edits cells)) l.own d.call)
      → IsGoodLife server cells ids (option_to_list (id_in d.reply) ++ made) parts (after_done l d said)
  performed-life h free formed right fresh locked =
      let base : Standing = now_at cells ids in
      let t : Standing = steps server base l.who l.calls in
      let held : Holding = with_made l.held (id_in d.reply) in
      let files : edits_map l.edits cells ≡ t.files = sym (files-changed server l.who l.calls base ∙ ap (λ (es : List Edit). edits_map es cells) h.edits) in
      let own : l.own ≡ t.own = sym h.own in
      let unknown : (f : FileId) → id_in d.reply ≡ Some f → has_file f [] ≡ has_file f t.made =
      λ f e. sym (ap (has_file f) (made-after server l.who l.calls base) ∙ h.given f (fresh f e)) in
      let same : said ≡ answer_to server t l.who d =
      ap (run (map.get (edits_map l.edits cells))) (program-made server [] t.made l.who l.own d.call (id_in d.reply) unknown)
      ∙ ap (λ (m : Cells). answer server t.made (map.get m) l.who l.own d.call d.reply) files
      ∙ ap (λ (o : Own). answer server t.made (map.get t.files) l.who o d.call d.reply) own in
      let row : HoldsEach l.held (needs_of (map.get t.files) t.own d.call) =
      subst (λ (o : Own). HoldsEach l.held (needs_of (map.get t.files) o d.call)) own (subst (λ (m : Cells). HoldsEach l.held (needs_of (map.get m) l.own d.call)) files locked) in
      record {
        right = record {
          formed = formed-push l.calls d h.right.formed formed;
          right = AreRight-push server base l.who l.calls d h.right.right (ap (λ (a : Answer). a.reply) (sym same) ∙ right);
          covered =
              covered-push held server base l.who l.calls d (covered-more l.held held (joined-more l.held (needs_made (id_in d.reply))) server base l.who l.calls h.right.covered)
              (done-holds l.held (map.get t.files) t.own d row);
        };
        edits = changes-push server base l.who l.calls d ∙ ap (λ (es : List Edit). es ++ (answer_to server t l.who d).edits) h.edits ∙ ap (λ (a : Answer). l.edits ++ a.edits) (sym same);
        own = ap (λ (s : Standing). s.own) (steps-push server base l.who l.calls d) ∙ ap (λ (a : Answer). a.own) (sym same);
        given = λ f k. ap (has_file f) (ids-push ids l.calls d) ∙ given-one (id_in d.reply) made (ids_after ids l.calls) f (h.given f) k;
        intended = with_made-intended l.held (id_in d.reply) h.intended;
        clear = unvoted l.vote held parts free;
      }

-- ---- another part is applied

clear-put : (v : Option ℕ) (held : Holding) (x : Item) (xs : List Item) → AreOthers x.0 xs → DoAgreeOnLeaves held x.1.held → IsVoteClear v held xs → IsVoteClear v held (put_item x xs)
clear-put None held x xs n away c = tt
clear-put (Some v) held x xs n away c = put-all (IsClear held v) x xs n (inl away) c

-- what a part does from here on
record Does (server : ℕ) (l : Life) (s : Standing) : Type 0 where
  right : IsRightUnder server s (part_of l)
  edits : changes server (begun s) l.who l.calls ≡ l.edits
  own : (after_part server s (part_of l)).own ≡ l.own

-- the files and the ids that a live part leaves, when it is applied
pub applied-at : (server : ℕ) (cells : Cells) (ids made : List FileId) (parts : List Item) (p : Life) → IsGoodLife server cells ids made parts p
    → begun (after_part server (now_at cells ids) (part_of p)) ≡ now_at (edits_map p.edits cells) (ids_after ids p.calls)
applied-at server cells ids made parts p h =
    ap (λ (m : Cells). standing m (after_part server (now_at cells ids) (part_of p)).made no_opens) (files-changed server p.who p.calls (now_at cells ids) ∙ ap (λ (es : List Edit). edits_map es cells) h.edits)
    ∙ ap (now_at (edits_map p.edits cells)) (made-after server p.who p.calls (now_at cells ids))

pub other-life : (server : ℕ) (cells : Cells) (ids made : List FileId) (parts : List Item) (p l : Life) (x : Item) → x.1 ≡ part_of p → AreOthers x.0 parts → AreSized (map.get cells)
    → DoAgree l.held p.held → IsGoodLife server cells ids made parts p → IsGoodLife server cells ids made parts l
    → IsGoodLife server (edits_map p.edits cells) (ids_after ids p.calls) made (put_item x parts) l
other-life server cells ids made parts p l x is new sized agree h g =
    let leaves : DoAgreeOnLeaves l.held p.held = agreement-of-leaves l.held p.held agree g.intended h.intended in
    let base : Standing = now_at cells ids in
    let same : DoesSame l.held server base (begun (after_part server base (part_of p))) l.who l.calls =
    parts-beside server base (part_of p) (part_of l) sized (leaves-turned l.held p.held leaves) h.right g.right in
    let moved : Does server l (now_at (edits_map p.edits cells) (ids_after ids p.calls)) =
    subst (Does server l) (applied-at server cells ids made parts p h) (record {
      right = record { formed = g.right.formed; right = same.right g.right.right; covered = same.covered g.right.covered };
      edits = sym same.edits ∙ g.edits;
      own = sym same.own ∙ g.own;
    }) in
    record {
      right = moved.right;
      edits = moved.edits;
      own = moved.own;
      given = λ f k. none-given p.calls l.calls ids f (h.given f k) (g.given f k);
      intended = g.intended;
      clear = clear-put l.vote l.held x parts new (subst (λ (q : Locked). DoAgreeOnLeaves l.held q.held) (sym is) leaves) g.clear;
    }
