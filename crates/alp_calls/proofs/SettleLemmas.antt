-- how a part stands that did what was said
use Rattle.std.specs.Prelude.{cond, Bool, true, false, not, ◌==◌, ◌&&◌, IsTrue, Option, None, Some, Result, Ok, Err, IfOk, filter}
use Rattle.std.specs.List.{list_all}
use Rattle.std.proofs.Common.{◌≡◌, ℕ, ◌+◌, ◌≤◌, List, [], ◌∷◌, ◌++◌, refl, sym, ◌∙◌, ap, subst, arith}
use Rattle.alp_base.proofs.NameLemmas.{and_left, and_right}
use Rattle.alp_base.specs.declared.ids.FileId.{FileId}
use Rattle.alp_files.specs.declared.call.Call.{Call}
use Rattle.alp_files.specs.declared.call.Call.TheVariants as call
use Rattle.alp_files.specs.declared.open.Open.{Open}
use Rattle.alp_files.specs.declared.refusal.Refusal.{Refusal}
use Rattle.alp_files.specs.declared.reply.Reply.TheVariants as reply
use Rattle.alp_files.specs.declared.reply.Reply.{Reply}
use Rattle.alp_files.specs.Act.{Own, Answer, id_in}
use Rattle.alp_files.specs.Cells.{Cells, same_file}
use Rattle.alp_files.specs.Edits.{Edit}
use Rattle.alp_files.specs.Needs.{Intents, intents_from, intents_of, changed_by}
use Rattle.alp_files.specs.Reading.{asked_pages, TellsPages}
use Rattle.alp_journal.specs.Answers.{unless_counts}
use Rattle.alp_trans.specs.Counting.{AreCountsOf, AreFew}
use Rattle.alp_trans.specs.Parts.{own_of}
use Rattle.alp_trans.specs.declared.counts.Counts.{Counts}
use Rattle.alp_trans.specs.declared.part.Part.{Part}
use Rattle.alp_calls.specs.Limits.{refused_for}
use Rattle.alp_calls.specs.Opened.{may_open, may_make, OpensNoOther, named_by, OpensOnly}
use Rattle.alp_calls.specs.Parts.{AllFit, IsPart, Settled, IsRight, Answered, SaysCall, GivesOnly, StandsAfter, IsNextOpen, IsProper, own_with, reply_of, edits_in, opens_in, answer_of}
use Rattle.alp_calls.specs.declared.fault.CallFault.{CallFault}
use Rattle.alp_calls.specs.declared.limits.Room.{Room}
use Rattle.alp_calls.specs.declared.said.Effect.{Effect}
use Rattle.alp_calls.specs.declared.said.OpenChange.{OpenChange}
use Rattle.alp_calls.specs.declared.said.OpenChange.TheVariants.{Stay, Opened, Closed, Left}
use Rattle.alp_calls.specs.declared.said.Said.{Said}
use Rattle.alp_calls.specs.declared.said.Said.TheVariants.{Told, Done}
use Rattle.alp_calls.proofs.FitLemmas.{fit_after}
use Rattle.alp_calls.proofs.PartLaws.{allowed}

-- what comes of a change, where nothing refuses it
module _ (old new : Part) (room : Room) (r : Reply) (e : Effect) (after : Counts) (proper : IsProper old (Done r e)) (free : refused_for room old.counts after ≡ None)
    (intents : new.intents ≡ intents_from old.intents (edits_in e)) (own : own_of new ≡ own_with (own_of old) e.opens) (counts : new.counts ≡ after) where
  last_of : (o : OpenChange) → IsNextOpen old.last o → (own_with (own_of old) o).last ≤ old.last + 1
  last_of Stay next = omega arith
  last_of (Opened x) next = omega (arith, next)
  last_of (Closed n) next = omega arith
  last_of (Left f) next = omega arith

  done_last : new.last ≤ old.last + 1
  done_last = omega (arith, ap (λ (x : Own). x.last) own, last_of e.opens proper.next)

  pub done_part : IsPart old → after.cells ≡ changed_by (intents_from old.intents (edits_in e)) → AreFew after → IsPart new
  done_part is cells few =
      subst (λ (n : Counts). n.cells ≡ changed_by new.intents → n.cells ≤ 256 → AreFew n → IsPart new) counts
      (λ a b c. record { cells = a; most = b; few = c; fit = subst (λ (i : Intents). AllFit i.puts) (sym intents) (fit_after e.gone e.puts.items old.intents proper.puts.fit is.fit) })
      (cells ∙ ap changed_by (sym intents)) (allowed room old.counts after free).cells few

  pub done_settled : (tells : Bool) (held : Cells)
      → (IsTrue tells → (es : List Edit) → old.intents ≡ intents_of es → AreCountsOf held es old.counts → AreCountsOf held (es ++ edits_in e) after)
      → Settled tells held old new room (Done r e) r
  done_settled tells held counted = record {
    after = after;
    said = sym (ap (unless_counts r) free);
    stands = subst (StandsAfter old new after) (sym free) counts;
    reads = λ has. (let wrong : false ≡ true = proper.reads has in cc);
    last = done_last;
    counts = counted;
    done = λ none. record { reply = refl; own = own; view = intents };
  }

-- ---- opens

and_both : (a b : Bool) → a ≡ true → b ≡ true → (a && b) ≡ true
and_both true b e f = f
and_both false b e f = cc

all_push : (p : FileId → Bool) (os : List Open) (x : Open) → list_all (λ (o : Open). p o.file) os ≡ true → p x.file ≡ true → list_all (λ (o : Open). p o.file) (os ++ x ∷ []) ≡ true
all_push p [] x h e = and_both (p x.file) true e refl
all_push p (o ∷ os) x h e =
    and_both (p o.file) (list_all (λ (y : Open). p y.file) (os ++ x ∷ [])) (and_left (p o.file) (list_all (λ (y : Open). p y.file) os) h) (all_push p os x (and_right (p o.file) (list_all (λ (y : Open). p y.file) os) h) e)

all_filter : (p : FileId → Bool) (q : Open → Bool) (os : List Open) → list_all (λ (o : Open). p o.file) os ≡ true → list_all (λ (o : Open). p o.file) (filter q os) ≡ true
all_filter p q [] h = refl
all_filter p q (o ∷ os) h = go (q o) (all_filter p q os (and_right (p o.file) (list_all (λ (y : Open). p y.file) os) h))
  where
    go : (b : Bool) → list_all (λ (y : Open). p y.file) (filter q os) ≡ true → list_all (λ (y : Open). p y.file) (cond {A = List Open} b (o ∷ filter q os) (filter q os)) ≡ true
    go true rest = and_both (p o.file) (list_all (λ (y : Open). p y.file) (filter q os)) (and_left (p o.file) (list_all (λ (y : Open). p y.file) os) h) rest
    go false rest = rest

-- what may be opened is so of what is named
named_so : (p : FileId → Bool) (c : Call) (r : Reply) (f : FileId) → may_open p c ≡ true → may_make p r ≡ true → named_by c r ≡ Some f → p f ≡ true
named_so p (call.OpenFile t g access mode choice) r f opens makes is = subst (λ (x : FileId). p x ≡ true) (same_id g f is) opens
  where
    same_id : (a b : FileId) → Some a ≡ Some b → a ≡ b
    same_id a b e = cc
named_so p c r f opens makes is = made r f makes is
  where
    same_id : (a b : FileId) → Some a ≡ Some b → a ≡ b
    same_id a b e = cc

    made : (x : Reply) (f : FileId) → may_make p x ≡ true → id_in x ≡ Some f → p f ≡ true
    made (reply.Created g n) f makes is = subst (λ (x : FileId). p x ≡ true) (same_id g f is) makes
    made x f makes is = let wrong : None ≡ Some f = is in cc

opens_with : (p : FileId → Bool) (c : Call) (r : Reply) (own : Own) (x : OpenChange) → may_open p c ≡ true → may_make p r ≡ true → OpensOnly (named_by c r) x → list_all (λ (o : Open). p o.file) own.opens ≡ true
    → list_all (λ (o : Open). p o.file) (own_with own x).opens ≡ true
opens_with p c r own Stay opens makes named h = h
opens_with p c r own (Opened o) opens makes named h = all_push p own.opens o h (named_so p c r o.file opens makes named)
opens_with p c r own (Closed n) opens makes named h = all_filter p (λ (o : Open). not (o.number == n)) own.opens h
opens_with p c r own (Left f) opens makes named h = all_filter p (λ (o : Open). not (same_file f o.file)) own.opens h

own_after : (own : Own) (s : Said) → (answer_of own s).own ≡ own_with own (opens_in s)
own_after own (Told r) = refl
own_after own (Done r e) = refl

settled_opens : (tells : Bool) (held : Cells) (old new : Part) (c : Call) (room : Room) (s : Said) (r : Reply) → OpensOnly (named_by c (reply_of s)) (opens_in s) → Settled tells held old new room s r → OpensNoOther old.opens.items new.opens.items c r
settled_opens tells held old new c room s r named h p opens makes all = go (refused_for room old.counts h.after) refl
  where
    go : (o : Option Refusal) → refused_for room old.counts h.after ≡ o → list_all (λ (x : Open). p x.file) new.opens.items ≡ true
    go None e =
        let same : r ≡ reply_of s = h.said ∙ ap (unless_counts (reply_of s)) e in
        let own : own_of new ≡ own_with (own_of old) (opens_in s) = (h.done e).own ∙ own_after (own_of old) s in
        subst (λ (w : Own). list_all (λ (x : Open). p x.file) w.opens ≡ true) (sym own) (opens_with p c (reply_of s) (own_of old) (opens_in s) opens (subst (λ (y : Reply). may_make p y ≡ true) same makes) named all)
    go (Some f) e =
        let stands : StandsAfter old new h.after (Some f) = subst (StandsAfter old new h.after) e h.stands in
        subst (λ (w : Own). list_all (λ (x : Open). p x.file) w.opens ≡ true) (sym stands.1) all

-- a refusal tells no pages
unless_tells : (asked : Option ℕ) (r : Reply) (f : Option Refusal) → TellsPages asked r → TellsPages asked (unless_counts r f)
unless_tells asked r None h = h
unless_tells asked r (Some f) h = tt

-- what was said is what one thread is given
pub answered_so : (tells : Bool) (held : Cells) (old new : Part) (who : List ℕ) (id : FileId) (c : Call) (room : Room) (s : Said) (r : Reply)
    → (IsTrue tells → SaysCall held old who id c s) → GivesOnly id (reply_of s) → IsProper old s → OpensOnly (named_by c (reply_of s)) (opens_in s) → TellsPages (asked_pages c) (reply_of s)
    → Settled tells held old new room s r → Answered tells held old new who id c room r
answered_so tells held old new who id c room s r says ids proper named told_pages h = record {
  given = reply_of s;
  after = h.after;
  ids = ids;
  own = proper.own;
  kind = proper.kind;
  said = h.said;
  stands = h.stands;
  reads = h.reads;
  last = h.last;
  opens = settled_opens tells held old new c room s r named h;
  pages = subst (TellsPages (asked_pages c)) (sym h.said) (unless_tells (asked_pages c) (reply_of s) (refused_for room old.counts h.after) told_pages);
  right = λ told made fresh. subst (λ (a : Answer). IsRight held old new h.after (refused_for room old.counts h.after) (reply_of s) a) (sym (says told made fresh))
      (record { reply = reply_is s; counts = h.counts told; done = h.done });
}
  where
    reply_is : (x : Said) → (answer_of (own_of old) x).reply ≡ Some (reply_of x)
    reply_is (Told y) = refl
    reply_is (Done y e) = refl

pub when_ok : (x : Result Reply CallFault) (P Q : Reply → Type 0) → IfOk x P → ((r : Reply) → P r → Q r) → IfOk x Q
when_ok (Ok r) P Q h f = f r h
when_ok (Err e) P Q h f = tt
