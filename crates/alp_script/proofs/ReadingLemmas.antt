-- lemmas on a script that is read from a source
use Rattle.std.specs.Prelude.{◌==◌, not, ◌≤◌, length, cond, Option, None, Some, Result, Ok, Err, Vec}
use Rattle.std.specs.Global.{Global}
use Rattle.std.specs.Io.KnownBytes.{Consumes, Keeps, IsAtEnd}
use Rattle.std.proofs.Common.{◌≡◌, ℕ, List, [], ◌++◌, refl, subst, inl, inr, sym, ◌∙◌, ap, arith, append_assoc, append-nil}
use Rattle.std.proofs.lemmas.List.Sums.{sum_by-append, suffix_len-le-length}
use Rattle.alp_script.specs.Script.{script}
use Rattle.alp_script.specs.Progress.{Progress, resume, unended, Follows, IsOutside, Takes, Gives}
use Rattle.alp_script.specs.Reading.{HasRead, HasNoBadLine, GaveScript, GaveFlaw, GaveGoodLines, ReadsScript}
use Rattle.alp_script.proofs.ScriptLemmas.{resume-later, unended-on}
use Rattle.alp_script.specs.declared.fault.ScriptFault.{ScriptFault}
use Rattle.alp_script.specs.declared.fault.ScriptFault.TheVariants as fault
use Rattle.alp_script.specs.declared.numbered.NumberedLine.{NumberedLine}
use Rattle.alp_script.specs.declared.read.TheConstants.{PIECE_BYTES}

consumes-none : (a : Option (List ℕ)) → Consumes a a []
consumes-none None = tt
consumes-none (Some xs) = refl

-- two reads in a row are one
consumes-both : (a b c : Option (List ℕ)) (xs ys : List ℕ) → Consumes a b xs → Consumes b c ys → Consumes a c (xs ++ ys)
consumes-both None b c xs ys p q = tt
consumes-both (Some x) None c xs ys p q = absurd p
consumes-both (Some x) (Some y) None xs ys p q = absurd q
consumes-both (Some x) (Some y) (Some z) xs ys p q = p ∙ ap (λ rest. xs ++ rest) q ∙ sym (append_assoc xs ys z)

-- nothing was read yet
pub has_read-nothing : (a : Option (List ℕ)) (p : Progress) → p.lines ≡ 0 → p.partial ≡ [] → ((bytes : List ℕ) → resume p bytes ≡ script bytes) → HasRead a a p
has_read-nothing a p none empty whole = record {
  bytes = [];
  consumed = consumes-none a;
  same = λ rest. sym (whole rest);
  counted = none;
  held = ap unended empty;
  whole = omega (arith, none);
  few = omega (arith, ap length empty);
}

joined : (bytes piece rest : List ℕ) (p : Progress) → ((more : List ℕ) → script (bytes ++ more) ≡ resume p more) → script ((bytes ++ piece) ++ rest) ≡ resume p (piece ++ rest)
joined bytes piece rest p same = ap script (append_assoc bytes piece rest) ∙ same (piece ++ rest)

pub has_read-more : (a b c : Option (List ℕ)) (p q : Progress) (piece : List ℕ) → HasRead a b p → Consumes b c piece → Follows p q piece → HasRead a c q
has_read-more a b c p q piece h consumed next = record {
  bytes = h.bytes ++ piece;
  consumed = consumes-both a b c h.bytes piece h.consumed consumed;
  same = λ rest. joined h.bytes piece rest p h.same ∙ next.same rest;
  counted = omega (arith, h.counted, next.counted, sum_by-append (λ b. cond (b == 10) 1 0) h.bytes piece);
  whole = next.few h.whole;
  held = held;
  few = next.short h.few;
}
  where
    held : unended q.partial ≡ unended (h.bytes ++ piece)
    held = next.held ∙ unended-on p.partial h.bytes piece h.held

-- what was taken has no line that is outside already
no_bad_line : (a b : Option (List ℕ)) (p : Progress) (h : HasRead a b p) → HasNoBadLine h.bytes
no_bad_line a b p h = record {
  later = λ rest n e. omega (arith, h.counted, resume-later p rest n (sym (h.same rest) ∙ e));
  few = omega (arith, h.counted, h.whole);
  short = omega (arith, h.held, h.few, suffix_len-le-length (λ (b : ℕ). not (b == 10)) p.partial);
}

whole : (bytes : List ℕ) (p : Progress) (said : Result (List NumberedLine) ScriptFault) → ((rest : List ℕ) → script (bytes ++ rest) ≡ resume p rest) → resume p [] ≡ said → script bytes ≡ said
whole bytes p said same e = ap script (sym (append-nil bytes)) ∙ same [] ∙ e

flawed : (a b c : Option (List ℕ)) (p : Progress) (piece : List ℕ) (flaw : ScriptFault)
    → length piece ≤ PIECE_BYTES → HasRead a b p → Consumes b c piece → IsOutside p piece flaw → GaveFlaw a c flaw
flawed a b c p piece flaw once h consumed refused =
    let always : (rest : List ℕ) → script ((h.bytes ++ piece) ++ rest) ≡ Err flaw = λ rest. joined h.bytes piece rest p h.same ∙ refused.always rest in
    record {
      front = h.bytes;
      piece = piece;
      good = no_bad_line a b p h;
      once = once;
      consumed = consumes-both a b c h.bytes piece h.consumed consumed;
      outside = ap script (sym (append-nil (h.bytes ++ piece))) ∙ always [];
      final = inl always;
    }

-- the reader refused a piece
pub reads-refused : (a b c : Option (List ℕ)) (p q : Progress) (piece : List ℕ) (e : ScriptFault)
    → length piece ≤ PIECE_BYTES → HasRead a b p → Consumes b c piece → Takes {X = Unit {0}} p q piece (Err e) → ReadsScript a c (Err e)
reads-refused a b c p q piece (fault.Bad n) once h consumed refused = flawed a b c p piece (fault.Bad n) once h consumed refused
reads-refused a b c p q piece fault.TooLong once h consumed refused = flawed a b c p piece fault.TooLong once h consumed refused
reads-refused a b c p q piece fault.ReadFault once h consumed refused = absurd refused
reads-refused a b c p q piece fault.OutOfMemory once h consumed refused = tt

at_end : (a b c : Option (List ℕ)) (bytes : List ℕ) → Consumes a b bytes → Consumes b c [] → Consumes a c bytes
at_end a b c bytes h k = subst (λ (xs : List ℕ). Consumes a c xs) (append-nil bytes) (consumes-both a b c bytes [] h k)

flawed_at_end : (a b c : Option (List ℕ)) (p : Progress) (flaw : ScriptFault) → HasRead a b p → Consumes b c [] → IsAtEnd c → resume p [] ≡ Err flaw → GaveFlaw a c flaw
flawed_at_end a b c p flaw h consumed end said = record {
  front = h.bytes;
  piece = [];
  good = no_bad_line a b p h;
  once = omega arith;
  consumed = consumes-both a b c h.bytes [] h.consumed consumed;
  outside = ap script (append-nil h.bytes) ∙ whole h.bytes p (Err flaw) h.same said;
  final = inr end;
}

-- the source came to its end
pub reads-finished : (a b c : Option (List ℕ)) (p : Progress) (r : Result (Vec NumberedLine Global) ScriptFault)
    → HasRead a b p → Consumes b c [] → IsAtEnd c → Gives (λ v. v.items) r (resume p []) → ReadsScript a c r
reads-finished a b c p (Ok v) h consumed end said = record {
  bytes = h.bytes;
  consumed = at_end a b c h.bytes h.consumed consumed;
  said = whole h.bytes p (Ok v.items) h.same said;
  end = end;
}
reads-finished a b c p (Err (fault.Bad n)) h consumed end said = flawed_at_end a b c p (fault.Bad n) h consumed end said
reads-finished a b c p (Err fault.TooLong) h consumed end said = flawed_at_end a b c p fault.TooLong h consumed end said
reads-finished a b c p (Err fault.ReadFault) h consumed end said = absurd said
reads-finished a b c p (Err fault.OutOfMemory) h consumed end said = tt

keeps : (a b c : Option (List ℕ)) (bytes : List ℕ) → Consumes a b bytes → Keeps b c → Consumes a c bytes
keeps None b c bytes h same = tt
keeps (Some x) None c bytes h same = absurd h
keeps (Some x) (Some y) None bytes h same = absurd same
keeps (Some x) (Some y) (Some z) bytes h same = h ∙ ap (λ rest. bytes ++ rest) (sym same)

-- the source failed, and no line that was whole is outside
pub reads-failed : (a b c : Option (List ℕ)) (p : Progress) → HasRead a b p → Keeps b c → GaveGoodLines a c
reads-failed a b c p h same = record {
  bytes = h.bytes;
  consumed = keeps a b c h.bytes h.consumed same;
  good = no_bad_line a b p h;
}

-- a source that tells its bytes gave the script of all of them
pub script-given : (xs : List ℕ) (new : Option (List ℕ)) (lines : List NumberedLine) → GaveScript (Some xs) new lines → script xs ≡ Ok lines
script-given xs None lines h = absurd h.consumed
script-given xs (Some ys) lines h = ap script (h.consumed ∙ ap (λ rest. h.bytes ++ rest) h.end ∙ append-nil h.bytes) ∙ h.said

-- it is wrong with all that a source tells
pub script-bad : (xs : List ℕ) (new : Option (List ℕ)) (flaw : ScriptFault) → GaveFlaw (Some xs) new flaw → script xs ≡ Err flaw
script-bad xs None flaw h = absurd h.consumed
script-bad xs (Some ys) flaw h =
    let given : xs ≡ (h.front ++ h.piece) ++ ys = h.consumed in
    elim h.final [
      | inl always ↦ ap script given ∙ always ys
      | inr end ↦ ap script (given ∙ ap (λ rest. (h.front ++ h.piece) ++ rest) end ∙ append-nil (h.front ++ h.piece)) ∙ h.outside
    ]
