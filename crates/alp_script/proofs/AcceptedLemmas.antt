-- what holds of the lines of a script
use Rattle.std.specs.Prelude.{nat_le, Bool, Option, None, Some, IfSome, Result, Ok, Err, cond}
use Rattle.std.specs.List.{AllByRecursion}
use Rattle.std.specs.Str.Lines.{lines}
use Rattle.std.proofs.Common.{◌≡◌, ℕ, ◌+◌, ◌<◌, ◌≤◌, List, [], ◌∷◌, ◌++◌, length, true, false, refl, sym, ◌∙◌, ap, subst, arith}
use Rattle.std.proofs.lemmas.Bool.{leb-true, le-leb}
use Rattle.alp_tokens.specs.Words.{◌>>=◌}
use Rattle.alp_lines.specs.Grammar.{text_said}
use Rattle.alp_script.specs.Known.{Known, nothing_known, has_servers}
use Rattle.alp_script.specs.Order.{names_ours}
use Rattle.alp_script.specs.Script.{step, read_at, numbered, with_front, line_then, script_from, script}
use Rattle.alp_lines.specs.Forms.{IsForm}
use Rattle.alp_script.specs.Accepted.{LeadsFrom, RisesFrom, DeclaredFrom, servers_in, servers_said, NamesOurFile, IsAccepted}
use Rattle.alp_lines.proofs.FormLemmas.{text_said-form}
use Rattle.alp_script.proofs.OrderLemmas.{next-ours, next-after, next-declared, clients_after, servers_after, first_servers, file_after}
use Rattle.alp_script.proofs.VolumeLemmas.{said_in_limits}
use Rattle.alp_base.specs.declared.limits.TheConstants.{SERVERS}
use Rattle.alp_lines.specs.Named.{client_named, server_named, receiver_named}
use Rattle.alp_lines.specs.declared.line.Line.{Line}
use Rattle.alp_lines.specs.declared.line.Line.TheVariants as line
use Rattle.alp_script.specs.declared.fault.ScriptFault.{ScriptFault}
use Rattle.alp_script.specs.declared.fault.ScriptFault.TheVariants as fault
use Rattle.alp_script.specs.declared.numbered.NumberedLine.{NumberedLine}
use Rattle.alp_script.specs.declared.numbered.TheConstants.{SCRIPT_LINES_MOST}

-- what is known of a line that was read at its place
record IsRead (k : Known) (n : ℕ) (said : Option Line) (t : Known) : Type 0 where
  few : n ≤ SCRIPT_LINES_MOST
  may : step k said ≡ Some t
  form : IfSome said IsForm

stepped : (k : Known) (said : Option Line) (to : Option Known) (p : Option Line × Known) → step k said ≡ to → (to >>= λ t. Some (said, t)) ≡ Some p
    → (step k p.0 ≡ Some p.1) × (said ≡ p.0)
stepped k said None p e h = cc
stepped k said (Some t) p e h =
    let is : (said, t) ≡ p = cc in
    (subst (λ (q : Option Line × Known). step k q.0 ≡ Some q.1) is e, ap (λ (q : Option Line × Known). q.0) is)

spoken : (k : Known) (text : Option (Option Line)) (p : Option Line × Known) → (text >>= λ said. step k said >>= λ t. Some (said, t)) ≡ Some p
    → (step k p.0 ≡ Some p.1) × (text ≡ Some p.0)
spoken k None p h = cc
spoken k (Some said) p h =
    let both = stepped k said (step k said) p refl h in
    (both.0, ap Some both.1)

in_bounds : (b : Bool) (said : Option (Option Line × Known)) (p : Option Line × Known) → cond b said None ≡ Some p → (b ≡ true) × (said ≡ Some p)
in_bounds true said p h = (refl, h)
in_bounds false said p h = cc

read_at-some : (k : Known) (n : ℕ) (text : List ℕ) (p : Option Line × Known) → read_at k n text ≡ Some p → IsRead k n p.0 p.1
unfolding read_at
read_at-some k n text p h =
    let both = in_bounds (nat_le n SCRIPT_LINES_MOST) _ p h in
    let told = spoken k (text_said text) p both.1 in
    record { few = leb-true _ _ both.0; may = told.0; form = text_said-form text p.0 told.1 }

closed : (b : Bool) (n : ℕ) (ls : List NumberedLine) → cond b (Ok []) (Err (fault.Bad n)) ≡ Ok ls → (b ≡ true) × (ls ≡ [])
closed true n ls h = (refl, cc)
closed false n ls h = cc

-- the lines behind a first part
front_then : (front : List NumberedLine) (r : Result (List NumberedLine) ScriptFault) (ls : List NumberedLine) → with_front front r ≡ Ok ls → (more : List NumberedLine) × (r ≡ Ok more) × (front ++ more ≡ ls)
front_then front (Ok more) ls h = (more, refl, cc)
front_then front (Err n) ls h = cc

-- what is known of lines that were read from a place on
record IsReadFrom (k : Known) (n : ℕ) (ls : List NumberedLine) : Type 0 where
  leads : LeadsFrom k ls
  rises : RisesFrom n ls
  forms : AllByRecursion (λ l. IsForm l.line) ls

-- numbers that rise from a later place rise from an earlier one
rises_earlier : (n : ℕ) (ls : List NumberedLine) → RisesFrom (n + 1) ls → RisesFrom n ls
rises_earlier n [] h = tt
rises_earlier n (l ∷ ls) h = (omega (arith, h.0), h.1, h.2)

first_added : (k : Known) (n : ℕ) (said : Option Line) (t : Known) (more : List NumberedLine) → IsRead k n said t → IsReadFrom t (n + 1) more → IsReadFrom k n (numbered n said ++ more)
first_added k n None t more here there =
    let same : k ≡ t = cc (here.may) in
    record { leads = subst (λ (q : Known). LeadsFrom q more) (sym same) there.leads; rises = rises_earlier n more there.rises; forms = there.forms }
first_added k n (Some l) t more here there = record {
  leads = (t, here.may, there.leads);
  rises = (omega arith, here.few, there.rises);
  forms = (here.form, there.forms);
}

read_first : (k : Known) (n : ℕ) (said : Option (Option Line × Known)) (texts : List (List ℕ)) (ls : List NumberedLine)
    → ((p : Option Line × Known) → said ≡ Some p → IsRead k n p.0 p.1)
    → ((t : Known) (more : List NumberedLine) → script_from t (n + 1) texts ≡ Ok more → IsReadFrom t (n + 1) more)
    → line_then n said (λ t. script_from t (n + 1) texts) ≡ Ok ls → IsReadFrom k n ls
read_first k n None texts ls first more h = cc
read_first k n (Some p) texts ls first more h =
    let split = front_then (numbered n p.0) (script_from p.1 (n + 1) texts) ls h in
    subst (IsReadFrom k n) split.2 (first_added k n p.0 p.1 split.0 (first p refl) (more p.1 split.0 split.1))

read_from : (k : Known) (n : ℕ) (texts : List (List ℕ)) (ls : List NumberedLine) → script_from k n texts ≡ Ok ls → IsReadFrom k n ls
read_from k n [] ls h = subst (IsReadFrom k n) (sym (closed (has_servers k) n ls h).1) (record { leads = tt; rises = tt; forms = tt })
read_from k n (text ∷ texts) ls h = read_first k n (read_at k n text) texts ls (read_at-some k n text) (λ t more. read_from t (n + 1) texts more) h

few_from : (n : ℕ) (ls : List NumberedLine) → RisesFrom n ls → n ≤ SCRIPT_LINES_MOST + 1 → n + length ls ≤ SCRIPT_LINES_MOST + 1
few_from n [] rises within = omega arith
few_from n (l ∷ ls) rises within = omega (arith, few_from (l.number + 1) ls rises.2 (omega (arith, rises.1)), rises.0)

-- behind the declaration of so many servers each line names these
ours_from : (n : ℕ) (k : Known) (ls : List NumberedLine) → has_servers k ≡ true → k.servers ≡ n → LeadsFrom k ls → AllByRecursion (λ l. IsForm l.line) ls
    → AllByRecursion (λ l. names_ours n l.line ≡ true) ls × AllByRecursion (λ l. NamesOurFile n l.line) ls
ours_from n k [] some same leads forms = (tt, tt)
ours_from n k (l ∷ ls) some same leads forms =
    let (t, step, rest) = leads in
    let stay : k.servers ≡ t.servers = servers_after k t l.line forms.0 some (next-after k l.line t step) in
    let (ours, files) = ours_from n t ls (ap (nat_le 1) (sym stay) ∙ some) (sym stay ∙ same) rest forms.1 in (
      (subst (λ (m : ℕ). names_ours m l.line ≡ true) same (next-ours k l.line t step), ours),
      (subst (λ (m : ℕ). NamesOurFile m l.line) same (file_after k t l.line forms.0 (next-after k l.line t step)), files),
    )

-- what a line that may be first names, it names whatever the servers are
first_ours : (n : ℕ) (l : Line) → (named : servers_in l ≡ n) → 1 ≤ n → names_ours n l ≡ true
unfolding names_ours client_named server_named receiver_named
first_ours n (line.Servers count) named some = refl
first_ours n l named some = absurd (omega (arith, named, some))

first_file : (l : Line) → 1 ≤ servers_in l → NamesOurFile (servers_in l) l
first_file (line.Servers count) some = tt
first_file l some = absurd (omega (arith, some))

record AreOurs (ls : List NumberedLine) : Type 0 where
  least : 1 ≤ servers_said ls
  most : servers_said ls ≤ SERVERS
  ours : AllByRecursion (λ l. names_ours (servers_said ls) l.line ≡ true) ls
  files : AllByRecursion (λ l. NamesOurFile (servers_said ls) l.line) ls

are_ours : (ls : List NumberedLine) → 0 < length ls → LeadsFrom nothing_known ls → AllByRecursion (λ l. IsForm l.line) ls → AreOurs ls
are_ours [] some leads forms = absurd (omega (arith, some))
are_ours (l ∷ ls) some leads forms =
    let (t, step, rest) = leads in
    let (said, least, most) = first_servers l.line t forms.0 step in
    let (ours, files) = ours_from (servers_in l.line) t ls (le-leb 1 t.servers least) (sym said) rest forms.1 in
    let here : 1 ≤ servers_in l.line = omega (arith, said, least) in
    record {
      least = here;
      most = omega (arith, said, most);
      ours = (first_ours (servers_in l.line) l.line refl here, ours);
      files = (first_file l.line here, files);
    }

declared_from : (k : Known) (ls : List NumberedLine) → LeadsFrom k ls → AllByRecursion (λ l. IsForm l.line) ls → DeclaredFrom k.clients ls
declared_from k [] leads forms = tt
declared_from k (l ∷ ls) leads forms =
    let (t, step, rest) = leads in
    (next-declared k l.line t step, subst (λ (clients : List ℕ). DeclaredFrom clients ls) (sym (clients_after k t l.line forms.0 (next-after k l.line t step))) (declared_from t ls rest forms.1))

some_first : (k : Known) (n : ℕ) (said : Option (Option Line × Known)) (texts : List (List ℕ)) (ls : List NumberedLine)
    → has_servers k ≡ false
    → ((p : Option Line × Known) → said ≡ Some p → IsRead k n p.0 p.1)
    → ((t : Known) (more : List NumberedLine) → has_servers t ≡ false → script_from t (n + 1) texts ≡ Ok more → 0 < length more)
    → line_then n said (λ t. script_from t (n + 1) texts) ≡ Ok ls → 0 < length ls
some_first k n None texts ls none first more h = cc
some_first k n (Some (None, t)) texts ls none first more h =
    let split = front_then [] (script_from t (n + 1) texts) ls h in
    let same : k ≡ t = cc ((first (None, t) refl).may) in
    let some : 0 < length split.0 = more t split.0 (ap has_servers (sym same) ∙ none) split.1 in
    subst (λ (xs : List NumberedLine). 0 < length xs) split.2 some
some_first k n (Some (Some l, t)) texts ls none first more h =
    let split = front_then (numbered n (Some l)) (script_from t (n + 1) texts) ls h in
    subst (λ (xs : List NumberedLine). 0 < length xs) split.2 (omega arith)

-- a script has its first line
some_from : (k : Known) (n : ℕ) (texts : List (List ℕ)) (ls : List NumberedLine) → has_servers k ≡ false → script_from k n texts ≡ Ok ls → 0 < length ls
some_from k n [] ls none h = cc (none, (closed (has_servers k) n ls h).0)
some_from k n (text ∷ texts) ls none h = some_first k n (read_at k n text) texts ls none (read_at-some k n text) (λ t more. some_from t (n + 1) texts more) h

pub accepted : (bytes : List ℕ) (ls : List NumberedLine) → script bytes ≡ Ok ls → IsAccepted ls
unfolding script
accepted bytes ls h =
    let read : IsReadFrom nothing_known 1 ls = read_from nothing_known 1 (lines bytes) ls h in
    let some : 0 < length ls = some_from nothing_known 1 (lines bytes) ls refl h in
    let are = are_ours ls some read.leads read.forms in
    record {
      leads = read.leads;
      rises = read.rises;
      some = some;
      few = omega (arith, few_from 1 ls read.rises (omega arith));
      declared = declared_from nothing_known ls read.leads read.forms;
      least = are.least;
      most = are.most;
      ours = are.ours;
      files = are.files;
      forms = read.forms;
      sizes = λ server. said_in_limits ls server read.forms;
    }
