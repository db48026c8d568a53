-- lines that may stand behind the setup, and how they lead on
use Rattle.std.specs.Prelude.{Bool, ◌&&◌, not, ◌==◌, nat_le, flat_map, codes, Option, None, Some, slice_index}
use Rattle.std.specs.List.{AllByRecursion, range_with_len}
use Rattle.std.proofs.Common.{◌≡◌, ℕ, zero, suc, ◌+◌, ◌*◌, ◌%◌, ◌<◌, ◌≤◌, ◌^◌, List, [], ◌∷◌, ◌++◌, map, length, true, false, refl, sym, ◌∙◌, ap, subst, arith, inl, inr}
use Rattle.std.proofs.lemmas.Bool.{and_from, cond-true, le-leb, ne_eqb, eq-eqb, or_left, or_right, or_from, cases_eq}
use Rattle.std.proofs.lemmas.Nat.{mod_below}
use Rattle.std.specs.BTreeSet.{insert_key}
use Rattle.alp_base.specs.declared.choices.Access.{Access}
use Rattle.alp_base.specs.declared.choices.Choice.{Choice}
use Rattle.alp_base.specs.declared.choices.Choice.TheVariants as choice
use Rattle.alp_base.specs.declared.ids.Run.{Run}
use Rattle.alp_base.specs.declared.lists.TheConstants.{NAMES_PER_LIST}
use Rattle.alp_base.specs.declared.limits.TheConstants.{SERVERS, CLIENTS}
use Rattle.alp_modes.specs.declared.Mode.{Mode}
use Rattle.alp_modes.specs.declared.Mode.TheVariants as mode
use Rattle.alp_tokens.specs.Words.{◌>>=◌}
use Rattle.alp_lines.specs.Forms.{IsForm, IsRunOfPages, IsText}
use Rattle.alp_lines.specs.Forms as form
use Rattle.alp_lines.specs.Named.{client_named, server_named, receiver_named}
use Rattle.alp_lines.specs.Operands.{everyone, its_owner}
use Rattle.alp_lines.specs.declared.line.FileWord.TheVariants as file_word
use Rattle.alp_lines.specs.declared.line.Line.{Line}
use Rattle.alp_lines.specs.declared.line.Line.TheVariants as line
use Rattle.alp_script.specs.Known.{Known, nothing_known, has_servers}
use Rattle.alp_script.specs.Order.{is_client, is_server, is_known, is_among, names_ours, is_declared, is_bound, word_cmp, after_setting, after_servers, after_client, after_file, after, next}
use Rattle.alp_drill.specs.declared.shape.Shape.{Shape}
use Rattle.alp_drill.specs.Shapes.{IsShape}
use Rattle.alp_drill.specs.Setup.{owner, client_line, clients, owner_line, owners_at, owners}
use Rattle.alp_drill.specs.Files.{client_of, server_of, file_name, create_line, group, groups}
use Rattle.alp_drill.specs.Start.{setup}
use Rattle.alp_drill.proofs.BoundLemmas.{bind, bind_groups, IsBound, all_words}
use Rattle.alp_drill.proofs.RollLemmas.{range_more}

-- ---- lines that are read one after the other

-- what is known behind them, if each may stand
abbrev pub read : Known → List Line → Option Known
read k [] = Some k
read k (l ∷ ls) = next k l >>= λ t. read t ls

read_stepped : (xs ys : List Line) (t : Known) (o : Option Known) → ((u : Known) → read u xs ≡ Some t → read u (xs ++ ys) ≡ read t ys)
    → (o >>= λ u. read u xs) ≡ Some t → (o >>= λ u. read u (xs ++ ys)) ≡ read t ys
read_stepped xs ys t None more h = cc
read_stepped xs ys t (Some u) more h = more u h

pub read_append : (k t : Known) (xs ys : List Line) → read k xs ≡ Some t → read k (xs ++ ys) ≡ read t ys
read_append k t [] ys h = ap (λ (o : Option Known). o >>= λ u. read u ys) h
read_append k t (x ∷ xs) ys h = read_stepped xs ys t (next k x) (λ u. read_append u t xs ys) h

-- a first line that leads on, and then the others
pub read_then : (k t : Known) (l : Line) (ls : List Line) → next k l ≡ Some t → read k (l ∷ ls) ≡ read t ls
read_then k t l ls step = ap (λ (o : Option Known). o >>= λ u. read u ls) step

-- ---- what is known behind the setup

-- the administrator and the clients of so many owners
abbrev pub all_clients : ℕ → List ℕ
all_clients owners = range_with_len 1 (1 + owners)

-- so many servers and these clients, of whom none began
abbrev pub declared : ℕ → List ℕ → Known
declared servers clients = record { servers = servers; clients = clients; begun = false; words = [] }

-- all clients, of whom one began, and these words
abbrev pub known : Shape → List (List ℕ) → Known
known shape words = record { servers = shape.servers; clients = all_clients shape.owners; begun = true; words = words }

-- ---- the clients and the servers

some_servers : (n : ℕ) → 0 < n → nat_le 1 n ≡ true
some_servers n some = le-leb 1 n (omega (arith, some))

pub within : (n s : ℕ) → 1 ≤ s → s ≤ n → is_server n (Some s) ≡ true
within n s least most = and_from (nat_le 1 s) (nat_le s n) (le-leb 1 s least) (le-leb s n most)

among : (c a n : ℕ) → a ≤ c → c < a + n → is_among (range_with_len a n) c ≡ true
among c a zero least most = absurd (omega (arith, least, most))
among c a (suc n) least most = elim (cases_eq a c) [
  | inl same ↦ or_left (a == c) (is_among (range_with_len (a + 1) n) c) (eq-eqb a c same)
  | inr other ↦ or_right (a == c) (is_among (range_with_len (a + 1) n) c) (among c (a + 1) n (omega (arith, least, other)) (omega (arith, most)))
]

not_among : (c a n : ℕ) → a + n ≤ c → is_among (range_with_len a n) c ≡ false
not_among c a zero past = refl
not_among c a (suc n) past = or_from (a == c) (is_among (range_with_len (a + 1) n) c) (ne_eqb a c (λ same. omega (arith, past, same))) (not_among c (a + 1) n (omega (arith, past)))

-- a client of the run
pub record IsOurClient (shape : Shape) (c : ℕ) : Type 0 where
  pub least : is_client (Some c) ≡ true
  pub among : is_among (all_clients shape.owners) c ≡ true

pub a_client : (shape : Shape) (c : ℕ) → IsShape shape → 1 ≤ c → c ≤ shape.owners + 1 → IsOurClient shape c
a_client shape c sizes least most =
    let clients : CLIENTS ≡ 16 = refl in
    record {
      least = and_from (nat_le 1 c) (nat_le c CLIENTS) (le-leb 1 c least) (le-leb c CLIENTS (omega (arith, most, sizes.few_owners, clients)));
      among = among c 1 (1 + shape.owners) least (omega (arith, most));
    }

-- the administrator
pub first_client : (shape : Shape) → IsShape shape → IsOurClient shape 1
first_client shape sizes = a_client shape 1 sizes (omega arith) (omega arith)

pub turns_client : (shape : Shape) (turn : ℕ) → IsShape shape → IsOurClient shape (client_of shape turn)
turns_client shape turn sizes = a_client shape (client_of shape turn) sizes (omega arith) (omega (arith, mod_below turn shape.owners sizes.some_owners))

pub a_server : (shape : Shape) (r : ℕ) → r < shape.servers → is_server shape.servers (Some (1 + r)) ≡ true
a_server shape r low = within shape.servers (1 + r) (omega arith) (omega (arith, low))

pub turns_server : (shape : Shape) (turn : ℕ) → IsShape shape → is_server shape.servers (Some (server_of shape turn)) ≡ true
turns_server shape turn sizes = a_server shape (turn % shape.servers) (mod_below turn shape.servers sizes.some_servers)

-- ---- a line that may stand there

declared_next : (k : Known) (l : Line) → names_ours k.servers l ≡ true → is_known k.clients (client_named l) ≡ true → next k l ≡ after k l
unfolding next is_declared
declared_next k l ours declared = cond-true (names_ours k.servers l && is_known k.clients (client_named l)) (after k l) None (and_from _ _ ours declared)

parts_ours : (n : ℕ) (l : Line) → is_client (client_named l) ≡ true → is_server n (server_named l) ≡ true → is_server n (receiver_named l) ≡ true → names_ours n l ≡ true
unfolding names_ours
parts_ours n l client server receiver = and_from _ _ (and_from _ _ client server) receiver

-- behind the line as much is known as before it, and it is of the language's forms
pub record IsSteady (shape : Shape) (words : List (List ℕ)) (l : Line) : Type 0 where
  pub goes : next (known shape words) l ≡ Some (known shape words)
  pub formed : IsForm l

pub begin_steady : (shape : Shape) (words : List (List ℕ)) (c s : ℕ) → IsOurClient shape c → is_server shape.servers (Some s) ≡ true → IsSteady shape words (line.Begin c s)
unfolding client_named server_named receiver_named after
begin_steady shape words c s client server = record {
  goes = declared_next (known shape words) (line.Begin c s) (parts_ours shape.servers (line.Begin c s) client.least server refl) client.among;
  formed = form.begin c s;
}

pub commit_steady : (shape : Shape) (words : List (List ℕ)) (c : ℕ) → IsOurClient shape c → IsSteady shape words (line.Commit c)
unfolding client_named server_named receiver_named after
commit_steady shape words c client = record {
  goes = declared_next (known shape words) (line.Commit c) (parts_ours shape.servers (line.Commit c) client.least refl refl) client.among;
  formed = form.commit c;
}

pub abort_steady : (shape : Shape) (words : List (List ℕ)) (c : ℕ) → IsOurClient shape c → IsSteady shape words (line.Abort c)
unfolding client_named server_named receiver_named after
abort_steady shape words c client = record {
  goes = declared_next (known shape words) (line.Abort c) (parts_ours shape.servers (line.Abort c) client.least refl refl) client.among;
  formed = form.abort c;
}

-- a setting stands where there are servers
set_after : (k : Known) → has_servers k ≡ true → after_setting k ≡ Some k
unfolding after_setting
set_after k some = cond-true (has_servers k) (Some k) None some

pub stop_steady : (shape : Shape) (words : List (List ℕ)) (s calls : ℕ) → IsShape shape → is_server shape.servers (Some s) ≡ true → calls < 2 ^ 32 → IsSteady shape words (line.Stop s calls)
unfolding client_named server_named receiver_named after
stop_steady shape words s calls sizes server small = record {
  goes = declared_next (known shape words) (line.Stop s calls) (parts_ours shape.servers (line.Stop s calls) refl server refl) refl
      ∙ set_after (known shape words) (some_servers shape.servers sizes.some_servers);
  formed = form.stop s calls small;
}

pub restart_steady : (shape : Shape) (words : List (List ℕ)) (s pick : ℕ) → IsShape shape → is_server shape.servers (Some s) ≡ true → pick < 2 ^ 64 → IsSteady shape words (line.Restart s pick)
unfolding client_named server_named receiver_named after
restart_steady shape words s pick sizes server small = record {
  goes = declared_next (known shape words) (line.Restart s pick) (parts_ours shape.servers (line.Restart s pick) refl server refl) refl
      ∙ set_after (known shape words) (some_servers shape.servers sizes.some_servers);
  formed = form.restart s pick small;
}

pub settle_steady : (shape : Shape) (words : List (List ℕ)) → IsShape shape → IsSteady shape words line.Settle
unfolding client_named server_named receiver_named after
settle_steady shape words sizes = record {
  goes = declared_next (known shape words) line.Settle (parts_ours shape.servers line.Settle refl refl refl) refl
      ∙ set_after (known shape words) (some_servers shape.servers sizes.some_servers);
  formed = form.settle;
}

one_fits : 1 ≤ NAMES_PER_LIST
one_fits = let most : NAMES_PER_LIST ≡ 4 = refl in omega (arith, most)

owner_steady : (shape : Shape) (words : List (List ℕ)) (s k : ℕ) → IsShape shape → is_server shape.servers (Some s) ≡ true → IsSteady shape words (owner_line s k)
unfolding client_named server_named receiver_named after
owner_steady shape words s k sizes server =
    let first = first_client shape sizes in
    record {
      goes = declared_next (known shape words) (owner_line s k) (parts_ours shape.servers (owner_line s k) first.least server refl) first.among;
      formed = form.owner 1 s (owner k) 100000 its_owner choice.Fail one_fits;
    }

bound_after : (shape : Shape) (words : List (List ℕ)) (i : ℕ) → IsBound words i → after_file (known shape words) (file_word.Word (file_name i)) ≡ Some (known shape words)
unfolding after_file
bound_after shape words i bound = cond-true (is_bound shape.servers words (file_word.Word (file_name i))) (Some (known shape words)) None bound

pub open_steady : (shape : Shape) (words : List (List ℕ)) (c i : ℕ) (purpose : Access) (lock : Mode) (wish : Choice) → IsOurClient shape c → IsBound words i
    → IsSteady shape words (line.OpenFile c (file_word.Word (file_name i)) purpose lock wish)
unfolding client_named server_named receiver_named after
open_steady shape words c i purpose lock wish client bound =
    let l : Line = line.OpenFile c (file_word.Word (file_name i)) purpose lock wish in
    record {
      goes = declared_next (known shape words) l (parts_ours shape.servers l client.least refl refl) client.among ∙ bound_after shape words i bound;
      formed = form.open_file c (file_word.Word (file_name i)) purpose lock wish;
    }

pub read_steady : (shape : Shape) (words : List (List ℕ)) (c i : ℕ) (run : Run) (wish : Choice) → IsOurClient shape c → IsBound words i → IsRunOfPages run
    → IsSteady shape words (line.ReadPages c (file_word.Word (file_name i)) run mode.Read wish)
unfolding client_named server_named receiver_named after
read_steady shape words c i run wish client bound fits =
    let l : Line = line.ReadPages c (file_word.Word (file_name i)) run mode.Read wish in
    record {
      goes = declared_next (known shape words) l (parts_ours shape.servers l client.least refl refl) client.among ∙ bound_after shape words i bound;
      formed = form.read c (file_word.Word (file_name i)) run mode.Read wish fits tt;
    }

pub write_steady : (shape : Shape) (words : List (List ℕ)) (c i : ℕ) (run : Run) (text : List ℕ) (wish : Choice) → IsOurClient shape c → IsBound words i → IsRunOfPages run → IsText text
    → IsSteady shape words (line.WritePages c (file_word.Word (file_name i)) run text wish)
unfolding client_named server_named receiver_named after
write_steady shape words c i run text wish client bound fits short =
    let l : Line = line.WritePages c (file_word.Word (file_name i)) run text wish in
    record {
      goes = declared_next (known shape words) l (parts_ours shape.servers l client.least refl refl) client.among ∙ bound_after shape words i bound;
      formed = form.write c (file_word.Word (file_name i)) run text wish fits short;
    }

-- lines of which each is steady lead to where they began
pub steady_read : (shape : Shape) (words : List (List ℕ)) (ls : List Line) → AllByRecursion (IsSteady shape words) ls → read (known shape words) ls ≡ Some (known shape words)
steady_read shape words [] all = refl
steady_read shape words (l ∷ ls) all = read_then (known shape words) (known shape words) l ls all.0.goes ∙ steady_read shape words ls all.1

pub steady_append : (P : Line → Type 0) (xs ys : List Line) → AllByRecursion P xs → AllByRecursion P ys → AllByRecursion P (xs ++ ys)
steady_append P [] ys one other = other
steady_append P (x ∷ xs) ys one other = (one.0, steady_append P xs ys one.1 other)

-- ---- the lines that declare servers and clients

pub servers_next : (n : ℕ) → 0 < n → n ≤ 8 → next nothing_known (line.Servers n) ≡ Some (declared n [])
unfolding client_named server_named receiver_named after after_servers
servers_next n some few =
    let servers : SERVERS ≡ 8 = refl in
    declared_next nothing_known (line.Servers n) (parts_ours 0 (line.Servers n) refl refl refl) refl
    ∙ cond-true (not (has_servers nothing_known) && is_server SERVERS (Some n)) (Some (declared n [])) None
    (and_from (not (has_servers nothing_known)) (is_server SERVERS (Some n)) refl (within SERVERS n (omega (arith, some)) (omega (arith, few, servers))))

pub patience_next : (n count : ℕ) → 0 < n → next (declared n []) (line.Patience count) ≡ Some (declared n [])
unfolding client_named server_named receiver_named after
patience_next n count some =
    declared_next (declared n []) (line.Patience count) (parts_ours n (line.Patience count) refl refl refl) refl
    ∙ set_after (declared n []) (some_servers n some)

client_next : (n c : ℕ) (name : List ℕ) (so_far : List ℕ) → 0 < n → is_among so_far c ≡ false → next (declared n so_far) (line.Client c name) ≡ Some (declared n (so_far ++ c ∷ []))
unfolding client_named server_named receiver_named after after_client
client_next n c name so_far some new =
    declared_next (declared n so_far) (line.Client c name) (parts_ours n (line.Client c name) refl refl refl) refl
    ∙ cond-true (has_servers (declared n so_far) && not false && not (is_among so_far c)) (Some (declared n (so_far ++ c ∷ []))) None
    (and_from (nat_le 1 n && not false) (not (is_among so_far c)) (and_from (nat_le 1 n) (not false) (some_servers n some) refl) (ap not new))

clients_read_from : (n a m : ℕ) → 0 < n → read (declared n (range_with_len 1 a)) (map client_line (range_with_len a m)) ≡ Some (declared n (range_with_len 1 (a + m)))
clients_read_from n a zero some = let same : a ≡ a + 0 = omega arith in ap (λ (k : ℕ). Some (declared n (range_with_len 1 k))) same
clients_read_from n a (suc m) some =
    let longer : range_with_len 1 a ++ (a + 1) ∷ [] ≡ range_with_len 1 (a + 1) = sym (range_more 1 a (a + 1) (omega arith)) in
    let same : a + 1 + m ≡ a + suc m = omega arith in
    read_then (declared n (range_with_len 1 a)) (declared n (range_with_len 1 a ++ (a + 1) ∷ [])) (client_line a) (map client_line (range_with_len (a + 1) m))
    (client_next n (a + 1) (owner a) (range_with_len 1 a) some (not_among (a + 1) 1 a (omega arith)))
    ∙ ap (λ (cs : List ℕ). read (declared n cs) (map client_line (range_with_len (a + 1) m))) longer
    ∙ clients_read_from n (a + 1) m some
    ∙ ap (λ (k : ℕ). Some (declared n (range_with_len 1 k))) same

clients_read : (shape : Shape) → IsShape shape → read (declared shape.servers []) (clients shape.owners) ≡ Some (declared shape.servers (all_clients shape.owners))
clients_read shape sizes =
    read_then (declared shape.servers []) (declared shape.servers (1 ∷ [])) (line.Client 1 (codes "Admin")) (map client_line (range_with_len 1 shape.owners))
    (client_next shape.servers 1 (codes "Admin") [] sizes.some_servers refl)
    ∙ clients_read_from shape.servers 1 shape.owners sizes.some_servers

-- the first line of a client
begun_next : (shape : Shape) → IsShape shape → next (declared shape.servers (all_clients shape.owners)) (line.Begin 1 1) ≡ Some (known shape [])
unfolding client_named server_named receiver_named after
begun_next shape sizes =
    let first = first_client shape sizes in
    declared_next (declared shape.servers (all_clients shape.owners)) (line.Begin 1 1)
    (parts_ours shape.servers (line.Begin 1 1) first.least (within shape.servers 1 (omega arith) (omega (arith, sizes.some_servers))) refl) first.among

owners_steady_at : (shape : Shape) (s : ℕ) (ks : List ℕ) → IsShape shape → is_server shape.servers (Some s) ≡ true → AllByRecursion (IsSteady shape []) (map (owner_line s) ks)
owners_steady_at shape s [] sizes server = tt
owners_steady_at shape s (k ∷ ks) sizes server = (owner_steady shape [] s k sizes server, owners_steady_at shape s ks sizes server)

owners_steady : (shape : Shape) (a n : ℕ) → IsShape shape → 1 ≤ a → a + n ≤ shape.servers + 1 → AllByRecursion (IsSteady shape []) (flat_map (owners_at shape.owners) (range_with_len a n))
owners_steady shape a zero sizes least most = tt
owners_steady shape a (suc n) sizes least most =
    steady_append (IsSteady shape []) (owners_at shape.owners a) (flat_map (owners_at shape.owners) (range_with_len (a + 1) n))
    (owners_steady_at shape a (range_with_len 1 shape.owners) sizes (within shape.servers a least (omega (arith, most))))
    (owners_steady shape (a + 1) n sizes (omega arith) (omega (arith, most)))

owners_read : (shape : Shape) → IsShape shape → read (declared shape.servers (all_clients shape.owners)) (owners shape) ≡ Some (known shape [])
owners_read shape sizes =
    let made = flat_map (owners_at shape.owners) (range_with_len 1 shape.servers) in
    read_then (declared shape.servers (all_clients shape.owners)) (known shape []) (line.Begin 1 1) (made ++ line.Commit 1 ∷ []) (begun_next shape sizes)
    ∙ steady_read shape [] (made ++ line.Commit 1 ∷ [])
    (steady_append (IsSteady shape []) made (line.Commit 1 ∷ []) (owners_steady shape 1 shape.servers sizes (omega arith) (omega arith)) (commit_steady shape [] 1 (first_client shape sizes), tt))

-- ---- the lines that create the files

create_next : (shape : Shape) (words : List (List ℕ)) (pages : List ℕ) (g i : ℕ) → IsShape shape
    → next (known shape words) (create_line shape pages g i) ≡ Some (known shape (insert_key word_cmp words (file_name i)))
unfolding client_named server_named receiver_named after
create_next shape words pages g i sizes =
    let client = turns_client shape g sizes in
    declared_next (known shape words) (create_line shape pages g i) (parts_ours shape.servers (create_line shape pages g i) client.least (turns_server shape g sizes) refl) client.among

creates_read : (shape : Shape) (words : List (List ℕ)) (pages : List ℕ) (g : ℕ) (is : List ℕ) → IsShape shape
    → read (known shape words) (map (create_line shape pages g) is) ≡ Some (known shape (bind words is))
creates_read shape words pages g [] sizes = refl
creates_read shape words pages g (i ∷ is) sizes =
    let more = insert_key word_cmp words (file_name i) in
    read_then (known shape words) (known shape more) (create_line shape pages g i) (map (create_line shape pages g) is) (create_next shape words pages g i sizes)
    ∙ creates_read shape more pages g is sizes

group_read : (shape : Shape) (words : List (List ℕ)) (pages : List ℕ) (g : ℕ) → IsShape shape
    → read (known shape words) (group shape pages g) ≡ Some (known shape (bind words (range_with_len (10 * g) 10)))
group_read shape words pages g sizes =
    let is = range_with_len (10 * g) 10 in
    let client = turns_client shape g sizes in
    read_then (known shape words) (known shape words) (line.Begin (client_of shape g) (server_of shape g)) (map (create_line shape pages g) is ++ line.Commit (client_of shape g) ∷ [])
    ((begin_steady shape words (client_of shape g) (server_of shape g) client (turns_server shape g sizes)).goes)
    ∙ read_append (known shape words) (known shape (bind words is)) (map (create_line shape pages g) is) (line.Commit (client_of shape g) ∷ []) (creates_read shape words pages g is sizes)
    ∙ steady_read shape (bind words is) (line.Commit (client_of shape g) ∷ []) (commit_steady shape (bind words is) (client_of shape g) client, tt)

groups_read_from : (shape : Shape) (words : List (List ℕ)) (pages : List ℕ) (gs : List ℕ) → IsShape shape
    → read (known shape words) (flat_map (group shape pages) gs) ≡ Some (known shape (bind_groups words gs))
groups_read_from shape words pages [] sizes = refl
groups_read_from shape words pages (g ∷ gs) sizes =
    let here = bind words (range_with_len (10 * g) 10) in
    read_append (known shape words) (known shape here) (group shape pages g) (flat_map (group shape pages) gs) (group_read shape words pages g sizes)
    ∙ groups_read_from shape here pages gs sizes

groups_read : (shape : Shape) (pages : List ℕ) → IsShape shape → read (known shape []) (groups shape pages) ≡ Some (known shape (all_words shape))
unfolding all_words
groups_read shape pages sizes = groups_read_from shape [] pages (range_with_len 0 shape.groups) sizes

-- ---- the whole setup

pub setup_read : (shape : Shape) (pages : List ℕ) → IsShape shape → read (declared shape.servers []) (setup shape pages) ≡ Some (known shape (all_words shape))
setup_read shape pages sizes =
    let behind = declared shape.servers (all_clients shape.owners) in
    read_append (declared shape.servers []) behind (clients shape.owners) (owners shape ++ groups shape pages) (clients_read shape sizes)
    ∙ read_append behind (known shape []) (owners shape) (groups shape pages) (owners_read shape sizes)
    ∙ groups_read shape pages sizes
