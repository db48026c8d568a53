-- what is known of a line that may come next
use Rattle.std.specs.Prelude.{nat_le, ◌==◌, ◌&&◌, not, Bool, Option, None, Some, IfSome, cond}
use Rattle.std.specs.List.{Contains}
use Rattle.std.proofs.Common.{◌≡◌, ℕ, ◌≤◌, List, [], ◌∷◌, ◌++◌, true, false, refl, sym, ◌∙◌, ap, subst, append-nil}
use Rattle.std.proofs.lemmas.Bool.{leb-true, and_parts, eqb-true}
use Rattle.std.proofs.lemmas.Map.Views.{Contains-from_any}
use Rattle.std.proofs.lemmas.Option.{same_Some}
use Rattle.alp_lines.specs.Named.{client_named, server_named, receiver_named}
use Rattle.alp_script.specs.Known.{Known, nothing_known, has_servers}
use Rattle.alp_script.specs.Order.{is_server, is_client, names_ours, is_among, is_known, is_declared, is_of_servers, is_bound, after_servers, after_setting, after_timeout, after_volume, after_client, after_file, after, next}
use Rattle.alp_lines.specs.Forms.{IsForm}
use Rattle.alp_lines.specs.Forms as form
use Rattle.alp_script.specs.Accepted.{declared_by, servers_in, NamesOurFile}
use Rattle.alp_tokens.proofs.WordLemmas.{tested}
use Rattle.alp_base.specs.declared.limits.TheConstants.{SERVERS, CLIENTS}
use Rattle.alp_lines.specs.declared.line.FileWord.{FileWord}
use Rattle.alp_lines.specs.declared.line.FileWord.TheVariants as file_word
use Rattle.alp_lines.specs.declared.line.Line.{Line}

client_bounds : (named : Option ℕ) (k : ℕ) → is_client named ≡ true → named ≡ Some k → (1 ≤ k) × (k ≤ CLIENTS)
client_bounds None k h e = cc
client_bounds (Some n) k h e =
    let both = and_parts (nat_le 1 n) _ h in
    subst (λ (m : ℕ). (1 ≤ m) × (m ≤ CLIENTS)) (same_Some n k e) (leb-true _ _ both.0, leb-true _ _ both.1)

server_bounds : (n : ℕ) (named : Option ℕ) (s : ℕ) → is_server n named ≡ true → named ≡ Some s → (1 ≤ s) × (s ≤ n)
server_bounds n None s h e = cc
server_bounds n (Some m) s h e =
    let both = and_parts (nat_le 1 m) _ h in
    subst (λ (q : ℕ). (1 ≤ q) × (q ≤ n)) (same_Some m s e) (leb-true _ _ both.0, leb-true _ _ both.1)

-- the client that a line names is one of the run
pub ours-client : (n : ℕ) (l : Line) (k : ℕ) → names_ours n l ≡ true → client_named l ≡ Some k → (1 ≤ k) × (k ≤ CLIENTS)
unfolding names_ours
ours-client n l k h e = client_bounds (client_named l) k (and_parts (is_client (client_named l)) _ (and_parts (is_client (client_named l) && is_server n (server_named l)) _ h).0).0 e

-- so is the server
pub ours-server : (n : ℕ) (l : Line) (s : ℕ) → names_ours n l ≡ true → server_named l ≡ Some s → (1 ≤ s) × (s ≤ n)
unfolding names_ours
ours-server n l s h e = server_bounds n (server_named l) s (and_parts (is_client (client_named l)) _ (and_parts (is_client (client_named l) && is_server n (server_named l)) _ h).0).1 e

-- and so is the one that its messages go to
pub ours-receiver : (n : ℕ) (l : Line) (s : ℕ) → names_ours n l ≡ true → receiver_named l ≡ Some s → (1 ≤ s) × (s ≤ n)
unfolding names_ours
ours-receiver n l s h e = server_bounds n (receiver_named l) s (and_parts (is_client (client_named l) && is_server n (server_named l)) _ h).1 e

-- the server of an id
abbrev pub server_of_id : FileWord → Option ℕ
server_of_id (file_word.Word name) = None
server_of_id (file_word.Id id) = Some id.server

-- and the server of the id of its file
pub ours-file : (n : ℕ) (file : FileWord) (s : ℕ) → is_of_servers n file ≡ true → (server_of_id file ≡ Some s) → (1 ≤ s) × (s ≤ n)
ours-file n (file_word.Word name) s h e = cc
ours-file n (file_word.Id id) s h e = server_bounds n (Some id.server) s h e

guarded : (b : Bool) (said : Option Known) (t : Known) → cond b said None ≡ Some t → (b ≡ true) × (said ≡ Some t)
guarded true said t h = (refl, h)
guarded false said t h = cc

-- a line that may stand names a client and the servers of the run
pub next-ours : (k : Known) (l : Line) (t : Known) → next k l ≡ Some t → names_ours k.servers l ≡ true
unfolding next is_declared
next-ours k l t h = (and_parts (names_ours k.servers l) _ (guarded _ (after k l) t h).0).0

pub next-after : (k : Known) (l : Line) (t : Known) → next k l ≡ Some t → after k l ≡ Some t
unfolding next
next-after k l t h = (guarded (is_declared k l) (after k l) t h).1

among_contains : (clients : List ℕ) (client : ℕ) → is_among clients client ≡ true → Contains clients client
among_contains clients client h = Contains-from_any {eq = λ (q m : ℕ). m == q} (λ x y e. sym (eqb-true y x e)) client clients h

known_contains : (clients : List ℕ) (named : Option ℕ) → is_known clients named ≡ true → IfSome named (Contains clients)
known_contains clients None h = tt
known_contains clients (Some client) h = among_contains clients client h

-- a line that may stand names a client that was declared
pub next-declared : (k : Known) (l : Line) (t : Known) → next k l ≡ Some t → IfSome (client_named l) (Contains k.clients)
unfolding next is_declared
next-declared k l t h = known_contains k.clients (client_named l) (and_parts (names_ours k.servers l) _ (guarded _ (after k l) t h).0).1

same_clients : (k x t : Known) (more : List ℕ) → x ≡ t → k.clients ++ more ≡ x.clients → k.clients ++ more ≡ t.clients
same_clients k x t more e same = same ∙ ap (λ (y : Known). y.clients) e

-- the declared clients are those of before and the one that the line declares
pub clients_after : (k t : Known) (l : Line) → IsForm l → after k l ≡ Some t → k.clients ++ declared_by l ≡ t.clients
unfolding after after_servers after_setting after_timeout after_volume after_client after_file
clients_after k t l (form.servers count) h = same_clients k _ t [] ((tested _ _ t h).1) (append-nil k.clients)
clients_after k t l (form.volume server home area limits) h = same_clients k _ t [] ((tested _ _ t h).1) (append-nil k.clients)
clients_after k t l (form.client number name) h = same_clients k _ t (number ∷ []) ((tested _ _ t h).1) refl
clients_after k t l (form.patience count some few) h = same_clients k _ t [] ((tested _ _ t h).1) (append-nil k.clients)
clients_after k t l (form.auto_said on) h = same_clients k _ t [] ((tested _ _ t h).1) (append-nil k.clients)
clients_after k t l (form.timeout server number most) h = same_clients k _ t [] ((tested _ _ t h).1) (append-nil k.clients)
clients_after k t l (form.tick server) h = same_clients k _ t [] ((tested _ _ t h).1) (append-nil k.clients)
clients_after k t l (form.force server) h = same_clients k _ t [] ((tested _ _ t h).1) (append-nil k.clients)
clients_after k t l (form.stop server calls small) h = same_clients k _ t [] ((tested _ _ t h).1) (append-nil k.clients)
clients_after k t l (form.restart server pick small) h = same_clients k _ t [] ((tested _ _ t h).1) (append-nil k.clients)
clients_after k t l form.settle h = same_clients k _ t [] ((tested _ _ t h).1) (append-nil k.clients)
clients_after k t l (form.carry from to) h = same_clients k _ t [] ((tested _ _ t h).1) (append-nil k.clients)
clients_after k t l (form.lose from to) h = same_clients k _ t [] ((tested _ _ t h).1) (append-nil k.clients)
clients_after k t l (form.again from to) h = same_clients k _ t [] ((tested _ _ t h).1) (append-nil k.clients)
clients_after k t l (form.begin number server) h = same_clients k _ t [] (same_Some _ t h) (append-nil k.clients)
clients_after k t l (form.commit number) h = same_clients k _ t [] (same_Some _ t h) (append-nil k.clients)
clients_after k t l (form.abort number) h = same_clients k _ t [] (same_Some _ t h) (append-nil k.clients)
clients_after k t l (form.outcome number) h = same_clients k _ t [] (same_Some _ t h) (append-nil k.clients)
clients_after k t l (form.collect number) h = same_clients k _ t [] (same_Some _ t h) (append-nil k.clients)
clients_after k t l (form.repeat number) h = same_clients k _ t [] (same_Some _ t h) (append-nil k.clients)
clients_after k t l (form.old number) h = same_clients k _ t [] (same_Some _ t h) (append-nil k.clients)
clients_after k t l (form.raw number server bytes some) h = same_clients k _ t [] (same_Some _ t h) (append-nil k.clients)
clients_after k t l (form.owner number server name quota create wish few) h = same_clients k _ t [] (same_Some _ t h) (append-nil k.clients)
clients_after k t l (form.read_owner number server name wish) h = same_clients k _ t [] (same_Some _ t h) (append-nil k.clients)
clients_after k t l (form.quota number server name quota wish) h = same_clients k _ t [] (same_Some _ t h) (append-nil k.clients)
clients_after k t l (form.create number server word name size read modify wish small few_read few_modify) h = same_clients k _ t [] (same_Some _ t h) (append-nil k.clients)
clients_after k t l (form.open_file number file purpose lock wish) h = same_clients k _ t [] ((tested _ _ t h).1) (append-nil k.clients)
clients_after k t l (form.close number file) h = same_clients k _ t [] ((tested _ _ t h).1) (append-nil k.clients)
clients_after k t l (form.delete number file wish) h = same_clients k _ t [] ((tested _ _ t h).1) (append-nil k.clients)
clients_after k t l (form.write number file run text wish few short) h = same_clients k _ t [] ((tested _ _ t h).1) (append-nil k.clients)
clients_after k t l (form.read number file run lock wish few fit) h = same_clients k _ t [] ((tested _ _ t h).1) (append-nil k.clients)
clients_after k t l (form.lock number file run lock wish few fit) h = same_clients k _ t [] ((tested _ _ t h).1) (append-nil k.clients)
clients_after k t l (form.size number file size wish small) h = same_clients k _ t [] ((tested _ _ t h).1) (append-nil k.clients)
clients_after k t l (form.props number file) h = same_clients k _ t [] ((tested _ _ t h).1) (append-nil k.clients)
clients_after k t l (form.change number file change wish formed) h = same_clients k _ t [] ((tested _ _ t h).1) (append-nil k.clients)

no_both : (b : Bool) → b ≡ true → not b ≡ true → ⊥
no_both true h none = cc
no_both false h none = cc

same_servers : (k x t : Known) → x ≡ t → k.servers ≡ x.servers → k.servers ≡ t.servers
same_servers k x t e same = same ∙ ap (λ (y : Known). y.servers) e

-- behind their declaration the servers stay
pub servers_after : (k t : Known) (l : Line) → IsForm l → has_servers k ≡ true → after k l ≡ Some t → k.servers ≡ t.servers
unfolding after after_servers after_setting after_timeout after_volume after_client after_file
servers_after k t l (form.servers count) declared h =
    let none : not (has_servers k) ≡ true = (and_parts (not (has_servers k)) _ (tested _ _ t h).0).0 in
    absurd (no_both (has_servers k) declared none)
servers_after k t l (form.volume server home area limits) declared h = same_servers k _ t ((tested _ _ t h).1) refl
servers_after k t l (form.client number name) declared h = same_servers k _ t ((tested _ _ t h).1) refl
servers_after k t l (form.patience count some few) declared h = same_servers k _ t ((tested _ _ t h).1) refl
servers_after k t l (form.auto_said on) declared h = same_servers k _ t ((tested _ _ t h).1) refl
servers_after k t l (form.timeout server number most) declared h = same_servers k _ t ((tested _ _ t h).1) refl
servers_after k t l (form.tick server) declared h = same_servers k _ t ((tested _ _ t h).1) refl
servers_after k t l (form.force server) declared h = same_servers k _ t ((tested _ _ t h).1) refl
servers_after k t l (form.stop server calls small) declared h = same_servers k _ t ((tested _ _ t h).1) refl
servers_after k t l (form.restart server pick small) declared h = same_servers k _ t ((tested _ _ t h).1) refl
servers_after k t l form.settle declared h = same_servers k _ t ((tested _ _ t h).1) refl
servers_after k t l (form.carry from to) declared h = same_servers k _ t ((tested _ _ t h).1) refl
servers_after k t l (form.lose from to) declared h = same_servers k _ t ((tested _ _ t h).1) refl
servers_after k t l (form.again from to) declared h = same_servers k _ t ((tested _ _ t h).1) refl
servers_after k t l (form.begin number server) declared h = same_servers k _ t (same_Some _ t h) refl
servers_after k t l (form.commit number) declared h = same_servers k _ t (same_Some _ t h) refl
servers_after k t l (form.abort number) declared h = same_servers k _ t (same_Some _ t h) refl
servers_after k t l (form.outcome number) declared h = same_servers k _ t (same_Some _ t h) refl
servers_after k t l (form.collect number) declared h = same_servers k _ t (same_Some _ t h) refl
servers_after k t l (form.repeat number) declared h = same_servers k _ t (same_Some _ t h) refl
servers_after k t l (form.old number) declared h = same_servers k _ t (same_Some _ t h) refl
servers_after k t l (form.raw number server bytes some) declared h = same_servers k _ t (same_Some _ t h) refl
servers_after k t l (form.owner number server name quota create wish few) declared h = same_servers k _ t (same_Some _ t h) refl
servers_after k t l (form.read_owner number server name wish) declared h = same_servers k _ t (same_Some _ t h) refl
servers_after k t l (form.quota number server name quota wish) declared h = same_servers k _ t (same_Some _ t h) refl
servers_after k t l (form.create number server word name size read modify wish small few_read few_modify) declared h = same_servers k _ t (same_Some _ t h) refl
servers_after k t l (form.open_file number file purpose lock wish) declared h = same_servers k _ t ((tested _ _ t h).1) refl
servers_after k t l (form.close number file) declared h = same_servers k _ t ((tested _ _ t h).1) refl
servers_after k t l (form.delete number file wish) declared h = same_servers k _ t ((tested _ _ t h).1) refl
servers_after k t l (form.write number file run text wish few short) declared h = same_servers k _ t ((tested _ _ t h).1) refl
servers_after k t l (form.read number file run lock wish few fit) declared h = same_servers k _ t ((tested _ _ t h).1) refl
servers_after k t l (form.lock number file run lock wish few fit) declared h = same_servers k _ t ((tested _ _ t h).1) refl
servers_after k t l (form.size number file size wish small) declared h = same_servers k _ t ((tested _ _ t h).1) refl
servers_after k t l (form.props number file) declared h = same_servers k _ t ((tested _ _ t h).1) refl
servers_after k t l (form.change number file change wish formed) declared h = same_servers k _ t ((tested _ _ t h).1) refl

-- nobody is declared at first
nobody_known : (l : Line) (t : Known) → next nothing_known l ≡ Some t → is_known [] (client_named l) ≡ true
unfolding next is_declared
nobody_known l t h = (and_parts (names_ours 0 l) _ (guarded _ (after nothing_known l) t h).0).1

counted : (count : ℕ) (t : Known) → record nothing_known { servers = count } ≡ t → (nat_le 1 count && nat_le count SERVERS) ≡ true
    → (count ≡ t.servers) × (1 ≤ t.servers) × (t.servers ≤ SERVERS)
counted count t e h =
    let same : count ≡ t.servers = ap (λ (k : Known). k.servers) e in
    let both = and_parts (nat_le 1 count) _ h in
    (same, subst (λ (n : ℕ). 1 ≤ n) same (leb-true _ _ both.0), subst (λ (n : ℕ). n ≤ SERVERS) same (leb-true _ _ both.1))

-- nothing is both
never : {A : Type 0} → false ≡ true → A
never wrong = cc

none_some : {A B : Type 0} (x : A) → None ≡ Some x → B
none_some x wrong = cc

first_by : (l : Line) (t : Known) → IsForm l → is_known [] (client_named l) ≡ true → after nothing_known l ≡ Some t
    → (servers_in l ≡ t.servers) × (1 ≤ t.servers) × (t.servers ≤ SERVERS)
unfolding client_named after after_servers after_setting after_timeout after_volume after_client after_file
first_by l t (form.servers count) known h = counted count t ((tested _ _ t h).1) ((tested _ _ t h).0)
first_by l t (form.volume server home area limits) known h = none_some t h
first_by l t (form.client number name) known h = none_some t h
first_by l t (form.patience count some few) known h = none_some t h
first_by l t (form.auto_said on) known h = none_some t h
first_by l t (form.timeout server number most) known h = none_some t h
first_by l t (form.tick server) known h = none_some t h
first_by l t (form.force server) known h = none_some t h
first_by l t (form.stop server calls small) known h = none_some t h
first_by l t (form.restart server pick small) known h = none_some t h
first_by l t form.settle known h = none_some t h
first_by l t (form.carry from to) known h = none_some t h
first_by l t (form.lose from to) known h = none_some t h
first_by l t (form.again from to) known h = none_some t h
first_by l t (form.begin number server) known h = never known
first_by l t (form.commit number) known h = never known
first_by l t (form.abort number) known h = never known
first_by l t (form.outcome number) known h = never known
first_by l t (form.collect number) known h = never known
first_by l t (form.repeat number) known h = never known
first_by l t (form.old number) known h = never known
first_by l t (form.raw number server bytes some) known h = never known
first_by l t (form.owner number server name quota create wish few) known h = never known
first_by l t (form.read_owner number server name wish) known h = never known
first_by l t (form.quota number server name quota wish) known h = never known
first_by l t (form.create number server word name size read modify wish small few_read few_modify) known h = never known
first_by l t (form.open_file number file purpose lock wish) known h = never known
first_by l t (form.close number file) known h = never known
first_by l t (form.delete number file wish) known h = never known
first_by l t (form.write number file run text wish few short) known h = never known
first_by l t (form.read number file run lock wish few fit) known h = never known
first_by l t (form.lock number file run lock wish few fit) known h = never known
first_by l t (form.size number file size wish small) known h = never known
first_by l t (form.props number file) known h = never known
first_by l t (form.change number file change wish formed) known h = never known

-- the first line of all declares them
pub first_servers : (l : Line) (t : Known) → IsForm l → next nothing_known l ≡ Some t → (servers_in l ≡ t.servers) × (1 ≤ t.servers) × (t.servers ≤ SERVERS)
first_servers l t form h = first_by l t form (nobody_known l t h) (next-after nothing_known l t h)

file_bound : (n : ℕ) (words : List (List ℕ)) (file : FileWord) → is_bound n words file ≡ true → is_of_servers n file ≡ true
file_bound n words (file_word.Word name) h = refl
file_bound n words (file_word.Id id) h = h

-- an id by which a line names a file is of a declared server
pub file_after : (k t : Known) (l : Line) → IsForm l → after k l ≡ Some t → NamesOurFile k.servers l
unfolding after after_servers after_setting after_timeout after_volume after_client after_file
file_after k t l (form.servers count) h = tt
file_after k t l (form.volume server home area limits) h = tt
file_after k t l (form.client number name) h = tt
file_after k t l (form.patience count some few) h = tt
file_after k t l (form.auto_said on) h = tt
file_after k t l (form.timeout server number most) h = tt
file_after k t l (form.tick server) h = tt
file_after k t l (form.force server) h = tt
file_after k t l (form.stop server calls small) h = tt
file_after k t l (form.restart server pick small) h = tt
file_after k t l form.settle h = tt
file_after k t l (form.carry from to) h = tt
file_after k t l (form.lose from to) h = tt
file_after k t l (form.again from to) h = tt
file_after k t l (form.begin number server) h = tt
file_after k t l (form.commit number) h = tt
file_after k t l (form.abort number) h = tt
file_after k t l (form.outcome number) h = tt
file_after k t l (form.collect number) h = tt
file_after k t l (form.repeat number) h = tt
file_after k t l (form.old number) h = tt
file_after k t l (form.raw number server bytes some) h = tt
file_after k t l (form.owner number server name quota create wish few) h = tt
file_after k t l (form.read_owner number server name wish) h = tt
file_after k t l (form.quota number server name quota wish) h = tt
file_after k t l (form.create number server word name size read modify wish small few_read few_modify) h = tt
file_after k t l (form.open_file number file purpose lock wish) h = file_bound k.servers k.words file ((tested _ _ t h).0)
file_after k t l (form.close number file) h = file_bound k.servers k.words file ((tested _ _ t h).0)
file_after k t l (form.delete number file wish) h = file_bound k.servers k.words file ((tested _ _ t h).0)
file_after k t l (form.write number file run text wish few short) h = file_bound k.servers k.words file ((tested _ _ t h).0)
file_after k t l (form.read number file run lock wish few fit) h = file_bound k.servers k.words file ((tested _ _ t h).0)
file_after k t l (form.lock number file run lock wish few fit) h = file_bound k.servers k.words file ((tested _ _ t h).0)
file_after k t l (form.size number file size wish small) h = file_bound k.servers k.words file ((tested _ _ t h).0)
file_after k t l (form.props number file) h = file_bound k.servers k.words file ((tested _ _ t h).0)
file_after k t l (form.change number file change wish formed) h = file_bound k.servers k.words file ((tested _ _ t h).0)
