-- the lines that the grammar takes are of the language's forms
use Rattle.std.specs.Prelude.{Option, None, Some, IfSome, codes}
use Rattle.std.proofs.Common.{◌≡◌, ℕ, List, [], ◌∷◌, true, false, subst}
use Rattle.std.specs.Option.{option_map}
use Rattle.alp_tokens.specs.Words.{◌>>=◌, says, is_line, words_of}
use Rattle.alp_tokens.specs.Numbers.{within, word32_of, word64_of}
use Rattle.alp_tokens.specs.Names.{name_of, list_of, text_of}
use Rattle.alp_lines.specs.FileWords.{file_word_of, new_word_of}
use Rattle.alp_lines.specs.Operands.{server_of, client_of, run_of, choice_of, purpose_of, mode_of, page_mode_of, change_of}
use Rattle.alp_lines.specs.ClientLines.{begin_line, bare_line, raw_line, make_owner_line, read_owner_line, quota_line, file_line, create_line, open_line, close_line, delete_line, write_line, read_line, lock_line, size_line, props_line, change_line, line_on_file, line_by_verb}
use Rattle.alp_lines.specs.Hex.{hex_of}
use Rattle.alp_lines.specs.EventLines.{one_server, two_servers, tick_line, force_line, timeout_line, stop_line, restart_line, carry_line, lose_line, again_line}
use Rattle.alp_lines.specs.Grammar.{servers_line, volume_line, client_line, patience_line, auto_line, line_of_client, event_by, line_by, line_of, is_skipped, line_said, text_said}
use Rattle.alp_lines.specs.Forms.{IsRunOfPages, IsPageMode, IsText, IsChange, IsForm}
use Rattle.alp_lines.specs.Forms as form
use Rattle.alp_base.specs.declared.limits.TheConstants.{CLIENTS}
use Rattle.alp_lines.specs.declared.limits.TheConstants.{PATIENCE_MOST, HOME_LEAST, HOME_MOST, AREA_LEAST, AREA_MOST}
use Rattle.alp_lines.specs.declared.line.Line.{Line}
use Rattle.alp_lines.specs.declared.line.Line.TheVariants as line
use Rattle.alp_lines.proofs.OperandLemmas.{IsFew, IsSmall, IsPick, IsBytes, IsWithin, then, then_of, either, where_true, word32_small, word64_small, hex_some, within_range, run_formed, text_formed, list_few, admitted, page_mode_formed, read_so, change_formed}

-- a line, if any, of a form
abbrev IsFormed : Option Line → Type 0
IsFormed said = IfSome said IsForm

-- ---- declarations

servers_form : (args : List (List ℕ)) → IsFormed (servers_line args)
unfolding servers_line
servers_form [] = tt
servers_form (a ∷ []) = then IsForm (server_of a) _ form.servers
servers_form (a ∷ b ∷ more) = tt

volume_form : (args : List (List ℕ)) → IsFormed (volume_line args)
unfolding volume_line
volume_form [] = tt
volume_form (a ∷ []) = tt
volume_form (a ∷ b ∷ []) = tt
volume_form (a ∷ b ∷ c ∷ []) =
    then IsForm (server_of a) _ (λ s.
    then_of (IsWithin HOME_LEAST HOME_MOST) IsForm (within HOME_LEAST HOME_MOST b) _ (within_range HOME_LEAST HOME_MOST b) (λ h home.
    then_of (IsWithin AREA_LEAST AREA_MOST) IsForm (within AREA_LEAST AREA_MOST c) _ (within_range AREA_LEAST AREA_MOST c) (λ a area.
    form.volume s h a (record { home_least = home.least; home_most = home.most; area_least = area.least; area_most = area.most }))))
volume_form (a ∷ b ∷ c ∷ d ∷ more) = tt

client_form : (args : List (List ℕ)) → IsFormed (client_line args)
unfolding client_line
client_form [] = tt
client_form (a ∷ []) = tt
client_form (a ∷ b ∷ []) = then IsForm (client_of a) _ (λ c. then IsForm (name_of b) _ (λ n. form.client c n))
client_form (a ∷ b ∷ c ∷ more) = tt

patience_form : (args : List (List ℕ)) → IsFormed (patience_line args)
unfolding patience_line
patience_form [] = tt
patience_form (a ∷ []) = then_of (IsWithin 1 PATIENCE_MOST) IsForm (within 1 PATIENCE_MOST a) _ (within_range 1 PATIENCE_MOST a) (λ n h. form.patience n h.least h.most)
patience_form (a ∷ b ∷ more) = tt

auto_form : (args : List (List ℕ)) → IsFormed (auto_line args)
unfolding auto_line
auto_form [] = tt
auto_form (a ∷ []) = either IsForm (says a (codes "on")) _ _ (form.auto_said true) (where_true IsForm (says a (codes "off")) (line.Auto false) (λ _. form.auto_said false))
auto_form (a ∷ b ∷ more) = tt

timeout_form : (args : List (List ℕ)) → IsFormed (timeout_line args)
unfolding timeout_line
timeout_form [] = tt
timeout_form (a ∷ []) = tt
timeout_form (a ∷ b ∷ []) = then IsForm (server_of a) _ (λ s. then_of (IsWithin 1 CLIENTS) IsForm (client_of b) _ (within_range 1 CLIENTS b) (λ c h. form.timeout s c h.most))
timeout_form (a ∷ b ∷ c ∷ more) = tt

-- ---- what happens at servers

tick_form : (args : List (List ℕ)) → IsFormed (tick_line args)
unfolding tick_line
tick_form args = then IsForm (one_server args) _ form.tick

force_form : (args : List (List ℕ)) → IsFormed (force_line args)
unfolding force_line
force_form args = then IsForm (one_server args) _ form.force

stop_form : (args : List (List ℕ)) → IsFormed (stop_line args)
unfolding stop_line
stop_form [] = tt
stop_form (a ∷ []) = tt
stop_form (a ∷ b ∷ []) = then IsForm (server_of a) _ (λ s. then_of IsSmall IsForm (word32_of b) _ (word32_small b) (λ n small. form.stop s n small))
stop_form (a ∷ b ∷ c ∷ more) = tt

restart_form : (args : List (List ℕ)) → IsFormed (restart_line args)
unfolding restart_line
restart_form [] = tt
restart_form (a ∷ []) = tt
restart_form (a ∷ b ∷ []) = then IsForm (server_of a) _ (λ s. then_of IsPick IsForm (word64_of b) _ (word64_small b) (λ p small. form.restart s p small))
restart_form (a ∷ b ∷ c ∷ more) = tt

carry_form : (args : List (List ℕ)) → IsFormed (carry_line args)
unfolding carry_line
carry_form args = then IsForm (two_servers args) _ (λ p. form.carry p.0 p.1)

lose_form : (args : List (List ℕ)) → IsFormed (lose_line args)
unfolding lose_line
lose_form args = then IsForm (two_servers args) _ (λ p. form.lose p.0 p.1)

again_form : (args : List (List ℕ)) → IsFormed (again_line args)
unfolding again_line
again_form args = then IsForm (two_servers args) _ (λ p. form.again p.0 p.1)

-- ---- transactions

begin_form : (client : ℕ) (args : List (List ℕ)) → IsFormed (begin_line client args)
unfolding begin_line
begin_form client [] = tt
begin_form client (a ∷ []) = then IsForm (server_of a) _ (λ s. form.begin client s)
begin_form client (a ∷ b ∷ more) = tt

bare_form : (l : Line) (args : List (List ℕ)) → IsForm l → IsFormed (bare_line l args)
unfolding bare_line
bare_form l [] formed = formed
bare_form l (a ∷ more) formed = tt

raw_form : (client : ℕ) (args : List (List ℕ)) → IsFormed (raw_line client args)
unfolding raw_line
raw_form client [] = tt
raw_form client (a ∷ []) = tt
raw_form client (a ∷ b ∷ []) = then IsForm (server_of a) _ (λ s. then_of IsBytes IsForm (hex_of b) _ (hex_some b) (λ bytes some. form.raw client s bytes some))
raw_form client (a ∷ b ∷ c ∷ more) = tt

-- ---- owners

make_owner_form : (client : ℕ) (args : List (List ℕ)) → IsFormed (make_owner_line client args)
unfolding make_owner_line
make_owner_form client [] = tt
make_owner_form client (a ∷ []) = tt
make_owner_form client (a ∷ b ∷ []) = tt
make_owner_form client (a ∷ b ∷ c ∷ []) = tt
make_owner_form client (a ∷ b ∷ c ∷ d ∷ end) =
    then IsForm (server_of a) _ (λ s. then IsForm (name_of b) _ (λ n. then IsForm (word32_of c) _ (λ q. then_of IsFew IsForm (list_of d) _ (list_few d) (λ l few. then IsForm (choice_of end) _ (λ wish. form.owner client s n q l wish few)))))

read_owner_form : (client : ℕ) (args : List (List ℕ)) → IsFormed (read_owner_line client args)
unfolding read_owner_line
read_owner_form client [] = tt
read_owner_form client (a ∷ []) = tt
read_owner_form client (a ∷ b ∷ end) = then IsForm (server_of a) _ (λ s. then IsForm (name_of b) _ (λ n. then IsForm (choice_of end) _ (λ wish. form.read_owner client s n wish)))

quota_form : (client : ℕ) (args : List (List ℕ)) → IsFormed (quota_line client args)
unfolding quota_line
quota_form client [] = tt
quota_form client (a ∷ []) = tt
quota_form client (a ∷ b ∷ []) = tt
quota_form client (a ∷ b ∷ c ∷ end) = then IsForm (server_of a) _ (λ s. then IsForm (name_of b) _ (λ n. then IsForm (word32_of c) _ (λ q. then IsForm (choice_of end) _ (λ wish. form.quota client s n q wish))))

-- ---- files

file_form : (client server : ℕ) (args : List (List ℕ)) → IsFormed (file_line client server args)
unfolding file_line
file_form client server [] = tt
file_form client server (a ∷ []) = tt
file_form client server (a ∷ b ∷ []) = tt
file_form client server (a ∷ b ∷ c ∷ end) =
    then IsForm (new_word_of a) _ (λ w. then IsForm (name_of b) _ (λ n. then_of IsSmall IsForm (word32_of c) _ (word32_small c) (λ size small. admitted IsForm end _ (λ read modify wish few_read few_modify. form.create client server w n size read modify wish small few_read few_modify))))

create_form : (client : ℕ) (args : List (List ℕ)) → IsFormed (create_line client args)
unfolding create_line
create_form client [] = tt
create_form client (a ∷ args) = then IsForm (server_of a) _ (λ s. file_form client s args)

open_form : (client : ℕ) (args : List (List ℕ)) → IsFormed (open_line client args)
unfolding open_line
open_form client [] = tt
open_form client (a ∷ []) = tt
open_form client (a ∷ b ∷ []) = tt
open_form client (a ∷ b ∷ c ∷ end) =
    then IsForm (file_word_of a) _ (λ f. then IsForm (purpose_of b) _ (λ p. then IsForm (mode_of c) _ (λ m. then IsForm (choice_of end) _ (λ wish. form.open_file client f p m wish))))

close_form : (client : ℕ) (args : List (List ℕ)) → IsFormed (close_line client args)
unfolding close_line
close_form client [] = tt
close_form client (a ∷ []) = then IsForm (file_word_of a) _ (λ f. form.close client f)
close_form client (a ∷ b ∷ more) = tt

delete_form : (client : ℕ) (args : List (List ℕ)) → IsFormed (delete_line client args)
unfolding delete_line
delete_form client [] = tt
delete_form client (a ∷ end) = then IsForm (file_word_of a) _ (λ f. then IsForm (choice_of end) _ (λ wish. form.delete client f wish))

write_form : (client : ℕ) (args : List (List ℕ)) → IsFormed (write_line client args)
unfolding write_line
write_form client [] = tt
write_form client (a ∷ []) = tt
write_form client (a ∷ b ∷ []) = tt
write_form client (a ∷ b ∷ c ∷ []) = tt
write_form client (a ∷ b ∷ c ∷ d ∷ end) =
    then IsForm (file_word_of a) _ (λ f. then_of IsRunOfPages IsForm (run_of b c) _ (run_formed b c) (λ r run. then_of IsText IsForm (text_of d) _ (text_formed d) (λ t text. then IsForm (choice_of end) _ (λ wish. form.write client f r t wish run text))))

read_form : (client : ℕ) (args : List (List ℕ)) → IsFormed (read_line client args)
unfolding read_line
read_form client [] = tt
read_form client (a ∷ []) = tt
read_form client (a ∷ b ∷ []) = tt
read_form client (a ∷ b ∷ c ∷ end) =
    then IsForm (file_word_of a) _ (λ f. then_of IsRunOfPages IsForm (run_of b c) _ (run_formed b c) (λ r run. read_so IsForm end _ (λ m wish fit. form.read client f r m wish run fit)))

lock_form : (client : ℕ) (args : List (List ℕ)) → IsFormed (lock_line client args)
unfolding lock_line
lock_form client [] = tt
lock_form client (a ∷ []) = tt
lock_form client (a ∷ b ∷ []) = tt
lock_form client (a ∷ b ∷ c ∷ []) = tt
lock_form client (a ∷ b ∷ c ∷ d ∷ end) =
    then IsForm (file_word_of a) _ (λ f. then_of IsRunOfPages IsForm (run_of b c) _ (run_formed b c) (λ r run. then_of IsPageMode IsForm (page_mode_of d) _ (page_mode_formed d) (λ m fit. then IsForm (choice_of end) _ (λ wish. form.lock client f r m wish run fit))))

size_form : (client : ℕ) (args : List (List ℕ)) → IsFormed (size_line client args)
unfolding size_line
size_form client [] = tt
size_form client (a ∷ []) = tt
size_form client (a ∷ b ∷ end) = then IsForm (file_word_of a) _ (λ f. then_of IsSmall IsForm (word32_of b) _ (word32_small b) (λ n small. then IsForm (choice_of end) _ (λ wish. form.size client f n wish small)))

-- ---- properties

props_form : (client : ℕ) (args : List (List ℕ)) → IsFormed (props_line client args)
unfolding props_line
props_form client [] = tt
props_form client (a ∷ []) = then IsForm (file_word_of a) _ (λ f. form.props client f)
props_form client (a ∷ b ∷ more) = tt

change_form : (client : ℕ) (args : List (List ℕ)) → IsFormed (change_line client args)
unfolding change_line
change_form client [] = tt
change_form client (a ∷ []) = tt
change_form client (a ∷ b ∷ []) = tt
change_form client (a ∷ b ∷ c ∷ end) =
    then IsForm (file_word_of a) _ (λ f. then_of IsChange IsForm (change_of b c) _ (change_formed b c) (λ p formed. then IsForm (choice_of end) _ (λ wish. form.change client f p wish formed)))

-- ---- lines

on_file_form : (client : ℕ) (verb : List ℕ) (args : List (List ℕ)) → IsFormed (line_on_file client verb args)
unfolding line_on_file
on_file_form client verb args =
    either IsForm (says verb (codes "open")) _ _ (open_form client args)
    (either IsForm (says verb (codes "close")) _ _ (close_form client args)
    (either IsForm (says verb (codes "delete")) _ _ (delete_form client args)
    (either IsForm (says verb (codes "read")) _ _ (read_form client args)
    (either IsForm (says verb (codes "write")) _ _ (write_form client args)
    (either IsForm (says verb (codes "lock")) _ _ (lock_form client args)
    (either IsForm (says verb (codes "size")) _ _ (size_form client args)
    (either IsForm (says verb (codes "props")) _ _ (props_form client args)
    (either IsForm (says verb (codes "change")) _ None (change_form client args) tt))))))))

verb_form : (client : ℕ) (verb : List ℕ) (args : List (List ℕ)) → IsFormed (line_by_verb client verb args)
unfolding line_by_verb
verb_form client verb args =
    either IsForm (says verb (codes "begin")) _ _ (begin_form client args)
    (either IsForm (says verb (codes "commit")) _ _ (bare_form (line.Commit client) args (form.commit client))
    (either IsForm (says verb (codes "abort")) _ _ (bare_form (line.Abort client) args (form.abort client))
    (either IsForm (says verb (codes "outcome")) _ _ (bare_form (line.Outcome client) args (form.outcome client))
    (either IsForm (says verb (codes "collect")) _ _ (bare_form (line.Collect client) args (form.collect client))
    (either IsForm (says verb (codes "repeat")) _ _ (bare_form (line.Repeat client) args (form.repeat client))
    (either IsForm (says verb (codes "old")) _ _ (bare_form (line.Old client) args (form.old client))
    (either IsForm (says verb (codes "raw")) _ _ (raw_form client args)
    (either IsForm (says verb (codes "mkowner")) _ _ (make_owner_form client args)
    (either IsForm (says verb (codes "owner")) _ _ (read_owner_form client args)
    (either IsForm (says verb (codes "quota")) _ _ (quota_form client args)
    (either IsForm (says verb (codes "create")) _ _ (create_form client args)
    (on_file_form client verb args))))))))))))

of_client_form : (client : List ℕ) (args : List (List ℕ)) → IsFormed (line_of_client client args)
unfolding line_of_client
of_client_form client [] = tt
of_client_form client (verb ∷ args) = then IsForm (client_of client) _ (λ c. verb_form c verb args)

event_form : (first : List ℕ) (args : List (List ℕ)) → IsFormed (event_by first args)
unfolding event_by
event_form first args =
    either IsForm (says first (codes "timeout")) _ _ (timeout_form args)
    (either IsForm (says first (codes "tick")) _ _ (tick_form args)
    (either IsForm (says first (codes "force")) _ _ (force_form args)
    (either IsForm (says first (codes "stop")) _ _ (stop_form args)
    (either IsForm (says first (codes "restart")) _ _ (restart_form args)
    (either IsForm (says first (codes "settle")) _ _ (bare_form line.Settle args form.settle)
    (either IsForm (says first (codes "carry")) _ _ (carry_form args)
    (either IsForm (says first (codes "lose")) _ _ (lose_form args)
    (either IsForm (says first (codes "again")) _ _ (again_form args)
    (of_client_form first args)))))))))

by_form : (first : List ℕ) (args : List (List ℕ)) → IsFormed (line_by first args)
unfolding line_by
by_form first args =
    either IsForm (says first (codes "servers")) _ _ (servers_form args)
    (either IsForm (says first (codes "volume")) _ _ (volume_form args)
    (either IsForm (says first (codes "client")) _ _ (client_form args)
    (either IsForm (says first (codes "patience")) _ _ (patience_form args)
    (either IsForm (says first (codes "auto")) _ _ (auto_form args)
    (event_form first args)))))

all_form : (words : List (List ℕ)) → IsFormed (line_of words)
all_form [] = tt
all_form (first ∷ args) = by_form first args

-- what a text says, if it says a line
abbrev IsSaid : Option Line → Type 0
IsSaid said = IfSome said IsForm

line_said-form : (line : Option Line) → IsFormed line → IfSome (option_map Some line) IsSaid
line_said-form None formed = tt
line_said-form (Some l) formed = formed

text_form : (text : List ℕ) → IfSome (text_said text) IsSaid
unfolding text_said line_said
text_form text =
    either IsSaid (is_line text) _ None
    (either IsSaid (is_skipped text) (Some None) _ tt (line_said-form (words_of text >>= line_of) (then IsForm (words_of text) line_of all_form))) tt

pub text_said-form : (text : List ℕ) (said : Option Line) → text_said text ≡ Some said → IfSome said IsForm
text_said-form text said h = subst (λ (o : Option (Option Line)). IfSome o IsSaid) h (text_form text)
