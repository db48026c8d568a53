-- the names, lists of names and texts that words spell
use Rattle.std.specs.Prelude.{ℕ, ◌&&◌, nat_le, List, [], length, codes, Option, Some, if◌then◌else◌}
use Rattle.std.specs.List.{list_all}
use Rattle.alp_base.specs.Names.{is_between, is_name}
use Rattle.alp_base.specs.declared.lists.TheConstants.{NAMES_PER_LIST}
use Rattle.alp_tokens.specs.Words.{when, parts_at, says}
use Rattle.alp_tokens.specs.declared.names.TheConstants.{TEXT_BYTES}

unfoldable pub name_of : List ℕ → Option (List ℕ)
name_of w = when (is_name w) w

-- the access list of these words, where each is a name and there are not too many
unfoldable pub names_of : List (List ℕ) → Option (List (List ℕ))
names_of ws = when (nat_le (length ws) NAMES_PER_LIST && list_all is_name ws) ws

-- the access list of the names between commas, or `-` for the one without a name
unfoldable pub list_of : List ℕ → Option (List (List ℕ))
list_of w = if says w (codes "-") then Some [] else names_of (parts_at 44 w)

-- the bytes that a page of a write begins with
unfoldable pub text_of : List ℕ → Option (List ℕ)
text_of w = when (nat_le 1 (length w) && nat_le (length w) TEXT_BYTES && list_all (is_between 33 126) w) w
