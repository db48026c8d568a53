use Rattle.std.specs.Prelude.{true, ◌&&◌, nat_le}
use Rattle.std.specs.List.{list_all}
use Rattle.std.proofs.Common.{◌≡◌, ℕ, List, length, refl, arith}
use Rattle.std.proofs.lemmas.Bool.{and_parts, leb-true}
use Rattle.alp_base.specs.Names.{is_name, is_name_byte}
use Rattle.alp_fields.specs.Forms.{u8}
use Rattle.alp_fields.specs.Fields.{name}
use Rattle.alp_ready.proofs.fits.fit_name.Goals as goal

spelled : (n : List ℕ) → is_name n ≡ true → name.Fits n
unfolding name u8
spelled n named =
    let parts : ((nat_le 1 (length n) && nat_le (length n) 24) ≡ true) × (list_all is_name_byte n ≡ true) = and_parts (nat_le 1 (length n) && nat_le (length n) 24) (list_all is_name_byte n) named in
    let few : nat_le (length n) 24 ≡ true = (and_parts (nat_le 1 (length n)) (nat_le (length n) 24) parts.0).1 in
    ((omega (arith, leb-true (length n) 24 few), refl), named)

pub returns : goal.returns
returns c = spelled c.args.owner.now c.as_bytes-bytes.ensures.named
