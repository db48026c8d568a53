-- What is known of a script's words, and what each of its clients knows.
use Rattle.std.specs.Prelude.{List, refl}
use Rattle.std.specs.FinMap as map
use Rattle.std.specs.Coded.{Coded, code_by, coded×, coded_list}
use Rattle.alp_base.specs.contracts.name.Name as name_type
use Rattle.alp_session.specs.contracts.meaning.Meaning as meaning_type
use Rattle.alp_session.specs.contracts.waiting.Settings as settings_type
use Rattle.alp_session.specs.Maps.{WordMap}
use Rattle.alp_session.specs.contracts.client.Client as client_type
use Rattle.alp_session.specs.declared.client.Client.{Client}
use Rattle.alp_session.specs.declared.waiting.Settings.{Settings}

-- a client stands at its number, and nobody at 0
pub record Crowd : Type 0 where
  pub words : WordMap
  pub places : List Client
  -- what lines set for all clients
  pub settings : Settings

abbrev pub crowd_code : Coded Crowd
crowd_code =
    code_by (WordMap × (List Client × Settings))
    (coded× (map.code name_type.the_row.coded meaning_type.the_row.coded) (coded× (coded_list client_type.the_row.coded) settings_type.the_row.coded))
    (λ c. (c.words, (c.places, c.settings))) (λ p. record { words = p.0; places = p.1.0; settings = p.1.1 }) (λ _. refl)
