-- Where a job stands.
use Rattle.std.specs.Prelude.{ℕ, Bool, List, refl}
use Rattle.std.specs.Coded.{Coded, code_by, coded×, coded_ℕ, coded_bool, coded_list}
use Rattle.alp_journal.specs.contracts.log.Item as item_type
use Rattle.alp_journal.specs.declared.log.Item.{Item}
use Rattle.alp_lines.specs.contracts.line.Line as line_type
use Rattle.alp_lines.specs.declared.line.Line.{Line}
use Rattle.alp_session.specs.Crowd.{Crowd, crowd_code}
use Rattle.alp_jobs.specs.contracts.stage.Stage as stage_type
use Rattle.alp_jobs.specs.contracts.stage.Way as way_type
use Rattle.alp_jobs.specs.declared.stage.Stage.{Stage}
use Rattle.alp_jobs.specs.declared.stage.Way.{Way}

-- Its client, the line and the stage that it is at, how its transaction goes, the other lines of that, the other transactions, what is
-- known, what its client sent and was handed so far, and whether a place for one item more is reserved.
pub record JobState : Type 0 where
  pub number : ℕ
  pub line : Line
  pub stage : Stage
  pub way : Way
  pub rest : List Line
  pub others : List (List Line)
  pub crowd : Crowd
  pub items : List Item
  pub room : Bool

abbrev pub job_code : Coded JobState
job_code =
    code_by (ℕ × (Line × (Stage × (Way × (List Line × (List (List Line) × (Crowd × (List Item × Bool))))))))
    (coded× coded_ℕ (coded× line_type.the_row.coded (coded× stage_type.the_row.coded (coded× way_type.the_row.coded
    (coded× (coded_list line_type.the_row.coded) (coded× (coded_list (coded_list line_type.the_row.coded)) (coded× crowd_code (coded× (coded_list item_type.the_row.coded) coded_bool))))))))
    (λ j. (j.number, (j.line, (j.stage, (j.way, (j.rest, (j.others, (j.crowd, (j.items, j.room)))))))))
    (λ p. record { number = p.0; line = p.1.0; stage = p.1.1.0; way = p.1.1.1.0; rest = p.1.1.1.1.0; others = p.1.1.1.1.1.0; crowd = p.1.1.1.1.1.1.0; items = p.1.1.1.1.1.1.1.0; room = p.1.1.1.1.1.1.1.1 })
    (λ _. refl)
