-- How a transaction stands, on the wire.
use Rattle.std.specs.Prelude.{[], ◌∷◌}
use Rattle.alp_files.specs.declared.reply.Ended.{Ended}
use Rattle.alp_files.specs.declared.reply.Ended.TheVariants.{Running, Committed, Aborted, Unknown}
use Rattle.alp_fields.specs.Forms.{Form, Readers}
use Rattle.alp_fields.specs.Fields.{stamp}
use Rattle.alp_forms.specs.Variants.{Variant, row, bare, Sent, sent, by_tag, enum_of}

-- committed, at that stamp
abbrev pub committed_at : Variant Ended
committed_at = row 1 stamp Committed

abbrev pub sent_ended : Ended → Sent
sent_ended Running = sent (bare 0 Running) tt
sent_ended (Committed at) = sent committed_at at
sent_ended Aborted = sent (bare 2 Aborted) tt
sent_ended Unknown = sent (bare 3 Unknown) tt

abbrev pub ended_readers : Readers Ended
ended_readers = by_tag (bare 0 Running) ∷ by_tag committed_at ∷ by_tag (bare 2 Aborted) ∷ by_tag (bare 3 Unknown) ∷ []

-- how it stands: a tag, and the stamp where it is committed
unfoldable pub ended : Form Ended
ended = enum_of sent_ended ended_readers
