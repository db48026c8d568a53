use Rattle.std.proofs.Common.{◌≡◌, sym, ◌∙◌, ap, arith}
use Rattle.std.specs.Fs.{metadata_len}
use Rattle.alp_bay.proofs.open.open_volume.Goals as goal

pub returns-in-None-clause-cause : goal.returns-in-None-clause-cause
returns-in-None-clause-cause g c =
    let same : c.bytes-bytes.result ≡ metadata_len c.into_found.result = c.bytes-bytes.ensures ∙ sym (ap metadata_len c.into_found.ensures) in
    ((λ none. (let empty : metadata_len c.into_found.result ≡ 0 = none in omega (arith, c.if-bytes-eq0.false, same, empty))), (λ pages two few is. c.in-None.ensures.none pages two few (same ∙ is)))
