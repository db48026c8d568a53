-- How an error of the reader of words is told.
use Rattle.clap.specs.declared.error.kind.ErrorKind.{ErrorKind}
use Rattle.clap.specs.declared.error.kind.ErrorKind.TheVariants as kind
use Rattle.alp_words.specs.declared.fault.WordsFault.{WordsFault}
use Rattle.alp_words.specs.declared.fault.WordsFault.TheVariants as words_fault

-- each kind but want of memory is a refusal of the words
abbrev pub told_as : ErrorKind → WordsFault
told_as kind.OutOfMemory = words_fault.OutOfMemory
told_as _ = words_fault.Bad
