mod SendLemmas
mod CountLemmas
mod DeskLemmas
mod ServedLemmas
mod BerthLemmas
mod EntryLemmas
mod StepLemmas
mod ShownLemmas
