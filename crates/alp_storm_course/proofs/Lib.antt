mod TaskLemmas
mod WorkerLemmas
mod ListLemmas
mod PartLemmas
mod JoinLemmas
