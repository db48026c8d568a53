mod DepotLemmas
mod PassLemmas
