use Rattle.alp_chain_tests.proofs.tests.keeps_others.Given as goal

abbrev pub ghosts-release : goal.ghosts-release
ghosts-release a = record { name = a.blank.name; parts = a.blank.parts }
