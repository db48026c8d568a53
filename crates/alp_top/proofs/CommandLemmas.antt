-- the lines of a command
use Rattle.std.specs.Prelude.{IfOk, IfErr, Option, None, Some, Result, Ok, Err, Vec}
use Rattle.std.specs.Global.{Global}
use Rattle.std.proofs.Common.{inl, inr, ◌⊎◌, ◌≡◌, ℕ, List, [], ◌++◌, refl, sym, ◌∙◌, ap, subst, append-nil, arith}
use Rattle.alp_script.specs.Accepted.{IsAccepted}
use Rattle.alp_script.specs.Reading.{GaveScript, GaveFlaw, SaysScript, ReadsScript}
use Rattle.alp_script.specs.Script.{script}
use Rattle.alp_script.specs.declared.fault.ScriptFault.{ScriptFault}
use Rattle.alp_script.specs.declared.fault.ScriptFault.TheVariants as flaw
use Rattle.alp_script.specs.declared.numbered.NumberedLine.{NumberedLine}
use Rattle.alp_words.specs.Words.{IsNamedBy}
use Rattle.alp_words.specs.declared.command.Command.{Command}
use Rattle.alp_words.specs.declared.command.Command.TheVariants as command
use Rattle.alp_top.specs.Commands.{AreToPlay, HasLines, HasNoLines, HasFewRounds}

-- what has a flaw is no script
ok_not : {A : Type 0} (x : A) (f : ScriptFault) → ◌≡◌ {A = Result A ScriptFault} (Ok x) (Err f) → ⊥
ok_not x f e = cc

flawed_by : (bytes rest : List ℕ) (all : List ℕ) (lines : List NumberedLine) (f : ScriptFault) → all ≡ bytes ++ rest → script all ≡ Ok lines → script bytes ≡ Err f → ((more : List ℕ) → script (bytes ++ more) ≡ Err f) ⊎ (rest ≡ []) → ⊥
flawed_by bytes rest all lines f is said outside (inl more) = ok_not lines f (sym said ∙ ap script is ∙ more rest)
flawed_by bytes rest all lines f is said outside (inr none) = ok_not lines f (sym said ∙ ap script (is ∙ ap (λ (r : List ℕ). bytes ++ r) none ∙ append-nil bytes) ∙ outside)

flawed_of : (old new : Option (List ℕ)) (f : ScriptFault) → GaveFlaw old new f → (bytes : List ℕ) (lines : List NumberedLine) → old ≡ Some bytes → script bytes ≡ Ok lines → ⊥
flawed_of None new f h bytes lines left said = let wrong : ◌≡◌ {A = Option (List ℕ)} None (Some bytes) = left in cc
flawed_of (Some xs) None f h bytes lines left said = absurd h.consumed
flawed_of (Some xs) (Some ys) f h bytes lines left said =
    let same : xs ≡ bytes = same_bytes xs bytes left in
    flawed_by (h.front ++ h.piece) ys xs lines f h.consumed (ap script same ∙ said) h.outside h.final
  where
    same_bytes : (xs ys : List ℕ) → ◌≡◌ {A = Option (List ℕ)} (Some xs) (Some ys) → xs ≡ ys
    same_bytes xs ys e = cc

no_script : (old new : Option (List ℕ)) (f : ScriptFault) → GaveFlaw old new f → SaysScript old → ⊥
no_script old new f h s = flawed_of old new f h s.bytes s.lines s.left s.said

-- what was read of a script
pub script_lines : (folder : _) (old new : Option (List ℕ)) (r : Result (Vec NumberedLine Global) ScriptFault) → ReadsScript old new r → IfOk r (λ v. AreToPlay (command.Play folder) old new v.items)
script_lines folder old new (Ok v) h = h
script_lines folder old new (Err f) h = tt

pub script_accepted : (old new : Option (List ℕ)) (r : Result (Vec NumberedLine Global) ScriptFault) → ((bytes : List ℕ) (lines : List NumberedLine) → script bytes ≡ Ok lines → IsAccepted lines) → ReadsScript old new r → IfOk r (λ v. IsAccepted v.items)
script_accepted old new (Ok v) all h = all h.bytes v.items h.said
script_accepted old new (Err f) all h = tt

pub script_none : (folder : _) (old new : Option (List ℕ)) (r : Result (Vec NumberedLine Global) ScriptFault) → ReadsScript old new r → IfErr r (HasNoLines (command.Play folder) old new)
script_none folder old new (Ok v) h = tt
script_none folder old new (Err (flaw.Bad n)) h = (h, no_script old new (flaw.Bad n) h)
script_none folder old new (Err flaw.TooLong) h = (h, no_script old new flaw.TooLong h)
script_none folder old new (Err flaw.ReadFault) h = (h, tt)
script_none folder old new (Err flaw.OutOfMemory) h = tt

-- the same of a command, where it is that of a script
pub play_lines : (c : Command) (folder : _) (old new : Option (List ℕ)) (r : Result (Vec NumberedLine Global) ScriptFault) → c ≡ command.Play folder → ReadsScript old new r → IfOk r (λ v. AreToPlay c old new v.items)
play_lines c folder old new r is h = subst (λ (d : Command). IfOk r (λ v. AreToPlay d old new v.items)) (sym is) (script_lines folder old new r h)

pub play_none : (c : Command) (folder : _) (old new : Option (List ℕ)) (r : Result (Vec NumberedLine Global) ScriptFault) → c ≡ command.Play folder → ReadsScript old new r → IfErr r (HasNoLines c old new)
play_none c folder old new r is h = subst (λ (d : Command). IfErr r (HasNoLines d old new)) (sym is) (script_none folder old new r h)

-- a drill that words name has few rounds, and a storm is in its bounds
pub few_rounds : (words : List (List ℕ)) (c : Command) → IsNamedBy words c → HasFewRounds c
few_rounds words (command.Play folder) h = tt
few_rounds words (command.Drill seed size folder) h = h.most
few_rounds words (command.Storm servers clients size seed patience folder) h = record {
  some_servers = omega (arith, h.servers_within.0);
  few_servers = h.servers_within.1;
  some_clients = omega (arith, h.clients_within.0);
  few_clients = h.clients_within.1;
  few_transactions = h.size_within.1;
  some_patience = omega (arith, h.patience_within.0);
  little_patience = h.patience_within.1;
}
