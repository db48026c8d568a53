-- What the lines do that are no client's.
use Rattle.std.specs.Prelude.{◌==◌, ◌≢◌, Bool, true, false, Option, None, Some, if◌then◌else◌}
use Rattle.std.proofs.Common.{inl, inr, ◌≡◌, ℕ, ◌≤◌, List, [], ◌∷◌, length, refl, sym, ◌∙◌, ap, subst, arith}
use Rattle.std.proofs.lemmas.Bool.{ne_eqb}
use Rattle.std.proofs.lemmas.Bool.Decides.{eqb_tells}
use Rattle.alp_lines.specs.Forms.{IsForm}
use Rattle.alp_lines.specs.Forms as form
use Rattle.alp_lines.specs.Named.{client_named, server_named, receiver_named}
use Rattle.alp_script.specs.Order.{names_ours}
use Rattle.alp_script.proofs.OrderLemmas.{ours-server, ours-receiver}
use Rattle.alp_lines.specs.declared.line.Line.{Line}
use Rattle.alp_lines.specs.declared.line.Line.TheVariants as line
use Rattle.alp_session.specs.Crowd.{Crowd}
use Rattle.alp_session.specs.Crowds.{declares}
use Rattle.alp_session.specs.declared.waiting.Next.{Next}
use Rattle.alp_session.specs.declared.waiting.Next.TheVariants as next
use Rattle.alp_vault.specs.declared.vault.Vault.{Ghosts}
use Rattle.alp_course.specs.Courses.{Occurrence}
use Rattle.alp_course.specs.Languages.{Language, Just}
use Rattle.alp_course.specs.Plays.{CarriesAt, OfTwo, GivesLine}
use Rattle.alp_cluster.specs.Runs.{is_stop_line, happens_at_once}
use Rattle.alp_cluster.specs.Stations.{AreOn, IsOneOf, Did, DidSome}
use Rattle.alp_cluster.specs.Steps.{AddsEvents, AddsSomeEvents}
use Rattle.alp_cluster.specs.declared.fault.RunFault.{RunFault}
use Rattle.alp_cluster.specs.declared.stations.Stations.{Stations}
use Rattle.alp_cluster.proofs.DidLemmas.{go_none, did_map, some_map}

-- ---- messages of a line

pub of_itself : (from to : ℕ) (x : Occurrence) → from ≡ to → OfTwo from to x []
of_itself from to x same = elim (eqb_tells from to) [
  | inl is ↦ ap (λ (b : Bool). if b then [] else x ∷ []) (sym is.0)
  | inr away ↦ absurd (away.1 same)
]

pub of_other : (from to : ℕ) (x : Occurrence) → from ≢ to → (xs : List Occurrence) → Just (x ∷ []) xs → OfTwo from to x xs
of_other from to x away xs is = is ∙ ap (λ (b : Bool). if b then [] else x ∷ []) (sym (ne_eqb from to away))

-- before any other step of a line nothing is carried
pub carries_none : (servers : ℕ) (c : Crowd) (n : Next) → (n ≡ next.Collect → ⊥) → CarriesAt servers c n []
carries_none servers c next.Call away = refl
carries_none servers c next.Collect away = absurd (away refl)
carries_none servers c next.TimeOut away = refl
carries_none servers c next.Over away = refl

-- ---- which lines give nothing

-- none of the lines by which something happens at one server
pub none_at_once : (l : Line) → ((server client : ℕ) → l ≡ line.Timeout server client → ⊥) → ((server : ℕ) → l ≡ line.Tick server → ⊥) → ((server : ℕ) → l ≡ line.Force server → ⊥) → ((server calls : ℕ) → l ≡ line.Stop server calls → ⊥)
    → ((server pick : ℕ) → l ≡ line.Restart server pick → ⊥) → (l ≡ line.Settle → ⊥) → happens_at_once l ≡ false
none_at_once (line.Timeout server client) timeout tick force stop restart settle = absurd (timeout server client refl)
none_at_once (line.Tick server) timeout tick force stop restart settle = absurd (tick server refl)
none_at_once (line.Force server) timeout tick force stop restart settle = absurd (force server refl)
none_at_once (line.Stop server calls) timeout tick force stop restart settle = absurd (stop server calls refl)
none_at_once (line.Restart server pick) timeout tick force stop restart settle = absurd (restart server pick refl)
none_at_once line.Settle timeout tick force stop restart settle = absurd (settle refl)
none_at_once l timeout tick force stop restart settle = refl

pub gives_none : (servers : ℕ) (c : Crowd) (l : Line) → client_named l ≡ None → happens_at_once l ≡ false → ((from to : ℕ) → l ≡ line.Carry from to → ⊥) → ((from to : ℕ) → l ≡ line.Lose from to → ⊥) → ((from to : ℕ) → l ≡ line.Again from to → ⊥) → GivesLine servers c l []
unfolding client_named
gives_none servers c (line.Servers count) own once carry lose again = refl
gives_none servers c (line.Volume server home area) own once carry lose again = refl
gives_none servers c (line.Client client name) own once carry lose again = refl
gives_none servers c (line.Patience count) own once carry lose again = refl
gives_none servers c (line.Auto on) own once carry lose again = refl
gives_none servers c (line.Carry from to) own once carry lose again = absurd (carry from to refl)
gives_none servers c (line.Lose from to) own once carry lose again = absurd (lose from to refl)
gives_none servers c (line.Again from to) own once carry lose again = absurd (again from to refl)
gives_none servers c (line.Tick server) own once carry lose again = cc
gives_none servers c (line.Force server) own once carry lose again = cc
gives_none servers c (line.Timeout server client) own once carry lose again = cc
gives_none servers c (line.Stop server calls) own once carry lose again = cc
gives_none servers c (line.Restart server pick) own once carry lose again = cc
gives_none servers c line.Settle own once carry lose again = cc
gives_none servers c l own once carry lose again = cc

-- ---- the servers that a line names

module _ {V : Type 0} (s : Stations V) (l : Line) where
  server_of : (server : ℕ) → names_ours (length s.all.items) l ≡ true → server_named l ≡ Some server → IsOneOf s server
  server_of server ours named = (let both = ours-server (length s.all.items) l server ours named in record { first = both.0; last = both.1 })

  receiver_of : (server : ℕ) → names_ours (length s.all.items) l ≡ true → receiver_named l ≡ Some server → IsOneOf s server
  receiver_of server ours named = (let both = ours-receiver (length s.all.items) l server ours named in record { first = both.0; last = both.1 })

  pub timeout_ours : (server client : ℕ) → names_ours (length s.all.items) l ≡ true → l ≡ line.Timeout server client → IsOneOf s server
  unfolding server_named
  timeout_ours server client ours is = server_of server ours (ap server_named is)

  pub tick_ours : (server : ℕ) → names_ours (length s.all.items) l ≡ true → l ≡ line.Tick server → IsOneOf s server
  unfolding server_named
  tick_ours server ours is = server_of server ours (ap server_named is)

  pub force_ours : (server : ℕ) → names_ours (length s.all.items) l ≡ true → l ≡ line.Force server → IsOneOf s server
  unfolding server_named
  force_ours server ours is = server_of server ours (ap server_named is)

  pub stop_ours : (server calls : ℕ) → names_ours (length s.all.items) l ≡ true → l ≡ line.Stop server calls → IsOneOf s server
  unfolding server_named
  stop_ours server calls ours is = server_of server ours (ap server_named is)

  pub restart_ours : (server pick : ℕ) → names_ours (length s.all.items) l ≡ true → l ≡ line.Restart server pick → IsOneOf s server
  unfolding server_named
  restart_ours server pick ours is = server_of server ours (ap server_named is)

  pub carry_from : (from to : ℕ) → names_ours (length s.all.items) l ≡ true → l ≡ line.Carry from to → IsOneOf s from
  unfolding server_named
  carry_from from to ours is = server_of from ours (ap server_named is)

  pub carry_to : (from to : ℕ) → names_ours (length s.all.items) l ≡ true → l ≡ line.Carry from to → IsOneOf s to
  unfolding receiver_named
  carry_to from to ours is = receiver_of to ours (ap receiver_named is)

  pub lose_from : (from to : ℕ) → names_ours (length s.all.items) l ≡ true → l ≡ line.Lose from to → IsOneOf s from
  unfolding server_named
  lose_from from to ours is = server_of from ours (ap server_named is)

  pub lose_to : (from to : ℕ) → names_ours (length s.all.items) l ≡ true → l ≡ line.Lose from to → IsOneOf s to
  unfolding receiver_named
  lose_to from to ours is = receiver_of to ours (ap receiver_named is)

  pub again_from : (from to : ℕ) → names_ours (length s.all.items) l ≡ true → l ≡ line.Again from to → IsOneOf s from
  unfolding server_named
  again_from from to ours is = server_of from ours (ap server_named is)

  pub again_to : (from to : ℕ) → names_ours (length s.all.items) l ≡ true → l ≡ line.Again from to → IsOneOf s to
  unfolding receiver_named
  again_to from to ours is = receiver_of to ours (ap receiver_named is)

-- a timeout names a client
small_at : (server client : ℕ) → IsForm (line.Timeout server client) → client ≤ 16
small_at server client (form.timeout s k most) = omega (arith, most)

pub timeout_client : (l : Line) (server client : ℕ) → IsForm l → l ≡ line.Timeout server client → client ≤ 16
timeout_client l server client h is = small_at server client (subst IsForm is h)

-- a line that lets a disk be stopped is no other
pub stop_line : (l : Line) (server calls : ℕ) → l ≡ line.Stop server calls → is_stop_line l ≡ false → ⊥
stop_line l server calls is none = (let wrong : true ≡ false = sym (ap is_stop_line is) ∙ none in cc)

module _ {V : Type 0} (G : Ghosts V) where
  -- a word that is empty
  pub did_none : (A : Language) (s : Stations V) → AreOn G s → A [] → Did G A s s
  did_none A s on word = record { hs = []; word = word; goes = go_none G s on }

  -- of a line that is this one
  pub did_line : (servers : ℕ) (c : Crowd) (l k : Line) (a b : Stations V) → l ≡ k → Did G (GivesLine servers c k) a b → Did G (GivesLine servers c l) a b
  did_line servers c l k a b is d = subst (λ (x : Line). Did G (GivesLine servers c x) a b) (sym is) d

  pub some_line : (servers : ℕ) (c : Crowd) (l k : Line) (f : RunFault) (a b : Stations V) → l ≡ k → DidSome G (GivesLine servers c k) f a b → DidSome G (GivesLine servers c l) f a b
  some_line servers c l k f a b is d = subst (λ (x : Line). DidSome G (GivesLine servers c x) f a b) (sym is) d

  -- ---- what it adds

  pub adds_events : (servers : ℕ) (c d : Crowd) (a b : Stations V) (l : Line) → d ≡ declares c l → Did G (GivesLine servers c l) a b → AddsEvents G servers c d a b l
  adds_events servers c d a b l is h = record { hs = h.hs; goes = h.goes; gives = h.word; declared = is }

  pub adds_some_events : (servers : ℕ) (c d : Crowd) (a b : Stations V) (l : Line) (f : RunFault) → d ≡ declares c l → DidSome G (GivesLine servers c l) f a b → AddsSomeEvents G f servers c d a b l
  adds_some_events servers c d a b l f is h = record { at_end = h.at_end; hs = h.hs; due = h.due; goes = h.goes; ends = h.ends; left = h.left; begins = h.cut; declared = is }
