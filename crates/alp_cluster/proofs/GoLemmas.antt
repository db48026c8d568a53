-- how a server goes on by one event
use Rattle.std.specs.Prelude.{true, false, Bool, Option, Some}
use Rattle.std.proofs.Common.{◌≡◌, ◌≢◌, List, [], ◌∷◌, ◌++◌, length, length-append, append_assoc, append-nil, refl, sym, ◌∙◌, ap, subst}
use Rattle.alp_base.specs.declared.allowance.Allowance.TheVariants.{Free}
use Rattle.alp_files.specs.declared.refusal.Refusal.TheVariants.{Down}
use Rattle.alp_files.specs.declared.reply.Reply.{Reply}
use Rattle.alp_files.specs.declared.reply.Reply.TheVariants.{Refused}
use Rattle.alp_journal.specs.Moves.{stops}
use Rattle.alp_journal.specs.declared.entry.Entry.{Entry}
use Rattle.alp_journal.specs.declared.event.Event.{Event}
use Rattle.alp_node.specs.NodeStates.{NodeState}
use Rattle.alp_node.specs.Nodes.{start_in}
use Rattle.alp_node.specs.Served.{IsServed}
use Rattle.alp_vault.specs.declared.vault.Vault.{Ghosts}
use Rattle.alp_cluster.specs.Goes.{IsLater, GoesBy}
use Rattle.alp_course.specs.Happens.{stand_after, IsEntryOf, IsNone, ComesTo}
use Rattle.alp_cluster.specs.Servers.{IsOn, IsFree, AreCalm, stand_of, Steps, HasComeTo}
use Rattle.alp_cluster.proofs.DeskLemmas.{change, reached_on}
use Rattle.alp_cluster.proofs.StepLemmas.{state_more}

-- ---- entries that stop nothing

pub calm_parts : (xs ys : List Entry) → AreCalm (xs ++ ys) → AreCalm xs × AreCalm ys
calm_parts [] ys h = (tt, h)
calm_parts (x ∷ xs) ys h = (let (front, back) = calm_parts xs ys h.1 in ((h.0, front), back))

-- ---- a server that is later

module _ {V : Type 0} (G : Ghosts V) where
  pub later_same : (n : NodeState V) → IsOn G n → IsLater G n n
  later_same n on = record { on = on; number = refl; count = refl; opening = refl; start = refl; telling = refl; reached = λ k a h. h; calm = λ calm. (calm, refl) }

  pub later_then : (n m z : NodeState V) → IsLater G n m → IsLater G m z → IsLater G n z
  later_then n m z h k = record {
    on = k.on;
    number = k.number ∙ h.number;
    count = k.count ∙ h.count;
    opening = k.opening ∙ h.opening;
    start = k.start ∙ h.start;
    telling = k.telling ∙ h.telling;
    reached = λ j a old. k.reached j a (h.reached j a old);
    calm = λ calm. (let late = k.calm calm in let early = h.calm late.0 in (early.0, late.1 ∙ early.1));
  }

  -- ---- one step

  -- where the run stands behind one entry
  pub stand_more : (n m : NodeState V) (f : Bool) (e : Entry) → start_in G m ≡ start_in G n → m.kept.server ≡ n.kept.server → m.kept.epoch ≡ n.kept.epoch → m.kept.is_down ≡ stops e → m.journal ≡ n.journal ++ e ∷ [] → stand_of G f m ≡ stand_after (stand_of G f n) e
  stand_more n m f e start server epoch down journal = λ i. record {
    server = server i;
    epoch = epoch i;
    is_down = down i;
    is_fused = f;
    place = (ap (λ (js : List Entry). length js) journal ∙ length-append n.journal (e ∷ [])) i;
    state = state_more G n m e start journal i;
  }

  -- what a step made: nothing where the server is down, and else one entry with the reply
  abbrev pub Made : (n m : NodeState V) (f b : Bool) (x : Event) (r : Option Reply) (es : List Entry) → Type 0
  Made n m f true x r es = IsNone (stand_of G f n) es (stand_of G f m) × (r ≡ Some (Refused Down))
  Made n m f false x r es = (e : IsEntryOf (stand_of G f n) x es (stand_of G f m)) × (e.entry.reply ≡ r)

  pub record StepMade (n m : NodeState V) (x : Event) (r : Option Reply) : Type 0 where
    pub later : IsLater G n m
    pub free : (f : Bool) → IsFree G f n → IsFree G f m
    pub entries : List Entry
    pub journal : m.journal ≡ n.journal ++ entries
    pub made : (f : Bool) → IsFree G f n → Made n m f n.kept.is_down x r entries

  pub step_made : (n m : NodeState V) (x : Event) (r : Option Reply) → IsOn G n → IsServed x → Steps G n.kept.is_down n m x r → StepMade n m x r
  step_made n m x r on served = go n.kept.is_down refl
    where
      halted : (f : Bool) → IsFree G f n → (G.allowance n.kept.vault ≢ Free) → f ≡ true
      halted true free stopped = refl
      halted false free stopped = absurd (stopped (free refl))

      go : (b : Bool) → n.kept.is_down ≡ b → Steps G b n m x r → StepMade n m x r
      go true down h =
          subst (λ (z : NodeState V). StepMade n z x r) (sym h.same) (record {
            later = later_same n on;
            free = λ f free. free;
            entries = [];
            journal = sym (append-nil n.journal);
            made = λ f free. subst (λ (b : Bool). Made n n f b x r []) (sym down) ((refl, refl), h.reply);
          })
      go false up h =
          let e : Entry = record { event = x; reply = r; acts = h.acts } in
          record {
            later = record {
              on = h.on;
              number = h.server;
              count = h.servers;
              opening = h.opening;
              start = h.start;
              telling = h.telling;
              reached = reached_on n.kept m.kept r on.kept.ready.places h.epoch up (λ goes. change n.kept m.kept x r served h.on.kept.ready.clock (h.turned goes));
              calm = λ calm. (let parts = calm_parts n.journal (e ∷ []) (subst AreCalm h.journal calm) in (parts.0, h.counted (h.down ∙ parts.1.0)));
            };
            free = λ f free is. h.free (free is);
            entries = e ∷ [];
            journal = h.journal;
            made = λ f free. subst (λ (b : Bool). Made n m f b x r (e ∷ [])) (sym up) (
              record {
                entry = e;
                one = refl;
                event = refl;
                room = h.room;
                halts = λ stop. halted f free (h.halts (h.down ∙ stop));
                behind = stand_more n m f e h.start h.server h.epoch h.down h.journal;
              },
              refl,
            );
          }

  -- ---- an event that is no call

  comes_made : (n m : NodeState V) (f b : Bool) (x : Event) (r : Option Reply) (es : List Entry) → Made n m f b x r es → ComesTo (stand_of G f n) b x es (stand_of G f m)
  comes_made n m f true x r es h = h.0
  comes_made n m f false x r es h = h.0

  pub event_goes : (n m : NodeState V) (x : Event) → IsOn G n → IsServed x → HasComeTo G n m x → (f : Bool) → IsFree G f n → GoesBy G f f (λ w es v. ComesTo w w.is_down x es v) n m
  event_goes n m x on served came f free =
      let (r, steps) = came in
      let s : StepMade n m x r = step_made n m x r on served steps in
      record { later = s.later; free = s.free f free; entries = s.entries; journal = s.journal; made = comes_made n m f n.kept.is_down x r s.entries (s.made f free) }
