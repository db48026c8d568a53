-- what a server answers to a request has a frame, and where its entry stands
use Rattle.std.specs.Prelude.{true, false, Bool, Option, IfSome}
use Rattle.std.proofs.Common.{◌≡◌, ◌<◌, ◌^◌, length, refl, sym, ap, subst, arith}
use Rattle.alp_files.specs.declared.reply.Reply.{Reply}
use Rattle.alp_journal.specs.Answered.{entries_limit}
use Rattle.alp_journal.specs.declared.event.Event.{Event}
use Rattle.alp_node.specs.NodeStates.{NodeState}
use Rattle.alp_node.specs.Orders.{order_of}
use Rattle.alp_node.specs.Sessions.{session_at}
use Rattle.alp_rpc.specs.Replies.{IsSendable}
use Rattle.alp_rpc.specs.declared.frame.Request.{Request}
use Rattle.alp_vault.specs.declared.vault.Vault.{Ghosts}
use Rattle.alp_cluster.specs.Exchanges.{event_of}
use Rattle.alp_cluster.specs.Servers.{IsOn, HasStepped, Steps}
use Rattle.alp_cluster.proofs.DeskLemmas.{told_sendable}

module _ {V : Type 0} (G : Ghosts V) (n m : NodeState V) where
  pub steps_epoch : (b : Bool) (e : Event) (r : Option Reply) → Steps G b n m e r → m.kept.epoch ≡ n.kept.epoch
  steps_epoch true e r shut = ap (λ (z : NodeState V). z.kept.epoch) shut.same
  steps_epoch false e r stepped = stepped.epoch

  -- a server that is up makes its entry at a place that fits
  pub steps_place : (b : Bool) (e : Event) (r : Option Reply) → Steps G b n m e r → b ≡ false → length n.journal < 2 ^ 32
  steps_place true e r shut up = cc
  steps_place false e r stepped up = (let room : length n.journal < entries_limit = stepped.room in omega (arith, room))

  -- its reply has a frame
  pub asked_sendable : (q : Request) (r : Option Reply) → IsOn G n → Steps G n.kept.is_down n m (event_of q) r → IfSome r IsSendable
  asked_sendable q r on = go n.kept.is_down refl
    where
      answered : (b : Bool) → m.kept.is_down ≡ b → n.kept.is_down ≡ false → HasStepped G n m (event_of q) r → IfSome r IsSendable
      answered true down up h = subst (λ (x : Option Reply). IfSome x IsSendable) (sym (h.closes down)) tt
      answered false goes up h =
          told_sendable n.kept m.kept h.on.kept.ready.clock (on.replies up) (order_of n.kept.epoch q.epoch q.number q.call (session_at n.kept.sessions q.client)) q.client q.epoch q.number q.call r (h.turned goes)

      go : (b : Bool) → n.kept.is_down ≡ b → Steps G b n m (event_of q) r → IfSome r IsSendable
      go true down shut = subst (λ (x : Option Reply). IfSome x IsSendable) (sym shut.reply) tt
      go false up h = answered m.kept.is_down refl up h
