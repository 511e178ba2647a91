-- What a message tells that a process takes.
use Rattle.std.proofs.Common.{◌≡◌, ℕ, ◌^◌, Bool, true, ◌&&◌, not, nat_lt, subst}
use Rattle.pm_base.specs.Stamps.{is_below}
use Rattle.pm_base.specs.declared.rows.Parts.{Parts}
use Rattle.pm_base.specs.declared.stamp.Stamp.{Stamp}
use Rattle.pm_message.specs.Messages.{stamp_of}
use Rattle.pm_message.specs.declared.Message.{Message}
use Rattle.pm_message.specs.declared.Message.TheVariants as message
use Rattle.pm_clp.specs.Clps.{ClpState, Hub, way_of}
use Rattle.pm_clp.specs.Kept.{TurnsUpTo}
use Rattle.pm_clp.specs.Takes.{fits, has_agents, has_low_turns, has_var, is_here, is_linked, is_port, takes}
use Rattle.pm_clp.proofs.Turns.{both, low_turns}

module _ (h : Hub) (s : ClpState) (from : ℕ) where
  -- a Move that fits has low turns
  pub move_turns : (m : Message) (v : ℕ) (t : Stamp) (r : Parts) → m ≡ message.Move v t r → fits h s from m ≡ true
      → TurnsUpTo (2 ^ 32) r
  move_turns m v t r is f =
      let e : fits h s from (message.Move v t r) ≡ true = subst (λ z. fits h s from z ≡ true) is f in
      let there : Bool = has_var h v && not (is_here (way_of v s)) in
      let from_port = both there (is_port h from && (has_agents h r && has_low_turns r)) e in
      let low = both (is_port h from) (has_agents h r && has_low_turns r) from_port.1 in
      low_turns r (both (has_agents h r) (has_low_turns r) low.1).1

  -- a message that is taken fits
  pub takes_fits : (made : ℕ) (m : Message) → takes h made s from m ≡ true → fits h s from m ≡ true
  takes_fits made m e =
      let linked : Bool = nat_lt made 20000000 && is_linked h from in
      (both (not (is_below (stamp_of m) s.line)) (fits h s from m)
      (both linked (not (is_below (stamp_of m) s.line) && fits h s from m) e).1).1
