-- What a contract sees of the two ends of a link.
use Rattle.std.specs.Prelude.{◌≡◌, List, [], ◌∷◌, ◌++◌, length}
use mathlib.Core.List.{IsPrefix}
use denote.RawPtr.{Ptr}
use Rattle.rtrb.specs.Shared.{Names}
use Rattle.std.specs.declared.alloc.Global.{Global}
use Rattle.pm_links.specs.Waits.{but_last}
use Rattle.rtrb.specs.Ring as ring
use Rattle.pm_links.specs.declared.out_end.OutEnd.{OutEnd}
use Rattle.pm_links.specs.declared.in_end.InEnd.{InEnd}

-- one link: where its ring lies, and the names of the ring's two sides
abbrev pub Link : Type 0
Link = Ptr × Ptr × Names × Global

module _ {T : Type 0} where
  -- all that was sent, oldest first: what went to the ring, and the backlog behind it
  abbrev pub sent : OutEnd T → List T
  sent out = ring.sent out.pipe ++ out.backlog.items

  -- all that was handed out, oldest first: what came out of the ring but for what waits
  abbrev pub received : InEnd T → List T
  received inn = but_last (length inn.drawn.items) (ring.received inn.pipe)

  -- what has come to this end and was not handed out yet, oldest first
  abbrev pub waiting : InEnd T → List T
  waiting inn = inn.drawn.items

  -- which link an end that sends is of
  abbrev pub out_link : OutEnd T → Link
  out_link out = (out.pipe.end.words, out.pipe.end.slots, out.pipe.end.names, out.pipe.end.heap)

  -- which link an end that receives is of
  abbrev pub in_link : InEnd T → Link
  in_link inn = (inn.pipe.end.words, inn.pipe.end.slots, inn.pipe.end.names, inn.pipe.end.heap)

  -- the two ends of one link
  abbrev pub IsLink : OutEnd T → InEnd T → Type 0
  IsLink out inn = in_link inn ≡ out_link out

  -- nothing was sent between a and b, which are one end
  abbrev pub SentSame : OutEnd T → OutEnd T → Type 0
  SentSame a b = (out_link b ≡ out_link a) × (sent b ≡ sent a)

  -- nothing was handed out between a and b, which are one end; what waits may have grown at its end
  abbrev pub Grew : InEnd T → InEnd T → Type 0
  Grew a b = (in_link b ≡ in_link a) × (received b ≡ received a) × IsPrefix (waiting a) (waiting b)

  -- x was handed out, the first of what waited or, where nothing waited, of what came
  abbrev pub Handed : T → InEnd T → InEnd T → Type 0
  Handed x a b = (received b ≡ received a ++ x ∷ []) × IsPrefix (waiting a) (x ∷ waiting b)

  -- nothing waited, nothing waits, and nothing was handed out
  abbrev pub NothingWaits : InEnd T → InEnd T → Type 0
  NothingWaits a b = (received b ≡ received a) × (waiting a ≡ []) × (waiting b ≡ [])
