-- The ends as they are held.
use Rattle.std.specs.Prelude.{ℕ, ◌≡◌, ◌<◌, ◌≤◌, List, [], ◌∷◌, ◌++◌, length, get_or}
use Rattle.pm_links.specs.Links.{in_link, out_link, received, sent, waiting}
use Rattle.pm_ends.specs.Ends.{Inn, Out}
use Rattle.pm_ends.specs.Numbers.{Begins}
use Rattle.pm_ends.specs.declared.post.Post.{Post}
use Rattle.pm_ends.specs.declared.in_ends.InSide.{InSide}
use Rattle.pm_ends.specs.declared.out_ends.OutSide.{OutSide}

-- an end that receives
abbrev pub inn_of : InSide → Inn
inn_of x = record {
  from = x.from;
  slot = x.slot;
  link = in_link x.end;
  received = received x.end;
  waiting = waiting x.end;
}

-- an end that sends
abbrev pub out_of : OutSide → Out
out_of x = record { to = x.to; link = out_link x.end; sent = sent x.end }

-- x was handed out of the end
pub record HandedAt (x : Post) (a b : Inn) : Type 0 where
  pub from : b.from ≡ a.from
  pub slot : b.slot ≡ a.slot
  pub link : b.link ≡ a.link
  pub received : b.received ≡ a.received ++ x ∷ []
  pub first : Begins a.waiting (x ∷ b.waiting)

-- the ends before the place go to processes below that one, and those from the place on don't
pub record IsPlaceOf (to : ℕ) (ends : List OutSide) (at : ℕ) : Type 0 where
  pub below : (i : ℕ) (d : OutSide) → i < at → (get_or ends i d).to < to
  pub rest : (i : ℕ) (d : OutSide) → at ≤ i → i < length ends → to ≤ (get_or ends i d).to
