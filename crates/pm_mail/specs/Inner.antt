-- What the fields of a `Mail` hold.
use Rattle.std.specs.Prelude.{◌≡◌, ℕ, zero, suc, ◌++◌, drop, if◌then◌else◌, List, [], ◌∷◌, map, Option, Some, None, option_map}
use Rattle.std.specs.BTreeMap.{get}
use Rattle.std.specs.declared.cmp.Ordering.{Ordering}
use Rattle.std.specs.Ordering.{nat_cmp, ordering_then}
use Rattle.pm_base.specs.Stamps.{or_lower}
use Rattle.pm_base.specs.declared.stamp.Line.{Line}
use Rattle.pm_base.specs.declared.stamp.Stamp.{Stamp}
use Rattle.pm_message.specs.declared.Message.{Message}
use Rattle.pm_mail.specs.Links.{Link, is_link}
use Rattle.pm_mail.specs.declared.lane.Ends.{Ends}
use Rattle.pm_mail.specs.declared.lane.Lane.{Lane}
use Rattle.pm_mail.specs.declared.lanes.Lanes.TheInside.{Inside}

-- the link that a lane keeps
abbrev pub link_of : Lane → Link
link_of l = record { to = l.ends.to; from = l.ends.from; messages = l.waiting.items }

-- the links, in the order in which they were opened
abbrev pub links_of : Inside → List Link
links_of m = map link_of m.lanes.items

-- what comparing two pairs of ends answers
abbrev pub ends_cmp : Ends → Ends → Ordering
ends_cmp a b = ordering_then (nat_cmp a.to b.to) (nat_cmp a.from b.from)

-- the place of the first link to that process from that one
abbrev pub place_of : ℕ → ℕ → List Link → Option ℕ
place_of to from [] = None
place_of to from (l ∷ ls) = if is_link to from l then Some 0 else option_map suc (place_of to from ls)

-- the messages on the link of that place; none past the last one
abbrev pub messages_at : ℕ → List Link → List Message
messages_at n [] = []
messages_at zero (l ∷ ls) = l.messages
messages_at (suc n) (l ∷ ls) = messages_at n ls

-- a message goes to the end of the link of that place
abbrev pub posted_at : ℕ → Message → List Link → List Link
posted_at n m [] = []
posted_at zero m (l ∷ ls) = record l { messages = l.messages ++ m ∷ [] } ∷ ls
posted_at (suc n) m (l ∷ ls) = l ∷ posted_at n m ls

-- the first message of the link of that place is taken off it
abbrev pub taken_at : ℕ → List Link → List Link
taken_at n [] = []
taken_at zero (l ∷ ls) = record l { messages = drop 1 l.messages } ∷ ls
taken_at (suc n) (l ∷ ls) = l ∷ taken_at n ls

-- the least of a line and these moments
abbrev pub lowered : Line → List Stamp → Line
lowered l [] = l
lowered l (s ∷ ss) = lowered (or_lower s l) ss

-- the index knows the place of each link, and of no other
abbrev pub IsIndexed : Inside → Type 0
IsIndexed m = (e : Ends) → get ends_cmp m.places e ≡ place_of e.to e.from (links_of m)
