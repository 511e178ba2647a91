-- What contracts see of the ends of a process's links.
use Rattle.std.specs.Prelude.{ℕ, ◌≡◌, ◌==◌, if◌then◌else◌, List, [], ◌∷◌, ◌++◌, map, set, Option, Some, None}
use Rattle.std.specs.List.{flat_map}
use Rattle.pm_base.specs.declared.stamp.Stamp.{Stamp}
use Rattle.pm_links.specs.Links.{Link}
use Rattle.pm_message.specs.Messages.{stamp_of}
use Rattle.pm_ends.specs.Numbers.{Begins, Pairs, nth}
use Rattle.pm_ends.specs.declared.post.Post.{Post}

-- an end that receives: who sends there, the place of the other end among the sender's, the link, what was handed out
-- so far, and what waits
pub record Inn : Type 0 where
  pub from : ℕ
  pub slot : ℕ
  pub link : Link
  pub received : List Post
  pub waiting : List Post

-- an end that sends: to whom, the link, and what was sent so far
pub record Out : Type 0 where
  pub to : ℕ
  pub link : Link
  pub sent : List Post

-- who sends to these ends
abbrev pub froms : List Inn → List ℕ
froms xs = map (λ (x : Inn). x.from) xs

-- to whom these ends send
abbrev pub tos : List Out → List ℕ
tos xs = map (λ (x : Out). x.to) xs

-- what was received from that process
abbrev pub received_in : List Inn → ℕ → List Post
received_in [] b = []
received_in (x ∷ xs) b = if b == x.from then x.received else received_in xs b

-- what waits from that process
abbrev pub waiting_in : List Inn → ℕ → List Post
waiting_in [] b = []
waiting_in (x ∷ xs) b = if b == x.from then x.waiting else waiting_in xs b

-- what was sent to that process
abbrev pub sent_in : List Out → ℕ → List Post
sent_in [] a = []
sent_in (x ∷ xs) a = if a == x.to then x.sent else sent_in xs a

-- one end: nothing was handed out, and what waits may have grown at its end
pub record Grew (a b : Inn) : Type 0 where
  pub from : b.from ≡ a.from
  pub slot : b.slot ≡ a.slot
  pub link : b.link ≡ a.link
  pub received : b.received ≡ a.received
  pub waiting : Begins a.waiting b.waiting

-- the same at each end
abbrev pub AllGrew : List Inn → List Inn → Type 0
AllGrew xs ys = Pairs Grew xs ys

-- the first item that waits at the end of that place
abbrev pub first_of : List Post → Option Post
first_of [] = None
first_of (x ∷ xs) = Some x

-- of the end at a place, where there is one
abbrev pub first_at : Option Inn → Option Post
first_at None = None
first_at (Some x) = first_of x.waiting

-- the first item at that place was handed out
pub record Took (i : ℕ) (x : Post) (xs ys : List Inn) : Type 0 where
  pub was : Inn
  pub at : nth xs i ≡ Some was
  pub now : Inn
  pub from : now.from ≡ was.from
  pub slot : now.slot ≡ was.slot
  pub link : now.link ≡ was.link
  pub received : now.received ≡ was.received ++ x ∷ []
  pub first : Begins was.waiting (x ∷ now.waiting)
  pub list : ys ≡ set xs i now

-- the ends after an item was sent to that process: the first end that goes there has it; none, where none goes there
abbrev pub sent_to : ℕ → Post → List Out → List Out
sent_to a x [] = []
sent_to a x (o ∷ os) = if a == o.to then record o { sent = o.sent ++ x ∷ [] } ∷ os else o ∷ sent_to a x os

-- the moment of the message
abbrev pub post_stamp : Post → Stamp
post_stamp x = stamp_of x.message

-- the moments of all that waits at these ends
abbrev pub stamps_in : List Inn → List Stamp
stamps_in xs = flat_map (λ (x : Inn). map post_stamp x.waiting) xs

-- to whom an end sends, and its link
abbrev pub out_wire : Out → ℕ × Link
out_wire o = (o.to, o.link)
