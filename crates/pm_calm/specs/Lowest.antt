-- The lowest run: it always delivers the message of least stamp, behind a Commit at the least line wherever that rose.
use Rattle.std.specs.Prelude.{ℕ, zero, suc, ◌-◌, ◌<◌, ◌≤◌, ◌==◌, nat_lt, Bool, true, false, not, ◌&&◌, ◌||◌, ◌≡◌}
use Rattle.std.specs.Prelude.{if◌then◌else◌, List, [], ◌∷◌, ◌++◌, Option, Some, None}
use Rattle.pm_base.specs.Stamps.{stamp_lt}
use Rattle.pm_base.specs.declared.run.Event.{Event}
use Rattle.pm_base.specs.declared.run.Event.TheVariants as event
use Rattle.pm_base.specs.declared.stamp.Line.TheVariants as line
use Rattle.pm_message.specs.Messages.{stamp_of}
use Rattle.pm_message.specs.declared.Message.{Message}
use Rattle.pm_plan.specs.declared.plan.Plan.{Plan}
use Rattle.pm_sim.specs.Bounds.{between}
use Rattle.pm_sim.specs.Journals.{made}
use Rattle.pm_sim.specs.Reached.{Reached}
use Rattle.pm_sim.specs.Routings.{unmoved}
use Rattle.pm_sim.specs.Worlds.{Link, Mail, Process, World, after_event, after_events, commit, deliver, first_world, is_legal_run, least_line, line_le, mail, number, process}

-- the message is a Move
abbrev pub is_moving : Message → Bool
is_moving m = not (unmoved m)

-- by receiver, then by sender
abbrev pub link_before : ℕ → ℕ → ℕ → ℕ → Bool
link_before to from t f = nat_lt to t || (to == t && nat_lt from f)

-- of two messages of one moment, a Move first, then by link
abbrev pub moves_before : Bool → Bool → Bool → Bool
moves_before a b by_link = (a && not b) || (not (b && not a) && by_link)

-- the first message of the link to `to` from `from` is taken before that of the link to `t` from `f`: by moment, of one
-- moment a Move first, then by link
abbrev pub taken_before : ℕ → ℕ → Message → ℕ → ℕ → Message → Bool
taken_before to from m t f n =
    stamp_lt (stamp_of m) (stamp_of n)
    || (not (stamp_lt (stamp_of n) (stamp_of m))
    && moves_before (is_moving m) (is_moving n) (link_before to from t f))

-- the same, of messages with their processes
abbrev pub lower : Plan → Mail → Mail → Bool
lower p x y =
    taken_before (number p x.to) (number p x.from) x.message (number p y.to) (number p y.from) y.message

-- the first message of a link
abbrev pub head_of : Process → Process → List Message → Option Mail
head_of to from [] = None
head_of to from (m ∷ ms) = Some (record { to = to; from = from; message = m })

-- the one of the two that is taken first
abbrev pub lower_of : Plan → Option Mail → Option Mail → Option Mail
lower_of p None b = b
lower_of p (Some x) None = Some x
lower_of p (Some x) (Some y) = if lower p y x then Some y else Some x

-- of the first messages of these links the one that is taken first
abbrev pub lowest_in : Plan → List Link → Option Mail
lowest_in p [] = None
lowest_in p (l ∷ ls) = lower_of p (head_of l.to l.from l.messages) (lowest_in p ls)

-- of all links' first messages the one that is taken first, none where no message is on its way
abbrev pub least_mail : Plan → World → Option Mail
least_mail p w = lowest_in p w.links

-- a message's link: its receiver's number, then its sender's
abbrev pub ends_of : Plan → Option Mail → Option (ℕ × ℕ)
ends_of p None = None
ends_of p (Some x) = Some (number p x.to, number p x.from)

-- the link whose first message is taken first
abbrev pub least_link : Plan → World → Option (ℕ × ℕ)
least_link p w = ends_of p (least_mail p w)

-- a Commit comes first: no event was made yet, or the least line is above the world's
abbrev pub commits : Bool → World → Bool
commits begun w = not begun || not (line_le (least_line w) w.line)

-- that Commit
abbrev pub opening : Bool → World → List Event
opening true w = event.Commit (least_line w) ∷ []
opening false w = []

-- the world behind it
abbrev pub opened : Bool → World → World
opened true w = commit w (least_line w)
opened false w = w

-- the run from a world with this budget of deliveries, the least message given; `begun` says that an event was made
abbrev pub lowest_from : ℕ → Plan → World → Bool → Option Mail → List Event
lowest_from budget p w begun None = event.Commit line.End ∷ []
lowest_from zero p w begun (Some x) = opening (commits begun w) w
lowest_from (suc budget) p w begun (Some x) =
    let u : World = opened (commits begun w) w in
    let next : World = deliver p u x.to x.from in
    opening (commits begun w) w
    ++ event.Deliver (number p x.to) (number p x.from) ∷ lowest_from budget p next true (least_mail p next)

-- the run from a world with this budget of deliveries
abbrev pub lowest_on : ℕ → Plan → World → Bool → List Event
lowest_on budget p w begun = lowest_from budget p w begun (least_mail p w)

-- the lowest run of a plan with this budget of deliveries
abbrev pub lowest : ℕ → Plan → List Event
lowest budget p = lowest_on budget p (first_world p) false

-- these events are the lowest run with this budget
abbrev pub LowestRun : ℕ → Plan → List Event → Type 0
LowestRun budget p j = j ≡ lowest budget p

-- the lowest run with this budget begins with these events
abbrev pub PartOfLowest : ℕ → Plan → List Event → Type 0
PartOfLowest budget p j = (rest : List Event) × (j ++ rest ≡ lowest budget p)

-- an event was made
abbrev pub is_begun : List Event → Bool
is_begun [] = false
is_begun (e ∷ es) = true

-- these events, of which n are deliveries, lead to this world, and the lowest run with this budget goes on there
pub record Underway (budget : ℕ) (p : Plan) (n : ℕ) (w : World) (j : List Event) : Type 0 where
  pub legal : is_legal_run p (first_world p) j ≡ true
  pub world : w ≡ after_events p (first_world p) j
  pub made : made j ≡ n
  pub within : n ≤ budget
  pub goes_on : j ++ lowest_on (budget - n) p w (is_begun j) ≡ lowest budget p

-- how the lowest run begins, goes on and ends
pub record LowestSteps (budget : ℕ) (p : Plan) : Type 0 where
  pub first : Underway budget p 0 (first_world p) []
  pub committed : (n : ℕ) (w : World) (j : List Event) → Underway budget p n w j → (mail w.links ≡ [] → ⊥)
      → commits (is_begun j) w ≡ true
      → Underway budget p n (commit w (least_line w)) (j ++ event.Commit (least_line w) ∷ [])
  pub delivered : (n : ℕ) (w : World) (j : List Event) (to from : ℕ) → Underway budget p n w j
      → commits (is_begun j) w ≡ false → n < budget → least_link p w ≡ Some (to, from)
      → Underway budget p (suc n) (after_event p w (event.Deliver to from)) (j ++ event.Deliver to from ∷ [])
  pub done : (n : ℕ) (w : World) (j : List Event) → Underway budget p n w j → mail w.links ≡ []
      → LowestRun budget p (j ++ event.Commit line.End ∷ [])
  pub spent : (w : World) (j : List Event) → Underway budget p budget w j → (mail w.links ≡ [] → ⊥)
      → commits (is_begun j) w ≡ false → LowestRun budget p j
  pub part : (n : ℕ) (w : World) (j : List Event) → Underway budget p n w j → PartOfLowest budget p j
  pub reached : (n : ℕ) (w : World) (j : List Event) → Underway budget p n w j → Reached p n w

-- the link has a first message, and none of another link is taken before it
pub record IsFirstOfAll (p : Plan) (w : World) (to from : ℕ) : Type 0 where
  pub message : Message
  pub rest : List Message
  pub first : between (process p to) (process p from) w.links ≡ message ∷ rest
  pub least : (t f : ℕ) (m : Message) (more : List Message)
      → between (process p t) (process p f) w.links ≡ m ∷ more → taken_before t f m to from message ≡ false

-- that link is the least one; there is none exactly where no message is on its way
pub record LeastLinkIs (p : Plan) (w : World) : Type 0 where
  pub some : (to from : ℕ) → IsFirstOfAll p w to from → least_link p w ≡ Some (to, from)
  pub none : mail w.links ≡ [] → least_link p w ≡ None
  pub only_none : least_link p w ≡ None → mail w.links ≡ []

-- so it is in each world of a legal run
abbrev pub LeastLinkOf : ℕ → Plan → World → Type 0
LeastLinkOf n p w = Reached p n w → LeastLinkIs p w
