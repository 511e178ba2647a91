-- A calm run: nothing is ever rolled back in it.
use Rattle.std.specs.Prelude.{ℕ, false, ◌≡◌, ◌⊎◌, ◌≤◌, List, [], ◌∷◌, Some, true}
use Rattle.pm_base.specs.declared.rows.GiveRow.{GiveRow}
use Rattle.pm_base.specs.declared.run.Event.{Event}
use Rattle.pm_base.specs.declared.run.Event.TheVariants as event
use Rattle.pm_base.specs.declared.stamp.Line.TheVariants as line
use Rattle.pm_base.specs.declared.stamp.Num.{Num}
use Rattle.pm_base.specs.declared.stamp.Stamp.{Stamp}
use Rattle.pm_message.specs.Messages.{stamp_of}
use Rattle.pm_message.specs.declared.Message.{Message}
use Rattle.pm_message.specs.declared.Message.TheVariants as message
use Rattle.pm_model.specs.Entries.{run_below}
use Rattle.pm_model.specs.Runs.{sequential_run}
use Rattle.pm_plan.specs.declared.plan.Plan.{Plan}
use Rattle.pm_saved.specs.Spots.{Spot, find}
use Rattle.pm_sim.specs.Journals.{AtLeast, made}
use Rattle.pm_sim.specs.Looks.{agent_of}
use Rattle.pm_sim.specs.Sims.{In}
use Rattle.pm_sim.specs.Worlds.{Mail, Process, Taken, World, after_event, after_events, commit, committed, first_world, is_legal_run, least_line, mail, process, take_from}
use Rattle.pm_sim.specs.Worlds.Process.{AtAgent}
use Rattle.pm_calm.specs.Lowest.{PartOfLowest, lowest}

-- a fact holds of each world along a run, the first and the last one too
abbrev pub EachWorld : (World → Type 0) → Plan → World → List Event → Type 0
EachWorld P p w [] = P w
EachWorld P p w (e ∷ es) = P w × EachWorld P p (after_event p w e) es

-- a fact holds of each delivery along a run: of the world before it, the receiver and the message
abbrev pub EachDelivery : (World → Process → Message → Type 0) → Plan → World → List Event → Type 0
EachDelivery P p w [] = Unit {0}
EachDelivery P p w (event.Deliver to from ∷ es) =
    ((t : Taken) → take_from (process p to) (process p from) w.links ≡ Some t → P w (process p to) t.message)
    × EachDelivery P p (after_event p w (event.Deliver to from)) es
EachDelivery P p w (event.Commit l ∷ es) = EachDelivery P p (commit w l) es

-- no Cut is on its way
abbrev pub NoCut : World → Type 0
NoCut w = (x : Mail) → In x (mail w.links) → (n : Num) (s : Stamp) (v : ℕ) → x.message ≡ message.Cut n s v → ⊥

-- every message on its way but a Wake has the moment of the line
abbrev pub LineStamps : World → Type 0
LineStamps w = (x : Mail) → In x (mail w.links)
    → ((n : Num) × (s : Stamp) × (x.message ≡ message.Wake n s)) ⊎ (w.line ≡ line.At (stamp_of x.message))

-- what holds of each world
abbrev pub CalmWorld : World → Type 0
CalmWorld w = NoCut w × LineStamps w

-- the message has the least moment of all on their way, and that is the line's
abbrev pub TakesLeast : World → Message → Type 0
TakesLeast w m = (least_line w ≡ line.At (stamp_of m)) × (w.line ≡ line.At (stamp_of m))

-- a Give that an agent takes is for a sense that isn't complete
abbrev pub GivesOpen : World → Process → Message → Type 0
GivesOpen w to m = (a : ℕ) (g : GiveRow) → to ≡ AtAgent a → m ≡ message.Give g
    → (x : Spot) × (find g.num (agent_of w a).steps ≡ Some x) × (x.sense.complete ≡ false)

-- what holds of each delivery
abbrev pub CalmDelivery : World → Process → Message → Type 0
CalmDelivery w to m = TakesLeast w m × GivesOpen w to m

-- what holds along a run: of each world, of each delivery, of each Commit
pub record IsCalm (p : Plan) (w : World) (es : List Event) : Type 0 where
  pub worlds : EachWorld CalmWorld p w es
  pub deliveries : EachDelivery CalmDelivery p w es
  pub commits : AtLeast p w es

-- the lowest run, and each list of events that it begins with, is legal
abbrev pub LowestIsLegal : ℕ → Plan → List Event → Type 0
LowestIsLegal budget p j = PartOfLowest budget p j → is_legal_run p (first_world p) j ≡ true

-- the lowest run, and each list of events that it begins with, is calm
abbrev pub LowestIsCalm : ℕ → Plan → List Event → Type 0
LowestIsCalm budget p j = PartOfLowest budget p j → IsCalm p (first_world p) j

-- how a run ends: with no message left and all committed, or with its budget spent and a message left
abbrev pub EndsAt : ℕ → List Event → World → Type 0
EndsAt budget j w = ((made j ≤ budget) × (mail w.links ≡ []) × (w.line ≡ line.End))
    ⊎ ((made j ≡ budget) × (mail w.links ≡ [] → ⊥))

-- how the lowest run ends
abbrev pub LowestEnds : ℕ → Plan → Type 0
LowestEnds budget p = EndsAt budget (lowest budget p) (after_events p (first_world p) (lowest budget p))

-- what a run that begins the lowest one has committed is the sequential run below its line, and all of it at the end
pub record CommitsSequential (p : Plan) (j : List Event) : Type 0 where
  pub below : committed p j ≡ run_below p (after_events p (first_world p) j).line
  pub all : (after_events p (first_world p) j).line ≡ line.End → committed p j ≡ sequential_run p

-- so it is of the lowest run, and of each list of events that it begins with
abbrev pub LowestCommits : ℕ → Plan → List Event → Type 0
LowestCommits budget p j = PartOfLowest budget p j → CommitsSequential p j
