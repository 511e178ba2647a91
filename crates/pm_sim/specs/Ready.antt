-- Which messages may be delivered while a window keeps awaited Wakes back.
use Rattle.std.specs.Prelude.{Bool, List, None, Option, Some, [], false, not, true, ℕ, ◌&&◌, ◌++◌, ◌+◌, ◌<◌, ◌∷◌, ◌≡◌, ◌≤◌}
use Rattle.pm_base.specs.Stamps.{num_eq}
use Rattle.pm_base.specs.declared.run.Event.{Event}
use Rattle.pm_base.specs.declared.stamp.Line.{Line}
use Rattle.pm_base.specs.declared.stamp.Num.{Num}
use Rattle.pm_base.specs.declared.stamp.Stamp.{Stamp}
use Rattle.pm_message.specs.declared.Message.{Message}
use Rattle.pm_plan.specs.declared.plan.Plan.{Plan}
use Rattle.pm_alp.specs.declared.agent.Awaited.{Awaited}
use Rattle.pm_sim.specs.Bounds.{between}
use Rattle.pm_sim.specs.Journals.{epoch}
use Rattle.pm_sim.specs.Looks.{agent_of}
use Rattle.pm_sim.specs.Sims.{is_past}
use Rattle.pm_sim.specs.Worlds.{Process, World, after_event, after_events, commit, first_world, is_legal_run, least_line, mail, process}
use Rattle.pm_sim.specs.Worlds.Process.{AtAgent, AtClp}
use Rattle.pm_base.specs.declared.run.Event.TheVariants as event
use Rattle.pm_base.specs.declared.stamp.Line.TheVariants as line
use Rattle.pm_message.specs.declared.Message.TheVariants as message

-- the Wake of this number is the awaited one
abbrev pub awaits : Num → Option Awaited → Bool
awaits n None = false
awaits n (Some x) = num_eq n x.num

-- a Wake that its agent awaits and that isn't below the window
abbrev pub kept_back : Option Line → Option Awaited → Message → Bool
kept_back None o m = false
kept_back (Some k) o (message.Wake n s) = awaits n o && not (is_past k s)
kept_back (Some k) o (message.Ask n s q) = false
kept_back (Some k) o (message.Put r_n r_t v r_c) = false
kept_back (Some k) o (message.Cut r_n r_t v) = false
kept_back (Some k) o (message.Give g) = false
kept_back (Some k) o (message.Finish n s) = false
kept_back (Some k) o (message.Move v s r) = false
kept_back (Some k) o (message.Grow k' s u w) = false

-- the window of each process keeps this message back
abbrev pub held_back : World → (Process → Option Line) → Process → Message → Bool
held_back w windows (AtClp c) m = false
held_back w windows (AtAgent a) m = kept_back (windows (AtAgent a)) (agent_of w a).awaited m

-- the window is above the line, or the line is the end
abbrev pub IsAbove : Line → Line → Type 0
IsAbove k (line.At s) = is_past k s ≡ true
IsAbove k line.End = Unit {0}

-- a window that keeps no message of least stamp back
abbrev pub WindowOk : World → Option Line → Type 0
WindowOk w None = Unit {0}
WindowOk w (Some k) = IsAbove k (least_line w)

-- the first message of a link that may be delivered
pub record Ready (w : World) (windows : Process → Option Line) : Type 0 where
  pub to : Process
  pub from : Process
  pub message : Message
  pub rest : List Message
  pub first : between to from w.links ≡ message ∷ rest
  pub free : held_back w windows to message ≡ false

-- no link's first message may be delivered
abbrev pub IsIdle : World → (Process → Option Line) → Type 0
IsIdle w windows =
    (to from : Process) (m : Message) (rest : List Message)
    → between to from w.links ≡ m ∷ rest → held_back w windows to m ≡ true

-- the window of an epoch that begins at this line
abbrev pub window_at : ℕ → Line → Line
window_at W (line.At s) = line.At (record { time = s.time + W; agent = 0 })
window_at W line.End = line.End

-- each Deliver takes a letter that the window doesn't keep back
abbrev pub InWindow : ℕ → Plan → World → List Event → Type 0
InWindow W p w [] = Unit {0}
InWindow W p w (event.Deliver to from ∷ es) =
    ((m : Message) (rest : List Message) → between (process p to) (process p from) w.links ≡ m ∷ rest
    → held_back w (λ k. Some (window_at W w.line)) (process p to) m ≡ false)
    × InWindow W p (after_event p w (event.Deliver to from)) es
InWindow W p w (event.Commit l ∷ es) = InWindow W p (commit w l) es

-- where a message is on its way, some link's first message may be delivered, whatever windows above the line's time the
-- processes have
abbrev pub SomeIsReady : Plan → List Event → Type 0
SomeIsReady p es =
    is_legal_run p (first_world p) es ≡ true →
    (mail (after_events p (first_world p) es).links ≡ [] → ⊥) →
    (windows : Process → Option Line) →
    ((k : Process) → WindowOk (after_events p (first_world p) es) (windows k)) →
    Ready (after_events p (first_world p) es) windows

-- where each process has such a window and finds no first message that may be delivered, no message is left
abbrev pub IdleIsDone : Plan → List Event → Type 0
IdleIsDone p es =
    is_legal_run p (first_world p) es ≡ true →
    (windows : Process → Option Line) →
    ((k : Process) → WindowOk (after_events p (first_world p) es) (windows k)) →
    IsIdle (after_events p (first_world p) es) windows →
    mail (after_events p (first_world p) es).links ≡ []

-- a window of a width of at least 1 behind the least line is such a window; so is each of a time past the horizon
pub record WindowsOk (p : Plan) (es : List Event) : Type 0 where
  pub ahead : (width : ℕ) → 1 ≤ width
      → WindowOk (after_events p (first_world p) es) (Some (window_at width (after_events p (first_world p) es).line))
  pub past : (s : Stamp) → p.horizon < s.time → WindowOk (after_events p (first_world p) es) (Some (line.At s))

-- so it is in each world of a legal run whose line is its least line and that has a message
abbrev pub WindowsAreOk : Plan → List Event → Type 0
WindowsAreOk p es =
    is_legal_run p (first_world p) es ≡ true →
    (after_events p (first_world p) es).line ≡ least_line (after_events p (first_world p) es) →
    (mail (after_events p (first_world p) es).links ≡ [] → ⊥) →
    WindowsOk p es

-- an epoch's deliveries in its window after a journal's in theirs; and an awaited Wake that a window of this width
-- doesn't
-- keep back is of a time below the line's and the width
pub record WindowsStay (width : ℕ) (p : Plan) (j ds : List Event) : Type 0 where
  pub added : InWindow width p (first_world p) j → InWindow width p (after_events p (first_world p) j) ds
      → InWindow width p (first_world p) (j ++ epoch p (after_events p (first_world p) j) ds)
  pub low : (w : World) (a : ℕ) (l s : Stamp) (x : Awaited) → w.line ≡ line.At l → (agent_of w a).awaited ≡ Some x
      → held_back w (λ k. Some (window_at width w.line)) (AtAgent a) (message.Wake x.num s) ≡ false
      → s.time < l.time + width

-- so it is for every journal
abbrev pub WindowsAdd : ℕ → Plan → List Event → List Event → Type 0
WindowsAdd width p j ds = WindowsStay width p j ds
