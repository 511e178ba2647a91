-- The text of a journal.
use Rattle.std.specs.Prelude.{◌≡◌, ◌≢◌, ℕ, ◌+◌, ◌<◌, ◌^◌, List, [], ◌++◌, length, codes, decimal}
use Rattle.std.specs.List.{AllByRecursion, flat_map}
use Rattle.pm_base.specs.declared.run.Event.{Event}
use Rattle.pm_base.specs.declared.run.Event.TheVariants.{Deliver, Commit}
use Rattle.pm_base.specs.declared.stamp.Line.TheVariants.{At, End}

-- `A B` and a line feed
abbrev pub pair_text : ℕ → ℕ → List ℕ
pair_text a b = decimal a ++ (codes " " ++ (decimal b ++ codes "\n"))

-- the line of an event: `#j d TO FROM`, `#j c TIME AGENT` or `#j c end`
abbrev pub event_line : Event → List ℕ
event_line (Deliver to from) = codes "#j d " ++ pair_text to from
event_line (Commit (At s)) = codes "#j c " ++ pair_text s.time s.agent
event_line (Commit End) = codes "#j c end\n"

-- the lines of a journal's events
abbrev pub journal_text : List Event → List ℕ
journal_text events = flat_map event_line events

-- the event's numbers fit their types
abbrev pub IsWritable : Event → Type 0
IsWritable (Deliver to from) = (to < 2 ^ 32) × (from < 2 ^ 32)
IsWritable (Commit (At s)) = (s.time < 2 ^ 64) × (s.agent < 2 ^ 32)
IsWritable (Commit End) = Unit {0}

-- the lines of n - 1 events, and then more, that begins with the line of no event
pub record IsFirstFault (n : ℕ) (bytes : List ℕ) : Type 0 where
  pub before : List Event
  pub rest : List ℕ
  pub written : AllByRecursion IsWritable before
  pub cut : bytes ≡ journal_text before ++ rest
  pub number : n ≡ length before + 1
  pub more : rest ≢ []
  pub faulty : (e : Event) (after : List ℕ) → IsWritable e → rest ≢ event_line e ++ after
