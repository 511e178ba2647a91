-- The order of moments, and the lines between them.
use Rattle.std.specs.Prelude.{◌≡◌, ◌<◌, ◌==◌, ◌&&◌, ◌||◌, Bool, true, false, not, nat_lt}
use Rattle.std.specs.Prelude.{◌⊎◌, if◌then◌else◌, List, [], ◌∷◌, Option, Some, None, IfSome}
use Rattle.std.specs.List.{All, Contains}
use Rattle.std.specs.declared.cmp.Ordering.{Ordering}
use Rattle.std.specs.declared.cmp.Ordering.TheVariants.{Less, Equal, Greater}
use Rattle.pm_base.specs.declared.stamp.Interval.{Interval}
use Rattle.pm_base.specs.declared.stamp.Line.{Line}
use Rattle.pm_base.specs.declared.stamp.Line.TheVariants as line
use Rattle.pm_base.specs.declared.stamp.Num.{Num}
use Rattle.pm_base.specs.declared.stamp.Stamp.{Stamp}

-- an order in which of two different values one comes before the other, and never a value before itself
pub record IsStrictOrder {T : Type 0} (lt : T → T → Bool) : Type 0 where
  pub never_itself : (a : T) → lt a a ≡ false
  pub trans : (a b c : T) → lt a b ≡ true → lt b c ≡ true → lt a c ≡ true
  pub same : (a b : T) → lt a b ≡ false → lt b a ≡ false → a ≡ b

-- what a comparison answers, by the test of its order
abbrev pub ordering_by : {T : Type 0} → (T → T → Bool) → T → T → Ordering
ordering_by lt a b = if lt a b then Less else if lt b a then Greater else Equal

-- a moment comes before another: by time, then by agent
abbrev pub IsBefore : Stamp → Stamp → Type 0
IsBefore a b = (a.time < b.time) ⊎ ((a.time ≡ b.time) × (a.agent < b.agent))

-- the test whether a moment comes before another
abbrev pub stamp_lt : Stamp → Stamp → Bool
stamp_lt a b = nat_lt a.time b.time || (a.time == b.time && nat_lt a.agent b.agent)

-- a moment is below a line: it comes before the line's moment, or the line is the end
abbrev pub IsBelow : Stamp → Line → Type 0
IsBelow s (line.At t) = IsBefore s t
IsBelow s line.End = Unit {0}

-- the test whether a moment is below a line
abbrev pub is_below : Stamp → Line → Bool
is_below s (line.At t) = stamp_lt s t
is_below s line.End = true

-- lines by their moments, and the end above every other line
abbrev pub line_lt : Line → Line → Bool
line_lt (line.At s) b = is_below s b
line_lt line.End b = false

-- numbers by agent, then by how many were sent before
abbrev pub num_lt : Num → Num → Bool
num_lt a b = nat_lt a.agent b.agent || (a.agent == b.agent && nat_lt a.seq b.seq)

-- the two are the same number
abbrev pub num_eq : Num → Num → Bool
num_eq a b = a.agent == b.agent && a.seq == b.seq

-- the lesser of a moment and a line
abbrev pub or_lower : Stamp → Line → Line
or_lower s l = if is_below s l then line.At s else l

-- the least of these moments, the end where there is none
abbrev pub least_line_of : List Stamp → Line
least_line_of [] = line.End
least_line_of (s ∷ ss) = or_lower s (least_line_of ss)

-- the line is one of these moments, or the end where there is none
abbrev pub IsOneOf : List Stamp → Line → Type 0
IsOneOf ss (line.At s) = Contains ss s
IsOneOf ss line.End = ss ≡ []

-- the line is one of these moments, the end where there is none, and none of them is below it
pub record IsLeast (stamps : List Stamp) (least : Line) : Type 0 where
  pub found : IsOneOf stamps least
  pub lowest : All (λ s. is_below s least ≡ false) stamps

-- the moment comes after an interval's begin, where it has one
abbrev pub is_after : Option Stamp → Stamp → Bool
is_after None s = true
is_after (Some from) s = stamp_lt from s

-- the moment comes no later than an interval's end, where it has one
abbrev pub is_until : Option Stamp → Stamp → Bool
is_until None s = true
is_until (Some until) s = not (stamp_lt until s)

-- an interval holds a moment: after its begin, and no later than its end
abbrev pub holds : Interval → Stamp → Bool
holds when s = is_after when.from s && is_until when.until s

-- a moment is within an interval, as a fact: the begin comes before it, and the end doesn't
pub record IsWithin (s : Stamp) (when : Interval) : Type 0 where
  pub after : IfSome when.from (λ from. IsBefore from s)
  pub until : IfSome when.until (λ until. IsBefore until s → ⊥)
