-- The messages on their way between processes, which are named by their numbers.
use Rattle.std.specs.Prelude.{◌≡◌, ℕ, ◌==◌, ◌&&◌, ◌||◌, Bool, false, not, nat_lt, if◌then◌else◌, List, [], ◌∷◌, ◌++◌}
use Rattle.std.specs.Prelude.{map, drop, Option, Some, None, option_map}
use Rattle.std.specs.List.{flat_map, list_any}
use Rattle.std.specs.Option.{IsSome}
use Rattle.pm_base.specs.Stamps.{stamp_lt}
use Rattle.pm_base.specs.declared.stamp.Stamp.{Stamp}
use Rattle.pm_message.specs.Messages.{stamp_of}
use Rattle.pm_message.specs.declared.Message.{Message}

-- a link: its receiver, its sender, and the messages on it, the next to be taken first
pub record Link : Type 0 where
  pub to : ℕ
  pub from : ℕ
  pub messages : List Message

-- the link goes to that process from that one
abbrev pub is_link : ℕ → ℕ → Link → Bool
is_link to from l = l.to == to && l.from == from

-- whether there is such a link
abbrev pub has_link : ℕ → ℕ → List Link → Bool
has_link to from ls = list_any (is_link to from) ls

-- a link without a message
abbrev pub empty_link : ℕ → ℕ → Link
empty_link to from = record { to = to; from = from; messages = [] }

-- the links with that one too, behind the others, where it isn't there yet
abbrev pub opened : ℕ → ℕ → List Link → List Link
opened to from ls = if has_link to from ls then ls else ls ++ empty_link to from ∷ []

-- the messages on that link; none where it isn't there
abbrev pub waiting : ℕ → ℕ → List Link → List Message
waiting to from [] = []
waiting to from (l ∷ ls) = if is_link to from l then l.messages else waiting to from ls

-- the first of these messages, where there is one
abbrev pub first_of : List Message → Option Message
first_of [] = None
first_of (m ∷ ms) = Some m

-- a message goes to the end of its link, which is opened where it isn't there
abbrev pub posted : ℕ → ℕ → Message → List Link → List Link
posted to from m [] = record { to = to; from = from; messages = m ∷ [] } ∷ []
posted to from m (l ∷ ls) =
    if is_link to from l then record l { messages = l.messages ++ m ∷ [] } ∷ ls else l ∷ posted to from m ls

-- the first message of a link is taken off it
abbrev pub taken : ℕ → ℕ → List Link → List Link
taken to from [] = []
taken to from (l ∷ ls) =
    if is_link to from l then record l { messages = drop 1 l.messages } ∷ ls else l ∷ taken to from ls

-- the moments of all messages on their way
abbrev pub moments : List Link → List Stamp
moments ls = flat_map (λ (l : Link). map stamp_of l.messages) ls

-- a message of one sender comes before one of another: by moment, then by sender
abbrev pub comes_before : Stamp → ℕ → Stamp → ℕ → Bool
comes_before s g t f = stamp_lt s t || (not (stamp_lt t s) && nat_lt g f)

-- the same, of moments that may not be there: then it doesn't
abbrev pub is_before_at : Option Stamp → ℕ → Option Stamp → ℕ → Bool
is_before_at None g t f = false
is_before_at (Some s) g None f = false
is_before_at (Some s) g (Some t) f = comes_before s g t f

-- the moment of the first message on that link, where there is one
abbrev pub first_moment : ℕ → ℕ → List Link → Option Stamp
first_moment to from ls = option_map stamp_of (first_of (waiting to from ls))

-- of two links to a process, the first message of the one comes before that of the other
abbrev pub is_before : ℕ → ℕ → ℕ → List Link → Bool
is_before to g from ls = is_before_at (first_moment to g ls) g (first_moment to from ls) from

-- some message is on its way to that process
abbrev pub IsAwaited : ℕ → List Link → Type 0
IsAwaited to ls = (from : ℕ) × IsSome (first_of (waiting to from ls))

-- no message is on its way to it
abbrev pub IsIdle : ℕ → List Link → Type 0
IsIdle to ls = (from : ℕ) → waiting to from ls ≡ []
