-- The first messages of the links to one receiver, in order.
use Rattle.std.specs.Prelude.{◌≡◌, ℕ, suc, ◌==◌, ◌&&◌, ◌||◌, Bool, true, false, if◌then◌else◌, List, [], ◌∷◌}
use Rattle.std.specs.List.{AllByRecursion}
use Rattle.std.specs.BTreeMap.{BTreeMap, get}
use Rattle.std.specs.Ordering.{nat_cmp}
use Rattle.std.specs.Prelude.{Option, Some, None}
use Rattle.pm_mail.specs.Links.{comes_before}
use Rattle.pm_mail.specs.declared.heads.Head.{Head}

-- the two are one head
abbrev pub same : Head → Head → Bool
same a b = a.stamp.time == b.stamp.time && (a.stamp.agent == b.stamp.agent && a.from == b.from)

-- a head is taken before another
abbrev pub goes_before : Head → Head → Bool
goes_before a b = comes_before a.stamp a.from b.stamp b.from

-- the head is one of these
abbrev pub is_in : Head → List Head → Bool
is_in h [] = false
is_in h (x ∷ xs) = same x h || is_in h xs

-- each head is taken before those in front of it
abbrev pub IsFalling : List Head → Type 0
IsFalling [] = Unit {0}
IsFalling (x ∷ xs) = AllByRecursion (λ (y : Head). goes_before y x ≡ true) xs × IsFalling xs

-- how many of these heads stand in front of that one's place
abbrev pub place : Head → List Head → ℕ
place h [] = 0
place h (x ∷ xs) = if goes_before h x then suc (place h xs) else 0

-- these heads; none where there are no such
abbrev pub or_none : Option (List Head) → List Head
or_none None = []
or_none (Some hs) = hs

-- the heads of a receiver
abbrev pub heads_at : ℕ → BTreeMap ℕ (List Head) → List Head
heads_at to m = or_none (get nat_cmp m to)
