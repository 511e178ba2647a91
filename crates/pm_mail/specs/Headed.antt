-- What the fields of a `Mail` hold.
use Rattle.std.specs.Prelude.{◌≡◌, ℕ, ◌==◌, ◌&&◌, Bool, false, Option, Some, None}
use Rattle.pm_base.specs.declared.stamp.Stamp.{Stamp}
use Rattle.pm_mail.specs.Heads.{heads_at, is_in}
use Rattle.pm_mail.specs.Links.{first_moment}
use Rattle.pm_mail.specs.declared.heads.Head.{Head}
use Rattle.pm_mail.specs.declared.mail.Mail.TheInside.{Inside}

-- the head is at that moment, where there is one
abbrev pub leads : Head → Option Stamp → Bool
leads k None = false
leads k (Some s) = s.time == k.stamp.time && s.agent == k.stamp.agent

-- each receiver's heads are exactly the first messages of its links
abbrev pub IsHeaded : Inside → Type 0
IsHeaded m = (to : ℕ) (k : Head) → is_in k (heads_at to m.heads) ≡ leads k (first_moment to k.from m.links)
