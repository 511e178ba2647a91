-- The least moments of cells.
use Rattle.std.specs.Prelude.{List, if◌then◌else◌}
use Rattle.std.specs.List.{flat_map}
use Rattle.pm_base.specs.Stamps.{line_lt}
use Rattle.pm_base.specs.declared.stamp.Line.{Line}
use Rattle.pm_base.specs.declared.stamp.Stamp.{Stamp}
use Rattle.pm_ends.specs.Ends.{stamps_in}
use Rattle.pm_cell.specs.Helds.{Held}

-- the lesser of two lines
abbrev pub lesser : Line → Line → Line
lesser l k = if line_lt k l then k else l

-- the moments of all that waits at cells
abbrev pub stamps_of : List Held → List Stamp
stamps_of hs = flat_map (λ (h : Held). stamps_in h.inns) hs
