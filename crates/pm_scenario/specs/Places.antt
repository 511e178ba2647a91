-- Where the tables of a document stand.
use Rattle.std.specs.Prelude.{[], ◌++◌}
use Rattle.pm_scenario.specs.Forms.{Path, indexed, inside}
use Rattle.pm_scenario.specs.declared.place.Place.{Place}
use Rattle.pm_scenario.specs.declared.place.Place.TheVariants as place

-- what stands before the keys of the table
abbrev pub prefix_of : Place → Path
prefix_of place.Root = []
prefix_of (place.Element prefix key i) = inside (indexed (prefix.now ++ key.now) i)
