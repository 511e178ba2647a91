-- A communication process to which nothing has come.
use Rattle.std.specs.Prelude.{◌^◌, ◌≡◌, ◌<◌, false, length}
use Rattle.pm_base.specs.Layouts.{IsLayout, var_count}
use Rattle.pm_clp.specs.Clps.{first_clp}
use Rattle.pm_clp.specs.Views.{ClpView, hub_of}
use Rattle.pm_clp.specs.declared.firsts.ClpParts.{ClpParts}

-- the process that these parts make: the first state at its place, nothing delivered, not spoilt
abbrev pub first_view : ClpParts → ClpView
first_view p = record {
  hub = hub_of p.ports p.to_agents p.layout;
  clp = first_clp (hub_of p.ports p.to_agents p.layout) p.ways p.values p.move_after;
  limit = 2 ^ 32;
  made = 0;
  spoilt = false;
}
