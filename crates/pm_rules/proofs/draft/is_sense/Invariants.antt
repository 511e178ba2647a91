use Rattle.std.proofs.Common.{◌≡◌, drop}
use Rattle.pm_base.specs.Fits.{has_name, sense_names}
use Rattle.pm_rules.proofs.draft.is_sense.Given as goal

abbrev pub invariant-loop-row : goal.invariant-loop-row
invariant-loop-row l = has_name l.name (sense_names l.senses) ≡ has_name l.name (sense_names (drop l.row-index l.senses))
