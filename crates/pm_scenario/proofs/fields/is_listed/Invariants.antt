use Rattle.std.proofs.Common.{◌≡◌, drop, map}
use Rattle.pm_scenario.specs.Forms.{is_listed}
use Rattle.pm_scenario.proofs.fields.is_listed.Given as goal

abbrev pub invariant-loop-listed : goal.invariant-loop-listed
invariant-loop-listed l = is_listed (map (λ s. s.now) l.keys) l.key ≡ is_listed (map (λ s. s.now) (drop l.listed-index l.keys)) l.key
