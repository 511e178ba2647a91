use Rattle.std.proofs.Common.{◌≡◌, ◌++◌, drop}
use Rattle.pm_place.specs.Texts.{place_lines}
use Rattle.pm_place.proofs.text.add_lines.Given as goal

abbrev pub invariant-loop-var : goal.invariant-loop-var
invariant-loop-var l =
    l.out.items ++ place_lines l.plan l.var (drop l.var l.at) (drop l.var l.costs)
    ≡ l.initial.out.items ++ place_lines l.plan 0 l.at l.costs
