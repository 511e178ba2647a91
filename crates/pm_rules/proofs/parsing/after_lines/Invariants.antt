use Rattle.std.proofs.Common.{◌≡◌, ◌+◌, drop, map}
use Rattle.pm_rules.specs.Rules.{after_lines, empty}
use Rattle.pm_rules.proofs.parsing.after_lines.Given as goal

abbrev pub invariant-loop-i : goal.invariant-loop-i
invariant-loop-i l = after_lines l.names l.version 1 (map (λ x. x.now) l.lines) empty ≡ after_lines l.names l.version (l.i + 1) (map (λ x. x.now) (drop l.i l.lines)) l.draft
