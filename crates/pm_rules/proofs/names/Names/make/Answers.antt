use Rattle.pm_rules.proofs.names.Names.make.Goals as goal

pub invariant_of-result : goal.invariant_of-result
invariant_of-result c = (rw (← c.as_slice.ensures) c.in_ok-class_numbers.ensures, rw (← c.as_slice-2.ensures) c.in_ok-var_numbers.ensures)
