-- What each expression is worth.
use Rattle.std.proofs.Common.{◌≡◌, rules, ℕ, [], ℤ, pos, get_or}
use Rattle.pm_base.specs.declared.program.Expr.{Expr, the_lemmas}
use Rattle.pm_base.specs.declared.program.Expr.TheVariants.{Num, Now, Me, Reg, Part, Bin}
use Rattle.pm_base.specs.declared.program.Field.{Field}
use Rattle.pm_base.specs.declared.program.Op.{Op}
use Rattle.pm_step.specs.Arithmetic.{compute}
use Rattle.pm_step.specs.Expressions.{Sight, value, part}

pub value-Num : (s : Sight) (n : ℤ) → value s (Num n) ≡ n
value-Num s n = search (rules, the_lemmas)

pub value-Now : (s : Sight) → value s Now ≡ pos s.stamp.time
value-Now s = search (rules, the_lemmas)

pub value-Me : (s : Sight) → value s Me ≡ pos s.stamp.agent
value-Me s = search (rules, the_lemmas)

pub value-Reg : (s : Sight) (r : ℕ) → value s (Reg r) ≡ get_or s.regs r (pos 0)
value-Reg s r = search (rules, the_lemmas)

pub value-Part : (s : Sight) (k : ℕ) (f : Field) → value s (Part k f) ≡ part s.classes f (get_or s.answers k [])
value-Part s k f = search (rules, the_lemmas)

pub value-Bin : (s : Sight) (o : Op) (a b : Expr) → value s (Bin o a b) ≡ compute o (value s a) (value s b)
value-Bin s o a b = search (rules, the_lemmas)
