use Rattle.std.proofs.Common.{◌≡◌, sym, subst, Some, None}
use Rattle.std.specs.Prelude.{slice_get}
use Rattle.pm_ranges.proofs.Laying.{bound-some, bound-none}
use Rattle.pm_ranges.proofs.pieces.bound_of.Goals as goal

pub returns-in-Some : goal.returns-in-Some
returns-in-Some c = bound-some c.args.pieces.now c.args.rest.now c.args.s c.in-Some.piece.now (subst (λ k. slice_get c.args.pieces.now k ≡ Some c.in-Some.piece.now) c.before-2.ensures.value (sym c.in-Some.ensures))

pub returns-in-None : goal.returns-in-None
returns-in-None c = bound-none c.args.pieces.now c.args.rest.now c.args.s (subst (λ k. slice_get c.args.pieces.now k ≡ None) c.before-2.ensures.value (sym c.in-None.ensures))
