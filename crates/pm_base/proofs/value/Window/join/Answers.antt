use Rattle.std.proofs.Common.{◌≡◌, refl, arith, w64}
use Rattle.std.proofs.lemmas.Int.{to_z-of_z}
use Rattle.std.specs.Int.{int_min, int_max}
use mir.Val.{to_z, of_z}
use Rattle.pm_base.proofs.Boxes.{join_of-least}
use Rattle.pm_base.proofs.value.Window.join.Goals as goal

pub returns-clause-value : goal.returns-clause-value
returns-clause-value c =
    let x0 : to_z w64 (of_z w64 c.lesser.result) ≡ int_min c.args.self.now.x0 c.args.other.now.x0 = grind (arith, to_z-of_z) in
    let x1 : to_z w64 (of_z w64 c.greater.result) ≡ int_max c.args.self.now.x1 c.args.other.now.x1 = grind (arith, to_z-of_z) in
    let y0 : to_z w64 (of_z w64 c.lesser-2.result) ≡ int_min c.args.self.now.y0 c.args.other.now.y0 = grind (arith, to_z-of_z) in
    let y1 : to_z w64 (of_z w64 c.greater-2.result) ≡ int_max c.args.self.now.y1 c.args.other.now.y1 = grind (arith, to_z-of_z) in
    rw (x0, x1, y0, y1) refl

pub returns-clause-least : goal.returns-clause-least
returns-clause-least c =
    rw (returns-clause-value c) (join_of-least c.args.self.now c.args.other.now c.requires.this c.requires.that)
