use Rattle.std.proofs.Common.{subst, sym, arith, []}
use Rattle.std.proofs.lemmas.Grind.{common_steps}
use Rattle.std.proofs.lemmas.Int.{to_z-of_z}
use Rattle.pm_step.specs.Expressions.{Sight, seen}
use Rattle.pm_step.specs.Steps.{IsRising}
use Rattle.pm_step.specs.declared.Deeds.{Deeds}
use Rattle.pm_step.proofs.Rising.{rising-does}
use Rattle.pm_step.proofs.StatementLaws.{does-Let, does-If, does-Set, does-Add, does-Wait, does_all-more}
use Rattle.pm_step.proofs.steps.+does.Goals as goal

pub does-returns-in-Let : goal.does-returns-in-Let
does-returns-in-Let t c = rw (c.in-Let.is, does-Let) (grind (arith, common_steps))

pub does-returns-in-Wait : goal.does-returns-in-Wait
does-returns-in-Wait t c = rw (c.in-Wait.is, does-Wait) (grind (arith, common_steps, to_z-of_z))

pub does-returns-then-x-eq0 : goal.does-returns-then-x-eq0
does-returns-then-x-eq0 t c = rw (c.in-If.is, does-If) (grind (arith, common_steps))

pub does-returns-else-x-eq0 : goal.does-returns-else-x-eq0
does-returns-else-x-eq0 t c = rw (c.in-If.is, does-If) (grind (arith, common_steps))

pub does-returns-in-Set : goal.does-returns-in-Set
does-returns-in-Set t c = rw (c.in-Set.is, does-Set) (grind (arith, common_steps))

pub does-returns-in-Add : goal.does-returns-in-Add
does-returns-in-Add t c = rw (c.in-Add.is, does-Add) (grind (arith, common_steps))

pub does_all-loop-stmt-preserved : goal.does_all-loop-stmt-preserved
does_all-loop-stmt-preserved t c =
    let s : Sight = seen c.args.scene.now [] in
    let more = does_all-more s c.args.stmts.now c.loop-stmt.stmt-index c.args.deeds.now c.stmt-item.result (omega arith) c.stmt-item.is in
    let did = c.in_ok-does.ensures in
    record {
      done = grind (arith, common_steps, more, did);
      rising = subst (λ (d : Deeds). IsRising d.writes) (sym did) (rising-does s c.stmt-item.result c.loop-stmt.deeds c.loop-stmt.invariant.rising);
    }
