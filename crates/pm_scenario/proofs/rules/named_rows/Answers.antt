use Rattle.std.proofs.Common.{arith}
use Rattle.std.proofs.lemmas.Grind.{common_steps}
use Rattle.pm_scenario.proofs.NamedRows.{rows_more, vars_more, vars_most}
use Rattle.pm_scenario.proofs.rules.named_rows.Goals as goal

pub overflow_cast-count : goal.overflow_cast-count
overflow_cast-count c =
    let most = vars_most c.args.classes.now c.loop-class.class-index c.class-item.result (omega arith) c.class-item.is in
    omega (arith, most, c.len-count.ensures, c.requires)

pub overflow_add-first : goal.overflow_add-first
overflow_add-first c =
    let most = vars_most c.args.classes.now c.loop-class.class-index c.class-item.result (omega arith) c.class-item.is in
    omega (arith, most, c.loop-class.invariant.first, c.len-count.ensures, c.requires)

pub loop-class-preserved : goal.loop-class-preserved
loop-class-preserved c =
    let cs = c.args.classes.now in
    let i = c.loop-class.class-index in
    let x = c.class-item.result in
    let rows = rows_more c.loop-class.first cs i x (omega arith) c.class-item.is c.loop-class.invariant.first in
    let vars = vars_more cs i x (omega arith) c.class-item.is in
    record {
      rows = rw (rows, ← c.loop-class.invariant.rows) (grind (arith, common_steps));
      first = omega (arith, vars, c.loop-class.invariant.first, c.len-count.ensures);
    }
