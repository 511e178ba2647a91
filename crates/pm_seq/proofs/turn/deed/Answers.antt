use Rattle.std.proofs.Common.{◌∙◌, sym, ap, arith, length, length-append, ◌++◌, ◌∷◌, []}
use Rattle.pm_step.specs.Expressions.{sight}
use Rattle.pm_step.proofs.StepLaws.{asks_in}
use Rattle.pm_model.proofs.DeedLaws.{deed_after, deed-first, deed-asks-after, deed-acts-after}
use Rattle.pm_seq.proofs.Turns.{scene}
use Rattle.pm_seq.proofs.turn.deed.Goals as goal

pub asking-init : goal.asking-init
asking-init c =
    let s = scene c.args.row.now.program c.args.plan.now.layout.classes c.args.values.now c.args.stamp c.args.regs.now in
    deed-first s ∙ ap (deed_after s) (sym c.new-answers.ensures)

pub asking-smaller : goal.asking-smaller
asking-smaller c =
    let lt = asks_in c.args.row.now.program (sight c.args.plan.now.layout.classes c.args.stamp c.args.regs.now c.asking.answers) c.in-Ask.query (sym c.in_ok-query.ensures ∙ c.in-Ask.is) in
    let grown = c.in_ok-push-in-Ask.ensures.ok in
    omega (arith, lt, ap length grown, length-append c.asking.answers (c.in_ok-hits-in-Ask.field-0 ∷ []))

pub asking-preserved : goal.asking-preserved
asking-preserved c =
    let s = scene c.args.row.now.program c.args.plan.now.layout.classes c.args.values.now c.args.stamp c.args.regs.now in
    let asks = sym c.in_ok-query.ensures ∙ c.in-Ask.is in
    let lt = asks_in c.args.row.now.program (sight c.args.plan.now.layout.classes c.args.stamp c.args.regs.now c.asking.answers) c.in-Ask.query asks in
    c.asking.invariant
    ∙ deed-asks-after s c.asking.answers c.in-Ask.query asks lt
    ∙ ap (λ h. deed_after s (c.asking.answers ++ h ∷ [])) (sym c.in_ok-hits-in-Ask.ensures)
    ∙ ap (deed_after s) (sym c.in_ok-push-in-Ask.ensures.ok)

pub returns-in-Act : goal.returns-in-Act
returns-in-Act c =
    let s = scene c.args.row.now.program c.args.plan.now.layout.classes c.args.values.now c.args.stamp c.args.regs.now in
    c.asking.invariant ∙ deed-acts-after s c.asking.answers c.in-Act.act (sym c.in_ok-query.ensures ∙ c.in-Act.is)
