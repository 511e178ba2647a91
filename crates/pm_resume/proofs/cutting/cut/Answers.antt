use Rattle.std.proofs.Common.{inr, sym}
use Rattle.pm_plan.proofs.Valid.{valid_limits}
use Rattle.pm_resume.proofs.Answered.{cut_made, cut_run, cut_spent, cut_stuck, cut_valid}
use Rattle.pm_resume.proofs.Reaches.{begun}
use Rattle.pm_resume.proofs.cutting.cut.Goals as goal

pub new-requires : goal.new-requires
new-requires c = valid_limits c.args.plan.now c.requires

pub advance-requires : goal.advance-requires
advance-requires c =
    begun c.args.plan.now c.in_ok-seq.seq.plan c.args.from c.in_ok-seq.seq.state c.in_ok-seq.ensures.start.0 c.in_ok-seq.ensures.start.1
    (valid_limits c.args.plan.now c.requires)

pub returns-then-not-branch-clause-refused : goal.returns-then-not-branch-clause-refused
returns-then-not-branch-clause-refused c =
    inr (cut_spent c.args.plan.now c.in_ok-seq.seq.plan c.args.from c.args.budget c.in_ok-seq.ensures.start.0 (c.in_ok-advance.ensures.spent c.if-not-branch.true))

pub returns-in-Some-clause-refused : goal.returns-in-Some-clause-refused
returns-in-Some-clause-refused c =
    inr (cut_stuck c.args.plan.now c.in_ok-seq.seq.plan c.args.from c.args.budget c.in-Some.agent c.advance.new.seq.state c.in_ok-seq.ensures.start.0
    (c.in_ok-advance.ensures.there c.if-not-branch.false) (sym c.in-Some.ensures))

pub returns-clause-made : goal.returns-clause-made
returns-clause-made c =
    cut_made c.args.plan.now c.in_ok-seq.seq.plan c.in_ok-plan-in-None.plan c.args.from c.args.budget c.advance.new.seq.state c.in_ok-seq.ensures.start.0
    (c.in_ok-advance.ensures.there c.if-not-branch.false) (sym c.in-None.ensures) c.in_ok-plan-in-None.ensures.made

pub returns-clause-goes_on : goal.returns-clause-goes_on
returns-clause-goes_on c =
    cut_run c.args.plan.now c.in_ok-seq.seq.plan c.in_ok-plan-in-None.plan c.args.from c.args.budget c.advance.new.seq.state c.in_ok-seq.ensures.start.0
    (c.in_ok-advance.ensures.there c.if-not-branch.false) c.in_ok-plan-in-None.ensures.made

pub returns-clause-valid : goal.returns-clause-valid
returns-clause-valid c =
    cut_valid c.args.plan.now c.in_ok-seq.seq.plan c.in_ok-plan-in-None.plan c.args.from c.args.budget c.advance.new.seq.state c.requires c.in_ok-seq.ensures.start.0
    (c.in_ok-advance.ensures.there c.if-not-branch.false) (sym c.in-None.ensures) c.in_ok-plan-in-None.ensures.made c.in_ok-plan-in-None.ensures.pairs
