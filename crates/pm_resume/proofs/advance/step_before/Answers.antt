use Rattle.std.proofs.Common.{◌≡◌, ◌∙◌, arith, sym}
use Rattle.pm_resume.proofs.Reaches.{done_step, reached}
use Rattle.pm_resume.proofs.advance.step_before.Goals as goal

pub returns-then-not-acts_before-clause-there : goal.returns-then-not-acts_before-clause-there
returns-then-not-acts_before-clause-there c = λ n had _.
    reached c.args.seq.now.plan c.args.from n n c.args.seq.now.state had (sym c.acts_before.ensures ∙ c.if-not-acts_before.true) (omega arith)

pub returns-clause-went : goal.returns-clause-went
returns-clause-went c = λ n had _.
    done_step c.args.seq.now.plan c.args.from n c.args.seq.now.state c.step.new.self.state (c.step.new.self ≡ c.args.seq.now) c.in_ok-_entry._entry had
    (sym c.acts_before.ensures ∙ c.if-not-acts_before.false) c.in_ok-_entry.ensures.moved
