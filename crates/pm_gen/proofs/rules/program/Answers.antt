use Rattle.pm_gen.proofs.Programs.{no_refusal, only_program}
use Rattle.pm_gen.proofs.rules.program.Goals as goal

pub unreachable-requires : goal.unreachable-requires
unreachable-requires c =
    no_refusal c.args.names.now c.rule_text.result.now c.args.rule c.in-Err.fault c.requires c.rule_text.ensures
    (c.in-Err.ensures.fault c.in_default.not-Memory)

pub returns-in-Ok : goal.returns-in-Ok
returns-in-Ok c =
    only_program c.args.names.now c.rule_text.result.now c.args.rule c.in-Ok.program c.requires c.rule_text.ensures
    c.in-Ok.ensures.tree
