use Rattle.std.proofs.Common.{ap, ◌∙◌, ◌+◌, ◌++◌, ◌≤◌, ◌^◌, length, nat_le, arith}
use Rattle.std.proofs.lemmas.Option.{same_Some}
use Rattle.pm_alp.specs.Agents.{next_seq, nums_of, puts_of}
use Rattle.pm_alp.specs.States.{awaited_at}
use Rattle.pm_alp.proofs.Going.{acts}
use Rattle.pm_saved.proofs.Failing.{on_ok}
use Rattle.pm_alp.proofs.state.act.Goals as goal

pub returns-clause-moved : goal.returns-clause-moved
returns-clause-moved c = on_ok c.send_wake.result _ _
    (λ sent. λ front last e ea.
    let old = c.args.state.now in
    let a = c.args.parts.now.agent in
    let horizon = c.args.parts.now.horizon in
    let d = c.args.act in
    let new = c.send_wake.new.state in
    let stamp = c.in-Some.stamp in
    let time = c.saturating_add-time.result in
    let count = c.count-count.ensures.count ∙ ap length c.as_slice-writes.ensures in
    let few : length d.writes ≤ 2 ^ 32 = omega (arith, c.count-count.ensures.few, count) in
    acts (2 ^ 32) a horizon d c.replace-answers.result c.in_ok-nums.nums old new.saved new.told new.awaited new.seq
    c.args.out.now c.send_puts.new.out c.send_wake.new.out front last stamp time
    few (c.send_wake.ensures.told ∙ (c.replace-answers.ensures.after ∙ c.new.ensures)) c.requires.horizon c.requires.ready e (c.replace-answers.ensures.value ∙ ea) (same_Some stamp last.stamp
    (c.in-Some.ensures.step front last e)) c.saturating_add-time.ensures
    (c.in_ok-nums.ensures.nums ∙ ap (nums_of a old.seq) c.as_slice-writes.ensures)
    (c.send_wake.ensures.kept ∙ c.act.ensures front last e)
    (c.in_ok-nums.ensures.sent ∙ ap (λ ws. c.args.out.now ++ puts_of a stamp old.seq ws) c.as_slice-writes.ensures)
    (c.send_wake.ensures.wake ∙ ap (λ n. awaited_at a horizon (old.seq + n) time) count)
    (c.send_wake.ensures.seq ∙ ap (λ n. next_seq (nat_le time horizon) (old.seq + n)) count)
    sent)
    c.send_wake.ensures.sent
