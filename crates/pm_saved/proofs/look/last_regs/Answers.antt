use Rattle.std.proofs.Common.{◌≡◌, arith, ap, ◌∙◌, sym, ◌<◌, ◌≤◌, ◌+◌, ◌-◌, length, take, ℕ}
use Rattle.pm_saved.specs.Inner.{steps_of}
use Rattle.pm_saved.specs.Steps.{regs_after, regs_of}
use Rattle.pm_saved.proofs.Walks.{regs-more}
use Rattle.pm_saved.proofs.look.last_regs.Goals as goal

pub returns-in-Some : goal.returns-in-Some
returns-in-Some c =
    let b = c.args.base.now in
    let hs = c.args.steps.now.items in
    let k : ℕ = c.loop-left.left - 1 in
    let lt : k < length hs = omega (arith, c.loop-left.invariant.0, c.requires, c.loop-left-test.true) in
    let next : k + 1 ≡ c.loop-left.left = omega (arith, c.loop-left-test.true) in
    sym (ap (regs_of (regs_after b (steps_of (take k hs)))) c.in-Some.is)
    ∙ (sym (regs-more b hs k c.index.result.now lt c.index.ensures)
    ∙ (ap (λ (j : ℕ). regs_after b (steps_of (take j hs))) next ∙ c.loop-left.invariant.1))

pub loop-left-preserved : goal.loop-left-preserved
loop-left-preserved c =
    let b = c.args.base.now in
    let hs = c.args.steps.now.items in
    let k : ℕ = c.loop-left.left - 1 in
    let lt : k < length hs = omega (arith, c.loop-left.invariant.0, c.requires, c.loop-left-test.true) in
    let next : k + 1 ≡ c.loop-left.left = omega (arith, c.loop-left-test.true) in
    let under : k ≤ c.args.n = omega (arith, c.loop-left.invariant.0) in (
      under,
      sym (ap (regs_of (regs_after b (steps_of (take k hs)))) c.in_default.is)
          ∙ (sym (regs-more b hs k c.index.result.now lt c.index.ensures)
          ∙ (ap (λ (j : ℕ). regs_after b (steps_of (take j hs))) next ∙ c.loop-left.invariant.1)),
    )
