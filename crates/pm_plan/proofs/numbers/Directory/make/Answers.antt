use Rattle.std.proofs.Common.{◌≡◌, ℕ, List, ap, sym, ◌∙◌, arith, map, take}
use Rattle.std.proofs.lemmas.List.{length-map}
use Rattle.std.proofs.lemmas.Grind.{common_steps}
use Rattle.std.specs.Str.{bytes_eq}
use Rattle.pm_plan.specs.Numbers.{number_of, or_here, name_at}
use Rattle.pm_plan.proofs.Firsts.{number_of-more}
use Rattle.pm_plan.proofs.Leasts.{name_at-map}
use Rattle.pm_plan.proofs.numbers.Directory.make.Goals as goal

pub loop-i-init : goal.loop-i-init
unfolding number_of
loop-i-init g c = λ n. grind (arith, common_steps, c.new-numbers.ensures.empty)

pub loop-i-preserved : goal.loop-i-preserved
loop-i-preserved g c = λ n.
    let names = map g.T.Named.text c.args.rows.now in
    let e : name_at names c.loop-i.i ≡ c.as_str.result.now = name_at-map g.T.Named.text c.args.rows.now c.loop-i.i c.index-rows-i.result (omega arith) c.index-rows-i.is ∙ (sym c.name.ensures ∙ sym c.as_str.ensures) in
    c.in_ok-note.ensures.numbers n
    ∙ (ap (λ o. or_here o (bytes_eq n c.as_str.result.now) c.loop-i.i) (c.loop-i.invariant n)
    ∙ (ap (λ (m : List ℕ). or_here (number_of (take c.loop-i.i names) n) (bytes_eq n m) c.loop-i.i) (sym e)
    ∙ sym (number_of-more n names c.loop-i.i (let l = length-map c.args.rows.now g.T.Named.text in omega (arith, l)))))
