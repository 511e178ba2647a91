use Rattle.std.proofs.Common.{◌≡◌, true, false, ap, sym, ◌∙◌, arith, map, get_or}
use Rattle.std.specs.Prelude.{nat_le}
use Rattle.std.proofs.lemmas.List.{length-map, get_or-map}
use Rattle.std.proofs.lemmas.Bool.Decides.{nat_tests}
use Rattle.pm_plan.specs.Plans.{first_nowhere}
use Rattle.pm_plan.proofs.Leasts.{least_begin, least_skip, least_here, least_end}
use Rattle.pm_plan.proofs.check.first_var_nowhere.Goals as goal

pub loop-i-init : goal.loop-i-init
loop-i-init c = least_begin _ _

pub loop-i-preserved : goal.loop-i-preserved
loop-i-preserved c =
    let i = c.loop-i.i in
    let x = c.index-vars-i.result in
    let e : get_or (map (λ v. v.at) c.args.vars.now) i 0 ≡ x.at = get_or-map (λ v. v.at) c.args.vars.now i x 0 (omega arith) ∙ ap (λ v. v.at) (sym c.index-vars-i.is) in
    let t : nat_le c.args.clps (get_or (map (λ v. v.at) c.args.vars.now) i 0) ≡ false = grind (arith, nat_tests, e) in
    least_skip _ _ _ (let l = length-map c.args.vars.now (λ v. v.at) in omega (arith, l)) t c.loop-i.invariant

pub returns-then-var-clps : goal.returns-then-var-clps
unfolding first_nowhere
returns-then-var-clps c =
    let i = c.loop-i.i in
    let x = c.index-vars-i.result in
    let e : get_or (map (λ v. v.at) c.args.vars.now) i 0 ≡ x.at = get_or-map (λ v. v.at) c.args.vars.now i x 0 (omega arith) ∙ ap (λ v. v.at) (sym c.index-vars-i.is) in
    let t : nat_le c.args.clps (get_or (map (λ v. v.at) c.args.vars.now) i 0) ≡ true = grind (arith, nat_tests, e) in
    least_here _ _ _ (let l = length-map c.args.vars.now (λ v. v.at) in omega (arith, l)) t c.loop-i.invariant

pub returns : goal.returns
unfolding first_nowhere
returns c = least_end _ _ _ (let l = length-map c.args.vars.now (λ v. v.at) in omega (arith, l)) c.loop-i.invariant
