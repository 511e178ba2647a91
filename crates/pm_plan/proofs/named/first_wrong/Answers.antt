use Rattle.std.proofs.Common.{◌≡◌, ap, sym, ◌∙◌, arith, map, true, false, not}
use Rattle.std.proofs.lemmas.List.{length-map}
use Rattle.pm_base.specs.Names.{is_name}
use Rattle.pm_plan.specs.Numbers.{first_wrong, name_at}
use Rattle.pm_plan.proofs.Leasts.{least_begin, least_skip, least_here, least_end, name_at-map}
use Rattle.pm_plan.proofs.named.first_wrong.Goals as goal

pub loop-i-init : goal.loop-i-init
loop-i-init g c = least_begin _ _

pub loop-i-preserved : goal.loop-i-preserved
loop-i-preserved g c =
    let names = map g.T.Named.text c.args.rows.now in
    let e : name_at names c.loop-i.i ≡ c.as_str.result.now = name_at-map g.T.Named.text c.args.rows.now c.loop-i.i c.index-rows-i.result (omega arith) c.index-rows-i.is ∙ (sym c.name.ensures ∙ sym c.as_str.ensures) in
    let t : is_name (name_at names c.loop-i.i) ≡ true = ap is_name e ∙ (sym c.is_name.ensures ∙ c.if-not-is_name.false) in
    least_skip _ _ _ (let l = length-map c.args.rows.now g.T.Named.text in omega (arith, l)) (ap not t) c.loop-i.invariant

pub returns-then-not-is_name : goal.returns-then-not-is_name
unfolding first_wrong
returns-then-not-is_name g c =
    let names = map g.T.Named.text c.args.rows.now in
    let e : name_at names c.loop-i.i ≡ c.as_str.result.now = name_at-map g.T.Named.text c.args.rows.now c.loop-i.i c.index-rows-i.result (omega arith) c.index-rows-i.is ∙ (sym c.name.ensures ∙ sym c.as_str.ensures) in
    let t : is_name (name_at names c.loop-i.i) ≡ false = ap is_name e ∙ (sym c.is_name.ensures ∙ c.if-not-is_name.true) in
    least_here _ _ _ (let l = length-map c.args.rows.now g.T.Named.text in omega (arith, l)) (ap not t) c.loop-i.invariant

pub returns : goal.returns
unfolding first_wrong
returns g c = least_end _ _ _ (let l = length-map c.args.rows.now g.T.Named.text in omega (arith, l)) c.loop-i.invariant
