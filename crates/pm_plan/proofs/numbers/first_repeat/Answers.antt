use Rattle.std.proofs.Common.{◌≡◌, ◌<◌, ℕ, List, true, false, ap, sym, ◌∙◌, arith, map, length, take}
use Rattle.std.specs.Prelude.{is_none}
use Rattle.std.proofs.lemmas.List.{length-map}
use Rattle.std.proofs.lemmas.Grind.{common_steps}
use Rattle.std.specs.Str.{bytes_eq}
use Rattle.pm_plan.specs.Numbers.{number_of, or_here, name_at, first_repeat}
use Rattle.pm_plan.proofs.Firsts.{number_of-more, some_from_none}
use Rattle.pm_plan.proofs.Leasts.{least_begin, least_skip, least_here, least_end, name_at-map}
use Rattle.pm_plan.proofs.numbers.first_repeat.Goals as goal

pub loop-i-init : goal.loop-i-init
unfolding number_of
loop-i-init g c = record { none_below = least_begin _ _; known = λ n. grind (arith, common_steps, c.new-numbers.ensures.empty) }

pub loop-i-preserved : goal.loop-i-preserved
loop-i-preserved g c =
    let names = map g.T.Named.text c.args.rows.now in
    let i = c.loop-i.i in
    let lt : i < length names = (let l = length-map c.args.rows.now g.T.Named.text in omega (arith, l)) in
    let e : name_at names i ≡ c.as_str.result.now = name_at-map g.T.Named.text c.args.rows.now i c.index-rows-i.result (omega arith) c.index-rows-i.is ∙ (sym c.name.ensures ∙ sym c.as_str.ensures) in
    record {
      none_below = least_skip _ _ _ lt
          (some_from_none _ false (ap (λ (m : List ℕ). is_none (number_of (take i names) m)) e ∙ (ap is_none (sym (c.loop-i.invariant.known c.as_str.result.now)) ∙ (sym c.in_ok-note.ensures.had ∙ c.if-not-branch.false)))) c.loop-i.invariant.none_below;
      known = λ n.
          c.in_ok-note.ensures.numbers n
          ∙ (ap (λ o. or_here o (bytes_eq n c.as_str.result.now) i) (c.loop-i.invariant.known n)
          ∙ (ap (λ (m : List ℕ). or_here (number_of (take i names) n) (bytes_eq n m) i) (sym e)
          ∙ sym (number_of-more n names i lt)));
    }

pub returns-then-not-branch : goal.returns-then-not-branch
unfolding first_repeat
returns-then-not-branch g c =
    let names = map g.T.Named.text c.args.rows.now in
    let i = c.loop-i.i in
    let lt : i < length names = (let l = length-map c.args.rows.now g.T.Named.text in omega (arith, l)) in
    let e : name_at names i ≡ c.as_str.result.now = name_at-map g.T.Named.text c.args.rows.now i c.index-rows-i.result (omega arith) c.index-rows-i.is ∙ (sym c.name.ensures ∙ sym c.as_str.ensures) in
    least_here _ _ _ lt
    (some_from_none _ true (ap (λ (m : List ℕ). is_none (number_of (take i names) m)) e ∙ (ap is_none (sym (c.loop-i.invariant.known c.as_str.result.now)) ∙ (sym c.in_ok-note.ensures.had ∙ c.if-not-branch.true)))) c.loop-i.invariant.none_below

pub returns : goal.returns
unfolding first_repeat
returns g c = least_end _ _ _ (let l = length-map c.args.rows.now g.T.Named.text in omega (arith, l)) c.loop-i.invariant.none_below
