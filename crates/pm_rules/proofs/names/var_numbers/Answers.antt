use Rattle.std.proofs.Common.{◌≡◌, ◌+◌, ◌∙◌, refl, ap, sym, arith, length, take, List, [], ◌∷◌, ◌++◌, ℕ, length-take-le}
use Rattle.std.proofs.lemmas.List.{take_more}
use Rattle.std.proofs.lemmas.Grind.{common_steps}
use Rattle.std.specs.Str.{bytes_eq}
use Rattle.pm_rules.specs.Directories.{or_here}
use Rattle.pm_rules.specs.Reading.{number_of}
use Rattle.pm_rules.proofs.DirectoryLaws.{number_of-push}
use Rattle.pm_rules.proofs.names.var_numbers.Goals as goal

pub loop-i-init : goal.loop-i-init
unfolding number_of
loop-i-init c = λ n. grind (arith, common_steps, c.new-numbers.ensures.empty)

pub loop-i-preserved : goal.loop-i-preserved
loop-i-preserved c = λ n.
    let vars = c.args.vars.now in
    let i = c.loop-i.i in
    let len : i ≡ length (take i vars) = omega (arith, length-take-le i vars) in
    let more : take (i + 1) vars ≡ take i vars ++ c.as_str.result.now ∷ [] =
    rw (take_more vars i c.index-vars-i.result (omega arith), ← c.index-vars-i.is, c.as_str.ensures) refl in
    c.in_ok-note.ensures n
    ∙ (ap (λ o. or_here o (bytes_eq c.as_str.result.now n) i) (c.loop-i.invariant n)
    ∙ sym (ap (λ (ns : List (List ℕ)). number_of ns n) more ∙ number_of-push n (take i vars) c.as_str.result.now i len (omega arith)))
