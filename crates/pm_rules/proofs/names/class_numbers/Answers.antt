use Rattle.std.proofs.Common.{◌≡◌, ◌+◌, ◌∙◌, refl, ap, sym, arith, length, map, take, List, [], ◌∷◌, ◌++◌, ℕ, length-take-le}
use Rattle.std.proofs.lemmas.List.{length-map, map-append, take_more}
use Rattle.std.proofs.lemmas.Grind.{common_steps}
use Rattle.std.specs.Str.{bytes_eq}
use Rattle.pm_base.specs.declared.layout.ClassRow.{ClassRow}
use Rattle.pm_rules.specs.Directories.{or_here}
use Rattle.pm_rules.specs.Reading.{number_of}
use Rattle.pm_rules.proofs.DirectoryLaws.{number_of-push}
use Rattle.pm_rules.proofs.names.class_numbers.Goals as goal

abbrev name_in : List ℕ × ClassRow → List ℕ
name_in c = c.0

pub loop-i-init : goal.loop-i-init
unfolding number_of
loop-i-init c = λ n. grind (arith, common_steps, c.new-numbers.ensures.empty)

pub loop-i-preserved : goal.loop-i-preserved
loop-i-preserved c = λ n.
    let classes = c.args.classes.now in
    let i = c.loop-i.i in
    let before = map name_in (take i classes) in
    let len : i ≡ length before = omega (arith, length-take-le i classes, length-map (take i classes) name_in) in
    let more : map name_in (take (i + 1) classes) ≡ before ++ c.as_str.result.now ∷ [] =
    rw (take_more classes i c.index-classes-i.result (omega arith), ← c.index-classes-i.is, map-append name_in (take i classes) (c.index-classes-i.result ∷ []), c.as_str.ensures) refl in
    c.in_ok-note.ensures n
    ∙ (ap (λ o. or_here o (bytes_eq c.as_str.result.now n) i) (c.loop-i.invariant n)
    ∙ sym (ap (λ (ns : List (List ℕ)). number_of ns n) more ∙ number_of-push n before c.as_str.result.now i len (omega arith)))
