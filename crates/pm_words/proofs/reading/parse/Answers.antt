use Rattle.std.proofs.Common.{rules, ◌≡◌, ◌∙◌, ap, sym, refl, true, [], ◌∷◌, map, string_bytes, inl, inr}
use Rattle.clap.specs.Words.{App, app_of, is_simple, matches_of}
use Rattle.clap.specs.Faults.{fault_of, is_simple_and_free}
use Rattle.pm_words.specs.Line.{line, rows, faults}
use Rattle.clap.specs.Kinds.{Kinds, HasKind}
use Rattle.clap.specs.Values.{kind_of}
use Rattle.clap.specs.declared.error.Error.{Error}
use Rattle.clap.specs.declared.error.kind.ErrorKind.TheVariants.{OutOfMemory}
use Rattle.pm_words.proofs.reading.parse.Goals as goal

simple : is_simple line ≡ true
simple = refl

free : is_simple_and_free line ≡ true
free = refl

pub returns-in-Ok-try_get_matches_from-clause-rows :
    goal.returns-in-Ok-try_get_matches_from-clause-rows
unfolding rows
returns-in-Ok-try_get_matches_from-clause-rows c =
    let line_is : app_of c.in-Ok.command ≡ line = c.in-Ok.ensures in
    (c.in-Ok-try_get_matches_from.ensures.matches (ap is_simple line_is ∙ simple)).0
    ∙ ap (λ (a : App). matches_of a (map string_bytes c.args.words.now)) line_is

pub returns-in-Ok-try_get_matches_from-clause-taken :
    goal.returns-in-Ok-try_get_matches_from-clause-taken
unfolding faults
returns-in-Ok-try_get_matches_from-clause-taken c =
    let line_is : app_of c.in-Ok.command ≡ line = c.in-Ok.ensures in
    ap (λ (a : App). fault_of a (map string_bytes c.args.words.now)) (sym line_is)
    ∙ c.in-Ok-try_get_matches_from.ensures.kinds (ap is_simple_and_free line_is ∙ free)

not_refused : (kinds : Kinds) (e : Error) → HasKind kinds e → kinds ≡ [] → (kind_of e ≡ OutOfMemory → ⊥) → ⊥
not_refused [] e h none nope = elim h [ inl m ↦ nope m | inr a ↦ a ]
not_refused (k ∷ ks) e h none nope = cc

pub returns-clause-refused : goal.returns-clause-refused
unfolding faults
returns-clause-refused c = λ same none.
    let line_is : app_of c.in-Ok.command ≡ line = c.in-Ok.ensures in
    let nope : kind_of c.in-Err.e ≡ OutOfMemory → ⊥ = search rules in
    not_refused _ c.in-Err.e (c.in-Err.ensures.kinds (ap is_simple_and_free line_is ∙ free))
    (ap (λ (a : App). fault_of a (map string_bytes c.args.words.now)) line_is ∙ none) nope
