use Rattle.std.proofs.Common.{◌≡◌, ◌<◌, ◌||◌, ◌==◌, ◌/◌, ℕ, List, ap, sym, ◌∙◌, subst, length, set}
use Rattle.std.proofs.lemmas.List.{get_or_default}
use Rattle.pm_clp.specs.Laid.{in_set}
use Rattle.pm_clp.proofs.Sets.{with_bit, word_of, word_set}
use Rattle.pm_clp.proofs.var_set.VarSet.add.Goals as goal

pub returns-clause-ok : goal.returns-clause-ok
returns-clause-ok c v =
    let words : List ℕ = c.self.inside.words.items in
    let at : ℕ = c.args.var / 64 in
    let long : at < length words = subst (λ ws. at < length ws) (sym c.self.view_is) c.in_ok-reach.ensures.long in
    let word : c.index_mut.result.now ≡ word_of words c.args.var =
    c.index_mut.ensures.value ∙ get_or_default words at c.index_mut.result.now 0 long in
    ap (λ x. in_set (set words at (with_bit c.args.var x)) v) word
    ∙ word_set words c.args.var v long
    ∙ ap (λ ws. c.args.var == v || in_set ws v) c.self.view_is
    ∙ ap (λ b. c.args.var == v || b) (c.reach.ensures.same v)
