use Rattle.std.proofs.Common.{◌≡◌, ◌<◌, ◌&&◌, not, ◌==◌, ◌/◌, ℕ, List, ap, ◌∙◌, length, set, arith}
use Rattle.std.proofs.lemmas.List.{get_or_default}
use Rattle.pm_clp.specs.Laid.{in_set}
use Rattle.pm_clp.proofs.Sets.{without_bit, word_cleared, word_of}
use Rattle.pm_clp.proofs.var_set.VarSet.remove.Goals as goal

pub returns-then-at-len : goal.returns-then-at-len
returns-then-at-len c v =
    let words : List ℕ = c.self.inside.words.items in
    let at : ℕ = c.args.var / 64 in
    let long : at < length words = omega (arith, c.if-at-len.true, c.len.ensures) in
    let word : c.index_mut.result.now ≡ word_of words c.args.var =
    c.index_mut.ensures.value ∙ get_or_default words at c.index_mut.result.now 0 long in
    ap (λ x. in_set (set words at (without_bit c.args.var x)) v) word
    ∙ word_cleared words c.args.var v long
    ∙ ap (λ ws. not (c.args.var == v) && in_set ws v) c.self.view_is
