use Rattle.std.proofs.Common.{rules, arith, ◌≡◌, sym, [], ◌∷◌, false, length, ◌<◌, slice_index_or}
use Rattle.std.proofs.lemmas.Grind.{common_steps}
use Rattle.std.proofs.lemmas.List.{map-append}
use Rattle.pm_tokens.specs.Lexing.{is_blank}
use Rattle.pm_tokens.specs.Tokens.{tok, toks}
use Rattle.pm_tokens.proofs.LexingLaws.{lex-token}
use Rattle.pm_tokens.proofs.lexing.lex.Goals as goal

pub loop-b-preserved : goal.loop-b-preserved
loop-b-preserved c =
    let here : 0 < length c.loop-b.rest.now = search rules in
    let blank : is_blank (slice_index_or c.loop-b.rest.now 0 0) ≡ false = search rules in
    let more = lex-token (toks c.loop-b.out.items) c.loop-b.rest.now (tok c.in-Some-token.token) c.in-Some-token.len here blank (sym c.in-Some-token.ensures.value) (c.in-Some-token.ensures.within.0) in
    let pushed = map-append tok c.loop-b.out.items (c.in-Some-token.token ∷ []) in
    grind (arith, common_steps, more, pushed, c.in_ok-push-in-Some-token.ensures)
