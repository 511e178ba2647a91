use Rattle.std.proofs.Common.{rules, ◌<◌, arith, length, Bor, List, [], ◌∷◌, ℕ, append_assoc}
use Rattle.std.proofs.lemmas.Grind.{common_steps}
use Rattle.std.proofs.lemmas.List.{map-append}
use Rattle.pm_tokens.specs.Lines.{line_len}
use Rattle.pm_tokens.proofs.LinesLaws.{lines-more, lines-last}
use Rattle.pm_tokens.proofs.lines.lines_of.Goals as goal

pub loop-len-preserved : goal.loop-len-preserved
loop-len-preserved c =
    let here : line_len c.loop-len.rest.now < length c.loop-len.rest.now = omega arith in
    let more = lines-more c.loop-len.rest.now here in
    let pushed = map-append (λ (x : Bor (List ℕ)). x.now) c.loop-len.out.items (c.around.result.0 ∷ []) in
    record {
      so_far = rw (c.in_ok-push.ensures.items, pushed) (grind (arith, common_steps, more, append_assoc, c.loop-len.invariant.so_far));
      len = search rules;
    }

pub returns : goal.returns
returns c =
    let last = lines-last c.loop-len.rest.now (omega arith) in
    let pushed = map-append (λ (x : Bor (List ℕ)). x.now) c.loop-len.out.items (c.loop-len.rest ∷ []) in
    rw (c.in_ok-push-2.ensures.items, pushed) (grind (arith, common_steps, last, c.loop-len.invariant.so_far))
