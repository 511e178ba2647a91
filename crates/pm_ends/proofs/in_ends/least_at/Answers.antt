use Rattle.std.proofs.Common.{◌∙◌, ◌++◌, ap, map, sym, take_all}
use Rattle.pm_base.specs.Stamps.{least_line_of, or_lower}
use Rattle.pm_links.specs.Links.{waiting}
use Rattle.pm_ends.specs.Ends.{post_stamp}
use Rattle.pm_ends.proofs.Held.{none_past, stamps_more}
use Rattle.pm_ends.proofs.in_ends.least_at.Goals as goal

pub loop-post-preserved : goal.loop-post-preserved
loop-post-preserved c = λ ss e.
    let p = c.in-Some.post.now in
    c.lower_of-least.ensures ∙ ap (or_lower (post_stamp p)) (c.loop-post.invariant ss e)
    ∙ sym (stamps_more ss (waiting c.args.side.now.end) c.loop-post.at p (sym c.in-Some.ensures.value))

pub returns : goal.returns
returns c = λ ss e.
    let w = waiting c.args.side.now.end in
    c.loop-post.invariant ss e
    ∙ ap (λ l. least_line_of (ss ++ map post_stamp l)) (take_all c.loop-post.at w
    (none_past w c.loop-post.at (sym c.in_default.ensures.value)))
