use Rattle.std.proofs.Common.{◌≡◌, ◌∙◌, ap, sym, subst, ℕ, true, false, is_some, slice_get, set}
use Rattle.pm_saved.specs.Inner.{HitsRise, only, place_of}
use Rattle.pm_saved.specs.Senses.{add_kept}
use Rattle.pm_saved.proofs.HitLemmas.{kept-insert, kept-rise, kept-set}
use Rattle.pm_saved.proofs.hits.keep.Goals as goal

pub returns-then-is_at-clause-ok : goal.returns-then-is_at-clause-ok
returns-then-is_at-clause-ok c =
    let hits = c.args.hits.now in
    let k = c.args.hit in
    let place : c.place_of-at.result ≡ place_of k.var hits = rw c.as_slice.ensures at c.place_of-at.ensures.place in
    let there : is_some (only k.var (slice_get hits (place_of k.var hits)))
    ≡ true = rw (c.as_slice-2.ensures, place) at (sym c.is_at.ensures ∙ c.if-is_at.true) in
    c.set.ensures ∙ (ap (λ (i : ℕ). set hits i k) place ∙ kept-set k hits there)

pub returns-then-is_at-clause-rise : goal.returns-then-is_at-clause-rise
returns-then-is_at-clause-rise c =
    let hits = c.args.hits.now in
    let k = c.args.hit in
    let place : c.place_of-at.result ≡ place_of k.var hits = rw c.as_slice.ensures at c.place_of-at.ensures.place in
    let there : is_some (only k.var (slice_get hits (place_of k.var hits)))
    ≡ true = rw (c.as_slice-2.ensures, place) at (sym c.is_at.ensures ∙ c.if-is_at.true) in
    subst HitsRise (sym (c.set.ensures ∙ (ap (λ (i : ℕ). set hits i k) place
    ∙ kept-set k hits there))) (kept-rise k hits c.requires)

pub returns-in_ok-insert-clause-ok : goal.returns-in_ok-insert-clause-ok
returns-in_ok-insert-clause-ok c =
    let hits = c.args.hits.now in
    let k = c.args.hit in
    let place : c.place_of-at.result ≡ place_of k.var hits = rw c.as_slice.ensures at c.place_of-at.ensures.place in
    let there : is_some (only k.var (slice_get hits (place_of k.var hits)))
    ≡ false = rw (c.as_slice-2.ensures, place) at (sym c.is_at.ensures ∙ c.if-is_at.false) in
    rw (place, kept-insert k hits there) at c.in_ok-insert.ensures.ok

pub returns-in_ok-insert-clause-rise : goal.returns-in_ok-insert-clause-rise
returns-in_ok-insert-clause-rise c =
    let hits = c.args.hits.now in
    let k = c.args.hit in
    let place : c.place_of-at.result ≡ place_of k.var hits = rw c.as_slice.ensures at c.place_of-at.ensures.place in
    let there : is_some (only k.var (slice_get hits (place_of k.var hits)))
    ≡ false = rw (c.as_slice-2.ensures, place) at (sym c.is_at.ensures ∙ c.if-is_at.false) in
    let new : c.insert.new.self ≡ add_kept k hits = rw (place, kept-insert k hits there) at c.in_ok-insert.ensures.ok in
    subst HitsRise (sym new) (kept-rise k hits c.requires)
