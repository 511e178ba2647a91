-- The lines of events that are written one after another.
use Rattle.std.proofs.Common.{◌≡◌, ℕ, zero, suc, ◌+◌, ◌<◌, List, [], ◌∷◌, length, take, drop, get_or, Option, refl, sym, subst, arith}
use Rattle.std.specs.Io.KnownBytes.{Appends}
use Rattle.pm_base.specs.declared.run.Event.{Event}
use Rattle.pm_history.specs.Journals.{event_line, journal_text}
use Rattle.pm_io.specs.Causes.{AppendsPart}
use Rattle.pm_io.proofs.Known.{appends-append}
use Rattle.pm_kernel.proofs.Lists.{flat-more, flat-parts}
use Rattle.pm_top.proofs.Written.{part-within}

-- an element that is there is the same whatever stands for one that isn't
get-same : (es : List Event) (i : ℕ) (d e : Event) → i < length es → get_or es i d ≡ get_or es i e
get-same [] i d e lt = absurd (omega (arith, lt))
get-same (x ∷ es) zero d e lt = refl
get-same (x ∷ es) (suc i) d e lt = get-same es i d e (omega (arith, lt))

pub events-more : (old now new : Option (List ℕ)) (es : List Event) (i : ℕ) (d : Event) → i < length es → Appends old now (journal_text (take i es))
    → Appends now new (event_line (get_or es i d)) → Appends old new (journal_text (take (i + 1) es))
events-more old now new es i d lt before line =
    let x = get_or es i d in
    subst (Appends old new) (sym (flat-more event_line es i x lt (get-same es i d x lt)))
    (appends-append old now new (journal_text (take i es)) (event_line x) before line)

pub events-part : (old now new : Option (List ℕ)) (es : List Event) (i : ℕ) (d : Event) → i < length es → Appends old now (journal_text (take i es))
    → AppendsPart now new (event_line (get_or es i d)) → AppendsPart old new (journal_text es)
events-part old now new es i d lt before part =
    let x = get_or es i d in
    subst (AppendsPart old new) (sym (flat-parts event_line es i x lt (get-same es i d x lt)))
    (part-within old now new (journal_text (take i es)) (event_line x) (journal_text (drop (i + 1) es)) before part)
