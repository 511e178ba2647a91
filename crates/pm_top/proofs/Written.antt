-- What a run has written so far.
use Rattle.std.proofs.Common.{◌≡◌, Bool, ℕ, zero, suc, ◌+◌, ◌<◌, List, [], ◌∷◌, ◌++◌, length, length-append, take, codes, decimal, Option, refl, sym, ap, ◌∙◌, append_assoc, append-nil, arith}
use Rattle.std.proofs.lemmas.Grind.{flat_map-append}
use Rattle.std.proofs.lemmas.List.{take_at, take-append-le}
use Rattle.std.specs.Io.KnownBytes.{Appends}
use Rattle.pm_base.specs.declared.rows.Entry.{Entry}
use Rattle.pm_base.specs.declared.run.Event.{Event}
use Rattle.pm_base.specs.declared.run.Event.TheVariants as event
use Rattle.pm_base.specs.declared.stamp.Line.TheVariants as at
use Rattle.pm_history.specs.Journals.{event_line, pair_text}
use Rattle.pm_plan.specs.declared.plan.Plan.{Plan}
use Rattle.pm_model.specs.Runs.{sequential_run}
use Rattle.pm_model.specs.Traces.{line, trace_text, end_line, trace}
use Rattle.pm_io.specs.Causes.{AppendsPart, AppendsPrefix}
use Rattle.pm_io.proofs.Known.{appends-append, appends-none, prefix-part, prefix-none, prefix-after}
use Rattle.pm_top.specs.Demo.{told_line}
use Rattle.pm_top.specs.Outputs.{asked_lines, check_line, run_output}

more-some : (xs ys : List ℕ) → 0 < length xs → 0 < length (xs ++ ys)
more-some xs ys some = omega (arith, some, length-append xs ys)

-- the end line is never empty
pub end-some : (n : ℕ) → 0 < length (end_line n)
end-some n =
    let four : length (codes "end ") ≡ 4 = refl in
    more-some (codes "end ") (decimal n ++ codes "\n") (omega (arith, four))

pub check-some : (p : Plan) → 0 < length (check_line p)
check-some p =
    let eight : length (codes "ok clps ") ≡ 8 = refl in
    more-some (codes "ok clps " ++ decimal (length p.clps)) _ (more-some (codes "ok clps ") (decimal (length p.clps)) (omega (arith, eight)))

-- no trace is empty
pub trace-some : (p : Plan) → 0 < length (trace p)
trace-some p = omega (arith, end-some (length (sequential_run p)), length-append (trace_text p (sequential_run p)) (end_line (length (sequential_run p))))

-- nor the line of a generated run
pub told-some : (seed steps hits writes sum : ℕ) → 0 < length (told_line seed steps hits writes sum)
told-some seed steps hits writes sum =
    let five : length (codes "demo ") ≡ 5 = refl in
    more-some (codes "demo " ++ decimal seed) _ (more-some (codes "demo ") (decimal seed) (omega (arith, five)))

-- nor the output of an optimistic run
pub run-some : (asked : Bool) (p : Plan) (j : List Event) → 0 < length (run_output asked p j)
run-some asked p j = more-some (trace p) (asked_lines asked j) (trace-some p)

-- nor the line of an event
pub event-some : (e : Event) → 0 < length (event_line e)
event-some (event.Deliver to from) =
    let five : length (codes "#j d ") ≡ 5 = refl in
    more-some (codes "#j d ") (pair_text to from) (omega (arith, five))
event-some (event.Commit (at.At s)) =
    let five : length (codes "#j c ") ≡ 5 = refl in
    more-some (codes "#j c ") (pair_text s.time s.agent) (omega (arith, five))
event-some (event.Commit at.End) =
    let nine : length (codes "#j c end\n") ≡ 9 = refl in
    omega (arith, nine)

-- nothing lacks a byte of what isn't empty
pub part-none : (old : Option (List ℕ)) (bytes : List ℕ) → 0 < length bytes → AppendsPart old old bytes
part-none old bytes some = (0, some, appends-none old)

take-over : (xs ys zs : List ℕ) (k : ℕ) → k < length ys → take (length xs + k) (xs ++ (ys ++ zs)) ≡ xs ++ take k ys
take-over [] ys zs k lt =
    let e : 0 + k ≡ k = omega arith in
    ap (λ n. take n (ys ++ zs)) e ∙ take-append-le k ys zs (omega (arith, lt))
take-over (x ∷ xs) ys zs k lt =
    let e : length (x ∷ xs) + k ≡ suc (length xs + k) = omega arith in
    ap (λ n. take n (x ∷ (xs ++ (ys ++ zs)))) e ∙ ap (λ v. x ∷ v) (take-over xs ys zs k lt)

-- what lacks a byte of a later part lacks a byte of the whole
pub part-within : (old now new : Option (List ℕ)) (xs ys zs : List ℕ) → Appends old now xs → AppendsPart now new ys → AppendsPart old new (xs ++ (ys ++ zs))
part-within old now new xs ys zs a p = (
  length xs + p.0,
  omega (arith, p.1, length-append xs (ys ++ zs), length-append ys zs),
  rw (take-over xs ys zs p.0 p.1) (appends-append old now new xs (take p.0 ys) a p.2),
)

-- the same of a last part
pub part-after : (old now new : Option (List ℕ)) (xs ys : List ℕ) → Appends old now xs → AppendsPart now new ys → AppendsPart old new (xs ++ ys)
part-after old now new xs ys a p = rw (append-nil ys) at (part-within old now new xs ys [] a p)

-- and of a first part
pub part-more : (old new : Option (List ℕ)) (xs ys : List ℕ) → AppendsPart old new xs → AppendsPart old new (xs ++ ys)
part-more old new xs ys p =
    (p.0, omega (arith, p.1, length-append xs ys), rw (take-append-le p.0 xs ys (omega (arith, p.1))) p.2)

-- all of a first part lacks a byte of the whole, where more follows
part-first : (old now : Option (List ℕ)) (xs ys : List ℕ) → Appends old now xs → 0 < length ys → AppendsPart old now (xs ++ ys)
part-first old now xs ys a some =
    (length xs, omega (arith, some, length-append xs ys), rw (take_at xs ys (length xs) refl) a)

-- the lines of the first steps were written, and these entries are left
pub record IsSoFar (plan : Plan) (left : List Entry) (old now : Option (List ℕ)) (steps : ℕ) : Type 0 where
  pub entries : List Entry
  pub parts : sequential_run plan ≡ entries ++ left
  pub count : steps ≡ length entries
  pub grew : Appends old now (trace_text plan entries)

pub sofar-first : (plan : Plan) (old : Option (List ℕ)) → IsSoFar plan (sequential_run plan) old old 0
sofar-first plan old = record { entries = []; parts = refl; count = refl; grew = appends-none old }

text-one : (plan : Plan) (es : List Entry) (e : Entry) → trace_text plan (es ++ e ∷ []) ≡ trace_text plan es ++ line plan e
text-one plan es e = flat_map-append (line plan) es (e ∷ []) ∙ ap (λ v. trace_text plan es ++ v) (append-nil (line plan e))

pub sofar-wrote : (plan : Plan) (e : Entry) (es : List Entry) (old now new : Option (List ℕ)) (n : ℕ)
    → IsSoFar plan (e ∷ es) old now n → Appends now new (line plan e) → IsSoFar plan es old new (n + 1)
sofar-wrote plan e es old now new n so w = record {
  entries = so.entries ++ e ∷ [];
  parts = so.parts ∙ sym (append_assoc so.entries (e ∷ []) es);
  count = omega (arith, so.count, length-append so.entries (e ∷ []));
  grew = rw (text-one plan so.entries e) (appends-append old now new (trace_text plan so.entries) (line plan e) so.grew w);
}

-- the whole trace, from what was written on
trace-from : (plan : Plan) (left : List Entry) (old now : Option (List ℕ)) (n : ℕ) (so : IsSoFar plan left old now n)
    → trace plan ≡ trace_text plan so.entries ++ (trace_text plan left ++ end_line (length (sequential_run plan)))
trace-from plan left old now n so =
    ap (λ es. trace_text plan es ++ end_line (length (sequential_run plan))) so.parts
    ∙ ap (λ v. v ++ end_line (length (sequential_run plan))) (flat_map-append (line plan) so.entries left)
    ∙ append_assoc (trace_text plan so.entries) (trace_text plan left) (end_line (length (sequential_run plan)))

-- how long the run is where nothing is left
pub sofar-count : (plan : Plan) (old now : Option (List ℕ)) (n : ℕ) → IsSoFar plan [] old now n → length (sequential_run plan) ≡ n
sofar-count plan old now n so = ap length so.parts ∙ ap length (append-nil so.entries) ∙ sym so.count

-- what is then left to write
trace-end : (plan : Plan) (old now : Option (List ℕ)) (n : ℕ) (so : IsSoFar plan [] old now n) → trace plan ≡ trace_text plan so.entries ++ end_line n
trace-end plan old now n so =
    trace-from plan [] old now n so ∙ ap (λ v. trace_text plan so.entries ++ end_line v) (sofar-count plan old now n so)

pub sofar-done : (plan : Plan) (old now new : Option (List ℕ)) (n : ℕ) → IsSoFar plan [] old now n → Appends now new (end_line n) → Appends old new (trace plan)
sofar-done plan old now new n so w =
    rw (trace-end plan old now n so) (appends-append old now new (trace_text plan so.entries) (end_line n) so.grew w)

pub sofar-end : (plan : Plan) (old now new : Option (List ℕ)) (n : ℕ) → IsSoFar plan [] old now n → AppendsPrefix now new (end_line n)
    → AppendsPrefix old new (trace plan)
sofar-end plan old now new n so w =
    rw (trace-end plan old now n so) (prefix-after old now new (trace_text plan so.entries) (end_line n) so.grew w)

pub sofar-stop : (plan : Plan) (left : List Entry) (old now : Option (List ℕ)) (n : ℕ) → IsSoFar plan left old now n → AppendsPrefix old now (trace plan)
sofar-stop plan left old now n so =
    rw (trace-from plan left old now n so) (prefix-after old now now (trace_text plan so.entries) _ so.grew (prefix-none now _))

-- what is left of the trace where the run stopped
pub sofar-short : (plan : Plan) (left : List Entry) (old now : Option (List ℕ)) (n : ℕ) → IsSoFar plan left old now n → AppendsPart old now (trace plan)
sofar-short plan left old now n so =
    rw (trace-from plan left old now n so) (part-first old now (trace_text plan so.entries) (trace_text plan left ++ end_line (length (sequential_run plan))) so.grew
    (omega (arith, end-some (length (sequential_run plan)), length-append (trace_text plan left) (end_line (length (sequential_run plan))))))

-- the same where a part of the end line was written
pub sofar-tail : (plan : Plan) (old now new : Option (List ℕ)) (n : ℕ) → IsSoFar plan [] old now n → AppendsPart now new (end_line n) → AppendsPart old new (trace plan)
sofar-tail plan old now new n so w =
    rw (trace-end plan old now n so) (rw (append-nil (end_line n)) at (part-within old now new (trace_text plan so.entries) (end_line n) [] so.grew w))

-- the same where a part of a step's line was written
pub sofar-cut : (plan : Plan) (e : Entry) (es : List Entry) (old now new : Option (List ℕ)) (n : ℕ)
    → IsSoFar plan (e ∷ es) old now n → AppendsPart now new (line plan e) → AppendsPart old new (trace plan)
sofar-cut plan e es old now new n so w =
    let tail = trace_text plan es ++ end_line (length (sequential_run plan)) in
    let step : trace_text plan (e ∷ es) ++ end_line (length (sequential_run plan)) ≡ line plan e ++ tail =
    append_assoc (line plan e) (trace_text plan es) (end_line (length (sequential_run plan))) in
    rw (trace-from plan (e ∷ es) old now n so, step) (part-within old now new (trace_text plan so.entries) (line plan e) tail so.grew w)

pub sofar-fault : (plan : Plan) (e : Entry) (es : List Entry) (old now new : Option (List ℕ)) (n : ℕ)
    → IsSoFar plan (e ∷ es) old now n → AppendsPart now new (line plan e) → AppendsPrefix old new (trace plan)
sofar-fault plan e es old now new n so w = prefix-part old new (trace plan) (sofar-cut plan e es old now new n so w)

-- the run is longer than what was done, whose lines were written
spent-by : (plan : Plan) (left : List Entry) (old now : Option (List ℕ)) (n : ℕ) (so : IsSoFar plan left old now n) → (left ≡ [] → ⊥) → n < length (sequential_run plan)
spent-by plan [] old now n so more = absurd (more refl)
spent-by plan (e ∷ es) old now n so more = omega (arith, so.count, ap length so.parts, length-append so.entries (e ∷ es))

pub sofar-spent : (plan : Plan) (left : List Entry) (old now : Option (List ℕ)) (n : ℕ) → IsSoFar plan left old now n → (left ≡ [] → ⊥)
    → (n < length (sequential_run plan)) × Appends old now (trace_text plan (take n (sequential_run plan)))
sofar-spent plan left old now n so more =
    let first : take n (sequential_run plan) ≡ so.entries = ap (take n) so.parts ∙ take_at so.entries left n (sym so.count) in
    (spent-by plan left old now n so more, rw first so.grew)

-- more than the first n are taken: one more, and some that follow it
take-past : (xs ys : List Entry) (y : Entry) (n b : ℕ) → n ≡ length xs → n < b → (zs : List Entry) × (take b (xs ++ y ∷ ys) ≡ xs ++ y ∷ zs)
take-past [] ys y n zero e lt = absurd (omega (arith, lt))
take-past [] ys y n (suc b) e lt = (take b ys, refl)
take-past (x ∷ xs) ys y n zero e lt = absurd (omega (arith, lt))
take-past (x ∷ xs) ys y n (suc b) e lt =
    let r = take-past xs ys y (length xs) b refl (omega (arith, e, lt)) in
    (r.0, ap (λ v. x ∷ v) r.1)

pub sofar-lacks : (plan : Plan) (e : Entry) (es : List Entry) (old now new : Option (List ℕ)) (n budget : ℕ)
    → IsSoFar plan (e ∷ es) old now n → n < budget → AppendsPart now new (line plan e) → AppendsPart old new (trace_text plan (take budget (sequential_run plan)))
sofar-lacks plan e es old now new n budget so lt w =
    let r = take-past so.entries es e n budget so.count lt in
    let text : trace_text plan (take budget (sequential_run plan)) ≡ trace_text plan so.entries ++ (line plan e ++ trace_text plan r.0) =
    ap (λ v. trace_text plan (take budget v)) so.parts ∙ ap (trace_text plan) r.1 ∙ flat_map-append (line plan) so.entries (e ∷ r.0) in
    rw text (part-within old now new (trace_text plan so.entries) (line plan e) (trace_text plan r.0) so.grew w)
