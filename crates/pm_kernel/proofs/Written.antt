-- What a stage has written of what it committed.
use Rattle.std.proofs.Common.{◌≡◌, ◌≢◌, List, Option, [], refl, ℕ}
use Rattle.std.specs.Io.KnownBytes.{Appends}
use Rattle.pm_base.specs.declared.rows.Entry.{Entry}
use Rattle.pm_base.specs.declared.run.RunSettings.{RunSettings}
use Rattle.pm_io.proofs.Known.{appends-none, prefix-all, prefix-none, prefix-part}
use Rattle.pm_io.specs.Causes.{AppendsPart, AppendsPrefix}
use Rattle.pm_model.specs.Traces.{trace_text}
use Rattle.pm_plan.specs.declared.plan.Plan.{Plan}
use Rattle.pm_kernel.specs.Counts.{counted_on}
use Rattle.pm_kernel.specs.Engines.{HasCommitted, RunView}
use Rattle.pm_kernel.specs.declared.stage.Staged.{Staged}
use Rattle.pm_kernel.specs.declared.stage.Staged.TheVariants as staged
use Rattle.pm_kernel.specs.declared.writing.Counts.{Counts}
use Rattle.pm_kernel.specs.declared.writing.Wrote.{Wrote}
use Rattle.pm_kernel.specs.declared.writing.Wrote.TheVariants as wrote

-- the clause of a stage
abbrev pub StageText : Plan → RunSettings → RunView → RunView → Option (List ℕ) → Option (List ℕ) → Counts → Counts
    → Staged → Type 0
StageText p s old new a b x y st = (es : List Entry) × HasCommitted p s old new es
    × AppendsPrefix a b (trace_text p es)
    × (st ≡ staged.WriteFault → AppendsPart a b (trace_text p es))
    × ((n : ℕ) → st ≡ staged.More n → (y ≡ counted_on x es) × Appends a b (trace_text p es))

-- nothing was committed and nothing written
pub text_nothing : (p : Plan) (s : RunSettings) (old new : RunView) (a b : Option (List ℕ)) (x y : Counts)
    → HasCommitted p s old new [] → b ≡ a → StageText p s old new a b x y staged.Memory
text_nothing p s old new a b x y c e =
    ([], c, rw e (prefix-none a (trace_text p [])), (λ f. absurd (cc)), (λ n f. absurd (cc)))

-- what follows from how the lines were written
pub text_written : (p : Plan) (s : RunSettings) (old new : RunView) (a b : Option (List ℕ)) (x y : Counts) (st : Staged)
    (wr : Wrote) (es : List Entry)
    → ((n : ℕ) → st ≡ staged.More n → wr ≡ wrote.All) → (st ≡ staged.WriteFault → wr ≡ wrote.WriteFault)
    → HasCommitted p s old new es
    → (wr ≡ wrote.All → (y ≡ counted_on x es) × Appends a b (trace_text p es))
    → (wr ≢ wrote.All → AppendsPart a b (trace_text p es)) → StageText p s old new a b x y st
text_written p s old new a b x y st wrote.All es more fault commits all lacks =
    let r = all refl in
    (es, commits, prefix-all a b (trace_text p es) r.1, (λ e. absurd (let z = fault e in cc)), (λ n e. r))
text_written p s old new a b x y st wrote.WriteFault es more fault commits all lacks =
    let r = lacks (λ e. cc) in
    (es, commits, prefix-part a b (trace_text p es) r, (λ e. r), (λ n e. absurd (let z = more n e in cc)))
text_written p s old new a b x y st wrote.Memory es more fault commits all lacks =
    let r = lacks (λ e. cc) in
    (es, commits, prefix-part a b (trace_text p es) r, (λ e. r), (λ n e. absurd (let z = more n e in cc)))

-- the clause of a first Commit
abbrev pub StartText : Plan → RunSettings → RunView → RunView → Option (List ℕ) → Option (List ℕ) → Wrote → Type 0
StartText p s old new a b wr = (es : List Entry) × HasCommitted p s old new es
    × AppendsPrefix a b (trace_text p es)
    × (wr ≡ wrote.WriteFault → AppendsPart a b (trace_text p es))
    × (wr ≡ wrote.All → Appends a b (trace_text p es))

-- nothing was to be committed
pub start_nothing : (p : Plan) (s : RunSettings) (old new : RunView) (a : Option (List ℕ))
    → HasCommitted p s old new [] → StartText p s old new a a wrote.All
start_nothing p s old new a c =
    ([], c, prefix-none a (trace_text p []), (λ f. absurd (cc)), (λ f. appends-none a))

-- what follows from how its lines were written
pub start_written : (p : Plan) (s : RunSettings) (old new : RunView) (a b : Option (List ℕ)) (wr : Wrote) (es : List Entry)
    → HasCommitted p s old new es → (wr ≡ wrote.All → Appends a b (trace_text p es))
    → (wr ≢ wrote.All → AppendsPart a b (trace_text p es)) → StartText p s old new a b wr
start_written p s old new a b wrote.All es commits all lacks =
    let r = all refl in
    (es, commits, prefix-all a b (trace_text p es) r, (λ e. absurd (cc)), (λ e. r))
start_written p s old new a b wrote.WriteFault es commits all lacks =
    let r = lacks (λ e. cc) in
    (es, commits, prefix-part a b (trace_text p es) r, (λ e. r), (λ e. absurd (cc)))
start_written p s old new a b wrote.Memory es commits all lacks =
    let r = lacks (λ e. cc) in
    (es, commits, prefix-part a b (trace_text p es) r, (λ e. r), (λ e. absurd (cc)))

-- no memory for a first Commit
pub start_starved : (p : Plan) (s : RunSettings) (old new : RunView) (a : Option (List ℕ))
    → HasCommitted p s old new [] → StartText p s old new a a wrote.Memory
start_starved p s old new a c =
    ([], c, prefix-none a (trace_text p []), (λ f. absurd (cc)), (λ f. absurd (cc)))
