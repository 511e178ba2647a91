-- What a reader of tokens answers.
use Rattle.std.specs.Prelude.{◌≡◌, Option, Some, None, Result, Ok, Err, option_and_then}
use Rattle.pm_tokens.specs.declared.stop.Stop.{Stop}
use Rattle.pm_tokens.specs.declared.stop.Stop.TheVariants as stop

infixl 10 ◌>>=◌
-- on with what was read, where something was
abbrev pub ◌>>=◌ : {A B : Type 0} → Option A → (A → Option B) → Option B
o >>= f = option_and_then f o

-- a reader stopped: for want of memory, which says nothing of the text, or because what it was to read doesn't stand
-- there
abbrev pub Stops : {Y : Type 0} → Stop → Option Y → Type 0
Stops stop.Memory read = Unit {0}
Stops stop.Word read = read ≡ None

-- what a reader returned, seen by view, is what the text gives, unless memory ran out
abbrev pub Gives : {X Y : Type 0} → (X → Y) → Result X Stop → Option Y → Type 0
Gives view (Ok x) read = read ≡ Some (view x)
Gives view (Err e) read = Stops e read
