-- How the line of an event is read.
use Rattle.std.specs.Prelude.{ℕ, ◌+◌, ◌-◌, ◌*◌, Bool, true, false, not, ◌==◌, nat_le, nat_eq, if◌then◌else◌}
use Rattle.std.specs.Prelude.{List, [], ◌∷◌, length, take, drop, codes, Option, Some, None, option_map, option_and_then}
use Rattle.std.specs.Char.{is_ascii_digit}
use Rattle.std.specs.List.{starts_with}
use Rattle.pm_base.specs.declared.run.Event.{Event}
use Rattle.pm_base.specs.declared.run.Event.TheVariants.{Deliver, Commit}
use Rattle.pm_base.specs.declared.stamp.Line.TheVariants.{At, End}

-- how many bytes at the front are digits
abbrev pub digits_len : List ℕ → ℕ
digits_len [] = 0
digits_len (b ∷ t) = if is_ascii_digit b then digits_len t + 1 else 0

-- there are digits, and no needless zero before them
abbrev pub is_plain : List ℕ → Bool
is_plain [] = false
is_plain (b ∷ []) = true
is_plain (b ∷ c ∷ ds) = not (b == 48)

-- the number that digits write, after those that write n
abbrev pub value_after : ℕ → List ℕ → ℕ
value_after n [] = n
value_after n (c ∷ cs) = value_after (n * 10 + (c - 48)) cs

-- the number that digits write, where it is at most so much
unfoldable pub at_most : ℕ → List ℕ → Option ℕ
at_most most ds = if nat_le (value_after 0 ds) most then Some (value_after 0 ds) else None

-- the number that these digits write, and what comes after them
abbrev pub number_in : ℕ → List ℕ → List ℕ → Option (ℕ × List ℕ)
number_in most ds rest = if is_plain ds then option_map (λ n. (n, rest)) (at_most most ds) else None

-- the number at the front, and what comes after it
unfoldable pub number_at : ℕ → List ℕ → Option (ℕ × List ℕ)
number_at most text = number_in most (take (digits_len text) text) (drop (digits_len text) text)

-- what comes after this word
unfoldable pub after : List ℕ → List ℕ → Option (List ℕ)
after word text = if starts_with nat_eq text word then Some (drop (length word) text) else None

infixl 10 ◌>>=◌
-- first the one, and then the other with what it gave
abbrev pub ◌>>=◌ : {A B : Type 0} → Option A → (A → Option B) → Option B
o >>= f = option_and_then f o

-- the first of the two that is there
abbrev pub or_else : {A : Type 0} → Option A → Option A → Option A
or_else (Some a) other = Some a
or_else None other = other

-- two numbers with a space between them and a line feed behind them, and what comes after
unfoldable pub pair_at : ℕ → List ℕ → Option (ℕ × ℕ × List ℕ)
pair_at most text = do
  a ← number_at most text
  t ← after (codes " ") a.1
  b ← number_at 4294967295 t
  u ← after (codes "\n") b.1
  Some (a.0, b.0, u)

-- a delivery, and what comes after its line
unfoldable pub deliver_at : List ℕ → Option (Event × List ℕ)
deliver_at text = do
  t ← after (codes "#j d ") text
  p ← pair_at 4294967295 t
  Some (Deliver p.0 p.1, p.2)

-- a commit at a stamp, and what comes after its line
abbrev pub stamp_at : List ℕ → Option (Event × List ℕ)
stamp_at text = do
  p ← pair_at 18446744073709551615 text
  Some (Commit (At (record { time = p.0; agent = p.1 })), p.2)

-- a commit at the end, and what comes after its line
abbrev pub end_at : List ℕ → Option (Event × List ℕ)
end_at text = do
  u ← after (codes "end\n") text
  Some (Commit End, u)

-- a commit, and what comes after its line
unfoldable pub commit_at : List ℕ → Option (Event × List ℕ)
commit_at text = do
  t ← after (codes "#j c ") text
  or_else (stamp_at t) (end_at t)

-- the event whose line stands at the front, and what comes after it
unfoldable pub event_at : List ℕ → Option (Event × List ℕ)
event_at text = or_else (deliver_at text) (commit_at text)
