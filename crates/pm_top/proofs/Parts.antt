-- The scenario in an input of which not all was taken.
use Rattle.std.proofs.Common.{◌≡◌, refl, sym, ap, subst, ◌∙◌, ℕ, zero, suc, ◌+◌, ◌≤◌, ◌<◌, ◌==◌, ◌&&◌, Bool, true, false, if◌then◌else◌, List, [], ◌∷◌, ◌++◌, length, take, length-append, arith}
use Rattle.std.proofs.lemmas.List.{length-take-le}
use Rattle.pm_replay.specs.Parts.{begins_line, scenario_len, scenario_part}
use Rattle.pm_top.specs.Readings.{IsLongScenario, longest, scenario_in}
use Rattle.pm_words.specs.declared.settings.Mode.{Mode}
use Rattle.pm_words.specs.declared.settings.Mode.TheVariants as mode

if-in : (t : Bool) (k n : ℕ) → k ≤ n → (if t then 0 else suc k) ≤ suc n
if-in true k n h = omega arith
if-in false k n h = omega (arith, h)

len-in : (s : Bool) (xs : List ℕ) → scenario_len s xs ≤ length xs
len-in s [] = omega arith
len-in s (b ∷ bs) = if-in (s && begins_line (b ∷ bs)) (scenario_len (b == 10) bs) (length bs) (len-in (b == 10) bs)

-- how far what is found of a beginning holds of the whole
pub record Found (n k whole : ℕ) : Type 0 where
  pub short : k ≤ n → whole ≡ k
  pub long : n < k → n < whole

found-here : (n : ℕ) → Found n 0 0
found-here n = record { short = λ _. refl; long = λ h. h }

found-first : (k whole : ℕ) → Found 0 (suc k) (suc whole)
found-first k whole = record { short = λ h. absurd (omega (arith, h)); long = λ _. omega arith }

found-next : (n k whole : ℕ) → Found n k whole → Found (suc n) (suc k) (suc whole)
found-next n k whole f = record { short = λ h. ap suc (f.short (omega (arith, h))); long = λ h. omega (arith, f.long (omega (arith, h))) }

if-found : (n : ℕ) (t : Bool) (k whole l : ℕ) → n ≤ l → ((m : ℕ) → m + 1 ≤ l → Found m k whole) → Found n (if t then 0 else suc k) (if t then 0 else suc whole)
if-found n true k whole l h next = found-here n
if-found zero false k whole l h next = found-first k whole
if-found (suc n) false k whole l h next = found-next n k whole (next n (omega (arith, h)))

found : (n : ℕ) (s : Bool) (xs ys : List ℕ) → n + 3 ≤ length xs → Found n (scenario_len s xs) (scenario_len s (xs ++ ys))
found n s [] ys h = absurd (omega (arith, h))
found n s (a ∷ []) ys h = absurd (omega (arith, h))
found n s (a ∷ b ∷ []) ys h = absurd (omega (arith, h))
found n s (a ∷ b ∷ c ∷ xs) ys h = if-found n (s && begins_line (a ∷ b ∷ c ∷ xs)) (scenario_len (a == 10) (b ∷ c ∷ xs)) (scenario_len (a == 10) (b ∷ c ∷ (xs ++ ys))) (length xs)
    (omega (arith, h)) (λ m lt. found m (a == 10) (b ∷ c ∷ xs) ys (omega (arith, lt)))

part-length : (xs : List ℕ) → length (scenario_part xs) ≡ scenario_len true xs
part-length xs = length-take-le (scenario_len true xs) xs (len-in true xs)

replayed : (xs ys : List ℕ) → 67108864 < length xs → Found 4194304 (length (scenario_part xs)) (length (scenario_part (xs ++ ys)))
replayed xs ys many = rw (part-length xs, part-length (xs ++ ys)) (found 4194304 true xs ys (omega (arith, many)))

pub longer-scenario : (m : Mode) (xs ys : List ℕ) → longest m < length xs → IsLongScenario m xs → IsLongScenario m (xs ++ ys)
longer-scenario mode.Seq xs ys many long = omega (arith, long, length-append xs ys)
longer-scenario mode.Check xs ys many long = omega (arith, long, length-append xs ys)
longer-scenario mode.Run xs ys many long = omega (arith, long, length-append xs ys)
longer-scenario mode.Demo xs ys many long = omega (arith, long, length-append xs ys)
longer-scenario mode.Upgrade xs ys many long = omega (arith, long, length-append xs ys)
longer-scenario mode.Place xs ys many long = omega (arith, long, length-append xs ys)
longer-scenario mode.Cut xs ys many long = omega (arith, long, length-append xs ys)
longer-scenario mode.Replay xs ys many long = (replayed xs ys many).long long
longer-scenario mode.Lowest xs ys many long = omega (arith, long, length-append xs ys)

pub shorter-scenario : (m : Mode) (xs ys : List ℕ) → longest m < length xs → length (scenario_in m xs) ≤ 4194304 → length (scenario_in m (xs ++ ys)) ≤ 4194304
shorter-scenario mode.Seq xs ys many few = absurd (omega (arith, many, few))
shorter-scenario mode.Check xs ys many few = absurd (omega (arith, many, few))
shorter-scenario mode.Run xs ys many few = absurd (omega (arith, many, few))
shorter-scenario mode.Demo xs ys many few = absurd (omega (arith, many, few))
shorter-scenario mode.Upgrade xs ys many few = absurd (omega (arith, many, few))
shorter-scenario mode.Place xs ys many few = absurd (omega (arith, many, few))
shorter-scenario mode.Cut xs ys many few = absurd (omega (arith, many, few))
shorter-scenario mode.Replay xs ys many few = omega (arith, (replayed xs ys many).short few, few)
shorter-scenario mode.Lowest xs ys many few = absurd (omega (arith, many, few))
