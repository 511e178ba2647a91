-- Laws of lines.
use Rattle.std.proofs.Common.{ℕ, ◌+◌, ◌<◌, ◌≤◌, Bool, true, false, length, take, drop, arith, add-one}
use Rattle.std.specs.Prelude.{◌==◌}
use Rattle.std.specs.List.{AllByRecursion}
use Rattle.std.proofs.lemmas.Bool.Decides.{nat_tests}
use Rattle.pm_tokens.specs.Lines.{lines_of, line_len, onto_first, joined, IsNoFeed, IsOneLine}
use Rattle.std.proofs.Common.{◌≡◌, refl, List, [], ◌∷◌}

more_at : (b : ℕ) (t : List ℕ) (is : Bool) → (b == 10) ≡ is → line_len (b ∷ t) < length (b ∷ t) →
    (line_len t < length t → lines_of t ≡ take (line_len t) t ∷ lines_of (drop (line_len t + 1) t)) →
    lines_of (b ∷ t) ≡ take (line_len (b ∷ t)) (b ∷ t) ∷ lines_of (drop (line_len (b ∷ t) + 1) (b ∷ t))
unfolding lines_of
more_at b t true e h ih = rw e refl
more_at b t false e h ih =
    let low : line_len t < length t = omega (arith, rw e at h) in
    rw (e, ih low, add-one, add-one) refl

-- the first line, where a line feed ends it
pub lines-more : (text : List ℕ) → line_len text < length text → lines_of text ≡ take (line_len text) text ∷ lines_of (drop (line_len text + 1) text)
lines-more [] h = absurd (omega arith)
lines-more (b ∷ t) h = more_at b t (b == 10) refl h (λ low. lines-more t low)

last_at : (b : ℕ) (t : List ℕ) (is : Bool) → (b == 10) ≡ is → length (b ∷ t) ≤ line_len (b ∷ t) →
    (length t ≤ line_len t → lines_of t ≡ t ∷ []) → lines_of (b ∷ t) ≡ (b ∷ t) ∷ []
unfolding lines_of
last_at b t true e h ih = absurd (omega (arith, rw e at h))
last_at b t false e h ih = let low : length t ≤ line_len t = omega (arith, rw e at h) in rw (e, ih low) refl

-- the last line
pub lines-last : (text : List ℕ) → length text ≤ line_len text → lines_of text ≡ text ∷ []
unfolding lines_of
lines-last [] h = refl
lines-last (b ∷ t) h = last_at b t (b == 10) refl h (λ low. lines-last t low)

joined-onto : (b : ℕ) (ls : List (List ℕ)) → joined (onto_first b ls) ≡ b ∷ joined ls
joined-onto b [] = refl
joined-onto b (l ∷ []) = refl
joined-onto b (l ∷ m ∷ ls) = refl

onto_some : (b : ℕ) (ls : List (List ℕ)) → (l : List ℕ) × (ms : List (List ℕ)) × (onto_first b ls ≡ l ∷ ms)
onto_some b [] = (b ∷ [], [], refl)
onto_some b (l ∷ ls) = (b ∷ l, ls, refl)

some_at : (b : ℕ) (t : List ℕ) (is : Bool) → (b == 10) ≡ is → (l : List ℕ) × (ms : List (List ℕ)) × (lines_of (b ∷ t) ≡ l ∷ ms)
unfolding lines_of
some_at b t true e = ([], lines_of t, rw e refl)
some_at b t false e = let some = onto_some b (lines_of t) in (some.0, some.1, rw e some.2)

-- a text has a line
some_line : (text : List ℕ) → (l : List ℕ) × (ms : List (List ℕ)) × (lines_of text ≡ l ∷ ms)
unfolding lines_of
some_line [] = ([], [], refl)
some_line (b ∷ t) = some_at b t (b == 10) refl

feed_first : (t : List ℕ) → joined ([] ∷ lines_of t) ≡ 10 ∷ joined (lines_of t)
feed_first t = let some = some_line t in rw some.2 refl

same_byte : (b : ℕ) → (b == 10) ≡ true → b ≡ 10
same_byte b e = grind (arith, nat_tests)

joined_at : (b : ℕ) (t : List ℕ) (is : Bool) → (b == 10) ≡ is → joined (lines_of t) ≡ t → joined (lines_of (b ∷ t)) ≡ b ∷ t
unfolding lines_of
joined_at b t true e ih = rw (e, feed_first t, ih, same_byte b e) refl
joined_at b t false e ih = rw (e, joined-onto b (lines_of t), ih) refl

-- the lines are the text, but for the line feeds between them
pub lines-joined : (text : List ℕ) → joined (lines_of text) ≡ text
unfolding lines_of
lines-joined [] = refl
lines-joined (b ∷ t) = joined_at b t (b == 10) refl (lines-joined t)

clean-onto : (b : ℕ) (ls : List (List ℕ)) → IsNoFeed b → AllByRecursion IsOneLine ls → AllByRecursion IsOneLine (onto_first b ls)
clean-onto b [] e all = ((e, tt), tt)
clean-onto b (l ∷ ls) e all = ((e, all.0), all.1)

clean_at : (b : ℕ) (t : List ℕ) (is : Bool) → (b == 10) ≡ is → AllByRecursion IsOneLine (lines_of t) → AllByRecursion IsOneLine (lines_of (b ∷ t))
unfolding lines_of
clean_at b t true e all = rw e (tt, all)
clean_at b t false e all = rw e (clean-onto b (lines_of t) e all)

-- no line has a line feed
pub lines-clean : (text : List ℕ) → AllByRecursion IsOneLine (lines_of text)
unfolding lines_of
lines-clean [] = (tt, tt)
lines-clean (b ∷ t) = clean_at b t (b == 10) refl (lines-clean t)
