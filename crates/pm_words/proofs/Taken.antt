-- The parts that the parser takes the words for. It refuses a value that looks like a flag, and
-- takes a word `-` as positional.
use Rattle.std.proofs.Common.{◌≡◌, ℕ, cond, codes, refl, List, [], ◌∷◌, ◌++◌, map, Option, Some, None}
use Rattle.std.specs.Prelude.{option_and_then, slice_get}
use Rattle.std.specs.Str.{bytes_eq, chars}
use Rattle.clap.specs.Lexer.{long_of, short_of}
use Rattle.clap.specs.Walk.{Row, has_row}
use Rattle.clap.specs.declared.parser.matches.ValueSource.TheVariants.{CommandLine}
use Rattle.clap.specs.declared.builder.value_parser.Reading.TheVariants as reading
use Rattle.pm_words.specs.Words.{Text, Part, positional, with_part, named_parts}

-- the first character of `-abc`, if it has one
abbrev pub short_in : Option Text → Option ℕ
short_in = option_and_then (λ flags. slice_get (chars flags) 0)

abbrev pub unless_short : Option ℕ → Option (List Part) → Option (List Part)
unless_short (Some x) rest = None
unless_short None rest = rest

abbrev pub value_taken : Option (Text × Option Text) → Text → Option (List Part) → Option (List Part)
value_taken (Some p) word rest = None
value_taken None word rest = unless_short (short_in (short_of word)) rest

abbrev pub word_taken : Option (Text × Option Text) → Text → Option (List Part) → (Text → Option (List Part))
    → Option (List Part)
word_taken (Some p) word rest more = named_parts p.0 p.1 rest (more p.0)
word_taken None word rest more = unless_short (short_in (short_of word)) (with_part (positional word) rest)

unfoldable pub taken_from : Option Text → List Text → Option (List Part)
taken_from None [] = Some []
taken_from (Some name) [] = None
taken_from (Some name) (word ∷ rest) = cond (bytes_eq word (codes "--")) None
    (value_taken (long_of word) word (with_part (name, word) (taken_from None rest)))
taken_from None (word ∷ rest) = cond (bytes_eq word (codes "--")) (Some (map positional rest))
    (word_taken (long_of word) word (taken_from None rest) (λ name. taken_from (Some name) rest))

-- ---- rows

abbrev pub part_row : Part → Row
part_row p = record {
  id = p.0;
  values = p.1 ∷ [];
  count = None;
  source = Some CommandLine;
  reading = reading.AsWritten;
}

-- the rows with those of the parts, where no name stands twice
unfoldable pub once : List Row → List Part → Option (List Row)
once rows [] = Some rows
once rows (p ∷ ps) = cond (has_row p.0 rows) None (once (rows ++ part_row p ∷ []) ps)

-- ---- binds

module _ {X : Type 0} where
  pub bind_none : (f : List Part → Option X) (n : Option (List Part)) → ((ps : List Part) → f ps ≡ None)
      → option_and_then f n ≡ None
  bind_none f None h = refl
  bind_none f (Some ps) h = h ps

  pub bind_same : (f g : List Part → Option X) (n : Option (List Part)) → ((ps : List Part) → f ps ≡ g ps)
      → option_and_then f n ≡ option_and_then g n
  bind_same f g None h = refl
  bind_same f g (Some ps) h = h ps

  pub bind_with : (f : List Part → Option X) (p : Part) (n : Option (List Part)) → option_and_then f (with_part p n)
      ≡ option_and_then (λ ps. f (p ∷ ps)) n
  bind_with f p None = refl
  bind_with f p (Some ps) = refl
