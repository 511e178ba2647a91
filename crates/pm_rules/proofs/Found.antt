-- What stands in what was read: symbols, names, operators, fields.
use Rattle.std.proofs.Common.{◌≡◌, refl, ap, sym, ◌∙◌, arith, ℕ, suc, ◌+◌, ◌<◌, Bool, true, false, List, [], ◌∷◌, length, get_or, Option, Some, None, codes, nat_lt, ℤ}
use Rattle.std.specs.Prelude.{◌^◌, if◌then◌else◌, option_map}
use Rattle.std.specs.Str.{bytes_eq}
use Rattle.std.proofs.lemmas.Option.{same_Some}
use Rattle.std.proofs.lemmas.Slice.Eq.{bytes_eq-Decides}
use Rattle.std.proofs.lemmas.Bool.Decides.{nat_tests}
use Rattle.pm_base.specs.declared.program.Field.{Field}
use Rattle.pm_base.specs.declared.program.Field.TheVariants as field
use Rattle.pm_base.specs.declared.program.Op.{Op}
use Rattle.pm_base.specs.declared.program.Op.TheVariants as op
use Rattle.pm_tokens.specs.Answers.{◌>>=◌}
use Rattle.pm_rules.specs.Reading.{after, field_at, field_named, in_u32, is_assign, is_close, is_comma, is_dot, is_left, is_open, is_right, known_or_zero, name_at, number_from, number_in, number_of, operator, operator_by, operator_named}
use Rattle.pm_rules.specs.Spelling.{field_word, op_token}
use Rattle.pm_rules.specs.Statements.{assigned, declared, is_free, number_at, whole}
use Rattle.pm_tokens.specs.Tokens.{Tok, name, number, symbol}
use Rattle.pm_tokens.specs.declared.token.Symbol.{Symbol}
use Rattle.pm_tokens.specs.declared.token.Symbol.TheVariants as symbols

pub bind_ok : {A B : Type 0} (o : Option A) (f : A → Option B) (y : B) → (o >>= f) ≡ Some y →
    (x : A) × (o ≡ Some x) × (f x ≡ Some y)
bind_ok None f y e = cc
bind_ok (Some x) f y e = (x, refl, e)

pub map_ok : {A B : Type 0} (f : A → B) (o : Option A) (y : B) → option_map f o ≡ Some y →
    (x : A) × (o ≡ Some x) × (f x ≡ y)
map_ok f None y e = cc
map_ok f (Some x) y e = (x, refl, same_Some _ _ e)

-- one of two branches gave it
pub branch : {A : Type 0} (P : Type 0) (c : Bool) (a b : Option A) (y : A) → (c ≡ true → a ≡ Some y → P) →
    (c ≡ false → b ≡ Some y → P) →
    (if c then a else b) ≡ Some y → P
branch P true a b y first second e = first refl e
branch P false a b y first second e = second refl e

pub none : {A : Type 0} (P : Type 0) (y : A) → None ≡ Some y → P
none P y e = cc

pub same_text : (a b : List ℕ) → bytes_eq a b ≡ true → a ≡ b
same_text a b e = (bytes_eq-Decides a b).0 e

-- the symbol that a test passes
after_found : (test : Symbol → Bool) (s : Symbol) → ((t : Symbol) → test t ≡ true → t ≡ s) → (ts rest : List Tok) →
    after test ts ≡ Some rest → ts ≡ symbol s ∷ rest
unfolding after
after_found test s is [] rest e = cc
after_found test s is (name w ∷ ts) rest e = cc
after_found test s is (number z ∷ ts) rest e = cc
after_found test s is (symbol t ∷ ts) rest e = branch (symbol t ∷ ts ≡ symbol s ∷ rest) (test t) (Some ts) None rest
    (λ passes same. ap (λ (t : Symbol). symbol t ∷ ts) (is t passes) ∙ ap (λ (r : List Tok). symbol s ∷ r)
    (same_Some _ _ same))
    (λ fails never. none _ rest never) e

pub only_open : (t : Symbol) → is_open t ≡ true → t ≡ symbols.Open
only_open symbols.Open e = refl
only_open t e = cc

only_close : (t : Symbol) → is_close t ≡ true → t ≡ symbols.Close
only_close symbols.Close e = refl
only_close t e = cc

only_left : (t : Symbol) → is_left t ≡ true → t ≡ symbols.LeftBracket
only_left symbols.LeftBracket e = refl
only_left t e = cc

only_right : (t : Symbol) → is_right t ≡ true → t ≡ symbols.RightBracket
only_right symbols.RightBracket e = refl
only_right t e = cc

only_dot : (t : Symbol) → is_dot t ≡ true → t ≡ symbols.Dot
only_dot symbols.Dot e = refl
only_dot t e = cc

only_comma : (t : Symbol) → is_comma t ≡ true → t ≡ symbols.Comma
only_comma symbols.Comma e = refl
only_comma t e = cc

only_assign : (t : Symbol) → is_assign t ≡ true → t ≡ symbols.Assign
only_assign symbols.Assign e = refl
only_assign t e = cc

pub close_found : (ts rest : List Tok) → after is_close ts ≡ Some rest → ts ≡ symbol symbols.Close ∷ rest
close_found = after_found is_close symbols.Close only_close

pub left_found : (ts rest : List Tok) → after is_left ts ≡ Some rest → ts ≡ symbol symbols.LeftBracket ∷ rest
left_found = after_found is_left symbols.LeftBracket only_left

pub right_found : (ts rest : List Tok) → after is_right ts ≡ Some rest → ts ≡ symbol symbols.RightBracket ∷ rest
right_found = after_found is_right symbols.RightBracket only_right

pub dot_found : (ts rest : List Tok) → after is_dot ts ≡ Some rest → ts ≡ symbol symbols.Dot ∷ rest
dot_found = after_found is_dot symbols.Dot only_dot

pub comma_found : (ts rest : List Tok) → after is_comma ts ≡ Some rest → ts ≡ symbol symbols.Comma ∷ rest
comma_found = after_found is_comma symbols.Comma only_comma

pub assign_found : (ts rest : List Tok) → after is_assign ts ≡ Some rest → ts ≡ symbol symbols.Assign ∷ rest
assign_found = after_found is_assign symbols.Assign only_assign

pub name_found : (ts : List Tok) (r : List ℕ × List Tok) → name_at ts ≡ Some r → ts ≡ name r.0 ∷ r.1
unfolding name_at
name_found [] r e = cc
name_found (name w ∷ ts) r e = ap (λ (r : List ℕ × List Tok). name r.0 ∷ r.1) (same_Some _ _ e)
name_found (number z ∷ ts) r e = cc
name_found (symbol s ∷ ts) r e = cc

pub number_found : (ts : List Tok) (r : ℤ × List Tok) → number_at ts ≡ Some r → ts ≡ number r.0 ∷ r.1
unfolding number_at
number_found [] r e = cc
number_found (number z ∷ ts) r e = ap (λ (r : ℤ × List Tok). number r.0 ∷ r.1) (same_Some _ _ e)
number_found (name w ∷ ts) r e = cc
number_found (symbol s ∷ ts) r e = cc

word_of_field : (w : List ℕ) (f : Field) → field_named w ≡ Some f → w ≡ field_word f
word_of_field w f =
    let found : (g : Field) → bytes_eq w (field_word g) ≡ true → Some g ≡ Some f → w ≡ field_word f =
    λ g is e. same_text w (field_word g) is ∙ ap (λ (f : Field). field_word f) (same_Some _ _ e) in
    branch (w ≡ field_word f) (bytes_eq w (codes "n")) _ _ f (found field.N)
    (λ not_n. branch (w ≡ field_word f) (bytes_eq w (codes "i")) _ _ f (found field.I)
    (λ not_i. branch (w ≡ field_word f) (bytes_eq w (codes "x")) _ _ f (found field.X)
    (λ not_x. branch (w ≡ field_word f) (bytes_eq w (codes "y")) _ _ f (found field.Y)
    (λ not_y. branch (w ≡ field_word f) (bytes_eq w (codes "sx")) _ _ f (found field.Sx)
    (λ not_sx. branch (w ≡ field_word f) (bytes_eq w (codes "sy")) _ _ f (found field.Sy)
    (λ not_sy e. none _ f e))))))

pub field_found : (ts : List Tok) (r : Field × List Tok) → field_at ts ≡ Some r → ts ≡ name (field_word r.0) ∷ r.1
unfolding field_at
field_found [] r e = cc
field_found (name w ∷ ts) r e =
    let found = map_ok (λ (f : Field). (f, ts)) (field_named w) r e in
    ap (λ (w : List ℕ). name w ∷ ts) (word_of_field w found.0 found.1) ∙ ap
    (λ (r : Field × List Tok). name (field_word r.0) ∷ r.1) found.2
field_found (number z ∷ ts) r e = cc
field_found (symbol s ∷ ts) r e = cc

symbol_of_operator : (s : Symbol) (o : Op) → operator_by s ≡ Some o → symbol s ≡ op_token o
symbol_of_operator symbols.Plus o e = ap (λ (o : Op). op_token o) (same_Some op.Add o e)
symbol_of_operator symbols.Minus o e = ap (λ (o : Op). op_token o) (same_Some op.Sub o e)
symbol_of_operator symbols.Star o e = ap (λ (o : Op). op_token o) (same_Some op.Mul o e)
symbol_of_operator symbols.Slash o e = ap (λ (o : Op). op_token o) (same_Some op.Div o e)
symbol_of_operator symbols.Percent o e = ap (λ (o : Op). op_token o) (same_Some op.Rem o e)
symbol_of_operator symbols.Less o e = ap (λ (o : Op). op_token o) (same_Some op.Less o e)
symbol_of_operator symbols.AtMost o e = ap (λ (o : Op). op_token o) (same_Some op.AtMost o e)
symbol_of_operator symbols.Equal o e = ap (λ (o : Op). op_token o) (same_Some op.Equal o e)
symbol_of_operator symbols.Differ o e = ap (λ (o : Op). op_token o) (same_Some op.Differ o e)
symbol_of_operator s o e = cc

word_of_operator : (w : List ℕ) (o : Op) → operator_named w ≡ Some o → name w ≡ op_token o
word_of_operator w o = branch (name w ≡ op_token o) (bytes_eq w (codes "min")) _ _ o
    (λ is e. ap (λ (w : List ℕ). name w) (same_text w (codes "min") is) ∙ ap (λ (o : Op). op_token o)
    (same_Some op.Min o e))
    (λ not_min. branch (name w ≡ op_token o) (bytes_eq w (codes "max")) _ _ o
    (λ is e. ap (λ (w : List ℕ). name w) (same_text w (codes "max") is) ∙ ap (λ (o : Op). op_token o)
    (same_Some op.Max o e))
    (λ not_max e. none _ o e))

pub operator_found : (ts : List Tok) (r : Op × List Tok) → operator ts ≡ Some r → ts ≡ op_token r.0 ∷ r.1
unfolding operator
operator_found [] r e = cc
operator_found (symbol s ∷ ts) r e =
    let found = map_ok (λ (o : Op). (o, ts)) (operator_by s) r e in
    ap (λ (k : Tok). k ∷ ts) (symbol_of_operator s found.0 found.1) ∙ ap
    (λ (r : Op × List Tok). op_token r.0 ∷ r.1) found.2
operator_found (name w ∷ ts) r e =
    let found = map_ok (λ (o : Op). (o, ts)) (operator_named w) r e in
    ap (λ (k : Tok). k ∷ ts) (word_of_operator w found.0 found.1) ∙ ap
    (λ (r : Op × List Tok). op_token r.0 ∷ r.1) found.2
operator_found (number z ∷ ts) r e = cc

-- the number is below the end and below 2 ^ 32, and its name is the one that was looked for
pub record IsNumberFrom (i : ℕ) (names : List (List ℕ)) (w : List ℕ) (k : ℕ) : Type 0 where
  pub place : ℕ
  pub counted : k ≡ i + place
  pub there : place < length names
  pub name : get_or names place [] ≡ w
  pub low : k < 2 ^ 32

from_at : (w : List ℕ) (i : ℕ) (n : List ℕ) (ns : List (List ℕ)) (k : ℕ) →
    (number_from w (i + 1) ns ≡ Some k → IsNumberFrom (i + 1) ns w k) →
    number_from w i (n ∷ ns) ≡ Some k → IsNumberFrom i (n ∷ ns) w k
from_at w i n ns k more = branch (IsNumberFrom i (n ∷ ns) w k) (bytes_eq n w) (in_u32 i) (number_from w (i + 1) ns) k
    (λ is. branch (IsNumberFrom i (n ∷ ns) w k) (nat_lt i (2 ^ 32)) (Some i) None k
    (λ low e. let same : i ≡ k = same_Some _ _ e in
    record {
      place = 0;
      counted = omega (arith, same);
      there = omega arith;
      name = same_text n w is;
      low = grind
          (arith, nat_tests, same);
    })
    (λ high e. none _ k e))
    (λ isnt e. let found = more e in
    record {
      place = suc found.place;
      counted = omega (arith, found.counted);
      there = omega
          (arith, found.there);
      name = found.name;
      low = found.low;
    })

from_found : (w : List ℕ) (i : ℕ) (ns : List (List ℕ)) (k : ℕ) → number_from w i ns ≡ Some k → IsNumberFrom i ns w k
from_found w i [] k e = none _ k e
from_found w i (n ∷ ns) k e = from_at w i n ns k (λ rest. from_found w (i + 1) ns k rest) e

-- a name that is there has the number at which it stands
pub record IsNumberIn (names : List (List ℕ)) (w : List ℕ) (k : ℕ) : Type 0 where
  pub there : nat_lt k (length names) ≡ true
  pub name : w ≡ get_or names k []
  pub low : k < 2 ^ 32

is_below : (k n : ℕ) → k < n → nat_lt k n ≡ true
is_below k n h = grind (arith, nat_tests)

found_by : (names : List (List ℕ)) (w : List ℕ) (o : Option ℕ) → number_of names w ≡ o → (known_or_zero o).1 ≡ true →
    IsNumberIn names w (known_or_zero o).0
unfolding number_of
found_by names w None e h = cc
found_by names w (Some k) e h =
    let found = from_found w 0 names k e in
    let same : found.place ≡ k = omega (arith, found.counted) in
    record {
      there = is_below k (length names) (omega (arith, same, found.there));
      name = sym found.name ∙ ap (λ (k : ℕ). get_or names k []) same;
      low = found.low;
    }

pub number_in_found : (names : List (List ℕ)) (w : List ℕ) → (number_in names w).1 ≡ true →
    IsNumberIn names w (number_in names w).0
unfolding number_in
number_in_found names w h = found_by names w (number_of names w) refl h

pub whole_found : {A : Type 0} (a : A) (ts : List Tok) (r : A) → whole a ts ≡ Some r → (ts ≡ []) × (a ≡ r)
whole_found a [] r e = (refl, same_Some _ _ e)
whole_found a (t ∷ ts) r e = cc

pub declared_found : (ts : List Tok) (r : List ℕ × List Tok) → declared ts ≡ Some r →
    (ts ≡ name r.0 ∷ r.1) × (is_free r.0 ≡ true)
unfolding declared
declared_found ts r e =
    let w = bind_ok (name_at ts) _ r e in
    branch ((ts ≡ name r.0 ∷ r.1) × (is_free r.0 ≡ true)) (is_free w.0.0) (Some w.0) None r
    (λ free same. let is : w.0 ≡ r = same_Some _ _ same in
    (name_found ts r (w.1 ∙ same), sym (ap (λ (r : List ℕ × List Tok). is_free r.0) is) ∙ free))
    (λ reserved never. none _ r never) w.2

pub assigned_found : (ts : List Tok) (r : List ℕ × List Tok) → assigned ts ≡ Some r →
    (ts ≡ name r.0 ∷ symbol symbols.Assign ∷ r.1) × (is_free r.0 ≡ true)
unfolding assigned
assigned_found ts r e =
    let w = bind_ok (declared ts) _ r e in
    let rest = bind_ok (after is_assign w.0.1) _ r w.2 in
    let is : (w.0.0, rest.0) ≡ r = same_Some _ _ rest.2 in
    let head = declared_found ts w.0 w.1 in (
      head.0 ∙ ap (λ (t : List Tok). name w.0.0 ∷ t) (assign_found w.0.1 rest.0 rest.1)
          ∙ ap (λ (r : List ℕ × List Tok). name r.0 ∷ symbol symbols.Assign ∷ r.1) is,
      sym (ap (λ (r : List ℕ × List Tok). is_free r.0) is) ∙ head.1,
    )
