-- What a query is answered, by the numbers of the variables that it asks for.
use Rattle.std.proofs.Common.{◌≡◌, ℕ, zero, suc, ◌+◌, ◌<◌, ◌≤◌, List, [], ◌∷◌, ◌++◌, take, Bool, true, false, cond, Option, Some, None, refl, sym, ap, ◌∙◌, arith}
use Rattle.std.specs.Prelude.{slice_get, ◌==◌, ◌&&◌}
use Rattle.std.specs.List.{filter}
use Rattle.std.proofs.lemmas.Bool.Decides.{nat_tests}
use Rattle.std.proofs.lemmas.List.{append-nil, append_assoc}
use Rattle.pm_base.specs.Layouts.{class_row}
use Rattle.pm_base.specs.Windows.{inside}
use Rattle.pm_base.specs.declared.layout.ClassRow.{ClassRow}
use Rattle.pm_base.specs.declared.value.Hit.{Hit}
use Rattle.pm_base.specs.declared.value.Query.{Query}
use Rattle.pm_base.specs.declared.value.Query.TheVariants as query
use Rattle.pm_base.specs.declared.value.Value.{Value}
use Rattle.pm_base.specs.declared.value.Window.{Window}
use Rattle.pm_model.specs.Hits.{hits, numbered, is_asked, is_member, shown, shown_from, shown_in}

filter-yes : (P : Hit → Bool) (h : Hit) (hs : List Hit) → P h ≡ true → filter P (h ∷ hs) ≡ h ∷ filter P hs
filter-yes P h hs e = ap (λ b. cond b (h ∷ filter P hs) (filter P hs)) e

filter-no : (P : Hit → Bool) (h : Hit) (hs : List Hit) → P h ≡ false → filter P (h ∷ hs) ≡ filter P hs
filter-no P h hs e = ap (λ b. cond b (h ∷ filter P hs) (filter P hs)) e

-- none of the variables from k on is asked for
none-from : (P : Hit → Bool) (k : ℕ) (vs : List Value) → ((h : Hit) → k ≤ h.var → P h ≡ false) → filter P (numbered k vs) ≡ []
none-from P k [] none = refl
none-from P k (v ∷ vs) none =
    filter-no P (record { var = k; value = v }) (numbered (k + 1) vs) (none (record { var = k; value = v }) (omega arith))
    ∙ none-from P (k + 1) vs (λ h le. none h (omega (arith, le)))

-- none of the variables below m is asked for
none-below : (P : Hit → Bool) (k n m : ℕ) (vs : List Value) → m ≡ k + n → ((h : Hit) → h.var < m → P h ≡ false) → filter P (numbered k (take n vs)) ≡ []
none-below P k zero m vs e none = refl
none-below P k (suc n) m [] e none = refl
none-below P k (suc n) m (v ∷ vs) e none =
    filter-no P (record { var = k; value = v }) (numbered (k + 1) (take n vs)) (none (record { var = k; value = v }) (omega (arith, e)))
    ∙ none-below P (k + 1) n m vs (omega (arith, e)) none

-- none of the variables from m on is asked for: those below are all
all-below : (P : Hit → Bool) (k n m : ℕ) (vs : List Value) → m ≡ k + n → ((h : Hit) → m ≤ h.var → P h ≡ false)
    → filter P (numbered k (take n vs)) ≡ filter P (numbered k vs)
all-below P k zero m vs e none = sym (none-from P k vs (λ h le. none h (omega (arith, e, le))))
all-below P k (suc n) m [] e none = refl
all-below P k (suc n) m (v ∷ vs) e none =
    ap (λ hs. cond (P (record { var = k; value = v })) (record { var = k; value = v } ∷ hs) hs) (all-below P (k + 1) n m vs (omega (arith, e)) none)

cond-append : (b : Bool) (h : Hit) (xs ys : List Hit) → cond b (h ∷ (xs ++ ys)) (xs ++ ys) ≡ cond b (h ∷ xs) xs ++ ys
cond-append true h xs ys = refl
cond-append false h xs ys = refl

-- one more variable
one-more : (P : Hit → Bool) (k n m : ℕ) (vs : List Value) → m ≡ k + n
    → filter P (numbered k (take (suc n) vs)) ≡ filter P (numbered k (take n vs)) ++ filter P (shown m (slice_get vs n))
one-more P k zero m [] e = refl
one-more P k (suc n) m [] e = refl
one-more P k zero m (v ∷ vs) e = ap (λ i. filter P (record { var = i; value = v } ∷ [])) (omega (arith, e))
one-more P k (suc n) m (v ∷ vs) e =
    ap (λ hs. cond (P (record { var = k; value = v })) (record { var = k; value = v } ∷ hs) hs) (one-more P (k + 1) n m vs (omega (arith, e)))
    ∙ cond-append (P (record { var = k; value = v })) (record { var = k; value = v }) (filter P (numbered (k + 1) (take n vs))) (filter P (shown m (slice_get vs n)))

-- the variables below n that a query asks for
unfoldable pub hits_to : List ClassRow → List Value → Query → ℕ → List Hit
hits_to classes values q n = filter (is_asked classes q) (numbered 0 (take n values))

other-one : (n : ℕ) (h : Hit) → (h.var ≡ n → ⊥) → (h.var == n) ≡ false
other-one n h ne = grind (arith, nat_tests, ne)

shown-one : (n : ℕ) (o : Option Value) → filter (λ (h : Hit). h.var == n) (shown n o) ≡ shown n o
shown-one n None = refl
shown-one n (Some v) = filter-yes (λ (h : Hit). h.var == n) (record { var = n; value = v }) [] (grind (arith, nat_tests))

-- a query of one variable is a look-up
pub hits-one : (classes : List ClassRow) (values : List Value) (n : ℕ) → hits classes values (query.One n) ≡ shown n (slice_get values n)
unfolding hits
hits-one classes values n =
    let P : Hit → Bool = is_asked classes (query.One n) in
    sym (all-below P 0 (suc n) (suc n) values (omega arith) (λ h le. other-one n h (λ e. omega (arith, e, le))))
    ∙ one-more P 0 n n values (omega arith)
    ∙ ap (λ hs. hs ++ filter P (shown n (slice_get values n))) (none-below P 0 n n values (omega arith) (λ h lt. other-one n h (λ e. omega (arith, e, lt))))
    ∙ shown-one n (slice_get values n)

not-member : (row : ClassRow) (w : Window) (h : Hit) → is_member row h.var ≡ false → (is_member row h.var && inside h.value w) ≡ false
not-member row w h e = ap (λ b. b && inside h.value w) e

below-class : (row : ClassRow) (v : ℕ) → v < row.first → is_member row v ≡ false
below-class row v lt = grind (arith, nat_tests, lt)

past-class : (row : ClassRow) (v : ℕ) → row.first + row.count ≤ v → is_member row v ≡ false
past-class row v le = grind (arith, nat_tests, le)

in-class : (row : ClassRow) (v : ℕ) → row.first ≤ v → v < row.first + row.count → is_member row v ≡ true
in-class row v le lt = grind (arith, nat_tests, le, lt)

-- the members of a class stand from its first variable on
pub hits_to-first : (classes : List ClassRow) (values : List Value) (class : ℕ) (w : Window)
    → hits_to classes values (query.Class class w) (class_row classes class).first ≡ []
unfolding hits_to
hits_to-first classes values class w =
    let row = class_row classes class in
    none-below (is_asked classes (query.Class class w)) 0 row.first row.first values (omega arith)
    (λ h lt. not-member row w h (below-class row h.var lt))

-- and end before the next class
pub hits_to-end : (classes : List ClassRow) (values : List Value) (class : ℕ) (w : Window) (n : ℕ)
    → n ≡ (class_row classes class).first + (class_row classes class).count
    → hits_to classes values (query.Class class w) n ≡ hits classes values (query.Class class w)
unfolding hits_to hits
hits_to-end classes values class w n e =
    let row = class_row classes class in
    all-below (is_asked classes (query.Class class w)) 0 n n values (omega arith)
    (λ h le. not-member row w h (past-class row h.var (omega (arith, e, le))))

shown-in : (classes : List ClassRow) (class : ℕ) (w : Window) (n : ℕ) (o : Option Value) → is_member (class_row classes class) n ≡ true
    → filter (is_asked classes (query.Class class w)) (shown n o) ≡ shown_in w n o
shown-in classes class w n None e = refl
shown-in classes class w n (Some v) e = ap (λ b. cond (b && inside v w) (record { var = n; value = v } ∷ []) []) e

pub hits_to-more : (classes : List ClassRow) (values : List Value) (class : ℕ) (w : Window) (n : ℕ)
    → (class_row classes class).first ≤ n → n < (class_row classes class).first + (class_row classes class).count
    → hits_to classes values (query.Class class w) (n + 1) ≡ hits_to classes values (query.Class class w) n ++ shown_in w n (slice_get values n)
unfolding hits_to
hits_to-more classes values class w n le lt =
    let more : n + 1 ≡ suc n = omega arith in
    ap (λ i. filter (is_asked classes (query.Class class w)) (numbered 0 (take i values))) more
    ∙ one-more (is_asked classes (query.Class class w)) 0 n n values (omega arith)
    ∙ ap (λ hs. filter (is_asked classes (query.Class class w)) (numbered 0 (take n values)) ++ hs)
    (shown-in classes class w n (slice_get values n) (in-class (class_row classes class) n le lt))

-- the members from number n on
members-from : (classes : List ClassRow) (values : List Value) (class : ℕ) (w : Window) (n c : ℕ)
    → (class_row classes class).first ≤ n → n + c ≡ (class_row classes class).first + (class_row classes class).count
    → hits classes values (query.Class class w) ≡ hits_to classes values (query.Class class w) n ++ shown_from w values n c
members-from classes values class w n zero le e =
    sym (hits_to-end classes values class w n (omega (arith, e)))
    ∙ sym (append-nil (hits_to classes values (query.Class class w) n))
members-from classes values class w n (suc c) le e =
    members-from classes values class w (n + 1) c (omega (arith, le)) (omega (arith, e))
    ∙ ap (λ hs. hs ++ shown_from w values (n + 1) c) (hits_to-more classes values class w n le (omega (arith, e)))
    ∙ append_assoc (hits_to classes values (query.Class class w) n) (shown_in w n (slice_get values n)) (shown_from w values (n + 1) c)

-- a query of a class goes through its members
pub hits-class : (classes : List ClassRow) (values : List Value) (class : ℕ) (w : Window)
    → hits classes values (query.Class class w) ≡ shown_from w values (class_row classes class).first (class_row classes class).count
hits-class classes values class w =
    let row = class_row classes class in
    members-from classes values class w row.first row.count (omega arith) refl
    ∙ ap (λ hs. hs ++ shown_from w values row.first row.count) (hits_to-first classes values class w)
