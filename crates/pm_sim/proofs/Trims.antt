-- Trimming a record keeps what is seen at every stamp not below the line.
use Rattle.pm_base.specs.Stamps.{num_eq}
use Rattle.std.proofs.Common.{◌≡◌, inl, inr, Bool, true, false, cond, ◌||◌, List, [], ◌∷◌, filter, refl, ap, sym, ◌∙◌, subst}
use Rattle.std.proofs.lemmas.Bool.{cases_Bool, cond_both}
use Rattle.pm_periods.proofs.Trimming.{trim_keeps}
use Rattle.pm_base.specs.declared.rows.Parts.{Parts}
use Rattle.pm_base.specs.declared.rows.ReadRow.{ReadRow}
use Rattle.pm_base.specs.declared.stamp.Line.{Line}
use Rattle.pm_base.specs.declared.stamp.Num.{Num}
use Rattle.pm_base.specs.declared.stamp.Stamp.{Stamp}
use Rattle.pm_periods.specs.Records.{record_value, trimmed}
use Rattle.pm_periods.specs.Rows.{IsInOrder, put_key}
use Rattle.pm_sim.specs.Sims.{Each, In, NotPast, has_read, one_if, tally, told}
use Rattle.pm_sim.proofs.Stamps.{past_false}

pub in_filter : {X : Type 0} (P : X → Bool) (xs : List X) (x : X) → In x (filter P xs) → In x xs × (P x ≡ true)
in_filter P [] x i = absurd i
in_filter P (y ∷ ys) x i = elim (cases_Bool (P y)) [
  | inl e ↦ elim (subst (λ b. In x (cond b (y ∷ filter P ys) (filter P ys))) e i) [
    | inl f ↦ (inl f, ap P f ∙ e)
    | inr j ↦ (let r = in_filter P ys x j in (inr r.0, r.1))
  ]
  | inr e ↦
      (let r = in_filter P ys x (subst (λ b. In x (cond b (y ∷ filter P ys) (filter P ys))) e i) in (inr r.0, r.1))
]

pub filter_in : {X : Type 0} (P : X → Bool) (xs : List X) (x : X) → In x xs → P x ≡ true → In x (filter P xs)
filter_in P [] x i e = absurd i
filter_in P (y ∷ ys) x (inl f) e = (let g : P y ≡ true = ap P (sym f) ∙ e in rw g (inl f))
filter_in P (y ∷ ys) x (inr j) e =
    (let r = filter_in P ys x j e in cond_both (P y) (y ∷ filter P ys) (filter P ys) (In x) (λ _. inr r) (λ _. r))

pub tally_filter : {X : Type 0} (Q P : X → Bool) (xs : List X)
    → ((x : X) → In x xs → Q x ≡ true → P x ≡ true) → tally Q (filter P xs) ≡ tally Q xs
tally_filter Q P [] h = refl
tally_filter Q P (x ∷ xs) h = (let again = tally_filter Q P xs (λ y j. h y (inr j)) in elim (cases_Bool (P x)) [
  | inl e ↦ rw e (ap (one_if (Q x)) again)
  | inr e ↦ (let f : Q x ≡ false =
      elim (cases_Bool (Q x)) [ inl g ↦ absurd (let k = h x (inl refl) g in cc) | inr g ↦ g ] in rw (e, f) again)
])

pub told_filter : (n : Num) (P : ReadRow → Bool) (rs : List ReadRow)
    → ((r : ReadRow) → In r rs → num_eq n r.num ≡ true → P r ≡ true)
    → (told n (filter P rs) ≡ told n rs) × (has_read n (filter P rs) ≡ has_read n rs)
told_filter n P [] h = (refl, refl)
told_filter n P (r ∷ rs) h = (let again = told_filter n P rs (λ y j. h y (inr j)) in elim (cases_Bool (P r)) [
  | inl e ↦ (
    rw e (ap (λ z. cond (num_eq n r.num) (record { turn = r.turn; hit = r.hit }) z) again.0),
    rw e (ap (λ z. num_eq n r.num || z) again.1),
  )
  | inr e ↦ (let f : num_eq n r.num ≡ false =
      elim (cases_Bool (num_eq n r.num)) [ inl g ↦ absurd (let k = h r (inl refl) g in cc) | inr g ↦ g ] in
      (rw (e, f) (again.0), rw (e, f) (again.1)))
])

pub each_filter : {X : Type 0} (Q : X → Type 0) (P : X → Bool) (xs : List X) → Each Q xs → Each Q (filter P xs)
each_filter Q P [] a = tt
each_filter Q P (x ∷ xs) a = (let again =
    each_filter Q P xs a.1 in cond_both (P x) (x ∷ filter P xs) (filter P xs) (Each Q) (λ _. (a.0, again)) (λ _. again))

-- the trimmed record shows the same at each stamp not below the line
pub value_trim : (k : Line) (r : Parts) (s : Stamp)
    → IsInOrder put_key r.puts → NotPast k s → record_value (trimmed k r) s ≡ record_value r s
value_trim k r s o np = trim_keeps r k s o (past_false k s np)
