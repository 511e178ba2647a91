-- The forwards of a class query at a CLP: what is sent over its ports, or the end back.
use Rattle.pm_queries.specs.Queries.{ask_of}
use Rattle.pm_queries.specs.declared.registered.Registered.{Registered}
use Rattle.pm_queries.specs.declared.registered.Sent.{Sent}
use Rattle.pm_base.specs.Stamps.{num_eq}
use Rattle.pm_clp.specs.Clps.{forwards}
use Rattle.pm_sim.proofs.Places.{process_clp, process_agent}
use Rattle.std.proofs.lemmas.Bool.{cond_both, cases_eq}
use Rattle.std.proofs.Common.{◌≡◌, ℕ, ◌<◌, ◌≤◌, ◌⊎◌, inl, inr, ◌==◌, Bool, true, false, ◌&&◌, List, [], ◌∷◌, map, filter, refl, arith, ap, sym, ◌∙◌, subst, ap₂}
use Rattle.std.proofs.lemmas.Bool.Decides.{nat_tests}
use Rattle.pm_base.specs.declared.stamp.Num.{Num}
use Rattle.pm_plan.specs.declared.plan.Plan.{Plan}
use Rattle.pm_sim.specs.Worlds.{Mail, Posted, Process, home, clps_of, number, process, posted, hub_of}
use Rattle.pm_sim.specs.Worlds.Process.{AtClp, AtAgent}
use Rattle.pm_sim.specs.Sims.{In, one_if, tally}
use Rattle.pm_sim.specs.Routings.{ask_to, mail_to, toward, TreeOk}
use Rattle.pm_sim.proofs.Letters.{sent_mail, in_map, map_in}
use Rattle.pm_sim.proofs.Watches.{sent_letters}
use Rattle.pm_base.specs.declared.stamp.Line.{Line}
use Rattle.pm_message.specs.declared.Message.TheVariants as message

pub process_toward : (p : Plan) (l : Line) (tree : TreeOk p) (c : ℕ)
    → c < clps_of p → (a : ℕ) → process p (number p (toward p c a)) ≡ toward p c a
process_toward p l tree c lc a = elim (cases_eq c (home p a)) [
  | inl f ↦ (let b : (c == home p a) ≡ true = grind (arith, nat_tests, f) in rw b (process_agent p a))
  | inr ne ↦ (let b : (c == home p a) ≡ false = grind (arith, nat_tests, ne) in
      rw b (process_clp p _ (tree.inside c _ (tree.hop_port c (home p a) lc (tree.homes a) ne))))
]

pub map_twice : {X Y Z : Type 0} (f : Y → Z) (g : X → Y) (xs : List X) → map f (map g xs) ≡ map (λ x. f (g x)) xs
map_twice f g [] = refl
map_twice f g (x ∷ xs) = ap (λ z. f (g x) ∷ z) (map_twice f g xs)

pub letters_posted : (p : Plan) (ss : List Sent) → map (λ (x : Posted). x.message) (map (posted p) ss) ≡ sent_letters ss
letters_posted p [] = refl
letters_posted p (x ∷ ss) = ap (λ z. x.message ∷ z) (letters_posted p ss)

-- the forwards of a query, sent to processes
module _ (p : Plan) (c : ℕ) (from : Process) (r : Registered) where
  abbrev pub fwd : List ℕ → List Posted
  fwd [] = record { to = from; message = message.Finish r.num r.stamp } ∷ []
  fwd (d ∷ ds) = map (λ (e : ℕ). record { to = AtClp e; message = ask_of r }) (d ∷ ds)

  pub fwd_is : (fn : ℕ) → process p fn ≡ from
      → (ds : List ℕ) → ((d : ℕ) → In d ds → d < clps_of p) → map (posted p) (forwards (hub_of p c) fn r ds) ≡ fwd ds
  fwd_is fn e [] low = ap (λ z. record { to = z; message = message.Finish r.num r.stamp } ∷ []) e
  fwd_is fn e (d ∷ ds) low = all (d ∷ ds) low
    where
      all : (ys : List ℕ)
          → ((d : ℕ) → In d ys → d < clps_of p) → map (posted p) (map (λ e. record { to = e; message = ask_of r }) ys)
          ≡ map (λ (e : ℕ). record { to = AtClp e; message = ask_of r }) ys
      all [] lo = refl
      all (y ∷ ys) lo = ap₂ (λ z zs. record { to = z; message = ask_of r } ∷ zs)
          (process_clp p y (lo y (inl refl))) (all ys (λ d k. lo d (inr k)))

  abbrev pub fw : List ℕ → List Mail
  fw ds = sent_mail (AtClp c) (fwd ds)

  pub fw_ask : (ds : List ℕ) (d : ℕ) → In d ds → In (mail_to (AtClp d) (AtClp c) (ask_of r)) (fw ds)
  fw_ask [] d i = absurd i
  fw_ask (y ∷ ys) d i =
      let one : ℕ → Posted = λ e. record { to = AtClp e; message = ask_of r } in
      let j : In (one d) (map one (y ∷ ys)) = map_in one (y ∷ ys) d i in
      map_in (λ (x : Posted). mail_to x.to (AtClp c) x.message) (map one (y ∷ ys)) (one d) j

  pub fw_end : (ds : List ℕ) → ds ≡ [] → In (mail_to from (AtClp c) (message.Finish r.num r.stamp)) (fw ds)
  fw_end ds e = subst (λ z. In (mail_to from (AtClp c) (message.Finish r.num r.stamp)) (fw z)) (sym e) (inl refl)

  pub out_is : (ds : List ℕ) (x : Posted)
      → In x (fwd ds) → ((d : ℕ) × In d ds × (x ≡ record { to = AtClp d; message = ask_of r }))
      ⊎ (x ≡ record { to = from; message = message.Finish r.num r.stamp })
  out_is [] x (inl e) = inr e
  out_is [] x (inr j) = absurd j
  out_is (y ∷ ys) x i = (let one : ℕ → Posted =
      λ e. record { to = AtClp e; message = ask_of r } in let o = in_map one (y ∷ ys) x i in inl (o.0, o.1, o.2))

  pub fw_is : (ds : List ℕ) (y : Mail) → In y (fw ds)
      → ((d : ℕ) × In d ds × (y ≡ mail_to (AtClp d) (AtClp c) (ask_of r)))
      ⊎ (y ≡ mail_to from (AtClp c) (message.Finish r.num r.stamp))
  fw_is ds y i =
      (let o = in_map (λ (x : Posted). mail_to x.to (AtClp c) x.message) (fwd ds) y i in elim (out_is ds o.0 o.1) [
        | inl a ↦ inl (a.0, a.1, o.2 ∙ ap (λ (x : Posted). mail_to x.to (AtClp c) x.message) a.2)
        | inr a ↦ inr (o.2 ∙ ap (λ (x : Posted). mail_to x.to (AtClp c) x.message) a)
      ])

  pub asks_tally : (m : Num) (e : ℕ) (ds : List ℕ) → tally (ask_to m e)
      (sent_mail (AtClp c) (map (λ d. record { to = AtClp d; message = ask_of r }) ds)) ≤ tally (λ d. e == d) ds
  asks_tally m e [] = omega arith
  asks_tally m e (d ∷ ds) = (let again = asks_tally m e ds in go (d == e) (e == d) (num_eq m r.num) (λ f. (let g : d
      ≡ e = grind (arith, nat_tests, f) in let h : (e == d) ≡ true = grind (arith, nat_tests, g) in h)) again)
    where
      go : (a b x : Bool) → (a ≡ true → b ≡ true) → tally (ask_to m e)
          (sent_mail (AtClp c) (map (λ d. record { to = AtClp d; message = ask_of r }) ds)) ≤ tally (λ d. e == d) ds
          → one_if (a && x)
          (tally (ask_to m e) (sent_mail (AtClp c) (map (λ d. record { to = AtClp d; message = ask_of r }) ds)))
          ≤ one_if b (tally (λ d. e == d) ds)
      go true true true h le = omega arith
      go true true false h le = omega arith
      go true false x h le = absurd (let f = h refl in cc)
      go false true x h le = omega arith
      go false false x h le = le

  pub fw_tally : (ds : List ℕ) (m : Num) (e : ℕ) → tally (ask_to m e) (fw ds) ≤ tally (λ d. e == d) ds
  fw_tally (d ∷ ds) m e = asks_tally m e (d ∷ ds)
  fw_tally [] m e = go from
    where
      go : (f : Process) → tally (ask_to m e) (mail_to f (AtClp c) (message.Finish r.num r.stamp) ∷ []) ≤ 0
      go (AtClp d) = by (d == e)
        where
          by : (b : Bool) → one_if (b && false) 0 ≤ 0
          by true = omega arith
          by false = omega arith
      go (AtAgent a) = omega arith

pub filter_tally : (P : ℕ → Bool) (d : ℕ) (xs : List ℕ) → tally (λ e. d == e) (filter P xs) ≤ tally (λ e. d == e) xs
filter_tally P d [] = omega arith
filter_tally P d (x ∷ xs) =
    (let again = filter_tally P d xs in cond_both (P x) (x ∷ filter P xs) (filter P xs) (λ z. tally (λ e. d == e) z
    ≤ one_if (d == x) (tally (λ e. d == e) xs)) (λ _. up (d == x) again) (λ _. up' (d == x) again))
  where
    up : (b : Bool) → tally (λ e. d == e) (filter P xs) ≤ tally (λ e. d == e) xs
        → one_if b (tally (λ e. d == e) (filter P xs)) ≤ one_if b (tally (λ e. d == e) xs)
    up true le = omega arith
    up false le = le

    up' : (b : Bool) → tally (λ e. d == e) (filter P xs) ≤ tally (λ e. d == e) xs
        → tally (λ e. d == e) (filter P xs) ≤ one_if b (tally (λ e. d == e) xs)
    up' true le = omega arith
    up' false le = le
