-- Puts that are sent one after another.
use Rattle.std.proofs.Common.{◌≡◌, refl, sym, ap, ◌∙◌, ℕ, zero, suc, ◌+◌, ◌<◌, ◌≤◌, List, [], ◌∷◌, ◌++◌, take, length}
use Rattle.std.proofs.Common.{get_or, arith, append-nil, append_assoc}
use Rattle.std.proofs.lemmas.List.{take_more}
use Rattle.pm_base.specs.declared.stamp.Num.{Num}
use Rattle.pm_base.specs.declared.stamp.Stamp.{Stamp}
use Rattle.pm_base.specs.declared.value.Write.{Write}
use Rattle.pm_message.specs.declared.Message.{Message}
use Rattle.pm_message.specs.declared.Message.TheVariants as message
use Rattle.pm_alp.specs.Agents.{nums_of, puts_of}

-- the puts of the first k writes were sent
pub record IsPutting (first : Num) (stamp : Stamp) (writes : List Write) (k : ℕ) (num : Num) (nums : List Num)
    (old new : List Message) : Type 0 where
  pub agent : num.agent ≡ first.agent
  pub seq : num.seq ≡ first.seq + k
  pub nums_are : nums ≡ nums_of first.agent first.seq (take k writes)
  pub sent : new ≡ old ++ puts_of first.agent stamp first.seq (take k writes)

later_num : (a n : ℕ) → ◌≡◌ {A = Num} (record { agent = a; seq = n + 0 }) (record { agent = a; seq = n })
later_num a n = let e : n + 0 ≡ n = omega arith in ap (λ m. record { agent = a; seq = m }) e

pub nums-append : (a n : ℕ) (ws : List Write) (w : Write)
    → nums_of a n (ws ++ w ∷ []) ≡ nums_of a n ws ++ record { agent = a; seq = n + length ws } ∷ []
nums-append a n [] w = let e : n ≡ n + 0 = omega arith in ap (λ m. record { agent = a; seq = m } ∷ []) e
nums-append a n (v ∷ ws) w =
    let e : n + 1 + length ws ≡ n + suc (length ws) = omega arith in
    ap (λ z. record { agent = a; seq = n } ∷ z) (nums-append a (n + 1) ws w
    ∙ ap (λ m. nums_of a (n + 1) ws ++ record { agent = a; seq = m } ∷ []) e)

pub puts-append : (a : ℕ) (s : Stamp) (n : ℕ) (ws : List Write) (w : Write)
    → puts_of a s n (ws ++ w ∷ []) ≡ puts_of a s n ws ++ puts_of a s (n + length ws) (w ∷ [])
puts-append a s n [] w = let e : n ≡ n + 0 = omega arith in ap (λ m. puts_of a s m (w ∷ [])) e
puts-append a s n (v ∷ ws) w =
    let e : n + 1 + length ws ≡ n + suc (length ws) = omega arith in
    ap (λ z. message.Put (record { agent = a; seq = n }) s v.var v.change ∷ z) (puts-append a s (n + 1) ws w
    ∙ ap (λ m. puts_of a s (n + 1) ws ++ puts_of a s m (w ∷ [])) e)

length_take : {X : Type 0} (k : ℕ) (xs : List X) → k ≤ length xs → length (take k xs) ≡ k
length_take zero xs le = refl
length_take (suc k) [] le = absurd (omega arith)
length_take (suc k) (x ∷ xs) le = ap suc (length_take k xs (omega arith))

pub putting-first : (first : Num) (stamp : Stamp) (writes : List Write) (old : List Message)
    → IsPutting first stamp writes 0 first [] old old
putting-first first stamp writes old = record {
  agent = refl;
  seq = omega arith;
  nums_are = refl;
  sent = sym
      (append-nil old);
}

pub putting-more : (first : Num) (stamp : Stamp) (writes : List Write) (k : ℕ) (d : Write) (num num' : Num)
    (nums nums' : List Num) (old new new' : List Message)
    → IsPutting first stamp writes k num nums old new → k < length writes → num'.agent ≡ num.agent
    → num'.seq ≡ num.seq + 1
    → nums' ≡ nums ++ num ∷ [] → new' ≡ new ++ puts_of num.agent stamp num.seq (get_or writes k d ∷ [])
    → IsPutting first stamp writes (k + 1) num' nums' old new'
putting-more first stamp writes k d num num' nums nums' old new new' p lt ea es en eo =
    let w : Write = get_or writes k d in
    let there : take (k + 1) writes ≡ take k writes ++ w ∷ [] = take_more writes k d lt in
    let long : length (take k writes) ≡ k = length_take k writes (omega arith) in
    let seq : num.seq ≡ first.seq + length (take k writes) = p.seq ∙ ap (λ m. first.seq + m) (sym long) in
    record {
      agent = ea ∙ p.agent;
      seq = omega (arith, es, p.seq);
      nums_are = en ∙ (ap (λ z. z ++ num ∷ []) p.nums_are
          ∙ (ap (λ (m : Num). nums_of first.agent first.seq (take k writes) ++ m ∷ []) (the_num num p.agent seq)
          ∙ (sym (nums-append first.agent first.seq (take k writes) w)
          ∙ ap (nums_of first.agent first.seq) (sym there))));
      sent = eo ∙ (ap (λ z. z ++ puts_of num.agent stamp num.seq (w ∷ [])) p.sent
          ∙ (append_assoc old (puts_of first.agent stamp first.seq (take k writes))
          (puts_of num.agent stamp num.seq (w ∷ []))
          ∙ ap (λ z. old ++ z) (ap (λ (m : Num). puts_of first.agent stamp first.seq
          (take k writes) ++ puts_of m.agent stamp m.seq (w ∷ [])) (the_num num p.agent seq)
          ∙ (sym (puts-append first.agent stamp first.seq (take k writes) w)
          ∙ ap (puts_of first.agent stamp first.seq) (sym there)))));
    }
  where
    the_num : (m : Num) {a n : ℕ} → m.agent ≡ a → m.seq ≡ n → m ≡ record { agent = a; seq = n }
    the_num m {a} {n} ea es = ap (λ x. record { agent = x; seq = m.seq }) ea
        ∙ ap (λ y. record { agent = a; seq = y }) es
