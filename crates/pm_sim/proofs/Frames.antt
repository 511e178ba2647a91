-- A CLP's part of a delivery, as a class sees it; and what is kept of bounds.
use Rattle.pm_tables.specs.Tables.{known_at}
use Rattle.pm_sim.specs.Bounds.{Net, between, item_of, items, net_of, sent_to}
use Rattle.pm_clp.specs.Clps.{ClpState}
use Rattle.pm_sim.specs.Worlds.{ports, Link, Posted, Process, post_all}
use Rattle.std.proofs.Common.{◌≡◌, ℕ, suc, List, [], ◌∷◌, ◌++◌, refl, arith, ap, sym, ◌∙◌}
use Rattle.pm_base.specs.declared.rows.Parts.{Parts}
use Rattle.pm_message.specs.declared.Message.{Message}
use Rattle.pm_plan.specs.declared.plan.Plan.{Plan}
use Rattle.pm_sim.specs.Worlds.Process.{AtClp}
use Rattle.pm_sim.proofs.Tells.{Frame}
use Rattle.pm_sim.proofs.Wires.{post_more, posted_else, flat_append}

not_suc : (c : ℕ) → AtClp (suc c) ≡ AtClp c → ⊥
not_suc c e = (let h : suc c ≡ c = go (suc c) c e in omega arith)
  where
    go : (a b : ℕ) → AtClp a ≡ AtClp b → a ≡ b
    go a b f = cc

clp_not : (a b : ℕ) → (a ≡ b → ⊥) → AtClp a ≡ AtClp b → ⊥
clp_not a b n e = n (go e)
  where
    go : AtClp a ≡ AtClp b → a ≡ b
    go f = cc

-- the CLPs cs and links ls became cs' and ls', where c has sent these
module _ (p : Plan) (c : ℕ) (cs cs' : ℕ → ClpState) (ls mid : List Link)
    (recs recs' : ℕ → Parts) (ss : List Posted) (there : (d : ℕ) → (d ≡ c → ⊥) → cs' d ≡ cs d) (k : ℕ) where
  abbrev old : Net
  old = net_of p k cs ls recs

  abbrev new : Net
  new = net_of p k cs' (post_all (AtClp c) ss mid) recs'

  -- where nothing of the class was taken
  pub plain_frame : ((a b : Process) → items p k (between a b mid) ≡ items p k (between a b ls))
      → Frame c (suc c) [] (old.link (suc c) c) (λ e. items p k (sent_to e ss)) old new
  plain_frame same = record {
    told_else = λ d e n. ap (λ (z : ClpState). known_at (ports p d) e k z.told) (there d n);
    bound_else = λ d e n. ap (λ (z : ClpState). known_at (ports p d) e k z.bound) (there d n);
    not_self = λ h. (omega arith);
    head = refl;
    behind = ap (items p k) (posted_else (AtClp c) (AtClp c) (AtClp (suc c)) ss mid (not_suc c))
        ∙ same (AtClp c) (AtClp (suc c));
    link_else = λ d e n _. ap (items p k) (posted_else (AtClp c) (AtClp e) (AtClp d) ss mid (clp_not d c n))
        ∙ same (AtClp e) (AtClp d);
    link_out = λ e. out e ∙ ap (λ z. z ++ items p k (sent_to e ss)) (same (AtClp e) (AtClp c));
  }
    where
      out : (e : ℕ) → items p k (between (AtClp e) (AtClp c) (post_all (AtClp c) ss mid))
          ≡ items p k (between (AtClp e) (AtClp c) mid) ++ items p k (sent_to e ss)
      out e = ap (items p k) (post_more (AtClp c) e ss mid)
          ∙ flat_append (item_of p k) (between (AtClp e) (AtClp c) mid) (sent_to e ss)

  -- where a letter of y was
  pub item_frame : (y : ℕ) (m : Message) → (y ≡ c → ⊥) → between (AtClp c) (AtClp y) ls ≡ m ∷ between (AtClp c)
      (AtClp y) mid → ((a b : Process) → ((a ≡ AtClp c) × (b ≡ AtClp y) → ⊥) → between a b mid ≡ between a b ls)
      → Frame c y (item_of p k m) (items p k (between (AtClp c) (AtClp y) mid)) (λ e. items p k (sent_to e ss)) old new
  item_frame y m ny head others = record {
    told_else = λ d e n. ap (λ (z : ClpState). known_at (ports p d) e k z.told) (there d n);
    bound_else = λ d e n. ap (λ (z : ClpState). known_at (ports p d) e k z.bound) (there d n);
    not_self = ny;
    head = ap (items p k) head;
    behind = ap (items p k) (posted_else (AtClp c) (AtClp c) (AtClp y) ss mid (clp_not y c ny));
    link_else = λ d e n nn. ap (items p k) (posted_else (AtClp c) (AtClp e) (AtClp d) ss mid (clp_not d c n)
        ∙ others (AtClp e) (AtClp d) (λ q. nn (same d y q.1, same e c q.0)));
    link_out = λ e. ap (items p k) (post_more (AtClp c) e ss mid)
        ∙ (flat_append (item_of p k) (between (AtClp e) (AtClp c) mid) (sent_to e ss)
        ∙ ap
        (λ z. items p k z ++ items p k (sent_to e ss)) (others (AtClp e) (AtClp c) (λ q. ny (sym (same c y q.1)))));
  }
    where
      same : (a b : ℕ) → AtClp a ≡ AtClp b → a ≡ b
      same a b f = cc
