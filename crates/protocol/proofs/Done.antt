-- Every message that a node takes at its places, and its waking, is a deed among its neighbours.
use Rattle.std.proofs.Common.{◌≡◌, ℕ, ◌+◌, ◌<◌, Bool, true, false, cond, not, ◌&&◌, eqb, List, [], ◌++◌, length, get_or, is_some, Some, None, Option, sym, refl, ap, ◌∙◌, subst, arith}
use Rattle.message.specs.declared.messages.Message.{Message}
use Rattle.message.specs.declared.messages.Message.TheVariants.{Connect, Initiate, Test, Report, Change}
use Rattle.message.specs.declared.messages.Phase.{Phase}
use Rattle.graph.specs.declared.mark.Mark.{Mark}
use Rattle.graph.specs.declared.mark.Mark.TheVariants.{Basic, Branch, Rejected}
use Rattle.node.specs.declared.state.Node.{Node}
use Rattle.node.specs.declared.state.Turn.{Turn}
use Rattle.node.specs.Rules.{is_basic, is_branch, is_find, status_of, is_finding, is_edge, Sends, has_edge, mark_of, goes_on, silent, sending}
use Rattle.node.specs.Laws.{There, best_edge}
use Rattle.graph.specs.Graph.{Graph}
use Rattle.protocol.proofs.Bridge.{Bridged, below_onward, sent_none, sent_one, sent_to, sent_onward, sent_more}
use Rattle.protocol.proofs.Carry.{Below}
use Rattle.protocol.proofs.Deed.{In, got, one, opens, Picks, Nobody, Deed, Searches-ask, Searches-report, Searches-wait}
use Rattle.protocol.proofs.Doing.{Reported, reported, waiting, tests_is, shape_joining, ask_bridged}
use Rattle.protocol.proofs.Held.{Send, Held, is_none, marking, testing_now, finding, counting, branches_but, joining, onward, send_to}
use Rattle.protocol.proofs.Lift.{toward, best_to, held_of}
use Rattle.protocol.proofs.Outs.{out_to}
use Rattle.protocol.proofs.Reindex.{branches_same}
use Rattle.protocol.proofs.Shape.{Shape, inside_of, marked, held_branching, is_place}
use Rattle.protocol.specs.Net.{over}
use Rattle.node.specs.Rules as rules
use Rattle.message.specs.declared.messages.Phase.TheVariants as phase
use Rattle.node.specs.declared.state.Best.TheVariants as best

module _ (g : Graph) (i : ℕ) (near : List ℕ) (n : Node) (s : Shape g i near n) (inside : i < g.count) where
  abbrev at : ℕ → ℕ
  at j = get_or near j 0

  abbrev k : Held
  k = held_of near n

  pub held_absorbing : (j : ℕ) → j < length near → held_of near (rules.absorbing j n) ≡ counting (cond (is_find n.status) 1 0) (marking (at j) Branch k)
  held_absorbing j l = ap (counting (cond (is_find n.status) 1 0)) (held_branching g i near n s j l)

  pub held_joining : (j l f c : ℕ) (p : Phase) → c ≡ n.find_count + cond (is_finding p) (branches_but k (at j) g.count) 0 → held_of near (rules.joining j l f p c n) ≡ joining g (at j) l f p k
  held_joining j l f c p e =
      λ u. record { status = status_of p; mark = k.mark; level = l; name = f; find_count = e u; parent = Some (at j); best = None; best_weight = None; testing = k.testing; halted = n.halted }

  -- it joins a search
  pub search_bridged : (j l f : ℕ) → has_edge n j ≡ true → Bridged g i near n (got (at j) (Initiate l f phase.Find)) (rules.tests (rules.joining j l f phase.Find (n.find_count + rules.branches_but n j 16) n) (rules.onward n j (Initiate l f phase.Find) 16))
  search_bridged j l f e =
      ask_bridged g i near n s inside (got (at j) m) o x pre (shape_joining g i near n s inside j l f phase.Find c e) (below_onward k (at j) m g.count g.count (omega arith))
      (λ y z p b. sent_more g i near n s inside j m y z q p (basic y b)) (λ z. sent_more g i near n s inside j m j z q q back) (sent_onward g i near n s inside j m q)
      (λ y p. subst (λ v. Deed g i k (got (at j) m) (testing_now (Some y) v) (pre ++ one y (Test l f))) (sym h) (Searches-ask y (subst (λ v. Picks g i (opens v) y) h p)))
      (λ z a. subst (λ v. Deed g i k (got (at j) m) (finding (testing_now None v)) (pre ++ one (at j) (Report None))) (sym h) (Searches-report (subst (λ v. Nobody g i (opens v)) h z) (count a) refl))
      (λ z a. subst (λ v. Deed g i k (got (at j) m) (testing_now None v) (pre ++ [])) (sym h) (Searches-wait (subst (λ v. Nobody g i (opens v)) h z) (unready a)))
      (rules.tests o x) (tests_is o x)
    where
      m : Message
      m = Initiate l f phase.Find

      c : ℕ
      c = n.find_count + rules.branches_but n j 16

      o : Node
      o = rules.joining j l f phase.Find c n

      x : Sends
      x = rules.onward n j m 16

      pre : List Send
      pre = onward k (at j) m g.count

      q : j < length near
      q = inside_of g i near n s j e

      counted : rules.branches_but n j 16 ≡ branches_but k (at j) g.count
      counted = branches_same g i near n s j q

      h : held_of near o ≡ joining g (at j) l f phase.Find k
      h = held_joining j l f c phase.Find (ap (λ v. n.find_count + v) counted)

      count : c ≡ 0 → n.find_count + branches_but k (at j) g.count ≡ 0
      count a = ap (λ v. n.find_count + v) (sym counted) ∙ a

      unready : (eqb c 0 && true) ≡ false → (eqb (n.find_count + branches_but k (at j) g.count) 0 && true) ≡ false
      unready a = subst (λ v. (eqb (n.find_count + v) 0 && true) ≡ false) counted a

      basic : (y : ℕ) → is_basic (mark_of n y) ≡ true → goes_on n j y ≡ false
      basic y b = off (mark_of n y) b (has_edge n y) (eqb y j)
        where
          off : (d : Mark) → is_basic d ≡ true → (a b : Bool) → (not b && (a && is_branch d)) ≡ false
          off Basic z true true = refl
          off Basic z true false = refl
          off Basic z false true = refl
          off Basic z false false = refl
          off Branch z a b = absurd (grind arith)
          off Rejected z a b = absurd (grind arith)

      back : goes_on n j j ≡ false
      back = grind arith

  below_parent : (m : Message) → Below g.count (send_to (toward near n.parent) m)
  below_parent m = go n.parent s.within.parent_there
    where
      go : (q : Option ℕ) → There n q → Below g.count (send_to (toward near q) m)
      go None t = tt
      go (Some j) t = ((s.real j (inside_of g i near n s j t)).1, tt)

  -- it has heard of an edge, by an accept or a report, in a state that holds q; and reports if it may
  pub report_bridged : (inp : In) (o : Node) (q : Held) → o.parent ≡ n.parent → held_of near o ≡ q →
      (q.find_count ≡ 0 → q.testing ≡ None → Deed g i k inp (finding q) (send_to q.parent (Report q.best_weight))) →
      ((eqb q.find_count 0 && is_none q.testing) ≡ false → Deed g i k inp q []) →
      (t : Turn) → Reported o silent t → Bridged g i near n inp t
  report_bridged inp o q e h rep wait _ (reported a b) =
      record {
        os = send_to (toward near o.parent) m;
        deed = subst (λ v. Deed g i k inp (finding v) (send_to v.parent (Report v.best_weight))) (sym h) (rep (ap (λ v. v.find_count) (sym h) ∙ a) (ap (λ v. v.testing) (sym h) ∙ ap (toward near) b));
        below = subst (λ v. Below g.count (send_to (toward near v) m)) (sym e) (below_parent m);
        sent = subst (λ v. (b : ℕ) → out_to b (send_to (toward near v) m) ≡ over near (rules.sending_to v m silent) b) (sym e) (sent_to g i near n s inside n.parent m s.within.parent_there);
      }
    where
      m : Message
      m = Report (rules.best_weight o.best)
  report_bridged inp o q e h rep wait _ (waiting a) =
      record { os = []; deed = subst (λ v. Deed g i k inp v []) (sym h) (wait (ap (λ v. eqb v.find_count 0 && is_none v.testing) (sym h) ∙ ap (λ v. eqb o.find_count 0 && v) (none_is o.testing) ∙ a)); below = tt; sent = sent_none g i near n s inside }
    where
      none_is : (v : Option ℕ) → is_none (toward near v) ≡ not (is_some v)
      none_is None = refl
      none_is (Some j) = refl

  -- towards the best edge
  pub change_bridged : (inp : In) (j v : ℕ) → n.best ≡ best.Over j v →
      (k.best ≡ Some (at j) → k.mark (at j) ≡ Branch → Deed g i k inp k (one (at j) Change)) →
      (k.best ≡ Some (at j) → (k.mark (at j) ≡ Branch → ⊥) → Deed g i k inp (marking (at j) Branch k) (one (at j) (Connect n.level))) →
      Bridged g i near n inp (rules.changes j n)
  change_bridged inp j v e passes joins = go (is_branch (mark_of n j)) refl
    where
      l : j < length near
      l = inside_of g i near n s j (subst (λ b. There n (best_edge b)) e s.within.best_there)

      b : k.best ≡ Some (at j)
      b = ap (best_to near) e

      branch : (d : Mark) → is_branch d ≡ true → d ≡ Branch
      branch Basic z = absurd (grind arith)
      branch Branch z = refl
      branch Rejected z = absurd (grind arith)

      go : (x : Bool) → is_branch (mark_of n j) ≡ x → Bridged g i near n inp (cond x (rules.turn n (sending j Change silent)) (rules.turn (rules.branching j n) (sending j (Connect n.level) silent)))
      go true z = record { os = one (at j) Change; deed = passes b (marked g i near n s j l ∙ branch (mark_of n j) z); below = ((s.real j l).1, tt); sent = sent_one g i near n s inside j Change l }
      go false z =
          record {
            os = one (at j) (Connect n.level);
            deed = subst (λ q. Deed g i k inp q (one (at j) (Connect n.level))) (sym (held_branching g i near n s j l)) (joins b (λ u. let y : mark_of n j ≡ Branch = sym (marked g i near n s j l) ∙ u in grind arith));
            below = ((s.real j l).1, tt);
            sent = sent_one g i near n s inside j (Connect n.level) l;
          }

  -- a turn that sends one message back, or nothing
  pub back_bridged : (inp : In) (o : Node) (q : Held) (j : ℕ) (m : Message) → j < length near → held_of near o ≡ q → Deed g i k inp q (one (at j) m) → Bridged g i near n inp (rules.turn o (sending j m silent))
  back_bridged inp o q j m l h d = record { os = one (at j) m; deed = subst (λ v. Deed g i k inp v (one (at j) m)) (sym h) d; below = ((s.real j l).1, tt); sent = sent_one g i near n s inside j m l }

  is_edge_lem : (q : Option ℕ) (j : ℕ) → is_edge q j ≡ true → q ≡ Some j
  is_edge_lem None j e = absurd (grind arith)
  is_edge_lem (Some x) j e = ap Some (grind arith)

  -- it is this edge, seen from the neighbours' side
  pub yes_edge : (q : Option ℕ) (j : ℕ) → is_edge q j ≡ true → toward near q ≡ Some (at j)
  yes_edge q j e = ap (toward near) (is_edge_lem q j e)

  pub no_edge : (q : Option ℕ) (j : ℕ) → There n q → j < length near → is_edge q j ≡ false → toward near q ≡ Some (at j) → ⊥
  no_edge q j t l e u =
      let z : is_edge (toward near q) (at j) ≡ false = sym (is_place g i near n s q j t l) ∙ e in
      let y : is_edge (Some (at j)) (at j) ≡ false = subst (λ v. is_edge v (at j) ≡ false) u z in
      grind arith
